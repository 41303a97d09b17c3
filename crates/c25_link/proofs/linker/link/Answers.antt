use Rattle.std.proofs.Common.{◌≡◌, ◌∙◌, ◌≤◌, map, ap, sym, subst, arith}
use Rattle.std.specs.Prelude.{All}
use Rattle.std.proofs.lemmas.List.Elements.{All-from_recursion}
use Rattle.c25_isa.specs.Image.{Contents, IsImage}
use Rattle.c25_isa.specs.Pieces.{piece_of, pieces_code, piece_address, listed_ranges}
use Rattle.c25_isa.specs.Table.{IsInstr, code_words}
use Rattle.c25_isa.proofs.InOrder.{in_order_linked}
use Rattle.c25_isa.proofs.PieceLemmas.{pieces_fit, wraps_low}
use Rattle.c25_link.specs.Linking.{pieces_words, name_addresses}
use Rattle.c25_link.proofs.Images.{image_is, listed_have_words, all_fit, each_linkable}
use Rattle.c25_link.proofs.linker.link.Goals as goal

pub words_of-requires : goal.words_of-requires
words_of-requires c =
    let pieces = map piece_of c.args.pieces.now in
    let code : c.deref.result.now ≡ pieces_code (name_addresses pieces) 0 pieces = c.deref.ensures.value ∙ c.in_ok-code.ensures ∙ ap (λ names. pieces_code names 0 pieces) c.in_ok-names.ensures in
    subst (All IsInstr) (sym code) (All-from_recursion IsInstr _ (pieces_fit (name_addresses pieces) pieces 0 (λ name. wraps_low (piece_address 0 pieces name)) (all_fit c.args.pieces.now)))

pub new-requires : goal.new-requires
new-requires c =
    let pieces = map piece_of c.args.pieces.now in
    let code : c.deref.result.now ≡ pieces_code (name_addresses pieces) 0 pieces = c.deref.ensures.value ∙ c.in_ok-code.ensures ∙ ap (λ names. pieces_code names 0 pieces) c.in_ok-names.ensures in
    let words : c.in_ok-words.words.items ≡ code_words (pieces_code (name_addresses pieces) 0 pieces) = c.in_ok-words.ensures ∙ ap code_words code in
    let short : pieces_words pieces ≤ 65536 = omega arith in
    subst (λ functions. IsImage c.in_ok-words.words.items functions) (sym c.in_ok-functions.ensures)
    (subst (λ words. IsImage words (listed_ranges 0 pieces)) (sym words) (image_is (name_addresses pieces) c.args.pieces.now (each_linkable c.args.pieces.now c.requires.linkable.listed) short))

pub returns-clause-linked : goal.returns-clause-linked
returns-clause-linked c =
    let pieces = map piece_of c.args.pieces.now in
    let code : c.deref.result.now ≡ pieces_code (name_addresses pieces) 0 pieces = c.deref.ensures.value ∙ c.in_ok-code.ensures ∙ ap (λ names. pieces_code names 0 pieces) c.in_ok-names.ensures in
    let words : c.in_ok-words.words.items ≡ code_words (pieces_code (name_addresses pieces) 0 pieces) = c.in_ok-words.ensures ∙ ap code_words code in
    in_order_linked pieces c.new.result (ap (λ (image : Contents). image.words) c.new.ensures ∙ words) (ap (λ (image : Contents). image.functions) c.new.ensures ∙ c.in_ok-functions.ensures)
    (listed_have_words c.args.pieces.now (each_linkable c.args.pieces.now c.requires.linkable.listed))

pub functions_of-requires-clause-listed : goal.functions_of-requires-clause-listed
functions_of-requires-clause-listed c = each_linkable c.args.pieces.now c.requires.linkable.listed
