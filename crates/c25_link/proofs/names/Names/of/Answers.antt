use Rattle.std.proofs.Common.{◌≡◌, ◌∙◌, ◌+◌, ℕ, List, map, ap, sym, arith, drop, unwrap_or}
use Rattle.std.proofs.Math.Path.{fun_ext}
use Rattle.std.proofs.lemmas.List.{drop_all}
use Rattle.c25_isa.specs.Pieces.{piece_of, items_size, piece_address}
use Rattle.c25_isa.specs.Step.{wrap16}
use Rattle.c25_link.specs.Addresses.{names_in, with_name}
use Rattle.c25_link.proofs.SizeLemmas.{pieces_words_more}
use Rattle.c25_link.proofs.Tables.{names_step}
use Rattle.c25_link.proofs.names.Names.of.Goals as goal

pub loop-piece-preserved : goal.loop-piece-preserved
loop-piece-preserved c =
    let pieces = c.args.pieces.now in
    let i = c.loop-piece.piece-index in
    let p = c.piece-item.result in
    let old = names_in c.loop-piece.addresses in
    let size : c.items_words-address.result ≡ items_size p.items.items = c.items_words-address.ensures ∙ ap items_size c.deref.ensures.value in
    let added : names_in c.note_name.new.addresses ≡ with_name p.name c.loop-piece.address old = c.in_ok-note_name.ensures ∙ ap (λ name. with_name name c.loop-piece.address old) c.as_str.ensures in
    let rest = λ (at : ℕ) (name : List ℕ). unwrap_or (names_in c.note_name.new.addresses name) (wrap16 (piece_address at (map piece_of (drop (i + 1) pieces)) name)) in (
      omega (arith, pieces_words_more pieces i p c.loop-piece-test.true c.piece-item.is, c.loop-piece.invariant.0, size),
      λ name.
          ap (λ (words : ℕ). rest (c.loop-piece.address + words) name) size
          ∙ names_step pieces i p c.loop-piece.address old _ c.loop-piece-test.true c.piece-item.is added name
          ∙ c.loop-piece.invariant.1 name,
    )

pub returns : goal.returns
returns c = fun_ext (λ name.
    ap (unwrap_or (names_in c.loop-piece.addresses name)) c.wrap16.ensures
    ∙ ap (λ pieces. unwrap_or (names_in c.loop-piece.addresses name) (wrap16 (piece_address c.loop-piece.address (map piece_of pieces) name))) (sym (drop_all c.loop-piece.piece-index c.args.pieces.now c.loop-piece-test.false))
    ∙ c.loop-piece.invariant.1 name)
