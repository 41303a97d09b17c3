use Rattle.std.proofs.Common.{◌≡◌, ◌∙◌, ◌+◌, ◌++◌, ℕ, List, map, ap, sym, arith, drop, append_assoc}
use Rattle.c25_isa.specs.declared.piece.PieceItem.{PieceItem}
use Rattle.c25_isa.specs.Pieces.{piece_of, items_size, items_code, pieces_code}
use Rattle.c25_link.specs.Linking.{mark_addresses}
use Rattle.c25_link.specs.Addresses.{mark_in, name_in}
use Rattle.c25_link.proofs.SizeLemmas.{pieces_more, pieces_words_more}
use Rattle.c25_link.proofs.code.code_of.Goals as goal

pub loop-piece-preserved : goal.loop-piece-preserved
loop-piece-preserved c =
    let pieces = c.args.pieces.now in
    let i = c.loop-piece.piece-index in
    let p = c.piece-item.result in
    let at = c.loop-piece.address in
    let names = name_in c.args.names.now in
    let old = c.loop-piece.code.items in
    let rest = λ (words : ℕ). pieces_code names (at + words) (map piece_of (drop (i + 1) pieces)) in
    let size : c.items_words-address.result ≡ items_size p.items.items = c.items_words-address.ensures ∙ ap items_size c.deref-in-loop-piece-2.ensures.value in
    let marks : mark_in c.in_ok-marks.marks ≡ mark_addresses at p.items.items = c.in_ok-marks.ensures ∙ ap (mark_addresses at) c.deref.ensures.value in
    let added : c.push_items.new.code.items ≡ old ++ items_code (mark_addresses at p.items.items) names p.items.items =
    c.in_ok-push_items.ensures
    ∙ ap (λ (f : ℕ → ℕ). old ++ items_code f names c.deref-in-loop-piece.result.now) marks
    ∙ ap (λ (items : List PieceItem). old ++ items_code (mark_addresses at p.items.items) names items) c.deref-in-loop-piece.ensures.value in (
      omega (arith, pieces_words_more pieces i p c.loop-piece-test.true c.piece-item.is, c.loop-piece.invariant.0, size),
      ap (λ x. x ++ rest c.items_words-address.result) added
          ∙ ap (λ (words : ℕ). (old ++ items_code (mark_addresses at p.items.items) names p.items.items) ++ rest words) size
          ∙ append_assoc old (items_code (mark_addresses at p.items.items) names p.items.items) (rest (items_size p.items.items))
          ∙ ap (λ ps. old ++ pieces_code names at ps) (sym (pieces_more pieces i p c.loop-piece-test.true c.piece-item.is))
          ∙ c.loop-piece.invariant.1,
    )
