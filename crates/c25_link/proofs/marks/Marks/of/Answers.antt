use Rattle.std.proofs.Common.{◌∙◌, ◌+◌, ℕ, ap, sym, arith, drop, unwrap_or}
use Rattle.std.proofs.Math.Path.{fun_ext}
use Rattle.std.proofs.lemmas.List.{drop_all}
use Rattle.c25_isa.specs.Pieces.{mark_address}
use Rattle.c25_isa.specs.Step.{wrap16}
use Rattle.c25_link.specs.Addresses.{marks_in}
use Rattle.c25_link.proofs.SizeLemmas.{items_size_more}
use Rattle.c25_link.proofs.Tables.{marks_step}
use Rattle.c25_link.proofs.marks.Marks.of.Goals as goal

pub loop-item-preserved : goal.loop-item-preserved
loop-item-preserved c =
    let items = c.args.items.now in
    let i = c.loop-item.item-index in
    let rest = λ (at : ℕ) (mark : ℕ). unwrap_or (marks_in c.note_mark.new.addresses mark) (wrap16 (mark_address at (drop (i + 1) items) mark)) in (
      omega (arith, items_size_more items i c.item-item.result c.loop-item-test.true c.item-item.is, c.loop-item.invariant.0, c.item_words-address.ensures),
      λ mark.
          ap (λ (size : ℕ). rest (c.loop-item.address + size) mark) c.item_words-address.ensures
          ∙ marks_step items i c.item-item.result c.loop-item.address (marks_in c.loop-item.addresses) _ c.loop-item-test.true c.item-item.is c.in_ok-note_mark.ensures mark
          ∙ c.loop-item.invariant.1 mark,
    )

pub returns : goal.returns
returns c = fun_ext (λ mark.
    ap (unwrap_or (marks_in c.loop-item.addresses mark)) c.wrap16.ensures
    ∙ ap (λ items. unwrap_or (marks_in c.loop-item.addresses mark) (wrap16 (mark_address c.loop-item.address items mark))) (sym (drop_all c.loop-item.item-index c.args.items.now c.loop-item-test.false))
    ∙ c.loop-item.invariant.1 mark)
