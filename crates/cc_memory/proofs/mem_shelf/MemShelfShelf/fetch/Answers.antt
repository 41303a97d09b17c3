use Rattle.std.proofs.Common.{Some, sym, ap, ◌∙◌, arith}
use Rattle.cc_shelf.specs.Counts.{Counts}
use Rattle.cc_memory.specs.Held.{held}
use Rattle.cc_memory.proofs.HeldLemmas.{found}
use Rattle.cc_memory.proofs.mem_shelf.MemShelfShelf.fetch.Goals as goal

pub returns-then-len-max-clause-refused : goal.returns-then-len-max-clause-refused
returns-then-len-max-clause-refused c =
    let told = found _ _ _ _ c.index.result.now c.deref.ensures.value c.in-Some.ensures c.index.ensures in
    (c.if-len-max.true, (λ _. (c.index.result.now.bytes.items, ap (λ v. held v.items c.args.name.now) (sym c.count_call-is_to_fail.ensures.files) ∙ told, omega (arith, c.index.result.now.bytes.ok.0))), λ e. cc, ap (λ (k : Counts). k.fetch_faults) c.count_call-is_to_fail.ensures.counts)

pub returns-clause-told : goal.returns-clause-told
returns-clause-told c =
    ap (λ v. held v.items c.args.name.now) (sym c.count_call-is_to_fail.ensures.files)
    ∙ found _ _ _ _ c.index.result.now c.deref.ensures.value c.in-Some.ensures c.index.ensures
    ∙ ap Some (sym (c.deref-2.ensures.value) ∙ sym (c.in_ok-copy.ensures.items_if_clones_equal (λ x y e. e)))
