use Rattle.std.proofs.Common.{◌≡◌, ◌+◌, sym, ap, ◌∙◌, subst, rules}
use Rattle.std.specs.Prelude.{◌||◌, ◌==◌}
use Rattle.std.specs.List.{list_any}
use Rattle.c25_isa.specs.Walk.{ends_stretch}
use Rattle.c25_walk.proofs.Cuts.{ends_there, goes_on, cut_by_value, cut_by_last}
use Rattle.c25_walk.proofs.targets.Targets.is_cut_behind.Goals as goal
use Rattle.c25_walk.proofs.targets.Targets.is_cut_behind.Goals.{then-ends_stretch, else-ends_stretch}

pub returns-then-contains : goal.returns-then-contains
returns-then-contains c = λ targets marked.
    let p = c.args.placed.now in
    let next = list_any (λ to. to == p.at + 1) targets in
    let ends : c.ends_stretch.result ≡ ends_stretch p.instr = c.ends_stretch.ensures ∙ ap ends_stretch c.instr.ensures.instr in
    let value : c.if-ends_stretch.value ≡ (ends_stretch p.instr || next) = elim c.if-ends_stretch.branch [
      | then-ends_stretch w ↦ ends_there c.if-ends_stretch.value (ends_stretch p.instr) next (w.value-is ∙ w.if-ends_stretch.true) (sym ends ∙ w.if-ends_stretch.true)
      | else-ends_stretch w ↦ goes_on c.if-ends_stretch.value (ends_stretch p.instr) next (sym ends ∙ w.if-ends_stretch.false) (w.value-is ∙ subst (λ a. w.contains.result ≡ list_any (λ to. to == a + 1) targets) (search rules) (w.contains.ensures targets marked))
    ] in
    cut_by_value targets p c.if-ends_stretch.value c.instr.ensures.placed value c.if-contains.true

pub returns-else-contains : goal.returns-else-contains
returns-else-contains c = λ targets marked.
    let p = c.args.placed.now in
    let next = list_any (λ to. to == p.at + 1) targets in
    let ends : c.ends_stretch.result ≡ ends_stretch p.instr = c.ends_stretch.ensures ∙ ap ends_stretch c.instr.ensures.instr in
    let value : c.if-ends_stretch.value ≡ (ends_stretch p.instr || next) = elim c.if-ends_stretch.branch [
      | then-ends_stretch w ↦ ends_there c.if-ends_stretch.value (ends_stretch p.instr) next (w.value-is ∙ w.if-ends_stretch.true) (sym ends ∙ w.if-ends_stretch.true)
      | else-ends_stretch w ↦ goes_on c.if-ends_stretch.value (ends_stretch p.instr) next (sym ends ∙ w.if-ends_stretch.false) (w.value-is ∙ subst (λ a. w.contains.result ≡ list_any (λ to. to == a + 1) targets) (search rules) (w.contains.ensures targets marked))
    ] in
    let last : c.contains-else-contains.result ≡ list_any (λ to. to == p.behind) targets = subst (λ a. c.contains-else-contains.result ≡ list_any (λ to. to == a) targets) c.behind.ensures (c.contains-else-contains.ensures targets marked) in
    last ∙ cut_by_last targets p c.if-ends_stretch.value c.instr.ensures.placed value c.if-contains.false
