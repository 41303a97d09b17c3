use Rattle.std.proofs.Common.{arith, ◌≡◌, ◌∙◌, sym, ap, inr, refl, ◌+◌, is_some}
use Rattle.std.specs.Prelude.{IsTrue, if◌then◌else◌}
use Rattle.indexmap.specs.IndexMap.{index_map_len}
use Rattle.c_macro.proofs.TableLemmas.{defined_new, defined_again, redefined, one_too_many}
use Rattle.c_macro.proofs.macros.Macros.define.Goals as goal
use Rattle.c_macro.proofs.macros.Macros.define.Goals.{then-are_same, else-are_same}

pub returns-in-Some-clause-defined : goal.returns-in-Some-clause-defined
returns-in-Some-clause-defined c =
    elim c.if-are_same.branch [
      | then-are_same w ↦ rw w.result-is (λ sections.
          defined_again c.args.self.now.bodies c.args.at c.args.name.now c.args.body.items sections c.in-Some.old.now
          (sym c.in-Some.ensures.value) (sym c.deref.ensures.value ∙ c.are_same.ensures.0 w.if-are_same.true ∙ c.deref-in-Some.ensures.value))
      | else-are_same w ↦ rw w.result-is (tt {0})
    ]

pub returns-in-Some-clause-fault : goal.returns-in-Some-clause-fault
returns-in-Some-clause-fault c =
    elim c.if-are_same.branch [
      | then-are_same w ↦ rw w.result-is (tt {0})
      | else-are_same w ↦ rw w.result-is (inr (λ sections.
          redefined c.args.self.now.bodies c.args.at c.args.name.now c.args.body.items sections c.in-Some.old.now
          (sym c.in-Some.ensures.value)
          (λ is. let same : IsTrue c.are_same.result = c.are_same.ensures.1 (c.deref.ensures.value ∙ is ∙ sym c.deref-in-Some.ensures.value) in
          let not_same = w.if-are_same.false in absurd cc)))
    ]

pub returns-then-len-ge-MOST_MACROS-clause-fault :
    goal.returns-then-len-ge-MOST_MACROS-clause-fault
returns-then-len-ge-MOST_MACROS-clause-fault c = inr (λ sections.
    one_too_many c.args.self.now.bodies c.args.at c.args.name.now c.args.body.items sections
    (sym c.in_default.ensures.value) (omega arith))

pub returns-clause-defined : goal.returns-clause-defined
returns-clause-defined c = λ sections.
    let none = sym c.in_default.ensures.value in
    let was_none = c.in_ok-insert.ensures.old ∙ none in
    let len : index_map_len c.insert.new.self ≡ index_map_len c.args.self.now.bodies + 1 =
    c.in_ok-insert.ensures.len ∙ ap (λ o. index_map_len c.args.self.now.bodies + (if is_some o then 0 else 1)) was_none in
    defined_new c.args.self.now.bodies c.args.at c.args.name.now c.args.body.items sections c.insert.new.self c.args.body
    refl none (omega arith) c.in_ok-insert.ensures.updates len
