use Rattle.std.proofs.Common.{sym, ◌∙◌}
use Rattle.c_names.proofs.ScopeLemmas.{behind, passed_last, found_last}
use Rattle.c_names.proofs.scopes.Scopes.find.Goals as goal

pub returns-in-Some-get : goal.returns-in-Some-get
returns-in-Some-get c = sym
    (behind _ _ (sym c.in_default.ensures.value)
    ∙ c.loop-table.invariant
    ∙ found_last _ _ _ c.args.name.now c.in-Some-table.ensures.steps c.in-Some-get.meaning.now (sym c.in-Some-get.ensures.value))

pub loop-table-preserved : goal.loop-table-preserved
loop-table-preserved c =
    c.loop-table.invariant ∙ passed_last _ _ _ c.args.name.now c.in-Some-table.ensures.steps (sym c.in_default-get.ensures.value)
