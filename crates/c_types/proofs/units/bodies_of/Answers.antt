use Rattle.std.proofs.Common.{◌+◌, ◌∙◌, ap, sym, drop}
use Rattle.c_syntax.specs.SyntaxView.{unit_of}
use Rattle.c_scopes.specs.Tables.{key_names}
use Rattle.c_rules.specs.Units.{bodies_behind}
use Rattle.c_types.proofs.UnitLemmas.{function_passed, declaration_passed}
use Rattle.c_types.proofs.units.bodies_of.Goals.{in-Function+in_ok-insert, in_default}
use Rattle.c_types.proofs.units.bodies_of.Goals as goal

pub loop-external-preserved : goal.loop-external-preserved
loop-external-preserved c =
    let list = c.args.externals.now in
    let i = c.loop-external.external-index in
    let x = c.external-item.result in
    let rest = unit_of (drop (i + 1) list) in
    elim c.match-external.branch [
      | in-Function+in_ok-insert w ↦
          c.loop-external.invariant
          ∙ function_passed list i x c.external-item.is c.loop-external-test.true w.in-Function.f w.as_str.result c.loop-external.bodies.keys w.insert.new.self.keys w.in-Function.is w.as_str.ensures w.in_ok-insert.ensures.keys
          ∙ ap (λ b. bodies_behind (key_names b.keys) rest) (sym w.bodies-is)
      | in_default w ↦
          c.loop-external.invariant
          ∙ declaration_passed list i x c.external-item.is c.loop-external-test.true w.in_default.field-0 (key_names c.loop-external.bodies.keys) w.in_default.is
          ∙ ap (λ b. bodies_behind (key_names b.keys) rest) (sym w.bodies-is)
    ]
