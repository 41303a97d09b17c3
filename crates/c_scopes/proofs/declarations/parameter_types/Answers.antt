use Rattle.std.proofs.Common.{◌+◌, ◌∙◌, map, drop, rules}
use Rattle.c_syntax.specs.SyntaxView.{parameter_of}
use Rattle.c_rules.specs.Answers.{Refuses}
use Rattle.c_rules.specs.Declarations.{parameters}
use Rattle.c_names.specs.Tables.{scope_of}
use Rattle.c_scopes.proofs.ParameterLemmas.{parameter_typed, parameter_refused}
use Rattle.c_rules.proofs.Turns.{first_left}
use Rattle.c_scopes.proofs.declarations.parameter_types.Goals as goal

pub returns-in_err-kind-clause-follows : goal.returns-in_err-kind-clause-follows
returns-in_err-kind-clause-follows c =
    let i = c.loop-parameter.parameter-index in
    let list = c.args.list.now in
    let whole = parameters (scope_of c.args.scopes.now) c.args.naming (map parameter_of list) in
    let split = first_left list i c.parameter-item.result c.parameter-item.is c.loop-parameter-test.true in
    let h : Refuses whole c.in_err-kind.field-0.0 =
    parameter_refused whole (scope_of c.loop-parameter.scopes) c.args.naming c.parameter-item.result (drop i list) (drop (i + 1) list) c.loop-parameter.kinds.items c.loop-parameter.invariant.typed split c.in_err-kind.field-0.0 c.in_err-kind.ensures in
    search rules

pub loop-parameter-preserved : goal.loop-parameter-preserved
loop-parameter-preserved c =
    let i = c.loop-parameter.parameter-index in
    let list = c.args.list.now in
    let whole = parameters (scope_of c.args.scopes.now) c.args.naming (map parameter_of list) in
    let split = first_left list i c.parameter-item.result c.parameter-item.is c.loop-parameter-test.true in
    record {
      typed = parameter_typed whole (scope_of c.loop-parameter.scopes) c.args.naming c.parameter-item.result (drop i list) (drop (i + 1) list) c.loop-parameter.kinds.items c.loop-parameter.invariant.typed split c.in_ok-kind.kind (scope_of c.declare_single.new.scopes) c.push.new.self.items c.in_ok-kind.ensures c.in_ok-declare_single.ensures.declared c.in_ok-push.ensures.items;
      around = c.declare_single.ensures.around ∙ c.loop-parameter.invariant.around;
    }
