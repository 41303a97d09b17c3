use Rattle.std.proofs.Common.{◌∙◌, map, rules}
use Rattle.c_syntax.specs.SyntaxView.{declaration_of}
use Rattle.c_rules.specs.Answers.{Refuses}
use Rattle.c_rules.specs.Statements.{declarations}
use Rattle.c_types.specs.BodyView.{opened_of}
use Rattle.c_types.proofs.BlockLemmas.{declaration_typed, declaration_refused, specs_refused, declarations_ended}
use Rattle.c_types.proofs.blocks.Body.declarations.Goals as goal

pub loop-declaration-preserved : goal.loop-declaration-preserved
loop-declaration-preserved c = record {
  typed = declaration_typed (opened_of c.loop-declaration.self c.loop-declaration.opening) (declarations (opened_of c.args.self.now c.args.opening.now) (map declaration_of c.args.list.now))
      c.args.list.now c.loop-declaration.declaration-index c.declaration-item.result c.declaration-item.is c.loop-declaration-test.true c.loop-declaration.invariant.typed
      c.in_ok-base.base c.as_slice.result.now c.in_ok-base.ensures c.as_slice.ensures (opened_of c.items.new.self c.items.new.opening) c.in_ok-items.ensures.follows;
  kept = c.in_ok-items.ensures.kept ∙ c.loop-declaration.invariant.kept;
}

pub returns-clause-follows : goal.returns-clause-follows
returns-clause-follows c =
    c.loop-declaration.invariant.typed ∙ declarations_ended (opened_of c.loop-declaration.self c.loop-declaration.opening) c.args.list.now c.loop-declaration.declaration-index c.loop-declaration-test.false

pub returns-in_err-base-clause-follows : goal.returns-in_err-base-clause-follows
returns-in_err-base-clause-follows c =
    let whole = declarations (opened_of c.args.self.now c.args.opening.now) (map declaration_of c.args.list.now) in
    let h : Refuses whole c.in_err-base.field-0.0 =
    specs_refused (opened_of c.loop-declaration.self c.loop-declaration.opening) whole c.args.list.now c.loop-declaration.declaration-index c.declaration-item.result c.declaration-item.is c.loop-declaration-test.true c.loop-declaration.invariant.typed
    c.in_err-base.field-0.0 c.in_err-base.ensures in
    search (rules, h)

pub returns-in_err-items-clause-follows : goal.returns-in_err-items-clause-follows
returns-in_err-items-clause-follows c =
    let whole = declarations (opened_of c.args.self.now c.args.opening.now) (map declaration_of c.args.list.now) in
    let h : Refuses whole c.in_err-items.field-0.0 =
    declaration_refused (opened_of c.loop-declaration.self c.loop-declaration.opening) whole c.args.list.now c.loop-declaration.declaration-index c.declaration-item.result c.declaration-item.is c.loop-declaration-test.true c.loop-declaration.invariant.typed
    c.in_ok-base.base c.as_slice.result.now c.in_ok-base.ensures c.as_slice.ensures c.in_err-items.field-0.0 c.in_err-items.ensures.follows in
    search (rules, h)
