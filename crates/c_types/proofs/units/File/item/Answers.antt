use Rattle.std.proofs.Common.{◌∙◌, map, ap}
use Rattle.c_syntax.specs.SyntaxView.{item_of}
use Rattle.c_rules.specs.declared.meaning.Declared.TheVariants as declares
use Rattle.c_rules.specs.Outcome.{Is}
use Rattle.c_limits.specs.FunctionView.{typed_function_of}
use Rattle.c_scopes.proofs.ScopesKept.{innermost}
use Rattle.c_types.specs.View.{file_of}
use Rattle.c_scopes.specs.c_names.Statics.{static_tree_of}
use Rattle.c_types.proofs.UnitLemmas.{item_follows}
use Rattle.c_types.proofs.units.File.item.Goals as goal

pub returns-in-Object : goal.returns-in-Object
returns-in-Object c =
    let self = c.args.self.now in
    item_follows (file_of self) (file_of (record { scopes = c.declarator.new.scopes; statics = self.statics; functions = self.functions })) (file_of c.object.new.self) c.args.base (item_of c.args.item.now)
    (declares.Object c.in-Object.object_type) c.object.result
    (c.in_ok-declarator.ensures.follows ∙ ap Is c.in-Object.is)
    (ap (λ s. record { scope = s; statics = map static_tree_of self.statics.items; functions = map typed_function_of self.functions.items }) (ap innermost c.in_ok-declarator.ensures.kept))
    c.object.ensures

pub returns-in-Function : goal.returns-in-Function
returns-in-Function c =
    let self = c.args.self.now in
    item_follows (file_of self) (file_of (record { scopes = c.declarator.new.scopes; statics = self.statics; functions = self.functions })) (file_of c.prototyped.new.self) c.args.base (item_of c.args.item.now)
    (declares.Function c.in-Function.function) c.prototyped.result
    (c.in_ok-declarator.ensures.follows ∙ ap Is c.in-Function.is)
    (ap (λ s. record { scope = s; statics = map static_tree_of self.statics.items; functions = map typed_function_of self.functions.items }) (ap innermost c.in_ok-declarator.ensures.kept))
    c.prototyped.ensures
