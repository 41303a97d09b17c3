-- The pure functions that typed ones stand for.
use Rattle.std.specs.Prelude.{List, Vec, map}
use Rattle.std.specs.Global.{Global}
use Rattle.c_tree.specs.declared.program.VarRef.{VarRef}
use Rattle.c_tree.specs.View.{stmt_of}
use Rattle.c_limits.specs.declared.functions.TypedFunction as functions
use Rattle.c_rules.specs.Units.{TypedFunction}
use Rattle.c_rules.specs.LocalView.{local_tree_of}

abbrev pub typed_function_of : functions.TypedFunction → TypedFunction
typed_function_of f = record {
  name = f.name;
  result = f.result;
  parameters = f.parameters;
  locals = map local_tree_of f.locals.items;
  body = stmt_of f.body.value;
}

-- what the objects of each function stand for
abbrev pub frame_lists : List (Vec VarRef Global) → List (List VarRef)
frame_lists frames = map (λ v. v.items) frames
