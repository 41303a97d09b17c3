-- The pure files that the checker's stand for, and the programs that are made of them.
use Rattle.std.specs.Prelude.{List, map, Vec}
use Rattle.std.specs.Global.{Global}
use Rattle.c_tree.specs.declared.program.VarRef.{VarRef}
use Rattle.c_tree.specs.TypedTree.{ProgramTree, Stmt}
use Rattle.c_types.specs.declared.units.File as files
use Rattle.c_types.specs.declared.units.Contents.{Contents}
use Rattle.c_types.specs.declared.units.TypedBody as bodies
use Rattle.c_tree.specs.View.{stmt_of}
use Rattle.c_rules.specs.LocalView.{local_tree_of}
use Rattle.c_rules.specs.Statements.{Typed}
use Rattle.c_limits.specs.FunctionView.{frame_lists, typed_function_of}
use Rattle.c_scopes.specs.Tables.{scope_of}
use Rattle.c_rules.specs.Programs.{object_tree, functions_with}
use Rattle.c_rules.specs.Units.{File}
use Rattle.c_scopes.specs.c_names.Statics.{static_tree_of}

abbrev pub file_of : files.File → File
file_of f = record {
  scope = scope_of f.scopes;
  statics = map static_tree_of f.statics.items;
  functions = map typed_function_of f.functions.items;
}

-- a body, with the objects of its function
abbrev pub typed_body_of : bodies.TypedBody → Typed Stmt
typed_body_of b = record { tree = stmt_of b.tree.value; locals = map local_tree_of b.locals.items }

-- the program of a file whose functions' objects stand for these
abbrev pub made_of : List (Vec VarRef Global) → Contents → ProgramTree
made_of frames contents = record {
  statics = map object_tree (map static_tree_of contents.statics.items);
  functions = functions_with (frame_lists frames) (map typed_function_of contents.functions.items);
}
