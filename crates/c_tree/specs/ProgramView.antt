-- The tree that a typed program in memory stands for.
use Rattle.std.specs.Prelude.{map}
use Rattle.c_tree.specs.declared.program.Program.{Program}
use Rattle.c_tree.specs.TypedTree.{ProgramTree}
use Rattle.c_tree.specs.View.{object_of, function_of}

abbrev pub program_of : Program → ProgramTree
program_of p = record { statics = map object_of p.statics; functions = map function_of p.functions }
