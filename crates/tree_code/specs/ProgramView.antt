-- The word tree that a program of them in memory stands for.
use Rattle.std.specs.Prelude.{map}
use Rattle.c_tree.specs.View.{object_of}
use Rattle.tree_code.specs.declared.program.TreeProgram.{TreeProgram}
use Rattle.tree_code.specs.WordTree.{ProgramCode}
use Rattle.tree_code.specs.WordView.{function_code_of}

abbrev pub tree_of : TreeProgram → ProgramCode
tree_of t = record { statics = map object_of t.statics; functions = map function_code_of t.functions }
