-- What is kept of the objects of a function: the types of its frame scalars, and its other objects.
use Rattle.std.specs.Prelude.{List, ◌++◌, map}
use Rattle.c_tree.specs.declared.program.ScalarType.{ScalarType}
use Rattle.c_tree.specs.declared.program.VarRef.{VarRef}
use Rattle.c_tree.specs.TypedTree.{ObjectTree}
use Rattle.c_tree.specs.View.{object_of}
use Rattle.c_limits.specs.declared.functions.Storage.{Storage}
use Rattle.c_rules.specs.Statements.{LocalTree}
use Rattle.c_rules.specs.Programs.{scalars_in, objects_in}

-- the scalars that are known, with those to come
abbrev pub with_scalars : Storage → List VarRef → List LocalTree → List ScalarType
with_scalars storage rs ls = storage.scalars.items ++ scalars_in rs ls

abbrev pub with_objects : Storage → List VarRef → List LocalTree → List ObjectTree
with_objects storage rs ls = map object_of storage.objects.items ++ objects_in rs ls
