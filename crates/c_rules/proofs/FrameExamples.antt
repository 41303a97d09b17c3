-- What the objects of a function stand for, computed: those of
-- int f(int a, int b) {int c[3]; int d; int e; &b; return 0;}
use Rattle.std.specs.Prelude.{ℕ, codes, List, [], ◌∷◌}
use Rattle.std.proofs.Common.{◌≡◌, refl}
use Rattle.c_tree.specs.declared.program.VarRef.TheVariants.{Scalar, Local}
use Rattle.c_tree.specs.declared.uses.Use.TheVariants.{Address}
use Rattle.c_rules.specs.declared.meaning.ObjectType.{ObjectType}
use Rattle.c_rules.specs.declared.meaning.ObjectType.TheVariants.{Single, Array}
use Rattle.c_rules.specs.Kinds.{int}
use Rattle.c_rules.specs.Programs.{references}
use Rattle.c_rules.specs.Statements.{LocalTree}

abbrev local : List ℕ → ObjectType → LocalTree
local name object_type = record { name = name; object_type = object_type; values = [] }

abbrev objects : List LocalTree
objects = local (codes "a") (Single int) ∷ local (codes "b") (Single int) ∷ local (codes "c") (Array int 3) ∷ local (codes "d") (Single int) ∷ local (codes "e") (Single int) ∷ []

references_of_objects : references (Address (Local 1) ∷ []) objects ≡ Scalar 0 ∷ Local 0 ∷ Local 1 ∷ Scalar 1 ∷ Scalar 2 ∷ []
references_of_objects = refl
