-- Functions whose objects stand where the source has them (docs/LANGUAGE.md, "Objects").
use Rattle.std.specs.Prelude.{All}
use Rattle.c_tree.specs.TypedTree.{FunctionTree}
use Rattle.c_tree.specs.Declarations.{DeclaredOnce, DeclaredInOrder}
use Rattle.c_tree.specs.Scopes.{UsedWhereDeclared}
use Rattle.c_tree.specs.Fills.{FilledAsListed, FilledWhereDeclared, FilledBeforeUse, HasNoList}

pub record FunctionIsPlaced (f : FunctionTree) : Type 0 where
  -- each object is declared in one place, in order of the numbers, and used in the block that declares it, or a parameter in the whole body
  pub declared : DeclaredOnce f
  pub ordered : DeclaredInOrder f
  pub used : UsedWhereDeclared f
  -- an object with a list is filled in one place, and no other object is; that is in the block that declares it, before anything else there names it
  pub filled : FilledAsListed f
  pub own : FilledWhereDeclared f
  pub first : FilledBeforeUse f
  -- no parameter has a list
  pub parameters : All (HasNoList f) f.params
