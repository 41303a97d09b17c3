-- Functions whose objects stand where a source has them, and functions that each break one rule of that. Above each stands its
-- C source, where it has one.
use Rattle.std.specs.Prelude.{◌≡◌, ◌<◌, ℕ, zero, suc, List, [], ◌∷◌, Option, Some, None, slice_get}
use Rattle.std.proofs.Common.{refl, ap, arith}
use Rattle.std.proofs.lemmas.List.Elements.{All-nil}
use Rattle.c_tree.specs.declared.program.VarRef.{VarRef}
use Rattle.c_tree.specs.declared.program.VarRef.TheVariants.{Local}
use Rattle.c_tree.specs.TypedTree.{Stmts, Block, Fill, done, both, ObjectTree, FunctionTree}
use Rattle.c_tree.specs.Declarations.{occurrences, DeclaredInOrder}
use Rattle.c_tree.specs.Fills.{FilledAsListed, HasNoList, fills_of}
use Rattle.c_tree.specs.Placed.{FunctionIsPlaced}
use Rattle.c_tree.proofs.Examples.Types.{int, words, object, function}

-- a function of no name by its parameters, local objects, declared names and statements
abbrev holding : List VarRef → List ObjectTree → List VarRef → Stmts → FunctionTree
holding params locals declared ss = function [] None params [] locals (Block declared ss)

-- an array of two cells with a list of one word: {int m[2] = {5};}
abbrev listed : ObjectTree
listed = object 2 int (words (5 ∷ []))

abbrev fills_listed : FunctionTree
fills_listed = holding [] (listed ∷ []) (Local 0 ∷ []) (both (Fill 0) done)

-- how often what is found should be filled
abbrev fills_at : Option ObjectTree → ℕ
fills_at None = 0
fills_at (Some o) = fills_of o.initial

filled_as_listed : (n : ℕ) (o : ObjectTree) → slice_get fills_listed.locals n ≡ Some o → occurrences n (0 ∷ []) ≡ fills_of o.initial
filled_as_listed zero o is = ap fills_at is
filled_as_listed (suc n) o is = absurd (cc is)

declared_once : (n : ℕ) → n < 1 → occurrences n (0 ∷ []) ≡ 1
declared_once zero less = refl
declared_once (suc n) less = absurd (omega (arith, less))

is_placed : FunctionIsPlaced fills_listed
is_placed = record {
  declared = record {
    scalars = λ n less. absurd (omega (arith, less));
    locals = declared_once;
  };
  ordered = record { scalars = refl; locals = refl };
  used = (refl, tt {0});
  filled = filled_as_listed;
  own = (refl, tt {0});
  first = (tt {0}, tt {0}, tt {0});
  parameters = All-nil (HasNoList fills_listed);
}

-- an array with a list that is never filled, and one without a list that is: {int m[2] = {5};} and {int m[2];}
abbrev unfilled : FunctionTree
unfilled = holding [] (listed ∷ []) (Local 0 ∷ []) done

never_filled : ¬ FilledAsListed unfilled
never_filled = λ as_listed. cc (as_listed 0 listed refl)

abbrev bare : ObjectTree
bare = object 2 int []

abbrev fills_bare : FunctionTree
fills_bare = holding [] (bare ∷ []) (Local 0 ∷ []) (both (Fill 0) done)

filled_bare : ¬ FilledAsListed fills_bare
filled_bare = λ as_listed. cc (as_listed 0 bare refl)

-- objects that are declared in another order than that of their numbers: {int b; int a[2];} where the array has number 0, and b 1
abbrev turned : FunctionTree
turned = holding [] (bare ∷ bare ∷ []) (Local 1 ∷ Local 0 ∷ []) done

out_of_order : ¬ DeclaredInOrder turned
out_of_order = λ in_order. cc in_order.locals

-- a parameter with a list, in memory, as its address is taken
abbrev listed_parameter : FunctionTree
listed_parameter = holding (Local 0 ∷ []) (listed ∷ []) [] done

parameter_listed : ¬ HasNoList listed_parameter (Local 0)
parameter_listed = λ bare. cc (bare listed refl)
