-- Where the objects of a function are declared: each in one place, by a parameter or a block (docs/LANGUAGE.md, "Objects").
use Rattle.std.specs.Prelude.{◌≡◌, ◌<◌, ◌+◌, ◌==◌, if◌then◌else◌, ℕ, List, [], ◌∷◌, ◌++◌, length}
use Rattle.std.specs.List.{range_with_len}
use Rattle.c_tree.specs.declared.program.VarRef.{VarRef}
use Rattle.c_tree.specs.declared.program.VarRef.TheVariants.{Scalar, Local, Static}
use Rattle.c_tree.specs.TypedTree as tree
use Rattle.c_tree.specs.TypedTree.{Stmt, Stmts, Choices, FunctionTree}

abbrev mutual
  -- the objects that the blocks of a statement declare, in order
  pub declared_in : Stmt → List VarRef
  declared_in (tree.Block declared ss) = declared ++ declared_among ss
  declared_in (tree.Fill n) = []
  declared_in (tree.Do_expr e) = []
  declared_in (tree.If e a b) = declared_in a ++ declared_in b
  declared_in (tree.While e a) = declared_in a
  declared_in (tree.Do_while a e) = declared_in a
  declared_in (tree.For x y z a) = declared_in a
  declared_in (tree.Switch e cs) = declared_by_choices cs
  declared_in tree.Break = []
  declared_in tree.Continue = []
  declared_in (tree.Return e) = []

  pub declared_among : Stmts → List VarRef
  declared_among tree.done = []
  declared_among (tree.both s rest) = declared_in s ++ declared_among rest

  pub declared_by_choices : Choices → List VarRef
  declared_by_choices tree.no_more = []
  declared_by_choices (tree.case w rest) = declared_by_choices rest
  declared_by_choices (tree.default rest) = declared_by_choices rest
  declared_by_choices (tree.body s rest) = declared_in s ++ declared_by_choices rest

-- all that a function declares: its parameters, and the objects of its blocks
abbrev pub declared_in_function : FunctionTree → List VarRef
declared_in_function f = f.params ++ declared_in f.body

-- the numbers of the frame scalars among names, and those of the objects in memory
abbrev pub scalar_numbers : List VarRef → List ℕ
scalar_numbers [] = []
scalar_numbers (Scalar n ∷ vs) = n ∷ scalar_numbers vs
scalar_numbers (Local n ∷ vs) = scalar_numbers vs
scalar_numbers (Static n ∷ vs) = scalar_numbers vs

abbrev pub local_numbers : List VarRef → List ℕ
local_numbers [] = []
local_numbers (Scalar n ∷ vs) = local_numbers vs
local_numbers (Local n ∷ vs) = n ∷ local_numbers vs
local_numbers (Static n ∷ vs) = local_numbers vs

-- how often a number stands in a list
abbrev pub occurrences : ℕ → List ℕ → ℕ
occurrences n [] = 0
occurrences n (m ∷ ms) = (if m == n then 1 else 0) + occurrences n ms

-- each object of a function is declared in one place
pub record DeclaredOnce (f : FunctionTree) : Type 0 where
  pub scalars : (n : ℕ) → n < length f.scalars → occurrences n (scalar_numbers (declared_in_function f)) ≡ 1
  pub locals : (n : ℕ) → n < length f.locals → occurrences n (local_numbers (declared_in_function f)) ≡ 1

-- the objects of each kind are declared in order of their numbers, and no others are
pub record DeclaredInOrder (f : FunctionTree) : Type 0 where
  pub scalars : scalar_numbers (declared_in_function f) ≡ range_with_len 0 (length f.scalars)
  pub locals : local_numbers (declared_in_function f) ≡ range_with_len 0 (length f.locals)
