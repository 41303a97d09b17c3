-- Which objects of a function are filled with their lists, and where (docs/LANGUAGE.md, "Objects").
use Rattle.std.specs.Prelude.{◌≡◌, ◌≢◌, ◌≤◌, ⊤, ℕ, true, false, List, [], ◌∷◌, ◌++◌, All, slice_get, Some}
use Rattle.c_tree.specs.declared.program.Initial.{Initial}
use Rattle.c_tree.specs.declared.program.VarRef.{VarRef}
use Rattle.c_tree.specs.declared.program.VarRef.TheVariants.{Scalar, Local, Static}
use Rattle.c_tree.specs.TypedTree as tree
use Rattle.c_tree.specs.TypedTree.{Stmt, Stmts, Choices, ObjectTree, FunctionTree}
use Rattle.c_tree.specs.WellFormed.{is_among}
use Rattle.c_tree.specs.Declarations.{occurrences}
use Rattle.c_tree.specs.NamesUsed.{statement_names}

abbrev mutual
  -- the numbers of the objects that a statement fills, in order
  pub filled_in : Stmt → List ℕ
  filled_in (tree.Block declared ss) = filled_among ss
  filled_in (tree.Fill n) = n ∷ []
  filled_in (tree.Do_expr e) = []
  filled_in (tree.If e a b) = filled_in a ++ filled_in b
  filled_in (tree.While e a) = filled_in a
  filled_in (tree.Do_while a e) = filled_in a
  filled_in (tree.For x y z a) = filled_in a
  filled_in (tree.Switch e cs) = filled_by_choices cs
  filled_in tree.Break = []
  filled_in tree.Continue = []
  filled_in (tree.Return e) = []

  pub filled_among : Stmts → List ℕ
  filled_among tree.done = []
  filled_among (tree.both s rest) = filled_in s ++ filled_among rest

  pub filled_by_choices : Choices → List ℕ
  filled_by_choices tree.no_more = []
  filled_by_choices (tree.case w rest) = filled_by_choices rest
  filled_by_choices (tree.default rest) = filled_by_choices rest
  filled_by_choices (tree.body s rest) = filled_in s ++ filled_by_choices rest

-- no object is filled in two places
abbrev pub FilledOnce : FunctionTree → Type 0
FilledOnce f = (n : ℕ) → occurrences n (filled_in f.body) ≤ 1

-- a parameter has no list
abbrev pub HasNoList : FunctionTree → VarRef → Type 0
HasNoList f (Scalar n) = ⊤
HasNoList f (Local n) = (o : ObjectTree) → slice_get f.locals n ≡ Some o → o.initial ≡ []
HasNoList f (Static n) = ⊥

-- an object of a function that has a list is filled in one place, and no parameter has a list
pub record FilledIfListed (f : FunctionTree) : Type 0 where
  pub locals : (n : ℕ) (o : ObjectTree) → slice_get f.locals n ≡ Some o → o.initial ≢ [] → occurrences n (filled_in f.body) ≡ 1
  pub parameters : All (HasNoList f) f.params

-- how often an object with this list is filled
abbrev pub fills_of : List Initial → ℕ
fills_of [] = 0
fills_of (i ∷ is) = 1

-- an object with a list is filled in one place, and one without a list in none
abbrev pub FilledAsListed : FunctionTree → Type 0
FilledAsListed f = (n : ℕ) (o : ObjectTree) → slice_get f.locals n ≡ Some o → occurrences n (filled_in f.body) ≡ fills_of o.initial

-- an array is filled by a statement of the block that declares it, where the block around a statement declares these
abbrev mutual
  pub FillsOwn : List VarRef → Stmt → Type 0
  FillsOwn declared (tree.Block inner ss) = AllFillOwn inner ss
  FillsOwn declared (tree.Fill n) = is_among (Local n) declared ≡ true
  FillsOwn declared (tree.Do_expr e) = ⊤
  FillsOwn declared (tree.If e a b) = FillsOwn [] a × FillsOwn [] b
  FillsOwn declared (tree.While e a) = FillsOwn [] a
  FillsOwn declared (tree.Do_while a e) = FillsOwn [] a
  FillsOwn declared (tree.For x y z a) = FillsOwn [] a
  FillsOwn declared (tree.Switch e cs) = ChoicesFillOwn cs
  FillsOwn declared tree.Break = ⊤
  FillsOwn declared tree.Continue = ⊤
  FillsOwn declared (tree.Return e) = ⊤

  pub AllFillOwn : List VarRef → Stmts → Type 0
  AllFillOwn declared tree.done = ⊤
  AllFillOwn declared (tree.both s rest) = FillsOwn declared s × AllFillOwn declared rest

  pub ChoicesFillOwn : Choices → Type 0
  ChoicesFillOwn tree.no_more = ⊤
  ChoicesFillOwn (tree.case w rest) = ChoicesFillOwn rest
  ChoicesFillOwn (tree.default rest) = ChoicesFillOwn rest
  ChoicesFillOwn (tree.body s rest) = FillsOwn [] s × ChoicesFillOwn rest

-- and so is each in the body of a function
abbrev pub FilledWhereDeclared : FunctionTree → Type 0
FilledWhereDeclared f = FillsOwn [] f.body

-- the arrays that a statement fills itself, and those that statements of one block do
abbrev pub fills_itself : Stmt → List ℕ
fills_itself (tree.Fill n) = n ∷ []
fills_itself s = []

abbrev pub filled_here : Stmts → List ℕ
filled_here tree.done = []
filled_here (tree.both s rest) = fills_itself s ++ filled_here rest

-- none of these arrays is among these names
abbrev pub Avoids : List VarRef → List ℕ → Type 0
Avoids names [] = ⊤
Avoids names (n ∷ ns) = (is_among (Local n) names ≡ false) × Avoids names ns

-- what stands in front of a fill in its block doesn't name the array
abbrev mutual
  pub FillsFirst : Stmt → Type 0
  FillsFirst (tree.Block declared ss) = AllFillFirst ss
  FillsFirst (tree.Fill n) = ⊤
  FillsFirst (tree.Do_expr e) = ⊤
  FillsFirst (tree.If e a b) = FillsFirst a × FillsFirst b
  FillsFirst (tree.While e a) = FillsFirst a
  FillsFirst (tree.Do_while a e) = FillsFirst a
  FillsFirst (tree.For x y z a) = FillsFirst a
  FillsFirst (tree.Switch e cs) = ChoicesFillFirst cs
  FillsFirst tree.Break = ⊤
  FillsFirst tree.Continue = ⊤
  FillsFirst (tree.Return e) = ⊤

  pub AllFillFirst : Stmts → Type 0
  AllFillFirst tree.done = ⊤
  AllFillFirst (tree.both s rest) = Avoids (statement_names s) (filled_here rest) × FillsFirst s × AllFillFirst rest

  pub ChoicesFillFirst : Choices → Type 0
  ChoicesFillFirst tree.no_more = ⊤
  ChoicesFillFirst (tree.case w rest) = ChoicesFillFirst rest
  ChoicesFillFirst (tree.default rest) = ChoicesFillFirst rest
  ChoicesFillFirst (tree.body s rest) = FillsFirst s × ChoicesFillFirst rest

-- an array is filled before anything else in its block names it
abbrev pub FilledBeforeUse : FunctionTree → Type 0
FilledBeforeUse f = FillsFirst f.body
