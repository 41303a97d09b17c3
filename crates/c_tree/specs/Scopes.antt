-- Where the objects of a function are used: within the block that declares them, and a parameter in the whole body.
use Rattle.std.specs.Prelude.{◌≡◌, ⊤, true, List, [], ◌∷◌, ◌++◌}
use Rattle.c_tree.specs.declared.program.VarRef.{VarRef}
use Rattle.c_tree.specs.declared.program.VarRef.TheVariants.{Scalar, Local, Static}
use Rattle.c_tree.specs.TypedTree as tree
use Rattle.c_tree.specs.TypedTree.{Stmt, Stmts, Choices, FunctionTree}
use Rattle.c_tree.specs.WellFormed.{is_among}
use Rattle.c_tree.specs.NamesUsed.{names_in, optional_names}

-- a name of an object of the whole program, or one of these
abbrev pub IsKnown : List VarRef → VarRef → Type 0
IsKnown known (Scalar n) = is_among (Scalar n) known ≡ true
IsKnown known (Local n) = is_among (Local n) known ≡ true
IsKnown known (Static n) = ⊤

abbrev pub AreKnown : List VarRef → List VarRef → Type 0
AreKnown known [] = ⊤
AreKnown known (v ∷ vs) = IsKnown known v × AreKnown known vs

abbrev mutual
  -- a statement uses what it declares, and these
  pub UsesKnown : List VarRef → Stmt → Type 0
  UsesKnown known (tree.Block declared ss) = AllUseKnown (declared ++ known) ss
  UsesKnown known (tree.Fill n) = IsKnown known (Local n)
  UsesKnown known (tree.Do_expr e) = AreKnown known (names_in e)
  UsesKnown known (tree.If e a b) = AreKnown known (names_in e) × UsesKnown known a × UsesKnown known b
  UsesKnown known (tree.While e a) = AreKnown known (names_in e) × UsesKnown known a
  UsesKnown known (tree.Do_while a e) = UsesKnown known a × AreKnown known (names_in e)
  UsesKnown known (tree.For x y z a) =
      AreKnown known (optional_names x) × AreKnown known (optional_names y) × AreKnown known (optional_names z) × UsesKnown known a
  UsesKnown known (tree.Switch e cs) = AreKnown known (names_in e) × ChoicesUseKnown known cs
  UsesKnown known tree.Break = ⊤
  UsesKnown known tree.Continue = ⊤
  UsesKnown known (tree.Return e) = AreKnown known (optional_names e)

  pub AllUseKnown : List VarRef → Stmts → Type 0
  AllUseKnown known tree.done = ⊤
  AllUseKnown known (tree.both s rest) = UsesKnown known s × AllUseKnown known rest

  pub ChoicesUseKnown : List VarRef → Choices → Type 0
  ChoicesUseKnown known tree.no_more = ⊤
  ChoicesUseKnown known (tree.case w rest) = ChoicesUseKnown known rest
  ChoicesUseKnown known (tree.default rest) = ChoicesUseKnown known rest
  ChoicesUseKnown known (tree.body s rest) = UsesKnown known s × ChoicesUseKnown known rest

-- an object is used where it is declared
abbrev pub UsedWhereDeclared : FunctionTree → Type 0
UsedWhereDeclared f = UsesKnown f.params f.body
