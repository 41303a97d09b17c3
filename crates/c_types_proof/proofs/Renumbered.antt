-- What a statement declares and fills once each object of its function has its number among its own kind.
use Rattle.std.proofs.Common.{◌≡◌, ◌||◌, ◌++◌, ◌∷◌, [], ℕ, Bool, true, false, List, map, slice_get, Some, refl, sym, ap, subst, ◌∙◌}
use Rattle.std.specs.Prelude.{⊤, unwrap_or}
use Rattle.std.proofs.lemmas.Bool.{or_left, or_right}
use Rattle.std.proofs.lemmas.List.{map-append}
use Rattle.c_tree.specs.declared.program.VarRef.{VarRef}
use Rattle.c_tree.specs.declared.program.VarRef.TheVariants as refs
use Rattle.c_tree.specs.TypedTree as tree
use Rattle.c_tree.specs.TypedTree.{Stmt, Stmts, Choices}
use Rattle.c_tree.specs.WellFormed.{same_reference, is_among}
use Rattle.c_rules.specs.Renumbering as by
use Rattle.c_rules.specs.Renumbering.{numbered, renumbered, number_in}
use Rattle.c_rules.proofs.Formed.SameReferences.{equal_references, same_as_itself}
use Rattle.c_tree.specs.Declarations.{declared_in, declared_among, declared_by_choices}
use Rattle.c_tree.specs.Fills.{filled_in, filled_among, filled_by_choices, FillsOwn, AllFillOwn, ChoicesFillOwn}

-- each number of a list
abbrev pub Each : (ℕ → Type 0) → List ℕ → Type 0
Each P [] = ⊤
Each P (n ∷ ns) = P n × Each P ns

pub each_first : (P : ℕ → Type 0) (ns more : List ℕ) → Each P (ns ++ more) → Each P ns
each_first P [] more each = tt
each_first P (n ∷ ns) more each = (each.0, each_first P ns more each.1)

pub each_behind : (P : ℕ → Type 0) (ns more : List ℕ) → Each P (ns ++ more) → Each P more
each_behind P [] more each = each
each_behind P (n ∷ ns) more each = each_behind P ns more each.1

pub each_joined : (P : ℕ → Type 0) (ns more : List ℕ) → Each P ns → Each P more → Each P (ns ++ more)
each_joined P [] more first second = second
each_joined P (n ∷ ns) more first second = (first.0, each_joined P ns more first.1 second)

pub each_number : (P Q : ℕ → Type 0) → ((n : ℕ) → P n → Q n) → (ns : List ℕ) → Each P ns → Each Q ns
each_number P Q weaker [] each = tt
each_number P Q weaker (n ∷ ns) each = (weaker n each.0, each_number P Q weaker ns each.1)

module _ (frame : List VarRef) where
  -- the number of an object among its own kind
  abbrev pub place : ℕ → ℕ
  place n = number_in (numbered frame n)

  -- it lies in memory
  abbrev pub IsKept : ℕ → Type 0
  IsKept n = slice_get frame n ≡ Some (refs.Local (place n))

  pub named_there : (n : ℕ) → IsKept n → numbered frame n ≡ refs.Local (place n)
  named_there n kept = ap (λ o. unwrap_or o (refs.Local n)) kept

  declared_joined : (vs ws : List VarRef) (xs ys : List VarRef) → xs ≡ map (renumbered frame) vs → ys ≡ map (renumbered frame) ws
      → xs ++ ys ≡ map (renumbered frame) (vs ++ ws)
  declared_joined vs ws xs ys first second =
      ap (λ l. l ++ ys) first ∙ ap (λ l. map (renumbered frame) vs ++ l) second ∙ sym (map-append (renumbered frame) vs ws)

  pub places_joined : (ms ns : List ℕ) (xs ys : List ℕ) → xs ≡ map place ms → ys ≡ map place ns → xs ++ ys ≡ map place (ms ++ ns)
  places_joined ms ns xs ys first second = ap (λ l. l ++ ys) first ∙ ap (λ l. map place ms ++ l) second ∙ sym (map-append place ms ns)

  mutual
    pub declared_kept : (s : Stmt) → declared_in (by.statement frame s) ≡ map (renumbered frame) (declared_in s)
    declared_kept (tree.Block vs ss) = declared_joined vs (declared_among ss) _ _ refl (all_declared_kept ss)
    declared_kept (tree.Fill n) = refl
    declared_kept (tree.Do_expr e) = refl
    declared_kept (tree.If e a b) = declared_joined (declared_in a) (declared_in b) _ _ (declared_kept a) (declared_kept b)
    declared_kept (tree.While e a) = declared_kept a
    declared_kept (tree.Do_while a e) = declared_kept a
    declared_kept (tree.For x y z a) = declared_kept a
    declared_kept (tree.Switch e cs) = choices_declared_kept cs
    declared_kept tree.Break = refl
    declared_kept tree.Continue = refl
    declared_kept (tree.Return e) = refl

    all_declared_kept : (ss : Stmts) → declared_among (by.statements frame ss) ≡ map (renumbered frame) (declared_among ss)
    all_declared_kept tree.done = refl
    all_declared_kept (tree.both s rest) = declared_joined (declared_in s) (declared_among rest) _ _ (declared_kept s) (all_declared_kept rest)

    choices_declared_kept : (cs : Choices) → declared_by_choices (by.choices frame cs) ≡ map (renumbered frame) (declared_by_choices cs)
    choices_declared_kept tree.no_more = refl
    choices_declared_kept (tree.case w rest) = choices_declared_kept rest
    choices_declared_kept (tree.default rest) = choices_declared_kept rest
    choices_declared_kept (tree.body s rest) = declared_joined (declared_in s) (declared_by_choices rest) _ _ (declared_kept s) (choices_declared_kept rest)

  mutual
    pub filled_kept : (s : Stmt) → filled_in (by.statement frame s) ≡ map place (filled_in s)
    filled_kept (tree.Block vs ss) = all_filled_kept ss
    filled_kept (tree.Fill n) = refl
    filled_kept (tree.Do_expr e) = refl
    filled_kept (tree.If e a b) = places_joined (filled_in a) (filled_in b) _ _ (filled_kept a) (filled_kept b)
    filled_kept (tree.While e a) = filled_kept a
    filled_kept (tree.Do_while a e) = filled_kept a
    filled_kept (tree.For x y z a) = filled_kept a
    filled_kept (tree.Switch e cs) = choices_filled_kept cs
    filled_kept tree.Break = refl
    filled_kept tree.Continue = refl
    filled_kept (tree.Return e) = refl

    all_filled_kept : (ss : Stmts) → filled_among (by.statements frame ss) ≡ map place (filled_among ss)
    all_filled_kept tree.done = refl
    all_filled_kept (tree.both s rest) = places_joined (filled_in s) (filled_among rest) _ _ (filled_kept s) (all_filled_kept rest)

    choices_filled_kept : (cs : Choices) → filled_by_choices (by.choices frame cs) ≡ map place (filled_by_choices cs)
    choices_filled_kept tree.no_more = refl
    choices_filled_kept (tree.case w rest) = choices_filled_kept rest
    choices_filled_kept (tree.default rest) = choices_filled_kept rest
    choices_filled_kept (tree.body s rest) = places_joined (filled_in s) (filled_by_choices rest) _ _ (filled_kept s) (choices_filled_kept rest)

  -- a name that a block declares is among its names still
  first_or_later : (b : Bool) (v w : VarRef) (vs : List VarRef) → same_reference w v ≡ b → (b || is_among v vs) ≡ true
      → (is_among v vs ≡ true → is_among (renumbered frame v) (map (renumbered frame) vs) ≡ true)
      → is_among (renumbered frame v) (map (renumbered frame) (w ∷ vs)) ≡ true
  first_or_later true v w vs is among later =
      or_left (same_reference (renumbered frame w) (renumbered frame v)) (is_among (renumbered frame v) (map (renumbered frame) vs))
      (subst (λ u. same_reference (renumbered frame w) (renumbered frame u) ≡ true) (equal_references w v is) (same_as_itself (renumbered frame w)))
  first_or_later false v w vs is among later =
      or_right (same_reference (renumbered frame w) (renumbered frame v)) (is_among (renumbered frame v) (map (renumbered frame) vs)) (later among)

  among_kept : (v : VarRef) (vs : List VarRef) → is_among v vs ≡ true → is_among (renumbered frame v) (map (renumbered frame) vs) ≡ true
  among_kept v [] among = absurd (cc among)
  among_kept v (w ∷ vs) among = first_or_later (same_reference w v) v w vs refl among (among_kept v vs)

  mutual
    pub own_kept : (vs : List VarRef) (s : Stmt) → Each IsKept (filled_in s) → FillsOwn vs s → FillsOwn (map (renumbered frame) vs) (by.statement frame s)
    own_kept vs (tree.Block inner ss) kept own = all_own_kept inner ss kept own
    own_kept vs (tree.Fill n) kept own = subst (λ v. is_among v (map (renumbered frame) vs) ≡ true) (named_there n kept.0) (among_kept (refs.Local n) vs own)
    own_kept vs (tree.Do_expr e) kept own = tt
    own_kept vs (tree.If e a b) kept own =
        (own_kept [] a (each_first IsKept (filled_in a) (filled_in b) kept) own.0, own_kept [] b (each_behind IsKept (filled_in a) (filled_in b) kept) own.1)
    own_kept vs (tree.While e a) kept own = own_kept [] a kept own
    own_kept vs (tree.Do_while a e) kept own = own_kept [] a kept own
    own_kept vs (tree.For x y z a) kept own = own_kept [] a kept own
    own_kept vs (tree.Switch e cs) kept own = choices_own_kept cs kept own
    own_kept vs tree.Break kept own = tt
    own_kept vs tree.Continue kept own = tt
    own_kept vs (tree.Return e) kept own = tt

    all_own_kept : (vs : List VarRef) (ss : Stmts) → Each IsKept (filled_among ss) → AllFillOwn vs ss
        → AllFillOwn (map (renumbered frame) vs) (by.statements frame ss)
    all_own_kept vs tree.done kept own = tt
    all_own_kept vs (tree.both s rest) kept own = (
      own_kept vs s (each_first IsKept (filled_in s) (filled_among rest) kept) own.0,
      all_own_kept vs rest (each_behind IsKept (filled_in s) (filled_among rest) kept) own.1,
    )

    choices_own_kept : (cs : Choices) → Each IsKept (filled_by_choices cs) → ChoicesFillOwn cs → ChoicesFillOwn (by.choices frame cs)
    choices_own_kept tree.no_more kept own = tt
    choices_own_kept (tree.case w rest) kept own = choices_own_kept rest kept own
    choices_own_kept (tree.default rest) kept own = choices_own_kept rest kept own
    choices_own_kept (tree.body s rest) kept own = (
      own_kept [] s (each_first IsKept (filled_in s) (filled_by_choices rest) kept) own.0,
      choices_own_kept rest (each_behind IsKept (filled_in s) (filled_by_choices rest) kept) own.1,
    )
