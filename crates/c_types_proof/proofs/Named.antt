-- The names of typed expressions: each stands for an object that is there, and stays one name once objects are numbered among their own kind.
use Rattle.std.proofs.Common.{◌≡◌, ◌≤◌, ◌<◌, ◌++◌, ◌∷◌, [], ℕ, false, List, map, Option, Some, None, refl, sym, ap, subst, ◌∙◌, arith}
use Rattle.std.specs.Prelude.{⊤, ◌≢◌}
use Rattle.std.proofs.lemmas.Bool.{or_from, false_from_ne_true}
use Rattle.std.proofs.lemmas.List.{map-append}
use Rattle.c_tree.specs.declared.program.VarRef.{VarRef}
use Rattle.c_tree.specs.declared.program.VarRef.TheVariants as refs
use Rattle.c_tree.specs.TypedTree as tree
use Rattle.c_tree.specs.TypedTree.{Kind, Expr, Node, Lvalue, Named, At, Form, Exprs}
use Rattle.c_tree.specs.WellFormed.{Shape, Names, IsCell, PointsTo, IsThere, IsWellTyped, HasForm, IsTarget, AreWellTyped, same_reference, is_among}
use Rattle.c_rules.specs.Renumbering as by
use Rattle.c_rules.specs.Renumbering.{numbered, renumbered}
use Rattle.c_rules.proofs.Formed.SameReferences.{equal_references}
use Rattle.c_tree.specs.NamesUsed.{names_in, form_names, target_names, argument_names}
use Rattle.c_types_proof.proofs.Renumbered.{place, IsKept}

-- each name of a list
abbrev pub EachName : (VarRef → Type 0) → List VarRef → Type 0
EachName P [] = ⊤
EachName P (v ∷ vs) = P v × EachName P vs

each_joined : (P : VarRef → Type 0) (vs ws : List VarRef) → EachName P vs → EachName P ws → EachName P (vs ++ ws)
each_joined P [] ws first second = second
each_joined P (v ∷ vs) ws first second = (first.0, each_joined P vs ws first.1 second)

pub each_weaker : (P Q : VarRef → Type 0) → ((v : VarRef) → P v → Q v) → (vs : List VarRef) → EachName P vs → EachName Q vs
each_weaker P Q weaker [] each = tt
each_weaker P Q weaker (v ∷ vs) each = (weaker v each.0, each_weaker P Q weaker vs each.1)

-- names of well-typed expressions stand for what is there
cell_there : (o : Option Shape) (kind : Kind) → IsCell o kind → IsThere o
cell_there o None is = absurd is
cell_there o (Some kind) is = subst IsThere (sym is) tt

pointed_there : (o : Option Shape) (kind : Kind) → PointsTo o kind → IsThere o
pointed_there None kind is = absurd is
pointed_there (Some shape) kind is = tt

module _ (names : Names) where
  abbrev pub Stands : VarRef → Type 0
  Stands v = IsThere (names.object v)

  mutual
    pub names_stand : (e : Expr) → IsWellTyped names e → EachName Stands (names_in e)
    names_stand (Node form kind at) typed = form_stands form kind typed.1

    form_stands : (form : Form) (kind : Kind) → HasForm names form kind → EachName Stands (form_names form)
    form_stands (tree.Const w) kind typed = tt
    form_stands (tree.Read v) kind typed = (cell_there (names.object v) kind typed, tt)
    form_stands (tree.AddressOf v) kind typed = (pointed_there (names.object v) kind typed.1, tt)
    form_stands (tree.Load e) kind typed = names_stand e typed.0
    form_stands (tree.Unary o e) kind typed = names_stand e typed.0
    form_stands (tree.Binary o a b) kind typed = each_joined Stands (names_in a) (names_in b) (names_stand a typed.0) (names_stand b typed.1)
    form_stands (tree.And a b) kind typed = each_joined Stands (names_in a) (names_in b) (names_stand a typed.0) (names_stand b typed.1)
    form_stands (tree.Or a b) kind typed = each_joined Stands (names_in a) (names_in b) (names_stand a typed.0) (names_stand b typed.1)
    form_stands (tree.Not e) kind typed = names_stand e typed.0
    form_stands (tree.Pick c a b) kind typed =
        each_joined Stands (names_in c) (names_in a ++ names_in b) (names_stand c typed.0)
        (each_joined Stands (names_in a) (names_in b) (names_stand a typed.1) (names_stand b typed.2))
    form_stands (tree.Assign l e) kind typed = each_joined Stands (target_names l) (names_in e) (target_stands l kind typed.0) (names_stand e typed.1)
    form_stands (tree.AssignOp o l e) kind typed = each_joined Stands (target_names l) (names_in e) (target_stands l kind typed.0) (names_stand e typed.1)
    form_stands (tree.StepBefore up l) kind typed = target_stands l kind typed
    form_stands (tree.StepAfter up l) kind typed = target_stands l kind typed
    form_stands (tree.Call f es) kind typed = arguments_stand es typed.0
    form_stands (tree.In port) kind typed = tt
    form_stands (tree.Out port e) kind typed = names_stand e typed.0
    form_stands (tree.Comma a b) kind typed = each_joined Stands (names_in a) (names_in b) (names_stand a typed.0) (names_stand b typed.1)
    form_stands (tree.Convert e) kind typed = names_stand e typed.0

    target_stands : (l : Lvalue) (kind : Kind) → IsTarget names l kind → EachName Stands (target_names l)
    target_stands (Named v at) kind typed = (cell_there (names.object v) kind typed, tt)
    target_stands (At e at) kind typed = names_stand e typed.0

    arguments_stand : (es : Exprs) → AreWellTyped names es → EachName Stands (argument_names es)
    arguments_stand tree.none typed = tt
    arguments_stand (tree.more e rest) typed = each_joined Stands (names_in e) (argument_names rest) (names_stand e typed.0) (arguments_stand rest typed.1)

module _ (frame : List VarRef) where
  joined : (vs ws xs ys : List VarRef) → xs ≡ map (renumbered frame) vs → ys ≡ map (renumbered frame) ws → xs ++ ys ≡ map (renumbered frame) (vs ++ ws)
  joined vs ws xs ys first second = ap (λ l. l ++ ys) first ∙ ap (λ l. map (renumbered frame) vs ++ l) second ∙ sym (map-append (renumbered frame) vs ws)

  mutual
    pub names_kept : (e : Expr) → names_in (by.expression frame e) ≡ map (renumbered frame) (names_in e)
    names_kept (Node form kind at) = form_kept form

    form_kept : (form : Form) → form_names (by.of_form frame form) ≡ map (renumbered frame) (form_names form)
    form_kept (tree.Const w) = refl
    form_kept (tree.Read v) = refl
    form_kept (tree.AddressOf v) = refl
    form_kept (tree.Load e) = names_kept e
    form_kept (tree.Unary o e) = names_kept e
    form_kept (tree.Binary o a b) = joined (names_in a) (names_in b) _ _ (names_kept a) (names_kept b)
    form_kept (tree.And a b) = joined (names_in a) (names_in b) _ _ (names_kept a) (names_kept b)
    form_kept (tree.Or a b) = joined (names_in a) (names_in b) _ _ (names_kept a) (names_kept b)
    form_kept (tree.Not e) = names_kept e
    form_kept (tree.Pick c a b) =
        joined (names_in c) (names_in a ++ names_in b) _ _ (names_kept c) (joined (names_in a) (names_in b) _ _ (names_kept a) (names_kept b))
    form_kept (tree.Assign l e) = joined (target_names l) (names_in e) _ _ (target_kept l) (names_kept e)
    form_kept (tree.AssignOp o l e) = joined (target_names l) (names_in e) _ _ (target_kept l) (names_kept e)
    form_kept (tree.StepBefore up l) = target_kept l
    form_kept (tree.StepAfter up l) = target_kept l
    form_kept (tree.Call f es) = arguments_kept es
    form_kept (tree.In port) = refl
    form_kept (tree.Out port e) = names_kept e
    form_kept (tree.Comma a b) = joined (names_in a) (names_in b) _ _ (names_kept a) (names_kept b)
    form_kept (tree.Convert e) = names_kept e

    target_kept : (l : Lvalue) → target_names (by.target frame l) ≡ map (renumbered frame) (target_names l)
    target_kept (Named v at) = refl
    target_kept (At e at) = names_kept e

    arguments_kept : (es : Exprs) → argument_names (by.arguments frame es) ≡ map (renumbered frame) (argument_names es)
    arguments_kept tree.none = refl
    arguments_kept (tree.more e rest) = joined (names_in e) (argument_names rest) _ _ (names_kept e) (arguments_kept rest)

-- names of objects below a number
abbrev pub IsBelow : ℕ → VarRef → Type 0
IsBelow n (refs.Scalar m) = ⊤
IsBelow n (refs.Local m) = m < n
IsBelow n (refs.Static m) = ⊤

pub below_more : (m n : ℕ) → m ≤ n → (v : VarRef) → IsBelow m v → IsBelow n v
below_more m n less (refs.Scalar k) below = tt
below_more m n less (refs.Local k) below = omega (arith, less, below)
below_more m n less (refs.Static k) below = tt

-- a frame calls no two objects the same
abbrev pub Differs : List VarRef → Type 0
Differs frame = (m n : ℕ) → m < n → IsKept frame n → numbered frame m ≢ refs.Local (place frame n)

module _ (frame : List VarRef) (differs : Differs frame) (n : ℕ) (kept : IsKept frame n) where
  another : (v : VarRef) → IsBelow n v → same_reference (renumbered frame v) (refs.Local (place frame n)) ≡ false
  another (refs.Scalar m) below = refl
  another (refs.Local m) below =
      false_from_ne_true (same_reference (numbered frame m) (refs.Local (place frame n)))
      (λ same. differs m n below kept (equal_references (numbered frame m) (refs.Local (place frame n)) same))
  another (refs.Static m) below = refl

  pub none_among : (vs : List VarRef) → EachName (IsBelow n) vs → is_among (refs.Local (place frame n)) (map (renumbered frame) vs) ≡ false
  none_among [] below = refl
  none_among (v ∷ vs) below =
      or_from (same_reference (renumbered frame v) (refs.Local (place frame n))) (is_among (refs.Local (place frame n)) (map (renumbered frame) vs))
      (another v below.0) (none_among vs below.1)
