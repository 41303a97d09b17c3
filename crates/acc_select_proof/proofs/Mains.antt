-- The function that a run begins with is named main, and takes no parameters.
use Rattle.std.proofs.Common.{◌≡◌, ℕ, zero, suc, ◌+◌, ◌<◌, ◌≤◌, Bool, true, false, List, [], ◌∷◌, length, Some, refl, sym, ap, ◌∙◌, subst, ⊎_elim, get_or, arith}
use Rattle.std.specs.Prelude.{◌≢◌, All, AllPairs, cond, map, slice_get}
use Rattle.std.specs.List.{Any}
use Rattle.std.specs.Str.{bytes_eq}
use Rattle.std.proofs.lemmas.Bool.{cases_lt}
use Rattle.std.proofs.lemmas.List.{length-map, get_or-map}
use Rattle.std.proofs.lemmas.Option.{slice_get_within, slice_get-get_or}
use Rattle.std.proofs.lemmas.Slice.Eq.{bytes_eq-Decides}
use Rattle.c_tree.specs.SourceRun.{main_name}
use Rattle.tree_code.specs.WellFormedCode.{IsMainCode, IsCode}
use Rattle.tree_code.specs.WordTree.{FunctionCode, ProgramCode}
use Rattle.acc_select.specs.Selected.{is_main}
use Rattle.ir_semantics.specs.TreeRun.{main_from}
use Rattle.acc_select_proof.proofs.Sides.{some_is}

-- the function that a run begins with is named main
past_by : (b : Bool) (k m : ℕ) → suc k ≤ m → k ≤ cond b k m
past_by true k m le = omega arith
past_by false k m le = omega (arith, le)

main_past : (k : ℕ) (fs : List FunctionCode) → k ≤ main_from k fs
main_past k [] = omega arith
main_past k (f ∷ fs) = past_by (bytes_eq f.name main_name) k (main_from (suc k) fs) (main_past (suc k) fs)

first_by : (f g : FunctionCode) (k m : ℕ) (b : Bool) → bytes_eq f.name main_name ≡ b → suc k ≤ m → Some f ≡ Some g → cond b k m ≡ k + 0 → is_main g.name ≡ true
first_by f g k m true e le is at = ap (λ (h : FunctionCode). is_main h.name) (sym (some_is is)) ∙ e
first_by f g k m false e le is at = absurd (omega (arith, le, at))

later_by : (k i m : ℕ) (b : Bool) → cond b k m ≡ k + suc i → m ≡ suc k + i
later_by k i m true at = absurd (omega (arith, at))
later_by k i m false at = omega (arith, at)

pub main_named : (fs : List FunctionCode) (k i : ℕ) (g : FunctionCode) → slice_get fs i ≡ Some g → main_from k fs ≡ k + i → is_main g.name ≡ true
main_named [] k i g is at = absurd cc
main_named (f ∷ fs) k zero g is at = first_by f g k (main_from (suc k) fs) (bytes_eq f.name main_name) refl (main_past (suc k) fs) is at
main_named (f ∷ fs) k (suc i) g is at = main_named fs (suc k) i g is (later_by k i (main_from (suc k) fs) (bytes_eq f.name main_name) at)

-- `main` takes no parameters
abbrev pub MainTakesNothing : List FunctionCode → Type 0
MainTakesNothing fs = (g : FunctionCode) → slice_get fs (main_from 0 fs) ≡ Some g → g.params ≡ []

-- what is said of all of them is said of each
pub element_of : {X : Type 0} (P : X → Type 0) (xs : List X) → All P xs → (m : ℕ) (x : X) → slice_get xs m ≡ Some x → P x
element_of P xs all m x is = let within = slice_get_within xs m x is in subst P (some_is (sym (slice_get-get_or xs m x within) ∙ is)) (all m x within)

-- of things whose names differ two of one name are one
module _ {X : Type 0} (name : X → List ℕ) (xs : List X) (differ : AllPairs (λ (a b : List ℕ). a ≢ b) (map name xs)) where
  name_at : (k : ℕ) (x : X) → slice_get xs k ≡ Some x → (d : List ℕ) → get_or (map name xs) k d ≡ name x
  name_at k x is d = let within = slice_get_within xs k x is in get_or-map name xs k x d within ∙ ap name (some_is (sym (slice_get-get_or xs k x within) ∙ is))

  apart : (k m : ℕ) (x y : X) → k < m → slice_get xs k ≡ Some x → slice_get xs m ≡ Some y → name x ≡ name y → ⊥
  apart k m x y lt a b same =
      let long : length (map name xs) ≡ length xs = length-map xs name in
      let within = slice_get_within xs m y b in
      differ k m [] lt (omega (arith, within, long)) (name_at k x a [] ∙ same ∙ sym (name_at m y b []))

  pub one_named : (k m : ℕ) (x y : X) → slice_get xs k ≡ Some x → slice_get xs m ≡ Some y → name x ≡ name y → x ≡ y
  one_named k m x y a b same =
      ⊎_elim (λ lt. absurd (apart k m x y lt a b same))
      (λ le. ⊎_elim (λ lt. absurd (apart m k y x lt b a (sym same))) (λ ge. let one : k ≡ m = omega (arith, le, ge) in some_is (sym a ∙ ap (slice_get xs) one ∙ b)) (cases_lt m k)) (cases_lt k m)

  -- one that is there, with what is known of it
  pub any_named : (P : X → Type 0) (n : List ℕ) → ((x : X) → P x → name x ≡ n) → Any P xs → (m : ℕ) (y : X) → slice_get xs m ≡ Some y → name y ≡ n → P y
  any_named P n named any m y is same =
      subst P (one_named any.0 m any.1 y (slice_get-get_or xs any.0 any.1 any.2 ∙ ap Some any.3) is (named any.1 any.4 ∙ sym same)) any.4

pub main_is_named : (name : List ℕ) → is_main name ≡ true → name ≡ main_name
main_is_named name is = (bytes_eq-Decides name main_name).0 is

pub main_takes_nothing : (p : ProgramCode) → IsCode p → MainTakesNothing p.functions
main_takes_nothing p code g is =
    let m = main_from 0 p.functions in
    let named : g.name ≡ main_name = main_is_named g.name (main_named p.functions 0 m g is (omega arith)) in
    (any_named (λ (f : FunctionCode). f.name) p.functions code.differ IsMainCode main_name (λ f i. i.name) code.main m g is named).parameters
