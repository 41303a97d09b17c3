-- Words of the plan: those of things that can be in use at once differ.
use Rattle.std.proofs.Common.{◌≡◌, ◌≢◌, ◌<◌, ◌≤◌, ℕ, ◌+◌, List, ◌∷◌, Option, Some, None, sym, ap, ◌∙◌, subst, inr, ⊎_elim, arith}
use Rattle.std.specs.Prelude.{⊤, slice_get, option_map}
use Rattle.std.proofs.lemmas.Option.{none-some, same_Some}
use Rattle.c_tree.specs.declared.program.VarRef.{VarRef}
use Rattle.c_tree.specs.declared.program.VarRef.TheVariants.{Scalar, Local}
use Rattle.mem_plan.specs.Ranges.{Range, Place, ScratchWords, StaticObject, ScalarWord, LocalObject, ReturnWord, function_of, range_of, CanMeet}
use Rattle.mem_plan.proofs.ApartLemmas.{plans_apart, plans_within}
use Rattle.image_proof.specs.Emissions.{Emission, IsEmission}
use Rattle.image_proof.specs.Active.{AreActive, IsAmong}
use Rattle.image_proof.proofs.Ways.{one_reaches}

pub record WordOf (e : Emission) (place : Place) (a : ℕ) : Type 0 where
  pub range : Range
  pub is : range_of e.code e.arrangements e.plan place ≡ Some range
  pub from : range.first ≤ a
  pub to : a < range.first + range.words

-- in no frame, or in that of one of these functions
abbrev pub IsOf : List ℕ → Option ℕ → Type 0
IsOf active None = ⊤
IsOf active (Some f) = IsAmong active f

pub of_more : (active : List ℕ) (g : ℕ) (o : Option ℕ) → IsOf active o → IsOf (g ∷ active) o
of_more active g None of = tt
of_more active g (Some f) of = inr of

can_meet : (e : Emission) (active : List ℕ) → AreActive e active → (o u : Option ℕ) → IsOf active o → IsOf active u → CanMeet e.code o u
can_meet e active are None None of also = tt
can_meet e active are None (Some f) of also = tt
can_meet e active are (Some f) None of also = tt
can_meet e active are (Some f) (Some h) of also = one_reaches e active are f h of also

-- what a word is in its frame: a scalar or a local object, with its number
abbrev named_of : Option (List ℕ) → ℕ → Option VarRef
named_of None i = None
named_of (Some list) i = option_map Scalar (slice_get list i)

abbrev named_in : Option (List (List ℕ)) → ℕ → ℕ → Option VarRef
named_in None k i = None
named_in (Some lists) k i = named_of (slice_get lists k) i

abbrev pub named : Emission → Place → Option VarRef
named e ScratchWords = None
named e (StaticObject n) = None
named e (ScalarWord f k i) = named_in (slice_get e.arrangements f) k i
named e (LocalObject f n) = Some (Local n)
named e (ReturnWord f) = None

pub record NameWord (e : Emission) (f : ℕ) (v : VarRef) (a : ℕ) : Type 0 where
  pub place : Place
  pub word : WordOf e place a
  pub within : function_of place ≡ Some f
  pub names : named e place ≡ Some v

pub scalar_names : (e : Emission) (f k i n : ℕ) (lists : List (List ℕ)) (list : List ℕ) → slice_get e.arrangements f ≡ Some lists → slice_get lists k ≡ Some list → slice_get list i ≡ Some n → named e (ScalarWord f k i) ≡ Some (Scalar n)
scalar_names e f k i n lists list arranged there stands = ap (λ ls. named_in ls k i) arranged ∙ ap (λ l. named_of l i) there ∙ ap (option_map Scalar) stands

no_scratch : {f : ℕ} (P : Place) → function_of P ≡ Some f → P ≡ ScratchWords → ⊥
no_scratch P within same = none-some _ (ap function_of (sym same) ∙ within)

module _ (e : Emission) (is : IsEmission e) where
  pub words_apart : (active : List ℕ) → AreActive e active → (P Q : Place) (a b : ℕ) → WordOf e P a → WordOf e Q b → IsOf active (function_of P) → IsOf active (function_of Q) → (P ≡ Q → ⊥) → a ≢ b
  words_apart active are P Q a b w u of also differ same =
      ⊎_elim (λ before. omega (arith, before, w.to, u.from, same)) (λ behind. omega (arith, behind, w.from, u.to, same))
      (plans_apart e.code e.arrangements e.plan is.arranged is.planned P Q w.range u.range differ (can_meet e active are (function_of P) (function_of Q) of also) w.is u.is)

  pub word_within : (P : Place) (a : ℕ) → WordOf e P a → (P ≡ ScratchWords → ⊥) → (784 ≤ a) × (a < 65536)
  word_within P a w differ =
      let in_plan = plans_within e.code e.arrangements e.plan is.arranged is.planned P w.range differ w.is in
      let from = in_plan.from in
      let to = in_plan.to in
      (omega (arith, from, w.from), omega (arith, to, w.to))

  pub name_within : {f : ℕ} {v : VarRef} {a : ℕ} → NameWord e f v a → (784 ≤ a) × (a < 65536)
  name_within {a = a} w = word_within w.place a w.word (no_scratch w.place w.within)

  pub name_of : {f : ℕ} {v : VarRef} {a : ℕ} (active : List ℕ) → IsAmong active f → (w : NameWord e f v a) → IsOf active (function_of w.place)
  name_of active among w = subst (IsOf active) (sym w.within) among

  pub names_apart : {f h : ℕ} {v u : VarRef} {a b : ℕ} (active : List ℕ) → AreActive e active → IsAmong active f → IsAmong active h → NameWord e f v a → NameWord e h u b → (f ≡ h → v ≡ u → ⊥) → a ≢ b
  names_apart {f} {h} {v} {u} {a} {b} active are among other w x differ =
      words_apart active are w.place x.place a b w.word x.word (name_of active among w) (name_of active other x)
      (λ same. differ (same_Some f h (sym w.within ∙ ap function_of same ∙ x.within)) (same_Some v u (sym w.names ∙ ap (named e) same ∙ x.names)))
