-- What is kept while a function runs that these called.
use Rattle.std.proofs.Common.{◌≡◌, ◌≢◌, ◌<◌, ◌≤◌, ℕ, ◌+◌, Bool, true, false, true≢false, cond, List, ◌∷◌, length, Option, Some, None, refl, sym, ap, ◌∙◌, subst, inl, inr, eqb-true, eq-eqb, arith}
use Rattle.std.proofs.lemmas.Option.{none-some, same_Some}
use Rattle.c_tree.specs.declared.program.VarRef.{VarRef}
use Rattle.c_tree.specs.declared.program.VarRef.TheVariants.{Scalar, Local}
use Rattle.mem_plan.specs.Ranges.{range, Place, ScratchWords, StaticObject, ScalarWord, LocalObject, ReturnWord, function_of}
use Rattle.ir_semantics.specs.Outside.{Frame}
use Rattle.ir_semantics.specs.AccRun.{or_else}
use Rattle.emit_proof.specs.Standing.{scalar_address}
use Rattle.image_proof.specs.Emissions.{Emission, IsEmission}
use Rattle.image_proof.specs.Active.{AreActive, IsAmong, back_of}
use Rattle.image_proof.specs.ActiveSites.{site_places}
use Rattle.image_proof.specs.Kept.{MayKeep, KeptAt, IsKept, number_at, known_of, is_word, kept_for}
use Rattle.image_proof.proofs.Ways.{first_differs}
use Rattle.image_proof.proofs.WordsOfSites.{WordOf, IsOf, of_more, named, NameWord, name_of, words_apart, word_within}
use Rattle.image_proof.proofs.FrameWords.{return_word}
use Rattle.image_proof.proofs.Cells.{not_true}
use Rattle.image_proof.proofs.KeptWords.{LiveAt, IsObjectPlace, kept_word, kept_of}
use Rattle.image_proof.proofs.Numbers.{number_found, number_none, number_there}
use Rattle.image_proof.proofs.SiteWords.{first_among, behind_among, scalar_in}
use Rattle.image_proof.proofs.SiteStanding.{apart}

word_is : (o : Option ℕ) (a : ℕ) → is_word o a ≡ true → o ≡ Some a
word_is None a e = absurd (true≢false (sym e))
word_is (Some b) a e = ap Some (eqb-true b a e)

-- a scalar's word may be kept
pub may_scalar : (e : Emission) (g : ℕ) (active : List ℕ) (f n : ℕ) (P : Place) → function_of P ≡ Some f → named e P ≡ Some (Scalar n) → IsAmong active f → MayKeep (g ∷ active) P
may_scalar e g active f n ScratchWords within names among = absurd (none-some f within)
may_scalar e g active f n (StaticObject m) within names among = absurd (none-some f within)
may_scalar e g active f n (ScalarWord h k i) within names among = subst (IsAmong active) (sym (same_Some h f within)) among
may_scalar e g active f n (LocalObject h m) within names among = absurd (local_scalar (same_Some (Local m) (Scalar n) names))
  where
    local_scalar : Local m ≡ Scalar n → ⊥
    local_scalar e = cc
may_scalar e g active f n (ReturnWord h) within names among = absurd (none-some (Scalar n) names)

may_more : (g : ℕ) (active : List ℕ) (P : Place) → MayKeep active P → MayKeep (g ∷ active) P
may_more g active ScratchWords may = may
may_more g active (StaticObject n) may = may
may_more g active (ScalarWord f k i) may = behind_among active f may
may_more g active (LocalObject f n) may = may
may_more g active (ReturnWord f) may = inr may

module _ (e : Emission) (is : IsEmission e) (g : ℕ) (active : List ℕ) (are : AreActive e (g ∷ active)) where
  abbrev all : List ℕ
  all = g ∷ active

  -- the return word of the function that was called is that of nothing else
  back_word : (b : ℕ) → back_of e g ≡ Some b → WordOf e (ReturnWord g) b
  back_word b back = record { range = range b 1; is = return_word e g b back; from = omega arith; to = omega arith }

  pub back_within : (b : ℕ) → back_of e g ≡ Some b → (784 ≤ b) × (b < 65536)
  back_within b back = word_within e is (ReturnWord g) b (back_word b back) (λ e. cc)

  pub back_no_name : (b a f : ℕ) (v : VarRef) → back_of e g ≡ Some b → IsAmong all f → NameWord e f v a → b ≢ a
  back_no_name b a f v back among w =
      words_apart e is all are (ReturnWord g) w.place b a (back_word b back) w.word (inl refl) (name_of e is all among w) (λ same. none-some v (ap (named e) same ∙ w.names))

  pub back_no_object : (b a : ℕ) → back_of e g ≡ Some b → LiveAt e active a → b ≢ a
  back_no_object b a back l =
      words_apart e is all are (ReturnWord g) l.place b a (back_word b back) l.word (inl refl) (of_more active g (function_of l.place) l.of) (λ same. subst IsObjectPlace (sym same) l.object)

  not_among : (o : Option ℕ) → IsOf active o → Some g ≡ o → ⊥
  not_among None of same = none-some g (sym same)
  not_among (Some f) of same = first_differs e is g active are f of (sym (same_Some g f same))

  pub back_no_kept : (b a : ℕ) → back_of e g ≡ Some b → KeptAt e active a → b ≢ a
  back_no_kept b a back k =
      words_apart e is all are (ReturnWord g) k.place b a (back_word b back) (kept_word e active a k) (inl refl) (of_more active g (function_of k.place) (kept_of active active (λ f among. among) k.place k.may))
      (λ same. not_among (function_of k.place) (kept_of active active (λ f among. among) k.place k.may) (ap function_of same))

  module _ (frame : Frame) (ret : ℕ) (kept : ℕ → Option ℕ) where
    -- a word that is kept is the return word, a scalar's, or was kept before
    pub data KeptFor (a x : ℕ) : Type 0 where
      AsReturn : back_of e g ≡ Some a → ret ≡ x → KeptFor a x
      AsScalar : (n : ℕ) → n < length (site_places e active).scalars → scalar_address (site_places e active) n ≡ a → frame n ≡ Some x → KeptFor a x
      AsBefore : kept a ≡ Some x → KeptFor a x

    known_by : (a x : ℕ) (o : Option ℕ) → number_at (site_places e active).scalars 0 a ≡ o → or_else (known_of frame o) (kept a) ≡ Some x → KeptFor a x
    known_by a x None at is = AsBefore is
    known_by a x (Some n) at is = known (frame n) refl is
      where
        known : (y : Option ℕ) → frame n ≡ y → or_else y (kept a) ≡ Some x → KeptFor a x
        known None none is = AsBefore is
        known (Some y) some is =
            let h = number_found (site_places e active).scalars 0 a n at in
            let zero_first : h.index ≡ 0 + h.index = omega arith in
            let same : h.index ≡ n = zero_first ∙ h.is in
            AsScalar n (subst (λ k. k < length (site_places e active).scalars) same h.less) (ap (scalar_address (site_places e active)) (sym same) ∙ h.address) (some ∙ is)

    kept_by : (a x : ℕ) (b : Bool) → is_word (back_of e g) a ≡ b → cond b (Some ret) (or_else (known_of frame (number_at (site_places e active).scalars 0 a)) (kept a)) ≡ Some x → KeptFor a x
    kept_by a x true back is = AsReturn (word_is (back_of e g) a back) (same_Some ret x is)
    kept_by a x false back is = known_by a x (number_at (site_places e active).scalars 0 a) refl is

    pub kept_parts : (a x : ℕ) → kept_for e g active frame ret kept a ≡ Some x → KeptFor a x
    kept_parts a x is = kept_by a x (is_word (back_of e g) a) refl is

    -- the return address is kept
    pub keeps_return : (a : ℕ) → back_of e g ≡ Some a → kept_for e g active frame ret kept a ≡ Some ret
    keeps_return a back =
        ap (λ o. cond (is_word o a) (Some ret) (or_else (known_of frame (number_at (site_places e active).scalars 0 a)) (kept a))) back
        ∙ ap (λ b. cond b (Some ret) (or_else (known_of frame (number_at (site_places e active).scalars 0 a)) (kept a))) (eq-eqb a a refl)

    no_return : (a : ℕ) → ((b : ℕ) → back_of e g ≡ Some b → b ≢ a) → is_word (back_of e g) a ≡ false
    no_return a differ = not_true (is_word (back_of e g) a) (λ same. differ a (word_is (back_of e g) a same) refl)

    without_return : (a : ℕ) → ((b : ℕ) → back_of e g ≡ Some b → b ≢ a) → kept_for e g active frame ret kept a ≡ or_else (known_of frame (number_at (site_places e active).scalars 0 a)) (kept a)
    without_return a differ = ap (λ b. cond b (Some ret) (or_else (known_of frame (number_at (site_places e active).scalars 0 a)) (kept a))) (no_return a differ)

    module _ (keeps : IsKept e active kept) where
      -- so is each scalar that is known
      pub keeps_scalar : (n x : ℕ) → n < length (site_places e active).scalars → frame n ≡ Some x → kept_for e g active frame ret kept (scalar_address (site_places e active) n) ≡ Some x
      keeps_scalar n x less known =
          let a = scalar_address (site_places e active) n in
          let s = scalar_in e is active are.1 n less in
          let first : 0 + n ≡ n = omega arith in
          let number = number_there (site_places e active).scalars 0 a n less refl (λ i few other. (apart e is active are.1 kept keeps).scalars i n few less other) ∙ ap Some first in
          without_return a (λ b back. back_no_name b a s.function (Scalar n) back (inr (first_among active s.function s.first)) s.word)
          ∙ ap (λ o. or_else (known_of frame o) (kept a)) number ∙ ap (λ y. or_else y (kept a)) known

      -- and what was kept before
      pub keeps_before : (a x : ℕ) → kept a ≡ Some x → kept_for e g active frame ret kept a ≡ Some x
      keeps_before a x known =
          let number = number_none (site_places e active).scalars 0 a (λ i less same. (apart e is active are.1 kept keeps).callers a x known i less (sym same)) in
          without_return a (λ b back. back_no_kept b a back (keeps.by a x known)) ∙ ap (λ o. or_else (known_of frame o) (kept a)) number ∙ known

      kept_at : (a x : ℕ) → KeptFor a x → KeptAt e all a
      kept_at a x (AsReturn back same) =
          let w = back_word a back in
          record { place = ReturnWord g; may = inl refl; range = w.range; is = w.is; from = w.from; to = w.to }
      kept_at a x (AsScalar n less at known) =
          let s = scalar_in e is active are.1 n less in
          let w = subst (WordOf e (s.word).place) at (s.word).word in
          record { place = (s.word).place; may = may_scalar e g active s.function n (s.word).place (s.word).within (s.word).names (first_among active s.function s.first); range = w.range; is = w.is; from = w.from; to = w.to }
      kept_at a x (AsBefore known) =
          let k = keeps.by a x known in
          record { place = k.place; may = may_more g active k.place k.may; range = k.range; is = k.is; from = k.from; to = k.to }

      pub keeps_on : IsKept e all (kept_for e g active frame ret kept)
      keeps_on = record { by = λ a x known. kept_at a x (kept_parts a x known) }
