-- The site of the function that runs is one: no word has two uses, registers are the machine's, and words lie in RAM.
use Rattle.std.proofs.Common.{◌≡◌, ◌≢◌, ◌<◌, ◌≤◌, ℕ, ◌+◌, true, false, List, [], ◌∷◌, Option, refl, sym, ap, ◌∙◌, inl, inr, arith}
use Rattle.std.specs.Prelude.{slice_get}
use Rattle.std.proofs.lemmas.Option.{none-some, same_Some}
use Rattle.c_tree.specs.declared.program.VarRef.TheVariants.{Scalar, Local, Static}
use Rattle.emit_blocks.specs.Places.{Places, object_address, address_in}
use Rattle.emit_proof.specs.Standing.{scalar_address, parameter_address, IsReserved, OfScalar, OfScratch, OfParameter, OfCaller, AreApart, HaveAddresses}
use Rattle.image_proof.specs.PlanPlaces.{local_addresses}
use Rattle.image_proof.specs.Emissions.{Emission, IsEmission}
use Rattle.image_proof.specs.Active.{AreActive, IsAmong}
use Rattle.image_proof.specs.ActiveSites.{site_places, site_counts, site_addresses, is_live}
use Rattle.image_proof.specs.Kept.{IsKept}
use Rattle.image_proof.proofs.Ways.{first_differs}
use Rattle.image_proof.proofs.WordsOfSites.{name_within, names_apart}
use Rattle.image_proof.proofs.Cells.{not_true}
use Rattle.image_proof.proofs.KeptWords.{AreMore, kept_apart, kept_within, live_at, live_no_kept, live_no_scalar, live_no_other, live_within}
use Rattle.image_proof.proofs.SiteWords.{ParameterIn, first_among, behind_among, first_behind, scalar_in, parameter_in, names_differ, frame_first, places_framed}

scalar_number : (n m : ℕ) → Scalar n ≡ Scalar m → n ≡ m
scalar_number n m e = cc

module _ (e : Emission) (is : IsEmission e) (active : List ℕ) (are : AreActive e active) where
  -- a scalar's word is no scratch word, and so on
  above_scratch : (a m : ℕ) → (784 ≤ a) × (a < 65536) → m < 16 → a ≢ 768 + m
  above_scratch a m within less same =
      let from = within.0 in
      omega (arith, from, less, same)

  more_by : (f : ℕ) → AreMore active (f ∷ active)
  more_by f g among = inr among

  same_more : AreMore active active
  same_more f among = among

  behind_differs : (f i : ℕ) (p : ParameterIn e active f i) (h : ℕ) → IsAmong active h → h ≢ f
  behind_differs f i p h among = first_differs e is f active p.called h among

  module _ (kept : ℕ → Option ℕ) (keeps : IsKept e active kept) where
    pub apart : AreApart (site_places e active) (site_counts e active) kept
    apart = record {
      scalars = λ n m less also differ.
          let s = scalar_in e is active are n less in
          let t = scalar_in e is active are m also in
          names_apart e is active are (first_among active s.function s.first) (first_among active t.function t.first) s.word t.word (λ one same. differ (scalar_number n m same));
      scratch = λ n m less also.
          let s = scalar_in e is active are n less in
          above_scratch (scalar_address (site_places e active) n) m (name_within e is s.word) also;
      parameters = λ n f i less also.
          let s = scalar_in e is active are n less in
          let p = parameter_in e is active are f i also in
          let among = first_among active s.function s.first in
          names_apart e is (f ∷ active) p.called (inr among) (inl refl) s.word p.word (λ one same. behind_differs f i p s.function among one);
      of_one = λ f i j less also differ.
          let p = parameter_in e is active are f i less in
          let q = parameter_in e is active are f j also in
          let one = same_Some (q.at).code (p.at).code (sym (q.at).there ∙ (p.at).there) in
          names_apart e is (f ∷ active) p.called (inl refl) (inl refl) p.word q.word
          (λ one_function. names_differ e is f p.at i j p.name q.name p.there (ap (λ code. slice_get code.params j) (sym one) ∙ q.there) differ);
      scratch_parameters = λ f i m less also.
          let p = parameter_in e is active are f i less in
          above_scratch (parameter_address (site_places e active) f i) m (name_within e is p.word) also;
      callers = λ a x k n less.
          let s = scalar_in e is active are n less in
          kept_apart e is active are active are same_more a (scalar_address (site_places e active) n) s.function (Scalar n) (keeps.by a x k) (first_among active s.function s.first) s.word
          (λ f among. first_behind e is active are s.function f s.first among);
      callers_scratch = λ a x k m less. above_scratch a m (kept_within e is active are a (keeps.by a x k)) less;
      callers_parameters = λ a x k f i less.
          let p = parameter_in e is active are f i less in
          kept_apart e is active are (f ∷ active) p.called (more_by f) a (parameter_address (site_places e active) f i) f p.name (keeps.by a x k) (inl refl) p.word
          (λ h among. behind_differs f i p h (behind_among active h among));
    }

    -- no word in use is one of an object that lives
    not_live : (a : ℕ) → IsReserved (site_places e active) (site_counts e active) kept a → is_live e active a ≡ true → ⊥
    not_live a (OfScalar n less) lives =
        let s = scalar_in e is active are n less in
        live_no_scalar e is active are a a s.function n (live_at e is active are a lives) (first_among active s.function s.first) s.word refl
    not_live a (OfScratch n less) lives = above_scratch a n (live_within e is active are a (live_at e is active are a lives)) less refl
    not_live a (OfParameter f i less) lives =
        let p = parameter_in e is active are f i less in
        live_no_other e is active are (f ∷ active) p.called (more_by f) a a f p.name (live_at e is active are a lives) (inl refl) p.word (λ h among. behind_differs f i p h among) refl
    not_live a (OfCaller b x k) lives = live_no_kept e is active are a a (live_at e is active are a lives) (keeps.by a x k) refl

    pub dead_so : (a : ℕ) → IsReserved (site_places e active) (site_counts e active) kept a → is_live e active a ≡ false
    dead_so a reserved = not_true (is_live e active a) (not_live a reserved)

-- objects lie where code has them
module _ (e : Emission) (is : IsEmission e) where
  pub addresses_so : (active : List ℕ) → AreActive e active → HaveAddresses (site_places e active) (site_addresses e active)
  addresses_so [] are v a at = absurd (none-some a at)
  addresses_so (g ∷ fs) are (Scalar n) a at = absurd (none-some a at)
  addresses_so (g ∷ fs) are (Local n) a at =
      let h = frame_first e is g fs are in
      ap (λ (s : Places). object_address s (Local n)) (places_framed e is g fs h) ∙ ap (λ o. address_in (local_addresses o) n) (sym h.framed) ∙ same_Some (address_in (local_addresses (slice_get e.plan.frames g)) n) a at
  addresses_so (g ∷ fs) are (Static n) a at =
      ap (λ (s : Places). object_address s (Static n)) (places_framed e is g fs (frame_first e is g fs are)) ∙ same_Some (address_in e.plan.statics n) a at
