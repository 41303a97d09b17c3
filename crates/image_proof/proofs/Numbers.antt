-- The scalar at an address, where no two have one address.
use Rattle.std.proofs.Common.{◌≡◌, ◌≢◌, ◌<◌, ℕ, zero, suc, ◌+◌, Bool, true, false, cond, List, [], ◌∷◌, length, Some, None, refl, ap, ◌∙◌, eqb-true, eq-eqb, ne_eqb, arith}
use Rattle.std.specs.Prelude.{◌==◌, slice_get}
use Rattle.std.proofs.lemmas.Option.{none-some, same_Some}
use Rattle.emit_blocks.specs.declared.site.ScalarPlace.{ScalarPlace}
use Rattle.emit_blocks.specs.Places.{scalar_or_zero}
use Rattle.image_proof.specs.Kept.{number_at}

abbrev address_at : List ScalarPlace → ℕ → ℕ
address_at ps n = (scalar_or_zero (slice_get ps n)).address

pub record NumberAt (ps : List ScalarPlace) (k a n : ℕ) : Type 0 where
  pub index : ℕ
  pub less : index < length ps
  pub is : k + index ≡ n
  pub address : (scalar_or_zero (slice_get ps index)).address ≡ a

number_by : (p : ScalarPlace) (ps : List ScalarPlace) (k a n : ℕ) → (number_at ps (suc k) a ≡ Some n → NumberAt ps (suc k) a n) → (b : Bool) → (p.address == a) ≡ b → cond b (Some k) (number_at ps (suc k) a) ≡ Some n → NumberAt (p ∷ ps) k a n
number_by p ps k a n later true same is =
    let here : k + 0 ≡ k = omega arith in
    record { index = 0; less = omega arith; is = here ∙ same_Some k n is; address = eqb-true p.address a same }
number_by p ps k a n later false same is =
    let h = later is in
    let further : k + suc h.index ≡ suc k + h.index = omega arith in
    let less = h.less in
    record { index = suc h.index; less = omega (arith, less); is = further ∙ h.is; address = h.address }

pub number_found : (ps : List ScalarPlace) (k a n : ℕ) → number_at ps k a ≡ Some n → NumberAt ps k a n
number_found [] k a n is = absurd (none-some n is)
number_found (p ∷ ps) k a n is = number_by p ps k a n (number_found ps (suc k) a n) (p.address == a) refl is

pub number_none : (ps : List ScalarPlace) (k a : ℕ) → ((i : ℕ) → i < length ps → address_at ps i ≢ a) → number_at ps k a ≡ None
number_none [] k a differ = refl
number_none (p ∷ ps) k a differ =
    ap (λ b. cond b (Some k) (number_at ps (suc k) a)) (ne_eqb p.address a (differ 0 (omega arith)))
    ∙ number_none ps (suc k) a (λ i less. differ (suc i) (omega (arith, less)))

pub number_there : (ps : List ScalarPlace) (k a n : ℕ) → n < length ps → address_at ps n ≡ a → ((i : ℕ) → i < length ps → i ≢ n → address_at ps i ≢ a) → number_at ps k a ≡ Some (k + n)
number_there [] k a n less is differ = absurd (omega (arith, less))
number_there (p ∷ ps) k a zero less is differ =
    let here : k ≡ k + 0 = omega arith in
    ap (λ b. cond b (Some k) (number_at ps (suc k) a)) (eq-eqb p.address a is) ∙ ap Some here
number_there (p ∷ ps) k a (suc n) less is differ =
    let further : suc k + n ≡ k + suc n = omega arith in
    ap (λ b. cond b (Some k) (number_at ps (suc k) a)) (ne_eqb p.address a (differ 0 (omega arith) (λ same. omega (arith, same))))
    ∙ number_there ps (suc k) a n (omega (arith, less)) is (λ i few other. differ (suc i) (omega (arith, few)) (λ same. other (omega (arith, same)))) ∙ ap Some further
