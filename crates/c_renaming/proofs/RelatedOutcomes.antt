-- Outcomes that are related: both are something, and these are related, or both break one rule, at places that are one renamed.
use Rattle.std.proofs.Common.{◌≡◌, ℕ, Bool, true, false, refl, sym, ap, ◌∙◌, subst}
use Rattle.c_rules.specs.declared.fault.Rule.{Rule}
use Rattle.c_rules.specs.Outcome.{Outcome, Is, Broken, ◌>>=◌, breaks}
use Rattle.c_renaming.proofs.OutcomeLemmas.{renamed_outcome}

abbrev pub same_value : {A : Type 0} → A → A
same_value a = a

pub broken_renamed : {A B : Type 0} (p : ℕ → ℕ) (g : A → B) (rule : Rule) (at : ℕ) (b c : Bool) (o : Outcome A) (o' : Outcome B)
    → c ≡ b → o' ≡ renamed_outcome p g o → breaks c rule (p at) o' ≡ renamed_outcome p g (breaks b rule at o)
broken_renamed p g rule at true c o o' same e = ap (λ x. breaks x rule (p at) o') same
broken_renamed p g rule at false c o o' same e = ap (λ x. breaks x rule (p at) o') same ∙ e

abbrev pub AreRelated : {A B : Type 0} → (ℕ → ℕ) → (A → B → Type 0) → Outcome A → Outcome B → Type 0
AreRelated p R (Is a) (Is b) = R a b
AreRelated p R (Broken rule at) (Broken other place) = (other ≡ rule) × (place ≡ p at)
AreRelated p R (Is a) (Broken rule at) = ⊥
AreRelated p R (Broken rule at) (Is b) = ⊥

module _ {A B C D : Type 0} (p : ℕ → ℕ) where
  pub then_related : (R : A → C → Type 0) (S : B → D → Type 0) (o : Outcome A) (o' : Outcome C) (k : A → Outcome B) (k' : C → Outcome D)
      → AreRelated p R o o' → ((a : A) (c : C) → R a c → AreRelated p S (k a) (k' c)) → AreRelated p S (o >>= k) (o' >>= k')
  then_related R S (Is a) (Is c) k k' e h = h a c e
  then_related R S (Is a) (Broken rule at) k k' e h = absurd e
  then_related R S (Broken rule at) (Is c) k k' e h = absurd e
  then_related R S (Broken rule at) (Broken other place) k k' e h = e

  pub equal_related : (f : A → C) (S : B → D → Type 0) (o : Outcome A) (o' : Outcome C) (k : A → Outcome B) (k' : C → Outcome D)
      → o' ≡ renamed_outcome p f o → ((a : A) → AreRelated p S (k a) (k' (f a))) → AreRelated p S (o >>= k) (o' >>= k')
  equal_related f S (Is a) o' k k' e h = subst (λ x. AreRelated p S (k a) (x >>= k')) (sym e) (h a)
  equal_related f S (Broken rule at) o' k k' e h = subst (λ x. AreRelated p S (Broken rule at) (x >>= k')) (sym e) (refl, refl)

  pub related_equal : (R : A → C → Type 0) (g : B → D) (o : Outcome A) (o' : Outcome C) (k : A → Outcome B) (k' : C → Outcome D)
      → AreRelated p R o o' → ((a : A) (c : C) → R a c → k' c ≡ renamed_outcome p g (k a)) → (o' >>= k') ≡ renamed_outcome p g (o >>= k)
  related_equal R g (Is a) (Is c) k k' e h = h a c e
  related_equal R g (Is a) (Broken rule at) k k' e h = absurd e
  related_equal R g (Broken rule at) (Is c) k k' e h = absurd e
  related_equal R g (Broken rule at) (Broken other place) k k' e h = λ i. Broken (e.0 i) (e.1 i)

pub broken_related : {A B : Type 0} (p : ℕ → ℕ) (R : A → B → Type 0) (rule : Rule) (at : ℕ) (b c : Bool) (o : Outcome A) (o' : Outcome B)
    → c ≡ b → AreRelated p R o o' → AreRelated p R (breaks b rule at o) (breaks c rule (p at) o')
broken_related p R rule at true c o o' same e = subst (λ x. AreRelated p R (Broken rule at) (breaks x rule (p at) o')) (sym same) (refl, refl)
broken_related p R rule at false c o o' same e = subst (λ x. AreRelated p R o (breaks x rule (p at) o')) (sym same) e
