-- A name that is known only to be one somehow is one, since that can be decided.
use Rattle.std.proofs.Common.{◌≡◌, ◌≤◌, ◌⊎◌, inl, inr, ⊎_elim, ℕ, suc, List, [], ◌∷◌, length, arith, All}
use Rattle.std.specs.Prelude.{slice_index}
use Rattle.std.proofs.Math.Logic.{∥∥₁_elim}
use Rattle.std.proofs.lemmas.Bool.{cases_lt}
use Rattle.std.proofs.lemmas.List.Elements.{All-cons, All-nil}
use Rattle.word_base.specs.Name.{IsName, IsWithin, IsNameStart, IsNamePart}

-- it holds or it doesn't
abbrev Either : Type 0 → Type 0
Either P = P ⊎ (P → ⊥)

empty_prop : IsProp ⊥
empty_prop a b = absurd a

pub known_either : {P : Type 0} → Either P → ∥ P ∥₁ → P
known_either (inl h) known = h
known_either (inr not) known = absurd (∥∥₁_elim known empty_prop (λ h. not h))

both_either : {P Q : Type 0} → Either P → Either Q → Either (P × Q)
both_either (inl p) (inl q) = inl (p, q)
both_either (inl p) (inr q) = inr (λ h. q h.1)
both_either (inr p) q = inr (λ h. p h.0)

one_either : {P Q : Type 0} → Either P → Either Q → Either (P ⊎ Q)
one_either (inl p) q = inl (inl p)
one_either (inr p) (inl q) = inl (inr q)
one_either (inr p) (inr q) = inr (λ h. ⊎_elim p q h)

most : (a b : ℕ) → Either (a ≤ b)
most a b = ⊎_elim (λ less. inr (λ h. absurd (omega (arith, less, h)))) (λ h. inl h) (cases_lt b a)

pub same : (a b : ℕ) → Either (a ≡ b)
same a b = go (most a b) (most b a)
  where
    go : Either (a ≤ b) → Either (b ≤ a) → Either (a ≡ b)
    go (inl h) (inl k) = inl (omega (arith, h, k))
    go (inl h) (inr k) = inr (λ e. k (omega (arith, e)))
    go (inr h) k = inr (λ e. h (omega (arith, e)))

within : (low high c : ℕ) → Either (IsWithin low high c)
within low high c = both_either (most low c) (most c high)

start : (c : ℕ) → Either (IsNameStart c)
start c = one_either (within 65 90 c) (one_either (within 97 122 c) (same c 95))

part : (c : ℕ) → Either (IsNamePart c)
part c = one_either (start c) (within 48 57 c)

parts : (bytes : List ℕ) → Either (All IsNamePart bytes)
parts [] = inl (All-nil IsNamePart)
parts (b ∷ bs) = go (part b) (parts bs)
  where
    go : Either (IsNamePart b) → Either (All IsNamePart bs) → Either (All IsNamePart (b ∷ bs))
    go (inl h) (inl k) = inl (All-cons IsNamePart b bs h k)
    go (inl h) (inr k) = inr (λ all. k (λ i d below. all (suc i) d (omega (arith, below))))
    go (inr h) k = inr (λ all. h (all 0 b (omega arith)))

pub name_either : (bytes : List ℕ) → Either (IsName bytes)
name_either bytes = go (most 1 (length bytes)) (most (length bytes) 127) (start (slice_index bytes 0)) (parts bytes)
  where
    go : Either (1 ≤ length bytes) → Either (length bytes ≤ 127) → Either (IsNameStart (slice_index bytes 0)) → Either (All IsNamePart bytes) → Either (IsName bytes)
    go (inl a) (inl b) (inl c) (inl d) = inl (record { from_one = a; to_127 = b; first = c; each = d })
    go (inl a) (inl b) (inl c) (inr d) = inr (λ h. d h.each)
    go (inl a) (inl b) (inr c) d = inr (λ h. c h.first)
    go (inl a) (inr b) c d = inr (λ h. b h.to_127)
    go (inr a) b c d = inr (λ h. a h.from_one)

-- of each of a list
pub names_either : (names : List (List ℕ)) → Either (All IsName names)
names_either [] = inl (All-nil IsName)
names_either (n ∷ ns) = go (name_either n) (names_either ns)
  where
    go : Either (IsName n) → Either (All IsName ns) → Either (All IsName (n ∷ ns))
    go (inl h) (inl k) = inl (All-cons IsName n ns h k)
    go (inl h) (inr k) = inr (λ all. k (λ i d below. all (suc i) d (omega (arith, below))))
    go (inr h) k = inr (λ all. h (all 0 n (omega arith)))
