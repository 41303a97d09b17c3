-- The chain of a source is one: what is said of it leaves no choice.
use Rattle.std.proofs.Common.{◌≡◌, ℕ, List, [], ◌∷◌, map, ap, ◌∙◌, sym, subst, inl, inr, arith, Some}
use Rattle.std.proofs.lemmas.Bool.{cases_order}
use Rattle.c_rules.specs.Chains.{name_of, IsChain}
use Rattle.c_rules.specs.Programs.{HasNoCycle}
use Rattle.c_rules.specs.Rounds.{IsLess, IsBefore, IsNotAfter, IsFirstRound}
use Rattle.c_rules.specs.Units.{TypedFunction}
use Rattle.c_rules.proofs.OrderLemmas.{before-trans}

not_less : (xs : List ℕ) → ¬ IsLess xs xs
not_less [] less = less
not_less (x ∷ xs) (inl less) = omega (arith, less)
not_less (x ∷ xs) (inr less) = not_less xs less.1

not_before : (xs : List ℕ) → ¬ IsBefore xs xs
not_before xs (inl less) = omega (arith, less)
not_before xs (inr less) = not_less xs less.1

same_list : (xs ys : List ℕ) → IsNotAfter xs ys → IsNotAfter ys xs → xs ≡ ys
same_list xs ys (inl same) other = same
same_list xs ys (inr before) (inl same) = sym same
same_list xs ys (inr before) (inr behind) = absurd (not_before xs (before-trans xs ys xs before behind))

same_number : (calls : ℕ → ℕ → Type 0) (n k : ℕ) (ms vs : List ℕ) → IsFirstRound calls n ms → IsFirstRound calls k vs → n ≡ k
same_number calls n k ms vs one other =
    elim (cases_order n k) [
      | inl same ↦ same
      | inr (inl less) ↦ absurd (other.first n ms less one.round)
      | inr (inr more) ↦ absurd (one.first k vs more other.round)
    ]

same_round : (calls : ℕ → ℕ → Type 0) (n k : ℕ) (ms vs : List ℕ) → IsFirstRound calls n ms → IsFirstRound calls k vs → n ∷ ms ≡ k ∷ vs
same_round calls n k ms vs one other =
    let same = same_number calls n k ms vs one other in
    let here : IsFirstRound calls n vs = subst (λ m. IsFirstRound calls m vs) (sym same) other in
    ap (λ l. n ∷ l) (same_list ms vs (one.least vs here.round) (here.least ms one.round)) ∙ ap (λ m. m ∷ vs) same

same_somes : {A : Type 0} (xs ys : List A) → map (λ x. Some x) xs ≡ map (λ x. Some x) ys → xs ≡ ys
same_somes [] [] same = cc
same_somes [] (y ∷ ys) same = absurd (cc same)
same_somes (x ∷ xs) [] same = absurd (cc same)
same_somes (x ∷ xs) (y ∷ ys) same =
    let tails : map (λ z. Some z) xs ≡ map (λ z. Some z) ys = cc same in
    let heads : x ≡ y = cc same in ap (λ l. x ∷ l) (same_somes xs ys tails) ∙ ap (λ z. z ∷ ys) heads

pub chain_is_one : (fs : List TypedFunction) (chain other : List (List ℕ)) → IsChain fs chain → IsChain fs other → chain ≡ other
chain_is_one fs chain other one two =
    let numbers = same_round _ one.number two.number one.over two.over one.is_first two.is_first
    in same_somes chain other (one.names ∙ ap (map (name_of fs)) numbers ∙ sym two.names)

pub chain_or_none : (fs : List TypedFunction) (chain : List (List ℕ)) → IsChain fs chain → ¬ HasNoCycle fs
chain_or_none fs chain one none = none one.number one.over one.is_first.round
