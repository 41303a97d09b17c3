-- Lists that lie in memory one word behind another, each on a register of its own, are such a placement.
use Rattle.std.proofs.Common.{◌≡◌, ℕ, ◌+◌, List, sym, ap, ◌∙◌, arith}
use Rattle.std.specs.Prelude.{pos}
use Rattle.std.proofs.lemmas.Int.{ints}
use Rattle.emit_blocks.specs.Places.{Places}
use Rattle.lay_cost.specs.Cost.{distance}
use Rattle.lay_cost.specs.Placements.{list_of, place_in, placement_of}
use Rattle.image_proof.specs.RunWalks.{address_of}
use Rattle.image_proof.specs.AgreeingWalks.{register_of, AgreesWith, LieAs}

same_list : (first a b r q : ℕ) → r ≡ first + a → q ≡ first + b → r ≡ q → a ≡ b
same_list first a b r q one two same = omega (arith, one, two, same)

same_distance : (base i j a b : ℕ) → a ≡ base + i → b ≡ base + j → distance (pos i) (pos j) ≡ distance (pos a) (pos b)
same_distance base i j a b one two = omega (arith, ints, one, two)

pub lists_agree : (s : Places) (lists : List (List ℕ)) (first : ℕ) (base : ℕ → ℕ) → LieAs s lists first base → AgreesWith s (placement_of lists)
lists_agree s lists first base lie = record {
  together = λ n m one two same. same_list first (list_of lists n) (list_of lists m) (register_of s n) (register_of s m) (lie.registers n one) (lie.registers m two) same;
  apart = λ n m one two same. lie.registers n one ∙ ap (λ l. first + l) same ∙ sym (lie.registers m two);
  distances = λ n m one two same.
      let list : list_of lists m ≡ list_of lists n = sym (same_list first (list_of lists n) (list_of lists m) (register_of s n) (register_of s m) (lie.registers n one) (lie.registers m two) same) in
      same_distance (base (list_of lists n)) (place_in lists n) (place_in lists m) (address_of s n) (address_of s m) (lie.addresses n one)
      (lie.addresses m two ∙ ap (λ l. base l + place_in lists m) list);
}
