-- What a walk finds in code, by the parts of the code.
use Rattle.std.proofs.Common.{◌≡◌, ℕ, ◌+◌, if◌then◌else◌, Bool, true, false, List, [], ◌∷◌, ◌++◌, length, Option, Some, None, refl, sym, ap, ◌∙◌, append_assoc, length-append, subst, arith}
use Rattle.std.specs.Prelude.{option_to_list}
use Rattle.c25_isa.specs.declared.instruction.Instr.{Instr}
use Rattle.c25_isa.specs.Table.{second_word, length_of}
use Rattle.c25_isa.specs.Walk.{Placed, Known, Listed, Unlisted, access, listed, unknown_at, along, known_behind}
use Rattle.c25_isa.specs.AddressCount.{is_address_instruction}
use Rattle.image_proof.specs.RunWalks.{placed_from, listed_along, unknown_along, counted_along, WalksAs}

-- what is known behind code
abbrev pub known_after : Known → List Instr → Known
known_after k [] = k
known_after k (i ∷ is) = known_after (known_behind k i) is

pub after_parts : (k : Known) (a b : List Instr) → known_after k (a ++ b) ≡ known_after (known_after k a) b
after_parts k [] b = refl
after_parts k (i ∷ a) b = after_parts (known_behind k i) a b

-- where code ends
abbrev end_of : ℕ → List Instr → ℕ
end_of at [] = at
end_of at (i ∷ is) = end_of (at + length_of (second_word i)) is

along_parts : (gives : Known → Placed → Option ℕ) (k : Known) (at : ℕ) (a b : List Instr) → along gives k (placed_from at (a ++ b)) ≡ along gives k (placed_from at a) ++ along gives (known_after k a) (placed_from (end_of at a) b)
along_parts gives k at [] b = refl
along_parts gives k at (i ∷ a) b =
    let next : ℕ = at + length_of (second_word i) in
    let first : List ℕ = option_to_list (gives k (record { at = at; instr = i; behind = next })) in
    ap (λ rest. first ++ rest) (along_parts gives (known_behind k i) next a b)
    ∙ sym (append_assoc first (along gives (known_behind k i) (placed_from next a)) (along gives (known_after (known_behind k i) a) (placed_from (end_of next a) b)))

-- what code gives by what is known before it
pub record Gives (k : Known) (code : List Instr) (addresses : List ℕ) (count : ℕ) : Type 0 where
  pub addresses_so : (at : ℕ) → listed_along k (placed_from at code) ≡ addresses
  pub known_so : (at : ℕ) → unknown_along k (placed_from at code) ≡ []
  pub counted_so : (at : ℕ) → length (counted_along k (placed_from at code)) ≡ count

pub gives_none : (k : Known) → Gives k [] [] 0
gives_none k = record { addresses_so = λ at. refl; known_so = λ at. refl; counted_so = λ at. refl }

pub gives_both : (k : Known) (a b : List Instr) (xs ys : List ℕ) (n m : ℕ) → Gives k a xs n → Gives (known_after k a) b ys m → Gives k (a ++ b) (xs ++ ys) (n + m)
gives_both k a b xs ys n m front back = record {
  addresses_so = λ at. along_parts (λ known p. listed (access known p.instr)) k at a b ∙ ap (λ l. l ++ listed_along (known_after k a) (placed_from (end_of at a) b)) (front.addresses_so at) ∙ ap (λ l. xs ++ l) (back.addresses_so (end_of at a));
  known_so = λ at. along_parts (λ known p. unknown_at p.at (access known p.instr)) k at a b ∙ ap (λ l. l ++ unknown_along (known_after k a) (placed_from (end_of at a) b)) (front.known_so at) ∙ back.known_so (end_of at a);
  counted_so = λ at. ap length (along_parts (λ known p. if is_address_instruction known p.instr then Some p.at else None) k at a b)
      ∙ length-append (counted_along k (placed_from at a)) (counted_along (known_after k a) (placed_from (end_of at a) b))
      ∙ ap (λ l. l + length (counted_along (known_after k a) (placed_from (end_of at a) b))) (front.counted_so at)
      ∙ ap (λ l. n + l) (back.counted_so (end_of at a));
}

-- behind code in which there is nothing
pub gives_after : (k : Known) (a b : List Instr) (ys : List ℕ) (m : ℕ) → Gives k a [] 0 → Gives (known_after k a) b ys m → Gives k (a ++ b) ys m
gives_after k a b ys m front back =
    let count : 0 + m ≡ m = omega arith in
    subst (Gives k (a ++ b) ys) count (gives_both k a b [] ys 0 m front back)

-- one instruction that accesses no scalar, and one that does
abbrev pub one_if : Bool → ℕ
one_if true = 1
one_if false = 0

counts : (b : Bool) (at : ℕ) → length (option_to_list (if b then Some at else None) ++ []) ≡ one_if b
counts true at = refl
counts false at = refl

pub gives_counted : (k : Known) (i : Instr) (b : Bool) → access k i ≡ Unlisted → is_address_instruction k i ≡ b → Gives k (i ∷ []) [] (one_if b)
gives_counted k i b found counted = record {
  addresses_so = λ at. ap (λ x. option_to_list (listed x) ++ []) found;
  known_so = λ at. ap (λ x. option_to_list (unknown_at at x) ++ []) found;
  counted_so = λ at. counts (is_address_instruction k i) at ∙ ap one_if counted;
}

pub gives_listed : (k : Known) (i : Instr) (a : ℕ) → access k i ≡ Listed a → is_address_instruction k i ≡ false → Gives k (i ∷ []) (a ∷ []) 0
gives_listed k i a found counted = record {
  addresses_so = λ at. ap (λ x. option_to_list (listed x) ++ []) found;
  known_so = λ at. ap (λ x. option_to_list (unknown_at at x) ++ []) found;
  counted_so = λ at. counts (is_address_instruction k i) at ∙ ap one_if counted;
}

-- whatever is known before it
pub walks_as : (code : List Instr) (xs : List ℕ) (n : ℕ) → ((k : Known) → Gives k code xs n) → WalksAs code xs n
walks_as code xs n gives = record {
  addresses_so = λ k at. (gives k).addresses_so at;
  known_so = λ k at. (gives k).known_so at;
  counted_so = λ k at. (gives k).counted_so at;
}
