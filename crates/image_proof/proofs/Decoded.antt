-- The instructions of code are decoded from its words, one behind another.
use Rattle.std.proofs.Common.{◌≡◌, ℕ, ◌+◌, ◌-◌, ◌≤◌, List, [], ◌∷◌, ◌++◌, length, Option, Some, None, slice_index, refl, ap, ◌∙◌, arith}
use Rattle.std.specs.Prelude.{nat_lt}
use Rattle.std.specs.List.{AllByRecursion}
use Rattle.std.proofs.lemmas.Bool.{le-ltb, cond-false}
use Rattle.c25_isa.specs.declared.instruction.Instr.{Instr}
use Rattle.c25_isa.specs.Table.{IsInstr, first_word, second_word, with_second, length_of, code_words}
use Rattle.c25_isa.specs.CodeAt.{Follows}
use Rattle.c25_isa.specs.Decode.{decode}
use Rattle.c25_isa.specs.Walk.{Code, code_from, with_rest, in_front}
use Rattle.c25_isa.proofs.Decoding.{decode-first_word}
use Rattle.image_proof.specs.RunWalks.{placed_from}

-- an instruction whose words are there, before others
front : (at left n : ℕ) (i : Instr) (rest : ℕ → Code) → n ≤ left → with_rest at left (Some (i, n)) rest ≡ in_front (record { at = at; instr = i; behind = at + n }) (rest (n - 1))
front at left n i rest le = cond-false (nat_lt left n) _ _ (le-ltb left n le)

-- the first word, with what decoding makes of it and any word behind it
one : (i : Instr) (first : ℕ) (second : Option ℕ) (rest : List ℕ) (at : ℕ) → ((next : ℕ) → Follows second next → decode first next ≡ Some (i, length_of second))
    → code_from at 0 (with_second first second ++ rest) ≡ in_front (record { at = at; instr = i; behind = at + length_of second }) (code_from (at + length_of second) 0 rest)
one i first None rest at d =
    ap (λ x. with_rest at (length rest + 1) x (λ within. code_from (at + 1) within rest)) (d (slice_index rest 0) tt)
    ∙ front at (length rest + 1) 1 i (λ within. code_from (at + 1) within rest) (omega arith)
one i first (Some word) rest at d =
    let behind : at + 1 + 1 ≡ at + 2 = omega arith in
    ap (λ x. with_rest at (length (word ∷ rest) + 1) x (λ within. code_from (at + 1) within (word ∷ rest))) (d word refl)
    ∙ front at (length (word ∷ rest) + 1) 2 i (λ within. code_from (at + 1) within (word ∷ rest)) (omega arith)
    ∙ ap (λ a. in_front (record { at = at; instr = i; behind = at + 2 }) (code_from a 0 rest)) behind

pub decoded : (code : List Instr) (at : ℕ) → AllByRecursion IsInstr code → code_from at 0 (code_words code) ≡ record { placed = placed_from at code; fault = None }
decoded [] at fit = refl
decoded (i ∷ code) at fit =
    one i (first_word i) (second_word i) (code_words code) at (λ next f. decode-first_word i next fit.0 f)
    ∙ ap (in_front (record { at = at; instr = i; behind = at + length_of (second_word i) })) (decoded code (at + length_of (second_word i)) fit.1)
