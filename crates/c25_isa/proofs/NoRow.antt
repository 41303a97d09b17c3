-- A first word that is read as nothing is no instruction's, whatever stands behind it.
use Rattle.std.proofs.Common.{◌≡◌, ℕ, ◌/◌, ◌%◌, Bool, true, false, cond, Option, Some, None, IsNone, is_some, refl, sym, ap, ◌∙◌, subst}
use Rattle.std.specs.Prelude.{◌==◌, nat_lt, ⊤, option_map}
use Rattle.c25_isa.specs.declared.operand.Indirect.{Indirect}
use Rattle.c25_isa.specs.declared.instruction.JumpOp.{JumpOp}
use Rattle.c25_isa.specs.declared.instruction.Instr.{Instr}
use Rattle.c25_isa.specs.declared.instruction.Instr.TheVariants.{Branch, Call}
use Rattle.c25_isa.specs.declared.mnemonic.Mnemonic.{Mnemonic}
use Rattle.c25_isa.specs.Rows.{row_of}
use Rattle.c25_isa.specs.Table.{IsInstr, first_word, second_word, length_of}
use Rattle.c25_isa.specs.Decode.{Decoded, two_words, with_target, indirect_of, decode_d, jump_of, decode_jump, decode_f, decode_parts, decode}
use Rattle.c25_isa.specs.CodeAt.{Follows}
use Rattle.c25_isa.proofs.Decoding.{decode-first_word}

-- the row of what is read
abbrev row_read : Decoded → Option Mnemonic
row_read found = option_map (λ d. row_of d.0) found

-- both are something, or neither is, of the same row
record Alike (a b : Decoded) : Type 0 where
  same : is_some a ≡ is_some b
  row : row_read a ≡ row_read b

itself : (a : Decoded) → Alike a a
itself a = record { same = refl; row = refl }

two : (i j : Instr) → row_of i ≡ row_of j → Alike (two_words i) (two_words j)
two i j e = record { same = refl; row = ap Some e }

where_both : (b : Bool) (x y z w : Decoded) → Alike x z → Alike y w → Alike (cond b x y) (cond b z w)
where_both true x y z w h k = h
where_both false x y z w h k = k

alike_target : (f g : Indirect → Instr) (found : Option Indirect) → ((i : Indirect) → row_of (f i) ≡ row_of (g i)) → Alike (with_target f found) (with_target g found)
alike_target f g None e = itself None
alike_target f g (Some i) e = two (f i) (g i) (e i)

alike_jump : (found : Option JumpOp) (low a b : ℕ) → Alike (decode_jump found low a) (decode_jump found low b)
alike_jump None low a b = itself None
alike_jump (Some op) low a b = alike_target (Branch op a) (Branch op b) (indirect_of low) (λ i. refl)

module _ (high n low a b : ℕ) where
  alike_d : Alike (decode_d n low a) (decode_d n low b)
  alike_d =
      where_both (low == 0) _ _ _ _ (where_both (nat_lt n 8) _ _ _ _ (two _ _ refl) (itself _)) (
      where_both (low == 1) _ _ _ _ (two _ _ refl) (
      where_both (low == 2) _ _ _ _ (two _ _ refl) (
      where_both (low == 3) _ _ _ _ (two _ _ refl) (
      where_both (low == 4) _ _ _ _ (where_both (n == 0) _ _ _ _ (two _ _ refl) (itself _)) (
      where_both (low == 5) _ _ _ _ (where_both (n == 0) _ _ _ _ (two _ _ refl) (itself _)) (
      where_both (low == 6) _ _ _ _ (where_both (n == 0) _ _ _ _ (two _ _ refl) (itself _)) (
      itself _)))))))

  alike_f : Alike (decode_f n low a) (decode_f n low b)
  alike_f = where_both (n == 14) _ _ _ _ (alike_target (Call a) (Call b) (indirect_of low) (λ i. refl)) (alike_jump (jump_of n) low a b)

  -- what stands behind a first word doesn't tell whether there is an instruction
  alike_parts : Alike (decode_parts high n low a) (decode_parts high n low b)
  alike_parts =
      where_both (high == 0) _ _ _ _ (itself _) (
      where_both (high == 1) _ _ _ _ (itself _) (
      where_both (high == 2) _ _ _ _ (itself _) (
      where_both (high == 3) _ _ _ _ (itself _) (
      where_both (high == 4) _ _ _ _ (itself _) (
      where_both (high == 5) _ _ _ _ (itself _) (
      where_both (high == 6) _ _ _ _ (itself _) (
      where_both (high == 7) _ _ _ _ (itself _) (
      where_both (high == 8) _ _ _ _ (itself _) (
      where_both (high == 10) _ _ _ _ (itself _) (
      where_both (high == 11) _ _ _ _ (itself _) (
      where_both (high == 12) _ _ _ _ (itself _) (
      where_both (high == 13) _ _ _ _ alike_d (
      where_both (high == 14) _ _ _ _ (itself _) (
      where_both (high == 15) _ _ _ _ alike_f (
      itself _)))))))))))))))

-- a word that may stand behind
abbrev behind : Option ℕ → ℕ
behind None = 0
behind (Some word) = word

behind-follows : (o : Option ℕ) → Follows o (behind o)
behind-follows None = tt
behind-follows (Some word) = refl

-- an instruction's first word with its own second one is read as it
read_back : (i : Instr) (first : ℕ) → IsInstr i → first_word i ≡ first → decode first (behind (second_word i)) ≡ Some (i, length_of (second_word i))
read_back i first fits is =
    ap (λ f. decode f (behind (second_word i))) (sym is) ∙ decode-first_word i (behind (second_word i)) fits (behind-follows (second_word i))

alike : (first a b : ℕ) → Alike (decode first a) (decode first b)
alike first a b = alike_parts (first / 4096) (first / 256 % 16) (first % 256) a b

pub decode-none : (i : Instr) (first second : ℕ) → IsInstr i → first_word i ≡ first → IsNone (decode first second) → ⊥
decode-none i first second fits is none =
    let contrary : true ≡ false = sym (ap is_some (read_back i first fits is)) ∙ (alike first (behind (second_word i)) second).same ∙ none in
    subst (λ b. cond b ⊤ ⊥) contrary tt

-- at most one row has a first word
pub one_row : (i j : Instr) (first : ℕ) → IsInstr i → IsInstr j → first_word i ≡ first → first_word j ≡ first → row_of i ≡ row_of j
one_row i j first fits fits' is is' =
    let same : Some (row_of i) ≡ Some (row_of j) =
    sym (ap row_read (read_back i first fits is)) ∙ (alike first (behind (second_word i)) (behind (second_word j))).row ∙ ap row_read (read_back j first fits' is') in
    cc
