-- Which command a line spells.
use Rattle.std.proofs.Common.{◌≡◌, ◌≢◌, ◌⊎◌, ℕ, ◌<◌, ◌^◌, List, ◌++◌, refl, sym, ap, ◌∙◌, inl, inr, arith}
use Rattle.std.specs.Prelude.{codes, decimal, slice_index}
use Rattle.std.proofs.lemmas.Fmt.{decimal_injective}
use Rattle.word_base.specs.Name.{IsWithin}
use Rattle.text_base.specs.Hex.{hex4}
use Rattle.text_base.proofs.Numbers.{same_behind}
use Rattle.c25_image.proofs.ImageLines.{hex4_injective}
use Rattle.c25_debug.specs.declared.command.Command.{Command}
use Rattle.c25_debug.specs.declared.command.Command.TheVariants.{Break, Delete, Go, Regs, Mem, Stack}
use Rattle.c25_debug.specs.Script.{InRange, command_line, Spells}

-- ---- a line spells one command

-- the first letter of a command's line
abbrev letter : Command → ℕ
letter (Break at) = 98
letter (Delete at) = 100
letter (Go count) = 103
letter Regs = 114
letter (Mem at count) = 109
letter Stack = 115

letter_is : (c : Command) → slice_index (command_line c) 0 ≡ letter c
letter_is (Break at) = refl
letter_is (Delete at) = refl
letter_is (Go count) = refl
letter_is Regs = refl
letter_is (Mem at count) = refl
letter_is Stack = refl

line_one : (c d : Command) → InRange c → InRange d → command_line c ≡ command_line d → c ≡ d
line_one (Break v) (Break w) p q e = let same : hex4 v ≡ hex4 w = cc in ap Break (hex4_injective v w p q same)
line_one (Delete v) (Delete w) p q e = let same : hex4 v ≡ hex4 w = cc in ap Delete (hex4_injective v w p q same)
line_one (Go m) (Go n) p q e = let same : decimal m ≡ decimal n = cc in ap Go (decimal_injective m n (omega (arith, p.1)) (omega (arith, q.1)) same)
line_one Regs Regs p q e = refl
line_one (Mem v m) (Mem w n) p q e =
    let one : hex4 v ≡ hex4 w = cc in
    let two : decimal m ≡ decimal n = cc in
    let at : v ≡ w = hex4_injective v w p.0 q.0 one in
    let count : m ≡ n = decimal_injective m n (omega (arith, p.1.1)) (omega (arith, q.1.1)) two in
    cc (at, count)
line_one Stack Stack p q e = refl
line_one c d p q e = absurd (let other : letter c ≡ letter d = sym (letter_is c) ∙ ap (λ l. slice_index l 0) e ∙ letter_is d in omega (arith, other))

not_step : (c : Command) → command_line c ≢ codes "step"
not_step Stack e = absurd (let other : 97 ≡ 101 = ap (λ l. slice_index l 2) e in omega (arith, other))
not_step c e = absurd (let other : letter c ≡ 115 = sym (letter_is c) ∙ ap (λ l. slice_index l 0) e in omega (arith, other))

pub spells_one : (line : List ℕ) (c d : Command) → Spells line c → Spells line d → c ≡ d
spells_one line c d s t = by s.text t.text
  where
    by : (line ≡ command_line c) ⊎ ((line ≡ codes "step") × (c ≡ Go 1)) → (line ≡ command_line d) ⊎ ((line ≡ codes "step") × (d ≡ Go 1)) → c ≡ d
    by (inl p) (inl q) = line_one c d s.in_range t.in_range (sym p ∙ q)
    by (inl p) (inr q) = absurd (not_step c (sym p ∙ q.0))
    by (inr p) (inl q) = absurd (not_step d (sym q ∙ p.0))
    by (inr p) (inr q) = p.1 ∙ sym q.1

-- ---- a line that spells none

pub spells_none : (line : List ℕ) → line ≢ codes "regs" → line ≢ codes "stack" → ((at : ℕ) → at < 2 ^ 16 → line ≢ codes "break " ++ hex4 at) → ((at : ℕ) → at < 2 ^ 16 → line ≢ codes "delete " ++ hex4 at)
    → ((n : ℕ) → Spells line (Go n) → ⊥) → ((at count : ℕ) → at < 2 ^ 16 → IsWithin 1 256 count → line ≢ codes "mem " ++ (hex4 at ++ (codes " " ++ decimal count))) → (command : Command) → Spells line command → ⊥
spells_none line regs stack breaks deletes goes mem (Break at) s = elim s.text [ inl p ↦ breaks at s.in_range p | inr p ↦ absurd (let other : 98 ≡ 103 = ap letter p.1 in omega (arith, other)) ]
spells_none line regs stack breaks deletes goes mem (Delete at) s = elim s.text [ inl p ↦ deletes at s.in_range p | inr p ↦ absurd (let other : 100 ≡ 103 = ap letter p.1 in omega (arith, other)) ]
spells_none line regs stack breaks deletes goes mem (Go n) s = goes n s
spells_none line regs stack breaks deletes goes mem Regs s = elim s.text [ inl p ↦ regs p | inr p ↦ absurd (let other : 114 ≡ 103 = ap letter p.1 in omega (arith, other)) ]
spells_none line regs stack breaks deletes goes mem (Mem at count) s = elim s.text [ inl p ↦ mem at count s.in_range.0 s.in_range.1 p | inr p ↦ absurd (let other : 109 ≡ 103 = ap letter p.1 in omega (arith, other)) ]
spells_none line regs stack breaks deletes goes mem Stack s = elim s.text [ inl p ↦ stack p | inr p ↦ absurd (let other : 115 ≡ 103 = ap letter p.1 in omega (arith, other)) ]

-- a line that spells no `go`
pub goes_none : (line : List ℕ) → line ≢ codes "step" → ((n : ℕ) → IsWithin 1 100000 n → line ≢ codes "go " ++ decimal n) → (n : ℕ) → Spells line (Go n) → ⊥
goes_none line step go n s = elim s.text [ inl p ↦ go n s.in_range p | inr p ↦ step p.0 ]

-- ---- the number behind a word

pub number_is : (line word : List ℕ) (m n : ℕ) → m < 2 ^ 64 → n < 2 ^ 64 → line ≡ word ++ decimal m → line ≡ word ++ decimal n → m ≡ n
number_is line word m n p q e f = decimal_injective m n p q (same_behind word (decimal m) (decimal n) (sym e ∙ f))
