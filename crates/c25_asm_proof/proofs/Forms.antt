-- The operands of each form as a listing writes them are read.
use Rattle.std.proofs.Common.{◌≡◌, ℕ, ◌<◌, ◌≤◌, ◌^◌, Bool, true, false, List, [], ◌∷◌, ◌++◌, Option, Some, None, refl, ap, ◌∙◌, arith, append-nil}
use Rattle.std.specs.Prelude.{codes, decimal, if◌then◌else◌, Result, Ok, Err}
use Rattle.std.specs.List.{AllByRecursion}
use Rattle.std.specs.Fmt.{signed_decimal}
use Rattle.c25_isa.specs.declared.operand.Change.{Change}
use Rattle.c25_isa.specs.declared.operand.Change.TheVariants.{Stay, Down, Up, DownIndex, UpIndex}
use Rattle.c25_isa.specs.declared.operand.Indirect.{Indirect}
use Rattle.c25_isa.specs.declared.operand.Operand.{Operand}
use Rattle.c25_isa.specs.declared.operand.Operand.TheVariants as operand
use Rattle.c25_isa.specs.declared.mnemonic.Form.{Form}
use Rattle.c25_isa.specs.declared.mnemonic.Form.TheVariants as form
use Rattle.c25_isa.specs.declared.fields.Fields.{Fields}
use Rattle.c25_isa.specs.declared.fields.Fields.TheVariants as fields
use Rattle.c25_isa.specs.Table.{IsNext, IsIndirect, IsOperand, FitsForm}
use Rattle.c25_image.specs.Hex.{hex4}
use Rattle.c25_dis.specs.declared.part.Part.{Part}
use Rattle.c25_dis.specs.declared.part.Part.TheVariants as part
use Rattle.c25_dis.specs.Operands.{hex2, hex3, change_text, place_text, behind_commas, next_parts, next_of, is_idle, target_parts, parts_of}
use Rattle.c25_asm.specs.Operands as asm
use Rattle.c25_asm.specs.declared.statement.LineFault.{LineFault}
use Rattle.c25_asm.specs.declared.statement.LineFault.TheVariants.{BadLine}
use Rattle.c25_asm.specs.Cuts.{first_operand, more_operands}
use Rattle.c25_asm.specs.Numbers.{number, below, signed_number}
use Rattle.c25_asm.specs.Names.{Labels}
use Rattle.c25_asm.specs.Operands.{both, made, with_more, register, port, word, indirect_with, indirect, place, behind_place, busy, jump_operand, form_operands}
use Rattle.c25_asm_proof.proofs.Plain.{ArePlain, hex4_plain, decimal_plain}
use Rattle.c25_asm_proof.proofs.Numbers.{hex2_read, hex3_read, hex4_read, decimal_read, signed_read, register_read, port_read}
use Rattle.c25_asm_proof.proofs.Parts.{rest_text, joined, first_read, more_read, indirect_read, place_read, word_read, below_read, place_plain, IsWritten, place_written, shift_written, register_written, port_written, byte_written, page_written, word_written, signed_written, next_written, next_fits}

-- no row has more shifts
abbrev pub IsNarrow : Form → Type 0
IsNarrow (form.ShiftedMemory shifts) = shifts ≤ 16
IsNarrow kind = Unit {0}

both_ok : {A B C : Type 0} (make : A × B → C) (r : Result A LineFault) (s : Result B LineFault) (a : A) (b : B) → r ≡ Ok a → s ≡ Ok b → made make (both r s) ≡ Ok (make (a, b))
both_ok make r s a b e f = ap (λ x. made make (both x s)) e ∙ ap (λ x. made make (both (Ok a) x)) f

-- what is read of a first operand and of what stands behind it
cut_read : {A : Type 0} (make : List ℕ → Option (List ℕ) → Result A LineFault) (text : List ℕ) (ps : List Part) (r : Result A LineFault) → ArePlain text
    → make text (rest_text ps) ≡ r → make (first_operand (text ++ behind_commas ps)) (more_operands (text ++ behind_commas ps)) ≡ r
cut_read make text ps r plain e =
    ap (λ t. make t (more_operands (text ++ behind_commas ps))) (first_read text ps plain)
    ∙ ap (make text) (more_read text ps plain)
    ∙ e

small : (n m : ℕ) → n < m → m ≤ 65536 → n < 2 ^ 64
small n m lt le = omega (arith, lt, le)

shifted : (shifts s : ℕ) (o : Operand) → shifts ≤ 16 → s < shifts → IsOperand o → (labels : Labels)
    → form_operands labels (form.ShiftedMemory shifts) (joined (parts_of (fields.ShiftedMemory s o))) ≡ Ok (fields.ShiftedMemory s o)
shifted shifts s o narrow lt h labels =
    let next : List Part = next_parts (next_of o) in
    let make : ℕ × Operand → Fields = λ p. fields.ShiftedMemory p.0 p.1 in
    cut_read (λ t rest. with_more (λ more. made make (both (below shifts (number (first_operand more))) (place t (more_operands more)))) rest)
    (place_text o) (part.Shift s ∷ next) (Ok (fields.ShiftedMemory s o)) (place_plain o)
    (cut_read (λ t rest. made make (both (below shifts (number t)) (place (place_text o) rest))) (decimal s) next (Ok (fields.ShiftedMemory s o)) (decimal_plain s (small s shifts lt (omega (arith, narrow))))
    (both_ok make _ _ s o (below_read shifts (decimal s) s (decimal_read s (small s shifts lt (omega (arith, narrow)))) lt) (place_read o h)))

ported : (p : ℕ) (o : Operand) → p < 16 → IsOperand o → (labels : Labels)
    → form_operands labels form.PortMemory (joined (parts_of (fields.PortMemory p o))) ≡ Ok (fields.PortMemory p o)
ported p o lt h labels =
    let next : List Part = next_parts (next_of o) in
    let make : ℕ × Operand → Fields = λ p. fields.PortMemory p.0 p.1 in
    cut_read (λ t rest. with_more (λ more. made make (both (port (first_operand more)) (place t (more_operands more)))) rest)
    (place_text o) (part.Port p ∷ next) (Ok (fields.PortMemory p o)) (place_plain o)
    (cut_read (λ t rest. made make (both (port t) (place (place_text o) rest))) (codes "PA" ++ decimal p) next (Ok (fields.PortMemory p o)) (port_written p (small p 16 lt (omega arith))).plain
    (both_ok make _ _ p o (port_read p lt) (place_read o h)))

registered : (r : ℕ) (o : Operand) → r < 8 → IsOperand o → (labels : Labels)
    → form_operands labels form.RegisterMemory (joined (parts_of (fields.RegisterMemory r o))) ≡ Ok (fields.RegisterMemory r o)
registered r o lt h labels =
    let next : List Part = next_parts (next_of o) in
    let make : ℕ × Operand → Fields = λ p. fields.RegisterMemory p.0 p.1 in
    cut_read (λ t rest. with_more (λ more. made make (both (register t) (place (first_operand more) (more_operands more)))) rest)
    (codes "AR" ++ decimal r) (part.Place o ∷ next) (Ok (fields.RegisterMemory r o)) (register_written r (small r 8 lt (omega arith))).plain
    (cut_read (λ t rest. made make (both (register (codes "AR" ++ decimal r)) (place t rest))) (place_text o) next (Ok (fields.RegisterMemory r o)) (place_plain o)
    (both_ok make _ _ r o (register_read r lt) (place_read o h)))

constant : (r n : ℕ) → r < 8 → n < 256 → (labels : Labels)
    → form_operands labels form.RegisterConstant (joined (parts_of (fields.RegisterConstant r n))) ≡ Ok (fields.RegisterConstant r n)
constant r n lt less labels =
    let make : ℕ × ℕ → Fields = λ p. fields.RegisterConstant p.0 p.1 in
    cut_read (λ t rest. with_more (λ more. made make (both (register t) (below 256 (number more)))) rest)
    (codes "AR" ++ decimal r) (part.Byte n ∷ []) (Ok (fields.RegisterConstant r n)) (register_written r (small r 8 lt (omega arith))).plain
    (both_ok make _ _ r n (register_read r lt) (below_read 256 ((codes "0x" ++ hex2 n) ++ []) n (ap number (append-nil (codes "0x" ++ hex2 n)) ∙ hex2_read n less) less))

shifted_word : (s w : ℕ) → s < 16 → w < 65536 → (labels : Labels)
    → form_operands labels form.ShiftedWord (joined (parts_of (fields.ShiftedWord s w))) ≡ Ok (fields.ShiftedWord s w)
shifted_word s w lt less labels =
    let make : ℕ × ℕ → Fields = λ p. fields.ShiftedWord p.1 p.0 in
    cut_read (λ t rest. with_more (λ more. made make (both (word labels t) (below 16 (number more)))) rest)
    (codes "0x" ++ hex4 w) (part.Shift s ∷ []) (Ok (fields.ShiftedWord s w)) (hex4_plain w less)
    (both_ok make _ _ w s (word_read labels (codes "0x" ++ hex4 w) w (hex4_read w less) less) (below_read 16 (decimal s ++ []) s (ap number (append-nil (decimal s)) ∙ decimal_read s (small s 16 lt (omega arith))) lt))

register_word : (r w : ℕ) → r < 8 → w < 65536 → (labels : Labels)
    → form_operands labels form.RegisterWord (joined (parts_of (fields.RegisterWord r w))) ≡ Ok (fields.RegisterWord r w)
register_word r w lt less labels =
    let make : ℕ × ℕ → Fields = λ p. fields.RegisterWord p.0 p.1 in
    cut_read (λ t rest. with_more (λ more. made make (both (register t) (word labels more))) rest)
    (codes "AR" ++ decimal r) (part.Word w ∷ []) (Ok (fields.RegisterWord r w)) (register_written r (small r 8 lt (omega arith))).plain
    (both_ok make _ _ r w (register_read r lt) (word_read labels ((codes "0x" ++ hex4 w) ++ []) w (ap number (append-nil (codes "0x" ++ hex4 w)) ∙ hex4_read w less) less))

-- both crates mean the same operands
same_idle : (change : Change) (next : Option ℕ) → asm.is_idle change next ≡ is_idle change next
same_idle Stay None = refl
same_idle Stay (Some r) = refl
same_idle Down next = refl
same_idle Up next = refl
same_idle DownIndex next = refl
same_idle UpIndex next = refl

idle_is : (change : Change) (next : Option ℕ) → is_idle change next ≡ true → indirect_with Stay None ≡ indirect_with change next
idle_is Stay None e = refl
idle_is Stay (Some r) e = absurd cc
idle_is Down next e = absurd cc
idle_is Up next e = absurd cc
idle_is DownIndex next e = absurd cc
idle_is UpIndex next e = absurd cc

-- the operand of a jump, by whether it does something
target_at : (to : ℕ) (change : Change) (next : Option ℕ) → to < 65536 → IsNext next → (labels : Labels) (ps : List Part)
    → jump_operand (rest_text ps) ≡ Ok (indirect_with change next)
    → form_operands labels form.Target (joined (part.Word to ∷ ps)) ≡ Ok (fields.Target to (indirect_with change next))
target_at to change next lt h labels ps e =
    let make : ℕ × Indirect → Fields = λ p. fields.Target p.0 p.1 in
    cut_read (λ t rest. made make (both (word labels t) (jump_operand rest))) (codes "0x" ++ hex4 to) ps (Ok (fields.Target to (indirect_with change next))) (hex4_plain to lt)
    (both_ok make _ _ to (indirect_with change next) (word_read labels (codes "0x" ++ hex4 to) to (hex4_read to lt) lt) e)

busy_read : (change : Change) (next : Option ℕ) → IsNext next → is_idle change next ≡ false
    → jump_operand (rest_text (part.Place (operand.Indirect (indirect_with change next)) ∷ next_parts next)) ≡ Ok (indirect_with change next)
busy_read change next h e =
    let i = indirect_with change next in
    cut_read (λ t rest. busy (indirect t rest)) (change_text change) (next_parts next) (Ok i) (place_plain (operand.Indirect i))
    (ap busy (indirect_read i h) ∙ ap (λ t. if t then Err BadLine else Ok i) (same_idle change next ∙ e))

targeted : (to : ℕ) (change : Change) (next : Option ℕ) → to < 65536 → IsNext next → (labels : Labels)
    → form_operands labels form.Target (joined (target_parts to (indirect_with change next))) ≡ Ok (fields.Target to (indirect_with change next))
targeted to change next lt h labels = by (is_idle change next) refl
  where
    by : (t : Bool) → is_idle change next ≡ t
        → form_operands labels form.Target (joined (if t then part.Word to ∷ [] else part.Word to ∷ part.Place (operand.Indirect (indirect_with change next)) ∷ next_parts next)) ≡ Ok (fields.Target to (indirect_with change next))
    by true e = target_at to change next lt h labels [] (ap Ok (idle_is change next e))
    by false e = target_at to change next lt h labels (part.Place (operand.Indirect (indirect_with change next)) ∷ next_parts next) (busy_read change next h e)

module _ (labels : Labels) where
  pub form_read : (kind : Form) (f : Fields) → FitsForm kind f → IsNarrow kind → form_operands labels kind (joined (parts_of f)) ≡ Ok f
  form_read form.NoOperand fields.NoOperand h narrow = refl
  form_read form.Memory (fields.Memory o) h narrow =
      cut_read (λ t rest. made fields.Memory (place t rest)) (place_text o) (next_parts (next_of o)) (Ok (fields.Memory o)) (place_plain o) (ap (made fields.Memory) (place_read o h))
  form_read (form.ShiftedMemory shifts) (fields.ShiftedMemory s o) h narrow = shifted shifts s o narrow h.0 h.1 labels
  form_read form.RegisterMemory (fields.RegisterMemory r o) h narrow = registered r o h.0 h.1 labels
  form_read form.PortMemory (fields.PortMemory p o) h narrow = ported p o h.0 h.1 labels
  form_read form.Pointer (fields.Pointer i) h narrow =
      cut_read (λ t rest. made fields.Pointer (indirect t rest)) (change_text i.change) (next_parts i.next) (Ok (fields.Pointer i)) (place_plain (operand.Indirect i)) (ap (made fields.Pointer) (indirect_read i h))
  form_read form.Constant8 (fields.Constant8 n) h narrow = ap (made fields.Constant8) (below_read 256 ((codes "0x" ++ hex2 n) ++ []) n (ap number (append-nil (codes "0x" ++ hex2 n)) ∙ hex2_read n h) h)
  form_read form.Constant9 (fields.Constant9 n) h narrow = ap (made fields.Constant9) (below_read 512 ((codes "0x" ++ hex3 n) ++ []) n (ap number (append-nil (codes "0x" ++ hex3 n)) ∙ hex3_read n (omega (arith, h))) h)
  form_read form.Constant13 (fields.Constant13 z) h narrow = ap (made fields.Constant13) (ap signed_number (append-nil (signed_decimal z)) ∙ signed_read z h)
  form_read form.RegisterConstant (fields.RegisterConstant r n) h narrow = constant r n h.0 h.1 labels
  form_read form.Word (fields.Word w) h narrow = ap (made fields.Word) (word_read labels ((codes "0x" ++ hex4 w) ++ []) w (ap number (append-nil (codes "0x" ++ hex4 w)) ∙ hex4_read w h) h)
  form_read form.ShiftedWord (fields.ShiftedWord s w) h narrow = shifted_word s w h.0 h.1 labels
  form_read form.RegisterWord (fields.RegisterWord r w) h narrow = register_word r w h.0 h.1 labels
  form_read form.Target (fields.Target to i) h narrow = targeted to i.change i.next h.0 h.1 labels
  form_read kind f h narrow = absurd h

target_written : (to : ℕ) (i : Indirect) → to < 65536 → IsIndirect i → AllByRecursion IsWritten (target_parts to i)
target_written to i lt h = by (is_idle i.change i.next)
  where
    by : (t : Bool) → AllByRecursion IsWritten (if t then part.Word to ∷ [] else part.Word to ∷ part.Place (operand.Indirect i) ∷ next_parts i.next)
    by true = (word_written to lt, tt {0})
    by false = (word_written to lt, (place_written (operand.Indirect i), next_written i.next h))

pub parts_written : (kind : Form) (f : Fields) → FitsForm kind f → IsNarrow kind → AllByRecursion IsWritten (parts_of f)
parts_written form.NoOperand fields.NoOperand h narrow = tt {0}
parts_written form.Memory (fields.Memory o) h narrow = (place_written o, next_written (next_of o) (next_fits o h))
parts_written (form.ShiftedMemory shifts) (fields.ShiftedMemory s o) h narrow = (place_written o, (shift_written s (small s shifts h.0 (omega (arith, narrow))), next_written (next_of o) (next_fits o h.1)))
parts_written form.RegisterMemory (fields.RegisterMemory r o) h narrow = (register_written r (small r 8 h.0 (omega arith)), (place_written o, next_written (next_of o) (next_fits o h.1)))
parts_written form.PortMemory (fields.PortMemory p o) h narrow = (place_written o, (port_written p (small p 16 h.0 (omega arith)), next_written (next_of o) (next_fits o h.1)))
parts_written form.Pointer (fields.Pointer i) h narrow = (place_written (operand.Indirect i), next_written i.next h)
parts_written form.Constant8 (fields.Constant8 n) h narrow = (byte_written n, tt {0})
parts_written form.Constant9 (fields.Constant9 n) h narrow = (page_written n, tt {0})
parts_written form.Constant13 (fields.Constant13 z) h narrow = (signed_written z h, tt {0})
parts_written form.RegisterConstant (fields.RegisterConstant r n) h narrow = (register_written r (small r 8 h.0 (omega arith)), (byte_written n, tt {0}))
parts_written form.Word (fields.Word w) h narrow = (word_written w h, tt {0})
parts_written form.ShiftedWord (fields.ShiftedWord s w) h narrow = (word_written w h.1, (shift_written s (small s 16 h.0 (omega arith)), tt {0}))
parts_written form.RegisterWord (fields.RegisterWord r w) h narrow = (register_written r (small r 8 h.0 (omega arith)), (word_written w h.1, tt {0}))
parts_written form.Target (fields.Target to i) h narrow = target_written to i h.0 h.1
parts_written kind f h narrow = absurd h
