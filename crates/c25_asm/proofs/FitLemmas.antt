-- What is read as the operands of a form fits it.
use Rattle.std.proofs.Common.{◌≡◌, ℕ, ◌<◌, pos, Bool, true, false, List, [], ◌∷◌, Option, Some, None, refl, sym, arith, IfSome, zero, suc}
use Rattle.std.specs.Prelude.{nat_lt, ◌&&◌, not, neg_ℤ, Result, Ok, Err, IfOk, codes}
use Rattle.std.proofs.lemmas.Bool.{ltb-true, cond_both}
use Rattle.std.proofs.lemmas.Result.{IfOk-at_ok}
use Rattle.c25_isa.specs.declared.operand.Change.{Change}
use Rattle.c25_isa.specs.declared.operand.Indirect.{Indirect}
use Rattle.c25_isa.specs.declared.operand.Operand.TheVariants as operand
use Rattle.c25_isa.specs.declared.mnemonic.Mnemonic.{Mnemonic}
use Rattle.c25_isa.specs.declared.mnemonic.Mnemonic.TheVariants as mnemonic
use Rattle.c25_isa.specs.declared.mnemonic.Form.{Form}
use Rattle.c25_isa.specs.declared.mnemonic.Form.TheVariants as form
use Rattle.c25_isa.specs.declared.fields.Fields.{Fields}
use Rattle.c25_isa.specs.declared.fields.Fields.TheVariants as fields
use Rattle.c25_isa.specs.Rows.{row}
use Rattle.c25_isa.specs.Table.{IsIndirect, IsOperand, IsSigned13, FitsForm}
use Rattle.c25_asm.specs.declared.statement.LineFault.{LineFault}
use Rattle.c25_asm.specs.declared.statement.Place.{Place}
use Rattle.c25_asm.specs.Cuts.{first_operand, more_operands}
use Rattle.c25_asm.specs.Numbers.{number, below, negated, positive, behind_front, signed_by, signed_number, bare_below, numbered_by, numbered, digits, has_zero_in_front}
use Rattle.c25_asm.specs.Names.{Labels, AreSmall, is_name}
use Rattle.c25_asm.specs.Operands.{both, made, or_bad, register, word_by, word, change_of, indirect_with, indirect_by, indirect, direct, place_by, place, with_more, is_idle, busy, jump_operand, no_operand, form_operands}
use Rattle.c25_asm.specs.Statements.{has_fixed_operand, row_operands}
use Rattle.std.specs.Str.{bytes_eq}

module _ {A B : Type 0} (P : A → Type 0) (Q : B → Type 0) where
  made_fits : (make : A → B) (r : Result A LineFault) → IfOk r P → ((a : A) → P a → Q (make a)) → IfOk (made make r) Q
  made_fits make (Ok a) h make_fits = make_fits a h
  made_fits make (Err fault) h make_fits = tt

  both_fits : (r : Result A LineFault) (s : Result B LineFault) → IfOk r P → IfOk s Q → IfOk (both r s) (λ p. P p.0 × Q p.1)
  both_fits (Ok a) (Ok b) h k = (h, k)
  both_fits (Ok a) (Err fault) h k = tt
  both_fits (Err fault) (Ok b) h k = tt
  both_fits (Err fault) (Err other) h k = tt

more_fits : {A : Type 0} (P : A → Type 0) (read : List ℕ → Result A LineFault) (text : Option (List ℕ)) → ((t : List ℕ) → IfOk (read t) P) → IfOk (with_more read text) P
more_fits P read None h = tt
more_fits P read (Some text) h = h text

below_fits : (bound : ℕ) (found : Option ℕ) → IfOk (below bound found) (λ n. n < bound)
below_fits bound None = tt
below_fits bound (Some n) = cond_both (nat_lt n bound) _ _ (λ r. IfOk r (λ m. m < bound)) (λ e. ltb-true n bound e) (λ e. tt)

both_true_left : (a b : Bool) → (a && b) ≡ true → a ≡ true
both_true_left true b e = refl
both_true_left false b e = e

-- the number behind AR or PA
numbered_fits : (front : List ℕ) (bound : ℕ) (text : List ℕ) → IfOk (or_bad (numbered front bound text)) (λ n. n < bound)
numbered_fits front bound text = by (behind_front front text)
  where
    bare : (zero_in_front : Bool) (found : Option ℕ) → IfOk (or_bad (bare_below bound zero_in_front found)) (λ n. n < bound)
    bare zero_in_front None = tt
    bare zero_in_front (Some n) =
        cond_both (nat_lt n bound && not zero_in_front) _ _ (λ o. IfOk (or_bad o) (λ m. m < bound)) (λ e. ltb-true n bound (both_true_left (nat_lt n bound) (not zero_in_front) e)) (λ e. tt)

    by : (text : Option (List ℕ)) → IfOk (or_bad (numbered_by bound text)) (λ n. n < bound)
    by None = tt
    by (Some t) = bare (has_zero_in_front t) (digits 10 t)

negative_fits : (n : ℕ) → n < 4097 → IsSigned13 (neg_ℤ (pos n))
negative_fits zero h = omega arith
negative_fits (suc n) h = omega arith

signed_fits : (text : List ℕ) → IfOk (signed_number text) IsSigned13
signed_fits text = by (behind_front (codes "-") text)
  where
    less : (r : Result ℕ LineFault) → IfOk r (λ n. n < 4097) → IfOk (negated r) IsSigned13
    less (Ok n) h = negative_fits n h
    less (Err fault) h = tt

    more : (r : Result ℕ LineFault) → IfOk r (λ n. n < 4096) → IfOk (positive r) IsSigned13
    more (Ok n) h = h
    more (Err fault) h = tt

    by : (magnitude : Option (List ℕ)) → IfOk (signed_by magnitude text) IsSigned13
    by (Some m) = less (below 4097 (number m)) (below_fits 4097 (number m))
    by None = more (below 4096 (number text)) (below_fits 4096 (number text))

word_fits : (labels : Labels) → AreSmall labels → (text : List ℕ) → IfOk (word labels text) (λ w. w < 65536)
word_fits labels small text = by (number text) (is_name text) (labels text) (small text)
  where
    by : (found : Option ℕ) (named : Bool) (place : Option Place) → IfSome place (λ p. p.number < 65536) → IfOk (word_by found named place) (λ w. w < 65536)
    by (Some n) named place h = below_fits 65536 (Some n)
    by None false place h = tt
    by None true None h = tt
    by None true (Some p) h = h

indirect_fits : (change : Option Change) (next : Option (List ℕ)) → IfOk (indirect_by change next) IsIndirect
indirect_fits None next = tt
indirect_fits (Some change) None = tt
indirect_fits (Some change) (Some next) =
    made_fits (λ r. r < 8) IsIndirect (λ r. indirect_with change (Some r)) (register next) (numbered_fits (codes "AR") 8 next) (λ r h. h)

direct_fits : (text : List ℕ) (next : Option (List ℕ)) → IfOk (direct text next) (λ n. n < 128)
direct_fits text None = below_fits 128 (number text)
direct_fits text (Some next) = tt

place_fits : (text : List ℕ) (next : Option (List ℕ)) → IfOk (place text next) IsOperand
place_fits text next = by (change_of text)
  where
    by : (change : Option Change) → IfOk (place_by change text next) IsOperand
    by None = made_fits (λ n. n < 128) IsOperand operand.Direct (direct text next) (direct_fits text next) (λ n h. h)
    by (Some change) = made_fits IsIndirect IsOperand operand.Indirect (indirect_by (Some change) next) (indirect_fits (Some change) next) (λ i h. h)

jump_fits : (text : Option (List ℕ)) → IfOk (jump_operand text) IsIndirect
jump_fits None = tt
jump_fits (Some text) = by (indirect (first_operand text) (more_operands text)) (indirect_fits (change_of (first_operand text)) (more_operands text))
  where
    by : (r : Result Indirect LineFault) → IfOk r IsIndirect → IfOk (busy r) IsIndirect
    by (Ok i) h = cond_both (is_idle i.change i.next) _ _ (λ r. IfOk r IsIndirect) (λ e. tt) (λ e. h)
    by (Err fault) h = tt

no_operand_fits : (text : List ℕ) → IfOk (no_operand text) (FitsForm form.NoOperand)
no_operand_fits [] = tt
no_operand_fits (b ∷ bs) = tt

module _ (labels : Labels) (small : AreSmall labels) where
  pub form_fits : (kind : Form) (text : List ℕ) → IfOk (form_operands labels kind text) (FitsForm kind)
  form_fits form.NoOperand text = no_operand_fits text
  form_fits form.Memory text = made_fits IsOperand (FitsForm form.Memory) fields.Memory _ (place_fits (first_operand text) (more_operands text)) (λ o h. h)
  form_fits (form.ShiftedMemory shifts) text =
      more_fits (FitsForm (form.ShiftedMemory shifts)) _ (more_operands text) (λ more.
      made_fits (λ p. (p.0 < shifts) × IsOperand p.1) (FitsForm (form.ShiftedMemory shifts)) (λ p. fields.ShiftedMemory p.0 p.1) _
      (both_fits (λ n. n < shifts) IsOperand _ _ (below_fits shifts (number (first_operand more))) (place_fits (first_operand text) (more_operands more))) (λ p h. h))
  form_fits form.RegisterMemory text =
      more_fits (FitsForm form.RegisterMemory) _ (more_operands text) (λ more.
      made_fits (λ p. (p.0 < 8) × IsOperand p.1) (FitsForm form.RegisterMemory) (λ p. fields.RegisterMemory p.0 p.1) _
      (both_fits (λ n. n < 8) IsOperand _ _ (numbered_fits (codes "AR") 8 (first_operand text)) (place_fits (first_operand more) (more_operands more))) (λ p h. h))
  form_fits form.PortMemory text =
      more_fits (FitsForm form.PortMemory) _ (more_operands text) (λ more.
      made_fits (λ p. (p.0 < 16) × IsOperand p.1) (FitsForm form.PortMemory) (λ p. fields.PortMemory p.0 p.1) _
      (both_fits (λ n. n < 16) IsOperand _ _ (numbered_fits (codes "PA") 16 (first_operand more)) (place_fits (first_operand text) (more_operands more))) (λ p h. h))
  form_fits form.Pointer text = made_fits IsIndirect (FitsForm form.Pointer) fields.Pointer _ (indirect_fits (change_of (first_operand text)) (more_operands text)) (λ i h. h)
  form_fits form.Constant8 text = made_fits (λ n. n < 256) (FitsForm form.Constant8) fields.Constant8 _ (below_fits 256 (number text)) (λ n h. h)
  form_fits form.Constant9 text = made_fits (λ n. n < 512) (FitsForm form.Constant9) fields.Constant9 _ (below_fits 512 (number text)) (λ n h. h)
  form_fits form.Constant13 text = made_fits IsSigned13 (FitsForm form.Constant13) fields.Constant13 _ (signed_fits text) (λ n h. h)
  form_fits form.RegisterConstant text =
      more_fits (FitsForm form.RegisterConstant) _ (more_operands text) (λ more.
      made_fits (λ p. (p.0 < 8) × (p.1 < 256)) (FitsForm form.RegisterConstant) (λ p. fields.RegisterConstant p.0 p.1) _
      (both_fits (λ n. n < 8) (λ n. n < 256) _ _ (numbered_fits (codes "AR") 8 (first_operand text)) (below_fits 256 (number more))) (λ p h. h))
  form_fits form.Word text = made_fits (λ w. w < 65536) (FitsForm form.Word) fields.Word _ (word_fits labels small text) (λ w h. h)
  form_fits form.ShiftedWord text =
      more_fits (FitsForm form.ShiftedWord) _ (more_operands text) (λ more.
      made_fits (λ p. (p.0 < 65536) × (p.1 < 16)) (FitsForm form.ShiftedWord) (λ p. fields.ShiftedWord p.1 p.0) _
      (both_fits (λ w. w < 65536) (λ n. n < 16) _ _ (word_fits labels small (first_operand text)) (below_fits 16 (number more))) (λ p h. (h.1, h.0)))
  form_fits form.RegisterWord text =
      more_fits (FitsForm form.RegisterWord) _ (more_operands text) (λ more.
      made_fits (λ p. (p.0 < 8) × (p.1 < 65536)) (FitsForm form.RegisterWord) (λ p. fields.RegisterWord p.0 p.1) _
      (both_fits (λ n. n < 8) (λ w. w < 65536) _ _ (numbered_fits (codes "AR") 8 (first_operand text)) (word_fits labels small more)) (λ p h. h))
  form_fits form.Target text =
      made_fits (λ p. (p.0 < 65536) × IsIndirect p.1) (FitsForm form.Target) (λ p. fields.Target p.0 p.1) _
      (both_fits (λ w. w < 65536) IsIndirect _ _ (word_fits labels small (first_operand text)) (jump_fits (more_operands text))) (λ p h. h)

  fixed_form : (m : Mnemonic) → has_fixed_operand m ≡ true → FitsForm (row m).form fields.NoOperand
  fixed_form mnemonic.Spm e = tt
  fixed_form m e = absurd cc

  row_fits : (m : Mnemonic) (text : List ℕ) → IfOk (row_operands labels m text) (FitsForm (row m).form)
  row_fits m text =
      cond_both (has_fixed_operand m) _ _ (λ r. IfOk r (FitsForm (row m).form))
      (λ e. cond_both (bytes_eq text (codes "0")) _ _ (λ r. IfOk r (FitsForm (row m).form)) (λ _. fixed_form m e) (λ _. tt))
      (λ e. form_fits (row m).form text)

  pub fields_fit : (m : Mnemonic) (text : List ℕ) (f : Fields) → Ok f ≡ row_operands labels m text → FitsForm (row m).form f
  fields_fit m text f e = IfOk-at_ok (FitsForm (row m).form) (sym e) (row_fits m text)
