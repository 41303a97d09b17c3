-- Where the accumulator is loaded anew before anything works on it, what is known of it doesn't matter.
use Rattle.std.proofs.Common.{◌≡◌, ℕ, ◌+◌, Bool, true, false, List, [], ◌∷◌, Option, Some, None, refl, sym, ap, ◌∙◌, subst}
use Rattle.word_base.specs.Words.{signed_of}
use Rattle.c25_isa.specs.Step.{product}
use Rattle.acc_code.specs.declared.operand.AccOperand.{AccOperand}
use Rattle.acc_code.specs.declared.operand.AccOperand.TheVariants as operand
use Rattle.acc_code.specs.declared.operation.AccOp.{AccOp}
use Rattle.acc_code.specs.declared.operation.AccOp.TheVariants as row
use Rattle.ir_semantics.specs.Outside.{Cell, Nowhere, Unwritten, Holds, with_word, with_scalar, with_memory, with_output, with_input}
use Rattle.ir_semantics.specs.Parts.{Res, Gives, Fails, Does, after, Flow, Next, in_order}
use Rattle.ir_semantics.specs.TreeRun.{Addresses}
use Rattle.ir_semantics.specs.AccRows.{multiplied, scaled_by_t, with_product, operation_weight}
use Rattle.ir_semantics.specs.AccRun.{Machine, held, store_to, write_cell, write_word, given_for, put, input_ends, missing, taken, registers_become, act_on, act, without_acc}
use Rattle.emit_blocks.specs.declared.accumulator.ToAccumulator.TheVariants.{Leaves, Works}
use Rattle.emit_blocks.specs.Steps.{Operation, to_accumulator, is_loaded_by, is_loaded_next}
use Rattle.emit_proof.specs.Operations.{operate}

-- of one state the accumulator isn't known, or both runs are the same
data Forgets : Res Machine Flow → Res Machine Flow → Type 0 where
  BothGo : (u : Machine) → Forgets (Gives Next (without_acc u)) (Gives Next u)
  Same : (r : Res Machine Flow) → Forgets r r

held_alike : (at : Addresses) (m : AccOperand) (v : Machine) → held at m v ≡ held at m (without_acc v)
held_alike at operand.Nothing v = refl
held_alike at (operand.Scalar n) v = refl
held_alike at (operand.Direct o) v = refl
held_alike at (operand.Param f i) v = refl
held_alike at (operand.Scratch n) v = refl
held_alike at (operand.Number c) v = refl
held_alike at (operand.Address o i) v = refl
held_alike at operand.Pointed v = refl

cell_forgets : (c : Cell) (a x : ℕ) (v : Machine) → Forgets (write_cell c a x (without_acc v)) (write_cell c a x v)
cell_forgets Nowhere a x v = Same (Fails v.outside.outs)
cell_forgets Unwritten a x v = BothGo (record v { outside = with_memory (with_word a x v.outside.memory) v.outside })
cell_forgets (Holds y) a x v = BothGo (record v { outside = with_memory (with_word a x v.outside.memory) v.outside })

word_forgets : (b : Option ℕ) (x : ℕ) (v : Machine) → Forgets (write_word b x (without_acc v)) (write_word b x v)
word_forgets None x v = Same (Fails v.outside.outs)
word_forgets (Some a) x v = cell_forgets (v.outside.memory a) a x v

store_forgets : (at : Addresses) (m : AccOperand) (x : ℕ) (v : Machine) → Forgets (store_to at m x (without_acc v)) (store_to at m x v)
store_forgets at operand.Nothing x v = Same (Fails v.outside.outs)
store_forgets at (operand.Scalar n) x v = BothGo (record v { frame = with_scalar n x v.frame })
store_forgets at (operand.Direct o) x v = word_forgets (at o) x v
store_forgets at (operand.Param f i) x v = BothGo (record v { given_to = f; given = with_scalar i x (given_for f v) })
store_forgets at (operand.Scratch n) x v = BothGo (record v { scratch = with_scalar n x v.scratch })
store_forgets at (operand.Number c) x v = Same (Fails v.outside.outs)
store_forgets at (operand.Address o i) x v = Same (Fails v.outside.outs)
store_forgets at operand.Pointed x v = word_forgets v.registers.pointed x v

ends_alike : (port : ℕ) (r s : Res Machine Flow) → Forgets r s → after r (λ flow. input_ends port) ≡ after s (λ flow. input_ends port)
ends_alike port r s (BothGo u) = refl
ends_alike port r s (Same t) = refl

missing_alike : (m : AccOperand) (port : ℕ) (v : Machine) → missing m port (without_acc v) ≡ missing m port v
missing_alike operand.Nothing port v = refl
missing_alike (operand.Scalar n) port v = refl
missing_alike (operand.Direct o) port v = refl
missing_alike (operand.Param f i) port v = refl
missing_alike (operand.Scratch n) port v = refl
missing_alike (operand.Number c) port v = refl
missing_alike (operand.Address o i) port v = refl
missing_alike operand.Pointed port v = ends_alike port (write_word v.registers.pointed 0 (without_acc v)) (write_word v.registers.pointed 0 v) (word_forgets v.registers.pointed 0 v)

taken_forgets : (at : Addresses) (l : List ℕ) (port : ℕ) (m : AccOperand) (v : Machine) → Forgets (taken at l port m (without_acc v)) (taken at l port m v)
taken_forgets at [] port m v = subst (λ r. Forgets (missing m port (without_acc v)) r) (missing_alike m port v) (Same (missing m port (without_acc v)))
taken_forgets at (x ∷ xs) port m v = store_forgets at m x (record v { outside = with_input port xs v.outside })

put_forgets : (port : ℕ) (b : Option ℕ) (v : Machine) → Forgets (put port b (without_acc v)) (put port b v)
put_forgets port None v = Same (Fails v.outside.outs)
put_forgets port (Some x) v = BothGo (record v { outside = with_output port x v.outside })

multiplied_forgets : (t : Option ℕ) (x : ℕ) (v : Machine) → Forgets (registers_become (multiplied t x (without_acc v).registers) (without_acc v)) (registers_become (multiplied t x v.registers) v)
multiplied_forgets None x v = Same (Fails v.outside.outs)
multiplied_forgets (Some t) x v = BothGo (record v { registers = record v.registers { p = Some (product t (signed_of x)) } })

-- with the same operand
with_operand : (o : AccOp) (b c : Option ℕ) (v : Machine) → b ≡ c → Forgets (act_on o b (without_acc v)) (act_on o b v) → Forgets (act_on o c (without_acc v)) (act_on o b v)
with_operand o b c v same f = subst (λ i. Forgets (act_on o i (without_acc v)) (act_on o b v)) same f

-- a row that leaves the accumulator or loads it
record MindsNot (o : AccOp) : Type 0 where
  by : (at : Addresses) (m : AccOperand) (v : Machine) → Forgets (act at o m (without_acc v)) (act at o m v)

record LoadsAnew (o : AccOp) : Type 0 where
  by : (at : Addresses) (m : AccOperand) (v : Machine) → act at o m (without_acc v) ≡ act at o m v

lt_forgets : (b : Option ℕ) (v : Machine) → Forgets (act_on row.Lt b (without_acc v)) (act_on row.Lt b v)
lt_forgets None v = Same (Fails v.outside.outs)
lt_forgets (Some x) v = BothGo (record v { registers = record v.registers { t = Some x } })

ssxm_forgets : (b : Option ℕ) (v : Machine) → Forgets (act_on row.Ssxm b (without_acc v)) (act_on row.Ssxm b v)
ssxm_forgets None v = Same (Fails v.outside.outs)
ssxm_forgets (Some x) v = BothGo (record v { registers = record v.registers { sxm = Some true } })

rsxm_forgets : (b : Option ℕ) (v : Machine) → Forgets (act_on row.Rsxm b (without_acc v)) (act_on row.Rsxm b v)
rsxm_forgets None v = Same (Fails v.outside.outs)
rsxm_forgets (Some x) v = BothGo (record v { registers = record v.registers { sxm = Some false } })

dint_forgets : (b : Option ℕ) (v : Machine) → Forgets (act_on row.Dint b (without_acc v)) (act_on row.Dint b v)
dint_forgets None v = Same (Fails v.outside.outs)
dint_forgets (Some x) v = BothGo v

mpy_forgets : (b : Option ℕ) (v : Machine) → Forgets (act_on row.Mpy b (without_acc v)) (act_on row.Mpy b v)
mpy_forgets None v = Same (Fails v.outside.outs)
mpy_forgets (Some x) v = multiplied_forgets v.registers.t x v

mpyk_forgets : (b : Option ℕ) (v : Machine) → Forgets (act_on row.Mpyk b (without_acc v)) (act_on row.Mpyk b v)
mpyk_forgets None v = Same (Fails v.outside.outs)
mpyk_forgets (Some x) v = multiplied_forgets v.registers.t x v

lac_anew : (s : ℕ) (b : Option ℕ) (v : Machine) → act_on (row.Lac s) b (without_acc v) ≡ act_on (row.Lac s) b v
lac_anew s None v = refl
lac_anew s (Some x) v = refl

zals_anew : (b : Option ℕ) (v : Machine) → act_on row.Zals b (without_acc v) ≡ act_on row.Zals b v
zals_anew None v = refl
zals_anew (Some x) v = refl

lack_anew : (b : Option ℕ) (v : Machine) → act_on row.Lack b (without_acc v) ≡ act_on row.Lack b v
lack_anew None v = refl
lack_anew (Some x) v = refl

lalk_anew : (s : ℕ) (b : Option ℕ) (v : Machine) → act_on (row.Lalk s) b (without_acc v) ≡ act_on (row.Lalk s) b v
lalk_anew s None v = refl
lalk_anew s (Some x) v = refl

by_t_anew : (t : Option ℕ) (x : ℕ) (v : Machine) → registers_become (scaled_by_t t x (without_acc v).registers) (without_acc v) ≡ registers_become (scaled_by_t t x v.registers) v
by_t_anew None x v = refl
by_t_anew (Some t) x v = refl

lact_anew : (b : Option ℕ) (v : Machine) → act_on row.Lact b (without_acc v) ≡ act_on row.Lact b v
lact_anew None v = refl
lact_anew (Some x) v = by_t_anew v.registers.t x v

product_anew : (p : Option ℕ) (v : Machine) → registers_become (with_product (λ a p. Some p) p (without_acc v).registers) (without_acc v) ≡ registers_become (with_product (λ a p. Some p) p v.registers) v
product_anew None v = refl
product_anew (Some p) v = refl

pac_anew : (b : Option ℕ) (v : Machine) → act_on row.Pac b (without_acc v) ≡ act_on row.Pac b v
pac_anew None v = refl
pac_anew (Some x) v = product_anew v.registers.p v

-- what each row is to the accumulator
data Use : AccOp → Type 0 where
  OnlyLeaves : (o : AccOp) → to_accumulator o ≡ Leaves → MindsNot o → Use o
  OnlyLoads : (o : AccOp) → LoadsAnew o → Use o
  WorksOnIt : (o : AccOp) → to_accumulator o ≡ Works → Use o

use_of : (o : AccOp) → Use o
use_of row.Point = WorksOnIt row.Point refl
use_of (row.Add s) = WorksOnIt (row.Add s) refl
use_of (row.Sub s) = WorksOnIt (row.Sub s) refl
use_of (row.Lac s) = OnlyLoads (row.Lac s) (record { by = λ at m v. lac_anew s (held at m (without_acc v)) v ∙ ap (λ b. act_on (row.Lac s) b v) (sym (held_alike at m v)) })
use_of row.Mpy = OnlyLeaves row.Mpy refl (record { by = λ at m v. with_operand row.Mpy (held at m v) (held at m (without_acc v)) v (held_alike at m v) (mpy_forgets (held at m v) v) })
use_of row.Lt = OnlyLeaves row.Lt refl (record { by = λ at m v. with_operand row.Lt (held at m v) (held at m (without_acc v)) v (held_alike at m v) (lt_forgets (held at m v) v) })
use_of row.Zals = OnlyLoads row.Zals (record { by = λ at m v. zals_anew (held at m (without_acc v)) v ∙ ap (λ b. act_on row.Zals b v) (sym (held_alike at m v)) })
use_of row.Lact = OnlyLoads row.Lact (record { by = λ at m v. lact_anew (held at m (without_acc v)) v ∙ ap (λ b. act_on row.Lact b v) (sym (held_alike at m v)) })
use_of row.Subs = WorksOnIt row.Subs refl
use_of row.Adds = WorksOnIt row.Adds refl
use_of row.Xor = WorksOnIt row.Xor refl
use_of row.Or = WorksOnIt row.Or refl
use_of row.And = WorksOnIt row.And refl
use_of (row.Sacl s) = WorksOnIt (row.Sacl s) refl
use_of (row.Sach s) = WorksOnIt (row.Sach s) refl
use_of (row.In port) = OnlyLeaves (row.In port) refl (record { by = λ at m v. taken_forgets at (v.outside.input port) port m v })
use_of (row.Out port) = OnlyLeaves (row.Out port) refl (record { by = λ at m v. subst (λ b. Forgets (put port b (without_acc v)) (put port (held at m v) v)) (held_alike at m v) (put_forgets port (held at m v) v) })
use_of row.Mpyk = OnlyLeaves row.Mpyk refl (record { by = λ at m v. with_operand row.Mpyk (held at m v) (held at m (without_acc v)) v (held_alike at m v) (mpyk_forgets (held at m v) v) })
use_of row.Lack = OnlyLoads row.Lack (record { by = λ at m v. lack_anew (held at m (without_acc v)) v ∙ ap (λ b. act_on row.Lack b v) (sym (held_alike at m v)) })
use_of row.Addk = WorksOnIt row.Addk refl
use_of row.Subk = WorksOnIt row.Subk refl
use_of (row.Lalk s) = OnlyLoads (row.Lalk s) (record { by = λ at m v. lalk_anew s (held at m (without_acc v)) v ∙ ap (λ b. act_on (row.Lalk s) b v) (sym (held_alike at m v)) })
use_of (row.Adlk s) = WorksOnIt (row.Adlk s) refl
use_of (row.Sblk s) = WorksOnIt (row.Sblk s) refl
use_of row.Andk = WorksOnIt row.Andk refl
use_of row.Ork = WorksOnIt row.Ork refl
use_of row.Xork = WorksOnIt row.Xork refl
use_of row.Dint = OnlyLeaves row.Dint refl (record { by = λ at m v. with_operand row.Dint (held at m v) (held at m (without_acc v)) v (held_alike at m v) (dint_forgets (held at m v) v) })
use_of row.Rovm = WorksOnIt row.Rovm refl
use_of row.Rsxm = OnlyLeaves row.Rsxm refl (record { by = λ at m v. with_operand row.Rsxm (held at m v) (held at m (without_acc v)) v (held_alike at m v) (rsxm_forgets (held at m v) v) })
use_of row.Ssxm = OnlyLeaves row.Ssxm refl (record { by = λ at m v. with_operand row.Ssxm (held at m v) (held at m (without_acc v)) v (held_alike at m v) (ssxm_forgets (held at m v) v) })
use_of row.Spm = WorksOnIt row.Spm refl
use_of row.Pac = OnlyLoads row.Pac (record { by = λ at m v. pac_anew (held at m (without_acc v)) v ∙ ap (λ b. act_on row.Pac b v) (sym (held_alike at m v)) })
use_of row.Apac = WorksOnIt row.Apac refl
use_of row.Spac = WorksOnIt row.Spac refl
use_of row.Sfl = WorksOnIt row.Sfl refl
use_of row.Sfr = WorksOnIt row.Sfr refl
use_of row.Neg = WorksOnIt row.Neg refl
use_of row.Cmpl = WorksOnIt row.Cmpl refl

after_forgets : (r s : Res Machine Flow) (next : Does Machine Flow) → Forgets r s → ((u : Machine) → next (without_acc u) ≡ next u) → after r (λ flow. in_order flow next) ≡ after s (λ flow. in_order flow next)
after_forgets r s next (BothGo u) alike = alike u
after_forgets r s next (Same t) alike = refl

not_loaded : (o : AccOp) (later : Bool) → to_accumulator o ≡ Works → is_loaded_by (to_accumulator o) later ≡ true → ⊥
not_loaded o later works loaded = let e : is_loaded_by Works later ≡ true = subst (λ t. is_loaded_by t later ≡ true) works loaded in false_true e
  where
    false_true : false ≡ true → ⊥
    false_true f = cc

still_loaded : (o : AccOp) (later : Bool) → to_accumulator o ≡ Leaves → is_loaded_by (to_accumulator o) later ≡ true → later ≡ true
still_loaded o later leaves loaded = subst (λ t. is_loaded_by t later ≡ true) leaves loaded

module _ (at : Addresses) (next : Does Machine Flow) where
  first_alike : (o : AccOp) (m : AccOperand) (later : Bool) → Use o → is_loaded_by (to_accumulator o) later ≡ true → (later ≡ true → (u : Machine) → next (without_acc u) ≡ next u) → (v : Machine)
      → after (act at o m (without_acc v)) (λ flow. in_order flow next) ≡ after (act at o m v) (λ flow. in_order flow next)
  first_alike o m later (OnlyLeaves p is minds) loaded alike v = after_forgets (act at o m (without_acc v)) (act at o m v) next (minds.by at m v) (alike (still_loaded o later is loaded))
  first_alike o m later (OnlyLoads p loads) loaded alike v = ap (λ r. after r (λ flow. in_order flow next)) (loads.by at m v)
  first_alike o m later (WorksOnIt p is) loaded alike v = absurd (not_loaded o later is loaded)

pub loaded_alike : (at : Addresses) (os : List Operation) → is_loaded_next os ≡ true → (v : Machine) → operate at os (without_acc v) ≡ operate at os v
loaded_alike at [] loaded v = absurd cc
loaded_alike at (o ∷ os) loaded v = first_alike at (operate at os) o.row o.operand (is_loaded_next os) (use_of o.row) loaded (λ later u. loaded_alike at os later u) (record v { work = v.work + operation_weight o.row o.operand })
