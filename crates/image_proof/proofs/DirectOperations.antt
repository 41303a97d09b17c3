-- The steps of operations name the words of their operands, and scratch words behind a store.
use Rattle.std.proofs.Common.{◌≡◌, ◌⊎◌, inl, inr, ℕ, ◌+◌, ◌<◌, Bool, true, false, ◌||◌, List, [], ◌∷◌, ◌++◌, slice_get, refl, ap, sym, ◌∙◌, subst, arith}
use Rattle.std.specs.Prelude.{⊤, ◌==◌, if◌then◌else◌}
use Rattle.std.proofs.lemmas.Bool.{or_cases, or_left, or_right, and_from, eqb-true, eq-eqb, le-leb}
use Rattle.c25_isa.specs.Direct.{Words, is_among, is_scratch, may_name}
use Rattle.acc_code.specs.declared.operand.AccOperand.{AccOperand}
use Rattle.acc_code.specs.declared.operand.AccOperand.TheVariants as operand
use Rattle.acc_code.specs.declared.operation.AccOp.{AccOp}
use Rattle.acc_code.specs.declared.operation.AccOp.TheVariants as row
use Rattle.acc_code.specs.Operands.{Taken, No_operand, Read_word, Written_word, Constant8, Constant13, Constant16, taken_by, IsTaken}
use Rattle.acc_code.specs.Emittable.{Stored, nothing_stored, stored_by, IsStored}
use Rattle.emit_blocks.specs.declared.step.Reach.TheVariants as reach
use Rattle.emit_blocks.specs.Places.{Places, SCRATCH, object_address, parameters_in, reach_of}
use Rattle.emit_blocks.specs.Steps.{Operation, is_plain_load, is_point, begins_with_point, is_loaded_next, behind_first, is_load_of_pointer, step, POINT_WORD, steps_of_operation, steps_from, steps_of}
use Rattle.image_proof.specs.DirectPieces.{ScratchIsApart, OperandNames}
use Rattle.image_proof.proofs.DirectNames.{named, given, scratch_named}
use Rattle.image_proof.specs.DirectRuns.{stores, stored_behind, StepNames, StepsName}

written_stores : (o : AccOp) → taken_by o ≡ Written_word → stores o ≡ true
written_stores row.Point e = absurd cc
written_stores (row.Add s) e = absurd cc
written_stores (row.Sub s) e = absurd cc
written_stores (row.Lac s) e = absurd cc
written_stores row.Mpy e = absurd cc
written_stores row.Lt e = absurd cc
written_stores row.Zals e = absurd cc
written_stores row.Lact e = absurd cc
written_stores row.Subs e = absurd cc
written_stores row.Adds e = absurd cc
written_stores row.Xor e = absurd cc
written_stores row.Or e = absurd cc
written_stores row.And e = absurd cc
written_stores (row.Sacl s) e = refl
written_stores (row.Sach s) e = refl
written_stores (row.In s) e = refl
written_stores (row.Out s) e = absurd cc
written_stores row.Mpyk e = absurd cc
written_stores row.Lack e = absurd cc
written_stores row.Addk e = absurd cc
written_stores row.Subk e = absurd cc
written_stores (row.Lalk s) e = absurd cc
written_stores (row.Adlk s) e = absurd cc
written_stores (row.Sblk s) e = absurd cc
written_stores row.Andk e = absurd cc
written_stores row.Ork e = absurd cc
written_stores row.Xork e = absurd cc
written_stores row.Dint e = absurd cc
written_stores row.Rovm e = absurd cc
written_stores row.Rsxm e = absurd cc
written_stores row.Ssxm e = absurd cc
written_stores row.Spm e = absurd cc
written_stores row.Pac e = absurd cc
written_stores row.Apac e = absurd cc
written_stores row.Spac e = absurd cc
written_stores row.Sfl e = absurd cc
written_stores row.Sfr e = absurd cc
written_stores row.Neg e = absurd cc
written_stores row.Cmpl e = absurd cc

load_takes : (o : AccOp) → is_plain_load o ≡ true → (taken_by o ≡ Read_word) ⊎ (taken_by o ≡ Constant16)
load_takes row.Point e = absurd cc
load_takes (row.Add s) e = absurd cc
load_takes (row.Sub s) e = absurd cc
load_takes (row.Lac s) e = inl refl
load_takes row.Mpy e = absurd cc
load_takes row.Lt e = absurd cc
load_takes row.Zals e = absurd cc
load_takes row.Lact e = absurd cc
load_takes row.Subs e = absurd cc
load_takes row.Adds e = absurd cc
load_takes row.Xor e = absurd cc
load_takes row.Or e = absurd cc
load_takes row.And e = absurd cc
load_takes (row.Sacl s) e = absurd cc
load_takes (row.Sach s) e = absurd cc
load_takes (row.In s) e = absurd cc
load_takes (row.Out s) e = absurd cc
load_takes row.Mpyk e = absurd cc
load_takes row.Lack e = absurd cc
load_takes row.Addk e = absurd cc
load_takes row.Subk e = absurd cc
load_takes (row.Lalk s) e = inr refl
load_takes (row.Adlk s) e = absurd cc
load_takes (row.Sblk s) e = absurd cc
load_takes row.Andk e = absurd cc
load_takes row.Ork e = absurd cc
load_takes row.Xork e = absurd cc
load_takes row.Dint e = absurd cc
load_takes row.Rovm e = absurd cc
load_takes row.Rsxm e = absurd cc
load_takes row.Ssxm e = absurd cc
load_takes row.Spm e = absurd cc
load_takes row.Pac e = absurd cc
load_takes row.Apac e = absurd cc
load_takes row.Spac e = absurd cc
load_takes row.Sfl e = absurd cc
load_takes row.Sfr e = absurd cc
load_takes row.Neg e = absurd cc
load_takes row.Cmpl e = absurd cc

point_takes : (o : AccOp) → is_point o ≡ true → taken_by o ≡ No_operand
point_takes row.Point e = refl
point_takes (row.Add s) e = absurd cc
point_takes (row.Sub s) e = absurd cc
point_takes (row.Lac s) e = absurd cc
point_takes row.Mpy e = absurd cc
point_takes row.Lt e = absurd cc
point_takes row.Zals e = absurd cc
point_takes row.Lact e = absurd cc
point_takes row.Subs e = absurd cc
point_takes row.Adds e = absurd cc
point_takes row.Xor e = absurd cc
point_takes row.Or e = absurd cc
point_takes row.And e = absurd cc
point_takes (row.Sacl s) e = absurd cc
point_takes (row.Sach s) e = absurd cc
point_takes (row.In s) e = absurd cc
point_takes (row.Out s) e = absurd cc
point_takes row.Mpyk e = absurd cc
point_takes row.Lack e = absurd cc
point_takes row.Addk e = absurd cc
point_takes row.Subk e = absurd cc
point_takes (row.Lalk s) e = absurd cc
point_takes (row.Adlk s) e = absurd cc
point_takes (row.Sblk s) e = absurd cc
point_takes row.Andk e = absurd cc
point_takes row.Ork e = absurd cc
point_takes row.Xork e = absurd cc
point_takes row.Dint e = absurd cc
point_takes row.Rovm e = absurd cc
point_takes row.Rsxm e = absurd cc
point_takes row.Ssxm e = absurd cc
point_takes row.Spm e = absurd cc
point_takes row.Pac e = absurd cc
point_takes row.Apac e = absurd cc
point_takes row.Spac e = absurd cc
point_takes row.Sfl e = absurd cc
point_takes row.Sfr e = absurd cc
point_takes row.Neg e = absurd cc
point_takes row.Cmpl e = absurd cc

scratch_is : (n : ℕ) → n < 15 → is_scratch (SCRATCH + n) ≡ true
scratch_is n less = and_from _ _ (le-leb 0x300 (SCRATCH + n) (omega arith)) (le-leb (SCRATCH + n) 0x30f (omega arith))

-- the scratch words of an operand are below the last one
abbrev pub IsLowScratch : AccOperand → Type 0
IsLowScratch (operand.Scratch n) = n < 15
IsLowScratch m = ⊤

-- what is wanted of an operation, behind stores to scratch words
pub record OperationNames (w : Words) (s : Places) (stored : Stored) (o : AccOp) (m : AccOperand) : Type 0 where
  pub names : OperandNames w s m
  pub taken : IsTaken (taken_by o) m
  pub read : IsStored (taken_by o) m stored
  pub low : IsLowScratch m

abbrev pub OperationsName : Words → Places → Stored → List Operation → Type 0
OperationsName w s stored [] = ⊤
OperationsName w s stored (o ∷ os) = OperationNames w s stored o.row o.operand × OperationsName w s (stored_by o.row o.operand stored) os

-- scratch words that were stored to are listed
record Listed (stored : Stored) (words : List ℕ) : Type 0 where
  by : (n : ℕ) → stored n ≡ true → is_among (SCRATCH + n) words ≡ true

module _ (w : Words) (s : Places) (apart : ScratchIsApart w) where
  -- a scratch word is read behind a store, or stored to
  scratch_use : (o : AccOp) (n : ℕ) (t : Taken) (stored : Stored) (words : List ℕ) → taken_by o ≡ t → IsTaken t (operand.Scratch n) → IsStored t (operand.Scratch n) stored → Listed stored words
      → (stores o || is_among (SCRATCH + n) words) ≡ true
  scratch_use o n Read_word stored words e taken read l = or_right (stores o) _ (l.by n read)
  scratch_use o n Written_word stored words e taken read l = or_left (stores o) _ (written_stores o e)
  scratch_use o n No_operand stored words e taken read l = absurd taken
  scratch_use o n Constant8 stored words e taken read l = absurd taken
  scratch_use o n Constant13 stored words e taken read l = absurd taken
  scratch_use o n Constant16 stored words e taken read l = absurd taken

  given_use : (o : AccOp) (f n : ℕ) (t : Taken) → taken_by o ≡ t → IsTaken t (operand.Param f n) → stores o ≡ true
  given_use o f n Written_word e taken = written_stores o e
  given_use o f n Read_word e taken = absurd taken
  given_use o f n No_operand e taken = absurd taken
  given_use o f n Constant8 e taken = absurd taken
  given_use o f n Constant13 e taken = absurd taken
  given_use o f n Constant16 e taken = absurd taken

  -- the word of an operation by itself
  names_word : (o : AccOp) (m : AccOperand) (stored : Stored) (words : List ℕ) → Listed stored words → OperationNames w s stored o m → StepNames w words o (reach_of s m)
  names_word o operand.Nothing stored words l h = tt
  names_word o (operand.Scalar n) stored words l h = tt
  names_word o (operand.Direct v) stored words l h = named w words (stores o) (object_address s v) h.names
  names_word o (operand.Param f n) stored words l h =
      ap (λ b. may_name w words b (parameters_in (slice_get s.parameters f) n)) (given_use o f n (taken_by o) refl h.taken) ∙ given w words (parameters_in (slice_get s.parameters f) n) h.names
  names_word o (operand.Scratch n) stored words l h =
      scratch_named w words (stores o) (SCRATCH + n) apart (scratch_is n h.low) (scratch_use o n (taken_by o) stored words refl h.taken h.read l)
  names_word o (operand.Number c) stored words l h = tt
  names_word o (operand.Address v n) stored words l h = tt
  names_word o operand.Pointed stored words l h = tt

  more_listed : (b : Bool) (a : ℕ) (stored : Stored) (words : List ℕ) → Listed stored words → Listed stored (if b then a ∷ words else words)
  more_listed true a stored words l = record { by = λ n e. or_right (a == SCRATCH + n) _ (l.by n e) }
  more_listed false a stored words l = l

  -- behind it, its word is listed if it is a scratch word
  listed_scratch : (o : AccOp) (n : ℕ) (stored : Stored) (words : List ℕ) → Listed stored words → (stores o || is_among (SCRATCH + n) words) ≡ true
      → Listed (λ m. m == n || stored m) (if stores o then (SCRATCH + n) ∷ words else words)
  listed_scratch o n stored words l used = by (stores o) used
    where
      at : (b : Bool) (k : ℕ) → (b || is_among (SCRATCH + n) words) ≡ true → (k ≡ n) ⊎ (stored k ≡ true) → is_among (SCRATCH + k) (if b then (SCRATCH + n) ∷ words else words) ≡ true
      at true k e (inl same) = or_left (SCRATCH + n == SCRATCH + k) _ (eq-eqb (SCRATCH + n) (SCRATCH + k) (ap (λ x. SCRATCH + x) (sym same)))
      at true k e (inr h) = or_right (SCRATCH + n == SCRATCH + k) _ (l.by k h)
      at false k e (inl same) = ap (λ x. is_among (SCRATCH + x) words) same ∙ e
      at false k e (inr h) = l.by k h

      either : (k : ℕ) → (k == n || stored k) ≡ true → (k ≡ n) ⊎ (stored k ≡ true)
      either k e = cases (or_cases (k == n) (stored k) e)
        where
          cases : ((k == n) ≡ true) ⊎ (stored k ≡ true) → (k ≡ n) ⊎ (stored k ≡ true)
          cases (inl f) = inl (eqb-true k n f)
          cases (inr f) = inr f

      by : (b : Bool) → (b || is_among (SCRATCH + n) words) ≡ true → Listed (λ m. m == n || stored m) (if b then (SCRATCH + n) ∷ words else words)
      by b e = record { by = λ k f. at b k e (either k f) }

  listed_behind : (o : AccOp) (m : AccOperand) (stored : Stored) (words : List ℕ) → Listed stored words → OperationNames w s stored o m → Listed (stored_by o m stored) (stored_behind words o (reach_of s m))
  listed_behind o operand.Nothing stored words l h = l
  listed_behind o (operand.Scalar n) stored words l h = l
  listed_behind o (operand.Direct v) stored words l h = more_listed (stores o) _ stored words l
  listed_behind o (operand.Param f n) stored words l h = more_listed (stores o) _ stored words l
  listed_behind o (operand.Scratch n) stored words l h = listed_scratch o n stored words l (scratch_use o n (taken_by o) stored words refl h.taken h.read l)
  listed_behind o (operand.Number c) stored words l h = l
  listed_behind o (operand.Address v n) stored words l h = l
  listed_behind o operand.Pointed stored words l h = l

  -- a load of the pointer reads the word of the load that it stands for
  read_named : (m : AccOperand) (stored : Stored) (words : List ℕ) → Listed stored words → OperandNames w s m → IsTaken Read_word m → IsStored Read_word m stored → IsLowScratch m → StepNames w words row.Point (reach_of s m)
  read_named operand.Nothing stored words l names taken read low = tt
  read_named (operand.Scalar n) stored words l names taken read low = tt
  read_named (operand.Direct v) stored words l names taken read low = named w words false (object_address s v) names
  read_named (operand.Param f n) stored words l names taken read low = absurd taken
  read_named (operand.Scratch n) stored words l names taken read low = scratch_named w words false (SCRATCH + n) apart (scratch_is n low) (l.by n read)
  read_named (operand.Number c) stored words l names taken read low = tt
  read_named (operand.Address v n) stored words l names taken read low = tt
  read_named operand.Pointed stored words l names taken read low = tt

  read_listed : (o : AccOp) (m : AccOperand) (stored : Stored) (words : List ℕ) → Listed stored words → IsTaken Read_word m → IsStored Read_word m stored → Listed (stored_by o m stored) (stored_behind words row.Point (reach_of s m))
  read_listed o operand.Nothing stored words l taken read = l
  read_listed o (operand.Scalar n) stored words l taken read = l
  read_listed o (operand.Direct v) stored words l taken read = l
  read_listed o (operand.Param f n) stored words l taken read = l
  read_listed o (operand.Scratch n) stored words l taken read = listed_scratch row.Point n stored words l (l.by n read)
  read_listed o (operand.Number c) stored words l taken read = l
  read_listed o (operand.Address v n) stored words l taken read = l
  read_listed o operand.Pointed stored words l taken read = l

  -- the first step of a load of the pointer, and what is listed behind it
  record Joins (o : AccOp) (m : AccOperand) (stored : Stored) (words : List ℕ) : Type 0 where
    names : StepNames w words row.Point (reach_of s m)
    listed : Listed (stored_by o m stored) (stored_behind words row.Point (reach_of s m))

  constant_joins : (o : AccOp) (m : AccOperand) (stored : Stored) (words : List ℕ) → Listed stored words → IsTaken Constant16 m → Joins o m stored words
  constant_joins o operand.Nothing stored words l taken = absurd taken
  constant_joins o (operand.Scalar n) stored words l taken = absurd taken
  constant_joins o (operand.Direct v) stored words l taken = absurd taken
  constant_joins o (operand.Param f n) stored words l taken = absurd taken
  constant_joins o (operand.Scratch n) stored words l taken = absurd taken
  constant_joins o (operand.Number c) stored words l taken = record { names = tt; listed = l }
  constant_joins o (operand.Address v n) stored words l taken = record { names = tt; listed = l }
  constant_joins o operand.Pointed stored words l taken = absurd taken

  joins : (o : AccOp) (m : AccOperand) (stored : Stored) (words : List ℕ) → Listed stored words → OperationNames w s stored o m → is_plain_load o ≡ true → Joins o m stored words
  joins o m stored words l h e = by (load_takes o e)
    where
      by : (taken_by o ≡ Read_word) ⊎ (taken_by o ≡ Constant16) → Joins o m stored words
      by (inl t) =
          let taken = subst (λ x. IsTaken x m) t h.taken in
          let read = subst (λ x. IsStored x m stored) t h.read in
          record { names = read_named m stored words l h.names taken read h.low; listed = read_listed o m stored words l taken read }
      by (inr t) = constant_joins o m stored words l (subst (λ x. IsTaken x m) t h.taken)

  -- Point has no operand
  none_listed : (o : AccOp) (m : AccOperand) (stored : Stored) (words : List ℕ) → IsTaken No_operand m → Listed stored words → Listed (stored_by o m stored) words
  none_listed o operand.Nothing stored words taken l = l
  none_listed o (operand.Scalar n) stored words taken l = l
  none_listed o (operand.Direct v) stored words taken l = l
  none_listed o (operand.Param f n) stored words taken l = l
  none_listed o (operand.Scratch n) stored words taken l = absurd taken
  none_listed o (operand.Number c) stored words taken l = l
  none_listed o (operand.Address v n) stored words taken l = l
  none_listed o operand.Pointed stored words taken l = l

  point_listed : (o : AccOp) (m : AccOperand) (stored : Stored) (words : List ℕ) → is_point o ≡ true → IsTaken (taken_by o) m → Listed stored words → Listed (stored_by o m stored) words
  point_listed o m stored words e taken l = none_listed o m stored words (subst (λ t. IsTaken t m) (point_takes o e) taken) l

  pointer_parts : (a b c : Bool) → (if a then (if b then c else false) else false) ≡ true → (a ≡ true) × (b ≡ true)
  pointer_parts true true c e = (refl, refl)
  pointer_parts true false c e = absurd cc
  pointer_parts false b c e = absurd cc

  -- the word through which AR1 is loaded is stored to just before
  point_word : (words : List ℕ) (store : Bool) → (store || is_among POINT_WORD words) ≡ true → may_name w words store POINT_WORD ≡ true
  point_word words store e = scratch_named w words store POINT_WORD apart refl e

  abbrev Named : List Operation → Type 0
  Named os = (joined : Bool) (stored : Stored) (words : List ℕ) → (joined ≡ true → begins_with_point os ≡ true) → Listed stored words → OperationsName w s stored os → StepsName w words (steps_from s joined os)

  by_itself : (o : Operation) (os : List Operation) (stored : Stored) (words : List ℕ) → Listed stored words → OperationsName w s stored (o ∷ os) → Named os → StepsName w words (steps_of_operation s o ++ steps_from s false os)
  by_itself o os stored words l h more = by (is_point o.row) refl
    where
      by : (b : Bool) → is_point o.row ≡ b
          → StepsName w words ((if b then step (row.Sacl 0) (reach.Word POINT_WORD) ∷ step row.Point (reach.Word POINT_WORD) ∷ [] else step o.row (reach_of s o.operand) ∷ []) ++ steps_from s false os)
      by true e = (
        point_word words true refl,
        (
          point_word (POINT_WORD ∷ words) false refl,
          more false _ (POINT_WORD ∷ words) (λ f. absurd cc) (point_listed o.row o.operand stored (POINT_WORD ∷ words) e h.0.taken (more_listed true POINT_WORD stored words l)) h.1,
        ),
      )
      by false e = (names_word o.row o.operand stored words l h.0, more false _ _ (λ f. absurd cc) (listed_behind o.row o.operand stored words l h.0) h.1)

  steps_name : (os : List Operation) → Named os
  steps_name [] joined stored words points l h = tt
  steps_name (o ∷ os) true stored words points l h = steps_name os false _ words (λ f. absurd cc) (point_listed o.row o.operand stored words (points refl) h.0.taken l) h.1
  steps_name (o ∷ os) false stored words points l h = by (is_load_of_pointer o os) refl (by_itself o os stored words l h (steps_name os)) (steps_name os)
    where
      by : (b : Bool) → is_load_of_pointer o os ≡ b → StepsName w words (steps_of_operation s o ++ steps_from s false os) → Named os
          → StepsName w words (if b then step row.Point (reach_of s o.operand) ∷ steps_from s true os else (steps_of_operation s o ++ steps_from s false os))
      by true e itself more =
          let parts = pointer_parts (is_plain_load o.row) (begins_with_point os) (is_loaded_next (behind_first os)) e in
          let x = joins o.row o.operand stored words l h.0 parts.0 in
          (x.names, more true _ _ (λ f. parts.1) x.listed h.1)
      by false e itself more = itself

  pub operations_name : (os : List Operation) → OperationsName w s nothing_stored os → StepsName w [] (steps_of s os)
  operations_name os h = steps_name os false nothing_stored [] (λ f. absurd cc) (record { by = λ n e. absurd cc }) h
