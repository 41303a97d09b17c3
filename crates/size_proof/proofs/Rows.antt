-- The words of a run of operations: at most what these weigh.
use Rattle.std.proofs.Common.{◌≡◌, ℕ, ◌+◌, ◌-◌, ◌/◌, ◌%◌, ◌≤◌, Bool, true, false, List, [], ◌∷◌, ◌++◌, Option, Some, None, refl, sym, arith}
use Rattle.std.specs.Prelude.{slice_get, nat_lt, ◌==◌, ◌&&◌, if◌then◌else◌}
use Rattle.std.proofs.lemmas.Bool.{true≢false}
use Rattle.c25_isa.specs.declared.instruction.Instr.{Instr}
use Rattle.c25_isa.specs.declared.instruction.Instr.TheVariants.{Adrk, Sbrk, Lrlk, Ldpk, Lark}
use Rattle.c25_isa.specs.declared.operand.Change.TheVariants.{Stay}
use Rattle.c25_isa.specs.declared.operand.Operand.{Operand}
use Rattle.c25_isa.specs.declared.operand.Operand.TheVariants.{Direct}
use Rattle.c25_isa.specs.Step.{wrap16}
use Rattle.c25_isa.specs.Table.{second_word, length_of}
use Rattle.c25_code.specs.Straight.{code_size}
use Rattle.c25_code.proofs.Pieces.{code_size-append}
use Rattle.acc_code.specs.declared.operand.AccOperand.{AccOperand}
use Rattle.acc_code.specs.declared.operand.AccOperand.TheVariants as operand
use Rattle.acc_code.specs.declared.operation.AccOp.{AccOp}
use Rattle.acc_code.specs.declared.operation.AccOp.TheVariants as row
use Rattle.acc_code.specs.Operands.{IsTaken, taken_by}
use Rattle.ir_semantics.specs.AccRows.{operand_weight, operation_weight}
use Rattle.emit_blocks.specs.declared.site.ScalarPlace.{ScalarPlace}
use Rattle.emit_blocks.specs.declared.step.Reach.{Reach}
use Rattle.emit_blocks.specs.declared.step.Reach.TheVariants as reach
use Rattle.emit_blocks.specs.declared.step.Step.{Step}
use Rattle.emit_blocks.specs.Instructions.{word_instr, constant_instr}
use Rattle.emit_blocks.specs.Moves.{next_address, next_register, change_to, is_by_index, change_of_step, moves_by_index, moved, indirect, made_current}
use Rattle.emit_blocks.specs.Places.{Places, SCRATCH, scalar_or_zero, parameters_in, object_address, reach_of}
use Rattle.emit_blocks.specs.Right.{IsRight, AreRight}
use Rattle.emit_blocks.specs.Runs.{Known, nothing_known, is_page, page_code, row_code, known_behind, steps_code, index_code, run_code}
use Rattle.emit_blocks.specs.Steps.{Operation, is_plain_load, is_point, begins_with_point, is_loaded_next, behind_first, is_load_of_pointer, step, POINT_WORD, steps_of_operation, steps_from, steps_of}

-- what operations weigh together
abbrev pub operations_weight : List Operation → ℕ
operations_weight [] = 0
operations_weight (o ∷ os) = operation_weight o.row o.operand + operations_weight os

pub operations_weight-append : (os more : List Operation) → operations_weight (os ++ more) ≡ operations_weight os + operations_weight more
operations_weight-append [] more = omega arith
operations_weight-append (o ∷ os) more = omega (arith, operations_weight-append os more)

-- a row that works on a word is one word, on the accumulator alone too, and a load is no Point
record RowFacts (o : AccOp) : Type 0 where
  one : (x : Operand) → length_of (second_word (word_instr o x)) ≡ 1
  weighs : is_point o ≡ false → (m : AccOperand) → operation_weight o m ≡ operand_weight m
  bare : IsTaken (taken_by o) operand.Nothing → is_point o ≡ false → (w : ℕ) → length_of (second_word (constant_instr o w)) ≡ 1
  load : is_plain_load o ≡ true → is_point o ≡ false
  loads : is_plain_load o ≡ true → IsTaken (taken_by o) operand.Nothing → ⊥

unlike : false ≡ true → ⊥
unlike e = true≢false (sym e)

row_facts : (o : AccOp) → RowFacts o
row_facts row.Point = record { one = λ x. refl; weighs = λ e m. absurd (true≢false e); bare = λ t e w. absurd (true≢false e); load = λ e. absurd (unlike e); loads = λ e t. unlike e }
row_facts (row.Add s) = record { one = λ x. refl; weighs = λ e m. refl; bare = λ t e w. absurd t; load = λ e. absurd (unlike e); loads = λ e t. unlike e }
row_facts (row.Sub s) = record { one = λ x. refl; weighs = λ e m. refl; bare = λ t e w. absurd t; load = λ e. absurd (unlike e); loads = λ e t. unlike e }
row_facts (row.Lac s) = record { one = λ x. refl; weighs = λ e m. refl; bare = λ t e w. absurd t; load = λ e. refl; loads = λ e t. t }
row_facts row.Mpy = record { one = λ x. refl; weighs = λ e m. refl; bare = λ t e w. absurd t; load = λ e. absurd (unlike e); loads = λ e t. unlike e }
row_facts row.Lt = record { one = λ x. refl; weighs = λ e m. refl; bare = λ t e w. absurd t; load = λ e. absurd (unlike e); loads = λ e t. unlike e }
row_facts row.Zals = record { one = λ x. refl; weighs = λ e m. refl; bare = λ t e w. absurd t; load = λ e. absurd (unlike e); loads = λ e t. unlike e }
row_facts row.Lact = record { one = λ x. refl; weighs = λ e m. refl; bare = λ t e w. absurd t; load = λ e. absurd (unlike e); loads = λ e t. unlike e }
row_facts row.Subs = record { one = λ x. refl; weighs = λ e m. refl; bare = λ t e w. absurd t; load = λ e. absurd (unlike e); loads = λ e t. unlike e }
row_facts row.Adds = record { one = λ x. refl; weighs = λ e m. refl; bare = λ t e w. absurd t; load = λ e. absurd (unlike e); loads = λ e t. unlike e }
row_facts row.Xor = record { one = λ x. refl; weighs = λ e m. refl; bare = λ t e w. absurd t; load = λ e. absurd (unlike e); loads = λ e t. unlike e }
row_facts row.Or = record { one = λ x. refl; weighs = λ e m. refl; bare = λ t e w. absurd t; load = λ e. absurd (unlike e); loads = λ e t. unlike e }
row_facts row.And = record { one = λ x. refl; weighs = λ e m. refl; bare = λ t e w. absurd t; load = λ e. absurd (unlike e); loads = λ e t. unlike e }
row_facts (row.Sacl s) = record { one = λ x. refl; weighs = λ e m. refl; bare = λ t e w. absurd t; load = λ e. absurd (unlike e); loads = λ e t. unlike e }
row_facts (row.Sach s) = record { one = λ x. refl; weighs = λ e m. refl; bare = λ t e w. absurd t; load = λ e. absurd (unlike e); loads = λ e t. unlike e }
row_facts (row.In s) = record { one = λ x. refl; weighs = λ e m. refl; bare = λ t e w. absurd t; load = λ e. absurd (unlike e); loads = λ e t. unlike e }
row_facts (row.Out s) = record { one = λ x. refl; weighs = λ e m. refl; bare = λ t e w. absurd t; load = λ e. absurd (unlike e); loads = λ e t. unlike e }
row_facts row.Mpyk = record { one = λ x. refl; weighs = λ e m. refl; bare = λ t e w. absurd t; load = λ e. absurd (unlike e); loads = λ e t. unlike e }
row_facts row.Lack = record { one = λ x. refl; weighs = λ e m. refl; bare = λ t e w. absurd t; load = λ e. absurd (unlike e); loads = λ e t. unlike e }
row_facts row.Addk = record { one = λ x. refl; weighs = λ e m. refl; bare = λ t e w. absurd t; load = λ e. absurd (unlike e); loads = λ e t. unlike e }
row_facts row.Subk = record { one = λ x. refl; weighs = λ e m. refl; bare = λ t e w. absurd t; load = λ e. absurd (unlike e); loads = λ e t. unlike e }
row_facts (row.Lalk s) = record { one = λ x. refl; weighs = λ e m. refl; bare = λ t e w. absurd t; load = λ e. refl; loads = λ e t. t }
row_facts (row.Adlk s) = record { one = λ x. refl; weighs = λ e m. refl; bare = λ t e w. absurd t; load = λ e. absurd (unlike e); loads = λ e t. unlike e }
row_facts (row.Sblk s) = record { one = λ x. refl; weighs = λ e m. refl; bare = λ t e w. absurd t; load = λ e. absurd (unlike e); loads = λ e t. unlike e }
row_facts row.Andk = record { one = λ x. refl; weighs = λ e m. refl; bare = λ t e w. absurd t; load = λ e. absurd (unlike e); loads = λ e t. unlike e }
row_facts row.Ork = record { one = λ x. refl; weighs = λ e m. refl; bare = λ t e w. absurd t; load = λ e. absurd (unlike e); loads = λ e t. unlike e }
row_facts row.Xork = record { one = λ x. refl; weighs = λ e m. refl; bare = λ t e w. absurd t; load = λ e. absurd (unlike e); loads = λ e t. unlike e }
row_facts row.Dint = record { one = λ x. refl; weighs = λ e m. refl; bare = λ t e w. refl; load = λ e. absurd (unlike e); loads = λ e t. unlike e }
row_facts row.Rovm = record { one = λ x. refl; weighs = λ e m. refl; bare = λ t e w. refl; load = λ e. absurd (unlike e); loads = λ e t. unlike e }
row_facts row.Rsxm = record { one = λ x. refl; weighs = λ e m. refl; bare = λ t e w. refl; load = λ e. absurd (unlike e); loads = λ e t. unlike e }
row_facts row.Ssxm = record { one = λ x. refl; weighs = λ e m. refl; bare = λ t e w. refl; load = λ e. absurd (unlike e); loads = λ e t. unlike e }
row_facts row.Spm = record { one = λ x. refl; weighs = λ e m. refl; bare = λ t e w. refl; load = λ e. absurd (unlike e); loads = λ e t. unlike e }
row_facts row.Pac = record { one = λ x. refl; weighs = λ e m. refl; bare = λ t e w. refl; load = λ e. absurd (unlike e); loads = λ e t. unlike e }
row_facts row.Apac = record { one = λ x. refl; weighs = λ e m. refl; bare = λ t e w. refl; load = λ e. absurd (unlike e); loads = λ e t. unlike e }
row_facts row.Spac = record { one = λ x. refl; weighs = λ e m. refl; bare = λ t e w. refl; load = λ e. absurd (unlike e); loads = λ e t. unlike e }
row_facts row.Sfl = record { one = λ x. refl; weighs = λ e m. refl; bare = λ t e w. refl; load = λ e. absurd (unlike e); loads = λ e t. unlike e }
row_facts row.Sfr = record { one = λ x. refl; weighs = λ e m. refl; bare = λ t e w. refl; load = λ e. absurd (unlike e); loads = λ e t. unlike e }
row_facts row.Neg = record { one = λ x. refl; weighs = λ e m. refl; bare = λ t e w. refl; load = λ e. absurd (unlike e); loads = λ e t. unlike e }
row_facts row.Cmpl = record { one = λ x. refl; weighs = λ e m. refl; bare = λ t e w. refl; load = λ e. absurd (unlike e); loads = λ e t. unlike e }

-- an instruction takes at most two words
instr_size : (i : Instr) → length_of (second_word i) ≤ 2
instr_size i = by (second_word i)
  where
    by : (word : Option ℕ) → length_of word ≤ 2
    by None = omega arith
    by (Some w) = omega arith

if_size : (b : Bool) (x y : List Instr) (n : ℕ) → code_size x ≤ n → code_size y ≤ n → code_size (if b then x else y) ≤ n
if_size true x y n h k = h
if_size false x y n h k = k

moved_size : (r : ℕ) (o : Option ℕ) (a : ℕ) → code_size (moved r o a) ≤ 2
moved_size r None a = omega arith
moved_size r (Some p) a =
    let last = if_size (nat_lt a p && nat_lt (p - a) 256) (Sbrk (p - a) ∷ []) (Lrlk r a ∷ []) 2 (omega arith) (omega arith) in
    if_size (p == a) [] _ 2 (omega arith) (if_size (nat_lt p a && nat_lt (a - p) 256) (Adrk (a - p) ∷ []) _ 2 (omega arith) last)

current_size : (b : Bool) (r : ℕ) → code_size (made_current b r) ≤ 1
current_size true r = omega arith
current_size false r = omega arith

page_size : (known : Option ℕ) (a : ℕ) → code_size (page_code known a) ≤ 1
page_size known a = if_size (is_page known (a / 128)) [] (Ldpk (a / 128) ∷ []) 1 (omega arith) (omega arith)

-- the accesses of steps through registers of lists: AR0's load counts among them
abbrev one_access : Reach → ℕ
one_access (reach.Scalar p) = 1
one_access reach.Pointer = 0
one_access (reach.Word a) = 0
one_access (reach.Constant w) = 0

abbrev accesses : List Step → ℕ
accesses [] = 0
accesses (x ∷ xs) = one_access x.reach + accesses xs

named_moves : (d : ℕ) (xs : List Step) → moves_by_index d xs ≡ true → 1 ≤ accesses xs
named_moves d [] e = absurd (unlike e)
named_moves d (x ∷ xs) e = by x.reach e (named_moves d xs)
  where
    by : (r : Reach) → (if is_by_index (change_of_step d r xs) then true else moves_by_index d xs) ≡ true → (moves_by_index d xs ≡ true → 1 ≤ accesses xs)
        → 1 ≤ one_access r + accesses xs
    by (reach.Scalar p) f more = omega arith
    by reach.Pointer f more = let h = more f in omega (arith, h)
    by (reach.Word a) f more = let h = more f in omega (arith, h)
    by (reach.Constant w) f more = let h = more f in omega (arith, h)

index_size : (d : ℕ) (xs : List Step) → code_size (index_code d xs) ≤ accesses xs
index_size d xs = by (moves_by_index d xs) refl
  where
    by : (b : Bool) → moves_by_index d xs ≡ b → code_size (if b then Lark 0 d ∷ [] else []) ≤ accesses xs
    by true e = named_moves d xs e
    by false e = omega arith

-- there is an operand
abbrev IsThere : AccOperand → Type 0
IsThere operand.Nothing = ⊥
IsThere (operand.Scalar n) = Unit {0}
IsThere (operand.Direct v) = Unit {0}
IsThere (operand.Param f n) = Unit {0}
IsThere (operand.Scratch n) = Unit {0}
IsThere (operand.Number w) = Unit {0}
IsThere (operand.Address v n) = Unit {0}
IsThere operand.Pointed = Unit {0}

word_size : (o : AccOp) (x : Operand) (front : List Instr) → code_size (front ++ word_instr o x ∷ []) ≡ code_size front + 1
word_size o x front = omega (arith, code_size-append front (word_instr o x ∷ []), (row_facts o).one x)

module _ (d : ℕ) (k : Known) (o : AccOp) (xs : List Step) where
  scalar_size : (p : ScalarPlace) → code_size (row_code d k o (reach.Scalar p) xs) ≤ 4
  scalar_size p =
      let x = indirect (change_to d p.address (next_address p.register xs)) p.register (next_register xs) in
      let front = moved p.register (k.stands p.register) p.address in
      let current = made_current k.current p.register in
      omega (arith, code_size-append front (current ++ word_instr o x ∷ []), word_size o x current, moved_size p.register (k.stands p.register) p.address, current_size k.current p.register)

  pointer_size : code_size (row_code d k o reach.Pointer xs) ≤ 2
  pointer_size = omega (arith, word_size o (indirect Stay 1 (next_register xs)) (made_current k.current 1), current_size k.current 1)

  direct_size : (a : ℕ) → code_size (row_code d k o (reach.Word a) xs) ≤ 2
  direct_size a = omega (arith, word_size o (Direct (a % 128)) (page_code k.page a), page_size k.page a)

  constant_size : (w : ℕ) → code_size (row_code d k o (reach.Constant w) xs) ≤ 2
  constant_size w = omega (arith, instr_size (constant_instr o w))

  there_size : (s : Places) (m : AccOperand) → IsThere m → code_size (row_code d k o (reach_of s m) xs) + one_access (reach_of s m) ≤ operand_weight m
  there_size s operand.Nothing h = absurd h
  there_size s (operand.Scalar n) h = omega (arith, scalar_size (scalar_or_zero (slice_get s.scalars n)))
  there_size s (operand.Direct v) h = omega (arith, direct_size (object_address s v))
  there_size s (operand.Param f n) h = omega (arith, direct_size (parameters_in (slice_get s.parameters f) n))
  there_size s (operand.Scratch n) h = omega (arith, direct_size (SCRATCH + n))
  there_size s (operand.Number w) h = omega (arith, constant_size w)
  there_size s (operand.Address v n) h = omega (arith, constant_size (wrap16 (object_address s v + n)))
  there_size s operand.Pointed h = omega (arith, pointer_size)

  -- a row that is no Point, with an operand that it takes
  taken_size : (s : Places) (m : AccOperand) → IsTaken (taken_by o) m → is_point o ≡ false
      → code_size (row_code d k o (reach_of s m) xs) + one_access (reach_of s m) ≤ operand_weight m
  taken_size s operand.Nothing t e = let one = (row_facts o).bare t e 0 in omega (arith, one)
  taken_size s (operand.Scalar n) t e = there_size s (operand.Scalar n) tt
  taken_size s (operand.Direct v) t e = there_size s (operand.Direct v) tt
  taken_size s (operand.Param f n) t e = there_size s (operand.Param f n) tt
  taken_size s (operand.Scratch n) t e = there_size s (operand.Scratch n) tt
  taken_size s (operand.Number w) t e = there_size s (operand.Number w) tt
  taken_size s (operand.Address v n) t e = there_size s (operand.Address v n) tt
  taken_size s operand.Pointed t e = there_size s operand.Pointed tt

-- a load has an operand
loads_there : (o : AccOp) (m : AccOperand) → is_plain_load o ≡ true → IsTaken (taken_by o) m → IsThere m
loads_there o operand.Nothing e t = (row_facts o).loads e t
loads_there o (operand.Scalar n) e t = tt
loads_there o (operand.Direct v) e t = tt
loads_there o (operand.Param f n) e t = tt
loads_there o (operand.Scratch n) e t = tt
loads_there o (operand.Number w) e t = tt
loads_there o (operand.Address v n) e t = tt
loads_there o operand.Pointed e t = tt

point_weight : (o : AccOp) (m : AccOperand) → is_point o ≡ true → operation_weight o m ≡ 3
point_weight row.Point m e = refl
point_weight (row.Add s) m e = absurd (unlike e)
point_weight (row.Sub s) m e = absurd (unlike e)
point_weight (row.Lac s) m e = absurd (unlike e)
point_weight row.Mpy m e = absurd (unlike e)
point_weight row.Lt m e = absurd (unlike e)
point_weight row.Zals m e = absurd (unlike e)
point_weight row.Lact m e = absurd (unlike e)
point_weight row.Subs m e = absurd (unlike e)
point_weight row.Adds m e = absurd (unlike e)
point_weight row.Xor m e = absurd (unlike e)
point_weight row.Or m e = absurd (unlike e)
point_weight row.And m e = absurd (unlike e)
point_weight (row.Sacl s) m e = absurd (unlike e)
point_weight (row.Sach s) m e = absurd (unlike e)
point_weight (row.In s) m e = absurd (unlike e)
point_weight (row.Out s) m e = absurd (unlike e)
point_weight row.Mpyk m e = absurd (unlike e)
point_weight row.Lack m e = absurd (unlike e)
point_weight row.Addk m e = absurd (unlike e)
point_weight row.Subk m e = absurd (unlike e)
point_weight (row.Lalk s) m e = absurd (unlike e)
point_weight (row.Adlk s) m e = absurd (unlike e)
point_weight (row.Sblk s) m e = absurd (unlike e)
point_weight row.Andk m e = absurd (unlike e)
point_weight row.Ork m e = absurd (unlike e)
point_weight row.Xork m e = absurd (unlike e)
point_weight row.Dint m e = absurd (unlike e)
point_weight row.Rovm m e = absurd (unlike e)
point_weight row.Rsxm m e = absurd (unlike e)
point_weight row.Ssxm m e = absurd (unlike e)
point_weight row.Spm m e = absurd (unlike e)
point_weight row.Pac m e = absurd (unlike e)
point_weight row.Apac m e = absurd (unlike e)
point_weight row.Spac m e = absurd (unlike e)
point_weight row.Sfl m e = absurd (unlike e)
point_weight row.Sfr m e = absurd (unlike e)
point_weight row.Neg m e = absurd (unlike e)
point_weight row.Cmpl m e = absurd (unlike e)

first_of_both : (a b : Bool) → (if a then b else false) ≡ true → a ≡ true
first_of_both true b e = refl
first_of_both false b e = absurd (unlike e)

-- the words of steps, with one for each access through a register
abbrev Fits : ℕ → Known → List Step → ℕ → Type 0
Fits d k xs n = code_size (steps_code d k xs) + accesses xs ≤ n

-- Point by itself: a store on the page of its scratch word, and a load from there
module _ (d : ℕ) (k : Known) (xs : List Step) where
  abbrev stored : Step
  stored = step (row.Sacl 0) (reach.Word POINT_WORD)

  abbrev loaded : Step
  loaded = step row.Point (reach.Word POINT_WORD)

  abbrev behind_store : Known
  behind_store = known_behind d k (reach.Word POINT_WORD) (loaded ∷ xs)

  abbrev behind_load : Known
  behind_load = known_behind d behind_store (reach.Word POINT_WORD) xs

  load_again : code_size (row_code d behind_store row.Point (reach.Word POINT_WORD) xs) ≤ 1
  load_again = omega arith

  point_size : (n : ℕ) → Fits d behind_load xs n → Fits d k (stored ∷ loaded ∷ xs) (3 + n)
  point_size n h =
      let store = direct_size d k (row.Sacl 0) (loaded ∷ xs) POINT_WORD in
      let load = load_again in
      let two = code_size-append (row_code d k (row.Sacl 0) (reach.Word POINT_WORD) (loaded ∷ xs)) (row_code d behind_store row.Point (reach.Word POINT_WORD) xs ++ steps_code d behind_load xs) in
      let one = code_size-append (row_code d behind_store row.Point (reach.Word POINT_WORD) xs) (steps_code d behind_load xs) in
      omega (arith, store, load, two, one, h)

-- a step before others
step_size : (d : ℕ) (k : Known) (x : Step) (xs : List Step) (n m : ℕ) → code_size (row_code d k x.row x.reach xs) + one_access x.reach ≤ n
    → Fits d (known_behind d k x.reach xs) xs m → Fits d k (x ∷ xs) (n + m)
step_size d k x xs n m h rest = omega (arith, h, rest, code_size-append (row_code d k x.row x.reach xs) (steps_code d (known_behind d k x.reach xs) xs))

more_fits : (d : ℕ) (k : Known) (xs : List Step) (n m : ℕ) → n ≤ m → Fits d k xs n → Fits d k xs m
more_fits d k xs n m le h = omega (arith, le, h)

-- an operation before others
module _ (s : Places) (d : ℕ) (o : Operation) (os : List Operation) (right : IsRight o) where
  one_more : ((j : Bool) (k : Known) → Fits d k (steps_from s j os) (operations_weight os)) → (k : Known)
      → Fits d k (steps_from s false (o ∷ os)) (operations_weight (o ∷ os))
  one_more rest k = by (is_load_of_pointer o os) refl
    where
      alone : (c : Bool) → is_point o.row ≡ c
          → Fits d k ((if c then step (row.Sacl 0) (reach.Word POINT_WORD) ∷ step row.Point (reach.Word POINT_WORD) ∷ [] else step o.row (reach_of s o.operand) ∷ []) ++ steps_from s false os) (operations_weight (o ∷ os))
      alone true e =
          let xs = steps_from s false os in
          let same = point_weight o.row o.operand e in
          let point = point_size d k xs (operations_weight os) (rest false (behind_load d k xs)) in
          omega (arith, point, same)
      alone false e =
          let xs = steps_from s false os in
          let first = taken_size d k o.row xs s o.operand right.taken e in
          let same = (row_facts o.row).weighs e o.operand in
          let all = step_size d k (step o.row (reach_of s o.operand)) xs (operand_weight o.operand) (operations_weight os) first (rest false (known_behind d k (reach_of s o.operand) xs)) in
          omega (arith, all, same)

      by : (b : Bool) → is_load_of_pointer o os ≡ b
          → Fits d k (if b then step row.Point (reach_of s o.operand) ∷ steps_from s true os else steps_of_operation s o ++ steps_from s false os) (operations_weight (o ∷ os))
      by true e =
          let plain = first_of_both (is_plain_load o.row) (if begins_with_point os then is_loaded_next (behind_first os) else false) e in
          let xs = steps_from s true os in
          let first = there_size d k row.Point xs s o.operand (loads_there o.row o.operand plain right.taken) in
          let same = (row_facts o.row).weighs ((row_facts o.row).load plain) o.operand in
          let all = step_size d k (step row.Point (reach_of s o.operand)) xs (operand_weight o.operand) (operations_weight os) first (rest true (known_behind d k (reach_of s o.operand) xs)) in
          omega (arith, all, same)
      by false e = alone (is_point o.row) refl

module _ (s : Places) (d : ℕ) where
  steps_size : (os : List Operation) → AreRight os → (j : Bool) (k : Known) → Fits d k (steps_from s j os) (operations_weight os)
  steps_size [] r true k = omega arith
  steps_size [] r false k = omega arith
  steps_size (o ∷ os) r true k = let rest = steps_size os r.1 false k in omega (arith, rest)
  steps_size (o ∷ os) r false k = one_more s d o os r.0 (steps_size os r.1) k

-- a run takes at most the words that its operations weigh, wherever their operands lie
pub run_size : (s : Places) (os : List Operation) → AreRight os → code_size (run_code s os) ≤ operations_weight os
run_size s os r =
    let index = index_size s.step (steps_of s os) in
    let steps = steps_size s s.step os r false nothing_known in
    omega (arith, index, steps, code_size-append (index_code s.step (steps_of s os)) (steps_code s.step nothing_known (steps_of s os)))
