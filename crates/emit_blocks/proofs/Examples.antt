-- Runs by hand: those of a filter, and some with two registers, a step of 2 and words on two pages.
use Rattle.std.proofs.Common.{◌≡◌, ℕ, [], ◌∷◌, List, Some, None, refl}
use Rattle.c_tree.specs.declared.program.VarRef.TheVariants.{Local, Static}
use Rattle.c25_isa.specs.declared.operand.Change.{Change}
use Rattle.c25_isa.specs.declared.operand.Change.TheVariants.{Stay, Down, Up, DownIndex, UpIndex}
use Rattle.c25_isa.specs.declared.operand.Operand.{Operand}
use Rattle.c25_isa.specs.declared.operand.Operand.TheVariants as word
use Rattle.c25_isa.specs.declared.instruction.Instr.TheVariants as instr
use Rattle.acc_code.specs.declared.operand.AccOperand.{AccOperand}
use Rattle.acc_code.specs.declared.operand.AccOperand.TheVariants as operand
use Rattle.acc_code.specs.declared.operation.AccOp.TheVariants as row
use Rattle.emit_blocks.specs.declared.site.ScalarPlace.{ScalarPlace}
use Rattle.emit_blocks.specs.Places.{Places}
use Rattle.emit_blocks.specs.Steps.{Operation, operation}
use Rattle.emit_blocks.specs.Runs.{run_code}

abbrev on : ℕ → ℕ → ScalarPlace
on r a = record { register = r; address = a }

abbrev through : Change → Operand
through c = word.Indirect (record { change = c; next = None })

abbrev through_to : Change → ℕ → Operand
through_to c r = word.Indirect (record { change = c; next = Some r })

-- a filter: h at 0310h, x at 0321h; s, acc, i, p and two temporaries on one register
abbrev filter : Places
filter = record {
  scalars = on 2 0x332 ∷ on 2 0x333 ∷ on 2 0x335 ∷ on 2 0x336 ∷ on 2 0x334 ∷ on 2 0x337 ∷ [];
  statics = 0x310 ∷ 0x321 ∷ [];
  locals = [];
  parameters = (0x332 ∷ []) ∷ [] ∷ [];
  step = 1;
}

abbrev x : AccOperand
x = operand.Address (Static 1) 0

abbrev acc : AccOperand
acc = operand.Scalar 1

abbrev i : AccOperand
i = operand.Scalar 2

abbrev p : AccOperand
p = operand.Scalar 3

abbrev t0 : AccOperand
t0 = operand.Scalar 4

abbrev t1 : AccOperand
t1 = operand.Scalar 5

abbrev s0 : AccOperand
s0 = operand.Scratch 0

abbrev star : AccOperand
star = operand.Pointed

abbrev sacl : AccOperand → Operation
sacl m = operation (row.Sacl 0) m

abbrev lac : AccOperand → Operation
lac m = operation (row.Lac 0) m

abbrev point : Operation
point = operation row.Point operand.Nothing

-- x[i] = x[i - 1]
abbrev shift : List Operation
shift =
    operation (row.Lalk 0) x ∷ operation (row.Add 0) i ∷ sacl t0 ∷ lac i ∷ operation row.Subk (operand.Number 1) ∷ operation (row.Adlk 0) x ∷ point ∷ lac star
    ∷ sacl s0 ∷ lac t0 ∷ point ∷ lac s0 ∷ sacl star ∷ []

shift_code : run_code filter shift ≡
    instr.Lalk 0 0x321 ∷ instr.Lrlk 2 0x335 ∷ instr.Mar (record { change = Stay; next = Some 2 }) ∷ instr.Add 0 (through Down) ∷ instr.Sacl 0 (through Up)
    ∷ instr.Lac 0 (through_to Down 1) ∷ instr.Subk 1 ∷ instr.Adlk 0 0x321 ∷ instr.Ldpk 6 ∷ instr.Sacl 0 (word.Direct 15) ∷ instr.Lar 1 (word.Direct 15)
    ∷ instr.Lac 0 (through_to Stay 2) ∷ instr.Sacl 0 (word.Direct 0) ∷ instr.Lar 1 (through_to Stay 1) ∷ instr.Lac 0 (word.Direct 0) ∷ instr.Sacl 0 (through Stay) ∷ []
shift_code = refl

-- acc += x[i] * *p++
abbrev sum : List Operation
sum =
    lac acc ∷ sacl t0 ∷ operation (row.Lalk 0) x ∷ operation (row.Add 0) i ∷ point ∷ lac star ∷ sacl t1 ∷ lac p ∷ point ∷ operation row.Addk (operand.Number 1)
    ∷ sacl p ∷ operation row.Lt star ∷ operation row.Mpy t1 ∷ operation row.Pac operand.Nothing ∷ operation (row.Add 0) t0 ∷ sacl acc ∷ []

sum_code : run_code filter sum ≡
    instr.Lrlk 2 0x333 ∷ instr.Mar (record { change = Stay; next = Some 2 }) ∷ instr.Lac 0 (through Up) ∷ instr.Sacl 0 (through Up)
    ∷ instr.Lalk 0 0x321 ∷ instr.Add 0 (through_to Stay 1) ∷ instr.Ldpk 6 ∷ instr.Sacl 0 (word.Direct 15) ∷ instr.Lar 1 (word.Direct 15) ∷ instr.Lac 0 (through_to Stay 2)
    ∷ instr.Adrk 2 ∷ instr.Sacl 0 (through Down) ∷ instr.Lac 0 (through Stay) ∷ instr.Sacl 0 (word.Direct 15) ∷ instr.Lar 1 (word.Direct 15) ∷ instr.Addk 1
    ∷ instr.Sacl 0 (through_to Up 1) ∷ instr.Lt (through_to Stay 2) ∷ instr.Mpy (through Stay) ∷ instr.Pac ∷ instr.Sbrk 3 ∷ instr.Add 0 (through Down) ∷ instr.Sacl 0 (through Stay) ∷ []
sum_code = refl

-- x[0] = s
assigned : run_code filter (operation (row.Lalk 0) x ∷ point ∷ lac (operand.Scalar 0) ∷ sacl star ∷ []) ≡
    instr.Lrlk 1 0x321 ∷ instr.Lrlk 2 0x332 ∷ instr.Mar (record { change = Stay; next = Some 2 }) ∷ instr.Lac 0 (through_to Stay 1) ∷ instr.Sacl 0 (through Stay) ∷ []
assigned = refl

-- two registers, a step of 2, and a frame on two pages
abbrev wide : Places
wide = record {
  scalars = on 2 0x37e ∷ on 2 0x37f ∷ on 2 0x380 ∷ on 3 0x381 ∷ on 3 0x382 ∷ [];
  statics = 0x310 ∷ [];
  locals = 0x383 ∷ [];
  parameters = [] ∷ (0x385 ∷ []) ∷ [];
  step = 2;
}

abbrev a : AccOperand
a = operand.Scalar 0

abbrev b : AccOperand
b = operand.Scalar 1

abbrev c : AccOperand
c = operand.Scalar 2

abbrev d : AccOperand
d = operand.Scalar 3

abbrev e : AccOperand
e = operand.Scalar 4

-- a; c by the step, back to a by it, and b
stepped : run_code wide (lac a ∷ sacl c ∷ lac a ∷ sacl b ∷ []) ≡
    instr.Lark 0 2 ∷ instr.Lrlk 2 0x37e ∷ instr.Mar (record { change = Stay; next = Some 2 }) ∷ instr.Lac 0 (through UpIndex) ∷ instr.Sacl 0 (through DownIndex)
    ∷ instr.Lac 0 (through Up) ∷ instr.Sacl 0 (through Stay) ∷ []
stepped = refl

-- at a step of 1 AR0 isn't loaded
unstepped : run_code (record wide { step = 1 }) (lac a ∷ sacl c ∷ []) ≡
    instr.Lrlk 2 0x37e ∷ instr.Mar (record { change = Stay; next = Some 2 }) ∷ instr.Lac 0 (through Stay) ∷ instr.Adrk 2 ∷ instr.Sacl 0 (through Stay) ∷ []
unstepped = refl

-- one register after the other, each where it stands
by_turns : run_code wide (lac a ∷ sacl d ∷ lac b ∷ sacl e ∷ []) ≡
    instr.Lrlk 2 0x37e ∷ instr.Mar (record { change = Stay; next = Some 2 }) ∷ instr.Lac 0 (through_to Up 3) ∷ instr.Lrlk 3 0x381 ∷ instr.Sacl 0 (through_to Up 2)
    ∷ instr.Lac 0 (through_to Stay 3) ∷ instr.Sacl 0 (through Stay) ∷ []
by_turns = refl

-- a static object, a local one on the next page, an argument there, and a scratch word
paged : run_code wide (lac (operand.Direct (Static 0)) ∷ sacl (operand.Direct (Local 0)) ∷ sacl (operand.Param 1 0) ∷ sacl s0 ∷ operation (row.Out 3) s0 ∷ []) ≡
    instr.Ldpk 6 ∷ instr.Lac 0 (word.Direct 16) ∷ instr.Ldpk 7 ∷ instr.Sacl 0 (word.Direct 3) ∷ instr.Sacl 0 (word.Direct 5) ∷ instr.Ldpk 6 ∷ instr.Sacl 0 (word.Direct 0)
    ∷ instr.Out 3 (word.Direct 0) ∷ []
paged = refl

-- a pointer in a scalar is loaded at once where the accumulator is loaded next, and not where it is used
pointed : run_code filter (lac p ∷ point ∷ operation row.Ssxm operand.Nothing ∷ lac star ∷ []) ≡
    instr.Lrlk 2 0x336 ∷ instr.Mar (record { change = Stay; next = Some 2 }) ∷ instr.Lar 1 (through_to Stay 1) ∷ instr.Ssxm ∷ instr.Lac 0 (through Stay) ∷ []
pointed = refl

used : run_code filter (lac star ∷ point ∷ []) ≡
    instr.Mar (record { change = Stay; next = Some 1 }) ∷ instr.Lac 0 (through Stay) ∷ instr.Ldpk 6 ∷ instr.Sacl 0 (word.Direct 15) ∷ instr.Lar 1 (word.Direct 15) ∷ []
used = refl
