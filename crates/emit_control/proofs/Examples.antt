-- Pieces by hand: the filter's function, and small bodies with each form.
use Rattle.std.proofs.Common.{◌≡◌, ℕ, zero, suc, Bool, true, false, [], ◌∷◌, ◌++◌, List, Option, Some, None, refl, codes}
use Rattle.c_tree.specs.declared.program.VarRef.{VarRef}
use Rattle.c_tree.specs.declared.program.VarRef.TheVariants.{Local, Static}
use Rattle.c25_isa.specs.declared.operand.Change.{Change}
use Rattle.c25_isa.specs.declared.operand.Change.TheVariants.{Stay, Down, Up}
use Rattle.c25_isa.specs.declared.operand.Operand.{Operand}
use Rattle.c25_isa.specs.declared.operand.Operand.TheVariants as word
use Rattle.c25_isa.specs.declared.instruction.Instr.{Instr}
use Rattle.c25_isa.specs.declared.instruction.Instr.TheVariants as instr
use Rattle.c25_isa.specs.declared.instruction.JumpOp.TheVariants as jump
use Rattle.c25_isa.specs.declared.piece.PieceItem.{PieceItem}
use Rattle.c25_isa.specs.declared.piece.PieceItem.TheVariants.{Do, Mark, CallTo}
use Rattle.c25_code.specs.Items.{no_change, plain_items}
use Rattle.acc_code.specs.declared.item.CaseLabel.TheVariants.{Value, Default}
use Rattle.acc_code.specs.declared.operand.AccOperand.{AccOperand}
use Rattle.acc_code.specs.declared.operand.AccOperand.TheVariants as operand
use Rattle.acc_code.specs.declared.operand.HelperName.{HelperName}
use Rattle.acc_code.specs.declared.operand.HelperName.TheVariants.{DivInt}
use Rattle.acc_code.specs.declared.operation.AccOp.{AccOp}
use Rattle.acc_code.specs.declared.operation.AccOp.TheVariants as row
use Rattle.acc_code.specs.declared.operation.Test.TheVariants.{Gz, Lz, Nz, Z}
use Rattle.acc_code.specs.AccTree.{Item, Op, If, Loop, Switch, Case, Clear, Call, Helper, Break, Continue, Return, ItemList, end, ◌▸◌}
use Rattle.emit_blocks.specs.declared.site.ScalarPlace.{ScalarPlace}
use Rattle.emit_blocks.specs.Places.{Places}
use Rattle.emit_blocks.specs.Steps.{Operation, run_at}
use Rattle.emit_blocks.specs.Runs.{run_code}
use Rattle.emit_control.specs.Cuts.{jump_item, call_item, function_items}
use Rattle.emit_control.specs.Settings.{Setting}

abbrev on : ℕ → ℕ → ScalarPlace
on r a = record { register = r; address = a }

abbrev filter : Places
filter = record {
  scalars = on 2 0x332 ∷ on 2 0x333 ∷ on 2 0x335 ∷ on 2 0x336 ∷ on 2 0x334 ∷ on 2 0x337 ∷ [];
  statics = 0x310 ∷ 0x321 ∷ [];
  locals = 0x340 ∷ [];
  parameters = (0x332 ∷ []) ∷ [] ∷ [];
  step = 1;
}

abbrev setting : Option ℕ → Setting
setting back = record { places = filter; lengths = 3 ∷ []; back = back; names = codes "f" ∷ [] }

abbrev made : ItemList → List PieceItem
made body = function_items (setting None) body

abbrev through : Change → Operand
through c = word.Indirect (record { change = c; next = None })

abbrev through_to : Change → ℕ → Operand
through_to c r = word.Indirect (record { change = c; next = Some r })

abbrev current : ℕ → PieceItem
current r = Do (instr.Mar (record { change = Stay; next = Some r }))

abbrev s : AccOperand
s = operand.Scalar 0

abbrev acc : AccOperand
acc = operand.Scalar 1

abbrev i : AccOperand
i = operand.Scalar 2

abbrev p : AccOperand
p = operand.Scalar 3

abbrev t0 : AccOperand
t0 = operand.Scalar 4

abbrev t1 : AccOperand
t1 = operand.Scalar 5

abbrev star : AccOperand
star = operand.Pointed

abbrev lac : AccOperand → Item
lac m = Op (row.Lac 0) m

abbrev sacl : AccOperand → Item
sacl m = Op (row.Sacl 0) m

abbrev const : AccOp → ℕ → Item
const o n = Op o (operand.Number n)

abbrev h : Item
h = Op (row.Lalk 0) (operand.Address (Static 0) 0)

abbrev x : Item
x = Op (row.Lalk 0) (operand.Address (Static 1) 0)

abbrev plus : AccOperand → Item
plus m = Op (row.Add 0) m

abbrev point : Item
point = Op row.Point operand.Nothing

abbrev bare : AccOp → Item
bare o = Op o operand.Nothing

-- x[i] = x[i - 1]
abbrev shifted : ItemList
shifted =
    x ▸ plus i ▸ sacl t0 ▸ lac i ▸ const row.Subk 1 ▸ Op (row.Adlk 0) (operand.Address (Static 1) 0) ▸ point ▸ lac star ▸ sacl (operand.Scratch 0) ▸ lac t0 ▸ point
    ▸ lac (operand.Scratch 0) ▸ sacl star ▸ end

-- acc += x[i] * *p++
abbrev summed : ItemList
summed =
    lac acc ▸ sacl t0 ▸ x ▸ plus i ▸ point ▸ lac star ▸ sacl t1 ▸ lac p ▸ point ▸ const row.Addk 1 ▸ sacl p ▸ Op row.Lt star ▸ Op row.Mpy t1 ▸ bare row.Pac ▸ plus t0 ▸ sacl acc ▸ end

-- for (i = 15; i > 0; i--) x[i] = x[i - 1]; x[0] = s; acc = 0; p = h; for (i = 0; i < 16; i++) acc += x[i] * *p++; return acc >> 2;
abbrev fir : ItemList
fir =
    const row.Lack 15 ▸ sacl i ▸ Loop (lac i ▸ If Gz end (Break ▸ end) ▸ end) shifted (lac i ▸ const row.Subk 1 ▸ sacl i ▸ end) false
    ▸ x ▸ point ▸ lac s ▸ sacl star ▸ const row.Lack 0 ▸ sacl acc ▸ h ▸ sacl p ▸ const row.Lack 0 ▸ sacl i
    ▸ Loop (lac i ▸ const row.Subk 16 ▸ If Lz end (Break ▸ end) ▸ end) summed (lac i ▸ const row.Addk 1 ▸ sacl i ▸ end) false
    ▸ lac acc ▸ bare row.Sfr ▸ bare row.Sfr ▸ Return ▸ end

abbrev code : ItemList → List PieceItem
code xs = plain_items (run_code filter (run_at xs))

fir_piece : made fir ≡
    Do (instr.Lack 15) ∷ Do (instr.Lrlk 2 0x335) ∷ current 2 ∷ Do (instr.Sacl 0 (through Stay))
    ∷ Mark 2 ∷ Do (instr.Lrlk 2 0x335) ∷ current 2 ∷ Do (instr.Lac 0 (through Stay)) ∷ jump_item jump.Blez 1
    ∷ (code shifted ++ jump_item jump.B 4
    ∷ Mark 4 ∷ Do (instr.Lrlk 2 0x335) ∷ current 2 ∷ Do (instr.Lac 0 (through Stay)) ∷ Do (instr.Subk 1) ∷ Do (instr.Sacl 0 (through Stay)) ∷ jump_item jump.B 2
    ∷ Mark 1 ∷ Do (instr.Lrlk 1 0x321) ∷ Do (instr.Lrlk 2 0x332) ∷ current 2 ∷ Do (instr.Lac 0 (through_to Up 1)) ∷ Do (instr.Sacl 0 (through_to Stay 2))
    ∷ Do (instr.Lack 0) ∷ Do (instr.Sacl 0 (through Stay)) ∷ Do (instr.Lalk 0 0x310) ∷ Do (instr.Adrk 3) ∷ Do (instr.Sacl 0 (through Down)) ∷ Do (instr.Lack 0)
    ∷ Do (instr.Sacl 0 (through Stay))
    ∷ Mark 8 ∷ Do (instr.Lrlk 2 0x335) ∷ current 2 ∷ Do (instr.Lac 0 (through Stay)) ∷ Do (instr.Subk 16) ∷ jump_item jump.Bgez 7
    ∷ (code summed ++ jump_item jump.B 10
    ∷ Mark 10 ∷ Do (instr.Lrlk 2 0x335) ∷ current 2 ∷ Do (instr.Lac 0 (through Stay)) ∷ Do (instr.Addk 1) ∷ Do (instr.Sacl 0 (through Stay)) ∷ jump_item jump.B 8
    ∷ Mark 7 ∷ Do (instr.Lrlk 2 0x333) ∷ current 2 ∷ Do (instr.Lac 0 (through Stay)) ∷ Do instr.Sfr ∷ Do instr.Sfr ∷ Do instr.Ret ∷ []))
fir_piece = refl

-- for (;;) __out(1, f(__in(0))); return 0; the return address lies at 033ah
forever : function_items (setting (Some 0x33a)) (Loop end (Op (row.In 0) (operand.Param 0 0) ▸ Call 0 ▸ sacl (operand.Scratch 0) ▸ Op (row.Out 1) (operand.Scratch 0) ▸ end) end false ▸ const row.Lack 0 ▸ Return ▸ end) ≡
    Do (instr.Ldpk 6) ∷ Do (instr.Popd (word.Direct 0x3a)) ∷ Mark 2 ∷ Do (instr.Ldpk 6) ∷ Do (instr.In 0 (word.Direct 0x32)) ∷ CallTo (codes "f") no_change
    ∷ Do (instr.Ldpk 6) ∷ Do (instr.Sacl 0 (word.Direct 0)) ∷ Do (instr.Out 1 (word.Direct 0)) ∷ jump_item jump.B 2
    ∷ Do (instr.Lack 0) ∷ Do (instr.Ldpk 6) ∷ Do (instr.Pshd (word.Direct 0x3a)) ∷ Do instr.Ret ∷ []
forever = refl

-- if (s) return 1; else return 2; and nothing behind it
both_return : made (lac s ▸ If Nz (const row.Lack 1 ▸ Return ▸ end) (const row.Lack 2 ▸ Return ▸ end) ▸ end) ≡
    Do (instr.Lrlk 2 0x332) ∷ current 2 ∷ Do (instr.Lac 0 (through Stay)) ∷ jump_item jump.Bz 2 ∷ Do (instr.Lack 1) ∷ Do instr.Ret ∷ Mark 2 ∷ Do (instr.Lack 2) ∷ Do instr.Ret ∷ []
both_return = refl

-- if (s) acc = 1; at the end of a body
one_part : made (lac s ▸ If Nz (const row.Lack 1 ▸ sacl acc ▸ end) end ▸ end) ≡
    Do (instr.Lrlk 2 0x332) ∷ current 2 ∷ Do (instr.Lac 0 (through Stay)) ∷ jump_item jump.Bz 0 ∷ Do (instr.Lack 1) ∷ Do (instr.Lrlk 2 0x333) ∷ current 2 ∷ Do (instr.Sacl 0 (through Stay))
    ∷ Mark 0 ∷ Do instr.Ret ∷ []
one_part = refl

-- if (s) x; else x; where one access follows the other: each part is a block of its own
two_parts : made (lac s ▸ If Z (lac acc ▸ end) (lac p ▸ end) ▸ lac s ▸ end) ≡
    Do (instr.Lrlk 2 0x332) ∷ current 2 ∷ Do (instr.Lac 0 (through Stay)) ∷ jump_item jump.Bnz 2 ∷ Do (instr.Lrlk 2 0x333) ∷ current 2 ∷ Do (instr.Lac 0 (through Stay)) ∷ jump_item jump.B 1
    ∷ Mark 2 ∷ Do (instr.Lrlk 2 0x336) ∷ current 2 ∷ Do (instr.Lac 0 (through Stay)) ∷ Mark 1 ∷ Do (instr.Lrlk 2 0x332) ∷ current 2 ∷ Do (instr.Lac 0 (through Stay)) ∷ Do instr.Ret ∷ []
two_parts = refl

-- do acc; while (0); with an access behind it: no jump names the head, so jumps to both are written
once : made (Loop end (lac acc ▸ end) (Break ▸ end) true ▸ lac s ▸ end) ≡
    Mark 2 ∷ Do (instr.Lrlk 2 0x333) ∷ current 2 ∷ Do (instr.Lac 0 (through Stay)) ∷ jump_item jump.B 4 ∷ Mark 4 ∷ jump_item jump.B 1 ∷ jump_item jump.B 2
    ∷ Mark 1 ∷ Do (instr.Lrlk 2 0x332) ∷ current 2 ∷ Do (instr.Lac 0 (through Stay)) ∷ Do instr.Ret ∷ []
once = refl

-- while (s) { if (acc) continue; break; }
continues : made (Loop (lac s ▸ If Nz end (Break ▸ end) ▸ end) (lac acc ▸ If Nz (Continue ▸ end) end ▸ Break ▸ end) end false ▸ end) ≡
    Mark 2 ∷ Do (instr.Lrlk 2 0x332) ∷ current 2 ∷ Do (instr.Lac 0 (through Stay)) ∷ jump_item jump.Bz 0
    ∷ Do (instr.Lrlk 2 0x333) ∷ current 2 ∷ Do (instr.Lac 0 (through Stay)) ∷ jump_item jump.Bnz 2 ∷ jump_item jump.B 0 ∷ Mark 0 ∷ Do instr.Ret ∷ []
continues = refl

-- switch (s) { case 5: acc; break; default: p; case 300: return; case 2: }, with the word in the accumulator
chooses : made (Switch (Value 5 ∷ Default ∷ Value 300 ∷ Value 2 ∷ []) (Case 0 ▸ lac acc ▸ Break ▸ Case 1 ▸ lac p ▸ Case 2 ▸ Return ▸ Case 3 ▸ end) ▸ end) ≡
    Do (instr.Subk 5) ∷ jump_item jump.Bz 2 ∷ Do (instr.Sblk 0 295) ∷ jump_item jump.Bz 4 ∷ Do (instr.Adlk 0 298) ∷ jump_item jump.Bz 5 ∷ jump_item jump.B 3
    ∷ Mark 2 ∷ Do (instr.Lrlk 2 0x333) ∷ current 2 ∷ Do (instr.Lac 0 (through Stay)) ∷ jump_item jump.B 0
    ∷ Mark 3 ∷ Do (instr.Lrlk 2 0x336) ∷ current 2 ∷ Do (instr.Lac 0 (through Stay)) ∷ Mark 4 ∷ Do instr.Ret ∷ Mark 5 ∷ Mark 0 ∷ Do instr.Ret ∷ []
chooses = refl

-- values more than 32,767 apart, and no label at all
far : made (Switch (Value 0 ∷ Value 0xffff ∷ []) (Case 0 ▸ Case 1 ▸ end) ▸ Switch [] end ▸ end) ≡
    jump_item jump.Bz 2 ∷ Do (instr.Sblk 1 32767) ∷ Do (instr.Subk 1) ∷ jump_item jump.Bz 3 ∷ jump_item jump.B 1 ∷ Mark 2 ∷ Mark 3
    ∷ Mark 1 ∷ jump_item jump.B 0 ∷ Mark 0 ∷ Do instr.Ret ∷ []
far = refl

-- three words of a local object are cleared, and none, which ends a block all the same
clears : made (Clear (Local 0) 0 ▸ lac s ▸ Clear (Local 0) 3 ▸ lac acc ▸ end) ≡
    Do (instr.Lrlk 1 0x340) ∷ Do (instr.Lack 3) ∷ Mark 1 ∷ current 1 ∷ Do (instr.Sach 0 (through Up)) ∷ Do (instr.Subk 1) ∷ jump_item jump.Bgz 1
    ∷ Do (instr.Lrlk 2 0x332) ∷ current 2 ∷ Do (instr.Lac 0 (through Stay)) ∷ jump_item jump.B 2 ∷ Mark 2 ∷ Do (instr.Lrlk 2 0x333) ∷ current 2 ∷ Do (instr.Lac 0 (through Stay)) ∷ Do instr.Ret ∷ []
clears = refl

-- s / acc
divides : made (lac s ▸ sacl (operand.Scratch 0) ▸ lac acc ▸ sacl (operand.Scratch 1) ▸ Helper DivInt ▸ bare row.Ssxm ▸ Return ▸ end) ≡
    Do (instr.Lrlk 2 0x332) ∷ current 2 ∷ Do (instr.Lac 0 (through Up)) ∷ Do (instr.Ldpk 6) ∷ Do (instr.Sacl 0 (word.Direct 0)) ∷ Do (instr.Lac 0 (through Stay)) ∷ Do (instr.Sacl 0 (word.Direct 1))
    ∷ CallTo (codes ".divint") no_change ∷ Do instr.Ssxm ∷ Do instr.Ret ∷ []
divides = refl
