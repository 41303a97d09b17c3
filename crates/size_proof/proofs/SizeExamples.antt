-- Words and weights by hand: of a loop with three parts, of an If before other items, of a switch, of what static objects begin with, and of the
-- routines.
use Rattle.std.proofs.Common.{◌≡◌, ℕ, ◌+◌, false, [], ◌∷◌, Some, refl}
use Rattle.c_tree.specs.declared.program.Base.TheVariants.{Int}
use Rattle.c_tree.specs.declared.program.Initial.TheVariants.{Word}
use Rattle.c_tree.specs.TypedTree.{ObjectTree}
use Rattle.c25_isa.specs.Pieces.{items_size}
use Rattle.c25_helper.specs.Routines.{helper_pieces}
use Rattle.c25_link.specs.Linking.{pieces_words}
use Rattle.acc_code.specs.declared.item.CaseLabel.TheVariants.{Value, Default}
use Rattle.acc_code.specs.declared.operand.AccOperand.TheVariants as operand
use Rattle.acc_code.specs.declared.operation.AccOp.TheVariants as row
use Rattle.acc_code.specs.declared.operation.Test.TheVariants.{Nz}
use Rattle.acc_code.specs.AccTree.{Item, Op, If, Loop, Switch, Case, Clear, Break, ItemList, end, ◌▸◌}
use Rattle.c_tree.specs.declared.program.VarRef.TheVariants.{Local}
use Rattle.ir_semantics.specs.Weights.{items_weight, statics_weight}
use Rattle.emit_blocks.specs.declared.site.ScalarPlace.{ScalarPlace}
use Rattle.frame_emit.specs.emit_control.Cuts.{function_items}
use Rattle.frame_emit.specs.emit_control.Settings.{Setting}
use Rattle.frame_emit.specs.Startup.{startup_piece}
use Rattle.size_proof.specs.Sizes.{STARTUP_WORDS, ROUTINE_WORDS}

-- two scalars four words apart, which is the step, and a function with a return word and an object of three words
abbrev on : ℕ → ScalarPlace
on a = record { register = 2; address = a }

abbrev setting : Setting
setting = record {
  places = record { scalars = on 0x332 ∷ on 0x336 ∷ []; statics = []; locals = 0x340 ∷ []; parameters = []; step = 4 };
  lengths = 3 ∷ [];
  back = Some 0x343;
  names = [];
}

abbrev words : ItemList → ℕ
words body = items_size (function_items setting body)

abbrev x : Item
x = Op (row.Lac 0) (operand.Scalar 0)

abbrev y : Item
y = Op (row.Add 0) (operand.Scalar 1)

-- LDPK, POPD, LDPK, PSHD, RET
nothing : words end ≡ 5
nothing = refl

-- LARK, LRLK 2, MAR, LAC *0+, ADD *
sum : (words (x ▸ y ▸ end) ≡ 5 + 6) × (items_weight (x ▸ y ▸ end) ≡ 10)
sum = (refl, refl)

-- three runs of 4, and B before the second, before the third, and to the head: control never comes behind it
loop : (words (Loop (x ▸ end) (x ▸ end) (x ▸ end) false ▸ end) ≡ 2 + 18) × (items_weight (Loop (x ▸ end) (x ▸ end) (x ▸ end) false ▸ end) ≡ 21)
loop = (refl, refl)

-- a branch and a B 4, and two runs of 4 before a third one
either : (words (If Nz (x ▸ end) (x ▸ end) ▸ x ▸ end) ≡ 5 + 16) × (items_weight (If Nz (x ▸ end) (x ▸ end) ▸ x ▸ end) ≡ 19)
either = (refl, refl)

-- SBLK 2, SUBK and BZ 2 for a value, B 2 for the default; a run of 4, B 2 to the mark of Default
switch : (words (Switch (Value 40001 ∷ Default ∷ []) (Case 0 ▸ x ▸ Break ▸ Case 1 ▸ end) ▸ end) ≡ 5 + 13) × (items_weight (Switch (Value 40001 ∷ Default ∷ []) (Case 0 ▸ x ▸ Break ▸ Case 1 ▸ end) ▸ end) ≡ 20)
switch = (refl, refl)

-- LRLK 2, LACK, MAR, SACH, SUBK, BGZ 2
clear : (words (Clear (Local 0) 0 ▸ end) ≡ 5 + 8) × (items_weight (Clear (Local 0) 0 ▸ end) ≡ 9)
clear = (refl, refl)

-- int a[1] = {300}, beside all that the startup writes: LRLK 2, LALK 2, SACL
abbrev filled : ObjectTree
filled = record { name = []; length = 1; kind = record { base = Int; stars = 0 }; initial = Word 300 ∷ [] }

startup : (items_size (startup_piece (784 ∷ []) (filled ∷ [])).items ≡ STARTUP_WORDS + 5) × (statics_weight (filled ∷ []) ≡ 5)
startup = (refl, refl)

routines : pieces_words helper_pieces ≡ ROUTINE_WORDS
routines = refl
