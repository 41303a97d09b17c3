-- Pieces by hand: what a walk finds in them, computed, and a piece of which the law speaks.
use Rattle.std.proofs.Common.{◌≡◌, ℕ, ◌-◌, true, false, [], ◌∷◌, List, Some, None, refl, codes, rules, arith}
use Rattle.c_tree.specs.declared.program.VarRef.TheVariants.{Local}
use Rattle.c25_isa.specs.Image.{Contents}
use Rattle.c25_isa.specs.Pieces.{Piece, items_size, pieces_code, piece_address, listed_ranges, Linked}
use Rattle.c25_isa.proofs.InOrder.{in_order_linked}
use Rattle.c25_isa.specs.Step.{wrap16}
use Rattle.c25_isa.specs.Table.{code_words}
use Rattle.c25_isa.specs.Walk.{Blocks, walk}
use Rattle.c25_isa.specs.AddressCount.{address_count}
use Rattle.acc_code.specs.declared.item.CaseLabel.TheVariants.{Value, Default}
use Rattle.acc_code.specs.declared.operand.AccOperand.TheVariants as operand
use Rattle.acc_code.specs.declared.operand.HelperName.TheVariants.{DivInt}
use Rattle.acc_code.specs.declared.operation.AccOp.TheVariants as row
use Rattle.acc_code.specs.declared.operation.Test.TheVariants.{Nz}
use Rattle.acc_code.specs.AccTree.{Item, Op, If, Loop, Switch, Case, Clear, Call, Helper, Break, ItemList, end, ◌▸◌}
use Rattle.acc_code.specs.AccSequence.{blocks_of}
use Rattle.image_proof.specs.emit_control.Cuts.{function_items}
use Rattle.image_proof.specs.emit_control.Settings.{Setting}
use Rattle.image_proof.specs.PieceWalks.{IsFunctionIn}

-- two scalars through AR2, one through AR3, and an object of three words
abbrev setting : Setting
setting = record {
  places = record {
    scalars = record { register = 2; address = 0x332 } ∷ record { register = 2; address = 0x333 } ∷ record { register = 3; address = 0x340 } ∷ [];
    statics = [];
    locals = 0x350 ∷ [];
    parameters = [];
    step = 1;
  };
  lengths = 3 ∷ [];
  back = Some 0x360;
  names = codes "f" ∷ [];
}

abbrev piece : ItemList → Piece
piece body = record { name = codes "f"; listed = true; items = function_items setting body }

abbrev linked : List Piece → Contents
linked pieces = record { words = code_words (pieces_code (λ name. wrap16 (piece_address 0 pieces name)) 0 pieces); functions = listed_ranges 0 pieces }

abbrev words_of : ItemList → List ℕ
words_of body = (linked (piece body ∷ [])).words

abbrev last_of : ItemList → ℕ
last_of body = items_size (function_items setting body) - 1

abbrev lac : ℕ → Item
lac n = Op (row.Lac 0) (operand.Scalar n)

-- a clearing loop between accesses, behind which a block is open
abbrev clears : ItemList
clears = lac 0 ▸ lac 1 ▸ Clear (Local 0) 0 ▸ lac 2 ▸ lac 0 ▸ end

clears_walk : walk (words_of clears) 0 (last_of clears) ≡ Blocks ((0x332 ∷ 0x333 ∷ []) ∷ (0x340 ∷ 0x332 ∷ []) ∷ [])
clears_walk = refl

clears_count : address_count (words_of clears) 0 (last_of clears) ≡ 3
clears_count = refl

-- a choice with a call and a routine, and values that want long constants
abbrev chooses : ItemList
chooses = lac 0 ▸ Switch (Value 5 ∷ Value 0x9001 ∷ Default ∷ []) (Case 0 ▸ lac 1 ▸ Call 0 ▸ lac 1 ▸ Break ▸ Case 1 ▸ lac 2 ▸ Case 2 ▸ lac 0 ▸ Helper DivInt ▸ end) ▸ lac 1 ▸ end

chooses_walk : walk (words_of chooses) 0 (last_of chooses)
    ≡ Blocks ((0x332 ∷ []) ∷ (0x333 ∷ []) ∷ (0x333 ∷ []) ∷ (0x340 ∷ []) ∷ (0x332 ∷ []) ∷ (0x333 ∷ []) ∷ [])
chooses_walk = refl

-- a loop whose head only its end names, in a loop, with an alternative that is a jump alone
abbrev turns : ItemList
turns = Loop (lac 0 ▸ If Nz end (Break ▸ end) ▸ end) (Loop end (lac 1 ▸ Break ▸ end) end true ▸ lac 2 ▸ end) (lac 0 ▸ lac 1 ▸ end) false ▸ end

turns_walk : walk (words_of turns) 0 (last_of turns) ≡ Blocks ((0x332 ∷ []) ∷ (0x333 ∷ []) ∷ (0x340 ∷ []) ∷ (0x332 ∷ 0x333 ∷ []) ∷ [])
turns_walk = refl

turns_blocks : blocks_of turns ≡ (0 ∷ []) ∷ (1 ∷ []) ∷ (2 ∷ []) ∷ (0 ∷ 1 ∷ []) ∷ []
turns_blocks = refl

-- one access, without a return word
abbrev short_setting : Setting
short_setting = record setting { back = None }

abbrev short_piece : Piece
short_piece = record { name = codes "f"; listed = true; items = function_items short_setting (lac 0 ▸ end) }

short_linked : Linked (short_piece ∷ []) (linked (short_piece ∷ []))
short_linked = in_order_linked (short_piece ∷ []) (linked (short_piece ∷ [])) refl refl (λ e. omega arith, tt)

short_is : IsFunctionIn (short_piece ∷ []) (linked (short_piece ∷ [])) short_linked (codes "f") short_piece short_setting (lac 0 ▸ end)
short_is = record {
  fit = (((omega arith, omega arith), (omega arith, ((omega arith, tt), (tt, tt)))), tt);
  first = refl;
  items = refl;
  placed = search rules;
  short = omega arith;
}
