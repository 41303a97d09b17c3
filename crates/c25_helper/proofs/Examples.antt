-- Runs of the routines on the machine, computed; what they return was worked out by the rules of C. A startup puts two words to 0300h and 0301h,
-- calls a routine and returns its word.
use Rattle.std.proofs.Common.{◌≡◌, ℕ, Bool, true, false, List, [], ◌∷◌, refl}
use Rattle.std.specs.Prelude.{codes, slice_index, sum_by}
use Rattle.word_base.specs.declared.outcome.Ending.TheVariants.{Returned}
use Rattle.c25_isa.specs.declared.operand.Operand.TheVariants.{Direct}
use Rattle.c25_isa.specs.declared.instruction.Instr.TheVariants.{Rovm, Spm, Ldpk, Lalk, Sacl, Idle, Ret}
use Rattle.c25_isa.specs.declared.piece.PieceItem.TheVariants.{Do, CallTo}
use Rattle.c25_isa.specs.Pieces.{Piece, items_size, piece_address, pieces_code}
use Rattle.c25_isa.specs.Step.{wrap16}
use Rattle.c25_isa.specs.State.{Start}
use Rattle.c25_isa.specs.Table.{code_words}
use Rattle.c25_isa.specs.MachineRun.{Reached, Ended, machine_run}
use Rattle.c25_helper.specs.declared.routine.Routine.{Routine}
use Rattle.c25_helper.specs.declared.routine.Routine.TheVariants.{DivInt, DivUnsigned, RemInt, RemUnsigned, ShrInt, ShrUnsigned}
use Rattle.c25_helper.specs.Routines.{no_change, routine_name, routine_piece, helper_pieces}
use Rattle.c25_helper.specs.Calls.{called_helper_pieces}

-- a board that holds anything but zero, with these words from program word 0 on
abbrev board : Bool → List ℕ → Start
board extends program = record {
  acc = 4294967295;
  t = 17;
  p = 18;
  ar = λ n. 19;
  arp = 7;
  dp = 511;
  sxm = extends;
  ovm = true;
  pm = 3;
  program = λ a. slice_index program a;
  ram = λ a. 0xffff;
}

abbrev calling : Routine → ℕ → ℕ → Piece
calling r left right = record {
  name = codes ".start";
  listed = false;
  items =
      Do Rovm
      ∷ Do Spm
      ∷ Do (Ldpk 6)
      ∷ Do (Lalk 0 left)
      ∷ Do (Sacl 0 (Direct 0))
      ∷ Do (Lalk 0 right)
      ∷ Do (Sacl 0 (Direct 1))
      ∷ CallTo (routine_name r) no_change
      ∷ Do Idle
      ∷ [];
}

abbrev linked : List Piece → List ℕ
linked pieces = code_words (pieces_code (λ name. wrap16 (piece_address 0 pieces name)) 0 pieces)

abbrev run : Bool → Routine → ℕ → ℕ → Reached
run extends r left right = machine_run (board extends (linked (calling r left right ∷ routine_piece r ∷ []))) (λ port. []) 60

abbrev returned : ℕ → Reached
returned word = Ended [] (Returned word)

divides_int :
    (run false DivInt 7 2 ≡ returned 3)
    × (run true DivInt 0xfff9 2 ≡ returned 0xfffd)
    × (run false DivInt 7 0xfffe ≡ returned 0xfffd)
    × (run true DivInt 0xfff9 0xfffe ≡ returned 3)
    × (run false DivInt 0x8000 1 ≡ returned 0x8000)
    × (run true DivInt 0x8000 0x7fff ≡ returned 0xffff)
    × (run false DivInt 0x8000 0x8000 ≡ returned 1)
    × (run true DivInt 0x7fff 0x8000 ≡ returned 0)
    × (run false DivInt 0x7fff 0xffff ≡ returned 0x8001)
    × (run true DivInt 0 5 ≡ returned 0)
divides_int = (refl, refl, refl, refl, refl, refl, refl, refl, refl, refl)

remains_int :
    (run false RemInt 7 2 ≡ returned 1)
    × (run true RemInt 0xfff9 2 ≡ returned 0xffff)
    × (run false RemInt 7 0xfffe ≡ returned 1)
    × (run true RemInt 0xfff9 0xfffe ≡ returned 0xffff)
    × (run false RemInt 0x8000 1 ≡ returned 0)
    × (run true RemInt 0x8000 0x7fff ≡ returned 0xffff)
    × (run false RemInt 0x8000 0x8000 ≡ returned 0)
    × (run true RemInt 0x7fff 0x8000 ≡ returned 0x7fff)
    × (run false RemInt 0xfffb 0x8000 ≡ returned 0xfffb)
    × (run true RemInt 0x7fff 0xffff ≡ returned 0)
remains_int = (refl, refl, refl, refl, refl, refl, refl, refl, refl, refl)

divides_unsigned :
    (run false DivUnsigned 7 2 ≡ returned 3)
    × (run true DivUnsigned 0xffff 1 ≡ returned 0xffff)
    × (run false DivUnsigned 0xffff 0x7fff ≡ returned 2)
    × (run true DivUnsigned 0xffff 0x8000 ≡ returned 1)
    × (run false DivUnsigned 0x8000 0x8001 ≡ returned 0)
    × (run true DivUnsigned 0xfffe 0xffff ≡ returned 0)
    × (run false DivUnsigned 0 1 ≡ returned 0)
divides_unsigned = (refl, refl, refl, refl, refl, refl, refl)

remains_unsigned :
    (run false RemUnsigned 7 2 ≡ returned 1)
    × (run true RemUnsigned 0xffff 0x7fff ≡ returned 1)
    × (run false RemUnsigned 0xffff 0x8000 ≡ returned 0x7fff)
    × (run true RemUnsigned 0x8000 0x8001 ≡ returned 0x8000)
    × (run false RemUnsigned 0xfffe 0xffff ≡ returned 0xfffe)
    × (run true RemUnsigned 0xffff 0xffff ≡ returned 0)
    × (run false RemUnsigned 0x7ffe 0x7fff ≡ returned 0x7ffe)
remains_unsigned = (refl, refl, refl, refl, refl, refl, refl)

shifts_int :
    (run false ShrInt 0x8000 0xf ≡ returned 0xffff)
    × (run true ShrInt 0x8001 0 ≡ returned 0x8001)
    × (run false ShrInt 0x7fff 0xe ≡ returned 1)
    × (run true ShrInt 0xfff9 1 ≡ returned 0xfffc)
shifts_int = (refl, refl, refl, refl)

shifts_unsigned :
    (run false ShrUnsigned 0x8000 0xf ≡ returned 1)
    × (run true ShrUnsigned 0x8001 0 ≡ returned 0x8001)
    × (run false ShrUnsigned 0x7fff 0xe ≡ returned 1)
    × (run true ShrUnsigned 0xfff9 1 ≡ returned 0x7ffc)
shifts_unsigned = (refl, refl, refl, refl)

-- those that are called stand in their own order, each once
abbrev callers : List Piece
callers =
    record { name = codes "f"; listed = true; items = CallTo (codes ".shruns") no_change ∷ CallTo (codes "g") no_change ∷ CallTo (codes ".divuns") no_change ∷ Do Ret ∷ [] }
    ∷ record { name = codes "g"; listed = true; items = CallTo (codes ".shruns") no_change ∷ Do Ret ∷ [] }
    ∷ []

called : called_helper_pieces callers ≡ routine_piece DivUnsigned ∷ routine_piece ShrUnsigned ∷ []
called = refl

none_called : called_helper_pieces helper_pieces ≡ []
none_called = refl

words_together : sum_by (λ p. items_size p.items) helper_pieces ≡ 126
words_together = refl
