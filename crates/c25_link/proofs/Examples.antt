-- Pieces whose images were worked out by hand from the instruction table of docs/MACHINE.md: which place of a mark or of a name counts.
use Rattle.std.proofs.Common.{◌≡◌, ℕ, List, [], ◌∷◌, true, false, None, refl}
use Rattle.std.specs.Prelude.{codes}
use Rattle.c25_isa.specs.declared.operand.Change.TheVariants.{Stay}
use Rattle.c25_isa.specs.declared.operand.Indirect.{Indirect}
use Rattle.c25_isa.specs.declared.instruction.JumpOp.TheVariants.{B}
use Rattle.c25_isa.specs.declared.instruction.Instr.TheVariants.{Idle, Lalk, Ret}
use Rattle.c25_isa.specs.declared.piece.PieceItem.{PieceItem}
use Rattle.c25_isa.specs.declared.piece.PieceItem.TheVariants.{Do, Mark, Jump, CallTo}
use Rattle.c25_isa.specs.Pieces.{Piece, range_of}
use Rattle.c25_link.specs.Linking.{pieces_words, linked_image}

abbrev star : Indirect
star = record { change = Stay; next = None }

abbrev listed : List ℕ → List PieceItem → Piece
listed name items = record { name = name; listed = true; items = items }

abbrev helper : List ℕ → List PieceItem → Piece
helper name items = record { name = name; listed = false; items = items }

-- a startup of CALL fe80 and IDLE ce1f has three words; RET ce26 is word 3
a_call : linked_image (helper (codes ".start") (CallTo (codes "f") star ∷ Do Idle ∷ []) ∷ listed (codes "f") (Do Ret ∷ []) ∷ []) ≡ record {
  words = 0xfe80 ∷ 0x0003 ∷ 0xce1f ∷ 0xce26 ∷ [];
  functions = range_of (codes "f") 3 1 ∷ [];
}
a_call = refl

-- of two pieces of a name the first one is called, and both are listed
first_name : linked_image (listed (codes "f") (Do Ret ∷ []) ∷ listed (codes "f") (CallTo (codes "f") star ∷ []) ∷ []) ≡ record {
  words = 0xce26 ∷ 0xfe80 ∷ 0x0000 ∷ [];
  functions = range_of (codes "f") 0 1 ∷ range_of (codes "f") 1 2 ∷ [];
}
first_name = refl

-- of two places of a mark the first one counts: B is ff80
first_mark : linked_image (helper [] (Do Ret ∷ Mark 4000000000 ∷ Do Ret ∷ Mark 4000000000 ∷ Jump B 4000000000 star ∷ []) ∷ []) ≡ record { words = 0xce26 ∷ 0xce26 ∷ 0xff80 ∷ 0x0001 ∷ []; functions = [] }
first_mark = refl

-- a mark that isn't there is behind its piece, which may be another piece's word, and a name that isn't there behind all
absent : linked_image (helper [] (Jump B 1 star ∷ []) ∷ helper [] (Mark 1 ∷ CallTo (codes "g") star ∷ Do Ret ∷ []) ∷ []) ≡ record { words = 0xff80 ∷ 0x0002 ∷ 0xfe80 ∷ 0x0005 ∷ 0xce26 ∷ []; functions = [] }
absent = refl

-- LALK takes two words, a mark none
six_words : pieces_words (helper [] (Do (Lalk 0 1) ∷ Mark 1 ∷ []) ∷ helper [] [] ∷ listed (codes "f") (Jump B 1 star ∷ CallTo (codes "f") star ∷ []) ∷ []) ≡ 6
six_words = refl
