-- The startup: it makes the modes those of the compiler, clears the static objects and gives them their first values, calls `main` and ends
-- (docs/TRANSLATION.md, "Pieces").
use Rattle.std.specs.Prelude.{ℕ, ◌+◌, nat_lt, ◌==◌, Bool, false, if◌then◌else◌, List, [], ◌∷◌, ◌++◌, map, codes, Option, Some, None}
use Rattle.c_tree.specs.declared.program.Initial.{Initial}
use Rattle.c_tree.specs.declared.program.Initial.TheVariants.{Word, Address, Null}
use Rattle.c_tree.specs.SourceRun.{main_name}
use Rattle.c_tree.specs.TypedTree.{ObjectTree}
use Rattle.c25_isa.specs.declared.operand.Change.TheVariants.{Stay, Up}
use Rattle.c25_isa.specs.declared.operand.Operand.TheVariants.{Indirect as Through}
use Rattle.c25_isa.specs.declared.instruction.Instr.{Instr}
use Rattle.c25_isa.specs.declared.instruction.Instr.TheVariants.{Mar, Lrlk, Lack, Lalk, Sacl, Rsxm, Ssxm}
use Rattle.c25_isa.specs.declared.piece.PieceItem.{PieceItem}
use Rattle.c25_isa.specs.declared.piece.PieceItem.TheVariants.{Do}
use Rattle.c25_isa.specs.Pieces.{Piece}
use Rattle.c25_isa.specs.Step.{wrap16}
use Rattle.c25_code.specs.Items.{plain_items}
use Rattle.c25_code.specs.ClearingLoops.{clears_at_one}
use Rattle.c25_code.specs.Startups.{startup_items}
use Rattle.emit_blocks.specs.Places.{address_in}
pub use Rattle.frame_emit.specs.StaticWords.{static_words}

-- no function of a program has this name
abbrev pub startup_name : List ℕ
startup_name = codes ".start"

-- the first word behind the scratch words
abbrev pub STATICS_START : ℕ
STATICS_START = 784

-- all of them become 0. Their number may have bit 15 set, so it is loaded without its sign
abbrev pub clearing_head : ℕ → List PieceItem
clearing_head count = Do (Mar (record { change = Stay; next = Some 1 })) ∷ Do (Lrlk 1 STATICS_START) ∷ Do Rsxm ∷ Do (Lalk 0 count) ∷ []

abbrev pub clearing_items : ℕ → List PieceItem
clearing_items count = clearing_head count ++ clears_at_one 0

-- the word that a cell starts with
abbrev pub initial_word : List ℕ → Initial → ℕ
initial_word statics (Word w) = w
initial_word statics (Address o n) = wrap16 (address_in statics o + n)
initial_word statics Null = 0

-- up to the last word that isn't 0
abbrev pub before_zeros : ℕ → List ℕ → List ℕ
before_zeros w [] = if w == 0 then [] else w ∷ []
before_zeros w (v ∷ vs) = w ∷ v ∷ vs

abbrev pub up_to_last : List ℕ → List ℕ
up_to_last [] = []
up_to_last (w ∷ ws) = before_zeros w (up_to_last ws)

-- whether the accumulator holds a word, by the one that is known to be there
abbrev pub is_held : Option ℕ → ℕ → Bool
is_held None w = false
is_held (Some v) w = v == w

abbrev pub load_of : ℕ → Instr
load_of w = if nat_lt w 256 then Lack w else Lalk 0 w

-- a word is loaded, unless it is in the accumulator already
abbrev pub word_load : Option ℕ → ℕ → List Instr
word_load held w = if is_held held w then [] else load_of w ∷ []

abbrev pub store_up : Instr
store_up = Sacl 0 (Through (record { change = Up; next = None }))

abbrev pub words_code : Option ℕ → List ℕ → List Instr
words_code held [] = []
words_code held (w ∷ ws) = word_load held w ++ store_up ∷ words_code (Some w) ws

-- the words of an object from an address on
abbrev pub filling_code : ℕ → List ℕ → List Instr
filling_code a [] = []
filling_code a (w ∷ ws) = Lrlk 1 a ∷ words_code None (w ∷ ws)

-- those of the objects, each at its address
abbrev pub fillings_code : List ℕ → List ℕ → List ObjectTree → List Instr
fillings_code statics addresses [] = []
fillings_code statics [] (o ∷ os) = []
fillings_code statics (a ∷ addresses) (o ∷ os) = filling_code a (up_to_last (map (initial_word statics) o.initial)) ++ fillings_code statics addresses os

abbrev pub statics_items : List ℕ → List ObjectTree → List PieceItem
statics_items statics [] = []
statics_items statics (o ∷ os) = clearing_items (static_words (o ∷ os)) ++ plain_items (fillings_code statics statics (o ∷ os))

abbrev pub startup_piece : List ℕ → List ObjectTree → Piece
startup_piece statics os = record {
  name = startup_name;
  listed = false;
  items = startup_items (statics_items statics os ++ Do Ssxm ∷ []) main_name;
}
