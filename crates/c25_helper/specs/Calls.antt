-- Which routines pieces call (docs/MACHINE.md, "Pieces").
use Rattle.std.specs.Prelude.{ℕ, Bool, false, ◌||◌, List, filter, fold}
use Rattle.std.specs.List.{list_any}
use Rattle.std.specs.Str.{bytes_eq}
use Rattle.c25_isa.specs.declared.piece.PieceItem.{PieceItem}
use Rattle.c25_isa.specs.declared.piece.PieceItem.TheVariants.{Do, Mark, Jump, CallTo}
use Rattle.c25_isa.specs.Pieces.{Piece}
use Rattle.c25_helper.specs.declared.routine.Routine.{Routine}
use Rattle.c25_helper.specs.declared.routine.Routine.TheVariants.{DivInt, DivUnsigned, RemInt, RemUnsigned, ShrInt, ShrUnsigned}
use Rattle.c25_helper.specs.declared.called.Called.{Called}
use Rattle.c25_helper.specs.Routines.{routine_name, helper_pieces}

-- an item, items and pieces that call a name
abbrev pub item_calls : List ℕ → PieceItem → Bool
item_calls name (Do i) = false
item_calls name (Mark mark) = false
item_calls name (Jump op to o) = false
item_calls name (CallTo other o) = bytes_eq other name

abbrev pub items_call : List ℕ → List PieceItem → Bool
items_call name items = list_any (item_calls name) items

abbrev pub pieces_call : List ℕ → List Piece → Bool
pieces_call name pieces = list_any (λ p. items_call name p.items) pieces

-- the pieces of those routines whose names pieces call
abbrev pub called_helper_pieces : List Piece → List Piece
called_helper_pieces pieces = filter (λ helper. pieces_call helper.name pieces) helper_pieces

-- the same item by item: which routines are called so far
abbrev pub is_called : Called → Routine → Bool
is_called c DivInt = c.div_int
is_called c DivUnsigned = c.div_unsigned
is_called c RemInt = c.rem_int
is_called c RemUnsigned = c.rem_unsigned
is_called c ShrInt = c.shr_int
is_called c ShrUnsigned = c.shr_unsigned

abbrev pub no_calls : Called
no_calls = record {
  div_int = false;
  div_unsigned = false;
  rem_int = false;
  rem_unsigned = false;
  shr_int = false;
  shr_unsigned = false;
}

abbrev pub with_call : Called → List ℕ → Called
with_call c name = record {
  div_int = c.div_int || bytes_eq name (routine_name DivInt);
  div_unsigned = c.div_unsigned || bytes_eq name (routine_name DivUnsigned);
  rem_int = c.rem_int || bytes_eq name (routine_name RemInt);
  rem_unsigned = c.rem_unsigned || bytes_eq name (routine_name RemUnsigned);
  shr_int = c.shr_int || bytes_eq name (routine_name ShrInt);
  shr_unsigned = c.shr_unsigned || bytes_eq name (routine_name ShrUnsigned);
}

abbrev pub with_item : Called → PieceItem → Called
with_item c (Do i) = c
with_item c (Mark mark) = c
with_item c (Jump op to o) = c
with_item c (CallTo name o) = with_call c name

abbrev pub with_piece : Called → Piece → Called
with_piece c p = fold with_item c p.items

abbrev pub calls_of : List Piece → Called
calls_of pieces = fold with_piece no_calls pieces
