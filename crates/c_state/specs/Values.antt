-- Values, cells and objects, as the definition of runs has them.
use Rattle.std.specs.Prelude.{Option, Some, None}
use Rattle.c_tree.specs.Store as runs
use Rattle.c_state.specs.declared.value.Value.{Value}
use Rattle.c_state.specs.declared.value.Value.TheVariants as values
use Rattle.c_state.specs.declared.value.Cell.{Cell}
use Rattle.c_state.specs.declared.value.Cell.TheVariants as cells

abbrev pub value_of : Value → runs.Value
value_of (values.Word w) = runs.Word w
value_of (values.Pointer spot) = runs.Pointer spot.object.number spot.index
value_of values.Null = runs.Null

abbrev pub option_of : Option Value → Option runs.Value
option_of None = None
option_of (Some v) = Some (value_of v)

abbrev pub cell_view : Cell → runs.Cell
cell_view cells.Unset = runs.Unset
cell_view (cells.Holds v) = runs.Holds (value_of v)

abbrev pub option_cell_of : Option Cell → Option runs.Cell
option_cell_of None = None
option_cell_of (Some c) = Some (cell_view c)
