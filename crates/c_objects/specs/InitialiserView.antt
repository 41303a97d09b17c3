-- The pure initialisers that the checker's stand for.
use Rattle.std.specs.Prelude.{List, [], ◌∷◌, map, Option, Some, None}
use Rattle.c_tree.specs.declared.typed_statement.TypedStmt.{TypedStmt}
use Rattle.c_tree.specs.TypedTree.{Stmt}
use Rattle.c_tree.specs.View.{stmt_of}
use Rattle.c_objects.specs.declared.first_values.Entry as listed
use Rattle.c_objects.specs.declared.first_values.Initialiser as initialisers
use Rattle.c_objects.specs.declared.first_values.Initialiser.TheVariants as initial
use Rattle.c_objects.specs.declared.first_values.Start as starts
use Rattle.c_objects.specs.declared.first_values.Starts as given
use Rattle.c_objects.specs.declared.first_values.Starts.TheVariants as first
use Rattle.c_conversions.specs.OperandView.{operand_of}
use Rattle.c_rules.specs.Declarations.{Entry}
use Rattle.c_rules.specs.Units.{Starts, NoStart, One, Braced}
use Rattle.c_rules.specs.Statements.{Initialiser, Absent, Value, Listed, Misbraced, ObjectStart}

abbrev pub entry_of : listed.Entry → Entry
entry_of e = record { operand = operand_of e.operand; initial = e.initial }

abbrev pub initialiser_of : initialisers.Initialiser → Initialiser
initialiser_of initial.Absent = Absent
initialiser_of (initial.Value x) = Value (operand_of x)
initialiser_of (initial.Listed es) = Listed (map entry_of es.items)
initialiser_of initial.Misbraced = Misbraced

-- the statement that gives an object its first value, where there is one
abbrev pub first_value : Option TypedStmt → List Stmt
first_value None = []
first_value (Some s) = stmt_of s ∷ []

abbrev pub object_start_of : starts.Start → ObjectStart
object_start_of s = record { values = s.values; statements = first_value s.statement }

abbrev pub starts_of : given.Starts → Starts
starts_of first.Absent = NoStart
starts_of (first.One e) = One (entry_of e)
starts_of (first.Braced es) = Braced (map entry_of es.items)
