use Rattle.std.proofs.Common.{arith, rules, map}
use Rattle.std.proofs.lemmas.List.{nil_from_length}
use Rattle.std.specs.Vec.Iter.{into_iter_items}
use Rattle.c_rules.specs.Answers.{Refuses}
use Rattle.c_rules.specs.Declarations.{cells}
use Rattle.c_objects.specs.InitialiserView.{entry_of}
use Rattle.c_objects.proofs.CellsSoFar.{cell_typed, cell_refused, cells_ended}
use Rattle.c_objects.proofs.first_values.cells.Goals as goal

pub loop-entry-preserved : goal.loop-entry-preserved
loop-entry-preserved c =
    cell_typed c.args.kind c.args.at c.args.entries.items (into_iter_items c.loop-entry.entry-iterator) c.loop-entry.values.items c.loop-entry.invariant
    c.in-Some.entry (into_iter_items c.next.new.self) c.in-Some.ensures.steps.0 c.in_ok-cell.field-0 c.push.new.self.items c.in_ok-cell.ensures c.in_ok-push.ensures.items

pub returns : goal.returns
returns c =
    cells_ended c.args.kind c.args.at c.args.entries.items (into_iter_items c.loop-entry.entry-iterator) c.loop-entry.values.items c.loop-entry.invariant
    (nil_from_length (into_iter_items c.loop-entry.entry-iterator) (omega (arith, c.in-None.ensures.steps.0, c.loop-entry.entry-iterator.rest.ok)))

pub returns-in_err-cell : goal.returns-in_err-cell
returns-in_err-cell c =
    let h : Refuses (cells c.args.kind c.args.at (map entry_of c.args.entries.items)) c.in_err-cell.field-0.0 =
    cell_refused c.args.kind c.args.at c.args.entries.items (into_iter_items c.loop-entry.entry-iterator) c.loop-entry.values.items c.loop-entry.invariant
    c.in-Some.entry (into_iter_items c.next.new.self) c.in-Some.ensures.steps.0 c.in_err-cell.field-0.0 c.in_err-cell.ensures in
    search (rules, h)
