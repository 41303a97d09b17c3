use Rattle.std.proofs.Common.{◌≡◌, reverse}
use Rattle.std.specs.Iterator.Adapters.{rev_source}
use Rattle.std.specs.Slice.Iter.{iter_rest}
use Rattle.c_names.specs.Tables.{in_tables}
use Rattle.c_names.proofs.scopes.Scopes.find.Given as goal

-- no table so far has the name
abbrev pub invariant-loop-table : goal.invariant-loop-table
invariant-loop-table l = in_tables (reverse l.self.outer.items) l.name ≡ in_tables (reverse (iter_rest (rev_source l.table-iterator))) l.name
