use Rattle.std.proofs.Common.{◌≤◌, vec_len}
use Rattle.std.specs.Io.KnownBytes.{Consumes}
use Rattle.cc_shelf.specs.Counts.{RoseBy}
use Rattle.cc_shelf.proofs.stream.read_within.Given as goal

abbrev pub invariant-loop : goal.invariant-loop
invariant-loop g l = record {
  bytes : Consumes (g.F.Read.remaining l.fn.file) (g.F.Read.remaining l.file) l.bytes.items;
  within : vec_len l.bytes ≤ l.max;
  counted : RoseBy (vec_len l.bytes) l.fn.bytes_read l.bytes_read;
  later : l.fn.bytes_read ≤ l.bytes_read;
}
