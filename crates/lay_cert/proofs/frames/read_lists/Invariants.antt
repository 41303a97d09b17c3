use Rattle.std.proofs.Common.{◌≡◌, ◌≤◌, ℕ, Bool, List, [], length}
use Rattle.std.specs.Prelude.{codes}
use Rattle.lay_model.specs.Sequences.{Block}
use Rattle.lay_cert.specs.Frames.{Frame}
use Rattle.lay_cert.specs.CertReading.{Head, Inside, Listing}
use Rattle.lay_cert.specs.LineReading.{Stands, BeginsNot}
use Rattle.lay_cert.proofs.Layouts.{ListsSoFar}
use Rattle.lay_cert.proofs.frames.read_lists.Given as goal

abbrev pub invariant-loop-line : goal.invariant-loop-line
invariant-loop-line l = record {
  few : length l.lists.items ≤ l.registers;
  based : length l.bases.items ≡ length l.lists.items;
  so_far : (bytes : List ℕ) (steps : Bool) (fs : List Frame) (h : Head) (blocks : List Block) → h.registers ≡ l.registers → BeginsNot (codes "block ") l.initial.lines.text → Stands bytes l.initial.lines (Inside steps fs (Listing h blocks [] [])) → ListsSoFar bytes steps fs h blocks l.lists.items l.bases.items l.lines;
}

abbrev pub decreases-loop-line : goal.decreases-loop-line
decreases-loop-line l = length l.lines.text
