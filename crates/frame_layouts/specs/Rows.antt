-- What a report tells of a frame (docs/FORMATS.md, "Reports").
use Rattle.std.specs.Prelude.{ℕ, Bool, true, false, length, sum_by}
use Rattle.lay_model.specs.Sequences.{Sequence}
use Rattle.lay_cert.specs.declared.certificate.Claim.{Claim}
use Rattle.lay_cert.specs.declared.certificate.Claim.TheVariants.{Optimal, Best}
use Rattle.lay_cert.specs.Frames.{Frame}
use Rattle.cc_report.specs.declared.report.ReportRow.{ReportRow}

-- how often the scalars of a frame are accessed
abbrev pub access_count : Sequence → ℕ
access_count seq = sum_by (λ b. length b.accesses) seq.blocks

abbrev pub is_optimal : Claim → Bool
is_optimal Optimal = true
is_optimal (Best piece quota) = false

abbrev pub row_of : Frame → ReportRow
row_of f = record {
  name = f.name;
  scalars = f.seq.scalars;
  registers = f.registers;
  accesses = access_count f.seq;
  cost = f.cost;
  optimal = is_optimal f.claim;
}
