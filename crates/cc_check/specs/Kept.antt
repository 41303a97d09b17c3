-- The walks over functions that are kept.
use Rattle.std.specs.Prelude.{◌≡◌, ℕ, List, length, slice_index_or, Option, Some, None, IfSome}
use Rattle.c25_isa.specs.Image.{Contents}
use Rattle.c25_isa.specs.Walk as walk
use Rattle.c25_walk.specs.Walks.{walk_of, count_of}
use Rattle.lay_cert.specs.Frames.{Frame}
use Rattle.cc_check.specs.declared.walks.Walked.{Walked}
use Rattle.cc_check.specs.declared.walks.Walked.TheVariants as outcomes
use Rattle.cc_check.specs.declared.finding.Finding.{Finding}
use Rattle.cc_check.specs.declared.finding.Finding.TheVariants.{BadWord, UnknownAddress}
use Rattle.cc_check.specs.Findings.{walk_finding}

-- this is what the walk over the function of a number comes to
abbrev pub IsWalkOf : Contents → ℕ → Walked → Type 0
IsWalkOf image k (outcomes.Report report) = (walk_of image k ≡ Some (walk.Blocks report.blocks.items)) × (count_of image k ≡ Some report.count)
IsWalkOf image k (outcomes.BadWord at) = walk_of image k ≡ Some (walk.BadWord at)
IsWalkOf image k (outcomes.UnknownAddress at) = walk_of image k ≡ Some (walk.UnknownAddress at)

-- there is a place for each function, and what is kept there is the function's walk
pub record AreKept (image : Contents) (walks : List (Option Walked)) : Type 0 where
  pub size : length walks ≡ length image.functions
  pub each : (k : ℕ) → IfSome (slice_index_or walks k None) (IsWalkOf image k)

-- what is found of a frame by a walk that is kept
abbrev pub kept_finding : Frame → Walked → Finding
kept_finding f (outcomes.Report report) = walk_finding f report.count (walk.Blocks report.blocks.items)
kept_finding f (outcomes.BadWord at) = BadWord at
kept_finding f (outcomes.UnknownAddress at) = UnknownAddress at
