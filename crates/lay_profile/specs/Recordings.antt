-- What a recorded run says of a program's functions, and what is searched for them (docs/LAYOUT.md, "Recorded runs").
use Rattle.std.specs.Prelude.{◌≡◌, ℕ, ◌≤◌, ◌<◌, ◌^◌, suc, List, [], ◌∷◌, length, map, sum, All, Option, Some, None}
use Rattle.word_base.specs.Ports.{Input, input_of}
use Rattle.c25_isa.specs.Image.{Contents}
use Rattle.c25_sim.specs.Taken.{of_sixteen}
use Rattle.c25_walk.specs.Places.{places_of}
use Rattle.lay_model.specs.Sequences.{Sequence}
use Rattle.cc_compile.specs.c_tree.TypedTree.{ProgramTree}
use Rattle.cc_compile.specs.frame_layouts.Frames.{job_with}
use Rattle.cc_compile.specs.frame_layouts.declared.options.Options.{Options}
use Rattle.cc_compile.specs.Images.{FrameJobs, jobs_at}
use Rattle.lay_profile.specs.declared.options.ProfileOptions.{ProfileOptions}
use Rattle.lay_profile.specs.Entries.{entries_of}
use Rattle.lay_profile.specs.Shapes.{accesses_of}
use Rattle.lay_profile.specs.Weighing.{accesses_in, weighed}

-- a run of an image from zeros, on an input, for so many steps at most
pub record Recording : Type 0 where
  pub image : Contents
  pub input : Input
  pub steps : ℕ

-- the run of an image on what its ports are given, by lines of a port and a word
abbrev pub recording_of : Contents → List (ℕ × ℕ) → ℕ → Recording
recording_of image lines steps = record { image = image; input = of_sixteen (input_of lines); steps = steps }

-- where a list is, or none
abbrev pub listed : Option (List ℕ) → List ℕ
listed (Some places) = places
listed None = []

-- how often the run enters each block of the function of a number
abbrev pub counts_of : Recording → ℕ → List ℕ
counts_of r k = map (entries_of r.image.words r.input r.steps) (listed (places_of r.image k))

-- how often it enters blocks of each of so many functions, the first of which has this number
abbrev pub entered_from : Recording → ℕ → List Sequence → List ℕ
entered_from r k [] = []
entered_from r k (s ∷ more) = sum (counts_of r k) ∷ entered_from r (suc k) more

-- sequences of functions, the first of which has this number, each block weighed by how often the run enters it
abbrev pub weighed_from : Recording → ℕ → List Sequence → List Sequence
weighed_from r k [] = []
weighed_from r k (s ∷ more) = weighed s (counts_of r k) ∷ weighed_from r (suc k) more

-- counts of a run by which a sequence can be weighed: one for each block, none above the most steps, and not too many accesses
pub record AreCounts (accesses : Sequence) (counts : List ℕ) : Type 0 where
  pub one_each : length counts ≡ length accesses.blocks
  pub few : All (λ count. count ≤ 100000000) counts
  pub short : accesses_in accesses.blocks < 2 ^ 32

-- what is searched for a program's frames; the step is 1
abbrev pub recorded_jobs : Options → Recording → ProgramTree → FrameJobs
recorded_jobs o r t = jobs_at 1 (map (job_with o) (weighed_from r 0 (accesses_of t)))

-- the numbers are in their ranges; each budget has an answer
pub record AreProfileOptions (o : ProfileOptions) : Type 0 where
  pub some_registers : 1 ≤ o.registers
  pub few_registers : o.registers ≤ 4
  pub some_steps : 1 ≤ o.steps
  pub few_steps : o.steps ≤ 100000000

-- what a search of layouts is given of these; the step is 1
abbrev pub search_options : ProfileOptions → Options
search_options o = record { registers = o.registers; step = 1; budget = o.budget }
