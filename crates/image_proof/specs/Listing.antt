-- The data accesses of runs of an image along the range of a function: those that a walk of the range lists, and no other to a word of one of its scalars.
use Rattle.std.specs.Prelude.{◌≡◌, ℕ, true, List, [], map, slice_get, Some}
use Rattle.std.specs.List.{IsAmong}
use Rattle.word_base.specs.Ports.{Input}
use Rattle.tree_code.specs.WordTree.{FunctionCode}
use Rattle.acc_code.specs.AccTree.{FunctionItems}
use Rattle.acc_code.specs.AccSequence.{blocks_of}
use Rattle.mem_plan.specs.declared.data_plan.FramePlan.{FramePlan}
use Rattle.c25_isa.specs.declared.image.FunctionRange.{FunctionRange}
use Rattle.c25_isa.specs.Image.{Contents}
use Rattle.c25_isa.specs.State.{State, Start, BeginsWith}
use Rattle.c25_isa.specs.Leads.{state_behind}
use Rattle.c25_isa.specs.MachineRun.{reset}
use Rattle.c25_isa.specs.StretchRuns.{accesses_of, begins, listed_in, way, AreListedOrBeside, IsEntry, Tells}
use Rattle.c25_isa.specs.Walk.{Blocks, Code, Placed, code_of, stretches, walk}
use Rattle.image_proof.specs.Directs.{own_words}
use Rattle.image_proof.specs.Emissions.{Emission}
use Rattle.image_proof.specs.FrameWords.{place_of}
use Rattle.image_proof.specs.FunctionWalks.{IsFunctionOf}

-- a run of an image, from a reset of any board on any input, is at the first word of a stretch of code in this state
pub record ComesToStretch (image : Contents) (code : Code) (stretch : List Placed) (s : State) : Type 0 where
  pub board : Start
  pub input : Input
  pub steps : ℕ
  pub words : BeginsWith image.words board
  pub there : state_behind steps (reset board input) ≡ Some s
  pub is_stretch : IsAmong (stretches code) stretch
  pub first : begins s.pc stretch ≡ true

-- the function has a range in the image, of which a walk lists the accesses of its blocks where the frame has its scalars. Whenever a run of the image
-- is at the first word of a stretch of the range, it goes along this stretch, and its accesses through AR2 to AR5 are those that are listed in it, in
-- order. Each access of it to a word of one of the function's scalars is one of these, or goes through another address register
pub record ListsFrame (image : Contents) (k : ℕ) (code : FunctionCode) (g : FunctionItems) (frame : FramePlan) (lists : List (List ℕ)) : Type 0 where
  pub range : FunctionRange
  pub there : slice_get image.functions k ≡ Some range
  pub walks : walk image.words range.first range.last ≡ Blocks (map (map (place_of frame.bases lists)) (blocks_of g.body))
  pub entered : IsEntry (code_of image.words range.first range.last) range.first
  pub tells : (stretch : List Placed) (s : State) (steps : ℕ) → ComesToStretch image (code_of image.words range.first range.last) stretch s → Tells (code_of image.words range.first range.last) stretch (way steps s stretch [])
  pub listed : (stretch : List Placed) (s : State) (steps : ℕ) → ComesToStretch image (code_of image.words range.first range.last) stretch s → AreListedOrBeside (own_words code frame lists) (listed_in stretch) (accesses_of (way steps s stretch []))

-- so it is of each function
abbrev pub AllListFrames : Emission → Contents → Type 0
AllListFrames e image = (k : ℕ) (code : FunctionCode) (g : FunctionItems) (frame : FramePlan) (lists : List (List ℕ)) → IsFunctionOf e k code g frame lists → ListsFrame image k code g frame lists
