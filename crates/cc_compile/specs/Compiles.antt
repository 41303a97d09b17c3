-- What a source is compiled to, in words of the source, the machine and the layouts of frames. How it is made is in `Made`.
use Rattle.std.specs.Prelude.{◌≡◌, ◌≤◌, ℕ, ◌+◌, ◌*◌, List, length, map, All}
use Rattle.c_syntax.specs.declared.token.Token.{Token}
use Rattle.c_syntax.specs.Lexes.{Lexes}
use Rattle.c_syntax.specs.Counts.{unit_count}
use Rattle.c_syntax.specs.SyntaxTree.{UnitTree}
use Rattle.c_syntax.specs.Source.{IsSource}
use Rattle.c_tree.specs.SourceRun.{source_run}
use Rattle.c_tree.specs.TypedTree.{FunctionTree, ProgramTree}
use Rattle.c_rules.specs.Checked.{IsTyped}
use Rattle.c25_isa.specs.Agrees.{Agrees}
use Rattle.c25_isa.specs.declared.image.FunctionRange.{FunctionRange}
use Rattle.c25_isa.specs.Image.{Contents}
use Rattle.c25_isa.specs.State.{IsStart, zero_start}
use Rattle.frame_layouts.specs.Claims.{IsFound}
use Rattle.frame_layouts.specs.lay_cert.Frames.{Frame}
use Rattle.frame_layouts.specs.mem_plan.declared.data_plan.DataPlan.{DataPlan}
use Rattle.frame_layouts.specs.mem_plan.declared.data_plan.FramePlan.{FramePlan}
use Rattle.frame_layouts.specs.mem_plan.Plan.{IsPlan}
use Rattle.frame_layouts.specs.mem_plan.Ranges.{KeepApart}
use Rattle.frame_layouts.specs.declared.options.Options.{Options}
use Rattle.image_proof.specs.InTime.{EndsInTime}
use Rattle.tree_code.specs.Lowered.{lowered_program}
use Rattle.cc_compile.specs.Apart.{AreListsApart}
use Rattle.cc_compile.specs.DataWords.{AllNameDirectly}
use Rattle.cc_compile.specs.Walked.{AccessAs, AreWalked}

-- the names of a program's functions, in order
abbrev pub names_of : ProgramTree → List (List ℕ)
names_of t = map (λ (f : FunctionTree). f.name) t.functions

-- a range of the image and a frame for each function, in order, by its name
pub record HaveNames (t : ProgramTree) (image : Contents) (frames : List Frame) : Type 0 where
  pub ranges : map (λ (r : FunctionRange). r.name) image.functions ≡ names_of t
  pub framed : map (λ (f : Frame). f.name) frames ≡ names_of t

-- where the data are: the words of static objects, and of each function's scalars, where its frame says, its local objects and its return address
-- (the scalars of word trees have the temporaries among them)
pub record IsDataOf (t : ProgramTree) (frames : List Frame) (plan : DataPlan) : Type 0 where
  pub planned : IsPlan (lowered_program t) (map (λ (f : Frame). f.arr) frames) plan
  pub bases : map (λ (f : Frame). f.bases) frames ≡ map (λ (at : FramePlan). at.bases) plan.frames
  -- what can be in use at once is apart, objects with their spare words
  pub apart : KeepApart (lowered_program t) (map (λ (f : Frame). f.arr) frames) plan
  -- so are the lists as they are stored, from each other and from all else
  pub lists : AreListsApart t frames plan

-- the bytes have a tree, and this a typed program, with the image and a frame for each function
pub record IsBuilt (o : Options) (bytes : List ℕ) (image : Contents) (frames : List Frame) : Type 0 where
  pub tokens : List Token
  pub source : UnitTree
  pub program : ProgramTree
  pub lexes : Lexes bytes tokens
  pub is_source : IsSource tokens source
  pub typed : IsTyped source program
  -- its words are those of a program memory, so that runs can start with them
  pub starts : IsStart (zero_start image.words)
  -- the image does what the program does, from any start and on any input, wherever C defines that; where the program ends, in time
  pub agrees : ∥ Agrees (source_run program) image.words ∥₁
  pub in_time : ∥ EndsInTime program image.words ∥₁
  -- it has few words for the source's expressions, statements and declared items
  pub short : length image.words ≤ 1000 + 64 * unit_count source
  pub names : HaveNames program image frames
  -- each frame is what the search answers for the accesses of its function in the source
  pub accesses : AccessAs o.step program frames
  pub found : All (IsFound o) frames
  -- the words of each function access what its frame says, with so many address instructions as that costs
  pub walked : ∥ AreWalked image frames ∥₁
  -- no direct operand of them names a word of its scalars
  pub plan : DataPlan
  pub memory : IsDataOf program frames plan
  pub direct : ∥ AllNameDirectly program plan image frames ∥₁
