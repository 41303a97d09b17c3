-- How the frames of functions are laid out, and what a certificate says of it (docs/LAYOUT.md, "Search"; docs/FORMATS.md, "Certificates").
use Rattle.std.specs.Prelude.{◌≡◌, ◌≤◌, ℕ, List, [], ◌∷◌, map, length}
use Rattle.acc_code.specs.AccTree.{FunctionItems}
use Rattle.acc_code.specs.AccSequence.{sequence_of}
use Rattle.lay_model.specs.Sequences.{Sequence, IsSequence}
use Rattle.lay_par.specs.Jobs.{Job}
use Rattle.lay_tree.specs.declared.answer.Answer.{Answer}
use Rattle.lay_tree.specs.Search.{search_answer, answer_lists, answer_cost}
use Rattle.lay_cert.specs.Frames.{Frame}
use Rattle.mem_plan.specs.declared.data_plan.FramePlan.{FramePlan}
use Rattle.frame_layouts.specs.declared.options.Options.{Options}
use Rattle.frame_layouts.specs.declared.layouts.Finding.{Finding}
use Rattle.frame_layouts.specs.declared.layouts.Layouts.{Layouts}
pub use Rattle.frame_layouts.specs.Claims.{claim_of, log_of, IsFound, ClaimsHold}

-- the registers and the step are in their ranges; each budget has an answer
pub record AreOptions (o : Options) : Type 0 where
  pub some_registers : 1 ≤ o.registers
  pub few_registers : o.registers ≤ 4
  pub from_one : 1 ≤ o.step
  pub to_eight : o.step ≤ 8

-- the accesses of a function's frame, at the step that was chosen
abbrev pub accesses_of : Options → FunctionItems → Sequence
accesses_of o f = record (sequence_of f) { step = o.step }

-- a search for a sequence, as is chosen
abbrev pub job_with : Options → Sequence → Job
job_with o seq = record { sequence = seq; registers = o.registers; budget = o.budget }

abbrev pub job_of : Options → FunctionItems → Job
job_of o f = job_with o (accesses_of o f)

-- a search that has an answer, over a number of registers that is in its range
pub record IsJob (job : Job) : Type 0 where
  pub sequence : IsSequence job.sequence
  pub some_registers : 1 ≤ job.registers
  pub few_registers : job.registers ≤ 4

-- what is answered
abbrev pub answer_for : Job → Answer
answer_for job = search_answer job.registers job.sequence job.budget

-- the layout that is found
abbrev pub layout_of : Job → List (List ℕ)
layout_of job = answer_lists (answer_for job)

abbrev pub finding_of : List ℕ → Job → Answer → Finding
finding_of name job a = record { name = name; job = job; cost = answer_cost a; claim = claim_of a; log = log_of a }

-- what is found for functions, whose jobs are given in order
abbrev pub findings_of : List FunctionItems → List Job → List Finding
findings_of (f ∷ fs) (job ∷ jobs) = finding_of f.name job (answer_for job) ∷ findings_of fs jobs
findings_of fs jobs = []

-- the layouts of functions, whose jobs are given in order
pub record AreLayouts (fs : List FunctionItems) (jobs : List Job) (l : Layouts) : Type 0 where
  pub arrangements : l.arrangements.items ≡ map layout_of jobs
  pub findings : l.findings.items ≡ findings_of fs jobs

-- for which they were found
abbrev pub jobs_in : Layouts → List Job
jobs_in l = map (λ x. x.job) l.findings.items

-- functions, their jobs and the answers side by side
abbrev pub lists_with : List FunctionItems → List Job → List Answer → List (List (List ℕ))
lists_with (f ∷ fs) (job ∷ jobs) (a ∷ more) = answer_lists a ∷ lists_with fs jobs more
lists_with fs jobs answers = []

abbrev pub findings_with : List FunctionItems → List Job → List Answer → List Finding
findings_with (f ∷ fs) (job ∷ jobs) (a ∷ more) = finding_of f.name job a ∷ findings_with fs jobs more
findings_with fs jobs answers = []

-- the frame of a function whose lists begin at some addresses
abbrev pub frame_of : FunctionItems → Job → List ℕ → Frame
frame_of f job bases = let found = answer_for job in record {
  name = f.name;
  registers = job.registers;
  seq = job.sequence;
  arr = answer_lists found;
  bases = bases;
  cost = answer_cost found;
  claim = claim_of found;
  log = log_of found;
}

-- a frame for each function, in order, where a plan puts it
abbrev pub frames_of : List FunctionItems → List Job → List FramePlan → List Frame
frames_of (f ∷ fs) (job ∷ jobs) (plan ∷ plans) = frame_of f job plan.bases ∷ frames_of fs jobs plans
frames_of fs jobs plans = []

-- the frame of what was found of a function, its layout and its plan
abbrev pub frame_with : Finding → List (List ℕ) → FramePlan → Frame
frame_with x lists plan = record {
  name = x.name;
  registers = x.job.registers;
  seq = x.job.sequence;
  arr = lists;
  bases = plan.bases;
  cost = x.cost;
  claim = x.claim;
  log = x.log;
}

-- these side by side
abbrev pub frames_with : List Finding → List (List (List ℕ)) → List FramePlan → List Frame
frames_with (x ∷ xs) (lists ∷ rest) (plan ∷ plans) = frame_with x lists plan ∷ frames_with xs rest plans
frames_with xs rest plans = []

-- each plan has a base for each list of a job's layout
abbrev pub AreBased : List Job → List FramePlan → Type 0
AreBased jobs plans = map (λ plan. length plan.bases) plans ≡ map (λ job. length (layout_of job)) jobs
