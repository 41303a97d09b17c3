-- What the code of a function stands on, in one record, and where control is beside a run of accumulator code.
use Rattle.std.specs.Prelude.{◌≡◌, ℕ, zero, suc, ◌+◌, ◌*◌, ◌≤◌, Bool, true, List, [], ◌∷◌, length, Option, ◌==◌, if◌then◌else◌}
use Rattle.c_tree.specs.declared.program.VarRef.{VarRef}
use Rattle.acc_code.specs.AccTree.{ItemList}
use Rattle.acc_code.specs.Emittable.{Throughout, RefersRight, IsPlaced}
use Rattle.c25_isa.specs.State as machine
use Rattle.c25_isa.specs.State.{Memory}
use Rattle.c25_isa.specs.Leads.{Leads}
use Rattle.c25_code.specs.Work.{Work, calm}
use Rattle.ir_semantics.specs.Parts.{Res, Gives, Finished, TooMany, Fails, Flow, Next, Broke, Continued, Returned}
use Rattle.ir_semantics.specs.AccRun.{Machine, Context}
use Rattle.emit_proof.specs.Calls.{IsJumpTo}
use Rattle.emit_control.specs.declared.ways.Ways.{Ways}
use Rattle.emit_control.specs.Entries.{Entry, Finish}
use Rattle.emit_control.specs.Cuts.{State, entry_items, behind_entry}
use Rattle.emit_control.specs.Settings.{Setting}
use Rattle.emit_proof.specs.Sites.{Site, Beside}
use Rattle.emit_proof.specs.Arrivals.{Begun, ComesTo, ComesToEnd, StillRuns}
use Rattle.emit_proof.specs.Entries.{Passes, EntriesAt}
use Rattle.emit_proof.specs.Code.{CodeStands, ItemStands}

pub record Ground : Type 0 where
  pub start : machine.State
  pub program : Memory
  pub names : List ℕ → ℕ
  pub setting : Setting
  pub site : Site
  pub marks : ℕ → ℕ
  pub label : ℕ → ℕ
  pub caller : Site
  pub back : ℕ
  pub context : Context
  pub cells : VarRef → Option ℕ
  pub parameters : ℕ → Option ℕ
  pub helps : Bool
  -- whether something comes to the label of the body's end, 0
  pub finished : Bool

-- runs of operations, calls and the others do what they have to
abbrev pub Founded : Ground → Type 0
Founded g = CodeStands g.start g.program g.names g.setting g.site g.marks g.label g.caller g.back g.context g.cells g.parameters

abbrev pub StandAt : Ground → ℕ → State → List Entry → Type 0
StandAt g = EntriesAt g.program g.marks g.names g.setting g.label

-- something comes to a label: to the end of the body where its code is there
abbrev pub is_reached : Bool → ℕ → Bool
is_reached finished zero = finished
is_reached finished (suc l) = true

-- jumps of an entry lead to labels that something comes to, and so does the end of a body where control passes there
pub record Leading (g : Ground) (s : State) (e : Entry) (es : List Entry) : Type 0 where
  pub jumps : (l : ℕ) → IsJumpTo l (entry_items g.setting s e) → is_reached g.finished l ≡ true
  pub end : e ∷ es ≡ Finish 0 ∷ [] → Passes s.before → g.finished ≡ true

abbrev pub AllLead : Ground → State → List Entry → Type 0
AllLead g s [] = Unit {0}
AllLead g s (e ∷ es) = Leading g s e es × AllLead g (behind_entry g.setting s e) es

-- entries stand at an address where control passes
pub record Standing (g : Ground) (pc : ℕ) (es : List Entry) : Type 0 where
  pub state : State
  pub at : StandAt g pc state es
  pub lead : AllLead g state es
  pub passes : Passes state.before

-- and anywhere, whether it passes or not
pub record Somewhere (g : Ground) (es : List Entry) : Type 0 where
  pub pc : ℕ
  pub state : State
  pub at : StandAt g pc state es
  pub lead : AllLead g state es

-- the machine is at an address, beside the state of accumulator code
pub record Arrived (g : Ground) (b : Begun) (pc : ℕ) (v : Machine) (w : Work) : Type 0 where
  pub came : Leads b.steps g.start (calm g.program pc w) v.outside.outs
  pub work : b.work ≡ v.work
  pub beside : Beside g.site v w

abbrev pub begun_at : ℕ → Machine → Begun
begun_at steps v = record { steps = steps; work = v.work }

-- where a part is left to
pub record Exit : Type 0 where
  pub address : ℕ
  pub reached : Bool

pub record Exits : Type 0 where
  pub onward : Exit
  pub broken : Exit
  pub continued : Exit
  pub back : ℕ

abbrev pub exit : Ground → ℕ → Exit
exit g l = record { address = g.label l; reached = is_reached g.finished l }

abbrev pub exits : Ground → Ways → Exits
exits g ways = record { onward = exit g ways.onward; broken = exit g ways.broken; continued = exit g ways.continued; back = g.back }

-- it comes to an exit that something comes to, beside a state
pub record Comes (g : Ground) (b : Begun) (x : Exit) (least slack : ℕ) (v : Machine) : Type 0 where
  pub steps : ℕ
  pub work : Work
  pub came : Leads steps g.start (calm g.program x.address work) v.outside.outs
  pub beside : Beside g.site v work
  pub least_steps : b.steps + least ≤ steps
  pub within : steps + 64 * b.work ≤ b.steps + 64 * v.work + slack
  pub reached : x.reached ≡ true

abbrev pub MeetsAt : Ground → Begun → Exits → ℕ → ℕ → Res Machine Flow → Type 0
MeetsAt g b e least slack (Gives Next v) = Comes g b e.onward least slack v
MeetsAt g b e least slack (Gives Broke v) = Comes g b e.broken 1 slack v
MeetsAt g b e least slack (Gives Continued v) = Comes g b e.continued 1 slack v
MeetsAt g b e least slack (Gives Returned v) = ComesTo g.start g.program g.caller b e.back 1 slack v
MeetsAt g b e least slack (Finished ending outs total) = ComesToEnd g.start g.program b slack ending outs total
MeetsAt g b e least slack (TooMany outs) = StillRuns g.start g.program g.context.limit outs
MeetsAt g b e least slack (Fails outs) = StillRuns g.start g.program 0 outs

-- from entries control comes to a label, maybe by a jump
pub record Falls (g : Ground) (l : ℕ) (es : List Entry) : Type 0 where
  pub by : (pc : ℕ) (b : Begun) (v : Machine) (w : Work) → Standing g pc es → Arrived g b pc v w → Comes g b (exit g l) 0 1 v

-- a jump to a label that is placed next is left out
abbrev pub jump_to : ℕ → ℕ → ℕ
jump_to onward next = if onward == next then 0 else 1

-- items that the function may have
pub record Suits (g : Ground) (xs : ItemList) : Type 0 where
  pub refers : Throughout (RefersRight (length g.site.places.scalars) g.cells g.parameters g.helps) xs
  pub breaks : Bool
  pub continues : Bool
  pub cases : Bool
  pub placed : IsPlaced breaks continues cases xs
  pub stands : Throughout (ItemStands g.start g.program g.names g.setting g.site) xs
