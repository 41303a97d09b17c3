-- What the code of an active function stands on: its site, its setting, and what runs of operations, calls, routines and returns do there.
use Rattle.std.specs.Prelude.{⊤, ◌≡◌, ◌<◌, ◌≤◌, ℕ, ◌+◌, ◌*◌, ◌^◌, List, [], ◌∷◌, map, length, Option, Some, None}
use Rattle.c_tree.specs.declared.program.VarRef.{VarRef}
use Rattle.c_tree.specs.TypedTree.{ObjectTree}
use Rattle.acc_code.specs.declared.item.CaseLabel.{CaseLabel}
use Rattle.acc_code.specs.declared.item.CaseLabel.TheVariants.{Value, Default}
use Rattle.acc_code.specs.declared.operand.HelperName.{HelperName}
use Rattle.acc_code.specs.AccTree.{Item, Op, Switch, Helper}
use Rattle.c25_isa.specs.declared.instruction.Instr.TheVariants.{Call as CallInstr}
use Rattle.c25_isa.specs.declared.piece.PieceItem.{PieceItem}
use Rattle.c25_isa.specs.State as machine
use Rattle.c25_isa.specs.State.{Memory}
use Rattle.c25_isa.specs.CodeAt.{StandsAt, CodeAt}
use Rattle.c25_isa.specs.Leads.{Leads}
use Rattle.c25_isa.specs.Pieces.{items_size, ItemsAt}
use Rattle.c25_code.specs.Work.{Work, InRange, calm}
use Rattle.c25_code.specs.Accesses.{Accesses, LeadsWithin}
use Rattle.c25_code.specs.Items.{no_change, return_code}
use Rattle.c25_helper.specs.Results.{HelperResult}
use Rattle.ir_semantics.specs.Parts.{Gives, Does, Flow, Next}
use Rattle.ir_semantics.specs.AccRun.{Machine, Context, labels_weight, label_of, cells_of, clear}
use Rattle.emit_blocks.specs.Places.{or_zero}
use Rattle.emit_blocks.specs.Right.{AreRight, AreInstrs}
use Rattle.emit_blocks.specs.Runs.{run_code}
use Rattle.emit_blocks.specs.Steps.{Operation}
use Rattle.emit_proof.specs.Calls.{IsJumpTo}
use Rattle.emit_control.specs.Entries.{Wipe}
use Rattle.emit_control.specs.Cuts.{State, dispatch_items, entry_items}
use Rattle.emit_control.specs.Settings.{Setting, function_name, helper_name, routine_of}
use Rattle.emit_proof.specs.Sites.{Site, IsSite, Beside}
use Rattle.emit_proof.specs.Accessing.{no_access, site_may}
use Rattle.emit_proof.specs.Operations.{operate, AreNamed, IsUsable, AreUsable, CodeMeets}
use Rattle.emit_proof.specs.Arrivals.{Begun, ComesTo, MeetsCall}
use Rattle.emit_proof.specs.Entries.{Passes, EntryAt}

-- the instructions of a run of operations do what these do
pub record RunsMeet (k : Site) : Type 0 where
  pub by : (os : List Operation) (v : Machine) (w : Work) → AreRight os → AreNamed k os → AreUsable k os → AreInstrs (run_code k.places os) → Beside k v w → CodeMeets k (run_code k.places os) v w (operate k.at os v)

-- values of cases are words
abbrev pub IsWordLabel : CaseLabel → Type 0
IsWordLabel (Value x) = x < 65536
IsWordLabel Default = ⊤

abbrev pub AreWordLabels : List CaseLabel → Type 0
AreWordLabels [] = ⊤
AreWordLabels (c ∷ cs) = IsWordLabel c × AreWordLabels cs

-- the label to which a word goes, by the number of its case
abbrev pub chosen : Option ℕ → ℕ → ℕ → ℕ
chosen None l behind = behind
chosen (Some i) l behind = l + i

-- the machine goes from one address to another, and only the accumulator becomes another one, in a few steps for each value, which
-- access no data memory
pub record DispatchArrives (program : Memory) (pc to : ℕ) (w : Work) (cs : List CaseLabel) : Type 0 where
  pub steps : ℕ
  pub acc : ℕ
  pub leads : LeadsWithin (Accesses no_access) steps (calm program pc w) (calm program to (record w { acc = acc })) []
  pub range : acc < 2 ^ 32
  pub some : 1 ≤ steps
  pub few : steps ≤ 64 * labels_weight cs + 1

-- the machine goes on to an address, beside the state behind the clearing, and accesses data memory as it may
pub record ClearArrives (program : Memory) (k : Site) (pc to : ℕ) (v : Machine) (w : Work) (u : Machine) : Type 0 where
  pub steps : ℕ
  pub work : Work
  pub leads : LeadsWithin (Accesses (site_may k)) steps (calm program pc w) (calm program to work) []
  pub beside : Beside k u work
  pub outputs : u.outside.outs ≡ v.outside.outs
  pub within : steps + 64 * v.work ≤ 64 * u.work

-- there is one: a function that may be called, or an object
abbrev pub IsPresent : Option ℕ → Type 0
IsPresent None = ⊥
IsPresent (Some n) = ⊤

module _ (start : machine.State) (program : Memory) (names : List ℕ → ℕ) (m : Setting) (k : Site) where
  -- a call of a function that may be called comes back with what the function does
  pub record CallsMeet (parameters : ℕ → Option ℕ) (limit : ℕ) (calls : ℕ → Does Machine Flow) : Type 0 where
    pub by : (f : ℕ) (b : Begun) (v : Machine) (w : Work) (pc : ℕ) → IsPresent (parameters f) → Leads b.steps start (calm program pc w) v.outside.outs → b.work ≡ v.work → Beside k v w
        → StandsAt program pc (CallInstr (names (function_name m f)) no_change) → pc + 2 < 65536 → MeetsCall start program k b (pc + 2) 0 limit (calls f v)

  -- a routine that may be called stands at its name
  pub record HelperStands (name : HelperName) : Type 0 where
    pub items : List PieceItem
    pub marks : ℕ → ℕ
    pub at : ItemsAt program marks names (names (helper_name name)) items
    pub result : HelperResult (routine_of name) items

  -- what an item needs besides, at whatever depth: its operand may be used so, the values of its cases are words, and a routine that it calls stands
  abbrev pub ItemStands : Item → Type 0
  ItemStands (Op o m) = IsUsable k o m
  ItemStands (Switch cs body) = AreWordLabels cs
  ItemStands (Helper name) = HelperStands name
  ItemStands x = ⊤

  -- where the instructions of a return stand, the machine comes back to the caller
  pub record ReturnsMeet (caller : Site) (back : ℕ) : Type 0 where
    pub by : (b : Begun) (v : Machine) (w : Work) (pc : ℕ) → CodeAt program pc (return_code m.back) → Leads b.steps start (calm program pc w) v.outside.outs → b.work ≡ v.work → Beside k v w
        → ComesTo start program caller b back 1 3 v

  -- where the items of a dispatch stand, the machine comes to the label of the number in the accumulator, with another accumulator
  pub record DispatchMeets (marks label : ℕ → ℕ) : Type 0 where
    pub by : (cs : List CaseLabel) (l behind pc : ℕ) (w : Work) → AreWordLabels cs → InRange w → ItemsAt program marks names pc (dispatch_items cs l behind)
        → ((j : ℕ) → IsJumpTo j (dispatch_items cs l behind) → marks j ≡ label j) → DispatchArrives program pc (label (chosen (label_of w.acc cs) l behind)) w cs

  -- where the items of a Clear stand, each cell that it clears is 0 behind them
  pub record WipeMeets (marks label : ℕ → ℕ) (c : Context) : Type 0 where
    pub by : (o : VarRef) (from l pc : ℕ) (s : State) (v u : Machine) (w : Work) (flow : Flow) → EntryAt program marks names m label pc s (Wipe o from l) → Passes s.before → Beside k v w
        → clear (cells_of c.locals o) (c.at o) from v ≡ Gives flow u → (flow ≡ Next) × ClearArrives program k pc (pc + items_size (entry_items m s (Wipe o from l))) v w u

  -- all of it, for a function with so many scalars, with objects of so many cells and these parameters of others, and that may call routines or not
  pub record CodeStands (marks label : ℕ → ℕ) (caller : Site) (back : ℕ) (c : Context) (cells : VarRef → Option ℕ) (parameters : ℕ → Option ℕ) : Type 0 where
    pub site : IsSite k
    pub places : m.places ≡ k.places
    pub lengths : m.lengths ≡ map (λ (o : ObjectTree). o.length) c.locals
    pub addresses : (v : VarRef) → IsPresent (cells v) → c.at v ≡ k.at v
    pub counts : (f : ℕ) → k.counts f ≡ or_zero (parameters f)
    pub room : length k.stack ≤ 1
    pub runs : RunsMeet k
    pub calls : CallsMeet parameters c.limit c.calls
    pub returns : ReturnsMeet caller back
    pub dispatch : DispatchMeets marks label
    pub wipe : WipeMeets marks label c
