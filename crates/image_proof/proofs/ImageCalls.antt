-- A call of a function that stands at its name comes back behind itself with what the function does, at whatever depth.
use Rattle.std.proofs.Common.{◌≡◌, ◌⊎◌, inl, Bool, false, ℕ, zero, suc, ◌+◌, ◌*◌, ◌<◌, ◌≤◌, List, [], ◌∷◌, ◌++◌, length, map, Option, Some, None, refl, sym, ap, ◌∙◌, subst, arith, append-nil}
use Rattle.std.specs.Prelude.{slice_get}
use Rattle.c_tree.specs.declared.program.VarRef.{VarRef}
use Rattle.c_tree.specs.declared.program.VarRef.TheVariants.{Scalar, Local, Static}
use Rattle.c_tree.specs.TypedTree.{ObjectTree}
use Rattle.tree_code.specs.WellFormedCode.{length_of}
use Rattle.tree_code.specs.WordHelpers.{uses_helper}
use Rattle.tree_code.specs.WordTree.{FunctionCode}
use Rattle.acc_code.specs.declared.operand.HelperName.{HelperName}
use Rattle.acc_code.specs.AccTree.{Helper, ItemList, FunctionItems}
use Rattle.acc_code.specs.Emittable.{IsPlaced, Throughout, RefersRight}
use Rattle.acc_select.specs.IsSelected.{IsEmittableFunction, called_parameters, object_cells}
use Rattle.mem_plan.specs.declared.data_plan.FramePlan.{FramePlan}
use Rattle.c25_isa.specs.declared.instruction.Instr.TheVariants.{Call as CallInstr}
use Rattle.c25_isa.specs.State as machine
use Rattle.c25_isa.specs.State.{Memory}
use Rattle.c25_isa.specs.CodeAt.{StandsAt}
use Rattle.c25_isa.specs.Leads.{Leads}
use Rattle.c25_isa.specs.Pieces.{items_size, ItemsAt}
use Rattle.c25_isa.proofs.Leads.{leads_on}
use Rattle.c25_code.specs.Returns as entries
use Rattle.c25_code.specs.Work.{Work, calm}
use Rattle.c25_code.specs.Straight.{code_size}
use Rattle.c25_code.specs.Items.{no_change, plain_items, entry_code}
use Rattle.c25_code.proofs.Items.{plain_items-size, items_size-append, items_front, code_of_items}
use Rattle.c25_code.proofs.Returns.{Goes, enters_by}
use Rattle.ir_semantics.specs.Parts.{Res, Gives, Finished, TooMany, Fails, after, Does, Flow, Next, Broke, Continued, Returned}
use Rattle.ir_semantics.specs.Outside.{Places, address_of}
use Rattle.ir_semantics.specs.AccRows.{Gone, low_half}
use Rattle.ir_semantics.specs.AccRun.{Machine, Context, run, cells_of, entered, left, at_most_low, back, called, call_within}
use Rattle.frame_emit.specs.emit_control.Cuts.{begun, cut, function_items}
use Rattle.frame_emit.specs.emit_control.Flow.{body_entries}
use Rattle.frame_emit.specs.emit_control.Settings.{Setting, name_or_none, function_name}
use Rattle.frame_emit.specs.Emitted.{setting_of}
use Rattle.emit_proof.specs.Calls.{StandsIn}
use Rattle.emit_proof.proofs.Words.{cut_word, body_finishes}
use Rattle.image_proof.specs.PlanPlaces.{places_of}
use Rattle.emit_proof.specs.Sites.{Site, IsSite, Beside, with_stack}
use Rattle.emit_proof.specs.Arrivals.{Begun, ComesTo, ComesToEnd, StillRuns, MeetsCall}
use Rattle.emit_proof.specs.Entries.{EntriesAt}
use Rattle.emit_proof.specs.Code.{IsPresent, HelperStands, ItemStands, CallsMeet, CodeStands}
use Rattle.emit_proof.proofs.OperationRunning.{runs_meet}
use Rattle.emit_proof.proofs.Labelling.{label_from, function_stands}
use Rattle.emit_proof.proofs.LabelDispatching.{dispatch_arrives}
use Rattle.emit_proof.proofs.Clears.{wipes_meet}
use Rattle.emit_proof.specs.Bodies.{MeetsBody}
use Rattle.image_proof.specs.Emissions.{Emission, IsEmission}
use Rattle.image_proof.specs.Active.{AreActive, back_in, back_of}
use Rattle.image_proof.specs.ActiveSites.{parameters_of, site_of}
use Rattle.image_proof.specs.Kept.{IsKept, kept_for, stack_in}
use Rattle.image_proof.proofs.Sites.{is_site, setting_places, present_address}
use Rattle.image_proof.proofs.Facts.{called_active, caller_stack, counts_same, present_ram}
use Rattle.image_proof.proofs.Keeping.{back_within, keeps_on}
use Rattle.image_proof.proofs.Returning.{site_returns}
use Rattle.image_proof.proofs.Ways.{few_active, active_there}
use Rattle.image_proof.specs.Usable.{IsUsableItem}
use Rattle.image_proof.proofs.Items.{items_stand}

abbrev pub names_in : Emission → List (List ℕ)
names_in e = map (λ (g : FunctionItems). g.name) e.items

abbrev pub setting_in : Emission → FunctionCode → FramePlan → List (List ℕ) → Setting
setting_in e code frame lists = setting_of e.plan e.step (parameters_of e) (names_in e) code frame lists

-- the law of bodies
abbrev pub BodiesMeet : Type 0
BodiesMeet = (start : machine.State) (program : Memory) (names : List ℕ → ℕ) (m : Setting) (k : Site) (marks label : ℕ → ℕ) (caller : Site) (back : ℕ) (c : Context) (cells : VarRef → Option ℕ) (parameters : ℕ → Option ℕ) (scalars : ℕ) (helps breaks continues cases : Bool)
    (body : ItemList) (pc : ℕ) (v : Machine) (w : Work) (b : Begun) → CodeStands start program names m k marks label caller back c cells parameters → Throughout (RefersRight scalars cells parameters helps) body → scalars ≡ length k.places.scalars
    → IsPlaced breaks continues cases body → Throughout (ItemStands start program names m k) body → EntriesAt program marks names m label pc begun (body_entries body) → Leads b.steps start (calm program pc w) v.outside.outs → b.work ≡ v.work → Beside k v w
    → MeetsBody start program caller b back c.limit (run c body v)

-- a function of the program stands at the address of its name
pub record FunctionAt (e : Emission) (start : machine.State) (program : Memory) (names : List ℕ → ℕ) (g : ℕ) : Type 0 where
  pub code : FunctionCode
  pub items : FunctionItems
  pub frame : FramePlan
  pub lists : List (List ℕ)
  pub marks : ℕ → ℕ
  pub is_code : slice_get e.code.functions g ≡ Some code
  pub is_items : slice_get e.items g ≡ Some items
  pub is_frame : slice_get e.plan.frames g ≡ Some frame
  pub is_lists : slice_get e.arrangements g ≡ Some lists
  pub at : ItemsAt program marks names (names items.name) (function_items (setting_in e code frame lists) items.body)
  pub fits : names items.name + items_size (function_items (setting_in e code frame lists) items.body) ≤ 65536
  pub usable : Throughout IsUsableItem items.body
  pub named : name_or_none (slice_get (names_in e) g) ≡ items.name
  pub short : (v : VarRef) (n : ℕ) → cells_of code.locals v ≡ Some n → n < 32768
  pub scalars : (active : List ℕ) (kept : ℕ → Option ℕ) (stack : List ℕ) → items.scalars ≡ length (site_of e (g ∷ active) kept stack).places.scalars
  pub helpers : (m : Setting) (k : Site) (name : HelperName) → StandsIn (Helper name) items.body → HelperStands start program names m k name

-- an object of a name that code may clear is one that it may name
cells_present : (code : FunctionCode) (cells : VarRef → Option ℕ) → ((n : ℕ) → IsPresent (cells_of code.locals (Local n)) → IsPresent (cells (Local n))) → (v : VarRef) → IsPresent (cells_of code.locals v) → IsPresent (cells v)
cells_present code cells so (Scalar n) h = absurd h
cells_present code cells so (Local n) h = so n h
cells_present code cells so (Static n) h = absurd h

same_cells : (e : Emission) (code : FunctionCode) (n : ℕ) → IsPresent (cells_of code.locals (Local n)) → IsPresent (object_cells e.code code (Local n))
same_cells e code n h = by code.locals n h
  where
    by : (xs : List ObjectTree) (n : ℕ) → IsPresent (cells_of xs (Local n)) → IsPresent (length_of (slice_get xs n))
    by [] n h = absurd h
    by (x ∷ xs) zero h = tt
    by (x ∷ xs) (suc n) h = by xs n h

module _ (e : Emission) (is : IsEmission e) (start : machine.State) (program : Memory) (names : List ℕ → ℕ) (n : ℕ) where
  abbrev q : Places
  q = places_of e.plan

  abbrev calls_within : ℕ → ℕ → Does Machine Flow
  calls_within depth = call_within q e.code.functions e.items n depth

  -- a call from where these functions are active comes back behind itself
  abbrev CallMeets : ℕ → List ℕ → (ℕ → Option ℕ) → ℕ → Type 0
  CallMeets depth active kept g =
      (b : Begun) (v : Machine) (w : Work) (pc : ℕ) → Leads b.steps start (calm program pc w) v.outside.outs → b.work ≡ v.work → Beside (site_of e active kept []) v w
      → StandsAt program pc (CallInstr (names (name_or_none (slice_get (names_in e) g))) no_change) → pc + 2 < 65536 → MeetsCall start program (site_of e active kept []) b (pc + 2) 0 n (calls_within depth g v)

  -- what laws say of entries and returns
  abbrev pub Enters : Type 0
  Enters = (g : ℕ) (active : List ℕ) (kept : ℕ → Option ℕ) (code : FunctionCode) (ret : ℕ) (v : Machine) (w : Work) → AreActive e (g ∷ active) → IsKept e active kept → slice_get e.code.functions g ≡ Some code
      → Beside (site_of e active kept []) v w → ret < 65536 → Beside (site_of e (g ∷ active) (kept_for e g active v.frame ret kept) (stack_in (back_of e g) ret [])) (entered q g code v) (entries.entered (back_of e g) ret w)

  pub record Leaves : Type 0 where
    pub returned : (g : ℕ) (active : List ℕ) (kept : ℕ → Option ℕ) (held : List ℕ) (code : FunctionCode) (ret : ℕ) (v t : Machine) (w u : Work) → AreActive e (g ∷ active) → IsKept e active kept → slice_get e.code.functions g ≡ Some code
        → Beside (site_of e active kept []) v w → Beside (with_stack [] (site_of e (g ∷ active) (kept_for e g active v.frame ret kept) held)) t u → Beside (site_of e active kept []) (left q g code (at_most_low (low_half t.registers.acc)) v.frame t) u
    pub ended : (g : ℕ) (active : List ℕ) (kept : ℕ → Option ℕ) (held : List ℕ) (code : FunctionCode) (ret : ℕ) (v t : Machine) (w u : Work) → AreActive e (g ∷ active) → IsKept e active kept → slice_get e.code.functions g ≡ Some code
        → Beside (site_of e active kept []) v w → Beside (with_stack [] (site_of e (g ∷ active) (kept_for e g active v.frame ret kept) held)) t u → Beside (site_of e active kept []) (left q g code Gone v.frame t) u

  module _ (bodies_meet : BodiesMeet) (enters : Enters) (leaves : Leaves) (depth g : ℕ) (active : List ℕ) (are : AreActive e (g ∷ active)) (kept : ℕ → Option ℕ) (keeps : IsKept e active kept) (f : FunctionAt e start program names g)
      (inner : (more : ℕ → Option ℕ) → IsKept e (g ∷ active) more → (h : ℕ) → AreActive e (h ∷ g ∷ active) → CallMeets depth (g ∷ active) more h)
      (b : Begun) (v : Machine) (w : Work) (pc : ℕ) (came : Leads b.steps start (calm program pc w) v.outside.outs) (worked : b.work ≡ v.work) (beside : Beside (site_of e active kept []) v w)
      (call : StandsAt program pc (CallInstr (names f.items.name) no_change)) (fits : pc + 2 < 65536) where
    abbrev m : Setting
    m = setting_in e f.code f.frame f.lists

    abbrev entry : ℕ
    entry = names f.items.name

    abbrev more : ℕ → Option ℕ
    more = kept_for e g active v.frame (pc + 2) kept

    abbrev held : List ℕ
    held = stack_in (back_of e g) (pc + 2) []

    abbrev k : Site
    k = site_of e (g ∷ active) more held

    abbrev caller : Site
    caller = with_stack [] k

    abbrev first : ℕ
    first = entry + items_size (plain_items (entry_code m.back))

    abbrev label : ℕ → ℕ
    label = label_from program f.marks names m first begun (body_entries f.items.body)

    abbrev c : Context
    c = record { limit = n; calls = calls_within depth; at = address_of q g; locals = f.code.locals }

    emittable : IsEmittableFunction e.code f.code f.items
    emittable = is.emittable.each g f.code f.items f.is_code f.is_items

    back_same : m.back ≡ back_of e g
    back_same = sym (ap back_in f.is_frame)

    keeps_more : IsKept e (g ∷ active) more
    keeps_more = keeps_on e is g active are v.frame (pc + 2) kept keeps

    site : IsSite k
    site = is_site e is (g ∷ active) are more keeps_more held

    present_so : (x : VarRef) → IsPresent (object_cells e.code f.code x) → c.at x ≡ k.at x
    present_so x there = present_address e is g active f.code f.is_code x there

    few_held : length held ≤ 1
    few_held = by (back_of e g)
      where
        by : (o : Option ℕ) → length (stack_in o (pc + 2) []) ≤ 1
        by None = omega arith
        by (Some a) = omega arith

    calls_meet : CallsMeet start program names m k (called_parameters e.code f.code) n c.calls
    calls_meet = record {
      by = λ h bh t u pch present came_h worked_h beside_h at_h fits_h.
          let active_h = called_active e g active f.code f.is_code are h present in
          let empty : held ≡ [] = caller_stack e is h g active active_h (pc + 2) [] in
          subst (λ s. MeetsCall start program (site_of e (g ∷ active) more s) bh (pch + 2) 0 n (c.calls h t)) (sym empty)
          (inner more keeps_more h active_h bh t u pch came_h worked_h (subst (λ s. Beside (site_of e (g ∷ active) more s) t u) empty beside_h) at_h fits_h);
    }

    code_stands : CodeStands start program names m k f.marks label caller (pc + 2) c (object_cells e.code f.code) (called_parameters e.code f.code)
    code_stands = record {
      site = site;
      places = setting_places e g active f.code f.frame f.lists (names_in e) f.is_code f.is_frame f.is_lists;
      lengths = refl;
      addresses = present_so;
      counts = counts_same e g active f.code f.is_code;
      room = few_held;
      runs = runs_meet k site;
      calls = calls_meet;
      returns = site_returns e is g active are v.frame kept [] (pc + 2) start program names m back_same (omega arith);
      dispatch = record { by = λ cs l behind at u are_words range at_items jumps. dispatch_arrives program f.marks names label cs l behind at u are_words range at_items jumps };
      wipe = wipes_meet start program names m k f.marks label c site (setting_places e g active f.code f.frame f.lists (names_in e) f.is_code f.is_frame f.is_lists) refl
          (λ x there. present_so x (cells_present f.code (object_cells e.code f.code) (same_cells e f.code) x there)) f.short;
    }

    -- the function is entered behind its entry code
    code_size_same : code_size (entry_code m.back) ≡ items_size (plain_items (entry_code m.back))
    code_size_same = sym (plain_items-size (entry_code m.back))

    below : first < 65536
    below =
        let word = cut_word m (body_entries f.items.body) begun (body_finishes f.items.body) tt in
        let all = f.fits in
        omega (arith, word, all, items_size-append (plain_items (entry_code m.back)) (cut m begun (body_entries f.items.body)))

    goes : Goes program pc w first (entries.entered (back_of e g) (pc + 2) w)
    goes =
        let empty : length w.stack ≡ 0 = ap length beside.stack in
        subst (λ o. Goes program pc w first (entries.entered o (pc + 2) w)) back_same
        (subst (λ x. Goes program pc w (entry + x) (entries.entered m.back (pc + 2) w)) code_size_same
        (enters_by program m.back pc entry w call fits (omega (arith, empty)) (code_of_items program f.marks names (entry_code m.back) entry (items_front program f.marks names (plain_items (entry_code m.back)) _ entry f.at)) (omega (arith, below, code_size_same))
        (λ a at. let low = (back_within e is g active are a (sym back_same ∙ at)).0 in omega (arith, low))))

    abbrev t0 : Machine
    t0 = entered q g f.code v

    abbrev w0 : Work
    w0 = entries.entered (back_of e g) (pc + 2) w

    abbrev b0 : Begun
    b0 = record { steps = b.steps + goes.steps; work = v.work + 5 }

    came_in : Leads b0.steps start (calm program first w0) t0.outside.outs
    came_in = subst (λ outs. Leads (b.steps + goes.steps) start (calm program first w0) outs) (append-nil v.outside.outs) (leads_on b.steps goes.steps _ _ _ v.outside.outs [] came goes.leads)

    beside_in : Beside k t0 w0
    beside_in = enters g active kept f.code (pc + 2) v w are keeps f.is_code beside (omega (arith, fits))

    body_meets : MeetsBody start program caller b0 (pc + 2) n (run c f.items.body t0)
    body_meets =
        bodies_meet start program names m k f.marks label caller (pc + 2) c (object_cells e.code f.code) (called_parameters e.code f.code) f.items.scalars (uses_helper f.code.body) false false false f.items.body first t0 w0 b0 code_stands
        emittable.body.refers (f.scalars active more held) emittable.body.placed
        (items_stand start program names m k f.items.scalars (object_cells e.code f.code) (called_parameters e.code f.code) (uses_helper f.code.body) (λ x there. present_ram e is g active are f.code f.is_code x there) f.items.body f.usable emittable.body.refers (f.helpers m k))
        (function_stands program f.marks names m f.items.body entry emittable.body.placed f.at f.fits) came_in refl beside_in

    -- what comes back
    came_back : (t u : Machine) → t.outside.outs ≡ u.outside.outs → t.work ≡ u.work → (h : ComesTo start program caller b0 (pc + 2) 1 8 t) → ((x : Work) → Beside caller t x → Beside (site_of e active kept []) u x) → ComesTo start program (site_of e active kept []) b (pc + 2) 1 0 u
    came_back t u outs work h left_so =
        let few = goes.few in
        let within = h.within in
        let least = h.least_steps in
        record {
          steps = h.steps;
          work = h.work;
          came = subst (λ o. Leads h.steps start (calm program (pc + 2) h.work) o) outs h.came;
          beside = left_so h.work h.beside;
          least_steps = omega (arith, least);
          within = omega (arith, within, few, work, worked);
        }

    to_call : (r : Res Machine Flow) → MeetsBody start program caller b0 (pc + 2) n r → MeetsCall start program (site_of e active kept []) b (pc + 2) 0 n (after r (back q g f.code v.frame))
    to_call (Gives Next t) h = came_back t (left q g f.code Gone v.frame t) refl refl h (λ x inside. leaves.ended g active kept held f.code (pc + 2) v t w x are keeps f.is_code beside inside)
    to_call (Gives Broke t) h = h
    to_call (Gives Continued t) h = h
    to_call (Gives Returned t) h = came_back t (left q g f.code (at_most_low (low_half t.registers.acc)) v.frame t) refl refl h (λ x inside. leaves.returned g active kept held f.code (pc + 2) v t w x are keeps f.is_code beside inside)
    to_call (Finished ending outs total) h =
        let few = goes.few in
        let within = h.within in
        record { steps = h.steps; state = h.state; came = h.came; over = h.over; within = omega (arith, within, few, worked) }
    to_call (TooMany outs) h = h
    to_call (Fails outs) h = h

    pub one_call : MeetsCall start program (site_of e active kept []) b (pc + 2) 0 n (called (calls_within depth) q n g (Some f.code) (Some f.items) v)
    one_call = to_call (run c f.items.body t0) body_meets

  -- at every depth that the calls of the program may need
  pub call_meets : BodiesMeet → Enters → Leaves → ((g : ℕ) → g < length e.code.functions → FunctionAt e start program names g) → (depth : ℕ) (active : List ℕ) (kept : ℕ → Option ℕ) (g : ℕ) → AreActive e (g ∷ active) → IsKept e active kept
      → length e.code.functions < depth + length active → CallMeets depth active kept g
  call_meets bodies_meet enters leaves stands zero active kept g are keeps enough b v w pc came worked beside at fits =
      let few : length (g ∷ active) ≤ length e.code.functions = few_active e is (g ∷ active) are in
      absurd (omega (arith, few, enough))
  call_meets bodies_meet enters leaves stands (suc depth) active kept g are keeps enough b v w pc came worked beside at fits =
      let f = stands g (active_there e is (g ∷ active) are g (inl refl)) in
      subst (λ code. MeetsCall start program (site_of e active kept []) b (pc + 2) 0 n (called (calls_within depth) q n g code (slice_get e.items g) v)) (sym f.is_code)
      (subst (λ items. MeetsCall start program (site_of e active kept []) b (pc + 2) 0 n (called (calls_within depth) q n g (Some f.code) items v)) (sym f.is_items)
      (one_call bodies_meet enters leaves depth g active are kept keeps f (λ more keeps_more h are_h. call_meets bodies_meet enters leaves stands depth (g ∷ active) more h are_h keeps_more (omega (arith, enough)))
      b v w pc came worked beside (subst (λ name. StandsAt program pc (CallInstr (names name) no_change)) f.named at) fits))
