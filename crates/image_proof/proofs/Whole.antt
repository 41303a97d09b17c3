-- A program from a reset: the startup, the call of `main`, and the end.
use Rattle.std.proofs.Common.{◌≡◌, ℕ, zero, suc, ◌+◌, ◌*◌, ◌≤◌, Bool, true, false, List, [], ◌∷◌, length, map, Option, Some, None, refl, sym, ap, ◌∙◌, subst, arith, append-nil}
use Rattle.std.specs.Prelude.{slice_get, if◌then◌else◌}
use Rattle.std.specs.Str.{bytes_eq}
use Rattle.std.proofs.lemmas.Option.{same_Some, slice_get-get_or}
use Rattle.std.proofs.lemmas.Slice.Eq.{bytes_eq-Decides}
use Rattle.word_base.specs.declared.outcome.Ending.{Ending}
use Rattle.word_base.specs.declared.outcome.Ending.TheVariants.{Returned}
use Rattle.word_base.specs.Ports.{Input, IsInput, Outputs, Prefix}
use Rattle.c_tree.specs.SourceRun.{main_name}
use Rattle.c_tree.specs.TypedOfWords.{StartsWithWords}
use Rattle.tree_code.specs.WordTree.{FunctionCode}
use Rattle.c25_isa.specs.declared.instruction.Instr.TheVariants.{Call as CallInstr}
use Rattle.c25_isa.specs.Image.{Contents}
use Rattle.c25_isa.specs.State as machine
use Rattle.c25_isa.specs.State.{Start, IsStart, BeginsWith}
use Rattle.c25_isa.specs.Step.{wrap16, step, Over}
use Rattle.c25_isa.specs.CodeAt.{StandsAt}
use Rattle.c25_isa.specs.Leads.{Leads}
use Rattle.c25_isa.specs.MachineRun as runs
use Rattle.c25_isa.specs.MachineRun.{reset, run_from, machine_run, outputs_reached}
use Rattle.c25_isa.specs.Pieces.{Piece, Linked, PiecesFit}
use Rattle.c25_isa.proofs.Leads.{leads_on, leads_to_end}
use Rattle.c25_code.specs.Work.{calm}
use Rattle.c25_code.specs.Items.{no_change}
use Rattle.c25_code.specs.Links.{AllStand, address_of, marks_of}
use Rattle.c25_code.proofs.Calm.{calmed}
use Rattle.c25_code.proofs.Jumps.{calm_idle_ends}
use Rattle.c25_code.proofs.PiecesStand.{image_stands}
use Rattle.c25_code.proofs.Startups.{first_stands}
use Rattle.c25_helper.specs.Answering.{AnswersCalls}
use Rattle.ir_semantics.specs.Parts.{Res, Gives, Finished, TooMany, Fails, Flow, Next, Broke, Continued, Returned as Came_back}
use Rattle.ir_semantics.specs.AccRows.{Acc, Gone, Low, Whole, low_half}
use Rattle.ir_semantics.specs.AccRun.{Machine, run_items}
use Rattle.ir_semantics.specs.Keeps.{WorkOutcome, Ended, More, Undefined, acc_outcome, returned_with, acc_run}
use Rattle.ir_semantics.specs.TreeRun.{main_from}
use Rattle.frame_emit.specs.emit_control.Settings.{name_or_none}
use Rattle.frame_emit.specs.Startup.{startup_piece, static_words}
use Rattle.emit_proof.specs.Registers.{AccAlike}
use Rattle.image_proof.specs.PlanPlaces.{places_of}
use Rattle.emit_proof.specs.Arrivals.{Begun, ComesTo, MeetsCall}
use Rattle.image_proof.specs.Emissions.{Emission, IsEmission}
use Rattle.image_proof.specs.ActiveSites.{site_of}
use Rattle.image_proof.specs.Beginnings.{first_state, nothing_kept}
use Rattle.image_proof.proofs.Beginning.{first_beside}
use Rattle.image_proof.proofs.Facts.{main_there}
use Rattle.image_proof.proofs.Sites.{nothing_is_kept}
use Rattle.image_proof.specs.Starts.{StartsRight}
use Rattle.image_proof.proofs.Startups.{startup_starts}
use Rattle.image_proof.specs.Keeping.{MachineKeeps, own_pieces, all_pieces, AreUsable}
use Rattle.image_proof.proofs.ImageCalls.{BodiesMeet, Enters, Leaves, call_meets, names_in}
use Rattle.image_proof.proofs.ImageStanding.{startup_fits, function_at, names_same}

-- `main` among functions: there is one, and the first of the name is it
main_named : (k i : ℕ) (fs : List FunctionCode) (g : FunctionCode) → slice_get fs i ≡ Some g → g.name ≡ main_name → (j : ℕ) × (main_from k fs ≡ k + j) × (name_or_none (slice_get (map (λ (f : FunctionCode). f.name) fs) j) ≡ main_name)
main_named k i [] g there is = absurd cc
main_named k i (f ∷ fs) g there is = by (bytes_eq f.name main_name) refl i there (λ n at. main_named (suc k) n fs g at is)
  where
    by : (b : Bool) → bytes_eq f.name main_name ≡ b → (i : ℕ) → slice_get (f ∷ fs) i ≡ Some g → ((n : ℕ) → slice_get fs n ≡ Some g → (j : ℕ) × (main_from (suc k) fs ≡ suc k + j) × (name_or_none (slice_get (map (λ (f : FunctionCode). f.name) fs) j) ≡ main_name))
        → (j : ℕ) × ((if b then k else main_from (suc k) fs) ≡ k + j) × (name_or_none (slice_get (map (λ (f : FunctionCode). f.name) (f ∷ fs)) j) ≡ main_name)
    by true e i there rest = (0, omega arith, (bytes_eq-Decides f.name main_name).0 e)
    by false e zero there rest = absurd (not_both (sym e ∙ (bytes_eq-Decides f.name main_name).1 (ap (λ (x : FunctionCode). x.name) (same_Some f g there) ∙ is)))
      where
        not_both : false ≡ true → ⊥
        not_both q = cc
    by false e (suc n) there rest = let more = rest n there in let at = more.1 in (suc more.0, omega (arith, at), more.2)

-- what a run reached
reached : (b : Start) (input : Input) (m : ℕ) (s : machine.State) (outs : Outputs) → Leads m (reset b input) s outs → machine_run b input m ≡ runs.Running outs
reached b input m s outs h = let same : m ≡ m + 0 = omega arith in ap (λ k. run_from k (reset b input) []) same ∙ h.by 0 []

ended_at : (b : Start) (input : Input) (m : ℕ) (s : machine.State) (outs : Outputs) (ending : Ending) → Leads m (reset b input) s outs → step s ≡ Over ending → machine_run b input (m + 1) ≡ runs.Ended outs ending
ended_at b input m s outs ending h over = leads_to_end m (reset b input) s outs ending h over

-- outputs are a beginning of themselves
own_prefix : (outs others : Outputs) → others ≡ outs → Prefix outs others
own_prefix outs others same = record { rest = []; is = same ∙ sym (append-nil outs) }

-- the word that is known of the accumulator is its low half
answer : (a : Acc) (acc x : ℕ) → AccAlike a acc → low_half a ≡ Some x → wrap16 acc ≡ x
answer Gone acc x alike is = absurd cc
answer (Low y) acc x alike is = alike ∙ same_Some y x is
answer (Whole z) acc x alike is = ap wrap16 alike ∙ same_Some (wrap16 z) x is

module _ (e : Emission) (is : IsEmission e) (usable : AreUsable e) (words : StartsWithWords e.code.statics) (bodies : BodiesMeet) where
  abbrev main : ℕ
  main = main_from 0 e.code.functions

  main_is : name_or_none (slice_get (names_in e) main) ≡ main_name
  main_is =
      let m = is.code.main in
      let there : slice_get e.code.functions m.0 ≡ Some m.1 = slice_get-get_or e.code.functions m.0 m.1 m.2 ∙ ap Some m.3 in
      let found = main_named 0 m.0 e.code.functions m.1 there m.4.name in
      let at : main ≡ found.0 = let same = found.1 in omega (arith, same) in
      ap (λ ns. name_or_none (slice_get ns main)) (sym (names_same e is)) ∙ ap (λ k. name_or_none (slice_get (map (λ (f : FunctionCode). f.name) e.code.functions) k)) at ∙ found.2

  module _ (routines : List Piece) (answers : AnswersCalls (own_pieces e) routines) (image : Contents) (linked : Linked (all_pieces e routines) image) (ranges : PiecesFit (all_pieces e routines)) (small : length image.words ≤ 65536) (b : Start) (starts : IsStart b) (begins : BeginsWith image.words b) (input : Input) (given : IsInput input) (n : ℕ) (enters : Enters e is (reset b input) b.program (address_of linked.place (all_pieces e routines)) n) (leaves : Leaves e is (reset b input) b.program (address_of linked.place (all_pieces e routines)) n) where
    abbrev names : List ℕ → ℕ
    names = address_of linked.place (all_pieces e routines)

    stand : AllStand b.program linked.place (all_pieces e routines)
    stand = image_stands b (all_pieces e routines) image linked begins ranges small

    started : StartsRight b input e.code e.plan (names main_name)
    started =
        let first = first_stands b.program linked.place (startup_piece e.plan.statics e.code.statics) _ linked.first (startup_fits e.plan.statics e.code.statics) stand in
        startup_starts b input (marks_of linked.place (all_pieces e routines) (startup_piece e.plan.statics e.code.statics).name) names e.code e.arrangements e.plan is.planned is.code words starts given first.0 first.1

    abbrev at : ℕ
    at = started.arrives.start

    abbrev begun : Begun
    begun = record { steps = 2 + started.steps; work = 0 }

    came : Leads begun.steps (reset b input) (calm b.program at started.work) []
    came = leads_on 2 started.steps _ _ _ [] [] (calmed (reset b input) refl started.arrives.calms (omega arith)) started.arrives.leads

    meets : MeetsCall (reset b input) b.program (site_of e [] nothing_kept []) begun (at + 2) 0 n (run_items (places_of e.plan) e.code e.items n (first_state e input))
    meets =
        let idle = started.arrives.called.1.0 in
        let room = idle.room in
        call_meets e is (reset b input) b.program names n bodies enters leaves (λ g less. function_at e is routines answers linked.place usable (reset b input) b.program stand g less) (suc (length e.code.functions)) [] nothing_kept main (main_there e is, tt) (nothing_is_kept e []) (omega arith)
        begun (first_state e input) started.work at came refl (first_beside e is input started.work started.range started.sxm started.stack started.input started.ram)
        (subst (λ name. StandsAt b.program at (CallInstr (names name) no_change)) (sym main_is) started.arrives.called.0) (omega (arith, room))

    -- the end, at IDLE
    abbrev Kept : WorkOutcome → Type 0
    Kept o = MachineKeeps o (machine_run b input) n (1000 + 16 * static_words e.code.statics)

    ended_kept : (outs : Outputs) (ending : Ending) (work m : ℕ) → m ≤ 1000 + 16 * static_words e.code.statics + 64 * work → machine_run b input m ≡ runs.Ended outs ending → Kept (Ended outs ending work)
    ended_kept outs ending work m few is_ended = record {
      ended = λ o x w q. (m, subst (λ k. m ≤ 1000 + 16 * static_words e.code.statics + 64 * k) (same_work q) few, is_ended ∙ same_end q);
      more = λ o q. cc;
      prefix = λ o q. cc;
    }
      where
        same_work : {o : Outputs} {x : Ending} {w : ℕ} → Ended outs ending work ≡ Ended o x w → work ≡ w
        same_work q = cc

        same_end : {o : Outputs} {x : Ending} {w : ℕ} → Ended outs ending work ≡ Ended o x w → runs.Ended outs ending ≡ runs.Ended o x
        same_end q = cc

    undefined_kept : (outs : Outputs) (m : ℕ) → machine_run b input m ≡ runs.Running outs → Kept (Undefined outs)
    undefined_kept outs m runs_on = record {
      ended = λ o x w q. cc;
      more = λ o q. cc;
      prefix = λ o q. (m, own_prefix o (outputs_reached (machine_run b input m)) (ap outputs_reached runs_on ∙ same_outs q));
    }
      where
        same_outs : {o : Outputs} → Undefined outs ≡ Undefined o → outs ≡ o
        same_outs q = cc

    returned_kept : (o : Option ℕ) (v : Machine) → low_half v.registers.acc ≡ o → ComesTo (reset b input) b.program (site_of e [] nothing_kept []) begun (at + 2) 1 0 v → Kept (returned_with o v)
    returned_kept None v is_none h = undefined_kept v.outside.outs h.steps (reached b input h.steps _ v.outside.outs h.came)
    returned_kept (Some x) v is_some h =
        let over = calm_idle_ends b.program (at + 2) h.work started.arrives.called.1.0 in
        let word : wrap16 h.work.acc ≡ x = answer v.registers.acc h.work.acc x h.beside.registers.acc is_some in
        let within = h.within in
        let few = started.few in
        ended_kept v.outside.outs (Returned x) v.work (h.steps + 1) (omega (arith, within, few)) (ended_at b input h.steps _ v.outside.outs (Returned x) h.came (over ∙ ap (λ w. Over (Returned w)) word))

    kept_by : (r : Res Machine Flow) → MeetsCall (reset b input) b.program (site_of e [] nothing_kept []) begun (at + 2) 0 n r → Kept (acc_outcome r)
    kept_by (Gives Next v) h = returned_kept (low_half v.registers.acc) v refl h
    kept_by (Gives Broke v) h = absurd h
    kept_by (Gives Continued v) h = absurd h
    kept_by (Gives Came_back v) h = absurd h
    kept_by (Finished ending outs total) h =
        let within = h.within in
        let few = started.few in
        ended_kept outs ending total (h.steps + 1) (omega (arith, within, few)) (ended_at b input h.steps h.state outs ending h.came h.over)
    kept_by (TooMany outs) h = record {
      ended = λ o x w q. cc;
      more = λ o q. (h.steps, h.long, reached b input h.steps h.state outs h.came ∙ same_more q);
      prefix = λ o q. cc;
    }
      where
        same_more : {o : Outputs} → More outs ≡ More o → runs.Running outs ≡ runs.Running o
        same_more q = cc
    kept_by (Fails outs) h = undefined_kept outs h.steps (reached b input h.steps h.state outs h.came)

    pub machine_keeps : Kept (acc_run (places_of e.plan) e.code e.items input n)
    machine_keeps = kept_by (run_items (places_of e.plan) e.code e.items n (first_state e input)) meets
