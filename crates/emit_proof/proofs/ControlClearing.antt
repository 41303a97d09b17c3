-- A Clear, wherever its code stands.
use Rattle.std.proofs.Common.{◌≡◌, ℕ, zero, suc, ◌+◌, ◌*◌, ◌-◌, Bool, true, false, List, ◌∷◌, Option, Some, None, refl, sym, subst, arith}
use Rattle.std.specs.Prelude.{◌==◌, if◌then◌else◌}
use Rattle.word_base.specs.Ports.{Outputs}
use Rattle.c_tree.specs.declared.program.VarRef.{VarRef}
use Rattle.acc_code.specs.AccTree.{Clear}
use Rattle.c25_isa.specs.Pieces.{items_size}
use Rattle.c25_isa.specs.Leads.{Leads}
use Rattle.c25_code.specs.Work.{Work, calm}
use Rattle.ir_semantics.specs.Parts.{Res, Gives, Finished, TooMany, Fails, Does, after, Flow}
use Rattle.ir_semantics.specs.Outside.{Cell, Nowhere, Unwritten, Holds, cell_address}
use Rattle.ir_semantics.specs.AccRun.{Machine, run_item, write_cell, clear_cells, cleared, clear, cells_of, forgetting, without_scratch}
use Rattle.emit_control.specs.declared.setting.Words.{Words}
use Rattle.emit_control.specs.Entries.{Entry, Wipe}
use Rattle.emit_control.specs.Cuts.{State, entry_items, behind_entry, behind_wipe, behind_place, shut, naming}
use Rattle.emit_control.specs.Settings as setting
use Rattle.emit_proof.specs.Arrivals.{Begun}
use Rattle.emit_proof.specs.Entries.{Passes}
use Rattle.emit_proof.proofs.Grounds.{Ground, Exits, Founded, Standing, Arrived, begun_at, MeetsAt}
use Rattle.emit_proof.proofs.Arriving.{comes_here, goes_on}
use Rattle.emit_proof.proofs.Skipping.{place_passes}
use Rattle.emit_proof.proofs.Calling.{going_on}

-- it puts nothing, and neither ends nor goes on
abbrev Quiet : Outputs → Res Machine Flow → Type 0
Quiet outs (Gives flow v) = v.outside.outs ≡ outs
Quiet outs (Finished ending put total) = ⊥
Quiet outs (TooMany put) = ⊥
Quiet outs (Fails put) = put ≡ outs

quiet_then : (outs : Outputs) (f : Flow → Does Machine Flow) → ((flow : Flow) (v : Machine) → v.outside.outs ≡ outs → Quiet outs (f flow v)) → (r : Res Machine Flow) → Quiet outs r → Quiet outs (after r f)
quiet_then outs f more (Gives flow v) h = more flow v h
quiet_then outs f more (Finished ending put total) h = h
quiet_then outs f more (TooMany put) h = h
quiet_then outs f more (Fails put) h = h

write_quiet : (outs : Outputs) (cell : Cell) (a x : ℕ) (v : Machine) → v.outside.outs ≡ outs → Quiet outs (write_cell cell a x v)
write_quiet outs Nowhere a x v h = h
write_quiet outs Unwritten a x v h = h
write_quiet outs (Holds y) a x v h = h

cells_quiet : (outs : Outputs) (a i n : ℕ) (v : Machine) → v.outside.outs ≡ outs → Quiet outs (clear_cells a i n v)
cells_quiet outs a i zero v h = h
cells_quiet outs a i (suc n) v h =
    quiet_then outs (λ _. clear_cells a (suc i) n) (λ flow u e. cells_quiet outs a (suc i) n u e) (write_cell (v.outside.memory (cell_address a i)) (cell_address a i) 0 v)
    (write_quiet outs (v.outside.memory (cell_address a i)) (cell_address a i) 0 v h)

clear_quiet : (n a : Option ℕ) (from : ℕ) (v : Machine) → Quiet v.outside.outs (clear n a from v)
clear_quiet None a from v = refl
clear_quiet (Some n) None from v = refl
clear_quiet (Some n) (Some a) from v =
    let u : Machine = without_scratch (record v { work = v.work + (9 + 64 * n) }) in
    quiet_then v.outside.outs forgetting (λ flow x e. e) (after (clear_cells a from (n - from) u) cleared)
    (quiet_then v.outside.outs cleared (λ flow x e. e) (clear_cells a from (n - from) u) (cells_quiet v.outside.outs a from (n - from) u refl))

wipe_passes : (m : setting.Setting) (words : Words) (l : ℕ) (s : State) → Passes (behind_wipe m words l s).before
wipe_passes m words l s = by (words.count == 0)
  where
    by : (none : Bool) → Passes (if none then behind_place (s.named l) l s else shut (naming l s)).before
    by true = place_passes (s.named l) s.before s.named l
    by false = tt

module _ (g : Ground) (f : Founded g) (o : VarRef) (from l pc : ℕ) (es : List Entry) (s : Standing g pc (Wipe o from l ∷ es)) where
  abbrev pub behind_clear : ℕ
  behind_clear = pc + items_size (entry_items g.setting s.state (Wipe o from l))

  pub standing_behind : Standing g behind_clear es
  standing_behind = record { state = behind_entry g.setting s.state (Wipe o from l); at = s.at.1; lead = s.lead.1; passes = wipe_passes g.setting (setting.cells_of g.setting o from) l s.state }

  pub clear_meets : (e : Exits) (b : Begun) (v : Machine) (w : Work) → Arrived g b pc v w → MeetsAt g b (going_on behind_clear e) 0 0 (run_item g.context (Clear o from) v)
  clear_meets e b v w h = by (clear (cells_of g.context.locals o) (g.context.at o) from v) refl (clear_quiet (cells_of g.context.locals o) (g.context.at o) from v)
    where
      by : (r : Res Machine Flow) → clear (cells_of g.context.locals o) (g.context.at o) from v ≡ r → Quiet v.outside.outs r → MeetsAt g b (going_on behind_clear e) 0 0 r
      by (Gives flow u) is quiet =
          let q = f.wipe.by o from l pc s.state v u w flow s.at.0 s.passes h.beside is in
          let there = goes_on g b q.1.steps pc behind_clear v u w q.1.work h q.1.leads.leads q.1.outputs q.1.beside in
          subst (λ x. MeetsAt g b (going_on behind_clear e) 0 0 (Gives x u)) (sym q.0) (comes_here g b (begun_at (b.steps + q.1.steps) u) (record { address = behind_clear; reached = true }) 0 0 u q.1.work refl (omega arith) (omega (arith, q.1.within, h.work)) there)
      by (Finished ending put total) is quiet = absurd quiet
      by (TooMany put) is quiet = absurd quiet
      by (Fails put) is quiet = record { steps = b.steps; state = calm g.program pc w; came = subst (Leads b.steps g.start (calm g.program pc w)) (sym quiet) h.came; long = omega arith }
