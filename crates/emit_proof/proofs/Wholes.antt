-- Lists and bodies, by what stands in program memory alone.
use Rattle.std.proofs.Common.{◌≡◌, ℕ, zero, suc, ◌<◌, Bool, true, List, [], ◌∷◌, refl, arith}
use Rattle.c25_code.specs.Work.{Work}
use Rattle.acc_code.specs.AccTree.{ItemList}
use Rattle.ir_semantics.specs.Parts.{Res, Gives, Finished, TooMany, Fails, Flow, Next, Broke, Continued, Returned}
use Rattle.ir_semantics.specs.AccRun.{Machine, run}
use Rattle.emit_control.specs.declared.ways.Ways.{Ways}
use Rattle.emit_control.specs.Entries.{Entry, Finish}
use Rattle.emit_control.specs.Flow.{emit, body_entries}
use Rattle.emit_control.specs.Cuts.{State, begun, behind_entry}
use Rattle.emit_proof.specs.Arrivals as arrivals
use Rattle.emit_proof.specs.Arrivals.{Begun, ComesTo, Meets}
use Rattle.emit_proof.specs.Entries.{Passes, BeginsAt}
use Rattle.emit_proof.specs.Bodies.{MeetsBody}
use Rattle.emit_proof.proofs.Grounds.{Ground, Founded, Exit, Exits, StandAt, AllLead, Arrived, Comes, MeetsAt, Suits, is_reached, jump_to}
use Rattle.emit_proof.proofs.Falling.{begins, finish_begins}
use Rattle.emit_proof.proofs.Lists.{list_meets}
use Rattle.emit_proof.proofs.Bodies.{with_end, ends_there, ends_of, named_ends, passing_ends, of_list}

abbrev addresses : Exits → arrivals.Exits
addresses e = record { onward = e.onward.address; broken = e.broken.address; continued = e.continued.address; back = e.back }

module _ (g : Ground) where
  to_address : (b : Begun) (x : Exit) (least slack : ℕ) (v : Machine) → Comes g b x least slack v → ComesTo g.start g.program g.site b x.address least slack v
  to_address b x least slack v c = record { steps = c.steps; work = c.work; came = c.came; beside = c.beside; least_steps = c.least_steps; within = c.within }

  to_addresses : (b : Begun) (e : Exits) (least slack : ℕ) (r : Res Machine Flow) → MeetsAt g b e least slack r → Meets g.start g.program g.site g.caller b (addresses e) least slack g.context.limit r
  to_addresses b e least slack (Gives Next v) h = to_address b e.onward least slack v h
  to_addresses b e least slack (Gives Broke v) h = to_address b e.broken 1 slack v h
  to_addresses b e least slack (Gives Continued v) h = to_address b e.continued 1 slack v h
  to_addresses b e least slack (Gives Returned v) h = h
  to_addresses b e least slack (Finished ending outs total) h = h
  to_addresses b e least slack (TooMany outs) h = h
  to_addresses b e least slack (Fails outs) h = h

  all_reached : g.finished ≡ true → (l : ℕ) → is_reached g.finished l ≡ true
  all_reached e zero = e
  all_reached e (suc l) = refl

  all_lead : g.finished ≡ true → (es : List Entry) (s : State) → AllLead g s es
  all_lead e [] s = tt
  all_lead e (x ∷ es) s = (record { jumps = λ l j. all_reached e l; end = λ q p. e }, all_lead e es (behind_entry g.setting s x))

  pub whole_list : (xs : ItemList) (ways : Ways) (base next pc : ℕ) (rest : List Entry) (s : State) (b : Begun) (v : Machine) (w : Work) → g.finished ≡ true → Founded g → Suits g xs → StandAt g pc s (emit xs [] ways base next rest) → BeginsAt next rest → next < base → Passes s.before → Arrived g b pc v w
      → Meets g.start g.program g.site g.caller b (record { onward = g.label ways.onward; broken = g.label ways.broken; continued = g.label ways.continued; back = g.back }) (jump_to ways.onward next) 4 g.context.limit (run g.context xs v)
  whole_list xs ways base next pc rest s b v w e f suits at start low passes h =
      to_addresses b _ (jump_to ways.onward next) 4 (run g.context xs v)
      ((list_meets g f xs suits).runs [] ways base next pc rest b v w tt (record { state = s; at = at; lead = all_lead e (emit xs [] ways base next rest) s; passes = passes }) (begins g (all_reached e) rest next start) low h)

  pub whole_body : (body : ItemList) (pc : ℕ) (b : Begun) (v : Machine) (w : Work) → Founded g → ((finished : Bool) → Suits (with_end finished g) body) → StandAt g pc begun (body_entries body) → Arrived g b pc v w
      → MeetsBody g.start g.program g.caller b g.back g.context.limit (run g.context body v)
  whole_body body pc b v w f suits at h =
      let e = ends_of g body pc at in
      let finished : Bool = ends_there (e.last.named 0) e.last.before in
      let g' : Ground = with_end finished g in
      of_list g' f e.pc e.last e.at refl b (jump_to 0 0) (run g.context body v)
      ((list_meets g' f body (suits finished)).runs [] (record { onward = 0; broken = 0; continued = 0; cases = 0 }) 1 0 pc (Finish 0 ∷ []) b v w tt
      (record { state = begun; at = at; lead = e.lead finished (named_ends g (e.last.named 0) e.last.before) (passing_ends g (e.last.named 0) e.last.before); passes = tt })
      (finish_begins g' 0 [] (λ pc' s. s.lead.0.end refl s.passes)) (omega arith) (record { came = h.came; work = h.work; beside = h.beside }))
