use Rattle.std.proofs.Common.{◌≡◌}
use Rattle.c_macro.specs.Expanding.{IsReady, AreFrames, frames_of, LeadsOn, unwound, measure_of}
use Rattle.c_macro.proofs.replacer.Replacer.finish.Given as goal

abbrev pub invariant-loop-frame : goal.invariant-loop-frame
invariant-loop-frame l = record {
  bodies : l.self.macros.bodies ≡ l.initial.self.macros.bodies;
  ready : IsReady l.self.macros;
  frames : AreFrames (frames_of l.self);
  leads : LeadsOn l.at l.len l.initial.self (frames_of l.initial.self) l.self (frames_of l.self);
  unwound : unwound l.self.macros.busy.items (frames_of l.self) ≡ unwound l.initial.self.macros.busy.items (frames_of l.initial.self);
}

abbrev pub decreases-loop-frame : goal.decreases-loop-frame
decreases-loop-frame l = measure_of l.self
