-- Calls of functions and of routines.
use Rattle.std.proofs.Common.{◌≡◌, ℕ, ◌+◌, ◌<◌, Bool, true, false, inr, List, ◌∷◌, length, Option, Some, None, refl, sym, ap, ◌∙◌, arith}
use Rattle.std.proofs.lemmas.Option.{none-some}
use Rattle.word_base.specs.Words.{Calc, Good, Bad}
use Rattle.acc_code.specs.declared.operand.HelperName.{HelperName}
use Rattle.acc_code.specs.declared.operand.HelperName.TheVariants as helper
use Rattle.acc_code.specs.AccTree.{Call, Helper}
use Rattle.c25_isa.specs.Step.{wrap16}
use Rattle.c25_code.specs.Work.{Work, InRange}
use Rattle.c25_helper.specs.Results.{HelperKeeps, routine_value}
use Rattle.ir_semantics.specs.Parts.{Res, Gives, Finished, TooMany, Fails, Flow, Next, Broke, Continued, Returned}
use Rattle.ir_semantics.specs.Outside as words
use Rattle.ir_semantics.specs.AccRows.{Low}
use Rattle.ir_semantics.specs.AccRun.{Machine, run_item, helped, helped_with, helper_value, without_scratch}
use Rattle.emit_control.specs.Entries.{Entry, CallTo, CallHelper}
use Rattle.emit_control.specs.Cuts.{behind_entry}
use Rattle.emit_control.specs.Settings.{routine_of}
use Rattle.emit_proof.specs.Sites.{Site, IsSite, Beside}
use Rattle.emit_proof.specs.Arrivals.{Begun, MeetsCall}
use Rattle.emit_proof.specs.Code.{HelperStands, IsPresent}
use Rattle.emit_proof.proofs.Grounds.{Ground, Exits, Founded, Standing, Arrived, begun_at, MeetsAt}
use Rattle.emit_proof.proofs.Arriving.{comes_here, goes_on, counted, scratch_forgotten, runs_here}
use Rattle.emit_proof.proofs.Between.{forgets}

abbrev pub going_on : ℕ → Exits → Exits
going_on onward e = record e { onward = record { address = onward; reached = true } }

value_is : (name : HelperName) (a b : ℕ) → helper_value name a b ≡ routine_value (routine_of name) a b
value_is helper.DivInt a b = refl
value_is helper.DivUnsigned a b = refl
value_is helper.RemInt a b = refl
value_is helper.RemUnsigned a b = refl
value_is helper.ShrInt a b = refl
value_is helper.ShrUnsigned a b = refl

-- what is known behind a routine
abbrev behind_helper : ℕ → Machine → Machine
behind_helper x v = without_scratch (record v { registers = record v.registers { acc = Low x; t = None; p = None; sxm = None } })

helped_beside : (k : Site) (v : Machine) (w u : Work) (x : ℕ) → IsSite k → Beside k v w → HelperKeeps w u → wrap16 u.acc ≡ x → InRange u → Beside k (behind_helper x v) u
helped_beside k v w u x site h keeps answers range =
    let s = h.stands in
    record {
      stands = record {
        frame = λ n y is. let q = s.frame n y is in (q.0, keeps.ram _ (inr (site.scalars n q.0).0) ∙ q.1);
        scratch = λ n y is. absurd (none-some y is);
        given = λ i y is. let q = s.given i y is in (q.0, keeps.ram _ (inr (site.parameters v.given_to i q.0).0) ∙ q.1);
        memory = λ a y is. in_memory a y is (k.lives a) refl;
        callers = λ a y is. keeps.ram a (inr (site.callers a y is).0) ∙ s.callers a y is;
        reserved = s.reserved;
      };
      nowhere = h.nowhere;
      registers = record { acc = answers; t = tt; p = tt; sxm = tt };
      pointed = λ q is. h.pointed q is ∙ sym (ap (λ r. r 1) keeps.ar);
      input = keeps.input ∙ h.input;
      stack = keeps.stack ∙ h.stack;
      range = range;
    }
  where
    in_memory : (a y : ℕ) → v.outside.memory a ≡ words.Holds y → (lives : Bool) → k.lives a ≡ lives → u.ram a ≡ y
    in_memory a y is true e = keeps.ram a (inr (site.objects a e).0) ∙ h.stands.memory a y is
    in_memory a y is false e = absurd (nothing (sym (h.nowhere a e) ∙ is))
      where
        nothing : words.Nowhere ≡ words.Holds y → ⊥
        nothing e = cc

module _ (g : Ground) (f : Founded g) where
  of_call : (b : Begun) (e : Exits) (behind : ℕ) (r : Res Machine Flow) → MeetsCall g.start g.program g.site b behind 0 g.context.limit r → MeetsAt g b (going_on behind e) 1 0 r
  of_call b e behind (Gives Next v) h = record { steps = h.steps; work = h.work; came = h.came; beside = h.beside; least_steps = h.least_steps; within = h.within; reached = refl }
  of_call b e behind (Gives Broke v) h = absurd h
  of_call b e behind (Gives Continued v) h = absurd h
  of_call b e behind (Gives Returned v) h = absurd h
  of_call b e behind (Finished ending outs total) h = h
  of_call b e behind (TooMany outs) h = h
  of_call b e behind (Fails outs) h = h

  pub behind_call : (q pc : ℕ) (es : List Entry) → Standing g pc (CallTo q ∷ es) → Standing g (pc + 2) es
  behind_call q pc es s = record { state = behind_entry g.setting s.state (CallTo q); at = s.at.1; lead = s.lead.1; passes = tt }

  pub behind_helper_call : (name : HelperName) (pc : ℕ) (es : List Entry) → Standing g pc (CallHelper name ∷ es) → Standing g (pc + 2) es
  behind_helper_call name pc es s = record { state = behind_entry g.setting s.state (CallHelper name); at = s.at.1; lead = s.lead.1; passes = tt }

  pub call_meets : (q pc : ℕ) (es : List Entry) (e : Exits) (b : Begun) (v : Machine) (w : Work) → IsPresent (g.parameters q) → Standing g pc (CallTo q ∷ es) → Arrived g b pc v w → MeetsAt g b (going_on (pc + 2) e) 1 0 (run_item g.context (Call q) v)
  call_meets q pc es e b v w there s h =
      let v' : Machine = record v { work = v.work + 2 } in
      let u : Machine = without_scratch v' in
      let b' : Begun = begun_at b.steps v' in
      let here : Arrived g b' pc u w = scratch_forgotten g b' pc v' w (counted g b pc 2 v w h) in
      forgets g b b' (going_on (pc + 2) e) 1 0 0 (g.context.calls q u) (omega arith) (omega (arith, h.work))
      (of_call b' e (pc + 2) (g.context.calls q u) (f.calls.by q b' u w pc there here.came here.work here.beside s.at.0.items.0 (s.at.0.room tt)))

  module _ (name : HelperName) (pc : ℕ) (es : List Entry) (e : Exits) (b : Begun) (v : Machine) (w : Work) (stands : HelperStands g.start g.program g.names g.setting g.site name) (s : Standing g pc (CallHelper name ∷ es)) (h : Arrived g b pc v w) where
    abbrev ticked : Machine
    ticked = record v { work = v.work + 7 }

    here : Arrived g (begun_at b.steps ticked) pc ticked w
    here = counted g b pc 7 v w h

    helps_with : (a c : ℕ) (value : Calc) → v.scratch 0 ≡ Some a → v.scratch 1 ≡ Some c → helper_value name a c ≡ value → MeetsAt g b (going_on (pc + 2) e) 0 0 (helped_with value ticked)
    helps_with a c (Bad kind) left right is = runs_here g (begun_at b.steps ticked) pc ticked w here
    helps_with a c (Good x) left right is =
        let first : w.ram 768 ≡ a = (h.beside.stands.scratch 0 a left).1 in
        let second : w.ram 769 ≡ c = (h.beside.stands.scratch 1 c right).1 in
        let space : length w.stack < 8 = omega (arith, f.room, ap length h.beside.stack) in
        let low : w.ram 768 < 65536 = h.beside.range.ram 768 in
        let high : w.ram 769 < 65536 = h.beside.range.ram 769 in
        let value : routine_value (routine_of name) (w.ram 768) (w.ram 769) ≡ Good x = ap (λ n. routine_value (routine_of name) n (w.ram 769)) first ∙ ap (routine_value (routine_of name) a) second ∙ sym (value_is name a c) ∙ is in
        let back = stands.result.by g.program stands.marks g.names _ pc w x stands.at s.at.0.items.0 (s.at.0.room tt) space low high value in
        let u : Machine = behind_helper x ticked in
        let there = goes_on g b back.steps pc (pc + 2) v u w back.work h back.leads refl (helped_beside g.site ticked w back.work x f.site here.beside back.keeps back.answers (back.ranges h.beside.range)) in
        comes_here g b (begun_at (b.steps + back.steps) u) (record { address = pc + 2; reached = true }) 0 0 u back.work refl (omega arith) (omega (arith, back.few, h.work)) there

    by_operands : (x y : Option ℕ) → v.scratch 0 ≡ x → v.scratch 1 ≡ y → MeetsAt g b (going_on (pc + 2) e) 0 0 (helped name x y ticked)
    by_operands None y left right = runs_here g (begun_at b.steps ticked) pc ticked w here
    by_operands (Some a) None left right = runs_here g (begun_at b.steps ticked) pc ticked w here
    by_operands (Some a) (Some c) left right = helps_with a c (helper_value name a c) left right refl

    pub helper_meets : MeetsAt g b (going_on (pc + 2) e) 0 0 (run_item g.context (Helper name) v)
    helper_meets = by_operands (v.scratch 0) (v.scratch 1) refl refl
