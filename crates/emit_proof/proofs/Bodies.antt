-- The body of a function: where its list ends, the code of a return stands if anything comes there.
use Rattle.std.proofs.Common.{◌≡◌, ◌≢◌, ℕ, zero, suc, Bool, true, false, List, [], ◌∷◌, refl, sym, ◌∙◌, subst, arith}
use Rattle.std.proofs.lemmas.Bool.{true≢false}
use Rattle.acc_code.specs.AccTree.{ItemList}
use Rattle.c25_isa.specs.CodeAt.{CodeAt}
use Rattle.c25_isa.specs.Pieces.{ItemsAt}
use Rattle.c25_code.specs.Items.{return_code}
use Rattle.c25_code.proofs.Items.{code_of_items}
use Rattle.ir_semantics.specs.Parts.{Res, Gives, Finished, TooMany, Fails, Flow, Next, Broke, Continued, Returned}
use Rattle.ir_semantics.specs.AccRun.{Machine}
use Rattle.emit_control.specs.declared.ways.Ways.{Ways}
use Rattle.emit_control.specs.declared.state.Before.{Before}
use Rattle.emit_control.specs.declared.state.Before.TheVariants.{Open, Shut, Gone}
use Rattle.emit_control.specs.Entries.{Entry, Finish}
use Rattle.emit_control.specs.Flow.{body_entries}
use Rattle.emit_control.specs.Cuts.{State, begun, finish_items, behind_entry}
use Rattle.emit_proof.proofs.Anywhere.{kept_anywhere}
use Rattle.emit_proof.specs.Arrivals.{Begun}
use Rattle.emit_proof.specs.Entries.{Passes, EntryAt}
use Rattle.emit_proof.specs.Bodies.{MeetsBody}
use Rattle.emit_proof.proofs.Grounds.{Ground, Founded, StandAt, AllLead, begun_at, exits, MeetsAt, is_reached}
use Rattle.emit_proof.proofs.Arriving.{earlier_ends, earlier_returns, runs_there}
use Rattle.emit_proof.proofs.Naming.{entry_names, entry_keeps, finish_leads_nowhere}

-- the code of the end is there
abbrev pub ends_there : Bool → Before → Bool
ends_there true x = true
ends_there false Open = true
ends_there false Shut = true
ends_there false Gone = false

abbrev pub with_end : Bool → Ground → Ground
with_end finished g = record g { finished = finished }

-- where the end stands behind entries, and what is named there; jumps lead where something comes to, if it is said that something comes to the end
-- wherever that may be
pub record Ends (g : Ground) (s : State) (es : List Entry) : Type 0 where
  pub pc : ℕ
  pub last : State
  pub at : EntryAt g.program g.marks g.names g.setting g.label pc last (Finish 0)
  pub names : (l : ℕ) → s.named l ≡ true → last.named l ≡ true
  pub lead : (finished : Bool) → (last.named 0 ≡ true → finished ≡ true) → (Passes last.before → finished ≡ true) → AllLead (with_end finished g) s es

module _ (g : Ground) where
  abbrev HasEnd : List Entry → Type 0
  HasEnd es = (es ≢ []) × ((pc : ℕ) (s : State) → StandAt g pc s es → Ends g s es)

  reached_by : (finished : Bool) (last : State) (l : ℕ) → (last.named 0 ≡ true → finished ≡ true) → last.named l ≡ true → is_reached finished l ≡ true
  reached_by finished last zero h named = h named
  reached_by finished last (suc l) h named = refl

  tail_of : (e d : Entry) (es : List Entry) → e ∷ es ≡ d ∷ [] → es ≡ []
  tail_of e d es q = cc

  more : (e : Entry) (es : List Entry) → HasEnd es → HasEnd (e ∷ es)
  more e es h = (λ q. cc, λ pc s at. first pc s at (h.1 _ _ at.1))
    where
      first : (pc : ℕ) (s : State) → StandAt g pc s (e ∷ es) → Ends g (behind_entry g.setting s e) es → Ends g s (e ∷ es)
      first pc s at t = record {
        pc = t.pc;
        last = t.last;
        at = t.at;
        names = λ l n. t.names l (entry_keeps g.setting e s l n);
        lead = λ finished named passes. (
          record {
            jumps = λ l j. reached_by finished t.last l named (t.names l (entry_names g.setting e s l j));
            end = λ q p. absurd (h.0 (tail_of e (Finish 0) es q));
          },
          t.lead finished named passes,
        );
      }

  only_end : HasEnd (Finish 0 ∷ [])
  only_end = (
    λ q. cc,
    λ pc s at. record {
      pc = pc;
      last = s;
      at = at.0;
      names = λ l n. n;
      lead = λ finished named passes. (record { jumps = λ l j. absurd (finish_leads_nowhere g.setting s 0 l j); end = λ q p. passes p }, tt);
    },
  )

  pub ends_of : (body : ItemList) (pc : ℕ) → StandAt g pc begun (body_entries body) → Ends g begun (body_entries body)
  ends_of body pc at = ((kept_anywhere HasEnd more body [] (record { onward = 0; broken = 0; continued = 0; cases = 0 }) 1).by 0 (Finish 0 ∷ []) only_end).1 pc begun at

  pub named_ends : (n : Bool) (x : Before) → n ≡ true → ends_there n x ≡ true
  named_ends true x e = refl
  named_ends false x e = absurd (true≢false (sym e))

  pub passing_ends : (n : Bool) (x : Before) → Passes x → ends_there n x ≡ true
  passing_ends true x p = refl
  passing_ends false Open p = refl
  passing_ends false Shut p = refl
  passing_ends false Gone p = absurd p

  return_there : (n : Bool) (x : Before) (pc : ℕ) → ends_there n x ≡ true → ItemsAt g.program g.marks g.names pc (finish_items g.setting n x 0) → CodeAt g.program pc (return_code g.setting.back)
  return_there true x pc e at = code_of_items g.program g.marks g.names (return_code g.setting.back) pc at.1
  return_there false Open pc e at = code_of_items g.program g.marks g.names (return_code g.setting.back) pc at
  return_there false Shut pc e at = code_of_items g.program g.marks g.names (return_code g.setting.back) pc at
  return_there false Gone pc e at = absurd (true≢false (sym e))

module _ (g : Ground) (f : Founded g) (pc : ℕ) (last : State) (at : EntryAt g.program g.marks g.names g.setting g.label pc last (Finish 0)) (is : g.finished ≡ ends_there (last.named 0) last.before) (b : Begun) where
  abbrev ways : Ways
  ways = record { onward = 0; broken = 0; continued = 0; cases = 0 }

  -- what a list came to is what a body came to
  pub of_list : (least : ℕ) (r : Res Machine Flow) → MeetsAt g b (exits g ways) least 4 r → MeetsBody g.start g.program g.caller b g.back g.context.limit r
  of_list least (Gives Next v) c =
      let code = return_there g (last.named 0) last.before pc (sym is ∙ c.reached) at.items in
      earlier_returns g g.caller b (begun_at c.steps v) g.back 1 1 8 3 v (omega (arith, c.least_steps)) (omega (arith, c.within))
      (f.returns.by (begun_at c.steps v) v c.work (g.label 0) (subst (λ a. CodeAt g.program a (return_code g.setting.back)) (sym at.placed) code) c.came refl c.beside)
  of_list least (Gives Broke v) c = runs_there g b _ 1 4 v c
  of_list least (Gives Continued v) c = runs_there g b _ 1 4 v c
  of_list least (Gives Returned v) c = earlier_returns g g.caller b b g.back 1 1 8 4 v (omega arith) (omega arith) c
  of_list least (Finished ending outs total) c = earlier_ends g b b 8 4 ending outs total (omega arith) c
  of_list least (TooMany outs) c = c
  of_list least (Fails outs) c = c
