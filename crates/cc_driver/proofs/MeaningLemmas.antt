-- Executions of one source on one port file are runs of one machine, which agrees with what the source means.
use Rattle.std.proofs.Common.{◌≡◌, ◌∙◌, ◌≤◌, ◌<◌, ◌++◌, ℕ, Bool, true, false, List, [], ◌∷◌, refl, sym, ap, subst, arith, inl, inr}
use Rattle.std.specs.Prelude.{◌⊎◌, ◌==◌, nat_lt, if◌then◌else◌}
use Rattle.std.specs.Str.Lines.{lines}
use Rattle.std.proofs.lemmas.Bool.{ltb-false}
use Rattle.std.proofs.lemmas.Bool.Decides.{Decides-eqb}
use mathlib.Core.Path.{fun_ext}
use Rattle.word_base.specs.declared.outcome.Outcome.{Outcome}
use Rattle.word_base.specs.declared.outcome.Outcome.TheVariants as source
use Rattle.word_base.specs.Outcome.{outputs_of}
use Rattle.word_base.specs.Ports.{Input, Outputs, Prefix, input_of}
use Rattle.c_tree.specs.SourceRun.{source_run}
use Rattle.c25_isa.specs.Agrees.{Agrees, AgreesAt}
use Rattle.c25_isa.specs.Image.{Contents}
use Rattle.c25_isa.specs.MachineRun.{Reached, Ended, machine_run, outputs_reached}
use Rattle.c25_isa.specs.State.{IsStart, zero_start}
use Rattle.c25_isa.specs.declared.event.Stop.{Stop}
use Rattle.c25_isa.specs.declared.event.Stop.TheVariants as stop
use Rattle.c25_sim.specs.Answers.{reached_of}
use Rattle.c25_sim.specs.Taken.{of_sixteen}
use Rattle.c25_image.specs.PortText.{Gives, AllGive, PortText}
use Rattle.c25_image.proofs.PortLines.{one_port_text}
use Rattle.tree_code.specs.Lowered.{lowered_program}
use Rattle.cc_check.specs.lay_cert.Frames.{Frame}
use Rattle.cc_files.specs.frame_layouts.declared.options.Options.{Options}
use Rattle.cc_files.specs.cc_compile.Made.{IsMade}
use Rattle.cc_files.specs.cc_compile.Images.{all_pieces, source_jobs}
use Rattle.cc_files.proofs.cc_compile.OneFault.{same_program}
use Rattle.cc_files.proofs.image_proof.ExecWords.{text_input, zero_begins, zero_starts}
use Rattle.cc_answers.specs.Answers.{Answered}
use Rattle.cc_answers.specs.MeansText.{means_answer, outcome_status}
use Rattle.cc_answers.specs.RunText.{run_answer}
use Rattle.cc_driver.specs.Build.{plain_options}
use Rattle.cc_driver.specs.Exec.{ExecutesTo}
use Rattle.cc_driver.specs.Means.{MeansTo}
use Rattle.cc_driver.specs.Meanings.{EndsOrRuns, GoOnWith, IsMeant, PutThese, PutsFirst, RunsUntil, StillRuns, outputs_meant}
use Rattle.cc_driver.specs.Run.{ImageRuns}
use Rattle.cc_driver.proofs.CommandLemmas.{one_made, reached_one}
use Rattle.cc_driver.proofs.RunLemmas.{GoesOn, StillPuts, at_end, at_more, at_undefined, runs_go_on}

-- ---- a port file has words for the sixteen ports alone

abbrev ArePorts : List (ℕ × ℕ) → Type 0
ArePorts [] = Unit {0}
ArePorts (put ∷ puts) = (put.0 < 16) × ArePorts puts

both_ports : (a b : List (ℕ × ℕ)) → ArePorts a → ArePorts b → ArePorts (a ++ b)
both_ports [] b h k = k
both_ports (x ∷ a) b h k = (h.0, both_ports a b h.1 k)

line_ports : (line : List ℕ) (puts : List (ℕ × ℕ)) → Gives line puts → ArePorts puts
line_ports line puts (inl none) = subst ArePorts (sym none.1) (tt {0})
line_ports line puts (inr one) = subst ArePorts (sym one.2) ((one.1).port, tt {0})

lines_ports : (ls : List (List ℕ)) (puts : List (ℕ × ℕ)) → AllGive ls puts → ArePorts puts
lines_ports [] puts is = subst ArePorts (sym is) (tt {0})
lines_ports (l ∷ ls) puts is = subst ArePorts (sym is.joined) (both_ports is.front is.back (line_ports l is.front is.first) (lines_ports ls is.back is.others))

none_above : (puts : List (ℕ × ℕ)) (port : ℕ) → 16 ≤ port → ArePorts puts → input_of puts port ≡ []
none_above [] port high h = refl
none_above (put ∷ puts) port high h = by (put.0 == port) refl (none_above puts port high h.1)
  where
    by : (b : Bool) → (put.0 == port) ≡ b → input_of puts port ≡ [] → (if b then put.1 ∷ input_of puts port else input_of puts port) ≡ []
    by true e rest = let low = h.0 in let same = (Decides-eqb put.0 port).0 e in absurd (omega (arith, low, high, same))
    by false e rest = rest

pub sixteen_ports : (bytes : List ℕ) (puts : List (ℕ × ℕ)) → PortText bytes puts → of_sixteen (input_of puts) ≡ input_of puts
sixteen_ports bytes puts is = fun_ext (λ port. by port (nat_lt port 16) refl)
  where
    by : (port : ℕ) (b : Bool) → nat_lt port 16 ≡ b → (if b then input_of puts port else []) ≡ input_of puts port
    by port true e = refl
    by port false e = let high = ltb-false port 16 e in sym (none_above puts port (omega (arith, high)) (lines_ports (lines bytes) puts is))

-- ---- the machine of a source that is compiled

-- its program is all that the start holds
built_starts : (o : Options) (bytes : List ℕ) (image : Contents) (frames : List Frame) → IsMade o bytes image frames → IsStart (zero_start image.words)
built_starts o bytes image frames m = zero_starts (all_pieces (source_jobs o m.program) (lowered_program m.program) m.has.plan) image m.has.linked m.has.ranges

-- how an execution answers, by where the machine stands
ended_answer : (steps turns : ℕ) (words : List ℕ) (ls : List (ℕ × ℕ)) (answer : Answered) (outs : Outputs) (ending : _) (r : ImageRuns words ls steps answer) → reached_of r.outs r.stands ≡ Ended outs ending
    → answer ≡ means_answer turns (source.Ended outs ending)
ended_answer steps turns words ls answer outs ending r is =
    let same = reached_one r.outs outs r.stands (stop.Ended ending) is in
    r.is ∙ ap (λ o. run_answer steps o r.stands) same.0 ∙ ap (run_answer steps outs) same.1

still_answer : (steps : ℕ) (words : List ℕ) (ls : List (ℕ × ℕ)) (answer : Answered) (outs : Outputs) (r : ImageRuns words ls steps answer) → StillPuts outs (reached_of r.outs r.stands)
    → (answer.status ≡ 6) × Prefix r.outs outs
still_answer steps words ls answer outs r still =
    let same = reached_one r.outs still.put r.stands stop.Running still.is in
    (ap (λ (a : Answered). a.status) (r.is ∙ ap (run_answer steps r.outs) same.1), subst (λ o. Prefix o outs) (sym same.0) still.first)

outputs_answered : (outs : Outputs) (s : Stop) → outputs_reached (reached_of outs s) ≡ outs
outputs_answered outs (stop.Ended ending) = refl
outputs_answered outs (stop.Trap kind at) = refl
outputs_answered outs stop.Running = refl

module _ (s p : List ℕ) (steps turns : ℕ) (executed meant : Answered) (e : ExecutesTo s p steps executed) (m : MeansTo s p turns meant) where
  abbrev input : Input
  input = of_sixteen (input_of e.lines)

  abbrev machine : ℕ → Reached
  machine = machine_run (zero_start e.image.words) input

  abbrev outcome : Outcome
  outcome = source_run e.built.program input turns

  goes : (k n : ℕ) → k ≤ n → GoesOn (machine k) (machine n)
  goes = runs_go_on (zero_start e.image.words) input

  agrees_here : Agrees (source_run e.built.program) e.image.words → AgreesAt (source_run e.built.program input) machine
  agrees_here agrees = agrees (zero_start e.image.words) input (built_starts plain_options s e.image e.frames e.made) (zero_begins e.image.words) (text_input p e.lines e.ports)

  -- both speak of one program and one input
  same_outcome : source_run m.program (input_of m.lines) turns ≡ outcome
  same_outcome =
      let program = same_program s m.program e.built.program m.typed (e.built.tokens, e.built.source, e.built.lexes, e.built.is_source, e.built.typed) in
      let same = one_port_text p m.lines e.lines m.ports e.ports in
      ap (λ q. source_run q (input_of m.lines) turns) program ∙ ap (λ l. source_run e.built.program (input_of l) turns) same ∙ ap (λ i. source_run e.built.program i turns) (sym (sixteen_ports p e.lines e.ports))

  same_outputs : outputs_of outcome ≡ outputs_meant s p turns meant m
  same_outputs = ap outputs_of (sym same_outcome)

  same_status : meant.status ≡ outcome_status outcome
  same_status = ap (λ (a : Answered). a.status) m.is ∙ ap outcome_status same_outcome

  -- where the machine stands behind the steps of an execution
  reached_by : (n : ℕ) (answer : Answered) (x : ExecutesTo s p n answer) → machine n ≡ reached_of x.runs.outs x.runs.stands
  reached_by n answer x =
      let images = one_made plain_options s e.image x.image e.frames x.frames e.made x.made in
      let same = one_port_text p e.lines x.lines e.ports x.ports in
      ap (λ (i : Contents). machine_run (zero_start i.words) input n) images ∙ ap (λ l. machine_run (zero_start x.image.words) (of_sixteen (input_of l)) n) same ∙ x.runs.runs

  puts_first : (outs : Outputs) (many : ℕ) → ((n : ℕ) → many ≤ n → Prefix outs (outputs_reached (machine n))) → PutsFirst s p outs many
  puts_first outs many first = record {
    by = λ n answer x le. subst (Prefix outs) (ap outputs_reached (reached_by n answer x) ∙ outputs_answered x.runs.outs x.runs.stands) (first n le);
  }

  runs_until : (outs : Outputs) (many : ℕ) → ((n : ℕ) → n ≤ many → StillPuts outs (machine n)) → RunsUntil s p outs many
  runs_until outs many still = record {
    by = λ n answer x le. still_answer n x.image.words x.lines answer outs x.runs (subst (StillPuts outs) (reached_by n answer x) (still n le));
  }

  pub ends_so : meant.status ≡ 0 → Agrees (source_run e.built.program) e.image.words → EndsOrRuns s p turns steps executed meant e m
  ends_so zero agrees = by outcome refl
    where
      found : (outs : Outputs) (ending : _) → outcome ≡ source.Ended outs ending → (machine steps ≡ Ended outs ending) ⊎ StillPuts outs (machine steps) → EndsOrRuns s p turns steps executed meant e m
      found outs ending is (inl ended) =
          IsMeant (ended_answer steps turns e.image.words e.lines executed outs ending e.runs (sym (reached_by steps executed e) ∙ ended) ∙ ap (means_answer turns) (sym is ∙ sym same_outcome) ∙ sym m.is)
      found outs ending is (inr still) =
          let runs = still_answer steps e.image.words e.lines executed outs e.runs (subst (StillPuts outs) (reached_by steps executed e) still) in
          StillRuns runs.0 (subst (Prefix e.runs.outs) (ap outputs_of (sym is) ∙ same_outputs) runs.1)

      by : (o : Outcome) → outcome ≡ o → EndsOrRuns s p turns steps executed meant e m
      by (source.Ended outs ending) is = found outs ending is (at_end (source_run e.built.program input) machine (agrees_here agrees) goes turns steps outs ending is)
      by (source.More outs) is = absurd (let six = sym zero ∙ same_status ∙ ap outcome_status is in omega (arith, six))
      by (source.Undefined outs kind at) is = absurd (let ten = sym zero ∙ same_status ∙ ap outcome_status is in omega (arith, ten))

  pub goes_on_so : meant.status ≡ 6 → Agrees (source_run e.built.program) e.image.words → GoOnWith s p turns (outputs_meant s p turns meant m)
  goes_on_so six agrees = by outcome refl
    where
      by : (o : Outcome) → outcome ≡ o → GoOnWith s p turns (outputs_meant s p turns meant m)
      by (source.Ended outs ending) is = absurd (let none = sym six ∙ same_status ∙ ap outcome_status is in omega (arith, none))
      by (source.More outs) is =
          let found = at_more (source_run e.built.program input) machine (agrees_here agrees) goes turns outs is in
          let outputs = ap outputs_of (sym is) ∙ same_outputs in
          record {
            many = found.0;
            no_fewer = found.1;
            until = subst (λ o. RunsUntil s p o found.0) outputs (runs_until outs found.0 found.2);
            first = subst (λ o. PutsFirst s p o found.0) outputs (puts_first outs found.0 found.3);
          }
      by (source.Undefined outs kind at) is = absurd (let ten = sym six ∙ same_status ∙ ap outcome_status is in omega (arith, ten))

  pub undefined_so : meant.status ≡ 10 → Agrees (source_run e.built.program) e.image.words → PutThese s p (outputs_meant s p turns meant m)
  undefined_so ten agrees = by outcome refl
    where
      by : (o : Outcome) → outcome ≡ o → PutThese s p (outputs_meant s p turns meant m)
      by (source.Ended outs ending) is = absurd (let none = sym ten ∙ same_status ∙ ap outcome_status is in omega (arith, none))
      by (source.More outs) is = absurd (let six = sym ten ∙ same_status ∙ ap outcome_status is in omega (arith, six))
      by (source.Undefined outs kind at) is =
          let found = at_undefined (source_run e.built.program input) machine (agrees_here agrees) goes turns outs kind at is in
          record { many = found.0; first = subst (λ o. PutsFirst s p o found.0) (ap outputs_of (sym is) ∙ same_outputs) (puts_first outs found.0 found.1) }
