-- How far a `go` goes, and what it shows.
use Rattle.std.proofs.Common.{◌≡◌, ◌⊎◌, ℕ, ◌+◌, ◌-◌, ◌<◌, ◌≤◌, true, List, [], ◌∷◌, ◌++◌, refl, sym, ap, subst, ◌∙◌, inl, inr, arith, append_assoc, append-nil}
use Rattle.std.proofs.lemmas.Bool.{cases_lt}
use Rattle.std.specs.Prelude.{Result, Ok, Err, OnOk}
use Rattle.word_base.specs.declared.text.NoMemory.{NoMemory}
use Rattle.word_base.specs.Ports.{Outputs}
use Rattle.text_base.specs.Lines.{with_feed}
use Rattle.c25_isa.specs.State.{State}
use Rattle.c25_isa.specs.Step.{Event, Ran, Put, step}
use Rattle.c25_isa.specs.MachineRun.{Reached, Running, HasStopped, outputs_reached, go_on, run_from}
use Rattle.c25_sim.specs.Answers.{behind, state_after}
use Rattle.c25_sim.specs.MachineView.{state_of}
use Rattle.c25_sim.proofs.Steps.{after_more, after_both}
use Rattle.c25_image.specs.OutsText.{out_line, outs_text}
use Rattle.c25_debug.specs.declared.command.Command.TheVariants.{Go}
use Rattle.c25_debug.specs.Session.{Breakpoints, Kept, StopsAt, GoesTo, go_line, go_text, Does}
use Rattle.c25_debug.specs.declared.debugger.Debugger.{Debugger}
use Rattle.c25_debug.specs.Standing.{breakpoints_of, kept_of, IsBehind, Did}
use Rattle.c25_debug.proofs.Runs.{since, one_more, not_stopped, stopped_alike, line_alike}

-- ---- from where the command begins

-- i steps from a state are done, at none of which but the last the run stops or a breakpoint stands, and their words are put
pub record Gone (first now : State) (breakpoints : Breakpoints) (i : ℕ) (old new : List ℕ) : Type 0 where
  pub stands : now ≡ state_after i first
  pub outs : Outputs
  pub runs : run_from i first [] ≡ Running outs
  pub text : new ≡ old ++ outs_text outs
  pub clear : (k : ℕ) → 0 < k → k < i → breakpoints (state_after k first).pc ≡ true → ⊥

-- and at the last one neither
pub record GoesOn (first now : State) (breakpoints : Breakpoints) (i : ℕ) (old new : List ℕ) : Type 0 where
  pub gone : Gone first now breakpoints i old new
  pub clear : 0 < i → breakpoints now.pc ≡ true → ⊥

pub goes_from : (first : State) (breakpoints : Breakpoints) (old : List ℕ) → GoesOn first first breakpoints 0 old old
goes_from first breakpoints old = record {
  gone = record { stands = refl; outs = []; runs = refl; text = sym (append-nil old); clear = λ k some lt. absurd (omega arith) };
  clear = λ some. absurd (omega arith);
}

-- behind the last step nothing stopped either
all_clear : (first now : State) (breakpoints : Breakpoints) (i : ℕ) (old new : List ℕ) → GoesOn first now breakpoints i old new → (k : ℕ) → 0 < k → k < i + 1 → breakpoints (state_after k first).pc ≡ true → ⊥
all_clear first now breakpoints i old new g k some lt at = by (cases_lt k i)
  where
    by : (k < i) ⊎ (i ≤ k) → ⊥
    by (inl less) = g.gone.clear k some less at
    by (inr more) =
        let same : k ≡ i = omega arith in
        g.clear (omega (arith, same)) (ap (λ (s : State). breakpoints s.pc) (g.gone.stands ∙ ap (λ n. state_after n first) (sym same)) ∙ at)

pub gone_more : (first now next : State) (breakpoints : Breakpoints) (i : ℕ) (old new : List ℕ) → GoesOn first now breakpoints i old new → step now ≡ Ran next → Gone first next breakpoints (i + 1) old new
gone_more first now next breakpoints i old new g is =
    let here : step (state_after i first) ≡ Ran next = ap step (sym g.gone.stands) ∙ is in
    record {
      stands = sym (after_more i first ∙ ap (λ e. behind e (state_after i first)) here);
      outs = g.gone.outs;
      runs = one_more i first g.gone.outs (Ran next) g.gone.runs here;
      text = g.gone.text;
      clear = all_clear first now breakpoints i old new g;
    }

pub gone_out : (first now next : State) (breakpoints : Breakpoints) (i : ℕ) (old new newer : List ℕ) (word : ℕ × ℕ) → GoesOn first now breakpoints i old new → step now ≡ Put word next → newer ≡ new ++ with_feed (out_line word) → Gone first next breakpoints (i + 1) old newer
gone_out first now next breakpoints i old new newer word g is pushed =
    let here : step (state_after i first) ≡ Put word next = ap step (sym g.gone.stands) ∙ is in
    record {
      stands = sym (after_more i first ∙ ap (λ e. behind e (state_after i first)) here);
      outs = g.gone.outs ++ word ∷ [];
      runs = one_more i first g.gone.outs (Put word next) g.gone.runs here;
      text =
          pushed
          ∙ ap (λ t. t ++ with_feed (out_line word)) g.gone.text
          ∙ append_assoc old (outs_text g.gone.outs) (with_feed (out_line word))
          ∙ ap (λ t. old ++ t) (sym (outs_push g.gone.outs));
      clear = all_clear first now breakpoints i old new g;
    }
  where
    outs_push : (outs : Outputs) → outs_text (outs ++ word ∷ []) ≡ outs_text outs ++ with_feed (out_line word)
    outs_push [] = append-nil (with_feed (out_line word))
    outs_push (out ∷ outs) = ap (λ t. with_feed (out_line out) ++ t) (outs_push outs) ∙ sym (append_assoc (with_feed (out_line out)) (outs_text outs) (with_feed (out_line word)))

-- ---- from the start of the run

-- behind n steps more the run stops, seen from where they begin
abbrev StopsIn : State → Breakpoints → ℕ → ℕ → Type 0
StopsIn first breakpoints count n = HasStopped (run_from n first []) ⊎ ((breakpoints (state_after n first).pc ≡ true) ⊎ (n ≡ count))

goes_to : (s : State) (kept : Kept) (count n : ℕ) → 0 < n → StopsIn (state_after kept.steps s) kept.breakpoints count n
    → ((k : ℕ) → 0 < k → k < n → StopsIn (state_after kept.steps s) kept.breakpoints count k → ⊥) → GoesTo s kept count (kept.steps + n)
goes_to s kept count n some stops least = record { above = omega arith; stops = from_here stops; least = before }
  where
    from_here : StopsIn (state_after kept.steps s) kept.breakpoints count n → StopsAt s kept count (kept.steps + n)
    from_here (inl h) = inl (stopped_alike (run_from n (state_after kept.steps s) []) (run_from (kept.steps + n) s []) (sym (since kept.steps n s some).same) h)
    from_here (inr (inl h)) = inr (inl (ap (λ (t : State). kept.breakpoints t.pc) (after_both kept.steps n s) ∙ h))
    from_here (inr (inr h)) = inr (inr (ap (λ k. kept.steps + k) h))

    to_here : (k : ℕ) → 0 < k → StopsAt s kept count (kept.steps + k) → StopsIn (state_after kept.steps s) kept.breakpoints count k
    to_here k lt (inl h) = inl (stopped_alike (run_from (kept.steps + k) s []) (run_from k (state_after kept.steps s) []) (since kept.steps k s lt).same h)
    to_here k lt (inr (inl h)) = inr (inl (ap (λ (t : State). kept.breakpoints t.pc) (sym (after_both kept.steps k s)) ∙ h))
    to_here k lt (inr (inr h)) = inr (inr (omega (arith, h)))

    before : (i : ℕ) → kept.steps < i → i < kept.steps + n → StopsAt s kept count i → ⊥
    before i above below h =
        let parts : i ≡ kept.steps + (i - kept.steps) = omega arith in
        least (i - kept.steps) (omega arith) (omega arith) (to_here (i - kept.steps) (omega arith) (subst (StopsAt s kept count) parts h))

-- what is shown, by what the steps come to from where they begin
shows : (s : State) (from n : ℕ) (r : Reached) → 0 < n → run_from n (state_after from s) [] ≡ r
    → go_text s from (from + n) ≡ outs_text (outputs_reached r) ++ with_feed (go_line (state_after n (state_after from s)).pc (from + n) r)
shows s from n r some is =
    let h = since from n s some in
    let pc : (state_after (from + n) s).pc ≡ (state_after n (state_after from s)).pc = ap (λ (t : State). t.pc) (after_both from n s) in
    ap (λ o. outs_text o ++ with_feed (go_line (state_after (from + n) s).pc (from + n) (run_from (from + n) s []))) (h.outs ∙ ap outputs_reached is)
    ∙ ap (λ l. outs_text (outputs_reached r) ++ with_feed l)
    (line_alike (state_after (from + n) s).pc (from + n) (run_from (from + n) s []) (run_from n (state_after from s) []) h.same
    ∙ ap (go_line (state_after (from + n) s).pc (from + n)) is
    ∙ ap (λ p. go_line p (from + n) r) pc)

-- the command is done behind n steps, which come to this
pub record GoneTo (s : State) (kept : Kept) (count n : ℕ) (old new : List ℕ) : Type 0 where
  pub shown : List ℕ
  pub text : new ≡ old ++ shown
  pub does : (next : Kept) → next.steps ≡ kept.steps + n → next.breakpoints ≡ kept.breakpoints → Does s kept (Go count) shown next

done : (s : State) (kept : Kept) (count n : ℕ) (old new : List ℕ) (r : Reached) → 0 < n → GoesTo s kept count (kept.steps + n) → run_from n (state_after kept.steps s) [] ≡ r
    → new ≡ old ++ (outs_text (outputs_reached r) ++ with_feed (go_line (state_after n (state_after kept.steps s)).pc (kept.steps + n) r)) → GoneTo s kept count n old new
done s kept count n old new r some goes is text = record {
  shown = go_text s kept.steps (kept.steps + n);
  text = text ∙ ap (λ t. old ++ t) (sym (shows s kept.steps n r some is));
  does = λ next steps same. (
    subst (GoesTo s kept count) (sym steps) goes,
    ap (go_text s kept.steps) (sym steps),
    same,
  );
}

-- all steps are done, or a breakpoint stands here
pub gone_to : (s first now : State) (kept : Kept) (count i : ℕ) (old new newer : List ℕ) → first ≡ state_after kept.steps s → 0 < i → i ≤ count → Gone first now kept.breakpoints i old new → (kept.breakpoints now.pc ≡ true) ⊎ (i ≡ count)
    → newer ≡ new ++ with_feed (go_line now.pc (kept.steps + i) (Running [])) → GoneTo s kept count i old newer
gone_to s first now kept count i old new newer begins some le g stops pushed =
    let runs : run_from i (state_after kept.steps s) [] ≡ Running g.outs = ap (λ t. run_from i t []) (sym begins) ∙ g.runs in
    let here : now ≡ state_after i (state_after kept.steps s) = g.stands ∙ ap (state_after i) begins in
    done s kept count i old newer (Running g.outs) some
    (goes_to s kept count i some (stops_here here stops) (least here runs)) runs
    (pushed
    ∙ ap (λ t. t ++ with_feed (go_line now.pc (kept.steps + i) (Running []))) g.text
    ∙ append_assoc old (outs_text g.outs) (with_feed (go_line now.pc (kept.steps + i) (Running [])))
    ∙ ap (λ (t : State). old ++ (outs_text g.outs ++ with_feed (go_line t.pc (kept.steps + i) (Running [])))) here)
  where
    stops_here : now ≡ state_after i (state_after kept.steps s) → (kept.breakpoints now.pc ≡ true) ⊎ (i ≡ count) → StopsIn (state_after kept.steps s) kept.breakpoints count i
    stops_here here (inl at) = inr (inl (ap (λ (t : State). kept.breakpoints t.pc) (sym here) ∙ at))
    stops_here here (inr all) = inr (inr all)

    least : now ≡ state_after i (state_after kept.steps s) → run_from i (state_after kept.steps s) [] ≡ Running g.outs → (k : ℕ) → 0 < k → k < i → StopsIn (state_after kept.steps s) kept.breakpoints count k → ⊥
    least here runs k above below (inl h) = not_stopped k i (state_after kept.steps s) g.outs (omega arith) runs h
    least here runs k above below (inr (inl h)) = g.clear k above below (ap (λ t. kept.breakpoints (state_after k t).pc) begins ∙ h)
    least here runs k above below (inr (inr h)) = omega arith

-- the next step is the last one of the run
pub gone_over : (s first now : State) (kept : Kept) (count i : ℕ) (old new newer line : List ℕ) (event : Event) (r : Outputs → Reached) → first ≡ state_after kept.steps s → i < count → GoesOn first now kept.breakpoints i old new
    → step now ≡ event → ((outs : Outputs) → go_on event (run_from 0) outs ≡ r outs) → ((outs : Outputs) → HasStopped (r outs)) → ((outs : Outputs) → outputs_reached (r outs) ≡ outs)
    → ((outs : Outputs) (pc steps : ℕ) → go_line pc steps (r outs) ≡ line) → newer ≡ new ++ with_feed line → GoneTo s kept count (i + 1) old newer
gone_over s first now kept count i old new newer line event r begins lt g is gives stopped put shown pushed =
    let outs = g.gone.outs in
    let step_is : step (state_after i first) ≡ event = ap step (sym g.gone.stands) ∙ is in
    let runs : run_from (i + 1) (state_after kept.steps s) [] ≡ r outs = ap (λ t. run_from (i + 1) t []) (sym begins) ∙ one_more i first outs event g.gone.runs step_is ∙ gives outs in
    let before : run_from i (state_after kept.steps s) [] ≡ Running outs = ap (λ t. run_from i t []) (sym begins) ∙ g.gone.runs in
    let pc = (state_after (i + 1) (state_after kept.steps s)).pc in
    done s kept count (i + 1) old newer (r outs) (omega arith)
    (goes_to s kept count (i + 1) (omega arith) (inl (subst HasStopped (sym runs) (stopped outs))) (least before)) runs
    (pushed
    ∙ ap (λ t. t ++ with_feed line) g.gone.text
    ∙ append_assoc old (outs_text outs) (with_feed line)
    ∙ ap (λ o. old ++ (outs_text o ++ with_feed line)) (sym (put outs))
    ∙ ap (λ l. old ++ (outs_text (outputs_reached (r outs)) ++ with_feed l)) (sym (shown outs pc (kept.steps + (i + 1)))))
  where
    least : run_from i (state_after kept.steps s) [] ≡ Running g.gone.outs → (k : ℕ) → 0 < k → k < i + 1 → StopsIn (state_after kept.steps s) kept.breakpoints count k → ⊥
    least before k above below (inl h) = not_stopped k i (state_after kept.steps s) g.gone.outs (omega arith) before h
    least before k above below (inr (inl h)) = all_clear first now kept.breakpoints i old new g k above below (ap (λ t. kept.breakpoints (state_after k t).pc) begins ∙ h)
    least before k above below (inr (inr h)) = omega arith

-- ---- the command is done

-- the machine behind one step more
pub next_behind : (s first now next : State) (from i : ℕ) → first ≡ state_after from s → now ≡ state_after i first → next ≡ behind (step now) now → next ≡ state_after (from + (i + 1)) s
next_behind s first now next from i begins stands is =
    is
    ∙ ap (λ t. behind (step t) t) stands
    ∙ sym (after_more i first)
    ∙ ap (state_after (i + 1)) begins
    ∙ sym (after_both from (i + 1) s)

pub did_go : (s : State) (before now : Debugger) (count n : ℕ) (old new : List ℕ) → GoneTo s (kept_of before) count n old new → now.steps ≡ before.steps + n → breakpoints_of now.breakpoints ≡ breakpoints_of before.breakpoints
    → state_of now.machine ≡ state_after (before.steps + n) s → Did (Go count) s before now old new
did_go s before now count n old new g steps same stands = record {
  shown = g.shown;
  text = g.text;
  does = g.does (kept_of now) steps same;
  behind = stands ∙ ap (λ k. state_after k s) (sym steps);
}

-- the command may stop here
pub record StopsHere (before now : Debugger) (count : ℕ) (old text : List ℕ) : Type 0 where
  pub i : ℕ
  pub some : 0 < i
  pub within : i ≤ count
  pub gone : Gone (state_of before.machine) (state_of now.machine) (breakpoints_of before.breakpoints) i old text
  pub stops : (breakpoints_of before.breakpoints (state_of now.machine).pc ≡ true) ⊎ (i ≡ count)
  pub steps : now.steps ≡ before.steps + i
  pub same : breakpoints_of now.breakpoints ≡ breakpoints_of before.breakpoints

pub did_stop : (s : State) (before now : Debugger) (count : ℕ) (old text newer : List ℕ) → IsBehind s before → StopsHere before now count old text
    → newer ≡ text ++ with_feed (go_line (state_of now.machine).pc now.steps (Running [])) → Did (Go count) s before now old newer
did_stop s before now count old text newer begins h pushed =
    did_go s before now count h.i old newer
    (gone_to s (state_of before.machine) (state_of now.machine) (kept_of before) count h.i old text newer begins h.some h.within h.gone h.stops (pushed ∙ ap (λ n. text ++ with_feed (go_line (state_of now.machine).pc n (Running []))) h.steps))
    h.steps h.same
    (h.gone.stands ∙ ap (state_after h.i) begins ∙ sym (after_both before.steps h.i s))

pub on_ok : {A B : Type 0} (r : Result (Unit {0}) NoMemory) → (A → B) → OnOk r A → OnOk r B
on_ok (Ok done) f a = f a
on_ok (Err lack) f a = a
