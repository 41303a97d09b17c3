-- What the first steps of a run come to, and what those behind them do.
use Rattle.std.proofs.Common.{◌≡◌, ℕ, zero, suc, ◌+◌, ◌-◌, ◌<◌, ◌≤◌, [], ◌∷◌, ◌++◌, length, drop, refl, sym, ap, subst, ◌∙◌, arith, append_assoc, append-nil}
use Rattle.std.proofs.lemmas.List.{drop_all}
use Rattle.word_base.specs.Ports.{Outputs}
use Rattle.c25_isa.specs.State.{State}
use Rattle.c25_isa.specs.Step.{Event, Ran, Put, Over, Trapped, step}
use Rattle.c25_isa.specs.MachineRun.{Reached, Running, Ended, Stopped, HasStopped, outputs_reached, go_on, run_from}
use Rattle.c25_sim.specs.Answers.{behind, state_after}
use Rattle.c25_sim.proofs.Steps.{stays}
use Rattle.c25_debug.specs.Session.{outs_between, go_line}

-- ---- steps behind steps

-- what is reached where the run goes on
abbrev continued : Reached → (Outputs → Reached) → Reached
continued (Running outs) next = next outs
continued (Ended outs ending) next = Ended outs ending
continued (Stopped outs kind at) next = Stopped outs kind at

run_both : (m n : ℕ) (s : State) (outs : Outputs) → run_from (m + n) s outs ≡ continued (run_from m s outs) (run_from n (state_after m s))
run_both zero n s outs = let e : 0 + n ≡ n = omega arith in ap (λ k. run_from k s outs) e
run_both (suc m) n s outs = let e : suc m + n ≡ suc (m + n) = omega arith in ap (λ k. run_from k s outs) e ∙ by (step s) (λ t put. run_both m n t put)
  where
    by : (event : Event) → ((t : State) (put : Outputs) → run_from (m + n) t put ≡ continued (run_from m t put) (run_from n (state_after m t)))
        → go_on event (run_from (m + n)) outs ≡ continued (go_on event (run_from m) outs) (run_from n (state_after m (behind event s)))
    by (Ran t) later = later t outs
    by (Put word t) later = later t (outs ++ word ∷ [])
    by (Over ending) later = refl
    by (Trapped kind at) later = refl

-- one more step
pub one_more : (i : ℕ) (s : State) (outs : Outputs) (event : Event) → run_from i s [] ≡ Running outs → step (state_after i s) ≡ event → run_from (i + 1) s [] ≡ go_on event (run_from 0) outs
one_more i s outs event so_far is =
    run_both i 1 s []
    ∙ ap (λ r. continued r (run_from 1 (state_after i s))) so_far
    ∙ ap (λ e. go_on e (run_from 0) outs) is

-- a run that goes on hadn't stopped before
pub not_stopped : (k i : ℕ) (s : State) (outs : Outputs) → k ≤ i → run_from i s [] ≡ Running outs → HasStopped (run_from k s []) → ⊥
not_stopped k i s outs le runs stopped =
    let parts : i ≡ k + (i - k) = omega arith in
    by (run_from k s []) (sym (run_both k (i - k) s []) ∙ ap (λ n. run_from n s []) (sym parts) ∙ runs) stopped
  where
    by : (r : Reached) → continued r (run_from (i - k) (state_after k s)) ≡ Running outs → HasStopped r → ⊥
    by (Running o) e h = h
    by (Ended o ending) e h = absurd cc
    by (Stopped o kind at) e h = absurd cc

-- ---- words put before

-- what is reached, behind these words
abbrev ahead : Outputs → Reached → Reached
ahead outs (Running more) = Running (outs ++ more)
ahead outs (Ended more ending) = Ended (outs ++ more) ending
ahead outs (Stopped more kind at) = Stopped (outs ++ more) kind at

run_ahead : (n : ℕ) (s : State) (outs more : Outputs) → run_from n s (outs ++ more) ≡ ahead outs (run_from n s more)
run_ahead zero s outs more = refl
run_ahead (suc n) s outs more = by (step s) (λ t put. run_ahead n t outs put)
  where
    by : (event : Event) → ((t : State) (put : Outputs) → run_from n t (outs ++ put) ≡ ahead outs (run_from n t put)) → go_on event (run_from n) (outs ++ more) ≡ ahead outs (go_on event (run_from n) more)
    by (Ran t) later = later t more
    by (Put word t) later = ap (run_from n t) (append_assoc outs more (word ∷ [])) ∙ later t (more ++ word ∷ [])
    by (Over ending) later = refl
    by (Trapped kind at) later = refl

-- ---- a run that has stopped

-- the event of a stop
abbrev stopping : Reached → Event → Type 0
stopping (Running outs) event = ⊥
stopping (Ended outs ending) event = event ≡ Over ending
stopping (Stopped outs kind at) event = event ≡ Trapped kind at

-- where a run has stopped each further step is the one that stopped it
stopped_step : (m : ℕ) (s : State) (outs : Outputs) → HasStopped (run_from m s outs) → stopping (run_from m s outs) (step (state_after m s))
stopped_step zero s outs h = h
stopped_step (suc m) s outs h = by (step s) refl (λ t put. stopped_step m t put) h
  where
    by : (event : Event) → step s ≡ event → ((t : State) (put : Outputs) → HasStopped (run_from m t put) → stopping (run_from m t put) (step (state_after m t)))
        → HasStopped (go_on event (run_from m) outs) → stopping (go_on event (run_from m) outs) (step (state_after m (behind event s)))
    by (Ran t) e later g = later t outs g
    by (Put word t) e later g = later t (outs ++ word ∷ []) g
    by (Over ending) e later g = ap step (stays m s (ap (λ x. behind x s) e)) ∙ e
    by (Trapped kind at) e later g = ap step (stays m s (ap (λ x. behind x s) e)) ∙ e

-- ---- what some steps of a run come to, seen from its start and from where they begin

-- what is reached, without the words put
abbrev alone : Reached → Reached
alone (Running outs) = Running []
alone (Ended outs ending) = Ended [] ending
alone (Stopped outs kind at) = Stopped [] kind at

-- the same is reached behind n steps more, and the words of those are put
pub record Since (from n : ℕ) (s : State) : Type 0 where
  pub same : alone (run_from (from + n) s []) ≡ alone (run_from n (state_after from s) [])
  pub outs : outs_between s from (from + n) ≡ outputs_reached (run_from n (state_after from s) [])

alone_ahead : (outs : Outputs) (r : Reached) → alone (ahead outs r) ≡ alone r
alone_ahead outs (Running more) = refl
alone_ahead outs (Ended more ending) = refl
alone_ahead outs (Stopped more kind at) = refl

outputs_ahead : (outs : Outputs) (r : Reached) → outputs_reached (ahead outs r) ≡ outs ++ outputs_reached r
outputs_ahead outs (Running more) = refl
outputs_ahead outs (Ended more ending) = refl
outputs_ahead outs (Stopped more kind at) = refl

drop_front : (outs more : Outputs) → drop (length outs) (outs ++ more) ≡ more
drop_front [] more = refl
drop_front (out ∷ outs) more = drop_front outs more

first_step : (n : ℕ) (s : State) (event : Event) → 0 < n → step s ≡ event → run_from n s [] ≡ go_on event (run_from (n - 1)) []
first_step zero s event some is = absurd (omega arith)
first_step (suc n) s event some is = let e : suc n - 1 ≡ n = omega arith in ap (λ x. go_on x (run_from n) []) is ∙ ap (λ k. go_on event (run_from k) []) (sym e)

pub since : (from n : ℕ) (s : State) → 0 < n → Since from n s
since from n s some = by (run_from from s []) refl
  where
    from_here : State
    from_here = state_after from s

    all : (r : Reached) → run_from from s [] ≡ r → run_from (from + n) s [] ≡ continued r (run_from n from_here)
    all r is = run_both from n s [] ∙ ap (λ x. continued x (run_from n from_here)) is

    -- no step was to come
    over : (r : Reached) (event : Event) → run_from from s [] ≡ r → step from_here ≡ event → run_from (from + n) s [] ≡ r → alone r ≡ go_on event (run_from (n - 1)) [] → Since from n s
    over r event is stop whole here =
        let more = first_step n from_here event some stop ∙ sym here in
        record {
          same = ap alone whole ∙ sym (twice r) ∙ ap alone (sym more);
          outs =
              ap (λ x. drop (length (outputs_reached x)) (outputs_reached (run_from (from + n) s []))) is
              ∙ ap (λ x. drop (length (outputs_reached r)) (outputs_reached x)) whole
              ∙ drop_all (length (outputs_reached r)) (outputs_reached r) (omega arith)
              ∙ sym (none r)
              ∙ ap outputs_reached (sym more);
        }
      where
        twice : (q : Reached) → alone (alone q) ≡ alone q
        twice (Running o) = refl
        twice (Ended o ending) = refl
        twice (Stopped o kind at) = refl

        none : (q : Reached) → outputs_reached (alone q) ≡ []
        none (Running o) = refl
        none (Ended o ending) = refl
        none (Stopped o kind at) = refl

    by : (r : Reached) → run_from from s [] ≡ r → Since from n s
    by (Running o) is =
        let whole = all (Running o) is ∙ ap (run_from n from_here) (sym (append-nil o)) ∙ run_ahead n from_here o [] in
        record {
          same = ap alone whole ∙ alone_ahead o (run_from n from_here []);
          outs =
              ap (λ x. drop (length (outputs_reached x)) (outputs_reached (run_from (from + n) s []))) is
              ∙ ap (λ x. drop (length o) (outputs_reached x)) whole
              ∙ ap (λ x. drop (length o) x) (outputs_ahead o (run_from n from_here []))
              ∙ drop_front o (outputs_reached (run_from n from_here []));
        }
    by (Ended o ending) is =
        over (Ended o ending) (Over ending) is (subst (λ x. stopping x (step from_here)) is (stopped_step from s [] (subst HasStopped (sym is) (tt {0})))) (all (Ended o ending) is) refl
    by (Stopped o kind at) is =
        over (Stopped o kind at) (Trapped kind at) is (subst (λ x. stopping x (step from_here)) is (stopped_step from s [] (subst HasStopped (sym is) (tt {0})))) (all (Stopped o kind at) is) refl

-- what doesn't depend on the words put
pub stopped_alike : (r q : Reached) → alone r ≡ alone q → HasStopped r → HasStopped q
stopped_alike r q e h = back q (subst HasStopped e (there r h))
  where
    there : (x : Reached) → HasStopped x → HasStopped (alone x)
    there (Running o) g = g
    there (Ended o ending) g = g
    there (Stopped o kind at) g = g

    back : (x : Reached) → HasStopped (alone x) → HasStopped x
    back (Running o) g = g
    back (Ended o ending) g = g
    back (Stopped o kind at) g = g

pub line_alike : (pc steps : ℕ) (r q : Reached) → alone r ≡ alone q → go_line pc steps r ≡ go_line pc steps q
line_alike pc steps r q e = sym (same r) ∙ ap (go_line pc steps) e ∙ same q
  where
    same : (x : Reached) → go_line pc steps (alone x) ≡ go_line pc steps x
    same (Running o) = refl
    same (Ended o ending) = refl
    same (Stopped o kind at) = refl
