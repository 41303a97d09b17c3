-- The code of entries gives the blocks of their runs, and so many in all as the runs cost.
use Rattle.std.proofs.Common.{◌≡◌, ◌⊎◌, inl, inr, ℕ, ◌+◌, Bool, true, false, ◌||◌, List, [], ◌∷◌, ◌++◌, length, Option, refl, ap, sym, ◌∙◌, subst, arith, length-append}
use Rattle.std.specs.Prelude.{⊤}
use Rattle.c25_isa.specs.Walk.{Placed, Known, nothing_known, along}
use Rattle.acc_code.specs.declared.operand.AccOperand.{AccOperand}
use Rattle.acc_code.specs.declared.operand.AccOperand.TheVariants as operand
use Rattle.acc_code.specs.AccSequence.{closed}
use Rattle.emit_blocks.specs.Steps.{Operation}
use Rattle.image_proof.specs.emit_control.declared.state.Before.{Before}
use Rattle.image_proof.specs.emit_control.declared.state.Before.TheVariants.{Open, Shut, Gone}
use Rattle.image_proof.specs.emit_control.Entries.{Entry, Run}
use Rattle.image_proof.specs.emit_control.Settings.{Setting, code_in}
use Rattle.image_proof.specs.emit_control.Cuts.{State, is_access, has_access, behind_run, entry_items, behind_entry, cut}
use Rattle.image_proof.specs.RunWalks.{placed_from, with_scalar, scalars_of}
use Rattle.image_proof.proofs.Gathered.{blocks_by}
use Rattle.image_proof.proofs.Apart.{CutFirst, ApartFrom, Apart}
use Rattle.image_proof.proofs.Folding.{total, total_closed}
use Rattle.image_proof.proofs.Straight.{run_straight}
use Rattle.image_proof.proofs.Quiet.{AreQuiet}
use Rattle.image_proof.proofs.Closing.{blocks_at, run_goes_on}
use Rattle.image_proof.proofs.EntrySorts.{is_open, entry_cost, IsCut, IsNoCode, IsRun, entry_sort}

-- what a run gives, wherever it stands and whatever is known before it
abbrev pub EntryGives : (Known → Placed → Option ℕ) → Setting → (List Operation → List ℕ) → Entry → Type 0
EntryGives gives m f (Run os) = (k : Known) (at : ℕ) → along gives k (placed_from at (code_in m os)) ≡ f os
EntryGives gives m f e = ⊤

abbrev pub RunsGive : (Known → Placed → Option ℕ) → Setting → (List Operation → List ℕ) → List Entry → Type 0
RunsGive gives m f [] = ⊤
RunsGive gives m f (e ∷ es) = EntryGives gives m f e × RunsGive gives m f es

-- and how many
abbrev pub EntryCosts : (Known → Placed → Option ℕ) → Setting → (List Operation → ℕ) → Entry → Type 0
EntryCosts gives m c (Run os) = (k : Known) (at : ℕ) → length (along gives k (placed_from at (code_in m os))) ≡ c os
EntryCosts gives m c e = ⊤

abbrev pub RunsCost : (Known → Placed → Option ℕ) → Setting → (List Operation → ℕ) → List Entry → Type 0
RunsCost gives m c [] = ⊤
RunsCost gives m c (e ∷ es) = EntryCosts gives m c e × RunsCost gives m c es

abbrev pub cost_in : (List Operation → ℕ) → List Entry → ℕ
cost_in c [] = 0
cost_in c (e ∷ es) = entry_cost c e + cost_in c es

-- a run without accesses
pub no_scalars : (os : List Operation) → has_access os ≡ false → scalars_of os ≡ []
no_scalars [] e = refl
no_scalars (o ∷ os) e = by o.operand e (λ f. no_scalars os f)
  where
    by : (m : AccOperand) → (is_access m || has_access os) ≡ false → (has_access os ≡ false → scalars_of os ≡ []) → with_scalar m (scalars_of os) ≡ []
    by operand.Nothing f more = more f
    by (operand.Scalar n) f more = absurd cc
    by (operand.Direct v) f more = more f
    by (operand.Param g n) f more = more f
    by (operand.Scratch n) f more = more f
    by (operand.Number w) f more = more f
    by (operand.Address v n) f more = more f
    by operand.Pointed f more = more f

-- behind a run with accesses a block is open; behind another one none is, where none was
open_behind : (a : Bool) (b : Before) → is_open b ≡ false → is_open (behind_run a b) ≡ a
open_behind true b e = refl
open_behind false Open e = absurd cc
open_behind false Shut e = refl
open_behind false Gone e = refl

module _ (gives : Known → Placed → Option ℕ) (marks : ℕ → ℕ) (names : List ℕ → ℕ) (q : AreQuiet gives) (m : Setting) where
  abbrev pub entries_at : Known → List ℕ → ℕ → State → List Entry → List (List ℕ)
  entries_at k block at s es = blocks_at gives marks names k block at (cut m s es)

  -- a block is open only where a cut comes before the next run
  pub record IsKept (s : State) (block : List ℕ) (es : List Entry) : Type 0 where
    pub first : is_open s.before ≡ true → CutFirst es
    pub none : is_open s.before ≡ false → block ≡ []

  module _ (f : List Operation → List ℕ) (silent : (os : List Operation) → has_access os ≡ false → f os ≡ []) where
    abbrev Found : List Entry → Type 0
    Found es = (s : State) (k : Known) (block : List ℕ) (at : ℕ) → IsKept s block es → entries_at k block at s es ≡ closed block (blocks_by f es)

    at_cut : (e : Entry) (es : List Entry) (s : State) (k : Known) (block : List ℕ) (at : ℕ) → IsCut gives marks names q (entry_items m s e) (behind_entry m s e).before e → Found es
        → entries_at k block at s (e ∷ es) ≡ closed block (blocks_by f (e ∷ es))
    at_cut e es s k block at c found =
        let x = c.closes.by k block at (cut m (behind_entry m s e) es) in
        x.is
        ∙ ap (closed block) (found (behind_entry m s e) nothing_known [] x.next (record { first = λ o. let shut = c.shuts in absurd cc; none = λ o. refl }))
        ∙ ap (closed block) (sym (c.no_run.blocks f (blocks_by f es)))

    at_no_code : (e : Entry) (es : List Entry) (s : State) (k : Known) (block : List ℕ) (at : ℕ) → IsKept s block (e ∷ es) → IsNoCode (entry_items m s e) s.before (behind_entry m s e).before e → Found es
        → entries_at k block at s (e ∷ es) ≡ closed block (blocks_by f (e ∷ es))
    at_no_code e es s k block at h n found =
        let kept : IsKept (behind_entry m s e) block es = record { first = λ o. let was = sym n.stays ∙ o in n.later was es (h.first was); none = λ o. h.none (sym n.stays ∙ o) } in
        ap (λ items. blocks_at gives marks names k block at (items ++ cut m (behind_entry m s e) es)) n.none
        ∙ found (behind_entry m s e) k block at kept
        ∙ ap (closed block) (sym (n.no_run.blocks f (blocks_by f es)))

    at_run : (os : List Operation) (es : List Entry) (s : State) (k : Known) (block : List ℕ) (at : ℕ) → IsKept s block (Run os ∷ es) → EntryGives gives m f (Run os) → CutFirst es → Found es
        → entries_at k block at s (Run os ∷ es) ≡ closed block (blocks_by f (Run os ∷ es))
    at_run os es s k block at h given apart found = by (is_open s.before) refl
      where
        kept : is_open s.before ≡ false → IsKept (behind_entry m s (Run os)) (f os) es
        kept e = record { first = λ o. apart; none = λ o. silent os (sym (open_behind (has_access os) s.before e) ∙ o) }

        by : (b : Bool) → is_open s.before ≡ b → entries_at k block at s (Run os ∷ es) ≡ closed block (blocks_by f (Run os ∷ es))
        by true e = absurd (h.first e)
        by false e =
            let x = run_goes_on gives marks names (code_in m os) k block at (cut m (behind_entry m s (Run os)) es) (run_straight m.places os) in
            let none : block ≡ [] = h.none e in
            x.is
            ∙ ap (λ more. blocks_at gives marks names x.known (more ++ along gives k (placed_from at (code_in m os))) x.next (cut m (behind_entry m s (Run os)) es)) none
            ∙ ap (λ more. blocks_at gives marks names x.known more x.next (cut m (behind_entry m s (Run os)) es)) (given k at)
            ∙ found (behind_entry m s (Run os)) x.known (f os) x.next (kept e)
            ∙ ap (λ more. closed more (closed (f os) (blocks_by f es))) (sym none)

    pub entries_give : (es : List Entry) → RunsGive gives m f es → Apart es → Found es
    entries_give [] given apart s k block at h = refl
    entries_give (e ∷ es) given apart s k block at h = by e given.0 apart.0 h (entry_sort gives marks names q m s e) (entries_give es given.1 apart.1)
      where
        by : (e : Entry) → EntryGives gives m f e → ApartFrom e es → IsKept s block (e ∷ es)
            → IsCut gives marks names q (entry_items m s e) (behind_entry m s e).before e ⊎ (IsNoCode (entry_items m s e) s.before (behind_entry m s e).before e ⊎ IsRun gives marks names q m e)
            → Found es → entries_at k block at s (e ∷ es) ≡ closed block (blocks_by f (e ∷ es))
        by e g a h (inl c) found = at_cut e es s k block at c found
        by e g a h (inr (inl n)) found = at_no_code e es s k block at h n found
        by e g a h (inr (inr r)) found =
            subst (λ x. EntryGives gives m f x → ApartFrom x es → IsKept s block (x ∷ es) → entries_at k block at s (x ∷ es) ≡ closed block (blocks_by f (x ∷ es))) (sym r.is)
            (λ g a h. at_run r.operations es s k block at h g a found) g a h

  module _ (c : List Operation → ℕ) where
    abbrev Counted : List Entry → Type 0
    Counted es = (s : State) (k : Known) (block : List ℕ) (at : ℕ) → total (entries_at k block at s es) ≡ length block + cost_in c es

    cut_counts : (e : Entry) (es : List Entry) (s : State) (k : Known) (block : List ℕ) (at : ℕ) → IsCut gives marks names q (entry_items m s e) (behind_entry m s e).before e → Counted es
        → total (entries_at k block at s (e ∷ es)) ≡ length block + cost_in c (e ∷ es)
    cut_counts e es s k block at x counted =
        let y = x.closes.by k block at (cut m (behind_entry m s e) es) in
        let behind : total (entries_at nothing_known [] y.next (behind_entry m s e) es) ≡ 0 + cost_in c es = counted (behind_entry m s e) nothing_known [] y.next in
        ap total y.is ∙ total_closed block (entries_at nothing_known [] y.next (behind_entry m s e) es) ∙ omega (arith, behind, x.no_run.cost c)

    no_code_counts : (e : Entry) (es : List Entry) (s : State) (k : Known) (block : List ℕ) (at : ℕ) → IsNoCode (entry_items m s e) s.before (behind_entry m s e).before e → Counted es
        → total (entries_at k block at s (e ∷ es)) ≡ length block + cost_in c (e ∷ es)
    no_code_counts e es s k block at n counted =
        ap (λ items. total (blocks_at gives marks names k block at (items ++ cut m (behind_entry m s e) es))) n.none
        ∙ omega (arith, counted (behind_entry m s e) k block at, n.no_run.cost c)

    run_counts : (os : List Operation) (es : List Entry) (s : State) (k : Known) (block : List ℕ) (at : ℕ) → EntryCosts gives m c (Run os) → Counted es
        → total (entries_at k block at s (Run os ∷ es)) ≡ length block + cost_in c (Run os ∷ es)
    run_counts os es s k block at costs counted =
        let x = run_goes_on gives marks names (code_in m os) k block at (cut m (behind_entry m s (Run os)) es) (run_straight m.places os) in
        let given : List ℕ = along gives k (placed_from at (code_in m os)) in
        ap total x.is ∙ omega (arith, counted (behind_entry m s (Run os)) x.known (block ++ given) x.next, length-append block given, costs k at)

    pub entries_count : (es : List Entry) → RunsCost gives m c es → Counted es
    entries_count [] costs s k block at = total_closed block [] ∙ omega arith
    entries_count (e ∷ es) costs s k block at = by e costs.0 (entry_sort gives marks names q m s e) (entries_count es costs.1)
      where
        by : (e : Entry) → EntryCosts gives m c e
            → IsCut gives marks names q (entry_items m s e) (behind_entry m s e).before e ⊎ (IsNoCode (entry_items m s e) s.before (behind_entry m s e).before e ⊎ IsRun gives marks names q m e)
            → Counted es → total (entries_at k block at s (e ∷ es)) ≡ length block + cost_in c (e ∷ es)
        by e g (inl x) counted = cut_counts e es s k block at x counted
        by e g (inr (inl n)) counted = no_code_counts e es s k block at n counted
        by e g (inr (inr r)) counted =
            subst (λ x. EntryCosts gives m c x → total (entries_at k block at s (x ∷ es)) ≡ length block + cost_in c (x ∷ es)) (sym r.is)
            (λ g. run_counts r.operations es s k block at g counted) g
