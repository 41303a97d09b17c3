-- The items of a Clear make the words of its cells 0 and leave all others that are in use.
use Rattle.std.proofs.Common.{◌≡◌, ◌≢◌, ◌⊎◌, inl, inr, ⊎_elim, ℕ, ◌+◌, ◌-◌, ◌*◌, ◌^◌, ◌<◌, ◌≤◌, Bool, true, false, List, [], ◌∷◌, ◌++◌, length, map, Option, Some, None, refl, sym, ap, ◌∙◌, subst, cond, arith}
use Rattle.std.specs.Prelude.{◌==◌, if◌then◌else◌, nat_lt, slice_get}
use Rattle.std.proofs.lemmas.Bool.{ltb-true, ltb-false, eqb-true, eqb-false, eq-eqb, ne_eqb}
use Rattle.std.proofs.lemmas.Bool.Decides.{leb_tells, eqb_tells}
use Rattle.std.proofs.lemmas.Option.{none-some, same_Some}
use Rattle.c25_isa.specs.declared.instruction.Instr.{Instr}
use Rattle.c25_isa.specs.declared.instruction.Instr.TheVariants.{Lrlk}
use Rattle.c25_isa.specs.State.{Memory, write}
use Rattle.c25_isa.specs.Step.{wrap16, wrap32, extended}
use Rattle.c25_code.specs.Work.{Work, InRange}
use Rattle.c25_code.specs.CodeRuns.{CodeRuns}
use Rattle.c25_code.specs.ClearingLoops.{zeroed, behind_clearing}
use Rattle.c25_code.proofs.ClearingLoops.{zeroed_in, zeroed_out}
use Rattle.c25_code.proofs.Writes.{write_same, write_other}
use Rattle.ir_semantics.specs.Outside.{Nowhere, Holds, no_words}
use Rattle.ir_semantics.specs.AccRows.{Gone}
use Rattle.ir_semantics.specs.AccRun.{Machine}
use Rattle.emit_control.specs.Cuts.{count_instr}
use Rattle.emit_blocks.specs.Places.{SCRATCH}
use Rattle.emit_proof.specs.Standing.{IsReserved, OfScalar, OfScratch, OfParameter, OfCaller, scalar_address, parameter_address, StandsBeside}
use Rattle.emit_proof.specs.Registers.{IsAsKnown}
use Rattle.emit_proof.specs.Sites.{Site, IsSite, Beside}
use Rattle.emit_proof.proofs.LabelClearing.{Cleared, with_cells}

-- a state behind a Clear: nothing is known of scratch words, the accumulator and pointers
abbrev pub behind_wiping : Machine → Machine
behind_wiping v = record v { registers = record v.registers { acc = Gone; pointed = None }; scratch = no_words }

module _ (k : Site) (site : IsSite k) (c n : ℕ) (v u : Machine) (cleared : Cleared k.lives c n v u) where
  -- a word that is no living object's is none of these cells
  outside : (a : ℕ) → k.lives a ≡ false → (a < c) ⊎ (c + n ≤ a)
  outside a dead = by (nat_lt a c) refl
    where
      alive : true ≡ false → ⊥
      alive e = cc

      by2 : (b : Bool) → nat_lt a (c + n) ≡ b → c ≤ a → (a < c) ⊎ (c + n ≤ a)
      by2 true e low = absurd (alive (sym (cleared.lived a low (ltb-true a (c + n) e)) ∙ dead))
      by2 false e low = inr (ltb-false a (c + n) e)

      by : (b : Bool) → nat_lt a c ≡ b → (a < c) ⊎ (c + n ≤ a)
      by true e = inl (ltb-true a c e)
      by false e = by2 (nat_lt a (c + n)) refl (ltb-false a c e)

  -- memory with these words 0
  kept : (ram : Memory) (a : ℕ) → k.lives a ≡ false → zeroed c n ram a ≡ ram a
  kept ram a dead = zeroed_out c n ram a (outside a dead)

  stays_nowhere : (a : ℕ) → k.lives a ≡ false → v.outside.memory a ≡ Nowhere → u.outside.memory a ≡ Nowhere
  stays_nowhere a dead e = cleared.elsewhere a (outside a dead) ∙ e

  memory_kept : (ram : Memory) → ((a x : ℕ) → v.outside.memory a ≡ Holds x → ram a ≡ x) → (a x : ℕ) → u.outside.memory a ≡ Holds x → zeroed c n ram a ≡ x
  memory_kept ram old a x is = by (nat_lt a c) refl
    where
      same : {y z : ℕ} → Holds y ≡ Holds z → y ≡ z
      same e = cc

      out : (a < c) ⊎ (c + n ≤ a) → zeroed c n ram a ≡ x
      out o = zeroed_out c n ram a o ∙ old a x (sym (cleared.elsewhere a o) ∙ is)

      by2 : (b : Bool) → nat_lt a (c + n) ≡ b → c ≤ a → zeroed c n ram a ≡ x
      by2 true e low = let top = ltb-true a (c + n) e in zeroed_in c n ram a low top ∙ same (sym (cleared.inside a low top) ∙ is)
      by2 false e low = out (inr (ltb-false a (c + n) e))

      by : (b : Bool) → nat_lt a c ≡ b → zeroed c n ram a ≡ x
      by true e = out (inl (ltb-true a c e))
      by false e = by2 (nat_lt a (c + n)) refl (ltb-false a c e)

  -- beside the state behind a Clear is any work with these words 0, an accumulator and AR1 of any value, and else as before
  pub record IsWiped (w w2 : Work) : Type 0 where
    pub t : w2.t ≡ w.t
    pub p : w2.p ≡ w.p
    pub sxm : w2.sxm ≡ w.sxm
    pub stack : w2.stack ≡ w.stack
    pub input : w2.input ≡ w.input
    pub ram : w2.ram ≡ zeroed c n w.ram
    pub range : InRange w2

  wiped_stands : (ram : Memory) → StandsBeside k.places k.counts k.kept v ram → StandsBeside k.places k.counts k.kept (behind_wiping (with_cells u.outside.memory v)) (zeroed c n ram)
  wiped_stands ram s = record {
    frame = λ i x is. let old = s.frame i x is in (old.0, kept ram (scalar_address k.places i) (site.dead (scalar_address k.places i) (OfScalar i old.0)) ∙ old.1);
    scratch = λ i x is. absurd (none-some x is);
    given = λ i x is. let old = s.given i x is in (old.0, kept ram (parameter_address k.places v.given_to i) (site.dead (parameter_address k.places v.given_to i) (OfParameter v.given_to i old.0)) ∙ old.1);
    memory = memory_kept ram s.memory;
    callers = λ a x is. kept ram a (site.dead a (OfCaller a x is)) ∙ s.callers a x is;
    reserved = λ a reserved. stays_nowhere a (site.dead a reserved) (s.reserved a reserved);
  }

  pub wiped_beside : (w w2 : Work) → Beside k v w → IsWiped w w2 → Beside k (behind_wiping (with_cells u.outside.memory v)) w2
  wiped_beside w w2 h is =
      let r = h.registers in
      record {
        stands = subst (StandsBeside k.places k.counts k.kept (behind_wiping (with_cells u.outside.memory v))) (sym is.ram) (wiped_stands w.ram h.stands);
        nowhere = λ a dead. stays_nowhere a dead (h.nowhere a dead);
        registers = record { acc = tt; t = subst (IsAsKnown v.registers.t) (sym is.t) r.t; p = subst (IsAsKnown v.registers.p) (sym is.p) r.p; sxm = subst (IsAsKnown v.registers.sxm) (sym is.sxm) r.sxm };
        pointed = λ q e. absurd (none-some q e);
        input = is.input ∙ h.input;
        stack = is.stack ∙ h.stack;
        range = is.range;
      }
