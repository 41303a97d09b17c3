-- Assignments: to a name, and through a pointer that comes before the value.
use Rattle.std.proofs.Common.{◌≡◌, ℕ, ◌+◌, Bool, true, List, ◌∷◌, Option, Some, None, refl, sym, subst, arith}
use Rattle.word_base.specs.declared.outcome.UndefinedKind.TheVariants.{BadPointer}
use Rattle.c_tree.specs.declared.program.VarRef.{VarRef}
use Rattle.c_tree.specs.declared.program.VarRef.TheVariants.{Scalar, Local, Static}
use Rattle.tree_code_proof.specs.Counted as source
use Rattle.c_tree.specs.Store.{Value, Word, Pointer, Null}
use Rattle.tree_code_proof.specs.Counted.{World}
use Rattle.tree_code_proof.specs.Evaluated as evaluation
use Rattle.tree_code_proof.specs.Evaluated.{spot_of}
use Rattle.ir_semantics.specs.Parts.{Does, after, ◌>>=◌}
use Rattle.ir_semantics.specs.TreeRun as run
use Rattle.ir_semantics.specs.TreeRun.{Tree, Addresses, need}
use Rattle.tree_code_proof.specs.Seats.{Seat, Vacant, LiesAt, InFrame, Waits, Seats, PointsAt}
use Rattle.tree_code_proof.specs.Beside.{Held, Alike, LiesThere, IsSeatOf}
use Rattle.tree_code_proof.proofs.Growing.{Grows, bind_grows, write_name_grows, write_word_grows}
use Rattle.tree_code_proof.proofs.Rules.{Post, Rel, rel_after}
use Rattle.tree_code_proof.proofs.Reading.{Valued, let_second_go, failing}
use Rattle.tree_code_proof.proofs.Writing.{write_at}
use Rattle.tree_code_proof.proofs.WritingScalars.{write_in_frame}
use Rattle.tree_code_proof.proofs.Forms.{Optional, Values, Forms, some_kept, worked}

-- two operands, the second one while the first is held
pub both_kept : {seats : Seats} {p q : Bool} {f h : source.Does Value} {g k : Does Tree ℕ} {A B : Type 0} (r : List Held → Post A B) (next : Value → Value → source.Does A) (then_does : ℕ → ℕ → Does Tree B) → Values seats p f g → Values seats q h k
    → ((x y : ℕ) → Grows (then_does x y))
    → ((hs : List Held) (v : Value) (x : ℕ) (u : Value) (y : ℕ) (w : World) (t : Tree) → Alike seats (record { pointing = q; value = u; word = y } ∷ record { pointing = p; value = v; word = x } ∷ hs) w t → Rel (r hs) (next v u w) (then_does x y t))
    → (hs : List Held) (w : World) (t : Tree) → Alike seats hs w t → Rel (r hs) (source.after (f w) (λ v. source.◌>>=◌ h (λ u. next v u))) (after (g t) (λ x. k >>= λ y. then_does x y))
both_kept {seats = seats} {p = p} {q = q} {f = f} {h = h} {g = g} {k = k} r next then_does a b grow step hs w t s =
    rel_after (Valued seats hs p) (r hs) (f w) (g t) _ _ (a.by hs w t s) (λ x. bind_grows b.grows (λ y. grow x y))
    (λ v x w t s. rel_after (Valued seats (record { pointing = p; value = v; word = x } ∷ hs) q) (r hs) (h w) (k t) _ _ (b.by _ w t s) (λ y. grow x y) (λ u y w t s. step hs v x u y w t s))

module _ (seats : Seats) where
  write_memory : (hs : List Held) (w : World) (t : Tree) (wanted : Bool) (v : Value) (x : ℕ) (a : Alike seats (record { pointing = wanted; value = v; word = x } ∷ hs) w t) (object : ℕ) (at : ℕ) (b : Option ℕ) (s : Seat) → seats.seat object ≡ s → LiesThere b s
      → Rel (Valued seats hs wanted) (source.save object 0 wanted v at w) (after (need b t) (λ y. run.write_word y x))
  write_memory hs w t wanted v x a object at None s is h = absurd h
  write_memory hs w t wanted v x a object at (Some b) Vacant is h = absurd h
  write_memory hs w t wanted v x a object at (Some b) (LiesAt c n) is h = write_at seats hs w t wanted v x a object 0 b at (subst (λ s. PointsAt s 0 b) (sym is) (omega arith, omega (arith, h)))
  write_memory hs w t wanted v x a object at (Some b) (InFrame k) is h = absurd h
  write_memory hs w t wanted v x a object at (Some b) (Waits o) is h = absurd h

  pub write_named : (addresses : Addresses) (name : VarRef) (hs : List Held) (w : World) (t : Tree) (wanted : Bool) (v : Value) (x : ℕ) (a : Alike seats (record { pointing = wanted; value = v; word = x } ∷ hs) w t) (object : ℕ) (at : ℕ) → IsSeatOf addresses name (seats.seat object)
      → Rel (Valued seats hs wanted) (source.save object 0 wanted v at w) (run.write_name addresses name x t)
  write_named addresses (Scalar n) hs w t wanted v x a object at h = write_in_frame seats hs w t wanted v x a object n at h
  write_named addresses (Local n) hs w t wanted v x a object at h = write_memory hs w t wanted v x a object at (addresses (Local n)) (seats.seat object) refl h
  write_named addresses (Static n) hs w t wanted v x a object at h = write_memory hs w t wanted v x a object at (addresses (Static n)) (seats.seat object) refl h

  pub assign_name_kept : {f : source.Does Value} {g : Does Tree ℕ} (addresses : Addresses) (name : VarRef) (object : ℕ) (wanted : Bool) (at : ℕ) → IsSeatOf addresses name (seats.seat object) → Values seats wanted f g
      → Forms seats wanted (source.ticked 19 (source.◌>>=◌ f (λ x. source.◌>>=◌ (source.save object 0 wanted x at) evaluation.some))) (run.assign_name_does addresses name g)
  assign_name_kept {f = f} {g = g} addresses name object wanted at is h = record {
    by = λ hs w t a.
        rel_after (Valued seats hs wanted) (Optional seats hs wanted) (f (record w { work = w.work + 19 })) (g (record t { work = t.work + 19 })) _ (λ x. run.write_name addresses name x) (h.by hs _ _ (worked seats hs w t _ a)) (λ x. write_name_grows addresses name x)
        (λ v x w t a. some_kept seats hs wanted (source.save object 0 wanted v at w) (run.write_name addresses name x t) (write_named addresses name hs w t wanted v x a object at is));
  }

  -- through a pointer
  assigned : (wanted : Bool) (at : ℕ) (hs : List Held) (p : Value) (y : ℕ) (v : Value) (x : ℕ) (w : World) (t : Tree) → Alike seats (record { pointing = wanted; value = v; word = x } ∷ record { pointing = true; value = p; word = y } ∷ hs) w t
      → Rel (Optional seats hs wanted) (source.after (spot_of p at w) (λ s. source.◌>>=◌ (source.save s.0 s.1 wanted v at) evaluation.some)) (run.write_word y x t)
  assigned wanted at hs (Word z) y v x w t a = absurd a.held.1.0
  assigned wanted at hs Null y v x w t a = failing seats _ (Optional seats hs wanted) BadPointer at w t (run.write_word y x) a (write_word_grows y x)
  assigned wanted at hs (Pointer object i) y v x w t a =
      some_kept seats hs wanted (source.save object i wanted v at w) (run.write_word y x t) (write_at seats hs w t wanted v x (let_second_go seats hs _ _ w t a) object i y at a.held.1.0.1.1)

  pub assign_at_kept : {f h : source.Does Value} {g k : Does Tree ℕ} (wanted : Bool) (at : ℕ) → Values seats true f g → Values seats wanted h k
      → Forms seats wanted (source.ticked 19 (source.◌>>=◌ f (λ q. source.◌>>=◌ h (λ x. source.◌>>=◌ (spot_of q at) (λ s. source.◌>>=◌ (source.save s.0 s.1 wanted x at) evaluation.some))))) (run.assign_at_does g k)
  assign_at_kept wanted at a b = record {
    by = λ hs w t s.
        both_kept (λ hs. Optional seats hs wanted) (λ q x. source.◌>>=◌ (spot_of q at) (λ s. source.◌>>=◌ (source.save s.0 s.1 wanted x at) evaluation.some)) (λ y x. run.write_word y x) a b (λ y x. write_word_grows y x) (assigned wanted at) hs _ _
        (worked seats hs w t _ s);
  }
