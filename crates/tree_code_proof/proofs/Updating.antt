-- Assignments with an operator: to a name, and through a pointer that comes before the value.
use Rattle.std.proofs.Common.{ℕ, ◌+◌, Bool, true, List, ◌∷◌}
use Rattle.word_base.specs.Words.{Calc}
use Rattle.word_base.specs.declared.outcome.UndefinedKind.TheVariants.{BadPointer}
use Rattle.c_tree.specs.declared.program.VarRef.{VarRef}
use Rattle.tree_code_proof.specs.Counted as source
use Rattle.c_tree.specs.Store.{Value, Word, Pointer, Null}
use Rattle.tree_code_proof.specs.Counted.{World}
use Rattle.tree_code_proof.specs.Evaluated as evaluation
use Rattle.tree_code_proof.specs.Evaluated.{spot_of}
use Rattle.ir_semantics.specs.Parts.{Does, after, ◌>>=◌}
use Rattle.ir_semantics.specs.TreeRun as run
use Rattle.ir_semantics.specs.TreeRun.{Tree, Addresses}
use Rattle.tree_code_proof.specs.Seats.{Seats}
use Rattle.tree_code_proof.specs.Beside.{Held, IsSeatOf}
use Rattle.tree_code_proof.proofs.Growing.{Grows, bind_grows, calc_grows, read_word_grows, write_name_grows, write_word_grows}
use Rattle.tree_code_proof.proofs.Rules.{Rel, rel_after}
use Rattle.tree_code_proof.proofs.Reading.{Valued, let_go, failing, read_at}
use Rattle.tree_code_proof.proofs.Writing.{write_at}
use Rattle.tree_code_proof.proofs.Forms.{Optional, Values, Forms, some_kept, read_named, worked}
use Rattle.tree_code_proof.proofs.Assigning.{write_named}
use Rattle.tree_code_proof.proofs.Using.{grouped, without_some}
use Rattle.tree_code_proof.proofs.Binaries.{Operates}

module _ (seats : Seats) {q : Bool} {h : source.Does Value} {k : Does Tree ℕ} (wanted : Bool) (next : Value → Value → source.Does Value) (c : ℕ → ℕ → Calc) (o : Operates seats wanted q wanted next c) (b : Values seats q h k) (place : ℕ) where
  -- an operand, the operator, and what takes its value
  operated : (hs : List Held) (save : Value → source.Does Value) (write : ℕ → Does Tree ℕ) → ((z : ℕ) → Grows (write z))
      → ((v : Value) (z : ℕ) (w : World) (t : Tree) → Valued seats hs wanted v z w t → Rel (Valued seats hs wanted) (save v w) (write z t)) → (v : Value) (x : ℕ) (w : World) (t : Tree) → Valued seats hs wanted v x w t
      → Rel (Optional seats hs wanted) (source.after (h w) (λ u. source.◌>>=◌ (next v u) (λ z. source.◌>>=◌ (save z) evaluation.some))) (after (k t) (λ y. run.calc (c x y) >>= λ z. write z))
  operated hs save write grow saved v x w t s =
      rel_after (Valued seats (record { pointing = wanted; value = v; word = x } ∷ hs) q) (Optional seats hs wanted) (h w) (k t) _ _ (b.by _ w t s) (λ y. bind_grows (calc_grows (c x y)) grow)
      (λ u y w t s. rel_after (Valued seats hs wanted) (Optional seats hs wanted) (next v u w) (run.calc (c x y) t) _ write
      (without_some seats hs wanted (next v u w) (run.calc (c x y) t) (o.by hs w t (let_go seats hs _ w t (let_go seats _ _ w t s)) v x u y s.held.1.0 s.held.0)) grow
      (λ z m w t s. some_kept seats hs wanted (save z w) (write m t) (saved z m w t s)))

  pub update_name_kept : (addresses : Addresses) (name : VarRef) (object : ℕ) → IsSeatOf addresses name (seats.seat object)
      → Forms seats wanted (source.ticked 48 (source.◌>>=◌ (source.load object 0 wanted place) (λ x. source.◌>>=◌ h (λ y. source.◌>>=◌ (next x y) (λ z. source.◌>>=◌ (source.save object 0 wanted z place) evaluation.some))))) (run.update_name_does addresses c name k)
  update_name_kept addresses name object is = record {
    by = λ hs w t a.
        rel_after (Valued seats hs wanted) (Optional seats hs wanted) (source.load object 0 wanted place (record w { work = w.work + 48 })) (run.read_name addresses name (record t { work = t.work + 48 })) _ _ (read_named seats addresses name hs _ _ (worked seats hs w t _ a) object wanted place is)
        (λ x. bind_grows b.grows (λ y. bind_grows (calc_grows (c x y)) (λ z. write_name_grows addresses name z)))
        (operated hs (λ z. source.save object 0 wanted z place) (λ z. run.write_name addresses name z) (λ z. write_name_grows addresses name z)
        (λ v z w t s. write_named seats addresses name hs w t wanted v z s object place is));
  }

  -- through a pointer, which is held meanwhile
  updated_at : (hs : List Held) (p : Value) (y : ℕ) (w : World) (t : Tree) → Valued seats hs true p y w t
      → Rel (Optional seats hs wanted) (source.after (spot_of p place w) (λ s. source.◌>>=◌ (source.load s.0 s.1 wanted place) (λ x. source.◌>>=◌ h (λ y. source.◌>>=◌ (next x y) (λ z. source.◌>>=◌ (source.save s.0 s.1 wanted z place) evaluation.some)))))
      (after (run.read_word y t) (λ x. k >>= λ u. run.calc (c x u) >>= λ z. run.write_word y z))
  updated_at hs (Word x) y w t a = absurd a.held.0
  updated_at hs Null y w t a =
      failing seats _ (Optional seats hs wanted) BadPointer place w t (run.read_word y >>= λ x. k >>= λ u. run.calc (c x u) >>= λ z. run.write_word y z) a
      (bind_grows (read_word_grows y) (λ x. bind_grows b.grows (λ u. bind_grows (calc_grows (c x u)) (λ z. write_word_grows y z))))
  updated_at hs (Pointer object i) y w t a =
      rel_after (Valued seats hs wanted) (Optional seats hs wanted) (source.load object i wanted place w) (run.read_word y t) _ _ (read_at seats hs w t (let_go seats hs _ w t a) object i y wanted place a.held.0.1.1)
      (λ x. bind_grows b.grows (λ u. bind_grows (calc_grows (c x u)) (λ z. write_word_grows y z)))
      (operated hs (λ z. source.save object i wanted z place) (λ z. run.write_word y z) (λ z. write_word_grows y z) (λ v z w t s. write_at seats hs w t wanted v z s object i y place a.held.0.1.1))

  pub update_at_kept : {f : source.Does Value} {g : Does Tree ℕ} → Values seats true f g
      → Forms seats wanted
      (source.ticked 48 (source.◌>>=◌ (source.◌>>=◌ f (λ p. spot_of p place)) (λ s. source.◌>>=◌ (source.load s.0 s.1 wanted place) (λ x. source.◌>>=◌ h (λ y. source.◌>>=◌ (next x y) (λ z. source.◌>>=◌ (source.save s.0 s.1 wanted z place) evaluation.some))))))
      (run.update_at_does c g k)
  update_at_kept {f = f} {g = g} d = record {
    by = λ hs w t a.
        grouped (Optional seats hs wanted) (f (record w { work = w.work + 48 })) (λ p. spot_of p place) _ _
        (rel_after (Valued seats hs true) (Optional seats hs wanted) (f (record w { work = w.work + 48 })) (g (record t { work = t.work + 48 })) _ _ (d.by hs _ _ (worked seats hs w t _ a))
        (λ y. bind_grows (read_word_grows y) (λ x. bind_grows b.grows (λ u. bind_grows (calc_grows (c x u)) (λ z. write_word_grows y z)))) (updated_at hs));
  }
