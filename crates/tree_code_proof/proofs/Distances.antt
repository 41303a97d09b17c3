-- The distance of two pointers into one object is that of their addresses.
use Rattle.std.proofs.Common.{◌≡◌, ◌≢◌, ℕ, ◌+◌, ◌<◌, Bool, true, false, List, Option, Some, None, refl, sym, ap, ◌∙◌, subst, arith}
use Rattle.std.specs.Prelude.{ℤ, pos, negsuc, ◌-ℤ◌, ◌==◌, if◌then◌else◌}
use Rattle.std.proofs.lemmas.Bool.{eqb-true, cond_below}
use Rattle.std.proofs.lemmas.Int.{ints}
use Rattle.word_base.specs.Words.{Good, Bad, signed_of, low16, unsigned_subtract}
use Rattle.word_base.specs.declared.outcome.UndefinedKind.TheVariants.{BadPointer, Overflow}
use Rattle.c_syntax.specs.declared.operator.BinaryOp.TheVariants as op
use Rattle.c_tree.specs.TypedTree.{Kind}
use Rattle.tree_code_proof.specs.Counted as source
use Rattle.c_tree.specs.Store.{Value, Word, Pointer, Null, Obj}
use Rattle.tree_code_proof.specs.Counted.{World}
use Rattle.tree_code_proof.specs.Evaluated as evaluation
use Rattle.c_tree.specs.Store as store
use Rattle.c_tree.specs.Eval as plain
use Rattle.ir_semantics.specs.Parts.{Gives, give}
use Rattle.ir_semantics.specs.TreeRun as run
use Rattle.ir_semantics.specs.TreeRun.{Tree}
use Rattle.tree_code_proof.specs.Seats.{Seats, Vacant, ValueAlike}
use Rattle.tree_code_proof.specs.Beside.{Held, Alike}
use Rattle.tree_code_proof.proofs.Growing.{give_grows}
use Rattle.tree_code_proof.proofs.Rules.{Rel}
use Rattle.tree_code_proof.proofs.Pointers.{Points, to_living, one_start}
use Rattle.tree_code_proof.proofs.Reading.{holding, failing}
use Rattle.tree_code_proof.proofs.Forms.{Optional}
use Rattle.tree_code_proof.proofs.Comparing.{lives}

-- the low 16 bits of a number are a word
pub low16_few : (z : ℤ) → low16 z < 65536
low16_few (pos n) = omega arith
low16_few (negsuc n) = omega arith

same_difference : (a i j y z : ℕ) → y ≡ a + i → z ≡ a + j → pos i -ℤ pos j ≡ pos y -ℤ pos z
same_difference a i j y z p q = omega (arith, ints, p, q)

module _ (seats : Seats) (hs : List Held) (w : World) (t : Tree) (a : Alike seats hs w t) (at : ℕ) where
  fails : (x : ℕ) → Rel (Optional seats hs false) (source.after (source.fail BadPointer at w) evaluation.some) (Gives x t)
  fails x = failing seats hs (Optional seats hs false) BadPointer at w t (give x) a (give_grows x)

  fitted : (d e : ℤ) (b : Bool) → d ≡ e → Rel (Optional seats hs false) (source.after (evaluation.calc (if b then Bad Overflow else Good (low16 d)) at w) evaluation.some) (Gives (low16 e) t)
  fitted d e true is = failing seats hs (Optional seats hs false) Overflow at w t (give (low16 e)) a (give_grows (low16 e))
  fitted d e false is = holding seats hs (record { pointing = false; value = Word (low16 d); word = low16 e }) w t a (ap low16 is, low16_few e)

  -- indices into one object, of at most 32,767 cells
  distance : (k i y j z : ℕ) → Points seats k i y → Points seats k j z → Rel (Optional seats hs false) (source.after (evaluation.ordering op.Sub i j at w) evaluation.some) (Gives (low16 (pos y -ℤ pos z)) t)
  distance k i y j z p q =
      let start = one_start seats k i y j z p q in
      let most = (a.seated.place k p.start p.count p.seat).most in
      let most_too = (a.seated.place k q.start q.count q.seat).most in
      let left : signed_of i ≡ pos i = sym (cond_below i 32768 (pos i) (pos i -ℤ pos 65536) (omega (arith, p.within, most))) in
      let right : signed_of j ≡ pos j = sym (cond_below j 32768 (pos j) (pos j -ℤ pos 65536) (omega (arith, q.within, most_too))) in
      let same : pos i -ℤ pos j ≡ pos y -ℤ pos z = same_difference p.start i j y z p.word (q.word ∙ ap (λ s. s + j) (sym start)) in
      fitted (signed_of i -ℤ signed_of j) (pos y -ℤ pos z) _ (ap (λ n. n -ℤ signed_of j) left ∙ ap (λ n. pos i -ℤ n) right ∙ same)

  if_lives : (next : store.Does Value) (x k : ℕ) (p : Option Obj) → w.store.living k ≡ p → (seats.seat k ≢ Vacant → Rel (Optional seats hs false) (source.after (source.free next w) evaluation.some) (Gives x t))
      → Rel (Optional seats hs false) (source.after (source.free (plain.if_living p at next) w) evaluation.some) (Gives x t)
  if_lives next x k None e h = fails x
  if_lives next x k (Some o) e h = h (lives seats w.store.made (seats.seat k) (w.store.living k) o t.outside.memory t.frame (a.objects k) e)

  two_objects : (k i y l j z : ℕ) (b : Bool) → (k == l) ≡ b → Points seats k i y → Points seats l j z
      → Rel (Optional seats hs false) (source.after (source.free (if b then plain.ordering op.Sub i j at else plain.equality op.Sub false at) w) evaluation.some) (Gives (low16 (pos y -ℤ pos z)) t)
  two_objects k i y l j z true e p q = distance k i y j z p (subst (λ l. Points seats l j z) (sym (eqb-true k l e)) q)
  two_objects k i y l j z false e p q = fails (low16 (pos y -ℤ pos z))

  -- two values of pointer types
  pub distance_kept : (m n : Kind) (v u : Value) (y z : ℕ) → ValueAlike seats w.store.made true v y → ValueAlike seats w.store.made true u z
      → Rel (Optional seats hs false) (source.after (evaluation.of_two op.Sub m n v u at w) evaluation.some) (run.calc (unsigned_subtract y z) t)
  distance_kept m n (Word x) u y z p q = absurd p
  distance_kept m n (Pointer k i) (Word x) y z p q = absurd q
  distance_kept m n (Pointer k i) (Pointer l j) y z p q =
      if_lives _ (low16 (pos y -ℤ pos z)) k (w.store.living k) refl
      (λ v. if_lives _ (low16 (pos y -ℤ pos z)) l (w.store.living l) refl (λ u. two_objects k i y l j z (k == l) refl (to_living seats k i y (seats.seat k) refl v p.1.1) (to_living seats l j z (seats.seat l) refl u q.1.1)))
  distance_kept m n (Pointer k i) Null y z p q = if_lives _ (low16 (pos y -ℤ pos z)) k (w.store.living k) refl (λ v. fails (low16 (pos y -ℤ pos z)))
  distance_kept m n Null (Word x) y z p q = absurd q
  distance_kept m n Null (Pointer l j) y z p q = if_lives _ (low16 (pos y -ℤ pos z)) l (w.store.living l) refl (λ v. fails (low16 (pos y -ℤ pos z)))
  distance_kept m n Null Null y z p q = fails (low16 (pos y -ℤ pos z))
