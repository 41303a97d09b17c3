-- A value one up or down: the value behind the step, or that before it.
use Rattle.std.proofs.Common.{◌≡◌, ℕ, Bool, true, false, List, ◌∷◌, Option, Some, None, refl, subst, arith}
use Rattle.std.specs.Prelude.{⊤}
use Rattle.word_base.specs.Words.{Calc}
use Rattle.word_base.specs.declared.outcome.UndefinedKind.TheVariants.{BadPointer}
use Rattle.c_syntax.specs.declared.operator.BinaryOp.TheVariants as op
use Rattle.c_tree.specs.declared.program.VarRef.{VarRef}
use Rattle.c_tree.specs.declared.program.VarRef.TheVariants.{Scalar, Local, Static}
use Rattle.c_tree.specs.TypedTree.{Kind}
use Rattle.tree_code_proof.specs.Counted as source
use Rattle.c_tree.specs.Store.{Value, Word, Pointer, Null}
use Rattle.tree_code_proof.specs.Counted.{World}
use Rattle.tree_code_proof.specs.Evaluated as evaluation
use Rattle.c_tree.specs.Eval.{points}
use Rattle.tree_code_proof.specs.Evaluated.{spot_of}
use Rattle.ir_semantics.specs.Parts.{Res, Gives, Finished, TooMany, Fails, Does, after, ◌>>=◌, give}
use Rattle.ir_semantics.specs.Outside as words
use Rattle.ir_semantics.specs.TreeRun as run
use Rattle.ir_semantics.specs.TreeRun.{Tree, Addresses, need}
use Rattle.tree_code_proof.specs.Seats.{Seats, ValueAlike}
use Rattle.tree_code_proof.specs.Beside.{Held, Alike, IsSeatOf}
use Rattle.tree_code_proof.proofs.Growing.{Grows, give_grows, bind_grows, calc_grows, read_word_grows, write_name_grows, write_word_grows, as_nothing_grows}
use Rattle.tree_code_proof.proofs.Rules.{Post, Rel, rel_after}
use Rattle.tree_code_proof.proofs.Reading.{Valued, let_go, let_second_go, failing, read_at}
use Rattle.tree_code_proof.proofs.Writing.{write_at}
use Rattle.tree_code_proof.proofs.Forms.{Optional, Values, Forms, read_named, used}
use Rattle.tree_code_proof.proofs.Assigning.{write_named}
use Rattle.tree_code_proof.proofs.Truths.{tree_followed, value_tested}
use Rattle.tree_code_proof.proofs.Joining.{Nothing, Effects}
use Rattle.tree_code_proof.proofs.Using.{Kept, grouped, without_some, let_value_go, drops, loses}
use Rattle.tree_code_proof.proofs.Binaries.{integers_kept, moves_kept}

-- what a step keeps of a value
pub record Steps (seats : Seats) (wanted : Bool) (next : Value → source.Does Value) (c : ℕ → Calc) : Type 0 where
  pub by : (hs : List Held) (w : World) (t : Tree) → Alike seats hs w t → (v : Value) (x : ℕ) → ValueAlike seats w.store.made wanted v x → Rel (Optional seats hs wanted) (source.after (next v w) evaluation.some) (run.calc (c x) t)

module _ (seats : Seats) (at : ℕ) (kind : Kind) where
  pub integer_steps : (up : Bool) → points kind ≡ false → Steps seats false (λ v. evaluation.stepped up kind v at) (run.stepped up)
  integer_steps true is = record { by = λ hs w t a v x h. integers_kept seats hs w t a at op.Add kind None v x (Word 1) 1 is refl h (refl, omega arith) }
  integer_steps false is = record { by = λ hs w t a v x h. integers_kept seats hs w t a at op.Sub kind None v x (Word 1) 1 is refl h (refl, omega arith) }

  pub pointer_steps : (up : Bool) → Steps seats true (λ v. evaluation.stepped up kind v at) (run.stepped up)
  pointer_steps true = record { by = λ hs w t a v x h. moves_kept seats hs w t a at op.Add kind None v x (Word 1) 1 refl h (refl, omega arith) }
  pointer_steps false = record { by = λ hs w t a v x h. moves_kept seats hs w t a at op.Sub kind None v x (Word 1) 1 refl h (refl, omega arith) }

  pub steps_of : (up wanted : Bool) → points kind ≡ wanted → Steps seats wanted (λ v. evaluation.stepped up kind v at) (run.stepped up)
  steps_of up true is = pointer_steps up
  steps_of up false is = integer_steps up is

-- a word that is written is given
abbrev pub IsSame : ℕ → Res Tree ℕ → Type 0
IsSame z (Gives m t) = m ≡ z
IsSame z (Finished ending o k) = ⊤
IsSame z (TooMany o) = ⊤
IsSame z (Fails o) = ⊤

rel_same : {A : Type 0} (q : Post A ℕ) (z : ℕ) (x : source.Res A) (y : Res Tree ℕ) → IsSame z y → Rel q x y → Rel (λ a m w t. q a m w t × (m ≡ z)) x y
rel_same q z (source.Gives a w) (Gives b t) s e = (e, s)
rel_same q z (source.Gives a w) (Finished p o k) s e = absurd e
rel_same q z (source.Gives a w) (TooMany o) s e = absurd e
rel_same q z (source.Gives a w) (Fails o) s e = absurd e
rel_same q z (source.Finished p o most) (Gives b t) s e = absurd e
rel_same q z (source.Finished p o most) (Finished p2 o2 k) s e = e
rel_same q z (source.Finished p o most) (TooMany o2) s e = absurd e
rel_same q z (source.Finished p o most) (Fails o2) s e = absurd e
rel_same q z (source.TooMany o) (Gives b t) s e = absurd e
rel_same q z (source.TooMany o) (Finished p o2 k) s e = absurd e
rel_same q z (source.TooMany o) (TooMany o2) s e = e
rel_same q z (source.TooMany o) (Fails o2) s e = absurd e
rel_same q z (source.Fails kind at o) y s e = e

same_cell : (c : words.Cell) (a z : ℕ) (t : Tree) → IsSame z (run.write_cell c a z t)
same_cell words.Nowhere a z t = tt {0}
same_cell words.Unwritten a z t = refl
same_cell (words.Holds y) a z t = refl

same_word : (a z : ℕ) (t : Tree) → IsSame z (run.write_word a z t)
same_word a z t = same_cell (t.outside.memory a) a z t

same_needed : (a : Option ℕ) (z : ℕ) (t : Tree) → IsSame z (after (need a t) (λ b. run.write_word b z))
same_needed None z t = tt {0}
same_needed (Some b) z t = same_word b z t

same_name : (addresses : Addresses) (v : VarRef) (z : ℕ) (t : Tree) → IsSame z (run.write_name addresses v z t)
same_name addresses (Scalar n) z t = refl
same_name addresses (Local n) z t = same_needed (addresses (Local n)) z t
same_name addresses (Static n) z t = same_needed (addresses (Static n)) z t

module _ (seats : Seats) (wanted : Bool) (next : Value → source.Does Value) (c : ℕ → Calc) (o : Steps seats wanted next c) (place : ℕ) (r : List Held → Post (Option Value) (ℕ × ℕ)) (last : Value → Value → source.Does (Option Value))
    (finish : (hs : List Held) (v : Value) (x : ℕ) (z : Value) (m : ℕ) (w : World) (t : Tree) → Alike seats (record { pointing = wanted; value = z; word = m } ∷ record { pointing = wanted; value = v; word = x } ∷ hs) w t → Rel (r hs) (last v z w) (Gives (x, m) t)) where
  one_step : (hs : List Held) (save : Value → source.Does Value) (write : ℕ → Does Tree ℕ) → ((z : ℕ) → Grows (write z)) → ((z : ℕ) (t : Tree) → IsSame z (write z t))
      → ((gs : List Held) (v : Value) (z : ℕ) (w : World) (t : Tree) → Valued seats gs wanted v z w t → Rel (Valued seats gs wanted) (save v w) (write z t)) → (v : Value) (x : ℕ) (w : World) (t : Tree) → Valued seats hs wanted v x w t
      → Rel (r hs) (source.after (next v w) (λ z. source.◌>>=◌ (save z) (λ u. last v u))) (after (run.calc (c x) t) (λ z. write z >>= λ _. give (x, z)))
  one_step hs save write grow same saved v x w t s =
      let held : Held = record { pointing = wanted; value = v; word = x } in
      rel_after (Valued seats (held ∷ hs) wanted) (r hs) (next v w) (run.calc (c x) t) _ _ (without_some seats (held ∷ hs) wanted (next v w) (run.calc (c x) t) (o.by (held ∷ hs) w t s v x s.held.0)) (λ z. bind_grows (grow z) (λ _. give_grows (x, z)))
      (λ z m w t s. rel_after (λ a k w t. Valued seats (held ∷ hs) wanted a k w t × (k ≡ m)) (r hs) (save z w) (write m t) _ _ (rel_same (Valued seats (held ∷ hs) wanted) m (save z w) (write m t) (same m t) (saved (held ∷ hs) z m w t s)) (λ _. give_grows (x, m))
      (λ a k w t s. subst (λ i. Rel (r hs) (last v a w) (Gives (x, i) t)) s.1 (finish hs v x a k w t s.0)))

  pub step_name : (addresses : Addresses) (name : VarRef) (object : ℕ) → IsSeatOf addresses name (seats.seat object) → (hs : List Held) (w : World) (t : Tree) → Alike seats hs w t
      → Rel (r hs) (source.after (source.load object 0 wanted place w) (λ x. source.◌>>=◌ (next x) (λ z. source.◌>>=◌ (source.save object 0 wanted z place) (λ u. last x u))))
      (after (run.read_name addresses name t) (λ x. run.calc (c x) >>= λ z. run.write_name addresses name z >>= λ _. give (x, z)))
  step_name addresses name object is hs w t a =
      rel_after (Valued seats hs wanted) (r hs) (source.load object 0 wanted place w) (run.read_name addresses name t) _ _ (read_named seats addresses name hs w t a object wanted place is)
      (λ x. bind_grows (calc_grows (c x)) (λ z. bind_grows (write_name_grows addresses name z) (λ _. give_grows (x, z))))
      (one_step hs (λ z. source.save object 0 wanted z place) (λ z. run.write_name addresses name z) (λ z. write_name_grows addresses name z) (same_name addresses name) (λ gs v z w t s. write_named seats addresses name gs w t wanted v z s object place is))

  step_pointed : (hs : List Held) (p : Value) (y : ℕ) (w : World) (t : Tree) → Valued seats hs true p y w t
      → Rel (r hs) (source.after (spot_of p place w) (λ s. source.◌>>=◌ (source.load s.0 s.1 wanted place) (λ x. source.◌>>=◌ (next x) (λ z. source.◌>>=◌ (source.save s.0 s.1 wanted z place) (λ u. last x u)))))
      (after (run.read_word y t) (λ x. run.calc (c x) >>= λ z. run.write_word y z >>= λ _. give (x, z)))
  step_pointed hs (Word x) y w t a = absurd a.held.0
  step_pointed hs Null y w t a =
      failing seats _ (r hs) BadPointer place w t (run.read_word y >>= λ x. run.calc (c x) >>= λ z. run.write_word y z >>= λ _. give (x, z)) a
      (bind_grows (read_word_grows y) (λ x. bind_grows (calc_grows (c x)) (λ z. bind_grows (write_word_grows y z) (λ _. give_grows (x, z)))))
  step_pointed hs (Pointer object i) y w t a =
      rel_after (Valued seats hs wanted) (r hs) (source.load object i wanted place w) (run.read_word y t) _ _ (read_at seats hs w t (let_go seats hs _ w t a) object i y wanted place a.held.0.1.1)
      (λ x. bind_grows (calc_grows (c x)) (λ z. bind_grows (write_word_grows y z) (λ _. give_grows (x, z))))
      (one_step hs (λ z. source.save object i wanted z place) (λ z. run.write_word y z) (λ z. write_word_grows y z) (same_word y) (λ gs v z w t s. write_at seats gs w t wanted v z s object i y place a.held.0.1.1))

  pub step_at : {f : source.Does Value} {g : Does Tree ℕ} → Values seats true f g → (hs : List Held) (w : World) (t : Tree) → Alike seats hs w t
      → Rel (r hs)
      (source.after (source.after (f w) (λ p. spot_of p place)) (λ s. source.◌>>=◌ (source.load s.0 s.1 wanted place) (λ x. source.◌>>=◌ (next x) (λ z. source.◌>>=◌ (source.save s.0 s.1 wanted z place) (λ u. last x u)))))
      (after (g t) (λ y. run.read_word y >>= λ x. run.calc (c x) >>= λ z. run.write_word y z >>= λ _. give (x, z)))
  step_at {f = f} {g = g} d hs w t a =
      grouped (r hs) (f w) (λ p. spot_of p place) _ _
      (rel_after (Valued seats hs true) (r hs) (f w) (g t) _ _ (d.by hs w t a) (λ y. bind_grows (read_word_grows y) (λ x. bind_grows (calc_grows (c x)) (λ z. bind_grows (write_word_grows y z) (λ _. give_grows (x, z))))) (step_pointed hs))

-- one word of two, and the other one isn't used
abbrev pub One : Seats → Bool → (ℕ × ℕ → ℕ) → List Held → Post (Option Value) (ℕ × ℕ)
One seats wanted one hs o d w t = Optional seats hs wanted o (one d) w t

module _ (seats : Seats) {f : source.Does (Option Value)} {d : Does Tree (ℕ × ℕ)} (kind : Kind) (at : ℕ) (one : ℕ × ℕ → ℕ) (h : (hs : List Held) (w : World) (t : Tree) → Alike seats hs w t → Rel (One seats (points kind) one hs) (f w) (d t)) (grow : Grows d) where
  one_form : Forms seats (points kind) f (d >>= λ p. give (one p))
  one_form = record { by = λ hs w t a. tree_followed (One seats (points kind) one hs) (Optional seats hs (points kind)) (f w) (d t) (λ p. give (one p)) (h hs w t a) (λ p. give_grows (one p)) (λ o p w t e. e) }

  one_unused : Effects seats f (run.as_nothing d)
  one_unused = record { by = λ hs w t a. tree_followed (One seats (points kind) one hs) (Nothing seats hs) (f w) (d t) _ (h hs w t a) (λ p. give_grows _) (λ o p w t e. let_value_go seats hs (points kind) o (one p) w t e); grows = as_nothing_grows grow }

  pub one_kept : Kept seats kind (source.◌>>=◌ f (evaluation.need at)) f (d >>= λ p. give (one p)) (run.as_truth (d >>= λ p. give (one p))) (run.as_nothing d)
  one_kept = record {
    valued = used at one_form (bind_grows grow (λ p. give_grows (one p)));
    tested = λ there. value_tested seats (used at one_form (bind_grows grow (λ p. give_grows (one p))));
    effect = one_unused;
    dropped = drops seats at one_unused;
    lost = loses seats (points kind) one_form;
  }

module _ (seats : Seats) (wanted : Bool) (hs : List Held) (v : Value) (x : ℕ) (z : Value) (m : ℕ) (w : World) (t : Tree) (a : Alike seats (record { pointing = wanted; value = z; word = m } ∷ record { pointing = wanted; value = v; word = x } ∷ hs) w t) where
  pub value_behind : Rel (One seats wanted (λ d. d.1) hs) (evaluation.some z w) (Gives (x, m) t)
  value_behind = let_second_go seats hs _ _ w t a

  pub value_before : Rel (One seats wanted (λ d. d.0) hs) (evaluation.some v w) (Gives (x, m) t)
  value_before = let_go seats _ _ w t a
