-- Forms of operators with two operands, from what they keep of two values.
use Rattle.std.proofs.Common.{◌≡◌, ℕ, Bool, true, false, List, ◌∷◌, Option, Some, None, refl, subst}
use Rattle.word_base.specs.Words.{Calc, Good, truth, unsigned_add, unsigned_subtract}
use Rattle.c_syntax.specs.declared.operator.BinaryOp.{BinaryOp}
use Rattle.c_syntax.specs.declared.operator.BinaryOp.TheVariants as op
use Rattle.c_tree.specs.Kinds.{int, IsInteger, IsPointer}
use Rattle.c_tree.specs.TypedTree.{Kind}
use Rattle.c_tree.specs.WellFormed as formed
use Rattle.c_tree.specs.WellFormed.{Takes, is_comparison, moves}
use Rattle.tree_code_proof.specs.Counted as source
use Rattle.c_tree.specs.Store.{Value}
use Rattle.tree_code_proof.specs.Counted.{World}
use Rattle.tree_code_proof.specs.Evaluated as evaluation
use Rattle.c_tree.specs.Eval.{points}
use Rattle.tree_code.specs.Operations.{word_op}
use Rattle.ir_semantics.specs.Parts.{Gives, Does, give}
use Rattle.ir_semantics.specs.Meanings.{Meaning, Calculates, Decides, meaning_of, calculated}
use Rattle.ir_semantics.specs.TreeRun as run
use Rattle.ir_semantics.specs.TreeRun.{Tree}
use Rattle.tree_code_proof.specs.Seats.{Seats}
use Rattle.tree_code_proof.specs.Beside.{Held, Alike}
use Rattle.tree_code_proof.proofs.Growing.{Grows, give_grows, bind_grows, ticked, calc_grows}
use Rattle.tree_code_proof.proofs.Rules.{Rel}
use Rattle.tree_code_proof.proofs.Reading.{let_go}
use Rattle.tree_code_proof.proofs.Forms.{Optional, Values, Forms, worked}
use Rattle.tree_code_proof.proofs.Assigning.{both_kept}
use Rattle.tree_code_proof.proofs.Truths as truths
use Rattle.tree_code_proof.proofs.Truths.{Deciding}
use Rattle.tree_code_proof.proofs.Using.{Kept, of_forms, of_decides}
use Rattle.tree_code_proof.proofs.Binaries.{Operates, of_integers, of_moves, of_moves_right, of_distance, of_pointers}

calculation_grows : (c : ℕ → ℕ → Calc) {g k : Does Tree ℕ} → Grows g → Grows k → Grows (run.binary_does c g k)
calculation_grows c a b = bind_grows (ticked 24 (λ _. a)) (λ x. bind_grows b (λ y. calc_grows (c x y)))

decision_grows : (c : ℕ → ℕ → Bool) {g k : Does Tree ℕ} → Grows g → Grows k → Grows (run.compare_does c g k)
decision_grows c a b = bind_grows (ticked 24 (λ _. a)) (λ x. bind_grows b (λ y. give_grows (c x y)))

module _ (seats : Seats) where
  module _ {p q : Bool} {f h : source.Does Value} {g k : Does Tree ℕ} (next : Value → Value → source.Does Value) (a : Values seats p f g) (b : Values seats q h k) where
    both_gone : (hs : List Held) (v : Value) (x : ℕ) (u : Value) (y : ℕ) (w : World) (t : Tree) → Alike seats (record { pointing = q; value = u; word = y } ∷ record { pointing = p; value = v; word = x } ∷ hs) w t → Alike seats hs w t
    both_gone hs v x u y w t s = let_go seats hs _ w t (let_go seats _ _ w t s)

    calculation_kept : (r : Bool) (c : ℕ → ℕ → Calc) → Operates seats p q r next c → Forms seats r (source.ticked 24 (source.◌>>=◌ f (λ v. source.◌>>=◌ h (λ u. source.◌>>=◌ (next v u) evaluation.some)))) (run.binary_does c g k)
    calculation_kept r c o = record {
      by = λ hs w t s.
          both_kept (λ hs. Optional seats hs r) (λ v u. source.◌>>=◌ (next v u) evaluation.some) (λ x y. run.calc (c x y)) a b (λ x y. calc_grows (c x y))
          (λ hs v x u y w t s. o.by hs w t (both_gone hs v x u y w t s) v x u y s.held.1.0 s.held.0) hs _ _ (worked seats hs w t _ s);
    }

    as_decided : (hs : List Held) (c : Bool) (t : Tree) (x : source.Res (Option Value)) → Rel (Optional seats hs false) x (Gives (truth c) t) → Rel (Deciding seats hs) x (Gives c t)
    as_decided hs c t (source.Gives v w) e = e
    as_decided hs c t (source.Finished ending o most) e = absurd e
    as_decided hs c t (source.TooMany o) e = absurd e
    as_decided hs c t (source.Fails kind at o) e = e

    decision_kept : (c : ℕ → ℕ → Bool) → Operates seats p q false next (λ x y. Good (truth (c x y))) → truths.Decides seats (source.ticked 24 (source.◌>>=◌ f (λ v. source.◌>>=◌ h (λ u. source.◌>>=◌ (next v u) evaluation.some)))) (run.compare_does c g k)
    decision_kept c o = record {
      by = λ hs w t s.
          both_kept (λ hs. Deciding seats hs) (λ v u. source.◌>>=◌ (next v u) evaluation.some) (λ x y. give (c x y)) a b (λ x y. give_grows (c x y))
          (λ hs v x u y w t s. as_decided hs (c x y) t _ (o.by hs w t (both_gone hs v x u y w t s) v x u y s.held.1.0 s.held.0)) hs _ _ (worked seats hs w t _ s);
    }

    -- an integer is given
    integer_given : (kind : Kind) → points kind ≡ false → (at : ℕ) (m : Meaning) → Operates seats p q false next (calculated m)
        → Kept seats kind (source.◌>>=◌ (source.ticked 24 (source.◌>>=◌ f (λ v. source.◌>>=◌ h (λ u. source.◌>>=◌ (next v u) evaluation.some)))) (evaluation.need at)) (source.ticked 24 (source.◌>>=◌ f (λ v. source.◌>>=◌ h (λ u. source.◌>>=◌ (next v u) evaluation.some))))
        (run.operation_word m g k) (run.operation_truth m g k) (run.operation_effect m g k)
    integer_given kind is at (Calculates c) o = of_forms seats kind false is at (calculation_kept false c (record { by = o.by })) (calculation_grows c a.grows b.grows)
    integer_given kind is at (Decides c) o = of_decides seats kind is at (decision_kept c (record { by = o.by })) (decision_grows c a.grows b.grows)

    -- a pointer is given
    pointer_given : (kind : Kind) → points kind ≡ true → (at : ℕ) (c : ℕ → ℕ → Calc) → Operates seats p q true next c
        → Kept seats kind (source.◌>>=◌ (source.ticked 24 (source.◌>>=◌ f (λ v. source.◌>>=◌ h (λ u. source.◌>>=◌ (next v u) evaluation.some)))) (evaluation.need at)) (source.ticked 24 (source.◌>>=◌ f (λ v. source.◌>>=◌ h (λ u. source.◌>>=◌ (next v u) evaluation.some))))
        (run.operation_word (Calculates c) g k) (run.operation_truth (Calculates c) g k) (run.operation_effect (Calculates c) g k)
    pointer_given kind is at c o = of_forms seats kind true is at (calculation_kept true c o) (calculation_grows c a.grows b.grows)

pub no_pointer : (k : Kind) → IsInteger k → points k ≡ false
no_pointer None e = absurd e
no_pointer (Some kind) e = e

pub is_pointer_kind : (k : Kind) → IsPointer k → points k ≡ true
is_pointer_kind None e = absurd e
is_pointer_kind (Some kind) e = e

abbrev two_values : source.Does Value → source.Does Value → BinaryOp → Kind → Kind → ℕ → source.Does (Option Value)
two_values f h o k l at = source.ticked 24 (source.◌>>=◌ f (λ v. source.◌>>=◌ h (λ u. source.◌>>=◌ (evaluation.of_two o k l v u at) evaluation.some)))

abbrev OperatorKept : Seats → source.Does Value → source.Does Value → Does Tree ℕ → Does Tree ℕ → BinaryOp → Kind → Kind → Kind → ℕ → Type 0
OperatorKept seats f h g m o k l kind at =
    Kept seats kind (source.◌>>=◌ (two_values f h o k l at) (evaluation.need at)) (two_values f h o k l at) (run.operation_word (meaning_of (word_op o k l)) g m) (run.operation_truth (meaning_of (word_op o k l)) g m)
    (run.operation_effect (meaning_of (word_op o k l)) g m)

module _ (seats : Seats) {f h : source.Does Value} {g m : Does Tree ℕ} where
  integers : (o : BinaryOp) (k l kind : Kind) (at : ℕ) → points kind ≡ false → points k ≡ false → points l ≡ false → Values seats (points k) f g → Values seats (points l) h m → OperatorKept seats f h g m o k l kind at
  integers o k l kind at r p q a b =
      integer_given seats (λ v u. evaluation.of_two o k l v u at) (subst (λ c. Values seats c f g) p a) (subst (λ c. Values seats c h m) q b) kind r at (meaning_of (word_op o k l)) (of_integers seats at o k l p q)

  compared : (o : BinaryOp) (k kind : Kind) (at : ℕ) (b : Bool) → points kind ≡ false → points k ≡ b → is_comparison o ≡ true → Values seats (points k) f g → Values seats (points k) h m → OperatorKept seats f h g m o k k kind at
  compared o k kind at false r p c a b = integers o k k kind at r p p a b
  compared o k kind at true r p c a b =
      integer_given seats (λ v u. evaluation.of_two o k k v u at) (subst (λ c. Values seats c f g) p a) (subst (λ c. Values seats c h m) p b) kind r at (meaning_of (word_op o k k)) (of_pointers seats at o k c p)

  moved : (o : BinaryOp) (k l : Kind) (at : ℕ) → moves o ≡ true → points k ≡ true → points l ≡ false → Values seats true f g → Values seats false h m → OperatorKept seats f h g m o k l k at
  moved op.Add k l at is p q a b = pointer_given seats (λ v u. evaluation.of_two op.Add k l v u at) a b k p at unsigned_add (record { by = (of_moves seats at op.Add k l is).by })
  moved op.Sub k l at is p q a b = pointer_given seats (λ v u. evaluation.of_two op.Sub k l v u at) a b k p at unsigned_subtract (record { by = (of_moves seats at op.Sub k l is).by })
  moved op.Mul k l at is p q a b = absurd cc
  moved op.Div k l at is p q a b = absurd cc
  moved op.Rem k l at is p q a b = absurd cc
  moved op.And k l at is p q a b = absurd cc
  moved op.Or k l at is p q a b = absurd cc
  moved op.Xor k l at is p q a b = absurd cc
  moved op.Shl k l at is p q a b = absurd cc
  moved op.Shr k l at is p q a b = absurd cc
  moved op.Eq k l at is p q a b = absurd cc
  moved op.Ne k l at is p q a b = absurd cc
  moved op.Lt k l at is p q a b = absurd cc
  moved op.Gt k l at is p q a b = absurd cc
  moved op.Le k l at is p q a b = absurd cc
  moved op.Ge k l at is p q a b = absurd cc

  pub binary_kept : (o : BinaryOp) (k l kind : Kind) (at : ℕ) → Takes o k l kind → Values seats (points k) f g → Values seats (points l) h m → OperatorKept seats f h g m o k l kind at
  binary_kept o k l kind at (formed.Calculates c s i) a b = integers o k k k at (no_pointer k i) (no_pointer k i) (no_pointer k i) a b
  binary_kept o k l kind at (formed.Shifts s i j) a b = integers o k l k at (no_pointer k i) (no_pointer k i) (no_pointer l j) a b
  binary_kept o k l kind at (formed.Compares c v) a b = compared o k (Some int) at (points k) refl refl c a b
  binary_kept o k l kind at (formed.Moves c i j) a b = moved o k l at c (is_pointer_kind k i) (no_pointer l j) (subst (λ c. Values seats c f g) (is_pointer_kind k i) a) (subst (λ c. Values seats c h m) (no_pointer l j) b)
  binary_kept o k l kind at (formed.Moves_right i j) a b =
      pointer_given seats (λ v u. evaluation.of_two op.Add k l v u at) (subst (λ c. Values seats c f g) (no_pointer k i) a) (subst (λ c. Values seats c h m) (is_pointer_kind l j) b) l (is_pointer_kind l j) at unsigned_add
      (of_moves_right seats at k l)
  binary_kept o k l kind at (formed.Subtracts i) a b =
      integer_given seats (λ v u. evaluation.of_two op.Sub k k v u at) (subst (λ c. Values seats c f g) (is_pointer_kind k i) a) (subst (λ c. Values seats c h m) (is_pointer_kind k i) b) (Some int) refl at (Calculates unsigned_subtract)
      (record { by = (of_distance seats at k k).by })
