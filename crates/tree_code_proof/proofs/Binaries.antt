-- Operators on two values: integers, two pointers, and a pointer with an integer.
use Rattle.std.proofs.Common.{◌≡◌, ℕ, ◌<◌, Bool, true, false, List, refl, sym, ap, subst}
use Rattle.std.specs.Prelude.{◌||◌}
use Rattle.std.proofs.lemmas.Bool.{or_right}
use Rattle.word_base.specs.Words.{Calc, Good, Bad, unsigned_add, unsigned_subtract}
use Rattle.word_base.specs.declared.outcome.UndefinedKind.TheVariants.{BadPointer}
use Rattle.c_syntax.specs.declared.operator.BinaryOp.{BinaryOp}
use Rattle.c_syntax.specs.declared.operator.BinaryOp.TheVariants as op
use Rattle.c_tree.specs.TypedTree.{Kind}
use Rattle.c_tree.specs.WellFormed.{is_comparison, moves}
use Rattle.tree_code_proof.specs.Counted as source
use Rattle.c_tree.specs.Store.{Value, Word, Pointer, Null}
use Rattle.tree_code_proof.specs.Counted.{World}
use Rattle.tree_code_proof.specs.Evaluated as evaluation
use Rattle.c_tree.specs.Eval.{points, is_unsigned, without_sign}
use Rattle.tree_code.specs.Operations.{one_of, word_op, is_ordered_unsigned}
use Rattle.tree_code.specs.declared.operator.WordOp.{WordOp}
use Rattle.tree_code.specs.declared.operator.WordOp.TheVariants as word
use Rattle.ir_semantics.specs.Meanings.{Decides, meaning_of, calculated}
use Rattle.ir_semantics.specs.TreeRun as run
use Rattle.ir_semantics.specs.TreeRun.{Tree}
use Rattle.tree_code_proof.specs.Seats.{Seats, ValueAlike}
use Rattle.tree_code_proof.specs.Beside.{Held, Alike}
use Rattle.tree_code_proof.proofs.Growing.{calc_grows}
use Rattle.tree_code_proof.proofs.Rules.{Rel}
use Rattle.tree_code_proof.proofs.Reading.{holding, failing}
use Rattle.tree_code_proof.proofs.Forms.{Optional}
use Rattle.tree_code_proof.proofs.Comparing.{asks, of_two_kept}
use Rattle.tree_code_proof.proofs.Moving.{plus_kept, plus_left_kept, minus_kept}
use Rattle.tree_code_proof.proofs.Distances.{distance_kept}
use Rattle.c_tree.proofs.OperatorWords.{given_by, few_given}
use Rattle.tree_code_proof.proofs.Operators.{by_sign, agrees}

-- what an operator on two values of these kinds keeps
pub record Operates (seats : Seats) (p q r : Bool) (next : Value → Value → source.Does Value) (c : ℕ → ℕ → Calc) : Type 0 where
  pub by : (hs : List Held) (w : World) (t : Tree) → Alike seats hs w t → (v : Value) (x : ℕ) (u : Value) (y : ℕ) → ValueAlike seats w.store.made p v x → ValueAlike seats w.store.made q u y
      → Rel (Optional seats hs r) (source.after (next v u w) evaluation.some) (run.calc (c x y) t)

module _ (seats : Seats) where
  module _ (hs : List Held) (w : World) (t : Tree) (a : Alike seats hs w t) (at : ℕ) where
    pub calculation : (c d : Calc) → ((z : ℕ) → c ≡ Good z → (d ≡ Good z) × (z < 65536)) → Rel (Optional seats hs false) (source.after (evaluation.calc c at w) evaluation.some) (run.calc d t)
    calculation (Good z) d h =
        let g = h z refl in
        subst (λ d. Rel (Optional seats hs false) (source.after (evaluation.calc (Good z) at w) evaluation.some) (run.calc d t)) (sym g.0) (holding seats hs (record { pointing = false; value = Word z; word = z }) w t a (refl, g.1))
    calculation (Bad kind) d h = failing seats hs (Optional seats hs false) kind at w t (run.calc d) a (calc_grows d)

    fails : (r : Bool) (d : Calc) → Rel (Optional seats hs r) (source.after (source.fail BadPointer at w) evaluation.some) (run.calc d t)
    fails r d = failing seats hs (Optional seats hs r) BadPointer at w t (run.calc d) a (calc_grows d)

    words_kept : (o : BinaryOp) (k l : Kind) (x y : ℕ) → points k ≡ false → points l ≡ false → x < 65536 → y < 65536
        → Rel (Optional seats hs false) (source.after (evaluation.of_two o k l (Word x) (Word y) at w) evaluation.some) (run.calc (calculated (meaning_of (word_op o k l)) x y) t)
    words_kept o k l x y p q lx ly =
        calculation (given_by o (without_sign o k l) x y) (calculated (meaning_of (word_op o k l)) x y)
        (λ z e. (subst (λ n. calculated (meaning_of n) x y ≡ Good z) (sym (by_sign o k l p q)) (agrees o (without_sign o k l) x y z lx ly e), few_given o (without_sign o k l) x y z lx ly e))

    pub integers_kept : (o : BinaryOp) (k l : Kind) (v : Value) (x : ℕ) (u : Value) (y : ℕ) → points k ≡ false → points l ≡ false → ValueAlike seats w.store.made false v x → ValueAlike seats w.store.made false u y
        → Rel (Optional seats hs false) (source.after (evaluation.of_two o k l v u at w) evaluation.some) (run.calc (calculated (meaning_of (word_op o k l)) x y) t)
    integers_kept o k l (Word b) x (Word d) y p q h g =
        subst (λ i. Rel (Optional seats hs false) (source.after (evaluation.of_two o k l (Word i) (Word d) at w) evaluation.some) (run.calc (calculated (meaning_of (word_op o k l)) x y) t)) (sym h.0)
        (subst (λ i. Rel (Optional seats hs false) (source.after (evaluation.of_two o k l (Word x) (Word i) at w) evaluation.some) (run.calc (calculated (meaning_of (word_op o k l)) x y) t)) (sym g.0)
        (words_kept o k l x y p q h.1 g.1))
    integers_kept o k l (Word b) x (Pointer object i) y p q h g = absurd g
    integers_kept o k l (Word b) x Null y p q h g = absurd g
    integers_kept o k l (Pointer object i) x u y p q h g = absurd h
    integers_kept o k l Null x u y p q h g = absurd h

    -- a pointer and an integer
    up_kept : (k l : Kind) (v : Value) (x : ℕ) (u : Value) (y : ℕ) → ValueAlike seats w.store.made true v x → ValueAlike seats w.store.made false u y
        → Rel (Optional seats hs true) (source.after (evaluation.of_two op.Add k l v u at w) evaluation.some) (run.calc (unsigned_add x y) t)
    up_kept k l (Word b) x u y h g = absurd h
    up_kept k l (Pointer object i) x (Word d) y h g =
        subst (λ n. Rel (Optional seats hs true) (source.after (evaluation.of_two op.Add k l (Pointer object i) (Word n) at w) evaluation.some) (run.calc (unsigned_add x y) t)) (sym g.0) (plus_kept seats hs w t a at object i x y k l h.0 h.1.1)
    up_kept k l (Pointer object i) x (Pointer other j) y h g = absurd g
    up_kept k l (Pointer object i) x Null y h g = absurd g
    up_kept k l Null x (Word d) y h g = fails true (unsigned_add x y)
    up_kept k l Null x (Pointer other j) y h g = absurd g
    up_kept k l Null x Null y h g = absurd g

    down_kept : (k l : Kind) (v : Value) (x : ℕ) (u : Value) (y : ℕ) → ValueAlike seats w.store.made true v x → ValueAlike seats w.store.made false u y
        → Rel (Optional seats hs true) (source.after (evaluation.of_two op.Sub k l v u at w) evaluation.some) (run.calc (unsigned_subtract x y) t)
    down_kept k l (Word b) x u y h g = absurd h
    down_kept k l (Pointer object i) x (Word d) y h g =
        subst (λ n. Rel (Optional seats hs true) (source.after (evaluation.of_two op.Sub k l (Pointer object i) (Word n) at w) evaluation.some) (run.calc (unsigned_subtract x y) t)) (sym g.0) (minus_kept seats hs w t a at object i x y k l g.1 h.0 h.1.1)
    down_kept k l (Pointer object i) x (Pointer other j) y h g = absurd g
    down_kept k l (Pointer object i) x Null y h g = absurd g
    down_kept k l Null x (Word d) y h g = fails true (unsigned_subtract x y)
    down_kept k l Null x (Pointer other j) y h g = absurd g
    down_kept k l Null x Null y h g = absurd g

    pub up_left_kept : (k l : Kind) (v : Value) (x : ℕ) (u : Value) (y : ℕ) → ValueAlike seats w.store.made false v x → ValueAlike seats w.store.made true u y
        → Rel (Optional seats hs true) (source.after (evaluation.of_two op.Add k l v u at w) evaluation.some) (run.calc (unsigned_add x y) t)
    up_left_kept k l (Word b) x (Word d) y h g = absurd g
    up_left_kept k l (Word b) x (Pointer object i) y h g =
        subst (λ n. Rel (Optional seats hs true) (source.after (evaluation.of_two op.Add k l (Word n) (Pointer object i) at w) evaluation.some) (run.calc (unsigned_add x y) t)) (sym h.0) (plus_left_kept seats hs w t a at object i y x k l g.0 g.1.1)
    up_left_kept k l (Word b) x Null y h g = fails true (unsigned_add x y)
    up_left_kept k l (Pointer object i) x u y h g = absurd h
    up_left_kept k l Null x u y h g = absurd h

    pub moves_kept : (o : BinaryOp) (k l : Kind) (v : Value) (x : ℕ) (u : Value) (y : ℕ) → moves o ≡ true → ValueAlike seats w.store.made true v x → ValueAlike seats w.store.made false u y
        → Rel (Optional seats hs true) (source.after (evaluation.of_two o k l v u at w) evaluation.some) (run.calc (calculated (meaning_of (word_op o k l)) x y) t)
    moves_kept op.Add k l v x u y is h g = up_kept k l v x u y h g
    moves_kept op.Sub k l v x u y is h g = down_kept k l v x u y h g
    moves_kept op.Mul k l v x u y is h g = absurd cc
    moves_kept op.Div k l v x u y is h g = absurd cc
    moves_kept op.Rem k l v x u y is h g = absurd cc
    moves_kept op.And k l v x u y is h g = absurd cc
    moves_kept op.Or k l v x u y is h g = absurd cc
    moves_kept op.Xor k l v x u y is h g = absurd cc
    moves_kept op.Shl k l v x u y is h g = absurd cc
    moves_kept op.Shr k l v x u y is h g = absurd cc
    moves_kept op.Eq k l v x u y is h g = absurd cc
    moves_kept op.Ne k l v x u y is h g = absurd cc
    moves_kept op.Lt k l v x u y is h g = absurd cc
    moves_kept op.Gt k l v x u y is h g = absurd cc
    moves_kept op.Le k l v x u y is h g = absurd cc
    moves_kept op.Ge k l v x u y is h g = absurd cc

-- what is asked of addresses, which are ordered without a sign
ordered : (k : Kind) (f g : WordOp) → points k ≡ true → one_of (is_ordered_unsigned k || is_ordered_unsigned k) f g ≡ f
ordered k f g is = ap (λ b. one_of b f g) (or_right (is_ordered_unsigned k) (is_ordered_unsigned k) (or_right (is_unsigned k) (points k) is))

asked_of_addresses : (o : BinaryOp) (k : Kind) → is_comparison o ≡ true → points k ≡ true → meaning_of (word_op o k k) ≡ Decides (asks o)
asked_of_addresses op.Eq k c is = refl
asked_of_addresses op.Ne k c is = refl
asked_of_addresses op.Lt k c is = ap meaning_of (ordered k word.LtUnsigned word.LtInt is)
asked_of_addresses op.Gt k c is = ap meaning_of (ordered k word.GtUnsigned word.GtInt is)
asked_of_addresses op.Le k c is = ap meaning_of (ordered k word.LeUnsigned word.LeInt is)
asked_of_addresses op.Ge k c is = ap meaning_of (ordered k word.GeUnsigned word.GeInt is)
asked_of_addresses op.Add k c is = absurd cc
asked_of_addresses op.Sub k c is = absurd cc
asked_of_addresses op.Mul k c is = absurd cc
asked_of_addresses op.Div k c is = absurd cc
asked_of_addresses op.Rem k c is = absurd cc
asked_of_addresses op.And k c is = absurd cc
asked_of_addresses op.Or k c is = absurd cc
asked_of_addresses op.Xor k c is = absurd cc
asked_of_addresses op.Shl k c is = absurd cc
asked_of_addresses op.Shr k c is = absurd cc

-- each operator
module _ (seats : Seats) (at : ℕ) where
  pub of_integers : (o : BinaryOp) (k l : Kind) → points k ≡ false → points l ≡ false → Operates seats false false false (λ v u. evaluation.of_two o k l v u at) (calculated (meaning_of (word_op o k l)))
  of_integers o k l p q = record { by = λ hs w t a v x u y h g. integers_kept seats hs w t a at o k l v x u y p q h g }

  pub of_moves : (o : BinaryOp) (k l : Kind) → moves o ≡ true → Operates seats true false true (λ v u. evaluation.of_two o k l v u at) (calculated (meaning_of (word_op o k l)))
  of_moves o k l is = record { by = λ hs w t a v x u y h g. moves_kept seats hs w t a at o k l v x u y is h g }

  pub of_moves_right : (k l : Kind) → Operates seats false true true (λ v u. evaluation.of_two op.Add k l v u at) unsigned_add
  of_moves_right k l = record { by = λ hs w t a v x u y h g. up_left_kept seats hs w t a at k l v x u y h g }

  pub of_distance : (k l : Kind) → Operates seats true true false (λ v u. evaluation.of_two op.Sub k l v u at) unsigned_subtract
  of_distance k l = record { by = λ hs w t a v x u y h g. distance_kept seats hs w t a at k l v u x y h g }

  pub of_pointers : (o : BinaryOp) (k : Kind) → is_comparison o ≡ true → points k ≡ true → Operates seats true true false (λ v u. evaluation.of_two o k k v u at) (calculated (meaning_of (word_op o k k)))
  of_pointers o k c is = record {
    by = λ hs w t a v x u y h g.
        subst (λ m. Rel (Optional seats hs false) (source.after (evaluation.of_two o k k v u at w) evaluation.some) (run.calc (calculated m x y) t)) (sym (asked_of_addresses o k c is)) (of_two_kept seats hs w t a at o k k v u x y c h g);
  }
