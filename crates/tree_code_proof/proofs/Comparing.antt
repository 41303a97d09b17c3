-- Pointers compared: where both objects live, addresses are equal where the pointers are, and are ordered as indices are.
use Rattle.std.proofs.Common.{◌≡◌, ◌≢◌, ℕ, ◌<◌, ◌≤◌, Bool, true, false, not, List, Option, Some, None, refl, sym, ap, ◌∙◌, subst, ⊎_elim, arith}
use Rattle.std.specs.Prelude.{◌==◌, nat_lt, if◌then◌else◌}
use mathlib.Core.Bool.{true≢false}
use Rattle.std.proofs.lemmas.Bool.{eq-eqb, ne_eqb, eqb-true, eqb-false, ltb-true, ltb-false, lt-ltb, le-ltb, cases_lt}
use Rattle.word_base.specs.Words.{truth}
use Rattle.word_base.specs.declared.outcome.UndefinedKind.TheVariants.{BadPointer}
use Rattle.c_syntax.specs.declared.operator.BinaryOp.{BinaryOp}
use Rattle.c_syntax.specs.declared.operator.BinaryOp.TheVariants as op
use Rattle.c_tree.specs.TypedTree.{Kind}
use Rattle.c_tree.specs.WellFormed.{is_comparison}
use Rattle.tree_code_proof.specs.Counted as source
use Rattle.c_tree.specs.Store.{Value, Word, Pointer, Null, Obj}
use Rattle.tree_code_proof.specs.Counted.{World}
use Rattle.tree_code_proof.specs.Evaluated as evaluation
use Rattle.c_tree.specs.Store as store
use Rattle.c_tree.specs.Eval as plain
use Rattle.ir_semantics.specs.Parts.{Gives, give}
use Rattle.ir_semantics.specs.Outside.{Memory, Frame}
use Rattle.ir_semantics.specs.TreeRun.{Tree}
use Rattle.tree_code_proof.specs.Seats.{Seat, Vacant, Seats, PointsAt, ValueAlike}
use Rattle.tree_code_proof.specs.Beside.{Held, SeatAlike, Alike}
use Rattle.tree_code_proof.proofs.Growing.{give_grows}
use Rattle.tree_code_proof.proofs.Rules.{Rel}
use Rattle.tree_code_proof.proofs.Pointers.{Points, to_living, never_0, objects_differ, same_index, same_address, in_order, index_order}
use Rattle.tree_code_proof.proofs.Reading.{holding, failing}
use Rattle.tree_code_proof.proofs.Forms.{Optional}

no_object : {o : Obj} → None ≡ Some o → ⊥
no_object e = cc

-- an object that lives has a seat
pub lives : (seats : Seats) (made : ℕ) (s : Seat) (p : Option Obj) (o : Obj) (m : Memory) (f : Frame) → SeatAlike seats made s p m f → p ≡ Some o → s ≢ Vacant
lives seats made s None o m f h e v = no_object e
lives seats made s (Some q) o m f h e v = subst (λ s. SeatAlike seats made s (Some q) m f) v h

-- two truths that are the same
same_equality : (i j y z : ℕ) (b : Bool) → (i == j) ≡ b → (i ≡ j → y ≡ z) → (y ≡ z → i ≡ j) → (y == z) ≡ b
same_equality i j y z true e f g = eq-eqb y z (f (eqb-true i j e))
same_equality i j y z false e f g = ne_eqb y z (λ p. eqb-false i j e (g p))

same_order : (i j y z : ℕ) (b : Bool) → nat_lt i j ≡ b → (i < j → y < z) → (y < z → i < j) → nat_lt y z ≡ b
same_order i j y z true e f g = lt-ltb y z (f (ltb-true i j e))
same_order i j y z false e f g = le-ltb y z (⊎_elim (λ lt. not_both i j y z (ltb-false i j e) (g lt)) (λ le. le) (cases_lt y z))
  where
    not_both : (i j y z : ℕ) → j ≤ i → i < j → z ≤ y
    not_both i j y z le lt = omega (arith, le, lt)

-- what is asked of two addresses
abbrev pub asks : BinaryOp → ℕ → ℕ → Bool
asks op.Eq y z = y == z
asks op.Ne y z = not (y == z)
asks op.Lt y z = nat_lt y z
asks op.Gt y z = nat_lt z y
asks op.Le y z = not (nat_lt z y)
asks op.Ge y z = not (nat_lt y z)
asks o y z = false

module _ (seats : Seats) where
  true_is : (b c : Bool) → c ≡ b → truth b ≡ truth c
  true_is b c e = ap truth (sym e)

  few : (c : Bool) → truth c < 65536
  few true = omega arith
  few false = omega arith

  -- both decide the same
  decided : (hs : List Held) (w : World) (t : Tree) (b c : Bool) → Alike seats hs w t → c ≡ b → Optional seats hs false (Some (Word (truth b))) (truth c) w t
  decided hs w t b c a e = holding seats hs (record { pointing = false; value = Word (truth b); word = truth c }) w t a (true_is b c e, few c)

  none_asked : {A : Type 0} → false ≡ true → A
  none_asked e = absurd (true≢false (sym e))

  fails : (hs : List Held) (w : World) (t : Tree) (x at : ℕ) → Alike seats hs w t → Rel (Optional seats hs false) (source.after (source.fail BadPointer at w) evaluation.some) (Gives x t)
  fails hs w t x at a = failing seats hs (Optional seats hs false) BadPointer at w t (give x) a (give_grows x)

  module _ (hs : List Held) (w : World) (t : Tree) (a : Alike seats hs w t) (at : ℕ) where
    -- indices into one object
    one_object : (o : BinaryOp) (k i y j z : ℕ) → is_comparison o ≡ true → Points seats k i y → Points seats k j z → Rel (Optional seats hs false) (source.after (evaluation.ordering o i j at w) evaluation.some) (Gives (truth (asks o y z)) t)
    one_object op.Eq k i y j z is p q = decided hs w t (i == j) (y == z) a (same_equality i j y z (i == j) refl (same_address seats k i y j z p q) (same_index seats k i y j z p q))
    one_object op.Ne k i y j z is p q = decided hs w t (not (i == j)) (not (y == z)) a (ap not (same_equality i j y z (i == j) refl (same_address seats k i y j z p q) (same_index seats k i y j z p q)))
    one_object op.Lt k i y j z is p q = decided hs w t (nat_lt i j) (nat_lt y z) a (same_order i j y z (nat_lt i j) refl (index_order seats k i y j z p q) (in_order seats k i y j z p q))
    one_object op.Gt k i y j z is p q = decided hs w t (nat_lt j i) (nat_lt z y) a (same_order j i z y (nat_lt j i) refl (index_order seats k j z i y q p) (in_order seats k j z i y q p))
    one_object op.Le k i y j z is p q = decided hs w t (not (nat_lt j i)) (not (nat_lt z y)) a (ap not (same_order j i z y (nat_lt j i) refl (index_order seats k j z i y q p) (in_order seats k j z i y q p)))
    one_object op.Ge k i y j z is p q = decided hs w t (not (nat_lt i j)) (not (nat_lt y z)) a (ap not (same_order i j y z (nat_lt i j) refl (index_order seats k i y j z p q) (in_order seats k i y j z p q)))
    one_object op.Add k i y j z is p q = none_asked is
    one_object op.Sub k i y j z is p q = none_asked is
    one_object op.Mul k i y j z is p q = none_asked is
    one_object op.Div k i y j z is p q = none_asked is
    one_object op.Rem k i y j z is p q = none_asked is
    one_object op.And k i y j z is p q = none_asked is
    one_object op.Or k i y j z is p q = none_asked is
    one_object op.Xor k i y j z is p q = none_asked is
    one_object op.Shl k i y j z is p q = none_asked is
    one_object op.Shr k i y j z is p q = none_asked is

    -- different pointers, and two that are null
    unequal : (o : BinaryOp) (y z : ℕ) → is_comparison o ≡ true → y ≢ z → Rel (Optional seats hs false) (source.after (evaluation.equality o false at w) evaluation.some) (Gives (truth (asks o y z)) t)
    unequal op.Eq y z is ne = decided hs w t false (y == z) a (ne_eqb y z ne)
    unequal op.Ne y z is ne = decided hs w t true (not (y == z)) a (ap not (ne_eqb y z ne))
    unequal op.Lt y z is ne = fails hs w t (truth (asks op.Lt y z)) at a
    unequal op.Gt y z is ne = fails hs w t (truth (asks op.Gt y z)) at a
    unequal op.Le y z is ne = fails hs w t (truth (asks op.Le y z)) at a
    unequal op.Ge y z is ne = fails hs w t (truth (asks op.Ge y z)) at a
    unequal op.Add y z is ne = none_asked is
    unequal op.Sub y z is ne = none_asked is
    unequal op.Mul y z is ne = none_asked is
    unequal op.Div y z is ne = none_asked is
    unequal op.Rem y z is ne = none_asked is
    unequal op.And y z is ne = none_asked is
    unequal op.Or y z is ne = none_asked is
    unequal op.Xor y z is ne = none_asked is
    unequal op.Shl y z is ne = none_asked is
    unequal op.Shr y z is ne = none_asked is

    nulls : (o : BinaryOp) (y z : ℕ) → is_comparison o ≡ true → y ≡ z → Rel (Optional seats hs false) (source.after (evaluation.equality o true at w) evaluation.some) (Gives (truth (asks o y z)) t)
    nulls op.Eq y z is e = decided hs w t true (y == z) a (eq-eqb y z e)
    nulls op.Ne y z is e = decided hs w t false (not (y == z)) a (ap not (eq-eqb y z e))
    nulls op.Lt y z is e = fails hs w t (truth (asks op.Lt y z)) at a
    nulls op.Gt y z is e = fails hs w t (truth (asks op.Gt y z)) at a
    nulls op.Le y z is e = fails hs w t (truth (asks op.Le y z)) at a
    nulls op.Ge y z is e = fails hs w t (truth (asks op.Ge y z)) at a
    nulls op.Add y z is e = none_asked is
    nulls op.Sub y z is e = none_asked is
    nulls op.Mul y z is e = none_asked is
    nulls op.Div y z is e = none_asked is
    nulls op.Rem y z is e = none_asked is
    nulls op.And y z is e = none_asked is
    nulls op.Or y z is e = none_asked is
    nulls op.Xor y z is e = none_asked is
    nulls op.Shl y z is e = none_asked is
    nulls op.Shr y z is e = none_asked is

    -- where an object lives
    if_lives : (next : store.Does Value) (x k : ℕ) (p : Option Obj) → w.store.living k ≡ p → (seats.seat k ≢ Vacant → Rel (Optional seats hs false) (source.after (source.free next w) evaluation.some) (Gives x t))
        → Rel (Optional seats hs false) (source.after (source.free (plain.if_living p at next) w) evaluation.some) (Gives x t)
    if_lives next x k None e h = fails hs w t x at a
    if_lives next x k (Some o) e h = h (lives seats w.store.made (seats.seat k) (w.store.living k) o t.outside.memory t.frame (a.objects k) e)

    where_lives : (next : store.Does Value) (x k : ℕ) → (seats.seat k ≢ Vacant → Rel (Optional seats hs false) (source.after (source.free next w) evaluation.some) (Gives x t)) → Rel (Optional seats hs false) (source.after (source.free (plain.where_living k at next) w) evaluation.some) (Gives x t)
    where_lives next x k h = if_lives next x k (w.store.living k) refl h

    two_objects : (o : BinaryOp) (k i y l j z : ℕ) (b : Bool) → is_comparison o ≡ true → (k == l) ≡ b → Points seats k i y → Points seats l j z
        → Rel (Optional seats hs false) (source.after (source.free (if b then plain.ordering o i j at else plain.equality o false at) w) evaluation.some) (Gives (truth (asks o y z)) t)
    two_objects o k i y l j z true is e p q = one_object o k i y j z is p (subst (λ l. Points seats l j z) (sym (eqb-true k l e)) q)
    two_objects o k i y l j z false is e p q = unequal o y z is (objects_differ seats k i y l j z a.seated (eqb-false k l e) p q)

    pub pointers_kept : (o : BinaryOp) (k i y l j z : ℕ) → is_comparison o ≡ true → PointsAt (seats.seat k) i y → PointsAt (seats.seat l) j z
        → Rel (Optional seats hs false) (source.after (source.free (plain.where_living k at (plain.where_living l at (if k == l then plain.ordering o i j at else plain.equality o false at))) w) evaluation.some) (Gives (truth (asks o y z)) t)
    pointers_kept o k i y l j z is p q =
        where_lives _ (truth (asks o y z)) k
        (λ v. where_lives _ (truth (asks o y z)) l (λ u. two_objects o k i y l j z (k == l) is refl (to_living seats k i y (seats.seat k) refl v p) (to_living seats l j z (seats.seat l) refl u q)))

    pub beside_null : (o : BinaryOp) (k i y z : ℕ) → is_comparison o ≡ true → PointsAt (seats.seat k) i y → z ≡ 0
        → Rel (Optional seats hs false) (source.after (source.free (plain.where_living k at (plain.equality o false at)) w) evaluation.some) (Gives (truth (asks o y z)) t)
    beside_null o k i y z is p e = where_lives _ (truth (asks o y z)) k (λ v. unequal o y z is (λ f. never_0 seats k i y a.seated (to_living seats k i y (seats.seat k) refl v p) (f ∙ e)))

    pub null_beside : (o : BinaryOp) (k i y z : ℕ) → is_comparison o ≡ true → PointsAt (seats.seat k) i y → z ≡ 0
        → Rel (Optional seats hs false) (source.after (source.free (plain.where_living k at (plain.equality o false at)) w) evaluation.some) (Gives (truth (asks o z y)) t)
    null_beside o k i y z is p e = where_lives _ (truth (asks o z y)) k (λ v. unequal o z y is (λ f. never_0 seats k i y a.seated (to_living seats k i y (seats.seat k) refl v p) (sym f ∙ e)))

    pub both_null : (o : BinaryOp) (y z : ℕ) → is_comparison o ≡ true → y ≡ 0 → z ≡ 0 → Rel (Optional seats hs false) (source.after (evaluation.equality o true at w) evaluation.some) (Gives (truth (asks o y z)) t)
    both_null o y z is e f = nulls o y z is (e ∙ sym f)

    -- two values of pointer types
    pub of_two_kept : (o : BinaryOp) (m n : Kind) (v u : Value) (y z : ℕ) → is_comparison o ≡ true → ValueAlike seats w.store.made true v y → ValueAlike seats w.store.made true u z
        → Rel (Optional seats hs false) (source.after (evaluation.of_two o m n v u at w) evaluation.some) (Gives (truth (asks o y z)) t)
    of_two_kept o m n (Word x) u y z is p q = absurd p
    of_two_kept o m n (Pointer k i) (Word x) y z is p q = absurd q
    of_two_kept o m n (Pointer k i) (Pointer l j) y z is p q = pointers_kept o k i y l j z is p.1.1 q.1.1
    of_two_kept o m n (Pointer k i) Null y z is p q = beside_null o k i y z is p.1.1 q
    of_two_kept o m n Null (Word x) y z is p q = absurd q
    of_two_kept o m n Null (Pointer l j) y z is p q = null_beside o l j z y is q.1.1 p
    of_two_kept o m n Null Null y z is p q = both_null o y z is p q
