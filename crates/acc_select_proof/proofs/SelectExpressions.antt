-- The code of each expression keeps what the expression does.
use Rattle.std.proofs.Common.{◌≡◌, ℕ, ◌+◌, ◌-◌, ◌<◌, Bool, Option, Some, refl, sym, ap, ◌∙◌, subst, arith, pos, ◌-ℤ◌}
use Rattle.std.proofs.lemmas.Int.{ints}
use Rattle.c_syntax.specs.declared.operator.UnaryOp.{UnaryOp}
use Rattle.c_syntax.specs.declared.operator.UnaryOp.TheVariants.{Minus, Plus, Complement}
use Rattle.c_tree.specs.declared.program.VarRef.{VarRef}
use Rattle.c_tree.specs.declared.program.VarRef.TheVariants.{Scalar, Local, Static}
use Rattle.tree_code.specs.WellFormedCode.{IsSound, AreSound}
use Rattle.tree_code.specs.WordTree as tree
use Rattle.tree_code.specs.WordTree.{ExprCode, Node, Named, At, ExprsCode}
use Rattle.acc_code.specs.AccTree.{end}
use Rattle.acc_select.specs.acc_operations.Constants.{place_of, shape_of, negative}
use Rattle.acc_select.specs.acc_operations.Kinds.{operation_of}
use Rattle.acc_select.specs.acc_operations.Words.{next, fixed}
use Rattle.acc_select.specs.acc_operations.Words as words
use Rattle.acc_select.specs.acc_operations.declared.constant.Constant.TheVariants.{Number, Address}
use Rattle.acc_select.specs.acc_operations.declared.constant.Shape.{Shape}
use Rattle.acc_select.specs.acc_operations.declared.constant.Shape.TheVariants as shape
use Rattle.acc_select.specs.acc_operations.declared.found.Found.{Found}
use Rattle.acc_select.specs.acc_operations.declared.found.Found.TheVariants.{Fixed, Held}
use Rattle.acc_select.specs.acc_operations.declared.operation.Arithmetic.{Arithmetic}
use Rattle.acc_select.specs.acc_operations.declared.operation.Operation.{Operation}
use Rattle.acc_select.specs.acc_operations.declared.operation.Operation.TheVariants as operation
use Rattle.acc_select.specs.Conditions.{negated, and_branch, or_branch}
use Rattle.acc_select.specs.Forms.{Code, unary_code, unary_word, binary_code, update_name_code, update_at_code}
use Rattle.acc_select.specs.Selected.{code_of}
use Rattle.ir_semantics.specs.Meanings.{calculated, meaning_of}
use Rattle.ir_semantics.specs.Parts.{Gives, Does, Next}
use Rattle.ir_semantics.specs.TreeRun.{Tree, Calls, decide, value, effect, unary_does, constant_does, address_does, name_does, load_does, and_does, or_does, not_does, as_truth, as_nothing, operation_truth, operation_word, operation_effect, update_name_does, update_at_does}
use Rattle.acc_select_proof.specs.OfWords.{IsOfWords, AreOfWords, GivesWord}
use Rattle.acc_select_proof.proofs.Straights.{IsSteady}
use Rattle.acc_select_proof.proofs.Rules.{Ground, rel_weaker}
use Rattle.acc_select_proof.proofs.Sides.{Side, paid, spared}
use Rattle.acc_select_proof.proofs.Arithmetics.{low16_is}
use Rattle.acc_select_proof.proofs.Meant.{calc_of, meant, meaning_is, operations_tell}
use Rattle.acc_select_proof.proofs.Stepping.{AreFar, address_is_no_count}
use Rattle.acc_select_proof.proofs.Valuing.{WordKeeps, CodeKeeps}
use Rattle.acc_select_proof.proofs.TwoConditions.{and_keeps, or_keeps}
use Rattle.acc_select_proof.proofs.SelectBranching.{not_keeps}
use Rattle.acc_select_proof.proofs.Coding.{IsInside, word_code, branch_code, constant_word, address_word, name_word, load_word}
use Rattle.acc_select_proof.proofs.SelectForming.{unary_makes, made_keeps, pick_keeps, comma_keeps}
use Rattle.acc_select_proof.proofs.Places.{Still, stands_still, ShapeKeeps, name_light, waits}
use Rattle.acc_select_proof.proofs.Operands.{Operands, operation_keeps}
use Rattle.acc_select_proof.proofs.Assigning.{assign_name_keeps, assign_at_keeps}
use Rattle.acc_select_proof.proofs.Updating.{update_name_keeps, update_at_keeps}
use Rattle.acc_select_proof.proofs.Steps.{name_before_keeps, name_after_keeps, at_before_keeps, at_after_keeps}
use Rattle.acc_select_proof.proofs.Porting.{in_keeps, out_keeps}
use Rattle.acc_select_proof.proofs.Passing.{AllKeep}
use Rattle.acc_select_proof.proofs.Calling.{CallsKeep, call_code_keeps}

name_steady : (v : VarRef) → IsSteady (place_of v)
name_steady (Scalar k) = tt
name_steady (Local k) = tt
name_steady (Static k) = tt

word_operation_is : (w : Operation) → GivesWord w → (a : Arithmetic) × (w ≡ operation.Word a)
word_operation_is (operation.Word a) g = (a, refl)
word_operation_is (operation.Truth c) g = absurd g

module _ (n : Ground) (base : ℕ) where
  -- a word that needs no items
  still_word : (f : Does Tree ℕ) (g : Found) → Still n base f g → WordKeeps n base f (λ t. record { items = end; found = g })
  still_word f g k = record { by = λ ts s. record { by = λ w v h. rel_weaker (λ x t u e. e.0) (f w) (Gives Next v) (k.by ts s w v h) } }

  -- a minus before a constant
  negative_still : (w : ℕ) → w < 65536 → Still n base (unary_does Minus (constant_does w)) (Fixed (Number (negative w)))
  negative_still w lt = record {
    by = λ ts s u v h.
        let same = low16_is (pos 0 -ℤ pos w) 1 (65536 - w) (omega (arith, ints)) in (
          record {
            side = spared base ts (2 + (1 + s)) (2 + s) (record u { work = u.work + 1 + 2 }) v (paid base ts (1 + s) 2 (record u { work = u.work + 1 }) v (paid base ts s 1 u v h)) (omega arith);
            found = sym same;
            wide = tt;
            word = omega (arith, same);
          },
          refl,
        );
  }

  unary_computed : (o : UnaryOp) (f : Does Tree ℕ) (c : ℕ → Code) → WordKeeps n base f (λ t. (c t).word) → WordKeeps n base (unary_does o f) (λ t. next (c t).word (unary_word o))
  unary_computed Plus f c k = made_keeps n base f (λ t. (c t).word) _ _ _ 1 (unary_makes n.context Plus) k
  unary_computed Minus f c k = made_keeps n base f (λ t. (c t).word) _ _ _ 1 (unary_makes n.context Minus) k
  unary_computed Complement f c k = made_keeps n base f (λ t. (c t).word) _ _ _ 1 (unary_makes n.context Complement) k

  unary_keeps : (s : Shape) (o : UnaryOp) (f : Does Tree ℕ) (c : ℕ → Code) → WordKeeps n base f (λ t. (c t).word) → ShapeKeeps n base s (unary_does o f) (λ t. (unary_code s o (c t)).word)
      → CodeKeeps n base (as_truth (unary_does o f)) (unary_does o f) (as_nothing (unary_does o f)) (λ t. unary_code s o (c t))
  unary_keeps (shape.Constant k) o f c kw h = word_code n base (unary_does o f) (λ t. fixed k) (still_word (unary_does o f) (Fixed k) h.0)
  unary_keeps (shape.Named m) o f c kw h = word_code n base (unary_does o f) (λ t. next (c t).word (unary_word o)) (unary_computed o f c kw)
  unary_keeps shape.Computed o f c kw h = word_code n base (unary_does o f) (λ t. next (c t).word (unary_word o)) (unary_computed o f c kw)

-- in a function: where calls are kept, objects lie from 16 on, and scalars of one cell lie below the temporaries
module _ (n : Ground) (base : ℕ) (cells : VarRef → Option ℕ) (parameters : ℕ → Option ℕ) (calls : Calls) (kept : CallsKeep parameters calls n.context.calls) (far : AreFar n.context.at) (inside : (v : VarRef) → cells v ≡ Some 1 → IsInside n base v) where
  constant_shape : (w : ℕ) → w < 65536 → ShapeKeeps n base (shape.Constant (Number w)) (constant_does w) (λ t. fixed (Number w))
  constant_shape w lt = (stands_still n base (constant_does w) (Fixed (Number w)) (constant_word n base w lt), (λ y e. tt), (λ t. refl))

  name_shape : (v : VarRef) → IsInside n base v → ShapeKeeps n base (shape.Named (place_of v)) (name_does n.context.at v) (λ t. words.held end (place_of v))
  name_shape v in_frame = (stands_still n base (name_does n.context.at v) (Held (place_of v)) (name_word n base v in_frame), name_steady v, name_light n base v, (λ t. refl))

  address_shape : (v : VarRef) → ShapeKeeps n base (shape.Constant (Address v 0)) (address_does (n.context.at v)) (λ t. fixed (Address v 0))
  address_shape v = (stands_still n base (address_does (n.context.at v)) (Fixed (Address v 0)) (address_word n base v (λ o a e. (far o a e).1)), (λ y e. address_is_no_count n.context.at v y far e), (λ t. refl))

  -- an expression, where its shape says so, needs no items
  shape_keeps : (e : ExprCode) → IsSound cells parameters e → IsOfWords e → ShapeKeeps n base (shape_of e) (value calls n.context.at e) (λ t. (code_of e t).word)
  shape_keeps (Node (tree.Const w) at) s k = constant_shape w k
  shape_keeps (Node (tree.AddressOf v) at) s k = address_shape v
  shape_keeps (Node (tree.Unary Minus (Node (tree.Const w) a)) at) s k = (negative_still n base w k, (λ y e. tt), (λ t. refl))
  shape_keeps (Node (tree.Read v) at) s k = name_shape v (inside v s)
  shape_keeps e s k = tt

  binary_operands : (a b : ExprCode) (va vb : Does Tree ℕ) (ca cb : ℕ → Code) (ra rb : Shape) {ta tb : Does Tree Bool} {ea eb : Does Tree (Unit {0})} → CodeKeeps n base ta va ea ca → CodeKeeps n base tb vb eb cb → ShapeKeeps n base ra va (λ t. (ca t).word) → ShapeKeeps n base rb vb (λ t. (cb t).word)
      → Operands n base (λ ts s. Side base ts s) va vb ra rb ca cb
  binary_operands a b va vb ca cb ra rb ka kb ha hb = record {
    sides = λ ts s w v h. h;
    left = ha;
    right = hb;
    left_word = λ ts s. ka.word.by ts s;
    left_waits = λ ts s. waits n base va (λ t. (ca t).into) ka.into ts s;
    right_word = kb.word;
  }

  mutual
    pub code_keeps : (e : ExprCode) → IsSound cells parameters e → IsOfWords e → CodeKeeps n base (decide calls n.context.at e) (value calls n.context.at e) (effect calls n.context.at e) (code_of e)
    code_keeps (Node (tree.Const w) at) s k = word_code n base (constant_does w) (λ t. fixed (Number w)) (constant_word n base w k)
    code_keeps (Node (tree.Read v) at) s k = word_code n base (name_does n.context.at v) (λ t. words.held end (place_of v)) (name_word n base v (inside v s))
    code_keeps (Node (tree.AddressOf v) at) s k = word_code n base (address_does (n.context.at v)) (λ t. fixed (Address v 0)) (address_word n base v (λ o a e. (far o a e).1))
    code_keeps (Node (tree.Load e) at) s k = word_code n base (load_does (value calls n.context.at e)) (λ t. words.held (code_of e t).point Rattle.acc_code.specs.declared.operand.AccOperand.TheVariants.Pointed) (load_word n base (value calls n.context.at e) (λ t. (code_of e t).point) (code_keeps e s k).point)
    code_keeps (Node (tree.Unary o e) at) s k = unary_keeps n base (shape_of (Node (tree.Unary o e) at)) o (value calls n.context.at e) (code_of e) (code_keeps e s k).word (shape_keeps (Node (tree.Unary o e) at) s k)
    code_keeps (Node (tree.Binary o a b) at) s k =
        subst (λ m. CodeKeeps n base (operation_truth m (value calls n.context.at a) (value calls n.context.at b)) (operation_word m (value calls n.context.at a) (value calls n.context.at b)) (operation_effect m (value calls n.context.at a) (value calls n.context.at b)) (λ t. binary_code (operation_of o) (shape_of a) (shape_of b) (code_of a) (code_of b) t)) (sym (meaning_is o))
        (operation_keeps n base (value calls n.context.at a) (value calls n.context.at b) (code_of a) (code_of b) (operation_of o) (operations_tell o) (shape_of a) (shape_of b)
        (binary_operands a b (value calls n.context.at a) (value calls n.context.at b) (code_of a) (code_of b) (shape_of a) (shape_of b) (code_keeps a s.0 k.0) (code_keeps b s.1 k.1) (shape_keeps a s.0 k.0) (shape_keeps b s.1 k.1)))
    code_keeps (Node (tree.And a b) at) s k =
        branch_code n base (and_does (decide calls n.context.at a) (decide calls n.context.at b)) (λ t. and_branch (code_of a t).branch (code_of b t).branch)
        (and_keeps n base (decide calls n.context.at a) (decide calls n.context.at b) (λ t. (code_of a t).branch) (λ t. (code_of b t).branch) (code_keeps a s.0 k.0).branch (code_keeps b s.1 k.1).branch)
    code_keeps (Node (tree.Or a b) at) s k =
        branch_code n base (or_does (decide calls n.context.at a) (decide calls n.context.at b)) (λ t. or_branch (code_of a t).branch (code_of b t).branch)
        (or_keeps n base (decide calls n.context.at a) (decide calls n.context.at b) (λ t. (code_of a t).branch) (λ t. (code_of b t).branch) (code_keeps a s.0 k.0).branch (code_keeps b s.1 k.1).branch)
    code_keeps (Node (tree.Not e) at) s k = branch_code n base (not_does (decide calls n.context.at e)) (λ t. negated (code_of e t).branch) (not_keeps n base (decide calls n.context.at e) (λ t. (code_of e t).branch) (code_keeps e s k).branch)
    code_keeps (Node (tree.Pick c a b) at) s k =
        pick_keeps n base (decide calls n.context.at c) (value calls n.context.at a) (value calls n.context.at b) (effect calls n.context.at a) (effect calls n.context.at b) (code_of c) (code_of a) (code_of b)
        (code_keeps c s.0 k.0).branch (code_keeps a s.1 k.1).word (code_keeps b s.2 k.2).word (code_keeps a s.1 k.1).effect_too (code_keeps b s.2 k.2).effect_too
    code_keeps (Node (tree.Assign (Named v place) e) at) s k = assign_name_keeps n base v (inside v s.0) (value calls n.context.at e) (code_of e) (code_keeps e s.1 k.1).word (code_keeps e s.1 k.1).into
    code_keeps (Node (tree.Assign (At p place) e) at) s k =
        assign_at_keeps n base (value calls n.context.at p) (value calls n.context.at e) (code_of p) (code_of e) (code_keeps p s.0 k.0).point (code_keeps p s.0 k.0).into (code_keeps e s.1 k.1).word (shape_of e) (shape_keeps e s.1 k.1)
    code_keeps (Node (tree.AssignOp o (Named v place) e) at) s k =
        let w = word_operation_is (operation_of o) k.0 in
        let same : calculated (meaning_of o) ≡ calc_of w.0 = ap calculated (meaning_is o) ∙ ap (λ i. calculated (meant i)) w.1 in
        let va = value calls n.context.at e in
        subst (λ f. CodeKeeps n base (as_truth (update_name_does n.context.at f v va)) (update_name_does n.context.at f v va) (as_nothing (update_name_does n.context.at f v va)) (update_name_code (operation_of o) (shape_of e) (place_of v) (code_of e))) (sym same)
        (subst (λ i. CodeKeeps n base (as_truth (update_name_does n.context.at (calc_of w.0) v va)) (update_name_does n.context.at (calc_of w.0) v va) (as_nothing (update_name_does n.context.at (calc_of w.0) v va)) (update_name_code i (shape_of e) (place_of v) (code_of e))) (sym w.1)
        (update_name_keeps n base w.0 v (inside v s.0) va (shape_of e) (code_of e) (code_keeps e s.1 k.2).word (shape_keeps e s.1 k.2)))
    code_keeps (Node (tree.AssignOp o (At p place) e) at) s k =
        let w = word_operation_is (operation_of o) k.0 in
        let same : calculated (meaning_of o) ≡ calc_of w.0 = ap calculated (meaning_is o) ∙ ap (λ i. calculated (meant i)) w.1 in
        let vp = value calls n.context.at p in
        let va = value calls n.context.at e in
        subst (λ f. CodeKeeps n base (as_truth (update_at_does f vp va)) (update_at_does f vp va) (as_nothing (update_at_does f vp va)) (update_at_code (operation_of o) (shape_of e) (code_of p) (code_of e))) (sym same)
        (subst (λ i. CodeKeeps n base (as_truth (update_at_does (calc_of w.0) vp va)) (update_at_does (calc_of w.0) vp va) (as_nothing (update_at_does (calc_of w.0) vp va)) (update_at_code i (shape_of e) (code_of p) (code_of e))) (sym w.1)
        (update_at_keeps n base w.0 vp va (code_of p) (code_of e) (code_keeps p s.0 k.1).word (code_keeps p s.0 k.1).point (code_keeps e s.1 k.2).word (shape_of e) (shape_keeps e s.1 k.2)))
    code_keeps (Node (tree.StepBefore up (Named v place)) at) s k = name_before_keeps n base up v (inside v s)
    code_keeps (Node (tree.StepBefore up (At p place)) at) s k = at_before_keeps n base up (value calls n.context.at p) (code_of p) (code_keeps p s k).point
    code_keeps (Node (tree.StepAfter up (Named v place)) at) s k = name_after_keeps n base up v (inside v s)
    code_keeps (Node (tree.StepAfter up (At p place)) at) s k = at_after_keeps n base up (value calls n.context.at p) (code_of p) (code_keeps p s k).point
    code_keeps (Node (tree.Call f es) at) s k = call_code_keeps n base parameters calls kept f es (all_keep es s.0 k) s.1
    code_keeps (Node (tree.In port) at) s k = in_keeps n base port
    code_keeps (Node (tree.Out port e) at) s k = out_keeps n base port (value calls n.context.at e) (code_of e) (code_keeps e s.0 k).word
    code_keeps (Node (tree.Comma a b) at) s k =
        comma_keeps n base (effect calls n.context.at a) (decide calls n.context.at b) (value calls n.context.at b) (effect calls n.context.at b) (code_of a) (code_of b) (code_keeps a s.0 k.0).effect_too (code_keeps b s.1 k.1)

    all_keep : (es : ExprsCode) → AreSound cells parameters es → AreOfWords es → AllKeep n base calls es
    all_keep tree.none s k = tt
    all_keep (tree.more e rest) s k = ((code_keeps e s.0 k.0).into, all_keep rest s.1 k.1)
