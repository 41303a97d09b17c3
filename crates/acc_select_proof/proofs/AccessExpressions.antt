-- The code of an expression has the accesses of the word tree.
use Rattle.std.proofs.Common.{◌≡◌, refl, ap, ◌∙◌, sym, subst, ℕ, suc, Bool, true, false, arith}
use mathlib.Core.Path.{fun_ext}
use Rattle.c_syntax.specs.declared.operator.UnaryOp.TheVariants.{Minus}
use Rattle.c_tree.specs.declared.program.VarRef.{VarRef}
use Rattle.c_tree.specs.declared.program.VarRef.TheVariants.{Scalar, Local, Static}
use Rattle.tree_code.specs.WordTree as tree
use Rattle.tree_code.specs.WordTree.{ExprCode, Node, Named, At, ExprsCode}
use Rattle.tree_code.specs.WordTemporaries.{is_constant_word, is_simple_word}
use Rattle.tree_code.specs.declared.operator.WordOp.{WordOp}
use Rattle.tree_code.specs.declared.operator.WordOp.TheVariants as word
use Rattle.acc_code.specs.AccSequence.{Rest, access, cut, operand_accesses, accesses}
use Rattle.acc_code.specs.AccTree.{end}
use Rattle.acc_code.specs.declared.operand.AccOperand.TheVariants as operand
use Rattle.acc_select.specs.acc_operations.Constants.{place_of, shape_of}
use Rattle.acc_select.specs.acc_operations.Kinds.{operation_of}
use Rattle.acc_select.specs.acc_operations.Words.{fixed, held}
use Rattle.acc_select.specs.acc_operations.declared.constant.Constant.{Constant}
use Rattle.acc_select.specs.acc_operations.declared.constant.Shape.{Shape}
use Rattle.acc_select.specs.acc_operations.declared.constant.Shape.TheVariants as shape
use Rattle.acc_select.specs.Forms.{parameter_items}
use Rattle.acc_select.specs.Selected.{is_last, waiting, code_of, arguments}
use Rattle.acc_select_proof.specs.Listed.{Marks, of_value, name_accesses, cut_where, of_operands, assigned_through, updated_through}
use Rattle.acc_select_proof.specs.TreeAccesses.{ends_word_block, word_waited, word_listed, word_arguments}
use Rattle.acc_select_proof.proofs.Marking.{Has, nothing}
use Rattle.acc_select_proof.proofs.AccessBranching.{and_branch_has, or_branch_has, negated_has}
use Rattle.acc_select_proof.proofs.AccessForming.{CodeHas, of_word_has, of_branch_has, unary_has, ShapeSays, is_simple_shape, is_constant_shape, OperandsHave, ends, binary_has}
use Rattle.acc_select_proof.proofs.Storing.{pick_has, comma_has, assign_name_has, assign_at_has, update_name_has, update_at_has, step_before_has, step_after_has, step_name_after_has, in_has, out_has, argument_has, call_has}

-- what shapes say of operands
constant_shape : (e : ExprCode) → is_constant_word e ≡ is_constant_shape (shape_of e)
constant_shape (Node (tree.Const w) at) = refl
constant_shape (Node (tree.AddressOf v) at) = refl
constant_shape (Node (tree.Unary Minus (Node (tree.Const w) a)) at) = refl
constant_shape e = refl

simple_shape : (e : ExprCode) → is_simple_word e ≡ is_simple_shape (shape_of e)
simple_shape (Node (tree.Const w) at) = refl
simple_shape (Node (tree.AddressOf v) at) = refl
simple_shape (Node (tree.Unary Minus (Node (tree.Const w) a)) at) = refl
simple_shape (Node (tree.Read v) at) = refl
simple_shape e = refl

place_accesses : (v : VarRef) (κ : Rest) → operand_accesses (place_of v) κ ≡ name_accesses v κ
place_accesses (Scalar n) κ = refl
place_accesses (Local n) κ = refl
place_accesses (Static n) κ = refl

shape_says : (e : ExprCode) (t : ℕ) → ShapeSays (shape_of e) (word_listed e t).value
shape_says (Node (tree.Const w) at) t = λ κ. refl
shape_says (Node (tree.AddressOf v) at) t = λ κ. refl
shape_says (Node (tree.Unary Minus (Node (tree.Const w) a)) at) t = λ κ. refl
shape_says (Node (tree.Read v) at) t = λ κ. sym (place_accesses v κ)
shape_says e t = tt

says_nothing : (s : Shape) (f : Marks) → ShapeSays s f → (k : Constant) → s ≡ shape.Constant k → (κ : Rest) → f κ ≡ κ
says_nothing (shape.Constant c) f says k is = says
says_nothing (shape.Named m) f says k is = absurd (cc is)
says_nothing shape.Computed f says k is = absurd (cc is)

-- an operation ends a block where that of a word tree does
ends_agree : (o : WordOp) (constant : Bool) → ends (operation_of o) constant ≡ ends_word_block o constant
ends_agree word.Add constant = refl
ends_agree word.Sub constant = refl
ends_agree word.Mul constant = refl
ends_agree word.DivInt constant = refl
ends_agree word.DivUnsigned constant = refl
ends_agree word.RemInt constant = refl
ends_agree word.RemUnsigned constant = refl
ends_agree word.And constant = refl
ends_agree word.Or constant = refl
ends_agree word.Xor constant = refl
ends_agree word.Shl constant = refl
ends_agree word.ShrInt constant = refl
ends_agree word.ShrUnsigned constant = refl
ends_agree word.Eq constant = refl
ends_agree word.Ne constant = refl
ends_agree word.LtInt constant = refl
ends_agree word.LtUnsigned constant = refl
ends_agree word.GtInt constant = refl
ends_agree word.GtUnsigned constant = refl
ends_agree word.LeInt constant = refl
ends_agree word.LeUnsigned constant = refl
ends_agree word.GeInt constant = refl
ends_agree word.GeUnsigned constant = refl

-- an operator, with what is said of its operands as trees
end_by : (o : WordOp) (b : ExprCode) → ends (operation_of o) (is_constant_shape (shape_of b)) ≡ ends_word_block o (is_constant_word b)
end_by o b = ends_agree o (is_constant_shape (shape_of b)) ∙ ap (ends_word_block o) (sym (constant_shape b))

binary_expression : (o : WordOp) (a b : ExprCode) (t : ℕ) (va vb vd : Marks) → OperandsHave (shape_of a) (shape_of b) (code_of a) (code_of b) t va vb vd
    → CodeHas (code_of (Node (tree.Binary o a b) 0) t) (of_value (λ κ. of_operands (is_simple_word b) (is_constant_word a) t va vb vd (cut_where (ends_word_block o (is_constant_word b)) κ)))
binary_expression o a b t va vb vd h =
    let code = code_of (Node (tree.Binary o a b) 0) t in
    subst (λ z. CodeHas code (of_value (λ κ. of_operands (is_simple_word b) (is_constant_word a) t va vb vd (cut_where z κ)))) (end_by o b)
    (subst (λ y. CodeHas code (of_value (λ κ. of_operands (is_simple_word b) y t va vb vd (cut_where (ends (operation_of o) (is_constant_shape (shape_of b))) κ)))) (sym (constant_shape a))
    (subst (λ x. CodeHas code (of_value (λ κ. of_operands x (is_constant_shape (shape_of a)) t va vb vd (cut_where (ends (operation_of o) (is_constant_shape (shape_of b))) κ)))) (sym (simple_shape b))
    (binary_has (operation_of o) (shape_of a) (shape_of b) (code_of a) (code_of b) t va vb vd h)))

assign_at_expression : (p e : ExprCode) (t : ℕ) → CodeHas (code_of p t) (word_listed p t) → CodeHas (code_of e t) (word_listed e t) → CodeHas (code_of e (suc t)) (word_listed e (suc t))
    → CodeHas (code_of (Node (tree.Assign (At p 0) e) 0) t) (word_listed (Node (tree.Assign (At p 0) e) 0) t)
assign_at_expression p e t hp he hd =
    subst (λ x. CodeHas (code_of (Node (tree.Assign (At p 0) e) 0) t) (of_value (assigned_through x t (word_listed p t).value (word_listed e t).value (word_listed e (suc t)).value))) (sym (simple_shape e))
    (assign_at_has (shape_of e) (code_of p) (code_of e) t (word_listed p t) (word_listed e t) (word_listed e (suc t)) hp he hd)

update_name_expression : (o : WordOp) (v : VarRef) (e : ExprCode) (t : ℕ) → CodeHas (code_of e t) (word_listed e t) → CodeHas (code_of e (suc t)) (word_listed e (suc t))
    → CodeHas (code_of (Node (tree.AssignOp o (Named v 0) e) 0) t) (word_listed (Node (tree.AssignOp o (Named v 0) e) 0) t)
update_name_expression o v e t he hd =
    let code = code_of (Node (tree.AssignOp o (Named v 0) e) 0) t in
    let ve = (word_listed e t).value in
    let vd = (word_listed e (suc t)).value in
    subst (λ n. CodeHas code (of_value (λ κ. of_operands (is_simple_word e) false t n ve vd (cut_where (ends_word_block o (is_constant_word e)) (n κ))))) (fun_ext (place_accesses v))
    (subst (λ z. CodeHas code (of_value (λ κ. of_operands (is_simple_word e) false t (operand_accesses (place_of v)) ve vd (cut_where z (operand_accesses (place_of v) κ))))) (end_by o e)
    (subst (λ x. CodeHas code (of_value (λ κ. of_operands x false t (operand_accesses (place_of v)) ve vd (cut_where (ends (operation_of o) (is_constant_shape (shape_of e))) (operand_accesses (place_of v) κ))))) (sym (simple_shape e))
    (update_name_has (operation_of o) (shape_of e) (place_of v) (code_of e) t ve vd he.word hd.word (shape_says e t))))

update_at_expression : (o : WordOp) (p e : ExprCode) (t : ℕ) → CodeHas (code_of p t) (word_listed p t) → CodeHas (code_of e t) (word_listed e t) → CodeHas (code_of e (suc t)) (word_listed e (suc t)) → CodeHas (code_of e (suc (suc t))) (word_listed e (suc (suc t)))
    → CodeHas (code_of (Node (tree.AssignOp o (At p 0) e) 0) t) (word_listed (Node (tree.AssignOp o (At p 0) e) 0) t)
update_at_expression o p e t hp he hd hdd =
    let code = code_of (Node (tree.AssignOp o (At p 0) e) 0) t in
    subst (λ z. CodeHas code (of_value (updated_through (is_simple_word e) z t (word_listed p t).value (word_listed e t).value (word_listed e (suc (suc t))).value))) (end_by o e)
    (subst (λ x. CodeHas code (of_value (updated_through x (ends (operation_of o) (is_constant_shape (shape_of e))) t (word_listed p t).value (word_listed e t).value (word_listed e (suc (suc t))).value))) (sym (simple_shape e))
    (update_at_has (operation_of o) (shape_of e) (code_of p) (code_of e) t (word_listed p t) (word_listed e t).value (word_listed e (suc t)).value (word_listed e (suc (suc t))).value hp he.word hd.word hdd.word (shape_says e t) (shape_says e (suc t))))

-- steps of a name: the place is accessed twice
of_name : {c : Rattle.acc_select.specs.Forms.Code} (v : VarRef) (f : Marks → Marks) → CodeHas c (of_value (f (operand_accesses (place_of v)))) → CodeHas c (of_value (f (name_accesses v)))
of_name {c} v f h = subst (λ n. CodeHas c (of_value (f n))) (fun_ext (place_accesses v)) h

-- a condition is its value with a cut behind it
pub absorbs : (e : ExprCode) (t : ℕ) (κ : Rest) → (word_listed e t).condition (cut κ) ≡ (word_listed e t).condition κ
absorbs (Node (tree.Not a) at) t κ = absorbs a t κ
absorbs (Node (tree.Const w) at) t κ = refl
absorbs (Node (tree.Read v) at) t κ = refl
absorbs (Node (tree.AddressOf v) at) t κ = refl
absorbs (Node (tree.Load e) at) t κ = refl
absorbs (Node (tree.Unary o e) at) t κ = refl
absorbs (Node (tree.Binary o a b) at) t κ = refl
absorbs (Node (tree.And a b) at) t κ = refl
absorbs (Node (tree.Or a b) at) t κ = refl
absorbs (Node (tree.Pick c a b) at) t κ = refl
absorbs (Node (tree.Assign (Named v place) e) at) t κ = refl
absorbs (Node (tree.Assign (At p place) e) at) t κ = refl
absorbs (Node (tree.AssignOp o (Named v place) e) at) t κ = refl
absorbs (Node (tree.AssignOp o (At p place) e) at) t κ = refl
absorbs (Node (tree.StepBefore up (Named v place)) at) t κ = refl
absorbs (Node (tree.StepBefore up (At p place)) at) t κ = refl
absorbs (Node (tree.StepAfter up (Named v place)) at) t κ = refl
absorbs (Node (tree.StepAfter up (At p place)) at) t κ = refl
absorbs (Node (tree.Call f es) at) t κ = refl
absorbs (Node (tree.In port) at) t κ = refl
absorbs (Node (tree.Out port e) at) t κ = refl
absorbs (Node (tree.Comma a b) at) t κ = refl

pub conditional : (e : ExprCode) (t : ℕ) (κ : Rest) → (word_listed e t).condition κ ≡ (word_listed e t).value (cut κ)
conditional (Node (tree.Not a) at) t κ = sym (absorbs a t (cut κ) ∙ absorbs a t κ)
conditional (Node (tree.Const w) at) t κ = refl
conditional (Node (tree.Read v) at) t κ = refl
conditional (Node (tree.AddressOf v) at) t κ = refl
conditional (Node (tree.Load e) at) t κ = refl
conditional (Node (tree.Unary o e) at) t κ = refl
conditional (Node (tree.Binary o a b) at) t κ = refl
conditional (Node (tree.And a b) at) t κ = refl
conditional (Node (tree.Or a b) at) t κ = refl
conditional (Node (tree.Pick c a b) at) t κ = refl
conditional (Node (tree.Assign (Named v place) e) at) t κ = refl
conditional (Node (tree.Assign (At p place) e) at) t κ = refl
conditional (Node (tree.AssignOp o (Named v place) e) at) t κ = refl
conditional (Node (tree.AssignOp o (At p place) e) at) t κ = refl
conditional (Node (tree.StepBefore up (Named v place)) at) t κ = refl
conditional (Node (tree.StepBefore up (At p place)) at) t κ = refl
conditional (Node (tree.StepAfter up (Named v place)) at) t κ = refl
conditional (Node (tree.StepAfter up (At p place)) at) t κ = refl
conditional (Node (tree.Call f es) at) t κ = refl
conditional (Node (tree.In port) at) t κ = refl
conditional (Node (tree.Out port e) at) t κ = refl
conditional (Node (tree.Comma a b) at) t κ = refl

last_none : (es : ExprsCode) (t : ℕ) → is_last es ≡ true → (κ : Rest) → word_arguments es t κ ≡ κ
last_none tree.none t is κ = refl
last_none (tree.more e rest) t is κ = absurd (cc is)

parameters_have : (f i t : ℕ) (es : ExprsCode) → Has (parameter_items f i t (waiting es)) (word_waited es t)
parameters_have f i t tree.none κ = refl
parameters_have f i t (tree.more e tree.none) κ = refl
parameters_have f i t (tree.more e (tree.more d rest)) κ =
    let count : waiting (tree.more e (tree.more d rest)) ≡ suc (waiting (tree.more d rest)) = omega arith in
    ap (λ n. accesses (parameter_items f i t n) κ) count ∙ ap (access t) (parameters_have f (suc i) (suc t) (tree.more d rest) κ)

mutual
  pub expression_has : (e : ExprCode) (t : ℕ) → CodeHas (code_of e t) (word_listed e t)
  expression_has (Node (tree.Const w) at) t = of_word_has (fixed _) nothing (λ κ. refl)
  expression_has (Node (tree.Read v) at) t = of_word_has (held end (place_of v)) (name_accesses v) (place_accesses v)
  expression_has (Node (tree.AddressOf v) at) t = of_word_has (fixed _) nothing (λ κ. refl)
  expression_has (Node (tree.Load e) at) t = of_word_has (held (code_of e t).point operand.Pointed) (word_listed e t).value (expression_has e t).point
  expression_has (Node (tree.Unary o e) at) t =
      unary_has (shape_of (Node (tree.Unary o e) at)) o (code_of e t) (word_listed e t).value (expression_has e t).word
      (says_nothing (shape_of (Node (tree.Unary o e) at)) (word_listed e t).value (shape_says (Node (tree.Unary o e) at) t))
  expression_has (Node (tree.Binary o a b) at) t =
      binary_expression o a b t (word_listed a t).value (word_listed b t).value (word_listed b (suc t)).value (record {
        left = (expression_has a t).word;
        kept = (expression_has a t).into (operand.Scalar t);
        right = (expression_has b t).word;
        deeper = (expression_has b (suc t)).word;
        says = shape_says b t;
      })
  expression_has (Node (tree.And a b) at) t = of_branch_has _ _ (and_branch_has (code_of a t).branch (code_of b t).branch (word_listed a t).condition (word_listed b t).condition (expression_has a t).branch (expression_has b t).branch)
  expression_has (Node (tree.Or a b) at) t = of_branch_has _ _ (or_branch_has (code_of a t).branch (code_of b t).branch (word_listed a t).condition (word_listed b t).condition (expression_has a t).branch (expression_has b t).branch)
  expression_has (Node (tree.Not a) at) t = of_branch_has _ _ (negated_has (code_of a t).branch (word_listed a t).condition (expression_has a t).branch)
  expression_has (Node (tree.Pick c a b) at) t = pick_has (code_of c t) (code_of a t) (code_of b t) (word_listed c t) (word_listed a t) (word_listed b t) (expression_has c t) (expression_has a t) (expression_has b t)
  expression_has (Node (tree.Assign (Named v place) e) at) t = of_name v (λ n κ. (word_listed e t).value (n κ)) (assign_name_has (place_of v) (code_of e t) (word_listed e t) (expression_has e t))
  expression_has (Node (tree.Assign (At p place) e) at) t = assign_at_expression p e t (expression_has p t) (expression_has e t) (expression_has e (suc t))
  expression_has (Node (tree.AssignOp o (Named v place) e) at) t = update_name_expression o v e t (expression_has e t) (expression_has e (suc t))
  expression_has (Node (tree.AssignOp o (At p place) e) at) t = update_at_expression o p e t (expression_has p t) (expression_has e t) (expression_has e (suc t)) (expression_has e (suc (suc t)))
  expression_has (Node (tree.StepBefore up (Named v place)) at) t = of_name v (λ n κ. n (n κ)) (step_before_has up end (place_of v) nothing (λ κ. refl))
  expression_has (Node (tree.StepBefore up (At p place)) at) t = step_before_has up (code_of p t).point operand.Pointed (word_listed p t).value (expression_has p t).point
  expression_has (Node (tree.StepAfter up (Named v place)) at) t = of_name v (λ n κ. n (n κ)) (step_name_after_has up (place_of v))
  expression_has (Node (tree.StepAfter up (At p place)) at) t = step_after_has up (code_of p t).point operand.Pointed (word_listed p t).value (expression_has p t).point
  expression_has (Node (tree.Call f es) at) t = call_has f (arguments f 0 es t) (parameter_items f 0 t (waiting es)) (word_arguments es t) (word_waited es t) (arguments_have f 0 es t) (parameters_have f 0 t es)
  expression_has (Node (tree.In port) at) t = in_has port
  expression_has (Node (tree.Out port e) at) t = out_has port (code_of e t) (word_listed e t) (expression_has e t)
  expression_has (Node (tree.Comma a b) at) t = comma_has (code_of a t) (code_of b t) (word_listed a t) (word_listed b t) (expression_has a t) (expression_has b t) (conditional b t)

  arguments_have : (f i : ℕ) (es : ExprsCode) (t : ℕ) → Has (arguments f i es t) (word_arguments es t)
  arguments_have f i tree.none t κ = refl
  arguments_have f i (tree.more e rest) t κ =
      argument_has f i t (is_last rest) (code_of e t) (arguments f (suc i) rest (suc t)) (word_listed e t) (word_arguments rest (suc t)) (expression_has e t) (arguments_have f (suc i) rest (suc t)) (last_none rest (suc t)) κ
