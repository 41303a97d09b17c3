-- The code of an expression of words is usable.
use Rattle.std.proofs.Common.{ℕ, suc}
use Rattle.c_syntax.specs.declared.operator.UnaryOp.TheVariants.{Minus}
use Rattle.c_tree.specs.declared.program.VarRef.{VarRef}
use Rattle.c_tree.specs.declared.program.VarRef.TheVariants.{Scalar, Local, Static}
use Rattle.tree_code.specs.WordTree as tree
use Rattle.tree_code.specs.WordTree.{ExprCode, Node, Named, At, ExprsCode}
use Rattle.acc_code.specs.AccTree.{end}
use Rattle.acc_code.specs.declared.operand.AccOperand.TheVariants as operand
use Rattle.acc_select.specs.acc_operations.Constants.{place_of, shape_of}
use Rattle.acc_select.specs.acc_operations.Kinds.{operation_of}
use Rattle.acc_select.specs.acc_operations.Words.{fixed, held}
use Rattle.acc_select.specs.acc_operations.declared.constant.Constant.TheVariants.{Number, Address}
use Rattle.acc_select.specs.Conditions as condition
use Rattle.acc_select.specs.Conditions.{and_branch, or_branch}
use Rattle.acc_select.specs.Forms.{parameter_items}
use Rattle.acc_select.specs.Selected.{code_of, arguments, waiting, is_last}
use Rattle.emit_proof.specs.Addressed.{IsWordOperand}
use Rattle.acc_select_proof.specs.OfWords.{IsOfWords, AreOfWords}
use Rattle.image_proof.proofs.Usables.{Usable, nothing}
use Rattle.image_proof.proofs.UsableWords.{negative_word}
use Rattle.image_proof.proofs.Branches.{UsableCode, of_word_usable, of_branch_usable, and_usable, or_usable, not_usable}
use Rattle.image_proof.proofs.Forms.{IsWordShape, fixed_usable, held_usable, unary_usable, binary_usable, assign_name_usable, assign_at_usable, update_name_usable, update_at_usable, step_before_usable, step_after_usable, step_name_after_usable, pick_usable, comma_usable, in_usable, out_usable, argument_usable, parameters_usable, call_usable}

-- the word of a name is a place of memory
name_word : (v : VarRef) → IsWordOperand (place_of v)
name_word (Scalar n) = tt
name_word (Local n) = tt
name_word (Static n) = tt

shape_word : (e : ExprCode) → IsOfWords e → IsWordShape (shape_of e)
shape_word (Node (tree.Const w) at) h = h
shape_word (Node (tree.AddressOf v) at) h = tt
shape_word (Node (tree.Unary Minus (Node (tree.Const w) a)) at) h = negative_word w
shape_word (Node (tree.Read v) at) h = name_word v
shape_word e h = tt

mutual
  pub code_usable : (e : ExprCode) → IsOfWords e → (t : ℕ) → UsableCode (code_of e t)
  code_usable (Node (tree.Const w) at) h t = of_word_usable (fixed (Number w)) (fixed_usable (Number w) h)
  code_usable (Node (tree.Read v) at) h t = of_word_usable (held end (place_of v)) (held_usable (place_of v) nothing (name_word v))
  code_usable (Node (tree.AddressOf v) at) h t = of_word_usable (fixed (Address v 0)) (fixed_usable (Address v 0) tt)
  code_usable (Node (tree.Load e) at) h t = of_word_usable (held (code_of e t).point operand.Pointed) (held_usable operand.Pointed (code_usable e h t).point tt)
  code_usable (Node (tree.Unary o e) at) h t = unary_usable (shape_of (Node (tree.Unary o e) at)) o (code_of e t) (shape_word (Node (tree.Unary o e) at) h) (code_usable e h t)
  code_usable (Node (tree.Binary o a b) at) h t =
      binary_usable (operation_of o) (shape_of a) (shape_of b) (code_of a) (code_of b) t (shape_word a h.0) (shape_word b h.1) (λ u. code_usable a h.0 u) (λ u. code_usable b h.1 u)
  code_usable (Node (tree.And a b) at) h t =
      of_branch_usable (and_branch (code_of a t).branch (code_of b t).branch) (and_usable (code_of a t).branch (code_of b t).branch (code_usable a h.0 t).branch (code_usable b h.1 t).branch)
  code_usable (Node (tree.Or a b) at) h t =
      of_branch_usable (or_branch (code_of a t).branch (code_of b t).branch) (or_usable (code_of a t).branch (code_of b t).branch (code_usable a h.0 t).branch (code_usable b h.1 t).branch)
  code_usable (Node (tree.Not e) at) h t = of_branch_usable (condition.negated (code_of e t).branch) (not_usable (code_of e t).branch (code_usable e h t).branch)
  code_usable (Node (tree.Pick c a b) at) h t = pick_usable (code_of c t) (code_of a t) (code_of b t) (code_usable c h.0 t) (code_usable a h.1 t) (code_usable b h.2 t)
  code_usable (Node (tree.Assign (Named v place) e) at) h t = assign_name_usable (place_of v) (code_of e t) (name_word v) (code_usable e h.1 t)
  code_usable (Node (tree.Assign (At p place) e) at) h t = assign_at_usable (shape_of e) (code_of p) (code_of e) t (λ u. code_usable p h.0 u) (λ u. code_usable e h.1 u)
  code_usable (Node (tree.AssignOp o (Named v place) e) at) h t =
      update_name_usable (operation_of o) (shape_of e) (place_of v) (code_of e) t (shape_word e h.2) (name_word v) (λ u. code_usable e h.2 u)
  code_usable (Node (tree.AssignOp o (At p place) e) at) h t =
      update_at_usable (operation_of o) (shape_of e) (code_of p) (code_of e) t (shape_word e h.2) (λ u. code_usable p h.1 u) (λ u. code_usable e h.2 u)
  code_usable (Node (tree.StepBefore up (Named v place)) at) h t = step_before_usable up end (place_of v) nothing (name_word v)
  code_usable (Node (tree.StepBefore up (At p place)) at) h t = step_before_usable up (code_of p t).point operand.Pointed (code_usable p h t).point tt
  code_usable (Node (tree.StepAfter up (Named v place)) at) h t = step_name_after_usable up (place_of v) (name_word v)
  code_usable (Node (tree.StepAfter up (At p place)) at) h t = step_after_usable up (code_of p t).point operand.Pointed (code_usable p h t).point tt
  code_usable (Node (tree.Call f es) at) h t =
      call_usable f (arguments f 0 es t) (parameter_items f 0 t (waiting es)) (arguments_usable f 0 es h t) (parameters_usable f 0 t (waiting es))
  code_usable (Node (tree.In port) at) h t = in_usable port
  code_usable (Node (tree.Out port e) at) h t = out_usable port (code_of e t) (code_usable e h t)
  code_usable (Node (tree.Comma a b) at) h t = comma_usable (code_of a t) (code_of b t) (code_usable a h.0 t) (code_usable b h.1 t)

  arguments_usable : (f i : ℕ) (es : ExprsCode) → AreOfWords es → (t : ℕ) → Usable (arguments f i es t)
  arguments_usable f i tree.none h t = nothing
  arguments_usable f i (tree.more e rest) h t =
      argument_usable f i t (is_last rest) (code_of e t) (arguments f (suc i) rest (suc t)) (code_usable e h.0 t) (arguments_usable f (suc i) rest h.1 (suc t))
