-- The code of an expression weighs at most what the word tree does.
use Rattle.std.proofs.Common.{◌≡◌, ℕ, suc, ◌+◌, ◌*◌, ◌≤◌, false, arith}
use Rattle.c_syntax.specs.declared.operator.UnaryOp.TheVariants.{Minus}
use Rattle.c_tree.specs.declared.program.VarRef.{VarRef}
use Rattle.c_tree.specs.declared.program.VarRef.TheVariants.{Scalar, Local, Static}
use Rattle.tree_code.specs.WordTree as tree
use Rattle.tree_code.specs.WordTree.{ExprCode, Node, Named, At, ExprsCode}
use Rattle.acc_code.specs.AccTree.{end}
use Rattle.acc_code.specs.declared.operand.AccOperand.TheVariants as operand
use Rattle.acc_select.specs.acc_operations.Constants.{place_of, shape_of}
use Rattle.acc_select.specs.acc_operations.Kinds.{operation_of}
use Rattle.acc_select.specs.acc_operations.Words.{fixed, held}
use Rattle.acc_select.specs.Forms.{parameter_items}
use Rattle.acc_select.specs.Selected.{waiting, code_of, arguments}
use Rattle.ir_semantics.specs.AccRows.{operand_weight}
use Rattle.ir_semantics.specs.Weights.{expression_weight, arguments_weight, items_weight}
use Rattle.size_proof.proofs.Forming.{CodeWeighs, of_word_weighs, unary_weighs, ShapeWeighs, binary_weighs, and_code_weighs, or_code_weighs, not_weighs}
use Rattle.size_proof.proofs.Storing.{pick_weighs, comma_weighs, assign_name_weighs, assign_at_weighs, update_name_weighs, update_at_weighs, step_before_weighs, step_after_weighs, step_name_after_weighs, in_weighs, out_weighs, argument_weighs, last_argument_weighs, parameters_weigh, call_weighs}

place_light : (v : VarRef) → operand_weight (place_of v) ≤ 5
place_light (Scalar n) = omega arith
place_light (Local n) = omega arith
place_light (Static n) = omega arith

shape_weighs : (e : ExprCode) → ShapeWeighs (shape_of e) (expression_weight e)
shape_weighs (Node (tree.Const w) at) = omega arith
shape_weighs (Node (tree.AddressOf v) at) = omega arith
shape_weighs (Node (tree.Unary Minus (Node (tree.Const w) a)) at) = omega arith
shape_weighs (Node (tree.Read v) at) = place_light v
shape_weighs e = tt

some_weight : (e : ExprCode) → 1 ≤ expression_weight e
some_weight (Node (tree.Const w) at) = omega arith
some_weight (Node (tree.Read v) at) = omega arith
some_weight (Node (tree.AddressOf v) at) = omega arith
some_weight (Node (tree.Load e) at) = omega arith
some_weight (Node (tree.Unary o e) at) = omega arith
some_weight (Node (tree.Binary o a b) at) = omega arith
some_weight (Node (tree.And a b) at) = omega arith
some_weight (Node (tree.Or a b) at) = omega arith
some_weight (Node (tree.Not e) at) = omega arith
some_weight (Node (tree.Pick c a b) at) = omega arith
some_weight (Node (tree.Assign (Named v p) e) at) = omega arith
some_weight (Node (tree.Assign (At l p) e) at) = omega arith
some_weight (Node (tree.AssignOp o (Named v p) e) at) = omega arith
some_weight (Node (tree.AssignOp o (At l p) e) at) = omega arith
some_weight (Node (tree.StepBefore up (Named v p)) at) = omega arith
some_weight (Node (tree.StepBefore up (At l p)) at) = omega arith
some_weight (Node (tree.StepAfter up (Named v p)) at) = omega arith
some_weight (Node (tree.StepAfter up (At l p)) at) = omega arith
some_weight (Node (tree.Call f es) at) = omega arith
some_weight (Node (tree.In port) at) = omega arith
some_weight (Node (tree.Out port e) at) = omega arith
some_weight (Node (tree.Comma a b) at) = omega arith

mutual
  pub expression_weighs : (e : ExprCode) (t : ℕ) → CodeWeighs (code_of e t) (expression_weight e)
  expression_weighs (Node (tree.Const w) at) t = of_word_weighs (fixed _) 2 (omega arith)
  expression_weighs (Node (tree.Read v) at) t = let l = place_light v in of_word_weighs (held end (place_of v)) 5 (omega (arith, l))
  expression_weighs (Node (tree.AddressOf v) at) t = of_word_weighs (fixed _) 2 (omega arith)
  expression_weighs (Node (tree.Load e) at) t = let h = (expression_weighs e t).point in of_word_weighs (held (code_of e t).point operand.Pointed) (5 + expression_weight e) (omega (arith, h))
  expression_weighs (Node (tree.Unary o e) at) t = unary_weighs (shape_of (Node (tree.Unary o e) at)) o (code_of e t) (expression_weight e) (expression_weighs e t).word (some_weight e)
  expression_weighs (Node (tree.Binary o a b) at) t =
      binary_weighs (operation_of o) (shape_of a) (shape_of b) (code_of a) (code_of b) t (expression_weight a) (expression_weight b) (record {
        left = (expression_weighs a t).word;
        kept = (expression_weighs a t).into (operand.Scalar t);
        right = (expression_weighs b t).word;
        deeper = (expression_weighs b (suc t)).word;
        says = shape_weighs b;
      })
  expression_weighs (Node (tree.And a b) at) t = and_code_weighs (code_of a t) (code_of b t) (expression_weight a) (expression_weight b) (expression_weighs a t) (expression_weighs b t)
  expression_weighs (Node (tree.Or a b) at) t = or_code_weighs (code_of a t) (code_of b t) (expression_weight a) (expression_weight b) (expression_weighs a t) (expression_weighs b t)
  expression_weighs (Node (tree.Not a) at) t = not_weighs (code_of a t) (expression_weight a) (expression_weighs a t)
  expression_weighs (Node (tree.Pick c a b) at) t = pick_weighs (code_of c t) (code_of a t) (code_of b t) (expression_weight c) (expression_weight a) (expression_weight b) (expression_weighs c t) (expression_weighs a t) (expression_weighs b t)
  expression_weighs (Node (tree.Assign (Named v place) e) at) t = assign_name_weighs (place_of v) (code_of e t) (expression_weight e) (place_light v) (expression_weighs e t)
  expression_weighs (Node (tree.Assign (At p place) e) at) t = assign_at_weighs (shape_of e) (code_of p) (code_of e) t (expression_weight p) (expression_weight e) (expression_weighs p t) (expression_weighs e t) (expression_weighs e (suc t))
  expression_weighs (Node (tree.AssignOp o (Named v place) e) at) t =
      update_name_weighs (operation_of o) (shape_of e) (place_of v) (code_of e) t (expression_weight e) (place_light v) (expression_weighs e t).word (expression_weighs e (suc t)).word (shape_weighs e)
  expression_weighs (Node (tree.AssignOp o (At p place) e) at) t =
      update_at_weighs (operation_of o) (shape_of e) (code_of p) (code_of e) t (expression_weight p) (expression_weight e) (expression_weighs p t) (expression_weighs e t).word (expression_weighs e (suc t)).word (expression_weighs e (suc (suc t))).word (shape_weighs e)
  expression_weighs (Node (tree.StepBefore up (Named v place)) at) t = let l = place_light v in step_before_weighs up end (place_of v) 14 (omega (arith, l))
  expression_weighs (Node (tree.StepBefore up (At p place)) at) t = let h = (expression_weighs p t).point in step_before_weighs up (code_of p t).point operand.Pointed (14 + expression_weight p) (omega (arith, h))
  expression_weighs (Node (tree.StepAfter up (Named v place)) at) t = step_name_after_weighs up (place_of v) (place_light v)
  expression_weighs (Node (tree.StepAfter up (At p place)) at) t = let h = (expression_weighs p t).point in step_after_weighs up (code_of p t).point operand.Pointed (14 + expression_weight p) (omega (arith, h))
  expression_weighs (Node (tree.Call f es) at) t =
      let h = arguments_weigh f 0 es t in
      let p = parameters_weigh f 0 t (waiting es) in
      call_weighs f (arguments f 0 es t) (parameter_items f 0 t (waiting es)) (arguments_weight es) (omega (arith, h, p))
  expression_weighs (Node (tree.In port) at) t = in_weighs port
  expression_weighs (Node (tree.Out port e) at) t = out_weighs port (code_of e t) (expression_weight e) (expression_weighs e t)
  expression_weighs (Node (tree.Comma a b) at) t = comma_weighs (code_of a t) (code_of b t) (expression_weight a) (expression_weight b) (expression_weighs a t) (expression_weighs b t)

  -- with what it weighs to hand on those that waited
  arguments_weigh : (f i : ℕ) (es : ExprsCode) (t : ℕ) → items_weight (arguments f i es t) + 7 * waiting es ≤ arguments_weight es
  arguments_weigh f i tree.none t = omega arith
  arguments_weigh f i (tree.more e tree.none) t = let h = last_argument_weighs f i t (code_of e t) end (expression_weight e) (expression_weighs e t) in omega (arith, h)
  arguments_weigh f i (tree.more e (tree.more d rest)) t =
      let r = arguments_weigh f (suc i) (tree.more d rest) (suc t) in
      let h = argument_weighs f i t false (code_of e t) (arguments f (suc i) (tree.more d rest) (suc t)) (expression_weight e) (items_weight (arguments f (suc i) (tree.more d rest) (suc t))) (expression_weighs e t) (omega arith) in
      let w : waiting (tree.more e (tree.more d rest)) ≡ suc (waiting (tree.more d rest)) = omega arith in
      omega (arith, r, h, w)
