-- An expression weighs the same whatever numbers its objects have.
use Rattle.std.proofs.Common.{◌≡◌, List, Option, Some, None, refl, arith}
use Rattle.c_tree.specs.declared.program.VarRef.{VarRef}
use Rattle.c_tree.specs.TypedTree as tree
use Rattle.c_tree.specs.TypedTree.{Expr, Node, Named, At, Exprs}
use Rattle.c_rules.specs.Renumbering as renumbering
use Rattle.ir_semantics.specs.SourceWeights.{source_expression_weight, source_arguments_weight, source_optional_weight}

module _ (numbers : List VarRef) where
  mutual
    pub same_weight : (e : Expr) → source_expression_weight (renumbering.expression numbers e) ≡ source_expression_weight e
    same_weight (Node (tree.Const w) kind at) = refl
    same_weight (Node (tree.Read v) kind at) = refl
    same_weight (Node (tree.AddressOf v) kind at) = refl
    same_weight (Node (tree.Load e) kind at) = omega (arith, same_weight e)
    same_weight (Node (tree.Unary o e) kind at) = omega (arith, same_weight e)
    same_weight (Node (tree.Binary o a b) kind at) = omega (arith, same_weight a, same_weight b)
    same_weight (Node (tree.And a b) kind at) = omega (arith, same_weight a, same_weight b)
    same_weight (Node (tree.Or a b) kind at) = omega (arith, same_weight a, same_weight b)
    same_weight (Node (tree.Not e) kind at) = omega (arith, same_weight e)
    same_weight (Node (tree.Pick c a b) kind at) = omega (arith, same_weight c, same_weight a, same_weight b)
    same_weight (Node (tree.Assign (Named v place) e) kind at) = omega (arith, same_weight e)
    same_weight (Node (tree.Assign (At p place) e) kind at) = omega (arith, same_weight p, same_weight e)
    same_weight (Node (tree.AssignOp o (Named v place) e) kind at) = omega (arith, same_weight e)
    same_weight (Node (tree.AssignOp o (At p place) e) kind at) = omega (arith, same_weight p, same_weight e)
    same_weight (Node (tree.StepBefore up (Named v place)) kind at) = refl
    same_weight (Node (tree.StepBefore up (At p place)) kind at) = omega (arith, same_weight p)
    same_weight (Node (tree.StepAfter up (Named v place)) kind at) = refl
    same_weight (Node (tree.StepAfter up (At p place)) kind at) = omega (arith, same_weight p)
    same_weight (Node (tree.Call f es) kind at) = omega (arith, same_arguments es)
    same_weight (Node (tree.In port) kind at) = refl
    same_weight (Node (tree.Out port e) kind at) = omega (arith, same_weight e)
    same_weight (Node (tree.Comma a b) kind at) = omega (arith, same_weight a, same_weight b)
    same_weight (Node (tree.Convert e) kind at) = omega (arith, same_weight e)

    same_arguments : (es : Exprs) → source_arguments_weight (renumbering.arguments numbers es) ≡ source_arguments_weight es
    same_arguments tree.none = refl
    same_arguments (tree.more e rest) = omega (arith, same_weight e, same_arguments rest)

  pub same_optional : (e : Option Expr) → source_optional_weight (renumbering.optional numbers e) ≡ source_optional_weight e
  same_optional None = refl
  same_optional (Some e) = same_weight e
