-- A statement of constants that meets what is asked of statements.
use Rattle.std.proofs.Common.{ℕ, ◌<◌, [], Some, arith}
use Rattle.tree_code.specs.WordTree as tree
use Rattle.tree_code.specs.WordTree.{ExprCode, Node, StmtCode}
use Rattle.acc_select.specs.acc_operations.Words.{fixed}
use Rattle.acc_select.specs.acc_operations.declared.constant.Constant.TheVariants.{Number}
use Rattle.acc_select.specs.Selected.{code_of, statement_items}
use Rattle.ir_semantics.specs.Outside.{Places}
use Rattle.ir_semantics.specs.TreeRun.{Calls, decide, value, effect, exec, constant_does}
use Rattle.acc_select_proof.proofs.Coding.{word_code, constant_word}
use Rattle.acc_select_proof.proofs.Flows.{FlowPost}
use Rattle.acc_select_proof.proofs.Rules.{Ground, Keeps}
use Rattle.acc_select_proof.proofs.Sides.{Side}
use Rattle.acc_select_proof.proofs.SelectStatements.{statement_keeps}
use Rattle.acc_select_proof.proofs.Valuing.{CodeKeeps}

-- statements of constants
abbrev IsConstant : ExprCode → Type 0
IsConstant (Node (tree.Const x) at) = x < 65536
IsConstant e = ⊥

constants_keep : (n : Ground) (base : ℕ) (calls : Calls) (e : ExprCode) → IsConstant e → CodeKeeps n base (decide calls n.context.at e) (value calls n.context.at e) (effect calls n.context.at e) (code_of e)
constants_keep n base calls (Node (tree.Const x) at) fits = word_code n base (constant_does x) (λ t. fixed (Number x)) (constant_word n base x fits)
constants_keep n base calls e fits = absurd fits

abbrev seven : ExprCode
seven = Node (tree.Const 7) 0

-- while (7) { switch (7) { case 3: break; default: case 7: if (7) return 7; else continue; } }
abbrev example : StmtCode
example =
    tree.While seven (tree.Block []
    (tree.both (tree.Switch seven (tree.case 3 (tree.body tree.Break (tree.default (tree.case 7 (tree.body (tree.If seven (tree.Return (Some seven)) tree.Continue) tree.no_more)))))) tree.done))

example_kept : (n : Ground) (base : ℕ) (calls : Calls) (q : Places)
    → Keeps n (Side base [] 0) (exec calls n.context.at q n.context.locals n.context.limit example) (statement_items n.context.locals base example) (FlowPost base 0)
example_kept n base calls q =
    let few : 7 < 65536 = omega arith in
    statement_keeps n base calls q IsConstant (constants_keep n base calls) example (few, ((few, (tt, ((few, few, tt), tt))), tt)) 0
