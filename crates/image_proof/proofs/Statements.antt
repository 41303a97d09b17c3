-- The items of a statement of words are usable.
use Rattle.std.proofs.Common.{ℕ, suc, true, false, List, [], ◌∷◌, Option, Some, None, arith}
use Rattle.std.specs.Prelude.{◌==◌, slice_get}
use Rattle.std.specs.List.{AllByRecursion}
use Rattle.c_tree.specs.TypedTree.{ObjectTree}
use Rattle.c_tree.specs.declared.program.Initial.{Initial}
use Rattle.c_tree.specs.declared.program.Initial.TheVariants as initial
use Rattle.c_tree.specs.declared.program.VarRef.TheVariants.{Local}
use Rattle.tree_code.specs.WordTree as tree
use Rattle.tree_code.specs.WordTree.{ExprCode, Node, StmtCode, StmtsCode, ChoicesCode}
use Rattle.acc_code.specs.AccTree.{ItemList}
use Rattle.acc_select.specs.acc_operations.Constants.{initial_constant}
use Rattle.acc_select.specs.acc_operations.Words.{high}
use Rattle.acc_select.specs.acc_operations.declared.constant.Constant.TheVariants.{Address}
use Rattle.acc_select.specs.Conditions as condition
use Rattle.acc_select.specs.Conditions.{part_items}
use Rattle.acc_select.specs.Selected.{code_of, optional_effect, test_items, optional_test, labels_of, cell_items, fill_items, part_of, statement_items, statements_items, choices_items}
use Rattle.ir_semantics.specs.Outside.{Places}
use Rattle.ir_semantics.specs.TreeRun.{Addresses}
use Rattle.acc_select_proof.specs.FitStatements.{IsFitInitial, IsFitObject, IsFitOptional, IsFitStatement, AreFitStatements, AreFitChoices}
use Rattle.acc_select_proof.specs.OfWords.{IsOfWords}
use Rattle.image_proof.proofs.Usables.{Usable, nothing, plain, on_place, both, either, loop, switch, label, clear, break, continue, return}
use Rattle.image_proof.proofs.UsableWords.{IsWordConstant, constant_first, loaded_usable, clear_usable}
use Rattle.image_proof.proofs.Expressions.{code_usable}
use Rattle.image_proof.proofs.Cases.{HasWordCases, HaveWordCases, CasesAreWords, labels_are_words}

module _ (at : Addresses) (q : Places) where
  -- the lists of local arrays
  initial_word : (x : Initial) → IsFitInitial at q x → IsWordConstant (initial_constant x)
  initial_word (initial.Word w) h = h
  initial_word (initial.Address object index) h = tt
  initial_word initial.Null h = omega arith

  cells_usable : (k i : ℕ) (xs : List Initial) → AllByRecursion (IsFitInitial at q) xs → Usable (cell_items k i xs)
  cells_usable k i [] h = clear
  cells_usable k i (x ∷ xs) h = constant_first (Address (Local k) i) tt (plain (constant_first (initial_constant x) (initial_word x h.0) (on_place tt (cells_usable k (suc i) xs h.1))))

  fill_usable : (k : ℕ) (o : Option ObjectTree) → IsFitObject at q o → Usable (fill_items k o)
  fill_usable k None h = nothing
  fill_usable k (Some o) h = cells_usable k 0 o.initial h

  -- parts of statements
  part_usable : (a : StmtCode) (xs : ItemList) → Usable xs → Usable (part_items (part_of a xs))
  part_usable tree.Break xs h = break
  part_usable tree.Continue xs h = continue
  part_usable (tree.Block declared tree.done) xs h = nothing
  part_usable (tree.Block declared (tree.both a tree.done)) xs h = part_usable a xs h
  part_usable a xs h = h

  test_usable : (e : ExprCode) (t : ℕ) → IsOfWords e → Usable (test_items e t)
  test_usable (Node (tree.Const w) at) t h = either (w == 0) break nothing
  test_usable e t h = (code_usable e h t).branch.at true condition.Nothing condition.Breaks nothing break

  module _ (locals : List ObjectTree) (t : ℕ) where
    optional_usable : (e : Option ExprCode) → IsFitOptional IsOfWords at q locals e → Usable (optional_effect e t)
    optional_usable None h = nothing
    optional_usable (Some e) h = (code_usable e h t).effect

    optional_test_usable : (e : Option ExprCode) → IsFitOptional IsOfWords at q locals e → Usable (optional_test e t)
    optional_test_usable None h = nothing
    optional_test_usable (Some e) h = test_usable e t h

    abbrev Items : StmtCode → ItemList
    Items a = statement_items locals t a

    mutual
      pub statement_usable : (a : StmtCode) → IsFitStatement IsOfWords at q locals a → HasWordCases a → Usable (statement_items locals t a)
      statement_usable (tree.Block declared ss) h k = statements_usable ss h k
      statement_usable (tree.Fill n) h k = fill_usable n (slice_get locals n) h
      statement_usable (tree.Do_expr e) h k = (code_usable e h t).effect
      statement_usable (tree.If e a b) h k =
          (code_usable e h.0 t).branch.at true (part_of a (Items a)) (part_of b (Items b)) (part_usable a (Items a) (statement_usable a h.1 k.0)) (part_usable b (Items b) (statement_usable b h.2 k.1))
      statement_usable (tree.While e a) h k = loop false (test_usable e t h.0) (statement_usable a h.1 k) nothing
      statement_usable (tree.Do_while a e) h k = loop true nothing (statement_usable a h.0 k) (test_usable e t h.1)
      statement_usable (tree.For x y z a) h k = both (optional_usable x h.0) (loop false (optional_test_usable y h.1) (statement_usable a h.3 k) (optional_usable z h.2))
      statement_usable (tree.Switch e cs) h k =
          both (loaded_usable (code_of e t).word (code_usable e h.0 t).word) (both (clear_usable (high (code_of e t).word.found)) (switch (labels_of cs) (labels_are_words cs k) (choices_usable cs 0 h.1 k)))
      statement_usable tree.Break h k = break
      statement_usable tree.Continue h k = continue
      statement_usable (tree.Return None) h k = return
      statement_usable (tree.Return (Some e)) h k = both (loaded_usable (code_of e t).word (code_usable e h t).word) return

      statements_usable : (ss : StmtsCode) → AreFitStatements IsOfWords at q locals ss → HaveWordCases ss → Usable (statements_items locals t ss)
      statements_usable tree.done h k = nothing
      statements_usable (tree.both a rest) h k = both (statement_usable a h.0 k.0) (statements_usable rest h.1 k.1)

      choices_usable : (cs : ChoicesCode) (i : ℕ) → AreFitChoices IsOfWords at q locals cs → CasesAreWords cs → Usable (choices_items locals t cs i)
      choices_usable tree.no_more i h k = nothing
      choices_usable (tree.case w rest) i h k = label (choices_usable rest (suc i) h k.1)
      choices_usable (tree.default rest) i h k = label (choices_usable rest (suc i) h k)
      choices_usable (tree.body a rest) i h k = both (statement_usable a h.0 k.0) (choices_usable rest i h.1 k.1)
