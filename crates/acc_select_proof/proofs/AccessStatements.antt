-- The code of statements and functions has the accesses of the word tree.
use Rattle.std.proofs.Common.{◌≡◌, refl, ap, ◌∙◌, ℕ, suc, ◌-◌, Bool, true, false, List, [], ◌∷◌, Option, Some, None}
use Rattle.std.specs.Prelude.{◌==◌, if◌then◌else◌, slice_get}
use Rattle.c_tree.specs.declared.enclosing.Enclosing.{Enclosing}
use Rattle.c_tree.specs.declared.enclosing.Enclosing.TheVariants as around
use Rattle.c_tree.specs.Labels.{in_switch}
use Rattle.c_tree.specs.declared.program.Initial.{Initial}
use Rattle.c_tree.specs.TypedTree.{ObjectTree}
use Rattle.tree_code.specs.WordTree as tree
use Rattle.tree_code.specs.WordTree.{ExprCode, Node, StmtCode, StmtsCode, ChoicesCode, FunctionCode, ProgramCode}
use Rattle.tree_code.specs.WordTemporaries.{word_statement_temporaries}
use Rattle.tree_code.specs.WellFormedCode.{IsSoundStatement, AreSoundStatements, AreSoundChoices, IsThereForWords, length_of, cells_in, parameter_count}
use Rattle.acc_code.specs.AccSequence.{Rest, cut, accesses, blocks_of}
use Rattle.acc_code.specs.AccTree.{Loop, Switch, Break, Return, ItemList, end, ◌▸◌, ◌⧺◌}
use Rattle.acc_select.specs.acc_operations.Constants.{initial_constant}
use Rattle.acc_select.specs.acc_operations.Words.{loaded, clear_high, high}
use Rattle.acc_select.specs.Conditions.{Nothing, Breaks, part_items, number}
use Rattle.acc_select.specs.Selected.{code_of, optional_effect, test_items, optional_test, labels_of, cell_items, fill_items, part_of, statement_items, statements_items, choices_items, ends_with_return, closed_main, body_items, is_main, selected_function}
use Rattle.acc_select_proof.specs.TreeAccesses.{word_value, word_condition, optional_word_value, optional_word_condition, word_statement_accesses, word_statements_accesses, word_choices_accesses, word_function_blocks}
use Rattle.acc_select_proof.proofs.Marking.{Has, in_turn, nothing, load_constant_has, loaded_has, clear_high_has}
use Rattle.acc_select_proof.proofs.AccessExpressions.{expression_has}

-- a local array gets its list, and is a cut
cells_have : (n i : ℕ) (xs : List Initial) → Has (cell_items n i xs) cut
cells_have n i [] κ = refl
cells_have n i (x ∷ xs) κ = load_constant_has (initial_constant x) _ ∙ cells_have n (suc i) xs κ

fill_has : (n : ℕ) (o : Option ObjectTree) → IsThereForWords (length_of o) → Has (fill_items n o) cut
fill_has n None there = absurd there
fill_has n (Some o) there = cells_have n 0 o.initial

module _ (t : ℕ) where
  -- a part that is a jump, or nothing, stands for the items of its statement
  part_has : (s : StmtCode) (items : ItemList) → Has items (word_statement_accesses t s) → Has (part_items (part_of s items)) (word_statement_accesses t s)
  part_has tree.Break items h = λ κ. refl
  part_has tree.Continue items h = λ κ. refl
  part_has (tree.Block declared tree.done) items h = λ κ. refl
  part_has (tree.Block declared (tree.both s tree.done)) items h = part_has s items h
  part_has (tree.Block declared (tree.both s (tree.both r rest))) items h = h
  part_has (tree.Fill n) items h = h
  part_has (tree.Do_expr e) items h = h
  part_has (tree.If e a b) items h = h
  part_has (tree.While e a) items h = h
  part_has (tree.Do_while a e) items h = h
  part_has (tree.For x y z a) items h = h
  part_has (tree.Switch e cs) items h = h
  part_has (tree.Return e) items h = h

  effect_has : (e : Option ExprCode) → Has (optional_effect e t) (optional_word_value t e)
  effect_has None κ = refl
  effect_has (Some e) κ = (expression_has e t).effect κ

  -- a test leaves the loop: what follows it is cut off anyway
  branch_has : (e : ExprCode) → test_items e t ≡ (code_of e t).branch true Nothing Breaks → (κ : Rest) → accesses (test_items e t) (cut κ) ≡ word_condition t e (cut κ)
  branch_has e is κ = ap (λ xs. accesses xs (cut κ)) is ∙ (expression_has e t).branch true Nothing Breaks (cut κ)

  test_has : (e : ExprCode) (κ : Rest) → accesses (test_items e t) (cut κ) ≡ word_condition t e (cut κ)
  test_has (Node (tree.Const w) at) κ = one (w == 0)
    where
      one : (b : Bool) → accesses (if b then Break ▸ end else end) (cut κ) ≡ cut κ
      one true = refl
      one false = refl
  test_has (Node (tree.Read v) at) κ = branch_has (Node (tree.Read v) at) refl κ
  test_has (Node (tree.AddressOf v) at) κ = branch_has (Node (tree.AddressOf v) at) refl κ
  test_has (Node (tree.Load e) at) κ = branch_has (Node (tree.Load e) at) refl κ
  test_has (Node (tree.Unary o e) at) κ = branch_has (Node (tree.Unary o e) at) refl κ
  test_has (Node (tree.Binary o a b) at) κ = branch_has (Node (tree.Binary o a b) at) refl κ
  test_has (Node (tree.And a b) at) κ = branch_has (Node (tree.And a b) at) refl κ
  test_has (Node (tree.Or a b) at) κ = branch_has (Node (tree.Or a b) at) refl κ
  test_has (Node (tree.Not a) at) κ = branch_has (Node (tree.Not a) at) refl κ
  test_has (Node (tree.Pick c a b) at) κ = branch_has (Node (tree.Pick c a b) at) refl κ
  test_has (Node (tree.Assign l e) at) κ = branch_has (Node (tree.Assign l e) at) refl κ
  test_has (Node (tree.AssignOp o l e) at) κ = branch_has (Node (tree.AssignOp o l e) at) refl κ
  test_has (Node (tree.StepBefore up l) at) κ = branch_has (Node (tree.StepBefore up l) at) refl κ
  test_has (Node (tree.StepAfter up l) at) κ = branch_has (Node (tree.StepAfter up l) at) refl κ
  test_has (Node (tree.Call f es) at) κ = branch_has (Node (tree.Call f es) at) refl κ
  test_has (Node (tree.In port) at) κ = branch_has (Node (tree.In port) at) refl κ
  test_has (Node (tree.Out port e) at) κ = branch_has (Node (tree.Out port e) at) refl κ
  test_has (Node (tree.Comma a b) at) κ = branch_has (Node (tree.Comma a b) at) refl κ

  optional_test_has : (e : Option ExprCode) (κ : Rest) → accesses (optional_test e t) (cut κ) ≡ optional_word_condition t e (cut κ)
  optional_test_has None κ = refl
  optional_test_has (Some e) κ = test_has e κ

module _ (p : ProgramCode) (f : FunctionCode) (t : ℕ) where
  abbrev Sound : Enclosing → StmtCode → Type 0
  Sound = IsSoundStatement (cells_in p f) (λ n. parameter_count (slice_get p.functions n))

  abbrev SoundAll : Enclosing → StmtsCode → Type 0
  SoundAll = AreSoundStatements (cells_in p f) (λ n. parameter_count (slice_get p.functions n))

  abbrev SoundChoices : Enclosing → ChoicesCode → Type 0
  SoundChoices = AreSoundChoices (cells_in p f) (λ n. parameter_count (slice_get p.functions n))

  mutual
    pub statement_has : (s : StmtCode) (c : Enclosing) → Sound c s → Has (statement_items f.locals t s) (word_statement_accesses t s)
    statement_has (tree.Block declared ss) c sound κ = statements_have ss c sound.1 κ
    statement_has (tree.Fill n) c sound κ = fill_has n (slice_get f.locals n) sound κ
    statement_has (tree.Do_expr e) c sound κ = (expression_has e t).effect κ
    statement_has (tree.If e a b) c sound κ =
        (expression_has e t).branch true (part_of a (statement_items f.locals t a)) (part_of b (statement_items f.locals t b)) κ
        ∙ ap (λ r. word_condition t e (cut r)) (part_has t a _ (statement_has a c sound.1) _ ∙ ap (λ r. word_statement_accesses t a (cut r)) (part_has t b _ (statement_has b c sound.2) (cut κ)))
    statement_has (tree.While e a) c sound κ = ap cut (test_has t e (accesses (statement_items f.locals t a) (cut κ)) ∙ ap (λ r. word_condition t e (cut r)) (statement_has a around.Loop sound.1 (cut κ)))
    statement_has (tree.Do_while a e) c sound κ = ap cut (statement_has a around.Loop sound.0 _ ∙ ap (λ r. word_statement_accesses t a (cut r)) (test_has t e κ))
    statement_has (tree.For x y z a) c sound κ =
        in_turn (optional_effect x t) (Loop (optional_test y t) (statement_items f.locals t a) (optional_effect z t) false ▸ end) (optional_word_value t x)
        (λ κ. cut (optional_word_condition t y (cut (word_statement_accesses t a (cut (optional_word_value t z (cut κ))))))) (effect_has t x)
        (λ κ. ap cut (optional_test_has t y (accesses (statement_items f.locals t a) (cut (accesses (optional_effect z t) (cut κ)))) ∙ ap (λ r. optional_word_condition t y (cut r)) (statement_has a around.Loop sound.3 _ ∙ ap (λ r. word_statement_accesses t a (cut r)) (effect_has t z (cut κ))))) κ
    statement_has (tree.Switch e cs) c sound κ =
        in_turn (loaded (code_of e t).word) (clear_high (high (code_of e t).word.found) ⧺ Switch (labels_of cs) (choices_items f.locals t cs 0) ▸ end) (word_value t e)
        (λ κ. cut (word_choices_accesses t cs (cut κ))) (loaded_has (code_of e t).word (word_value t e) (expression_has e t).word)
        (in_turn (clear_high (high (code_of e t).word.found)) (Switch (labels_of cs) (choices_items f.locals t cs 0) ▸ end) nothing (λ κ. cut (word_choices_accesses t cs (cut κ)))
        (clear_high_has (high (code_of e t).word.found)) (λ κ. ap cut (choices_have cs 0 (in_switch c) sound.2 (cut κ)))) κ
    statement_has tree.Break c sound κ = refl
    statement_has tree.Continue c sound κ = refl
    statement_has (tree.Return None) c sound κ = refl
    statement_has (tree.Return (Some e)) c sound κ =
        in_turn (loaded (code_of e t).word) (Return ▸ end) (word_value t e) cut (loaded_has (code_of e t).word (word_value t e) (expression_has e t).word) (λ κ. refl) κ

    statements_have : (ss : StmtsCode) (c : Enclosing) → SoundAll c ss → Has (statements_items f.locals t ss) (word_statements_accesses t ss)
    statements_have tree.done c sound κ = refl
    statements_have (tree.both s rest) c sound κ =
        in_turn (statement_items f.locals t s) (statements_items f.locals t rest) (word_statement_accesses t s) (word_statements_accesses t rest) (statement_has s c sound.0) (statements_have rest c sound.1) κ

    choices_have : (cs : ChoicesCode) (i : ℕ) (c : Enclosing) → SoundChoices c cs → Has (choices_items f.locals t cs i) (word_choices_accesses t cs)
    choices_have tree.no_more i c sound κ = refl
    choices_have (tree.case w rest) i c sound κ = ap cut (choices_have rest (suc i) c sound κ)
    choices_have (tree.default rest) i c sound κ = ap cut (choices_have rest (suc i) c sound κ)
    choices_have (tree.body s rest) i c sound κ =
        in_turn (statement_items f.locals t s) (choices_items f.locals t rest i) (word_statement_accesses t s) (word_choices_accesses t rest) (statement_has s c sound.0) (choices_have rest i c sound.1) κ

-- main's return at its end makes no block
closed_has : (xs : ItemList) (b : Bool) → blocks_of (if b then xs else xs ⧺ number 0 ⧺ Return ▸ end) ≡ blocks_of xs
closed_has xs true = refl
closed_has xs false = ap (λ r. r []) (in_turn xs (number 0 ⧺ Return ▸ end) (accesses xs) cut (λ κ. refl) (λ κ. refl) (cut (λ open_block. [])))

main_has : (xs : ItemList) (b : Bool) → blocks_of (if b then closed_main xs else xs) ≡ blocks_of xs
main_has xs true = closed_has xs (ends_with_return xs)
main_has xs false = refl

pub function_has : (p : ProgramCode) (f : FunctionCode) → IsSoundStatement (cells_in p f) (λ n. parameter_count (slice_get p.functions n)) around.Body f.body
    → blocks_of (selected_function f).body ≡ word_function_blocks f
function_has p f sound =
    main_has (body_items f) (is_main f.name) ∙ ap (λ r. r []) (statement_has p f (f.scalars - word_statement_temporaries f.body) f.body around.Body sound (cut (λ open_block. [])))
