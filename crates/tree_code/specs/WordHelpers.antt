-- Whether a word tree uses a routine: a division, a remainder, or a shift to the right by a count that is no constant
-- (docs/TRANSLATION.md, "What emission wants").
use Rattle.std.specs.Prelude.{◌||◌, Bool, true, false, not, Option, Some, None}
use Rattle.tree_code.specs.declared.operator.WordOp.{WordOp}
use Rattle.tree_code.specs.declared.operator.WordOp.TheVariants as word
use Rattle.tree_code.specs.WordTree as tree
use Rattle.tree_code.specs.WordTree.{ExprCode, Node, LvalueCode, Named, At, FormCode, ExprsCode, StmtCode, StmtsCode, ChoicesCode}
use Rattle.tree_code.specs.WordTemporaries.{is_constant_word}

-- whether a tree has a form that a test holds of, at whatever depth
module _ (test : FormCode → Bool) where
  abbrev mutual
    pub some_form : ExprCode → Bool
    some_form (Node form at) = test form || some_form_below form

    pub some_form_below : FormCode → Bool
    some_form_below (tree.Const w) = false
    some_form_below (tree.Read v) = false
    some_form_below (tree.AddressOf v) = false
    some_form_below (tree.Load e) = some_form e
    some_form_below (tree.Unary o e) = some_form e
    some_form_below (tree.Binary o a b) = some_form a || some_form b
    some_form_below (tree.And a b) = some_form a || some_form b
    some_form_below (tree.Or a b) = some_form a || some_form b
    some_form_below (tree.Not e) = some_form e
    some_form_below (tree.Pick c a b) = some_form c || some_form a || some_form b
    some_form_below (tree.Assign l e) = some_target_form l || some_form e
    some_form_below (tree.AssignOp o l e) = some_target_form l || some_form e
    some_form_below (tree.StepBefore up l) = some_target_form l
    some_form_below (tree.StepAfter up l) = some_target_form l
    some_form_below (tree.Call f es) = some_argument_form es
    some_form_below (tree.In port) = false
    some_form_below (tree.Out port e) = some_form e
    some_form_below (tree.Comma a b) = some_form a || some_form b

    pub some_target_form : LvalueCode → Bool
    some_target_form (Named v at) = false
    some_target_form (At e at) = some_form e

    pub some_argument_form : ExprsCode → Bool
    some_argument_form tree.none = false
    some_argument_form (tree.more e rest) = some_form e || some_argument_form rest

  abbrev pub some_optional_form : Option ExprCode → Bool
  some_optional_form None = false
  some_optional_form (Some e) = some_form e

  abbrev mutual
    pub some_statement_form : StmtCode → Bool
    some_statement_form (tree.Block declared ss) = some_list_form ss
    some_statement_form (tree.Fill n) = false
    some_statement_form (tree.Do_expr e) = some_form e
    some_statement_form (tree.If e a b) = some_form e || some_statement_form a || some_statement_form b
    some_statement_form (tree.While e a) = some_form e || some_statement_form a
    some_statement_form (tree.Do_while a e) = some_statement_form a || some_form e
    some_statement_form (tree.For x y z a) = some_optional_form x || some_optional_form y || some_optional_form z || some_statement_form a
    some_statement_form (tree.Switch e cs) = some_form e || some_choice_form cs
    some_statement_form tree.Break = false
    some_statement_form tree.Continue = false
    some_statement_form (tree.Return e) = some_optional_form e

    pub some_list_form : StmtsCode → Bool
    some_list_form tree.done = false
    some_list_form (tree.both s rest) = some_statement_form s || some_list_form rest

    pub some_choice_form : ChoicesCode → Bool
    some_choice_form tree.no_more = false
    some_choice_form (tree.case w rest) = some_choice_form rest
    some_choice_form (tree.default rest) = some_choice_form rest
    some_choice_form (tree.body s rest) = some_statement_form s || some_choice_form rest

-- whether an operation is done by a routine where its right operand is a constant or isn't
abbrev pub done_by_routine : WordOp → Bool → Bool
done_by_routine word.DivInt constant = true
done_by_routine word.DivUnsigned constant = true
done_by_routine word.RemInt constant = true
done_by_routine word.RemUnsigned constant = true
done_by_routine word.ShrInt constant = not constant
done_by_routine word.ShrUnsigned constant = not constant
done_by_routine op constant = false

abbrev pub needs_routine : FormCode → Bool
needs_routine (tree.Binary o a b) = done_by_routine o (is_constant_word b)
needs_routine (tree.AssignOp o l e) = done_by_routine o (is_constant_word e)
needs_routine form = false

abbrev pub uses_helper : StmtCode → Bool
uses_helper s = some_statement_form needs_routine s
