-- The addresses that a word tree takes, the functions that it calls and the numbers of cases of its switches, from left to right.
use Rattle.std.specs.Prelude.{ℕ, suc, List, [], ◌∷◌, ◌++◌, Option, Some, None}
use Rattle.c_tree.specs.declared.uses.Use.{Use}
use Rattle.c_tree.specs.declared.uses.Use.TheVariants.{Address, Call, Cases}
use Rattle.tree_code.specs.WordTree as tree
use Rattle.tree_code.specs.WordTree.{ExprCode, Node, LvalueCode, Named, At, FormCode, ExprsCode, StmtCode, StmtsCode, ChoicesCode}

abbrev mutual
  pub word_uses : ExprCode → List Use
  word_uses (Node form at) = word_form_uses form at

  pub word_form_uses : FormCode → ℕ → List Use
  word_form_uses (tree.Const w) at = []
  word_form_uses (tree.Read v) at = []
  word_form_uses (tree.AddressOf v) at = Address v ∷ []
  word_form_uses (tree.Load e) at = word_uses e
  word_form_uses (tree.Unary o e) at = word_uses e
  word_form_uses (tree.Binary o a b) at = word_uses a ++ word_uses b
  word_form_uses (tree.And a b) at = word_uses a ++ word_uses b
  word_form_uses (tree.Or a b) at = word_uses a ++ word_uses b
  word_form_uses (tree.Not e) at = word_uses e
  word_form_uses (tree.Pick c a b) at = word_uses c ++ (word_uses a ++ word_uses b)
  word_form_uses (tree.Assign l e) at = word_target_uses l ++ word_uses e
  word_form_uses (tree.AssignOp o l e) at = word_target_uses l ++ word_uses e
  word_form_uses (tree.StepBefore up l) at = word_target_uses l
  word_form_uses (tree.StepAfter up l) at = word_target_uses l
  word_form_uses (tree.Call f es) at = word_list_uses es ++ Call f at ∷ []
  word_form_uses (tree.In port) at = []
  word_form_uses (tree.Out port e) at = word_uses e
  word_form_uses (tree.Comma a b) at = word_uses a ++ word_uses b

  pub word_target_uses : LvalueCode → List Use
  word_target_uses (Named v at) = []
  word_target_uses (At e at) = word_uses e

  pub word_list_uses : ExprsCode → List Use
  word_list_uses tree.none = []
  word_list_uses (tree.more e rest) = word_uses e ++ word_list_uses rest

abbrev pub optional_word_uses : Option ExprCode → List Use
optional_word_uses None = []
optional_word_uses (Some e) = word_uses e

-- how many cases a switch has
abbrev pub word_case_count : ChoicesCode → ℕ
word_case_count tree.no_more = 0
word_case_count (tree.case w rest) = suc (word_case_count rest)
word_case_count (tree.default rest) = word_case_count rest
word_case_count (tree.body s rest) = word_case_count rest

abbrev mutual
  pub word_statement_uses : StmtCode → List Use
  word_statement_uses (tree.Block declared ss) = word_statements_uses ss
  word_statement_uses (tree.Fill n) = []
  word_statement_uses (tree.Do_expr e) = word_uses e
  word_statement_uses (tree.If e a b) = word_uses e ++ (word_statement_uses a ++ word_statement_uses b)
  word_statement_uses (tree.While e a) = word_uses e ++ word_statement_uses a
  word_statement_uses (tree.Do_while a e) = word_statement_uses a ++ word_uses e
  word_statement_uses (tree.For x y z a) = optional_word_uses x ++ (optional_word_uses y ++ (optional_word_uses z ++ word_statement_uses a))
  word_statement_uses (tree.Switch e cs) = word_uses e ++ (Cases (word_case_count cs) ∷ word_choices_uses cs)
  word_statement_uses tree.Break = []
  word_statement_uses tree.Continue = []
  word_statement_uses (tree.Return e) = optional_word_uses e

  pub word_statements_uses : StmtsCode → List Use
  word_statements_uses tree.done = []
  word_statements_uses (tree.both s rest) = word_statement_uses s ++ word_statements_uses rest

  pub word_choices_uses : ChoicesCode → List Use
  word_choices_uses tree.no_more = []
  word_choices_uses (tree.case w rest) = word_choices_uses rest
  word_choices_uses (tree.default rest) = word_choices_uses rest
  word_choices_uses (tree.body s rest) = word_statement_uses s ++ word_choices_uses rest
