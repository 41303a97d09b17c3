-- How many temporaries a word tree needs, where the code of each operator keeps a left operand in one while it evaluates a right one
-- (docs/LANGUAGE.md, "Types").
use Rattle.std.specs.Prelude.{ℕ, ◌+◌, max, Bool, true, false, if◌then◌else◌, Option, Some, None}
use Rattle.c_tree.specs.c_syntax.declared.operator.UnaryOp.TheVariants.{Minus}
use Rattle.tree_code.specs.WordTree as tree
use Rattle.tree_code.specs.WordTree.{ExprCode, Node, LvalueCode, Named, At, FormCode, ExprsCode, StmtCode, StmtsCode, ChoicesCode}

-- a constant operand: a constant, a minus on a constant, or an address
abbrev pub is_constant_word : ExprCode → Bool
is_constant_word (Node (tree.Const w) at) = true
is_constant_word (Node (tree.AddressOf v) at) = true
is_constant_word (Node (tree.Unary Minus (Node (tree.Const w) a)) at) = true
is_constant_word e = false

-- a simple one: one of these, or the read of a name
abbrev pub is_simple_word : ExprCode → Bool
is_simple_word (Node (tree.Const w) at) = true
is_simple_word (Node (tree.AddressOf v) at) = true
is_simple_word (Node (tree.Unary Minus (Node (tree.Const w) a)) at) = true
is_simple_word (Node (tree.Read v) at) = true
is_simple_word e = false

-- so many, unless the operand for which values are kept is simple
abbrev pub unless_simple_word : ExprCode → ℕ → ℕ
unless_simple_word e n = if is_simple_word e then 0 else n

abbrev mutual
  pub word_temporaries : ExprCode → ℕ
  word_temporaries (Node form at) = word_form_temporaries form

  pub word_form_temporaries : FormCode → ℕ
  word_form_temporaries (tree.Const w) = 0
  word_form_temporaries (tree.Read v) = 0
  word_form_temporaries (tree.AddressOf v) = 0
  word_form_temporaries (tree.Load e) = word_temporaries e
  word_form_temporaries (tree.Unary o e) = word_temporaries e
  word_form_temporaries (tree.Binary o a b) = max (word_temporaries a) (if is_constant_word a then word_temporaries b else unless_simple_word b (1 + word_temporaries b))
  word_form_temporaries (tree.And a b) = max (word_temporaries a) (word_temporaries b)
  word_form_temporaries (tree.Or a b) = max (word_temporaries a) (word_temporaries b)
  word_form_temporaries (tree.Not e) = word_temporaries e
  word_form_temporaries (tree.Pick c a b) = max (word_temporaries c) (max (word_temporaries a) (word_temporaries b))
  word_form_temporaries (tree.Assign (Named v place) e) = word_temporaries e
  word_form_temporaries (tree.Assign (At p place) e) = max (word_temporaries p) (unless_simple_word e (1 + word_temporaries e))
  word_form_temporaries (tree.AssignOp o (Named v place) e) = unless_simple_word e (1 + word_temporaries e)
  word_form_temporaries (tree.AssignOp o (At p place) e) = max (word_temporaries p) (unless_simple_word e (2 + word_temporaries e))
  word_form_temporaries (tree.StepBefore up l) = word_target_temporaries l
  word_form_temporaries (tree.StepAfter up l) = word_target_temporaries l
  word_form_temporaries (tree.Call f es) = word_argument_temporaries es
  word_form_temporaries (tree.In port) = 0
  word_form_temporaries (tree.Out port e) = word_temporaries e
  word_form_temporaries (tree.Comma a b) = max (word_temporaries a) (word_temporaries b)

  pub word_target_temporaries : LvalueCode → ℕ
  word_target_temporaries (Named v at) = 0
  word_target_temporaries (At p at) = word_temporaries p

  -- arguments are kept until the call, other than the last
  pub word_argument_temporaries : ExprsCode → ℕ
  word_argument_temporaries tree.none = 0
  word_argument_temporaries (tree.more e tree.none) = word_temporaries e
  word_argument_temporaries (tree.more e (tree.more f rest)) = max (word_temporaries e) (1 + word_argument_temporaries (tree.more f rest))

abbrev pub optional_word_temporaries : Option ExprCode → ℕ
optional_word_temporaries None = 0
optional_word_temporaries (Some e) = word_temporaries e

abbrev mutual
  pub word_statement_temporaries : StmtCode → ℕ
  word_statement_temporaries (tree.Block declared ss) = word_statements_temporaries ss
  word_statement_temporaries (tree.Fill n) = 0
  word_statement_temporaries (tree.Do_expr e) = word_temporaries e
  word_statement_temporaries (tree.If e a b) = max (word_temporaries e) (max (word_statement_temporaries a) (word_statement_temporaries b))
  word_statement_temporaries (tree.While e a) = max (word_temporaries e) (word_statement_temporaries a)
  word_statement_temporaries (tree.Do_while a e) = max (word_statement_temporaries a) (word_temporaries e)
  word_statement_temporaries (tree.For x y z a) = max (optional_word_temporaries x) (max (optional_word_temporaries y) (max (optional_word_temporaries z) (word_statement_temporaries a)))
  word_statement_temporaries (tree.Switch e cs) = max (word_temporaries e) (word_choices_temporaries cs)
  word_statement_temporaries tree.Break = 0
  word_statement_temporaries tree.Continue = 0
  word_statement_temporaries (tree.Return e) = optional_word_temporaries e

  pub word_statements_temporaries : StmtsCode → ℕ
  word_statements_temporaries tree.done = 0
  word_statements_temporaries (tree.both s rest) = max (word_statement_temporaries s) (word_statements_temporaries rest)

  pub word_choices_temporaries : ChoicesCode → ℕ
  word_choices_temporaries tree.no_more = 0
  word_choices_temporaries (tree.case w rest) = word_choices_temporaries rest
  word_choices_temporaries (tree.default rest) = word_choices_temporaries rest
  word_choices_temporaries (tree.body s rest) = max (word_statement_temporaries s) (word_choices_temporaries rest)
