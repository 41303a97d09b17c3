-- What the rules make of parts of a body, of which so much was read.
use Rattle.std.specs.Prelude.{ℕ, Bool, ◌||◌, not, List, [], ◌∷◌, map}
use Rattle.c_syntax.specs.SyntaxTree.{DeclarationTree, Expression, Statement, Statements}
use Rattle.c_syntax.specs.SyntaxTree as tree
use Rattle.c_tree.specs.TypedTree.{Expr, Stmt, Stmts, Block, Choices, Do_while, For, If, Switch}
use Rattle.c_tree.specs.Eval.{kind_of}
use Rattle.c_tree.specs.View.{choice_before, choice_list, option_expr_of, stmt_of}
use Rattle.c_syntax.specs.SyntaxView.{part_before}
use Rattle.c_syntax.specs.declared.stmt.SwitchPart.{SwitchPart}
use Rattle.c_tree.specs.declared.typed_statement.Choice.{Choice}
use Rattle.c_tree.specs.declared.typed_statement.TypedStmt.{TypedStmt}
use Rattle.c_types.specs.declared.labels.Labelled as memory
use Rattle.c_types.specs.declared.blocks.Body.{Body}
use Rattle.c_types.specs.declared.statements.ForHead.{ForHead}
use Rattle.c_tree.specs.declared.enclosing.Enclosing.{Enclosing}
use Rattle.c_rules.specs.declared.fault.Rule.TheVariants.{Mismatch, Redeclared}
use Rattle.c_rules.specs.Kinds.{class_of, is_void}
use Rattle.c_rules.specs.Operands.{is_integer}
use Rattle.c_rules.specs.Outcome.{Outcome, Is, ◌>>=◌, breaks}
use Rattle.c_rules.specs.Statements.{Typed, Labelled, just, before, opened_in, declarations, repeats_label, typed_statement, typed_statements, typed_choices, is_void_test}
use Rattle.c_scopes.specs.Tables.{scope_of}
use Rattle.c_rules.specs.Typing.{typing}
use Rattle.c_types.specs.BodyView.{locals_of}

abbrev pub statement_in : Body → Enclosing → Statement → Outcome (Typed Stmt)
statement_in b c s = typed_statement b.result (scope_of b.scopes) c (locals_of b) s

abbrev pub statements_in : Body → Enclosing → Statements → Outcome (Typed Stmts)
statements_in b c ss = typed_statements b.result (scope_of b.scopes) c (locals_of b) ss

abbrev pub choices_in : Body → Enclosing → tree.Choices → Outcome (Typed Labelled)
choices_in b c cs = typed_choices b.result (scope_of b.scopes) c (locals_of b) cs

-- what stands between the braces of a switch, of a list of it
abbrev pub parts_of : List SwitchPart → tree.Choices
parts_of [] = tree.no_choice
parts_of (p ∷ rest) = part_before p (parts_of rest)

abbrev pub labelled_of : memory.Labelled → Labelled
labelled_of l = record { choices = choice_list l.choices.items; pointer = l.pointer }

-- labels and statements behind those that are there
abbrev pub joined : List Choice → Choices → Choices
joined [] rest = rest
joined (c ∷ cs) rest = choice_before c (joined cs rest)

-- a switch, once what stands between its braces is typed
abbrev pub switched : ℕ → ℕ → Expr → Labelled → Outcome Stmt
switched place at x r = breaks (repeats_label r.choices) Redeclared place
    (breaks r.pointer Mismatch place
    (breaks (not (is_integer (class_of (kind_of x)))) Mismatch at (Is (Switch x r.choices))))

-- statements behind those that are there
abbrev pub behind : List TypedStmt → Outcome (Typed Stmts) → Outcome (Typed Stmts)
behind there rest = rest >>= λ r. just (before (map stmt_of there) r.tree) r.locals

-- a block in the scope that is open
abbrev pub block_in : Body → Enclosing → List DeclarationTree → Statements → Outcome (Typed Stmt)
block_in b c ds ss = declarations (opened_in (scope_of b.scopes) (locals_of b)) ds >>= λ o.
    typed_statements b.result o.scope c o.locals ss >>= λ r. just (Block o.declared (before o.statements r.tree)) r.locals

-- the else of an if with this test and first arm
abbrev pub else_in : Body → Enclosing → ℕ → Expr → Stmt → Statement → Outcome (Typed Stmt)
else_in b c at x arm s = statement_in b c s >>= λ q. breaks (is_void (kind_of x)) Mismatch at (just (If x arm q.tree) q.locals)

-- the test of a do with this body
abbrev pub test_in : Body → ℕ → Stmt → Expression → Outcome (Typed Stmt)
test_in b at s e = typing (scope_of b.scopes) e >>= λ x. breaks (is_void (kind_of x)) Mismatch at (just (Do_while s x) (locals_of b))

-- a statement over a test that is typed, which has to have a value
abbrev pub tested_in : Body → ℕ → Expr → Stmt → Outcome (Typed Stmt)
tested_in b at x s = breaks (is_void (kind_of x)) Mismatch at (just s (locals_of b))

-- a for over what is typed of it
abbrev pub for_in : Body → ℕ → ForHead → Stmt → Outcome (Typed Stmt)
for_in b at head s = breaks (is_void_test (option_expr_of head.test.value)) Mismatch at
    (just (For (option_expr_of head.first.value) (option_expr_of head.test.value) (option_expr_of head.third.value) s) (locals_of b))

-- choices behind those that are there, of which a label may be a pointer
abbrev pub behind_choices : List Choice → Bool → Outcome (Typed Labelled) → Outcome (Typed Labelled)
behind_choices there pointer rest = rest >>= λ r. just (record { choices = joined there r.tree.choices; pointer = pointer || r.tree.pointer }) r.locals
