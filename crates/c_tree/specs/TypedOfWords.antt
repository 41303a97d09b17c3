-- Typed programs of words: each constant of an expression, each value of a case, and each listed word of an object, is below 65536. That an
-- operation that assigns gives a word, and no truth, is no clause: the rules of types leave comparisons out there.
use Rattle.std.specs.Prelude.{◌<◌, ⊤, List, All, Option, Some, None}
use Rattle.std.specs.List.{AllByRecursion}
use Rattle.c_tree.specs.declared.program.Initial.{Initial}
use Rattle.c_tree.specs.declared.program.Initial.TheVariants as initial
use Rattle.c_tree.specs.TypedTree as tree
use Rattle.c_tree.specs.TypedTree.{Expr, Node, Lvalue, Named, At, Form, Exprs, Stmt, Stmts, Choices, ObjectTree, FunctionTree, ProgramTree}

-- what a listed cell of an object starts with is a word
abbrev pub StartsWithWord : Initial → Type 0
StartsWithWord (initial.Word w) = w < 65536
StartsWithWord (initial.Address object index) = ⊤
StartsWithWord initial.Null = ⊤

abbrev pub StartsWithWords : List ObjectTree → Type 0
StartsWithWords objects = AllByRecursion (λ o. AllByRecursion StartsWithWord o.initial) objects

abbrev mutual
  pub UsesWords : Expr → Type 0
  UsesWords (Node form kind at) = FormUsesWords form

  pub FormUsesWords : Form → Type 0
  FormUsesWords (tree.Const w) = w < 65536
  FormUsesWords (tree.Read v) = ⊤
  FormUsesWords (tree.AddressOf v) = ⊤
  FormUsesWords (tree.Load e) = UsesWords e
  FormUsesWords (tree.Unary o e) = UsesWords e
  FormUsesWords (tree.Binary o a b) = UsesWords a × UsesWords b
  FormUsesWords (tree.And a b) = UsesWords a × UsesWords b
  FormUsesWords (tree.Or a b) = UsesWords a × UsesWords b
  FormUsesWords (tree.Not e) = UsesWords e
  FormUsesWords (tree.Pick c a b) = UsesWords c × UsesWords a × UsesWords b
  FormUsesWords (tree.Assign l e) = TargetUsesWords l × UsesWords e
  FormUsesWords (tree.AssignOp o l e) = TargetUsesWords l × UsesWords e
  FormUsesWords (tree.StepBefore up l) = TargetUsesWords l
  FormUsesWords (tree.StepAfter up l) = TargetUsesWords l
  FormUsesWords (tree.Call f es) = AllUseWords es
  FormUsesWords (tree.In port) = ⊤
  FormUsesWords (tree.Out port e) = UsesWords e
  FormUsesWords (tree.Comma a b) = UsesWords a × UsesWords b
  FormUsesWords (tree.Convert e) = UsesWords e

  pub TargetUsesWords : Lvalue → Type 0
  TargetUsesWords (Named v at) = ⊤
  TargetUsesWords (At e at) = UsesWords e

  pub AllUseWords : Exprs → Type 0
  AllUseWords tree.none = ⊤
  AllUseWords (tree.more e rest) = UsesWords e × AllUseWords rest

abbrev pub OptionalUsesWords : Option Expr → Type 0
OptionalUsesWords None = ⊤
OptionalUsesWords (Some e) = UsesWords e

abbrev mutual
  pub StatementUsesWords : Stmt → Type 0
  StatementUsesWords (tree.Block declared ss) = StatementsUseWords ss
  StatementUsesWords (tree.Fill n) = ⊤
  StatementUsesWords (tree.Do_expr e) = UsesWords e
  StatementUsesWords (tree.If e a b) = UsesWords e × StatementUsesWords a × StatementUsesWords b
  StatementUsesWords (tree.While e a) = UsesWords e × StatementUsesWords a
  StatementUsesWords (tree.Do_while a e) = StatementUsesWords a × UsesWords e
  StatementUsesWords (tree.For x y z a) = OptionalUsesWords x × OptionalUsesWords y × OptionalUsesWords z × StatementUsesWords a
  StatementUsesWords (tree.Switch e cs) = UsesWords e × ChoicesUseWords cs
  StatementUsesWords tree.Break = ⊤
  StatementUsesWords tree.Continue = ⊤
  StatementUsesWords (tree.Return e) = OptionalUsesWords e

  pub StatementsUseWords : Stmts → Type 0
  StatementsUseWords tree.done = ⊤
  StatementsUseWords (tree.both s rest) = StatementUsesWords s × StatementsUseWords rest

  pub ChoicesUseWords : Choices → Type 0
  ChoicesUseWords tree.no_more = ⊤
  ChoicesUseWords (tree.case w rest) = (w < 65536) × ChoicesUseWords rest
  ChoicesUseWords (tree.default rest) = ChoicesUseWords rest
  ChoicesUseWords (tree.body s rest) = StatementUsesWords s × ChoicesUseWords rest

pub record FunctionHasWords (f : FunctionTree) : Type 0 where
  pub locals : StartsWithWords f.locals
  pub body : StatementUsesWords f.body

pub record ProgramHasWords (p : ProgramTree) : Type 0 where
  pub statics : StartsWithWords p.statics
  pub functions : All FunctionHasWords p.functions
