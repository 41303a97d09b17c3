-- The accesses of frame scalars that the code of a typed function makes, with the cuts between blocks, form by form (docs/TRANSLATION.md,
-- "Accesses of sources"). Temporaries follow the frame's scalars.
use Rattle.std.specs.Prelude.{ℕ, suc, Bool, true, false, not, List, [], length, Option, Some, None}
use Rattle.c_syntax.specs.declared.operator.BinaryOp.{BinaryOp}
use Rattle.c_syntax.specs.declared.operator.BinaryOp.TheVariants as op
use Rattle.c_tree.specs.TypedTree.{Expr, Node, Named, At, Const, Read, AddressOf, Load, Unary, Binary, And, Or, Not, Pick, Assign, AssignOp, StepBefore, StepAfter, Call, In, Out, Comma, Convert, Exprs, none, more, Stmt, Block, Fill, Do_expr, If, While, Do_while, For, Switch, Break, Continue, Return, Stmts, done, both, Choices, no_more, case, default, body, FunctionTree}
use Rattle.c_tree.specs.Temporaries.{is_constant, is_simple}
use Rattle.acc_code.specs.AccSequence.{cut}
use Rattle.acc_select_proof.specs.Listed.{Marks, Listed, of_value, of_condition, name_accesses, cut_where, of_operands, assigned_through, updated_through, waits}

-- whether an operator is done by a routine: a division, a remainder, or a shift to the right by a count that is no constant operand
abbrev pub by_routine : BinaryOp → Bool → Bool
by_routine op.Div constant = true
by_routine op.Rem constant = true
by_routine op.Shr constant = not constant
by_routine o constant = false

-- a comparison ends with a cut too
abbrev pub ends_block : BinaryOp → Bool → Bool
ends_block op.Eq constant = true
ends_block op.Ne constant = true
ends_block op.Lt constant = true
ends_block op.Gt constant = true
ends_block op.Le constant = true
ends_block op.Ge constant = true
ends_block o constant = by_routine o constant

abbrev pub is_last : Exprs → Bool
is_last none = true
is_last (more e rest) = false

-- the arguments that waited, in order
abbrev pub waited : Exprs → ℕ → Marks
waited none t κ = κ
waited (more e rest) t κ = waits (is_last rest) t (waited rest (suc t) κ)

abbrev mutual
  -- where this scalar is the next temporary
  pub listed : Expr → ℕ → Listed
  listed (Node (Const w) kind at) t = of_value (λ κ. κ)
  listed (Node (Read v) kind at) t = of_value (name_accesses v)
  listed (Node (AddressOf v) kind at) t = of_value (λ κ. κ)
  listed (Node (Load e) kind at) t = of_value (listed e t).value
  listed (Node (Unary o e) kind at) t = of_value (listed e t).value
  listed (Node (Binary o a b) kind at) t =
      of_value (λ κ. of_operands (is_simple b) (is_constant a) t (listed a t).value (listed b t).value (listed b (suc t)).value (cut_where (ends_block o (is_constant b)) κ))
  listed (Node (And a b) kind at) t = of_condition (λ κ. (listed a t).condition (cut ((listed b t).condition (cut κ))))
  listed (Node (Or a b) kind at) t = of_condition (λ κ. (listed a t).condition (cut ((listed b t).condition (cut κ))))
  listed (Node (Not a) kind at) t = of_condition (listed a t).condition
  listed (Node (Pick c a b) kind at) t = of_value (λ κ. (listed c t).condition (cut ((listed a t).value (cut ((listed b t).value (cut κ))))))
  listed (Node (Assign (Named v place) e) kind at) t = of_value (λ κ. (listed e t).value (name_accesses v κ))
  listed (Node (Assign (At p place) e) kind at) t =
      of_value (assigned_through (is_simple e) t (listed p t).value (listed e t).value (listed e (suc t)).value)
  listed (Node (AssignOp o (Named v place) e) kind at) t =
      of_value (λ κ. of_operands (is_simple e) false t (name_accesses v) (listed e t).value (listed e (suc t)).value (cut_where (ends_block o (is_constant e)) (name_accesses v κ)))
  listed (Node (AssignOp o (At p place) e) kind at) t =
      of_value (updated_through (is_simple e) (ends_block o (is_constant e)) t (listed p t).value (listed e t).value (listed e (suc (suc t))).value)
  listed (Node (StepBefore up (Named v place)) kind at) t = of_value (λ κ. name_accesses v (name_accesses v κ))
  listed (Node (StepBefore up (At p place)) kind at) t = of_value (listed p t).value
  listed (Node (StepAfter up (Named v place)) kind at) t = of_value (λ κ. name_accesses v (name_accesses v κ))
  listed (Node (StepAfter up (At p place)) kind at) t = of_value (listed p t).value
  listed (Node (Call f es) kind at) t = of_value (λ κ. arguments es t (waited es t (cut κ)))
  listed (Node (In port) kind at) t = of_value (λ κ. κ)
  listed (Node (Out port e) kind at) t = of_value (listed e t).value
  listed (Node (Comma a b) kind at) t = of_value (λ κ. (listed a t).value ((listed b t).value κ))
  listed (Node (Convert e) kind at) t = of_value (listed e t).value

  -- the values of arguments, each of which waits one temporary deeper
  pub arguments : Exprs → ℕ → Marks
  arguments none t κ = κ
  arguments (more e rest) t κ = (listed e t).value (waits (is_last rest) t (arguments rest (suc t) κ))

-- in a function whose temporaries begin at this scalar
module _ (t : ℕ) where
  abbrev pub value_of : Expr → Marks
  value_of e = (listed e t).value

  abbrev pub condition_of : Expr → Marks
  condition_of e = (listed e t).condition

  abbrev pub optional_value : Option Expr → Marks
  optional_value None κ = κ
  optional_value (Some e) κ = value_of e κ

  abbrev pub optional_condition : Option Expr → Marks
  optional_condition None κ = κ
  optional_condition (Some e) κ = condition_of e κ

  abbrev mutual
    pub statement_accesses : Stmt → Marks
    statement_accesses (Block declared ss) κ = statements_accesses ss κ
    statement_accesses (Fill n) κ = cut κ
    statement_accesses (Do_expr e) κ = value_of e κ
    statement_accesses (If e a b) κ = condition_of e (cut (statement_accesses a (cut (statement_accesses b (cut κ)))))
    statement_accesses (While e a) κ = cut (condition_of e (cut (statement_accesses a (cut κ))))
    statement_accesses (Do_while a e) κ = cut (statement_accesses a (cut (condition_of e (cut κ))))
    statement_accesses (For x y z a) κ = optional_value x (cut (optional_condition y (cut (statement_accesses a (cut (optional_value z (cut κ)))))))
    statement_accesses (Switch e cs) κ = value_of e (cut (choices_accesses cs (cut κ)))
    statement_accesses Break κ = cut κ
    statement_accesses Continue κ = cut κ
    statement_accesses (Return e) κ = optional_value e (cut κ)

    pub statements_accesses : Stmts → Marks
    statements_accesses done κ = κ
    statements_accesses (both s rest) κ = statement_accesses s (statements_accesses rest κ)

    -- each label is a cut
    pub choices_accesses : Choices → Marks
    choices_accesses no_more κ = κ
    choices_accesses (case w rest) κ = cut (choices_accesses rest κ)
    choices_accesses (default rest) κ = cut (choices_accesses rest κ)
    choices_accesses (body s rest) κ = statement_accesses s (choices_accesses rest κ)

-- the blocks of a function: its start and its end are cuts
abbrev pub function_blocks : FunctionTree → List (List ℕ)
function_blocks f = statement_accesses (length f.scalars) f.body (cut (λ open_block. [])) []
