-- The same of word trees, form by form (docs/TRANSLATION.md, "Accesses of sources").
use Rattle.std.specs.Prelude.{ℕ, suc, ◌-◌, Bool, true, false, List, [], Option, Some, None}
use Rattle.tree_code.specs.declared.operator.WordOp.{WordOp}
use Rattle.tree_code.specs.declared.operator.WordOp.TheVariants as word
use Rattle.tree_code.specs.WordTree.{ExprCode, Node, Named, At, Const, Read, AddressOf, Load, Unary, Binary, And, Or, Not, Pick, Assign, AssignOp, StepBefore, StepAfter, Call, In, Out, Comma, ExprsCode, none, more, StmtCode, Block, Fill, Do_expr, If, While, Do_while, For, Switch, Break, Continue, Return, StmtsCode, done, both, ChoicesCode, no_more, case, default, body, FunctionCode}
use Rattle.tree_code.specs.WordHelpers.{done_by_routine}
use Rattle.tree_code.specs.WordTemporaries.{is_constant_word, is_simple_word, word_statement_temporaries}
use Rattle.acc_select.specs.Selected.{is_last}
use Rattle.acc_code.specs.AccSequence.{cut}
use Rattle.acc_select_proof.specs.Listed.{Marks, Listed, of_value, of_condition, name_accesses, cut_where, of_operands, assigned_through, updated_through, waits}

-- a comparison ends with a cut, and what is done by a routine
abbrev pub ends_word_block : WordOp → Bool → Bool
ends_word_block word.Eq constant = true
ends_word_block word.Ne constant = true
ends_word_block word.LtInt constant = true
ends_word_block word.LtUnsigned constant = true
ends_word_block word.GtInt constant = true
ends_word_block word.GtUnsigned constant = true
ends_word_block word.LeInt constant = true
ends_word_block word.LeUnsigned constant = true
ends_word_block word.GeInt constant = true
ends_word_block word.GeUnsigned constant = true
ends_word_block o constant = done_by_routine o constant

-- the arguments that waited, in order
abbrev pub word_waited : ExprsCode → ℕ → Marks
word_waited none t κ = κ
word_waited (more e rest) t κ = waits (is_last rest) t (word_waited rest (suc t) κ)

abbrev mutual
  -- where this scalar is the next temporary
  pub word_listed : ExprCode → ℕ → Listed
  word_listed (Node (Const w) at) t = of_value (λ κ. κ)
  word_listed (Node (Read v) at) t = of_value (name_accesses v)
  word_listed (Node (AddressOf v) at) t = of_value (λ κ. κ)
  word_listed (Node (Load e) at) t = of_value (word_listed e t).value
  word_listed (Node (Unary o e) at) t = of_value (word_listed e t).value
  word_listed (Node (Binary o a b) at) t =
      of_value (λ κ. of_operands (is_simple_word b) (is_constant_word a) t (word_listed a t).value (word_listed b t).value (word_listed b (suc t)).value (cut_where (ends_word_block o (is_constant_word b)) κ))
  word_listed (Node (And a b) at) t = of_condition (λ κ. (word_listed a t).condition (cut ((word_listed b t).condition (cut κ))))
  word_listed (Node (Or a b) at) t = of_condition (λ κ. (word_listed a t).condition (cut ((word_listed b t).condition (cut κ))))
  word_listed (Node (Not a) at) t = of_condition (word_listed a t).condition
  word_listed (Node (Pick c a b) at) t = of_value (λ κ. (word_listed c t).condition (cut ((word_listed a t).value (cut ((word_listed b t).value (cut κ))))))
  word_listed (Node (Assign (Named v place) e) at) t = of_value (λ κ. (word_listed e t).value (name_accesses v κ))
  word_listed (Node (Assign (At p place) e) at) t =
      of_value (assigned_through (is_simple_word e) t (word_listed p t).value (word_listed e t).value (word_listed e (suc t)).value)
  word_listed (Node (AssignOp o (Named v place) e) at) t =
      of_value (λ κ. of_operands (is_simple_word e) false t (name_accesses v) (word_listed e t).value (word_listed e (suc t)).value (cut_where (ends_word_block o (is_constant_word e)) (name_accesses v κ)))
  word_listed (Node (AssignOp o (At p place) e) at) t =
      of_value (updated_through (is_simple_word e) (ends_word_block o (is_constant_word e)) t (word_listed p t).value (word_listed e t).value (word_listed e (suc (suc t))).value)
  word_listed (Node (StepBefore up (Named v place)) at) t = of_value (λ κ. name_accesses v (name_accesses v κ))
  word_listed (Node (StepBefore up (At p place)) at) t = of_value (word_listed p t).value
  word_listed (Node (StepAfter up (Named v place)) at) t = of_value (λ κ. name_accesses v (name_accesses v κ))
  word_listed (Node (StepAfter up (At p place)) at) t = of_value (word_listed p t).value
  word_listed (Node (Call f es) at) t = of_value (λ κ. word_arguments es t (word_waited es t (cut κ)))
  word_listed (Node (In port) at) t = of_value (λ κ. κ)
  word_listed (Node (Out port e) at) t = of_value (word_listed e t).value
  word_listed (Node (Comma a b) at) t = of_value (λ κ. (word_listed a t).value ((word_listed b t).value κ))

  -- the values of arguments, each of which waits one temporary deeper
  pub word_arguments : ExprsCode → ℕ → Marks
  word_arguments none t κ = κ
  word_arguments (more e rest) t κ = (word_listed e t).value (waits (is_last rest) t (word_arguments rest (suc t) κ))

-- in a function whose temporaries begin at this scalar
module _ (t : ℕ) where
  abbrev pub word_value : ExprCode → Marks
  word_value e = (word_listed e t).value

  abbrev pub word_condition : ExprCode → Marks
  word_condition e = (word_listed e t).condition

  abbrev pub optional_word_value : Option ExprCode → Marks
  optional_word_value None κ = κ
  optional_word_value (Some e) κ = word_value e κ

  abbrev pub optional_word_condition : Option ExprCode → Marks
  optional_word_condition None κ = κ
  optional_word_condition (Some e) κ = word_condition e κ

  abbrev mutual
    pub word_statement_accesses : StmtCode → Marks
    word_statement_accesses (Block declared ss) κ = word_statements_accesses ss κ
    word_statement_accesses (Fill n) κ = cut κ
    word_statement_accesses (Do_expr e) κ = word_value e κ
    word_statement_accesses (If e a b) κ = word_condition e (cut (word_statement_accesses a (cut (word_statement_accesses b (cut κ)))))
    word_statement_accesses (While e a) κ = cut (word_condition e (cut (word_statement_accesses a (cut κ))))
    word_statement_accesses (Do_while a e) κ = cut (word_statement_accesses a (cut (word_condition e (cut κ))))
    word_statement_accesses (For x y z a) κ = optional_word_value x (cut (optional_word_condition y (cut (word_statement_accesses a (cut (optional_word_value z (cut κ)))))))
    word_statement_accesses (Switch e cs) κ = word_value e (cut (word_choices_accesses cs (cut κ)))
    word_statement_accesses Break κ = cut κ
    word_statement_accesses Continue κ = cut κ
    word_statement_accesses (Return e) κ = optional_word_value e (cut κ)

    pub word_statements_accesses : StmtsCode → Marks
    word_statements_accesses done κ = κ
    word_statements_accesses (both s rest) κ = word_statement_accesses s (word_statements_accesses rest κ)

    -- each label is a cut
    pub word_choices_accesses : ChoicesCode → Marks
    word_choices_accesses no_more κ = κ
    word_choices_accesses (case w rest) κ = cut (word_choices_accesses rest κ)
    word_choices_accesses (default rest) κ = cut (word_choices_accesses rest κ)
    word_choices_accesses (body s rest) κ = word_statement_accesses s (word_choices_accesses rest κ)

-- the blocks of a function, whose temporaries are its last scalars
abbrev pub word_function_blocks : FunctionCode → List (List ℕ)
word_function_blocks f = word_statement_accesses (f.scalars - word_statement_temporaries f.body) f.body (cut (λ open_block. [])) []
