-- A word tree has the accesses of the typed tree that it was lowered from.
use Rattle.std.proofs.Common.{◌≡◌, refl, ap, ap₂, ◌∙◌, sym, ℕ, suc, ◌+◌, ◌-◌, Bool, true, false, [], length, arith, Option, Some, None}
use mathlib.Core.Path.{fun_ext}
use Rattle.std.specs.Prelude.{◌&&◌, if◌then◌else◌}
use Rattle.c_syntax.specs.declared.operator.UnaryOp.{UnaryOp}
use Rattle.c_syntax.specs.declared.operator.UnaryOp.TheVariants.{Plus}
use Rattle.c_syntax.specs.declared.operator.BinaryOp.{BinaryOp}
use Rattle.c_syntax.specs.declared.operator.BinaryOp.TheVariants as op
use Rattle.c_tree.specs.Eval.{kind_of}
use Rattle.c_tree.specs.Temporaries.{is_constant}
use Rattle.c_tree.specs.TypedTree as tree
use Rattle.c_tree.specs.TypedTree.{Kind, Node, Named, At, FunctionTree}
use Rattle.tree_code.specs.WordTree as code
use Rattle.tree_code.specs.Operations.{one_of, word_op}
use Rattle.tree_code.specs.Lowered.{is_minus, is_number, is_converted, lowered_unary, lowered, lowered_list, lowered_optional, lowered_statement, lowered_statements, lowered_choices, lowered_function}
use Rattle.tree_code.specs.WordTemporaries.{is_constant_word, is_simple_word, word_statement_temporaries}
use Rattle.tree_code.specs.declared.operator.WordOp.{WordOp}
use Rattle.tree_code.specs.declared.operator.WordOp.TheVariants as word
use Rattle.tree_code.proofs.KeptLemmas.{constant_kept, simple_kept}
use Rattle.acc_code.specs.AccSequence.{cut}
use Rattle.acc_select.specs.Selected as select
use Rattle.acc_select_proof.specs.Listed.{Marks, Listed, of_value, of_condition, name_accesses, cut_where, of_operands, assigned_through, updated_through, waits}
use Rattle.acc_select_proof.specs.SourceAccesses.{ends_block, is_last, waited, listed, arguments, value_of, condition_of, optional_value, optional_condition, statement_accesses, statements_accesses, choices_accesses, function_blocks}
use Rattle.acc_select_proof.specs.TreeAccesses.{ends_word_block, word_waited, word_listed, word_arguments, word_value, word_condition, optional_word_value, optional_word_condition, word_statement_accesses, word_statements_accesses, word_choices_accesses, word_function_blocks}
use Rattle.acc_select_proof.proofs.AccessExpressions.{conditional}

-- an operator ends a block where its operation does, of whatever signs
either_ends : (b : Bool) (x y : WordOp) (constant r : Bool) → r ≡ ends_word_block x constant → r ≡ ends_word_block y constant → r ≡ ends_word_block (one_of b x y) constant
either_ends true x y constant r h k = h
either_ends false x y constant r h k = k

ends_kept : (o : BinaryOp) (k l : Kind) (constant : Bool) → ends_block o constant ≡ ends_word_block (word_op o k l) constant
ends_kept op.Add k l constant = refl
ends_kept op.Sub k l constant = refl
ends_kept op.Mul k l constant = refl
ends_kept op.Div k l constant = either_ends _ word.DivUnsigned word.DivInt constant true refl refl
ends_kept op.Rem k l constant = either_ends _ word.RemUnsigned word.RemInt constant true refl refl
ends_kept op.And k l constant = refl
ends_kept op.Or k l constant = refl
ends_kept op.Xor k l constant = refl
ends_kept op.Shl k l constant = refl
ends_kept op.Shr k l constant = either_ends _ word.ShrUnsigned word.ShrInt constant _ refl refl
ends_kept op.Eq k l constant = refl
ends_kept op.Ne k l constant = refl
ends_kept op.Lt k l constant = either_ends _ word.LtUnsigned word.LtInt constant true refl refl
ends_kept op.Gt k l constant = either_ends _ word.GtUnsigned word.GtInt constant true refl refl
ends_kept op.Le k l constant = either_ends _ word.LeUnsigned word.LeInt constant true refl refl
ends_kept op.Ge k l constant = either_ends _ word.GeUnsigned word.GeInt constant true refl refl

lowered_ends : (o : BinaryOp) (k l : Kind) (b : tree.Expr) → ends_block o (is_constant b) ≡ ends_word_block (word_op o k l) (is_constant_word (lowered b))
lowered_ends o k l b = ends_kept o k l (is_constant b) ∙ ap (ends_word_block (word_op o k l)) (sym (constant_kept b))

-- an operator on one word, whose operand may have lost a conversion
unary_kept : (o : UnaryOp) (converted : Bool) (e : code.ExprCode) (at t : ℕ) → of_value (word_listed e t).value ≡ word_listed (lowered_unary o converted e at) t
unary_kept o converted (code.Node form place) at t = by (is_minus o && (converted && is_number form))
  where
    by : (b : Bool) → of_value (word_listed (code.Node form place) t).value ≡ word_listed (if b then code.Node (code.Unary o (code.Node (code.Unary Plus (code.Node form place)) place)) at else code.Node (code.Unary o (code.Node form place)) at) t
    by true = refl
    by false = refl

-- a conversion is no condition by itself: it ends with one cut more
abbrev make_listed : Marks → Marks → Listed
make_listed v c = record { value = v; condition = c }

conversion_kept : (e : code.ExprCode) (t : ℕ) → of_value (word_listed e t).value ≡ word_listed e t
conversion_kept e t = ap (make_listed (word_listed e t).value) (fun_ext (λ κ. sym (conditional e t κ)))

-- lists made of those of parts
abbrev binary_list : Bool → Bool → Bool → ℕ → Listed → Listed → Listed → Listed
binary_list simple constant ends t a b d = of_value (λ κ. of_operands simple constant t a.value b.value d.value (cut_where ends κ))

abbrev assigned_list : Bool → ℕ → Listed → Listed → Listed → Listed
assigned_list simple t p e d = of_value (assigned_through simple t p.value e.value d.value)

abbrev name_list : Bool → Bool → ℕ → Marks → Listed → Listed → Listed
name_list simple ends t n e d = of_value (λ κ. of_operands simple false t n e.value d.value (cut_where ends (n κ)))

abbrev updated_list : Bool → Bool → ℕ → Listed → Listed → Listed → Listed
updated_list simple ends t p e d = of_value (updated_through simple ends t p.value e.value d.value)

last_kept : (es : tree.Exprs) → is_last es ≡ select.is_last (lowered_list es)
last_kept tree.none = refl
last_kept (tree.more e rest) = refl

waited_kept : (es : tree.Exprs) (t : ℕ) → waited es t ≡ word_waited (lowered_list es) t
waited_kept tree.none t = refl
waited_kept (tree.more e rest) t = ap₂ (λ b m κ. waits b t (m κ)) (last_kept rest) (waited_kept rest (suc t))

mutual
  pub expression_kept : (e : tree.Expr) (t : ℕ) → listed e t ≡ word_listed (lowered e) t
  expression_kept (Node (tree.Const w) kind at) t = refl
  expression_kept (Node (tree.Read v) kind at) t = refl
  expression_kept (Node (tree.AddressOf v) kind at) t = refl
  expression_kept (Node (tree.Load e) kind at) t = ap (λ x. of_value x.value) (expression_kept e t)
  expression_kept (Node (tree.Unary o e) kind at) t = ap (λ x. of_value x.value) (expression_kept e t) ∙ unary_kept o (is_converted e) (lowered e) at t
  expression_kept (Node (tree.Binary o a b) kind at) t =
      ap (λ x. binary_list x (is_constant a) (ends_block o (is_constant b)) t (listed a t) (listed b t) (listed b (suc t))) (sym (simple_kept b))
      ∙ ap (λ x. binary_list (is_simple_word (lowered b)) x (ends_block o (is_constant b)) t (listed a t) (listed b t) (listed b (suc t))) (sym (constant_kept a))
      ∙ ap (λ x. binary_list (is_simple_word (lowered b)) (is_constant_word (lowered a)) x t (listed a t) (listed b t) (listed b (suc t))) (lowered_ends o (kind_of a) (kind_of b) b)
      ∙ ap (λ x. binary_list (is_simple_word (lowered b)) (is_constant_word (lowered a)) (ends_word_block (word_op o (kind_of a) (kind_of b)) (is_constant_word (lowered b))) t x (listed b t) (listed b (suc t))) (expression_kept a t)
      ∙ ap₂ (λ x y. binary_list (is_simple_word (lowered b)) (is_constant_word (lowered a)) (ends_word_block (word_op o (kind_of a) (kind_of b)) (is_constant_word (lowered b))) t (word_listed (lowered a) t) x y) (expression_kept b t) (expression_kept b (suc t))
  expression_kept (Node (tree.And a b) kind at) t = ap₂ (λ x y. of_condition (λ κ. x.condition (cut (y.condition (cut κ))))) (expression_kept a t) (expression_kept b t)
  expression_kept (Node (tree.Or a b) kind at) t = ap₂ (λ x y. of_condition (λ κ. x.condition (cut (y.condition (cut κ))))) (expression_kept a t) (expression_kept b t)
  expression_kept (Node (tree.Not a) kind at) t = ap (λ x. of_condition x.condition) (expression_kept a t)
  expression_kept (Node (tree.Pick c a b) kind at) t =
      ap (λ x. of_value (λ κ. x.condition (cut ((listed a t).value (cut ((listed b t).value (cut κ))))))) (expression_kept c t)
      ∙ ap₂ (λ x y. of_value (λ κ. (word_listed (lowered c) t).condition (cut (x.value (cut (y.value (cut κ))))))) (expression_kept a t) (expression_kept b t)
  expression_kept (Node (tree.Assign (Named v place) e) kind at) t = ap (λ x. of_value (λ κ. x.value (name_accesses v κ))) (expression_kept e t)
  expression_kept (Node (tree.Assign (At p place) e) kind at) t =
      ap (λ x. assigned_list x t (listed p t) (listed e t) (listed e (suc t))) (sym (simple_kept e))
      ∙ ap (λ x. assigned_list (is_simple_word (lowered e)) t x (listed e t) (listed e (suc t))) (expression_kept p t)
      ∙ ap₂ (λ x y. assigned_list (is_simple_word (lowered e)) t (word_listed (lowered p) t) x y) (expression_kept e t) (expression_kept e (suc t))
  expression_kept (Node (tree.AssignOp o (Named v place) e) kind at) t =
      ap₂ (λ x y. name_list x y t (name_accesses v) (listed e t) (listed e (suc t))) (sym (simple_kept e)) (lowered_ends o kind (kind_of e) e)
      ∙ ap₂ (λ x y. name_list (is_simple_word (lowered e)) (ends_word_block (word_op o kind (kind_of e)) (is_constant_word (lowered e))) t (name_accesses v) x y) (expression_kept e t) (expression_kept e (suc t))
  expression_kept (Node (tree.AssignOp o (At p place) e) kind at) t =
      ap₂ (λ x y. updated_list x y t (listed p t) (listed e t) (listed e (suc (suc t)))) (sym (simple_kept e)) (lowered_ends o kind (kind_of e) e)
      ∙ ap (λ x. updated_list (is_simple_word (lowered e)) (ends_word_block (word_op o kind (kind_of e)) (is_constant_word (lowered e))) t x (listed e t) (listed e (suc (suc t)))) (expression_kept p t)
      ∙ ap₂ (λ x y. updated_list (is_simple_word (lowered e)) (ends_word_block (word_op o kind (kind_of e)) (is_constant_word (lowered e))) t (word_listed (lowered p) t) x y) (expression_kept e t) (expression_kept e (suc (suc t)))
  expression_kept (Node (tree.StepBefore up (Named v place)) kind at) t = refl
  expression_kept (Node (tree.StepBefore up (At p place)) kind at) t = ap (λ x. of_value x.value) (expression_kept p t)
  expression_kept (Node (tree.StepAfter up (Named v place)) kind at) t = refl
  expression_kept (Node (tree.StepAfter up (At p place)) kind at) t = ap (λ x. of_value x.value) (expression_kept p t)
  expression_kept (Node (tree.Call f es) kind at) t = ap₂ (λ m n. of_value (λ κ. m (n (cut κ)))) (arguments_kept es t) (waited_kept es t)
  expression_kept (Node (tree.In port) kind at) t = refl
  expression_kept (Node (tree.Out port e) kind at) t = ap (λ x. of_value x.value) (expression_kept e t)
  expression_kept (Node (tree.Comma a b) kind at) t = ap₂ (λ x y. of_value (λ κ. x.value (y.value κ))) (expression_kept a t) (expression_kept b t)
  expression_kept (Node (tree.Convert e) kind at) t = ap (λ x. of_value x.value) (expression_kept e t) ∙ conversion_kept (lowered e) t

  arguments_kept : (es : tree.Exprs) (t : ℕ) → arguments es t ≡ word_arguments (lowered_list es) t
  arguments_kept tree.none t = refl
  arguments_kept (tree.more e rest) t =
      ap (λ x κ. x.value (waits (is_last rest) t (arguments rest (suc t) κ))) (expression_kept e t)
      ∙ ap₂ (λ b m κ. (word_listed (lowered e) t).value (waits b t (m κ))) (last_kept rest) (arguments_kept rest (suc t))

module _ (t : ℕ) where
  value_kept : (e : tree.Expr) → value_of t e ≡ word_value t (lowered e)
  value_kept e = ap (λ x. x.value) (expression_kept e t)

  condition_kept : (e : tree.Expr) → condition_of t e ≡ word_condition t (lowered e)
  condition_kept e = ap (λ x. x.condition) (expression_kept e t)

  optional_value_kept : (e : Option tree.Expr) → optional_value t e ≡ optional_word_value t (lowered_optional e)
  optional_value_kept None = refl
  optional_value_kept (Some e) = value_kept e

  optional_condition_kept : (e : Option tree.Expr) → optional_condition t e ≡ optional_word_condition t (lowered_optional e)
  optional_condition_kept None = refl
  optional_condition_kept (Some e) = condition_kept e

  mutual
    pub statement_kept : (s : tree.Stmt) → statement_accesses t s ≡ word_statement_accesses t (lowered_statement s)
    statement_kept (tree.Block declared ss) = statements_kept ss
    statement_kept (tree.Fill n) = refl
    statement_kept (tree.Do_expr e) = value_kept e
    statement_kept (tree.If e a b) =
        ap (λ m κ. m (cut (statement_accesses t a (cut (statement_accesses t b (cut κ)))))) (condition_kept e)
        ∙ ap₂ (λ m n κ. word_condition t (lowered e) (cut (m (cut (n (cut κ)))))) (statement_kept a) (statement_kept b)
    statement_kept (tree.While e a) = ap₂ (λ m n κ. cut (m (cut (n (cut κ))))) (condition_kept e) (statement_kept a)
    statement_kept (tree.Do_while a e) = ap₂ (λ m n κ. cut (m (cut (n (cut κ))))) (statement_kept a) (condition_kept e)
    statement_kept (tree.For x y z a) =
        ap₂ (λ m n κ. m (cut (n (cut (statement_accesses t a (cut (optional_value t z (cut κ)))))))) (optional_value_kept x) (optional_condition_kept y)
        ∙ ap₂ (λ m n κ. optional_word_value t (lowered_optional x) (cut (optional_word_condition t (lowered_optional y) (cut (m (cut (n (cut κ)))))))) (statement_kept a) (optional_value_kept z)
    statement_kept (tree.Switch e cs) = ap₂ (λ m n κ. m (cut (n (cut κ)))) (value_kept e) (choices_kept cs)
    statement_kept tree.Break = refl
    statement_kept tree.Continue = refl
    statement_kept (tree.Return e) = ap (λ m κ. m (cut κ)) (optional_value_kept e)

    statements_kept : (ss : tree.Stmts) → statements_accesses t ss ≡ word_statements_accesses t (lowered_statements ss)
    statements_kept tree.done = refl
    statements_kept (tree.both s rest) = ap₂ (λ m n κ. m (n κ)) (statement_kept s) (statements_kept rest)

    choices_kept : (cs : tree.Choices) → choices_accesses t cs ≡ word_choices_accesses t (lowered_choices cs)
    choices_kept tree.no_more = refl
    choices_kept (tree.case w rest) = ap (λ m κ. cut (m κ)) (choices_kept rest)
    choices_kept (tree.default rest) = ap (λ m κ. cut (m κ)) (choices_kept rest)
    choices_kept (tree.body s rest) = ap₂ (λ m n κ. m (n κ)) (statement_kept s) (choices_kept rest)

pub function_kept : (f : FunctionTree) → function_blocks f ≡ word_function_blocks (lowered_function f)
function_kept f =
    let first : (length f.scalars + word_statement_temporaries (lowered_statement f.body)) - word_statement_temporaries (lowered_statement f.body) ≡ length f.scalars = omega arith in
    ap (λ m. m (cut (λ open_block. [])) []) (statement_kept (length f.scalars) f.body)
    ∙ ap (λ n. word_statement_accesses n (lowered_statement f.body) (cut (λ open_block. [])) []) (sym first)
