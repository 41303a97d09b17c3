-- Lowering keeps what a tree uses, how many temporaries it needs, and its labels.
use Rattle.std.proofs.Common.{◌≡◌, refl, ap, ◌∙◌, sym, ◌+◌, max, ◌++◌, ◌∷◌, [], ℕ, suc, Bool, true, false, if◌then◌else◌, Option, Some, None}
use Rattle.std.specs.Prelude.{◌&&◌, ◌||◌, ◌==◌, not}
use Rattle.c_tree.specs.c_syntax.declared.operator.UnaryOp.{UnaryOp}
use Rattle.c_tree.specs.c_syntax.declared.operator.UnaryOp.TheVariants.{Minus, Plus, Complement}
use Rattle.c_tree.specs.declared.uses.Use.TheVariants as use_of
use Rattle.c_tree.specs.TypedTree as tree
use Rattle.c_tree.specs.TypedTree.{Kind}
use Rattle.c_tree.specs.Temporaries as source_counts
use Rattle.c_tree.specs.Uses as source_uses
use Rattle.c_tree.specs.Labels as source_labels
use Rattle.tree_code.specs.WordTree as word
use Rattle.tree_code.specs.WordTree.{Node}
use Rattle.tree_code.specs.WordTemporaries as counts
use Rattle.tree_code.specs.WordUses as uses
use Rattle.tree_code.specs.WordLabels as labels
use Rattle.tree_code.specs.Lowered.{is_minus, is_converted, is_number, lowered_unary, lowered, lowered_form, lowered_target, lowered_list, lowered_optional, lowered_statement, lowered_statements, lowered_choices}

alike : {A B C : Type 0} (node : A → B → C) {a c : A} {b d : B} → a ≡ c → b ≡ d → node a b ≡ node c d
alike node {c = c} {b = b} first second = ap (λ x. node x b) first ∙ ap (node c) second

-- what is so of both of two is so of the one that is taken
of_either : {X : Type 0} (f : word.ExprCode → X) (b : Bool) (x y : word.ExprCode) (z : X) → f x ≡ z → f y ≡ z → f (if b then x else y) ≡ z
of_either f true x y z first second = first
of_either f false x y z first second = second

unary_uses : (o : UnaryOp) (c : Bool) (w : word.ExprCode) (at : ℕ) → uses.word_uses (lowered_unary o c w at) ≡ uses.word_uses w
unary_uses o c (Node form place) at =
    of_either uses.word_uses (is_minus o && (c && is_number form)) (Node (word.Unary o (Node (word.Unary Plus (Node form place)) place)) at) (Node (word.Unary o (Node form place)) at)
    (uses.word_form_uses form place) refl refl

unary_temporaries : (o : UnaryOp) (c : Bool) (w : word.ExprCode) (at : ℕ) → counts.word_temporaries (lowered_unary o c w at) ≡ counts.word_temporaries w
unary_temporaries o c (Node form place) at =
    of_either counts.word_temporaries (is_minus o && (c && is_number form)) (Node (word.Unary o (Node (word.Unary Plus (Node form place)) place)) at) (Node (word.Unary o (Node form place)) at)
    (counts.word_form_temporaries form) refl refl

mutual
  pub uses_kept : (e : tree.Expr) → uses.word_uses (lowered e) ≡ source_uses.uses e
  uses_kept (tree.Node form kind at) = form_uses_kept form kind at

  form_uses_kept : (form : tree.Form) (kind : Kind) (at : ℕ) → uses.word_uses (lowered_form form kind at) ≡ source_uses.form_uses form at
  form_uses_kept (tree.Const w) kind at = refl
  form_uses_kept (tree.Read v) kind at = refl
  form_uses_kept (tree.AddressOf v) kind at = refl
  form_uses_kept (tree.Load e) kind at = uses_kept e
  form_uses_kept (tree.Unary o e) kind at = unary_uses o (is_converted e) (lowered e) at ∙ uses_kept e
  form_uses_kept (tree.Binary o a b) kind at = alike (λ xs ys. xs ++ ys) (uses_kept a) (uses_kept b)
  form_uses_kept (tree.And a b) kind at = alike (λ xs ys. xs ++ ys) (uses_kept a) (uses_kept b)
  form_uses_kept (tree.Or a b) kind at = alike (λ xs ys. xs ++ ys) (uses_kept a) (uses_kept b)
  form_uses_kept (tree.Not e) kind at = uses_kept e
  form_uses_kept (tree.Pick c a b) kind at = alike (λ xs ys. xs ++ ys) (uses_kept c) (alike (λ xs ys. xs ++ ys) (uses_kept a) (uses_kept b))
  form_uses_kept (tree.Assign l e) kind at = alike (λ xs ys. xs ++ ys) (target_uses_kept l) (uses_kept e)
  form_uses_kept (tree.AssignOp o l e) kind at = alike (λ xs ys. xs ++ ys) (target_uses_kept l) (uses_kept e)
  form_uses_kept (tree.StepBefore up l) kind at = target_uses_kept l
  form_uses_kept (tree.StepAfter up l) kind at = target_uses_kept l
  form_uses_kept (tree.Call f es) kind at = ap (λ xs. xs ++ use_of.Call f at ∷ []) (list_uses_kept es)
  form_uses_kept (tree.In port) kind at = refl
  form_uses_kept (tree.Out port e) kind at = uses_kept e
  form_uses_kept (tree.Comma a b) kind at = alike (λ xs ys. xs ++ ys) (uses_kept a) (uses_kept b)
  form_uses_kept (tree.Convert e) kind at = uses_kept e

  target_uses_kept : (l : tree.Lvalue) → uses.word_target_uses (lowered_target l) ≡ source_uses.target_uses l
  target_uses_kept (tree.Named v at) = refl
  target_uses_kept (tree.At e at) = uses_kept e

  list_uses_kept : (es : tree.Exprs) → uses.word_list_uses (lowered_list es) ≡ source_uses.list_uses es
  list_uses_kept tree.none = refl
  list_uses_kept (tree.more e rest) = alike (λ xs ys. xs ++ ys) (uses_kept e) (list_uses_kept rest)

optional_uses_kept : (e : Option tree.Expr) → uses.optional_word_uses (lowered_optional e) ≡ source_uses.optional_uses e
optional_uses_kept None = refl
optional_uses_kept (Some e) = uses_kept e

case_count_kept : (cs : tree.Choices) → uses.word_case_count (lowered_choices cs) ≡ source_uses.case_count cs
case_count_kept tree.no_more = refl
case_count_kept (tree.case w rest) = ap suc (case_count_kept rest)
case_count_kept (tree.default rest) = case_count_kept rest
case_count_kept (tree.body s rest) = case_count_kept rest

mutual
  pub statement_uses_kept : (s : tree.Stmt) → uses.word_statement_uses (lowered_statement s) ≡ source_uses.statement_uses s
  statement_uses_kept (tree.Block declared ss) = statements_uses_kept ss
  statement_uses_kept (tree.Fill n) = refl
  statement_uses_kept (tree.Do_expr e) = uses_kept e
  statement_uses_kept (tree.If e a b) = alike (λ xs ys. xs ++ ys) (uses_kept e) (alike (λ xs ys. xs ++ ys) (statement_uses_kept a) (statement_uses_kept b))
  statement_uses_kept (tree.While e a) = alike (λ xs ys. xs ++ ys) (uses_kept e) (statement_uses_kept a)
  statement_uses_kept (tree.Do_while a e) = alike (λ xs ys. xs ++ ys) (statement_uses_kept a) (uses_kept e)
  statement_uses_kept (tree.For x y z a) =
      alike (λ xs ys. xs ++ ys) (optional_uses_kept x) (alike (λ xs ys. xs ++ ys) (optional_uses_kept y) (alike (λ xs ys. xs ++ ys) (optional_uses_kept z) (statement_uses_kept a)))
  statement_uses_kept (tree.Switch e cs) =
      alike (λ xs ys. xs ++ ys) (uses_kept e) (alike (λ n us. use_of.Cases n ∷ us) (case_count_kept cs) (choices_uses_kept cs))
  statement_uses_kept tree.Break = refl
  statement_uses_kept tree.Continue = refl
  statement_uses_kept (tree.Return e) = optional_uses_kept e

  statements_uses_kept : (ss : tree.Stmts) → uses.word_statements_uses (lowered_statements ss) ≡ source_uses.statements_uses ss
  statements_uses_kept tree.done = refl
  statements_uses_kept (tree.both s rest) = alike (λ xs ys. xs ++ ys) (statement_uses_kept s) (statements_uses_kept rest)

  choices_uses_kept : (cs : tree.Choices) → uses.word_choices_uses (lowered_choices cs) ≡ source_uses.choices_uses cs
  choices_uses_kept tree.no_more = refl
  choices_uses_kept (tree.case w rest) = choices_uses_kept rest
  choices_uses_kept (tree.default rest) = choices_uses_kept rest
  choices_uses_kept (tree.body s rest) = alike (λ xs ys. xs ++ ys) (statement_uses_kept s) (choices_uses_kept rest)

-- labels
has_case_kept : (w : ℕ) (cs : tree.Choices) → labels.has_word_case w (lowered_choices cs) ≡ source_labels.has_case w cs
has_case_kept w tree.no_more = refl
has_case_kept w (tree.case v rest) = ap (λ b. w == v || b) (has_case_kept w rest)
has_case_kept w (tree.default rest) = has_case_kept w rest
has_case_kept w (tree.body s rest) = has_case_kept w rest

has_default_kept : (cs : tree.Choices) → labels.has_word_default (lowered_choices cs) ≡ source_labels.has_default cs
has_default_kept tree.no_more = refl
has_default_kept (tree.case v rest) = has_default_kept rest
has_default_kept (tree.default rest) = refl
has_default_kept (tree.body s rest) = has_default_kept rest

pub repeats_label_kept : (cs : tree.Choices) → labels.repeats_word_label (lowered_choices cs) ≡ source_labels.repeats_label cs
repeats_label_kept tree.no_more = refl
repeats_label_kept (tree.case w rest) = alike (λ a b. a || b) (has_case_kept w rest) (repeats_label_kept rest)
repeats_label_kept (tree.default rest) = alike (λ a b. a || b) (has_default_kept rest) (repeats_label_kept rest)
repeats_label_kept (tree.body s rest) = repeats_label_kept rest

-- constant operands and simple ones
abbrev number_in : word.ExprCode → Bool
number_in (Node form place) = is_number form

and_false : (b : Bool) → false ≡ (b && false)
and_false true = refl
and_false false = refl

unary_number : (o : UnaryOp) (c : Bool) (w : word.ExprCode) (at : ℕ) → number_in (lowered_unary o c w at) ≡ false
unary_number o c (Node form place) at =
    of_either number_in (is_minus o && (c && is_number form)) (Node (word.Unary o (Node (word.Unary Plus (Node form place)) place)) at) (Node (word.Unary o (Node form place)) at) false refl refl

minus_constant : (c : Bool) (w : word.ExprCode) (at : ℕ) → counts.is_constant_word (lowered_unary Minus c w at) ≡ (number_in w && not c)
minus_constant true (Node (word.Const w) place) at = refl
minus_constant false (Node (word.Const w) place) at = refl
minus_constant true (Node (word.Read v) place) at = refl
minus_constant false (Node (word.Read v) place) at = refl
minus_constant true (Node (word.AddressOf v) place) at = refl
minus_constant false (Node (word.AddressOf v) place) at = refl
minus_constant true (Node (word.Load a) place) at = refl
minus_constant false (Node (word.Load a) place) at = refl
minus_constant true (Node (word.Unary o a) place) at = refl
minus_constant false (Node (word.Unary o a) place) at = refl
minus_constant true (Node (word.Binary o a b) place) at = refl
minus_constant false (Node (word.Binary o a b) place) at = refl
minus_constant true (Node (word.And a b) place) at = refl
minus_constant false (Node (word.And a b) place) at = refl
minus_constant true (Node (word.Or a b) place) at = refl
minus_constant false (Node (word.Or a b) place) at = refl
minus_constant true (Node (word.Not a) place) at = refl
minus_constant false (Node (word.Not a) place) at = refl
minus_constant true (Node (word.Pick a b c) place) at = refl
minus_constant false (Node (word.Pick a b c) place) at = refl
minus_constant true (Node (word.Assign l a) place) at = refl
minus_constant false (Node (word.Assign l a) place) at = refl
minus_constant true (Node (word.AssignOp o l a) place) at = refl
minus_constant false (Node (word.AssignOp o l a) place) at = refl
minus_constant true (Node (word.StepBefore up l) place) at = refl
minus_constant false (Node (word.StepBefore up l) place) at = refl
minus_constant true (Node (word.StepAfter up l) place) at = refl
minus_constant false (Node (word.StepAfter up l) place) at = refl
minus_constant true (Node (word.Call n es) place) at = refl
minus_constant false (Node (word.Call n es) place) at = refl
minus_constant true (Node (word.In port) place) at = refl
minus_constant false (Node (word.In port) place) at = refl
minus_constant true (Node (word.Out port a) place) at = refl
minus_constant false (Node (word.Out port a) place) at = refl
minus_constant true (Node (word.Comma a b) place) at = refl
minus_constant false (Node (word.Comma a b) place) at = refl

plus_constant : (c : Bool) (w : word.ExprCode) (at : ℕ) → counts.is_constant_word (lowered_unary Plus c w at) ≡ false
plus_constant c (Node form place) at = refl

complement_constant : (c : Bool) (w : word.ExprCode) (at : ℕ) → counts.is_constant_word (lowered_unary Complement c w at) ≡ false
complement_constant c (Node form place) at = refl

source_minus_constant : (e : tree.Expr) (kind : Kind) (at : ℕ) → (number_in (lowered e) && not (is_converted e)) ≡ source_counts.is_constant (tree.Node (tree.Unary Minus e) kind at)
source_minus_constant (tree.Node (tree.Const w) k place) kind at = refl
source_minus_constant (tree.Node (tree.Read v) k place) kind at = refl
source_minus_constant (tree.Node (tree.AddressOf v) k place) kind at = refl
source_minus_constant (tree.Node (tree.Load a) k place) kind at = refl
source_minus_constant (tree.Node (tree.Unary o a) k place) kind at = ap (λ b. b && true) (unary_number o (is_converted a) (lowered a) place)
source_minus_constant (tree.Node (tree.Binary o a b) k place) kind at = refl
source_minus_constant (tree.Node (tree.And a b) k place) kind at = refl
source_minus_constant (tree.Node (tree.Or a b) k place) kind at = refl
source_minus_constant (tree.Node (tree.Not a) k place) kind at = refl
source_minus_constant (tree.Node (tree.Pick a b c) k place) kind at = refl
source_minus_constant (tree.Node (tree.Assign l a) k place) kind at = refl
source_minus_constant (tree.Node (tree.AssignOp o l a) k place) kind at = refl
source_minus_constant (tree.Node (tree.StepBefore up l) k place) kind at = refl
source_minus_constant (tree.Node (tree.StepAfter up l) k place) kind at = refl
source_minus_constant (tree.Node (tree.Call n es) k place) kind at = refl
source_minus_constant (tree.Node (tree.In port) k place) kind at = refl
source_minus_constant (tree.Node (tree.Out port a) k place) kind at = refl
source_minus_constant (tree.Node (tree.Comma a b) k place) kind at = refl
source_minus_constant (tree.Node (tree.Convert a) k place) kind at = sym (and_false (number_in (lowered a)))

pub constant_kept : (e : tree.Expr) → counts.is_constant_word (lowered e) ≡ source_counts.is_constant e
constant_kept (tree.Node (tree.Const w) kind at) = refl
constant_kept (tree.Node (tree.Read v) kind at) = refl
constant_kept (tree.Node (tree.AddressOf v) kind at) = refl
constant_kept (tree.Node (tree.Load a) kind at) = refl
constant_kept (tree.Node (tree.Unary Minus a) kind at) = minus_constant (is_converted a) (lowered a) at ∙ source_minus_constant a kind at
constant_kept (tree.Node (tree.Unary Plus a) kind at) = plus_constant (is_converted a) (lowered a) at
constant_kept (tree.Node (tree.Unary Complement a) kind at) = complement_constant (is_converted a) (lowered a) at
constant_kept (tree.Node (tree.Binary o a b) kind at) = refl
constant_kept (tree.Node (tree.And a b) kind at) = refl
constant_kept (tree.Node (tree.Or a b) kind at) = refl
constant_kept (tree.Node (tree.Not a) kind at) = refl
constant_kept (tree.Node (tree.Pick a b c) kind at) = refl
constant_kept (tree.Node (tree.Assign l a) kind at) = refl
constant_kept (tree.Node (tree.AssignOp o l a) kind at) = refl
constant_kept (tree.Node (tree.StepBefore up l) kind at) = refl
constant_kept (tree.Node (tree.StepAfter up l) kind at) = refl
constant_kept (tree.Node (tree.Call n es) kind at) = refl
constant_kept (tree.Node (tree.In port) kind at) = refl
constant_kept (tree.Node (tree.Out port a) kind at) = refl
constant_kept (tree.Node (tree.Comma a b) kind at) = refl
constant_kept (tree.Node (tree.Convert a) kind at) = constant_kept a

minus_simple : (c : Bool) (w : word.ExprCode) (at : ℕ) → counts.is_simple_word (lowered_unary Minus c w at) ≡ (number_in w && not c)
minus_simple true (Node (word.Const w) place) at = refl
minus_simple false (Node (word.Const w) place) at = refl
minus_simple true (Node (word.Read v) place) at = refl
minus_simple false (Node (word.Read v) place) at = refl
minus_simple true (Node (word.AddressOf v) place) at = refl
minus_simple false (Node (word.AddressOf v) place) at = refl
minus_simple true (Node (word.Load a) place) at = refl
minus_simple false (Node (word.Load a) place) at = refl
minus_simple true (Node (word.Unary o a) place) at = refl
minus_simple false (Node (word.Unary o a) place) at = refl
minus_simple true (Node (word.Binary o a b) place) at = refl
minus_simple false (Node (word.Binary o a b) place) at = refl
minus_simple true (Node (word.And a b) place) at = refl
minus_simple false (Node (word.And a b) place) at = refl
minus_simple true (Node (word.Or a b) place) at = refl
minus_simple false (Node (word.Or a b) place) at = refl
minus_simple true (Node (word.Not a) place) at = refl
minus_simple false (Node (word.Not a) place) at = refl
minus_simple true (Node (word.Pick a b c) place) at = refl
minus_simple false (Node (word.Pick a b c) place) at = refl
minus_simple true (Node (word.Assign l a) place) at = refl
minus_simple false (Node (word.Assign l a) place) at = refl
minus_simple true (Node (word.AssignOp o l a) place) at = refl
minus_simple false (Node (word.AssignOp o l a) place) at = refl
minus_simple true (Node (word.StepBefore up l) place) at = refl
minus_simple false (Node (word.StepBefore up l) place) at = refl
minus_simple true (Node (word.StepAfter up l) place) at = refl
minus_simple false (Node (word.StepAfter up l) place) at = refl
minus_simple true (Node (word.Call n es) place) at = refl
minus_simple false (Node (word.Call n es) place) at = refl
minus_simple true (Node (word.In port) place) at = refl
minus_simple false (Node (word.In port) place) at = refl
minus_simple true (Node (word.Out port a) place) at = refl
minus_simple false (Node (word.Out port a) place) at = refl
minus_simple true (Node (word.Comma a b) place) at = refl
minus_simple false (Node (word.Comma a b) place) at = refl

plus_simple : (c : Bool) (w : word.ExprCode) (at : ℕ) → counts.is_simple_word (lowered_unary Plus c w at) ≡ false
plus_simple c (Node form place) at = refl

complement_simple : (c : Bool) (w : word.ExprCode) (at : ℕ) → counts.is_simple_word (lowered_unary Complement c w at) ≡ false
complement_simple c (Node form place) at = refl

source_minus_simple : (e : tree.Expr) (kind : Kind) (at : ℕ) → (number_in (lowered e) && not (is_converted e)) ≡ source_counts.is_simple (tree.Node (tree.Unary Minus e) kind at)
source_minus_simple (tree.Node (tree.Const w) k place) kind at = refl
source_minus_simple (tree.Node (tree.Read v) k place) kind at = refl
source_minus_simple (tree.Node (tree.AddressOf v) k place) kind at = refl
source_minus_simple (tree.Node (tree.Load a) k place) kind at = refl
source_minus_simple (tree.Node (tree.Unary o a) k place) kind at = ap (λ b. b && true) (unary_number o (is_converted a) (lowered a) place)
source_minus_simple (tree.Node (tree.Binary o a b) k place) kind at = refl
source_minus_simple (tree.Node (tree.And a b) k place) kind at = refl
source_minus_simple (tree.Node (tree.Or a b) k place) kind at = refl
source_minus_simple (tree.Node (tree.Not a) k place) kind at = refl
source_minus_simple (tree.Node (tree.Pick a b c) k place) kind at = refl
source_minus_simple (tree.Node (tree.Assign l a) k place) kind at = refl
source_minus_simple (tree.Node (tree.AssignOp o l a) k place) kind at = refl
source_minus_simple (tree.Node (tree.StepBefore up l) k place) kind at = refl
source_minus_simple (tree.Node (tree.StepAfter up l) k place) kind at = refl
source_minus_simple (tree.Node (tree.Call n es) k place) kind at = refl
source_minus_simple (tree.Node (tree.In port) k place) kind at = refl
source_minus_simple (tree.Node (tree.Out port a) k place) kind at = refl
source_minus_simple (tree.Node (tree.Comma a b) k place) kind at = refl
source_minus_simple (tree.Node (tree.Convert a) k place) kind at = sym (and_false (number_in (lowered a)))

pub simple_kept : (e : tree.Expr) → counts.is_simple_word (lowered e) ≡ source_counts.is_simple e
simple_kept (tree.Node (tree.Const w) kind at) = refl
simple_kept (tree.Node (tree.Read v) kind at) = refl
simple_kept (tree.Node (tree.AddressOf v) kind at) = refl
simple_kept (tree.Node (tree.Load a) kind at) = refl
simple_kept (tree.Node (tree.Unary Minus a) kind at) = minus_simple (is_converted a) (lowered a) at ∙ source_minus_simple a kind at
simple_kept (tree.Node (tree.Unary Plus a) kind at) = plus_simple (is_converted a) (lowered a) at
simple_kept (tree.Node (tree.Unary Complement a) kind at) = complement_simple (is_converted a) (lowered a) at
simple_kept (tree.Node (tree.Binary o a b) kind at) = refl
simple_kept (tree.Node (tree.And a b) kind at) = refl
simple_kept (tree.Node (tree.Or a b) kind at) = refl
simple_kept (tree.Node (tree.Not a) kind at) = refl
simple_kept (tree.Node (tree.Pick a b c) kind at) = refl
simple_kept (tree.Node (tree.Assign l a) kind at) = refl
simple_kept (tree.Node (tree.AssignOp o l a) kind at) = refl
simple_kept (tree.Node (tree.StepBefore up l) kind at) = refl
simple_kept (tree.Node (tree.StepAfter up l) kind at) = refl
simple_kept (tree.Node (tree.Call n es) kind at) = refl
simple_kept (tree.Node (tree.In port) kind at) = refl
simple_kept (tree.Node (tree.Out port a) kind at) = refl
simple_kept (tree.Node (tree.Comma a b) kind at) = refl
simple_kept (tree.Node (tree.Convert a) kind at) = simple_kept a

unless_kept : (e : tree.Expr) {m n : ℕ} → m ≡ n → counts.unless_simple_word (lowered e) m ≡ source_counts.unless_simple e n
unless_kept e same = alike (λ (b : Bool) (n : ℕ). if b then 0 else n) (simple_kept e) same

binary_kept : (a b : tree.Expr) {m n p q : ℕ} → m ≡ p → n ≡ q
    → max m (if counts.is_constant_word (lowered a) then n else counts.unless_simple_word (lowered b) (1 + n))
    ≡ max p (if source_counts.is_constant a then q else source_counts.unless_simple b (1 + q))
binary_kept a b {n = n} {q = q} first second =
    alike max first (ap (λ c. if c then n else counts.unless_simple_word (lowered b) (1 + n)) (constant_kept a)
    ∙ alike (λ x y. if source_counts.is_constant a then x else y) second (unless_kept b (ap (λ n. 1 + n) second)))

mutual
  pub temporaries_kept : (e : tree.Expr) → counts.word_temporaries (lowered e) ≡ source_counts.temporaries e
  temporaries_kept (tree.Node form kind at) = form_kept form kind at

  form_kept : (form : tree.Form) (kind : Kind) (at : ℕ) → counts.word_temporaries (lowered_form form kind at) ≡ source_counts.form_temporaries form
  form_kept (tree.Const w) kind at = refl
  form_kept (tree.Read v) kind at = refl
  form_kept (tree.AddressOf v) kind at = refl
  form_kept (tree.Load e) kind at = temporaries_kept e
  form_kept (tree.Unary o e) kind at = unary_temporaries o (is_converted e) (lowered e) at ∙ temporaries_kept e
  form_kept (tree.Binary o a b) kind at = binary_kept a b (temporaries_kept a) (temporaries_kept b)
  form_kept (tree.And a b) kind at = alike max (temporaries_kept a) (temporaries_kept b)
  form_kept (tree.Or a b) kind at = alike max (temporaries_kept a) (temporaries_kept b)
  form_kept (tree.Not e) kind at = temporaries_kept e
  form_kept (tree.Pick c a b) kind at = alike max (temporaries_kept c) (alike max (temporaries_kept a) (temporaries_kept b))
  form_kept (tree.Assign (tree.Named v place) e) kind at = temporaries_kept e
  form_kept (tree.Assign (tree.At p place) e) kind at = alike max (temporaries_kept p) (unless_kept e (ap (λ n. 1 + n) (temporaries_kept e)))
  form_kept (tree.AssignOp o (tree.Named v place) e) kind at = unless_kept e (ap (λ n. 1 + n) (temporaries_kept e))
  form_kept (tree.AssignOp o (tree.At p place) e) kind at = alike max (temporaries_kept p) (unless_kept e (ap (λ n. 2 + n) (temporaries_kept e)))
  form_kept (tree.StepBefore up l) kind at = target_kept l
  form_kept (tree.StepAfter up l) kind at = target_kept l
  form_kept (tree.Call f es) kind at = arguments_kept es
  form_kept (tree.In port) kind at = refl
  form_kept (tree.Out port e) kind at = temporaries_kept e
  form_kept (tree.Comma a b) kind at = alike max (temporaries_kept a) (temporaries_kept b)
  form_kept (tree.Convert e) kind at = temporaries_kept e

  target_kept : (l : tree.Lvalue) → counts.word_target_temporaries (lowered_target l) ≡ source_counts.target_temporaries l
  target_kept (tree.Named v at) = refl
  target_kept (tree.At e at) = temporaries_kept e

  arguments_kept : (es : tree.Exprs) → counts.word_argument_temporaries (lowered_list es) ≡ source_counts.argument_temporaries es
  arguments_kept tree.none = refl
  arguments_kept (tree.more e tree.none) = temporaries_kept e
  arguments_kept (tree.more e (tree.more f rest)) = alike max (temporaries_kept e) (ap (λ n. 1 + n) (arguments_kept (tree.more f rest)))

optional_kept : (e : Option tree.Expr) → counts.optional_word_temporaries (lowered_optional e) ≡ source_counts.optional_temporaries e
optional_kept None = refl
optional_kept (Some e) = temporaries_kept e

mutual
  -- the temporaries of a word tree are those of its source
  pub statement_kept : (s : tree.Stmt) → counts.word_statement_temporaries (lowered_statement s) ≡ source_counts.statement_temporaries s
  statement_kept (tree.Block declared ss) = statements_kept ss
  statement_kept (tree.Fill n) = refl
  statement_kept (tree.Do_expr e) = temporaries_kept e
  statement_kept (tree.If e a b) = alike max (temporaries_kept e) (alike max (statement_kept a) (statement_kept b))
  statement_kept (tree.While e a) = alike max (temporaries_kept e) (statement_kept a)
  statement_kept (tree.Do_while a e) = alike max (statement_kept a) (temporaries_kept e)
  statement_kept (tree.For x y z a) = alike max (optional_kept x) (alike max (optional_kept y) (alike max (optional_kept z) (statement_kept a)))
  statement_kept (tree.Switch e cs) = alike max (temporaries_kept e) (choices_kept cs)
  statement_kept tree.Break = refl
  statement_kept tree.Continue = refl
  statement_kept (tree.Return e) = optional_kept e

  statements_kept : (ss : tree.Stmts) → counts.word_statements_temporaries (lowered_statements ss) ≡ source_counts.statements_temporaries ss
  statements_kept tree.done = refl
  statements_kept (tree.both s rest) = alike max (statement_kept s) (statements_kept rest)

  choices_kept : (cs : tree.Choices) → counts.word_choices_temporaries (lowered_choices cs) ≡ source_counts.choices_temporaries cs
  choices_kept tree.no_more = refl
  choices_kept (tree.case w rest) = choices_kept rest
  choices_kept (tree.default rest) = choices_kept rest
  choices_kept (tree.body s rest) = alike max (statement_kept s) (choices_kept rest)
