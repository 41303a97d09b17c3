-- Nodes that may break several rules: the least that one of them breaks is what the rules of names and types find.
use Rattle.std.proofs.Common.{◌≡◌, ℕ, ◌&&◌, ◌||◌, Bool, true, false, if◌then◌else◌, List, [], ◌∷◌, ◌++◌, is_none, Option, Some, None, refl, sym, ap, ◌∙◌}
use Rattle.c_tree.specs.c_syntax.declared.operator.BinaryOp.{BinaryOp}
use Rattle.c_tree.specs.declared.program.ScalarType.{ScalarType}
use Rattle.c_tree.specs.c_syntax.declared.syntax.PrefixOp.{PrefixOp}
use Rattle.c_tree.specs.c_syntax.declared.syntax.PrefixOp.TheVariants as prefix
use Rattle.c_tree.specs.c_syntax.declared.operator.UnaryOp.TheVariants as unary_op
use Rattle.c_tree.specs.c_syntax.SyntaxTree.{SpecsTree, TypeTree}
use Rattle.c_tree.specs.TypedTree.{Kind, Expr, Lvalue, Named, At, Exprs, more}
use Rattle.c_tree.specs.Eval.{kind_of}
use Rattle.c_rules.specs.declared.fault.Rule.{Rule}
use Rattle.c_rules.specs.declared.fault.Rule.TheVariants.{Undeclared, Mismatch, NotLvalue, LongConstant, BadPort, ArgCount, Misplaced}
use Rattle.c_rules.specs.declared.meaning.Meaning.{Meaning}
use Rattle.c_rules.specs.declared.meaning.Meaning.TheVariants as meanings
use Rattle.c_rules.specs.declared.meaning.ObjectType.TheVariants.{Single, Array}
use Rattle.c_rules.specs.Outcome.{Outcome, Is, Broken, ◌>>=◌, breaks}
use Rattle.c_rules.specs.Kinds.{is_void}
use Rattle.c_rules.specs.Operands.{Operand, typed_number, given, written, lvalue_of, assigned_as, assigned, assigned_by, stepped_before, stepped_after, address_of, any_void, passed, no_more, sent}
use Rattle.c_rules.specs.Scopes.{Scope, is_in, is_out}
use Rattle.c_rules.specs.Typing.{Arguments, Operands, NoPort, Port, call_of, plain, type_named, named_as, typed_name, typed_call, prefixed, takes_address, of_object}
use Rattle.c_rules.specs.Visits.{visit, BrokenRule, first, when, rule_of}
use Rattle.c_rules.specs.ExpressionWalk.{plain_rules, type_visits, object_rules, step_rules, prefix_rules, is_broken, misfits, assign_rules, update_rules, any_misfit, other_count, any_behind, isnt_one, called_rules, call_rules}
use Rattle.c_rules.proofs.Walked.Finding.{Finds}
use Rattle.c_rules.proofs.Walked.Mismatching.{Mismatches, finds_mismatch, given_only, loaded_only, unary_only, negated_only}
use Rattle.c_rules.proofs.Walked.Nodes.{mapped}

-- one node
abbrev pub Node_finds : {A : Type 0} → ℕ → List Rule → Outcome A → Type 0
Node_finds at rules o = Finds (visit at rules ∷ []) o

-- the words of a type
plain_by : {A : Type 0} (a b : Bool) (at : ℕ) (x : A) → Node_finds at (when a Mismatch ++ when b Misplaced) (breaks a Mismatch at (Is x) >>= λ y. breaks b Misplaced at (Is y))
plain_by true true at x = refl
plain_by true false at x = refl
plain_by false true at x = refl
plain_by false false at x = refl

pub plain_find : (specs : SpecsTree) → Node_finds specs.at (plain_rules specs) (plain specs)
plain_find specs = plain_by _ _ specs.at _

pub type_find : (t : TypeTree) → Finds (type_visits t) (type_named t)
type_find t = mapped (visit t.specs.at (plain_rules t.specs) ∷ []) (plain t.specs) _ (plain_find t.specs)

-- names and constants
named_by : (at : ℕ) (b : Bool) (m : Option Meaning) → Node_finds at (rule_of (breaks b Mismatch at (named_as at m))) (breaks b Mismatch at (named_as at m))
named_by at true m = refl
named_by at false None = refl
named_by at false (Some (meanings.Object r (Single kind))) = refl
named_by at false (Some (meanings.Object r (Array kind n))) = refl
named_by at false (Some (meanings.Function type)) = refl

pub named_find : (s : Scope) (name : List ℕ) (at : ℕ) → Node_finds at (rule_of (typed_name s name at)) (typed_name s name at)
named_find s name at = named_by at (is_in name || is_out name) (s.meaning name)

choose : {A : Type 0} (at : ℕ) (b : Bool) (o p : Outcome A) → Node_finds at (rule_of o) o → Node_finds at (rule_of p) p → Node_finds at (rule_of (if b then o else p)) (if b then o else p)
choose at true o p one other = one
choose at false o p one other = other

pub number_find : (value : ℕ) (marked decimal : Bool) (at : ℕ) → Node_finds at (rule_of (typed_number value marked decimal at)) (typed_number value marked decimal at)
number_find value marked decimal at =
    choose at _ (Broken LongConstant at) _ refl (choose at marked (Is _) _ refl (choose at _ (Is _) _ refl (choose at decimal (Broken LongConstant at) (Is _) refl refl)))

-- what is written, stepped or has its address taken
written_by : (at : ℕ) (mismatch : Bool) (l : Option Lvalue) (no_object : Bool) (node : Lvalue → Expr)
    → Node_finds at (when mismatch Mismatch ++ when (is_none l || no_object) NotLvalue) (breaks mismatch Mismatch at (written at l node) >>= λ y. of_object no_object at y)
written_by at true None no_object node = refl
written_by at true (Some l) true node = refl
written_by at true (Some l) false node = refl
written_by at false None no_object node = refl
written_by at false (Some l) true node = refl
written_by at false (Some l) false node = refl

pub before_find : (up : Bool) (at : ℕ) (no_object : Bool) (x : Expr) → Node_finds at (step_rules no_object x) (stepped_before up at x >>= λ y. of_object no_object at y)
before_find up at no_object x = written_by at (is_void (kind_of x)) (lvalue_of x) no_object _

pub after_find : (up : Bool) (at : ℕ) (no_object : Bool) (x : Expr) → Node_finds at (step_rules no_object x) (stepped_after up at x >>= λ y. of_object no_object at y)
after_find up at no_object x = written_by at (is_void (kind_of x)) (lvalue_of x) no_object _

pub update_find : (o : BinaryOp) (at : ℕ) (no_object : Bool) (x y : Expr) → Node_finds at (update_rules no_object o x y) (assigned_by o at x y >>= λ z. of_object no_object at z)
update_find o at no_object x y = written_by at _ (lvalue_of x) no_object _

address_by : (at : ℕ) (mismatch : Bool) (l : Option Lvalue) (no_object : Bool) (kind : Kind)
    → Node_finds at (when mismatch Mismatch ++ when (is_none l || no_object) NotLvalue) (breaks mismatch Mismatch at (address_of l kind at) >>= λ y. of_object no_object at y)
address_by at true None no_object kind = refl
address_by at true (Some l) true kind = refl
address_by at true (Some l) false kind = refl
address_by at false None no_object kind = refl
address_by at false (Some (Named v place)) true kind = refl
address_by at false (Some (Named v place)) false kind = refl
address_by at false (Some (At e place)) true kind = refl
address_by at false (Some (At e place)) false kind = refl

-- an operator that writes nothing
broken_here : (at : ℕ) (rule : Rule) (place : ℕ) → Mismatches {A = Expr} at (Broken rule place) → Node_finds {A = Expr} at (rule ∷ []) (Broken rule place)
broken_here at rule place only = finds_mismatch _ only

read : (at : ℕ) (o : Outcome Expr) → Mismatches at o → Node_finds at (rule_of o) (o >>= λ y. of_object false at y)
read at (Is x) only = refl
read at (Broken rule place) only = broken_here at rule place only

pub prefix_find : (o : PrefixOp) (is_array no_object : Bool) (at : ℕ) (x : Expr)
    → Node_finds at (prefix_rules o is_array no_object at x) (prefixed o is_array at x >>= λ y. of_object (takes_address o && no_object) at y)
prefix_find prefix.Address is_array no_object at x = address_by at _ (lvalue_of x) no_object (kind_of x)
prefix_find prefix.Pointed is_array no_object at x = read at _ (loaded_only at x)
prefix_find prefix.Plus is_array no_object at x = read at _ (unary_only at unary_op.Plus x)
prefix_find prefix.Minus is_array no_object at x = read at _ (unary_only at unary_op.Minus x)
prefix_find prefix.Complement is_array no_object at x = read at _ (unary_only at unary_op.Complement x)
prefix_find prefix.Not is_array no_object at x = read at _ (negated_only at x)

-- assignments
by_mismatch : (at place : ℕ) (rule : Rule) → rule ≡ Mismatch → place ≡ at → ◌≡◌ {A = Option BrokenRule} (Some (record { rule = Mismatch; at = at })) (Some (record { rule = rule; at = place }))
by_mismatch at place rule same here = ap (λ r. Some (record { rule = r; at = at })) (sym same) ∙ ap (λ n. Some (record { rule = rule; at = n })) (sym here)

mismatch_least : (at : ℕ) (b : Bool) (rule : Rule) → first (visit at (Mismatch ∷ when b NotLvalue) ∷ []) ≡ Some (record { rule = Mismatch; at = at })
mismatch_least at true rule = refl
mismatch_least at false rule = refl

assign_by : (at : ℕ) (o : Outcome Expr) (l : Option Lvalue) (no_object : Bool) (node : Expr → Lvalue → Expr) → Mismatches at o
    → Node_finds at (when (is_broken o) Mismatch ++ when (is_none l || no_object) NotLvalue) ((o >>= λ v. written at l (node v)) >>= λ z. of_object no_object at z)
assign_by at (Is v) l no_object node only = written_by at false l no_object (node v)
assign_by at (Broken rule place) l no_object node only = mismatch_least at (is_none l || no_object) rule ∙ by_mismatch at place rule only.holds.0 only.holds.1

assigned_find : (kind : Kind) (at : ℕ) (no_object : Bool) (x : Expr) (y : Operand)
    → Node_finds at (when (misfits kind at y) Mismatch ++ object_rules no_object x) (assigned_as kind at x y >>= λ z. of_object no_object at z)
assigned_find None at no_object x y = mismatch_least at (is_none (lvalue_of x) || no_object) Mismatch
assigned_find (Some kind) at no_object x y = assign_by at (given kind at y) (lvalue_of x) no_object _ (given_only at kind y)

pub assign_find : (at : ℕ) (no_object : Bool) (x : Expr) (y : Operand) → Node_finds at (assign_rules no_object at x y) (assigned at x y >>= λ z. of_object no_object at z)
assign_find at no_object x y = assigned_find (kind_of x) at no_object x y

-- calls
left_over : (at : ℕ) (void : Bool) → Node_finds {A = Exprs} at (when void Mismatch ++ ArgCount ∷ []) (breaks void Mismatch at (Broken ArgCount at))
left_over at true = refl
left_over at false = refl

misfit_least : (at : ℕ) (c : Bool) (rule : Rule) → first (visit at (Mismatch ∷ when c ArgCount) ∷ []) ≡ Some (record { rule = Mismatch; at = at })
misfit_least at true rule = refl
misfit_least at false rule = refl

one_more : (at : ℕ) (o : Outcome Expr) (p : Outcome Exprs) (m c : Bool) → Mismatches at o → Node_finds at (when m Mismatch ++ when c ArgCount) p
    → Node_finds at (when (is_broken o || m) Mismatch ++ when c ArgCount) (o >>= λ v. p >>= λ vs. Is (more v vs))
one_more at (Is v) p m c only rest = mapped (visit at (when m Mismatch ++ when c ArgCount) ∷ []) p _ rest
one_more at (Broken rule place) p m c only rest = misfit_least at c rule ∙ by_mismatch at place rule only.holds.0 only.holds.1

passed_find : (at : ℕ) (kinds : List ScalarType) (xs : List Operand)
    → Node_finds at (when (any_misfit kinds at xs) Mismatch ++ when (other_count kinds xs) ArgCount) (passed kinds at xs)
passed_find at [] [] = refl
passed_find at [] (x ∷ xs) = left_over at (any_void (x ∷ xs))
passed_find at (kind ∷ kinds) [] = refl
passed_find at (kind ∷ kinds) (x ∷ xs) =
    one_more at (given kind at x) (passed kinds at xs) (any_misfit kinds at xs) (other_count kinds xs) (given_only at kind x) (passed_find at kinds xs)

undeclared_least : (at : ℕ) (b : Bool) → Node_finds {A = Expr} at (Undeclared ∷ when b Mismatch) (Broken Undeclared at)
undeclared_least at true = refl
undeclared_least at false = refl

function_find : (n : ℕ) (m : Option Meaning) (at : ℕ) (xs : List Operand) → Node_finds at (called_rules m at xs) (typed_call n m at xs)
function_find n None at xs = undeclared_least at (any_void xs)
function_find n (Some (meanings.Object r type)) at xs = refl
function_find n (Some (meanings.Function type)) at xs = mapped (visit at (called_rules (Some (meanings.Function type)) at xs) ∷ []) (passed type.parameters at xs) _ (passed_find at type.parameters xs)

input_by : (at port : ℕ) (a b : Bool) (xs : List Operand) (e : Expr)
    → Node_finds at (when a Mismatch ++ (when b BadPort ++ when (any_behind xs) ArgCount)) (breaks a Mismatch at (breaks b BadPort at (no_more at xs (Is e))))
input_by at port true true [] e = refl
input_by at port true true (x ∷ xs) e = refl
input_by at port true false [] e = refl
input_by at port true false (x ∷ xs) e = refl
input_by at port false true [] e = refl
input_by at port false true (x ∷ xs) e = refl
input_by at port false false [] e = refl
input_by at port false false (x ∷ xs) e = refl

output_by : (at port : ℕ) (a b : Bool) (xs : List Operand)
    → Node_finds at (when a Mismatch ++ (when b BadPort ++ when (isnt_one xs) ArgCount)) (breaks a Mismatch at (breaks b BadPort at (sent at port xs)))
output_by at port true true [] = refl
output_by at port true true (x ∷ []) = refl
output_by at port true true (x ∷ y ∷ xs) = refl
output_by at port true false [] = refl
output_by at port true false (x ∷ []) = refl
output_by at port true false (x ∷ y ∷ xs) = refl
output_by at port false true [] = refl
output_by at port false true (x ∷ []) = refl
output_by at port false true (x ∷ y ∷ xs) = refl
output_by at port false false [] = refl
output_by at port false false (x ∷ []) = refl
output_by at port false false (x ∷ y ∷ xs) = refl

port_by : (at : ℕ) (b : Bool) (rules others : List Rule) (o p : Outcome Expr) → Node_finds at rules o → Node_finds at others p → Node_finds at (if b then rules else others) (if b then o else p)
port_by at true rules others o p one other = one
port_by at false rules others o p one other = other

pub call_find : (s : Scope) (name : List ℕ) (at : ℕ) (a : Arguments) → Node_finds at (call_rules s name at a) (call_of s name at a)
call_find s name at (Operands xs) = function_find _ (s.meaning name) at xs
call_find s name at NoPort = refl
call_find s name at (Port class port xs) = port_by at (is_in name) _ _ _ _ (input_by at port _ _ xs _) (output_by at port _ _ xs)
