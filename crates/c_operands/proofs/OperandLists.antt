-- Lists of operands in memory.
use Rattle.std.proofs.Common.{◌≡◌, ◌≢◌, Bool, true, false, None, Some, List, [], ◌∷◌, ◌++◌, ◌||◌, ℕ, ◌+◌, ◌<◌, ◌≤◌, map, drop, get_or, length, refl, ap, ◌∙◌, sym}
use Rattle.std.proofs.Math.ListN.{drop_of_length-le}
use Rattle.std.proofs.lemmas.List.{drop_more}
use Rattle.c_tree.specs.declared.program.ScalarType.{ScalarType}
use Rattle.c_rules.specs.declared.fault.Rule.TheVariants.{ArgCount, Mismatch}
use Rattle.c_rules.specs.declared.fault.Refusal.{Refusal}
use Rattle.c_rules.specs.declared.fault.Refusal.TheVariants as refusals
use Rattle.c_rules.specs.declared.class.Class.{Class}
use Rattle.c_rules.specs.declared.class.Class.TheVariants.{Nothing, Integer, Pointer}
use Rattle.std.specs.List.{list_any}
use Rattle.c_tree.specs.declared.typed_expression.TypedExpr.{TypedExpr}
use Rattle.c_tree.specs.TypedTree.{Exprs, none, more}
use Rattle.c_tree.specs.View.{expr_of, argument_list}
use Rattle.c_conversions.specs.declared.conversions.Operand.{Operand}
use Rattle.c_rules.specs.Outcome.{Outcome, Is, Broken, ◌>>=◌}
use Rattle.c_rules.specs.Kinds.{class_of, is_void, int}
use Rattle.c_rules.specs.Operands.{any_void, given, given_as, passed}
use Rattle.c_tree.specs.TypedTree.{Kind}
use Rattle.c_rules.specs.Answers.{Refuses}
use Rattle.c_rules.specs.Operands as pure
use Rattle.c_conversions.specs.OperandView.{operand_of}

-- whether one of them is void
pub any_void_of : (xs : List Operand) → list_any (λ x. is_void x.value.kind) xs ≡ any_void (map operand_of xs)
any_void_of [] = refl
any_void_of (x ∷ xs) = ap (λ b. is_void x.value.kind || b) (any_void_of xs)

-- the arguments of a call, of a list of them and of those behind it
abbrev pub appended : List TypedExpr → Exprs → Exprs
appended [] es = es
appended (v ∷ vs) es = more (expr_of v) (appended vs es)

-- what all arguments come to, where these came first
abbrev pub passed_after : List TypedExpr → Outcome Exprs → Outcome Exprs
passed_after vs rest = rest >>= λ es. Is (appended vs es)

-- one more
appended_more : (vs : List TypedExpr) (v : TypedExpr) (es : Exprs) → appended vs (more (expr_of v) es) ≡ appended (vs ++ v ∷ []) es
appended_more [] v es = refl
appended_more (w ∷ vs) v es = ap (more (expr_of w)) (appended_more vs v es)

pub one_more_passed : (vs : List TypedExpr) (v : TypedExpr) (rest : Outcome Exprs) → passed_after vs (rest >>= λ es. Is (more (expr_of v) es)) ≡ passed_after (vs ++ v ∷ []) rest
one_more_passed vs v (Is es) = ap Is (appended_more vs v es)
one_more_passed vs v (Broken rule at) = refl

-- none at first, and none behind
pub none_passed : (rest : Outcome Exprs) → passed_after [] rest ≡ rest
none_passed (Is es) = refl
none_passed (Broken rule at) = refl

pub all_passed : (vs : List TypedExpr) → appended vs none ≡ argument_list vs
all_passed [] = refl
all_passed (v ∷ vs) = ap (more (expr_of v)) (all_passed vs)

-- one argument as one of the type of its parameter, and the others behind it
passed_step : (kind : ScalarType) (kinds : List ScalarType) (at : ℕ) (vs : List TypedExpr) (x : Operand) (xs : List Operand) (v : TypedExpr) → given kind at (operand_of x) ≡ Is (expr_of v) → passed_after vs (passed (kind ∷ kinds) at (operand_of x ∷ map operand_of xs)) ≡ passed_after (vs ++ v ∷ []) (passed kinds at (map operand_of xs))
passed_step kind kinds at vs x xs v h = rw h (one_more_passed vs v (passed kinds at (map operand_of xs)))

passed_turn : (kinds : List ScalarType) (i : ℕ) (at : ℕ) (other : ScalarType) (vs : List TypedExpr) (x : Operand) (xs : List Operand) (v : TypedExpr) → i < length kinds → given (get_or kinds i other) at (operand_of x) ≡ Is (expr_of v) → passed_after vs (passed (drop i kinds) at (operand_of x ∷ map operand_of xs)) ≡ passed_after (vs ++ v ∷ []) (passed (drop (i + 1) kinds) at (map operand_of xs))
passed_turn kinds i at other vs x xs v below h = rw (drop_more kinds i other below) (passed_step (get_or kinds i other) (drop (i + 1) kinds) at vs x xs v h)

-- one turn of the loop over the parameters
pub turn_of : (kinds : List ScalarType) (i : ℕ) (at : ℕ) (other : ScalarType) (vs : List TypedExpr) (x : Operand) (xs : List Operand) (v : TypedExpr) (all : Outcome Exprs) (ws : List TypedExpr) (ys : List Operand) → i < length kinds → given (get_or kinds i other) at (operand_of x) ≡ Is (expr_of v) → all ≡ passed_after vs (passed (drop i kinds) at (map operand_of ys)) → ys ≡ x ∷ xs → ws ≡ vs ++ v ∷ [] → all ≡ passed_after ws (passed (drop (i + 1) kinds) at (map operand_of xs))
turn_of kinds i at other vs x xs v all ws ys below h before taken put = rw (before, taken, put) (passed_turn kinds i at other vs x xs v below h)

-- too few arguments
pub too_few : (kinds : List ScalarType) (i : ℕ) (at : ℕ) (vs : List TypedExpr) (all : Outcome Exprs) (ys : List Operand) → i < length kinds → all ≡ passed_after vs (passed (drop i kinds) at (map operand_of ys)) → ys ≡ [] → all ≡ Broken ArgCount at
too_few kinds i at vs all ys below before taken = rw (before, taken, drop_more kinds i int below)

-- as many as there are parameters
pub all_given : (kinds : List ScalarType) (i : ℕ) (at : ℕ) (vs : List TypedExpr) (all : Outcome Exprs) (ys : List Operand) → length kinds ≤ i → all ≡ passed_after vs (passed (drop i kinds) at (map operand_of ys)) → ys ≡ [] → all ≡ Is (argument_list vs)
all_given kinds i at vs all ys above before taken = rw (before, taken, drop_of_length-le kinds above) (ap Is (all_passed vs))

-- nothing is given by a void operand
nothing_given : (wanted : Class) (kind : ScalarType) (at : ℕ) (x : pure.Operand) → given_as wanted Nothing kind at x ≡ Broken Mismatch at
nothing_given Nothing kind at x = refl
nothing_given Integer kind at x = refl
nothing_given Pointer kind at x = refl

not_void : (k : Kind) (kind : ScalarType) (at : ℕ) (x : pure.Operand) (v : _) → given_as (class_of (Some kind)) (class_of k) kind at x ≡ Is v → is_void k ≡ false
not_void None kind at x v h = absurd (cc (sym (nothing_given (class_of (Some kind)) kind at x) ∙ h))
not_void (Some k) kind at x v h = refl

-- so whether one is void is known by those behind what is passed
pub void_behind : (kind : ScalarType) (at : ℕ) (x : Operand) (v : TypedExpr) (xs ys : List Operand) (void : Bool) → given kind at (operand_of x) ≡ Is (expr_of v) → ys ≡ x ∷ xs
    → void ≡ any_void (map operand_of ys) → void ≡ any_void (map operand_of xs)
void_behind kind at x v xs ys void passes taken known =
    known ∙ ap (λ l. any_void (map operand_of l)) taken
    ∙ ap (λ b. b || any_void (map operand_of xs)) (not_void x.value.kind kind at (operand_of x) (expr_of v) passes)

-- more arguments than there are parameters
left_over : (at : ℕ) (vs : List TypedExpr) (ys : List Operand) (void : Bool) (f : Refusal) → length ys ≢ 0 → void ≡ any_void (map operand_of ys)
    → (void ≡ true → f ≡ refusals.Broken Mismatch at) → (void ≡ false → f ≡ refusals.Broken ArgCount at) → Refuses (passed_after vs (passed [] at (map operand_of ys))) f
left_over at vs [] void f some known void_is count_is = absurd (some refl)
left_over at vs (y ∷ ys) true f some known void_is count_is = rw (void_is refl, sym known) refl
left_over at vs (y ∷ ys) false f some known void_is count_is = rw (count_is refl, sym known) refl

pub too_many : (kinds : List ScalarType) (i : ℕ) (at : ℕ) (vs : List TypedExpr) (all : Outcome Exprs) (ys : List Operand) (void : Bool) (f : Refusal) → length kinds ≤ i
    → all ≡ passed_after vs (passed (drop i kinds) at (map operand_of ys)) → length ys ≢ 0 → void ≡ any_void (map operand_of ys)
    → (void ≡ true → f ≡ refusals.Broken Mismatch at) → (void ≡ false → f ≡ refusals.Broken ArgCount at) → Refuses all f
too_many kinds i at vs all ys void f above before some known void_is count_is =
    rw (before, drop_of_length-le kinds above) (left_over at vs ys void f some known void_is count_is)
