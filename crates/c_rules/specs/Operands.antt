-- What each operator makes of typed operands: ISO 9899:1990 6.3.2 to 6.3.17, with the conversions of 6.2.1 and 6.2.2
-- (docs/LANGUAGE.md, "Types"). `at` is the place of the operator's node, of which a rule that is broken is one.
use Rattle.std.specs.Prelude.{ℕ, ◌&&◌, ◌||◌, not, nat_lt, Bool, true, false, if◌then◌else◌, List, [], ◌∷◌, Option, Some, None}
use Rattle.c_tree.specs.declared.program.ScalarType.{ScalarType}
use Rattle.c_tree.specs.c_syntax.declared.operator.UnaryOp.{UnaryOp}
use Rattle.c_tree.specs.c_syntax.declared.operator.BinaryOp.{BinaryOp}
use Rattle.c_tree.specs.c_syntax.declared.operator.BinaryOp.TheVariants as op
use Rattle.c_tree.specs.TypedTree.{Kind, Expr, Node, Lvalue, Named, At, Const, Read, AddressOf, Load, Unary, Binary, And, Or, Not, Pick, Assign, AssignOp, StepBefore, StepAfter, In, Out, Comma, Convert, Exprs, none, more}
use Rattle.c_tree.specs.Eval.{kind_of, expression_place}
use Rattle.c_tree.specs.WellFormed.{is_comparison}
pub use Rattle.c_tree.specs.WellFormed.{moves}
use Rattle.c_rules.specs.declared.fault.Rule.TheVariants.{Mismatch, NotLvalue, LongConstant, BadPort, ArgCount}
use Rattle.c_rules.specs.declared.class.Class.{Class}
use Rattle.c_rules.specs.declared.class.Class.TheVariants.{Nothing, Integer, Pointer}
use Rattle.c_rules.specs.Outcome.{Outcome, Is, Broken, ◌>>=◌, breaks}
use Rattle.c_rules.specs.Kinds.{int, unsigned, void_pointer, class_of, is_void, same_type, same_kind, is_void_pointer, common, pointer_to, pointed}

-- an operand, and whether its text is that of a null pointer
pub record Operand : Type 0 where
  pub value : Expr
  pub null : Bool

abbrev pub class_at : Operand → Class
class_at x = class_of (kind_of x.value)

-- a value as one of this type: a conversion stands where the types differ
abbrev pub converted : ScalarType → Expr → Expr
converted kind e = if same_kind (kind_of e) (Some kind) then e else Node (Convert e) (Some kind) (expression_place e)

-- the null pointer of a type, in the place of a value
abbrev pub null_of : ScalarType → Expr → Expr
null_of kind e = Node (Const 0) (Some kind) (expression_place e)

-- constants: 6.1.3.2
abbrev pub typed_number : ℕ → Bool → Bool → ℕ → Outcome Expr
typed_number value marked decimal at =
    if nat_lt 65535 value then Broken LongConstant at
    else if marked then Is (Node (Const value) (Some unsigned) at)
    else if nat_lt value 32768 then Is (Node (Const value) (Some int) at)
    else if decimal then Broken LongConstant at
    else Is (Node (Const value) (Some unsigned) at)

-- a pointer where one of this type is wanted
abbrev pub pointer_given : ScalarType → ℕ → Operand → Outcome Expr
pointer_given kind at x =
    if x.null then Is (null_of kind x.value)
    else if is_void_pointer (Some kind) || is_void_pointer (kind_of x.value) then Is (converted kind x.value)
    else breaks (not (same_kind (kind_of x.value) (Some kind))) Mismatch at (Is x.value)

-- what a value gives where one of this type is wanted: 6.3.16.1
abbrev pub given_as : Class → Class → ScalarType → ℕ → Operand → Outcome Expr
given_as Integer Integer kind at x = Is (converted kind x.value)
given_as Pointer Integer kind at x = breaks (not x.null) Mismatch at (Is (null_of kind x.value))
given_as Pointer Pointer kind at x = pointer_given kind at x
given_as wanted class kind at x = Broken Mismatch at

abbrev pub given : ScalarType → ℕ → Operand → Outcome Expr
given kind at x = given_as (class_of (Some kind)) (class_at x) kind at x

-- two values of one type
pub record Pair : Type 0 where
  pub left : Expr
  pub right : Expr

abbrev pub common_of : Kind → Kind → ScalarType
common_of (Some a) (Some b) = common a b
common_of a b = int

-- two integers as their common type: 6.2.1.5
abbrev pub balanced : Expr → Expr → Pair
balanced x y = record {
  left = converted (common_of (kind_of x) (kind_of y)) x;
  right = converted (common_of (kind_of x) (kind_of y)) y;
}

-- a value as one of the type of another
abbrev pub null_like : Expr → Expr → Expr
null_like (Node form None at) y = y
null_like (Node form (Some kind) at) y = null_of kind y

abbrev pub converted_like : Expr → Expr → Expr
converted_like (Node form None at) y = y
converted_like (Node form (Some kind) at) y = converted kind y

-- two pointers as one type: a null pointer takes the other's type, and beside a void pointer the other is converted
abbrev pub pointers_met : ℕ → Operand → Operand → Outcome Pair
pointers_met at x y =
    if same_kind (kind_of x.value) (kind_of y.value) then Is (record { left = x.value; right = y.value })
    else if y.null then Is (record { left = x.value; right = null_like x.value y.value })
    else if x.null then Is (record { left = null_like y.value x.value; right = y.value })
    else if is_void_pointer (kind_of x.value) then Is (record { left = x.value; right = converted_like x.value y.value })
    else breaks (not (is_void_pointer (kind_of y.value))) Mismatch at (Is (record { left = converted_like y.value x.value; right = y.value }))

-- two values as one type: integers, or pointers, of which one may be null
abbrev pub met_as : Class → Class → ℕ → Operand → Operand → Outcome Pair
met_as Integer Integer at x y = Is (balanced x.value y.value)
met_as Pointer Pointer at x y = pointers_met at x y
met_as Pointer Integer at x y = breaks (not y.null) Mismatch at (Is (record { left = x.value; right = null_like x.value y.value }))
met_as Integer Pointer at x y = breaks (not x.null) Mismatch at (Is (record { left = null_like y.value x.value; right = y.value }))
met_as c d at x y = Broken Mismatch at

abbrev pub met : ℕ → Operand → Operand → Outcome Pair
met at x y = met_as (class_at x) (class_at y) at x y

-- an operator on two integers, whose value has their common type, or that of an int
abbrev pub on_pair : BinaryOp → ℕ → Kind → Pair → Expr
on_pair o at kind p = Node (Binary o p.left p.right) kind at

abbrev pub calculated : BinaryOp → ℕ → Pair → Expr
calculated o at p = on_pair o at (kind_of p.left) p

-- `* / %` and `& ^ |`: 6.3.5 and 6.3.10 to 6.3.12
abbrev pub product_as : Class → Class → BinaryOp → ℕ → Expr → Expr → Outcome Expr
product_as Integer Integer o at x y = Is (calculated o at (balanced x y))
product_as c d o at x y = Broken Mismatch at

-- `+`: 6.3.6
abbrev pub sum_as : Class → Class → ℕ → Expr → Expr → Outcome Expr
sum_as Integer Integer at x y = Is (calculated op.Add at (balanced x y))
sum_as Pointer Integer at x y = Is (Node (Binary op.Add x y) (kind_of x) at)
sum_as Integer Pointer at x y = Is (Node (Binary op.Add x y) (kind_of y) at)
sum_as c d at x y = Broken Mismatch at

abbrev pub sum : ℕ → Expr → Expr → Outcome Expr
sum at x y = sum_as (class_of (kind_of x)) (class_of (kind_of y)) at x y

-- two pointers of one type under an operator that gives an int
abbrev pub pointers : BinaryOp → ℕ → Expr → Expr → Outcome Expr
pointers o at x y = breaks (not (same_kind (kind_of x) (kind_of y))) Mismatch at (Is (Node (Binary o x y) (Some int) at))

-- `-`: 6.3.6
abbrev pub difference_as : Class → Class → ℕ → Expr → Expr → Outcome Expr
difference_as Integer Integer at x y = Is (calculated op.Sub at (balanced x y))
difference_as Pointer Integer at x y = Is (Node (Binary op.Sub x y) (kind_of x) at)
difference_as Pointer Pointer at x y = pointers op.Sub at x y
difference_as c d at x y = Broken Mismatch at

-- shifts: 6.3.7; the value has the type of the left operand
abbrev pub shift_as : Class → Class → BinaryOp → ℕ → Expr → Expr → Outcome Expr
shift_as Integer Integer o at x y = Is (Node (Binary o x y) (kind_of x) at)
shift_as c d o at x y = Broken Mismatch at

-- `< > <= >=`: 6.3.8
abbrev pub order_as : Class → Class → BinaryOp → ℕ → Expr → Expr → Outcome Expr
order_as Integer Integer o at x y = Is (on_pair o at (Some int) (balanced x y))
order_as Pointer Pointer o at x y = pointers o at x y
order_as c d o at x y = Broken Mismatch at

-- `==` and `!=`: 6.3.9
abbrev pub typed_equality : BinaryOp → ℕ → Operand → Operand → Outcome Expr
typed_equality o at x y = met at x y >>= λ p. Is (on_pair o at (Some int) p)

-- an operator between two operands of these classes
abbrev pub binary_as : BinaryOp → Class → Class → ℕ → Operand → Operand → Outcome Expr
binary_as op.Add c d at x y = sum_as c d at x.value y.value
binary_as op.Sub c d at x y = difference_as c d at x.value y.value
binary_as op.Mul c d at x y = product_as c d op.Mul at x.value y.value
binary_as op.Div c d at x y = product_as c d op.Div at x.value y.value
binary_as op.Rem c d at x y = product_as c d op.Rem at x.value y.value
binary_as op.And c d at x y = product_as c d op.And at x.value y.value
binary_as op.Or c d at x y = product_as c d op.Or at x.value y.value
binary_as op.Xor c d at x y = product_as c d op.Xor at x.value y.value
binary_as op.Shl c d at x y = shift_as c d op.Shl at x.value y.value
binary_as op.Shr c d at x y = shift_as c d op.Shr at x.value y.value
binary_as op.Eq c d at x y = typed_equality op.Eq at x y
binary_as op.Ne c d at x y = typed_equality op.Ne at x y
binary_as op.Lt c d at x y = order_as c d op.Lt at x.value y.value
binary_as op.Gt c d at x y = order_as c d op.Gt at x.value y.value
binary_as op.Le c d at x y = order_as c d op.Le at x.value y.value
binary_as op.Ge c d at x y = order_as c d op.Ge at x.value y.value

abbrev pub binary : BinaryOp → ℕ → Operand → Operand → Outcome Expr
binary o at x y = binary_as o (class_at x) (class_at y) at x y

-- `+ - ~` before an integer: 6.3.3.3
abbrev pub unary_as : Class → UnaryOp → ℕ → Expr → Outcome Expr
unary_as Integer o at x = Is (Node (Unary o x) (kind_of x) at)
unary_as c o at x = Broken Mismatch at

abbrev pub unary : UnaryOp → ℕ → Expr → Outcome Expr
unary o at x = unary_as (class_of (kind_of x)) o at x

-- `!`, `&&` and `||` of values that may be tested: 6.3.3.3, 6.3.13 and 6.3.14
abbrev pub negated : ℕ → Expr → Outcome Expr
negated at x = breaks (is_void (kind_of x)) Mismatch at (Is (Node (Not x) (Some int) at))

abbrev pub both_true : ℕ → Expr → Expr → Outcome Expr
both_true at x y = breaks (is_void (kind_of x) || is_void (kind_of y)) Mismatch at (Is (Node (And x y) (Some int) at))

abbrev pub either_true : ℕ → Expr → Expr → Outcome Expr
either_true at x y = breaks (is_void (kind_of x) || is_void (kind_of y)) Mismatch at (Is (Node (Or x y) (Some int) at))

-- one of two arms: 6.3.15
abbrev pub arms_as : Class → Class → ℕ → Operand → Operand → Outcome Pair
arms_as Nothing Nothing at x y = Is (record { left = x.value; right = y.value })
arms_as c d at x y = met_as c d at x y

abbrev pub picked : ℕ → Expr → Operand → Operand → Outcome Expr
picked at test x y = breaks (is_void (kind_of test)) Mismatch at
    (arms_as (class_at x) (class_at y) at x y >>= λ p. Is (Node (Pick test p.left p.right) (kind_of p.left) at))

-- what may be written: the object of a name, or what a pointer points to
abbrev pub lvalue_of : Expr → Option Lvalue
lvalue_of (Node (Read v) kind at) = Some (Named v at)
lvalue_of (Node (Load e) kind at) = Some (At e at)
lvalue_of e = None

abbrev pub written : ℕ → Option Lvalue → (Lvalue → Expr) → Outcome Expr
written at None node = Broken NotLvalue at
written at (Some l) node = Is (node l)

-- `=`: 6.3.16.1
abbrev pub assigned_as : Kind → ℕ → Expr → Operand → Outcome Expr
assigned_as None at x y = Broken Mismatch at
assigned_as (Some kind) at x y = given kind at y >>= λ v. written at (lvalue_of x) (λ l. Node (Assign l v) (Some kind) at)

abbrev pub assigned : ℕ → Expr → Operand → Outcome Expr
assigned at x y = assigned_as (kind_of x) at x y

-- whether `op=` takes operands of these classes: 6.3.16.2. No comparison has this form.
abbrev pub takes : BinaryOp → Class → Class → Bool
takes o Integer Integer = not (is_comparison o)
takes o Pointer Integer = moves o
takes o c d = false

-- `op=`: the value keeps its own type
abbrev pub assigned_by : BinaryOp → ℕ → Expr → Expr → Outcome Expr
assigned_by o at x y = breaks (not (takes o (class_of (kind_of x)) (class_of (kind_of y)))) Mismatch at
    (written at (lvalue_of x) (λ l. Node (AssignOp o l y) (kind_of x) at))

-- `++` and `--`: 6.3.3.1 and 6.3.2.4
abbrev pub stepped_before : Bool → ℕ → Expr → Outcome Expr
stepped_before up at x = breaks (is_void (kind_of x)) Mismatch at (written at (lvalue_of x) (λ l. Node (StepBefore up l) (kind_of x) at))

abbrev pub stepped_after : Bool → ℕ → Expr → Outcome Expr
stepped_after up at x = breaks (is_void (kind_of x)) Mismatch at (written at (lvalue_of x) (λ l. Node (StepAfter up l) (kind_of x) at))

-- `&`: 6.3.3.2; that of what a pointer points to is the pointer itself
abbrev pub address_kind : Kind → Kind
address_kind None = None
address_kind (Some kind) = Some (pointer_to kind)

abbrev pub address_of : Option Lvalue → Kind → ℕ → Outcome Expr
address_of None kind at = Broken NotLvalue at
address_of (Some (Named v place)) kind at = Is (Node (AddressOf v) (address_kind kind) at)
address_of (Some (At e place)) kind at = Is e

abbrev pub address : Bool → ℕ → Expr → Outcome Expr
address is_array at x = breaks (is_array || is_void (kind_of x)) Mismatch at (address_of (lvalue_of x) (kind_of x) at)

-- `*`: 6.3.3.2
abbrev pub loaded_as : Kind → ℕ → Expr → Outcome Expr
loaded_as None at x = Broken Mismatch at
loaded_as (Some kind) at x = Is (Node (Load x) (Some kind) at)

abbrev pub target_of : Kind → Class → Kind
target_of (Some kind) Pointer = pointed kind
target_of kind class = None

abbrev pub loaded : ℕ → Expr → Outcome Expr
loaded at x = loaded_as (target_of (kind_of x) (class_of (kind_of x))) at x

-- `e[i]`: 6.3.2.1
abbrev pub indexed : ℕ → Expr → Expr → Outcome Expr
indexed at x y = sum at x y >>= loaded at

-- a cast: 6.3.4; between integers, between pointers, to void, and of 0 to a void pointer
abbrev pub cast_as : Class → Class → ScalarType → ℕ → Operand → Outcome Expr
cast_as Integer Integer kind at x = Is (Node (Convert x.value) (Some kind) at)
cast_as Pointer Pointer kind at x = Is (Node (Convert x.value) (Some kind) at)
cast_as Pointer Integer kind at x = breaks (not (x.null && same_type kind void_pointer)) Mismatch at (Is (Node (Const 0) (Some kind) at))
cast_as c d kind at x = Broken Mismatch at

abbrev pub cast : Kind → ℕ → Operand → Outcome Expr
cast None at x = Is (Node (Convert x.value) None at)
cast (Some kind) at x = cast_as (class_of (Some kind)) (class_at x) kind at x

-- a comma: 6.3.17
abbrev pub typed_comma : ℕ → Expr → Expr → Expr
typed_comma at x y = Node (Comma x y) (kind_of y) at

-- `sizeof`: 6.3.3.4; the length of an array, or one word
abbrev pub sized : Option ℕ → ℕ → Expr → Outcome Expr
sized (Some length) at x = Is (Node (Const length) (Some unsigned) at)
sized None at x = breaks (is_void (kind_of x)) Mismatch at (Is (Node (Const 1) (Some unsigned) at))

-- arguments: 6.3.2.2
abbrev pub any_void : List Operand → Bool
any_void [] = false
any_void (x ∷ xs) = is_void (kind_of x.value) || any_void xs

abbrev pub passed : List ScalarType → ℕ → List Operand → Outcome Exprs
passed [] at [] = Is none
passed [] at (x ∷ xs) = breaks (any_void (x ∷ xs)) Mismatch at (Broken ArgCount at)
passed (kind ∷ kinds) at [] = Broken ArgCount at
passed (kind ∷ kinds) at (x ∷ xs) = given kind at x >>= λ v. passed kinds at xs >>= λ vs. Is (more v vs)

-- `__in` of a port, and of operands behind it
abbrev pub is_integer : Class → Bool
is_integer Integer = true
is_integer Pointer = false
is_integer Nothing = false

abbrev pub no_more : ℕ → List Operand → Outcome Expr → Outcome Expr
no_more at [] next = next
no_more at (x ∷ xs) next = Broken ArgCount at

abbrev pub input : ℕ → Class → ℕ → List Operand → Outcome Expr
input at class port xs = breaks (not (is_integer class) || any_void xs) Mismatch at
    (breaks (nat_lt 15 port) BadPort at (no_more at xs (Is (Node (In port) (Some int) at))))

-- `__out` of a port and of a word
abbrev pub is_word_first : List Operand → Bool
is_word_first [] = true
is_word_first (x ∷ xs) = is_integer (class_at x)

abbrev pub sent : ℕ → ℕ → List Operand → Outcome Expr
sent at port [] = Broken ArgCount at
sent at port (x ∷ xs) = no_more at xs (Is (Node (Out port x.value) None at))

abbrev pub output : ℕ → Class → ℕ → List Operand → Outcome Expr
output at class port xs = breaks (not (is_integer class) || not (is_word_first xs) || any_void xs) Mismatch at
    (breaks (nat_lt 15 port) BadPort at (sent at port xs))
