-- The rules that type expressions, where names and places are others.
use Rattle.std.proofs.Common.{◌≡◌, ℕ, ◌+◌, ◌&&◌, ◌||◌, not, List, [], ◌∷◌, map, Bool, if◌then◌else◌, is_some, Option, Some, None, codes, refl, sym, ap, ◌∙◌}
use Rattle.std.specs.List.{position_or_len, prefix_len}
use Rattle.std.specs.Str.{bytes_eq}
use Rattle.c_tree.specs.declared.program.Base.{Base}
use Rattle.c_tree.specs.c_syntax.declared.syntax.SpecWord.TheVariants as words
use Rattle.c_tree.specs.c_syntax.declared.operator.BinaryOp.{BinaryOp}
use Rattle.c_tree.specs.c_syntax.declared.operator.UnaryOp.TheVariants as unary_op
use Rattle.c_tree.specs.c_syntax.declared.syntax.PrefixOp.{PrefixOp}
use Rattle.c_tree.specs.c_syntax.declared.syntax.PrefixOp.TheVariants as prefix
use Rattle.c_tree.specs.c_syntax.SyntaxTree as tree
use Rattle.c_tree.specs.c_syntax.SyntaxTree.{SpecsTree, TypeTree, Expression, ExpressionForm, Expressions, no_argument, argument}
use Rattle.c_tree.specs.TypedTree.{Kind, Expr, Node, Const, Call, Exprs}
use Rattle.c_rules.specs.declared.fault.Rule.TheVariants.{Mismatch, NotLvalue, NotConstant, Misplaced}
use Rattle.c_rules.specs.declared.meaning.Meaning.{Meaning}
use Rattle.c_rules.specs.declared.meaning.Meaning.TheVariants as meanings
use Rattle.c_rules.specs.declared.meaning.ObjectType.TheVariants.{Single, Array}
use Rattle.c_rules.specs.Outcome.{Outcome, Is, Broken, ◌>>=◌, breaks, there_or}
use Rattle.c_rules.specs.Kinds.{unsigned, is_void, starred, class_of}
use Rattle.c_rules.specs.Operands.{Operand, binary, picked, assigned, cast, sized, passed, input, output}
use Rattle.c_rules.specs.Constants.{constant}
use Rattle.c_rules.specs.Scopes.{Scope, is_in, is_out, open_scope, declare, is_taken, no_names, length_of_array}
use Rattle.c_rules.specs.Typing.{has, is_spelling, base_of, spelled, plain, type_named, takes_address, of_object, prefixed, named_as, typed_name, bodies_before, typed_call}
use Rattle.c_rules.specs.Typing.{array_length, place, word_at, operand, Arguments, Operands, NoPort, Port, arguments_from, call_of, is_of_calls, no_constant, typing, typing_form}
use Rattle.c_rules.specs.Typing.{operands, port_arguments, as_constant, form_as_constant, arguments, constant_typing}
use Rattle.c_renaming.specs.Renaming.{Renaming, IsFaithful}
use Rattle.c_renaming.specs.RenamedTrees.{renamed_specs, renamed_type, renamed_expression, renamed_form, renamed_expressions}
use Rattle.c_renaming.specs.RenamedPrograms.{renamed_value, renamed_values}
use Rattle.c_renaming.proofs.OutcomeLemmas.{renamed_outcome, renamed_operand, IsScopeRenamed, bind_follows, there_or_same}
use Rattle.c_renaming.proofs.OperandLemmas.{if_follows, breaks_follows, kind_renamed, typed_number_renamed, unary_renamed, negated_renamed, binary_renamed, both_true_renamed}
use Rattle.c_renaming.proofs.OperandLemmas.{either_true_renamed, picked_renamed, assigned_renamed, assigned_by_renamed, stepped_before_renamed, stepped_after_renamed}
use Rattle.c_renaming.proofs.OperandLemmas.{address_renamed, loaded_renamed, indexed_renamed, cast_renamed, typed_comma_renamed, sized_renamed, passed_renamed, input_renamed}
use Rattle.c_renaming.proofs.OperandLemmas.{output_renamed}
use Rattle.c_renaming.proofs.ConstantLemmas.{constant_renamed, is_null_renamed, is_address_renamed, place_of_renamed}

-- what is typed of a call, with other names and places
abbrev pub renamed_arguments : Renaming → Arguments → Arguments
renamed_arguments r (Operands xs) = Operands (map (renamed_operand r) xs)
renamed_arguments r NoPort = NoPort
renamed_arguments r (Port class port xs) = Port class port (map (renamed_operand r) xs)

-- names
pub is_in_renamed : {r : Renaming} → IsFaithful r → (n : List ℕ) → is_in (r.name n) ≡ is_in n
is_in_renamed {r} faithful n = ap (λ (port : List ℕ). bytes_eq (r.name n) port) (sym faithful.port_in) ∙ faithful.same n (codes "__in")

pub is_out_renamed : {r : Renaming} → IsFaithful r → (n : List ℕ) → is_out (r.name n) ≡ is_out n
is_out_renamed {r} faithful n = ap (λ (port : List ℕ). bytes_eq (r.name n) port) (sym faithful.port_out) ∙ faithful.same n (codes "__out")

either_same : (a b c d : Bool) → a ≡ c → b ≡ d → (a || b) ≡ (c || d)
either_same a b c d p q = ap (λ (z : Bool). z || b) p ∙ ap (λ (z : Bool). c || z) q

pub is_port_renamed : {r : Renaming} → IsFaithful r → (n : List ℕ) → (is_in (r.name n) || is_out (r.name n)) ≡ (is_in n || is_out n)
is_port_renamed faithful n = either_same _ _ _ _ (is_in_renamed faithful n) (is_out_renamed faithful n)

prefix_same : (p q : List ℕ → Bool) (f : List ℕ → List ℕ) (ns : List (List ℕ)) → ((n : List ℕ) → p (f n) ≡ q n)
    → prefix_len p (map f ns) ≡ prefix_len q ns
prefix_same p q f [] same = refl
prefix_same p q f (n ∷ ns) same =
    ap (λ (b : Bool). if b then 1 + prefix_len p (map f ns) else 0) (same n)
    ∙ ap (λ (k : ℕ). if q n then 1 + k else 0) (prefix_same p q f ns same)

pub bodies_before_renamed : {r : Renaming} {s t : Scope} → IsFaithful r → IsScopeRenamed r s t → (n : List ℕ)
    → bodies_before t (r.name n) ≡ bodies_before s n
bodies_before_renamed {r} {s} {t} faithful scope n =
    ap (λ (bodies : List (List ℕ)). position_or_len (λ body. bytes_eq body (r.name n)) bodies) scope.bodies
    ∙ prefix_same (λ body. not (bytes_eq body (r.name n))) (λ body. not (bytes_eq body n)) r.name s.bodies (λ body. ap not (faithful.same body n))

-- scopes
pub no_names_renamed : (r : Renaming) (bodies : List (List ℕ)) → IsScopeRenamed r (no_names bodies) (no_names (map r.name bodies))
no_names_renamed r bodies = record { meaning = λ n. refl; here = λ n. refl; bodies = refl }

pub open_renamed : {r : Renaming} {s t : Scope} → IsScopeRenamed r s t → IsScopeRenamed r (open_scope s) (open_scope t)
open_renamed scope = record { meaning = scope.meaning; here = λ n. refl; bodies = scope.bodies }

pub declare_renamed : {r : Renaming} {s t : Scope} → IsFaithful r → IsScopeRenamed r s t → (name : List ℕ) (m : Meaning)
    → IsScopeRenamed r (declare s name m) (declare t (r.name name) m)
declare_renamed {r} {s} {t} faithful scope name m = record {
  meaning = λ n. ap (λ (b : Bool). if b then Some m else t.meaning (r.name n)) (faithful.same name n)
      ∙ ap (λ (o : Option Meaning). if bytes_eq name n then Some m else o) (scope.meaning n);
  here = λ n. either_same _ _ _ _ (faithful.same name n) (scope.here n);
  bodies = scope.bodies;
}

pub is_taken_renamed : {r : Renaming} {s t : Scope} → IsFaithful r → IsScopeRenamed r s t → (name : List ℕ)
    → is_taken t (r.name name) ≡ is_taken s name
is_taken_renamed faithful scope name = either_same _ _ _ _ (is_port_renamed faithful name) (scope.here name)

-- types
pub spelled_renamed : (r : Renaming) (specs : SpecsTree) → spelled (renamed_specs r specs) ≡ renamed_outcome r.place (λ (b : Base). b) (spelled specs)
spelled_renamed r specs = breaks_follows r.place (λ (b : Base). b) (not (is_spelling specs.words)) Mismatch specs.at (Is (base_of specs.words)) _ refl

pub plain_renamed : (r : Renaming) (specs : SpecsTree) → plain (renamed_specs r specs) ≡ renamed_outcome r.place (λ (b : Base). b) (plain specs)
plain_renamed r specs =
    bind_follows r.place (λ (b : Base). b) (λ (b : Base). b) (spelled specs) _
    (λ (b : Base). breaks (has words.Static specs.words) Misplaced specs.at (Is b))
    (λ (b : Base). breaks (has words.Static specs.words) Misplaced (r.place specs.at) (Is b))
    (spelled_renamed r specs)
    (λ b. breaks_follows r.place (λ (c : Base). c) (has words.Static specs.words) Misplaced specs.at (Is b) _ refl)

pub type_named_renamed : (r : Renaming) (t : TypeTree) → type_named (renamed_type r t) ≡ renamed_outcome r.place (λ (k : Kind). k) (type_named t)
type_named_renamed r t =
    bind_follows r.place (λ (b : Base). b) (λ (k : Kind). k) (plain t.specs) _
    (λ (b : Base). Is (starred b t.stars)) (λ (b : Base). Is (starred b t.stars)) (plain_renamed r t.specs) (λ b. refl)

-- what the text of an expression tells
pub array_length_renamed : {r : Renaming} {s t : Scope} → IsScopeRenamed r s t → (e : Expression)
    → array_length t (renamed_expression r e) ≡ array_length s e
array_length_renamed scope (tree.Node (tree.Name name) at) = ap length_of_array (scope.meaning name)
array_length_renamed scope (tree.Node form at) = refl

pub word_at_renamed : (r : Renaming) (e : Expression) (x : Expr)
    → word_at (renamed_expression r e) (renamed_value r x) ≡ renamed_outcome r.place (λ (w : ℕ). w) (word_at e x)
word_at_renamed r e x =
    ap (λ (at : ℕ). there_or NotConstant at (constant (renamed_expression r e) (renamed_value r x))) (place_of_renamed r e)
    ∙ ap (λ (w : Option ℕ). there_or NotConstant (r.place (place e)) w) (constant_renamed r e x)
    ∙ sym (there_or_same r.place NotConstant (place e) (constant e x))

pub operand_renamed : (r : Renaming) (e : Expression) (x : Expr) → operand (renamed_expression r e) (renamed_value r x) ≡ renamed_operand r (operand e x)
operand_renamed r e x = ap (λ (b : Bool). let y : Operand = record { value = renamed_value r x; null = b } in y) (is_null_renamed r e)

-- operators on what is typed
module _ (r : Renaming) where
  of_object_renamed : (b c : Bool) (at : ℕ) (x : Expr) → b ≡ c
      → of_object b (r.place at) (renamed_value r x) ≡ renamed_outcome r.place (renamed_value r) (of_object c at x)
  of_object_renamed b c at x same =
      ap (λ (z : Bool). of_object z (r.place at) (renamed_value r x)) same
      ∙ breaks_follows r.place (renamed_value r) c NotLvalue at (Is x) (Is (renamed_value r x)) refl

  prefixed_renamed : (o : PrefixOp) (c : Bool) (at : ℕ) (x : Expr)
      → prefixed o c (r.place at) (renamed_value r x) ≡ renamed_outcome r.place (renamed_value r) (prefixed o c at x)
  prefixed_renamed prefix.Address c at x = address_renamed r c at x
  prefixed_renamed prefix.Pointed c at x = loaded_renamed r at x
  prefixed_renamed prefix.Plus c at x = unary_renamed r unary_op.Plus at x
  prefixed_renamed prefix.Minus c at x = unary_renamed r unary_op.Minus at x
  prefixed_renamed prefix.Complement c at x = unary_renamed r unary_op.Complement at x
  prefixed_renamed prefix.Not c at x = negated_renamed r at x

  prefixed_array : (o : PrefixOp) (b c : Option ℕ) (at : ℕ) (x : Expr) → b ≡ c
      → prefixed o (is_some b) (r.place at) (renamed_value r x) ≡ renamed_outcome r.place (renamed_value r) (prefixed o (is_some c) at x)
  prefixed_array o b c at x same =
      ap (λ (z : Option ℕ). prefixed o (is_some z) (r.place at) (renamed_value r x)) same ∙ prefixed_renamed o (is_some c) at x

  sized_array : (b c : Option ℕ) (at : ℕ) (x : Expr) → b ≡ c
      → sized b (r.place at) (renamed_value r x) ≡ renamed_outcome r.place (renamed_value r) (sized c at x)
  sized_array b c at x same = ap (λ (z : Option ℕ). sized z (r.place at) (renamed_value r x)) same ∙ sized_renamed r c at x

  cast_at : (kind : Kind) (at : ℕ) (e : Expression) (x : Expr)
      → cast kind (r.place at) (operand (renamed_expression r e) (renamed_value r x)) ≡ renamed_outcome r.place (renamed_value r) (cast kind at (operand e x))
  cast_at kind at e x = ap (cast kind (r.place at)) (operand_renamed r e x) ∙ cast_renamed r kind at (operand e x)

  operands_same : {A : Type 0} (f : Operand → Operand → A) (a b : Expression) (x y : Expr)
      → f (operand (renamed_expression r a) (renamed_value r x)) (operand (renamed_expression r b) (renamed_value r y))
      ≡ f (renamed_operand r (operand a x)) (renamed_operand r (operand b y))
  operands_same f a b x y =
      ap (λ (z : Operand). f z (operand (renamed_expression r b) (renamed_value r y))) (operand_renamed r a x)
      ∙ ap (λ (z : Operand). f (renamed_operand r (operand a x)) z) (operand_renamed r b y)

  binary_at : (o : BinaryOp) (at : ℕ) (a b : Expression) (x y : Expr)
      → binary o (r.place at) (operand (renamed_expression r a) (renamed_value r x)) (operand (renamed_expression r b) (renamed_value r y))
      ≡ renamed_outcome r.place (renamed_value r) (binary o at (operand a x) (operand b y))
  binary_at o at a b x y = operands_same (binary o (r.place at)) a b x y ∙ binary_renamed r o at (operand a x) (operand b y)

  picked_at : (at : ℕ) (test : Expr) (a b : Expression) (x y : Expr)
      → picked (r.place at) (renamed_value r test) (operand (renamed_expression r a) (renamed_value r x)) (operand (renamed_expression r b) (renamed_value r y))
      ≡ renamed_outcome r.place (renamed_value r) (picked at test (operand a x) (operand b y))
  picked_at at test a b x y = operands_same (picked (r.place at) (renamed_value r test)) a b x y ∙ picked_renamed r at test (operand a x) (operand b y)

  assigned_at : (at : ℕ) (x : Expr) (b : Expression) (y : Expr)
      → assigned (r.place at) (renamed_value r x) (operand (renamed_expression r b) (renamed_value r y))
      ≡ renamed_outcome r.place (renamed_value r) (assigned at x (operand b y))
  assigned_at at x b y = ap (assigned (r.place at) (renamed_value r x)) (operand_renamed r b y) ∙ assigned_renamed r at x (operand b y)

  -- what a name and a call by a name stand for
  named_as_renamed : (at : ℕ) (m : Option Meaning) → named_as (r.place at) m ≡ renamed_outcome r.place (renamed_value r) (named_as at m)
  named_as_renamed at None = refl
  named_as_renamed at (Some (meanings.Object reference (Single kind))) = refl
  named_as_renamed at (Some (meanings.Object reference (Array kind length))) = refl
  named_as_renamed at (Some (meanings.Function type)) = refl

  typed_call_renamed : (function : ℕ) (m : Option Meaning) (at : ℕ) (xs : List Operand)
      → typed_call function m (r.place at) (map (renamed_operand r) xs) ≡ renamed_outcome r.place (renamed_value r) (typed_call function m at xs)
  typed_call_renamed function None at xs = refl
  typed_call_renamed function (Some (meanings.Object reference type)) at xs = refl
  typed_call_renamed function (Some (meanings.Function type)) at xs =
      bind_follows r.place (renamed_values r) (renamed_value r) (passed type.parameters at xs) _
      (λ (es : Exprs). Is (Node (Call function es) type.result at))
      (λ (es : Exprs). Is (Node (Call function es) type.result (r.place at)))
      (passed_renamed r type.parameters at xs) (λ es. refl)

  no_constant_renamed : (o : Outcome Expr)
      → no_constant (renamed_outcome r.place (renamed_value r) o) ≡ renamed_outcome r.place (renamed_value r) (no_constant o)
  no_constant_renamed (Is x) = refl
  no_constant_renamed (Broken rule at) = if_follows r.place (renamed_value r) (is_of_calls rule) (Broken NotConstant at) (Broken rule at) _ _ refl refl

module _ {r : Renaming} {s t : Scope} (faithful : IsFaithful r) (scope : IsScopeRenamed r s t) where
  pub typed_name_renamed : (name : List ℕ) (at : ℕ)
      → typed_name t (r.name name) (r.place at) ≡ renamed_outcome r.place (renamed_value r) (typed_name s name at)
  typed_name_renamed name at =
      ap (λ (b : Bool). breaks b Mismatch (r.place at) (named_as (r.place at) (t.meaning (r.name name)))) (is_port_renamed faithful name)
      ∙ breaks_follows r.place (renamed_value r) (is_in name || is_out name) Mismatch at (named_as at (s.meaning name)) _
      (ap (named_as (r.place at)) (scope.meaning name) ∙ named_as_renamed r at (s.meaning name))

  pub arguments_from_renamed : (name : List ℕ) (port : Outcome Arguments) (xs : Outcome (List Operand)) (other : Outcome Arguments) (ys : Outcome (List Operand))
      → other ≡ renamed_outcome r.place (renamed_arguments r) port
      → ys ≡ renamed_outcome r.place (map (renamed_operand r)) xs
      → arguments_from (r.name name) other ys ≡ renamed_outcome r.place (renamed_arguments r) (arguments_from name port xs)
  arguments_from_renamed name port xs other ys p q =
      ap (λ (b : Bool). if b then other else (ys >>= λ (zs : List Operand). Is (Operands zs))) (is_port_renamed faithful name)
      ∙ if_follows r.place (renamed_arguments r) (is_in name || is_out name) port (xs >>= λ (zs : List Operand). Is (Operands zs)) _ _ p
      (bind_follows r.place (map (renamed_operand r)) (renamed_arguments r) xs ys (λ (zs : List Operand). Is (Operands zs)) (λ (zs : List Operand). Is (Operands zs)) q (λ zs. refl))

  pub call_of_renamed : (name : List ℕ) (at : ℕ) (a : Arguments)
      → call_of t (r.name name) (r.place at) (renamed_arguments r a) ≡ renamed_outcome r.place (renamed_value r) (call_of s name at a)
  call_of_renamed name at (Operands xs) =
      ap (λ (n : ℕ). typed_call n (t.meaning (r.name name)) (r.place at) (map (renamed_operand r) xs)) (bodies_before_renamed faithful scope name)
      ∙ ap (λ (m : Option Meaning). typed_call (bodies_before s name) m (r.place at) (map (renamed_operand r) xs)) (scope.meaning name)
      ∙ typed_call_renamed r (bodies_before s name) (s.meaning name) at xs
  call_of_renamed name at NoPort = refl
  call_of_renamed name at (Port class port xs) =
      ap (λ (b : Bool). if b then input (r.place at) class port (map (renamed_operand r) xs) else output (r.place at) class port (map (renamed_operand r) xs)) (is_in_renamed faithful name)
      ∙ if_follows r.place (renamed_value r) (is_in name) (input at class port xs) (output at class port xs) _ _ (input_renamed r at class port xs) (output_renamed r at class port xs)

  sizeof_renamed : (type : TypeTree) (at : ℕ)
      → typing_form t (renamed_form r (tree.SizeofType type)) (r.place at) ≡ renamed_outcome r.place (renamed_value r) (typing_form s (tree.SizeofType type) at)
  sizeof_renamed type at =
      bind_follows r.place (λ (k : Kind). k) (renamed_value r) (type_named type) _
      (λ (k : Kind). breaks (is_void k) Mismatch type.specs.at (Is (Node (Const 1) (Some unsigned) at)))
      (λ (k : Kind). breaks (is_void k) Mismatch (r.place type.specs.at) (Is (Node (Const 1) (Some unsigned) (r.place at))))
      (type_named_renamed r type)
      (λ k. breaks_follows r.place (renamed_value r) (is_void k) Mismatch type.specs.at (Is (Node (Const 1) (Some unsigned) at)) _ refl)

  -- one part behind another, of which the first is an expression
  after : {A B : Type 0} (g : A → B) (o : Outcome Expr) (p : Outcome Expr) (k : Expr → Outcome A) (other : Expr → Outcome B)
      → p ≡ renamed_outcome r.place (renamed_value r) o
      → ((x : Expr) → other (renamed_value r x) ≡ renamed_outcome r.place g (k x))
      → (p >>= other) ≡ renamed_outcome r.place g (o >>= k)
  after g o p k other first same = bind_follows r.place (renamed_value r) g o p k other first same

  mutual
    pub typing_renamed : (e : Expression) → typing t (renamed_expression r e) ≡ renamed_outcome r.place (renamed_value r) (typing s e)
    typing_renamed (tree.Node form at) = typing_form_renamed form at

    pub typing_form_renamed : (form : ExpressionForm) (at : ℕ)
        → typing_form t (renamed_form r form) (r.place at) ≡ renamed_outcome r.place (renamed_value r) (typing_form s form at)
    typing_form_renamed (tree.Name name) at = typed_name_renamed name at
    typing_form_renamed (tree.Number value marked decimal) at = typed_number_renamed r value marked decimal at
    typing_form_renamed (tree.Character value) at = refl
    typing_form_renamed (tree.Index a b) at =
        after (renamed_value r) _ _ _ _ (typing_renamed a) (λ x. after (renamed_value r) _ _ _ _ (typing_renamed b) (λ y. indexed_renamed r at x y))
    typing_form_renamed (tree.Call name es) at =
        bind_follows r.place (renamed_arguments r) (renamed_value r) _ _ _ _
        (arguments_from_renamed name _ _ _ _ (port_arguments_renamed es) (operands_renamed es)) (λ a. call_of_renamed name at a)
    typing_form_renamed (tree.StepAfter up a) at =
        after (renamed_value r) _ _ _ _ (typing_renamed a) (λ x. after (renamed_value r) _ _ _ _ (stepped_after_renamed r up at x)
        (λ y. of_object_renamed r _ _ at y (is_address_renamed r a)))
    typing_form_renamed (tree.StepBefore up a) at =
        after (renamed_value r) _ _ _ _ (typing_renamed a) (λ x. after (renamed_value r) _ _ _ _ (stepped_before_renamed r up at x)
        (λ y. of_object_renamed r _ _ at y (is_address_renamed r a)))
    typing_form_renamed (tree.Prefix o a) at =
        after (renamed_value r) _ _ _ _ (typing_renamed a) (λ x. after (renamed_value r) _ _ _ _ (prefixed_array r o _ _ at x (array_length_renamed scope a))
        (λ y. of_object_renamed r _ _ at y (ap (λ (b : Bool). takes_address o && b) (is_address_renamed r a))))
    typing_form_renamed (tree.SizeofValue a) at =
        after (renamed_value r) _ _ _ _ (typing_renamed a) (λ x. sized_array r _ _ at x (array_length_renamed scope a))
    typing_form_renamed (tree.SizeofType type) at = sizeof_renamed type at
    typing_form_renamed (tree.Cast type a) at =
        bind_follows r.place (λ (k : Kind). k) (renamed_value r) _ _ _ _ (type_named_renamed r type)
        (λ kind. after (renamed_value r) _ _ _ _ (typing_renamed a) (λ x. cast_at r kind at a x))
    typing_form_renamed (tree.Binary o a b) at =
        after (renamed_value r) _ _ _ _ (typing_renamed a) (λ x. after (renamed_value r) _ _ _ _ (typing_renamed b) (λ y. binary_at r o at a b x y))
    typing_form_renamed (tree.And a b) at =
        after (renamed_value r) _ _ _ _ (typing_renamed a) (λ x. after (renamed_value r) _ _ _ _ (typing_renamed b) (λ y. both_true_renamed r at x y))
    typing_form_renamed (tree.Or a b) at =
        after (renamed_value r) _ _ _ _ (typing_renamed a) (λ x. after (renamed_value r) _ _ _ _ (typing_renamed b) (λ y. either_true_renamed r at x y))
    typing_form_renamed (tree.Conditional c a b) at =
        after (renamed_value r) _ _ _ _ (typing_renamed c) (λ z. after (renamed_value r) _ _ _ _ (typing_renamed a)
        (λ x. after (renamed_value r) _ _ _ _ (typing_renamed b) (λ y. picked_at r at z a b x y)))
    typing_form_renamed (tree.Assign a b) at =
        after (renamed_value r) _ _ _ _ (typing_renamed a) (λ x. after (renamed_value r) _ _ _ _ (typing_renamed b)
        (λ y. after (renamed_value r) _ _ _ _ (assigned_at r at x b y) (λ z. of_object_renamed r _ _ at z (is_address_renamed r a))))
    typing_form_renamed (tree.AssignOp o a b) at =
        after (renamed_value r) _ _ _ _ (typing_renamed a) (λ x. after (renamed_value r) _ _ _ _ (typing_renamed b)
        (λ y. after (renamed_value r) _ _ _ _ (assigned_by_renamed r o at x y) (λ z. of_object_renamed r _ _ at z (is_address_renamed r a))))
    typing_form_renamed (tree.Comma a b) at =
        after (renamed_value r) _ _ _ _ (typing_renamed a) (λ x. after (renamed_value r) _ _ _ _ (typing_renamed b) (λ y. ap Is (typed_comma_renamed r at x y)))

    pub operands_renamed : (es : Expressions) → operands t (renamed_expressions r es) ≡ renamed_outcome r.place (map (renamed_operand r)) (operands s es)
    operands_renamed no_argument = refl
    operands_renamed (argument e rest) =
        after (map (renamed_operand r)) _ _ _ _ (typing_renamed e)
        (λ x. bind_follows r.place (map (renamed_operand r)) (map (renamed_operand r)) _ _ _ _ (operands_renamed rest)
        (λ xs. ap (λ (z : Operand). Is (z ∷ map (renamed_operand r) xs)) (operand_renamed r e x)))

    pub port_arguments_renamed : (es : Expressions)
        → port_arguments t (renamed_expressions r es) ≡ renamed_outcome r.place (renamed_arguments r) (port_arguments s es)
    port_arguments_renamed no_argument = refl
    port_arguments_renamed (argument e rest) =
        after (renamed_arguments r) _ _ _ _ (ap (as_constant t (renamed_expression r e)) (typing_renamed e) ∙ as_constant_renamed e (typing s e))
        (λ x. bind_follows r.place (λ (w : ℕ). w) (renamed_arguments r) _ _ _ _ (word_at_renamed r e x)
        (λ port. bind_follows r.place (map (renamed_operand r)) (renamed_arguments r) _ _ _ _ (operands_renamed rest)
        (λ xs. ap (λ (k : Kind). Is (Port (class_of k) port (map (renamed_operand r) xs))) (kind_renamed r x))))

    pub as_constant_renamed : (e : Expression) (o : Outcome Expr)
        → as_constant t (renamed_expression r e) (renamed_outcome r.place (renamed_value r) o) ≡ renamed_outcome r.place (renamed_value r) (as_constant s e o)
    as_constant_renamed (tree.Node form at) o = form_as_constant_renamed form at o

    pub form_as_constant_renamed : (form : ExpressionForm) (at : ℕ) (o : Outcome Expr)
        → form_as_constant t (renamed_form r form) (r.place at) (renamed_outcome r.place (renamed_value r) o)
        ≡ renamed_outcome r.place (renamed_value r) (form_as_constant s form at o)
    form_as_constant_renamed (tree.Call name es) at o =
        bind_follows r.place (renamed_arguments r) (renamed_value r) _ _ _ _
        (arguments_from_renamed name _ _ _ _ (port_arguments_renamed es) (operands_renamed es))
        (λ a. ap no_constant (call_of_renamed name at a) ∙ no_constant_renamed r (call_of s name at a))
    form_as_constant_renamed form at o = refl

  pub constant_typing_renamed : (e : Expression)
      → constant_typing t (renamed_expression r e) ≡ renamed_outcome r.place (renamed_value r) (constant_typing s e)
  constant_typing_renamed e = ap (as_constant t (renamed_expression r e)) (typing_renamed e) ∙ as_constant_renamed e (typing s e)

  pub renamed_call_arguments : (name : List ℕ) (es : Expressions)
      → arguments t (r.name name) (renamed_expressions r es) ≡ renamed_outcome r.place (renamed_arguments r) (arguments s name es)
  renamed_call_arguments name es = arguments_from_renamed name _ _ _ _ (port_arguments_renamed es) (operands_renamed es)
