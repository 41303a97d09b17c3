-- Expressions whose values have to be known before the program runs: what a call breaks, and an expression that is no constant.
use Rattle.std.proofs.Common.{◌≡◌, ℕ, Bool, true, false, if◌then◌else◌, List, [], ◌∷◌, ◌++◌, is_none, Option, Some, None, refl, sym, ap, ◌∙◌}
use Rattle.std.proofs.lemmas.List.{append-nil}
use Rattle.c_tree.specs.c_syntax.SyntaxTree as tree
use Rattle.c_tree.specs.c_syntax.SyntaxTree.{ExpressionForm, Expressions}
use Rattle.c_tree.specs.TypedTree.{Expr}
use Rattle.c_rules.specs.declared.fault.Rule.{Rule}
use Rattle.c_rules.specs.declared.fault.Rule.TheVariants.{Undeclared, Mismatch, NotConstant, BadPort, ArgCount}
use Rattle.c_rules.specs.declared.meaning.Meaning.{Meaning}
use Rattle.c_rules.specs.declared.meaning.Meaning.TheVariants as meanings
use Rattle.c_rules.specs.Operands.{Operand, any_void}
use Rattle.c_rules.specs.Outcome.{Outcome, Is, Broken, ◌>>=◌, there_or}
use Rattle.c_rules.specs.Scopes.{Scope, is_in}
use Rattle.c_rules.specs.Typing.{Arguments, Operands, NoPort, Port, is_of_calls, no_constant}
use Rattle.c_rules.specs.Visits.{Visit, visit, BrokenRule, first, when, by_one, broken_in}
use Rattle.c_rules.specs.ExpressionWalk.{constant_rules, is_call, called_rules, call_rules}
use Rattle.c_rules.proofs.Walked.Finding.{Finds, or_else, first_of_both, found_here, found_behind}
use Rattle.c_rules.proofs.Walked.ExpressionNodes.{Node_finds}

-- a value that is known, or not
there_find : {A : Type 0} (at : ℕ) (v : Option A) → Node_finds at (when (is_none v) NotConstant) (there_or NotConstant at v)
there_find at (Some a) = refl
there_find at None = refl

none_first : (a b : Option BrokenRule) → or_else a b ≡ None → a ≡ None
none_first None b none = refl
none_first (Some a) b none = absurd (cc none)

none_next : (a b : Option BrokenRule) → or_else a b ≡ None → b ≡ None
none_next None b none = none
none_next (Some a) b none = absurd (cc none)

module _ {A : Type 0} (at : ℕ) (form : ExpressionForm) (value : Expr → Option A) where
  -- an expression that breaks nothing by itself
  unbroken : (vs : List Visit) (rs : List Rule) (x : Expr) → first (vs ++ visit at rs ∷ []) ≡ None
      → Finds (vs ++ visit at (rs ++ when (is_none (value x)) NotConstant) ∷ []) (there_or NotConstant at (value x))
  unbroken vs [] x none = found_behind vs _ (none_first (first vs) None (sym (first_of_both vs (visit at [] ∷ [])) ∙ none)) (there_find at (value x))
  unbroken vs (r ∷ rs) x none = absurd (cc (none_next (first vs) (first (visit at (r ∷ rs) ∷ [])) (sym (first_of_both vs (visit at (r ∷ rs) ∷ [])) ∙ none)))

  no_call : (rs : List Rule) (b : Bool) → b ≡ false → rs ++ when b NotConstant ≡ rs
  no_call rs true none = absurd (cc none)
  no_call rs false none = append-nil rs

  pub plain_known : (vs : List Visit) (rs : List Rule) (o : Outcome Expr) → is_call form ≡ false → Finds (vs ++ visit at rs ∷ []) o
      → Finds (vs ++ visit at (rs ++ constant_rules form o value) ∷ []) (o >>= λ x. there_or NotConstant at (value x))
  plain_known vs rs (Is x) plain one = unbroken vs rs x one
  plain_known vs rs (Broken rule place) plain one = ap (λ qs. first (vs ++ visit at qs ∷ [])) (no_call rs (is_call form) plain) ∙ one

-- what a call breaks where its value has to be known
abbrev in_constant : Option BrokenRule → Option BrokenRule
in_constant None = None
in_constant (Some b) = Some (record { rule = if is_of_calls b.rule then NotConstant else b.rule; at = b.at })

-- the least of the rules of a call and of constants
abbrev IsOfCalls : ℕ → List Rule → Type 0
IsOfCalls at rules = (b : BrokenRule) → first (visit at rules ∷ []) ≡ Some b → first (visit at (rules ++ NotConstant ∷ []) ∷ []) ≡ in_constant (Some b)

two_rules : (at : ℕ) (a b : Bool) → IsOfCalls at (when a Mismatch ++ when b ArgCount)
two_rules at true true d same = ap in_constant same
two_rules at true false d same = ap in_constant same
two_rules at false true d same = ap in_constant same
two_rules at false false d same = absurd (cc same)

three_rules : (at : ℕ) (a b c : Bool) → IsOfCalls at (when a Mismatch ++ (when b BadPort ++ when c ArgCount))
three_rules at true true true d same = ap in_constant same
three_rules at true true false d same = ap in_constant same
three_rules at true false true d same = ap in_constant same
three_rules at true false false d same = ap in_constant same
three_rules at false true true d same = ap in_constant same
three_rules at false true false d same = ap in_constant same
three_rules at false false true d same = ap in_constant same
three_rules at false false false d same = absurd (cc same)

one_of_rules : (at : ℕ) (b : Bool) (rules others : List Rule) → IsOfCalls at rules → IsOfCalls at others → IsOfCalls at (if b then rules else others)
one_of_rules at true rules others one other = one
one_of_rules at false rules others one other = other

undeclared_rules : (at : ℕ) (b : Bool) → IsOfCalls at (Undeclared ∷ when b Mismatch)
undeclared_rules at true d same = ap in_constant same
undeclared_rules at false d same = ap in_constant same

of_function : (at : ℕ) (m : Option Meaning) (xs : List Operand) → IsOfCalls at (called_rules m at xs)
of_function at None xs = undeclared_rules at (any_void xs)
of_function at (Some (meanings.Object r type)) xs = λ d same. ap in_constant same
of_function at (Some (meanings.Function type)) xs = two_rules at _ _

pub of_call : (s : Scope) (name : List ℕ) (at : ℕ) (a : Arguments) → IsOfCalls at (call_rules s name at a)
of_call s name at (Operands xs) = of_function at (s.meaning name) xs
of_call s name at NoPort = λ d same. ap in_constant same
of_call s name at (Port class port xs) = one_of_rules at (is_in name) _ _ (three_rules at _ _ _) (three_rules at _ _ _)

module _ {A : Type 0} (at : ℕ) (name : List ℕ) (es : Expressions) (value : Expr → Option A) where
  as_broken : (b : Bool) (rule : Rule) (place : ℕ)
      → ◌≡◌ {A = Option BrokenRule} (Some (record { rule = if b then NotConstant else rule; at = place })) (broken_in ((if b then Broken NotConstant place else Broken rule place) >>= λ x. there_or NotConstant at (value x)))
  as_broken true rule place = refl
  as_broken false rule place = refl

  own_known : (rs : List Rule) (o : Outcome Expr) → Node_finds at rs o → IsOfCalls at rs
      → Node_finds at (rs ++ constant_rules (tree.Call name es) o value) (no_constant o >>= λ x. there_or NotConstant at (value x))
  own_known rs (Is x) one of_calls = unbroken at (tree.Call name es) value [] rs x one
  own_known rs (Broken rule place) one of_calls = of_calls (record { rule = rule; at = place }) one ∙ as_broken (is_of_calls rule) rule place

  pub call_known : (vs : List Visit) (o : Outcome Arguments) (rs : Arguments → List Rule) (g : Arguments → Outcome Expr) → Finds vs o
      → ((a : Arguments) → Node_finds at (rs a) (g a)) → ((a : Arguments) → IsOfCalls at (rs a))
      → Finds (vs ++ visit at (by_one o rs ++ constant_rules (tree.Call name es) (o >>= g) value) ∷ []) ((o >>= λ a. no_constant (g a)) >>= λ x. there_or NotConstant at (value x))
  call_known vs (Is a) rs g one own of_calls = found_behind vs _ one (own_known (rs a) (g a) (own a) (of_calls a))
  call_known vs (Broken rule place) rs g one own of_calls = found_here vs _ one
