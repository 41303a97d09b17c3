-- The walk over an expression comes to what its typing breaks.
use Rattle.std.proofs.Common.{ℕ, ◌||◌, Bool, true, false, if◌then◌else◌, List, [], ◌∷◌, ◌++◌, Option, is_some, refl}
use Rattle.std.specs.Prelude.{⊤}
use Rattle.c_tree.specs.c_syntax.SyntaxTree as tree
use Rattle.c_tree.specs.c_syntax.SyntaxTree.{TypeTree, Expression, ExpressionForm, Expressions, no_argument, argument}
use Rattle.c_tree.specs.TypedTree.{Expr}
use Rattle.c_rules.specs.declared.fault.Rule.{Rule}
use Rattle.c_rules.specs.declared.fault.Rule.TheVariants.{Mismatch, NotConstant}
use Rattle.c_rules.specs.Kinds.{is_void}
use Rattle.c_rules.specs.Constants.{constant}
use Rattle.c_rules.specs.Outcome.{Outcome, Is, Broken, ◌>>=◌, breaks, there_or}
use Rattle.c_rules.specs.Scopes.{Scope, is_in, is_out}
use Rattle.c_rules.specs.Typing.{Operands, call_of, type_named, array_length, is_address, operand, word_at, typing, typing_form, operands, port_arguments, arguments, constant_typing}
use Rattle.c_rules.specs.Visits.{Visit, visit, when, by_three}
use Rattle.c_rules.specs.ExpressionWalk.{type_visits, call_rules, constant_rules, rules, size_visit, part_visits, visits, list_visits, port_visits, constant_visits}
use Rattle.c_rules.proofs.Walked.Finding.{Finds, found_here, found_behind, joined, of_part, of_parts}
use Rattle.c_rules.proofs.Walked.Mismatching.{finds_mismatch, binary_only, both_true_only, either_true_only, picked_only, indexed_only, cast_only, sized_only}
use Rattle.c_rules.proofs.Walked.Nodes.{mapped, with_empty, one_rule}
use Rattle.c_rules.proofs.Walked.ExpressionNodes.{Node_finds, type_find, named_find, number_find, before_find, after_find, update_find, prefix_find, assign_find, call_find}
use Rattle.c_rules.proofs.Walked.ConstantsWalked.{plain_known, of_call, call_known}

-- a node behind three parts
of_all_parts : {A B C D : Type 0} (at : ℕ) (us vs ws : List Visit) (o : Outcome A) (p : Outcome B) (q : Outcome C) (rules : A → B → C → List Rule) (f : A → B → C → Outcome D)
    → Finds us o → Finds vs p → Finds ws q → ((a : A) (b : B) (c : C) → Node_finds at (rules a b c) (f a b c))
    → Finds ((us ++ (vs ++ ws)) ++ visit at (by_three o p q rules) ∷ []) (o >>= λ a. p >>= λ b. q >>= f a b)
of_all_parts at us vs ws (Is a) (Is b) (Is c) rules f one two three node = found_behind (us ++ (vs ++ ws)) _ (found_behind us _ one (found_behind vs ws two three)) (node a b c)
of_all_parts at us vs ws (Is a) (Is b) (Broken rule place) rules f one two three node = found_here (us ++ (vs ++ ws)) _ (found_behind us _ one (found_behind vs ws two three))
of_all_parts at us vs ws (Is a) (Broken rule place) q rules f one two three node = found_here (us ++ (vs ++ ws)) _ (found_behind us _ one (found_here vs ws two))
of_all_parts at us vs ws (Broken rule place) p q rules f one two three node = found_here (us ++ (vs ++ ws)) _ (found_here us _ one)

either_list : {A B : Type 0} (b : Bool) (vs ws : List Visit) (o : Outcome A) (p : Outcome B) (f : B → A) → Finds vs o → Finds ws p
    → Finds (if b then vs else ws) (if b then o else (p >>= λ x. Is (f x)))
either_list true vs ws o p f one other = one
either_list false vs ws o p f one other = mapped ws p f other

-- a port with its word
port_found : {A B C D : Type 0} (vs ws : List Visit) (o : Outcome A) (w : A → Outcome B) (p : Outcome C) (f : A → B → C → D) → Finds vs (o >>= w) → Finds ws p
    → Finds (vs ++ ws) (o >>= λ x. w x >>= λ n. p >>= λ xs. Is (f x n xs))
port_found vs ws (Is x) w p f one other = joined vs ws (w x) _ one (λ n word. mapped ws p (f x n) other)
port_found vs ws (Broken rule place) w p f one other = found_here vs ws one

module _ (s : Scope) where
  size_find : (t : TypeTree) (at : ℕ) (e : Expr) → Finds ((type_visits t ++ size_visit t ∷ []) ++ visit at [] ∷ []) (type_named t >>= λ kind. breaks (is_void kind) Mismatch t.specs.at (Is e))
  size_find t at e = with_empty at (type_visits t ++ size_visit t ∷ []) _
      (of_part t.specs.at (type_visits t) (type_named t) (λ kind. when (is_void kind) Mismatch) _ (type_find t) (λ kind. one_rule t.specs.at (is_void kind) Mismatch e))

  -- the arguments of a call come to what they break
  abbrev ArgumentsFind : ExpressionForm → Type 0
  ArgumentsFind (tree.Call name es) = Finds (if is_in name || is_out name then port_visits s es else list_visits s es) (arguments s name es)
  ArgumentsFind form = ⊤

  record FormFinds (form : ExpressionForm) (at : ℕ) : Type 0 where
    own : Finds (part_visits s form ++ visit at (rules s form at) ∷ []) (typing_form s form at)
    arguments : ArgumentsFind form

  -- a value that has to be known
  known_by : {A : Type 0} (form : ExpressionForm) (at : ℕ) (value : Expr → Option A) → FormFinds form at
      → Finds (part_visits s form ++ visit at (rules s form at ++ constant_rules form (typing_form s form at) value) ∷ [])
      (constant_typing s (tree.Node form at) >>= λ x. there_or NotConstant at (value x))
  known_by (tree.Name name) at value walked = plain_known at (tree.Name name) value (part_visits s (tree.Name name)) (rules s (tree.Name name) at) (typing_form s (tree.Name name) at) refl walked.own
  known_by (tree.Number v marked decimal) at value walked = plain_known at (tree.Number v marked decimal) value (part_visits s (tree.Number v marked decimal)) (rules s (tree.Number v marked decimal) at) (typing_form s (tree.Number v marked decimal) at) refl walked.own
  known_by (tree.Character v) at value walked = plain_known at (tree.Character v) value (part_visits s (tree.Character v)) (rules s (tree.Character v) at) (typing_form s (tree.Character v) at) refl walked.own
  known_by (tree.Index a b) at value walked = plain_known at (tree.Index a b) value (part_visits s (tree.Index a b)) (rules s (tree.Index a b) at) (typing_form s (tree.Index a b) at) refl walked.own
  known_by (tree.Call name es) at value walked =
      call_known at name es value (part_visits s (tree.Call name es)) (arguments s name es) (call_rules s name at) (call_of s name at) walked.arguments (call_find s name at) (of_call s name at)
  known_by (tree.StepAfter up a) at value walked = plain_known at (tree.StepAfter up a) value (part_visits s (tree.StepAfter up a)) (rules s (tree.StepAfter up a) at) (typing_form s (tree.StepAfter up a) at) refl walked.own
  known_by (tree.StepBefore up a) at value walked = plain_known at (tree.StepBefore up a) value (part_visits s (tree.StepBefore up a)) (rules s (tree.StepBefore up a) at) (typing_form s (tree.StepBefore up a) at) refl walked.own
  known_by (tree.Prefix o a) at value walked = plain_known at (tree.Prefix o a) value (part_visits s (tree.Prefix o a)) (rules s (tree.Prefix o a) at) (typing_form s (tree.Prefix o a) at) refl walked.own
  known_by (tree.SizeofValue a) at value walked = plain_known at (tree.SizeofValue a) value (part_visits s (tree.SizeofValue a)) (rules s (tree.SizeofValue a) at) (typing_form s (tree.SizeofValue a) at) refl walked.own
  known_by (tree.SizeofType t) at value walked = plain_known at (tree.SizeofType t) value (part_visits s (tree.SizeofType t)) (rules s (tree.SizeofType t) at) (typing_form s (tree.SizeofType t) at) refl walked.own
  known_by (tree.Cast t a) at value walked = plain_known at (tree.Cast t a) value (part_visits s (tree.Cast t a)) (rules s (tree.Cast t a) at) (typing_form s (tree.Cast t a) at) refl walked.own
  known_by (tree.Binary o a b) at value walked = plain_known at (tree.Binary o a b) value (part_visits s (tree.Binary o a b)) (rules s (tree.Binary o a b) at) (typing_form s (tree.Binary o a b) at) refl walked.own
  known_by (tree.And a b) at value walked = plain_known at (tree.And a b) value (part_visits s (tree.And a b)) (rules s (tree.And a b) at) (typing_form s (tree.And a b) at) refl walked.own
  known_by (tree.Or a b) at value walked = plain_known at (tree.Or a b) value (part_visits s (tree.Or a b)) (rules s (tree.Or a b) at) (typing_form s (tree.Or a b) at) refl walked.own
  known_by (tree.Conditional c a b) at value walked = plain_known at (tree.Conditional c a b) value (part_visits s (tree.Conditional c a b)) (rules s (tree.Conditional c a b) at) (typing_form s (tree.Conditional c a b) at) refl walked.own
  known_by (tree.Assign a b) at value walked = plain_known at (tree.Assign a b) value (part_visits s (tree.Assign a b)) (rules s (tree.Assign a b) at) (typing_form s (tree.Assign a b) at) refl walked.own
  known_by (tree.AssignOp o a b) at value walked = plain_known at (tree.AssignOp o a b) value (part_visits s (tree.AssignOp o a b)) (rules s (tree.AssignOp o a b) at) (typing_form s (tree.AssignOp o a b) at) refl walked.own
  known_by (tree.Comma a b) at value walked = plain_known at (tree.Comma a b) value (part_visits s (tree.Comma a b)) (rules s (tree.Comma a b) at) (typing_form s (tree.Comma a b) at) refl walked.own

  mutual
    pub visits_find : (e : Expression) → Finds (visits s e) (typing s e)
    visits_find (tree.Node form at) = (form_find form at).own

    form_find : (form : ExpressionForm) (at : ℕ) → FormFinds form at
    form_find (tree.Name name) at = record {
      own = named_find s name at;
      arguments = tt;
    }
    form_find (tree.Number value marked decimal) at = record {
      own = number_find value marked decimal at;
      arguments = tt;
    }
    form_find (tree.Character value) at = record {
      own = refl;
      arguments = tt;
    }
    form_find (tree.Index a b) at = record {
      own = of_parts at (visits s a) (visits s b) (typing s a) (typing s b) _ _ (visits_find a) (visits_find b) (λ x y. finds_mismatch _ (indexed_only at x y));
      arguments = tt;
    }
    form_find (tree.Call name es) at =
        let found = either_list (is_in name || is_out name) (port_visits s es) (list_visits s es) (port_arguments s es) (operands s es) Operands (port_find es) (list_find es) in
        record {
          own = of_part at (part_visits s (tree.Call name es)) (arguments s name es) (call_rules s name at) (call_of s name at) found (call_find s name at);
          arguments = found;
        }
    form_find (tree.StepAfter up a) at = record {
      own = of_part at (visits s a) (typing s a) _ _ (visits_find a) (after_find up at (is_address a));
      arguments = tt;
    }
    form_find (tree.StepBefore up a) at = record {
      own = of_part at (visits s a) (typing s a) _ _ (visits_find a) (before_find up at (is_address a));
      arguments = tt;
    }
    form_find (tree.Prefix o a) at = record {
      own = of_part at (visits s a) (typing s a) _ _ (visits_find a) (prefix_find o (is_some (array_length s a)) (is_address a) at);
      arguments = tt;
    }
    form_find (tree.SizeofValue a) at = record {
      own = of_part at (visits s a) (typing s a) _ _ (visits_find a) (λ x. finds_mismatch _ (sized_only at (array_length s a) x));
      arguments = tt;
    }
    form_find (tree.SizeofType t) at = record {
      own = size_find t at _;
      arguments = tt;
    }
    form_find (tree.Cast t a) at = record {
      own = of_parts at (type_visits t) (visits s a) (type_named t) (typing s a) _ _ (type_find t) (visits_find a) (λ kind x. finds_mismatch _ (cast_only at kind (operand a x)));
      arguments = tt;
    }
    form_find (tree.Binary o a b) at = record {
      own = of_parts at (visits s a) (visits s b) (typing s a) (typing s b) _ _ (visits_find a) (visits_find b) (λ x y. finds_mismatch _ (binary_only at o (operand a x) (operand b y)));
      arguments = tt;
    }
    form_find (tree.And a b) at = record {
      own = of_parts at (visits s a) (visits s b) (typing s a) (typing s b) _ _ (visits_find a) (visits_find b) (λ x y. finds_mismatch _ (both_true_only at x y));
      arguments = tt;
    }
    form_find (tree.Or a b) at = record {
      own = of_parts at (visits s a) (visits s b) (typing s a) (typing s b) _ _ (visits_find a) (visits_find b) (λ x y. finds_mismatch _ (either_true_only at x y));
      arguments = tt;
    }
    form_find (tree.Conditional c a b) at = record {
      own = of_all_parts at (visits s c) (visits s a) (visits s b) (typing s c) (typing s a) (typing s b) _ _ (visits_find c) (visits_find a) (visits_find b) (λ t x y. finds_mismatch _ (picked_only at t (operand a x) (operand b y)));
      arguments = tt;
    }
    form_find (tree.Assign a b) at = record {
      own = of_parts at (visits s a) (visits s b) (typing s a) (typing s b) _ _ (visits_find a) (visits_find b) (λ x y. assign_find at (is_address a) x (operand b y));
      arguments = tt;
    }
    form_find (tree.AssignOp o a b) at = record {
      own = of_parts at (visits s a) (visits s b) (typing s a) (typing s b) _ _ (visits_find a) (visits_find b) (λ x y. update_find o at (is_address a) x y);
      arguments = tt;
    }
    form_find (tree.Comma a b) at = record {
      own = with_empty at (visits s a ++ visits s b) _ (joined (visits s a) (visits s b) (typing s a) _ (visits_find a) (λ x typed. mapped (visits s b) (typing s b) _ (visits_find b)));
      arguments = tt;
    }

    -- arguments
    list_find : (es : Expressions) → Finds (list_visits s es) (operands s es)
    list_find no_argument = refl
    list_find (argument e rest) = joined (visits s e) (list_visits s rest) (typing s e) _ (visits_find e) (λ x typed. mapped (list_visits s rest) (operands s rest) _ (list_find rest))

    port_find : (es : Expressions) → Finds (port_visits s es) (port_arguments s es)
    port_find no_argument = refl
    port_find (argument e rest) = port_found (constant_visits s e) (list_visits s rest) (constant_typing s e) (word_at e) (operands s rest) _ (constant_find e) (list_find rest)

    pub constant_find : (e : Expression) → Finds (constant_visits s e) (constant_typing s e >>= word_at e)
    constant_find (tree.Node form at) = known_by form at (constant (tree.Node form at)) (form_find form at)

  pub known_find : {A : Type 0} (form : ExpressionForm) (at : ℕ) (value : Expr → Option A)
      → Finds (part_visits s form ++ visit at (rules s form at ++ constant_rules form (typing_form s form at) value) ∷ [])
      (constant_typing s (tree.Node form at) >>= λ x. there_or NotConstant at (value x))
  known_find form at value = known_by form at value (form_find form at)
