-- What stands between the braces of a switch, one behind another.
use Rattle.std.proofs.Common.{◌≡◌, ℕ, ◌+◌, ◌<◌, ◌≤◌, ◌||◌, Bool, true, false, List, [], ◌∷◌, ◌++◌, drop, get_or, length, refl, ap, ◌∙◌}
use Rattle.std.proofs.Math.ListN.{drop_of_length-le}
use Rattle.c_syntax.specs.declared.stmt.SwitchPart.{SwitchPart}
use Rattle.c_tree.specs.declared.typed_statement.Choice.{Choice}
use Rattle.c_syntax.specs.SyntaxTree as tree
use Rattle.c_syntax.specs.SyntaxView.{part_before}
use Rattle.c_tree.specs.TypedTree.{Choices, no_more}
use Rattle.c_tree.specs.View.{choice_before, choice_list}
use Rattle.c_rules.proofs.Turns.{first_left}
use Rattle.c_types.specs.declared.blocks.Body.{Body}
use Rattle.c_tree.specs.declared.enclosing.Enclosing.{Enclosing}
use Rattle.c_types.specs.Bodies.{behind_choices, choices_in, joined, parts_of}
use Rattle.c_rules.specs.Outcome.{Outcome, Is, Broken}
use Rattle.c_rules.specs.Statements.{LocalTree, Labelled, Typed, just, typed_choices}
use Rattle.c_scopes.specs.Tables.{scope_of}
use Rattle.c_types.specs.BodyView.{context_of, locals_of}
use Rattle.c_scopes.proofs.ScopesKept.{innermost}

-- what was typed of a list, what is left of it, and what stays as it was
pub record ChoicesSoFar (first now : Body) (c : Enclosing) (all rest : List SwitchPart) (so_far : List Choice) (pointer : Bool) : Type 0 where
  pub typed : choices_in first c (parts_of all) ≡ behind_choices so_far pointer (choices_in now c (parts_of rest))
  pub kept : context_of now ≡ context_of first

-- none at first
pub none_behind : (o : Outcome (Typed Labelled)) → o ≡ behind_choices [] false o
none_behind (Is r) = refl
none_behind (Broken rule at) = refl

joined_more : (there : List Choice) (x : Choice) (rest : Choices) → joined there (choice_before x rest) ≡ joined (there ++ x ∷ []) rest
joined_more [] x rest = refl
joined_more (y ∷ ys) x rest = ap (choice_before y) (joined_more ys x rest)

all_joined : (there : List Choice) → joined there no_more ≡ choice_list there
all_joined [] = refl
all_joined (y ∷ ys) = ap (choice_before y) (all_joined ys)

either_more : (a b c : Bool) → (a || (b || c)) ≡ ((a || b) || c)
either_more true b c = refl
either_more false b c = refl

or_none : (a : Bool) → (a || false) ≡ a
or_none true = refl
or_none false = refl

one_more : (there : List Choice) (p : Bool) (x : Choice) (q : Bool) (o : Outcome (Typed Labelled)) → behind_choices there p (behind_choices (x ∷ []) q o) ≡ behind_choices (there ++ x ∷ []) (p || q) o
one_more there p x q (Is r) = λ i. just (record { choices = joined_more there x r.tree.choices i; pointer = either_more p q r.tree.pointer i }) r.locals
one_more there p x q (Broken rule at) = refl

module _ (b n : Body) (kept : context_of n ≡ context_of b) where
  pub choices_kept : (c : Enclosing) (ls : List LocalTree) (cs : tree.Choices) → typed_choices n.result (scope_of n.scopes) c ls cs ≡ typed_choices b.result (scope_of b.scopes) c ls cs
  choices_kept c ls cs = λ i. typed_choices (kept i).result (innermost (kept i).scopes) c ls cs

-- one choice of a list
pub turn : (b n : Body) (c : Enclosing) (list : List SwitchPart) (i : ℕ) (s : SwitchPart) (there : List Choice) (p : Bool) (x : Choice) (q : Bool) → s ≡ get_or list i s → i < length list
    → ((rest : tree.Choices) → choices_in b c (part_before s rest) ≡ behind_choices (x ∷ []) q (choices_in n c rest))
    → behind_choices there p (choices_in b c (parts_of (drop i list))) ≡ behind_choices (there ++ x ∷ []) (p || q) (choices_in n c (parts_of (drop (i + 1) list)))
turn b n c list i s there p x q is within h =
    ap (λ l. behind_choices there p (choices_in b c (parts_of l))) (first_left list i s is within)
    ∙ ap (behind_choices there p) (h (parts_of (drop (i + 1) list)))
    ∙ one_more there p x q (choices_in n c (parts_of (drop (i + 1) list)))

-- the end of a list
pub ended : (n : Body) (c : Enclosing) (list : List SwitchPart) (i : ℕ) (there : List Choice) (p : Bool) → length list ≤ i
    → behind_choices there p (choices_in n c (parts_of (drop i list))) ≡ just (record { choices = choice_list there; pointer = p }) (locals_of n)
ended n c list i there p above =
    ap (λ l. behind_choices there p (choices_in n c (parts_of l))) (drop_of_length-le list above)
    ∙ (λ i. just (record { choices = all_joined there i; pointer = or_none p i }) (locals_of n))
