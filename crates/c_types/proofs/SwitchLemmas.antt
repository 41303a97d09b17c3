-- Switches, whose labels and statements are a list in memory.
use Rattle.std.proofs.Common.{◌≡◌, ℕ, ◌+◌, ◌<◌, Bool, true, false, not, List, [], ◌∷◌, drop, get_or, length, refl, ap, sym, ◌∙◌, subst, Vec, Global}
use Rattle.std.specs.Prelude.{Result, Ok, Err}
use Rattle.c_syntax.specs.declared.expr.Expr as syntax
use Rattle.c_syntax.specs.declared.stmt.Stmt.{Stmt}
use Rattle.c_syntax.specs.declared.stmt.StmtKind as kind
use Rattle.c_syntax.specs.declared.stmt.SwitchPart as part
use Rattle.c_syntax.specs.declared.stmt.SwitchPart.{SwitchPart}
use Rattle.c_tree.specs.declared.typed_statement.Choice as choice
use Rattle.c_tree.specs.declared.typed_statement.Choice.{Choice}
use Rattle.c_tree.specs.declared.typed_statement.TypedStmt.{TypedStmt}
use Rattle.c_tree.specs.Eval.{kind_of, points}
use Rattle.c_syntax.specs.SyntaxTree as tree
use Rattle.c_syntax.specs.SyntaxTree.{Expression, Statement}
use Rattle.c_syntax.specs.SyntaxView.{expression_of, part_before, statement_of}
use Rattle.c_tree.specs.TypedTree as typed
use Rattle.c_tree.specs.TypedTree.{Expr, Switch}
use Rattle.c_tree.specs.View.{stmt_of}
use Rattle.c_types.specs.declared.blocks.Body.{Body}
use Rattle.c_rules.specs.declared.fault.Refusal.{Refusal}
use Rattle.c_rules.specs.declared.fault.Refusal.TheVariants as refusals
use Rattle.c_rules.specs.declared.fault.Rule.TheVariants.{Mismatch, Redeclared}
use Rattle.c_tree.specs.declared.enclosing.Enclosing.{Enclosing}
use Rattle.c_rules.specs.Answers.{Follows, Refuses}
use Rattle.c_types.specs.Bodies.{behind_choices, choices_in, parts_of, statement_in, switched}
use Rattle.c_rules.specs.Kinds.{class_of}
use Rattle.c_rules.specs.Operands.{is_integer}
use Rattle.c_rules.specs.Outcome.{Outcome, Is, ◌>>=◌, breaks}
use Rattle.c_rules.specs.Statements.{LocalTree, Labelled, Typed, just, behind_case, behind_body, in_switch, repeats_label, typed_choices}
use Rattle.c_scopes.specs.Tables.{scope_of}
use Rattle.c_rules.specs.Typing.{typing, constant_typing, word_at}
use Rattle.c_types.specs.BodyView.{context_of, locals_of, typed_in}
use Rattle.c_types.proofs.ChoicesSoFar.{choices_kept}
use Rattle.c_rules.proofs.Turns.{first_left}
use Rattle.c_types.proofs.SyntaxRows.{switch_of}

-- what is known of a switch of a list is known of the statement
same_switch : (s : Stmt) (e : syntax.Expr) (l : Vec SwitchPart Global) (place : ℕ) (pl : List SwitchPart) → s.kind ≡ kind.Switch e l place → pl ≡ l.items
    → tree.Switch (expression_of e) (parts_of pl) place s.at ≡ statement_of s.kind s.at
same_switch s e l place pl k p = (λ i. tree.Switch (expression_of e) (parts_of (p i)) place s.at) ∙ sym (switch_of e l place s.at) ∙ ap (λ x. statement_of x s.at) (sym k)

pub switch_follows : (b n : Body) (c : Enclosing) (r : Result TypedStmt Refusal) (s : Stmt) (e : syntax.Expr) (l : Vec SwitchPart Global) (place : ℕ) (pl : List SwitchPart) → s.kind ≡ kind.Switch e l place → pl ≡ l.items
    → Follows (λ t. typed_in n (stmt_of t)) (statement_in b c (tree.Switch (expression_of e) (parts_of pl) place s.at)) r → Follows (λ t. typed_in n (stmt_of t)) (statement_in b c (statement_of s.kind s.at)) r
switch_follows b n c r s e l place pl k p h =
    let P : Statement → Type 0 = λ f. Follows (λ t. typed_in n (stmt_of t)) (statement_in b c f) r in
    subst P (same_switch s e l place pl k p) h

-- a choice that is refused
pub refused_here : (o : Outcome (Typed Labelled)) (n : Body) (c : Enclosing) (list : List SwitchPart) (i : ℕ) (s : SwitchPart) (there : List Choice) (p : Bool) (f : Refusal) → s ≡ get_or list i s → i < length list
    → o ≡ behind_choices there p (choices_in n c (parts_of (drop i list))) → ((rest : tree.Choices) → Refuses (choices_in n c (part_before s rest)) f) → Refuses o f
refused_here o n c list i s there p refusals.NoMemory is within before h = tt {0}
refused_here o n c list i s there p (refusals.Broken rule at) is within before h =
    before
    ∙ ap (λ l. behind_choices there p (choices_in n c (parts_of l))) (first_left list i s is within)
    ∙ ap (behind_choices there p) (h (parts_of (drop (i + 1) list)))

-- a statement among the choices
pub body_typed : (b n : Body) → context_of n ≡ context_of b
    → (c : Enclosing) (x : SwitchPart) (s : Stmt) (t : TypedStmt) → x ≡ part.Body s → statement_in b c (statement_of s.kind s.at) ≡ just (stmt_of t) (locals_of n)
    → (rest : tree.Choices) → choices_in b c (part_before x rest) ≡ behind_choices (choice.Body t ∷ []) false (choices_in n c rest)
body_typed b n kept c x s t is h rest =
    ap (λ p. choices_in b c (part_before p rest)) is
    ∙ ap (λ o. o >>= λ p. typed_choices b.result (scope_of b.scopes) c p.locals rest >>= λ r. Is (behind_body p.tree r)) h
    ∙ ap (λ o. o >>= λ r. Is (behind_body (stmt_of t) r)) (sym (choices_kept b n kept c (locals_of n) rest))

-- a label among the choices
pub label_typed : (b : Body) (c : Enclosing) (x : SwitchPart) (label : syntax.Expr) (e : Expr) (w : ℕ) (p : Bool) → x ≡ part.Case label
    → constant_typing (scope_of b.scopes) (expression_of label) ≡ Is e → word_at (expression_of label) e ≡ Is w → p ≡ points (kind_of e)
    → (rest : tree.Choices) → choices_in b c (part_before x rest) ≡ behind_choices (choice.Case w ∷ []) p (choices_in b c rest)
label_typed b c x label e w p is typed word pointer rest =
    ap (λ q. choices_in b c (part_before q rest)) is
    ∙ ap (λ o. o >>= λ y. word_at (expression_of label) y >>= λ v. choices_in b c rest >>= λ r. Is (behind_case v (points (kind_of y)) r)) typed
    ∙ ap (λ o. o >>= λ v. choices_in b c rest >>= λ r. Is (behind_case v (points (kind_of e)) r)) word
    ∙ ap (λ q. choices_in b c rest >>= λ r. Is (behind_case w q r)) (sym pointer)

-- objects beside what is broken by three rules or none
beside : (a b d : Bool) (place at : ℕ) (t : typed.Stmt) (ls : List LocalTree)
    → breaks a Redeclared place (breaks b Mismatch place (breaks d Mismatch at (just t ls))) ≡ (breaks a Redeclared place (breaks b Mismatch place (breaks d Mismatch at (Is t))) >>= λ s. just s ls)
beside true b d place at t ls = refl
beside false true d place at t ls = refl
beside false false true place at t ls = refl
beside false false false place at t ls = refl

-- a switch behind its value and its choices
pub switch_rest : (b n : Body) (c : Enclosing) (e : Expression) (cs : tree.Choices) (place at : ℕ) (x : Expr) (l : Labelled) → typing (scope_of b.scopes) e ≡ Is x → choices_in b (in_switch c) cs ≡ just l (locals_of n)
    → (switched place at x l >>= λ t. just t (locals_of n)) ≡ statement_in b c (tree.Switch e cs place at)
switch_rest b n c e cs place at x l valued listed = sym
    (ap (λ o. o >>= λ x. choices_in b (in_switch c) cs >>= λ r. breaks (repeats_label r.tree.choices) Redeclared place (breaks r.tree.pointer Mismatch place (breaks (not (is_integer (class_of (kind_of x)))) Mismatch at (just (Switch x r.tree.choices) r.locals)))) valued
    ∙ ap (λ o. o >>= λ r. breaks (repeats_label r.tree.choices) Redeclared place (breaks r.tree.pointer Mismatch place (breaks (not (is_integer (class_of (kind_of x)))) Mismatch at (just (Switch x r.tree.choices) r.locals)))) listed
    ∙ beside (repeats_label l.choices) l.pointer (not (is_integer (class_of (kind_of x)))) place at (Switch x l.choices) (locals_of n))

pub with_locals_follow : (w : Outcome typed.Stmt) (n : Body) (o : Outcome (Typed typed.Stmt)) (r : Result TypedStmt Refusal) → (w >>= λ t. just t (locals_of n)) ≡ o → Follows stmt_of w r → Follows (λ t. typed_in n (stmt_of t)) o r
with_locals_follow w n o (Ok t) e h = sym e ∙ ap (λ x. x >>= λ s. just s (locals_of n)) h
with_locals_follow w n o (Err refusals.NoMemory) e h = tt {0}
with_locals_follow w n o (Err (refusals.Broken rule at)) e h = sym e ∙ ap (λ x. x >>= λ s. just s (locals_of n)) h
