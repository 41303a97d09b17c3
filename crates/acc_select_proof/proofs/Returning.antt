-- Where each `return` has a value a body never returns without one.
use Rattle.std.proofs.Common.{◌≡◌, ℕ, zero, suc, Bool, true, false, List, Option, Some, None, subst}
use Rattle.std.specs.Prelude.{slice_get}
use Rattle.c_tree.specs.declared.program.VarRef.TheVariants.{Local}
use Rattle.c_tree.specs.TypedTree.{ObjectTree}
use Rattle.tree_code.specs.WordLabels.{has_word_case}
use Rattle.tree_code.specs.WordTree.{StmtCode, Block, Fill, Do_expr, If, While, Do_while, For, Switch, Break, Continue, Return, StmtsCode, done, both, ChoicesCode, no_more, case, default, body, FunctionCode}
use Rattle.ir_semantics.specs.Parts.{Res, Gives, Finished, TooMany, Fails, Does, after, ◌>>=◌, give, choose, Flow, Next, Broke, Continued, Returned, in_order, behind_switch}
use Rattle.ir_semantics.specs.Outside.{Places, initial_words, address_of}
use Rattle.ir_semantics.specs.TreeRun.{Tree, Addresses, Calls, decide, value, effect, after_turn, turns, turns_first, optional_effect, optional_test, write_words, fill_does, returning, exec, exec_all, from_case, from_default, run_choices}
pub use Rattle.acc_select_proof.specs.FitStatements.{ReturnsValues, AllReturnValues, ChoicesReturnValues}
use Rattle.acc_select_proof.proofs.Functions.{AlwaysGives}

-- a run that doesn't return without a value
abbrev Valued : Res Tree Flow → Type 0
Valued (Gives Next w) = Unit {0}
Valued (Gives Broke w) = Unit {0}
Valued (Gives Continued w) = Unit {0}
Valued (Gives Returned w) = w.result ≡ None → ⊥
Valued (Finished ending outs work) = Unit {0}
Valued (TooMany outs) = Unit {0}
Valued (Fails outs) = Unit {0}

abbrev AlwaysValued : Does Tree Flow → Type 0
AlwaysValued f = (w : Tree) → Valued (f w)

behind_any : {A : Type 0} (r : Res Tree A) (g : A → Does Tree Flow) → ((a : A) → AlwaysValued (g a)) → Valued (after r g)
behind_any (Gives a w) g h = h a w
behind_any (Finished ending outs work) g h = tt
behind_any (TooMany outs) g h = tt
behind_any (Fails outs) g h = tt

chosen : (t : Bool) (f g : Does Tree Flow) → AlwaysValued f → AlwaysValued g → AlwaysValued (choose t f g)
chosen true f g a b = a
chosen false f g a b = b

ordered : (r : Res Tree Flow) (f : Does Tree Flow) → Valued r → AlwaysValued f → Valued (after r (λ flow. in_order flow f))
ordered (Gives Next w) f a b = b w
ordered (Gives Broke w) f a b = tt
ordered (Gives Continued w) f a b = tt
ordered (Gives Returned w) f a b = a
ordered (Finished ending outs work) f a b = tt
ordered (TooMany outs) f a b = tt
ordered (Fails outs) f a b = tt

turned : (r : Res Tree Flow) (f : Does Tree Flow) → Valued r → AlwaysValued f → Valued (after r (λ flow. after_turn flow f))
turned (Gives Next w) f a b = b w
turned (Gives Broke w) f a b = tt
turned (Gives Continued w) f a b = b w
turned (Gives Returned w) f a b = a
turned (Finished ending outs work) f a b = tt
turned (TooMany outs) f a b = tt
turned (Fails outs) f a b = tt

switched : (r : Res Tree Flow) → Valued r → Valued (after r behind_switch)
switched (Gives Next w) a = tt
switched (Gives Broke w) a = tt
switched (Gives Continued w) a = tt
switched (Gives Returned w) a = a
switched (Finished ending outs work) a = tt
switched (TooMany outs) a = tt
switched (Fails outs) a = tt

turns_valued : (n : ℕ) (test : Does Tree Bool) (each : Does Tree Flow) (third : Does Tree (Unit {0})) → AlwaysValued each → AlwaysValued (turns n test each third)
turns_valued zero test each third h w = behind_any (test w) _ (λ t. chosen t _ _ (λ u. tt) (λ u. tt))
turns_valued (suc n) test each third h w =
    behind_any (test w) _ (λ t. chosen t _ _ (λ u. turned (each _) (third >>= λ _. turns n test each third) (h _) (λ m. behind_any (third m) _ (λ _. turns_valued n test each third h))) (λ u. tt))

turns_first_valued : (n : ℕ) (each : Does Tree Flow) (test : Does Tree Bool) → AlwaysValued each → AlwaysValued (turns_first n each test)
turns_first_valued zero each test h w = tt
turns_first_valued (suc n) each test h w =
    turned (each _) (test >>= λ t. choose t (turns_first n each test) (give Next)) (h _) (λ m. behind_any (test m) _ (λ t. chosen t (turns_first n each test) (give Next) (turns_first_valued n each test h) (λ u. tt)))

fill_valued : (q : Places) (o : Option ObjectTree) (a : Option ℕ) → AlwaysValued (fill_does q o a)
fill_valued q None a w = tt
fill_valued q (Some o) None w = tt
fill_valued q (Some o) (Some a) w = behind_any (write_words a 0 (initial_words q o) _) (λ _. give Next) (λ x u. tt)

module _ (calls : Calls) (at : Addresses) (q : Places) (locals : List ObjectTree) (n : ℕ) where
  mutual
    statement_valued : (s : StmtCode) → ReturnsValues s → AlwaysValued (exec calls at q locals n s)
    statement_valued (Block declared ss) h w = all_valued ss h _
    statement_valued (Fill k) h w = fill_valued q (slice_get locals k) (at (Local k)) w
    statement_valued (Do_expr e) h w = behind_any (effect calls at e _) (λ _. give Next) (λ x u. tt)
    statement_valued (If e a b) h w = behind_any (decide calls at e _) (λ t. choose t (exec calls at q locals n a) (exec calls at q locals n b)) (λ t. chosen t (exec calls at q locals n a) (exec calls at q locals n b) (statement_valued a h.0) (statement_valued b h.1))
    statement_valued (While e a) h w = turns_valued n (decide calls at e) (exec calls at q locals n a) (give tt) (statement_valued a h) _
    statement_valued (Do_while a e) h w = turns_first_valued n (exec calls at q locals n a) (decide calls at e) (statement_valued a h) _
    statement_valued (For x y z a) h w = behind_any (optional_effect calls at q locals n x _) (λ _. turns n (optional_test calls at q locals n y) (exec calls at q locals n a) (optional_effect calls at q locals n z)) (λ _. turns_valued n (optional_test calls at q locals n y) (exec calls at q locals n a) (optional_effect calls at q locals n z) (statement_valued a h))
    statement_valued (Switch e cs) h w =
        behind_any (value calls at e _) (λ x. choose (has_word_case x cs) (from_case calls at q locals n x cs) (from_default calls at q locals n cs) >>= behind_switch) (λ x u. switched (choose (has_word_case x cs) (from_case calls at q locals n x cs) (from_default calls at q locals n cs) u) (chosen (has_word_case x cs) (from_case calls at q locals n x cs) (from_default calls at q locals n cs) (case_valued x cs h) (default_valued cs h) u))
    statement_valued Break h w = tt
    statement_valued Continue h w = tt
    statement_valued (Return None) h w = absurd h
    statement_valued (Return (Some e)) h w = behind_any (value calls at e _) (λ x. returning (Some x)) (λ x u e. cc)

    all_valued : (ss : StmtsCode) → AllReturnValues ss → AlwaysValued (exec_all calls at q locals n ss)
    all_valued done h w = tt
    all_valued (both s ss) h w = ordered (exec calls at q locals n s w) (exec_all calls at q locals n ss) (statement_valued s h.0 w) (all_valued ss h.1)

    case_valued : (x : ℕ) (cs : ChoicesCode) → ChoicesReturnValues cs → AlwaysValued (from_case calls at q locals n x cs)
    case_valued x no_more h w = tt
    case_valued x (case y rest) h w = chosen _ (run_choices calls at q locals n rest) (from_case calls at q locals n x rest) (choices_valued rest h) (case_valued x rest h) w
    case_valued x (default rest) h w = case_valued x rest h w
    case_valued x (body s rest) h w = case_valued x rest h.1 w

    default_valued : (cs : ChoicesCode) → ChoicesReturnValues cs → AlwaysValued (from_default calls at q locals n cs)
    default_valued no_more h w = tt
    default_valued (case y rest) h w = default_valued rest h w
    default_valued (default rest) h w = choices_valued rest h w
    default_valued (body s rest) h w = default_valued rest h.1 w

    choices_valued : (cs : ChoicesCode) → ChoicesReturnValues cs → AlwaysValued (run_choices calls at q locals n cs)
    choices_valued no_more h w = tt
    choices_valued (case y rest) h w = choices_valued rest h w
    choices_valued (default rest) h w = choices_valued rest h w
    choices_valued (body s rest) h w = ordered (exec calls at q locals n s w) (run_choices calls at q locals n rest) (statement_valued s h.0 w) (choices_valued rest h.1)

pub always_gives : (q : Places) (limit f : ℕ) (g : FunctionCode) → ReturnsValues g.body → AlwaysGives q limit f g
always_gives q limit f g h = record { by = λ calls w u e. subst Valued e (statement_valued calls (address_of q f) q g.locals limit g.body h w) }
