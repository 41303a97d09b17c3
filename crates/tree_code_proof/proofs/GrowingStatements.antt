-- Statements, calls and runs of word trees only add to their outputs too.
use Rattle.std.proofs.Common.{ℕ, zero, suc, ◌+◌, ◌*◌, Bool, true, List, [], ◌∷◌, length, Option, Some, None}
use Rattle.std.specs.Prelude.{slice_get, ◌==◌}
use Rattle.c_tree.specs.declared.program.VarRef.{VarRef}
use Rattle.c_tree.specs.declared.program.VarRef.TheVariants.{Local}
use Rattle.c_tree.specs.TypedTree.{ObjectTree}
use Rattle.tree_code.specs.WordLabels.{has_word_case}
use Rattle.tree_code.specs.WordTree as tree
use Rattle.tree_code.specs.WordTree.{ExprCode, StmtCode, StmtsCode, ChoicesCode, FunctionCode}
use Rattle.ir_semantics.specs.Parts.{Does, Flow, Next, Broke, Continued, Returned, in_order, behind_switch}
use Rattle.ir_semantics.specs.Outside.{Frame, Places, address_of, initial_words}
use Rattle.ir_semantics.specs.TreeRun as run
use Rattle.ir_semantics.specs.TreeRun.{Tree, Addresses, Calls}
use Rattle.tree_code_proof.proofs.Growing.{Grows, prefix_refl, behind, give_grows, fail_grows, too_many_grows, ticked, bind_grows, choose_grows, write_words_grow, write_name_grows, decide_grows, value_grows, effect_grows}

pub in_order_grows : (flow : Flow) {f : Does Tree Flow} → Grows f → Grows (in_order flow f)
in_order_grows Next g = g
in_order_grows Broke g = give_grows Broke
in_order_grows Continued g = give_grows Continued
in_order_grows Returned g = give_grows Returned

pub turn_grows : (flow : Flow) {f : Does Tree Flow} → Grows f → Grows (run.after_turn flow f)
turn_grows Next g = g
turn_grows Broke g = give_grows Next
turn_grows Continued g = g
turn_grows Returned g = give_grows Returned

pub switch_grows : (flow : Flow) → Grows (behind_switch {S = Tree} flow)
switch_grows Next = give_grows Next
switch_grows Broke = give_grows Next
switch_grows Continued = give_grows Continued
switch_grows Returned = give_grows Returned

pub turns_grow : (n : ℕ) {test : Does Tree Bool} {each : Does Tree Flow} {third : Does Tree (Unit {0})} → Grows test → Grows each → Grows third → Grows (run.turns n test each third)
turns_grow zero a b c = bind_grows a (λ t. choose_grows t too_many_grows (give_grows Next))
turns_grow (suc n) a b c =
    bind_grows a (λ t. choose_grows t (bind_grows (ticked 14 (λ _. b)) (λ flow. turn_grows flow (bind_grows c (λ _. turns_grow n a b c)))) (give_grows Next))

pub turns_first_grow : (n : ℕ) {each : Does Tree Flow} {test : Does Tree Bool} → Grows each → Grows test → Grows (run.turns_first n each test)
turns_first_grow zero b a = too_many_grows
turns_first_grow (suc n) b a =
    bind_grows (ticked 14 (λ _. b)) (λ flow. turn_grows flow (bind_grows a (λ t. choose_grows t (turns_first_grow n b a) (give_grows Next))))

pub returning_grows : (x : Option ℕ) → Grows (run.returning x)
returning_grows x = record { by = λ v. prefix_refl v.outside.outs }

pub fill_grows : (q : Places) (o : Option ObjectTree) (a : Option ℕ) → Grows (run.fill_does q o a)
fill_grows q None a = fail_grows
fill_grows q (Some o) None = fail_grows
fill_grows q (Some o) (Some a) = bind_grows (ticked (9 + (9 * length o.initial + 64 * o.length)) (λ _. write_words_grow a 0 (initial_words q o))) (λ _. give_grows Next)

module _ (calls : Calls) (at : Addresses) (q : Places) (locals : List ObjectTree) (n : ℕ) (grow : (f : ℕ) (xs : List ℕ) → Grows (calls f xs)) where
  optional_grows : (e : Option ExprCode) → Grows (run.optional_effect calls at q locals n e)
  optional_grows None = give_grows tt
  optional_grows (Some e) = effect_grows calls at grow e

  test_grows : (e : Option ExprCode) → Grows (run.optional_test calls at q locals n e)
  test_grows None = give_grows true
  test_grows (Some e) = decide_grows calls at grow e

  mutual
    pub exec_grows : (s : StmtCode) → Grows (run.exec calls at q locals n s)
    exec_grows (tree.Block declared ss) = ticked 1 (λ _. all_grow ss)
    exec_grows (tree.Fill k) = fill_grows q (slice_get locals k) (at (Local k))
    exec_grows (tree.Do_expr e) = bind_grows (ticked 1 (λ _. effect_grows calls at grow e)) (λ _. give_grows Next)
    exec_grows (tree.If e a b) = bind_grows (ticked 6 (λ _. decide_grows calls at grow e)) (λ t. choose_grows t (exec_grows a) (exec_grows b))
    exec_grows (tree.While e a) = ticked 14 (λ _. turns_grow n (decide_grows calls at grow e) (exec_grows a) (give_grows tt))
    exec_grows (tree.Do_while a e) = ticked 14 (λ _. turns_first_grow n (exec_grows a) (decide_grows calls at grow e))
    exec_grows (tree.For x y z a) = bind_grows (ticked 14 (λ _. optional_grows x)) (λ _. turns_grow n (test_grows y) (exec_grows a) (optional_grows z))
    exec_grows (tree.Switch e cs) =
        bind_grows (ticked (8 + run.label_weights cs) (λ _. value_grows calls at grow e)) (λ x. bind_grows (choose_grows (has_word_case x cs) (case_grows x cs) (default_grows cs)) switch_grows)
    exec_grows tree.Break = ticked 2 (λ _. give_grows Broke)
    exec_grows tree.Continue = ticked 2 (λ _. give_grows Continued)
    exec_grows (tree.Return None) = ticked 3 (λ _. returning_grows None)
    exec_grows (tree.Return (Some e)) = bind_grows (ticked 3 (λ _. value_grows calls at grow e)) (λ x. returning_grows (Some x))

    pub all_grow : (ss : StmtsCode) → Grows (run.exec_all calls at q locals n ss)
    all_grow tree.done = give_grows Next
    all_grow (tree.both s ss) = bind_grows (exec_grows s) (λ flow. in_order_grows flow (all_grow ss))

    case_grows : (x : ℕ) (cs : ChoicesCode) → Grows (run.from_case calls at q locals n x cs)
    case_grows x tree.no_more = give_grows Next
    case_grows x (tree.case y rest) = choose_grows (x == y) (choices_grow rest) (case_grows x rest)
    case_grows x (tree.default rest) = case_grows x rest
    case_grows x (tree.body s rest) = case_grows x rest

    default_grows : (cs : ChoicesCode) → Grows (run.from_default calls at q locals n cs)
    default_grows tree.no_more = give_grows Next
    default_grows (tree.case y rest) = default_grows rest
    default_grows (tree.default rest) = choices_grow rest
    default_grows (tree.body s rest) = default_grows rest

    choices_grow : (cs : ChoicesCode) → Grows (run.run_choices calls at q locals n cs)
    choices_grow tree.no_more = give_grows Next
    choices_grow (tree.case y rest) = choices_grow rest
    choices_grow (tree.default rest) = choices_grow rest
    choices_grow (tree.body s rest) = bind_grows (exec_grows s) (λ flow. in_order_grows flow (choices_grow rest))

pub pass_grows : (at : Addresses) (ps : List VarRef) (xs : List ℕ) → Grows (run.pass at ps xs)
pass_grows at [] xs = give_grows tt
pass_grows at (p ∷ ps) [] = give_grows tt
pass_grows at (p ∷ ps) (x ∷ xs) = bind_grows (write_name_grows at p x) (λ _. pass_grows at ps xs)

back_grows : (q : Places) (f : ℕ) (g : FunctionCode) (caller : Frame) (flow : Flow) → Grows (run.back q f g caller flow)
back_grows q f g caller Next = record { by = λ v. prefix_refl v.outside.outs }
back_grows q f g caller Broke = fail_grows
back_grows q f g caller Continued = fail_grows
back_grows q f g caller Returned = record { by = λ v. prefix_refl v.outside.outs }

body_grows : (calls : Calls) (q : Places) (n f : ℕ) (g : FunctionCode) (args : List ℕ) → ((f : ℕ) (xs : List ℕ) → Grows (calls f xs)) → Grows (run.body_does calls q n f g args)
body_grows calls q n f g args h = bind_grows (pass_grows (address_of q f) g.params args) (λ _. exec_grows calls (address_of q f) q g.locals n h g.body)

called_grows : (calls : Calls) (q : Places) (n f : ℕ) (g : Option FunctionCode) (args : List ℕ) → ((f : ℕ) (xs : List ℕ) → Grows (calls f xs)) → Grows (run.called calls q n f g args)
called_grows calls q n f None args h = too_many_grows
called_grows calls q n f (Some g) args h = record {
  by = λ v. behind v.outside.outs (run.body_does calls q n f g args (run.entered q f g v)) (run.back q f g v.frame) ((body_grows calls q n f g args h).by (run.entered q f g v)) (back_grows q f g v.frame);
}

pub calls_grow : (q : Places) (fs : List FunctionCode) (n depth f : ℕ) (xs : List ℕ) → Grows (run.call_within q fs n depth f xs)
calls_grow q fs n zero f xs = too_many_grows
calls_grow q fs n (suc depth) f xs = called_grows (run.call_within q fs n depth) q n f (slice_get fs f) xs (calls_grow q fs n depth)
