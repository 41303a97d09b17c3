-- What a word tree does: ISO 9899:1990 6.3 and 6.6 on words at addresses (docs/TRANSLATION.md, "What runs do"). A used value is a word, that of a
-- condition a truth, and an expression whose value isn't used gives nothing. The local objects of a function live from its entry to its
-- return. Work counts a node, by its weight, when its evaluation begins.
use Rattle.std.specs.Prelude.{ℕ, zero, suc, ◌+◌, ◌*◌, Bool, true, false, not, ◌==◌, if◌then◌else◌, List, [], ◌∷◌, length, slice_get, Option, Some, None}
use Rattle.std.specs.Str.{bytes_eq}
use Rattle.word_base.specs.declared.outcome.Ending.TheVariants.{InputEnded}
use Rattle.word_base.specs.Words.{Calc, Good, Bad, truth}
use Rattle.c_syntax.specs.declared.operator.UnaryOp.{UnaryOp}
use Rattle.c_tree.specs.declared.program.VarRef.{VarRef}
use Rattle.c_tree.specs.declared.program.VarRef.TheVariants.{Scalar, Local, Static}
use Rattle.c_tree.specs.TypedTree.{ObjectTree}
use Rattle.c_tree.specs.SourceRun.{main_name}
use Rattle.tree_code.specs.WordLabels.{has_word_case}
use Rattle.tree_code.specs.WordTree.{ExprCode, Node, Named, At, Const, Read, AddressOf, Load, Unary, Binary, And, Or, Not, Pick, Assign, AssignOp, StepBefore, StepAfter, Call, In, Out, Comma, ExprsCode, none, more, StmtCode, Block, Fill, Do_expr, If, While, Do_while, For, Switch, Break, Continue, Return, StmtsCode, done, both, ChoicesCode, no_more, case, default, body, FunctionCode, ProgramCode}
use Rattle.tree_code.specs.declared.operator.WordOp.TheVariants as word
use Rattle.ir_semantics.specs.Parts.{Gives, Finished, TooMany, Fails, Does, after, ◌>>=◌, give, choose, Flow, Next, Broke, Continued, Returned, in_order, behind_switch}
use Rattle.ir_semantics.specs.Outside.{Cell, Nowhere, Unwritten, Holds, Outside, Frame, no_words, with_scalar, with_word, word_of, with_output, with_input, with_memory, Places, address_of, cell_address, initial_words, with_objects}
use Rattle.ir_semantics.specs.Meanings.{Meaning, Calculates, Decides, meaning_of, calculated, of_one_word}

-- the frame of the active function, the word that it returns, what is outside, and the work so far
pub record Tree : Type 0 where
  pub frame : Frame
  pub result : Option ℕ
  pub outside : Outside
  pub work : ℕ

abbrev pub tick : ℕ → Does Tree (Unit {0})
tick k = λ w. Gives tt (record w { work = w.work + k })

abbrev pub fail : {A : Type 0} → Does Tree A
fail = λ w. Fails w.outside.outs

abbrev pub too_many : {A : Type 0} → Does Tree A
too_many = λ w. TooMany w.outside.outs

-- what is there, or the run fails
abbrev pub need : {A : Type 0} → Option A → Does Tree A
need None = fail
need (Some x) = give x

abbrev pub calc : Calc → Does Tree ℕ
calc (Good x) = give x
calc (Bad kind) = fail

-- the words of memory: a word is read where it was written, and written where an object lives
abbrev pub read_word : ℕ → Does Tree ℕ
read_word a = λ w. need (word_of (w.outside.memory a)) w

abbrev pub write_cell : Cell → ℕ → ℕ → Does Tree ℕ
write_cell Nowhere a x = fail
write_cell Unwritten a x = λ w. Gives x (record w { outside = with_memory (with_word a x w.outside.memory) w.outside })
write_cell (Holds y) a x = λ w. Gives x (record w { outside = with_memory (with_word a x w.outside.memory) w.outside })

abbrev pub write_word : ℕ → ℕ → Does Tree ℕ
write_word a x = λ w. write_cell (w.outside.memory a) a x w

-- words from a cell of an object on
abbrev pub write_words : ℕ → ℕ → List ℕ → Does Tree (Unit {0})
write_words a i [] = give tt
write_words a i (x ∷ xs) = write_word (cell_address a i) x >>= λ _. write_words a (suc i) xs

abbrev pub read_scalar : ℕ → Does Tree ℕ
read_scalar n = λ w. need (w.frame n) w

abbrev pub write_scalar : ℕ → ℕ → Does Tree ℕ
write_scalar n x = λ w. Gives x (record w { frame = with_scalar n x w.frame })

-- ports
abbrev pub put : ℕ → ℕ → Does Tree (Unit {0})
put port x = λ w. Gives tt (record w { outside = with_output port x w.outside })

abbrev pub taken : List ℕ → ℕ → Does Tree ℕ
taken [] port = λ w. Finished (InputEnded port) w.outside.outs w.work
taken (x ∷ xs) port = λ w. Gives x (record w { outside = with_input port xs w.outside })

abbrev pub take : ℕ → Does Tree ℕ
take port = λ w. taken (w.outside.input port) port w

-- where the objects of names lie, of those that have an address
abbrev pub Addresses : Type 0
Addresses = VarRef → Option ℕ

abbrev pub read_name : Addresses → VarRef → Does Tree ℕ
read_name at (Scalar n) = read_scalar n
read_name at (Local n) = need (at (Local n)) >>= read_word
read_name at (Static n) = need (at (Static n)) >>= read_word

abbrev pub write_name : Addresses → VarRef → ℕ → Does Tree ℕ
write_name at (Scalar n) x = write_scalar n x
write_name at (Local n) x = need (at (Local n)) >>= λ a. write_word a x
write_name at (Static n) x = need (at (Static n)) >>= λ a. write_word a x

-- each form, from what its parts do, behind its weight
abbrev pub constant_does : ℕ → Does Tree ℕ
constant_does c = tick 2 >>= λ _. give c

abbrev pub address_does : Option ℕ → Does Tree ℕ
address_does a = tick 2 >>= λ _. need a

abbrev pub name_does : Addresses → VarRef → Does Tree ℕ
name_does at v = tick 5 >>= λ _. read_name at v

abbrev pub load_does : Does Tree ℕ → Does Tree ℕ
load_does p = tick 5 >>= λ _. p >>= read_word

abbrev pub unary_does : UnaryOp → Does Tree ℕ → Does Tree ℕ
unary_does o e = tick 1 >>= λ _. e >>= λ x. calc (of_one_word o x)

abbrev pub binary_does : (ℕ → ℕ → Calc) → Does Tree ℕ → Does Tree ℕ → Does Tree ℕ
binary_does f a b = tick 24 >>= λ _. a >>= λ x. b >>= λ y. calc (f x y)

abbrev pub compare_does : (ℕ → ℕ → Bool) → Does Tree ℕ → Does Tree ℕ → Does Tree Bool
compare_does f a b = tick 24 >>= λ _. a >>= λ x. b >>= λ y. give (f x y)

abbrev pub and_does : Does Tree Bool → Does Tree Bool → Does Tree Bool
and_does a b = tick 20 >>= λ _. a >>= λ t. choose t b (give false)

abbrev pub or_does : Does Tree Bool → Does Tree Bool → Does Tree Bool
or_does a b = tick 20 >>= λ _. a >>= λ t. choose t (give true) b

abbrev pub not_does : Does Tree Bool → Does Tree Bool
not_does a = tick 10 >>= λ _. a >>= λ t. give (not t)

abbrev pub pick_does : {A : Type 0} → Does Tree Bool → Does Tree A → Does Tree A → Does Tree A
pick_does c a b = tick 14 >>= λ _. c >>= λ t. choose t a b

abbrev pub comma_does : {A : Type 0} → Does Tree (Unit {0}) → Does Tree A → Does Tree A
comma_does a b = tick 1 >>= λ _. a >>= λ _. b

-- a store behind a value, to a name and to an address that comes before it
abbrev pub assign_name_does : Addresses → VarRef → Does Tree ℕ → Does Tree ℕ
assign_name_does at v e = tick 19 >>= λ _. e >>= λ x. write_name at v x

abbrev pub assign_at_does : Does Tree ℕ → Does Tree ℕ → Does Tree ℕ
assign_at_does p e = tick 19 >>= λ _. p >>= λ a. e >>= λ x. write_word a x

-- with an operation: the old word is read before the operand
abbrev pub update_name_does : Addresses → (ℕ → ℕ → Calc) → VarRef → Does Tree ℕ → Does Tree ℕ
update_name_does at f v e = tick 48 >>= λ _. read_name at v >>= λ x. e >>= λ y. calc (f x y) >>= λ z. write_name at v z

abbrev pub update_at_does : (ℕ → ℕ → Calc) → Does Tree ℕ → Does Tree ℕ → Does Tree ℕ
update_at_does f p e = tick 48 >>= λ _. p >>= λ a. read_word a >>= λ x. e >>= λ y. calc (f x y) >>= λ z. write_word a z

-- a word one up or down, and the word before
abbrev pub stepped : Bool → ℕ → Calc
stepped up x = calculated (meaning_of (if up then word.Add else word.Sub)) x 1

abbrev pub step_name_does : Addresses → Bool → VarRef → Does Tree (ℕ × ℕ)
step_name_does at up v = tick 14 >>= λ _. read_name at v >>= λ x. calc (stepped up x) >>= λ z. write_name at v z >>= λ _. give (x, z)

abbrev pub step_at_does : Bool → Does Tree ℕ → Does Tree (ℕ × ℕ)
step_at_does up p = tick 14 >>= λ _. p >>= λ a. read_word a >>= λ x. calc (stepped up x) >>= λ z. write_word a z >>= λ _. give (x, z)

abbrev pub before : ℕ × ℕ → Does Tree ℕ
before d = give d.0

abbrev pub behind : ℕ × ℕ → Does Tree ℕ
behind d = give d.1

abbrev pub in_does : ℕ → Does Tree ℕ
in_does port = tick 4 >>= λ _. take port

abbrev pub out_does : ℕ → Does Tree ℕ → Does Tree (Unit {0})
out_does port e = tick 4 >>= λ _. e >>= λ x. put port x

-- what a call of a function does: it may give no value
abbrev pub Calls : Type 0
Calls = ℕ → List ℕ → Does Tree (Option ℕ)

abbrev pub argument_does : Does Tree ℕ → Does Tree (List ℕ) → Does Tree (List ℕ)
argument_does e rest = tick 12 >>= λ _. e >>= λ x. rest >>= λ xs. give (x ∷ xs)

abbrev pub call_does : (List ℕ → Does Tree (Option ℕ)) → Does Tree (List ℕ) → Does Tree (Option ℕ)
call_does f args = tick 2 >>= λ _. args >>= f

abbrev pub as_word : Does Tree Bool → Does Tree ℕ
as_word f = f >>= λ t. give (truth t)

abbrev pub as_truth : Does Tree ℕ → Does Tree Bool
as_truth f = f >>= λ x. give (not (x == 0))

abbrev pub as_nothing : {A : Type 0} → Does Tree A → Does Tree (Unit {0})
as_nothing f = f >>= λ _. give tt

-- an operator, by what it means
abbrev pub operation_word : Meaning → Does Tree ℕ → Does Tree ℕ → Does Tree ℕ
operation_word (Calculates f) a b = binary_does f a b
operation_word (Decides f) a b = as_word (compare_does f a b)

abbrev pub operation_truth : Meaning → Does Tree ℕ → Does Tree ℕ → Does Tree Bool
operation_truth (Calculates f) a b = as_truth (binary_does f a b)
operation_truth (Decides f) a b = compare_does f a b

abbrev pub operation_effect : Meaning → Does Tree ℕ → Does Tree ℕ → Does Tree (Unit {0})
operation_effect (Calculates f) a b = as_nothing (binary_does f a b)
operation_effect (Decides f) a b = as_nothing (compare_does f a b)

module _ (calls : Calls) (at : Addresses) where
  abbrev mutual
    -- the truth of an expression
    pub decide : ExprCode → Does Tree Bool
    decide (Node (Const c) place) = as_truth (constant_does c)
    decide (Node (Read v) place) = as_truth (name_does at v)
    decide (Node (AddressOf v) place) = as_truth (address_does (at v))
    decide (Node (Load e) place) = as_truth (load_does (value e))
    decide (Node (Unary o e) place) = as_truth (unary_does o (value e))
    decide (Node (Binary o a b) place) = operation_truth (meaning_of o) (value a) (value b)
    decide (Node (And a b) place) = and_does (decide a) (decide b)
    decide (Node (Or a b) place) = or_does (decide a) (decide b)
    decide (Node (Not a) place) = not_does (decide a)
    decide (Node (Pick c a b) place) = as_truth (pick_does (decide c) (value a) (value b))
    decide (Node (Assign (Named v p) e) place) = as_truth (assign_name_does at v (value e))
    decide (Node (Assign (At l p) e) place) = as_truth (assign_at_does (value l) (value e))
    decide (Node (AssignOp o (Named v p) e) place) = as_truth (update_name_does at (calculated (meaning_of o)) v (value e))
    decide (Node (AssignOp o (At l p) e) place) = as_truth (update_at_does (calculated (meaning_of o)) (value l) (value e))
    decide (Node (StepBefore up (Named v p)) place) = as_truth (step_name_does at up v >>= behind)
    decide (Node (StepBefore up (At l p)) place) = as_truth (step_at_does up (value l) >>= behind)
    decide (Node (StepAfter up (Named v p)) place) = as_truth (step_name_does at up v >>= before)
    decide (Node (StepAfter up (At l p)) place) = as_truth (step_at_does up (value l) >>= before)
    decide (Node (Call f args) place) = as_truth (call_does (calls f) (values args) >>= need)
    decide (Node (In port) place) = as_truth (in_does port)
    decide (Node (Out port e) place) = as_truth (out_does port (value e) >>= λ _. fail)
    decide (Node (Comma a b) place) = comma_does (effect a) (decide b)

    -- its word
    pub value : ExprCode → Does Tree ℕ
    value (Node (Const c) place) = constant_does c
    value (Node (Read v) place) = name_does at v
    value (Node (AddressOf v) place) = address_does (at v)
    value (Node (Load e) place) = load_does (value e)
    value (Node (Unary o e) place) = unary_does o (value e)
    value (Node (Binary o a b) place) = operation_word (meaning_of o) (value a) (value b)
    value (Node (And a b) place) = as_word (and_does (decide a) (decide b))
    value (Node (Or a b) place) = as_word (or_does (decide a) (decide b))
    value (Node (Not a) place) = as_word (not_does (decide a))
    value (Node (Pick c a b) place) = pick_does (decide c) (value a) (value b)
    value (Node (Assign (Named v p) e) place) = assign_name_does at v (value e)
    value (Node (Assign (At l p) e) place) = assign_at_does (value l) (value e)
    value (Node (AssignOp o (Named v p) e) place) = update_name_does at (calculated (meaning_of o)) v (value e)
    value (Node (AssignOp o (At l p) e) place) = update_at_does (calculated (meaning_of o)) (value l) (value e)
    value (Node (StepBefore up (Named v p)) place) = step_name_does at up v >>= behind
    value (Node (StepBefore up (At l p)) place) = step_at_does up (value l) >>= behind
    value (Node (StepAfter up (Named v p)) place) = step_name_does at up v >>= before
    value (Node (StepAfter up (At l p)) place) = step_at_does up (value l) >>= before
    value (Node (Call f args) place) = call_does (calls f) (values args) >>= need
    value (Node (In port) place) = in_does port
    value (Node (Out port e) place) = out_does port (value e) >>= λ _. fail
    value (Node (Comma a b) place) = comma_does (effect a) (value b)

    -- the words of arguments, from left to right
    pub values : ExprsCode → Does Tree (List ℕ)
    values none = give []
    values (more e rest) = argument_does (value e) (values rest)

    -- what an expression does whose value isn't used
    pub effect : ExprCode → Does Tree (Unit {0})
    effect (Node (Const c) place) = as_nothing (constant_does c)
    effect (Node (Read v) place) = as_nothing (name_does at v)
    effect (Node (AddressOf v) place) = as_nothing (address_does (at v))
    effect (Node (Load e) place) = as_nothing (load_does (value e))
    effect (Node (Unary o e) place) = as_nothing (unary_does o (value e))
    effect (Node (Binary o a b) place) = operation_effect (meaning_of o) (value a) (value b)
    effect (Node (And a b) place) = as_nothing (and_does (decide a) (decide b))
    effect (Node (Or a b) place) = as_nothing (or_does (decide a) (decide b))
    effect (Node (Not a) place) = as_nothing (not_does (decide a))
    effect (Node (Pick c a b) place) = pick_does (decide c) (effect a) (effect b)
    effect (Node (Assign (Named v p) e) place) = as_nothing (assign_name_does at v (value e))
    effect (Node (Assign (At l p) e) place) = as_nothing (assign_at_does (value l) (value e))
    effect (Node (AssignOp o (Named v p) e) place) = as_nothing (update_name_does at (calculated (meaning_of o)) v (value e))
    effect (Node (AssignOp o (At l p) e) place) = as_nothing (update_at_does (calculated (meaning_of o)) (value l) (value e))
    effect (Node (StepBefore up (Named v p)) place) = as_nothing (step_name_does at up v)
    effect (Node (StepBefore up (At l p)) place) = as_nothing (step_at_does up (value l))
    effect (Node (StepAfter up (Named v p)) place) = as_nothing (step_name_does at up v)
    effect (Node (StepAfter up (At l p)) place) = as_nothing (step_at_does up (value l))
    effect (Node (Call f args) place) = as_nothing (call_does (calls f) (values args))
    effect (Node (In port) place) = as_nothing (in_does port)
    effect (Node (Out port e) place) = out_does port (value e)
    effect (Node (Comma a b) place) = comma_does (effect a) (effect b)

-- behind a turn: the next one, unless the turn left the loop
abbrev pub after_turn : Flow → Does Tree Flow → Does Tree Flow
after_turn Next again = again
after_turn Continued again = again
after_turn Broke again = give Next
after_turn Returned again = give Returned

-- at most n turns, each behind a test; a turn counts as the loop does
abbrev pub turns : ℕ → Does Tree Bool → Does Tree Flow → Does Tree (Unit {0}) → Does Tree Flow
turns zero test each third = test >>= λ t. choose t too_many (give Next)
turns (suc n) test each third =
    test >>= λ t. choose t (tick 14 >>= λ _. each >>= λ flow. after_turn flow (third >>= λ _. turns n test each third)) (give Next)

-- at most n turns, each before a test
abbrev pub turns_first : ℕ → Does Tree Flow → Does Tree Bool → Does Tree Flow
turns_first zero each test = too_many
turns_first (suc n) each test =
    tick 14 >>= λ _. each >>= λ flow. after_turn flow (test >>= λ t. choose t (turns_first n each test) (give Next))

-- the labels of a switch count whenever it is evaluated
abbrev pub label_weights : ChoicesCode → ℕ
label_weights no_more = 0
label_weights (case x rest) = 7 + label_weights rest
label_weights (default rest) = 2 + label_weights rest
label_weights (body s rest) = label_weights rest

abbrev pub returning : Option ℕ → Does Tree Flow
returning x = λ w. Gives Returned (record w { result = x })

-- a local array gets its list, and zeros behind it
abbrev pub fill_does : Places → Option ObjectTree → Option ℕ → Does Tree Flow
fill_does q None a = fail
fill_does q (Some o) None = fail
fill_does q (Some o) (Some a) = tick (9 + (9 * length o.initial + 64 * o.length)) >>= λ _. write_words a 0 (initial_words q o) >>= λ _. give Next

-- what statements do in a function of these local objects, where a loop makes at most n turns each time that it is executed
module _ (calls : Calls) (at : Addresses) (q : Places) (locals : List ObjectTree) (n : ℕ) where
  abbrev pub optional_effect : Option ExprCode → Does Tree (Unit {0})
  optional_effect None = give tt
  optional_effect (Some e) = effect calls at e

  abbrev pub optional_test : Option ExprCode → Does Tree Bool
  optional_test None = give true
  optional_test (Some e) = decide calls at e

  abbrev mutual
    pub exec : StmtCode → Does Tree Flow
    exec (Block declared ss) = tick 1 >>= λ _. exec_all ss
    exec (Fill k) = fill_does q (slice_get locals k) (at (Local k))
    exec (Do_expr e) = tick 1 >>= λ _. effect calls at e >>= λ _. give Next
    exec (If e a b) = tick 6 >>= λ _. decide calls at e >>= λ t. choose t (exec a) (exec b)
    exec (While e a) = tick 14 >>= λ _. turns n (decide calls at e) (exec a) (give tt)
    exec (Do_while a e) = tick 14 >>= λ _. turns_first n (exec a) (decide calls at e)
    exec (For x y z a) = tick 14 >>= λ _. optional_effect x >>= λ _. turns n (optional_test y) (exec a) (optional_effect z)
    exec (Switch e cs) = tick (8 + label_weights cs) >>= λ _. value calls at e
        >>= λ x. choose (has_word_case x cs) (from_case x cs) (from_default cs)
        >>= behind_switch
    exec Break = tick 2 >>= λ _. give Broke
    exec Continue = tick 2 >>= λ _. give Continued
    exec (Return None) = tick 3 >>= λ _. returning None
    exec (Return (Some e)) = tick 3 >>= λ _. value calls at e >>= λ x. returning (Some x)

    pub exec_all : StmtsCode → Does Tree Flow
    exec_all done = give Next
    exec_all (both s ss) = exec s >>= λ flow. in_order flow (exec_all ss)

    -- the statements from the case of this word on
    pub from_case : ℕ → ChoicesCode → Does Tree Flow
    from_case x no_more = give Next
    from_case x (case y rest) = choose (x == y) (run_choices rest) (from_case x rest)
    from_case x (default rest) = from_case x rest
    from_case x (body s rest) = from_case x rest

    -- those from the default on
    pub from_default : ChoicesCode → Does Tree Flow
    from_default no_more = give Next
    from_default (case y rest) = from_default rest
    from_default (default rest) = run_choices rest
    from_default (body s rest) = from_default rest

    -- all of them, past the labels
    pub run_choices : ChoicesCode → Does Tree Flow
    run_choices no_more = give Next
    run_choices (case y rest) = run_choices rest
    run_choices (default rest) = run_choices rest
    run_choices (body s rest) = exec s >>= λ flow. in_order flow (run_choices rest)

-- each argument goes to its parameter
abbrev pub pass : Addresses → List VarRef → List ℕ → Does Tree (Unit {0})
pass at [] xs = give tt
pass at (p ∷ ps) [] = give tt
pass at (p ∷ ps) (x ∷ xs) = write_name at p x >>= λ _. pass at ps xs

-- at the entry of a function no word of its frame and of its objects was written
abbrev pub entered : Places → ℕ → FunctionCode → Tree → Tree
entered q f g w = record {
  frame = no_words;
  result = None;
  outside = with_memory (with_objects Unwritten q f 0 g.locals w.outside.memory) w.outside;
  work = w.work + 10;
}

-- behind its return the caller's frame stands again, and its objects have ended
abbrev pub left : Places → ℕ → FunctionCode → Frame → Tree → Tree
left q f g caller w = record {
  frame = caller;
  result = None;
  outside = with_memory (with_objects Nowhere q f 0 g.locals w.outside.memory) w.outside;
  work = w.work;
}

abbrev pub back : Places → ℕ → FunctionCode → Frame → Flow → Does Tree (Option ℕ)
back q f g caller Next = λ w. Gives None (left q f g caller w)
back q f g caller Broke = fail
back q f g caller Continued = fail
back q f g caller Returned = λ w. Gives w.result (left q f g caller w)

abbrev pub body_does : Calls → Places → ℕ → ℕ → FunctionCode → List ℕ → Does Tree Flow
body_does calls q n f g args = pass (address_of q f) g.params args >>= λ _. exec calls (address_of q f) q g.locals n g.body

abbrev pub called : Calls → Places → ℕ → ℕ → Option FunctionCode → List ℕ → Does Tree (Option ℕ)
called calls q n f None args = too_many
called calls q n f (Some g) args = λ w. after (body_does calls q n f g args (entered q f g w)) (back q f g w.frame)

-- calls that are nested at most so deep; no function calls itself, so the number of functions is deep enough
abbrev pub call_within : Places → List FunctionCode → ℕ → ℕ → Calls
call_within q fs n zero f args = too_many
call_within q fs n (suc depth) f args = called (call_within q fs n depth) q n f (slice_get fs f) args

-- the number of `main`, among functions of which the first one has this number
abbrev pub main_from : ℕ → List FunctionCode → ℕ
main_from k [] = k
main_from k (f ∷ fs) = if bytes_eq f.name main_name then k else main_from (suc k) fs

-- a run of a whole program on an input
abbrev pub run_tree : Places → ProgramCode → ℕ → Does Tree (Option ℕ)
run_tree q p n = call_within q p.functions n (suc (length p.functions)) (main_from 0 p.functions) []
