-- A word tree only adds to its outputs, whatever it does: so where a typed program is undefined, its outputs are a beginning of the tree's.
use Rattle.std.proofs.Common.{ℕ, suc, Bool, true, false, not, List, [], ◌∷◌, ◌++◌, Option, Some, None, refl, sym, ap, ◌∙◌, append_assoc, append-nil}
use Rattle.word_base.specs.Ports.{Outputs, Prefix}
use Rattle.word_base.specs.Words.{Calc, Good, Bad}
use Rattle.c_syntax.specs.declared.operator.UnaryOp.{UnaryOp}
use Rattle.c_tree.specs.declared.program.VarRef.{VarRef}
use Rattle.c_tree.specs.declared.program.VarRef.TheVariants.{Scalar, Local, Static}
use Rattle.tree_code.specs.WordTree as tree
use Rattle.tree_code.specs.WordTree.{ExprCode, Node, Named, At, ExprsCode}
use Rattle.ir_semantics.specs.Parts.{Res, Gives, Finished, TooMany, Fails, Does, after, ◌>>=◌, give, choose}
use Rattle.ir_semantics.specs.Outside.{word_of, Cell, Nowhere, Unwritten, Holds, cell_address}
use Rattle.ir_semantics.specs.Meanings.{Meaning, Calculates, Decides, meaning_of, calculated, of_one_word}
use Rattle.ir_semantics.specs.TreeRun as run
use Rattle.ir_semantics.specs.TreeRun.{Tree, Addresses, Calls, tick, fail, too_many, need, calc}

abbrev pub outs_of : {A : Type 0} → Res Tree A → Outputs
outs_of (Gives a v) = v.outside.outs
outs_of (Finished ending outs work) = outs
outs_of (TooMany outs) = outs
outs_of (Fails outs) = outs

pub prefix_refl : (xs : Outputs) → Prefix xs xs
prefix_refl xs = record { rest = []; is = sym (append-nil xs) }

pub prefix_trans : (xs ys zs : Outputs) → Prefix xs ys → Prefix ys zs → Prefix xs zs
prefix_trans xs ys zs p q = record { rest = p.rest ++ q.rest; is = q.is ∙ ap (λ l. l ++ q.rest) p.is ∙ append_assoc xs p.rest q.rest }

pub record Grows {A : Type 0} (f : Does Tree A) : Type 0 where
  pub by : (v : Tree) → Prefix v.outside.outs (outs_of (f v))

pub behind : {A B : Type 0} (start : Outputs) (r : Res Tree A) (h : A → Does Tree B) → Prefix start (outs_of r) → ((a : A) → Grows (h a)) → Prefix start (outs_of (after r h))
behind start (Gives a v) h p g = prefix_trans start v.outside.outs (outs_of (h a v)) p ((g a).by v)
behind start (Finished ending outs work) h p g = p
behind start (TooMany outs) h p g = p
behind start (Fails outs) h p g = p

pub give_grows : {A : Type 0} (a : A) → Grows {A = A} (give a)
give_grows a = record { by = λ v. prefix_refl v.outside.outs }

pub fail_grows : {A : Type 0} → Grows {A = A} fail
fail_grows = record { by = λ v. prefix_refl v.outside.outs }

pub too_many_grows : {A : Type 0} → Grows {A = A} too_many
too_many_grows = record { by = λ v. prefix_refl v.outside.outs }

pub tick_grows : (k : ℕ) → Grows (tick k)
tick_grows k = record { by = λ v. prefix_refl v.outside.outs }

pub bind_grows : {A B : Type 0} {f : Does Tree A} {h : A → Does Tree B} → Grows f → ((a : A) → Grows (h a)) → Grows (f >>= h)
bind_grows {f = f} {h = h} a b = record { by = λ v. behind v.outside.outs (f v) h (a.by v) b }

pub ticked : {B : Type 0} (k : ℕ) {h : Unit {0} → Does Tree B} → ((a : Unit {0}) → Grows (h a)) → Grows (tick k >>= h)
ticked k b = bind_grows (tick_grows k) b

pub choose_grows : {A : Type 0} (b : Bool) {f g : Does Tree A} → Grows f → Grows g → Grows (choose b f g)
choose_grows true a b = a
choose_grows false a b = b

pub need_grows : {A : Type 0} (x : Option A) → Grows (need x)
need_grows None = fail_grows
need_grows (Some x) = give_grows x

pub calc_grows : (c : Calc) → Grows (calc c)
calc_grows (Good x) = give_grows x
calc_grows (Bad kind) = fail_grows

pub read_word_grows : (a : ℕ) → Grows (run.read_word a)
read_word_grows a = record { by = λ v. (need_grows (word_of (v.outside.memory a))).by v }

write_cell_grows : (cell : Cell) (a x : ℕ) → Grows (run.write_cell cell a x)
write_cell_grows Nowhere a x = fail_grows
write_cell_grows Unwritten a x = record { by = λ v. prefix_refl v.outside.outs }
write_cell_grows (Holds y) a x = record { by = λ v. prefix_refl v.outside.outs }

pub write_word_grows : (a x : ℕ) → Grows (run.write_word a x)
write_word_grows a x = record { by = λ v. (write_cell_grows (v.outside.memory a) a x).by v }

pub write_words_grow : (a i : ℕ) (xs : List ℕ) → Grows (run.write_words a i xs)
write_words_grow a i [] = give_grows tt
write_words_grow a i (x ∷ xs) = bind_grows (write_word_grows (cell_address a i) x) (λ _. write_words_grow a (suc i) xs)

pub read_name_grows : (at : Addresses) (v : VarRef) → Grows (run.read_name at v)
read_name_grows at (Scalar n) = record { by = λ v. (need_grows (v.frame n)).by v }
read_name_grows at (Local n) = bind_grows (need_grows (at (Local n))) read_word_grows
read_name_grows at (Static n) = bind_grows (need_grows (at (Static n))) read_word_grows

pub write_name_grows : (at : Addresses) (v : VarRef) (x : ℕ) → Grows (run.write_name at v x)
write_name_grows at (Scalar n) x = record { by = λ v. prefix_refl v.outside.outs }
write_name_grows at (Local n) x = bind_grows (need_grows (at (Local n))) (λ a. write_word_grows a x)
write_name_grows at (Static n) x = bind_grows (need_grows (at (Static n))) (λ a. write_word_grows a x)

taken_grows : (xs : List ℕ) (port : ℕ) → Grows (run.taken xs port)
taken_grows [] port = record { by = λ v. prefix_refl v.outside.outs }
taken_grows (x ∷ xs) port = record { by = λ v. prefix_refl v.outside.outs }

pub take_grows : (port : ℕ) → Grows (run.take port)
take_grows port = record { by = λ v. (taken_grows (v.outside.input port) port).by v }

pub put_grows : (port x : ℕ) → Grows (run.put port x)
put_grows port x = record { by = λ v. record { rest = (port, x) ∷ []; is = refl } }

-- each form, where its parts grow
pub as_truth_grows : {f : Does Tree ℕ} → Grows f → Grows (run.as_truth f)
as_truth_grows a = bind_grows a (λ x. give_grows _)

pub as_word_grows : {f : Does Tree Bool} → Grows f → Grows (run.as_word f)
as_word_grows a = bind_grows a (λ x. give_grows _)

pub as_nothing_grows : {A : Type 0} {f : Does Tree A} → Grows f → Grows (run.as_nothing f)
as_nothing_grows a = bind_grows a (λ x. give_grows _)

name_grows : (at : Addresses) (v : VarRef) → Grows (run.name_does at v)
name_grows at v = ticked 5 (λ _. read_name_grows at v)

load_grows : {p : Does Tree ℕ} → Grows p → Grows (run.load_does p)
load_grows a = bind_grows (ticked 5 (λ _. a)) read_word_grows

unary_grows : (o : UnaryOp) {e : Does Tree ℕ} → Grows e → Grows (run.unary_does o e)
unary_grows o a = bind_grows (ticked 1 (λ _. a)) (λ x. calc_grows (of_one_word o x))

binary_grows : (f : ℕ → ℕ → Calc) {a b : Does Tree ℕ} → Grows a → Grows b → Grows (run.binary_does f a b)
binary_grows f a b = bind_grows (ticked 24 (λ _. a)) (λ x. bind_grows b (λ y. calc_grows (f x y)))

compare_grows : (f : ℕ → ℕ → Bool) {a b : Does Tree ℕ} → Grows a → Grows b → Grows (run.compare_does f a b)
compare_grows f a b = bind_grows (ticked 24 (λ _. a)) (λ x. bind_grows b (λ y. give_grows (f x y)))

and_grows : {a b : Does Tree Bool} → Grows a → Grows b → Grows (run.and_does a b)
and_grows a b = bind_grows (ticked 20 (λ _. a)) (λ t. choose_grows t b (give_grows false))

or_grows : {a b : Does Tree Bool} → Grows a → Grows b → Grows (run.or_does a b)
or_grows a b = bind_grows (ticked 20 (λ _. a)) (λ t. choose_grows t (give_grows true) b)

not_grows : {a : Does Tree Bool} → Grows a → Grows (run.not_does a)
not_grows a = bind_grows (ticked 10 (λ _. a)) (λ t. give_grows (not t))

pick_grows : {A : Type 0} {c : Does Tree Bool} {a b : Does Tree A} → Grows c → Grows a → Grows b → Grows (run.pick_does c a b)
pick_grows c a b = bind_grows (ticked 14 (λ _. c)) (λ t. choose_grows t a b)

comma_grows : {A : Type 0} {a : Does Tree (Unit {0})} {b : Does Tree A} → Grows a → Grows b → Grows (run.comma_does a b)
comma_grows a b = bind_grows (ticked 1 (λ _. a)) (λ _. b)

assign_name_grows : (at : Addresses) (v : VarRef) {e : Does Tree ℕ} → Grows e → Grows (run.assign_name_does at v e)
assign_name_grows at v a = bind_grows (ticked 19 (λ _. a)) (λ x. write_name_grows at v x)

assign_at_grows : {p e : Does Tree ℕ} → Grows p → Grows e → Grows (run.assign_at_does p e)
assign_at_grows p e = bind_grows (ticked 19 (λ _. p)) (λ a. bind_grows e (λ x. write_word_grows a x))

update_name_grows : (at : Addresses) (f : ℕ → ℕ → Calc) (v : VarRef) {e : Does Tree ℕ} → Grows e → Grows (run.update_name_does at f v e)
update_name_grows at f v e = bind_grows (ticked 48 (λ _. read_name_grows at v)) (λ x. bind_grows e (λ y. bind_grows (calc_grows (f x y)) (λ z. write_name_grows at v z)))

update_at_grows : (f : ℕ → ℕ → Calc) {p e : Does Tree ℕ} → Grows p → Grows e → Grows (run.update_at_does f p e)
update_at_grows f p e = bind_grows (ticked 48 (λ _. p)) (λ a. bind_grows (read_word_grows a) (λ x. bind_grows e (λ y. bind_grows (calc_grows (f x y)) (λ z. write_word_grows a z))))

step_name_grows : (at : Addresses) (up : Bool) (v : VarRef) → Grows (run.step_name_does at up v)
step_name_grows at up v = bind_grows (ticked 14 (λ _. read_name_grows at v)) (λ x. bind_grows (calc_grows (run.stepped up x)) (λ z. bind_grows (write_name_grows at v z) (λ _. give_grows _)))

step_at_grows : (up : Bool) {p : Does Tree ℕ} → Grows p → Grows (run.step_at_does up p)
step_at_grows up p = bind_grows (ticked 14 (λ _. p)) (λ a. bind_grows (read_word_grows a) (λ x. bind_grows (calc_grows (run.stepped up x)) (λ z. bind_grows (write_word_grows a z) (λ _. give_grows _))))

out_grows : (port : ℕ) {e : Does Tree ℕ} → Grows e → Grows (run.out_does port e)
out_grows port e = bind_grows (ticked 4 (λ _. e)) (λ x. put_grows port x)

call_grows : (f : List ℕ → Does Tree (Option ℕ)) {args : Does Tree (List ℕ)} → ((xs : List ℕ) → Grows (f xs)) → Grows args → Grows (run.call_does f args)
call_grows f g a = bind_grows (ticked 2 (λ _. a)) g

operation_word_grows : (m : Meaning) {a b : Does Tree ℕ} → Grows a → Grows b → Grows (run.operation_word m a b)
operation_word_grows (Calculates f) a b = binary_grows f a b
operation_word_grows (Decides f) a b = as_word_grows (compare_grows f a b)

operation_truth_grows : (m : Meaning) {a b : Does Tree ℕ} → Grows a → Grows b → Grows (run.operation_truth m a b)
operation_truth_grows (Calculates f) a b = as_truth_grows (binary_grows f a b)
operation_truth_grows (Decides f) a b = compare_grows f a b

operation_effect_grows : (m : Meaning) {a b : Does Tree ℕ} → Grows a → Grows b → Grows (run.operation_effect m a b)
operation_effect_grows (Calculates f) a b = as_nothing_grows (binary_grows f a b)
operation_effect_grows (Decides f) a b = as_nothing_grows (compare_grows f a b)

constant_grows : (c : ℕ) → Grows (run.constant_does c)
constant_grows c = ticked 2 (λ _. give_grows c)

address_grows : (a : Option ℕ) → Grows (run.address_does a)
address_grows a = ticked 2 (λ _. need_grows a)

in_grows : (port : ℕ) → Grows (run.in_does port)
in_grows port = ticked 4 (λ _. take_grows port)

module _ (calls : Calls) (at : Addresses) (grow : (f : ℕ) (xs : List ℕ) → Grows (calls f xs)) where
  mutual
    pub decide_grows : (e : ExprCode) → Grows (run.decide calls at e)
    decide_grows (Node (tree.Const c) place) = as_truth_grows (constant_grows c)
    decide_grows (Node (tree.Read v) place) = as_truth_grows (name_grows at v)
    decide_grows (Node (tree.AddressOf v) place) = as_truth_grows (address_grows (at v))
    decide_grows (Node (tree.Load e) place) = as_truth_grows (load_grows (value_grows e))
    decide_grows (Node (tree.Unary o e) place) = as_truth_grows (unary_grows o (value_grows e))
    decide_grows (Node (tree.Binary o a b) place) = operation_truth_grows (meaning_of o) (value_grows a) (value_grows b)
    decide_grows (Node (tree.And a b) place) = and_grows (decide_grows a) (decide_grows b)
    decide_grows (Node (tree.Or a b) place) = or_grows (decide_grows a) (decide_grows b)
    decide_grows (Node (tree.Not a) place) = not_grows (decide_grows a)
    decide_grows (Node (tree.Pick c a b) place) = as_truth_grows (pick_grows (decide_grows c) (value_grows a) (value_grows b))
    decide_grows (Node (tree.Assign (Named v p) e) place) = as_truth_grows (assign_name_grows at v (value_grows e))
    decide_grows (Node (tree.Assign (At l p) e) place) = as_truth_grows (assign_at_grows (value_grows l) (value_grows e))
    decide_grows (Node (tree.AssignOp o (Named v p) e) place) = as_truth_grows (update_name_grows at (calculated (meaning_of o)) v (value_grows e))
    decide_grows (Node (tree.AssignOp o (At l p) e) place) = as_truth_grows (update_at_grows (calculated (meaning_of o)) (value_grows l) (value_grows e))
    decide_grows (Node (tree.StepBefore up (Named v p)) place) = as_truth_grows (bind_grows (step_name_grows at up v) (λ d. give_grows _))
    decide_grows (Node (tree.StepBefore up (At l p)) place) = as_truth_grows (bind_grows (step_at_grows up (value_grows l)) (λ d. give_grows _))
    decide_grows (Node (tree.StepAfter up (Named v p)) place) = as_truth_grows (bind_grows (step_name_grows at up v) (λ d. give_grows _))
    decide_grows (Node (tree.StepAfter up (At l p)) place) = as_truth_grows (bind_grows (step_at_grows up (value_grows l)) (λ d. give_grows _))
    decide_grows (Node (tree.Call f args) place) = as_truth_grows (bind_grows (call_grows (calls f) (grow f) (values_grow args)) need_grows)
    decide_grows (Node (tree.In port) place) = as_truth_grows (in_grows port)
    decide_grows (Node (tree.Out port e) place) = as_truth_grows (bind_grows (out_grows port (value_grows e)) (λ _. fail_grows))
    decide_grows (Node (tree.Comma a b) place) = comma_grows (effect_grows a) (decide_grows b)

    pub value_grows : (e : ExprCode) → Grows (run.value calls at e)
    value_grows (Node (tree.Const c) place) = constant_grows c
    value_grows (Node (tree.Read v) place) = name_grows at v
    value_grows (Node (tree.AddressOf v) place) = address_grows (at v)
    value_grows (Node (tree.Load e) place) = load_grows (value_grows e)
    value_grows (Node (tree.Unary o e) place) = unary_grows o (value_grows e)
    value_grows (Node (tree.Binary o a b) place) = operation_word_grows (meaning_of o) (value_grows a) (value_grows b)
    value_grows (Node (tree.And a b) place) = as_word_grows (and_grows (decide_grows a) (decide_grows b))
    value_grows (Node (tree.Or a b) place) = as_word_grows (or_grows (decide_grows a) (decide_grows b))
    value_grows (Node (tree.Not a) place) = as_word_grows (not_grows (decide_grows a))
    value_grows (Node (tree.Pick c a b) place) = pick_grows (decide_grows c) (value_grows a) (value_grows b)
    value_grows (Node (tree.Assign (Named v p) e) place) = assign_name_grows at v (value_grows e)
    value_grows (Node (tree.Assign (At l p) e) place) = assign_at_grows (value_grows l) (value_grows e)
    value_grows (Node (tree.AssignOp o (Named v p) e) place) = update_name_grows at (calculated (meaning_of o)) v (value_grows e)
    value_grows (Node (tree.AssignOp o (At l p) e) place) = update_at_grows (calculated (meaning_of o)) (value_grows l) (value_grows e)
    value_grows (Node (tree.StepBefore up (Named v p)) place) = bind_grows (step_name_grows at up v) (λ d. give_grows _)
    value_grows (Node (tree.StepBefore up (At l p)) place) = bind_grows (step_at_grows up (value_grows l)) (λ d. give_grows _)
    value_grows (Node (tree.StepAfter up (Named v p)) place) = bind_grows (step_name_grows at up v) (λ d. give_grows _)
    value_grows (Node (tree.StepAfter up (At l p)) place) = bind_grows (step_at_grows up (value_grows l)) (λ d. give_grows _)
    value_grows (Node (tree.Call f args) place) = bind_grows (call_grows (calls f) (grow f) (values_grow args)) need_grows
    value_grows (Node (tree.In port) place) = in_grows port
    value_grows (Node (tree.Out port e) place) = bind_grows (out_grows port (value_grows e)) (λ _. fail_grows)
    value_grows (Node (tree.Comma a b) place) = comma_grows (effect_grows a) (value_grows b)

    pub values_grow : (es : ExprsCode) → Grows (run.values calls at es)
    values_grow tree.none = give_grows []
    values_grow (tree.more e rest) = bind_grows (ticked 12 (λ _. value_grows e)) (λ x. bind_grows (values_grow rest) (λ xs. give_grows (x ∷ xs)))

    pub effect_grows : (e : ExprCode) → Grows (run.effect calls at e)
    effect_grows (Node (tree.Const c) place) = as_nothing_grows (constant_grows c)
    effect_grows (Node (tree.Read v) place) = as_nothing_grows (name_grows at v)
    effect_grows (Node (tree.AddressOf v) place) = as_nothing_grows (address_grows (at v))
    effect_grows (Node (tree.Load e) place) = as_nothing_grows (load_grows (value_grows e))
    effect_grows (Node (tree.Unary o e) place) = as_nothing_grows (unary_grows o (value_grows e))
    effect_grows (Node (tree.Binary o a b) place) = operation_effect_grows (meaning_of o) (value_grows a) (value_grows b)
    effect_grows (Node (tree.And a b) place) = as_nothing_grows (and_grows (decide_grows a) (decide_grows b))
    effect_grows (Node (tree.Or a b) place) = as_nothing_grows (or_grows (decide_grows a) (decide_grows b))
    effect_grows (Node (tree.Not a) place) = as_nothing_grows (not_grows (decide_grows a))
    effect_grows (Node (tree.Pick c a b) place) = pick_grows (decide_grows c) (effect_grows a) (effect_grows b)
    effect_grows (Node (tree.Assign (Named v p) e) place) = as_nothing_grows (assign_name_grows at v (value_grows e))
    effect_grows (Node (tree.Assign (At l p) e) place) = as_nothing_grows (assign_at_grows (value_grows l) (value_grows e))
    effect_grows (Node (tree.AssignOp o (Named v p) e) place) = as_nothing_grows (update_name_grows at (calculated (meaning_of o)) v (value_grows e))
    effect_grows (Node (tree.AssignOp o (At l p) e) place) = as_nothing_grows (update_at_grows (calculated (meaning_of o)) (value_grows l) (value_grows e))
    effect_grows (Node (tree.StepBefore up (Named v p)) place) = as_nothing_grows (step_name_grows at up v)
    effect_grows (Node (tree.StepBefore up (At l p)) place) = as_nothing_grows (step_at_grows up (value_grows l))
    effect_grows (Node (tree.StepAfter up (Named v p)) place) = as_nothing_grows (step_name_grows at up v)
    effect_grows (Node (tree.StepAfter up (At l p)) place) = as_nothing_grows (step_at_grows up (value_grows l))
    effect_grows (Node (tree.Call f args) place) = as_nothing_grows (call_grows (calls f) (grow f) (values_grow args))
    effect_grows (Node (tree.In port) place) = as_nothing_grows (in_grows port)
    effect_grows (Node (tree.Out port e) place) = out_grows port (value_grows e)
    effect_grows (Node (tree.Comma a b) place) = comma_grows (effect_grows a) (effect_grows b)
