-- How a tree's run and its items' run go side by side: the relation, and the rules that compose it.
use Rattle.std.proofs.Common.{◌≡◌, ℕ, zero, suc, ◌+◌, ◌-◌, ◌*◌, ◌≤◌, Bool, true, false, List, [], ◌∷◌, ◌++◌, Option, Some, None, refl, sym, ap, ◌∙◌, subst, append_assoc, append-nil}
use Rattle.std.specs.Prelude.{slice_get}
use Rattle.word_base.specs.Ports.{Outputs, Prefix}
use Rattle.word_base.specs.Words.{Calc, Good, Bad}
use Rattle.tree_code.specs.WordTree.{FunctionCode}
use Rattle.acc_code.specs.declared.item.CaseLabel.{CaseLabel}
use Rattle.acc_code.specs.declared.operand.AccOperand.{AccOperand}
use Rattle.acc_code.specs.declared.operand.AccOperand.TheVariants as operand
use Rattle.acc_code.specs.declared.operand.HelperName.{HelperName}
use Rattle.acc_code.specs.declared.operation.AccOp.{AccOp}
use Rattle.acc_code.specs.declared.operation.AccOp.TheVariants as row
use Rattle.acc_code.specs.declared.operation.Test.{Test}
use Rattle.acc_code.specs.AccTree.{Item, Op, If, Loop, Switch, Case, Clear, Call, Helper, Break, Continue, Return, ItemList, end, item, ◌⧺◌, FunctionItems}
use Rattle.ir_semantics.specs.Parts.{Res, Gives, Finished, TooMany, Fails, Does, after, ◌>>=◌, give, choose, Flow, Next, Broke, Continued, Returned, in_order, behind_switch}
use Rattle.ir_semantics.specs.Outside.{Cell, Nowhere, Unwritten, Holds, Frame, Places, address_of}
use Rattle.ir_semantics.specs.TreeRun.{Tree, Addresses}
use Rattle.ir_semantics.specs.AccRows.{Registers, acted, holds, low_half, low_stored, whole_of, high_stored}
use Rattle.ir_semantics.specs.AccRun.{Machine, Context, tick, write_cell, write_word, store_to, store, put, input_ends, missing, taken, registers_become, act_on, act, held, without_scratch, without_acc, forgetting, between, tested, behind_part, behind_turn, turns, label_of, labels_weight, entered_at, switched, is_case, clear_cells, cleared, clear, cells_of, helped_with, helped, helper_value, run_item, run, run_from, too_many, entered, back, called, call_within, fail}
use Rattle.acc_select_proof.proofs.Straights.{run_append}

-- outputs only grow
abbrev pub outs_of : {A : Type 0} → Res Machine A → Outputs
outs_of (Gives a v) = v.outside.outs
outs_of (Finished ending outs work) = outs
outs_of (TooMany outs) = outs
outs_of (Fails outs) = outs

pub prefix_refl : (xs : Outputs) → Prefix xs xs
prefix_refl xs = record { rest = []; is = sym (append-nil xs) }

pub prefix_trans : (xs ys zs : Outputs) → Prefix xs ys → Prefix ys zs → Prefix xs zs
prefix_trans xs ys zs p q = record { rest = p.rest ++ q.rest; is = q.is ∙ ap (λ l. l ++ q.rest) p.is ∙ append_assoc xs p.rest q.rest }

pub record Grows {A : Type 0} (f : Does Machine A) : Type 0 where
  pub by : (v : Machine) → Prefix v.outside.outs (outs_of (f v))

pub behind : {A B : Type 0} (start : Outputs) (r : Res Machine A) (h : A → Does Machine B) → Prefix start (outs_of r) → ((a : A) → Grows (h a)) → Prefix start (outs_of (after r h))
behind start (Gives a v) h p g = prefix_trans start v.outside.outs (outs_of (h a v)) p ((g a).by v)
behind start (Finished ending outs work) h p g = p
behind start (TooMany outs) h p g = p
behind start (Fails outs) h p g = p

pub give_grows : {A : Type 0} (a : A) → Grows {A = A} (give a)
give_grows a = record { by = λ v. prefix_refl v.outside.outs }

pub fail_grows : {A : Type 0} → Grows {A = A} fail
fail_grows = record { by = λ v. prefix_refl v.outside.outs }

pub too_many_grows : Grows {A = Flow} too_many
too_many_grows = record { by = λ v. prefix_refl v.outside.outs }

pub tick_grows : (k : ℕ) → Grows (tick k)
tick_grows k = record { by = λ v. prefix_refl v.outside.outs }

pub bind_grows : {A B : Type 0} (f : Does Machine A) (h : A → Does Machine B) → Grows f → ((a : A) → Grows (h a)) → Grows (f >>= h)
bind_grows f h a b = record { by = λ v. behind v.outside.outs (f v) h (a.by v) b }

pub choose_grows : (b : Bool) (f g : Does Machine Flow) → Grows f → Grows g → Grows (choose b f g)
choose_grows true f g a b = a
choose_grows false f g a b = b

registers_grow : (r : Option Registers) → Grows (registers_become r)
registers_grow None = fail_grows
registers_grow (Some r) = record { by = λ v. prefix_refl v.outside.outs }

act_on_grows : (o : AccOp) (w : Option ℕ) → Grows (act_on o w)
act_on_grows o None = fail_grows
act_on_grows o (Some x) = record { by = λ v. (registers_grow (acted o x v.registers)).by v }

write_cell_grows : (cell : Cell) (a x : ℕ) → Grows (write_cell cell a x)
write_cell_grows Nowhere a x = fail_grows
write_cell_grows Unwritten a x = record { by = λ v. prefix_refl v.outside.outs }
write_cell_grows (Holds y) a x = record { by = λ v. prefix_refl v.outside.outs }

write_word_grows : (a : Option ℕ) (x : ℕ) → Grows (write_word a x)
write_word_grows None x = fail_grows
write_word_grows (Some a) x = record { by = λ v. (write_cell_grows (v.outside.memory a) a x).by v }

store_to_grows : (at : Addresses) (m : AccOperand) (x : ℕ) → Grows (store_to at m x)
store_to_grows at operand.Nothing x = fail_grows
store_to_grows at (operand.Scalar n) x = record { by = λ v. prefix_refl v.outside.outs }
store_to_grows at (operand.Direct o) x = write_word_grows (at o) x
store_to_grows at (operand.Param f n) x = record { by = λ v. prefix_refl v.outside.outs }
store_to_grows at (operand.Scratch n) x = record { by = λ v. prefix_refl v.outside.outs }
store_to_grows at (operand.Number w) x = fail_grows
store_to_grows at (operand.Address o i) x = fail_grows
store_to_grows at operand.Pointed x = record { by = λ v. (write_word_grows v.registers.pointed x).by v }

store_grows : (at : Addresses) (m : AccOperand) (w : Option ℕ) → Grows (store at m w)
store_grows at m None = fail_grows
store_grows at m (Some x) = store_to_grows at m x

put_grows : (port : ℕ) (w : Option ℕ) → Grows (put port w)
put_grows port None = fail_grows
put_grows port (Some x) = record { by = λ v. record { rest = (port, x) ∷ []; is = refl } }

input_ends_grows : (port : ℕ) → Grows (input_ends port)
input_ends_grows port = record { by = λ v. prefix_refl v.outside.outs }

missing_grows : (m : AccOperand) (port : ℕ) → Grows (missing m port)
missing_grows operand.Nothing port = input_ends_grows port
missing_grows (operand.Scalar n) port = input_ends_grows port
missing_grows (operand.Direct o) port = input_ends_grows port
missing_grows (operand.Param f i) port = input_ends_grows port
missing_grows (operand.Scratch n) port = input_ends_grows port
missing_grows (operand.Number w) port = input_ends_grows port
missing_grows (operand.Address o i) port = input_ends_grows port
missing_grows operand.Pointed port = record { by = λ v. (bind_grows (write_word v.registers.pointed 0) _ (write_word_grows v.registers.pointed 0) (λ flow. input_ends_grows port)).by v }

taken_grows : (at : Addresses) (xs : List ℕ) (port : ℕ) (m : AccOperand) → Grows (taken at xs port m)
taken_grows at [] port m = missing_grows m port
taken_grows at (x ∷ xs) port m = record { by = λ v. (store_to_grows at m x).by _ }

act_grows : (at : Addresses) (o : AccOp) (m : AccOperand) → Grows (act at o m)
act_grows at (row.Sacl shift) m = record { by = λ v. (store_grows at m (low_stored (low_half v.registers.acc) shift)).by v }
act_grows at (row.Sach shift) m = record { by = λ v. (store_grows at m (high_stored (whole_of v.registers.acc) shift)).by v }
act_grows at (row.In port) m = record { by = λ v. (taken_grows at (v.outside.input port) port m).by v }
act_grows at (row.Out port) m = record { by = λ v. (put_grows port (held at m v)).by v }
act_grows at o m = record { by = λ v. (act_on_grows o (held at m v)).by v }

forgetting_grows : (flow : Flow) → Grows (forgetting flow)
forgetting_grows flow = record { by = λ v. prefix_refl v.outside.outs }

pub between_grows : (f : Does Machine Flow) → Grows f → Grows (between f)
between_grows f g = record { by = λ v. behind v.outside.outs (f (without_scratch v)) forgetting (g.by (without_scratch v)) forgetting_grows }

tested_grows : (t : Test) (z : Option ℕ) (f g : Does Machine Flow) → Grows f → Grows g → Grows (tested t z f g)
tested_grows t None f g a b = fail_grows
tested_grows t (Some z) f g a b = choose_grows (holds t z) f g a b

pub in_order_grows : (flow : Flow) (f : Does Machine Flow) → Grows f → Grows (in_order flow f)
in_order_grows Next f g = g
in_order_grows Broke f g = give_grows Broke
in_order_grows Continued f g = give_grows Continued
in_order_grows Returned f g = give_grows Returned

pub part_grows : (flow : Flow) (f : Does Machine Flow) → Grows f → Grows (behind_part flow f)
part_grows Next f g = g
part_grows Broke f g = give_grows Next
part_grows Continued f g = fail_grows
part_grows Returned f g = give_grows Returned

pub turn_grows : (flow : Flow) (f : Does Machine Flow) → Grows f → Grows (behind_turn flow f)
turn_grows Next f g = g
turn_grows Broke f g = give_grows Next
turn_grows Continued f g = g
turn_grows Returned f g = give_grows Returned

pub turns_grow : (n : ℕ) (before body third : Does Machine Flow) → Grows before → Grows body → Grows third → Grows (turns n before body third)
turns_grow zero before body third a b c = bind_grows before _ a (λ flow. part_grows flow _ too_many_grows)
turns_grow (suc n) before body third a b c =
    bind_grows before _ a (λ flow. part_grows flow _ (bind_grows (tick 6) _ (tick_grows 6) (λ _. bind_grows body _ b (λ flow. turn_grows flow _ (bind_grows third _ c (λ flow. part_grows flow _ (turns_grow n before body third a b c)))))))

pub behind_switch_grows : (flow : Flow) → Grows (behind_switch {S = Machine} flow)
behind_switch_grows Next = give_grows Next
behind_switch_grows Broke = give_grows Next
behind_switch_grows Continued = give_grows Continued
behind_switch_grows Returned = give_grows Returned

entered_grows : (from : ℕ → Does Machine Flow) (o : Option ℕ) → ((i : ℕ) → Grows (from i)) → Grows (entered_at from o)
entered_grows from None g = give_grows Next
entered_grows from (Some i) g = bind_grows (from i) behind_switch (g i) behind_switch_grows

switched_grows : (labels : List CaseLabel) (from : ℕ → Does Machine Flow) (z : Option ℕ) → ((i : ℕ) → Grows (from i)) → Grows (switched labels from z)
switched_grows labels from None g = fail_grows
switched_grows labels from (Some z) g = record { by = λ v. (entered_grows from (label_of z labels) g).by (without_acc v) }

pub clear_cells_grow : (a i n : ℕ) → Grows (clear_cells a i n)
clear_cells_grow a i zero = give_grows Next
clear_cells_grow a i (suc n) = bind_grows _ _ (write_word_grows (Some _) 0) (λ _. clear_cells_grow a (suc i) n)

pub cleared_grows : (flow : Flow) → Grows (cleared flow)
cleared_grows flow = record { by = λ v. prefix_refl v.outside.outs }

clear_grows : (n a : Option ℕ) (from : ℕ) → Grows (clear n a from)
clear_grows None a from = fail_grows
clear_grows (Some n) None from = fail_grows
clear_grows (Some n) (Some a) from = bind_grows (tick (9 + 64 * n)) _ (tick_grows _) (λ _. between_grows _ (bind_grows (clear_cells a from (n - from)) cleared (clear_cells_grow a from (n - from)) cleared_grows))

helped_with_grows : (r : Calc) → Grows (helped_with r)
helped_with_grows (Bad kind) = fail_grows
helped_with_grows (Good x) = record { by = λ v. prefix_refl v.outside.outs }

helped_grows : (name : HelperName) (a b : Option ℕ) → Grows (helped name a b)
helped_grows name None b = fail_grows
helped_grows name (Some a) None = fail_grows
helped_grows name (Some a) (Some b) = helped_with_grows (helper_value name a b)

-- a context whose calls only add outputs
pub record Ground : Type 0 where
  pub context : Context
  pub grows : (f : ℕ) → Grows (context.calls f)

module _ (n : Ground) where
  mutual
    pub item_grows : (x : Item) → Grows (run_item n.context x)
    item_grows (Op o m) = record { by = λ v. (act_grows n.context.at o m).by _ }
    item_grows (If t hit miss) =
        bind_grows (tick 4) _ (tick_grows 4) (λ _. between_grows (λ v. tested t (whole_of v.registers.acc) (run n.context hit) (run n.context miss) v)
        (record { by = λ v. (tested_grows t (whole_of v.registers.acc) (run n.context hit) (run n.context miss) (run_grows hit) (run_grows miss)).by v }))
    item_grows (Loop before body third last) =
        bind_grows (tick 6) _ (tick_grows 6) (λ _. between_grows (turns n.context.limit (run n.context before) (run n.context body) (run n.context third)) (turns_grow n.context.limit _ _ _ (run_grows before) (run_grows body) (run_grows third)))
    item_grows (Switch labels body) =
        bind_grows (tick (4 + labels_weight labels)) _ (tick_grows (4 + labels_weight labels)) (λ _. between_grows (λ v. switched labels (λ i. run_from n.context i body) (whole_of v.registers.acc) v)
        (record { by = λ v. (switched_grows labels (λ i. run_from n.context i body) (whole_of v.registers.acc) (λ i. from_grows i body)).by v }))
    item_grows (Case i) = record { by = λ v. prefix_refl v.outside.outs }
    item_grows (Clear o from) = clear_grows (cells_of n.context.locals o) (n.context.at o) from
    item_grows (Call f) = bind_grows (tick 2) _ (tick_grows 2) (λ _. between_grows (n.context.calls f) (n.grows f))
    item_grows (Helper name) = record { by = λ v. (helped_grows name (v.scratch 0) (v.scratch 1)).by _ }
    item_grows Break = record { by = λ v. prefix_refl v.outside.outs }
    item_grows Continue = record { by = λ v. prefix_refl v.outside.outs }
    item_grows Return = record { by = λ v. prefix_refl v.outside.outs }

    pub from_grows : (i : ℕ) (xs : ItemList) → Grows (run_from n.context i xs)
    from_grows i end = give_grows Next
    from_grows i (item x xs) = choose_grows (is_case i x) _ _ (run_grows xs) (from_grows i xs)

    pub run_grows : (xs : ItemList) → Grows (run n.context xs)
    run_grows end = give_grows Next
    run_grows (item x xs) = bind_grows (run_item n.context x) _ (item_grows x) (λ flow. in_order_grows flow _ (run_grows xs))

pub last_item : (r : Res Machine Flow) → r ≡ after r (λ flow. in_order flow (give Next))
last_item (Gives Next v) = refl
last_item (Gives Broke v) = refl
last_item (Gives Continued v) = refl
last_item (Gives Returned v) = refl
last_item (Finished ending outs work) = refl
last_item (TooMany outs) = refl
last_item (Fails outs) = refl

-- the relation between what two runs came to
abbrev pub Post : Type 0 → Type 1
Post A = A → Flow → Tree → Machine → Type 0

abbrev pub Rel : {A : Type 0} → Post A → Res Tree A → Res Machine Flow → Type 0
Rel q (Gives a w) (Gives flow v) = q a flow w v
Rel q (Gives a w) (Finished e o k) = ⊥
Rel q (Gives a w) (TooMany o) = ⊥
Rel q (Gives a w) (Fails o) = ⊥
Rel q (Finished e o k) (Gives flow v) = ⊥
Rel q (Finished e o k) (Finished e2 o2 k2) = (e ≡ e2) × (o ≡ o2) × (k2 ≤ k)
Rel q (Finished e o k) (TooMany o2) = ⊥
Rel q (Finished e o k) (Fails o2) = ⊥
Rel q (TooMany o) (Gives flow v) = ⊥
Rel q (TooMany o) (Finished e o2 k) = ⊥
Rel q (TooMany o) (TooMany o2) = o ≡ o2
Rel q (TooMany o) (Fails o2) = ⊥
Rel q (Fails o) r = Prefix o (outs_of r)

pub rel_after : {A B : Type 0} (q : Post A) (r : Post B) (x : Res Tree A) (y : Res Machine Flow) (g : A → Does Tree B) (h : Flow → Does Machine Flow) → Rel q x y → ((flow : Flow) → Grows (h flow)) → ((a : A) (flow : Flow) (w : Tree) (v : Machine) → q a flow w v → Rel r (g a w) (h flow v)) → Rel r (after x g) (after y h)
rel_after q r (Gives a w) (Gives flow v) g h e grow next = next a flow w v e
rel_after q r (Gives a w) (Finished p o k) g h e grow next = absurd e
rel_after q r (Gives a w) (TooMany o) g h e grow next = absurd e
rel_after q r (Gives a w) (Fails o) g h e grow next = absurd e
rel_after q r (Finished p o k) (Gives flow v) g h e grow next = absurd e
rel_after q r (Finished p o k) (Finished p2 o2 k2) g h e grow next = e
rel_after q r (Finished p o k) (TooMany o2) g h e grow next = absurd e
rel_after q r (Finished p o k) (Fails o2) g h e grow next = absurd e
rel_after q r (TooMany o) (Gives flow v) g h e grow next = absurd e
rel_after q r (TooMany o) (Finished p o2 k) g h e grow next = absurd e
rel_after q r (TooMany o) (TooMany o2) g h e grow next = e
rel_after q r (TooMany o) (Fails o2) g h e grow next = absurd e
rel_after q r (Fails o) y g h e grow next = behind o y h e grow

-- a value leaves a list at its end
abbrev pub AtEnd : {A : Type 0} → (A → Tree → Machine → Type 0) → Post A
AtEnd q a Next w v = q a w v
AtEnd q a Broke w v = ⊥
AtEnd q a Continued w v = ⊥
AtEnd q a Returned w v = ⊥

pub rel_weaker : {A : Type 0} {q r : A → Tree → Machine → Type 0} → ((a : A) (w : Tree) (v : Machine) → q a w v → r a w v) → (x : Res Tree A) (y : Res Machine Flow) → Rel (AtEnd q) x y → Rel (AtEnd r) x y
rel_weaker k (Gives a w) (Gives Next v) h = k a w v h
rel_weaker k (Gives a w) (Gives Broke v) h = absurd h
rel_weaker k (Gives a w) (Gives Continued v) h = absurd h
rel_weaker k (Gives a w) (Gives Returned v) h = absurd h
rel_weaker k (Gives a w) (Finished p o m) h = absurd h
rel_weaker k (Gives a w) (TooMany o) h = absurd h
rel_weaker k (Gives a w) (Fails o) h = absurd h
rel_weaker k (Finished p o m) (Gives flow v) h = absurd h
rel_weaker k (Finished p o m) (Finished p2 o2 m2) h = h
rel_weaker k (Finished p o m) (TooMany o2) h = absurd h
rel_weaker k (Finished p o m) (Fails o2) h = absurd h
rel_weaker k (TooMany o) (Gives flow v) h = absurd h
rel_weaker k (TooMany o) (Finished p o2 m) h = absurd h
rel_weaker k (TooMany o) (TooMany o2) h = h
rel_weaker k (TooMany o) (Fails o2) h = absurd h
rel_weaker k (Fails o) y h = h

module _ (n : Ground) where
  -- what a part of a tree does and what a list of items does, from related states
  pub record Keeps {A : Type 0} (p : Tree → Machine → Type 0) (f : Does Tree A) (xs : ItemList) (q : Post A) : Type 0 where
    pub by : (w : Tree) (v : Machine) → p w v → Rel q (f w) (run n.context xs v)

  seq_step : {A B : Type 0} {g : A → Does Tree B} {ys : ItemList} {q : A → Tree → Machine → Type 0} {r : Post B} → ((a : A) → Keeps (q a) (g a) ys r) → (a : A) (flow : Flow) (w : Tree) (v : Machine) → AtEnd q a flow w v → Rel r (g a w) (in_order flow (run n.context ys) v)
  seq_step l a Next w v e = (l a).by w v e
  seq_step l a Broke w v e = absurd e
  seq_step l a Continued w v e = absurd e
  seq_step l a Returned w v e = absurd e

  -- one behind another
  pub seq : {A B : Type 0} {p : Tree → Machine → Type 0} {f : Does Tree A} {g : A → Does Tree B} {xs ys : ItemList} {q : A → Tree → Machine → Type 0} {r : Post B} → Keeps p f xs (AtEnd q) → ((a : A) → Keeps (q a) (g a) ys r) → Keeps p (f >>= g) (xs ⧺ ys) r
  seq {f = f} {g = g} {xs = xs} {ys = ys} {q = q} {r = r} k l = record {
    by = λ w v h. subst (Rel r (after (f w) g)) (sym (run_append n.context xs ys v)) (rel_after (AtEnd q) r (f w) (run n.context xs v) g (λ flow. in_order flow (run n.context ys)) (k.by w v h) (λ flow. in_order_grows flow _ (run_grows n ys)) (seq_step l));
  }

  pub weaker : {A : Type 0} {p : Tree → Machine → Type 0} {f : Does Tree A} {xs : ItemList} {q r : A → Tree → Machine → Type 0} → ((a : A) (w : Tree) (v : Machine) → q a w v → r a w v) → Keeps p f xs (AtEnd q) → Keeps p f xs (AtEnd r)
  weaker {f = f} {xs = xs} k h = record { by = λ w v p. rel_weaker k (f w) (run n.context xs v) (h.by w v p) }

  follow_step : {A B : Type 0} {q : A → Tree → Machine → Type 0} (g : A → Does Tree B) (r : Post B) → ((a : A) (w : Tree) (v : Machine) → q a w v → Rel r (g a w) (Gives Next v)) → (a : A) (flow : Flow) (w : Tree) (v : Machine) → AtEnd q a flow w v → Rel r (g a w) (in_order flow (give Next) v)
  follow_step g r h a Next w v e = h a w v e
  follow_step g r h a Broke w v e = absurd e
  follow_step g r h a Continued w v e = absurd e
  follow_step g r h a Returned w v e = absurd e

  -- what follows without items
  pub followed : {A B : Type 0} {p : Tree → Machine → Type 0} {f : Does Tree A} {xs : ItemList} {q : A → Tree → Machine → Type 0} (g : A → Does Tree B) (r : Post B) → Keeps p f xs (AtEnd q) → ((a : A) (w : Tree) (v : Machine) → q a w v → Rel r (g a w) (Gives Next v)) → Keeps p (f >>= g) xs r
  followed {f = f} {xs = xs} {q = q} g r k h = record {
    by = λ w v p.
        subst (Rel r (after (f w) g)) (sym (last_item (run n.context xs v)))
        (rel_after (AtEnd q) r (f w) (run n.context xs v) g (λ flow. in_order flow (give Next)) (k.by w v p) (λ flow. in_order_grows flow _ (give_grows Next)) (follow_step g r h));
  }

-- calls grow too
back_grows : (q : Places) (f : ℕ) (g : FunctionCode) (caller : Frame) (flow : Flow) → Grows (back q f g caller flow)
back_grows q f g caller Next = record { by = λ v. prefix_refl v.outside.outs }
back_grows q f g caller Broke = fail_grows
back_grows q f g caller Continued = fail_grows
back_grows q f g caller Returned = record { by = λ v. prefix_refl v.outside.outs }

called_grows : (calls : ℕ → Does Machine Flow) (q : Places) (n f : ℕ) (g : Option FunctionCode) (items : Option FunctionItems) → ((f : ℕ) → Grows (calls f)) → Grows (called calls q n f g items)
called_grows calls q n f None items h = too_many_grows
called_grows calls q n f (Some g) None h = too_many_grows
called_grows calls q n f (Some g) (Some items) h = record {
  by = λ v. behind v.outside.outs (run (record { limit = n; calls = calls; at = address_of q f; locals = g.locals }) items.body (entered q f g v)) (back q f g v.frame)
      ((run_grows (record { context = record { limit = n; calls = calls; at = address_of q f; locals = g.locals }; grows = h }) items.body).by (entered q f g v)) (back_grows q f g v.frame);
}

pub calls_grow : (q : Places) (fs : List FunctionCode) (gs : List FunctionItems) (n depth f : ℕ) → Grows (call_within q fs gs n depth f)
calls_grow q fs gs n zero f = too_many_grows
calls_grow q fs gs n (suc depth) f = called_grows (call_within q fs gs n depth) q n f (slice_get fs f) (slice_get gs f) (calls_grow q fs gs n depth)
