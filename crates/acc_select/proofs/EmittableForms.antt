-- Emission takes the code of each form of expressions, where it takes that of the form's parts.
use Rattle.std.proofs.Common.{◌≡◌, refl, sym, subst, ℕ, zero, suc, ◌+◌, Bool, true, false, List, [], ◌∷◌, ◌<◌, ◌≤◌, arith, Some}
use Rattle.std.specs.Prelude.{⊤, not}
use Rattle.acc_code.specs.AccTree.{Op, If, Call, ItemList, end, ◌▸◌}
use Rattle.acc_code.specs.Emittable as emitted
use Rattle.acc_code.specs.Emittable.{nothing_stored}
use Rattle.acc_code.specs.declared.operand.AccOperand.{AccOperand}
use Rattle.acc_code.specs.declared.operand.AccOperand.TheVariants as operand
use Rattle.acc_code.specs.declared.operation.AccOp.TheVariants as row
use Rattle.acc_code.specs.declared.operation.Test.{Test}
use Rattle.acc_code.specs.declared.operation.Test.TheVariants.{Nz}
use Rattle.acc_operations.specs.Arithmetic.{with_place, with_constant, of_constant, of_place}
use Rattle.acc_operations.specs.Comparisons.{Compared, compared_with_place, compared_with_constant, compared_of_constant, compared_of_place}
use Rattle.acc_select.specs.Conditions as condition
use Rattle.acc_operations.specs.Kinds.{in_sense}
use Rattle.acc_select.specs.Conditions.{Part, Branch, part_items, is_short, tested, by_comparison, clean_items, by_word, negated, truth_items, where_both, where_either, by_number, and_branch, or_branch}
use Rattle.acc_select.specs.Forms as form
use Rattle.acc_select.specs.Forms.{Code, Part_code, of_word, of_branch, unary_word, unary_code, temporary, computed, asked, compared, binary_code, and_code, or_code, not_code, signed_items, pick_code, comma_code, stored, assign_name_code, through, is_computed, assign_at_once, assign_through, assign_at_code, updated, update_name_code, update_at_once, update_through, update_at_code, stepped, step_row, undo_row, step_before_code, step_after_code, step_name_after_code, in_code, out_items, out_code, call_code, argument_items, parameter_items, complement_high}
use Rattle.acc_operations.specs.Words.{Word, behind, in_accumulator, fixed, held, scratch, high}
use Rattle.acc_operations.specs.declared.comparison.Comparison.{Comparison}
use Rattle.acc_operations.specs.declared.constant.Constant.{Constant}
use Rattle.acc_operations.specs.declared.constant.Shape.{Shape}
use Rattle.acc_operations.specs.declared.constant.Shape.TheVariants as shape
use Rattle.acc_operations.specs.declared.found.Found.{Found}
use Rattle.acc_operations.specs.declared.found.Found.TheVariants.{Fixed, Held, Loaded}
use Rattle.acc_operations.specs.declared.high_half.HighHalf.TheVariants.{Any, Sign, Small}
use Rattle.acc_operations.specs.declared.operation.Arithmetic.{Arithmetic}
use Rattle.acc_operations.specs.declared.operation.Operation.{Operation}
use Rattle.acc_operations.specs.declared.operation.Operation.TheVariants as operation
use Rattle.acc_select.proofs.RoutineLemmas.{by_routine}
use Rattle.c_syntax.specs.declared.operator.UnaryOp.{UnaryOp}
use Rattle.c_syntax.specs.declared.operator.UnaryOp.TheVariants.{Minus, Plus, Complement}
use Rattle.acc_select.proofs.EmittableRuns.{Frame, Passes, Has, Steps, both, forgotten, nothing_done, Readable, Writable, anyhow, reading, writing, writing_scratch, counting_on, alone, either, pointed_read, pointed_written}
use Rattle.acc_select.proofs.EmittableWords.{lac_step, sacl_step, to_left, left_read, RightConstant, operand_needs, needs, RightFound, load_step, store_left, extend_step, load_clean_step, RightWord, in_accumulator_right, behind_right, next_right, loaded_right}
use Rattle.acc_select.proofs.EmittableOperations.{with_place_right, with_constant_right, of_constant_right, of_place_right, with_place_compared, with_constant_compared, of_place_compared}

-- parts of conditions, and branches to them
pub record RightPart (F : Frame) (p : Part) : Type 0 where
  pub at : Passes F false nothing_stored (part_items p) (Has [])

pub record RightBranch (F : Frame) (b : Branch) : Type 0 where
  pub at : (sense : Bool) (hit miss : Part) → RightPart F hit → RightPart F miss → Steps F [] (b sense hit miss) []

pub runs_right : {F : Frame} {xs : ItemList} → Steps F [] xs [] → RightPart F (condition.Runs xs)
runs_right h = record { at = h.at false nothing_stored tt }

pub nothing_right : {F : Frame} → RightPart F condition.Nothing
nothing_right = record { at = tt }

pub number_step : {F : Frame} (n : ℕ) → n < 256 → Steps F [] (condition.number n) []
number_step n few = counting_on row.Lack n tt few nothing_done

one_right : {F : Frame} → RightPart F condition.One
one_right {F} = record { at = (steps F).at false nothing_stored tt }
  where
    steps : (G : Frame) → Steps G [] (condition.number 1) []
    steps G = number_step 1 (omega arith)

null_right : {F : Frame} → RightPart F condition.Null
null_right {F} = record { at = (steps F).at false nothing_stored tt }
  where
    steps : (G : Frame) → Steps G [] (condition.number 0) []
    steps G = number_step 0 (omega arith)

if_step : {F : Frame} (test : Test) (hit miss : Part) → RightPart F hit → RightPart F miss → Steps F [] (If test (part_items hit) (part_items miss) ▸ end) []
if_step test hit miss h k = record { at = λ l w p. ((h.at, k.at), tt) }

tested_right : {F : Frame} {xs : ItemList} (t : Test) → Steps F [] xs [] → RightBranch F (tested xs t)
tested_right t h = record { at = λ sense hit miss first second. both h (if_step (in_sense sense t) hit miss first second) }

clean_step_of : {F : Frame} {w : Word} → RightWord F [] w → Steps F [] (clean_items w) []
clean_step_of {F} {w} h = both h.items (load_clean_step w.found h.found)

by_word_right : {F : Frame} {w : Word} → RightWord F [] w → RightBranch F (by_word w)
by_word_right h = tested_right Nz (clean_step_of h)

truth_step : {F : Frame} {b : Branch} → RightBranch F b → Steps F [] (truth_items b) []
truth_step h = h.at true condition.One condition.Null one_right null_right

where_both_step : {F : Frame} {a b : Branch} (sense : Bool) (hit miss : Part) → RightBranch F a → RightBranch F b → RightPart F hit → RightPart F miss
    → Steps F [] (where_both sense a b hit miss) []
where_both_step {F} {a} {b} sense hit miss first second h k = first.at sense (condition.Runs (b sense hit miss)) miss (runs_right (second.at sense hit miss h k)) k

where_either_step : {F : Frame} {a b : Branch} (sense : Bool) (hit miss : Part) → RightBranch F a → RightBranch F b → RightPart F hit → RightPart F miss
    → Steps F [] (where_either sense a b hit miss) []
where_either_step {F} {a} {b} sense hit miss first second h k = first.at sense hit (condition.Runs (b sense hit miss)) h (runs_right (second.at sense hit miss h k))

by_number_step : {F : Frame} {xs : ItemList} (sense : Bool) (hit miss : Part) → Steps F [] xs [] → RightPart F hit → RightPart F miss
    → Steps F [] (by_number xs sense hit miss) []
by_number_step sense hit miss steps h k = (tested_right Nz steps).at sense hit miss h k

and_right : {F : Frame} {a b : Branch} → RightBranch F a → RightBranch F b → RightBranch F (and_branch a b)
and_right {F} {a} {b} first second = record { at = at_sense }
  where
    number : Steps F [] (where_both true a b condition.One condition.Null) []
    number = where_both_step true condition.One condition.Null first second one_right null_right

    at_sense : (sense : Bool) (hit miss : Part) → RightPart F hit → RightPart F miss → Steps F [] (and_branch a b sense hit miss) []
    at_sense true hit miss h k = either (is_short miss) (λ is. where_both_step true hit miss first second h k) (λ is. by_number_step true hit miss number h k)
    at_sense false hit miss h k = either (is_short hit) (λ is. where_either_step false hit miss first second h k) (λ is. by_number_step false hit miss number h k)

or_right : {F : Frame} {a b : Branch} → RightBranch F a → RightBranch F b → RightBranch F (or_branch a b)
or_right {F} {a} {b} first second = record { at = at_sense }
  where
    number : Steps F [] (where_either true a b condition.One condition.Null) []
    number = where_either_step true condition.One condition.Null first second one_right null_right

    at_sense : (sense : Bool) (hit miss : Part) → RightPart F hit → RightPart F miss → Steps F [] (or_branch a b sense hit miss) []
    at_sense true hit miss h k = either (is_short hit) (λ is. where_either_step true hit miss first second h k) (λ is. by_number_step true hit miss number h k)
    at_sense false hit miss h k = either (is_short miss) (λ is. where_both_step false hit miss first second h k) (λ is. by_number_step false hit miss number h k)

-- the code of an expression
pub record RightCode (F : Frame) (c : Code) : Type 0 where
  pub word : RightWord F [] c.word
  pub branch : RightBranch F c.branch
  pub effect : Steps F [] c.effect []
  pub into : (m : AccOperand) → Writable F m → Steps F [] (c.into m) []
  pub point : Steps F [] c.point []

point_step : {F : Frame} → Steps F [] (form.point ▸ end) []
point_step = alone row.Point tt refl nothing_done

pub point_first : {F : Frame} {ks js : List ℕ} {xs : ItemList} → Steps F ks xs js → Steps F ks (form.point ▸ xs) js
point_first rest = alone row.Point tt refl rest

pub of_word_right : {F : Frame} {w : Word} → RightWord F [] w → RightCode F (of_word w)
of_word_right h = record {
  word = h;
  branch = by_word_right h;
  effect = loaded_right h;
  into = λ m to. both (loaded_right h) (sacl_step to nothing_done);
  point = both (loaded_right h) point_step;
}

pub with_effect : {F : Frame} {c : Code} {xs : ItemList} → RightCode F c → Steps F [] xs [] → RightCode F (record c { effect = xs })
with_effect h effect = record { word = h.word; branch = h.branch; effect = effect; into = h.into; point = h.point }

pub of_branch_right : {F : Frame} {b : Branch} → RightBranch F b → RightCode F (of_branch b)
of_branch_right {F} {b} h = let c : RightCode F (of_word (in_accumulator (truth_items b) Small)) = of_word_right (in_accumulator_right Small (truth_step h)) in
    record { word = c.word; branch = h; effect = h.at true condition.Nothing condition.Nothing nothing_right nothing_right; into = c.into; point = c.point }

-- a word of memory that needs no scratch word: one of a name, a temporary, or the one that is pointed to
pub record Named (F : Frame) (m : AccOperand) : Type 0 where
  pub read : Readable F [] m
  pub written : Writable F m
  pub plain : operand_needs m ≡ []

pub pointed : {F : Frame} → Named F operand.Pointed
pointed = record { read = pointed_read; written = pointed_written; plain = refl }

pub scalar_named : {F : Frame} (n : ℕ) → n < F.scalars → Named F (operand.Scalar n)
scalar_named n few = record {
  read = record { taken = tt; there = few; stored = λ w p. tt };
  written = record { taken = tt; there = few };
  plain = refl;
}

pub held_right : {F : Frame} {xs : ItemList} {m : AccOperand} → Steps F [] xs [] → Named F m → RightWord F [] (held xs m)
held_right {F} {xs} {m} h named = record { items = subst (λ ks. Steps F [] xs ks) (sym named.plain) h; found = anyhow named.read }

pub fixed_right : {F : Frame} {k : Constant} → RightConstant F k → RightWord F [] (fixed k)
fixed_right right = record { items = nothing_done; found = right }

pub read_right : {F : Frame} {m : AccOperand} → Named F m → RightCode F (form.read_code m)
read_right named = of_word_right (held_right nothing_done named)

pub load_right : {F : Frame} {p : Code} → RightCode F p → RightCode F (form.load_code p)
load_right h = of_word_right (held_right h.point pointed)

-- operands by what they are
abbrev pub RightShape : Frame → Shape → Type 0
RightShape F (shape.Constant k) = RightConstant F k
RightShape F (shape.Named m) = Named F m
RightShape F shape.Computed = ⊤

abbrev pub is_constant_shape : Shape → Bool
is_constant_shape (shape.Constant k) = true
is_constant_shape (shape.Named m) = false
is_constant_shape shape.Computed = false

unary_word_right : {F : Frame} (o : UnaryOp) (f : Found) → RightFound F f → RightWord F (needs f) (unary_word o f)
unary_word_right Plus f right = in_accumulator_right (high f) (load_step f right)
unary_word_right Minus f right = in_accumulator_right Any (both (load_step f right) (alone row.Neg tt refl nothing_done))
unary_word_right Complement f right = in_accumulator_right (complement_high (high f)) (both (load_step f right) (alone row.Cmpl tt refl nothing_done))

pub unary_right : {F : Frame} {e : Code} (s : Shape) (o : UnaryOp) → RightShape F s → RightCode F e → RightCode F (unary_code s o e)
unary_right (shape.Constant k) o right h = of_word_right (fixed_right right)
unary_right (shape.Named m) o right h = of_word_right (next_right (unary_word o) h.word (unary_word_right o))
unary_right shape.Computed o right h = of_word_right (next_right (unary_word o) h.word (unary_word_right o))

-- the code of a right operand that is computed, behind a left one
abbrev pub RightLater : Frame → Shape → Shape → Part_code → ℕ → Type 0
RightLater F r (shape.Named m) b t = ⊤
RightLater F r (shape.Constant k) b t = ⊤
RightLater F (shape.Constant k) shape.Computed b t = RightCode F (b t)
RightLater F (shape.Named m) shape.Computed b t = (t < F.scalars) × RightCode F (b (suc t))
RightLater F shape.Computed shape.Computed b t = (t < F.scalars) × RightCode F (b (suc t))

-- a routine may be called where an operation is done by one
abbrev pub MayCall : Frame → Operation → Shape → Type 0
MayCall F o s = by_routine o (is_constant_shape s) ≡ true → F.helps ≡ true

kept_left : {F : Frame} {a b : Code} (t : ℕ) → t < F.scalars → RightCode F a → RightCode F b → RightWord F [] (behind (a.into (temporary t)) b.word)
kept_left t few h k = behind_right (h.into (temporary t) (scalar_named t few).written) k.word

computed_right : {F : Frame} (o : Arithmetic) (r s : Shape) (a b : Part_code) (t : ℕ) → MayCall F (operation.Word o) s → RightShape F r → RightShape F s
    → RightCode F (a t) → RightLater F r s b t → RightWord F [] (computed o r s a b t)
computed_right o r (shape.Named m) a b t helps left right h k = next_right (λ f. with_place o f m) h.word (λ f found. with_place_right o f helps found right.read)
computed_right o r (shape.Constant c) a b t helps left right h k = next_right (λ f. with_constant o f c) h.word (λ f found. with_constant_right o f c helps found right)
computed_right o (shape.Constant c) shape.Computed a b t helps left right h k = next_right (of_constant o c) k.word (λ f found. of_constant_right o c f helps left found)
computed_right o (shape.Named m) shape.Computed a b t helps left right h k =
    next_right (of_place o (temporary t)) (kept_left t k.0 h k.1) (λ f found. of_place_right o f helps (scalar_named t k.0).read found)
computed_right o shape.Computed shape.Computed a b t helps left right h k =
    next_right (of_place o (temporary t)) (kept_left t k.0 h k.1) (λ f found. of_place_right o f helps (scalar_named t k.0).read found)

asked_step : {F : Frame} {w : Word} (g : Found → Compared) → RightWord F [] w → ((f : Found) → RightFound F f → Steps F (needs f) (g f).items [])
    → Steps F [] (asked w g).items []
asked_step {F} {w} g h k = both h.items (k w.found h.found)

pub compared_step : {F : Frame} (c : Comparison) (r s : Shape) (a b : Part_code) (t : ℕ) → RightShape F r → RightShape F s
    → RightCode F (a t) → RightLater F r s b t → Steps F [] (compared c r s a b t).items []
compared_step c r (shape.Named m) a b t left right h k =
    asked_step (λ f. compared_with_place c f m) h.word (λ f found. with_place_compared c.order f found right.read)
compared_step c r (shape.Constant n) a b t left right h k =
    asked_step (λ f. compared_with_constant c f n) h.word (λ f found. with_constant_compared c.order f n found right)
compared_step c (shape.Constant n) shape.Computed a b t left right h k =
    asked_step (compared_of_constant c n) k.word (λ f found. with_constant_compared c.order f n found left)
compared_step c (shape.Named m) shape.Computed a b t left right h k =
    asked_step (compared_of_place c (temporary t)) (kept_left t k.0 h k.1) (λ f found. of_place_compared c.order f (high f) found (scalar_named t k.0).read)
compared_step c shape.Computed shape.Computed a b t left right h k =
    asked_step (compared_of_place c (temporary t)) (kept_left t k.0 h k.1) (λ f found. of_place_compared c.order f (high f) found (scalar_named t k.0).read)

pub binary_right : {F : Frame} (o : Operation) (r s : Shape) (a b : Part_code) (t : ℕ) → MayCall F o s → RightShape F r → RightShape F s
    → RightCode F (a t) → RightLater F r s b t → RightCode F (binary_code o r s a b t)
binary_right (operation.Word o) r s a b t helps left right h k = of_word_right (computed_right o r s a b t helps left right h k)
binary_right (operation.Truth c) r s a b t helps left right h k =
    of_branch_right (tested_right (compared c r s a b t).test (compared_step c r s a b t left right h k))

pub and_code_right : {F : Frame} {a b : Code} → RightCode F a → RightCode F b → RightCode F (and_code a b)
and_code_right h k = of_branch_right (and_right h.branch k.branch)

pub or_code_right : {F : Frame} {a b : Code} → RightCode F a → RightCode F b → RightCode F (or_code a b)
or_code_right h k = of_branch_right (or_right h.branch k.branch)

pub not_right : {F : Frame} {e : Code} → RightCode F e → RightCode F (not_code e)
not_right h = of_branch_right (record { at = λ sense hit miss first second. h.branch.at (not sense) hit miss first second })

signed_step : {F : Frame} {w : Word} → RightWord F [] w → Steps F [] (signed_items w) []
signed_step {F} {w} h = both (loaded_right h) (extend_step (high w.found))

pub pick_right : {F : Frame} {c a b : Code} → RightCode F c → RightCode F a → RightCode F b → RightCode F (pick_code c a b)
pick_right {F} {c} {a} {b} h first second =
    with_effect
    (of_word_right (in_accumulator_right Sign
    (h.branch.at true (condition.Runs (signed_items a.word)) (condition.Runs (signed_items b.word)) (runs_right (signed_step first.word)) (runs_right (signed_step second.word)))))
    (h.branch.at true (condition.Runs a.effect) (condition.Runs b.effect) (runs_right first.effect) (runs_right second.effect))

pub comma_right : {F : Frame} {a b : Code} → RightCode F a → RightCode F b → RightCode F (comma_code a b)
comma_right h k = record {
  word = behind_right h.effect k.word;
  branch = record { at = λ sense hit miss first second. both h.effect (k.branch.at sense hit miss first second) };
  effect = both h.effect k.effect;
  into = λ m to. both h.effect (k.into m to);
  point = both h.effect k.point;
}

-- assignments
stored_right : {F : Frame} {w : Word} {m : AccOperand} → RightWord F [] w → Writable F m → RightWord F [] (stored w m)
stored_right {F} {w} h to = in_accumulator_right (high w.found) (both (loaded_right h) (sacl_step to nothing_done))

pub assign_name_right : {F : Frame} {m : AccOperand} {e : Code} → Named F m → RightCode F e → RightCode F (assign_name_code m e)
assign_name_right {F} {m} named h = with_effect (of_word_right (stored_right h.word named.written)) (h.into m named.written)

through_step : {F : Frame} {m : AccOperand} → Readable F [] m → Steps F [] (through m) []
through_step place = to_left (lac_step (anyhow place) (alone row.Point tt refl (lac_step left_read (forgotten (sacl_step pointed_written nothing_done)))))

-- the code of what is stored to an address
abbrev pub RightStored : Frame → Shape → Part_code → ℕ → Type 0
RightStored F (shape.Constant k) e t = RightCode F (e t)
RightStored F (shape.Named m) e t = RightCode F (e t)
RightStored F shape.Computed e t = (t < F.scalars) × RightCode F (e (suc t))

at_once_right : {F : Frame} {p e : Code} → RightCode F p → RightCode F e → RightCode F (of_word (assign_at_once p e))
at_once_right h k = of_word_right (behind_right h.point (stored_right k.word pointed_written))

pub assign_at_right : {F : Frame} (s : Shape) (p e : Part_code) (t : ℕ) → RightCode F (p t) → RightStored F s e t → RightCode F (assign_at_code s p e t)
assign_at_right (shape.Constant k) p e t h value = at_once_right h value
assign_at_right (shape.Named m) p e t h value = at_once_right h value
assign_at_right shape.Computed p e t h value =
    let place = scalar_named t value.0 in
    of_word_right (in_accumulator_right Sign (both (h.into (temporary t) place.written) (both (loaded_right value.1.word) (through_step place.read))))

updated_right : {F : Frame} {m : AccOperand} (o : Operation) (s : Shape) (e : Part_code) (t : ℕ) → MayCall F o s → RightShape F s → Named F m
    → RightLater F shape.Computed s e t → RightWord F [] (updated o s m e t)
updated_right {F} {m} o s e t helps right named later =
    (binary_right o shape.Computed s (λ n. of_word (held end m)) e t helps tt right (read_right named) later).word

pub update_name_right : {F : Frame} {m : AccOperand} (o : Operation) (s : Shape) (e : Part_code) (t : ℕ) → MayCall F o s → RightShape F s → Named F m
    → RightLater F shape.Computed s e t → RightCode F (update_name_code o s m e t)
update_name_right o s e t helps right named later = of_word_right (stored_right (updated_right o s e t helps right named later) named.written)

update_at_once_right : {F : Frame} (o : Operation) (s : Shape) (p e : Part_code) (t : ℕ) → MayCall F o s → RightShape F s → RightCode F (p t)
    → RightLater F shape.Computed s e t → RightWord F [] (update_at_once o s p e t)
update_at_once_right o s p e t helps right h later = behind_right h.point (stored_right (updated_right o s e t helps right pointed later) pointed_written)

-- what is behind a pointer that may wait in a temporary
abbrev pub RightUpdate : Frame → Shape → Part_code → ℕ → Type 0
RightUpdate F (shape.Constant k) e t = ⊤
RightUpdate F (shape.Named m) e t = ⊤
RightUpdate F shape.Computed e t = (t < F.scalars) × RightLater F shape.Computed shape.Computed e (suc t)

pub update_at_right : {F : Frame} (o : Operation) (s : Shape) (p e : Part_code) (t : ℕ) → MayCall F o s → RightShape F s → RightCode F (p t)
    → RightUpdate F s e t → RightCode F (update_at_code o s p e t)
update_at_right o (shape.Constant k) p e t helps right h later = of_word_right (update_at_once_right o (shape.Constant k) p e t helps right h tt)
update_at_right o (shape.Named m) p e t helps right h later = of_word_right (update_at_once_right o (shape.Named m) p e t helps right h tt)
update_at_right o shape.Computed p e t helps right h later =
    let place = scalar_named t later.0 in
    of_word_right (in_accumulator_right Sign (both (loaded_right h.word) (sacl_step place.written (alone row.Point tt refl
    (both (loaded_right (updated_right o shape.Computed e (suc t) helps tt pointed later.1)) (through_step place.read))))))

-- steps
row_step : {F : Frame} {ks js : List ℕ} {xs : ItemList} (up : Bool) → Steps F ks xs js → Steps F ks (step_row up ▸ xs) js
row_step true rest = counting_on row.Addk 1 tt (omega arith) rest
row_step false rest = counting_on row.Subk 1 tt (omega arith) rest

undo_step : {F : Frame} {ks : List ℕ} (up : Bool) → Steps F ks (undo_row up ▸ end) ks
undo_step true = counting_on row.Subk 1 tt (omega arith) nothing_done
undo_step false = counting_on row.Addk 1 tt (omega arith) nothing_done

stepped_step : {F : Frame} {m : AccOperand} (up : Bool) → Named F m → Steps F [] (stepped up m) []
stepped_step up named = lac_step named.read (row_step up (sacl_step named.written nothing_done))

pub step_before_right : {F : Frame} {xs : ItemList} {m : AccOperand} (up : Bool) → Steps F [] xs [] → Named F m → RightCode F (step_before_code up xs m)
step_before_right up h named = of_word_right (in_accumulator_right Any (both h (stepped_step up named)))

pub step_after_right : {F : Frame} {xs : ItemList} {m : AccOperand} (up : Bool) → Steps F [] xs [] → Named F m → RightCode F (step_after_code up xs m)
step_after_right up h named =
    with_effect (of_word_right (in_accumulator_right Any (both h (both (stepped_step up named) (undo_step up))))) (both h (stepped_step up named))

pub step_name_after_right : {F : Frame} {m : AccOperand} (up : Bool) → Named F m → RightCode F (step_name_after_code up m)
step_name_after_right {F} {m} up named =
    let c : RightCode F (step_after_code up end m) = step_after_right up nothing_done named in
    record {
      word = c.word;
      branch = c.branch;
      effect = c.effect;
      into = c.into;
      point = lac_step named.read (alone row.Point tt refl (row_step up (sacl_step named.written nothing_done)));
    }

-- ports
pub in_right : {F : Frame} (port : ℕ) → port < 16 → RightCode F (in_code port)
in_right {F} port range =
    let step : Steps F [] (Op (row.In port) (scratch 0) ▸ end) (0 ∷ []) = writing_scratch (row.In port) 0 range refl (omega arith) refl nothing_done in
    let c : RightCode F (of_word (held (Op (row.In port) (scratch 0) ▸ end) (scratch 0))) = of_word_right (record { items = step; found = left_read }) in
    record { word = c.word; branch = c.branch; effect = forgotten step; into = λ m to. writing (row.In port) range refl to nothing_done; point = c.point }

out_step : {F : Frame} (port : ℕ) (f : Found) → port < 16 → RightFound F f → Steps F (needs f) (out_items port f) []
out_step port (Fixed k) range right = both (store_left (Fixed k) right) (forgotten (reading (row.Out port) range refl left_read nothing_done))
out_step port (Held m) range right = forgotten (reading (row.Out port) range refl right nothing_done)
out_step port (Loaded h) range right = both (store_left (Loaded h) right) (forgotten (reading (row.Out port) range refl left_read nothing_done))

pub out_right : {F : Frame} {e : Code} (port : ℕ) → port < 16 → RightCode F e → RightCode F (out_code port e)
out_right {F} {e} port range h = of_word_right (in_accumulator_right Any (both h.word.items (out_step port e.word.found range h.word.found)))

-- calls
pub param_written : {F : Frame} (f i m : ℕ) → F.parameters f ≡ Some m → i < m → Writable F (operand.Param f i)
param_written {F} f i m is few =
    record { taken = tt; there = subst (λ c. emitted.BelowCount F.scalars F.cells F.parameters F.helps i c) (sym is) few }

pub argument_right : {F : Frame} {e : Code} {rest : ItemList} (f i t m : ℕ) → F.parameters f ≡ Some m → i < m → (last : Bool) → (last ≡ false → t < F.scalars)
    → RightCode F e → Steps F [] rest [] → Steps F [] (argument_items f i t last e rest) []
argument_right f i t m is few true room h k = h.into (operand.Param f i) (param_written f i m is few)
argument_right f i t m is few false room h k = both (h.into (temporary t) (scalar_named t (room refl)).written) k

pub parameters_right : {F : Frame} (f i t n m : ℕ) → F.parameters f ≡ Some m → i + n ≤ m → t + n ≤ F.scalars → Steps F [] (parameter_items f i t n) []
parameters_right f i t zero m is few room = nothing_done
parameters_right f i t (suc n) m is few room =
    lac_step (scalar_named t (omega arith)).read (sacl_step (param_written f i m is (omega arith)) (parameters_right f (suc i) (suc t) n m is (omega arith) (omega arith)))

pub call_right : {F : Frame} {arguments parameters : ItemList} (f m : ℕ) → F.parameters f ≡ Some m → Steps F [] arguments [] → Steps F [] parameters []
    → RightCode F (call_code f arguments parameters)
call_right {F} f m is h k = of_word_right (in_accumulator_right Any (both h (both k call)))
  where
    call : Steps F [] (Call f ▸ end) []
    call = record { at = λ l w p. (subst (emitted.IsThereFor F.scalars F.cells F.parameters F.helps) (sym is) tt, tt) }
