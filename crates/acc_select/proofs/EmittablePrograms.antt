-- Emission takes the code of well-formed programs.
use Rattle.std.proofs.Common.{◌≡◌, refl, ap, ◌∙◌, sym, subst, ℕ, suc, ◌+◌, ◌-◌, Bool, true, false, List, [], ◌∷◌, length, ◌<◌, arith, Option, Some, None, get_or}
use Rattle.std.specs.Prelude.{◌==◌, ◌||◌, nat_lt, if◌then◌else◌, slice_get, option_map, All, Contains}
use Rattle.std.specs.List.{AllByRecursion}
use Rattle.std.proofs.lemmas.Bool.{eqb-true, ltb-true}
use Rattle.std.proofs.lemmas.List.{length-map}
use Rattle.std.proofs.lemmas.List.Elements.{recursion_from_All}
use Rattle.std.proofs.lemmas.Option.{slice_get-map, slice_get_within, slice_get-get_or}
use Rattle.c_tree.specs.Rounds.{CallsAmong}
use Rattle.c_tree.specs.TypedTree.{ObjectTree}
use Rattle.c_tree.specs.Uses.{called}
use Rattle.c_tree.specs.WellFormed.{IsAddressable, IsInitial, StartsAt}
use Rattle.c_tree.specs.WellFormedProgram.{object_shape}
use Rattle.c_tree.specs.declared.enclosing.Enclosing.TheVariants as around
use Rattle.c_tree.specs.declared.program.Initial.{Initial}
use Rattle.c_tree.specs.declared.program.Initial.TheVariants as initial
use Rattle.c_tree.specs.declared.program.ScalarType.{ScalarType}
use Rattle.c_tree.specs.declared.program.VarRef.{VarRef}
use Rattle.c_tree.specs.declared.program.VarRef.TheVariants.{Scalar, Local, Static}
use Rattle.tree_code.specs.WellFormedCode.{IsThereForWords, IsObjectAmong, IsFunctionCode, IsCode, cells_in, length_of, parameter_count, code_calls}
use Rattle.tree_code.specs.WordTree.{FunctionCode, ProgramCode}
use Rattle.tree_code.specs.WordTemporaries.{word_statement_temporaries}
use Rattle.tree_code.specs.WordUses.{word_statement_uses}
use Rattle.acc_code.specs.AccSequence.{IsInFrame, NamesBelow}
use Rattle.acc_code.specs.AccTree.{Item, Op, If, Loop, Switch, ItemList, end, item, FunctionItems}
use Rattle.acc_code.specs.Emittable as emitted
use Rattle.acc_code.specs.Emittable.{Throughout, Within, IsEmittableBody, nothing_stored}
use Rattle.acc_code.specs.declared.operand.AccOperand.{AccOperand}
use Rattle.acc_code.specs.declared.operand.AccOperand.TheVariants as operand
use Rattle.acc_code.specs.declared.operation.AccOp.{AccOp}
use Rattle.acc_operations.specs.Constants.{place_of, initial_constant}
use Rattle.tree_code.specs.WordHelpers.{uses_helper}
use Rattle.acc_select.specs.IsSelected.{object_cells, is_listed, called_parameters, IsEmittableFunction, IsEmittable}
use Rattle.acc_select.specs.Selected.{ends_with_return, closed_main, body_items, is_main, selected_function, selected}
use Rattle.acc_select.proofs.EmittableForms.{number_step}
use Rattle.acc_select.proofs.EmittableReady.{KnownCalls, ready_statement}
use Rattle.acc_select.proofs.EmittableRuns.{Frame, Place, Refers, inside, Passes, Has, Steps, both, either, refers_right, jumps_placed, reads_stored}
use Rattle.acc_select.proofs.EmittableStatements.{ReadyFill, ReadyStatement, return_step, right_statement}
use Rattle.acc_select.proofs.EmittableWords.{RightConstant}

-- elements of lists
contained_further : (g m : ℕ) (ms : List ℕ) (b : Bool) → (g == m) ≡ b → (is_listed g ms ≡ true → Contains ms g) → (b || is_listed g ms) ≡ true → Contains (m ∷ ms) g
contained_further g m ms true is rest h = (0, omega arith, sym (eqb-true g m is))
contained_further g m ms false is rest h = let found = rest h in (suc found.0, omega (arith, found.1), found.2)

listed_contained : (g : ℕ) (ms : List ℕ) → is_listed g ms ≡ true → Contains ms g
listed_contained g [] h = absurd (cc h)
listed_contained g (m ∷ ms) h = contained_further g m ms (g == m) refl (listed_contained g ms) h

element : {X : Type 0} (P : X → Type 0) (xs : List X) (n : ℕ) (x : X) → All P xs → slice_get xs n ≡ Some x → P x
element P xs n x all is =
    let within = slice_get_within xs n x is in
    let same : get_or xs n x ≡ x = cc (slice_get-get_or xs n x within, is) in subst P same (all n x within)

option_there : {X : Type 0} (o : Option X) (P : Option X → Type 0) → P None → ((x : X) → o ≡ Some x → P (Some x)) → P o
option_there None P h k = h
option_there (Some x) P h k = k x refl

-- the cells of objects
some_below : (b : Bool) (n m : ℕ) → (b ≡ true → n < m) → (if◌then◌else◌ {A = Option ℕ} b (Some 1) None) ≡ Some 1 → n < m
some_below true n m h is = h refl
some_below false n m h is = absurd (cc is)

-- the frame of a function's code
abbrev frame_of : ProgramCode → FunctionCode → Frame
frame_of p f = record {
  scalars = f.scalars;
  cells = object_cells p f;
  parameters = called_parameters p f;
  helps = uses_helper f.body;
  breaks = false;
  continues = false;
}

module _ (p : ProgramCode) (f : FunctionCode) where
  abbrev At_most : ℕ → Option ℕ → Type 0
  At_most n cells = emitted.AtMostCells f.scalars (object_cells p f) (called_parameters p f) (uses_helper f.body) n cells

  abbrev Below_count : ℕ → Option ℕ → Type 0
  Below_count n cells = emitted.BelowCount f.scalars (object_cells p f) (called_parameters p f) (uses_helper f.body) n cells

  one_cell : (cells : Option ℕ) → cells ≡ Some 1 → Below_count 0 cells
  one_cell cells is = let one : 0 < 1 = omega arith in subst (Below_count 0) (sym is) one

  some_cells : (cells : Option ℕ) → IsThereForWords cells → At_most 0 cells
  some_cells None there = absurd there
  some_cells (Some n) there = omega arith

  named : (v : VarRef) → cells_in p f v ≡ Some 1 → Place (frame_of p f) (place_of v)
  named (Scalar n) is =
      let t : ℕ = word_statement_temporaries f.body in
      some_below (nat_lt (n + t) f.scalars) n f.scalars (λ few. let less : n + t < f.scalars = ltb-true (n + t) f.scalars few in omega arith) is
  named (Local n) is = (tt, one_cell (length_of (slice_get f.locals n)) is)
  named (Static n) is = (tt, one_cell (length_of (slice_get p.statics n)) is)

  addressed : (v : VarRef) → IsAddressable v → IsThereForWords (cells_in p f v) → Place (frame_of p f) (operand.Address v 0)
  addressed (Scalar n) is there = absurd is
  addressed (Local n) is there = (tt, some_cells (length_of (slice_get f.locals n)) there)
  addressed (Static n) is there = (tt, some_cells (length_of (slice_get p.statics n)) there)

  -- the lists of local objects
  starts_within : (kind : ScalarType) (i : ℕ) (o : Option ObjectTree) → StartsAt kind i (object_shape o) → At_most i (length_of o)
  starts_within kind i None h = absurd h
  starts_within kind i (Some o) h = h.0

  initial_right : (kind : ScalarType) (x : Initial) → IsInitial (λ n. object_shape (slice_get p.statics n)) kind x → RightConstant (frame_of p f) (initial_constant x)
  initial_right kind (initial.Word w) is = tt
  initial_right kind (initial.Address n i) is = (tt, starts_within kind i (slice_get p.statics n) is)
  initial_right kind initial.Null is = tt

  initials_right : (kind : ScalarType) (xs : List Initial) → AllByRecursion (IsInitial (λ n. object_shape (slice_get p.statics n)) kind) xs
      → AllByRecursion (λ x. RightConstant (frame_of p f) (initial_constant x)) xs
  initials_right kind [] starts = tt
  initials_right kind (x ∷ xs) starts = (initial_right kind x starts.0, initials_right kind xs starts.1)

  filled : All (IsObjectAmong p.statics) f.locals → (n : ℕ) → ReadyFill (frame_of p f) n (slice_get f.locals n)
  filled objects n = option_there (slice_get f.locals n) (ReadyFill (frame_of p f) n) tt fill
    where
      fill : (o : ObjectTree) → slice_get f.locals n ≡ Some o → ReadyFill (frame_of p f) n (Some o)
      fill o is =
          let object = element (IsObjectAmong p.statics) f.locals n o objects is in (
            initials_right o.kind o.initial (recursion_from_All (IsInitial (λ m. object_shape (slice_get p.statics m)) o.kind) o.initial object.starts),
            (tt, subst (λ c. At_most (length o.initial) (length_of c)) (sym is) object.within),
          )

  -- the functions that are called
  listed_count : (g : ℕ) (b : Bool) → b ≡ true → (count : Option ℕ) → (if b then count else None) ≡ count
  listed_count g true is count = refl
  listed_count g false is count = absurd (cc is)

  calls_known : (n : ℕ) → slice_get p.functions n ≡ Some f → ((n m : ℕ) → CallsAmong (code_calls p.functions) n m → m < length p.functions)
      → KnownCalls (frame_of p f) (λ g. parameter_count (slice_get p.functions g)) (word_statement_uses f.body)
  calls_known n is bodies g listed =
      let list : slice_get (code_calls p.functions) n ≡ Some (called (word_statement_uses f.body)) =
      slice_get-map (λ h. called (word_statement_uses h.body)) p.functions n ∙ ap (option_map (λ h. called (word_statement_uses h.body))) is in
      let within : g < length p.functions = bodies n g (called (word_statement_uses f.body), list, listed_contained g (called (word_statement_uses f.body)) listed) in
      let there : slice_get p.functions g ≡ Some (get_or p.functions g f) = slice_get-get_or p.functions g f within in
      let count : parameter_count (slice_get p.functions g) ≡ Some (length (get_or p.functions g f).params) = ap parameter_count there in
      record {
        count = length (get_or p.functions g f).params;
        for_emission = listed_count g (is_listed g (called (word_statement_uses f.body))) listed (parameter_count (slice_get p.functions g)) ∙ count;
        in_tree = count;
      }

-- scalars below a number
name_below : (F : Frame) (o : AccOp) (m : AccOperand) → Place F m → NamesBelow F.scalars (Op o m)
name_below F o (operand.Scalar n) h = h
name_below F o m h = tt

mutual
  names_below : (F : Frame) (xs : ItemList) → Throughout (Refers F) xs → Throughout (NamesBelow F.scalars) xs
  names_below F end h = tt
  names_below F (item (Op o m) xs) h = (name_below F o m h.0.there, tt, names_below F xs h.2)
  names_below F (item x xs) h = (tt, names_within F x h.1, names_below F xs h.2)

  names_within : (F : Frame) (x : Item) → Within (Refers F) x → Within (NamesBelow F.scalars) x
  names_within F (If test hit miss) h = (names_below F hit h.0, names_below F miss h.1)
  names_within F (Loop before body behind last) h = (names_below F before h.0, names_below F body h.1, names_below F behind h.2)
  names_within F (Switch labels body) h = names_below F body h
  names_within F x h = tt

-- the end of main
closed_step : (F : Frame) (b c : Bool) (xs : ItemList) → Steps (inside F b c) [] xs [] → Steps (inside F b c) [] (closed_main xs) []
closed_step F b c xs h = either (ends_with_return xs) (λ is. h) (λ is. both h (both (number_step 0 (omega arith)) (return_step (inside F b c))))

-- a function's body in its frame
module _ (p : ProgramCode) (code : IsCode p) (n : ℕ) (f : FunctionCode) (is : slice_get p.functions n ≡ Some f) where
  right : IsFunctionCode p f
  right = element (IsFunctionCode p) p.functions n f code.functions is

  body_ready : ReadyStatement (frame_of p f) f.locals false false f.body
  body_ready =
      ready_statement (frame_of p f) (cells_in p f) (λ g. parameter_count (slice_get p.functions g)) (named p f) (addressed p f) f.locals
      (filled p f right.locals) f.body around.Body right.body (calls_known p f n is code.bodies) (λ uses. uses)

  body_steps : Steps (frame_of p f) [] (body_items f) []
  body_steps = right_statement (frame_of p f) f.locals (f.scalars - word_statement_temporaries f.body) f.body false false body_ready
      (let few = right.temporaries in omega arith)

  steps : Steps (frame_of p f) [] (selected_function f).body []
  steps = either (is_main f.name) (λ named. closed_step (frame_of p f) false false (body_items f) body_steps) (λ other. body_steps)

  passes : Passes (frame_of p f) false nothing_stored (selected_function f).body (Has [])
  passes = steps.at false nothing_stored tt

  body_right : IsEmittableBody f.scalars (object_cells p f) (called_parameters p f) (uses_helper f.body) (selected_function f).body
  body_right = record {
    refers = refers_right (frame_of p f) false (selected_function f).body nothing_stored passes;
    placed = jumps_placed (frame_of p f) false (selected_function f).body nothing_stored passes;
    scratch = reads_stored (frame_of p f) false (selected_function f).body nothing_stored passes;
  }

  pub function_right : IsEmittableFunction p f (selected_function f)
  function_right = record {
    name = refl;
    scalars = refl;
    frame = record { few = right.most_scalars; below = names_below (frame_of p f) (selected_function f).body body_right.refers };
    body = body_right;
  }

selected_at : (p : ProgramCode) (n : ℕ) (f : FunctionCode) → slice_get p.functions n ≡ Some f → slice_get (selected p) n ≡ Some (selected_function f)
selected_at p n f is = slice_get-map selected_function p.functions n ∙ ap (option_map selected_function) is

-- emission takes the code that is selected for a program
pub selected_emittable : (p : ProgramCode) → IsCode p → IsEmittable p (selected p)
selected_emittable p code = record {
  count = length-map p.functions selected_function;
  each = λ n f g is found.
      let same : selected_function f ≡ g = cc (selected_at p n f is, found) in
      subst (IsEmittableFunction p f) same (function_right p code n f is);
}

all_of : {X : Type 0} (P : X → Type 0) (xs : List X) → ((n : ℕ) (x : X) → slice_get xs n ≡ Some x → P x) → All P xs
all_of P xs h = λ k d within. h k (get_or xs k d) (slice_get-get_or xs k d within)

in_frame_at : (p : ProgramCode) → IsEmittable p (selected p) → (n : ℕ) (g : FunctionItems) (o : Option FunctionCode) → slice_get p.functions n ≡ o
    → slice_get (selected p) n ≡ Some g → IsInFrame g
in_frame_at p right n g (Some f) is found = (right.each n f g is found).frame
in_frame_at p right n g None is found = absurd (cc (slice_get-map selected_function p.functions n, ap (option_map selected_function) is, found))

-- and each function's scalars are those of its frame
pub selected_in_frame : (p : ProgramCode) → IsCode p → All IsInFrame (selected p)
selected_in_frame p code =
    all_of IsInFrame (selected p) (λ n g found. in_frame_at p (selected_emittable p code) n g (slice_get p.functions n) refl found)
