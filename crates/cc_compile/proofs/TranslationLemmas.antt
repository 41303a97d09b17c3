-- What emission wants of the code of a program, and what the faults of phases say of the program.
use Rattle.std.proofs.Common.{◌≡◌, ◌<◌, ℕ, zero, suc, List, [], ◌∷◌, length, refl, sym, subst, arith}
use Rattle.std.specs.Prelude.{All, slice_get, slice_index_or, Some, Result, Ok, Err, IfOk, IfErr, IsErrAnd}
use Rattle.std.proofs.Math.Logic.{∥∥₁_map}
use Rattle.word_base.specs.Ports.{Input, IsInput}
use Rattle.c_tree.specs.TypedTree.{ProgramTree}
use Rattle.c_tree.specs.WellFormedProgram.{IsProgram}
use Rattle.c_tree.specs.TypedOfWords.{ProgramHasWords}
use Rattle.image_proof.specs.acc_select.Selected.{selected}
use Rattle.image_proof.specs.ir_semantics.Keeps.{Keeps, acc_run, tree_run}
use Rattle.image_proof.specs.ir_semantics.SourceWork.{worked_run}
use Rattle.image_proof.specs.ir_semantics.Outside.{Places}
use Rattle.image_proof.specs.tree_code_proof.Surroundings.{ArePlaces}
use Rattle.frame_layouts.specs.mem_plan.Plan.{AreArranged, IsPlan}
use Rattle.image_proof.specs.PlanPlaces.{places_of}
use Rattle.tree_code.specs.WordTree.{ProgramCode}
use Rattle.tree_code.specs.Lowered.{lowered_program}
use Rattle.acc_code.specs.AccTree.{FunctionItems}
use Rattle.acc_code.specs.Emittable.{Throughout}
use Rattle.image_proof.specs.acc_select.IsSelected.{IsEmittable, object_cells, called_parameters}
use Rattle.tree_code.specs.WordHelpers.{uses_helper}
use Rattle.frame_layouts.specs.mem_plan.declared.data_plan.DataPlan.{DataPlan}
use Rattle.frame_layouts.specs.mem_plan.declared.data_plan.PlanFault.TheVariants as plan_faults
use Rattle.c25_link.specs.declared.fault.LinkFault.TheVariants as link_faults
use Rattle.image_proof.specs.frame_emit.emit_control.Emits.{IsRightItem}
use Rattle.image_proof.proofs.frame_emit.Naming.{all_right}
use Rattle.cc_compile.specs.declared.translation_fault.TranslationFault.{TranslationFault}
use Rattle.cc_compile.specs.declared.translation_fault.TranslationFault.TheVariants.{Plan, Link, NoMemory}
use Rattle.cc_compile.specs.TranslationFaults.{Says, SaysOfTree, SaysOfPieces}
use Rattle.cc_compile.specs.Images.{FrameJobs, IsPlanOf, KeepsRuns, TreeKeepsRuns, all_pieces, layouts}

pub element_at : {A : Type 0} (xs : List A) (k : ℕ) (d : A) → k < length xs → slice_get xs k ≡ Some (slice_index_or xs k d)
element_at [] k d within = absurd (omega (arith, within))
element_at (x ∷ xs) zero d within = refl
element_at (x ∷ xs) (suc k) d within = element_at xs k d (omega (arith, within))

pub some_at : {A : Type 0} (xs : List A) (k : ℕ) → k < length xs → (x : A) × (slice_get xs k ≡ Some x)
some_at [] k within = absurd (omega (arith, within))
some_at (x ∷ xs) zero within = (x, refl)
some_at (x ∷ xs) (suc k) within = some_at xs k (omega (arith, within))

pub emittable_right : (p : ProgramCode) (gs : List FunctionItems) → IsEmittable p gs → All (λ g. Throughout IsRightItem g.body) gs
emittable_right p gs is = λ k d within.
    let f = some_at p.functions k (omega (arith, within, is.count)) in
    let g = slice_index_or gs k d in
    let each = is.each k f.0 g f.1 (element_at gs k d within) in
    all_right g.scalars (object_cells p f.0) (called_parameters p f.0) (uses_helper f.0.body) g.body each.body.refers

-- what is made has what is so of all that could be
pub ok_then : {A E : Type 0} {P Q : A → Type 0} (r : Result A E) → IfOk r P → ((a : A) → P a → Q a) → IfOk r Q
ok_then (Ok a) h k = k a h
ok_then (Err e) h k = tt

-- the law of runs for the layouts of a program
abbrev pub RunsKept : Type 0
RunsKept = (t : ProgramTree) (arrangements : List (List (List ℕ))) (plan : DataPlan) (input : Input) (n : ℕ) → IsProgram t → ProgramHasWords t → AreArranged (lowered_program t).functions arrangements → IsPlan (lowered_program t) arrangements plan → IsInput input
    → Keeps (worked_run t input n) (acc_run (places_of plan) (lowered_program t) (selected (lowered_program t)) input n)

pub runs_kept : RunsKept → (o : FrameJobs) (t : ProgramTree) (p : ProgramCode) → p ≡ lowered_program t → ∥ IsProgram t ∥₁ → ProgramHasWords t → AreArranged p.functions (layouts o) → ∥ KeepsRuns o t ∥₁
runs_kept law o t p same known words arranged =
    ∥∥₁_map known (λ is plan planned input n inputs. law t (layouts o) plan input n is words (subst (λ p. AreArranged p.functions (layouts o)) same arranged) planned inputs)

-- the law of lowering for a plan of the program
abbrev pub TreesKept : Type 0
TreesKept = (q : Places) (t : ProgramTree) (input : Input) (n : ℕ) → IsProgram t → ProgramHasWords t → ArePlaces q t → IsInput input → Keeps (worked_run t input n) (tree_run q (lowered_program t) input n)

abbrev pub PlansHavePlaces : Type 0
PlansHavePlaces = (t : ProgramTree) (arrangements : List (List (List ℕ))) (plan : DataPlan) → IsProgram t → AreArranged (lowered_program t).functions arrangements → IsPlan (lowered_program t) arrangements plan → ArePlaces (places_of plan) t

pub trees_kept : TreesKept → PlansHavePlaces → (o : FrameJobs) (t : ProgramTree) (p : ProgramCode) → p ≡ lowered_program t → ∥ IsProgram t ∥₁ → ProgramHasWords t → AreArranged p.functions (layouts o) → ∥ TreeKeepsRuns o t ∥₁
trees_kept law places o t p same known words arranged =
    ∥∥₁_map known
    (λ is plan planned input n inputs.
    law (places_of plan) t input n is words (places t (layouts o) plan is (subst (λ p. AreArranged p.functions (layouts o)) same arranged) planned) inputs)

pub tree_says : (o : FrameJobs) (t : ProgramTree) (p : ProgramCode) (why : TranslationFault) → p ≡ lowered_program t → SaysOfTree p why → Says o t why
tree_says o t p (Plan (plan_faults.DataFull words)) same h = subst (λ q. SaysOfTree q (Plan (plan_faults.DataFull words))) same h
tree_says o t p (Plan plan_faults.NoMemory) same h = h
tree_says o t p (Link why) same h = absurd h
tree_says o t p NoMemory same h = tt

pub pieces_say : (o : FrameJobs) (t : ProgramTree) (plan : DataPlan) (why : TranslationFault) → IsPlanOf o t plan → SaysOfPieces (all_pieces o (lowered_program t) plan) why → Says o t why
pieces_say o t plan (Plan why) is h = absurd h
pieces_say o t plan (Link (link_faults.CodeFull words)) is h = record { plan = plan; planned = is; is = h.0; over = h.1 }
pieces_say o t plan (Link link_faults.NoMemory) is h = h
pieces_say o t plan NoMemory is h = tt

pub passed_on : {A : Type 0} (o : FrameJobs) (t : ProgramTree) (r : Result A TranslationFault) (why : TranslationFault) → IsErrAnd r (λ e. e ≡ why) → Says o t why → IfErr r (Says o t)
passed_on o t (Ok a) why is says = absurd is
passed_on o t (Err e) why is says = subst (Says o t) (sym is) says
