-- The words of pieces: those of functions, the startup, the routines, and all of them.
use Rattle.std.proofs.Common.{◌≡◌, ℕ, zero, suc, ◌+◌, ◌*◌, ◌<◌, ◌≤◌, Bool, true, false, List, [], ◌∷◌, ◌++◌, length, map, slice_get, Option, Some, None, refl, sym, subst, cond, arith}
use Rattle.std.specs.Prelude.{◌==◌, nat_lt, if◌then◌else◌, filter}
use Rattle.std.proofs.lemmas.List.Sums.{sum_by-cons}
use Rattle.std.proofs.lemmas.Option.{slice_get_within}
use Rattle.c_tree.specs.declared.program.Initial.{Initial}
use Rattle.c_tree.specs.declared.program.VarRef.{VarRef}
use Rattle.c_tree.specs.SourceRun.{main_name}
use Rattle.c_tree.specs.TypedTree.{ObjectTree, ProgramTree}
use Rattle.tree_code.specs.Lowered.{lowered_program}
use Rattle.tree_code.specs.WordHelpers.{uses_helper}
use Rattle.tree_code.specs.WordTree.{FunctionCode, ProgramCode}
use Rattle.c25_isa.specs.declared.instruction.Instr.TheVariants as instr
use Rattle.c25_isa.specs.declared.piece.PieceItem.TheVariants.{Do, CallTo}
use Rattle.c25_isa.specs.Pieces.{Piece, items_size}
use Rattle.c25_code.specs.Items.{no_change, plain_items, entry_code}
use Rattle.c25_code.specs.Straight.{code_size}
use Rattle.c25_code.proofs.Items.{items_size-append, plain_items-size}
use Rattle.c25_code.proofs.Pieces.{code_size-append}
use Rattle.c25_helper.specs.Calls.{pieces_call, called_helper_pieces}
use Rattle.c25_helper.specs.Routines.{helper_pieces}
use Rattle.c25_link.specs.Linking.{pieces_words}
use Rattle.acc_code.specs.AccTree.{FunctionItems, ItemList}
use Rattle.acc_code.specs.Emittable.{Throughout, IsPlaced, IsEmittableBody}
use Rattle.acc_select.specs.IsSelected.{IsEmittable, object_cells, called_parameters}
use Rattle.acc_select.specs.Selected.{selected}
use Rattle.acc_select.proofs.EmittableTruths.{known_emittable}
use Rattle.tree_code.proofs.CodeLemmas.{well_formed_code}
use Rattle.c_tree.specs.WellFormedProgram.{IsProgram}
use Rattle.std.proofs.Math.Logic.{∥∥₁_map}
use Rattle.ir_semantics.specs.SourceWeights.{source_weight}
use Rattle.ir_semantics.specs.Weights.{items_weight, function_items_weight, lists_weight, statics_weight, code_weight}
use Rattle.size_proof.proofs.Lowering.{program_lowered}
use Rattle.size_proof.proofs.WeightStatements.{program_weighs}
use Rattle.mem_plan.specs.declared.data_plan.DataPlan.{DataPlan}
use Rattle.mem_plan.specs.declared.data_plan.FramePlan.{FramePlan}
use Rattle.frame_emit.specs.emit_control.declared.ways.Ways.{Ways}
use Rattle.frame_emit.specs.emit_control.declared.state.Before.{Before}
use Rattle.frame_emit.specs.emit_control.declared.state.Before.TheVariants.{Open, Shut, Gone}
use Rattle.frame_emit.specs.emit_control.Cuts.{begun, cut, finish_items, function_items}
use Rattle.frame_emit.specs.emit_control.Emits.{IsRightItem}
use Rattle.frame_emit.specs.emit_control.Entries.{Finish}
use Rattle.frame_emit.specs.emit_control.Flow.{body_entries}
use Rattle.frame_emit.specs.emit_control.Settings.{Setting}
use Rattle.emit_proof.proofs.Keeping.{placed_any, no_cases_directly, no_case}
use Rattle.frame_emit.specs.Emitted.{setting_of, function_piece, function_pieces, behind_startup, emitted}
use Rattle.frame_emit.specs.Frames.{all_parameters}
use Rattle.frame_emit.specs.Startup.{static_words, clearing_items, initial_word, before_zeros, up_to_last, is_held, load_of, word_load, store_up, words_code, filling_code, fillings_code, statics_items, startup_piece}
use Rattle.frame_emit.proofs.Naming.{all_right}
use Rattle.size_proof.specs.Sizes.{STARTUP_WORDS, ROUTINE_WORDS}
use Rattle.size_proof.proofs.Lists.{emit_fits}

-- what is written at the ends of a body
ends_size : (m : Setting) (b : Bool) (x : Before) (l : ℕ) → items_size (plain_items (entry_code m.back)) + items_size (finish_items m b x l) ≤ 5
ends_size m b x l = by m.back b x
  where
    by : (o : Option ℕ) (b : Bool) (x : Before) → items_size (plain_items (entry_code o)) + items_size (finish_items (record m { back = o }) b x l) ≤ 5
    by None true x = omega arith
    by None false Open = omega arith
    by None false Shut = omega arith
    by None false Gone = omega arith
    by (Some word) true x = omega arith
    by (Some word) false Open = omega arith
    by (Some word) false Shut = omega arith
    by (Some word) false Gone = omega arith

abbrev body_ways : Ways
body_ways = record { onward = 0; broken = 0; continued = 0; cases = 0 }

pub body_size : (m : Setting) (body : ItemList) → IsPlaced false false false body → Throughout IsRightItem body
    → items_size (function_items m body) ≤ 5 + items_weight body
body_size m body placed right =
    let all = emit_fits m body (placed_any body placed) right [] tt body_ways 1 in
    let fits = all.by begun 0 (omega arith) (no_case (λ l. begun.named l ≡ true) 0 _ (no_cases_directly body placed)) in
    let s = fits.behind in
    let same = fits.takes.is (Finish 0 ∷ []) in
    let few = fits.within in
    let ends = ends_size m (s.named 0) s.before 0 in
    omega (arith, same, few, ends, items_size-append (plain_items (entry_code m.back)) (cut m begun (body_entries body)), items_size-append (finish_items m (s.named 0) s.before 0) [])

pub function_size : (m : Setting) (scalars : ℕ) (cells : VarRef → Option ℕ) (parameters : ℕ → Option ℕ) (helps : Bool) (g : FunctionItems)
    → IsEmittableBody scalars cells parameters helps g.body → items_size (function_items m g.body) ≤ function_items_weight g
function_size m scalars cells parameters helps g h = body_size m g.body h.placed (all_right scalars cells parameters helps g.body h.refers)

-- the startup
load_size : (b : Bool) (w : ℕ) → code_size ((if b then instr.Lack w else instr.Lalk 0 w) ∷ []) ≤ 2
load_size true w = omega arith
load_size false w = omega arith

held_size : (b : Bool) (w : ℕ) → code_size (if b then [] else load_of w ∷ []) ≤ 2
held_size true w = omega arith
held_size false w = load_size (nat_lt w 256) w

words_size : (held : Option ℕ) (ws : List ℕ) → code_size (words_code held ws) ≤ 3 * length ws
words_size held [] = omega arith
words_size held (w ∷ ws) =
    let one = held_size (is_held held w) w in
    let more = words_size (Some w) ws in
    omega (arith, one, more, code_size-append (word_load held w) (store_up ∷ words_code (Some w) ws))

zeros_size : (w : ℕ) (ws : List ℕ) → length (before_zeros w ws) ≤ suc (length ws)
zeros_size w [] = by (w == 0)
  where
    by : (b : Bool) → length (if b then [] else w ∷ []) ≤ 1
    by true = omega arith
    by false = omega arith
zeros_size w (v ∷ vs) = omega arith

last_size : (ws : List ℕ) → length (up_to_last ws) ≤ length ws
last_size [] = omega arith
last_size (w ∷ ws) = let more = last_size ws in let one = zeros_size w (up_to_last ws) in omega (arith, more, one)

filling_size : (a : ℕ) (ws : List ℕ) → code_size (filling_code a ws) ≤ 2 + 3 * length ws
filling_size a [] = omega arith
filling_size a (w ∷ ws) = let words = words_size None (w ∷ ws) in omega (arith, words)

initial_size : (statics : List ℕ) (is : List Initial) → length (map (initial_word statics) is) ≡ length is
initial_size statics [] = refl
initial_size statics (i ∷ is) = omega (arith, initial_size statics is)

fillings_size : (statics addresses : List ℕ) (os : List ObjectTree) → code_size (fillings_code statics addresses os) ≤ statics_weight os
fillings_size statics addresses [] = omega arith
fillings_size statics [] (o ∷ os) = omega arith
fillings_size statics (a ∷ addresses) (o ∷ os) =
    let ws = map (initial_word statics) o.initial in
    let one = filling_size a (up_to_last ws) in
    let more = fillings_size statics addresses os in
    omega (arith, one, more, last_size ws, initial_size statics o.initial, code_size-append (filling_code a (up_to_last ws)) (fillings_code statics addresses os))

statics_size : (statics : List ℕ) (os : List ObjectTree) → items_size (statics_items statics os) ≤ 10 + statics_weight os
statics_size statics [] = omega arith
statics_size statics (o ∷ os) =
    let code = fillings_code statics statics (o ∷ os) in
    let clear : items_size (clearing_items (static_words (o ∷ os))) ≡ 10 = refl in
    omega (arith, clear, fillings_size statics statics (o ∷ os), plain_items-size code, items_size-append (clearing_items (static_words (o ∷ os))) (plain_items code))

pub startup_size : (statics : List ℕ) (os : List ObjectTree) → items_size (startup_piece statics os).items ≤ STARTUP_WORDS + statics_weight os
startup_size statics os =
    let init = statics_items statics os ++ Do instr.Ssxm ∷ [] in
    omega (arith, statics_size statics os, items_size-append (statics_items statics os) (Do instr.Ssxm ∷ []), items_size-append init (CallTo main_name no_change ∷ Do instr.Idle ∷ []))

-- pieces one behind another
pub words-cons : (p : Piece) (ps : List Piece) → pieces_words (p ∷ ps) ≡ items_size p.items + pieces_words ps
words-cons p ps = sum_by-cons (λ (q : Piece). items_size q.items) p ps

pub words-append : (ps qs : List Piece) → pieces_words (ps ++ qs) ≡ pieces_words ps + pieces_words qs
words-append [] qs = omega arith
words-append (p ∷ ps) qs = omega (arith, words-cons p ps, words-cons p (ps ++ qs), words-append ps qs)

-- each function of a list fits its weight, whatever it is made with
abbrev AllFit : List FunctionItems → Type 0
AllFit gs = (k : ℕ) (g : FunctionItems) → slice_get gs k ≡ Some g → (m : Setting) → items_size (function_items m g.body) ≤ function_items_weight g

module _ (plan : DataPlan) (step : ℕ) (parameters names : List (List ℕ)) where
  functions_size : (fs : List FunctionCode) (gs : List FunctionItems) (frames : List FramePlan) (arrangements : List (List (List ℕ))) → AllFit gs
      → pieces_words (function_pieces plan step parameters names fs gs frames arrangements) ≤ lists_weight gs
  functions_size [] gs frames arrangements h = omega arith
  functions_size (f ∷ fs) [] frames arrangements h = omega arith
  functions_size (f ∷ fs) (g ∷ gs) [] arrangements h = omega arith
  functions_size (f ∷ fs) (g ∷ gs) (frame ∷ frames) [] h = omega arith
  functions_size (f ∷ fs) (g ∷ gs) (frame ∷ frames) (lists ∷ rest) h =
      let one = h zero g refl (setting_of plan step parameters names f frame lists) in
      let more = functions_size fs gs frames rest (λ k. h (suc k)) in
      omega (arith, one, more, words-cons (function_piece plan step parameters names f g frame lists) (function_pieces plan step parameters names fs gs frames rest))

some_at : {A : Type 0} (xs : List A) (k : ℕ) → k < length xs → (x : A) × (slice_get xs k ≡ Some x)
some_at [] k within = absurd (omega (arith, within))
some_at (x ∷ xs) zero within = (x, refl)
some_at (x ∷ xs) (suc k) within = some_at xs k (omega (arith, within))

-- where code may be emitted, each function does
all_fit : (p : ProgramCode) (gs : List FunctionItems) → IsEmittable p gs → AllFit gs
all_fit p gs h k g found m =
    let within : k < length p.functions = let few = slice_get_within gs k g found in omega (arith, few, h.count) in
    let f = some_at p.functions k within in
    let is = h.each k f.0 g f.1 found in
    function_size m g.scalars (object_cells p f.0) (called_parameters p f.0) (uses_helper f.0.body) g is.body

pub all_size : (p : ProgramCode) (gs : List FunctionItems) (plan : DataPlan) (arrangements : List (List (List ℕ))) (step : ℕ) → IsEmittable p gs
    → pieces_words (emitted p gs plan arrangements step) ≤ STARTUP_WORDS + code_weight p.statics gs
all_size p gs plan arrangements step h =
    let start = startup_size plan.statics p.statics in
    let parameters = all_parameters p.functions plan.frames arrangements in
    let names = map (λ (g : FunctionItems). g.name) gs in
    let functions = functions_size plan step parameters names p.functions gs plan.frames arrangements (all_fit p gs h) in
    omega (arith, start, functions, words-cons (startup_piece plan.statics p.statics) (behind_startup p gs plan arrangements step))

-- routines that are called are among all
filter_size : (test : Piece → Bool) (ps : List Piece) → pieces_words (filter test ps) ≤ pieces_words ps
filter_size test [] = omega arith
filter_size test (p ∷ ps) = by (test p) (filter_size test ps)
  where
    by : (b : Bool) → pieces_words (filter test ps) ≤ pieces_words ps → pieces_words (cond b (p ∷ filter test ps) (filter test ps)) ≤ pieces_words (p ∷ ps)
    by true h = omega (arith, h, words-cons p (filter test ps), words-cons p ps)
    by false h = omega (arith, h, words-cons p ps)

pub routines_size : (pieces : List Piece) → pieces_words (called_helper_pieces pieces) ≤ ROUTINE_WORDS
routines_size pieces =
    let all : pieces_words helper_pieces ≡ ROUTINE_WORDS = refl in
    omega (arith, all, filter_size (λ (helper : Piece). pieces_call helper.name pieces) helper_pieces)

-- all pieces, with the routines that they call
pub linked_size : (p : ProgramCode) (gs : List FunctionItems) (plan : DataPlan) (arrangements : List (List (List ℕ))) (step : ℕ) (pieces : List Piece)
    → IsEmittable p gs
    → pieces ≡ emitted p gs plan arrangements step
    → pieces_words (pieces ++ called_helper_pieces pieces) ≤ STARTUP_WORDS + ROUTINE_WORDS + code_weight p.statics gs
linked_size p gs plan arrangements step pieces h is =
    let few = subst (λ ps. pieces_words ps ≤ STARTUP_WORDS + code_weight p.statics gs) (sym is) (all_size p gs plan arrangements step h) in
    omega (arith, few, routines_size pieces, words-append pieces (called_helper_pieces pieces))

pub program_size : (t : ProgramTree) (plan : DataPlan) (arrangements : List (List (List ℕ))) (step : ℕ) (pieces : List Piece) → ∥ IsProgram t ∥₁
    → pieces ≡ emitted (lowered_program t) (selected (lowered_program t)) plan arrangements step
    → pieces_words (pieces ++ called_helper_pieces pieces) ≤ STARTUP_WORDS + ROUTINE_WORDS + source_weight t
program_size t plan arrangements step pieces known is =
    let p = lowered_program t in
    let emittable = known_emittable p (∥∥₁_map known (well_formed_code t)) in
    omega (arith, linked_size p (selected p) plan arrangements step pieces emittable is, program_weighs p, program_lowered t)
