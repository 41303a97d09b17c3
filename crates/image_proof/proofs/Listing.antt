-- A run of an image holds its words throughout, so that walks of its ranges tell how it goes along their stretches.
use Rattle.std.proofs.Common.{◌≡◌, ℕ, zero, suc, ◌+◌, ◌-◌, ◌^◌, ◌<◌, ◌≤◌, Bool, true, false, List, [], ◌∷◌, length, Option, Some, None, refl, sym, ap, ◌∙◌, subst, arith, take, drop, get_or, map}
use Rattle.std.specs.Prelude.{nat_lt, if◌then◌else◌, slice_index, slice_range, option_and_then}
use Rattle.std.proofs.lemmas.List.{get_or-drop, get_or-take, length-drop, length-take}
use Rattle.std.proofs.lemmas.Option.{same_Some}
use Rattle.word_base.specs.Ports.{Input}
use Rattle.tree_code.specs.WordTree.{FunctionCode}
use Rattle.acc_code.specs.AccTree.{FunctionItems}
use Rattle.acc_code.specs.AccSequence.{blocks_of}
use Rattle.mem_plan.specs.declared.data_plan.FramePlan.{FramePlan}
use Rattle.c25_isa.specs.declared.image.FunctionRange.{FunctionRange}
use Rattle.c25_isa.specs.declared.instruction.Instr.{Instr}
use Rattle.c25_isa.specs.Decode.{Decoded, decode}
use Rattle.c25_isa.specs.Image.{Contents}
use Rattle.c25_isa.specs.Pieces.{Piece, Linked, PiecesFit}
use Rattle.c25_isa.specs.State.{State, Start, BeginsWith}
use Rattle.c25_isa.specs.CodeAt.{WordsAt}
use Rattle.c25_isa.specs.Step.{Event, Ran, Put, Over, Trapped, wrap16, trap_of, repeated, ran_once, effect, perform, step}
use Rattle.c25_isa.specs.Leads.{next_state, state_behind}
use Rattle.c25_isa.specs.MachineRun.{reset}
use Rattle.c25_isa.specs.Direct.{Direct}
use Rattle.c25_isa.specs.StretchRuns.{HoldsRange}
use Rattle.c25_isa.specs.Walk.{nothing_known}
use Rattle.c25_isa.proofs.KnownSteps.{OnState, row}
use Rattle.c25_isa.proofs.StretchWays.{on_repeated, on_trap, on_more}
use Rattle.c25_isa.proofs.StretchCode.{range_is_entered, walk_tells}
use Rattle.c25_isa.proofs.FrameWays.{frame_tells}
use Rattle.image_proof.specs.Directs.{HasDirect, own_words, place_words, given_words}
use Rattle.image_proof.specs.Emissions.{Emission}
use Rattle.image_proof.specs.FrameWords.{place_of}
use Rattle.image_proof.specs.FunctionWalks.{HasWalk}
use Rattle.image_proof.specs.Keeping.{all_pieces}
use Rattle.image_proof.specs.Listing.{ListsFrame}
use Rattle.image_proof.proofs.ExecWords.{words_fit}

-- a step leaves the program memory as it is
abbrev SameProgram : State → State → Type 0
SameProgram s t = t.program ≡ s.program

once_same : (s t : State) (times pc : ℕ) → SameProgram s t → SameProgram s (ran_once times pc t)
once_same s t times pc same = by (nat_lt 1 times)
  where
    by : (b : Bool) → SameProgram s (if b then record t { pc = pc; repeats = Some (times - 1) } else record t { repeats = None })
    by true = same
    by false = same

effect_same : (s : State) (len : ℕ) (i : Instr) → OnState (SameProgram s) (effect s len i)
effect_same s len i = on_more _ (SameProgram s) (effect s len i) (λ t comes. comes.program) (row nothing_known s len (record { arp_so = tt; ar_so = λ n. tt }) i)

step_same : (s : State) → OnState (SameProgram s) (step s)
step_same s = decided (decode (s.program s.pc) (s.program (wrap16 (s.pc + 1))))
  where
    decided : (d : Decoded) → OnState (SameProgram s) (perform s d)
    decided None = tt
    decided (Some found) = on_trap (SameProgram s) (trap_of s found.0) s _ (λ free. by s.repeats)
      where
        by : (r : Option ℕ) → OnState (SameProgram s) (repeated r s.pc (effect s found.1 found.0))
        by None = effect_same s found.1 found.0
        by (Some times) =
            on_repeated (SameProgram s) times s.pc (effect s found.1 found.0)
            (on_more (SameProgram s) (λ t. SameProgram s (ran_once times s.pc t)) (effect s found.1 found.0) (λ t same. once_same s t times s.pc same) (effect_same s found.1 found.0))

-- so does a run
pub program_stays : (steps : ℕ) (s t : State) → state_behind steps s ≡ Some t → t.program ≡ s.program
program_stays zero s t is = ap (λ (u : State). u.program) (sym (same_Some s t is))
program_stays (suc steps) s t is = by (step s) (step_same s) (λ u there. program_stays steps u t there) is
  where
    by : (e : Event) → OnState (SameProgram s) e → ((u : State) → state_behind steps u ≡ Some t → t.program ≡ u.program) → option_and_then (state_behind steps) (next_state e) ≡ Some t → t.program ≡ s.program
    by (Ran u) same more is = more u is ∙ same
    by (Put word u) same more is = more u is ∙ same
    by (Over ending) same more is = absurd cc
    by (Trapped kind at) same more is = absurd cc

-- the words of a range stand where the words of the image do
range_stands : (words : List ℕ) (first last : ℕ) (program : ℕ → ℕ) → ((a : ℕ) → a < length words → program a ≡ slice_index words a) → WordsAt program first (slice_range words first (last + 1))
range_stands words first last program stand a within =
    stand (first + a) (let taken = length-take (last + 1 - first) (drop first words) in let dropped = length-drop first words in omega (arith, within, taken, dropped))
    ∙ sym (get_or-take (last + 1 - first) (drop first words) a 0 (let taken = length-take (last + 1 - first) (drop first words) in omega (arith, within, taken)) ∙ get_or-drop first words a 0)

-- in a run of the image each state holds each range
pub run_holds : (pieces : List Piece) (image : Contents) (first last steps : ℕ) (b : Start) (input : Input) (s : State) → Linked pieces image → PiecesFit pieces → length image.words ≤ 65536 → BeginsWith image.words b → state_behind steps (reset b input) ≡ Some s
    → HoldsRange image.words first last s
run_holds pieces image first last steps b input s linked fit room begins there = record {
  fit = words_fit pieces image linked fit;
  room = room;
  stand = range_stands image.words first last s.program (λ a within. ap (λ (m : ℕ → ℕ). m a) (program_stays steps (reset b input) s there) ∙ begins a within);
}

module _ (e : Emission) (routines : List Piece) (image : Contents) (linked : Linked (all_pieces e routines) image) (fit : PiecesFit (all_pieces e routines)) (room : length image.words ≤ 65536) where
  pub lists_frame : (k : ℕ) (code : FunctionCode) (g : FunctionItems) (frame : FramePlan) (lists : List (List ℕ)) → HasWalk image k e.step g frame lists → HasDirect e image k code frame lists → ListsFrame image k code g frame lists
  lists_frame k code g frame lists walked named =
      let same : named.range ≡ walked.range = same_Some named.range walked.range (sym named.there ∙ walked.there) in
      let first = walked.range.first in
      let last = walked.range.last in
      let direct = subst (λ (r : FunctionRange). Direct image.words r.first r.last (own_words code frame lists) (place_words e code frame) (given_words e code)) same named.direct in
      let blocks = map (map (place_of frame.bases lists)) (blocks_of g.body) in
      record {
        range = walked.range;
        there = walked.there;
        walks = walked.walks;
        entered = range_is_entered image.words first last;
        tells = λ stretch s steps at.
            walk_tells image.words first last blocks stretch s steps walked.walks (run_holds (all_pieces e routines) image first last at.steps at.board at.input s linked fit room at.words at.there) at.is_stretch at.first;
        listed = λ stretch s steps at.
            frame_tells image.words first last blocks (own_words code frame lists) (place_words e code frame) (given_words e code) stretch s steps walked.walks direct
            (run_holds (all_pieces e routines) image first last at.steps at.board at.input s linked fit room at.words at.there) at.is_stretch at.first;
      }
