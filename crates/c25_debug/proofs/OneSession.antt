-- A script shows one text, and bytes are one script.
use Rattle.std.proofs.Common.{◌≡◌, ◌≢◌, ◌⊎◌, ℕ, ◌<◌, ◌≤◌, List, [], ◌∷◌, ◌++◌, length, refl, sym, ap, ap₂, subst, ◌∙◌, inl, inr, arith}
use Rattle.std.proofs.lemmas.Bool.{cases_order}
use Rattle.c25_isa.specs.State.{State, zero_start}
use Rattle.c25_isa.specs.MachineRun.{reset}
use Rattle.word_base.specs.Ports.{input_of}
use Rattle.c25_sim.specs.Taken.{of_sixteen}
use Rattle.c25_debug.specs.declared.command.Command.{Command}
use Rattle.c25_debug.specs.declared.command.Command.TheVariants.{Break, Delete, Go, Regs, Mem, Stack}
use Rattle.c25_debug.specs.declared.fault.ScriptFault.{ScriptFault}
use Rattle.c25_debug.specs.declared.fault.ScriptFault.TheVariants as faults
use Rattle.c25_debug.specs.Script.{ScriptText, ScriptSays}
use Rattle.c25_debug.specs.Session.{Kept, GoesTo, go_text, Does, Shows, Session, before_all}
use Rattle.c25_debug.proofs.ScriptFaults.{bad_no_text, text_one}

-- ---- one session

goes_one : (s : State) (kept : Kept) (count i j : ℕ) → GoesTo s kept count i → GoesTo s kept count j → i ≡ j
goes_one s kept count i j g h = by (cases_order i j)
  where
    by : (i ≡ j) ⊎ ((i < j) ⊎ (j < i)) → i ≡ j
    by (inl same) = same
    by (inr (inl less)) = absurd (h.least i g.above less g.stops)
    by (inr (inr more)) = absurd (g.least j h.above more h.stops)

does_one : (s : State) (kept : Kept) (command : Command) (one two : List ℕ) (next other : Kept) → Does s kept command one next → Does s kept command two other → (one ≡ two) × (next ≡ other)
does_one s kept (Break at) one two next other g h = (g.0 ∙ sym h.0, g.1 ∙ sym h.1)
does_one s kept (Delete at) one two next other g h = (g.0 ∙ sym h.0, g.1 ∙ sym h.1)
does_one s kept (Go count) one two next other g h =
    let steps = goes_one s kept count next.steps other.steps g.0 h.0 in (
      g.1 ∙ ap (go_text s kept.steps) steps ∙ sym h.1,
      ap₂ (λ n b. record { steps = n; breakpoints = b }) steps (g.2 ∙ sym h.2),
    )
does_one s kept Regs one two next other g h = (g.0 ∙ sym h.0, g.1 ∙ sym h.1)
does_one s kept (Mem at count) one two next other g h = (g.0 ∙ sym h.0, g.1 ∙ sym h.1)
does_one s kept Stack one two next other g h = (g.0 ∙ sym h.0, g.1 ∙ sym h.1)

follows_one : (s : State) (script : List Command) (kept : Kept) (one two : List ℕ) → Shows s script kept one → Shows s script kept two → one ≡ two
follows_one s [] kept one two g h = g ∙ sym h
follows_one s (command ∷ script) kept one two g h =
    let first = does_one s kept command g.front h.front g.next h.next g.does h.does in
    let others = follows_one s script h.next g.back h.back (subst (λ k. Shows s script k g.back) first.1 g.others) h.others in
    g.joined ∙ ap₂ (λ x y. x ++ y) first.0 others ∙ sym h.joined

pub session_one : (words : List ℕ) (lines : List (ℕ × ℕ)) (script : List Command) (one two : List ℕ) → Session words lines script one → Session words lines script two → one ≡ two
session_one words lines script one two g h = follows_one (reset (zero_start words) (of_sixteen (input_of lines))) script before_all one two g h

-- ---- one script

pub scripts_same : (bytes : List ℕ) (one two : List Command) → ScriptText bytes one → ScriptText bytes two → one ≡ two
scripts_same bytes one two g h = text_one bytes one two g h

-- bytes that have a fault are no script of at most 1,000 commands
pub says_no_script : (bytes : List ℕ) (fault : ScriptFault) (script : List Command) → fault ≢ faults.NoMemory → ScriptSays bytes fault → ScriptText bytes script → length script ≤ 1000 → ⊥
says_no_script bytes (faults.BadLine line) script some says text few = bad_no_text bytes line script says text
says_no_script bytes (faults.TooLong count) script some says text few = omega (arith, says.many, few, ap length (text_one bytes says.script script says.good text))
says_no_script bytes faults.NoMemory script some says text few = some refl
