-- Which steps make an output.
use Rattle.std.proofs.Common.{◌≡◌, ◌<◌, ℕ, List, [], ◌∷◌, Bool, true, false, Option, Some, None, refl, sym, ap, ◌∙◌}
use Rattle.c25_isa.specs.declared.operand.Indirect.{Indirect}
use Rattle.c25_isa.specs.declared.operand.Operand.{Operand}
use Rattle.c25_isa.specs.declared.instruction.Instr.{Instr}
use Rattle.c25_isa.specs.declared.instruction.Instr.TheVariants.{Popd, In, Ret, Branch}
use Rattle.c25_isa.specs.State.{State}
use Rattle.c25_isa.specs.Step.{Event, Ran, Put, Over, Trapped, step, takes, pops_to, returns, jumps, holds, effect, repeated}
use Rattle.c25_sim.specs.Answers.{puts, state_after, StandsBeforeOutput}
use Rattle.c25_sim.specs.Rows.{puts_word}

took : (s : State) (len port : ℕ) (o : Operand) (words : List ℕ) → puts (takes len s port o words) ≡ false
took s len port o [] = refl
took s len port o (word ∷ rest) = refl

popped : (s : State) (len : ℕ) (o : Operand) (words : List ℕ) → puts (pops_to len s o words) ≡ false
popped s len o [] = refl
popped s len o (word ∷ rest) = refl

returned : (s : State) (words : List ℕ) → puts (returns s words) ≡ false
returned s [] = refl
returned s (word ∷ rest) = refl

jumped : (s : State) (len to : ℕ) (i : Indirect) (b : Bool) → puts (jumps len s i to b) ≡ false
jumped s len to i true = refl
jumped s len to i false = refl

pub once : (s : State) (len : ℕ) (i : Instr) → puts (effect s len i) ≡ puts_word i
once s len (Popd o) = popped s len o s.stack
once s len (In port o) = took s len port o (s.input port)
once s len Ret = returned s s.stack
once s len (Branch op to i) = jumped s len to i (holds op s)
once s len i = refl

pub repeating : (times : Option ℕ) (pc : ℕ) (e : Event) → puts (repeated times pc e) ≡ puts e
repeating None pc e = refl
repeating (Some times) pc (Ran s) = refl
repeating (Some times) pc (Put word s) = refl
repeating (Some times) pc (Over ending) = refl
repeating (Some times) pc (Trapped kind at) = refl

-- an event that makes an output
put_of : (e : Event) → puts e ≡ true → (word : ℕ × ℕ) × (t : State) × (e ≡ Put word t)
put_of (Ran s) is = cc
put_of (Put word s) is = (word, s, refl)
put_of (Over ending) is = cc
put_of (Trapped kind at) is = cc

-- behind k of m steps, where the next one makes an output
pub stands_before : (m k : ℕ) (s here now : State) → k < m → here ≡ state_after k s → now ≡ here → puts (step here) ≡ true → StandsBeforeOutput m s now
stands_before m k s here now fewer behind same is =
    let put = put_of (step now) (ap (λ x. puts (step x)) same ∙ is) in
    record { done = k; fewer = fewer; is_behind = same ∙ behind; word = put.0; next = put.1; step_is = put.2 }

-- where an output was made there was room
pub had_room : (b : Bool) → (b ≡ false → true ≡ false) → b ≡ true
had_room true silent = refl
had_room false silent = sym (silent refl)

-- an instruction of another row makes no output
pub silent : (s : State) (len : ℕ) (i : Instr) (e : Event) → puts_word i ≡ false → repeated s.repeats s.pc (effect s len i) ≡ e → puts e ≡ false
silent s len i e word is = ap puts (sym is) ∙ repeating s.repeats s.pc (effect s len i) ∙ once s len i ∙ word
