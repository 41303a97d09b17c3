-- What small changes of a state come to together.
use Rattle.std.proofs.Common.{◌≡◌, ℕ, ◌+◌, ◌%◌, ◌∷◌, Some, true, sym, ap, ◌∙◌, arith}
use Rattle.c25_isa.specs.declared.operand.Indirect.{Indirect}
use Rattle.c25_isa.specs.declared.operand.Operand.{Operand}
use Rattle.c25_isa.specs.State.{State, write}
use Rattle.c25_isa.specs.Step.{Event, wrap16, wrap32, address, after_operand, goes, stores, pops_to, takes, jumps}
use Rattle.c25_sim.specs.Taken.{Pops, Takes}

-- a word is written, the operand counts, and PC goes on
pub stored : (s s1 s2 : State) (len : ℕ) (o : Operand) (a w : ℕ) (e : Event) → a ≡ address s o → s1 ≡ record s { ram = write s.ram a w } → s2 ≡ after_operand s1 o → goes len s2 ≡ e → stores len s o w ≡ e
stored s s1 s2 len o a w e at written followed gone =
    ap (λ x. goes len x) (sym (followed ∙ ap (λ x. after_operand x o) (written ∙ ap (λ b. record s { ram = write s.ram b w }) at))) ∙ gone

-- the low half of a shifted number
pub low_word : (n : ℕ) → wrap16 n ≡ wrap32 n % 65536
low_word n = omega arith

-- the top of the stack goes into memory
pub popped : (s s1 : State) (len : ℕ) (o : Operand) (w : ℕ) (e : Event) → Pops s (Some w) s1 → stores len s1 o w ≡ e → pops_to len s o s.stack ≡ e
popped s s1 len o w e taken stored =
    ap (λ l. pops_to len s o l) taken.1 ∙ ap (λ t. stores len t o w) (sym taken.2) ∙ stored

-- the next word of a port goes into memory
pub took : (s s1 : State) (len port : ℕ) (o : Operand) (w : ℕ) (e : Event) → Takes s port (Some w) s1 → stores len s1 o w ≡ e → takes len s port o (s.input port) ≡ e
took s s1 len port o w e taken stored =
    ap (λ l. takes len s port o l) taken.1 ∙ ap (λ t. stores len t o w) (sym taken.2) ∙ stored

-- the address behind a call is pushed, and the run goes on at its target
pub called : (s s1 : State) (len to w : ℕ) (i : Indirect) (e : Event) → w ≡ wrap16 (s.pc + len) → s1 ≡ record s { stack = w ∷ s.stack } → jumps len s1 i to true ≡ e → jumps len (record s { stack = wrap16 (s.pc + len) ∷ s.stack }) i to true ≡ e
called s s1 len to w i e is pushed jumped =
    ap (λ n. jumps len (record s { stack = n ∷ s.stack }) i to true) (sym is) ∙ ap (λ t. jumps len t i to true) (sym pushed) ∙ jumped
