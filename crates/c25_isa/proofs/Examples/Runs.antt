-- Runs of the machine from a reset, computed.
use Rattle.std.specs.Prelude.{ℕ, true, false, List, [], ◌∷◌}
use Rattle.std.proofs.Common.{◌≡◌, refl}
use Rattle.word_base.specs.declared.outcome.Ending.TheVariants as ending
use Rattle.c25_isa.specs.declared.operand.Operand.TheVariants.{Direct}
use Rattle.c25_isa.specs.declared.instruction.Instr.TheVariants.{Sacl, Ldpk, Lalk, Idle, Out}
use Rattle.c25_isa.specs.declared.trap.TrapKind.TheVariants as trap
use Rattle.c25_isa.specs.Table.{code_words}
use Rattle.c25_isa.specs.MachineRun.{Running, Ended, Stopped, machine_run}
use Rattle.c25_isa.proofs.Examples.States.{board}

-- the words of an output of 5 to port 1 and an end with 7
abbrev five_then_seven : List ℕ
five_then_seven = 0xc806 ∷ 0xd001 ∷ 5 ∷ 0x6000 ∷ 0xe100 ∷ 0xd001 ∷ 7 ∷ 0xce1f ∷ []

words_are : code_words (Ldpk 6 ∷ Lalk 0 5 ∷ Sacl 0 (Direct 0) ∷ Out 1 (Direct 0) ∷ Lalk 0 7 ∷ Idle ∷ []) ≡ five_then_seven
words_are = refl

-- the run ends with its sixth step, and puts its word with the fourth
runs_three : machine_run (board false five_then_seven) (λ port. []) 3 ≡ Running []
runs_three = refl

runs_five : machine_run (board false five_then_seven) (λ port. []) 5 ≡ Running ((1, 5) ∷ [])
runs_five = refl

runs_six : machine_run (board false five_then_seven) (λ port. []) 6 ≡ Ended ((1, 5) ∷ []) (ending.Returned 7)
runs_six = refl

-- a word from 8000h on is put and returned as it is in both modes of sign extension
wide : machine_run (board true (0xc806 ∷ 0xd001 ∷ 0xfffe ∷ 0x6000 ∷ 0xe100 ∷ 0xd001 ∷ 0x8000 ∷ 0xce1f ∷ [])) (λ port. []) 9 ≡ Ended ((1, 0xfffe) ∷ []) (ending.Returned 0x8000)
wide = refl

-- a page below 0300h traps at the store, which is word 3
low_page : machine_run (board false (0xc805 ∷ 0xd001 ∷ 5 ∷ 0x6000 ∷ [])) (λ port. []) 9 ≡ Stopped [] trap.NoRam 3
low_page = refl

-- without an end the run goes on, here to a word that is no instruction, and to zeros, which are sums
past_the_end : machine_run (board false (0xc806 ∷ 0xd001 ∷ 5 ∷ 0xffff ∷ [])) (λ port. []) 9 ≡ Stopped [] trap.BadWord 3
past_the_end = refl

to_zeros : machine_run (board false (0xc806 ∷ 0xd001 ∷ 5 ∷ [])) (λ port. []) 9 ≡ Stopped [] trap.Mode 3
to_zeros = refl
