-- Words that may be repeated: what a step of one does while a repeat is pending.
use Rattle.std.proofs.Common.{◌≡◌, ℕ, suc, true, ◌+◌, ◌-◌, ◌*◌, ◌<◌, Some, None, refl, ap, ◌∙◌, cond, arith}
use Rattle.std.specs.Prelude.{nat_lt}
use Rattle.std.proofs.lemmas.Bool.{le-ltb, lt-ltb}
use Rattle.c25_isa.specs.declared.operand.Operand.{Operand}
use Rattle.c25_isa.specs.declared.operand.Operand.TheVariants.{Direct, Indirect as Through}
use Rattle.c25_isa.specs.declared.instruction.Instr.{Instr}
use Rattle.c25_isa.specs.declared.instruction.Instr.TheVariants.{Add, Sub, Lac, Lar, Mpy, Lt, Zals, Lact, Subs, Subc, Adds, Rpt, Xor, Or, And, Pshd, Mar, Sacl, Sach, Sar, Popd, Adrk, Sbrk, In, Mpyk, Lark, Ldpk, Lack, Rptk, Addk, Subk, Dint, Rovm, Rsxm, Ssxm, Spm, Pac, Apac, Spac, Sfl, Sfr, Idle, Neg, Ret, Cmpl, Lrlk, Lalk, Adlk, Sblk, Andk, Ork, Xork, Out, Branch, Call}
use Rattle.c25_isa.specs.declared.trap.TrapKind.TheVariants.{Divide, NoRam}
use Rattle.c25_isa.specs.State.{State, Memory}
use Rattle.c25_isa.specs.Table.{second_word, length_of}
use Rattle.c25_isa.specs.Step.{Ran, address, can_repeat, wrap16, effect, step, trap_of, trap_where, unless_trapped, repeated, ran_once}
use Rattle.c25_isa.specs.CodeAt.{StandsAt}
use Rattle.c25_isa.proofs.CodeAt.{step_at}
use Rattle.c25_isa.proofs.Leads.{onward_pc}
use Rattle.c25_code.specs.Work.{Work, calm}
use Rattle.c25_code.specs.Straight.{InRam, behind_instr, operand_word, InstrReady}
use Rattle.c25_code.proofs.Rows.{both_below}

-- the word at PC still runs so often
abbrev pub pending : ℕ → Memory → ℕ → Work → State
pending times program pc w = record (calm program pc w) { repeats = Some times }

-- a word that may be repeated
pub record MayRepeat (i : Instr) : Type 0 where
  pub one : second_word i ≡ None
  pub no_trap : (times : ℕ) (program : Memory) (pc : ℕ) (w : Work) → InstrReady i w → trap_of (pending times program pc w) i ≡ None
  pub row : (times : ℕ) (program : Memory) (pc : ℕ) (w : Work) → InstrReady i w → effect (pending times program pc w) 1 i ≡ Ran (pending times program (wrap16 (pc + 1)) (behind_instr i w))

-- a word through an operand
ram_repeats : (o : Operand) (times : ℕ) (program : Memory) (pc : ℕ) (w : Work) → InRam o w → trap_where (nat_lt (address (pending times program pc w) o) 0x300) NoRam None ≡ None
ram_repeats (Direct offset) times program pc w ram = ap (λ b. trap_where b NoRam None) (le-ltb (w.dp * 128 + offset) 0x300 ram)
ram_repeats (Through i) times program pc w ram = ap (λ b. trap_where b NoRam None) (le-ltb (w.ar w.arp) 0x300 ram)

pub may_repeat : (i : Instr) → can_repeat i ≡ true → MayRepeat i
may_repeat (Add shift (Direct offset)) e = record { one = refl; no_trap = ram_repeats (Direct offset); row = λ times program pc w ready. refl }
may_repeat (Add shift (Through i)) e = record { one = refl; no_trap = ram_repeats (Through i); row = λ times program pc w ready. refl }
may_repeat (Sub shift (Direct offset)) e = record { one = refl; no_trap = ram_repeats (Direct offset); row = λ times program pc w ready. refl }
may_repeat (Sub shift (Through i)) e = record { one = refl; no_trap = ram_repeats (Through i); row = λ times program pc w ready. refl }
may_repeat (Lac shift o) e = absurd cc
may_repeat (Lar register o) e = absurd cc
may_repeat (Mpy o) e = absurd cc
may_repeat (Lt o) e = absurd cc
may_repeat (Zals o) e = absurd cc
may_repeat (Lact o) e = absurd cc
may_repeat (Subs (Direct offset)) e = record { one = refl; no_trap = ram_repeats (Direct offset); row = λ times program pc w ready. refl }
may_repeat (Subs (Through i)) e = record { one = refl; no_trap = ram_repeats (Through i); row = λ times program pc w ready. refl }
may_repeat (Subc (Direct offset)) e = record {
  one = refl;
  no_trap = λ times program pc w ready. ap (λ b. trap_where b Divide (trap_where (nat_lt (w.dp * 128 + offset) 0x300) NoRam None)) (both_below (operand_word w (Direct offset)) w.acc ready.1 ready.2) ∙ ap (λ b. trap_where b NoRam None) (le-ltb (w.dp * 128 + offset) 0x300 ready.0);
  row = λ times program pc w ready. refl;
}
may_repeat (Subc (Through i)) e = record {
  one = refl;
  no_trap = λ times program pc w ready. ap (λ b. trap_where b Divide (trap_where (nat_lt (w.ar w.arp) 0x300) NoRam None)) (both_below (operand_word w (Through i)) w.acc ready.1 ready.2) ∙ ap (λ b. trap_where b NoRam None) (le-ltb (w.ar w.arp) 0x300 ready.0);
  row = λ times program pc w ready. refl;
}
may_repeat (Adds (Direct offset)) e = record { one = refl; no_trap = ram_repeats (Direct offset); row = λ times program pc w ready. refl }
may_repeat (Adds (Through i)) e = record { one = refl; no_trap = ram_repeats (Through i); row = λ times program pc w ready. refl }
may_repeat (Rpt o) e = absurd cc
may_repeat (Xor o) e = absurd cc
may_repeat (Or o) e = absurd cc
may_repeat (And o) e = absurd cc
may_repeat (Pshd o) e = absurd cc
may_repeat (Mar i) e = absurd cc
may_repeat (Sacl shift (Direct offset)) e = record { one = refl; no_trap = ram_repeats (Direct offset); row = λ times program pc w ready. refl }
may_repeat (Sacl shift (Through i)) e = record { one = refl; no_trap = ram_repeats (Through i); row = λ times program pc w ready. refl }
may_repeat (Sach shift (Direct offset)) e = record { one = refl; no_trap = ram_repeats (Direct offset); row = λ times program pc w ready. refl }
may_repeat (Sach shift (Through i)) e = record { one = refl; no_trap = ram_repeats (Through i); row = λ times program pc w ready. refl }
may_repeat (Sar register o) e = absurd cc
may_repeat (Popd o) e = absurd cc
may_repeat (Adrk c) e = absurd cc
may_repeat (Sbrk c) e = absurd cc
may_repeat (In port o) e = absurd cc
may_repeat (Mpyk c) e = absurd cc
may_repeat (Lark register c) e = absurd cc
may_repeat (Ldpk c) e = absurd cc
may_repeat (Lack c) e = absurd cc
may_repeat (Rptk c) e = absurd cc
may_repeat (Addk c) e = absurd cc
may_repeat (Subk c) e = absurd cc
may_repeat Dint e = absurd cc
may_repeat Rovm e = absurd cc
may_repeat Rsxm e = absurd cc
may_repeat Ssxm e = absurd cc
may_repeat Spm e = absurd cc
may_repeat Pac e = absurd cc
may_repeat Apac e = record { one = refl; no_trap = λ times program pc w ready. refl; row = λ times program pc w ready. refl }
may_repeat Spac e = record { one = refl; no_trap = λ times program pc w ready. refl; row = λ times program pc w ready. refl }
may_repeat Sfl e = record { one = refl; no_trap = λ times program pc w ready. refl; row = λ times program pc w ready. refl }
may_repeat Sfr e = record { one = refl; no_trap = λ times program pc w ready. refl; row = λ times program pc w ready. refl }
may_repeat Idle e = absurd cc
may_repeat Neg e = absurd cc
may_repeat Ret e = absurd cc
may_repeat Cmpl e = absurd cc
may_repeat (Lrlk register c) e = absurd cc
may_repeat (Lalk shift c) e = absurd cc
may_repeat (Adlk shift c) e = absurd cc
may_repeat (Sblk shift c) e = absurd cc
may_repeat (Andk c) e = absurd cc
may_repeat (Ork c) e = absurd cc
may_repeat (Xork c) e = absurd cc
may_repeat (Out port o) e = absurd cc
may_repeat (Branch op to i) e = absurd cc
may_repeat (Call to i) e = absurd cc

-- whether it was the last time
pub ran_again : (m pc n : ℕ) (program : Memory) (w : Work) → ran_once (suc (suc m)) pc (pending (suc (suc m)) program n w) ≡ pending (suc m) program pc w
ran_again m pc n program w =
    let more : 1 < suc (suc m) = omega arith in
    let fewer : suc (suc m) - 1 ≡ suc m = omega arith in
    ap (λ b. cond b (pending (suc (suc m) - 1) program pc w) (calm program n w)) (lt-ltb 1 (suc (suc m)) more) ∙ ap (λ k. pending k program pc w) fewer

module _ (program : Memory) (pc : ℕ) (i : Instr) (at : StandsAt program pc i) (may : MayRepeat i) (behind : pc + 1 < 65536) where
  pub once : (times : ℕ) (w : Work) → InstrReady i w → step (pending times program pc w) ≡ Ran (ran_once times pc (pending times program (pc + 1) (behind_instr i w)))
  once times w ready =
      step_at (pending times program pc w) i at
      ∙ ap (λ t. unless_trapped t (pending times program pc w) (repeated (Some times) pc (effect (pending times program pc w) (length_of (second_word i)) i))) (may.no_trap times program pc w ready)
      ∙ ap (λ o. repeated (Some times) pc (effect (pending times program pc w) (length_of o) i)) may.one
      ∙ ap (repeated (Some times) pc) (may.row times program pc w ready)
      ∙ ap (λ n. Ran (ran_once times pc (pending times program n (behind_instr i w)))) (onward_pc pc 1 behind)
