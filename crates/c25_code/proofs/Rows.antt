-- What a row of the table does at modes that fit it: no trap comes, and the modes stay.
use Rattle.std.proofs.Common.{◌≡◌, ◌≢◌, ℕ, suc, ◌+◌, ◌*◌, ◌<◌, Bool, true, false, not, List, [], ◌∷◌, length, Option, Some, None, refl, sym, ap, ◌∙◌, subst, inl, inr, arith}
use Rattle.std.specs.Prelude.{nat_lt, nat_le, ◌==◌, ◌&&◌, ◌||◌}
use Rattle.std.proofs.lemmas.Bool.{le-ltb, lt-leb, ne_eqb, or_parts, or_from}
use Rattle.c25_isa.specs.declared.operand.Operand.{Operand}
use Rattle.c25_isa.specs.declared.operand.Operand.TheVariants.{Direct, Indirect as Through}
use Rattle.c25_isa.specs.declared.instruction.Instr.{Instr}
use Rattle.c25_isa.specs.declared.instruction.Instr.TheVariants.{Add, Sub, Lac, Lar, Mpy, Lt, Zals, Lact, Subs, Subc, Adds, Rpt, Xor, Or, And, Pshd, Mar, Sacl, Sach, Sar, Popd, Adrk, Sbrk, In, Mpyk, Lark, Ldpk, Lack, Rptk, Addk, Subk, Dint, Rovm, Rsxm, Ssxm, Spm, Pac, Apac, Spac, Sfl, Sfr, Idle, Neg, Ret, Cmpl, Lrlk, Lalk, Adlk, Sblk, Andk, Ork, Xork, Out, Branch, Call}
use Rattle.c25_isa.specs.declared.trap.TrapKind.{TrapKind}
use Rattle.c25_isa.specs.declared.trap.TrapKind.TheVariants.{StackFull, StackEmpty, Mode, Divide, SameRegister, NoRam}
use Rattle.c25_isa.specs.State.{Memory}
use Rattle.c25_isa.specs.Step.{Event, Ran, Put, address, sums, takes_product, effect, takes, pops_to, trap_of, trap_where, wrap16}
use Rattle.c25_code.specs.Work.{Work, Modes, at_modes}
use Rattle.c25_code.specs.Straight.{operand_word, NonEmpty, first_of, rest_of, behind_instr, output_of, InRam, InstrReady, sets_mode, minds_modes, FitModes}

-- what a step comes to, by the words that it puts
abbrev pub event_of : Option (ℕ × ℕ) → Modes → Memory → ℕ → Work → Event
event_of None modes program pc w = Ran (at_modes modes program pc w)
event_of (Some word) modes program pc w = Put word (at_modes modes program pc w)

pub non_empty_is : (l : List ℕ) → NonEmpty l → l ≡ first_of l ∷ rest_of l
non_empty_is [] none = absurd none
non_empty_is (x ∷ xs) has = refl

pub not_empty : (l : List ℕ) → NonEmpty l → (length l == 0) ≡ false
not_empty [] none = absurd none
not_empty (x ∷ xs) has = let n : suc (length xs) ≢ 0 = omega arith in ne_eqb (suc (length xs)) 0 n

pub both_below : (b c : ℕ) → b < 32768 → c < 2147483648 → (nat_le 32768 b || nat_le 2147483648 c) ≡ false
both_below b c low small =
    ap (λ x. x || nat_le 2147483648 c) (lt-leb 32768 b low) ∙ lt-leb 2147483648 c small

and_false : (x : Bool) → (x && false) ≡ false
and_false true = refl
and_false false = refl

-- no mode traps it
mode_passes : (modes : Modes) (i : Instr) (rest : Option TrapKind) → FitModes modes (minds_modes i) → trap_where ((sums i && modes.ovm) || (takes_product i && not (modes.pm == 0))) Mode rest ≡ rest
mode_passes modes i rest (inl e) =
    let parts = or_parts (sums i) (takes_product i || sets_mode i) e in
    ap (λ b. trap_where ((b && modes.ovm) || (takes_product i && not (modes.pm == 0))) Mode rest) parts.0
    ∙ ap (λ b. trap_where (b && not (modes.pm == 0)) Mode rest) (or_parts (takes_product i) (sets_mode i) parts.1).0
mode_passes modes i rest (inr e) =
    ap (λ (m : Modes). trap_where ((sums i && m.ovm) || (takes_product i && not (m.pm == 0))) Mode rest) e
    ∙ ap (λ b. trap_where b Mode rest) (or_from (sums i && false) (takes_product i && false) (and_false (sums i)) (and_false (takes_product i)))

module _ (modes : Modes) (program : Memory) (pc len : ℕ) (w : Work) where
  -- the address is in RAM
  pub has_ram : (o : Operand) → InRam o w → trap_where (nat_lt (address (at_modes modes program pc w) o) 0x300) NoRam None ≡ None
  has_ram (Direct offset) ram = ap (λ b. trap_where b NoRam None) (le-ltb (w.dp * 128 + offset) 0x300 ram)
  has_ram (Through i) ram = ap (λ b. trap_where b NoRam None) (le-ltb (w.ar w.arp) 0x300 ram)

  pub no_trap : (i : Instr) → FitModes modes (minds_modes i) → InstrReady i w → trap_of (at_modes modes program pc w) i ≡ None
  no_trap (Add shift o) fits ready = mode_passes modes (Add shift o) _ fits ∙ has_ram o ready
  no_trap (Sub shift o) fits ready = mode_passes modes (Sub shift o) _ fits ∙ has_ram o ready
  no_trap (Lac shift o) fits ready = has_ram o ready
  no_trap (Lar register o) fits ready = ap (λ b. trap_where b SameRegister (trap_where (nat_lt (address (at_modes modes program pc w) o) 0x300) NoRam None)) ready.1 ∙ has_ram o ready.0
  no_trap (Mpy o) fits ready = has_ram o ready
  no_trap (Lt o) fits ready = has_ram o ready
  no_trap (Zals o) fits ready = has_ram o ready
  no_trap (Lact o) fits ready = has_ram o ready
  no_trap (Subs o) fits ready = mode_passes modes (Subs o) _ fits ∙ has_ram o ready
  no_trap (Subc (Direct offset)) fits ready = mode_passes modes (Subc (Direct offset)) _ fits ∙ ap (λ b. trap_where b Divide (trap_where (nat_lt (w.dp * 128 + offset) 0x300) NoRam None)) (both_below (operand_word w (Direct offset)) w.acc ready.1 ready.2) ∙ has_ram (Direct offset) ready.0
  no_trap (Subc (Through i)) fits ready = mode_passes modes (Subc (Through i)) _ fits ∙ ap (λ b. trap_where b Divide (trap_where (nat_lt (w.ar w.arp) 0x300) NoRam None)) (both_below (operand_word w (Through i)) w.acc ready.1 ready.2) ∙ has_ram (Through i) ready.0
  no_trap (Adds o) fits ready = mode_passes modes (Adds o) _ fits ∙ has_ram o ready
  no_trap (Rpt o) fits ready = absurd ready
  no_trap (Xor o) fits ready = has_ram o ready
  no_trap (Or o) fits ready = has_ram o ready
  no_trap (And o) fits ready = has_ram o ready
  no_trap (Pshd o) fits ready = ap (λ b. trap_where b StackFull (trap_where (nat_lt (address (at_modes modes program pc w) o) 0x300) NoRam None)) (let n : length w.stack ≢ 8 = omega (arith, ready.1) in ne_eqb (length w.stack) 8 n) ∙ has_ram o ready.0
  no_trap (Mar i) fits ready = refl
  no_trap (Sacl shift o) fits ready = has_ram o ready
  no_trap (Sach shift o) fits ready = has_ram o ready
  no_trap (Sar register o) fits ready = ap (λ b. trap_where b SameRegister (trap_where (nat_lt (address (at_modes modes program pc w) o) 0x300) NoRam None)) ready.1 ∙ has_ram o ready.0
  no_trap (Popd o) fits ready = ap (λ b. trap_where b StackEmpty (trap_where (nat_lt (address (at_modes modes program pc w) o) 0x300) NoRam None)) (not_empty w.stack ready.1) ∙ has_ram o ready.0
  no_trap (Adrk c) fits ready = refl
  no_trap (Sbrk c) fits ready = refl
  no_trap (In port o) fits ready = has_ram o ready.0
  no_trap (Mpyk c) fits ready = refl
  no_trap (Lark r c) fits ready = refl
  no_trap (Ldpk c) fits ready = refl
  no_trap (Lack c) fits ready = refl
  no_trap (Rptk constant) fits ready = absurd ready
  no_trap (Addk c) fits ready = mode_passes modes (Addk c) None fits
  no_trap (Subk c) fits ready = mode_passes modes (Subk c) None fits
  no_trap Dint fits ready = refl
  no_trap Rovm fits ready = refl
  no_trap Rsxm fits ready = refl
  no_trap Ssxm fits ready = refl
  no_trap Spm fits ready = refl
  no_trap Pac fits ready = mode_passes modes Pac None fits
  no_trap Apac fits ready = mode_passes modes Apac None fits
  no_trap Spac fits ready = mode_passes modes Spac None fits
  no_trap Sfl fits ready = refl
  no_trap Sfr fits ready = refl
  no_trap Idle fits ready = absurd ready
  no_trap Neg fits ready = mode_passes modes Neg None fits
  no_trap Ret fits ready = absurd ready
  no_trap Cmpl fits ready = refl
  no_trap (Lrlk r c) fits ready = refl
  no_trap (Lalk n c) fits ready = refl
  no_trap (Adlk n c) fits ready = mode_passes modes (Adlk n c) None fits
  no_trap (Sblk n c) fits ready = mode_passes modes (Sblk n c) None fits
  no_trap (Andk c) fits ready = refl
  no_trap (Ork c) fits ready = refl
  no_trap (Xork c) fits ready = refl
  no_trap (Out port o) fits ready = has_ram o ready
  no_trap (Branch op to i) fits ready = absurd ready
  no_trap (Call to i) fits ready = absurd ready

  pub row : (i : Instr) → FitModes modes (minds_modes i) → InstrReady i w → effect (at_modes modes program pc w) len i ≡ event_of (output_of i w) modes program (wrap16 (pc + len)) (behind_instr i w)
  row (Add shift (Direct offset)) fits ready = refl
  row (Add shift (Through i)) fits ready = refl
  row (Sub shift (Direct offset)) fits ready = refl
  row (Sub shift (Through i)) fits ready = refl
  row (Lac shift (Direct offset)) fits ready = refl
  row (Lac shift (Through i)) fits ready = refl
  row (Lar register (Direct offset)) fits ready = refl
  row (Lar register (Through i)) fits ready = refl
  row (Mpy (Direct offset)) fits ready = refl
  row (Mpy (Through i)) fits ready = refl
  row (Lt (Direct offset)) fits ready = refl
  row (Lt (Through i)) fits ready = refl
  row (Zals (Direct offset)) fits ready = refl
  row (Zals (Through i)) fits ready = refl
  row (Lact (Direct offset)) fits ready = refl
  row (Lact (Through i)) fits ready = refl
  row (Subs (Direct offset)) fits ready = refl
  row (Subs (Through i)) fits ready = refl
  row (Subc (Direct offset)) fits ready = refl
  row (Subc (Through i)) fits ready = refl
  row (Adds (Direct offset)) fits ready = refl
  row (Adds (Through i)) fits ready = refl
  row (Rpt o) fits ready = absurd ready
  row (Xor (Direct offset)) fits ready = refl
  row (Xor (Through i)) fits ready = refl
  row (Or (Direct offset)) fits ready = refl
  row (Or (Through i)) fits ready = refl
  row (And (Direct offset)) fits ready = refl
  row (And (Through i)) fits ready = refl
  row (Pshd (Direct offset)) fits ready = refl
  row (Pshd (Through i)) fits ready = refl
  row (Mar i) fits ready = refl
  row (Sacl shift (Direct offset)) fits ready = refl
  row (Sacl shift (Through i)) fits ready = refl
  row (Sach shift (Direct offset)) fits ready = refl
  row (Sach shift (Through i)) fits ready = refl
  row (Sar register (Direct offset)) fits ready = refl
  row (Sar register (Through i)) fits ready = refl
  row (Popd (Direct offset)) fits ready = ap (pops_to len (at_modes modes program pc w) (Direct offset)) (non_empty_is w.stack ready.1)
  row (Popd (Through i)) fits ready = ap (pops_to len (at_modes modes program pc w) (Through i)) (non_empty_is w.stack ready.1)
  row (Adrk c) fits ready = refl
  row (Sbrk c) fits ready = refl
  row (In port (Direct offset)) fits ready = ap (takes len (at_modes modes program pc w) port (Direct offset)) (non_empty_is (w.input port) ready.1)
  row (In port (Through i)) fits ready = ap (takes len (at_modes modes program pc w) port (Through i)) (non_empty_is (w.input port) ready.1)
  row (Mpyk c) fits ready = refl
  row (Lark r c) fits ready = refl
  row (Ldpk c) fits ready = refl
  row (Lack c) fits ready = refl
  row (Rptk constant) fits ready = absurd ready
  row (Addk c) fits ready = refl
  row (Subk c) fits ready = refl
  row Dint fits ready = refl
  row Rovm (inl e) ready = absurd cc
  row Rovm (inr e) ready = ap (λ (m : Modes). Ran (at_modes m program (wrap16 (pc + len)) w)) (subst (λ (m : Modes). record m { ovm = false } ≡ m) (sym e) refl)
  row Rsxm fits ready = refl
  row Ssxm fits ready = refl
  row Spm (inl e) ready = absurd cc
  row Spm (inr e) ready = ap (λ (m : Modes). Ran (at_modes m program (wrap16 (pc + len)) w)) (subst (λ (m : Modes). record m { pm = 0 } ≡ m) (sym e) refl)
  row Pac fits ready = refl
  row Apac fits ready = refl
  row Spac fits ready = refl
  row Sfl fits ready = refl
  row Sfr fits ready = refl
  row Idle fits ready = absurd ready
  row Neg fits ready = refl
  row Ret fits ready = absurd ready
  row Cmpl fits ready = refl
  row (Lrlk r c) fits ready = refl
  row (Lalk n c) fits ready = refl
  row (Adlk n c) fits ready = refl
  row (Sblk n c) fits ready = refl
  row (Andk c) fits ready = refl
  row (Ork c) fits ready = refl
  row (Xork c) fits ready = refl
  row (Out port (Direct offset)) fits ready = refl
  row (Out port (Through i)) fits ready = refl
  row (Branch op to i) fits ready = absurd ready
  row (Call to i) fits ready = absurd ready
