-- A step neither reads nor writes a word of data memory other than that of its access.
use Rattle.std.proofs.Common.{◌≡◌, ℕ, ◌+◌, ◌-◌, ◌*◌, ◌%◌, Bool, true, false, ◌&&◌, ◌||◌, not, length, List, [], ◌∷◌, Option, Some, None, refl, sym, ap, ◌∙◌, eqb-true}
use Rattle.std.specs.Prelude.{◌==◌, nat_lt, nat_le, if◌then◌else◌, bit_and, bit_or, bit_xor, option_and_then}
use Rattle.word_base.specs.Words.{signed_of}
use Rattle.c25_isa.specs.declared.operand.Operand.{Operand}
use Rattle.c25_isa.specs.declared.operand.Operand.TheVariants as operand
use Rattle.c25_isa.specs.declared.instruction.JumpOp.{JumpOp}
use Rattle.c25_isa.specs.declared.instruction.JumpOp.TheVariants as jump
use Rattle.c25_isa.specs.declared.instruction.Instr.{Instr}
use Rattle.c25_isa.specs.declared.instruction.Instr.TheVariants.{Add, Sub, Lac, Lar, Mpy, Lt, Zals, Lact, Subs, Subc, Adds, Rpt, Xor, Or, And, Pshd, Mar, Sacl, Sach, Sar, Popd, Adrk, Sbrk, In, Mpyk, Lark, Ldpk, Lack, Rptk, Addk, Subk, Dint, Rovm, Rsxm, Ssxm, Spm, Pac, Apac, Spac, Sfl, Sfr, Idle, Neg, Ret, Cmpl, Lrlk, Lalk, Adlk, Sblk, Andk, Ork, Xork, Out, Branch, Call}
use Rattle.c25_isa.specs.declared.trap.TrapKind.{TrapKind}
use Rattle.c25_isa.specs.declared.trap.TrapKind.TheVariants.{StackFull, StackEmpty, Mode, Divide, Repeat, SameRegister, NoRam}
use Rattle.c25_isa.specs.State.{State, Memory, write}
use Rattle.c25_isa.specs.Decode.{Decoded, decode}
use Rattle.c25_isa.specs.Step.{Event, Ran, Put, Over, Trapped, wrap16, address, read, after_operand, with_register, shifted, plus, minus, product, divided, data_operand, can_repeat, sums, takes_product, pushes, pops, changes_its_own, divides_badly, lacks_ram, repeats_badly, trap_where, trap_of, onward, goes, stores, takes, pops_to, returns, jumps, holds, effect, unless_trapped, repeated, perform, step}
use Rattle.c25_isa.specs.StretchRuns.{accessed_by, accessed, with_word, event_with, IsElsewhere}
use Rattle.c25_isa.proofs.Memory.{same_memory}

-- two writes at two addresses
other_first : (m : Memory) (a b x y : ℕ) → (b ≡ a → ⊥) → write (write m a x) b y ≡ write (write m b y) a x
other_first m a b x y differ = same_memory _ _ (λ n. by n (n == b) (n == a) refl refl)
  where
    by : (n : ℕ) (at_b at_a : Bool) → (n == b) ≡ at_b → (n == a) ≡ at_a → (if at_b then y else if at_a then x else m n) ≡ (if at_a then x else if at_b then y else m n)
    by n true true is_b is_a = absurd (differ (sym (eqb-true n b is_b) ∙ eqb-true n a is_a))
    by n true false is_b is_a = refl
    by n false true is_b is_a = refl
    by n false false is_b is_a = refl

other_word : (m : Memory) (a b x : ℕ) → (b ≡ a → ⊥) → write m a x b ≡ m b
other_word m a b x differ = by (b == a) refl
  where
    by : (same : Bool) → (b == a) ≡ same → (if same then x else m b) ≡ m b
    by true is = absurd (differ (eqb-true b a is))
    by false is = refl

module _ (s : State) (a x len : ℕ) where
  abbrev other : State
  other = with_word a x s

  abbrev Differs : Operand → Type 0
  Differs o = address s o ≡ a → ⊥

  same_address : (o : Operand) → address other o ≡ address s o
  same_address (operand.Direct offset) = refl
  same_address (operand.Indirect i) = refl

  same_read : (o : Operand) → Differs o → read other o ≡ read s o
  same_read o differ = ap (λ b. other.ram b) (same_address o) ∙ other_word s.ram a (address s o) x differ

  goes_with : (u : State) (o : Operand) → goes len (after_operand (with_word a x u) o) ≡ event_with a x (goes len (after_operand u o))
  goes_with u (operand.Direct offset) = refl
  goes_with u (operand.Indirect i) = refl

  -- a row that reads its word
  reads : (u : ℕ → State) (o : Operand) → Differs o → goes len (after_operand (with_word a x (u (read other o))) o) ≡ event_with a x (goes len (after_operand (u (read s o)) o))
  reads u o differ = ap (λ m. goes len (after_operand (with_word a x (u m)) o)) (same_read o differ) ∙ goes_with (u (read s o)) o

  -- a row that writes it
  writes_word : (u : State) (o : Operand) (word : ℕ) → (address u o ≡ a → ⊥) → stores len (with_word a x u) o word ≡ event_with a x (stores len u o word)
  writes_word u (operand.Direct offset) word differ =
      ap (λ m. goes len (record u { ram = m })) (other_first u.ram a (u.dp * 128 + offset) x word differ)
  writes_word u (operand.Indirect i) word differ =
      ap (λ m. goes len (after_operand (record u { ram = m }) (operand.Indirect i))) (other_first u.ram a (u.ar u.arp) x word differ)

  loads_register : (register : ℕ) (o : Operand) → Differs o → goes len (with_register (after_operand other o) register (read other o)) ≡ event_with a x (goes len (with_register (after_operand s o) register (read s o)))
  loads_register register (operand.Direct offset) differ = ap (λ m. goes len (with_register (after_operand other (operand.Direct offset)) register m)) (same_read (operand.Direct offset) differ)
  loads_register register (operand.Indirect i) differ = ap (λ m. goes len (with_register (after_operand other (operand.Indirect i)) register m)) (same_read (operand.Indirect i) differ)

  puts_word : (port : ℕ) (o : Operand) → Differs o → Put (port, read other o) (onward len (after_operand other o)) ≡ event_with a x (Put (port, read s o) (onward len (after_operand s o)))
  puts_word port (operand.Direct offset) differ = ap (λ m. Put (port, m) (onward len other)) (same_read (operand.Direct offset) differ)
  puts_word port (operand.Indirect i) differ = ap (λ m. Put (port, m) (onward len (after_operand other (operand.Indirect i)))) (same_read (operand.Indirect i) differ)

  pops_word : (o : Operand) (stack : List ℕ) → Differs o → pops_to len other o stack ≡ event_with a x (pops_to len s o stack)
  pops_word o [] differ = refl
  pops_word o (word ∷ rest) differ = writes_word (record s { stack = rest }) o word (by o differ)
    where
      by : (o : Operand) → Differs o → address (record s { stack = rest }) o ≡ a → ⊥
      by (operand.Direct offset) differ = differ
      by (operand.Indirect i) differ = differ

  takes_word : (port : ℕ) (o : Operand) (left : List ℕ) → Differs o → takes len other port o left ≡ event_with a x (takes len s port o left)
  takes_word port o [] differ = refl
  takes_word port o (word ∷ rest) differ = writes_word (record s { input = λ p. if p == port then rest else s.input p }) o word (by o differ)
    where
      by : (o : Operand) → Differs o → address (record s { input = λ p. if p == port then rest else s.input p }) o ≡ a → ⊥
      by (operand.Direct offset) differ = differ
      by (operand.Indirect i) differ = differ

  row : (i : Instr) → IsElsewhere (accessed_by s i) a → effect other len i ≡ event_with a x (effect s len i)
  row (Add shift o) elsewhere = reads (λ m. record s { acc = plus s.acc (shifted s m shift) }) o elsewhere
  row (Sub shift o) elsewhere = reads (λ m. record s { acc = minus s.acc (shifted s m shift) }) o elsewhere
  row (Lac shift o) elsewhere = reads (λ m. record s { acc = shifted s m shift }) o elsewhere
  row (Lar register o) elsewhere = loads_register register o elsewhere
  row (Mpy o) elsewhere = reads (λ m. record s { p = product s.t (signed_of m) }) o elsewhere
  row (Lt o) elsewhere = reads (λ m. record s { t = m }) o elsewhere
  row (Zals o) elsewhere = reads (λ m. record s { acc = m }) o elsewhere
  row (Lact o) elsewhere = reads (λ m. record s { acc = shifted s m (s.t % 16) }) o elsewhere
  row (Subs o) elsewhere = reads (λ m. record s { acc = minus s.acc m }) o elsewhere
  row (Subc o) elsewhere = reads (λ m. record s { acc = divided s.acc m }) o elsewhere
  row (Adds o) elsewhere = reads (λ m. record s { acc = plus s.acc m }) o elsewhere
  row (Rpt o) elsewhere = reads (λ m. record s { repeats = Some (m % 256 + 1) }) o elsewhere
  row (Xor o) elsewhere = reads (λ m. record s { acc = bit_xor s.acc m }) o elsewhere
  row (Or o) elsewhere = reads (λ m. record s { acc = bit_or s.acc m }) o elsewhere
  row (And o) elsewhere = reads (λ m. record s { acc = bit_and s.acc m }) o elsewhere
  row (Pshd o) elsewhere = reads (λ m. record s { stack = m ∷ s.stack }) o elsewhere
  row (Mar i) elsewhere = refl
  row (Sacl shift o) elsewhere = writes_word s o _ elsewhere
  row (Sach shift o) elsewhere = writes_word s o _ elsewhere
  row (Sar register o) elsewhere = writes_word s o _ elsewhere
  row (Popd o) elsewhere = pops_word o s.stack elsewhere
  row (Adrk constant) elsewhere = refl
  row (Sbrk constant) elsewhere = refl
  row (In port o) elsewhere = takes_word port o (s.input port) elsewhere
  row (Mpyk constant) elsewhere = refl
  row (Lark register constant) elsewhere = refl
  row (Ldpk constant) elsewhere = refl
  row (Lack constant) elsewhere = refl
  row (Rptk constant) elsewhere = refl
  row (Addk constant) elsewhere = refl
  row (Subk constant) elsewhere = refl
  row Dint elsewhere = refl
  row Rovm elsewhere = refl
  row Rsxm elsewhere = refl
  row Ssxm elsewhere = refl
  row Spm elsewhere = refl
  row Pac elsewhere = refl
  row Apac elsewhere = refl
  row Spac elsewhere = refl
  row Sfl elsewhere = refl
  row Sfr elsewhere = refl
  row Idle elsewhere = refl
  row Neg elsewhere = refl
  row Ret elsewhere = by s.stack
    where
      by : (stack : List ℕ) → returns other stack ≡ event_with a x (returns s stack)
      by [] = refl
      by (word ∷ rest) = refl
  row Cmpl elsewhere = refl
  row (Lrlk register word) elsewhere = refl
  row (Lalk shift word) elsewhere = refl
  row (Adlk shift word) elsewhere = refl
  row (Sblk shift word) elsewhere = refl
  row (Andk word) elsewhere = refl
  row (Ork word) elsewhere = refl
  row (Xork word) elsewhere = refl
  row (Out port o) elsewhere = puts_word port o elsewhere
  row (Branch op to i) elsewhere = by (jump_same op)
    where
      jump_same : (op : JumpOp) → holds op other ≡ holds op s
      jump_same jump.B = refl
      jump_same jump.Bgz = refl
      jump_same jump.Blez = refl
      jump_same jump.Blz = refl
      jump_same jump.Bgez = refl
      jump_same jump.Bnz = refl
      jump_same jump.Bz = refl

      jumped : (taken : Bool) → jumps len other i to taken ≡ event_with a x (jumps len s i to taken)
      jumped true = refl
      jumped false = refl

      by : holds op other ≡ holds op s → jumps len other i to (holds op other) ≡ event_with a x (jumps len s i to (holds op s))
      by same = ap (jumps len other i to) same ∙ jumped (holds op s)
  row (Call to i) elsewhere = refl

  divides_same : (i : Instr) → IsElsewhere (accessed_by s i) a → divides_badly other i ≡ divides_badly s i
  divides_same (Subc o) elsewhere = ap (λ m. nat_le 32768 m || nat_le 2147483648 s.acc) (same_read o elsewhere)
  divides_same i elsewhere = refl

  lacks_same : (o : Option Operand) → lacks_ram other o ≡ lacks_ram s o
  lacks_same None = refl
  lacks_same (Some o) = ap (λ b. nat_lt b 0x300) (same_address o)

  trap_same : (i : Instr) → IsElsewhere (accessed_by s i) a → trap_of other i ≡ trap_of s i
  trap_same i elsewhere =
      ap (λ d. traps d (lacks_ram other (data_operand i))) (divides_same i elsewhere)
      ∙ ap (λ l. traps (divides_badly s i) l) (lacks_same (data_operand i))
    where
      traps : Bool → Bool → Option TrapKind
      traps d l =
          trap_where (pushes i && (length s.stack == 8)) StackFull
          (trap_where (pops i && (length s.stack == 0)) StackEmpty
          (trap_where ((sums i && s.ovm) || (takes_product i && not (s.pm == 0))) Mode
          (trap_where d Divide
          (trap_where (repeats_badly s.repeats (can_repeat i)) Repeat
          (trap_where (changes_its_own s.arp i) SameRegister
          (trap_where l NoRam
          None))))))

  repeated_with : (r : Option ℕ) (e : Event) → repeated r s.pc (event_with a x e) ≡ event_with a x (repeated r s.pc e)
  repeated_with None e = refl
  repeated_with (Some times) (Ran t) = by (nat_lt 1 times)
    where
      by : (b : Bool) → Ran (if b then record t { ram = write t.ram a x; pc = s.pc; repeats = Some (times - 1) } else record t { ram = write t.ram a x; repeats = None }) ≡ Ran (with_word a x (if b then record t { pc = s.pc; repeats = Some (times - 1) } else record t { repeats = None }))
      by true = refl
      by false = refl
  repeated_with (Some times) (Put word t) = by (nat_lt 1 times)
    where
      by : (b : Bool) → Put word (if b then record t { ram = write t.ram a x; pc = s.pc; repeats = Some (times - 1) } else record t { ram = write t.ram a x; repeats = None }) ≡ Put word (with_word a x (if b then record t { pc = s.pc; repeats = Some (times - 1) } else record t { repeats = None }))
      by true = refl
      by false = refl
  repeated_with (Some times) (Over ending) = refl
  repeated_with (Some times) (Trapped kind at) = refl

  trapped_with : (trap : Option TrapKind) (e : Event) → unless_trapped trap other (event_with a x e) ≡ event_with a x (unless_trapped trap s e)
  trapped_with None e = refl
  trapped_with (Some kind) e = refl

-- a step of any decoded word
performs : (s : State) (a x : ℕ) (d : Decoded) → IsElsewhere (option_and_then (λ (found : Instr × ℕ). accessed_by s found.0) d) a → perform (with_word a x s) d ≡ event_with a x (perform s d)
performs s a x None elsewhere = refl
performs s a x (Some found) elsewhere =
    ap (λ trap. unless_trapped trap (with_word a x s) (repeated s.repeats s.pc (effect (with_word a x s) found.1 found.0))) (trap_same s a x found.1 found.0 elsewhere)
    ∙ ap (λ e. unless_trapped (trap_of s found.0) (with_word a x s) (repeated s.repeats s.pc e)) (row s a x found.1 found.0 elsewhere)
    ∙ ap (unless_trapped (trap_of s found.0) (with_word a x s)) (repeated_with s a x found.1 s.repeats (effect s found.1 found.0))
    ∙ trapped_with s a x found.1 (trap_of s found.0) (repeated s.repeats s.pc (effect s found.1 found.0))

pub touches_one : (s : State) (a word : ℕ) → IsElsewhere (accessed s) a → step (with_word a word s) ≡ event_with a word (step s)
touches_one s a word elsewhere = performs s a word (decode (s.program s.pc) (s.program (wrap16 (s.pc + 1)))) elsewhere
