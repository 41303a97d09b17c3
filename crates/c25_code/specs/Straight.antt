-- Straight code (docs/MACHINE.md, "Instructions" and "Steps and traps"): what instructions do one behind another, as total functions of work,
-- and beside them what has to hold for no trap and no end to come, and whether the modes matter. Whether a jump is taken stands here too.
use Rattle.std.specs.Prelude.{◌≡◌, ◌⊎◌, ℕ, zero, suc, ◌+◌, ◌-◌, ◌*◌, ◌/◌, ◌%◌, ◌^◌, ◌<◌, ◌≤◌, Bool, true, false, not, nat_le, ◌==◌, ◌||◌, if◌then◌else◌, List, [], ◌∷◌, length, bit_and, bit_or, bit_xor, Option, Some, None}
use Rattle.word_base.specs.Words.{signed_of}
use Rattle.word_base.specs.Ports.{Outputs}
use Rattle.c25_isa.specs.declared.operand.Operand.{Operand}
use Rattle.c25_isa.specs.declared.operand.Operand.TheVariants as operand
use Rattle.c25_isa.specs.declared.instruction.JumpOp.{JumpOp}
use Rattle.c25_isa.specs.declared.instruction.JumpOp.TheVariants as jump
use Rattle.c25_isa.specs.declared.instruction.Instr.{Instr}
use Rattle.c25_isa.specs.declared.instruction.Instr.TheVariants.{Add, Sub, Lac, Lar, Mpy, Lt, Zals, Lact, Subs, Subc, Adds, Rpt, Xor, Or, And, Pshd, Mar, Sacl, Sach, Sar, Popd, Adrk, Sbrk, In, Mpyk, Lark, Ldpk, Lack, Rptk, Addk, Subk, Rovm, Rsxm, Ssxm, Spm, Pac, Apac, Spac, Sfl, Sfr, Idle, Neg, Ret, Cmpl, Lrlk, Lalk, Adlk, Sblk, Andk, Ork, Xork, Out, Branch, Call}
use Rattle.c25_isa.specs.State.{write}
use Rattle.c25_isa.specs.Table.{second_word, length_of}
use Rattle.c25_isa.specs.Step.{wrap16, wrap32, extended, plus, minus, product, divided, half, changed, next_arp, changes, sums, takes_product}
use Rattle.c25_code.specs.Work.{Work, Modes, calm_modes}

-- the address of an operand, and its word
abbrev pub operand_address : Work → Operand → ℕ
operand_address w (operand.Direct offset) = w.dp * 128 + offset
operand_address w (operand.Indirect i) = w.ar w.arp

abbrev pub operand_word : Work → Operand → ℕ
operand_word w o = w.ram (operand_address w o)

-- the address registers behind an operand, and the one that is current
abbrev pub registers_behind : Operand → Work → ℕ → ℕ
registers_behind (operand.Direct offset) w = w.ar
registers_behind (operand.Indirect i) w = write w.ar w.arp (changed i.change (w.ar 0) (w.ar w.arp))

abbrev pub arp_behind : Operand → Work → ℕ
arp_behind (operand.Direct offset) w = w.arp
arp_behind (operand.Indirect i) w = next_arp i.next w.arp

abbrev pub behind_operand : Operand → Work → Work
behind_operand o w = record w { ar = registers_behind o w; arp = arp_behind o w }

-- a word as SXM extends it, times a power of two
abbrev pub scaled : Work → ℕ → ℕ → ℕ
scaled w word shift = wrap32 (extended w.sxm word * 2 ^ shift)

abbrev pub first_of : List ℕ → ℕ
first_of [] = 0
first_of (x ∷ xs) = x

abbrev pub rest_of : List ℕ → List ℕ
rest_of [] = []
rest_of (x ∷ xs) = xs

abbrev pub NonEmpty : List ℕ → Type 0
NonEmpty [] = ⊥
NonEmpty (x ∷ xs) = Unit {0}

-- ACC becomes this, behind an operand
abbrev pub acc_becomes : Operand → ℕ → Work → Work
acc_becomes o acc w = behind_operand o (record w { acc = acc })

-- a word goes into memory
abbrev pub ram_becomes : Operand → ℕ → Work → Work
ram_becomes o word w = behind_operand o (record w { ram = write w.ram (operand_address w o) word })

abbrev pub register_becomes : ℕ → ℕ → Work → Work
register_becomes register word w = record w { ar = write w.ar register word }

-- what an instruction of straight code does. The last row takes DINT, ROVM and SPM, which change nothing of work, and also what InstrReady
-- excludes (repeats, IDLE, jumps, calls and returns): of these it says nothing
abbrev pub behind_instr : Instr → Work → Work
behind_instr (Add shift o) w = acc_becomes o (plus w.acc (scaled w (operand_word w o) shift)) w
behind_instr (Sub shift o) w = acc_becomes o (minus w.acc (scaled w (operand_word w o) shift)) w
behind_instr (Lac shift o) w = acc_becomes o (scaled w (operand_word w o) shift) w
behind_instr (Lar register o) w = register_becomes register (operand_word w o) (behind_operand o w)
behind_instr (Mpy o) w = behind_operand o (record w { p = product w.t (signed_of (operand_word w o)) })
behind_instr (Lt o) w = behind_operand o (record w { t = operand_word w o })
behind_instr (Zals o) w = acc_becomes o (operand_word w o) w
behind_instr (Lact o) w = acc_becomes o (scaled w (operand_word w o) (w.t % 16)) w
behind_instr (Subs o) w = acc_becomes o (minus w.acc (operand_word w o)) w
behind_instr (Subc o) w = acc_becomes o (divided w.acc (operand_word w o)) w
behind_instr (Adds o) w = acc_becomes o (plus w.acc (operand_word w o)) w
behind_instr (Xor o) w = acc_becomes o (bit_xor w.acc (operand_word w o)) w
behind_instr (Or o) w = acc_becomes o (bit_or w.acc (operand_word w o)) w
behind_instr (And o) w = acc_becomes o (bit_and w.acc (operand_word w o)) w
behind_instr (Pshd o) w = behind_operand o (record w { stack = operand_word w o ∷ w.stack })
behind_instr (Mar i) w = behind_operand (operand.Indirect i) w
behind_instr (Sacl shift o) w = ram_becomes o (wrap16 (w.acc * 2 ^ shift)) w
behind_instr (Sach shift o) w = ram_becomes o (wrap32 (w.acc * 2 ^ shift) / 65536) w
behind_instr (Sar register o) w = ram_becomes o (w.ar register) w
behind_instr (Popd o) w = ram_becomes o (first_of w.stack) (record w { stack = rest_of w.stack })
behind_instr (Adrk constant) w = register_becomes w.arp (wrap16 (w.ar w.arp + constant)) w
behind_instr (Sbrk constant) w = register_becomes w.arp (wrap16 (w.ar w.arp + (65536 - constant))) w
behind_instr (In port o) w = ram_becomes o (first_of (w.input port)) (record w { input = λ p. if p == port then rest_of (w.input port) else w.input p })
behind_instr (Mpyk constant) w = record w { p = product w.t constant }
behind_instr (Lark register constant) w = register_becomes register constant w
behind_instr (Ldpk constant) w = record w { dp = constant }
behind_instr (Lack constant) w = record w { acc = constant }
behind_instr (Addk constant) w = record w { acc = plus w.acc constant }
behind_instr (Subk constant) w = record w { acc = minus w.acc constant }
behind_instr Rsxm w = record w { sxm = false }
behind_instr Ssxm w = record w { sxm = true }
behind_instr Pac w = record w { acc = w.p }
behind_instr Apac w = record w { acc = plus w.acc w.p }
behind_instr Spac w = record w { acc = minus w.acc w.p }
behind_instr Sfl w = record w { acc = wrap32 (2 * w.acc) }
behind_instr Sfr w = record w { acc = half w.sxm w.acc }
behind_instr Neg w = record w { acc = minus 0 w.acc }
behind_instr Cmpl w = record w { acc = 4294967295 - w.acc }
behind_instr (Lrlk register word) w = register_becomes register word w
behind_instr (Lalk shift word) w = record w { acc = scaled w word shift }
behind_instr (Adlk shift word) w = record w { acc = plus w.acc (scaled w word shift) }
behind_instr (Sblk shift word) w = record w { acc = minus w.acc (scaled w word shift) }
behind_instr (Andk word) w = record w { acc = bit_and w.acc word }
behind_instr (Ork word) w = record w { acc = bit_or w.acc word }
behind_instr (Xork word) w = record w { acc = bit_xor w.acc word }
behind_instr (Out port o) w = behind_operand o w
behind_instr i w = w

-- the word that it puts, with its port
abbrev pub output_of : Instr → Work → Option (ℕ × ℕ)
output_of (Out port o) w = Some (port, operand_word w o)
output_of i w = None

abbrev pub prepended : Option (ℕ × ℕ) → Outputs → Outputs
prepended None outs = outs
prepended (Some word) outs = word ∷ outs

-- what has to hold for it to run
abbrev pub InRam : Operand → Work → Type 0
InRam o w = 0x300 ≤ operand_address w o

abbrev pub InstrReady : Instr → Work → Type 0
InstrReady (Add shift o) w = InRam o w
InstrReady (Sub shift o) w = InRam o w
InstrReady (Lac shift o) w = InRam o w
InstrReady (Lar register o) w = InRam o w × (changes register w.arp o ≡ false)
InstrReady (Mpy o) w = InRam o w
InstrReady (Lt o) w = InRam o w
InstrReady (Zals o) w = InRam o w
InstrReady (Lact o) w = InRam o w
InstrReady (Subs o) w = InRam o w
InstrReady (Subc o) w = InRam o w × (operand_word w o < 32768) × (w.acc < 2147483648)
InstrReady (Adds o) w = InRam o w
InstrReady (Xor o) w = InRam o w
InstrReady (Or o) w = InRam o w
InstrReady (And o) w = InRam o w
InstrReady (Pshd o) w = InRam o w × (length w.stack < 8)
InstrReady (Sacl shift o) w = InRam o w
InstrReady (Sach shift o) w = InRam o w
InstrReady (Sar register o) w = InRam o w × (changes register w.arp o ≡ false)
InstrReady (Popd o) w = InRam o w × NonEmpty w.stack
InstrReady (In port o) w = InRam o w × NonEmpty (w.input port)
InstrReady (Out port o) w = InRam o w
InstrReady (Rpt o) w = ⊥
InstrReady (Rptk constant) w = ⊥
InstrReady Idle w = ⊥
InstrReady Ret w = ⊥
InstrReady (Branch op to i) w = ⊥
InstrReady (Call to i) w = ⊥
InstrReady i w = Unit {0}

-- whether the modes matter to it: it forms a sum, takes a product or sets a mode
abbrev pub sets_mode : Instr → Bool
sets_mode Rovm = true
sets_mode Spm = true
sets_mode i = false

abbrev pub minds_modes : Instr → Bool
minds_modes i = sums i || (takes_product i || sets_mode i)

abbrev pub code_minds_modes : List Instr → Bool
code_minds_modes [] = false
code_minds_modes (i ∷ is) = minds_modes i || code_minds_modes is

-- what is done doesn't mind the modes, or they are calm
abbrev pub FitModes : Modes → Bool → Type 0
FitModes modes minds = (minds ≡ false) ⊎ (modes ≡ calm_modes)

-- the code as a whole
abbrev pub behind_code : List Instr → Work → Work
behind_code [] w = w
behind_code (i ∷ is) w = behind_code is (behind_instr i w)

abbrev pub outputs_of_code : List Instr → Work → Outputs
outputs_of_code [] w = []
outputs_of_code (i ∷ is) w = prepended (output_of i w) (outputs_of_code is (behind_instr i w))

abbrev pub CodeReady : List Instr → Work → Type 0
CodeReady [] w = Unit {0}
CodeReady (i ∷ is) w = InstrReady i w × CodeReady is (behind_instr i w)

abbrev pub code_size : List Instr → ℕ
code_size [] = 0
code_size (i ∷ is) = length_of (second_word i) + code_size is

-- so many times the same
abbrev pub behind_repeats : ℕ → Instr → Work → Work
behind_repeats zero i w = w
behind_repeats (suc n) i w = behind_repeats n i (behind_instr i w)

abbrev pub RepeatsReady : ℕ → Instr → Work → Type 0
RepeatsReady zero i w = Unit {0}
RepeatsReady (suc n) i w = InstrReady i w × RepeatsReady n i (behind_instr i w)

-- whether a jump is taken
abbrev pub is_taken : JumpOp → ℕ → Bool
is_taken jump.B acc = true
is_taken jump.Bgz acc = not (nat_le 2147483648 acc || (acc == 0))
is_taken jump.Blez acc = nat_le 2147483648 acc || (acc == 0)
is_taken jump.Blz acc = nat_le 2147483648 acc
is_taken jump.Bgez acc = not (nat_le 2147483648 acc)
is_taken jump.Bnz acc = not (acc == 0)
is_taken jump.Bz acc = acc == 0

abbrev pub branch_target : JumpOp → ℕ → ℕ → ℕ → ℕ
branch_target op acc to behind = if is_taken op acc then to else behind
