-- Each part stays in its range.
use Rattle.std.proofs.Common.{ℕ, ◌*◌, ◌/◌, ◌^◌, ◌<◌, ◌≤◌, ℤ, pos, negsuc, Bool, true, false, List, [], ◌∷◌, length, Option, Some, None, cond, arith}
use Rattle.std.specs.Prelude.{bit_and}
use Rattle.std.specs.Prelude.{All, nat_le, ◌==◌, ◌&&◌}
use Rattle.std.proofs.lemmas.Nat.{and_le_l, or_lt, xor_lt}
use Rattle.std.proofs.lemmas.List.Elements.{All-cons, All-tail}
use Rattle.c25_isa.specs.declared.operand.Change.{Change}
use Rattle.c25_isa.specs.declared.operand.Change.TheVariants.{Stay, Down, Up, DownIndex, UpIndex}
use Rattle.c25_isa.specs.declared.operand.Operand.{Operand}
use Rattle.c25_isa.specs.declared.operand.Operand.TheVariants.{Direct, Indirect as Through}
use Rattle.c25_isa.specs.declared.instruction.Instr.{Instr}
use Rattle.c25_isa.specs.declared.instruction.Instr.TheVariants.{Add, Sub, Lac, Lar, Mpy, Lt, Zals, Lact, Subs, Subc, Adds, Rpt, Xor, Or, And, Pshd, Mar, Sacl, Sach, Sar, Popd, Adrk, Sbrk, In, Mpyk, Lark, Ldpk, Lack, Rptk, Addk, Subk, Dint, Rovm, Rsxm, Ssxm, Spm, Pac, Apac, Spac, Sfl, Sfr, Idle, Neg, Ret, Cmpl, Lrlk, Lalk, Adlk, Sblk, Andk, Ork, Xork, Out, Branch, Call}
use Rattle.c25_isa.specs.State.{write}
use Rattle.c25_isa.specs.Table.{IsNext, IsOperand, IsInstr}
use Rattle.c25_isa.specs.Step.{wrap16, wrap32, low32, divided, half, changed, next_arp}
use Rattle.c25_code.specs.Work.{Work, InRange}
use Rattle.c25_code.specs.Straight.{operand_address, operand_word, behind_operand, acc_becomes, ram_becomes, register_becomes, first_of, rest_of, behind_instr, InstrReady}

wrap32-lt : (n : ℕ) → wrap32 n < 2 ^ 32
wrap32-lt n = omega arith

wrap16-lt : (n : ℕ) → wrap16 n < 2 ^ 16
wrap16-lt n = omega arith

wide : (n : ℕ) → n < 2 ^ 16 → n < 2 ^ 32
wide n lt = omega arith

low32-lt : (z : ℤ) → low32 z < 2 ^ 32
low32-lt (pos n) = omega arith
low32-lt (negsuc n) = omega arith

high-lt : (n : ℕ) → wrap32 n / 65536 < 2 ^ 16
high-lt n = omega arith

pub cond_lt : (b : Bool) (x y n : ℕ) → x < n → y < n → cond b x y < n
cond_lt true x y n f g = f
cond_lt false x y n f g = g

divided-lt : (acc word : ℕ) → divided acc word < 2 ^ 32
divided-lt acc word = cond_lt (nat_le (word * 32768) acc) _ _ (2 ^ 32) (wrap32-lt _) (wrap32-lt _)

half-lt : (sxm : Bool) (acc : ℕ) → acc < 2 ^ 32 → half sxm acc < 2 ^ 32
half-lt sxm acc lt = cond_lt (sxm && nat_le 2147483648 acc) _ _ (2 ^ 32) (omega arith) (omega arith)

and_fits : (a b : ℕ) → a < 2 ^ 32 → bit_and a b < 2 ^ 32
and_fits a b lt = omega (arith, and_le_l a b)

write-lt : (m : ℕ → ℕ) (a v : ℕ) → ((b : ℕ) → m b < 2 ^ 16) → v < 2 ^ 16 → (b : ℕ) → write m a v b < 2 ^ 16
write-lt m a v all lt b = cond_lt (b == a) v (m b) (2 ^ 16) lt (all b)

changed-lt : (c : Change) (index a : ℕ) → a < 2 ^ 16 → changed c index a < 2 ^ 16
changed-lt Stay index a lt = lt
changed-lt Down index a lt = wrap16-lt _
changed-lt Up index a lt = wrap16-lt _
changed-lt DownIndex index a lt = wrap16-lt _
changed-lt UpIndex index a lt = wrap16-lt _

next_arp-lt : (next : Option ℕ) (arp : ℕ) → IsNext next → arp < 8 → next_arp next arp < 8
next_arp-lt None arp fits lt = lt
next_arp-lt (Some register) arp fits lt = fits

first-lt : (l : List ℕ) → All (λ x. x < 2 ^ 16) l → first_of l < 2 ^ 16
first-lt [] all = omega arith
first-lt (x ∷ xs) all = all 0 0 (omega arith)

rest-all : (l : List ℕ) → All (λ x. x < 2 ^ 16) l → All (λ x. x < 2 ^ 16) (rest_of l)
rest-all [] all = all
rest-all (x ∷ xs) all = All-tail (λ n. n < 2 ^ 16) x xs all

rest-room : (l : List ℕ) → length l ≤ 8 → length (rest_of l) ≤ 8
rest-room [] le = le
rest-room (x ∷ xs) le = omega (arith, le)

cond_all : (b : Bool) (k l : List ℕ) → All (λ x. x < 2 ^ 16) k → All (λ x. x < 2 ^ 16) l → All (λ x. x < 2 ^ 16) (cond b k l)
cond_all true k l f g = f
cond_all false k l f g = g

through_fits : (o : Operand) (w : Work) → IsOperand o → InRange w → InRange (behind_operand o w)
through_fits (Direct offset) w fits r = r
through_fits (Through i) w fits r =
    record { acc = r.acc; t = r.t; p = r.p; ar = write-lt w.ar w.arp _ r.ar (changed-lt i.change (w.ar 0) (w.ar w.arp) (r.ar w.arp)); arp = next_arp-lt i.next w.arp fits r.arp; dp = r.dp; stack = r.stack; room = r.room; ram = r.ram; input = r.input }

acc_fits : (w : Work) (acc : ℕ) → InRange w → acc < 2 ^ 32 → InRange (record w { acc = acc })
acc_fits w acc r lt = record { acc = lt; t = r.t; p = r.p; ar = r.ar; arp = r.arp; dp = r.dp; stack = r.stack; room = r.room; ram = r.ram; input = r.input }

load_fits : (o : Operand) (w : Work) (acc : ℕ) → IsOperand o → InRange w → acc < 2 ^ 32 → InRange (acc_becomes o acc w)
load_fits o w acc fits r lt = through_fits o (record w { acc = acc }) fits (acc_fits w acc r lt)

store_fits : (o : Operand) (w : Work) (v : ℕ) → IsOperand o → InRange w → v < 2 ^ 16 → InRange (ram_becomes o v w)
store_fits o w v fits r lt =
    through_fits o (record w { ram = write w.ram (operand_address w o) v }) fits (record { acc = r.acc; t = r.t; p = r.p; ar = r.ar; arp = r.arp; dp = r.dp; stack = r.stack; room = r.room; ram = write-lt w.ram (operand_address w o) v r.ram lt; input = r.input })

set_fits : (w : Work) (register v : ℕ) → InRange w → v < 2 ^ 16 → InRange (register_becomes register v w)
set_fits w register v r lt = record { acc = r.acc; t = r.t; p = r.p; ar = write-lt w.ar register v r.ar lt; arp = r.arp; dp = r.dp; stack = r.stack; room = r.room; ram = r.ram; input = r.input }

p_fits : (w : Work) (p : ℕ) → InRange w → p < 2 ^ 32 → InRange (record w { p = p })
p_fits w p r lt = record { acc = r.acc; t = r.t; p = lt; ar = r.ar; arp = r.arp; dp = r.dp; stack = r.stack; room = r.room; ram = r.ram; input = r.input }

pub behind_instr-fits : (i : Instr) (w : Work) → IsInstr i → InstrReady i w → InRange w → InRange (behind_instr i w)
behind_instr-fits (Add shift o) w fits ready r = load_fits o w _ fits.1 r (wrap32-lt _)
behind_instr-fits (Sub shift o) w fits ready r = load_fits o w _ fits.1 r (wrap32-lt _)
behind_instr-fits (Lac shift o) w fits ready r = load_fits o w _ fits.1 r (wrap32-lt _)
behind_instr-fits (Lact o) w fits ready r = load_fits o w _ fits r (wrap32-lt _)
behind_instr-fits (Subs o) w fits ready r = load_fits o w _ fits r (wrap32-lt _)
behind_instr-fits (Adds o) w fits ready r = load_fits o w _ fits r (wrap32-lt _)
behind_instr-fits (Zals o) w fits ready r = load_fits o w _ fits r (wide (operand_word w o) (r.ram (operand_address w o)))
behind_instr-fits (Subc o) w fits ready r = load_fits o w _ fits r (divided-lt w.acc (operand_word w o))
behind_instr-fits (Xor o) w fits ready r = load_fits o w _ fits r (xor_lt 32 w.acc (operand_word w o) r.acc (wide (operand_word w o) (r.ram (operand_address w o))))
behind_instr-fits (Or o) w fits ready r = load_fits o w _ fits r (or_lt 32 w.acc (operand_word w o) r.acc (wide (operand_word w o) (r.ram (operand_address w o))))
behind_instr-fits (And o) w fits ready r = load_fits o w _ fits r (and_fits w.acc (operand_word w o) r.acc)
behind_instr-fits (Lar register o) w fits ready r = set_fits (behind_operand o w) register (operand_word w o) (through_fits o w fits.1 r) (r.ram (operand_address w o))
behind_instr-fits (Mpy o) w fits ready r = through_fits o _ fits (p_fits w _ r (low32-lt _))
behind_instr-fits (Lt o) w fits ready r = through_fits o (record w { t = operand_word w o }) fits (record { acc = r.acc; t = r.ram (operand_address w o); p = r.p; ar = r.ar; arp = r.arp; dp = r.dp; stack = r.stack; room = r.room; ram = r.ram; input = r.input })
behind_instr-fits (Pshd o) w fits ready r = through_fits o (record w { stack = operand_word w o ∷ w.stack }) fits (record { acc = r.acc; t = r.t; p = r.p; ar = r.ar; arp = r.arp; dp = r.dp; stack = All-cons (λ n. n < 2 ^ 16) (operand_word w o) w.stack (r.ram (operand_address w o)) r.stack; room = ready.1; ram = r.ram; input = r.input })
behind_instr-fits (Mar i) w fits ready r = through_fits (Through i) w fits r
behind_instr-fits (Sacl shift o) w fits ready r = store_fits o w _ fits.1 r (wrap16-lt _)
behind_instr-fits (Sach shift o) w fits ready r = store_fits o w _ fits.1 r (high-lt _)
behind_instr-fits (Sar register o) w fits ready r = store_fits o w _ fits.1 r (r.ar register)
behind_instr-fits (Popd o) w fits ready r = store_fits o (record w { stack = rest_of w.stack }) _ fits (record { acc = r.acc; t = r.t; p = r.p; ar = r.ar; arp = r.arp; dp = r.dp; stack = rest-all w.stack r.stack; room = rest-room w.stack r.room; ram = r.ram; input = r.input }) (first-lt w.stack r.stack)
behind_instr-fits (Adrk c) w fits ready r = set_fits w w.arp _ r (wrap16-lt _)
behind_instr-fits (Sbrk c) w fits ready r = set_fits w w.arp _ r (wrap16-lt _)
behind_instr-fits (In port o) w fits ready r =
    store_fits o (record w { input = λ p. cond (p == port) (rest_of (w.input port)) (w.input p) }) _ fits.1
    (record { acc = r.acc; t = r.t; p = r.p; ar = r.ar; arp = r.arp; dp = r.dp; stack = r.stack; room = r.room; ram = r.ram; input = λ p. cond_all (p == port) _ _ (rest-all (w.input port) (r.input port)) (r.input p) })
    (first-lt (w.input port) (r.input port))
behind_instr-fits (Mpyk c) w fits ready r = p_fits w _ r (low32-lt _)
behind_instr-fits (Lark register c) w fits ready r = set_fits w register c r (let lt : c < 256 = fits.1 in omega arith)
behind_instr-fits (Ldpk c) w fits ready r = record { acc = r.acc; t = r.t; p = r.p; ar = r.ar; arp = r.arp; dp = fits; stack = r.stack; room = r.room; ram = r.ram; input = r.input }
behind_instr-fits (Lack c) w fits ready r = acc_fits w c r (let lt : c < 256 = fits in omega arith)
behind_instr-fits (Addk c) w fits ready r = acc_fits w _ r (wrap32-lt _)
behind_instr-fits (Subk c) w fits ready r = acc_fits w _ r (wrap32-lt _)
behind_instr-fits Rsxm w fits ready r = record { acc = r.acc; t = r.t; p = r.p; ar = r.ar; arp = r.arp; dp = r.dp; stack = r.stack; room = r.room; ram = r.ram; input = r.input }
behind_instr-fits Ssxm w fits ready r = record { acc = r.acc; t = r.t; p = r.p; ar = r.ar; arp = r.arp; dp = r.dp; stack = r.stack; room = r.room; ram = r.ram; input = r.input }
behind_instr-fits Pac w fits ready r = acc_fits w _ r r.p
behind_instr-fits Apac w fits ready r = acc_fits w _ r (wrap32-lt _)
behind_instr-fits Spac w fits ready r = acc_fits w _ r (wrap32-lt _)
behind_instr-fits Sfl w fits ready r = acc_fits w _ r (wrap32-lt _)
behind_instr-fits Sfr w fits ready r = acc_fits w _ r (half-lt w.sxm w.acc r.acc)
behind_instr-fits Neg w fits ready r = acc_fits w _ r (wrap32-lt _)
behind_instr-fits Cmpl w fits ready r = acc_fits w _ r (omega arith)
behind_instr-fits (Lrlk register c) w fits ready r = set_fits w register c r fits.1
behind_instr-fits (Lalk shift c) w fits ready r = acc_fits w _ r (wrap32-lt _)
behind_instr-fits (Adlk shift c) w fits ready r = acc_fits w _ r (wrap32-lt _)
behind_instr-fits (Sblk shift c) w fits ready r = acc_fits w _ r (wrap32-lt _)
behind_instr-fits (Andk c) w fits ready r = acc_fits w _ r (and_fits w.acc c r.acc)
behind_instr-fits (Ork c) w fits ready r = acc_fits w _ r (or_lt 32 w.acc c r.acc (wide c fits))
behind_instr-fits (Xork c) w fits ready r = acc_fits w _ r (xor_lt 32 w.acc c r.acc (wide c fits))
behind_instr-fits (Out port o) w fits ready r = through_fits o w fits.1 r
behind_instr-fits (Rpt o) w fits ready r = absurd ready
behind_instr-fits (Rptk c) w fits ready r = absurd ready
behind_instr-fits Dint w fits ready r = r
behind_instr-fits Rovm w fits ready r = r
behind_instr-fits Spm w fits ready r = r
behind_instr-fits Idle w fits ready r = absurd ready
behind_instr-fits Ret w fits ready r = absurd ready
behind_instr-fits (Branch op to i) w fits ready r = absurd ready
behind_instr-fits (Call to i) w fits ready r = absurd ready
