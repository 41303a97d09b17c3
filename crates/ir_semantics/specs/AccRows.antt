-- What operations of accumulator code do (docs/TRANSLATION.md, "What runs do"). Each is its row of the instruction table, on the accumulator as far as
-- it is known; where a part is needed that isn't known, the run fails.
use Rattle.std.specs.Prelude.{ℕ, ◌-◌, ◌*◌, ◌/◌, ◌%◌, ◌^◌, Bool, true, false, not, nat_lt, ◌==◌, ◌||◌, if◌then◌else◌, bit_and, bit_or, bit_xor, Option, Some, None}
use Rattle.word_base.specs.Words.{signed_of}
use Rattle.c25_isa.specs.Step.{wrap16, wrap32, extended, plus, minus, product, half}
use Rattle.acc_code.specs.declared.operand.AccOperand.{AccOperand}
use Rattle.acc_code.specs.declared.operand.AccOperand.TheVariants as operand
use Rattle.acc_code.specs.declared.operation.AccOp.{AccOp}
use Rattle.acc_code.specs.declared.operation.AccOp.TheVariants as row
use Rattle.acc_code.specs.declared.operation.Test.{Test}
use Rattle.acc_code.specs.declared.operation.Test.TheVariants as test

-- the accumulator: nothing is known of it, its low half is known, or all its 32 bits are
pub data Acc : Type 0 where
  Gone : Acc
  Low : ℕ → Acc
  Whole : ℕ → Acc

-- the registers, as far as they are known: ACC, T, P, SXM, and the address of what is pointed to
pub record Registers : Type 0 where
  pub acc : Acc
  pub t : Option ℕ
  pub p : Option ℕ
  pub sxm : Option Bool
  pub pointed : Option ℕ

abbrev pub with_acc : Acc → Registers → Registers
with_acc a r = record r { acc = a }

abbrev pub low_half : Acc → Option ℕ
low_half Gone = None
low_half (Low x) = Some x
low_half (Whole z) = Some (wrap16 z)

abbrev pub whole_of : Acc → Option ℕ
whole_of Gone = None
whole_of (Low x) = None
whole_of (Whole z) = Some z

-- a word as SXM extends it, times a power of two: with SXM not known, of a word from 8000h on the low half alone is
abbrev pub scaled : Option Bool → ℕ → ℕ → Acc
scaled (Some sxm) x shift = Whole (wrap32 (extended sxm x * 2 ^ shift))
scaled None x shift = if nat_lt x 32768 then Whole (wrap32 (x * 2 ^ shift)) else Low (wrap16 (x * 2 ^ shift))

-- an operation on 32 bits whose low half is that of the low halves: a sum, a difference, or one on bits
abbrev pub combined : (ℕ → ℕ → ℕ) → Acc → Acc → Option Acc
combined f Gone b = None
combined f (Low x) Gone = None
combined f (Low x) (Low y) = Some (Low (wrap16 (f x y)))
combined f (Low x) (Whole z) = Some (Low (wrap16 (f x (wrap16 z))))
combined f (Whole z) Gone = None
combined f (Whole z) (Low y) = Some (Low (wrap16 (f (wrap16 z) y)))
combined f (Whole z) (Whole y) = Some (Whole (f z y))

-- a word of 16 bits as it stands
abbrev pub exact : ℕ → Acc
exact x = Whole x

-- the high half becomes 0
abbrev pub masked : Option ℕ → ℕ → Option Acc
masked None x = None
masked (Some y) x = Some (Whole (bit_and y x))

-- a shift to the right by one: SXM matters where the highest bit is 1
abbrev pub halved : Option Bool → Option ℕ → Option Acc
halved sxm None = None
halved (Some s) (Some z) = Some (Whole (half s z))
halved None (Some z) = if nat_lt z 2147483648 then Some (Whole (half false z)) else None

abbrev pub doubled : Acc → Acc
doubled Gone = Gone
doubled (Low x) = Low (wrap16 (2 * x))
doubled (Whole z) = Whole (wrap32 (2 * z))

abbrev pub complemented : Acc → Acc
complemented Gone = Gone
complemented (Low x) = Low (65535 - x)
complemented (Whole z) = Whole (4294967295 - z)

-- registers with this accumulator, where there is one
abbrev pub acc_becomes : Option Acc → Registers → Option Registers
acc_becomes None r = None
acc_becomes (Some a) r = Some (with_acc a r)

-- T times a number
abbrev pub multiplied : Option ℕ → ℕ → Registers → Option Registers
multiplied None x r = None
multiplied (Some t) x r = Some (record r { p = Some (product t (signed_of x)) })

-- a word scaled by the low four bits of T
abbrev pub scaled_by_t : Option ℕ → ℕ → Registers → Option Registers
scaled_by_t None x r = None
scaled_by_t (Some t) x r = Some (with_acc (scaled r.sxm x (t % 16)) r)

-- the accumulator and P, combined
abbrev pub with_product : (Acc → Acc → Option Acc) → Option ℕ → Registers → Option Registers
with_product f None r = None
with_product f (Some p) r = acc_becomes (f r.acc (exact p)) r

abbrev pub known : Acc → Option Acc
known Gone = None
known (Low x) = Some (Low x)
known (Whole z) = Some (Whole z)

abbrev pub points_at : Option ℕ → Registers → Option Registers
points_at None r = None
points_at (Some a) r = Some (record r { pointed = Some a })

-- an operation that doesn't store, on the word of its operand; one without an operand takes any
abbrev pub acted : AccOp → ℕ → Registers → Option Registers
acted row.Point x r = points_at (low_half r.acc) r
acted (row.Add shift) x r = acc_becomes (combined plus r.acc (scaled r.sxm x shift)) r
acted (row.Sub shift) x r = acc_becomes (combined minus r.acc (scaled r.sxm x shift)) r
acted (row.Lac shift) x r = Some (with_acc (scaled r.sxm x shift) r)
acted row.Mpy x r = multiplied r.t x r
acted row.Lt x r = Some (record r { t = Some x })
acted row.Zals x r = Some (with_acc (exact x) r)
acted row.Lact x r = scaled_by_t r.t x r
acted row.Subs x r = acc_becomes (combined minus r.acc (exact x)) r
acted row.Adds x r = acc_becomes (combined plus r.acc (exact x)) r
acted row.Xor x r = acc_becomes (combined bit_xor r.acc (exact x)) r
acted row.Or x r = acc_becomes (combined bit_or r.acc (exact x)) r
acted row.And x r = acc_becomes (masked (low_half r.acc) x) r
acted row.Mpyk x r = multiplied r.t x r
acted row.Lack x r = Some (with_acc (exact x) r)
acted row.Addk x r = acc_becomes (combined plus r.acc (exact x)) r
acted row.Subk x r = acc_becomes (combined minus r.acc (exact x)) r
acted (row.Lalk shift) x r = Some (with_acc (scaled r.sxm x shift) r)
acted (row.Adlk shift) x r = acc_becomes (combined plus r.acc (scaled r.sxm x shift)) r
acted (row.Sblk shift) x r = acc_becomes (combined minus r.acc (scaled r.sxm x shift)) r
acted row.Andk x r = acc_becomes (masked (low_half r.acc) x) r
acted row.Ork x r = acc_becomes (combined bit_or r.acc (exact x)) r
acted row.Xork x r = acc_becomes (combined bit_xor r.acc (exact x)) r
acted row.Dint x r = Some r
acted row.Rovm x r = Some r
acted row.Spm x r = Some r
acted row.Rsxm x r = Some (record r { sxm = Some false })
acted row.Ssxm x r = Some (record r { sxm = Some true })
acted row.Pac x r = with_product (λ a p. Some p) r.p r
acted row.Apac x r = with_product (combined plus) r.p r
acted row.Spac x r = with_product (combined minus) r.p r
acted row.Sfl x r = acc_becomes (known (doubled r.acc)) r
acted row.Sfr x r = acc_becomes (halved r.sxm (whole_of r.acc)) r
acted row.Neg x r = acc_becomes (combined minus (exact 0) r.acc) r
acted row.Cmpl x r = acc_becomes (known (complemented r.acc)) r
acted (row.Sacl shift) x r = None
acted (row.Sach shift) x r = None
acted (row.In port) x r = None
acted (row.Out port) x r = None

-- the word that is stored: the low half, moved up, or the high half of all 32 bits moved up
abbrev pub low_stored : Option ℕ → ℕ → Option ℕ
low_stored None shift = None
low_stored (Some x) shift = Some (wrap16 (x * 2 ^ shift))

abbrev pub high_stored : Option ℕ → ℕ → Option ℕ
high_stored None shift = None
high_stored (Some z) shift = Some (wrap32 (z * 2 ^ shift) / 65536)

-- a question about 32 bits, as a number with its sign
abbrev pub is_negative : ℕ → Bool
is_negative z = not (nat_lt z 2147483648)

abbrev pub holds : Test → ℕ → Bool
holds test.Gz z = not (is_negative z || (z == 0))
holds test.Lez z = is_negative z || (z == 0)
holds test.Lz z = is_negative z
holds test.Gez z = not (is_negative z)
holds test.Nz z = not (z == 0)
holds test.Z z = z == 0

-- the weight of an operation: at least the words that its code takes
abbrev pub operand_weight : AccOperand → ℕ
operand_weight operand.Nothing = 1
operand_weight (operand.Scalar n) = 5
operand_weight (operand.Direct v) = 2
operand_weight (operand.Param f n) = 2
operand_weight (operand.Scratch n) = 2
operand_weight (operand.Number w) = 2
operand_weight (operand.Address v n) = 2
operand_weight operand.Pointed = 2

abbrev pub operation_weight : AccOp → AccOperand → ℕ
operation_weight row.Point m = 3
operation_weight o m = operand_weight m
