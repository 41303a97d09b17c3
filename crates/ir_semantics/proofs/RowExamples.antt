-- Operations on an accumulator that is known in part, decided by hand from the instruction table.
use Rattle.std.proofs.Common.{◌≡◌, refl, ℕ, Bool, true, false, Option, Some, None}
use Rattle.acc_code.specs.declared.operation.AccOp.{AccOp}
use Rattle.acc_code.specs.declared.operation.AccOp.TheVariants as row
use Rattle.acc_code.specs.declared.operation.Test.TheVariants as test
use Rattle.ir_semantics.specs.AccRows.{Acc, Gone, Low, Whole, Registers, low_half, whole_of, acted, low_stored, high_stored, holds}

abbrev registers : Acc → Option Bool → Registers
registers a sxm = record { acc = a; t = Some 17; p = Some 70000; sxm = sxm; pointed = None }

abbrev acc_of : Option Registers → Option Acc
acc_of None = None
acc_of (Some r) = Some r.acc

-- what an operation on a word leaves, with SXM set
abbrev leaves : AccOp → ℕ → Acc → Option Acc
leaves o x a = acc_of (acted o x (registers a (Some true)))

-- with SXM not known
abbrev leaves_unknown : AccOp → ℕ → Acc → Option Acc
leaves_unknown o x a = acc_of (acted o x (registers a None))

loads : (leaves row.Lack 5 Gone ≡ Some (Whole 5)) × (leaves row.Zals 65535 Gone ≡ Some (Whole 65535)) × (leaves (row.Lac 0) 65535 Gone ≡ Some (Whole 4294967295)) × (leaves (row.Lac 2) 65535 Gone ≡ Some (Whole 4294967292))
    × (leaves (row.Lalk 0) 32768 Gone ≡ Some (Whole 4294934528)) × (leaves row.Lact 3 Gone ≡ Some (Whole 6)) × (leaves row.Pac 0 Gone ≡ Some (Whole 70000))
loads = (refl, refl, refl, refl, refl, refl, refl)

-- where SXM isn't known a word from 8000h on has no known high half
loads_unknown : (leaves_unknown (row.Lac 0) 65535 Gone ≡ Some (Low 65535)) × (leaves_unknown (row.Lac 1) 65535 Gone ≡ Some (Low 65534)) × (leaves_unknown (row.Lac 1) 32767 Gone ≡ Some (Whole 65534))
    × (leaves_unknown (row.Lalk 0) 32768 Gone ≡ Some (Low 32768)) × (leaves_unknown row.Zals 65535 Gone ≡ Some (Whole 65535))
loads_unknown = (refl, refl, refl, refl, refl)

sums : (leaves (row.Add 0) 65535 (Whole 5) ≡ Some (Whole 4)) × (leaves (row.Add 0) 65535 (Low 5) ≡ Some (Low 4)) × (leaves (row.Add 0) 1 Gone ≡ None) × (leaves_unknown (row.Add 0) 65535 (Whole 5) ≡ Some (Low 4))
    × (leaves row.Subs 65535 (Whole 5) ≡ Some (Whole 4294901766)) × (leaves (row.Sub 0) 65535 (Whole 5) ≡ Some (Whole 6)) × (leaves row.Subk 6 (Low 5) ≡ Some (Low 65535)) × (leaves row.Adds 65535 (Whole 1) ≡ Some (Whole 65536))
    × (leaves (row.Sblk 1) 16384 (Whole 32768) ≡ Some (Whole 0)) × (leaves row.Apac 0 (Whole 1) ≡ Some (Whole 70001)) × (leaves row.Spac 0 (Low 5) ≡ Some (Low 61077))
sums = (refl, refl, refl, refl, refl, refl, refl, refl, refl, refl, refl)

bits : (leaves row.And 15 (Low 65535) ≡ Some (Whole 15)) × (leaves row.Andk 65535 (Whole 65537) ≡ Some (Whole 1)) × (leaves row.Or 3 (Low 4) ≡ Some (Low 7)) × (leaves row.Ork 3 (Whole 65540) ≡ Some (Whole 65543))
    × (leaves row.Xor 5 (Whole 65540) ≡ Some (Whole 65537)) × (leaves row.Xork 5 (Low 4) ≡ Some (Low 1)) × (leaves row.And 1 Gone ≡ None)
bits = (refl, refl, refl, refl, refl, refl, refl)

alone : (leaves row.Neg 0 (Low 1) ≡ Some (Low 65535)) × (leaves row.Neg 0 (Whole 1) ≡ Some (Whole 4294967295)) × (leaves row.Cmpl 0 (Low 0) ≡ Some (Low 65535)) × (leaves row.Cmpl 0 (Whole 0) ≡ Some (Whole 4294967295))
    × (leaves row.Sfl 0 (Low 32768) ≡ Some (Low 0)) × (leaves row.Sfl 0 (Whole 32768) ≡ Some (Whole 65536))
alone = (refl, refl, refl, refl, refl, refl)

-- a shift to the right needs all bits, and SXM where the highest one is 1
halves : (leaves row.Sfr 0 (Low 6) ≡ None) × (leaves row.Sfr 0 (Whole 6) ≡ Some (Whole 3)) × (leaves row.Sfr 0 (Whole 2147483648) ≡ Some (Whole 3221225472)) × (leaves_unknown row.Sfr 0 (Whole 6) ≡ Some (Whole 3))
    × (leaves_unknown row.Sfr 0 (Whole 2147483648) ≡ None)
halves = (refl, refl, refl, refl, refl)

stores : (low_stored (low_half (Low 3)) 1 ≡ Some 6) × (low_stored (low_half (Whole 65539)) 0 ≡ Some 3) × (low_stored (low_half Gone) 0 ≡ None) × (high_stored (whole_of (Whole 131072)) 0 ≡ Some 2) × (high_stored (whole_of (Whole 32768)) 1 ≡ Some 1)
    × (high_stored (whole_of (Low 3)) 0 ≡ None)
stores = (refl, refl, refl, refl, refl, refl)

questions : (holds test.Gz 1 ≡ true) × (holds test.Gz 4294967295 ≡ false) × (holds test.Lez 0 ≡ true) × (holds test.Lz 4294967295 ≡ true) × (holds test.Gez 2147483648 ≡ false) × (holds test.Nz 65536 ≡ true) × (holds test.Z 65536 ≡ false)
questions = (refl, refl, refl, refl, refl, refl, refl)

abbrev product_of : Option Registers → Option ℕ
product_of None = None
product_of (Some r) = r.p

abbrev pointed_of : Option Registers → Option ℕ
pointed_of None = None
pointed_of (Some r) = r.pointed

others : (product_of (acted row.Mpy 65535 (registers Gone None)) ≡ Some 4294967279) × (product_of (acted row.Mpyk 2 (registers Gone None)) ≡ Some 34) × (pointed_of (acted row.Point 0 (registers (Low 800) None)) ≡ Some 800)
    × (pointed_of (acted row.Point 0 (registers Gone None)) ≡ None)
others = (refl, refl, refl, refl)
