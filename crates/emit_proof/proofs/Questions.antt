-- A question about ACC is that of the jump on it.
use Rattle.std.proofs.Common.{◌≡◌, ℕ, Bool, true, false, refl, ap, arith, leb-true, leb-false}
use Rattle.std.specs.Prelude.{nat_lt, nat_le, not, ◌||◌, ◌==◌}
use Rattle.std.proofs.lemmas.Bool.{ltb-true, ltb-false}
use Rattle.acc_code.specs.declared.operation.Test.TheVariants.{Gz, Lez, Lz, Gez}
use Rattle.c25_isa.specs.declared.instruction.JumpOp.TheVariants.{Bgz, Blez, Blz, Bgez}
use Rattle.c25_code.specs.Straight.{is_taken}
use Rattle.ir_semantics.specs.AccRows.{is_negative, holds}

-- ACC is below 0 where it is 80000000h or more
not_below : (b c : Bool) (z : ℕ) → nat_lt z 2147483648 ≡ b → nat_le 2147483648 z ≡ c → not b ≡ c
not_below true true z e f = absurd (let small = ltb-true z 2147483648 e in let large = leb-true 2147483648 z f in omega (arith, small, large))
not_below true false z e f = refl
not_below false true z e f = refl
not_below false false z e f = absurd (let large = ltb-false z 2147483648 e in let small = leb-false 2147483648 z f in omega (arith, small, large))

negative_is : (z : ℕ) → is_negative z ≡ nat_le 2147483648 z
negative_is z = not_below (nat_lt z 2147483648) (nat_le 2147483648 z) z refl refl

pub asks_above : (z : ℕ) → holds Gz z ≡ is_taken Bgz z
asks_above z = ap (λ b. not (b || (z == 0))) (negative_is z)

pub asks_at_most : (z : ℕ) → holds Lez z ≡ is_taken Blez z
asks_at_most z = ap (λ b. b || (z == 0)) (negative_is z)

pub asks_below : (z : ℕ) → holds Lz z ≡ is_taken Blz z
asks_below z = negative_is z

pub asks_at_least : (z : ℕ) → holds Gez z ≡ is_taken Bgez z
asks_at_least z = ap not (negative_is z)
