-- 64 bits hold them.
use Rattle.std.proofs.Common.{◌≡◌, ◌+◌, ◌-◌, ◌≤◌, Bool, true, false, not, get_or, ap, ◌∙◌, arith}
use mir.Val.{bool_byte}
use Rattle.lay_cost.specs.Restricted.{in_bits}
use Rattle.lay_node.specs.Levels.{is_free}
use Rattle.lay_node.proofs.Bits.{bits_from, bits_fit, bits_at}
use Rattle.lay_node.proofs.position.unplaced_of.Goals as goal

byte_small : (b : Bool) → bool_byte b ≤ 1
byte_small true = omega arith
byte_small false = omega arith

pub overflow_mul-set : goal.overflow_mul-set
overflow_mul-set c =
    let few : c.args.scalars - c.loop-scalar.scalar ≤ 63 = omega (arith, c.loop-scalar-test.true, c.requires, c.loop-scalar.auto.scalar) in
    omega (arith, c.loop-scalar.invariant, bits_fit (is_free c.args.placed.now) c.loop-scalar.scalar (c.args.scalars - c.loop-scalar.scalar) few)

pub overflow_add-set : goal.overflow_add-set
overflow_add-set c =
    let few : c.args.scalars - c.loop-scalar.scalar ≤ 63 = omega (arith, c.loop-scalar-test.true, c.requires, c.loop-scalar.auto.scalar) in
    omega (arith, c.loop-scalar.invariant, bits_fit (is_free c.args.placed.now) c.loop-scalar.scalar (c.args.scalars - c.loop-scalar.scalar) few, c.from-in-loop-scalar.ensures, byte_small (not (get_or c.args.placed.now c.from.result false)))

pub returns : goal.returns
returns c s lt =
    let end : c.loop-scalar.scalar ≡ 0 = omega (arith, c.loop-scalar-test.false) in
    let all : c.args.scalars - c.loop-scalar.scalar ≡ c.args.scalars = omega (arith, end) in
    let plain : 0 + s ≡ s = omega arith in
    ap (λ b. in_bits b s) (c.loop-scalar.invariant ∙ ap (λ i. bits_from (is_free c.args.placed.now) i (c.args.scalars - c.loop-scalar.scalar)) end ∙ ap (bits_from (is_free c.args.placed.now) 0) all) ∙ bits_at (is_free c.args.placed.now) 0 c.args.scalars s lt ∙ ap (is_free c.args.placed.now) plain
