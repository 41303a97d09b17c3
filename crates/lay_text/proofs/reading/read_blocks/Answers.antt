use Rattle.std.proofs.Common.{rules, ◌≡◌, ◌≢◌, ◌+◌, ◌-◌, ◌*◌, length, refl, ◌∙◌, arith}
use Rattle.std.proofs.lemmas.Result.{err_from_is_err_and}
use Rattle.lay_model.specs.Sequences.{counted}
use Rattle.lay_text.specs.SequenceText.{last_line}
use Rattle.lay_text.proofs.Faults.{blocks_faulty, blocks_early, blocks_more, blocks_end, fewer_left}
use Rattle.lay_text.proofs.reading.read_blocks.Goals as goal

pub returns-in_default-clause-read : goal.returns-in_default-clause-read
returns-in_default-clause-read c =
    let other : c.loop-line.line.now ≢ last_line = search rules in
    rw c.last_fault.ensures (blocks_faulty c.loop-line.lines c.args.head.now.scalars c.args.head.now.step c.loop-line.room c.loop-line.line.now c.loop-line.blocks c.loop-line.invariant.so_far other (rw c.in_default.is at c.in_ok-block.ensures))

pub returns-in_err-line-clause-read : goal.returns-in_err-line-clause-read
returns-in_err-line-clause-read c =
    let p = err_from_is_err_and c.from_residual-in_err-line.result c.from_residual-in_err-line.ensures.1 in
    let e = c.in_err-line.ensures.read in
    let b = rw c.in-Some.is at c.in_ok-block.ensures in
    rw (p.1, p.2, e.1) (blocks_early c.loop-line.lines c.next_or_fault.new.lines c.args.head.now.scalars c.args.head.now.step c.loop-line.room _ c.loop-line.line.now c.loop-line.blocks c.in-Some.block c.loop-line.invariant.so_far b.0 b.1 e.0 refl)

pub loop-line-smaller : goal.loop-line-smaller
loop-line-smaller c = fewer_left c.loop-line.lines c.next_or_fault.new.lines c.in_ok-line.line.now c.in_ok-line.ensures.bytes c.in_ok-line.ensures.read

pub loop-line-preserved : goal.loop-line-preserved
loop-line-preserved c =
    let b = rw c.in-Some.is at c.in_ok-block.ensures in
    let counts : c.from.result * length c.accesses.result.now ≡ counted c.in-Some.block = search rules in
    let room : (c.loop-line.room - c.from.result * length c.accesses.result.now) + counted c.in-Some.block ≡ c.loop-line.room = omega (arith, b.0.fits, counts) in
    record {
      same = c.in_ok-line.ensures.bytes ∙ c.loop-line.invariant.same;
      so_far = blocks_more c.loop-line.lines c.next_or_fault.new.lines c.args.head.now.scalars c.args.head.now.step c.loop-line.room (c.loop-line.room - c.from.result * length c.accesses.result.now) c.loop-line.line.now c.in_ok-line.line.now c.loop-line.blocks c.push.new.self c.in-Some.block c.loop-line.invariant.so_far b.0 b.1 (search rules) room c.in_ok-line.ensures.read;
    }

pub returns-clause-read : goal.returns-clause-read
returns-clause-read c =
    let last : c.loop-line.line.now ≡ last_line = search rules in
    blocks_end c.loop-line.lines c.args.head.now.scalars c.args.head.now.step c.loop-line.room c.loop-line.line.now c.loop-line.blocks c.loop-line.invariant.so_far last
