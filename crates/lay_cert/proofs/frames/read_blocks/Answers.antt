use Rattle.std.proofs.Common.{rules, ◌≡◌, ◌+◌, ◌-◌, ◌*◌, ◌^◌, ◌++◌, ◌∷◌, [], length, sym, subst, arith, inl, refl}
use Rattle.std.specs.Prelude.{codes}
use Rattle.std.specs.List.{sum_by}
use Rattle.std.proofs.lemmas.List.Sums.{sum_by_push}
use Rattle.lay_model.specs.Sequences.{counted}
use Rattle.lay_lines.specs.BlockText.{step_line}
use Rattle.lay_text.proofs.SequenceLines.{IsOpen, open_whole}
use Rattle.lay_text.proofs.Faults.{IsOpen-push}
use Rattle.lay_cert.specs.CertReading.{Inside, Listing}
use Rattle.lay_cert.specs.LineReading.{Cursor, Stands, BeginsNot}
use Rattle.lay_cert.proofs.Layouts.{block_read, block_stuck}
use Rattle.lay_cert.proofs.frames.read_blocks.Goals as goal

pub loop-line-init : goal.loop-line-init
loop-line-init c =
    let none : c.new-blocks.result ≡ [] = c.new-blocks.ensures in
    record {
      is_open = subst (IsOpen c.args.head.scalars c.args.head.step (step_line c.args.head.step ∷ [])) (sym none) (record { few = c.requires.low; moves = c.requires.moves; near = c.requires.near; tell = inl refl; each = tt {0}; countable = omega arith });
      room_is = subst (λ l. sum_by counted l + 2 ^ 60 ≡ 2 ^ 60) (sym none) refl;
      so_far = λ bytes steps fs h same start. subst (λ l. Stands bytes c.args.lines.now (Inside steps fs (Listing h l [] []))) (sym none) start;
    }

pub returns-in_default-2-clause-read : goal.returns-in_default-2-clause-read
returns-in_default-2-clause-read c = λ bytes steps fs h same start.
    let i = c.loop-line.invariant in
    let m = c.in-Some.ensures in
    rw c.fault.ensures (block_stuck bytes c.loop-line.lines c.next_with.new.self c.in-Some.line.now m.1.0 c.loop-line.blocks c.loop-line.room c.args.head.scalars steps fs h (i.so_far bytes steps fs h same start) m.0 same i.room_is m.1.1 (rw c.in_default-2.is at c.in_ok-block.ensures))

pub loop-line-smaller : goal.loop-line-smaller
loop-line-smaller c = c.in-Some.ensures.0.shorter

pub loop-line-preserved : goal.loop-line-preserved
loop-line-preserved c =
    let i = c.loop-line.invariant in
    let b = rw c.in-Some-2.is at c.in_ok-block.ensures in
    let pushed : c.push.new.self ≡ c.loop-line.blocks ++ c.in-Some-2.block ∷ [] = search rules in
    let counts : c.from.result * length c.accesses.result.now ≡ counted c.in-Some-2.block = search rules in
    record {
      is_open = subst (IsOpen c.args.head.scalars c.args.head.step (step_line c.args.head.step ∷ [])) (sym pushed) (IsOpen-push c.args.head.scalars c.args.head.step c.loop-line.room (step_line c.args.head.step ∷ []) c.loop-line.blocks c.in-Some-2.block i.is_open i.room_is b.0);
      room_is =
          subst (λ l. sum_by counted l + (c.loop-line.room - c.from.result * length c.accesses.result.now) ≡ 2 ^ 60) (sym pushed) (omega (arith, sum_by_push counted c.loop-line.blocks c.in-Some-2.block, i.room_is, b.0.fits, counts));
      so_far = λ bytes steps fs h same start.
          block_read bytes c.loop-line.lines c.next_with.new.self c.in-Some.line.now c.in-Some-2.block c.loop-line.blocks c.push.new.self c.loop-line.room c.args.head.scalars steps fs h (i.so_far bytes steps fs h same start) c.in-Some.ensures.0 same c.requires.low i.room_is b.0 b.1 pushed;
    }

pub new-requires : goal.new-requires
new-requires c = (open_whole c.args.head.scalars c.args.head.step (step_line c.args.head.step ∷ []) c.loop-line.blocks c.loop-line.invariant.is_open).sequence

pub returns-clause-read : goal.returns-clause-read
returns-clause-read c = λ bytes steps fs h same start.
    rw c.new.ensures (subst (λ o. Stands bytes o (Inside steps fs (Listing h c.loop-line.blocks [] []))) (sym c.in_default.ensures.0) (c.loop-line.invariant.so_far bytes steps fs h same start))

pub returns-clause-next : goal.returns-clause-next
returns-clause-next c = subst (λ (o : Cursor). BeginsNot (codes "block ") o.text) (sym c.in_default.ensures.0) c.in_default.ensures.1
