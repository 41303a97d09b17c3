use Rattle.std.proofs.Common.{rules, ◌≡◌, ◌≢◌, ⊎_elim}
use Rattle.c25_image.specs.ImageText.{last_line}
use Rattle.c25_image.specs.ImageStops.{IsRangeOrLast}
use Rattle.c25_image.proofs.ImageLoops.{stuck_at_end, stuck_at_line, ranges_more, ranges_stop, ranges_end}
use Rattle.c25_image.proofs.reading.read_ranges.Goals as goal

pub returns-then-eq : goal.returns-then-eq
returns-then-eq c =
    let last : c.in-Some.text.now ≡ last_line = search rules in
    ranges_end c.args.bytes.now c.loop-text.rest.now c.in-Some.after.now c.in-Some.text.now c.args.count c.args.first_line c.loop-text.line c.loop-text.from c.loop-text.functions.items c.loop-text.invariant c.in-Some.ensures.1 last

pub returns-in_default-2 : goal.returns-in_default-2
returns-in_default-2 c =
    let differs : c.in-Some.text.now ≢ last_line = search rules in
    let none = rw c.in_default-2.is at c.in_ok-function.ensures in
    ranges_stop c.args.bytes.now c.loop-text.rest.now c.args.count c.args.first_line c.loop-text.line c.loop-text.from c.loop-text.functions.items c.loop-text.invariant
    (stuck_at_line IsRangeOrLast c.loop-text.rest.now c.in-Some.text.now c.in-Some.after.now c.in-Some.ensures.0 c.in-Some.ensures.1 (λ r. ⊎_elim differs (λ h. none h.0 h.1 h.2) r))

pub loop-text-preserved : goal.loop-text-preserved
loop-text-preserved c =
    let read = rw c.in-Some-2.is at c.in_ok-function.ensures in
    ranges_more c.args.bytes.now c.loop-text.rest.now c.in-Some.after.now c.in-Some.text.now c.args.count c.args.first_line c.loop-text.line c.loop-text.from c.from-first.result c.from-last.result c.loop-text.functions.items c.push.new.self.items c.in-Some-2.function c.loop-text.invariant c.in-Some.ensures.1 read.0 read.1 c.from-first.ensures c.from-last.ensures c.if-first-from.false c.if-last-first.false c.if-count-last.false c.in_ok-push.ensures.items

pub returns : goal.returns
returns c =
    ranges_stop c.args.bytes.now c.loop-text.rest.now c.args.count c.args.first_line c.loop-text.line c.loop-text.from c.loop-text.functions.items c.loop-text.invariant (stuck_at_end IsRangeOrLast c.loop-text.rest.now c.in_default.ensures)
