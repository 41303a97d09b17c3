use Rattle.std.proofs.Common.{arith}
use Rattle.std.proofs.lemmas.List.{nil_from_length}
use Rattle.std.specs.Vec.Iter.{into_iter_items}
use Rattle.frame_layouts.proofs.Certifying.{one_more_frame, first_is, others_are, no_findings, no_layouts, no_plans, all_made}
use Rattle.frame_layouts.proofs.certificate.certificate_of.Goals.{in-None, in-Some+in_default, in-Some+in-Some-next+in_default-split_first}
use Rattle.frame_layouts.proofs.certificate.certificate_of.Goals as goal

pub frame-requires : goal.frame-requires
frame-requires c =
    first_is (into_iter_items c.loop-finding.finding-iterator) (into_iter_items c.next.new.self) c.in-Some.finding
    (into_iter_items c.loop-finding.arrangements) (into_iter_items c.next-in-loop-finding.new.self) c.in-Some-next.arrangement
    c.loop-finding.rest.now c.in-Some-split_first.more.now c.in-Some-split_first.plan.now
    c.in-Some.ensures.steps.0 c.in-Some-next.ensures.items c.in-Some-split_first.ensures.cases.0
    c.loop-finding.invariant.each

pub loop-finding-preserved : goal.loop-finding-preserved
loop-finding-preserved c = record {
  frames = one_more_frame (into_iter_items c.loop-finding.finding-iterator) (into_iter_items c.next.new.self) c.in-Some.finding
      (into_iter_items c.loop-finding.arrangements) (into_iter_items c.next-in-loop-finding.new.self) c.in-Some-next.arrangement
      c.loop-finding.rest.now c.in-Some-split_first.more.now c.in-Some-split_first.plan.now
      c.in-Some.ensures.steps.0 c.in-Some-next.ensures.items c.in-Some-split_first.ensures.cases.0
      c.loop-finding.frames.items c.push.new.self.items _ c.in_ok-frame.field-0 c.in_ok-frame.ensures c.in_ok-push.ensures.items c.loop-finding.invariant.frames;
  each = others_are (into_iter_items c.loop-finding.finding-iterator) (into_iter_items c.next.new.self) c.in-Some.finding
      (into_iter_items c.loop-finding.arrangements) (into_iter_items c.next-in-loop-finding.new.self) c.in-Some-next.arrangement
      c.loop-finding.rest.now c.in-Some-split_first.more.now c.in-Some-split_first.plan.now
      c.in-Some.ensures.steps.0 c.in-Some-next.ensures.items c.in-Some-split_first.ensures.cases.0
      c.loop-finding.invariant.each;
}

pub returns : goal.returns
returns c =
    let ys = into_iter_items c.loop-finding.finding-iterator in
    let ms = into_iter_items c.loop-finding.arrangements in
    let qs = c.loop-finding.rest.now in
    all_made c.loop-finding.frames.items _ _
    (elim c.match-next.branch [
      | in-None w ↦ no_findings ys ms qs (nil_from_length ys (omega (arith, w.in-None.ensures.steps.0, c.loop-finding.finding-iterator.rest.ok)))
      | in-Some+in_default w ↦ no_layouts ys ms qs (nil_from_length ms (omega (arith, w.in_default.ensures.cases.0)))
      | in-Some+in-Some-next+in_default-split_first w ↦ no_plans ys ms qs (nil_from_length qs (omega (arith, w.in_default-split_first.ensures.cases)))
    ])
    c.loop-finding.invariant.frames
