use Rattle.std.proofs.Common.{rules, ◌≡◌, ◌≢◌, ◌-◌, true, false, min, length, [], sym, ap, subst, ◌∙◌, arith}
use Rattle.lay_cert.specs.CertReading.{Inside, Marking, marked}
use Rattle.lay_cert.specs.LineReading.{Stands}
use Rattle.lay_cert.proofs.Steps.{no_line_here, mark_line_stuck}
use Rattle.lay_cert.proofs.Layouts.{marked_none, mark_line_read}
use Rattle.lay_cert.proofs.frames.read_mark_lines.Goals as goal

pub loop-left-init : goal.loop-left-init
loop-left-init c = λ bytes steps fs f start.
    let none : c.in_ok-marks.marks.items ≡ [] = search rules in
    subst (λ g. Stands bytes c.args.lines.now (Inside steps fs (Marking g c.args.count))) (sym (ap (marked f) none ∙ marked_none f)) start

pub returns-in_default : goal.returns-in_default
returns-in_default c = λ bytes steps fs f start.
    rw c.next_fault-fault.ensures (no_line_here bytes c.loop-left.lines steps fs (Marking (marked f c.loop-left.marks.items) c.loop-left.left) (c.loop-left.invariant bytes steps fs f start) c.in_default.ensures.1)

pub returns-then-not-full : goal.returns-then-not-full
returns-then-not-full c = λ bytes steps fs f start.
    let other : length c.in-Some.line.now ≢ min c.loop-left.left 64 = search rules in
    rw c.next_fault-fault.ensures (mark_line_stuck bytes c.loop-left.lines c.next.new.self c.in-Some.line.now c.loop-left.left steps fs (marked f c.loop-left.marks.items) (omega arith) (c.loop-left.invariant bytes steps fs f start) c.in-Some.ensures (λ marks full e. other full))

pub returns-then-not-all : goal.returns-then-not-all
returns-then-not-all c = λ bytes steps fs f start.
    let is : c.in_ok-all.all ≡ false = search rules in
    let none = rw is at c.in_ok-all.ensures in
    rw c.next_fault-fault.ensures (mark_line_stuck bytes c.loop-left.lines c.next.new.self c.in-Some.line.now c.loop-left.left steps fs (marked f c.loop-left.marks.items) (omega arith) (c.loop-left.invariant bytes steps fs f start) c.in-Some.ensures (λ marks full e. none marks e))

pub loop-left-preserved : goal.loop-left-preserved
loop-left-preserved c = λ bytes steps fs f start.
    let is : c.in_ok-all.all ≡ true = search rules in
    let joins = rw is at c.in_ok-all.ensures in
    let full : length c.in-Some.line.now ≡ min c.loop-left.left 64 = search rules in
    mark_line_read bytes c.loop-left.lines c.next.new.self c.in-Some.line.now c.loop-left.left (c.loop-left.left - c.min-in_line.result) c.loop-left.marks.items c.push_marks.new.marks.items steps fs f (omega arith) (c.loop-left.invariant bytes steps fs f start) c.in-Some.ensures full (search rules) joins

pub returns : goal.returns
returns c = λ bytes steps fs f start.
    let none : c.loop-left.left ≡ 0 = omega arith in
    subst (λ k. Stands bytes c.loop-left.lines (Inside steps fs (Marking (marked f c.loop-left.marks.items) k))) none (c.loop-left.invariant bytes steps fs f start)
