use Rattle.std.proofs.Common.{rules, ◌++◌, arith}
use Rattle.std.specs.Prelude.{decimal}
use Rattle.lay_cert.proofs.Places.{not_next_lacking, not_next, number_same}
use Rattle.lay_cert.proofs.lines.Lines.number.Goals as goal

pub returns-in_default : goal.returns-in_default
returns-in_default c = (c.next_fault-fault.ensures, λ n low high. not_next_lacking (c.args.word.now ++ decimal n) c.args.self.now.text c.in_default.ensures.1)

pub returns-in_default-number_behind : goal.returns-in_default-number_behind
returns-in_default-number_behind c =
    let m = c.in-Some.ensures in
    (c.next_fault-fault.ensures, λ n low high. not_next (c.args.word.now ++ decimal n) c.args.self.now.text c.in-Some.line.now c.next.new.self.text m.whole m.cut (c.in_default-number_behind.ensures n (omega (arith, c.ranges.high))))

pub returns-then-number-low : goal.returns-then-number-low
returns-then-number-low c =
    let m = c.in-Some.ensures in (
      c.next_fault-fault.ensures,
      λ n low high. not_next (c.args.word.now ++ decimal n) c.args.self.now.text c.in-Some.line.now c.next.new.self.text m.whole m.cut (λ e.
          let same = number_same c.args.word.now c.in-Some.line.now c.in-Some-number_behind.number n (search rules) (omega (arith, c.ranges.high)) c.in-Some-number_behind.ensures e in
          omega arith),
    )

pub returns-then-number-high : goal.returns-then-number-high
returns-then-number-high c =
    let m = c.in-Some.ensures in (
      c.next_fault-fault.ensures,
      λ n low high. not_next (c.args.word.now ++ decimal n) c.args.self.now.text c.in-Some.line.now c.next.new.self.text m.whole m.cut (λ e.
          let same = number_same c.args.word.now c.in-Some.line.now c.in-Some-number_behind.number n (search rules) (omega (arith, c.ranges.high)) c.in-Some-number_behind.ensures e in
          omega arith),
    )
