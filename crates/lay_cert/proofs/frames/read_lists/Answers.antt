use Rattle.std.proofs.Common.{rules, ◌≡◌, ◌<◌, ◌≤◌, ◌++◌, ◌∷◌, [], length, ap, sym, subst, ◌∙◌, arith, length-append}
use Rattle.lay_cert.proofs.Layouts.{ListsSoFar, lists_start, list_read, list_stuck, lists_end}
use Rattle.lay_cert.proofs.frames.read_lists.Goals as goal

pub loop-line-init : goal.loop-line-init
loop-line-init c =
    let no_lists : c.new-lists.result.items ≡ [] = c.new-lists.ensures.items in
    let no_bases : c.new-bases.result.items ≡ [] = c.new-bases.ensures.items in
    record {
      few = omega (arith, ap length no_lists);
      based = ap length no_bases ∙ sym (ap length no_lists);
      so_far = λ bytes steps fs h blocks same none start.
          subst (λ l. ListsSoFar bytes steps fs h blocks l c.new-bases.result.items c.args.lines.now) (sym no_lists) (subst (λ b. ListsSoFar bytes steps fs h blocks [] b c.args.lines.now) (sym no_bases) (lists_start bytes steps fs h blocks c.args.lines.now start none));
    }

pub returns-then-len-from-clause-read : goal.returns-then-len-from-clause-read
returns-then-len-from-clause-read c = λ bytes steps fs h blocks same none start.
    let m = c.in-Some.ensures in
    let full : c.args.registers ≤ length c.loop-line.lists.items = search rules in
    rw c.fault-fault.ensures (list_stuck bytes c.loop-line.lines c.next_with.new.self c.in-Some.line.now m.1.0 c.loop-line.lists.items c.loop-line.bases.items steps fs h blocks (c.loop-line.invariant.so_far bytes steps fs h blocks same none start) m.0 m.1.1 (λ base all room fits each e. omega (arith, room, full, same)))

pub returns-in_default-2-clause-read : goal.returns-in_default-2-clause-read
returns-in_default-2-clause-read c = λ bytes steps fs h blocks same none start.
    let m = c.in-Some.ensures in
    let bad = rw c.in_default-2.is at c.in_ok-base.ensures in
    rw c.fault-fault.ensures (list_stuck bytes c.loop-line.lines c.next_with.new.self c.in-Some.line.now m.1.0 c.loop-line.lists.items c.loop-line.bases.items steps fs h blocks (c.loop-line.invariant.so_far bytes steps fs h blocks same none start) m.0 m.1.1 (λ base all room fits each e. bad base all fits each e))

pub loop-line-preserved : goal.loop-line-preserved
loop-line-preserved c =
    let i = c.loop-line.invariant in
    let room : length c.loop-line.lists.items < c.args.registers = search rules in
    let list = rw c.in-Some-2.is at c.in_ok-base.ensures in
    let put : c.push.new.self.items ≡ c.loop-line.bases.items ++ c.in-Some-2.base ∷ [] = search rules in
    let pushed : c.push-in-Some.new.self.items ≡ c.loop-line.lists.items ++ c.in-Some-2.list ∷ [] = search rules in
    record {
      few = omega (arith, room, ap length pushed, length-append c.loop-line.lists.items (c.in-Some-2.list ∷ []));
      based = omega (arith, i.based, ap length put, ap length pushed, length-append c.loop-line.bases.items (c.in-Some-2.base ∷ []), length-append c.loop-line.lists.items (c.in-Some-2.list ∷ []));
      so_far = λ bytes steps fs h blocks same none start.
          list_read bytes c.loop-line.lines c.next_with.new.self c.in-Some.line.now c.in-Some-2.base c.args.registers c.in-Some-2.list c.loop-line.lists.items c.push-in-Some.new.self.items c.loop-line.bases.items c.push.new.self.items steps fs h blocks (i.so_far bytes steps fs h blocks same none start) c.in-Some.ensures.0 same room (search rules) list pushed put;
    }

pub loop-line-smaller : goal.loop-line-smaller
loop-line-smaller c = c.in-Some.ensures.0.shorter

pub returns-clause-read : goal.returns-clause-read
returns-clause-read c = λ bytes steps fs h blocks same none start.
    lists_end bytes c.loop-line.lines c.next_with.new.self c.loop-line.lists.items c.loop-line.bases.items steps fs h blocks (c.loop-line.invariant.so_far bytes steps fs h blocks same none start) c.in_default.ensures.0 c.in_default.ensures.1
