-- By whether the byte stands somewhere.
use Rattle.std.proofs.Common.{sym, ◌==◌}
use Rattle.c25_asm.proofs.CutLemmas.{before_cut, behind_cut, before_none, behind_none, same_mark}
use Rattle.c25_asm.proofs.cuts.cut.Goals as goal

pub returns-in-Some-clause-front : goal.returns-in-Some-clause-front
returns-in-Some-clause-front c = before_cut (λ b. b == c.args.mark) c.args.text.now c.in-Some.front.now c.args.mark c.in-Some.back.now c.in-Some.ensures.0 (same_mark c.args.mark) c.in-Some.ensures.1

pub returns-in-Some-clause-back : goal.returns-in-Some-clause-back
returns-in-Some-clause-back c = behind_cut (λ b. b == c.args.mark) c.args.text.now c.in-Some.front.now c.args.mark c.in-Some.back.now c.in-Some.ensures.0 (same_mark c.args.mark) c.in-Some.ensures.1

pub returns-in-None-clause-front : goal.returns-in-None-clause-front
returns-in-None-clause-front c = sym (before_none (λ b. b == c.args.mark) c.args.text.now c.in-None.ensures)

pub returns-in-None-clause-back : goal.returns-in-None-clause-back
returns-in-None-clause-back c = sym (behind_none (λ b. b == c.args.mark) c.args.text.now c.in-None.ensures)
