use Rattle.std.proofs.Common.{rules, ◌≡◌, arith}
use Rattle.lay_lines.specs.BlockText.{step_line}
use Rattle.lay_lines.proofs.Blocks.{step_injective}
use Rattle.lay_lines.proofs.fields.read_step.Goals as goal
use Rattle.lay_lines.proofs.fields.read_step.Goals.{then-step-eq0-via-then-step-eq0, then-step-eq0-via-else-step-eq0+then-step-from}

pub returns-then-step-eq0 : goal.returns-then-step-eq0
returns-then-step-eq0 c = λ d low high e.
    let text : c.args.line.now ≡ step_line c.in_ok-step.step = search rules in
    let same : c.in_ok-step.step ≡ d = step_injective c.in_ok-step.step d (search rules) (omega arith) (cc (text, e)) in
    elim c.then-step-eq0.branch [ then-step-eq0-via-then-step-eq0 w ↦ omega (arith, same) | then-step-eq0-via-else-step-eq0+then-step-from w ↦ omega (arith, same) ]
