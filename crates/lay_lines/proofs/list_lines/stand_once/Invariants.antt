use Rattle.std.proofs.Common.{◌≡◌, ℕ, ◌<◌, ◌==◌, count_by}
use Rattle.lay_lines.proofs.list_lines.stand_once.Given as goal

abbrev pub invariant-loop-scalar : goal.invariant-loop-scalar
invariant-loop-scalar l = (s : ℕ) → s < l.scalar → count_by (λ x. x == s) l.all ≡ 1
