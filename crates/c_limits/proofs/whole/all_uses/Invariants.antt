use Rattle.std.proofs.Common.{◌≡◌, map, take, vec_items}
use Rattle.c_tree.specs.View.{stmt_of}
use Rattle.c_tree.specs.Uses.{statement_uses}
use Rattle.c_limits.proofs.whole.all_uses.Given as goal

abbrev pub invariant-loop-f : goal.invariant-loop-f
invariant-loop-f l = map vec_items l.all.items ≡ map (λ f. statement_uses (stmt_of f.body.value)) (take l.f-index l.functions)
