use Rattle.std.proofs.Common.{◌≡◌, ◌∙◌, ap, sym}
use Rattle.c25_walk.specs.Marks.{targets_of}
use Rattle.c25_walk.specs.Walking.{walking_of, behind_one, cut_where}
use Rattle.c25_walk.proofs.Steps.{one_behind, walked_more, unknown_more, count_more}
use Rattle.c25_walk.proofs.walking.walk_along.Goals as goal
use Rattle.c25_walk.proofs.walking.walk_along.Goals.{then-is_cut_behind+in_ok-cut, else-is_cut_behind}

pub loop-placed-preserved : goal.loop-placed-preserved
loop-placed-preserved c =
    let code = c.args.code.now in
    let targets = targets_of code in
    let i = c.loop-placed.placed-index in
    let p = c.placed-item.result in
    let w = walking_of c.loop-placed.walker in
    let w1 = walking_of c.walk_over.new.self in
    let w2 = walking_of c.if-is_cut_behind.walker in
    let cut = c.is_cut_behind.ensures targets c.requires.marked in
    let there : w2 ≡ behind_one targets w p = elim c.if-is_cut_behind.branch [
      | then-is_cut_behind+in_ok-cut v ↦ one_behind targets w w1 w2 p c.is_cut_behind.result c.in_ok-walk_over.ensures.walked cut (ap walking_of v.walker-is ∙ v.in_ok-cut.ensures ∙ ap (λ b. cut_where b w1) (sym v.if-is_cut_behind.true))
      | else-is_cut_behind v ↦ one_behind targets w w1 w2 p c.is_cut_behind.result c.in_ok-walk_over.ensures.walked cut (ap walking_of v.walker-is ∙ ap (λ b. cut_where b w1) (sym v.if-is_cut_behind.false))
    ] in
    record {
      walked = walked_more targets w w2 code i p c.loop-placed-test.true c.placed-item.is there ∙ c.loop-placed.invariant.walked;
      unknown = unknown_more targets w w2 code i p c.loop-placed-test.true c.placed-item.is there c.in_ok-walk_over.ensures.known ∙ c.loop-placed.invariant.unknown;
      few = count_more targets w w2 p i there c.loop-placed.invariant.few;
    }
