-- Behind a close another list is open.
use Rattle.std.proofs.Common.{◌≡◌, ◌+◌, take, drop, get_or, refl, ap, ◌∙◌, arith, ne_eqb, eq-eqb}
use Rattle.lay_node.proofs.OpenLists.{open_next, open_anew}
use Rattle.lay_node.proofs.open_list.open_begin.Goals as goal
use Rattle.lay_node.proofs.open_list.open_begin.Goals.{then-sign, else-sign}

pub loop-sign-preserved : goal.loop-sign-preserved
loop-sign-preserved c =
    let string = c.args.string.now in
    let i = c.loop-sign.sign-index in
    let sign = get_or string i 0 in
    let lt = c.loop-sign-test.true in
    elim c.if-sign.branch [
      | then-sign w ↦
          let at : c.if-sign.begin ≡ i + 1 = w.begin-is ∙ ap (λ n. n + 1) c.loop-sign.invariant.count in
          record {
            count = ap (λ n. n + 1) c.loop-sign.invariant.count;
            within = omega (arith, at);
            open_list = ap (λ b. drop b (take (i + 1) string)) at ∙ open_anew string i sign lt refl (eq-eqb sign 255 w.if-sign.true);
          }
      | else-sign w ↦
          record {
            count = ap (λ n. n + 1) c.loop-sign.invariant.count;
            within = omega (arith, w.begin-is, c.loop-sign.invariant.within);
            open_list = ap (λ b. drop b (take (i + 1) string)) w.begin-is ∙ open_next string i c.loop-sign.begin sign lt c.loop-sign.invariant.within refl (ne_eqb sign 255 w.if-sign.false) c.loop-sign.invariant.open_list;
          }
    ]
