-- The string has the lists with the scalar.
use Rattle.std.proofs.Common.{◌≡◌, ◌<◌, ap, sym, subst, ◌∙◌, arith}
use Rattle.std.proofs.lemmas.List.Elements.{All-weaker}
use Rattle.std.specs.List.{concat}
use Rattle.lay_cost.specs.Parts.{IsString, lists_of, part_cost_of}
use Rattle.lay_greedy.specs.Spread.{with_scalar_at, string_of}
use Rattle.lay_greedy.proofs.Strings.{string_is, string_lists}
use Rattle.lay_greedy.proofs.Spreads.{are_more}
use Rattle.lay_greedy.proofs.spread.cost_at.Goals as goal

pub part_cost-requires : goal.part_cost-requires
part_cost-requires c =
    let n = c.args.seq.now.scalars in
    let more = with_scalar_at c.args.scalar c.args.lists.now c.args.register in
    let are = are_more n c.args.scalar c.args.register c.args.lists.now c.requires.register c.requires.next c.requires.scalar in
    let is : c.deref-2.result.now ≡ string_of more = c.deref-2.ensures.value ∙ (c.in_ok-string.ensures ∙ ap string_of (c.deref.ensures.value ∙ c.in_ok-lists.ensures))
    in subst (λ string. IsString n string) (sym is) (string_is n more c.scalars-few.ensures.sequence.few are.below are.some are.once)

pub returns : goal.returns
returns c =
    let n = c.args.seq.now.scalars in
    let more = with_scalar_at c.args.scalar c.args.lists.now c.args.register in
    let are = are_more n c.args.scalar c.args.register c.args.lists.now c.requires.register c.requires.next c.requires.scalar in
    let is : c.deref-2.result.now ≡ string_of more = c.deref-2.ensures.value ∙ (c.in_ok-string.ensures ∙ ap string_of (c.deref.ensures.value ∙ c.in_ok-lists.ensures)) in
    let few = c.scalars-few.ensures.sequence.few in
    let small = All-weaker (λ s. s < n) (λ s. s < 64) (λ s lt. omega (arith, lt, few)) (concat more) are.below
    in c.part_cost.ensures ∙ ap (part_cost_of c.args.seq.now) (ap lists_of is ∙ string_lists more small are.some)
