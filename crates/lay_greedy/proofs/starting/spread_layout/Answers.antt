-- Each register has scalars below 64, and together they are arranged.
use Rattle.std.proofs.Common.{◌≡◌, ◌<◌, List, ℕ, map, ap, sym, subst, ◌∙◌}
use Rattle.std.specs.Prelude.{All}
use Rattle.lay_model.specs.Arrangements.{Arranges}
use Rattle.lay_tree.specs.Greedy.{filled, greedy_list, spread}
use Rattle.lay_greedy.proofs.Starts.{itself, spread_arranges, spread_lists_small}
use Rattle.lay_greedy.proofs.starting.spread_layout.Goals as goal

pub greedy_lists-requires : goal.greedy_lists-requires
greedy_lists-requires c =
    subst (λ lists. All (λ (list : List ℕ). All (λ s. s < 64) list) lists) (sym (c.deref.ensures.value ∙ c.in_ok-spread.ensures)) (spread_lists_small c.args.registers c.args.seq.now c.requires c.scalars-few.ensures.sequence.few)

pub new-requires : goal.new-requires
new-requires c =
    let seq = c.args.seq.now in
    let is : c.in_ok-greedy_lists.field-0.items ≡ map (greedy_list seq) (filled (spread c.args.registers seq)) = c.in_ok-greedy_lists.ensures ∙ ap (λ lists. map (greedy_list seq) (filled lists)) (c.deref.ensures.value ∙ c.in_ok-spread.ensures)
    in itself seq.scalars c.in_ok-greedy_lists.field-0.items (subst (λ lists. Arranges seq.scalars lists) (sym is) (spread_arranges c.args.registers seq c.scalars-few.ensures.sequence c.requires))

pub returns-clause-arranges : goal.returns-clause-arranges
returns-clause-arranges c =
    let seq = c.args.seq.now in
    let is : c.in_ok-greedy_lists.field-0.items ≡ map (greedy_list seq) (filled (spread c.args.registers seq)) = c.in_ok-greedy_lists.ensures ∙ ap (λ lists. map (greedy_list seq) (filled lists)) (c.deref.ensures.value ∙ c.in_ok-spread.ensures)
    in subst (λ lists. Arranges seq.scalars lists) (sym (c.new.ensures ∙ is)) (spread_arranges c.args.registers seq c.scalars-few.ensures.sequence c.requires)
