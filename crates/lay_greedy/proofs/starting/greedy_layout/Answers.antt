-- One greedy list of all scalars arranges them.
use Rattle.std.proofs.Common.{◌≡◌, ◌<◌, [], ◌∷◌, ap, sym, subst, ◌∙◌}
use Rattle.std.specs.Prelude.{All}
use Rattle.std.proofs.lemmas.Result.{IfOk-weaker}
use Rattle.lay_model.specs.Arrangements.{Arranges}
use Rattle.lay_tree.specs.Tree.{all_scalars}
use Rattle.lay_tree.specs.Greedy.{greedy_list}
use Rattle.lay_greedy.proofs.Spreads.{all_small}
use Rattle.lay_greedy.proofs.Starts.{one_itself, greedy_arranges}
use Rattle.lay_greedy.proofs.starting.greedy_layout.Goals as goal

pub greedy_list-requires : goal.greedy_list-requires
greedy_list-requires c = subst (λ scalars. All (λ s. s < 64) scalars) (sym (c.deref.ensures.value ∙ c.in_ok-scalars.ensures)) (all_small c.args.seq.now c.scalars-few.ensures.sequence.few)

pub one_list-requires : goal.one_list-requires
one_list-requires c =
    let seq = c.args.seq.now in
    let is : c.in_ok-greedy_list.field-0 ≡ greedy_list seq (all_scalars seq) = c.in_ok-greedy_list.ensures ∙ ap (greedy_list seq) (c.deref.ensures.value ∙ c.in_ok-scalars.ensures)
    in one_itself seq.scalars c.in_ok-greedy_list.field-0 (subst (λ list. Arranges seq.scalars (list ∷ [])) (sym is) (greedy_arranges seq c.scalars-few.ensures.sequence c.requires))

pub returns-clause-lists : goal.returns-clause-lists
returns-clause-lists c =
    let seq = c.args.seq.now in
    let list = c.in_ok-greedy_list.field-0 in
    let is : list ≡ greedy_list seq (all_scalars seq) = c.in_ok-greedy_list.ensures ∙ ap (greedy_list seq) (c.deref.ensures.value ∙ c.in_ok-scalars.ensures)
    in IfOk-weaker c.one_list.result (λ a. a ≡ list ∷ []) (λ a. a ≡ greedy_list seq (all_scalars seq) ∷ []) (λ a h. h ∙ ap (λ l. l ∷ []) is) c.one_list.ensures

pub returns-clause-arranges : goal.returns-clause-arranges
returns-clause-arranges c =
    let seq = c.args.seq.now in
    let list = c.in_ok-greedy_list.field-0 in
    let is : list ≡ greedy_list seq (all_scalars seq) = c.in_ok-greedy_list.ensures ∙ ap (greedy_list seq) (c.deref.ensures.value ∙ c.in_ok-scalars.ensures)
    in IfOk-weaker c.one_list.result (λ a. a ≡ list ∷ []) (Arranges seq.scalars) (λ a h. subst (λ lists. Arranges seq.scalars lists) (sym (h ∙ ap (λ l. l ∷ []) is)) (greedy_arranges seq c.scalars-few.ensures.sequence c.requires)) c.one_list.ensures
