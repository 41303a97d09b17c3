-- One list of all scalars in rising order arranges them.
use Rattle.std.proofs.Common.{◌≡◌, [], ◌∷◌, ap, sym, subst, ◌∙◌}
use Rattle.std.proofs.lemmas.Result.{IfOk-weaker}
use Rattle.lay_model.specs.Arrangements.{Arranges}
use Rattle.lay_tree.specs.Tree.{all_scalars}
use Rattle.lay_greedy.proofs.Starts.{one_itself, rising_arranges}
use Rattle.lay_greedy.proofs.starting.rising_layout.Goals as goal

pub one_list-requires : goal.one_list-requires
one_list-requires c =
    let seq = c.args.seq.now in
    let is : c.new.result ≡ all_scalars seq = c.new.ensures ∙ c.in_ok-scalars.ensures
    in one_itself seq.scalars c.new.result (subst (λ list. Arranges seq.scalars (list ∷ [])) (sym is) (rising_arranges seq c.scalars-few.ensures.sequence c.requires))

pub returns-clause-arranges : goal.returns-clause-arranges
returns-clause-arranges c =
    let seq = c.args.seq.now in
    let list = c.new.result in
    let is : list ≡ all_scalars seq = c.new.ensures ∙ c.in_ok-scalars.ensures
    in IfOk-weaker c.one_list.result (λ a. a ≡ list ∷ []) (Arranges seq.scalars) (λ a h. subst (λ lists. Arranges seq.scalars lists) (sym (h ∙ ap (λ l. l ∷ []) is)) (rising_arranges seq c.scalars-few.ensures.sequence c.requires)) c.one_list.ensures
