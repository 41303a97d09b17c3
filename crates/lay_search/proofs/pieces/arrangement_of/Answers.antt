-- The lists of all signs.
use Rattle.std.proofs.Common.{◌≡◌, ◌≤◌, ◌++◌, ◌∷◌, [], List, ℕ, length, take, ap, ap₂, sym, subst, ◌∙◌}
use Rattle.std.specs.List.{concat}
use Rattle.std.proofs.lemmas.List.{take_all}
use Rattle.lay_model.specs.Arrangements.{Arranges}
use Rattle.lay_cost.specs.Parts.{node_lists, lists_of}
use Rattle.lay_node.specs.Strings.{node_of}
use Rattle.lay_node.proofs.Strung.{lists_are}
use Rattle.lay_search.proofs.pieces.arrangement_of.Goals as goal

made : (string : List ℕ) (i : ℕ) (lists : List (List ℕ)) (list : List ℕ) (new : List (List ℕ)) (last : List ℕ) → length string ≤ i → lists ≡ (node_of (take i string)).closed → list ≡ (node_of (take i string)).open_list → last ≡ list → new ≡ lists ++ (last ∷ []) → new ≡ lists_of string
made string i lists list new last le closed open_list is push = push ∙ ap₂ (λ ls l. ls ++ (l ∷ [])) closed (is ∙ open_list) ∙ ap (λ s. node_lists (node_of s)) (take_all i string le) ∙ sym (lists_are string)

pub new-requires-3 : goal.new-requires-3
new-requires-3 c =
    let e = made c.args.string.now c.loop-sign.sign-index c.loop-sign.lists.items c.loop-sign.list.items c.push-2.new.self.items c.new-2.result c.loop-sign-test.false c.loop-sign.invariant.closed c.loop-sign.invariant.open_list c.new-2.ensures c.in_ok-push-3.ensures.items in
    subst (λ ls. Arranges (length (concat ls)) ls) (sym e) c.requires

pub returns : goal.returns
returns c = c.new-3.ensures ∙ made c.args.string.now c.loop-sign.sign-index c.loop-sign.lists.items c.loop-sign.list.items c.push-2.new.self.items c.new-2.result c.loop-sign-test.false c.loop-sign.invariant.closed c.loop-sign.invariant.open_list c.new-2.ensures c.in_ok-push-3.ensures.items
