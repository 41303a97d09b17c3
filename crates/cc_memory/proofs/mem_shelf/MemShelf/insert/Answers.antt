use Rattle.std.specs.Prelude.{is_ok}
use Rattle.std.proofs.Common.{Some, sym, ap, ◌∙◌, refl}
use Rattle.cc_memory.specs.Held.{held}
use Rattle.cc_memory.proofs.HeldLemmas.{put_told, put_others, put_names, pushed_told, pushed_others, names_behind_push}
use Rattle.cc_memory.proofs.mem_shelf.MemShelf.insert.Goals as goal

pub invariant_of-self : goal.invariant_of-self
invariant_of-self c = record {
  names_differ = put_names _ _ _ _ c.index_mut.result.now _ c.deref.ensures.value c.in-Some.ensures c.index_mut.ensures.value refl c.args.self.now.names_differ;
}

pub returns-in-Some-clause-told : goal.returns-in-Some-clause-told
returns-in-Some-clause-told c =
    put_told _ _ _ _ c.index_mut.result.now _ c.deref.ensures.value c.in-Some.ensures c.index_mut.ensures.value refl
    ∙ ap Some (c.in_ok-copy.ensures.items_if_clones_equal (λ x y e. e))

pub returns-in-Some-clause-others : goal.returns-in-Some-clause-others
returns-in-Some-clause-others c =
    put_others _ _ _ _ c.index_mut.result.now _ c.deref.ensures.value c.in-Some.ensures c.index_mut.ensures.value refl

pub invariant_of-self-2 : goal.invariant_of-self-2
invariant_of-self-2 c = record {
  names_differ = names_behind_push (is_ok c.push.result) _ _ c.args.name.now _ c.push.ensures.items (ap (λ l. held l c.args.name.now) (sym c.deref.ensures.value) ∙ c.in_default.ensures) c.in_ok-name.ensures c.args.self.now.names_differ;
}

pub returns-clause-told : goal.returns-clause-told
returns-clause-told c =
    let none = ap (λ l. held l c.args.name.now) (sym c.deref.ensures.value) ∙ c.in_default.ensures in
    ap (λ l. held l c.args.name.now) c.in_ok-push.ensures.items
    ∙ pushed_told c.args.self.now.files.items c.args.name.now _ none c.in_ok-name.ensures
    ∙ ap Some (c.in_ok-copy.ensures.items_if_clones_equal (λ x y e. e))

pub returns-clause-others : goal.returns-clause-others
returns-clause-others c = λ m ne. ap (λ l. held l m) c.in_ok-push.ensures.items
    ∙ pushed_others c.args.self.now.files.items c.args.name.now _ c.in_ok-name.ensures m ne
