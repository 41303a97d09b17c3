use Rattle.std.proofs.Common.{◌≤◌, ◌∙◌, length, map, ap, arith, subst, sym}
use Rattle.std.specs.Prelude.{All}
use Rattle.std.proofs.lemmas.List.{length-map}
use Rattle.c_tree.specs.c_syntax.Lexes.{most_tokens}
use Rattle.c_units.specs.Files.{AreFiles}
use Rattle.c_units.specs.Views.{file_of, tree_of}
use Rattle.c_units.proofs.JoinedLemmas.{as_few, all_few, text_joined}
use Rattle.c_units.proofs.joining.first_text.Goals as goal

pub check_all-requires-clause-few : goal.check_all-requires-clause-few
check_all-requires-clause-few c =
    let are = subst (AreFiles (map (λ s. s.items) c.args.sources.now)) (sym (c.in_ok-named.ensures.files ∙ ap (map file_of) c.deref.ensures.value)) c.in_ok-files.ensures.files in
    omega (arith, ap length c.deref-2.ensures.value, as_few (λ s. s.items) tree_of c.args.sources.now c.in_ok-named.named.items are, c.requires.few)

pub check_all-requires-clause-short : goal.check_all-requires-clause-short
check_all-requires-clause-short c =
    let are = subst (AreFiles (map (λ s. s.items) c.args.sources.now)) (sym (c.in_ok-named.ensures.files ∙ ap (map file_of) c.deref.ensures.value)) c.in_ok-files.ensures.files in
    subst (All (λ f. length (tree_of f).tokens ≤ most_tokens)) (sym c.deref-2.ensures.value) (all_few tree_of (map (λ s. s.items) c.args.sources.now) c.in_ok-named.named.items are)

pub joined-requires-clause-few : goal.joined-requires-clause-few
joined-requires-clause-few c =
    let are = subst (AreFiles (map (λ s. s.items) c.args.sources.now)) (sym (c.in_ok-named.ensures.files ∙ ap (map file_of) c.deref.ensures.value)) c.in_ok-files.ensures.files in
    omega (arith, ap length c.deref-3.ensures.value, as_few (λ s. s.items) tree_of c.args.sources.now c.in_ok-named.named.items are, c.requires.few)

pub returns-clause-text : goal.returns-clause-text
returns-clause-text c =
    let are = subst (AreFiles (map (λ s. s.items) c.args.sources.now)) (sym (c.in_ok-named.ensures.files ∙ ap (map file_of) c.deref.ensures.value)) c.in_ok-files.ensures.files in
    text_joined (map (λ s. s.items) c.args.sources.now) (map tree_of c.in_ok-named.named.items) _ (omega (arith, length-map c.args.sources.now (λ s. s.items), c.requires.few)) are
    (rw c.deref-2.ensures.value at c.in_ok-check_all.ensures.none) (rw c.deref-3.ensures.value at c.in_ok-joined.ensures)
