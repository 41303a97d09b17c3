use Rattle.std.proofs.Common.{◌≡◌, ◌≤◌, ◌∙◌, map, ap, sym, subst}
use Rattle.std.specs.Prelude.{IfOk, IfErr, length}
use Rattle.c25_isa.specs.Image.{Contents}
use Rattle.c25_isa.specs.Pieces.{piece_of, Linked, PiecesFit}
use Rattle.c25_link.proofs.Images.{all_fit}
use Rattle.c25_link.specs.Linking.{linked_image, pieces_words}
use Rattle.tree_code.specs.ProgramView.{tree_of}
use Rattle.image_proof.specs.acc_select.IsSelected.{IsEmittable}
use Rattle.c25_link.specs.Linking.{AreLinkable}
use Rattle.cc_compile.specs.TranslationFaults.{SaysOfPieces}
use Rattle.cc_compile.proofs.LinkLemmas.{are_linkable}
use Rattle.frame_layouts.specs.Frames.{jobs_in}
use Rattle.acc_code.specs.AccView.{functions_of}
use Rattle.cc_compile.specs.Images.{jobs_at}
use Rattle.cc_compile.proofs.AgreementLemmas.{always_ok}
use Rattle.cc_compile.proofs.LayoutLemmas.{one_each}
use Rattle.cc_compile.proofs.translation.image_of.Goals as goal

pub linked-requires : goal.linked-requires
linked-requires c =
    let s = c.args.selection.now in
    let planned = c.args.planned.now in
    let p = tree_of s.tree in
    let emittable = subst (IsEmittable p) c.requires.selection.code c.requires.selection.emittable in
    let each = one_each (jobs_in planned.layouts) (functions_of s.code) c.requires.planned.jobs ∙ ap length c.requires.selection.code in
    subst AreLinkable (sym (ap (map piece_of) c.deref.ensures.value ∙ c.in_ok-pieces.ensures))
    (are_linkable (jobs_at c.args.step (jobs_in planned.layouts)) p planned.plan s.tree.well_formed emittable each c.requires.planned.plan c.helper_pieces_fit.ensures.marks c.helper_pieces_fit.ensures.calls)

pub returns-clause-image : goal.returns-clause-image
returns-clause-image c =
    subst (λ ps. IfOk c.linked.result (λ (image : Contents). image ≡ linked_image ps)) (ap (map piece_of) c.deref.ensures.value ∙ c.in_ok-pieces.ensures) c.linked.ensures.image

pub returns-clause-linked : goal.returns-clause-linked
returns-clause-linked c =
    subst (λ ps. IfOk c.linked.result (Linked ps)) (ap (map piece_of) c.deref.ensures.value ∙ c.in_ok-pieces.ensures) c.linked.ensures.linked

pub returns-clause-fits : goal.returns-clause-fits
returns-clause-fits c =
    subst (λ ps. IfOk c.linked.result (λ (_ : Contents). pieces_words ps ≤ 65536)) (ap (map piece_of) c.deref.ensures.value ∙ c.in_ok-pieces.ensures) c.linked.ensures.fits

pub returns-clause-ranges : goal.returns-clause-ranges
returns-clause-ranges c = always_ok c.linked.result (subst PiecesFit c.in_ok-pieces.ensures (all_fit c.in_ok-pieces.pieces.items))

pub returns-clause-refused : goal.returns-clause-refused
returns-clause-refused c =
    subst (λ ps. IfErr c.linked.result (SaysOfPieces ps)) (ap (map piece_of) c.deref.ensures.value ∙ c.in_ok-pieces.ensures) c.linked.ensures.refused
