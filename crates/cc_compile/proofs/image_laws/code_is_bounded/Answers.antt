use Rattle.std.proofs.Common.{◌≤◌, ◌∙◌, ◌+◌, length, arith, refl, ap, sym, subst}
use Rattle.c25_isa.specs.Image.{Contents}
use Rattle.c25_link.specs.Linking.{name_addresses}
use Rattle.c25_link.proofs.Images.{pieces_length}
use Rattle.tree_code.specs.Lowered.{lowered_program}
use Rattle.image_proof.specs.ir_semantics.SourceWeights.{source_weight}
use Rattle.cc_compile.specs.Images.{all_pieces, layouts, own_pieces}
use Rattle.cc_compile.proofs.image_laws.code_is_bounded.Goals as goal

pub returns-clause-image : goal.returns-clause-image
returns-clause-image c = λ o t a known h.
    let p = lowered_program t in
    let few = c.code_fits_its_weight.ensures.program t h.plan (layouts o) o.step (own_pieces o p h.plan) known refl in
    let long = ap (λ (i : Contents). length i.words) h.is ∙ pieces_length (name_addresses (all_pieces o p h.plan)) 0 (all_pieces o p h.plan) in
    subst (λ n. n ≤ 1000 + source_weight t) (sym long) (omega (arith, few))

pub returns-clause-full : goal.returns-clause-full
returns-clause-full c = λ o t n known h.
    let p = lowered_program t in
    let few = c.code_fits_its_weight.ensures.program t h.plan (layouts o) o.step (own_pieces o p h.plan) known refl in
    subst (λ m. m ≤ 1000 + source_weight t) (sym h.is) (omega (arith, few))
