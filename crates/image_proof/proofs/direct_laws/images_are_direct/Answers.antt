-- By the direct operands of a piece, wherever that is linked, with the words that the plan gives to its function.
use Rattle.std.proofs.Common.{◌≡◌, ℕ, List, length, sym, ap, ◌∙◌, subst}
use Rattle.std.proofs.lemmas.Option.{same_Some, slice_get_within}
use Rattle.std.specs.Prelude.{◌≤◌}
use Rattle.tree_code.specs.WordHelpers.{uses_helper}
use Rattle.tree_code.specs.WordTree.{FunctionCode}
use Rattle.acc_code.specs.AccTree.{FunctionItems}
use Rattle.image_proof.specs.acc_select.IsSelected.{object_cells, called_parameters}
use Rattle.mem_plan.specs.declared.data_plan.FramePlan.{FramePlan}
use Rattle.mem_plan.specs.Plan.{frame_of}
use Rattle.c25_isa.specs.Image.{Contents}
use Rattle.c25_isa.specs.Pieces.{Piece, Linked, PiecesFit, address_in, items_size, range_of}
use Rattle.image_proof.specs.frame_emit.Emitted.{function_piece}
use Rattle.image_proof.specs.ActiveSites.{parameters_of}
use Rattle.image_proof.specs.Emissions.{Emission, IsEmission}
use Rattle.image_proof.proofs.Frames.{FrameAt, frame_at}
use Rattle.image_proof.specs.DirectPieces.{words}
use Rattle.image_proof.specs.Keeping.{all_pieces}
use Rattle.image_proof.proofs.ImageCalls.{names_in, setting_in}
use Rattle.image_proof.specs.FunctionWalks.{IsFunctionOf}
use Rattle.image_proof.proofs.Functions.{function_is, range_there}
use Rattle.image_proof.specs.Directs.{HasDirect, own_words, place_words, given_words}
use Rattle.image_proof.proofs.Directs.{items_named, returns_kept, scratch_apart}
use Rattle.image_proof.proofs.direct_laws.images_are_direct.Goals as goal

pub returns : goal.returns
returns c =
    let framed : (e : Emission) (routines : List Piece) (image : Contents) (k : ℕ) (code : FunctionCode) (g : FunctionItems) (lists : List (List ℕ)) (start : ℕ) → IsEmission e → Linked (all_pieces e routines) image → PiecesFit (all_pieces e routines) → length image.words ≤ 65536 → IsFunctionOf e k code g (frame_of code lists start) lists
    → HasDirect e image k code (frame_of code lists start) lists =
    λ e routines image k code g lists start is linked fit size f.
    let frame = frame_of code lists start in
    let m = setting_in e code frame lists in
    let own = own_words code frame lists in
    let places = place_words e code frame in
    let given = given_words e code in
    let p = function_piece e.plan e.step (parameters_of e) (names_in e) code g frame lists in
    let emittable = (is.emittable.each k code g f.code_at f.items_at).body in
    record {
      range = range_of g.name (address_in linked.place (all_pieces e routines) g.name) (items_size p.items);
      there = range_there e routines image k code g frame lists is linked fit size f;
      direct = c.pieces_walk.ensures.direct (all_pieces e routines) image linked g.name p m g.body own places given (function_is e routines image k code g frame lists is linked fit size f) (returns_kept e is k code g lists start f)
          (c.runs_are_direct.ensures.bodies (words own places given) m g.scalars (object_cells e.code code) (called_parameters e.code code) (uses_helper code.body) g.body (scratch_apart e is k code g lists start f) emittable (items_named e is k code g lists start f));
    } in
    record {
      direct = λ e routines image is linked fit size k code g frame lists f.
          let at : FrameAt e k = frame_at e is k (slice_get_within e.code.functions k code f.code_at) in
          let same_code : at.code ≡ code = same_Some at.code code (sym at.there ∙ f.code_at) in
          let same_lists : at.lists ≡ lists = same_Some at.lists lists (sym at.arranged ∙ f.lists_at) in
          let same : frame_of code lists at.start ≡ frame =
          sym (ap (λ (x : FunctionCode). frame_of x at.lists at.start) same_code ∙ ap (λ ls. frame_of code ls at.start) same_lists) ∙ same_Some (frame_of at.code at.lists at.start) frame (sym at.framed ∙ f.frame_at) in
          subst (λ (x : FramePlan). HasDirect e image k code x lists) same (framed e routines image k code g lists at.start is linked fit size (subst (λ (x : FramePlan). IsFunctionOf e k code g x lists) (sym same) f));
    }
