-- By the walk of its piece, wherever that is linked.
use Rattle.std.proofs.Common.{refl, ap, ◌∙◌}
use Rattle.c25_isa.specs.Pieces.{address_in, items_size, range_of}
use Rattle.c25_isa.specs.Walk.{Blocks}
use Rattle.image_proof.specs.frame_emit.Emitted.{function_piece}
use Rattle.lay_cost.specs.Cost.{block_cost}
use Rattle.lay_cost.specs.Placements.{placement_of}
use Rattle.image_proof.specs.ActiveSites.{parameters_of}
use Rattle.image_proof.specs.Keeping.{all_pieces}
use Rattle.image_proof.proofs.ImageCalls.{names_in, setting_in}
use Rattle.image_proof.proofs.Functions.{function_is, range_there}
use Rattle.image_proof.proofs.Runs.{placed, runs}
use Rattle.image_proof.proofs.image_walks_laws.images_walk.Goals as goal

pub returns : goal.returns
returns c = record {
  walks = λ e routines image k code g frame lists h linked fit size f.
      let p = function_piece e.plan e.step (parameters_of e) (names_in e) code g frame lists in
      let stands = function_is e routines image k code g frame lists h linked fit size f in
      let walked = runs e k code g frame lists (names_in e) h f in
      record {
        range = range_of g.name (address_in linked.place (all_pieces e routines) g.name) (items_size p.items);
        there = range_there e routines image k code g frame lists h linked fit size f;
        named = refl;
        walks = c.pieces_walk.ensures.blocks (all_pieces e routines) image linked g.name p (setting_in e code frame lists) g.body (block_cost e.step (placement_of lists)) stands walked ∙ ap Blocks (placed e k code g frame lists (names_in e) h f);
        counts = c.pieces_walk.ensures.count (all_pieces e routines) image linked g.name p (setting_in e code frame lists) g.body (block_cost e.step (placement_of lists)) stands refl walked;
      };
}
