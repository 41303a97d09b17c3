use Rattle.std.proofs.Common.{map, ap, ◌∙◌}
use Rattle.std.specs.Prelude.{All}
use Rattle.c_tree.specs.Placed.{FunctionIsPlaced}
use Rattle.c_tree.specs.TypedOfWords.{ProgramHasWords}
use Rattle.c_tree.specs.View.{function_of, object_of}
use Rattle.c_tree.specs.WellFormedProgram.{IsProgram}
use Rattle.c_types.specs.View.{made_of}
use Rattle.c_types.proofs.ProgramLemmas.{of_parts}
use Rattle.c_types.proofs.program.program.Goals as goal

pub invariant_of-result : goal.invariant_of-result
invariant_of-result c =
    let made = made_of c.args.frames.items c.args.contents
    in let objects = ap (map object_of) c.new.ensures ∙ c.in_ok-objects.ensures
    in let functions = ap (map function_of) c.new-2.ensures ∙ c.in_ok-functions.ensures
    in record {
      well_formed = ∣ of_parts IsProgram made objects functions c.requires.well_formed ∣₁;
      placed = ∣ of_parts (λ p. All FunctionIsPlaced p.functions) made objects functions c.requires.placed ∣₁;
      words = ∣ of_parts ProgramHasWords made objects functions c.requires.words ∣₁;
    }
