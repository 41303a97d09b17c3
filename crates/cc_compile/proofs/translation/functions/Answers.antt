use Rattle.std.proofs.Common.{map, ap, sym, subst}
use Rattle.std.specs.Prelude.{All}
use Rattle.acc_code.specs.declared.program.AccFunction.{AccFunction}
use Rattle.acc_code.specs.AccSequence.{IsInFrame}
use Rattle.acc_code.specs.AccView.{function_items_of, functions_of}
use Rattle.tree_code.specs.ProgramView.{tree_of}
use Rattle.cc_compile.proofs.LayoutLemmas.{in_memory, all_in_frames}
use Rattle.cc_compile.proofs.translation.functions.Goals as goal

pub returns-clause-same : goal.returns-clause-same
returns-clause-same c = ap (map function_items_of) c.as_slice.ensures

pub returns-clause-in_frames : goal.returns-clause-in_frames
returns-clause-in_frames c =
    let s = c.args.selection.now in
    subst (All (λ (f : AccFunction). IsInFrame (function_items_of f))) (sym c.as_slice.ensures)
    (in_memory IsInFrame s.code.functions (all_in_frames (tree_of s.tree) (functions_of s.code) c.requires.emittable))
