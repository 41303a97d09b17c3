use Rattle.std.proofs.Common.{refl, ap, ◌∙◌, map}
use Rattle.acc_select.specs.Selected.{selected_function}
use Rattle.acc_select.proofs.SelectionLemmas.{code_emittable, code_in_frame, few_cells, few_temporaries}
use Rattle.tree_code.specs.ProgramView.{tree_of}
use Rattle.tree_code.specs.WordView.{function_code_of}
use Rattle.acc_select.proofs.selection.select.Goals as goal

pub functions-requires-clause-temporaries : goal.functions-requires-clause-temporaries
functions-requires-clause-temporaries c =
    few_temporaries (tree_of c.args.program.now) c.args.program.now.functions c.as_slice.result.now refl c.as_slice.ensures c.args.program.now.well_formed

pub functions-requires-clause-cells : goal.functions-requires-clause-cells
functions-requires-clause-cells c =
    few_cells (tree_of c.args.program.now) c.args.program.now.functions c.as_slice.result.now refl c.as_slice.ensures c.args.program.now.well_formed

pub returns-clause-emittable : goal.returns-clause-emittable
returns-clause-emittable c =
    code_emittable (tree_of c.args.program.now) _ (c.in_ok-functions.ensures ∙ ap (λ l. map selected_function (map function_code_of l)) c.as_slice.ensures) c.args.program.now.well_formed

pub returns-clause-in_frame : goal.returns-clause-in_frame
returns-clause-in_frame c =
    code_in_frame (tree_of c.args.program.now) _ (c.in_ok-functions.ensures ∙ ap (λ l. map selected_function (map function_code_of l)) c.as_slice.ensures) c.args.program.now.well_formed
