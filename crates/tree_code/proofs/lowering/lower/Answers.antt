use Rattle.std.proofs.Common.{◌≡◌, refl, subst, map, All, rules}
use Rattle.c_tree.specs.View as typed
use Rattle.c_tree.specs.View.{object_of}
use Rattle.c_tree.specs.ProgramView.{program_of}
use Rattle.tree_code.specs.Lowered.{lowered_function}
use Rattle.c_tree.specs.TypedOfWords.{StartsWithWords, FunctionHasWords}
use Rattle.tree_code.specs.WordView.{function_code_of}
use Rattle.tree_code.proofs.CodeLemmas.{code_of, few_scalars}
use Rattle.tree_code.proofs.lowering.lower.Goals as goal

pub of_parts-requires : goal.of_parts-requires
of_parts-requires c =
    let statics : map object_of c.in_ok-statics.statics ≡ map object_of c.args.program.now.statics = search rules in
    let functions : map function_code_of c.in_ok-functions.functions ≡ map lowered_function (map typed.function_of c.args.program.now.functions) = search rules in
    code_of (program_of c.args.program.now) (map object_of c.in_ok-statics.statics) (map function_code_of c.in_ok-functions.functions) statics functions c.args.program.now.well_formed

pub functions-requires : goal.functions-requires
functions-requires c =
    few_scalars (program_of c.args.program.now) c.args.program.now.functions c.as_slice.result.now refl c.as_slice.ensures c.args.program.now.well_formed

pub returns-clause-words : goal.returns-clause-words
returns-clause-words c = record {
  statics = subst (λ l. StartsWithWords (map object_of l)) c.as_slice-2.ensures c.in_ok-statics.ensures.words;
  functions = subst (λ l. All FunctionHasWords (map typed.function_of l)) c.as_slice.ensures c.in_ok-functions.ensures.words;
}
