use Rattle.c_syntax.specs.SyntaxView.{unit_of}
use Rattle.c_tree.specs.ProgramView.{program_of}
use Rattle.std.proofs.Common.{subst}
use Rattle.c_rules.specs.Answers.{Refuses}
use Rattle.c_rules.specs.Faults.{Says, fault_of}
use Rattle.c_rules.specs.Units.{typed_unit}
use Rattle.c_types.proofs.ProgramLemmas.{refusal_says, says_source, typed_source}
use Rattle.c_limits.proofs.WholeLemmas.{fault_says}
use Rattle.c_types.proofs.ProgramLemmas.{functions_counted, made_is_formed, made_is_typed}
use Rattle.c_types.proofs.program.check.Goals as goal

pub frames_of-requires : goal.frames_of-requires
frames_of-requires c =
    functions_counted c.args.unit.now c.in_ok-file.file c.externals.ensures.externals c.in_ok-file.ensures c.deref.ensures.value c.externals.ensures.unit.limits

pub program-requires : goal.program-requires
program-requires c =
    let formed = made_is_formed c.args.unit.now c.in_ok-file.file c.in_ok-frames.frames.items c.externals.ensures.externals c.in_ok-file.ensures c.deref.ensures.value
    c.in_ok-frames.ensures.whole c.in_ok-frames.ensures.frames c.contents.ensures c.externals.ensures.unit.names c.externals.ensures.unit.limits
    in let typed = made_is_typed c.args.unit.now c.in_ok-file.file c.in_ok-frames.frames.items c.externals.ensures.externals c.in_ok-file.ensures c.deref.ensures.value
    c.in_ok-frames.ensures.whole c.in_ok-frames.ensures.frames c.contents.ensures
    in record {
      well_formed = formed;
      placed = c.typed_programs_are_placed.ensures (unit_of c.args.unit.now) _ c.externals.ensures.unit.values formed typed;
      words = c.typed_programs_are_of_words.ensures.trees (unit_of c.args.unit.now) _ c.externals.ensures.unit.words typed;
    }

pub returns-in_err-file-clause-refused : goal.returns-in_err-file-clause-refused
returns-in_err-file-clause-refused c =
    let refused = refusal_says (unit_of c.args.unit.now) c.in_err-file.field-0.0
    (subst (λ u. Refuses (typed_unit (unit_of u)) c.in_err-file.field-0.0) c.externals.ensures.externals c.in_err-file.ensures)
    in fault_says (Says (unit_of c.args.unit.now)) (fault_of c.in_err-file.field-0.0) c.from_residual.result c.from_residual.ensures.1 refused

pub returns-in_err-frames-clause-refused : goal.returns-in_err-frames-clause-refused
returns-in_err-frames-clause-refused c =
    let known = says_source c.args.unit.now c.in_ok-file.file c.in_err-frames.field-0.0 c.externals.ensures.externals c.in_ok-file.ensures c.deref.ensures.value
    c.in_err-frames.ensures.refused
    in fault_says (Says (unit_of c.args.unit.now)) c.in_err-frames.field-0.0 c.from_residual-in_err-frames.result c.from_residual-in_err-frames.ensures.1 known

pub returns-clause-typed : goal.returns-clause-typed
returns-clause-typed c =
    typed_source c.args.unit.now c.in_ok-file.file c.in_ok-frames.frames.items (program_of c.in_ok-program.field-0)
    c.externals.ensures.externals c.in_ok-file.ensures c.deref.ensures.value c.in_ok-frames.ensures.whole c.in_ok-frames.ensures.frames
    c.contents.ensures c.in_ok-program.ensures
