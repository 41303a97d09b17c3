use Rattle.c_units.specs.PartFaults.{of_lex_fault}
use Rattle.c_units.proofs.FileLemmas.{refused_as, tokens_refused}
use Rattle.c_units.proofs.files.kept_tokens.Goals as goal

pub returns-in-Err-clause-fault : goal.returns-in-Err-clause-fault
returns-in-Err-clause-fault c =
    refused_as c.args.number c.args.source.now c.of_tokens.result (of_lex_fault c.args.number c.in-Err.fault) c.of_tokens.ensures
    (tokens_refused c.args.number c.args.source.now c.in-Err.fault c.in-Err.ensures.fault)
