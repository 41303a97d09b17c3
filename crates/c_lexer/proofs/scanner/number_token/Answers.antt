use Rattle.std.proofs.Common.{inl}
use Rattle.c_lexer.proofs.ScannerLemmas.{number_token, bad_number}
use Rattle.c_lexer.proofs.scanner.number_token.Goals as goal

pub returns-in-Some-clause-token : goal.returns-in-Some-clause-token
returns-in-Some-clause-token c = number_token c.args.bytes.now c.number_run.result.0.now c.number_run.result.1.now c.requires c.number_run.ensures _ c.in-Some.ensures

pub returns-in-None-clause-flaw : goal.returns-in-None-clause-flaw
returns-in-None-clause-flaw c = inl (bad_number c.args.bytes.now c.number_run.result.0.now c.number_run.result.1.now c.requires c.number_run.ensures c.in-None.ensures)
