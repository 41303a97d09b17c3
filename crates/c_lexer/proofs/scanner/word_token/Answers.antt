use Rattle.c_lexer.proofs.ScannerLemmas.{word_run, word_token, long_name}
use Rattle.c_lexer.proofs.scanner.word_token.Goals as goal

pub word-requires : goal.word-requires
word-requires c = word_run c.args.bytes.now c.name_run.result.0.now c.name_run.result.1.now c.requires c.name_run.ensures

pub returns-in-Some-clause-token : goal.returns-in-Some-clause-token
returns-in-Some-clause-token c = word_token c.args.bytes.now c.name_run.result.0.now c.name_run.result.1.now c.requires c.name_run.ensures c.in-Some.kind (rw c.in-Some.is at c.in_ok-kind.ensures)

pub returns-in-None-clause-flaw : goal.returns-in-None-clause-flaw
returns-in-None-clause-flaw c = long_name c.args.bytes.now c.name_run.result.0.now c.name_run.result.1.now c.requires c.name_run.ensures (rw c.in-None.is at c.in_ok-kind.ensures)
