use Rattle.std.proofs.Common.{inr}
use Rattle.c_lexer.proofs.ScannerLemmas.{character_token, bad_quote}
use Rattle.c_lexer.proofs.scanner.character_token.Goals as goal

pub returns-in-Some-clause-token : goal.returns-in-Some-clause-token
returns-in-Some-clause-token c = character_token c.args.bytes.now c.requires c.in-Some.value c.in-Some.rest.now c.in-Some.ensures

pub returns-in-None-clause-flaw : goal.returns-in-None-clause-flaw
returns-in-None-clause-flaw c = inr (bad_quote c.args.bytes.now c.requires c.in-None.ensures)
