use Rattle.c_lexer.proofs.ScannerLemmas.{mark_token, bad_byte, open_comment}
use Rattle.c_lexer.proofs.scanner.mark_token.Goals as goal

pub returns-in-Some-clause-flaw : goal.returns-in-Some-clause-flaw
returns-in-Some-clause-flaw c = open_comment c.args.bytes.now c.requires.no_blank c.requires.sign c.in-Some.field-0.now c.in-Some.ensures

pub returns-in-Some-mark-clause-token : goal.returns-in-Some-mark-clause-token
returns-in-Some-mark-clause-token c = mark_token c.args.bytes.now c.requires.no_blank c.requires.sign c.in-Some-mark.mark c.in-Some-mark.rest.now c.in_default.ensures c.in-Some-mark.ensures

pub returns-in-None-clause-flaw : goal.returns-in-None-clause-flaw
returns-in-None-clause-flaw c = bad_byte c.args.bytes.now c.requires.no_blank c.requires.sign c.in-None.ensures
