use Rattle.c_syntax.specs.Constants.{OctalEscape}
use Rattle.c_lexer.proofs.CharacterLemmas.{hex_item, sign_item}
use Rattle.c_lexer.proofs.characters.item_value.Goals as goal

pub returns-in-Some : goal.returns-in-Some
returns-in-Some c = hex_item c.args.item.now c.in-Some.digits.now c.escape_number.result c.in-Some.ensures c.escape_number.ensures

pub returns-in-Some-escape_number : goal.returns-in-Some-escape_number
returns-in-Some-escape_number c = OctalEscape c.in-Some-behind.escape.now c.in-Some-behind.ensures c.in-Some-escape_number.ensures.0 c.in-Some-escape_number.ensures.1 c.in-Some-escape_number.ensures.2

pub returns-in-None : goal.returns-in-None
returns-in-None c = sign_item c.args.item.now c.in-Some-behind.escape.now c.escape_sign.result c.in-Some-behind.ensures c.in_default.ensures c.in-None.ensures c.escape_sign.ensures
