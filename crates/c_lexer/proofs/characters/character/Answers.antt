use Rattle.c_lexer.proofs.CharacterLemmas.{is_character, no_character, wrong_item}
use Rattle.c_lexer.proofs.characters.character.Goals as goal

pub returns-in_default : goal.returns-in_default
returns-in_default c = no_character c.args.bytes.now c.in_default.ensures

pub returns-in-Some-item_value : goal.returns-in-Some-item_value
returns-in-Some-item_value c = is_character c.args.bytes.now c.in-Some.item.now c.in-Some.rest.now c.in-Some-item_value.value c.in-Some.ensures c.in-Some-item_value.ensures

pub returns-in-None : goal.returns-in-None
returns-in-None c = wrong_item c.args.bytes.now c.in-Some.item.now c.in-Some.rest.now c.in-Some.ensures c.in-None.ensures
