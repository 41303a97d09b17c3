use Rattle.c_types_proof.proofs.CharacterTokens.{tokens_few}
use Rattle.c_syntax.proofs.Spoken.{unit_says}
use Rattle.c_types_proof.proofs.laws.sources_say_words.Goals as goal

pub returns : goal.returns
returns c = λ bytes tokens unit lexes derives. unit_says tokens unit derives (tokens_few bytes tokens lexes)
