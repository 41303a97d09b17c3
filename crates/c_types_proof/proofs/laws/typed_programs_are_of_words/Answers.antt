-- A text says words, and so its tree is typed as a program of words.
use Rattle.c_types_proof.proofs.CharacterTokens.{tokens_few}
use Rattle.c_syntax.proofs.Spoken.{unit_says}
use Rattle.c_types_proof.proofs.UnitWords.{program_words}
use Rattle.c_types_proof.proofs.laws.typed_programs_are_of_words.Goals as goal

pub returns-clause-trees : goal.returns-clause-trees
returns-clause-trees c = program_words

pub returns-clause-texts : goal.returns-clause-texts
returns-clause-texts c = λ bytes tokens unit program lexes derives typed.
    program_words unit program (unit_says tokens unit derives (tokens_few bytes tokens lexes)) typed
