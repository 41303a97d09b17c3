-- By the lemmas on whole listings.
use Rattle.c25_dis.proofs.Words.{words_of_lines, lines_fit}
use Rattle.c25_dis.proofs.laws.lines_stand_for_words.Goals as goal

pub returns-clause-words : goal.returns-clause-words
returns-clause-words c = words_of_lines

pub returns-clause-fits : goal.returns-clause-fits
returns-clause-fits c = lines_fit
