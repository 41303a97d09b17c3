-- By the lemmas on lines.
use Rattle.c25_asm.proofs.TextLemmas.{rows_told, label_numbers, fault_told, first_fault}
use Rattle.c25_asm.proofs.SpellingLemmas.{either_case, says_the_same}
use Rattle.c25_asm.proofs.laws.texts_are_read.Goals as goal

pub returns-clause-rows : goal.returns-clause-rows
returns-clause-rows c = rows_told

pub returns-clause-labels : goal.returns-clause-labels
returns-clause-labels c = label_numbers

pub returns-clause-told : goal.returns-clause-told
returns-clause-told c = fault_told

pub returns-clause-first : goal.returns-clause-first
returns-clause-first c = first_fault

pub returns-clause-either_case : goal.returns-clause-either_case
returns-clause-either_case c = either_case

pub returns-clause-blanks : goal.returns-clause-blanks
returns-clause-blanks c = says_the_same
