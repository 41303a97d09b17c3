-- By what the two passes over the lines give.
use Rattle.std.proofs.Common.{◌≡◌, ◌<◌, length, rules, sym, ap, ◌∙◌, inr}
use Rattle.std.specs.Prelude.{Err}
use Rattle.c25_asm.specs.declared.fault.AsmFault.TheVariants as faults
use Rattle.c25_asm.specs.LabelView.{known}
use Rattle.c25_asm.proofs.LabelLemmas.{table_small}
use Rattle.c25_asm.proofs.WordLemmas.{assembled_long}
use Rattle.c25_asm.proofs.assembling.assemble.Goals as goal

pub words_of-requires : goal.words_of-requires
words_of-requires c = table_small c.args.text.now c.in_ok-labels.labels c.in_ok-labels.ensures.known

pub returns-then-len-gt-MOST_WORDS-clause-fault : goal.returns-then-len-gt-MOST_WORDS-clause-fault
returns-then-len-gt-MOST_WORDS-clause-fault c =
    let count : c.len-then-len-gt-MOST_WORDS.result ≡ length c.in_ok-words.words.items = search rules in
    let long : 65536 < length c.in_ok-words.words.items = search rules in
    inr (assembled_long c.args.text.now (known c.in_ok-labels.labels) c.in_ok-labels.ensures.known c.in_ok-words.words.items c.in_ok-words.ensures long
    ∙ ap (λ n. Err (faults.TooLong n)) (sym count))
