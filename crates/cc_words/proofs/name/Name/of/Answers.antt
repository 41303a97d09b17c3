use Rattle.cc_words.proofs.AskedLemmas.{no_name}
use Rattle.cc_words.proofs.name.Name.of.Goals as goal

pub returns-in_default : goal.returns-in_default
returns-in_default c =
    no_name c.args.word.now c.in_default.not-build c.in_default.not-run c.in_default.not-means c.in_default.not-exec c.in_default.not-layout c.in_default.not-check c.in_default.not-asm c.in_default.not-dis c.in_default.not-gen c.in_default.not-debug c.in_default.not-pre c.in_default.not-join c.in_default.not-pbuild
