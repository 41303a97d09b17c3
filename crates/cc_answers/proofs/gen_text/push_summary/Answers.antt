use Rattle.std.proofs.Common.{codes, length}
use Rattle.std.specs.Prelude.{decimal}
use Rattle.c25_image.specs.Hex.{hex4}
use Rattle.cc_answers.specs.GenText.{last_word}
use Rattle.c25_image.specs.StopLines.{ending_line}
use Rattle.cc_answers.proofs.Pushing.{summed}
use Rattle.cc_answers.proofs.gen_text.push_summary.Goals as goal

pub returns : goal.returns
returns c =
    summed c.args.text.now.items _ _ _ _ _ _ _ _
    (codes "gen ") (decimal c.args.number) (codes ": functions ") (decimal c.args.functions) (codes ", outputs ") (decimal (length c.args.outs.now))
    (codes ", last ") (hex4 (last_word c.args.outs.now)) (codes ", ") (ending_line c.args.ending) (codes "\n")
    (rw c.from.ensures at c.in_ok-push_count.ensures) c.in_ok-push_count-2.ensures c.in_ok-push_count-3.ensures c.in_ok-extend_from_slice.ensures.items
    (rw c.last_word.ensures at c.in_ok-push_hex.ensures.put) c.in_ok-extend_from_slice-2.ensures.items c.in_ok-push_ending.ensures c.in_ok-push.ensures.items
