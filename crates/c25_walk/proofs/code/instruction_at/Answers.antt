use Rattle.std.proofs.Common.{rules, ◌≡◌, ◌+◌, get_or, sym, ◌∙◌, arith}
use Rattle.std.proofs.lemmas.List.{get_or_past}
use Rattle.c25_walk.proofs.Decodings.{too_long, stands}
use Rattle.c25_walk.proofs.code.instruction_at.Goals as goal
use Rattle.c25_walk.proofs.code.instruction_at.Goals.{then-index-words, else-index-words}

pub returns-then-words-index : goal.returns-then-words-index
returns-then-words-index c = λ at.
    let second : c.if-index-words.second ≡ get_or c.args.words.now (c.args.index + 1) 0 = elim c.if-index-words.branch [ then-index-words w ↦ search rules | else-index-words w ↦ w.second-is ∙ sym (get_or_past c.args.words.now (c.args.index + 1) 0 (omega arith)) ] in
    too_long c.args.words.now c.args.index at c.if-index-words.second c.in_ok-instr.instr c.in_ok-instr.length c.requires second c.in_ok-instr.ensures.value (omega arith)

pub returns : goal.returns
returns c =
    let second : c.if-index-words.second ≡ get_or c.args.words.now (c.args.index + 1) 0 = elim c.if-index-words.branch [ then-index-words w ↦ search rules | else-index-words w ↦ w.second-is ∙ sym (get_or_past c.args.words.now (c.args.index + 1) 0 (omega arith)) ] in
    stands c.args.words.now c.args.index c.if-index-words.second c.in_ok-instr.instr c.in_ok-instr.length c.requires second c.in_ok-instr.ensures.value c.in_ok-instr.ensures.row (omega arith)
