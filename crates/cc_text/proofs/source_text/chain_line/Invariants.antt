use Rattle.std.proofs.Common.{◌≡◌, ◌++◌, drop}
use Rattle.std.specs.Prelude.{codes, string_bytes}
use Rattle.cc_text.specs.SourceText.{spaced}
use Rattle.cc_text.proofs.source_text.chain_line.Given as goal

abbrev pub invariant-loop-name : goal.invariant-loop-name
invariant-loop-name l = string_bytes l.line ++ spaced (drop l.name-index l.chain) ≡ codes "source refused: " ++ (l.source ++ (codes "recursion" ++ spaced l.chain))
