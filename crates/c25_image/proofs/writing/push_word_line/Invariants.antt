use Rattle.std.proofs.Common.{◌≡◌, ◌++◌, ◌∷◌, drop}
use Rattle.text_base.specs.Hex.{hex4}
use Rattle.std.specs.List.{flat_map}
use Rattle.c25_image.proofs.writing.push_word_line.Given as goal

abbrev pub invariant-loop-word : goal.invariant-loop-word
invariant-loop-word l = l.text.items ++ flat_map (λ v. 32 ∷ hex4 v) (drop l.word-index l.word-items) ≡ l.initial.text.items ++ flat_map (λ v. 32 ∷ hex4 v) l.word-items
