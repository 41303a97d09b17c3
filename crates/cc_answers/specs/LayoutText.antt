-- The lines of a layout (docs/COMMANDS.md, "layout").
use Rattle.std.specs.Prelude.{ℕ, suc, List, [], ◌∷◌, ◌++◌, codes, decimal, Some}
use Rattle.c25_image.specs.Lines.{with_feed}
use Rattle.lay_text.specs.SequenceText.{spaced}
use Rattle.lay_tree.specs.declared.answer.Answer.{Answer}
use Rattle.lay_tree.specs.declared.answer.Answer.TheVariants.{Certified, Exhausted}
use Rattle.lay_tree.specs.Search.{answer_lists}
use Rattle.cc_answers.specs.Answers.{Answered}

-- what it costs, and whether nothing costs less
abbrev pub cost_line : Answer → List ℕ
cost_line (Certified lists cost log) = codes "cost " ++ (decimal cost ++ codes " optimal")
cost_line (Exhausted lists cost piece quota log) = codes "cost " ++ (decimal cost ++ (codes " best piece " ++ (decimal piece ++ (codes " quota " ++ decimal quota))))

-- the scalars of a register, in order
abbrev pub register_line : ℕ → List ℕ → List ℕ
register_line number scalars = codes "register " ++ (decimal number ++ (codes ":" ++ spaced scalars))

-- a line for each register, from a number on
abbrev pub register_lines : ℕ → List (List ℕ) → List ℕ
register_lines number [] = []
register_lines number (scalars ∷ more) = with_feed (register_line number scalars) ++ register_lines (suc number) more

-- what `layout` answers
abbrev pub layout_answer : Answer → Answered
layout_answer a = record { text = Some (with_feed (cost_line a) ++ register_lines 0 (answer_lists a)); status = 0 }
