-- Sources within the limits on data and on size, which are compiled however their frames are laid out (docs/COMMANDS.md, "build").
use Rattle.std.specs.Prelude.{◌≡◌, ◌≤◌, ℕ, ◌+◌, ◌*◌, List}
use Rattle.c_syntax.specs.declared.token.Token.{Token}
use Rattle.c_syntax.specs.Lexes.{Lexes}
use Rattle.c_syntax.specs.Counts.{unit_count}
use Rattle.c_syntax.specs.SyntaxTree.{UnitTree}
use Rattle.c_syntax.specs.Source.{IsSource}
use Rattle.c_tree.specs.TypedTree.{ProgramTree}
use Rattle.c_rules.specs.Checked.{IsTyped}
use Rattle.tree_code.specs.Lowered.{lowered_program}
use Rattle.frame_layouts.specs.mem_plan.declared.data_plan.TheConstants.{MOST_DATA_WORDS}
use Rattle.frame_layouts.specs.mem_plan.Plan.{AreBegins, data_need}

-- the data of a program need so many words, with its frames where they begin
pub record NeedsData (t : ProgramTree) (words : ℕ) : Type 0 where
  pub begin : ℕ → ℕ
  pub begins : AreBegins (lowered_program t) begin
  pub is : words ≡ data_need (lowered_program t) begin

-- the bytes have tokens, these a tree and this a typed program. Its data find room, and so do 1,000 words of code and 64 for each expression, statement
-- and declared item of the source
pub record IsWithinLimits (bytes : List ℕ) : Type 0 where
  pub tokens : List Token
  pub source : UnitTree
  pub program : ProgramTree
  pub lexes : Lexes bytes tokens
  pub is_source : IsSource tokens source
  pub typed : IsTyped source program
  pub data_words : ℕ
  pub needs : NeedsData program data_words
  pub data_fits : data_words ≤ MOST_DATA_WORDS
  pub code_fits : 1000 + 64 * unit_count source ≤ 65536
