-- What `pre` makes of its file (docs/COMMANDS.md, "pre").
use Rattle.std.specs.Prelude.{◌≡◌, ◌≢◌, ℕ, List, Err}
use Rattle.cc_files.specs.c_syntax.declared.token.Token.{Token}
use Rattle.cc_files.specs.c_syntax.Lexes.{Lexes}
use Rattle.cc_files.specs.c_lexer.TokenText.{tokens_text, placed_from}
use Rattle.cc_files.specs.c_macro.Expands.{Expands, Outcome}
use Rattle.cc_files.specs.c_macro.declared.fault.MacroFault.{MacroFault}
use Rattle.cc_files.specs.c_macro.declared.fault.MacroFault.TheVariants as macro_faults
use Rattle.cc_answers.specs.Answers.{Answered}
use Rattle.cc_files.specs.cc_text.Refusals.{Why, OfMacros}
use Rattle.cc_files.specs.Stores.{Stored}
use Rattle.cc_driver.specs.Texts.{one_text, silent_answer}

-- a text is that of the tokens to which a source expands, and it has tokens of the same kinds, one for one
pub record IsExpansion (bytes text : List ℕ) : Type 0 where
  pub tokens : List Token
  pub expands : Expands bytes tokens
  pub is : text ≡ tokens_text tokens
  pub lexes : Lexes text (placed_from 0 tokens)

-- the text of the source's expansion is stored
pub record ExpandsTo (name bytes : List ℕ) (answer : Answered) (texts : List Stored) : Type 0 where
  pub text : List ℕ
  pub expansion : IsExpansion bytes text
  pub stored : texts ≡ one_text name text
  pub is : answer ≡ silent_answer

-- the source has no expansion, for its first fault
pub record ExpandRefused (bytes : List ℕ) (why : Why) : Type 0 where
  pub fault : MacroFault
  pub some : fault ≢ macro_faults.NoMemory
  pub has : Outcome bytes (Err fault)
  pub is : why ≡ OfMacros fault
