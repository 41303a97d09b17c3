-- The tokens of several files in one list, and the fault that keeps files from being joined (docs/LANGUAGE.md, "Programs of several
-- files").
use Rattle.std.specs.Prelude.{◌≡◌, ◌⊎◌, ℕ, suc, nat_lt, if◌then◌else◌, List, [], ◌∷◌, ◌++◌, length, sum_by, flat_map, map, option_map, Option, Some, None}
use Rattle.std.specs.Option.{option_or}
use Rattle.c_tree.specs.c_syntax.declared.token.Token.{Token}
use Rattle.c_tree.specs.c_syntax.declared.token.TokenKind.{TokenKind}
use Rattle.c_tree.specs.c_syntax.Lexes.{Lexes, most_tokens}
use Rattle.c_lexer.specs.TokenText.{spelled, tokens_text, placed_from}
use Rattle.c_rules.specs.Units.{is_name_among}
use Rattle.c_renaming.specs.Renaming.{Renaming}
use Rattle.c_renaming.specs.RenamedTokens.{renamed_kind}
use Rattle.c_parser.specs.declared.fault.ParseFault.{ParseFault}
use Rattle.c_units.specs.declared.fault.UnitFault.{UnitFault}
use Rattle.c_units.specs.declared.fault.UnitFault.TheVariants.{Parse, Reserved, Undefined, TooManyTokens}
use Rattle.c_units.specs.Statics.{statics_of, static_name, reserved_at}
use Rattle.c_units.specs.Files.{FileTree, AreFiles, HasFileFault}
use Rattle.c_units.specs.Objects.{all_objects, undefined_name}

-- a new name for each static of each file, by the number of the file
abbrev pub Choice : Type 0
Choice = ℕ → List ℕ → List ℕ

-- the statics of a file get their new names, and all else keeps its own
abbrev pub renaming_of : Choice → ℕ → FileTree → Renaming
renaming_of choice number file = record {
  name = λ name. if is_name_among name (statics_of file.unit) then choice number name else name;
  place = λ at. at;
}

abbrev pub file_kinds : Choice → ℕ → FileTree → List TokenKind
file_kinds choice number file = map (λ t. renamed_kind (renaming_of choice number file) t.kind) file.tokens

-- the kinds of the files' tokens in order, the first file with this number
abbrev pub joined_kinds : Choice → ℕ → List FileTree → List TokenKind
joined_kinds choice number [] = []
joined_kinds choice number (file ∷ files) = file_kinds choice number file ++ joined_kinds choice (suc number) files

-- what is written of tokens of these kinds
abbrev pub kinds_text : List TokenKind → List ℕ
kinds_text kinds = flat_map spelled kinds

-- tokens of the files, joined, with the places and lengths that their text gives them
pub record Joined (choice : Choice) (files : List FileTree) (tokens : List Token) : Type 0 where
  pub kinds : map (λ t. t.kind) tokens ≡ joined_kinds choice 1 files
  pub placed : tokens ≡ placed_from 0 tokens

-- the first reserved name of the files, the first of which has this number
abbrev pub reserved_fault : ℕ → List FileTree → Option UnitFault
reserved_fault number [] = None
reserved_fault number (file ∷ files) =
    option_or (option_map (Reserved number) (reserved_at (statics_of file.unit) file.tokens)) (reserved_fault (suc number) files)

abbrev pub undefined_fault : List FileTree → Option UnitFault
undefined_fault files = option_map Undefined (undefined_name (all_objects 1 files))

abbrev pub token_count : List FileTree → ℕ
token_count files = sum_by (λ file. length file.tokens) files

abbrev pub count_fault : List FileTree → Option UnitFault
count_fault files = if nat_lt most_tokens (token_count files) then Some (TooManyTokens (token_count files)) else None

-- what keeps files from being joined that have no fault of their own
abbrev pub joint_fault : List FileTree → Option UnitFault
joint_fault files = option_or (reserved_fault 1 files) (option_or (undefined_fault files) (count_fault files))

-- files without faults of their own, and why they aren't joined
pub record HasJointFault (sources : List (List ℕ)) (fault : UnitFault) : Type 0 where
  pub files : List FileTree
  pub are : AreFiles sources files
  pub has : joint_fault files ≡ Some fault

-- why the bytes of files aren't joined. Want of memory is no fault of files.
abbrev pub HasFault : List (List ℕ) → UnitFault → Type 0
HasFault sources fault = HasFileFault sources fault ⊎ HasJointFault sources fault

-- the bytes of files are joined to these tokens
pub record Joins (sources : List (List ℕ)) (tokens : List Token) : Type 0 where
  pub files : List FileTree
  pub are : AreFiles sources files
  pub no_fault : joint_fault files ≡ None
  pub joined : Joined static_name files tokens

-- a text is that of the tokens of the files, joined, and it has these tokens
pub record IsJoined (sources : List (List ℕ)) (text : List ℕ) : Type 0 where
  pub tokens : List Token
  pub joins : Joins sources tokens
  pub is : text ≡ tokens_text tokens
  pub lexes : Lexes text tokens

-- both are one fault, but for the place that one of syntax names
abbrev pub IsSameFault : UnitFault → UnitFault → Type 0
IsSameFault (Parse number why) other = (also : ParseFault) × (other ≡ Parse number also)
IsSameFault fault other = other ≡ fault
