-- New names for statics, and programs that differ in names and places alone (docs/LANGUAGE.md, "Programs of several files").
use Rattle.std.specs.Prelude.{◌≡◌, ◌≢◌, ℕ, suc, List, [], ◌∷◌, ◌++◌, map, codes, All, Contains}
use Rattle.c_tree.specs.c_syntax.declared.token.Token.{Token}
use Rattle.c_tree.specs.c_syntax.declared.token.TokenKind.TheVariants.{Name}
use Rattle.c_tree.specs.c_syntax.SyntaxTree.{UnitTree}
use Rattle.c_tree.specs.c_syntax.Source.{IsSource}
use Rattle.c_tree.specs.TypedTree.{ProgramTree}
use Rattle.c_lexer.specs.TokenText.{HasSpelling}
use Rattle.c_rules.specs.Checked.{IsTyped}
use Rattle.c_renaming.specs.Renaming.{Renaming, IsFaithful}
use Rattle.c_renaming.specs.RenamedPrograms.{renamed_program}
use Rattle.c_units.specs.Statics.{statics_of}
use Rattle.c_units.specs.Files.{FileTree}
use Rattle.c_units.specs.Joining.{Choice}

-- a static: the number of its file, and its name
pub record StaticOf : Type 0 where
  pub number : ℕ
  pub name : List ℕ

-- those of files, the first of which has this number
abbrev pub all_statics : ℕ → List FileTree → List StaticOf
all_statics number [] = []
all_statics number (file ∷ files) = map (λ name. record { number = number; name = name }) (statics_of file.unit) ++ all_statics (suc number) files

-- no token of the files is this name
abbrev pub IsAbsent : List ℕ → List FileTree → Type 0
IsAbsent name files = All (λ file. All (λ t. t.kind ≢ Name name) file.tokens) files

-- a name that a text may have and the language gives no meaning, and that the files don't have
pub record IsFreshName (files : List FileTree) (name : List ℕ) : Type 0 where
  pub spelled : HasSpelling (Name name)
  pub no_main : name ≢ codes "main"
  pub no_in : name ≢ codes "__in"
  pub no_out : name ≢ codes "__out"
  pub absent : IsAbsent name files

-- each static gets such a name, and no two get one
pub record IsFresh (choice : Choice) (files : List FileTree) : Type 0 where
  pub names : All (λ s. IsFreshName files (choice s.number s.name)) (all_statics 1 files)
  pub apart : (s t : StaticOf) → Contains (all_statics 1 files) s → Contains (all_statics 1 files) t
      → choice s.number s.name ≡ choice t.number t.name → s ≡ t

-- a token of the file of this number is a static's: it is in its file, and has its name
pub record IsOfStatic (number : ℕ) (t : Token) (s : StaticOf) : Type 0 where
  pub file : s.number ≡ number
  pub name : t.kind ≡ Name s.name

-- neither choice gives this name to a static
abbrev pub IsOther : List FileTree → Choice → Choice → List ℕ → Type 0
IsOther files from to name = All (λ s. (name ≢ from s.number s.name) × (name ≢ to s.number s.name)) (all_statics 1 files)

-- tokens have a typed program
pub record HasProgram (tokens : List Token) (program : ProgramTree) : Type 0 where
  pub unit : UnitTree
  pub source : IsSource tokens unit
  pub typed : IsTyped unit program

-- tokens have this program but for names and places: each static has the name of one choice where it had that of another, and all else
-- keeps its name
pub record HasRenamed (files : List FileTree) (from to : Choice) (tokens : List Token) (program : ProgramTree) : Type 0 where
  pub renaming : Renaming
  pub faithful : IsFaithful renaming
  pub statics : All (λ s. renaming.name (from s.number s.name) ≡ to s.number s.name) (all_statics 1 files)
  pub others : (name : List ℕ) → IsOther files from to name → renaming.name name ≡ name
  pub has : HasProgram tokens (renamed_program renaming program)
