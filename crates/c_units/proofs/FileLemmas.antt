-- The tokens of a file are few, its tree is one whose types can be checked, and its faults are its own.
use Rattle.std.proofs.Common.{◌≡◌, ◌≢◌, ◌≤◌, ◌∙◌, ◌++◌, ◌+◌, ◌<◌, ℕ, Bool, true, false, if◌then◌else◌, List, [], ◌∷◌, length, map, take, drop, get_or, Some, None, Ok, Err, refl, sym, ap, subst, arith}
use Rattle.std.specs.Prelude.{⊤, All, Result, IfErr, IsErrAnd}
use Rattle.std.proofs.lemmas.List.{take_more, take-append-drop, map-append, length-map, length-take-le}
use Rattle.c_rules.proofs.Turns.{first_left}
use Rattle.std.proofs.lemmas.List.Elements.{All-from_recursion}
use Rattle.c_tree.specs.c_syntax.declared.token.Token.{Token}
use Rattle.c_tree.specs.c_syntax.SyntaxTree.{UnitTree, Defined, Declared}
use Rattle.c_tree.specs.c_syntax.Lexes.{most_tokens}
use Rattle.c_lexer.specs.TokenText.{HasSpelling}
use Rattle.std.specs.List.{AllByRecursion, AllZip}
use Rattle.c_rules.specs.declared.fault.TypeFault.{TypeFault}
use Rattle.c_rules.specs.declared.fault.TypeFault.TheVariants as types
use Rattle.c_rules.specs.declared.fault.Rule.TheVariants as rules
use Rattle.c_rules.specs.Checked.{Holds}
use Rattle.c_rules.specs.Faults.{Says}
use Rattle.c_units.specs.declared.fault.UnitFault.{UnitFault}
use Rattle.c_units.specs.declared.fault.UnitFault.TheVariants as faults
use Rattle.c_units.specs.Externs.{Position, AtStart, Within, is_dropped, after_token, kept}
use Rattle.c_lexer.specs.declared.fault.LexFault.{LexFault}
use Rattle.c_lexer.specs.declared.fault.LexFault.TheVariants as lex_faults
use Rattle.c_lexer.specs.LexFaults as lexer
use Rattle.c_parser.specs.declared.fault.ParseFault.{ParseFault}
use Rattle.c_parser.specs.declared.fault.ParseFault.TheVariants as parse_faults
use Rattle.c_parser.specs.ParseFaults as parser
use Rattle.c_units.specs.PartFaults.{of_lex_fault, of_parse_fault, of_type_fault}
use Rattle.c_units.specs.Files.{FileTree, HasTokens, HasTree, IsFile, AreFiles, HasOwnFault, OfTokens, OfSyntax, OfTypes, HasFileFault}
use Rattle.c_units.proofs.SpellingLemmas.{left_of, tokens_spelled}

-- ---- tokens that are left

left_few : (position : Position) (ts : List Token) → length (kept position ts) ≤ length ts
left_few position [] = omega arith
left_few position (t ∷ ts) = by (is_dropped position t ts) (left_few (Within false) ts) (left_few (after_token position t.kind) ts)
  where
    by : (b : Bool) → length (kept (Within false) ts) ≤ length ts → length (kept (after_token position t.kind) ts) ≤ length ts
        → length (if b then kept (Within false) ts else t ∷ kept (after_token position t.kind) ts) ≤ length (t ∷ ts)
    by true m n = omega (arith, m)
    by false m n = omega (arith, n)

pub few_left : (bytes : List ℕ) (tokens : List Token) (externs : List ℕ) → HasTokens bytes tokens externs → length tokens ≤ most_tokens
few_left bytes tokens externs h = omega (arith, ap length h.left, left_few AtStart h.all, h.lexes.1)

-- ---- each has a spelling

pub all_spelled : (bytes : List ℕ) (tokens : List Token) (externs : List ℕ) → HasTokens bytes tokens externs → All (λ t. HasSpelling t.kind) tokens
all_spelled bytes tokens externs h = All-from_recursion (λ t. HasSpelling t.kind) tokens (tokens_spelled bytes tokens externs h)

-- ---- faults

module _ (number : ℕ) (bytes : List ℕ) where
  pub tokens_refused : (why : LexFault) → lexer.Says bytes why → of_lex_fault number why ≢ faults.NoMemory → HasOwnFault number bytes (of_lex_fault number why)
  tokens_refused (lex_faults.BadByte at) says some = OfTokens (lex_faults.BadByte at) refl (λ e. cc) says
  tokens_refused (lex_faults.OpenComment at) says some = OfTokens (lex_faults.OpenComment at) refl (λ e. cc) says
  tokens_refused (lex_faults.BadConstant at) says some = OfTokens (lex_faults.BadConstant at) refl (λ e. cc) says
  tokens_refused (lex_faults.LongName at) says some = OfTokens (lex_faults.LongName at) refl (λ e. cc) says
  tokens_refused (lex_faults.TooManyTokens count) says some = OfTokens (lex_faults.TooManyTokens count) refl (λ e. cc) says
  tokens_refused lex_faults.NoMemory says some = absurd (some refl)

  pub syntax_refused : (tokens : List Token) (externs : List ℕ) (why : ParseFault) → HasTokens bytes tokens externs → parser.Says tokens why → of_parse_fault number why ≢ faults.NoMemory
      → HasOwnFault number bytes (of_parse_fault number why)
  syntax_refused tokens externs (parse_faults.Syntax at) has says some = OfSyntax (parse_faults.Syntax at) refl tokens externs has says
  syntax_refused tokens externs parse_faults.NoMemory has says some = absurd (some refl)

  -- a fault of types is one of a rule, or else one of the whole program, which leaves the tree valid
  pub types_refused : (file : FileTree) (why : TypeFault) (own : UnitFault) → HasTree bytes file → Says file.unit why → of_type_fault number why ≡ Some own → own ≢ faults.NoMemory → HasOwnFault number bytes own
  types_refused file (types.Undeclared at) own has says is some = OfTypes (types.Undeclared at) (cc is) file has (record { rule = rules.Undeclared; at = at; breaks = says; is = refl })
  types_refused file (types.Redeclared at) own has says is some = OfTypes (types.Redeclared at) (cc is) file has (record { rule = rules.Redeclared; at = at; breaks = says; is = refl })
  types_refused file (types.Mismatch at) own has says is some = OfTypes (types.Mismatch at) (cc is) file has (record { rule = rules.Mismatch; at = at; breaks = says; is = refl })
  types_refused file (types.NotLvalue at) own has says is some = OfTypes (types.NotLvalue at) (cc is) file has (record { rule = rules.NotLvalue; at = at; breaks = says; is = refl })
  types_refused file (types.NotConstant at) own has says is some = OfTypes (types.NotConstant at) (cc is) file has (record { rule = rules.NotConstant; at = at; breaks = says; is = refl })
  types_refused file (types.LongConstant at) own has says is some = OfTypes (types.LongConstant at) (cc is) file has (record { rule = rules.LongConstant; at = at; breaks = says; is = refl })
  types_refused file (types.BadPort at) own has says is some = OfTypes (types.BadPort at) (cc is) file has (record { rule = rules.BadPort; at = at; breaks = says; is = refl })
  types_refused file (types.ArgCount at) own has says is some = OfTypes (types.ArgCount at) (cc is) file has (record { rule = rules.ArgCount; at = at; breaks = says; is = refl })
  types_refused file (types.Misplaced at) own has says is some = OfTypes (types.Misplaced at) (cc is) file has (record { rule = rules.Misplaced; at = at; breaks = says; is = refl })
  types_refused file (types.MissingMain at) own has says is some = absurd (cc is)
  types_refused file (types.MissingBody at) own has says is some = absurd (cc is)
  types_refused file (types.Recursion chain) own has says is some = absurd (cc is)
  types_refused file (types.Limit which count) own has says is some = absurd (cc is)
  types_refused file types.NoMemory own has says is some = absurd (some (cc is))

  pub still_valid : (unit : UnitTree) (why : TypeFault) → Says unit why → of_type_fault number why ≡ None → Holds unit (λ functions. ⊤)
  still_valid unit (types.Undeclared at) says is = absurd (cc is)
  still_valid unit (types.Redeclared at) says is = absurd (cc is)
  still_valid unit (types.Mismatch at) says is = absurd (cc is)
  still_valid unit (types.NotLvalue at) says is = absurd (cc is)
  still_valid unit (types.NotConstant at) says is = absurd (cc is)
  still_valid unit (types.LongConstant at) says is = absurd (cc is)
  still_valid unit (types.BadPort at) says is = absurd (cc is)
  still_valid unit (types.ArgCount at) says is = absurd (cc is)
  still_valid unit (types.Misplaced at) says is = absurd (cc is)
  still_valid unit (types.MissingMain at) says is = record { file = says.file; typed = says.typed; holds = tt {0} }
  still_valid unit (types.MissingBody at) says is = record { file = says.file; typed = says.typed; holds = tt {0} }
  still_valid unit (types.Recursion chain) says is = record { file = says.file; typed = says.typed; holds = tt {0} }
  still_valid unit (types.Limit which count) says is = record { file = says.file; typed = says.typed; holds = tt {0} }
  still_valid unit types.NoMemory says is = absurd (cc is)

-- a fault under another name
pub refused_as : (number : ℕ) (bytes : List ℕ) (fault own : UnitFault) → fault ≡ own → (own ≢ faults.NoMemory → HasOwnFault number bytes own) → fault ≢ faults.NoMemory → HasOwnFault number bytes fault
refused_as number bytes fault own is has = subst (λ f. f ≢ faults.NoMemory → HasOwnFault number bytes f) (sym is) has

-- a fault that is passed on as it is
pub passed_fault : {A : Type 0} (r : Result A UnitFault) (given : UnitFault) (P : UnitFault → Type 0) → IsErrAnd r (λ e. e ≡ given) → P given → IfErr r P
passed_fault (Ok a) given P is h = absurd is
passed_fault (Err e) given P is h = subst P (sym is) h

-- ---- several files

joined_zip : {A B : Type 0} (R : A → B → Type 0) (xs : List A) (ys : List B) (x : A) (y : B) → AllZip R xs ys → R x y → AllZip R (xs ++ x ∷ []) (ys ++ y ∷ [])
joined_zip R [] [] x y h r = (r, tt {0})
joined_zip R [] (z ∷ zs) x y h r = absurd h
joined_zip R (z ∷ zs) [] x y h r = absurd h
joined_zip R (v ∷ vs) (z ∷ zs) x y h r = (h.0, joined_zip R vs zs x y h.1 r)

-- the files that were read, with one more
pub files_turn : {A : Type 0} (f : A → List ℕ) (files : List FileTree) (list : List A) (i : ℕ) (x : A) (file : FileTree) → x ≡ get_or list i x → i < length list
    → AreFiles (map f (take i list)) files → IsFile (f x) file → AreFiles (map f (take (i + 1) list)) (files ++ file ∷ [])
files_turn f files list i x file is below read fits =
    let first = take_more list i x below ∙ ap (λ y. take i list ++ y ∷ []) (sym is) in
    subst (λ l. AreFiles l (files ++ file ∷ [])) (sym (ap (map f) first ∙ map-append f (take i list) (x ∷ [])))
    (joined_zip IsFile (map f (take i list)) files (f x) file read fits)

-- the first file that is refused
pub file_refused : {A : Type 0} (f : A → List ℕ) (files : List FileTree) (list : List A) (i : ℕ) (x : A) (fault : UnitFault) → x ≡ get_or list i x → i < length list
    → AreFiles (map f (take i list)) files → HasOwnFault (i + 1) (f x) fault → HasFileFault (map f list) fault
file_refused f files list i x fault is below read has = record {
  before = map f (take i list);
  source = f x;
  following = map f (drop (i + 1) list);
  are = ap (map f) (sym (take-append-drop i list) ∙ ap (λ l. take i list ++ l) (first_left list i x is below)) ∙ map-append f (take i list) (x ∷ drop (i + 1) list);
  files = files;
  read = read;
  has = subst (λ n. HasOwnFault (n + 1) (f x) fault) (sym (length-map (take i list) f ∙ length-take-le i list (omega (arith, below)))) has;
}
