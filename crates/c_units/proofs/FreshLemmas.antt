-- The names that statics get are fresh.
use Rattle.std.proofs.Common.{arith, ◌≡◌, ◌≢◌, ℕ, suc, ◌+◌, ◌≤◌, ◌<◌, Bool, true, false, List, [], ◌∷◌, length, map, None, refl, ap, subst}
use Rattle.std.specs.Prelude.{All, codes, ◌||◌}
use Rattle.std.specs.Str.{bytes_eq}
use Rattle.std.specs.List.{AllByRecursion}
use Rattle.std.proofs.lemmas.List.Elements.{All-from_recursion, All-contains}
use Rattle.std.proofs.lemmas.Slice.Eq.{bytes_eq-Decides}
use Rattle.c_tree.specs.c_syntax.declared.token.Token.{Token}
use Rattle.c_tree.specs.c_syntax.declared.token.TokenKind.TheVariants.{Name}
use Rattle.c_lexer.specs.TokenText.{HasSpelling}
use Rattle.c_rules.specs.Units.{is_name_among}
use Rattle.c_units.specs.Statics.{statics_of, static_name, is_reserved_kind}
use Rattle.c_units.specs.Files.{FileTree, AreFiles}
use Rattle.c_units.specs.Joining.{reserved_fault}
use Rattle.c_units.specs.Choices.{StaticOf, all_statics, IsAbsent, IsFreshName, IsFresh}
use Rattle.c_units.proofs.ListLemmas.{all_weaker, all_paired, all_mapped, all_joined}
use Rattle.c_units.proofs.NumberLemmas.{never_static, one_static}
use Rattle.c_units.proofs.SpellingLemmas.{IsFree, IsClean, free_name, static_spelled, files_clean, as_many}
use Rattle.c_units.proofs.StaticLemmas.{AreNamed, statics_named}

-- ---- names of statics are names of tokens

or_right : (a b : Bool) → b ≡ true → (a || b) ≡ true
or_right true b e = refl
or_right false b e = e

each_among : (names : List (List ℕ)) → AllByRecursion (λ name. is_name_among name names ≡ true) names
each_among [] = tt {0}
each_among (n ∷ names) = (
  ap (λ b. b || is_name_among n names) ((bytes_eq-Decides n n).1 refl),
  all_weaker (λ name. is_name_among name names ≡ true) (λ name. is_name_among name (n ∷ names) ≡ true) (λ name h. or_right (bytes_eq n name) (is_name_among name names) h) names (each_among names),
)

-- a name that a token may have beside these statics
abbrev IsFreeName : List (List ℕ) → List ℕ → Type 0
IsFreeName statics name = HasSpelling (Name name) × (is_reserved_kind statics (Name name) ≡ false)

tokens_named : (statics : List (List ℕ)) (tokens : List Token) → AllByRecursion (IsFree statics) tokens → AreNamed (IsFreeName statics) tokens
tokens_named statics [] h = tt {0}
tokens_named statics (t ∷ ts) h = ((λ name is. subst (λ kind. HasSpelling kind × (is_reserved_kind statics kind ≡ false)) is h.0), tokens_named statics ts h.1)

-- ---- fresh names

tokens_without : (number : ℕ) (name : List ℕ) (statics : List (List ℕ)) (tokens : List Token) → number < 100000 → AllByRecursion (IsFree statics) tokens
    → AllByRecursion (λ t. t.kind ≢ Name (static_name number name)) tokens
tokens_without number name statics tokens few =
    all_weaker (IsFree statics) (λ t. t.kind ≢ Name (static_name number name))
    (λ t free same.
    let free_kind = subst (λ kind. is_reserved_kind statics kind ≡ false) same free.1 in
    never_static number name (static_name number name) (omega (arith, few)) (free_name statics (static_name number name) free_kind).0 refl)
    tokens

absent : (number : ℕ) (name : List ℕ) (files : List FileTree) → number < 100000 → AllByRecursion IsClean files → IsAbsent (static_name number name) files
absent number name files few clean =
    All-from_recursion (λ file. All (λ t. t.kind ≢ Name (static_name number name)) file.tokens) files
    (all_weaker IsClean (λ file. All (λ t. t.kind ≢ Name (static_name number name)) file.tokens)
    (λ file c. All-from_recursion (λ t. t.kind ≢ Name (static_name number name)) file.tokens (tokens_without number name (statics_of file.unit) file.tokens few c.0)) files clean)

module _ (files : List FileTree) (clean : AllByRecursion IsClean files) where
  -- the new name of a static, and the number of its file
  abbrev IsNew : StaticOf → Type 0
  IsNew s = (s.number < 100000) × IsFreshName files (static_name s.number s.name)

  new_name : (number : ℕ) (statics : List (List ℕ)) (name : List ℕ) → number < 100000 → IsFreeName statics name × (is_name_among name statics ≡ true) → IsNew (record { number = number; name = name })
  new_name number statics name few h = (
    few,
    record {
      spelled = static_spelled number name few ((free_name statics name h.0.1).1 h.1) h.0.0.0;
      no_main = never_static number name (codes "main") (omega (arith, few)) refl;
      no_in = never_static number name (codes "__in") (omega (arith, few)) refl;
      no_out = never_static number name (codes "__out") (omega (arith, few)) refl;
      absent = absent number name files few clean;
    },
  )

  each_new : (number : ℕ) (rest : List FileTree) → number + length rest ≤ 100000 → AllByRecursion IsClean rest → AllByRecursion IsNew (all_statics number rest)
  each_new number [] few h = tt {0}
  each_new number (file ∷ rest) few h =
      let statics = statics_of file.unit in
      all_joined IsNew (map (λ name. record { number = number; name = name }) statics) (all_statics (suc number) rest)
      (all_mapped IsNew (λ name. record { number = number; name = name }) statics
      (all_weaker (λ name. IsFreeName statics name × (is_name_among name statics ≡ true)) (λ name. IsNew (record { number = number; name = name })) (λ name free. new_name number statics name (omega (arith, few)) free) statics
      (all_paired (IsFreeName statics) (λ name. is_name_among name statics ≡ true) statics
      (statics_named (IsFreeName statics) file.tokens file.unit (tokens_named statics file.tokens h.0.0) h.0.1.derives)
      (each_among statics))))
      (each_new (suc number) rest (omega (arith, few)) h.1)

  fresh : length files ≤ 16 → IsFresh static_name files
  fresh few =
      let new : All IsNew (all_statics 1 files) = All-from_recursion IsNew (all_statics 1 files) (each_new 1 files (omega (arith, few)) clean) in
      record {
        names = λ k d less. (new k d less).1;
        apart = λ s t in_s in_t same.
            let low = (All-contains IsNew (all_statics 1 files) s new in_s).0 in
            let high = (All-contains IsNew (all_statics 1 files) t new in_t).0 in
            let both = one_static s.number t.number s.name t.name (omega (arith, low)) (omega (arith, high)) same in
            λ i. record { number = both.0 i; name = both.1 i };
      }

pub static_names_fresh : (sources : List (List ℕ)) (files : List FileTree) → length sources ≤ 16 → AreFiles sources files → reserved_fault 1 files ≡ None → IsFresh static_name files
static_names_fresh sources files few are none = fresh files (files_clean 1 sources files are none) (omega (arith, few, as_many sources files are))
