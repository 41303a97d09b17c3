-- Files that were read, and what comes of them.
use Rattle.std.proofs.Common.{◌≡◌, ◌∙◌, ◌≤◌, ◌<◌, ◌^◌, ◌++◌, ℕ, List, [], ◌∷◌, length, map, None, refl, sym, ap, subst, arith}
use Rattle.std.specs.Prelude.{All}
use Rattle.std.specs.List.{AllByRecursion}
use Rattle.std.proofs.lemmas.List.{length-map}
use Rattle.std.proofs.lemmas.List.Elements.{All-from_recursion}
use Rattle.c_tree.specs.c_syntax.declared.token.Token.{Token}
use Rattle.c_tree.specs.c_syntax.declared.token.TokenKind.{TokenKind}
use Rattle.c_tree.specs.c_syntax.Lexes.{Lexes, most_tokens}
use Rattle.c_syntax.proofs.OneReading.{one_token_list}
use Rattle.c_lexer.specs.TokenText.{spelled, tokens_text, placed_from}
use Rattle.c_lexer.proofs.SpelledTokens.{lexed_spelled}
use Rattle.c_units.specs.Files.{FileTree, AreFiles}
use Rattle.c_units.specs.Statics.{static_name}
use Rattle.c_units.specs.Joining.{kinds_text, joined_kinds, joint_fault, Joins, IsJoined}
use Rattle.c_units.proofs.FileLemmas.{few_left}
use Rattle.c_units.proofs.SpellingLemmas.{as_many, kinds_placed, joined_placed, joined_text, text_fits}

pub as_few : {A B : Type 0} (f : A → List ℕ) (g : B → FileTree) (xs : List A) (ys : List B) → AreFiles (map f xs) (map g ys) → length ys ≡ length xs
as_few f g xs ys are = sym (length-map ys g) ∙ as_many (map f xs) (map g ys) are ∙ length-map xs f

each_few : {B : Type 0} (g : B → FileTree) (sources : List (List ℕ)) (ys : List B) → AreFiles sources (map g ys) → AllByRecursion (λ y. length (g y).tokens ≤ most_tokens) ys
each_few g [] [] are = tt {0}
each_few g [] (y ∷ ys) are = absurd are
each_few g (source ∷ sources) [] are = absurd are
each_few g (source ∷ sources) (y ∷ ys) are = (few_left source (g y).tokens (g y).externs are.0.tree.tokens, each_few g sources ys are.1)

pub all_few : {B : Type 0} (g : B → FileTree) (sources : List (List ℕ)) (ys : List B) → AreFiles sources (map g ys) → All (λ y. length (g y).tokens ≤ most_tokens) ys
all_few g sources ys are = All-from_recursion (λ y. length (g y).tokens ≤ most_tokens) ys (each_few g sources ys are)

-- ---- the text

-- a token of this kind
abbrev bare : TokenKind → Token
bare kind = record { kind = kind; at = 0; len = 0 }

bare_kinds : (kinds : List TokenKind) → map (λ t. t.kind) (map bare kinds) ≡ kinds
bare_kinds [] = refl
bare_kinds (kind ∷ kinds) = ap (λ l. kind ∷ l) (bare_kinds kinds)

text_of_kinds : (tokens : List Token) → tokens_text tokens ≡ kinds_text (map (λ t. t.kind) tokens)
text_of_kinds [] = refl
text_of_kinds (t ∷ ts) = ap (λ l. spelled t.kind ++ l) (text_of_kinds ts)

-- a text of the joined kinds is that of the files' tokens, joined
pub text_joined : (sources : List (List ℕ)) (files : List FileTree) (text : List ℕ) → length sources ≤ 16 → AreFiles sources files → joint_fault files ≡ None
    → text ≡ kinds_text (joined_kinds static_name 1 files) → IsJoined sources text
text_joined sources files text few are none is =
    let kinds = joined_kinds static_name 1 files in
    let tokens = placed_from 0 (map bare kinds) in
    let joins : Joins sources tokens = record { files = files; are = are; no_fault = none; joined = joined_placed static_name files (map bare kinds) (bare_kinds kinds) } in
    let same : text ≡ tokens_text tokens = is ∙ sym (text_of_kinds tokens ∙ ap kinds_text (kinds_placed 0 (map bare kinds) ∙ bare_kinds kinds)) in
    record { tokens = tokens; joins = joins; is = same; lexes = subst (λ l. Lexes l tokens) (sym same) (joined_text sources tokens few joins) }

pub joined_short : (sources : List (List ℕ)) (text : List ℕ) → IsJoined sources text → length text < 2 ^ 32
joined_short sources text joined = omega (arith, ap length joined.is, text_fits joined.tokens (lexed_spelled text joined.tokens joined.lexes) joined.lexes.1)

pub tokens_joined : (sources : List (List ℕ)) (text : List ℕ) (tokens : List Token) → IsJoined sources text → Lexes text tokens → Joins sources tokens
tokens_joined sources text tokens joined lexes = subst (Joins sources) (one_token_list text joined.tokens tokens joined.lexes lexes) joined.joins
