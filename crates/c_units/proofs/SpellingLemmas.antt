-- The tokens of files, joined: each has a spelling, and their text is short.
use Rattle.std.proofs.Common.{arith, ◌≡◌, ℕ, zero, suc, ◌+◌, ◌*◌, ◌/◌, ◌≤◌, ◌<◌, ◌^◌, Bool, true, false, cond, List, [], ◌∷◌, ◌++◌, length, map, Option, Some, None, refl, sym, ap, ◌∙◌, subst, length-append}
use Rattle.std.specs.Prelude.{nat_lt, ◌||◌, ◌&&◌, All, if◌then◌else◌, option_map}
use Rattle.std.specs.List.{AllByRecursion}
use Rattle.std.specs.Option.{option_or}
use Rattle.std.proofs.lemmas.Bool.Decides.{nat_tests}
use Rattle.std.proofs.lemmas.Fmt.{length-decimal-le}
use Rattle.std.proofs.lemmas.List.{length-map}
use Rattle.std.proofs.lemmas.List.Sums.{sum_by-cons}
use Rattle.std.proofs.lemmas.List.Elements.{All-from_recursion, recursion_from_All}
use Rattle.word_base.specs.Name.{IsName}
use Rattle.c_tree.specs.c_syntax.declared.token.Token.{Token}
use Rattle.c_tree.specs.c_syntax.declared.token.TokenKind.{TokenKind}
use Rattle.c_tree.specs.c_syntax.declared.token.TokenKind.TheVariants.{Word, Name, Number, Char, Mark}
use Rattle.c_tree.specs.c_syntax.declared.token.Keyword.{Keyword}
use Rattle.c_tree.specs.c_syntax.declared.token.Keyword.TheVariants as keyword
use Rattle.c_tree.specs.c_syntax.declared.token.Punct.{Punct}
use Rattle.c_tree.specs.c_syntax.declared.token.Punct.TheVariants as mark
use Rattle.c_tree.specs.c_syntax.FixedTexts.{keyword_text, mark_text}
use Rattle.c_tree.specs.c_syntax.Lexes.{most_tokens, Lexes}
use Rattle.c_tree.specs.c_syntax.Source.{IsSource}
use Rattle.c_lexer.specs.TokenText.{hexadecimal, number_text, suffix_text, kind_text, separator, tokens_text, placed_from, HasSpelling}
use Rattle.c_lexer.proofs.SpelledTokens.{lexed_spelled}
use Rattle.c_lexer.proofs.TokenTexts.{lexes_again}
use Rattle.c_rules.specs.Units.{is_name_among}
use Rattle.c_renaming.specs.RenamedTokens.{renamed_kind}
use Rattle.c_units.specs.Externs.{Position, AtStart, Within, is_dropped, after_token, kept}
use Rattle.c_units.specs.Statics.{statics_of, static_name, ends_in_number, is_reserved_kind, reserved_at}
use Rattle.c_units.specs.Files.{FileTree, HasTokens, AreFiles}
use Rattle.c_units.specs.Joining.{Choice, renaming_of, file_kinds, joined_kinds, Joined, reserved_fault, undefined_fault, token_count, count_fault, Joins}
use Rattle.c_units.specs.declared.fault.UnitFault.{UnitFault}
use Rattle.c_units.specs.declared.fault.UnitFault.TheVariants.{Reserved, TooManyTokens}
use Rattle.c_units.proofs.ListLemmas.{all_unmapped, all_joined}
use Rattle.c_units.proofs.NumberLemmas.{static_is_name, static_is_no_keyword}

-- ---- places depend on kinds alone

abbrev token_at : ℕ → TokenKind → Token
token_at at kind = record { kind = kind; at = at; len = length (kind_text kind) }

pub placed_by_kinds : (at : ℕ) (ts us : List Token) → map (λ t. t.kind) ts ≡ map (λ t. t.kind) us → placed_from at ts ≡ placed_from at us
placed_by_kinds at [] [] same = refl
placed_by_kinds at [] (u ∷ us) same = absurd cc
placed_by_kinds at (t ∷ ts) [] same = absurd cc
placed_by_kinds at (t ∷ ts) (u ∷ us) same =
    let first : t.kind ≡ u.kind = cc in
    let rest : map (λ t. t.kind) ts ≡ map (λ t. t.kind) us = cc in
    ap (λ kind. token_at at kind ∷ placed_from (at + (length (kind_text kind) + 1)) ts) first
    ∙ ap (λ l. token_at at u.kind ∷ l) (placed_by_kinds (at + (length (kind_text u.kind) + 1)) ts us rest)

pub kinds_placed : (at : ℕ) (ts : List Token) → map (λ t. t.kind) (placed_from at ts) ≡ map (λ t. t.kind) ts
kinds_placed at [] = refl
kinds_placed at (t ∷ ts) = ap (λ l. t.kind ∷ l) (kinds_placed (at + (length (kind_text t.kind) + 1)) ts)

pub placed_again : (at : ℕ) (ts : List Token) → placed_from at (placed_from at ts) ≡ placed_from at ts
placed_again at ts = placed_by_kinds at (placed_from at ts) ts (kinds_placed at ts)

-- tokens of the joined kinds are the joined tokens, once they have their places
pub joined_placed : (choice : Choice) (files : List FileTree) (ts : List Token) → map (λ t. t.kind) ts ≡ joined_kinds choice 1 files → Joined choice files (placed_from 0 ts)
joined_placed choice files ts are = record { kinds = kinds_placed 0 ts ∙ are; placed = sym (placed_again 0 ts) }

-- ---- lengths

hexadecimal_length : (count n : ℕ) → length (hexadecimal count n) ≤ count
hexadecimal_length zero n = omega arith
hexadecimal_length (suc count) n = one_more (nat_lt n 16) _ (hexadecimal count (n / 16)) _ (hexadecimal_length count (n / 16))
  where
    one_more : (b : Bool) (c : ℕ) (front : List ℕ) (d : ℕ) → length front ≤ count → length (cond b (c ∷ []) (front ++ d ∷ [])) ≤ suc count
    one_more true c front d few = omega arith
    one_more false c front d few = omega (arith, length-append front (d ∷ []), few)

keyword_length : (k : Keyword) → length (keyword_text k) ≤ 8
keyword_length keyword.Auto = omega arith
keyword_length k = omega arith

mark_length : (m : Punct) → length (mark_text m) ≤ 3
mark_length mark.OpenBracket = omega arith
mark_length m = omega arith

suffix_length : (marked : Bool) → length (suffix_text marked) ≤ 1
suffix_length true = omega arith
suffix_length false = omega arith

number_length : (value : ℕ) (is_decimal : Bool) → value < 2 ^ 32 → length (number_text value is_decimal) ≤ 10
number_length value true few = length-decimal-le 10 value (omega arith) (omega (arith, few)) (omega (arith, few))
number_length value false few = omega (arith, hexadecimal_length 8 value)

pub kind_length : (kind : TokenKind) → HasSpelling kind → length (kind_text kind) ≤ 127
kind_length (Word keyword) h = omega (arith, keyword_length keyword)
kind_length (Name name) h = h.0.to_127
kind_length (Number value marked is_decimal) h =
    omega (arith, length-append (number_text value is_decimal) (suffix_text marked), number_length value is_decimal (omega (arith, h.0)), suffix_length marked)
kind_length (Char value) h = omega arith
kind_length (Mark mark) h = omega (arith, mark_length mark)

text_length : (tokens : List Token) → AllByRecursion (λ t. HasSpelling t.kind) tokens → length (tokens_text tokens) ≤ 128 * length tokens
text_length [] h = omega arith
text_length (t ∷ ts) h =
    let more = text_length ts h.1 in
    let one = kind_length t.kind h.0 in
    omega (arith, more, one, length-append (kind_text t.kind) (separator t.kind ∷ []), length-append (kind_text t.kind ++ separator t.kind ∷ []) (tokens_text ts))

pub text_fits : (tokens : List Token) → All (λ t. HasSpelling t.kind) tokens → length tokens ≤ most_tokens → length (tokens_text tokens) < 2 ^ 32
text_fits tokens h few = omega (arith, few, text_length tokens (recursion_from_All (λ t. HasSpelling t.kind) tokens h))

-- ---- the tokens of files have spellings, and none is reserved

pub left_of : (P : Token → Type 0) (position : Position) (tokens : List Token) → AllByRecursion P tokens → AllByRecursion P (kept position tokens)
left_of P position [] h = tt {0}
left_of P position (t ∷ ts) h = by (is_dropped position t ts) (left_of P (Within false) ts h.1) (left_of P (after_token position t.kind) ts h.1)
  where
    by : (b : Bool) → AllByRecursion P (kept (Within false) ts) → AllByRecursion P (kept (after_token position t.kind) ts)
        → AllByRecursion P (if b then kept (Within false) ts else t ∷ kept (after_token position t.kind) ts)
    by true dropped other = dropped
    by false dropped other = (h.0, other)

pub tokens_spelled : (bytes : List ℕ) (tokens : List Token) (externs : List ℕ) → HasTokens bytes tokens externs → AllByRecursion (λ t. HasSpelling t.kind) tokens
tokens_spelled bytes tokens externs h =
    subst (AllByRecursion (λ t. HasSpelling t.kind)) (sym h.left)
    (left_of (λ t. HasSpelling t.kind) AtStart h.all (recursion_from_All (λ t. HasSpelling t.kind) h.all (lexed_spelled bytes h.all h.lexes)))

-- a token that has a spelling, and whose name isn't reserved beside these statics
abbrev pub IsFree : List (List ℕ) → Token → Type 0
IsFree statics t = HasSpelling t.kind × (is_reserved_kind statics t.kind ≡ false)

tokens_free : (statics : List (List ℕ)) (tokens : List Token) → AllByRecursion (λ t. HasSpelling t.kind) tokens → reserved_at statics tokens ≡ None → AllByRecursion (IsFree statics) tokens
tokens_free statics [] h none = tt {0}
tokens_free statics (t ∷ ts) h none = by (is_reserved_kind statics t.kind) refl (λ found. tokens_free statics ts h.1 found) none
  where
    by : (b : Bool) → is_reserved_kind statics t.kind ≡ b → (reserved_at statics ts ≡ None → AllByRecursion (IsFree statics) ts)
        → (if b then Some t.at else reserved_at statics ts) ≡ None → AllByRecursion (IsFree statics) (t ∷ ts)
    by true is more found = absurd cc
    by false is more found = ((h.0, is), more found)

-- a file with such tokens, of which it is the tree
abbrev pub IsClean : FileTree → Type 0
IsClean file = AllByRecursion (IsFree (statics_of file.unit)) file.tokens × IsSource file.tokens file.unit

no_fault : (number : ℕ) (own : Option ℕ) (rest : Option UnitFault) → option_or (option_map (Reserved number) own) rest ≡ None → (own ≡ None) × (rest ≡ None)
no_fault number None rest none = (refl, none)
no_fault number (Some at) rest none = absurd cc

pub files_clean : (number : ℕ) (sources : List (List ℕ)) (files : List FileTree) → AreFiles sources files → reserved_fault number files ≡ None → AllByRecursion IsClean files
files_clean number [] [] are none = tt {0}
files_clean number [] (file ∷ files) are none = absurd are
files_clean number (source ∷ sources) [] are none = absurd are
files_clean number (source ∷ sources) (file ∷ files) are none =
    let parts = no_fault number (reserved_at (statics_of file.unit) file.tokens) (reserved_fault (suc number) files) none in
    let tree = are.0.tree in (
      (tokens_free (statics_of file.unit) file.tokens (tokens_spelled source file.tokens file.externs tree.tokens) parts.0, tree.source),
      files_clean (suc number) sources files are.1 parts.1,
    )

pub as_many : (sources : List (List ℕ)) (files : List FileTree) → AreFiles sources files → length files ≡ length sources
as_many [] [] are = refl
as_many [] (file ∷ files) are = absurd are
as_many (source ∷ sources) [] are = absurd are
as_many (source ∷ sources) (file ∷ files) are = ap suc (as_many sources files are.1)

-- ---- the joined tokens have spellings

free_parts : (a b c : Bool) → (a || (b && c)) ≡ false → (a ≡ false) × (b ≡ true → c ≡ false)
free_parts true b c e = absurd cc
free_parts false true c e = (refl, λ is. e)
free_parts false false c e = (refl, λ is. absurd cc)

-- what a name that isn't reserved is
pub free_name : (statics : List (List ℕ)) (name : List ℕ) → is_reserved_kind statics (Name name) ≡ false → (ends_in_number name ≡ false) × (is_name_among name statics ≡ true → length name ≤ 120)
free_name statics name free =
    let parts = free_parts (ends_in_number name) (is_name_among name statics) (nat_lt 120 (length name)) free in
    (parts.0, λ among. short (length name) (parts.1 among))
  where
    short : (n : ℕ) → nat_lt 120 n ≡ false → n ≤ 120
    short n e = grind (arith, nat_tests, e)

pub static_spelled : (number : ℕ) (name : List ℕ) → number < 100000 → length name ≤ 120 → IsName name → HasSpelling (Name (static_name number name))
static_spelled number name few short is = (static_is_name number name few short is, static_is_no_keyword number name few)

kind_spelled : (number : ℕ) (file : FileTree) (kind : TokenKind) → number < 100000 → HasSpelling kind → is_reserved_kind (statics_of file.unit) kind ≡ false
    → HasSpelling (renamed_kind (renaming_of static_name number file) kind)
kind_spelled number file (Word keyword) few h free = h
kind_spelled number file (Number value marked is_decimal) few h free = h
kind_spelled number file (Char value) few h free = h
kind_spelled number file (Mark mark) few h free = h
kind_spelled number file (Name name) few h free = by (is_name_among name (statics_of file.unit)) refl
  where
    by : (b : Bool) → is_name_among name (statics_of file.unit) ≡ b → HasSpelling (Name (if b then static_name number name else name))
    by true among = static_spelled number name few ((free_name (statics_of file.unit) name free).1 among) h.0
    by false among = h

each_spelled : (number : ℕ) (file : FileTree) (tokens : List Token) → number < 100000 → AllByRecursion (IsFree (statics_of file.unit)) tokens
    → AllByRecursion HasSpelling (map (λ t. renamed_kind (renaming_of static_name number file) t.kind) tokens)
each_spelled number file [] few h = tt {0}
each_spelled number file (t ∷ ts) few h = (kind_spelled number file t.kind few h.0.0 h.0.1, each_spelled number file ts few h.1)

clean_spelled : (number : ℕ) (files : List FileTree) → number + length files ≤ 100000 → AllByRecursion IsClean files → AllByRecursion HasSpelling (joined_kinds static_name number files)
clean_spelled number [] few clean = tt {0}
clean_spelled number (file ∷ files) few clean =
    all_joined HasSpelling (map (λ t. renamed_kind (renaming_of static_name number file) t.kind) file.tokens) (joined_kinds static_name (suc number) files)
    (each_spelled number file file.tokens (omega (arith, few)) clean.0.0) (clean_spelled (suc number) files (omega (arith, few)) clean.1)

pub joined_spelled : (sources : List (List ℕ)) (files : List FileTree) → length sources ≤ 16 → AreFiles sources files → reserved_fault 1 files ≡ None
    → All HasSpelling (joined_kinds static_name 1 files)
joined_spelled sources files few are none =
    All-from_recursion HasSpelling (joined_kinds static_name 1 files)
    (clean_spelled 1 files (omega (arith, few, as_many sources files are)) (files_clean 1 sources files are none))

-- ---- their text has the joined tokens

pub spelled_by_kinds : (tokens : List Token) (kinds : List TokenKind) → map (λ t. t.kind) tokens ≡ kinds → All HasSpelling kinds → All (λ t. HasSpelling t.kind) tokens
spelled_by_kinds tokens kinds are h =
    All-from_recursion (λ t. HasSpelling t.kind) tokens
    (all_unmapped HasSpelling (λ t. t.kind) tokens (subst (AllByRecursion HasSpelling) (sym are) (recursion_from_All HasSpelling kinds h)))

pub joined_count : (choice : Choice) (number : ℕ) (files : List FileTree) → length (joined_kinds choice number files) ≡ token_count files
joined_count choice number [] = refl
joined_count choice number (file ∷ files) =
    length-append (file_kinds choice number file) (joined_kinds choice (suc number) files)
    ∙ (λ i. length-map file.tokens (λ t. renamed_kind (renaming_of choice number file) t.kind) i + joined_count choice (suc number) files i)
    ∙ sym (sum_by-cons (λ f. length f.tokens) file files)

pub few_tokens : (count : ℕ) → (if nat_lt most_tokens count then Some (TooManyTokens count) else None) ≡ None → count ≤ most_tokens
few_tokens count none = by (nat_lt most_tokens count) refl none
  where
    by : (b : Bool) → nat_lt most_tokens count ≡ b → (if b then Some (TooManyTokens count) else None) ≡ None → count ≤ most_tokens
    by true is found = absurd cc
    by false is found = grind (arith, nat_tests, is)

pub none_before : (a b : Option UnitFault) → option_or a b ≡ None → (a ≡ None) × (b ≡ None)
none_before None b none = (refl, none)
none_before (Some fault) b none = absurd cc

pub joined_text : (sources : List (List ℕ)) (tokens : List Token) → length sources ≤ 16 → Joins sources tokens → Lexes (tokens_text tokens) tokens
joined_text sources tokens few joins =
    let first = none_before (reserved_fault 1 joins.files) (option_or (undefined_fault joins.files) (count_fault joins.files)) joins.no_fault in
    let second = none_before (undefined_fault joins.files) (count_fault joins.files) first.1 in
    let counted : length tokens ≡ token_count joins.files =
    sym (length-map tokens (λ t. t.kind)) ∙ ap length joins.joined.kinds ∙ joined_count static_name 1 joins.files in
    let spelled = spelled_by_kinds tokens (joined_kinds static_name 1 joins.files) joins.joined.kinds (joined_spelled sources joins.files few joins.are first.0) in
    let fits : length tokens ≤ most_tokens = omega (arith, counted, few_tokens (token_count joins.files) second.1) in
    subst (Lexes (tokens_text tokens)) (sym joins.joined.placed) (lexes_again tokens (tokens_text tokens) refl spelled fits)
