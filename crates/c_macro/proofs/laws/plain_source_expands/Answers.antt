use Rattle.std.proofs.Common.{◌≡◌, ◌≢◌, ℕ, zero, suc, ◌+◌, ◌<◌, ◌≤◌, Bool, true, false, cond, List, [], ◌∷◌, ◌++◌, length, take, drop, get_or, Some, None, refl, sym, ap, ◌∙◌, subst, arith, inl, inr, ⊎_elim, append_assoc, append-nil, length-append}
use Rattle.std.specs.Prelude.{⊤, ◌⊎◌, ◌==◌, ◌&&◌, nat_lt, Result, Ok, Err, All}
use Rattle.std.specs.List.{concat, AllByRecursion}
use Rattle.std.specs.Char.{digit_value}
use Rattle.std.proofs.Math.Seq.{take-append_seam, drop-append_seam}
use Rattle.std.proofs.lemmas.Bool.{cases_eq, ne_eqb}
use Rattle.std.proofs.lemmas.Bool.Decides.{nat_tests}
use Rattle.std.proofs.lemmas.List.Elements.{recursion_from_All}
use Rattle.word_base.specs.Name.{IsNameStart, IsNamePart}
use Rattle.c_syntax.specs.declared.token.Punct.{Punct}
use Rattle.c_syntax.specs.declared.token.Punct.TheVariants as mark
use Rattle.c_syntax.specs.declared.token.Token.{Token}
use Rattle.c_syntax.specs.declared.token.TokenKind.{TokenKind}
use Rattle.c_syntax.specs.declared.token.TokenKind.TheVariants as kind
use Rattle.c_syntax.specs.FixedTexts.{mark_text}
use Rattle.c_syntax.specs.Constants.{AreDigits, beside, escapes, IsItem, Plain, Escape, OctalEscape, HexEscape}
use Rattle.c_syntax.specs.Spelling.{IsNumberPart, IsSpelling, OfWord, OfNumber, OfCharacter, OfMark}
use Rattle.c_syntax.specs.Lexes.{IsSpace, HasNoCommentEnd, IsComment, IsLongest, Piece, Blank, Spelled, piece_text, pieces_text, MayStand, AllStand, tokens_from, most_tokens, Lexes}
use Rattle.c_syntax.proofs.Reading.{pieces_text-append, tokens_from-append}
use Rattle.c_syntax.proofs.Pieces.{comment_front, piece_begins}
use Rattle.c_macro.specs.declared.fault.MacroFault.{MacroFault}
use Rattle.c_macro.specs.declared.fault.MacroFault.TheVariants.{TooMany}
use Rattle.c_macro.specs.declared.fault.MacroLimit.TheVariants.{Tokens}
use Rattle.c_macro.specs.declared.lines.LineSize.{LineSize}
use Rattle.c_macro.specs.Lines.{longer, closed_line, line_within, first_line, open_comment}
use Rattle.c_macro.specs.Directives.{IsOther}
use Rattle.c_macro.specs.Macros.{no_macros, Step, Answers, steps, most_macros, Output, with_token, taken}
use Rattle.c_macro.specs.Expands.{at_start, steps_of, LineDoes, KeptText, ComesTo, AtEnd, GoesOn, nothing_yet, Expands}
use Rattle.c_macro.proofs.laws.plain_source_expands.Goals as goal

-- ---- the first line of a text, a byte after another

longer_none : (line : LineSize) → longer 0 line ≡ line
longer_none line = ap (λ n. record { bytes = n; is_open = line.is_open }) (omega arith)

longer_twice : (a b : ℕ) (line : LineSize) → longer a (longer b line) ≡ longer (a + b) line
longer_twice a b line = ap (λ n. record { bytes = n; is_open = line.is_open }) (omega arith)

-- a line goes on over a byte that is no line feed and opens no comment
no_opening : (c d : ℕ) → (c ≡ 47 → d ≢ 42) → ((c == 47) && (d == 42)) ≡ false
no_opening c d h = ⊎_elim (λ is. ap (λ b. (c == 47) && b) (ne_eqb d 42 (h is)) ∙ both (c == 47)) (λ not. ap (λ b. b && (d == 42)) (ne_eqb c 47 not)) (cases_eq c 47)
  where
    both : (b : Bool) → (b && false) ≡ false
    both true = refl
    both false = refl

byte_on : (c : ℕ) (rest : List ℕ) → c ≢ 10 → (c ≡ 47 → (more : List ℕ) → rest ≢ 42 ∷ more) → first_line (c ∷ rest) ≡ longer 1 (first_line rest)
byte_on c [] no_feed no_comment = refl
byte_on c (d ∷ rest) no_feed no_comment =
    ap (λ b. cond b (closed_line 1) (cond ((c == 47) && (d == 42)) (line_within (Some 2) rest) (longer 1 (line_within None (d ∷ rest))))) (ne_eqb c 10 no_feed)
    ∙ ap (λ b. cond b (line_within (Some 2) rest) (longer 1 (line_within None (d ∷ rest)))) (no_opening c d (λ is same. no_comment is rest (ap (λ x. x ∷ rest) same)))

-- bytes over which a line goes on
abbrev GoesOver : List ℕ → List ℕ → Type 0
GoesOver [] rest = ⊤
GoesOver (c ∷ bytes) rest = (c ≢ 10) × (c ≡ 47 → (more : List ℕ) → bytes ++ rest ≢ 42 ∷ more) × GoesOver bytes rest

bytes_on : (bytes rest : List ℕ) → GoesOver bytes rest → first_line (bytes ++ rest) ≡ longer (length bytes) (first_line rest)
bytes_on [] rest over = sym (longer_none (first_line rest))
bytes_on (c ∷ bytes) rest over =
    byte_on c (bytes ++ rest) over.0 over.1 ∙ ap (longer 1) (bytes_on bytes rest over.2) ∙ longer_twice 1 (length bytes) (first_line rest)
    ∙ ap (λ n. longer n (first_line rest)) (omega arith)

-- ---- comments

inside_on : (read c d : ℕ) (rest : List ℕ) → (c ≡ 42 → d ≢ 47) → line_within (Some read) (c ∷ d ∷ rest) ≡ line_within (Some (suc read)) (d ∷ rest)
inside_on read c d rest h = ap (λ b. cond b (longer (suc (suc read)) (line_within None rest)) (line_within (Some (suc read)) (d ∷ rest))) (no_ending c d h)
  where
    both : (b : Bool) → (b && false) ≡ false
    both true = refl
    both false = refl

    no_ending : (c d : ℕ) → (c ≡ 42 → d ≢ 47) → ((c == 42) && (d == 47)) ≡ false
    no_ending c d h = ⊎_elim (λ is. ap (λ b. (c == 42) && b) (ne_eqb d 47 (h is)) ∙ both (c == 42)) (λ not. ap (λ b. b && (d == 47)) (ne_eqb c 42 not)) (cases_eq c 42)

no_end_behind : (c : ℕ) (rest : List ℕ) → HasNoCommentEnd (c ∷ rest) → HasNoCommentEnd rest
no_end_behind c rest h front back e = h (c ∷ front) back (ap (λ t. c ∷ t) e)

comment_rest : (inside rest : List ℕ) (read : ℕ) → HasNoCommentEnd (inside ++ 42 ∷ []) → line_within (Some read) (inside ++ 42 ∷ 47 ∷ rest) ≡ longer (read + length inside + 2) (first_line rest)
comment_rest [] rest read h = ap (λ n. longer n (first_line rest)) (omega arith)
comment_rest (c ∷ []) rest read h =
    inside_on read c 42 (47 ∷ rest) (λ is e. absurd (omega (arith, e))) ∙ comment_rest [] rest (suc read) (no_end_behind c (42 ∷ []) h)
    ∙ ap (λ n. longer n (first_line rest)) (omega arith)
comment_rest (c ∷ d ∷ inside) rest read h =
    inside_on read c d (inside ++ 42 ∷ 47 ∷ rest) (λ is e. h [] (inside ++ 42 ∷ []) (cc (is, e)))
    ∙ comment_rest (d ∷ inside) rest (suc read) (no_end_behind c (d ∷ inside ++ 42 ∷ []) h)
    ∙ ap (λ n. longer n (first_line rest)) (omega arith)

comment_on : (text rest : List ℕ) → IsComment text → first_line (text ++ rest) ≡ longer (length text) (first_line rest)
comment_on text rest is =
    ap first_line (comment_front text rest is) ∙ comment_rest is.inside rest 2 is.next
    ∙ ap (λ n. longer n (first_line rest)) (omega (arith, ap length is.whole, length-append is.inside (42 ∷ 47 ∷ [])))

-- ---- spellings

-- no line feed and no slash
abbrev IsInner : ℕ → Type 0
IsInner c = (c ≢ 10) × (c ≢ 47)

inner_over : (bytes rest : List ℕ) → AllByRecursion IsInner bytes → GoesOver bytes rest
inner_over [] rest h = tt {0}
inner_over (c ∷ bytes) rest h = (h.0.0, λ is more e. h.0.1 is, inner_over bytes rest h.1)

all_inner : (P : ℕ → Type 0) (bytes : List ℕ) → ((c : ℕ) → P c → IsInner c) → AllByRecursion P bytes → AllByRecursion IsInner bytes
all_inner P [] each h = tt {0}
all_inner P (c ∷ bytes) each h = (each c h.0, all_inner P bytes each h.1)

inner_joined : (xs ys : List ℕ) → AllByRecursion IsInner xs → AllByRecursion IsInner ys → AllByRecursion IsInner (xs ++ ys)
inner_joined [] ys g h = h
inner_joined (c ∷ xs) ys g h = (g.0, inner_joined xs ys g.1 h)

by_sign : (c : ℕ) → 48 ≤ c → IsInner c
by_sign c h = (λ e. omega (arith, h, e), λ e. omega (arith, h, e))

start_inner : (c : ℕ) → IsNameStart c → IsInner c
start_inner c (inl h) = by_sign c (omega (arith, h.0))
start_inner c (inr (inl h)) = by_sign c (omega (arith, h.0))
start_inner c (inr (inr h)) = by_sign c (omega (arith, h))

part_inner : (c : ℕ) → IsNamePart c → IsInner c
part_inner c (inl h) = start_inner c h
part_inner c (inr h) = by_sign c h.0

number_part_inner : (c : ℕ) → IsNumberPart c → IsInner c
number_part_inner c (inl h) = part_inner c h
number_part_inner c (inr h) = (λ e. omega (arith, h, e), λ e. omega (arith, h, e))

digit_inner : (c : ℕ) → digit_value c < 16 → IsInner c
digit_inner c h = by_sign c (grind arith)

digits_inner : (base : ℕ) (digits : List ℕ) → base ≤ 16 → AreDigits base digits → AllByRecursion IsInner digits
digits_inner base digits le h = all_inner (λ c. digit_value c < base) digits (λ c lt. digit_inner c (omega (arith, le, lt))) h.each

-- a first byte that is no line feed, and no slash behind it
record IsOneSlash (text : List ℕ) : Type 0 where
  first : ℕ
  rest : List ℕ
  whole : text ≡ first ∷ rest
  no_feed : first ≢ 10
  inner : AllByRecursion IsInner rest

one_slash_over : (text behind : List ℕ) → IsOneSlash text → ((rest : List ℕ) → text ++ behind ≢ 47 ∷ 42 ∷ rest) → GoesOver text behind
one_slash_over text behind h none =
    subst (λ t. GoesOver t behind) (sym h.whole)
    (h.no_feed, λ is more e. none more (ap (λ t. t ++ behind) h.whole ∙ cc (is, e)), inner_over h.rest behind h.inner)

-- the same as a test, for the marks
abbrev are_inner : List ℕ → Bool
are_inner [] = true
are_inner (c ∷ bytes) = cond (c == 10) false (cond (c == 47) false (are_inner bytes))

abbrev has_one_slash : List ℕ → Bool
has_one_slash [] = false
has_one_slash (c ∷ bytes) = cond (c == 10) false (are_inner bytes)

cond_false : (a b : Bool) → cond a false b ≡ true → (a ≡ false) × (b ≡ true)
cond_false true b e = absurd cc
cond_false false b e = (refl, e)

not_equal : (c d : ℕ) → (c == d) ≡ false → c ≢ d
not_equal c d e is = grind (arith, nat_tests)

inner_of : (bytes : List ℕ) → are_inner bytes ≡ true → AllByRecursion IsInner bytes
inner_of [] e = tt {0}
inner_of (c ∷ bytes) e =
    let f = cond_false (c == 10) (cond (c == 47) false (are_inner bytes)) e in
    let g = cond_false (c == 47) (are_inner bytes) f.1 in
    ((not_equal c 10 f.0, not_equal c 47 g.0), inner_of bytes g.1)

one_slash_of : (text : List ℕ) → has_one_slash text ≡ true → IsOneSlash text
one_slash_of [] e = absurd cc
one_slash_of (c ∷ bytes) e =
    let f = cond_false (c == 10) (are_inner bytes) e in
    record { first = c; rest = bytes; whole = refl; no_feed = not_equal c 10 f.0; inner = inner_of bytes f.1 }

mark_slash : (m : Punct) → has_one_slash (mark_text m) ≡ true
mark_slash mark.OpenBracket = refl
mark_slash m = refl

sign_inner : (sign value : ℕ) → beside sign escapes ≡ Some value → IsInner sign
sign_inner sign value e = (
  λ is. let k : None ≡ Some value = sym (ap (λ c. beside c escapes) is) ∙ e in cc,
  λ is. let k : None ≡ Some value = sym (ap (λ c. beside c escapes) is) ∙ e in cc,
)

backslash_inner : IsInner 92
backslash_inner = by_sign 92 (omega arith)

quote_inner : IsInner 39
quote_inner = (λ e. omega (arith, e), λ e. omega (arith, e))

inner_item : (text item : List ℕ) → text ≡ 39 ∷ item ++ 39 ∷ [] → AllByRecursion IsInner item → IsOneSlash text
inner_item text item whole h = record { first = 39; rest = item ++ 39 ∷ []; whole = whole; no_feed = quote_inner.0; inner = inner_joined item (39 ∷ []) h (quote_inner, tt {0}) }

escape_inner : (item body : List ℕ) → item ≡ 92 ∷ body → AllByRecursion IsInner body → AllByRecursion IsInner item
escape_inner item body is h = subst (AllByRecursion IsInner) (sym is) (backslash_inner, h)

item_over : (text item behind : List ℕ) (value : ℕ) → text ≡ 39 ∷ item ++ 39 ∷ [] → IsItem item value → ((rest : List ℕ) → text ++ behind ≢ 47 ∷ 42 ∷ rest) → GoesOver text behind
item_over text item behind value whole (Plain is within no_quote no_backslash) none =
    subst (λ t. GoesOver t behind) (sym (whole ∙ ap (λ i. 39 ∷ i ++ 39 ∷ []) is))
    (quote_inner.0, λ e more f. quote_inner.1 e, (λ e. omega (arith, within.0, e), λ e more f. omega (arith, ap (λ l. get_or l 0 0) f), (quote_inner.0, λ e more f. quote_inner.1 e, tt {0})))
item_over text item behind value whole (Escape sign is at) none =
    one_slash_over text behind (inner_item text item whole (escape_inner item (sign ∷ []) is (sign_inner sign value at, tt {0}))) none
item_over text item behind value whole (OctalEscape digits is are few e) none =
    one_slash_over text behind (inner_item text item whole (escape_inner item digits is (digits_inner 8 digits (omega arith) are))) none
item_over text item behind value whole (HexEscape digits is are few e) none =
    one_slash_over text behind (inner_item text item whole (escape_inner item (120 ∷ digits) is (by_sign 120 (omega arith), digits_inner 16 digits (omega arith) are))) none

spelling_over : (text behind : List ℕ) → IsSpelling text → ((rest : List ℕ) → text ++ behind ≢ 47 ∷ 42 ∷ rest) → GoesOver text behind
spelling_over text behind (OfWord w) none =
    one_slash_over text behind (record { first = w.first; rest = w.rest; whole = w.whole; no_feed = (start_inner w.first w.starts).0; inner = all_inner IsNamePart w.rest part_inner w.parts }) none
spelling_over text behind (OfNumber n) none =
    one_slash_over text behind (record { first = n.first; rest = n.rest; whole = n.whole; no_feed = (by_sign n.first n.starts.0).0; inner = all_inner IsNumberPart n.rest number_part_inner n.parts }) none
spelling_over text behind (OfCharacter value c) none = item_over text c.item behind value c.quoted c.stands none
spelling_over text behind (OfMark m is) none = one_slash_over text behind (subst IsOneSlash (sym is) (one_slash_of (mark_text m) (mark_slash m))) none

-- ---- pieces

space_no_slash : (c : ℕ) → IsSpace c → c ≢ 47
space_no_slash c (inl h) e = omega (arith, h, e)
space_no_slash c (inr h) e = omega (arith, h.1, e)

feed_on : (c : ℕ) (rest : List ℕ) → c ≡ 10 → first_line (c ∷ rest) ≡ closed_line 1
feed_on c [] e = refl
feed_on c (d ∷ rest) e = ap (λ x. first_line (x ∷ d ∷ rest)) e

-- a piece ends the line, or the line goes on behind it
abbrev IsLinePart : List ℕ → List ℕ → Type 0
IsLinePart part rest = (first_line (part ++ rest) ≡ closed_line (length part)) ⊎ (first_line (part ++ rest) ≡ longer (length part) (first_line rest))

space_part : (text : List ℕ) (c : ℕ) (rest : List ℕ) → IsSpace c → text ≡ c ∷ [] → IsLinePart text rest
space_part text c rest space is = subst (λ t. IsLinePart t rest) (sym is) (⊎_elim (λ e. inl (feed_on c rest e)) (λ n. inr (byte_on c rest n (λ e more f. space_no_slash c space e))) (cases_eq c 10))

piece_part : (p : Piece) (rest : List ℕ) → MayStand p rest → IsLinePart (piece_text p) rest
piece_part (Blank text) rest (inl h) = space_part text h.0 rest h.1 h.2
piece_part (Blank text) rest (inr h) = inr (comment_on text rest h)
piece_part (Spelled text kind) rest h = inr (bytes_on text rest (spelling_over text rest h.0.spelled (λ more e. h.0.no_comment (more, e))))

-- the pieces of the first line, and those behind it
record Cut (p : Piece) (ps : List Piece) : Type 0 where
  front : List Piece
  back : List Piece
  joined : ps ≡ front ++ back
  line : first_line (pieces_text (p ∷ ps) ++ []) ≡ closed_line (length (pieces_text (p ∷ front)))

joined_line : (p : Piece) (ps : List Piece) → first_line (pieces_text (p ∷ ps) ++ []) ≡ first_line (piece_text p ++ (pieces_text ps ++ []))
joined_line p ps = ap first_line (append_assoc (piece_text p) (pieces_text ps) [])

cut_of : (p : Piece) (ps : List Piece) → AllStand (p ∷ ps) [] → Cut p ps
cut_of p [] stand = record {
  front = [];
  back = [];
  joined = refl;
  line =
      joined_line p []
      ∙ ⊎_elim (λ (e : first_line (piece_text p ++ []) ≡ closed_line (length (piece_text p))). e) (λ e. e ∙ ap closed_line (omega arith)) (piece_part p [] stand.0)
      ∙ ap closed_line (sym (ap length (append-nil (piece_text p))));
}
cut_of p (q ∷ ps) stand = ⊎_elim ends (goes_on (cut_of q ps stand.1)) (piece_part p (pieces_text (q ∷ ps) ++ []) stand.0)
  where
    ends : first_line (piece_text p ++ (pieces_text (q ∷ ps) ++ [])) ≡ closed_line (length (piece_text p)) → Cut p (q ∷ ps)
    ends e = record {
      front = [];
      back = q ∷ ps;
      joined = refl;
      line = joined_line p (q ∷ ps) ∙ e ∙ ap closed_line (sym (ap length (append-nil (piece_text p))));
    }

    goes_on : Cut q ps → first_line (piece_text p ++ (pieces_text (q ∷ ps) ++ [])) ≡ longer (length (piece_text p)) (first_line (pieces_text (q ∷ ps) ++ [])) → Cut p (q ∷ ps)
    goes_on cut e = record {
      front = q ∷ cut.front;
      back = cut.back;
      joined = ap (λ l. q ∷ l) cut.joined;
      line =
          joined_line p (q ∷ ps) ∙ e ∙ ap (longer (length (piece_text p))) cut.line
          ∙ ap closed_line (sym (length-append (piece_text p) (pieces_text (q ∷ cut.front))));
    }

-- ---- the pieces of a line stand without what follows it

longest_alone : (spelling rest behind : List ℕ) → IsLongest spelling (rest ++ behind) → IsLongest spelling rest
longest_alone spelling rest behind h = record {
  spelled = h.spelled;
  longest = λ other more e is. h.longest other (more ++ behind) (sym (append_assoc spelling rest behind) ∙ ap (λ t. t ++ behind) e ∙ append_assoc other more behind) is;
  no_comment = λ opens. h.no_comment (opens.0 ++ behind, sym (append_assoc spelling rest behind) ∙ ap (λ t. t ++ behind) opens.1);
}

piece_alone : (p : Piece) (rest behind : List ℕ) → MayStand p (rest ++ behind) → MayStand p rest
piece_alone (Blank text) rest behind h = h
piece_alone (Spelled text kind) rest behind h = (longest_alone text rest behind h.0, h.1)

front_texts : (front back : List Piece) → pieces_text (front ++ back) ++ [] ≡ (pieces_text front ++ []) ++ (pieces_text back ++ [])
front_texts front back =
    ap (λ t. t ++ []) (pieces_text-append front back) ∙ append_assoc (pieces_text front) (pieces_text back) []
    ∙ ap (λ t. t ++ (pieces_text back ++ [])) (sym (append-nil (pieces_text front)))

front_stands : (front back : List Piece) → AllStand (front ++ back) [] → AllStand front []
front_stands [] back h = tt {0}
front_stands (p ∷ front) back h =
    (piece_alone p (pieces_text front ++ []) (pieces_text back ++ []) (subst (MayStand p) (front_texts front back) h.0), front_stands front back h.1)

back_stands : (front back : List Piece) → AllStand (front ++ back) [] → AllStand back []
back_stands [] back h = h
back_stands (p ∷ front) back h = back_stands front back h.1

-- ---- no directive

abbrev HasNoHash : List ℕ → Type 0
HasNoHash text = AllByRecursion (λ c. c ≢ 35) text

no_hash_front : (xs ys : List ℕ) → HasNoHash (xs ++ ys) → HasNoHash xs
no_hash_front [] ys h = tt {0}
no_hash_front (c ∷ xs) ys h = (h.0, no_hash_front xs ys h.1)

no_hash_back : (xs ys : List ℕ) → HasNoHash (xs ++ ys) → HasNoHash ys
no_hash_back [] ys h = h
no_hash_back (c ∷ xs) ys h = no_hash_back xs ys h.1

is_other : (line : List ℕ) → HasNoHash line → IsOther line
is_other line h = record { by = λ behind is. (no_hash_back (concat is.blanks) (35 ∷ behind) (subst HasNoHash is.cut h)).0 refl }

-- ---- without macros each token is answered

no_macro : (left : ℕ) (t : Token) → steps left no_macros t ≡ Answers t ∷ []
no_macro zero t = refl
no_macro (suc left) t = by t.kind
  where
    by : (k : TokenKind) → steps (suc left) no_macros (record { kind = k; at = t.at; len = t.len }) ≡ Answers (record { kind = k; at = t.at; len = t.len }) ∷ []
    by (kind.Word keyword) = refl
    by (kind.Name name) = refl
    by k = refl

abbrev with_tokens : Output → List Token → Output
with_tokens out tokens = record { tokens = out.tokens ++ tokens; replacements = out.replacements }

one_taken : (out : Output) (t : Token) (rest : List Step) → length out.tokens < most_tokens → taken out (Answers t ∷ rest) ≡ taken (with_token out t) rest
one_taken out t rest h = ap (λ b. cond b (taken (with_token out t) rest) (Err (TooMany Tokens (most_tokens + 1)))) (below (length out.tokens) most_tokens h)
  where
    below : (a b : ℕ) → a < b → nat_lt a b ≡ true
    below a b h = grind (arith, nat_tests)

all_taken : (out : Output) (tokens : List Token) → length out.tokens + length tokens ≤ most_tokens → taken out (steps_of no_macros tokens) ≡ Ok (with_tokens out tokens)
all_taken out [] few = ap (λ l. Ok (record { tokens = l; replacements = out.replacements })) (sym (append-nil out.tokens))
all_taken out (t ∷ tokens) few =
    ap (λ l. taken out (l ++ steps_of no_macros tokens)) (no_macro most_macros t)
    ∙ one_taken out t (steps_of no_macros tokens) (omega (arith, few))
    ∙ all_taken (with_token out t) tokens (omega (arith, few, length-append out.tokens (t ∷ [])))
    ∙ ap (λ l. Ok (record { tokens = l; replacements = out.replacements })) (append_assoc out.tokens (t ∷ []) tokens)

-- ---- the lines one after another

goes_on_by : (out more : Output) (at : ℕ) (text line rest : List ℕ) (size : ℕ) (result : Result (List Token) MacroFault)
    → text ≢ [] → first_line text ≡ closed_line size → take size text ≡ line → drop size text ≡ rest
    → LineDoes at_start out at line None (Ok (at_start, more)) → ComesTo at_start more (at + size) rest result → ComesTo at_start out at text result
goes_on_by out more at text line rest size result some first front back does comes =
    let bytes : (first_line text).bytes ≡ size = ap (λ l. l.bytes) first in
    GoesOn some (ap (open_comment at) first) at_start more
    (subst (λ l. LineDoes at_start out at l None (Ok (at_start, more))) (sym (ap (λ n. take n text) bytes ∙ front)) does)
    (subst (λ n. ComesTo at_start more (at + n) (drop n text) result) (sym bytes) (subst (λ l. ComesTo at_start more (at + size) l result) (sym back) comes))

line_does : (out : Output) (at : ℕ) (front : List Piece) → AllStand front [] → HasNoHash (pieces_text front ++ []) → length out.tokens + length (tokens_from at front) ≤ most_tokens
    → LineDoes at_start out at (pieces_text front ++ []) None (Ok (at_start, with_tokens out (tokens_from at front)))
line_does out at front stand no_hash few =
    KeptText refl (is_other (pieces_text front ++ []) no_hash) (tokens_from at front)
    ([], at + length (pieces_text front ++ []), record { pieces = front; cut = refl; stand = stand; are = refl }, omega arith, refl)
    (with_tokens out (tokens_from at front))
    (all_taken out (tokens_from at front) few)

lines_do : (n : ℕ) (out : Output) (at : ℕ) (ps : List Piece) → length ps ≤ n → AllStand ps [] → HasNoHash (pieces_text ps ++ [])
    → length out.tokens + length (tokens_from at ps) ≤ most_tokens → ComesTo at_start out at (pieces_text ps ++ []) (Ok (out.tokens ++ tokens_from at ps))
lines_do n out at [] le stand no_hash few = AtEnd refl (ap Ok (sym (append-nil out.tokens)))
lines_do zero out at (p ∷ ps) le stand no_hash few = absurd (omega arith)
lines_do (suc n) out at (p ∷ ps) le stand no_hash few =
    let cut = cut_of p ps stand in
    let front = p ∷ cut.front in
    let back = cut.back in
    let joined : p ∷ ps ≡ front ++ back = ap (λ l. p ∷ l) cut.joined in
    let stands : AllStand (front ++ back) [] = subst (λ l. AllStand l []) joined stand in
    let texts : pieces_text (p ∷ ps) ++ [] ≡ (pieces_text front ++ []) ++ (pieces_text back ++ []) = ap (λ l. pieces_text l ++ []) joined ∙ front_texts front back in
    let size : length (pieces_text front) ≡ length (pieces_text front ++ []) = sym (ap length (append-nil (pieces_text front))) in
    let tokens : tokens_from at (p ∷ ps) ≡ tokens_from at front ++ tokens_from (at + length (pieces_text front)) back = ap (tokens_from at) joined ∙ tokens_from-append at front back in
    let lengths = length-append (tokens_from at front) (tokens_from (at + length (pieces_text front)) back) in
    let all = subst HasNoHash texts no_hash in
    let outs : (out.tokens ++ tokens_from at front) ++ tokens_from (at + length (pieces_text front)) back ≡ out.tokens ++ tokens_from at (p ∷ ps) =
    append_assoc out.tokens (tokens_from at front) (tokens_from (at + length (pieces_text front)) back) ∙ ap (λ l. out.tokens ++ l) (sym tokens) in
    goes_on_by out (with_tokens out (tokens_from at front)) at (pieces_text (p ∷ ps) ++ []) (pieces_text front ++ []) (pieces_text back ++ []) (length (pieces_text front)) (Ok (out.tokens ++ tokens_from at (p ∷ ps)))
    (λ e. piece_begins p (pieces_text ps ++ []) (pieces_text ps ++ []) stand.0 (sym (append_assoc (piece_text p) (pieces_text ps) []) ∙ e))
    cut.line
    (ap (λ k. take k (pieces_text (p ∷ ps) ++ [])) size ∙ ap (take (length (pieces_text front ++ []))) texts ∙ take-append_seam (pieces_text front ++ []) (pieces_text back ++ []))
    (ap (λ k. drop k (pieces_text (p ∷ ps) ++ [])) size ∙ ap (drop (length (pieces_text front ++ []))) texts ∙ drop-append_seam (pieces_text front ++ []) (pieces_text back ++ []))
    (line_does out at front (front_stands front back stands) (no_hash_front (pieces_text front ++ []) (pieces_text back ++ []) all) (omega (arith, few, ap length tokens, lengths)))
    (subst (λ l. ComesTo at_start (with_tokens out (tokens_from at front)) (at + length (pieces_text front)) (pieces_text back ++ []) (Ok l)) outs
    (lines_do n (with_tokens out (tokens_from at front)) (at + length (pieces_text front)) back
    (omega (arith, le, ap length cut.joined, length-append cut.front back))
    (back_stands front back stands)
    (no_hash_back (pieces_text front ++ []) (pieces_text back ++ []) all)
    (omega (arith, few, ap length tokens, lengths, length-append out.tokens (tokens_from at front)))))

plain_expands : (text : List ℕ) (tokens : List Token) → All (λ c. c ≢ 35) text → Lexes text tokens → Expands text tokens
plain_expands text tokens no_hash lexes =
    let reads = lexes.0 in
    let all : HasNoHash (pieces_text reads.pieces ++ []) = subst HasNoHash reads.cut (recursion_from_All (λ c. c ≢ 35) text no_hash) in
    let few : 0 + length (tokens_from 0 reads.pieces) ≤ most_tokens = omega (arith, lexes.1, ap length reads.are) in
    let comes = lines_do (length reads.pieces) nothing_yet 0 reads.pieces (omega arith) reads.stand all few in
    subst (λ t. ComesTo at_start nothing_yet 0 t (Ok tokens)) (sym reads.cut) (subst (λ l. ComesTo at_start nothing_yet 0 (pieces_text reads.pieces ++ []) (Ok l)) (sym reads.are) comes)

pub returns : goal.returns
returns c = plain_expands
