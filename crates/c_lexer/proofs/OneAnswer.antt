-- A text has at most one outcome: its tokens, or one fault.
use Rattle.std.proofs.Common.{◌≡◌, ◌≢◌, ℕ, ◌<◌, ◌≤◌, cond, List, [], ◌∷◌, ◌++◌, length, get_or, refl, sym, ap, ◌∙◌, subst, arith, inl, inr, ⊎_elim}
use Rattle.std.specs.Prelude.{◌⊎◌, ◌==◌}
use Rattle.std.proofs.lemmas.Bool.{cases_lt, ne_eqb}
use Rattle.std.proofs.lemmas.Bool.Decides.{nat_tests}
use Rattle.word_base.specs.Name.{IsNameStart, IsNamePart}
use Rattle.c_syntax.specs.declared.token.Punct.TheVariants as mark
use Rattle.c_syntax.specs.declared.token.Token.{Token}
use Rattle.c_syntax.specs.declared.token.TokenKind.{TokenKind}
use Rattle.c_syntax.specs.declared.token.TokenKind.TheVariants.{Word, Name, Number}
use Rattle.c_syntax.specs.Spelling.{IsDigit, IsSpelling, OfWord, OfNumber, OfCharacter, OfMark, Means}
use Rattle.c_syntax.specs.Lexes.{IsSpace, IsBlank, IsLongest, Piece, Blank, Spelled, piece_text, MayStand, most_tokens, ReadsTo, Lexes}
use Rattle.c_syntax.proofs.Sorts.{Sort, Void, Letter, Digit, Quote, Sign, sort_of, text_sort, space_sort}
use Rattle.c_syntax.proofs.FixedLemmas.{keyword_short}
use Rattle.c_syntax.proofs.Spellings.{kind_sort, means_sort, longest_one, word_text_sort, number_text_sort, spelling_front, quote_spelling}
use Rattle.c_syntax.proofs.Pieces.{comment_front, blank_no_spelling}
use Rattle.c_syntax.proofs.OneReading.{IsStuck, nothing_stuck, stuck_has_all, same_reading}
use Rattle.c_lexer.specs.declared.fault.LexFault.{LexFault}
use Rattle.c_lexer.specs.declared.fault.LexFault.TheVariants as faults
use Rattle.c_lexer.specs.declared.fault.Flaw.{Flaw}
use Rattle.c_lexer.specs.declared.fault.Flaw.TheVariants as flaws
use Rattle.c_lexer.specs.LexFaults.{HasBadByte, HasOpenComment, HasBadNumber, HasBadQuote, HasLongName, HasFlaw, fault_of, StopsAt, HasTooMany, Says}

-- ---- where a flaw is no piece stands

bad_byte-no_comment : (text : List ℕ) → HasBadByte text → (more : List ℕ) → text ≢ 47 ∷ more
bad_byte-no_comment text f more e = f.no_mark mark.Slash more e

bad_byte-no_blank : (text blank rest : List ℕ) → HasBadByte text → IsBlank blank → text ≢ blank ++ rest
bad_byte-no_blank text blank rest f (inl g) e =
    let k : f.byte ∷ f.rest ≡ g.0 ∷ rest = sym f.front ∙ e ∙ ap (λ t. t ++ rest) g.2 in
    let same : g.0 ≡ f.byte = cc in
    f.no_space (subst IsSpace same g.1)
bad_byte-no_blank text blank rest f (inr g) e = bad_byte-no_comment text f _ (e ∙ comment_front blank rest g)

bad_byte-first : (text : List ℕ) (f : HasBadByte text) (spelling rest : List ℕ) (c : ℕ) (more : List ℕ) → text ≡ spelling ++ rest → spelling ≡ c ∷ more → c ≡ f.byte
bad_byte-first text f spelling rest c more e is =
    let k : f.byte ∷ f.rest ≡ c ∷ (more ++ rest) = sym f.front ∙ e ∙ ap (λ t. t ++ rest) is in
    cc

bad_byte-no_spelling : (text spelling rest : List ℕ) → HasBadByte text → IsSpelling spelling → text ≢ spelling ++ rest
bad_byte-no_spelling text spelling rest f (OfWord w) e = f.no_name_part (inl (subst IsNameStart (bad_byte-first text f spelling rest w.first w.rest e w.whole) w.starts))
bad_byte-no_spelling text spelling rest f (OfNumber n) e = f.no_name_part (inr (subst IsDigit (bad_byte-first text f spelling rest n.first n.rest e n.whole) n.starts))
bad_byte-no_spelling text spelling rest f (OfCharacter value c) e = f.no_quote (sym (bad_byte-first text f spelling rest 39 (c.item ++ 39 ∷ []) e c.quoted))
bad_byte-no_spelling text spelling rest f (OfMark m is) e = f.no_mark m rest (e ∙ ap (λ t. t ++ rest) is)

bad_byte-stuck : (text : List ℕ) → HasBadByte text → IsStuck text
bad_byte-stuck text f = record { by = by }
  where
    by : (p : Piece) (rest : List ℕ) → MayStand p rest → text ≢ piece_text p ++ rest
    by (Blank blank) rest g = bad_byte-no_blank text blank rest f g
    by (Spelled spelling kind) rest g = bad_byte-no_spelling text spelling rest f g.0.spelled

open_comment-stuck : (text : List ℕ) → HasOpenComment text → IsStuck text
open_comment-stuck text f = record { by = by }
  where
    by : (p : Piece) (rest : List ℕ) → MayStand p rest → text ≢ piece_text p ++ rest
    by (Blank blank) rest (inl g) e =
        let k : 47 ∷ 42 ∷ f.inside ≡ g.0 ∷ rest = sym f.front ∙ e ∙ ap (λ t. t ++ rest) g.2 in
        let n : Sign ≡ Void = ap text_sort k ∙ space_sort g.0 g.1 in
        cc
    by (Blank blank) rest (inr g) e =
        let k : 47 ∷ 42 ∷ f.inside ≡ 47 ∷ 42 ∷ (g.inside ++ 42 ∷ 47 ∷ rest) = sym f.front ∙ e ∙ comment_front blank rest g in
        f.unclosed g.inside rest cc
    by (Spelled spelling kind) rest g e = g.0.no_comment (f.inside, sym e ∙ f.front)

-- where a longest spelling means nothing no piece stands
pub meaningless-stuck : (text spelling rest : List ℕ) → text ≡ spelling ++ rest → IsLongest spelling rest → ((kind : TokenKind) → Means spelling kind → ⊥) → IsStuck text
meaningless-stuck text spelling rest front longest none = record { by = by }
  where
    by : (p : Piece) (behind : List ℕ) → MayStand p behind → text ≢ piece_text p ++ behind
    by (Blank blank) behind g e = blank_no_spelling blank behind spelling rest g longest (sym e ∙ front)
    by (Spelled other kind) behind g e = none kind (subst (λ t. Means t kind) (longest_one other behind spelling rest g.0 longest (sym e ∙ front)).0 g.1)

bad_number-means : (text : List ℕ) (f : HasBadNumber text) (kind : TokenKind) → Means f.spelling kind → ⊥
bad_number-means text f (Number value marked decimal) g = f.bad value marked decimal g
bad_number-means text f kind g = let k : Digit ≡ kind_sort kind = sym (number_text_sort f.spelling f.number) ∙ means_sort f.spelling kind g in cc

long_name-means : (text : List ℕ) (f : HasLongName text) (kind : TokenKind) → Means f.spelling kind → ⊥
long_name-means text f (Word keyword) g = omega (arith, f.long, ap length g, keyword_short keyword)
long_name-means text f (Name name) g = omega (arith, f.long, g.1.to_127)
long_name-means text f kind g = let k : Letter ≡ kind_sort kind = sym (word_text_sort f.spelling f.name) ∙ means_sort f.spelling kind g in cc

bad_quote-stuck : (text : List ℕ) → HasBadQuote text → IsStuck text
bad_quote-stuck text f = record { by = by }
  where
    by : (p : Piece) (rest : List ℕ) → MayStand p rest → text ≢ piece_text p ++ rest
    by (Blank blank) rest (inl g) e =
        let k : 39 ∷ f.rest ≡ g.0 ∷ rest = sym f.front ∙ e ∙ ap (λ t. t ++ rest) g.2 in
        let n : Quote ≡ Void = ap text_sort k ∙ space_sort g.0 g.1 in
        cc
    by (Blank blank) rest (inr g) e =
        let n : Quote ≡ Sign = ap text_sort (sym f.front ∙ e ∙ comment_front blank rest g) in
        cc
    by (Spelled spelling kind) rest g e =
        let k : text_sort spelling ≡ Quote = sym (spelling_front spelling rest g.0.spelled) ∙ ap text_sort (sym e ∙ f.front) in
        let c = quote_spelling spelling g.0.spelled k in
        f.bad spelling rest c.0 e c.1

pub flaw_stuck : (text : List ℕ) (flaw : Flaw) → flaw ≢ flaws.NoMemory → HasFlaw text flaw → IsStuck text
flaw_stuck text flaws.BadByte n f = bad_byte-stuck text f
flaw_stuck text flaws.OpenComment n f = open_comment-stuck text f
flaw_stuck text flaws.BadConstant n (inl f) = meaningless-stuck text f.spelling f.rest f.front f.longest (bad_number-means text f)
flaw_stuck text flaws.BadConstant n (inr f) = bad_quote-stuck text f
flaw_stuck text flaws.LongName n f = meaningless-stuck text f.spelling f.rest f.front f.longest (long_name-means text f)
flaw_stuck text flaws.NoMemory n f = absurd (n refl)

-- ---- one flaw at one front

-- the first code tells the flaw
abbrev flaw_of : Sort → ℕ → Flaw
flaw_of Void c = flaws.BadByte
flaw_of Letter c = flaws.LongName
flaw_of Digit c = flaws.BadConstant
flaw_of Quote c = flaws.BadConstant
flaw_of Sign c = cond (c == 47) flaws.OpenComment flaws.BadByte

abbrev text_flaw : List ℕ → Flaw
text_flaw text = flaw_of (text_sort text) (get_or text 0 0)

void : (c : ℕ) → c < 33 → sort_of c ≡ Void
void c h = grind (arith, nat_tests)

sign_by : (c : ℕ) → 33 ≤ c → c ≢ 39 → (65 ≤ c → c ≤ 90 → ⊥) → (97 ≤ c → c ≤ 122 → ⊥) → c ≢ 95 → (48 ≤ c → c ≤ 57 → ⊥) → sort_of c ≡ Sign
sign_by c h quote a b d e = grind (arith, nat_tests)

sign : (c : ℕ) → 33 ≤ c → c ≢ 39 → (IsNamePart c → ⊥) → sort_of c ≡ Sign
sign c h quote part =
    let a : (65 ≤ c → c ≤ 90 → ⊥) = λ l m. part (inl (inl (l, m))) in
    let b : (97 ≤ c → c ≤ 122 → ⊥) = λ l m. part (inl (inr (inl (l, m)))) in
    let d : c ≢ 95 = λ e. part (inl (inr (inr e))) in
    let e : (48 ≤ c → c ≤ 57 → ⊥) = λ l m. part (inr (l, m)) in
    sign_by c h quote a b d e

name_part-sort : (c : ℕ) → c ≢ 39 → (IsNamePart c → ⊥) → (sort_of c ≡ Void) ⊎ (sort_of c ≡ Sign)
name_part-sort c quote part = ⊎_elim (λ low. inl (void c low)) (λ high. inr (sign c high quote part)) (cases_lt c 33)

bad_byte-flaw : (c : ℕ) → c ≢ 39 → c ≢ 47 → (IsNamePart c → ⊥) → flaw_of (sort_of c) c ≡ flaws.BadByte
bad_byte-flaw c quote slash part = pick (name_part-sort c quote part)
  where
    pick : (sort_of c ≡ Void) ⊎ (sort_of c ≡ Sign) → flaw_of (sort_of c) c ≡ flaws.BadByte
    pick (inl e) = ap (λ s. flaw_of s c) e
    pick (inr e) = ap (λ s. flaw_of s c) e ∙ ap (λ b. cond b flaws.OpenComment flaws.BadByte) (ne_eqb c 47 slash)

flaw_is : (text : List ℕ) (flaw : Flaw) → flaw ≢ flaws.NoMemory → HasFlaw text flaw → text_flaw text ≡ flaw
flaw_is text flaws.BadByte n f = ap text_flaw f.front ∙ bad_byte-flaw f.byte f.no_quote (λ e. bad_byte-no_comment text f f.rest (f.front ∙ ap (λ c. c ∷ f.rest) e)) f.no_name_part
flaw_is text flaws.OpenComment n f = ap text_flaw f.front
flaw_is text flaws.BadConstant n (inl f) =
    ap text_flaw f.front ∙ ap (λ s. flaw_of s (get_or (f.spelling ++ f.rest) 0 0)) (spelling_front f.spelling f.rest (OfNumber f.number) ∙ number_text_sort f.spelling f.number)
flaw_is text flaws.BadConstant n (inr f) = ap text_flaw f.front
flaw_is text flaws.LongName n f =
    ap text_flaw f.front ∙ ap (λ s. flaw_of s (get_or (f.spelling ++ f.rest) 0 0)) (spelling_front f.spelling f.rest (OfWord f.name) ∙ word_text_sort f.spelling f.name)
flaw_is text flaws.NoMemory n f = absurd (n refl)

pub flaw_one : (text : List ℕ) (f g : Flaw) → f ≢ flaws.NoMemory → g ≢ flaws.NoMemory → HasFlaw text f → HasFlaw text g → f ≡ g
flaw_one text f g n m has has' = sym (flaw_is text f n has) ∙ flaw_is text g m has'

-- at the end of a text there is no flaw
flaw_begins : (flaw : Flaw) → flaw ≢ flaws.NoMemory → HasFlaw [] flaw → ⊥
flaw_begins flaws.BadByte n f = absurd (let e = f.front in cc)
flaw_begins flaws.OpenComment n f = let e = f.front in cc
flaw_begins flaws.BadConstant n (inl f) = let e : [] ≡ f.number.first ∷ (f.number.rest ++ f.rest) = f.front ∙ ap (λ t. t ++ f.rest) f.number.whole in cc
flaw_begins flaws.BadConstant n (inr f) = let e = f.front in cc
flaw_begins flaws.LongName n f = let e : [] ≡ f.name.first ∷ (f.name.rest ++ f.rest) = f.front ∙ ap (λ t. t ++ f.rest) f.name.whole in cc
flaw_begins flaws.NoMemory n f = n refl

-- ---- one outcome

-- a fault of a flaw at a place, or too many tokens
data Fault (text : List ℕ) (fault : LexFault) : Type 0 where
  OfFlaw : (flaw : Flaw) (at : ℕ) → fault ≡ fault_of flaw at → flaw ≢ flaws.NoMemory → StopsAt text at flaw → Fault text fault
  OfCount : (count : ℕ) → fault ≡ faults.TooManyTokens count → HasTooMany text count → Fault text fault

fault_sort : (text : List ℕ) (f : LexFault) → f ≢ faults.NoMemory → Says text f → Fault text f
fault_sort text (faults.BadByte at) n s = OfFlaw flaws.BadByte at refl (λ e. cc) s
fault_sort text (faults.OpenComment at) n s = OfFlaw flaws.OpenComment at refl (λ e. cc) s
fault_sort text (faults.BadConstant at) n s = OfFlaw flaws.BadConstant at refl (λ e. cc) s
fault_sort text (faults.LongName at) n s = OfFlaw flaws.LongName at refl (λ e. cc) s
fault_sort text (faults.TooManyTokens count) n s = OfCount count refl s
fault_sort text faults.NoMemory n s = absurd (n refl)

stops_stuck : (text : List ℕ) (at : ℕ) (flaw : Flaw) → flaw ≢ flaws.NoMemory → (s : StopsAt text at flaw) → IsStuck s.rest
stops_stuck text at flaw n s = flaw_stuck s.rest flaw n s.has

stops_one : (text : List ℕ) (i j : ℕ) (f g : Flaw) → f ≢ flaws.NoMemory → g ≢ flaws.NoMemory → StopsAt text i f → StopsAt text j g → fault_of f i ≡ fault_of g j
stops_one text i j f g n m s t =
    let same = (same_reading text s.tokens t.tokens s.rest t.rest s.reads t.reads (stops_stuck text i f n s) (stops_stuck text j g m t)).1 in
    let places : i ≡ j = omega (arith, s.place, t.place, ap length same) in
    let flaw : f ≡ g = flaw_one t.rest f g n m (subst (λ r. HasFlaw r f) same s.has) t.has in
    cc (places, flaw)

-- no more tokens stand before a flaw or the end
stops_few : (text : List ℕ) (count : ℕ) (tokens : List Token) (rest : List ℕ) → ReadsTo text tokens rest → length tokens ≤ most_tokens → IsStuck rest → HasTooMany text count → ⊥
stops_few text count tokens rest r few stuck h = omega (arith, h.one_more, few, stuck_has_all text tokens h.tokens rest h.rest r h.reads stuck)

fault_one : (text : List ℕ) (f g : LexFault) → Fault text f → Fault text g → f ≡ g
fault_one text f g (OfFlaw x i e n s) (OfFlaw y j k m t) = e ∙ stops_one text i j x y n m s t ∙ sym k
fault_one text f g (OfFlaw x i e n s) (OfCount c k t) = absurd (stops_few text c s.tokens s.rest s.reads s.few (stops_stuck text i x n s) t)
fault_one text f g (OfCount c k t) (OfFlaw x i e n s) = absurd (stops_few text c s.tokens s.rest s.reads s.few (stops_stuck text i x n s) t)
fault_one text f g (OfCount c e s) (OfCount d k t) = e ∙ ap faults.TooManyTokens (s.counted ∙ sym t.counted) ∙ sym k

pub says_one : (text : List ℕ) (f g : LexFault) → f ≢ faults.NoMemory → g ≢ faults.NoMemory → Says text f → Says text g → f ≡ g
says_one text f g n m s t = fault_one text f g (fault_sort text f n s) (fault_sort text g m t)

pub lexes_not_says : (text : List ℕ) (tokens : List Token) (f : LexFault) → f ≢ faults.NoMemory → Lexes text tokens → Says text f → ⊥
lexes_not_says text tokens f n l s = pick (fault_sort text f n s)
  where
    pick : Fault text f → ⊥
    pick (OfFlaw x i e m t) =
        let same = (same_reading text t.tokens tokens t.rest [] t.reads l.0 (stops_stuck text i x m t) nothing_stuck).1 in
        flaw_begins x m (subst (λ r. HasFlaw r x) same t.has)
    pick (OfCount c e t) = stops_few text c tokens [] l.0 l.1 nothing_stuck t
