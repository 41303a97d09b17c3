-- The lines of port files.
use Rattle.std.proofs.Common.{◌≡◌, ◌≢◌, ℕ, zero, suc, ◌+◌, ◌*◌, ◌%◌, ◌<◌, ◌≤◌, ◌^◌, List, [], ◌∷◌, ◌++◌, length, get_or, drop, replicate, refl, sym, ap, subst, ◌∙◌, inl, inr, arith, append_assoc, append-nil, length-append}
use Rattle.std.specs.Prelude.{◌⊎◌, decimal}
use Rattle.std.specs.Str.Lines.{lines}
use Rattle.std.proofs.lemmas.List.{drop_more, drop_all, replicate_more}
use Rattle.std.proofs.lemmas.Fmt.{decimal_by_steps, decimal_injective}
use Rattle.std.proofs.lemmas.Bool.Decides.{nat_tests}
use Rattle.text_base.specs.Hex.{hex_digit}
use Rattle.text_base.specs.Lines.{Lacks}
use Rattle.c25_image.specs.PortText.{upper_digit, IsHexDigit, Spells, IsHexWord, IsPortLine, Gives, AllGive, PortText, IsFirstBad}
use Rattle.c25_image.specs.PortReading.{HasNoBlankFirst, IsBehindBlanks}

-- ---- spaces

pub record BlanksSoFar (bytes rest : List ℕ) : Type 0 where
  pub blanks : ℕ
  pub text : bytes ≡ replicate blanks 32 ++ rest

pub blanks_start : (bytes : List ℕ) → BlanksSoFar bytes bytes
blanks_start bytes = record { blanks = 0; text = refl }

pub blanks_more : (bytes rest after : List ℕ) → BlanksSoFar bytes rest → rest ≡ 32 ∷ after → BlanksSoFar bytes after
blanks_more bytes rest after s e = record {
  blanks = s.blanks + 1;
  text = s.text ∙ ap (λ t. replicate s.blanks 32 ++ t) e ∙ sym (append_assoc (replicate s.blanks 32) (32 ∷ []) after) ∙ ap (λ t. t ++ after) (replicate_more s.blanks 32);
}

pub no_blank : (rest : List ℕ) → (0 < length rest → get_or rest 0 0 ≢ 32) → HasNoBlankFirst rest
no_blank [] h = tt {0}
no_blank (c ∷ cs) h = h (omega arith)

pub blanks_end : (bytes rest : List ℕ) → BlanksSoFar bytes rest → HasNoBlankFirst rest → IsBehindBlanks bytes rest
blanks_end bytes rest s none = record { blanks = s.blanks; text = s.text; none = none }

blanks_same : (m n : ℕ) (x y : List ℕ) → HasNoBlankFirst x → HasNoBlankFirst y → replicate m 32 ++ x ≡ replicate n 32 ++ y → x ≡ y
blanks_same zero zero x y g h e = e
blanks_same zero (suc n) [] y g h e = absurd cc
blanks_same zero (suc n) (c ∷ x) y g h e = absurd (g cc)
blanks_same (suc m) zero x [] g h e = absurd cc
blanks_same (suc m) zero x (c ∷ y) g h e = absurd (h (sym cc))
blanks_same (suc m) (suc n) x y g h e = blanks_same m n x y g h cc

-- ---- digits

hex_digit-not_blank : (code value : ℕ) → IsHexDigit code value → code ≢ 32
hex_digit-not_blank code value h e = pick h.either
  where
    pick : (code ≡ hex_digit value) ⊎ (code ≡ upper_digit value) → ⊥
    pick (inl l) = grind (arith, nat_tests)
    pick (inr u) = grind (arith, nat_tests)

lower_same : (v w : ℕ) → v < 16 → w < 16 → hex_digit v ≡ hex_digit w → v ≡ w
lower_same v w p q e = grind (arith, nat_tests)

upper_same : (v w : ℕ) → v < 16 → w < 16 → upper_digit v ≡ upper_digit w → v ≡ w
upper_same v w p q e = grind (arith, nat_tests)

cross_same : (v w : ℕ) → v < 16 → w < 16 → hex_digit v ≡ upper_digit w → v ≡ w
cross_same v w p q e = grind (arith, nat_tests)

pub digit_same : (code v w : ℕ) → IsHexDigit code v → IsHexDigit code w → v ≡ w
digit_same code v w g h = pick g.either h.either
  where
    pick : (code ≡ hex_digit v) ⊎ (code ≡ upper_digit v) → (code ≡ hex_digit w) ⊎ (code ≡ upper_digit w) → v ≡ w
    pick (inl a) (inl b) = lower_same v w g.below h.below (sym a ∙ b)
    pick (inl a) (inr b) = cross_same v w g.below h.below (sym a ∙ b)
    pick (inr a) (inl b) = sym (cross_same w v h.below g.below (sym b ∙ a))
    pick (inr a) (inr b) = upper_same v w g.below h.below (sym a ∙ b)

pub spells_same : (before : ℕ) (digits : List ℕ) (v w : ℕ) → Spells before digits v → Spells before digits w → v ≡ w
spells_same before [] v w g h = g ∙ sym h
spells_same before (c ∷ digits) v w g h =
    let same = digit_same c g.0 h.0 g.1 h.1 in
    spells_same (before * 16 + g.0) digits v w g.2 (subst (λ d. Spells (before * 16 + d) digits w) (sym same) h.2)

pub digits_first : (digits : List ℕ) (word : ℕ) → IsHexWord digits word → HasNoBlankFirst digits
digits_first [] word h = tt {0}
digits_first (c ∷ digits) word h = hex_digit-not_blank c h.spells.0 h.spells.1

-- the digits so far spell a number, and the word is what the others spell behind it
pub record SpellsSoFar (digits : List ℕ) (index word : ℕ) : Type 0 where
  pub none : index ≡ 0 → word ≡ 0
  pub one : index ≡ 1 → word < 16
  pub two : index ≡ 2 → word < 256
  pub three : index ≡ 3 → word < 4096
  pub four : index ≡ 4 → word < 65536
  pub on : (whole : ℕ) → Spells 0 digits whole → Spells word (drop index digits) whole
  pub back : (whole : ℕ) → Spells word (drop index digits) whole → Spells 0 digits whole

pub spells_start : (digits : List ℕ) → SpellsSoFar digits 0 0
spells_start digits = record { none = λ e. refl; one = λ e. omega arith; two = λ e. omega arith; three = λ e. omega arith; four = λ e. omega arith; on = λ w s. s; back = λ w s. s }

pub spells_more : (digits : List ℕ) (index word value : ℕ) → SpellsSoFar digits index word → index < length digits → length digits ≤ 4 → IsHexDigit (get_or digits index 0) value → SpellsSoFar digits (index + 1) (word * 16 + value)
spells_more digits index word value s lt short d =
    let e = drop_more digits index 0 lt in
    record {
      none = λ h. omega arith;
      one = λ h. let z = s.none (omega arith) in omega (arith, d.below);
      two = λ h. let z = s.one (omega arith) in omega (arith, d.below);
      three = λ h. let z = s.two (omega arith) in omega (arith, d.below);
      four = λ h. let z = s.three (omega arith) in omega (arith, d.below);
      on = λ w h.
          let t = subst (λ l. Spells word l w) e (s.on w h) in
          subst (λ v. Spells (word * 16 + v) (drop (index + 1) digits) w) (digit_same (get_or digits index 0) t.0 value t.1 d) t.2;
      back = λ w h. s.back w (subst (λ l. Spells word l w) (sym e) (value, d, h));
    }

pub spells_not : (digits : List ℕ) (index word : ℕ) → SpellsSoFar digits index word → index < length digits → ((value : ℕ) → IsHexDigit (get_or digits index 0) value → ⊥) → (whole : ℕ) → IsHexWord digits whole → ⊥
spells_not digits index word s lt none whole h =
    let t = subst (λ l. Spells word l whole) (drop_more digits index 0 lt) (s.on whole h.spells) in
    none t.0 t.1

pub spells_end : (digits : List ℕ) (index word : ℕ) → SpellsSoFar digits index word → length digits ≤ index → 0 < length digits → length digits ≤ 4 → IsHexWord digits word
spells_end digits index word s le some short = record { some = some; short = short; spells = s.back word (subst (λ l. Spells word l word) (sym (drop_all index digits le)) refl) }

-- ---- a port before a space

Lacks-append : (mark : ℕ) (xs ys : List ℕ) → Lacks mark xs → Lacks mark ys → Lacks mark (xs ++ ys)
Lacks-append mark [] ys a b = b
Lacks-append mark (x ∷ xs) ys a b = (a.0, Lacks-append mark xs ys a.1 b)

not_space : (b : ℕ) → 47 < b → b ≢ 32
not_space b lt e = omega arith

decimal_lacks : (n : ℕ) → n < 2 ^ 64 → Lacks 32 (decimal n)
decimal_lacks = decimal_by_steps (λ n ds. Lacks 32 ds)
    (λ n lt. (not_space (48 + n) (omega arith), tt {0}))
    (λ n ds le more. Lacks-append 32 ds ((48 + n % 10) ∷ []) more (not_space (48 + n % 10) (omega arith), tt {0}))

no_mark : (mark : ℕ) (bytes front tail : List ℕ) → Lacks mark bytes → bytes ≡ front ++ mark ∷ tail → ⊥
no_mark mark [] [] tail h e = absurd cc
no_mark mark [] (y ∷ front) tail h e = absurd cc
no_mark mark (b ∷ bytes) [] tail h e = h.0 cc
no_mark mark (b ∷ bytes) (y ∷ front) tail h e = no_mark mark bytes front tail h.1 cc

same_front : (mark : ℕ) (one two x y : List ℕ) → Lacks mark one → Lacks mark two → one ++ mark ∷ x ≡ two ++ mark ∷ y → (one ≡ two) × (x ≡ y)
same_front mark [] [] x y g h e = (refl, cc)
same_front mark [] (c ∷ two) x y g h e = absurd (h.0 (sym cc))
same_front mark (b ∷ one) [] x y g h e = absurd (g.0 cc)
same_front mark (b ∷ one) (c ∷ two) x y g h e =
    let f = same_front mark one two x y g.1 h.1 cc in
    let head : b ≡ c = cc in
    (cc (f.0, head), f.1)

pub not_without_space : (line : List ℕ) → Lacks 32 line → (put : ℕ × ℕ) → IsPortLine line put → ⊥
not_without_space line h put p = no_mark 32 line (decimal put.0) (replicate p.blanks 32 ++ p.digits) h p.text

port_front : (line digits rest : List ℕ) (put : ℕ × ℕ) → Lacks 32 digits → line ≡ (digits ++ 32 ∷ []) ++ rest → (p : IsPortLine line put) → (digits ≡ decimal put.0) × (rest ≡ replicate p.blanks 32 ++ p.digits)
port_front line digits rest put h e p = same_front 32 digits (decimal put.0) rest (replicate p.blanks 32 ++ p.digits) h (decimal_lacks put.0 (omega (arith, p.port))) (sym (append_assoc digits (32 ∷ []) rest) ∙ sym e ∙ p.text)

pub not_decimal : (line digits rest : List ℕ) → Lacks 32 digits → line ≡ (digits ++ 32 ∷ []) ++ rest → ((n : ℕ) → n < 2 ^ 64 → digits ≢ decimal n) → (put : ℕ × ℕ) → IsPortLine line put → ⊥
not_decimal line digits rest h e none put p = none put.0 (omega (arith, p.port)) (port_front line digits rest put h e p).0

pub port_is : (line digits rest : List ℕ) (n : ℕ) → Lacks 32 digits → line ≡ (digits ++ 32 ∷ []) ++ rest → digits ≡ decimal n → n < 2 ^ 64 → (put : ℕ × ℕ) → IsPortLine line put → n ≡ put.0
port_is line digits rest n h e d lt put p = decimal_injective n put.0 lt (omega (arith, p.port)) (sym d ∙ (port_front line digits rest put h e p).0)

pub word_is : (line digits rest behind : List ℕ) → Lacks 32 digits → line ≡ (digits ++ 32 ∷ []) ++ rest → IsBehindBlanks rest behind → (put : ℕ × ℕ) → IsPortLine line put → IsHexWord behind put.1
word_is line digits rest behind h e b put p =
    let same = blanks_same b.blanks p.blanks behind p.digits b.none (digits_first p.digits put.1 p.word) (sym b.text ∙ (port_front line digits rest put h e p).1) in
    subst (λ l. IsHexWord l put.1) (sym same) p.word

pub port_line : (line digits rest behind : List ℕ) (port word : ℕ) → line ≡ (digits ++ 32 ∷ []) ++ rest → digits ≡ decimal port → port < 16 → IsBehindBlanks rest behind → IsHexWord behind word → IsPortLine line (port, word)
port_line line digits rest behind port word e d lt b w = record {
  port = lt;
  blanks = b.blanks;
  digits = behind;
  word = w;
  text = e ∙ append_assoc digits (32 ∷ []) rest ∙ ap (λ l. l ++ 32 ∷ rest) d ∙ ap (λ l. decimal port ++ 32 ∷ l) b.text;
}

abbrev pair_of : ℕ → ℕ → ℕ × ℕ
pair_of a b = (a, b)

same_pair : (a b c d : ℕ) → a ≡ c → b ≡ d → pair_of a b ≡ pair_of c d
same_pair a b c d e f = cc

-- a line gives one word
put_same : (line : List ℕ) (one two : ℕ × ℕ) → IsPortLine line one → IsPortLine line two → one ≡ two
put_same line one two p q =
    let d = decimal_lacks one.0 (omega (arith, p.port)) in
    let text = p.text ∙ sym (append_assoc (decimal one.0) (32 ∷ []) (replicate p.blanks 32 ++ p.digits)) in
    let port = port_is line (decimal one.0) (replicate p.blanks 32 ++ p.digits) one.0 d text refl (omega (arith, p.port)) two q in
    let b : IsBehindBlanks (replicate p.blanks 32 ++ p.digits) p.digits = record { blanks = p.blanks; text = refl; none = digits_first p.digits one.1 p.word } in
    let w = word_is line (decimal one.0) (replicate p.blanks 32 ++ p.digits) p.digits d text b two q in
    let word = spells_same 0 p.digits one.1 two.1 p.word.spells w.spells in
    same_pair one.0 one.1 two.0 two.1 port word

-- ---- the files read so far

pub record GivenSoFar (bytes rest : List ℕ) (number : ℕ) (puts : List (ℕ × ℕ)) : Type 0 where
  pub front : List (List ℕ)
  pub cut : lines bytes ≡ front ++ lines rest
  pub counted : number ≡ length front + 1
  pub few : length front + length rest ≤ length bytes
  pub good : AllGive front puts

pub given_start : (bytes : List ℕ) (puts : List (ℕ × ℕ)) → puts ≡ [] → GivenSoFar bytes bytes 1 puts
given_start bytes puts none = record { front = []; cut = refl; counted = refl; few = omega arith; good = none }

AllGive-append : (front : List (List ℕ)) (line : List ℕ) (puts more : List (ℕ × ℕ)) → AllGive front puts → Gives line more → AllGive (front ++ line ∷ []) (puts ++ more)
AllGive-append [] line puts more g h = record { front = more; back = []; first = h; others = refl; joined = ap (λ p. p ++ more) g ∙ sym (append-nil more) }
AllGive-append (l ∷ front) line puts more g h = record {
  front = g.front;
  back = g.back ++ more;
  first = g.first;
  others = AllGive-append front line g.back more g.others h;
  joined = ap (λ p. p ++ more) g.joined ∙ append_assoc g.front g.back more;
}

given_more : (bytes rest after line : List ℕ) (number : ℕ) (puts more new : List (ℕ × ℕ)) → GivenSoFar bytes rest number puts → lines rest ≡ line ∷ lines after → length after < length rest → Gives line more → new ≡ puts ++ more → GivenSoFar bytes after (number + 1) new
given_more bytes rest after line number puts more new s cut shorter h pushed = record {
  front = s.front ++ line ∷ [];
  cut = s.cut ∙ ap (λ l. s.front ++ l) cut ∙ sym (append_assoc s.front (line ∷ []) (lines after));
  counted = omega (arith, s.counted, length-append s.front (line ∷ []));
  few = omega (arith, s.few, length-append s.front (line ∷ []));
  good = subst (AllGive (s.front ++ line ∷ [])) (sym pushed) (AllGive-append s.front line puts more s.good h);
}

pub given_blank : (bytes rest after line : List ℕ) (number : ℕ) (puts : List (ℕ × ℕ)) → GivenSoFar bytes rest number puts → lines rest ≡ line ∷ lines after → length after < length rest → line ≡ [] → GivenSoFar bytes after (number + 1) puts
given_blank bytes rest after line number puts s cut shorter blank = given_more bytes rest after line number puts [] puts s cut shorter (inl (blank, refl)) (sym (append-nil puts))

pub given_put : (bytes rest after line : List ℕ) (number : ℕ) (puts new : List (ℕ × ℕ)) (put : ℕ × ℕ) → GivenSoFar bytes rest number puts → lines rest ≡ line ∷ lines after → length after < length rest → IsPortLine line put → new ≡ puts ++ put ∷ [] → GivenSoFar bytes after (number + 1) new
given_put bytes rest after line number puts new put s cut shorter p pushed = given_more bytes rest after line number puts (put ∷ []) new s cut shorter (inr (put, p, refl)) pushed

pub given_end : (bytes rest : List ℕ) (number : ℕ) (puts : List (ℕ × ℕ)) → GivenSoFar bytes rest number puts → rest ≡ [] → PortText bytes puts
given_end bytes rest number puts s none =
    subst (λ l. AllGive l puts) (sym (s.cut ∙ ap (λ r. s.front ++ lines r) none ∙ append-nil s.front)) s.good

not_empty : (line : List ℕ) (put : ℕ × ℕ) → IsPortLine line put → line ≢ []
not_empty line put p e = omega (arith, ap length (sym e ∙ p.text), length-append (decimal put.0) (32 ∷ (replicate p.blanks 32 ++ p.digits)))

gives_same : (line : List ℕ) (one two : List (ℕ × ℕ)) → Gives line one → Gives line two → one ≡ two
gives_same line one two (inl g) (inl h) = g.1 ∙ sym h.1
gives_same line one two (inl g) (inr h) = absurd (not_empty line h.0 h.1 g.0)
gives_same line one two (inr g) (inl h) = absurd (not_empty line g.0 g.1 h.0)
gives_same line one two (inr g) (inr h) = g.2 ∙ ap (λ p. p ∷ []) (put_same line g.0 h.0 g.1 h.1) ∙ sym h.2

all_same : (all : List (List ℕ)) (one two : List (ℕ × ℕ)) → AllGive all one → AllGive all two → one ≡ two
all_same [] one two g h = g ∙ sym h
all_same (line ∷ all) one two g h =
    g.joined
    ∙ ap (λ p. p ++ g.back) (gives_same line g.front h.front g.first h.first)
    ∙ ap (λ p. h.front ++ p) (all_same all g.back h.back g.others h.others)
    ∙ sym h.joined

-- lines give one list
pub one_port_text : (bytes : List ℕ) (one two : List (ℕ × ℕ)) → PortText bytes one → PortText bytes two → one ≡ two
one_port_text bytes one two g h = all_same (lines bytes) one two g h

pub given_same : (bytes rest : List ℕ) (number : ℕ) (puts : List (ℕ × ℕ)) → GivenSoFar bytes rest number puts → rest ≡ [] → (other : List (ℕ × ℕ)) → PortText bytes other → puts ≡ other
given_same bytes rest number puts s none other p = all_same (lines bytes) puts other (given_end bytes rest number puts s none) p

pub given_bad : (bytes rest after line : List ℕ) (number : ℕ) (puts : List (ℕ × ℕ)) → GivenSoFar bytes rest number puts → lines rest ≡ line ∷ lines after → line ≢ [] → ((put : ℕ × ℕ) → IsPortLine line put → ⊥) → IsFirstBad bytes number
given_bad bytes rest after line number puts s cut some none = record {
  front = s.front;
  line = line;
  back = lines after;
  cut = s.cut ∙ ap (λ l. s.front ++ l) cut;
  counted = s.counted;
  puts = puts;
  good = s.good;
  bad = λ put g. pick put g;
}
  where
    pick : (put : List (ℕ × ℕ)) → Gives line put → ⊥
    pick put (inl g) = some g.0
    pick put (inr g) = none g.0 g.1

split_gives : (front back : List (List ℕ)) (line : List ℕ) (puts : List (ℕ × ℕ)) → AllGive (front ++ line ∷ back) puts → (more : List (ℕ × ℕ)) × Gives line more
split_gives [] back line puts g = (g.front, g.first)
split_gives (l ∷ front) back line puts g = split_gives front back line g.back g.others

pub bad_no_text : (bytes : List ℕ) (number : ℕ) → IsFirstBad bytes number → (puts : List (ℕ × ℕ)) → PortText bytes puts → ⊥
bad_no_text bytes number s puts p =
    let h = split_gives s.front s.back s.line puts (subst (λ l. AllGive l puts) s.cut p) in
    s.bad h.0 h.1

pub no_blank_here : (rest : List ℕ) → ((tail : List ℕ) → rest ≢ 32 ∷ tail) → HasNoBlankFirst rest
no_blank_here [] h = tt {0}
no_blank_here (c ∷ cs) h = λ e. h cs (ap (λ b. b ∷ cs) e)

-- the lines before the first bad one are as many, however it is found
first_same : (one two back more : List (List ℕ)) (line other : List ℕ) (puts outs : List (ℕ × ℕ)) → one ++ line ∷ back ≡ two ++ other ∷ more → AllGive one puts → AllGive two outs → ((p : List (ℕ × ℕ)) → Gives line p → ⊥) → ((p : List (ℕ × ℕ)) → Gives other p → ⊥) → length one ≡ length two
first_same [] [] back more line other puts outs e g h bad worse = refl
first_same [] (y ∷ two) back more line other puts outs e g h bad worse =
    let same : y ≡ line = cc in
    absurd (bad h.front (subst (λ l. Gives l h.front) same h.first))
first_same (x ∷ one) [] back more line other puts outs e g h bad worse =
    let same : x ≡ other = cc in
    absurd (worse g.front (subst (λ l. Gives l g.front) same g.first))
first_same (x ∷ one) (y ∷ two) back more line other puts outs e g h bad worse = ap suc (first_same one two back more line other g.back h.back (cc) g.others h.others bad worse)

pub bad_same : (bytes : List ℕ) (m n : ℕ) → IsFirstBad bytes m → IsFirstBad bytes n → m ≡ n
bad_same bytes m n s t =
    let same = first_same s.front t.front s.back t.back s.line t.line s.puts t.puts (sym s.cut ∙ t.cut) s.good t.good s.bad t.bad in
    omega (arith, s.counted, t.counted)
