-- The longest spelling at the front of a text, by its first byte.
use Rattle.std.proofs.Common.{arith, ◌≡◌, ◌≢◌, ℕ, ◌-◌, ◌<◌, ◌≤◌, List, [], ◌∷◌, ◌++◌, length, refl, inl, inr, ap, sym, ◌∙◌, subst, length-append}
use Rattle.std.specs.Prelude.{Bool}
use Rattle.std.specs.List.{AllByRecursion}
use Rattle.word_base.specs.Name.{IsNameStart, IsNamePart}
use Rattle.c_syntax.specs.declared.token.Punct.{Punct}
use Rattle.c_syntax.specs.declared.token.TokenKind.{TokenKind}
use Rattle.c_syntax.specs.declared.token.TokenKind.TheVariants.{Char, Mark}
use Rattle.c_syntax.specs.FixedTexts.{mark_text}
use Rattle.c_syntax.specs.Constants.{IsNumber, IsCharacter}
use Rattle.c_syntax.specs.Spelling.{IsDigit, IsNumberPart, IsRun, IsNameRun, IsNumberRun, IsSpelling, OfWord, OfNumber, OfCharacter, OfMark, Means}
use Rattle.c_syntax.specs.Lexes.{OpensComment, IsLongest}
use Rattle.c_syntax.proofs.Characters.{character_one}
use Rattle.c_syntax.proofs.Sorts.{Letter, Digit, Quote, Sign, sort_of, text_sort, letter_sort, digit_sort, mark_sort}
use Rattle.c_syntax.proofs.Spellings.{character_sort, word_text_sort, number_text_sort, spelling_front, quote_spelling}
use Rattle.c_spellings.specs.Front.{HasNoBlank, IsBehindMark}
use Rattle.c_lexer.specs.Front.{BeginsWith, IsQuote, IsSign, IsFrontRun, IsBehindCharacter, IsToken}
use Rattle.c_lexer.specs.LexFaults.{HasBadByte, HasOpenComment, HasBadNumber, HasBadQuote, HasLongName}
use Rattle.c_spellings.proofs.BlankLemmas.{no_blank_no_end}

-- each spelling at the front begins with a byte of the same sort
other_sort : (text other behind : List ℕ) → text ≡ other ++ behind → IsSpelling other → text_sort other ≡ text_sort text
other_sort text other behind e spelled = sym (spelling_front other behind spelled) ∙ ap text_sort (sym e)

-- with a letter only words begin, with a digit only numbers, with a sign only marks
letter_spelling : (text : List ℕ) → IsSpelling text → text_sort text ≡ Letter → IsNameRun text
letter_spelling text (OfWord h) e = h
letter_spelling text (OfNumber h) e = let k = sym (number_text_sort text h) ∙ e in absurd cc
letter_spelling text (OfCharacter value h) e = let k = sym (character_sort text value h) ∙ e in absurd cc
letter_spelling text (OfMark mark h) e = let k = sym (ap text_sort h ∙ mark_sort mark) ∙ e in absurd cc

digit_spelling : (text : List ℕ) → IsSpelling text → text_sort text ≡ Digit → IsNumberRun text
digit_spelling text (OfWord h) e = let k = sym (word_text_sort text h) ∙ e in absurd cc
digit_spelling text (OfNumber h) e = h
digit_spelling text (OfCharacter value h) e = let k = sym (character_sort text value h) ∙ e in absurd cc
digit_spelling text (OfMark mark h) e = let k = sym (ap text_sort h ∙ mark_sort mark) ∙ e in absurd cc

sign_spelling : (text : List ℕ) → IsSpelling text → text_sort text ≡ Sign → (mark : Punct) × (text ≡ mark_text mark)
sign_spelling text (OfWord h) e = let k = sym (word_text_sort text h) ∙ e in absurd cc
sign_spelling text (OfNumber h) e = let k = sym (number_text_sort text h) ∙ e in absurd cc
sign_spelling text (OfCharacter value h) e = let k = sym (character_sort text value h) ∙ e in absurd cc
sign_spelling text (OfMark mark h) e = (mark, h)

-- a run is the longest
pub run_longest : (Part : ℕ → Type 0) (run rest other behind : List ℕ) → AllByRecursion Part other → ((c : ℕ) (tail : List ℕ) → rest ≡ c ∷ tail → Part c → ⊥) → run ++ rest ≡ other ++ behind → length other ≤ length run
run_longest Part run rest [] behind parts ends e = omega arith
run_longest Part [] rest (c ∷ other) behind parts ends e = absurd (ends c (other ++ behind) e parts.0)
run_longest Part (x ∷ run) rest (c ∷ other) behind parts ends e = let shorter = run_longest Part run rest other behind parts.1 ends cc in omega (arith, shorter)

-- a comment begins with a sign
no_comment : (text : List ℕ) → (text_sort text ≡ Sign → ⊥) → OpensComment text → ⊥
no_comment text no_sign opens = no_sign (ap text_sort opens.1)

-- the bytes of a spelling are parts of its run
all_parts : (Start Part : ℕ → Type 0) → ((c : ℕ) → Start c → Part c) → (text : List ℕ) → IsRun Start Part text → AllByRecursion Part text
all_parts Start Part within text run = subst (AllByRecursion Part) (sym run.whole) (within run.first run.starts, run.parts)

module _ (Start Part : ℕ → Type 0) (within : (c : ℕ) → Start c → Part c) (bytes run rest : List ℕ) (begins : BeginsWith Start bytes) (is : IsFrontRun Part bytes run rest) where
  is_run : (r : List ℕ) → r ≡ run → IsRun Start Part r
  is_run [] e = absurd (is.ends begins.0 begins.1 (ap (λ r. r ++ rest) e ∙ sym is.front ∙ begins.2) (within begins.0 begins.3))
  is_run (c ∷ tail) e =
      let first : c ∷ (tail ++ rest) ≡ begins.0 ∷ begins.1 = ap (λ r. r ++ rest) e ∙ sym is.front ∙ begins.2 in
      let same : begins.0 ≡ c = cc in
      record { first = c; rest = tail; whole = refl; starts = subst Start same begins.3; parts = (subst (AllByRecursion Part) (sym e) is.parts).1 }

  pub run_is : IsRun Start Part run
  run_is = is_run run refl

  pub run_is_longest : IsSpelling run → (text_sort bytes ≡ Sign → ⊥) → ((other behind : List ℕ) → bytes ≡ other ++ behind → IsSpelling other → IsRun Start Part other) → IsLongest run rest
  run_is_longest spelled no_sign runs = record {
    spelled = spelled;
    longest = λ other behind e other_spelled. run_longest Part run rest other behind (all_parts Start Part within other (runs other behind (is.front ∙ e) other_spelled)) is.ends e;
    no_comment = no_comment (run ++ rest) (λ sign. no_sign (ap text_sort is.front ∙ sign));
  }

name_start_is_part : (c : ℕ) → IsNameStart c → IsNamePart c
name_start_is_part c start = inl start

digit_is_part : (c : ℕ) → IsDigit c → IsNumberPart c
digit_is_part c digit = inl (inr digit)

-- a letter and a digit are no signs
letter_no_sign : (text : List ℕ) → text_sort text ≡ Letter → text_sort text ≡ Sign → ⊥
letter_no_sign text letter sign = let k = sym letter ∙ sign in absurd cc

digit_no_sign : (text : List ℕ) → text_sort text ≡ Digit → text_sort text ≡ Sign → ⊥
digit_no_sign text digit sign = let k = sym digit ∙ sign in absurd cc

quote_no_sign : (text : List ℕ) → text_sort text ≡ Quote → text_sort text ≡ Sign → ⊥
quote_no_sign text quote sign = let k = sym quote ∙ sign in absurd cc

-- words
module _ (bytes run rest : List ℕ) (begins : BeginsWith IsNameStart bytes) (is : IsFrontRun IsNamePart bytes run rest) where
  abbrev letter : text_sort bytes ≡ Letter
  letter = ap text_sort begins.2 ∙ letter_sort begins.0 begins.3

  pub word_run : IsNameRun run
  word_run = run_is IsNameStart IsNamePart name_start_is_part bytes run rest begins is

  word_longest : IsLongest run rest
  word_longest = run_is_longest IsNameStart IsNamePart name_start_is_part bytes run rest begins is (OfWord word_run) (letter_no_sign bytes letter) (λ other behind e spelled. letter_spelling other spelled (other_sort bytes other behind e spelled ∙ letter))

  pub word_token : (kind : TokenKind) → Means run kind → IsToken bytes kind (length run)
  word_token kind means = record { spelling = run; rest = rest; front = is.front; sized = refl; longest = word_longest; means = means }

  pub long_name : 127 < length run → HasLongName bytes
  long_name long = record { spelling = run; rest = rest; front = is.front; name = word_run; longest = word_longest; long = long }

-- numbers
module _ (bytes run rest : List ℕ) (begins : BeginsWith IsDigit bytes) (is : IsFrontRun IsNumberPart bytes run rest) where
  abbrev digit : text_sort bytes ≡ Digit
  digit = ap text_sort begins.2 ∙ digit_sort begins.0 begins.3

  number_run : IsNumberRun run
  number_run = run_is IsDigit IsNumberPart digit_is_part bytes run rest begins is

  number_longest : IsLongest run rest
  number_longest = run_is_longest IsDigit IsNumberPart digit_is_part bytes run rest begins is (OfNumber number_run) (digit_no_sign bytes digit) (λ other behind e spelled. digit_spelling other spelled (other_sort bytes other behind e spelled ∙ digit))

  pub number_token : (kind : TokenKind) → Means run kind → IsToken bytes kind (length run)
  number_token kind means = record { spelling = run; rest = rest; front = is.front; sized = refl; longest = number_longest; means = means }

  pub bad_number : ((value : ℕ) (marked decimal : Bool) → IsNumber run value marked decimal → ⊥) → HasBadNumber bytes
  bad_number none = record { spelling = run; rest = rest; front = is.front; number = number_run; longest = number_longest; bad = none }

-- how many bytes stand before the rest
size_before : (text front rest : List ℕ) → text ≡ front ++ rest → length text - length rest ≡ length front
size_before text front rest e = omega (arith, ap length e, length-append front rest)

-- characters
module _ (bytes : List ℕ) (begins : BeginsWith IsQuote bytes) where
  abbrev quote : text_sort bytes ≡ Quote
  quote = ap text_sort begins.2 ∙ ap sort_of begins.3

  pub character_token : (value : ℕ) (rest : List ℕ) → IsBehindCharacter bytes value rest → IsToken bytes (Char value) (length bytes - length rest)
  character_token value rest is = record {
    spelling = is.spelling;
    rest = rest;
    front = is.front;
    sized = size_before bytes is.spelling rest is.front;
    longest = record {
      spelled = OfCharacter value is.is;
      longest = λ other behind e spelled.
          let character = quote_spelling other spelled (other_sort bytes other behind (is.front ∙ e) spelled ∙ quote) in
          let same = character_one is.spelling rest other behind value character.0 is.is character.1 e in
          omega (arith, ap length same.0);
      no_comment = no_comment (is.spelling ++ rest) (λ sign. quote_no_sign bytes quote (ap text_sort is.front ∙ sign));
    };
    means = is.is;
  }

  pub bad_quote : ((spelling rest : List ℕ) (value : ℕ) → IsCharacter spelling value → bytes ≢ spelling ++ rest) → HasBadQuote bytes
  bad_quote none = record {
    rest = begins.1;
    front = begins.2 ∙ ap (λ c. c ∷ begins.1) begins.3;
    bad = λ spelling behind value e character. none spelling behind value character e;
  }

-- marks
module _ (bytes : List ℕ) (no_blank : HasNoBlank bytes) (begins : BeginsWith IsSign bytes) where
  pub mark_token : (mark : Punct) (rest : List ℕ) → ((inside : List ℕ) → bytes ≢ 47 ∷ 42 ∷ inside) → IsBehindMark bytes mark rest → IsToken bytes (Mark mark) (length bytes - length rest)
  mark_token mark rest no_comment is = record {
    spelling = mark_text mark;
    rest = rest;
    front = is.front;
    sized = size_before bytes (mark_text mark) rest is.front;
    longest = record {
      spelled = OfMark mark refl;
      longest = λ other behind e spelled.
          let begun : text_sort bytes ≡ Sign = ap text_sort is.front ∙ spelling_front (mark_text mark) rest (OfMark mark refl) ∙ mark_sort mark in
          let like = sign_spelling other spelled (other_sort bytes other behind (is.front ∙ e) spelled ∙ begun) in
          let longest = is.longest like.0 behind (is.front ∙ e ∙ ap (λ o. o ++ behind) like.1) in
          omega (arith, longest, ap length like.1);
      no_comment = λ opens. no_comment opens.0 (is.front ∙ opens.1);
    };
    means = refl;
  }

  pub bad_byte : ((mark : Punct) (rest : List ℕ) → bytes ≢ mark_text mark ++ rest) → HasBadByte bytes
  bad_byte none = record {
    byte = begins.0;
    rest = begins.1;
    front = begins.2;
    no_space = λ space. no_blank (begins.0 ∷ []) begins.1 begins.2 (inl (begins.0, space, refl));
    no_name_part = begins.3.0;
    no_quote = begins.3.1;
    no_mark = none;
  }

  -- a comment that is closed would be a blank
  pub open_comment : (inside : List ℕ) → bytes ≡ 47 ∷ 42 ∷ inside → HasOpenComment bytes
  open_comment inside e = record { inside = inside; front = e; unclosed = no_blank_no_end bytes inside no_blank e }
