-- Bytes at which no line, statement or operand is cut.
use Rattle.std.proofs.Common.{◌≡◌, ℕ, ◌+◌, ◌/◌, ◌%◌, ◌<◌, ◌^◌, ◌==◌, Bool, true, false, not, List, [], ◌∷◌, ◌++◌, length, refl, sym, ap, ◌∙◌, arith, append_assoc}
use Rattle.std.specs.Prelude.{◌&&◌, decimal}
use Rattle.std.specs.List.{list_all}
use Rattle.std.proofs.lemmas.List.Folds.{list_all-append}
use Rattle.std.proofs.lemmas.Fmt.{decimal_by_steps}
use Rattle.c25_isa.proofs.Cases.{at_below}
use Rattle.c25_image.specs.Hex.{hex_digit, hex4}
use Rattle.c25_dis.specs.Operands.{hex2, hex3}
use Rattle.c25_asm.specs.Cuts.{Lacks, is_blank}

-- no byte of a statement is a line feed or a semicolon
abbrev pub is_calm : ℕ → Bool
is_calm c = not (c == 10) && not (c == 59)

-- no byte of an operand ends it or a line either
abbrev pub is_plain : ℕ → Bool
is_plain c = is_calm c && (not (c == 44) && (not (is_blank c) && (not (c == 58) && not (c == 13))))

pub and_left : (a b : Bool) → (a && b) ≡ true → a ≡ true
and_left true b e = refl
and_left false b e = e

pub and_right : (a b : Bool) → (a && b) ≡ true → b ≡ true
and_right true b e = e
and_right false b e = absurd cc

and_both : (a b : Bool) → a ≡ true → b ≡ true → (a && b) ≡ true
and_both a b p q = ap (λ x. x && b) p ∙ q

not_true : (a : Bool) → not a ≡ true → a ≡ false
not_true true e = sym e
not_true false e = refl

module _ (c : ℕ) where
  pub no_feed : is_calm c ≡ true → (c == 10) ≡ false
  no_feed e = not_true _ (and_left (not (c == 10)) _ e)

  pub no_comment : is_calm c ≡ true → (c == 59) ≡ false
  no_comment e = not_true _ (and_right (not (c == 10)) _ e)

  pub calm : is_plain c ≡ true → is_calm c ≡ true
  calm e = and_left (is_calm c) _ e

  pub no_comma : is_plain c ≡ true → (c == 44) ≡ false
  no_comma e = not_true _ (and_left (not (c == 44)) _ (and_right (is_calm c) _ e))

  pub no_blank : is_plain c ≡ true → is_blank c ≡ false
  no_blank e = not_true _ (and_left (not (is_blank c)) _ (and_right (not (c == 44)) _ (and_right (is_calm c) _ e)))

  pub no_colon : is_plain c ≡ true → (c == 58) ≡ false
  no_colon e = not_true _ (and_left (not (c == 58)) _ (and_right (not (is_blank c)) _ (and_right (not (c == 44)) _ (and_right (is_calm c) _ e))))

  pub no_return : is_plain c ≡ true → (c == 13) ≡ false
  no_return e = not_true _ (and_right (not (c == 58)) _ (and_right (not (is_blank c)) _ (and_right (not (c == 44)) _ (and_right (is_calm c) _ e))))

-- texts of such bytes
abbrev pub AreCalm : List ℕ → Type 0
AreCalm text = list_all is_calm text ≡ true

abbrev pub ArePlain : List ℕ → Type 0
ArePlain text = list_all is_plain text ≡ true

pub all_append : (p : ℕ → Bool) (xs ys : List ℕ) → list_all p xs ≡ true → list_all p ys ≡ true → list_all p (xs ++ ys) ≡ true
all_append p xs ys a b = list_all-append p xs ys ∙ and_both _ _ a b

pub all_lack : (p test : ℕ → Bool) → ((c : ℕ) → p c ≡ true → test c ≡ false) → (text : List ℕ) → list_all p text ≡ true → Lacks test text
all_lack p test tells [] h = tt {0}
all_lack p test tells (c ∷ cs) h = (tells c (and_left (p c) _ h), all_lack p test tells cs (and_right (p c) _ h))

pub are_calm : (text : List ℕ) → ArePlain text → AreCalm text
are_calm [] h = refl
are_calm (c ∷ cs) h = and_both (is_calm c) _ (calm c (and_left (is_plain c) _ h)) (are_calm cs (and_right (is_plain c) _ h))

-- a text that ends with such a byte
pub record EndsPlain (text : List ℕ) : Type 0 where
  pub front : List ℕ
  pub last : ℕ
  pub is : text ≡ front ++ last ∷ []
  pub plain : is_plain last ≡ true

pub ends_behind : (front text : List ℕ) → EndsPlain text → EndsPlain (front ++ text)
ends_behind front text e = record {
  front = front ++ e.front;
  last = e.last;
  is = ap (λ t. front ++ t) e.is ∙ sym (append_assoc front e.front (e.last ∷ []));
  plain = e.plain;
}

pub plain_ends : (text : List ℕ) → 0 < length text → ArePlain text → EndsPlain text
plain_ends [] some h = absurd (omega arith)
plain_ends (c ∷ []) some h = record { front = []; last = c; is = refl; plain = and_left (is_plain c) _ h }
plain_ends (c ∷ d ∷ ds) some h = ends_behind (c ∷ []) (d ∷ ds) (plain_ends (d ∷ ds) (omega arith) (and_right (is_plain c) _ h))

-- ---- digits

hex_plain : (d : ℕ) → d < 16 → is_plain (hex_digit d) ≡ true
hex_plain d lt = at_below (λ n. is_plain (hex_digit n) ≡ true) 16 ((((((((((((((((tt, refl), refl), refl), refl), refl), refl), refl), refl), refl), refl), refl), refl), refl), refl), refl), refl) d lt

pub hex2_plain : (n : ℕ) → ArePlain (hex2 n)
hex2_plain n =
    and_both _ _ (hex_plain (n / 16 % 16) (omega arith))
    (and_both _ _ (hex_plain (n % 16) (omega arith)) refl)

pub hex3_plain : (n : ℕ) → ArePlain (hex3 n)
hex3_plain n = and_both _ _ (hex_plain (n / 256 % 16) (omega arith)) (hex2_plain n)

pub hex4_plain : (w : ℕ) → w < 65536 → ArePlain (hex4 w)
hex4_plain w lt =
    and_both _ _ (hex_plain (w / 4096) (omega arith))
    (and_both _ _ (hex_plain (w / 256 % 16) (omega arith)) (hex2_plain w))

digit_plain : (d : ℕ) → d < 10 → is_plain (48 + d) ≡ true
digit_plain d lt = at_below (λ n. is_plain (48 + n) ≡ true) 10 ((((((((((tt, refl), refl), refl), refl), refl), refl), refl), refl), refl), refl) d lt

pub decimal_plain : (n : ℕ) → n < 2 ^ 64 → ArePlain (decimal n)
decimal_plain n lt = decimal_by_steps (λ m ds. ArePlain ds)
    (λ m less. and_both _ _ (digit_plain m less) refl)
    (λ m ds le more. all_append is_plain ds ((48 + m % 10) ∷ []) more (and_both _ _ (digit_plain (m % 10) (omega arith)) refl))
    n lt
