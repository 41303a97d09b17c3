-- Tokens that are taken one part behind another, and the tokens at the front.
use Rattle.std.proofs.Common.{Result, Ok, Err, IfOk, ◌≡◌, ℕ, ◌<◌, max, ◌↔◌, IsTrue, Bool, true, false, if◌then◌else◌, not, inr, List, [], ◌∷◌, ◌++◌, Some, length, refl, sym, ap, subst, ◌∙◌, append_assoc, length-append, arith}
use Rattle.std.proofs.lemmas.List.Sums.{fold_push}
use Rattle.std.specs.List.{fold}
use Rattle.c_syntax.specs.declared.token.Token.{Token}
use Rattle.c_syntax.specs.declared.token.TokenKind.{TokenKind}
use Rattle.c_syntax.specs.declared.token.TokenKind.TheVariants as token
use Rattle.c_syntax.specs.declared.token.Keyword.{Keyword}
use Rattle.c_syntax.specs.declared.token.Punct.{Punct}
use Rattle.c_syntax.specs.declared.token.Punct.TheVariants as mark
use Rattle.c_syntax.specs.Grammar.{IsMark, IsKeyword, place_of}
use Rattle.c_syntax.specs.Derives.{IsNameToken}
use Rattle.c_syntax.specs.Measures.{greatest}
use Rattle.c_cursor.specs.Front.{behind, kind_mark, kind_word, kind_name, mark_at, word_at, name_at}
use Rattle.c_cursor.specs.Takes.{Takes, IsOne, Both, Behind, ListGoesOn}

-- nothing is taken
pub nothing : (Row : List Token → Type 0) (x : List Token) → Row [] → Takes Row x x
nothing Row x r = record { taken = []; cut = refl; is = r }

-- what is one row is another
pub mapped : {R S : List Token → Type 0} {x y : List Token} → ((a : List Token) → R a → S a) → Takes R x y → Takes S x y
mapped f r = record { taken = r.taken; cut = r.cut; is = f r.taken r.is }

-- one row behind another
pub joined : {R S : List Token → Type 0} {x y z : List Token} → Takes R x y → Takes S y z → Takes (Both R S) x z
joined {x = x} {y = y} {z = z} r s = record {
  taken = r.taken ++ s.taken;
  cut = r.cut ∙ ap (λ l. r.taken ++ l) s.cut ∙ sym (append_assoc r.taken s.taken z);
  is = record { front = r.taken; rest = s.taken; cut = refl; first = r.is; second = s.is };
}

-- a row whose front was taken before
pub behind_front : {R S : List Token → Type 0} {x y z : List Token} → Takes R x y → Takes (Behind R S) y z → Takes S x z
behind_front {x = x} {y = y} {z = z} r s = record {
  taken = r.taken ++ s.taken;
  cut = r.cut ∙ ap (λ l. r.taken ++ l) s.cut ∙ sym (append_assoc r.taken s.taken z);
  is = s.is r.taken r.is;
}

first_place : (a x y : List Token) → x ≡ a ++ y → length y < length x → place_of a ≡ place_of x
first_place [] x y e h = absurd (omega (arith, ap length e))
first_place (t ∷ a) x y e h = sym (ap place_of e)

-- the place of what was taken is that of the tokens before, where fewer are left
pub place_taken : {R : List Token → Type 0} {x y : List Token} (r : Takes R x y) → length y < length x → place_of r.taken ≡ place_of x
place_taken {x = x} {y = y} r h = first_place r.taken x y r.cut h

-- a token at the front
pub kind_marked : (k : TokenKind) (m : Punct) → kind_mark k ≡ Some m → k ≡ token.Mark m
kind_marked (token.Mark n) m e = cc
kind_marked k m e = cc

pub kind_worded : (k : TokenKind) (w : Keyword) → kind_word k ≡ Some w → k ≡ token.Word w
kind_worded (token.Word n) w e = cc
kind_worded k w e = cc

pub kind_named : (k : TokenKind) (name : List ℕ) → kind_name k ≡ Some name → k ≡ token.Name name
kind_named (token.Name n) name e = cc
kind_named k name e = cc

pub mark_taken : (m : Punct) (x y : List Token) → mark_at x ≡ Some m → y ≡ behind x → Takes (IsOne (IsMark m)) x y
mark_taken m [] y e b = absurd cc
mark_taken m (t ∷ x) y e b = record { taken = t ∷ []; cut = ap (λ l. t ∷ l) (sym b); is = record { t = t; alone = refl; is = kind_marked t.kind m e } }

pub word_taken : (w : Keyword) (x y : List Token) → word_at x ≡ Some w → y ≡ behind x → Takes (IsOne (IsKeyword w)) x y
word_taken w [] y e b = absurd cc
word_taken w (t ∷ x) y e b = record { taken = t ∷ []; cut = ap (λ l. t ∷ l) (sym b); is = record { t = t; alone = refl; is = kind_worded t.kind w e } }

pub name_taken : (name : List ℕ) (x y : List Token) → name_at x ≡ Some name → y ≡ behind x → Takes (IsOne (IsNameToken name)) x y
name_taken name [] y e b = absurd cc
name_taken name (t ∷ x) y e b = record { taken = t ∷ []; cut = ap (λ l. t ∷ l) (sym b); is = record { t = t; alone = refl; is = kind_named t.kind name e } }

-- one token fewer is left
pub one_fewer : {P : Token → Type 0} {x y : List Token} → Takes (IsOne P) x y → length y < length x
one_fewer {x = x} {y = y} r = omega (arith, ap length r.cut, length-append r.taken y, ap length r.is.alone)

-- the greatest of numbers with one more
pub greatest_more : (xs : List ℕ) (n : ℕ) → greatest (xs ++ n ∷ []) ≡ max (greatest xs) n
greatest_more xs n = fold_push max 0 xs n

fold_from : (n : ℕ) (xs : List ℕ) → fold max n xs ≡ max n (greatest xs)
fold_from n [] = omega arith
fold_from n (x ∷ xs) = omega (arith, fold_from (max n x) xs, fold_from (max 0 x) xs)

pub greatest_first : (n : ℕ) (xs : List ℕ) → greatest (n ∷ xs) ≡ max n (greatest xs)
greatest_first n xs = omega (arith, fold_from (max 0 n) xs)

-- what `take` says of the tokens
pub took : {r : Bool} {m : Punct} {x y : List Token} → IsTrue r ↔ (mark_at x ≡ Some m) → y ≡ (if r then behind x else x) → r ≡ true → Takes (IsOne (IsMark m)) x y
took {r = r} {m = m} {x = x} {y = y} d e h = mark_taken m x y (d.0 h) (e ∙ ap (λ b. if b then behind x else x) h)

pub kept : {r : Bool} {x y : List Token} → y ≡ (if r then behind x else x) → r ≡ false → y ≡ x
kept {r = r} {x = x} {y = y} e h = e ∙ ap (λ b. if b then behind x else x) h

-- nothing is taken where the tokens stay, and where a test took none
pub untaken : (Row : List Token → Type 0) {x y : List Token} → y ≡ x → Row [] → Takes Row x y
untaken Row {x = x} {y = y} e r = subst (λ l. Takes Row x l) (sym e) (nothing Row x r)

pub behind_kept : {Row : List Token → Type 0} {x y z : List Token} → y ≡ x → Takes Row y z → Takes Row x z
behind_kept {Row = Row} {z = z} e r = subst (λ l. Takes Row l z) e r

-- a token before or behind the rest
pub one_before : {P : Token → Type 0} {S : List Token → Type 0} {a : List Token} (r : Both (IsOne P) S a) → a ≡ r.first.t ∷ r.rest
one_before r = r.cut ∙ ap (λ l. l ++ r.rest) r.first.alone

pub one_behind : {P : Token → Type 0} {R : List Token → Type 0} {a : List Token} (r : Both R (IsOne P) a) → a ≡ r.front ++ r.second.t ∷ []
one_behind r = r.cut ∙ ap (λ l. r.front ++ l) r.second.alone

-- the place of the tokens before a token that is taken
pub one_place : {P : Token → Type 0} {x y : List Token} (r : Takes (IsOne P) x y) → place_of x ≡ r.is.t.at
one_place {y = y} r = ap place_of (r.cut ∙ ap (λ l. l ++ y) r.is.alone)

-- what holds of an answer
pub ok_mapped : {A E : Type 0} {P Q : A → Type 0} (r : Result A E) → ((x : A) → P x → Q x) → IfOk r P → IfOk r Q
ok_mapped (Ok x) f h = f x h
ok_mapped (Err e) f h = tt {0}

-- what `take_keyword` says of the tokens
pub took_word : {r : Bool} {w : Keyword} {x y : List Token} → IsTrue r ↔ (word_at x ≡ Some w) → y ≡ (if r then behind x else x) → r ≡ true → Takes (IsOne (IsKeyword w)) x y
took_word {r = r} {w = w} {x = x} {y = y} d e h = word_taken w x y (d.0 h) (e ∙ ap (λ b. if b then behind x else x) h)

-- where it took one, the rest is left
pub gone : {r : Bool} (x : List Token) {y : List Token} → y ≡ (if r then behind x else x) → r ≡ true → y ≡ behind x
gone {r = r} x {y = y} e h = e ∙ ap (λ b. if b then behind x else x) h

pub not_there : {r : Bool} {P : Type 0} → IsTrue r ↔ P → r ≡ false → P → ⊥
not_there d h p = let q = d.1 p in cc

pub length_kept : {x y : List Token} → y ≡ x → length y ≡ length x
length_kept {x = x} {y = y} e = ap (λ (l : List Token). length l) e

-- what was turned round
pub not_true : (r : Bool) → not r ≡ true → r ≡ false
not_true true h = cc
not_true false h = refl

pub not_false : (r : Bool) → not r ≡ false → r ≡ true
not_false true h = refl
not_false false h = cc

-- a comma before a value, or the last one
pub goes_on : (b : Bool) {k l : List Token} → Takes (IsOne (IsMark mark.Comma)) k l → ListGoesOn (not b) k l
goes_on true r = mapped (λ a x. inr (x.t, x.alone, x.is)) r
goes_on false r = r
