-- How high a statement is over its parts, and that it takes tokens.
use Rattle.std.proofs.Common.{◌≡◌, ◌+◌, ◌<◌, ◌≤◌, ℕ, max, List, length, ap, arith}
use Rattle.c_syntax.specs.declared.token.Token.{Token}
use Rattle.c_syntax.specs.SyntaxTree.{Statement}
use Rattle.c_syntax.specs.Measures.{statement_height, greatest_height}
use Rattle.c_cursor.specs.Takes.{Takes, IsOne}
use Rattle.c_cursor.proofs.TakesLemmas.{one_fewer}

pub two_heights : {x z : Statement} {h a b m n : ℕ} → z ≡ x → h ≡ 1 + max a b → a ≡ m → b ≡ n → statement_height x ≡ 1 + max m n → h ≡ statement_height z
two_heights e h p q is = let same = ap statement_height e in omega arith

pub three_heights : {x z : Statement} {h a b d m n o : ℕ} → z ≡ x → h ≡ 1 + max a (max b d) → a ≡ m → b ≡ n → d ≡ o → statement_height x ≡ 1 + max m (max n o) → h ≡ statement_height z
three_heights e h p q r is = let same = ap statement_height e in omega arith

pub same_room : {h a : ℕ} (depth : ℕ) → h ≡ a → depth + a ≤ greatest_height → depth + h ≤ greatest_height
same_room depth h p = omega arith

pub two_rooms : {h : ℕ} (depth a b : ℕ) → h ≡ 1 + max a b → depth + 1 + a ≤ greatest_height → depth + 1 + b ≤ greatest_height → depth + h ≤ greatest_height
two_rooms depth a b h p q = omega arith

pub three_rooms : {h : ℕ} (depth a b d : ℕ) → h ≡ 1 + max a (max b d) → depth + 1 + a ≤ greatest_height → depth + 1 + b ≤ greatest_height → depth + 1 + d ≤ greatest_height → depth + h ≤ greatest_height
three_rooms depth a b d h p q r = omega arith

pub fewer_yet : {R S : List Token → Type 0} {k l m : List Token} → Takes R k l → Takes S l m → length l < length k → length m < length l → length m < length k
fewer_yet r s f g = omega arith

pub fewer_behind : {P : Token → Type 0} {R : List Token → Type 0} {k l m : List Token} → Takes (IsOne P) k l → Takes R l m → length m < length l → length m < length k
fewer_behind q r f = omega (arith, one_fewer q)

pub fewer_both : {P : Token → Type 0} {R S : List Token → Type 0} {k l m n : List Token} → Takes (IsOne P) k l → Takes R l m → Takes S m n → length m < length l → length n < length m → length n < length k
fewer_both q r s f g = omega (arith, one_fewer q)

pub fewer_kept : {P : Token → Type 0} {R S : List Token → Type 0} {k l m n o : List Token} → Takes (IsOne P) k l → Takes R l m → Takes S m n → o ≡ n → length m < length l → length n < length m → length o < length k
fewer_kept q r s e f g = omega (arith, one_fewer q, ap (λ (x : List Token). length x) e)

pub fewer_else : {P Q : Token → Type 0} {R S T : List Token → Type 0} {k l m n o v : List Token} → Takes (IsOne P) k l → Takes R l m → Takes S m n → Takes (IsOne Q) n o → Takes T o v
    → length m < length l → length n < length m → length v < length o → length v < length k
fewer_else q r s u w f g h = omega (arith, one_fewer q, one_fewer u)

pub fewer_switch : {P Q : Token → Type 0} {R S : List Token → Type 0} {k l m n o : List Token} → Takes (IsOne P) k l → Takes R l m → Takes (IsOne Q) m n → Takes S n o → length m < length l → length o < length n → length o < length k
fewer_switch q r u s f g = omega (arith, one_fewer q, one_fewer u)
