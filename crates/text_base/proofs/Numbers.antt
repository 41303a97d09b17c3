-- Numbers and the spaces between them.
use Rattle.std.proofs.Common.{◌≡◌, ◌≢◌, ℕ, ◌+◌, ◌<◌, ◌^◌, ◌%◌, List, [], ◌∷◌, ◌++◌, refl, sym, ap, ◌∙◌, arith}
use Rattle.std.specs.Prelude.{decimal}
use Rattle.std.proofs.lemmas.Fmt.{decimal_by_steps, decimal_injective}
use Rattle.text_base.specs.Fields.{IsSpacedOff}
use Rattle.text_base.specs.Lines.{Lacks}

Lacks-append : (mark : ℕ) (xs ys : List ℕ) → Lacks mark xs → Lacks mark ys → Lacks mark (xs ++ ys)
Lacks-append mark [] ys a b = b
Lacks-append mark (x ∷ xs) ys a b = (a.0, Lacks-append mark xs ys a.1 b)

not_mark : (mark b : ℕ) → mark < 48 → 47 < b → b ≢ mark
not_mark mark b below lt e = omega arith

pub decimal_lacks : (mark n : ℕ) → mark < 48 → n < 2 ^ 64 → Lacks mark (decimal n)
decimal_lacks mark n below = decimal_by_steps (λ m ds. Lacks mark ds)
    (λ m lt. (not_mark mark (48 + m) below (omega arith), tt {0}))
    (λ m ds le more. Lacks-append mark ds ((48 + m % 10) ∷ []) more (not_mark mark (48 + m % 10) below (omega arith), tt {0}))
    n

-- what has no space ends where the space is
pub same_front : (one two x y : List ℕ) → Lacks 32 one → Lacks 32 two → IsSpacedOff x → IsSpacedOff y → one ++ x ≡ two ++ y → (one ≡ two) × (x ≡ y)
same_front [] [] x y g h p q e = (refl, e)
same_front [] (c ∷ two) [] y g h p q e = absurd cc
same_front [] (c ∷ two) (a ∷ x) y g h p q e = absurd (h.0 (let same : c ≡ a = cc in same ∙ p))
same_front (b ∷ one) [] x [] g h p q e = absurd cc
same_front (b ∷ one) [] x (a ∷ y) g h p q e = absurd (g.0 (let same : b ≡ a = cc in same ∙ q))
same_front (b ∷ one) (c ∷ two) x y g h p q e =
    let f = same_front one two x y g.1 h.1 p q cc in
    let head : b ≡ c = cc in
    (cc (f.0, head), f.1)

pub same_number : (m n : ℕ) (x y : List ℕ) → m < 2 ^ 64 → n < 2 ^ 64 → IsSpacedOff x → IsSpacedOff y → decimal m ++ x ≡ decimal n ++ y → (m ≡ n) × (x ≡ y)
same_number m n x y lt less p q e =
    let f = same_front (decimal m) (decimal n) x y (decimal_lacks 32 m (omega arith) lt) (decimal_lacks 32 n (omega arith) less) p q e in
    (decimal_injective m n lt less f.0, f.1)

-- the digits of a field are those of the number there
pub field_is : (digits rest other : List ℕ) (n : ℕ) → n < 2 ^ 64 → Lacks 32 digits → IsSpacedOff rest → IsSpacedOff other → digits ++ rest ≡ decimal n ++ other → digits ≡ decimal n
field_is digits rest other n lt h p q e = (same_front digits (decimal n) rest other h (decimal_lacks 32 n (omega arith) lt) p q e).0

pub same_behind : (front x y : List ℕ) → front ++ x ≡ front ++ y → x ≡ y
same_behind [] x y e = e
same_behind (f ∷ front) x y e = same_behind front x y cc

-- a field behind some bytes, which isn't that of a number
pub no_number : (front bytes inner digits rest : List ℕ) → bytes ≡ front ++ inner → Lacks 32 digits → IsSpacedOff rest → inner ≡ digits ++ rest → ((n : ℕ) → n < 2 ^ 64 → digits ≢ decimal n)
    → (n : ℕ) (other : List ℕ) → n < 2 ^ 64 → IsSpacedOff other → bytes ≢ front ++ (decimal n ++ other)
no_number front bytes inner digits rest b h p i none n other lt q e =
    none n lt (field_is digits rest other n lt h p q (sym i ∙ same_behind front inner (decimal n ++ other) (sym b ∙ e)))

-- or that of one number alone
pub one_number : (front bytes inner digits rest : List ℕ) (m : ℕ) → bytes ≡ front ++ inner → Lacks 32 digits → IsSpacedOff rest → inner ≡ digits ++ rest → digits ≡ decimal m → m < 2 ^ 64
    → (n : ℕ) (other : List ℕ) → n < 2 ^ 64 → IsSpacedOff other → bytes ≡ front ++ (decimal n ++ other) → m ≡ n
one_number front bytes inner digits rest m b h p i d less n other lt q e =
    decimal_injective m n less lt (sym d ∙ field_is digits rest other n lt h p q (sym i ∙ same_behind front inner (decimal n ++ other) (sym b ∙ e)))

-- a number and a space, and then another number
pub pair_front : (bytes digits rest : List ℕ) (m n : ℕ) → Lacks 32 digits → IsSpacedOff rest → bytes ≡ digits ++ rest → m < 2 ^ 64 → bytes ≡ decimal m ++ 32 ∷ decimal n → (digits ≡ decimal m) × (rest ≡ 32 ∷ decimal n)
pair_front bytes digits rest m n h p b lt e =
    let d = field_is digits rest (32 ∷ decimal n) m lt h p refl (sym b ∙ e) in
    (d, same_behind (decimal m) rest (32 ∷ decimal n) (ap (λ t. t ++ rest) (sym d) ∙ sym b ∙ e))
