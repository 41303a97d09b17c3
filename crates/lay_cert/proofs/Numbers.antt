-- What each line says, it says of one thing.
use Rattle.std.proofs.Common.{◌≡◌, ◌≢◌, ℕ, ◌/◌, ◌%◌, ◌<◌, ◌^◌, List, [], ◌∷◌, ◌++◌, refl, sym, ◌∙◌, arith}
use Rattle.std.specs.Prelude.{decimal, codes}
use Rattle.std.specs.List.{AllByRecursion}
use Rattle.std.proofs.lemmas.Fmt.{decimal_injective}
use Rattle.std.proofs.lemmas.Bool.Decides.{nat_tests}
use Rattle.text_base.specs.Lines.{with_feed, Lacks}
use Rattle.lay_lines.specs.BlockText.{spaced}
use Rattle.text_base.proofs.Numbers.{same_number}
use Rattle.lay_lines.proofs.Blocks.{spaced_is_off}
use Rattle.lay_tree.specs.declared.answer.Mark.{Mark}
use Rattle.lay_tree.specs.declared.answer.Mark.TheVariants.{Branched, Closed}
use Rattle.lay_cert.specs.declared.certificate.Claim.{Claim}
use Rattle.lay_cert.specs.declared.certificate.Claim.TheVariants.{Optimal, Best}
use Rattle.text_base.specs.Hex.{hex_digit, hex4}
use Rattle.lay_cert.specs.Frames.{IsClaim}
use Rattle.lay_cert.specs.CertText.{version_line, registers_line, cost_line, claim_line, marks_line}
use Rattle.lay_lines.specs.ListText.{list_line}
use Rattle.lay_lines.specs.MarkText.{mark_byte, mark_bytes}

-- ---- lines

-- the first line of a text
pub same_line : (l m x y : List ℕ) → Lacks 10 l → Lacks 10 m → with_feed l ++ x ≡ with_feed m ++ y → (l ≡ m) × (x ≡ y)
same_line [] [] x y g h e = (refl, cc)
same_line [] (c ∷ m) x y g h e = absurd (h.0 (let same : c ≡ 10 = cc in same))
same_line (b ∷ l) [] x y g h e = absurd (g.0 (let same : b ≡ 10 = cc in same))
same_line (b ∷ l) (c ∷ m) x y g h e =
    let r = same_line l m x y g.1 h.1 cc in
    let head : b ≡ c = cc in
    (cc (r.0, head), r.1)

pub has_feed : (line more : List ℕ) → Lacks 10 (with_feed line ++ more) → ⊥
has_feed [] more h = h.0 refl
has_feed (b ∷ line) more h = has_feed line more h.1

-- ---- numbers

pub version_same : (m n : ℕ) → m < 2 ^ 64 → n < 2 ^ 64 → version_line m ≡ version_line n → m ≡ n
version_same m n lt less e = decimal_injective m n lt less cc

pub registers_same : (m n : ℕ) → m < 2 ^ 64 → n < 2 ^ 64 → registers_line m ≡ registers_line n → m ≡ n
registers_same m n lt less e = decimal_injective m n lt less cc

pub cost_same : (m n : ℕ) → m < 2 ^ 64 → n < 2 ^ 64 → cost_line m ≡ cost_line n → m ≡ n
cost_same m n lt less e = decimal_injective m n lt less cc

pub marks_same : (m n : ℕ) → m < 2 ^ 64 → n < 2 ^ 64 → marks_line m ≡ marks_line n → m ≡ n
marks_same m n lt less e = decimal_injective m n lt less cc

digit_same : (a b : ℕ) → a < 16 → b < 16 → hex_digit a ≡ hex_digit b → a ≡ b
digit_same a b lt less e = grind (arith, nat_tests)

pub hex_same : (v w : ℕ) → v < 2 ^ 16 → w < 2 ^ 16 → (x y : List ℕ) → hex4 v ++ x ≡ hex4 w ++ y → (v ≡ w) × (x ≡ y)
hex_same v w lt less x y e =
    let one = digit_same (v / 4096) (w / 4096) (omega arith) (omega arith) cc in
    let two = digit_same (v / 256 % 16) (w / 256 % 16) (omega arith) (omega arith) cc in
    let three = digit_same (v / 16 % 16) (w / 16 % 16) (omega arith) (omega arith) cc in
    let four = digit_same (v % 16) (w % 16) (omega arith) (omega arith) cc in
    (omega (arith, one, two, three, four), cc)

pub spaced_same : (xs ys : List ℕ) → AllByRecursion (λ n. n < 2 ^ 64) xs → AllByRecursion (λ n. n < 2 ^ 64) ys → spaced xs ≡ spaced ys → xs ≡ ys
spaced_same [] [] a b e = refl
spaced_same [] (y ∷ ys) a b e = absurd cc
spaced_same (x ∷ xs) [] a b e = absurd cc
spaced_same (x ∷ xs) (y ∷ ys) a b e =
    let inner : decimal x ++ spaced xs ≡ decimal y ++ spaced ys = cc in
    let r = same_number x y (spaced xs) (spaced ys) a.0 b.0 (spaced_is_off xs) (spaced_is_off ys) inner in
    let rest = spaced_same xs ys a.1 b.1 r.1 in
    let head : x ≡ y = r.0 in
    cc (head, rest)

pub list_same : (v w : ℕ) (xs ys : List ℕ) → v < 2 ^ 16 → w < 2 ^ 16 → AllByRecursion (λ n. n < 2 ^ 64) xs → AllByRecursion (λ n. n < 2 ^ 64) ys → list_line v xs ≡ list_line w ys → (v ≡ w) × (xs ≡ ys)
list_same v w xs ys lt less a b e =
    let inner : hex4 v ++ spaced xs ≡ hex4 w ++ spaced ys = cc in
    let r = hex_same v w lt less (spaced xs) (spaced ys) inner in
    (r.0, spaced_same xs ys a b r.1)

-- ---- claims

best_same : (p q m n : ℕ) → p ≡ q → m ≡ n → ◌≡◌ {A = Claim} (Best p m) (Best q n)
best_same p q m n e f = cc

pub pair_same : (p q m n : ℕ) → p < 2 ^ 64 → q < 2 ^ 64 → m < 2 ^ 64 → n < 2 ^ 64 → decimal p ++ 32 ∷ decimal m ≡ decimal q ++ 32 ∷ decimal n → (p ≡ q) × (m ≡ n)
pair_same p q m n a b c d e =
    let r = same_number p q (32 ∷ decimal m) (32 ∷ decimal n) a b refl refl e in
    (r.0, decimal_injective m n c d (let f = r.1 in cc))

pub claim_same : (c d : Claim) → IsClaim c → IsClaim d → claim_line c ≡ claim_line d → c ≡ d
claim_same Optimal Optimal g h e = refl
claim_same Optimal (Best q n) g h e = absurd (let first : ◌≡◌ {A = ℕ} 111 98 = cc in omega arith)
claim_same (Best p m) Optimal g h e = absurd (let first : ◌≡◌ {A = ℕ} 98 111 = cc in omega arith)
claim_same (Best p m) (Best q n) g h e =
    let inner : decimal p ++ 32 ∷ decimal m ≡ decimal q ++ 32 ∷ decimal n = cc in
    let r = pair_same p q m n (omega (arith, g.0)) (omega (arith, h.0)) (omega (arith, g.1)) (omega (arith, h.1)) inner in
    best_same p q m n r.0 r.1

-- a claim with greater numbers
pub no_claim : (line rest : List ℕ) (p q : ℕ) → line ≡ codes "claim best " ++ rest → rest ≡ decimal p ++ 32 ∷ decimal q → p < 2 ^ 64 → q < 2 ^ 64 → (p < 2 ^ 8 → q < 2 ^ 32 → ⊥) → (claim : Claim) → IsClaim claim → line ≢ claim_line claim
no_claim line rest p q text pair lt less bad Optimal h e = absurd (let same : codes "claim best " ++ rest ≡ codes "claim optimal" = sym text ∙ e in let first : ◌≡◌ {A = ℕ} 98 111 = cc in omega arith)
no_claim line rest p q text pair lt less bad (Best m n) h e =
    let same : codes "claim best " ++ rest ≡ codes "claim best " ++ (decimal m ++ 32 ∷ decimal n) = sym text ∙ e in
    let inner : decimal p ++ 32 ∷ decimal q ≡ decimal m ++ 32 ∷ decimal n = sym pair ∙ (let front : rest ≡ decimal m ++ 32 ∷ decimal n = cc in front) in
    let r = pair_same p m q n lt (omega (arith, h.0)) less (omega (arith, h.1)) inner in
    bad (omega (arith, r.0, h.0)) (omega (arith, r.1, h.1))

-- ---- marks

byte_same : (a b : Mark) → mark_byte a ≡ mark_byte b → a ≡ b
byte_same Branched Branched e = refl
byte_same Branched Closed e = absurd (omega arith)
byte_same Closed Branched e = absurd (omega arith)
byte_same Closed Closed e = refl

pub mark_bytes_same : (a b : List Mark) → mark_bytes a ≡ mark_bytes b → a ≡ b
mark_bytes_same [] [] e = refl
mark_bytes_same [] (y ∷ b) e = absurd cc
mark_bytes_same (x ∷ a) [] e = absurd cc
mark_bytes_same (x ∷ a) (y ∷ b) e =
    let head : x ≡ y = byte_same x y cc in
    let rest : a ≡ b = mark_bytes_same a b cc in
    cc (head, rest)
