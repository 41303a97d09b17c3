-- On the calls that are kept and on those that are still to fail.
use Rattle.std.proofs.Common.{◌≡◌, ◌<◌, ◌≤◌, ℕ, zero, suc, Bool, List, [], ◌∷◌, ◌++◌, length, Option, Some, None, refl, sym, ap, ap₂, ◌∙◌, subst, true, false, true≢false, arith, length-append}
use Rattle.std.specs.List.{Contains, IsAnyAnswer}
use Rattle.std.specs.Prelude.{nat_eq, nat_lt, IsTrue, ◌↔◌, IsSome, option_to_list, if◌then◌else◌}
use Rattle.std.proofs.lemmas.Bool.{lt-ltb, ltb-true}
use Rattle.std.proofs.lemmas.Bool.Decides.{Decides-eqb}
use Rattle.std.proofs.lemmas.List.Elements.{contains_decides, Decides-contains}
use Rattle.std.proofs.lemmas.List.{map-append, length-map}
use Rattle.cc_shelf.specs.Stock.{Call}
use Rattle.cc_memory.specs.Calls.{calls_of, are_past}
use Rattle.cc_memory.specs.declared.mem_shelf.MemCall.{MemCall}

-- ---- calls that are to fail

both_true : (b more : Bool) → (if b then more else false) ≡ true → (b ≡ true) × (more ≡ true)
both_true true more h = (refl, h)
both_true false more h = absurd (true≢false (sym h))

-- what is past is below the next number
pub past_below : (ns : List ℕ) (next : ℕ) → IsTrue (are_past ns next) → (n : ℕ) → Contains ns n → n < next
past_below [] next past n has = absurd (omega (arith, has.1))
past_below (m ∷ ns) next past n (zero, lt, e) = subst (λ k. k < next) e (ltb-true m next (both_true (nat_lt m next) (are_past ns next) past).0)
past_below (m ∷ ns) next past n (suc k, lt, e) = past_below ns next (both_true (nat_lt m next) (are_past ns next) past).1 n (k, omega (arith, lt), e)

all_past : (ns : List ℕ) (next : ℕ) → ((n : ℕ) → Contains ns n → n < next) → IsTrue (are_past ns next)
all_past [] next below = refl
all_past (m ∷ ns) next below =
    ap (λ b. if b then are_past ns next else false) (lt-ltb m next (below m (zero, omega arith, refl)))
    ∙ all_past ns next (λ n has. below n (suc has.0, omega (arith, has.1), has.2))

pub past_exactly : (ns : List ℕ) (next : ℕ) → IsTrue (are_past ns next) ↔ ((n : ℕ) → Contains ns n → n < next)
past_exactly ns next = (past_below ns next, all_past ns next)

-- what is past stays so
pub still_past : (ns : List ℕ) (next after : ℕ) → next ≤ after → IsTrue (are_past ns next) → IsTrue (are_past ns after)
still_past ns next after later past = all_past ns after (λ n has. let lt = past_below ns next past n has in omega (arith, lt, later))

-- the next one isn't to fail
pub next_not : (ns : List ℕ) (next : ℕ) → IsTrue (are_past ns next) → Contains ns next → ⊥
next_not ns next past has = let lt = past_below ns next past next has in omega (arith, lt)

-- whether a number is in a list
pub contains_is : (items shown : List ℕ) (n : ℕ) (b : Bool) → shown ≡ items → IsAnyAnswer (λ y t. nat_eq y n ≡ t) shown b → IsTrue b ↔ Contains items n
contains_is items shown n b value answer =
    Decides-contains items n b (contains_decides nat_eq Decides-eqb items n b (subst (λ l. IsAnyAnswer (λ y t. nat_eq y n ≡ t) l b) value answer))

-- ---- the last of the calls that are kept

nothing_there : (ys : List Call) (y : Call) → [] ≡ ys ++ y ∷ [] → ⊥
nothing_there ys y e = omega (arith, ap length e, length-append ys (y ∷ []))

front_same : (xs ys : List Call) (x y : Call) → xs ++ x ∷ [] ≡ ys ++ y ∷ [] → xs ≡ ys
front_same [] [] x y e = refl
front_same [] (b ∷ ys) x y e = absurd (nothing_there ys y (let k : x ∷ [] ≡ b ∷ (ys ++ y ∷ []) = e in cc))
front_same (a ∷ xs) [] x y e = absurd (nothing_there xs x (let k : a ∷ (xs ++ x ∷ []) ≡ y ∷ [] = e in cc))
front_same (a ∷ xs) (b ∷ ys) x y e =
    let k : a ∷ (xs ++ x ∷ []) ≡ b ∷ (ys ++ y ∷ []) = e in
    let head : a ≡ b = cc in
    let tail : xs ++ x ∷ [] ≡ ys ++ y ∷ [] = cc in
    ap₂ (λ c cs. c ∷ cs) head (front_same xs ys x y tail)

pub last_dropped : (old new : List MemCall) (popped : Option MemCall) → old ≡ new ++ option_to_list popped → (0 < length old → IsSome popped) → (before : List Call) (last : Call)
    → calls_of old ≡ before ++ last ∷ [] → calls_of new ≡ before
last_dropped old new None items some before last is =
    let as_many : length (calls_of old) ≡ length old = length-map {B = Call} old (λ c. record { name = c.name; failed = c.failed }) in
    absurd (true≢false (sym (some (omega (arith, ap length is, length-append before (last ∷ []), as_many)))))
last_dropped old new (Some c) items some before last is =
    front_same (calls_of new) before _ last (sym (map-append {B = Call} (λ m. record { name = m.name; failed = m.failed }) new (c ∷ [])) ∙ ap calls_of (sym items) ∙ is)
