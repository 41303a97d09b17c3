-- Sums over the functions that haven't been followed, and that one of them has no call that hasn't been, where none reaches itself.
use Rattle.std.proofs.Common.{◌≡◌, ◌≢◌, ◌<◌, ◌≤◌, ◌+◌, ◌==◌, ◌∙◌, ℕ, zero, suc, Bool, true, false, if◌then◌else◌, List, [], ◌∷◌, refl, ap, sym, subst, inl, inr, arith}
use Rattle.std.proofs.lemmas.Bool.{cases_lt, cases_eq, cases_Bool, eq-eqb, false≢true}
use Rattle.std.proofs.lemmas.Bool.Decides.{eqb_tells}
use Rattle.std.specs.Prelude.{◌⊎◌}
use Rattle.std.specs.List.{Contains}
use Rattle.c_tree.specs.Declarations.{occurrences}
use Rattle.c_tree.specs.Rounds.{IsWay, HasNoRound}
use Rattle.mem_plan.specs.Search.{open_sum, nothing_followed}

-- what one function adds
yes_adds : (b : Bool) (n : ℕ) → b ≡ true → (if b then 0 else n) ≡ 0
yes_adds b n is = ap (λ x. if x then 0 else n) is

no_adds : (b : Bool) (n : ℕ) → b ≡ false → (if b then 0 else n) ≡ n
no_adds b n is = ap (λ x. if x then 0 else n) is

pub open_sum_at : (w : ℕ → ℕ) (m : ℕ → Bool) (n g : ℕ) → g < n → m g ≡ false → w g ≤ open_sum w m n
open_sum_at w m zero g less unmet = absurd (omega (arith, less))
open_sum_at w m (suc n) g less unmet = elim (cases_lt g n) [
  | inl below ↦ let before = open_sum_at w m n g below unmet in omega (arith, before)
  | inr most ↦
      let same : g ≡ n = omega (arith, less, most) in
      let adds = no_adds (m n) (w n) (ap m (sym same) ∙ unmet)
      in omega (arith, adds, ap w same)
]

pub record OpenAt (w : ℕ → ℕ) (m : ℕ → Bool) (n : ℕ) : Type 0 where
  pub at : ℕ
  pub below : at < n
  pub is_open : m at ≡ false
  pub weighs : 0 < w at

pub open_sum_some : (w : ℕ → ℕ) (m : ℕ → Bool) (n : ℕ) → 0 < open_sum w m n → OpenAt w m n
open_sum_some w m zero some = absurd (omega (arith, some))
open_sum_some w m (suc n) some = elim (cases_lt 0 (open_sum w m n)) [
  | inl more ↦ let h = open_sum_some w m n more in record { at = h.at; below = omega (arith, h.below); is_open = h.is_open; weighs = h.weighs }
  | inr none ↦ elim (cases_Bool (m n)) [
    | inl met ↦ let adds = yes_adds (m n) (w n) met in absurd (omega (arith, some, none, adds))
    | inr unmet ↦ let adds = no_adds (m n) (w n) unmet in record { at = n; below = omega arith; is_open = unmet; weighs = omega (arith, some, none, adds) }
  ]
]

open_sum_same : (w : ℕ → ℕ) (m k : ℕ → Bool) (n : ℕ) → ((g : ℕ) → g < n → k g ≡ m g) → open_sum w k n ≡ open_sum w m n
open_sum_same w m k zero alike = refl
open_sum_same w m k (suc n) alike =
    let rest = open_sum_same w m k n (λ g less. alike g (omega (arith, less))) in
    let here = ap (λ b. if b then 0 else w n) (alike n (omega arith))
    in omega (arith, rest, here)

-- one more is followed
pub open_sum_step : (w : ℕ → ℕ) (m k : ℕ → Bool) (n g : ℕ) → g < n → m g ≡ false → k g ≡ true → ((f : ℕ) → f ≢ g → k f ≡ m f)
    → w g + open_sum w k n ≡ open_sum w m n
open_sum_step w m k zero g less unmet met others = absurd (omega (arith, less))
open_sum_step w m k (suc n) g less unmet met others = elim (cases_lt g n) [
  | inl below ↦
      let rest = open_sum_step w m k n g below unmet met others in
      let here = ap (λ b. if b then 0 else w n) (others n (λ same. omega (arith, below, same)))
      in omega (arith, rest, here)
  | inr most ↦
      let same : g ≡ n = omega (arith, less, most) in
      let was = no_adds (m n) (w n) (ap m (sym same) ∙ unmet) in
      let adds = yes_adds (k n) (w n) (ap k (sym same) ∙ met) in
      let rest = open_sum_same w m k n (λ f low. others f (λ equal. omega (arith, low, equal, same)))
      in omega (arith, was, adds, rest, ap w same)
]

-- all are followed, or none
pub open_sum_all : (w : ℕ → ℕ) (m : ℕ → Bool) (n : ℕ) → ((g : ℕ) → g < n → m g ≡ true) → open_sum w m n ≡ 0
open_sum_all w m zero all = refl
open_sum_all w m (suc n) all =
    let rest = open_sum_all w m n (λ g less. all g (omega (arith, less))) in
    let adds = yes_adds (m n) (w n) (all n (omega arith))
    in omega (arith, rest, adds)

pub open_sum_ones : (n : ℕ) → open_sum (λ f. 1) nothing_followed n ≡ n
open_sum_ones zero = refl
open_sum_ones (suc n) = let rest = open_sum_ones n in omega (arith, rest)

-- how often a number stands in a list
pub occurs_here : (n : ℕ) (ms : List ℕ) → occurrences n (n ∷ ms) ≡ 1 + occurrences n ms
occurs_here n ms = let one = ap {B = ℕ} (λ b. if b then 1 else 0) (eq-eqb n n refl) in omega (arith, one)

pub occurs_later : (n m : ℕ) (ms : List ℕ) → n ≢ m → occurrences n (m ∷ ms) ≡ occurrences n ms
occurs_later n m ms differ = elim (eqb_tells m n) [
  | inl same ↦ absurd (differ (sym same.1))
  | inr other ↦ let none = ap {B = ℕ} (λ b. if b then 1 else 0) other.0 in omega (arith, none)
]

pub contains_later : (n m : ℕ) (ms : List ℕ) → Contains ms n → Contains (m ∷ ms) n
contains_later n m ms found = (suc found.0, omega (arith, found.1), found.2)

pub contained_first : (n m : ℕ) (ms : List ℕ) → Contains (m ∷ ms) n → (n ≡ m) ⊎ Contains ms n
contained_first n m ms (zero, less, is) = inl (sym is)
contained_first n m ms (suc k, less, is) = inr (k, omega (arith, less), is)

pub contains_occurring : (n : ℕ) (ms : List ℕ) → 0 < occurrences n ms → Contains ms n
contains_occurring n [] some = absurd (omega (arith, some))
contains_occurring n (m ∷ ms) some = elim (cases_eq n m) [
  | inl same ↦ (0, omega arith, sym same)
  | inr differ ↦ contains_later n m ms (contains_occurring n ms (let same = occurs_later n m ms differ in omega (arith, some, same)))
]

pub occurs_contained : (n : ℕ) (ms : List ℕ) → Contains ms n → 0 < occurrences n ms
occurs_contained n [] found = absurd (omega (arith, found.1))
occurs_contained n (m ∷ ms) found = elim (contained_first n m ms found) [
  | inl same ↦ let one = subst (λ k. occurrences n (k ∷ ms) ≡ 1 + occurrences n ms) same (occurs_here n ms) in omega (arith, one)
  | inr later ↦ let before = occurs_contained n ms later in omega (arith, before)
]

-- one more is marked
pub marked_apart : (k f : ℕ) (b : Bool) → k ≢ f → (if k == f then true else b) ≡ b
marked_apart k f b away = elim (eqb_tells k f) [
  | inl same ↦ absurd (away same.1)
  | inr apart ↦ ap (λ x. if x then true else b) apart.0
]

-- one of these is called by a function that hasn't been followed
pub record OpenCaller (calls : ℕ → ℕ → Type 0) (m : ℕ → Bool) (n f : ℕ) : Type 0 where
  pub caller : ℕ
  pub below : caller < n
  pub is_open : m caller ≡ false
  pub calls_it : calls caller f

-- from caller to caller, over functions that differ as none reaches itself, and of which there aren't so many
going_back : (calls : ℕ → ℕ → Type 0) (n : ℕ) (m : ℕ → Bool) → HasNoRound calls → ((f : ℕ) → f < n → m f ≡ false → OpenCaller calls m n f)
    → (left : ℕ) (seen : ℕ → Bool) (f : ℕ) → open_sum (λ g. 1) seen n ≡ left → f < n → m f ≡ false → seen f ≡ false
    → ((g : ℕ) → seen g ≡ true → (ms : List ℕ) × IsWay calls f ms g) → ⊥
going_back calls n m none callers zero seen f count low unmet new ways =
    let one = open_sum_at (λ g. 1) seen n f low new in omega (arith, one, count)
going_back calls n m none callers (suc left) seen f count low unmet new ways =
    let h = callers f low unmet in
    let g = h.caller in
    elim (cases_eq g f) [
      | inl same ↦ none g (f ∷ []) (omega arith, (h.calls_it, sym same))
      | inr differ ↦ elim (cases_Bool (seen g)) [
        | inl met ↦ let way = ways g met in none g (f ∷ way.0) (omega arith, (h.calls_it, way.1))
        | inr other ↦
            let more : ℕ → Bool = λ k. if k == f then true else seen k in
            let here : more f ≡ true = ap (λ b. if b then true else seen f) (eq-eqb f f refl) in
            let apart : (k : ℕ) → k ≢ f → more k ≡ seen k = λ k away. marked_apart k f (seen k) away in
            let fewer = open_sum_step (λ k. 1) seen more n f low new here apart
            in going_back calls n m none callers left more g (omega (arith, count, fewer)) h.below h.is_open (apart g differ ∙ other)
            (λ k met. elim (cases_eq k f) [
              | inl same ↦ (f ∷ [], (h.calls_it, sym same))
              | inr away ↦ let way = ways k (sym (apart k away) ∙ met) in (f ∷ way.0, (h.calls_it, way.1))
            ])
      ]
    ]

-- no function stands where each that hasn't been followed is called by such a one
pub all_followed : (calls : ℕ → ℕ → Type 0) (n : ℕ) (m : ℕ → Bool) → HasNoRound calls → ((f : ℕ) → f < n → m f ≡ false → OpenCaller calls m n f)
    → (f : ℕ) → f < n → m f ≡ true
all_followed calls n m none callers f low = elim (cases_Bool (m f)) [
  | inl met ↦ met
  | inr unmet ↦ absurd (going_back calls n m none callers n nothing_followed f (open_sum_ones n) low unmet refl (λ g met. absurd (false≢true met)))
]
