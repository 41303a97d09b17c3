-- Lists that arrange scalars.
use Rattle.std.proofs.Common.{rules, ◌≡◌, ℕ, ◌<◌, ◌≤◌, ◌==◌, Bool, true, false, List, length, count_by, sym, ap, subst, ◌∙◌, arith}
use Rattle.std.specs.Prelude.{◌↔◌, IsTrue, All}
use Rattle.std.specs.List.{concat}
use Rattle.lay_model.specs.Arrangements.{Arranges}

pub never : (P : Type 0) → (P → ⊥) → IsTrue false ↔ P
never P none = (λ t. absurd (let no : IsTrue false → ⊥ = search rules in no t), λ p. absurd (none p))

pub always : (P : Type 0) → P → IsTrue true ↔ P
always P p = (λ t. p, λ q. let yes : IsTrue true = search rules in yes)

pub not_few : (scalars : ℕ) (lists : List (List ℕ)) → 64 < scalars → IsTrue false ↔ Arranges scalars lists
not_few scalars lists many = never (Arranges scalars lists) (λ a. omega (arith, a.few))

pub not_filled : (scalars : ℕ) (lists : List (List ℕ)) → (All (λ list. 1 ≤ length list) lists → ⊥) → IsTrue false ↔ Arranges scalars lists
not_filled scalars lists none = never (Arranges scalars lists) (λ a. none a.some)

pub arranged : (scalars : ℕ) (all : List ℕ) (lists : List (List ℕ)) (once : Bool) → all ≡ concat lists → scalars ≤ 64 → length all ≡ scalars → All (λ list. 1 ≤ length list) lists → (IsTrue once ↔ ((scalar : ℕ) → scalar < scalars → count_by (λ s. s == scalar) all ≡ 1)) → IsTrue once ↔ Arranges scalars lists
arranged scalars all lists once e few count filled is = (
  λ t. record { few = few; some = filled; all = ap length (sym e) ∙ count; once = λ s lt. subst (λ l. count_by (λ x. x == s) l ≡ 1) e (is.0 t s lt) },
  λ a. is.1 (λ s lt. subst (λ l. count_by (λ x. x == s) l ≡ 1) (sym e) (a.once s lt)),
)
