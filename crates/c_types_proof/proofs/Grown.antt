-- The objects that a part of a function adds to those before it: what it declares, and what it fills.
use Rattle.std.proofs.Common.{◌≡◌, ◌+◌, ℕ, zero, suc, false, List, [], ◌∷◌, ◌++◌, length, ap, sym, subst, ◌∙◌, append-nil, append_assoc}
use Rattle.std.proofs.Common.{length-append, refl, arith}
use Rattle.std.specs.Prelude.{◌≢◌}
use Rattle.c_tree.specs.declared.program.VarRef.{VarRef}
use Rattle.c_tree.specs.declared.program.VarRef.TheVariants as refs
use Rattle.c_rules.specs.Programs.{is_single}
use Rattle.c_rules.specs.Statements.{LocalTree}
use Rattle.c_rules.proofs.Formed.Context.{numbers_from}

-- an array with an initialiser, whose list holds values where this is given
pub record IsListed (Given : Type 0) (l : LocalTree) : Type 0 where
  pub array : is_single l.object_type ≡ false
  pub listed : Given → l.values ≢ []

-- of these objects from a number on, the listed ones are filled in order, and the others have no lists
pub data AreFilled (Given : Type 0) : ℕ → List LocalTree → List ℕ → Type 0 where
  no_object : {n : ℕ} → AreFilled Given n [] []
  with_fill : {n : ℕ} {l : LocalTree} {ls : List LocalTree} {ks : List ℕ} → IsListed Given l → AreFilled Given (suc n) ls ks
      → AreFilled Given n (l ∷ ls) (n ∷ ks)
  without_fill : {n : ℕ} {l : LocalTree} {ls : List LocalTree} {ks : List ℕ} → l.values ≡ [] → AreFilled Given (suc n) ls ks → AreFilled Given n (l ∷ ls) ks

module _ (Given : Type 0) where
  pub filled_behind : (n : ℕ) (ls more : List LocalTree) (ks js : List ℕ) → AreFilled Given n ls ks → AreFilled Given (n + length ls) more js
      → AreFilled Given n (ls ++ more) (ks ++ js)
  filled_behind n ls more ks js no_object later = subst (λ m. AreFilled Given m more js) (omega arith) later
  filled_behind n ls more ks js (with_fill {ls = rest} {ks = fills} listed others) later =
      with_fill listed (filled_behind (suc n) rest more fills js others (subst (λ m. AreFilled Given m more js) (omega arith) later))
  filled_behind n ls more ks js (without_fill {ls = rest} bare others) later =
      without_fill bare (filled_behind (suc n) rest more ks js others (subst (λ m. AreFilled Given m more js) (omega arith) later))

-- numbers behind others
pub numbers_joined : (first count more : ℕ) → numbers_from first count ++ numbers_from (first + count) more ≡ numbers_from first (count + more)
numbers_joined first zero more =
    let same : first + 0 ≡ first = omega arith in
    let none : more ≡ 0 + more = omega arith in
    ap (λ n. numbers_from n more) same ∙ ap (numbers_from first) none
numbers_joined first (suc count) more =
    let next : first + suc count ≡ suc first + count = omega arith in
    let many : suc (count + more) ≡ suc count + more = omega arith in
    ap (λ rs. refs.Local first ∷ rs) (ap (λ n. numbers_from (suc first) count ++ numbers_from n more) next ∙ numbers_joined (suc first) count more)
    ∙ ap (numbers_from first) many

-- from some objects to more, of which these are declared and these are filled
pub record Adds (Given : Type 0) (ls later : List LocalTree) (ds : List VarRef) (ks : List ℕ) : Type 0 where
  pub others : List LocalTree
  pub grown : later ≡ ls ++ others
  pub declared : ds ≡ numbers_from (length ls) (length others)
  pub filled : AreFilled Given (length ls) others ks

module _ (Given : Type 0) where
  pub adds_nothing : (ls : List LocalTree) → Adds Given ls ls [] []
  adds_nothing ls = record { others = []; grown = sym (append-nil ls); declared = refl; filled = no_object }

  pub adds_both : (ls all later : List LocalTree) (ds es : List VarRef) (ks js : List ℕ) → Adds Given ls all ds ks → Adds Given all later es js
      → Adds Given ls later (ds ++ es) (ks ++ js)
  adds_both ls all later ds es ks js first second =
      let many : length all ≡ length ls + length first.others = ap length first.grown ∙ length-append ls first.others in
      record {
        others = first.others ++ second.others;
        grown = second.grown ∙ ap (λ l. l ++ second.others) first.grown ∙ append_assoc ls first.others second.others;
        declared =
            ap (λ l. l ++ es) first.declared
            ∙ ap (λ l. numbers_from (length ls) (length first.others) ++ l) (second.declared ∙ ap (λ n. numbers_from n (length second.others)) many)
            ∙ numbers_joined (length ls) (length first.others) (length second.others)
            ∙ ap (numbers_from (length ls)) (sym (length-append first.others second.others));
        filled =
            filled_behind Given (length ls) first.others second.others ks js first.filled
            (subst (λ n. AreFilled Given n second.others js) many second.filled);
      }
