-- The innermost section, which is the last of the code's list.
use Rattle.std.proofs.Common.{arith, ◌≡◌, ℕ, zero, suc, ◌≤◌, Bool, true, false, not, List, [], ◌∷◌, ◌++◌, length, map, reverse, set, slice_get, Some, Ok, refl, sym, ap, ◌∙◌, subst}
use Rattle.std.proofs.lemmas.List.{nil_from_length, reverse-append}
use Rattle.std.proofs.Math.Seq.{set-append_seam}
use Rattle.c_macro.specs.declared.fault.MacroFault.TheVariants as faults
use Rattle.c_macro.specs.declared.sections.Section as section
use Rattle.c_macro.specs.declared.sections.Sections.{Sections}
use Rattle.c_macro.specs.Sections.{turned}
use Rattle.c_macro.specs.Expanding.{section_of, IsNested, IsOpenAtEnd}

-- a list with its last item apart
pub last_is : {A : Type 0} (xs : List A) (n : ℕ) (s : A) → length xs ≤ suc n → slice_get xs n ≡ Some s → (front : List A) × (xs ≡ front ++ s ∷ []) × (length front ≡ n)
last_is [] n s short at = absurd cc
last_is (x ∷ xs) zero s short at =
    let none : xs ≡ [] = nil_from_length xs (omega (arith, short)) in
    let same : x ≡ s = cc in
    ([], (λ i. same i ∷ none i), refl)
last_is (x ∷ xs) (suc n) s short at = let more = last_is xs n s (omega (arith, short)) at in (x ∷ more.0, ap (λ l. x ∷ l) more.1, ap suc more.2)

pub reverse_snoc : {A : Type 0} (front : List A) (s : A) → reverse (front ++ s ∷ []) ≡ s ∷ reverse front
reverse_snoc front s = reverse-append front (s ∷ [])

-- the list backwards, as it is and with another last item
pub backwards : {A : Type 0} (xs : List A) (n : ℕ) (s t : A) → length xs ≤ suc n → slice_get xs n ≡ Some s
    → (outer : List A) × (reverse xs ≡ s ∷ outer) × (reverse (set xs n t) ≡ t ∷ outer)
backwards xs n s t short at =
    let k = last_is xs n s short at in (
      reverse k.0,
      ap reverse k.1 ∙ reverse_snoc k.0 s,
      ap reverse (ap (λ l. set l n t) k.1 ∙ ap (λ m. set (k.0 ++ s ∷ []) m t) (sym k.2) ∙ set-append_seam k.0 s [] t) ∙ reverse_snoc k.0 t,
    )

module _ (xs : List section.Section) (n : ℕ) (s t : section.Section) (short : length xs ≤ suc n) (at : slice_get xs n ≡ Some s) where
  pub nested_turned : t.is_within_kept ≡ s.is_within_kept → IsNested (reverse xs) → IsNested (reverse (set xs n t))
  nested_turned same nested =
      let b = backwards xs n s t short at in
      let k = subst IsNested b.1 nested in
      subst IsNested (sym b.2) (same ∙ k.0, k.1)

  pub turned_is : (place : ℕ) → s.has_else ≡ false → section_of t ≡ record { at = s.at; keeps = not s.keeps; has_else = true }
      → turned place (map section_of (reverse xs)) ≡ Ok (map section_of (reverse (set xs n t)))
  turned_is place first is =
      let b = backwards xs n s t short at in
      ap (λ l. turned place (map section_of l)) b.1 ∙ by b.0 s.has_else first ∙ ap (λ l. Ok (map section_of l)) (sym b.2)
    where
      by : (outer : List section.Section) (b : Bool) → b ≡ false
          → turned place (record { at = s.at; keeps = s.keeps; has_else = b } ∷ map section_of outer) ≡ Ok (section_of t ∷ map section_of outer)
      by outer true e = absurd cc
      by outer false e = ap (λ x. Ok (x ∷ map section_of outer)) (sym is)

pub open_at_end : (s : Sections) (n : ℕ) (last : section.Section) → length s.«open».items ≤ suc n → slice_get s.«open».items n ≡ Some last → IsOpenAtEnd s (faults.Unbalanced last.at)
open_at_end s n last short at =
    let k = last_is s.«open».items n last short at in
    (section_of last, map section_of (reverse k.0), ap (map section_of) (ap reverse k.1 ∙ reverse_snoc k.0 last), refl)
