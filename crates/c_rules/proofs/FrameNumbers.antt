-- What the objects of a function stand for, counted from the first on.
use Rattle.std.proofs.Common.{◌≡◌, ◌+◌, ◌∷◌, [], ℕ, suc, Bool, true, false, if◌then◌else◌, ◌&&◌, not, List, map, length, slice_get, Some, ap, ◌∙◌, sym, refl, subst, arith}
use Rattle.std.specs.List.{range_with_len}
use Rattle.c_tree.specs.declared.program.VarRef.{VarRef}
use Rattle.c_tree.specs.declared.program.VarRef.TheVariants as refs
use Rattle.c_tree.specs.declared.uses.Use.{Use}
use Rattle.c_rules.specs.Programs.{in_frame}
use Rattle.c_rules.specs.Programs.{is_pointed, is_one_cell, is_scalar, count_below, reference, references}
use Rattle.c_rules.specs.Statements.{LocalTree}

-- what objects stand for from one number on, with the next numbers of frame scalars and of objects in memory
abbrev pub numbered_from : List Use → ℕ → ℕ → ℕ → List LocalTree → List VarRef
numbered_from us n scalars objects [] = []
numbered_from us n scalars objects (l ∷ ls) =
    if in_frame l (is_pointed us n)
    then refs.Scalar scalars ∷ numbered_from us (suc n) (suc scalars) objects ls
    else refs.Local objects ∷ numbered_from us (suc n) scalars (suc objects) ls

-- one object, and those behind it
one_more : (us : List Use) (b : Bool) (n scalars objects : ℕ) (ls : List LocalTree) (rest : List VarRef)
    → numbered_from us (suc n) (if b then suc scalars else scalars) (if not b then suc objects else objects) ls ≡ rest
    → (if b then refs.Scalar scalars ∷ numbered_from us (suc n) (suc scalars) objects ls else refs.Local objects ∷ numbered_from us (suc n) scalars (suc objects) ls)
    ≡ (if b then refs.Scalar scalars else refs.Local objects) ∷ rest
one_more us true n scalars objects ls rest behind = ap (λ rs. refs.Scalar scalars ∷ rs) behind
one_more us false n scalars objects ls rest behind = ap (λ rs. refs.Local objects ∷ rs) behind

counted : (us : List Use) (all : List LocalTree) (n : ℕ) (ls : List LocalTree) → ((k : ℕ) → slice_get all (n + k) ≡ slice_get ls k)
    → numbered_from us n (count_below (is_scalar us all) n) (count_below (λ k. not (is_scalar us all k)) n) ls ≡ map (reference us all) (range_with_len n (length ls))
counted us all n [] each = refl
counted us all n (l ∷ ls) each =
    let scalars = count_below (is_scalar us all) n in
    let objects = count_below (λ k. not (is_scalar us all k)) n in
    let here : slice_get all n ≡ Some l = subst (λ k. slice_get all k ≡ Some l) (omega arith) (each 0) in
    let same : in_frame l (is_pointed us n) ≡ is_scalar us all n = ap (λ o. is_one_cell o && not (is_pointed us n)) (sym here) in
    let next : suc n ≡ n + 1 = omega arith in
    let behind : (k : ℕ) → slice_get all (suc n + k) ≡ slice_get ls k = λ k. subst (λ m. slice_get all m ≡ slice_get ls k) (omega arith) (each (suc k)) in
    ap (λ b. if b then refs.Scalar scalars ∷ numbered_from us (suc n) (suc scalars) objects ls else refs.Local objects ∷ numbered_from us (suc n) scalars (suc objects) ls) same
    ∙ one_more us (is_scalar us all n) n scalars objects ls (map (reference us all) (range_with_len (suc n) (length ls))) (counted us all (suc n) ls behind)
    ∙ ap (λ m. reference us all n ∷ map (reference us all) (range_with_len m (length ls))) next

pub references_counted : (us : List Use) (ls : List LocalTree) → references us ls ≡ numbered_from us 0 0 0 ls
references_counted us ls = sym (counted us ls 0 ls (λ k. ap (slice_get ls) (omega arith)))
