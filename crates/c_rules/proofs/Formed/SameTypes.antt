-- Two types that the tests of types don't tell apart are one type.
use Rattle.std.proofs.Common.{◌≡◌, ◌==◌, true, List, [], ◌∷◌, Some, None, refl, ap, ap₂}
use Rattle.std.proofs.lemmas.Bool.{and_parts, eqb-true}
use Rattle.c_tree.specs.declared.program.Base.{Base}
use Rattle.c_tree.specs.declared.program.Base.TheVariants as base
use Rattle.c_tree.specs.declared.program.ScalarType.{ScalarType}
use Rattle.c_tree.specs.TypedTree.{Kind}
use Rattle.c_rules.specs.declared.meaning.FunctionType.{FunctionType}
use Rattle.c_rules.specs.declared.meaning.ObjectType.{ObjectType}
use Rattle.c_rules.specs.declared.meaning.ObjectType.TheVariants.{Single, Array}
use Rattle.c_rules.specs.Kinds.{same_base, same_type}
use Rattle.c_rules.specs.Units.{same_object, same_result, same_types, same_function}

one_base : (a b : Base) → same_base a b ≡ true → a ≡ b
one_base base.Void base.Void same = refl
one_base base.Void base.Int same = absurd (cc same)
one_base base.Void base.Unsigned same = absurd (cc same)
one_base base.Int base.Void same = absurd (cc same)
one_base base.Int base.Int same = refl
one_base base.Int base.Unsigned same = absurd (cc same)
one_base base.Unsigned base.Void same = absurd (cc same)
one_base base.Unsigned base.Int same = absurd (cc same)
one_base base.Unsigned base.Unsigned same = refl

one_type : (a b : ScalarType) → same_type a b ≡ true → a ≡ b
one_type a b same =
    let parts = and_parts (same_base a.base b.base) (a.stars == b.stars) same in
    let bases = one_base a.base b.base parts.0 in
    let stars = eqb-true a.stars b.stars parts.1 in
    λ i. record { base = bases i; stars = stars i }

pub one_object : (a b : ObjectType) → same_object a b ≡ true → a ≡ b
one_object (Single a) (Single b) same = ap Single (one_type a b same)
one_object (Single a) (Array b n) same = absurd (cc same)
one_object (Array a m) (Single b) same = absurd (cc same)
one_object (Array a m) (Array b n) same =
    let parts = and_parts (same_type a b) (m == n) same in ap₂ Array (one_type a b parts.0) (eqb-true m n parts.1)

one_result : (a b : Kind) → same_result a b ≡ true → a ≡ b
one_result None None same = refl
one_result None (Some b) same = absurd (cc same)
one_result (Some a) None same = absurd (cc same)
one_result (Some a) (Some b) same = ap Some (one_type a b same)

one_list : (xs ys : List ScalarType) → same_types xs ys ≡ true → xs ≡ ys
one_list [] [] same = refl
one_list [] (b ∷ ys) same = absurd (cc same)
one_list (a ∷ xs) [] same = absurd (cc same)
one_list (a ∷ xs) (b ∷ ys) same =
    let parts = and_parts (same_type a b) (same_types xs ys) same in ap₂ ◌∷◌ (one_type a b parts.0) (one_list xs ys parts.1)

pub one_function : (a b : FunctionType) → same_function a b ≡ true → a ≡ b
one_function a b same =
    let parts = and_parts (same_result a.result b.result) (same_types a.parameters b.parameters) same in
    let results = one_result a.result b.result parts.0 in
    let parameters = one_list a.parameters b.parameters parts.1 in
    λ i. record { result = results i; parameters = parameters i }
