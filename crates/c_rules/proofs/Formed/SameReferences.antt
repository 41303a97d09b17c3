-- References are compared by their kinds and numbers.
use Rattle.std.proofs.Common.{◌≡◌, true, ap, sym, refl, true≢false}
use Rattle.std.proofs.lemmas.Bool.{eqb-true, eq-eqb}
use Rattle.c_tree.specs.declared.program.VarRef.{VarRef}
use Rattle.c_tree.specs.declared.program.VarRef.TheVariants as refs
use Rattle.c_tree.specs.WellFormed.{same_reference}

pub equal_references : (v w : VarRef) → same_reference v w ≡ true → v ≡ w
equal_references (refs.Scalar m) (refs.Scalar n) is = ap refs.Scalar (eqb-true m n is)
equal_references (refs.Scalar m) (refs.Local n) is = absurd (true≢false (sym is))
equal_references (refs.Scalar m) (refs.Static n) is = absurd (true≢false (sym is))
equal_references (refs.Local m) (refs.Scalar n) is = absurd (true≢false (sym is))
equal_references (refs.Local m) (refs.Local n) is = ap refs.Local (eqb-true m n is)
equal_references (refs.Local m) (refs.Static n) is = absurd (true≢false (sym is))
equal_references (refs.Static m) (refs.Scalar n) is = absurd (true≢false (sym is))
equal_references (refs.Static m) (refs.Local n) is = absurd (true≢false (sym is))
equal_references (refs.Static m) (refs.Static n) is = ap refs.Static (eqb-true m n is)

pub same_as_itself : (v : VarRef) → same_reference v v ≡ true
same_as_itself (refs.Scalar n) = eq-eqb n n refl
same_as_itself (refs.Local n) = eq-eqb n n refl
same_as_itself (refs.Static n) = eq-eqb n n refl
