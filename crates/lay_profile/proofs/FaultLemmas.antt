-- Faults that are passed on.
use Rattle.std.proofs.Common.{◌≡◌, Ok, Err, sym, subst}
use Rattle.std.specs.Prelude.{Result, IfErr, IsErrAnd}

-- what a fault that is passed on says
pub passed_on : {A E : Type 0} (r : Result A E) (given : E) (P : E → Type 0) → IsErrAnd r (λ e. e ≡ given) → P given → IfErr r P
passed_on (Ok a) given P is h = absurd is
passed_on (Err e) given P is h = subst P (sym is) h
