-- What was said of the result of a part that was joined to another.
use Rattle.std.proofs.Common.{◌≡◌, subst}
use Rattle.std.specs.Prelude.{Result, Ok, Err, IfOk, IfErr}
use Rattle.c_cursor.specs.declared.fault.Refusal.{Refusal}

pub of_ok : {T : Type 0} (P : T → Type 0) {r : Result T Refusal} {x : T} → r ≡ Ok x → IfOk r P → P x
of_ok P e h = subst (λ v. IfOk v P) e h

pub of_err : {T : Type 0} (P : Refusal → Type 0) {r : Result T Refusal} {f : Refusal} → r ≡ Err f → IfErr r P → P f
of_err P e h = subst (λ v. IfErr v P) e h
