-- How a refusal goes out of a function that reads a part of an expression.
use Rattle.std.proofs.Common.{◌≡◌, sym, subst}
use Rattle.std.specs.Prelude.{Result, Ok, Err, IsErrAnd}
use Rattle.c_cursor.specs.declared.fault.Refusal.{Refusal}
use Rattle.c_cursor.specs.declared.fault.Refusal.TheVariants as refusals
use Rattle.c_expressions.specs.Yields.{Yields}
use Rattle.c_cursor.specs.Refusals.{Refuses}
use Rattle.c_cursor.proofs.Refusals.{refuses, refuses_all}

-- by `?`: a part's refusal, a refusal for what is known, and want of memory
pub given_refused : {T : Type 0} {R : T → Type 0} {P Q : Type 0} (f : Refusal) (r : Result T Refusal) → IsErrAnd r (λ e. e ≡ f) → Refuses P f → (P → Q) → Yields R Q r
given_refused f (Ok x) h p g = absurd h
given_refused {Q = Q} f (Err e) h p g = record { parsed = tt {0}; refused = subst (λ v. Refuses Q v) (sym h) (refuses f g p) }

pub given_unread : {T : Type 0} {R : T → Type 0} {Q : Type 0} (f : Refusal) (r : Result T Refusal) → IsErrAnd r (λ e. e ≡ f) → Q → Yields R Q r
given_unread f (Ok x) h q = absurd h
given_unread f (Err e) h q = record { parsed = tt {0}; refused = refuses_all e q }

pub given_unkept : {T : Type 0} {R : T → Type 0} {Q : Type 0} (f : Refusal) (r : Result T Refusal) → IsErrAnd r (λ e. e ≡ f) → f ≡ refusals.NoMemory → Yields R Q r
given_unkept f (Ok x) h m = absurd h
given_unkept {Q = Q} f (Err e) h m = record { parsed = tt {0}; refused = subst (λ v. Refuses Q v) (sym h) (subst (λ v. Refuses Q v) (sym m) (tt {0})) }
