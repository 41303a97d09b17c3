-- How a refusal of a part goes out of a function.
use Rattle.std.proofs.Common.{◌≡◌, sym, subst}
use Rattle.std.specs.Prelude.{Result, Ok, Err, IfErr, IsErrAnd}
use Rattle.c_cursor.specs.declared.fault.Refusal.{Refusal}
use Rattle.c_cursor.specs.declared.fault.Refusal.TheVariants as refusals
use Rattle.c_cursor.specs.Refusals.{Refuses}

pub refuses : (f : Refusal) {P Q : Type 0} → (P → Q) → Refuses P f → Refuses Q f
refuses (refusals.Syntax left) g p = g p
refuses refusals.NoMemory g p = p

pub refuses_all : (f : Refusal) {Q : Type 0} → Q → Refuses Q f
refuses_all (refusals.Syntax left) q = q
refuses_all refusals.NoMemory q = tt {0}

-- by `?`: a part's refusal, a refusal for what is known, and want of memory
pub passed_on : {T : Type 0} (f : Refusal) {P Q : Type 0} (r : Result T Refusal) → IsErrAnd r (λ e. e ≡ f) → Refuses P f → (P → Q) → IfErr r (λ e. Refuses Q e)
passed_on f (Ok x) h p g = absurd h
passed_on f {Q = Q} (Err e) h p g = subst (λ v. Refuses Q v) (sym h) (refuses f g p)

-- the same of a result that goes out as it is
pub goes_out : {T : Type 0} {P Q : Type 0} (r : Result T Refusal) → (P → Q) → IfErr r (λ e. Refuses P e) → IfErr r (λ e. Refuses Q e)
goes_out (Ok x) g h = tt
goes_out (Err e) g h = refuses e g h

pub memory_alone : {T : Type 0} (Q : Type 0) (r : Result T Refusal) → IfErr r (λ e. e ≡ refusals.NoMemory) → IfErr r (λ e. Refuses Q e)
memory_alone Q (Ok x) h = tt
memory_alone Q (Err e) h = subst (λ v. Refuses Q v) (sym h) (tt {0})
