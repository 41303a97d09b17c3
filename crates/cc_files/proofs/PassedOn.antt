-- Refusals that are passed on as they are, and want of memory.
use Rattle.std.proofs.Common.{◌≡◌, Ok, Err, sym, subst}
use Rattle.std.specs.Prelude.{Result, IfErr, IsErrAnd}
use Rattle.cc_text.specs.declared.refusal.Refusal.{Refusal}
use Rattle.cc_text.specs.Refusals.{Why, OfMemory, why_of}

pub passed_on : {A : Type 0} (r : Result A Refusal) (given : Refusal) (P : Why → Type 0) → IsErrAnd r (λ e. e ≡ given) → P (why_of given) → IfErr r (λ e. P (why_of e))
passed_on (Ok a) given P is h = absurd is
passed_on (Err e) given P is h = subst (λ x. P (why_of x)) (sym is) h

pub for_memory : {A : Type 0} (r : Result A Refusal) (P : Why → Type 0) → IsErrAnd r (λ e. why_of e ≡ OfMemory) → P OfMemory → IfErr r (λ e. P (why_of e))
for_memory (Ok a) P is h = absurd is
for_memory (Err e) P is h = subst P (sym is) h
