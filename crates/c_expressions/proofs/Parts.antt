-- How a refusal goes out of a function that reads a part.
use Rattle.std.proofs.Common.{◌≡◌, sym, subst}
use Rattle.std.specs.Prelude.{ℕ, List, Result, Ok, Err, IsErrAnd}
use Rattle.c_syntax.specs.declared.token.Token.{Token}
use Rattle.c_cursor.specs.declared.fault.Refusal.{Refusal}
use Rattle.c_cursor.specs.declared.fault.Refusal.TheVariants as refusals
use Rattle.c_expressions.specs.declared.parser.Tall.{Tall}
use Rattle.c_expressions.specs.Fronts.{NoFront}
use Rattle.c_expressions.specs.Parts.{ReadsPart, ReadsWhole, ReadsAny}
use Rattle.c_cursor.specs.Refusals.{Refuses}
use Rattle.c_cursor.proofs.Refusals.{refuses, refuses_all}

-- by `?`: a part's refusal, a refusal for what is known, and want of memory
err_refused : {Q P : Type 0} {e f : Refusal} → e ≡ f → Refuses P f → (P → Q) → Refuses Q e
err_refused {Q = Q} {f = f} h p g = subst (λ v. Refuses Q v) (sym h) (refuses f g p)

err_memory : (Q : Type 0) {e f : Refusal} → e ≡ f → f ≡ refusals.NoMemory → Refuses Q e
err_memory Q h m = subst (λ v. Refuses Q v) (sym h) (subst (λ v. Refuses Q v) (sym m) (tt {0}))

pub part_as : {T : Type 0} {Row : T → List Token → Type 0} {Way : List Token → List Token → Type 0} {height_of : T → ℕ} {depth : ℕ} {before after : List Token} (e : Refusal) → Refuses (NoFront Way before) e → ReadsPart Row Way height_of depth before after (Err e)
part_as e r = record { tree = tt {0}; refused = r; height = tt {0}; room = tt {0}; fewer = tt {0} }

pub part_refused : {T : Type 0} {Row : T → List Token → Type 0} {Way : List Token → List Token → Type 0} {height_of : T → ℕ} {depth : ℕ} {before after : List Token} {P : Type 0}
    (f : Refusal) (r : Result (Tall T) Refusal) → IsErrAnd r (λ e. e ≡ f) → Refuses P f → (P → NoFront Way before) → ReadsPart Row Way height_of depth before after r
part_refused f (Ok x) h p g = absurd h
part_refused f (Err e) h p g = part_as e (err_refused h p g)

pub part_unread : {T : Type 0} {Row : T → List Token → Type 0} {Way : List Token → List Token → Type 0} {height_of : T → ℕ} {depth : ℕ} {before after : List Token}
    (f : Refusal) (r : Result (Tall T) Refusal) → IsErrAnd r (λ e. e ≡ f) → NoFront Way before → ReadsPart Row Way height_of depth before after r
part_unread f (Ok x) h n = absurd h
part_unread f (Err e) h n = part_as e (refuses_all e n)

pub part_unkept : {T : Type 0} {Row : T → List Token → Type 0} {Way : List Token → List Token → Type 0} {height_of : T → ℕ} {depth : ℕ} {before after : List Token}
    (f : Refusal) (r : Result (Tall T) Refusal) → IsErrAnd r (λ e. e ≡ f) → f ≡ refusals.NoMemory → ReadsPart Row Way height_of depth before after r
part_unkept f (Ok x) h m = absurd h
part_unkept f (Err e) h m = part_as e (err_memory _ h m)

pub whole_as : {T : Type 0} {Row : T → List Token → Type 0} {Way : List Token → List Token → Type 0} {height_of : T → ℕ} {depth : ℕ} {before after : List Token} (e : Refusal) → Refuses (NoFront Way before) e → ReadsWhole Row Way height_of depth before after (Err e)
whole_as e r = record { tree = tt {0}; only = tt {0}; refused = r; height = tt {0}; room = tt {0}; fewer = tt {0} }

pub whole_refused : {T : Type 0} {Row : T → List Token → Type 0} {Way : List Token → List Token → Type 0} {height_of : T → ℕ} {depth : ℕ} {before after : List Token} {P : Type 0}
    (f : Refusal) (r : Result (Tall T) Refusal) → IsErrAnd r (λ e. e ≡ f) → Refuses P f → (P → NoFront Way before) → ReadsWhole Row Way height_of depth before after r
whole_refused f (Ok x) h p g = absurd h
whole_refused f (Err e) h p g = whole_as e (err_refused h p g)

pub whole_unread : {T : Type 0} {Row : T → List Token → Type 0} {Way : List Token → List Token → Type 0} {height_of : T → ℕ} {depth : ℕ} {before after : List Token}
    (f : Refusal) (r : Result (Tall T) Refusal) → IsErrAnd r (λ e. e ≡ f) → NoFront Way before → ReadsWhole Row Way height_of depth before after r
whole_unread f (Ok x) h n = absurd h
whole_unread f (Err e) h n = whole_as e (refuses_all e n)

pub whole_unkept : {T : Type 0} {Row : T → List Token → Type 0} {Way : List Token → List Token → Type 0} {height_of : T → ℕ} {depth : ℕ} {before after : List Token}
    (f : Refusal) (r : Result (Tall T) Refusal) → IsErrAnd r (λ e. e ≡ f) → f ≡ refusals.NoMemory → ReadsWhole Row Way height_of depth before after r
whole_unkept f (Ok x) h m = absurd h
whole_unkept f (Err e) h m = whole_as e (err_memory _ h m)

pub any_as : {T : Type 0} {Row : T → List Token → Type 0} {Way : List Token → List Token → Type 0} {height_of : T → ℕ} {depth : ℕ} {before after : List Token} (e : Refusal) → Refuses (NoFront Way before) e → ReadsAny Row Way height_of depth before after (Err e)
any_as e r = record { tree = tt {0}; only = tt {0}; refused = r; height = tt {0}; room = tt {0}; no_more = tt {0} }

pub any_refused : {T : Type 0} {Row : T → List Token → Type 0} {Way : List Token → List Token → Type 0} {height_of : T → ℕ} {depth : ℕ} {before after : List Token} {P : Type 0}
    (f : Refusal) (r : Result (Tall T) Refusal) → IsErrAnd r (λ e. e ≡ f) → Refuses P f → (P → NoFront Way before) → ReadsAny Row Way height_of depth before after r
any_refused f (Ok x) h p g = absurd h
any_refused f (Err e) h p g = any_as e (err_refused h p g)

pub any_unread : {T : Type 0} {Row : T → List Token → Type 0} {Way : List Token → List Token → Type 0} {height_of : T → ℕ} {depth : ℕ} {before after : List Token}
    (f : Refusal) (r : Result (Tall T) Refusal) → IsErrAnd r (λ e. e ≡ f) → NoFront Way before → ReadsAny Row Way height_of depth before after r
any_unread f (Ok x) h n = absurd h
any_unread f (Err e) h n = any_as e (refuses_all e n)
