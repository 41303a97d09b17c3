-- Where no call is of a function without a body, each function that is called has one.
use Rattle.std.proofs.Common.{◌≡◌, ◌<◌, Bool, true, false, nat_lt, ℕ, zero, suc, List, [], ◌∷◌, length, map, get_or, ap, sym, subst, refl, arith, Some, if◌then◌else◌, Option, None}
use Rattle.std.specs.List.{Contains}
use borrow.Author.Tests.{ltb-true}
use Rattle.c_tree.specs.declared.uses.Use.{Use}
use Rattle.c_tree.specs.Rounds.{CallsAmong}
use Rattle.c_tree.specs.Uses.{called, statement_uses}
use Rattle.c_rules.specs.Units.{TypedFunction}
use Rattle.c_tree.specs.declared.uses.Use.TheVariants as kind
use Rattle.c_rules.specs.Programs.{calls_of, HasBodies}
use Rattle.c_rules.specs.Whole.{uses_of, earlier, first_without, first_among, missing_body}

-- the uses of each function
abbrev pub uses_in : TypedFunction → List Use
uses_in f = statement_uses f.body

-- the functions that each calls, by its uses
pub calls_listed : (fs : List TypedFunction) → map called (map uses_in fs) ≡ calls_of fs
calls_listed [] = refl
calls_listed (f ∷ fs) = ap (λ ls. called (uses_in f) ∷ ls) (calls_listed fs)

-- places of calls
pub earlier_none : (a b : Option ℕ) → earlier a b ≡ None → (a ≡ None) × (b ≡ None)
earlier_none None b none = (refl, none)
earlier_none (Some a) None none = absurd (cc none)
earlier_none (Some a) (Some b) none = absurd (cc none)

no_rest : (b : Bool) (place : ℕ) (o : Option ℕ) → (if b then o else earlier (Some place) o) ≡ None → o ≡ None
no_rest true place o none = none
no_rest false place o none = (earlier_none (Some place) o none).1

met : (b : Bool) (f bodies place : ℕ) (o : Option ℕ) → nat_lt f bodies ≡ b → (if b then o else earlier (Some place) o) ≡ None → f < bodies
met true f bodies place o is none = ltb-true f bodies is
met false f bodies place o is none = absurd (cc (earlier_none (Some place) o none).0)

call_met : (bodies : ℕ) (us : List Use) (i m : ℕ) → first_without bodies us ≡ None → i < length (called us) → get_or (called us) i m ≡ m → m < bodies
call_met bodies [] i m none within is = absurd (omega (arith, within))
call_met bodies (kind.Address r ∷ us) i m none within is = call_met bodies us i m none within is
call_met bodies (kind.Cases n ∷ us) i m none within is = call_met bodies us i m none within is
call_met bodies (kind.Call g place ∷ us) zero m none within is =
    subst (λ k. k < bodies) is (met (nat_lt g bodies) g bodies place (first_without bodies us) refl none)
call_met bodies (kind.Call g place ∷ us) (suc i) m none within is =
    call_met bodies us i m (no_rest (nat_lt g bodies) place (first_without bodies us) none) (omega (arith, within)) is

all_met : (bodies : ℕ) (lists : List (List Use)) (n m : ℕ) → first_among bodies lists ≡ None → CallsAmong (map called lists) n m → m < bodies
all_met bodies [] n m none call = absurd (cc call.1)
all_met bodies (us ∷ rest) zero m none call =
    let same : called us ≡ call.0 = cc call.1 in
    let found : Contains (called us) m = subst (λ list. Contains list m) (sym same) call.2
    in call_met bodies us found.0 m (earlier_none (first_without bodies us) (first_among bodies rest) none).0 found.1 found.2
all_met bodies (us ∷ rest) (suc n) m none call = all_met bodies rest n m (earlier_none (first_without bodies us) (first_among bodies rest) none).1 call

-- each function that is called has a body where no call is of one without
pub bodies_met : (fs : List TypedFunction) → missing_body fs ≡ None → HasBodies fs
bodies_met fs none n m call =
    all_met (length fs) (map uses_of fs) n m none (subst (λ lists. CallsAmong lists n m) (sym (calls_listed fs)) call)
