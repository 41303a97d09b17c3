-- What an answer says of a source, since it has one outcome.
use Rattle.std.proofs.Common.{◌≡◌, ◌≢◌, ℕ, List, Result, Ok, Err, inl, inr}
use Rattle.std.specs.Prelude.{Vec, ◌⊎◌, IfOk, IfErr, MatchResult}
use Rattle.std.specs.declared.alloc.Global.{Global}
use Rattle.c_syntax.specs.declared.token.Token.{Token}
use Rattle.c_macro.specs.declared.fault.MacroFault.{MacroFault}
use Rattle.c_macro.specs.declared.fault.MacroFault.TheVariants as faults
use Rattle.c_macro.specs.Expands.{Expands, Outcome}
use Rattle.c_macro.proofs.OneOutcome.{outcome_one}

pub if_ok : {T E : Type 0} {P Q : T → Type 0} (r : Result T E) → ((x : T) → P x → Q x) → IfOk r P → IfOk r Q
if_ok (Ok x) f p = f x p
if_ok (Err e) f p = tt {0}

-- ---- a fault in a line

module _ (text : List ℕ) (fault : MacroFault) (or : (fault ≡ faults.NoMemory) ⊎ Outcome text (Err fault)) where
  pub memory_alone : (tokens : List Token) → Expands text tokens → fault ≡ faults.NoMemory
  memory_alone tokens expands = by or
    where
      by : (fault ≡ faults.NoMemory) ⊎ Outcome text (Err fault) → fault ≡ faults.NoMemory
      by (inl memory) = memory
      by (inr outcome) = absurd (let e : Err fault ≡ Ok tokens = outcome_one text (Err fault) (Ok tokens) outcome expands in cc)

  pub cause_alone : (cause : MacroFault) → Outcome text (Err cause) → fault ≢ faults.NoMemory → fault ≡ cause
  cause_alone cause outcome some = by or
    where
      by : (fault ≡ faults.NoMemory) ⊎ Outcome text (Err fault) → fault ≡ cause
      by (inl memory) = absurd (some memory)
      by (inr own) = let e : Err fault ≡ Err cause = outcome_one text (Err fault) (Err cause) own outcome in cc

  pub cause_own : fault ≢ faults.NoMemory → Outcome text (Err fault)
  cause_own some = by or
    where
      by : (fault ≡ faults.NoMemory) ⊎ Outcome text (Err fault) → Outcome text (Err fault)
      by (inl memory) = absurd (some memory)
      by (inr own) = own

-- ---- an answer at the end

module _ (text : List ℕ) where
  pub end_expanded : (r : Result (Vec Token Global) MacroFault) → IfOk r (λ v. Outcome text (Ok v.items)) → IfErr r (λ f. Outcome text (Err f)) → (tokens : List Token) → Expands text tokens
      → MatchResult r (λ found. found.items ≡ tokens) (λ f. f ≡ faults.NoMemory)
  end_expanded (Ok v) ok err tokens expands = let e : Ok v.items ≡ Ok tokens = outcome_one text (Ok v.items) (Ok tokens) ok expands in cc
  end_expanded (Err f) ok err tokens expands = absurd (let e : Err f ≡ Ok tokens = outcome_one text (Err f) (Ok tokens) err expands in cc)

  pub end_faulty : (r : Result (Vec Token Global) MacroFault) → IfOk r (λ v. Outcome text (Ok v.items)) → IfErr r (λ f. Outcome text (Err f)) → (cause : MacroFault) → Outcome text (Err cause)
      → MatchResult r (λ found. ⊥) (λ f. f ≢ faults.NoMemory → f ≡ cause)
  end_faulty (Ok v) ok err cause outcome = let e : Ok v.items ≡ Err cause = outcome_one text (Ok v.items) (Err cause) ok outcome in cc
  end_faulty (Err f) ok err cause outcome = λ some. let e : Err f ≡ Err cause = outcome_one text (Err f) (Err cause) err outcome in cc
