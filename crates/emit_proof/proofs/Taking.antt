-- What is taken away from a number in the accumulator, so that it is less by another word than before: only the accumulator changes, in either mode.
use Rattle.std.proofs.Common.{◌≡◌, ◌≢◌, ℕ, ◌+◌, ◌-◌, ◌*◌, ◌<◌, ◌≤◌, Bool, true, false, List, [], ◌∷◌, length, refl, sym, ap, ◌∙◌, arith}
use Rattle.std.specs.Prelude.{◌==◌, ◌/◌, ◌%◌, ◌^◌, if◌then◌else◌, nat_lt, nat_le}
use Rattle.std.proofs.lemmas.Bool.{eqb-true, eqb-false, ltb-true, ltb-false, leb-true, leb-false}
use Rattle.c25_isa.specs.declared.instruction.Instr.{Instr}
use Rattle.c25_isa.specs.declared.instruction.Instr.TheVariants as instr
use Rattle.c25_isa.specs.Step.{wrap32, extended, plus, minus}
use Rattle.c25_code.specs.Work.{Work}
use Rattle.c25_code.specs.Accesses.{CodeMay}
use Rattle.c25_code.specs.CodeRuns.{CodeRuns}
use Rattle.emit_proof.specs.Accessing.{no_access}
use Rattle.emit_control.specs.Cuts.{taken_away, added, less_by}

abbrev pub with_acc : ℕ → Work → Work
with_acc a w = record w { acc = a }

-- a number below 32768 is itself in either mode
small : (sxm : Bool) (n : ℕ) → n < 32768 → extended sxm n ≡ n
small true n lt = by (nat_lt n 32768) refl
  where
    by : (b : Bool) → nat_lt n 32768 ≡ b → (if b then n else n + 4294901760) ≡ n
    by true e = refl
    by false e = absurd (let ge : 32768 ≤ n = ltb-false n 32768 e in omega (arith, lt, ge))
small false n lt = refl

pub once : (sxm : Bool) (n : ℕ) → n < 32768 → wrap32 (extended sxm n * 2 ^ 0) ≡ n
once sxm n lt = let e : extended sxm n ≡ n = small sxm n lt in omega (arith, e, lt)

twice : (sxm : Bool) (n : ℕ) → n < 32768 → wrap32 (extended sxm n * 2 ^ 1) ≡ 2 * n
twice sxm n lt = let e : extended sxm n ≡ n = small sxm n lt in omega (arith, e, lt)

-- code that makes the accumulator this, in at most two instructions, which access no data memory
pub record MakesAcc (code : List Instr) (w : Work) (a : ℕ) : Type 0 where
  pub runs : CodeRuns code w (with_acc a w) []
  pub accesses : CodeMay no_access code w
  pub few : length code ≤ 2

same_acc : (w : Work) (a b : ℕ) → a ≡ b → with_acc a w ≡ with_acc b w
same_acc w a b e = ap (λ c. with_acc c w) e

taken : (w : Work) (n : ℕ) → w.acc < 4294967296 → n < 65536 → MakesAcc (taken_away n) w (minus w.acc n)
taken w n acc lt = by (n == 0) refl
  where
    odd : (b : Bool) → (n % 2 == 0) ≡ b → 32768 ≤ n → MakesAcc (instr.Sblk 1 (n / 2) ∷ (if b then [] else instr.Subk 1 ∷ [])) w (minus w.acc n)
    odd true e ge =
        let even : n % 2 ≡ 0 = eqb-true (n % 2) 0 e in
        let two : wrap32 (extended w.sxm (n / 2) * 2 ^ 1) ≡ 2 * (n / 2) = twice w.sxm (n / 2) (omega (arith, lt)) in
        record {
          runs = record { ready = (tt, tt); reaches = same_acc w _ _ (ap (minus w.acc) two ∙ ap (minus w.acc) (let h : 2 * (n / 2) ≡ n = omega (arith, even) in h)); outputs = refl };
          accesses = (tt, tt);
          few = omega arith;
        }
    odd false e ge =
        let two : wrap32 (extended w.sxm (n / 2) * 2 ^ 1) ≡ 2 * (n / 2) = twice w.sxm (n / 2) (omega (arith, lt)) in
        let some : n % 2 ≢ 0 = eqb-false (n % 2) 0 e in
        let uneven : n % 2 ≡ 1 = omega (arith, some) in
        let sum : minus (minus w.acc (2 * (n / 2))) 1 ≡ minus w.acc n = omega (arith, uneven, lt, acc) in
        record {
          runs = record { ready = (tt, (tt, tt)); reaches = same_acc w _ _ (ap (λ m. minus (minus w.acc m) 1) two ∙ sum); outputs = refl };
          accesses = (tt, (tt, tt));
          few = omega arith;
        }

    large : (b : Bool) → nat_lt n 32768 ≡ b → MakesAcc (if b then instr.Sblk 0 n ∷ [] else instr.Sblk 1 (n / 2) ∷ (if n % 2 == 0 then [] else instr.Subk 1 ∷ [])) w (minus w.acc n)
    large true e =
        let one : wrap32 (extended w.sxm n * 2 ^ 0) ≡ n = once w.sxm n (ltb-true n 32768 e) in
        record { runs = record { ready = (tt, tt); reaches = same_acc w _ _ (ap (minus w.acc) one); outputs = refl }; accesses = (tt, tt); few = omega arith }
    large false e = odd (n % 2 == 0) refl (ltb-false n 32768 e)

    byte : (b : Bool) → nat_lt n 256 ≡ b → MakesAcc (if b then instr.Subk n ∷ [] else (if nat_lt n 32768 then instr.Sblk 0 n ∷ [] else instr.Sblk 1 (n / 2) ∷ (if n % 2 == 0 then [] else instr.Subk 1 ∷ []))) w (minus w.acc n)
    byte true e = record { runs = record { ready = (tt, tt); reaches = refl; outputs = refl }; accesses = (tt, tt); few = omega arith }
    byte false e = large (nat_lt n 32768) refl

    by : (b : Bool) → (n == 0) ≡ b → MakesAcc (if b then [] else (if nat_lt n 256 then instr.Subk n ∷ [] else (if nat_lt n 32768 then instr.Sblk 0 n ∷ [] else instr.Sblk 1 (n / 2) ∷ (if n % 2 == 0 then [] else instr.Subk 1 ∷ [])))) w (minus w.acc n)
    by true e =
        let none : n ≡ 0 = eqb-true n 0 e in
        let stays : w.acc ≡ minus w.acc n = omega (arith, none, acc) in
        record { runs = record { ready = tt; reaches = same_acc w w.acc (minus w.acc n) stays; outputs = refl }; accesses = tt; few = omega arith }
    by false e = byte (nat_lt n 256) refl

put_back : (w : Work) (n : ℕ) → w.acc < 4294967296 → n < 65536 → MakesAcc (added n) w (plus w.acc n)
put_back w n acc lt = byte (nat_lt n 256) refl
  where
    odd : (b : Bool) → (n % 2 == 0) ≡ b → MakesAcc (instr.Adlk 1 (n / 2) ∷ (if b then [] else instr.Addk 1 ∷ [])) w (plus w.acc n)
    odd true e =
        let even : n % 2 ≡ 0 = eqb-true (n % 2) 0 e in
        let two : wrap32 (extended w.sxm (n / 2) * 2 ^ 1) ≡ 2 * (n / 2) = twice w.sxm (n / 2) (omega (arith, lt)) in
        record {
          runs = record { ready = (tt, tt); reaches = same_acc w _ _ (ap (plus w.acc) two ∙ ap (plus w.acc) (let h : 2 * (n / 2) ≡ n = omega (arith, even) in h)); outputs = refl };
          accesses = (tt, tt);
          few = omega arith;
        }
    odd false e =
        let two : wrap32 (extended w.sxm (n / 2) * 2 ^ 1) ≡ 2 * (n / 2) = twice w.sxm (n / 2) (omega (arith, lt)) in
        let some : n % 2 ≢ 0 = eqb-false (n % 2) 0 e in
        let uneven : n % 2 ≡ 1 = omega (arith, some) in
        let sum : plus (plus w.acc (2 * (n / 2))) 1 ≡ plus w.acc n = omega (arith, uneven, lt, acc) in
        record {
          runs = record { ready = (tt, (tt, tt)); reaches = same_acc w _ _ (ap (λ m. plus (plus w.acc m) 1) two ∙ sum); outputs = refl };
          accesses = (tt, (tt, tt));
          few = omega arith;
        }

    large : (b : Bool) → nat_lt n 32768 ≡ b → MakesAcc (if b then instr.Adlk 0 n ∷ [] else instr.Adlk 1 (n / 2) ∷ (if n % 2 == 0 then [] else instr.Addk 1 ∷ [])) w (plus w.acc n)
    large true e =
        let one : wrap32 (extended w.sxm n * 2 ^ 0) ≡ n = once w.sxm n (ltb-true n 32768 e) in
        record { runs = record { ready = (tt, tt); reaches = same_acc w _ _ (ap (plus w.acc) one); outputs = refl }; accesses = (tt, tt); few = omega arith }
    large false e = odd (n % 2 == 0) refl

    byte : (b : Bool) → nat_lt n 256 ≡ b → MakesAcc (if b then instr.Addk n ∷ [] else (if nat_lt n 32768 then instr.Adlk 0 n ∷ [] else instr.Adlk 1 (n / 2) ∷ (if n % 2 == 0 then [] else instr.Addk 1 ∷ []))) w (plus w.acc n)
    byte true e = record { runs = record { ready = (tt, tt); reaches = refl; outputs = refl }; accesses = (tt, tt); few = omega arith }
    byte false e = large (nat_lt n 32768) refl

-- from a number less one word to the number less another
pub less_made : (w : Work) (z before n : ℕ) → z < 4294967296 → before < 65536 → n < 65536 → w.acc ≡ minus z before → MakesAcc (less_by before n) w (minus z n)
less_made w z before n lt lb ln is = by (nat_le before n) refl
  where
    acc : w.acc < 4294967296
    acc = omega (arith, is)

    by : (b : Bool) → nat_le before n ≡ b → MakesAcc (if b then taken_away (n - before) else added (before - n)) w (minus z n)
    by true e =
        let le : before ≤ n = leb-true before n e in
        let made = taken w (n - before) acc (omega (arith, ln)) in
        let same : minus w.acc (n - before) ≡ minus z n = omega (arith, is, le, lt, lb, ln) in
        let runs = made.runs in
        record { runs = record { ready = runs.ready; reaches = runs.reaches ∙ same_acc w _ _ same; outputs = runs.outputs }; accesses = made.accesses; few = made.few }
    by false e =
        let le : n < before = leb-false before n e in
        let made = put_back w (before - n) acc (omega (arith, lb)) in
        let same : plus w.acc (before - n) ≡ minus z n = omega (arith, is, le, lt, lb, ln) in
        let runs = made.runs in
        record { runs = record { ready = runs.ready; reaches = runs.reaches ∙ same_acc w _ _ same; outputs = runs.outputs }; accesses = made.accesses; few = made.few }
