-- What a choice takes from the accumulator, or adds to it, is a few kinds of instructions.
use Rattle.std.proofs.Common.{ℕ, ◌-◌, Bool, true, false, [], ◌∷◌}
use Rattle.std.specs.Prelude.{nat_lt, nat_le, ◌==◌, ◌/◌, ◌%◌, if◌then◌else◌}
use Rattle.std.specs.List.{AllByRecursion}
use Rattle.c25_isa.specs.declared.instruction.Instr.{Instr}
use Rattle.c25_isa.specs.declared.instruction.Instr.TheVariants.{Subk, Sblk, Addk, Adlk, Lack, Lalk}
use Rattle.image_proof.specs.emit_control.Cuts.{taken_away, added, less_by, count_instr}

-- what holds of these holds of all
pub record HoldsOfChoices (P : Instr → Type 0) : Type 0 where
  pub less : (c : ℕ) → P (Subk c)
  pub less_long : (shift c : ℕ) → P (Sblk shift c)
  pub more : (c : ℕ) → P (Addk c)
  pub more_long : (shift c : ℕ) → P (Adlk shift c)

module _ (P : Instr → Type 0) (h : HoldsOfChoices P) where
  taken_all : (n : ℕ) → AllByRecursion P (taken_away n)
  taken_all n = by (n == 0) (nat_lt n 256) (nat_lt n 32768) (n % 2 == 0)
    where
      by : (a b c d : Bool) → AllByRecursion P (if a then [] else (if b then Subk n ∷ [] else (if c then Sblk 0 n ∷ [] else Sblk 1 (n / 2) ∷ (if d then [] else Subk 1 ∷ []))))
      by true b c d = tt
      by false true c d = (h.less n, tt)
      by false false true d = (h.less_long 0 n, tt)
      by false false false true = (h.less_long 1 (n / 2), tt)
      by false false false false = (h.less_long 1 (n / 2), (h.less 1, tt))

  added_all : (n : ℕ) → AllByRecursion P (added n)
  added_all n = by (nat_lt n 256) (nat_lt n 32768) (n % 2 == 0)
    where
      by : (b c d : Bool) → AllByRecursion P (if b then Addk n ∷ [] else (if c then Adlk 0 n ∷ [] else Adlk 1 (n / 2) ∷ (if d then [] else Addk 1 ∷ [])))
      by true c d = (h.more n, tt)
      by false true d = (h.more_long 0 n, tt)
      by false false true = (h.more_long 1 (n / 2), tt)
      by false false false = (h.more_long 1 (n / 2), (h.more 1, tt))

  pub less_all : (before n : ℕ) → AllByRecursion P (less_by before n)
  less_all before n = by (nat_le before n)
    where
      by : (b : Bool) → AllByRecursion P (if b then taken_away (n - before) else added (before - n))
      by true = taken_all (n - before)
      by false = added_all (before - n)

-- and a number that is loaded
pub count_holds : (P : Instr → Type 0) → ((c : ℕ) → P (Lack c)) → ((shift c : ℕ) → P (Lalk shift c)) → (n : ℕ) → P (count_instr n)
count_holds P short long n = by (nat_lt n 256)
  where
    by : (b : Bool) → P (if b then Lack n else Lalk 0 n)
    by true = short n
    by false = long 0 n
