-- Registers of accumulator code, as far as they are known, beside the machine's.
use Rattle.std.specs.Prelude.{⊤, ◌≡◌, ℕ, Option, Some, None}
use Rattle.c25_isa.specs.Step.{wrap16}
use Rattle.c25_code.specs.Work.{Work}
use Rattle.ir_semantics.specs.AccRows.{Acc, Gone, Low, Whole, Registers}

-- what is known of the accumulator is so of these 32 bits
abbrev pub AccAlike : Acc → ℕ → Type 0
AccAlike Gone a = ⊤
AccAlike (Low x) a = wrap16 a ≡ x
AccAlike (Whole z) a = a ≡ z

-- a part is this one where it is known
abbrev pub IsAsKnown : {A : Type 0} → Option A → A → Type 0
IsAsKnown None x = ⊤
IsAsKnown (Some y) x = x ≡ y

-- ACC, T, P and SXM; AR1, where accumulator code knows what is pointed to, is no part of it
pub record RegistersAlike (r : Registers) (w : Work) : Type 0 where
  pub acc : AccAlike r.acc w.acc
  pub t : IsAsKnown r.t w.t
  pub p : IsAsKnown r.p w.p
  pub sxm : IsAsKnown r.sxm w.sxm
