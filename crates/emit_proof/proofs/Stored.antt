-- What a store to an operand comes to: its word lies in RAM, and nothing but it changes; or the run fails.
use Rattle.std.proofs.Common.{◌≡◌, ◌≢◌, ℕ, Bool, true, false, cond, Option, Some, None, refl, sym, ap, ◌∙◌, eqb-true}
use Rattle.std.specs.Prelude.{◌==◌}
use Rattle.c25_code.specs.Work.{Work}
use Rattle.acc_code.specs.declared.operand.AccOperand.{AccOperand}
use Rattle.acc_code.specs.declared.operand.AccOperand.TheVariants as operand
use Rattle.acc_code.specs.Operands.{Written_word, IsTaken}
use Rattle.ir_semantics.specs.Outside as words
use Rattle.ir_semantics.specs.Outside.{with_word, with_memory}
use Rattle.ir_semantics.specs.Parts.{Res, Gives, Finished, TooMany, Fails, Flow, Next}
use Rattle.ir_semantics.specs.AccRun.{Machine, store_to, write_cell, write_word}
use Rattle.emit_proof.specs.Standing.{IsNamed}
use Rattle.emit_proof.specs.Sites.{Site, IsSite, Beside}
use Rattle.emit_proof.proofs.Located.{Located, scalar_located, parameter_located, scratch_located, object_there, pointer_there}

-- a state behind a store
pub record Stored (k : Site) (v : Machine) (w : Work) (m : AccOperand) (u : Machine) : Type 0 where
  pub located : Located k w m
  pub registers : u.registers ≡ v.registers
  pub input : u.outside.input ≡ v.outside.input
  pub outs : u.outside.outs ≡ v.outside.outs
  pub work : u.work ≡ v.work
  pub nowhere : (a : ℕ) → v.outside.memory a ≡ words.Nowhere → u.outside.memory a ≡ words.Nowhere

abbrev pub StoreComes : Site → Machine → Work → AccOperand → Res Machine Flow → Type 0
StoreComes k v w m (Gives flow u) = (flow ≡ Next) × Stored k v w m u
StoreComes k v w m (Finished ending outs total) = ⊥
StoreComes k v w m (TooMany outs) = ⊥
StoreComes k v w m (Fails outs) = outs ≡ v.outside.outs

unwritten_there : words.Unwritten ≢ words.Nowhere
unwritten_there e = cc

holds_there : (y : ℕ) → words.Holds y ≢ words.Nowhere
holds_there y e = cc

module _ (k : Site) (site : IsSite k) (w : Work) (v : Machine) (h : Beside k v w) (x : ℕ) where
  -- a word that isn't nowhere stays so, and all others
  nowhere_stays : (b : Bool) (a c : ℕ) → (c == a) ≡ b → v.outside.memory a ≢ words.Nowhere → v.outside.memory c ≡ words.Nowhere → cond b (words.Holds x) (v.outside.memory c) ≡ words.Nowhere
  nowhere_stays true a c same lives none = absurd (lives (ap v.outside.memory (sym (eqb-true c a same)) ∙ none))
  nowhere_stays false a c same lives none = none

  cell_stored : (a : ℕ) (m : AccOperand) → Located k w m → v.outside.memory a ≢ words.Nowhere → Stored k v w m (record v { outside = with_memory (with_word a x v.outside.memory) v.outside })
  cell_stored a m located lives = record { located = located; registers = refl; input = refl; outs = refl; work = refl; nowhere = λ c none. nowhere_stays (c == a) a c refl lives none }

  cell_comes : (c : words.Cell) (a : ℕ) (m : AccOperand) → v.outside.memory a ≡ c → (v.outside.memory a ≢ words.Nowhere → Located k w m) → StoreComes k v w m (write_cell c a x v)
  cell_comes words.Nowhere a m is located = refl
  cell_comes words.Unwritten a m is located = let lives : v.outside.memory a ≢ words.Nowhere = λ none. unwritten_there (sym is ∙ none) in (refl, cell_stored a m (located lives) lives)
  cell_comes (words.Holds y) a m is located = let lives : v.outside.memory a ≢ words.Nowhere = λ none. holds_there y (sym is ∙ none) in (refl, cell_stored a m (located lives) lives)

  word_comes : (b : Option ℕ) (m : AccOperand) → ((a : ℕ) → b ≡ Some a → v.outside.memory a ≢ words.Nowhere → Located k w m) → StoreComes k v w m (write_word b x v)
  word_comes None m located = refl
  word_comes (Some a) m located = cell_comes (v.outside.memory a) a m refl (located a refl)

  pub store_comes : (m : AccOperand) → IsTaken Written_word m → IsNamed k.places k.counts k.kept m → StoreComes k v w m (store_to k.at m x v)
  store_comes operand.Nothing taken named = absurd taken
  store_comes (operand.Scalar n) taken named = (refl, record { located = scalar_located k site w n named; registers = refl; input = refl; outs = refl; work = refl; nowhere = λ a none. none })
  store_comes (operand.Direct o) taken named = word_comes (k.at o) (operand.Direct o) (λ a is lives. object_there k site w v h o a is lives)
  store_comes (operand.Param f i) taken named = (refl, record { located = parameter_located k site w f i named; registers = refl; input = refl; outs = refl; work = refl; nowhere = λ a none. none })
  store_comes (operand.Scratch n) taken named = (refl, record { located = scratch_located k site w n named; registers = refl; input = refl; outs = refl; work = refl; nowhere = λ a none. none })
  store_comes (operand.Number c) taken named = absurd taken
  store_comes (operand.Address o i) taken named = absurd taken
  store_comes operand.Pointed taken named = word_comes v.registers.pointed operand.Pointed (λ q is lives. pointer_there k site w v h q is lives)
