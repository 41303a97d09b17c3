-- What a certificate says of each frame (docs/FORMATS.md, "Certificates").
use Rattle.std.specs.Prelude.{◌≡◌, ℕ, ◌<◌, ◌≤◌, ◌^◌, List, length, All}
use Rattle.word_base.specs.Name.{IsName}
use Rattle.lay_model.specs.Sequences.{Sequence, IsSequence}
use Rattle.lay_model.specs.Arrangements.{Arranges}
use Rattle.lay_tree.specs.declared.answer.Mark.{Mark}
use Rattle.lay_cert.specs.declared.certificate.Claim.{Claim}
use Rattle.lay_cert.specs.declared.certificate.Claim.TheVariants.{Optimal, Best}

-- the layout of a frame, what it costs, what is claimed of it, and the log that shows the claim
pub record Frame : Type 0 where
  pub name : List ℕ
  pub registers : ℕ
  pub seq : Sequence
  pub arr : List (List ℕ)
  pub bases : List ℕ
  pub cost : ℕ
  pub claim : Claim
  pub log : List Mark

-- the lists arrange the scalars of the sequence over some of the registers, and each has its base
pub record IsFrame (f : Frame) : Type 0 where
  pub name : IsName f.name
  pub some : 1 ≤ f.registers
  pub few : f.registers ≤ 4
  pub arranged : Arranges f.seq.scalars f.arr
  pub lists : length f.arr ≤ f.registers
  pub based : length f.bases ≡ length f.arr

-- a claim whose numbers have 8 and 32 bits
abbrev pub IsClaim : Claim → Type 0
IsClaim Optimal = Unit {0}
IsClaim (Best piece quota) = (piece < 2 ^ 8) × (quota < 2 ^ 32)

-- a frame whose numbers have their bits
pub record IsWhole (f : Frame) : Type 0 where
  pub frame : IsFrame f
  pub sequence : IsSequence f.seq
  pub weights : All (λ b. b.weight < 2 ^ 32) f.seq.blocks
  pub bases : All (λ base. base < 2 ^ 16) f.bases
  pub cost : f.cost < 2 ^ 64
  pub claim : IsClaim f.claim
  pub log : length f.log < 2 ^ 64

abbrev pub AreWhole : List Frame → Type 0
AreWhole fs = All IsWhole fs
