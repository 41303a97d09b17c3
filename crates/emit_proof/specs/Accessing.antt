-- How the code of an active function accesses data memory: its scalars through the registers of their lists, and through AR1 words of objects that live.
use Rattle.std.specs.Prelude.{⊤, ◌≡◌, ℕ, Bool, true, false, ◌==◌, ◌&&◌, ◌||◌, List, [], ◌∷◌, Option, Some, None}
use Rattle.std.specs.List.{list_any}
use Rattle.c25_isa.specs.StretchRuns.{DataAccess}
use Rattle.c25_code.specs.Work.{Work}
use Rattle.emit_blocks.specs.declared.site.ScalarPlace.{ScalarPlace}
use Rattle.emit_blocks.specs.declared.step.Reach.{Reach}
use Rattle.emit_blocks.specs.declared.step.Reach.TheVariants as reach
use Rattle.emit_blocks.specs.declared.step.Step.{Step}
use Rattle.emit_proof.specs.Direct.{behind_step}
use Rattle.emit_proof.specs.Sites.{Site}

-- a scalar lies at an address, in the list of a register
abbrev pub is_place : List ScalarPlace → ℕ → ℕ → Bool
is_place scalars register a = list_any (λ (p : ScalarPlace). p.register == register && p.address == a) scalars

-- an access at an address through a register is at a scalar of its list, or through AR1 at a word of an object that lives. A direct operand may be
-- anywhere here: which words it names is told by the code itself
abbrev pub register_may : Site → ℕ → Option ℕ → Bool
register_may k a None = true
register_may k a (Some register) = (register == 1 && k.lives a) || is_place k.places.scalars register a

abbrev pub site_may : Site → DataAccess → Bool
site_may k x = register_may k x.address x.through

-- no access at all
abbrev pub no_access : DataAccess → Bool
no_access x = false

-- what a step reaches is so
abbrev pub ReachMay : Site → Work → Reach → Type 0
ReachMay k w (reach.Scalar p) = is_place k.places.scalars p.register p.address ≡ true
ReachMay k w reach.Pointer = k.lives (w.ar 1) ≡ true
ReachMay k w (reach.Word a) = ⊤
ReachMay k w (reach.Constant c) = ⊤

-- and what each of some steps reaches
abbrev pub StepsMay : Site → List Step → Work → Type 0
StepsMay k [] w = ⊤
StepsMay k (x ∷ xs) w = ReachMay k w x.reach × StepsMay k xs (behind_step x w)
