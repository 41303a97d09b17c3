-- Words of frames that are kept for functions behind the one that runs.
use Rattle.std.specs.Prelude.{◌≡◌, ◌≤◌, ◌<◌, ℕ, suc, ◌+◌, Bool, false, ◌==◌, if◌then◌else◌, List, [], ◌∷◌, Option, Some, None}
use Rattle.ir_semantics.specs.Outside.{Frame}
use Rattle.ir_semantics.specs.AccRun.{or_else}
use Rattle.emit_blocks.specs.declared.site.ScalarPlace.{ScalarPlace}
use Rattle.mem_plan.specs.Ranges.{Range, Place, ScratchWords, StaticObject, ScalarWord, LocalObject, ReturnWord, range_of}
use Rattle.image_proof.specs.Emissions.{Emission}
use Rattle.image_proof.specs.Active.{IsAmong, behind_first, back_of}
use Rattle.image_proof.specs.ActiveSites.{site_places}

-- scalars of callers, and return words
abbrev pub MayKeep : List ℕ → Place → Type 0
MayKeep active ScratchWords = ⊥
MayKeep active (StaticObject n) = ⊥
MayKeep active (ScalarWord f list position) = IsAmong (behind_first active) f
MayKeep active (LocalObject f n) = ⊥
MayKeep active (ReturnWord f) = IsAmong active f

pub record KeptAt (e : Emission) (active : List ℕ) (a : ℕ) : Type 0 where
  pub place : Place
  pub may : MayKeep active place
  pub range : Range
  pub is : range_of e.code e.arrangements e.plan place ≡ Some range
  pub from : range.first ≤ a
  pub to : a < range.first + range.words

pub record IsKept (e : Emission) (active : List ℕ) (kept : ℕ → Option ℕ) : Type 0 where
  pub by : (a x : ℕ) → kept a ≡ Some x → KeptAt e active a

-- the scalar at an address, among those from a number on
abbrev pub number_at : List ScalarPlace → ℕ → ℕ → Option ℕ
number_at [] n a = None
number_at (p ∷ ps) n a = if p.address == a then Some n else number_at ps (suc n) a

abbrev pub known_of : Frame → Option ℕ → Option ℕ
known_of frame None = None
known_of frame (Some n) = frame n

abbrev pub is_word : Option ℕ → ℕ → Bool
is_word None a = false
is_word (Some b) a = b == a

-- while a function runs that these called, the first of them with this frame: its return address, if it has a word for it, what is known of the
-- caller's scalars, and what was kept before
abbrev pub kept_for : Emission → ℕ → List ℕ → Frame → ℕ → (ℕ → Option ℕ) → ℕ → Option ℕ
kept_for e g active frame ret kept = λ a.
    if is_word (back_of e g) a then Some ret else or_else (known_of frame (number_at (site_places e active).scalars 0 a)) (kept a)

-- the hardware stack behind the begin of a function
abbrev pub stack_in : Option ℕ → ℕ → List ℕ → List ℕ
stack_in None ret stack = ret ∷ stack
stack_in (Some a) ret stack = stack
