-- What is wanted of the functions of a whole source behind the rules of its nodes: bodies of the functions that are called, and the
-- limits (docs/LANGUAGE.md, "Types").
use Rattle.std.specs.Prelude.{◌≡◌, ⊤, ℕ, ◌+◌, min, nat_lt, if◌then◌else◌, List, [], ◌∷◌, ◌++◌, map, length, Option, Some, None}
use Rattle.c_tree.specs.Temporaries.{statement_temporaries}
use Rattle.c_rules.specs.declared.fault.LimitName.{LimitName}
use Rattle.c_rules.specs.declared.fault.LimitName.TheVariants.{Functions, Parameters, Scalars, Cases}
use Rattle.c_rules.specs.declared.fault.TypeFault.{TypeFault}
use Rattle.c_rules.specs.declared.fault.TypeFault.TheVariants as faults
use Rattle.c_tree.specs.declared.uses.Use.{Use}
use Rattle.c_tree.specs.declared.uses.Use.TheVariants as kind
use Rattle.c_tree.specs.Uses.{statement_uses}
pub use Rattle.c_tree.specs.Uses.{case_counts}
use Rattle.c_rules.specs.Units.{TypedFunction}
use Rattle.c_rules.specs.Programs.{frame_scalars, frame}
use Rattle.c_tree.specs.declared.limits.TheConstants.{MOST_CASES, MOST_FRAME_SCALARS, MOST_FUNCTIONS, MOST_PARAMETERS}

abbrev pub uses_of : TypedFunction → List Use
uses_of f = statement_uses f.body

-- the first in the source of two places, where they are there
abbrev pub earlier : Option ℕ → Option ℕ → Option ℕ
earlier None b = b
earlier (Some a) None = Some a
earlier (Some a) (Some b) = Some (min a b)

-- the first call of a function that has no body, where so many have one
abbrev pub first_without : ℕ → List Use → Option ℕ
first_without bodies [] = None
first_without bodies (kind.Call f at ∷ us) = if nat_lt f bodies then first_without bodies us else earlier (Some at) (first_without bodies us)
first_without bodies (kind.Address r ∷ us) = first_without bodies us
first_without bodies (kind.Cases n ∷ us) = first_without bodies us

abbrev pub first_among : ℕ → List (List Use) → Option ℕ
first_among bodies [] = None
first_among bodies (us ∷ rest) = earlier (first_without bodies us) (first_among bodies rest)

abbrev pub missing_body : List TypedFunction → Option ℕ
missing_body fs = first_among (length fs) (map uses_of fs)

-- what a limit counts: frame scalars with the temporaries of each function, and the cases of each switch
abbrev pub frame_size : TypedFunction → ℕ
frame_size f = frame_scalars (frame f) + statement_temporaries f.body

abbrev pub all_cases : List (List Use) → List ℕ
all_cases [] = []
all_cases (us ∷ rest) = case_counts us ++ all_cases rest

-- the counts of each name, in source order, and the greatest that may be
abbrev pub limited_counts : LimitName → List TypedFunction → List ℕ
limited_counts Functions fs = length fs ∷ []
limited_counts Parameters fs = map (λ f. f.parameters) fs
limited_counts Scalars fs = map frame_size fs
limited_counts Cases fs = all_cases (map uses_of fs)

abbrev pub greatest_count : LimitName → ℕ
greatest_count Functions = MOST_FUNCTIONS
greatest_count Parameters = MOST_PARAMETERS
greatest_count Scalars = MOST_FRAME_SCALARS
greatest_count Cases = MOST_CASES

abbrev pub first_above : ℕ → List ℕ → Option ℕ
first_above limit [] = None
first_above limit (n ∷ ns) = if nat_lt limit n then Some n else first_above limit ns

abbrev pub passed : LimitName → List TypedFunction → Option ℕ
passed which fs = first_above (greatest_count which) (limited_counts which fs)

-- a fault says that this count of a name is the first that passes its limit
abbrev pub IsOver : LimitName → Option ℕ → TypeFault → Type 0
IsOver which found (faults.Limit name count) = (name ≡ which) × (found ≡ Some count)
IsOver which found faults.NoMemory = ⊤
IsOver which found fault = ⊥

-- limits are looked at in this order
abbrev pub IsPassed : List TypedFunction → LimitName → ℕ → Type 0
IsPassed fs Functions n = passed Functions fs ≡ Some n
IsPassed fs Parameters n = (passed Functions fs ≡ None) × (passed Parameters fs ≡ Some n)
IsPassed fs Scalars n = (passed Functions fs ≡ None) × (passed Parameters fs ≡ None) × (passed Scalars fs ≡ Some n)
IsPassed fs Cases n = (passed Functions fs ≡ None) × (passed Parameters fs ≡ None) × (passed Scalars fs ≡ None) × (passed Cases fs ≡ Some n)
