-- How address registers move between accesses (docs/TRANSLATION.md, "Runs").
use Rattle.std.specs.Prelude.{ℕ, ◌+◌, ◌-◌, nat_lt, nat_le, ◌==◌, ◌&&◌, Bool, true, false, if◌then◌else◌, List, [], ◌∷◌, Option, Some, None}
use Rattle.c25_isa.specs.declared.operand.Change.{Change}
use Rattle.c25_isa.specs.declared.operand.Change.TheVariants.{Stay, Down, Up, DownIndex, UpIndex}
use Rattle.c25_isa.specs.declared.operand.Operand.{Operand}
use Rattle.c25_isa.specs.declared.operand.Operand.TheVariants.{Indirect as Through}
use Rattle.c25_isa.specs.declared.instruction.Instr.{Instr}
use Rattle.c25_isa.specs.declared.instruction.Instr.TheVariants.{Mar, Adrk, Sbrk, Lrlk}
use Rattle.emit_blocks.specs.declared.step.Reach.{Reach}
use Rattle.emit_blocks.specs.declared.step.Reach.TheVariants as reach
use Rattle.emit_blocks.specs.declared.step.Step.{Step}

-- the address that a register has to hold next
abbrev pub address_for : ℕ → Reach → Option ℕ → Option ℕ
address_for r (reach.Scalar p) later = if p.register == r then Some p.address else later
address_for r other later = later

abbrev pub next_address : ℕ → List Step → Option ℕ
next_address r [] = None
next_address r (x ∷ xs) = address_for r x.reach (next_address r xs)

-- the register that is needed next
abbrev pub register_for : Reach → Option ℕ → Option ℕ
register_for (reach.Scalar p) later = Some p.register
register_for reach.Pointer later = Some 1
register_for other later = later

abbrev pub next_register : List Step → Option ℕ
next_register [] = None
next_register (x ∷ xs) = register_for x.reach (next_register xs)

-- from one address to another by the step, where that is more than 1
abbrev pub change_by_index : ℕ → ℕ → ℕ → Change
change_by_index d a b =
    if nat_le d 1 then Stay
    else (if b == a + d then UpIndex
    else (if a == b + d then DownIndex
    else Stay))

-- the change by which an access at an address brings its register to the next one, where one does: by 1, or by the step where that is more
abbrev pub change_to : ℕ → ℕ → Option ℕ → Change
change_to d a None = Stay
change_to d a (Some b) = if b == a + 1 then Up else (if a == b + 1 then Down else change_by_index d a b)

abbrev pub is_by_index : Change → Bool
is_by_index DownIndex = true
is_by_index UpIndex = true
is_by_index c = false

-- the change of a step that goes through the register of a list
abbrev pub change_of_step : ℕ → Reach → List Step → Change
change_of_step d (reach.Scalar p) xs = change_to d p.address (next_address p.register xs)
change_of_step d other xs = Stay

-- some step needs AR0
abbrev pub moves_by_index : ℕ → List Step → Bool
moves_by_index d [] = false
moves_by_index d (x ∷ xs) = if is_by_index (change_of_step d x.reach xs) then true else moves_by_index d xs

-- where a register stands behind an access
abbrev pub address_behind : ℕ → ℕ → Change → ℕ
address_behind d a Stay = a
address_behind d a Up = a + 1
address_behind d a Down = a - 1
address_behind d a UpIndex = a + d
address_behind d a DownIndex = a - d

-- brings a register to an address from where it stands, if that is known
abbrev pub moved : ℕ → Option ℕ → ℕ → List Instr
moved r None a = Lrlk r a ∷ []
moved r (Some p) a =
    if p == a then []
    else (if nat_lt p a && nat_lt (a - p) 256 then Adrk (a - p) ∷ []
    else (if nat_lt a p && nat_lt (p - a) 256 then Sbrk (p - a) ∷ []
    else Lrlk r a ∷ []))

-- a next register is named where it is another one
abbrev pub other_than : ℕ → Option ℕ → Option ℕ
other_than r None = None
other_than r (Some q) = if q == r then None else Some q

abbrev pub indirect : Change → ℕ → Option ℕ → Operand
indirect c r next = Through (record { change = c; next = other_than r next })

-- makes a register current, unless one is already
abbrev pub made_current : Bool → ℕ → List Instr
made_current true r = []
made_current false r = Mar (record { change = Stay; next = Some r }) ∷ []
