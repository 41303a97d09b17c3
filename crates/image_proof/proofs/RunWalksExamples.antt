-- Walks by hand: c = a + b, where b lies a step of 2 behind a and c is on another list, and a pointer's word, whose pointer is a scalar.
use Rattle.std.proofs.Common.{ℕ, ◌≡◌, ◌<◌, ◌==◌, if◌then◌else◌, List, [], ◌∷◌, length, map, true, false, Some, None, refl, lit<, lit≤}
use Rattle.std.specs.Prelude.{pos}
use Rattle.std.proofs.lemmas.List.Elements.{All-nil, All-cons}
use Rattle.c25_isa.specs.declared.operand.Change.TheVariants.{Stay, Up, UpIndex}
use Rattle.c25_isa.specs.declared.operand.Operand.TheVariants as word
use Rattle.c25_isa.specs.declared.instruction.Instr.TheVariants as instr
use Rattle.c25_isa.specs.Walk as walk
use Rattle.acc_code.specs.declared.operand.AccOperand.TheVariants as operand
use Rattle.acc_code.specs.declared.operation.AccOp.TheVariants as row
use Rattle.emit_blocks.specs.declared.site.ScalarPlace.{ScalarPlace}
use Rattle.emit_blocks.specs.Places.{Places}
use Rattle.emit_blocks.specs.Steps.{Operation, operation}
use Rattle.emit_blocks.specs.Runs.{run_code}
use Rattle.lay_cost.specs.Cost.{block_cost}
use Rattle.lay_cost.specs.Placements.{Placement}
use Rattle.image_proof.specs.RunWalks.{placed_from, scalars_of, address_of, listed_along, unknown_along, counted_along, WalksAs}
use Rattle.image_proof.specs.AgreeingWalks.{AgreesWith}
use Rattle.image_proof.specs.Outside.{is_outside}
use Rattle.image_proof.proofs.Tallies.{as_they_lie}
use Rattle.image_proof.proofs.WholeWalks.{run_walks}

abbrev on : ℕ → ℕ → ScalarPlace
on r a = record { register = r; address = a }

abbrev places : Places
places = record { scalars = on 2 0x332 ∷ on 2 0x334 ∷ on 3 0x340 ∷ []; statics = []; locals = []; parameters = []; step = 2 }

abbrev sum : List Operation
sum = operation (row.Lac 0) (operand.Scalar 0) ∷ operation (row.Add 0) (operand.Scalar 1) ∷ operation (row.Sacl 0) (operand.Scalar 2) ∷ []

sum_code : run_code places sum ≡
    instr.Lark 0 2 ∷ instr.Lrlk 2 0x332 ∷ instr.Mar (record { change = Stay; next = Some 2 }) ∷ instr.Lac 0 (word.Indirect (record { change = UpIndex; next = None }))
    ∷ instr.Add 0 (word.Indirect (record { change = Stay; next = Some 3 })) ∷ instr.Lrlk 3 0x340 ∷ instr.Sacl 0 (word.Indirect (record { change = Stay; next = None })) ∷ []
sum_code = refl

-- by the definitions: LARK and each LRLK count
sum_listed : listed_along walk.nothing_known (placed_from 0x20 (run_code places sum)) ≡ 0x332 ∷ 0x334 ∷ 0x340 ∷ []
sum_listed = refl

sum_unknown : unknown_along walk.nothing_known (placed_from 0x20 (run_code places sum)) ≡ []
sum_unknown = refl

sum_counted : counted_along walk.nothing_known (placed_from 0x20 (run_code places sum)) ≡ 0x20 ∷ 0x21 ∷ 0x26 ∷ []
sum_counted = refl

-- on lists with these offsets, two loads and the step's
abbrev placement : Placement
placement = record { register = λ n. if n == 2 then 1 else 0; offset = λ n. if n == 1 then pos 2 else pos 0 }

sum_costs : block_cost 2 placement (scalars_of sum) ≡ 3
sum_costs = refl

-- by the law
lies : (s : Places) → AgreesWith s (as_they_lie s)
lies s = record { together = λ n m a b e. e; apart = λ n m a b e. e; distances = λ n m a b e. refl }

sum_walks : WalksAs (run_code places sum) (0x332 ∷ 0x334 ∷ 0x340 ∷ []) 3
sum_walks =
    run_walks places sum (as_they_lie places) (lit≤ tt, lit≤ tt, lit< tt, (lit≤ tt, lit≤ tt, lit< tt, (lit≤ tt, lit≤ tt, lit< tt, tt)))
    (record { range = lit< tt; taken = tt }, (record { range = lit< tt; taken = tt }, (record { range = lit< tt; taken = tt }, tt)))
    (All-cons (λ n. n < 3) 0 (1 ∷ 2 ∷ []) (lit< tt) (All-cons (λ n. n < 3) 1 (2 ∷ []) (lit< tt) (All-cons (λ n. n < 3) 2 [] (lit< tt) (All-nil (λ n. n < 3)))))
    (lies places)

-- *c: AR1 is loaded from the scalar, which is one access; the word that it points at is none
abbrev pointed : List Operation
pointed = operation (row.Lac 0) (operand.Scalar 2) ∷ operation row.Point operand.Nothing ∷ operation (row.Lac 0) operand.Pointed ∷ []

pointed_listed : listed_along walk.nothing_known (placed_from 0x20 (run_code places pointed)) ≡ map (address_of places) (scalars_of pointed)
pointed_listed = refl

pointed_counted : length (counted_along walk.nothing_known (placed_from 0x20 (run_code places pointed))) ≡ block_cost 2 placement (scalars_of pointed)
pointed_counted = refl

-- where nothing is accessed nothing is paid
nothing_costs : (d : ℕ) (p : Placement) → block_cost d p [] ≡ 0
nothing_costs d p = refl

-- what is outside, and what isn't
next_is : (n : ℕ) → is_outside (instr.Mar (record { change = Stay; next = Some n })) ≡ true
next_is n = refl

pointer_is : (a : ℕ) → is_outside (instr.Lrlk 1 a) ≡ true
pointer_is a = refl

direct_is : (a : ℕ) → is_outside (instr.Lac 0 (word.Direct a)) ≡ true
direct_is a = refl

list_isnt : (a : ℕ) → is_outside (instr.Lrlk 2 a) ≡ false
list_isnt a = refl

move_isnt : is_outside (instr.Mar (record { change = Up; next = None })) ≡ false
move_isnt = refl

indirect_isnt : is_outside (instr.Lac 0 (word.Indirect (record { change = Stay; next = None }))) ≡ false
indirect_isnt = refl

-- through AR1, once it is current, no scalar is accessed either
pointer_walks : (a : ℕ) → WalksAs (instr.Mar (record { change = Stay; next = Some 1 }) ∷ instr.Lrlk 1 a ∷ instr.Sacl 0 (word.Indirect (record { change = Up; next = None })) ∷ []) [] 0
pointer_walks a = record { addresses_so = λ k at. refl; known_so = λ k at. refl; counted_so = λ k at. refl }
