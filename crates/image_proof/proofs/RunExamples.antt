-- Where objects of a small plan lie, by hand.
use Rattle.std.proofs.Common.{◌≡◌, refl, [], ◌∷◌, Some, None}
use Rattle.c_tree.specs.declared.program.VarRef.TheVariants.{Scalar, Local, Static}
use Rattle.ir_semantics.specs.Outside.{address_of}
use Rattle.mem_plan.specs.declared.data_plan.DataPlan.{DataPlan}
use Rattle.image_proof.specs.PlanPlaces.{places_of}

-- two static objects, of 3 words and of 1, a function with two local objects, and one that calls it and has a return word
abbrev small : DataPlan
small = record {
  statics = 784 ∷ 788 ∷ [];
  frames = record { bases = 791 ∷ []; locals = 792 ∷ 797 ∷ []; back = None } ∷ record { bases = []; locals = []; back = Some 790 } ∷ [];
  used = 33;
}

statics_lie : (address_of (places_of small) 0 (Static 0) ≡ Some 784) × (address_of (places_of small) 1 (Static 1) ≡ Some 788)
statics_lie = (refl, refl)

locals_lie : (address_of (places_of small) 0 (Local 0) ≡ Some 792) × (address_of (places_of small) 0 (Local 1) ≡ Some 797)
locals_lie = (refl, refl)

-- a scalar of a frame has no address
scalars_lie : address_of (places_of small) 0 (Scalar 0) ≡ None
scalars_lie = refl

-- where there is no object, nor a function, an address is that of the first word
nothing_there : (address_of (places_of small) 0 (Static 2) ≡ Some 768) × (address_of (places_of small) 1 (Local 0) ≡ Some 768) × (address_of (places_of small) 2 (Local 0) ≡ Some 768)
nothing_there = (refl, refl, refl)
