-- What a site allows, computed: a scalar in the list of AR2 at 0320h, one in that of AR3 at 0321h, and an object that lives at 0330h.
use Rattle.std.specs.Prelude.{ℕ, Bool, true, false, [], ◌∷◌, Option, Some, None, ◌==◌}
use Rattle.std.proofs.Common.{◌≡◌, refl}
use Rattle.c25_isa.specs.StretchRuns.{DataAccess}
use Rattle.emit_proof.specs.Accessing.{site_may}
use Rattle.emit_proof.specs.Sites.{Site}

abbrev site : Site
site = record {
  places = record { scalars = record { register = 2; address = 0x320 } ∷ record { register = 3; address = 0x321 } ∷ []; statics = 0x330 ∷ []; locals = []; parameters = []; step = 1 };
  counts = λ f. 0;
  kept = λ a. None;
  lives = λ a. a == 0x330;
  at = λ v. None;
  stack = [];
}

abbrev allows : Option ℕ → ℕ → Bool
allows through a = site_may site (record { address = a; through = through; stores = true })

-- each scalar through the register of its list
in_its_list : allows (Some 2) 0x320 ≡ true
in_its_list = refl

in_the_other_list : allows (Some 3) 0x320 ≡ false
in_the_other_list = refl

of_the_other_list : allows (Some 3) 0x321 ≡ true
of_the_other_list = refl

-- through AR1 the object alone
scalar_pointed_to : allows (Some 1) 0x320 ≡ false
scalar_pointed_to = refl

object_pointed_to : allows (Some 1) 0x330 ≡ true
object_pointed_to = refl

object_in_a_list : allows (Some 2) 0x330 ≡ false
object_in_a_list = refl

nothing_there : allows (Some 1) 0x331 ≡ false
nothing_there = refl

-- of direct operands nothing is said
direct : allows None 0x320 ≡ true
direct = refl
