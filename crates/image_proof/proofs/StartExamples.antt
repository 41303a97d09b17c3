-- Static objects by hand: what a run finds in memory, and what the startup's own code makes of words that are 0.
use Rattle.std.proofs.Common.{◌≡◌, ℕ, false, List, [], ◌∷◌, refl}
use Rattle.c_tree.specs.declared.program.Base.TheVariants.{Int}
use Rattle.c_tree.specs.declared.program.Initial.{Initial}
use Rattle.c_tree.specs.declared.program.Initial.TheVariants.{Word, Address}
use Rattle.c_tree.specs.TypedTree.{ObjectTree}
use Rattle.c25_code.specs.Straight.{behind_code}
use Rattle.c25_code.specs.Work.{Work}
use Rattle.mem_plan.specs.declared.data_plan.DataPlan.{DataPlan}
use Rattle.mem_plan.specs.Plan.{object_addresses}
use Rattle.frame_emit.specs.Startup.{STATICS_START, fillings_code}
use Rattle.ir_semantics.specs.Outside.{Memory, Holds, Nowhere, first_outside}
use Rattle.image_proof.specs.PlanPlaces.{places_of}

abbrev object : ℕ → List Initial → ObjectTree
object n list = record { name = []; length = n; kind = record { base = Int; stars = 0 }; initial = list }

-- int a[4] = {7, 7, 0x8234, 0}; int *p = a + 4; int b[2];
abbrev three : List ObjectTree
three = object 4 (Word 7 ∷ Word 7 ∷ Word 0x8234 ∷ Word 0 ∷ []) ∷ object 1 (Address 0 4 ∷ []) ∷ object 2 [] ∷ []

abbrev addresses : List ℕ
addresses = object_addresses STATICS_START three

they_lie : addresses ≡ 784 ∷ 789 ∷ 791 ∷ []
they_lie = refl

abbrev plan : DataPlan
plan = record { statics = addresses; frames = []; used = 26 }

abbrev found : Memory
found = (first_outside (places_of plan) three (λ port. [])).memory

words_found : (found 784 ≡ Holds 7) × (found 785 ≡ Holds 7) × (found 786 ≡ Holds 0x8234) × (found 787 ≡ Holds 0) × (found 789 ≡ Holds 788) × (found 791 ≡ Holds 0) × (found 792 ≡ Holds 0)
words_found = (refl, refl, refl, refl, refl, refl, refl)

-- spare words are of no object
spare : (found 783 ≡ Nowhere) × (found 788 ≡ Nowhere) × (found 790 ≡ Nowhere) × (found 793 ≡ Nowhere)
spare = (refl, refl, refl, refl)

abbrev before : Work
before = record { acc = 0; t = 0; p = 0; ar = λ r. 0; arp = 1; dp = 0; sxm = false; stack = []; ram = λ a. 0; input = λ port. [] }

abbrev behind : Work
behind = behind_code (fillings_code addresses addresses three) before

words_filled : (behind.ram 784 ≡ 7) × (behind.ram 785 ≡ 7) × (behind.ram 786 ≡ 0x8234) × (behind.ram 787 ≡ 0) × (behind.ram 789 ≡ 788) × (behind.ram 791 ≡ 0) × (behind.ram 792 ≡ 0)
words_filled = (refl, refl, refl, refl, refl, refl, refl)
