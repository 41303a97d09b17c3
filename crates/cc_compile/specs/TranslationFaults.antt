-- The faults of parts as those of translation, and what each says of a typed program.
use Rattle.std.specs.Prelude.{◌≡◌, ◌<◌, ⊤, List}
use Rattle.c_tree.specs.TypedTree.{ProgramTree}
use Rattle.frame_layouts.specs.mem_plan.declared.data_plan.PlanFault.{PlanFault}
use Rattle.frame_layouts.specs.mem_plan.declared.data_plan.PlanFault.TheVariants as plan_faults
use Rattle.c25_link.specs.declared.fault.LinkFault.{LinkFault}
use Rattle.c25_link.specs.declared.fault.LinkFault.TheVariants as link_faults
use Rattle.cc_compile.specs.declared.translation_fault.TranslationFault.{TranslationFault}
use Rattle.cc_compile.specs.declared.translation_fault.TranslationFault.TheVariants.{Plan, Link, NoMemory}
use Rattle.tree_code.specs.WordTree.{ProgramCode}
use Rattle.frame_layouts.specs.mem_plan.Plan.{IsTooLarge}
use Rattle.c25_isa.specs.Pieces.{Piece}
use Rattle.c25_link.specs.Linking.{pieces_words}
use Rattle.cc_compile.specs.Images.{FrameJobs, HasPlanFault, HasLinkFault}

abbrev pub of_plan_fault : PlanFault → TranslationFault
of_plan_fault plan_faults.NoMemory = NoMemory
of_plan_fault why = Plan why

abbrev pub of_link_fault : LinkFault → TranslationFault
of_link_fault link_faults.NoMemory = NoMemory
of_link_fault why = Link why

-- want of memory may come with any program
abbrev pub Says : FrameJobs → ProgramTree → TranslationFault → Type 0
Says o t (Plan why) = HasPlanFault t why
Says o t (Link why) = HasLinkFault o t why
Says o t NoMemory = ⊤

-- the same of a word tree, of which a plan is wanted, and of pieces that are linked
abbrev pub SaysOfTree : ProgramCode → TranslationFault → Type 0
SaysOfTree p (Plan (plan_faults.DataFull words)) = IsTooLarge p words
SaysOfTree p (Plan plan_faults.NoMemory) = ⊥
SaysOfTree p (Link why) = ⊥
SaysOfTree p NoMemory = ⊤

abbrev pub SaysOfPieces : List Piece → TranslationFault → Type 0
SaysOfPieces pieces (Plan why) = ⊥
SaysOfPieces pieces (Link (link_faults.CodeFull words)) = (words ≡ pieces_words pieces) × (65536 < words)
SaysOfPieces pieces (Link link_faults.NoMemory) = ⊥
SaysOfPieces pieces NoMemory = ⊤
