-- A source within the limits has no fault.
use Rattle.std.proofs.Common.{◌<◌, ◌≤◌, ◌+◌, ◌*◌, ℕ, List, ap, arith}
use Rattle.c_syntax.specs.Counts.{unit_count}
use Rattle.c_tree.specs.TypedTree.{ProgramTree}
use Rattle.tree_code.specs.Lowered.{lowered_program}
use Rattle.frame_layouts.specs.mem_plan.declared.data_plan.PlanFault.{PlanFault}
use Rattle.frame_layouts.specs.mem_plan.declared.data_plan.PlanFault.TheVariants as plan_faults
use Rattle.frame_layouts.specs.mem_plan.declared.data_plan.TheConstants.{MOST_DATA_WORDS}
use Rattle.frame_layouts.specs.mem_plan.Plan.{data_need}
use Rattle.frame_layouts.specs.declared.options.Options.{Options}
use Rattle.c25_link.specs.declared.fault.LinkFault.TheVariants as link_faults
use Rattle.cc_compile.specs.Limits.{NeedsData, IsWithinLimits}
use Rattle.cc_compile.specs.Images.{HasPlanFault, HasTooMuchData}
use Rattle.cc_compile.specs.SourceFaults.{HasFault, HasProgram, HasTree, IsTypedWith}
use Rattle.cc_compile.specs.declared.fault.BuildFault.{BuildFault}
use Rattle.cc_compile.specs.declared.fault.BuildFault.TheVariants.{Lex, Parse, Types, Plan, Link, NoMemory}
use Rattle.cc_compile.proofs.OneFault.{both_of_program, both_of_tree, program_no_fault}
use Rattle.cc_compile.proofs.OneImage.{same_begins}

-- code that finds no room is that of a large source
abbrev pub FullCodeIsLarge : Options → List ℕ → Type 0
FullCodeIsLarge o bytes = (words : ℕ) → HasFault o bytes (Link (link_faults.CodeFull words)) → HasTree bytes (λ source. (65536 < words) × (words ≤ 1000 + 64 * unit_count source))

-- what is needed is one number, which isn't both at most that of data memory and above it
data_fits : (t : ProgramTree) (need words : ℕ) → NeedsData t need → need ≤ MOST_DATA_WORDS → HasTooMuchData t words → ⊥
data_fits t need words needs few large =
    let p = lowered_program t in
    let same = ap (data_need p) (same_begins p needs.begin large.begin needs.begins large.begins) in
    omega (arith, needs.is, few, large.is, large.over, same)

plan_fits : (t : ProgramTree) (need : ℕ) (why : PlanFault) → NeedsData t need → need ≤ MOST_DATA_WORDS → HasPlanFault t why → ⊥
plan_fits t need (plan_faults.DataFull words) needs few h = data_fits t need words needs few h
plan_fits t need plan_faults.NoMemory needs few h = h

code_fits : (nodes words : ℕ) → 1000 + 64 * nodes ≤ 65536 → 65536 < words → words ≤ 1000 + 64 * nodes → ⊥
code_fits nodes words few over most = omega (arith, few, over, most)

module _ (bytes : List ℕ) (c : IsWithinLimits bytes) where
  has_program : HasProgram bytes c.program
  has_program = (c.tokens, c.source, c.lexes, c.is_source, c.typed)

  has_data : HasTree bytes (IsTypedWith (λ program. NeedsData program c.data_words))
  has_data = (c.tokens, c.source, c.lexes, c.is_source, (c.program, c.typed, c.needs))

  is_small : HasTree bytes (λ source. 1000 + 64 * unit_count source ≤ 65536)
  is_small = (c.tokens, c.source, c.lexes, c.is_source, c.code_fits)

  pub no_fault : (o : Options) (fault : BuildFault) → FullCodeIsLarge o bytes → HasFault o bytes fault → ⊥
  no_fault o (Lex why) full h = program_no_fault o bytes c.program (Lex why) has_program h
  no_fault o (Parse why) full h = program_no_fault o bytes c.program (Parse why) has_program h
  no_fault o (Types why) full h = program_no_fault o bytes c.program (Types why) has_program h
  no_fault o (Plan why) full h =
      let b = both_of_program bytes _ _ has_data h in
      plan_fits b.0 c.data_words why b.1 c.data_fits b.2
  no_fault o (Link (link_faults.CodeFull words)) full h =
      let b = both_of_tree bytes _ _ is_small (full words h) in
      code_fits (unit_count b.0) words b.1 b.2.0 b.2.1
  no_fault o (Link link_faults.NoMemory) full h = let b = both_of_program bytes _ _ has_data h in b.2
  no_fault o NoMemory full h = h
