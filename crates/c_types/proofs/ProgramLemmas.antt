-- The typed program of a source, and what its faults say.
use Rattle.std.proofs.Common.{◌≡◌, ℕ, ◌++◌, ◌∷◌, [], List, map, ap, ◌∙◌, sym, refl, subst, append-nil}
use Rattle.std.specs.Prelude.{Vec, All}
use Rattle.std.specs.Global.{Global}
use Rattle.c_tree.specs.declared.program.VarRef.{VarRef}
use Rattle.c_syntax.specs.declared.unit.External.{External}
use Rattle.c_syntax.specs.SyntaxTree.{UnitTree}
use Rattle.c_syntax.specs.SyntaxView.{unit_of}
use Rattle.c_tree.specs.TypedTree.{ObjectTree, FunctionTree, ProgramTree}
use Rattle.c_rules.specs.declared.fault.TypeFault.{TypeFault}
use Rattle.c_rules.specs.declared.fault.TypeFault.TheVariants as faults
use Rattle.c_limits.specs.declared.functions.TypedFunction as memory
use Rattle.c_types.specs.declared.units.File as files
use Rattle.c_types.specs.declared.units.Contents.{Contents}
use Rattle.c_rules.specs.declared.fault.Rule.{Rule}
use Rattle.c_rules.specs.declared.fault.Rule.TheVariants as rules
use Rattle.c_rules.specs.declared.fault.Refusal.{Refusal}
use Rattle.c_rules.specs.declared.fault.Refusal.TheVariants as refusals
use Rattle.c_rules.specs.Answers.{Refuses}
use Rattle.c_rules.specs.Checked.{AreWhole, IsTyped, Breaks}
use Rattle.c_rules.specs.Counted.{AreCounted}
use Rattle.c_rules.specs.Faults.{Says, SaysOf, rule_fault, fault_of}
use Rattle.c_rules.specs.Visits.{broken_in}
use Rattle.c_rules.proofs.Walked.SourceWalked.{walk_finds}
use Rattle.c_rules.specs.Outcome.{Is}
use Rattle.c_rules.specs.Programs.{frame, function_tree, functions_with, program_tree, object_tree}
use Rattle.c_rules.specs.Units.{TypedFunction, File, typed_unit}
use Rattle.c_limits.specs.FunctionView.{frame_lists, typed_function_of}
use Rattle.c_types.specs.View.{file_of, made_of}
use Rattle.c_scopes.specs.c_names.Statics.{static_tree_of}
use Rattle.word_base.specs.Name.{IsName}
use Rattle.c_syntax.specs.Counts.{IsWithinLimits}
use Rattle.c_syntax.specs.FunctionNames.{function_names}
use Rattle.c_tree.specs.WellFormedProgram.{IsProgram}
use Rattle.c_rules.proofs.Formed.FormedSource.{well_formed_source}
use Rattle.c_types_proof.proofs.CountedSources.{sources_are_counted}

-- what a refusal of a node says of its source
broken_says : (unit : UnitTree) (rule : Rule) (at : ℕ) → Breaks unit rule at → Says unit (rule_fault rule at)
broken_says unit rules.Undeclared at broken = broken
broken_says unit rules.Redeclared at broken = broken
broken_says unit rules.Mismatch at broken = broken
broken_says unit rules.NotLvalue at broken = broken
broken_says unit rules.NotConstant at broken = broken
broken_says unit rules.LongConstant at broken = broken
broken_says unit rules.BadPort at broken = broken
broken_says unit rules.ArgCount at broken = broken
broken_says unit rules.Misplaced at broken = broken

pub refusal_says : (unit : UnitTree) (r : Refusal) → Refuses (typed_unit unit) r → Says unit (fault_of r)
refusal_says unit (refusals.Broken rule at) broken = broken_says unit rule at (walk_finds unit ∙ ap broken_in broken)
refusal_says unit refusals.NoMemory nothing = tt

-- what a fault says of functions it says of their source
says_of : (unit : UnitTree) (file : File) (f : TypeFault) → typed_unit unit ≡ Is file → SaysOf file.functions f → Says unit f
says_of unit file (faults.Undeclared at) typed known = absurd known
says_of unit file (faults.Redeclared at) typed known = absurd known
says_of unit file (faults.Mismatch at) typed known = absurd known
says_of unit file (faults.NotLvalue at) typed known = absurd known
says_of unit file (faults.NotConstant at) typed known = absurd known
says_of unit file (faults.LongConstant at) typed known = absurd known
says_of unit file (faults.BadPort at) typed known = absurd known
says_of unit file (faults.ArgCount at) typed known = absurd known
says_of unit file (faults.Misplaced at) typed known = absurd known
says_of unit file (faults.MissingMain at) typed known = record { file = file; typed = typed; holds = known }
says_of unit file (faults.MissingBody at) typed known = record { file = file; typed = typed; holds = known }
says_of unit file (faults.Recursion chain) typed known = record { file = file; typed = typed; holds = known }
says_of unit file (faults.Limit which count) typed known = record { file = file; typed = typed; holds = known }
says_of unit file faults.NoMemory typed known = known

-- where the functions are lent meanwhile
pub says_source : (unit : List External) {externals : List External} (file : files.File) {functions : List memory.TypedFunction} (f : TypeFault) → externals ≡ unit
    → typed_unit (unit_of externals) ≡ Is (file_of file) → functions ≡ file.functions.items → SaysOf (map typed_function_of functions) f → Says (unit_of unit) f
says_source unit file f same typed lent known =
    says_of (unit_of unit) (file_of file) f (sym (ap (λ u. typed_unit (unit_of u)) same) ∙ typed) (subst (λ fs. SaysOf (map typed_function_of fs) f) lent known)

-- what is counted of the functions, where they are lent meanwhile
pub functions_counted : (unit : List External) {externals : List External} (file : files.File) {functions : List memory.TypedFunction} → externals ≡ unit
    → typed_unit (unit_of externals) ≡ Is (file_of file) → functions ≡ file.functions.items → IsWithinLimits (unit_of unit)
    → AreCounted (map typed_function_of functions)
functions_counted unit file same typed lent limits =
    subst (λ fs. AreCounted (map typed_function_of fs)) (sym lent)
    (sources_are_counted (unit_of unit) (file_of file) limits (sym (ap (λ u. typed_unit (unit_of u)) same) ∙ typed))

-- functions with their own frames
own_frames : (fs : List TypedFunction) → functions_with (map frame fs) fs ≡ map function_tree fs
own_frames [] = refl
own_frames (f ∷ fs) = ap (λ rest. function_tree f ∷ rest) (own_frames fs)

pub made_is : (file : files.File) (frames : List (Vec VarRef Global)) → frame_lists frames ≡ map frame (map typed_function_of file.functions.items)
    → made_of frames (record { statics = file.statics; functions = file.functions }) ≡ program_tree (file_of file)
made_is file frames own =
    let functions = map typed_function_of file.functions.items
    in ap (λ fs. record { statics = map object_tree (map static_tree_of file.statics.items); functions = fs })
    (ap (λ l. functions_with l functions) own ∙ own_frames functions)

-- what is so of a program is so of one of the same parts
pub of_parts : (P : ProgramTree → Type 0) (made : ProgramTree) {statics : List ObjectTree} {functions : List FunctionTree} → statics ≡ made.statics
    → functions ≡ made.functions → P made → P (record { statics = statics; functions = functions })
of_parts P made {statics = statics} objects same holds =
    subst (λ fs. P (record { statics = statics; functions = fs })) (sym same)
    (subst (λ os. P (record { statics = os; functions = made.functions })) (sym objects) holds)

-- the typed program of a source
pub typed_source : (unit : List External) {externals : List External} (file : files.File) {functions : List memory.TypedFunction} (frames : List (Vec VarRef Global))
    {contents : Contents} (program : ProgramTree) → externals ≡ unit → typed_unit (unit_of externals) ≡ Is (file_of file) → functions ≡ file.functions.items
    → AreWhole (map typed_function_of functions) → frame_lists frames ≡ map frame (map typed_function_of functions)
    → contents ≡ record { statics = file.statics; functions = file.functions } → program ≡ made_of frames contents → IsTyped (unit_of unit) program
typed_source unit file frames program same typed lent whole own parts built = record {
  file = file_of file;
  typed = sym (ap (λ u. typed_unit (unit_of u)) same) ∙ typed;
  whole = subst (λ fs. AreWhole (map typed_function_of fs)) lent whole;
  tree = built ∙ ap (made_of frames) parts ∙ made_is file frames (own ∙ ap (λ fs. map frame (map typed_function_of fs)) lent);
}

-- the end of the loop over functions
no_functions : (frames : List (List VarRef)) → functions_with frames [] ≡ []
no_functions [] = refl
no_functions (numbers ∷ rest) = refl

pub all_functions : {made : List FunctionTree} (frames : List (List VarRef)) {left : List memory.TypedFunction} {whole : List FunctionTree} → left ≡ []
    → made ++ functions_with frames (map typed_function_of left) ≡ whole → made ≡ whole
all_functions {made = made} frames ended so_far =
    sym (append-nil made) ∙ ap (λ l. made ++ l) (sym (no_functions frames)) ∙ ap (λ l. made ++ functions_with frames (map typed_function_of l)) (sym ended) ∙ so_far

pub made_is_typed : (unit : List External) {externals : List External} (file : files.File) {functions : List memory.TypedFunction} (frames : List (Vec VarRef Global)) {contents : Contents}
    → externals ≡ unit → typed_unit (unit_of externals) ≡ Is (file_of file) → functions ≡ file.functions.items → AreWhole (map typed_function_of functions)
    → frame_lists frames ≡ map frame (map typed_function_of functions) → contents ≡ record { statics = file.statics; functions = file.functions }
    → IsTyped (unit_of unit) (made_of frames contents)
made_is_typed unit file frames {contents = contents} same typed lent whole own parts =
    typed_source unit file frames (made_of frames contents) same typed lent whole own parts refl

-- where the externals and the functions are lent meanwhile
pub made_is_formed : (unit : List External) {externals : List External} (file : files.File) {functions : List memory.TypedFunction} (frames : List (Vec VarRef Global)) {contents : Contents}
    → externals ≡ unit → typed_unit (unit_of externals) ≡ Is (file_of file) → functions ≡ file.functions.items → AreWhole (map typed_function_of functions)
    → frame_lists frames ≡ map frame (map typed_function_of functions) → contents ≡ record { statics = file.statics; functions = file.functions }
    → All IsName (function_names (unit_of unit)) → IsWithinLimits (unit_of unit) → IsProgram (made_of frames contents)
made_is_formed unit file frames same typed lent whole own parts named limits =
    subst IsProgram (sym (ap (made_of frames) parts ∙ made_is file frames (own ∙ ap (λ fs. map frame (map typed_function_of fs)) lent)))
    (well_formed_source (unit_of unit) (file_of file) (sym (ap (λ u. typed_unit (unit_of u)) same) ∙ typed)
    (subst (λ fs. AreWhole (map typed_function_of fs)) lent whole) named limits)
