-- At most one typed program, and no fault beside it.
use Rattle.std.proofs.Common.{◌≡◌, ◌∙◌, sym, refl, ap, subst, ℕ, List, Some, None, true≢false}
use Rattle.c_tree.specs.c_syntax.SyntaxTree.{UnitTree}
use Rattle.c_tree.specs.TypedTree.{ProgramTree}
use Rattle.c_rules.specs.declared.fault.LimitName.{LimitName}
use Rattle.c_rules.specs.declared.fault.LimitName.TheVariants as limit
use Rattle.c_rules.specs.declared.fault.Rule.{Rule}
use Rattle.c_rules.specs.declared.fault.TypeFault.{TypeFault}
use Rattle.c_rules.specs.declared.fault.TypeFault.TheVariants as faults
use Rattle.c_rules.specs.Outcome.{Outcome, Is}
use Rattle.c_rules.specs.Checked.{AreWhole, IsTyped, Breaks, Holds}
use Rattle.c_rules.specs.Faults.{Says, SaysOf}
use Rattle.c_rules.specs.Programs.{program_tree}
use Rattle.c_rules.specs.Units.{TypedFunction, File, typed_unit}
use Rattle.c_rules.specs.Visits.{broken_in}
use Rattle.c_rules.specs.Whole.{passed, IsPassed}
use Rattle.c_rules.proofs.Walked.SourceWalked.{walk_finds}

pub one_file : (o : Outcome File) (a b : File) → o ≡ Is a → o ≡ Is b → a ≡ b
one_file o a b first second = let same : Is a ≡ Is b = sym first ∙ second in cc same

pub one_program : (unit : UnitTree) (a b : ProgramTree) → IsTyped unit a → IsTyped unit b → a ≡ b
one_program unit a b first second = first.tree ∙ ap program_tree (one_file (typed_unit unit) first.file second.file first.typed second.typed) ∙ sym second.tree

-- a source that breaks a rule isn't typed
pub broken_or_typed : {A : Type 0} (unit : UnitTree) (rule : Rule) (at : ℕ) (file : File) → Breaks unit rule at → typed_unit unit ≡ Is file → A
broken_or_typed unit rule at file broken typed = absurd (cc (sym broken ∙ walk_finds unit ∙ ap broken_in typed))

no_rule : {rule : Rule} {at : ℕ} (unit : UnitTree) (program : ProgramTree) (fault : TypeFault) → IsTyped unit program → Breaks unit rule at → fault ≡ faults.NoMemory
no_rule {rule = rule} {at = at} unit program fault typed broken = broken_or_typed unit rule at typed.file broken typed.typed

none_passed : (fs : List TypedFunction) (which : LimitName) (n : ℕ) → ((name : LimitName) → passed name fs ≡ None) → IsPassed fs which n → Some n ≡ None
none_passed fs limit.Functions n limits is = sym is ∙ limits limit.Functions
none_passed fs limit.Parameters n limits is = sym is.1 ∙ limits limit.Parameters
none_passed fs limit.Scalars n limits is = sym is.2 ∙ limits limit.Scalars
none_passed fs limit.Cases n limits is = sym is.3 ∙ limits limit.Cases

-- what is said of the functions of a whole source
of_whole : (fs : List TypedFunction) (fault : TypeFault) → AreWhole fs → SaysOf fs fault → fault ≡ faults.NoMemory
of_whole fs (faults.Undeclared at) whole says = absurd says
of_whole fs (faults.Redeclared at) whole says = absurd says
of_whole fs (faults.Mismatch at) whole says = absurd says
of_whole fs (faults.NotLvalue at) whole says = absurd says
of_whole fs (faults.NotConstant at) whole says = absurd says
of_whole fs (faults.LongConstant at) whole says = absurd says
of_whole fs (faults.BadPort at) whole says = absurd says
of_whole fs (faults.ArgCount at) whole says = absurd says
of_whole fs (faults.Misplaced at) whole says = absurd says
of_whole fs (faults.MissingMain at) whole says = absurd (true≢false (sym whole.main ∙ says.0))
of_whole fs (faults.MissingBody at) whole says = let same : Some at ≡ None = sym says.first ∙ whole.bodies in absurd (cc same)
of_whole fs (faults.Recursion chain) whole says = absurd (whole.no_cycle says.is_chain.number says.is_chain.over says.is_chain.is_first.round)
of_whole fs (faults.Limit which count) whole says = let same : Some count ≡ None = none_passed fs which count whole.limits says.passed in absurd (cc same)
of_whole fs faults.NoMemory whole says = refl

held : (unit : UnitTree) (program : ProgramTree) (fault : TypeFault) → IsTyped unit program → Holds unit (λ fs. SaysOf fs fault) → fault ≡ faults.NoMemory
held unit program fault typed says =
    of_whole typed.file.functions fault typed.whole
    (subst (λ f. SaysOf f.functions fault) (one_file (typed_unit unit) says.file typed.file says.typed typed.typed) says.holds)

pub accepted : (unit : UnitTree) (program : ProgramTree) (fault : TypeFault) → IsTyped unit program → Says unit fault → fault ≡ faults.NoMemory
accepted unit program (faults.Undeclared at) typed says = no_rule unit program _ typed says
accepted unit program (faults.Redeclared at) typed says = no_rule unit program _ typed says
accepted unit program (faults.Mismatch at) typed says = no_rule unit program _ typed says
accepted unit program (faults.NotLvalue at) typed says = no_rule unit program _ typed says
accepted unit program (faults.NotConstant at) typed says = no_rule unit program _ typed says
accepted unit program (faults.LongConstant at) typed says = no_rule unit program _ typed says
accepted unit program (faults.BadPort at) typed says = no_rule unit program _ typed says
accepted unit program (faults.ArgCount at) typed says = no_rule unit program _ typed says
accepted unit program (faults.Misplaced at) typed says = no_rule unit program _ typed says
accepted unit program (faults.MissingMain at) typed says = held unit program (faults.MissingMain at) typed says
accepted unit program (faults.MissingBody at) typed says = held unit program (faults.MissingBody at) typed says
accepted unit program (faults.Recursion chain) typed says = held unit program (faults.Recursion chain) typed says
accepted unit program (faults.Limit which count) typed says = held unit program (faults.Limit which count) typed says
accepted unit program faults.NoMemory typed says = refl
