-- What runs come to, and what a translation keeps of them: the outputs and the ending with at most as much work, that a run goes on, and the
-- outputs before what is undefined.
use Rattle.std.specs.Prelude.{◌≡◌, ℕ, ◌≤◌, true, List, Option, Some, None}
use Rattle.word_base.specs.declared.outcome.Ending.{Ending}
use Rattle.word_base.specs.declared.outcome.Ending.TheVariants.{Returned}
use Rattle.word_base.specs.Ports.{Input, Outputs, Prefix}
use Rattle.tree_code.specs.WordTree.{ProgramCode}
use Rattle.acc_code.specs.AccTree.{FunctionItems}
use Rattle.ir_semantics.specs.Parts.{Res, Gives, Finished, TooMany, Fails, Flow}
use Rattle.ir_semantics.specs.Outside.{Places, no_words, first_outside}
use Rattle.ir_semantics.specs.TreeRun.{Tree, run_tree}
use Rattle.ir_semantics.specs.AccRows.{Gone, low_half}
use Rattle.ir_semantics.specs.AccRun.{Machine, run_items}
pub use Rattle.ir_semantics.specs.WorkOutcomes.{WorkOutcome, Ended, More, Undefined, outputs_of}

-- a `main` that ended without a value returns 0
abbrev pub word_or_zero : Option ℕ → ℕ
word_or_zero None = 0
word_or_zero (Some x) = x

abbrev pub tree_outcome : Res Tree (Option ℕ) → WorkOutcome
tree_outcome (Gives x w) = Ended w.outside.outs (Returned (word_or_zero x)) w.work
tree_outcome (Finished ending outs work) = Ended outs ending work
tree_outcome (TooMany outs) = More outs
tree_outcome (Fails outs) = Undefined outs

abbrev pub returned_with : Option ℕ → Machine → WorkOutcome
returned_with None v = Undefined v.outside.outs
returned_with (Some x) v = Ended v.outside.outs (Returned x) v.work

abbrev pub acc_outcome : Res Machine Flow → WorkOutcome
acc_outcome (Gives flow v) = returned_with (low_half v.registers.acc) v
acc_outcome (Finished ending outs work) = Ended outs ending work
acc_outcome (TooMany outs) = More outs
acc_outcome (Fails outs) = Undefined outs

-- the run of a word tree with its objects at these places, on an input, where each execution of each loop makes at most n turns
abbrev pub tree_run : Places → ProgramCode → Input → ℕ → WorkOutcome
tree_run q p input n = tree_outcome (run_tree q p n (record { frame = no_words; result = None; outside = first_outside q p.statics input; work = 0 }))

-- the run of accumulator code of such a program: SXM is 1 at first, and nothing else is known
abbrev pub acc_run : Places → ProgramCode → List FunctionItems → Input → ℕ → WorkOutcome
acc_run q p gs input n = acc_outcome (run_items q p gs n (record {
  registers = record { acc = Gone; t = None; p = None; sxm = Some true; pointed = None };
  frame = no_words;
  scratch = no_words;
  given_to = 0;
  given = no_words;
  outside = first_outside q p.statics input;
  work = 0;
}))

pub record Keeps (x y : WorkOutcome) : Type 0 where
  pub ended : (outs : Outputs) (ending : Ending) (work : ℕ) → x ≡ Ended outs ending work → (less : ℕ) × (less ≤ work) × (y ≡ Ended outs ending less)
  pub more : (outs : Outputs) → x ≡ More outs → y ≡ More outs
  pub prefix : (outs : Outputs) → x ≡ Undefined outs → Prefix outs (outputs_of y)
