-- Programs: what a word tree keeps of its run when its items run.
use Rattle.std.proofs.Common.{◌≡◌, ℕ, ◌≤◌, true, [], length, Option, Some, None, refl, sym, ap, subst, arith}
use Rattle.std.specs.Prelude.{slice_get, option_map}
use Rattle.std.proofs.lemmas.Option.{slice_get-map}
use Rattle.word_base.specs.declared.outcome.Ending.{Ending}
use Rattle.word_base.specs.declared.outcome.Ending.TheVariants as ending
use Rattle.word_base.specs.Ports.{Input, IsInput, Outputs, Prefix}
use Rattle.tree_code.specs.WellFormedCode.{IsCode}
use Rattle.tree_code.specs.WordTree.{FunctionCode, ProgramCode}
use Rattle.acc_select.specs.Selected.{is_main, selected, selected_function}
use Rattle.ir_semantics.specs.Keeps as run
use Rattle.ir_semantics.specs.Keeps.{WorkOutcome, Ended, More, Undefined, outputs_of, word_or_zero, tree_outcome, returned_with, acc_outcome, tree_run, acc_run}
use Rattle.ir_semantics.specs.Parts.{Res, Gives, Finished, TooMany, Fails, Does, Flow, Next, Broke, Continued, Returned}
use Rattle.ir_semantics.specs.Outside.{Outside, no_words, first_outside, Places}
use Rattle.ir_semantics.specs.TreeRun as tree
use Rattle.ir_semantics.specs.TreeRun.{Tree, main_from}
use Rattle.ir_semantics.specs.AccRows.{Gone, low_half}
use Rattle.ir_semantics.specs.AccRun as acc
use Rattle.ir_semantics.specs.AccRun.{Machine}
use Rattle.acc_select_proof.proofs.Rules.{Rel, AtEnd, outs_of, calls_grow}
use Rattle.acc_select_proof.proofs.Sides.{Side}
use Rattle.acc_select_proof.proofs.Starting.{StartsWithWords, first_words}
use Rattle.acc_select_proof.proofs.Mains.{MainTakesNothing, main_named, main_takes_nothing}
use Rattle.acc_select_proof.proofs.Returning.{ReturnsValues, always_gives}
use Rattle.acc_select_proof.proofs.Functions.{BodyKeeps, BodiesKeep, CallPost, called_keeps, calls_keep, parameters_in}

-- two outcomes
abbrev EndsSo : WorkOutcome → WorkOutcome → Type 0
EndsSo y (Ended outs ending work) = (less : ℕ) × (less ≤ work) × (y ≡ Ended outs ending less)
EndsSo y (More outs) = Unit {0}
EndsSo y (Undefined outs) = Unit {0}

both_ended : (outs : Outputs) (e : Ending) (k less : ℕ) → less ≤ k → run.Keeps (Ended outs e k) (Ended outs e less)
both_ended outs e k less le = record {
  ended = λ o x work is. subst (EndsSo (Ended outs e less)) is (less, le, refl);
  more = λ o is. absurd cc;
  prefix = λ o is. absurd cc;
}

both_more : (outs : Outputs) → run.Keeps (More outs) (More outs)
both_more outs = record { ended = λ o x work is. absurd cc; more = λ o is. is; prefix = λ o is. absurd cc }

undefined : (outs : Outputs) (y : WorkOutcome) → Prefix outs (outputs_of y) → run.Keeps (Undefined outs) y
undefined outs y p = record { ended = λ o x work is. absurd cc; more = λ o is. absurd cc; prefix = λ o is. subst (λ z. Prefix (outputs_of z) (outputs_of y)) is p }

returned_outs : (x : Option ℕ) (v : Machine) → v.outside.outs ≡ outputs_of (returned_with x v)
returned_outs None v = refl
returned_outs (Some x) v = refl

outs_are : (y : Res Machine Flow) → outs_of y ≡ outputs_of (acc_outcome y)
outs_are (Gives flow v) = returned_outs (low_half v.registers.acc) v
outs_are (Finished e o k) = refl
outs_are (TooMany o) = refl
outs_are (Fails o) = refl

word_there : (r : Option ℕ) (base s : ℕ) (w : Tree) (v : Machine) → CallPost true base [] s r w v → low_half v.registers.acc ≡ Some (word_or_zero r)
word_there None base s w v h = h.none refl refl
word_there (Some x) base s w v h = (h.result x refl).0

outcomes : (base s : ℕ) (x : Res Tree (Option ℕ)) (y : Res Machine Flow) → Rel (AtEnd (CallPost true base [] s)) x y → run.Keeps (tree_outcome x) (acc_outcome y)
outcomes base s (Gives r w) (Gives Next v) h =
    let le = h.side.work in
    subst (λ z. run.Keeps (tree_outcome (Gives r w)) (returned_with z v)) (sym (word_there r base s w v h))
    (subst (λ (o : Outside). run.Keeps (Ended w.outside.outs (ending.Returned (word_or_zero r)) w.work) (Ended o.outs (ending.Returned (word_or_zero r)) v.work)) (sym h.side.outside)
    (both_ended w.outside.outs (ending.Returned (word_or_zero r)) w.work v.work (omega (arith, le))))
outcomes base s (Gives r w) (Gives Broke v) h = absurd h
outcomes base s (Gives r w) (Gives Continued v) h = absurd h
outcomes base s (Gives r w) (Gives Returned v) h = absurd h
outcomes base s (Gives r w) (Finished p o k) h = absurd h
outcomes base s (Gives r w) (TooMany o) h = absurd h
outcomes base s (Gives r w) (Fails o) h = absurd h
outcomes base s (Finished p o k) (Gives flow v) h = absurd h
outcomes base s (Finished p o k) (Finished p2 o2 k2) h = subst (λ e. run.Keeps (Ended o p k) (Ended o2 e k2)) h.0 (subst (λ z. run.Keeps (Ended o p k) (Ended z p k2)) h.1 (both_ended o p k k2 h.2))
outcomes base s (Finished p o k) (TooMany o2) h = absurd h
outcomes base s (Finished p o k) (Fails o2) h = absurd h
outcomes base s (TooMany o) (Gives flow v) h = absurd h
outcomes base s (TooMany o) (Finished p o2 k) h = absurd h
outcomes base s (TooMany o) (TooMany o2) h = subst (λ z. run.Keeps (More o) (More z)) h (both_more o)
outcomes base s (TooMany o) (Fails o2) h = absurd h
outcomes base s (Fails o) y h = undefined o (acc_outcome y) (subst (Prefix o) (outs_are y) h)

module _ (q : Places) (p : ProgramCode) (input : Input) (n : ℕ) (bodies : BodiesKeep q p.functions n) (alone : MainTakesNothing p.functions) (starts : StartsWithWords p.statics) (is_input : IsInput input) where
  abbrev first_tree : Tree
  first_tree = record { frame = no_words; result = None; outside = first_outside q p.statics input; work = 0 }

  abbrev first_machine : Machine
  first_machine = record {
    registers = record { acc = Gone; t = None; p = None; sxm = Some true; pointed = None };
    frame = no_words;
    scratch = no_words;
    given_to = 0;
    given = no_words;
    outside = first_outside q p.statics input;
    work = 0;
  }

  begins : Side 0 [] 0 first_tree first_machine
  begins = record { frame = λ k x lt e. absurd cc; scalars = λ k x e. absurd cc; temps = tt; outside = refl; words = first_words q p.statics input starts is_input; sxm = refl; work = omega arith }

  abbrev tree_calls : tree.Calls
  tree_calls = tree.call_within q p.functions n (length p.functions)

  abbrev machine_calls : ℕ → Does Machine Flow
  machine_calls = acc.call_within q p.functions (selected p) n (length p.functions)

  main_keeps : (slot : Option FunctionCode) → slice_get p.functions (main_from 0 p.functions) ≡ slot
      → run.Keeps (tree_outcome (tree.called tree_calls q n (main_from 0 p.functions) slot [] first_tree)) (acc_outcome (acc.called machine_calls q n (main_from 0 p.functions) slot (option_map selected_function slot) first_machine))
  main_keeps None is = both_more []
  main_keeps (Some g) is =
      let f = main_from 0 p.functions in
      let named : is_main g.name ≡ true = main_named p.functions 0 f g is (omega arith) in
      outcomes 0 0 (tree.called tree_calls q n f (Some g) [] first_tree) (acc.called machine_calls q n f (Some g) (Some (selected_function g)) first_machine)
      (subst (λ b. Rel (AtEnd (CallPost b 0 [] 0)) (tree.called tree_calls q n f (Some g) [] first_tree) (acc.called machine_calls q n f (Some g) (Some (selected_function g)) first_machine)) named
      (called_keeps q n (parameters_in q p.functions n) tree_calls machine_calls (calls_grow q p.functions (selected p) n (length p.functions)) (calls_keep q p.functions n bodies (length p.functions)) f g (bodies.bodies f g is) (bodies.main_gives f g is)
      0 [] [] 0 first_tree first_machine (ap length (alone g is)) tt tt begins))

  -- selection keeps the run of a program
  pub program_keeps : run.Keeps (tree_run q p input n) (acc_run q p (selected p) input n)
  program_keeps =
      subst (λ slot. run.Keeps (tree_run q p input n) (acc_outcome (acc.called machine_calls q n (main_from 0 p.functions) (slice_get p.functions (main_from 0 p.functions)) slot first_machine))) (sym (slice_get-map selected_function p.functions (main_from 0 p.functions)))
      (main_keeps (slice_get p.functions (main_from 0 p.functions)) refl)

-- what selection keeps is asked of: a well-formed program whose bodies keep, whose main returns a value wherever it returns, and whose static
-- objects start with words
pub record IsKept (q : Places) (p : ProgramCode) (n : ℕ) : Type 0 where
  pub code : IsCode p
  pub starts : StartsWithWords p.statics
  pub main_returns : (f : ℕ) (g : FunctionCode) → slice_get p.functions f ≡ Some g → is_main g.name ≡ true → ReturnsValues g.body
  pub bodies : (f : ℕ) (g : FunctionCode) → slice_get p.functions f ≡ Some g → BodyKeeps q n (parameters_in q p.functions n) f g

pub selection_keeps : (q : Places) (p : ProgramCode) (input : Input) (n : ℕ) → IsKept q p n → IsInput input → run.Keeps (tree_run q p input n) (acc_run q p (selected p) input n)
selection_keeps q p input n k is =
    program_keeps q p input n (record { bodies = k.bodies; main_gives = λ f g at named. always_gives q n f g (k.main_returns f g at named) }) (main_takes_nothing p k.code) k.starts is
