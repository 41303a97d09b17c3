-- Conditions of usable parts, and the code of an expression as far as all of it is usable.
use Rattle.std.proofs.Common.{ℕ, ◌<◌, Bool, true, false, arith}
use Rattle.std.specs.Prelude.{not}
use Rattle.acc_code.specs.AccTree.{ItemList}
use Rattle.acc_code.specs.declared.operand.AccOperand.{AccOperand}
use Rattle.acc_code.specs.declared.operation.Test.{Test}
use Rattle.acc_code.specs.declared.operation.Test.TheVariants.{Nz}
use Rattle.acc_select.specs.acc_operations.Kinds.{in_sense}
use Rattle.acc_select.specs.acc_operations.Words.{Word, in_accumulator}
use Rattle.acc_select.specs.acc_operations.declared.high_half.HighHalf.TheVariants.{Small}
use Rattle.acc_select.specs.Conditions as condition
use Rattle.acc_select.specs.Conditions.{Part, Branch, part_items, is_short, tested, truth_items, by_number, and_branch, or_branch}
use Rattle.acc_select.specs.Forms.{Code, of_word, of_branch}
use Rattle.emit_proof.specs.Addressed.{IsWordOperand}
use Rattle.image_proof.proofs.Usables.{Usable, nothing, plain, on_number, on_place, both, either, choice}
use Rattle.image_proof.proofs.UsableWords.{UsableWord, calculated, loaded_usable, load_clean_usable}

-- of a condition whose parts are usable
pub record UsableBranch (b : Branch) : Type 0 where
  pub at : (sense : Bool) (hit miss : Part) → Usable (part_items hit) → Usable (part_items miss) → Usable (b sense hit miss)

pub record UsableCode (c : Code) : Type 0 where
  pub word : UsableWord c.word
  pub branch : UsableBranch c.branch
  pub effect : Usable c.effect
  pub into : (m : AccOperand) → IsWordOperand m → Usable (c.into m)
  pub point : Usable c.point

-- numbers of truths
pub number_alone : (n : ℕ) → n < 65536 → Usable (condition.number n)
number_alone n lt = on_number lt nothing

one : Usable (part_items condition.One)
one = number_alone 1 (omega arith)

null : Usable (part_items condition.Null)
null = number_alone 0 (omega arith)

pub tested_usable : (t : Test) {xs : ItemList} → Usable xs → UsableBranch (tested xs t)
tested_usable t h = record { at = λ sense hit miss k l. both h (choice (in_sense sense t) k l) }

pub of_word_usable : (w : Word) → UsableWord w → UsableCode (of_word w)
of_word_usable w h = record {
  word = h;
  branch = tested_usable Nz (both h.items (load_clean_usable w.found h.found));
  effect = loaded_usable w h;
  into = λ m is. both (loaded_usable w h) (on_place is nothing);
  point = both (loaded_usable w h) (plain nothing);
}

pub of_branch_usable : (b : Branch) → UsableBranch b → UsableCode (of_branch b)
of_branch_usable b h =
    let made = of_word_usable (in_accumulator (truth_items b) Small) (calculated (h.at true condition.One condition.Null one null)) in
    record { word = made.word; branch = h; effect = h.at true condition.Nothing condition.Nothing nothing nothing; into = made.into; point = made.point }

-- conditions of two
by_number_usable : {xs : ItemList} (sense : Bool) (hit miss : Part) → Usable xs → Usable (part_items hit) → Usable (part_items miss) → Usable (by_number xs sense hit miss)
by_number_usable sense hit miss h k l = (tested_usable Nz h).at sense hit miss k l

module _ (a b : Branch) (h : UsableBranch a) (k : UsableBranch b) where
  -- the number of both, or of either
  second_number : Usable (b true condition.One condition.Null)
  second_number = k.at true condition.One condition.Null one null

  both_number : Usable (a true (condition.Runs (b true condition.One condition.Null)) condition.Null)
  both_number = h.at true (condition.Runs (b true condition.One condition.Null)) condition.Null second_number null

  either_number : Usable (a true condition.One (condition.Runs (b true condition.One condition.Null)))
  either_number = h.at true condition.One (condition.Runs (b true condition.One condition.Null)) one second_number

  -- the second condition in the first part, or in the second one
  in_hit : (sense : Bool) (hit miss : Part) → Usable (part_items hit) → Usable (part_items miss) → Usable (a sense (condition.Runs (b sense hit miss)) miss)
  in_hit sense hit miss x y = h.at sense (condition.Runs (b sense hit miss)) miss (k.at sense hit miss x y) y

  in_miss : (sense : Bool) (hit miss : Part) → Usable (part_items hit) → Usable (part_items miss) → Usable (a sense hit (condition.Runs (b sense hit miss)))
  in_miss sense hit miss x y = h.at sense hit (condition.Runs (b sense hit miss)) x (k.at sense hit miss x y)

  pub and_usable : UsableBranch (and_branch a b)
  and_usable = record { at = at_sense }
    where
      at_sense : (sense : Bool) (hit miss : Part) → Usable (part_items hit) → Usable (part_items miss) → Usable (and_branch a b sense hit miss)
      at_sense true hit miss x y = either (is_short miss) (in_hit true hit miss x y) (by_number_usable true hit miss both_number x y)
      at_sense false hit miss x y = either (is_short hit) (in_miss false hit miss x y) (by_number_usable false hit miss both_number x y)

  pub or_usable : UsableBranch (or_branch a b)
  or_usable = record { at = at_sense }
    where
      at_sense : (sense : Bool) (hit miss : Part) → Usable (part_items hit) → Usable (part_items miss) → Usable (or_branch a b sense hit miss)
      at_sense true hit miss x y = either (is_short hit) (in_miss true hit miss x y) (by_number_usable true hit miss either_number x y)
      at_sense false hit miss x y = either (is_short miss) (in_hit false hit miss x y) (by_number_usable false hit miss either_number x y)

pub not_usable : (b : Branch) → UsableBranch b → UsableBranch (condition.negated b)
not_usable b h = record { at = λ sense hit miss k l. h.at (not sense) hit miss k l }
