-- Conditions: items that run one of two parts.
use Rattle.std.specs.Prelude.{ℕ, Bool, true, false, not, if◌then◌else◌}
use Rattle.acc_code.specs.declared.operand.AccOperand.TheVariants as operand
use Rattle.acc_code.specs.declared.operation.AccOp.TheVariants as row
use Rattle.acc_code.specs.declared.operation.Test.{Test}
use Rattle.acc_code.specs.declared.operation.Test.TheVariants.{Nz}
use Rattle.acc_code.specs.AccTree.{Op, If, Break, Continue, ItemList, end, ◌▸◌, ◌⧺◌}
use Rattle.acc_operations.specs.Comparisons.{Compared}
use Rattle.acc_operations.specs.Kinds.{in_sense}
use Rattle.acc_operations.specs.Words.{Word, load_clean}

-- what is done where a condition holds, or where it doesn't: nothing; a number, 1 or 0, is loaded; a jump; or other items
pub data Part : Type 0 where
  Nothing : Part
  One : Part
  Null : Part
  Breaks : Part
  Continues : Part
  Runs : ItemList → Part

abbrev pub number : ℕ → ItemList
number n = Op row.Lack (operand.Number n) ▸ end

abbrev pub part_items : Part → ItemList
part_items Nothing = end
part_items One = number 1
part_items Null = number 0
part_items Breaks = Break ▸ end
part_items Continues = Continue ▸ end
part_items (Runs items) = items

-- whether a part is short enough to stand twice
abbrev pub is_short : Part → Bool
is_short Nothing = true
is_short One = true
is_short Null = true
is_short Breaks = true
is_short Continues = true
is_short (Runs items) = false

-- the items that run the first part where the truth is of this sense, else the second one. Those of the first one stand first
abbrev pub Branch : Type 0
Branch = Bool → Part → Part → ItemList

abbrev pub tested : ItemList → Test → Branch
tested items t sense hit miss = items ⧺ If (in_sense sense t) (part_items hit) (part_items miss) ▸ end

abbrev pub by_comparison : Compared → Branch
by_comparison c = tested c.items c.test

-- a word in the accumulator, all of which is 0 where the word is
abbrev pub clean_items : Word → ItemList
clean_items w = w.items ⧺ load_clean w.found

abbrev pub by_word : Word → Branch
by_word w = tested (clean_items w) Nz

abbrev pub negated : Branch → Branch
negated b = λ sense. b (not sense)

-- as a number, 1 where it holds and else 0
abbrev pub truth_items : Branch → ItemList
truth_items b = b true One Null

-- two conditions, of which the second one is asked only where the first one has the sense: then the first part needs both, and the second
-- part stands twice
abbrev pub where_both : Bool → Branch → Branch → Part → Part → ItemList
where_both sense a b hit miss = a sense (Runs (b sense hit miss)) miss

-- the second one is asked only where the first one doesn't: then one of them will do for the first part, which stands twice
abbrev pub where_either : Bool → Branch → Branch → Part → Part → ItemList
where_either sense a b hit miss = a sense hit (Runs (b sense hit miss))

-- by its number, where a part is too long to stand twice
abbrev pub by_number : ItemList → Branch
by_number items = tested items Nz

-- the number of two truths: of both, or of either
abbrev pub joined : Bool → Branch → Branch → ItemList
joined true a b = where_both true a b One Null
joined false a b = where_either true a b One Null

abbrev pub needs_both : Branch → Branch → Branch
needs_both a b sense hit miss =
    if is_short miss then where_both sense a b hit miss else by_number (joined sense a b) sense hit miss

abbrev pub needs_either : Branch → Branch → Branch
needs_either a b sense hit miss =
    if is_short hit then where_either sense a b hit miss else by_number (joined (not sense) a b) sense hit miss

abbrev pub and_branch : Branch → Branch → Branch
and_branch a b true = needs_both a b true
and_branch a b false = needs_either a b false

abbrev pub or_branch : Branch → Branch → Branch
or_branch a b true = needs_either a b true
or_branch a b false = needs_both a b false
