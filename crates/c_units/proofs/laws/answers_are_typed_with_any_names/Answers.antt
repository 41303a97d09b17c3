use Rattle.c_units.specs.Statics.{static_name}
use Rattle.c_units.specs.Joining.{reserved_fault, undefined_fault, count_fault}
use Rattle.std.specs.Option.{option_or}
use Rattle.c_units.proofs.SpellingLemmas.{none_before}
use Rattle.c_units.proofs.FreshLemmas.{static_names_fresh}
use Rattle.c_units.proofs.ChoiceLemmas.{choices_agree}
use Rattle.c_units.proofs.laws.answers_are_typed_with_any_names.Goals as goal

pub returns : goal.returns
returns c = λ sources tokens others choice joins few fresh are.
    let clean = (none_before (reserved_fault 1 joins.files) (option_or (undefined_fault joins.files) (count_fault joins.files)) joins.no_fault).0 in
    let own = static_names_fresh sources joins.files few joins.are clean in (
      λ program has. choices_agree joins.files static_name choice tokens others program own fresh joins.joined are has,
      λ program has. choices_agree joins.files choice static_name others tokens program fresh own are joins.joined has,
    )
