-- The part that one in memory stands for.
use Rattle.acc_code.specs.AccView.{item_list}
use Rattle.acc_select.specs.Conditions as condition
use Rattle.acc_select.specs.declared.part.Part.TheVariants as part
use Rattle.acc_select.specs.declared.part.Part.{Part}
use Rattle.acc_select.specs.declared.part.ShortPart.{ShortPart}
use Rattle.acc_select.specs.declared.part.ShortPart.TheVariants as short

abbrev pub short_part_of : ShortPart → condition.Part
short_part_of short.Nothing = condition.Nothing
short_part_of short.One = condition.One
short_part_of short.Null = condition.Null
short_part_of short.Break = condition.Breaks
short_part_of short.Continue = condition.Continues

abbrev pub part_of : Part → condition.Part
part_of (part.Short s) = short_part_of s
part_of (part.Runs list) = condition.Runs (item_list list.items)
