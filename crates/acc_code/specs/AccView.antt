-- The items that accumulator code in memory stands for.
use Rattle.std.specs.Prelude.{List, [], ◌∷◌, map}
use Rattle.acc_code.specs.declared.item.AccItem as code
use Rattle.acc_code.specs.declared.item.AccItem.{AccItem, Row_of-AccItem, end_of-AccItem, more_of-AccItem}
use Rattle.acc_code.specs.declared.program.AccFunction.{AccFunction}
use Rattle.acc_code.specs.declared.program.AccProgram.{AccProgram}
use Rattle.acc_code.specs.AccTree.{Item, Op, If, Loop, Switch, Case, Clear, Call, Helper, Break, Continue, Return, ItemList, end, item, FunctionItems}

abbrev mutual
  pub item_of : AccItem → Item
  item_of (code.Op op m) = Op op m
  item_of (code.If' test a hit b miss) = If test (items_of hit) (items_of miss)
  item_of (code.Loop' a before b body c after last) = Loop (items_of before) (items_of body) (items_of after) last
  item_of (code.Switch' cases a body) = Switch cases.items (items_of body)
  item_of (code.Case n) = Case n
  item_of (code.Clear object from) = Clear object from
  item_of (code.Call f) = Call f
  item_of (code.Helper name) = Helper name
  item_of code.Break = Break
  item_of code.Continue = Continue
  item_of code.Return = Return

  pub items_of : {m : _} → Row_of-AccItem m → ItemList
  items_of end_of-AccItem = end
  items_of (more_of-AccItem x rest) = item (item_of x) (items_of rest)

-- a list of them
abbrev pub item_list : List AccItem → ItemList
item_list [] = end
item_list (x ∷ xs) = item (item_of x) (item_list xs)

abbrev pub function_items_of : AccFunction → FunctionItems
function_items_of f = record { name = f.name; scalars = f.scalars; body = item_list f.body }

abbrev pub functions_of : AccProgram → List FunctionItems
functions_of p = map function_items_of p.functions
