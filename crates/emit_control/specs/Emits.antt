-- Code in memory, and what goes on to it (docs/TRANSLATION.md, "Labels").
use Rattle.std.specs.Prelude.{⊤, ℕ, ◌+◌, ◌≡◌, Bool, true, false, if◌then◌else◌, ◌==◌, List, [], ◌∷◌, ◌++◌, length, Option, Some, None}
use Rattle.c25_isa.specs.declared.piece.PieceItem.{PieceItem}
use Rattle.c25_isa.specs.Items.{ItemsFit}
use Rattle.c25_isa.specs.declared.instruction.JumpOp.TheVariants.{Bz}
use Rattle.c25_code.specs.Items.{plain_items}
use Rattle.acc_code.specs.declared.item.CaseLabel.{CaseLabel}
use Rattle.acc_code.specs.declared.item.CaseLabel.TheVariants.{Value, Default}
use Rattle.acc_code.specs.declared.operand.AccOperand.{AccOperand}
use Rattle.acc_code.specs.declared.operation.Test.{Test}
use Rattle.acc_code.specs.AccTree.{Item, Op, If, Loop, Switch, Case, Clear, Call, Helper, Break, Continue, Return, ItemList, end, item}
use Rattle.acc_code.specs.Emittable.{Throughout}
use Rattle.emit_blocks.specs.Right.{IsRight}
use Rattle.emit_blocks.specs.Steps.{Operation, operation}
use Rattle.emit_control.specs.declared.code.Code.{Code}
use Rattle.emit_control.specs.declared.ending.Ending.{Ending}
use Rattle.emit_control.specs.declared.ending.Ending.TheVariants.{Label, Jump, Plain}
use Rattle.emit_control.specs.declared.state.Before.{Before}
use Rattle.emit_control.specs.declared.ways.Spot.{Spot}
use Rattle.emit_control.specs.declared.ways.Ways.{Ways}
use Rattle.emit_control.specs.Entries.{Entry, Place, Branch, Goto, Dispatch, CallTo, CallHelper, Wipe, Ret}
use Rattle.emit_control.specs.Flow.{Part, to, goto, opposite, target, labels, if_code, loop_code, loop_end, is_end, emit, first_ways, turn_ways, third_ways, switch_ways}
use Rattle.emit_control.specs.Cuts.{State, entry_items, behind_entry, cut, behind_run, has_access, less_by, jump_item, case_items, naming_cases}
use Rattle.emit_control.specs.Marked.{names_of}
use Rattle.emit_control.specs.Settings.{Setting}

-- an operation whose row takes its operand
abbrev pub IsRightItem : Item → Type 0
IsRightItem (Op o m) = IsRight (operation o m)
IsRightItem x = ⊤

-- items are appended whose operands are in their ranges
pub record Puts (old more new : List PieceItem) : Type 0 where
  pub items : new ≡ old ++ more
  pub fits : ItemsFit old → ItemsFit new

abbrev pub state_of : Code → State
state_of c = record { before = c.before; named = names_of c.named }

module _ (m : Setting) where
  -- an entry is appended
  pub record Adds (old : Code) (e : Entry) (new : Code) : Type 0 where
    pub puts : Puts old.items.items (entry_items m (state_of old) e) new.items.items
    pub state : state_of new ≡ behind_entry m (state_of old) e

  -- code before entries
  abbrev pub before_entries : Code → List Entry → List PieceItem
  before_entries c es = c.items.items ++ cut m (state_of c) es

  -- what stands for code before one list of entries stands for it before another one
  pub record Emits (old : Code) (part : List Entry → List Entry) (new : Code) : Type 0 where
    pub items : (rest : List Entry) → before_entries old (part rest) ≡ before_entries new rest
    pub fits : ItemsFit old.items.items → ItemsFit new.items.items

-- the jump of one case, and what is taken away behind it
abbrev pub case_code : CaseLabel → ℕ → ℕ → List PieceItem
case_code (Value v) l before = plain_items (less_by before v) ++ jump_item Bz l ∷ []
case_code Default l before = []

abbrev pub taken_behind : CaseLabel → ℕ → ℕ
taken_behind (Value v) before = v
taken_behind Default before = before

-- what stands for code before some cases stands for it before others, each from a label on, and with a number taken away
pub record CasesGoOn (old : Code) (cs : List CaseLabel) (l n : ℕ) (new : Code) (ds : List CaseLabel) (k p : ℕ) : Type 0 where
  pub items : old.items.items ++ case_items cs l n ≡ new.items.items ++ case_items ds k p
  pub state : naming_cases cs l (state_of old) ≡ naming_cases ds k (state_of new)
  pub fits : ItemsFit old.items.items → ItemsFit new.items.items

-- behind the operations of a run
abbrev pub behind_operations : List Operation → Before → Before
behind_operations [] b = b
behind_operations (o ∷ os) b = behind_run (has_access (o ∷ os)) b

-- the operand of an item that is an operation
abbrev pub operand_of : Item → Option AccOperand
operand_of (Op o m) = Some m
operand_of x = None

-- to one of two labels, where the second one may be placed next
abbrev pub jumps : Test → ℕ → ℕ → ℕ → List Entry → List Entry
jumps t a b next rest = if a == next then Branch (opposite t) b ∷ rest else Branch t a ∷ goto b next rest

-- an If, a Loop and a Switch, before what stands behind them
abbrev pub if_part : Test → ItemList → ItemList → Ways → ℕ → Part
if_part t hit miss w base next rest =
    if_code t (target w hit) (target w miss) (emit hit [] w (base + 2)) (emit miss [] w (base + 2 + labels hit)) (base + 1) next rest

abbrev pub both_parts : Test → ItemList → ItemList → Ways → ℕ → Part
both_parts t hit miss w base next rest =
    Branch (opposite t) (base + 1) ∷ emit hit [] w (base + 2) (base + 1) (Place (base + 1) ∷ emit miss [] w (base + 2 + labels hit) next rest)

abbrev pub loop_part : ItemList → ItemList → ItemList → Ways → ℕ → Part
loop_part before body third w base next rest =
    loop_code (is_end third) (base + 1) (base + 2) (base + 3)
    (emit before [] (first_ways third base w) (base + 4))
    (emit body [] (turn_ways third base w) (base + 4 + labels before))
    (emit third [] (third_ways base w) (base + 4 + labels before + labels body))
    next rest

-- the third part of a loop, from a label on, and the loop's end
abbrev pub end_part : ItemList → ℕ → Spot → List Entry → List Entry
end_part third base s rest = loop_end (is_end third) (s.base + 1) (s.base + 3) (emit third [] (third_ways s.base s.ways) base) s.next rest

abbrev pub switch_part : List CaseLabel → ItemList → Ways → ℕ → Part
switch_part cases body w base next rest = Dispatch cases (base + 1) w.onward ∷ emit body [] (switch_ways base w) (base + 1 + length cases) next rest

-- an item that is no operation, before what stands behind it
abbrev pub item_code : Item → Ways → ℕ → Part
item_code (Op o m) w base next rest = rest
item_code (If t hit miss) w base next rest = if_part t hit miss w base next rest
item_code (Loop before body third last) w base next rest = loop_part before body third w base next rest
item_code (Switch cases body) w base next rest = switch_part cases body w base next rest
item_code (Case n) w base next rest = Place (w.cases + n) ∷ rest
item_code (Clear v from) w base next rest = Wipe v from base ∷ rest
item_code (Call f) w base next rest = CallTo f ∷ rest
item_code (Helper name) w base next rest = CallHelper name ∷ rest
item_code Break w base next rest = Goto w.broken ∷ rest
item_code Continue w base next rest = Goto w.continued ∷ rest
item_code Return w base next rest = Ret ∷ rest

-- an item that is none of these three
abbrev pub HasNoParts : Item → Type 0
HasNoParts (If t hit miss) = ⊥
HasNoParts (Loop before body third last) = ⊥
HasNoParts (Switch cases body) = ⊥
HasNoParts x = ⊤

-- the label to which a list leads at once that begins with an item
abbrev pub item_target : Ways → Item → Option ℕ
item_target w Break = Some w.broken
item_target w Continue = Some w.continued
item_target w x = None

-- where the body of a function stands
abbrev pub body_spot : Spot
body_spot = record { ways = record { onward = 0; broken = 0; continued = 0; cases = 0 }; base = 1; next = 0 }

-- where an item stands in a list
abbrev pub item_spot : Bool → ℕ → Spot → Spot
item_spot last base s = record { ways = to (if last then s.ways.onward else base) s.ways; base = base; next = if last then s.next else base }

-- where the parts of a loop stand, by its third part and the first label that a part owns, and the body of a switch
abbrev pub first_spot : ItemList → Spot → Spot
first_spot third s = record { ways = first_ways third s.base s.ways; base = s.base + 4; next = s.base + 2 }

abbrev pub turn_spot : ItemList → ℕ → Spot → Spot
turn_spot third base s = record { ways = turn_ways third s.base s.ways; base = base; next = if is_end third then s.next else s.base + 3 }

abbrev pub third_spot : ℕ → Spot → Spot
third_spot base s = record { ways = third_ways s.base s.ways; base = base; next = s.next }

abbrev pub switch_spot : ℕ → Spot → Spot
switch_spot base s = record { ways = switch_ways s.base s.ways; base = base; next = s.next }

-- how an item ends: it leads to the label behind it, or nothing goes on behind it, or what stands behind it goes on
abbrev pub ending : Item → Ending
ending (If t hit miss) = Label
ending (Loop before body third last) = Label
ending (Switch cases body) = Label
ending Break = Jump
ending Continue = Jump
ending Return = Jump
ending x = Plain

-- the label behind an item, whose first label it is, unless the item is the last one of its list
abbrev pub placed : Ending → Bool → ℕ → List Entry → List Entry
placed Label false base rest = Place base ∷ rest
placed e last base rest = rest

-- whether a list ends with the item, and not with a jump to where it leads
abbrev pub ends_with : Ending → Bool → Bool
ends_with Plain last = false
ends_with e last = last
