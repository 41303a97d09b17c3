-- The entries of items (docs/TRANSLATION.md, "Labels"). The code of a list is given by what stands behind it, so that no length of code occurs.
-- An item owns the labels from one on, by its place alone.
use Rattle.std.specs.Prelude.{ℕ, ◌+◌, ◌==◌, Bool, true, false, if◌then◌else◌, List, [], ◌∷◌, ◌++◌, length, Option, Some, None}
use Rattle.acc_code.specs.declared.item.CaseLabel.{CaseLabel}
use Rattle.acc_code.specs.declared.operation.Test.{Test}
use Rattle.acc_code.specs.declared.operation.Test.TheVariants.{Gz, Lez, Lz, Gez, Nz, Z}
use Rattle.acc_code.specs.AccTree.{Item, Op, If, Loop, Switch, Case, Clear, Call, Helper, Break, Continue, Return, ItemList, end, item}
use Rattle.emit_blocks.specs.Steps.{Operation, operation}
use Rattle.emit_control.specs.declared.ways.Ways.{Ways}
use Rattle.emit_control.specs.Entries.{Entry, Head, Place, Close, Branch, Goto, Dispatch, CallTo, CallHelper, Wipe, Ret, Finish, flushed}

-- ways of a list that leads onward elsewhere
abbrev pub to : ℕ → Ways → Ways
to k w = record w { onward = k }

abbrev pub is_end : ItemList → Bool
is_end end = true
is_end (item x xs) = false

abbrev pub opposite : Test → Test
opposite Gz = Lez
opposite Lez = Gz
opposite Lz = Gez
opposite Gez = Lz
opposite Nz = Z
opposite Z = Nz

-- how many labels items own
abbrev mutual
  pub labels : ItemList → ℕ
  labels end = 0
  labels (item x xs) = item_labels x + labels xs

  pub item_labels : Item → ℕ
  item_labels (If t hit miss) = 2 + labels hit + labels miss
  item_labels (Loop before body behind last) = 4 + labels before + labels body + labels behind
  item_labels (Switch cases body) = 1 + length cases + labels body
  item_labels (Clear v from) = 1
  item_labels x = 0

-- the label to which a list leads at once
abbrev pub target : Ways → ItemList → Option ℕ
target w end = Some w.onward
target w (item Break end) = Some w.broken
target w (item Continue end) = Some w.continued
target w xs = None

-- to a label, unless it is placed next
abbrev pub goto : ℕ → ℕ → List Entry → List Entry
goto k next rest = if k == next then rest else Goto k ∷ rest

-- code for a label that is placed directly behind it, before other code
abbrev pub Part : Type 0
Part = ℕ → List Entry → List Entry

-- two parts, by the labels to which they lead at once, with a label for the second one
abbrev pub if_code : Test → Option ℕ → Option ℕ → Part → Part → ℕ → Part
if_code t (Some a) (Some b) hit miss l next rest = if a == next then Branch (opposite t) b ∷ rest else Branch t a ∷ goto b next rest
if_code t (Some a) None hit miss l next rest = Branch t a ∷ miss next rest
if_code t None (Some b) hit miss l next rest = Branch (opposite t) b ∷ hit next rest
if_code t None None hit miss l next rest = Branch (opposite t) l ∷ hit l (Place l ∷ miss next rest)

-- the third part of a loop, where there is one, and its end; go is placed before that part, and next behind the loop
abbrev pub loop_end : Bool → ℕ → ℕ → Part → Part
loop_end true head go third next rest = Close head next ∷ rest
loop_end false head go third next rest = Place go ∷ third next (Close head next ∷ rest)

abbrev pub loop_code : Bool → ℕ → ℕ → ℕ → Part → Part → Part → Part
loop_code none head start go first body third next rest =
    Head head ∷ first start (Place start ∷ body (if none then next else go) (loop_end none head go third next rest))

-- what stands behind an item whose label is placed there, and behind a jump
abbrev pub behind_label : Bool → ℕ → List Entry → List Entry → List Entry
behind_label true base code rest = rest
behind_label false base code rest = Place base ∷ code

abbrev pub behind_jump : Bool → List Entry → List Entry → List Entry
behind_jump true code rest = rest
behind_jump false code rest = code

-- where control goes from the parts of an item: behind it is where its list ends, if it is the last one, or its own first label
abbrev pub inner : ItemList → Ways → ℕ → Ways
inner xs w base = to (if is_end xs then w.onward else base) w

-- the label that is placed directly behind an item
abbrev pub next_behind : ItemList → ℕ → ℕ → ℕ
next_behind xs base next = if is_end xs then next else base

-- where the body of a loop leads: to the third part, or to the head where there is none
abbrev pub turn_end : ItemList → ℕ → ℕ
turn_end third base = if is_end third then base + 1 else base + 3

-- the parts of a loop, whose head is base + 1, whose body begins at base + 2, and its third part at base + 3. A Break leads behind it
abbrev pub first_ways : ItemList → ℕ → Ways → Ways
first_ways third base w = record { onward = base + 2; broken = w.onward; continued = turn_end third base; cases = w.cases }

abbrev pub turn_ways : ItemList → ℕ → Ways → Ways
turn_ways third base w = record { onward = turn_end third base; broken = w.onward; continued = turn_end third base; cases = w.cases }

abbrev pub third_ways : ℕ → Ways → Ways
third_ways base w = record { onward = base + 1; broken = w.onward; continued = w.onward; cases = w.cases }

-- the body of a switch, whose cases are numbered from base + 1 on
abbrev pub switch_ways : ℕ → Ways → Ways
switch_ways base w = record { onward = w.onward; broken = w.onward; continued = w.continued; cases = base + 1 }

-- items behind operations of the same run
abbrev pub emit : ItemList → List Operation → Ways → ℕ → Part
emit end os w base next rest = flushed os (goto w.onward next rest)
emit (item (Op o m) xs) os w base next rest = emit xs (os ++ operation o m ∷ []) w base next rest
emit (item (If t hit miss) xs) os w base next rest =
    flushed os (if_code t (target (inner xs w base) hit) (target (inner xs w base) miss)
    (emit hit [] (inner xs w base) (base + 2))
    (emit miss [] (inner xs w base) (base + 2 + labels hit))
    (base + 1) (next_behind xs base next)
    (behind_label (is_end xs) base (emit xs [] w (base + item_labels (If t hit miss)) next rest) rest))
emit (item (Loop before body third last) xs) os w base next rest =
    flushed os (loop_code (is_end third) (base + 1) (base + 2) (base + 3)
    (emit before [] (first_ways third base (inner xs w base)) (base + 4))
    (emit body [] (turn_ways third base (inner xs w base)) (base + 4 + labels before))
    (emit third [] (third_ways base (inner xs w base)) (base + 4 + labels before + labels body))
    (next_behind xs base next)
    (behind_label (is_end xs) base (emit xs [] w (base + item_labels (Loop before body third last)) next rest) rest))
emit (item (Switch cases body) xs) os w base next rest =
    flushed os (Dispatch cases (base + 1) (inner xs w base).onward
    ∷ emit body [] (switch_ways base (inner xs w base)) (base + 1 + length cases) (next_behind xs base next)
    (behind_label (is_end xs) base (emit xs [] w (base + item_labels (Switch cases body)) next rest) rest))
emit (item (Case n) xs) os w base next rest = flushed os (Place (w.cases + n) ∷ emit xs [] w base next rest)
emit (item (Clear v from) xs) os w base next rest = flushed os (Wipe v from base ∷ emit xs [] w (base + 1) next rest)
emit (item (Call f) xs) os w base next rest = flushed os (CallTo f ∷ emit xs [] w base next rest)
emit (item (Helper name) xs) os w base next rest = flushed os (CallHelper name ∷ emit xs [] w base next rest)
emit (item Break xs) os w base next rest = flushed os (Goto w.broken ∷ behind_jump (is_end xs) (emit xs [] w base next rest) rest)
emit (item Continue xs) os w base next rest = flushed os (Goto w.continued ∷ behind_jump (is_end xs) (emit xs [] w base next rest) rest)
emit (item Return xs) os w base next rest = flushed os (Ret ∷ behind_jump (is_end xs) (emit xs [] w base next rest) rest)

-- a body, whose last label is 0
abbrev pub body_entries : ItemList → List Entry
body_entries xs = emit xs [] (record { onward = 0; broken = 0; continued = 0; cases = 0 }) 1 0 (Finish 0 ∷ [])
