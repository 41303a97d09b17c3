-- Lists of items: the run at the front, and then the first item.
use Rattle.std.proofs.Common.{◌≡◌, ◌∙◌, ◌≤◌, ◌<◌, ℕ, ◌+◌, ◌*◌, Bool, true, false, if◌then◌else◌, List, [], ◌∷◌, ◌++◌, refl, ap, sym, subst, append_assoc, append-nil, arith}
use Rattle.acc_code.specs.AccTree.{Item, Op, If, Loop, Switch, Case, Clear, Call, Helper, Break, Continue, Return, ItemList, end, item}
use Rattle.acc_code.specs.Emittable.{Throughout, Within}
use Rattle.c25_isa.specs.Items.{ItemsFit}
use Rattle.emit_blocks.specs.Right.{AreRight}
use Rattle.emit_blocks.specs.Steps.{Operation, operation, run_at, behind_run}
use Rattle.emit_control.specs.declared.code.Code.{Code}
use Rattle.emit_control.specs.declared.ending.Ending.{Ending}
use Rattle.emit_control.specs.declared.ending.Ending.TheVariants.{Label, Jump, Plain}
use Rattle.emit_control.specs.declared.ways.Spot.{Spot}
use Rattle.emit_control.specs.declared.ways.Ways.{Ways}
use Rattle.emit_control.specs.Entries.{Entry, Place, Goto, flushed}
use Rattle.emit_control.specs.Flow.{emit, goto, labels, item_labels, is_end, to, behind_label, behind_jump}
use Rattle.emit_control.specs.Settings.{Setting}
use Rattle.emit_control.proofs.Emitting.{both}
use Rattle.emit_control.specs.Emits.{IsRightItem, Emits, before_entries, item_code, if_part, loop_part, switch_part, item_spot, placed, ending, ends_with}

-- how many items there are, where one with parts counts twice
abbrev mutual
  pub size : ItemList → ℕ
  size end = 0
  size (item x xs) = item_size x + size xs

  pub item_size : Item → ℕ
  item_size (If t hit miss) = 2 + size hit + size miss
  item_size (Loop before body behind last) = 2 + size before + size body + size behind
  item_size (Switch cases body) = 2 + size body
  item_size x = 1

run_first : (xs : ItemList) (os : List Operation) (w : Ways) (base next : ℕ) (rest : List Entry)
    → emit xs os w base next rest ≡ flushed (os ++ run_at xs) (emit (behind_run xs) [] w base next rest)
run_first end os w base next rest = ap (λ q. flushed q (emit end [] w base next rest)) (sym (append-nil os))
run_first (item (Op o m) xs) os w base next rest =
    run_first xs (os ++ operation o m ∷ []) w base next rest
    ∙ ap (λ q. flushed q (emit (behind_run xs) [] w base next rest)) (append_assoc os (operation o m ∷ []) (run_at xs))
run_first (item (If test hit miss) xs) os w base next rest = ap (λ q. flushed q (emit (item (If test hit miss) xs) [] w base next rest)) (sym (append-nil os))
run_first (item (Loop before body behind last) xs) os w base next rest = ap (λ q. flushed q (emit (item (Loop before body behind last) xs) [] w base next rest)) (sym (append-nil os))
run_first (item (Switch cases body) xs) os w base next rest = ap (λ q. flushed q (emit (item (Switch cases body) xs) [] w base next rest)) (sym (append-nil os))
run_first (item (Case n) xs) os w base next rest = ap (λ q. flushed q (emit (item (Case n) xs) [] w base next rest)) (sym (append-nil os))
run_first (item (Clear v from) xs) os w base next rest = ap (λ q. flushed q (emit (item (Clear v from) xs) [] w base next rest)) (sym (append-nil os))
run_first (item (Call f) xs) os w base next rest = ap (λ q. flushed q (emit (item (Call f) xs) [] w base next rest)) (sym (append-nil os))
run_first (item (Helper name) xs) os w base next rest = ap (λ q. flushed q (emit (item (Helper name) xs) [] w base next rest)) (sym (append-nil os))
run_first (item Break xs) os w base next rest = ap (λ q. flushed q (emit (item Break xs) [] w base next rest)) (sym (append-nil os))
run_first (item Continue xs) os w base next rest = ap (λ q. flushed q (emit (item Continue xs) [] w base next rest)) (sym (append-nil os))
run_first (item Return xs) os w base next rest = ap (λ q. flushed q (emit (item Return xs) [] w base next rest)) (sym (append-nil os))

labels_behind : (xs : ItemList) → labels (behind_run xs) ≡ labels xs
labels_behind end = refl
labels_behind (item (Op o m) xs) = let e : labels (behind_run xs) ≡ labels xs = labels_behind xs in omega (arith, e)
labels_behind (item (If test hit miss) xs) = refl
labels_behind (item (Loop before body behind last) xs) = refl
labels_behind (item (Switch cases body) xs) = refl
labels_behind (item (Case n) xs) = refl
labels_behind (item (Clear v from) xs) = refl
labels_behind (item (Call f) xs) = refl
labels_behind (item (Helper name) xs) = refl
labels_behind (item Break xs) = refl
labels_behind (item Continue xs) = refl
labels_behind (item Return xs) = refl

one_more : (a b : ℕ) → a ≤ b → a ≤ 1 + b
one_more a b few = omega (arith, few)

size_behind : (xs : ItemList) → size (behind_run xs) ≤ size xs
size_behind end = omega arith
size_behind (item (Op o m) xs) = one_more (size (behind_run xs)) (size xs) (size_behind xs)
size_behind (item (If test hit miss) xs) = omega arith
size_behind (item (Loop before body behind last) xs) = omega arith
size_behind (item (Switch cases body) xs) = omega arith
size_behind (item (Case n) xs) = omega arith
size_behind (item (Clear v from) xs) = omega arith
size_behind (item (Call f) xs) = omega arith
size_behind (item (Helper name) xs) = omega arith
size_behind (item Break xs) = omega arith
size_behind (item Continue xs) = omega arith
size_behind (item Return xs) = omega arith

right_behind : (xs : ItemList) → Throughout IsRightItem xs → Throughout IsRightItem (behind_run xs)
right_behind end right = right
right_behind (item (Op o m) xs) right = right_behind xs right.2
right_behind (item (If test hit miss) xs) right = right
right_behind (item (Loop before body behind last) xs) right = right
right_behind (item (Switch cases body) xs) right = right
right_behind (item (Case n) xs) right = right
right_behind (item (Clear v from) xs) right = right
right_behind (item (Call f) xs) right = right
right_behind (item (Helper name) xs) right = right
right_behind (item Break xs) right = right
right_behind (item Continue xs) right = right
right_behind (item Return xs) right = right

no_run_behind : (xs : ItemList) → run_at (behind_run xs) ≡ []
no_run_behind end = refl
no_run_behind (item (Op o m) xs) = no_run_behind xs
no_run_behind (item (If test hit miss) xs) = refl
no_run_behind (item (Loop before body behind last) xs) = refl
no_run_behind (item (Switch cases body) xs) = refl
no_run_behind (item (Case n) xs) = refl
no_run_behind (item (Clear v from) xs) = refl
no_run_behind (item (Call f) xs) = refl
no_run_behind (item (Helper name) xs) = refl
no_run_behind (item Break xs) = refl
no_run_behind (item Continue xs) = refl
no_run_behind (item Return xs) = refl

pub run_is_right : (xs : ItemList) → Throughout IsRightItem xs → AreRight (run_at xs)
run_is_right end right = tt
run_is_right (item (Op o m) xs) right = (right.0, run_is_right xs right.2)
run_is_right (item (If test hit miss) xs) right = tt
run_is_right (item (Loop before body behind last) xs) right = tt
run_is_right (item (Switch cases body) xs) right = tt
run_is_right (item (Case n) xs) right = tt
run_is_right (item (Clear v from) xs) right = tt
run_is_right (item (Call f) xs) right = tt
run_is_right (item (Helper name) xs) right = tt
run_is_right (item Break xs) right = tt
run_is_right (item Continue xs) right = tt
run_is_right (item Return xs) right = tt

label_behind : (last : Bool) (base : ℕ) (code rest : List Entry) → behind_label last base code rest ≡ placed Label last base (if last then rest else code)
label_behind true base code rest = refl
label_behind false base code rest = refl

jump_behind : (last : Bool) (base : ℕ) (code rest : List Entry) → behind_jump last code rest ≡ placed Jump last base (if last then rest else code)
jump_behind true base code rest = refl
jump_behind false base code rest = refl

-- what stands behind an item
abbrev behind_item : Item → ItemList → Ways → ℕ → ℕ → List Entry → List Entry
behind_item x xs w base next rest =
    placed (ending x) (is_end xs) base (if ends_with (ending x) (is_end xs) then rest else emit xs [] w (base + item_labels x) next rest)

-- an item's own code
abbrev own_code : Item → ItemList → Ways → ℕ → ℕ → List Entry → List Entry
own_code x xs w base next rest = item_code x (to (if is_end xs then w.onward else base) w) base (if is_end xs then next else base) rest

no_labels : (xs : ItemList) (w : Ways) (base next : ℕ) (rest : List Entry) → emit xs [] w base next rest ≡ emit xs [] w (base + 0) next rest
no_labels xs w base next rest = let e : base ≡ base + 0 = omega arith in ap (λ b. emit xs [] w b next rest) e

first_item : (x : Item) (xs : ItemList) (w : Ways) (base next : ℕ) (rest : List Entry) → run_at (item x xs) ≡ []
    → emit (item x xs) [] w base next rest ≡ own_code x xs w base next (behind_item x xs w base next rest)
first_item (Op o m) xs w base next rest none = cc
first_item (If test hit miss) xs w base next rest none = ap (own_code (If test hit miss) xs w base next) (label_behind (is_end xs) base (emit xs [] w (base + item_labels (If test hit miss)) next rest) rest)
first_item (Loop before body behind last) xs w base next rest none = ap (own_code (Loop before body behind last) xs w base next) (label_behind (is_end xs) base (emit xs [] w (base + item_labels (Loop before body behind last)) next rest) rest)
first_item (Switch cases body) xs w base next rest none = ap (own_code (Switch cases body) xs w base next) (label_behind (is_end xs) base (emit xs [] w (base + item_labels (Switch cases body)) next rest) rest)
first_item (Case n) xs w base next rest none = ap (own_code (Case n) xs w base next) (no_labels xs w base next rest)
first_item (Clear v from) xs w base next rest none = refl
first_item (Call f) xs w base next rest none = ap (own_code (Call f) xs w base next) (no_labels xs w base next rest)
first_item (Helper name) xs w base next rest none = ap (own_code (Helper name) xs w base next) (no_labels xs w base next rest)
first_item Break xs w base next rest none =
    ap (λ q. own_code Break xs w base next (behind_jump (is_end xs) q rest)) (no_labels xs w base next rest)
    ∙ ap (own_code Break xs w base next) (jump_behind (is_end xs) base (emit xs [] w (base + 0) next rest) rest)
first_item Continue xs w base next rest none =
    ap (λ q. own_code Continue xs w base next (behind_jump (is_end xs) q rest)) (no_labels xs w base next rest)
    ∙ ap (own_code Continue xs w base next) (jump_behind (is_end xs) base (emit xs [] w (base + 0) next rest) rest)
first_item Return xs w base next rest none =
    ap (λ q. own_code Return xs w base next (behind_jump (is_end xs) q rest)) (no_labels xs w base next rest)
    ∙ ap (own_code Return xs w base next) (jump_behind (is_end xs) base (emit xs [] w (base + 0) next rest) rest)

-- the items before some place have been emitted, and no operation stands there
pub record SoFar (m : Setting) (begin : Code) (items : ItemList) (s : Spot) (code : Code) (base : ℕ) (rest : ItemList) : Type 0 where
  pub emits : (r : List Entry) → before_entries m begin (emit items [] s.ways s.base s.next r) ≡ before_entries m code (emit rest [] s.ways base s.next r)
  pub fits : ItemsFit begin.items.items → ItemsFit code.items.items
  pub labels : base + labels rest ≡ s.base + labels items
  pub none : run_at rest ≡ []
  pub right : Throughout IsRightItem rest
  pub smaller : size rest ≤ size items

run_emitted : (m : Setting) (old new : Code) (xs : ItemList) (w : Ways) (base next : ℕ) → Emits m old (flushed (run_at xs)) new
    → (r : List Entry) → before_entries m old (emit xs [] w base next r) ≡ before_entries m new (emit (behind_run xs) [] w base next r)
run_emitted m old new xs w base next emits r =
    ap (before_entries m old) (run_first xs [] w base next r) ∙ emits.items (emit (behind_run xs) [] w base next r)

pub begins : (m : Setting) (begin code : Code) (items rest : ItemList) (s : Spot) → Emits m begin (flushed (run_at items)) code → rest ≡ behind_run items
    → Throughout IsRightItem items → SoFar m begin items s code s.base rest
begins m begin code items rest s emits is right =
    subst (SoFar m begin items s code s.base) (sym is)
    (record {
      emits = run_emitted m begin code items s.ways s.base s.next emits;
      fits = emits.fits;
      labels = ap (λ n. s.base + n) (labels_behind items);
      none = no_run_behind items;
      right = right_behind items right;
      smaller = size_behind items;
    })

-- an item, and what is placed behind it
pub record Passes (m : Setting) (old : Code) (x : Item) (xs : ItemList) (s : Spot) (base : ℕ) (new : Code) (next : ℕ) : Type 0 where
  pub emits : Emits m old (λ rest. own_code x xs s.ways base s.next (placed (ending x) (is_end xs) base rest)) new
  pub labels : next ≡ base + item_labels x

chosen : (b c : Bool) (x y : List Entry) → b ≡ c → (if b then x else y) ≡ (if c then x else y)
chosen b c x y is = ap (λ d. if d then x else y) is

sum_further : (n base own rest all : ℕ) → n ≡ base + own → base + (own + rest) ≡ all → n + rest ≡ all
sum_further n base own rest all is sum = omega (arith, is, sum)

at_most : (a b c d : ℕ) → b + c ≤ d → a ≤ c → a ≤ d
at_most a b c d some few = omega (arith, some, few)

passed : (m : Setting) (begin old new : Code) (items : ItemList) (s : Spot) (base next : ℕ) (x : Item) (xs : ItemList) → SoFar m begin items s old base (item x xs)
    → Passes m old x xs s base new next → (r : List Entry)
    → before_entries m begin (emit items [] s.ways s.base s.next r)
    ≡ before_entries m new (if ends_with (ending x) (is_end xs) then r else emit xs [] s.ways next s.next r)
passed m begin old new items s base next x xs before passes r =
    before.emits r
    ∙ ap (before_entries m old) (first_item x xs s.ways base s.next r before.none)
    ∙ passes.emits.items (if ends_with (ending x) (is_end xs) then r else emit xs [] s.ways (base + item_labels x) s.next r)
    ∙ ap (λ b. before_entries m new (if ends_with (ending x) (is_end xs) then r else emit xs [] s.ways b s.next r)) (sym passes.labels)

pub further : (m : Setting) (begin old new after : Code) (items : ItemList) (s : Spot) (base next : ℕ) (x : Item) (xs rest : ItemList) → SoFar m begin items s old base (item x xs)
    → Passes m old x xs s base new next → ends_with (ending x) (is_end xs) ≡ false → Emits m new (flushed (run_at xs)) after → rest ≡ behind_run xs
    → SoFar m begin items s after next rest
further m begin old new after items s base next x xs rest before passes goes_on emits is =
    subst (SoFar m begin items s after next) (sym is)
    (record {
      emits = λ r. passed m begin old new items s base next x xs before passes r
          ∙ ap (before_entries m new) (chosen (ends_with (ending x) (is_end xs)) false r (emit xs [] s.ways next s.next r) goes_on)
          ∙ run_emitted m new after xs s.ways next s.next emits r;
      fits = λ fit. emits.fits (passes.emits.fits (before.fits fit));
      labels = ap (λ n. next + n) (labels_behind xs) ∙ sum_further next base (item_labels x) (labels xs) (s.base + labels items) passes.labels before.labels;
      none = no_run_behind xs;
      right = right_behind xs before.right.2;
      smaller = at_most (size (behind_run xs)) (item_size x) (size xs) (size items) before.smaller (size_behind xs);
    })

ends_last : (x : Item) (xs : ItemList) → ends_with (ending x) (is_end xs) ≡ true → labels xs ≡ 0
ends_last (Op o m) xs ends = cc
ends_last (If test hit miss) end ends = refl
ends_last (If test hit miss) (item y ys) ends = cc
ends_last (Loop before body behind last) end ends = refl
ends_last (Loop before body behind last) (item y ys) ends = cc
ends_last (Switch cases body) end ends = refl
ends_last (Switch cases body) (item y ys) ends = cc
ends_last (Case n) xs ends = cc
ends_last (Clear v from) xs ends = cc
ends_last (Call f) xs ends = cc
ends_last (Helper name) xs ends = cc
ends_last Break end ends = refl
ends_last Break (item y ys) ends = cc
ends_last Continue end ends = refl
ends_last Continue (item y ys) ends = cc
ends_last Return end ends = refl
ends_last Return (item y ys) ends = cc

sum_last : (n base own rest all : ℕ) → n ≡ base + own → base + (own + rest) ≡ all → rest ≡ 0 → n ≡ all
sum_last n base own rest all is sum none = omega (arith, is, sum, none)

pub leaves : (m : Setting) (begin old new : Code) (items : ItemList) (s : Spot) (base next : ℕ) (x : Item) (xs : ItemList) → SoFar m begin items s old base (item x xs)
    → Passes m old x xs s base new next → ends_with (ending x) (is_end xs) ≡ true → Emits m begin (emit items [] s.ways s.base s.next) new
leaves m begin old new items s base next x xs before passes ends = record {
  items = λ r. passed m begin old new items s base next x xs before passes r
      ∙ ap (before_entries m new) (chosen (ends_with (ending x) (is_end xs)) true r (emit xs [] s.ways next s.next r) ends);
  fits = λ fit. passes.emits.fits (before.fits fit);
}

pub leaves_labels : (m : Setting) (begin old new : Code) (items : ItemList) (s : Spot) (base next : ℕ) (x : Item) (xs : ItemList) → SoFar m begin items s old base (item x xs)
    → Passes m old x xs s base new next → ends_with (ending x) (is_end xs) ≡ true → next ≡ s.base + labels items
leaves_labels m begin old new items s base next x xs before passes ends =
    sum_last next base (item_labels x) (labels xs) (s.base + labels items) passes.labels before.labels (ends_last x xs ends)

pub ended : (m : Setting) (begin old new : Code) (items rest : ItemList) (s : Spot) (base : ℕ) → SoFar m begin items s old base rest → rest ≡ end
    → Emits m old (goto s.ways.onward s.next) new → Emits m begin (emit items [] s.ways s.base s.next) new
ended m begin old new items rest s base before is emits = record {
  items = λ r. before.emits r ∙ ap (λ xs. before_entries m old (emit xs [] s.ways base s.next r)) is ∙ emits.items r;
  fits = λ fit. emits.fits (before.fits fit);
}

sum_ended : (base none all : ℕ) → base + none ≡ all → none ≡ 0 → base ≡ all
sum_ended base none all sum zero = omega (arith, sum, zero)

pub ended_labels : (m : Setting) (begin old : Code) (items rest : ItemList) (s : Spot) (base : ℕ) → SoFar m begin items s old base rest → rest ≡ end → base ≡ s.base + labels items
ended_labels m begin old items rest s base before is = sum_ended base (labels rest) (s.base + labels items) before.labels (ap labels is)

pub passes : (m : Setting) (old between new : Code) (x : Item) (xs : ItemList) (s part : Spot) (base next : ℕ) (last : Bool) (e : Ending) → last ≡ is_end xs → part ≡ item_spot last base s
    → e ≡ ending x → Emits m old (item_code x part.ways part.base part.next) between → next ≡ part.base + item_labels x → Emits m between (placed e last base) new
    → Passes m old x xs s base new next
passes m old between new x xs s part base next last e last_is part_is e_is emits behind places =
    let is : part ≡ item_spot (is_end xs) base s = part_is ∙ ap (λ b. item_spot b base s) last_is in
    record {
      emits = both m old between new (own_code x xs s.ways base s.next) (placed (ending x) (is_end xs) base)
          (subst (λ q. Emits m old (item_code x q.ways q.base q.next) between) is emits)
          (subst (λ q. Emits m between (placed q (is_end xs) base) new) e_is (subst (λ b. Emits m between (placed e b base) new) last_is places));
      labels = behind ∙ ap (λ q. q.base + item_labels x) is;
    }

pub ends_as : (x : Item) (xs : ItemList) (last : Bool) (e : Ending) (b : Bool) → last ≡ is_end xs → e ≡ ending x → ends_with e last ≡ b → ends_with (ending x) (is_end xs) ≡ b
ends_as x xs last e b last_is e_is ends = ap (λ q. ends_with (ending x) q) (sym last_is) ∙ ap (λ q. ends_with q last) (sym e_is) ∙ ends
