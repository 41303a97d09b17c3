-- What holds of the code behind items, and stays so with any entry before it, holds of the items' code.
use Rattle.std.proofs.Common.{ℕ, ◌+◌, Bool, true, false, ◌⊎◌, inr, List, [], ◌∷◌, ◌++◌, length, Option, Some, None}
use Rattle.std.specs.Prelude.{◌==◌, if◌then◌else◌}
use Rattle.acc_code.specs.declared.operation.Test.{Test}
use Rattle.acc_code.specs.AccTree.{Op, If, Loop, Switch, Case, Clear, Call, Helper, Break, Continue, Return, ItemList, end, item}
use Rattle.emit_blocks.specs.Steps.{Operation, operation}
use Rattle.emit_control.specs.declared.ways.Ways.{Ways}
use Rattle.emit_control.specs.Entries.{Entry, Run, Place, Close, Branch, Goto, flushed}
use Rattle.emit_control.specs.Flow.{Part, labels, item_labels, is_end, opposite, target, goto, if_code, loop_code, behind_label, behind_jump, inner, first_ways, turn_ways, third_ways, switch_ways, emit}

-- such an entry comes later
abbrev pub Later : (Entry → Type 0) → List Entry → Type 0
Later P [] = ⊥
Later P (e ∷ es) = P e ⊎ Later P es

-- a part before a list of which something holds
pub record PartKeeps (Q : List Entry → Type 0) (p : Part) : Type 0 where
  pub by : (next : ℕ) (rest : List Entry) → Q rest → Q (p next rest)

module _ (Q : List Entry → Type 0) (more : (e : Entry) (es : List Entry) → Q es → Q (e ∷ es)) where
  pub flush_keeps : (os : List Operation) (es : List Entry) → Q es → Q (flushed os es)
  flush_keeps [] es h = h
  flush_keeps (o ∷ os) es h = more (Run (o ∷ os)) es h

  goto_keeps : (b : Bool) (k : ℕ) (rest : List Entry) → Q rest → Q (if b then rest else Goto k ∷ rest)
  goto_keeps true k rest h = h
  goto_keeps false k rest h = more (Goto k) rest h

  pub if_keeps : (a b : Option ℕ) (t : Test) (hit miss : Part) (l next : ℕ) (rest : List Entry) → PartKeeps Q hit → PartKeeps Q miss → Q rest → Q (if_code t a b hit miss l next rest)
  if_keeps (Some a) (Some b) t hit miss l next rest ph pm h = both (a == next)
    where
      both : (e : Bool) → Q (if e then Branch (opposite t) b ∷ rest else Branch t a ∷ goto b next rest)
      both true = more _ rest h
      both false = more _ _ (goto_keeps (b == next) b rest h)
  if_keeps (Some a) None t hit miss l next rest ph pm h = more _ _ (pm.by next rest h)
  if_keeps None (Some b) t hit miss l next rest ph pm h = more _ _ (ph.by next rest h)
  if_keeps None None t hit miss l next rest ph pm h = more _ _ (ph.by l (Place l ∷ miss next rest) (more _ _ (pm.by next rest h)))

  pub loop_keeps : (none : Bool) (head start go : ℕ) (first body third : Part) (next : ℕ) (rest : List Entry) → PartKeeps Q first → PartKeeps Q body → PartKeeps Q third → Q rest → Q (loop_code none head start go first body third next rest)
  loop_keeps true head start go first body third next rest pf pb pt h =
      more _ _ (pf.by start _ (more (Place start) _ (pb.by next _ (more (Close head next) _ h))))
  loop_keeps false head start go first body third next rest pf pb pt h =
      more _ _ (pf.by start _ (more (Place start) _ (pb.by go _ (more (Place go) _ (pt.by next _ (more (Close head next) _ h))))))

  label_keeps : (b : Bool) (base : ℕ) (code rest : List Entry) → Q code → Q rest → Q (behind_label b base code rest)
  label_keeps true base code rest c h = h
  label_keeps false base code rest c h = more (Place base) code c

  jump_keeps : (b : Bool) (code rest : List Entry) → Q code → Q rest → Q (behind_jump b code rest)
  jump_keeps true code rest c h = h
  jump_keeps false code rest c h = c

  pub kept_anywhere : (xs : ItemList) (os : List Operation) (w : Ways) (base : ℕ) → PartKeeps Q (emit xs os w base)
  kept_anywhere end os w base = record { by = λ next rest h. flush_keeps os _ (goto_keeps (w.onward == next) w.onward rest h) }
  kept_anywhere (item (Op o m) xs) os w base = record { by = λ next rest h. (kept_anywhere xs (os ++ operation o m ∷ []) w base).by next rest h }
  kept_anywhere (item (If t hit miss) xs) os w base = record {
    by = λ next rest h. flush_keeps os _ (if_keeps (target (inner xs w base) hit) (target (inner xs w base) miss) t _ _ (base + 1) _ _
        (kept_anywhere hit [] (inner xs w base) (base + 2)) (kept_anywhere miss [] (inner xs w base) (base + 2 + labels hit))
        (label_keeps (is_end xs) base _ rest ((kept_anywhere xs [] w (base + item_labels (If t hit miss))).by next rest h) h));
  }
  kept_anywhere (item (Loop before body third last) xs) os w base = record {
    by = λ next rest h. flush_keeps os _ (loop_keeps (is_end third) (base + 1) (base + 2) (base + 3) _ _ _ _ _
        (kept_anywhere before [] (first_ways third base (inner xs w base)) (base + 4)) (kept_anywhere body [] (turn_ways third base (inner xs w base)) (base + 4 + labels before))
        (kept_anywhere third [] (third_ways base (inner xs w base)) (base + 4 + labels before + labels body))
        (label_keeps (is_end xs) base _ rest ((kept_anywhere xs [] w (base + item_labels (Loop before body third last))).by next rest h) h));
  }
  kept_anywhere (item (Switch cases body) xs) os w base = record {
    by = λ next rest h. flush_keeps os _ (more _ _ ((kept_anywhere body [] (switch_ways base (inner xs w base)) (base + 1 + length cases)).by _ _
        (label_keeps (is_end xs) base _ rest ((kept_anywhere xs [] w (base + item_labels (Switch cases body))).by next rest h) h)));
  }
  kept_anywhere (item (Case n) xs) os w base = record { by = λ next rest h. flush_keeps os _ (more _ _ ((kept_anywhere xs [] w base).by next rest h)) }
  kept_anywhere (item (Clear v from) xs) os w base = record { by = λ next rest h. flush_keeps os _ (more _ _ ((kept_anywhere xs [] w (base + 1)).by next rest h)) }
  kept_anywhere (item (Call f) xs) os w base = record { by = λ next rest h. flush_keeps os _ (more _ _ ((kept_anywhere xs [] w base).by next rest h)) }
  kept_anywhere (item (Helper name) xs) os w base = record { by = λ next rest h. flush_keeps os _ (more _ _ ((kept_anywhere xs [] w base).by next rest h)) }
  kept_anywhere (item Break xs) os w base = record { by = λ next rest h. flush_keeps os _ (more _ _ (jump_keeps (is_end xs) _ rest ((kept_anywhere xs [] w base).by next rest h) h)) }
  kept_anywhere (item Continue xs) os w base = record { by = λ next rest h. flush_keeps os _ (more _ _ (jump_keeps (is_end xs) _ rest ((kept_anywhere xs [] w base).by next rest h) h)) }
  kept_anywhere (item Return xs) os w base = record { by = λ next rest h. flush_keeps os _ (more _ _ (jump_keeps (is_end xs) _ rest ((kept_anywhere xs [] w base).by next rest h) h)) }

pub later : (P : Entry → Type 0) (xs : ItemList) (os : List Operation) (w : Ways) (base : ℕ) → PartKeeps (Later P) (emit xs os w base)
later P xs os w base = kept_anywhere (Later P) (λ e es h. inr h) xs os w base
