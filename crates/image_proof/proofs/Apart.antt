-- No two runs of a body's entries stand one behind the other without a cut between them.
use Rattle.std.proofs.Common.{ℕ, ◌+◌, Bool, true, false, List, [], ◌∷◌, ◌++◌, length, Option, Some, None}
use Rattle.std.specs.Prelude.{⊤, ◌==◌, if◌then◌else◌}
use Rattle.acc_code.specs.declared.operation.Test.{Test}
use Rattle.acc_code.specs.AccTree.{Op, If, Loop, Switch, Case, Clear, Call, Helper, Break, Continue, Return, ItemList, end, item}
use Rattle.emit_blocks.specs.Steps.{Operation, operation}
use Rattle.image_proof.specs.emit_control.declared.ways.Ways.{Ways}
use Rattle.image_proof.specs.emit_control.Entries.{Entry, Run, Place, Close, Branch, Goto, flushed}
use Rattle.image_proof.specs.emit_control.Flow.{Part, labels, item_labels, is_end, opposite, target, goto, if_code, loop_code, behind_label, behind_jump, inner, first_ways, turn_ways, third_ways, switch_ways, emit, body_entries}

-- a cut comes before the first run; the end of a loop needn't be one
abbrev pub CutFirst : List Entry → Type 0
CutFirst [] = ⊤
CutFirst (Run os ∷ es) = ⊥
CutFirst (Close head l ∷ es) = CutFirst es
CutFirst (e ∷ es) = ⊤

abbrev pub ApartFrom : Entry → List Entry → Type 0
ApartFrom (Run os) es = CutFirst es
ApartFrom e es = ⊤

abbrev pub Apart : List Entry → Type 0
Apart [] = ⊤
Apart (e ∷ es) = ApartFrom e es × Apart es

-- entries behind which nothing is known, and a cut comes first
record Behind (es : List Entry) : Type 0 where
  first : CutFirst es
  apart : Apart es

-- a part before such entries
record KeepsApart (p : Part) : Type 0 where
  by : (next : ℕ) (rest : List Entry) → Behind rest → Apart (p next rest)

flush_apart : (os : List Operation) (es : List Entry) → CutFirst es → Apart es → Apart (flushed os es)
flush_apart [] es c a = a
flush_apart (o ∷ os) es c a = (c, a)

goto_behind : (b : Bool) (k : ℕ) (rest : List Entry) → Behind rest → Behind (if b then rest else Goto k ∷ rest)
goto_behind true k rest h = h
goto_behind false k rest h = record { first = tt; apart = (tt, h.apart) }

placed : (l : ℕ) (es : List Entry) → Apart es → Behind (Place l ∷ es)
placed l es a = record { first = tt; apart = (tt, a) }

closing : (head l : ℕ) (es : List Entry) → Behind es → Behind (Close head l ∷ es)
closing head l es h = record { first = h.first; apart = (tt, h.apart) }

if_apart : (a b : Option ℕ) (t : Test) (hit miss : Part) (l next : ℕ) (rest : List Entry) → KeepsApart hit → KeepsApart miss → Behind rest → Behind (if_code t a b hit miss l next rest)
if_apart (Some a) (Some b) t hit miss l next rest ph pm h = both (a == next)
  where
    both : (e : Bool) → Behind (if e then Branch (opposite t) b ∷ rest else Branch t a ∷ goto b next rest)
    both true = record { first = tt; apart = (tt, h.apart) }
    both false = record { first = tt; apart = (tt, (goto_behind (b == next) b rest h).apart) }
if_apart (Some a) None t hit miss l next rest ph pm h = record { first = tt; apart = (tt, pm.by next rest h) }
if_apart None (Some b) t hit miss l next rest ph pm h = record { first = tt; apart = (tt, ph.by next rest h) }
if_apart None None t hit miss l next rest ph pm h = record { first = tt; apart = (tt, ph.by l _ (placed l _ (pm.by next rest h))) }

loop_apart : (none : Bool) (head start go : ℕ) (first body third : Part) (next : ℕ) (rest : List Entry) → KeepsApart first → KeepsApart body → KeepsApart third → Behind rest → Behind (loop_code none head start go first body third next rest)
loop_apart true head start go first body third next rest pf pb pt h =
    record { first = tt; apart = (tt, pf.by start _ (placed start _ (pb.by next _ (closing head next rest h)))) }
loop_apart false head start go first body third next rest pf pb pt h =
    record { first = tt; apart = (tt, pf.by start _ (placed start _ (pb.by go _ (placed go _ (pt.by next _ (closing head next rest h)))))) }

label_behind : (b : Bool) (base : ℕ) (code rest : List Entry) → Apart code → Behind rest → Behind (behind_label b base code rest)
label_behind true base code rest c h = h
label_behind false base code rest c h = placed base code c

jump_apart : (b : Bool) (code rest : List Entry) → Apart code → Behind rest → Apart (behind_jump b code rest)
jump_apart true code rest c h = h.apart
jump_apart false code rest c h = c

behind_run : (os : List Operation) (es : List Entry) → Behind es → Apart (flushed os es)
behind_run os es h = flush_apart os es h.first h.apart

emit_apart : (xs : ItemList) (os : List Operation) (w : Ways) (base : ℕ) → KeepsApart (emit xs os w base)
emit_apart end os w base = record { by = λ next rest h. behind_run os _ (goto_behind (w.onward == next) w.onward rest h) }
emit_apart (item (Op o m) xs) os w base = record { by = λ next rest h. (emit_apart xs (os ++ operation o m ∷ []) w base).by next rest h }
emit_apart (item (If t hit miss) xs) os w base = record {
  by = λ next rest h. behind_run os _ (if_apart (target (inner xs w base) hit) (target (inner xs w base) miss) t _ _ (base + 1) _ _
      (emit_apart hit [] (inner xs w base) (base + 2)) (emit_apart miss [] (inner xs w base) (base + 2 + labels hit))
      (label_behind (is_end xs) base _ rest ((emit_apart xs [] w (base + item_labels (If t hit miss))).by next rest h) h));
}
emit_apart (item (Loop before body third last) xs) os w base = record {
  by = λ next rest h. behind_run os _ (loop_apart (is_end third) (base + 1) (base + 2) (base + 3) _ _ _ _ _
      (emit_apart before [] (first_ways third base (inner xs w base)) (base + 4)) (emit_apart body [] (turn_ways third base (inner xs w base)) (base + 4 + labels before))
      (emit_apart third [] (third_ways base (inner xs w base)) (base + 4 + labels before + labels body))
      (label_behind (is_end xs) base _ rest ((emit_apart xs [] w (base + item_labels (Loop before body third last))).by next rest h) h));
}
emit_apart (item (Switch cases body) xs) os w base = record {
  by = λ next rest h. flush_apart os _ tt (
    tt,
    (emit_apart body [] (switch_ways base (inner xs w base)) (base + 1 + length cases)).by _ _
        (label_behind (is_end xs) base _ rest ((emit_apart xs [] w (base + item_labels (Switch cases body))).by next rest h) h),
  );
}
emit_apart (item (Case n) xs) os w base = record { by = λ next rest h. flush_apart os _ tt (tt, (emit_apart xs [] w base).by next rest h) }
emit_apart (item (Clear v from) xs) os w base = record { by = λ next rest h. flush_apart os _ tt (tt, (emit_apart xs [] w (base + 1)).by next rest h) }
emit_apart (item (Call f) xs) os w base = record { by = λ next rest h. flush_apart os _ tt (tt, (emit_apart xs [] w base).by next rest h) }
emit_apart (item (Helper name) xs) os w base = record { by = λ next rest h. flush_apart os _ tt (tt, (emit_apart xs [] w base).by next rest h) }
emit_apart (item Break xs) os w base = record { by = λ next rest h. flush_apart os _ tt (tt, jump_apart (is_end xs) _ rest ((emit_apart xs [] w base).by next rest h) h) }
emit_apart (item Continue xs) os w base = record { by = λ next rest h. flush_apart os _ tt (tt, jump_apart (is_end xs) _ rest ((emit_apart xs [] w base).by next rest h) h) }
emit_apart (item Return xs) os w base = record { by = λ next rest h. flush_apart os _ tt (tt, jump_apart (is_end xs) _ rest ((emit_apart xs [] w base).by next rest h) h) }

pub body_apart : (body : ItemList) → Apart (body_entries body)
body_apart body = (emit_apart body [] _ 1).by 0 _ (record { first = tt; apart = (tt, tt) })
