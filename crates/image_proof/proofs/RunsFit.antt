-- What holds of each run of a body: by the operations so far, and what stands behind them.
use Rattle.std.proofs.Common.{ℕ, ◌+◌, Bool, true, false, List, [], ◌∷◌, ◌++◌, length, Option, Some, None}
use Rattle.std.specs.Prelude.{⊤, ◌==◌, if◌then◌else◌}
use Rattle.acc_code.specs.declared.operation.Test.{Test}
use Rattle.acc_code.specs.AccTree.{Item, Op, If, Loop, Switch, Case, Clear, Call, Helper, Break, Continue, Return, ItemList, end, item}
use Rattle.emit_blocks.specs.Steps.{Operation, operation}
use Rattle.image_proof.specs.emit_control.declared.ways.Ways.{Ways}
use Rattle.image_proof.specs.emit_control.Entries.{Entry, Run, Place, Close, Branch, Goto, flushed}
use Rattle.image_proof.specs.emit_control.Flow.{Part, labels, item_labels, is_end, opposite, target, goto, if_code, loop_code, behind_label, behind_jump, inner, first_ways, turn_ways, third_ways, switch_ways, emit, body_entries}

module _ (P : List Operation → Type 0) where
  abbrev pub RunHas : Entry → Type 0
  RunHas (Run os) = P os
  RunHas e = ⊤

  abbrev pub RunsHave : List Entry → Type 0
  RunsHave [] = ⊤
  RunsHave (e ∷ es) = RunHas e × RunsHave es

  abbrev mutual
    pub RunsFit : ItemList → List Operation → Type 0
    RunsFit end os = P os
    RunsFit (item (Op o m) xs) os = RunsFit xs (os ++ operation o m ∷ [])
    RunsFit (item x xs) os = P os × FitWithin x × RunsFit xs []

    pub FitWithin : Item → Type 0
    FitWithin (If test hit miss) = RunsFit hit [] × RunsFit miss []
    FitWithin (Loop before body third last) = RunsFit before [] × RunsFit body [] × RunsFit third []
    FitWithin (Switch labels body) = RunsFit body []
    FitWithin x = ⊤

  abbrev Good : List Entry → Type 0
  Good es = RunsHave es

  -- a part before runs of which it holds
  record KeepsGood (p : Part) : Type 0 where
    by : (next : ℕ) (rest : List Entry) → Good rest → Good (p next rest)

  flush_good : (os : List Operation) (es : List Entry) → P os → Good es → Good (flushed os es)
  flush_good [] es n h = h
  flush_good (o ∷ os) es n h = (n, h)

  goto_good : (b : Bool) (k : ℕ) (rest : List Entry) → Good rest → Good (if b then rest else Goto k ∷ rest)
  goto_good true k rest h = h
  goto_good false k rest h = (tt, h)

  if_good : (a b : Option ℕ) (t : Test) (hit miss : Part) (l next : ℕ) (rest : List Entry) → KeepsGood hit → KeepsGood miss → Good rest → Good (if_code t a b hit miss l next rest)
  if_good (Some a) (Some b) t hit miss l next rest ph pm h = both (a == next)
    where
      both : (e : Bool) → Good (if e then Branch (opposite t) b ∷ rest else Branch t a ∷ goto b next rest)
      both true = (tt, h)
      both false = (tt, goto_good (b == next) b rest h)
  if_good (Some a) None t hit miss l next rest ph pm h = (tt, pm.by next rest h)
  if_good None (Some b) t hit miss l next rest ph pm h = (tt, ph.by next rest h)
  if_good None None t hit miss l next rest ph pm h = (tt, ph.by l (Place l ∷ miss next rest) (tt, pm.by next rest h))

  loop_good : (none : Bool) (head start go : ℕ) (first body third : Part) (next : ℕ) (rest : List Entry) → KeepsGood first → KeepsGood body → KeepsGood third → Good rest → Good (loop_code none head start go first body third next rest)
  loop_good true head start go first body third next rest pf pb pt h =
      (tt, pf.by start (Place start ∷ body next (Close head next ∷ rest)) (tt, pb.by next (Close head next ∷ rest) (tt, h)))
  loop_good false head start go first body third next rest pf pb pt h =
      (tt, pf.by start (Place start ∷ body go (Place go ∷ third next (Close head next ∷ rest))) (tt, pb.by go (Place go ∷ third next (Close head next ∷ rest)) (tt, pt.by next (Close head next ∷ rest) (tt, h))))

  label_good : (b : Bool) (base : ℕ) (code rest : List Entry) → Good code → Good rest → Good (behind_label b base code rest)
  label_good true base code rest c h = h
  label_good false base code rest c h = (tt, c)

  jump_good : (b : Bool) (code rest : List Entry) → Good code → Good rest → Good (behind_jump b code rest)
  jump_good true code rest c h = h
  jump_good false code rest c h = c

  emit_good : (xs : ItemList) (os : List Operation) (v : Ways) (base : ℕ) → RunsFit xs os → KeepsGood (emit xs os v base)
  emit_good end os v base f = record { by = λ next rest h. flush_good os _ f (goto_good (v.onward == next) v.onward rest h) }
  emit_good (item (Op o a) xs) os v base f = record { by = λ next rest h. (emit_good xs (os ++ operation o a ∷ []) v base f).by next rest h }
  emit_good (item (If t hit miss) xs) os v base f = record {
    by = λ next rest h. flush_good os _ f.0 (if_good (target (inner xs v base) hit) (target (inner xs v base) miss) t _ _ (base + 1) _ _
        (emit_good hit [] (inner xs v base) (base + 2) f.1.0) (emit_good miss [] (inner xs v base) (base + 2 + labels hit) f.1.1)
        (label_good (is_end xs) base _ rest ((emit_good xs [] v (base + item_labels (If t hit miss)) f.2).by next rest h) h));
  }
  emit_good (item (Loop before body third last) xs) os v base f = record {
    by = λ next rest h. flush_good os _ f.0 (loop_good (is_end third) (base + 1) (base + 2) (base + 3) _ _ _ _ _
        (emit_good before [] (first_ways third base (inner xs v base)) (base + 4) f.1.0) (emit_good body [] (turn_ways third base (inner xs v base)) (base + 4 + labels before) f.1.1)
        (emit_good third [] (third_ways base (inner xs v base)) (base + 4 + labels before + labels body) f.1.2)
        (label_good (is_end xs) base _ rest ((emit_good xs [] v (base + item_labels (Loop before body third last)) f.2).by next rest h) h));
  }
  emit_good (item (Switch cases body) xs) os v base f = record {
    by = λ next rest h. flush_good os _ f.0 (
      tt,
      (emit_good body [] (switch_ways base (inner xs v base)) (base + 1 + length cases) f.1).by _ _
          (label_good (is_end xs) base _ rest ((emit_good xs [] v (base + item_labels (Switch cases body)) f.2).by next rest h) h),
    );
  }
  emit_good (item (Case k) xs) os v base f = record { by = λ next rest h. flush_good os _ f.0 (tt, (emit_good xs [] v base f.2).by next rest h) }
  emit_good (item (Clear x from) xs) os v base f = record { by = λ next rest h. flush_good os _ f.0 (tt, (emit_good xs [] v (base + 1) f.2).by next rest h) }
  emit_good (item (Call g) xs) os v base f = record { by = λ next rest h. flush_good os _ f.0 (tt, (emit_good xs [] v base f.2).by next rest h) }
  emit_good (item (Helper name) xs) os v base f = record { by = λ next rest h. flush_good os _ f.0 (tt, (emit_good xs [] v base f.2).by next rest h) }
  emit_good (item Break xs) os v base f = record { by = λ next rest h. flush_good os _ f.0 (tt, jump_good (is_end xs) _ rest ((emit_good xs [] v base f.2).by next rest h) h) }
  emit_good (item Continue xs) os v base f = record { by = λ next rest h. flush_good os _ f.0 (tt, jump_good (is_end xs) _ rest ((emit_good xs [] v base f.2).by next rest h) h) }
  emit_good (item Return xs) os v base f = record { by = λ next rest h. flush_good os _ f.0 (tt, jump_good (is_end xs) _ rest ((emit_good xs [] v base f.2).by next rest h) h) }

  pub body_runs : (body : ItemList) → RunsFit body [] → RunsHave (body_entries body)
  body_runs body f = (emit_good body [] _ 1 f).by 0 _ (tt, tt)
