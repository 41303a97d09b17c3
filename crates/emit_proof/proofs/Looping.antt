-- A Loop, wherever its code stands.
use Rattle.std.proofs.Common.{◌≡◌, ◌≢◌, ℕ, ◌+◌, ◌<◌, ◌≤◌, Bool, List, ◌∷◌, refl, sym, subst, arith}
use Rattle.std.specs.Prelude.{if◌then◌else◌}
use Rattle.std.proofs.lemmas.Bool.{ne_eqb}
use Rattle.acc_code.specs.AccTree.{Loop, ItemList, end, item}
use Rattle.c25_code.specs.Work.{Work}
use Rattle.ir_semantics.specs.AccRun.{Machine, run, run_item, turns, without_scratch}
use Rattle.emit_control.specs.declared.ways.Ways.{Ways}
use Rattle.emit_control.specs.Entries.{Entry, Place, Close}
use Rattle.emit_control.specs.Flow.{Part, is_end, loop_code, turn_end, first_ways, turn_ways, third_ways}
use Rattle.emit_proof.specs.Arrivals.{Begun}
use Rattle.emit_proof.proofs.Falling.{inner_reached, place_begins, close_begins}
use Rattle.emit_proof.proofs.Grounds.{Ground, Standing, Arrived, begun_at, exit, exits, MeetsAt, Falls, jump_to}
use Rattle.emit_proof.proofs.Arriving.{comes_here, counted, scratch_forgotten}
use Rattle.emit_proof.proofs.Skipping.{somewhere, headed, placed}
use Rattle.emit_proof.proofs.Between.{forgets}
use Rattle.emit_proof.proofs.Turning.{turns_meet}
use Rattle.emit_proof.proofs.Parts.{PartMeets}

pub jump_far : (k next : ℕ) → next < k → jump_to k next ≡ 1
jump_far k next less = let other : k ≢ next = omega arith in subst (λ b. ◌≡◌ {A = ℕ} (if b then 0 else 1) 1) (sym (ne_eqb k next other)) refl

module _ (g : Ground) (before body third : ItemList) (last : Bool) (ways : Ways) (base : ℕ) where
  -- from the head, where each part meets and each turn takes a step
  turns_from : (least least' : ℕ) (pc : ℕ) (b : Begun) (v : Machine) (w : Work) → 1 ≤ least + least'
      → ((b' : Begun) (u : Machine) (w' : Work) → Arrived g b' (g.label (base + 1)) u w' → MeetsAt g b' (exits g (first_ways third base ways)) (jump_to (base + 2) (base + 2)) 4 (run g.context before u))
      → ((b' : Begun) (u : Machine) (w' : Work) → Arrived g b' (g.label (base + 2)) u w' → MeetsAt g b' (exits g (turn_ways third base ways)) least 4 (run g.context body u))
      → ((b' : Begun) (u : Machine) (w' : Work) → Arrived g b' (g.label (turn_end third base)) u w' → MeetsAt g b' (exits g (third_ways base ways)) least' 4 (run g.context third u))
      → g.label (base + 1) ≡ pc → Arrived g b pc v w → MeetsAt g b (exits g ways) 1 0 (run_item g.context (Loop before body third last) v)
  turns_from least least' pc b v w moves first turn third' here h =
      let v' : Machine = record v { work = v.work + 6 } in
      let u : Machine = without_scratch v' in
      let b' : Begun = begun_at b.steps v' in
      let there : Arrived g b' pc u w = scratch_forgotten g b' pc v' w (counted g b pc 6 v w h) in
      forgets g b b' (exits g ways) 1 0 12 (turns g.context.limit (run g.context before) (run g.context body) (run g.context third) u) (omega arith) (omega (arith, h.work))
      (turns_meet g (exits g ways) (exit g (base + 1)) (exit g (base + 2)) (exit g (turn_end third base)) (jump_to (base + 2) (base + 2)) least least' (run g.context before) (run g.context body) (run g.context third) moves first turn third'
      g.context.limit b' u w (subst (λ a. Arrived g b' a u w) (sym here) there) (omega arith))

  first_meets : (bound : ℕ) (pb : Part) (rest : List Entry) → PartMeets g (first_ways third base ways) bound pb (run g.context before) → base + 2 < bound → Standing g (g.label (base + 1)) (pb (base + 2) (Place (base + 2) ∷ rest))
      → (b : Begun) (v : Machine) (w : Work) → Arrived g b (g.label (base + 1)) v w → MeetsAt g b (exits g (first_ways third base ways)) (jump_to (base + 2) (base + 2)) 4 (run g.context before v)
  first_meets bound pb rest mb far s b v w a = mb.by (base + 2) (g.label (base + 1)) (Place (base + 2) ∷ rest) b v w s (place_begins g (base + 2) rest (inner_reached g.finished (base + 2) (omega arith))) far a

-- without a third part, and with one
module _ (g : Ground) (before body : ItemList) (last : Bool) (ways : Ways) (base next bound bound' bound'' pc : ℕ) (pb pt pu : Part) (rest : List Entry) (b : Begun) (v : Machine) (w : Work)
    (far : base + 2 < bound) (far' : base + 3 < bound') (far'' : next < bound'') (low : next < base + 1) (begins : Falls g next rest) (h : Arrived g b pc v w) where
  pub loop_meets : (third : ItemList) → PartMeets g (first_ways third base ways) bound pb (run g.context before) → PartMeets g (turn_ways third base ways) bound' pt (run g.context body) → PartMeets g (third_ways base ways) bound'' pu (run g.context third)
      → Standing g pc (loop_code (is_end third) (base + 1) (base + 2) (base + 3) pb pt pu next rest) → MeetsAt g b (exits g ways) 1 0 (run_item g.context (Loop before body third last) v)
  loop_meets end mb mt mu s =
      let rest' : List Entry = pt next (Close (base + 1) next ∷ rest) in
      let top = headed g (base + 1) pc (pb (base + 2) (Place (base + 2) ∷ rest')) s in
      let start = placed g (base + 2) rest' (mb.behind (base + 2) (Place (base + 2) ∷ rest') (somewhere g _ _ top.1)) in
      let moves : 1 ≤ jump_to (base + 1) next + 0 = omega (arith, jump_far (base + 1) next low) in
      turns_from g before body end last ways base (jump_to (base + 1) next) 0 pc b v w moves
      (first_meets g before body end last ways base bound pb rest' mb far top.1)
      (λ b' u w' a. mt.by next (g.label (base + 2)) (Close (base + 1) next ∷ rest) b' u w' start (close_begins g (base + 1) next rest begins) (omega (arith, low, far')) a)
      (λ b' u w' a. comes_here g b' b' (exit g (base + 1)) 0 4 u w' (inner_reached g.finished (base + 1) (omega arith)) (omega arith) (omega arith) a)
      top.0 h
  loop_meets (item x xs) mb mt mu s =
      let tail : List Entry = pu next (Close (base + 1) next ∷ rest) in
      let rest' : List Entry = pt (base + 3) (Place (base + 3) ∷ tail) in
      let top = headed g (base + 1) pc (pb (base + 2) (Place (base + 2) ∷ rest')) s in
      let start = placed g (base + 2) rest' (mb.behind (base + 2) (Place (base + 2) ∷ rest') (somewhere g _ _ top.1)) in
      let go = placed g (base + 3) tail (mt.behind (base + 3) (Place (base + 3) ∷ tail) (somewhere g _ _ start)) in
      let moves : 1 ≤ jump_to (base + 3) (base + 3) + jump_to (base + 1) next = omega (arith, jump_far (base + 1) next low) in
      turns_from g before body (item x xs) last ways base (jump_to (base + 3) (base + 3)) (jump_to (base + 1) next) pc b v w moves
      (first_meets g before body (item x xs) last ways base bound pb rest' mb far top.1)
      (λ b' u w' a. mt.by (base + 3) (g.label (base + 2)) (Place (base + 3) ∷ tail) b' u w' start (place_begins g (base + 3) tail (inner_reached g.finished (base + 3) (omega arith))) far' a)
      (λ b' u w' a. mu.by next (g.label (base + 3)) (Close (base + 1) next ∷ rest) b' u w' go (close_begins g (base + 1) next rest begins) far'' a)
      top.0 h
