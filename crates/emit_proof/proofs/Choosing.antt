-- A test and the two parts between which it chooses.
use Rattle.std.proofs.Common.{◌≡◌, ℕ, ◌+◌, ◌<◌, Bool, true, false, inl, List, ◌∷◌, Option, Some, None, refl, sym, ap, ◌∙◌, subst, arith, eqb-true}
use Rattle.std.specs.Prelude.{◌==◌, if◌then◌else◌, not}
use Rattle.acc_code.specs.declared.operation.Test.{Test}
use Rattle.acc_code.specs.declared.operation.Test.TheVariants.{Gz, Lez, Lz, Gez, Nz, Z}
use Rattle.acc_code.specs.AccTree.{Op, If, Loop, Switch, Case, Clear, Call, Helper, Break, Continue, Return, ItemList, end, item}
use Rattle.c25_code.specs.Work.{Work}
use Rattle.c25_code.specs.Straight.{is_taken}
use Rattle.c25_code.proofs.Items.{jump_passed}
use Rattle.ir_semantics.specs.Parts.{Res, Does, choose, Flow}
use Rattle.ir_semantics.specs.AccRows.{Acc, Gone, Low, Whole, holds, whole_of}
use Rattle.ir_semantics.specs.AccRun.{Machine, run, without_scratch}
use Rattle.emit_proof.specs.Registers.{AccAlike}
use Rattle.emit_proof.proofs.Questions.{asks_above, asks_at_most, asks_below, asks_at_least}
use Rattle.emit_control.specs.declared.ways.Ways.{Ways}
use Rattle.emit_control.specs.Entries.{Entry, Place, Branch}
use Rattle.emit_control.specs.Flow.{Part, opposite, goto, target, if_code}
use Rattle.emit_control.specs.Cuts.{jump_on, behind_entry}
use Rattle.emit_proof.specs.Arrivals.{Begun}
use Rattle.emit_proof.proofs.Knowing.{without_scratch_beside, more_work_beside}
use Rattle.emit_proof.proofs.Grounds.{Ground, Exit, Standing, Arrived, begun_at, exit, Comes, exits, MeetsAt, Falls, is_reached, jump_to}
use Rattle.emit_proof.proofs.Arriving.{earlier, earlier_comes, comes_here, goes_on}
use Rattle.emit_proof.proofs.Falling.{jumped, place_begins, goes}
use Rattle.emit_proof.proofs.Skipping.{somewhere, behind_first, placed}
use Rattle.emit_proof.proofs.Parts.{PartMeets}

asks : (t : Test) (z : ℕ) → holds t z ≡ is_taken (jump_on t) z
asks Gz z = asks_above z
asks Lez z = asks_at_most z
asks Lz z = asks_below z
asks Gez z = asks_at_least z
asks Nz z = refl
asks Z z = refl

not_not : (b : Bool) → not (not b) ≡ b
not_not true = refl
not_not false = refl

opposed : (t : Test) (z : ℕ) → holds (opposite t) z ≡ not (holds t z)
opposed Gz z = sym (not_not (holds Lez z))
opposed Lez z = refl
opposed Lz z = refl
opposed Gez z = sym (not_not (holds Lz z))
opposed Nz z = sym (not_not (holds Z z))
opposed Z z = refl

pub whole_alike : (a : Acc) (acc z : ℕ) → whole_of a ≡ Some z → AccAlike a acc → acc ≡ z
whole_alike Gone acc z e h = cc
whole_alike (Low x) acc z e h = cc
whole_alike (Whole y) acc z e h = h ∙ some_inj y z e
  where
    some_inj : (x y : ℕ) → Some x ≡ Some y → x ≡ y
    some_inj x y e = cc

module _ (g : Ground) where
  -- a branch goes where its test says, in a step
  pub branches : (R : Type 0) (t : Test) (l pc z : ℕ) (es : List Entry) (b : Begun) (v : Machine) (w : Work) → Standing g pc (Branch t l ∷ es) → Arrived g b pc v w → whole_of v.registers.acc ≡ Some z
      → (holds t z ≡ true → is_reached g.finished l ≡ true → Arrived g (begun_at (b.steps + 1) v) (g.label l) v w → R)
      → (holds t z ≡ false → Standing g (pc + 2) es → Arrived g (begun_at (b.steps + 1) v) (pc + 2) v w → R) → R
  branches R t l pc z es b v w s h known hit miss = by (holds t z) refl
    where
      taken_is : (e : Bool) → holds t z ≡ e → is_taken (jump_on t) w.acc ≡ e
      taken_is e f = ap (is_taken (jump_on t)) (whole_alike v.registers.acc w.acc z known h.beside.registers.acc) ∙ sym (asks t z) ∙ f

      by : (e : Bool) → holds t z ≡ e → R
      by true f = hit f (s.lead.0.jumps l (inl refl)) (jumped g b pc l (jump_on t) v w s.at.0.items.0 (s.at.0.jumps l (inl refl)) (taken_is true f) h)
      by false f =
          let room : pc + 2 < 65536 = s.at.0.room tt in
          miss f (record { state = behind_entry g.setting s.state (Branch t l); at = s.at.1; lead = s.lead.1; passes = tt })
          (goes_on g b 1 pc (pc + 2) v v w w h (jump_passed g.program pc (jump_on t) (g.marks l) w s.at.0.items.0 room (taken_is false f)) refl h.beside)

  -- where a part that is a jump alone leads to
  abbrev pub IsAim : Ways → Option ℕ → Does Machine Flow → Type 0
  IsAim ways None run = Unit {0}
  IsAim ways (Some l) run = (b : Begun) (slack : ℕ) (v : Machine) → Comes g b (exit g l) 1 slack v → MeetsAt g b (exits g ways) 1 slack (run v)

  -- a jump's weight is spare
  aims_on : (b : Begun) (x : Exit) (slack n : ℕ) (v : Machine) → Comes g b x 1 slack v → Comes g b x 1 slack (without_scratch (record v { work = v.work + n }))
  aims_on b x slack n v h = record {
    steps = h.steps;
    work = h.work;
    came = h.came;
    beside = without_scratch_beside g.site (record v { work = v.work + n }) h.work (more_work_beside g.site v h.work (v.work + n) h.beside);
    least_steps = h.least_steps;
    within = omega (arith, h.within);
    reached = h.reached;
  }

  pub aims : (ways : Ways) (xs : ItemList) → IsAim ways (target ways xs) (run g.context xs)
  aims ways end = λ b slack v h. h
  aims ways (item Break end) = λ b slack v h. aims_on b (exit g ways.broken) slack 2 v h
  aims ways (item Continue end) = λ b slack v h. aims_on b (exit g ways.continued) slack 2 v h
  aims ways (item Break (item x xs)) = tt
  aims ways (item Continue (item x xs)) = tt
  aims ways (item (Op o m) xs) = tt
  aims ways (item (If t hit miss) xs) = tt
  aims ways (item (Loop before body third last) xs) = tt
  aims ways (item (Switch cases body) xs) = tt
  aims ways (item (Case n) xs) = tt
  aims ways (item (Clear o from) xs) = tt
  aims ways (item (Call f) xs) = tt
  aims ways (item (Helper name) xs) = tt
  aims ways (item Return xs) = tt

  -- two parts, by the labels to which they lead at once
  module _ (ways : Ways) (hit miss : Does Machine Flow) (t : Test) (z : ℕ) where
    abbrev Chosen : Begun → Machine → Type 0
    Chosen b v = MeetsAt g b (exits g ways) 1 6 (choose (holds t z) hit miss v)

    chosen_hit : (b : Begun) (v : Machine) → holds t z ≡ true → MeetsAt g b (exits g ways) 1 6 (hit v) → Chosen b v
    chosen_hit b v e h = subst (λ x. MeetsAt g b (exits g ways) 1 6 (choose x hit miss v)) (sym e) h

    chosen_miss : (b : Begun) (v : Machine) → holds t z ≡ false → MeetsAt g b (exits g ways) 1 6 (miss v) → Chosen b v
    chosen_miss b v e h = subst (λ x. MeetsAt g b (exits g ways) 1 6 (choose x hit miss v)) (sym e) h

    otherwise : (e e' : Bool) → holds (opposite t) z ≡ e → not e ≡ e' → holds t z ≡ e'
    otherwise e e' f same = sym (not_not (holds t z)) ∙ sym (ap not (opposed t z)) ∙ ap not f ∙ same

    -- a part, or a label, behind the branch
    part_behind : (b : Begun) (v : Machine) (least : ℕ) (r : Res Machine Flow) → b.work ≡ v.work → MeetsAt g (begun_at (b.steps + 1) v) (exits g ways) least 4 r → MeetsAt g b (exits g ways) 1 6 r
    part_behind b v least r same h = earlier g b (begun_at (b.steps + 1) v) (exits g ways) 1 least 6 4 r (omega arith) (omega arith) (omega (arith, same)) h

    aim_taken : (run : Does Machine Flow) (l : ℕ) (b : Begun) (v : Machine) (w : Work) → IsAim ways (Some l) run → b.work ≡ v.work → is_reached g.finished l ≡ true → Arrived g (begun_at (b.steps + 1) v) (g.label l) v w → MeetsAt g b (exits g ways) 1 6 (run v)
    aim_taken run l b v w aim same reached h = aim b 6 v (comes_here g b (begun_at (b.steps + 1) v) (exit g l) 1 6 v w reached (omega arith) (omega (arith, same)) h)

    aim_behind : (run : Does Machine Flow) (l least : ℕ) (b : Begun) (v : Machine) → IsAim ways (Some l) run → b.work ≡ v.work → Comes g (begun_at (b.steps + 1) v) (exit g l) least 1 v → MeetsAt g b (exits g ways) 1 6 (run v)
    aim_behind run l least b v aim same h = aim b 6 v (earlier_comes g b (begun_at (b.steps + 1) v) (exit g l) 1 least 6 1 v (omega arith) (omega (arith, same)) h)

    module _ (ph pm : Part) (l next bound bound' pc : ℕ) (rest : List Entry) (b : Begun) (v : Machine) (w : Work) (inner : is_reached g.finished l ≡ true) (begins : Falls g next rest) (h : Arrived g b pc v w) (known : whole_of v.registers.acc ≡ Some z) where
      two_aims : (same : Bool) (x y : ℕ) → (same ≡ true → x ≡ next) → IsAim ways (Some x) hit → IsAim ways (Some y) miss → Standing g pc (if same then Branch (opposite t) y ∷ rest else Branch t x ∷ goto y next rest) → Chosen b v
      two_aims true x y e ah am s =
          branches (Chosen b v) (opposite t) y pc z rest b v w s h known
          (λ f r a. chosen_miss b v (otherwise true false f refl) (aim_taken miss y b v w am h.work r a))
          (λ f s' a. chosen_hit b v (otherwise false true f refl) (aim_behind hit x 0 b v ah h.work
          (subst (λ q. Comes g (begun_at (b.steps + 1) v) (exit g q) 0 1 v) (sym (e refl)) (begins.by (pc + 2) (begun_at (b.steps + 1) v) v w s' a))))
      two_aims false x y e ah am s =
          branches (Chosen b v) t x pc z (goto y next rest) b v w s h known
          (λ f r a. chosen_hit b v f (aim_taken hit x b v w ah h.work r a))
          (λ f s' a. chosen_miss b v f (aim_behind miss y (jump_to y next) b v am h.work (goes g y next (pc + 2) rest (begun_at (b.steps + 1) v) v w s' begins a)))

      pub choose_meets : (x y : Option ℕ) → IsAim ways x hit → IsAim ways y miss → PartMeets g ways bound ph hit → PartMeets g ways bound' pm miss → l < bound → next < bound → next < bound' → Standing g pc (if_code t x y ph pm l next rest) → Chosen b v
      choose_meets (Some x) (Some y) ah am mh mm lb nb nb' s = two_aims (x == next) x y (eqb-true x next) ah am s
      choose_meets (Some x) None ah am mh mm lb nb nb' s =
          branches (Chosen b v) t x pc z (pm next rest) b v w s h known
          (λ f r a. chosen_hit b v f (aim_taken hit x b v w ah h.work r a))
          (λ f s' a. chosen_miss b v f (part_behind b v (jump_to ways.onward next) (miss v) h.work (mm.by next (pc + 2) rest (begun_at (b.steps + 1) v) v w s' begins nb' a)))
      choose_meets None (Some y) ah am mh mm lb nb nb' s =
          branches (Chosen b v) (opposite t) y pc z (ph next rest) b v w s h known
          (λ f r a. chosen_miss b v (otherwise true false f refl) (aim_taken miss y b v w am h.work r a))
          (λ f s' a. chosen_hit b v (otherwise false true f refl) (part_behind b v (jump_to ways.onward next) (hit v) h.work (mh.by next (pc + 2) rest (begun_at (b.steps + 1) v) v w s' begins nb a)))
      choose_meets None None ah am mh mm lb nb nb' s =
          let other : Standing g (g.label l) (pm next rest) = placed g l (pm next rest) (mh.behind l (Place l ∷ pm next rest) (behind_first g (Branch (opposite t) l) _ (somewhere g pc _ s))) in
          branches (Chosen b v) (opposite t) l pc z (ph l (Place l ∷ pm next rest)) b v w s h known
          (λ f r a. chosen_miss b v (otherwise true false f refl) (part_behind b v (jump_to ways.onward next) (miss v) h.work (mm.by next (g.label l) rest (begun_at (b.steps + 1) v) v w other begins nb' a)))
          (λ f s' a. chosen_hit b v (otherwise false true f refl) (part_behind b v (jump_to ways.onward l) (hit v) h.work (mh.by l (pc + 2) (Place l ∷ pm next rest) (begun_at (b.steps + 1) v) v w s' (place_begins g l (pm next rest) inner) lb a)))
