-- The runs of an image's functions, and the scalars of their frames as the lists have them, give a walk their blocks.
use Rattle.std.proofs.Common.{◌≡◌, ◌<◌, ◌≤◌, ℕ, zero, suc, ◌+◌, ◌||◌, Bool, true, false, cond, List, [], ◌∷◌, ◌++◌, length, map, Option, Some, None, refl, sym, ap, ap₂, ◌∙◌, subst, lt-ltb, arith}
use Rattle.std.specs.Prelude.{⊤, ◌==◌, if◌then◌else◌, slice_get, slice_index, count_by, All}
use Rattle.std.specs.List.{concat, list_any, AllByRecursion}
use Rattle.std.proofs.lemmas.List.Elements.{All-from_recursion}
use Rattle.std.proofs.lemmas.List.Sums.{sum_by-append}
use Rattle.std.proofs.lemmas.Option.{same_Some, slice_get_within}
use Rattle.tree_code.specs.WordHelpers.{uses_helper}
use Rattle.tree_code.specs.WordTree.{FunctionCode}
use Rattle.lay_cost.specs.Cost.{block_cost}
use Rattle.lay_cost.specs.Placements.{has, list_of, place_in, placement_of}
use Rattle.lay_cost.specs.Placements as lay
use Rattle.acc_code.specs.declared.operand.AccOperand.{AccOperand}
use Rattle.acc_code.specs.declared.operand.AccOperand.TheVariants as operand
use Rattle.acc_code.specs.declared.operation.AccOp.{AccOp}
use Rattle.acc_code.specs.declared.operation.Test.{Test}
use Rattle.acc_code.specs.AccTree.{FunctionItems, Item, Op, If, Loop, Switch, Case, Clear, Call, Helper, Break, Continue, Return, ItemList, end, item}
use Rattle.acc_code.specs.AccSequence.{Rest, NamesBelow, blocks_of, accesses, item_accesses, operand_accesses, cut}
use Rattle.acc_code.specs.Emittable.{Throughout, Within}
use Rattle.image_proof.specs.acc_select.IsSelected.{IsEmittableFunction, object_cells, called_parameters}
use Rattle.mem_plan.specs.declared.data_plan.FramePlan.{FramePlan}
use Rattle.mem_plan.specs.Plan.{list_bases, frame_of}
use Rattle.mem_plan.specs.Ranges.{range, ScalarWord, scalar_range, list_range, range_of}
use Rattle.c25_isa.specs.Step.{wrap16}
use Rattle.emit_blocks.specs.declared.site.ScalarPlace.{ScalarPlace}
use Rattle.emit_blocks.specs.Places.{scalar_or_zero}
use Rattle.emit_blocks.specs.Right.{IsRight, AreRight}
use Rattle.emit_blocks.specs.Steps.{Operation, operation}
use Rattle.image_proof.specs.emit_control.declared.ways.Ways.{Ways}
use Rattle.image_proof.specs.emit_control.Emits.{IsRightItem}
use Rattle.image_proof.specs.emit_control.Entries.{Entry, Run, Place, Close, Branch, Goto, flushed}
use Rattle.image_proof.specs.emit_control.Flow.{Part, labels, item_labels, is_end, opposite, target, goto, if_code, loop_code, behind_label, behind_jump, inner, first_ways, turn_ways, third_ways, switch_ways, emit, body_entries}
use Rattle.image_proof.specs.emit_control.Settings.{Setting}
use Rattle.image_proof.specs.frame_emit.Emitted.{setting_of}
use Rattle.image_proof.specs.frame_emit.Frames.{place, one_further, position_in, place_or, scalar_place, scalar_places}
use Rattle.image_proof.proofs.frame_emit.Naming.{all_right}
use Rattle.image_proof.specs.ActiveSites.{parameters_of}
use Rattle.image_proof.specs.Emissions.{Emission, IsEmission}
use Rattle.image_proof.proofs.Frames.{FrameAt, frame_at}
use Rattle.image_proof.proofs.Placed.{places_long, place_there}
use Rattle.image_proof.proofs.WordsOfSites.{WordOf, word_within}
use Rattle.image_proof.specs.AgreeingWalks.{LieAs}
use Rattle.image_proof.specs.RunWalks.{with_scalar, scalars_of, address_of, AreOverScalars}
use Rattle.image_proof.proofs.Arranging.{lists_agree}
use Rattle.image_proof.proofs.WholeWalks.{run_walks}
use Rattle.image_proof.specs.PieceWalks.{EntryWalks, RunsWalk}
use Rattle.image_proof.specs.FrameWords.{place_of}
use Rattle.image_proof.specs.FunctionWalks.{IsFunctionOf}

-- where a scalar stands in a list, by whether it does
positions_so : (l : List ℕ) (n : ℕ) → position_in l n ≡ (if has l n then Some (lay.position_in l n) else None)
positions_so [] n = refl
positions_so (m ∷ ms) n = by (m == n) (has ms n) (positions_so ms n)
  where
    by : (b c : Bool) → position_in ms n ≡ (if c then Some (lay.position_in ms n) else None)
        → (if b then Some 0 else one_further (position_in ms n)) ≡ (if b || c then Some (if b then 0 else suc (lay.position_in ms n)) else None)
    by true c is = refl
    by false true is = ap one_further is
    by false false is = ap one_further is

position_within : (l : List ℕ) (n : ℕ) → has l n ≡ true → lay.position_in l n < length l
position_within [] n there = absurd cc
position_within (m ∷ ms) n there = by (m == n) there (position_within ms n)
  where
    by : (b : Bool) → (b || has ms n) ≡ true → (has ms n ≡ true → lay.position_in ms n < length ms) → (if b then 0 else suc (lay.position_in ms n)) < suc (length ms)
    by true is rest = omega arith
    by false is rest = let less = rest is in omega (arith, less)

abbrev counted : Bool → ℕ
counted b = cond b 1 0

pub counted_none : (l : List ℕ) (n : ℕ) → has l n ≡ false → count_by (λ s. s == n) l ≡ 0
counted_none [] n none = refl
counted_none (m ∷ ms) n none = by (m == n) refl none (counted_none ms n)
  where
    by : (b : Bool) → (m == n) ≡ b → (b || has ms n) ≡ false → (has ms n ≡ false → count_by (λ s. s == n) ms ≡ 0) → count_by (λ s. s == n) (m ∷ ms) ≡ 0
    by true is more rest = absurd cc
    by false is more rest =
        let split : count_by (λ s. s == n) (m ∷ ms) ≡ 0 + counted (m == n) + count_by (λ s. s == n) ms = sum_by-append (λ s. counted (s == n)) (m ∷ []) ms in
        let first : counted (m == n) ≡ 0 = ap counted is in
        let later = rest more in
        omega (arith, split, first, later)

-- the place of a scalar, by the number of its list and its position there
record PlacedAs (lists : List (List ℕ)) (bases : List ℕ) (r number position : ℕ) (p : ScalarPlace) : Type 0 where
  list : List ℕ
  there : slice_get lists number ≡ Some list
  based : slice_get bases number ≡ Some (slice_index bases number)
  inside : position < length list
  placed : p ≡ place (r + number) (wrap16 (slice_index bases number + position))

placed_as : (lists : List (List ℕ)) (at r n : ℕ) → 1 ≤ count_by (λ s. s == n) (concat lists) → PlacedAs lists (list_bases at lists) r (list_of lists n) (place_in lists n) (scalar_place lists (list_bases at lists) r n)
placed_as [] at r n some = absurd (omega (arith, some))
placed_as (l ∷ ls) at r n some =
    subst (λ o. PlacedAs (l ∷ ls) bases r (list_of (l ∷ ls) n) (place_in (l ∷ ls) n) (place_or o at r later)) (sym (positions_so l n))
    (by (has l n) refl (placed_as ls (at + length l) (suc r) n))
  where
    bases : List ℕ
    bases = at ∷ list_bases (at + length l) ls

    later : ScalarPlace
    later = scalar_place ls (list_bases (at + length l) ls) (suc r) n

    by : (b : Bool) → has l n ≡ b → (1 ≤ count_by (λ s. s == n) (concat ls) → PlacedAs ls (list_bases (at + length l) ls) (suc r) (list_of ls n) (place_in ls n) later)
        → PlacedAs (l ∷ ls) bases r (if b then 0 else suc (list_of ls n)) (if b then lay.position_in l n else place_in ls n) (place_or (if b then Some (lay.position_in l n) else None) at r later)
    by true is rest =
        let same : r ≡ r + 0 = omega arith in
        record { list = l; there = refl; based = refl; inside = position_within l n is; placed = ap (λ k. place k (wrap16 (at + lay.position_in l n))) same }
    by false is rest =
        let sum : count_by (λ s. s == n) (l ++ concat ls) ≡ count_by (λ s. s == n) l + count_by (λ s. s == n) (concat ls) = sum_by-append (λ s. counted (s == n)) l (concat ls) in
        let none = counted_none l n is in
        let h = rest (omega (arith, sum, some, none)) in
        let further : suc r + list_of ls n ≡ r + suc (list_of ls n) = omega arith in
        record {
          list = h.list;
          there = h.there;
          based = h.based;
          inside = h.inside;
          placed = h.placed ∙ ap (λ k. place k (wrap16 (slice_index (list_bases (at + length l) ls) (list_of ls n) + place_in ls n))) further;
        }

-- registers of at most four lists are AR2 to AR5
record IsOver (p : ScalarPlace) : Type 0 where
  own : 2 ≤ p.register
  few : p.register ≤ 5
  word : p.address < 65536

over_by : (o : Option ℕ) (base r : ℕ) (other : ScalarPlace) → 2 ≤ r → r ≤ 5 → IsOver other → IsOver (place_or o base r other)
over_by None base r other two few h = h
over_by (Some i) base r other two few h = record { own = two; few = few; word = omega arith }

is_over : (lists : List (List ℕ)) (bases : List ℕ) (r n : ℕ) → 2 ≤ r → r + length lists ≤ 6 → IsOver (scalar_place lists bases r n)
is_over [] bases r n two few = record { own = omega arith; few = omega arith; word = omega arith }
is_over (l ∷ ls) [] r n two few = record { own = omega arith; few = omega arith; word = omega arith }
is_over (l ∷ ls) (b ∷ bs) r n two few =
    over_by (position_in l n) b r (scalar_place ls bs (suc r) n) two (omega (arith, few)) (is_over ls bs (suc r) n (omega (arith, two)) (omega (arith, few)))

are_over : (lists : List (List ℕ)) (bases : List ℕ) → length lists ≤ 4 → (n count : ℕ) → AreOverScalars (scalar_places lists bases n count)
are_over lists bases few n zero = tt
are_over lists bases few n (suc count) =
    let h = is_over lists bases 2 n (omega arith) (omega (arith, few)) in
    (h.own, h.few, h.word, are_over lists bases few (suc n) count)

position_range : (base i : ℕ) (list : List ℕ) → i < length list → scalar_range (Some base) (Some list) i ≡ Some (range (base + i) 1)
position_range base i list less = ap (λ b. if b then Some (range (base + i) 1) else None) (lt-ltb i (length list) less)

-- runs of right operations, whose scalars are there, give a walk their blocks: so do all of a body's entries
module _ (m : Setting) (cost : List ℕ → ℕ) (walks : (os : List Operation) → AreRight os → All (λ n. n < length m.places.scalars) (scalars_of os) → EntryWalks m cost (Run os)) where
  abbrev Walks : List Entry → Type 0
  Walks = RunsWalk m cost

  abbrev AreGood : List Operation → Type 0
  AreGood [] = ⊤
  AreGood (o ∷ os) = IsRight o × NamesBelow (length m.places.scalars) (Op o.row o.operand) × AreGood os

  good_more : (os : List Operation) (o : AccOp) (n : AccOperand) → AreGood os → IsRight (operation o n) → NamesBelow (length m.places.scalars) (Op o n) → AreGood (os ++ operation o n ∷ [])
  good_more [] o n h right below = (right, below, tt)
  good_more (p ∷ os) o n h right below = (h.0, h.1, good_more os o n h.2 right below)

  good_right : (os : List Operation) → AreGood os → AreRight os
  good_right [] h = tt
  good_right (o ∷ os) h = (h.0, good_right os h.2)

  with_below : (o : AccOp) (n : AccOperand) (ns : List ℕ) → NamesBelow (length m.places.scalars) (Op o n) → AllByRecursion (λ k. k < length m.places.scalars) ns → AllByRecursion (λ k. k < length m.places.scalars) (with_scalar n ns)
  with_below o operand.Nothing ns below h = h
  with_below o (operand.Scalar k) ns below h = (below, h)
  with_below o (operand.Direct v) ns below h = h
  with_below o (operand.Param f k) ns below h = h
  with_below o (operand.Scratch k) ns below h = h
  with_below o (operand.Number w) ns below h = h
  with_below o (operand.Address v k) ns below h = h
  with_below o operand.Pointed ns below h = h

  good_below : (os : List Operation) → AreGood os → AllByRecursion (λ k. k < length m.places.scalars) (scalars_of os)
  good_below [] h = tt
  good_below (o ∷ os) h = with_below o.row o.operand (scalars_of os) h.1 (good_below os h.2)

  flush_walks : (os : List Operation) (es : List Entry) → AreGood os → Walks es → Walks (flushed os es)
  flush_walks [] es good h = h
  flush_walks (o ∷ os) es good h = (walks (o ∷ os) (good_right (o ∷ os) good) (All-from_recursion (λ k. k < length m.places.scalars) (scalars_of (o ∷ os)) (good_below (o ∷ os) good)), h)

  record KeepsWalks (p : Part) : Type 0 where
    by : (next : ℕ) (rest : List Entry) → Walks rest → Walks (p next rest)

  goto_walks : (b : Bool) (k : ℕ) (rest : List Entry) → Walks rest → Walks (if b then rest else Goto k ∷ rest)
  goto_walks true k rest h = h
  goto_walks false k rest h = (tt, h)

  if_walks : (a b : Option ℕ) (t : Test) (hit miss : Part) (l next : ℕ) (rest : List Entry) → KeepsWalks hit → KeepsWalks miss → Walks rest → Walks (if_code t a b hit miss l next rest)
  if_walks (Some a) (Some b) t hit miss l next rest ph pm h = both (a == next)
    where
      both : (e : Bool) → Walks (if e then Branch (opposite t) b ∷ rest else Branch t a ∷ goto b next rest)
      both true = (tt, h)
      both false = (tt, goto_walks (b == next) b rest h)
  if_walks (Some a) None t hit miss l next rest ph pm h = (tt, pm.by next rest h)
  if_walks None (Some b) t hit miss l next rest ph pm h = (tt, ph.by next rest h)
  if_walks None None t hit miss l next rest ph pm h = (tt, ph.by l _ (tt, pm.by next rest h))

  loop_walks : (none : Bool) (head start go : ℕ) (first body third : Part) (next : ℕ) (rest : List Entry) → KeepsWalks first → KeepsWalks body → KeepsWalks third → Walks rest → Walks (loop_code none head start go first body third next rest)
  loop_walks true head start go first body third next rest pf pb pt h = (tt, pf.by start _ (tt, pb.by next _ (tt, h)))
  loop_walks false head start go first body third next rest pf pb pt h = (tt, pf.by start _ (tt, pb.by go _ (tt, pt.by next _ (tt, h))))

  label_walks : (b : Bool) (base : ℕ) (code rest : List Entry) → Walks code → Walks rest → Walks (behind_label b base code rest)
  label_walks true base code rest c h = h
  label_walks false base code rest c h = (tt, c)

  jump_walks : (b : Bool) (code rest : List Entry) → Walks code → Walks rest → Walks (behind_jump b code rest)
  jump_walks true code rest c h = h
  jump_walks false code rest c h = c

  abbrev AreNamed : ItemList → Type 0
  AreNamed = Throughout (NamesBelow (length m.places.scalars))

  emit_walks : (xs : ItemList) (os : List Operation) (w : Ways) (base : ℕ) → AreGood os → Throughout IsRightItem xs → AreNamed xs → KeepsWalks (emit xs os w base)
  emit_walks end os w base good r b = record { by = λ next rest h. flush_walks os _ good (goto_walks (w.onward == next) w.onward rest h) }
  emit_walks (item (Op o n) xs) os w base good r b = record { by = λ next rest h. (emit_walks xs (os ++ operation o n ∷ []) w base (good_more os o n good r.0 b.0) r.2 b.2).by next rest h }
  emit_walks (item (If t hit miss) xs) os w base good r b = record {
    by = λ next rest h. flush_walks os _ good (if_walks (target (inner xs w base) hit) (target (inner xs w base) miss) t _ _ (base + 1) _ _
        (emit_walks hit [] (inner xs w base) (base + 2) tt r.1.0 b.1.0) (emit_walks miss [] (inner xs w base) (base + 2 + labels hit) tt r.1.1 b.1.1)
        (label_walks (is_end xs) base _ rest ((emit_walks xs [] w (base + item_labels (If t hit miss)) tt r.2 b.2).by next rest h) h));
  }
  emit_walks (item (Loop before body third last) xs) os w base good r b = record {
    by = λ next rest h. flush_walks os _ good (loop_walks (is_end third) (base + 1) (base + 2) (base + 3) _ _ _ _ _
        (emit_walks before [] (first_ways third base (inner xs w base)) (base + 4) tt r.1.0 b.1.0)
        (emit_walks body [] (turn_ways third base (inner xs w base)) (base + 4 + labels before) tt r.1.1 b.1.1)
        (emit_walks third [] (third_ways base (inner xs w base)) (base + 4 + labels before + labels body) tt r.1.2 b.1.2)
        (label_walks (is_end xs) base _ rest ((emit_walks xs [] w (base + item_labels (Loop before body third last)) tt r.2 b.2).by next rest h) h));
  }
  emit_walks (item (Switch cases body) xs) os w base good r b = record {
    by = λ next rest h. flush_walks os _ good (
      tt,
      (emit_walks body [] (switch_ways base (inner xs w base)) (base + 1 + length cases) tt r.1 b.1).by _ _
          (label_walks (is_end xs) base _ rest ((emit_walks xs [] w (base + item_labels (Switch cases body)) tt r.2 b.2).by next rest h) h),
    );
  }
  emit_walks (item (Case n) xs) os w base good r b = record { by = λ next rest h. flush_walks os _ good (tt, (emit_walks xs [] w base tt r.2 b.2).by next rest h) }
  emit_walks (item (Clear v from) xs) os w base good r b = record { by = λ next rest h. flush_walks os _ good (tt, (emit_walks xs [] w (base + 1) tt r.2 b.2).by next rest h) }
  emit_walks (item (Call f) xs) os w base good r b = record { by = λ next rest h. flush_walks os _ good (tt, (emit_walks xs [] w base tt r.2 b.2).by next rest h) }
  emit_walks (item (Helper name) xs) os w base good r b = record { by = λ next rest h. flush_walks os _ good (tt, (emit_walks xs [] w base tt r.2 b.2).by next rest h) }
  emit_walks (item Break xs) os w base good r b = record { by = λ next rest h. flush_walks os _ good (tt, jump_walks (is_end xs) _ rest ((emit_walks xs [] w base tt r.2 b.2).by next rest h) h) }
  emit_walks (item Continue xs) os w base good r b = record { by = λ next rest h. flush_walks os _ good (tt, jump_walks (is_end xs) _ rest ((emit_walks xs [] w base tt r.2 b.2).by next rest h) h) }
  emit_walks (item Return xs) os w base good r b = record { by = λ next rest h. flush_walks os _ good (tt, jump_walks (is_end xs) _ rest ((emit_walks xs [] w base tt r.2 b.2).by next rest h) h) }

  body_walks : (body : ItemList) → Throughout IsRightItem body → AreNamed body → Walks (body_entries body)
  body_walks body r b = (emit_walks body [] _ 1 tt r b).by 0 _ (tt, tt)

-- the scalars of a body's blocks are those of its operations
module _ (count : ℕ) where
  abbrev AreBelow : List ℕ → Type 0
  AreBelow = AllByRecursion (λ n. n < count)

  record KeepsBelow (κ : Rest) : Type 0 where
    by : (block : List ℕ) → AreBelow block → AllByRecursion AreBelow (κ block)

  one_more : (n : ℕ) (block : List ℕ) → AreBelow block → n < count → AreBelow (block ++ n ∷ [])
  one_more n [] h less = (less, tt)
  one_more n (x ∷ xs) h less = (h.0, one_more n xs h.1 less)

  cut_by : (κ : Rest) → KeepsBelow κ → (block : List ℕ) → AreBelow block → AllByRecursion AreBelow (cut κ block)
  cut_by κ h [] below = h.by [] tt
  cut_by κ h (x ∷ xs) below = (below, h.by [] tt)

  cut_keeps : (κ : Rest) → KeepsBelow κ → KeepsBelow (cut κ)
  cut_keeps κ h = record { by = cut_by κ h }

  operand_keeps : (o : AccOp) (m : AccOperand) (κ : Rest) → NamesBelow count (Op o m) → KeepsBelow κ → KeepsBelow (operand_accesses m κ)
  operand_keeps o (operand.Scalar n) κ less h = record { by = λ block below. h.by (block ++ n ∷ []) (one_more n block below less) }
  operand_keeps o operand.Nothing κ less h = h
  operand_keeps o (operand.Direct v) κ less h = h
  operand_keeps o (operand.Param f n) κ less h = h
  operand_keeps o (operand.Scratch n) κ less h = h
  operand_keeps o (operand.Number w) κ less h = h
  operand_keeps o (operand.Address v n) κ less h = h
  operand_keeps o operand.Pointed κ less h = h

  mutual
    item_keeps : (x : Item) → NamesBelow count x → Within (NamesBelow count) x → (κ : Rest) → KeepsBelow κ → KeepsBelow (item_accesses x κ)
    item_keeps (Op o m) p w κ h = operand_keeps o m κ p h
    item_keeps (If test hit miss) p w κ h = cut_keeps _ (list_keeps hit w.0 _ (cut_keeps _ (list_keeps miss w.1 _ (cut_keeps κ h))))
    item_keeps (Loop before body behind last) p w κ h = cut_keeps _ (list_keeps before w.0 _ (cut_keeps _ (list_keeps body w.1 _ (cut_keeps _ (list_keeps behind w.2 _ (cut_keeps κ h))))))
    item_keeps (Switch labels body) p w κ h = cut_keeps _ (list_keeps body w _ (cut_keeps κ h))
    item_keeps (Case n) p w κ h = cut_keeps κ h
    item_keeps (Clear v from) p w κ h = cut_keeps κ h
    item_keeps (Call f) p w κ h = cut_keeps κ h
    item_keeps (Helper name) p w κ h = cut_keeps κ h
    item_keeps Break p w κ h = cut_keeps κ h
    item_keeps Continue p w κ h = cut_keeps κ h
    item_keeps Return p w κ h = cut_keeps κ h

    list_keeps : (xs : ItemList) → Throughout (NamesBelow count) xs → (κ : Rest) → KeepsBelow κ → KeepsBelow (accesses xs κ)
    list_keeps end w κ h = h
    list_keeps (item x xs) w κ h = item_keeps x w.0 w.1 (accesses xs κ) (list_keeps xs w.2 κ h)

  blocks_below : (body : ItemList) → Throughout (NamesBelow count) body → AllByRecursion AreBelow (blocks_of body)
  blocks_below body w = (list_keeps body w (cut (λ block. [])) (cut_keeps (λ block. []) (record { by = λ block below. tt }))).by [] tt

  -- blocks whose scalars lie alike
  module _ (f g : ℕ → ℕ) (same : (n : ℕ) → n < count → f n ≡ g n) where
    block_same : (ns : List ℕ) → AreBelow ns → map f ns ≡ map g ns
    block_same [] h = refl
    block_same (n ∷ ns) h = ap₂ (λ x xs. x ∷ xs) (same n h.0) (block_same ns h.1)

    blocks_same : (bs : List (List ℕ)) → AllByRecursion AreBelow bs → map (map f) bs ≡ map (map g) bs
    blocks_same [] h = refl
    blocks_same (b ∷ bs) h = ap₂ (λ x xs. x ∷ xs) (block_same b h.0) (blocks_same bs h.1)

module _ (e : Emission) (k : ℕ) (code : FunctionCode) (g : FunctionItems) (frame : FramePlan) (lists : List (List ℕ)) (names : List (List ℕ)) (h : IsEmission e) (f : IsFunctionOf e k code g frame lists) where
  abbrev m : Setting
  m = setting_of e.plan e.step (parameters_of e) names code frame lists

  framed : FrameAt e k
  framed = frame_at e h k (slice_get_within e.code.functions k code f.code_at)

  bases_are : frame.bases ≡ list_bases framed.start lists
  bases_are =
      ap (λ (p : FramePlan). p.bases) (same_Some frame (frame_of framed.code framed.lists framed.start) (sym f.frame_at ∙ framed.framed))
      ∙ ap (list_bases framed.start) (same_Some framed.lists lists (sym framed.arranged ∙ f.lists_at))

  emittable : IsEmittableFunction e.code code g
  emittable = h.emittable.each k code g f.code_at f.items_at

  long : length m.places.scalars ≡ code.scalars
  long = places_long lists frame.bases 0 code.scalars

  placed_at : (n : ℕ) → n < code.scalars → PlacedAs lists frame.bases 2 (list_of lists n) (place_in lists n) (scalar_place lists frame.bases 2 n)
  placed_at n less =
      let one = (h.arranged.each k code lists f.code_at f.lists_at).arranges.once n less in
      subst (λ bases. PlacedAs lists bases 2 (list_of lists n) (place_in lists n) (scalar_place lists bases 2 n)) (sym bases_are) (placed_as lists framed.start 2 n (omega (arith, one)))

  -- its word lies in data memory
  word_low : (n : ℕ) → n < code.scalars → slice_index frame.bases (list_of lists n) + place_in lists n < 65536
  word_low n less =
      let p = placed_at n less in
      let base : ℕ = slice_index frame.bases (list_of lists n) in
      let lies : range_of e.code e.arrangements e.plan (ScalarWord k (list_of lists n) (place_in lists n)) ≡ Some (range (base + place_in lists n) 1) =
      (λ i. list_range (f.frame_at i) (f.lists_at i) (list_of lists n) (place_in lists n)) ∙ (λ i. scalar_range (p.based i) (p.there i) (place_in lists n)) ∙ position_range base (place_in lists n) p.list p.inside in
      let w : WordOf e (ScalarWord k (list_of lists n) (place_in lists n)) (base + place_in lists n) = record { range = range (base + place_in lists n) 1; is = lies; from = omega arith; to = omega arith } in
      (word_within e h (ScalarWord k (list_of lists n) (place_in lists n)) (base + place_in lists n) w (λ e. cc)).1

  place_at : (n : ℕ) → n < code.scalars → scalar_or_zero (slice_get m.places.scalars n) ≡ place (2 + list_of lists n) (slice_index frame.bases (list_of lists n) + place_in lists n)
  place_at n less =
      let low = word_low n less in
      let from : 0 + n ≡ n = omega arith in
      let same : wrap16 (slice_index frame.bases (list_of lists n) + place_in lists n) ≡ slice_index frame.bases (list_of lists n) + place_in lists n = omega (arith, low) in
      ap scalar_or_zero (place_there lists frame.bases 0 code.scalars n less) ∙ ap (λ i. scalar_or_zero (Some (scalar_place lists frame.bases 2 i))) from ∙ (placed_at n less).placed ∙ ap (place (2 + list_of lists n)) same

  pub over : AreOverScalars m.places.scalars
  over = are_over lists frame.bases (h.arranged.each k code lists f.code_at f.lists_at).few 0 code.scalars

  pub lie : LieAs m.places lists 2 (λ r. slice_index frame.bases r)
  lie = record {
    registers = λ n less. ap (λ (p : ScalarPlace). p.register) (place_at n (subst (λ c. n < c) long less));
    addresses = λ n less. ap (λ (p : ScalarPlace). p.address) (place_at n (subst (λ c. n < c) long less));
  }

  pub runs : RunsWalk m (block_cost e.step (placement_of lists)) (body_entries g.body)
  runs = body_walks m (block_cost e.step (placement_of lists))
      (λ os right below. run_walks m.places os (placement_of lists) over right below (lists_agree m.places lists 2 (λ r. slice_index frame.bases r) lie))
      g.body (all_right g.scalars (object_cells e.code code) (called_parameters e.code code) (uses_helper code.body) g.body emittable.body.refers)
      (subst (λ c. Throughout (NamesBelow c) g.body) (emittable.scalars ∙ sym long) emittable.frame.below)

  pub placed : map (map (address_of m.places)) (blocks_of g.body) ≡ map (map (place_of frame.bases lists)) (blocks_of g.body)
  placed = blocks_same g.scalars (address_of m.places) (place_of frame.bases lists) (λ n less. lie.addresses n (subst (λ c. n < c) (emittable.scalars ∙ sym long) less)) (blocks_of g.body)
      (blocks_below g.scalars g.body emittable.frame.below)
