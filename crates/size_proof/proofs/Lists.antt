-- The words of lists of items: at most what these weigh, with two more where they end by a jump.
use Rattle.std.proofs.Common.{◌≡◌, ℕ, ◌+◌, ◌<◌, ◌≤◌, Bool, true, false, List, [], ◌∷◌, ◌++◌, length, Option, Some, None, refl, sym, ap, subst, arith, ne_eqb}
use Rattle.std.specs.Prelude.{◌==◌, if◌then◌else◌}
use Rattle.std.proofs.lemmas.Bool.{eq-eqb}
use Rattle.c25_isa.specs.Pieces.{items_size}
use Rattle.acc_code.specs.declared.item.CaseLabel.{CaseLabel}
use Rattle.acc_code.specs.declared.operation.Test.{Test}
use Rattle.acc_code.specs.AccTree.{Op, If, Loop, Switch, Case, Clear, Call, Helper, Break, Continue, Return, ItemList, end, item}
use Rattle.acc_code.specs.Emittable.{Throughout, cases_in}
use Rattle.ir_semantics.specs.AccRun.{labels_weight}
use Rattle.ir_semantics.specs.Weights.{item_weight, items_weight}
use Rattle.emit_blocks.specs.Right.{IsRight, AreRight}
use Rattle.emit_blocks.specs.Steps.{Operation, operation}
use Rattle.frame_emit.specs.emit_control.declared.state.Before.TheVariants.{Gone}
use Rattle.frame_emit.specs.emit_control.declared.ways.Ways.{Ways}
use Rattle.frame_emit.specs.emit_control.Emits.{IsRightItem}
use Rattle.frame_emit.specs.emit_control.Entries.{Entry, Head, Place, Close, Branch, Goto, Dispatch, CallTo, CallHelper, Wipe, Ret, flushed}
use Rattle.frame_emit.specs.emit_control.Flow.{Part, labels, item_labels, is_end, opposite, target, if_code, loop_code, behind_label, behind_jump, inner, next_behind, first_ways, turn_ways, third_ways, switch_ways, emit}
use Rattle.frame_emit.specs.emit_control.Settings.{Setting, cells_of}
use Rattle.frame_emit.specs.emit_control.Cuts.{State, default_label, entry_items, behind_entry}
use Rattle.emit_proof.proofs.Entries.{name_here, name_more}
use Rattle.emit_proof.proofs.Keeping.{Any, Placed, CasesAre, no_case, counted, cases_also}
use Rattle.size_proof.proofs.Rows.{operations_weight, operations_weight-append}
use Rattle.size_proof.proofs.Parts.{going, going_size, two_where, two_unless, placed, place_size, place_named, closed, dispatch_size, wiped_size, back_size, cases_named, Keeps, Takes, takes_entry, takes_nothing, in_turn, flushes}

-- so many words of a list that leads to a label: where this isn't placed directly behind, a list that goes on or names it takes two more
abbrev pub IsWithin : Bool → State → ℕ → ℕ → ℕ → Type 0
IsWithin true t k n limit = n ≤ limit
IsWithin false t k n limit = n + going t.before ≤ limit + two_where (t.named k)

two_size : (b : Bool) → two_where b ≤ 2
two_size true = omega arith
two_size false = omega arith

two_also : (a b : Bool) → (a ≡ true → b ≡ true) → two_where a ≤ two_where b
two_also true b f = let e = ap two_where (f refl) in omega (arith, e)
two_also false b f = omega arith

within_led : (here : Bool) (t : State) (k n limit : ℕ) → IsWithin here t k n limit → n ≤ limit + two_unless here
within_led true t k n limit h = omega (arith, h)
within_led false t k n limit h = omega (arith, h, two_size (t.named k))

within_going : (here : Bool) (t : State) (k n limit : ℕ) → IsWithin here t k n limit → n + going t.before ≤ limit + 2
within_going true t k n limit h = omega (arith, h, going_size t.before)
within_going false t k n limit h = omega (arith, h, two_size (t.named k))

within_named : (here : Bool) (t : State) (k n limit : ℕ) → IsWithin here t k n limit → n ≤ limit + two_where (t.named k)
within_named true t k n limit h = omega (arith, h)
within_named false t k n limit h = omega (arith, h)

within_more : (here : Bool) (t : State) (k n limit a b : ℕ) → a ≤ b → IsWithin here t k n limit → IsWithin here t k (a + n) (b + limit)
within_more true t k n limit a b le h = omega (arith, le, h)
within_more false t k n limit a b le h = omega (arith, le, h)

within_lighter : (here : Bool) (t : State) (k n limit more : ℕ) → limit ≤ more → IsWithin here t k n limit → IsWithin here t k n more
within_lighter true t k n limit more le h = omega (arith, le, h)
within_lighter false t k n limit more le h = omega (arith, le, h)

within_both : (here : Bool) (t : State) (k n limit : ℕ) → n ≤ limit + two_unless here → n + going t.before ≤ limit + two_where (t.named k)
    → IsWithin here t k n limit
within_both true t k n limit led lasting = omega (arith, led)
within_both false t k n limit led lasting = lasting

module _ (m : Setting) where
  -- a list that leads to a label
  pub record ListFits (s : State) (part : List Entry → List Entry) (k : ℕ) (here : Bool) (limit : ℕ) : Type 0 where
    pub words : ℕ
    pub behind : State
    pub takes : Takes m s part words behind
    pub within : IsWithin here behind k words limit

  -- an item that leads to one by each of its parts
  pub record ItemFits (s : State) (part : List Entry → List Entry) (k : ℕ) (here : Bool) (limit : ℕ) : Type 0 where
    pub words : ℕ
    pub behind : State
    pub takes : Takes m s part words behind
    pub led : words ≤ limit + two_unless here
    pub lasting : words + going behind.before ≤ limit + two_where (behind.named k)

  lighter : (s : State) (part : List Entry → List Entry) (k : ℕ) (here : Bool) (limit more : ℕ) → limit ≤ more → ListFits s part k here limit
      → ListFits s part k here more
  lighter s part k here limit more le h = record { words = h.words; behind = h.behind; takes = h.takes; within = within_lighter here h.behind k h.words limit more le h.within }

  item_list : (s : State) (part : List Entry → List Entry) (k : ℕ) (here : Bool) (limit : ℕ) → ItemFits s part k here limit → ListFits s part k here limit
  item_list s part k here limit h = record { words = h.words; behind = h.behind; takes = h.takes; within = within_both here h.behind k h.words limit h.led h.lasting }

  before_list : (s t : State) (p q : List Entry → List Entry) (words n k : ℕ) (here : Bool) (limit : ℕ) → Takes m s p words t → words ≤ n
      → ListFits t q k here limit → ListFits s (λ rest. p (q rest)) k here (n + limit)
  before_list s t p q words n k here limit takes le h = record {
    words = words + h.words;
    behind = h.behind;
    takes = in_turn m s t h.behind p q words h.words takes h.takes;
    within = within_more here h.behind k h.words limit words n le h.within;
  }

  -- a list without cases directly in it, in any state
  pub record PartFits (part : Part) (k limit bound : ℕ) : Type 0 where
    pub by : (s : State) (next : ℕ) → next < bound → ListFits s (part next) k (k == next) limit

  here_fits : (s : State) (part : List Entry → List Entry) (k limit : ℕ) → (h : ListFits s part k (k == k) limit) → h.words ≤ limit
  here_fits s part k limit h = subst (λ b. IsWithin b h.behind k h.words limit) (eq-eqb k k refl) h.within

  away_fits : (s : State) (part : List Entry → List Entry) (k next limit : ℕ) → next < k → (h : ListFits s part k (k == next) limit)
      → h.words + going h.behind.before ≤ limit + two_where (h.behind.named k)
  away_fits s part k next limit lt h = subst (λ b. IsWithin b h.behind k h.words limit) (ne_eqb k next (λ e. let same : k ≡ next = e in omega (arith, lt, same))) h.within

  -- two parts
  module _ (s : State) (t : Test) (hit miss : Part) (k l next n h : ℕ) where
    both_fit : (a b : ℕ) (e f here : Bool)
        → ItemFits s (λ rest. if e then Branch (opposite t) b ∷ rest else Branch t a ∷ (if f then rest else Goto b ∷ rest)) k here (4 + (n + h))
    both_fit a b true f here = record {
      words = 2 + 0;
      behind = behind_entry m s (Branch (opposite t) b);
      takes = takes_entry m s (Branch (opposite t) b);
      led = omega arith;
      lasting = omega arith;
    }
    both_fit a b false true here = record {
      words = 2 + 0;
      behind = behind_entry m s (Branch t a);
      takes = takes_entry m s (Branch t a);
      led = omega arith;
      lasting = omega arith;
    }
    both_fit a b false false here =
        let u = behind_entry m s (Branch t a) in
        record {
          words = 2 + 0 + (2 + 0);
          behind = behind_entry m u (Goto b);
          takes = in_turn m s u (behind_entry m u (Goto b)) (λ rest. Branch t a ∷ rest) (λ rest. Goto b ∷ rest) (2 + 0) (2 + 0) (takes_entry m s (Branch t a)) (takes_entry m u (Goto b));
          led = omega arith;
          lasting = omega arith;
        }

    -- one of them behind a branch
    one_fits : (e : Test) (a j : ℕ) (part : Part) (here : Bool) → j ≤ n + h → ListFits (behind_entry m s (Branch e a)) (part next) k here j
        → ItemFits s (λ rest. Branch e a ∷ part next rest) k here (4 + (n + h))
    one_fits e a j part here le q =
        let u = behind_entry m s (Branch e a) in
        record {
          words = 2 + 0 + q.words;
          behind = q.behind;
          takes = in_turn m s u q.behind (λ rest. Branch e a ∷ rest) (part next) (2 + 0) q.words (takes_entry m s (Branch e a)) q.takes;
          led = let w = within_led here q.behind k q.words j q.within in omega (arith, le, w);
          lasting = let w = within_going here q.behind k q.words j q.within in omega (arith, le, w);
        }

    if_fits : (a b : Option ℕ) (bh bm : ℕ) → PartFits hit k n bh → PartFits miss k h bm → l < bh → next < bh → next < bm
        → ItemFits s (λ rest. if_code t a b hit miss l next rest) k (k == next) (4 + (n + h))
    if_fits (Some a) (Some b) bh bm ph pm lh nh nm = both_fit a b (a == next) (b == next) (k == next)
    if_fits (Some a) None bh bm ph pm lh nh nm = one_fits t a h miss (k == next) (omega arith) (pm.by (behind_entry m s (Branch t a)) next nm)
    if_fits None (Some b) bh bm ph pm lh nh nm = one_fits (opposite t) b n hit (k == next) (omega arith) (ph.by (behind_entry m s (Branch (opposite t) b)) next nh)
    if_fits None None bh bm ph pm lh nh nm =
        let e = opposite t in
        let s1 = behind_entry m s (Branch (opposite t) l) in
        let first = ph.by s1 l lh in
        let s2 = first.behind in
        let s3 = behind_entry m s2 (Place l) in
        let second = pm.by s3 next nm in
        let size = items_size (entry_items m s2 (Place l)) in
        let none : items_size (entry_items m s2 (Place l)) ≡ 0 = place_named (s2.named l) s2.before l (first.takes.keeps l (name_here l l (s.named l) refl)) in
        let tail = in_turn m s2 s3 second.behind (λ rest. Place l ∷ rest) (miss next) size second.words (takes_entry m s2 (Place l)) second.takes in
        let rest = in_turn m s1 s2 second.behind (hit l) (λ rest. Place l ∷ miss next rest) first.words (size + second.words) first.takes tail in
        let named = two_also (s2.named k) (second.behind.named k) (λ q. second.takes.keeps k ((takes_entry m s2 (Place l)).keeps k q)) in
        record {
          words = 2 + 0 + (first.words + (size + second.words));
          behind = second.behind;
          takes = in_turn m s s1 second.behind (λ rest. Branch e l ∷ rest) (λ rest. hit l (Place l ∷ miss next rest)) (2 + 0) (first.words + (size + second.words)) (takes_entry m s (Branch e l)) rest;
          led =
              let a = within_going (k == l) s2 k first.words n first.within in
              let b = within_led (k == next) second.behind k second.words h second.within in
              omega (arith, none, a, b);
          lasting =
              let a = within_named (k == l) s2 k first.words n first.within in
              let b = within_going (k == next) second.behind k second.words h second.within in
              omega (arith, none, a, b, named);
        }

  -- the end of a block before a part, and the end of a loop behind one
  record PlaceTakes (s : State) (l : ℕ) : Type 0 where
    words : ℕ
    behind : State
    takes : Takes m s (λ rest. Place l ∷ rest) words behind
    few : words ≤ 2

  place_takes : (s : State) (l : ℕ) → PlaceTakes s l
  place_takes s l = record {
    words = items_size (entry_items m s (Place l));
    behind = behind_entry m s (Place l);
    takes = takes_entry m s (Place l);
    few = place_size (s.named l) s.before l;
  }

  record CloseTakes (s : State) (part : List Entry → List Entry) (head next limit : ℕ) : Type 0 where
    words : ℕ
    behind : State
    takes : Takes m s (λ rest. part (Close head next ∷ rest)) words behind
    few : words + going behind.before ≤ limit + 2

  close_takes : (s : State) (part : Part) (head next limit : ℕ) → next < head → ListFits s (part next) head (head == next) limit
      → CloseTakes s (part next) head next limit
  close_takes s part head next limit lt h =
      let u = h.behind in
      record {
        words = h.words + items_size (entry_items m u (Close head next));
        behind = behind_entry m u (Close head next);
        takes = in_turn m s u (behind_entry m u (Close head next)) (part next) (λ rest. Close head next ∷ rest) h.words (items_size (entry_items m u (Close head next))) h.takes (takes_entry m u (Close head next));
        few = closed (u.named head) u head next h.words limit (away_fits s (part next) head next limit lt h);
      }

  loop_fits : (s : State) (none : Bool) (head start go : ℕ) (first body third : Part) (k next n1 n2 n3 b1 b2 b3 : ℕ) (here : Bool)
      → PartFits first start n1 b1 → PartFits body (if none then head else go) n2 b2 → PartFits third head n3 b3
      → start < b1 → go < b2 → next < b2 → next < b3 → next < head
      → ItemFits s (λ rest. loop_code none head start go first body third next rest) k here (6 + (n1 + (n2 + n3)))
  loop_fits s true head start go first body third k next n1 n2 n3 b1 b2 b3 here pf pb pt lf lg lb lt lh =
      let s1 = behind_entry m s (Head head) in
      let f = pf.by s1 start lf in
      let p = place_takes f.behind start in
      let c = close_takes p.behind body head next n2 lh (pb.by p.behind next lb) in
      let t2 = in_turn m f.behind p.behind c.behind (λ rest. Place start ∷ rest) (λ rest. body next (Close head next ∷ rest)) p.words c.words p.takes c.takes in
      let t1 = in_turn m s1 f.behind c.behind (first start) (λ rest. Place start ∷ body next (Close head next ∷ rest)) f.words (p.words + c.words) f.takes t2 in
      record {
        words = 0 + (f.words + (p.words + c.words));
        behind = c.behind;
        takes = in_turn m s s1 c.behind (λ rest. Head head ∷ rest) (λ rest. first start (Place start ∷ body next (Close head next ∷ rest))) 0 (f.words + (p.words + c.words)) (takes_entry m s (Head head)) t1;
        led = let w = here_fits s1 (first start) start n1 f in let few = p.few in let last = c.few in omega (arith, w, few, last);
        lasting = let w = here_fits s1 (first start) start n1 f in let few = p.few in let last = c.few in omega (arith, w, few, last);
      }
  loop_fits s false head start go first body third k next n1 n2 n3 b1 b2 b3 here pf pb pt lf lg lb lt lh =
      let s1 = behind_entry m s (Head head) in
      let f = pf.by s1 start lf in
      let p = place_takes f.behind start in
      let b = pb.by p.behind go lg in
      let g = place_takes b.behind go in
      let c = close_takes g.behind third head next n3 lh (pt.by g.behind next lt) in
      let t4 = in_turn m b.behind g.behind c.behind (λ rest. Place go ∷ rest) (λ rest. third next (Close head next ∷ rest)) g.words c.words g.takes c.takes in
      let t3 = in_turn m p.behind b.behind c.behind (body go) (λ rest. Place go ∷ third next (Close head next ∷ rest)) b.words (g.words + c.words) b.takes t4 in
      let t2 = in_turn m f.behind p.behind c.behind (λ rest. Place start ∷ rest) (λ rest. body go (Place go ∷ third next (Close head next ∷ rest))) p.words (b.words + (g.words + c.words)) p.takes t3 in
      let t1 = in_turn m s1 f.behind c.behind (first start) (λ rest. Place start ∷ body go (Place go ∷ third next (Close head next ∷ rest))) f.words (p.words + (b.words + (g.words + c.words))) f.takes t2 in
      record {
        words = 0 + (f.words + (p.words + (b.words + (g.words + c.words))));
        behind = c.behind;
        takes = in_turn m s s1 c.behind (λ rest. Head head ∷ rest) (λ rest. first start (Place start ∷ body go (Place go ∷ third next (Close head next ∷ rest)))) 0 (f.words + (p.words + (b.words + (g.words + c.words)))) (takes_entry m s (Head head)) t1;
        led =
            let w = here_fits s1 (first start) start n1 f in let v = here_fits p.behind (body go) go n2 b in
            let few = p.few in let fewer = g.few in let last = c.few in
            omega (arith, w, v, few, fewer, last);
        lasting =
            let w = here_fits s1 (first start) start n1 f in let v = here_fits p.behind (body go) go n2 b in
            let few = p.few in let fewer = g.few in let last = c.few in
            omega (arith, w, v, few, fewer, last);
      }

  switch_fits : (s : State) (cs : List CaseLabel) (l k n : ℕ) (here : Bool) (part : List Entry → List Entry)
      → ListFits (behind_entry m s (Dispatch cs l k)) part k here n
      → ItemFits s (λ rest. Dispatch cs l k ∷ part rest) k here (4 + (labels_weight cs + n))
  switch_fits s cs l k n here part h =
      let u = behind_entry m s (Dispatch cs l k) in
      let size = items_size (entry_items m s (Dispatch cs l k)) in
      let few : items_size (entry_items m s (Dispatch cs l k)) ≤ labels_weight cs + 2 = dispatch_size cs l k in
      record {
        words = size + h.words;
        behind = h.behind;
        takes = in_turn m s u h.behind (λ rest. Dispatch cs l k ∷ rest) part size h.words (takes_entry m s (Dispatch cs l k)) h.takes;
        led = let w = within_led here h.behind k h.words n h.within in omega (arith, few, w);
        lasting = let w = within_going here h.behind k h.words n h.within in omega (arith, few, w);
      }

  -- an item before the rest of its list
  module _ (s : State) (w : Ways) (base next : ℕ) where
    label_fits : (xs : ItemList) (p q : List Entry → List Entry) (n : ℕ)
        → ItemFits s p (inner xs w base).onward ((inner xs w base).onward == next_behind xs base next) n
        → ((t : State) → Keeps s t → ListFits t q w.onward (w.onward == next) (items_weight xs))
        → ListFits s (λ rest. p (behind_label (is_end xs) base (q rest) rest)) w.onward (w.onward == next) (n + items_weight xs)
    label_fits end p q n h tail = lighter s p w.onward (w.onward == next) n (n + 0) (omega arith) (item_list s p w.onward (w.onward == next) n h)
    label_fits (item x xs) p q n h tail =
        let t = h.behind in
        let u = behind_entry m t (Place base) in
        let size = items_size (entry_items m t (Place base)) in
        let to_label = in_turn m s t u p (λ rest. Place base ∷ rest) h.words size h.takes (takes_entry m t (Place base)) in
        let at_label : h.words ≤ n + 0 = subst (λ b. h.words ≤ n + two_unless b) (eq-eqb base base refl) h.led in
        let led : h.words ≤ n = omega (arith, at_label) in
        let few : h.words + items_size (entry_items m t (Place base)) ≤ n = placed (t.named base) t.before base h.words n led h.lasting in
        before_list s u (λ rest. p (Place base ∷ rest)) q (h.words + size) n w.onward (w.onward == next) (items_weight (item x xs)) to_label few (tail u to_label.keeps)

    jump_fits : (xs : ItemList) (e : Entry) (q : List Entry → List Entry) (n : ℕ) → items_size (entry_items m s e) ≤ n → (behind_entry m s e).before ≡ Gone
        → ((t : State) → Keeps s t → ListFits t q w.onward (w.onward == next) (items_weight xs))
        → ListFits s (λ rest. e ∷ behind_jump (is_end xs) (q rest) rest) w.onward (w.onward == next) (n + items_weight xs)
    jump_fits end e q n few gone tail = record {
      words = items_size (entry_items m s e);
      behind = behind_entry m s e;
      takes = takes_entry m s e;
      within =
          let none = ap going gone in
          within_both (w.onward == next) (behind_entry m s e) w.onward (items_size (entry_items m s e)) (n + 0) (omega (arith, few)) (omega (arith, few, none));
    }
    jump_fits (item x xs) e q n few gone tail =
        before_list s (behind_entry m s e) (λ rest. e ∷ rest) q (items_size (entry_items m s e)) n w.onward (w.onward == next) (items_weight (item x xs)) (takes_entry m s e) few (tail (behind_entry m s e) (takes_entry m s e).keeps)

    plain_fits : (xs : ItemList) (e : Entry) (q : List Entry → List Entry) (n : ℕ) → items_size (entry_items m s e) ≤ n
        → ((t : State) → Keeps s t → ListFits t q w.onward (w.onward == next) (items_weight xs))
        → ListFits s (λ rest. e ∷ q rest) w.onward (w.onward == next) (n + items_weight xs)
    plain_fits xs e q n few tail =
        before_list s (behind_entry m s e) (λ rest. e ∷ rest) q (items_size (entry_items m s e)) n w.onward (w.onward == next) (items_weight xs) (takes_entry m s e) few (tail (behind_entry m s e) (takes_entry m s e).keeps)

  -- the end of a list
  end_fits : (s : State) (k : ℕ) (here : Bool) → ListFits s (λ rest. if here then rest else Goto k ∷ rest) k here 0
  end_fits s k true = record { words = 0; behind = s; takes = takes_nothing m s; within = omega arith }
  end_fits s k false = record {
    words = 2 + 0;
    behind = behind_entry m s (Goto k);
    takes = takes_entry m s (Goto k);
    within = let named = ap two_where (name_here k k (s.named k) refl) in omega (arith, named);
  }

  abbrev Named : State → ℕ → Type 0
  Named s l = s.named l ≡ true

  next_size : (xs : ItemList) (base next : ℕ) → next < base → next_behind xs base next ≤ base
  next_size end base next lt = omega (arith, lt)
  next_size (item x xs) base next lt = omega arith

  right_more : (os : List Operation) (o : Operation) → AreRight os → IsRight o → AreRight (os ++ o ∷ [])
  right_more [] o r q = (q, tt)
  right_more (p ∷ os) o r q = (r.0, right_more os o r.1 q)

  -- items behind operations of the same run
  pub record EmitFits (xs : ItemList) (os : List Operation) (w : Ways) (base : ℕ) : Type 0 where
    pub by : (s : State) (next : ℕ) → next < base → CasesAre (Named s) w.cases (cases_in xs)
        → ListFits s (emit xs os w base next) w.onward (w.onward == next) (operations_weight os + items_weight xs)

  part_fits : (xs : ItemList) (w : Ways) (base : ℕ) → cases_in xs ≡ [] → EmitFits xs [] w base → PartFits (emit xs [] w base) w.onward (items_weight xs) base
  part_fits xs w base none h = record { by = λ s next lt. lighter s (emit xs [] w base next) w.onward (w.onward == next) (0 + items_weight xs) (items_weight xs) (omega arith) (h.by s next lt (no_case (Named s) w.cases (cases_in xs) none)) }

  -- the rest of a list, in a state behind an earlier one
  tail_fits : (xs : ItemList) (w : Ways) (base next : ℕ) (s : State) → EmitFits xs [] w base → next < base → CasesAre (Named s) w.cases (cases_in xs)
      → (t : State) → Keeps s t → ListFits t (emit xs [] w base next) w.onward (w.onward == next) (items_weight xs)
  tail_fits xs w base next s h lt c t keeps = lighter t (emit xs [] w base next) w.onward (w.onward == next) (0 + items_weight xs) (items_weight xs) (omega arith) (h.by t next lt (cases_also (Named s) (Named t) w.cases (cases_in xs) keeps c))

  -- behind a run
  run_fits : (s : State) (os : List Operation) (right : AreRight os) (part : List Entry → List Entry) (k : ℕ) (here : Bool) (n : ℕ)
      → ((t : State) → Keeps s t → ListFits t part k here n) → ListFits s (λ rest. flushed os (part rest)) k here (operations_weight os + n)
  run_fits s os right part k here n h =
      let f = flushes m s os right in
      before_list s f.behind (flushed os) part f.words (operations_weight os) k here n f.takes f.few (h f.behind f.takes.keeps)

  pub emit_fits : (xs : ItemList) → Placed Any xs → Throughout IsRightItem xs → (os : List Operation) → AreRight os → (w : Ways) (base : ℕ)
      → EmitFits xs os w base
  emit_fits end p r os right w base = record { by = λ s next lt c. run_fits s os right (λ rest. if w.onward == next then rest else Goto w.onward ∷ rest) w.onward (w.onward == next) 0 (λ t keeps. end_fits t w.onward (w.onward == next)) }
  emit_fits (item (Op o a) xs) p r os right w base = record {
    by = λ s next lt c.
        let more = operations_weight-append os (operation o a ∷ []) in
        lighter s (emit xs (os ++ operation o a ∷ []) w base next) w.onward (w.onward == next) (operations_weight (os ++ operation o a ∷ []) + items_weight xs) (operations_weight os + items_weight (item (Op o a) xs)) (omega (arith, more))
        ((emit_fits xs p.1 r.2 (os ++ operation o a ∷ []) (right_more os (operation o a) right r.0) w base).by s next lt c);
  }
  emit_fits (item (If t hit miss) xs) p r os right w base = record {
    by = λ s next lt c.
        let v = inner xs w base in
        let le = next_size xs base next lt in
        let b2 = base + 2 + labels hit in
        let b3 = base + item_labels (If t hit miss) in
        let to = next_behind xs base next in
        let code = λ (rest : List Entry). if_code t (target v hit) (target v miss) (emit hit [] v (base + 2)) (emit miss [] v b2) (base + 1) to rest in
        let rest = tail_fits xs w b3 next s (emit_fits xs p.1 r.2 [] tt w b3) (omega (arith, lt)) c in
        let ph = part_fits hit v (base + 2) p.0.0 (emit_fits hit p.0.1 r.1.0 [] tt v (base + 2)) in
        let pm = part_fits miss v b2 p.0.2 (emit_fits miss p.0.3 r.1.1 [] tt v b2) in
        run_fits s os right (λ rest. code (behind_label (is_end xs) base (emit xs [] w b3 next rest) rest)) w.onward (w.onward == next) (items_weight (item (If t hit miss) xs)) (λ u keeps.
        label_fits u w base next xs code (emit xs [] w b3 next) (item_weight (If t hit miss))
        (if_fits u t (emit hit [] v (base + 2)) (emit miss [] v b2) v.onward (base + 1) to (items_weight hit) (items_weight miss) (target v hit) (target v miss) (base + 2) b2 ph pm (omega arith) (omega (arith, le)) (omega (arith, le)))
        (λ z kept. rest z (λ l q. kept l (keeps l q))));
  }
  emit_fits (item (Loop before body third last) xs) p r os right w base = record {
    by = λ s next lt c.
        let v = inner xs w base in
        let le = next_size xs base next lt in
        let w1 = first_ways third base v in
        let w2 = turn_ways third base v in
        let w3 = third_ways base v in
        let b2 = base + 4 + labels before in
        let b3 = base + 4 + labels before + labels body in
        let b4 = base + item_labels (Loop before body third last) in
        let to = next_behind xs base next in
        let code = λ (rest : List Entry). loop_code (is_end third) (base + 1) (base + 2) (base + 3) (emit before [] w1 (base + 4)) (emit body [] w2 b2) (emit third [] w3 b3) to rest in
        let rest = tail_fits xs w b4 next s (emit_fits xs p.1 r.2 [] tt w b4) (omega (arith, lt)) c in
        let p1 = part_fits before w1 (base + 4) p.0.0 (emit_fits before p.0.1 r.1.0 [] tt w1 (base + 4)) in
        let p2 = part_fits body w2 b2 p.0.2 (emit_fits body p.0.3 r.1.1 [] tt w2 b2) in
        let p3 = part_fits third w3 b3 p.0.4 (emit_fits third p.0.5 r.1.2 [] tt w3 b3) in
        run_fits s os right (λ rest. code (behind_label (is_end xs) base (emit xs [] w b4 next rest) rest)) w.onward (w.onward == next) (items_weight (item (Loop before body third last) xs)) (λ u keeps.
        label_fits u w base next xs code (emit xs [] w b4 next) (item_weight (Loop before body third last))
        (loop_fits u (is_end third) (base + 1) (base + 2) (base + 3) (emit before [] w1 (base + 4)) (emit body [] w2 b2) (emit third [] w3 b3) v.onward to (items_weight before) (items_weight body) (items_weight third) (base + 4) b2 b3 (v.onward == to) p1 p2 p3
        (omega arith) (omega arith) (omega (arith, le)) (omega (arith, le)) (omega (arith, le)))
        (λ z kept. rest z (λ l q. kept l (keeps l q))));
  }
  emit_fits (item (Switch cases body) xs) p r os right w base = record {
    by = λ s next lt c.
        let v = inner xs w base in
        let le = next_size xs base next lt in
        let u = switch_ways base v in
        let b2 = base + 1 + length cases in
        let b3 = base + item_labels (Switch cases body) in
        let to = next_behind xs base next in
        let code = λ (rest : List Entry). Dispatch cases (base + 1) v.onward ∷ emit body [] u b2 to rest in
        let rest = tail_fits xs w b3 next s (emit_fits xs p.1 r.2 [] tt w b3) (omega (arith, lt)) c in
        let inside = emit_fits body p.0.2 r.1 [] tt u b2 in
        run_fits s os right (λ rest. code (behind_label (is_end xs) base (emit xs [] w b3 next rest) rest)) w.onward (w.onward == next) (items_weight (item (Switch cases body) xs)) (λ x keeps.
        let y = behind_entry m x (Dispatch cases (base + 1) v.onward) in
        let named : CasesAre (Named y) (base + 1) (cases_in body) = subst (CasesAre (Named y) (base + 1)) (sym p.0.1) (counted (Named y) (base + 1) 0 (length cases)
        (λ l g h. name_more l (default_label cases (base + 1) v.onward) _ (cases_named cases (base + 1) l x (omega (arith, g)) (omega (arith, h))))) in
        let there = inside.by y to (omega (arith, le)) named in
        label_fits x w base next xs code (emit xs [] w b3 next) (item_weight (Switch cases body))
        (switch_fits x cases (base + 1) v.onward (items_weight body) (v.onward == to) (emit body [] u b2 to) (lighter y (emit body [] u b2 to) v.onward (v.onward == to) (0 + items_weight body) (items_weight body) (omega arith) there))
        (λ z kept. rest z (λ l q. kept l (keeps l q))));
  }
  emit_fits (item (Case n) xs) p r os right w base = record {
    by = λ s next lt c.
        let rest = tail_fits xs w base next s (emit_fits xs p.1 r.2 [] tt w base) lt c.1 in
        run_fits s os right (λ rest. Place (w.cases + n) ∷ emit xs [] w base next rest) w.onward (w.onward == next) (items_weight (item (Case n) xs)) (λ u keeps.
        let none = place_named (u.named (w.cases + n)) u.before (w.cases + n) (keeps (w.cases + n) c.0) in
        plain_fits u w base next xs (Place (w.cases + n)) (emit xs [] w base next) 1 (omega (arith, none)) (λ z kept. rest z (λ l q. kept l (keeps l q))));
  }
  emit_fits (item (Clear v from) xs) p r os right w base = record {
    by = λ s next lt c.
        let rest = tail_fits xs w (base + 1) next s (emit_fits xs p.1 r.2 [] tt w (base + 1)) (omega (arith, lt)) c in
        run_fits s os right (λ rest. Wipe v from base ∷ emit xs [] w (base + 1) next rest) w.onward (w.onward == next) (items_weight (item (Clear v from) xs)) (λ u keeps.
        plain_fits u w base next xs (Wipe v from base) (emit xs [] w (base + 1) next) 9 (wiped_size m (cells_of m v from) base u) (λ z kept. rest z (λ l q. kept l (keeps l q))));
  }
  emit_fits (item (Call f) xs) p r os right w base = record {
    by = λ s next lt c.
        let rest = tail_fits xs w base next s (emit_fits xs p.1 r.2 [] tt w base) lt c in
        run_fits s os right (λ rest. CallTo f ∷ emit xs [] w base next rest) w.onward (w.onward == next) (items_weight (item (Call f) xs)) (λ u keeps.
        plain_fits u w base next xs (CallTo f) (emit xs [] w base next) 2 (omega arith) (λ z kept. rest z (λ l q. kept l (keeps l q))));
  }
  emit_fits (item (Helper name) xs) p r os right w base = record {
    by = λ s next lt c.
        let rest = tail_fits xs w base next s (emit_fits xs p.1 r.2 [] tt w base) lt c in
        run_fits s os right (λ rest. CallHelper name ∷ emit xs [] w base next rest) w.onward (w.onward == next) (items_weight (item (Helper name) xs)) (λ u keeps.
        plain_fits u w base next xs (CallHelper name) (emit xs [] w base next) 7 (omega arith) (λ z kept. rest z (λ l q. kept l (keeps l q))));
  }
  emit_fits (item Break xs) p r os right w base = record {
    by = λ s next lt c.
        let rest = tail_fits xs w base next s (emit_fits xs p.1 r.2 [] tt w base) lt c in
        run_fits s os right (λ rest. Goto w.broken ∷ behind_jump (is_end xs) (emit xs [] w base next rest) rest) w.onward (w.onward == next) (items_weight (item Break xs)) (λ u keeps.
        jump_fits u w base next xs (Goto w.broken) (emit xs [] w base next) 2 (omega arith) refl (λ z kept. rest z (λ l q. kept l (keeps l q))));
  }
  emit_fits (item Continue xs) p r os right w base = record {
    by = λ s next lt c.
        let rest = tail_fits xs w base next s (emit_fits xs p.1 r.2 [] tt w base) lt c in
        run_fits s os right (λ rest. Goto w.continued ∷ behind_jump (is_end xs) (emit xs [] w base next rest) rest) w.onward (w.onward == next) (items_weight (item Continue xs)) (λ u keeps.
        jump_fits u w base next xs (Goto w.continued) (emit xs [] w base next) 2 (omega arith) refl (λ z kept. rest z (λ l q. kept l (keeps l q))));
  }
  emit_fits (item Return xs) p r os right w base = record {
    by = λ s next lt c.
        let rest = tail_fits xs w base next s (emit_fits xs p.1 r.2 [] tt w base) lt c in
        run_fits s os right (λ rest. Ret ∷ behind_jump (is_end xs) (emit xs [] w base next rest) rest) w.onward (w.onward == next) (items_weight (item Return xs)) (λ u keeps.
        jump_fits u w base next xs Ret (emit xs [] w base next) 3 (back_size m.back) refl (λ z kept. rest z (λ l q. kept l (keeps l q))));
  }
