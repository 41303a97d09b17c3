-- Each label of the items' code is placed once.
use Rattle.std.proofs.Common.{◌≡◌, ◌≢◌, ℕ, zero, suc, ◌+◌, ◌<◌, ◌≤◌, Bool, true, false, ◌⊎◌, inl, inr, List, [], ◌∷◌, ◌++◌, length, Option, Some, None, sym, subst, arith}
use Rattle.std.specs.Prelude.{◌==◌, if◌then◌else◌}
use Rattle.acc_code.specs.declared.operation.Test.{Test}
use Rattle.acc_code.specs.AccTree.{Op, If, Loop, Switch, Case, Clear, Call, Helper, Break, Continue, Return, ItemList, end, item}
use Rattle.acc_code.specs.Emittable.{cases_in, counting}
use Rattle.emit_blocks.specs.Steps.{Operation, operation}
use Rattle.emit_control.specs.declared.ways.Ways.{Ways}
use Rattle.emit_control.specs.Entries.{Entry, Run, Head, Place, Close, Branch, Goto, Dispatch, CallTo, CallHelper, Wipe, Ret, Finish, flushed}
use Rattle.emit_control.specs.Flow.{Part, labels, item_labels, is_end, opposite, target, goto, if_code, loop_code, behind_label, behind_jump, inner, next_behind, first_ways, turn_ways, third_ways, switch_ways, emit}
use Rattle.emit_proof.proofs.Anywhere.{PartKeeps}
use Rattle.emit_proof.proofs.Keeping.{Any, Placed, CasesAre, no_case, counted, cases_also, Allowed, IsClosed, kept}

-- the entry may write a mark with the label
abbrev pub Places : ℕ → Entry → Type 0
Places k (Run os) = ⊥
Places k (Head l) = l ≡ k
Places k (Place l) = l ≡ k
Places k (Close h l) = ⊥
Places k (Branch t l) = ⊥
Places k (Goto l) = ⊥
Places k (Dispatch cs l b) = ⊥
Places k (CallTo f) = ⊥
Places k (CallHelper name) = ⊥
Places k (Wipe v from l) = l ≡ k
Places k Ret = ⊥
Places k (Finish l) = l ≡ k

-- none does
abbrev pub Avoids : ℕ → List Entry → Type 0
Avoids k [] = Unit {0}
Avoids k (e ∷ es) = (Places k e → ⊥) × Avoids k es

-- each label is placed once
abbrev pub PlacesOnce : List Entry → Type 0
PlacesOnce [] = Unit {0}
PlacesOnce (e ∷ es) = ((k : ℕ) → Places k e → Avoids k es) × PlacesOnce es

avoids_stays : (k : ℕ) (e : Entry) (es : List Entry) → Allowed (λ l. l ≢ k) Any e → IsClosed e es → Avoids k es → Avoids k (e ∷ es)
avoids_stays k (Run os) es a c h = (λ q. q, h)
avoids_stays k (Head l) es a c h = (a, h)
avoids_stays k (Place l) es a c h = (a, h)
avoids_stays k (Close x l) es a c h = (λ q. q, h)
avoids_stays k (Branch t l) es a c h = (λ q. q, h)
avoids_stays k (Goto l) es a c h = (λ q. q, h)
avoids_stays k (Dispatch cs l b) es a c h = (λ q. q, h)
avoids_stays k (CallTo f) es a c h = (λ q. q, h)
avoids_stays k (CallHelper name) es a c h = (λ q. q, h)
avoids_stays k (Wipe v from l) es a c h = (a, h)
avoids_stays k Ret es a c h = (λ q. q, h)
avoids_stays k (Finish l) es a c h = absurd a

-- items avoid labels outside their own, other than those of their cases
avoids : (k : ℕ) (xs : ItemList) → Placed Any xs → (os : List Operation) (w : Ways) (base : ℕ) → (k < base) ⊎ (base + labels xs ≤ k) → CasesAre (λ l. l ≢ k) w.cases (cases_in xs) → PartKeeps (Avoids k) (emit xs os w base)
avoids k xs p os w base o c = kept (λ l. l ≢ k) Any (Avoids k) (avoids_stays k) xs p os w base (outside o) c
  where
    outside : (k < base) ⊎ (base + labels xs ≤ k) → (l : ℕ) → base ≤ l → l < base + labels xs → l ≢ k
    outside (inl a) l g h = omega (arith, a, g)
    outside (inr a) l g h = omega (arith, a, h)

-- labels of cases below the own ones
abbrev pub Between : ℕ → ℕ → ℕ → Type 0
Between low mid l = (low ≤ l) × (l < mid)

below_avoid : (low mid k c : ℕ) (ns : List ℕ) → mid ≤ k → CasesAre (Between low mid) c ns → CasesAre (λ l. l ≢ k) c ns
below_avoid low mid k c ns g h = cases_also (Between low mid) (λ l. l ≢ k) c ns (λ l q. let u = q.1 in omega (arith, u, g)) h

-- no label of a case twice
abbrev pub Apart : ℕ → List ℕ → Type 0
Apart c [] = Unit {0}
Apart c (n ∷ ns) = CasesAre (λ l. l ≢ c + n) c ns × Apart c ns

counted_apart : (c k n : ℕ) → Apart c (counting k n)
counted_apart c k zero = tt
counted_apart c k (suc n) = (counted (λ l. l ≢ c + k) c (suc k) n (λ l g h. omega (arith, g)), counted_apart c (suc k) n)

no_apart : (c : ℕ) (ns : List ℕ) → ns ≡ [] → Apart c ns
no_apart c ns e = subst (Apart c) (sym e) tt

-- a part that keeps a list good which places none of its labels
pub record PartPlacesOnce (p : Part) (low top : ℕ) : Type 0 where
  pub by : (next : ℕ) (rest : List Entry) → PlacesOnce rest → ((l : ℕ) → low ≤ l → l < top → Avoids l rest) → PlacesOnce (p next rest)

flush_once : (os : List Operation) (es : List Entry) → PlacesOnce es → PlacesOnce (flushed os es)
flush_once [] es h = h
flush_once (o ∷ os) es h = (λ k q. absurd q, h)

goto_once : (b : Bool) (k : ℕ) (rest : List Entry) → PlacesOnce rest → PlacesOnce (if b then rest else Goto k ∷ rest)
goto_once true k rest h = h
goto_once false k rest h = (λ k q. absurd q, h)

here : (l : ℕ) (es : List Entry) → Avoids l es → (k : ℕ) → l ≡ k → Avoids k es
here l es h k e = subst (λ n. Avoids n es) e h

if_once : (a b : Option ℕ) (t : Test) (hit miss : Part) (base b2 b3 next : ℕ) (rest : List Entry) → base + 2 ≤ b2 → b2 ≤ b3 → PartPlacesOnce hit (base + 2) b2 → PartPlacesOnce miss b2 b3 → ((l : ℕ) → base + 1 ≤ l → l < b2 → PartKeeps (Avoids l) miss) → PlacesOnce rest → ((l : ℕ) → base + 1 ≤ l → l < b3 → Avoids l rest) → PlacesOnce (if_code t a b hit miss (base + 1) next rest)
if_once (Some a) (Some b) t hit miss base b2 b3 next rest h2 h3 ph pm am h free = both (a == next)
  where
    both : (e : Bool) → PlacesOnce (if e then Branch (opposite t) b ∷ rest else Branch t a ∷ goto b next rest)
    both true = (λ k q. absurd q, h)
    both false = (λ k q. absurd q, goto_once (b == next) b rest h)
if_once (Some a) None t hit miss base b2 b3 next rest h2 h3 ph pm am h free = (λ k q. absurd q, pm.by next rest h (λ l g1 g2. free l (omega (arith, g1, h2)) g2))
if_once None (Some b) t hit miss base b2 b3 next rest h2 h3 ph pm am h free = (λ k q. absurd q, ph.by next rest h (λ l g1 g2. free l (omega (arith, g1)) (omega (arith, g2, h3))))
if_once None None t hit miss base b2 b3 next rest h2 h3 ph pm am h free = (
  λ k q. absurd q,
  ph.by (base + 1) (Place (base + 1) ∷ miss next rest)
      (here (base + 1) _ ((am (base + 1) (omega arith) (omega (arith, h2))).by next rest (free (base + 1) (omega arith) (omega (arith, h2, h3)))), pm.by next rest h (λ l g1 g2. free l (omega (arith, g1, h2)) g2))
      (λ l g1 g2. (omega (arith, g1), (am l (omega (arith, g1)) g2).by next rest (free l (omega (arith, g1)) (omega (arith, g2, h3))))),
)

loop_once : (none : Bool) (first body third : Part) (base b2 b3 b4 next : ℕ) (rest : List Entry) → base + 4 ≤ b2 → b2 ≤ b3 → b3 ≤ b4 → PartPlacesOnce first (base + 4) b2 → PartPlacesOnce body b2 b3 → PartPlacesOnce third b3 b4 → ((l : ℕ) → l < base + 4 → PartKeeps (Avoids l) first) → ((l : ℕ) → l < b2 → PartKeeps (Avoids l) body) → ((l : ℕ) → l < b3 → PartKeeps (Avoids l) third) → PlacesOnce rest → ((l : ℕ) → base + 1 ≤ l → l < b4 → Avoids l rest) → PlacesOnce (loop_code none (base + 1) (base + 2) (base + 3) first body third next rest)
loop_once true first body third base b2 b3 b4 next rest h2 h3 h4 pf pb pt af ab at h free =
    let close : (l : ℕ) → base + 1 ≤ l → l < b4 → Avoids l (Close (base + 1) next ∷ rest) = λ l g1 g2. (λ q. q, free l g1 g2) in
    let turn : (l : ℕ) → base + 1 ≤ l → l < b2 → Avoids l (body next (Close (base + 1) next ∷ rest)) = λ l g1 g2. (ab l g2).by next _ (close l g1 (omega (arith, g2, h3, h4))) in (
      here (base + 1) _ ((af (base + 1) (omega arith)).by (base + 2) _ (omega arith, turn (base + 1) (omega arith) (omega (arith, h2)))),
      pf.by (base + 2) _
          (here (base + 2) _ (turn (base + 2) (omega arith) (omega (arith, h2))), pb.by next _ (λ k q. absurd q, h) (λ l g1 g2. close l (omega (arith, g1, h2)) (omega (arith, g2, h4))))
          (λ l g1 g2. (omega (arith, g1), turn l (omega (arith, g1)) g2)),
    )
loop_once false first body third base b2 b3 b4 next rest h2 h3 h4 pf pb pt af ab at h free =
    let close : (l : ℕ) → base + 1 ≤ l → l < b4 → Avoids l (Close (base + 1) next ∷ rest) = λ l g1 g2. (λ q. q, free l g1 g2) in
    let last : (l : ℕ) → base + 1 ≤ l → l < b3 → Avoids l (third next (Close (base + 1) next ∷ rest)) = λ l g1 g2. (at l g2).by next _ (close l g1 (omega (arith, g2, h4))) in
    let turn : (l : ℕ) → base + 1 ≤ l → l < b2 → base + 3 ≢ l → Avoids l (body (base + 3) (Place (base + 3) ∷ third next (Close (base + 1) next ∷ rest))) = λ l g1 g2 d. (ab l g2).by (base + 3) _ (d, last l g1 (omega (arith, g2, h3))) in (
      here (base + 1) _ ((af (base + 1) (omega arith)).by (base + 2) _ (omega arith, turn (base + 1) (omega arith) (omega (arith, h2)) (omega arith))),
      pf.by (base + 2) _ (
        here (base + 2) _ (turn (base + 2) (omega arith) (omega (arith, h2)) (omega arith)),
        pb.by (base + 3) _
            (here (base + 3) _ (last (base + 3) (omega arith) (omega (arith, h2, h3))), pt.by next _ (λ k q. absurd q, h) (λ l g1 g2. close l (omega (arith, g1, h2, h3)) g2))
            (λ l g1 g2. (omega (arith, g1, h2), last l (omega (arith, g1, h2)) g2)),
      )
          (λ l g1 g2. (omega (arith, g1), turn l (omega (arith, g1)) g2 (omega (arith, g1)))),
    )

label_once : (b : Bool) (base : ℕ) (code rest : List Entry) → PlacesOnce code → Avoids base code → PlacesOnce rest → PlacesOnce (behind_label b base code rest)
label_once true base code rest c a h = h
label_once false base code rest c a h = (here base code a, c)

label_avoids : (b : Bool) (l base : ℕ) (code rest : List Entry) → base ≢ l → Avoids l code → Avoids l rest → Avoids l (behind_label b base code rest)
label_avoids true l base code rest d c h = h
label_avoids false l base code rest d c h = (d, c)

jump_once : (b : Bool) (code rest : List Entry) → PlacesOnce code → PlacesOnce rest → PlacesOnce (behind_jump b code rest)
jump_once true code rest c h = h
jump_once false code rest c h = c

pub labels_once : (xs : ItemList) → Placed Any xs → (os : List Operation) (w : Ways) (low mid base : ℕ) → low ≤ base → mid ≤ base → CasesAre (Between low mid) w.cases (cases_in xs) → Apart w.cases (cases_in xs) → PartPlacesOnce (emit xs os w base) low (base + labels xs)
labels_once end p os w low mid base lb mb c a = record { by = λ next rest h free. flush_once os _ (goto_once (w.onward == next) w.onward rest h) }
labels_once (item (Op o m) xs) p os w low mid base lb mb c a = record { by = λ next rest h free. (labels_once xs p.1 (os ++ operation o m ∷ []) w low mid base lb mb c a).by next rest h (λ l g k. free l g (omega (arith, k))) }
labels_once (item (If t hit miss) xs) p os w low mid base lb mb c a = record {
  by = λ next rest h free.
      let v = inner xs w base in
      let b2 = base + 2 + labels hit in
      let b3 = base + item_labels (If t hit miss) in
      let tail = emit xs [] w b3 next rest in
      let gt : PlacesOnce (emit xs [] w (base + item_labels (If t hit miss)) next rest) = (labels_once xs p.1 [] w low mid b3 (omega (arith, lb)) (omega (arith, mb)) c a).by next rest h (λ l g k. free l g (omega (arith, k))) in
      let at : (l : ℕ) → base ≤ l → l < base + item_labels (If t hit miss) → Avoids l (emit xs [] w (base + item_labels (If t hit miss)) next rest) = λ l g k. (avoids l xs p.1 [] w b3 (inl k) (below_avoid low mid l w.cases _ (omega (arith, g, mb)) c)).by next rest (free l (omega (arith, g, lb)) (omega (arith, k))) in
      flush_once os _ (if_once (target v hit) (target v miss) t (emit hit [] v (base + 2)) (emit miss [] v b2) base b2 (base + 2 + labels hit + labels miss) (next_behind xs base next) (behind_label (is_end xs) base tail rest) (omega arith) (omega arith)
      (labels_once hit p.0.1 [] v (base + 2) (base + 2) (base + 2) (omega arith) (omega arith) (no_case (Between (base + 2) (base + 2)) w.cases _ p.0.0) (no_apart w.cases _ p.0.0))
      (labels_once miss p.0.3 [] v b2 b2 b2 (omega arith) (omega arith) (no_case (Between b2 b2) w.cases _ p.0.2) (no_apart w.cases _ p.0.2))
      (λ l g k. avoids l miss p.0.3 [] v b2 (inl k) (no_case (λ x. x ≢ l) w.cases _ p.0.2))
      (label_once (is_end xs) base tail rest gt (at base (omega arith) (omega arith)) h)
      (λ l g k. label_avoids (is_end xs) l base tail rest (omega (arith, g)) (at l (omega (arith, g)) (omega (arith, k))) (free l (omega (arith, g, lb)) (omega (arith, k)))));
}
labels_once (item (Loop before body third last) xs) p os w low mid base lb mb c a = record {
  by = λ next rest h free.
      let v = inner xs w base in
      let b2 = base + 4 + labels before in
      let b3 = base + 4 + labels before + labels body in
      let b4 = base + item_labels (Loop before body third last) in
      let w1 = first_ways third base v in
      let w2 = turn_ways third base v in
      let w3 = third_ways base v in
      let tail = emit xs [] w b4 next rest in
      let gt : PlacesOnce (emit xs [] w (base + item_labels (Loop before body third last)) next rest) = (labels_once xs p.1 [] w low mid b4 (omega (arith, lb)) (omega (arith, mb)) c a).by next rest h (λ l g k. free l g (omega (arith, k))) in
      let at : (l : ℕ) → base ≤ l → l < base + item_labels (Loop before body third last) → Avoids l (emit xs [] w (base + item_labels (Loop before body third last)) next rest) = λ l g k. (avoids l xs p.1 [] w b4 (inl k) (below_avoid low mid l w.cases _ (omega (arith, g, mb)) c)).by next rest (free l (omega (arith, g, lb)) (omega (arith, k))) in
      flush_once os _ (loop_once (is_end third) (emit before [] w1 (base + 4)) (emit body [] w2 b2) (emit third [] w3 b3) base b2 b3 (base + 4 + labels before + labels body + labels third) (next_behind xs base next) (behind_label (is_end xs) base tail rest) (omega arith) (omega arith) (omega arith)
      (labels_once before p.0.1 [] w1 (base + 4) (base + 4) (base + 4) (omega arith) (omega arith) (no_case (Between (base + 4) (base + 4)) w.cases _ p.0.0) (no_apart w.cases _ p.0.0))
      (labels_once body p.0.3 [] w2 b2 b2 b2 (omega arith) (omega arith) (no_case (Between b2 b2) w.cases _ p.0.2) (no_apart w.cases _ p.0.2))
      (labels_once third p.0.5 [] w3 b3 b3 b3 (omega arith) (omega arith) (no_case (Between b3 b3) w.cases _ p.0.4) (no_apart w.cases _ p.0.4))
      (λ l k. avoids l before p.0.1 [] w1 (base + 4) (inl k) (no_case (λ x. x ≢ l) w.cases _ p.0.0))
      (λ l k. avoids l body p.0.3 [] w2 b2 (inl k) (no_case (λ x. x ≢ l) w.cases _ p.0.2))
      (λ l k. avoids l third p.0.5 [] w3 b3 (inl k) (no_case (λ x. x ≢ l) w.cases _ p.0.4))
      (label_once (is_end xs) base tail rest gt (at base (omega arith) (omega arith)) h)
      (λ l g k. label_avoids (is_end xs) l base tail rest (omega (arith, g)) (at l (omega (arith, g)) (omega (arith, k))) (free l (omega (arith, g, lb)) (omega (arith, k)))));
}
labels_once (item (Switch cases body) xs) p os w low mid base lb mb c a = record {
  by = λ next rest h free.
      let v = inner xs w base in
      let b2 = base + 1 + length cases in
      let b3 = base + item_labels (Switch cases body) in
      let tail = emit xs [] w b3 next rest in
      let gt : PlacesOnce (emit xs [] w (base + item_labels (Switch cases body)) next rest) = (labels_once xs p.1 [] w low mid b3 (omega (arith, lb)) (omega (arith, mb)) c a).by next rest h (λ l g k. free l g (omega (arith, k))) in
      let at : (l : ℕ) → base ≤ l → l < base + item_labels (Switch cases body) → Avoids l (emit xs [] w (base + item_labels (Switch cases body)) next rest) = λ l g k. (avoids l xs p.1 [] w b3 (inl k) (below_avoid low mid l w.cases _ (omega (arith, g, mb)) c)).by next rest (free l (omega (arith, g, lb)) (omega (arith, k))) in
      flush_once os _ (
        λ k q. absurd q,
        (labels_once body p.0.2 [] (switch_ways base v) (base + 1) b2 b2 (omega arith) (omega arith)
            (subst (CasesAre (Between (base + 1) b2) (base + 1)) (sym p.0.1) (counted (Between (base + 1) b2) (base + 1) 0 (length cases) (λ l g k. (omega (arith, g), omega (arith, k)))))
            (subst (Apart (base + 1)) (sym p.0.1) (counted_apart (base + 1) 0 (length cases)))).by (next_behind xs base next) (behind_label (is_end xs) base tail rest)
            (label_once (is_end xs) base tail rest gt (at base (omega arith) (omega arith)) h)
            (λ l g k. label_avoids (is_end xs) l base tail rest (omega (arith, g)) (at l (omega (arith, g)) (omega (arith, k))) (free l (omega (arith, g, lb)) (omega (arith, k)))),
      );
}
labels_once (item (Case n) xs) p os w low mid base lb mb c a = record {
  by = λ next rest h free.
      let g = c.0.0 in
      let k = c.0.1 in
      flush_once os _ (
        here (w.cases + n) _ ((avoids (w.cases + n) xs p.1 [] w base (inl (omega (arith, k, mb))) a.0).by next rest (free (w.cases + n) g (omega (arith, k, mb)))),
        (labels_once xs p.1 [] w low mid base lb mb c.1 a.1).by next rest h (λ l g k. free l g (omega (arith, k))),
      );
}
labels_once (item (Clear v from) xs) p os w low mid base lb mb c a = record {
  by = λ next rest h free. flush_once os _ (
    here base _ ((avoids base xs p.1 [] w (base + 1) (inl (omega arith)) (below_avoid low mid base w.cases _ mb c)).by next rest (free base lb (omega arith))),
    (labels_once xs p.1 [] w low mid (base + 1) (omega (arith, lb)) (omega (arith, mb)) c a).by next rest h (λ l g k. free l g (omega (arith, k))),
  );
}
labels_once (item (Call f) xs) p os w low mid base lb mb c a = record { by = λ next rest h free. flush_once os _ (λ k q. absurd q, (labels_once xs p.1 [] w low mid base lb mb c a).by next rest h (λ l g k. free l g (omega (arith, k)))) }
labels_once (item (Helper name) xs) p os w low mid base lb mb c a = record { by = λ next rest h free. flush_once os _ (λ k q. absurd q, (labels_once xs p.1 [] w low mid base lb mb c a).by next rest h (λ l g k. free l g (omega (arith, k)))) }
labels_once (item Break xs) p os w low mid base lb mb c a = record { by = λ next rest h free. flush_once os _ (λ k q. absurd q, jump_once (is_end xs) _ rest ((labels_once xs p.1 [] w low mid base lb mb c a).by next rest h (λ l g k. free l g (omega (arith, k)))) h) }
labels_once (item Continue xs) p os w low mid base lb mb c a = record { by = λ next rest h free. flush_once os _ (λ k q. absurd q, jump_once (is_end xs) _ rest ((labels_once xs p.1 [] w low mid base lb mb c a).by next rest h (λ l g k. free l g (omega (arith, k)))) h) }
labels_once (item Return xs) p os w low mid base lb mb c a = record { by = λ next rest h free. flush_once os _ (λ k q. absurd q, jump_once (is_end xs) _ rest ((labels_once xs p.1 [] w low mid base lb mb c a).by next rest h (λ l g k. free l g (omega (arith, k)))) h) }
