-- What holds of the code behind items, and stays so with each entry of theirs before it, holds of the items' code.
use Rattle.std.proofs.Common.{◌≡◌, ◌≢◌, ℕ, zero, suc, ◌+◌, ◌<◌, ◌≤◌, Bool, true, false, inl, inr, List, [], ◌∷◌, ◌++◌, length, Option, Some, None, refl, sym, subst, arith}
use Rattle.std.specs.Prelude.{◌==◌, if◌then◌else◌, AllPairs}
use Rattle.acc_code.specs.declared.operation.Test.{Test}
use Rattle.acc_code.specs.AccTree.{Item, Op, If, Loop, Switch, Case, Clear, Call, Helper, Break, Continue, Return, ItemList, end, item}
use Rattle.acc_code.specs.Emittable.{Throughout, Within, cases_in, counting, IsPlaced, IsPlacedItem}
use Rattle.emit_blocks.specs.Steps.{Operation, operation}
use Rattle.emit_control.specs.declared.ways.Ways.{Ways}
use Rattle.emit_proof.proofs.Anywhere.{Later, PartKeeps, later}
use Rattle.emit_control.specs.Entries.{Entry, Run, Head, Place, Close, Branch, Goto, Dispatch, CallTo, CallHelper, Wipe, Ret, Finish, flushed}
use Rattle.emit_control.specs.Flow.{Part, labels, item_labels, is_end, opposite, target, goto, if_code, loop_code, behind_label, behind_jump, inner, first_ways, turn_ways, third_ways, switch_ways, emit}

-- what is used of items: cases stand directly in their switch, once each, its labels differ, and what is known of calls
module _ (C : Item → Type 0) where
  abbrev mutual
    pub Placed : ItemList → Type 0
    Placed end = Unit {0}
    Placed (item x xs) = PlacedItem x × Placed xs

    pub PlacedItem : Item → Type 0
    PlacedItem (If t hit miss) = (cases_in hit ≡ []) × Placed hit × (cases_in miss ≡ []) × Placed miss
    PlacedItem (Loop before body third last) = (cases_in before ≡ []) × Placed before × (cases_in body ≡ []) × Placed body × (cases_in third ≡ []) × Placed third
    PlacedItem (Switch cases body) = AllPairs (λ k m. k ≢ m) cases × (cases_in body ≡ counting 0 (length cases)) × Placed body
    PlacedItem (Call f) = C (Call f)
    PlacedItem (Helper name) = C (Helper name)
    PlacedItem x = Unit {0}

  abbrev Absent : Bool → Type 0
  Absent true = Unit {0}
  Absent false = ⊥

  no_cases : (b d : Bool) (xs : ItemList) → IsPlaced b d false xs → cases_in xs ≡ []
  no_cases b d end p = refl
  no_cases b d (item (Op o m) xs) p = no_cases b d xs p.1
  no_cases b d (item (If t hit miss) xs) p = no_cases b d xs p.1
  no_cases b d (item (Loop before body third last) xs) p = no_cases b d xs p.1
  no_cases b d (item (Switch cases body) xs) p = no_cases b d xs p.1
  no_cases b d (item (Case n) xs) p = absurd (subst Absent (sym p.0) tt)
  no_cases b d (item (Clear v from) xs) p = no_cases b d xs p.1
  no_cases b d (item (Call f) xs) p = no_cases b d xs p.1
  no_cases b d (item (Helper name) xs) p = no_cases b d xs p.1
  no_cases b d (item Break xs) p = no_cases b d xs p.1
  no_cases b d (item Continue xs) p = no_cases b d xs p.1
  no_cases b d (item Return xs) p = no_cases b d xs p.1

  mutual
    pub placed : (b d l : Bool) (xs : ItemList) → IsPlaced b d l xs → Throughout C xs → Placed xs
    placed b d l end p t = tt
    placed b d l (item x xs) p t = (placed_item b d l x p.0 t.0 t.1, placed b d l xs p.1 t.2)

    placed_item : (b d l : Bool) (x : Item) → IsPlacedItem b d l x → C x → Within C x → PlacedItem x
    placed_item b d l (Op o m) p c t = tt
    placed_item b d l (If test hit miss) p c t = (no_cases b d hit p.0, placed b d false hit p.0 t.0, no_cases b d miss p.1, placed b d false miss p.1 t.1)
    placed_item b d l (Loop before body third last) p c t = (
      no_cases true false before p.0,
      placed true false false before p.0 t.0,
      no_cases true true body p.1,
      placed true true false body p.1 t.1,
      no_cases true false third p.2,
      placed true false false third p.2 t.2,
    )
    placed_item b d l (Switch cases body) p c t = (p.0, p.1, placed true d true body p.2 t)
    placed_item b d l (Case n) p c t = tt
    placed_item b d l (Clear v from) p c t = tt
    placed_item b d l (Call f) p c t = c
    placed_item b d l (Helper name) p c t = c
    placed_item b d l Break p c t = tt
    placed_item b d l Continue p c t = tt
    placed_item b d l Return p c t = tt

-- of any call
abbrev pub Any : Item → Type 0
Any x = Unit {0}

mutual
  pub any : (xs : ItemList) → Throughout Any xs
  any end = tt
  any (item x xs) = (tt, any_within x, any xs)

  any_within : (x : Item) → Within Any x
  any_within (Op o m) = tt
  any_within (If test hit miss) = (any hit, any miss)
  any_within (Loop before body third last) = (any before, any body, any third)
  any_within (Switch cases body) = any body
  any_within (Case n) = tt
  any_within (Clear v from) = tt
  any_within (Call f) = tt
  any_within (Helper name) = tt
  any_within Break = tt
  any_within Continue = tt
  any_within Return = tt

pub placed_any : (body : ItemList) → IsPlaced false false false body → Placed Any body
placed_any body p = placed Any false false false body p (any body)

pub no_cases_directly : (body : ItemList) → IsPlaced false false false body → cases_in body ≡ []
no_cases_directly body p = no_cases Any false false body p

-- labels of cases, by the first one of their switch
abbrev pub CasesAre : (ℕ → Type 0) → ℕ → List ℕ → Type 0
CasesAre M c [] = Unit {0}
CasesAre M c (n ∷ ns) = M (c + n) × CasesAre M c ns

pub no_case : (M : ℕ → Type 0) (c : ℕ) (ns : List ℕ) → ns ≡ [] → CasesAre M c ns
no_case M c ns e = subst (CasesAre M c) (sym e) tt

pub counted : (M : ℕ → Type 0) (c k n : ℕ) → ((l : ℕ) → c + k ≤ l → l < c + k + n → M l) → CasesAre M c (counting k n)
counted M c k zero r = tt
counted M c k (suc n) r = (r (c + k) (omega arith) (omega arith), counted M c (suc k) n (λ l g h. r l (omega (arith, g)) (omega (arith, h))))

pub cases_also : (M N : ℕ → Type 0) (c : ℕ) (ns : List ℕ) → ((l : ℕ) → M l → N l) → CasesAre M c ns → CasesAre N c ns
cases_also M N c [] f h = tt
cases_also M N c (n ∷ ns) f h = (f (c + n) h.0, cases_also M N c ns f h.1)

-- the end of the loop with this head
abbrev pub Closes : ℕ → Entry → Type 0
Closes k (Run os) = ⊥
Closes k (Head l) = ⊥
Closes k (Place l) = ⊥
Closes k (Close h l) = h ≡ k
Closes k (Branch t l) = ⊥
Closes k (Goto l) = ⊥
Closes k (Dispatch cs l b) = ⊥
Closes k (CallTo f) = ⊥
Closes k (CallHelper name) = ⊥
Closes k (Wipe v from l) = ⊥
Closes k Ret = ⊥
Closes k (Finish l) = ⊥

-- entries of items, by what is known of the labels that they place, and of calls
abbrev pub Allowed : (ℕ → Type 0) → (Item → Type 0) → Entry → Type 0
Allowed M C (Run os) = Unit {0}
Allowed M C (Head l) = M l
Allowed M C (Place l) = M l
Allowed M C (Close h l) = Unit {0}
Allowed M C (Branch t l) = Unit {0}
Allowed M C (Goto l) = Unit {0}
Allowed M C (Dispatch cs l b) = AllPairs (λ k m. k ≢ m) cs
Allowed M C (CallTo f) = C (Call f)
Allowed M C (CallHelper name) = C (Helper name)
Allowed M C (Wipe v from l) = M l
Allowed M C Ret = Unit {0}
Allowed M C (Finish l) = ⊥

-- the end of a loop comes behind its head
abbrev pub IsClosed : Entry → List Entry → Type 0
IsClosed (Run os) es = Unit {0}
IsClosed (Head l) es = Later (Closes l) es
IsClosed (Place l) es = Unit {0}
IsClosed (Close h l) es = Unit {0}
IsClosed (Branch t l) es = Unit {0}
IsClosed (Goto l) es = Unit {0}
IsClosed (Dispatch cs l b) es = Unit {0}
IsClosed (CallTo f) es = Unit {0}
IsClosed (CallHelper name) es = Unit {0}
IsClosed (Wipe v from l) es = Unit {0}
IsClosed Ret es = Unit {0}
IsClosed (Finish l) es = Unit {0}

module _ (M : ℕ → Type 0) (C : Item → Type 0) where
  -- it stays with each entry of items before it
  abbrev pub Stays : (List Entry → Type 0) → Type 0
  Stays Q = (e : Entry) (es : List Entry) → Allowed M C e → IsClosed e es → Q es → Q (e ∷ es)

  pub flush_keeps : (Q : List Entry → Type 0) → Stays Q → (os : List Operation) (es : List Entry) → Q es → Q (flushed os es)
  flush_keeps Q more [] es h = h
  flush_keeps Q more (o ∷ os) es h = more (Run (o ∷ os)) es tt tt h

  goto_keeps : (Q : List Entry → Type 0) → Stays Q → (b : Bool) (k : ℕ) (rest : List Entry) → Q rest → Q (if b then rest else Goto k ∷ rest)
  goto_keeps Q more true k rest h = h
  goto_keeps Q more false k rest h = more (Goto k) rest tt tt h

  pub if_keeps : (Q : List Entry → Type 0) → Stays Q → (a b : Option ℕ) (t : Test) (hit miss : Part) (l next : ℕ) (rest : List Entry) → M l → PartKeeps Q hit → PartKeeps Q miss → Q rest → Q (if_code t a b hit miss l next rest)
  if_keeps Q more (Some a) (Some b) t hit miss l next rest ml ph pm h = both (a == next)
    where
      both : (e : Bool) → Q (if e then Branch (opposite t) b ∷ rest else Branch t a ∷ goto b next rest)
      both true = more _ rest tt tt h
      both false = more _ _ tt tt (goto_keeps Q more (b == next) b rest h)
  if_keeps Q more (Some a) None t hit miss l next rest ml ph pm h = more _ _ tt tt (pm.by next rest h)
  if_keeps Q more None (Some b) t hit miss l next rest ml ph pm h = more _ _ tt tt (ph.by next rest h)
  if_keeps Q more None None t hit miss l next rest ml ph pm h = more _ _ tt tt (ph.by l (Place l ∷ miss next rest) (more _ _ ml tt (pm.by next rest h)))

  pub loop_keeps : (Q : List Entry → Type 0) → Stays Q → (none : Bool) (head start go : ℕ) (first body third : Part) (next : ℕ) (rest : List Entry) → M head → M start → M go
      → PartKeeps (Later (Closes head)) first → PartKeeps (Later (Closes head)) body → PartKeeps (Later (Closes head)) third → PartKeeps Q first → PartKeeps Q body → PartKeeps Q third → Q rest
      → Q (loop_code none head start go first body third next rest)
  loop_keeps Q more true head start go first body third next rest mh ms mg lf lb lt pf pb pt h =
      more (Head head) _ mh (lf.by start _ (inr (lb.by next _ (inl refl)))) (pf.by start _ (more (Place start) _ ms tt (pb.by next _ (more (Close head next) _ tt tt h))))
  loop_keeps Q more false head start go first body third next rest mh ms mg lf lb lt pf pb pt h =
      more (Head head) _ mh (lf.by start _ (inr (lb.by go _ (inr (lt.by next _ (inl refl))))))
      (pf.by start _ (more (Place start) _ ms tt (pb.by go _ (more (Place go) _ mg tt (pt.by next _ (more (Close head next) _ tt tt h))))))

  pub label_keeps : (Q : List Entry → Type 0) → Stays Q → (b : Bool) (base : ℕ) (code rest : List Entry) → M base → Q code → Q rest → Q (behind_label b base code rest)
  label_keeps Q more true base code rest m c h = h
  label_keeps Q more false base code rest m c h = more (Place base) code m tt c

  pub jump_keeps : (Q : List Entry → Type 0) (b : Bool) (code rest : List Entry) → Q code → Q rest → Q (behind_jump b code rest)
  jump_keeps Q true code rest c h = h
  jump_keeps Q false code rest c h = c

  pub kept : (Q : List Entry → Type 0) → Stays Q → (xs : ItemList) → Placed C xs → (os : List Operation) (w : Ways) (base : ℕ) → ((l : ℕ) → base ≤ l → l < base + labels xs → M l) → CasesAre M w.cases (cases_in xs) → PartKeeps Q (emit xs os w base)
  kept Q more end p os w base r c = record { by = λ next rest h. flush_keeps Q more os _ (goto_keeps Q more (w.onward == next) w.onward rest h) }
  kept Q more (item (Op o m) xs) p os w base r c = record { by = λ next rest h. (kept Q more xs p.1 (os ++ operation o m ∷ []) w base (λ l g k. r l g (omega (arith, k))) c).by next rest h }
  kept Q more (item (If t hit miss) xs) p os w base r c = record {
    by = λ next rest h. flush_keeps Q more os _ (if_keeps Q more (target (inner xs w base) hit) (target (inner xs w base) miss) t _ _ (base + 1) _ _ (r (base + 1) (omega arith) (omega arith))
        (kept Q more hit p.0.1 [] (inner xs w base) (base + 2) (λ l g k. r l (omega (arith, g)) (omega (arith, k))) (no_case M w.cases _ p.0.0))
        (kept Q more miss p.0.3 [] (inner xs w base) (base + 2 + labels hit) (λ l g k. r l (omega (arith, g)) (omega (arith, k))) (no_case M w.cases _ p.0.2))
        (label_keeps Q more (is_end xs) base _ rest (r base (omega arith) (omega arith)) ((kept Q more xs p.1 [] w (base + item_labels (If t hit miss)) (λ l g k. r l (omega (arith, g)) (omega (arith, k))) c).by next rest h) h));
  }
  kept Q more (item (Loop before body third last) xs) p os w base r c = record {
    by = λ next rest h.
        let w1 = first_ways third base (inner xs w base) in
        let w2 = turn_ways third base (inner xs w base) in
        let w3 = third_ways base (inner xs w base) in
        let b2 = base + 4 + labels before in
        let b3 = base + 4 + labels before + labels body in
        let r1 : (l : ℕ) → base + 4 ≤ l → l < base + 4 + labels before → M l = λ l g k. r l (omega (arith, g)) (omega (arith, k)) in
        let r2 : (l : ℕ) → base + 4 + labels before ≤ l → l < base + 4 + labels before + labels body → M l = λ l g k. r l (omega (arith, g)) (omega (arith, k)) in
        let r3 : (l : ℕ) → base + 4 + labels before + labels body ≤ l → l < base + 4 + labels before + labels body + labels third → M l = λ l g k. r l (omega (arith, g)) (omega (arith, k)) in
        let closes = Closes (base + 1) in
        flush_keeps Q more os _ (loop_keeps Q more (is_end third) (base + 1) (base + 2) (base + 3) _ _ _ _ _ (r (base + 1) (omega arith) (omega arith)) (r (base + 2) (omega arith) (omega arith)) (r (base + 3) (omega arith) (omega arith))
        (later closes before [] w1 (base + 4)) (later closes body [] w2 b2) (later closes third [] w3 b3)
        (kept Q more before p.0.1 [] w1 (base + 4) r1 (no_case M w.cases _ p.0.0)) (kept Q more body p.0.3 [] w2 b2 r2 (no_case M w.cases _ p.0.2)) (kept Q more third p.0.5 [] w3 b3 r3 (no_case M w.cases _ p.0.4))
        (label_keeps Q more (is_end xs) base _ rest (r base (omega arith) (omega arith)) ((kept Q more xs p.1 [] w (base + item_labels (Loop before body third last)) (λ l g k. r l (omega (arith, g)) (omega (arith, k))) c).by next rest h) h));
  }
  kept Q more (item (Switch cases body) xs) p os w base r c = record {
    by = λ next rest h. flush_keeps Q more os _ (more _ _ p.0.0 tt
        ((kept Q more body p.0.2 [] (switch_ways base (inner xs w base)) (base + 1 + length cases) (λ l g k. r l (omega (arith, g)) (omega (arith, k))) (subst (CasesAre M (base + 1)) (sym p.0.1) (counted M (base + 1) 0 (length cases) (λ l g k. r l (omega (arith, g)) (omega (arith, k)))))).by _ _
        (label_keeps Q more (is_end xs) base _ rest (r base (omega arith) (omega arith)) ((kept Q more xs p.1 [] w (base + item_labels (Switch cases body)) (λ l g k. r l (omega (arith, g)) (omega (arith, k))) c).by next rest h) h)));
  }
  kept Q more (item (Case n) xs) p os w base r c = record { by = λ next rest h. flush_keeps Q more os _ (more _ _ c.0 tt ((kept Q more xs p.1 [] w base (λ l g k. r l g (omega (arith, k))) c.1).by next rest h)) }
  kept Q more (item (Clear v from) xs) p os w base r c = record { by = λ next rest h. flush_keeps Q more os _ (more _ _ (r base (omega arith) (omega arith)) tt ((kept Q more xs p.1 [] w (base + 1) (λ l g k. r l (omega (arith, g)) (omega (arith, k))) c).by next rest h)) }
  kept Q more (item (Call f) xs) p os w base r c = record { by = λ next rest h. flush_keeps Q more os _ (more _ _ p.0 tt ((kept Q more xs p.1 [] w base (λ l g k. r l g (omega (arith, k))) c).by next rest h)) }
  kept Q more (item (Helper name) xs) p os w base r c = record { by = λ next rest h. flush_keeps Q more os _ (more _ _ p.0 tt ((kept Q more xs p.1 [] w base (λ l g k. r l g (omega (arith, k))) c).by next rest h)) }
  kept Q more (item Break xs) p os w base r c = record { by = λ next rest h. flush_keeps Q more os _ (more _ _ tt tt (jump_keeps Q (is_end xs) _ rest ((kept Q more xs p.1 [] w base (λ l g k. r l g (omega (arith, k))) c).by next rest h) h)) }
  kept Q more (item Continue xs) p os w base r c = record { by = λ next rest h. flush_keeps Q more os _ (more _ _ tt tt (jump_keeps Q (is_end xs) _ rest ((kept Q more xs p.1 [] w base (λ l g k. r l g (omega (arith, k))) c).by next rest h) h)) }
  kept Q more (item Return xs) p os w base r c = record { by = λ next rest h. flush_keeps Q more os _ (more _ _ tt tt (jump_keeps Q (is_end xs) _ rest ((kept Q more xs p.1 [] w base (λ l g k. r l g (omega (arith, k))) c).by next rest h) h)) }
