-- Each label that an entry's jumps name is that of a loop's head before it, or is placed later.
use Rattle.std.proofs.Common.{◌≡◌, ℕ, zero, suc, ◌+◌, ◌<◌, ◌≤◌, Bool, true, false, ◌⊎◌, inl, inr, List, [], ◌∷◌, ◌++◌, length, Option, Some, None, ⊎_elim, refl, sym, ◌∙◌, subst, arith}
use Rattle.std.specs.Prelude.{◌==◌, if◌then◌else◌}
use Rattle.std.proofs.Math.Nat.{eq-or-lt_of_le}
use Rattle.acc_code.specs.declared.item.CaseLabel.{CaseLabel}
use Rattle.acc_code.specs.declared.item.CaseLabel.TheVariants.{Value, Default}
use Rattle.acc_code.specs.declared.operation.Test.{Test}
use Rattle.acc_code.specs.AccTree.{Op, If, Loop, Switch, Case, Clear, Call, Helper, Break, Continue, Return, ItemList, end, item}
use Rattle.acc_code.specs.Emittable.{cases_in, counting}
use Rattle.emit_blocks.specs.Steps.{Operation, operation}
use Rattle.emit_control.specs.declared.ways.Ways.{Ways}
use Rattle.emit_control.specs.Entries.{Entry, Run, Head, Place, Close, Branch, Goto, Dispatch, CallTo, CallHelper, Wipe, Ret, Finish, flushed}
use Rattle.emit_control.specs.Flow.{Part, labels, item_labels, is_end, opposite, target, goto, if_code, loop_code, behind_label, behind_jump, inner, next_behind, first_ways, turn_ways, third_ways, switch_ways, emit}
use Rattle.emit_control.specs.Cuts.{default_label}
use Rattle.emit_proof.proofs.Anywhere.{Later, PartKeeps, flush_keeps, if_keeps, loop_keeps, later}
use Rattle.emit_proof.proofs.Keeping.{Any, Placed}

-- the label of a loop's head
abbrev pub IsHead : ℕ → Entry → Type 0
IsHead k (Run os) = ⊥
IsHead k (Head l) = l ≡ k
IsHead k (Place l) = ⊥
IsHead k (Close h l) = ⊥
IsHead k (Branch t l) = ⊥
IsHead k (Goto l) = ⊥
IsHead k (Dispatch cs l b) = ⊥
IsHead k (CallTo f) = ⊥
IsHead k (CallHelper name) = ⊥
IsHead k (Wipe v from l) = ⊥
IsHead k Ret = ⊥
IsHead k (Finish l) = ⊥

-- the entry writes a mark with the label, if that was named
abbrev pub Ends : ℕ → Entry → Type 0
Ends k (Run os) = ⊥
Ends k (Head l) = ⊥
Ends k (Place l) = l ≡ k
Ends k (Close h l) = ⊥
Ends k (Branch t l) = ⊥
Ends k (Goto l) = ⊥
Ends k (Dispatch cs l b) = ⊥
Ends k (CallTo f) = ⊥
Ends k (CallHelper name) = ⊥
Ends k (Wipe v from l) = ⊥
Ends k Ret = ⊥
Ends k (Finish l) = l ≡ k

-- a jump of the entry may name the label
abbrev pub Names : ℕ → Entry → Type 0
Names k (Run os) = ⊥
Names k (Head l) = ⊥
Names k (Place l) = ⊥
Names k (Close h l) = (h ≡ k) ⊎ (l ≡ k)
Names k (Branch t l) = l ≡ k
Names k (Goto l) = l ≡ k
Names k (Dispatch cs l b) = ((l ≤ k) × (k < l + length cs)) ⊎ (default_label cs l b ≡ k)
Names k (CallTo f) = ⊥
Names k (CallHelper name) = ⊥
Names k (Wipe v from l) = ⊥
Names k Ret = ⊥
Names k (Finish l) = ⊥

-- a label is that of a head before, or is placed later
abbrev pub Known : (ℕ → Type 0) → ℕ → List Entry → Type 0
Known H k es = H k ⊎ Later (Ends k) es

abbrev pub Bound : (ℕ → Type 0) → List Entry → Type 0
Bound H [] = Unit {0}
Bound H (e ∷ es) = ((k : ℕ) → Names k e → Known H k es) × Bound (λ k. IsHead k e ⊎ H k) es

more_bound : (A B : ℕ → Type 0) → ((k : ℕ) → A k → B k) → (es : List Entry) → Bound A es → Bound B es
more_bound A B f [] h = tt
more_bound A B f (e ∷ es) h = (
  λ k q. ⊎_elim (λ a. inl (f k a)) (λ l. inr l) (h.0 k q),
  more_bound (λ k. IsHead k e ⊎ A k) (λ k. IsHead k e ⊎ B k) (λ k q. ⊎_elim (λ x. inl x) (λ a. inr (f k a)) q) es h.1,
)

same_known : (H : ℕ → Type 0) (a b : ℕ) (es : List Entry) → Known H a es → a ≡ b → Known H b es
same_known H a b es h e = subst (λ k. Known H k es) e h

module _ (H : ℕ → Type 0) where
  -- an entry before a list
  led : (e : Entry) (es : List Entry) → ((k : ℕ) → Names k e → Known H k es) → Bound H es → Bound H (e ∷ es)
  led e es f h = (f, more_bound H (λ k. IsHead k e ⊎ H k) (λ k q. inr q) es h)

  -- one whose jumps name nothing
  silent : (e : Entry) (es : List Entry) → ((k : ℕ) → Names k e → ⊥) → Bound H es → Bound H (e ∷ es)
  silent e es f h = led e es (λ k q. absurd (f k q)) h

  -- one whose jump names a label
  jumping : (e : Entry) (es : List Entry) (l : ℕ) → ((k : ℕ) → Names k e → l ≡ k) → Known H l es → Bound H es → Bound H (e ∷ es)
  jumping e es l f g h = led e es (λ k q. same_known H l k es g (f k q)) h

  known_on : (k : ℕ) (e : Entry) (es : List Entry) → Known H k es → Known H k (e ∷ es)
  known_on k e es (inl h) = inl h
  known_on k e es (inr h) = inr (inr h)

  known_part : (k next : ℕ) (p : Part) (rest : List Entry) → PartKeeps (Later (Ends k)) p → Known H k rest → Known H k (p next rest)
  known_part k next p rest l (inl h) = inl h
  known_part k next p rest l (inr h) = inr (l.by next rest h)

  -- each label that a part may name is known behind it
  pub record PartBound (p : Part) (w : Ways) : Type 0 where
    pub by : (next : ℕ) (rest : List Entry) → Known H w.onward rest → Known H w.broken rest → Known H w.continued rest → Known H next rest → Bound H rest → Bound H (p next rest)

  abbrev TargetKnown : Option ℕ → List Entry → Type 0
  TargetKnown None rest = Unit {0}
  TargetKnown (Some k) rest = Known H k rest

  target_known : (xs : ItemList) (w : Ways) (rest : List Entry) → Known H w.onward rest → Known H w.broken rest → Known H w.continued rest → TargetKnown (target w xs) rest
  target_known end w rest ho hb hc = ho
  target_known (item (Op o m) xs) w rest ho hb hc = tt
  target_known (item (If t hit miss) xs) w rest ho hb hc = tt
  target_known (item (Loop before body third last) xs) w rest ho hb hc = tt
  target_known (item (Switch cases body) xs) w rest ho hb hc = tt
  target_known (item (Case n) xs) w rest ho hb hc = tt
  target_known (item (Clear v from) xs) w rest ho hb hc = tt
  target_known (item (Call f) xs) w rest ho hb hc = tt
  target_known (item (Helper name) xs) w rest ho hb hc = tt
  target_known (item Break end) w rest ho hb hc = hb
  target_known (item Break (item x xs)) w rest ho hb hc = tt
  target_known (item Continue end) w rest ho hb hc = hc
  target_known (item Continue (item x xs)) w rest ho hb hc = tt
  target_known (item Return xs) w rest ho hb hc = tt

  flush_bound : (os : List Operation) (es : List Entry) → Bound H es → Bound H (flushed os es)
  flush_bound [] es h = h
  flush_bound (o ∷ os) es h = silent (Run (o ∷ os)) es (λ k q. q) h

  goto_bound : (b : Bool) (k : ℕ) (rest : List Entry) → Known H k rest → Bound H rest → Bound H (if b then rest else Goto k ∷ rest)
  goto_bound true k rest g h = h
  goto_bound false k rest g h = jumping (Goto k) rest k (λ l q. q) g h

  known_goto : (b : Bool) (k l : ℕ) (rest : List Entry) → Known H l rest → Known H l (if b then rest else Goto k ∷ rest)
  known_goto true k l rest h = h
  known_goto false k l rest h = known_on l (Goto k) rest h

  if_bound : (a b : Option ℕ) (t : Test) (hit miss : Part) (w : Ways) (l next : ℕ) (rest : List Entry) → ((k : ℕ) → PartKeeps (Later (Ends k)) hit) → ((k : ℕ) → PartKeeps (Later (Ends k)) miss) → PartBound hit w → PartBound miss w
      → TargetKnown a rest → TargetKnown b rest → Known H w.onward rest → Known H w.broken rest → Known H w.continued rest → Known H next rest → Bound H rest → Bound H (if_code t a b hit miss l next rest)
  if_bound (Some a) (Some b) t hit miss w l next rest lh lm ph pm ta tb ho hb hc hn h = both (a == next)
    where
      both : (e : Bool) → Bound H (if e then Branch (opposite t) b ∷ rest else Branch t a ∷ goto b next rest)
      both true = jumping (Branch (opposite t) b) rest b (λ k q. q) tb h
      both false = jumping (Branch t a) _ a (λ k q. q) (known_goto (b == next) b a rest ta) (goto_bound (b == next) b rest tb h)
  if_bound (Some a) None t hit miss w l next rest lh lm ph pm ta tb ho hb hc hn h = jumping (Branch t a) _ a (λ k q. q) (known_part a next miss rest (lm a) ta) (pm.by next rest ho hb hc hn h)
  if_bound None (Some b) t hit miss w l next rest lh lm ph pm ta tb ho hb hc hn h = jumping (Branch (opposite t) b) _ b (λ k q. q) (known_part b next hit rest (lh b) tb) (ph.by next rest ho hb hc hn h)
  if_bound None None t hit miss w l next rest lh lm ph pm ta tb ho hb hc hn h =
      let on = λ (k : ℕ) (q : Known H k rest). known_on k (Place l) (miss next rest) (known_part k next miss rest (lm k) q) in
      jumping (Branch (opposite t) l) _ l (λ k q. q) (inr ((lh l).by l (Place l ∷ miss next rest) (inl refl)))
      (ph.by l (Place l ∷ miss next rest) (on w.onward ho) (on w.broken hb) (on w.continued hc) (inr (inl refl)) (silent (Place l) _ (λ k q. q) (pm.by next rest ho hb hc hn h)))

  label_known : (b : Bool) (k base : ℕ) (code rest : List Entry) → Known H k code → Known H k rest → Known H k (behind_label b base code rest)
  label_known true k base code rest c h = h
  label_known false k base code rest c h = known_on k (Place base) code c

  own_known : (b : Bool) (k base : ℕ) (code rest : List Entry) → Known H k rest → Known H (if b then k else base) (behind_label b base code rest)
  own_known true k base code rest h = h
  own_known false k base code rest h = inr (inl refl)

  label_bound : (b : Bool) (base : ℕ) (code rest : List Entry) → Bound H code → Bound H rest → Bound H (behind_label b base code rest)
  label_bound true base code rest c h = h
  label_bound false base code rest c h = silent (Place base) code (λ k q. q) c

  jump_known : (b : Bool) (k : ℕ) (code rest : List Entry) → Known H k code → Known H k rest → Known H k (behind_jump b code rest)
  jump_known true k code rest c h = h
  jump_known false k code rest c h = c

  jump_bound : (b : Bool) (code rest : List Entry) → Bound H code → Bound H rest → Bound H (behind_jump b code rest)
  jump_bound true code rest c h = h
  jump_bound false code rest c h = c

-- with the head of a loop
abbrev Headed : (ℕ → Type 0) → ℕ → ℕ → Type 0
Headed H head k = (head ≡ k) ⊎ H k

more_known : (H : ℕ → Type 0) (head k : ℕ) (es : List Entry) → Known H k es → Known (Headed H head) k es
more_known H head k es (inl h) = inl (inr h)
more_known H head k es (inr h) = inr h

loop_bound : (H : ℕ → Type 0) (none : Bool) (head start go k cases : ℕ) (first body third : Part) (next : ℕ) (rest : List Entry)
    → ((l : ℕ) → PartKeeps (Later (Ends l)) first) → ((l : ℕ) → PartKeeps (Later (Ends l)) body) → ((l : ℕ) → PartKeeps (Later (Ends l)) third)
    → PartBound (Headed H head) first (record { onward = start; broken = k; continued = if none then head else go; cases = cases })
    → PartBound (Headed H head) body (record { onward = if none then head else go; broken = k; continued = if none then head else go; cases = cases })
    → PartBound (Headed H head) third (record { onward = head; broken = k; continued = k; cases = cases })
    → Known H k rest → Known H next rest → Bound H rest → Bound H (loop_code none head start go first body third next rest)
loop_bound H true head start go k cases first body third next rest lf lb lt pf pb pt hk hn h =
    let top : (es : List Entry) → Known (Headed H head) head es = λ es. inl (inl refl) in
    let c : List Entry = Close head next ∷ rest in
    let k1 = known_on (Headed H head) k (Close head next) rest (more_known H head k rest hk) in
    let n0 = more_known H head next rest hn in
    let n1 = known_on (Headed H head) next (Close head next) rest n0 in
    let h1 : Bound (Headed H head) (Close head next ∷ rest) = led (Headed H head) (Close head next) rest (λ l q. ⊎_elim (λ e. same_known (Headed H head) head l rest (top rest) e) (λ e. same_known (Headed H head) next l rest n0 e) q) (more_bound H (Headed H head) (λ l q. inr q) rest h) in
    let b1 : Bound (Headed H head) (body next (Close head next ∷ rest)) = pb.by next c (top c) k1 (top c) n1 h1 in
    let k2 = known_on (Headed H head) k (Place start) (body next c) (known_part (Headed H head) k next body c (lb k) k1) in
    (λ l q. absurd q, pf.by start (Place start ∷ body next c) (inr (inl refl)) k2 (top (Place start ∷ body next c)) (inr (inl refl)) (silent (Headed H head) (Place start) (body next c) (λ l q. q) b1))
loop_bound H false head start go k cases first body third next rest lf lb lt pf pb pt hk hn h =
    let top : (es : List Entry) → Known (Headed H head) head es = λ es. inl (inl refl) in
    let c : List Entry = Close head next ∷ rest in
    let c2 : List Entry = Place go ∷ third next (Close head next ∷ rest) in
    let k1 = known_on (Headed H head) k (Close head next) rest (more_known H head k rest hk) in
    let n0 = more_known H head next rest hn in
    let n1 = known_on (Headed H head) next (Close head next) rest n0 in
    let h1 : Bound (Headed H head) (Close head next ∷ rest) = led (Headed H head) (Close head next) rest (λ l q. ⊎_elim (λ e. same_known (Headed H head) head l rest (top rest) e) (λ e. same_known (Headed H head) next l rest n0 e) q) (more_bound H (Headed H head) (λ l q. inr q) rest h) in
    let t1 : Bound (Headed H head) (third next (Close head next ∷ rest)) = pt.by next c (top c) k1 k1 n1 h1 in
    let k2 = known_on (Headed H head) k (Place go) (third next c) (known_part (Headed H head) k next third c (lt k) k1) in
    let g2 : Known (Headed H head) go (Place go ∷ third next (Close head next ∷ rest)) = inr (inl refl) in
    let b1 : Bound (Headed H head) (body go (Place go ∷ third next (Close head next ∷ rest))) = pb.by go c2 g2 k2 g2 g2 (silent (Headed H head) (Place go) (third next c) (λ l q. q) t1) in
    let on = λ (l : ℕ) (q : Known (Headed H head) l c2). known_on (Headed H head) l (Place start) (body go c2) (known_part (Headed H head) l go body c2 (lb l) q) in
    (λ l q. absurd q, pf.by start (Place start ∷ body go c2) (inr (inl refl)) (on k k2) (on go g2) (inr (inl refl)) (silent (Headed H head) (Place start) (body go c2) (λ l q. q) b1))

-- labels of cases, by the first one of their switch
abbrev InCases : ℕ → ℕ → List ℕ → Type 0
InCases k c [] = ⊥
InCases k c (n ∷ ns) = (c + n ≡ k) ⊎ InCases k c ns

counted_in : (k c m n : ℕ) → c + m ≤ k → k < c + m + n → InCases k c (counting m n)
counted_in k c m zero g h = absurd (omega (arith, g, h))
counted_in k c m (suc n) g h = ⊎_elim (λ e. inl e) (λ l. inr (counted_in k c (suc m) n (omega (arith, l)) (omega (arith, h)))) (split (c + m) k g)
  where
    split : (a b : ℕ) → a ≤ b → (a ≡ b) ⊎ (a < b)
    split a b le = eq-or-lt_of_le le

last_label : (P : List Entry → Type 0) (b : Bool) (base : ℕ) (code rest : List Entry) → (b ≡ true → ⊥) → P (Place base ∷ code) → P (behind_label b base code rest)
last_label P true base code rest f h = absurd (f refl)
last_label P false base code rest f h = h

last_jump : (P : List Entry → Type 0) (b : Bool) (code rest : List Entry) → (b ≡ true → ⊥) → P code → P (behind_jump b code rest)
last_jump P true code rest f h = absurd (f refl)
last_jump P false code rest f h = h

abbrev Missing : Bool → Type 0
Missing true = ⊥
Missing false = Unit {0}

-- a list with a case has items
has_items : (k c : ℕ) (xs : ItemList) → InCases k c (cases_in xs) → is_end xs ≡ true → ⊥
has_items k c end q e = q
has_items k c (item x xs) q e = subst Missing e tt

-- each case that stands directly in a list is placed in its code
case_placed : (k : ℕ) (xs : ItemList) (os : List Operation) (w : Ways) (base next : ℕ) (rest : List Entry) → InCases k w.cases (cases_in xs) → Later (Ends k) (emit xs os w base next rest)
case_placed k xs os w base next rest q = by xs os base q
  where
    on : (e : Entry) (es : List Entry) → Later (Ends k) es → Later (Ends k) (e ∷ es)
    on e es h = inr h

    by : (xs : ItemList) (os : List Operation) (base : ℕ) → InCases k w.cases (cases_in xs) → Later (Ends k) (emit xs os w base next rest)
    by end os base q = absurd q
    by (item (Op o m) xs) os base q = by xs (os ++ operation o m ∷ []) base q
    by (item (If t hit miss) xs) os base q =
        let v = inner xs w base in
        flush_keeps (Later (Ends k)) on os _ (if_keeps (Later (Ends k)) on (target v hit) (target v miss) t _ _ (base + 1) _ _ (later (Ends k) hit [] v (base + 2)) (later (Ends k) miss [] v (base + 2 + labels hit))
        (last_label (Later (Ends k)) (is_end xs) base _ rest (has_items k w.cases xs q) (inr (by xs [] (base + item_labels (If t hit miss)) q))))
    by (item (Loop before body third last) xs) os base q =
        let v = inner xs w base in
        flush_keeps (Later (Ends k)) on os _ (loop_keeps (Later (Ends k)) on (is_end third) (base + 1) (base + 2) (base + 3) _ _ _ _ _ (later (Ends k) before [] (first_ways third base v) (base + 4)) (later (Ends k) body [] (turn_ways third base v) (base + 4 + labels before)) (later (Ends k) third [] (third_ways base v) (base + 4 + labels before + labels body))
        (last_label (Later (Ends k)) (is_end xs) base _ rest (has_items k w.cases xs q) (inr (by xs [] (base + item_labels (Loop before body third last)) q))))
    by (item (Switch cases body) xs) os base q =
        flush_keeps (Later (Ends k)) on os _ (inr ((later (Ends k) body [] (switch_ways base (inner xs w base)) (base + 1 + length cases)).by _ _
        (last_label (Later (Ends k)) (is_end xs) base _ rest (has_items k w.cases xs q) (inr (by xs [] (base + item_labels (Switch cases body)) q)))))
    by (item (Case n) xs) os base (inl e) = flush_keeps (Later (Ends k)) on os _ (inl e)
    by (item (Case n) xs) os base (inr q) = flush_keeps (Later (Ends k)) on os _ (inr (by xs [] base q))
    by (item (Clear v from) xs) os base q = flush_keeps (Later (Ends k)) on os _ (inr (by xs [] (base + 1) q))
    by (item (Call f) xs) os base q = flush_keeps (Later (Ends k)) on os _ (inr (by xs [] base q))
    by (item (Helper name) xs) os base q = flush_keeps (Later (Ends k)) on os _ (inr (by xs [] base q))
    by (item Break xs) os base q = flush_keeps (Later (Ends k)) on os _ (inr (last_jump (Later (Ends k)) (is_end xs) _ rest (has_items k w.cases xs q) (by xs [] base q)))
    by (item Continue xs) os base q = flush_keeps (Later (Ends k)) on os _ (inr (last_jump (Later (Ends k)) (is_end xs) _ rest (has_items k w.cases xs q) (by xs [] base q)))
    by (item Return xs) os base q = flush_keeps (Later (Ends k)) on os _ (inr (last_jump (Later (Ends k)) (is_end xs) _ rest (has_items k w.cases xs q) (by xs [] base q)))

-- a switch goes on at one of its cases, or behind it
default_in : (cs : List CaseLabel) (l behind : ℕ) → ((l ≤ default_label cs l behind) × (default_label cs l behind < l + length cs)) ⊎ (default_label cs l behind ≡ behind)
default_in [] l behind = inr refl
default_in (Value v ∷ cs) l behind = ⊎_elim (λ h. let g : suc l ≤ default_label cs (suc l) behind = h.0 in let k : default_label cs (suc l) behind < suc l + length cs = h.1 in inl (omega (arith, g), omega (arith, k))) (λ e. inr e) (default_in cs (suc l) behind)
default_in (Default ∷ cs) l behind = inl (omega arith, omega arith)

pub bound : (H : ℕ → Type 0) (xs : ItemList) → Placed Any xs → (os : List Operation) (w : Ways) (base : ℕ) → PartBound H (emit xs os w base) w
bound H end p os w base = record { by = λ next rest ho hb hc hn h. flush_bound H os _ (goto_bound H (w.onward == next) w.onward rest ho h) }
bound H (item (Op o m) xs) p os w base = record { by = λ next rest ho hb hc hn h. (bound H xs p.1 (os ++ operation o m ∷ []) w base).by next rest ho hb hc hn h }
bound H (item (If t hit miss) xs) p os w base = record {
  by = λ next rest ho hb hc hn h.
      let v = inner xs w base in
      let b2 = base + 2 + labels hit in
      let b3 = base + item_labels (If t hit miss) in
      let tail = emit xs [] w b3 next rest in
      let all = behind_label (is_end xs) base tail rest in
      let on = λ (k : ℕ) (q : Known H k rest). label_known H (is_end xs) k base tail rest (known_part H k next (emit xs [] w b3) rest (later (Ends k) xs [] w b3) q) q in
      let kj = own_known H (is_end xs) w.onward base tail rest ho in
      let kn = own_known H (is_end xs) next base tail rest hn in
      flush_bound H os _ (if_bound H (target v hit) (target v miss) t (emit hit [] v (base + 2)) (emit miss [] v b2) v (base + 1) (next_behind xs base next) all
      (λ k. later (Ends k) hit [] v (base + 2)) (λ k. later (Ends k) miss [] v b2) (bound H hit p.0.1 [] v (base + 2)) (bound H miss p.0.3 [] v b2)
      (target_known H hit v all kj (on w.broken hb) (on w.continued hc)) (target_known H miss v all kj (on w.broken hb) (on w.continued hc)) kj (on w.broken hb) (on w.continued hc) kn
      (label_bound H (is_end xs) base tail rest ((bound H xs p.1 [] w b3).by next rest ho hb hc hn h) h));
}
bound H (item (Loop before body third last) xs) p os w base = record {
  by = λ next rest ho hb hc hn h.
      let v = inner xs w base in
      let b2 = base + 4 + labels before in
      let b3 = base + 4 + labels before + labels body in
      let b4 = base + item_labels (Loop before body third last) in
      let w1 = first_ways third base v in
      let w2 = turn_ways third base v in
      let w3 = third_ways base v in
      let G = Headed H (base + 1) in
      let tail = emit xs [] w b4 next rest in
      let all = behind_label (is_end xs) base tail rest in
      let kj = own_known H (is_end xs) w.onward base tail rest ho in
      let kn = own_known H (is_end xs) next base tail rest hn in
      flush_bound H os _ (loop_bound H (is_end third) (base + 1) (base + 2) (base + 3) v.onward w.cases (emit before [] w1 (base + 4)) (emit body [] w2 b2) (emit third [] w3 b3) (next_behind xs base next) all
      (λ k. later (Ends k) before [] w1 (base + 4)) (λ k. later (Ends k) body [] w2 b2) (λ k. later (Ends k) third [] w3 b3)
      (bound (Headed H (base + 1)) before p.0.1 [] w1 (base + 4)) (bound (Headed H (base + 1)) body p.0.3 [] w2 b2) (bound (Headed H (base + 1)) third p.0.5 [] w3 b3) kj kn
      (label_bound H (is_end xs) base tail rest ((bound H xs p.1 [] w b4).by next rest ho hb hc hn h) h));
}
bound H (item (Switch cases body) xs) p os w base = record {
  by = λ next rest ho hb hc hn h.
      let v = inner xs w base in
      let b2 = base + 1 + length cases in
      let b3 = base + item_labels (Switch cases body) in
      let u = switch_ways base v in
      let tail = emit xs [] w b3 next rest in
      let all = behind_label (is_end xs) base tail rest in
      let on = λ (k : ℕ) (q : Known H k rest). label_known H (is_end xs) k base tail rest (known_part H k next (emit xs [] w b3) rest (later (Ends k) xs [] w b3) q) q in
      let kj = own_known H (is_end xs) w.onward base tail rest ho in
      let kn = own_known H (is_end xs) next base tail rest hn in
      let code = emit body [] u b2 (next_behind xs base next) all in
      let case : (k : ℕ) → base + 1 ≤ k → k < base + 1 + length cases → Known H k (emit body [] (switch_ways base (inner xs w base)) (base + 1 + length cases) (next_behind xs base next) (behind_label (is_end xs) base (emit xs [] w (base + item_labels (Switch cases body)) next rest) rest)) =
      λ k g l. inr (case_placed k body [] u b2 (next_behind xs base next) all (subst (InCases k (base + 1)) (sym p.0.1) (counted_in k (base + 1) 0 (length cases) (omega (arith, g)) (omega (arith, l))))) in
      let kd = known_part H v.onward (next_behind xs base next) (emit body [] u b2) all (later (Ends v.onward) body [] u b2) kj in
      flush_bound H os _ (led H (Dispatch cases (base + 1) v.onward) code
      (λ k q. ⊎_elim (λ r. case k r.0 r.1) (λ e. ⊎_elim (λ r. same_known H (default_label cases (base + 1) v.onward) k code (case (default_label cases (base + 1) v.onward) r.0 r.1) e) (λ d. same_known H v.onward k code kd (sym d ∙ e)) (default_in cases (base + 1) v.onward)) q)
      ((bound H body p.0.2 [] u b2).by (next_behind xs base next) all kj kj (on w.continued hc) kn (label_bound H (is_end xs) base tail rest ((bound H xs p.1 [] w b3).by next rest ho hb hc hn h) h)));
}
bound H (item (Case n) xs) p os w base = record { by = λ next rest ho hb hc hn h. flush_bound H os _ (silent H (Place (w.cases + n)) _ (λ k q. q) ((bound H xs p.1 [] w base).by next rest ho hb hc hn h)) }
bound H (item (Clear v from) xs) p os w base = record { by = λ next rest ho hb hc hn h. flush_bound H os _ (silent H (Wipe v from base) _ (λ k q. q) ((bound H xs p.1 [] w (base + 1)).by next rest ho hb hc hn h)) }
bound H (item (Call f) xs) p os w base = record { by = λ next rest ho hb hc hn h. flush_bound H os _ (silent H (CallTo f) _ (λ k q. q) ((bound H xs p.1 [] w base).by next rest ho hb hc hn h)) }
bound H (item (Helper name) xs) p os w base = record { by = λ next rest ho hb hc hn h. flush_bound H os _ (silent H (CallHelper name) _ (λ k q. q) ((bound H xs p.1 [] w base).by next rest ho hb hc hn h)) }
bound H (item Break xs) p os w base = record {
  by = λ next rest ho hb hc hn h.
      let code = emit xs [] w base next rest in
      flush_bound H os _ (jumping H (Goto w.broken) _ w.broken (λ k q. q) (jump_known H (is_end xs) w.broken code rest (known_part H w.broken next (emit xs [] w base) rest (later (Ends w.broken) xs [] w base) hb) hb)
      (jump_bound H (is_end xs) code rest ((bound H xs p.1 [] w base).by next rest ho hb hc hn h) h));
}
bound H (item Continue xs) p os w base = record {
  by = λ next rest ho hb hc hn h.
      let code = emit xs [] w base next rest in
      flush_bound H os _ (jumping H (Goto w.continued) _ w.continued (λ k q. q) (jump_known H (is_end xs) w.continued code rest (known_part H w.continued next (emit xs [] w base) rest (later (Ends w.continued) xs [] w base) hc) hc)
      (jump_bound H (is_end xs) code rest ((bound H xs p.1 [] w base).by next rest ho hb hc hn h) h));
}
bound H (item Return xs) p os w base = record {
  by = λ next rest ho hb hc hn h. flush_bound H os _ (silent H Ret _ (λ k q. q) (jump_bound H (is_end xs) (emit xs [] w base next rest) rest ((bound H xs p.1 [] w base).by next rest ho hb hc hn h) h));
}
