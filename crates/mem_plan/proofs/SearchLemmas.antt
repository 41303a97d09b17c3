-- What a search knows of the functions that it has followed is kept by each step, and at the end it knows where their frames begin.
use Rattle.std.proofs.Common.{◌≡◌, ◌≢◌, ◌<◌, ◌≤◌, ◌+◌, ◌-◌, ◌*◌, ◌++◌, ◌==◌, ◌∙◌, ℕ, suc, Bool, true, false, if◌then◌else◌, List, [], ◌∷◌, length, map, drop, set, max, replicate, refl, ap, sym, subst, inl, inr, arith, Option, Some, None, slice_index, get_or, ⊎_elim}
use Rattle.std.specs.Prelude.{◌⊎◌, All, option_map, slice_get}
use Rattle.std.specs.List.{Contains}
use Rattle.std.proofs.Math.Nat.{le-max_left, le-max_right}
use Rattle.std.proofs.lemmas.Bool.{cases_lt, cases_eq, cases_Bool, eq-eqb, false≢true, both_ways}
use Rattle.std.proofs.lemmas.Bool.Decides.{eqb_tells}
use Rattle.std.proofs.lemmas.List.{get_or_default, get_or-set_same, get_or-set_other, get_or_append_left, get_or_past, get_or-replicate, length-set, length-append, length-map, length-replicate, drop_more}
use Rattle.std.proofs.lemmas.List.Elements.{Contains-get_or, Contains-append_left, Contains-push, Contains-push_cases}
use Rattle.std.proofs.lemmas.Option.{none-some, same_Some, slice_get_read, slice_get_within, slice_get-map, get_or_from_slice_get}
use Rattle.std.proofs.Math.Seq.{get_or-append_seam}
use Rattle.c_tree.specs.Declarations.{occurrences}
use Rattle.c_tree.specs.Rounds.{IsWay, HasNoRound}
use Rattle.mem_plan.proofs.GraphLemmas.{open_sum_at, open_sum_some, open_sum_step, open_sum_all, open_sum_ones, occurs_here, occurs_later, contains_later, contained_first, contains_occurring, marked_apart, all_followed, OpenCaller}
use Rattle.mem_plan.specs.declared.begins.Search.{Search}
use Rattle.mem_plan.specs.declared.needs.FunctionNeeds.{FunctionNeeds}
use Rattle.mem_plan.specs.Begins.{IsBehind}
use Rattle.mem_plan.specs.DataNeeds.{own_in}
use Rattle.mem_plan.specs.Gathered.{calls_in, owns_in, most_own, most_begin, AreProgramNeeds, AreBeginsBy}
use Rattle.mem_plan.specs.Search.{calls_of, calls_at, calls_to, open_sum, nothing_followed, all_calls_to, AreReady, IsFollowing, Follows, HasFollowed}

-- what was gathered, as a graph
pub record Graph (n : ℕ) (calls : ℕ → List ℕ) (own : ℕ → ℕ) : Type 0 where
  pub bodies : (g f : ℕ) → Contains (calls g) f → (g < n) × (f < n)
  pub no_cycle : HasNoRound (λ g f. Contains (calls g) f)
  pub few : n ≤ 256
  pub small : (g : ℕ) → own g ≤ most_own

listed_calls : (needs : List FunctionNeeds) (g f : ℕ) → calls_in needs g f → Contains (calls_at needs g) f
listed_calls needs g f call = go (slice_get needs g) (sym (slice_get-map (λ n. n.calls) needs g) ∙ call.1)
  where
    go : (x : Option FunctionNeeds) → option_map (λ n. n.calls) x ≡ Some call.0 → Contains (calls_of x) f
    go None e = absurd (none-some call.0 e)
    go (Some x) e = subst (λ l. Contains l f) (sym (same_Some x.calls call.0 e)) call.2

calls_listed : (needs : List FunctionNeeds) (g f : ℕ) → Contains (calls_at needs g) f → calls_in needs g f
calls_listed needs g f found = (calls_at needs g, slice_get-map (λ n. n.calls) needs g ∙ go (slice_get needs g) found, found)
  where
    go : (x : Option FunctionNeeds) → Contains (calls_of x) f → option_map (λ n. n.calls) x ≡ Some (calls_of x)
    go None found = absurd (omega (arith, found.1))
    go (Some x) found = refl

own_small : (needs : List FunctionNeeds) (g : ℕ) → All (λ f. f.own ≤ most_own) needs → owns_in needs g ≤ most_own
own_small needs g small = go (slice_get needs g) refl
  where
    go : (x : Option FunctionNeeds) → slice_get needs g ≡ x → own_in x ≤ most_own
    go None e = omega arith
    go (Some x) e = subst (λ y. y.own ≤ most_own) (get_or_from_slice_get needs g x x e) (small g x (slice_get_within needs g x e))

way_of : (a b : ℕ → ℕ → Type 0) → ((g f : ℕ) → a g f → b g f) → (n : ℕ) (ms : List ℕ) (z : ℕ) → IsWay a n ms z → IsWay b n ms z
way_of a b each n [] z way = way
way_of a b each n (m ∷ ms) z way = (each n m way.0, way_of a b each m ms z way.1)

pub graph_of : (needs : List FunctionNeeds) → AreProgramNeeds needs → Graph (length needs) (calls_at needs) (owns_in needs)
graph_of needs h = record {
  bodies = λ g f found.
      let call = calls_listed needs g f found in
      let within = slice_get_within (map (λ n. n.calls) needs) g call.0 call.1
      in (omega (arith, within, length-map needs (λ n. n.calls)), h.bodies g f call);
  no_cycle = λ n ms round. h.no_cycle n ms (round.0, way_of (λ g f. Contains (calls_at needs g) f) (calls_in needs) (calls_listed needs) n ms n round.1);
  few = h.few;
  small = λ g. own_small needs g h.small;
}

-- what stands in an order
at_place : (o : List ℕ) (i : ℕ) → i < length o → Contains o (slice_index o i)
at_place o i less = Contains-get_or o i 0 less

at_found : (o : List ℕ) (f : ℕ) (found : Contains o f) → slice_index o found.0 ≡ f
at_found o f found = get_or_default o found.0 0 f found.1 ∙ found.2

-- an order behind one call: as before, or one longer
record Pushed (o q : List ℕ) (m : ℕ) : Type 0 where
  long : length o ≤ length q
  kept : (i : ℕ) → i < length o → slice_index q i ≡ slice_index o i
  added : (i : ℕ) → length o ≤ i → i < length q → slice_index q i ≡ m
  holds : (f : ℕ) → Contains o f → Contains q f

pushed_none : (o : List ℕ) (m : ℕ) → Pushed o o m
pushed_none o m = record { long = omega arith; kept = λ i less. refl; added = λ i past less. absurd (omega (arith, past, less)); holds = λ f found. found }

pushed_one : (o : List ℕ) (m : ℕ) → Pushed o (o ++ m ∷ []) m
pushed_one o m = record {
  long = omega (arith, length-append o (m ∷ []));
  kept = λ i less. get_or_append_left o (m ∷ []) 0 i less;
  added = λ i past less.
      let last : i ≡ length o = omega (arith, past, less, length-append o (m ∷ []))
      in ap (slice_index (o ++ m ∷ [])) last ∙ get_or-append_seam o m [] 0;
  holds = λ f found. Contains-append_left o (m ∷ []) f found;
}

pushed : (o q : List ℕ) (m : ℕ) (t : Bool) → q ≡ (if t then o ++ m ∷ [] else o) → Pushed o q m
pushed o q m true is = subst (λ l. Pushed o l m) (sym is) (pushed_one o m)
pushed o q m false is = subst (λ l. Pushed o l m) (sym is) (pushed_none o m)

-- those of which no call is waited for, behind a call of one of the others
ready_after : (n m : ℕ) (w v o q : List ℕ) → AreReady n w o → m < n → 0 < slice_index w m → slice_index v m ≡ slice_index w m - 1 → ((f : ℕ) → f ≢ m → slice_index v f ≡ slice_index w f)
    → (t : Bool) → (t ≡ true → slice_index w m - 1 ≡ 0) → (t ≡ false → slice_index w m - 1 ≢ 0) → q ≡ (if t then o ++ m ∷ [] else o) → AreReady n v q
ready_after n m w v o q h low some here others t met unmet is = record {
  all = λ f less none. elim (cases_eq f m) [
    | inl same ↦ subst (Contains q) (sym same) (mine t met unmet is (sym here ∙ ap (slice_index v) (sym same) ∙ none))
    | inr away ↦ p.holds f (h.all f less (sym (others f away) ∙ none))
  ];
  only = only;
  differ = λ i k less below same. elim (cases_lt k (length o)) [
    | inl inside ↦ h.differ i k less inside (sym (p.kept i (omega (arith, less, inside))) ∙ same ∙ p.kept k inside)
    | inr past ↦ elim (cases_lt i (length o)) [
      | inl early ↦
          let is_m : slice_index o i ≡ m = sym (p.kept i early) ∙ same ∙ p.added k past below in
          let none = (h.only (slice_index o i) (at_place o i early)).1
          in omega (arith, none, ap (slice_index w) is_m, some)
      | inr late ↦ absurd (one_longer t is i k late less below)
    ]
  ];
}
  where
    p : Pushed o q m
    p = pushed o q m t is

    mine : (t : Bool) → (t ≡ true → slice_index w m - 1 ≡ 0) → (t ≡ false → slice_index w m - 1 ≢ 0) → q ≡ (if t then o ++ m ∷ [] else o) → slice_index w m - 1 ≡ 0 → Contains q m
    mine true met unmet is none = subst (λ l. Contains l m) (sym is) (Contains-push o m)
    mine false met unmet is none = absurd (unmet refl none)

    only : (f : ℕ) → Contains q f → (f < n) × (slice_index v f ≡ 0)
    only f found = elim (cases_lt found.0 (length o)) [
      | inl inside ↦
          let is_f : slice_index o found.0 ≡ f = sym (p.kept found.0 inside) ∙ at_found q f found in
          let was = h.only f (subst (Contains o) is_f (at_place o found.0 inside)) in
          let away : f ≢ m = λ same. omega (arith, was.1, ap (slice_index w) same, some)
          in (was.0, others f away ∙ was.1)
      | inr past ↦
          let is_m : f ≡ m = sym (at_found q f found) ∙ p.added found.0 past found.1
          in (omega (arith, is_m, low), added t met is found.0 past found.1 f is_m)
    ]
      where
        added : (t : Bool) → (t ≡ true → slice_index w m - 1 ≡ 0) → q ≡ (if t then o ++ m ∷ [] else o) → (i : ℕ) → length o ≤ i → i < length q → (f : ℕ) → f ≡ m → slice_index v f ≡ 0
        added true met is i past less f same = ap (slice_index v) same ∙ here ∙ met refl
        added false met is i past less f same = absurd (omega (arith, past, less, ap length is))

    one_longer : (t : Bool) → q ≡ (if t then o ++ m ∷ [] else o) → (i k : ℕ) → length o ≤ i → i < k → k < length q → ⊥
    one_longer true is i k late less below = omega (arith, late, less, below, ap length is, length-append o (m ∷ []))
    one_longer false is i k late less below = omega (arith, late, less, below, ap length is)

module _ (n : ℕ) (calls : ℕ → List ℕ) (own : ℕ → ℕ) where
  -- what is known of the calls of functions where none of the last one's is left
  above_all : (place last : ℕ) (b w o : List ℕ) (h : IsFollowing n calls own place last [] b w o) (g f : ℕ) → h.followed g ≡ true → Contains (calls g) f
      → slice_index b g + own g ≤ slice_index b f
  above_all place last b w o h g f met call = elim (h.above g f met call) [
    | inl above ↦ above
    | inr left ↦ absurd (omega (arith, left.1.1))
  ]

  -- there is a next function: where none were, each that hasn't been followed would be called by such a one
  pub next_there : (place last : ℕ) (b w o : List ℕ) → Graph n calls own → IsFollowing n calls own place last [] b w o → place < n → place < length o
  next_there place last b w o graph h less = elim (cases_lt place (length o)) [
    | inl there ↦ there
    | inr past ↦
        let every = all_followed (λ g f. Contains (calls g) f) n h.followed graph.no_cycle (λ f low unmet. open_caller past f low unmet) in
        let none = open_sum_all (λ f. 1) h.followed n every
        in absurd (omega (arith, none, h.left, less))
  ]
    where
      open_caller : length o ≤ place → (f : ℕ) → f < n → h.followed f ≡ false → OpenCaller (λ g f. Contains (calls g) f) h.followed n f
      open_caller past f low unmet = elim (cases_lt 0 (slice_index w f)) [
        | inl some ↦
            let was = h.waits f low in
            let s = open_sum_some (calls_to calls f) h.followed n (omega (arith, some, was))
            in record { caller = s.at; below = s.below; is_open = s.is_open; calls_it = contains_occurring f (calls s.at) s.weighs }
        | inr none ↦
            let found = h.ready.all f low (omega (arith, none)) in
            let met = h.early found.0 (omega (arith, found.1, past))
            in absurd (both_ways (h.followed f) unmet (sym (ap h.followed (at_found o f found)) ∙ met))
      ]

  -- the next one is followed, none of whose calls has been passed
  pub next_followed : (place last : ℕ) (b w o : List ℕ) → IsFollowing n calls own place last [] b w o → place < length o
      → IsFollowing n calls own (place + 1) (slice_index o place) (calls (slice_index o place)) b w o
  next_followed place last b w o h less =
      let p = slice_index o place in
      let there : Contains o p = at_place o place less in
      let low = (h.ready.only p there).0 in
      let new : h.followed p ≡ false = h.late place (omega arith) less in
      let more : ℕ → Bool = λ g. if g == p then true else h.followed g in
      let here : more p ≡ true = ap (λ t. if t then true else h.followed p) (eq-eqb p p refl) in
      let apart : (g : ℕ) → g ≢ p → more g ≡ h.followed g = λ g away. marked_apart g p (h.followed g) away in
      let kept : (g : ℕ) → h.followed g ≡ true → more g ≡ true = λ g met. elim (cases_eq g p) [
        | inl same ↦ ap more same ∙ here
        | inr away ↦ apart g away ∙ met
      ] in
      record {
        followed = more;
        begins_size = h.begins_size;
        waiting_size = h.waiting_size;
        waits = λ f below.
            let step = open_sum_step (calls_to calls f) h.followed more n p low new here apart in
            let was = h.waits f below
            in omega (arith, was, step);
        ready = h.ready;
        within = omega (arith, less);
        in_order = λ g met. elim (cases_eq g p) [
          | inl same ↦ subst (Contains o) (sym same) there
          | inr away ↦ h.in_order g (sym (apart g away) ∙ met)
        ];
        early = λ i below. elim (cases_lt i place) [
          | inl before ↦ kept (slice_index o i) (h.early i before)
          | inr most ↦
              let same : i ≡ place = omega (arith, below, most)
              in ap (λ k. more (slice_index o k)) same ∙ here
        ];
        late = λ i from below.
            let away : slice_index o i ≢ p = λ same. h.ready.differ place i (omega (arith, from)) below (sym same)
            in apart (slice_index o i) away ∙ h.late i (omega (arith, from)) below;
        left = let step = open_sum_step (λ f. 1) h.followed more n p low new here apart in omega (arith, step, h.left);
        last_calls = λ f found. (found, here);
        above = λ g f met call. elim (cases_eq g p) [
          | inl same ↦ inr (same, subst (λ k. Contains (calls k) f) same call)
          | inr away ↦ inl (above_all place last b w o h g f (sym (apart g away) ∙ met) call)
        ];
        reached = λ f. ⊎_elim (λ first. inl first)
            (λ behind. inr (record { caller = behind.caller; calls_it = (kept behind.caller behind.calls_it.0, behind.calls_it.1); is = behind.is }))
            (h.reached f);
        small = λ f. let was = h.small f in omega (arith, was);
      }

  -- one more of the last one's calls is passed
  module _ (place last end m : ℕ) (rest b w o c v q : List ℕ) (graph : Graph n calls own) (h : IsFollowing n calls own place last (m ∷ rest) b w o)
      (end_is : end ≡ slice_index b last + own last) (room : end ≤ place * most_own) where
    call : Contains (calls last) m × (h.followed last ≡ true)
    call = h.last_calls m (0, omega arith, refl)

    pub called_low : m < n
    called_low = (graph.bodies last m call.0).1

    pub called_waits : 0 < slice_index w m
    called_waits = let was = h.waits m called_low in let one = occurs_here m rest in omega (arith, was, one)

    settled : (f : ℕ) → h.followed f ≡ true → f ≢ m
    settled f met same = let none = (h.ready.only f (h.in_order f met)).1 in let some = called_waits in omega (arith, none, some, ap (slice_index w) same)

    module _ (c_is : c ≡ set b m (max (slice_index b m) end)) (v_is : v ≡ set w m (slice_index w m - 1)) (q_is : q ≡ (if slice_index w m - 1 == 0 then o ++ m ∷ [] else o)) where
      c_at : slice_index c m ≡ max (slice_index b m) end
      c_at = ap (λ l. slice_index l m) c_is ∙ get_or-set_same b m (max (slice_index b m) end) 0 (let low = called_low in omega (arith, low, h.begins_size))

      c_off : (f : ℕ) → f ≢ m → slice_index c f ≡ slice_index b f
      c_off f away = ap (λ l. slice_index l f) c_is ∙ get_or-set_other b m f (max (slice_index b m) end) 0 away

      v_at : slice_index v m ≡ slice_index w m - 1
      v_at = ap (λ l. slice_index l m) v_is ∙ get_or-set_same w m (slice_index w m - 1) 0 (let low = called_low in omega (arith, low, h.waiting_size))

      v_off : (f : ℕ) → f ≢ m → slice_index v f ≡ slice_index w f
      v_off f away = ap (λ l. slice_index l f) v_is ∙ get_or-set_other w m f (slice_index w m - 1) 0 away

      p : Pushed o q m
      p = pushed o q m (slice_index w m - 1 == 0) q_is

      rises : (f : ℕ) → slice_index b f ≤ slice_index c f
      rises f = elim (cases_eq f m) [
        | inl same ↦ let left = le-max_left (slice_index b m) end in let at = c_at in omega (arith, left, at, ap (slice_index b) same, ap (slice_index c) same)
        | inr away ↦ let off = c_off f away in omega (arith, off)
      ]

      not_yet : h.followed m ≡ false
      not_yet = elim (cases_Bool (h.followed m)) [
        | inl met ↦ absurd (settled m met refl)
        | inr unmet ↦ unmet
      ]

      reached_still : (f : ℕ) → slice_index c f ≡ slice_index b f
          → (slice_index c f ≡ 0) ⊎ IsBehind (λ g f. (h.followed g ≡ true) × Contains (calls g) f) own (slice_index c) f
      reached_still f same = ⊎_elim (λ first. inl (same ∙ first))
          (λ behind.
          let off = c_off behind.caller (settled behind.caller behind.calls_it.0)
          in inr (record { caller = behind.caller; calls_it = behind.calls_it; is = omega (arith, same, behind.is, off) }))
          (h.reached f)

      pub end_kept : end ≡ slice_index c last + own last
      end_kept = let off = c_off last (settled last call.1) in omega (arith, end_is, off)

      pub call_passed : IsFollowing n calls own place last rest c v q
      call_passed = record {
        followed = h.followed;
        begins_size = ap length c_is ∙ length-set b m (max (slice_index b m) end) ∙ h.begins_size;
        waiting_size = ap length v_is ∙ length-set w m (slice_index w m - 1) ∙ h.waiting_size;
        waits = λ f less. elim (cases_eq f m) [
          | inl same ↦
              let was = h.waits m called_low in
              let one = occurs_here m rest in
              let at = v_at in
              let mine : slice_index v m ≡ open_sum (calls_to calls m) h.followed n + occurrences m rest = omega (arith, was, one, at)
              in subst (λ k. slice_index v k ≡ open_sum (calls_to calls k) h.followed n + occurrences k rest) (sym same) mine
          | inr away ↦
              let was = h.waits f less in
              let later = occurs_later f m rest away in
              let off = v_off f away
              in omega (arith, was, later, off)
        ];
        ready = ready_after n m w v o q h.ready called_low called_waits v_at v_off (slice_index w m - 1 == 0) (λ met. tells_yes met) (λ unmet. tells_no unmet) q_is;
        within = omega (arith, h.within, p.long);
        in_order = λ f met. p.holds f (h.in_order f met);
        early = λ i less. ap h.followed (p.kept i (omega (arith, less, h.within))) ∙ h.early i less;
        late = λ i from below. elim (cases_lt i (length o)) [
          | inl inside ↦ ap h.followed (p.kept i inside) ∙ h.late i from inside
          | inr past ↦ ap h.followed (p.added i past below) ∙ not_yet
        ];
        left = h.left;
        last_calls = λ f found. h.last_calls f (contains_later f m rest found);
        above = λ g f met passed.
            let off = c_off g (settled g met) in
            elim (h.above g f met passed) [
              | inl above ↦ let up = rises f in inl (omega (arith, above, off, up))
              | inr waits ↦ elim (contained_first f m rest waits.1) [
                | inl same ↦
                    let right = le-max_right (slice_index b m) end in
                    let at = c_at
                    in inl (omega (arith, off, end_is, right, at, ap (slice_index c) same, ap (λ k. slice_index b k + own k) waits.0))
                | inr later ↦ inr (waits.0, later)
              ]
            ];
        reached = λ f. elim (cases_eq f m) [
          | inl same ↦ elim (cases_lt (slice_index b m) end) [
            | inl less ↦
                let at = c_at in
                let ends = end_kept
                in inr (record { caller = last; calls_it = (call.1, subst (Contains (calls last)) (sym same) call.0); is = omega (arith, at, ends, less, ap (slice_index c) same) })
            | inr more ↦ let at = c_at in reached_still f (omega (arith, at, more, ap (slice_index c) same, ap (slice_index b) same))
          ]
          | inr away ↦ reached_still f (c_off f away)
        ];
        small = λ f. elim (cases_eq f m) [
          | inl same ↦ let was = h.small m in let at = c_at in omega (arith, was, at, room, ap (slice_index c) same)
          | inr away ↦ let was = h.small f in let off = c_off f away in omega (arith, was, off)
        ];
      }
        where
          tells_yes : (slice_index w m - 1 == 0) ≡ true → slice_index w m - 1 ≡ 0
          tells_yes met = elim (eqb_tells (slice_index w m - 1) 0) [
            | inl same ↦ same.1
            | inr other ↦ absurd (both_ways (slice_index w m - 1 == 0) other.0 met)
          ]

          tells_no : (slice_index w m - 1 == 0) ≡ false → slice_index w m - 1 ≢ 0
          tells_no unmet = elim (eqb_tells (slice_index w m - 1) 0) [
            | inl same ↦ absurd (both_ways (slice_index w m - 1 == 0) unmet same.0)
            | inr other ↦ other.1
          ]

  -- nothing has been followed at first
  pub none_followed : (b w o : List ℕ) → b ≡ replicate n 0 → length w ≡ n → ((f : ℕ) → f < n → slice_index w f ≡ all_calls_to calls f n) → AreReady n w o
      → IsFollowing n calls own 0 0 [] b w o
  none_followed b w o b_is w_size counted ready = record {
    followed = nothing_followed;
    begins_size = ap length b_is ∙ length-replicate {A = ℕ} n 0;
    waiting_size = w_size;
    waits = λ f less. let is = counted f less in omega (arith, is);
    ready = ready;
    within = omega arith;
    in_order = λ f met. absurd (false≢true met);
    early = λ i less. absurd (omega (arith, less));
    late = λ i from below. refl;
    left = let all = open_sum_ones n in omega (arith, all);
    last_calls = λ f found. absurd (omega (arith, found.1));
    above = λ g f met call. absurd (false≢true met);
    reached = λ f. inl (zeros f);
    small = λ f. let none = zeros f in omega (arith, none);
  }
    where
      zeros : (f : ℕ) → slice_index b f ≡ 0
      zeros f = elim (cases_lt f n) [
        | inl less ↦ ap (λ l. slice_index l f) b_is ∙ get_or-replicate n f 0 0 less
        | inr past ↦ ap (λ l. slice_index l f) b_is ∙ get_or_past (replicate n 0) f 0 (let size = length-replicate {A = ℕ} n 0 in omega (arith, past, size))
      ]

-- and all at the end
pub found_all : (needs : List FunctionNeeds) (place last : ℕ) (b w o : List ℕ) → AreProgramNeeds needs
    → IsFollowing (length needs) (calls_at needs) (owns_in needs) place last [] b w o → length needs ≤ place → place ≤ length needs → AreBeginsBy needs b
found_all needs place last b w o known h past most = record {
  size = h.begins_size;
  begins_so = record {
    above = λ g f call.
        let found = listed_calls needs g f call in
        let low = (graph.bodies g f found).0
        in above_all (length needs) (calls_at needs) (owns_in needs) place last b w o h g f (every g low) found;
    reached = λ f. ⊎_elim (λ first. inl first)
        (λ behind. inr (record { caller = behind.caller; calls_it = calls_listed needs behind.caller f behind.calls_it.1; is = behind.is }))
        (h.reached f);
  };
  small = λ k d less.
      let was = h.small k in
      let few = graph.few
      in omega (arith, was, get_or_default b k d 0 less, few, most);
}
  where
    graph : Graph (length needs) (calls_at needs) (owns_in needs)
    graph = graph_of needs known

    every : (g : ℕ) → g < length needs → h.followed g ≡ true
    every g low = elim (cases_Bool (h.followed g)) [
      | inl met ↦ met
      | inr unmet ↦ let one = open_sum_at (λ f. 1) h.followed (length needs) g low unmet in absurd (omega (arith, one, h.left, past))
    ]

-- the calls of a list from a place on
pub calls_counted : (calls w : List ℕ) (i m f : ℕ) → i < length calls → m ≡ slice_index calls i → m < length w
    → slice_index (set w m (slice_index w m + 1)) f + occurrences f (drop (i + 1) calls) ≡ slice_index w f + occurrences f (drop i calls)
calls_counted calls w i m f less is low = elim (cases_eq f m) [
  | inl same ↦
      let one = subst (λ k. occurrences f (k ∷ drop (i + 1) calls) ≡ 1 + occurrences f (drop (i + 1) calls)) (same ∙ is) (occurs_here f (drop (i + 1) calls)) in
      let at = get_or-set_same w m (slice_index w m + 1) 0 low in
      let old = ap (slice_index w) same in
      let new = ap (slice_index (set w m (slice_index w m + 1))) same
      in omega (arith, one, at, old, new, more)
  | inr away ↦
      let later = occurs_later f (slice_index calls i) (drop (i + 1) calls) (λ equal. away (equal ∙ sym is)) in
      let off = get_or-set_other w m f (slice_index w m + 1) 0 away
      in omega (arith, later, off, more)
]
  where
    more : occurrences f (drop i calls) ≡ occurrences f (slice_index calls i ∷ drop (i + 1) calls)
    more = ap (occurrences f) (drop_more calls i 0 less)

-- no count rises by more than one
pub count_rises : (w : List ℕ) (m f : ℕ) → m < length w → slice_index (set w m (slice_index w m + 1)) f ≤ slice_index w f + 1
count_rises w m f low = elim (cases_eq f m) [
  | inl same ↦
      let at = get_or-set_same w m (slice_index w m + 1) 0 low
      in omega (arith, at, ap (slice_index w) same, ap (slice_index (set w m (slice_index w m + 1))) same)
  | inr away ↦ let off = get_or-set_other w m f (slice_index w m + 1) 0 away in omega (arith, off)
]

-- the calls of one more function
pub calls_of_more : (needs : List FunctionNeeds) (k f : ℕ) (caller : FunctionNeeds) → k < length needs → caller ≡ get_or needs k caller
    → all_calls_to (calls_at needs) f (k + 1) ≡ all_calls_to (calls_at needs) f k + occurrences f caller.calls
calls_of_more needs k f caller less is =
    let there = slice_get_read needs (length needs) k caller refl less is in
    let next : k + 1 ≡ suc k = omega arith
    in omega (arith, ap (all_calls_to (calls_at needs) f) next, ap (λ x. occurrences f (calls_of x)) there)

pub caller_calls : (needs : List FunctionNeeds) (k : ℕ) (caller : FunctionNeeds) → k < length needs → caller ≡ get_or needs k caller → calls_at needs k ≡ caller.calls
caller_calls needs k caller less is = ap calls_of (slice_get_read needs (length needs) k caller refl less is)

pub caller_own : (needs : List FunctionNeeds) (k : ℕ) (caller : FunctionNeeds) → k < length needs → caller ≡ get_or needs k caller → owns_in needs k ≡ caller.own
caller_own needs k caller less is = ap own_in (slice_get_read needs (length needs) k caller refl less is)

-- one more function is seen
pub ready_more : (k : ℕ) (w o : List ℕ) → AreReady k w o → slice_index w k ≡ 0 → AreReady (k + 1) w (o ++ k ∷ [])
ready_more k w o h none = record {
  all = λ f less waits. elim (cases_lt f k) [
    | inl before ↦ Contains-append_left o (k ∷ []) f (h.all f before waits)
    | inr most ↦ let same : k ≡ f = omega (arith, less, most) in subst (Contains (o ++ k ∷ [])) same (Contains-push o k)
  ];
  only = λ f found. elim (Contains-push_cases o k f found) [
    | inl before ↦ let was = h.only f before in (omega (arith, was.0), was.1)
    | inr same ↦ (omega (arith, same), ap (slice_index w) (sym same) ∙ none)
  ];
  differ = λ i j less below same.
      let p = pushed_one o k in
      elim (cases_lt j (length o)) [
        | inl inside ↦ h.differ i j less inside (sym (p.kept i (omega (arith, less, inside))) ∙ same ∙ p.kept j inside)
        | inr past ↦
            let early : i < length o = omega (arith, less, below, length-append o (k ∷ [])) in
            let is_k : slice_index o i ≡ k = sym (p.kept i early) ∙ same ∙ p.added j past below in
            let low = (h.only (slice_index o i) (at_place o i early)).0
            in omega (arith, low, is_k)
      ];
}

pub ready_same : (k : ℕ) (w o : List ℕ) → AreReady k w o → slice_index w k ≢ 0 → AreReady (k + 1) w o
ready_same k w o h some = record {
  all = λ f less waits. elim (cases_lt f k) [
    | inl before ↦ h.all f before waits
    | inr most ↦ let same : k ≡ f = omega (arith, less, most) in absurd (some (ap (slice_index w) same ∙ waits))
  ];
  only = λ f found. let was = h.only f found in (omega (arith, was.0), was.1);
  differ = h.differ;
}

-- the function at the next place of the order
pub record IsNext (needs : List FunctionNeeds) (place function : ℕ) (s : Search) : Type 0 where
  pub at : slice_index s.order.items place ≡ function
  pub there : place < length s.order.items
  pub low : function < length needs
  pub begins : function < length s.begins.items

pub next_of : (needs : List FunctionNeeds) (place function : ℕ) (s : Search) → AreProgramNeeds needs → HasFollowed needs place s → place < length needs
    → function ≡ get_or s.order.items place function → IsNext needs place function s
next_of needs place function s known h less is =
    let k = h.1 in
    let there = next_there (length needs) (calls_at needs) (owns_in needs) place h.0 s.begins.items s.waiting.items s.order.items (graph_of needs known) k less in
    let at : slice_index s.order.items place ≡ function = sym (is ∙ get_or_default s.order.items place function 0 there) in
    let low = (k.ready.only function (subst (Contains s.order.items) at (at_place s.order.items place there))).0
    in record { at = at; there = there; low = low; begins = omega (arith, low, k.begins_size) }

-- where its frame ends
pub next_end : (needs : List FunctionNeeds) (place function begin : ℕ) (caller : FunctionNeeds) (s : Search) → AreProgramNeeds needs → HasFollowed needs place s → place < length needs
    → function ≡ get_or s.order.items place function → begin ≡ get_or s.begins.items function begin → caller ≡ get_or needs function caller
    → (begin + caller.own ≡ slice_index s.begins.items function + owns_in needs function) × (begin + caller.own ≤ (place + 1) * most_own) × (begin + caller.own ≤ most_begin)
next_end needs place function begin caller s known h less is begin_is caller_is =
    let next = next_of needs place function s known h less is in
    let begins : begin ≡ slice_index s.begins.items function = begin_is ∙ get_or_default s.begins.items function begin 0 next.begins in
    let owns = caller_own needs function caller next.low caller_is in
    let small = h.1.small function in
    let most = (graph_of needs known).small function in
    let few = known.few
    in (omega (arith, begins, owns), omega (arith, begins, owns, small, most), omega (arith, begins, owns, small, most, less, few))

-- its calls are next
pub next_calls : (needs : List FunctionNeeds) (place function : ℕ) (s : Search) → AreProgramNeeds needs → HasFollowed needs place s → place < length needs
    → function ≡ get_or s.order.items place function → Follows needs (place + 1) function (calls_at needs function) s
next_calls needs place function s known h less is =
    let next = next_of needs place function s known h less is
    in subst (λ k. Follows needs (place + 1) k (calls_at needs k) s) next.at
    (next_followed (length needs) (calls_at needs) (owns_in needs) place h.0 s.begins.items s.waiting.items s.order.items h.1 next.there)

-- the rest of a list from a place on
pub rest_is : (calls list : List ℕ) (i m : ℕ) → list ≡ calls → i < length list → m ≡ get_or list i 0 → drop i calls ≡ m ∷ drop (i + 1) calls
rest_is calls list i m same less is = subst (λ l. drop i l ≡ m ∷ drop (i + 1) l) same (drop_more list i 0 less ∙ ap (λ k. k ∷ drop (i + 1) list) (sym is))

-- the state before a call, where it is known which one it is
pub at_call : (needs : List FunctionNeeds) (place function i m : ℕ) (list : List ℕ) (s : Search) → list ≡ calls_at needs function → i < length list → m ≡ get_or list i 0
    → Follows needs place function (drop i (calls_at needs function)) s → Follows needs place function (m ∷ drop (i + 1) (calls_at needs function)) s
at_call needs place function i m list s same less is h =
    subst (λ rest. Follows needs place function rest s) (rest_is (calls_at needs function) list i m same less is) h

-- what a call asks of the search
pub record MayPass (m : ℕ) (s : Search) : Type 0 where
  pub begins : m < length s.begins.items
  pub waiting : m < length s.waiting.items
  pub some : 0 < slice_index s.waiting.items m

pub may_pass : (needs : List FunctionNeeds) (place function m : ℕ) (rest : List ℕ) (s : Search) → AreProgramNeeds needs → Follows needs place function (m ∷ rest) s → MayPass m s
may_pass needs place function m rest s known h =
    let call = h.last_calls m (0, omega arith, refl) in
    let low = ((graph_of needs known).bodies function m call.0).1 in
    let was = h.waits m low in
    let one = occurs_here m rest
    in record { begins = omega (arith, low, h.begins_size); waiting = omega (arith, low, h.waiting_size); some = omega (arith, was, one) }

-- one of these is called
pub called_there : (calls : List ℕ) (i m n : ℕ) → i < length calls → m ≡ slice_index calls i → ((f : ℕ) → Contains calls f → f < n) → m < n
called_there calls i m n less is bodies = bodies m (subst (Contains calls) (sym is) (Contains-get_or calls i 0 less))

-- those of one of the functions are among them
pub bodies_of : (needs : List FunctionNeeds) (k f : ℕ) (caller : FunctionNeeds) (list : List ℕ) → AreProgramNeeds needs → k < length needs → caller ≡ get_or needs k caller → list ≡ caller.calls
    → Contains list f → f < length needs
bodies_of needs k f caller list known less is same found =
    ((graph_of needs known).bodies k f (subst (λ l. Contains l f) (same ∙ sym (caller_calls needs k caller less is)) found)).1

-- the counts behind one more function
pub counts_more : (needs : List FunctionNeeds) (k : ℕ) (caller : FunctionNeeds) (list old read new after : List ℕ) → k < length needs → caller ≡ get_or needs k caller → list ≡ caller.calls
    → read ≡ old → length old ≡ length needs → ((f : ℕ) → f < length needs → slice_index old f ≡ all_calls_to (calls_at needs) f k)
    → ((f : ℕ) → f < length read → slice_index new f ≡ slice_index read f + occurrences f list) → after ≡ new
    → (f : ℕ) → f < length needs → slice_index after f ≡ all_calls_to (calls_at needs) f (k + 1)
counts_more needs k caller list old read new after less is same alike size before counted made f low =
    let more = calls_of_more needs k f caller less is in
    let was = before f low in
    let now = counted f (omega (arith, ap length alike, size, low))
    in omega (arith, more, was, now, ap (occurrences f) same, ap (λ l. slice_index l f) alike, ap (λ l. slice_index l f) made)
