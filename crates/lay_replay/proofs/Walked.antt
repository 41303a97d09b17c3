-- What a walk by a log has come to.
use Rattle.std.proofs.Common.{◌≡◌, ℕ, ◌+◌, ◌*◌, ◌<◌, ◌≤◌, true, false, not, List, [], ◌∷◌, ◌++◌, length, drop, refl, ap, ap₂, sym, subst, ◌∙◌, arith, append-nil}
use Rattle.std.specs.Prelude.{◌&&◌, if◌then◌else◌, All, sum_by, ℤ, pos, Result, Ok, Err, IsErrAnd, MatchResult}
use Rattle.std.specs.List.{concat}
use Rattle.std.proofs.lemmas.List.FromFn.{length-range_with_len}
use Rattle.std.proofs.lemmas.List.Elements.{All-head}
use Rattle.lay_model.specs.Sequences.{Sequence, Block, IsSequence, IsBlock}
use Rattle.lay_cost.specs.Placements.{has, placement_of}
use Rattle.lay_cost.specs.Cost.{block_cost, arranged_cost}
use Rattle.lay_cost.specs.Parts.{Node, node_lists}
use Rattle.lay_tree.specs.declared.answer.Mark.{Mark}
use Rattle.lay_tree.specs.declared.answer.Mark.TheVariants.{Branched, Closed}
use Rattle.lay_tree.specs.Tree.{root, is_complete, is_empty, has_closes_left, with_scalar, with_close, children}
use Rattle.lay_tree.specs.Bound.{bound}
use Rattle.lay_tree.specs.Search.{reaches}
use Rattle.lay_node.specs.declared.kept.Kept.{Kept}
use Rattle.lay_node.specs.declared.position.Position.{Position}
use Rattle.lay_node.specs.Numbers.{kept_in, kept_at, kept_bound}
use Rattle.lay_node.specs.Strings.{node_of}
use Rattle.lay_node.specs.Positions.{here, SameBelow}
use Rattle.lay_node.proofs.Descending.{same_then}
use Rattle.lay_node.proofs.Children.{empty_kept, bound_is}
use Rattle.lay_node.proofs.Rooting.{root_unplaced}
use Rattle.lay_node.proofs.Walking.{below_in, below_next, below_skip, children_begin, complete_of, incomplete_of}
use Rattle.lay_replay.specs.declared.verdict.Fault.{Fault}
use Rattle.lay_replay.specs.declared.verdict.Fault.TheVariants as faults
use Rattle.lay_replay.specs.declared.walk.Walk.{Walk}
use Rattle.lay_replay.specs.Walks.{FitTo, FailAt, Reads, Fits, FitsHere, Fails}
use Rattle.lay_replay.proofs.Marks.{closed_fits, closed_fails, branched_fits, branched_fails, fit_then, fail_then, fail_before}

pub match_both : {A E : Type 0} (P Q : A → Type 0) (F G : E → Type 0) (r : Result A E) → ((x : A) → P x → Q x) → ((e : E) → F e → G e) → MatchResult r P F → MatchResult r Q G
match_both P Q F G (Ok x) f g h = f x h
match_both P Q F G (Err e) f g h = g e h

pub stopped : {A E : Type 0} (P : A → Type 0) (F : E → Type 0) (r : Result A E) (e : E) → IsErrAnd r (λ d. d ≡ e) → F e → MatchResult r P F
stopped P F (Ok a) e is h = absurd is
stopped P F (Err d) e is h = subst F (sym is) h

-- ---- nodes and others behind them

pub fits_then : (seq : Sequence) (c : ℕ) (marks : List Mark) (xs ys : List Node) (a b d : Walk) → FitsHere seq c marks xs a b → FitsHere seq c marks ys b d → FitsHere seq c marks (xs ++ ys) a d
fits_then seq c marks xs ys a b d first second = record {
  fit = fit_then a.position.registers seq c marks xs ys a.next b.next d.next first.fit (subst (λ r. FitTo r seq c marks ys b.next d.next) first.place.registers second.fit);
  place = same_then a.position b.position d.position first.place second.place;
}

pub fails_then : (seq : Sequence) (c : ℕ) (marks : List Mark) (xs ys : List Node) (a b d : Walk) (fault : Fault) → FitsHere seq c marks xs a b → Fails seq c marks ys b d fault → Fails seq c marks (xs ++ ys) a d fault
fails_then seq c marks xs ys a b d fault first second = record {
  fail = fail_then a.position.registers seq c marks xs ys a.next b.next fault first.fit (subst (λ r. FailAt r seq c marks ys b.next fault) first.place.registers second.fail);
  registers = second.registers ∙ first.place.registers;
  count = second.count ∙ first.place.count;
}

fails_before : (seq : Sequence) (c : ℕ) (marks : List Mark) (xs ys : List Node) (a b : Walk) (fault : Fault) → Fails seq c marks xs a b fault → Fails seq c marks (xs ++ ys) a b fault
fails_before seq c marks xs ys a b fault fails = record {
  fail = fail_before a.position.registers seq c marks xs ys a.next fault fails.fail;
  registers = fails.registers;
  count = fails.count;
}

-- ---- the children of a node, one behind another

pub walk_next : (seq : Sequence) (c : ℕ) (marks : List Mark) (old now new : Walk) (i : ℕ) → has (concat (node_lists (here old.position))) i ≡ false → FitsHere seq c marks (below_in (here old.position) i) old now → FitsHere seq c marks (with_scalar (here now.position) i ∷ []) now new
    → FitsHere seq c marks (below_in (here old.position) (i + 1)) old new
walk_next seq c marks old now new i lacks first second =
    let e : here now.position ≡ here old.position = ap node_of first.place.string in
    subst (λ ns. FitsHere seq c marks ns old new) (sym (below_next (here old.position) i lacks)) (fits_then seq c marks (below_in (here old.position) i) (with_scalar (here old.position) i ∷ []) old now new first (subst (λ n. FitsHere seq c marks (with_scalar n i ∷ []) now new) e second))

pub walk_skip : (seq : Sequence) (c : ℕ) (marks : List Mark) (old now : Walk) (i : ℕ) → has (concat (node_lists (here old.position))) i ≡ true → FitsHere seq c marks (below_in (here old.position) i) old now → FitsHere seq c marks (below_in (here old.position) (i + 1)) old now
walk_skip seq c marks old now i there first = subst (λ ns. FitsHere seq c marks ns old now) (sym (below_skip (here old.position) i there)) first

pub walk_fail : (seq : Sequence) (c : ℕ) (marks : List Mark) (old now new : Walk) (i : ℕ) (fault : Fault) → i < seq.scalars → has (concat (node_lists (here old.position))) i ≡ false → FitsHere seq c marks (below_in (here old.position) i) old now → Fails seq c marks (with_scalar (here now.position) i ∷ []) now new fault
    → Fails seq c marks (children old.position.registers seq (here old.position)) old new fault
walk_fail seq c marks old now new i fault less lacks first second =
    let n = here old.position in
    let e : here now.position ≡ n = ap node_of first.place.string in
    let b = children_begin old.position.registers seq n (i + 1) (omega (arith, less)) in
    let here_fails = subst (λ ns. Fails seq c marks ns old new fault) (sym (below_next n i lacks)) (fails_then seq c marks (below_in n i) (with_scalar n i ∷ []) old now new fault first (subst (λ m. Fails seq c marks (with_scalar m i ∷ []) now new fault) e second)) in
    subst (λ ns. Fails seq c marks ns old new fault) (sym b.is) (fails_before seq c marks (below_in n (i + 1)) b.rest old new fault here_fails)

with_a_close : (k : ℕ) (seq : Sequence) (n : Node) (i : ℕ) → i ≡ seq.scalars → (not (is_empty n.open_list) && has_closes_left k n) ≡ true → children k seq n ≡ below_in n i ++ (with_close n ∷ [])
with_a_close k seq n i all comes = ap₂ (λ m t. below_in n m ++ (if t then with_close n ∷ [] else [])) (sym all) comes

without_a_close : (k : ℕ) (seq : Sequence) (n : Node) (i : ℕ) → i ≡ seq.scalars → (not (is_empty n.open_list) && has_closes_left k n) ≡ false → children k seq n ≡ below_in n i
without_a_close k seq n i all none = ap₂ (λ m t. below_in n m ++ (if t then with_close n ∷ [] else [])) (sym all) none ∙ append-nil (below_in n i)

pub walk_close : {A : Type 0} (seq : Sequence) (c : ℕ) (marks : List Mark) (old now new : Walk) (i : ℕ) (r : Result A Fault) → i ≡ seq.scalars → (not (is_empty (here old.position).open_list) && has_closes_left old.position.registers (here old.position)) ≡ true → FitsHere seq c marks (below_in (here old.position) i) old now
    → MatchResult r (λ _. FitsHere seq c marks (with_close (here now.position) ∷ []) now new) (λ fault. Fails seq c marks (with_close (here now.position) ∷ []) now new fault)
    → MatchResult r (λ _. FitsHere seq c marks (children old.position.registers seq (here old.position)) old new) (λ fault. Fails seq c marks (children old.position.registers seq (here old.position)) old new fault)
walk_close seq c marks old now new i r all comes first =
    let n = here old.position in
    let e : here now.position ≡ n = ap node_of first.place.string in
    let is = with_a_close old.position.registers seq n i all comes in
    match_both (λ _. FitsHere seq c marks (with_close (here now.position) ∷ []) now new) (λ _. FitsHere seq c marks (children old.position.registers seq n) old new) (λ fault. Fails seq c marks (with_close (here now.position) ∷ []) now new fault) (λ fault. Fails seq c marks (children old.position.registers seq n) old new fault) r
    (λ _ second. subst (λ ns. FitsHere seq c marks ns old new) (sym is) (fits_then seq c marks (below_in n i) (with_close n ∷ []) old now new first (subst (λ m. FitsHere seq c marks (with_close m ∷ []) now new) e second)))
    (λ fault second. subst (λ ns. Fails seq c marks ns old new fault) (sym is) (fails_then seq c marks (below_in n i) (with_close n ∷ []) old now new fault first (subst (λ m. Fails seq c marks (with_close m ∷ []) now new fault) e second)))

pub walk_end : (seq : Sequence) (c : ℕ) (marks : List Mark) (old now : Walk) (i : ℕ) → i ≡ seq.scalars → (not (is_empty (here old.position).open_list) && has_closes_left old.position.registers (here old.position)) ≡ false → FitsHere seq c marks (below_in (here old.position) i) old now
    → FitsHere seq c marks (children old.position.registers seq (here old.position)) old now
walk_end seq c marks old now i all none first = subst (λ ns. FitsHere seq c marks ns old now) (sym (without_a_close old.position.registers seq (here old.position) i all none)) first

-- ---- a node by its mark

stands : (m : ℕ) (old new : Position) → new ≡ old → SameBelow m old new
stands m old new e = subst (λ p. SameBelow m old p) (sym e) (record {
  registers = refl;
  string = refl;
  placed = refl;
  outside = refl;
  count = refl;
  levels = λ i less. record { weights = refl; greatest = λ s. refl };
})

one_back : (at node : ℕ) → node + 1 ≡ at + 1 → node ≡ at
one_back at node e = omega (arith, e)

-- a closed node, with its bound
pub walk_closed : {A : Type 0} (m : ℕ) (seq : Sequence) (c : ℕ) (marks : List Mark) (n : Node) (old new : Walk) (b : ℤ) (node : ℕ) (r : Result A Fault) → Reads marks Closed old new → node + 1 ≡ new.next → b ≡ bound old.position.registers seq n
    → MatchResult r (λ _. reaches b c ≡ true) (λ fault. (reaches b c ≡ false) × (fault ≡ faults.TooLow node b))
    → MatchResult r (λ _. Fits m seq c marks (n ∷ []) old new) (λ fault. Fails seq c marks (n ∷ []) old new fault)
walk_closed m seq c marks n old new b node r read counted is =
    let k = old.position.registers in
    let next = subst (λ i. drop old.next marks ≡ Closed ∷ drop i marks) read.next read.is in
    match_both (λ _. reaches b c ≡ true) (λ _. Fits m seq c marks (n ∷ []) old new) (λ fault. (reaches b c ≡ false) × (fault ≡ faults.TooLow node b)) (λ fault. Fails seq c marks (n ∷ []) old new fault) r
    (λ _ reached. record {
      fit = subst (λ to. FitTo k seq c marks (n ∷ []) old.next to) (sym read.next) (closed_fits k seq c marks n old.next next (ap (λ i. reaches i c) (sym is) ∙ reached));
      place = stands m old.position new.position read.place;
    })
    (λ fault h. record {
      fail = subst (λ f. FailAt k seq c marks (n ∷ []) old.next f) (sym (h.1 ∙ ap₂ faults.TooLow (one_back old.next node (counted ∙ read.next)) is)) (closed_fails k seq c marks n old.next next (ap (λ i. reaches i c) (sym is) ∙ h.0));
      registers = ap (λ (p : Position). p.registers) read.place;
      count = ap (λ (p : Position). length p.levels.items) read.place;
    })

-- a branched one, whose children come next
pub walk_branched : {A : Type 0} (m : ℕ) (seq : Sequence) (c : ℕ) (marks : List Mark) (n : Node) (old d new : Walk) (r : Result A Fault) → Reads marks Branched old d → is_complete seq n ≡ false
    → MatchResult r (λ _. Fits m seq c marks (children d.position.registers seq n) d new) (λ fault. Fails seq c marks (children d.position.registers seq n) d new fault)
    → MatchResult r (λ _. Fits m seq c marks (n ∷ []) old new) (λ fault. Fails seq c marks (n ∷ []) old new fault)
walk_branched m seq c marks n old d new r read incomplete =
    let k = old.position.registers in
    let same : d.position.registers ≡ k = ap (λ (p : Position). p.registers) read.place in
    let next = subst (λ i. drop old.next marks ≡ Branched ∷ drop i marks) read.next read.is in
    match_both (λ _. Fits m seq c marks (children d.position.registers seq n) d new) (λ _. Fits m seq c marks (n ∷ []) old new) (λ fault. Fails seq c marks (children d.position.registers seq n) d new fault) (λ fault. Fails seq c marks (n ∷ []) old new fault) r
    (λ _ h. record {
      fit = branched_fits k seq c marks n old.next new.next next incomplete (subst (λ at. FitTo k seq c marks (children k seq n) at new.next) read.next (subst (λ j. FitTo j seq c marks (children j seq n) d.next new.next) same h.fit));
      place = subst (λ p. SameBelow m p new.position) read.place h.place;
    })
    (λ fault h. record {
      fail = branched_fails k seq c marks n old.next fault next incomplete (subst (λ at. FailAt k seq c marks (children k seq n) at fault) read.next (subst (λ j. FailAt j seq c marks (children j seq n) d.next fault) same h.fail));
      registers = h.registers ∙ same;
      count = h.count ∙ ap (λ (p : Position). length p.levels.items) read.place;
    })

-- ---- the root

no_blocks : (n : ℕ) (blocks : List Block) → n ≡ 0 → All IsBlock blocks → All (λ (b : Block). All (λ s. s < n) b.accesses) blocks → blocks ≡ []
no_blocks n [] none some below = refl
no_blocks n (b ∷ bs) none some below = absurd (no_access b.accesses (All-head IsBlock b bs some).some (All-head (λ (x : Block). All (λ s. s < n) x.accesses) b bs below))
  where
    no_access : (xs : List ℕ) → 1 ≤ length xs → All (λ s. s < n) xs → ⊥
    no_access [] some all = omega (arith, some)
    no_access (x ∷ xs) some all = omega (arith, none, All-head (λ s. s < n) x xs all)

root_scalars : (k : ℕ) (seq : Sequence) → (kept_in k seq root).unplaced ≡ 0 → seq.scalars ≡ 0
root_scalars k seq none = sym (length-range_with_len 0 seq.scalars) ∙ ap length (sym (root_unplaced seq)) ∙ none

pub root_at_kept : (k : ℕ) (seq : Sequence) (j : Kept) → j ≡ kept_in k seq root → j ≡ kept_at k seq root
root_at_kept k seq j e = e ∙ empty_kept k seq root refl

-- without scalars it is complete, and costs nothing
pub root_costs : (k : ℕ) (seq : Sequence) (j : Kept) → IsSequence seq → j ≡ kept_in k seq root → j.unplaced ≡ 0 → pos 0 ≡ bound k seq root
root_costs k seq j sequence e none =
    let blocks = no_blocks seq.scalars seq.blocks (root_scalars k seq (sym (ap (λ (i : Kept). i.unplaced) e) ∙ none)) sequence.blocks sequence.scalars in
    let complete = complete_of k seq root j (root_at_kept k seq j e) none in
    let costs : arranged_cost seq (node_lists root) ≡ 0 = ap (λ bs. sum_by (λ (b : Block). b.weight * block_cost seq.step (placement_of (node_lists root)) b.accesses) bs) blocks in
    rw complete (ap pos (sym costs))

pub root_bounds : (k : ℕ) (seq : Sequence) (j : Kept) → j ≡ kept_in k seq root → (j.unplaced ≡ 0 → ⊥) → kept_bound k seq.step j ≡ bound k seq root
root_bounds k seq j e some =
    let at = root_at_kept k seq j e in
    ap (kept_bound k seq.step) at ∙ bound_is k seq root (incomplete_of k seq root j at some)
