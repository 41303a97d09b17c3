-- Where the lists of frames have scalars: words of functions that can be active at once are of one scalar alone, and of no object and no return address.
use Rattle.std.proofs.Common.{◌≡◌, ◌<◌, ◌≤◌, ℕ, suc, ◌+◌, ◌||◌, Bool, true, false, List, [], ◌∷◌, ◌++◌, cond, Option, Some, None, refl, sym, ap, ◌∙◌, subst, inl, inr, length, arith}
use Rattle.std.specs.Prelude.{◌==◌, if◌then◌else◌, count_by, slice_get, slice_index}
use Rattle.std.specs.List.{concat}
use Rattle.std.proofs.lemmas.Bool.{eqb-true, eqb-false}
use Rattle.std.proofs.lemmas.List.Sums.{sum_by-append}
use Rattle.std.proofs.lemmas.Option.{none-some, same_Some, slice_get_within}
use Rattle.c_tree.specs.TypedTree.{ObjectTree}
use Rattle.tree_code.specs.WordTree.{FunctionCode, ProgramCode}
use Rattle.lay_cost.specs.Placements.{has, list_of, place_in, position_in}
use Rattle.mem_plan.specs.declared.data_plan.DataPlan.{DataPlan}
use Rattle.mem_plan.specs.declared.data_plan.FramePlan.{FramePlan}
use Rattle.mem_plan.specs.Plan.{AreArranged, IsPlan, frame_of, frames_start, list_bases}
use Rattle.mem_plan.specs.Ranges.{range, Apart, Place, ScratchWords, StaticObject, ScalarWord, LocalObject, ReturnWord, scalar_range, object_range, word_range, list_range, local_range, return_range, range_of, function_of, CanMeet}
use Rattle.mem_plan.proofs.ApartLemmas.{plans_apart, plans_within}
use Rattle.image_proof.specs.FrameWords.{place_of}
use Rattle.image_proof.proofs.Frames.{FramedAt, framed_at}
use Rattle.image_proof.proofs.FrameWords.{position_range}
use Rattle.image_proof.proofs.Runs.{counted_none}

-- where a scalar stands, by the number of its list and its position there
record StandsAt (lists : List (List ℕ)) (bases : List ℕ) (number position n : ℕ) : Type 0 where
  list : List ℕ
  there : slice_get lists number ≡ Some list
  based : slice_get bases number ≡ Some (slice_index bases number)
  stands : slice_get list position ≡ Some n

position_stands : (l : List ℕ) (n : ℕ) → has l n ≡ true → slice_get l (position_in l n) ≡ Some n
position_stands [] n there = absurd cc
position_stands (m ∷ ms) n there = by (m == n) refl there (position_stands ms n)
  where
    by : (b : Bool) → (m == n) ≡ b → (b || has ms n) ≡ true → (has ms n ≡ true → slice_get ms (position_in ms n) ≡ Some n) → slice_get (m ∷ ms) (if b then 0 else suc (position_in ms n)) ≡ Some n
    by true e some rest = ap Some (eqb-true m n e)
    by false e some rest = rest some

abbrev counted : Bool → ℕ
counted b = cond b 1 0

stands_at : (lists : List (List ℕ)) (at n : ℕ) → 1 ≤ count_by (λ s. s == n) (concat lists) → StandsAt lists (list_bases at lists) (list_of lists n) (place_in lists n) n
stands_at [] at n some = absurd (omega (arith, some))
stands_at (l ∷ ls) at n some = by (has l n) refl (stands_at ls (at + length l) n)
  where
    by : (b : Bool) → has l n ≡ b → (1 ≤ count_by (λ s. s == n) (concat ls) → StandsAt ls (list_bases (at + length l) ls) (list_of ls n) (place_in ls n) n)
        → StandsAt (l ∷ ls) (at ∷ list_bases (at + length l) ls) (if b then 0 else suc (list_of ls n)) (if b then position_in l n else place_in ls n) n
    by true is rest = record { list = l; there = refl; based = refl; stands = position_stands l n is }
    by false is rest =
        let sum : count_by (λ s. s == n) (l ++ concat ls) ≡ count_by (λ s. s == n) l + count_by (λ s. s == n) (concat ls) = sum_by-append (λ s. counted (s == n)) l (concat ls) in
        let none = counted_none l n is in
        let h = rest (omega (arith, sum, some, none)) in
        record { list = h.list; there = h.there; based = h.based; stands = h.stands }

-- a word that a range has is no word of one apart from it
clash : (a x words : ℕ) → x ≤ a → a < x + words → Apart (range a 1) (range x words) → ⊥
clash a x words from to (inl before) = omega (arith, from, before)
clash a x words from to (inr behind) = omega (arith, to, behind)

-- the scalar of a place
abbrev at_position : Option (List ℕ) → ℕ → Option ℕ
at_position None i = None
at_position (Some list) i = slice_get list i

abbrev scalar_in : Option (List (List ℕ)) → ℕ → ℕ → Option ℕ
scalar_in None l i = None
scalar_in (Some lists) l i = at_position (slice_get lists l) i

abbrev scalar_of : List (List (List ℕ)) → Place → Option ℕ
scalar_of arrangements ScratchWords = None
scalar_of arrangements (StaticObject n) = None
scalar_of arrangements (ScalarWord f l i) = scalar_in (slice_get arrangements f) l i
scalar_of arrangements (LocalObject f n) = None
scalar_of arrangements (ReturnWord f) = None

module _ (p : ProgramCode) (arrangements : List (List (List ℕ))) (plan : DataPlan) (arranged : AreArranged p.functions arrangements) (planned : IsPlan p arrangements plan) where
  -- a word of a function's scalar
  pub record ScalarAt (k n a : ℕ) : Type 0 where
    pub place : Place
    pub of : function_of place ≡ Some k
    pub is : scalar_of arrangements place ≡ Some n
    pub ranged : range_of p arrangements plan place ≡ Some (range a 1)

  pub framed : (k : ℕ) → k < length p.functions → FramedAt p.functions arrangements plan.frames k
  framed k less = subst (λ (plan : DataPlan). FramedAt p.functions arrangements plan.frames k) (sym planned.is) (framed_at (frames_start p) planned.begin 0 p.functions arrangements arranged.count k less)

  pub scalar_at : (k n : ℕ) (code : FunctionCode) (lists : List (List ℕ)) (bases : List ℕ) → slice_get p.functions k ≡ Some code → slice_get arrangements k ≡ Some lists
      → ((at : FramePlan) → slice_get plan.frames k ≡ Some at → at.bases ≡ bases) → n < code.scalars → ScalarAt k n (place_of bases lists n)
  scalar_at k n code lists bases there arranged_so based_so less =
      let h = framed k (slice_get_within p.functions k code there) in
      let same : h.lists ≡ lists = same_Some h.lists lists (sym h.arranged ∙ arranged_so) in
      let own : h.code ≡ code = same_Some h.code code (sym h.there ∙ there) in
      let once = (arranged.each k h.code h.lists h.there h.arranged).arranges.once n (subst (λ (c : FunctionCode). n < c.scalars) (sym own) less) in
      let x = stands_at h.lists h.start n (omega (arith, once)) in
      let inside = slice_get_within x.list (place_in h.lists n) n x.stands in
      let base : ℕ = slice_index (list_bases h.start h.lists) (list_of h.lists n) in
      let found : ScalarAt k n (place_of (list_bases h.start h.lists) h.lists n) = record {
        place = ScalarWord k (list_of h.lists n) (place_in h.lists n);
        of = refl;
        is = ap (λ ls. scalar_in ls (list_of h.lists n) (place_in h.lists n)) h.arranged ∙ ap (λ l. at_position l (place_in h.lists n)) x.there ∙ x.stands;
        ranged =
            (λ i. list_range (h.framed i) (h.arranged i) (list_of h.lists n) (place_in h.lists n)) ∙ (λ i. scalar_range (x.based i) (x.there i) (place_in h.lists n)) ∙ position_range base (place_in h.lists n) x.list inside;
      } in
      subst (λ ls. ScalarAt k n (place_of bases ls n)) same (subst (λ bs. ScalarAt k n (place_of bs h.lists n)) (based_so (frame_of h.code h.lists h.start) h.framed) found)

  -- a place that isn't that of the scalar has other words
  elsewhere : (k n a : ℕ) (s : ScalarAt k n a) (other : Place) (x words : ℕ) → CanMeet p (function_of s.place) (function_of other) → range_of p arrangements plan other ≡ Some (range x words) → x ≤ a → a < x + words → (s.place ≡ other → ⊥) → ⊥
  elsewhere k n a s other x words meet is from to differ =
      clash a x words from to (plans_apart p arrangements plan arranged planned s.place other (range a 1) (range x words) differ meet s.ranged is)

  pub same_scalar : (k h n m a : ℕ) → CanMeet p (Some k) (Some h) → ScalarAt k n a → ScalarAt h m a → (k ≡ h) × (n ≡ m)
  same_scalar k h n m a meet s u = by (k == h) (n == m) refl refl
    where
      together : (s.place ≡ u.place → ⊥) → ⊥
      together differ =
          let met : CanMeet p (function_of s.place) (function_of u.place) = subst (CanMeet p (function_of s.place)) (sym u.of) (subst (λ o. CanMeet p o (Some h)) (sym s.of) meet) in
          elsewhere k n a s u.place a 1 met u.ranged (omega arith) (omega arith) differ

      by : (b c : Bool) → (k == h) ≡ b → (n == m) ≡ c → (k ≡ h) × (n ≡ m)
      by true true e f = (eqb-true k h e, eqb-true n m f)
      by true false e f = absurd (together (λ same. eqb-false n m f (same_Some n m (sym s.is ∙ ap (scalar_of arrangements) same ∙ u.is))))
      by false c e f = absurd (together (λ same. eqb-false k h e (same_Some k h (sym s.of ∙ ap function_of same ∙ u.of))))

  no_scalar : (k n a : ℕ) (s : ScalarAt k n a) (other : Place) → scalar_of arrangements other ≡ None → s.place ≡ other → ⊥
  no_scalar k n a s other none same = none-some n (sym none ∙ ap (scalar_of arrangements) (sym same) ∙ s.is)

  -- words of objects, with their spare words, and of return addresses
  pub no_static : (k n a i x : ℕ) (o : ObjectTree) → ScalarAt k n a → slice_get plan.statics i ≡ Some x → slice_get p.statics i ≡ Some o → x ≤ a → a < x + (o.length + 1) → ⊥
  no_static k n a i x o s at there from to =
      elsewhere k n a s (StaticObject i) x (o.length + 1) (subst (λ f. CanMeet p f None) (sym s.of) tt) (λ j. object_range (at j) (there j)) from to (no_scalar k n a s (StaticObject i) refl)

  pub no_local : (k h n a i x : ℕ) (at : FramePlan) (code : FunctionCode) (o : ObjectTree) → CanMeet p (Some k) (Some h) → ScalarAt k n a → slice_get plan.frames h ≡ Some at → slice_get p.functions h ≡ Some code
      → slice_get at.locals i ≡ Some x → slice_get code.locals i ≡ Some o → x ≤ a → a < x + (o.length + 1) → ⊥
  no_local k h n a i x at code o meet s framed_so there first local from to =
      elsewhere k n a s (LocalObject h i) x (o.length + 1) (subst (λ f. CanMeet p f (Some h)) (sym s.of) meet)
      ((λ j. local_range (framed_so j) (there j) i) ∙ (λ j. object_range (first j) (local j))) from to (no_scalar k n a s (LocalObject h i) refl)

  pub no_return : (k h n a : ℕ) (at : FramePlan) → CanMeet p (Some k) (Some h) → ScalarAt k n a → slice_get plan.frames h ≡ Some at → at.back ≡ Some a → ⊥
  no_return k h n a at meet s framed_so back =
      elsewhere k n a s (ReturnWord h) a 1 (subst (λ f. CanMeet p f (Some h)) (sym s.of) meet) (ap return_range framed_so ∙ ap word_range back) (omega arith) (omega arith) (no_scalar k n a s (ReturnWord h) refl)

  -- scratch words lie before all
  pub behind_scratch : (k n a : ℕ) → ScalarAt k n a → (784 ≤ a) × (a < 65536)
  behind_scratch k n a s =
      let h = plans_within p arrangements plan arranged planned s.place (range a 1) (λ same. none-some k (ap function_of (sym same) ∙ s.of)) s.ranged in
      let from = h.from in
      let to = h.to in
      (omega (arith, from), omega (arith, to))
