-- Objects where a plan has them lie as lowering and selection ask: far enough from the first words, within data memory, and those that can live at
-- once apart.
use Rattle.std.proofs.Common.{◌≡◌, ◌≤◌, ◌<◌, ℕ, ◌+◌, List, [], ◌∷◌, length, map, Option, Some, None, refl, sym, ap, ◌∙◌, subst, inl, inr, arith, ⊎_elim}
use Rattle.std.specs.Prelude.{All, slice_get}
use Rattle.std.proofs.lemmas.Option.{none-some, same_Some}
use Rattle.c_tree.specs.declared.program.VarRef.TheVariants.{Scalar, Local, Static}
use Rattle.c_tree.specs.Rounds.{CallsAmong, IsWay}
use Rattle.c_tree.specs.TypedTree.{ObjectTree, FunctionTree, ProgramTree}
use Rattle.c_tree.specs.Uses as source_uses
use Rattle.c_tree.specs.Uses.{called}
use Rattle.c_tree.specs.WellFormedProgram.{IsObject, IsFunction, IsProgram, program_calls}
use Rattle.tree_code.specs.Lowered.{lowered_function, lowered_program}
use Rattle.tree_code.specs.WellFormedCode.{code_calls}
use Rattle.tree_code.proofs.KeptLemmas.{statement_uses_kept}
use Rattle.ir_semantics.specs.Outside.{Places, address_of}
use Rattle.mem_plan.specs.declared.data_plan.DataPlan.{DataPlan}
use Rattle.mem_plan.specs.Plan.{statics_start, frames_start, plan_of, AreArranged, IsPlan}
use Rattle.mem_plan.specs.Ranges as ranges
use Rattle.mem_plan.specs.Ranges.{range, Place, ScratchWords, StaticObject, ScalarWord, LocalObject, ReturnWord, range_of, function_of, KeepApart, IsWithin, LieWithin}
use Rattle.acc_select_proof.specs.Selecting.{AreFar}
use Rattle.tree_code_proof.specs.Seats.{LiesAt, IsPlace, Apart}
use Rattle.tree_code_proof.specs.Surroundings.{locals_of, IsLocal, ArePlaces}
use Rattle.tree_code_proof.proofs.Depths.{element_of}
use Rattle.image_proof.specs.PlanPlaces.{address_or_start, local_addresses, places_of}
use Rattle.image_proof.proofs.Addresses.{object_ranged, object_there, local_ranged, local_there}

-- each lowered function calls what its function calls
pub calls_same : (fs : List FunctionTree) → code_calls (map lowered_function fs) ≡ program_calls fs
calls_same [] = refl
calls_same (f ∷ fs) =
    ap (λ us. called us ∷ code_calls (map lowered_function fs)) (statement_uses_kept f.body)
    ∙ ap (λ calls. called (source_uses.statement_uses f.body) ∷ calls) (calls_same fs)

-- things of a plan differ by their numbers
abbrev number_of : Place → ℕ
number_of ScratchWords = 0
number_of (StaticObject n) = n
number_of (ScalarWord f list position) = position
number_of (LocalObject f n) = n
number_of (ReturnWord f) = 0

no_scratch_static : (n : ℕ) → StaticObject n ≡ ScratchWords → ⊥
no_scratch_static n e = cc

no_scratch_local : (f n : ℕ) → LocalObject f n ≡ ScratchWords → ⊥
no_scratch_local f n e = cc

static_no_local : (n f m : ℕ) → StaticObject n ≡ LocalObject f m → ⊥
static_no_local n f m e = cc

-- ranges with a spare word each
apart_so : (a n b m : ℕ) → ranges.Apart (range a (n + 1)) (range b (m + 1)) → Apart (LiesAt a n) (LiesAt b m)
apart_so a n b m = ⊎_elim (λ h. inl (omega (arith, h))) (λ h. inr (omega (arith, h)))

place_so : (t : ProgramTree) (o : ObjectTree) (a : ℕ) → IsObject t o → IsWithin (range a (o.length + 1)) → IsPlace a o.length
place_so t o a is w =
    let from = w.from in
    let to = w.to in
    record { from_one = is.from_one; most = is.most; first = omega (arith, from); last = omega (arith, to) }

local_is : (t : ProgramTree) → All (IsFunction t) t.functions → (f n : ℕ) (o : ObjectTree) → IsLocal t f n o → IsObject t o
local_is t all f n o = go (slice_get t.functions f) refl
  where
    go : (g : Option FunctionTree) → slice_get t.functions f ≡ g → slice_get (locals_of g) n ≡ Some o → IsObject t o
    go None at is = absurd (none-some o is)
    go (Some g) at is = element_of (IsObject t) g.locals (element_of (IsFunction t) t.functions all f g at).locals n o is

module _ (t : ProgramTree) (arrangements : List (List (List ℕ))) (count : length arrangements ≡ length (map lowered_function t.functions)) (begin : ℕ → ℕ) where
  abbrev plan : DataPlan
  plan = plan_of (lowered_program t) arrangements begin

  abbrev q : Places
  q = places_of plan

  static_range : (n : ℕ) (o : ObjectTree) → slice_get t.statics n ≡ Some o → range_of (lowered_program t) arrangements plan (StaticObject n) ≡ Some (range (q.static n) (o.length + 1))
  static_range n o is = object_ranged statics_start t.statics n o is

  local_range : (f n : ℕ) (o : ObjectTree) → IsLocal t f n o → range_of (lowered_program t) arrangements plan (LocalObject f n) ≡ Some (range (q.local f n) (o.length + 1))
  local_range f n o is = local_ranged (frames_start (lowered_program t)) begin 0 f t.functions arrangements count n o is

  module _ (within : LieWithin (lowered_program t) arrangements plan) where
    static_within : (n : ℕ) (o : ObjectTree) → slice_get t.statics n ≡ Some o → IsWithin (range (q.static n) (o.length + 1))
    static_within n o is = within (StaticObject n) (range (q.static n) (o.length + 1)) (no_scratch_static n) (static_range n o is)

    local_within : (f n : ℕ) (o : ObjectTree) → IsLocal t f n o → IsWithin (range (q.local f n) (o.length + 1))
    local_within f n o is = within (LocalObject f n) (range (q.local f n) (o.length + 1)) (no_scratch_local f n) (local_range f n o is)

    -- an address of an object, or one where there is no object
    abbrev IsFar : ℕ → Type 0
    IsFar a = (16 ≤ a) × (a < 65536)

    far_within : (a n : ℕ) → IsWithin (range a (n + 1)) → IsFar a
    far_within a n w =
        let from = w.from in
        let to = w.to in
        (omega (arith, from), omega (arith, to))

    static_far : (n : ℕ) → IsFar (q.static n)
    static_far n = go (slice_get plan.statics n) refl
      where
        go : (x : Option ℕ) → slice_get plan.statics n ≡ x → IsFar (address_or_start x)
        go None is = (omega arith, omega arith)
        go (Some a) is =
            let there = object_there statics_start t.statics n a is in
            subst (λ x. IsFar (address_or_start x)) is (far_within (q.static n) (there.0).length (static_within n there.0 there.1))

    local_far : (f n : ℕ) → IsFar (q.local f n)
    local_far f n = go (slice_get (local_addresses (slice_get plan.frames f)) n) refl
      where
        go : (x : Option ℕ) → slice_get (local_addresses (slice_get plan.frames f)) n ≡ x → IsFar (address_or_start x)
        go None is = (omega arith, omega arith)
        go (Some a) is =
            let there = local_there (frames_start (lowered_program t)) begin 0 f t.functions arrangements n a is in
            subst (λ x. IsFar (address_or_start x)) is (far_within (q.local f n) (there.0).length (local_within f n there.0 there.1))

    places_far : (f : ℕ) → AreFar (address_of q f)
    places_far f (Scalar n) a is = absurd (none-some a is)
    places_far f (Local n) a is = subst IsFar (same_Some (q.local f n) a is) (local_far f n)
    places_far f (Static n) a is = subst IsFar (same_Some (q.static n) a is) (static_far n)

    module _ (apart : KeepApart (lowered_program t) arrangements plan) (is : IsProgram t) where
      places_are : ArePlaces q t
      places_are = record {
        static = λ n o at. place_so t o (q.static n) (element_of (IsObject t) t.statics is.statics n o at) (static_within n o at);
        local = λ f n o at. place_so t o (q.local f n) (local_is t is.functions f n o at) (local_within f n o at);
        statics = λ n m o r differ at there. apart_so (q.static n) o.length (q.static m) r.length
            (apart (StaticObject n) (StaticObject m) (range (q.static n) (o.length + 1)) (range (q.static m) (r.length + 1)) (λ e. differ (ap number_of e)) (tt {0}) (static_range n o at) (static_range m r there));
        beside = λ n f m o r at there. apart_so (q.static n) o.length (q.local f m) r.length
            (apart (StaticObject n) (LocalObject f m) (range (q.static n) (o.length + 1)) (range (q.local f m) (r.length + 1)) (static_no_local n f m) (tt {0}) (static_range n o at) (local_range f m r there));
        locals = λ f n m o r differ at there. apart_so (q.local f n) o.length (q.local f m) r.length
            (apart (LocalObject f n) (LocalObject f m) (range (q.local f n) (o.length + 1)) (range (q.local f m) (r.length + 1)) (λ e. differ (ap number_of e)) (inl ([], refl)) (local_range f n o at) (local_range f m r there));
        meeting = λ f g n m o r differ reach at there. apart_so (q.local f n) o.length (q.local g m) r.length
            (apart (LocalObject f n) (LocalObject g m) (range (q.local f n) (o.length + 1)) (range (q.local g m) (r.length + 1)) (λ e. differ (same_Some f g (ap function_of e)))
            (inl (reach.0, subst (λ calls. IsWay (CallsAmong calls) f reach.0 g) (sym (calls_same t.functions)) reach.1)) (local_range f n o at) (local_range g m r there));
      }

module _ (t : ProgramTree) (arrangements : List (List (List ℕ))) (plan : DataPlan) (arranged : AreArranged (lowered_program t).functions arrangements) (planned : IsPlan (lowered_program t) arrangements plan) (within : LieWithin (lowered_program t) arrangements plan) where
  pub plan_far : (f : ℕ) → AreFar (address_of (places_of plan) f)
  plan_far = subst (λ plan. (f : ℕ) → AreFar (address_of (places_of plan) f)) (sym planned.is) (places_far t arrangements arranged.count planned.begin (subst (LieWithin (lowered_program t) arrangements) planned.is within))

  pub plan_places : KeepApart (lowered_program t) arrangements plan → IsProgram t → ArePlaces (places_of plan) t
  plan_places apart is = subst (λ plan. ArePlaces (places_of plan) t) (sym planned.is)
      (places_are t arrangements arranged.count planned.begin (subst (LieWithin (lowered_program t) arrangements) planned.is within) (subst (KeepApart (lowered_program t) arrangements) planned.is apart) is)
