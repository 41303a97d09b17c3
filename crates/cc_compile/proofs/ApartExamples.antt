-- Lists of frames that are apart, and others: functions that are never active at once may have the same words, a function and one that it calls may not.
use Rattle.std.proofs.Common.{◌≡◌, ◌<◌, ◌∙◌, inl, inr, ℕ, zero, suc, List, [], ◌∷◌, Some, None, refl, sym, subst, arith}
use Rattle.std.specs.Prelude.{codes, slice_get}
use Rattle.std.specs.List.{Contains}
use Rattle.std.proofs.lemmas.Option.{same_Some}
use Rattle.c_tree.specs.Rounds.{CallsAmong, IsWay}
use Rattle.c_tree.specs.TypedTree as tree
use Rattle.c_tree.specs.TypedTree.{FunctionTree, ProgramTree, Node}
use Rattle.c_tree.specs.WellFormedProgram.{program_calls}
use Rattle.frame_layouts.specs.lay_cert.Frames.{Frame}
use Rattle.frame_layouts.specs.lay_cert.declared.certificate.Claim.TheVariants.{Optimal}
use Rattle.frame_layouts.specs.mem_plan.declared.data_plan.DataPlan.{DataPlan}
use Rattle.frame_layouts.specs.mem_plan.declared.data_plan.FramePlan.{FramePlan}
use Rattle.image_proof.specs.FrameWords.{place_of}
use Rattle.image_proof.specs.tree_code_proof.Reaching.{CanMeet}
use Rattle.cc_compile.specs.Apart.{AreListsApart, HasScalarAt}
use Rattle.cc_compile.specs.DataWords.{place_words}

-- a frame of one scalar, which lies in its list from 784 on
abbrev frame : Frame
frame = record { name = codes "f"; registers = 1; seq = record { scalars = 1; step = 1; blocks = [] }; arr = (0 ∷ []) ∷ []; bases = 784 ∷ []; cost = 0; claim = Optimal; log = [] }

abbrev at_784 : FramePlan
at_784 = record { bases = 784 ∷ []; locals = []; back = None }

abbrev plan : DataPlan
plan = record { statics = []; frames = at_784 ∷ at_784 ∷ []; used = 17 }

abbrev function : tree.Stmt → FunctionTree
function body = record { name = codes "f"; result = None; params = []; scalars = []; locals = []; body = body }

-- two functions, of which the first calls the second or not
abbrev caller : ProgramTree
caller = record { statics = []; functions = function (tree.Do_expr (Node (tree.Call 1 tree.none) None 0)) ∷ function tree.Break ∷ [] }

abbrev strangers : ProgramTree
strangers = record { statics = []; functions = function tree.Break ∷ function tree.Break ∷ [] }

its_word : (k : ℕ) → slice_get (frame ∷ frame ∷ []) k ≡ Some frame → HasScalarAt (frame ∷ frame ∷ []) k 0 784
its_word k there = record { frame = frame; there = there; below = omega arith; is = refl }

shared : AreListsApart caller (frame ∷ frame ∷ []) plan → ⊥
shared h =
    let one = (h.scalars 0 1 0 0 784 (inl (1 ∷ [], ((1 ∷ [], refl, (0, omega arith, refl)), refl))) (its_word 0 refl) (its_word 1 refl)).0 in
    omega (arith, one)

-- none calls another
abbrev Calls : ℕ → ℕ → Type 0
Calls = CallsAmong (program_calls strangers.functions)

no_calls : (k h : ℕ) → Calls k h → ⊥
no_calls k h c = by k c.0 c.1 c.2
  where
    by : (k : ℕ) (list : List ℕ) → slice_get ([] ∷ [] ∷ []) k ≡ Some list → Contains list h → ⊥
    by zero list is among = let less = (subst (λ ms. Contains ms h) (sym (same_Some [] list is)) among).1 in omega (arith, less)
    by (suc zero) list is among = let less = (subst (λ ms. Contains ms h) (sym (same_Some [] list is)) among).1 in omega (arith, less)
    by (suc (suc k)) list is among = cc

no_way : (k h : ℕ) (ms : List ℕ) → IsWay Calls k ms h → k ≡ h
no_way k h [] way = way
no_way k h (m ∷ ms) way = absurd (no_calls k m way.0)

alone : (k h : ℕ) → CanMeet strangers k h → k ≡ h
alone k h (inl reach) = no_way k h reach.0 reach.1
alone k h (inr reach) = sym (no_way h k reach.0 reach.1)

-- each has the one word
frame_is : (k : ℕ) (f : Frame) → slice_get (frame ∷ frame ∷ []) k ≡ Some f → frame ≡ f
frame_is zero f there = same_Some frame f there
frame_is (suc zero) f there = same_Some frame f there
frame_is (suc (suc k)) f there = cc

word_is : (k n a : ℕ) → HasScalarAt (frame ∷ frame ∷ []) k n a → (n ≡ 0) × (a ≡ 784)
word_is k n a s = by n below (subst (λ (f : Frame). place_of f.bases f.arr n ≡ a) (sym same) s.is)
  where
    same : frame ≡ s.frame
    same = frame_is k s.frame s.there

    below : n < 1
    below = subst (λ (f : Frame). n < f.seq.scalars) (sym same) s.below

    by : (n : ℕ) → n < 1 → place_of (784 ∷ []) ((0 ∷ []) ∷ []) n ≡ a → (n ≡ 0) × (a ≡ 784)
    by zero less is = (refl, sym is)
    by (suc n) less is = absurd (omega (arith, less))

no_words : (h a : ℕ) (g : FunctionTree) (at : FramePlan) → slice_get plan.frames h ≡ Some at → Contains (place_words strangers plan g at) a → ⊥
no_words h a g at framed among = by h framed
  where
    none : at_784 ≡ at → ⊥
    none same = let less = (subst (λ (at : FramePlan). Contains (place_words strangers plan g at) a) (sym same) among).1 in omega (arith, less)

    by : (h : ℕ) → slice_get (at_784 ∷ at_784 ∷ []) h ≡ Some at → ⊥
    by zero framed = none (same_Some at_784 at framed)
    by (suc zero) framed = none (same_Some at_784 at framed)
    by (suc (suc h)) framed = cc

apart : AreListsApart strangers (frame ∷ frame ∷ []) plan
apart = record {
  scalars = λ k h n m a meet s u. (alone k h meet, (word_is k n a s).0 ∙ sym (word_is h m a u).0);
  places = λ k h n a g at meet s there framed among. no_words h a g at framed among;
  in_ram = λ k n a s. let is = (word_is k n a s).1 in (omega (arith, is), omega (arith, is));
}
