-- Where a log fits the tree, no complete node costs less than its number.
use Rattle.std.proofs.Common.{◌≡◌, ◌≤◌, ◌++◌, ℕ, suc, List, [], ◌∷◌, Bool, true, false, refl, ap, sym, subst, inl, inr, arith}
use Rattle.std.specs.Prelude.{◌⊎◌, ℤ, pos, ◌≤ℤ◌, T}
use Rattle.std.proofs.lemmas.Bool.{both_ways}
use Rattle.std.proofs.lemmas.Int.{ints}
use lib.Signed.{lt_z_no}
use Rattle.lay_model.specs.Sequences.{Sequence, IsSequence}
use Rattle.lay_cost.specs.Cost.{arranged_cost}
use Rattle.lay_cost.specs.Parts.{Node, node_lists}
use Rattle.lay_tree.specs.declared.answer.Mark.{Mark}
use Rattle.lay_tree.specs.declared.answer.Mark.TheVariants.{Branched, Closed}
use Rattle.lay_tree.specs.Tree.{root, is_complete, children, IsBelow, itself, behind_child}
use Rattle.lay_tree.specs.Bound.{bound}
use Rattle.lay_tree.specs.Search.{reaches}
use Rattle.lay_tree.specs.Replays.{Replay, Fits, IsTooLow, HasNoShape, replay_from, Replays}
use Rattle.lay_tree.proofs.Members.{IsIn, from_contains, in_front, in_back}
use Rattle.lay_tree.proofs.Bounds.{bound_holds}

abbrev fits : Replay → Bool
fits Fits = true
fits (IsTooLow at b) = false
fits (HasNoShape at) = false

no_fit : (r : Replay) → r ≡ Fits → fits r ≡ false → ⊥
no_fit r e f = both_ways (fits r) f (ap fits e)

pub reached : (b : ℤ) (c d : ℕ) → reaches b c ≡ true → b ≤ℤ pos d → c ≤ d
reached b c d e h =
    let at_most : pos c ≤ℤ b = lt_z_no {a = b} {b = pos c} (subst T (sym e) tt)
    in omega (arith, ints, at_most, h)

-- below a node is itself or a node below a child
below_closed : (k : ℕ) (seq : Sequence) (n m : Node) (P : Type 0) → is_complete seq m ≡ true → is_complete seq n ≡ false → IsBelow k seq n m → ((child : Node) → IsIn child (children k seq n) → IsBelow k seq child m → P) → P
below_closed k seq _ _ P complete unfinished (itself n) go = absurd (both_ways _ unfinished complete)
below_closed k seq _ _ P complete unfinished (behind_child n child m incomplete inside below) go = go child (from_contains child (children k seq n) inside) below

pub fits_below : (k : ℕ) (seq : Sequence) (c at : ℕ) (ns : List Node) (marks : List Mark) (n m : Node) → IsSequence seq → replay_from k seq c at ns marks ≡ Fits → IsIn n ns → IsBelow k seq n m → is_complete seq m ≡ true → c ≤ arranged_cost seq (node_lists m)
fits_below k seq c at [] marks n m sequence e i below complete = absurd i
fits_below k seq c at (o ∷ ns) [] n m sequence e i below complete = absurd (no_fit _ e refl)
fits_below k seq c at (o ∷ ns) (Closed ∷ marks) n m sequence e i below complete = go (reaches (bound k seq o) c) refl (λ f j. fits_below k seq c (suc at) ns marks n m sequence f j below complete) e i
  where
    go : (b : Bool) → reaches (bound k seq o) c ≡ b → (replay_from k seq c (suc at) ns marks ≡ Fits → IsIn n ns → c ≤ arranged_cost seq (node_lists m))
        → replay_from k seq c at (o ∷ ns) (Closed ∷ marks) ≡ Fits → (n ≡ o) ⊎ IsIn n ns → c ≤ arranged_cost seq (node_lists m)
    go true is more f (inl same) = reached (bound k seq o) c _ is (bound_holds k seq o m sequence (subst (λ v. IsBelow k seq v m) same below) complete)
    go true is more f (inr j) = more (rw (is, replay_from) at f) j
    go false is more f j = absurd (no_fit _ (rw (is, replay_from) at f) refl)
fits_below k seq c at (o ∷ ns) (Branched ∷ marks) n m sequence e i below complete = go (is_complete seq o) refl (λ v f j h. fits_below k seq c (suc at) (children k seq o ++ ns) marks v m sequence f j h complete) e i
  where
    go : (b : Bool) → is_complete seq o ≡ b → ((v : Node) → replay_from k seq c (suc at) (children k seq o ++ ns) marks ≡ Fits → IsIn v (children k seq o ++ ns) → IsBelow k seq v m → c ≤ arranged_cost seq (node_lists m))
        → replay_from k seq c at (o ∷ ns) (Branched ∷ marks) ≡ Fits → (n ≡ o) ⊎ IsIn n ns → c ≤ arranged_cost seq (node_lists m)
    go true is more f j = absurd (no_fit _ (rw (is, replay_from) at f) refl)
    go false is more f (inl same) = below_closed k seq o m _ complete is (subst (λ v. IsBelow k seq v m) same below) (λ child inside h. more child (rw (is, replay_from) at f) (in_front child (children k seq o) ns inside) h)
    go false is more f (inr j) = more n (rw (is, replay_from) at f) (in_back n (children k seq o) ns j) below

pub replays_below : (k : ℕ) (seq : Sequence) (c : ℕ) (marks : List Mark) (m : Node) → IsSequence seq → Replays k seq c marks → IsBelow k seq root m → is_complete seq m ≡ true → c ≤ arranged_cost seq (node_lists m)
replays_below k seq c marks m sequence e below complete = fits_below k seq c 0 (root ∷ []) marks root m sequence e (inl refl) below complete
