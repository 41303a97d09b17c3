-- Marks and jumps of an entry's items, and the labels that are named behind it.
use Rattle.std.proofs.Common.{◌≡◌, ◌≢◌, ℕ, zero, suc, ◌+◌, ◌<◌, ◌≤◌, Bool, true, false, ◌⊎◌, inl, inr, List, [], ◌∷◌, ◌++◌, length, ⊎_elim, refl, sym, ◌∙◌, ap, subst, arith}
use Rattle.std.specs.Prelude.{◌==◌, ◌||◌, All, AllPairs}
use Rattle.std.proofs.Math.Nat.{eq-or-lt_of_le}
use Rattle.std.proofs.lemmas.Bool.Decides.{eqb_tells}
use Rattle.std.proofs.lemmas.Bool.{eq-eqb}
use Rattle.c25_isa.specs.declared.instruction.Instr.{Instr}
use Rattle.c25_isa.specs.declared.instruction.JumpOp.TheVariants as jump
use Rattle.c25_isa.specs.declared.piece.PieceItem.{PieceItem}
use Rattle.c25_isa.specs.declared.piece.PieceItem.TheVariants as piece
use Rattle.c25_code.specs.Items.{plain_items}
use Rattle.c25_code.specs.Links.{IsMarkOf, MarksDiffer}
use Rattle.acc_code.specs.declared.item.CaseLabel.{CaseLabel}
use Rattle.acc_code.specs.declared.item.CaseLabel.TheVariants.{Value, Default}
use Rattle.emit_control.specs.declared.state.Before.{Before}
use Rattle.emit_control.specs.declared.state.Before.TheVariants.{Open, Shut, Gone}
use Rattle.emit_control.specs.Entries.{Close, Dispatch}
use Rattle.emit_control.specs.Cuts.{State, naming, naming_cases, less_by, jump_item, case_items, default_label, dispatch_items, place_items, behind_place, close_items, behind_close}
use Rattle.emit_proof.specs.Calls.{IsJumpTo}
use Rattle.emit_proof.proofs.Names.{Names}

-- items one behind another
pub front_mark : (k : ℕ) (a b : List PieceItem) → IsMarkOf k a → IsMarkOf k (a ++ b)
front_mark k [] b h = absurd h
front_mark k (piece.Do i ∷ a) b h = front_mark k a b h
front_mark k (piece.Mark l ∷ a) b (inl e) = inl e
front_mark k (piece.Mark l ∷ a) b (inr h) = inr (front_mark k a b h)
front_mark k (piece.Jump op to o ∷ a) b h = front_mark k a b h
front_mark k (piece.CallTo name o ∷ a) b h = front_mark k a b h

pub back_mark : (k : ℕ) (a b : List PieceItem) → IsMarkOf k b → IsMarkOf k (a ++ b)
back_mark k [] b h = h
back_mark k (piece.Do i ∷ a) b h = back_mark k a b h
back_mark k (piece.Mark l ∷ a) b h = inr (back_mark k a b h)
back_mark k (piece.Jump op to o ∷ a) b h = back_mark k a b h
back_mark k (piece.CallTo name o ∷ a) b h = back_mark k a b h

pub split_mark : (k : ℕ) (a b : List PieceItem) → IsMarkOf k (a ++ b) → IsMarkOf k a ⊎ IsMarkOf k b
split_mark k [] b h = inr h
split_mark k (piece.Do i ∷ a) b h = split_mark k a b h
split_mark k (piece.Mark l ∷ a) b (inl e) = inl (inl e)
split_mark k (piece.Mark l ∷ a) b (inr h) = ⊎_elim (λ x. inl (inr x)) (λ y. inr y) (split_mark k a b h)
split_mark k (piece.Jump op to o ∷ a) b h = split_mark k a b h
split_mark k (piece.CallTo name o ∷ a) b h = split_mark k a b h

pub front_jump : (k : ℕ) (a b : List PieceItem) → IsJumpTo k a → IsJumpTo k (a ++ b)
front_jump k [] b h = absurd h
front_jump k (piece.Do i ∷ a) b h = front_jump k a b h
front_jump k (piece.Mark l ∷ a) b h = front_jump k a b h
front_jump k (piece.Jump op to o ∷ a) b (inl e) = inl e
front_jump k (piece.Jump op to o ∷ a) b (inr h) = inr (front_jump k a b h)
front_jump k (piece.CallTo name o ∷ a) b h = front_jump k a b h

pub back_jump : (k : ℕ) (a b : List PieceItem) → IsJumpTo k b → IsJumpTo k (a ++ b)
back_jump k [] b h = h
back_jump k (piece.Do i ∷ a) b h = back_jump k a b h
back_jump k (piece.Mark l ∷ a) b h = back_jump k a b h
back_jump k (piece.Jump op to o ∷ a) b h = inr (back_jump k a b h)
back_jump k (piece.CallTo name o ∷ a) b h = back_jump k a b h

pub split_jump : (k : ℕ) (a b : List PieceItem) → IsJumpTo k (a ++ b) → IsJumpTo k a ⊎ IsJumpTo k b
split_jump k [] b h = inr h
split_jump k (piece.Do i ∷ a) b h = split_jump k a b h
split_jump k (piece.Mark l ∷ a) b h = split_jump k a b h
split_jump k (piece.Jump op to o ∷ a) b (inl e) = inl (inl e)
split_jump k (piece.Jump op to o ∷ a) b (inr h) = ⊎_elim (λ x. inl (inr x)) (λ y. inr y) (split_jump k a b h)
split_jump k (piece.CallTo name o ∷ a) b h = split_jump k a b h

pub plain_mark : (k : ℕ) (code : List Instr) → IsMarkOf k (plain_items code) → ⊥
plain_mark k [] h = h
plain_mark k (i ∷ is) h = plain_mark k is h

pub plain_jump : (k : ℕ) (code : List Instr) → IsJumpTo k (plain_items code) → ⊥
plain_jump k [] h = h
plain_jump k (i ∷ is) h = plain_jump k is h

-- marks differ where there are none
pub no_marks : (items : List PieceItem) → ((k : ℕ) → IsMarkOf k items → ⊥) → MarksDiffer items
no_marks [] f = tt
no_marks (piece.Do i ∷ items) f = no_marks items f
no_marks (piece.Mark l ∷ items) f = absurd (f l (inl refl))
no_marks (piece.Jump op to o ∷ items) f = no_marks items f
no_marks (piece.CallTo name o ∷ items) f = no_marks items f

-- names of labels
pub name_here : (k l : ℕ) (b : Bool) → l ≡ k → (k == l || b) ≡ true
name_here k l b e = ap (λ c. c || b) (eq-eqb k l (sym e))

pub name_more : (k l : ℕ) (b : Bool) → b ≡ true → (k == l || b) ≡ true
name_more k l b h = by (k == l)
  where
    by : (c : Bool) → (c || b) ≡ true
    by true = refl
    by false = h

pub name_cases : (k l : ℕ) (b : Bool) → (k == l || b) ≡ true → (l ≡ k) ⊎ (b ≡ true)
name_cases k l b h = ⊎_elim (λ q. inl (sym q.1)) (λ q. inr (sym (ap (λ c. c || b) q.0) ∙ h)) (eqb_tells k l)

abbrev at : Before → (ℕ → Bool) → State
at x n = record { before = x; named = n }

-- the end of a block
pub place_mark : (b : Bool) (x : Before) (l k : ℕ) → IsMarkOf k (place_items b x l) → l ≡ k
place_mark true x l k (inl e) = e
place_mark true x l k (inr h) = absurd h
place_mark false Open l k (inl e) = e
place_mark false Open l k (inr h) = absurd h
place_mark false Shut l k h = absurd h
place_mark false Gone l k h = absurd h

pub place_jump : (b : Bool) (x : Before) (l k : ℕ) → IsJumpTo k (place_items b x l) → IsMarkOf k (place_items b x l)
place_jump true x l k h = absurd h
place_jump false Open l k h = h
place_jump false Shut l k h = absurd h
place_jump false Gone l k h = absurd h

pub place_once : (b : Bool) (x : Before) (l : ℕ) → MarksDiffer (place_items b x l)
place_once true x l = (λ h. h, tt)
place_once false Open l = (λ h. h, tt)
place_once false Shut l = tt
place_once false Gone l = tt

pub place_named : (x : Before) (n : ℕ → Bool) (l k : ℕ) → IsMarkOf k (place_items (n l) x l) → (n k ≡ true) ⊎ IsJumpTo k (place_items (n l) x l)
place_named x n l k h = by (n l) x refl h
  where
    by : (b : Bool) (y : Before) → n l ≡ b → IsMarkOf k (place_items b y l) → (n k ≡ true) ⊎ IsJumpTo k (place_items b y l)
    by true y e (inl q) = inl (subst (λ m. n m ≡ true) q e)
    by true y e (inr q) = absurd q
    by false Open e q = inr q
    by false Shut e q = absurd q
    by false Gone e q = absurd q

pub place_behind : (b : Bool) (x : Before) (n : ℕ → Bool) (l k : ℕ) → (behind_place b l (at x n)).named k ≡ true → (n k ≡ true) ⊎ IsJumpTo k (place_items b x l)
place_behind true x n l k h = inl h
place_behind false Open n l k h = ⊎_elim (λ e. inr (inl e)) (λ g. inl g) (name_cases k l (n k) h)
place_behind false Shut n l k h = inl h
place_behind false Gone n l k h = inl h

pub place_keeps : (b : Bool) (x : Before) (n : ℕ → Bool) (l k : ℕ) → n k ≡ true → (behind_place b l (at x n)).named k ≡ true
place_keeps true x n l k h = h
place_keeps false Open n l k h = name_more k l (n k) h
place_keeps false Shut n l k h = h
place_keeps false Gone n l k h = h

pub place_marked : (b : Bool) (x : Before) (l : ℕ) → b ≡ true → IsMarkOf l (place_items b x l)
place_marked true x l e = inl refl
place_marked false x l e = absurd (subst Unset (sym e) tt)
  where
    Unset : Bool → Type 0
    Unset true = Unit {0}
    Unset false = ⊥

-- the end of a loop
pub close_mark : (b : Bool) (x : Before) (h l k : ℕ) → IsMarkOf k (close_items b x h l) → ⊥
close_mark true x h l k q = q
close_mark false Open h l k q = q
close_mark false Shut h l k q = q
close_mark false Gone h l k q = q

pub close_jump : (b : Bool) (x : Before) (n : ℕ → Bool) (h l k : ℕ) → IsJumpTo k (close_items b x h l) → Names k (Close h l) × ((behind_close b h l (at x n)).named k ≡ true)
close_jump true x n h l k q = absurd q
close_jump false Gone n h l k (inl e) = (inl e, name_here k h (n k) e)
close_jump false Gone n h l k (inr q) = absurd q
close_jump false Open n h l k (inl e) = (inr e, name_more k h _ (name_here k l (n k) e))
close_jump false Open n h l k (inr (inl e)) = (inl e, name_here k h _ e)
close_jump false Open n h l k (inr (inr q)) = absurd q
close_jump false Shut n h l k (inl e) = (inr e, name_more k h _ (name_here k l (n k) e))
close_jump false Shut n h l k (inr (inl e)) = (inl e, name_here k h _ e)
close_jump false Shut n h l k (inr (inr q)) = absurd q

both_behind : (h l k : ℕ) (b : Bool) → (k == h || (k == l || b)) ≡ true → (b ≡ true) ⊎ IsJumpTo k (jump_item jump.B l ∷ jump_item jump.B h ∷ [])
both_behind h l k b q = ⊎_elim (λ e. inr (inr (inl e))) (λ g. ⊎_elim (λ e. inr (inl e)) (λ f. inl f) (name_cases k l b g)) (name_cases k h _ q)

pub close_behind : (b : Bool) (x : Before) (n : ℕ → Bool) (h l k : ℕ) → (behind_close b h l (at x n)).named k ≡ true → (n k ≡ true) ⊎ IsJumpTo k (close_items b x h l)
close_behind true x n h l k q = inl q
close_behind false Gone n h l k q = ⊎_elim (λ e. inr (inl e)) (λ g. inl g) (name_cases k h (n k) q)
close_behind false Open n h l k q = both_behind h l k (n k) q
close_behind false Shut n h l k q = both_behind h l k (n k) q

pub close_keeps : (b : Bool) (x : Before) (n : ℕ → Bool) (h l k : ℕ) → n k ≡ true → (behind_close b h l (at x n)).named k ≡ true
close_keeps true x n h l k q = q
close_keeps false Gone n h l k q = name_more k h (n k) q
close_keeps false Open n h l k q = name_more k h _ (name_more k l (n k) q)
close_keeps false Shut n h l k q = name_more k h _ (name_more k l (n k) q)

pub close_closes : (x : Before) (n : ℕ → Bool) (h l : ℕ) → (n h ≡ true) ⊎ IsJumpTo h (close_items (n h) x h l)
close_closes x n h l = by (n h) x
  where
    by : (b : Bool) (y : Before) → (b ≡ true) ⊎ IsJumpTo h (close_items b y h l)
    by true y = inl refl
    by false Open = inr (inr (inl refl))
    by false Shut = inr (inr (inl refl))
    by false Gone = inr (inl refl)

-- a switch
case_mark : (cs : List CaseLabel) (l before k : ℕ) → IsMarkOf k (case_items cs l before) → ⊥
case_mark [] l before k h = h
case_mark (Value v ∷ cs) l before k h = ⊎_elim (λ p. plain_mark k (less_by before v) p) (λ q. case_mark cs (suc l) v k q) (split_mark k (plain_items (less_by before v)) _ h)
case_mark (Default ∷ cs) l before k h = case_mark cs (suc l) before k h

pub dispatch_mark : (cs : List CaseLabel) (l behind k : ℕ) → IsMarkOf k (dispatch_items cs l behind) → ⊥
dispatch_mark cs l behind k h = ⊎_elim (λ p. case_mark cs l 0 k p) (λ q. absurd q) (split_mark k (case_items cs l 0) _ h)

case_jump : (cs : List CaseLabel) (l before k : ℕ) → IsJumpTo k (case_items cs l before) → (l ≤ k) × (k < l + length cs)
case_jump [] l before k h = absurd h
case_jump (Value v ∷ cs) l before k h =
    ⊎_elim (λ p. absurd (plain_jump k (less_by before v) p))
    (λ r. ⊎_elim (λ e. let same : l ≡ k = e in (omega (arith, same), omega (arith, same))) (λ q. let r = case_jump cs (suc l) v k q in let g : suc l ≤ k = r.0 in let b : k < suc l + length cs = r.1 in (omega (arith, g), omega (arith, b))) r)
    (split_jump k (plain_items (less_by before v)) _ h)
case_jump (Default ∷ cs) l before k h = let r = case_jump cs (suc l) before k h in let g : suc l ≤ k = r.0 in let b : k < suc l + length cs = r.1 in (omega (arith, g), omega (arith, b))

pub cases_keep : (cs : List CaseLabel) (l k : ℕ) (s : State) → s.named k ≡ true → (naming_cases cs l s).named k ≡ true
cases_keep [] l k s h = h
cases_keep (c ∷ cs) l k s h = cases_keep cs (suc l) k (naming l s) (name_more k l (s.named k) h)

cases_named : (cs : List CaseLabel) (l k : ℕ) (s : State) → l ≤ k → k < l + length cs → (naming_cases cs l s).named k ≡ true
cases_named [] l k s g h = absurd (omega (arith, g, h))
cases_named (c ∷ cs) l k s g h = ⊎_elim (λ e. cases_keep cs (suc l) k (naming l s) (name_here k l (s.named k) e)) (λ b. let more : l < k = b in cases_named cs (suc l) k (naming l s) (omega (arith, more)) (omega (arith, h))) (eq-or-lt_of_le g)

pub dispatch_jump : (cs : List CaseLabel) (l behind k : ℕ) (s : State) → IsJumpTo k (dispatch_items cs l behind) → Names k (Dispatch cs l behind) × ((naming (default_label cs l behind) (naming_cases cs l s)).named k ≡ true)
dispatch_jump cs l behind k s h = ⊎_elim cases last (split_jump k (case_items cs l 0) _ h)
  where
    cases : IsJumpTo k (case_items cs l 0) → Names k (Dispatch cs l behind) × ((naming (default_label cs l behind) (naming_cases cs l s)).named k ≡ true)
    cases q = let r = case_jump cs l 0 k q in (inl r, name_more k (default_label cs l behind) _ (cases_named cs l k s r.0 r.1))

    last : (default_label cs l behind ≡ k) ⊎ ⊥ → Names k (Dispatch cs l behind) × ((naming (default_label cs l behind) (naming_cases cs l s)).named k ≡ true)
    last (inl e) = (inr e, name_here k (default_label cs l behind) _ e)
    last (inr q) = absurd q

-- the label of a default
abbrev DefaultAt : ℕ → List CaseLabel → ℕ → Type 0
DefaultAt k [] l = ⊥
DefaultAt k (Value v ∷ cs) l = DefaultAt k cs (suc l)
DefaultAt k (Default ∷ cs) l = (l ≡ k) ⊎ DefaultAt k cs (suc l)

case_behind : (cs : List CaseLabel) (l before k : ℕ) (s : State) → (naming_cases cs l s).named k ≡ true → (s.named k ≡ true) ⊎ IsJumpTo k (case_items cs l before) ⊎ DefaultAt k cs l
case_behind [] l before k s h = inl h
case_behind (Value v ∷ cs) l before k s h =
    ⊎_elim (λ g. ⊎_elim (λ e. inr (inl (back_jump k (plain_items (less_by before v)) _ (inl e)))) (λ f. inl f) (name_cases k l (s.named k) g))
    (λ g. ⊎_elim (λ q. inr (inl (back_jump k (plain_items (less_by before v)) _ (inr q)))) (λ d. inr (inr d)) g)
    (case_behind cs (suc l) v k (naming l s) h)
case_behind (Default ∷ cs) l before k s h =
    ⊎_elim (λ g. ⊎_elim (λ e. inr (inr (inl e))) (λ f. inl f) (name_cases k l (s.named k) g))
    (λ g. ⊎_elim (λ q. inr (inl q)) (λ d. inr (inr (inr d))) g)
    (case_behind cs (suc l) before k (naming l s) h)

abbrev Differ : List CaseLabel → Type 0
Differ cs = AllPairs (λ a b. a ≢ b) cs

differ_more : (c : CaseLabel) (cs : List CaseLabel) → Differ (c ∷ cs) → Differ cs
differ_more c cs h = λ i j d lt within. h (suc i) (suc j) d (omega arith) (omega arith)

one_default : (cs : List CaseLabel) (l k : ℕ) → All (λ c. Default ≢ c) cs → DefaultAt k cs l → ⊥
one_default [] l k h q = q
one_default (Value v ∷ cs) l k h q = one_default cs (suc l) k (λ i d within. h (suc i) d (omega arith)) q
one_default (Default ∷ cs) l k h q = h zero Default (omega arith) refl

default_at : (cs : List CaseLabel) (l behind k : ℕ) → Differ cs → DefaultAt k cs l → default_label cs l behind ≡ k
default_at [] l behind k h q = absurd q
default_at (Value v ∷ cs) l behind k h q = default_at cs (suc l) behind k (differ_more (Value v) cs h) q
default_at (Default ∷ cs) l behind k h (inl e) = e
default_at (Default ∷ cs) l behind k h (inr q) = absurd (one_default cs (suc l) k (λ i d within. h zero (suc i) d (omega arith) (omega arith)) q)

pub dispatch_behind : (cs : List CaseLabel) (l behind k : ℕ) (s : State) → Differ cs → (naming (default_label cs l behind) (naming_cases cs l s)).named k ≡ true → (s.named k ≡ true) ⊎ IsJumpTo k (dispatch_items cs l behind)
dispatch_behind cs l behind k s d h =
    ⊎_elim (λ e. inr (last e))
    (λ g. ⊎_elim (λ f. inl f) (λ r. ⊎_elim (λ q. inr (front_jump k (case_items cs l 0) _ q)) (λ a. inr (last (default_at cs l behind k d a))) r) (case_behind cs l 0 k s g))
    (name_cases k (default_label cs l behind) _ h)
  where
    last : default_label cs l behind ≡ k → IsJumpTo k (dispatch_items cs l behind)
    last e = back_jump k (case_items cs l 0) _ (inl e)
