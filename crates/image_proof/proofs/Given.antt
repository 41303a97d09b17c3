-- What was given for parameters, at the entry of their function.
use Rattle.std.proofs.Common.{◌≡◌, ◌⊎◌, ℕ, suc, ◌+◌, Bool, true, false, cond, List, [], ◌∷◌, Option, Some, None, refl, sym, ap, ◌∙◌, inl, inr, ⊎_elim, eqb-true, arith}
use Rattle.std.specs.Prelude.{◌==◌, slice_get}
use Rattle.c_tree.specs.declared.program.VarRef.{VarRef}
use Rattle.c_tree.specs.declared.program.VarRef.TheVariants.{Scalar, Local, Static}
use Rattle.ir_semantics.specs.Outside.{Cell, Holds, Memory, Frame}
use Rattle.ir_semantics.specs.TreeRun.{Addresses}
use Rattle.ir_semantics.specs.AccRun.{given_frame, given_memory, with_given}

same_word : {x y : ℕ} → Holds x ≡ Holds y → x ≡ y
same_word e = cc

-- a parameter of these got a word
pub record GivenTo (ps : List VarRef) (i : ℕ) (given : Frame) (v : VarRef) (x : ℕ) : Type 0 where
  pub index : ℕ
  pub there : slice_get ps index ≡ Some v
  pub is : given (i + index) ≡ Some x

given_first : (p : VarRef) (ps : List VarRef) (i : ℕ) (given : Frame) (x : ℕ) → given i ≡ Some x → GivenTo (p ∷ ps) i given p x
given_first p ps i given x is =
    let here : i + 0 ≡ i = omega arith in
    record { index = 0; there = refl; is = ap given here ∙ is }

given_later : (p : VarRef) (ps : List VarRef) (i : ℕ) (given : Frame) (v : VarRef) (x : ℕ) → GivenTo ps (suc i) given v x → GivenTo (p ∷ ps) i given v x
given_later p ps i given v x h =
    let further : i + suc h.index ≡ suc i + h.index = omega arith in
    record { index = suc h.index; there = h.there; is = ap given further ∙ h.is }

frame_by : (m : ℕ) (ps : List VarRef) (i : ℕ) (given frame : Frame) (n x : ℕ) (b : Bool) → (n == m) ≡ b → cond b (given i) (frame n) ≡ Some x → (frame n ≡ Some x) ⊎ GivenTo (Scalar m ∷ ps) i given (Scalar n) x
frame_by m ps i given frame n x true same is =
    let here : i + 0 ≡ i = omega arith in
    inr (record { index = 0; there = ap (λ k. Some (Scalar k)) (sym (eqb-true n m same)); is = ap given here ∙ is })
frame_by m ps i given frame n x false same is = inl is

-- a scalar that is known was, or got a word
pub scalar_given : (ps : List VarRef) (i : ℕ) (given frame : Frame) (n x : ℕ) → given_frame ps i given frame n ≡ Some x → (frame n ≡ Some x) ⊎ GivenTo ps i given (Scalar n) x
scalar_given [] i given frame n x is = inl is
scalar_given (Scalar m ∷ ps) i given frame n x is =
    ⊎_elim (λ before. frame_by m ps i given frame n x (n == m) refl before) (λ h. inr (given_later (Scalar m) ps i given (Scalar n) x h))
    (scalar_given ps (suc i) given (λ k. cond (k == m) (given i) (frame k)) n x is)
scalar_given (Local m ∷ ps) i given frame n x is =
    ⊎_elim (λ before. inl before) (λ h. inr (given_later (Local m) ps i given (Scalar n) x h)) (scalar_given ps (suc i) given frame n x is)
scalar_given (Static m ∷ ps) i given frame n x is =
    ⊎_elim (λ before. inl before) (λ h. inr (given_later (Static m) ps i given (Scalar n) x h)) (scalar_given ps (suc i) given frame n x is)

module _ (at : Addresses) (given : Frame) (a : ℕ) where
  -- a parameter of these that has this address
  pub record HasAddress (ps : List VarRef) : Type 0 where
    pub index : ℕ
    pub name : VarRef
    pub there : slice_get ps index ≡ Some name
    pub is : at name ≡ Some a

  address_later : (p : VarRef) (ps : List VarRef) → HasAddress ps → HasAddress (p ∷ ps)
  address_later p ps h = record { index = suc h.index; name = h.name; there = h.there; is = h.is }

  other_by : (p : VarRef) (ps : List VarRef) (m : Memory) (b y : ℕ) → at p ≡ Some b → (c : Bool) → (a == b) ≡ c → (cond c (Holds y) (m a) ≡ m a) ⊎ HasAddress (p ∷ ps)
  other_by p ps m b y is true same = inr (record { index = 0; name = p; there = refl; is = is ∙ ap Some (sym (eqb-true a b same)) })
  other_by p ps m b y is false same = inl refl

  other_word : (p : VarRef) (ps : List VarRef) (m : Memory) (o g : Option ℕ) → at p ≡ o → (with_given o g m a ≡ m a) ⊎ HasAddress (p ∷ ps)
  other_word p ps m None g is = inl refl
  other_word p ps m (Some b) None is = inl refl
  other_word p ps m (Some b) (Some y) is = other_by p ps m b y is (a == b) refl

  both : (p : VarRef) (ps : List VarRef) (x y z : Cell) → x ≡ y → (y ≡ z) ⊎ HasAddress (p ∷ ps) → (x ≡ z) ⊎ HasAddress (p ∷ ps)
  both p ps x y z first (inl second) = inl (first ∙ second)
  both p ps x y z first (inr h) = inr h

  -- memory is the same but where a parameter is
  pub memory_else : (ps : List VarRef) (i : ℕ) (m : Memory) → (given_memory at ps i given m a ≡ m a) ⊎ HasAddress ps
  memory_else [] i m = inl refl
  memory_else (p ∷ ps) i m =
      ⊎_elim (λ same. both p ps (given_memory at ps (suc i) given (with_given (at p) (given i) m) a) (with_given (at p) (given i) m a) (m a) same (other_word p ps m (at p) (given i) refl))
      (λ h. inr (address_later p ps h)) (memory_else ps (suc i) (with_given (at p) (given i) m))

  -- a parameter of these has this address and got this word
  pub record GivenAt (ps : List VarRef) (i x : ℕ) : Type 0 where
    pub name : VarRef
    pub to : GivenTo ps i given name x
    pub is : at name ≡ Some a

  at_later : (p : VarRef) (ps : List VarRef) (i x : ℕ) → GivenAt ps (suc i) x → GivenAt (p ∷ ps) i x
  at_later p ps i x h = record { name = h.name; to = given_later p ps i given h.name x h.to; is = h.is }

  held_by : (p : VarRef) (ps : List VarRef) (i x : ℕ) (m : Memory) (b y : ℕ) → at p ≡ Some b → given i ≡ Some y → (c : Bool) → (a == b) ≡ c → cond c (Holds y) (m a) ≡ Holds x → (m a ≡ Holds x) ⊎ GivenAt (p ∷ ps) i x
  held_by p ps i x m b y at_is given_is true same is =
      inr (record { name = p; to = given_first p ps i given x (given_is ∙ ap Some (same_word is)); is = at_is ∙ ap Some (sym (eqb-true a b same)) })
  held_by p ps i x m b y at_is given_is false same is = inl is

  held_word : (p : VarRef) (ps : List VarRef) (i x : ℕ) (m : Memory) (o g : Option ℕ) → at p ≡ o → given i ≡ g → with_given o g m a ≡ Holds x → (m a ≡ Holds x) ⊎ GivenAt (p ∷ ps) i x
  held_word p ps i x m None g at_is given_is is = inl is
  held_word p ps i x m (Some b) None at_is given_is is = inl is
  held_word p ps i x m (Some b) (Some y) at_is given_is is = held_by p ps i x m b y at_is given_is (a == b) refl is

  -- a word that is there was there, or was given
  pub memory_given : (ps : List VarRef) (i x : ℕ) (m : Memory) → given_memory at ps i given m a ≡ Holds x → (m a ≡ Holds x) ⊎ GivenAt ps i x
  memory_given [] i x m is = inl is
  memory_given (p ∷ ps) i x m is =
      ⊎_elim (λ before. held_word p ps i x m (at p) (given i) refl refl before) (λ h. inr (at_later p ps i x h)) (memory_given ps (suc i) x (with_given (at p) (given i) m) is)
