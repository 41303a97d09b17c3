-- Items that emission takes, from what is stored before them, and what is stored behind them.
use Rattle.std.proofs.Common.{◌≡◌, refl, sym, subst, ℕ, Bool, true, false, List, [], ◌∷◌, length, Option, ◌<◌}
use Rattle.std.specs.Prelude.{⊤, ◌≢◌, ◌==◌, AllPairs, if◌then◌else◌}
use Rattle.std.proofs.lemmas.Bool.{or_left, or_right}
use Rattle.c_tree.specs.declared.program.VarRef.{VarRef}
use Rattle.acc_code.specs.AccTree.{Item, Op, If, Loop, Switch, Case, Clear, Call, Helper, Break, Continue, ItemList, end, item, ◌▸◌, ◌⧺◌}
use Rattle.acc_code.specs.Emittable as emitted
use Rattle.acc_code.specs.Emittable.{Throughout, Within, IsPlaced, IsPlacedItem, Stored, nothing_stored, stored_by, IsStored, ReadsStored, ReadsStoredWithin, cases_in, counting}
use Rattle.acc_code.specs.Operands.{Taken, No_operand, Read_word, Written_word, Constant8, Constant13, Constant16, taken_by, HasRange, IsTaken}
use Rattle.acc_code.specs.declared.operand.AccOperand.{AccOperand}
use Rattle.acc_code.specs.declared.operand.AccOperand.TheVariants as operand
use Rattle.acc_code.specs.declared.operation.AccOp.{AccOp}

-- what items stand in: so many scalars, cells, parameters and routines, and whether Break and Continue may stand there
pub record Frame : Type 0 where
  pub scalars : ℕ
  pub cells : VarRef → Option ℕ
  pub parameters : ℕ → Option ℕ
  pub helps : Bool
  pub breaks : Bool
  pub continues : Bool

abbrev pub inside : Frame → Bool → Bool → Frame
inside F b c = record { scalars = F.scalars; cells = F.cells; parameters = F.parameters; helps = F.helps; breaks = b; continues = c }

abbrev pub Place : Frame → AccOperand → Type 0
Place F m = emitted.IsPlace F.scalars F.cells F.parameters F.helps m

abbrev pub Fits : Frame → AccOp → AccOperand → Type 0
Fits F o m = emitted.IsOperation F.scalars F.cells F.parameters F.helps o m

abbrev pub Refers : Frame → Item → Type 0
Refers F x = emitted.RefersRight F.scalars F.cells F.parameters F.helps x

abbrev pub Anything : Stored → Type 0
Anything u = ⊤

-- a list from these stores on, and what is so of the stores behind it
abbrev mutual
  pub Passes : Frame → Bool → Stored → ItemList → (Stored → Type 0) → Type 0
  Passes F l w end Q = Q w
  Passes F l w (item (Op o m) xs) Q = Fits F o m × IsStored (taken_by o) m w × Passes F l (stored_by o m w) xs Q
  Passes F l w (item (Helper name) xs) Q = (F.helps ≡ true) × (w 0 ≡ true) × (w 1 ≡ true) × Passes F l nothing_stored xs Q
  Passes F l w (item x xs) Q = PassesItem F l x × Passes F l nothing_stored xs Q

  pub PassesItem : Frame → Bool → Item → Type 0
  PassesItem F l (If test hit miss) = Passes F false nothing_stored hit Anything × Passes F false nothing_stored miss Anything
  PassesItem F l (Loop before body behind last) =
      Passes (inside F true false) false nothing_stored before Anything × Passes (inside F true true) false nothing_stored body Anything
      × Passes (inside F true false) false nothing_stored behind Anything
  PassesItem F l (Switch labels body) =
      AllPairs (λ k m. k ≢ m) labels × (cases_in body ≡ counting 0 (length labels)) × Passes (inside F true F.continues) true nothing_stored body Anything
  PassesItem F l (Clear v from) = Refers F (Clear v from)
  PassesItem F l (Call f) = Refers F (Call f)
  PassesItem F l Break = F.breaks ≡ true
  PassesItem F l Continue = F.continues ≡ true
  PassesItem F l (Case n) = l ≡ true
  PassesItem F l x = ⊤

pub passes_joined : (F : Frame) (l : Bool) (xs ys : ItemList) (w : Stored) (P Q : Stored → Type 0) → Passes F l w xs P → ((u : Stored) → P u → Passes F l u ys Q)
    → Passes F l w (xs ⧺ ys) Q
passes_joined F l end ys w P Q h k = k w h
passes_joined F l (item (Op o m) xs) ys w P Q h k = (h.0, h.1, passes_joined F l xs ys _ P Q h.2 k)
passes_joined F l (item (Helper name) xs) ys w P Q h k = (h.0, h.1, h.2, passes_joined F l xs ys _ P Q h.3 k)
passes_joined F l (item x xs) ys w P Q h k = (h.0, passes_joined F l xs ys _ P Q h.1 k)

pub passes_weaker : (F : Frame) (l : Bool) (xs : ItemList) (w : Stored) (P Q : Stored → Type 0) → Passes F l w xs P → ((u : Stored) → P u → Q u) → Passes F l w xs Q
passes_weaker F l end w P Q h k = k w h
passes_weaker F l (item (Op o m) xs) w P Q h k = (h.0, h.1, passes_weaker F l xs _ P Q h.2 k)
passes_weaker F l (item (Helper name) xs) w P Q h k = (h.0, h.1, h.2, passes_weaker F l xs _ P Q h.3 k)
passes_weaker F l (item x xs) w P Q h k = (h.0, passes_weaker F l xs _ P Q h.1 k)

-- what is said of emittable bodies follows
mutual
  pub refers_right : (F : Frame) (l : Bool) (xs : ItemList) (w : Stored) → Passes F l w xs Anything → Throughout (Refers F) xs
  refers_right F l end w h = tt
  refers_right F l (item (Op o m) xs) w h = (h.0, tt, refers_right F l xs _ h.2)
  refers_right F l (item (Helper name) xs) w h = (h.0, tt, refers_right F l xs _ h.3)
  refers_right F l (item (Clear v from) xs) w h = (h.0, tt, refers_right F l xs _ h.1)
  refers_right F l (item (Call f) xs) w h = (h.0, tt, refers_right F l xs _ h.1)
  refers_right F l (item x xs) w h = (tt, refers_within F l x h.0, refers_right F l xs _ h.1)

  refers_within : (F : Frame) (l : Bool) (x : Item) → PassesItem F l x → Within (Refers F) x
  refers_within F l (If test hit miss) h = (refers_right F false hit _ h.0, refers_right F false miss _ h.1)
  refers_within F l (Loop before body behind last) h = (
    refers_right (inside F true false) false before _ h.0,
    refers_right (inside F true true) false body _ h.1,
    refers_right (inside F true false) false behind _ h.2,
  )
  refers_within F l (Switch labels body) h = refers_right (inside F true F.continues) true body _ h.2
  refers_within F l x h = tt

mutual
  pub jumps_placed : (F : Frame) (l : Bool) (xs : ItemList) (w : Stored) → Passes F l w xs Anything → IsPlaced F.breaks F.continues l xs
  jumps_placed F l end w h = tt
  jumps_placed F l (item (Op o m) xs) w h = (tt, jumps_placed F l xs _ h.2)
  jumps_placed F l (item (Helper name) xs) w h = (tt, jumps_placed F l xs _ h.3)
  jumps_placed F l (item x xs) w h = (placed_item F l x h.0, jumps_placed F l xs _ h.1)

  placed_item : (F : Frame) (l : Bool) (x : Item) → PassesItem F l x → IsPlacedItem F.breaks F.continues l x
  placed_item F l (If test hit miss) h = (jumps_placed F false hit _ h.0, jumps_placed F false miss _ h.1)
  placed_item F l (Loop before body behind last) h = (
    jumps_placed (inside F true false) false before _ h.0,
    jumps_placed (inside F true true) false body _ h.1,
    jumps_placed (inside F true false) false behind _ h.2,
  )
  placed_item F l (Switch labels body) h = (h.0, h.1, jumps_placed (inside F true F.continues) true body _ h.2)
  placed_item F l Break h = h
  placed_item F l Continue h = h
  placed_item F l (Case n) h = h
  placed_item F l x h = tt

mutual
  pub reads_stored : (F : Frame) (l : Bool) (xs : ItemList) (w : Stored) → Passes F l w xs Anything → ReadsStored w xs
  reads_stored F l end w h = tt
  reads_stored F l (item (Op o m) xs) w h = (h.1, reads_stored F l xs _ h.2)
  reads_stored F l (item (Helper name) xs) w h = (h.1, h.2, reads_stored F l xs _ h.3)
  reads_stored F l (item x xs) w h = (reads_within F l x h.0, reads_stored F l xs _ h.1)

  reads_within : (F : Frame) (l : Bool) (x : Item) → PassesItem F l x → ReadsStoredWithin x
  reads_within F l (If test hit miss) h = (reads_stored F false hit _ h.0, reads_stored F false miss _ h.1)
  reads_within F l (Loop before body behind last) h = (
    reads_stored (inside F true false) false before _ h.0,
    reads_stored (inside F true true) false body _ h.1,
    reads_stored (inside F true false) false behind _ h.2,
  )
  reads_within F l (Switch labels body) h = reads_stored (inside F true F.continues) true body _ h.2
  reads_within F l x h = tt

-- no label stands directly among items that may have none
pub no_cases : (F : Frame) (xs : ItemList) (w : Stored) (Q : Stored → Type 0) → Passes F false w xs Q → cases_in xs ≡ []
no_cases F end w Q h = refl
no_cases F (item (Op o m) xs) w Q h = no_cases F xs _ Q h.2
no_cases F (item (Helper name) xs) w Q h = no_cases F xs _ Q h.3
no_cases F (item (Case n) xs) w Q h = absurd (cc h.0)
no_cases F (item x xs) w Q h = no_cases F xs _ Q h.1

-- scratch words that were stored to
abbrev pub Has : List ℕ → Stored → Type 0
Has [] u = ⊤
Has (k ∷ ks) u = (u k ≡ true) × Has ks u

still_stored : (o : AccOp) (m : AccOperand) (w : Stored) (k : ℕ) → w k ≡ true → stored_by o m w k ≡ true
still_stored o (operand.Scratch n) w k h = or_right (k == n) (w k) h
still_stored o m w k h = h

still : (o : AccOp) (m : AccOperand) (w : Stored) (ks : List ℕ) → Has ks w → Has ks (stored_by o m w)
still o m w [] h = tt
still o m w (k ∷ ks) h = (still_stored o m w k h.0, still o m w ks h.1)

-- items that run wherever they stand behind some stores, and the stores that there are behind them
pub record Steps (F : Frame) (ks : List ℕ) (xs : ItemList) (js : List ℕ) : Type 0 where
  pub at : (l : Bool) (w : Stored) → Has ks w → Passes F l w xs (Has js)

pub both : {F : Frame} {ks js is : List ℕ} {xs ys : ItemList} → Steps F ks xs js → Steps F js ys is → Steps F ks (xs ⧺ ys) is
both {F} {ks} {js} {is} {xs} {ys} h k = record { at = λ l w p. passes_joined F l xs ys w (Has js) (Has is) (h.at l w p) (λ u q. k.at l u q) }

pub forgotten : {F : Frame} {ks js : List ℕ} {xs : ItemList} → Steps F ks xs js → Steps F ks xs []
forgotten {F} {ks} {js} {xs} h = record { at = λ l w p. passes_weaker F l xs w (Has js) (Has []) (h.at l w p) (λ u q. tt) }

pub from_nothing : {F : Frame} {ks js : List ℕ} {xs : ItemList} → Steps F [] xs js → Steps F ks xs js
from_nothing h = record { at = λ l w p. h.at l w tt }

pub then_anything : {F : Frame} {ks js is : List ℕ} {xs ys : ItemList} → Steps F ks xs js → Steps F [] ys is → Steps F ks (xs ⧺ ys) is
then_anything h k = both h (from_nothing k)

pub nothing_done : {F : Frame} {ks : List ℕ} → Steps F ks end ks
nothing_done = record { at = λ l w p. p }

-- one operation, and what follows it
operation : {F : Frame} {ks js is : List ℕ} {xs : ItemList} (o : AccOp) (m : AccOperand) → Fits F o m → ((w : Stored) → Has ks w → IsStored (taken_by o) m w)
    → ((w : Stored) → Has ks w → Has js (stored_by o m w)) → Steps F js xs is → Steps F ks (Op o m ▸ xs) is
operation o m fits reads keeps rest = record { at = λ l w p. (fits, reads w p, rest.at l (stored_by o m w) (keeps w p)) }

-- a word of data memory that may be read behind some stores, and one that may be stored to
pub record Readable (F : Frame) (ks : List ℕ) (m : AccOperand) : Type 0 where
  pub taken : IsTaken Read_word m
  pub there : Place F m
  pub stored : (w : Stored) → Has ks w → IsStored Read_word m w

pub record Writable (F : Frame) (m : AccOperand) : Type 0 where
  pub taken : IsTaken Written_word m
  pub there : Place F m

pub anyhow : {F : Frame} {ks : List ℕ} {m : AccOperand} → Readable F [] m → Readable F ks m
anyhow h = record { taken = h.taken; there = h.there; stored = λ w p. h.stored w tt }

pub reading : {F : Frame} {ks js : List ℕ} {m : AccOperand} {xs : ItemList} (o : AccOp) → HasRange o → taken_by o ≡ Read_word → Readable F ks m → Steps F ks xs js
    → Steps F ks (Op o m ▸ xs) js
reading {F} {ks} {js} {m} {xs} o range takes h rest =
    operation o m (record { range = range; taken = subst (λ t. IsTaken t m) (sym takes) h.taken; there = h.there })
    (λ w p. subst (λ t. IsStored t m w) (sym takes) (h.stored w p)) (λ w p. still o m w ks p) rest

written_anyhow : (m : AccOperand) (w : Stored) → IsStored Written_word m w
written_anyhow m w = tt

pub writing : {F : Frame} {ks js : List ℕ} {m : AccOperand} {xs : ItemList} (o : AccOp) → HasRange o → taken_by o ≡ Written_word → Writable F m → Steps F ks xs js
    → Steps F ks (Op o m ▸ xs) js
writing {F} {ks} {js} {m} {xs} o range takes h rest =
    operation o m (record { range = range; taken = subst (λ t. IsTaken t m) (sym takes) h.taken; there = h.there })
    (λ w p. subst (λ t. IsStored t m w) (sym takes) (written_anyhow m w)) (λ w p. still o m w ks p) rest

pub writing_scratch : {F : Frame} {ks js : List ℕ} {xs : ItemList} (o : AccOp) (n : ℕ) → HasRange o → taken_by o ≡ Written_word → n < 15 → (n == n) ≡ true
    → Steps F (n ∷ ks) xs js → Steps F ks (Op o (operand.Scratch n) ▸ xs) js
writing_scratch {F} {ks} {js} {xs} o n range takes few same rest =
    operation o (operand.Scratch n) (record { range = range; taken = subst (λ t. IsTaken t (operand.Scratch n)) (sym takes) tt; there = few })
    (λ w p. subst (λ t. IsStored t (operand.Scratch n) w) (sym takes) (written_anyhow (operand.Scratch n) w))
    (λ w p. (or_left (n == n) (w n) same, still o (operand.Scratch n) w ks p)) rest

never_read : (t : Taken) (n : ℕ) (w : Stored) → IsStored t (operand.Number n) w
never_read No_operand n w = tt
never_read Read_word n w = tt
never_read Written_word n w = tt
never_read Constant8 n w = tt
never_read Constant13 n w = tt
never_read Constant16 n w = tt

-- a constant, or no operand
pub counting_on : {F : Frame} {ks js : List ℕ} {xs : ItemList} (o : AccOp) (n : ℕ) → HasRange o → IsTaken (taken_by o) (operand.Number n) → Steps F ks xs js
    → Steps F ks (Op o (operand.Number n) ▸ xs) js
counting_on o n range taken rest =
    operation o (operand.Number n) (record { range = range; taken = taken; there = tt }) (λ w p. never_read (taken_by o) n w) (λ w p. p) rest

pub addressing : {F : Frame} {ks js : List ℕ} {xs : ItemList} (o : AccOp) (v : VarRef) (n : ℕ) → HasRange o → taken_by o ≡ Constant16 → Place F (operand.Address v n)
    → Steps F ks xs js → Steps F ks (Op o (operand.Address v n) ▸ xs) js
addressing o v n range takes there rest =
    operation o (operand.Address v n) (record { range = range; taken = subst (λ t. IsTaken t (operand.Address v n)) (sym takes) tt; there = there })
    (λ w p. subst (λ t. IsStored t (operand.Address v n) w) (sym takes) tt) (λ w p. p) rest

pub alone : {F : Frame} {ks js : List ℕ} {xs : ItemList} (o : AccOp) → HasRange o → taken_by o ≡ No_operand → Steps F ks xs js → Steps F ks (Op o operand.Nothing ▸ xs) js
alone o range takes rest =
    operation o operand.Nothing (record { range = range; taken = subst (λ t. IsTaken t operand.Nothing) (sym takes) tt; there = tt })
    (λ w p. subst (λ t. IsStored t operand.Nothing w) (sym takes) tt) (λ w p. p) rest

-- one of two
pub either : {F : Frame} {ks js : List ℕ} (b : Bool) {xs ys : ItemList} → (b ≡ true → Steps F ks xs js) → (b ≡ false → Steps F ks ys js)
    → Steps F ks (if b then xs else ys) js
either true h k = h refl
either false h k = k refl

pub scratch_read : {F : Frame} {ks : List ℕ} (n : ℕ) → n < 15 → Readable F (n ∷ ks) (operand.Scratch n)
scratch_read n few = record { taken = tt; there = few; stored = λ w p. p.0 }

pub pointed_read : {F : Frame} {ks : List ℕ} → Readable F ks operand.Pointed
pointed_read = record { taken = tt; there = tt; stored = λ w p. tt }

pub pointed_written : {F : Frame} → Writable F operand.Pointed
pointed_written = record { taken = tt; there = tt }
