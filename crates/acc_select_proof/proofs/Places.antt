-- Places that words are written to, words that need no items, and pointers.
use Rattle.std.proofs.Common.{◌≡◌, ℕ, ◌+◌, ◌*◌, ◌^◌, ◌<◌, ◌≤◌, List, ◌∷◌, length, Option, Some, None, refl, sym, ap, ◌∙◌, subst, arith}
use Rattle.c_tree.specs.declared.program.VarRef.{VarRef}
use Rattle.c_tree.specs.declared.program.VarRef.TheVariants.{Scalar, Local, Static}
use Rattle.acc_code.specs.declared.operand.AccOperand.{AccOperand}
use Rattle.acc_code.specs.declared.operand.AccOperand.TheVariants as operand
use Rattle.acc_code.specs.AccTree.{ItemList, end, ◌▸◌}
use Rattle.acc_select.specs.acc_operations.Constants.{place_of}
use Rattle.acc_select.specs.acc_operations.Words.{Word, sacl, fixed}
use Rattle.acc_select.specs.acc_operations.Words as words
use Rattle.acc_select.specs.acc_operations.declared.constant.Shape.{Shape}
use Rattle.acc_select.specs.acc_operations.declared.constant.Shape.TheVariants as shape
use Rattle.acc_select.specs.acc_operations.declared.found.Found.{Found}
use Rattle.acc_select.specs.acc_operations.declared.found.Found.TheVariants.{Fixed, Held}
use Rattle.acc_select.specs.acc_operations.declared.high_half.HighHalf.{HighHalf}
use Rattle.acc_select.specs.Forms.{temporary}
use Rattle.ir_semantics.specs.Parts.{Res, Gives, Finished, TooMany, Fails, Does, after, give, Flow, Next, Broke, Continued, Returned, in_order}
use Rattle.ir_semantics.specs.Outside.{Cell, Nowhere, Unwritten, Holds, Outside}
use Rattle.ir_semantics.specs.TreeRun as tree
use Rattle.ir_semantics.specs.TreeRun.{Tree, need, write_name}
use Rattle.c25_isa.specs.Step.{wrap16}
use Rattle.ir_semantics.specs.AccRows.{Registers, low_half, low_stored, operand_weight}
use Rattle.ir_semantics.specs.AccRun as machine
use Rattle.ir_semantics.specs.AccRun.{Machine, store, store_to, run}
use Rattle.acc_select_proof.proofs.Straights.{ConstantIs, IsSteady}
use Rattle.acc_select_proof.proofs.SelectOperating.{IsNoCount}
use Rattle.acc_select_proof.proofs.Rules.{Ground, Post, Rel, AtEnd, Keeps, outs_of, prefix_trans, run_grows, rel_weaker, last_item}
use Rattle.acc_select_proof.proofs.Words.{has_low}
use Rattle.acc_select_proof.proofs.Following.{InAcc}
use Rattle.acc_select_proof.proofs.Sides.{Side, went, wrote, wrote_memory, pushed}
use Rattle.acc_select_proof.proofs.Valuing.{after_give, fails, same_meaning, Val, FoundVal, WordKeeps, IntoKeeps}
use Rattle.acc_select_proof.proofs.Coding.{IsInside}

module _ (n : Ground) (base : ℕ) where
  -- a word was written, and the registers are these
  pub record Written (ts : List ℕ) (s x : ℕ) (r : Registers) (a : ℕ) (w : Tree) (v : Machine) : Type 0 where
    pub value : a ≡ x
    pub side : Side base ts s w v
    pub registers : v.registers ≡ r

  -- a store to a place, with this pointed to, writes what the tree writes
  pub record Writes (p : Option ℕ) (m : AccOperand) (g : ℕ → Does Tree ℕ) : Type 0 where
    pub by : (ts : List ℕ) (s x : ℕ) (w : Tree) (v : Machine) → x < 65536 → v.registers.pointed ≡ p → Side base ts s w v → Rel (AtEnd (Written ts s x v.registers)) (g x w) (store_to n.context.at m x v)

  cell_written : (c : Cell) (a : ℕ) (ts : List ℕ) (s x : ℕ) (w : Tree) (v : Machine) → x < 65536 → Side base ts s w v → Rel (AtEnd (Written ts s x v.registers)) (tree.write_cell c a x w) (machine.write_cell c a x v)
  cell_written Nowhere a ts s x w v lt h = fails n base (AtEnd (Written ts s x v.registers)) end w v h.outside
  cell_written Unwritten a ts s x w v lt h = record { value = refl; side = wrote_memory base ts s a x w v h lt; registers = refl }
  cell_written (Holds y) a ts s x w v lt h = record { value = refl; side = wrote_memory base ts s a x w v h lt; registers = refl }

  pub memory_written : (a : ℕ) (ts : List ℕ) (s x : ℕ) (w : Tree) (v : Machine) → x < 65536 → Side base ts s w v → Rel (AtEnd (Written ts s x v.registers)) (tree.write_word a x w) (machine.write_word (Some a) x v)
  memory_written a ts s x w v lt h =
      subst (λ (c : Cell). Rel (AtEnd (Written ts s x v.registers)) (tree.write_word a x w) (machine.write_cell c a x v)) (sym (ap (λ (o : Outside). o.memory a) h.outside)) (cell_written (w.outside.memory a) a ts s x w v lt h)

  object_written : (a : Option ℕ) (ts : List ℕ) (s x : ℕ) (w : Tree) (v : Machine) → x < 65536 → Side base ts s w v → Rel (AtEnd (Written ts s x v.registers)) (after (need a w) (λ b. tree.write_word b x)) (machine.write_word a x v)
  object_written None ts s x w v lt h = fails n base (AtEnd (Written ts s x v.registers)) end w v h.outside
  object_written (Some a) ts s x w v lt h = memory_written a ts s x w v lt h

  pub name_writes : (p : Option ℕ) (v : VarRef) → IsInside n base v → Writes p (place_of v) (write_name n.context.at v)
  name_writes p (Scalar k) inside = record { by = λ ts s x w v lt e h. record { value = refl; side = wrote base ts s k x w v h inside lt; registers = refl } }
  name_writes p (Local k) inside = record { by = λ ts s x w v lt e h. object_written (n.context.at (Local k)) ts s x w v lt h }
  name_writes p (Static k) inside = record { by = λ ts s x w v lt e h. object_written (n.context.at (Static k)) ts s x w v lt h }

  pub pointed_writes : (a : ℕ) → Writes (Some a) operand.Pointed (tree.write_word a)
  pointed_writes a = record {
    by = λ ts s x w v lt e h.
        subst (λ p. Rel (AtEnd (Written ts s x v.registers)) (tree.write_word a x w) (machine.write_word p x v)) (sym e) (memory_written a ts s x w v lt h);
  }

  pub name_light : (v : VarRef) → operand_weight (place_of v) ≤ 5
  name_light (Scalar k) = omega arith
  name_light (Local k) = omega arith
  name_light (Static k) = omega arith

  -- a word in the accumulator is stored, and stays there
  written_val : (h : HighHalf) (ts : List ℕ) (s x a : ℕ) (t : Tree) (u : Machine) (r : Registers) → InAcc h x r.acc → x < 65536 → Written ts s x r a t u → Val n base h ts s a t u
  written_val h ts s x a t u r has lt e = record {
    side = e.side;
    has = subst (λ y. InAcc h y u.registers.acc) (sym e.value) (subst (λ (q : Registers). InAcc h x q.acc) (sym e.registers) has);
    word = subst (λ y. y < 65536) (sym e.value) lt;
  }

  pub stored_val : (h : HighHalf) (p : Option ℕ) (m : AccOperand) (g : ℕ → Does Tree ℕ) (ts : List ℕ) (s x : ℕ) (w : Tree) (v : Machine) → Writes p m g → v.registers.pointed ≡ p → Val n base h ts (operand_weight m + s) x w v → Rel (AtEnd (Val n base h ts s)) (g x w) (run n.context (sacl m ▸ end) v)
  stored_val h p m g ts s x w v writes at e =
      let u : Machine = record v { work = v.work + operand_weight m } in
      let word : wrap16 (x * 2 ^ 0) ≡ x = let few = e.word in omega (arith, few) in
      let stored : low_stored (low_half v.registers.acc) 0 ≡ Some x = ap (λ y. low_stored y 0) (has_low h x v.registers.acc e.word e.has.has) ∙ ap Some word in
      subst (λ y. Rel (AtEnd (Val n base h ts s)) (g x w) (after (store n.context.at m y u) (λ flow. in_order flow (give Next)))) (sym stored)
      (subst (Rel (AtEnd (Val n base h ts s)) (g x w)) (last_item (store_to n.context.at m x u))
      (rel_weaker (λ a t z. written_val h ts s x a t z v.registers e.has e.word) (g x w) (store_to n.context.at m x u)
      (writes.by ts s x w u e.word at (went base ts (operand_weight m + s) s (operand_weight m) w v u e.side refl refl e.side.sxm (omega arith) (omega arith)))))

  -- a value that follows whatever was given
  pub given_then : {A B : Type 0} (q : A → Tree → Machine → Type 0) (p : B → Tree → Machine → Type 0) (c : B) → ((a : A) (t : Tree) (u : Machine) → q a t u → p c t u) → (r : Res Tree A) (y : Res Machine Flow) → Rel (AtEnd q) r y → Rel (AtEnd p) (after r (λ _. give c)) y
  given_then q p c k (Gives a t) (Gives Next u) e = k a t u e
  given_then q p c k (Gives a t) (Gives Broke u) e = absurd e
  given_then q p c k (Gives a t) (Gives Continued u) e = absurd e
  given_then q p c k (Gives a t) (Gives Returned u) e = absurd e
  given_then q p c k (Gives a t) (Finished o i j) e = absurd e
  given_then q p c k (Gives a t) (TooMany o) e = absurd e
  given_then q p c k (Gives a t) (Fails o) e = absurd e
  given_then q p c k (Finished i o j) (Gives flow u) e = absurd e
  given_then q p c k (Finished i o j) (Finished i2 o2 j2) e = e
  given_then q p c k (Finished i o j) (TooMany o2) e = absurd e
  given_then q p c k (Finished i o j) (Fails o2) e = absurd e
  given_then q p c k (TooMany o) (Gives flow u) e = absurd e
  given_then q p c k (TooMany o) (Finished i o2 j) e = absurd e
  given_then q p c k (TooMany o) (TooMany o2) e = e
  given_then q p c k (TooMany o) (Fails o2) e = absurd e
  given_then q p c k (Fails o) y e = e

  -- what is written may be taken out of a place by what follows
  pub writes_take : (p : Option ℕ) (m : AccOperand) (g : ℕ → Does Tree ℕ) (ts : List ℕ) (s x : ℕ) (w : Tree) (v : Machine) → Writes p m g → v.registers.pointed ≡ p → x < 65536 → Side base ts s w v
      → Rel (AtEnd (λ _ t u. Side base ts s t u)) (after (g x w) (λ _. give (tt {0}))) (after (store_to n.context.at m x v) (λ flow. in_order flow (give Next)))
  writes_take p m g ts s x w v writes at lt h =
      subst (Rel (AtEnd (λ _ t u. Side base ts s t u)) (after (g x w) (λ _. give tt))) (last_item (store_to n.context.at m x v))
      (given_then (Written ts s x v.registers) (λ _ t u. Side base ts s t u) tt (λ a t u e. e.side) (g x w) (store_to n.context.at m x v) (writes.by ts s x w v lt at h))

  -- a word in the accumulator is stored, and another value given
  pub stored_then : {A : Type 0} (q : A → Tree → Machine → Type 0) (c : A) (h : HighHalf) (p : Option ℕ) (m : AccOperand) (g : ℕ → Does Tree ℕ) (ts : List ℕ) (s x : ℕ) (w : Tree) (v : Machine) → Writes p m g → v.registers.pointed ≡ p → Val n base h ts (operand_weight m + s) x w v
      → ((t : Tree) (u : Machine) → Val n base h ts s x t u → u.registers ≡ v.registers → q c t u) → Rel (AtEnd q) (after (g x w) (λ _. give c)) (run n.context (sacl m ▸ end) v)
  stored_then q c h p m g ts s x w v writes at e k =
      let u : Machine = record v { work = v.work + operand_weight m } in
      let word : wrap16 (x * 2 ^ 0) ≡ x = let few = e.word in omega (arith, few) in
      let stored : low_stored (low_half v.registers.acc) 0 ≡ Some x = ap (λ y. low_stored y 0) (has_low h x v.registers.acc e.word e.has.has) ∙ ap Some word in
      subst (λ y. Rel (AtEnd q) (after (g x w) (λ _. give c)) (after (store n.context.at m y u) (λ flow. in_order flow (give Next)))) (sym stored)
      (subst (Rel (AtEnd q) (after (g x w) (λ _. give c))) (last_item (store_to n.context.at m x u))
      (given_then (Written ts s x v.registers) q c (λ a t z i. k t z (record { side = i.side; has = subst (λ (r : Registers). InAcc h x r.acc) (sym i.registers) e.has; word = e.word }) i.registers) (g x w) (store_to n.context.at m x u)
      (writes.by ts s x w u e.word at (went base ts (operand_weight m + s) s (operand_weight m) w v u e.side refl refl e.side.sxm (omega arith) (omega arith)))))

  -- a word whose expression needs no items: the machine stands still
  pub record Still (f : Does Tree ℕ) (g : Found) : Type 0 where
    pub by : (ts : List ℕ) (s : ℕ) (w : Tree) (v : Machine) → Side base ts s w v → Rel (AtEnd (λ x t u. FoundVal n base g ts s x t u × (u ≡ v))) (f w) (Gives Next v)

  pub still_by : (g : Found) (ts : List ℕ) (s : ℕ) (v : Machine) (r : Res Tree ℕ) → Rel (AtEnd (FoundVal n base g ts s)) r (Gives Next v) → Rel (AtEnd (λ x t u. FoundVal n base g ts s x t u × (u ≡ v))) r (Gives Next v)
  still_by g ts s v (Gives x t) e = (e, refl)
  still_by g ts s v (Finished i o k) e = absurd e
  still_by g ts s v (TooMany o) e = absurd e
  still_by g ts s v (Fails o) e = e

  pub stands_still : (f : Does Tree ℕ) (g : Found) → WordKeeps n base f (λ t. record { items = end; found = g }) → Still f g
  stands_still f g k = record { by = λ ts s w v h. still_by g ts s v (f w) ((k.by ts s).by w v h) }

  -- what follows such a word
  pub on_still : {B : Type 0} (q : ℕ → Tree → Machine → Type 0) (p : Post B) (v : Machine) (r : Res Tree ℕ) (xs : ItemList) (g : ℕ → Does Tree B) → Rel (AtEnd (λ x t u. q x t u × (u ≡ v))) r (Gives Next v) → ((x : ℕ) (t : Tree) → q x t v → Rel p (g x t) (run n.context xs v)) → Rel p (after r g) (run n.context xs v)
  on_still q p v (Gives x t) xs g e next = next x t e.0
  on_still q p v (Finished i o k) xs g e next = absurd e
  on_still q p v (TooMany o) xs g e next = absurd e
  on_still q p v (Fails o) xs g e next = prefix_trans o v.outside.outs (outs_of (run n.context xs v)) e ((run_grows n xs).by v)

  -- what a word needs, by what its expression is
  abbrev pub ShapeKeeps : Shape → Does Tree ℕ → (ℕ → Word) → Type 0
  ShapeKeeps (shape.Constant k) f c = Still f (Fixed k) × ((y : ℕ) → ConstantIs n.context.at k y → IsNoCount k y) × ((t : ℕ) → c t ≡ fixed k)
  ShapeKeeps (shape.Named m) f c = Still f (Held m) × IsSteady m × (operand_weight m ≤ 5) × ((t : ℕ) → c t ≡ words.held end m)
  ShapeKeeps shape.Computed f c = Unit {0}

  -- a word that waits in a temporary
  pub waits : (f : Does Tree ℕ) (c : ℕ → AccOperand → ItemList) → IntoKeeps n base f c → (ts : List ℕ) (s : ℕ) → Keeps n (Side base ts (5 + s)) f (c (base + length ts) (temporary (base + length ts))) (AtEnd (λ x w v. Side base (x ∷ ts) s w v × (x < 65536)))
  waits f c k ts s =
      same_meaning n base (λ w. after_give (f w))
      (k.by (temporary (base + length ts)) ts s give (AtEnd (λ x w v. Side base (x ∷ ts) s w v × (x < 65536))) (λ port. refl) (λ x w v lt h. (pushed base ts s x w v h, lt)))
