-- The code of constants, names and what is pointed to, and what is made of a word or of a truth.
use Rattle.std.proofs.Common.{◌≡◌, ℕ, ◌+◌, ◌<◌, Bool, List, Option, Some, None, refl, ap, ◌∙◌, arith}
use Rattle.c_tree.specs.declared.program.VarRef.{VarRef}
use Rattle.c_tree.specs.declared.program.VarRef.TheVariants.{Scalar, Local, Static}
use Rattle.acc_code.specs.AccTree.{ItemList, end}
use Rattle.acc_code.specs.declared.operand.AccOperand.{AccOperand}
use Rattle.acc_code.specs.declared.operand.AccOperand.TheVariants as operand
use Rattle.acc_select.specs.acc_operations.Constants.{place_of}
use Rattle.acc_select.specs.acc_operations.Words as words
use Rattle.acc_select.specs.acc_operations.Words.{Word, fixed, in_accumulator}
use Rattle.acc_select.specs.acc_operations.declared.constant.Constant.TheVariants.{Number, Address}
use Rattle.acc_select.specs.acc_operations.declared.found.Found.TheVariants.{Fixed, Held}
use Rattle.acc_select.specs.acc_operations.declared.high_half.HighHalf.TheVariants.{Small}
use Rattle.acc_select.specs.Conditions.{Branch, truth_items}
use Rattle.acc_select.specs.Forms.{of_word, of_branch}
use Rattle.ir_semantics.specs.Parts.{Gives, Does, after, give, Next}
use Rattle.ir_semantics.specs.Outside.{Cell, Nowhere, Unwritten, Holds, Outside, word_of, cell_address}
use Rattle.ir_semantics.specs.TreeRun.{Tree, Addresses, need, read_word, read_name, constant_does, address_does, name_does, load_does, as_word, as_truth, as_nothing}
use Rattle.ir_semantics.specs.AccRows.{operand_weight}
use Rattle.ir_semantics.specs.AccRun.{Machine, held, word_at, cell_at}
use Rattle.acc_select_proof.proofs.Rules.{Ground, Rel, AtEnd, Keeps, weaker, followed}
use Rattle.acc_select_proof.proofs.Sides.{Side, paid, spared, some_is}
use Rattle.acc_select_proof.proofs.Valuing.{fails, FoundVal, WordKeeps, BranchKeeps, PointedAt, PointKeeps, CodeKeeps, loaded_keeps, into_loaded, point_loaded}
use Rattle.acc_select_proof.proofs.SelectBranching.{by_word_keeps, looser, truth_keeps, nothing_keeps}

module _ (n : Ground) (base : ℕ) where
  -- what is made of a word
  pub word_code : (f : Does Tree ℕ) (c : ℕ → Word) → WordKeeps n base f c → CodeKeeps n base (as_truth f) f (as_nothing f) (λ t. of_word (c t))
  word_code f c k = record {
    word = k;
    branch = by_word_keeps n base f c k;
    effect_too = record { by = λ ts s. followed n (λ _. give tt) (AtEnd (λ _ w v. Side base ts s w v)) (loaded_keeps n base f c k ts s) (λ x w v p. p.side) };
    into = into_loaded n base f c k;
    point = point_loaded n base f c k;
  }

  -- and of a truth
  truth_word : (f : Does Tree Bool) (b : ℕ → Branch) → BranchKeeps n base 0 2 f b → WordKeeps n base (as_word f) (λ t. in_accumulator (truth_items (b t)) Small)
  truth_word f b k = record {
    by = λ ts s. weaker n (λ x w v p. record { side = spared base ts s (0 + s) w v p.side (omega arith); found = p.has.has; wide = tt; word = p.word }) (truth_keeps n base f b k ts s);
  }

  pub branch_code : (f : Does Tree Bool) (b : ℕ → Branch) → BranchKeeps n base 0 2 f b → CodeKeeps n base f (as_word f) (as_nothing f) (λ t. of_branch (b t))
  branch_code f b k =
      let made = word_code (as_word f) (λ t. in_accumulator (truth_items (b t)) Small) (truth_word f b k) in
      record { word = made.word; branch = looser n base f b k; effect_too = nothing_keeps n base f b k; into = made.into; point = made.point }

  -- constants
  pub constant_word : (w : ℕ) → w < 65536 → WordKeeps n base (constant_does w) (λ t. fixed (Number w))
  constant_word w lt = record { by = λ ts s. record { by = λ u v h. record { side = paid base ts s 2 u v h; found = refl; wide = tt; word = lt } } }

  -- addresses are words
  abbrev pub AreWords : Addresses → Type 0
  AreWords at = (v : VarRef) (a : ℕ) → at v ≡ Some a → a < 65536

  address_by : (v : VarRef) (a : Option ℕ) (ts : List ℕ) (s : ℕ) (u : Tree) (m : Machine) → n.context.at v ≡ a → AreWords n.context.at → Side base ts (2 + s) u m → Rel (AtEnd (FoundVal n base (Fixed (Address v 0)) ts s)) (need a u) (Gives Next m)
  address_by v None ts s u m is words h = fails n base (AtEnd (FoundVal n base (Fixed (Address v 0)) ts s)) end u m h.outside
  address_by v (Some a) ts s u m is words h =
      let lt = words v a is in
      let same : cell_address a 0 ≡ a = omega (arith, lt) in
      record { side = h; found = ap (λ b. cell_at b 0) is ∙ ap Some same; wide = tt; word = lt }

  pub address_word : (v : VarRef) → AreWords n.context.at → WordKeeps n base (address_does (n.context.at v)) (λ t. fixed (Address v 0))
  address_word v words = record { by = λ ts s. record { by = λ u m h. address_by v (n.context.at v) ts s (record u { work = u.work + 2 }) m refl words (paid base ts s 2 u m h) } }

  -- names
  scalar_by : (k : ℕ) (x : Option ℕ) (ts : List ℕ) (s : ℕ) (u : Tree) (m : Machine) → k < base → u.frame k ≡ x → Side base ts (5 + s) u m → Rel (AtEnd (FoundVal n base (Held (operand.Scalar k)) ts s)) (need x u) (Gives Next m)
  scalar_by k None ts s u m lt is h = fails n base (AtEnd (FoundVal n base (Held (operand.Scalar k)) ts s)) end u m h.outside
  scalar_by k (Some x) ts s u m lt is h = record { side = h; found = h.frame k x lt is; wide = tt; word = h.scalars k x is }

  word_is : (c : Cell) (x : ℕ) → word_of c ≡ Some x → c ≡ Holds x
  word_is Nowhere x e = cc
  word_is Unwritten x e = cc
  word_is (Holds y) x e = ap Holds (some_is e)

  -- a word of memory, which is held where the machine looks for it
  memory_by : (o : AccOperand) (a : ℕ) (x : Option ℕ) (ts : List ℕ) (s : ℕ) (u : Tree) (m : Machine) → word_of (u.outside.memory a) ≡ x → ((y : ℕ) → x ≡ Some y → held n.context.at o m ≡ Some y) → Side base ts (operand_weight o + s) u m → Rel (AtEnd (FoundVal n base (Held o) ts s)) (need x u) (Gives Next m)
  memory_by o a None ts s u m is there h = fails n base (AtEnd (FoundVal n base (Held o) ts s)) end u m h.outside
  memory_by o a (Some x) ts s u m is there h = record { side = h; found = there x refl; wide = tt; word = h.words.memory a x (word_is (u.outside.memory a) x is) }

  object_by : (v : VarRef) (a : Option ℕ) (ts : List ℕ) (s : ℕ) (u : Tree) (m : Machine) → n.context.at v ≡ a → Side base ts (2 + s) u m → Rel (AtEnd (FoundVal n base (Held (operand.Direct v)) ts s)) (after (need a u) read_word) (Gives Next m)
  object_by v None ts s u m is h = fails n base (AtEnd (FoundVal n base (Held (operand.Direct v)) ts s)) end u m h.outside
  object_by v (Some a) ts s u m is h =
      memory_by (operand.Direct v) a (word_of (u.outside.memory a)) ts s u m refl
      (λ y e. ap (λ b. word_at b m.outside.memory) is ∙ ap (λ (o : Outside). word_of (o.memory a)) h.outside ∙ e) h

  -- a frame's scalars have numbers below that of the first temporary
  abbrev pub IsInside : VarRef → Type 0
  IsInside (Scalar k) = k < base
  IsInside (Local k) = Unit {0}
  IsInside (Static k) = Unit {0}

  -- the name pays 5
  pub name_read : (v : VarRef) → IsInside v → (ts : List ℕ) (s : ℕ) → Keeps n (Side base ts (5 + s)) (read_name n.context.at v) end (AtEnd (FoundVal n base (Held (place_of v)) ts s))
  name_read (Scalar k) lt ts s = record { by = λ u m h. scalar_by k (u.frame k) ts s u m lt refl h }
  name_read (Local k) inside ts s = record { by = λ u m h. object_by (Local k) (n.context.at (Local k)) ts s u m refl (spared base ts (5 + s) (2 + s) u m h (omega arith)) }
  name_read (Static k) inside ts s = record { by = λ u m h. object_by (Static k) (n.context.at (Static k)) ts s u m refl (spared base ts (5 + s) (2 + s) u m h (omega arith)) }

  name_held : (v : VarRef) → (ts : List ℕ) (s : ℕ) → Keeps n (Side base ts (5 + s)) (read_name n.context.at v) end (AtEnd (FoundVal n base (Held (place_of v)) ts s)) → Keeps n (Side base ts s) (name_does n.context.at v) end (AtEnd (FoundVal n base (Held (place_of v)) ts s))
  name_held v ts s k = record { by = λ u m h. k.by (record u { work = u.work + 5 }) m (paid base ts s 5 u m h) }

  pub name_word : (v : VarRef) → IsInside v → WordKeeps n base (name_does n.context.at v) (λ t. words.held end (place_of v))
  name_word v inside = record { by = λ ts s. name_held v ts s (name_read v inside ts s) }

  pub pointed_read : (a : ℕ) (ts : List ℕ) (s : ℕ) → Keeps n (PointedAt n base ts (2 + s) a) (read_word a) end (AtEnd (FoundVal n base (Held operand.Pointed) ts s))
  pointed_read a ts s = record {
    by = λ w v q.
        memory_by operand.Pointed a (word_of (w.outside.memory a)) ts s w v refl
        (λ y e. ap (λ b. word_at b v.outside.memory) q.pointed ∙ ap (λ (o : Outside). word_of (o.memory a)) q.side.outside ∙ e) q.side;
  }

  -- what is pointed to
  pub load_word : (p : Does Tree ℕ) (xs : ℕ → ItemList) → PointKeeps n base p xs → WordKeeps n base (load_does p) (λ t. words.held (xs t) operand.Pointed)
  load_word p xs k = record {
    by = λ ts s. record {
      by = λ u m h.
          (followed n read_word (AtEnd (FoundVal n base (Held operand.Pointed) ts s)) (k.by ts (2 + s)) (λ a w v q.
          memory_by operand.Pointed a (word_of (w.outside.memory a)) ts s w v refl
          (λ y e. ap (λ b. word_at b v.outside.memory) q.pointed ∙ ap (λ (o : Outside). word_of (o.memory a)) q.side.outside ∙ e) q.side)).by
          (record u { work = u.work + 5 }) m (spared base ts (5 + s) (3 + (2 + s)) (record u { work = u.work + 5 }) m (paid base ts s 5 u m h) (omega arith));
    };
  }
