-- What it is that the code of an expression keeps: for its word, as a condition, where the value isn't used, stored to a place, and as the address of
-- what is pointed to.
use Rattle.std.proofs.Common.{◌≡◌, ℕ, ◌+◌, ◌*◌, ◌^◌, ◌<◌, ◌≤◌, Bool, true, false, List, length, Option, Some, refl, sym, ap, ◌∙◌, subst, arith}
use Rattle.word_base.specs.Ports.{Prefix}
use Rattle.acc_code.specs.declared.operand.AccOperand.{AccOperand}
use Rattle.acc_code.specs.declared.operation.Test.{Test}
use Rattle.acc_code.specs.AccTree.{If, ItemList, end, ◌▸◌, ◌⧺◌}
use Rattle.acc_select.specs.acc_operations.Words.{Word, load, high, loaded, sacl}
use Rattle.acc_select.specs.acc_operations.declared.found.Found.{Found}
use Rattle.acc_select.specs.acc_operations.declared.high_half.HighHalf.{HighHalf}
use Rattle.acc_select.specs.Conditions.{Part, part_items, Branch}
use Rattle.acc_select.specs.Forms as form
use Rattle.acc_select.specs.Forms.{Code}
use Rattle.c25_isa.specs.Step.{wrap16}
use Rattle.ir_semantics.specs.Parts.{Res, Gives, Finished, TooMany, Fails, Does, after, ◌>>=◌, give, choose, Flow, Next, in_order}
use Rattle.ir_semantics.specs.Outside.{Outside}
use Rattle.ir_semantics.specs.TreeRun.{Tree}
use Rattle.ir_semantics.specs.AccRows.{Registers, low_half, whole_of, low_stored, points_at, operand_weight}
use Rattle.ir_semantics.specs.AccRun.{Machine, input_ends, missing, store, store_to, registers_become, without_scratch, forgetting, tested, run_item, run}
use Rattle.acc_select_proof.proofs.Straights.{FoundHas, found_weight, Straight}
use Rattle.acc_select_proof.proofs.Rules.{Ground, Post, Rel, AtEnd, Keeps, seq, outs_of, behind, prefix_refl, run_grows, last_item, Grows}
use Rattle.acc_select_proof.proofs.Sides.{Side, went, straight}
use Rattle.acc_select_proof.proofs.Words.{has_low}
pub use Rattle.acc_select_proof.proofs.Testing.{of_sense, IsTest}
use Rattle.acc_select_proof.proofs.Following.{InAcc, IsFound, Becomes, brought}

-- laws of parts of runs
pub after_after : {S A B C : Type 0} (r : Res S A) (f : A → Does S B) (g : B → Does S C) → after r (λ a w. after (f a w) g) ≡ after (after r f) g
after_after (Gives a w) f g = refl
after_after (Finished e o k) f g = refl
after_after (TooMany o) f g = refl
after_after (Fails o) f g = refl

pub after_give : {S A : Type 0} (r : Res S A) → after r give ≡ r
after_give (Gives a w) = refl
after_give (Finished e o k) = refl
after_give (TooMany o) = refl
after_give (Fails o) = refl

pub after_same : {S A B : Type 0} (r : Res S A) (f g : A → Does S B) → ((a : A) (w : S) → f a w ≡ g a w) → after r f ≡ after r g
after_same (Gives a w) f g e = e a w
after_same (Finished p o k) f g e = refl
after_same (TooMany o) f g e = refl
after_same (Fails o) f g e = refl

-- nothing that it says is of scratch words
abbrev pub Stable : {A : Type 0} → Post A → Type 0
Stable {A} q = (a : A) (flow : Flow) (w : Tree) (v : Machine) → q a flow w v → q a flow w (without_scratch v)

forget_grows : (flow : Flow) → Grows (forgetting flow)
forget_grows flow = record { by = λ v. prefix_refl v.outside.outs }

pub rel_forget : {A : Type 0} (q : Post A) (x : Res Tree A) (y : Res Machine Flow) → Stable q → Rel q x y → Rel q x (after y forgetting)
rel_forget q (Gives a w) (Gives flow v) s e = s a flow w v e
rel_forget q (Gives a w) (Finished p o k) s e = absurd e
rel_forget q (Gives a w) (TooMany o) s e = absurd e
rel_forget q (Gives a w) (Fails o) s e = absurd e
rel_forget q (Finished p o k) (Gives flow v) s e = absurd e
rel_forget q (Finished p o k) (Finished p2 o2 k2) s e = e
rel_forget q (Finished p o k) (TooMany o2) s e = absurd e
rel_forget q (Finished p o k) (Fails o2) s e = absurd e
rel_forget q (TooMany o) (Gives flow v) s e = absurd e
rel_forget q (TooMany o) (Finished p o2 k) s e = absurd e
rel_forget q (TooMany o) (TooMany o2) s e = e
rel_forget q (TooMany o) (Fails o2) s e = absurd e
rel_forget q (Fails o) y s e = behind o y forgetting e forget_grows

-- a place where a missing input ends the run, whatever is known of pointers
abbrev pub IsSure : AccOperand → Type 0
IsSure m = (port : ℕ) → missing m port ≡ input_ends port

module _ (n : Ground) (base : ℕ) where
  -- rules
  pub same_meaning : {A : Type 0} {p : Tree → Machine → Type 0} {f g : Does Tree A} {xs : ItemList} {q : Post A} → ((w : Tree) → f w ≡ g w) → Keeps n p f xs q → Keeps n p g xs q
  same_meaning {xs = xs} {q = q} e k = record { by = λ w v h. subst (λ r. Rel q r (run n.context xs v)) (e w) (k.by w v h) }

  pub sooner : {A : Type 0} {p p2 : Tree → Machine → Type 0} {f : Does Tree A} {xs : ItemList} {q : Post A} → ((w : Tree) (v : Machine) → p2 w v → p w v) → Keeps n p f xs q → Keeps n p2 f xs q
  sooner e k = record { by = λ w v h. k.by w v (e w v h) }

  -- one behind another, where more follows
  pub seq_in : {A B C : Type 0} {p : Tree → Machine → Type 0} {f : Does Tree A} {xs ys : ItemList} {q : A → Tree → Machine → Type 0} {r : Post C} (g : A → Does Tree B) (h : B → Does Tree C) → Keeps n p f xs (AtEnd q) → ((a : A) → Keeps n (q a) (g a >>= h) ys r) → Keeps n p ((f >>= g) >>= h) (xs ⧺ ys) r
  seq_in {f = f} g h k l = same_meaning (λ w. after_after (f w) g h) (seq n k l)

  pub fails : {A : Type 0} (q : Post A) (xs : ItemList) (w : Tree) (v : Machine) → v.outside ≡ w.outside → Rel q (Fails w.outside.outs) (run n.context xs v)
  fails q xs w v e = subst (λ (o : Outside). Prefix o.outs (outs_of (run n.context xs v))) e ((run_grows n xs).by v)

  -- straight items leave this
  pub arrives : {A : Type 0} (q : A → Tree → Machine → Type 0) (a : A) (w : Tree) (v : Machine) (xs : ItemList) (k : ℕ) (p : Machine → Type 0) (s : Straight n.context xs v k p) → q a w s.to → Rel (AtEnd q) (Gives a w) (run n.context xs v)
  arrives q a w v xs k p s h = subst (Rel (AtEnd q) (Gives a w)) (sym s.runs) h

  -- a word that a run gave: in the accumulator, or where it was found
  pub record Val (h : HighHalf) (ts : List ℕ) (s x : ℕ) (w : Tree) (v : Machine) : Type 0 where
    pub side : Side base ts s w v
    pub has : InAcc h x v.registers.acc
    pub word : x < 65536

  pub record FoundVal (f : Found) (ts : List ℕ) (s x : ℕ) (w : Tree) (v : Machine) : Type 0 where
    pub side : Side base ts (found_weight f + s) w v
    pub found : FoundHas n.context.at f x v
    pub wide : IsFound f v
    pub word : x < 65536

  pub record WordKeeps (f : Does Tree ℕ) (c : ℕ → Word) : Type 1 where
    pub by : (ts : List ℕ) (s : ℕ) → Keeps n (Side base ts s) f (c (base + length ts)).items (AtEnd (FoundVal (c (base + length ts)).found ts s))

  -- what runs one of two parts; it costs at most j, and at least k of what its nodes pay are left
  pub record BranchKeeps (j k : ℕ) (f : Does Tree Bool) (c : ℕ → Branch) : Type 1 where
    pub by : {A : Type 0} (ts : List ℕ) (s r : ℕ) → r + j ≤ s + k → (sense : Bool) (hit miss : Part) (g l : Does Tree A) (q : Post A) → Stable q
        → Keeps n (Side base ts r) g (part_items hit) q → Keeps n (Side base ts r) l (part_items miss) q
        → Keeps n (Side base ts s) (f >>= λ t. choose (of_sense sense t) g l) (c (base + length ts) sense hit miss) q

  pub record EffectKeeps (f : Does Tree (Unit {0})) (xs : ℕ → ItemList) : Type 1 where
    pub by : (ts : List ℕ) (s : ℕ) → Keeps n (Side base ts s) f (xs (base + length ts)) (AtEnd (λ _ w v. Side base ts s w v))

  -- what follows takes a word out of a place
  abbrev pub Takes : {B : Type 0} → AccOperand → (ℕ → Does Tree B) → Post B → List ℕ → ℕ → Type 0
  Takes m g q ts s = (x : ℕ) (w : Tree) (v : Machine) → x < 65536 → Side base ts s w v → Rel q (g x w) (after (store_to n.context.at m x v) (λ flow. in_order flow (give Next)))

  pub record IntoKeeps (f : Does Tree ℕ) (c : ℕ → AccOperand → ItemList) : Type 1 where
    pub by : {B : Type 0} (m : AccOperand) (ts : List ℕ) (s : ℕ) (g : ℕ → Does Tree B) (q : Post B) → IsSure m → Takes m g q ts s → Keeps n (Side base ts (operand_weight m + s)) (f >>= g) (c (base + length ts) m) q

  pub record PointedAt (ts : List ℕ) (s x : ℕ) (w : Tree) (v : Machine) : Type 0 where
    pub side : Side base ts s w v
    pub pointed : v.registers.pointed ≡ Some x
    pub word : x < 65536

  pub record PointKeeps (f : Does Tree ℕ) (xs : ℕ → ItemList) : Type 1 where
    pub by : (ts : List ℕ) (s : ℕ) → Keeps n (Side base ts (3 + s)) f (xs (base + length ts)) (AtEnd (PointedAt ts s))

  pub record CodeKeeps (truth : Does Tree Bool) (value : Does Tree ℕ) (effect : Does Tree (Unit {0})) (c : ℕ → Code) : Type 1 where
    pub word : WordKeeps value (λ t. (c t).word)
    pub branch : BranchKeeps 6 0 truth (λ t. (c t).branch)
    pub effect_too : EffectKeeps effect (λ t. (c t).effect)
    pub into : IntoKeeps value (λ t m. (c t).into m)
    pub point : PointKeeps value (λ t. (c t).point)

  -- what is found is loaded
  pub loaded_val : (f : Found) (ts : List ℕ) (s x : ℕ) (w : Tree) (v : Machine) → FoundVal f ts s x w v → Rel (AtEnd (Val (high f) ts s)) (Gives x w) (run n.context (load f) v)
  loaded_val f ts s x w v p =
      let r = brought n.context f x v p.found p.wide p.side.sxm p.word in
      arrives (Val (high f) ts s) x w v (load f) (found_weight f) (Becomes (InAcc (high f) x) v) r
      (record { side = straight base n ts (found_weight f + s) s (found_weight f) w v (load f) (Becomes (InAcc (high f) x) v) p.side r (omega arith); has = r.then_so.acc; word = p.word })

  pub loaded_keeps : (f : Does Tree ℕ) (c : ℕ → Word) → WordKeeps f c → (ts : List ℕ) (s : ℕ) → Keeps n (Side base ts s) f (loaded (c (base + length ts))) (AtEnd (Val (high (c (base + length ts)).found) ts s))
  loaded_keeps f c k ts s = same_meaning (λ w. after_give (f w)) (seq n (k.by ts s) (λ x. record { by = λ w v p. loaded_val (c (base + length ts)).found ts s x w v p }))

  -- a word in the accumulator is stored
  pub sacl_takes : {B : Type 0} (h : HighHalf) (m : AccOperand) (ts : List ℕ) (s x : ℕ) (g : ℕ → Does Tree B) (q : Post B) → Takes m g q ts s → (w : Tree) (v : Machine) → Val h ts (operand_weight m + s) x w v → Rel q (g x w) (run n.context (sacl m ▸ end) v)
  sacl_takes h m ts s x g q takes w v p =
      let u : Machine = record v { work = v.work + operand_weight m } in
      let word : wrap16 (x * 2 ^ 0) ≡ x = let few = p.word in omega (arith, few) in
      let stored : low_stored (low_half v.registers.acc) 0 ≡ Some x = ap (λ y. low_stored y 0) (has_low h x v.registers.acc p.word p.has.has) ∙ ap Some word in
      subst (λ y. Rel q (g x w) (after (store n.context.at m y u) (λ flow. in_order flow (give Next)))) (sym stored)
      (takes x w u p.word (went base ts (operand_weight m + s) s (operand_weight m) w v u p.side refl refl p.side.sxm (omega arith) (omega arith)))

  pub into_loaded : (f : Does Tree ℕ) (c : ℕ → Word) → WordKeeps f c → IntoKeeps f (λ t m. loaded (c t) ⧺ sacl m ▸ end)
  into_loaded f c k = record { by = λ m ts s g q sure takes. seq n (loaded_keeps f c k ts (operand_weight m + s)) (λ x. record { by = λ w v p. sacl_takes (high (c (base + length ts)).found) m ts s x g q takes w v p }) }

  -- a word in the accumulator becomes what is pointed to
  point_val : (h : HighHalf) (ts : List ℕ) (s x : ℕ) (w : Tree) (v : Machine) → Val h ts (3 + s) x w v → Rel (AtEnd (PointedAt ts s)) (Gives x w) (run n.context (form.point ▸ end) v)
  point_val h ts s x w v p =
      let u : Machine = record v { work = v.work + 3 } in
      let low : low_half v.registers.acc ≡ Some x = has_low h x v.registers.acc p.word p.has.has in
      subst (λ r. Rel (AtEnd (PointedAt ts s)) (Gives x w) (after (registers_become r u) (λ flow. in_order flow (give Next)))) (ap (λ y. points y) (sym low))
      (record { side = went base ts (3 + s) s 3 w v (record u { registers = record v.registers { pointed = Some x } }) p.side refl refl p.side.sxm (omega arith) (omega arith); pointed = refl; word = p.word })
    where
      points : Option ℕ → Option Registers
      points y = points_at y v.registers

  pub point_loaded : (f : Does Tree ℕ) (c : ℕ → Word) → WordKeeps f c → PointKeeps f (λ t. loaded (c t) ⧺ form.point ▸ end)
  point_loaded f c k = record { by = λ ts s. same_meaning (λ w. after_give (f w)) (seq n (loaded_keeps f c k ts (3 + s)) (λ x. record { by = λ w v p. point_val (high (c (base + length ts)).found) ts s x w v p })) }

  -- one of two parts, by a test
  choose_rel : {A : Type 0} (q : Post A) (b : Bool) (g l : Does Tree A) (hit miss : Does Machine Flow) (w : Tree) (u : Machine) → Rel q (g w) (hit u) → Rel q (l w) (miss u) → Rel q (choose b g l w) (choose b hit miss u)
  choose_rel q true g l hit miss w u x y = x
  choose_rel q false g l hit miss w u x y = y

  pub if_keeps : {A : Type 0} (ts : List ℕ) (s r : ℕ) (t : Test) (b : Bool) (hit miss : ItemList) (g l : Does Tree A) (q : Post A) (w : Tree) (v : Machine) → Stable q → Keeps n (Side base ts r) g hit q → Keeps n (Side base ts r) l miss q → IsTest t b v.registers.acc → Side base ts s w v → 4 + r ≤ s
      → Rel q (choose b g l w) (run n.context (If t hit miss ▸ end) v)
  if_keeps ts s r t b hit miss g l q w v stable kg kl i h le =
      let v4 : Machine = without_scratch (record v { work = v.work + 4 }) in
      let hu : Side base ts r w v4 = went base ts s r 4 w v v4 h refl refl h.sxm (omega arith) le in
      let asked : tested t (whole_of v.registers.acc) (run n.context hit) (run n.context miss) v4 ≡ choose b (run n.context hit) (run n.context miss) v4 =
      ap (λ a. tested t (whole_of a) (run n.context hit) (run n.context miss) v4) i.is ∙ ap (λ c. choose c (run n.context hit) (run n.context miss) v4) i.holds_so in
      subst (Rel q (choose b g l w)) (last_item (run_item n.context (If t hit miss) v))
      (rel_forget q (choose b g l w) (tested t (whole_of v.registers.acc) (run n.context hit) (run n.context miss) v4) stable
      (subst (Rel q (choose b g l w)) (sym asked) (choose_rel q b g l (run n.context hit) (run n.context miss) w v4 (kg.by w v4 hu) (kl.by w v4 hu))))
