-- The two states side by side, and what straight items do to them.
use Rattle.std.proofs.Common.{◌≡◌, ℕ, ◌+◌, ◌<◌, ◌≤◌, Bool, true, false, List, [], ◌∷◌, length, Some, refl, sym, ap, ◌∙◌, subst, arith}
use Rattle.std.specs.Prelude.{◌==◌, cond}
use Rattle.std.proofs.lemmas.Bool.{eq-eqb, ne_eqb}
use Rattle.word_base.specs.Ports.{IsInput}
use Rattle.acc_code.specs.AccTree.{ItemList, ◌⧺◌}
use Rattle.ir_semantics.specs.Parts.{Res, after, in_order}
use Rattle.ir_semantics.specs.Outside.{Holds, Memory, Outside, Frame, with_scalar, with_word, with_memory}
use Rattle.ir_semantics.specs.TreeRun.{Tree}
use Rattle.ir_semantics.specs.AccRun.{Machine, run}
use Rattle.acc_select_proof.proofs.Straights.{Straight, run_append}
use Rattle.acc_select_proof.proofs.Rules.{Ground, Post, Rel}

pub some_is : {A : Type 0} {x y : A} → Some x ≡ Some y → x ≡ y
some_is e = cc

-- words put into a frame
pub put_here : (f : Frame) (k x : ℕ) → with_scalar k x f k ≡ Some x
put_here f k x = ap (λ b. cond b (Some x) (f k)) (eq-eqb k k refl)

pub put_apart : (f : Frame) (k x i : ℕ) → (i ≡ k → ⊥) → with_scalar k x f i ≡ f i
put_apart f k x i ne = ap (λ b. cond b (Some x) (f i)) (ne_eqb i k ne)

-- what is outside has words alone
pub record HasWords (o : Outside) : Type 0 where
  pub memory : (a x : ℕ) → o.memory a ≡ Holds x → x < 65536
  pub input : IsInput o.input

holds_is : {x y : ℕ} → Holds x ≡ Holds y → x ≡ y
holds_is e = cc

word_put : (m : Memory) (a x b y : ℕ) → x < 65536 → ((c z : ℕ) → m c ≡ Holds z → z < 65536) → (t : Bool) → (b == a) ≡ t → with_word a x m b ≡ Holds y → y < 65536
word_put m a x b y few h true e is = subst (λ z. z < 65536) (holds_is (sym (ap (λ t. cond t (Holds x) (m b)) e) ∙ is)) few
word_put m a x b y few h false e is = h b y (sym (ap (λ t. cond t (Holds x) (m b)) e) ∙ is)

pub words_with : (o : Outside) (a x : ℕ) → x < 65536 → HasWords o → HasWords (with_memory (with_word a x o.memory) o)
words_with o a x few h = record { memory = λ b y is. word_put o.memory a x b y few h.memory (b == a) refl is; input = h.input }

module _ (base : ℕ) where
  -- the temporaries that are in use, the last one first
  abbrev pub Temps : List ℕ → Frame → Type 0
  Temps [] f = Unit {0}
  Temps (x ∷ ts) f = (f (base + length ts) ≡ Some x) × Temps ts f

  -- two states side by side, with so much work to spare
  pub record Side (ts : List ℕ) (s : ℕ) (w : Tree) (v : Machine) : Type 0 where
    -- what a scalar of the tree holds, the machine's holds; where it isn't written anything may stand
    pub frame : (k x : ℕ) → k < base → w.frame k ≡ Some x → v.frame k ≡ Some x
    pub scalars : (k x : ℕ) → w.frame k ≡ Some x → x < 65536
    pub temps : Temps ts v.frame
    pub outside : v.outside ≡ w.outside
    pub words : HasWords w.outside
    pub sxm : v.registers.sxm ≡ Some true
    pub work : v.work + s ≤ w.work

  temps_past : (ts : List ℕ) (f : Frame) (k x : ℕ) → base + length ts ≤ k → Temps ts f → Temps ts (with_scalar k x f)
  temps_past [] f k x le h = tt
  temps_past (y ∷ ts) f k x le h = (put_apart f k x (base + length ts) (λ e. omega arith) ∙ h.0, temps_past ts f k x (omega arith) h.1)

  temps_below : (ts : List ℕ) (f : Frame) (k x : ℕ) → k < base → Temps ts f → Temps ts (with_scalar k x f)
  temps_below [] f k x lt h = tt
  temps_below (y ∷ ts) f k x lt h = (put_apart f k x (base + length ts) (λ e. omega arith) ∙ h.0, temps_below ts f k x lt h.1)

  -- the machine went on without a change of its frame
  pub went : (ts : List ℕ) (s t k : ℕ) (w : Tree) (v u : Machine) → Side ts s w v → u.frame ≡ v.frame → u.outside ≡ v.outside → u.registers.sxm ≡ Some true → u.work ≤ v.work + k → k + t ≤ s → Side ts t w u
  went ts s t k w v u h f o x e le = record {
    frame = λ i y lt e. ap (λ g. g i) f ∙ h.frame i y lt e;
    scalars = h.scalars;
    temps = subst (Temps ts) (sym f) h.temps;
    outside = o ∙ h.outside;
    words = h.words;
    sxm = x;
    work = omega (arith, h.work);
  }

  pub straight : (n : Ground) (ts : List ℕ) (s t k : ℕ) (w : Tree) (v : Machine) (xs : ItemList) (p : Machine → Type 0) → Side ts s w v → (r : Straight n.context xs v k p) → k + t ≤ s → Side ts t w r.to
  straight n ts s t k w v xs p h r le = went ts s t k w v r.to h r.frame r.outside r.sxm r.work le

  -- a node counts
  pub paid : (ts : List ℕ) (s k : ℕ) (w : Tree) (v : Machine) → Side ts s w v → Side ts (k + s) (record w { work = w.work + k }) v
  paid ts s k w v h = record { frame = h.frame; scalars = h.scalars; temps = h.temps; outside = h.outside; words = h.words; sxm = h.sxm; work = omega (arith, h.work) }

  pub spared : (ts : List ℕ) (s t : ℕ) (w : Tree) (v : Machine) → Side ts s w v → t ≤ s → Side ts t w v
  spared ts s t w v h le = record { frame = h.frame; scalars = h.scalars; temps = h.temps; outside = h.outside; words = h.words; sxm = h.sxm; work = omega (arith, h.work) }

  -- a temporary is stored to, and given back
  pub pushed : (ts : List ℕ) (s x : ℕ) (w : Tree) (v : Machine) → Side ts s w v → Side (x ∷ ts) s w (record v { frame = with_scalar (base + length ts) x v.frame })
  pushed ts s x w v h = record {
    frame = λ i y lt e. put_apart v.frame (base + length ts) x i (λ e. omega arith) ∙ h.frame i y lt e;
    scalars = h.scalars;
    temps = (put_here v.frame (base + length ts) x, temps_past ts v.frame (base + length ts) x (omega arith) h.temps);
    outside = h.outside;
    words = h.words;
    sxm = h.sxm;
    work = h.work;
  }

  pub popped : (x : ℕ) (ts : List ℕ) (s : ℕ) (w : Tree) (v : Machine) → Side (x ∷ ts) s w v → Side ts s w v
  popped x ts s w v h = record { frame = h.frame; scalars = h.scalars; temps = h.temps.1; outside = h.outside; words = h.words; sxm = h.sxm; work = h.work }

  put_word : (f : Frame) (k x : ℕ) → x < 65536 → ((i y : ℕ) → f i ≡ Some y → y < 65536) → (i y : ℕ) (b : Bool) → (i == k) ≡ b → with_scalar k x f i ≡ Some y → y < 65536
  put_word f k x lt h i y true e g = subst (λ z. z < 65536) (some_is (sym (ap (λ b. cond b (Some x) (f i)) e) ∙ g)) lt
  put_word f k x lt h i y false e g = h i y (sym (ap (λ b. cond b (Some x) (f i)) e) ∙ g)

  same_put : (f g : Frame) (k x i y : ℕ) (b : Bool) → (g i ≡ Some y → f i ≡ Some y) → cond b (Some x) (g i) ≡ Some y → cond b (Some x) (f i) ≡ Some y
  same_put f g k x i y true e h = h
  same_put f g k x i y false e h = e h

  -- a scalar is written
  pub wrote : (ts : List ℕ) (s k x : ℕ) (w : Tree) (v : Machine) → Side ts s w v → k < base → x < 65536 → Side ts s (record w { frame = with_scalar k x w.frame }) (record v { frame = with_scalar k x v.frame })
  wrote ts s k x w v h lt fits = record {
    frame = λ i y below e. same_put v.frame w.frame k x i y (i == k) (h.frame i y below) e;
    scalars = λ i y e. put_word w.frame k x fits h.scalars i y (i == k) refl e;
    temps = temps_below ts v.frame k x lt h.temps;
    outside = h.outside;
    words = h.words;
    sxm = h.sxm;
    work = h.work;
  }

  -- a word of memory is written
  pub wrote_memory : (ts : List ℕ) (s a x : ℕ) (w : Tree) (v : Machine) → Side ts s w v → x < 65536
      → Side ts s (record w { outside = with_memory (with_word a x w.outside.memory) w.outside }) (record v { outside = with_memory (with_word a x v.outside.memory) v.outside })
  wrote_memory ts s a x w v h fits = record {
    frame = h.frame;
    scalars = h.scalars;
    temps = h.temps;
    outside = ap (λ (o : Outside). with_memory (with_word a x o.memory) o) h.outside;
    words = words_with w.outside a x fits h.words;
    sxm = h.sxm;
    work = h.work;
  }

-- what follows straight items
pub on : (n : Ground) {A : Type 0} (q : Post A) (r : Res Tree A) (xs ys : ItemList) (v : Machine) (k : ℕ) (p : Machine → Type 0) (s : Straight n.context xs v k p) → Rel q r (run n.context ys s.to) → Rel q r (run n.context (xs ⧺ ys) v)
on n q r xs ys v k p s h = subst (Rel q r) (sym (run_append n.context xs ys v ∙ ap (λ r. after r (λ flow. in_order flow (run n.context ys))) s.runs)) h
