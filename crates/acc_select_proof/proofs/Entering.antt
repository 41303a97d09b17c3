-- The entry of a function: the words that were given come to the parameters, scalars or objects, from the first to the last.
use Rattle.std.proofs.Common.{◌≡◌, ℕ, suc, ◌+◌, ◌<◌, Bool, true, false, List, [], ◌∷◌, length, Option, Some, refl, sym, ap, ◌∙◌, subst, arith}
use Rattle.std.specs.Prelude.{◌==◌, ◌&&◌, nat_le, nat_lt, cond}
use Rattle.word_base.specs.Ports.{Prefix}
use Rattle.c_tree.specs.declared.program.VarRef.{VarRef}
use Rattle.c_tree.specs.declared.program.VarRef.TheVariants.{Scalar, Local, Static}
use Rattle.c_tree.specs.TypedTree.{ObjectTree}
use Rattle.acc_code.specs.AccTree.{ItemList}
use Rattle.ir_semantics.specs.Parts.{Res, Does, after, Flow}
use Rattle.ir_semantics.specs.Outside.{Cell, Nowhere, Unwritten, Holds, Memory, Outside, Frame, with_scalar, with_word, with_memory, with_objects, Places, address_of}
use Rattle.ir_semantics.specs.TreeRun.{Tree, write_cell, pass}
use Rattle.ir_semantics.specs.AccRun.{Machine, run, given_frame, given_memory, with_given}
use Rattle.acc_select_proof.proofs.Rules.{Ground, Post, Rel, Keeps, outs_of, run_grows}
use Rattle.acc_select_proof.proofs.Sides.{some_is, HasWords, Side, wrote_memory}
use Rattle.acc_select_proof.proofs.Valuing.{after_after}
use Rattle.acc_select_proof.proofs.Passing.{AllWords, Given}

-- cells without a word leave words alone
abbrev pub MemoryHasWords : Memory → Type 0
MemoryHasWords m = (a x : ℕ) → m a ≡ Holds x → x < 65536

abbrev pub HoldsNothing : Cell → Type 0
HoldsNothing cell = (x : ℕ) → cell ≡ Holds x → ⊥

cell_word : (cell : Cell) (m : Memory) (b x : ℕ) (t : Bool) → HoldsNothing cell → MemoryHasWords m → cond t cell (m b) ≡ Holds x → x < 65536
cell_word cell m b x true empty h e = absurd (empty x e)
cell_word cell m b x false empty h e = h b x e

pub objects_words : (cell : Cell) (q : Places) (f k : ℕ) (os : List ObjectTree) (m : Memory) → HoldsNothing cell → MemoryHasWords m → MemoryHasWords (with_objects cell q f k os m)
objects_words cell q f k [] m empty h = h
objects_words cell q f k (o ∷ os) m empty h =
    λ b x e. cell_word cell (with_objects cell q f (suc k) os m) b x (nat_le (q.local f k) b && nat_lt b (q.local f k + o.length)) empty (objects_words cell q f (suc k) os m empty h) e

pub outside_words : (cell : Cell) (q : Places) (f : ℕ) (os : List ObjectTree) (o : Outside) → HoldsNothing cell → HasWords o → HasWords (with_memory (with_objects cell q f 0 os o.memory) o)
outside_words cell q f os o empty h = record { memory = objects_words cell q f 0 os o.memory empty h.memory; input = h.input }

-- a parameter that is a scalar is written, whatever its number
put_word : (g : Frame) (k x : ℕ) → x < 65536 → ((i y : ℕ) → g i ≡ Some y → y < 65536) → (i y : ℕ) (b : Bool) → (i == k) ≡ b → with_scalar k x g i ≡ Some y → y < 65536
put_word g k x lt h i y true e is = subst (λ z. z < 65536) (some_is (sym (ap (λ b. cond b (Some x) (g i)) e) ∙ is)) lt
put_word g k x lt h i y false e is = h i y (sym (ap (λ b. cond b (Some x) (g i)) e) ∙ is)

same_put : (f g : Frame) (x i y : ℕ) (b : Bool) → (g i ≡ Some y → f i ≡ Some y) → cond b (Some x) (g i) ≡ Some y → cond b (Some x) (f i) ≡ Some y
same_put f g x i y true e h = h
same_put f g x i y false e h = e h

scalar_passed : (base s k x : ℕ) (w : Tree) (v : Machine) → Side base [] s w v → x < 65536 → Side base [] s (record w { frame = with_scalar k x w.frame }) (record v { frame = with_scalar k x v.frame })
scalar_passed base s k x w v h fits = record {
  frame = λ i y below e. same_put v.frame w.frame x i y (i == k) (h.frame i y below) e;
  scalars = λ i y e. put_word w.frame k x fits h.scalars i y (i == k) refl e;
  temps = tt;
  outside = h.outside;
  words = h.words;
  sxm = h.sxm;
  work = h.work;
}

module _ (n : Ground) (q : Places) (f base s : ℕ) {A : Type 0} (g : Does Tree A) (items : ItemList) (post : Post A) (k : Keeps n (Side base [] s) g items post) where
  -- where no object lives the tree fails
  written : (c : Cell) (a x : ℕ) (next : ℕ → Does Tree A) (w : Tree) (r : Res Machine Flow) → Prefix w.outside.outs (outs_of r) → Rel post (next x (record w { outside = with_memory (with_word a x w.outside.memory) w.outside })) r → Rel post (after (write_cell c a x w) next) r
  written Nowhere a x next w r p h = p
  written Unwritten a x next w r p h = h
  written (Holds y) a x next w r p h = h

  -- the machine at its entry, with what was given for these parameters and for those behind them
  abbrev started : List VarRef → ℕ → Frame → Machine → Machine
  started ps i given v = record v { frame = given_frame ps i given v.frame; outside = with_memory (given_memory (address_of q f) ps i given v.outside.memory) v.outside }

  abbrev Passes : List VarRef → List ℕ → ℕ → Frame → Type 0
  Passes ps xs i given = (w : Tree) (v : Machine) → Side base [] s w v → Rel post (after (pass (address_of q f) ps xs w) (λ _. g)) (run n.context items (started ps i given v))

  object_passed : (a x : ℕ) (ps : List VarRef) (xs : List ℕ) (i : ℕ) (given : Frame) → given i ≡ Some x → x < 65536 → Passes ps xs (suc i) given → (w : Tree) (v : Machine) → Side base [] s w v
      → Rel post (after (after (write_cell (w.outside.memory a) a x w) (λ _. pass (address_of q f) ps xs)) (λ _. g))
      (run n.context items (record v { frame = given_frame ps (suc i) given v.frame; outside = with_memory (given_memory (address_of q f) ps (suc i) given (with_given (Some a) (given i) v.outside.memory)) v.outside }))
  object_passed a x ps xs i given is lt later w v h =
      let to : Option ℕ → Machine = λ y. record v { frame = given_frame ps (suc i) given v.frame; outside = with_memory (given_memory (address_of q f) ps (suc i) given (with_given (Some a) y v.outside.memory)) v.outside } in
      subst (λ y. Rel post (after (after (write_cell (w.outside.memory a) a x w) (λ _. pass (address_of q f) ps xs)) (λ _. g)) (run n.context items (to y))) (sym is)
      (subst (λ r. Rel post r (run n.context items (to (Some x)))) (after_after (write_cell (w.outside.memory a) a x w) (λ _. pass (address_of q f) ps xs) (λ _. g))
      (written (w.outside.memory a) a x (λ _ u. after (pass (address_of q f) ps xs u) (λ _. g)) w (run n.context items (to (Some x)))
      (subst (λ (o : Outside). Prefix o.outs (outs_of (run n.context items (to (Some x))))) h.outside ((run_grows n items).by (to (Some x))))
      (later _ (record v { outside = with_memory (with_word a x v.outside.memory) v.outside }) (wrote_memory base [] s a x w v h lt))))

  pub passed : (ps : List VarRef) (xs : List ℕ) (i : ℕ) (given : Frame) → length ps ≡ length xs → Given given i xs → AllWords xs → Passes ps xs i given
  passed [] xs i given same l words w v h = k.by w v h
  passed (p ∷ ps) [] i given same l words w v h = absurd (omega (arith, same))
  passed (Scalar j ∷ ps) (x ∷ xs) i given same l words w v h =
      subst (λ y. Rel post (after (pass (address_of q f) ps xs (record w { frame = with_scalar j x w.frame })) (λ _. g)) (run n.context items (record v { frame = given_frame ps (suc i) given (λ m. cond (m == j) y (v.frame m)); outside = with_memory (given_memory (address_of q f) ps (suc i) given v.outside.memory) v.outside }))) (sym l.0)
      (passed ps xs (suc i) given (omega (arith, same)) l.1 words.1 _ (record v { frame = with_scalar j x v.frame }) (scalar_passed base s j x w v h words.0))
  passed (Local j ∷ ps) (x ∷ xs) i given same l words w v h = object_passed (q.local f j) x ps xs i given l.0 words.0 (passed ps xs (suc i) given (omega (arith, same)) l.1 words.1) w v h
  passed (Static j ∷ ps) (x ∷ xs) i given same l words w v h = object_passed (q.static j) x ps xs i given l.0 words.0 (passed ps xs (suc i) given (omega (arith, same)) l.1 words.1) w v h
