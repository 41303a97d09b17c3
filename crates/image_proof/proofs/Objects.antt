-- Static objects are filled one behind another, in words that are 0, and lie in memory then as runs have them.
use Rattle.std.proofs.Common.{◌≡◌, ℕ, suc, ◌+◌, ◌-◌, ◌*◌, ◌<◌, ◌≤◌, Bool, true, false, List, [], ◌∷◌, ◌++◌, length, map, refl, sym, ap, ◌∙◌, subst, cond, arith, eqb-true, length-append}
use Rattle.std.specs.Prelude.{◌==◌, replicate}
use Rattle.std.specs.List.{AllByRecursion}
use Rattle.std.proofs.lemmas.List.{length-map, length-replicate}
use Rattle.c25_isa.specs.State as machine
use Rattle.c_tree.specs.TypedTree.{ObjectTree}
use Rattle.c25_code.specs.Work.{Work}
use Rattle.mem_plan.specs.DataNeeds.{object_words, objects_words}
use Rattle.mem_plan.specs.Plan.{object_addresses}
use Rattle.frame_emit.specs.Startup.{initial_word, up_to_last, filling_code, fillings_code}
use Rattle.ir_semantics.specs.Outside as run
use Rattle.ir_semantics.specs.Outside.{Holds, Nowhere, Memory, Places, initial_words, with_words, with_statics}
use Rattle.image_proof.proofs.Stores.{stored, LieAt, AreClear, stored_below, stored_behind, lie_again, words_lie}
use Rattle.image_proof.proofs.Filling.{IsFit, Fills, fills_none, fills_on, object_fills}
use Rattle.image_proof.proofs.Lengths.{object_words_short, object_short}
use Rattle.image_proof.proofs.Initials.{IsReady, up_to_last-words}

-- what a run has in memory, the machine has in RAM
abbrev pub IsHeld : Memory → machine.Memory → Type 0
IsHeld m ram = (b x : ℕ) → m b ≡ Holds x → ram b ≡ x

holds_one : (x y : ℕ) → Holds x ≡ Holds y → x ≡ y
holds_one x y e = cc

word_or_behind : (a w : ℕ) (m : Memory) (ram : machine.Memory) → ram a ≡ w → (b x : ℕ) → (m b ≡ Holds x → ram b ≡ x) → (here : Bool) → b == a ≡ here → cond here (Holds w) (m b) ≡ Holds x → ram b ≡ x
word_or_behind a w m ram lies b x behind true at is = ap ram (eqb-true b a at) ∙ lies ∙ holds_one w x is
word_or_behind a w m ram lies b x behind false at is = behind is

-- words that lie from an address on, before others
pub words_held : (ws : List ℕ) (a : ℕ) (m : Memory) (ram : machine.Memory) → LieAt a ws ram → IsHeld m ram → IsHeld (with_words a ws m) ram
words_held [] a m ram lie held b x = held b x
words_held (w ∷ ws) a m ram lie held b x = word_or_behind a w (with_words (suc a) ws m) ram lie.0 b x (words_held ws (suc a) m ram lie.1 held b x) (b == a) refl

abbrev pub nowhere : Memory
nowhere = λ a. Nowhere

no_cell : (x : ℕ) → Nowhere ≡ Holds x → ⊥
no_cell x e = cc

pub nowhere_held : (ram : machine.Memory) → IsHeld nowhere ram
nowhere_held ram b x is = absurd (no_cell x is)

module _ (statics : List ℕ) (q : Places) where
  -- objects lie one behind another, the first one of this number
  abbrev pub LieInOrder : ℕ → ℕ → List ObjectTree → Type 0
  LieInOrder n a [] = Unit {0}
  LieInOrder n a (o ∷ os) = (q.static n ≡ a) × LieInOrder (suc n) (a + object_words o) os

  abbrev object_list : ObjectTree → List ℕ
  object_list o = up_to_last (map (initial_word statics) o.initial)

  words_count : (o : ObjectTree) → IsReady statics q o → length (initial_words q o) ≡ o.length
  words_count o ready =
      let room = ready.room in
      omega (arith, length-append (map (run.initial_word q) o.initial) (replicate (o.length - length o.initial) 0), length-map o.initial (run.initial_word q), length-replicate {A = ℕ} (o.length - length o.initial) 0, room)

  object_lies : (o : ObjectTree) (a : ℕ) (ram : machine.Memory) → IsReady statics q o → AreClear a o.length ram → LieAt a (initial_words q o) (stored a (object_list o) ram)
  object_lies o a ram ready clear =
      let zeros : ℕ = o.length - length o.initial in
      subst (λ ws. LieAt a (ws ++ replicate zeros 0) (stored a (object_list o) ram)) ready.same (
      words_lie (map (initial_word statics) o.initial) zeros a ram (λ b from to. clear b from (let room = ready.room in omega (arith, to, length-map o.initial (initial_word statics), room))))

  -- objects from an address on, by work behind their code
  pub record AreFilled (os : List ObjectTree) (n a : ℕ) (w : Work) : Type 0 where
    pub work : Work
    pub fills : Fills (fillings_code statics (object_addresses a os) os) w work
    pub below : (b : ℕ) → b < a → work.ram b ≡ w.ram b
    pub held : IsHeld (with_statics q n os nowhere) work.ram

  pub objects_fill : (os : List ObjectTree) (n a : ℕ) (w : Work) → LieInOrder n a os → AllByRecursion (IsReady statics q) os → IsFit w → AreClear a (objects_words os) w.ram → 0x300 ≤ a → a + objects_words os ≤ 65536 → AreFilled os n a w
  objects_fill [] n a w order ready fit clear low high = record { work = w; fills = fills_none w fit; below = λ b less. refl; held = nowhere_held w.ram }
  objects_fill (o ∷ os) n a w order ready fit clear low high =
      let short = object_words_short statics o ready.0.room in
      let first = object_fills (object_list o) a w (up_to_last-words (map (initial_word statics) o.initial) ready.0.words) fit low (omega (arith, high, short)) in
      let v : Work = first.0 in
      let ram : v.ram ≡ stored a (object_list o) w.ram = first.2 in
      let at : (b : ℕ) → v.ram b ≡ stored a (object_list o) w.ram b = λ b. ap (λ m. m b) ram in
      let still : AreClear (a + object_words o) (objects_words os) v.ram =
      λ b from to. at b ∙ stored_behind (object_list o) a w.ram b (omega (arith, from, short)) ∙ clear b (omega (arith, from)) (omega (arith, to)) in
      let rest = objects_fill os (suc n) (a + object_words o) v order.1 ready.1 first.1.fit still (omega (arith, low)) (omega (arith, high)) in
      let lies = object_lies o a w.ram ready.0 (λ b from to. clear b from (omega (arith, to))) in
      record {
        work = rest.work;
        fills = fills_on (filling_code a (object_list o)) (fillings_code statics (object_addresses (a + object_words o) os) os) w v rest.work first.1 rest.fills;
        below = λ b less. rest.below b (omega (arith, less)) ∙ at b ∙ stored_below (object_list o) a w.ram b less;
        held = words_held (initial_words q o) (q.static n) (with_statics q (suc n) os nowhere) rest.work.ram
            (subst (λ k. LieAt k (initial_words q o) rest.work.ram) (sym order.0)
            (lie_again (initial_words q o) a (stored a (object_list o) w.ram) rest.work.ram lies (λ b less. rest.below b (omega (arith, less, words_count o ready.0)) ∙ at b)))
            rest.held;
      }

-- in few instructions
pub fillings_short : (statics : List ℕ) (q : Places) (os : List ObjectTree) (a : ℕ) → AllByRecursion (IsReady statics q) os → length (fillings_code statics (object_addresses a os) os) ≤ 2 * objects_words os
fillings_short statics q [] a ready = omega arith
fillings_short statics q (o ∷ os) a ready =
    omega (
      arith,
      length-append (filling_code a (up_to_last (map (initial_word statics) o.initial))) (fillings_code statics (object_addresses (a + object_words o) os) os),
      object_short statics o a ready.0.room,
      fillings_short statics q os (a + object_words o) ready.1,
    )
