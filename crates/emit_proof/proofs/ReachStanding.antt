-- A row's operand is the word of its step, and what is known behind the row is so, whatever the row does.
use Rattle.std.proofs.Common.{◌≡◌, ◌≢◌, ℕ, ◌+◌, ◌/◌, ◌<◌, ◌≤◌, Bool, true, false, not, if◌then◌else◌, List, [], ◌∷◌, Option, Some, None, refl, sym, ap, ◌∙◌, arith, eqb-true}
use Rattle.std.specs.Prelude.{nat_le, ◌==◌}
use Rattle.std.proofs.lemmas.Bool.{cond_both, and_right, eq-eqb, ne_eqb}
use Rattle.c25_isa.specs.declared.operand.Change.{Change}
use Rattle.c25_isa.specs.declared.operand.Change.TheVariants.{Stay, Down, Up, DownIndex, UpIndex}
use Rattle.c25_isa.specs.declared.instruction.Instr.TheVariants.{Lark}
use Rattle.c25_isa.specs.State.{write}
use Rattle.c25_isa.specs.Step.{changed, changes, next_arp, stays}
use Rattle.c25_code.specs.Work.{Work}
use Rattle.c25_code.specs.Straight.{operand_address, registers_behind}
use Rattle.c25_code.specs.CodeRuns.{CodeRuns}
use Rattle.c25_code.proofs.Writes.{write_same, write_other, write_back}
use Rattle.acc_code.specs.declared.operation.AccOp.{AccOp}
use Rattle.emit_blocks.specs.declared.site.ScalarPlace.{ScalarPlace}
use Rattle.emit_blocks.specs.declared.step.Reach.{Reach}
use Rattle.emit_blocks.specs.declared.step.Reach.TheVariants as reach
use Rattle.emit_blocks.specs.declared.step.Step.{Step}
use Rattle.emit_blocks.specs.Steps.{step}
use Rattle.emit_blocks.specs.Moves.{address_for, next_address, next_register, change_by_index, change_to, is_by_index, change_of_step, moves_by_index, address_behind, other_than}
use Rattle.emit_blocks.specs.Right.{HasWords, HaveWords}
use Rattle.emit_blocks.specs.Runs.{Known, nothing_known, known_behind, index_code}
use Rattle.emit_proof.specs.Reaching.{is_word, reach_address, IsOverList, row_operand, brought, indexed, LeavesRegisters}
use Rattle.emit_proof.specs.KnownAlike.{KnownAlike}

-- the operand is the word at the address
pub address_is : (d : ℕ) (r : Reach) (xs : List Step) (w : Work) → is_word r ≡ true → operand_address (brought r w) (row_operand d r xs) ≡ reach_address w r
address_is d (reach.Scalar p) xs w word = write_same w.ar p.register p.address p.register refl
address_is d reach.Pointer xs w word = refl
address_is d (reach.Word a) xs w word = omega arith
address_is d (reach.Constant c) xs w word = absurd cc

-- the registers of lists are others than AR0 and AR1
above_0 : (r : ℕ) → 2 ≤ r → 0 ≢ r
above_0 r le e = omega (arith, le, e)

pub above_1 : (r : ℕ) → 2 ≤ r → 1 ≢ r
above_1 r le e = omega (arith, le, e)

-- AR1 doesn't change, so it may be loaded through the operand
pub pointer_stays : (d : ℕ) (r : Reach) (xs : List Step) (w : Work) → IsOverList r → registers_behind (row_operand d r xs) (brought r w) 1 ≡ w.ar 1
pointer_stays d (reach.Scalar p) xs w list = write_other (write w.ar p.register p.address) p.register _ 1 (above_1 p.register list) ∙ write_other w.ar p.register p.address 1 (above_1 p.register list)
pointer_stays d reach.Pointer xs w list = refl
pointer_stays d (reach.Word a) xs w list = refl
pointer_stays d (reach.Constant c) xs w list = refl

pub pointer_loads : (d : ℕ) (r : Reach) (xs : List Step) (w : Work) → IsOverList r → changes 1 (brought r w).arp (row_operand d r xs) ≡ false
pointer_loads d (reach.Scalar p) xs w list = and_right (not (stays (change_to d p.address (next_address p.register xs)))) (1 == p.register) (ne_eqb 1 p.register (above_1 p.register list))
pointer_loads d reach.Pointer xs w list = refl
pointer_loads d (reach.Word a) xs w list = refl
pointer_loads d (reach.Constant c) xs w list = refl

-- nor does AR0
index_stays : (d : ℕ) (r : Reach) (xs : List Step) (w : Work) → IsOverList r → registers_behind (row_operand d r xs) (brought r w) 0 ≡ w.ar 0
index_stays d (reach.Scalar p) xs w list = write_other (write w.ar p.register p.address) p.register _ 0 (above_0 p.register list) ∙ write_other w.ar p.register p.address 0 (above_0 p.register list)
index_stays d reach.Pointer xs w list = refl
index_stays d (reach.Word a) xs w list = refl
index_stays d (reach.Constant c) xs w list = refl

-- the address that a register has to hold next is a word
word_for : (q : ℕ) (r : Reach) (later : Option ℕ) (b : ℕ) → HasWords r → (later ≡ Some b → b < 65536) → address_for q r later ≡ Some b → b < 65536
word_for q (reach.Scalar p) later b words rest e =
    cond_both (p.register == q) (Some p.address) later (λ o. o ≡ Some b → b < 65536)
    (λ yes f. let same : p.address ≡ b = cc in omega (arith, same, words))
    (λ no f. rest f) e
word_for q reach.Pointer later b words rest e = rest e
word_for q (reach.Word a) later b words rest e = rest e
word_for q (reach.Constant c) later b words rest e = rest e

next_word : (q : ℕ) (xs : List Step) (b : ℕ) → HaveWords xs → next_address q xs ≡ Some b → b < 65536
next_word q [] b words e = absurd cc
next_word q (x ∷ xs) b words e = word_for q x.reach (next_address q xs) b words.0 (next_word q xs b words.1) e

-- the change of an access brings the register where it is noted to stand
changes_to : (d index a : ℕ) (next : Option ℕ) → a < 65536 → ((b : ℕ) → next ≡ Some b → b < 65536) → (is_by_index (change_to d a next) ≡ true → index ≡ d) → changed (change_to d a next) index a ≡ address_behind d a (change_to d a next)
changes_to d index a None room words by = refl
changes_to d index a (Some b) room words by =
    let below : b < 65536 = words b refl in
    let goal : Change → Type 0 = λ c. (is_by_index c ≡ true → index ≡ d) → changed c index a ≡ address_behind d a c in
    cond_both (b == a + 1) Up (if a == b + 1 then Down else change_by_index d a b) goal
    (λ e h. let up : b ≡ a + 1 = eqb-true b (a + 1) e in omega (arith, up, below))
    (λ e. cond_both (a == b + 1) Down (change_by_index d a b) goal
    (λ f h. let down : a ≡ b + 1 = eqb-true a (b + 1) f in omega (arith, down, room))
    (λ f. cond_both (nat_le d 1) Stay (if b == a + d then UpIndex else (if a == b + d then DownIndex else Stay)) goal
    (λ g h. refl)
    (λ g. cond_both (b == a + d) UpIndex (if a == b + d then DownIndex else Stay) goal
    (λ t h. let up : b ≡ a + d = eqb-true b (a + d) t in let is : index ≡ d = h refl in omega (arith, up, is, below))
    (λ t. cond_both (a == b + d) DownIndex Stay goal
    (λ v h. let down : a ≡ b + d = eqb-true a (b + d) v in let is : index ≡ d = h refl in omega (arith, down, is, room))
    (λ v h. refl))))) by

-- a next register is current where one is wanted
next_is : (r q : ℕ) (next : Option ℕ) → next ≡ Some q → next_arp (other_than r next) r ≡ q
next_is r q None e = absurd cc
next_is r q (Some n) e =
    let same : n ≡ q = cc in
    cond_both (n == r) None (Some n) (λ o. next_arp o r ≡ q)
    (λ yes. sym (eqb-true n r yes) ∙ same)
    (λ no. same)

moves_first : (b c : Bool) → b ≡ true → (if b then true else c) ≡ true
moves_first true c e = refl
moves_first false c e = cc

moves_later : (b c : Bool) → c ≡ true → (if b then true else c) ≡ true
moves_later true c e = refl
moves_later false c e = e

module _ (d : ℕ) (k : Known) (o : AccOp) (xs : List Step) (w u : Work) where
  -- where registers of lists stand behind an access through one
  stands_behind : (p : ScalarPlace) → KnownAlike d k (step o (reach.Scalar p) ∷ xs) w → 2 ≤ p.register → HasWords (reach.Scalar p) → HaveWords xs → LeavesRegisters (row_operand d (reach.Scalar p) xs) (brought (reach.Scalar p) w) u
      → (q b : ℕ) → 2 ≤ q → (known_behind d k (reach.Scalar p) xs).stands q ≡ Some b → u.ar q ≡ b
  stands_behind p alike list word words leaves q b le e =
      let c : Change = change_to d p.address (next_address p.register xs) in
      let v : Work = brought (reach.Scalar p) w in
      let by : is_by_index c ≡ true → v.ar 0 ≡ d = λ f. write_other w.ar p.register p.address 0 (above_0 p.register list) ∙ alike.index (moves_first (is_by_index c) (moves_by_index d xs) f) in
      let here : v.ar p.register ≡ p.address = write_same w.ar p.register p.address p.register refl in
      cond_both (q == p.register) (Some (address_behind d p.address c)) (k.stands q) (λ known. known ≡ Some b → u.ar q ≡ b)
      (λ same f.
      let is : address_behind d p.address c ≡ b = cc in
      leaves.lists q le
      ∙ write_same v.ar p.register (changed c (v.ar 0) (v.ar p.register)) q (eqb-true q p.register same)
      ∙ ap (changed c (v.ar 0)) here
      ∙ changes_to d (v.ar 0) p.address (next_address p.register xs) word (λ n f'. next_word p.register xs n words f') by
      ∙ is)
      (λ other f.
      let apart : q ≢ p.register = λ same. differ q p.register other same in
      leaves.lists q le
      ∙ write_other v.ar p.register (changed c (v.ar 0) (v.ar p.register)) q apart
      ∙ write_other w.ar p.register p.address q apart
      ∙ alike.stands q b le f) e
    where
      differ : (a b' : ℕ) → (a == b') ≡ false → a ≡ b' → ⊥
      differ a b' other same = let t : (a == b') ≡ true = eq-eqb a b' same in absurd cc

  -- AR0 behind a row
  index_behind : (r : Reach) → KnownAlike d k (step o r ∷ xs) w → IsOverList r → LeavesRegisters (row_operand d r xs) (brought r w) u → moves_by_index d xs ≡ true → u.ar 0 ≡ d
  index_behind r alike list leaves e = leaves.index ∙ index_stays d r xs w list ∙ alike.index (moves_later (is_by_index (change_of_step d r xs)) (moves_by_index d xs) e)

  known_step : (r : Reach) → KnownAlike d k (step o r ∷ xs) w → IsOverList r → HasWords r → HaveWords xs → LeavesRegisters (row_operand d r xs) (brought r w) u → KnownAlike d (known_behind d k r xs) xs u
  known_step (reach.Scalar p) alike list word words leaves = record {
    page = λ n e. leaves.page ∙ alike.page n e;
    stands = stands_behind p alike list word words leaves;
    nowhere = λ e. absurd cc;
    current = λ e q f. leaves.current ∙ next_is p.register q (next_register xs) f;
    index = index_behind (reach.Scalar p) alike list leaves;
  }
  known_step reach.Pointer alike list word words leaves = record {
    page = λ n e. leaves.page ∙ alike.page n e;
    stands = λ q b le e. leaves.lists q le ∙ back q ∙ alike.stands q b le e;
    nowhere = λ e. absurd cc;
    current = λ e q f. leaves.current ∙ next_is 1 q (next_register xs) f;
    index = index_behind reach.Pointer alike list leaves;
  }
    where
      back : (q : ℕ) → write w.ar 1 (w.ar 1) q ≡ w.ar q
      back q = ap (λ m. m q) (write_back w.ar 1 (w.ar 1) refl)
  known_step (reach.Word a) alike list word words leaves = record {
    page = λ n e. leaves.page ∙ some_is (a / 128) n e;
    stands = λ q b le e. leaves.lists q le ∙ alike.stands q b le e;
    nowhere = alike.nowhere;
    current = λ e q f. leaves.current ∙ alike.current e q f;
    index = index_behind (reach.Word a) alike list leaves;
  }
    where
      some_is : (m n : ℕ) → Some m ≡ Some n → m ≡ n
      some_is m n e = cc
  known_step (reach.Constant c) alike list word words leaves = record {
    page = λ n e. leaves.page ∙ alike.page n e;
    stands = λ q b le e. leaves.lists q le ∙ alike.stands q b le e;
    nowhere = alike.nowhere;
    current = λ e q f. leaves.current ∙ alike.current e q f;
    index = index_behind (reach.Constant c) alike list leaves;
  }

-- what is known behind a row is so
pub known_stays : (d : ℕ) (k : Known) (x : Step) (xs : List Step) (w u : Work) → KnownAlike d k (x ∷ xs) w → IsOverList x.reach → HaveWords (x ∷ xs) → LeavesRegisters (row_operand d x.reach xs) (brought x.reach w) u → KnownAlike d (known_behind d k x.reach xs) xs u
known_stays d k x xs w u alike list words leaves = known_step d k x.row xs w u x.reach alike list words.0 words.1 leaves

-- at the start of a run nothing is known, and AR0 is loaded where it is needed
indexed_is : (b : Bool) (d : ℕ) (w : Work) → b ≡ true → (if b then record w { ar = write w.ar 0 d } else w).ar 0 ≡ d
indexed_is true d w e = refl
indexed_is false d w e = cc

pub starts_known : (d : ℕ) (xs : List Step) (w : Work) → KnownAlike d nothing_known xs (indexed d xs w)
starts_known d xs w = record {
  page = λ n e. absurd cc;
  stands = λ r a le e. absurd cc;
  nowhere = λ e r. refl;
  current = λ e r f. absurd cc;
  index = indexed_is (moves_by_index d xs) d w;
}

pub starts_run : (d : ℕ) (xs : List Step) (w : Work) → CodeRuns (index_code d xs) w (indexed d xs w) []
starts_run d xs w = by (moves_by_index d xs)
  where
    by : (b : Bool) → CodeRuns (if b then Lark 0 d ∷ [] else []) w (if b then record w { ar = write w.ar 0 d } else w) []
    by true = record { ready = (tt, tt); reaches = refl; outputs = refl }
    by false = record { ready = tt; reaches = refl; outputs = refl }
