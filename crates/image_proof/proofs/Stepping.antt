-- What a walk finds in the steps of a run, by what the code's generator knows.
use Rattle.std.proofs.Common.{◌≡◌, ℕ, ◌+◌, ◌/◌, ◌%◌, ◌<◌, ◌≤◌, Bool, true, false, if◌then◌else◌, List, [], ◌∷◌, ◌++◌, Option, Some, None, refl, sym, ap, ◌∙◌, arith, eqb-true, subst}
use Rattle.std.specs.Prelude.{◌==◌}
use Rattle.std.proofs.lemmas.Bool.{ne_eqb}
use Rattle.c25_isa.specs.declared.operand.Change.{Change}
use Rattle.c25_isa.specs.declared.operand.Change.TheVariants.{Stay}
use Rattle.c25_isa.specs.declared.operand.Operand.{Operand}
use Rattle.c25_isa.specs.declared.operand.Operand.TheVariants.{Direct}
use Rattle.c25_isa.specs.declared.instruction.Instr.{Instr}
use Rattle.c25_isa.specs.declared.instruction.Instr.TheVariants.{Ldpk}
use Rattle.c25_isa.specs.Walk as walk
use Rattle.acc_code.specs.declared.operation.AccOp.{AccOp}
use Rattle.emit_blocks.specs.declared.site.ScalarPlace.{ScalarPlace}
use Rattle.emit_blocks.specs.declared.step.Reach.{Reach}
use Rattle.emit_blocks.specs.declared.step.Reach.TheVariants as reach
use Rattle.emit_blocks.specs.declared.step.Step.{Step}
use Rattle.emit_blocks.specs.Steps.{step}
use Rattle.emit_blocks.specs.Moves.{next_address, next_register, change_to, is_by_index, moves_by_index, address_behind, moved, other_than, indirect, made_current}
use Rattle.emit_blocks.specs.Instructions.{word_instr, constant_instr}
use Rattle.emit_blocks.specs.Runs.{Known, is_page, page_code, row_code, known_behind}
use Rattle.image_proof.specs.emit_proof.Direct.{takes_word}
use Rattle.image_proof.proofs.Parts.{known_after, after_parts, Gives, gives_none, gives_both, gives_counted, gives_listed}
use Rattle.image_proof.proofs.Rows.{Finds, row_is, constant_is}
use Rattle.image_proof.proofs.Moving.{Brings, Moves, Makes, move_count, moved_brings, made_points, listed_there}
use Rattle.image_proof.proofs.Changing.{number_behind, change_brings, next_keeps, next_points}
use Rattle.image_proof.proofs.Costs.{left_at}
use Rattle.image_proof.proofs.Accessing.{IsOver}

-- what the generator knows before these steps the walk knows too: where registers of lists stand, that the register is current that the next
-- indirect operand wants, and AR0, where some access is left by the step
pub record WalkAlike (d : ℕ) (g : Known) (xs : List Step) (w : walk.Known) : Type 0 where
  pub here : (r a : ℕ) → 2 ≤ r → g.stands r ≡ Some a → w.ar r ≡ Some a
  pub nowhere : g.current ≡ false → (r : ℕ) → g.stands r ≡ None
  pub current : g.current ≡ true → (r : ℕ) → next_register xs ≡ Some r → w.arp ≡ Some r
  pub index : moves_by_index d xs ≡ true → w.ar 0 ≡ Some d

-- each register stands where the last access through it left it
abbrev pub StandAs : ℕ → Known → List Step → (ℕ → Option ℕ) → Type 0
StandAs d g xs last = (r : ℕ) → g.stands r ≡ left_at d (next_address r xs) (last r)

-- registers of lists are others than AR0 and AR1
not_0 : (r : ℕ) → 2 ≤ r → (0 == r) ≡ false
not_0 r low = ne_eqb 0 r (λ e. omega (arith, low, e))

not_1 : (r : ℕ) → 2 ≤ r → (r == 1) ≡ false
not_1 r low = ne_eqb r 1 (λ e. omega (arith, low, e))

-- what a step gives, and what is alike behind it
pub record StepGives (d : ℕ) (g : Known) (o : AccOp) (r : Reach) (xs : List Step) (w : walk.Known) (addresses : List ℕ) (count : ℕ) : Type 0 where
  pub gives : Gives w (row_code d g o r xs) addresses count
  pub alike : WalkAlike d (known_behind d g r xs) xs (known_after w (row_code d g o r xs))

moves_first : (b c : Bool) → b ≡ true → (if b then true else c) ≡ true
moves_first true c e = refl
moves_first false c e = cc

moves_later : (b c : Bool) → c ≡ true → (if b then true else c) ≡ true
moves_later true c e = refl
moves_later false c e = e

-- where a register stands is known only where one is current
is_current : (b : Bool) (known : Option ℕ) (n : ℕ) → (b ≡ false → known ≡ None) → known ≡ Some n → b ≡ true
is_current true known n nowhere e = refl
is_current false known n nowhere e = absurd (none_some n (sym (nowhere refl) ∙ e))
  where
    none_some : (m : ℕ) → (let o : Option ℕ = None in o) ≡ Some m → ⊥
    none_some m e' = absurd cc

-- through the register of a list
module _ (d : ℕ) (g : Known) (o : AccOp) (p : ScalarPlace) (xs : List Step) (w : walk.Known) (alike : WalkAlike d g (step o (reach.Scalar p) ∷ xs) w) (takes : takes_word o ≡ true) (over : IsOver p) (words : (b : ℕ) → next_address p.register xs ≡ Some b → b < 65536) where
  abbrev c : Change
  c = change_to d p.address (next_address p.register xs)

  abbrev m : Operand
  m = indirect c p.register (next_register xs)

  abbrev before : List Instr
  before = moved p.register (g.stands p.register) p.address

  abbrev making : List Instr
  making = made_current g.current p.register

  abbrev w1 : walk.Known
  w1 = known_after w before

  abbrev w2 : walk.Known
  w2 = known_after w1 making

  moves : Moves w p.register p.address before (move_count (g.stands p.register) p.address)
  moves = moved_brings p.register (g.stands p.register) p.address w
      (λ n e. (alike.current (is_current g.current (g.stands p.register) n (λ f. alike.nowhere f p.register) e) p.register refl, alike.here p.register n over.list.low e)) over.list over.word

  makes : Makes w1 p.register making
  makes = made_points g.current p.register w1 (λ e. moves.brings.arp ∙ alike.current e p.register refl)

  finds : Finds w2 (word_instr o m) (walk.access_by w2 w2.arp) (walk.known_behind_next (walk.known_behind_change w2 c) (other_than p.register (next_register xs)))
  finds = row_is w2 m o takes

  there : w2.ar p.register ≡ Some p.address
  there = makes.points.others p.register ∙ moves.brings.here

  listed : Gives w2 (word_instr o m ∷ []) (p.address ∷ []) 0
  listed = gives_listed w2 (word_instr o m) p.address (finds.access ∙ listed_there w2 p.register p.address over.list makes.points.arp there) finds.count

  kept : (q : ℕ) → (q == p.register) ≡ false → w2.ar q ≡ w.ar q
  kept q other = makes.points.others q ∙ moves.brings.others q other

  index_so : is_by_index c ≡ true → w2.ar 0 ≡ Some d
  index_so by = kept 0 (not_0 p.register over.list.low) ∙ alike.index (moves_first (is_by_index c) (moves_by_index d xs) by)

  leaves : Brings w2 (walk.known_behind_change w2 c) p.register (address_behind d p.address c)
  leaves = change_brings c w2 p.register p.address (address_behind d p.address c) makes.points.arp there (number_behind d p.address (w2.ar 0) (next_address p.register xs) over.word words index_so)

  -- another register behind
  behind : (q : ℕ) → (q == 1) ≡ false → (walk.known_behind w2 (word_instr o m)).ar q ≡ (walk.known_behind_change w2 c).ar q
  behind q other = finds.ar q other ∙ ap (λ f. f q) (next_keeps (walk.known_behind_change w2 c) (other_than p.register (next_register xs)))

  stands_there : (q b : ℕ) → 2 ≤ q → (known_behind d g (reach.Scalar p) xs).stands q ≡ Some b → (walk.known_behind w2 (word_instr o m)).ar q ≡ Some b
  stands_there q b low e = choose (q == p.register) refl e
    where
      choose : (t : Bool) → (q == p.register) ≡ t → (if t then Some (address_behind d p.address c) else g.stands q) ≡ Some b → (walk.known_behind w2 (word_instr o m)).ar q ≡ Some b
      choose true same f = behind q (not_1 q low) ∙ ap (walk.known_behind_change w2 c).ar (eqb-true q p.register same) ∙ leaves.here ∙ f
      choose false other f = behind q (not_1 q low) ∙ leaves.others q other ∙ kept q other ∙ alike.here q b low f

  alike_behind : WalkAlike d (known_behind d g (reach.Scalar p) xs) xs (walk.known_behind w2 (word_instr o m))
  alike_behind = record {
    here = stands_there;
    nowhere = λ e. absurd cc;
    current = λ e q f. finds.arp ∙ next_points (walk.known_behind_change w2 c) p.register q (next_register xs) (leaves.arp ∙ makes.points.arp) f;
    index = λ e. behind 0 refl ∙ leaves.others 0 (not_0 p.register over.list.low) ∙ kept 0 (not_0 p.register over.list.low) ∙ alike.index (moves_later (is_by_index c) (moves_by_index d xs) e);
  }

  after_is : walk.known_behind w2 (word_instr o m) ≡ known_after w (row_code d g o (reach.Scalar p) xs)
  after_is = sym (after_parts w before (making ++ word_instr o m ∷ []) ∙ after_parts w1 making (word_instr o m ∷ []))

  pub scalar_step : StepGives d g o (reach.Scalar p) xs w (p.address ∷ []) (move_count (g.stands p.register) p.address)
  scalar_step =
      let count : move_count (g.stands p.register) p.address + (0 + 0) ≡ move_count (g.stands p.register) p.address = omega arith in
      record {
        gives = subst (Gives w (row_code d g o (reach.Scalar p) xs) (p.address ∷ [])) count
            (gives_both w before (making ++ word_instr o m ∷ []) [] (p.address ∷ []) (move_count (g.stands p.register) p.address) 0 moves.gives
            (gives_both w1 making (word_instr o m ∷ []) [] (p.address ∷ []) 0 0 makes.gives listed));
        alike = subst (WalkAlike d (known_behind d g (reach.Scalar p) xs) xs) after_is alike_behind;
      }

-- through AR1
module _ (d : ℕ) (g : Known) (o : AccOp) (xs : List Step) (w : walk.Known) (alike : WalkAlike d g (step o reach.Pointer ∷ xs) w) (takes : takes_word o ≡ true) where
  abbrev pointer_operand : Operand
  pointer_operand = indirect Stay 1 (next_register xs)

  abbrev pointed : List Instr
  pointed = made_current g.current 1

  abbrev v : walk.Known
  v = known_after w pointed

  points : Makes w 1 pointed
  points = made_points g.current 1 w (λ e. alike.current e 1 refl)

  found : Finds v (word_instr o pointer_operand) (walk.access_by v v.arp) (walk.known_behind_next v (other_than 1 (next_register xs)))
  found = row_is v pointer_operand o takes

  same_register : (q : ℕ) → (q == 1) ≡ false → (walk.known_behind v (word_instr o pointer_operand)).ar q ≡ w.ar q
  same_register q other = found.ar q other ∙ ap (λ f. f q) (next_keeps v (other_than 1 (next_register xs))) ∙ points.points.others q

  pub pointer_step : StepGives d g o reach.Pointer xs w [] 0
  pointer_step = record {
    gives = gives_both w pointed (word_instr o pointer_operand ∷ []) [] [] 0 0 points.gives
        (gives_counted v (word_instr o pointer_operand) false (found.access ∙ ap (walk.access_by v) points.points.arp) found.count);
    alike = subst (WalkAlike d (known_behind d g reach.Pointer xs) xs) (sym (after_parts w pointed (word_instr o pointer_operand ∷ []))) (record {
      here = λ q b low e. same_register q (not_1 q low) ∙ alike.here q b low e;
      nowhere = λ e. absurd cc;
      current = λ e q f. found.arp ∙ next_points v 1 q (next_register xs) points.points.arp f;
      index = λ e. same_register 0 refl ∙ alike.index e;
    });
  }

-- by a page, or by a constant
page_gives : (b : Bool) (page : ℕ) (w : walk.Known) → Gives w (if b then [] else Ldpk page ∷ []) [] 0 × (known_after w (if b then [] else Ldpk page ∷ []) ≡ w)
page_gives true page w = (gives_none w, refl)
page_gives false page w = (gives_counted w (Ldpk page) false refl refl, refl)

module _ (d : ℕ) (g : Known) (o : AccOp) (xs : List Step) (w : walk.Known) where
  pub word_step : (a : ℕ) → WalkAlike d g (step o (reach.Word a) ∷ xs) w → takes_word o ≡ true → StepGives d g o (reach.Word a) xs w [] 0
  word_step a alike takes =
      let i : Instr = word_instr o (Direct (a % 128)) in
      let page = page_gives (is_page g.page (a / 128)) (a / 128) w in
      let finds : Finds w i walk.Unlisted w = row_is w (Direct (a % 128)) o takes in
      let row : Gives w (i ∷ []) [] 0 = gives_counted w i false finds.access finds.count in
      let after : known_after w (row_code d g o (reach.Word a) xs) ≡ walk.known_behind w i = after_parts w (page_code g.page a) (i ∷ []) ∙ ap (λ u. walk.known_behind u i) page.1 in
      record {
        gives = gives_both w (page_code g.page a) (i ∷ []) [] [] 0 0 page.0 (subst (λ u. Gives u (i ∷ []) [] 0) (sym page.1) row);
        alike = subst (WalkAlike d (known_behind d g (reach.Word a) xs) xs) (sym after) (record {
          here = λ q b low e. finds.ar q (not_1 q low) ∙ alike.here q b low e;
          nowhere = alike.nowhere;
          current = λ e q f. finds.arp ∙ alike.current e q f;
          index = λ e. finds.ar 0 refl ∙ alike.index e;
        });
      }

  pub constant_step : (n : ℕ) → WalkAlike d g (step o (reach.Constant n) ∷ xs) w → StepGives d g o (reach.Constant n) xs w [] 0
  constant_step n alike =
      let finds : Finds w (constant_instr o n) walk.Unlisted w = constant_is w n o in
      record {
        gives = gives_counted w (constant_instr o n) false finds.access finds.count;
        alike = record {
          here = λ q b low e. finds.ar q (not_1 q low) ∙ alike.here q b low e;
          nowhere = alike.nowhere;
          current = λ e q f. finds.arp ∙ alike.current e q f;
          index = λ e. finds.ar 0 refl ∙ alike.index e;
        };
      }
