-- What a walk finds in a whole run.
use Rattle.std.proofs.Common.{◌≡◌, ℕ, ◌+◌, ◌<◌, Bool, true, false, if◌then◌else◌, List, [], ◌∷◌, ◌++◌, length, map, Option, Some, refl, sym, ap, ◌∙◌, eqb-true, eq-eqb, subst}
use Rattle.std.specs.Prelude.{◌==◌, pos, option_map, All}
use Rattle.c25_isa.specs.declared.instruction.Instr.{Instr}
use Rattle.c25_isa.specs.declared.instruction.Instr.TheVariants.{Lark}
use Rattle.c25_isa.specs.Walk as walk
use Rattle.acc_code.specs.declared.operation.AccOp.{AccOp}
use Rattle.emit_blocks.specs.declared.site.ScalarPlace.{ScalarPlace}
use Rattle.emit_blocks.specs.declared.step.Reach.{Reach}
use Rattle.emit_blocks.specs.declared.step.Reach.TheVariants as reach
use Rattle.emit_blocks.specs.declared.step.Step.{Step}
use Rattle.emit_blocks.specs.Places.{Places}
use Rattle.emit_blocks.specs.Steps.{Operation, step, steps_of}
use Rattle.emit_blocks.specs.Moves.{address_for, next_address, change_to, moves_by_index, address_behind}
use Rattle.emit_blocks.specs.Right.{AreRight}
use Rattle.emit_blocks.specs.Runs.{Known, nothing_known, row_code, known_behind, steps_code, index_code, all_steps_code, run_code}
use Rattle.lay_cost.specs.Cost.{access_cost, block_cost}
use Rattle.lay_cost.specs.Placements.{Placement}
use Rattle.image_proof.specs.emit_proof.Direct.{TakesReach, TakeReaches}
use Rattle.image_proof.proofs.emit_proof.TakingBeside.{steps_take}
use Rattle.image_proof.specs.RunWalks.{scalars_of, address_of, AreOverScalars, WalksAs}
use Rattle.image_proof.specs.AgreeingWalks.{AgreesWith}
use Rattle.image_proof.proofs.Parts.{known_after, Gives, one_if, gives_none, gives_both, gives_after, gives_counted, walks_as}
use Rattle.image_proof.proofs.Moving.{move_count}
use Rattle.image_proof.proofs.Costs.{left_at, access_costs}
use Rattle.image_proof.proofs.Tallies.{with_last, costs, are_stepped, place_of, no_last, block_counts}
use Rattle.image_proof.proofs.Indexing.{with_place, accessed, turned, index_is}
use Rattle.image_proof.proofs.Agreement.{agreeing_cost}
use Rattle.image_proof.proofs.Accessing.{AreOver, steps_access, places_over}
use Rattle.image_proof.proofs.Stepping.{WalkAlike, StandAs, scalar_step, pointer_step, word_step, constant_step}

abbrev addresses : List ScalarPlace → List ℕ
addresses ps = map (λ p. p.address) ps

-- the address that a register has to hold next is a word
word_for : (q : ℕ) (r : Reach) (later : Option ℕ) (ps : List ScalarPlace) (b : ℕ) → AreOver (with_place r ps) → (AreOver ps → later ≡ Some b → b < 65536) → address_for q r later ≡ Some b → b < 65536
word_for q (reach.Scalar p) later ps b over rest e = choose (p.register == q) e
  where
    choose : (t : Bool) → (if t then Some p.address else later) ≡ Some b → b < 65536
    choose true f = let same : p.address ≡ b = cc in subst (λ a. a < 65536) same over.0.word
    choose false f = rest over.1 f
word_for q reach.Pointer later ps b over rest e = rest over e
word_for q (reach.Word a) later ps b over rest e = rest over e
word_for q (reach.Constant c) later ps b over rest e = rest over e

next_word : (q : ℕ) (xs : List Step) (b : ℕ) → AreOver (accessed xs) → next_address q xs ≡ Some b → b < 65536
next_word q [] b over e = absurd cc
next_word q (x ∷ xs) b over e = word_for q x.reach (next_address q xs) (accessed xs) b over (next_word q xs b) e

-- where registers stand behind an access
stand_behind : (d : ℕ) (g : Known) (o : AccOp) (p : ScalarPlace) (xs : List Step) (last : ℕ → Option ℕ) → StandAs d g (step o (reach.Scalar p) ∷ xs) last → StandAs d (known_behind d g (reach.Scalar p) xs) xs (with_last last p)
stand_behind d g o p xs last stand q = choose (q == p.register) refl
  where
    choose : (b : Bool) → (q == p.register) ≡ b → (if b then Some (address_behind d p.address (change_to d p.address (next_address p.register xs))) else g.stands q) ≡ left_at d (next_address q xs) (if b then Some p.address else last q)
    choose true e = ap (λ r. Some (address_behind d p.address (change_to d p.address (next_address r xs)))) (sym (eqb-true q p.register e))
    choose false e = stand q ∙ ap (λ t. left_at d (if t then Some p.address else next_address q xs) (last q)) (turned q p.register false e)

-- the instruction before an access costs what the access does
cost_is : (d : ℕ) (g : Known) (o : AccOp) (p : ScalarPlace) (xs : List Step) (last : ℕ → Option ℕ) → StandAs d g (step o (reach.Scalar p) ∷ xs) last → move_count (g.stands p.register) p.address ≡ access_cost d (option_map pos (last p.register)) (pos p.address)
cost_is d g o p xs last stand =
    ap (λ k. move_count k p.address) (stand p.register ∙ ap (λ t. left_at d (if t then Some p.address else next_address p.register xs) (last p.register)) (eq-eqb p.register p.register refl))
    ∙ access_costs d p.address (last p.register)

-- a step, and the others behind it
abbrev OthersGive : ℕ → List Step → Type 0
OthersGive d xs = (g : Known) (last : ℕ → Option ℕ) (w : walk.Known) → WalkAlike d g xs w → StandAs d g xs last → AreOver (accessed xs) → Gives w (steps_code d g xs) (addresses (accessed xs)) (costs d last (accessed xs))

step_then : (d : ℕ) (g : Known) (o : AccOp) (r : Reach) (xs : List Step) (last : ℕ → Option ℕ) (w : walk.Known) → WalkAlike d g (step o r ∷ xs) w → StandAs d g (step o r ∷ xs) last → TakesReach o r → AreOver (with_place r (accessed xs)) → OthersGive d xs
    → Gives w (row_code d g o r xs ++ steps_code d (known_behind d g r xs) xs) (addresses (with_place r (accessed xs))) (costs d last (with_place r (accessed xs)))
step_then d g o (reach.Scalar p) xs last w alike stand takes over rest =
    let h : Known = known_behind d g (reach.Scalar p) xs in
    let code : List Instr = row_code d g o (reach.Scalar p) xs in
    let later : ℕ = costs d (with_last last p) (accessed xs) in
    let done = scalar_step d g o p xs w alike takes over.0 (λ b e. next_word p.register xs b over.1 e) in
    let others : Gives (known_after w code) (steps_code d h xs) (addresses (accessed xs)) later = rest h (with_last last p) (known_after w code) done.alike (stand_behind d g o p xs last stand) over.1 in
    subst (λ n. Gives w (code ++ steps_code d h xs) (p.address ∷ addresses (accessed xs)) (n + later)) (cost_is d g o p xs last stand)
    (gives_both w code (steps_code d h xs) (p.address ∷ []) (addresses (accessed xs)) (move_count (g.stands p.register) p.address) later done.gives others)
step_then d g o reach.Pointer xs last w alike stand takes over rest =
    let code : List Instr = row_code d g o reach.Pointer xs in
    let done = pointer_step d g o xs w alike takes in
    gives_after w code (steps_code d (known_behind d g reach.Pointer xs) xs) (addresses (accessed xs)) (costs d last (accessed xs)) done.gives
    (rest (known_behind d g reach.Pointer xs) last (known_after w code) done.alike stand over)
step_then d g o (reach.Word a) xs last w alike stand takes over rest =
    let code : List Instr = row_code d g o (reach.Word a) xs in
    let done = word_step d g o xs w a alike takes in
    gives_after w code (steps_code d (known_behind d g (reach.Word a) xs) xs) (addresses (accessed xs)) (costs d last (accessed xs)) done.gives
    (rest (known_behind d g (reach.Word a) xs) last (known_after w code) done.alike stand over)
step_then d g o (reach.Constant c) xs last w alike stand takes over rest =
    let code : List Instr = row_code d g o (reach.Constant c) xs in
    let done = constant_step d g o xs w c alike in
    gives_after w code (steps_code d g xs) (addresses (accessed xs)) (costs d last (accessed xs)) done.gives
    (rest g last (known_after w code) done.alike stand over)

steps_give : (d : ℕ) (xs : List Step) → TakeReaches xs → OthersGive d xs
steps_give d [] takes g last w alike stand over = gives_none w
steps_give d (x ∷ xs) takes g last w alike stand over = step_then d g x.row x.reach xs last w alike stand takes.0 over (steps_give d xs takes.1)

-- a run begins with AR0 loaded where it is needed
record Starts (d : ℕ) (b : Bool) (w : walk.Known) (code : List Instr) : Type 0 where
  gives : Gives w code [] (one_if b)
  index : b ≡ true → (known_after w code).ar 0 ≡ Some d

starts : (d : ℕ) (b : Bool) (w : walk.Known) → Starts d b w (if b then Lark 0 d ∷ [] else [])
starts d true w = record { gives = gives_counted w (Lark 0 d) true refl refl; index = λ e. refl }
starts d false w = record { gives = gives_none w; index = λ e. absurd cc }

run_gives : (d : ℕ) (xs : List Step) (w : walk.Known) → TakeReaches xs → AreOver (accessed xs) → Gives w (all_steps_code d xs) (addresses (accessed xs)) (one_if (moves_by_index d xs) + costs d no_last (accessed xs))
run_gives d xs w takes over =
    let start : Starts d (moves_by_index d xs) w (index_code d xs) = starts d (moves_by_index d xs) w in
    let alike : WalkAlike d nothing_known xs (known_after w (index_code d xs)) = record { here = λ r a low e. absurd cc; nowhere = λ e r. refl; current = λ e r f. absurd cc; index = start.index } in
    gives_both w (index_code d xs) (steps_code d nothing_known xs) [] (addresses (accessed xs)) (one_if (moves_by_index d xs)) (costs d no_last (accessed xs)) start.gives
    (steps_give d xs takes nothing_known no_last (known_after w (index_code d xs)) alike (λ r. refl) over)

addresses_of : (s : Places) (ns : List ℕ) → addresses (map (place_of s) ns) ≡ map (address_of s) ns
addresses_of s [] = refl
addresses_of s (n ∷ ns) = ap (λ rest. address_of s n ∷ rest) (addresses_of s ns)

pub run_walks : (s : Places) (os : List Operation) (p : Placement) → AreOverScalars s.scalars → AreRight os → All (λ n. n < length s.scalars) (scalars_of os) → AgreesWith s p → WalksAs (run_code s os) (map (address_of s) (scalars_of os)) (block_cost s.step p (scalars_of os))
run_walks s os p over right all agrees =
    let ns : List ℕ = scalars_of os in
    let xs : List Step = steps_of s os in
    let places : accessed xs ≡ map (place_of s) ns = steps_access s os right in
    let lists : AreOver (accessed xs) = subst AreOver (sym places) (places_over s ns over) in
    let listed : addresses (accessed xs) ≡ map (address_of s) ns = ap addresses places ∙ addresses_of s ns in
    let cost : one_if (moves_by_index s.step xs) + costs s.step no_last (accessed xs) ≡ block_cost s.step p ns =
    ap (λ b. one_if b + costs s.step no_last (accessed xs)) (index_is s.step xs)
    ∙ ap (λ ps. one_if (are_stepped s.step no_last ps) + costs s.step no_last ps) places
    ∙ sym (block_counts s s.step ns)
    ∙ sym (agreeing_cost s p s.step agrees ns all) in
    walks_as (run_code s os) (map (address_of s) ns) (block_cost s.step p ns)
    (λ k. subst (Gives k (run_code s os) (map (address_of s) ns)) cost (subst (λ l. Gives k (run_code s os) l (one_if (moves_by_index s.step xs) + costs s.step no_last (accessed xs))) listed (run_gives s.step xs k (steps_take s os right) lists)))
