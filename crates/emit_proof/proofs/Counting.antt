-- How many instructions the steps of a run have.
use Rattle.std.proofs.Common.{ℕ, ◌+◌, ◌-◌, ◌*◌, ◌/◌, ◌%◌, ◌≤◌, Bool, true, false, if◌then◌else◌, List, [], ◌∷◌, ◌++◌, length, Option, Some, None, lit≤, arith, length-append}
use Rattle.std.specs.Prelude.{nat_lt, ◌==◌, ◌&&◌}
use Rattle.c25_isa.specs.declared.operand.Change.TheVariants.{Stay}
use Rattle.c25_isa.specs.declared.operand.Operand.TheVariants.{Direct}
use Rattle.c25_isa.specs.declared.instruction.Instr.{Instr}
use Rattle.c25_isa.specs.declared.instruction.Instr.TheVariants.{Adrk, Sbrk, Lrlk, Lark, Ldpk}
use Rattle.acc_code.specs.declared.operation.AccOp.{AccOp}
use Rattle.emit_blocks.specs.declared.step.Reach.{Reach}
use Rattle.emit_blocks.specs.declared.step.Reach.TheVariants as reach
use Rattle.emit_blocks.specs.declared.step.Step.{Step}
use Rattle.emit_blocks.specs.Moves.{next_address, next_register, change_to, moves_by_index, moved, indirect, made_current}
use Rattle.emit_blocks.specs.Instructions.{word_instr}
use Rattle.emit_blocks.specs.Runs.{Known, nothing_known, is_page, page_code, row_code, known_behind, steps_code, index_code, all_steps_code}
use Rattle.emit_proof.specs.Reaching.{before_row}

either_few : (b : Bool) (xs ys : List Instr) (n : ℕ) → length xs ≤ n → length ys ≤ n → length (if b then xs else ys) ≤ n
either_few true xs ys n few more = few
either_few false xs ys n few more = more

both_few : (xs ys : List Instr) (n m : ℕ) → length xs ≤ n → length ys ≤ m → length (xs ++ ys) ≤ n + m
both_few xs ys n m few more = let both = length-append xs ys in omega (arith, both, few, more)

moved_few : (r : ℕ) (s : Option ℕ) (a : ℕ) → length (moved r s a) ≤ 1
moved_few r None a = lit≤ tt
moved_few r (Some p) a =
    either_few (p == a) [] (if nat_lt p a && nat_lt (a - p) 256 then Adrk (a - p) ∷ [] else (if nat_lt a p && nat_lt (p - a) 256 then Sbrk (p - a) ∷ [] else Lrlk r a ∷ [])) 1 (lit≤ tt)
    (either_few (nat_lt p a && nat_lt (a - p) 256) (Adrk (a - p) ∷ []) (if nat_lt a p && nat_lt (p - a) 256 then Sbrk (p - a) ∷ [] else Lrlk r a ∷ []) 1 (lit≤ tt)
    (either_few (nat_lt a p && nat_lt (p - a) 256) (Sbrk (p - a) ∷ []) (Lrlk r a ∷ []) 1 (lit≤ tt) (lit≤ tt)))

current_few : (current : Bool) (r : ℕ) → length (made_current current r) ≤ 1
current_few true r = lit≤ tt
current_few false r = lit≤ tt

page_few : (known : Option ℕ) (a : ℕ) → length (page_code known a) ≤ 1
page_few known a = either_few (is_page known (a / 128)) [] (Ldpk (a / 128) ∷ []) 1 (lit≤ tt) (lit≤ tt)

pub before_few : (k : Known) (r : Reach) → length (before_row k r) ≤ 2
before_few k (reach.Scalar p) = both_few (moved p.register (k.stands p.register) p.address) (made_current k.current p.register) 1 1 (moved_few p.register (k.stands p.register) p.address) (current_few k.current p.register)
before_few k reach.Pointer = let few = current_few k.current 1 in omega (arith, few)
before_few k (reach.Word a) = let few = page_few k.page a in omega (arith, few)
before_few k (reach.Constant c) = lit≤ tt

pub row_few : (d : ℕ) (k : Known) (o : AccOp) (r : Reach) (xs : List Step) → length (row_code d k o r xs) ≤ 3
row_few d k o (reach.Scalar p) xs =
    let i : Instr = word_instr o (indirect (change_to d p.address (next_address p.register xs)) p.register (next_register xs)) in
    both_few (moved p.register (k.stands p.register) p.address) (made_current k.current p.register ++ i ∷ []) 1 2 (moved_few p.register (k.stands p.register) p.address)
    (both_few (made_current k.current p.register) (i ∷ []) 1 1 (current_few k.current p.register) (lit≤ tt))
row_few d k o reach.Pointer xs = let few = both_few (made_current k.current 1) (word_instr o (indirect Stay 1 (next_register xs)) ∷ []) 1 1 (current_few k.current 1) (lit≤ tt) in omega (arith, few)
row_few d k o (reach.Word a) xs = let few = both_few (page_code k.page a) (word_instr o (Direct (a % 128)) ∷ []) 1 1 (page_few k.page a) (lit≤ tt) in omega (arith, few)
row_few d k o (reach.Constant c) xs = lit≤ tt

pub index_few : (d : ℕ) (xs : List Step) → length (index_code d xs) ≤ 1
index_few d xs = either_few (moves_by_index d xs) (Lark 0 d ∷ []) [] 1 (lit≤ tt) (lit≤ tt)

steps_few : (d : ℕ) (k : Known) (xs : List Step) → length (steps_code d k xs) ≤ 3 * length xs
steps_few d k [] = lit≤ tt
steps_few d k (x ∷ xs) =
    let all = both_few (row_code d k x.row x.reach xs) (steps_code d (known_behind d k x.reach xs) xs) 3 (3 * length xs) (row_few d k x.row x.reach xs) (steps_few d (known_behind d k x.reach xs) xs) in
    omega (arith, all)

pub all_few : (d : ℕ) (xs : List Step) → length (all_steps_code d xs) ≤ 4 * length xs
all_few d [] = lit≤ tt
all_few d (x ∷ xs) =
    let all = both_few (index_code d (x ∷ xs)) (steps_code d nothing_known (x ∷ xs)) 1 (3 * length (x ∷ xs)) (index_few d (x ∷ xs)) (steps_few d nothing_known (x ∷ xs)) in
    omega (arith, all)
