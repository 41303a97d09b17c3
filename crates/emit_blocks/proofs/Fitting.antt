-- Each instruction of right steps is one of the machine's.
use Rattle.std.proofs.Common.{◌≡◌, ◌⊎◌, inl, inr, ℕ, ◌-◌, ◌/◌, ◌%◌, ◌<◌, ◌≤◌, pos, negsuc, Bool, true, false, nat_lt, ◌==◌, ◌&&◌, ◌||◌, if◌then◌else◌, List, [], ◌∷◌, ◌++◌, Option, Some, None, refl, lit<, rules, arith}
use Rattle.c25_isa.specs.declared.operand.Change.TheVariants.{Stay}
use Rattle.c25_isa.specs.declared.operand.Operand.{Operand}
use Rattle.c25_isa.specs.declared.operand.Operand.TheVariants.{Direct}
use Rattle.c25_isa.specs.declared.instruction.Instr.{Instr}
use Rattle.c25_isa.specs.declared.instruction.Instr.TheVariants.{Adrk, Sbrk, Lrlk, Lark, Ldpk}
use Rattle.c25_isa.specs.Table.{IsNext, IsOperand, IsSigned13, IsInstr}
use Rattle.acc_code.specs.declared.operation.AccOp.{AccOp}
use Rattle.acc_code.specs.declared.operation.AccOp.TheVariants as row
use Rattle.acc_code.specs.Operands.{HasRange, has_13_bits}
use Rattle.emit_blocks.specs.declared.step.Reach.{Reach}
use Rattle.emit_blocks.specs.declared.step.Reach.TheVariants as reach
use Rattle.emit_blocks.specs.declared.step.Step.{Step}
use Rattle.emit_blocks.specs.Instructions.{signed_constant, word_instr, constant_instr}
use Rattle.emit_blocks.specs.Moves.{next_address, register_for, next_register, change_to, moves_by_index, moved, other_than, indirect, made_current}
use Rattle.emit_blocks.specs.Runs.{Known, nothing_known, is_page, row_code, known_behind, steps_code, index_code, all_steps_code}
use Rattle.emit_blocks.specs.Right.{IsConstantOf, IsReachOf, HasWords, AreRightSteps, HaveWords, AreInstrs}

by_test : (P : Bool → Type 0) (b : Bool) → (b ≡ true → P true) → (b ≡ false → P false) → P b
by_test P true hit miss = hit refl
by_test P false hit miss = miss refl

either_test : (a b : Bool) → (a || b) ≡ true → (a ≡ true) ⊎ (b ≡ true)
either_test true b e = inl refl
either_test false b e = inr e

less_test : (m n : ℕ) → nat_lt m n ≡ true → m < n
less_test m n e = search rules

more_test : (m n : ℕ) → nat_lt m n ≡ false → n ≤ m
more_test m n e = search rules

low_fits : (w : ℕ) → nat_lt w 32768 ≡ true → has_13_bits w ≡ true → w < 4096
low_fits w low few =
    let below = less_test w 32768 low in
    elim (either_test (nat_lt w 4096) (nat_lt 61439 w) few) [ inl e ↦ less_test w 4096 e | inr e ↦ (let above = less_test 61439 w e in omega arith) ]

high_fits : (w : ℕ) → nat_lt w 32768 ≡ false → has_13_bits w ≡ true → 65535 - w < 4096
high_fits w high few =
    let above = more_test w 32768 high in
    elim (either_test (nat_lt w 4096) (nat_lt 61439 w) few) [ inl e ↦ (let below = less_test w 4096 e in omega arith) | inr e ↦ (let above = less_test 61439 w e in omega arith) ]

signed_fits : (w : ℕ) → has_13_bits w ≡ true → IsSigned13 (signed_constant w)
signed_fits w few =
    by_test (λ low. has_13_bits w ≡ true → IsSigned13 (if low then pos w else negsuc (65535 - w))) (nat_lt w 32768) (λ low few. low_fits w low few) (λ high few. high_fits w high few) few

word_instr_fits : (o : AccOp) (m : Operand) → HasRange o → IsOperand m → IsInstr (word_instr o m)
word_instr_fits row.Point m range fits = (lit< tt, fits)
word_instr_fits (row.Add s) m range fits = (range, fits)
word_instr_fits (row.Sub s) m range fits = (range, fits)
word_instr_fits (row.Lac s) m range fits = (range, fits)
word_instr_fits row.Mpy m range fits = fits
word_instr_fits row.Lt m range fits = fits
word_instr_fits row.Zals m range fits = fits
word_instr_fits row.Lact m range fits = fits
word_instr_fits row.Subs m range fits = fits
word_instr_fits row.Adds m range fits = fits
word_instr_fits row.Xor m range fits = fits
word_instr_fits row.Or m range fits = fits
word_instr_fits row.And m range fits = fits
word_instr_fits (row.Sacl s) m range fits = (range, fits)
word_instr_fits (row.Sach s) m range fits = (range, fits)
word_instr_fits (row.In port) m range fits = (range, fits)
word_instr_fits (row.Out port) m range fits = (range, fits)
word_instr_fits row.Mpyk m range fits = tt
word_instr_fits row.Lack m range fits = tt
word_instr_fits row.Addk m range fits = tt
word_instr_fits row.Subk m range fits = tt
word_instr_fits (row.Lalk s) m range fits = tt
word_instr_fits (row.Adlk s) m range fits = tt
word_instr_fits (row.Sblk s) m range fits = tt
word_instr_fits row.Andk m range fits = tt
word_instr_fits row.Ork m range fits = tt
word_instr_fits row.Xork m range fits = tt
word_instr_fits row.Dint m range fits = tt
word_instr_fits row.Rovm m range fits = tt
word_instr_fits row.Rsxm m range fits = tt
word_instr_fits row.Ssxm m range fits = tt
word_instr_fits row.Spm m range fits = tt
word_instr_fits row.Pac m range fits = tt
word_instr_fits row.Apac m range fits = tt
word_instr_fits row.Spac m range fits = tt
word_instr_fits row.Sfl m range fits = tt
word_instr_fits row.Sfr m range fits = tt
word_instr_fits row.Neg m range fits = tt
word_instr_fits row.Cmpl m range fits = tt

constant_instr_fits : (o : AccOp) (w : ℕ) → HasRange o → IsConstantOf o w → w < 65536 → IsInstr (constant_instr o w)
constant_instr_fits row.Point w range constant fits = (lit< tt, fits)
constant_instr_fits (row.Add s) w range constant fits = tt
constant_instr_fits (row.Sub s) w range constant fits = tt
constant_instr_fits (row.Lac s) w range constant fits = tt
constant_instr_fits row.Mpy w range constant fits = tt
constant_instr_fits row.Lt w range constant fits = tt
constant_instr_fits row.Zals w range constant fits = tt
constant_instr_fits row.Lact w range constant fits = tt
constant_instr_fits row.Subs w range constant fits = tt
constant_instr_fits row.Adds w range constant fits = tt
constant_instr_fits row.Xor w range constant fits = tt
constant_instr_fits row.Or w range constant fits = tt
constant_instr_fits row.And w range constant fits = tt
constant_instr_fits (row.Sacl s) w range constant fits = tt
constant_instr_fits (row.Sach s) w range constant fits = tt
constant_instr_fits (row.In port) w range constant fits = tt
constant_instr_fits (row.Out port) w range constant fits = tt
constant_instr_fits row.Mpyk w range constant fits = signed_fits w constant
constant_instr_fits row.Lack w range constant fits = constant
constant_instr_fits row.Addk w range constant fits = constant
constant_instr_fits row.Subk w range constant fits = constant
constant_instr_fits (row.Lalk s) w range constant fits = (range, fits)
constant_instr_fits (row.Adlk s) w range constant fits = (range, fits)
constant_instr_fits (row.Sblk s) w range constant fits = (range, fits)
constant_instr_fits row.Andk w range constant fits = fits
constant_instr_fits row.Ork w range constant fits = fits
constant_instr_fits row.Xork w range constant fits = fits
constant_instr_fits row.Dint w range constant fits = tt
constant_instr_fits row.Rovm w range constant fits = tt
constant_instr_fits row.Rsxm w range constant fits = tt
constant_instr_fits row.Ssxm w range constant fits = tt
constant_instr_fits row.Spm w range constant fits = tt
constant_instr_fits row.Pac w range constant fits = tt
constant_instr_fits row.Apac w range constant fits = tt
constant_instr_fits row.Spac w range constant fits = tt
constant_instr_fits row.Sfl w range constant fits = tt
constant_instr_fits row.Sfr w range constant fits = tt
constant_instr_fits row.Neg w range constant fits = tt
constant_instr_fits row.Cmpl w range constant fits = tt

both_fit : (a b : List Instr) → AreInstrs a → AreInstrs b → AreInstrs (a ++ b)
both_fit [] b fits more = more
both_fit (i ∷ a) b fits more = (fits.0, both_fit a b fits.1 more)

both_tests : (a b : Bool) → (a && b) ≡ true → b ≡ true
both_tests true b e = e
both_tests false b e = cc

moved_fits : (r : ℕ) (stands : Option ℕ) (a : ℕ) → r < 8 → a < 65536 → AreInstrs (moved r stands a)
moved_fits r None a few fits = ((few, fits), tt)
moved_fits r (Some p) a few fits =
    by_test (λ same. AreInstrs (if same then [] else (if nat_lt p a && nat_lt (a - p) 256 then Adrk (a - p) ∷ [] else (if nat_lt a p && nat_lt (p - a) 256 then Sbrk (p - a) ∷ [] else Lrlk r a ∷ []))))
    (p == a) (λ e. tt)
    (λ e. by_test (λ up. AreInstrs (if up then Adrk (a - p) ∷ [] else (if nat_lt a p && nat_lt (p - a) 256 then Sbrk (p - a) ∷ [] else Lrlk r a ∷ [])))
    (nat_lt p a && nat_lt (a - p) 256) (λ up. (less_test (a - p) 256 (both_tests (nat_lt p a) (nat_lt (a - p) 256) up), tt))
    (λ n. by_test (λ down. AreInstrs (if down then Sbrk (p - a) ∷ [] else Lrlk r a ∷ []))
    (nat_lt a p && nat_lt (p - a) 256) (λ down. (less_test (p - a) 256 (both_tests (nat_lt a p) (nat_lt (p - a) 256) down), tt))
    (λ far. ((few, fits), tt))))

made_current_fits : (current : Bool) (r : ℕ) → r < 8 → AreInstrs (made_current current r)
made_current_fits true r few = tt
made_current_fits false r few = (few, tt)

other_fits : (r : ℕ) (next : Option ℕ) → IsNext next → IsNext (other_than r next)
other_fits r None few = tt
other_fits r (Some q) few = by_test (λ same. IsNext (if same then None else Some q)) (q == r) (λ e. tt) (λ e. few)

register_fits : (o : AccOp) (r : Reach) (later : Option ℕ) → IsReachOf o r → IsNext later → IsNext (register_for r later)
register_fits o (reach.Scalar p) later reached fits = reached
register_fits o reach.Pointer later reached fits = lit< tt
register_fits o (reach.Word a) later reached fits = fits
register_fits o (reach.Constant w) later reached fits = fits

next_register_fits : (xs : List Step) → AreRightSteps xs → IsNext (next_register xs)
next_register_fits [] right = tt
next_register_fits (x ∷ xs) right = register_fits x.row x.reach (next_register xs) right.0.reached (next_register_fits xs right.1)

page_fits : (known : Bool) (a : ℕ) → a < 65536 → AreInstrs (if known then [] else Ldpk (a / 128) ∷ [])
page_fits true a fits = tt
page_fits false a fits = (omega arith, tt)

row_fits : (d : ℕ) (k : Known) (o : AccOp) (r : Reach) (xs : List Step) → HasRange o → IsReachOf o r → HasWords r → AreRightSteps xs → AreInstrs (row_code d k o r xs)
row_fits d k o (reach.Scalar p) xs range few fits right =
    both_fit _ _ (moved_fits p.register (k.stands p.register) p.address few fits)
    (both_fit _ _ (made_current_fits k.current p.register few)
    (word_instr_fits o (indirect (change_to d p.address (next_address p.register xs)) p.register (next_register xs)) range (other_fits p.register (next_register xs) (next_register_fits xs right)), tt))
row_fits d k o reach.Pointer xs range few fits right =
    both_fit _ _ (made_current_fits k.current 1 (lit< tt))
    (word_instr_fits o (indirect Stay 1 (next_register xs)) range (other_fits 1 (next_register xs) (next_register_fits xs right)), tt)
row_fits d k o (reach.Word a) xs range few fits right =
    both_fit _ _ (page_fits (is_page k.page (a / 128)) a fits) (word_instr_fits o (Direct (a % 128)) range (omega arith), tt)
row_fits d k o (reach.Constant w) xs range constant fits right = (constant_instr_fits o w range constant fits, tt)

steps_fit : (d : ℕ) (k : Known) (xs : List Step) → AreRightSteps xs → HaveWords xs → AreInstrs (steps_code d k xs)
steps_fit d k [] right words = tt
steps_fit d k (x ∷ xs) right words =
    both_fit (row_code d k x.row x.reach xs) _ (row_fits d k x.row x.reach xs right.0.range right.0.reached words.0 right.1)
    (steps_fit d (known_behind d k x.reach xs) xs right.1 words.1)

index_fits : (d : ℕ) (used : Bool) → d < 256 → AreInstrs (if used then Lark 0 d ∷ [] else [])
index_fits d true few = ((lit< tt, few), tt)
index_fits d false few = tt

pub all_steps_fit : (d : ℕ) (xs : List Step) → d < 256 → AreRightSteps xs → HaveWords xs → AreInstrs (all_steps_code d xs)
all_steps_fit d xs few right words = both_fit (index_code d xs) _ (index_fits d (moves_by_index d xs) few) (steps_fit d nothing_known xs right words)
