-- Control goes through the instructions of a run, and a piece jumps by its marks alone.
use Rattle.std.proofs.Common.{◌≡◌, ℕ, ◌-◌, Bool, true, false, List, [], ◌∷◌, ◌++◌, Option, Some, None, refl}
use Rattle.std.specs.Prelude.{⊤, nat_lt, ◌==◌, ◌&&◌, ◌/◌, if◌then◌else◌}
use Rattle.c25_isa.specs.declared.operand.Operand.{Operand}
use Rattle.c25_isa.specs.declared.instruction.Instr.{Instr}
use Rattle.c25_isa.specs.declared.instruction.Instr.TheVariants as instr
use Rattle.c25_isa.specs.Walk.{ends_stretch, jump_target}
use Rattle.acc_code.specs.declared.operation.AccOp.{AccOp}
use Rattle.acc_code.specs.declared.operation.AccOp.TheVariants as row
use Rattle.emit_blocks.specs.declared.step.Reach.{Reach}
use Rattle.emit_blocks.specs.declared.step.Reach.TheVariants as reach
use Rattle.emit_blocks.specs.declared.step.Step.{Step}
use Rattle.emit_blocks.specs.Places.{Places}
use Rattle.emit_blocks.specs.Instructions.{word_instr, constant_instr}
use Rattle.emit_blocks.specs.Moves.{moved, made_current, moves_by_index}
use Rattle.emit_blocks.specs.Steps.{Operation, steps_of}
use Rattle.emit_blocks.specs.Runs.{Known, nothing_known, is_page, page_code, row_code, known_behind, steps_code, index_code, run_code}

-- control goes on behind it, and nowhere else
pub record IsStraight (i : Instr) : Type 0 where
  pub goes_on : ends_stretch i ≡ false
  pub no_jump : jump_target i ≡ None

abbrev pub AreStraight : List Instr → Type 0
AreStraight [] = ⊤
AreStraight (i ∷ is) = IsStraight i × AreStraight is

pub straight_append : (a b : List Instr) → AreStraight a → AreStraight b → AreStraight (a ++ b)
straight_append [] b f g = g
straight_append (i ∷ a) b f g = (f.0, straight_append a b f.1 g)

straight : (i : Instr) → ends_stretch i ≡ false → jump_target i ≡ None → IsStraight i
straight i e f = record { goes_on = e; no_jump = f }

word_straight : (r : AccOp) (o : Operand) → IsStraight (word_instr r o)
word_straight row.Point o = straight _ refl refl
word_straight (row.Add s) o = straight _ refl refl
word_straight (row.Sub s) o = straight _ refl refl
word_straight (row.Lac s) o = straight _ refl refl
word_straight row.Mpy o = straight _ refl refl
word_straight row.Lt o = straight _ refl refl
word_straight row.Zals o = straight _ refl refl
word_straight row.Lact o = straight _ refl refl
word_straight row.Subs o = straight _ refl refl
word_straight row.Adds o = straight _ refl refl
word_straight row.Xor o = straight _ refl refl
word_straight row.Or o = straight _ refl refl
word_straight row.And o = straight _ refl refl
word_straight (row.Sacl s) o = straight _ refl refl
word_straight (row.Sach s) o = straight _ refl refl
word_straight (row.In s) o = straight _ refl refl
word_straight (row.Out s) o = straight _ refl refl
word_straight row.Mpyk o = straight _ refl refl
word_straight row.Lack o = straight _ refl refl
word_straight row.Addk o = straight _ refl refl
word_straight row.Subk o = straight _ refl refl
word_straight (row.Lalk s) o = straight _ refl refl
word_straight (row.Adlk s) o = straight _ refl refl
word_straight (row.Sblk s) o = straight _ refl refl
word_straight row.Andk o = straight _ refl refl
word_straight row.Ork o = straight _ refl refl
word_straight row.Xork o = straight _ refl refl
word_straight row.Dint o = straight _ refl refl
word_straight row.Rovm o = straight _ refl refl
word_straight row.Rsxm o = straight _ refl refl
word_straight row.Ssxm o = straight _ refl refl
word_straight row.Spm o = straight _ refl refl
word_straight row.Pac o = straight _ refl refl
word_straight row.Apac o = straight _ refl refl
word_straight row.Spac o = straight _ refl refl
word_straight row.Sfl o = straight _ refl refl
word_straight row.Sfr o = straight _ refl refl
word_straight row.Neg o = straight _ refl refl
word_straight row.Cmpl o = straight _ refl refl

constant_straight : (r : AccOp) (w : ℕ) → IsStraight (constant_instr r w)
constant_straight row.Point w = straight _ refl refl
constant_straight (row.Add s) w = straight _ refl refl
constant_straight (row.Sub s) w = straight _ refl refl
constant_straight (row.Lac s) w = straight _ refl refl
constant_straight row.Mpy w = straight _ refl refl
constant_straight row.Lt w = straight _ refl refl
constant_straight row.Zals w = straight _ refl refl
constant_straight row.Lact w = straight _ refl refl
constant_straight row.Subs w = straight _ refl refl
constant_straight row.Adds w = straight _ refl refl
constant_straight row.Xor w = straight _ refl refl
constant_straight row.Or w = straight _ refl refl
constant_straight row.And w = straight _ refl refl
constant_straight (row.Sacl s) w = straight _ refl refl
constant_straight (row.Sach s) w = straight _ refl refl
constant_straight (row.In s) w = straight _ refl refl
constant_straight (row.Out s) w = straight _ refl refl
constant_straight row.Mpyk w = straight _ refl refl
constant_straight row.Lack w = straight _ refl refl
constant_straight row.Addk w = straight _ refl refl
constant_straight row.Subk w = straight _ refl refl
constant_straight (row.Lalk s) w = straight _ refl refl
constant_straight (row.Adlk s) w = straight _ refl refl
constant_straight (row.Sblk s) w = straight _ refl refl
constant_straight row.Andk w = straight _ refl refl
constant_straight row.Ork w = straight _ refl refl
constant_straight row.Xork w = straight _ refl refl
constant_straight row.Dint w = straight _ refl refl
constant_straight row.Rovm w = straight _ refl refl
constant_straight row.Rsxm w = straight _ refl refl
constant_straight row.Ssxm w = straight _ refl refl
constant_straight row.Spm w = straight _ refl refl
constant_straight row.Pac w = straight _ refl refl
constant_straight row.Apac w = straight _ refl refl
constant_straight row.Spac w = straight _ refl refl
constant_straight row.Sfl w = straight _ refl refl
constant_straight row.Sfr w = straight _ refl refl
constant_straight row.Neg w = straight _ refl refl
constant_straight row.Cmpl w = straight _ refl refl

page_straight : (known : Option ℕ) (a : ℕ) → AreStraight (page_code known a)
page_straight known a = by (is_page known (a / 128))
  where
    by : (b : Bool) → AreStraight (if b then [] else instr.Ldpk (a / 128) ∷ [])
    by true = tt
    by false = (straight _ refl refl, tt)

current_straight : (known : Bool) (r : ℕ) → AreStraight (made_current known r)
current_straight true r = tt
current_straight false r = (straight _ refl refl, tt)

index_straight : (d : ℕ) (xs : List Step) → AreStraight (index_code d xs)
index_straight d xs = by (moves_by_index d xs)
  where
    by : (b : Bool) → AreStraight (if b then instr.Lark 0 d ∷ [] else [])
    by true = (straight _ refl refl, tt)
    by false = tt

moved_straight : (r : ℕ) (stands : Option ℕ) (a : ℕ) → AreStraight (moved r stands a)
moved_straight r None a = (straight _ refl refl, tt)
moved_straight r (Some p) a = by (p == a) (nat_lt p a && nat_lt (a - p) 256) (nat_lt a p && nat_lt (p - a) 256)
  where
    by : (b c d : Bool) → AreStraight (if b then [] else (if c then instr.Adrk (a - p) ∷ [] else (if d then instr.Sbrk (p - a) ∷ [] else instr.Lrlk r a ∷ [])))
    by true c d = tt
    by false true d = (straight _ refl refl, tt)
    by false false true = (straight _ refl refl, tt)
    by false false false = (straight _ refl refl, tt)

row_straight : (d : ℕ) (k : Known) (o : AccOp) (r : Reach) (xs : List Step) → AreStraight (row_code d k o r xs)
row_straight d k o (reach.Scalar p) xs =
    straight_append (moved p.register (k.stands p.register) p.address) _ (moved_straight p.register (k.stands p.register) p.address)
    (straight_append (made_current k.current p.register) _ (current_straight k.current p.register) (word_straight o _, tt))
row_straight d k o reach.Pointer xs = straight_append (made_current k.current 1) _ (current_straight k.current 1) (word_straight o _, tt)
row_straight d k o (reach.Word a) xs = straight_append (page_code k.page a) _ (page_straight k.page a) (word_straight o _, tt)
row_straight d k o (reach.Constant w) xs = (constant_straight o w, tt)

steps_straight : (d : ℕ) (xs : List Step) (k : Known) → AreStraight (steps_code d k xs)
steps_straight d [] k = tt
steps_straight d (x ∷ xs) k = straight_append (row_code d k x.row x.reach xs) _ (row_straight d k x.row x.reach xs) (steps_straight d xs (known_behind d k x.reach xs))

pub run_straight : (s : Places) (os : List Operation) → AreStraight (run_code s os)
run_straight s os = straight_append (index_code s.step (steps_of s os)) _ (index_straight s.step (steps_of s os)) (steps_straight s.step (steps_of s os) nothing_known)
