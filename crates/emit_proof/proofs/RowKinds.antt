-- Rows by what they do with their operand; and what those that only read leave as it is.
use Rattle.std.proofs.Common.{◌≡◌, ℕ, ◌<◌, true, Option, Some, None, refl, subst}
use Rattle.std.proofs.lemmas.Option.{none-some, same_Some}
use Rattle.c25_isa.specs.declared.operand.Operand.TheVariants.{Direct as At}
use Rattle.c25_isa.specs.declared.instruction.Instr.{Instr}
use Rattle.c25_isa.specs.Step.{plus, minus}
use Rattle.c25_code.specs.Work.{Work}
use Rattle.c25_code.specs.Straight.{behind_instr, output_of}
use Rattle.c_tree.specs.declared.program.VarRef.{VarRef}
use Rattle.acc_code.specs.declared.operand.AccOperand.{AccOperand}
use Rattle.acc_code.specs.declared.operand.AccOperand.TheVariants as operand
use Rattle.acc_code.specs.declared.operation.AccOp.{AccOp}
use Rattle.acc_code.specs.declared.operation.AccOp.TheVariants as row
use Rattle.acc_code.specs.Operands.{No_operand, Read_word, Constant8, Constant13, Constant16, taken_by, IsTaken, has_13_bits}
use Rattle.ir_semantics.specs.TreeRun.{Addresses}
use Rattle.ir_semantics.specs.AccRows.{Acc, Registers, with_acc, acc_becomes, multiplied, scaled_by_t, with_product, combined, acted}
use Rattle.ir_semantics.specs.AccRun.{Machine, held, act, act_on}
use Rattle.emit_blocks.specs.Instructions.{word_instr, constant_instr}
use Rattle.emit_blocks.specs.Right.{IsConstantOf}
use Rattle.emit_proof.specs.Rows.{WorksOnWord, WorksOnConstant}

-- an instruction leaves data memory, AR1, the ports and the hardware stack, and puts nothing
pub record Leaves (i : Instr) (w : Work) : Type 0 where
  pub ram : (behind_instr i w).ram ≡ w.ram
  pub pointer : (behind_instr i w).ar 1 ≡ w.ar 1
  pub input : (behind_instr i w).input ≡ w.input
  pub stack : (behind_instr i w).stack ≡ w.stack
  pub puts : output_of i w ≡ None

-- an operation that works on the registers alone, with its operand as far as that is known
pub record ActsOnRegisters (o : AccOp) : Type 0 where
  pub acts : (at : Addresses) (m : AccOperand) (v : Machine) → act at o m v ≡ act_on o (held at m v) v
  pub points : (x : ℕ) (r s : Registers) → acted o x r ≡ Some s → s.pointed ≡ r.pointed

pub record ReadsWord (o : AccOp) : Type 0 where
  pub works : WorksOnWord o
  pub registers : ActsOnRegisters o
  pub leaves : (n : ℕ) (w : Work) → Leaves (word_instr o (At n)) w
  pub taken : (m : AccOperand) → IsTaken (taken_by o) m → IsTaken Read_word m

-- an operand of an operation that works on a constant or on the registers, with constants of its row
pub data ConstantOperand : AccOp → AccOperand → Type 0 where
  NoneIs : (o : AccOp) → IsConstantOf o 0 → ConstantOperand o operand.Nothing
  NumberIs : (o : AccOp) (c : ℕ) → IsConstantOf o c → ConstantOperand o (operand.Number c)
  AddressIs : (o : AccOp) (v : VarRef) (i : ℕ) → ((c : ℕ) → IsConstantOf o c) → ConstantOperand o (operand.Address v i)

pub record TakesConstant (o : AccOp) : Type 0 where
  pub works : WorksOnConstant o
  pub registers : ActsOnRegisters o
  pub leaves : (c : ℕ) (w : Work) → Leaves (constant_instr o c) w
  pub operands : (m : AccOperand) → IsTaken (taken_by o) m → ConstantOperand o m

pub data Kind : AccOp → Type 0 where
  Points : Kind row.Point
  StoresLow : (shift : ℕ) → Kind (row.Sacl shift)
  StoresHigh : (shift : ℕ) → Kind (row.Sach shift)
  TakesIn : (port : ℕ) → Kind (row.In port)
  PutsOut : (port : ℕ) → Kind (row.Out port)
  Reads : (o : AccOp) → ReadsWord o → Kind o
  OnConstant : (o : AccOp) → TakesConstant o → Kind o

-- what registers point to where one of the others changes
some_points : (r s t : Registers) → t.pointed ≡ r.pointed → Some t ≡ Some s → s.pointed ≡ r.pointed
some_points r s t same e = subst (λ u. u.pointed ≡ r.pointed) (same_Some t s e) same

become_points : (a : Option Acc) (r s : Registers) → acc_becomes a r ≡ Some s → s.pointed ≡ r.pointed
become_points None r s e = absurd (none-some s e)
become_points (Some a) r s e = some_points r s (with_acc a r) refl e

multiplied_points : (t : Option ℕ) (x : ℕ) (r s : Registers) → multiplied t x r ≡ Some s → s.pointed ≡ r.pointed
multiplied_points None x r s e = absurd (none-some s e)
multiplied_points (Some t) x r s e = some_points r s _ refl e

by_t_points : (t : Option ℕ) (x : ℕ) (r s : Registers) → scaled_by_t t x r ≡ Some s → s.pointed ≡ r.pointed
by_t_points None x r s e = absurd (none-some s e)
by_t_points (Some t) x r s e = some_points r s _ refl e

product_points : (f : Acc → Acc → Option Acc) (p : Option ℕ) (r s : Registers) → with_product f p r ≡ Some s → s.pointed ≡ r.pointed
product_points f None r s e = absurd (none-some s e)
product_points f (Some p) r s e = become_points _ r s e

-- by what rows take
no_operand : (o : AccOp) → IsConstantOf o 0 → (m : AccOperand) → IsTaken No_operand m → ConstantOperand o m
no_operand o fits operand.Nothing taken = NoneIs o fits
no_operand o fits (operand.Scalar n) taken = absurd taken
no_operand o fits (operand.Direct v) taken = absurd taken
no_operand o fits (operand.Param f i) taken = absurd taken
no_operand o fits (operand.Scratch n) taken = absurd taken
no_operand o fits (operand.Number c) taken = absurd taken
no_operand o fits (operand.Address v i) taken = absurd taken
no_operand o fits operand.Pointed taken = absurd taken

byte_operand : (o : AccOp) → ((c : ℕ) → c < 256 → IsConstantOf o c) → (m : AccOperand) → IsTaken Constant8 m → ConstantOperand o m
byte_operand o fits operand.Nothing taken = absurd taken
byte_operand o fits (operand.Scalar n) taken = absurd taken
byte_operand o fits (operand.Direct v) taken = absurd taken
byte_operand o fits (operand.Param f i) taken = absurd taken
byte_operand o fits (operand.Scratch n) taken = absurd taken
byte_operand o fits (operand.Number c) taken = NumberIs o c (fits c taken)
byte_operand o fits (operand.Address v i) taken = absurd taken
byte_operand o fits operand.Pointed taken = absurd taken

signed_operand : (o : AccOp) → ((c : ℕ) → has_13_bits c ≡ true → IsConstantOf o c) → (m : AccOperand) → IsTaken Constant13 m → ConstantOperand o m
signed_operand o fits operand.Nothing taken = absurd taken
signed_operand o fits (operand.Scalar n) taken = absurd taken
signed_operand o fits (operand.Direct v) taken = absurd taken
signed_operand o fits (operand.Param f i) taken = absurd taken
signed_operand o fits (operand.Scratch n) taken = absurd taken
signed_operand o fits (operand.Number c) taken = NumberIs o c (fits c taken)
signed_operand o fits (operand.Address v i) taken = absurd taken
signed_operand o fits operand.Pointed taken = absurd taken

word_operand : (o : AccOp) → ((c : ℕ) → IsConstantOf o c) → (m : AccOperand) → IsTaken Constant16 m → ConstantOperand o m
word_operand o fits operand.Nothing taken = absurd taken
word_operand o fits (operand.Scalar n) taken = absurd taken
word_operand o fits (operand.Direct v) taken = absurd taken
word_operand o fits (operand.Param f i) taken = absurd taken
word_operand o fits (operand.Scratch n) taken = absurd taken
word_operand o fits (operand.Number c) taken = NumberIs o c (fits c)
word_operand o fits (operand.Address v i) taken = AddressIs o v i fits
word_operand o fits operand.Pointed taken = absurd taken

pub kind_of : (o : AccOp) → Kind o
kind_of row.Point = Points
kind_of (row.Sacl shift) = StoresLow shift
kind_of (row.Sach shift) = StoresHigh shift
kind_of (row.In port) = TakesIn port
kind_of (row.Out port) = PutsOut port
kind_of (row.Add shift) = Reads (row.Add shift) (record { works = tt; registers = record { acts = λ at m v. refl; points = λ x r s e. become_points _ r s e }; leaves = λ n w. record { ram = refl; pointer = refl; input = refl; stack = refl; puts = refl }; taken = λ m t. t })
kind_of (row.Sub shift) = Reads (row.Sub shift) (record { works = tt; registers = record { acts = λ at m v. refl; points = λ x r s e. become_points _ r s e }; leaves = λ n w. record { ram = refl; pointer = refl; input = refl; stack = refl; puts = refl }; taken = λ m t. t })
kind_of (row.Lac shift) = Reads (row.Lac shift) (record { works = tt; registers = record { acts = λ at m v. refl; points = λ x r s e. some_points r s _ refl e }; leaves = λ n w. record { ram = refl; pointer = refl; input = refl; stack = refl; puts = refl }; taken = λ m t. t })
kind_of row.Mpy = Reads row.Mpy (record { works = tt; registers = record { acts = λ at m v. refl; points = λ x r s e. multiplied_points r.t x r s e }; leaves = λ n w. record { ram = refl; pointer = refl; input = refl; stack = refl; puts = refl }; taken = λ m t. t })
kind_of row.Lt = Reads row.Lt (record { works = tt; registers = record { acts = λ at m v. refl; points = λ x r s e. some_points r s _ refl e }; leaves = λ n w. record { ram = refl; pointer = refl; input = refl; stack = refl; puts = refl }; taken = λ m t. t })
kind_of row.Zals = Reads row.Zals (record { works = tt; registers = record { acts = λ at m v. refl; points = λ x r s e. some_points r s _ refl e }; leaves = λ n w. record { ram = refl; pointer = refl; input = refl; stack = refl; puts = refl }; taken = λ m t. t })
kind_of row.Lact = Reads row.Lact (record { works = tt; registers = record { acts = λ at m v. refl; points = λ x r s e. by_t_points r.t x r s e }; leaves = λ n w. record { ram = refl; pointer = refl; input = refl; stack = refl; puts = refl }; taken = λ m t. t })
kind_of row.Subs = Reads row.Subs (record { works = tt; registers = record { acts = λ at m v. refl; points = λ x r s e. become_points _ r s e }; leaves = λ n w. record { ram = refl; pointer = refl; input = refl; stack = refl; puts = refl }; taken = λ m t. t })
kind_of row.Adds = Reads row.Adds (record { works = tt; registers = record { acts = λ at m v. refl; points = λ x r s e. become_points _ r s e }; leaves = λ n w. record { ram = refl; pointer = refl; input = refl; stack = refl; puts = refl }; taken = λ m t. t })
kind_of row.Xor = Reads row.Xor (record { works = tt; registers = record { acts = λ at m v. refl; points = λ x r s e. become_points _ r s e }; leaves = λ n w. record { ram = refl; pointer = refl; input = refl; stack = refl; puts = refl }; taken = λ m t. t })
kind_of row.Or = Reads row.Or (record { works = tt; registers = record { acts = λ at m v. refl; points = λ x r s e. become_points _ r s e }; leaves = λ n w. record { ram = refl; pointer = refl; input = refl; stack = refl; puts = refl }; taken = λ m t. t })
kind_of row.And = Reads row.And (record { works = tt; registers = record { acts = λ at m v. refl; points = λ x r s e. become_points _ r s e }; leaves = λ n w. record { ram = refl; pointer = refl; input = refl; stack = refl; puts = refl }; taken = λ m t. t })
kind_of row.Mpyk = OnConstant row.Mpyk (record { works = tt; registers = record { acts = λ at m v. refl; points = λ x r s e. multiplied_points r.t x r s e }; leaves = λ n w. record { ram = refl; pointer = refl; input = refl; stack = refl; puts = refl }; operands = signed_operand row.Mpyk (λ c fits. fits) })
kind_of row.Lack = OnConstant row.Lack (record { works = tt; registers = record { acts = λ at m v. refl; points = λ x r s e. some_points r s _ refl e }; leaves = λ n w. record { ram = refl; pointer = refl; input = refl; stack = refl; puts = refl }; operands = byte_operand row.Lack (λ c fits. fits) })
kind_of row.Addk = OnConstant row.Addk (record { works = tt; registers = record { acts = λ at m v. refl; points = λ x r s e. become_points _ r s e }; leaves = λ n w. record { ram = refl; pointer = refl; input = refl; stack = refl; puts = refl }; operands = byte_operand row.Addk (λ c fits. fits) })
kind_of row.Subk = OnConstant row.Subk (record { works = tt; registers = record { acts = λ at m v. refl; points = λ x r s e. become_points _ r s e }; leaves = λ n w. record { ram = refl; pointer = refl; input = refl; stack = refl; puts = refl }; operands = byte_operand row.Subk (λ c fits. fits) })
kind_of (row.Lalk shift) = OnConstant (row.Lalk shift) (record { works = tt; registers = record { acts = λ at m v. refl; points = λ x r s e. some_points r s _ refl e }; leaves = λ n w. record { ram = refl; pointer = refl; input = refl; stack = refl; puts = refl }; operands = word_operand (row.Lalk shift) (λ c. tt) })
kind_of (row.Adlk shift) = OnConstant (row.Adlk shift) (record { works = tt; registers = record { acts = λ at m v. refl; points = λ x r s e. become_points _ r s e }; leaves = λ n w. record { ram = refl; pointer = refl; input = refl; stack = refl; puts = refl }; operands = word_operand (row.Adlk shift) (λ c. tt) })
kind_of (row.Sblk shift) = OnConstant (row.Sblk shift) (record { works = tt; registers = record { acts = λ at m v. refl; points = λ x r s e. become_points _ r s e }; leaves = λ n w. record { ram = refl; pointer = refl; input = refl; stack = refl; puts = refl }; operands = word_operand (row.Sblk shift) (λ c. tt) })
kind_of row.Andk = OnConstant row.Andk (record { works = tt; registers = record { acts = λ at m v. refl; points = λ x r s e. become_points _ r s e }; leaves = λ n w. record { ram = refl; pointer = refl; input = refl; stack = refl; puts = refl }; operands = word_operand row.Andk (λ c. tt) })
kind_of row.Ork = OnConstant row.Ork (record { works = tt; registers = record { acts = λ at m v. refl; points = λ x r s e. become_points _ r s e }; leaves = λ n w. record { ram = refl; pointer = refl; input = refl; stack = refl; puts = refl }; operands = word_operand row.Ork (λ c. tt) })
kind_of row.Xork = OnConstant row.Xork (record { works = tt; registers = record { acts = λ at m v. refl; points = λ x r s e. become_points _ r s e }; leaves = λ n w. record { ram = refl; pointer = refl; input = refl; stack = refl; puts = refl }; operands = word_operand row.Xork (λ c. tt) })
kind_of row.Dint = OnConstant row.Dint (record { works = tt; registers = record { acts = λ at m v. refl; points = λ x r s e. some_points r s _ refl e }; leaves = λ n w. record { ram = refl; pointer = refl; input = refl; stack = refl; puts = refl }; operands = no_operand row.Dint tt })
kind_of row.Rovm = OnConstant row.Rovm (record { works = tt; registers = record { acts = λ at m v. refl; points = λ x r s e. some_points r s _ refl e }; leaves = λ n w. record { ram = refl; pointer = refl; input = refl; stack = refl; puts = refl }; operands = no_operand row.Rovm tt })
kind_of row.Rsxm = OnConstant row.Rsxm (record { works = tt; registers = record { acts = λ at m v. refl; points = λ x r s e. some_points r s _ refl e }; leaves = λ n w. record { ram = refl; pointer = refl; input = refl; stack = refl; puts = refl }; operands = no_operand row.Rsxm tt })
kind_of row.Ssxm = OnConstant row.Ssxm (record { works = tt; registers = record { acts = λ at m v. refl; points = λ x r s e. some_points r s _ refl e }; leaves = λ n w. record { ram = refl; pointer = refl; input = refl; stack = refl; puts = refl }; operands = no_operand row.Ssxm tt })
kind_of row.Spm = OnConstant row.Spm (record { works = tt; registers = record { acts = λ at m v. refl; points = λ x r s e. some_points r s _ refl e }; leaves = λ n w. record { ram = refl; pointer = refl; input = refl; stack = refl; puts = refl }; operands = no_operand row.Spm tt })
kind_of row.Pac = OnConstant row.Pac (record { works = tt; registers = record { acts = λ at m v. refl; points = λ x r s e. product_points (λ a p. Some p) r.p r s e }; leaves = λ n w. record { ram = refl; pointer = refl; input = refl; stack = refl; puts = refl }; operands = no_operand row.Pac tt })
kind_of row.Apac = OnConstant row.Apac (record { works = tt; registers = record { acts = λ at m v. refl; points = λ x r s e. product_points (combined plus) r.p r s e }; leaves = λ n w. record { ram = refl; pointer = refl; input = refl; stack = refl; puts = refl }; operands = no_operand row.Apac tt })
kind_of row.Spac = OnConstant row.Spac (record { works = tt; registers = record { acts = λ at m v. refl; points = λ x r s e. product_points (combined minus) r.p r s e }; leaves = λ n w. record { ram = refl; pointer = refl; input = refl; stack = refl; puts = refl }; operands = no_operand row.Spac tt })
kind_of row.Sfl = OnConstant row.Sfl (record { works = tt; registers = record { acts = λ at m v. refl; points = λ x r s e. become_points _ r s e }; leaves = λ n w. record { ram = refl; pointer = refl; input = refl; stack = refl; puts = refl }; operands = no_operand row.Sfl tt })
kind_of row.Sfr = OnConstant row.Sfr (record { works = tt; registers = record { acts = λ at m v. refl; points = λ x r s e. become_points _ r s e }; leaves = λ n w. record { ram = refl; pointer = refl; input = refl; stack = refl; puts = refl }; operands = no_operand row.Sfr tt })
kind_of row.Neg = OnConstant row.Neg (record { works = tt; registers = record { acts = λ at m v. refl; points = λ x r s e. become_points _ r s e }; leaves = λ n w. record { ram = refl; pointer = refl; input = refl; stack = refl; puts = refl }; operands = no_operand row.Neg tt })
kind_of row.Cmpl = OnConstant row.Cmpl (record { works = tt; registers = record { acts = λ at m v. refl; points = λ x r s e. become_points _ r s e }; leaves = λ n w. record { ram = refl; pointer = refl; input = refl; stack = refl; puts = refl }; operands = no_operand row.Cmpl tt })
