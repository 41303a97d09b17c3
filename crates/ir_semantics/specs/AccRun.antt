-- What accumulator code does (docs/TRANSLATION.md, "What runs do"). A run stops where it needs what isn't known, so it is a function of the program,
-- whatever the machine holds elsewhere. Scratch words are known within a run of operations alone. Work counts an item, by its weight, when it
-- is begun.
use Rattle.std.specs.Prelude.{ℕ, zero, suc, ◌+◌, ◌-◌, ◌*◌, Bool, false, ◌==◌, if◌then◌else◌, List, [], ◌∷◌, length, slice_get, Option, Some, None}
use Rattle.word_base.specs.declared.outcome.Ending.TheVariants.{InputEnded}
use Rattle.word_base.specs.Words.{Calc, Good, Bad, int_quotient, unsigned_quotient, int_remainder, unsigned_remainder, int_shift_right, unsigned_shift_right}
use Rattle.c_tree.specs.declared.program.VarRef.{VarRef}
use Rattle.c_tree.specs.declared.program.VarRef.TheVariants.{Scalar, Local, Static}
use Rattle.c_tree.specs.TypedTree.{ObjectTree}
use Rattle.tree_code.specs.WordTree.{FunctionCode, ProgramCode}
use Rattle.acc_code.specs.declared.item.CaseLabel.{CaseLabel}
use Rattle.acc_code.specs.declared.item.CaseLabel.TheVariants.{Value, Default}
use Rattle.acc_code.specs.declared.operand.AccOperand.{AccOperand}
use Rattle.acc_code.specs.declared.operand.AccOperand.TheVariants as operand
use Rattle.acc_code.specs.declared.operand.HelperName.{HelperName}
use Rattle.acc_code.specs.declared.operand.HelperName.TheVariants as helper
use Rattle.acc_code.specs.declared.operation.AccOp.{AccOp}
use Rattle.acc_code.specs.declared.operation.AccOp.TheVariants as row
use Rattle.acc_code.specs.declared.operation.Test.{Test}
use Rattle.acc_code.specs.AccTree.{Item, Op, If, Loop, Switch, Case, Clear, Call, Helper, Break, Continue, Return, ItemList, end, item, FunctionItems}
use Rattle.ir_semantics.specs.Parts.{Gives, Finished, TooMany, Fails, Does, after, ◌>>=◌, give, choose, Flow, Next, Broke, Continued, Returned, in_order, behind_switch}
use Rattle.ir_semantics.specs.Outside.{Cell, Nowhere, Unwritten, Holds, Memory, Outside, Frame, no_words, with_scalar, with_word, word_of, with_output, with_input, with_memory, Places, address_of, cell_address, with_objects}
use Rattle.ir_semantics.specs.TreeRun.{Addresses, main_from}
use Rattle.ir_semantics.specs.AccRows.{Acc, Gone, Low, Registers, with_acc, low_half, whole_of, acted, low_stored, high_stored, holds, operation_weight}

-- the registers; the frame of the active function; the scratch words; which function is about to be called, and its parameters' words;
-- what is outside; and the work so far
pub record Machine : Type 0 where
  pub registers : Registers
  pub frame : Frame
  pub scratch : Frame
  pub given_to : ℕ
  pub given : Frame
  pub outside : Outside
  pub work : ℕ

abbrev pub tick : ℕ → Does Machine (Unit {0})
tick k = λ v. Gives tt (record v { work = v.work + k })

abbrev pub fail : {A : Type 0} → Does Machine A
fail = λ v. Fails v.outside.outs

abbrev pub too_many : {A : Type 0} → Does Machine A
too_many = λ v. TooMany v.outside.outs

-- the word at an address, where both are known
abbrev pub word_at : Option ℕ → Memory → Option ℕ
word_at None m = None
word_at (Some a) m = word_of (m a)

abbrev pub cell_at : Option ℕ → ℕ → Option ℕ
cell_at None i = None
cell_at (Some a) i = Some (cell_address a i)

-- what stands in an operand
abbrev pub held : Addresses → AccOperand → Machine → Option ℕ
held at operand.Nothing v = Some 0
held at (operand.Scalar n) v = v.frame n
held at (operand.Direct o) v = word_at (at o) v.outside.memory
held at (operand.Param f n) v = None
held at (operand.Scratch n) v = v.scratch n
held at (operand.Number w) v = Some w
held at (operand.Address o i) v = cell_at (at o) i
held at operand.Pointed v = word_at v.registers.pointed v.outside.memory

-- a word goes to memory, where an object lives
abbrev pub write_cell : Cell → ℕ → ℕ → Does Machine Flow
write_cell Nowhere a x = fail
write_cell Unwritten a x = λ v. Gives Next (record v { outside = with_memory (with_word a x v.outside.memory) v.outside })
write_cell (Holds y) a x = λ v. Gives Next (record v { outside = with_memory (with_word a x v.outside.memory) v.outside })

abbrev pub write_word : Option ℕ → ℕ → Does Machine Flow
write_word None x = fail
write_word (Some a) x = λ v. write_cell (v.outside.memory a) a x v

-- the words that were stored for a function: a store for another one forgets them
abbrev pub given_for : ℕ → Machine → Frame
given_for f v = if v.given_to == f then v.given else no_words

-- a word goes to an operand
abbrev pub store_to : Addresses → AccOperand → ℕ → Does Machine Flow
store_to at operand.Nothing x = fail
store_to at (operand.Scalar n) x = λ v. Gives Next (record v { frame = with_scalar n x v.frame })
store_to at (operand.Direct o) x = write_word (at o) x
store_to at (operand.Param f n) x = λ v. Gives Next (record v { given_to = f; given = with_scalar n x (given_for f v) })
store_to at (operand.Scratch n) x = λ v. Gives Next (record v { scratch = with_scalar n x v.scratch })
store_to at (operand.Number w) x = fail
store_to at (operand.Address o i) x = fail
store_to at operand.Pointed x = λ v. write_word v.registers.pointed x v

abbrev pub store : Addresses → AccOperand → Option ℕ → Does Machine Flow
store at m None = fail
store at m (Some x) = store_to at m x

abbrev pub put : ℕ → Option ℕ → Does Machine Flow
put port None = fail
put port (Some x) = λ v. Gives Next (record v { outside = with_output port x v.outside })

-- a port that has no word left ends the run; through a pointer only where a word could have been stored
abbrev pub input_ends : ℕ → Does Machine Flow
input_ends port = λ v. Finished (InputEnded port) v.outside.outs v.work

abbrev pub missing : AccOperand → ℕ → Does Machine Flow
missing operand.Pointed port = λ v. after (write_word v.registers.pointed 0 v) (λ flow. input_ends port)
missing m port = input_ends port

abbrev pub taken : Addresses → List ℕ → ℕ → AccOperand → Does Machine Flow
taken at [] port m = missing m port
taken at (x ∷ xs) port m = λ v. store_to at m x (record v { outside = with_input port xs v.outside })

abbrev pub registers_become : Option Registers → Does Machine Flow
registers_become None = fail
registers_become (Some r) = λ v. Gives Next (record v { registers = r })

abbrev pub act_on : AccOp → Option ℕ → Does Machine Flow
act_on o None = fail
act_on o (Some x) = λ v. registers_become (acted o x v.registers) v

abbrev pub act : Addresses → AccOp → AccOperand → Does Machine Flow
act at (row.Sacl shift) m = λ v. store at m (low_stored (low_half v.registers.acc) shift) v
act at (row.Sach shift) m = λ v. store at m (high_stored (whole_of v.registers.acc) shift) v
act at (row.In port) m = λ v. taken at (v.outside.input port) port m v
act at (row.Out port) m = λ v. put port (held at m v) v
act at o m = λ v. act_on o (held at m v) v

-- nothing is known of the scratch words, and nothing of the accumulator
abbrev pub without_scratch : Machine → Machine
without_scratch v = record v { scratch = no_words }

abbrev pub without_acc : Machine → Machine
without_acc v = record v { registers = with_acc Gone v.registers }

abbrev pub forgetting : Flow → Does Machine Flow
forgetting flow = λ v. Gives flow (without_scratch v)

-- an item that isn't an operation ends one run of operations and begins another one
abbrev pub between : Does Machine Flow → Does Machine Flow
between f = λ v. after (f (without_scratch v)) forgetting

-- one of two parts, by a test of all 32 bits, which stay as they are
abbrev pub tested : Test → Option ℕ → Does Machine Flow → Does Machine Flow → Does Machine Flow
tested t None hit miss = fail
tested t (Some z) hit miss = choose (holds t z) hit miss

-- behind the first or the third part of a loop, where nothing is continued; and behind a turn
abbrev pub behind_part : Flow → Does Machine Flow → Does Machine Flow
behind_part Next rest = rest
behind_part Broke rest = give Next
behind_part Continued rest = fail
behind_part Returned rest = give Returned

abbrev pub behind_turn : Flow → Does Machine Flow → Does Machine Flow
behind_turn Next rest = rest
behind_turn Broke rest = give Next
behind_turn Continued rest = rest
behind_turn Returned rest = give Returned

-- at most n turns, each behind the first part
abbrev pub turns : ℕ → Does Machine Flow → Does Machine Flow → Does Machine Flow → Does Machine Flow
turns zero before body third = before >>= λ flow. behind_part flow too_many
turns (suc n) before body third =
    before >>= λ flow. behind_part flow (tick 6 >>= λ _. body >>= λ flow. behind_turn flow (third >>= λ flow. behind_part flow (turns n before body third)))

-- the number of the label of a value, among labels of which the first has this number, and that of the default
abbrev pub value_label : ℕ → List CaseLabel → ℕ → Option ℕ
value_label z [] i = None
value_label z (Value x ∷ labels) i = if x == z then Some i else value_label z labels (suc i)
value_label z (Default ∷ labels) i = value_label z labels (suc i)

abbrev pub default_label : List CaseLabel → ℕ → Option ℕ
default_label [] i = None
default_label (Value x ∷ labels) i = default_label labels (suc i)
default_label (Default ∷ labels) i = Some i

abbrev pub or_else : Option ℕ → Option ℕ → Option ℕ
or_else None other = other
or_else (Some i) other = Some i

abbrev pub label_of : ℕ → List CaseLabel → Option ℕ
label_of z labels = or_else (value_label z labels 0) (default_label labels 0)

abbrev pub labels_weight : List CaseLabel → ℕ
labels_weight [] = 0
labels_weight (Value x ∷ labels) = 6 + labels_weight labels
labels_weight (Default ∷ labels) = 1 + labels_weight labels

-- from a label on, or behind the switch where there is none
abbrev pub entered_at : (ℕ → Does Machine Flow) → Option ℕ → Does Machine Flow
entered_at from None = give Next
entered_at from (Some i) = from i >>= behind_switch

abbrev pub switched : List CaseLabel → (ℕ → Does Machine Flow) → Option ℕ → Does Machine Flow
switched labels from None = fail
switched labels from (Some z) = λ v. entered_at from (label_of z labels) (without_acc v)

-- the label of this number
abbrev pub is_case : ℕ → Item → Bool
is_case i (Case j) = j == i
is_case i x = false

-- so many cells of an object, from one on, become 0
abbrev pub clear_cells : ℕ → ℕ → ℕ → Does Machine Flow
clear_cells a i zero = give Next
clear_cells a i (suc n) = write_word (Some (cell_address a i)) 0 >>= λ _. clear_cells a (suc i) n

abbrev pub cleared : Flow → Does Machine Flow
cleared flow = λ v. Gives flow (record v { registers = record v.registers { acc = Gone; pointed = None } })

abbrev pub cells_of : List ObjectTree → VarRef → Option ℕ
cells_of locals (Scalar n) = None
cells_of locals (Local n) = length_of (slice_get locals n)
  where
    length_of : Option ObjectTree → Option ℕ
    length_of None = None
    length_of (Some o) = Some o.length
cells_of locals (Static n) = None

-- the cells of an array of this length from one on
abbrev pub clear : Option ℕ → Option ℕ → ℕ → Does Machine Flow
clear None a from = fail
clear (Some n) None from = fail
clear (Some n) (Some a) from = tick (9 + 64 * n) >>= λ _. between (clear_cells a from (n - from) >>= cleared)

-- what a routine makes of its operands
abbrev pub helper_value : HelperName → ℕ → ℕ → Calc
helper_value helper.DivInt a b = int_quotient a b
helper_value helper.DivUnsigned a b = unsigned_quotient a b
helper_value helper.RemInt a b = int_remainder a b
helper_value helper.RemUnsigned a b = unsigned_remainder a b
helper_value helper.ShrInt a b = int_shift_right a b
helper_value helper.ShrUnsigned a b = unsigned_shift_right a b

-- behind a routine its value is the low half, and T, P and SXM aren't known
abbrev pub helped_with : Calc → Does Machine Flow
helped_with (Bad kind) = fail
helped_with (Good x) = λ v. Gives Next (without_scratch (record v { registers = record v.registers { acc = Low x; t = None; p = None; sxm = None } }))

abbrev pub helped : HelperName → Option ℕ → Option ℕ → Does Machine Flow
helped name None b = fail
helped name (Some a) None = fail
helped name (Some a) (Some b) = helped_with (helper_value name a b)

-- how often a loop may turn each time that it is executed, what calls do, and the names of the function's objects, and those objects
pub record Context : Type 0 where
  pub limit : ℕ
  pub calls : ℕ → Does Machine Flow
  pub at : Addresses
  pub locals : List ObjectTree

module _ (c : Context) where
  abbrev mutual
    pub run_item : Item → Does Machine Flow
    run_item (Op o m) = tick (operation_weight o m) >>= λ _. act c.at o m
    run_item (If t hit miss) = tick 4 >>= λ _. between (λ v. tested t (whole_of v.registers.acc) (run hit) (run miss) v)
    run_item (Loop before body third last) = tick 6 >>= λ _. between (turns c.limit (run before) (run body) (run third))
    run_item (Switch labels body) = tick (4 + labels_weight labels) >>= λ _. between (λ v. switched labels (λ i. run_from i body) (whole_of v.registers.acc) v)
    run_item (Case i) = tick 1 >>= λ _. forgetting Next
    run_item (Clear o from) = clear (cells_of c.locals o) (c.at o) from
    run_item (Call f) = tick 2 >>= λ _. between (c.calls f)
    run_item (Helper name) = tick 7 >>= λ _ v. helped name (v.scratch 0) (v.scratch 1) v
    run_item Break = tick 2 >>= λ _. forgetting Broke
    run_item Continue = tick 2 >>= λ _. forgetting Continued
    run_item Return = tick 3 >>= λ _. forgetting Returned

    pub run : ItemList → Does Machine Flow
    run end = give Next
    run (item x xs) = run_item x >>= λ flow. in_order flow (run xs)

    -- what stands behind a label
    pub run_from : ℕ → ItemList → Does Machine Flow
    run_from i end = give Next
    run_from i (item x xs) = choose (is_case i x) (run xs) (run_from i xs)

-- the frame at an entry: each parameter that is a scalar gets the word that was given for it, the first of them this one
abbrev pub given_frame : List VarRef → ℕ → Frame → Frame → Frame
given_frame [] i given frame = frame
given_frame (Scalar n ∷ ps) i given frame = given_frame ps (suc i) given (λ k. if k == n then given i else frame k)
given_frame (Local n ∷ ps) i given frame = given_frame ps (suc i) given frame
given_frame (Static n ∷ ps) i given frame = given_frame ps (suc i) given frame

abbrev pub with_given : Option ℕ → Option ℕ → Memory → Memory
with_given (Some a) (Some x) m = with_word a x m
with_given (Some a) None m = m
with_given None given m = m

-- and memory: parameters that are objects have what was given
abbrev pub given_memory : Addresses → List VarRef → ℕ → Frame → Memory → Memory
given_memory at [] i given m = m
given_memory at (p ∷ ps) i given m = given_memory at ps (suc i) given (with_given (at p) (given i) m)

-- at the entry of a function the words of its frame and of its objects are unwritten, but for what was given
abbrev pub entered : Places → ℕ → FunctionCode → Machine → Machine
entered q f g v = record {
  registers = record v.registers { acc = Gone; pointed = None };
  frame = given_frame g.params 0 (given_for f v) no_words;
  scratch = no_words;
  given_to = 0;
  given = no_words;
  outside = with_memory (given_memory (address_of q f) g.params 0 (given_for f v) (with_objects Unwritten q f 0 g.locals v.outside.memory)) v.outside;
  work = v.work + 5;
}

-- a return leaves the low half of ACC, and the end of a body nothing
abbrev pub at_most_low : Option ℕ → Acc
at_most_low None = Gone
at_most_low (Some x) = Low x

-- behind a call the caller's frame stands again, and the callee's objects have ended
abbrev pub left : Places → ℕ → FunctionCode → Acc → Frame → Machine → Machine
left q f g acc caller v = record {
  registers = record v.registers { acc = acc; pointed = None };
  frame = caller;
  scratch = no_words;
  given_to = 0;
  given = no_words;
  outside = with_memory (with_objects Nowhere q f 0 g.locals v.outside.memory) v.outside;
  work = v.work;
}

abbrev pub back : Places → ℕ → FunctionCode → Frame → Flow → Does Machine Flow
back q f g caller Next = λ v. Gives Next (left q f g Gone caller v)
back q f g caller Broke = fail
back q f g caller Continued = fail
back q f g caller Returned = λ v. Gives Next (left q f g (at_most_low (low_half v.registers.acc)) caller v)

-- a function: its parameters and objects, and its items
abbrev pub called : (ℕ → Does Machine Flow) → Places → ℕ → ℕ → Option FunctionCode → Option FunctionItems → Does Machine Flow
called calls q n f None items = too_many
called calls q n f (Some g) None = too_many
called calls q n f (Some g) (Some items) = λ v. after (run (record { limit = n; calls = calls; at = address_of q f; locals = g.locals }) items.body (entered q f g v)) (back q f g v.frame)

abbrev pub call_within : Places → List FunctionCode → List FunctionItems → ℕ → ℕ → ℕ → Does Machine Flow
call_within q fs gs n zero f = too_many
call_within q fs gs n (suc depth) f = called (call_within q fs gs n depth) q n f (slice_get fs f) (slice_get gs f)

-- a run of a whole program, of whose functions these are the items
abbrev pub run_items : Places → ProgramCode → List FunctionItems → ℕ → Does Machine Flow
run_items q p gs n = call_within q p.functions gs n (suc (length p.functions)) (main_from 0 p.functions)
