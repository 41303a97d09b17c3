-- Parts of a run of a typed program that carry its work so far, as those of word trees do: those of c_tree, each with what it costs.
use Rattle.std.specs.Prelude.{ℕ, ◌+◌, Bool, List, Option}
use Rattle.word_base.specs.declared.outcome.Ending.{Ending}
use Rattle.word_base.specs.declared.outcome.UndefinedKind.{UndefinedKind}
use Rattle.word_base.specs.Ports.{Input, Outputs}
use Rattle.c_tree.specs.Store as plain
use Rattle.c_tree.specs.Store.{Value, Store, with_object, with_cell}
use Rattle.ir_semantics.specs.SourceWork.{Work}
pub use Rattle.c_tree.specs.Store.{Cell, Unset, Holds, is_pointer}

-- what is known at a point of a run, and its work so far
pub record World : Type 0 where
  pub store : Store
  pub input : Input
  pub outs : Outputs
  pub work : ℕ

-- what a part of a run came to; a run that ended has its work
pub data Res (A : Type 0) : Type 0 where
  Gives : A → World → Res A
  Finished : Ending → Outputs → ℕ → Res A
  TooMany : Outputs → Res A
  Fails : UndefinedKind → ℕ → Outputs → Res A

abbrev pub Does : Type 0 → Type 0
Does A = World → Res A

abbrev pub after : {A B : Type 0} → Res A → (A → Does B) → Res B
after (Gives a w) next = next a w
after (Finished ending outs work) next = Finished ending outs work
after (TooMany outs) next = TooMany outs
after (Fails kind at outs) next = Fails kind at outs

infixl 10 ◌>>=◌
abbrev pub ◌>>=◌ : {A B : Type 0} → Does A → (A → Does B) → Does B
f >>= next = λ w. after (f w) next

abbrev pub give : {A : Type 0} → A → Does A
give a = λ w. Gives a w

abbrev pub fail : {A : Type 0} → UndefinedKind → ℕ → Does A
fail kind at = λ w. Fails kind at w.outs

-- a node counts before what it does
abbrev pub ticked : {A : Type 0} → ℕ → Does A → Does A
ticked k f = λ w. f (record w { work = w.work + k })

-- without the work, and with it
abbrev pub without_work : World → plain.World
without_work w = record { store = w.store; input = w.input; outs = w.outs }

abbrev pub at_work : {A : Type 0} → ℕ → plain.Res A → Res A
at_work k (plain.Gives a w) = Gives a (record { store = w.store; input = w.input; outs = w.outs; work = k })
at_work k (plain.Finished ending outs) = Finished ending outs k
at_work k (plain.TooMany outs) = TooMany outs
at_work k (plain.Fails kind at outs) = Fails kind at outs

-- a part of a run that costs this, and one that costs nothing
abbrev pub counted : {A : Type 0} → plain.Does A → Work → Does A
counted f work = λ w. at_work (w.work + work (without_work w)) (f (without_work w))

abbrev pub free : {A : Type 0} → plain.Does A → Does A
free f = λ w. at_work w.work (f (without_work w))

-- objects
abbrev pub load : ℕ → ℕ → Bool → ℕ → Does Value
load object i wanted at = free (plain.load object i wanted at)

abbrev pub read_cell : Option Cell → ℕ → Does Value
read_cell c at = free (plain.read_cell c at)

abbrev pub store_value : ℕ → ℕ → Value → World → World
store_value object i v w = record w { store = with_object object (with_cell (w.store.living object) i v) w.store }

abbrev pub write_cell : Option Cell → ℕ → ℕ → Value → ℕ → Does Value
write_cell c object i v at = free (plain.write_cell c object i v at)

abbrev pub save : ℕ → ℕ → Bool → Value → ℕ → Does Value
save object i wanted v at = free (plain.save object i wanted v at)

abbrev pub finish : ℕ → Does (Unit {0})
finish object = free (plain.finish object)

-- ports
abbrev pub taken : List ℕ → ℕ → World → Res Value
taken xs port w = at_work w.work (plain.taken xs port (without_work w))

abbrev pub take_word : ℕ → Does Value
take_word port = free (plain.take_word port)
