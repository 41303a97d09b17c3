-- What is wanted of a function's runs, of its operands and of the word of its return address, so that direct operands name its places.
use Rattle.std.specs.Prelude.{◌≡◌, ⊤, ℕ, true, false, List, [], ◌∷◌, slice_get, Option, Some, None}
use Rattle.c25_isa.specs.Direct.{Words, Done, is_among, is_scratch, is_direct_from}
use Rattle.acc_code.specs.declared.operand.AccOperand.{AccOperand}
use Rattle.acc_code.specs.declared.operand.AccOperand.TheVariants as operand
use Rattle.acc_code.specs.AccTree.{Item, Op}
use Rattle.emit_blocks.specs.Places.{Places, object_address, parameters_in}
use Rattle.emit_blocks.specs.Runs.{run_code}
use Rattle.image_proof.specs.emit_control.Entries.{Entry, Run}
use Rattle.image_proof.specs.emit_control.Settings.{Setting}
use Rattle.image_proof.specs.RunWalks.{placed_from}

-- each direct operand of a run may be there, whatever its stretch did before
abbrev pub EntryIsDirect : Words → Setting → Entry → Type 0
EntryIsDirect w m (Run os) = (d : Done) (at : ℕ) → is_direct_from w d (placed_from at (run_code m.places os)) ≡ true
EntryIsDirect w m e = ⊤

abbrev pub RunsAreDirect : Words → Setting → List Entry → Type 0
RunsAreDirect w m [] = ⊤
RunsAreDirect w m (e ∷ es) = EntryIsDirect w m e × RunsAreDirect w m es

-- a place that a function reads and writes, outside its frame
pub record IsNamedPlace (w : Words) (word : ℕ) : Type 0 where
  pub outside : is_among word w.own ≡ false
  pub kept : is_scratch word ≡ false
  pub place : is_among word w.places ≡ true

-- a parameter of a function that is called
pub record IsGivenPlace (w : Words) (word : ℕ) : Type 0 where
  pub outside : is_among word w.own ≡ false
  pub kept : is_scratch word ≡ false
  pub given : is_among word w.given ≡ true

-- the word of the return address is a place of the function
abbrev pub KeepsReturn : Words → Option ℕ → Type 0
KeepsReturn w None = ⊤
KeepsReturn w (Some word) = IsNamedPlace w word

-- the words by which a range is judged
abbrev pub words : List ℕ → List ℕ → List ℕ → Words
words own places given = record { own = own; places = places; given = given }

-- scratch words lie in no frame
pub record ScratchIsApart (w : Words) : Type 0 where
  pub by : (a : ℕ) → is_scratch a ≡ true → is_among a w.own ≡ false

-- the word of an operand is among those that a function names
abbrev pub OperandNames : Words → Places → AccOperand → Type 0
OperandNames w s (operand.Direct v) = IsNamedPlace w (object_address s v)
OperandNames w s (operand.Param f n) = IsGivenPlace w (parameters_in (slice_get s.parameters f) n)
OperandNames w s m = ⊤

abbrev pub ItemNames : Words → Places → Item → Type 0
ItemNames w s (Op o m) = OperandNames w s m
ItemNames w s x = ⊤
