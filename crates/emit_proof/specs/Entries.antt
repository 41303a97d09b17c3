-- Entries of a function's code that stand in program memory, each label with an address of its own, whether a mark stands there or not.
use Rattle.std.specs.Prelude.{⊤, ◌≡◌, ◌<◌, ℕ, ◌+◌, List, [], ◌∷◌, ◌++◌}
use Rattle.c25_isa.specs.State.{Memory}
use Rattle.c25_isa.specs.declared.piece.PieceItem.{PieceItem}
use Rattle.c25_isa.specs.Pieces.{items_size, ItemsAt}
use Rattle.emit_proof.specs.Calls.{IsJumpTo}
use Rattle.emit_control.specs.declared.state.Before.{Before}
use Rattle.emit_control.specs.declared.state.Before.TheVariants.{Open, Shut, Gone}
use Rattle.emit_control.specs.Entries.{Entry, Run, Head, Place, Close, Branch, Goto, Dispatch, CallTo, CallHelper, Wipe, Ret, Finish}
use Rattle.emit_control.specs.Cuts.{State, entry_items, behind_entry}
use Rattle.emit_control.specs.Settings.{Setting}

-- control passes: something goes on to what stands behind
abbrev pub Passes : Before → Type 0
Passes Open = ⊤
Passes Shut = ⊤
Passes Gone = ⊥

-- entries at which control goes on at a label, maybe by a jump
abbrev pub BeginsAt : ℕ → List Entry → Type 0
BeginsAt k [] = ⊥
BeginsAt k (Run os ∷ es) = ⊥
BeginsAt k (Head l ∷ es) = ⊥
BeginsAt k (Place l ∷ es) = l ≡ k
BeginsAt k (Close h l ∷ es) = (l ≡ k) × BeginsAt k es
BeginsAt k (Branch t l ∷ es) = ⊥
BeginsAt k (Goto l ∷ es) = ⊥
BeginsAt k (Dispatch cs l b ∷ es) = ⊥
BeginsAt k (CallTo f ∷ es) = ⊥
BeginsAt k (CallHelper name ∷ es) = ⊥
BeginsAt k (Wipe v from l ∷ es) = ⊥
BeginsAt k (Ret ∷ es) = ⊥
BeginsAt k (Finish l ∷ es) = l ≡ k

-- the label of an entry has the address of its items, or that behind them
abbrev pub HasLabel : (ℕ → ℕ) → ℕ → ℕ → Entry → Type 0
HasLabel label pc behind (Head l) = label l ≡ pc
HasLabel label pc behind (Place l) = label l ≡ behind
HasLabel label pc behind (Finish l) = label l ≡ pc
HasLabel label pc behind e = ⊤

module _ (program : Memory) (marks : ℕ → ℕ) (names : List ℕ → ℕ) (m : Setting) (label : ℕ → ℕ) where
  -- an entry stands: its items, with its label; its jumps lead to their labels; and where control passes behind it there is a word
  pub record EntryAt (pc : ℕ) (s : State) (e : Entry) : Type 0 where
    pub items : ItemsAt program marks names pc (entry_items m s e)
    pub placed : HasLabel label pc (pc + items_size (entry_items m s e)) e
    pub jumps : (k : ℕ) → IsJumpTo k (entry_items m s e) → marks k ≡ label k
    pub room : Passes (behind_entry m s e).before → pc + items_size (entry_items m s e) < 65536

  abbrev pub EntriesAt : ℕ → State → List Entry → Type 0
  EntriesAt pc s [] = ⊤
  EntriesAt pc s (e ∷ es) = EntryAt pc s e × EntriesAt (pc + items_size (entry_items m s e)) (behind_entry m s e) es
