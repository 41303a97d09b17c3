-- The direct operands of the runs of a body: operands name the function's places, and scratch words are read behind stores of the same run.
use Rattle.std.proofs.Common.{◌≡◌, ℕ, Bool, true, List, [], ◌∷◌, ◌++◌, Option, refl, sym, subst}
use Rattle.std.specs.Prelude.{⊤}
use Rattle.c_tree.specs.declared.program.VarRef.{VarRef}
use Rattle.c25_isa.specs.Direct.{Words, Done, is_direct_from}
use Rattle.acc_code.specs.declared.operand.AccOperand.{AccOperand}
use Rattle.acc_code.specs.declared.operand.AccOperand.TheVariants as operand
use Rattle.acc_code.specs.declared.operation.AccOp.{AccOp}
use Rattle.acc_code.specs.Operands.{taken_by, IsTaken}
use Rattle.acc_code.specs.AccTree.{Item, Op, If, Loop, Switch, Case, Clear, Call, Helper, Break, Continue, Return, ItemList, end, item}
use Rattle.acc_code.specs.Emittable.{Throughout, Within, IsPlace, RefersRight, Stored, nothing_stored, stored_by, ReadsStored, IsEmittableBody}
use Rattle.emit_blocks.specs.Places.{Places}
use Rattle.emit_blocks.specs.Runs.{run_code}
use Rattle.emit_blocks.specs.Steps.{Operation, operation}
use Rattle.image_proof.specs.emit_control.Entries.{Entry, Run, Head, Place, Close, Branch, Goto, Dispatch, CallTo, CallHelper, Wipe, Ret, Finish}
use Rattle.image_proof.specs.emit_control.Flow.{body_entries}
use Rattle.image_proof.specs.emit_control.Settings.{Setting}
use Rattle.image_proof.specs.DirectPieces.{ScratchIsApart, OperandNames, ItemNames, EntryIsDirect, RunsAreDirect}
use Rattle.image_proof.specs.RunWalks.{placed_from}
use Rattle.image_proof.proofs.RunsFit.{RunHas, RunsHave, RunsFit, body_runs}
use Rattle.image_proof.proofs.DirectRuns.{run_direct}
use Rattle.image_proof.proofs.DirectOperations.{IsLowScratch, OperationNames, OperationsName, operations_name}

-- scratch words that were stored to, behind operations
abbrev after : Stored → List Operation → Stored
after stored [] = stored
after stored (o ∷ os) = after (stored_by o.row o.operand stored) os

after_append : (os : List Operation) (stored : Stored) (o : Operation) → after stored (os ++ o ∷ []) ≡ stored_by o.row o.operand (after stored os)
after_append [] stored o = refl
after_append (p ∷ os) stored o = after_append os (stored_by p.row p.operand stored) o

-- an operation whose operand is taken and named
record IsUsed (w : Words) (s : Places) (o : AccOp) (m : AccOperand) : Type 0 where
  names : OperandNames w s m
  taken : IsTaken (taken_by o) m
  low : IsLowScratch m

abbrev UsesItem : Words → Places → Item → Type 0
UsesItem w s (Op o m) = IsUsed w s o m
UsesItem w s x = ⊤

append_names : (w : Words) (s : Places) (os : List Operation) (stored : Stored) (o : Operation) → OperationsName w s stored os → OperationNames w s (after stored os) o.row o.operand → OperationsName w s stored (os ++ o ∷ [])
append_names w s [] stored o h n = (n, tt)
append_names w s (p ∷ os) stored o h n = (h.0, append_names w s os (stored_by p.row p.operand stored) o h.1 n)

-- of a run: its direct operands may be there, whatever its stretch did before
abbrev IsDirectRun : Words → Setting → List Operation → Type 0
IsDirectRun w m os = (d : Done) (at : ℕ) → is_direct_from w d (placed_from at (run_code m.places os)) ≡ true

module _ (w : Words) (m : Setting) (apart : ScratchIsApart w) where
  abbrev Names : List Operation → Type 0
  Names os = OperationsName w m.places nothing_stored os

  run : (os : List Operation) → Names os → IsDirectRun w m os
  run os n d at = run_direct w m.places os (operations_name w m.places apart os n) d at

  fit : (xs : ItemList) (os : List Operation) → Throughout (UsesItem w m.places) xs → ReadsStored (after nothing_stored os) xs → Names os → RunsFit (IsDirectRun w m) xs os
  fit end os u r n = run os n
  fit (item (Op o a) xs) os u r n =
      fit xs (os ++ operation o a ∷ []) u.2
      (subst (λ stored. ReadsStored stored xs) (sym (after_append os nothing_stored (operation o a))) r.1)
      (append_names w m.places os nothing_stored (operation o a) n (record { names = u.0.names; taken = u.0.taken; read = r.0; low = u.0.low }))
  fit (item (If t hit miss) xs) os u r n = (run os n, (fit hit [] u.1.0 r.0.0 tt, fit miss [] u.1.1 r.0.1 tt), fit xs [] u.2 r.1 tt)
  fit (item (Loop before body third last) xs) os u r n = (run os n, (fit before [] u.1.0 r.0.0 tt, fit body [] u.1.1 r.0.1 tt, fit third [] u.1.2 r.0.2 tt), fit xs [] u.2 r.1 tt)
  fit (item (Switch cases body) xs) os u r n = (run os n, fit body [] u.1 r.0 tt, fit xs [] u.2 r.1 tt)
  fit (item (Case k) xs) os u r n = (run os n, tt, fit xs [] u.2 r.1 tt)
  fit (item (Clear x from) xs) os u r n = (run os n, tt, fit xs [] u.2 r.1 tt)
  fit (item (Call f) xs) os u r n = (run os n, tt, fit xs [] u.2 r.1 tt)
  fit (item (Helper name) xs) os u r n = (run os n, tt, fit xs [] u.2 r.2 tt)
  fit (item Break xs) os u r n = (run os n, tt, fit xs [] u.2 r.1 tt)
  fit (item Continue xs) os u r n = (run os n, tt, fit xs [] u.2 r.1 tt)
  fit (item Return xs) os u r n = (run os n, tt, fit xs [] u.2 r.1 tt)

module _ (w : Words) (s : Places) (scalars : ℕ) (cells : VarRef → Option ℕ) (parameters : ℕ → Option ℕ) (helps : Bool) where
  low_scratch : (a : AccOperand) → IsPlace scalars cells parameters helps a → IsLowScratch a
  low_scratch operand.Nothing p = tt
  low_scratch (operand.Scalar n) p = tt
  low_scratch (operand.Direct v) p = tt
  low_scratch (operand.Param f n) p = tt
  low_scratch (operand.Scratch n) p = p
  low_scratch (operand.Number c) p = tt
  low_scratch (operand.Address v n) p = tt
  low_scratch operand.Pointed p = tt

  abbrev Refers : ItemList → Type 0
  Refers xs = Throughout (RefersRight scalars cells parameters helps) xs

  mutual
    uses : (xs : ItemList) → Refers xs → Throughout (ItemNames w s) xs → Throughout (UsesItem w s) xs
    uses end r n = tt
    uses (item x xs) r n = (uses_item x r.0 n.0, uses_within x r.1 n.1, uses xs r.2 n.2)

    uses_within : (x : Item) → Within (RefersRight scalars cells parameters helps) x → Within (ItemNames w s) x → Within (UsesItem w s) x
    uses_within (Op o a) r n = tt
    uses_within (If t hit miss) r n = (uses hit r.0 n.0, uses miss r.1 n.1)
    uses_within (Loop before body third last) r n = (uses before r.0 n.0, uses body r.1 n.1, uses third r.2 n.2)
    uses_within (Switch cases body) r n = uses body r n
    uses_within (Case k) r n = tt
    uses_within (Clear v from) r n = tt
    uses_within (Call f) r n = tt
    uses_within (Helper name) r n = tt
    uses_within Break r n = tt
    uses_within Continue r n = tt
    uses_within Return r n = tt

    uses_item : (x : Item) → RefersRight scalars cells parameters helps x → ItemNames w s x → UsesItem w s x
    uses_item (Op o a) r n = record { names = n; taken = r.taken; low = low_scratch a r.there }
    uses_item (If t hit miss) r n = tt
    uses_item (Loop before body third last) r n = tt
    uses_item (Switch cases body) r n = tt
    uses_item (Case k) r n = tt
    uses_item (Clear v from) r n = tt
    uses_item (Call f) r n = tt
    uses_item (Helper name) r n = tt
    uses_item Break r n = tt
    uses_item Continue r n = tt
    uses_item Return r n = tt

entry_direct : (w : Words) (m : Setting) (e : Entry) → RunHas (IsDirectRun w m) e → EntryIsDirect w m e
entry_direct w m (Run os) h = h
entry_direct w m (Head l) h = tt
entry_direct w m (Place l) h = tt
entry_direct w m (Close head l) h = tt
entry_direct w m (Branch t l) h = tt
entry_direct w m (Goto l) h = tt
entry_direct w m (Dispatch cs l behind) h = tt
entry_direct w m (CallTo f) h = tt
entry_direct w m (CallHelper name) h = tt
entry_direct w m (Wipe v from l) h = tt
entry_direct w m Ret h = tt
entry_direct w m (Finish l) h = tt

entries_direct : (w : Words) (m : Setting) (es : List Entry) → RunsHave (IsDirectRun w m) es → RunsAreDirect w m es
entries_direct w m [] h = tt
entries_direct w m (e ∷ es) h = (entry_direct w m e h.0, entries_direct w m es h.1)

pub body_direct : (w : Words) (m : Setting) (scalars : ℕ) (cells : VarRef → Option ℕ) (parameters : ℕ → Option ℕ) (helps : Bool) (body : ItemList) → ScratchIsApart w → IsEmittableBody scalars cells parameters helps body
    → Throughout (ItemNames w m.places) body → RunsAreDirect w m (body_entries body)
body_direct w m scalars cells parameters helps body apart emittable names =
    entries_direct w m (body_entries body)
    (body_runs (IsDirectRun w m) body (fit w m apart body [] (uses w m.places scalars cells parameters helps body emittable.refers names) emittable.scratch tt))
