-- Code of an item is passed over, whatever it is.
use Rattle.std.proofs.Common.{ℕ, Bool, List, [], ◌∷◌, Option}
use Rattle.acc_code.specs.declared.item.CaseLabel.{CaseLabel}
use Rattle.acc_code.specs.declared.operation.Test.{Test}
use Rattle.acc_code.specs.AccTree.{ItemList}
use Rattle.emit_blocks.specs.Steps.{Operation}
use Rattle.emit_control.specs.declared.ways.Ways.{Ways}
use Rattle.emit_control.specs.Entries.{Entry, Dispatch, flushed}
use Rattle.emit_control.specs.Flow.{emit, if_code, loop_code}
use Rattle.emit_proof.proofs.Anywhere.{kept_anywhere, flush_keeps, if_keeps, loop_keeps}
use Rattle.emit_proof.proofs.Grounds.{Ground, Somewhere}
use Rattle.emit_proof.proofs.Skipping.{behind_first}

module _ (g : Ground) (es : List Entry) where
  abbrev LeadsOn : List Entry → Type 0
  LeadsOn ds = Somewhere g ds → Somewhere g es

  more : (e : Entry) (ds : List Entry) → LeadsOn ds → LeadsOn (e ∷ ds)
  more e ds h s = h (behind_first g e ds s)

  pub pass_run : (os : List Operation) (ds : List Entry) → LeadsOn ds → LeadsOn (flushed os ds)
  pass_run os ds h = flush_keeps LeadsOn more os ds h

  pub pass_if : (t : Test) (x y : Option ℕ) (hit miss : ItemList) (ways ways' : Ways) (base base' l next : ℕ) (ds : List Entry) → LeadsOn ds → LeadsOn (if_code t x y (emit hit [] ways base) (emit miss [] ways' base') l next ds)
  pass_if t x y hit miss ways ways' base base' l next ds h = if_keeps LeadsOn more x y t _ _ l next ds (kept_anywhere LeadsOn more hit [] ways base) (kept_anywhere LeadsOn more miss [] ways' base') h

  pub pass_loop : (none : Bool) (head start go : ℕ) (before body third : ItemList) (ways ways' ways'' : Ways) (base base' base'' next : ℕ) (ds : List Entry) → LeadsOn ds
      → LeadsOn (loop_code none head start go (emit before [] ways base) (emit body [] ways' base') (emit third [] ways'' base'') next ds)
  pass_loop none head start go before body third ways ways' ways'' base base' base'' next ds h =
      loop_keeps LeadsOn more none head start go _ _ _ next ds (kept_anywhere LeadsOn more before [] ways base) (kept_anywhere LeadsOn more body [] ways' base') (kept_anywhere LeadsOn more third [] ways'' base'') h

  pub pass_switch : (cs : List CaseLabel) (l behind : ℕ) (body : ItemList) (ways : Ways) (base next : ℕ) (ds : List Entry) → LeadsOn ds → LeadsOn (Dispatch cs l behind ∷ emit body [] ways base next ds)
  pass_switch cs l behind body ways base next ds h = more _ _ ((kept_anywhere LeadsOn more body [] ways base).by next ds h)
