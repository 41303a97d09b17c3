-- What stands behind code, whatever the code is, and what stands behind a label.
use Rattle.std.proofs.Common.{◌≡◌, ℕ, ◌+◌, Bool, true, false, List, ◌∷◌, sym, ◌∙◌, subst, arith}
use Rattle.acc_code.specs.AccTree.{ItemList}
use Rattle.emit_blocks.specs.Steps.{Operation}
use Rattle.emit_control.specs.declared.ways.Ways.{Ways}
use Rattle.emit_control.specs.declared.state.Before.{Before}
use Rattle.emit_control.specs.declared.state.Before.TheVariants.{Open, Shut, Gone}
use Rattle.emit_control.specs.Entries.{Entry, Head, Place}
use Rattle.emit_control.specs.Flow.{emit}
use Rattle.emit_control.specs.Cuts.{behind_place}
use Rattle.emit_proof.proofs.Anywhere.{kept_anywhere}
use Rattle.emit_proof.specs.Entries.{Passes}
use Rattle.emit_proof.proofs.Grounds.{Ground, StandAt, Standing, Somewhere}

pub place_passes : (n : Bool) (x : Before) (names : ℕ → Bool) (l : ℕ) → Passes (behind_place n l (record { before = x; named = names })).before
place_passes true x names l = tt
place_passes false Open names l = tt
place_passes false Shut names l = tt
place_passes false Gone names l = tt

module _ (g : Ground) where
  pub somewhere : (pc : ℕ) (es : List Entry) → Standing g pc es → Somewhere g es
  somewhere pc es s = record { pc = pc; state = s.state; at = s.at; lead = s.lead }

  pub behind_first : (e : Entry) (es : List Entry) → Somewhere g (e ∷ es) → Somewhere g es
  behind_first e es s = record { pc = _; state = _; at = s.at.1; lead = s.lead.1 }

  pub behind_code : (xs : ItemList) (os : List Operation) (ways : Ways) (base next : ℕ) (rest : List Entry) → Somewhere g (emit xs os ways base next rest) → Somewhere g rest
  behind_code xs os ways base next rest s = (kept_anywhere (λ es. Somewhere g es → Somewhere g rest) (λ e es f t. f (behind_first e es t)) xs os ways base).by next rest (λ t. t) s

  -- behind a label control passes
  pub placed : (l : ℕ) (es : List Entry) → Somewhere g (Place l ∷ es) → Standing g (g.label l) es
  placed l es s = record {
    state = behind_place (s.state.named l) l s.state;
    at = subst (λ a. StandAt g a (behind_place (s.state.named l) l s.state) es) (sym s.at.0.placed) s.at.1;
    lead = s.lead.1;
    passes = place_passes (s.state.named l) s.state.before s.state.named l;
  }

  pub headed : (l pc : ℕ) (es : List Entry) → Standing g pc (Head l ∷ es) → (g.label l ≡ pc) × Standing g (g.label l) es
  headed l pc es s =
      let e : pc + 0 ≡ pc = omega arith in (
        s.at.0.placed,
        record { state = record s.state { before = Shut }; at = subst (λ a. StandAt g a (record s.state { before = Shut }) es) (e ∙ sym s.at.0.placed) s.at.1; lead = s.lead.1; passes = tt },
      )
