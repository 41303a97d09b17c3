-- Operations that the function may have: one behind another, and as the items of a list that they are.
use Rattle.std.proofs.Common.{◌≡◌, ℕ, ◌+◌, ◌<◌, List, [], ◌∷◌, ◌++◌, length, Option, Some, None, refl, sym, ap, ◌∙◌, subst}
use Rattle.acc_code.specs.declared.operand.AccOperand.{AccOperand}
use Rattle.acc_code.specs.declared.operand.AccOperand.TheVariants as operand
use Rattle.acc_code.specs.declared.operation.AccOp.{AccOp}
use Rattle.acc_code.specs.Emittable.{IsPlace, IsOperation, BelowCount, AtMostCells}
use Rattle.ir_semantics.specs.Parts.{Res, Gives, Finished, TooMany, Fails, Does, after, ◌>>=◌, Flow, Next, Broke, Continued, Returned, in_order}
use Rattle.ir_semantics.specs.AccRows.{operation_weight}
use Rattle.ir_semantics.specs.AccRun.{Machine, tick, act}
use Rattle.ir_semantics.specs.TreeRun.{Addresses}
use Rattle.emit_proof.specs.Standing.{IsNamed}
use Rattle.emit_blocks.specs.Places.{or_zero}
use Rattle.emit_blocks.specs.Right.{IsRight, AreRight}
use Rattle.emit_blocks.specs.Steps.{Operation, operation}
use Rattle.emit_proof.specs.Operations.{operate, AreNamed, IsUsable, AreUsable}
use Rattle.emit_proof.specs.Code.{IsPresent}
use Rattle.emit_proof.proofs.Grounds.{Ground, Founded}
use Rattle.emit_proof.proofs.Alike.{SameObject, act_alike}

pub record IsFit (g : Ground) (o : Operation) : Type 0 where
  pub right : IsRight o
  pub named : IsNamed g.site.places g.site.counts g.site.kept o.operand
  pub usable : IsUsable g.site o.row o.operand
  pub same : SameObject g.context.at g.site.at o.operand

abbrev pub AreFit : Ground → List Operation → Type 0
AreFit g [] = Unit {0}
AreFit g (o ∷ os) = IsFit g o × AreFit g os

module _ (g : Ground) where
  pub are_right : (os : List Operation) → AreFit g os → AreRight os
  are_right [] h = tt
  are_right (o ∷ os) h = (h.0.right, are_right os h.1)

  pub are_named : (os : List Operation) → AreFit g os → AreNamed g.site os
  are_named [] h = tt
  are_named (o ∷ os) h = (h.0.named, are_named os h.1)

  pub are_usable : (os : List Operation) → AreFit g os → AreUsable g.site os
  are_usable [] h = tt
  are_usable (o ∷ os) h = (h.0.usable, are_usable os h.1)

  pub fit_more : (os : List Operation) (o : Operation) → AreFit g os → IsFit g o → AreFit g (os ++ o ∷ [])
  fit_more [] o h more = (more, tt)
  fit_more (p ∷ os) o h more = (h.0, fit_more os o h.1 more)

  behind_alike : (f f' : Does Machine Flow) → ((u : Machine) → f u ≡ f' u) → (r : Res Machine Flow) → after r (λ flow. in_order flow f) ≡ after r (λ flow. in_order flow f')
  behind_alike f f' e (Gives Next u) = e u
  behind_alike f f' e (Gives Broke u) = refl
  behind_alike f f' e (Gives Continued u) = refl
  behind_alike f f' e (Gives Returned u) = refl
  behind_alike f f' e (Finished ending outs total) = refl
  behind_alike f f' e (TooMany outs) = refl
  behind_alike f f' e (Fails outs) = refl

  pub operate_alike : (os : List Operation) → AreFit g os → (v : Machine) → operate g.context.at os v ≡ operate g.site.at os v
  operate_alike [] h v = refl
  operate_alike (o ∷ os) h v =
      let u : Machine = record v { work = v.work + operation_weight o.row o.operand } in
      ap (λ r. after r (λ flow. in_order flow (operate g.context.at os))) (act_alike g.context.at g.site.at o.row o.operand u h.0.same)
      ∙ behind_alike (operate g.context.at os) (operate g.site.at os) (operate_alike os h.1) (act g.site.at o.row o.operand u)

  -- an operation that the function may have
  module _ (f : Founded g) where
    named_place : (m : AccOperand) → IsPlace (length g.site.places.scalars) g.cells g.parameters g.helps m → IsNamed g.site.places g.site.counts g.site.kept m
    named_place operand.Nothing h = tt
    named_place (operand.Scalar n) h = h
    named_place (operand.Direct v) h = tt
    named_place (operand.Param q n) h = by (g.parameters q) (f.counts q) h
      where
        by : (o : Option ℕ) → g.site.counts q ≡ or_zero o → BelowCount (length g.site.places.scalars) g.cells g.parameters g.helps n o → n < g.site.counts q
        by None e below = absurd below
        by (Some c) e below = subst (λ x. n < x) (sym e) below
    named_place (operand.Scratch n) h = h
    named_place (operand.Number w) h = tt
    named_place (operand.Address v n) h = tt
    named_place operand.Pointed h = tt

    has_cell : (n : ℕ) (o : Option ℕ) → BelowCount (length g.site.places.scalars) g.cells g.parameters g.helps n o → IsPresent o
    has_cell n None h = h
    has_cell n (Some c) h = tt

    has_cells : (n : ℕ) (o : Option ℕ) → AtMostCells (length g.site.places.scalars) g.cells g.parameters g.helps n o → IsPresent o
    has_cells n None h = h
    has_cells n (Some c) h = tt

    same_place : (m : AccOperand) → IsPlace (length g.site.places.scalars) g.cells g.parameters g.helps m → SameObject g.context.at g.site.at m
    same_place operand.Nothing h = tt
    same_place (operand.Scalar n) h = tt
    same_place (operand.Direct v) h = f.addresses v (has_cell 0 (g.cells v) h.1)
    same_place (operand.Param q n) h = tt
    same_place (operand.Scratch n) h = tt
    same_place (operand.Number w) h = tt
    same_place (operand.Address v n) h = f.addresses v (has_cells n (g.cells v) h.1)
    same_place operand.Pointed h = tt

    pub is_fit : (o : AccOp) (m : AccOperand) → IsOperation (length g.site.places.scalars) g.cells g.parameters g.helps o m → IsUsable g.site o m → IsFit g (operation o m)
    is_fit o m h usable = record {
      right = record { range = h.range; taken = h.taken };
      named = named_place m h.there;
      usable = usable;
      same = same_place m h.there;
    }

-- the last operation of a run is the first item of the rest of the list
module _ (at : Addresses) (o : Operation) (f : Does Machine Flow) where
  abbrev one : Does Machine Flow
  one = tick (operation_weight o.row o.operand) >>= λ _. act at o.row o.operand

  alone : (r : Res Machine Flow) → after (after r (λ flow. in_order flow (operate at []))) (λ flow. in_order flow f) ≡ after r (λ flow. in_order flow f)
  alone (Gives Next u) = refl
  alone (Gives Broke u) = refl
  alone (Gives Continued u) = refl
  alone (Gives Returned u) = refl
  alone (Finished ending outs total) = refl
  alone (TooMany outs) = refl
  alone (Fails outs) = refl

  regrouped : (h h' : Does Machine Flow) → ((u : Machine) → after (h u) (λ flow. in_order flow f) ≡ after (h' u) (λ flow. in_order flow (one >>= λ flow. in_order flow f)))
      → (r : Res Machine Flow) → after (after r (λ flow. in_order flow h)) (λ flow. in_order flow f) ≡ after (after r (λ flow. in_order flow h')) (λ flow. in_order flow (one >>= λ flow. in_order flow f))
  regrouped h h' e (Gives Next u) = e u
  regrouped h h' e (Gives Broke u) = refl
  regrouped h h' e (Gives Continued u) = refl
  regrouped h h' e (Gives Returned u) = refl
  regrouped h h' e (Finished ending outs total) = refl
  regrouped h h' e (TooMany outs) = refl
  regrouped h h' e (Fails outs) = refl

  pub operate_more : (os : List Operation) (v : Machine) → after (operate at (os ++ o ∷ []) v) (λ flow. in_order flow f) ≡ after (operate at os v) (λ flow. in_order flow (one >>= λ flow. in_order flow f))
  operate_more [] v = alone (one v)
  operate_more (p ∷ os) v = regrouped (operate at (os ++ o ∷ [])) (operate at os) (operate_more os) (act at p.row p.operand (record v { work = v.work + operation_weight p.row p.operand }))
