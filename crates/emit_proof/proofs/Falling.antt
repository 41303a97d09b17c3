-- From entries that begin at a label control comes to the label, maybe by a jump.
use Rattle.std.proofs.Common.{◌≡◌, ℕ, zero, suc, ◌+◌, ◌≤◌, Bool, true, false, inl, List, [], ◌∷◌, refl, sym, subst, arith, eqb-true}
use Rattle.std.proofs.lemmas.Bool.{true≢false}
use Rattle.std.specs.Prelude.{◌==◌, if◌then◌else◌}
use Rattle.c25_isa.specs.declared.instruction.JumpOp.{JumpOp}
use Rattle.c25_isa.specs.declared.instruction.JumpOp.TheVariants.{B}
use Rattle.c25_isa.specs.declared.instruction.Instr.TheVariants.{Branch as BranchInstr}
use Rattle.c25_isa.specs.declared.piece.PieceItem.{PieceItem}
use Rattle.c25_isa.specs.CodeAt.{StandsAt}
use Rattle.c25_isa.specs.Pieces.{items_size, ItemsAt}
use Rattle.c25_code.specs.Work.{Work}
use Rattle.c25_code.specs.Straight.{is_taken}
use Rattle.c25_code.specs.Items.{no_change}
use Rattle.c25_code.proofs.Items.{jump_taken}
use Rattle.ir_semantics.specs.AccRun.{Machine}
use Rattle.emit_proof.specs.Calls.{IsJumpTo}
use Rattle.emit_control.specs.declared.state.Before.{Before}
use Rattle.emit_control.specs.declared.state.Before.TheVariants.{Open, Shut, Gone}
use Rattle.emit_control.specs.Entries.{Entry, Run, Head, Place, Close, Branch, Goto, Dispatch, CallTo, CallHelper, Wipe, Ret, Finish}
use Rattle.emit_control.specs.Flow.{goto}
use Rattle.emit_control.specs.Cuts.{State, place_items, close_items, behind_close}
use Rattle.emit_proof.specs.Arrivals.{Begun, ComesTo}
use Rattle.emit_proof.specs.Entries.{Passes, BeginsAt}
use Rattle.emit_proof.proofs.Grounds.{Ground, StandAt, AllLead, Standing, Arrived, begun_at, exit, Comes, Falls, is_reached, jump_to}
use Rattle.emit_proof.proofs.Arriving.{goes_on}

pub inner_reached : (finished : Bool) (l : ℕ) → 1 ≤ l → is_reached finished l ≡ true
inner_reached finished zero low = absurd (omega (arith, low))
inner_reached finished (suc l) low = refl

module _ (g : Ground) where
  abbrev Items : ℕ → List PieceItem → Type 0
  Items = ItemsAt g.program g.marks g.names

  abbrev Jumps : List PieceItem → Type 0
  Jumps items = (j : ℕ) → IsJumpTo j items → g.marks j ≡ g.label j

  abbrev Reaches : List PieceItem → Type 0
  Reaches items = (j : ℕ) → IsJumpTo j items → is_reached g.finished j ≡ true

  abbrev There : Begun → ℕ → ℕ → Machine → Type 0
  There b l least v = ComesTo g.start g.program g.site b (g.label l) least 1 v

  -- a jump that is taken comes to its label
  pub jumped : (b : Begun) (pc l : ℕ) (op : JumpOp) (v : Machine) (w : Work) → StandsAt g.program pc (BranchInstr op (g.marks l) no_change) → g.marks l ≡ g.label l → is_taken op w.acc ≡ true → Arrived g b pc v w → Arrived g (begun_at (b.steps + 1) v) (g.label l) v w
  jumped b pc l op v w at same takes h =
      subst (λ a. Arrived g (begun_at (b.steps + 1) v) a v w) same (goes_on g b 1 pc (g.marks l) v v w w h (jump_taken g.program pc op (g.marks l) w at takes) refl h.beside)

  jump_there : (b : Begun) (pc l least : ℕ) (v : Machine) (w : Work) → StandsAt g.program pc (BranchInstr B (g.marks l) no_change) → g.marks l ≡ g.label l → b.steps + least ≤ b.steps + 1 → Arrived g b pc v w → There b l least v
  jump_there b pc l least v w at same few h =
      let there = jumped b pc l B v w at same refl h in
      record { steps = b.steps + 1; work = w; came = there.came; beside = there.beside; least_steps = few; within = omega (arith, h.work) }

  stays_there : (b : Begun) (pc l : ℕ) (v : Machine) (w : Work) → g.label l ≡ pc → Arrived g b pc v w → There b l 0 v
  stays_there b pc l v w same h =
      let there = subst (λ a. Arrived g b a v w) (sym same) h in
      record { steps = b.steps; work = w; came = there.came; beside = there.beside; least_steps = omega arith; within = omega (arith, h.work) }

  reached_there : (b : Begun) (l least : ℕ) (v : Machine) → is_reached g.finished l ≡ true → There b l least v → Comes g b (exit g l) least 1 v
  reached_there b l least v reached c = record { steps = c.steps; work = c.work; came = c.came; beside = c.beside; least_steps = c.least_steps; within = c.within; reached = reached }

  place_falls : (n : Bool) (x : Before) (l pc : ℕ) (b : Begun) (v : Machine) (w : Work) → Passes x → Items pc (place_items n x l) → g.label l ≡ pc + items_size (place_items n x l) → Jumps (place_items n x l) → Arrived g b pc v w → There b l 0 v
  place_falls true x l pc b v w passes at placed jumps h = let e : g.label l ≡ pc = omega (arith, placed) in stays_there b pc l v w e h
  place_falls false Open l pc b v w passes at placed jumps h = jump_there b pc l 0 v w at.0 (jumps l (inl refl)) (omega arith) h
  place_falls false Shut l pc b v w passes at placed jumps h = let e : g.label l ≡ pc = omega (arith, placed) in stays_there b pc l v w e h
  place_falls false Gone l pc b v w passes at placed jumps h = absurd passes

  pub place_there : (l pc : ℕ) (es : List Entry) (b : Begun) (v : Machine) (w : Work) → Standing g pc (Place l ∷ es) → Arrived g b pc v w → There b l 0 v
  place_there l pc es b v w s h = place_falls (s.state.named l) s.state.before l pc b v w s.passes s.at.0.items s.at.0.placed s.at.0.jumps h

  pub place_begins : (l : ℕ) (es : List Entry) → is_reached g.finished l ≡ true → Falls g l (Place l ∷ es)
  place_begins l es reached = record { by = λ pc b v w s h. reached_there b l 0 v reached (place_there l pc es b v w s h) }

  close_falls : (n : Bool) (x : Before) (head l pc : ℕ) (b : Begun) (v : Machine) (w : Work) → Passes x → Items pc (close_items n x head l) → Jumps (close_items n x head l) → Reaches (close_items n x head l) → Arrived g b pc v w → (n ≡ true → Comes g b (exit g l) 0 1 v) → Comes g b (exit g l) 0 1 v
  close_falls true x head l pc b v w passes at jumps reaches h behind = behind refl
  close_falls false Open head l pc b v w passes at jumps reaches h behind = reached_there b l 0 v (reaches l (inl refl)) (jump_there b pc l 0 v w at.0 (jumps l (inl refl)) (omega arith) h)
  close_falls false Shut head l pc b v w passes at jumps reaches h behind = reached_there b l 0 v (reaches l (inl refl)) (jump_there b pc l 0 v w at.0 (jumps l (inl refl)) (omega arith) h)
  close_falls false Gone head l pc b v w passes at jumps reaches h behind = absurd passes

  passed : (n : Bool) (x : Before) (head l pc : ℕ) (s : State) (es : List Entry) → n ≡ true → Passes s.before → StandAt g (pc + items_size (close_items n x head l)) (behind_close n head l s) es → AllLead g (behind_close n head l s) es → Standing g pc es
  passed true x head l pc s es e passes at lead = let f : pc + 0 ≡ pc = omega arith in record { state = s; at = subst (λ a. StandAt g a s es) f at; lead = lead; passes = passes }
  passed false x head l pc s es e passes at lead = absurd (true≢false (sym e))

  pub close_begins : (head l : ℕ) (es : List Entry) → Falls g l es → Falls g l (Close head l ∷ es)
  close_begins head l es behind = record {
    by = λ pc b v w s h.
        close_falls (s.state.named head) s.state.before head l pc b v w s.passes s.at.0.items s.at.0.jumps s.lead.0.jumps h
        (λ e. behind.by pc b v w (passed (s.state.named head) s.state.before head l pc s.state es e s.passes s.at.1 s.lead.1) h);
  }

  pub finish_begins : (l : ℕ) (es : List Entry) → ((pc : ℕ) → Standing g pc (Finish l ∷ es) → is_reached g.finished l ≡ true) → Falls g l (Finish l ∷ es)
  finish_begins l es reached = record { by = λ pc b v w s h. reached_there b l 0 v (reached pc s) (stays_there b pc l v w s.at.0.placed h) }

  -- where something comes to each label
  pub begins : ((l : ℕ) → is_reached g.finished l ≡ true) → (es : List Entry) (l : ℕ) → BeginsAt l es → Falls g l es
  begins all (Place p ∷ es) l h = subst (λ q. Falls g q (Place p ∷ es)) h (place_begins p es (all p))
  begins all (Close head p ∷ es) l h = subst (λ q. Falls g q (Close head p ∷ es)) h.0 (close_begins head p es (subst (λ q. Falls g q es) (sym h.0) (begins all es l h.1)))
  begins all (Finish p ∷ es) l h = subst (λ q. Falls g q (Finish p ∷ es)) h (finish_begins p es (λ pc s. all p))
  begins all [] l h = absurd h
  begins all (Run os ∷ es) l h = absurd h
  begins all (Head p ∷ es) l h = absurd h
  begins all (Branch t p ∷ es) l h = absurd h
  begins all (Goto p ∷ es) l h = absurd h
  begins all (Dispatch cs p q ∷ es) l h = absurd h
  begins all (CallTo f ∷ es) l h = absurd h
  begins all (CallHelper name ∷ es) l h = absurd h
  begins all (Wipe o from p ∷ es) l h = absurd h
  begins all (Ret ∷ es) l h = absurd h

  -- a jump that isn't conditional
  pub goto_comes : (l pc : ℕ) (es : List Entry) (b : Begun) (v : Machine) (w : Work) → Standing g pc (Goto l ∷ es) → Arrived g b pc v w → Comes g b (exit g l) 1 1 v
  goto_comes l pc es b v w s h = reached_there b l 1 v (s.lead.0.jumps l (inl refl)) (jump_there b pc l 1 v w s.at.0.items.0 (s.at.0.jumps l (inl refl)) (omega arith) h)

  -- to a label, which may be placed next
  pub goes : (l next pc : ℕ) (rest : List Entry) (b : Begun) (v : Machine) (w : Work) → Standing g pc (goto l next rest) → Falls g next rest → Arrived g b pc v w → Comes g b (exit g l) (jump_to l next) 1 v
  goes l next pc rest b v w s falls h = by (l == next) (eqb-true l next) s
    where
      by : (same : Bool) → (same ≡ true → l ≡ next) → Standing g pc (if same then rest else Goto l ∷ rest) → Comes g b (exit g l) (if same then 0 else 1) 1 v
      by true e at = subst (λ q. Comes g b (exit g q) 0 1 v) (sym (e refl)) (falls.by pc b v w at h)
      by false e at = goto_comes l pc rest b v w at h
