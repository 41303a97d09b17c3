-- The callee's state is beside the machine at its entry, and the caller's behind it.
use Rattle.std.proofs.Common.{◌≡◌, ◌<◌, ℕ, ◌+◌, ◌||◌, Bool, true, false, true≢false, cond, List, ◌∷◌, length, Option, Some, None, refl, sym, ap, ◌∙◌, subst, inl, inr, ⊎_elim, eqb-true, arith}
use Rattle.std.specs.Prelude.{◌==◌, slice_get}
use Rattle.std.proofs.lemmas.Option.{none-some, same_Some}
use Rattle.c_tree.specs.declared.program.VarRef.{VarRef}
use Rattle.c_tree.specs.declared.program.VarRef.TheVariants.{Scalar, Local, Static}
use Rattle.c25_code.specs.Work.{Work}
use Rattle.c25_code.specs.Returns as machine
use Rattle.ir_semantics.specs.Outside as words
use Rattle.ir_semantics.specs.Outside.{Nowhere, Unwritten, Holds, address_of, with_objects, no_words}
use Rattle.ir_semantics.specs.AccRows.{Acc}
use Rattle.ir_semantics.specs.AccRun.{Machine, given_for, entered, left}
use Rattle.emit_proof.specs.Standing.{scalar_address, parameter_address}
use Rattle.emit_blocks.specs.Places.{or_zero}
use Rattle.emit_proof.specs.Registers.{RegistersAlike}
use Rattle.emit_proof.specs.Sites.{Beside, with_stack}
use Rattle.image_proof.specs.PlanPlaces.{address_or_start, local_addresses, places_of}
use Rattle.image_proof.specs.Emissions.{Emission, IsEmission}
use Rattle.image_proof.specs.Active.{AreActive, back_of}
use Rattle.image_proof.specs.ActiveSites.{in_objects, locals_in, is_live, site_places, site_counts, site_of}
use Rattle.image_proof.specs.Kept.{IsKept, kept_for, stack_in}
use Rattle.image_proof.proofs.Frames.{FrameAt}
use Rattle.image_proof.proofs.FrameWords.{address_there, one_cell, parameter_at}
use Rattle.image_proof.proofs.Cells.{or_false, lives_so, outside_objects, inside_objects, held_before, nowhere_stays}
use Rattle.image_proof.proofs.Given.{GivenTo, scalar_given, HasAddress, memory_else, GivenAt, memory_given}
use Rattle.image_proof.proofs.KeptWords.{live_at}
use Rattle.image_proof.proofs.SiteWords.{first_among, scalar_in, parameter_named, parameter_at_address, scalar_at}
use Rattle.image_proof.proofs.SiteStanding.{dead_so}
use Rattle.image_proof.proofs.Keeping.{back_within, back_no_name, back_no_object, back_no_kept, KeptFor, AsReturn, AsScalar, AsBefore, kept_parts, keeps_scalar, keeps_before, keeps_on}
use Rattle.image_proof.proofs.Entering.{other_word, its_word, entered_registers, entered_input, entered_stack, entered_range}

nowhere_holds : {x : ℕ} → Nowhere ≡ Holds x → ⊥
nowhere_holds e = cc

unwritten_holds : {x : ℕ} → Unwritten ≡ Holds x → ⊥
unwritten_holds e = cc

-- where an object has its address in the plan
some_address : (o : Option ℕ) (x a : ℕ) → o ≡ Some x → Some (address_or_start o) ≡ Some a → x ≡ a
some_address o x a is at = sym (ap address_or_start is) ∙ same_Some (address_or_start o) a at

module _ (e : Emission) (is : IsEmission e) (g : ℕ) (active : List ℕ) (are : AreActive e (g ∷ active)) (h : FrameAt e g) where
  abbrev q : words.Places
  q = places_of e.plan

  -- an address of a parameter is that of its word
  parameter_lies : (index : ℕ) (v : VarRef) (a : ℕ) → slice_get h.code.params index ≡ Some v → address_of q g v ≡ Some a → parameter_address (site_places e active) g index ≡ a
  parameter_lies index (Scalar n) a there at = absurd (none-some a at)
  parameter_lies index (Local n) a there at =
      let u = one_cell (slice_get h.code.locals n) (parameter_at e is g h index (Local n) there).cell in
      let x = address_there (h.start + h.code.scalars) h.code.locals n u.0 u.1 in
      parameter_at_address e is active are.1 g h index (Local n) there ∙ ap or_zero x.1
      ∙ some_address (slice_get (local_addresses (slice_get e.plan.frames g)) n) x.0 a (ap (λ o. slice_get (local_addresses o) n) h.framed ∙ x.1) at
  parameter_lies index (Static n) a there at = absurd (parameter_at e is g h index (Static n) there).automatic

  -- a parameter that has an address is a cell of an object of the function
  parameter_lives : (index : ℕ) (v : VarRef) (a : ℕ) → slice_get h.code.params index ≡ Some v → address_of q g v ≡ Some a → in_objects (q.local g) 0 h.code.locals a ≡ true
  parameter_lives index (Scalar n) a there at = absurd (none-some a at)
  parameter_lives index (Local n) a there at =
      let u = one_cell (slice_get h.code.locals n) (parameter_at e is g h index (Local n) there).cell in
      let first : 0 + n ≡ n = omega arith in
      let same : q.local g (0 + n) ≡ a = ap (q.local g) first ∙ same_Some (q.local g n) a at in
      let long = u.2 in
      lives_so (q.local g) a 0 h.code.locals n u.0 u.1 (omega (arith, same)) (omega (arith, same, long))
  parameter_lives index (Static n) a there at = absurd (parameter_at e is g h index (Static n) there).automatic

  module _ (kept : ℕ → Option ℕ) (keeps : IsKept e active kept) (stack : List ℕ) (v : Machine) (w : Work) (beside : Beside (site_of e active kept stack) v w) (ret : ℕ) where
    abbrev later : ℕ → Option ℕ
    later = kept_for e g active v.frame ret kept

    -- what was given for the function
    known_given : (b : Bool) → (v.given_to == g) ≡ b → (j x : ℕ) → cond b v.given no_words j ≡ Some x → (j < site_counts e active g) × (w.ram (parameter_address (site_places e active) g j) ≡ x)
    known_given true to j x is = subst (λ f. (j < site_counts e active f) × (w.ram (parameter_address (site_places e active) f j) ≡ x)) (eqb-true v.given_to g to) ((beside.stands).given j x is)
    known_given false to j x is = absurd (none-some x is)

    given_word : (u : VarRef) (x : ℕ) → (t : GivenTo h.code.params 0 (given_for g v) u x) → w.ram (parameter_address (site_places e active) g t.index) ≡ x
    given_word u x t =
        let first : t.index ≡ 0 + t.index = omega arith in
        (known_given (v.given_to == g) refl t.index x (ap (given_for g v) first ∙ t.is)).1

    live_so : (a x : ℕ) → v.outside.memory a ≡ Holds x → is_live e active a ≡ true
    live_so a x holds = by (is_live e active a) refl
      where
        by : (b : Bool) → is_live e active a ≡ b → b ≡ true
        by true lives = refl
        by false lives = absurd (nowhere_holds (sym (beside.nowhere a lives) ∙ holds))

    module _ (low : ret < 65536) (few : length stack < 8) where
      abbrev u : Work
      u = machine.entered (back_of e g) ret w

      abbrev entry : Machine
      entry = entered q g h.code v

      pub frame_so : (n x : ℕ) → entry.frame n ≡ Some x → (n < length (site_places e (g ∷ active)).scalars) × (u.ram (scalar_address (site_places e (g ∷ active)) n) ≡ x)
      frame_so n x known = ⊎_elim (λ before. absurd (none-some x before)) (λ t. given t) (scalar_given h.code.params 0 (given_for g v) no_words n x known)
        where
          given : GivenTo h.code.params 0 (given_for g v) (Scalar n) x → (n < length (site_places e (g ∷ active)).scalars) × (u.ram (scalar_address (site_places e (g ∷ active)) n) ≡ x)
          given t =
              let s = scalar_at e is g active are h n t.index t.there in
              let word = parameter_named e is active are.1 g h t.index (Scalar n) t.there in
              let address = parameter_at_address e is active are.1 g h t.index (Scalar n) t.there in
              (s.0, ap u.ram (s.1 ∙ sym address) ∙ other_word (back_of e g) ret w (parameter_address (site_places e active) g t.index) (λ b back. back_no_name e is g active are b (parameter_address (site_places e active) g t.index) g (Scalar n) back (inl refl) word) ∙ given_word (Scalar n) x t)

      pub memory_so : (a x : ℕ) → entry.outside.memory a ≡ Holds x → u.ram a ≡ x
      memory_so a x holds = ⊎_elim (λ before. old (held_before Unwritten q g v.outside.memory a x 0 h.code.locals unwritten_holds before)) (λ t. given t)
          (memory_given (address_of q g) (given_for g v) a h.code.params 0 x (with_objects Unwritten q g 0 h.code.locals v.outside.memory) holds)
        where
          old : v.outside.memory a ≡ Holds x → u.ram a ≡ x
          old is_there =
              other_word (back_of e g) ret w a (λ b back. back_no_object e is g active are b a back (live_at e is active are.1 a (live_so a x is_there))) ∙ (beside.stands).memory a x is_there

          given : GivenAt (address_of q g) (given_for g v) a h.code.params 0 x → u.ram a ≡ x
          given t =
              let index = (t.to).index in
              let word = parameter_named e is active are.1 g h index t.name (t.to).there in
              let at = parameter_lies index t.name a (t.to).there t.is in
              ap u.ram (sym at) ∙ other_word (back_of e g) ret w (parameter_address (site_places e active) g index) (λ b back. back_no_name e is g active are b (parameter_address (site_places e active) g index) g t.name back (inl refl) word) ∙ given_word t.name x t.to

      pub callers_so : (a x : ℕ) → later a ≡ Some x → u.ram a ≡ x
      callers_so a x known = by (kept_parts e is g active are v.frame ret kept a x known)
        where
          by : KeptFor e is g active are v.frame ret kept a x → u.ram a ≡ x
          by (AsReturn back same) = its_word (back_of e g) ret w a back ∙ same
          by (AsScalar n less at known) =
              let s = scalar_in e is active are.1 n less in
              ap u.ram (sym at) ∙ other_word (back_of e g) ret w (scalar_address (site_places e active) n) (λ b back. back_no_name e is g active are b (scalar_address (site_places e active) n) s.function (Scalar n) back (inr (first_among active s.function s.first)) s.word)
              ∙ ((beside.stands).frame n x known).1
          by (AsBefore known) = other_word (back_of e g) ret w a (λ b back. back_no_kept e is g active are b a back (keeps.by a x known)) ∙ (beside.stands).callers a x known

      pub nowhere_so : (a : ℕ) → is_live e (g ∷ active) a ≡ false → entry.outside.memory a ≡ Nowhere
      nowhere_so a dead =
          let parts = or_false (in_objects (q.local g) 0 (locals_in (slice_get e.code.functions g)) a) (is_live e active a) dead in
          let own : in_objects (q.local g) 0 h.code.locals a ≡ false = ap (λ o. in_objects (q.local g) 0 (locals_in o) a) (sym h.there) ∙ parts.0 in
          ⊎_elim (λ same. same ∙ outside_objects Unwritten q g v.outside.memory a 0 h.code.locals own ∙ beside.nowhere a parts.1)
          (λ (p : HasAddress (address_of q g) (given_for g v) a h.code.params). absurd (true≢false (sym (parameter_lives p.index p.name a p.there p.is) ∙ own)))
          (memory_else (address_of q g) (given_for g v) a h.code.params 0 (with_objects Unwritten q g 0 h.code.locals v.outside.memory))

      pub entered_beside : Beside (site_of e (g ∷ active) later (stack_in (back_of e g) ret stack)) entry u
      entered_beside = record {
        stands = record {
          frame = frame_so;
          scratch = λ n x known. absurd (none-some x known);
          given = λ n x known. absurd (none-some x known);
          memory = memory_so;
          callers = callers_so;
          reserved = λ a reserved. nowhere_so a (dead_so e is (g ∷ active) are later (keeps_on e is g active are v.frame ret kept keeps) a reserved);
        };
        nowhere = nowhere_so;
        registers = entered_registers (back_of e g) ret w v.registers beside.registers;
        pointed = λ p known. absurd (none-some p known);
        input = entered_input (back_of e g) ret w ∙ beside.input;
        stack = entered_stack (back_of e g) ret w stack beside.stack;
        range = entered_range (back_of e g) ret w stack beside.stack few low (λ b back. (back_within e is g active are b back).1) beside.range;
      }

    -- behind its return
    module _ (held : List ℕ) (t : Machine) (u : Work) (inner : Beside (with_stack stack (site_of e (g ∷ active) later held)) t u) (acc : Acc) (registers : RegistersAlike (record t.registers { acc = acc; pointed = None }) u) where
      nowhere_by : (a : ℕ) (b : Bool) → in_objects (q.local g) 0 h.code.locals a ≡ b → is_live e active a ≡ false → with_objects Nowhere q g 0 h.code.locals t.outside.memory a ≡ Nowhere
      nowhere_by a true own dead = inside_objects Nowhere q g t.outside.memory a 0 h.code.locals own
      nowhere_by a false own dead =
          let both : is_live e (g ∷ active) a ≡ false = (λ i. in_objects (q.local g) 0 (locals_in (h.there i)) a || is_live e active a) ∙ (λ i. own i || dead i) in
          nowhere_stays q g t.outside.memory a 0 h.code.locals (inner.nowhere a both)

      nowhere_left : (a : ℕ) → is_live e active a ≡ false → with_objects Nowhere q g 0 h.code.locals t.outside.memory a ≡ Nowhere
      nowhere_left a dead = nowhere_by a (in_objects (q.local g) 0 h.code.locals a) refl dead

      pub left_beside : Beside (site_of e active kept stack) (left q g h.code acc v.frame t) u
      left_beside = record {
        stands = record {
          frame = λ n x known.
              let less = ((beside.stands).frame n x known).0 in
              (less, (inner.stands).callers (scalar_address (site_places e active) n) x (keeps_scalar e is g active are v.frame ret kept keeps n x less known));
          scratch = λ n x known. absurd (none-some x known);
          given = λ n x known. absurd (none-some x known);
          memory = λ a x holds. (inner.stands).memory a x (held_before Nowhere q g t.outside.memory a x 0 h.code.locals nowhere_holds holds);
          callers = λ a x known. (inner.stands).callers a x (keeps_before e is g active are v.frame ret kept keeps a x known);
          reserved = λ a reserved. nowhere_left a (dead_so e is active are.1 kept keeps a reserved);
        };
        nowhere = nowhere_left;
        registers = registers;
        pointed = λ p known. absurd (none-some p known);
        input = inner.input;
        stack = inner.stack;
        range = inner.range;
      }
