-- Forms of expressions, each from what its parts keep: constants, names and their addresses, what a pointer points to, and assignments.
use Rattle.std.proofs.Common.{◌≡◌, ◌≢◌, ⊎_elim, ℕ, ◌+◌, ◌<◌, ◌≤◌, Bool, true, false, List, Option, Some, None, refl, sym, ◌∙◌, subst, arith}
use Rattle.std.proofs.lemmas.Bool.{cases_lt}
use Rattle.word_base.specs.declared.outcome.UndefinedKind.TheVariants.{BadPointer}
use Rattle.c_tree.specs.declared.program.VarRef.{VarRef}
use Rattle.c_tree.specs.declared.program.VarRef.TheVariants.{Scalar, Local, Static}
use Rattle.c_tree.specs.WellFormed.{IsAddressable}
use Rattle.tree_code_proof.specs.Counted as source
use Rattle.c_tree.specs.Store.{Value, Word, Pointer, Null}
use Rattle.tree_code_proof.specs.Counted.{World}
use Rattle.tree_code_proof.specs.Evaluated as evaluation
use Rattle.tree_code_proof.specs.Evaluated.{spot_of}
use Rattle.ir_semantics.specs.Parts.{Res, Gives, Finished, TooMany, Fails, Does, after}
use Rattle.ir_semantics.specs.TreeRun as run
use Rattle.ir_semantics.specs.TreeRun.{Tree, Addresses, need}
use Rattle.tree_code_proof.specs.Seats.{Seat, Vacant, LiesAt, InFrame, Waits, Seats, PointsAt}
use Rattle.tree_code_proof.specs.Beside.{Held, Alike, LiesThere, IsSeatOf}
use Rattle.tree_code_proof.proofs.Growing.{Grows, read_word_grows}
use Rattle.tree_code_proof.proofs.Rules.{Post, Rel, rel_after}
use Rattle.tree_code_proof.proofs.Reading.{Valued, holding, let_go, failing, read_at, read_in_frame}

-- what follows on the side of the typed program alone
pub followed : {A B C : Type 0} (q : Post A B) (r : Post C B) (x : source.Res A) (y : Res Tree B) (g : A → source.Does C) → Rel q x y → ((a : A) (b : B) (w : World) (t : Tree) → q a b w t → Rel r (g a w) (Gives b t)) → Rel r (source.after x g) y
followed q r (source.Gives a w) (Gives b t) g e next = next a b w t e
followed q r (source.Gives a w) (Finished p o k) g e next = absurd e
followed q r (source.Gives a w) (TooMany o) g e next = absurd e
followed q r (source.Gives a w) (Fails o) g e next = absurd e
followed q r (source.Finished p o most) (Gives b t) g e next = absurd e
followed q r (source.Finished p o most) (Finished p2 o2 k) g e next = e
followed q r (source.Finished p o most) (TooMany o2) g e next = absurd e
followed q r (source.Finished p o most) (Fails o2) g e next = absurd e
followed q r (source.TooMany o) (Gives b t) g e next = absurd e
followed q r (source.TooMany o) (Finished p o2 k) g e next = absurd e
followed q r (source.TooMany o) (TooMany o2) g e next = e
followed q r (source.TooMany o) (Fails o2) g e next = absurd e
followed q r (source.Fails kind at o) y g e next = e

-- a value that is there
abbrev pub Optional : Seats → List Held → Bool → Post (Option Value) ℕ
Optional seats hs pointing None x w t = ⊥
Optional seats hs pointing (Some v) x w t = Valued seats hs pointing v x w t

pub some_kept : (seats : Seats) (hs : List Held) (pointing : Bool) (x : source.Res Value) (y : Res Tree ℕ) → Rel (Valued seats hs pointing) x y → Rel (Optional seats hs pointing) (source.after x evaluation.some) y
some_kept seats hs pointing x y h = followed (Valued seats hs pointing) (Optional seats hs pointing) x y evaluation.some h (λ a b w t e. e)

-- a node counts in both
pub worked : (seats : Seats) (hs : List Held) (w : World) (t : Tree) (k : ℕ) → Alike seats hs w t → Alike seats hs (record w { work = w.work + k }) (record t { work = t.work + k })
worked seats hs w t k a =
    let less = a.work in
    record { seated = a.seated; rooms = a.rooms; least = a.least; unmade = a.unmade; kinds = a.kinds; objects = a.objects; held = a.held; input = a.input; words = a.words; outs = a.outs; work = omega (arith, less) }

-- one that counts in the typed program alone
pub worked_alone : (seats : Seats) (hs : List Held) (w : World) (t : Tree) (k : ℕ) → Alike seats hs w t → Alike seats hs (record w { work = w.work + k }) t
worked_alone seats hs w t k a =
    let less = a.work in
    record { seated = a.seated; rooms = a.rooms; least = a.least; unmade = a.unmade; kinds = a.kinds; objects = a.objects; held = a.held; input = a.input; words = a.words; outs = a.outs; work = omega (arith, less) }

-- what a used expression keeps, whatever is held; and a form, which may give no value
pub record Values (seats : Seats) (pointing : Bool) (f : source.Does Value) (g : Does Tree ℕ) : Type 0 where
  pub by : (hs : List Held) (w : World) (t : Tree) → Alike seats hs w t → Rel (Valued seats hs pointing) (f w) (g t)
  pub grows : Grows g

-- one that begins with a node which counts 1 in the typed program alone
pub record Later (seats : Seats) (pointing : Bool) (f : source.Does Value) (g : Does Tree ℕ) : Type 0 where
  pub by : (hs : List Held) (w : World) (t : Tree) → Alike seats hs (record w { work = w.work + 1 }) t → Rel (Valued seats hs pointing) (f w) (g t)
  pub grows : Grows g

pub record Forms (seats : Seats) (pointing : Bool) (f : source.Does (Option Value)) (g : Does Tree ℕ) : Type 0 where
  pub by : (hs : List Held) (w : World) (t : Tree) → Alike seats hs w t → Rel (Optional seats hs pointing) (f w) (g t)

pub needed : (seats : Seats) (hs : List Held) (pointing : Bool) (at : ℕ) (a : Option Value) (b : ℕ) (w : World) (t : Tree) → Optional seats hs pointing a b w t → Rel (Valued seats hs pointing) (evaluation.need at a w) (Gives b t)
needed seats hs pointing at None b w t e = absurd e
needed seats hs pointing at (Some v) b w t e = e

-- a form whose value is used
pub used : {seats : Seats} {pointing : Bool} {f : source.Does (Option Value)} {g : Does Tree ℕ} (at : ℕ) → Forms seats pointing f g → Grows g → Values seats pointing (source.◌>>=◌ f (evaluation.need at)) g
used {seats = seats} {pointing = pointing} {f = f} {g = g} at h grow = record {
  by = λ hs w t a. followed (Optional seats hs pointing) (Valued seats hs pointing) (f w) (g t) (evaluation.need at) (h.by hs w t a) (needed seats hs pointing at);
  grows = grow;
}

module _ (seats : Seats) where
  -- constants
  pub word_constant : (x : ℕ) → x < 65536 → Forms seats false (source.ticked 2 (evaluation.some (Word x))) (run.constant_does x)
  word_constant x few = record { by = λ hs w t a. holding seats hs (record { pointing = false; value = Word x; word = x }) _ _ (worked seats hs w t 2 a) (refl, few) }

  pub null_constant : (x : ℕ) → x ≡ 0 → Forms seats true (source.ticked 2 (evaluation.some Null)) (run.constant_does x)
  null_constant x is = record { by = λ hs w t a. holding seats hs (record { pointing = true; value = Null; word = x }) _ _ (worked seats hs w t 2 a) is }

  -- an object that lies somewhere was made
  pub was_made : (made k : ℕ) (s : Seat) → seats.seat k ≡ s → s ≢ Vacant → ((j : ℕ) → made ≤ j → seats.seat j ≡ Vacant) → k < made
  was_made made k s is lives h = ⊎_elim (λ lt. lt) (λ le. absurd (lives (sym is ∙ h k le))) (cases_lt k made)

  pub not_vacant : (a n : ℕ) → LiesAt a n ≢ Vacant
  not_vacant a n e = cc

  read_memory : (hs : List Held) (w : World) (t : Tree) (a : Alike seats hs w t) (object : ℕ) (wanted : Bool) (at : ℕ) (b : Option ℕ) (s : Seat) → seats.seat object ≡ s → LiesThere b s → Rel (Valued seats hs wanted) (source.load object 0 wanted at w) (after (need b t) run.read_word)
  read_memory hs w t a object wanted at None s is h = absurd h
  read_memory hs w t a object wanted at (Some b) Vacant is h = absurd h
  read_memory hs w t a object wanted at (Some b) (LiesAt c n) is h = read_at seats hs w t a object 0 b wanted at (subst (λ s. PointsAt s 0 b) (sym is) (omega arith, omega (arith, h)))
  read_memory hs w t a object wanted at (Some b) (InFrame k) is h = absurd h
  read_memory hs w t a object wanted at (Some b) (Waits o) is h = absurd h

  -- what a name holds
  pub read_named : (addresses : Addresses) (v : VarRef) (hs : List Held) (w : World) (t : Tree) (a : Alike seats hs w t) (object : ℕ) (wanted : Bool) (at : ℕ) → IsSeatOf addresses v (seats.seat object)
      → Rel (Valued seats hs wanted) (source.load object 0 wanted at w) (run.read_name addresses v t)
  read_named addresses (Scalar n) hs w t a object wanted at h = read_in_frame seats hs w t a object n wanted at h
  read_named addresses (Local n) hs w t a object wanted at h = read_memory hs w t a object wanted at (addresses (Local n)) (seats.seat object) refl h
  read_named addresses (Static n) hs w t a object wanted at h = read_memory hs w t a object wanted at (addresses (Static n)) (seats.seat object) refl h

  pub name_kept : (addresses : Addresses) (v : VarRef) (object : ℕ) (wanted : Bool) (at : ℕ) → IsSeatOf addresses v (seats.seat object) → Forms seats wanted (source.ticked 5 (source.◌>>=◌ (source.load object 0 wanted at) evaluation.some)) (run.name_does addresses v)
  name_kept addresses v object wanted at h = record {
    by = λ hs w t a. some_kept seats hs wanted (source.load object 0 wanted at (record w { work = w.work + 5 })) (run.read_name addresses v (record t { work = t.work + 5 })) (read_named addresses v hs _ _ (worked seats hs w t _ a) object wanted at h);
  }

  -- where its object lies
  address_at : (hs : List Held) (w : World) (t : Tree) (a : Alike seats hs w t) (object : ℕ) (b : Option ℕ) (s : Seat) → seats.seat object ≡ s → LiesThere b s → Rel (Optional seats hs true) (evaluation.some (Pointer object 0) w) (need b t)
  address_at hs w t a object None s is h = absurd h
  address_at hs w t a object (Some b) Vacant is h = absurd h
  address_at hs w t a object (Some b) (LiesAt c n) is h =
      let place = a.seated.place object c n is in
      let made = was_made w.store.made object (LiesAt c n) is (not_vacant c n) a.unmade in
      holding seats hs (record { pointing = true; value = Pointer object 0; word = b }) w t a (made, (omega (arith, h, place.last), subst (λ s. PointsAt s 0 b) (sym is) (omega arith, omega (arith, h))))
  address_at hs w t a object (Some b) (InFrame k) is h = absurd h
  address_at hs w t a object (Some b) (Waits o) is h = absurd h

  pub address_kept : (addresses : Addresses) (v : VarRef) (object : ℕ) → IsAddressable v → IsSeatOf addresses v (seats.seat object) → Forms seats true (source.ticked 2 (evaluation.some (Pointer object 0))) (run.address_does (addresses v))
  address_kept addresses (Scalar n) object able h = absurd able
  address_kept addresses (Local n) object able h = record { by = λ hs w t a. address_at hs _ _ (worked seats hs w t 2 a) object (addresses (Local n)) (seats.seat object) refl h }
  address_kept addresses (Static n) object able h = record { by = λ hs w t a. address_at hs _ _ (worked seats hs w t 2 a) object (addresses (Static n)) (seats.seat object) refl h }

  -- what a pointer points to
  pointed_to : (hs : List Held) (wanted : Bool) (at : ℕ) (p : Value) (y : ℕ) (w : World) (t : Tree) → Valued seats hs true p y w t
      → Rel (Optional seats hs wanted) (source.after (spot_of p at w) (λ s. source.◌>>=◌ (source.load s.0 s.1 wanted at) evaluation.some)) (run.read_word y t)
  pointed_to hs wanted at (Word x) y w t a = absurd a.held.0
  pointed_to hs wanted at Null y w t a = failing seats _ (Optional seats hs wanted) BadPointer at w t (run.read_word y) a (read_word_grows y)
  pointed_to hs wanted at (Pointer object i) y w t a =
      some_kept seats hs wanted (source.load object i wanted at w) (run.read_word y t) (read_at seats hs w t (let_go seats hs _ w t a) object i y wanted at a.held.0.1.1)

  pub load_kept : {f : source.Does Value} {g : Does Tree ℕ} (wanted : Bool) (at : ℕ) → Values seats true f g → Forms seats wanted (source.ticked 5 (source.◌>>=◌ f (λ p. source.◌>>=◌ (spot_of p at) (λ s. source.◌>>=◌ (source.load s.0 s.1 wanted at) evaluation.some)))) (run.load_does g)
  load_kept {f = f} {g = g} wanted at h = record {
    by = λ hs w t a.
        rel_after (Valued seats hs true) (Optional seats hs wanted) (f (record w { work = w.work + 5 })) (g (record t { work = t.work + 5 })) _ run.read_word (h.by hs _ _ (worked seats hs w t _ a)) read_word_grows (pointed_to hs wanted at);
  }
