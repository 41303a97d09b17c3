-- Code before entries, entry by entry.
use Rattle.std.proofs.Common.{◌≡◌, ◌≢◌, ℕ, Bool, true, false, refl, ap, sym, subst, ◌∙◌, List, [], ◌∷◌, ◌++◌, append_assoc, append-nil, ◌==◌, if◌then◌else◌}
use Rattle.c25_isa.specs.Items.{ItemsFit}
use Rattle.c25_code.specs.Items.{plain_items}
use Rattle.acc_code.specs.declared.operation.Test.{Test}
use Rattle.c_tree.specs.declared.program.VarRef.{VarRef}
use Rattle.emit_blocks.specs.Steps.{Operation}
use Rattle.emit_control.specs.declared.code.Code.{Code}
use Rattle.emit_control.specs.declared.ending.Ending.{Ending}
use Rattle.emit_control.specs.declared.ending.Ending.TheVariants.{Label}
use Rattle.emit_control.specs.Entries.{Entry, Run, Place, Branch, Goto, Wipe, flushed}
use Rattle.emit_control.specs.Flow.{goto, opposite}
use Rattle.emit_control.specs.Marked.{names_of}
use Rattle.emit_control.specs.Settings.{Setting, code_in, cells_of}
use Rattle.emit_control.specs.Cuts.{State, entry_items, behind_entry, cut, behind_run, has_access, shut, naming, place_items, behind_place, wipe_items}
use Rattle.emit_control.specs.Emits.{Puts, Adds, Emits, state_of, before_entries, behind_operations, jumps, placed}

module _ (m : Setting) where
  -- nothing changes
  pub same : (c : Code) → Emits m c (λ rest. rest) c
  same c = record { items = λ rest. refl; fits = λ fit. fit }

  pub one : (old new : Code) (e : Entry) → Adds m old e new → Emits m old (λ rest. e ∷ rest) new
  one old new e adds = record {
    items = λ rest.
        sym (append_assoc old.items.items (entry_items m (state_of old) e) (cut m (behind_entry m (state_of old) e) rest))
        ∙ ap (λ l. l ++ cut m (behind_entry m (state_of old) e) rest) (sym adds.puts.items)
        ∙ ap (λ s. new.items.items ++ cut m s rest) (sym adds.state);
    fits = adds.puts.fits;
  }

  -- one part and then another
  pub both : (a b c : Code) (f g : List Entry → List Entry) → Emits m a f b → Emits m b g c → Emits m a (λ rest. f (g rest)) c
  both a b c f g first second = record {
    items = λ rest. first.items (g rest) ∙ second.items rest;
    fits = λ fit. second.fits (first.fits fit);
  }

  -- the operations of a run
  pub operations : (old new : Code) (os : List Operation) → new.items.items ≡ old.items.items ++ plain_items (code_in m os) → new.before ≡ behind_operations os old.before
      → new.named ≡ old.named → (ItemsFit old.items.items → ItemsFit new.items.items) → Emits m old (flushed os) new
  operations old new [] items before named fits = record {
    items = λ rest.
        ap (λ l. l ++ cut m (state_of old) rest) (sym (append-nil old.items.items) ∙ sym items)
        ∙ ap (λ b. new.items.items ++ cut m (record { before = b; named = names_of old.named }) rest) (sym before)
        ∙ ap (λ n. new.items.items ++ cut m (record { before = new.before; named = names_of n }) rest) (sym named);
    fits = fits;
  }
  operations old new (o ∷ os) items before named fits =
      one old new (Run (o ∷ os))
      (record {
        puts = record { items = items; fits = fits };
        state = ap (λ b. record { before = b; named = names_of new.named }) before ∙ ap (λ n. record { before = behind_run (has_access (o ∷ os)) old.before; named = names_of n }) named;
      })

-- a jump to a label, unless that is placed next
pub goes : (m : Setting) (old new : Code) (k next : ℕ) → (k == next) ≡ false → Adds m old (Goto k) new → Emits m old (goto k next) new
goes m old new k next other adds =
    record { items = λ rest. ap (λ b. before_entries m old (if b then rest else Goto k ∷ rest)) other ∙ (one m old new (Goto k) adds).items rest; fits = adds.puts.fits }

pub falls : (m : Setting) (c : Code) (k next : ℕ) → (k == next) ≡ true → Emits m c (goto k next) c
falls m c k next is = record { items = λ rest. ap (λ b. before_entries m c (if b then rest else Goto k ∷ rest)) is; fits = λ fit. fit }

pub one_jump : (m : Setting) (old new : Code) (t : Test) (a b next : ℕ) → (a == next) ≡ true → Adds m old (Branch (opposite t) b) new → Emits m old (jumps t a b next) new
one_jump m old new t a b next is adds = record {
  items = λ rest. ap (λ c. before_entries m old (if c then Branch (opposite t) b ∷ rest else Branch t a ∷ goto b next rest)) is ∙ (one m old new (Branch (opposite t) b) adds).items rest;
  fits = adds.puts.fits;
}

pub both_jumps : (m : Setting) (old between new : Code) (t : Test) (a b next : ℕ) → (a == next) ≡ false → Adds m old (Branch t a) between → Emits m between (goto b next) new → Emits m old (jumps t a b next) new
both_jumps m old between new t a b next other adds goes_on = record {
  items = λ rest. ap (λ c. before_entries m old (if c then Branch (opposite t) b ∷ rest else Branch t a ∷ goto b next rest)) other
      ∙ (both m old between new (λ rest. Branch t a ∷ rest) (goto b next) (one m old between (Branch t a) adds) goes_on).items rest;
  fits = λ fit. goes_on.fits (adds.puts.fits fit);
}

pub places : (m : Setting) (old new : Code) (e : Ending) (last : Bool) (l : ℕ) → e ≡ Label → last ≡ false → Adds m old (Place l) new → Emits m old (placed e last l) new
places m old new e last l is more adds =
    subst (λ q. Emits m old (placed q last l) new) (sym is) (subst (λ q. Emits m old (placed Label q l) new) (sym more) (one m old new (Place l) adds))

no_words : (n : ℕ) → n ≡ 0 → (n == 0) ≡ true
no_words n none = rw none refl

-- to clear no words is the end of a block
pub wipes_none : (m : Setting) (old new : Code) (v : VarRef) (from l : ℕ) → (cells_of m v from).count ≡ 0 → Adds m old (Place l) new → Adds m old (Wipe v from l) new
wipes_none m old new v from l none adds = record {
  puts = record {
    items = adds.puts.items
        ∙ ap (λ b. old.items.items ++ (if b then place_items ((state_of old).named l) old.before l else wipe_items (cells_of m v from).first (cells_of m v from).count l)) (sym (no_words (cells_of m v from).count none));
    fits = adds.puts.fits;
  };
  state = adds.state
      ∙ ap (λ b. if b then behind_place ((state_of old).named l) l (state_of old) else shut (naming l (state_of old))) (sym (no_words (cells_of m v from).count none));
}
