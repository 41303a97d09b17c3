-- A Clear on the machine, whichever cells it has.
use Rattle.std.proofs.Common.{◌≡◌, ◌⊎◌, inl, inr, ⊎_elim, ℕ, suc, ◌+◌, ◌-◌, ◌*◌, ◌<◌, ◌≤◌, Bool, true, false, List, [], map, Option, Some, None, refl, sym, ap, ◌∙◌, subst, arith}
use Rattle.std.specs.Prelude.{◌==◌, ◌%◌, ◌||◌, if◌then◌else◌, slice_get}
use mathlib.Core.Path.{fun_ext}
use Rattle.std.proofs.lemmas.Bool.{eqb-true, eqb-false}
use Rattle.std.proofs.lemmas.Bool.Decides.{leb_tells}
use Rattle.std.proofs.lemmas.Option.{none-some, same_Some}
use Rattle.word_base.specs.Ports.{Outputs}
use Rattle.c_tree.specs.declared.program.VarRef.{VarRef}
use Rattle.c_tree.specs.declared.program.VarRef.TheVariants.{Scalar, Local, Static}
use Rattle.c_tree.specs.TypedTree.{ObjectTree}
use Rattle.c25_isa.specs.State as machine
use Rattle.c25_isa.specs.State.{Memory}
use Rattle.c25_isa.specs.Pieces.{items_size, ItemsAt}
use Rattle.c25_code.specs.Work.{Work, calm}
use Rattle.c25_code.specs.Accesses.{Accesses, LeadsWithin}
use Rattle.c25_code.specs.ClearingLoops.{zeroed, behind_clearing}
use Rattle.c25_code.proofs.ClearingLoops.{zeroed_out}
use Rattle.ir_semantics.specs.Parts.{Res, Gives, Finished, TooMany, Fails, after, Flow, Next}
use Rattle.ir_semantics.specs.Outside.{cell_address}
use Rattle.ir_semantics.specs.AccRun.{Machine, Context, cells_of, clear, clear_cells, cleared, forgetting, without_scratch}
use Rattle.emit_blocks.specs.Places.{or_zero, address_in, object_address}
use Rattle.emit_control.specs.Entries.{Wipe}
use Rattle.emit_control.specs.Cuts.{State, naming, shut, behind_place, place_items, wipe_items, entry_items}
use Rattle.emit_control.specs.Settings.{Setting}
use Rattle.emit_proof.specs.Accessing.{is_place, site_may}
use Rattle.emit_proof.specs.Sites.{Site, IsSite, Beside}
use Rattle.emit_proof.specs.Entries.{Passes, EntryAt}
use Rattle.emit_proof.specs.Code.{ClearArrives, IsPresent, WipeMeets}
use Rattle.emit_proof.proofs.Knowing.{without_scratch_beside, more_work_beside}
use Rattle.emit_proof.proofs.LabelClearing.{Cleared, with_cells, cells_cleared}
use Rattle.emit_proof.proofs.Wiping.{behind_wiping, wiped_beside}
use Rattle.emit_proof.proofs.WipingItems.{before_loop, loop_runs, loop_ranges, Placed, place_leads, length_at}

-- a clearing that isn't refused: the object is there
record IsClear (cells at : Option ℕ) (from : ℕ) (v u : Machine) (flow : Flow) : Type 0 where
  n : ℕ
  a : ℕ
  long : cells ≡ Some n
  there : at ≡ Some a
  mid : Machine
  run : clear_cells a from (n - from) (without_scratch (record v { work = v.work + (9 + 64 * n) })) ≡ Gives flow mid
  is : u ≡ behind_wiping mid

gives_same : {a b : Flow} {v w : Machine} → Gives a v ≡ Gives b w → v ≡ w
gives_same e = cc

gives_flow : {a b : Flow} {v w : Machine} → Gives a v ≡ Gives b w → a ≡ b
gives_flow e = cc

is_clear : (cells at : Option ℕ) (from : ℕ) (v u : Machine) (flow : Flow) → clear cells at from v ≡ Gives flow u → IsClear cells at from v u flow
is_clear None at from v u flow e = cc
is_clear (Some n) None from v u flow e = cc
is_clear (Some n) (Some a) from v u flow e = by (clear_cells a from (n - from) (without_scratch (record v { work = v.work + (9 + 64 * n) }))) refl e
  where
    by : (r : Res Machine Flow) → clear_cells a from (n - from) (without_scratch (record v { work = v.work + (9 + 64 * n) })) ≡ r → after (after r cleared) forgetting ≡ Gives flow u → IsClear (Some n) (Some a) from v u flow
    by (Gives other mid) is q = record { n = n; a = a; long = refl; there = refl; mid = mid; run = is ∙ ap (λ f. Gives f mid) (gives_flow q); is = sym (gives_same q) }
    by (Finished ending outs total) is q = cc
    by (TooMany outs) is q = cc
    by (Fails outs) is q = cc

module _ (start : machine.State) (program : Memory) (names : List ℕ → ℕ) (m : Setting) (k : Site) (marks label : ℕ → ℕ) (c : Context) (site : IsSite k) (places : m.places ≡ k.places)
    (lengths : m.lengths ≡ map (λ (o : ObjectTree). o.length) c.locals) (addresses : (v : VarRef) → IsPresent (cells_of c.locals v) → c.at v ≡ k.at v) (short : (v : VarRef) (n : ℕ) → cells_of c.locals v ≡ Some n → n < 32768) where
  -- the state behind, with all that its clearing says
  module _ (j from l pc : ℕ) (s : State) (v u : Machine) (w : Work) (flow : Flow) (at : EntryAt program marks names m label pc s (Wipe (Local j) from l)) (passes : Passes s.before) (beside : Beside k v w)
      (is : IsClear (cells_of c.locals (Local j)) (c.at (Local j)) from v u flow) where
    present : IsPresent (cells_of c.locals (Local j))
    present = subst IsPresent (sym is.long) tt

    abbrev first : ℕ
    first = cell_address is.a from

    abbrev count : ℕ
    count = is.n - from

    abbrev begun : Machine
    begun = without_scratch (record v { work = v.work + (9 + 64 * is.n) })

    begun_beside : Beside k begun w
    begun_beside = without_scratch_beside k (record v { work = v.work + (9 + 64 * is.n) }) w (more_work_beside k v w (v.work + (9 + 64 * is.n)) beside)

    done : (flow ≡ Next) × Cleared k.lives first count begun is.mid
    done = cells_cleared k.lives site.objects is.a from count begun is.mid flow begun_beside.nowhere is.run

    -- the words that the setting has are these
    first_same : (address_in m.places.locals j + from) % 65536 ≡ first
    first_same =
        let a : object_address k.places (Local j) ≡ is.a = site.addresses (Local j) is.a (sym (addresses (Local j) present) ∙ is.there) in
        ap (λ p. (address_in p.locals j + from) % 65536) places ∙ ap (λ x. (x + from) % 65536) a

    count_same : address_in m.lengths j - from ≡ count
    count_same = ap (λ ls. address_in ls j - from) lengths ∙ ap (λ x. x - from) (length_at c.locals j is.n is.long)

    state_same : u ≡ behind_wiping (with_cells is.mid.outside.memory begun)
    state_same = is.is ∙ ap behind_wiping done.1.is

    arrives_so : (steps to : ℕ) (w2 : Work) → LeadsWithin (Accesses (site_may k)) steps (calm program pc w) (calm program to w2) [] → Beside k (behind_wiping (with_cells is.mid.outside.memory begun)) w2 → steps ≤ 2 + 4 * is.n → ClearArrives program k pc to v w u
    arrives_so steps to w2 leads b few =
        let worked : u.work ≡ v.work + (9 + 64 * is.n) = ap (λ x. x.work) state_same in
        record {
          steps = steps;
          work = w2;
          leads = leads;
          beside = subst (λ x. Beside k x w2) (sym state_same) b;
          outputs = ap (λ x. x.outside.outs) state_same;
          within = omega (arith, few, worked);
        }

    looped : 1 ≤ count → ItemsAt program marks names pc (wipe_items first count l) → pc + items_size (wipe_items first count l) < 65536 → ClearArrives program k pc (pc + items_size (wipe_items first count l)) v w u
    looped some items room =
        let from_here = done.1.from some in
        let to = done.1.to in
        let lt : is.n < 32768 = short (Local j) is.n is.long in
        arrives_so (2 + 4 * count) (pc + items_size (wipe_items first count l)) (behind_clearing count (before_loop first count w))
        ((loop_runs (site_may k) first count l w some (omega (arith, lt)) (omega (arith, from_here)) to (λ a low high. ap (λ b. b || is_place k.places.scalars 1 a) (done.1.lived a low high))).by program marks names pc items room)
        (wiped_beside k site first count begun is.mid done.1 w (behind_clearing count (before_loop first count w)) begun_beside (record {
          t = refl;
          p = refl;
          sxm = refl;
          stack = refl;
          input = refl;
          ram = refl;
          range = loop_ranges first count w (omega (arith, some, to)) beside.range;
        }))
        (omega arith)

    -- where no cell is cleared
    nothing : count ≡ 0 → ItemsAt program marks names pc (place_items (s.named l) s.before l) → ClearArrives program k pc (pc + items_size (place_items (s.named l) s.before l)) v w u
    nothing none items =
        let there = place_leads (site_may k) program marks names (s.named l) s.before l pc w passes items in
        let few = there.few in
        arrives_so there.steps (pc + items_size (place_items (s.named l) s.before l)) w there.leads
        (wiped_beside k site first count begun is.mid done.1 w w begun_beside (record {
          t = refl;
          p = refl;
          sxm = refl;
          stack = refl;
          input = refl;
          ram = unzeroed;
          range = beside.range;
        }))
        (omega (arith, few))
      where
        unzeroed : w.ram ≡ zeroed first count w.ram
        unzeroed = fun_ext (λ a. sym (zeroed_out first count w.ram a (out a)))
          where
            out : (a : ℕ) → (a < first) ⊎ (first + count ≤ a)
            out a = ⊎_elim (λ e. let le = e.1 in inr (omega (arith, none, le))) (λ e. inl e.1) (leb_tells first a)

    arrives : ClearArrives program k pc (pc + items_size (entry_items m s (Wipe (Local j) from l))) v w u
    arrives = by ((address_in m.lengths j - from) == 0) refl at.items at.room
      where
        words : (address_in m.places.locals j + from) % 65536 ≡ first
        words = first_same

        by : (b : Bool) → ((address_in m.lengths j - from) == 0) ≡ b
            → ItemsAt program marks names pc (if b then place_items (s.named l) s.before l else wipe_items ((address_in m.places.locals j + from) % 65536) (address_in m.lengths j - from) l)
            → (Passes (if b then behind_place (s.named l) l s else shut (naming l s)).before → pc + items_size (if b then place_items (s.named l) s.before l else wipe_items ((address_in m.places.locals j + from) % 65536) (address_in m.lengths j - from) l) < 65536)
            → ClearArrives program k pc (pc + items_size (if b then place_items (s.named l) s.before l else wipe_items ((address_in m.places.locals j + from) % 65536) (address_in m.lengths j - from) l)) v w u
        by true e items room = nothing (sym count_same ∙ eqb-true (address_in m.lengths j - from) 0 e) items
        by false e items room =
            let other = eqb-false (address_in m.lengths j - from) 0 e in
            let same = count_same in
            let some : 1 ≤ count = omega (arith, other, same) in
            subst (λ a. ClearArrives program k pc (pc + items_size (wipe_items a (address_in m.lengths j - from) l)) v w u) (sym first_same)
            (subst (λ n. ClearArrives program k pc (pc + items_size (wipe_items first n l)) v w u) (sym count_same)
            (looped some (subst (λ n. ItemsAt program marks names pc (wipe_items first n l)) count_same (subst (λ a. ItemsAt program marks names pc (wipe_items a (address_in m.lengths j - from) l)) first_same items))
            (subst (λ n. pc + items_size (wipe_items first n l) < 65536) count_same (subst (λ a. pc + items_size (wipe_items a (address_in m.lengths j - from) l) < 65536) first_same (room tt)))))

  pub wipes_meet : WipeMeets start program names m k marks label c
  wipes_meet = record { by = λ o from l pc s v u w flow at passes beside e. of_name o from l pc s v u w flow at passes beside e }
    where
      of_name : (o : VarRef) (from l pc : ℕ) (s : State) (v u : Machine) (w : Work) (flow : Flow) → EntryAt program marks names m label pc s (Wipe o from l) → Passes s.before → Beside k v w
          → clear (cells_of c.locals o) (c.at o) from v ≡ Gives flow u → (flow ≡ Next) × ClearArrives program k pc (pc + items_size (entry_items m s (Wipe o from l))) v w u
      of_name (Scalar i) from l pc s v u w flow at passes beside e = cc
      of_name (Static i) from l pc s v u w flow at passes beside e = cc
      of_name (Local j) from l pc s v u w flow at passes beside e =
          let is = is_clear (cells_of c.locals (Local j)) (c.at (Local j)) from v u flow e in
          ((done j from l pc s v u w flow at passes beside is).0, arrives j from l pc s v u w flow at passes beside is)
