-- The parts of items, one behind another.
use Rattle.std.proofs.Common.{◌≡◌, ◌∙◌, ℕ, ◌+◌, Bool, true, false, if◌then◌else◌, List, [], ◌∷◌, length, Option, Some, None, refl, ap, sym, subst, Result, Ok, Err, OnOk, arith}
use Rattle.c25_isa.specs.declared.piece.PieceItem.{PieceItem}
use Rattle.acc_code.specs.declared.item.CaseLabel.{CaseLabel}
use Rattle.acc_code.specs.declared.operation.Test.{Test}
use Rattle.acc_code.specs.AccTree.{Item, ItemList}
use Rattle.emit_control.specs.declared.code.Code.{Code}
use Rattle.emit_control.specs.declared.ways.Spot.{Spot}
use Rattle.emit_control.specs.declared.ways.Ways.{Ways}
use Rattle.emit_control.specs.Entries.{Entry, Head, Place, Close, Branch, Goto, Dispatch}
use Rattle.emit_control.specs.Flow.{Part, emit, if_code, loop_end, target, labels, opposite, is_end, third_ways}
use Rattle.emit_control.specs.Settings.{Setting}
use Rattle.emit_control.specs.Emits.{Adds, Emits, before_entries, jumps, if_part, both_parts, loop_part, end_part, switch_part, first_spot, turn_spot, third_spot, switch_spot}
use Rattle.emit_control.proofs.Emitting.{one, both}

pub always : {T E : Type 0} {P : Type 0} (r : Result T E) → P → OnOk r P
always (Ok v) p = p
always (Err e) p = tt

-- two parts, by the labels to which they lead at once
abbrev parts : Test → Option ℕ → Option ℕ → ItemList → ItemList → Ways → ℕ → Part
parts t x y hit miss w base next rest = if_code t x y (emit hit [] w (base + 2)) (emit miss [] w (base + 2 + labels hit)) (base + 1) next rest

module _ (m : Setting) where
  as_targets : (old new : Code) (t : Test) (x y : Option ℕ) (hit miss : ItemList) (w : Ways) (base next : ℕ) → target w hit ≡ x → target w miss ≡ y
      → Emits m old (parts t x y hit miss w base next) new → Emits m old (if_part t hit miss w base next) new
  as_targets old new t x y hit miss w base next is1 is2 emits =
      subst (λ q. Emits m old (parts t q (target w miss) hit miss w base next) new) (sym is1)
      (subst (λ q. Emits m old (parts t x q hit miss w base next) new) (sym is2) emits)

  pub two_targets : (old new : Code) (t : Test) (a b : ℕ) (hit miss : ItemList) (w : Ways) (base next : ℕ) → target w hit ≡ Some a → target w miss ≡ Some b
      → Emits m old (jumps t a b next) new → Emits m old (if_part t hit miss w base next) new
  two_targets old new t a b hit miss w base next is1 is2 emits = as_targets old new t (Some a) (Some b) hit miss w base next is1 is2 emits

  pub second_runs : (old between new : Code) (t : Test) (a : ℕ) (hit miss : ItemList) (w : Ways) (base next first : ℕ) → target w hit ≡ Some a → target w miss ≡ None → labels hit ≡ 0
      → first ≡ base + 2 → Adds m old (Branch t a) between → Emits m between (emit miss [] w first next) new → Emits m old (if_part t hit miss w base next) new
  second_runs old between new t a hit miss w base next first is1 is2 few at adds emits =
      let none : first ≡ base + 2 + labels hit = omega (arith, few, at) in
      as_targets old new t (Some a) None hit miss w base next is1 is2
      (both m old between new (λ rest. Branch t a ∷ rest) (emit miss [] w (base + 2 + labels hit) next) (one m old between (Branch t a) adds)
      (subst (λ n. Emits m between (emit miss [] w n next) new) none emits))

  pub first_runs : (old between new : Code) (t u : Test) (b : ℕ) (hit miss : ItemList) (w : Ways) (base next first : ℕ) → target w hit ≡ None → target w miss ≡ Some b
      → u ≡ opposite t → first ≡ base + 2 → Adds m old (Branch u b) between → Emits m between (emit hit [] w first next) new → Emits m old (if_part t hit miss w base next) new
  first_runs old between new t u b hit miss w base next first is1 is2 other at adds emits =
      as_targets old new t None (Some b) hit miss w base next is1 is2
      (both m old between new (λ rest. Branch (opposite t) b ∷ rest) (emit hit [] w (base + 2) next)
      (one m old between (Branch (opposite t) b) (subst (λ q. Adds m old (Branch q b) between) other adds))
      (subst (λ n. Emits m between (emit hit [] w n next) new) at emits))

  -- two parts, by the test, the label of the second one, and the labels that both own
  abbrev in_order : Code → ItemList → ItemList → Ways → ℕ → Test → ℕ → ℕ → ℕ → List Entry → List PieceItem
  in_order old hit miss w next u other first from rest =
      before_entries m old (Branch u other ∷ emit hit [] w first other (Place other ∷ emit miss [] w from next rest))

  pub both_run : (old a b c new : Code) (t u : Test) (hit miss : ItemList) (w : Ways) (base next other first from : ℕ) → u ≡ opposite t → other ≡ base + 1 → first ≡ base + 2
      → from ≡ first + labels hit → Adds m old (Branch u other) a → Emits m a (emit hit [] w first other) b → Adds m b (Place other) c → Emits m c (emit miss [] w from next) new
      → Emits m old (both_parts t hit miss w base next) new
  both_run old a b c new t u hit miss w base next other first from is1 is2 is3 is4 adds emits places more = record {
    items = λ rest.
        ap (λ q. in_order old hit miss w next q (base + 1) (base + 2) (base + 2 + labels hit) rest) (sym is1)
        ∙ ap (λ q. in_order old hit miss w next u q (base + 2) (base + 2 + labels hit) rest) (sym is2)
        ∙ ap (λ q. in_order old hit miss w next u other q (base + 2 + labels hit) rest) (sym is3)
        ∙ ap (λ q. in_order old hit miss w next u other first q rest) (sym (is4 ∙ ap (λ n. n + labels hit) is3))
        ∙ (one m old a (Branch u other) adds).items (emit hit [] w first other (Place other ∷ emit miss [] w from next rest))
        ∙ emits.items (Place other ∷ emit miss [] w from next rest)
        ∙ (one m b c (Place other) places).items (emit miss [] w from next rest)
        ∙ more.items rest;
    fits = λ fit. more.fits (places.puts.fits (emits.fits (adds.puts.fits fit)));
  }

  -- a loop, by its head, the places of its first two parts, and the first label of its third part
  abbrev round : Code → ItemList → ItemList → ItemList → Spot → ℕ → Spot → Spot → ℕ → List Entry → List PieceItem
  round old before body third s head first turn from rest =
      before_entries m old (Head head ∷ emit before [] first.ways first.base first.next (Place first.next ∷ emit body [] turn.ways turn.base turn.next (end_part third from s rest)))

  pub loop_runs : (old a b c d new : Code) (before body third : ItemList) (s first turn : Spot) (head from to : ℕ) → head ≡ s.base + 1 → first ≡ first_spot third s
      → from ≡ first.base + labels before → turn ≡ turn_spot third from s → to ≡ turn.base + labels body
      → Adds m old (Head head) a → Emits m a (emit before [] first.ways first.base first.next) b → Adds m b (Place first.next) c
      → Emits m c (emit body [] turn.ways turn.base turn.next) d → Emits m d (end_part third to s) new → Emits m old (loop_part before body third s.ways s.base s.next) new
  loop_runs old a b c d new before body third s first turn head from to is1 is2 is3 is4 is5 heads begins places turns ends =
      let at : from ≡ s.base + 4 + labels before = is3 ∙ ap (λ f. f.base + labels before) is2 in
      let turn_at : turn ≡ turn_spot third (s.base + 4 + labels before) s = is4 ∙ ap (λ n. turn_spot third n s) at in
      let to_at : to ≡ s.base + 4 + labels before + labels body = is5 ∙ ap (λ f. f.base + labels body) turn_at in
      record {
        items = λ rest.
            ap (λ q. round old before body third s q (first_spot third s) (turn_spot third (s.base + 4 + labels before) s) (s.base + 4 + labels before + labels body) rest) (sym is1)
            ∙ ap (λ q. round old before body third s head q (turn_spot third (s.base + 4 + labels before) s) (s.base + 4 + labels before + labels body) rest) (sym is2)
            ∙ ap (λ q. round old before body third s head first q (s.base + 4 + labels before + labels body) rest) (sym turn_at)
            ∙ ap (λ q. round old before body third s head first turn q rest) (sym to_at)
            ∙ (one m old a (Head head) heads).items (emit before [] first.ways first.base first.next (Place first.next ∷ emit body [] turn.ways turn.base turn.next (end_part third to s rest)))
            ∙ begins.items (Place first.next ∷ emit body [] turn.ways turn.base turn.next (end_part third to s rest))
            ∙ (one m b c (Place first.next) places).items (emit body [] turn.ways turn.base turn.next (end_part third to s rest))
            ∙ turns.items (end_part third to s rest)
            ∙ ends.items rest;
        fits = λ fit. ends.fits (turns.fits (places.puts.fits (begins.fits (heads.puts.fits fit))));
      }

  abbrev loop_end_by : Code → Bool → ℕ → ℕ → ItemList → Spot → ℕ → List Entry → List PieceItem
  loop_end_by old none head go third s next rest = before_entries m old (loop_end none head go (emit third [] s.ways s.base) next rest)

  pub ends_without : (old new : Code) (third : ItemList) (base head : ℕ) (s : Spot) → is_end third ≡ true → head ≡ s.base + 1 → Adds m old (Close head s.next) new
      → Emits m old (end_part third base s) new
  ends_without old new third base head s none at adds = record {
    items = λ rest.
        ap (λ q. loop_end_by old q (s.base + 1) (s.base + 3) third (third_spot base s) s.next rest) none
        ∙ ap (λ q. before_entries m old (Close q s.next ∷ rest)) (sym at)
        ∙ (one m old new (Close head s.next) adds).items rest;
    fits = adds.puts.fits;
  }

  pub ends_with_third : (old a b new : Code) (third : ItemList) (base head go : ℕ) (s part : Spot) → is_end third ≡ false → head ≡ s.base + 1 → go ≡ s.base + 3 → part ≡ third_spot base s
      → Adds m old (Place go) a → Emits m a (emit third [] part.ways part.base part.next) b → Adds m b (Close head s.next) new → Emits m old (end_part third base s) new
  ends_with_third old a b new third base head go s part some at go_at is places runs closes = record {
    items = λ rest.
        ap (λ q. loop_end_by old q (s.base + 1) (s.base + 3) third (third_spot base s) s.next rest) some
        ∙ ap (λ q. before_entries m old (Place q ∷ emit third [] (third_ways s.base s.ways) base s.next (Close (s.base + 1) s.next ∷ rest))) (sym go_at)
        ∙ ap (λ q. before_entries m old (Place go ∷ emit third [] q.ways q.base q.next (Close (s.base + 1) s.next ∷ rest))) (sym is)
        ∙ ap (λ q. before_entries m old (Place go ∷ emit third [] part.ways part.base part.next (Close q s.next ∷ rest))) (sym at)
        ∙ (one m old a (Place go) places).items (emit third [] part.ways part.base part.next (Close head s.next ∷ rest))
        ∙ runs.items (Close head s.next ∷ rest)
        ∙ (one m b new (Close head s.next) closes).items rest;
    fits = λ fit. closes.puts.fits (runs.fits (places.puts.fits fit));
  }

  pub switch_runs : (old a new : Code) (cases : List CaseLabel) (body : ItemList) (first from : ℕ) (s part : Spot) → first ≡ s.base + 1 → from ≡ first + length cases → part ≡ switch_spot from s
      → Adds m old (Dispatch cases first s.ways.onward) a → Emits m a (emit body [] part.ways part.base part.next) new → Emits m old (switch_part cases body s.ways s.base s.next) new
  switch_runs old a new cases body first from s part at from_at is adds runs =
      let part_is : part ≡ switch_spot (s.base + 1 + length cases) s = is ∙ ap (λ n. switch_spot n s) (from_at ∙ ap (λ n. n + length cases) at) in
      record {
        items = λ rest.
            ap (λ q. before_entries m old (Dispatch cases (s.base + 1) s.ways.onward ∷ emit body [] q.ways q.base q.next rest)) (sym part_is)
            ∙ ap (λ q. before_entries m old (Dispatch cases q s.ways.onward ∷ emit body [] part.ways part.base part.next rest)) (sym at)
            ∙ (one m old a (Dispatch cases first s.ways.onward) adds).items (emit body [] part.ways part.base part.next rest)
            ∙ runs.items rest;
        fits = λ fit. runs.fits (adds.puts.fits fit);
      }
