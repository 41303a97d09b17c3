-- The walk of a function's piece, and its count.
use Rattle.std.proofs.Common.{◌≡◌, ℕ, ◌+◌, ◌≤◌, true, false, ◌&&◌, is_none, List, [], ◌∷◌, length, map, flat_map, sum_by, Option, None, refl, ap, sym, ◌∙◌, subst, arith}
use Rattle.std.specs.List.{list_all}
use Rattle.std.proofs.lemmas.List.Sums.{sum_by-cons}
use Rattle.c25_isa.specs.declared.piece.PieceItem.{PieceItem}
use Rattle.c25_isa.specs.Image.{Contents}
use Rattle.c25_isa.specs.Pieces.{Piece, Linked, items_size, items_code, piece_code}
use Rattle.c25_isa.specs.Walk.{Placed, Known, nothing_known, Blocks, walked, walk_code, walk, code_of, in_stretches, cut_at, stretches, along}
use Rattle.c25_isa.specs.AddressCount.{address_count}
use Rattle.c25_isa.specs.Direct.{Words, nothing_done, is_direct_from, Direct}
use Rattle.acc_code.specs.AccTree.{ItemList}
use Rattle.acc_code.specs.AccSequence.{closed, blocks_of}
use Rattle.acc_code.specs.Emittable.{IsPlaced}
use Rattle.emit_blocks.specs.Steps.{Operation}
use Rattle.image_proof.specs.emit_control.Entries.{Entry, Run, Head, Place, Close, Branch, Goto, Dispatch, CallTo, CallHelper, Wipe, Ret, Finish}
use Rattle.image_proof.specs.emit_control.Flow.{body_entries}
use Rattle.image_proof.specs.emit_control.Settings.{Setting}
use Rattle.image_proof.specs.emit_control.Cuts.{begun, cut, function_items}
use Rattle.image_proof.proofs.emit_proof.Pieces.{piece_once, piece_marked, piece_named, piece_words}
use Rattle.image_proof.proofs.emit_proof.Words.{piece_has_word}
use Rattle.image_proof.specs.RunWalks.{placed_from, scalars_of, address_of}
use Rattle.image_proof.specs.PieceWalks.{EntryWalks, RunsWalk, IsFunctionIn, range_first, range_last}
use Rattle.image_proof.specs.DirectPieces.{RunsAreDirect, KeepsReturn, words}
use Rattle.image_proof.proofs.Gathered.{blocks_by, blocks_in, entry_blocks, body_gathers}
use Rattle.image_proof.proofs.Apart.{body_apart}
use Rattle.image_proof.proofs.Folding.{total, placed_blocks, stretches_fold, stretches_total}
use Rattle.image_proof.proofs.ItemBlocks.{items_blocks, items_fold, begun as fresh}
use Rattle.image_proof.proofs.Located.{marks_at, name_addresses, first_placed, code_found}
use Rattle.image_proof.proofs.Targets.{targets_of, MarksAreRight, piece_cuts}
use Rattle.image_proof.proofs.Quiet.{AreQuiet, listed_given, unknown_given, counted_given, listed_quiet, unknown_quiet, counted_quiet}
use Rattle.image_proof.proofs.Closing.{entry_begins}
use Rattle.image_proof.proofs.EntrySorts.{entry_cost}
use Rattle.image_proof.proofs.EntryBlocks.{EntryGives, RunsGive, EntryCosts, RunsCost, cost_in, no_scalars, entries_give, entries_count}
use Rattle.image_proof.proofs.PlainPieces.{function_by_marks}
use Rattle.image_proof.proofs.DirectFold.{stretches_direct}
use Rattle.image_proof.proofs.DirectEntries.{function_direct}

-- by entry: what runs give, as what walks find in them
entry_lists : (m : Setting) (cost : List ℕ → ℕ) (e : Entry) → EntryWalks m cost e → EntryGives listed_given m (λ os. map (address_of m.places) (scalars_of os)) e
entry_lists m cost (Run os) w = w.addresses_so
entry_lists m cost (Head l) w = tt
entry_lists m cost (Place l) w = tt
entry_lists m cost (Close h l) w = tt
entry_lists m cost (Branch t l) w = tt
entry_lists m cost (Goto l) w = tt
entry_lists m cost (Dispatch cs l behind) w = tt
entry_lists m cost (CallTo f) w = tt
entry_lists m cost (CallHelper name) w = tt
entry_lists m cost (Wipe v from l) w = tt
entry_lists m cost Ret w = tt
entry_lists m cost (Finish l) w = tt

entry_knows : (m : Setting) (cost : List ℕ → ℕ) (e : Entry) → EntryWalks m cost e → EntryCosts unknown_given m (λ os. 0) e
entry_knows m cost (Run os) w = λ k at. ap length (w.known_so k at)
entry_knows m cost (Head l) w = tt
entry_knows m cost (Place l) w = tt
entry_knows m cost (Close h l) w = tt
entry_knows m cost (Branch t l) w = tt
entry_knows m cost (Goto l) w = tt
entry_knows m cost (Dispatch cs l behind) w = tt
entry_knows m cost (CallTo f) w = tt
entry_knows m cost (CallHelper name) w = tt
entry_knows m cost (Wipe v from l) w = tt
entry_knows m cost Ret w = tt
entry_knows m cost (Finish l) w = tt

entry_counts : (m : Setting) (cost : List ℕ → ℕ) (e : Entry) → EntryWalks m cost e → EntryCosts counted_given m (λ os. cost (scalars_of os)) e
entry_counts m cost (Run os) w = w.counted_so
entry_counts m cost (Head l) w = tt
entry_counts m cost (Place l) w = tt
entry_counts m cost (Close h l) w = tt
entry_counts m cost (Branch t l) w = tt
entry_counts m cost (Goto l) w = tt
entry_counts m cost (Dispatch cs l behind) w = tt
entry_counts m cost (CallTo f) w = tt
entry_counts m cost (CallHelper name) w = tt
entry_counts m cost (Wipe v from l) w = tt
entry_counts m cost Ret w = tt
entry_counts m cost (Finish l) w = tt

runs_list : (m : Setting) (cost : List ℕ → ℕ) (es : List Entry) → RunsWalk m cost es → RunsGive listed_given m (λ os. map (address_of m.places) (scalars_of os)) es
runs_list m cost [] w = tt
runs_list m cost (e ∷ es) w = (entry_lists m cost e w.0, runs_list m cost es w.1)

runs_know : (m : Setting) (cost : List ℕ → ℕ) (es : List Entry) → RunsWalk m cost es → RunsCost unknown_given m (λ os. 0) es
runs_know m cost [] w = tt
runs_know m cost (e ∷ es) w = (entry_knows m cost e w.0, runs_know m cost es w.1)

runs_count : (m : Setting) (cost : List ℕ → ℕ) (es : List Entry) → RunsWalk m cost es → RunsCost counted_given m (λ os. cost (scalars_of os)) es
runs_count m cost [] w = tt
runs_count m cost (e ∷ es) w = (entry_counts m cost e w.0, runs_count m cost es w.1)

-- blocks of addresses are those of the scalars, and costs are those of the blocks
closed_map : (g : ℕ → ℕ) (block : List ℕ) (blocks : List (List ℕ)) → closed (map g block) (map (map g) blocks) ≡ map (map g) (closed block blocks)
closed_map g [] blocks = refl
closed_map g (n ∷ block) blocks = refl

entry_map : (g : ℕ → ℕ) (e : Entry) (blocks : List (List ℕ)) → entry_blocks (λ os. map g (scalars_of os)) e (map (map g) blocks) ≡ map (map g) (entry_blocks scalars_of e blocks)
entry_map g (Run os) blocks = closed_map g (scalars_of os) blocks
entry_map g (Head l) blocks = refl
entry_map g (Place l) blocks = refl
entry_map g (Close h l) blocks = refl
entry_map g (Branch t l) blocks = refl
entry_map g (Goto l) blocks = refl
entry_map g (Dispatch cs l behind) blocks = refl
entry_map g (CallTo f) blocks = refl
entry_map g (CallHelper name) blocks = refl
entry_map g (Wipe v from l) blocks = refl
entry_map g Ret blocks = refl
entry_map g (Finish l) blocks = refl

blocks_map : (g : ℕ → ℕ) (es : List Entry) → blocks_by (λ os. map g (scalars_of os)) es ≡ map (map g) (blocks_in es)
blocks_map g [] = refl
blocks_map g (e ∷ es) = ap (entry_blocks (λ os. map g (scalars_of os)) e) (blocks_map g es) ∙ entry_map g e (blocks_in es)

closed_cost : (cost : List ℕ → ℕ) → cost [] ≡ 0 → (block : List ℕ) (blocks : List (List ℕ)) → sum_by cost (closed block blocks) ≡ cost block + sum_by cost blocks
closed_cost cost free [] blocks = omega (arith, free)
closed_cost cost free (n ∷ block) blocks = sum_by-cons cost (n ∷ block) blocks

entry_costs : (cost : List ℕ → ℕ) → cost [] ≡ 0 → (e : Entry) (blocks : List (List ℕ)) → sum_by cost (entry_blocks scalars_of e blocks) ≡ entry_cost (λ os. cost (scalars_of os)) e + sum_by cost blocks
entry_costs cost free (Run os) blocks = closed_cost cost free (scalars_of os) blocks
entry_costs cost free (Head l) blocks = omega arith
entry_costs cost free (Place l) blocks = omega arith
entry_costs cost free (Close h l) blocks = omega arith
entry_costs cost free (Branch t l) blocks = omega arith
entry_costs cost free (Goto l) blocks = omega arith
entry_costs cost free (Dispatch cs l behind) blocks = omega arith
entry_costs cost free (CallTo f) blocks = omega arith
entry_costs cost free (CallHelper name) blocks = omega arith
entry_costs cost free (Wipe v from l) blocks = omega arith
entry_costs cost free Ret blocks = omega arith
entry_costs cost free (Finish l) blocks = omega arith

costs_sum : (cost : List ℕ → ℕ) → cost [] ≡ 0 → (es : List Entry) → sum_by cost (blocks_in es) ≡ cost_in (λ os. cost (scalars_of os)) es
costs_sum cost free [] = refl
costs_sum cost free (e ∷ es) = entry_costs cost free e (blocks_in es) ∙ ap (λ n. entry_cost (λ os. cost (scalars_of os)) e + n) (costs_sum cost free es)

nothing_costs : (es : List Entry) → cost_in (λ os. 0) es ≡ 0
nothing_costs [] = refl
nothing_costs (Run os ∷ es) = omega (arith, nothing_costs es)
nothing_costs (Head l ∷ es) = omega (arith, nothing_costs es)
nothing_costs (Place l ∷ es) = omega (arith, nothing_costs es)
nothing_costs (Close h l ∷ es) = omega (arith, nothing_costs es)
nothing_costs (Branch t l ∷ es) = omega (arith, nothing_costs es)
nothing_costs (Goto l ∷ es) = omega (arith, nothing_costs es)
nothing_costs (Dispatch cs l behind ∷ es) = omega (arith, nothing_costs es)
nothing_costs (CallTo f ∷ es) = omega (arith, nothing_costs es)
nothing_costs (CallHelper name ∷ es) = omega (arith, nothing_costs es)
nothing_costs (Wipe v from l ∷ es) = omega (arith, nothing_costs es)
nothing_costs (Ret ∷ es) = omega (arith, nothing_costs es)
nothing_costs (Finish l ∷ es) = omega (arith, nothing_costs es)

none_of_length : (xs : List ℕ) → length xs ≡ 0 → xs ≡ []
none_of_length [] e = refl
none_of_length (x ∷ xs) e = absurd (omega (arith, e))

-- a function's items from an address on
module _ (names : List ℕ → ℕ) (m : Setting) (body : ItemList) (at : ℕ) (placed : IsPlaced false false false body) (room : at + items_size (function_items m body) ≤ 65536) where
  abbrev pub items : List PieceItem
  items = function_items m body

  pub right : MarksAreRight at items
  right = record {
    once = piece_once m body placed;
    stand = λ mark h. piece_marked m body mark placed h;
    named = λ mark h. piece_named m body mark placed h;
    words = piece_words m body;
    room = room;
    plain = function_by_marks m body;
  }

  abbrev pub found : List Placed
  found = placed_from at (items_code (marks_at at items) names items)

  folded : (gives : Known → Placed → Option ℕ) → placed_blocks gives (targets_of found) nothing_known [] found ≡ items_blocks gives (marks_at at items) names nothing_known [] at items
  folded gives = items_fold gives (marks_at at items) names (targets_of found) items at (piece_cuts names at items right) nothing_known [] (fresh gives (marks_at at items) names items)

  lists_are : (f : List Operation → List ℕ) → ((os : List Operation) → scalars_of os ≡ [] → f os ≡ []) → RunsGive listed_given m f (body_entries body)
      → items_blocks listed_given (marks_at at items) names nothing_known [] at items ≡ blocks_by f (body_entries body)
  lists_are f silent give =
      let x = entry_begins listed_given (marks_at at items) names listed_quiet (cut m begun (body_entries body)) at m.back in
      x.is
      ∙ entries_give listed_given (marks_at at items) names listed_quiet m f (λ os e. silent os (no_scalars os e)) (body_entries body) give (body_apart body) begun x.known [] x.next
      (record { first = λ o. absurd cc; none = λ o. refl })

  total_is : (gives : Known → Placed → Option ℕ) → AreQuiet gives → (c : List Operation → ℕ) → RunsCost gives m c (body_entries body)
      → length (flat_map (λ block. block) (map (along gives nothing_known) (cut_at (targets_of found) found))) ≡ cost_in c (body_entries body)
  total_is gives q c costs =
      let x = entry_begins gives (marks_at at items) names q (cut m begun (body_entries body)) at m.back in
      let all : total (items_blocks gives (marks_at at items) names x.known [] x.next (cut m begun (body_entries body))) ≡ 0 + cost_in c (body_entries body)
      = entries_count gives (marks_at at items) names q m c (body_entries body) costs begun x.known [] x.next in
      stretches_total gives (targets_of found) found ∙ ap total (folded gives) ∙ ap total x.is ∙ omega (arith, all)

  -- each direct operand may be there, where those of runs may, and that of the return address
  pub direct_found : (w : Words) → KeepsReturn w m.back → RunsAreDirect w m (body_entries body) → list_all (is_direct_from w nothing_done) (cut_at (targets_of found) found) ≡ true
  direct_found w keeps direct =
      stretches_direct w (targets_of found) found
      ∙ function_direct w (targets_of found) (marks_at at items) names m keeps (body_entries body) begun at direct (piece_cuts names at items right) nothing_done

  pub walk_found : (cost : List ℕ → ℕ) → RunsWalk m cost (body_entries body) → walk_code (record { placed = found; fault = None }) ≡ Blocks (map (map (address_of m.places)) (blocks_of body))
  walk_found cost walks =
      let f : List Operation → List ℕ = λ os. map (address_of m.places) (scalars_of os) in
      let known = none_of_length _ (total_is unknown_given unknown_quiet (λ os. 0) (runs_know m cost (body_entries body) walks) ∙ nothing_costs (body_entries body)) in
      let lists : List (List ℕ) = map (along listed_given nothing_known) (cut_at (targets_of found) found) in
      ap (λ unknown. walked unknown None lists) known
      ∙ ap Blocks
      (stretches_fold listed_given (targets_of found) found
      ∙ folded listed_given
      ∙ lists_are f (λ os e. ap (map (address_of m.places)) e) (runs_list m cost (body_entries body) walks)
      ∙ blocks_map (address_of m.places) (body_entries body)
      ∙ ap (map (map (address_of m.places))) (body_gathers body))

  pub count_found : (cost : List ℕ → ℕ) → cost [] ≡ 0 → RunsWalk m cost (body_entries body)
      → length (flat_map (λ block. block) (in_stretches counted_given (record { placed = found; fault = None }))) ≡ sum_by cost (blocks_of body)
  count_found cost free walks =
      total_is counted_given counted_quiet (λ os. cost (scalars_of os)) (runs_count m cost (body_entries body) walks)
      ∙ sym (costs_sum cost free (body_entries body))
      ∙ ap (sum_by cost) (body_gathers body)

-- a piece in an image
module _ (pieces : List Piece) (image : Contents) (linked : Linked pieces image) (name : List ℕ) (p : Piece) (m : Setting) (body : ItemList) (h : IsFunctionIn pieces image linked name p m body) where
  abbrev at : ℕ
  at = range_first linked.place pieces name

  abbrev last : ℕ
  last = range_last linked.place pieces name p

  abbrev addresses : List ℕ → ℕ
  addresses = name_addresses linked.place pieces

  pub room_there : at + items_size p.items ≤ 65536
  room_there =
      let within = (first_placed pieces image name p linked h.first).within in
      let short = h.short in
      omega (arith, within, short)

  room_is : at + items_size (function_items m body) ≤ 65536
  room_is = subst (λ items. at + items_size items ≤ 65536) h.items room_there

  last_is : last + 1 ≡ at + items_size p.items
  last_is = let word : 1 ≤ items_size p.items = subst (λ items. 1 ≤ items_size items) (sym h.items) (piece_has_word m body) in omega (arith, word)

  pub code_is : code_of image.words at last ≡ record { placed = placed_from at (piece_code addresses at p); fault = None }
  code_is = code_found pieces image name p last linked h.fit h.first last_is

  code_of_items : code_of image.words at last ≡ record { placed = found addresses m body at h.placed room_is; fault = None }
  code_of_items =
      code_is ∙ ap (λ items. record { placed = placed_from at (items_code (marks_at at items) addresses items); fault = None }) h.items

  pub direct_is : (own places given : List ℕ) → KeepsReturn (words own places given) m.back → RunsAreDirect (words own places given) m (body_entries body)
      → Direct image.words at last own places given
  direct_is own places given keeps direct =
      ap (λ code. is_none code.fault && list_all (is_direct_from (words own places given) nothing_done) (stretches code)) code_of_items
      ∙ direct_found addresses m body at h.placed room_is (words own places given) keeps direct

  pub walk_is : (cost : List ℕ → ℕ) → RunsWalk m cost (body_entries body) → walk image.words at last ≡ Blocks (map (map (address_of m.places)) (blocks_of body))
  walk_is cost walks = ap walk_code code_of_items ∙ walk_found addresses m body at h.placed room_is cost walks

  pub count_is : (cost : List ℕ → ℕ) → cost [] ≡ 0 → RunsWalk m cost (body_entries body) → address_count image.words at last ≡ sum_by cost (blocks_of body)
  count_is cost free walks =
      ap (λ code. length (flat_map (λ block. block) (in_stretches counted_given code))) code_of_items
      ∙ count_found addresses m body at h.placed room_is cost free walks
