-- Where the startup calls `main`: the first state of a run of accumulator code is beside the machine.
use Rattle.std.proofs.Common.{◌≡◌, ◌≢◌, ◌<◌, ◌≤◌, ◌⊎◌, ℕ, suc, ◌+◌, ◌-◌, true, false, true≢false, List, [], ◌∷◌, length, map, replicate, Some, refl, sym, ap, ◌∙◌, subst, inl, inr, ⊎_elim, ne_eqb, le-leb, lt-ltb, length-append, arith}
use Rattle.std.specs.Prelude.{cond, slice_get, nat_le, nat_lt}
use Rattle.std.proofs.lemmas.Bool.{cases_lt}
use Rattle.std.proofs.lemmas.List.{length-map, length-replicate}
use Rattle.std.proofs.lemmas.Option.{none-some, get_or_from_slice_get, slice_get_within}
use Rattle.word_base.specs.Ports.{Input}
use Rattle.c_tree.specs.TypedTree.{ObjectTree}
use Rattle.tree_code.specs.WellFormedCode.{IsObjectAmong}
use Rattle.c25_code.specs.Work.{Work, InRange}
use Rattle.ir_semantics.specs.Outside.{Nowhere, Holds, Memory, Places, with_words, with_statics, initial_word, initial_words}
use Rattle.emit_proof.specs.Sites.{Beside}
use Rattle.image_proof.specs.PlanPlaces.{places_of}
use Rattle.image_proof.specs.Emissions.{Emission, IsEmission}
use Rattle.image_proof.specs.ActiveSites.{has_cell, in_objects, is_live, site_of}
use Rattle.image_proof.specs.Beginnings.{nothing_kept, first_state}
use Rattle.image_proof.proofs.Cells.{or_false, and_so}
use Rattle.image_proof.proofs.SiteStanding.{dead_so}
use Rattle.image_proof.proofs.Sites.{nothing_is_kept}

-- words from an address on, and those that aren't among them
words_else : (a : ℕ) (xs : List ℕ) (m : Memory) (b : ℕ) → (b < a) ⊎ (a + length xs ≤ b) → with_words a xs m b ≡ m b
words_else a [] m b out = refl
words_else a (x ∷ xs) m b out =
    let differ : b ≢ a = ⊎_elim (λ less. λ same. omega (arith, less, same)) (λ more. λ same. omega (arith, more, same)) out in
    let rest : (b < suc a) ⊎ (suc a + length xs ≤ b) = ⊎_elim (λ less. inl (omega (arith, less))) (λ more. inr (omega (arith, more))) out in
    ap (λ c. cond c (Holds x) (with_words (suc a) xs m b)) (ne_eqb b a differ) ∙ words_else (suc a) xs m b rest

-- a cell that an object doesn't have
outside_cells : (a n b : ℕ) → has_cell a n b ≡ false → (b < a) ⊎ (a + n ≤ b)
outside_cells a n b out = ⊎_elim (λ less. inl less)
    (λ more. ⊎_elim (λ less. absurd (true≢false (sym (and_so (nat_le a b) (nat_lt b (a + n)) (le-leb a b (omega (arith, more))) (lt-ltb b (a + n) less)) ∙ out)))
    (λ least. inr (omega (arith, least))) (cases_lt b (a + n))) (cases_lt b a)

words_long : (q : Places) (o : ObjectTree) → length o.initial ≤ o.length → length (initial_words q o) ≡ o.length
words_long q o within =
    let both = length-append (map (initial_word q) o.initial) (replicate (o.length - length o.initial) 0) in
    let listed = length-map o.initial (initial_word q) in
    let zeros = length-replicate {A = ℕ} (o.length - length o.initial) 0 in
    omega (arith, both, listed, zeros, within)

-- no static object has it
statics_else : (q : Places) (n : ℕ) (os : List ObjectTree) (m : Memory) (a : ℕ) → ((k : ℕ) (o : ObjectTree) → slice_get os k ≡ Some o → length o.initial ≤ o.length) → in_objects q.static n os a ≡ false → with_statics q n os m a ≡ m a
statics_else q n [] m a within out = refl
statics_else q n (o ∷ os) m a within out =
    let parts = or_false (has_cell (q.static n) o.length a) (in_objects q.static (suc n) os a) out in
    let long = words_long q o (within 0 o refl) in
    let away : (a < q.static n) ⊎ (q.static n + length (initial_words q o) ≤ a) = subst (λ k. (a < q.static n) ⊎ (q.static n + k ≤ a)) (sym long) (outside_cells (q.static n) o.length a parts.0) in
    words_else (q.static n) (initial_words q o) (with_statics q (suc n) os m) a away ∙ statics_else q (suc n) os m a (λ k u there. within (suc k) u there) parts.1

module _ (e : Emission) (is : IsEmission e) (input : Input) where
  static_within : (k : ℕ) (o : ObjectTree) → slice_get e.code.statics k ≡ Some o → length o.initial ≤ o.length
  static_within k o there =
      let object = subst (IsObjectAmong e.code.statics) (get_or_from_slice_get e.code.statics k o o there) (is.code.statics k o (slice_get_within e.code.statics k o there)) in
      object.within

  nowhere_first : (a : ℕ) → is_live e [] a ≡ false → (first_state e input).outside.memory a ≡ Nowhere
  nowhere_first a dead = statics_else (places_of e.plan) 0 e.code.statics (λ b. Nowhere) a static_within dead

  pub first_beside : (w : Work) → InRange w → w.sxm ≡ true → w.stack ≡ [] → w.input ≡ input → ((a x : ℕ) → (first_state e input).outside.memory a ≡ Holds x → w.ram a ≡ x) → Beside (site_of e [] nothing_kept []) (first_state e input) w
  first_beside w range sxm stack same statics = record {
    stands = record {
      frame = λ n x known. absurd (none-some x known);
      scratch = λ n x known. absurd (none-some x known);
      given = λ n x known. absurd (none-some x known);
      memory = statics;
      callers = λ a x known. absurd (none-some x known);
      reserved = λ a reserved. nowhere_first a (dead_so e is [] tt nothing_kept (nothing_is_kept e []) a reserved);
    };
    nowhere = nowhere_first;
    registers = record { acc = tt; t = tt; p = tt; sxm = sxm };
    pointed = λ p known. absurd (none-some p known);
    input = same;
    stack = stack;
    range = range;
  }
