-- Cells that a Clear makes 0, in a run of accumulator code.
use Rattle.std.proofs.Common.{◌≡◌, ◌≢◌, ◌⊎◌, inl, inr, ⊎_elim, ℕ, zero, suc, ◌+◌, ◌<◌, ◌≤◌, Bool, true, false, List, [], Option, Some, None, refl, sym, ap, ◌∙◌, subst, arith}
use Rattle.std.specs.Prelude.{◌==◌, ◌%◌, if◌then◌else◌}
use Rattle.std.proofs.lemmas.Bool.{eq-eqb, ne_eqb, eqb-true, eqb-false}
use Rattle.std.proofs.lemmas.Bool.Decides.{eqb_tells}
use Rattle.word_base.specs.Ports.{Outputs}
use Rattle.ir_semantics.specs.Parts.{Res, Gives, Finished, TooMany, Fails, after, Flow, Next}
use Rattle.ir_semantics.specs.Outside.{Cell, Nowhere, Unwritten, Holds, Memory, with_word, with_memory, cell_address}
use Rattle.ir_semantics.specs.AccRun.{Machine, write_cell, clear_cells}

-- the state with other memory
abbrev pub with_cells : Memory → Machine → Machine
with_cells m v = record v { outside = with_memory m v.outside }

-- so many cells from an address on, which were living words, are 0, and all else is as it was
pub record Cleared (lives : ℕ → Bool) (c n : ℕ) (v u : Machine) : Type 0 where
  pub is : u ≡ with_cells u.outside.memory v
  pub from : 1 ≤ n → 0x310 ≤ c
  pub to : c + n ≤ 65536
  pub lived : (b : ℕ) → c ≤ b → b < c + n → lives b ≡ true
  pub inside : (b : ℕ) → c ≤ b → b < c + n → u.outside.memory b ≡ Holds 0
  pub elsewhere : (b : ℕ) → (b < c) ⊎ (c + n ≤ b) → u.outside.memory b ≡ v.outside.memory b

gives_state : {a b : Flow} {v w : Machine} → Gives a v ≡ Gives b w → v ≡ w
gives_state e = cc

gives_flow : {a b : Flow} {v w : Machine} → Gives a v ≡ Gives b w → a ≡ b
gives_flow e = cc

fails_not : {A : Type 0} {outs : Outputs} {a : Flow} {v : Machine} → Fails outs ≡ Gives a v → A
fails_not e = cc

module _ (lives : ℕ → Bool) (in_ram : (a : ℕ) → lives a ≡ true → (0x310 ≤ a) × (a < 65536)) where
  abbrev DeadNowhere : Machine → Type 0
  DeadNowhere v = (a : ℕ) → lives a ≡ false → v.outside.memory a ≡ Nowhere

  lives_there : (v : Machine) (a : ℕ) → DeadNowhere v → v.outside.memory a ≢ Nowhere → lives a ≡ true
  lives_there v a dead other = by (lives a) refl
    where
      by : (b : Bool) → lives a ≡ b → b ≡ true
      by true e = refl
      by false e = absurd (other (dead a e))

  -- a word that is written
  record Written (c : ℕ) (v u : Machine) : Type 0 where
    is : u ≡ with_cells (with_word c 0 v.outside.memory) v
    lived : lives c ≡ true

  written : (cell : Cell) (c : ℕ) (v u : Machine) (flow : Flow) → DeadNowhere v → v.outside.memory c ≡ cell → write_cell cell c 0 v ≡ Gives flow u → Written c v u
  written Nowhere c v u flow dead is e = fails_not e
  written Unwritten c v u flow dead is e = record { is = sym (gives_state e); lived = lives_there v c dead (λ q. nowhere_unwritten (sym q ∙ is)) }
    where
      nowhere_unwritten : Nowhere ≡ Unwritten → ⊥
      nowhere_unwritten q = cc
  written (Holds y) c v u flow dead is e = record { is = sym (gives_state e); lived = lives_there v c dead (λ q. nowhere_holds (sym q ∙ is)) }
    where
      nowhere_holds : Nowhere ≡ Holds y → ⊥
      nowhere_holds q = cc

  module _ (v v1 : Machine) (c : ℕ) (w : Written c v v1) where
    written_here : v1.outside.memory c ≡ Holds 0
    written_here = ap (λ x. x.outside.memory c) w.is ∙ ap (λ b. if b then Holds 0 else v.outside.memory c) (eq-eqb c c refl)

    written_elsewhere : (b : ℕ) → b ≢ c → v1.outside.memory b ≡ v.outside.memory b
    written_elsewhere b other = ap (λ x. x.outside.memory b) w.is ∙ ap (λ t. if t then Holds 0 else v.outside.memory b) (ne_eqb b c other)

    written_dead : DeadNowhere v → DeadNowhere v1
    written_dead dead a e = written_elsewhere a (λ q. alive (sym e ∙ ap lives q ∙ w.lived)) ∙ dead a e
      where
        alive : false ≡ true → ⊥
        alive q = cc

  -- the cell behind one: the next word, or the first one of memory where none follows
  after_cell : (a i n : ℕ) → (1 ≤ n → 0x310 ≤ cell_address a (suc i)) → (cell_address a (suc i) ≡ cell_address a i + 1) ⊎ ((cell_address a (suc i) ≡ 0) × (n ≡ 0))
  after_cell a i zero from = ⊎_elim (λ e. inl e) (λ e. inr (e, refl)) (turn a i)
    where
      turn : (a i : ℕ) → (cell_address a (suc i) ≡ cell_address a i + 1) ⊎ (cell_address a (suc i) ≡ 0)
      turn a i = by ((a + suc i) % 65536 == 0) refl
        where
          by : (b : Bool) → ((a + suc i) % 65536 == 0) ≡ b → ((a + suc i) % 65536 ≡ (a + i) % 65536 + 1) ⊎ ((a + suc i) % 65536 ≡ 0)
          by true e = inr (eqb-true ((a + suc i) % 65536) 0 e)
          by false e = let some : (a + suc i) % 65536 ≢ 0 = eqb-false ((a + suc i) % 65536) 0 e in inl (omega (arith, some))
  after_cell a i (suc n) from = let high = from (omega arith) in inl (omega (arith, high))

  cleared_more : (a i n : ℕ) (v v1 u : Machine) → Written (cell_address a i) v v1 → Cleared lives (cell_address a (suc i)) n v1 u → Cleared lives (cell_address a i) (suc n) v u
  cleared_more a i n v v1 u w rest = by (after_cell a i n rest.from)
    where
      c : ℕ
      c = cell_address a i

      c1 : ℕ
      c1 = cell_address a (suc i)

      high : 0x310 ≤ c
      high = (in_ram c w.lived).0

      below : c < 65536
      below = (in_ram c w.lived).1

      is : u ≡ with_cells u.outside.memory v
      is = rest.is ∙ ap (with_cells u.outside.memory) w.is

      out_of : (b : ℕ) → b ≡ c → (b < c) ⊎ (c + suc n ≤ b) → ⊥
      out_of b e (inl low) = omega (arith, e, low)
      out_of b e (inr top) = omega (arith, e, top)

      by : (c1 ≡ c + 1) ⊎ ((c1 ≡ 0) × (n ≡ 0)) → Cleared lives c (suc n) v u
      by (inl next) =
          let end = rest.to in
          record {
            is = is;
            from = λ some. high;
            to = omega (arith, end, next);
            lived = λ b low top. ⊎_elim (λ e. ap lives e.1 ∙ w.lived) (λ e. let other = e.1 in rest.lived b (omega (arith, next, low, other)) (omega (arith, next, top))) (eqb_tells b c);
            inside = λ b low top. ⊎_elim
                (λ e. ap u.outside.memory e.1 ∙ rest.elsewhere c (inl (omega (arith, next))) ∙ written_here v v1 c w)
                (λ e. let other = e.1 in rest.inside b (omega (arith, next, low, other)) (omega (arith, next, top))) (eqb_tells b c);
            elsewhere = λ b out. ⊎_elim
                (λ low. rest.elsewhere b (inl (omega (arith, next, low))) ∙ written_elsewhere v v1 c w b (λ e. omega (arith, e, low)))
                (λ top. rest.elsewhere b (inr (omega (arith, next, top))) ∙ written_elsewhere v v1 c w b (λ e. omega (arith, e, top))) out;
          }
      by (inr last) =
          let first = last.0 in
          let none = last.1 in
          record {
            is = is;
            from = λ some. high;
            to = omega (arith, none, below);
            lived = λ b low top. let e : b ≡ c = omega (arith, none, low, top) in ap lives e ∙ w.lived;
            inside = λ b low top. let e : b ≡ c = omega (arith, none, low, top) in ap u.outside.memory e ∙ rest.elsewhere c (inr (omega (arith, first, none))) ∙ written_here v v1 c w;
            elsewhere = λ b out. rest.elsewhere b (inr (omega (arith, first, none))) ∙ written_elsewhere v v1 c w b
                (λ e. out_of b e out);
          }

  pub cells_cleared : (a i n : ℕ) (v u : Machine) (flow : Flow) → DeadNowhere v → clear_cells a i n v ≡ Gives flow u → (flow ≡ Next) × Cleared lives (cell_address a i) n v u
  cells_cleared a i zero v u flow dead e = (
    sym (gives_flow e),
    record {
      is = by_state (gives_state e);
      from = λ some. absurd (omega (arith, some));
      to = omega arith;
      lived = λ b low top. absurd (omega (arith, low, top));
      inside = λ b low top. absurd (omega (arith, low, top));
      elsewhere = λ b out. ap (λ x. x.outside.memory b) (sym (gives_state e));
    },
  )
    where
      by_state : v ≡ u → u ≡ with_cells u.outside.memory v
      by_state q = subst (λ x. x ≡ with_cells x.outside.memory v) q refl
  cells_cleared a i (suc n) v u flow dead e =
      by (write_cell (v.outside.memory (cell_address a i)) (cell_address a i) 0 v) refl e (λ v1 d q. cells_cleared a (suc i) n v1 u flow d q)
    where
      by : (r : Res Machine Flow) → write_cell (v.outside.memory (cell_address a i)) (cell_address a i) 0 v ≡ r → after r (λ x. clear_cells a (suc i) n) ≡ Gives flow u
          → ((v1 : Machine) → DeadNowhere v1 → clear_cells a (suc i) n v1 ≡ Gives flow u → (flow ≡ Next) × Cleared lives (cell_address a (suc i)) n v1 u) → (flow ≡ Next) × Cleared lives (cell_address a i) (suc n) v u
      by (Gives other v1) is q rest =
          let w = written (v.outside.memory (cell_address a i)) (cell_address a i) v v1 other dead refl is in
          let more = rest v1 (written_dead v v1 (cell_address a i) w dead) q in
          (more.0, cleared_more a i n v v1 u w more.1)
      by (Finished ending outs total) is q rest = cc
      by (TooMany outs) is q rest = cc
      by (Fails outs) is q rest = cc
