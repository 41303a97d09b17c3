-- The direct operands of a run are the words that its steps name.
use Rattle.std.proofs.Common.{◌≡◌, ◌⊎◌, inl, inr, ℕ, ◌+◌, ◌*◌, Bool, true, false, not, ◌||◌, List, [], ◌∷◌, ◌++◌, Option, option_to_list, option_and_then, Some, None, refl, ap, sym, ◌∙◌, subst, arith}
use Rattle.std.specs.Prelude.{◌==◌, ◌&&◌, ◌/◌, ◌%◌, if◌then◌else◌}
use Rattle.std.specs.List.{AllByRecursion}
use Rattle.std.proofs.lemmas.Bool.{and_from, or_cases, or_left, or_right, eqb-true}
use Rattle.c25_isa.specs.declared.operand.Operand.TheVariants.{Direct}
use Rattle.c25_isa.specs.declared.instruction.Instr.{Instr}
use Rattle.c25_isa.specs.declared.instruction.Instr.TheVariants.{Lark, Ldpk}
use Rattle.c25_isa.specs.Direct.{Words, Done, is_among, is_scratch, is_store, direct_offset, direct_address, may_name, may_name_at, is_direct_operand, page_behind, stored_by, done_behind, is_direct_from}
use Rattle.c25_isa.specs.Table.{second_word, length_of}
use Rattle.acc_code.specs.declared.operation.AccOp.{AccOp}
use Rattle.emit_blocks.specs.declared.step.Reach.{Reach}
use Rattle.emit_blocks.specs.declared.step.Reach.TheVariants as reach
use Rattle.emit_blocks.specs.declared.step.Step.{Step}
use Rattle.emit_blocks.specs.Places.{Places}
use Rattle.emit_blocks.specs.Instructions.{word_instr, constant_instr}
use Rattle.emit_blocks.specs.Moves.{moved, made_current, moves_by_index}
use Rattle.emit_blocks.specs.Steps.{Operation, steps_of}
use Rattle.emit_blocks.specs.Runs.{Known, nothing_known, is_page, row_code, known_behind, steps_code, index_code, run_code}
use Rattle.image_proof.specs.RunWalks.{placed_from}
use Rattle.image_proof.specs.DirectRuns.{stores, stored_behind, StepNames, StepsName}
use Rattle.image_proof.proofs.DirectRows.{IsPlain, TakesWord, word_row, indirect_plain, constant_plain, current_plain, moved_plain}

abbrev Among : List ℕ → List ℕ → Type 0
Among stored all = (a : ℕ) → is_among a stored ≡ true → is_among a all ≡ true

-- a word may be named where more was stored
more_stored : (n scratch store among all other : Bool) → (among ≡ true → all ≡ true)
    → (n && (if scratch then store || among else other)) ≡ true → (n && (if scratch then store || all else other)) ≡ true
more_stored false scratch store among all other f e = absurd cc
more_stored true false store among all other f e = e
more_stored true true true among all other f e = refl
more_stored true true false among all other f e = f e

all_append : (a b : List Instr) → AllByRecursion IsPlain a → AllByRecursion IsPlain b → AllByRecursion IsPlain (a ++ b)
all_append [] b f g = g
all_append (i ∷ a) b f g = (f.0, all_append a b f.1 g)

-- what is known of the page within a run is so
record AtPage (k : Known) (e : Done) : Type 0 where
  so : (page : ℕ) → k.page ≡ Some page → e.page ≡ Some page

page_is : (known : Option ℕ) (page : ℕ) → is_page known page ≡ true → known ≡ Some page
page_is None page e = absurd cc
page_is (Some n) page e = ap Some (eqb-true n page e)

-- with a store to a word
store_among : (b : Bool) (a : ℕ) (stored all : List ℕ) → Among stored all → Among (if b then a ∷ stored else stored) (option_to_list (if b then Some a else None) ++ all)
store_among true a stored all f n e = by (or_cases (a == n) (is_among n stored) e)
  where
    by : ((a == n) ≡ true) ⊎ (is_among n stored ≡ true) → is_among n (a ∷ all) ≡ true
    by (inl h) = or_left (a == n) (is_among n all) h
    by (inr h) = or_right (a == n) (is_among n all) (f n h)
store_among false a stored all f n e = f n e

module _ (w : Words) where
  abbrev direct : Done → ℕ → List Instr → Bool
  direct e at code = is_direct_from w e (placed_from at code)

  same_behind : (i : Instr) (e : Done) → IsPlain i → done_behind e i ≡ e
  same_behind i e p =
      ap (λ s. record { page = page_behind e.page i; stored = option_to_list s ++ e.stored }) none ∙ ap (λ n. record { page = n; stored = e.stored }) (p.page e.page)
    where
      both : (b : Bool) → (if b then option_and_then (direct_address e.page) None else None) ≡ None
      both true = refl
      both false = refl

      none : stored_by e.page i ≡ None
      none = ap (λ o. if is_store i then option_and_then (direct_address e.page) o else None) p.none ∙ both (is_store i)

  plain_front : (a b : List Instr) (e : Done) → AllByRecursion IsPlain a → ((at : ℕ) → direct e at b ≡ true) → (at : ℕ) → direct e at (a ++ b) ≡ true
  plain_front [] b e p f at = f at
  plain_front (i ∷ a) b e p f at =
      and_from _ _ (ap (is_direct_operand w e (is_store i)) p.0.none)
      (ap (λ x. direct x (at + length_of (second_word i)) (a ++ b)) (same_behind i e p.0) ∙ plain_front a b e p.1 f (at + length_of (second_word i)))

  -- what stands behind a step
  record Goes (k : Known) (stored : List ℕ) (more : List Instr) : Type 0 where
    by : (e : Done) → AtPage k e → Among stored e.stored → (at : ℕ) → direct e at more ≡ true

  -- a row on a word, on its page
  word_direct : (o : AccOp) (a : ℕ) (k : Known) (stored : List ℕ) (more : List Instr) (e : Done) → k.page ≡ Some (a / 128) → e.page ≡ Some (a / 128) → Among stored e.stored
      → may_name w stored (stores o) a ≡ true → Goes k (if stores o then a ∷ stored else stored) more → (at : ℕ) → direct e at (word_instr o (Direct (a % 128)) ∷ more) ≡ true
  word_direct o a k stored more e known on among names goes at = by (word_row o (Direct (a % 128)))
    where
      i : Instr
      i = word_instr o (Direct (a % 128))

      address : direct_address e.page (a % 128) ≡ Some a
      address = let whole : a / 128 * 128 + a % 128 ≡ a = omega arith in ap (λ page. direct_address page (a % 128)) on ∙ ap Some whole

      allowed : TakesWord o (Direct (a % 128)) → is_direct_operand w e (is_store i) (direct_offset i) ≡ true
      allowed t =
          ap (λ b. is_direct_operand w e b (direct_offset i)) t.stores_so
          ∙ ap (is_direct_operand w e (stores o)) t.offset
          ∙ ap (may_name_at w e.stored (stores o)) address
          ∙ more_stored (not (is_among a w.own)) (is_scratch a) (stores o) (is_among a stored) (is_among a e.stored) _ (among a) names

      stored_is : TakesWord o (Direct (a % 128)) → stored_by e.page i ≡ (if stores o then Some a else None)
      stored_is t =
          ap (λ b. if b then option_and_then (direct_address e.page) (direct_offset i) else None) t.stores_so
          ∙ ap (λ n. if stores o then option_and_then (direct_address e.page) n else None) t.offset
          ∙ ap (λ n. if stores o then n else None) address

      by : TakesWord o (Direct (a % 128)) ⊎ (IsPlain i × (stores o ≡ false)) → direct e at (i ∷ more) ≡ true
      by (inl t) =
          and_from _ _ (allowed t)
          (goes.by (done_behind e i) (record { so = λ page f. t.page e.page ∙ on ∙ sym known ∙ f })
          (subst (λ s. Among (if stores o then a ∷ stored else stored) (option_to_list s ++ e.stored)) (sym (stored_is t)) (store_among (stores o) a stored e.stored among))
          (at + length_of (second_word i)))
      by (inr p) =
          plain_front (i ∷ []) more e (p.0, tt)
          (λ next. goes.by e (record { so = λ page f. on ∙ sym known ∙ f }) (subst (λ b. Among (if b then a ∷ stored else stored) e.stored) (sym p.1) among) next) at

  row_direct : (d : ℕ) (k : Known) (o : AccOp) (r : Reach) (xs : List Step) (stored : List ℕ) (more : List Instr) (e : Done) → AtPage k e → Among stored e.stored → StepNames w stored o r
      → Goes (known_behind d k r xs) (stored_behind stored o r) more → (at : ℕ) → direct e at (row_code d k o r xs ++ more) ≡ true
  row_direct d k o (reach.Scalar p) xs stored more e on among names goes at =
      plain_front (row_code d k o (reach.Scalar p) xs) more e
      (all_append (moved p.register (k.stands p.register) p.address) _ (moved_plain p.register (k.stands p.register) p.address)
      (all_append (made_current k.current p.register) _ (current_plain k.current p.register) (indirect_plain o _, tt)))
      (goes.by e (record { so = on.so }) among) at
  row_direct d k o reach.Pointer xs stored more e on among names goes at =
      plain_front (row_code d k o reach.Pointer xs) more e (all_append (made_current k.current 1) _ (current_plain k.current 1) (indirect_plain o _, tt)) (goes.by e (record { so = on.so }) among) at
  row_direct d k o (reach.Word a) xs stored more e on among names goes at = by (is_page k.page (a / 128)) refl
    where
      by : (b : Bool) → is_page k.page (a / 128) ≡ b → direct e at (((if b then [] else Ldpk (a / 128) ∷ []) ++ word_instr o (Direct (a % 128)) ∷ []) ++ more) ≡ true
      by true f = word_direct o a (known_behind d k (reach.Word a) xs) stored more e refl (on.so (a / 128) (page_is k.page (a / 128) f)) among names goes at
      by false f = word_direct o a (known_behind d k (reach.Word a) xs) stored more (done_behind e (Ldpk (a / 128))) refl refl among names goes (at + 1)
  row_direct d k o (reach.Constant c) xs stored more e on among names goes at = plain_front (constant_instr o c ∷ []) more e (constant_plain o c, tt) (goes.by e (record { so = on.so }) among) at

  steps_direct : (d : ℕ) (xs : List Step) (k : Known) (stored : List ℕ) → StepsName w stored xs → Goes k stored (steps_code d k xs)
  steps_direct d [] k stored names = record { by = λ e on among at. refl }
  steps_direct d (x ∷ xs) k stored names = record {
    by = λ e on among at. row_direct d k x.row x.reach xs stored _ e on among names.0
        (steps_direct d xs (known_behind d k x.reach xs) (stored_behind stored x.row x.reach) names.1) at;
  }

  index_plain : (d : ℕ) (xs : List Step) → AllByRecursion IsPlain (index_code d xs)
  index_plain d xs = by (moves_by_index d xs)
    where
      by : (b : Bool) → AllByRecursion IsPlain (if b then Lark 0 d ∷ [] else [])
      by true = (record { none = refl; page = λ p. refl }, tt)
      by false = tt

  -- whatever its stretch did before
  pub run_direct : (s : Places) (os : List Operation) → StepsName w [] (steps_of s os) → (e : Done) (at : ℕ) → is_direct_from w e (placed_from at (run_code s os)) ≡ true
  run_direct s os names e at =
      plain_front (index_code s.step (steps_of s os)) _ e (index_plain s.step (steps_of s os))
      ((steps_direct s.step (steps_of s os) nothing_known [] names).by e (record { so = λ page f. absurd cc }) (λ a f. absurd cc)) at
