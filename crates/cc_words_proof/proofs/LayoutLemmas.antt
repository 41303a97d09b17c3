-- What `clap` makes of the words of `layout`.
use Rattle.std.proofs.Common.{◌≡◌, ◌≢◌, ◌∙◌, ℕ, Bool, true, false, refl, ap, ap₂, List, [], ◌∷◌, Some, None, codes, cond}
use Rattle.std.specs.Prelude.{◌==◌, ◌&&◌, option_and_then, ◌++◌}
use Rattle.std.proofs.lemmas.Bool.{eqb-true}
use Rattle.clap.specs.Words.{App, Row, Text, fault_of, first_of, matches_of, new_app, one_of, read_as, reading_of, with_rule}
use Rattle.clap.specs.ValueTests.{accepts}
use Rattle.clap.specs.declared.builder.value_parser.ValueParser.{ValueParser}
use Rattle.clap.specs.declared.builder.value_parser.ValueParser.TheVariants as parser
use Rattle.clap.specs.Kinds.{or_else}
use Rattle.clap.specs.Walk.{is_empty}
use Rattle.clap.proofs.OnLiterals.{clap_on_literals}
use Rattle.cc_words.specs.Asked.{ToLayOut, asked, asked_to, asked_to_lay_out, is_number_to, is_plain_word, is_taken, layout_of, number_of, number_to}
use Rattle.cc_words.specs.Commands.{budget_rule, greatest_budget, greatest_registers, layout_app, name_rule, registers_rule}
use Rattle.cc_words_proof.specs.Plain.{AsksFor, LaysOutFor, LaysOutNoOtherNames, LaysOutWithBoth, LaysOutWithBothFirst, LaysOutWithBothTurned, LaysOutWithBudget, LaysOutWithBudgetAttached, LaysOutWithBudgetFirst, LaysOutWithRegisters, LaysOutWithRegistersAttached, LaysOutWithRegistersFirst}
use Rattle.cc_words_proof.proofs.PlainLemmas.{IsNoFlag, no_flag, number_fault, number_in, or_nothing}

-- `layout` with any parsers of its numbers
abbrev layout_with : ValueParser → ValueParser → App
layout_with p q = with_rule
    (with_rule
    (with_rule (new_app (codes "layout")) (name_rule (codes "sequence")))
    (record registers_rule { parser = Some p }))
    (record budget_rule { parser = Some q })

-- the rows hold the name and both texts, as the parsers read them
abbrev FindsNumbers : Text → Text → Text → List Text → Type 0
FindsNumbers a m n words = (p q : ValueParser) → (first_of (codes "sequence") (matches_of (layout_with p q) words) ≡ Some a)
    × (one_of (codes "registers") (matches_of (layout_with p q) words) ≡ Some (read_as (reading_of p) m))
    × (one_of (codes "budget") (matches_of (layout_with p q) words) ≡ Some (read_as (reading_of q) n))

-- the words are taken where both parsers take their text
abbrev FitsNumbers : Text → Text → List Text → Type 0
FitsNumbers m n words = (p q : ValueParser) → is_taken (layout_with p q) words ≡ (accepts false p m && accepts false q n)

module _ (p q : ValueParser) (m n : Text) (words : List Text) where
  fits_in_turn : fault_of (layout_with p q) words ≡ or_else (number_fault p m) (number_fault q n) → is_taken (layout_with p q) words ≡ (accepts false p m && accepts false q n)
  fits_in_turn e = ap is_empty e ∙ go (accepts false p m) (accepts false q n) refl refl
    where
      go : (b c : Bool) → accepts false p m ≡ b → accepts false q n ≡ c → is_empty (or_else (number_fault p m) (number_fault q n)) ≡ (b && c)
      go true true f g = rw (f, g) refl
      go true false f g = rw (f, g) refl
      go false c f g = rw f refl

  fits_turned : fault_of (layout_with p q) words ≡ or_else (number_fault q n) (number_fault p m) → is_taken (layout_with p q) words ≡ (accepts false p m && accepts false q n)
  fits_turned e = ap is_empty e ∙ go (accepts false p m) (accepts false q n) refl refl
    where
      go : (b c : Bool) → accepts false p m ≡ b → accepts false q n ≡ c → is_empty (or_else (number_fault q n) (number_fault p m)) ≡ (b && c)
      go true true f g = rw (g, f) refl
      go false true f g = rw (g, f) refl
      go true false f g = rw g refl
      go false false f g = rw g refl

-- what the words ask for, where they give both numbers
module _ (a m n : Text) (words : List Text) (fits : FitsNumbers m n words) (finds : FindsNumbers a m n words) (chosen : asked words ≡ asked_to_lay_out words) where
  asked_by_both : (b c : Bool) → is_number_to greatest_registers m ≡ b → is_number_to greatest_budget n ≡ c → asked words ≡ cond (b && c) (layout_of (matches_of layout_app words)) None
  unfolding asked_to
  asked_by_both b c e f = chosen ∙ ap (λ u. cond u (layout_of (matches_of layout_app words)) None) (fits (parser.Unsigned 1 greatest_registers) (parser.Unsigned 1 greatest_budget) ∙ ap₂ (λ x y. x && y) e f)

  both_read : (x y : ℕ) → number_to greatest_registers m ≡ Some x → number_to greatest_budget n ≡ Some y → layout_of (matches_of layout_app words) ≡ Some (ToLayOut a x y)
  both_read x y e f =
      let h = finds (parser.Unsigned 1 greatest_registers) (parser.Unsigned 1 greatest_budget) in
      read (matches_of layout_app words) h.0 (ap (option_and_then (number_to greatest_registers)) h.1 ∙ e) (ap (option_and_then (number_to greatest_budget)) h.2 ∙ f)
    where
      read : (rows : List Row) → first_of (codes "sequence") rows ≡ Some a → number_of (codes "registers") greatest_registers rows ≡ Some x → number_of (codes "budget") greatest_budget rows ≡ Some y
          → layout_of rows ≡ Some (ToLayOut a x y)
      read rows first second third = rw (first, second, third) refl

  both_numbers : LaysOutFor a m n words
  both_numbers = (
    λ e. (
      λ f. asked_by_both true true e f ∙ both_read _ _ (number_in greatest_registers m e) (number_in greatest_budget n f),
      λ f. asked_by_both true false e f,
    ),
    λ e. asked_by_both false (is_number_to greatest_budget n) e refl,
  )

-- one number is the usual one
registers_alone : (a m : Text) (words : List Text) → LaysOutFor a m (codes "200000") words → AsksFor greatest_registers (λ registers. ToLayOut a registers 200000) m words
registers_alone a m words h = (λ e. (h.0 e).0 refl, h.1)

budget_alone : (a n : Text) (words : List Text) → LaysOutFor a (codes "1") n words → AsksFor greatest_budget (ToLayOut a 1) n words
budget_alone a n words h = h.0 refl

-- `layout` of one name
layout_taken : (a : Text) → IsNoFlag a → is_taken layout_app (codes "layout" ∷ a ∷ []) ≡ true
unfolding clap_on_literals
layout_taken a fa = rw (fa.0, fa.1, fa.2) refl

layout_name : (a : Text) → IsNoFlag a → layout_of (matches_of layout_app (codes "layout" ∷ a ∷ [])) ≡ Some (ToLayOut a 1 200000)
unfolding clap_on_literals
layout_name a fa = rw (fa.0, fa.1, fa.2) refl

pub layout_one_name : (a : Text) → is_plain_word a ≡ true → asked (codes "layout" ∷ a ∷ []) ≡ Some (ToLayOut a 1 200000)
unfolding asked_to
layout_one_name a pa = rw (layout_taken a (no_flag a pa)) (layout_name a (no_flag a pa))

-- and of none, or of more
layout_not_taken : (words : List Text) → is_taken layout_app words ≡ false → asked_to_lay_out words ≡ None
unfolding asked_to
layout_not_taken words e = ap (λ b. cond b (layout_of (matches_of layout_app words)) None) e

no_name_taken : is_taken layout_app (codes "layout" ∷ []) ≡ false
unfolding clap_on_literals
no_name_taken = refl

two_names_taken : (a b : Text) (rest : List Text) → IsNoFlag a → IsNoFlag b → is_taken layout_app (codes "layout" ∷ a ∷ b ∷ rest) ≡ false
unfolding clap_on_literals
two_names_taken a b rest fa fb = rw (fa.0, fa.1, fa.2, fb.0, fb.1, fb.2) refl

pub layout_other_names : LaysOutNoOtherNames
layout_other_names = (
  layout_not_taken (codes "layout" ∷ []) no_name_taken,
  λ a b pa pb rest. layout_not_taken (codes "layout" ∷ a ∷ b ∷ rest) (two_names_taken a b rest (no_flag a pa) (no_flag b pb)),
)

-- the number of registers, behind the name, before it and attached
registers_behind_fault : (a m : Text) → IsNoFlag a → IsNoFlag m → (p q : ValueParser) → fault_of (layout_with p q) (codes "layout" ∷ a ∷ codes "-r" ∷ m ∷ []) ≡ or_else (number_fault p m) (or_else (or_else (number_fault q (codes "200000")) []) [])
unfolding clap_on_literals
registers_behind_fault a m fa fm p q = rw (fa.0, fa.1, fa.2, fm.0, fm.1, fm.2) refl

registers_behind_finds : (a m : Text) → IsNoFlag a → IsNoFlag m → FindsNumbers a m (codes "200000") (codes "layout" ∷ a ∷ codes "-r" ∷ m ∷ [])
unfolding clap_on_literals
registers_behind_finds a m fa fm p q = (rw (fa.0, fa.1, fa.2, fm.0, fm.1, fm.2) refl, rw (fa.0, fa.1, fa.2, fm.0, fm.1, fm.2) refl, rw (fa.0, fa.1, fa.2, fm.0, fm.1, fm.2) refl)

registers_behind_fits : (a m : Text) → IsNoFlag a → IsNoFlag m → FitsNumbers m (codes "200000") (codes "layout" ∷ a ∷ codes "-r" ∷ m ∷ [])
registers_behind_fits a m fa fm p q = fits_in_turn p q m (codes "200000") (codes "layout" ∷ a ∷ codes "-r" ∷ m ∷ []) (registers_behind_fault a m fa fm p q ∙ ap₂ or_else refl (or_nothing (or_else (number_fault q (codes "200000")) []) ∙ or_nothing (number_fault q (codes "200000"))))

registers_before_fault : (a m : Text) → IsNoFlag a → IsNoFlag m → (p q : ValueParser) → fault_of (layout_with p q) (codes "layout" ∷ codes "-r" ∷ m ∷ a ∷ []) ≡ or_else (or_else (number_fault p m) []) (or_else (or_else (number_fault q (codes "200000")) []) [])
unfolding clap_on_literals
registers_before_fault a m fa fm p q = rw (fm.0, fm.1, fm.2, fa.0, fa.1, fa.2) refl

registers_before_finds : (a m : Text) → IsNoFlag a → IsNoFlag m → FindsNumbers a m (codes "200000") (codes "layout" ∷ codes "-r" ∷ m ∷ a ∷ [])
unfolding clap_on_literals
registers_before_finds a m fa fm p q = (rw (fm.0, fm.1, fm.2, fa.0, fa.1, fa.2) refl, rw (fm.0, fm.1, fm.2, fa.0, fa.1, fa.2) refl, rw (fm.0, fm.1, fm.2, fa.0, fa.1, fa.2) refl)

registers_before_fits : (a m : Text) → IsNoFlag a → IsNoFlag m → FitsNumbers m (codes "200000") (codes "layout" ∷ codes "-r" ∷ m ∷ a ∷ [])
registers_before_fits a m fa fm p q = fits_in_turn p q m (codes "200000") (codes "layout" ∷ codes "-r" ∷ m ∷ a ∷ []) (registers_before_fault a m fa fm p q ∙ ap₂ or_else (or_nothing (number_fault p m)) (or_nothing (or_else (number_fault q (codes "200000")) []) ∙ or_nothing (number_fault q (codes "200000"))))

registers_joined_fault : (a : Text) (x : ℕ) (m : Text) → IsNoFlag a → (x == 61) ≡ false → (p q : ValueParser) → fault_of (layout_with p q) (codes "layout" ∷ a ∷ (codes "-r" ++ x ∷ m) ∷ []) ≡ or_else (or_else (or_else (number_fault p (x ∷ m)) []) []) (or_else (or_else (number_fault q (codes "200000")) []) [])
unfolding clap_on_literals
registers_joined_fault a x m fa fx p q = rw (fa.0, fa.1, fa.2, fx) refl

registers_joined_finds : (a : Text) (x : ℕ) (m : Text) → IsNoFlag a → (x == 61) ≡ false → FindsNumbers a (x ∷ m) (codes "200000") (codes "layout" ∷ a ∷ (codes "-r" ++ x ∷ m) ∷ [])
unfolding clap_on_literals
registers_joined_finds a x m fa fx p q = (rw (fa.0, fa.1, fa.2, fx) refl, rw (fa.0, fa.1, fa.2, fx) refl, rw (fa.0, fa.1, fa.2, fx) refl)

registers_joined_fits : (a : Text) (x : ℕ) (m : Text) → IsNoFlag a → (x == 61) ≡ false → FitsNumbers (x ∷ m) (codes "200000") (codes "layout" ∷ a ∷ (codes "-r" ++ x ∷ m) ∷ [])
registers_joined_fits a x m fa fx p q = fits_in_turn p q (x ∷ m) (codes "200000") (codes "layout" ∷ a ∷ (codes "-r" ++ x ∷ m) ∷ []) (registers_joined_fault a x m fa fx p q ∙ ap₂ or_else (or_nothing (or_else (number_fault p (x ∷ m)) []) ∙ or_nothing (number_fault p (x ∷ m))) (or_nothing (or_else (number_fault q (codes "200000")) []) ∙ or_nothing (number_fault q (codes "200000"))))

registers_equal_fault : (a m : Text) → IsNoFlag a → (p q : ValueParser) → fault_of (layout_with p q) (codes "layout" ∷ a ∷ (codes "-r=" ++ m) ∷ []) ≡ or_else (or_else (or_else (number_fault p m) []) []) (or_else (or_else (number_fault q (codes "200000")) []) [])
unfolding clap_on_literals
registers_equal_fault a m fa p q = rw (fa.0, fa.1, fa.2) refl

registers_equal_finds : (a m : Text) → IsNoFlag a → FindsNumbers a m (codes "200000") (codes "layout" ∷ a ∷ (codes "-r=" ++ m) ∷ [])
unfolding clap_on_literals
registers_equal_finds a m fa p q = (rw (fa.0, fa.1, fa.2) refl, rw (fa.0, fa.1, fa.2) refl, rw (fa.0, fa.1, fa.2) refl)

registers_equal_fits : (a m : Text) → IsNoFlag a → FitsNumbers m (codes "200000") (codes "layout" ∷ a ∷ (codes "-r=" ++ m) ∷ [])
registers_equal_fits a m fa p q = fits_in_turn p q m (codes "200000") (codes "layout" ∷ a ∷ (codes "-r=" ++ m) ∷ []) (registers_equal_fault a m fa p q ∙ ap₂ or_else (or_nothing (or_else (number_fault p m) []) ∙ or_nothing (number_fault p m)) (or_nothing (or_else (number_fault q (codes "200000")) []) ∙ or_nothing (number_fault q (codes "200000"))))

byte_is_not : (x : ℕ) → x ≢ 61 → (x == 61) ≡ false
byte_is_not x differs = go (x == 61) refl
  where
    go : (b : Bool) → (x == 61) ≡ b → (x == 61) ≡ false
    go true e = absurd (differs (eqb-true x 61 e))
    go false e = e

pub registers_behind : LaysOutWithRegisters
registers_behind a m pa pm =
    let fa = no_flag a pa in
    let fm = no_flag m pm in
    registers_alone a m (codes "layout" ∷ a ∷ codes "-r" ∷ m ∷ []) (both_numbers a m (codes "200000") (codes "layout" ∷ a ∷ codes "-r" ∷ m ∷ []) (registers_behind_fits a m fa fm) (registers_behind_finds a m fa fm) refl)

pub registers_first : LaysOutWithRegistersFirst
registers_first a m pa pm =
    let fa = no_flag a pa in
    let fm = no_flag m pm in
    registers_alone a m (codes "layout" ∷ codes "-r" ∷ m ∷ a ∷ []) (both_numbers a m (codes "200000") (codes "layout" ∷ codes "-r" ∷ m ∷ a ∷ []) (registers_before_fits a m fa fm) (registers_before_finds a m fa fm) refl)

pub registers_attached : LaysOutWithRegistersAttached
registers_attached a pa =
    let fa = no_flag a pa in (
      λ x m differs. let fx = byte_is_not x differs in
          registers_alone a (x ∷ m) (codes "layout" ∷ a ∷ (codes "-r" ++ x ∷ m) ∷ []) (both_numbers a (x ∷ m) (codes "200000") (codes "layout" ∷ a ∷ (codes "-r" ++ x ∷ m) ∷ []) (registers_joined_fits a x m fa fx) (registers_joined_finds a x m fa fx) refl),
      λ m. registers_alone a m (codes "layout" ∷ a ∷ (codes "-r=" ++ m) ∷ []) (both_numbers a m (codes "200000") (codes "layout" ∷ a ∷ (codes "-r=" ++ m) ∷ []) (registers_equal_fits a m fa) (registers_equal_finds a m fa) refl),
    )

-- the budget, behind the name, before it and attached
budget_behind_fault : (a n : Text) → IsNoFlag a → IsNoFlag n → (p q : ValueParser) → fault_of (layout_with p q) (codes "layout" ∷ a ∷ codes "--budget" ∷ n ∷ []) ≡ or_else (number_fault q n) (or_else (or_else (number_fault p (codes "1")) []) [])
unfolding clap_on_literals
budget_behind_fault a n fa fn p q = rw (fa.0, fa.1, fa.2, fn.0, fn.1, fn.2) refl

budget_behind_finds : (a n : Text) → IsNoFlag a → IsNoFlag n → FindsNumbers a (codes "1") n (codes "layout" ∷ a ∷ codes "--budget" ∷ n ∷ [])
unfolding clap_on_literals
budget_behind_finds a n fa fn p q = (rw (fa.0, fa.1, fa.2, fn.0, fn.1, fn.2) refl, rw (fa.0, fa.1, fa.2, fn.0, fn.1, fn.2) refl, rw (fa.0, fa.1, fa.2, fn.0, fn.1, fn.2) refl)

budget_behind_fits : (a n : Text) → IsNoFlag a → IsNoFlag n → FitsNumbers (codes "1") n (codes "layout" ∷ a ∷ codes "--budget" ∷ n ∷ [])
budget_behind_fits a n fa fn p q = fits_turned p q (codes "1") n (codes "layout" ∷ a ∷ codes "--budget" ∷ n ∷ []) (budget_behind_fault a n fa fn p q ∙ ap₂ or_else refl (or_nothing (or_else (number_fault p (codes "1")) []) ∙ or_nothing (number_fault p (codes "1"))))

budget_before_fault : (a n : Text) → IsNoFlag a → IsNoFlag n → (p q : ValueParser) → fault_of (layout_with p q) (codes "layout" ∷ codes "--budget" ∷ n ∷ a ∷ []) ≡ or_else (or_else (number_fault q n) []) (or_else (or_else (number_fault p (codes "1")) []) [])
unfolding clap_on_literals
budget_before_fault a n fa fn p q = rw (fn.0, fn.1, fn.2, fa.0, fa.1, fa.2) refl

budget_before_finds : (a n : Text) → IsNoFlag a → IsNoFlag n → FindsNumbers a (codes "1") n (codes "layout" ∷ codes "--budget" ∷ n ∷ a ∷ [])
unfolding clap_on_literals
budget_before_finds a n fa fn p q = (rw (fn.0, fn.1, fn.2, fa.0, fa.1, fa.2) refl, rw (fn.0, fn.1, fn.2, fa.0, fa.1, fa.2) refl, rw (fn.0, fn.1, fn.2, fa.0, fa.1, fa.2) refl)

budget_before_fits : (a n : Text) → IsNoFlag a → IsNoFlag n → FitsNumbers (codes "1") n (codes "layout" ∷ codes "--budget" ∷ n ∷ a ∷ [])
budget_before_fits a n fa fn p q = fits_turned p q (codes "1") n (codes "layout" ∷ codes "--budget" ∷ n ∷ a ∷ []) (budget_before_fault a n fa fn p q ∙ ap₂ or_else (or_nothing (number_fault q n)) (or_nothing (or_else (number_fault p (codes "1")) []) ∙ or_nothing (number_fault p (codes "1"))))

budget_joined_fault : (a n : Text) → IsNoFlag a → (p q : ValueParser) → fault_of (layout_with p q) (codes "layout" ∷ a ∷ (codes "--budget=" ++ n) ∷ []) ≡ or_else (or_else (or_else (number_fault q n) []) []) (or_else (or_else (number_fault p (codes "1")) []) [])
unfolding clap_on_literals
budget_joined_fault a n fa p q = rw (fa.0, fa.1, fa.2) refl

budget_joined_finds : (a n : Text) → IsNoFlag a → FindsNumbers a (codes "1") n (codes "layout" ∷ a ∷ (codes "--budget=" ++ n) ∷ [])
unfolding clap_on_literals
budget_joined_finds a n fa p q = (rw (fa.0, fa.1, fa.2) refl, rw (fa.0, fa.1, fa.2) refl, rw (fa.0, fa.1, fa.2) refl)

budget_joined_fits : (a n : Text) → IsNoFlag a → FitsNumbers (codes "1") n (codes "layout" ∷ a ∷ (codes "--budget=" ++ n) ∷ [])
budget_joined_fits a n fa p q = fits_turned p q (codes "1") n (codes "layout" ∷ a ∷ (codes "--budget=" ++ n) ∷ []) (budget_joined_fault a n fa p q ∙ ap₂ or_else (or_nothing (or_else (number_fault q n) []) ∙ or_nothing (number_fault q n)) (or_nothing (or_else (number_fault p (codes "1")) []) ∙ or_nothing (number_fault p (codes "1"))))

pub budget_behind : LaysOutWithBudget
budget_behind a n pa pn =
    let fa = no_flag a pa in
    let fn = no_flag n pn in
    budget_alone a n (codes "layout" ∷ a ∷ codes "--budget" ∷ n ∷ []) (both_numbers a (codes "1") n (codes "layout" ∷ a ∷ codes "--budget" ∷ n ∷ []) (budget_behind_fits a n fa fn) (budget_behind_finds a n fa fn) refl)

pub budget_first : LaysOutWithBudgetFirst
budget_first a n pa pn =
    let fa = no_flag a pa in
    let fn = no_flag n pn in
    budget_alone a n (codes "layout" ∷ codes "--budget" ∷ n ∷ a ∷ []) (both_numbers a (codes "1") n (codes "layout" ∷ codes "--budget" ∷ n ∷ a ∷ []) (budget_before_fits a n fa fn) (budget_before_finds a n fa fn) refl)

pub budget_attached : LaysOutWithBudgetAttached
budget_attached a n pa =
    let fa = no_flag a pa in
    budget_alone a n (codes "layout" ∷ a ∷ (codes "--budget=" ++ n) ∷ []) (both_numbers a (codes "1") n (codes "layout" ∷ a ∷ (codes "--budget=" ++ n) ∷ []) (budget_joined_fits a n fa) (budget_joined_finds a n fa) refl)

-- both numbers
both_behind_fault : (a m n : Text) → IsNoFlag a → IsNoFlag m → IsNoFlag n → (p q : ValueParser) → fault_of (layout_with p q) (codes "layout" ∷ a ∷ codes "-r" ∷ m ∷ codes "--budget" ∷ n ∷ []) ≡ or_else (or_else (or_else (number_fault p m) []) []) (or_else (number_fault q n) [])
unfolding clap_on_literals
both_behind_fault a m n fa fm fn p q = rw (fa.0, fa.1, fa.2, fm.0, fm.1, fm.2, fn.0, fn.1, fn.2) refl

both_behind_finds : (a m n : Text) → IsNoFlag a → IsNoFlag m → IsNoFlag n → FindsNumbers a m n (codes "layout" ∷ a ∷ codes "-r" ∷ m ∷ codes "--budget" ∷ n ∷ [])
unfolding clap_on_literals
both_behind_finds a m n fa fm fn p q = (rw (fa.0, fa.1, fa.2, fm.0, fm.1, fm.2, fn.0, fn.1, fn.2) refl, rw (fa.0, fa.1, fa.2, fm.0, fm.1, fm.2, fn.0, fn.1, fn.2) refl, rw (fa.0, fa.1, fa.2, fm.0, fm.1, fm.2, fn.0, fn.1, fn.2) refl)

both_behind_fits : (a m n : Text) → IsNoFlag a → IsNoFlag m → IsNoFlag n → FitsNumbers m n (codes "layout" ∷ a ∷ codes "-r" ∷ m ∷ codes "--budget" ∷ n ∷ [])
both_behind_fits a m n fa fm fn p q = fits_in_turn p q m n (codes "layout" ∷ a ∷ codes "-r" ∷ m ∷ codes "--budget" ∷ n ∷ []) (both_behind_fault a m n fa fm fn p q ∙ ap₂ or_else (or_nothing (or_else (number_fault p m) []) ∙ or_nothing (number_fault p m)) (or_nothing (number_fault q n)))

pub layout_both : LaysOutWithBoth
layout_both m n pm pn a pa =
    let fa = no_flag a pa in
    let fm = no_flag m pm in
    let fn = no_flag n pn in
    both_numbers a m n (codes "layout" ∷ a ∷ codes "-r" ∷ m ∷ codes "--budget" ∷ n ∷ []) (both_behind_fits a m n fa fm fn) (both_behind_finds a m n fa fm fn) refl

both_before_fault : (a m n : Text) → IsNoFlag a → IsNoFlag m → IsNoFlag n → (p q : ValueParser) → fault_of (layout_with p q) (codes "layout" ∷ codes "-r" ∷ m ∷ codes "--budget" ∷ n ∷ a ∷ []) ≡ or_else (or_else (or_else (number_fault p m) []) (or_else (number_fault q n) [])) []
unfolding clap_on_literals
both_before_fault a m n fa fm fn p q = rw (fm.0, fm.1, fm.2, fn.0, fn.1, fn.2, fa.0, fa.1, fa.2) refl

both_before_finds : (a m n : Text) → IsNoFlag a → IsNoFlag m → IsNoFlag n → FindsNumbers a m n (codes "layout" ∷ codes "-r" ∷ m ∷ codes "--budget" ∷ n ∷ a ∷ [])
unfolding clap_on_literals
both_before_finds a m n fa fm fn p q = (rw (fm.0, fm.1, fm.2, fn.0, fn.1, fn.2, fa.0, fa.1, fa.2) refl, rw (fm.0, fm.1, fm.2, fn.0, fn.1, fn.2, fa.0, fa.1, fa.2) refl, rw (fm.0, fm.1, fm.2, fn.0, fn.1, fn.2, fa.0, fa.1, fa.2) refl)

both_before_fits : (a m n : Text) → IsNoFlag a → IsNoFlag m → IsNoFlag n → FitsNumbers m n (codes "layout" ∷ codes "-r" ∷ m ∷ codes "--budget" ∷ n ∷ a ∷ [])
both_before_fits a m n fa fm fn p q = fits_in_turn p q m n (codes "layout" ∷ codes "-r" ∷ m ∷ codes "--budget" ∷ n ∷ a ∷ []) (both_before_fault a m n fa fm fn p q ∙ or_nothing (or_else (or_else (number_fault p m) []) (or_else (number_fault q n) [])) ∙ ap₂ or_else (or_nothing (number_fault p m)) (or_nothing (number_fault q n)))

pub layout_both_first : LaysOutWithBothFirst
layout_both_first m n pm pn a pa =
    let fa = no_flag a pa in
    let fm = no_flag m pm in
    let fn = no_flag n pn in
    both_numbers a m n (codes "layout" ∷ codes "-r" ∷ m ∷ codes "--budget" ∷ n ∷ a ∷ []) (both_before_fits a m n fa fm fn) (both_before_finds a m n fa fm fn) refl

both_turned_fault : (a m n : Text) → IsNoFlag a → IsNoFlag m → IsNoFlag n → (p q : ValueParser) → fault_of (layout_with p q) (codes "layout" ∷ a ∷ codes "--budget" ∷ n ∷ codes "-r" ∷ m ∷ []) ≡ or_else (or_else (or_else (number_fault q n) []) []) (or_else (number_fault p m) [])
unfolding clap_on_literals
both_turned_fault a m n fa fm fn p q = rw (fa.0, fa.1, fa.2, fn.0, fn.1, fn.2) (rw fm.0 (rw fm.1 (rw fm.2 refl)))

both_turned_finds : (a m n : Text) → IsNoFlag a → IsNoFlag m → IsNoFlag n → FindsNumbers a m n (codes "layout" ∷ a ∷ codes "--budget" ∷ n ∷ codes "-r" ∷ m ∷ [])
unfolding clap_on_literals
both_turned_finds a m n fa fm fn p q = (rw (fa.0, fa.1, fa.2, fn.0, fn.1, fn.2, fm.0, fm.1, fm.2) refl, rw (fa.0, fa.1, fa.2, fn.0, fn.1, fn.2, fm.0, fm.1, fm.2) refl, rw (fa.0, fa.1, fa.2, fn.0, fn.1, fn.2, fm.0, fm.1, fm.2) refl)

both_turned_fits : (a m n : Text) → IsNoFlag a → IsNoFlag m → IsNoFlag n → FitsNumbers m n (codes "layout" ∷ a ∷ codes "--budget" ∷ n ∷ codes "-r" ∷ m ∷ [])
both_turned_fits a m n fa fm fn p q = fits_turned p q m n (codes "layout" ∷ a ∷ codes "--budget" ∷ n ∷ codes "-r" ∷ m ∷ []) (both_turned_fault a m n fa fm fn p q ∙ ap₂ or_else (or_nothing (or_else (number_fault q n) []) ∙ or_nothing (number_fault q n)) (or_nothing (number_fault p m)))

pub layout_both_turned : LaysOutWithBothTurned
layout_both_turned m n pm pn a pa =
    let fa = no_flag a pa in
    let fm = no_flag m pm in
    let fn = no_flag n pn in
    both_numbers a m n (codes "layout" ∷ a ∷ codes "--budget" ∷ n ∷ codes "-r" ∷ m ∷ []) (both_turned_fits a m n fa fm fn) (both_turned_finds a m n fa fm fn) refl
