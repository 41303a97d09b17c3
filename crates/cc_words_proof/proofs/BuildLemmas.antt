-- What `clap` makes of the words of `build` with options.
use Rattle.std.proofs.Common.{◌≡◌, ◌∙◌, ℕ, Bool, true, false, refl, ap, ap₂, arith, List, [], ◌∷◌, length, Some, None, codes, cond}
use Rattle.std.specs.Prelude.{◌&&◌, fold, is_some, option_and_then, ◌++◌}
use Rattle.std.proofs.lemmas.Bool.{eqb-true}
use Rattle.clap.specs.Words.{App, Kinds, Row, Shape, Text, built, fault_of, first_of, matches_of, one_of, read_as, reading_of, with_rule}
use Rattle.clap.specs.ValueTests.{accepts}
use Rattle.clap.specs.declared.builder.value_parser.ValueParser.{ValueParser}
use Rattle.clap.specs.declared.builder.value_parser.ValueParser.TheVariants as parser
use Rattle.clap.specs.declared.builder.value_parser.Reading.{Reading}
use Rattle.clap.specs.declared.builder.value_parser.Reading.TheVariants as reading
use Rattle.clap.specs.declared.error.kind.ErrorKind.{ErrorKind}
use Rattle.clap.specs.declared.parser.matches.ValueSource.TheVariants.{CommandLine}
use Rattle.clap.specs.Faults.{check_fault, defaults_fault, entered_fault, settle_fault, walk_fault}
use Rattle.clap.specs.Kinds.{or_else}
use Rattle.clap.specs.Simple.{entered}
use Rattle.clap.specs.Walk.{Walk, finished, idle, is_empty, nothing_held, settled, walk_from, walked}
use Rattle.clap.proofs.OnLiterals.{clap_on_literals}
use Rattle.cc_words.specs.Asked.{ToBuild, asked, asked_to, asked_to_build, build_of, is_number_to, is_taken, number_of, number_to}
use Rattle.cc_words.specs.Commands.{budget_rule, build_app, greatest_budget, greatest_registers, greatest_step, named_app, registers_rule, step_rule}
use Rattle.cc_words_proof.specs.Plain.{AsksFor, BuildsFor, BuildsWithAll, BuildsWithBudget, BuildsWithRegisters, BuildsWithStep, BuildsWithStepAttached}
use Rattle.cc_words_proof.proofs.PlainLemmas.{IsNoFlag, no_flag, number_fault, number_fault_by, number_in}

-- `build` with any parsers of its numbers
abbrev build_with : ValueParser → ValueParser → ValueParser → App
build_with p q r = with_rule
    (with_rule
    (with_rule (named_app (codes "build") (codes "source") (codes "image")) (record registers_rule { parser = Some p }))
    (record budget_rule { parser = Some q }))
    (record step_rule { parser = Some r })

-- the rows hold both names and the three texts, as the parsers read them
record FindsNumbers (a b m n d : Text) (words : List Text) (p q r : ValueParser) : Type 0 where
  source : first_of (codes "source") (matches_of (build_with p q r) words) ≡ Some a
  image : first_of (codes "image") (matches_of (build_with p q r) words) ≡ Some b
  registers : one_of (codes "registers") (matches_of (build_with p q r) words) ≡ Some (read_as (reading_of p) m)
  budget : one_of (codes "budget") (matches_of (build_with p q r) words) ≡ Some (read_as (reading_of q) n)
  step : one_of (codes "step") (matches_of (build_with p q r) words) ≡ Some (read_as (reading_of r) d)

-- the words are taken where the three parsers take their text
abbrev FitsNumbers : Text → Text → Text → List Text → ValueParser → ValueParser → ValueParser → Type 0
FitsNumbers m n d words p q r = is_taken (build_with p q r) words ≡ (accepts false p m && (accepts false q n && accepts false r d))

not_empty : (k : ErrorKind) (ks : Kinds) → is_empty (k ∷ ks) ≡ false
not_empty k ks = go (is_empty (k ∷ ks)) refl
  where
    go : (t : Bool) → is_empty (k ∷ ks) ≡ t → is_empty (k ∷ ks) ≡ false
    go true e = let bad : length (k ∷ ks) ≡ 0 = eqb-true _ _ e in absurd (omega arith)
    go false e = e

-- faults come in the order of the words, and behind them those of the usual numbers
registers_empty : (x y z : Kinds) → is_empty (or_else x (or_else (or_else y (or_else z [])) [])) ≡ (is_empty x && (is_empty y && is_empty z))
registers_empty [] [] [] = refl
registers_empty [] [] (k ∷ ks) = rw (not_empty k ks) refl
registers_empty [] (k ∷ ks) z = rw (not_empty k ks) refl
registers_empty (k ∷ ks) y z = rw (not_empty k ks) refl

budget_empty : (x y z : Kinds) → is_empty (or_else y (or_else (or_else x (or_else z [])) [])) ≡ (is_empty x && (is_empty y && is_empty z))
budget_empty [] [] [] = refl
budget_empty [] [] (k ∷ ks) = rw (not_empty k ks) refl
budget_empty [] (k ∷ ks) z = rw (not_empty k ks) refl
budget_empty (k ∷ ks) [] z = rw (not_empty k ks) refl
budget_empty (k ∷ ks) (l ∷ ls) z = rw (not_empty k ks, not_empty l ls) refl

step_empty : (x y z : Kinds) → is_empty (or_else z (or_else (or_else x (or_else y [])) [])) ≡ (is_empty x && (is_empty y && is_empty z))
step_empty [] [] [] = refl
step_empty [] [] (k ∷ ks) = rw (not_empty k ks) refl
step_empty [] (k ∷ ks) [] = rw (not_empty k ks) refl
step_empty [] (k ∷ ks) (l ∷ ls) = rw (not_empty k ks, not_empty l ls) refl
step_empty (k ∷ ks) y [] = rw (not_empty k ks) refl
step_empty (k ∷ ks) y (l ∷ ls) = rw (not_empty k ks, not_empty l ls) refl

attached_empty : (x y z : Kinds) → is_empty (or_else (or_else (or_else z []) []) (or_else (or_else x (or_else y [])) [])) ≡ (is_empty x && (is_empty y && is_empty z))
attached_empty [] [] [] = refl
attached_empty [] [] (k ∷ ks) = rw (not_empty k ks) refl
attached_empty [] (k ∷ ks) [] = rw (not_empty k ks) refl
attached_empty [] (k ∷ ks) (l ∷ ls) = rw (not_empty k ks, not_empty l ls) refl
attached_empty (k ∷ ks) y [] = rw (not_empty k ks) refl
attached_empty (k ∷ ks) y (l ∷ ls) = rw (not_empty k ks, not_empty l ls) refl

pub all_empty : (x y z : Kinds) → is_empty (or_else (or_else (or_else x []) (or_else (or_else y []) [])) (or_else z [])) ≡ (is_empty x && (is_empty y && is_empty z))
all_empty [] [] [] = refl
all_empty [] [] (k ∷ ks) = rw (not_empty k ks) refl
all_empty [] (k ∷ ks) z = rw (not_empty k ks) refl
all_empty (k ∷ ks) y z = rw (not_empty k ks) refl

-- the words are taken, by where no fault is
fits_by : (p q r : ValueParser) (m n d : Text) (words : List Text) → is_taken (build_with p q r) words ≡ (is_empty (number_fault p m) && (is_empty (number_fault q n) && is_empty (number_fault r d))) → FitsNumbers m n d words p q r
fits_by p q r m n d words e = e ∙ ap₂ (λ x y. x && y) (number_fault_by p m (accepts false p m) refl) (ap₂ (λ x y. x && y) (number_fault_by q n (accepts false q n) refl) (number_fault_by r d (accepts false r d) refl))

-- what the words ask for, where they give the three numbers
module _ (a b m n d : Text) (words : List Text) (fits : (p q r : ValueParser) → FitsNumbers m n d words p q r) (finds : (p q r : ValueParser) → FindsNumbers a b m n d words p q r)
    (chosen : asked words ≡ asked_to_build words) where
  asked_by_all : (x y z : Bool) → is_number_to greatest_registers m ≡ x → is_number_to greatest_budget n ≡ y → is_number_to greatest_step d ≡ z → asked words ≡ cond (x && (y && z)) (build_of (matches_of build_app words)) None
  unfolding asked_to
  asked_by_all x y z e f g = chosen ∙ ap (λ u. cond u (build_of (matches_of build_app words)) None)
      (fits (parser.Unsigned 1 greatest_registers) (parser.Unsigned 1 greatest_budget) (parser.Unsigned 1 greatest_step) ∙ ap₂ (λ u v. u && v) e (ap₂ (λ u v. u && v) f g))

  all_read : (x y z : ℕ) → number_to greatest_registers m ≡ Some x → number_to greatest_budget n ≡ Some y → number_to greatest_step d ≡ Some z → build_of (matches_of build_app words) ≡ Some (ToBuild a b x y z)
  all_read x y z e f g =
      let h = finds (parser.Unsigned 1 greatest_registers) (parser.Unsigned 1 greatest_budget) (parser.Unsigned 1 greatest_step) in
      read (matches_of build_app words) h.source h.image (ap (option_and_then (number_to greatest_registers)) h.registers ∙ e) (ap (option_and_then (number_to greatest_budget)) h.budget ∙ f)
      (ap (option_and_then (number_to greatest_step)) h.step ∙ g)
    where
      read : (rows : List Row) → first_of (codes "source") rows ≡ Some a → first_of (codes "image") rows ≡ Some b → number_of (codes "registers") greatest_registers rows ≡ Some x
          → number_of (codes "budget") greatest_budget rows ≡ Some y → number_of (codes "step") greatest_step rows ≡ Some z → build_of rows ≡ Some (ToBuild a b x y z)
      read rows first second third fourth fifth = rw (first, second, third, fourth, fifth) refl

  all_numbers : BuildsFor a b m n d words
  all_numbers = (
    λ e. (
      λ f. (
        λ g. asked_by_all true true true e f g ∙ all_read _ _ _ (number_in greatest_registers m e) (number_in greatest_budget n f) (number_in greatest_step d g),
        λ g. asked_by_all true true false e f g,
      ),
      λ f. asked_by_all true false (is_number_to greatest_step d) e f refl,
    ),
    λ e. asked_by_all false (is_number_to greatest_budget n) (is_number_to greatest_step d) e refl refl,
  )

-- two numbers are the usual ones
registers_alone : (a b m : Text) (words : List Text) → BuildsFor a b m (codes "200000") (codes "1") words → AsksFor greatest_registers (λ registers. ToBuild a b registers 200000 1) m words
registers_alone a b m words h = (λ e. ((h.0 e).0 refl).0 refl, h.1)

budget_alone : (a b n : Text) (words : List Text) → BuildsFor a b (codes "1") n (codes "1") words → AsksFor greatest_budget (λ budget. ToBuild a b 1 budget 1) n words
budget_alone a b n words h = (λ e. ((h.0 refl).0 e).0 refl, (h.0 refl).1)

step_alone : (a b d : Text) (words : List Text) → BuildsFor a b (codes "1") (codes "200000") d words → AsksFor greatest_step (ToBuild a b 1 200000) d words
step_alone a b d words h = (h.0 refl).0 refl

-- the number of registers behind the names
registers_behind_fault : (a b m : Text) → IsNoFlag a → IsNoFlag b → IsNoFlag m → (p q r : ValueParser) → fault_of (build_with p q r) (codes "build" ∷ a ∷ b ∷ codes "-r" ∷ m ∷ [])
    ≡ or_else (number_fault p m) (or_else (or_else (number_fault q (codes "200000")) (or_else (number_fault r (codes "1")) [])) [])
unfolding clap_on_literals
registers_behind_fault a b m fa fb fm p q r = rw (fa.0, fa.1, fa.2, fb.0, fb.1, fb.2) (rw (fm.0, fm.1, fm.2) refl)

registers_behind_finds : (a b m : Text) → IsNoFlag a → IsNoFlag b → IsNoFlag m → (p q r : ValueParser) → FindsNumbers a b m (codes "200000") (codes "1") (codes "build" ∷ a ∷ b ∷ codes "-r" ∷ m ∷ []) p q r
unfolding clap_on_literals
registers_behind_finds a b m fa fb fm p q r = record {
  source = rw (fa.0, fa.1, fa.2, fb.0, fb.1, fb.2) (rw (fm.0, fm.1, fm.2) refl);
  image = rw (fa.0, fa.1, fa.2, fb.0, fb.1, fb.2) (rw (fm.0, fm.1, fm.2) refl);
  registers = rw (fa.0, fa.1, fa.2, fb.0, fb.1, fb.2) (rw (fm.0, fm.1, fm.2) refl);
  budget = rw (fa.0, fa.1, fa.2, fb.0, fb.1, fb.2) (rw (fm.0, fm.1, fm.2) refl);
  step = rw (fa.0, fa.1, fa.2, fb.0, fb.1, fb.2) (rw (fm.0, fm.1, fm.2) refl);
}

registers_behind_fits : (a b m : Text) → IsNoFlag a → IsNoFlag b → IsNoFlag m → (p q r : ValueParser) → FitsNumbers m (codes "200000") (codes "1") (codes "build" ∷ a ∷ b ∷ codes "-r" ∷ m ∷ []) p q r
registers_behind_fits a b m fa fb fm p q r = fits_by p q r m (codes "200000") (codes "1") (codes "build" ∷ a ∷ b ∷ codes "-r" ∷ m ∷ []) (ap is_empty (registers_behind_fault a b m fa fb fm p q r) ∙ registers_empty (number_fault p m) (number_fault q (codes "200000")) (number_fault r (codes "1")))

pub registers_behind : BuildsWithRegisters
registers_behind a b pa pb m pm =
    let fa = no_flag a pa in
    let fb = no_flag b pb in
    let fm = no_flag m pm in
    registers_alone a b m (codes "build" ∷ a ∷ b ∷ codes "-r" ∷ m ∷ []) (all_numbers a b m (codes "200000") (codes "1") (codes "build" ∷ a ∷ b ∷ codes "-r" ∷ m ∷ []) (registers_behind_fits a b m fa fb fm) (registers_behind_finds a b m fa fb fm) refl)

-- the budget behind the names
budget_behind_fault : (a b n : Text) → IsNoFlag a → IsNoFlag b → IsNoFlag n → (p q r : ValueParser) → fault_of (build_with p q r) (codes "build" ∷ a ∷ b ∷ codes "--budget" ∷ n ∷ [])
    ≡ or_else (number_fault q n) (or_else (or_else (number_fault p (codes "1")) (or_else (number_fault r (codes "1")) [])) [])
unfolding clap_on_literals
budget_behind_fault a b n fa fb fn p q r = rw (fa.0, fa.1, fa.2, fb.0, fb.1, fb.2) (rw (fn.0, fn.1, fn.2) refl)

budget_behind_finds : (a b n : Text) → IsNoFlag a → IsNoFlag b → IsNoFlag n → (p q r : ValueParser) → FindsNumbers a b (codes "1") n (codes "1") (codes "build" ∷ a ∷ b ∷ codes "--budget" ∷ n ∷ []) p q r
unfolding clap_on_literals
budget_behind_finds a b n fa fb fn p q r = record {
  source = rw (fa.0, fa.1, fa.2, fb.0, fb.1, fb.2) (rw (fn.0, fn.1, fn.2) refl);
  image = rw (fa.0, fa.1, fa.2, fb.0, fb.1, fb.2) (rw (fn.0, fn.1, fn.2) refl);
  registers = rw (fa.0, fa.1, fa.2, fb.0, fb.1, fb.2) (rw (fn.0, fn.1, fn.2) refl);
  budget = rw (fa.0, fa.1, fa.2, fb.0, fb.1, fb.2) (rw (fn.0, fn.1, fn.2) refl);
  step = rw (fa.0, fa.1, fa.2, fb.0, fb.1, fb.2) (rw (fn.0, fn.1, fn.2) refl);
}

budget_behind_fits : (a b n : Text) → IsNoFlag a → IsNoFlag b → IsNoFlag n → (p q r : ValueParser) → FitsNumbers (codes "1") n (codes "1") (codes "build" ∷ a ∷ b ∷ codes "--budget" ∷ n ∷ []) p q r
budget_behind_fits a b n fa fb fn p q r = fits_by p q r (codes "1") n (codes "1") (codes "build" ∷ a ∷ b ∷ codes "--budget" ∷ n ∷ []) (ap is_empty (budget_behind_fault a b n fa fb fn p q r) ∙ budget_empty (number_fault p (codes "1")) (number_fault q n) (number_fault r (codes "1")))

pub budget_behind : BuildsWithBudget
budget_behind a b pa pb n pn =
    let fa = no_flag a pa in
    let fb = no_flag b pb in
    let fn = no_flag n pn in
    budget_alone a b n (codes "build" ∷ a ∷ b ∷ codes "--budget" ∷ n ∷ []) (all_numbers a b (codes "1") n (codes "1") (codes "build" ∷ a ∷ b ∷ codes "--budget" ∷ n ∷ []) (budget_behind_fits a b n fa fb fn) (budget_behind_finds a b n fa fb fn) refl)

-- the step behind the names
step_behind_fault : (a b d : Text) → IsNoFlag a → IsNoFlag b → IsNoFlag d → (p q r : ValueParser) → fault_of (build_with p q r) (codes "build" ∷ a ∷ b ∷ codes "--step" ∷ d ∷ [])
    ≡ or_else (number_fault r d) (or_else (or_else (number_fault p (codes "1")) (or_else (number_fault q (codes "200000")) [])) [])
unfolding clap_on_literals
step_behind_fault a b d fa fb fd p q r = rw (fa.0, fa.1, fa.2, fb.0, fb.1, fb.2) (rw (fd.0, fd.1, fd.2) refl)

step_behind_finds : (a b d : Text) → IsNoFlag a → IsNoFlag b → IsNoFlag d → (p q r : ValueParser) → FindsNumbers a b (codes "1") (codes "200000") d (codes "build" ∷ a ∷ b ∷ codes "--step" ∷ d ∷ []) p q r
unfolding clap_on_literals
step_behind_finds a b d fa fb fd p q r = record {
  source = rw (fa.0, fa.1, fa.2, fb.0, fb.1, fb.2) (rw (fd.0, fd.1, fd.2) refl);
  image = rw (fa.0, fa.1, fa.2, fb.0, fb.1, fb.2) (rw (fd.0, fd.1, fd.2) refl);
  registers = rw (fa.0, fa.1, fa.2, fb.0, fb.1, fb.2) (rw (fd.0, fd.1, fd.2) refl);
  budget = rw (fa.0, fa.1, fa.2, fb.0, fb.1, fb.2) (rw (fd.0, fd.1, fd.2) refl);
  step = rw (fa.0, fa.1, fa.2, fb.0, fb.1, fb.2) (rw (fd.0, fd.1, fd.2) refl);
}

step_behind_fits : (a b d : Text) → IsNoFlag a → IsNoFlag b → IsNoFlag d → (p q r : ValueParser) → FitsNumbers (codes "1") (codes "200000") d (codes "build" ∷ a ∷ b ∷ codes "--step" ∷ d ∷ []) p q r
step_behind_fits a b d fa fb fd p q r = fits_by p q r (codes "1") (codes "200000") d (codes "build" ∷ a ∷ b ∷ codes "--step" ∷ d ∷ []) (ap is_empty (step_behind_fault a b d fa fb fd p q r) ∙ step_empty (number_fault p (codes "1")) (number_fault q (codes "200000")) (number_fault r d))

pub step_behind : BuildsWithStep
step_behind a b pa pb d pd =
    let fa = no_flag a pa in
    let fb = no_flag b pb in
    let fd = no_flag d pd in
    step_alone a b d (codes "build" ∷ a ∷ b ∷ codes "--step" ∷ d ∷ []) (all_numbers a b (codes "1") (codes "200000") d (codes "build" ∷ a ∷ b ∷ codes "--step" ∷ d ∷ []) (step_behind_fits a b d fa fb fd) (step_behind_finds a b d fa fb fd) refl)

-- and attached
step_joined_fault : (a b d : Text) → IsNoFlag a → IsNoFlag b → (p q r : ValueParser) → fault_of (build_with p q r) (codes "build" ∷ a ∷ b ∷ (codes "--step=" ++ d) ∷ [])
    ≡ or_else (or_else (or_else (number_fault r d) []) []) (or_else (or_else (number_fault p (codes "1")) (or_else (number_fault q (codes "200000")) [])) [])
unfolding clap_on_literals
step_joined_fault a b d fa fb p q r = rw (fa.0, fa.1, fa.2, fb.0, fb.1, fb.2) refl

step_joined_finds : (a b d : Text) → IsNoFlag a → IsNoFlag b → (p q r : ValueParser) → FindsNumbers a b (codes "1") (codes "200000") d (codes "build" ∷ a ∷ b ∷ (codes "--step=" ++ d) ∷ []) p q r
unfolding clap_on_literals
step_joined_finds a b d fa fb p q r = record {
  source = rw (fa.0, fa.1, fa.2, fb.0, fb.1, fb.2) refl;
  image = rw (fa.0, fa.1, fa.2, fb.0, fb.1, fb.2) refl;
  registers = rw (fa.0, fa.1, fa.2, fb.0, fb.1, fb.2) refl;
  budget = rw (fa.0, fa.1, fa.2, fb.0, fb.1, fb.2) refl;
  step = rw (fa.0, fa.1, fa.2, fb.0, fb.1, fb.2) refl;
}

step_joined_fits : (a b d : Text) → IsNoFlag a → IsNoFlag b → (p q r : ValueParser) → FitsNumbers (codes "1") (codes "200000") d (codes "build" ∷ a ∷ b ∷ (codes "--step=" ++ d) ∷ []) p q r
step_joined_fits a b d fa fb p q r = fits_by p q r (codes "1") (codes "200000") d (codes "build" ∷ a ∷ b ∷ (codes "--step=" ++ d) ∷ []) (ap is_empty (step_joined_fault a b d fa fb p q r) ∙ attached_empty (number_fault p (codes "1")) (number_fault q (codes "200000")) (number_fault r d))

pub step_attached : BuildsWithStepAttached
step_attached a b pa pb d =
    let fa = no_flag a pa in
    let fb = no_flag b pb in
    step_alone a b d (codes "build" ∷ a ∷ b ∷ (codes "--step=" ++ d) ∷ []) (all_numbers a b (codes "1") (codes "200000") d (codes "build" ∷ a ∷ b ∷ (codes "--step=" ++ d) ∷ []) (step_joined_fits a b d fa fb) (step_joined_finds a b d fa fb) refl)

-- all three behind the names: where the walk stands behind the first, and at the end
abbrev given : Text → Text → Reading → Row
given id value how = record {
  id = id;
  values = value ∷ [];
  count = None;
  source = Some CommandLine;
  reading = how;
}

abbrev standing : List Row → Text → Text → Walk
standing rows id value = record {
  held = record { rows = rows; pending = Some (id, value ∷ []); skip = 0 };
  waiting = idle;
  position = 3;
  is_trailing = false;
  stopped = None;
}

abbrev behind_registers : Text → Text → Text → Walk
behind_registers a b m = standing (given (codes "source") a reading.AsWritten ∷ given (codes "image") b reading.AsWritten ∷ []) (codes "registers") m

abbrev at_end : Text → Text → Text → Text → Text → ValueParser → ValueParser → Walk
at_end a b m n d p q = standing
    (given (codes "source") a reading.AsWritten ∷ given (codes "image") b reading.AsWritten ∷ given (codes "registers") m (reading_of p) ∷ given (codes "budget") n (reading_of q) ∷ [])
    (codes "step") d

module _ (p q r : ValueParser) where
  abbrev shape : Shape
  shape = (built (build_with p q r)).top

  abbrev stepped : Walk → Text → Walk
  stepped = walked shape.rules []

  -- the fault that the end of a walk leaves
  abbrev ended : Kinds → Walk → Kinds
  ended so_far w = or_else so_far
      (or_else (entered_fault (built (build_with p q r)) w.stopped)
      (or_else (settle_fault shape.rules shape.args_override_self w.held)
      (or_else (defaults_fault (settled shape.rules w.held).rows shape.rules)
      (check_fault shape (finished shape.rules w.held) (is_some (entered (built (build_with p q r)) w.stopped))))))

  module _ (a b m n d : Text) where
    abbrev rest : List Text
    rest = codes "--budget" ∷ n ∷ codes "--step" ∷ d ∷ []

    names_walked : IsNoFlag a → IsNoFlag b → IsNoFlag m → stepped (stepped (stepped (stepped (walk_from nothing_held) a) b) (codes "-r")) m ≡ behind_registers a b m
    unfolding clap_on_literals
    names_walked fa fb fm = rw (fa.0, fa.1, fa.2, fb.0, fb.1, fb.2) (rw (fm.0, fm.1, fm.2) refl)

    rest_walked : IsNoFlag n → IsNoFlag d → fold stepped (behind_registers a b m) rest ≡ at_end a b m n d p q
    unfolding clap_on_literals
    rest_walked fn fd = rw (fn.0, fn.1, fn.2) (rw (fd.0, fd.1, fd.2) refl)

    names_fault : IsNoFlag a → IsNoFlag b → IsNoFlag m → (words : List Text)
        → walk_fault shape [] (walk_from nothing_held) (a ∷ b ∷ codes "-r" ∷ m ∷ words) ≡ walk_fault shape [] (stepped (stepped (stepped (stepped (walk_from nothing_held) a) b) (codes "-r")) m) words
    unfolding clap_on_literals
    names_fault fa fb fm words = rw (fa.0, fa.1, fa.2, fb.0, fb.1, fb.2) (rw (fm.0, fm.1, fm.2) refl)

    rest_fault : IsNoFlag n → IsNoFlag d → walk_fault shape [] (behind_registers a b m) rest ≡ or_else (or_else (number_fault p m) []) (or_else (or_else (number_fault q n) []) [])
    unfolding clap_on_literals
    rest_fault fn fd = rw (fn.0, fn.1, fn.2) (rw (fd.0, fd.1, fd.2) refl)

    end_fault : (so_far : Kinds) → ended so_far (at_end a b m n d p q) ≡ or_else so_far (or_else (number_fault r d) [])
    unfolding clap_on_literals
    end_fault so_far = refl

    module _ (fa : IsNoFlag a) (fb : IsNoFlag b) (fm : IsNoFlag m) (fn : IsNoFlag n) (fd : IsNoFlag d) where
      all_walked : fold stepped (walk_from nothing_held) (a ∷ b ∷ codes "-r" ∷ m ∷ rest) ≡ at_end a b m n d p q
      all_walked = ap (λ w. fold stepped w rest) (names_walked fa fb fm) ∙ rest_walked fn fd

      all_fault : fault_of (build_with p q r) (codes "build" ∷ a ∷ b ∷ codes "-r" ∷ m ∷ rest) ≡ or_else (or_else (or_else (number_fault p m) []) (or_else (or_else (number_fault q n) []) [])) (or_else (number_fault r d) [])
      all_fault = ap₂ ended (names_fault fa fb fm rest ∙ ap (λ w. walk_fault shape [] w rest) (names_walked fa fb fm) ∙ rest_fault fn fd) all_walked
          ∙ end_fault (or_else (or_else (number_fault p m) []) (or_else (or_else (number_fault q n) []) []))

      all_fits : FitsNumbers m n d (codes "build" ∷ a ∷ b ∷ codes "-r" ∷ m ∷ rest) p q r
      all_fits = fits_by p q r m n d (codes "build" ∷ a ∷ b ∷ codes "-r" ∷ m ∷ rest) (ap is_empty all_fault ∙ all_empty (number_fault p m) (number_fault q n) (number_fault r d))

      all_finds : FindsNumbers a b m n d (codes "build" ∷ a ∷ b ∷ codes "-r" ∷ m ∷ rest) p q r
      all_finds = record {
        source = ap (λ w. first_of (codes "source") (finished shape.rules w.held)) all_walked;
        image = ap (λ w. first_of (codes "image") (finished shape.rules w.held)) all_walked;
        registers = ap (λ w. one_of (codes "registers") (finished shape.rules w.held)) all_walked;
        budget = ap (λ w. one_of (codes "budget") (finished shape.rules w.held)) all_walked;
        step = ap (λ w. one_of (codes "step") (finished shape.rules w.held)) all_walked;
      }

pub all_behind : BuildsWithAll
all_behind a b pa pb m n pm pn d pd =
    let fa = no_flag a pa in
    let fb = no_flag b pb in
    let fm = no_flag m pm in
    let fn = no_flag n pn in
    let fd = no_flag d pd in
    all_numbers a b m n d (codes "build" ∷ a ∷ b ∷ codes "-r" ∷ m ∷ codes "--budget" ∷ n ∷ codes "--step" ∷ d ∷ []) (λ p q r. all_fits p q r a b m n d fa fb fm fn fd)
    (λ p q r. all_finds p q r a b m n d fa fb fm fn fd) refl
