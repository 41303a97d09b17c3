-- What `clap` makes of the words of `pbuild`.
use Rattle.std.proofs.Common.{◌≡◌, ◌∙◌, ℕ, Bool, true, false, refl, ap, ap₂, List, [], ◌∷◌, Some, None, codes, cond}
use Rattle.std.specs.Prelude.{◌&&◌, fold, is_some, option_and_then}
use Rattle.clap.specs.Words.{App, Kinds, Row, Shape, Text, built, fault_of, first_of, matches_of, one_of, read_as, reading_of, with_rule}
use Rattle.clap.specs.ValueTests.{accepts}
use Rattle.clap.specs.declared.builder.value_parser.ValueParser.{ValueParser}
use Rattle.clap.specs.declared.builder.value_parser.ValueParser.TheVariants as parser
use Rattle.clap.specs.declared.builder.value_parser.Reading.{Reading}
use Rattle.clap.specs.declared.builder.value_parser.Reading.TheVariants as reading
use Rattle.clap.specs.declared.parser.matches.ValueSource.TheVariants.{CommandLine}
use Rattle.clap.specs.Faults.{check_fault, defaults_fault, entered_fault, settle_fault, walk_fault}
use Rattle.clap.specs.Kinds.{or_else}
use Rattle.clap.specs.Simple.{entered}
use Rattle.clap.specs.Walk.{Walk, finished, idle, is_empty, nothing_held, settled, walk_from, walked}
use Rattle.clap.proofs.OnLiterals.{clap_on_literals}
use Rattle.cc_words.specs.Asked.{ToPbuild, asked, asked_to, asked_to_pbuild, is_number_to, is_taken, number_of, number_to, pbuild_of}
use Rattle.cc_words.specs.Commands.{budget_rule, greatest_budget, greatest_registers, greatest_steps, name_rule, named_app, pbuild_app, registers_rule, steps_rule}
use Rattle.cc_words_proof.specs.Plain.{PbuildsFor, PbuildsFourNames, PbuildsNoOtherNames, PbuildsWithAll, PbuildsWithoutStep}
use Rattle.cc_words_proof.proofs.BuildLemmas.{all_empty}
use Rattle.cc_words_proof.proofs.PlainLemmas.{IsNoFlag, no_flag, number_fault, number_fault_by, number_in}

-- `pbuild` of four names, of fewer, and of more
taken : (a b c e : Text) → IsNoFlag a → IsNoFlag b → IsNoFlag c → IsNoFlag e → is_taken pbuild_app (codes "pbuild" ∷ a ∷ b ∷ c ∷ e ∷ []) ≡ true
unfolding clap_on_literals
taken a b c e fa fb fc fe = rw (fa.0, fa.1, fa.2, fb.0, fb.1, fb.2) (rw (fc.0, fc.1, fc.2, fe.0, fe.1, fe.2) refl)

not_taken : (words : List Text) → is_taken pbuild_app words ≡ false → asked_to_pbuild words ≡ None
unfolding asked_to
not_taken words e = ap (λ b. cond b (pbuild_of (matches_of pbuild_app words)) None) e

no_name : is_taken pbuild_app (codes "pbuild" ∷ []) ≡ false
unfolding clap_on_literals
no_name = refl

one_name : (a : Text) → IsNoFlag a → is_taken pbuild_app (codes "pbuild" ∷ a ∷ []) ≡ false
unfolding clap_on_literals
one_name a fa = rw (fa.0, fa.1, fa.2) refl

two_names : (a b : Text) → IsNoFlag a → IsNoFlag b → is_taken pbuild_app (codes "pbuild" ∷ a ∷ b ∷ []) ≡ false
unfolding clap_on_literals
two_names a b fa fb = rw (fa.0, fa.1, fa.2, fb.0, fb.1, fb.2) refl

three_names : (a b c : Text) → IsNoFlag a → IsNoFlag b → IsNoFlag c → is_taken pbuild_app (codes "pbuild" ∷ a ∷ b ∷ c ∷ []) ≡ false
unfolding clap_on_literals
three_names a b c fa fb fc = rw (fa.0, fa.1, fa.2, fb.0, fb.1, fb.2, fc.0, fc.1, fc.2) refl

more_names : (a b c e word : Text) (rest : List Text) → IsNoFlag a → IsNoFlag b → IsNoFlag c → IsNoFlag e → IsNoFlag word → is_taken pbuild_app (codes "pbuild" ∷ a ∷ b ∷ c ∷ e ∷ word ∷ rest) ≡ false
unfolding clap_on_literals
more_names a b c e word rest fa fb fc fe fw = rw (fa.0, fa.1, fa.2, fb.0, fb.1, fb.2) (rw (fc.0, fc.1, fc.2, fe.0, fe.1, fe.2, fw.0, fw.1, fw.2) refl)

pub pbuild_other_names : PbuildsNoOtherNames
pbuild_other_names = (
  not_taken (codes "pbuild" ∷ []) no_name,
  λ a pa. not_taken (codes "pbuild" ∷ a ∷ []) (one_name a (no_flag a pa)),
  λ a b pa pb. not_taken (codes "pbuild" ∷ a ∷ b ∷ []) (two_names a b (no_flag a pa) (no_flag b pb)),
  λ a b pa pb c pc. not_taken (codes "pbuild" ∷ a ∷ b ∷ c ∷ []) (three_names a b c (no_flag a pa) (no_flag b pb) (no_flag c pc)),
  λ a b pa pb c e pc pe word rest pw. not_taken (codes "pbuild" ∷ a ∷ b ∷ c ∷ e ∷ word ∷ rest)
      (more_names a b c e word rest (no_flag a pa) (no_flag b pb) (no_flag c pc) (no_flag e pe) (no_flag word pw)),
)

-- `--step` behind the names
step_refused : (a b c e : Text) (rest : List Text) → IsNoFlag a → IsNoFlag b → IsNoFlag c → IsNoFlag e → is_taken pbuild_app (codes "pbuild" ∷ a ∷ b ∷ c ∷ e ∷ codes "--step" ∷ rest) ≡ false
unfolding clap_on_literals
step_refused a b c e rest fa fb fc fe = rw (fa.0, fa.1, fa.2, fb.0, fb.1, fb.2) (rw (fc.0, fc.1, fc.2, fe.0, fe.1, fe.2) refl)

pub pbuild_no_step : PbuildsWithoutStep
pbuild_no_step a b pa pb c e pc pe rest =
    not_taken (codes "pbuild" ∷ a ∷ b ∷ c ∷ e ∷ codes "--step" ∷ rest) (step_refused a b c e rest (no_flag a pa) (no_flag b pb) (no_flag c pc) (no_flag e pe))

-- ---- all three numbers behind the names

-- `pbuild` with any parsers of its numbers
abbrev pbuild_with : ValueParser → ValueParser → ValueParser → App
pbuild_with p q r = with_rule
    (with_rule
    (with_rule
    (with_rule
    (with_rule (named_app (codes "pbuild") (codes "source") (codes "first")) (name_rule (codes "ports")))
    (name_rule (codes "image")))
    (record registers_rule { parser = Some p }))
    (record budget_rule { parser = Some q }))
    (record steps_rule { parser = Some r })

-- the rows hold the four names and the three texts, as the parsers read them
record FindsNumbers (a b c e m n d : Text) (words : List Text) (p q r : ValueParser) : Type 0 where
  source : first_of (codes "source") (matches_of (pbuild_with p q r) words) ≡ Some a
  first : first_of (codes "first") (matches_of (pbuild_with p q r) words) ≡ Some b
  ports : first_of (codes "ports") (matches_of (pbuild_with p q r) words) ≡ Some c
  image : first_of (codes "image") (matches_of (pbuild_with p q r) words) ≡ Some e
  registers : one_of (codes "registers") (matches_of (pbuild_with p q r) words) ≡ Some (read_as (reading_of p) m)
  budget : one_of (codes "budget") (matches_of (pbuild_with p q r) words) ≡ Some (read_as (reading_of q) n)
  steps : one_of (codes "steps") (matches_of (pbuild_with p q r) words) ≡ Some (read_as (reading_of r) d)

-- the words are taken where the three parsers take their text
abbrev FitsNumbers : Text → Text → Text → List Text → ValueParser → ValueParser → ValueParser → Type 0
FitsNumbers m n d words p q r = is_taken (pbuild_with p q r) words ≡ (accepts false p m && (accepts false q n && accepts false r d))

-- what the words ask for, where they give the three numbers
module _ (a b c e m n d : Text) (words : List Text) (fits : (p q r : ValueParser) → FitsNumbers m n d words p q r) (finds : (p q r : ValueParser) → FindsNumbers a b c e m n d words p q r)
    (chosen : asked words ≡ asked_to_pbuild words) where
  asked_by_all : (x y z : Bool) → is_number_to greatest_registers m ≡ x → is_number_to greatest_budget n ≡ y → is_number_to greatest_steps d ≡ z
      → asked words ≡ cond (x && (y && z)) (pbuild_of (matches_of pbuild_app words)) None
  unfolding asked_to
  asked_by_all x y z eq_m eq_n eq_d = chosen ∙ ap (λ u. cond u (pbuild_of (matches_of pbuild_app words)) None)
      (fits (parser.Unsigned 1 greatest_registers) (parser.Unsigned 1 greatest_budget) (parser.Unsigned 1 greatest_steps) ∙ ap₂ (λ u v. u && v) eq_m (ap₂ (λ u v. u && v) eq_n eq_d))

  all_read : (x y z : ℕ) → number_to greatest_registers m ≡ Some x → number_to greatest_budget n ≡ Some y → number_to greatest_steps d ≡ Some z
      → pbuild_of (matches_of pbuild_app words) ≡ Some (ToPbuild a b c e x y z)
  all_read x y z eq_m eq_n eq_d =
      let h = finds (parser.Unsigned 1 greatest_registers) (parser.Unsigned 1 greatest_budget) (parser.Unsigned 1 greatest_steps) in
      read (matches_of pbuild_app words) h.source h.first h.ports h.image (ap (option_and_then (number_to greatest_registers)) h.registers ∙ eq_m)
      (ap (option_and_then (number_to greatest_budget)) h.budget ∙ eq_n) (ap (option_and_then (number_to greatest_steps)) h.steps ∙ eq_d)
    where
      read : (rows : List Row) → first_of (codes "source") rows ≡ Some a → first_of (codes "first") rows ≡ Some b → first_of (codes "ports") rows ≡ Some c → first_of (codes "image") rows ≡ Some e
          → number_of (codes "registers") greatest_registers rows ≡ Some x → number_of (codes "budget") greatest_budget rows ≡ Some y → number_of (codes "steps") greatest_steps rows ≡ Some z
          → pbuild_of rows ≡ Some (ToPbuild a b c e x y z)
      read rows s f p i registers budget steps = rw (s, f, p, i) (rw (registers, budget, steps) refl)

  all_numbers : PbuildsFor a b c e m n d words
  all_numbers = (
    λ eq_m. (
      λ eq_n. (
        λ eq_d. asked_by_all true true true eq_m eq_n eq_d ∙ all_read _ _ _ (number_in greatest_registers m eq_m) (number_in greatest_budget n eq_n) (number_in greatest_steps d eq_d),
        λ eq_d. asked_by_all true true false eq_m eq_n eq_d,
      ),
      λ eq_n. asked_by_all true false (is_number_to greatest_steps d) eq_m eq_n refl,
    ),
    λ eq_m. asked_by_all false (is_number_to greatest_budget n) (is_number_to greatest_steps d) eq_m refl refl,
  )

-- where the walk stands behind two names, behind all four, behind the registers, and at the end
abbrev given : Text → Text → Reading → Row
given id value how = record {
  id = id;
  values = value ∷ [];
  count = None;
  source = Some CommandLine;
  reading = how;
}

abbrev standing : ℕ → List Row → Text → Text → Walk
standing position rows id value = record {
  held = record { rows = rows; pending = Some (id, value ∷ []); skip = 0 };
  waiting = idle;
  position = position;
  is_trailing = false;
  stopped = None;
}

abbrev behind_two : Text → Text → Walk
behind_two a b = standing 3 (given (codes "source") a reading.AsWritten ∷ []) (codes "first") b

abbrev behind_four : Text → Text → Text → Text → Walk
behind_four a b c e = standing 5 (given (codes "source") a reading.AsWritten ∷ given (codes "first") b reading.AsWritten ∷ given (codes "ports") c reading.AsWritten ∷ []) (codes "image") e

abbrev four_given : Text → Text → Text → Text → List Row → List Row
four_given a b c e rows = given (codes "source") a reading.AsWritten ∷ given (codes "first") b reading.AsWritten
    ∷ given (codes "ports") c reading.AsWritten ∷ given (codes "image") e reading.AsWritten ∷ rows

abbrev behind_registers : Text → Text → Text → Text → Text → Walk
behind_registers a b c e m = standing 5 (four_given a b c e []) (codes "registers") m

abbrev at_end : Text → Text → Text → Text → Text → Text → Text → ValueParser → ValueParser → Walk
at_end a b c e m n d p q = standing 5 (four_given a b c e (given (codes "registers") m (reading_of p) ∷ given (codes "budget") n (reading_of q) ∷ [])) (codes "steps") d

module _ (p q r : ValueParser) where
  abbrev shape : Shape
  shape = (built (pbuild_with p q r)).top

  abbrev stepped : Walk → Text → Walk
  stepped = walked shape.rules []

  -- the fault that the end of a walk leaves
  abbrev ended : Kinds → Walk → Kinds
  ended so_far w = or_else so_far
      (or_else (entered_fault (built (pbuild_with p q r)) w.stopped)
      (or_else (settle_fault shape.rules shape.args_override_self w.held)
      (or_else (defaults_fault (settled shape.rules w.held).rows shape.rules)
      (check_fault shape (finished shape.rules w.held) (is_some (entered (built (pbuild_with p q r)) w.stopped))))))

  module _ (a b c e m n d : Text) where
    abbrev rest : List Text
    rest = codes "--budget" ∷ n ∷ codes "--steps" ∷ d ∷ []

    two_walked : IsNoFlag a → IsNoFlag b → stepped (stepped (walk_from nothing_held) a) b ≡ behind_two a b
    unfolding clap_on_literals
    two_walked fa fb = rw (fa.0, fa.1, fa.2, fb.0, fb.1, fb.2) refl

    four_walked : IsNoFlag c → IsNoFlag e → stepped (stepped (behind_two a b) c) e ≡ behind_four a b c e
    unfolding clap_on_literals
    four_walked fc fe = rw (fc.0, fc.1, fc.2, fe.0, fe.1, fe.2) refl

    registers_walked : IsNoFlag m → stepped (stepped (behind_four a b c e) (codes "-r")) m ≡ behind_registers a b c e m
    unfolding clap_on_literals
    registers_walked fm = rw (fm.0, fm.1, fm.2) refl

    rest_walked : IsNoFlag n → IsNoFlag d → fold stepped (behind_registers a b c e m) rest ≡ at_end a b c e m n d p q
    unfolding clap_on_literals
    rest_walked fn fd = rw (fn.0, fn.1, fn.2) (rw (fd.0, fd.1, fd.2) refl)

    two_fault : IsNoFlag a → IsNoFlag b → (words : List Text) → walk_fault shape [] (walk_from nothing_held) (a ∷ b ∷ words) ≡ walk_fault shape [] (stepped (stepped (walk_from nothing_held) a) b) words
    unfolding clap_on_literals
    two_fault fa fb words = rw (fa.0, fa.1, fa.2, fb.0, fb.1, fb.2) refl

    four_fault : IsNoFlag c → IsNoFlag e → (words : List Text) → walk_fault shape [] (behind_two a b) (c ∷ e ∷ words) ≡ walk_fault shape [] (stepped (stepped (behind_two a b) c) e) words
    unfolding clap_on_literals
    four_fault fc fe words = rw (fc.0, fc.1, fc.2, fe.0, fe.1, fe.2) refl

    registers_fault : IsNoFlag m → (words : List Text) → walk_fault shape [] (behind_four a b c e) (codes "-r" ∷ m ∷ words) ≡ walk_fault shape [] (stepped (stepped (behind_four a b c e) (codes "-r")) m) words
    unfolding clap_on_literals
    registers_fault fm words = rw (fm.0, fm.1, fm.2) refl

    rest_fault : IsNoFlag n → IsNoFlag d → walk_fault shape [] (behind_registers a b c e m) rest ≡ or_else (or_else (number_fault p m) []) (or_else (or_else (number_fault q n) []) [])
    unfolding clap_on_literals
    rest_fault fn fd = rw (fn.0, fn.1, fn.2) (rw (fd.0, fd.1, fd.2) refl)

    end_fault : (so_far : Kinds) → ended so_far (at_end a b c e m n d p q) ≡ or_else so_far (or_else (number_fault r d) [])
    unfolding clap_on_literals
    end_fault so_far = refl

    module _ (fa : IsNoFlag a) (fb : IsNoFlag b) (fc : IsNoFlag c) (fe : IsNoFlag e) (fm : IsNoFlag m) (fn : IsNoFlag n) (fd : IsNoFlag d) where
      all_walked : fold stepped (walk_from nothing_held) (a ∷ b ∷ c ∷ e ∷ codes "-r" ∷ m ∷ rest) ≡ at_end a b c e m n d p q
      all_walked =
          ap (λ w. fold stepped w (c ∷ e ∷ codes "-r" ∷ m ∷ rest)) (two_walked fa fb)
          ∙ ap (λ w. fold stepped w (codes "-r" ∷ m ∷ rest)) (four_walked fc fe)
          ∙ ap (λ w. fold stepped w rest) (registers_walked fm)
          ∙ rest_walked fn fd

      all_well : walk_fault shape [] (walk_from nothing_held) (a ∷ b ∷ c ∷ e ∷ codes "-r" ∷ m ∷ rest) ≡ or_else (or_else (number_fault p m) []) (or_else (or_else (number_fault q n) []) [])
      all_well =
          two_fault fa fb (c ∷ e ∷ codes "-r" ∷ m ∷ rest) ∙ ap (λ w. walk_fault shape [] w (c ∷ e ∷ codes "-r" ∷ m ∷ rest)) (two_walked fa fb)
          ∙ four_fault fc fe (codes "-r" ∷ m ∷ rest) ∙ ap (λ w. walk_fault shape [] w (codes "-r" ∷ m ∷ rest)) (four_walked fc fe)
          ∙ registers_fault fm rest ∙ ap (λ w. walk_fault shape [] w rest) (registers_walked fm)
          ∙ rest_fault fn fd

      all_fault : fault_of (pbuild_with p q r) (codes "pbuild" ∷ a ∷ b ∷ c ∷ e ∷ codes "-r" ∷ m ∷ rest)
          ≡ or_else (or_else (or_else (number_fault p m) []) (or_else (or_else (number_fault q n) []) [])) (or_else (number_fault r d) [])
      all_fault = ap₂ ended all_well all_walked ∙ end_fault (or_else (or_else (number_fault p m) []) (or_else (or_else (number_fault q n) []) []))

      all_fits : FitsNumbers m n d (codes "pbuild" ∷ a ∷ b ∷ c ∷ e ∷ codes "-r" ∷ m ∷ rest) p q r
      all_fits = ap is_empty all_fault ∙ all_empty (number_fault p m) (number_fault q n) (number_fault r d)
          ∙ ap₂ (λ x y. x && y) (number_fault_by p m (accepts false p m) refl) (ap₂ (λ x y. x && y) (number_fault_by q n (accepts false q n) refl) (number_fault_by r d (accepts false r d) refl))

      all_finds : FindsNumbers a b c e m n d (codes "pbuild" ∷ a ∷ b ∷ c ∷ e ∷ codes "-r" ∷ m ∷ rest) p q r
      all_finds = record {
        source = ap (λ w. first_of (codes "source") (finished shape.rules w.held)) all_walked;
        first = ap (λ w. first_of (codes "first") (finished shape.rules w.held)) all_walked;
        ports = ap (λ w. first_of (codes "ports") (finished shape.rules w.held)) all_walked;
        image = ap (λ w. first_of (codes "image") (finished shape.rules w.held)) all_walked;
        registers = ap (λ w. one_of (codes "registers") (finished shape.rules w.held)) all_walked;
        budget = ap (λ w. one_of (codes "budget") (finished shape.rules w.held)) all_walked;
        steps = ap (λ w. one_of (codes "steps") (finished shape.rules w.held)) all_walked;
      }

-- the usual numbers, where none is given
usual : (a b c e : Text) → pbuild_of (finished (built pbuild_app).top.rules (behind_four a b c e).held) ≡ Some (ToPbuild a b c e 1 200000 1000000)
unfolding clap_on_literals
usual a b c e = refl

names : (a b c e : Text) → IsNoFlag a → IsNoFlag b → IsNoFlag c → IsNoFlag e → pbuild_of (matches_of pbuild_app (codes "pbuild" ∷ a ∷ b ∷ c ∷ e ∷ [])) ≡ Some (ToPbuild a b c e 1 200000 1000000)
names a b c e fa fb fc fe =
    ap (λ w. pbuild_of (finished (built pbuild_app).top.rules w.held)) (ap (λ w. fold step w (c ∷ e ∷ [])) (two_walked p q r a b c e [] [] [] fa fb) ∙ four_walked p q r a b c e [] [] [] fc fe)
    ∙ usual a b c e
  where
    p : ValueParser
    p = parser.Unsigned 1 greatest_registers

    q : ValueParser
    q = parser.Unsigned 1 greatest_budget

    r : ValueParser
    r = parser.Unsigned 1 greatest_steps

    step : Walk → Text → Walk
    step = walked (built pbuild_app).top.rules []

pub pbuild_four_names : PbuildsFourNames
unfolding asked_to
pbuild_four_names a b pa pb c e pc pe =
    rw (taken a b c e (no_flag a pa) (no_flag b pb) (no_flag c pc) (no_flag e pe)) (names a b c e (no_flag a pa) (no_flag b pb) (no_flag c pc) (no_flag e pe))

pub pbuild_all_numbers : PbuildsWithAll
pbuild_all_numbers a b pa pb c e pc pe m n pm pn d pd =
    let fa = no_flag a pa in
    let fb = no_flag b pb in
    let fc = no_flag c pc in
    let fe = no_flag e pe in
    let fm = no_flag m pm in
    let fn = no_flag n pn in
    let fd = no_flag d pd in
    all_numbers a b c e m n d (codes "pbuild" ∷ a ∷ b ∷ c ∷ e ∷ codes "-r" ∷ m ∷ codes "--budget" ∷ n ∷ codes "--steps" ∷ d ∷ [])
    (λ p q r. all_fits p q r a b c e m n d fa fb fc fe fm fn fd) (λ p q r. all_finds p q r a b c e m n d fa fb fc fe fm fn fd) refl
