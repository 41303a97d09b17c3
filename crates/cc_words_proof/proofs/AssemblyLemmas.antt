-- What `clap` makes of the words of `asm`, `dis` and `gen`.
use Rattle.std.proofs.Common.{◌≡◌, ◌∙◌, Bool, true, false, refl, ap, List, [], ◌∷◌, Some, None, codes, cond}
use Rattle.std.specs.Prelude.{option_and_then, option_map}
use Rattle.std.specs.Str.Parse.{digits_value, without_leading_plus}
use Rattle.clap.specs.Words.{App, Text, fault_of, matches_of, one_of, reading_of, new_app, with_rule}
use Rattle.clap.specs.declared.builder.value_parser.ValueParser.{ValueParser}
use Rattle.clap.specs.declared.builder.value_parser.ValueParser.TheVariants as parser
use Rattle.clap.specs.declared.builder.value_parser.Reading.TheVariants as reading
use Rattle.clap.specs.Kinds.{or_else}
use Rattle.clap.specs.Walk.{is_empty}
use Rattle.clap.proofs.OnLiterals.{clap_on_literals}
use Rattle.cc_words.specs.Asked.{ToAssemble, ToGenerate, ToList, asked, asked_to, asked_to_assemble, asked_to_generate, asked_to_list, asm_of, dis_of, gen_of, is_number_to, is_plain_word, is_taken, number_to}
use Rattle.cc_words.specs.Commands.{asm_app, count_rule, dis_app, gen_app, greatest_program}
use Rattle.cc_words_proof.specs.Plain.{AssemblesNoOtherNames, GeneratesOneNumber, ListsNoOtherNames}
use Rattle.cc_words_proof.proofs.PlainLemmas.{IsNoFlag, no_flag, number_fault, number_fault_by, number_in, or_nothing}

-- `asm` of two names, of fewer, and of more
asm_taken : (a b : Text) → IsNoFlag a → IsNoFlag b → is_taken asm_app (codes "asm" ∷ a ∷ b ∷ []) ≡ true
unfolding clap_on_literals
asm_taken a b fa fb = rw (fa.0, fa.1, fa.2, fb.0, fb.1, fb.2) refl

asm_names : (a b : Text) → IsNoFlag a → IsNoFlag b → asm_of (matches_of asm_app (codes "asm" ∷ a ∷ b ∷ [])) ≡ Some (ToAssemble a b)
unfolding clap_on_literals
asm_names a b fa fb = rw (fa.0, fa.1, fa.2, fb.0, fb.1, fb.2) refl

pub asm_two_names : (a b : Text) → is_plain_word a ≡ true → is_plain_word b ≡ true → asked (codes "asm" ∷ a ∷ b ∷ []) ≡ Some (ToAssemble a b)
unfolding asked_to
asm_two_names a b pa pb = rw (asm_taken a b (no_flag a pa) (no_flag b pb)) (asm_names a b (no_flag a pa) (no_flag b pb))

asm_not_taken : (words : List Text) → is_taken asm_app words ≡ false → asked_to_assemble words ≡ None
unfolding asked_to
asm_not_taken words e = ap (λ b. cond b (asm_of (matches_of asm_app words)) None) e

asm_no_names : is_taken asm_app (codes "asm" ∷ []) ≡ false
unfolding clap_on_literals
asm_no_names = refl

asm_one_name : (a : Text) → IsNoFlag a → is_taken asm_app (codes "asm" ∷ a ∷ []) ≡ false
unfolding clap_on_literals
asm_one_name a fa = rw (fa.0, fa.1, fa.2) refl

asm_more_names : (a b c : Text) (rest : List Text) → IsNoFlag a → IsNoFlag b → IsNoFlag c → is_taken asm_app (codes "asm" ∷ a ∷ b ∷ c ∷ rest) ≡ false
unfolding clap_on_literals
asm_more_names a b c rest fa fb fc = rw (fa.0, fa.1, fa.2, fb.0, fb.1, fb.2, fc.0, fc.1, fc.2) refl

pub asm_other_names : AssemblesNoOtherNames
asm_other_names = (
  asm_not_taken (codes "asm" ∷ []) asm_no_names,
  λ a pa. asm_not_taken (codes "asm" ∷ a ∷ []) (asm_one_name a (no_flag a pa)),
  λ a b pa pb c rest pc. asm_not_taken (codes "asm" ∷ a ∷ b ∷ c ∷ rest) (asm_more_names a b c rest (no_flag a pa) (no_flag b pb) (no_flag c pc)),
)

-- `dis` of one name, of none, and of more
dis_taken : (a : Text) → IsNoFlag a → is_taken dis_app (codes "dis" ∷ a ∷ []) ≡ true
unfolding clap_on_literals
dis_taken a fa = rw (fa.0, fa.1, fa.2) refl

dis_name : (a : Text) → IsNoFlag a → dis_of (matches_of dis_app (codes "dis" ∷ a ∷ [])) ≡ Some (ToList a)
unfolding clap_on_literals
dis_name a fa = rw (fa.0, fa.1, fa.2) refl

pub dis_one_name : (a : Text) → is_plain_word a ≡ true → asked (codes "dis" ∷ a ∷ []) ≡ Some (ToList a)
unfolding asked_to
dis_one_name a pa = rw (dis_taken a (no_flag a pa)) (dis_name a (no_flag a pa))

dis_not_taken : (words : List Text) → is_taken dis_app words ≡ false → asked_to_list words ≡ None
unfolding asked_to
dis_not_taken words e = ap (λ b. cond b (dis_of (matches_of dis_app words)) None) e

dis_no_name : is_taken dis_app (codes "dis" ∷ []) ≡ false
unfolding clap_on_literals
dis_no_name = refl

dis_more_names : (a b : Text) (rest : List Text) → IsNoFlag a → IsNoFlag b → is_taken dis_app (codes "dis" ∷ a ∷ b ∷ rest) ≡ false
unfolding clap_on_literals
dis_more_names a b rest fa fb = rw (fa.0, fa.1, fa.2, fb.0, fb.1, fb.2) refl

pub dis_other_names : ListsNoOtherNames
dis_other_names = (
  dis_not_taken (codes "dis" ∷ []) dis_no_name,
  λ a b pa pb rest. dis_not_taken (codes "dis" ∷ a ∷ b ∷ rest) (dis_more_names a b rest (no_flag a pa) (no_flag b pb)),
)

-- `gen` with any parser of its number
abbrev gen_with : ValueParser → App
gen_with p = with_rule (new_app (codes "gen")) (record (count_rule (codes "number") greatest_program) { parser = Some p })

gen_fault : (m : Text) → IsNoFlag m → (p : ValueParser) → fault_of (gen_with p) (codes "gen" ∷ m ∷ []) ≡ or_else (number_fault p m) []
unfolding clap_on_literals
gen_fault m fm p = rw (fm.0, fm.1, fm.2) refl

gen_row : (m : Text) → IsNoFlag m → (p : ValueParser) → reading_of p ≡ reading.AsWritten → one_of (codes "number") (matches_of (gen_with p) (codes "gen" ∷ m ∷ [])) ≡ Some m
unfolding clap_on_literals
gen_row m fm p how = rw (fm.0, fm.1, fm.2, how) refl

pub gen_number : GeneratesOneNumber
unfolding asked_to
gen_number m pm = (yes, no)
  where
    words : List Text
    words = codes "gen" ∷ m ∷ []

    parses : ValueParser
    parses = parser.Unsigned 1 greatest_program

    by : (t : Bool) → is_number_to greatest_program m ≡ t → asked words ≡ cond t (gen_of (matches_of gen_app words)) None
    by t e = ap (λ u. cond u (gen_of (matches_of gen_app words)) None)
        (ap is_empty (gen_fault m (no_flag m pm) parses ∙ or_nothing (number_fault parses m)) ∙ number_fault_by parses m t e)

    yes : is_number_to greatest_program m ≡ true → asked words ≡ Some (ToGenerate (digits_value 10 (without_leading_plus m)))
    yes e = by true e ∙ ap (option_map ToGenerate) (ap (option_and_then (number_to greatest_program)) (gen_row m (no_flag m pm) parses refl) ∙ number_in greatest_program m e)

    no : is_number_to greatest_program m ≡ false → asked words ≡ None
    no e = by false e

gen_not_taken : (words : List Text) → is_taken gen_app words ≡ false → asked_to_generate words ≡ None
unfolding asked_to
gen_not_taken words e = ap (λ b. cond b (gen_of (matches_of gen_app words)) None) e

none_taken : is_taken gen_app (codes "gen" ∷ []) ≡ false
unfolding clap_on_literals
none_taken = refl

pub gen_no_number : asked (codes "gen" ∷ []) ≡ None
gen_no_number = gen_not_taken (codes "gen" ∷ []) none_taken
