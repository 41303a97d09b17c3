-- What `clap` makes of the words of `debug`.
use Rattle.std.proofs.Common.{◌≡◌, true, false, refl, ap, List, [], ◌∷◌, Some, None, codes, cond}
use Rattle.clap.specs.Words.{Text, matches_of}
use Rattle.clap.proofs.OnLiterals.{clap_on_literals}
use Rattle.cc_words.specs.Asked.{ToDebug, asked_to, asked_to_debug, debug_of, is_taken}
use Rattle.cc_words.specs.Commands.{debug_app}
use Rattle.cc_words_proof.specs.Plain.{DebugsNoOtherNames, DebugsThreeNames}
use Rattle.cc_words_proof.proofs.PlainLemmas.{IsNoFlag, no_flag}

-- `debug` of three names, of fewer, and of more
taken : (a b c : Text) → IsNoFlag a → IsNoFlag b → IsNoFlag c → is_taken debug_app (codes "debug" ∷ a ∷ b ∷ c ∷ []) ≡ true
unfolding clap_on_literals
taken a b c fa fb fc = rw (fa.0, fa.1, fa.2, fb.0, fb.1, fb.2, fc.0, fc.1, fc.2) refl

names : (a b c : Text) → IsNoFlag a → IsNoFlag b → IsNoFlag c → debug_of (matches_of debug_app (codes "debug" ∷ a ∷ b ∷ c ∷ [])) ≡ Some (ToDebug a b c)
unfolding clap_on_literals
names a b c fa fb fc = rw (fa.0, fa.1, fa.2, fb.0, fb.1, fb.2, fc.0, fc.1, fc.2) refl

pub debug_three_names : DebugsThreeNames
unfolding asked_to
debug_three_names a b pa pb c pc = rw (taken a b c (no_flag a pa) (no_flag b pb) (no_flag c pc)) (names a b c (no_flag a pa) (no_flag b pb) (no_flag c pc))

not_taken : (words : List Text) → is_taken debug_app words ≡ false → asked_to_debug words ≡ None
unfolding asked_to
not_taken words e = ap (λ b. cond b (debug_of (matches_of debug_app words)) None) e

no_name : is_taken debug_app (codes "debug" ∷ []) ≡ false
unfolding clap_on_literals
no_name = refl

one_name : (a : Text) → IsNoFlag a → is_taken debug_app (codes "debug" ∷ a ∷ []) ≡ false
unfolding clap_on_literals
one_name a fa = rw (fa.0, fa.1, fa.2) refl

two_names : (a b : Text) → IsNoFlag a → IsNoFlag b → is_taken debug_app (codes "debug" ∷ a ∷ b ∷ []) ≡ false
unfolding clap_on_literals
two_names a b fa fb = rw (fa.0, fa.1, fa.2, fb.0, fb.1, fb.2) refl

more_names : (a b c d : Text) (rest : List Text) → IsNoFlag a → IsNoFlag b → IsNoFlag c → IsNoFlag d → is_taken debug_app (codes "debug" ∷ a ∷ b ∷ c ∷ d ∷ rest) ≡ false
unfolding clap_on_literals
more_names a b c d rest fa fb fc fd = rw (fa.0, fa.1, fa.2, fb.0, fb.1, fb.2, fc.0, fc.1, fc.2, fd.0, fd.1, fd.2) refl

pub debug_other_names : DebugsNoOtherNames
debug_other_names = (
  not_taken (codes "debug" ∷ []) no_name,
  λ a pa. not_taken (codes "debug" ∷ a ∷ []) (one_name a (no_flag a pa)),
  λ a b pa pb. not_taken (codes "debug" ∷ a ∷ b ∷ []) (two_names a b (no_flag a pa) (no_flag b pb)),
  λ a b pa pb c d rest pc pd. not_taken (codes "debug" ∷ a ∷ b ∷ c ∷ d ∷ rest) (more_names a b c d rest (no_flag a pa) (no_flag b pb) (no_flag c pc) (no_flag d pd)),
)
