-- What `clap` makes of the words of `pre`.
use Rattle.std.proofs.Common.{◌≡◌, true, false, refl, ap, List, [], ◌∷◌, Some, None, codes, cond}
use Rattle.clap.specs.Words.{Text, matches_of}
use Rattle.clap.proofs.OnLiterals.{clap_on_literals}
use Rattle.cc_words.specs.Asked.{ToExpand, asked_to, asked_to_expand, is_taken, pre_of}
use Rattle.cc_words.specs.Commands.{pre_app}
use Rattle.cc_words_proof.specs.Plain.{ExpandsNoOtherNames, ExpandsTwoNames}
use Rattle.cc_words_proof.proofs.PlainLemmas.{IsNoFlag, no_flag}

-- `pre` of two names, of fewer, and of more
taken : (a b : Text) → IsNoFlag a → IsNoFlag b → is_taken pre_app (codes "pre" ∷ a ∷ b ∷ []) ≡ true
unfolding clap_on_literals
taken a b fa fb = rw (fa.0, fa.1, fa.2, fb.0, fb.1, fb.2) refl

names : (a b : Text) → IsNoFlag a → IsNoFlag b → pre_of (matches_of pre_app (codes "pre" ∷ a ∷ b ∷ [])) ≡ Some (ToExpand a b)
unfolding clap_on_literals
names a b fa fb = rw (fa.0, fa.1, fa.2, fb.0, fb.1, fb.2) refl

pub pre_two_names : ExpandsTwoNames
unfolding asked_to
pre_two_names a b pa pb = rw (taken a b (no_flag a pa) (no_flag b pb)) (names a b (no_flag a pa) (no_flag b pb))

not_taken : (words : List Text) → is_taken pre_app words ≡ false → asked_to_expand words ≡ None
unfolding asked_to
not_taken words e = ap (λ b. cond b (pre_of (matches_of pre_app words)) None) e

no_name : is_taken pre_app (codes "pre" ∷ []) ≡ false
unfolding clap_on_literals
no_name = refl

one_name : (a : Text) → IsNoFlag a → is_taken pre_app (codes "pre" ∷ a ∷ []) ≡ false
unfolding clap_on_literals
one_name a fa = rw (fa.0, fa.1, fa.2) refl

more_names : (a b c : Text) (rest : List Text) → IsNoFlag a → IsNoFlag b → IsNoFlag c → is_taken pre_app (codes "pre" ∷ a ∷ b ∷ c ∷ rest) ≡ false
unfolding clap_on_literals
more_names a b c rest fa fb fc = rw (fa.0, fa.1, fa.2, fb.0, fb.1, fb.2, fc.0, fc.1, fc.2) refl

pub pre_other_names : ExpandsNoOtherNames
pre_other_names = (
  not_taken (codes "pre" ∷ []) no_name,
  λ a pa. not_taken (codes "pre" ∷ a ∷ []) (one_name a (no_flag a pa)),
  λ a b pa pb c rest pc. not_taken (codes "pre" ∷ a ∷ b ∷ c ∷ rest) (more_names a b c rest (no_flag a pa) (no_flag b pb) (no_flag c pc)),
)
