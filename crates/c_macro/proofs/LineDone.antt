-- A whole line, by what was done with it.
use Rattle.std.proofs.Common.{◌≡◌, ℕ, ◌+◌, true, false, List, Option, Result, Ok, Err, sym, ap, subst, inl, inr}
use Rattle.std.specs.Prelude.{◌⊎◌, OnOk}
use Rattle.c_lexer.specs.declared.fault.LexFault.{LexFault}
use Rattle.c_macro.specs.declared.fault.MacroFault.{MacroFault}
use Rattle.c_macro.specs.declared.fault.MacroFault.TheVariants as faults
use Rattle.c_macro.specs.declared.verb.Verb.{Verb}
use Rattle.c_macro.specs.declared.expander.Expander.{Expander}
use Rattle.c_macro.specs.Directives.{IsDirective, IsOther, verb_of}
use Rattle.c_macro.specs.Macros.{Output}
use Rattle.c_macro.specs.Sections.{Section, is_kept, passed}
use Rattle.c_macro.specs.Expands.{State, with_sections, in_sections, Obeys, with_output, LineDoes, KeptText, KeptFlaw, KeptLimit, KeptDirective, PassedDirective}
use Rattle.c_macro.specs.Expanding.{state_of, out_of, AnswersText, StopsInText}

pub on_both : {A B C : Type 0} {T E : Type 0} (r : Result T E) → (A → B → C) → OnOk r A → OnOk r B → OnOk r C
on_both (Ok x) f a b = f a b
on_both (Err e) f a b = tt {0}

module _ (s : State) (out : Output) (at : ℕ) (line : List ℕ) (comment : Option LexFault) where
  module _ (kept : is_kept s.sections ≡ true) (hash : ℕ) (word : List ℕ) (rest_at : ℕ) (rest : List ℕ) (d : IsDirective line hash word rest_at rest) where
    pub kept_done : (next : State) (more : Output) → Obeys s (at + hash) (at + rest_at) rest comment (verb_of word) (Ok next) → more ≡ out
        → LineDoes s out at line comment (Ok (next, more))
    kept_done next more obeys same =
        subst (λ o. LineDoes s out at line comment (Ok (next, o))) (sym same) (KeptDirective kept hash word rest_at rest d (Ok next) obeys)

    pub kept_fault : (fault : MacroFault) → Obeys s (at + hash) (at + rest_at) rest comment (verb_of word) (Err fault) → LineDoes s out at line comment (Err fault)
    kept_fault fault obeys = KeptDirective kept hash word rest_at rest d (Err fault) obeys

  module _ (kept : is_kept s.sections ≡ false) (hash : ℕ) (word : List ℕ) (rest_at : ℕ) (rest : List ℕ) (d : IsDirective line hash word rest_at rest) (verb : Verb) (is : verb ≡ verb_of word) where
    by_verb : (result : Result (List Section) MacroFault) → passed (at + hash) verb s.sections ≡ result → passed (at + hash) (verb_of word) s.sections ≡ result
    by_verb result e = subst (λ v. passed (at + hash) v s.sections ≡ result) is e

    pub passed_done : (sections : List Section) → passed (at + hash) verb s.sections ≡ Ok sections → LineDoes s out at line comment (Ok (with_sections sections s, out))
    passed_done sections e = PassedDirective kept hash word rest_at rest d _ (ap (λ r. with_output out (in_sections s r)) (by_verb (Ok sections) e))

    pub passed_fault : (fault : MacroFault) → passed (at + hash) verb s.sections ≡ Err fault → LineDoes s out at line comment (Err fault)
    passed_fault fault e = PassedDirective kept hash word rest_at rest d _ (ap (λ r. with_output out (in_sections s r)) (by_verb (Err fault) e))

module _ (old : Expander) (at : ℕ) (line : List ℕ) (comment : Option LexFault) (kept : is_kept (state_of old).sections ≡ true) (other : IsOther line) where
  pub text_done : (new : Expander) → state_of new ≡ state_of old → AnswersText old at line new → LineDoes (state_of old) (out_of old) at line comment (Ok (state_of new, out_of new))
  text_done new same answers =
      subst (λ s. LineDoes (state_of old) (out_of old) at line comment (Ok (s, out_of new))) (sym same)
      (KeptText kept other answers.0 answers.1 (out_of new) answers.2)

  pub text_fault : (fault : MacroFault) → StopsInText old at line fault → (fault ≡ faults.NoMemory) ⊎ LineDoes (state_of old) (out_of old) at line comment (Err fault)
  text_fault fault (inl memory) = inl memory
  text_fault fault (inr (inl f)) =
      inr (subst (λ e. LineDoes (state_of old) (out_of old) at line comment (Err e)) (sym f.is) (KeptFlaw kept other f.tokens f.lex f.read f.more f.taken))
  text_fault fault (inr (inr f)) = inr (KeptLimit kept other f.tokens f.rest f.read fault f.stops)
