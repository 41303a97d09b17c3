-- Directives of kept lines, by what is read of them.
use Rattle.std.proofs.Common.{arith, ◌≡◌, ℕ, ◌+◌, ◌-◌, ◌≤◌, Bool, not, is_some, List, [], length, Option, Some, None, Result, Ok, Err, sym, ap, ◌∙◌, subst, length-append, inl, inr}
use Rattle.std.specs.Prelude.{◌⊎◌, OnOk, IfErr}
use Rattle.std.specs.List.{concat}
use Rattle.c_syntax.specs.declared.token.TokenKind.{TokenKind}
use Rattle.c_lexer.specs.declared.fault.LexFault.{LexFault}
use Rattle.c_macro.specs.declared.fault.MacroFault.{MacroFault}
use Rattle.c_macro.specs.declared.fault.MacroFault.TheVariants as faults
use Rattle.c_macro.specs.declared.verb.Verb.{Verb}
use Rattle.c_macro.specs.declared.verb.Verb.TheVariants as verbs
use Rattle.c_macro.specs.Directives.{IsNamed, IsLoneName, OpensParenthesis, HasNoForm}
use Rattle.c_macro.specs.Sections.{Section, opened, turned, closed}
use Rattle.c_macro.specs.Expands.{State, with_sections, in_sections, Defines, Flawed, Obeys, OfAlone, OfPragma, OfDefine, OfIfdef, OfIfndef, OfElse, OfEndif, OfNoForm}
use Rattle.c_macro.specs.Views.{IsBody, IsFlawedBody}
use Rattle.c_macro.proofs.OneDirective.{named_one}

pub no_name_no_form : (rest : List ℕ) → ((at : ℕ) (name behind : List ℕ) → IsNamed rest at name behind → ⊥) → HasNoForm verbs.Define rest
no_name_no_form rest none at name behind named = absurd (none at name behind named)

pub parenthesis_no_form : (rest : List ℕ) (at : ℕ) (name behind : List ℕ) → IsNamed rest at name behind → OpensParenthesis behind → HasNoForm verbs.Define rest
parenthesis_no_form rest at name behind named opens other_at other more other_named =
    subst OpensParenthesis (named_one rest at other_at name other behind more named other_named).same_rest opens

-- ---- what a call's result says, and what follows from it
pub on_ok : {A B : Type 0} {T E : Type 0} (r : Result T E) → (A → B) → OnOk r A → OnOk r B
on_ok (Ok x) f a = f a
on_ok (Err e) f a = tt {0}

pub if_err : {T E : Type 0} {P Q : E → Type 0} (r : Result T E) → ((e : E) → P e → Q e) → IfErr r P → IfErr r Q
if_err (Ok x) f p = tt {0}
if_err (Err e) f p = f e p

pub or_memory : {A B : Type 0} {fault : MacroFault} → (A → B) → (fault ≡ faults.NoMemory) ⊎ A → (fault ≡ faults.NoMemory) ⊎ B
or_memory f (inl memory) = inl memory
or_memory f (inr a) = inr (f a)

-- ---- `#define`

module _ (s : State) (hash at : ℕ) (rest : List ℕ) (name_at : ℕ) (name behind : List ℕ) (named : IsNamed rest name_at name behind) (none : OpensParenthesis behind → ⊥) where
  abbrev body_at : ℕ
  body_at = at + length rest - length behind

  placed : body_at + length behind ≡ at + length rest
  placed =
      let shorter : length behind ≤ length rest = omega (
        arith,
        ap length named.blanks.cut,
        length-append (concat named.blanks.blanks) named.after,
        ap length named.run.front,
        length-append name behind,
      ) in
      omega (arith, shorter)

  pub define_flawed : (comment : Option LexFault) (fault : MacroFault) → IsFlawedBody behind (at + length rest) fault
      → (fault ≡ faults.NoMemory) ⊎ Obeys s hash at rest comment verbs.Define (Err fault)
  define_flawed comment fault (inl memory) = inl memory
  define_flawed comment fault (inr flawed) =
      let read = flawed.2 body_at placed in
      inr (subst (λ f. Obeys s hash at rest comment verbs.Define (Err f)) (sym flawed.1)
      (OfDefine name_at name behind body_at read.0 (Some flawed.0) (Err (faults.Lex flawed.0)) named none placed read.1 (Flawed flawed.0)))

  pub define_open : (comment : Option LexFault) (body : List TokenKind) (fault : LexFault) → comment ≡ Some fault → IsBody behind (at + length rest) body
      → Obeys s hash at rest comment verbs.Define (Err (faults.Lex fault))
  define_open comment body fault e is =
      let read = is body_at placed in
      subst (λ c. Obeys s hash at rest c verbs.Define (Err (faults.Lex fault))) (sym e)
      (OfDefine name_at name behind body_at read.0 None (Err (faults.Lex fault)) named none placed read.1 (Flawed fault))

  pub define_done : (comment : Option LexFault) (body : List TokenKind) (result : Result State MacroFault) → comment ≡ None → IsBody behind (at + length rest) body
      → Defines s (at + name_at) name body None result → Obeys s hash at rest comment verbs.Define result
  define_done comment body result e is defines =
      let read = is body_at placed in
      subst (λ c. Obeys s hash at rest c verbs.Define result) (sym e)
      (OfDefine name_at name behind body_at read.0 None result named none placed read.1 (subst (λ b. Defines s (at + name_at) name b None result) read.2 defines))

-- ---- the other directives, whose verb is known

module _ (s : State) (hash at : ℕ) (rest : List ℕ) (comment : Option LexFault) (verb : Verb) where
  at_verb : (v : Verb) (result : Result State MacroFault) → v ≡ verb → Obeys s hash at rest comment v result → Obeys s hash at rest comment verb result
  at_verb v result e obeys = subst (λ w. Obeys s hash at rest comment w result) e obeys

  pub no_form : (v : Verb) (fault : MacroFault) → v ≡ verb → fault ≡ faults.Directive hash → HasNoForm v rest → Obeys s hash at rest comment verb (Err fault)
  no_form v fault e is none = at_verb v (Err fault) e (subst (λ f. Obeys s hash at rest comment v (Err f)) (sym is) (OfNoForm v none))

  pub alone_done : verbs.Alone ≡ verb → rest ≡ [] → Obeys s hash at rest comment verb (Ok s)
  alone_done e nothing = at_verb verbs.Alone (Ok s) e (OfAlone nothing)

  pub pragma_done : verbs.Pragma ≡ verb → Obeys s hash at rest comment verb (Ok s)
  pragma_done e = at_verb verbs.Pragma (Ok s) e OfPragma

  pub ifdef_done : (is_defined : Bool) (sections : List Section) → verbs.Ifdef ≡ verb → (name : List ℕ) × IsLoneName rest name × (is_defined ≡ is_some (s.table name))
      → sections ≡ opened hash is_defined s.sections → Obeys s hash at rest comment verb (Ok (with_sections sections s))
  ifdef_done is_defined sections e tested is =
      at_verb verbs.Ifdef (Ok (with_sections sections s)) e
      (subst (λ l. Obeys s hash at rest comment verbs.Ifdef (Ok (with_sections l s))) (sym (is ∙ ap (λ b. opened hash b s.sections) tested.2)) (OfIfdef tested.0 tested.1))

  pub ifndef_done : (is_defined : Bool) (sections : List Section) → verbs.Ifndef ≡ verb → (name : List ℕ) × IsLoneName rest name × (is_defined ≡ is_some (s.table name))
      → sections ≡ opened hash (not is_defined) s.sections → Obeys s hash at rest comment verb (Ok (with_sections sections s))
  ifndef_done is_defined sections e tested is =
      at_verb verbs.Ifndef (Ok (with_sections sections s)) e
      (subst (λ l. Obeys s hash at rest comment verbs.Ifndef (Ok (with_sections l s))) (sym (is ∙ ap (λ b. opened hash (not b) s.sections) tested.2)) (OfIfndef tested.0 tested.1))

  pub else_done : (sections : List Section) → verbs.Else ≡ verb → turned hash s.sections ≡ Ok sections → Obeys s hash at rest comment verb (Ok (with_sections sections s))
  else_done sections e is = at_verb verbs.Else (Ok (with_sections sections s)) e (OfElse (Ok (with_sections sections s)) (ap (in_sections s) is))

  pub else_fault : (fault : MacroFault) → verbs.Else ≡ verb → turned hash s.sections ≡ Err fault → Obeys s hash at rest comment verb (Err fault)
  else_fault fault e is = at_verb verbs.Else (Err fault) e (OfElse (Err fault) (ap (in_sections s) is))

  pub endif_done : (sections : List Section) → verbs.Endif ≡ verb → closed hash s.sections ≡ Ok sections → Obeys s hash at rest comment verb (Ok (with_sections sections s))
  endif_done sections e is = at_verb verbs.Endif (Ok (with_sections sections s)) e (OfEndif (Ok (with_sections sections s)) (ap (in_sections s) is))

  pub endif_fault : (fault : MacroFault) → verbs.Endif ≡ verb → closed hash s.sections ≡ Err fault → Obeys s hash at rest comment verb (Err fault)
  endif_fault fault e is = at_verb verbs.Endif (Err fault) e (OfEndif (Err fault) (ap (in_sections s) is))
