-- A kept line that is no directive: its tokens are read and answered one after another.
use Rattle.std.proofs.Common.{◌≡◌, ℕ, ◌+◌, ◌≤◌, List, [], ◌∷◌, ◌++◌, length, None, Ok, Err, refl, sym, ap, ◌∙◌, subst, append_assoc, append-nil, inl, inr}
use Rattle.std.proofs.lemmas.Grind.{flat_map-append}
use Rattle.c_syntax.specs.declared.token.Token.{Token}
use Rattle.c_macro.specs.declared.fault.MacroFault.{MacroFault}
use Rattle.indexmap.specs.IndexMap.{index_map_len}
use Rattle.c_macro.specs.declared.macros.Macros.{Macros}
use Rattle.c_macro.specs.declared.output.Output as output
use Rattle.c_macro.specs.declared.reader.Reader.{Reader}
use Rattle.c_macro.specs.declared.expander.Expander.{Expander}
use Rattle.c_macro.specs.Lines.{IsReadTo, IsRead}
use Rattle.c_macro.specs.Macros.{Table, Step, steps, most_macros, taken}
use Rattle.c_macro.specs.Expands.{steps_of}
use Rattle.c_macro.specs.Views.{IsFlawed}
use Rattle.c_macro.specs.Expanding.{output_of, TakesTo, StopsOn, IsIdle, state_of, StopsInText}
use Rattle.c_macro.proofs.ReadingLemmas.{Reads, read_nothing, read_all}

-- up to a rest the tokens of a line are read and answered
pub record Answered (first : output.Output) (table : Table) (at : ℕ) (line rest : List ℕ) (out : output.Output) : Type 0 where
  pub tokens : List Token
  pub read : IsReadTo at line tokens rest
  pub takes : TakesTo first (steps_of table tokens) out

pub answered_none : (out : output.Output) (table : Table) (at : ℕ) (line : List ℕ) → Answered out table at line line out
answered_none out table at line = record { tokens = []; read = read_nothing at line; takes = λ more. refl }

steps_more : (table : Table) (tokens : List Token) (t : Token) → steps_of table (tokens ++ t ∷ []) ≡ steps_of table tokens ++ steps most_macros table t
steps_more table tokens t =
    flat_map-append (steps most_macros table) tokens (t ∷ []) ∙ ap (λ l. steps_of table tokens ++ l) (append-nil (steps most_macros table t))

module _ (first : output.Output) (table : Table) (end at : ℕ) (line old new : List ℕ) (out : output.Output) (a : Answered first table at line old out) (t : Token)
    (ends : at + length line ≡ end) (reads : Reads end old new (t ∷ [])) where
  pub answered_more : (next : output.Output) → TakesTo out (steps most_macros table t) next → Answered first table at line new next
  answered_more next takes = record {
    tokens = a.tokens ++ t ∷ [];
    read = reads at line a.tokens ends a.read;
    takes = λ more.
        ap (λ l. taken (output_of first) (l ++ more)) (steps_more table a.tokens t)
        ∙ ap (taken (output_of first)) (append_assoc (steps_of table a.tokens) (steps most_macros table t) more)
        ∙ a.takes (steps most_macros table t ++ more)
        ∙ takes more;
  }

  pub answered_stops : (fault : MacroFault) → ((more : List Step) → taken (output_of out) (steps most_macros table t ++ more) ≡ Err fault)
      → taken (output_of first) (steps_of table (a.tokens ++ t ∷ [])) ≡ Err fault
  answered_stops fault stops =
      ap (taken (output_of first)) (steps_more table a.tokens t)
      ∙ a.takes (steps most_macros table t)
      ∙ ap (taken (output_of out)) (sym (append-nil (steps most_macros table t)))
      ∙ stops []

pub answered_taken : (first : output.Output) (table : Table) (at : ℕ) (line rest : List ℕ) (out : output.Output) (a : Answered first table at line rest out)
    → taken (output_of first) (steps_of table a.tokens) ≡ Ok (output_of out)
answered_taken first table at line rest out a = ap (taken (output_of first)) (sym (append-nil (steps_of table a.tokens))) ∙ a.takes []

pub answered_all : (first : output.Output) (table : Table) (end at : ℕ) (line old new : List ℕ) (out : output.Output) (a : Answered first table at line old out)
    → at + length line ≡ end → Reads end old new [] → new ≡ []
    → (tokens : List Token) × IsRead at line tokens None × (taken (output_of first) (steps_of table tokens) ≡ Ok (output_of out))
answered_all first table end at line old new out a ends reads none = (
  a.tokens,
  read_all at line a.tokens new (subst (λ l. IsReadTo at line l new) (append-nil a.tokens) (reads at line a.tokens ends a.read)) none,
  answered_taken first table at line old out a,
)

-- no memory is left for the next token, or it is flawed
pub stops_flawed : (e : Expander) (at : ℕ) (line : List ℕ) (reader : Reader) (out : output.Output) (fault : MacroFault)
    → Answered e.replacer.output (state_of e).table at line reader.rest.now out → at + length line ≡ reader.end → IsFlawed reader fault → StopsInText e at line fault
stops_flawed e at line reader out fault a ends (inl memory) = inl memory
stops_flawed e at line reader out fault a ends (inr flawed) = inr (inl (record {
  lex = flawed.0;
  is = flawed.1;
  tokens = a.tokens;
  read = flawed.2 at line a.tokens ends a.read;
  more = output_of out;
  taken = answered_taken e.replacer.output (state_of e).table at line reader.rest.now out a;
}))

-- the next token passes a limit
pub stops_limit : (e : Expander) (at : ℕ) (line : List ℕ) (end : ℕ) (old new : List ℕ) (out : output.Output) (t : Token) (fault : MacroFault)
    → Answered e.replacer.output (state_of e).table at line old out → at + length line ≡ end → Reads end old new (t ∷ [])
    → StopsOn out (steps most_macros (state_of e).table t) fault → StopsInText e at line fault
stops_limit e at line end old new out t fault a ends reads (inl memory) = inl memory
stops_limit e at line end old new out t fault a ends reads (inr stops) = inr (inr (record {
  tokens = a.tokens ++ t ∷ [];
  rest = new;
  read = reads at line a.tokens ends a.read;
  stops = answered_stops e.replacer.output (state_of e).table end at line old new out a t ends reads fault stops;
}))

-- macros that are the same are idle alike
pub idle_same : (m n : Macros) → n.bodies ≡ m.bodies → n.busy.items ≡ m.busy.items → IsIdle m → IsIdle n
idle_same m n bodies busy idle = (subst (λ b. index_map_len b ≤ most_macros) (sym bodies) idle.0, busy ∙ idle.1)
