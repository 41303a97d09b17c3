-- How lists lead on at a comma, and end.
use Rattle.std.proofs.Common.{◌≡◌, ◌≢◌, List, Some, sym, subst}
use Rattle.c_syntax.specs.declared.token.Token.{Token}
use Rattle.c_syntax.specs.declared.token.Punct.{Punct}
use Rattle.c_syntax.specs.declared.token.Punct.TheVariants as mark
use Rattle.c_syntax.proofs.Rows.Fronts.{CommaMark, mark_sort}
use Rattle.c_cursor.specs.Front.{behind, mark_at}
use Rattle.c_expressions.specs.Fronts.{NoFront, OnlyTo, Then}
use Rattle.c_declarations.specs.DeclarationFronts.{MoreOf, Ended, GoesOn, EndsAt}
use Rattle.c_declarations.proofs.FrontLemmas.{mark_found, one_leads, LeadsOn}
use Rattle.c_declarations.proofs.FrontMarks.{other_mark}

-- at a comma a list goes on
comma_on : {End Many : List Token → List Token → Type 0} {n m after : List Token} → mark_at n ≡ Some mark.Comma → ((a : List Token) → End n a → ⊥) → m ≡ behind n → MoreOf End Many n after → Many m after
comma_on {after = after} e no_end h (Ended d) = absurd (no_end after d)
comma_on {Many = Many} {after = after} e no_end h (GoesOn t) = subst (λ l. Many l after) ((one_leads h).same t.middle t.first) t.second

pub next_fails : {End Many X : List Token → List Token → Type 0} {n m : List Token} → mark_at n ≡ Some mark.Comma → ((a : List Token) → End n a → ⊥) → m ≡ behind n
    → ((after : List Token) → Many m after → Then X (MoreOf End Many) m after) → NoFront X m → NoFront (MoreOf End Many) n
next_fails e no_end h ways n = record { never = λ after r. let t = ways after (comma_on e no_end h r) in n.never t.middle t.first }

pub next_leads : {R End Many X : List Token → List Token → Type 0} {b n m p : List Token} → LeadsOn R (MoreOf End Many) b n → mark_at n ≡ Some mark.Comma → ((a : List Token) → End n a → ⊥) → m ≡ behind n
    → ((after : List Token) → Many m after → Then X (MoreOf End Many) m after) → OnlyTo X m p → LeadsOn R (MoreOf End Many) b p
next_leads {End = End} {Many = Many} l e no_end h ways o = record {
  on = λ after r.
      let t = ways after (comma_on e no_end h (l.on after r)) in
      subst (λ v. MoreOf End Many v after) (o.same t.middle t.first) t.second;
}

pub no_comma_ends : {End Many : List Token → List Token → Type 0} {n e : List Token} → mark_at n ≢ Some mark.Comma → ((after : List Token) → End n after → after ≡ e) → (after : List Token) → MoreOf End Many n after → after ≡ e
no_comma_ends n f after (Ended d) = f after d
no_comma_ends n f after (GoesOn t) = absurd (n (mark_found mark.Comma _ t.middle t.first))

pub list_ends : {m : Punct} {Many : List Token → List Token → Type 0} {n : List Token} → mark_at n ≢ Some mark.Comma → OnlyTo (MoreOf (EndsAt m) Many) n n
list_ends h = record { same = no_comma_ends h (λ after e. sym e.0) }

-- a comma is no other mark
pub no_end : (m : Punct) → CommaMark ≢ mark_sort m → {n : List Token} → mark_at n ≡ Some mark.Comma → (a : List Token) → EndsAt m n a → ⊥
no_end m d {n = n} e a h = other_mark n mark.Comma m d e h.1

-- the first of a list, and the others with what stands behind them
pub list_then_fails : {End Many X S : List Token → List Token → Type 0} {b m : List Token} → ((after : List Token) → Many b after → Then X (MoreOf End Many) b after) → OnlyTo X b m → NoFront (Then (MoreOf End Many) S) m → NoFront (Then Many S) b
list_then_fails {End = End} {Many = Many} ways o n = record {
  never = λ after t.
      let u = ways t.middle t.first in
      n.never after (record { middle = t.middle; first = subst (λ v. MoreOf End Many v t.middle) (o.same u.middle u.first) u.second; second = t.second });
}
