-- Tokens that are read as a tree by a row: rows that pass on, and forms between operands.
use Rattle.std.proofs.Common.{◌≡◌, ℕ, suc, ◌≤◌, Bool, true, false, List, ◌∷◌, ◌++◌, Some, refl, sym, ap, ◌∙◌, subst, arith, append_assoc}
use Rattle.c_syntax.specs.declared.token.Token.{Token}
use Rattle.c_syntax.specs.SyntaxTree.{Expression}
use Rattle.c_syntax.specs.Grammar.{Row, ExpressionRow, AssignmentRow, ConditionalRow, OrRow, AndRow, BitOrRow, BitXorRow, BitAndRow, EqualityRow, RelationRow, ShiftRow, SumRow, ProductRow, CastRow, UnaryRow, PostfixRow, PrimaryRow, tighter, place_of}
use Rattle.c_syntax.specs.Lookahead.{row_rank, Next, next_kind, next_of, next_rank, Ends, Goes, going_of, Start, CastStart, CallStart, StepStart, PrefixStart, SizeofValueStart, SizeofTypeStart, start_of, start_rank, row_start}
use Rattle.c_syntax.proofs.Parsing.Lookahead.{going_stops, going_goes}
use Rattle.c_syntax.proofs.Parsing.Begins.{Begins}
use Rattle.c_syntax.specs.Reads.{Reading, reading, or_primary, PassTo, Takes, cast_first, unary_first, postfix_first, first_of, Reads, Both, Starts, PassFirst, More, Stop}

-- the rows that join to the left
abbrev pub joins_left : Row → Bool
joins_left AssignmentRow = false
joins_left ConditionalRow = false
joins_left CastRow = false
joins_left UnaryRow = false
joins_left PrimaryRow = false
joins_left row = true

-- tokens are read as a tree, whatever stands behind them that doesn't go on with it
pub record IsRead (row : Row) (tokens : List Token) (tree : Expression) : Type 0 where
  pub unary : Bool
  pub is_unary : 15 ≤ row_rank row → unary ≡ true
  pub ends : (rest : List Token) → Ends row rest → Reads row (tokens ++ rest) (reading tree unary rest)
  -- and in a row that joins to the left with what goes on
  pub goes : joins_left row ≡ true → (rest : List Token) (all : Reading) → next_rank (next_of rest) ≤ row_rank row
      → More row (place_of tokens) (going_of row (next_of rest)) tree unary rest all → Reads row (tokens ++ rest) all

pub begins_place : (row : Row) (tokens : List Token) → Begins row tokens → (rest : List Token) → place_of (tokens ++ rest) ≡ place_of tokens
begins_place row tokens g rest = ap (λ l. place_of (l ++ rest)) g.is ∙ sym (ap place_of g.is)

pub stop_more : (row : Row) (at : ℕ) (left : Expression) (unary : Bool) (rest : List Token) → Ends row rest → More row at (going_of row (next_of rest)) left unary rest (reading left unary rest)
stop_more row at left unary rest h = subst (λ g. More row at g left unary rest (reading left unary rest)) (sym (going_stops row (next_of rest) h)) Stop

pub go_more : (row : Row) (at : ℕ) (next : Next) (left : Expression) (unary : Bool) (t : Token) (l : List Token) (all : Reading) → next_kind t.kind ≡ next → next_rank next ≡ row_rank row
    → More row at (Goes next) left unary (t ∷ l) all → More row at (going_of row (next_of (t ∷ l))) left unary (t ∷ l) all
go_more row at next left unary t l all k e m = subst (λ g. More row at g left unary (t ∷ l) all) (sym (ap (going_of row) k ∙ going_goes row next e)) m

-- ---- rows that pass on

pub row_bound : (row : Row) → row_rank row ≤ 17
row_bound ExpressionRow = omega arith
row_bound row = omega arith

pub tighter_rank : (row next : Row) → tighter row ≡ Some next → row_rank next ≡ suc (row_rank row)
tighter_rank PrimaryRow next e = absurd cc
tighter_rank row next e = sym (ap (λ o. row_rank (or_primary o)) e)

cast_passes : (start : Start) → start_rank start ≤ 2 → cast_first start ≡ PassTo UnaryRow
cast_passes CastStart le = absurd (omega arith)
cast_passes start le = refl

unary_passes : (start : Start) → start_rank start ≤ 1 → unary_first start ≡ PassTo PostfixRow
unary_passes (CallStart name) le = refl
unary_passes (StepStart up) le = absurd (omega arith)
unary_passes (PrefixStart operator) le = absurd (omega arith)
unary_passes SizeofValueStart le = absurd (omega arith)
unary_passes SizeofTypeStart le = absurd (omega arith)
unary_passes start le = refl

postfix_passes : (start : Start) → start_rank start ≤ 0 → postfix_first start ≡ PassTo PrimaryRow
postfix_passes (CallStart name) le = absurd (omega arith)
postfix_passes start le = refl

first_passes : (row next : Row) (start : Start) → tighter row ≡ Some next → start_rank start ≤ row_start next → first_of row start ≡ PassTo next
first_passes PrimaryRow next start e le = absurd cc
first_passes CastRow next start e le = let k : UnaryRow ≡ next = ap or_primary e in cast_passes start (subst (λ r. start_rank start ≤ row_start r) (sym k) le) ∙ ap PassTo k
first_passes UnaryRow next start e le = let k : PostfixRow ≡ next = ap or_primary e in unary_passes start (subst (λ r. start_rank start ≤ row_start r) (sym k) le) ∙ ap PassTo k
first_passes PostfixRow next start e le = let k : PrimaryRow ≡ next = ap or_primary e in postfix_passes start (subst (λ r. start_rank start ≤ row_start r) (sym k) le) ∙ ap PassTo k
first_passes row next start e le = ap (λ o. PassTo (or_primary o)) e

pub passed : (row next : Row) (input : List Token) (o all : Reading) → tighter row ≡ Some next → start_rank (start_of input) ≤ row_start next → Reads next input o
    → More row (place_of input) (going_of row (next_of o.rest)) o.tree o.unary o.rest all → Reads row input all
passed row next input o all e le r m = Both (subst (λ f. Starts row f input o) (sym (first_passes row next (start_of input) e le)) (PassFirst e r)) m

-- a form of the row's own
pub taken : (row : Row) (input : List Token) (start : Start) (o all : Reading) → start_of input ≡ start → first_of row start ≡ Takes start → Starts row (Takes start) input o
    → More row (place_of input) (going_of row (next_of o.rest)) o.tree o.unary o.rest all → Reads row input all
taken row input start o all e f s m = Both (subst (λ f. Starts row f input o) (sym (ap (first_of row) e ∙ f)) s) m

pub lift : (row next : Row) (input : List Token) (tree : Expression) (unary : Bool) (rest : List Token) → tighter row ≡ Some next → start_rank (start_of input) ≤ row_start next → Ends row rest
    → Reads next input (reading tree unary rest) → Reads row input (reading tree unary rest)
lift row next input tree unary rest e le h r = passed row next input (reading tree unary rest) (reading tree unary rest) e le r (stop_more row (place_of input) tree unary rest h)

-- a row that passes on
pub passes_read : (row next : Row) (tokens : List Token) (tree : Expression) → tighter row ≡ Some next → Begins next tokens → IsRead next tokens tree → IsRead row tokens tree
passes_read row next tokens tree e g r =
    let rank = tighter_rank row next e in
    let bound = row_bound row in
    record {
      unary = r.unary;
      is_unary = λ le. r.is_unary (omega arith);
      ends = λ rest h. lift row next (tokens ++ rest) tree r.unary rest e (g.start rest (omega arith)) h (r.ends rest (omega arith));
      goes = λ _ rest all h m.
          passed row next (tokens ++ rest) (reading tree r.unary rest) all e (g.start rest (omega arith)) (r.ends rest (omega arith))
          (subst (λ at. More row at (going_of row (next_of rest)) tree r.unary rest all) (sym (begins_place next tokens g rest)) m);
    }

-- a unary as the left of an assignment
pub unary_left : (input : List Token) (tree : Expression) (unary : Bool) (rest : List Token) → start_rank (start_of input) ≤ 2 → Ends ConditionalRow rest
    → Reads UnaryRow input (reading tree unary rest) → Reads ConditionalRow input (reading tree unary rest)
unary_left input tree unary rest le h r =
    let up = λ (row next : Row) (e : tighter row ≡ Some next) (k : start_rank (start_of input) ≤ row_start next) (f : Ends row rest). lift row next input tree unary rest e k f in
    up ConditionalRow OrRow refl (omega arith) h
    (up OrRow AndRow refl (omega arith) (omega arith)
    (up AndRow BitOrRow refl (omega arith) (omega arith)
    (up BitOrRow BitXorRow refl (omega arith) (omega arith)
    (up BitXorRow BitAndRow refl (omega arith) (omega arith)
    (up BitAndRow EqualityRow refl (omega arith) (omega arith)
    (up EqualityRow RelationRow refl (omega arith) (omega arith)
    (up RelationRow ShiftRow refl (omega arith) (omega arith)
    (up ShiftRow SumRow refl (omega arith) (omega arith)
    (up SumRow ProductRow refl (omega arith) (omega arith)
    (up ProductRow CastRow refl (omega arith) (omega arith)
    (up CastRow UnaryRow refl le (omega arith) r)))))))))))

-- ---- operands with a token between them: what is made of them has the place of the left one

module _ (row : Row) (a back : List Token) (t : Token) (next : Next) (left : Expression) (make : ℕ → Expression) (g : Begins row a) (k : next_kind t.kind ≡ next) (e : next_rank next ≡ row_rank row) where
  -- a row that joins to the left: what it does with the token and what stands behind
  abbrev Step : Bool → Type 0
  Step unary = (at : ℕ) (before : Bool) (rest : List Token) (all : Reading) → next_rank (next_of rest) ≤ row_rank row → More row at (going_of row (next_of rest)) (make at) unary rest all
      → More row at (Goes next) left before (t ∷ back ++ rest) all

  join_goes : (unary : Bool) → IsRead row a left → joins_left row ≡ true → Step unary → (rest : List Token) (all : Reading) → next_rank (next_of rest) ≤ row_rank row
      → More row (place_of (a ++ t ∷ back)) (going_of row (next_of rest)) (make (place_of (a ++ t ∷ back))) unary rest all → Reads row ((a ++ t ∷ back) ++ rest) all
  join_goes unary r is step rest all h m =
      let m' = subst (λ p. More row p (going_of row (next_of rest)) (make p) unary rest all) (begins_place row a g (t ∷ back)) m in
      let rank : next_rank (next_of (t ∷ back ++ rest)) ≤ row_rank row = subst (λ n. next_rank n ≤ row_rank row) (sym k) (omega arith) in
      subst (λ l. Reads row l all) (sym (append_assoc a (t ∷ back) rest))
      (r.goes is (t ∷ back ++ rest) all rank (go_more row (place_of a) next left r.unary t (back ++ rest) all k e (step (place_of a) r.unary rest all h m')))

  pub join_read : (unary : Bool) → (15 ≤ row_rank row → unary ≡ true) → IsRead row a left → joins_left row ≡ true → Step unary → IsRead row (a ++ t ∷ back) (make (place_of (a ++ t ∷ back)))
  join_read unary u r is step = record {
    unary = unary;
    is_unary = u;
    ends = λ rest h. join_goes unary r is step rest (reading (make (place_of (a ++ t ∷ back))) unary rest) (omega arith) (stop_more row (place_of (a ++ t ∷ back)) (make (place_of (a ++ t ∷ back))) unary rest h);
    goes = λ _. join_goes unary r is step;
  }

-- a row that reads its right side to the end
pub tail_read : (row next : Row) (a back : List Token) (t : Token) (op : Next) (left : Expression) (unary : Bool) (make : ℕ → Expression) → tighter row ≡ Some next → Begins next a → next_kind t.kind ≡ op
    → next_rank op ≡ row_rank row → row_rank row ≤ 3
    → ((rest : List Token) → Ends row rest → Reads next (a ++ (t ∷ back ++ rest)) (reading left unary (t ∷ back ++ rest)))
    → ((at : ℕ) (rest : List Token) → Ends row rest → More row at (Goes op) left unary (t ∷ back ++ rest) (reading (make at) false rest))
    → joins_left row ≡ false → IsRead row (a ++ t ∷ back) (make (place_of (a ++ t ∷ back)))
tail_read row next a back t op left unary make e g k rank small r step no_left = record {
  unary = false;
  is_unary = λ le. absurd (omega arith);
  ends = λ rest h.
      let place = begins_place next a g (t ∷ back) in
      let front = begins_place next a g (t ∷ back ++ rest) in
      let within : next_rank (next_kind t.kind) ≤ 17 = subst (λ n. next_rank n ≤ 17) (sym k) (omega arith) in
      subst (λ p. Reads row ((a ++ t ∷ back) ++ rest) (reading (make p) false rest)) (sym place)
      (subst (λ l. Reads row l (reading (make (place_of a)) false rest)) (sym (append_assoc a (t ∷ back) rest))
      (passed row next (a ++ (t ∷ back ++ rest)) (reading left unary (t ∷ back ++ rest)) (reading (make (place_of a)) false rest) e (g.start (t ∷ back ++ rest) within) (r rest h)
      (subst (λ p. More row p (going_of row (next_of (t ∷ back ++ rest))) left unary (t ∷ back ++ rest) (reading (make (place_of a)) false rest)) (sym front)
      (go_more row (place_of a) op left unary t (back ++ rest) (reading (make (place_of a)) false rest) k rank (step (place_of a) rest h)))));
  goes = λ is. let no : false ≡ true = sym no_left ∙ is in absurd cc;
}
