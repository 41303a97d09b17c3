-- What leads on from the front of the tokens, one part behind another, and what a refusal of a part tells of the whole.
use Rattle.std.proofs.Common.{◌≡◌, ◌≢◌, ◌++◌, ◌∷◌, List, Some, sym, ap, ◌∙◌, subst}
use Rattle.c_syntax.specs.declared.token.Token.{Token}
use Rattle.c_syntax.specs.declared.token.Punct.{Punct}
use Rattle.c_syntax.specs.declared.token.Keyword.{Keyword}
use Rattle.c_syntax.specs.Grammar.{IsMark, IsKeyword}
use Rattle.c_cursor.specs.Front.{behind, kind_mark, kind_word, mark_at, word_at}
use Rattle.c_expressions.specs.Fronts.{NoFront, OnlyTo, Then, One}
use Rattle.c_cursor.specs.Takes.{Takes, IsOne}

-- ---- one part behind another

pub first_fails : {R S : List Token → List Token → Type 0} {b : List Token} → NoFront R b → NoFront (Then R S) b
first_fails n = record { never = λ after t. n.never t.middle t.first }

pub second_fails : {R S : List Token → List Token → Type 0} {b m : List Token} → OnlyTo R b m → NoFront S m → NoFront (Then R S) b
second_fails {S = S} o n = record { never = λ after t. n.never after (subst (λ l. S l after) (o.same t.middle t.first) t.second) }

pub second_never : {R S : List Token → List Token → Type 0} {b : List Token} → ((m : List Token) → NoFront S m) → NoFront (Then R S) b
second_never n = record { never = λ after t. (n t.middle).never after t.second }

pub both_lead : {R S : List Token → List Token → Type 0} {b m e : List Token} → OnlyTo R b m → OnlyTo S m e → OnlyTo (Then R S) b e
both_lead {S = S} o p = record { same = λ after t. p.same after (subst (λ l. S l after) (o.same t.middle t.first) t.second) }

-- what one row leads to, another does
pub fails_as : {R S : List Token → List Token → Type 0} {b : List Token} → ((after : List Token) → R b after → S b after) → NoFront S b → NoFront R b
fails_as f n = record { never = λ after r. n.never after (f after r) }

pub leads_as : {R S : List Token → List Token → Type 0} {b e : List Token} → ((after : List Token) → R b after → S b after) → OnlyTo S b e → OnlyTo R b e
leads_as f o = record { same = λ after r. o.same after (f after r) }

-- ---- one token

pub one_leads : {P : Token → Type 0} {b e : List Token} → e ≡ behind b → OnlyTo (One P) b e
one_leads h = record { same = λ after o. sym (h ∙ ap behind o.cut) }

pub mark_found : (m : Punct) (b after : List Token) → One (IsMark m) b after → mark_at b ≡ Some m
mark_found m b after o = ap mark_at o.cut ∙ ap kind_mark o.is

pub word_found : (w : Keyword) (b after : List Token) → One (IsKeyword w) b after → word_at b ≡ Some w
word_found w b after o = ap word_at o.cut ∙ ap kind_word o.is

pub mark_fails : {m : Punct} {b : List Token} → mark_at b ≢ Some m → NoFront (One (IsMark m)) b
mark_fails {m = m} {b = b} n = record { never = λ after o. n (mark_found m b after o) }

pub word_fails : {w : Keyword} {b : List Token} → word_at b ≢ Some w → NoFront (One (IsKeyword w)) b
word_fails {w = w} {b = b} n = record { never = λ after o. n (word_found w b after o) }

-- a token before the rest
pub behind_one : {P : Token → Type 0} {S : List Token → List Token → Type 0} {b m after : List Token} (t : Token) → P t → b ≡ t ∷ m → S m after → Then (One P) S b after
behind_one {m = m} t is cut s = record { middle = m; first = record { t = t; cut = cut; is = is }; second = s }

-- ---- from the same place

pub fails_kept : {R : List Token → List Token → Type 0} {x y : List Token} → y ≡ x → NoFront R y → NoFront R x
fails_kept {R = R} e n = subst (λ l. NoFront R l) e n

pub only_kept : {R : List Token → List Token → Type 0} {x y e : List Token} → y ≡ x → OnlyTo R y e → OnlyTo R x e
only_kept {R = R} {e = e} h o = subst (λ l. OnlyTo R l e) h o

-- where nothing is taken
pub only_stays : {R : List Token → List Token → Type 0} {b e : List Token} → e ≡ b → OnlyTo R b b → OnlyTo R b e
only_stays {R = R} {b = b} h o = subst (λ l. OnlyTo R b l) (sym h) o

-- one token that was taken
pub taken_leads : {P Q : Token → Type 0} {b e : List Token} → Takes (IsOne P) b e → OnlyTo (One Q) b e
taken_leads {e = e} r = one_leads (sym (ap behind (r.cut ∙ ap (λ l. l ++ e) r.is.alone)))

-- ---- through a loop

-- each way of one row from one place leads on by another from a later one
pub record LeadsOn (R S : List Token → List Token → Type 0) (before now : List Token) : Type 0 where
  pub on : (after : List Token) → R before after → S now after

-- by one part, which is the only one
pub leads_from : {R T U : List Token → List Token → Type 0} {b e : List Token} → ((after : List Token) → R b after → Then T U b after) → OnlyTo T b e → LeadsOn R U b e
leads_from {U = U} f o = record { on = λ after r. let t = f after r in subst (λ v. U v after) (o.same t.middle t.first) t.second }

pub leads_on : {R : List Token → List Token → Type 0} {b : List Token} → LeadsOn R R b b
leads_on = record { on = λ after r. r }

pub leads_further : {R S T U : List Token → List Token → Type 0} {b m e : List Token} → LeadsOn R S b m → ((after : List Token) → S m after → Then T U m after) → OnlyTo T m e → LeadsOn R U b e
leads_further {S = S} l f o = record { on = λ after r. (leads_from {R = S} f o).on after (l.on after r) }

pub fails_on : {R S : List Token → List Token → Type 0} {b m : List Token} → LeadsOn R S b m → NoFront S m → NoFront R b
fails_on l n = record { never = λ after r. n.never after (l.on after r) }

pub only_on : {R S : List Token → List Token → Type 0} {b m e : List Token} → LeadsOn R S b m → OnlyTo S m e → OnlyTo R b e
only_on l o = record { same = λ after r. o.same after (l.on after r) }
