-- A line is read in one way: of two readings up to a rest the tokens of one are the front of the other's.
use Rattle.std.proofs.Common.{◌≡◌, ◌≢◌, ℕ, ◌+◌, List, [], ◌∷◌, ◌++◌, length, Option, Some, None, refl, sym, ap, ◌∙◌, subst, arith, inl, inr, append_assoc, append-nil}
use Rattle.std.specs.Prelude.{◌⊎◌}
use Rattle.c_syntax.specs.declared.token.Token.{Token}
use Rattle.c_syntax.specs.Lexes.{Piece, piece_text, pieces_text, AllStand, tokens_from}
use Rattle.c_syntax.proofs.Pieces.{GoesOn, pieces_linear}
use Rattle.c_syntax.proofs.OneReading.{IsStuck, nothing_stuck}
use Rattle.c_syntax.proofs.Reading.{tokens_from-append}
use Rattle.c_lexer.specs.declared.fault.LexFault.{LexFault}
use Rattle.c_lexer.specs.declared.fault.Flaw.{Flaw}
use Rattle.c_lexer.specs.declared.fault.Flaw.TheVariants as flaws
use Rattle.c_lexer.specs.LexFaults.{HasFlaw, fault_of}
use Rattle.c_lexer.proofs.OneAnswer.{flaw_stuck, flaw_one}
use Rattle.c_macro.specs.Lines.{EndsAt, IsReadTo, IsRead}

-- ---- where reading ends no piece stands

pub ends_stuck : (at : ℕ) (rest : List ℕ) (end : Option LexFault) → EndsAt at rest end → IsStuck rest
ends_stuck at rest None e = subst IsStuck (sym e) nothing_stuck
ends_stuck at rest (Some fault) e = flaw_stuck rest e.0 e.2 e.1

-- at the end of a text there is no flaw
flaw_begins : (flaw : Flaw) → flaw ≢ flaws.NoMemory → HasFlaw [] flaw → ⊥
flaw_begins flaws.BadByte n f = let e = f.front in cc
flaw_begins flaws.OpenComment n f = let e = f.front in cc
flaw_begins flaws.BadConstant n (inl f) = let e : [] ≡ f.number.first ∷ (f.number.rest ++ f.rest) = f.front ∙ ap (λ t. t ++ f.rest) f.number.whole in cc
flaw_begins flaws.BadConstant n (inr f) = let e = f.front in cc
flaw_begins flaws.LongName n f = let e : [] ≡ f.name.first ∷ (f.name.rest ++ f.rest) = f.front ∙ ap (λ t. t ++ f.rest) f.name.whole in cc
flaw_begins flaws.NoMemory n f = n refl

ends_one : (at : ℕ) (rest : List ℕ) (a b : Option LexFault) → EndsAt at rest a → EndsAt at rest b → a ≡ b
ends_one at rest None None e f = refl
ends_one at rest None (Some y) e f = absurd (flaw_begins f.0 f.2 (subst (λ r. HasFlaw r f.0) e f.1))
ends_one at rest (Some x) None e f = absurd (flaw_begins e.0 e.2 (subst (λ r. HasFlaw r e.0) f e.1))
ends_one at rest (Some x) (Some y) e f =
    let same = flaw_one rest e.0 f.0 e.2 f.2 e.1 f.1 in
    ap Some (e.3 ∙ ap (λ w. fault_of w at) same ∙ sym f.3)

-- ---- one list of tokens is the front of the other

-- at a stuck rest nothing more is read
stuck_none : (text rest : List ℕ) (more : List Piece) → IsStuck text → AllStand more rest → text ≡ pieces_text more ++ rest → more ≡ []
stuck_none text rest [] s g e = refl
stuck_none text rest (p ∷ more) s g e = absurd (s.by p (pieces_text more ++ rest) g.0 (e ∙ append_assoc (piece_text p) (pieces_text more) rest))

-- these tokens go on, up to another rest; where the first rest is stuck they don't
pub record IsFront (a b : List Token) (r q : List ℕ) : Type 0 where
  pub more : List Token
  pub joined : b ≡ a ++ more
  pub none : IsStuck r → (a ≡ b) × (r ≡ q)

front_of : (at : ℕ) (text : List ℕ) (a b : List Token) (r q : List ℕ) (g : IsReadTo at text a r) (h : IsReadTo at text b q)
    → GoesOn g.pieces h.pieces r q → IsFront a b r q
front_of at text a b r q g h on = record {
  more = tokens_from (at + length (pieces_text g.pieces)) on.more;
  joined = h.are ∙ ap (tokens_from at) on.joined ∙ tokens_from-append at g.pieces on.more ∙ ap (λ t. t ++ tokens_from (at + length (pieces_text g.pieces)) on.more) (sym g.are);
  none = λ s.
      let none = stuck_none r q on.more s on.stand on.rest in
      (g.are ∙ ap (tokens_from at) (sym (append-nil g.pieces) ∙ ap (λ l. g.pieces ++ l) (sym none) ∙ sym on.joined) ∙ sym h.are, on.rest ∙ ap (λ l. pieces_text l ++ q) none);
}

pub reads_linear : (at : ℕ) (text : List ℕ) (a b : List Token) (r q : List ℕ) → IsReadTo at text a r → IsReadTo at text b q → IsFront a b r q ⊎ IsFront b a q r
reads_linear at text a b r q g h = pick (pieces_linear g.pieces h.pieces r q g.stand h.stand (sym g.cut ∙ h.cut))
  where
    pick : GoesOn g.pieces h.pieces r q ⊎ GoesOn h.pieces g.pieces q r → IsFront a b r q ⊎ IsFront b a q r
    pick (inl on) = inl (front_of at text a b r q g h on)
    pick (inr on) = inr (front_of at text b a q r h g on)

-- what is read up to a stuck rest goes at least as far
pub stuck_front : (at : ℕ) (text : List ℕ) (a b : List Token) (r q : List ℕ) → IsReadTo at text a r → IsReadTo at text b q → IsStuck q
    → (more : List Token) × (b ≡ a ++ more)
stuck_front at text a b r q g h s = pick (reads_linear at text a b r q g h)
  where
    pick : IsFront a b r q ⊎ IsFront b a q r → (more : List Token) × (b ≡ a ++ more)
    pick (inl f) = (f.more, f.joined)
    pick (inr f) = ([], (f.none s).0 ∙ sym (append-nil a))

stuck_one : (at : ℕ) (text : List ℕ) (a b : List Token) (r q : List ℕ) → IsReadTo at text a r → IsReadTo at text b q → IsStuck r → IsStuck q → (a ≡ b) × (r ≡ q)
stuck_one at text a b r q g h s t = pick (reads_linear at text a b r q g h)
  where
    pick : IsFront a b r q ⊎ IsFront b a q r → (a ≡ b) × (r ≡ q)
    pick (inl f) = f.none s
    pick (inr f) = (sym (f.none t).0, sym (f.none t).1)

-- ---- one reading up to the end

pub record IsSame (a b : List Token) (e f : Option LexFault) : Type 0 where
  pub tokens : a ≡ b
  pub ends : e ≡ f

pub read_one : (at : ℕ) (text : List ℕ) (a b : List Token) (e f : Option LexFault) → IsRead at text a e → IsRead at text b f → IsSame a b e f
read_one at text a b e f g h =
    let same = stuck_one at text a b g.0 h.0 g.2 h.2 (ends_stuck g.1 g.0 e g.4) (ends_stuck h.1 h.0 f h.4) in
    let places : g.1 ≡ h.1 = omega (arith, g.3, h.3, ap length same.1) in
    record { tokens = same.0; ends = ends_one h.1 h.0 e f (subst (λ r. EndsAt h.1 r e) same.1 (subst (λ p. EndsAt p g.0 e) places g.4)) h.4 }

-- what is read up to a rest is the front of all that is read
pub read_front : (at : ℕ) (text : List ℕ) (a b : List Token) (r : List ℕ) (f : Option LexFault) → IsReadTo at text a r → IsRead at text b f
    → (more : List Token) × (b ≡ a ++ more)
read_front at text a b r f g h = stuck_front at text a b r h.0 g h.2 (ends_stuck h.1 h.0 f h.4)
