-- A text that is read to where no piece stands is read in one way.
use Rattle.std.proofs.Common.{◌≡◌, ◌≢◌, ℕ, ◌+◌, ◌≤◌, List, [], ◌∷◌, ◌++◌, length, refl, sym, ap, ◌∙◌, arith, inl, inr, append_assoc, append-nil, length-append}
use Rattle.std.specs.Prelude.{◌⊎◌}
use Rattle.c_syntax.specs.declared.token.Token.{Token}
use Rattle.c_syntax.specs.Lexes.{Piece, piece_text, pieces_text, MayStand, AllStand, tokens_from, ReadsTo, Lexes}
use Rattle.c_syntax.proofs.Reading.{tokens_from-append}
use Rattle.c_syntax.proofs.Pieces.{piece_begins, GoesOn, pieces_linear}

-- no piece stands at the front
pub record IsStuck (text : List ℕ) : Type 0 where
  pub by : (p : Piece) (rest : List ℕ) → MayStand p rest → text ≢ piece_text p ++ rest

pub nothing_stuck : IsStuck []
nothing_stuck = record { by = λ p rest g e. piece_begins p rest rest g (sym e) }

stuck_none : (text rest : List ℕ) (more : List Piece) → IsStuck text → AllStand more rest → text ≡ pieces_text more ++ rest → more ≡ []
stuck_none text rest [] s g e = refl
stuck_none text rest (p ∷ more) s g e = absurd (s.by p (pieces_text more ++ rest) g.0 (e ∙ append_assoc (piece_text p) (pieces_text more) rest))

-- where the one reading is stuck, the other goes no further
stuck_front : (ps qs : List Piece) (r q : List ℕ) → IsStuck r → GoesOn ps qs r q ⊎ GoesOn qs ps q r → GoesOn qs ps q r
stuck_front ps qs r q s (inr g) = g
stuck_front ps qs r q s (inl g) =
    let none = stuck_none r q g.more s g.stand g.rest in
    record { more = []; joined = sym (append-nil qs ∙ g.joined ∙ ap (λ l. ps ++ l) none ∙ append-nil ps); stand = tt; rest = sym (g.rest ∙ ap (λ l. pieces_text l ++ q) none) }

module _ (text : List ℕ) (a b : List Token) (r q : List ℕ) (g : ReadsTo text a r) (h : ReadsTo text b q) (s : IsStuck r) where
  abbrev goes_on : GoesOn h.pieces g.pieces q r
  goes_on = stuck_front g.pieces h.pieces r q s (pieces_linear g.pieces h.pieces r q g.stand h.stand (sym g.cut ∙ h.cut))

  pub stuck_has_all : length b ≤ length a
  stuck_has_all =
      let e = g.are ∙ ap (tokens_from 0) goes_on.joined ∙ tokens_from-append 0 h.pieces goes_on.more in
      omega (arith, ap length e, ap length h.are, length-append (tokens_from 0 h.pieces) (tokens_from (0 + length (pieces_text h.pieces)) goes_on.more))

  pub same_reading : IsStuck q → (a ≡ b) × (r ≡ q)
  same_reading t =
      let none = stuck_none q r goes_on.more t goes_on.stand goes_on.rest in
      (g.are ∙ ap (tokens_from 0) (goes_on.joined ∙ ap (λ l. h.pieces ++ l) none ∙ append-nil h.pieces) ∙ sym h.are, sym (goes_on.rest ∙ ap (λ l. pieces_text l ++ r) none))

pub one_token_list : (text : List ℕ) (a b : List Token) → Lexes text a → Lexes text b → a ≡ b
one_token_list text a b g h = (same_reading text a b [] [] g.0 h.0 nothing_stuck nothing_stuck).0
