-- A text that has been read up to a rest, and one more piece of it.
use Rattle.std.proofs.Common.{◌≡◌, ℕ, ◌+◌, List, [], ◌∷◌, ◌++◌, length, refl, sym, ap, ◌∙◌, subst, arith, append_assoc, append-nil, length-append}
use Rattle.std.specs.Prelude.{map}
use Rattle.std.specs.List.{concat}
use Rattle.std.proofs.lemmas.List.{map-append}
use Rattle.std.proofs.lemmas.List.Folds.{concat-append}
use Rattle.c_syntax.specs.declared.token.Token.{Token}
use Rattle.c_syntax.specs.declared.token.TokenKind.{TokenKind}
use Rattle.c_syntax.specs.Lexes.{Piece, Blank, Spelled, piece_text, pieces_text, MayStand, AllStand, tokens_from, ReadsTo}

pub pieces_text-append : (ps qs : List Piece) → pieces_text (ps ++ qs) ≡ pieces_text ps ++ pieces_text qs
pieces_text-append ps qs = ap concat (map-append piece_text ps qs) ∙ concat-append (map piece_text ps) (map piece_text qs)

-- one piece behind the others
pub pieces_text-snoc : (ps : List Piece) (p : Piece) (rest : List ℕ) → pieces_text (ps ++ p ∷ []) ++ rest ≡ pieces_text ps ++ (piece_text p ++ rest)
pieces_text-snoc ps p rest =
    ap (λ t. t ++ rest) (pieces_text-append ps (p ∷ []) ∙ ap (λ t. pieces_text ps ++ t) (append-nil (piece_text p)))
    ∙ append_assoc (pieces_text ps) (piece_text p) rest

pub AllStand-append : (ps qs : List Piece) (rest : List ℕ) → AllStand ps (pieces_text qs ++ rest) → AllStand qs rest → AllStand (ps ++ qs) rest
AllStand-append [] qs rest g h = h
AllStand-append (p ∷ ps) qs rest g h =
    let e : pieces_text ps ++ (pieces_text qs ++ rest) ≡ pieces_text (ps ++ qs) ++ rest = sym (ap (λ t. t ++ rest) (pieces_text-append ps qs) ∙ append_assoc (pieces_text ps) (pieces_text qs) rest) in
    (subst (MayStand p) e g.0, AllStand-append ps qs rest g.1 h)

pub tokens_from-append : (at : ℕ) (ps qs : List Piece) → tokens_from at (ps ++ qs) ≡ tokens_from at ps ++ tokens_from (at + length (pieces_text ps)) qs
tokens_from-append at [] qs = ap (λ n. tokens_from n qs) (omega arith)
tokens_from-append at (Blank text ∷ ps) qs =
    tokens_from-append (at + length text) ps qs
    ∙ ap (λ n. tokens_from (at + length text) ps ++ tokens_from n qs) (omega (arith, length-append text (pieces_text ps)))
tokens_from-append at (Spelled text kind ∷ ps) qs =
    ap (λ l. record { kind = kind; at = at; len = length text } ∷ l)
    (tokens_from-append (at + length text) ps qs
    ∙ ap (λ n. tokens_from (at + length text) ps ++ tokens_from n qs) (omega (arith, length-append text (pieces_text ps))))

-- nothing of a text is read
pub reads_nothing : (text : List ℕ) → ReadsTo text [] text
reads_nothing text = record { pieces = []; cut = refl; stand = tt; are = refl }

module _ (text : List ℕ) (tokens : List Token) (p : Piece) (rest : List ℕ) (s : ReadsTo text tokens (piece_text p ++ rest)) (stands : MayStand p rest) where
  reads_piece : (new : List Token) → new ≡ tokens ++ tokens_from (length (pieces_text s.pieces)) (p ∷ []) → ReadsTo text new rest
  reads_piece new e = record {
    pieces = s.pieces ++ p ∷ [];
    cut = s.cut ∙ sym (pieces_text-snoc s.pieces p rest);
    stand = AllStand-append s.pieces (p ∷ []) rest (subst (λ t. AllStand s.pieces (t ++ rest)) (sym (append-nil (piece_text p))) s.stand) (stands, tt);
    are = e ∙ ap (λ l. l ++ tokens_from (length (pieces_text s.pieces)) (p ∷ [])) s.are
        ∙ ap (λ n. tokens_from 0 s.pieces ++ tokens_from n (p ∷ [])) (omega arith)
        ∙ sym (tokens_from-append 0 s.pieces (p ∷ []));
  }

  read_place : (at : ℕ) → at + length (piece_text p ++ rest) ≡ length text → length (pieces_text s.pieces) ≡ at
  read_place at e = omega (arith, ap length s.cut, length-append (pieces_text s.pieces) (piece_text p ++ rest))

-- a blank behind what was read
pub reads_blank : (text : List ℕ) (tokens : List Token) (blank rest : List ℕ) → ReadsTo text tokens (blank ++ rest) → MayStand (Blank blank) rest → ReadsTo text tokens rest
reads_blank text tokens blank rest s stands = reads_piece text tokens (Blank blank) rest s stands tokens (sym (append-nil tokens))

-- a token behind what was read
pub reads_token : (text : List ℕ) (tokens : List Token) (spelling : List ℕ) (kind : TokenKind) (rest : List ℕ) (at : ℕ)
    → at + length (spelling ++ rest) ≡ length text → ReadsTo text tokens (spelling ++ rest) → MayStand (Spelled spelling kind) rest
    → ReadsTo text (tokens ++ record { kind = kind; at = at; len = length spelling } ∷ []) rest
reads_token text tokens spelling kind rest at e s stands =
    reads_piece text tokens (Spelled spelling kind) rest s stands _ (ap (λ n. tokens ++ tokens_from n (Spelled spelling kind ∷ [])) (sym (read_place text tokens (Spelled spelling kind) rest s stands at e)))
