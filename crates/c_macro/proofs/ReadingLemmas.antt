-- Reading a line on: blanks, a token, its end and a flaw.
use Rattle.std.proofs.Common.{arith, ◌≡◌, ◌≢◌, ℕ, ◌+◌, ◌-◌, ◌≤◌, List, [], ◌∷◌, ◌++◌, length, drop, map, Some, None, refl, sym, ap, ◌∙◌, subst, append-nil, length-append, inl, inr}
use Rattle.std.proofs.lemmas.List.{drop_at, map-append}
use Rattle.c_syntax.specs.declared.token.Token.{Token}
use Rattle.c_syntax.specs.declared.token.TokenKind.{TokenKind}
use Rattle.c_syntax.specs.Lexes.{Piece, Blank, Spelled, piece_text, pieces_text, MayStand, AllStand, tokens_from}
use Rattle.c_syntax.proofs.Reading.{pieces_text-snoc, AllStand-append, tokens_from-append}
use Rattle.c_spellings.specs.Front.{IsBehindBlank}
use Rattle.c_lexer.specs.declared.fault.Flaw.{Flaw}
use Rattle.c_lexer.specs.declared.fault.Flaw.TheVariants as flaws
use Rattle.c_lexer.specs.Front.{IsToken}
use Rattle.c_lexer.specs.LexFaults.{HasFlaw, fault_of}
use Rattle.c_macro.specs.declared.fault.MacroFault.{MacroFault}
use Rattle.c_macro.specs.declared.reader.Reader.{Reader}
use Rattle.c_macro.specs.Lines.{IsReadTo, IsRead}
use Rattle.c_macro.specs.Views.{IsFaultOf, IsFlawed, IsBody, IsFlawedBody}

-- from one rest of a text that ends at a place to another these tokens are read
abbrev pub Reads : ℕ → List ℕ → List ℕ → List Token → Type 0
Reads end old new tokens = (at : ℕ) (text : List ℕ) (before : List Token) → at + length text ≡ end
    → IsReadTo at text before old → IsReadTo at text (before ++ tokens) new

pub read_nothing : (at : ℕ) (text : List ℕ) → IsReadTo at text [] text
read_nothing at text = record { pieces = []; cut = refl; stand = tt {0}; are = refl }

read_piece : (at : ℕ) (text : List ℕ) (tokens new : List Token) (p : Piece) (rest : List ℕ) (s : IsReadTo at text tokens (piece_text p ++ rest)) → MayStand p rest
    → new ≡ tokens ++ tokens_from (at + length (pieces_text s.pieces)) (p ∷ []) → IsReadTo at text new rest
read_piece at text tokens new p rest s stands e = record {
  pieces = s.pieces ++ p ∷ [];
  cut = s.cut ∙ sym (pieces_text-snoc s.pieces p rest);
  stand = AllStand-append s.pieces (p ∷ []) rest (subst (λ t. AllStand s.pieces (t ++ rest)) (sym (append-nil (piece_text p))) s.stand) (stands, tt {0});
  are = e ∙ ap (λ l. l ++ tokens_from (at + length (pieces_text s.pieces)) (p ∷ [])) s.are ∙ sym (tokens_from-append at s.pieces (p ∷ []));
}

read_blank : (at : ℕ) (text : List ℕ) (tokens : List Token) (rest after : List ℕ) → IsReadTo at text tokens rest → IsBehindBlank rest after → IsReadTo at text tokens after
read_blank at text tokens rest after s b = read_piece at text tokens tokens (Blank b.blank) after (subst (IsReadTo at text tokens) b.front s) b.is (sym (append-nil tokens))

read_token : (at : ℕ) (text : List ℕ) (tokens : List Token) (rest : List ℕ) (kind : TokenKind) (size place : ℕ)
    → IsReadTo at text tokens rest → IsToken rest kind size → place + length rest ≡ at + length text
    → IsReadTo at text (tokens ++ record { kind = kind; at = place; len = size } ∷ []) (drop size rest)
read_token at text tokens rest kind size place s t placed =
    let behind : drop size rest ≡ t.rest = ap (drop size) t.front ∙ drop_at t.spelling t.rest size (sym t.sized) in
    let here : at + length (pieces_text s.pieces) ≡ place = omega (arith, placed, ap length s.cut, length-append (pieces_text s.pieces) rest) in
    let more = read_piece at text tokens (tokens ++ record { kind = kind; at = at + length (pieces_text s.pieces); len = length t.spelling } ∷ []) (Spelled t.spelling kind) t.rest
    (record { pieces = s.pieces; cut = s.cut ∙ ap (λ r. pieces_text s.pieces ++ r) t.front; stand = subst (AllStand s.pieces) t.front s.stand; are = s.are }) (t.longest, t.means) refl in
    subst (λ r. IsReadTo at text (tokens ++ record { kind = kind; at = place; len = size } ∷ []) r) (sym behind)
    (subst (λ n. IsReadTo at text (tokens ++ record { kind = kind; at = place; len = n } ∷ []) t.rest) (sym t.sized)
    (subst (λ n. IsReadTo at text (tokens ++ record { kind = kind; at = n; len = length t.spelling } ∷ []) t.rest) here more))

-- ---- a reader

pub reads_none : (end : ℕ) (rest : List ℕ) → Reads end rest rest []
reads_none end rest at text before e s = subst (λ l. IsReadTo at text l rest) (sym (append-nil before)) s

pub reads_blank : (end : ℕ) (old rest after : List ℕ) → Reads end old rest [] → IsBehindBlank rest after → Reads end old after []
reads_blank end old rest after reads b at text before e s = read_blank at text (before ++ []) rest after (reads at text before e s) b

pub reads_token : (end place : ℕ) (old rest : List ℕ) (kind : TokenKind) (size : ℕ) → Reads end old rest [] → IsToken rest kind size → place + length rest ≡ end
    → Reads end old (drop size rest) (record { kind = kind; at = place; len = size } ∷ [])
reads_token end place old rest kind size reads t placed at text before e s =
    read_token at text before rest kind size place (subst (λ l. IsReadTo at text l rest) (append-nil before) (reads at text before e s)) t (placed ∙ sym e)

reads_flaw : (end place : ℕ) (old rest : List ℕ) (flaw : Flaw) → Reads end old rest [] → HasFlaw rest flaw → (flaw ≢ flaws.NoMemory) → place + length rest ≡ end
    → (at : ℕ) (text : List ℕ) (before : List Token) → at + length text ≡ end → IsReadTo at text before old → IsRead at text before (Some (fault_of flaw place))
reads_flaw end place old rest flaw reads has some placed at text before e s =
    (rest, place, subst (λ l. IsReadTo at text l rest) (append-nil before) (reads at text before e s), placed ∙ sym e, (flaw, has, some, refl))

pub is_flawed : (old : Reader) (place : ℕ) (rest : List ℕ) (flaw : Flaw) (fault : MacroFault) → Reads old.end old.rest.now rest [] → HasFlaw rest flaw
    → place + length rest ≡ old.end → IsFaultOf flaw place fault → IsFlawed old fault
is_flawed old place rest flaws.BadByte fault reads has placed is = inr (fault_of flaws.BadByte place, is.1 (λ e. absurd cc), reads_flaw old.end place old.rest.now rest flaws.BadByte reads has (λ e. absurd cc) placed)
is_flawed old place rest flaws.OpenComment fault reads has placed is = inr (fault_of flaws.OpenComment place, is.1 (λ e. absurd cc), reads_flaw old.end place old.rest.now rest flaws.OpenComment reads has (λ e. absurd cc) placed)
is_flawed old place rest flaws.BadConstant fault reads has placed is = inr (fault_of flaws.BadConstant place, is.1 (λ e. absurd cc), reads_flaw old.end place old.rest.now rest flaws.BadConstant reads has (λ e. absurd cc) placed)
is_flawed old place rest flaws.LongName fault reads has placed is = inr (fault_of flaws.LongName place, is.1 (λ e. absurd cc), reads_flaw old.end place old.rest.now rest flaws.LongName reads has (λ e. absurd cc) placed)
is_flawed old place rest flaws.NoMemory fault reads has placed is = inl (is.0 refl)

-- ---- a whole text

-- the end of a text that is read
pub read_all : (at : ℕ) (text : List ℕ) (tokens : List Token) (rest : List ℕ) → IsReadTo at text tokens rest → rest ≡ [] → IsRead at text tokens None
read_all at text tokens rest s none = (rest, at + length text, s, omega (arith, ap length none), none)

-- the kinds of the tokens up to a rest of a text that ends at a place
abbrev pub HasRead : List ℕ → ℕ → List ℕ → List TokenKind → Type 0
HasRead text end rest kinds = (at : ℕ) → at + length text ≡ end → (tokens : List Token) × IsReadTo at text tokens rest × (kinds ≡ map (λ t. t.kind) tokens)

pub has_read_none : (text : List ℕ) (end : ℕ) → HasRead text end text []
has_read_none text end at e = ([], read_nothing at text, refl)

pub has_read_more : (text : List ℕ) (end : ℕ) (old new : List ℕ) (kinds : List TokenKind) (t : Token) → HasRead text end old kinds → Reads end old new (t ∷ [])
    → HasRead text end new (kinds ++ t.kind ∷ [])
has_read_more text end old new kinds t has reads at e =
    let h = has at e in
    (h.0 ++ t ∷ [], reads at text h.0 e h.1, ap (λ l. l ++ t.kind ∷ []) h.2 ∙ sym (map-append (λ t. t.kind) h.0 (t ∷ [])))

pub has_read_all : (text : List ℕ) (end : ℕ) (old new : List ℕ) (kinds : List TokenKind) → HasRead text end old kinds → Reads end old new [] → new ≡ [] → IsBody text end kinds
has_read_all text end old new kinds has reads none at e =
    let h = has at e in
    (h.0, read_all at text h.0 new (subst (λ l. IsReadTo at text l new) (append-nil h.0) (reads at text h.0 e h.1)) none, h.2)

pub has_read_flaw : (text : List ℕ) (end : ℕ) (old : Reader) (kinds : List TokenKind) (fault : MacroFault) → old.end ≡ end → HasRead text end old.rest.now kinds → IsFlawed old fault
    → IsFlawedBody text end fault
has_read_flaw text end old kinds fault same has (inl memory) = inl memory
has_read_flaw text end old kinds fault same has (inr flawed) =
    inr (flawed.0, flawed.1, λ at e. let h = has at e in (h.0, flawed.2 at text h.0 (e ∙ sym same) h.1))

-- a token's spelling is cut off
pub next_reads : (end place : ℕ) (old rest : List ℕ) (kind : TokenKind) (size len : ℕ) (after : List ℕ) → Reads end old rest [] → IsToken rest kind size
    → place + length rest ≡ end → after ≡ drop size rest → len ≡ size → Reads end old after (record { kind = kind; at = place; len = len } ∷ [])
next_reads end place old rest kind size len after reads t placed e n =
    subst (λ a. Reads end old a (record { kind = kind; at = place; len = len } ∷ [])) (sym e)
    (subst (λ m. Reads end old (drop size rest) (record { kind = kind; at = place; len = m } ∷ [])) (sym n) (reads_token end place old rest kind size reads t placed))

pub placed_back : (end old_end : ℕ) (rest old : List ℕ) → end ≡ old_end → length rest ≤ length old → length old ≤ old_end → end - length rest + length rest ≡ old_end
placed_back end old_end rest old e l m = omega (arith, e, l, m)

pub blank_shorter : (text rest : List ℕ) → IsBehindBlank text rest → length rest ≤ length text
blank_shorter text rest b = omega (arith, ap length b.front, length-append b.blank rest)
