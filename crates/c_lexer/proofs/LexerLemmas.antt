-- One piece after another: the loop of the lexer, and why its answer is the only one.
use Rattle.std.proofs.Common.{arith, ◌≡◌, ℕ, ◌+◌, ◌-◌, List, [], ◌∷◌, ◌++◌, length, drop, refl, ap, sym, ◌∙◌, subst, length-append}
use Rattle.std.proofs.lemmas.List.{drop_at}
use Rattle.c_syntax.specs.declared.token.Token.{Token}
use Rattle.c_syntax.specs.declared.token.TokenKind.{TokenKind}
use Rattle.c_syntax.specs.Lexes.{pieces_text, ReadsTo, Lexes, most_tokens}
use Rattle.c_syntax.proofs.Reading.{reads_blank, reads_token}
use Rattle.c_lexer.specs.declared.fault.LexFault.{LexFault}
use Rattle.c_lexer.specs.declared.fault.LexFault.TheVariants as faults
use Rattle.c_spellings.specs.Front.{IsBehindBlank}
use Rattle.c_lexer.specs.Front.{IsToken}
use Rattle.c_lexer.specs.LexFaults.{HasTooMany, Says}
use Rattle.c_lexer.proofs.OneAnswer.{lexes_not_says}

-- the token of a spelling at the front of the rest
abbrev pub token_at : List ℕ → List ℕ → TokenKind → ℕ → Token
token_at text rest kind size = record { kind = kind; at = length text - length rest; len = size }

-- a blank more
pub reads_past_blank : (text : List ℕ) (tokens : List Token) (rest after : List ℕ) → ReadsTo text tokens rest → IsBehindBlank rest after → ReadsTo text tokens after
reads_past_blank text tokens rest after reads blank = reads_blank text tokens blank.blank after (subst (ReadsTo text tokens) blank.front reads) blank.is

-- a token more
pub reads_past_token : (text : List ℕ) (tokens : List Token) (rest : List ℕ) (kind : TokenKind) (size : ℕ) → ReadsTo text tokens rest → IsToken rest kind size
    → ReadsTo text (tokens ++ token_at text rest kind size ∷ []) (drop size rest)
reads_past_token text tokens rest kind size reads token =
    let place : length text - length rest + length rest ≡ length text = omega (arith, ap length reads.cut, length-append (pieces_text reads.pieces) rest) in
    let behind : drop size rest ≡ token.rest = ap (drop size) token.front ∙ drop_at token.spelling token.rest size (sym token.sized) in
    let more = reads_token text tokens token.spelling kind token.rest (length text - length rest) (ap (λ r. length text - length rest + length r) (sym token.front) ∙ place) (subst (ReadsTo text tokens) token.front reads) (token.longest, token.means) in
    subst (λ s. ReadsTo text (tokens ++ token_at text rest kind s ∷ []) (drop size rest)) (sym token.sized) (subst (ReadsTo text (tokens ++ token_at text rest kind (length token.spelling) ∷ [])) (sym behind) more)

-- one token more than there may be
pub too_many : (text : List ℕ) (tokens : List Token) (rest : List ℕ) (kind : TokenKind) (size : ℕ) → ReadsTo text tokens rest → IsToken rest kind size → length tokens ≡ most_tokens → HasTooMany text 200001
too_many text tokens rest kind size reads token full = record {
  tokens = tokens ++ token_at text rest kind size ∷ [];
  rest = drop size rest;
  reads = reads_past_token text tokens rest kind size reads token;
  one_more = length-append tokens (token_at text rest kind size ∷ []) ∙ ap (λ n. n + 1) full;
  counted = refl;
}

-- a text with tokens has no fault but want of memory
pub memory_alone : (text : List ℕ) (fault : LexFault) → Says text fault → (tokens : List Token) → Lexes text tokens → fault ≡ faults.NoMemory
memory_alone text (faults.BadByte at) says tokens lexes = absurd (lexes_not_says text tokens (faults.BadByte at) (λ e. absurd cc) lexes says)
memory_alone text (faults.OpenComment at) says tokens lexes = absurd (lexes_not_says text tokens (faults.OpenComment at) (λ e. absurd cc) lexes says)
memory_alone text (faults.BadConstant at) says tokens lexes = absurd (lexes_not_says text tokens (faults.BadConstant at) (λ e. absurd cc) lexes says)
memory_alone text (faults.LongName at) says tokens lexes = absurd (lexes_not_says text tokens (faults.LongName at) (λ e. absurd cc) lexes says)
memory_alone text (faults.TooManyTokens count) says tokens lexes = absurd (lexes_not_says text tokens (faults.TooManyTokens count) (λ e. absurd cc) lexes says)
memory_alone text faults.NoMemory says tokens lexes = refl
