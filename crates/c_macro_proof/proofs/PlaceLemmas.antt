-- The place of each token of a text in another text with tokens of the same kinds.
use Rattle.std.proofs.Common.{arith, ◌≡◌, ◌≢◌, ℕ, ◌+◌, ◌≤◌, List, [], ◌∷◌, ◌++◌, length, refl, sym, ap, ◌∙◌, subst}
use Rattle.std.specs.List.{AllZip}
use Rattle.c_renaming.specs.c_tree.c_syntax.declared.token.Token.{Token}
use Rattle.c_renaming.specs.c_tree.c_syntax.declared.token.TokenKind.{TokenKind}
use Rattle.c_renaming.specs.c_tree.c_syntax.declared.token.TokenKind.TheVariants.{Word, Name, Number, Char, Mark}
use Rattle.c_renaming.specs.c_tree.c_syntax.Lexes.{Piece, Blank, Spelled, pieces_text, AllStand, tokens_from, Lexes}
use Rattle.c_renaming.specs.c_tree.c_syntax.Source.{IsSource}
use Rattle.c_renaming.specs.c_tree.TypedTree.{ProgramTree}
use Rattle.c_macro.specs.c_lexer.TokenText.{kind_text, tokens_text, placed_from}
use Rattle.c_renaming.specs.RenamedTokens.{renamed_kind, AreRenamed}
use Rattle.c_renaming.specs.RenamedTrees.{renamed_unit}
use Rattle.c_renaming.specs.Renaming.{IsFaithful}
use Rattle.c_macro_proof.specs.Sources.{HasProgram, moved, HasMoved}
use Rattle.c_syntax.proofs.Pieces.{piece_begins}
use Rattle.c_syntax.proofs.OneReading.{one_token_list}
use Rattle.c_lexer.proofs.TokenTexts.{lexes_again}
use Rattle.c_lexer.proofs.SpelledTokens.{lexed_spelled}
use Rattle.c_renaming.proofs.PlaceLemmas.{place_in, Rises, rises_more, HaveKinds, all_renamed, source_renamed}
use Rattle.c_renaming.proofs.ProgramLemmas.{typed_renamed}

-- tokens of the same kinds
abbrev SameKinds : List Token → List Token → Type 0
SameKinds ts us = AllZip (λ t u. u.kind ≡ t.kind) ts us

same_kinds_back : (ts us : List Token) → SameKinds ts us → SameKinds us ts
same_kinds_back [] [] same = tt {0}
same_kinds_back [] (u ∷ us) same = absurd same
same_kinds_back (t ∷ ts) [] same = absurd same
same_kinds_back (t ∷ ts) (u ∷ us) same = (sym same.0, same_kinds_back ts us same.1)

kind_moved : (place : ℕ → ℕ) (kind : TokenKind) → renamed_kind (moved place) kind ≡ kind
kind_moved place (Word keyword) = refl
kind_moved place (Name name) = refl
kind_moved place (Number value marked decimal) = refl
kind_moved place (Char value) = refl
kind_moved place (Mark mark) = refl

have_kinds : (place : ℕ → ℕ) (ts us : List Token) → SameKinds ts us → HaveKinds (moved place) ts us
have_kinds place [] [] same = tt {0}
have_kinds place [] (u ∷ us) same = absurd same
have_kinds place (t ∷ ts) [] same = absurd same
have_kinds place (t ∷ ts) (u ∷ us) same = (same.0 ∙ sym (kind_moved place t.kind), have_kinds place ts us same.1)

-- each is the other moved
all_moved : (ts us : List Token) → Rises 0 ts → SameKinds ts us → AreRenamed (moved (place_in ts us)) ts us
all_moved ts us rises same = all_renamed (moved (place_in ts us)) 0 ts us rises (have_kinds (place_in ts us) ts us same) (λ n above. refl)

-- the tokens of a text rise
rises_read : (at : ℕ) (pieces : List Piece) (rest : List ℕ) → AllStand pieces rest → Rises at (tokens_from at pieces)
rises_read at [] rest stand = tt {0}
rises_read at (Blank text ∷ pieces) rest stand =
    rises_more at (at + length text) (tokens_from (at + length text) pieces) (omega arith) (rises_read (at + length text) pieces rest stand.1)
rises_read at (Spelled text kind ∷ pieces) rest stand = (
  omega arith,
  rises_more (at + 1) (at + length text) (tokens_from (at + length text) pieces) (longer text (λ e. piece_begins (Spelled text kind) (pieces_text pieces ++ rest) [] stand.0 (ap (λ t. t ++ []) e)))
      (rises_read (at + length text) pieces rest stand.1),
)
  where
    longer : (text : List ℕ) → text ≢ [] → at + 1 ≤ at + length text
    longer [] some = absurd (some refl)
    longer (c ∷ text) some = omega arith

rises_placed : (at : ℕ) (tokens : List Token) → Rises at (placed_from at tokens)
rises_placed at [] = tt {0}
rises_placed at (t ∷ ts) =
    (omega arith, rises_more (at + 1) (at + (length (kind_text t.kind) + 1)) (placed_from (at + (length (kind_text t.kind) + 1)) ts) (omega arith) (rises_placed (at + (length (kind_text t.kind) + 1)) ts))

same_placed : (at : ℕ) (tokens : List Token) → SameKinds tokens (placed_from at tokens)
same_placed at [] = tt {0}
same_placed at (t ∷ ts) = (refl, same_placed (at + (length (kind_text t.kind) + 1)) ts)

-- ---- programs

moved_faithful : (place : ℕ → ℕ) → IsFaithful (moved place)
moved_faithful place = record { same = λ a b. refl; main = refl; port_in = refl; port_out = refl; nothing = refl }

-- a program goes with tokens that are moved
carried : (text other : List ℕ) (ts us : List Token) (program : ProgramTree) (place : ℕ → ℕ) → Lexes text ts → Lexes other us → AreRenamed (moved place) ts us
    → HasProgram text program → HasMoved other program
carried text other ts us program place lexes lexed are has =
    let same : has.tokens ≡ ts = one_token_list text has.tokens ts has.lexes lexes in (
      place,
      record {
        tokens = us;
        lexes = lexed;
        unit = renamed_unit (moved place) has.unit;
        source = source_renamed (moved place) ts us has.unit are (subst (λ l. IsSource l has.unit) same has.source);
        typed = typed_renamed (moved place) has.unit program (moved_faithful place) has.typed;
      },
    )

module _ (text : List ℕ) (tokens : List Token) (program : ProgramTree) (lexes : Lexes text tokens) where
  written : Lexes (tokens_text tokens) (placed_from 0 tokens)
  written = lexes_again tokens (tokens_text tokens) refl (lexed_spelled text tokens lexes) lexes.1

  rises : Rises 0 tokens
  rises = subst (Rises 0) (sym lexes.0.are) (rises_read 0 lexes.0.pieces [] lexes.0.stand)

  pub kept : HasProgram text program → HasMoved (tokens_text tokens) program
  kept has =
      carried text (tokens_text tokens) tokens (placed_from 0 tokens) program (place_in tokens (placed_from 0 tokens)) lexes written
      (all_moved tokens (placed_from 0 tokens) rises (same_placed 0 tokens)) has

  pub had : HasProgram (tokens_text tokens) program → HasMoved text program
  had has =
      carried (tokens_text tokens) text (placed_from 0 tokens) tokens program (place_in (placed_from 0 tokens) tokens) written lexes
      (all_moved (placed_from 0 tokens) tokens (rises_placed 0 tokens) (same_kinds_back tokens (placed_from 0 tokens) (same_placed 0 tokens))) has
