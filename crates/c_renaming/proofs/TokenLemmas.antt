-- Tokens that are others renamed, and how they are cut.
use Rattle.std.proofs.Common.{◌≡◌, ◌≢◌, ℕ, List, [], ◌∷◌, ◌++◌, refl, sym, ap, ◌∙◌, subst}
use Rattle.c_tree.specs.c_syntax.declared.token.Token.{Token}
use Rattle.c_tree.specs.c_syntax.declared.token.TokenKind.{TokenKind}
use Rattle.c_tree.specs.c_syntax.declared.token.TokenKind.TheVariants.{Word, Name, Number, Char, Mark}
use Rattle.c_tree.specs.c_syntax.declared.token.Keyword.{Keyword}
use Rattle.c_tree.specs.c_syntax.declared.token.Punct.{Punct}
use Rattle.c_tree.specs.c_syntax.Grammar.{IsMark, IsKeyword, place_of}
use Rattle.c_renaming.specs.Renaming.{Renaming}
use Rattle.c_renaming.specs.RenamedTokens.{renamed_kind, IsRenamed, AreRenamed}

-- some tokens are others renamed
pub record Renames (r : Renaming) (tokens others : List Token) : Type 0 where
  pub are : AreRenamed r tokens others

-- the kinds of tokens
pub mark_kept : {r : Renaming} {t o : Token} {m : Punct} → IsRenamed r t o → IsMark m t → IsMark m o
mark_kept {r} h m = h.kind ∙ ap (renamed_kind r) m

pub keyword_kept : {r : Renaming} {t o : Token} {k : Keyword} → IsRenamed r t o → IsKeyword k t → IsKeyword k o
keyword_kept {r} h k = h.kind ∙ ap (renamed_kind r) k

pub name_kept : {r : Renaming} {t o : Token} (name : List ℕ) → IsRenamed r t o → t.kind ≡ Name name → o.kind ≡ Name (r.name name)
name_kept {r} name h k = h.kind ∙ ap (renamed_kind r) k

pub kind_kept : {r : Renaming} {t o : Token} (k : TokenKind) → IsRenamed r t o → t.kind ≡ k → o.kind ≡ renamed_kind r k
kind_kept {r} k h e = h.kind ∙ ap (renamed_kind r) e

word_was : (r : Renaming) (kind : TokenKind) (k : Keyword) → renamed_kind r kind ≡ Word k → kind ≡ Word k
word_was r (Word keyword) k e = e
word_was r (Name name) k e = cc
word_was r (Number value marked decimal) k e = cc
word_was r (Char value) k e = cc
word_was r (Mark mark) k e = cc

pub keyword_was : {r : Renaming} {t o : Token} {k : Keyword} → IsRenamed r t o → IsKeyword k o → IsKeyword k t
keyword_was {r} {t} {o} {k} h e = word_was r t.kind k (sym h.kind ∙ e)

-- the place of the first
pub place_kept : {r : Renaming} {tokens others : List Token} → tokens ≢ [] → Renames r tokens others → place_of others ≡ r.place (place_of tokens)
place_kept {r} {tokens} {others} some h = go tokens others some h.are
  where
    go : (tokens others : List Token) → tokens ≢ [] → AreRenamed r tokens others → place_of others ≡ r.place (place_of tokens)
    go [] others some h = absurd (some refl)
    go (t ∷ tokens) [] some h = absurd h
    go (t ∷ tokens) (o ∷ others) some h = h.0.place

pub some_at : {tokens : List Token} (a : List Token) (t : Token) (b : List Token) → tokens ≡ a ++ t ∷ b → tokens ≢ []
some_at [] t b e none = cc
some_at (x ∷ a) t b e none = cc

pub some_front : {tokens : List Token} (a b : List Token) → tokens ≡ a ++ b → a ≢ [] → tokens ≢ []
some_front [] b e some none = some refl
some_front (x ∷ a) b e some none = cc

-- a cut of two parts
pub record Cut (r : Renaming) (tokens others a b : List Token) : Type 0 where
  pub front : List Token
  pub back : List Token
  pub is : others ≡ front ++ back
  pub first : Renames r a front
  pub second : Renames r b back

cut_of : (r : Renaming) (others a b : List Token) → AreRenamed r (a ++ b) others → Cut r (a ++ b) others a b
cut_of r others [] b h = record { front = []; back = others; is = refl; first = record { are = tt }; second = record { are = h } }
cut_of r [] (x ∷ a) b h = absurd h
cut_of r (y ∷ others) (x ∷ a) b h =
    let c = cut_of r others a b h.1 in
    record { front = y ∷ c.front; back = c.back; is = ap (λ l. y ∷ l) c.is; first = record { are = (h.0, c.first.are) }; second = c.second }

pub cut : {r : Renaming} {tokens others : List Token} (a b : List Token) → tokens ≡ a ++ b → Renames r tokens others → Cut r tokens others a b
cut {r} {tokens} {others} a b e h = subst (λ l. Cut r l others a b) (sym e) (cut_of r others a b (subst (λ l. AreRenamed r l others) e h.are))

-- nothing
pub none_of : {r : Renaming} {tokens others : List Token} → tokens ≡ [] → Renames r tokens others → others ≡ []
none_of {r} {tokens} {others} e h = go others (subst (λ l. AreRenamed r l others) e h.are)
  where
    go : (others : List Token) → AreRenamed r [] others → others ≡ []
    go [] h = refl
    go (o ∷ others) h = absurd h

-- a token in front
pub record First (r : Renaming) (tokens others : List Token) (t : Token) (a : List Token) : Type 0 where
  pub token : Token
  pub back : List Token
  pub is : others ≡ token ∷ back
  pub renamed : IsRenamed r t token
  pub rest : Renames r a back
  pub place : place_of others ≡ r.place (place_of tokens)

first_of_list : (r : Renaming) (others : List Token) (t : Token) (a : List Token) → AreRenamed r (t ∷ a) others → First r (t ∷ a) others t a
first_of_list r [] t a h = absurd h
first_of_list r (o ∷ others) t a h = record { token = o; back = others; is = refl; renamed = h.0; rest = record { are = h.1 }; place = h.0.place }

pub first_token : {r : Renaming} {tokens others : List Token} (t : Token) (a : List Token) → tokens ≡ t ∷ a → Renames r tokens others → First r tokens others t a
first_token {r} {tokens} {others} t a e h = subst (λ l. First r l others t a) (sym e) (first_of_list r others t a (subst (λ l. AreRenamed r l others) e h.are))

-- one token alone
pub record Only (r : Renaming) (others : List Token) (t : Token) : Type 0 where
  pub token : Token
  pub is : others ≡ token ∷ []
  pub renamed : IsRenamed r t token

pub only : {r : Renaming} {tokens others : List Token} (t : Token) → tokens ≡ t ∷ [] → Renames r tokens others → Only r others t
only t e h =
    let c = first_token t [] e h in
    record { token = c.token; is = c.is ∙ ap (λ l. c.token ∷ l) (none_of refl c.rest); renamed = c.renamed }

-- a token between two parts
pub record CutAt (r : Renaming) (tokens others a : List Token) (t : Token) (b : List Token) : Type 0 where
  pub front : List Token
  pub token : Token
  pub back : List Token
  pub is : others ≡ front ++ token ∷ back
  pub first : Renames r a front
  pub renamed : IsRenamed r t token
  pub second : Renames r b back
  pub place : place_of others ≡ r.place (place_of tokens)

pub cut_at : {r : Renaming} {tokens others : List Token} (a : List Token) (t : Token) (b : List Token) → tokens ≡ a ++ t ∷ b → Renames r tokens others → CutAt r tokens others a t b
cut_at a t b e h =
    let c = cut a (t ∷ b) e h in
    let d = first_token t b refl c.second in
    record {
      front = c.front;
      token = d.token;
      back = d.back;
      is = c.is ∙ ap (λ l. c.front ++ l) d.is;
      first = c.first;
      renamed = d.renamed;
      second = d.rest;
      place = place_kept (some_at a t b e) h;
    }

-- a token at the end
pub record CutEnd (r : Renaming) (tokens others a : List Token) (t : Token) : Type 0 where
  pub front : List Token
  pub token : Token
  pub is : others ≡ front ++ token ∷ []
  pub first : Renames r a front
  pub renamed : IsRenamed r t token
  pub place : place_of others ≡ r.place (place_of tokens)

pub cut_end : {r : Renaming} {tokens others : List Token} (a : List Token) (t : Token) → tokens ≡ a ++ t ∷ [] → Renames r tokens others → CutEnd r tokens others a t
cut_end a t e h =
    let c = cut_at a t [] e h in
    record { front = c.front; token = c.token; is = c.is ∙ ap (λ l. c.front ++ c.token ∷ l) (none_of refl c.second); first = c.first; renamed = c.renamed; place = c.place }

-- tokens between two that enclose them
pub record Enclosed (r : Renaming) (tokens others : List Token) (t : Token) (a : List Token) (u : Token) : Type 0 where
  pub left : Token
  pub middle : List Token
  pub right : Token
  pub is : others ≡ left ∷ middle ++ right ∷ []
  pub left_renamed : IsRenamed r t left
  pub inner : Renames r a middle
  pub right_renamed : IsRenamed r u right
  pub place : place_of others ≡ r.place (place_of tokens)

pub enclosed : {r : Renaming} {tokens others : List Token} (t : Token) (a : List Token) (u : Token) → tokens ≡ t ∷ a ++ u ∷ [] → Renames r tokens others → Enclosed r tokens others t a u
enclosed t a u e h =
    let c = cut_end (t ∷ a) u e h in
    let d = first_token t a refl c.first in
    record {
      left = d.token;
      middle = d.back;
      right = c.token;
      is = c.is ∙ ap (λ l. l ++ c.token ∷ []) d.is;
      left_renamed = d.renamed;
      inner = d.rest;
      right_renamed = c.renamed;
      place = c.place;
    }

-- what one token alone was
pub record Was (r : Renaming) (tokens : List Token) (o : Token) : Type 0 where
  pub token : Token
  pub is : tokens ≡ token ∷ []
  pub renamed : IsRenamed r token o

pub was_one : {r : Renaming} {tokens others : List Token} (o : Token) → others ≡ o ∷ [] → Renames r tokens others → Was r tokens o
was_one {r} {tokens} {others} o e h = go tokens (subst (λ l. AreRenamed r tokens l) e h.are)
  where
    go : (tokens : List Token) → AreRenamed r tokens (o ∷ []) → Was r tokens o
    go [] h = absurd h
    go (t ∷ []) h = record { token = t; is = refl; renamed = h.0 }
    go (t ∷ u ∷ tokens) h = absurd h.1
