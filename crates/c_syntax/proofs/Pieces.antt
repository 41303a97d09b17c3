-- Two cuts of one text into pieces are the same as far as both go.
use Rattle.std.proofs.Common.{◌≡◌, ◌≢◌, ℕ, List, [], ◌∷◌, ◌++◌, get_or, refl, sym, ap, ◌∙◌, subst, arith, inl, inr, append_assoc}
use Rattle.std.specs.Prelude.{◌⊎◌}
use Rattle.c_syntax.specs.Spelling.{Means}
use Rattle.c_syntax.specs.Lexes.{IsSpace, HasNoCommentEnd, IsComment, IsBlank, IsLongest, Piece, Blank, Spelled, piece_text, pieces_text, MayStand, AllStand}
use Rattle.c_syntax.proofs.Sorts.{Void, Sign, text_sort, sort_of, space_sort}
use Rattle.c_syntax.proofs.Spellings.{means_one, longest_one, spelling_begins, spelling_front}

-- ---- blanks

-- a star and a slash a place further on
apart : (y : ℕ) (r s : List ℕ) → 42 ∷ 47 ∷ r ≡ y ∷ 42 ∷ 47 ∷ s → ⊥
apart y r s e = omega (arith, ap (λ (t : List ℕ). get_or t 1 0) e)

here : (y z : ℕ) (r s back : List ℕ) → 42 ∷ 47 ∷ r ≡ y ∷ z ∷ s → y ∷ z ∷ back ≡ 42 ∷ 47 ∷ back
here y z r s back e =
    let a : 42 ≡ y = ap (λ t. get_or t 0 0) e in
    let b : 47 ≡ z = ap (λ t. get_or t 1 0) e in
    cc (a, b)

end_at_once : (ys r s : List ℕ) → HasNoCommentEnd (ys ++ 42 ∷ []) → 42 ∷ 47 ∷ r ≡ ys ++ 42 ∷ 47 ∷ s → ([] ≡ ys) × (r ≡ s)
end_at_once [] r s h e = (refl, cc)
end_at_once (y ∷ []) r s h e = absurd (apart y r s e)
end_at_once (y ∷ z ∷ ys) r s h e = absurd (h [] (ys ++ 42 ∷ []) (here y z r (ys ++ 42 ∷ 47 ∷ s) (ys ++ 42 ∷ []) e))

-- the first `*/` stands at one place
pub first_end : (xs ys r s : List ℕ) → HasNoCommentEnd (xs ++ 42 ∷ []) → HasNoCommentEnd (ys ++ 42 ∷ []) → xs ++ 42 ∷ 47 ∷ r ≡ ys ++ 42 ∷ 47 ∷ s → (xs ≡ ys) × (r ≡ s)
first_end [] ys r s g h e = end_at_once ys r s h e
first_end (x ∷ xs) [] r s g h e = let f = end_at_once (x ∷ xs) s r g (sym e) in (sym f.0, sym f.1)
first_end (x ∷ xs) (y ∷ ys) r s g h e =
    let f = first_end xs ys r s (λ front back k. g (x ∷ front) back (ap (λ t. x ∷ t) k)) (λ front back k. h (y ∷ front) back (ap (λ t. y ∷ t) k)) cc in
    let same : x ≡ y = cc in
    (cc (f.0, same), f.1)

pub comment_front : (text rest : List ℕ) (h : IsComment text) → text ++ rest ≡ 47 ∷ 42 ∷ (h.inside ++ 42 ∷ 47 ∷ rest)
comment_front text rest h = ap (λ t. t ++ rest) h.whole ∙ ap (λ t. 47 ∷ 42 ∷ t) (append_assoc h.inside (42 ∷ 47 ∷ []) rest)

comment_one : (a r b s : List ℕ) → IsComment a → IsComment b → a ++ r ≡ b ++ s → (a ≡ b) × (r ≡ s)
comment_one a r b s g h e =
    let k = sym (comment_front a r g) ∙ e ∙ comment_front b s h in
    let f = first_end g.inside h.inside r s g.next h.next cc in
    (g.whole ∙ ap (λ t. 47 ∷ 42 ∷ (t ++ 42 ∷ 47 ∷ [])) f.0 ∙ sym h.whole, f.1)

-- no space is the slash of a comment
no_slash : (c : ℕ) (text rest b s : List ℕ) → IsSpace c → text ≡ c ∷ [] → IsComment b → text ++ rest ≡ b ++ s → ⊥
no_slash c text rest b s h is g e =
    let k : c ∷ rest ≡ 47 ∷ 42 ∷ (g.inside ++ 42 ∷ 47 ∷ s) = sym (ap (λ t. t ++ rest) is) ∙ e ∙ comment_front b s g in
    let same : c ≡ 47 = cc in
    let n : Void ≡ Sign = sym (space_sort c h) ∙ ap sort_of same in
    cc

pub blank_one : (a r b s : List ℕ) → IsBlank a → IsBlank b → a ++ r ≡ b ++ s → (a ≡ b) × (r ≡ s)
blank_one a r b s (inl g) (inl h) e =
    let k : g.0 ∷ r ≡ h.0 ∷ s = sym (ap (λ t. t ++ r) g.2) ∙ e ∙ ap (λ t. t ++ s) h.2 in
    let same : g.0 ≡ h.0 = cc in
    (g.2 ∙ ap (λ c. c ∷ []) same ∙ sym h.2, cc)
blank_one a r b s (inl g) (inr h) e = absurd (no_slash g.0 a r b s g.1 g.2 h e)
blank_one a r b s (inr g) (inl h) e = absurd (no_slash h.0 b s a r h.1 h.2 g (sym e))
blank_one a r b s (inr g) (inr h) e = comment_one a r b s g h e

-- where a blank is at the front, no spelling stands
pub blank_no_spelling : (blank rest spelling behind : List ℕ) → IsBlank blank → IsLongest spelling behind → blank ++ rest ≡ spelling ++ behind → ⊥
blank_no_spelling blank rest spelling behind (inl g) h e =
    spelling_begins spelling h.spelled (sym (spelling_front spelling behind h.spelled) ∙ ap text_sort (sym e ∙ ap (λ t. t ++ rest) g.2) ∙ space_sort g.0 g.1)
blank_no_spelling blank rest spelling behind (inr g) h e = h.no_comment (g.inside ++ 42 ∷ 47 ∷ rest, sym e ∙ comment_front blank rest g)

-- ---- pieces

pub piece_one : (p q : Piece) (r r' : List ℕ) → MayStand p r → MayStand q r' → piece_text p ++ r ≡ piece_text q ++ r' → (p ≡ q) × (r ≡ r')
piece_one (Blank a) (Blank b) r r' g h e = let f = blank_one a r b r' g h e in (ap Blank f.0, f.1)
piece_one (Blank a) (Spelled s k) r r' g h e = absurd (blank_no_spelling a r s r' g h.0 e)
piece_one (Spelled s k) (Blank a) r r' g h e = absurd (blank_no_spelling a r' s r h g.0 (sym e))
piece_one (Spelled s j) (Spelled t k) r r' g h e =
    let f = longest_one s r t r' g.0 h.0 e in
    let same : j ≡ k = means_one t j k (subst (λ x. Means x j) f.0 g.1) h.1 in
    (cc (f.0, same), f.1)

-- a piece has a first code
pub piece_begins : (p : Piece) (rest behind : List ℕ) → MayStand p rest → piece_text p ++ behind ≢ []
piece_begins (Blank a) rest behind (inl g) e = let k : g.0 ∷ behind ≡ [] = sym (ap (λ t. t ++ behind) g.2) ∙ e in absurd cc
piece_begins (Blank a) rest behind (inr g) e = let k = sym (comment_front a behind g) ∙ e in absurd cc
piece_begins (Spelled s k) rest behind g e = spelling_begins s g.0.spelled (sym (spelling_front s behind g.0.spelled) ∙ ap text_sort e)

-- one list of pieces is the front of the other
pub record GoesOn (ps qs : List Piece) (r q : List ℕ) : Type 0 where
  pub more : List Piece
  pub joined : qs ≡ ps ++ more
  pub stand : AllStand more q
  pub rest : r ≡ pieces_text more ++ q

goes_on_behind : (p p' : Piece) (ps qs : List Piece) (r q : List ℕ) → p ≡ p' → GoesOn ps qs r q → GoesOn (p ∷ ps) (p' ∷ qs) r q
goes_on_behind p p' ps qs r q e g = record { more = g.more; joined = cc (e, g.joined); stand = g.stand; rest = g.rest }

pub pieces_linear : (ps qs : List Piece) (r q : List ℕ) → AllStand ps r → AllStand qs q → pieces_text ps ++ r ≡ pieces_text qs ++ q → GoesOn ps qs r q ⊎ GoesOn qs ps q r
pieces_linear [] qs r q g h e = inl (record { more = qs; joined = refl; stand = h; rest = e })
pieces_linear (p ∷ ps) [] r q g h e = inr (record { more = p ∷ ps; joined = refl; stand = g; rest = sym e })
pieces_linear (p ∷ ps) (p' ∷ qs) r q g h e =
    let k = sym (append_assoc (piece_text p) (pieces_text ps) r) ∙ e ∙ append_assoc (piece_text p') (pieces_text qs) q in
    let f = piece_one p p' (pieces_text ps ++ r) (pieces_text qs ++ q) g.0 h.0 k in
    pick f.0 (pieces_linear ps qs r q g.1 h.1 f.1)
  where
    pick : p ≡ p' → GoesOn ps qs r q ⊎ GoesOn qs ps q r → GoesOn (p ∷ ps) (p' ∷ qs) r q ⊎ GoesOn (p' ∷ qs) (p ∷ ps) q r
    pick same (inl a) = inl (goes_on_behind p p' ps qs r q same a)
    pick same (inr a) = inr (goes_on_behind p' p qs ps q r (sym same) a)
