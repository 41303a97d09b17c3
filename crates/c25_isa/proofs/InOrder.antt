-- An image of pieces one behind another from program word 0 on is linked from them.
use Rattle.std.proofs.Common.{◌≡◌, ◌⊎◌, inl, inr, ℕ, zero, suc, ◌+◌, ◌<◌, ◌≤◌, if◌then◌else◌, List, [], ◌∷◌, ◌++◌, length, get_or, Option, Some, None, refl, ap, ◌∙◌, subst, arith, length-append}
use Rattle.std.specs.Prelude.{slice_get}
use Rattle.std.specs.Str.{bytes_eq}
use Rattle.std.proofs.lemmas.Bool.{cases_lt}
use Rattle.std.proofs.lemmas.Grind.{flat_map-append}
use Rattle.std.proofs.lemmas.List.{get_or-append-add}
use Rattle.std.proofs.lemmas.Option.{same_Some}
use mathlib.Core.Path.{fun_ext}
use Rattle.c25_isa.specs.declared.piece.PieceItem.{PieceItem}
use Rattle.c25_isa.specs.declared.piece.PieceItem.TheVariants.{Do, Mark, Jump, CallTo}
use Rattle.c25_isa.specs.Image.{Contents}
use Rattle.c25_isa.specs.State.{Memory, words_at}
use Rattle.c25_isa.specs.Step.{wrap16}
use Rattle.c25_isa.specs.Table.{first_word, second_word, with_second, length_of, instr_words, code_words}
use Rattle.c25_isa.specs.CodeAt.{WordsAt}
use Rattle.c25_isa.specs.Pieces.{Piece, items_size, mark_address, items_code, piece_code, address_in, places_from, piece_address, pieces_code, range_of, ranges_in, listed_ranges, ListedHaveWords, IsWordOf, Linked}

-- the words of items are as many as the items take
words_then : (first : ℕ) (second : Option ℕ) (rest : List ℕ) → length (with_second first second ++ rest) ≡ length_of second + length rest
words_then first None rest = omega arith
words_then first (Some word) rest = omega arith

pub items_length : (marks : ℕ → ℕ) (names : List ℕ → ℕ) (items : List PieceItem) → length (code_words (items_code marks names items)) ≡ items_size items
items_length marks names [] = refl
items_length marks names (Do i ∷ items) =
    words_then (first_word i) (second_word i) (code_words (items_code marks names items)) ∙ ap (λ n. length_of (second_word i) + n) (items_length marks names items)
items_length marks names (Mark mark ∷ items) = omega (arith, items_length marks names items)
items_length marks names (Jump op to o ∷ items) = omega (arith, items_length marks names items)
items_length marks names (CallTo name o ∷ items) = omega (arith, items_length marks names items)

-- words one behind another stand each where they should
front_word : (a b : List ℕ) (k : ℕ) → k < length a → get_or (a ++ b) k 0 ≡ get_or a k 0
front_word [] b k below = absurd (omega (arith, below))
front_word (w ∷ a) b zero below = refl
front_word (w ∷ a) b (suc k) below = front_word a b k (omega (arith, below))

words_front : (program : Memory) (at : ℕ) (a b : List ℕ) → WordsAt program at (a ++ b) → WordsAt program at a
words_front program at a b there k below = there k (omega (arith, below, length-append a b)) ∙ front_word a b k below

words_back : (program : Memory) (at : ℕ) (a b : List ℕ) → WordsAt program at (a ++ b) → WordsAt program (at + length a) b
words_back program at a b there k below =
    let same : at + length a + k ≡ at + (length a + k) = omega arith in
    ap program same ∙ there (length a + k) (omega (arith, below, length-append a b)) ∙ get_or-append-add a b k 0

-- words between others stand behind those before them
pub stands_between : (front mine back : List ℕ) → WordsAt (words_at (front ++ (mine ++ back))) (length front) mine
stands_between front mine back k below = get_or-append-add front (mine ++ back) k 0 ∙ front_word mine back k below

-- a piece among those that stand one behind another
record StandsAmong (program : Memory) (names : List ℕ → ℕ) (at size : ℕ) (p : Piece) : Type 0 where
  pub stand : WordsAt program at (code_words (piece_code names at p))
  pub within : at + items_size p.items ≤ size

module _ (program : Memory) (names : List ℕ → ℕ) where
  abbrev all_words : ℕ → List Piece → List ℕ
  all_words at all = code_words (pieces_code names at all)

  -- the words of a piece, and those behind it
  parts : (at : ℕ) (q : Piece) (qs : List Piece) → all_words at (q ∷ qs) ≡ code_words (piece_code names at q) ++ all_words (at + items_size q.items) qs
  parts at q qs = flat_map-append instr_words (piece_code names at q) (pieces_code names (at + items_size q.items) qs)

  sizes : (at : ℕ) (q : Piece) (qs : List Piece) → length (all_words at (q ∷ qs)) ≡ items_size q.items + length (all_words (at + items_size q.items) qs)
  sizes at q qs =
      let mine : length (code_words (piece_code names at q)) ≡ items_size q.items = items_length (λ mark. wrap16 (mark_address at q.items mark)) names q.items in
      let both = ap length (parts at q qs) in
      omega (arith, mine, both, length-append (code_words (piece_code names at q)) (all_words (at + items_size q.items) qs))

  among : (at : ℕ) (all : List Piece) → WordsAt program at (all_words at all) → (k : ℕ) (p : Piece) → slice_get all k ≡ Some p → StandsAmong program names (places_from at all k) (at + length (all_words at all)) p
  among at [] there k p is = absurd cc
  among at (q ∷ qs) there zero p is =
      let same : q ≡ p = same_Some q p is in
      let size = sizes at q qs in
      subst (StandsAmong program names at (at + length (all_words at (q ∷ qs)))) same (record {
        stand = words_front program at (code_words (piece_code names at q)) (all_words (at + items_size q.items) qs) (subst (WordsAt program at) (parts at q qs) there);
        within = omega (arith, size);
      })
  among at (q ∷ qs) there (suc k) p is =
      let size = sizes at q qs in
      let mine : length (code_words (piece_code names at q)) ≡ items_size q.items = items_length (λ mark. wrap16 (mark_address at q.items mark)) names q.items in
      let behind = subst (λ n. WordsAt program (at + n) (all_words (at + items_size q.items) qs)) mine (words_back program at (code_words (piece_code names at q)) (all_words (at + items_size q.items) qs) (subst (WordsAt program at) (parts at q qs) there)) in
      let rest = among (at + items_size q.items) qs behind k p is in
      record { stand = rest.stand; within = let ends = rest.within in omega (arith, ends, size) }

  -- each of their words is one of a piece
  filled : (at : ℕ) (all : List Piece) (a : ℕ) → at ≤ a → a < at + length (all_words at all) → (k : ℕ) × IsWordOf (places_from at all) all k a
  filled at [] a from below = absurd (omega (arith, from, below))
  filled at (q ∷ qs) a from below = by (cases_lt a (at + items_size q.items)) (λ more. let size = sizes at q qs in filled (at + items_size q.items) qs a more (omega (arith, below, size)))
    where
      by : (a < at + items_size q.items) ⊎ (at + items_size q.items ≤ a) → (at + items_size q.items ≤ a → (k : ℕ) × IsWordOf (places_from (at + items_size q.items) qs) qs k a) → (k : ℕ) × IsWordOf (places_from at (q ∷ qs)) (q ∷ qs) k a
      by (inl here) rest = (0, record { piece = q; there = refl; begins = from; within = here })
      by (inr more) rest = let r = rest more in (suc r.0, record { piece = r.1.piece; there = r.1.there; begins = r.1.begins; within = r.1.within })

-- pieces stand behind where they begin, and none on a word of another
places_behind : (at : ℕ) (all : List Piece) (k : ℕ) → at ≤ places_from at all k
places_behind at [] k = omega arith
places_behind at (q ∷ qs) zero = omega arith
places_behind at (q ∷ qs) (suc k) = let more = places_behind (at + items_size q.items) qs k in omega (arith, more)

not_both : (at : ℕ) (q : Piece) (qs : List Piece) (k a : ℕ) → IsWordOf (places_from at (q ∷ qs)) (q ∷ qs) zero a → IsWordOf (places_from at (q ∷ qs)) (q ∷ qs) (suc k) a → ⊥
not_both at q qs k a first other =
    let same : items_size q.items ≡ items_size first.piece.items = ap (λ (p : Piece). items_size p.items) (same_Some q first.piece first.there) in
    let low = places_behind (at + items_size q.items) qs k in
    let ends = first.within in
    let begins = other.begins in
    omega (arith, same, low, ends, begins)

further : (at : ℕ) (q : Piece) (qs : List Piece) (k a : ℕ) → IsWordOf (places_from at (q ∷ qs)) (q ∷ qs) (suc k) a → IsWordOf (places_from (at + items_size q.items) qs) qs k a
further at q qs k a h = record { piece = h.piece; there = h.there; begins = h.begins; within = h.within }

apart : (at : ℕ) (all : List Piece) (j k a : ℕ) → IsWordOf (places_from at all) all j a → IsWordOf (places_from at all) all k a → j ≡ k
apart at [] j k a first second = let none = first.there in absurd cc
apart at (q ∷ qs) zero zero a first second = refl
apart at (q ∷ qs) zero (suc k) a first second = absurd (not_both at q qs k a first second)
apart at (q ∷ qs) (suc j) zero a first second = absurd (not_both at q qs j a second first)
apart at (q ∷ qs) (suc j) (suc k) a first second = ap suc (apart (at + items_size q.items) qs j k a (further at q qs j a first) (further at q qs k a second))

-- the addresses of names and the ranges of the listed ones
pub address_in_order : (at : ℕ) (all : List Piece) (name : List ℕ) → piece_address at all name ≡ address_in (places_from at all) all name
address_in_order at [] name = refl
address_in_order at (q ∷ qs) name = ap (λ n. if bytes_eq q.name name then at else n) (address_in_order (at + items_size q.items) qs name)

pub ranges_in_order : (at : ℕ) (all : List Piece) → listed_ranges at all ≡ ranges_in (places_from at all) all
ranges_in_order at [] = refl
ranges_in_order at (q ∷ qs) = ap (λ rest. (if q.listed then range_of q.name at (items_size q.items) ∷ [] else []) ++ rest) (ranges_in_order (at + items_size q.items) qs)

begins_at : (at : ℕ) (all : List Piece) → places_from at all 0 ≡ at
begins_at at [] = refl
begins_at at (q ∷ qs) = refl

abbrev names_in_order : List Piece → List ℕ → ℕ
names_in_order all = λ name. wrap16 (address_in (places_from 0 all) all name)

pub in_order_linked : (all : List Piece) (image : Contents) → image.words ≡ code_words (pieces_code (λ name. wrap16 (piece_address 0 all name)) 0 all) → image.functions ≡ listed_ranges 0 all → ListedHaveWords all → Linked all image
in_order_linked all image words functions listed =
    let named : (λ name. wrap16 (piece_address 0 all name)) ≡ names_in_order all = fun_ext (λ name. ap wrap16 (address_in_order 0 all name)) in
    let are : image.words ≡ code_words (pieces_code (names_in_order all) 0 all) = words ∙ ap (λ names. code_words (pieces_code names 0 all)) named in
    let size : length image.words ≡ length (code_words (pieces_code (names_in_order all) 0 all)) = ap length are in
    let there : WordsAt (words_at image.words) 0 (code_words (pieces_code (names_in_order all) 0 all)) = λ k below. let same : 0 + k ≡ k = omega arith in ap (words_at image.words) same ∙ ap (λ ws. get_or ws k 0) are in
    record {
      place = places_from 0 all;
      first = begins_at 0 all;
      placed = λ k p is.
          let stands = among (words_at image.words) (names_in_order all) 0 all there k p is in
          record { code = stands.stand; within = let ends = stands.within in omega (arith, ends, size) };
      apart = apart 0 all;
      filled = λ a below. filled (words_at image.words) (names_in_order all) 0 all a (omega arith) (omega (arith, below, size));
      functions = functions ∙ ranges_in_order 0 all;
      listed = listed;
    }
