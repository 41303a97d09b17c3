-- The lines of blocks.
use Rattle.std.proofs.Common.{◌≡◌, ◌≢◌, ℕ, ◌*◌, ◌<◌, ◌≤◌, ◌^◌, List, [], ◌∷◌, ◌++◌, length, get_or, refl, sym, ap, subst, ◌∙◌, arith, append_assoc, append-nil}
use Rattle.std.specs.Prelude.{decimal, codes, All}
use Rattle.std.specs.List.{AllByRecursion}
use Rattle.std.proofs.lemmas.List.Elements.{recursion_from_All}
use Rattle.std.proofs.lemmas.List.Concat.{flat_map-append}
use Rattle.std.proofs.lemmas.Fmt.{decimal_injective}
use Rattle.lay_model.specs.Sequences.{Block}
use Rattle.text_base.specs.Fields.{IsSpacedOff}
use Rattle.text_base.proofs.Numbers.{same_number, same_behind}
use Rattle.lay_lines.specs.BlockText.{scalars_line, step_line, spaced, block_line, IsBlockOf}

-- ---- accesses

-- numbers of a byte
abbrev pub AreSmall : List ℕ → Type 0
AreSmall numbers = AllByRecursion (λ n. n < 256) numbers

spaced_off : (numbers rest : List ℕ) → IsSpacedOff rest → IsSpacedOff (spaced numbers ++ rest)
spaced_off [] rest p = p
spaced_off (n ∷ ns) rest p = refl

pub spaced_is_off : (numbers : List ℕ) → IsSpacedOff (spaced numbers)
spaced_is_off [] = tt {0}
spaced_is_off (n ∷ ns) = refl

-- what goes on behind some numbers
pub record GoesOn (all front rest : List ℕ) : Type 0 where
  pub more : List ℕ
  pub joined : all ≡ front ++ more
  pub text : rest ≡ spaced more

pub spaced_cut : (all front rest : List ℕ) → AreSmall all → AreSmall front → IsSpacedOff rest → spaced all ≡ spaced front ++ rest → GoesOn all front rest
spaced_cut all [] rest a f p e = record { more = all; joined = refl; text = sym e }
spaced_cut [] (y ∷ ys) rest a f p e = absurd cc
spaced_cut (x ∷ xs) (y ∷ ys) rest a f p e =
    let inner : decimal x ++ spaced xs ≡ (decimal y ++ spaced ys) ++ rest = cc in
    let same = same_number x y (spaced xs) (spaced ys ++ rest) (omega (arith, a.0)) (omega (arith, f.0)) (spaced_is_off xs) (spaced_off ys rest p) (inner ∙ append_assoc (decimal y) (spaced ys) rest) in
    let g = spaced_cut xs ys rest a.1 f.1 p same.1 in
    let head : x ≡ y = same.0 in
    record { more = g.more; joined = cc (g.joined, head); text = g.text }

pub spaced_nil : (numbers : List ℕ) → spaced numbers ≡ [] → numbers ≡ []
spaced_nil [] e = refl
spaced_nil (n ∷ ns) e = absurd cc

AreSmall-append : (xs ys : List ℕ) → AreSmall xs → AreSmall ys → AreSmall (xs ++ ys)
AreSmall-append [] ys a b = b
AreSmall-append (x ∷ xs) ys a b = (a.0, AreSmall-append xs ys a.1 b)

-- the accesses that are read so far, and what is left of the line
pub record AccessesSoFar (bytes rest accesses : List ℕ) (scalars : ℕ) : Type 0 where
  pub text : bytes ≡ spaced accesses ++ rest
  pub below : AllByRecursion (λ scalar. scalar < scalars) accesses
  pub off : IsSpacedOff rest

pub accesses_start : (bytes : List ℕ) (scalars : ℕ) → IsSpacedOff bytes → AccessesSoFar bytes bytes [] scalars
accesses_start bytes scalars p = record { text = refl; below = tt {0}; off = p }

below-push : (scalars : ℕ) (xs : List ℕ) (x : ℕ) → AllByRecursion (λ s. s < scalars) xs → x < scalars → AllByRecursion (λ s. s < scalars) (xs ++ x ∷ [])
below-push scalars [] x a lt = (lt, tt {0})
below-push scalars (y ∷ xs) x a lt = (a.0, below-push scalars xs x a.1 lt)

pub accesses_more : (bytes rest after accesses new : List ℕ) (scalars scalar : ℕ) → AccessesSoFar bytes rest accesses scalars → scalar < scalars → IsSpacedOff after → rest ≡ 32 ∷ (decimal scalar ++ after) → new ≡ accesses ++ scalar ∷ [] → AccessesSoFar bytes after new scalars
accesses_more bytes rest after accesses new scalars scalar s lt p e pushed = record {
  text =
      s.text
      ∙ ap (λ t. spaced accesses ++ t) e
      ∙ sym (append_assoc (spaced accesses) (32 ∷ decimal scalar) after)
      ∙ ap (λ t. t ++ after) (ap (λ t. spaced accesses ++ t) (sym (append-nil (32 ∷ decimal scalar))) ∙ sym (flat_map-append (λ n. 32 ∷ decimal n) accesses (scalar ∷ [])))
      ∙ ap (λ t. spaced t ++ after) (sym pushed);
  below = subst (AllByRecursion (λ s. s < scalars)) (sym pushed) (below-push scalars accesses scalar s.below lt);
  off = p;
}

pub below_small : (scalars : ℕ) (xs : List ℕ) → scalars < 2 ^ 8 → AllByRecursion (λ s. s < scalars) xs → AreSmall xs
below_small scalars [] lt a = tt {0}
below_small scalars (x ∷ xs) lt a = (let small : x < 256 = omega (arith, a.0) in small, below_small scalars xs lt a.1)

pub accesses_end : (bytes rest accesses : List ℕ) (scalars : ℕ) → AccessesSoFar bytes rest accesses scalars → rest ≡ [] → bytes ≡ spaced accesses
accesses_end bytes rest accesses scalars s none = s.text ∙ ap (λ t. spaced accesses ++ t) none ∙ append-nil (spaced accesses)

pub no_accesses : (bytes rest accesses : List ℕ) (scalars : ℕ) → scalars < 2 ^ 8 → AccessesSoFar bytes rest accesses scalars → rest ≢ []
    → ((scalar : ℕ) (after : List ℕ) → scalar < scalars → IsSpacedOff after → rest ≢ 32 ∷ (decimal scalar ++ after))
    → (all : List ℕ) → AllByRecursion (λ s. s < scalars) all → bytes ≢ spaced all
no_accesses bytes rest accesses scalars fits s some none all below e =
    let g = spaced_cut all accesses rest (below_small scalars all fits below) (below_small scalars accesses fits s.below) s.off (sym e ∙ s.text) in
    stops g.more (back accesses g.more (subst (AllByRecursion (λ s. s < scalars)) g.joined below)) g.text
  where
    back : (xs ys : List ℕ) → AllByRecursion (λ s. s < scalars) (xs ++ ys) → AllByRecursion (λ s. s < scalars) ys
    back [] ys a = a
    back (x ∷ xs) ys a = back xs ys a.1

    stops : (more : List ℕ) → AllByRecursion (λ s. s < scalars) more → rest ≡ spaced more → ⊥
    stops [] a t = some t
    stops (x ∷ more) a t = none x (spaced more) a.0 (spaced_is_off more) t

-- ---- lines

pub accesses_same : (xs ys : List ℕ) → AreSmall xs → AreSmall ys → spaced xs ≡ spaced ys → xs ≡ ys
accesses_same xs ys a b e =
    let g = spaced_cut xs ys [] a b (tt {0}) (e ∙ sym (append-nil (spaced ys))) in
    g.joined ∙ ap (λ m. ys ++ m) (spaced_nil g.more (sym g.text)) ∙ append-nil ys

abbrev block_of : ℕ → List ℕ → Block
block_of weight accesses = record { weight = weight; accesses = accesses }

same_block : (w v : ℕ) (a b : List ℕ) → w ≡ v → a ≡ b → block_of w a ≡ block_of v b
same_block w v a b e f = cc

-- a block whose line can be read
pub record IsWritable (b : Block) : Type 0 where
  pub weight : b.weight < 2 ^ 32
  pub small : AreSmall b.accesses

pub block_injective : (b c : Block) → IsWritable b → IsWritable c → block_line b ≡ block_line c → b ≡ c
block_injective b c p q e =
    let inner : decimal b.weight ++ spaced b.accesses ≡ decimal c.weight ++ spaced c.accesses = cc in
    let same = same_number b.weight c.weight (spaced b.accesses) (spaced c.accesses) (omega (arith, p.weight)) (omega (arith, q.weight)) (spaced_is_off b.accesses) (spaced_is_off c.accesses) inner in
    same_block b.weight c.weight b.accesses c.accesses same.0 (accesses_same b.accesses c.accesses p.small q.small same.1)

pub scalars_injective : (m n : ℕ) → m < 2 ^ 64 → n < 2 ^ 64 → scalars_line m ≡ scalars_line n → m ≡ n
scalars_injective m n lt less e = decimal_injective m n lt less cc

pub step_injective : (m n : ℕ) → m < 2 ^ 64 → n < 2 ^ 64 → step_line m ≡ step_line n → m ≡ n
step_injective m n lt less e = decimal_injective m n lt less cc

pub block_no_step : (b : Block) (d : ℕ) → block_line b ≢ step_line d
block_no_step b d e = let first : ◌≡◌ {A = ℕ} 98 115 = ap (λ l. get_or l 0 0) e in omega arith

-- ---- the line of a block

-- its weight, and its accesses behind it
pub weight_same : (line rest : List ℕ) (w : ℕ) (b : Block) → line ≡ codes "block " ++ (decimal w ++ rest) → w < 2 ^ 32 → b.weight < 2 ^ 32 → IsSpacedOff rest → line ≡ block_line b → (w ≡ b.weight) × (rest ≡ spaced b.accesses)
weight_same line rest w b text lt less off is =
    same_number w b.weight rest (spaced b.accesses) (omega arith) (omega arith) off (spaced_is_off b.accesses) (same_behind (codes "block ") (decimal w ++ rest) (decimal b.weight ++ spaced b.accesses) (sym text ∙ is))

pub no_block_without : (line rest : List ℕ) (w scalars room : ℕ) → line ≡ codes "block " ++ (decimal w ++ rest) → w < 2 ^ 32 → IsSpacedOff rest → ((all : List ℕ) → All (λ s. s < scalars) all → rest ≢ spaced all)
    → (b : Block) → IsBlockOf scalars room b → line ≢ block_line b
no_block_without line rest w scalars room text lt off none b h is = none b.accesses h.below (weight_same line rest w b text lt h.weight off is).1

pub block_parts : (line rest accesses : List ℕ) (w scalars room : ℕ) → line ≡ codes "block " ++ (decimal w ++ rest) → w < 2 ^ 32 → IsSpacedOff rest → scalars < 2 ^ 8 → All (λ s. s < scalars) accesses → rest ≡ spaced accesses
    → (b : Block) → IsBlockOf scalars room b → line ≡ block_line b → (w ≡ b.weight) × (accesses ≡ b.accesses)
block_parts line rest accesses w scalars room text lt off fits below read b h is =
    let same = weight_same line rest w b text lt h.weight off is in
    let small = below_small scalars accesses fits (recursion_from_All (λ s. s < scalars) accesses below) in
    let its = below_small scalars b.accesses fits (recursion_from_All (λ s. s < scalars) b.accesses h.below) in
    (same.0, accesses_same accesses b.accesses small its (sym read ∙ same.1))

-- a block without accesses, or one that counts too much
pub no_block_counted : (line rest accesses : List ℕ) (w scalars room : ℕ) → line ≡ codes "block " ++ (decimal w ++ rest) → w < 2 ^ 32 → IsSpacedOff rest → scalars < 2 ^ 8 → All (λ s. s < scalars) accesses → rest ≡ spaced accesses
    → (1 ≤ length accesses → w * length accesses ≤ room → ⊥) → (b : Block) → IsBlockOf scalars room b → line ≢ block_line b
no_block_counted line rest accesses w scalars room text lt off fits below read bad b h is =
    let same = block_parts line rest accesses w scalars room text lt off fits below read b h is in
    let e : b.accesses ≡ accesses = sym same.1 in
    bad (subst (λ l. 1 ≤ length l) e h.block.some) (subst (λ l. w * length l ≤ room) e (subst (λ n. n * length b.accesses ≤ room) (sym same.0) h.fits))
