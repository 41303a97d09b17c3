-- The lines of a sequence, read from the first on.
use Rattle.std.proofs.Common.{◌≡◌, ◌≢◌, ℕ, ◌<◌, ◌≤◌, ◌^◌, List, [], ◌∷◌, ◌++◌, map, refl, sym, ap, ◌∙◌, inl, inr, arith, append_assoc}
use Rattle.std.specs.List.{AllByRecursion, sum_by}
use Rattle.std.proofs.lemmas.List.Elements.{All-from_recursion, recursion_from_All}
use Rattle.lay_model.specs.Sequences.{Block, Sequence, counted}
use Rattle.lay_lines.specs.BlockText.{scalars_line, step_line, block_line, IsBlockOf}
use Rattle.lay_text.specs.SequenceText.{last_line}
use Rattle.lay_text.specs.SequenceReading.{IsWhole, TellStep, AreLinesOf}
use Rattle.lay_lines.proofs.Blocks.{IsWritable, below_small, block_injective, scalars_injective, step_injective, block_no_step}
use Rattle.lay_text.proofs.LastLine.{block_no_end, end_no_step}

abbrev pub AreWritable : List Block → Type 0
AreWritable blocks = AllByRecursion IsWritable blocks

pub whole_writable : (s : Sequence) → IsWhole s → AreWritable s.blocks
whole_writable s w = recursion_from_All IsWritable s.blocks (λ k d lt. record {
  weight = w.weights k d lt;
  small = below_small s.scalars _ (omega (arith, w.sequence.few)) (recursion_from_All (λ x. x < s.scalars) _ (w.sequence.scalars k d lt));
})

-- ---- blocks

-- what goes on behind some blocks
pub record BlocksGoOn (all front : List Block) (rest : List (List ℕ)) : Type 0 where
  pub more : List Block
  pub joined : all ≡ front ++ more
  pub text : rest ≡ map block_line more ++ last_line ∷ []

blocks_cut : (all front : List Block) (rest : List (List ℕ)) → AreWritable all → AreWritable front → map block_line front ++ rest ≡ map block_line all ++ last_line ∷ [] → BlocksGoOn all front rest
blocks_cut all [] rest a f e = record { more = all; joined = refl; text = e }
blocks_cut [] (b ∷ bs) rest a f e = absurd (block_no_end b cc)
blocks_cut (c ∷ cs) (b ∷ bs) rest a f e =
    let same = block_injective c b a.0 f.0 cc in
    let g = blocks_cut cs bs rest a.1 f.1 cc in
    record { more = g.more; joined = cc (g.joined, same); text = g.text }

-- ---- the step

-- the first line isn't that of a step
abbrev pub StartsNoStep : List (List ℕ) → Type 0
StartsNoStep [] = Unit {0}
StartsNoStep (line ∷ more) = (d : ℕ) → 1 ≤ d → d ≤ 8 → line ≢ step_line d

pub starts_blocks : (all : List Block) → StartsNoStep (map block_line all ++ last_line ∷ [])
starts_blocks [] = λ d low high. end_no_step d
starts_blocks (b ∷ bs) = λ d low high. block_no_step b d

not_at_step : (d : ℕ) (more rest : List (List ℕ)) → 1 ≤ d → d ≤ 8 → rest ≡ step_line d ∷ more → StartsNoStep rest → ⊥
not_at_step d more [] low high e h = absurd cc
not_at_step d more (line ∷ rest) low high e h = h d low high cc

-- the same lines tell one step
pub record SameStep (one two x y : List (List ℕ)) (d e : ℕ) : Type 0 where
  pub step : d ≡ e
  pub lines : one ≡ two
  pub rest : x ≡ y

steps_cut : (one two x y : List (List ℕ)) (d e : ℕ) → TellStep one d → TellStep two e → 1 ≤ d → d ≤ 8 → 1 ≤ e → e ≤ 8 → (one ≡ [] → StartsNoStep x) → StartsNoStep y → one ++ x ≡ two ++ y → SameStep one two x y d e
steps_cut one two x y d e (inl p) (inl q) a b f g h k t =
    let both : step_line d ∷ x ≡ step_line e ∷ y = ap (λ o. o ++ x) (sym p) ∙ t ∙ ap (λ o. o ++ y) q in
    let same = step_injective d e (omega arith) (omega arith) cc in
    record { step = same; lines = p ∙ ap (λ n. step_line n ∷ []) same ∙ sym q; rest = cc }
steps_cut one two x y d e (inl p) (inr q) a b f g h k t =
    absurd (not_at_step d x y a b (sym (ap (λ o. o ++ x) (sym p) ∙ t ∙ ap (λ o. o ++ y) q.0)) k)
steps_cut one two x y d e (inr p) (inl q) a b f g h k t =
    absurd (not_at_step e y x f g (ap (λ o. o ++ x) (sym p.0) ∙ t ∙ ap (λ o. o ++ y) q) (h p.0))
steps_cut one two x y d e (inr p) (inr q) a b f g h k t =
    record { step = p.1 ∙ sym q.1; lines = p.0 ∙ sym q.0; rest = ap (λ o. o ++ x) (sym p.0) ∙ t ∙ ap (λ o. o ++ y) q.0 }

-- ---- the lines up to some block

-- the lines before the last, as far as they are read
abbrev pub open_lines : ℕ → List (List ℕ) → List Block → List (List ℕ)
open_lines scalars steps blocks = scalars_line scalars ∷ (steps ++ map block_line blocks)

pub record IsOpen (scalars step : ℕ) (steps : List (List ℕ)) (blocks : List Block) : Type 0 where
  pub few : scalars ≤ 64
  pub moves : 1 ≤ step
  pub near : step ≤ 8
  pub tell : TellStep steps step
  pub each : AllByRecursion (IsBlockOf scalars (2 ^ 60)) blocks
  pub countable : sum_by counted blocks ≤ 2 ^ 60

abbrev pub sequence_of : ℕ → ℕ → List Block → Sequence
sequence_of scalars step blocks = record { scalars = scalars; step = step; blocks = blocks }

pub open_writable : (scalars : ℕ) (blocks : List Block) → scalars ≤ 64 → AllByRecursion (IsBlockOf scalars (2 ^ 60)) blocks → AreWritable blocks
open_writable scalars [] le a = tt {0}
open_writable scalars (b ∷ bs) le a = (record { weight = a.0.weight; small = below_small scalars b.accesses (omega arith) (recursion_from_All (λ x. x < scalars) b.accesses a.0.below) }, open_writable scalars bs le a.1)

-- what is read so far is a sequence itself
pub open_whole : (scalars step : ℕ) (steps : List (List ℕ)) (blocks : List Block) → IsOpen scalars step steps blocks → IsWhole (sequence_of scalars step blocks)
open_whole scalars step steps blocks o =
    let each = All-from_recursion (IsBlockOf scalars (2 ^ 60)) blocks o.each in
    record {
      sequence = record {
        few = o.few;
        moves = o.moves;
        near = o.near;
        blocks = λ k d lt. (each k d lt).block;
        scalars = λ k d lt. (each k d lt).below;
        countable = o.countable;
      };
      weights = λ k d lt. (each k d lt).weight;
    }

-- another sequence whose lines begin with these has what was read, and goes on
pub record Continues (s : Sequence) (scalars step : ℕ) (blocks : List Block) (rest : List (List ℕ)) : Type 0 where
  pub scalars_are : s.scalars ≡ scalars
  pub step_is : s.step ≡ step
  pub go : BlocksGoOn s.blocks blocks rest

-- a line of blocks or the last one stands behind a missing step
abbrev pub NoStepBehind : List (List ℕ) → List Block → List (List ℕ) → Type 0
NoStepBehind steps blocks rest = steps ≡ [] → StartsNoStep (map block_line blocks ++ rest)

pub file_cut : (s : Sequence) (scalars step : ℕ) (steps rest : List (List ℕ)) (blocks : List Block) → IsOpen scalars step steps blocks → NoStepBehind steps blocks rest → AreLinesOf s (open_lines scalars steps blocks ++ rest) → Continues s scalars step blocks rest
file_cut s scalars step steps rest blocks o behind h =
    let text : scalars_line scalars ∷ ((steps ++ map block_line blocks) ++ rest) ≡ scalars_line s.scalars ∷ (h.steps ++ (map block_line s.blocks ++ last_line ∷ [])) = h.text in
    let q = h.whole.sequence in
    let first = scalars_injective scalars s.scalars (omega (arith, o.few)) (omega (arith, q.few)) cc in
    let inner : steps ++ (map block_line blocks ++ rest) ≡ h.steps ++ (map block_line s.blocks ++ last_line ∷ []) = sym (append_assoc steps (map block_line blocks) rest) ∙ cc in
    let t = steps_cut steps h.steps (map block_line blocks ++ rest) (map block_line s.blocks ++ last_line ∷ []) step s.step o.tell h.tell o.moves o.near q.moves q.near behind (starts_blocks s.blocks) inner in
    record {
      scalars_are = sym first;
      step_is = sym t.step;
      go = blocks_cut s.blocks blocks rest (whole_writable s h.whole) (open_writable scalars blocks o.few o.each) t.rest;
    }
