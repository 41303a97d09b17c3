-- Which line is faulty.
use Rattle.std.proofs.Common.{◌≡◌, ◌≢◌, ℕ, ◌+◌, ◌-◌, ◌<◌, ◌≤◌, ◌^◌, List, [], ◌∷◌, ◌++◌, length, drop, map, refl, sym, ap, subst, ◌∙◌, inl, inr, arith, append_assoc, append-nil, length-append}
use Rattle.std.specs.Prelude.{All}
use Rattle.std.specs.List.{AllByRecursion, sum_by}
use Rattle.std.specs.Str.Lines.{lines}
use Rattle.std.proofs.lemmas.List.{take_all, map-append}
use Rattle.std.proofs.lemmas.List.Elements.{recursion_from_All}
use Rattle.std.proofs.lemmas.List.Sums.{sum_by_push, sum_by-append, sum_by-cons}
use Rattle.lay_model.specs.Sequences.{Block, Sequence, IsBlock, counted}
use Rattle.text_base.specs.FilledLines.{filled, filled_to, Place, read_to, HasRead, HasReadAll}
use Rattle.lay_lines.specs.BlockText.{scalars_line, step_line, block_line, IsBlockOf}
use Rattle.lay_text.specs.SequenceText.{last_line, file_lines}
use Rattle.lay_text.specs.SequenceReading.{IsWhole, AreLinesOf, StatesTooMany, IsFirstFaulty}
use Rattle.lay_text.specs.LineReading.{HasCount, IsHead, HasWhole}
use Rattle.lay_lines.proofs.Blocks.{scalars_injective, block_no_step}
use Rattle.text_base.proofs.FilledTexts.{filled_split}
use Rattle.lay_text.proofs.SequenceLines.{IsOpen, open_lines, sequence_of, open_whole, file_cut, NoStepBehind, StartsNoStep, Continues}

-- others can follow so that all are the lines of a sequence
pub record CanGoOn (front : List (List ℕ)) : Type 0 where
  pub more : List (List ℕ)
  pub sequence : Sequence
  pub lines : AreLinesOf sequence (front ++ more)

-- no sequence has these lines and others behind them
abbrev pub NoneGoesOn : List (List ℕ) → Type 0
NoneGoesOn front = (s : Sequence) (more : List (List ℕ)) → AreLinesOf s (front ++ more) → ⊥

-- too many scalars aren't stated first
abbrev pub NotMany : List (List ℕ) → Type 0
NotMany front = (count : ℕ) (tail more : List (List ℕ)) → 64 < count → count < 2 ^ 64 → front ++ tail ≢ scalars_line count ∷ more

-- the same where all lines are there
abbrev pub NotManyAtEnd : List (List ℕ) → Type 0
NotManyAtEnd front = (count : ℕ) (more : List (List ℕ)) → 64 < count → count < 2 ^ 64 → front ≢ scalars_line count ∷ more

-- a line behind which none could follow
pub faulty : (p : Place) (front : List (List ℕ)) (line : List ℕ) → HasRead front line p → CanGoOn front → NoneGoesOn (front ++ line ∷ []) → NotMany (front ++ line ∷ []) → IsFirstFaulty p.bytes p.number
faulty p front line r on none few =
    let all = filled_split p.number (lines p.bytes) ∙ ap (λ l. l ++ filled (drop p.number (lines p.bytes))) r.all in
    record {
      wrong = λ s h. none s (filled (drop p.number (lines p.bytes))) (subst (AreLinesOf s) all h);
      from_one = r.from_one;
      before = record {
        there = omega (arith, r.there);
        more = on.more;
        sequence = on.sequence;
        lines = subst (λ l. AreLinesOf on.sequence (l ++ on.more)) (sym r.front) on.lines;
      };
      here = λ b. none b.sequence b.more (subst (λ l. AreLinesOf b.sequence (l ++ b.more)) r.all b.lines);
      not_many = λ count m. few count (filled (drop p.number (lines p.bytes))) m.more m.above m.fits (sym all ∙ m.text);
    }

-- a file that ends early
pub early : (p : Place) (front : List (List ℕ)) (line : ℕ) → HasReadAll front p → line ≡ p.number + 1 → CanGoOn front → ((s : Sequence) → AreLinesOf s front → ⊥) → NotManyAtEnd front → IsFirstFaulty p.bytes line
early p front line r number on none few =
    let all : filled (lines p.bytes) ≡ front = ap filled (sym (take_all p.number (lines p.bytes) (omega (arith, r.there)))) ∙ r.all in
    let before : line - 1 ≡ p.number = omega arith in
    record {
      wrong = λ s h. none s (subst (AreLinesOf s) all h);
      from_one = omega arith;
      before = record {
        there = omega (arith, r.there);
        more = on.more;
        sequence = on.sequence;
        lines = subst (λ l. AreLinesOf on.sequence (l ++ on.more)) (sym (ap (λ n. filled_to n p.bytes) before ∙ r.all)) on.lines;
      };
      here = λ b. omega (arith, b.there, r.there);
      not_many = λ count m. few count m.more m.above m.fits (sym all ∙ m.text);
    }

-- ---- nothing is read yet

no_blocks : IsOpen 0 1 [] []
no_blocks = record { few = omega arith; moves = omega arith; near = omega arith; tell = inr (refl, refl); each = tt {0}; countable = omega arith }

pub nothing_goes_on : CanGoOn []
nothing_goes_on = record {
  more = file_lines [] (sequence_of 0 1 []);
  sequence = sequence_of 0 1 [];
  lines = record { whole = open_whole 0 1 [] [] no_blocks; steps = []; tell = inr (refl, refl); text = refl };
}

pub early_count : (p : Place) (line : ℕ) → HasReadAll [] p → line ≡ p.number + 1 → IsFirstFaulty p.bytes line
early_count p line r number = early p [] line r number nothing_goes_on (λ s h. nothing s h) (λ count more above fits e. absurd cc)
  where
    nothing : (s : Sequence) → AreLinesOf s [] → ⊥
    nothing s h = absurd (let e = h.text in cc)

pub faulty_count : (p : Place) (line : List ℕ) → HasRead [] line p → ((n : ℕ) → n < 2 ^ 64 → line ≢ scalars_line n) → IsFirstFaulty p.bytes p.number
faulty_count p line r none = faulty p [] line r nothing_goes_on
    (λ s more h. let first : line ≡ scalars_line s.scalars = (let e = h.text in cc) in none s.scalars (omega (arith, h.whole.sequence.few)) first)
    (λ count tail more above fits e. let first : line ≡ scalars_line count = cc in none count fits first)

pub too_many : (p : Place) (line : List ℕ) (count : ℕ) → HasRead [] line p → line ≡ scalars_line count → 64 < count → count < 2 ^ 64 → StatesTooMany p.bytes count
too_many p line count r is above fits = record {
  above = above;
  fits = fits;
  more = filled (drop p.number (lines p.bytes));
  text = filled_split p.number (lines p.bytes) ∙ ap (λ l. l ++ filled (drop p.number (lines p.bytes))) (r.all ∙ ap (λ l. l ∷ []) is);
}

-- ---- between the first line and the last

pub open_goes_on : (scalars step : ℕ) (steps : List (List ℕ)) (blocks : List Block) → IsOpen scalars step steps blocks → CanGoOn (open_lines scalars steps blocks)
open_goes_on scalars step steps blocks o = record {
  more = last_line ∷ [];
  sequence = sequence_of scalars step blocks;
  lines = record {
    whole = open_whole scalars step steps blocks o;
    steps = steps;
    tell = o.tell;
    text = ap (λ l. scalars_line scalars ∷ l) (append_assoc steps (map block_line blocks) (last_line ∷ []));
  };
}

pub first_not_many : (scalars : ℕ) (behind : List (List ℕ)) → scalars ≤ 64 → NotMany (scalars_line scalars ∷ behind)
first_not_many scalars behind few count tail more above fits e =
    let same = scalars_injective scalars count (omega arith) fits cc in
    omega (arith, same)

map_blocks_nil : (blocks : List Block) → StartsNoStep (map block_line blocks ++ [])
map_blocks_nil [] = tt {0}
map_blocks_nil (b ∷ bs) = λ d low high. block_no_step b d

not_nothing : (blocks : List Block) → [] ≢ map block_line blocks ++ last_line ∷ []
not_nothing [] e = absurd cc
not_nothing (b ∷ bs) e = absurd cc

middle : {X : Type 0} (P : X → Type 0) (xs : List X) (d : X) (ds : List X) → AllByRecursion P (xs ++ d ∷ ds) → P d
middle P [] d ds a = a.0
middle P (x ∷ xs) d ds a = middle P xs d ds a.1

pub early_blocks : (p : Place) (scalars step line : ℕ) (steps : List (List ℕ)) (blocks : List Block) → IsOpen scalars step steps blocks → HasReadAll (open_lines scalars steps blocks) p → line ≡ p.number + 1 → IsFirstFaulty p.bytes line
early_blocks p scalars step line steps blocks o r number =
    early p (open_lines scalars steps blocks) line r number (open_goes_on scalars step steps blocks o)
    (λ s h.
    let c = file_cut s scalars step steps [] blocks o (λ e. map_blocks_nil blocks) (subst (AreLinesOf s) (sym (append-nil (open_lines scalars steps blocks))) h) in
    not_nothing c.go.more c.go.text)
    (λ count more above fits e. first_not_many scalars (steps ++ map block_line blocks) o.few count [] more above fits (append-nil (open_lines scalars steps blocks) ∙ e))

-- a line that isn't the last one, nor that of a block that may stand there
pub faulty_block : (p : Place) (scalars step room : ℕ) (steps : List (List ℕ)) (blocks : List Block) (line : List ℕ) → IsOpen scalars step steps blocks → sum_by counted blocks + room ≡ 2 ^ 60 → HasRead (open_lines scalars steps blocks) line p
    → NoStepBehind steps blocks (line ∷ []) → line ≢ last_line → ((b : Block) → IsBlockOf scalars room b → line ≢ block_line b) → IsFirstFaulty p.bytes p.number
faulty_block p scalars step room steps blocks line o room_is r behind no_end no_block =
    faulty p (open_lines scalars steps blocks) line r (open_goes_on scalars step steps blocks o)
    (λ s more h.
    let c = file_cut s scalars step steps (line ∷ more) blocks o (λ e. starts_more blocks more (behind e)) (subst (AreLinesOf s) (append_assoc (open_lines scalars steps blocks) (line ∷ []) more) h) in
    stops s more h.whole c c.go.more c.go.joined c.go.text)
    (first_not_many scalars ((steps ++ map block_line blocks) ++ line ∷ []) o.few)
  where
    starts_more : (front : List Block) (more : List (List ℕ)) → StartsNoStep (map block_line front ++ line ∷ []) → StartsNoStep (map block_line front ++ line ∷ more)
    starts_more [] more h = h
    starts_more (b ∷ bs) more h = h

    stops : (s : Sequence) (more : List (List ℕ)) → IsWhole s → Continues s scalars step blocks (line ∷ more) → (next : List Block) → s.blocks ≡ blocks ++ next → line ∷ more ≡ map block_line next ++ last_line ∷ [] → ⊥
    stops s more w c [] joined text = no_end cc
    stops s more w c (b ∷ bs) joined text = no_block b (block_there s b bs w c.scalars_are joined) cc
      where
        block_there : (t : Sequence) (d : Block) (ds : List Block) → IsWhole t → t.scalars ≡ scalars → t.blocks ≡ blocks ++ d ∷ ds → IsBlockOf scalars room d
        block_there t d ds v same is =
            let each = recursion_from_All IsBlock t.blocks v.sequence.blocks in
            let weights = recursion_from_All (λ b. b.weight < 2 ^ 32) t.blocks v.weights in
            let below = recursion_from_All (λ b. All (λ x. x < t.scalars) b.accesses) t.blocks v.sequence.scalars in
            let sum = ap (λ l. sum_by counted l) is ∙ sum_by-append counted blocks (d ∷ ds) ∙ ap (λ n. sum_by counted blocks + n) (sum_by-cons counted d ds) in
            record {
              block = middle IsBlock blocks d ds (subst (AllByRecursion IsBlock) is each);
              weight = middle (λ b. b.weight < 2 ^ 32) blocks d ds (subst (AllByRecursion (λ b. b.weight < 2 ^ 32)) is weights);
              below = subst (λ n. All (λ x. x < n) d.accesses) same (middle (λ b. All (λ x. x < t.scalars) b.accesses) blocks d ds (subst (AllByRecursion (λ b. All (λ x. x < t.scalars) b.accesses)) is below));
              fits = omega (arith, sum, v.sequence.countable, room_is);
            }

pub IsOpen-push : (scalars step room : ℕ) (steps : List (List ℕ)) (blocks : List Block) (b : Block) → IsOpen scalars step steps blocks → sum_by counted blocks + room ≡ 2 ^ 60 → IsBlockOf scalars room b → IsOpen scalars step steps (blocks ++ b ∷ [])
IsOpen-push scalars step room steps blocks b o room_is h = record {
  few = o.few;
  moves = o.moves;
  near = o.near;
  tell = o.tell;
  each = push blocks o.each;
  countable = omega (arith, sum_by_push counted blocks b, room_is, h.fits);
}
  where
    push : (front : List Block) → AllByRecursion (IsBlockOf scalars (2 ^ 60)) front → AllByRecursion (IsBlockOf scalars (2 ^ 60)) (front ++ b ∷ [])
    push [] a = (record { block = h.block; weight = h.weight; below = h.below; fits = omega (arith, h.fits, room_is) }, tt {0})
    push (c ∷ cs) a = (a.0, push cs a.1)

-- ---- the blocks read so far, and the line behind them

pub record BlocksSoFar (p : Place) (scalars step room : ℕ) (line : List ℕ) (blocks : List Block) : Type 0 where
  pub steps : List (List ℕ)
  pub is_open : IsOpen scalars step steps blocks
  pub room_is : sum_by counted blocks + room ≡ 2 ^ 60
  pub read : HasRead (open_lines scalars steps blocks) line p
  pub behind : NoStepBehind steps blocks (line ∷ [])

pub blocks_start : (p : Place) (scalars step : ℕ) (line : List ℕ) → IsHead p scalars step line → BlocksSoFar p scalars step (2 ^ 60) line []
blocks_start p scalars step line h = record {
  steps = h.steps;
  is_open = record { few = h.few; moves = h.moves; near = h.near; tell = h.tell; each = tt {0}; countable = omega arith };
  room_is = refl;
  read = subst (λ l. HasRead (scalars_line scalars ∷ l) line p) (sym (append-nil h.steps)) h.read;
  behind = h.behind;
}

-- the lines up to a block
block_read : (scalars : ℕ) (steps : List (List ℕ)) (blocks : List Block) (b : Block) → open_lines scalars steps blocks ++ block_line b ∷ [] ≡ open_lines scalars steps (blocks ++ b ∷ [])
block_read scalars steps blocks b = ap (λ l. scalars_line scalars ∷ l) (append_assoc steps (map block_line blocks) (block_line b ∷ []) ∙ ap (λ l. steps ++ l) (sym (map-append block_line blocks (b ∷ []))))

pub blocks_more : (p q : Place) (scalars step room left : ℕ) (line next : List ℕ) (blocks new : List Block) (b : Block) → BlocksSoFar p scalars step room line blocks → IsBlockOf scalars room b → line ≡ block_line b → new ≡ blocks ++ b ∷ [] → left + counted b ≡ room → HasRead (read_to p) next q → BlocksSoFar q scalars step left next new
blocks_more p q scalars step room left line next blocks new b s h is pushed room_is r =
    let front : read_to p ≡ open_lines scalars s.steps (blocks ++ b ∷ []) = s.read.all ∙ ap (λ l. open_lines scalars s.steps blocks ++ l ∷ []) is ∙ block_read scalars s.steps blocks b in
    subst (BlocksSoFar q scalars step left next) (sym pushed) (record {
      steps = s.steps;
      is_open = IsOpen-push scalars step room s.steps blocks b s.is_open s.room_is h;
      room_is = omega (arith, sum_by_push counted blocks b, s.room_is);
      read = subst (λ l. HasRead l next q) front r;
      behind = λ e. behind_block blocks;
    })
  where
    behind_block : (front : List Block) → StartsNoStep (map block_line (front ++ b ∷ []) ++ next ∷ [])
    behind_block [] = λ d low high. block_no_step b d
    behind_block (c ∷ cs) = λ d low high. block_no_step c d

pub blocks_early : (p q : Place) (scalars step room line_number : ℕ) (line : List ℕ) (blocks : List Block) (b : Block) → BlocksSoFar p scalars step room line blocks → IsBlockOf scalars room b → line ≡ block_line b → HasReadAll (read_to p) q → line_number ≡ q.number + 1 → IsFirstFaulty q.bytes line_number
blocks_early p q scalars step room line_number line blocks b s h is r number =
    let front : read_to p ≡ open_lines scalars s.steps (blocks ++ b ∷ []) = s.read.all ∙ ap (λ l. open_lines scalars s.steps blocks ++ l ∷ []) is ∙ block_read scalars s.steps blocks b in
    early_blocks q scalars step line_number s.steps (blocks ++ b ∷ []) (IsOpen-push scalars step room s.steps blocks b s.is_open s.room_is h) (subst (λ l. HasReadAll l q) front r) number

pub blocks_faulty : (p : Place) (scalars step room : ℕ) (line : List ℕ) (blocks : List Block) → BlocksSoFar p scalars step room line blocks → line ≢ last_line → ((b : Block) → IsBlockOf scalars room b → line ≢ block_line b) → IsFirstFaulty p.bytes p.number
blocks_faulty p scalars step room line blocks s no_end no_block = faulty_block p scalars step room s.steps blocks line s.is_open s.room_is s.read s.behind no_end no_block

pub blocks_end : (p : Place) (scalars step room : ℕ) (line : List ℕ) (blocks : List Block) → BlocksSoFar p scalars step room line blocks → line ≡ last_line → HasWhole p (sequence_of scalars step blocks)
blocks_end p scalars step room line blocks s is = record {
  whole = open_whole scalars step s.steps blocks s.is_open;
  steps = s.steps;
  tell = s.is_open.tell;
  text = s.read.all ∙ ap (λ l. open_lines scalars s.steps blocks ++ l ∷ []) is ∙ ap (λ l. scalars_line scalars ∷ l) (append_assoc s.steps (map block_line blocks) (last_line ∷ []));
}

-- ---- at each line of the reader

nothing_read : (p : Place) → p.number ≡ 0 → read_to p ≡ []
nothing_read p none = ap (λ n. filled_to n p.bytes) none

pub count_early : (p q : Place) (line : ℕ) → p.number ≡ 0 → HasReadAll (read_to p) q → line ≡ q.number + 1 → IsFirstFaulty q.bytes line
count_early p q line none r number = early_count q line (subst (λ l. HasReadAll l q) (nothing_read p none) r) number

pub count_faulty : (p q : Place) (line : List ℕ) → p.number ≡ 0 → HasRead (read_to p) line q → ((n : ℕ) → n < 2 ^ 64 → line ≢ scalars_line n) → IsFirstFaulty q.bytes q.number
count_faulty p q line none r bad = faulty_count q line (subst (λ l. HasRead l line q) (nothing_read p none) r) bad

pub count_too_many : (p q : Place) (line : List ℕ) (count : ℕ) → p.number ≡ 0 → HasRead (read_to p) line q → line ≡ scalars_line count → 64 < count → count < 2 ^ 64 → StatesTooMany q.bytes count
count_too_many p q line count none r is above fits = too_many q line count (subst (λ l. HasRead l line q) (nothing_read p none) r) is above fits

pub count_read : (p q : Place) (line : List ℕ) (count : ℕ) → p.number ≡ 0 → HasRead (read_to p) line q → line ≡ scalars_line count → count ≤ 64 → HasCount q count
count_read p q line count none r is few = record { few = few; read = r.all ∙ ap (λ l. l ++ line ∷ []) (nothing_read p none) ∙ ap (λ l. l ∷ []) is }

no_step : (scalars : ℕ) → scalars ≤ 64 → IsOpen scalars 1 [] []
no_step scalars few = record { few = few; moves = omega arith; near = omega arith; tell = inr (refl, refl); each = tt {0}; countable = omega arith }

pub head_early : (p q : Place) (scalars line : ℕ) → HasCount p scalars → HasReadAll (read_to p) q → line ≡ q.number + 1 → IsFirstFaulty q.bytes line
head_early p q scalars line h r number = early_blocks q scalars 1 line [] [] (no_step scalars h.few) (subst (λ l. HasReadAll l q) h.read r) number

pub step_early : (p q r : Place) (scalars step number : ℕ) (line : List ℕ) → HasCount p scalars → HasRead (read_to p) line q → 1 ≤ step → step ≤ 8 → line ≡ step_line step → HasReadAll (read_to q) r → number ≡ r.number + 1 → IsFirstFaulty r.bytes number
step_early p q r scalars step number line h a low high is b number_is =
    let front : read_to q ≡ open_lines scalars (step_line step ∷ []) [] = a.all ∙ ap (λ l. l ++ line ∷ []) h.read ∙ ap (λ l. scalars_line scalars ∷ l ∷ []) is in
    early_blocks r scalars step number (step_line step ∷ []) [] (record { few = h.few; moves = low; near = high; tell = inl refl; each = tt {0}; countable = omega arith }) (subst (λ l. HasReadAll l r) front b) number_is

pub head_with_step : (p q r : Place) (scalars step : ℕ) (line next : List ℕ) → HasCount p scalars → HasRead (read_to p) line q → 1 ≤ step → step ≤ 8 → line ≡ step_line step → HasRead (read_to q) next r → IsHead r scalars step next
head_with_step p q r scalars step line next h a low high is b =
    let front : read_to q ≡ scalars_line scalars ∷ step_line step ∷ [] = a.all ∙ ap (λ l. l ++ line ∷ []) h.read ∙ ap (λ l. scalars_line scalars ∷ l ∷ []) is in
    record { few = h.few; moves = low; near = high; steps = step_line step ∷ []; tell = inl refl; read = subst (λ l. HasRead l next r) front b; behind = λ e. absurd cc }

pub head_without_step : (p q : Place) (scalars : ℕ) (line : List ℕ) → HasCount p scalars → HasRead (read_to p) line q → ((d : ℕ) → 1 ≤ d → d ≤ 8 → line ≢ step_line d) → IsHead q scalars 1 line
head_without_step p q scalars line h a none = record { few = h.few; moves = omega arith; near = omega arith; steps = []; tell = inr (refl, refl); read = subst (λ l. HasRead l line q) h.read a; behind = λ e. none }

-- how many lines that aren't blank are left
abbrev pub lines_left : Place → ℕ
lines_left p = length (filled (lines p.bytes)) - length (read_to p)

pub fewer_left : (p q : Place) (line : List ℕ) → q.bytes ≡ p.bytes → HasRead (read_to p) line q → lines_left q < lines_left p
fewer_left p q line same r =
    let total : length (filled (lines q.bytes)) ≡ length (filled (lines p.bytes)) = ap (λ b. length (filled (lines b))) same in
    let all = ap length (filled_split q.number (lines q.bytes)) in
    omega (arith, total, all, length-append (read_to q) (filled (drop q.number (lines q.bytes))), ap length r.all, length-append (read_to p) (line ∷ []))
