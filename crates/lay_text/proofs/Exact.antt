-- Bytes say one thing: one sequence, or one fault.
use Rattle.std.proofs.Common.{◌≡◌, ◌≢◌, ℕ, zero, suc, ◌-◌, ◌<◌, ◌≤◌, ◌^◌, List, [], ◌∷◌, ◌++◌, take, drop, map, refl, sym, ap, subst, ◌∙◌, inl, inr, arith, append_assoc, append-nil}
use Rattle.std.specs.Prelude.{◌⊎◌, All}
use Rattle.std.specs.List.{AllByRecursion, sum_by}
use Rattle.std.specs.Str.Lines.{lines}
use Rattle.std.proofs.lemmas.List.{take_all, take-take}
use Rattle.std.proofs.lemmas.List.Elements.{recursion_from_All}
use Rattle.std.proofs.lemmas.List.Sums.{sum_by-cons}
use Rattle.lay_model.specs.Sequences.{Block, Sequence, IsBlock, counted}
use Rattle.text_base.specs.FilledLines.{filled, filled_to, Place, read_to, HasRead, HasReadAll}
use Rattle.lay_lines.specs.BlockText.{scalars_line, block_line, IsBlockOf}
use Rattle.lay_text.specs.SequenceText.{last_line}
use Rattle.lay_text.specs.SequenceReading.{AreLinesOf, Reads, Begins, StatesTooMany, IsFirstFaulty, Says}
use Rattle.lay_text.specs.LineReading.{HasWhole}
use Rattle.lay_text.specs.declared.fault.SeqFault.{SeqFault}
use Rattle.lay_text.specs.declared.fault.SeqFault.TheVariants as faults
use Rattle.lay_lines.proofs.Blocks.{scalars_injective}
use Rattle.lay_text.proofs.LastLine.{block_no_end}
use Rattle.text_base.proofs.FilledTexts.{filled_split}
use Rattle.lay_text.proofs.SequenceLines.{IsOpen, open_lines, sequence_of, file_cut, starts_blocks, StartsNoStep, Continues}
use Rattle.lay_text.proofs.Faults.{faulty, CanGoOn, NotMany, NoneGoesOn, first_not_many}

-- ---- a sequence whose lines are read

each_block : (scalars : ℕ) (blocks : List Block) → AllByRecursion IsBlock blocks → AllByRecursion (λ b. b.weight < 2 ^ 32) blocks → AllByRecursion (λ b. All (λ x. x < scalars) b.accesses) blocks → sum_by counted blocks ≤ 2 ^ 60 → AllByRecursion (IsBlockOf scalars (2 ^ 60)) blocks
each_block scalars [] a w h le = tt {0}
each_block scalars (b ∷ bs) a w h le =
    let sum = sum_by-cons counted b bs in
    (record { block = a.0; weight = w.0; below = h.0; fits = omega (arith, sum) }, each_block scalars bs a.1 w.1 h.1 (omega (arith, sum)))

whole_open : (s : Sequence) (all : List (List ℕ)) → (h : AreLinesOf s all) → IsOpen s.scalars s.step h.steps s.blocks
whole_open s all h =
    let q = h.whole.sequence in
    record {
      few = q.few;
      moves = q.moves;
      near = q.near;
      tell = h.tell;
      each = each_block s.scalars s.blocks (recursion_from_All IsBlock s.blocks q.blocks) (recursion_from_All (λ b. b.weight < 2 ^ 32) s.blocks h.whole.weights) (recursion_from_All (λ b. All (λ x. x < s.scalars) b.accesses) s.blocks q.scalars) q.countable;
      countable = q.countable;
    }

whole_lines : (s : Sequence) (all : List (List ℕ)) → (h : AreLinesOf s all) → all ≡ open_lines s.scalars h.steps s.blocks ++ last_line ∷ []
whole_lines s all h = h.text ∙ ap (λ l. scalars_line s.scalars ∷ l) (sym (append_assoc h.steps (map block_line s.blocks) (last_line ∷ [])))

starts_more : (blocks : List Block) (more : List (List ℕ)) → StartsNoStep (map block_line blocks ++ last_line ∷ []) → StartsNoStep (map block_line blocks ++ last_line ∷ more)
starts_more [] more h = h
starts_more (b ∷ bs) more h = h

-- what another sequence has behind the same lines, where the last is one of them
continues : (s t : Sequence) (all more : List (List ℕ)) → (h : AreLinesOf s all) → AreLinesOf t (all ++ more) → Continues t s.scalars s.step s.blocks (last_line ∷ more)
continues s t all more h g =
    file_cut t s.scalars s.step h.steps (last_line ∷ more) s.blocks (whole_open s all h) (λ e. starts_more s.blocks more (starts_blocks s.blocks))
    (subst (AreLinesOf t) (ap (λ l. l ++ more) (whole_lines s all h) ∙ append_assoc (open_lines s.scalars h.steps s.blocks) (last_line ∷ []) more) g)

-- no block and no line are behind the last line
record IsAtEnd (blocks : List Block) (more : List (List ℕ)) : Type 0 where
  no_blocks : blocks ≡ []
  no_lines : more ≡ []

at_end : (blocks : List Block) (more : List (List ℕ)) → last_line ∷ more ≡ map block_line blocks ++ last_line ∷ [] → IsAtEnd blocks more
at_end [] more e = record { no_blocks = refl; no_lines = cc }
at_end (b ∷ bs) more e = absurd (block_no_end b (let first : last_line ≡ block_line b = cc in sym first))

same_sequence : (n m d e : ℕ) (b c : List Block) → n ≡ m → d ≡ e → b ≡ c → sequence_of n d b ≡ sequence_of m e c
same_sequence n m d e b c p q r = cc

pub sequences_same : (s t : Sequence) (all : List (List ℕ)) → AreLinesOf s all → AreLinesOf t all → s ≡ t
sequences_same s t all h g =
    let c = continues s t all [] h (subst (AreLinesOf t) (sym (append-nil all)) g) in
    let end = at_end c.go.more [] c.go.text in
    let blocks : t.blocks ≡ s.blocks = c.go.joined ∙ ap (λ l. s.blocks ++ l) end.no_blocks ∙ append-nil s.blocks in
    same_sequence s.scalars t.scalars s.step t.step s.blocks t.blocks (sym c.scalars_are) (sym c.step_is) (sym blocks)

-- a line behind the last one
pub trailing : (p q : Place) (s : Sequence) (line : List ℕ) → HasWhole p s → HasRead (read_to p) line q → IsFirstFaulty q.bytes q.number
trailing p q s line h r = faulty q (read_to p) line r on none few
  where
    on : CanGoOn (read_to p)
    on = record { more = []; sequence = s; lines = subst (AreLinesOf s) (sym (append-nil (read_to p))) h }

    none : NoneGoesOn (read_to p ++ line ∷ [])
    none t more g =
        let c = continues s t (read_to p) (line ∷ more) h (subst (AreLinesOf t) (append_assoc (read_to p) (line ∷ []) more) g) in
        let end = at_end c.go.more (line ∷ more) c.go.text in
        let wrong : line ∷ more ≡ [] = end.no_lines in
        absurd cc

    few : NotMany (read_to p ++ line ∷ [])
    few = subst (λ l. NotMany (l ++ line ∷ [])) (sym h.text) (first_not_many s.scalars ((h.steps ++ (map block_line s.blocks ++ last_line ∷ [])) ++ line ∷ []) h.whole.sequence.few)

pub reads_all : (p q : Place) (s : Sequence) → HasWhole p s → HasReadAll (read_to p) q → Reads q.bytes s
reads_all p q s h r =
    let all : filled (lines q.bytes) ≡ read_to p = ap filled (sym (take_all q.number (lines q.bytes) (omega (arith, r.there)))) ∙ r.all in
    subst (AreLinesOf s) (sym all) h

-- ---- one fault

many_not_read : (bytes : List ℕ) (s : Sequence) (count : ℕ) → Reads bytes s → StatesTooMany bytes count → ⊥
many_not_read bytes s count r m =
    let e : scalars_line s.scalars ∷ (r.steps ++ (map block_line s.blocks ++ last_line ∷ [])) ≡ scalars_line count ∷ m.more = sym r.text ∙ m.text in
    let few = r.whole.sequence.few in
    let same = scalars_injective s.scalars count (omega arith) m.fits cc in
    omega (arith, m.above, same)

-- bytes that are read have no fault
pub says_not_read : (bytes : List ℕ) (s : Sequence) → Reads bytes s → (fault : SeqFault) → Says bytes fault → fault ≡ faults.NoMemory
says_not_read bytes s r (faults.BadLine line) f = absurd (f.wrong s r)
says_not_read bytes s r (faults.TooManyScalars count) m = absurd (many_not_read bytes s count r m)
says_not_read bytes s r faults.NoMemory u = refl

begins_before : (bytes : List ℕ) (m n : ℕ) → m ≤ n → Begins n bytes → Begins m bytes
begins_before bytes m n le b =
    let all = lines bytes in
    let more = filled (drop m (take n all)) ++ b.more in
    let split : filled_to n bytes ++ b.more ≡ filled_to m bytes ++ more =
    ap (λ l. l ++ b.more) (filled_split m (take n all) ∙ ap (λ l. filled l ++ filled (drop m (take n all))) (take-take m n all le)) ∙ append_assoc (filled_to m bytes) (filled (drop m (take n all))) b.more
    in
    record { there = omega (arith, b.there); more = more; sequence = b.sequence; lines = subst (AreLinesOf b.sequence) split b.lines }

line_same : (bytes : List ℕ) (m n : ℕ) → IsFirstFaulty bytes m → IsFirstFaulty bytes n → m ≡ n
line_same bytes m n f g = order (nat_cases m n)
  where
    nat_cases : (a b : ℕ) → (a < b) ⊎ ((b < a) ⊎ (a ≡ b))
    nat_cases zero zero = inr (inr refl)
    nat_cases zero (suc b) = inl (omega arith)
    nat_cases (suc a) zero = inr (inl (omega arith))
    nat_cases (suc a) (suc b) = step (nat_cases a b)
      where
        step : (a < b) ⊎ ((b < a) ⊎ (a ≡ b)) → (suc a < suc b) ⊎ ((suc b < suc a) ⊎ (suc a ≡ suc b))
        step (inl l) = inl (omega arith)
        step (inr (inl l)) = inr (inl (omega arith))
        step (inr (inr e)) = inr (inr (ap suc e))

    order : (m < n) ⊎ ((n < m) ⊎ (m ≡ n)) → m ≡ n
    order (inl l) = absurd (f.here (begins_before bytes m (n - 1) (omega arith) g.before))
    order (inr (inl l)) = absurd (g.here (begins_before bytes n (m - 1) (omega arith) f.before))
    order (inr (inr e)) = e

count_same : (bytes : List ℕ) (m n : ℕ) → StatesTooMany bytes m → StatesTooMany bytes n → m ≡ n
count_same bytes m n f g =
    let e : scalars_line m ∷ f.more ≡ scalars_line n ∷ g.more = sym f.text ∙ g.text in
    scalars_injective m n f.fits g.fits cc

pub says_same : (bytes : List ℕ) (fault other : SeqFault) → fault ≢ faults.NoMemory → Says bytes fault → Says bytes other → (other ≡ fault) ⊎ (other ≡ faults.NoMemory)
says_same bytes faults.NoMemory other some f g = absurd (some refl)
says_same bytes fault faults.NoMemory some f g = inr refl
says_same bytes (faults.BadLine m) (faults.BadLine n) some f g = inl (ap (λ l. faults.BadLine l) (line_same bytes n m g f))
says_same bytes (faults.BadLine m) (faults.TooManyScalars n) some f g = absurd (f.not_many n g)
says_same bytes (faults.TooManyScalars m) (faults.BadLine n) some f g = absurd (g.not_many m f)
says_same bytes (faults.TooManyScalars m) (faults.TooManyScalars n) some f g = inl (ap (λ l. faults.TooManyScalars l) (count_same bytes n m g f))
