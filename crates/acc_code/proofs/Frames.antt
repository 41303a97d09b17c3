-- The blocks of a function whose scalars are those of its frame.
use Rattle.std.proofs.Common.{◌≡◌, ◌*◌, ◌^◌, subst, sym, ℕ, refl, ap, List, [], ◌∷◌, ◌++◌, ◌<◌, ◌≤◌, length, map, arith}
use Rattle.std.specs.Prelude.{All}
use Rattle.std.specs.List.{AllByRecursion, sum_by}
use Rattle.std.proofs.lemmas.List.Sums.{sum_by-cons}
use Rattle.std.proofs.lemmas.List.Elements.{All-from_recursion, recursion_from_All}
use Rattle.lay_model.specs.Sequences.{Block, IsBlock, IsSequence, counted}
use Rattle.acc_code.specs.AccTree.{Item, Op, If, Loop, Switch, Case, Clear, Call, Helper, Break, Continue, Return, ItemList, end, item, FunctionItems}
use Rattle.acc_code.specs.AccSequence.{Rest, IsAccessBlock, IsInFrame, NamesBelow, blocks_of, accesses, item_accesses, operand_accesses, cut, once}
use Rattle.acc_code.specs.Emittable.{Throughout, Within}
use Rattle.acc_code.specs.declared.operand.AccOperand.{AccOperand}
use Rattle.acc_code.specs.declared.operand.AccOperand.TheVariants as operand
use Rattle.acc_code.specs.declared.operation.AccOp.{AccOp}

-- scalars below a number, and lists of them that aren't empty
abbrev Scalars : ℕ → List ℕ → Type 0
Scalars n xs = AllByRecursion (λ k. k < n) xs

record IsAccessList (n : ℕ) (xs : List ℕ) : Type 0 where
  pub some : 1 ≤ length xs
  pub below : Scalars n xs

abbrev AreLists : ℕ → List (List ℕ) → Type 0
AreLists n bs = AllByRecursion (IsAccessList n) bs

abbrev Keeps : ℕ → Rest → Type 0
Keeps n κ = (o : List ℕ) → Scalars n o → AreLists n (κ o)

one_more : (n k : ℕ) (o : List ℕ) → Scalars n o → k < n → Scalars n (o ++ k ∷ [])
one_more n k [] h lt = (lt, tt)
one_more n k (x ∷ xs) h lt = (h.0, one_more n k xs h.1 lt)

cut_keeps : (n : ℕ) (κ : Rest) → Keeps n κ → Keeps n (cut κ)
cut_keeps n κ h [] below = h [] tt
cut_keeps n κ h (x ∷ xs) below = (record { some = omega arith; below = below }, h [] tt)

operand_keeps : (n : ℕ) (o : AccOp) (m : AccOperand) (κ : Rest) → NamesBelow n (Op o m) → Keeps n κ → Keeps n (operand_accesses m κ)
operand_keeps n o (operand.Scalar k) κ lt h = λ block below. h (block ++ k ∷ []) (one_more n k block below lt)
operand_keeps n o operand.Nothing κ lt h = h
operand_keeps n o (operand.Direct v) κ lt h = h
operand_keeps n o (operand.Param f k) κ lt h = h
operand_keeps n o (operand.Scratch k) κ lt h = h
operand_keeps n o (operand.Number w) κ lt h = h
operand_keeps n o (operand.Address v k) κ lt h = h
operand_keeps n o operand.Pointed κ lt h = h

mutual
  item_keeps : (n : ℕ) (x : Item) → NamesBelow n x → Within (NamesBelow n) x → (κ : Rest) → Keeps n κ → Keeps n (item_accesses x κ)
  item_keeps n (Op o m) p w κ h = operand_keeps n o m κ p h
  item_keeps n (If test hit miss) p w κ h =
      cut_keeps n _ (list_keeps n hit w.0 _ (cut_keeps n _ (list_keeps n miss w.1 _ (cut_keeps n κ h))))
  item_keeps n (Loop before body behind last) p w κ h =
      cut_keeps n _ (list_keeps n before w.0 _ (cut_keeps n _ (list_keeps n body w.1 _ (cut_keeps n _ (list_keeps n behind w.2 _ (cut_keeps n κ h))))))
  item_keeps n (Switch labels body) p w κ h = cut_keeps n _ (list_keeps n body w _ (cut_keeps n κ h))
  item_keeps n (Case k) p w κ h = cut_keeps n κ h
  item_keeps n (Clear v from) p w κ h = cut_keeps n κ h
  item_keeps n (Call f) p w κ h = cut_keeps n κ h
  item_keeps n (Helper name) p w κ h = cut_keeps n κ h
  item_keeps n Break p w κ h = cut_keeps n κ h
  item_keeps n Continue p w κ h = cut_keeps n κ h
  item_keeps n Return p w κ h = cut_keeps n κ h

  list_keeps : (n : ℕ) (xs : ItemList) → Throughout (NamesBelow n) xs → (κ : Rest) → Keeps n κ → Keeps n (accesses xs κ)
  list_keeps n end w κ h = h
  list_keeps n (item x xs) w κ h = item_keeps n x w.0 w.1 (accesses xs κ) (list_keeps n xs w.2 κ h)

once_lists : (n : ℕ) (bs : List (List ℕ)) → AreLists n bs → AllByRecursion (IsAccessBlock n) (map once bs)
once_lists n [] h = tt
once_lists n (b ∷ bs) h = (record { counts = refl; some = h.0.some; below = All-from_recursion (λ k. k < n) b h.0.below }, once_lists n bs h.1)

-- each block of a function counts once, has an access, and scalars of its frame
pub blocks_in_frame : (f : FunctionItems) → IsInFrame f → All (IsAccessBlock f.scalars) (map once (blocks_of f.body))
blocks_in_frame f h =
    All-from_recursion (IsAccessBlock f.scalars) (map once (blocks_of f.body))
    (once_lists f.scalars (blocks_of f.body) (list_keeps f.scalars f.body h.below (cut (λ block. [])) (cut_keeps f.scalars (λ block. []) (λ o below. tt)) [] tt))

weights : (n : ℕ) (bs : List Block) → AllByRecursion (IsAccessBlock n) bs → sum_by counted bs ≡ sum_by (λ b. length b.accesses) bs
weights n [] h = refl
weights n (b ∷ bs) h =
    let one = ap (λ w. w * length b.accesses) h.0.counts in let rest = weights n bs h.1
    in let left = sum_by-cons counted b bs in let right = sum_by-cons (λ c. length c.accesses) b bs in omega (arith, one, rest, left, right)

blocks_are : (n : ℕ) (bs : List Block) → AllByRecursion (IsAccessBlock n) bs → AllByRecursion IsBlock bs
blocks_are n [] h = tt
blocks_are n (b ∷ bs) h = (record { counts = let one = h.0.counts in omega (arith, one); some = h.0.some }, blocks_are n bs h.1)

names_are : (n : ℕ) (bs : List Block) → AllByRecursion (IsAccessBlock n) bs → AllByRecursion (λ b. All (λ k. k < n) b.accesses) bs
names_are n [] h = tt
names_are n (b ∷ bs) h = (h.0.below, names_are n bs h.1)

-- a sequence of such blocks
pub sequence_made : (n : ℕ) (bs : List Block) → n ≤ 64 → All (IsAccessBlock n) bs → sum_by (λ b. length b.accesses) bs ≤ 2 ^ 60
    → IsSequence (record { scalars = n; step = 1; blocks = bs })
sequence_made n bs few h most = let all = recursion_from_All (IsAccessBlock n) bs h in record {
  few = few;
  moves = omega arith;
  near = omega arith;
  blocks = All-from_recursion IsBlock bs (blocks_are n bs all);
  scalars = All-from_recursion (λ b. All (λ k. k < n) b.accesses) bs (names_are n bs all);
  countable = subst (λ k. k ≤ 2 ^ 60) (sym (weights n bs all)) most;
}
