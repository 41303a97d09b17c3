-- The runs of a body's entries, where they access something, are the blocks of the body.
use Rattle.std.proofs.Common.{◌≡◌, ℕ, ◌+◌, Bool, true, false, List, [], ◌∷◌, ◌++◌, length, Option, Some, None, refl, ap, sym, ◌∙◌}
use Rattle.std.proofs.lemmas.List.{append-nil}
use Rattle.std.specs.Prelude.{◌==◌, if◌then◌else◌}
use Rattle.acc_code.specs.declared.operand.AccOperand.{AccOperand}
use Rattle.acc_code.specs.declared.operand.AccOperand.TheVariants as operand
use Rattle.acc_code.specs.declared.operation.Test.{Test}
use Rattle.acc_code.specs.AccTree.{Op, If, Loop, Switch, Case, Clear, Call, Helper, Break, Continue, Return, ItemList, end, item}
use Rattle.acc_code.specs.AccSequence.{Rest, closed, cut, accesses, operand_accesses, blocks_of}
use Rattle.emit_blocks.specs.Steps.{Operation, operation}
use Rattle.image_proof.specs.emit_control.declared.ways.Ways.{Ways}
use Rattle.image_proof.specs.emit_control.Entries.{Entry, Run, Place, Close, Branch, Goto, flushed}
use Rattle.image_proof.specs.emit_control.Flow.{Part, labels, item_labels, is_end, opposite, target, goto, if_code, loop_code, behind_label, behind_jump, inner, first_ways, turn_ways, third_ways, switch_ways, emit, body_entries}
use Rattle.image_proof.specs.RunWalks.{with_scalar, scalars_of}

-- what runs give, where they give something
abbrev pub entry_blocks : (List Operation → List ℕ) → Entry → List (List ℕ) → List (List ℕ)
entry_blocks f (Run os) blocks = closed (f os) blocks
entry_blocks f e blocks = blocks

abbrev pub blocks_by : (List Operation → List ℕ) → List Entry → List (List ℕ)
blocks_by f [] = []
blocks_by f (e ∷ es) = entry_blocks f e (blocks_by f es)

abbrev pub blocks_in : List Entry → List (List ℕ)
blocks_in es = blocks_by scalars_of es

with_append : (m : AccOperand) (a b : List ℕ) → with_scalar m (a ++ b) ≡ with_scalar m a ++ b
with_append operand.Nothing a b = refl
with_append (operand.Scalar n) a b = refl
with_append (operand.Direct v) a b = refl
with_append (operand.Param f n) a b = refl
with_append (operand.Scratch n) a b = refl
with_append (operand.Number w) a b = refl
with_append (operand.Address v n) a b = refl
with_append operand.Pointed a b = refl

pub scalars_append : (os : List Operation) (o : Operation) → scalars_of (os ++ o ∷ []) ≡ scalars_of os ++ with_scalar o.operand []
scalars_append [] o = refl
scalars_append (p ∷ os) o = ap (with_scalar p.operand) (scalars_append os o) ∙ with_append p.operand (scalars_of os) (with_scalar o.operand [])

flush_gathers : (os : List Operation) (es : List Entry) → blocks_in (flushed os es) ≡ closed (scalars_of os) (blocks_in es)
flush_gathers [] es = refl
flush_gathers (o ∷ os) es = refl

goto_gathers : (b : Bool) (k : ℕ) (rest : List Entry) → blocks_in (if b then rest else Goto k ∷ rest) ≡ blocks_in rest
goto_gathers true k rest = refl
goto_gathers false k rest = refl

-- a part puts its blocks before those behind it
record Gathers (p : Part) (g : List (List ℕ) → List (List ℕ)) : Type 0 where
  by : (next : ℕ) (rest : List Entry) → blocks_in (p next rest) ≡ g (blocks_in rest)

-- the blocks of a list before others, from none that is open
abbrev list_blocks : ItemList → List (List ℕ) → List (List ℕ)
list_blocks xs blocks = accesses xs (cut (λ open_block. blocks)) []

-- where the part is a label alone, it has no blocks
abbrev HasNone : Option ℕ → (List (List ℕ) → List (List ℕ)) → Type 0
HasNone o g = (k : ℕ) → o ≡ Some k → (blocks : List (List ℕ)) → g blocks ≡ blocks

if_gathers : (a b : Option ℕ) (t : Test) (hit miss : Part) (g h : List (List ℕ) → List (List ℕ)) (l next : ℕ) (rest : List Entry) → Gathers hit g → Gathers miss h → HasNone a g → HasNone b h
    → blocks_in (if_code t a b hit miss l next rest) ≡ g (h (blocks_in rest))
if_gathers (Some a) (Some b) t hit miss g h l next rest ph pm ga hb = both (a == next) ∙ sym (hb b refl (blocks_in rest)) ∙ sym (ga a refl (h (blocks_in rest)))
  where
    both : (e : Bool) → blocks_in (if e then Branch (opposite t) b ∷ rest else Branch t a ∷ goto b next rest) ≡ blocks_in rest
    both true = refl
    both false = goto_gathers (b == next) b rest
if_gathers (Some a) None t hit miss g h l next rest ph pm ga hb = pm.by next rest ∙ sym (ga a refl (h (blocks_in rest)))
if_gathers None (Some b) t hit miss g h l next rest ph pm ga hb = ph.by next rest ∙ ap g (sym (hb b refl (blocks_in rest)))
if_gathers None None t hit miss g h l next rest ph pm ga hb = ph.by l (Place l ∷ miss next rest) ∙ ap g (pm.by next rest)

loop_gathers : (none : Bool) (head start go : ℕ) (first body third : Part) (f g h : List (List ℕ) → List (List ℕ)) (next : ℕ) (rest : List Entry) → Gathers first f → Gathers body g → Gathers third h
    → (none ≡ true → (blocks : List (List ℕ)) → h blocks ≡ blocks) → blocks_in (loop_code none head start go first body third next rest) ≡ f (g (h (blocks_in rest)))
loop_gathers true head start go first body third f g h next rest pf pg ph bare =
    pf.by start (Place start ∷ body next (Close head next ∷ rest)) ∙ ap f (pg.by next (Close head next ∷ rest)) ∙ ap (λ blocks. f (g blocks)) (sym (bare refl (blocks_in rest)))
loop_gathers false head start go first body third f g h next rest pf pg ph bare =
    pf.by start (Place start ∷ body go (Place go ∷ third next (Close head next ∷ rest)))
    ∙ ap f (pg.by go (Place go ∷ third next (Close head next ∷ rest)))
    ∙ ap (λ blocks. f (g blocks)) (ph.by next (Close head next ∷ rest))

end_has_none : (xs : ItemList) → is_end xs ≡ true → (blocks : List (List ℕ)) → list_blocks xs blocks ≡ blocks
end_has_none end e blocks = refl
end_has_none (item x xs) e blocks = absurd cc

target_has_none : (w : Ways) (xs : ItemList) → HasNone (target w xs) (list_blocks xs)
target_has_none w end k e blocks = refl
target_has_none w (item (Op o m) xs) k e blocks = absurd cc
target_has_none w (item (If t hit miss) xs) k e blocks = absurd cc
target_has_none w (item (Loop before body third last) xs) k e blocks = absurd cc
target_has_none w (item (Switch cases body) xs) k e blocks = absurd cc
target_has_none w (item (Case n) xs) k e blocks = absurd cc
target_has_none w (item (Clear v from) xs) k e blocks = absurd cc
target_has_none w (item (Call f) xs) k e blocks = absurd cc
target_has_none w (item (Helper name) xs) k e blocks = absurd cc
target_has_none w (item Break end) k e blocks = refl
target_has_none w (item Break (item x xs)) k e blocks = absurd cc
target_has_none w (item Continue end) k e blocks = refl
target_has_none w (item Continue (item x xs)) k e blocks = absurd cc
target_has_none w (item Return xs) k e blocks = absurd cc

label_gathers : (xs : ItemList) (base : ℕ) (code rest : List Entry) → blocks_in code ≡ list_blocks xs (blocks_in rest) → blocks_in (behind_label (is_end xs) base code rest) ≡ list_blocks xs (blocks_in rest)
label_gathers end base code rest e = refl
label_gathers (item x xs) base code rest e = e

jump_gathers : (xs : ItemList) (code rest : List Entry) → blocks_in code ≡ list_blocks xs (blocks_in rest) → blocks_in (behind_jump (is_end xs) code rest) ≡ list_blocks xs (blocks_in rest)
jump_gathers end code rest e = refl
jump_gathers (item x xs) code rest e = e

operand_gathers : (m : AccOperand) (κ : Rest) (block : List ℕ) → operand_accesses m κ block ≡ κ (block ++ with_scalar m [])
operand_gathers operand.Nothing κ block = ap κ (sym (append-nil block))
operand_gathers (operand.Scalar n) κ block = refl
operand_gathers (operand.Direct v) κ block = ap κ (sym (append-nil block))
operand_gathers (operand.Param f n) κ block = ap κ (sym (append-nil block))
operand_gathers (operand.Scratch n) κ block = ap κ (sym (append-nil block))
operand_gathers (operand.Number w) κ block = ap κ (sym (append-nil block))
operand_gathers (operand.Address v n) κ block = ap κ (sym (append-nil block))
operand_gathers operand.Pointed κ block = ap κ (sym (append-nil block))

-- behind a run, other code with its blocks
behind : (os : List Operation) (es : List Entry) (blocks : List (List ℕ)) → blocks_in es ≡ blocks → blocks_in (flushed os es) ≡ closed (scalars_of os) blocks
behind os es blocks e = flush_gathers os es ∙ ap (closed (scalars_of os)) e

gathers : (xs : ItemList) (os : List Operation) (w : Ways) (base : ℕ) → Gathers (emit xs os w base) (λ blocks. accesses xs (cut (λ open_block. blocks)) (scalars_of os))
gathers end os w base = record {
  by = λ next rest. behind os (goto w.onward next rest) (blocks_in rest) (goto_gathers (w.onward == next) w.onward rest);
}
gathers (item (Op o m) xs) os w base = record {
  by = λ next rest. (gathers xs (os ++ operation o m ∷ []) w base).by next rest ∙ ap (accesses xs (cut (λ open_block. blocks_in rest))) (scalars_append os (operation o m)) ∙ sym (operand_gathers m (accesses xs (cut (λ open_block. blocks_in rest))) (scalars_of os));
}
gathers (item (If t hit miss) xs) os w base = record {
  by = λ next rest. behind os _ _ (if_gathers (target (inner xs w base) hit) (target (inner xs w base) miss) t _ _ (list_blocks hit) (list_blocks miss) (base + 1) _ _ (gathers hit [] (inner xs w base) (base + 2)) (gathers miss [] (inner xs w base) (base + 2 + labels hit)) (target_has_none (inner xs w base) hit) (target_has_none (inner xs w base) miss) ∙ ap (λ blocks. list_blocks hit (list_blocks miss blocks)) (label_gathers xs base _ rest ((gathers xs [] w (base + item_labels (If t hit miss))).by next rest)));
}
gathers (item (Loop before body third last) xs) os w base = record {
  by = λ next rest. behind os _ _ (loop_gathers (is_end third) (base + 1) (base + 2) (base + 3) _ _ _ (list_blocks before) (list_blocks body) (list_blocks third) _ _ (gathers before [] (first_ways third base (inner xs w base)) (base + 4)) (gathers body [] (turn_ways third base (inner xs w base)) (base + 4 + labels before)) (gathers third [] (third_ways base (inner xs w base)) (base + 4 + labels before + labels body)) (end_has_none third) ∙ ap (λ blocks. list_blocks before (list_blocks body (list_blocks third blocks))) (label_gathers xs base _ rest ((gathers xs [] w (base + item_labels (Loop before body third last))).by next rest)));
}
gathers (item (Switch cases body) xs) os w base = record {
  by = λ next rest. behind os _ _ ((gathers body [] (switch_ways base (inner xs w base)) (base + 1 + length cases)).by _ _ ∙ ap (list_blocks body) (label_gathers xs base _ rest ((gathers xs [] w (base + item_labels (Switch cases body))).by next rest)));
}
gathers (item (Case n) xs) os w base = record {
  by = λ next rest. behind os _ _ ((gathers xs [] w base).by next rest);
}
gathers (item (Clear v from) xs) os w base = record {
  by = λ next rest. behind os _ _ ((gathers xs [] w (base + 1)).by next rest);
}
gathers (item (Call f) xs) os w base = record {
  by = λ next rest. behind os _ _ ((gathers xs [] w base).by next rest);
}
gathers (item (Helper name) xs) os w base = record {
  by = λ next rest. behind os _ _ ((gathers xs [] w base).by next rest);
}
gathers (item Break xs) os w base = record {
  by = λ next rest. behind os _ _ (jump_gathers xs _ rest ((gathers xs [] w base).by next rest));
}
gathers (item Continue xs) os w base = record {
  by = λ next rest. behind os _ _ (jump_gathers xs _ rest ((gathers xs [] w base).by next rest));
}
gathers (item Return xs) os w base = record {
  by = λ next rest. behind os _ _ (jump_gathers xs _ rest ((gathers xs [] w base).by next rest));
}

pub body_gathers : (body : ItemList) → blocks_in (body_entries body) ≡ blocks_of body
body_gathers body = (gathers body [] _ 1).by 0 _
