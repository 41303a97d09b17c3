-- How a typed program's run and its word tree's go side by side: the relation between what two parts of runs came to, and the rules that compose it.
use Rattle.std.proofs.Common.{◌≡◌, ◌≤◌}
use Rattle.word_base.specs.Ports.{Prefix}
use Rattle.tree_code_proof.specs.Counted as source
use Rattle.tree_code_proof.specs.Counted.{World}
use Rattle.ir_semantics.specs.Parts.{Res, Gives, Finished, TooMany, Fails, Does, after}
use Rattle.ir_semantics.specs.TreeRun.{Tree}
use Rattle.tree_code_proof.proofs.Growing.{outs_of, behind, Grows}

-- what is so of two values and two states
abbrev pub Post : Type 0 → Type 0 → Type 1
Post A B = A → B → World → Tree → Type 0

-- both give values, both end alike, the word tree with at most as much work, both have a turn too many, or the typed program is undefined and its outputs are a beginning
abbrev pub Rel : {A B : Type 0} → Post A B → source.Res A → Res Tree B → Type 0
Rel q (source.Gives a w) (Gives b t) = q a b w t
Rel q (source.Gives a w) (Finished e o k) = ⊥
Rel q (source.Gives a w) (TooMany o) = ⊥
Rel q (source.Gives a w) (Fails o) = ⊥
Rel q (source.Finished e o most) (Gives b t) = ⊥
Rel q (source.Finished e o most) (Finished e2 o2 k) = (e ≡ e2) × ((o ≡ o2) × (k ≤ most))
Rel q (source.Finished e o most) (TooMany o2) = ⊥
Rel q (source.Finished e o most) (Fails o2) = ⊥
Rel q (source.TooMany o) (Gives b t) = ⊥
Rel q (source.TooMany o) (Finished e o2 k) = ⊥
Rel q (source.TooMany o) (TooMany o2) = o ≡ o2
Rel q (source.TooMany o) (Fails o2) = ⊥
Rel q (source.Fails kind at o) r = Prefix o (outs_of r)

pub rel_after : {A B C D : Type 0} (q : Post A B) (r : Post C D) (x : source.Res A) (y : Res Tree B) (g : A → source.Does C) (h : B → Does Tree D)
    → Rel q x y → ((b : B) → Grows (h b)) → ((a : A) (b : B) (w : World) (t : Tree) → q a b w t → Rel r (g a w) (h b t)) → Rel r (source.after x g) (after y h)
rel_after q r (source.Gives a w) (Gives b t) g h e grow next = next a b w t e
rel_after q r (source.Gives a w) (Finished p o k) g h e grow next = absurd e
rel_after q r (source.Gives a w) (TooMany o) g h e grow next = absurd e
rel_after q r (source.Gives a w) (Fails o) g h e grow next = absurd e
rel_after q r (source.Finished p o most) (Gives b t) g h e grow next = absurd e
rel_after q r (source.Finished p o most) (Finished p2 o2 k) g h e grow next = e
rel_after q r (source.Finished p o most) (TooMany o2) g h e grow next = absurd e
rel_after q r (source.Finished p o most) (Fails o2) g h e grow next = absurd e
rel_after q r (source.TooMany o) (Gives b t) g h e grow next = absurd e
rel_after q r (source.TooMany o) (Finished p o2 k) g h e grow next = absurd e
rel_after q r (source.TooMany o) (TooMany o2) g h e grow next = e
rel_after q r (source.TooMany o) (Fails o2) g h e grow next = absurd e
rel_after q r (source.Fails kind at o) y g h e grow next = behind o y h e grow

pub rel_weaker : {A B : Type 0} {q r : Post A B} → ((a : A) (b : B) (w : World) (t : Tree) → q a b w t → r a b w t) → (x : source.Res A) (y : Res Tree B) → Rel q x y → Rel r x y
rel_weaker k (source.Gives a w) (Gives b t) e = k a b w t e
rel_weaker k (source.Gives a w) (Finished p o m) e = absurd e
rel_weaker k (source.Gives a w) (TooMany o) e = absurd e
rel_weaker k (source.Gives a w) (Fails o) e = absurd e
rel_weaker k (source.Finished p o most) (Gives b t) e = absurd e
rel_weaker k (source.Finished p o most) (Finished p2 o2 m) e = e
rel_weaker k (source.Finished p o most) (TooMany o2) e = absurd e
rel_weaker k (source.Finished p o most) (Fails o2) e = absurd e
rel_weaker k (source.TooMany o) (Gives b t) e = absurd e
rel_weaker k (source.TooMany o) (Finished p o2 m) e = absurd e
rel_weaker k (source.TooMany o) (TooMany o2) e = e
rel_weaker k (source.TooMany o) (Fails o2) e = absurd e
rel_weaker k (source.Fails kind at o) y e = e
