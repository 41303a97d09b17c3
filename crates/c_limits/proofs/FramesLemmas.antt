-- Marks of objects, and what is numbered by them.
use Rattle.std.proofs.Common.{◌≡◌, ◌<◌, ◌≤◌, ◌+◌, ◌||◌, ◌∷◌, [], ℕ, suc, Bool, true, false, if◌then◌else◌, List, length, take, drop, get_or, map, ap, ◌∙◌, sym, refl, arith}
use Rattle.std.proofs.lemmas.List.{take_more, drop_more, length-map}
use Rattle.std.proofs.lemmas.List.Recursion.{or_push}
use Rattle.c_tree.specs.declared.program.VarRef.{VarRef}
use Rattle.c_tree.specs.declared.program.VarRef.TheVariants as refs
use Rattle.c_tree.specs.declared.uses.Use.{Use}
use Rattle.c_rules.specs.declared.local.Local.{Local}
use Rattle.c_rules.specs.Statements.{LocalTree}
use Rattle.c_rules.specs.Programs.{is_address, is_pointed, references}
use Rattle.c_rules.specs.LocalView.{local_tree_of}
use Rattle.c_rules.proofs.Formed.FrameTypes.{references_length}
use Rattle.c_rules.proofs.FrameNumbers.{numbered_from, references_counted}
use Rattle.c_limits.specs.declared.frames.Numbering.{Numbering}
use Rattle.c_limits.specs.Frames.{Marks, numbered_by, scalars_by, scalars_with}
use Rattle.c_rules.specs.Programs.{in_frame, frame_scalars}

-- a turn of the loop over uses, whose marks are lent meanwhile
pub marks_further : (us : List Use) (i count : ℕ) {before lent after result : List Bool} (d : Use) → i < length us → lent ≡ before → length after ≡ length lent
    → result ≡ after → Marks (take i us) count before → ((n : ℕ) → n < length lent → get_or after n false ≡ (get_or lent n false || is_address (get_or us i d) n))
    → Marks (take (i + 1) us) count result
marks_further us i count {before = before} {lent = lent} d within lending long same so_far more =
    record {
      all = ap length (same) ∙ long ∙ ap length lending ∙ so_far.all;
      each = λ n below.
          let here : n < length lent = omega (arith, so_far.all, ap length lending)
          in ap (λ xs. get_or xs n false) same ∙ more n here ∙ ap (λ xs. get_or xs n false || is_address (get_or us i d) n) lending
          ∙ ap (λ b. b || is_address (get_or us i d) n) (so_far.each n below)
          ∙ sym (or_push (λ vs. is_pointed vs n) (λ v. is_address v n) refl (λ _ _. refl) (take i us) (get_or us i d))
          ∙ ap (λ vs. is_pointed vs n) (sym (take_more us i d within));
    }

numbered_at : (us : List Use) (n scalars objects : ℕ) (marks : List Bool) (ls : List LocalTree) → length marks ≡ length ls
    → ((k : ℕ) → k < length marks → get_or marks k false ≡ is_pointed us (n + k)) → numbered_by marks scalars objects ls ≡ numbered_from us n scalars objects ls
numbered_at us n scalars objects [] [] long each = refl
numbered_at us n scalars objects [] (l ∷ ls) long each = absurd (omega arith)
numbered_at us n scalars objects (m ∷ marks) [] long each = absurd (omega arith)
numbered_at us n scalars objects (m ∷ marks) (l ∷ ls) long each =
    let later : (k : ℕ) → k < length marks → get_or marks k false ≡ is_pointed us (suc n + k) =
    λ k below. each (suc k) (omega arith) ∙ ap (is_pointed us) (omega arith)
    in let here : n + 0 ≡ n = omega arith
    in let rest : length marks ≡ length ls = omega arith
    in ap (λ p. if in_frame l p then refs.Scalar scalars ∷ numbered_by marks (suc scalars) objects ls else refs.Local objects ∷ numbered_by marks scalars (suc objects) ls)
    (each 0 (omega arith) ∙ ap (is_pointed us) here)
    ∙ ap (λ rs. if in_frame l (is_pointed us n) then refs.Scalar scalars ∷ rs else refs.Local objects ∷ numbered_by marks scalars (suc objects) ls)
    (numbered_at us (suc n) (suc scalars) objects marks ls rest later)
    ∙ ap (λ rs. if in_frame l (is_pointed us n) then refs.Scalar scalars ∷ numbered_from us (suc n) (suc scalars) objects ls else refs.Local objects ∷ rs)
    (numbered_at us (suc n) scalars (suc objects) marks ls rest later)

-- numbers by marks are the numbers by uses
pub numbers_by_marks : (us : List Use) (marks : List Bool) {lent : List Bool} (ls : List Local) → Marks us (length ls) marks → lent ≡ marks
    → numbered_by lent 0 0 (map local_tree_of ls) ≡ references us (map local_tree_of ls)
numbers_by_marks us marks ls known lending =
    ap (λ m. numbered_by m 0 0 (map local_tree_of ls)) lending
    ∙ numbered_at us 0 0 0 marks (map local_tree_of ls) (known.all ∙ sym (length-map ls local_tree_of))
    (λ k below. let here : k ≡ 0 + k = omega arith in known.each k (omega (arith, known.all)) ∙ ap (is_pointed us) here)
    ∙ sym (references_counted us (map local_tree_of ls))

count_of : (marks : List Bool) (scalars objects : ℕ) (ls : List LocalTree) → scalars_by marks ls ≡ frame_scalars (numbered_by marks scalars objects ls)
count_of [] scalars objects ls = refl
count_of (m ∷ marks) scalars objects [] = refl
count_of (m ∷ marks) scalars objects (l ∷ ls) =
    elim (in_frame l m) as (λ b. (if b then suc (scalars_by marks ls) else scalars_by marks ls)
    ≡ frame_scalars (if b then refs.Scalar scalars ∷ numbered_by marks (suc scalars) objects ls else refs.Local objects ∷ numbered_by marks scalars (suc objects) ls))
    [ true ↦ ap suc (count_of marks (suc scalars) objects ls) | false ↦ count_of marks scalars (suc objects) ls ]

-- so many scalars are numbered
pub scalars_by_marks : (us : List Use) (marks : List Bool) {lent : List Bool} (ls : List Local) → Marks us (length ls) marks → lent ≡ marks
    → scalars_by lent (map local_tree_of ls) ≡ frame_scalars (references us (map local_tree_of ls))
scalars_by_marks us marks {lent = lent} ls known lending =
    count_of lent 0 0 (map local_tree_of ls) ∙ ap frame_scalars (numbers_by_marks us marks ls known lending)

-- one object further, of those that are to come
module _ {A : Type 0} (known further : List Bool → List LocalTree → A) (marks : List Bool) (ls : List Local) (i : ℕ) (l : Local) (other : Bool) where
  pub one_further : {whole : A} → length marks ≡ length ls → i < length ls → l ≡ get_or ls i l
      → ((ms : List Bool) (ns : List LocalTree) → further ms ns ≡ known (get_or marks i other ∷ ms) (local_tree_of l ∷ ns))
      → known (drop i marks) (map local_tree_of (drop i ls)) ≡ whole → further (drop (i + 1) marks) (map local_tree_of (drop (i + 1) ls)) ≡ whole
  one_further long within is added before =
      let marked : i < length marks = omega (arith, long) in
      added (drop (i + 1) marks) (map local_tree_of (drop (i + 1) ls))
      ∙ ap (λ x. known (get_or marks i other ∷ drop (i + 1) marks) (map local_tree_of (x ∷ drop (i + 1) ls))) is
      ∙ ap (λ ms. known ms (map local_tree_of (get_or ls i l ∷ drop (i + 1) ls))) (sym (drop_more marks i other marked))
      ∙ ap (λ xs. known (drop i marks) (map local_tree_of xs)) (sym (drop_more ls i l within))
      ∙ before

-- one object among those to come
one_alone : (k : Numbering) (m : Bool) (ms : List Bool) (l : LocalTree) (ls : List LocalTree)
    → scalars_with k (m ∷ []) (l ∷ []) ≤ scalars_with k (m ∷ ms) (l ∷ ls)
one_alone k m ms l ls = by (in_frame l m)
  where
    by : (b : Bool) → k.scalars + (if b then suc 0 else 0) ≤ k.scalars + (if b then suc (scalars_by ms ls) else scalars_by ms ls)
    by true = omega arith
    by false = omega arith

pub one_fits : (k : Numbering) (marks : List Bool) (ls : List Local) (i : ℕ) (l : Local) (other : Bool) {whole limit : ℕ}
    → length marks ≡ length ls → i < length ls → l ≡ get_or ls i l
    → scalars_with k (drop i marks) (map local_tree_of (drop i ls)) ≡ whole → whole ≤ limit
    → scalars_with k (get_or marks i other ∷ []) (local_tree_of l ∷ []) ≤ limit
one_fits k marks ls i l other long within is so_far few =
    let all = one_further (scalars_with k) (λ ms ns. scalars_with k (get_or marks i other ∷ ms) (local_tree_of l ∷ ns)) marks ls i l other long within is (λ ms ns. refl) so_far
    in let alone = one_alone k (get_or marks i other) (drop (i + 1) marks) (local_tree_of l) (map local_tree_of (drop (i + 1) ls))
    in omega (arith, all, alone, few)

-- no more scalars than objects
scalars_among : (rs : List VarRef) → frame_scalars rs ≤ length rs
scalars_among [] = omega arith
scalars_among (refs.Scalar n ∷ rs) = omega (arith, scalars_among rs)
scalars_among (refs.Local n ∷ rs) = omega (arith, scalars_among rs)
scalars_among (refs.Static n ∷ rs) = omega (arith, scalars_among rs)

pub scalars_few : (us : List Use) (ls : List LocalTree) → frame_scalars (references us ls) ≤ length ls
scalars_few us ls = omega (arith, scalars_among (references us ls), references_length us ls)
