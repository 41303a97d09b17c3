-- Objects of a function once none is left.
use Rattle.std.proofs.Common.{◌≡◌, ◌<◌, ◌+◌, ◌++◌, ◌∷◌, [], ℕ, List, length, map, drop, get_or, ap, ◌∙◌, sym, refl, append-nil}
use Rattle.std.proofs.lemmas.List.{drop_more}
use Rattle.c_tree.specs.declared.program.VarRef.{VarRef}
use Rattle.c_tree.specs.declared.program.VarRef.TheVariants as refs
use Rattle.c_tree.specs.View.{object_of}
use Rattle.c_limits.specs.declared.functions.Storage.{Storage}
use Rattle.c_rules.specs.declared.local.Local.{Local}
use Rattle.c_rules.specs.Statements.{LocalTree}
use Rattle.c_rules.specs.Programs.{scalars_in, objects_in}
use Rattle.c_limits.specs.Storage.{with_scalars, with_objects}
use Rattle.c_rules.specs.LocalView.{local_tree_of}

no_scalars : (rs : List VarRef) → [] ≡ scalars_in rs []
no_scalars [] = refl
no_scalars (refs.Scalar n ∷ rs) = refl
no_scalars (refs.Local n ∷ rs) = refl
no_scalars (refs.Static n ∷ rs) = refl

no_objects : (rs : List VarRef) → [] ≡ objects_in rs []
no_objects [] = refl
no_objects (refs.Scalar n ∷ rs) = refl
no_objects (refs.Local n ∷ rs) = refl
no_objects (refs.Static n ∷ rs) = refl

pub all_scalars : (storage : Storage) (rs : List VarRef) {left : List Local} {whole : _} → left ≡ []
    → with_scalars storage rs (map local_tree_of left) ≡ whole → storage.scalars.items ≡ whole
all_scalars storage rs ended known =
    sym (append-nil storage.scalars.items) ∙ ap (λ l. storage.scalars.items ++ l) (no_scalars rs)
    ∙ ap (λ ls. with_scalars storage rs (map local_tree_of ls)) (sym ended) ∙ known

pub all_objects : (storage : Storage) (rs : List VarRef) {left : List Local} {whole : _} → left ≡ []
    → with_objects storage rs (map local_tree_of left) ≡ whole → map object_of storage.objects.items ≡ whole
all_objects storage rs ended known =
    sym (append-nil (map object_of storage.objects.items)) ∙ ap (λ l. map object_of storage.objects.items ++ l) (no_objects rs)
    ∙ ap (λ ls. with_objects storage rs (map local_tree_of ls)) (sym ended) ∙ known

-- one object further, of those that are to come
module _ {A : Type 0} (known further : List VarRef → List LocalTree → List A) (rs : List VarRef) (i : ℕ) (other : VarRef) (l : Local) (rest : List Local) where
  pub one_further : {ls : List Local} {whole : List A} → i < length rs → ls ≡ l ∷ rest
      → ((ms : List VarRef) (ns : List LocalTree) → further ms ns ≡ known (get_or rs i other ∷ ms) (local_tree_of l ∷ ns))
      → known (drop i rs) (map local_tree_of ls) ≡ whole → further (drop (i + 1) rs) (map local_tree_of rest) ≡ whole
  one_further within taken added before =
      added (drop (i + 1) rs) (map local_tree_of rest)
      ∙ ap (λ ms. known ms (map local_tree_of (l ∷ rest))) (sym (drop_more rs i other within))
      ∙ ap (λ xs. known (drop i rs) (map local_tree_of xs)) (sym taken)
      ∙ before
