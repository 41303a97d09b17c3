-- Walks that are kept.
use Rattle.std.proofs.Common.{◌≡◌, ℕ, zero, suc, List, length, replicate, Option, None, ap, sym, subst, ◌∙◌}
use Rattle.std.specs.Prelude.{IfSome, slice_index_or}
use Rattle.std.proofs.lemmas.List.{length-replicate}
use Rattle.c25_isa.specs.Image.{Contents}
use Rattle.cc_check.specs.declared.walks.Walked.{Walked}
use Rattle.cc_check.specs.Kept.{IsWalkOf, AreKept}

-- no walk is kept yet
pub none_kept : (image : Contents) (walks : List (Option Walked)) → walks ≡ replicate (length image.functions) None → AreKept image walks
none_kept image walks is = record {
  size = ap length is ∙ length-replicate (length image.functions) None;
  each = λ k. subst (λ (ws : List (Option Walked)). IfSome (slice_index_or ws k None) (IsWalkOf image k)) (sym is) (absent (length image.functions) k (IsWalkOf image k));
}
  where
    absent : (n k : ℕ) (P : Walked → Type 0) → IfSome (slice_index_or (replicate n None) k None) P
    absent zero k P = tt
    absent (suc n) zero P = tt
    absent (suc n) (suc k) P = absent n k P
