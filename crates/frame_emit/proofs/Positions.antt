-- Places of scalars.
use Rattle.std.proofs.Common.{◌≡◌, ◌∙◌, ℕ, zero, suc, ◌+◌, ◌<◌, List, [], ◌∷◌, ◌++◌, Option, Some, None, refl, ap, arith, map}
use Rattle.std.proofs.lemmas.List.Sums.{sum_by-cons}
use Rattle.c_tree.specs.declared.program.Object.{Object}
use Rattle.c_tree.specs.TypedTree.{ObjectTree}
use Rattle.c_tree.specs.View.{object_of}
use Rattle.emit_blocks.specs.declared.site.ScalarPlace.{ScalarPlace}
use Rattle.emit_blocks.specs.Right.{HaveRegisters}
use Rattle.frame_emit.specs.Frames.{FIRST_REGISTER, one_further, scalar_place, scalar_places}
use Rattle.frame_emit.specs.Startup.{static_words}

-- a position that is counted from another one on
abbrev pub further : ℕ → Option ℕ → Option ℕ
further k None = None
further k (Some i) = Some (k + i)

pub further_by_one : (k : ℕ) (o : Option ℕ) → further k (one_further o) ≡ further (k + 1) o
further_by_one k None = refl
further_by_one k (Some i) = ap Some (omega arith)

pub from_start : (o : Option ℕ) → further 0 o ≡ o
from_start None = refl
from_start (Some i) = ap Some (omega arith)

pub ruleset positions = (further_by_one, from_start)

-- places of one more scalar
pub one_more_place : (lists : List (List ℕ)) (bases : List ℕ) (n count : ℕ) → scalar_places lists bases n (suc count) ≡ scalar_places lists bases n count ++ scalar_place lists bases FIRST_REGISTER (n + count) ∷ []
one_more_place lists bases n zero = ap (λ m. scalar_place lists bases FIRST_REGISTER m ∷ []) (omega arith)
one_more_place lists bases n (suc count) =
    ap (λ ps. scalar_place lists bases FIRST_REGISTER n ∷ ps)
    (one_more_place lists bases (suc n) count ∙ ap (λ m. scalar_places lists bases (suc n) count ++ scalar_place lists bases FIRST_REGISTER m ∷ []) (omega arith))

pub one_more_register : (ps : List ScalarPlace) (p : ScalarPlace) → HaveRegisters ps → p.register < 8 → HaveRegisters (ps ++ p ∷ [])
one_more_register [] p all one = (one, tt)
one_more_register (q ∷ ps) p all one = (all.0, one_more_register ps p all.1 one)

-- the words of one more object
pub more_words : (o : Object) (os : List Object) → static_words (map object_of (o ∷ os)) ≡ o.length + 1 + static_words (map object_of os)
more_words o os = sum_by-cons (λ (x : ObjectTree). x.length + 1) (object_of o) (map object_of os)
