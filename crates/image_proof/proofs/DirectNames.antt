-- The words that direct operands may name.
use Rattle.std.proofs.Common.{◌≡◌, ℕ, Bool, true, not, ◌||◌, List, ap, ◌∙◌}
use Rattle.std.specs.Prelude.{◌&&◌, if◌then◌else◌}
use Rattle.std.proofs.lemmas.Bool.{or_right}
use Rattle.c25_isa.specs.Direct.{Words, is_among, is_scratch, may_name}
use Rattle.image_proof.specs.DirectPieces.{IsNamedPlace, IsGivenPlace, ScratchIsApart}

-- a place that isn't in a frame may be stored to and read
pub named : (w : Words) (stored : List ℕ) (store : Bool) (word : ℕ) → IsNamedPlace w word → may_name w stored store word ≡ true
named w stored store word r =
    ap (λ b. not b && (if is_scratch word then store || is_among word stored else is_among word w.places || (store && is_among word w.given))) r.outside
    ∙ ap (λ b. if b then store || is_among word stored else is_among word w.places || (store && is_among word w.given)) r.kept
    ∙ ap (λ b. b || (store && is_among word w.given)) r.place

-- a parameter may be stored to
pub given : (w : Words) (stored : List ℕ) (word : ℕ) → IsGivenPlace w word → may_name w stored true word ≡ true
given w stored word r =
    ap (λ b. not b && (if is_scratch word then true else is_among word w.places || is_among word w.given)) r.outside
    ∙ ap (λ b. if b then true else is_among word w.places || is_among word w.given) r.kept
    ∙ or_right (is_among word w.places) (is_among word w.given) r.given

-- a scratch word may be stored to, and read behind a store
pub scratch_named : (w : Words) (stored : List ℕ) (store : Bool) (word : ℕ) → ScratchIsApart w → is_scratch word ≡ true → (store || is_among word stored) ≡ true → may_name w stored store word ≡ true
scratch_named w stored store word apart is e =
    ap (λ b. not b && (if is_scratch word then store || is_among word stored else is_among word w.places || (store && is_among word w.given))) (apart.by word is)
    ∙ ap (λ b. if b then store || is_among word stored else is_among word w.places || (store && is_among word w.given)) is
    ∙ e
