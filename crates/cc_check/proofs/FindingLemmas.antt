-- What is found of a frame, step by step.
use Rattle.std.proofs.Common.{◌≡◌, ℕ, ◌<◌, List, [], ◌∷◌, map, Option, option_and_then, refl, ap, subst, ◌∙◌}
use Rattle.std.specs.Prelude.{All, slice_get, slice_index}
use Rattle.std.proofs.lemmas.List.Elements.{All-head, All-tail}
use Rattle.c25_isa.specs.Image.{Contents}
use Rattle.lay_model.specs.Sequences.{Block, Sequence, IsSequence}
use Rattle.lay_cert.specs.Frames.{Frame}
use Rattle.cc_check.specs.declared.finding.Finding.{Finding}
use Rattle.cc_check.specs.Findings.{address_of, function_finding, first_difference, expected_blocks, number_of, finding_of}

-- the accesses of a block have the addresses that a table has of the scalars
same_addresses : (n : ℕ) (table : List ℕ) (f : ℕ → ℕ) (xs : List ℕ) → ((s : ℕ) → s < n → slice_index table s ≡ f s) → All (λ s. s < n) xs → map (slice_index table) xs ≡ map f xs
same_addresses n table f [] same all = refl
same_addresses n table f (x ∷ xs) same all =
    ap (λ a. a ∷ map (slice_index table) xs) (same x (All-head (λ s. s < n) x xs all))
    ∙ ap (λ more. f x ∷ more) (same_addresses n table f xs same (All-tail (λ s. s < n) x xs all))

abbrev AreBelow : ℕ → Block → Type 0
AreBelow n b = All (λ s. s < n) b.accesses

same_blocks : (n : ℕ) (table : List ℕ) (f : ℕ → ℕ) (bs : List Block) → ((s : ℕ) → s < n → slice_index table s ≡ f s) → All (AreBelow n) bs → map (λ b. map (slice_index table) b.accesses) bs ≡ map (λ b. map f b.accesses) bs
same_blocks n table f [] same all = refl
same_blocks n table f (b ∷ bs) same all =
    ap (λ a. a ∷ map (λ b. map (slice_index table) b.accesses) bs) (same_addresses n table f b.accesses same (All-head (AreBelow n) b bs all))
    ∙ ap (λ more. map f b.accesses ∷ more) (same_blocks n table f bs same (All-tail (AreBelow n) b bs all))

pub difference_is : (f : Frame) (seq : Sequence) (table : List ℕ) (blocks : List Block) (walked : List (List ℕ)) (found : Option ℕ) → ((s : ℕ) → s < f.seq.scalars → slice_index table s ≡ address_of f s) → seq ≡ f.seq → blocks ≡ seq.blocks → IsSequence seq
    → found ≡ first_difference (map (λ b. map (slice_index table) b.accesses) blocks) walked → found ≡ first_difference (expected_blocks f) walked
difference_is f seq table blocks walked found same is is_blocks sequence e =
    let all : All (AreBelow f.seq.scalars) f.seq.blocks = (subst IsSequence is sequence).scalars in
    e
    ∙ ap (λ bs. first_difference (map (λ (b : Block). map (slice_index table) b.accesses) bs) walked) (is_blocks ∙ ap (λ (q : Sequence). q.blocks) is)
    ∙ ap (λ (xs : List (List ℕ)). first_difference xs walked) (same_blocks f.seq.scalars table (address_of f) f.seq.blocks same all)

pub found_of : (image : Contents) (f : Frame) (number : Option ℕ) (finding : Finding) → number ≡ number_of image.functions f.name → finding ≡ function_finding image.words f (option_and_then (slice_get image.functions) number) → finding ≡ finding_of image f
found_of image f number finding is found = found ∙ ap (λ (n : Option ℕ). function_finding image.words f (option_and_then (slice_get image.functions) n)) is
