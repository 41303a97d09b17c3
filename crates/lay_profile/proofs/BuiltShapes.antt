-- The image that a source is compiled to has the shape of its functions: their walks find their accesses.
use Rattle.std.proofs.Common.{◌≡◌, ◌⊎◌, inl, inr, ◌∙◌, ℕ, Bool, true, false, List, [], ◌∷◌, length, map, refl, sym, ap}
use Rattle.std.specs.Prelude.{slice_get, Option, Some, None, option_map}
use Rattle.std.specs.Str.{bytes_eq}
use Rattle.std.proofs.Math.Logic.{∥∥₁_elim, ∥∥₁_map}
use Rattle.std.proofs.lemmas.List.{length-map}
use Rattle.std.proofs.lemmas.Option.{slice_get-map}
use Rattle.std.proofs.lemmas.Slice.Eq.{bytes_eq-Decides}
use Rattle.c25_isa.specs.declared.image.FunctionRange.{FunctionRange}
use Rattle.c25_isa.specs.Image.{Contents}
use Rattle.c25_isa.specs.Walk.{Walked, Blocks, BadWord, UnknownAddress, walk}
use Rattle.c25_walk.specs.Walks.{walk_of}
use Rattle.lay_model.specs.Sequences.{Block, Sequence}
use Rattle.cc_compile.specs.c_tree.TypedTree.{ProgramTree}
use Rattle.cc_compile.specs.Compiles.{IsBuilt}
use Rattle.cc_compile.specs.Walked.{AccessAs, AreWalked, IsWalked}
use Rattle.cc_compile.specs.frame_layouts.declared.options.Options.{Options}
use Rattle.cc_compile.specs.lay_cert.Frames.{Frame}
use Rattle.cc_compile.specs.image_proof.FrameWords.{place_of}
use Rattle.cc_compile.specs.image_proof.acc_select_proof.SourceSequences.{source_sequence}
use Rattle.lay_profile.specs.Shapes.{HasShape, HasShapeOf, accesses_of}
use Rattle.lay_profile.proofs.ShapeLemmas.{listed_at}

-- ---- the blocks of its walks

same_lengths : (place : ℕ → ℕ) (bs : List Block) → map length (map (λ (b : Block). map place b.accesses) bs) ≡ map (λ (b : Block). length b.accesses) bs
same_lengths place [] = refl
same_lengths place (b ∷ bs) =
    ap (λ n. n ∷ map length (map (λ (c : Block). map place c.accesses) bs)) (length-map b.accesses place)
    ∙ ap (λ ns. length b.accesses ∷ ns) (same_lengths place bs)

walked_shape : (image : Contents) (k : ℕ) (f : Frame) (accesses : Sequence) → f.seq.blocks ≡ accesses.blocks → IsWalked image k f → HasShape image k accesses
walked_shape image k f accesses same w = record {
  blocks = map (λ (b : Block). map (place_of f.bases f.arr) b.accesses) f.seq.blocks;
  walks = ap (option_map (λ (r : FunctionRange). walk image.words r.first r.last)) w.there ∙ ap Some w.walks;
  lengths = same_lengths (place_of f.bases f.arr) f.seq.blocks ∙ ap (map (λ (b : Block). length b.accesses)) same;
}

-- blocks don't depend on the step
each_shape : (step : ℕ) (t : ProgramTree) (image : Contents) (frames : List Frame) → AccessAs step t frames → AreWalked image frames
    → (k : ℕ) (accesses : Sequence) → slice_get (accesses_of t) k ≡ Some accesses → HasShape image k accesses
each_shape step t image frames same walks k accesses at =
    let f = listed_at (source_sequence 1) t.functions k accesses at in
    let here : slice_get (map (source_sequence step) t.functions) k ≡ Some (source_sequence step f.0) =
    slice_get-map (source_sequence step) t.functions k ∙ ap (option_map (source_sequence step)) f.1 in
    let x = listed_at (λ (x : Frame). x.seq) frames k (source_sequence step f.0) (ap (λ l. slice_get l k) same ∙ here) in
    walked_shape image k x.0 accesses (ap (λ (s : Sequence). s.blocks) x.2 ∙ ap (λ (s : Sequence). s.blocks) f.2) (walks k x.0 x.1)

-- ---- whether a function has a shape can be decided

empty_prop : IsProp ⊥
empty_prop a b = absurd a

same_blocks : (a b : List (List ℕ)) → Some (Blocks a) ≡ Some (Blocks b) → a ≡ b
same_blocks a b e = cc

module _ (image : Contents) (k : ℕ) (accesses : Sequence) where
  abbrev wanted : List ℕ
  wanted = map (λ (b : Block). length b.accesses) accesses.blocks

  by_lengths : (blocks : List (List ℕ)) → walk_of image k ≡ Some (Blocks blocks) → (b : Bool) → bytes_eq (map length blocks) wanted ≡ b
      → HasShape image k accesses ⊎ (HasShape image k accesses → ⊥)
  by_lengths blocks is true e = inl (record { blocks = blocks; walks = is; lengths = (bytes_eq-Decides (map length blocks) wanted).0 e })
  by_lengths blocks is false e =
      inr (λ (h : HasShape image k accesses).
      let same : blocks ≡ h.blocks = same_blocks blocks h.blocks (sym is ∙ h.walks) in
      let equal : bytes_eq (map length blocks) wanted ≡ true = (bytes_eq-Decides (map length blocks) wanted).1 (ap (map length) same ∙ h.lengths) in
      apart (sym e ∙ equal))
    where
      apart : false ≡ true → ⊥
      apart f = cc

  by_walk : (found : Option Walked) → walk_of image k ≡ found → HasShape image k accesses ⊎ (HasShape image k accesses → ⊥)
  by_walk None is = inr (λ (h : HasShape image k accesses). none h.blocks (sym is ∙ h.walks))
    where
      none : (blocks : List (List ℕ)) → None ≡ Some (Blocks blocks) → ⊥
      none blocks e = cc
  by_walk (Some (BadWord at)) is = inr (λ (h : HasShape image k accesses). none h.blocks (sym is ∙ h.walks))
    where
      none : (blocks : List (List ℕ)) → Some (BadWord at) ≡ Some (Blocks blocks) → ⊥
      none blocks e = cc
  by_walk (Some (UnknownAddress at)) is = inr (λ (h : HasShape image k accesses). none h.blocks (sym is ∙ h.walks))
    where
      none : (blocks : List (List ℕ)) → Some (UnknownAddress at) ≡ Some (Blocks blocks) → ⊥
      none blocks e = cc
  by_walk (Some (Blocks blocks)) is = by_lengths blocks is (bytes_eq (map length blocks) wanted) refl

  known_shape : ∥ HasShape image k accesses ∥₁ → HasShape image k accesses
  known_shape known = by (by_walk (walk_of image k) refl)
    where
      by : HasShape image k accesses ⊎ (HasShape image k accesses → ⊥) → HasShape image k accesses
      by (inl h) = h
      by (inr not) = absurd (∥∥₁_elim known empty_prop (λ h. not h))

-- ---- an image that is built

pub has_shape : (o : Options) (bytes : List ℕ) (image : Contents) (frames : List Frame) (b : IsBuilt o bytes image frames) → HasShapeOf image b.program
has_shape o bytes image frames b =
    let t = b.program in
    record {
      named = b.names.ranges;
      each = λ k accesses at. known_shape image k accesses (∥∥₁_map b.walked (λ walks. each_shape o.step t image frames b.accesses walks k accesses at));
    }
