-- What a walk gathers, stretch by stretch, as one fold over instructions.
use Rattle.std.proofs.Common.{◌≡◌, ℕ, ◌+◌, Bool, true, false, List, [], ◌∷◌, ◌++◌, length, map, filter, flat_map, Option, option_to_list, refl, ap, sym, ◌∙◌, arith, length-append}
use Rattle.std.proofs.lemmas.List.{append-nil, append_assoc}
use Rattle.c25_isa.specs.Walk.{Placed, Known, nothing_known, known_behind, is_cut_behind, onto_stretches, cut_at, along, has_some}
use Rattle.acc_code.specs.AccSequence.{closed}

-- behind an instruction, by whether there is a cut
abbrev pub go_on : Bool → Known → List ℕ → (Known → List ℕ → List (List ℕ)) → List (List ℕ)
go_on true k block f = closed block (f nothing_known [])
go_on false k block f = f k block

-- a block with what an instruction gives
abbrev pub with_given : List ℕ → Option ℕ → List ℕ
with_given block given = block ++ option_to_list given

-- the blocks of instructions, where some of the first block is there
abbrev pub placed_blocks : (Known → Placed → Option ℕ) → List ℕ → Known → List ℕ → List Placed → List (List ℕ)
placed_blocks gives targets k block [] = closed block []
placed_blocks gives targets k block (p ∷ ps) =
    go_on (is_cut_behind targets p) (known_behind k p.instr) (with_given block (gives k p)) (λ known more. placed_blocks gives targets known more ps)

-- how many there are in all
abbrev pub total : List (List ℕ) → ℕ
total blocks = length (flat_map (λ block. block) blocks)

pub total_closed : (block : List ℕ) (blocks : List (List ℕ)) → total (closed block blocks) ≡ length block + total blocks
total_closed [] blocks = omega arith
total_closed (a ∷ block) blocks = length-append (a ∷ block) (flat_map (λ b. b) blocks)

filter_closed : (block : List ℕ) (blocks : List (List ℕ)) → filter has_some (block ∷ blocks) ≡ closed block (filter has_some blocks)
filter_closed [] blocks = refl
filter_closed (a ∷ block) blocks = refl

flat_filter : (blocks : List (List ℕ)) → flat_map (λ block. block) (filter has_some blocks) ≡ flat_map (λ block. block) blocks
flat_filter [] = refl
flat_filter ([] ∷ blocks) = flat_filter blocks
flat_filter ((a ∷ block) ∷ blocks) = ap (λ rest. (a ∷ block) ++ rest) (flat_filter blocks)

module _ (gives : Known → Placed → Option ℕ) (targets : List ℕ) where
  abbrev lists : List (List Placed) → List (List ℕ)
  lists stretches = filter has_some (map (along gives nothing_known) stretches)

  -- stretches, where some of the first one is there
  abbrev joined : Known → List ℕ → List (List Placed) → List (List ℕ)
  joined k block [] = closed block []
  joined k block (first ∷ rest) = closed (block ++ along gives k first) (lists rest)

  none_joined : (stretches : List (List Placed)) → lists stretches ≡ joined nothing_known [] stretches
  none_joined [] = refl
  none_joined (first ∷ rest) = filter_closed (along gives nothing_known first) (map (along gives nothing_known) rest)

  onto_joined : (cut : Bool) (p : Placed) (stretches : List (List Placed)) (k : Known) (block : List ℕ)
      → joined k block (onto_stretches cut p stretches) ≡ go_on cut (known_behind k p.instr) (with_given block (gives k p)) (λ known more. joined known more stretches)
  onto_joined true p stretches k block =
      ap (λ given. closed (block ++ given) (lists stretches)) (append-nil (option_to_list (gives k p)))
      ∙ ap (closed (with_given block (gives k p))) (none_joined stretches)
  onto_joined false p [] k block = ap (λ given. closed (block ++ given) []) (append-nil (option_to_list (gives k p)))
  onto_joined false p (first ∷ rest) k block =
      ap (λ all. closed all (lists rest)) (sym (append_assoc block (option_to_list (gives k p)) (along gives (known_behind k p.instr) first)))

  go_same : (cut : Bool) (k : Known) (block : List ℕ) (f g : Known → List ℕ → List (List ℕ)) → ((known : Known) (more : List ℕ) → f known more ≡ g known more) → go_on cut k block f ≡ go_on cut k block g
  go_same true k block f g e = ap (closed block) (e nothing_known [])
  go_same false k block f g e = e k block

  cut_joined : (ps : List Placed) (k : Known) (block : List ℕ) → joined k block (cut_at targets ps) ≡ placed_blocks gives targets k block ps
  cut_joined [] k block = refl
  cut_joined (p ∷ ps) k block =
      onto_joined (is_cut_behind targets p) p (cut_at targets ps) k block
      ∙ go_same (is_cut_behind targets p) (known_behind k p.instr) (with_given block (gives k p)) _ _ (λ known more. cut_joined ps known more)

  -- the lists of stretches that have some
  pub stretches_fold : (ps : List Placed) → filter has_some (map (along gives nothing_known) (cut_at targets ps)) ≡ placed_blocks gives targets nothing_known [] ps
  stretches_fold ps = none_joined (cut_at targets ps) ∙ cut_joined ps nothing_known []

  -- and all of them in a row
  pub stretches_total : (ps : List Placed) → length (flat_map (λ block. block) (map (along gives nothing_known) (cut_at targets ps))) ≡ total (placed_blocks gives targets nothing_known [] ps)
  stretches_total ps =
      ap length (sym (flat_filter (map (along gives nothing_known) (cut_at targets ps))))
      ∙ ap (λ blocks. length (flat_map (λ block. block) blocks)) (stretches_fold ps)
