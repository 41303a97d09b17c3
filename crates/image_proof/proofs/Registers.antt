-- Registers of lists, and addresses, of a site.
use Rattle.std.proofs.Common.{◌≡◌, ◌<◌, ◌≤◌, ℕ, zero, suc, ◌+◌, List, [], ◌∷◌, length, Option, Some, None, refl, sym, ◌∙◌, subst, arith}
use Rattle.std.specs.Prelude.{slice_get, map}
use Rattle.std.proofs.lemmas.Option.{same_Some, slice_get_within}
use Rattle.c_tree.specs.declared.program.VarRef.{VarRef}
use Rattle.c_tree.specs.declared.program.VarRef.TheVariants.{Scalar, Local, Static}
use Rattle.tree_code.specs.WordTree.{FunctionCode}
use Rattle.mem_plan.specs.declared.data_plan.FramePlan.{FramePlan}
use Rattle.mem_plan.specs.Plan.{list_bases, frame_of}
use Rattle.mem_plan.specs.Ranges.{StaticObject}
use Rattle.emit_blocks.specs.Places.{Places, or_zero, address_in}
use Rattle.emit_blocks.specs.Right.{HaveRegisters}
use Rattle.frame_emit.specs.Frames.{scalar_places, parameter_address, all_parameters}
use Rattle.emit_proof.specs.Addressed.{HaveOwnRegisters, AreWords, ListsAreWords, ScalarsAreWords, HasAddresses}
use Rattle.image_proof.specs.Emissions.{Emission, IsEmission}
use Rattle.image_proof.specs.Active.{AreActive}
use Rattle.image_proof.specs.ActiveSites.{parameters_of, site_places}
use Rattle.image_proof.proofs.Frames.{FrameAt, frame_at}
use Rattle.image_proof.proofs.Placed.{is_placed}
use Rattle.image_proof.proofs.WordsOfSites.{name_within, word_within}
use Rattle.image_proof.proofs.FrameWords.{object_there, local_word}
use Rattle.image_proof.proofs.Statics.{static_word, static_object, are_words}
use Rattle.image_proof.proofs.SiteWords.{frame_first, places_framed}

-- of the places of scalars
module _ (lists : List (List ℕ)) (bases : List ℕ) (few : length lists ≤ 4) where
  room : 2 + length lists ≤ 8
  room = omega (arith, few)

  placed_registers : (n count : ℕ) → HaveRegisters (scalar_places lists bases n count)
  placed_registers n zero = tt
  placed_registers n (suc count) = ((is_placed lists bases 2 n (omega arith) room).few, placed_registers (suc n) count)

  placed_own : (n count : ℕ) → HaveOwnRegisters (scalar_places lists bases n count)
  placed_own n zero = tt
  placed_own n (suc count) = ((is_placed lists bases 2 n (omega arith) room).own, placed_own (suc n) count)

  placed_words : (n count : ℕ) → ScalarsAreWords (scalar_places lists bases n count)
  placed_words n zero = tt
  placed_words n (suc count) = ((is_placed lists bases 2 n (omega arith) room).word, placed_words (suc n) count)

-- an address of a list of words, or 0
word_in : (xs : List ℕ) → ((n a : ℕ) → slice_get xs n ≡ Some a → a < 65536) → (n : ℕ) → address_in xs n < 65536
word_in xs each n = by (slice_get xs n) refl
  where
    by : (o : Option ℕ) → slice_get xs n ≡ o → or_zero o < 65536
    by None at = omega arith
    by (Some a) at = each n a at

module _ (e : Emission) (is : IsEmission e) where
  few_lists : (f : ℕ) (h : FrameAt e f) → length h.lists ≤ 4
  few_lists f h = (is.arranged.each f h.code h.lists h.there h.arranged).few

  statics_words : (n a : ℕ) → slice_get e.plan.statics n ≡ Some a → a < 65536
  statics_words n a at =
      let o = static_object e is n a at in
      (word_within e is (StaticObject n) a (static_word e is n o.0 a a o.1 at (omega arith) (omega arith)) (λ e. cc)).1

  locals_words : (f : ℕ) (h : FrameAt e f) (n a : ℕ) → slice_get (frame_of h.code h.lists h.start).locals n ≡ Some a → a < 65536
  locals_words f h n a at =
      let o = object_there (h.start + h.code.scalars) h.code.locals n a at in
      (name_within e is (local_word e is f h n o.0 a a o.1 at (omega arith) (omega arith))).1

  parameter_word_of : (f : ℕ) (h : FrameAt e f) (v : VarRef) → parameter_address h.lists (frame_of h.code h.lists h.start) v < 65536
  parameter_word_of f h (Scalar n) = (is_placed h.lists (list_bases h.start h.lists) 2 n (omega arith) (let few = few_lists f h in omega (arith, few))).word
  parameter_word_of f h (Local n) = word_in (frame_of h.code h.lists h.start).locals (locals_words f h) n
  parameter_word_of f h (Static n) = omega arith

  mapped_words : (g : VarRef → ℕ) → ((v : VarRef) → g v < 65536) → (ps : List VarRef) → AreWords (map g ps)
  mapped_words g each [] = tt
  mapped_words g each (p ∷ ps) = (each p, mapped_words g each ps)

  -- the words of parameters, by each frame
  abbrev HaveWords : List FunctionCode → List FramePlan → List (List (List ℕ)) → Type 0
  HaveWords fs frames arrangements = (f : ℕ) (code : FunctionCode) (frame : FramePlan) (lists : List (List ℕ)) → slice_get fs f ≡ Some code → slice_get frames f ≡ Some frame → slice_get arrangements f ≡ Some lists → (v : VarRef) → parameter_address lists frame v < 65536

  all_words : (fs : List FunctionCode) (frames : List FramePlan) (arrangements : List (List (List ℕ))) → HaveWords fs frames arrangements → ListsAreWords (all_parameters fs frames arrangements)
  all_words [] frames arrangements each = tt
  all_words (f ∷ fs) [] arrangements each = tt
  all_words (f ∷ fs) (frame ∷ frames) [] each = tt
  all_words (f ∷ fs) (frame ∷ frames) (lists ∷ rest) each =
      (mapped_words (parameter_address lists frame) (each 0 f frame lists refl refl refl) f.params, all_words fs frames rest (λ n code other ls there framed arranged. each (suc n) code other ls there framed arranged))

  frames_words : HaveWords e.code.functions e.plan.frames e.arrangements
  frames_words f code frame lists there framed arranged v =
      let h = frame_at e is f (slice_get_within e.code.functions f code there) in
      let same_frame = same_Some (frame_of h.code h.lists h.start) frame (sym h.framed ∙ framed) in
      let same_lists = same_Some h.lists lists (sym h.arranged ∙ arranged) in
      let low = parameter_word_of f h v in
      subst (λ n. n < 65536) (λ i. parameter_address (same_lists i) (same_frame i) v) low

  parameters_words : ListsAreWords (parameters_of e)
  parameters_words = all_words e.code.functions e.plan.frames e.arrangements frames_words

  pub record Fits (s : Places) : Type 0 where
    pub registers : HaveRegisters s.scalars
    pub own : HaveOwnRegisters s.scalars
    pub words : HasAddresses s
    pub step : s.step < 256

  pub places_fit : (active : List ℕ) → AreActive e active → Fits (site_places e active)
  places_fit [] are = record {
    registers = tt;
    own = tt;
    words = record { scalars = tt; statics = are_words e.plan.statics statics_words; locals = tt; parameters = parameters_words };
    step = is.step;
  }
  places_fit (g ∷ fs) are =
      let h = frame_first e is g fs are in
      let bases = list_bases h.start h.lists in
      let few = few_lists g h in
      subst Fits (sym (places_framed e is g fs h)) (record {
        registers = placed_registers h.lists bases few 0 h.code.scalars;
        own = placed_own h.lists bases few 0 h.code.scalars;
        words = record {
          scalars = placed_words h.lists bases few 0 h.code.scalars;
          statics = are_words e.plan.statics statics_words;
          locals = are_words (frame_of h.code h.lists h.start).locals (locals_words g h);
          parameters = parameters_words;
        };
        step = is.step;
      })
