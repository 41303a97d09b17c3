-- Typed programs of sources that are one renamed.
use Rattle.std.proofs.Common.{◌≡◌, ℕ, zero, suc, ◌+◌, ◌==◌, ◌&&◌, ◌||◌, not, Bool, true, if◌then◌else◌, List, [], ◌∷◌, ◌++◌, length, map, take, slice_get, option_map, Option, Some, None, refl, sym, ap, ◌∙◌, subst}
use Rattle.std.specs.Prelude.{codes}
use Rattle.std.specs.Str.{bytes_eq}
use Rattle.std.specs.List.{range_with_len}
use Rattle.std.proofs.lemmas.List.{length-map}
use Rattle.std.proofs.lemmas.Option.{slice_get-map}
use Rattle.c_tree.specs.declared.program.VarRef.{VarRef}
use Rattle.c_tree.specs.declared.program.VarRef.TheVariants as refs
use Rattle.c_tree.specs.declared.uses.Use.{Use}
use Rattle.c_tree.specs.c_syntax.SyntaxTree.{UnitTree}
use Rattle.c_tree.specs.TypedTree.{ProgramTree}
use Rattle.c_tree.specs.Rounds.{CallsAmong, HasNoRound}
use Rattle.c_tree.specs.Uses.{called, statement_uses}
use Rattle.c_rules.specs.declared.fault.LimitName.{LimitName}
use Rattle.c_rules.specs.declared.fault.LimitName.TheVariants.{Functions, Parameters, Scalars, Cases}
use Rattle.c_rules.specs.Outcome.{Outcome, Is, Broken}
use Rattle.c_rules.specs.Kinds.{int, same_kind}
use Rattle.c_rules.specs.Statements.{LocalTree}
use Rattle.c_rules.specs.Units.{TypedFunction, File, typed_unit}
use Rattle.c_rules.specs.Programs.{is_one_cell, is_scalar, count_below, reference, references, frame, frame_scalars, cell_kind, local_object, scalars_in, objects_in, function_with, function_tree, object_tree, program_tree, has_main, calls_of}
use Rattle.c_rules.specs.Whole.{uses_of, first_without, first_among, missing_body, frame_size, all_cases, limited_counts, greatest_count, first_above}
use Rattle.c_rules.specs.Checked.{AreWhole, IsTyped}
use Rattle.c_renaming.specs.Renaming.{Renaming, IsFaithful}
use Rattle.c_renaming.specs.RenamedTrees.{renamed_unit}
use Rattle.c_renaming.specs.RenamedPrograms.{renamed_object, renamed_function_tree, renamed_program}
use Rattle.c_renaming.proofs.RelatedOutcomes.{AreRelated}
use Rattle.c_renaming.proofs.StatementLemmas.{renamed_local}
use Rattle.c_renaming.proofs.UnitLemmas.{renamed_static, renamed_typed_function, IsFileRenamed, typed_unit_renamed}
use Rattle.c_renaming.proofs.UseLemmas.{renamed_use, statement_uses_renamed, called_renamed, case_counts_renamed, is_pointed_renamed, number_code, is_absent, earlier_absent, first_without_renamed}
use Rattle.c_renaming.proofs.TemporaryLemmas.{statement_temporaries_renamed}

map_map : {A B C : Type 0} (f : A → B) (g : B → C) (xs : List A) → map g (map f xs) ≡ map (λ x. g (f x)) xs
map_map f g [] = refl
map_map f g (x ∷ xs) = ap (λ l. g (f x) ∷ l) (map_map f g xs)

map_same : {A B : Type 0} (f g : A → B) (xs : List A) → ((x : A) → f x ≡ g x) → map f xs ≡ map g xs
map_same f g [] same = refl
map_same f g (x ∷ xs) same = λ i. same x i ∷ map_same f g xs same i

module _ (r : Renaming) where
  -- ---- frames

  one_cell_renamed : (l : Option LocalTree) → is_one_cell (option_map (renamed_local r) l) ≡ is_one_cell l
  one_cell_renamed None = refl
  one_cell_renamed (Some l) = refl

  scalar_renamed : (us : List Use) (ls : List LocalTree) (n : ℕ) → is_scalar (map (renamed_use r) us) (map (renamed_local r) ls) n ≡ is_scalar us ls n
  scalar_renamed us ls n =
      λ i. (ap is_one_cell (slice_get-map (renamed_local r) ls n) ∙ one_cell_renamed (slice_get ls n)) i && not (is_pointed_renamed r us n i)

  count_same : (p q : ℕ → Bool) (n : ℕ) → ((k : ℕ) → p k ≡ q k) → count_below p n ≡ count_below q n
  count_same p q zero same = refl
  count_same p q (suc n) same = λ i. if same n i then suc (count_same p q n same i) else count_same p q n same i

  reference_renamed : (us : List Use) (ls : List LocalTree) (n : ℕ) → reference (map (renamed_use r) us) (map (renamed_local r) ls) n ≡ reference us ls n
  reference_renamed us ls n =
      λ i. if scalar_renamed us ls n i
      then refs.Scalar (count_same (is_scalar (map (renamed_use r) us) (map (renamed_local r) ls)) (is_scalar us ls) n (scalar_renamed us ls) i)
      else refs.Local (count_same (λ k. not (is_scalar (map (renamed_use r) us) (map (renamed_local r) ls) k)) (λ k. not (is_scalar us ls k)) n (λ k. ap not (scalar_renamed us ls k)) i)

  references_renamed : (us : List Use) (ls : List LocalTree) → references (map (renamed_use r) us) (map (renamed_local r) ls) ≡ references us ls
  references_renamed us ls =
      ap (λ n. map (reference (map (renamed_use r) us) (map (renamed_local r) ls)) (range_with_len 0 n)) (length-map ls (renamed_local r))
      ∙ map_same (reference (map (renamed_use r) us) (map (renamed_local r) ls)) (reference us ls) (range_with_len 0 (length ls)) (reference_renamed us ls)

  frame_renamed : (f : TypedFunction) → frame (renamed_typed_function r f) ≡ frame f
  frame_renamed f = ap (λ us. references us (map (renamed_local r) f.locals)) (statement_uses_renamed r f.body) ∙ references_renamed (statement_uses f.body) f.locals

  -- ---- functions and objects

  scalars_renamed : (vs : List VarRef) (ls : List LocalTree) → scalars_in vs (map (renamed_local r) ls) ≡ scalars_in vs ls
  scalars_renamed [] ls = refl
  scalars_renamed (refs.Scalar n ∷ vs) [] = refl
  scalars_renamed (refs.Local n ∷ vs) [] = refl
  scalars_renamed (refs.Static n ∷ vs) [] = refl
  scalars_renamed (refs.Scalar n ∷ vs) (l ∷ ls) = ap (λ k. cell_kind l.object_type ∷ k) (scalars_renamed vs ls)
  scalars_renamed (refs.Local n ∷ vs) (l ∷ ls) = scalars_renamed vs ls
  scalars_renamed (refs.Static n ∷ vs) (l ∷ ls) = scalars_renamed vs ls

  objects_renamed : (vs : List VarRef) (ls : List LocalTree) → objects_in vs (map (renamed_local r) ls) ≡ map (renamed_object r) (objects_in vs ls)
  objects_renamed [] ls = refl
  objects_renamed (refs.Scalar n ∷ vs) [] = refl
  objects_renamed (refs.Local n ∷ vs) [] = refl
  objects_renamed (refs.Static n ∷ vs) [] = refl
  objects_renamed (refs.Scalar n ∷ vs) (l ∷ ls) = objects_renamed vs ls
  objects_renamed (refs.Local n ∷ vs) (l ∷ ls) = ap (λ k. renamed_object r (local_object l) ∷ k) (objects_renamed vs ls)
  objects_renamed (refs.Static n ∷ vs) (l ∷ ls) = objects_renamed vs ls

  function_with_renamed : (vs : List VarRef) (f : TypedFunction) → function_with vs (renamed_typed_function r f) ≡ renamed_function_tree r (function_with vs f)
  function_with_renamed vs f = λ i. record {
    name = r.name f.name;
    result = f.result;
    params = take f.parameters vs;
    scalars = scalars_renamed vs f.locals i;
    locals = objects_renamed vs f.locals i;
    body = number_code r vs f.body i;
  }

  function_renamed : (f : TypedFunction) → function_tree (renamed_typed_function r f) ≡ renamed_function_tree r (function_tree f)
  function_renamed f = ap (λ vs. function_with vs (renamed_typed_function r f)) (frame_renamed f) ∙ function_with_renamed (frame f) f

  pub program_renamed : (f g : File) → IsFileRenamed r f g → program_tree g ≡ renamed_program r (program_tree f)
  program_renamed f g same = λ i. record {
    statics = (ap (map object_tree) same.statics ∙ map_map (renamed_static r) object_tree f.statics
        ∙ sym (map_map object_tree (renamed_object r) f.statics)) i;
    functions = (ap (map function_tree) same.functions ∙ map_map (renamed_typed_function r) function_tree f.functions
        ∙ map_same (λ x. function_tree (renamed_typed_function r x)) (λ x. renamed_function_tree r (function_tree x)) f.functions function_renamed
        ∙ sym (map_map function_tree (renamed_function_tree r) f.functions)) i;
  }

  -- ---- whole sources

  uses_of_all : (fs : List TypedFunction) → map uses_of (map (renamed_typed_function r) fs) ≡ map (map (renamed_use r)) (map uses_of fs)
  uses_of_all [] = refl
  uses_of_all (f ∷ fs) = λ i. statement_uses_renamed r f.body i ∷ uses_of_all fs i

  main_renamed : IsFaithful r → (fs : List TypedFunction) → has_main (map (renamed_typed_function r) fs) ≡ has_main fs
  main_renamed faithful [] = refl
  main_renamed faithful (f ∷ fs) =
      λ i. ((ap (bytes_eq (r.name f.name)) (sym faithful.main) ∙ faithful.same f.name (codes "main")) i && (same_kind f.result (Some int) && f.parameters == 0)) || main_renamed faithful fs i

  first_among_renamed : (bodies : ℕ) (uses : List (List Use)) → is_absent (first_among bodies (map (map (renamed_use r)) uses)) ≡ is_absent (first_among bodies uses)
  first_among_renamed bodies [] = refl
  first_among_renamed bodies (us ∷ rest) =
      earlier_absent (first_without bodies (map (renamed_use r) us)) (first_among bodies (map (map (renamed_use r)) rest)) (first_without bodies us) (first_among bodies rest)
      (first_without_renamed r bodies us) (first_among_renamed bodies rest)

  missing_renamed : (fs : List TypedFunction) → is_absent (missing_body (map (renamed_typed_function r) fs)) ≡ is_absent (missing_body fs)
  missing_renamed fs =
      ap (λ n. is_absent (first_among n (map uses_of (map (renamed_typed_function r) fs)))) (length-map fs (renamed_typed_function r))
      ∙ ap (λ us. is_absent (first_among (length fs) us)) (uses_of_all fs)
      ∙ first_among_renamed (length fs) (map uses_of fs)

  absent : (o : Option ℕ) → is_absent o ≡ true → o ≡ None
  absent None e = refl
  absent (Some n) e = absurd cc

  calls_renamed : (fs : List TypedFunction) → calls_of (map (renamed_typed_function r) fs) ≡ calls_of fs
  calls_renamed [] = refl
  calls_renamed (f ∷ fs) = λ i. (ap called (statement_uses_renamed r f.body) ∙ called_renamed r (statement_uses f.body)) i ∷ calls_renamed fs i

  frame_size_renamed : (f : TypedFunction) → frame_size (renamed_typed_function r f) ≡ frame_size f
  frame_size_renamed f = λ i. frame_scalars (frame_renamed f i) + statement_temporaries_renamed r f.body i

  all_cases_renamed : (uses : List (List Use)) → all_cases (map (map (renamed_use r)) uses) ≡ all_cases uses
  all_cases_renamed [] = refl
  all_cases_renamed (us ∷ rest) = λ i. case_counts_renamed r us i ++ all_cases_renamed rest i

  counts_renamed : (which : LimitName) (fs : List TypedFunction) → limited_counts which (map (renamed_typed_function r) fs) ≡ limited_counts which fs
  counts_renamed Functions fs = ap (λ n. n ∷ []) (length-map fs (renamed_typed_function r))
  counts_renamed Parameters fs = map_map (renamed_typed_function r) (λ f. f.parameters) fs
  counts_renamed Scalars fs = map_map (renamed_typed_function r) frame_size fs ∙ map_same (λ f. frame_size (renamed_typed_function r f)) frame_size fs frame_size_renamed
  counts_renamed Cases fs = ap all_cases (uses_of_all fs) ∙ all_cases_renamed (map uses_of fs)

  whole_renamed : IsFaithful r → (fs : List TypedFunction) → AreWhole fs → AreWhole (map (renamed_typed_function r) fs)
  whole_renamed faithful fs whole = record {
    main = main_renamed faithful fs ∙ whole.main;
    bodies = absent (missing_body (map (renamed_typed_function r) fs)) (missing_renamed fs ∙ ap is_absent whole.bodies);
    no_cycle = subst (λ calls. HasNoRound (CallsAmong calls)) (sym (calls_renamed fs)) whole.no_cycle;
    limits = λ which. ap (first_above (greatest_count which)) (counts_renamed which fs) ∙ whole.limits which;
  }

  -- ---- the law

  pub typed_renamed : (unit : UnitTree) (program : ProgramTree) → IsFaithful r → IsTyped unit program → IsTyped (renamed_unit r unit) (renamed_program r program)
  typed_renamed unit program faithful typed =
      by (typed_unit (renamed_unit r unit)) refl (subst (λ o. AreRelated r.place (IsFileRenamed r) o (typed_unit (renamed_unit r unit))) typed.typed (typed_unit_renamed r faithful unit))
    where
      by : (o : Outcome File) → typed_unit (renamed_unit r unit) ≡ o → AreRelated r.place (IsFileRenamed r) (Is typed.file) o → IsTyped (renamed_unit r unit) (renamed_program r program)
      by (Is g) e same = record {
        file = g;
        typed = e;
        whole = subst AreWhole (sym same.functions) (whole_renamed faithful typed.file.functions typed.whole);
        tree = ap (renamed_program r) typed.tree ∙ sym (program_renamed typed.file g same);
      }
      by (Broken rule at) e same = absurd same
