-- Two choices of fresh names give tokens that are each other's renamed.
use Rattle.std.proofs.Common.{arith, ◌≡◌, ◌≢◌, ℕ, suc, ◌+◌, ◌≤◌, Bool, true, false, List, [], ◌∷◌, ◌++◌, length, map, refl, sym, ap, ◌∙◌, subst, inl, inr}
use Rattle.std.specs.Prelude.{codes, if◌then◌else◌, ◌||◌}
use Rattle.std.specs.Str.{bytes_eq}
use Rattle.std.specs.List.{AllByRecursion}
use Rattle.std.proofs.lemmas.List.{map-append}
use Rattle.std.proofs.lemmas.List.Elements.{All-from_recursion, recursion_from_All}
use Rattle.std.proofs.lemmas.Slice.Eq.{bytes_eq-Decides}
use Rattle.c_tree.specs.c_syntax.declared.token.Token.{Token}
use Rattle.c_tree.specs.c_syntax.declared.token.TokenKind.{TokenKind}
use Rattle.c_tree.specs.c_syntax.declared.token.TokenKind.TheVariants.{Word, Name, Number, Char, Mark}
use Rattle.c_tree.specs.TypedTree.{ProgramTree}
use Rattle.c_lexer.specs.TokenText.{kind_text, placed_from}
use Rattle.c_rules.specs.Units.{is_name_among}
use Rattle.c_renaming.specs.Renaming.{Renaming, IsFaithful}
use Rattle.c_renaming.specs.RenamedTokens.{renamed_kind}
use Rattle.c_renaming.specs.RenamedTrees.{renamed_unit}
use Rattle.c_renaming.proofs.PlaceLemmas.{place_in, Rises, rises_more, HaveKinds, all_renamed, source_renamed}
use Rattle.c_renaming.proofs.ProgramLemmas.{typed_renamed}
use Rattle.c_units.specs.Statics.{statics_of}
use Rattle.c_units.specs.Files.{FileTree}
use Rattle.c_units.specs.Joining.{Choice, renaming_of, file_kinds, joined_kinds, Joined}
use Rattle.c_units.specs.Choices.{StaticOf, all_statics, IsFreshName, IsFresh, HasProgram, HasRenamed}
use Rattle.c_units.proofs.ListLemmas.{IsMember, all_weaker, all_members, member_first, member_last, contained}
use Rattle.c_units.proofs.SwapLemmas.{changed, changed_other, changed_each, changed_same}

-- a name among the statics of a file is one of them
abbrev pub static : ℕ → List ℕ → StaticOf
static number name = record { number = number; name = name }

pub static_member : (number : ℕ) (statics : List (List ℕ)) (name : List ℕ) → is_name_among name statics ≡ true
    → IsMember (static number name) (map (static number) statics)
static_member number [] name among = absurd cc
static_member number (n ∷ statics) name among = by (bytes_eq n name) refl among (static_member number statics name)
  where
    by : (test : Bool) → bytes_eq n name ≡ test → (test || is_name_among name statics) ≡ true
        → (is_name_among name statics ≡ true → IsMember (static number name) (map (static number) statics)) → IsMember (static number name) (map (static number) (n ∷ statics))
    by true is found later = inl (ap (static number) ((bytes_eq-Decides n name).0 is))
    by false is found later = inr (later found)

-- ---- places

rises_placed : (at : ℕ) (tokens : List Token) → Rises at (placed_from at tokens)
rises_placed at [] = tt {0}
rises_placed at (t ∷ ts) =
    let next : ℕ = at + (length (kind_text t.kind) + 1) in
    (omega arith, rises_more (at + 1) next (placed_from next ts) (omega arith) (rises_placed next ts))

have_kinds : (r : Renaming) (ts us : List Token) → map (renamed_kind r) (map (λ t. t.kind) ts) ≡ map (λ t. t.kind) us → HaveKinds r ts us
have_kinds r [] [] same = tt {0}
have_kinds r [] (u ∷ us) same = absurd cc
have_kinds r (t ∷ ts) [] same = absurd cc
have_kinds r (t ∷ ts) (u ∷ us) same =
    let rest : map (renamed_kind r) (map (λ t. t.kind) ts) ≡ map (λ t. t.kind) us = cc in (cc, have_kinds r ts us rest)

-- ---- from one choice to another

module _ (files : List FileTree) (from to : Choice) (fresh : IsFresh from files) (other : IsFresh to files) (tokens others : List Token) where
  statics : List StaticOf
  statics = all_statics 1 files

  abbrev old_name : StaticOf → List ℕ
  old_name s = from s.number s.name

  abbrev new_name : StaticOf → List ℕ
  new_name s = to s.number s.name

  abbrev renaming : Renaming
  renaming = record { name = changed old_name new_name (all_statics 1 files); place = place_in tokens others }

  -- names of neither choice
  abbrev IsOther : List ℕ → Type 0
  IsOther name = AllByRecursion (λ s. (name ≢ old_name s) × (name ≢ new_name s)) (all_statics 1 files)

  both_fresh : AllByRecursion (λ s. IsFreshName files (old_name s) × IsFreshName files (new_name s)) (all_statics 1 files)
  both_fresh = recursion_from_All (λ s. IsFreshName files (old_name s) × IsFreshName files (new_name s)) (all_statics 1 files) (λ k d less. (fresh.names k d less, other.names k d less))

  is_other : (name : List ℕ) → ((fresh : List ℕ) → IsFreshName files fresh → name ≢ fresh) → IsOther name
  is_other name never =
      all_weaker (λ s. IsFreshName files (old_name s) × IsFreshName files (new_name s)) (λ s. (name ≢ old_name s) × (name ≢ new_name s))
      (λ s h. (never (old_name s) h.0, never (new_name s) h.1)) (all_statics 1 files) both_fresh

  not_empty : (fresh : List ℕ) → IsFreshName files fresh → [] ≢ fresh
  not_empty fresh h e = let some : 1 ≤ length {A = ℕ} [] = subst (λ l. 1 ≤ length l) (sym e) h.spelled.0.from_one in omega (arith, some)

  stays : (name : List ℕ) → IsOther name → renaming.name name ≡ name
  stays = changed_other old_name new_name (all_statics 1 files)

  faithful : IsFaithful renaming
  faithful = record {
    same = changed_same old_name new_name (all_statics 1 files);
    main = stays (codes "main") (is_other (codes "main") (λ name h e. h.no_main (sym e)));
    port_in = stays (codes "__in") (is_other (codes "__in") (λ name h e. h.no_in (sym e)));
    port_out = stays (codes "__out") (is_other (codes "__out") (λ name h e. h.no_out (sym e)));
    nothing = stays [] (is_other [] not_empty);
  }

  each_renamed : (s : StaticOf) → IsMember s (all_statics 1 files) → renaming.name (old_name s) ≡ new_name s
  each_renamed =
      changed_each old_name new_name (all_statics 1 files)
      (λ s t in_s in_t. fresh.apart s t (contained s (all_statics 1 files) in_s) (contained t (all_statics 1 files) in_t))
      (λ s t in_s in_t. other.apart s t (contained s (all_statics 1 files) in_s) (contained t (all_statics 1 files) in_t))

  -- ---- kinds

  -- a kind that is no name of either choice
  abbrev IsOtherKind : TokenKind → Type 0
  IsOtherKind kind = AllByRecursion (λ s. (kind ≢ Name (old_name s)) × (kind ≢ Name (new_name s))) (all_statics 1 files)

  abbrev HasOtherKinds : FileTree → Type 0
  HasOtherKinds file = AllByRecursion (λ t. IsOtherKind t.kind) file.tokens

  other_kinds : AllByRecursion HasOtherKinds files
  other_kinds =
      recursion_from_All HasOtherKinds files (λ i file in_files. recursion_from_All (λ t. IsOtherKind t.kind) _
      (λ j t in_tokens. recursion_from_All (λ s. (_ ≢ Name (old_name s)) × (_ ≢ Name (new_name s))) (all_statics 1 files)
      (λ k s in_statics. ((fresh.names k s in_statics).absent i file in_files j t in_tokens, (other.names k s in_statics).absent i file in_files j t in_tokens))))

  other_name : (name : List ℕ) → IsOtherKind (Name name) → IsOther name
  other_name name =
      all_weaker (λ s. (Name name ≢ Name (old_name s)) × (Name name ≢ Name (new_name s))) (λ s. (name ≢ old_name s) × (name ≢ new_name s))
      (λ s h. ((λ e. h.0 (ap Name e)), (λ e. h.1 (ap Name e)))) (all_statics 1 files)

  kind_renamed : (number : ℕ) (file : FileTree) → ((s : StaticOf) → IsMember s (map (static number) (statics_of file.unit)) → IsMember s (all_statics 1 files))
      → (kind : TokenKind) → IsOtherKind kind → renamed_kind renaming (renamed_kind (renaming_of from number file) kind) ≡ renamed_kind (renaming_of to number file) kind
  kind_renamed number file within (Word keyword) h = refl
  kind_renamed number file within (Number value marked decimal) h = refl
  kind_renamed number file within (Char value) h = refl
  kind_renamed number file within (Mark mark) h = refl
  kind_renamed number file within (Name name) h = by (is_name_among name (statics_of file.unit)) refl
    where
      by : (test : Bool) → is_name_among name (statics_of file.unit) ≡ test
          → Name (renaming.name (if test then from number name else name)) ≡ Name (if test then to number name else name)
      by true among = ap Name (each_renamed (static number name) (within (static number name) (static_member number (statics_of file.unit) name among)))
      by false among = ap Name (stays name (other_name name h))

  tokens_renamed : (number : ℕ) (file : FileTree) → ((s : StaticOf) → IsMember s (map (static number) (statics_of file.unit)) → IsMember s (all_statics 1 files))
      → (ts : List Token) → AllByRecursion (λ t. IsOtherKind t.kind) ts
      → map (renamed_kind renaming) (map (λ t. renamed_kind (renaming_of from number file) t.kind) ts) ≡ map (λ t. renamed_kind (renaming_of to number file) t.kind) ts
  tokens_renamed number file within [] h = refl
  tokens_renamed number file within (t ∷ ts) h =
      let one = kind_renamed number file within t.kind h.0 in
      let more = tokens_renamed number file within ts h.1 in
      λ i. one i ∷ more i

  kinds_renamed : (number : ℕ) (rest : List FileTree) → ((s : StaticOf) → IsMember s (all_statics number rest) → IsMember s (all_statics 1 files)) → AllByRecursion HasOtherKinds rest
      → map (renamed_kind renaming) (joined_kinds from number rest) ≡ joined_kinds to number rest
  kinds_renamed number [] within h = refl
  kinds_renamed number (file ∷ rest) within h =
      let here = map (static number) (statics_of file.unit) in
      let one = tokens_renamed number file (λ s is. within s (member_first s here (all_statics (suc number) rest) is)) file.tokens h.0 in
      let more = kinds_renamed (suc number) rest (λ s is. within s (member_last s here (all_statics (suc number) rest) is)) h.1 in
      map-append (renamed_kind renaming) (file_kinds from number file) (joined_kinds from (suc number) rest) ∙ (λ i. one i ++ more i)

  -- ---- programs

  agree : (program : ProgramTree) → Joined from files tokens → Joined to files others → HasProgram tokens program → HasRenamed files from to others program
  agree program joined again has =
      let kinds : map (renamed_kind renaming) (map (λ t. t.kind) tokens) ≡ map (λ t. t.kind) others =
      ap (map (renamed_kind renaming)) joined.kinds ∙ kinds_renamed 1 files (λ s is. is) other_kinds ∙ sym again.kinds in
      let are = all_renamed renaming 0 tokens others (subst (Rises 0) (sym joined.placed) (rises_placed 0 tokens)) (have_kinds renaming tokens others kinds) (λ n above. refl) in
      record {
        renaming = renaming;
        faithful = faithful;
        statics = All-from_recursion (λ s. renaming.name (from s.number s.name) ≡ to s.number s.name) (all_statics 1 files)
            (all_members (λ s. renaming.name (from s.number s.name) ≡ to s.number s.name) (all_statics 1 files) each_renamed);
        others = λ name h. stays name (recursion_from_All (λ s. (name ≢ from s.number s.name) × (name ≢ to s.number s.name)) (all_statics 1 files) h);
        has = record {
          unit = renamed_unit renaming has.unit;
          source = source_renamed renaming tokens others has.unit are has.source;
          typed = typed_renamed renaming has.unit program faithful has.typed;
        };
      }

pub choices_agree : (files : List FileTree) (from to : Choice) (tokens others : List Token) (program : ProgramTree)
    → IsFresh from files → IsFresh to files → Joined from files tokens → Joined to files others → HasProgram tokens program → HasRenamed files from to others program
choices_agree files from to tokens others program fresh other joined again has = agree files from to fresh other tokens others program joined again has
