-- The new name of a static is at the tokens of its file that have its name, and nowhere else.
use Rattle.std.proofs.Common.{arith, ◌≡◌, ◌≢◌, ◌⊎◌, ℕ, suc, ◌+◌, ◌≤◌, Bool, true, false, List, [], ◌∷◌, ◌++◌, length, map, refl, sym, ap, ◌∙◌, subst, inl, inr}
use Rattle.std.specs.Prelude.{All, Contains, ◌↔◌, ◌||◌, if◌then◌else◌}
use Rattle.std.specs.Str.{bytes_eq}
use Rattle.std.proofs.lemmas.List.Elements.{All-from_recursion, All-contains, Contains-append_right}
use Rattle.std.proofs.lemmas.Slice.Eq.{bytes_eq-Decides}
use Rattle.c_tree.specs.c_syntax.declared.token.Token.{Token}
use Rattle.c_tree.specs.c_syntax.declared.token.TokenKind.{TokenKind}
use Rattle.c_tree.specs.c_syntax.declared.token.TokenKind.TheVariants.{Word, Name, Number, Char, Mark}
use Rattle.c_rules.specs.Units.{is_name_among}
use Rattle.c_renaming.specs.RenamedTokens.{renamed_kind}
use Rattle.c_units.specs.Statics.{statics_of}
use Rattle.c_units.specs.Files.{FileTree}
use Rattle.c_units.specs.Joining.{Choice, renaming_of}
use Rattle.c_units.specs.Choices.{StaticOf, all_statics, IsFresh, IsOfStatic}
use Rattle.c_units.proofs.ListLemmas.{IsMember, all_members, member_first, member_last, contained}
use Rattle.c_units.proofs.ChoiceLemmas.{static, static_member}

-- ---- members

member_cases : {A : Type 0} (x : A) (xs ys : List A) → IsMember x (xs ++ ys) → IsMember x xs ⊎ IsMember x ys
member_cases x [] ys is = inr is
member_cases x (y ∷ xs) ys (inl e) = inl (inl e)
member_cases x (y ∷ xs) ys (inr is) = later (member_cases x xs ys is)
  where
    later : IsMember x xs ⊎ IsMember x ys → IsMember x (y ∷ xs) ⊎ IsMember x ys
    later (inl front) = inl (inr front)
    later (inr back) = inr back

member_of : {A : Type 0} (x : A) (xs : List A) → Contains xs x → IsMember x xs
member_of x xs = All-contains (λ y. IsMember y xs) xs x (All-from_recursion (λ y. IsMember y xs) xs (all_members (λ y. IsMember y xs) xs (λ y is. is)))

among : (name : List ℕ) (names : List (List ℕ)) → IsMember name names → is_name_among name names ≡ true
among name [] is = absurd is
among name (n ∷ names) (inl e) = ap (λ b. b || is_name_among name names) ((bytes_eq-Decides n name).1 e)
among name (n ∷ names) (inr is) = by (bytes_eq n name) (among name names is)
  where
    by : (b : Bool) → is_name_among name names ≡ true → (b || is_name_among name names) ≡ true
    by true e = refl
    by false e = e

-- ---- the statics of one file among those of all

of_file : (number : ℕ) (names : List (List ℕ)) (s : StaticOf) → IsMember s (map (static number) names) → (s.number ≡ number) × IsMember s.name names
of_file number [] s is = absurd is
of_file number (n ∷ names) s (inl e) = (sym (ap (λ o. o.number) e), inl (ap (λ o. o.name) e))
of_file number (n ∷ names) s (inr is) = let later = of_file number names s is in (later.0, inr later.1)

from_number : (number : ℕ) (files : List FileTree) (s : StaticOf) → IsMember s (all_statics number files) → number ≤ s.number
from_number number [] s is = absurd is
from_number number (file ∷ files) s is = by (member_cases s (map (static number) (statics_of file.unit)) (all_statics (suc number) files) is) (from_number (suc number) files s)
  where
    by : IsMember s (map (static number) (statics_of file.unit)) ⊎ IsMember s (all_statics (suc number) files)
        → (IsMember s (all_statics (suc number) files) → suc number ≤ s.number) → number ≤ s.number
    by (inl here) later = omega (arith, (of_file number (statics_of file.unit) s here).0)
    by (inr there) later = omega (arith, later there)

own : (number : ℕ) (before following : List FileTree) (file : FileTree) (s : StaticOf) → IsMember s (all_statics number (before ++ file ∷ following)) → s.number ≡ number + length before
    → IsMember s.name (statics_of file.unit)
own number [] following file s is at = by (member_cases s (map (static number) (statics_of file.unit)) (all_statics (suc number) following) is)
  where
    by : IsMember s (map (static number) (statics_of file.unit)) ⊎ IsMember s (all_statics (suc number) following) → IsMember s.name (statics_of file.unit)
    by (inl here) = (of_file number (statics_of file.unit) s here).1
    by (inr there) = absurd (omega (arith, at, from_number (suc number) following s there))
own number (f ∷ before) following file s is at =
    by (member_cases s (map (static number) (statics_of f.unit)) (all_statics (suc number) (before ++ file ∷ following)) is) (λ there. own (suc number) before following file s there (omega (arith, at)))
  where
    by : IsMember s (map (static number) (statics_of f.unit)) ⊎ IsMember s (all_statics (suc number) (before ++ file ∷ following))
        → (IsMember s (all_statics (suc number) (before ++ file ∷ following)) → IsMember s.name (statics_of file.unit)) → IsMember s.name (statics_of file.unit)
    by (inl here) later = absurd (omega (arith, at, (of_file number (statics_of f.unit) s here).0))
    by (inr there) later = later there

here : (number : ℕ) (before following : List FileTree) (file : FileTree) (own_number : ℕ) (s : StaticOf) → own_number ≡ number + length before
    → IsMember s (map (static own_number) (statics_of file.unit)) → IsMember s (all_statics number (before ++ file ∷ following))
here number [] following file own_number s at is =
    let same : own_number ≡ number = omega (arith, at) in
    member_first s (map (static number) (statics_of file.unit)) (all_statics (suc number) following) (subst (λ n. IsMember s (map (static n) (statics_of file.unit))) same is)
here number (f ∷ before) following file own_number s at is =
    member_last s (map (static number) (statics_of f.unit)) (all_statics (suc number) (before ++ file ∷ following))
    (here (suc number) before following file own_number s (omega (arith, at)) is)

-- ---- the law

module _ (files before following : List FileTree) (file : FileTree) (choice : Choice) (s : StaticOf) (fresh : IsFresh choice files) (are : files ≡ before ++ file ∷ following) (in_files : Contains (all_statics 1 files) s) where
  abbrev number : ℕ
  number = length before + 1

  there : (o : StaticOf) → IsMember o (map (static number) (statics_of file.unit)) → Contains (all_statics 1 files) o
  there o is = contained o (all_statics 1 files) (subst (λ l. IsMember o (all_statics 1 l)) (sym are) (here 1 before following file number o (omega arith) is))

  among_own : s.number ≡ number → is_name_among s.name (statics_of file.unit) ≡ true
  among_own e =
      among s.name (statics_of file.unit)
      (own 1 before following file s (subst (λ l. IsMember s (all_statics 1 l)) are (member_of s (all_statics 1 files) in_files)) (omega (arith, e)))

  absent_here : (t : Token) → Contains file.tokens t → t.kind ≢ Name (choice s.number s.name)
  absent_here t in_tokens =
      All-contains (λ u. u.kind ≢ Name (choice s.number s.name)) file.tokens t
      (All-contains (λ f. All (λ u. u.kind ≢ Name (choice s.number s.name)) f.tokens) files file
      (All-contains (λ o. All (λ f. All (λ u. u.kind ≢ Name (choice o.number o.name)) f.tokens) files) (all_statics 1 files) s (λ k d less. (fresh.names k d less).absent) in_files)
      (subst (λ l. Contains l file) (sym are) (Contains-append_right before (file ∷ following) file (contained file (file ∷ following) (inl refl)))))
      in_tokens

  abbrev new_kind : TokenKind → TokenKind
  new_kind kind = renamed_kind (renaming_of choice number file) kind

  kind_of_static : (kind : TokenKind) → kind ≢ Name (choice s.number s.name) → new_kind kind ≡ Name (choice s.number s.name) → (s.number ≡ number) × (kind ≡ Name s.name)
  kind_of_static (Word keyword) absent e = absurd cc
  kind_of_static (Number value marked decimal) absent e = absurd cc
  kind_of_static (Char value) absent e = absurd cc
  kind_of_static (Mark mark) absent e = absurd cc
  kind_of_static (Name name) absent e = by (is_name_among name (statics_of file.unit)) refl e
    where
      by : (b : Bool) → is_name_among name (statics_of file.unit) ≡ b → Name (if b then choice number name else name) ≡ Name (choice s.number s.name)
          → (s.number ≡ number) × (Name name ≡ Name s.name)
      by true is new =
          let names : choice number name ≡ choice s.number s.name = cc in
          let same : static number name ≡ s = fresh.apart (static number name) s (there (static number name) (static_member number (statics_of file.unit) name is)) in_files names in
          (sym (ap (λ o. o.number) same), ap (λ o. Name o.name) same)
      by false is new = absurd (absent new)

  new_name : s.number ≡ number → new_kind (Name s.name) ≡ Name (choice s.number s.name)
  new_name e = ap (λ b. Name (if b then choice number s.name else s.name)) (among_own e) ∙ ap (λ n. Name (choice n s.name)) (sym e)

  pub own_tokens : (t : Token) → Contains file.tokens t → new_kind t.kind ≡ Name (choice s.number s.name) ↔ IsOfStatic number t s
  own_tokens t in_tokens = (
    (λ e. let both = kind_of_static t.kind (absent_here t in_tokens) e in record { file = both.0; name = both.1 }),
    (λ of. ap new_kind of.name ∙ new_name of.file),
  )
