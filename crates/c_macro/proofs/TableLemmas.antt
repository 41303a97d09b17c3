-- The table of a map of bodies, as it is, with one more name and without one.
use Rattle.std.proofs.Common.{arith, ◌≡◌, ℕ, zero, suc, ◌+◌, ◌<◌, ◌≤◌, Bool, true, false, cond, List, [], ◌∷◌, length, Option, Some, None, Ok, Err, is_some, slice_get, refl, sym, ap, ◌∙◌, subst}
use mathlib.Core.Path.{fun_ext}
use Rattle.std.specs.Borrow.{Bor}
use Rattle.std.specs.Prelude.{Vec, pred, if◌then◌else◌, bytes_eq}
use Rattle.std.specs.Option.{option_map, option_map_or}
use Rattle.std.specs.Map.{keys_of, lookup_key}
use Rattle.std.specs.declared.alloc.Global.{Global}
use Rattle.std.proofs.lemmas.Option.{slice_get-map}
use Rattle.std.proofs.lemmas.Slice.Eq.{bytes_eq-Decides}
use Rattle.std.proofs.lemmas.Map.Entries.{length-keys_of}
use Rattle.std.proofs.lemmas.Map.Text.{hash_map_updates_str}
use Rattle.indexmap.specs.IndexMap.{UpdatesBy, get_by, index_map_len}
use Rattle.indexmap.proofs.MapLemmas.{Found-position, Missing-position}
use Rattle.c_syntax.specs.declared.token.TokenKind.{TokenKind}
use Rattle.c_macro.specs.declared.fault.MacroFault.TheVariants as faults
use Rattle.c_macro.specs.declared.fault.MacroLimit.TheVariants.{Macros}
use Rattle.c_macro.specs.Macros.{without, with_body}
use Rattle.c_macro.specs.Sections.{Section}
use Rattle.c_macro.specs.Expands.{State, Defines, New, OneTooMany, Again, Redefines, with_macro, without_macro}
use Rattle.c_macro.specs.Expanding.{Bodies, index_in, body_at, table_in}

-- ---- the entry of a name

-- an item that is there, read with a default
read_item : {A B : Type 0} (f : A → B) (d : B) (o : Option A) → is_some o ≡ true → Some (option_map_or f o d) ≡ option_map f o
read_item f d None h = absurd cc
read_item f d (Some x) h = refl

map_twice : {A B C : Type 0} (f : A → B) (g : B → C) (o : Option A) → option_map (λ x. g (f x)) o ≡ option_map g (option_map f o)
map_twice f g None = refl
map_twice f g (Some x) = refl

is_there : {A : Type 0} (xs : List A) (i : ℕ) → i < length xs → is_some (slice_get xs i) ≡ true
is_there [] i h = absurd (omega (arith, h))
is_there (x ∷ xs) zero h = refl
is_there (x ∷ xs) (suc i) h = is_there xs i (omega (arith, h))

-- the table is what the map has
pub table_is : (bodies : Bodies) (name : List ℕ) → table_in bodies name ≡ option_map (λ v. v.items) (get_by (λ k. bytes_eq name k.now) bodies)
table_is bodies name = by (index_in bodies name) refl
  where
    by : (o : Option ℕ) → index_in bodies name ≡ o → table_in bodies name ≡ option_map (λ v. v.items) (get_by (λ k. bytes_eq name k.now) bodies)
    by None e =
        let m = Missing-position (λ k. bytes_eq name k.now) bodies.entries e in
        ap (option_map (body_at bodies)) e ∙ ap (option_map (λ v. v.items)) (sym m.value)
    by (Some i) e =
        let f = Found-position (λ k. bytes_eq name k.now) bodies.entries i e in
        ap (option_map (body_at bodies)) e
        ∙ read_item (λ entry. entry.1.items) [] (slice_get bodies.entries i) (is_there bodies.entries i f.within)
        ∙ map_twice (λ entry. entry.1) (λ v. v.items) (slice_get bodies.entries i)
        ∙ ap (option_map (λ v. v.items)) (sym (slice_get-map (λ entry. entry.1) bodies.entries i))
        ∙ ap (option_map (λ v. v.items)) (sym f.value)

pub some_in_table : (bodies : Bodies) (name : List ℕ) → is_some (get_by (λ k. bytes_eq name k.now) bodies) ≡ is_some (table_in bodies name)
some_in_table bodies name = by (get_by (λ k. bytes_eq name k.now) bodies) ∙ ap is_some (sym (table_is bodies name))
  where
    by : (o : Option (Vec TokenKind Global)) → is_some o ≡ is_some (option_map (λ v. v.items) o)
    by None = refl
    by (Some v) = refl

-- the index is that of one name
key_passes : {K X : Type 0} (test : K → Bool) (es : List (K × X)) (k : K) → lookup_key test es ≡ Some k → test k ≡ true
key_passes test [] k e = absurd cc
key_passes {K} {X} test (x ∷ es) k e = by (test x.0) refl e (key_passes test es k)
  where
    by : (b : Bool) → test x.0 ≡ b → cond b (Some x.0) (lookup_key test es) ≡ Some k → (lookup_key test es ≡ Some k → test k ≡ true) → test k ≡ true
    by true t e rest = let same : x.0 ≡ k = cc in subst (λ k. test k ≡ true) same t
    by false t e rest = rest e

key_of : (bodies : Bodies) (name : List ℕ) (i : ℕ) → index_in bodies name ≡ Some i
    → (k : Bor (List ℕ)) × (slice_get (keys_of bodies.entries) i ≡ Some k) × (name ≡ k.now)
key_of bodies name i e =
    let f = Found-position (λ k. bytes_eq name k.now) bodies.entries i e in
    by (slice_get (keys_of bodies.entries) i) refl f.key
    (is_there (keys_of bodies.entries) i (omega (arith, f.within, length-keys_of bodies.entries)))
  where
    by : (o : Option (Bor (List ℕ))) → slice_get (keys_of bodies.entries) i ≡ o
        → lookup_key (λ k. bytes_eq name k.now) bodies.entries ≡ slice_get (keys_of bodies.entries) i
        → is_some (slice_get (keys_of bodies.entries) i) ≡ true
        → (k : Bor (List ℕ)) × (slice_get (keys_of bodies.entries) i ≡ Some k) × (name ≡ k.now)
    by None n key there = absurd cc
    by (Some k) n key there = (k, n, (bytes_eq-Decides name k.now).0 (key_passes (λ k. bytes_eq name k.now) bodies.entries k (key ∙ n)))

pub one_name : (bodies : Bodies) (name other : List ℕ) (i : ℕ) → index_in bodies name ≡ Some i → index_in bodies other ≡ Some i → name ≡ other
one_name bodies name other i e o =
    let k = key_of bodies name i e in
    let l = key_of bodies other i o in
    let same : k.0 ≡ l.0 = cc in
    k.2 ∙ ap (λ k. k.now) same ∙ sym l.2

-- ---- one more name, and one less

pub table_with : (old new : Bodies) (name : List ℕ) (body : Vec TokenKind Global) → UpdatesBy (λ x y. bytes_eq x.now y.now) (λ k. bytes_eq name k.now) old new (Some body)
    → table_in new ≡ with_body name body.items (table_in old)
table_with old new name body u = fun_ext (λ other.
    table_is new other ∙ ap (option_map (λ v. v.items)) (hash_map_updates_str name old new (Some body) u other)
    ∙ by other (bytes_eq name other))
  where
    by : (other : List ℕ) (b : Bool)
        → option_map (λ v. v.items) (cond b (Some body) (get_by (λ k. bytes_eq other k.now) old)) ≡ cond b (Some body.items) (table_in old other)
    by other true = refl
    by other false = sym (table_is old other)

pub table_without : (old new : Bodies) (name : List ℕ) → UpdatesBy (λ x y. bytes_eq x.now y.now) (λ k. bytes_eq name k.now) old new None → table_in new ≡ without name (table_in old)
table_without old new name u = fun_ext (λ other.
    table_is new other ∙ ap (option_map (λ v. v.items)) (hash_map_updates_str name old new None u other)
    ∙ by other (bytes_eq name other))
  where
    by : (other : List ℕ) (b : Bool)
        → option_map (λ v. v.items) (cond b None (get_by (λ k. bytes_eq other k.now) old)) ≡ cond b None (table_in old other)
    by other true = refl
    by other false = sym (table_is old other)

pub undefined : (old new : Bodies) (name : List ℕ) (removed : Option (Vec TokenKind Global)) (sections : List Section)
    → UpdatesBy (λ x y. bytes_eq x.now y.now) (λ k. bytes_eq name k.now) old new None
    → removed ≡ get_by (λ k. bytes_eq name k.now) old
    → index_map_len new + (if is_some removed then 1 else 0) ≡ index_map_len old
    → ◌≡◌ {A = State}
    (record { table = table_in new; defined = index_map_len new; sections = sections })
    (without_macro name (record { table = table_in old; defined = index_map_len old; sections = sections }))
undefined old new name removed sections u value len =
    let was : is_some removed ≡ is_some (table_in old name) = ap is_some value ∙ some_in_table old name in
    let count = by (is_some (table_in old name)) (subst (λ b. index_map_len new + (if b then 1 else 0) ≡ index_map_len old) was len) in
    λ i. record { table = table_without old new name u i; defined = count i; sections = sections }
  where
    by : (b : Bool) → index_map_len new + (if b then 1 else 0) ≡ index_map_len old → index_map_len new ≡ (if b then pred (index_map_len old) else index_map_len old)
    by true e = grind (arith, e)
    by false e = omega (arith, e)

module _ (old : Bodies) (at : ℕ) (name : List ℕ) (body : List TokenKind) (sections : List Section) where
  abbrev state : State
  state = record { table = table_in old; defined = index_map_len old; sections = sections }

  pub defined_new : (new : Bodies) (value : Vec TokenKind Global) → body ≡ value.items → get_by (λ k. bytes_eq name k.now) old ≡ None → index_map_len old < 1000
      → UpdatesBy (λ x y. bytes_eq x.now y.now) (λ k. bytes_eq name k.now) old new (Some value)
      → index_map_len new ≡ index_map_len old + 1
      → Defines state at name body None (Ok (record { table = table_in new; defined = index_map_len new; sections = sections }))
  defined_new new value is none few u len =
      let count : suc (index_map_len old) ≡ index_map_len new = omega (arith, len) in
      let table : with_body name body (table_in old) ≡ table_in new =
      ap (λ b. with_body name b (table_in old)) is ∙ sym (table_with old new name value u) in
      let same : ◌≡◌ {A = State} (with_macro name body state) (record { table = table_in new; defined = index_map_len new; sections = sections }) =
      λ i. record { table = table i; defined = count i; sections = sections } in
      subst (λ s. Defines state at name body None (Ok s)) same
      (New (table_is old name ∙ ap (option_map (λ v. v.items)) none) few)

  -- the map has the name, with this body or with another
  pub defined_again : (value : Vec TokenKind Global) → get_by (λ k. bytes_eq name k.now) old ≡ Some value → value.items ≡ body → Defines state at name body None (Ok state)
  defined_again value has is = Again (table_is old name ∙ ap (option_map (λ v. v.items)) has ∙ ap Some is)

  pub redefined : (value : Vec TokenKind Global) → get_by (λ k. bytes_eq name k.now) old ≡ Some value → (value.items ≡ body → ⊥)
      → Defines state at name body None (Err (faults.Redefined at))
  redefined value has other = Redefines value.items (table_is old name ∙ ap (option_map (λ v. v.items)) has) other

  pub one_too_many : get_by (λ k. bytes_eq name k.now) old ≡ None → 1000 ≤ index_map_len old → Defines state at name body None (Err (faults.TooMany Macros 1001))
  one_too_many none many = OneTooMany (table_is old name ∙ ap (option_map (λ v. v.items)) none) many
