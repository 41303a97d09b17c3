-- The number of a function is the place of its name among the names of the bodies.
use Rattle.std.proofs.Common.{◌≡◌, ◌<◌, ◌||◌, ◌≢◌, ℕ, suc, ◌+◌, Bool, true, false, not, cond, if◌then◌else◌, List, []}
use Rattle.std.proofs.Common.{◌∷◌, ◌++◌, get_or, length, slice_get, option_map, Some, sym, ap, ◌∙◌, subst, true≢false, append-nil, append_assoc, arith}
use Rattle.std.specs.List.{position_or_len}
use Rattle.std.specs.Prelude.{All, AllPairs, nat_lt}
use Rattle.std.specs.Str.{bytes_eq}
use Rattle.std.proofs.lemmas.Bool.{or_parts, lt-ltb, false_from_ne_true}
use Rattle.std.proofs.lemmas.Bool.Decides.{not_from_Decides}
use Rattle.std.proofs.lemmas.List.{map-append, length-map}
use Rattle.std.proofs.lemmas.List.Elements.{All-nil, All-cons}
use Rattle.std.proofs.lemmas.List.Quantifiers.{all_pairs_push}
use Rattle.std.proofs.lemmas.List.Sums.{passes_at_first}
use Rattle.std.proofs.lemmas.Option.{slice_get-map, slice_get_within, get_or_from_slice_get}
use Rattle.std.proofs.lemmas.Slice.Eq.{bytes_eq-Decides}
use Rattle.c_tree.specs.c_syntax.SyntaxTree as tree
use Rattle.c_tree.specs.c_syntax.SyntaxTree.{FunctionSyntax, Defined, UnitTree}
use Rattle.c_rules.specs.Units.{TypedFunction, is_name_among, bodies_behind}
use Rattle.c_rules.proofs.Formed.FileSoFar.{function_names}

-- the place of a name among others
abbrev pub place_of : List ℕ → List (List ℕ) → ℕ
place_of name names = position_or_len (λ body. bytes_eq body name) names

-- names that others come behind stay the first ones
abbrev AreFirst : List (List ℕ) → List (List ℕ) → Type 0
AreFirst names whole = (more : List (List ℕ)) × (whole ≡ names ++ more)

one_behind : (names : List (List ℕ)) (name : List ℕ) (xs : UnitTree) (b : Bool) → AreFirst names (bodies_behind names xs)
    → AreFirst (names ++ name ∷ []) (bodies_behind (names ++ name ∷ []) xs) → AreFirst names (bodies_behind (if b then names else names ++ name ∷ []) xs)
one_behind names name xs true kept longer = kept
one_behind names name xs false kept longer = (name ∷ longer.0, longer.1 ∙ append_assoc names (name ∷ []) longer.0)

names_first : (names : List (List ℕ)) (xs : UnitTree) → AreFirst names (bodies_behind names xs)
names_first names [] = ([], sym (append-nil names))
names_first names (Defined f ∷ xs) = one_behind names f.name xs (is_name_among f.name names) (names_first names xs) (names_first (names ++ f.name ∷ []) xs)
names_first names (tree.Declared d ∷ xs) = names_first names xs

-- a name that is among the first has its place among them
within_one : (here later : Bool) (place count : ℕ) → (here || later) ≡ true → (later ≡ true → place < count) → cond (not here) (1 + place) 0 < suc count
within_one true later place count among rest = omega arith
within_one false later place count among rest = omega (arith, rest among)

place_among : (name : List ℕ) (names more : List (List ℕ)) → is_name_among name names ≡ true → place_of name (names ++ more) < length names
place_among name [] more among = absurd (cc among)
place_among name (n ∷ names) more among =
    within_one (bytes_eq n name) (is_name_among name names) (place_of name (names ++ more)) (length names) among (place_among name names more)

-- a name whose place isn't among those of the functions so far is none of theirs
pub new_name : (name : List ℕ) (fs : List TypedFunction) (xs : UnitTree) (bodies : List (List ℕ)) → bodies ≡ bodies_behind (function_names fs) xs
    → nat_lt (place_of name bodies) (length fs) ≡ false → is_name_among name (function_names fs) ≡ false
new_name name fs xs bodies are later =
    let first = names_first (function_names fs) xs in
    let many : length (function_names fs) ≡ length fs = length-map fs (λ (f : TypedFunction). f.name) in
    false_from_ne_true (is_name_among name (function_names fs)) (λ among.
    let place : place_of name bodies < length fs =
    subst (λ ns. place_of name ns < length fs) (sym (are ∙ first.1)) (omega (arith, place_among name (function_names fs) first.0 among, many)) in
    true≢false (sym (lt-ltb (place_of name bodies) (length fs) place) ∙ later))

-- behind a function with a new name
names_pushed : (fs : List TypedFunction) (f : TypedFunction) → function_names (fs ++ f ∷ []) ≡ function_names fs ++ f.name ∷ []
names_pushed fs f = map-append (λ (g : TypedFunction). g.name) fs (f ∷ [])

pub bodies_pushed : (f : FunctionSyntax) (fs : List TypedFunction) (g : TypedFunction) (xs : UnitTree) → g.name ≡ f.name → is_name_among f.name (function_names fs) ≡ false
    → bodies_behind (function_names fs) (Defined f ∷ xs) ≡ bodies_behind (function_names (fs ++ g ∷ [])) xs
bodies_pushed f fs g xs named new =
    ap (λ b. bodies_behind (if b then function_names fs else function_names fs ++ f.name ∷ []) xs) new
    ∙ ap (λ n. bodies_behind (function_names fs ++ n ∷ []) xs) (sym named)
    ∙ ap (λ ns. bodies_behind ns xs) (sym (names_pushed fs g))

others : (name : List ℕ) (names : List (List ℕ)) → is_name_among name names ≡ false → All (λ n. n ≢ name) names
others name [] new = All-nil (λ n. n ≢ name)
others name (n ∷ names) new =
    let parts = or_parts (bytes_eq n name) (is_name_among name names) new in
    All-cons (λ n. n ≢ name) n names (not_from_Decides (bytes_eq n name) (bytes_eq-Decides n name) parts.0) (others name names parts.1)

pub names_still_differ : (fs : List TypedFunction) (g : TypedFunction) → is_name_among g.name (function_names fs) ≡ false → AllPairs (λ a b. a ≢ b) (function_names fs)
    → AllPairs (λ a b. a ≢ b) (function_names (fs ++ g ∷ []))
names_still_differ fs g new differ =
    subst (AllPairs (λ a b. a ≢ b)) (sym (names_pushed fs g)) (all_pairs_push (λ a b. a ≢ b) (function_names fs) g.name differ (others g.name (function_names fs) new))

-- the function at the place of a name has that name
pub function_named : (name : List ℕ) (fs : List TypedFunction) (g : TypedFunction) → slice_get fs (place_of name (function_names fs)) ≡ Some g → g.name ≡ name
function_named name fs g there =
    let p : List ℕ → Bool = λ body. bytes_eq body name in
    let k : ℕ = place_of name (function_names fs) in
    let found : slice_get (function_names fs) k ≡ Some g.name = slice_get-map (λ (f : TypedFunction). f.name) fs k ∙ ap (option_map (λ (f : TypedFunction). f.name)) there in
    let same : get_or (function_names fs) k [] ≡ g.name = get_or_from_slice_get (function_names fs) k g.name [] found in
    let passes : bytes_eq (get_or (function_names fs) k []) name ≡ true = passes_at_first p (function_names fs) [] (slice_get_within (function_names fs) k g.name found) in
    (bytes_eq-Decides g.name name).0 (ap (λ n. bytes_eq n name) (sym same) ∙ passes)
