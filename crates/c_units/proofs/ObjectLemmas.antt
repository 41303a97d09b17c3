-- Objects, one of which is left.
use Rattle.std.proofs.Common.{◌≡◌, ◌∙◌, ℕ, ◌+◌, ◌<◌, Bool, true, false, cond, not, zero, suc, arith, subst, ◌||◌, filter, List, [], ◌∷◌, ◌++◌, map, drop, get_or, length, Option, Some, refl, sym, ap, append_assoc}
use Rattle.std.specs.Prelude.{find}
use Rattle.c_tree.specs.c_syntax.SyntaxTree.{ItemTree}
use Rattle.c_rules.specs.Units.{is_name_among}
use Rattle.c_rules.proofs.Turns.{first_left}
use Rattle.c_units.specs.Files.{FileTree}
use Rattle.std.specs.Str.{bytes_eq}
use Rattle.std.proofs.lemmas.Slice.Eq.{bytes_eq-Decides}
use Rattle.c_units.specs.Objects.{ObjectTree, is_object, objects_of, file_objects, all_objects, defined_names}

split : {A B : Type 0} (f : A → B) (b : Bool) (x : A) (xs : List A) → map f (cond b (x ∷ []) []) ++ map f xs ≡ map f (cond b (x ∷ xs) xs)
split f true x xs = refl
split f false x xs = refl

pub objects_split : (number : ℕ) (statics : List (List ℕ)) (extern : Bool) (item : ItemTree) (items : List ItemTree)
    → objects_of number statics extern (item ∷ []) ++ objects_of number statics extern items ≡ objects_of number statics extern (item ∷ items)
objects_split number statics extern item items = split _ (is_object item.form) item _

-- an item of a turn
pub item_turn : {A : Type 0} (f : A → ItemTree) (number : ℕ) (statics : List (List ℕ)) (extern : Bool) (whole made new : List ObjectTree) (list : List A) (i : ℕ) (x : A)
    → x ≡ get_or list i x → i < length list → made ++ objects_of number statics extern (map f (drop i list)) ≡ whole
    → new ≡ made ++ objects_of number statics extern (f x ∷ []) → new ++ objects_of number statics extern (map f (drop (i + 1) list)) ≡ whole
item_turn f number statics extern whole made new list i x is below so_far h =
    ap (λ l. l ++ objects_of number statics extern (map f (drop (i + 1) list))) h
    ∙ append_assoc made (objects_of number statics extern (f x ∷ [])) _
    ∙ ap (λ l. made ++ l) (objects_split number statics extern (f x) (map f (drop (i + 1) list)))
    ∙ ap (λ l. made ++ objects_of number statics extern (map f l)) (sym (first_left list i x is below))
    ∙ so_far

-- an object that is no definition among these
abbrev pub is_undefined : List (List ℕ) → ObjectTree → Bool
is_undefined names o = not (is_name_among o.joined names)

find_first : (names : List (List ℕ)) (o : ObjectTree) (rest : List ObjectTree) → is_name_among o.joined names ≡ false → find (is_undefined names) (o ∷ rest) ≡ Some o
find_first names o rest e = rw e refl

find_later : (names : List (List ℕ)) (o : ObjectTree) (rest : List ObjectTree) → is_name_among o.joined names ≡ true → find (is_undefined names) (o ∷ rest) ≡ find (is_undefined names) rest
find_later names o rest e = rw e refl

pub undefined_found : {A : Type 0} (f : A → ObjectTree) (names : List (List ℕ)) (whole : Option ObjectTree) (list : List A) (i : ℕ) (x : A) → x ≡ get_or list i x → i < length list
    → find (is_undefined names) (map f (drop i list)) ≡ whole → is_name_among (f x).joined names ≡ false → whole ≡ Some (f x)
undefined_found f names whole list i x is below so_far other =
    sym so_far ∙ ap (λ l. find (is_undefined names) (map f l)) (first_left list i x is below) ∙ find_first names (f x) (map f (drop (i + 1) list)) other

pub undefined_later : {A : Type 0} (f : A → ObjectTree) (names : List (List ℕ)) (whole : Option ObjectTree) (list : List A) (i : ℕ) (x : A) → x ≡ get_or list i x → i < length list
    → find (is_undefined names) (map f (drop i list)) ≡ whole → is_name_among (f x).joined names ≡ true → find (is_undefined names) (map f (drop (i + 1) list)) ≡ whole
undefined_later f names whole list i x is below so_far defined =
    sym (find_later names (f x) (map f (drop (i + 1) list)) defined) ∙ ap (λ l. find (is_undefined names) (map f l)) (sym (first_left list i x is below)) ∙ so_far

-- a file of a turn, of this number
pub file_turn : {A : Type 0} (f : A → FileTree) (n : ℕ) (whole made new : List ObjectTree) (list : List A) (i : ℕ) (x : A) → x ≡ get_or list i x → i < length list
    → made ++ all_objects n (map f (drop i list)) ≡ whole → new ≡ made ++ file_objects n (f x) → new ++ all_objects (n + 1) (map f (drop (i + 1) list)) ≡ whole
file_turn f n whole made new list i x is below so_far h =
    let next : n + 1 ≡ suc n = omega arith in
    ap (λ l. l ++ all_objects (n + 1) (map f (drop (i + 1) list))) h
    ∙ append_assoc made (file_objects n (f x)) _
    ∙ ap (λ m. made ++ (file_objects n (f x) ++ all_objects m (map f (drop (i + 1) list)))) next
    ∙ ap (λ l. made ++ all_objects n (map f l)) (sym (first_left list i x is below))
    ∙ so_far

-- ---- definitions

same_bytes : (name : List ℕ) → bytes_eq name name ≡ true
same_bytes name = (bytes_eq-Decides name name).1 refl

-- a name among the definitions that follow is one among all
defined_more : (name : List ℕ) (b : Bool) (o : ObjectTree) (rest : List ObjectTree) → is_name_among name (map (λ o. o.joined) rest) ≡ true → is_name_among name (map (λ o. o.joined) (cond b (o ∷ rest) rest)) ≡ true
defined_more name true o rest e = or_last (bytes_eq o.joined name) e
  where
    or_last : (b : Bool) {c : Bool} → c ≡ true → (b || c) ≡ true
    or_last true e = refl
    or_last false e = e
defined_more name false o rest e = e

defined_first : (b : Bool) (o : ObjectTree) (rest : List ObjectTree) → b ≡ true → is_name_among o.joined (map (λ o. o.joined) (cond b (o ∷ rest) rest)) ≡ true
defined_first b o rest e = rw e (ap (λ c. c || is_name_among o.joined (map (λ o. o.joined) rest)) (same_bytes o.joined))

-- the name of a definition is among those of all
defined_among : {A : Type 0} (f : A → ObjectTree) (list : List A) (i : ℕ) (x : A) → x ≡ get_or list i x → i < length list → (f x).defines ≡ true → is_name_among (f x).joined (defined_names (map f list)) ≡ true
defined_among f [] i x is below d = absurd (omega (arith, below))
defined_among f (y ∷ ys) zero x is below d = subst (λ z. is_name_among z.joined (defined_names (f y ∷ map f ys)) ≡ true) (ap f (sym is)) (defined_first (f y).defines (f y) (filter (λ o. o.defines) (map f ys)) (subst (λ z. z.defines ≡ true) (ap f is) d))
defined_among f (y ∷ ys) (suc i) x is below d = defined_more (f x).joined (f y).defines (f y) (filter (λ o. o.defines) (map f ys)) (defined_among f ys i x is (omega (arith, below)) d)

pub known_defined : {A : Type 0} (f : A → ObjectTree) (list : List A) (i : ℕ) (x : A) (has : Bool) → x ≡ get_or list i x → i < length list
    → has ≡ is_name_among (f x).joined (defined_names (map f list)) → ((f x).defines || has) ≡ true → is_name_among (f x).joined (defined_names (map f list)) ≡ true
known_defined f list i x has is below same found = by (f x).defines refl found
  where
    by : (b : Bool) → (f x).defines ≡ b → (b || has) ≡ true → is_name_among (f x).joined (defined_names (map f list)) ≡ true
    by true d e = defined_among f list i x is below d
    by false d e = sym same ∙ e
