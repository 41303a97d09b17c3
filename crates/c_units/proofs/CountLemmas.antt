-- The tokens of all files, counted, and their text.
use Rattle.std.proofs.Common.{◌≡◌, ◌∙◌, ◌≤◌, ◌<◌, ℕ, ◌+◌, ◌*◌, suc, List, [], ◌∷◌, ◌++◌, length, map, drop, get_or, Option, Some, None, Ok, Err, option_map, sym, ap, append_assoc, arith}
use Rattle.std.specs.Prelude.{All, Result, OnOk}
use Rattle.std.specs.Option.{option_or}
use Rattle.std.specs.List.{AllByRecursion}
use Rattle.std.proofs.lemmas.Grind.{flat_map-append}
use Rattle.std.proofs.lemmas.List.Sums.{sum_by-cons}
use Rattle.c_lexer.specs.TokenText.{spelled}
use Rattle.std.proofs.lemmas.List.Elements.{recursion_from_All}
use Rattle.c_rules.proofs.Turns.{first_left}
use Rattle.c_units.specs.declared.fault.UnitFault.{UnitFault}
use Rattle.c_units.specs.declared.fault.UnitFault.TheVariants.{Reserved}
use Rattle.c_units.specs.Files.{FileTree}
use Rattle.c_units.specs.Statics.{statics_of, static_name, reserved_at}
use Rattle.c_units.specs.Joining.{token_count, file_kinds, joined_kinds, kinds_text, reserved_fault}

-- a file of a turn, with those that are left
pub count_left : {A : Type 0} (f : A → FileTree) (list : List A) (i : ℕ) (x : A) → x ≡ get_or list i x → i < length list
    → token_count (map f (drop i list)) ≡ length (f x).tokens + token_count (map f (drop (i + 1) list))
count_left f list i x is below =
    ap (λ l. token_count (map f l)) (first_left list i x is below) ∙ sum_by-cons (λ file. length file.tokens) (f x) (map f (drop (i + 1) list))

sum_fits : {A : Type 0} (f : A → FileTree) (most : ℕ) (list : List A) → AllByRecursion (λ x. length (f x).tokens ≤ most) list → token_count (map f list) ≤ length list * most
sum_fits f most [] h = omega arith
sum_fits f most (x ∷ xs) h =
    let rest = sum_fits f most xs h.1 in
    let cons = sum_by-cons (λ file. length file.tokens) (f x) (map f xs) in
    times (length xs) most (token_count (map f (x ∷ xs))) (length (f x).tokens) (token_count (map f xs)) cons h.0 rest
  where
    times : (n most all one others : ℕ) → all ≡ one + others → one ≤ most → others ≤ n * most → all ≤ suc n * most
    times n most all one others e a b = omega (arith, e, a, b)

pub few_in_all : {A : Type 0} (f : A → FileTree) (list : List A) → length list ≤ 16 → All (λ x. length (f x).tokens ≤ 200000) list → token_count (map f list) ≤ 3200000
few_in_all f list few short = bounded (length list) _ few (sum_fits f 200000 list (recursion_from_All (λ x. length (f x).tokens ≤ 200000) list short))
  where
    bounded : (n sum : ℕ) → n ≤ 16 → sum ≤ n * 200000 → sum ≤ 3200000
    bounded n sum few below = omega (arith, few, below)

-- a file that has no reserved name, with those that are left
pub none_reserved : {A : Type 0} (f : A → FileTree) (whole : Option UnitFault) (list : List A) (i : ℕ) (x : A) → x ≡ get_or list i x → i < length list
    → reserved_fault (i + 1) (map f (drop i list)) ≡ whole → reserved_at (statics_of (f x).unit) (f x).tokens ≡ None → reserved_fault (i + 1 + 1) (map f (drop (i + 1) list)) ≡ whole
none_reserved f whole list i x is below so_far none =
    let next : i + 1 + 1 ≡ suc (i + 1) = omega arith in
    ap (λ n. reserved_fault n (map f (drop (i + 1) list))) next
    ∙ ap (λ own. option_or (option_map (Reserved (i + 1)) own) (reserved_fault (suc (i + 1)) (map f (drop (i + 1) list)))) (sym none)
    ∙ ap (λ l. reserved_fault (i + 1) (map f l)) (sym (first_left list i x is below))
    ∙ so_far

-- and one that has
pub one_reserved : {A : Type 0} (f : A → FileTree) (whole : Option UnitFault) (list : List A) (i : ℕ) (x : A) (at : ℕ) → x ≡ get_or list i x → i < length list
    → reserved_fault (i + 1) (map f (drop i list)) ≡ whole → reserved_at (statics_of (f x).unit) (f x).tokens ≡ Some at → whole ≡ Some (Reserved (i + 1) at)
one_reserved f whole list i x at is below so_far found =
    sym so_far
    ∙ ap (λ l. reserved_fault (i + 1) (map f l)) (first_left list i x is below)
    ∙ ap (λ own. option_or (option_map (Reserved (i + 1)) own) (reserved_fault (suc (i + 1)) (map f (drop (i + 1) list)))) found

-- ---- the text

-- a file of a turn, of this number
pub text_turn : {A : Type 0} (g : A → FileTree) (n : ℕ) (whole made new : List ℕ) (list : List A) (i : ℕ) (x : A) → x ≡ get_or list i x → i < length list
    → made ++ kinds_text (joined_kinds static_name n (map g (drop i list))) ≡ whole → new ≡ made ++ kinds_text (file_kinds static_name n (g x))
    → new ++ kinds_text (joined_kinds static_name (n + 1) (map g (drop (i + 1) list))) ≡ whole
text_turn g n whole made new list i x is below so_far pushed =
    let next : n + 1 ≡ suc n = omega arith in
    ap (λ l. l ++ kinds_text (joined_kinds static_name (n + 1) (map g (drop (i + 1) list)))) pushed
    ∙ append_assoc made (kinds_text (file_kinds static_name n (g x))) _
    ∙ ap (λ m. made ++ (kinds_text (file_kinds static_name n (g x)) ++ kinds_text (joined_kinds static_name m (map g (drop (i + 1) list))))) next
    ∙ ap (λ l. made ++ l) (sym (flat_map-append spelled (file_kinds static_name n (g x)) (joined_kinds static_name (suc n) (map g (drop (i + 1) list)))))
    ∙ ap (λ l. made ++ kinds_text (joined_kinds static_name n (map g l))) (sym (first_left list i x is below))
    ∙ so_far

pub then_ok : {A E : Type 0} {P Q : Type 0} (r : Result A E) → (P → Q) → OnOk r P → OnOk r Q
then_ok (Ok x) f h = f h
then_ok (Err e) f h = tt {0}
