-- A greedy list has the scalars of its set, each once.
use Rattle.std.proofs.Common.{◌≡◌, ◌≤◌, ◌∙◌, ◌++◌, ℕ, List, [], ◌∷◌, Bool, true, false, not, refl, map, ap, sym, subst, inl, inr, arith, append_assoc, append-nil}
use Rattle.std.specs.Prelude.{◌⊎◌, ◌&&◌, filter, flat_map, fold, nat_le}
use Rattle.std.specs.List.{concat, list_all}
use Rattle.std.proofs.lemmas.Bool.{both_ways, and_parts, and_from, not-true, cond-true, cond-false}
use Rattle.lay_model.specs.Sequences.{Sequence}
use Rattle.lay_cost.specs.Placements.{has}
use Rattle.lay_cost.specs.Weights.{weight_between}
use Rattle.lay_tree.specs.Bound.{last_of}
use Rattle.lay_tree.specs.Greedy.{Edge, edges_among, has_weight, in_order, is_first, is_last, is_end, ended_by, begun_by, first_with, path_of, without, joins, with_edge, paths_of, from_smaller_end, is_smallest, greedy_list}
use Rattle.lay_tree.proofs.Members.{IsIn, IsOnce, in_front, in_back, in_either, of_has, has_of}
use Rattle.lay_tree.proofs.Permuted.{Permutes, permutes_itself, turned, once_append, in_concat, of_concat, one_list_of, in_flat, of_flat, once_flat, all_at_least, at_least_all, smallest_of, parts_of_once}

ended : (s : ℕ) (path : List ℕ) → IsOnce path → Permutes path (ended_by s path)
ended s path once = turned (is_last s path) path once

begun : (s : ℕ) (path : List ℕ) → IsOnce path → Permutes path (begun_by s path)
begun s path once = turned (is_first s path) path once

concat_last : (lists : List (List ℕ)) (list : List ℕ) → concat (lists ++ (list ∷ [])) ≡ concat lists ++ list
concat_last [] list = append-nil list
concat_last (l ∷ ls) list = ap (λ rest. l ++ rest) (concat_last ls list) ∙ sym (append_assoc l (concat ls) list)

-- a list before others goes behind the first of two parts
moved : (list front back all : List ℕ) → IsOnce (list ++ all) → Permutes all (front ++ back) → Permutes (list ++ all) (front ++ (list ++ back))
moved list front back all once h =
    let parts = parts_of_once list all once in
    let halves = parts_of_once front back h.once in
    record {
      once = once_append front (list ++ back) halves.0
          (once_append list back parts.0 halves.1.0 (λ s i j. parts.1.1 s i (h.of s (in_back s front back j))))
          (λ s i j. elim (in_either s list back j) [ inl a ↦ parts.1.1 s a (h.of s (in_front s front back i)) | inr b ↦ halves.1.1 s i b ]);
      of = λ s i. elim (in_either s front (list ++ back) i) [
        | inl a ↦ in_back s list all (h.of s (in_front s front back a))
        | inr b ↦ elim (in_either s list back b) [ inl c ↦ in_front s list all c | inr c ↦ in_back s list all (h.of s (in_back s front back c)) ]
      ];
      all = λ s i. elim (in_either s list all i) [
        | inl a ↦ in_back s front (list ++ back) (in_front s list back a)
        | inr b ↦ elim (in_either s front back (h.all s b)) [ inl c ↦ in_front s front (list ++ back) c | inr c ↦ in_back s front (list ++ back) (in_back s list back c) ]
      ];
    }

-- the path with a scalar and the others have the scalars of all paths
taken : (s : ℕ) (paths : List (List ℕ)) → IsOnce (concat paths) → Permutes (concat paths) (path_of s paths ++ concat (without s paths))
taken s [] once = permutes_itself [] tt
taken s (p ∷ ps) once = go (has p s) refl (taken s ps (parts_of_once p (concat ps) once).1.0)
  where
    go : (b : Bool) → has p s ≡ b → Permutes (concat ps) (path_of s ps ++ concat (without s ps)) → Permutes (p ++ concat ps) (path_of s (p ∷ ps) ++ concat (without s (p ∷ ps)))
    go true is h = rw (is) (permutes_itself (p ++ concat ps) once)
    go false is h = rw (is) (moved p (path_of s ps) (concat (without s ps)) (concat ps) once h)

-- where the path of a scalar hasn't another one, taking it out leaves the path of that
pub path_stays : (s t : ℕ) (paths : List (List ℕ)) → has (path_of s paths) t ≡ false → path_of t (without s paths) ≡ path_of t paths
path_stays s t [] apart = refl
path_stays s t (p ∷ ps) apart = go (has p s) (has p t) refl refl (path_stays s t ps)
  where
    go : (a b : Bool) → has p s ≡ a → has p t ≡ b → (has (path_of s ps) t ≡ false → path_of t (without s ps) ≡ path_of t ps) → path_of t (without s (p ∷ ps)) ≡ path_of t (p ∷ ps)
    go true true is_s is_t more = absurd (both_ways (has p t) (rw (is_s) at apart) is_t)
    go true false is_s is_t more = rw (is_s) (sym (cond-false (has p t) p (path_of t ps) is_t))
    go false true is_s is_t more = rw (is_s) (cond-true (has p t) p (path_of t (without s ps)) is_t ∙ sym (cond-true (has p t) p (path_of t ps) is_t))
    go false false is_s is_t more = rw (is_s) (cond-false (has p t) p (path_of t (without s ps)) is_t ∙ (more (rw (is_s) at apart) ∙ sym (cond-false (has p t) p (path_of t ps) is_t)))

-- two paths go behind the others as one
joined : (front back rest front_turned back_turned : List ℕ) → IsOnce (front ++ (back ++ rest)) → Permutes front front_turned → Permutes back back_turned → Permutes (front ++ (back ++ rest)) (rest ++ (front_turned ++ back_turned))
joined front back rest f b once p q =
    let parts = parts_of_once front (back ++ rest) once in
    let halves = parts_of_once back rest parts.1.0 in
    record {
      once = once_append rest (f ++ b) halves.1.0
          (once_append f b p.once q.once (λ s i j. parts.1.1 s (p.of s i) (in_front s back rest (q.of s j))))
          (λ s i j. elim (in_either s f b j) [ inl h ↦ parts.1.1 s (p.of s h) (in_back s back rest i) | inr h ↦ halves.1.1 s (q.of s h) i ]);
      of = λ s i. elim (in_either s rest (f ++ b) i) [
        | inl h ↦ in_back s front (back ++ rest) (in_back s back rest h)
        | inr h ↦ elim (in_either s f b h) [ inl c ↦ in_front s front (back ++ rest) (p.of s c) | inr c ↦ in_back s front (back ++ rest) (in_front s back rest (q.of s c)) ]
      ];
      all = λ s i. elim (in_either s front (back ++ rest) i) [
        | inl h ↦ in_back s rest (f ++ b) (in_front s f b (p.all s h))
        | inr h ↦ elim (in_either s back rest h) [ inl c ↦ in_back s rest (f ++ b) (in_back s f b (q.all s c)) | inr c ↦ in_front s rest (f ++ b) c ]
      ];
    }

follows : (a b c : List ℕ) → Permutes a b → Permutes b c → Permutes a c
follows a b c p q = record { once = q.once; of = λ s i. p.of s (q.of s i); all = λ s i. q.all s (p.all s i) }

behind : (front a b : List ℕ) → IsOnce (front ++ a) → Permutes a b → Permutes (front ++ a) (front ++ b)
behind front a b once p =
    let parts = parts_of_once front a once in
    record {
      once = once_append front b parts.0 p.once (λ s i j. parts.1.1 s i (p.of s j));
      of = λ s i. elim (in_either s front b i) [ inl h ↦ in_front s front a h | inr h ↦ in_back s front a (p.of s h) ];
      all = λ s i. elim (in_either s front a i) [ inl h ↦ in_front s front b h | inr h ↦ in_back s front b (p.all s h) ];
    }

-- the paths with an edge that joins two have the same scalars
joined_paths : (e : Edge) (paths : List (List ℕ)) → joins e paths ≡ true → IsOnce (concat paths) → Permutes (concat paths) (concat (without e.high (without e.low paths) ++ ((ended_by e.low (path_of e.low paths) ++ begun_by e.high (path_of e.high paths)) ∷ [])))
joined_paths e paths e_joins once =
    let front = path_of e.low paths in
    let back = path_of e.high paths in
    let others = without e.low paths in
    let rest = without e.high others in
    let low = taken e.low paths once in
    let apart = parts_of_once front (concat others) low.once in
    let no_cycle = not-true _ (and_parts (is_end e.low front && is_end e.high back) (not (has front e.high)) e_joins).1 in
    let high : Permutes (concat others) (back ++ concat rest) = subst (λ path. Permutes (concat others) (path ++ concat rest)) (path_stays e.low e.high paths no_cycle) (taken e.high others apart.1.0) in
    let both = follows (concat paths) (front ++ concat others) (front ++ (back ++ concat rest)) low (behind front (concat others) (back ++ concat rest) low.once high) in
    let halves = parts_of_once back (concat rest) high.once
    in subst (λ list. Permutes (concat paths) list) (sym (concat_last rest (ended_by e.low front ++ begun_by e.high back)))
    (follows (concat paths) (front ++ (back ++ concat rest)) (concat rest ++ (ended_by e.low front ++ begun_by e.high back)) both
    (joined front back (concat rest) (ended_by e.low front) (begun_by e.high back) both.once (ended e.low front apart.0) (begun e.high back halves.0)))

-- the first one of a test is one of them, where it has an element
first_in : (test : List ℕ → Bool) (x : ℕ) (lists : List (List ℕ)) → IsIn x (first_with test lists) → IsIn (first_with test lists) lists × (test (first_with test lists) ≡ true)
first_in test x [] i = absurd i
first_in test x (l ∷ ls) i = go (test l) refl (first_in test x ls)
  where
    go : (b : Bool) → test l ≡ b → (IsIn x (first_with test ls) → IsIn (first_with test ls) ls × (test (first_with test ls) ≡ true)) → IsIn (first_with test (l ∷ ls)) (l ∷ ls) × (test (first_with test (l ∷ ls)) ≡ true)
    go true is more = rw (is) (inl refl, is)
    go false is more =
        let next = cond-false (test l) l (first_with test ls) is in
        let h = more (subst (λ z. IsIn x z) next i)
        in subst (λ z. IsIn z (l ∷ ls) × (test z ≡ true)) (sym next) (inr h.0, h.1)

pub with_edge_permutes : (e : Edge) (paths : List (List ℕ)) (members : List ℕ) → Permutes members (concat paths) → Permutes members (concat (with_edge paths e))
with_edge_permutes e paths members h = go (joins e paths) refl
  where
    go : (b : Bool) → joins e paths ≡ b → Permutes members (concat (with_edge paths e))
    go true is = rw (is, with_edge) (follows members (concat paths) _ h (joined_paths e paths is h.once))
    go false is = rw (is, with_edge) h

with_edges_permutes : (edges : List Edge) (paths : List (List ℕ)) (members : List ℕ) → Permutes members (concat paths) → Permutes members (concat (fold with_edge paths edges))
with_edges_permutes [] paths members h = h
with_edges_permutes (e ∷ edges) paths members h = with_edges_permutes edges (with_edge paths e) members (with_edge_permutes e paths members h)

-- where one of the lists passes a test, so does the first one
first_found : (test : List ℕ → Bool) (list : List ℕ) (lists : List (List ℕ)) → IsIn list lists → test list ≡ true → IsIn (first_with test lists) lists × (test (first_with test lists) ≡ true)
first_found test list [] i e = absurd i
first_found test list (l ∷ ls) i e = go (test l) refl i (first_found test list ls)
  where
    go : (b : Bool) → test l ≡ b → (list ≡ l) ⊎ IsIn list ls → (IsIn list ls → test list ≡ true → IsIn (first_with test ls) ls × (test (first_with test ls) ≡ true)) → IsIn (first_with test (l ∷ ls)) (l ∷ ls) × (test (first_with test (l ∷ ls)) ≡ true)
    go true is j more = rw (is) (inl refl, is)
    go false is (inl same) more = absurd (both_ways (test l) is (sym (ap test same) ∙ e))
    go false is (inr j) more = let h = more j e in subst (λ z. IsIn z (l ∷ ls) × (test z ≡ true)) (sym (cond-false (test l) l (first_with test ls) is)) (inr h.0, h.1)

singles : (members : List ℕ) → concat (map (λ s. s ∷ []) members) ≡ members
singles [] = refl
singles (s ∷ ss) = ap (λ rest. s ∷ rest) (singles ss)

pub paths_permute : (w : ℕ → ℕ → ℕ) (members : List ℕ) → IsOnce members → Permutes members (concat (paths_of w members))
paths_permute w members once = with_edges_permutes (in_order (filter has_weight (edges_among w members))) (map (λ s. s ∷ []) members) members (subst (λ list. Permutes members list) (sym (singles members)) (permutes_itself members once))

from_end : (path : List ℕ) → IsOnce path → Permutes path (from_smaller_end path)
from_end [] once = permutes_itself [] once
from_end (s ∷ ss) once = turned (list_all (nat_le s) (last_of (s ∷ ss))) (s ∷ ss) once

smallest_is : (s : ℕ) (path : List ℕ) → is_smallest s path ≡ true → IsIn s path × ((t : ℕ) → IsIn t path → s ≤ t)
smallest_is s path e = let parts = and_parts (has path s) (list_all (nat_le s) path) e in (of_has path s parts.0, all_at_least s path parts.1)

-- which path has a smallest scalar
record HasSmallest (path : List ℕ) : Type 0 where
  number : ℕ
  is : is_smallest number path ≡ true
  inside : IsIn number path

has_smallest : (x : ℕ) (path : List ℕ) → IsIn x path → HasSmallest path
has_smallest x [] i = absurd i
has_smallest x (y ∷ ys) i =
    let m = smallest_of y ys
    in record { number = m.number; is = and_from _ _ (has_of (y ∷ ys) m.number m.inside) (at_least_all m.number (y ∷ ys) m.least); inside = m.inside }

-- the path of which a scalar is the smallest one, from its smaller end
abbrev written : List (List ℕ) → ℕ → List ℕ
written paths s = from_smaller_end (first_with (is_smallest s) paths)

first_once : (test : List ℕ → Bool) (lists : List (List ℕ)) → IsOnce (concat lists) → IsOnce (first_with test lists)
first_once test [] once = tt
first_once test (l ∷ ls) once = go (test l) refl (parts_of_once l (concat ls) once) (first_once test ls)
  where
    go : (b : Bool) → test l ≡ b → IsOnce l × (IsOnce (concat ls) × ((s : ℕ) → IsIn s l → IsIn s (concat ls) → ⊥)) → (IsOnce (concat ls) → IsOnce (first_with test ls)) → IsOnce (first_with test (l ∷ ls))
    go true is parts more = rw (is) parts.0
    go false is parts more = rw (is) (more parts.1.0)

written_permutes : (paths : List (List ℕ)) (s : ℕ) → IsOnce (concat paths) → Permutes (first_with (is_smallest s) paths) (written paths s)
written_permutes paths s once = from_end (first_with (is_smallest s) paths) (first_once (is_smallest s) paths once)

-- a scalar is written in one path
written_once : (paths : List (List ℕ)) (s t x : ℕ) → IsOnce (concat paths) → IsIn x (written paths s) → IsIn x (written paths t) → s ≡ t
written_once paths s t x once i j =
    let in_s = (written_permutes paths s once).of x i in
    let in_t = (written_permutes paths t once).of x j in
    let p = first_in (is_smallest s) x paths in_s in
    let q = first_in (is_smallest t) x paths in_t in
    let same = one_list_of x (first_with (is_smallest s) paths) (first_with (is_smallest t) paths) paths once in_s in_t p.0 q.0 in
    let least_s = smallest_is s (first_with (is_smallest s) paths) p.1 in
    let least_t = smallest_is t (first_with (is_smallest s) paths) (subst (λ l. is_smallest t l ≡ true) (sym same) q.1)
    in omega (arith, least_s.1 t least_t.0, least_t.1 s least_s.0)

-- the only path with a smallest scalar is the first one
first_is : (s : ℕ) (path : List ℕ) (paths : List (List ℕ)) → IsOnce (concat paths) → IsIn path paths → is_smallest s path ≡ true → first_with (is_smallest s) paths ≡ path
first_is s path paths once listed smallest =
    let found = first_found (is_smallest s) path paths listed smallest
    in one_list_of s (first_with (is_smallest s) paths) path paths once (smallest_is s (first_with (is_smallest s) paths) found.1).0 (smallest_is s path smallest).0 found.0 listed

all_written : (paths : List (List ℕ)) (members : List ℕ) → IsOnce members → Permutes members (concat paths) → Permutes members (flat_map (written paths) members)
all_written paths members once h = record {
  once = once_flat (written paths) members once (λ s. (written_permutes paths s h.once).once) (λ s t x i j. written_once paths s t x h.once i j);
  of = λ x i.
      let o = of_flat (written paths) x members i in
      let inside = (written_permutes paths o.from h.once).of x o.inside
      in h.of x (in_concat x (first_with (is_smallest o.from) paths) paths inside (first_in (is_smallest o.from) x paths inside).0);
  all = λ x i.
      let a = of_concat x paths (h.all x i) in
      let m = has_smallest x a.list a.inside in
      let listed = h.of m.number (in_concat m.number a.list paths m.inside a.listed) in
      let is = first_is m.number a.list paths h.once a.listed m.is
      in in_flat (written paths) m.number x members listed ((written_permutes paths m.number h.once).all x (subst (λ l. IsIn x l) (sym is) a.inside));
}

pub greedy_permutes : (seq : Sequence) (members : List ℕ) → IsOnce members → Permutes members (greedy_list seq members)
greedy_permutes seq members once = all_written (paths_of (weight_between seq (has members)) members) members once (paths_permute (weight_between seq (has members)) members once)
