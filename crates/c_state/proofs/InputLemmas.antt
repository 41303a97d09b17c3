-- The words of ports, where one is put behind the others or taken.
use Rattle.std.proofs.Common.{◌≡◌, ◌<◌, Bool, true, false, ℕ, zero, suc, cond, List, [], ◌∷◌, ◌++◌, length, set, get_or, replicate, refl, inl, inr, option_map, sym, ap, ◌∙◌, Option, Some, None, MatchOption, arith}
use Rattle.std.specs.Prelude.{◌==◌, if◌then◌else◌, slice_get, unwrap_or, is_some}
use Rattle.std.proofs.lemmas.Option.{slice_get_read, slice_get_within, slice_get-map}
use Rattle.std.proofs.lemmas.Bool.{cases_eq}
use Rattle.std.proofs.lemmas.List.{map-set}
use Rattle.std.specs.Option.{option_to_list}
use mathlib.Core.Path.{fun_ext}
use Rattle.word_base.specs.Ports.{Input, input_of}
use Rattle.std.specs.declared.alloc.Global.{Global}
use Rattle.std.specs.declared.collections.VecDeque.{VecDeque}
use Rattle.c_state.specs.Inputs.{words_in, words_of, IsTaken}

set_at : (queues : List (List ℕ)) (port : ℕ) (queue : List ℕ) → port < length queues → (p : ℕ) → words_of (set queues port queue) p ≡ cond (p == port) queue (words_of queues p)
set_at [] port queue within p = absurd (omega arith)
set_at (q ∷ queues) zero queue within zero = refl
set_at (q ∷ queues) zero queue within (suc p) = grind arith
set_at (q ∷ queues) (suc port) queue within zero = grind arith
set_at (q ∷ queues) (suc port) queue within (suc p) = let rest = set_at queues port queue (omega arith) p in grind (arith, rest)

-- one queue is changed
pub set_queue : (queues : List (List ℕ)) (port : ℕ) (queue : List ℕ) → port < length queues → words_of (set queues port queue) ≡ (λ p. if p == port then queue else words_of queues p)
set_queue queues port queue within = fun_ext (set_at queues port queue within)

empty_at : (n p : ℕ) → words_of (replicate n []) p ≡ []
empty_at zero p = refl
empty_at (suc n) zero = refl
empty_at (suc n) (suc p) = empty_at n p

-- no port has a word
pub empty_queues : (n : ℕ) → words_of (replicate n []) ≡ input_of []
empty_queues n = fun_ext (empty_at n)

two_tests : (a b : Bool) (x word : ℕ) (rest after : List ℕ) → after ≡ cond b (rest ++ word ∷ []) rest
    → cond a (x ∷ after) after ≡ cond b (cond a (x ∷ rest) rest ++ word ∷ []) (cond a (x ∷ rest) rest)
two_tests true true x word rest after is = ap (λ xs. x ∷ xs) is
two_tests true false x word rest after is = ap (λ xs. x ∷ xs) is
two_tests false true x word rest after is = is
two_tests false false x word rest after is = is

same_test : (a b : ℕ) → (a == b) ≡ (b == a)
same_test a b = grind arith

push_at : (lines : List (ℕ × ℕ)) (line : ℕ × ℕ) (p : ℕ) → input_of (lines ++ line ∷ []) p ≡ cond (p == line.0) (input_of lines p ++ line.1 ∷ []) (input_of lines p)
push_at [] line p = ap (λ b. cond b (line.1 ∷ []) []) (same_test line.0 p)
push_at (x ∷ lines) line p = two_tests (x.0 == p) (p == line.0) x.1 line.1 (input_of lines p) _ (push_at lines line p)

-- one more line
pub push_line : (lines : List (ℕ × ℕ)) (line : ℕ × ℕ) → input_of (lines ++ line ∷ []) ≡ (λ p. if p == line.0 then input_of lines p ++ line.1 ∷ [] else input_of lines p)
push_line lines line = fun_ext (push_at lines line)

-- a port gives its first word, where it has one
pub taken : (queues : List (List ℕ)) (port : ℕ) (old new : List ℕ) (r : Option ℕ) (after : Input) → slice_get queues port ≡ Some old → old ≡ option_to_list r ++ new
    → (0 < length old → is_some r ≡ true) → after ≡ words_of (set queues port new)
    → MatchOption r (words_of queues port ≡ []) (λ word. IsTaken (words_of queues) port word after)
taken queues port [] new None after at parts some is = ap (λ o. unwrap_or o []) at
taken queues port (x ∷ old) new None after at parts some is = let never : false ≡ true = some (omega arith) in absurd (cc never)
taken queues port old new (Some word) after at parts some is = record {
  rest = new;
  first = ap (λ o. unwrap_or o []) at ∙ parts;
  is = is ∙ set_queue queues port new (slice_get_within queues port old at);
}

append_at : (queues : List (List ℕ)) (port word : ℕ) (old : List ℕ) → slice_get queues port ≡ Some old → (p : ℕ)
    → words_of (set queues port (old ++ word ∷ [])) p ≡ cond (p == port) (words_of queues p ++ word ∷ []) (words_of queues p)
append_at queues port word old at p =
    let is = set_at queues port (old ++ word ∷ []) (slice_get_within queues port old at) p in
    let first : words_of queues port ≡ old = ap (λ o. unwrap_or o []) at in
    elim (cases_eq p port) [
      | inl same ↦ grind (arith, is, same, first)
      | inr other ↦ grind (arith, is, other)
    ]

-- a port gets one more word
pub append_word : (queues : List (List ℕ)) (port word : ℕ) (old : List ℕ) → slice_get queues port ≡ Some old
    → words_of (set queues port (old ++ word ∷ [])) ≡ (λ p. if p == port then words_of queues p ++ word ∷ [] else words_of queues p)
append_word queues port word old at = fun_ext (append_at queues port word old at)

-- the words of a queue at a place
pub words_at : (queues : List (VecDeque ℕ Global)) (place : ℕ) (queue : VecDeque ℕ Global) → place < length queues → queue ≡ get_or queues place queue
    → slice_get (words_in queues) place ≡ Some queue.items
words_at queues place queue within read =
    slice_get-map (λ (q : VecDeque ℕ Global). q.items) queues place ∙ ap (option_map (λ (q : VecDeque ℕ Global). q.items)) (slice_get_read queues (length queues) place queue refl within read)

-- the words where one queue is another
pub words_with : (queues : List (VecDeque ℕ Global)) (place : ℕ) (queue : VecDeque ℕ Global) → words_in (set queues place queue) ≡ set (words_in queues) place queue.items
words_with queues place queue = map-set (λ (q : VecDeque ℕ Global). q.items) queues place queue

-- the words of the lines so far, and of one more
pub next_line : (queues : List (List ℕ)) (lines : List (ℕ × ℕ)) (line : ℕ × ℕ) (port word : ℕ) (after : Input) → port ≡ line.0 → word ≡ line.1
    → words_of queues ≡ input_of lines → after ≡ (λ p. if p == port then words_of queues p ++ word ∷ [] else words_of queues p)
    → after ≡ input_of (lines ++ line ∷ [])
next_line queues lines line port word after at is so_far next =
    next ∙ ap (λ (f : Input). λ (p : ℕ). cond (p == port) (f p ++ word ∷ []) (f p)) so_far
    ∙ ap (λ n. λ (p : ℕ). cond (p == n) (input_of lines p ++ word ∷ []) (input_of lines p)) at
    ∙ ap (λ x. λ (p : ℕ). cond (p == line.0) (input_of lines p ++ x ∷ []) (input_of lines p)) is
    ∙ sym (push_line lines line)
