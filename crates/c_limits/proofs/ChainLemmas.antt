-- Calls among functions, and among the lists of those that each calls.
use Rattle.std.proofs.Common.{◌≡◌, ◌<◌, ℕ, ◌+◌, List, [], ◌∷◌, ◌++◌, length, map, take, ap, ◌∙◌, sym, refl, subst, arith, Some, get_or}
use Rattle.std.specs.Prelude.{option_map, All}
use Rattle.std.proofs.lemmas.List.{map_push, map_more, length-map}
use Rattle.std.proofs.lemmas.List.Elements.{All-nil, All-cons, All-same}
use Rattle.std.proofs.lemmas.Option.{slice_get_read, slice_get_within, slice_get-map}
use Rattle.c_limits.specs.declared.functions.TypedFunction as memory
use Rattle.c_tree.specs.View.{stmt_of}
use Rattle.c_tree.specs.declared.uses.Use.{Use}
use Rattle.c_tree.specs.Uses.{called}
use Rattle.c_tree.specs.Rounds.{CallsAmong}
use Rattle.c_rules.specs.Chains.{name_of, IsChain}
use Rattle.c_rules.specs.Programs.{calls_of, HasBodies, HasNoCycle}
use Rattle.c_rules.specs.Rounds.{IsWay, IsRound, IsFirstRound, IsFirstChain, HasNoRound}
use Rattle.c_rules.specs.Units.{TypedFunction}
use Rattle.c_tree.specs.Uses.{statement_uses}
use Rattle.c_limits.specs.FunctionView.{typed_function_of}
use Rattle.c_rules.proofs.MissingBodies.{uses_in, calls_listed}

-- each function on a way that ends at one that is there is there
all_there : (calls : ℕ → ℕ → Type 0) (count : ℕ) → ((n m : ℕ) → calls n m → n < count) → (n : ℕ) (ms : List ℕ) (z : ℕ) → IsWay calls n ms z → z < count → All (λ k. k < count) (n ∷ ms)
all_there calls count callers n [] z same last = All-cons (λ k. k < count) n [] (omega (arith, same, last)) (All-nil (λ k. k < count))
all_there calls count callers n (m ∷ ms) z way last = All-cons (λ k. k < count) n (m ∷ ms) (callers n m way.0) (all_there calls count callers m ms z way.1 last)

round_there : (calls : ℕ → ℕ → Type 0) (count : ℕ) → ((n m : ℕ) → calls n m → n < count) → (n : ℕ) (ms : List ℕ) → IsRound calls n ms → All (λ k. k < count) (n ∷ ms)
round_there calls count callers n [] round = absurd (omega (arith, round.0))
round_there calls count callers n (m ∷ ms) round = all_there calls count callers n (m ∷ ms) n round.1 (callers n m round.1.0)

-- a name more
name_there : (fs : List memory.TypedFunction) (n : ℕ) (f : memory.TypedFunction) → n < length fs → f ≡ get_or fs n f → name_of (map typed_function_of fs) n ≡ Some f.name
name_there fs n f within is =
    ap (option_map (λ (g : TypedFunction). g.name))
    (slice_get-map typed_function_of fs n ∙ ap (option_map typed_function_of) (slice_get_read fs (length fs) n f refl within is))

pub names_further : (fs : List memory.TypedFunction) (numbers : List ℕ) (i : ℕ) (f : memory.TypedFunction) (names new : List (List ℕ)) (name : List ℕ) → i < length numbers
    → get_or numbers i 0 < length fs → f ≡ get_or fs (get_or numbers i 0) f → map Some names ≡ map (name_of (map typed_function_of fs)) (take i numbers) → new ≡ names ++ name ∷ []
    → name ≡ f.name → map Some new ≡ map (name_of (map typed_function_of fs)) (take (i + 1) numbers)
names_further fs numbers i f names new name less within is so_far pushed copied =
    let of = name_of (map typed_function_of fs) in
    ap (map Some) pushed ∙ map_push Some names name ∙ ap (λ l. l ++ Some name ∷ []) so_far
    ∙ ap (λ o. map of (take i numbers) ++ o ∷ []) (ap (λ l. Some l) copied ∙ sym (name_there fs (get_or numbers i 0) f within is)) ∙ sym (map_more of numbers i 0 less)

-- the uses of each function, as the code has them
uses_listed : (fs : List memory.TypedFunction) → map (λ f. statement_uses (stmt_of f.body.value)) fs ≡ map uses_in (map typed_function_of fs)
uses_listed [] = refl
uses_listed (f ∷ fs) = ap (λ ls. statement_uses (stmt_of f.body.value) ∷ ls) (uses_listed fs)

-- the functions that each calls, by such lists
calls_in : (fs : List memory.TypedFunction) (lists : List (List Use)) → lists ≡ map (λ f. statement_uses (stmt_of f.body.value)) fs → map called lists ≡ calls_of (map typed_function_of fs)
calls_in fs lists listed = ap (map called) (listed ∙ uses_listed fs) ∙ calls_listed (map typed_function_of fs)

pub bodies_in : (fs : List memory.TypedFunction) (lists : List (List Use)) → lists ≡ map (λ f. statement_uses (stmt_of f.body.value)) fs → HasBodies (map typed_function_of fs)
    → (n m : ℕ) → CallsAmong (map called lists) n m → m < length lists
bodies_in fs lists listed bodies n m call =
    let within = bodies n m (subst (λ ls. CallsAmong ls n m) (calls_in fs lists listed) call)
    in omega (arith, within, ap length (listed ∙ uses_listed fs), length-map (map typed_function_of fs) uses_in)

pub no_cycle_in : (fs : List memory.TypedFunction) (lists : List (List Use)) → lists ≡ map (λ f. statement_uses (stmt_of f.body.value)) fs → HasNoRound (CallsAmong (map called lists))
    → HasNoCycle (map typed_function_of fs)
no_cycle_in fs lists listed none = subst (λ ls. HasNoRound (CallsAmong ls)) (calls_in fs lists listed) none

pub chain_there : (fs : List memory.TypedFunction) (lists : List (List Use)) → lists ≡ map (λ f. statement_uses (stmt_of f.body.value)) fs → (numbers : List ℕ)
    → IsFirstChain (CallsAmong (map called lists)) numbers → All (λ k. k < length fs) numbers
chain_there fs lists listed numbers known =
    let callers : (n m : ℕ) → CallsAmong (map called lists) n m → n < length fs =
    λ n m call. omega (arith, slice_get_within (map called lists) n call.0 call.1, length-map lists called, ap length listed, length-map fs (λ f. statement_uses (stmt_of f.body.value)))
    in All-same (λ k. k < length fs) numbers (known.number ∷ known.over) known.is
    (round_there (CallsAmong (map called lists)) (length fs) callers known.number known.over known.is_first.round)

pub chain_in : (fs : List memory.TypedFunction) (lists : List (List Use)) → lists ≡ map (λ f. statement_uses (stmt_of f.body.value)) fs → (numbers : List ℕ) (chain : List (List ℕ))
    → IsFirstChain (CallsAmong (map called lists)) numbers → map Some chain ≡ map (name_of (map typed_function_of fs)) numbers → IsChain (map typed_function_of fs) chain
chain_in fs lists listed numbers chain known named = record {
  number = known.number;
  over = known.over;
  is_first = subst (λ ls. IsFirstRound (CallsAmong ls) known.number known.over) (calls_in fs lists listed) known.is_first;
  names = named ∙ ap (map (name_of (map typed_function_of fs))) known.is;
}
