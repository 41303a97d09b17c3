-- How much the objects and frames of a program need at most, and that what was gathered of its functions is what they need.
use Rattle.std.proofs.Common.{◌≡◌, ◌≤◌, ◌<◌, ◌+◌, ◌*◌, ◌∙◌, ℕ, zero, suc, List, [], ◌∷◌, Bool, true, false, refl, length, map, get_or, ap, sym, subst, arith, Some, slice_index}
use Rattle.std.specs.Prelude.{All, slice_get, option_map}
use Rattle.std.proofs.lemmas.List.{get_or-map, length-map}
use Rattle.std.proofs.lemmas.List.Elements.{All-head, All-tail}
use Rattle.std.proofs.lemmas.List.Sums.{get_or-le-sum_by}
use Rattle.std.proofs.lemmas.Option.{none-some, same_Some, slice_get_read, slice_get-map}
use Rattle.std.proofs.Math.Bridge.{le_prop}
use Rattle.std.proofs.Math.Logic.{∥∥₁_elim}
use Rattle.c_tree.specs.TypedTree.{ObjectTree}
use Rattle.c_tree.specs.View.{object_of}
use Rattle.c_tree.specs.Rounds.{CallsAmong, IsRound}
use Rattle.c_tree.specs.declared.program.Object.{Object}
use Rattle.tree_code.specs.declared.program.TreeFunction.{TreeFunction}
use Rattle.tree_code.specs.declared.program.TreeProgram.{TreeProgram}
use Rattle.tree_code.specs.ProgramView.{tree_of}
use Rattle.tree_code.specs.WordTree as tree
use Rattle.tree_code.specs.WordTree.{FunctionCode, ProgramCode}
use Rattle.tree_code.specs.WordView.{function_code_of}
use Rattle.tree_code.specs.WellFormedCode.{IsCode, IsObjectAmong, code_calls}
use Rattle.mem_plan.specs.declared.data_plan.DataPlan.{DataPlan}
use Rattle.mem_plan.specs.declared.data_plan.FramePlan.{FramePlan}
use Rattle.mem_plan.specs.declared.needs.FunctionNeeds.{FunctionNeeds}
use Rattle.mem_plan.specs.Begins.{IsBegin}
use Rattle.mem_plan.specs.DataNeeds.{objects_words, has_return_word, return_words, own, own_of, own_at, own_in, needs_of, most_object_words}
use Rattle.mem_plan.specs.Plan.{object_addresses, frames_from, end_from, plan_of, AreArranged, IsArranged, AreBegins}
use Rattle.mem_plan.specs.Gathered.{calls_in, owns_in, AreBeginsBy, AreProgramNeeds, most_own}

-- each object has 32,767 cells at most
objects_small : (statics os : List ObjectTree) → All (IsObjectAmong statics) os → objects_words os ≤ 32768 * length os
objects_small statics [] h = omega arith
objects_small statics (o ∷ os) h =
    let most = (All-head (IsObjectAmong statics) o os h).most in
    let rest = objects_small statics os (All-tail (IsObjectAmong statics) o os h)
    in omega (arith, most, rest)

few_statics : (p : ProgramCode) → IsCode p → objects_words p.statics ≤ most_object_words
few_statics p code =
    let small = objects_small p.statics p.statics code.statics in
    let count = code.objects
    in omega (arith, small, count)

few_locals : (p : ProgramCode) → IsCode p → (k : ℕ) (d : FunctionCode) → k < length p.functions → objects_words (get_or p.functions k d).locals ≤ most_object_words
few_locals p code k d within =
    let f = get_or p.functions k d in
    let small = objects_small p.statics f.locals (code.functions k d within).locals in
    let one = get_or-le-sum_by (λ g. length g.locals) p.functions k d within in
    let count = code.objects
    in omega (arith, small, one, count)

one_word : (b : Bool) → return_words b ≤ 1
one_word true = omega arith
one_word false = omega arith

small_own : (p : ProgramCode) → IsCode p → (k : ℕ) (d : FunctionCode) → k < length p.functions → own (get_or p.functions k d) ≤ most_own
small_own p code k d within =
    let scalars = (code.functions k d within).most_scalars in
    omega (arith, few_locals p code k d within, one_word (has_return_word (get_or p.functions k d)), scalars)

-- the same of programs in memory
pub statics_bound : (p : ProgramCode) (statics list : List Object) → p.statics ≡ map object_of statics → list ≡ statics → ∥ IsCode p ∥₁
    → objects_words (map object_of list) ≤ most_object_words
statics_bound p statics list same alike known =
    ∥∥₁_elim known le_prop (λ code. subst (λ os. objects_words os ≤ most_object_words) (same ∙ ap (map object_of) (sym alike)) (few_statics p code))

pub locals_bound : (p : ProgramCode) (fs list : List TreeFunction) → p.functions ≡ map function_code_of fs → list ≡ fs → ∥ IsCode p ∥₁
    → All (λ f. objects_words (map object_of f.locals) ≤ most_object_words) list
locals_bound p fs list same alike known =
    ∥∥₁_elim known (hlevel le_prop) (λ code.
    subst (All (λ f. objects_words (map object_of f.locals) ≤ most_object_words)) (sym alike)
    (λ k d within.
    subst (λ g. objects_words g.locals ≤ most_object_words) (ap (λ l. get_or l k (function_code_of d)) same ∙ get_or-map function_code_of fs k d (function_code_of d) within)
    (few_locals p code k (function_code_of d) (subst (λ n. k < n) (sym (ap length same ∙ length-map fs function_code_of)) within))))

pub own_bound : (p : ProgramCode) (fs : List TreeFunction) (needs list : List FunctionNeeds) → p.functions ≡ map function_code_of fs → needs ≡ map needs_of (map function_code_of fs)
    → list ≡ needs → ∥ IsCode p ∥₁ → All (λ f. f.own ≤ most_own) list
own_bound p fs needs list same gathered alike known =
    ∥∥₁_elim known (hlevel le_prop) (λ code.
    subst (All (λ f. f.own ≤ most_own)) (sym (alike ∙ gathered ∙ ap (map needs_of) (sym same)))
    (λ k d within.
    let inside : k < length p.functions = subst (λ n. k < n) (length-map p.functions needs_of) within in
    subst (λ n. n.own ≤ most_own) (sym (get_or-map needs_of p.functions k none d inside)) (small_own p code k none inside)))
  where
    none : FunctionCode
    none = record { name = []; scalars = 0; params = []; locals = []; body = tree.Break }

-- what was gathered
calls_same : (fs : List FunctionCode) → map (λ f. f.calls) (map needs_of fs) ≡ code_calls fs
calls_same [] = refl
calls_same (f ∷ fs) = ap (λ l. (needs_of f).calls ∷ l) (calls_same fs)

owns_same : (fs : List FunctionCode) (n : ℕ) → own_in (slice_get (map needs_of fs) n) ≡ own_of (slice_get fs n)
owns_same [] n = refl
owns_same (f ∷ fs) zero = refl
owns_same (f ∷ fs) (suc n) = owns_same fs n

words_same : (fs : List FunctionCode) → map (λ f. f.own) (map needs_of fs) ≡ map own fs
words_same [] = refl
words_same (f ∷ fs) = ap (λ l. own f ∷ l) (words_same fs)

-- so it is that of the functions of a program
pub program_needs : (p : TreeProgram) (needs read : List FunctionNeeds) → needs ≡ map needs_of (map function_code_of p.functions) → read ≡ needs → ∥ IsCode (tree_of p) ∥₁
    → AreProgramNeeds read
program_needs p needs read gathered alike known = subst AreProgramNeeds (sym (alike ∙ gathered)) (record {
  bodies = λ g f call. ∥∥₁_elim known le_prop (λ code.
      let low = code.bodies g f (subst (λ lists. CallsAmong lists g f) (calls_same fs) call)
      in omega (arith, low, length-map fs needs_of));
  no_cycle = λ n ms round. ∥∥₁_elim known (λ x y. absurd x) (λ code. code.no_cycle n ms (subst (λ lists. IsRound (CallsAmong lists) n ms) (calls_same fs) round));
  few = ∥∥₁_elim known le_prop (λ code. let few = code.most_functions in omega (arith, few, length-map fs needs_of));
  small = own_bound (tree_of p) p.functions (map needs_of fs) (map needs_of fs) refl refl refl known;
})
  where
    fs : List FunctionCode
    fs = map function_code_of p.functions

pub begins_so : (fs : List FunctionCode) (needs : List FunctionNeeds) (begins : List ℕ) → needs ≡ map needs_of fs → AreBeginsBy needs begins
    → IsBegin (CallsAmong (code_calls fs)) (own_at fs) (slice_index begins)
begins_so fs needs begins gathered so_begins =
    subst (λ own. IsBegin (CallsAmong (code_calls fs)) own (slice_index begins)) (λ i n. owns_same fs n i)
    (subst (λ lists. IsBegin (CallsAmong lists) (owns_in (map needs_of fs)) (slice_index begins)) (calls_same fs)
    (subst (λ ns. IsBegin (calls_in ns) (owns_in ns) (slice_index begins)) gathered so_begins.begins_so))

pub ends_so : (begin : ℕ → ℕ) (fs : List FunctionCode) (needs : List FunctionNeeds) → needs ≡ map needs_of fs → end_from begin 0 (map (λ f. f.own) needs) ≡ end_from begin 0 (map own fs)
ends_so begin fs needs gathered = ap (λ ns. end_from begin 0 (map (λ f. f.own) ns)) gathered ∙ ap (end_from begin 0) (words_same fs)

-- each frame ends within the last end
pub end_at : (begin : ℕ → ℕ) (n k : ℕ) (words : List ℕ) (w : ℕ) → slice_get words k ≡ Some w → begin (n + k) + w ≤ end_from begin n words
end_at begin n k [] w there = absurd (none-some w there)
end_at begin n zero (v ∷ vs) w there =
    let same : v ≡ w = same_Some v w there in
    let here : n + 0 ≡ n = omega arith
    in omega (arith, same, ap begin here)
end_at begin n (suc k) (v ∷ vs) w there =
    let here : suc n + k ≡ n + suc k = omega arith
    in omega (arith, ap begin here, end_at begin (suc n) k vs w there)

function_there : (fs : List TreeFunction) (n : ℕ) (f : TreeFunction) → f ≡ get_or fs n f → n < length fs → slice_get (map function_code_of fs) n ≡ Some (function_code_of f)
function_there fs n f is within = slice_get-map function_code_of fs n ∙ ap (option_map function_code_of) (slice_get_read fs (length fs) n f refl within is)

pub frame_room : (start : ℕ) (begins : List ℕ) (fs : List TreeFunction) (n : ℕ) (f : TreeFunction) → f ≡ get_or fs n f → n < length fs
    → start + end_from (slice_index begins) 0 (map own (map function_code_of fs)) ≤ 65536 → start + slice_index begins n + own (function_code_of f) ≤ 65536
frame_room start begins fs n f is within room =
    let there = slice_get-map own (map function_code_of fs) n ∙ ap (option_map own) (function_there fs n f is within) in
    let below = end_at (slice_index begins) 0 n (map own (map function_code_of fs)) (own (function_code_of f)) there in
    let here : 0 + n ≡ n = omega arith
    in omega (arith, room, below, ap (slice_index begins) here)

pub needs_at : (fs : List TreeFunction) (needs : List FunctionNeeds) (n : ℕ) (f : TreeFunction) (x : FunctionNeeds) → f ≡ get_or fs n f → n < length fs → x ≡ get_or needs n x
    → needs ≡ map needs_of (map function_code_of fs) → x ≡ needs_of (function_code_of f)
needs_at fs needs n f x is within x_is gathered =
    let count : length needs ≡ length fs = ap length gathered ∙ length-map (map function_code_of fs) needs_of ∙ length-map fs function_code_of in
    let there = slice_get_read needs (length needs) n x refl (omega (arith, within, count)) x_is in
    let wanted = slice_get-map needs_of (map function_code_of fs) n ∙ ap (option_map needs_of) (function_there fs n f is within)
    in same_Some x (needs_of (function_code_of f)) (sym there ∙ ap (λ l. slice_get l n) gathered ∙ wanted)

pub arranged_at : (fs : List TreeFunction) (all : List (List (List ℕ))) (n : ℕ) (f : TreeFunction) (a lists : List (List ℕ)) → f ≡ get_or fs n f → n < length fs → a ≡ get_or all n a
    → lists ≡ a → AreArranged (map function_code_of fs) all → IsArranged (function_code_of f) lists
arranged_at fs all n f a lists is within a_is same arranged =
    let count : length all ≡ length fs = arranged.count ∙ length-map fs function_code_of in
    let there = slice_get_read all (length all) n a refl (omega (arith, within, count)) a_is
    in subst (IsArranged (function_code_of f)) (sym same) (arranged.each n (function_code_of f) a (function_there fs n f is within) there)

-- the parts of a plan
pub plan_made : (p : TreeProgram) (arrangements : List (List (List ℕ))) (begin : ℕ → ℕ) (statics : List ℕ) (frames : List FramePlan) (used words : ℕ)
    → statics ≡ object_addresses 784 (map object_of p.statics) → words ≡ objects_words (map object_of p.statics)
    → frames ≡ frames_from (784 + words) begin 0 (map function_code_of p.functions) arrangements
    → used ≡ 16 + (words + end_from begin 0 (map own (map function_code_of p.functions)))
    → (let made : DataPlan = record { statics = statics; frames = frames; used = used } in made ≡ plan_of (tree_of p) arrangements begin)
plan_made p arrangements begin statics frames used words statics_is words_is frames_is used_is = λ i. record {
  statics = statics_is i;
  frames = (frames_is ∙ ap (λ w. frames_from (784 + w) begin 0 (map function_code_of p.functions) arrangements) words_is) i;
  used = (used_is ∙ ap (λ w. 16 + (w + end_from begin 0 (map own (map function_code_of p.functions)))) words_is) i;
}

pub gathered_of : (fs list : List TreeFunction) (needs : List FunctionNeeds) → needs ≡ map needs_of (map function_code_of list) → list ≡ fs → needs ≡ map needs_of (map function_code_of fs)
gathered_of fs list needs is alike = is ∙ ap (λ l. map needs_of (map function_code_of l)) alike

pub found_begins : (p : TreeProgram) (needs read : List FunctionNeeds) (begins : List ℕ) → needs ≡ map needs_of (map function_code_of p.functions) → read ≡ needs → AreBeginsBy read begins
    → AreBegins (tree_of p) (slice_index begins)
found_begins p needs read begins gathered alike so_begins = begins_so (map function_code_of p.functions) read begins (alike ∙ gathered) so_begins

-- the greatest end, by what was gathered
pub greatest_so : (p : TreeProgram) (needs read : List FunctionNeeds) (begins begins_read : List ℕ) (greatest : ℕ) → needs ≡ map needs_of (map function_code_of p.functions) → read ≡ needs
    → begins_read ≡ begins → greatest ≡ end_from (slice_index begins_read) 0 (map (λ f. f.own) read)
    → greatest ≡ end_from (slice_index begins) 0 (map own (map function_code_of p.functions))
greatest_so p needs read begins begins_read greatest gathered alike same is =
    is ∙ ends_so (slice_index begins_read) (map function_code_of p.functions) read (alike ∙ gathered)
    ∙ ap (λ b. end_from (slice_index b) 0 (map own (map function_code_of p.functions))) same
