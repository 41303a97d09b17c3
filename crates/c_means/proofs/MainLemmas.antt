-- The start of a run.
use Rattle.std.proofs.Common.{◌≡◌, ◌<◌, ◌+◌, Bool, true, false, ℕ, zero, suc, cond, List, [], ◌∷◌, ◌++◌, length, map, get_or, take, refl, sym, ap, subst, ◌∙◌, Option, Some, None, option_map, Result, arith}
use Rattle.std.specs.Prelude.{◌==◌, slice_get}
use Rattle.std.specs.List.{find}
use Rattle.std.specs.Str.{bytes_eq}
use Rattle.std.proofs.lemmas.List.{map_more, length_push, length-map}
use mathlib.Core.Path.{fun_ext}
use denote.Ref.{Bor}
use Rattle.word_base.specs.Ports.{Input, Outputs}
use Rattle.c_tree.specs.declared.program.Object.{Object}
use Rattle.c_tree.specs.declared.program.Function.{Function}
use Rattle.c_tree.specs.declared.program.Program.{Program}
use Rattle.c_tree.specs.TypedTree.{ObjectTree, FunctionTree, ProgramTree}
use Rattle.c_tree.specs.ProgramView.{program_of}
use Rattle.c_tree.specs.View.{function_of, object_of}
use Rattle.c_tree.specs.Store as runs
use Rattle.c_tree.specs.Store.{Cell, Obj, Store, World, Res, Does, Gives, with_new}
use Rattle.c_tree.specs.Exec.{set_cells}
use Rattle.c_tree.specs.SourceRun.{main_of, main_name, static_object, first_world, call_function, call_within}
use Rattle.c_state.specs.declared.value.Value.{Value}
use Rattle.c_state.specs.declared.value.Stop.{Stop}
use Rattle.c_state.specs.Values.{option_of}
use Rattle.c_state.specs.declared.state.State.{State}
use Rattle.c_state.specs.Worlds.{ComesTo}
use Rattle.c_means.specs.Runs.{statics_of, main_run}

-- whether a function is named main
abbrev pub is_main : Function → Bool
is_main f = bytes_eq f.name main_name

first_main : (b : Bool) (f : Function) (rest : Option Function) (others : Option FunctionTree) → option_map function_of rest ≡ others
    → option_map function_of (cond b (Some f) rest) ≡ cond b (Some (function_of f)) others
first_main true f rest others is = refl
first_main false f rest others is = is

main_found : (fs : List Function) → option_map function_of (find is_main fs) ≡ main_of (map function_of fs)
main_found [] = refl
main_found (f ∷ fs) = first_main (is_main f) f (find is_main fs) (main_of (map function_of fs)) (main_found fs)

same_function : (r : Option (Bor Function)) → option_map (λ f. function_of f.now) r ≡ option_map function_of (option_map (λ f. f.now) r)
same_function None = refl
same_function (Some f) = refl

-- the function that was found
pub main_is : (fs : List Function) (r : Option (Bor Function)) → option_map (λ f. f.now) r ≡ find is_main fs → option_map (λ f. function_of f.now) r ≡ main_of (map function_of fs)
main_is fs r is = same_function r ∙ ap (option_map function_of) is ∙ main_found fs

static_at : (os : List ObjectTree) (o : ObjectTree) (k : ℕ)
    → static_object (slice_get (os ++ o ∷ []) k) ≡ cond (k == length os) (Some (record { cells = set_cells o; kind = o.kind })) (static_object (slice_get os k))
static_at [] o zero = refl
static_at [] o (suc k) = grind arith
static_at (x ∷ os) o zero = grind arith
static_at (x ∷ os) o (suc k) = let rest = static_at os o k in grind (arith, rest)

push_static : (os : List ObjectTree) (o : ObjectTree) → statics_of (os ++ o ∷ []) ≡ with_new (record { cells = set_cells o; kind = o.kind }) (statics_of os)
push_static os o =
    let more : length (os ++ o ∷ []) ≡ suc (length os) = omega (arith, length_push os o) in
    ap {B = Store} (λ n. record { made = n; living = λ k. static_object (slice_get (os ++ o ∷ []) k) }) more
    ∙ ap {B = Store} (λ (f : ℕ → Option Obj). record { made = suc (length os); living = f }) (fun_ext (static_at os o))

-- one more is made
pub next_static : (objects : List Object) (i : ℕ) (o : Object) (cells : List Cell) (before after : Store) → i < length objects → o ≡ get_or objects i o
    → before ≡ statics_of (map object_of (take i objects)) → cells ≡ set_cells (object_of o) → after ≡ with_new (record { cells = cells; kind = o.kind }) before
    → after ≡ statics_of (map object_of (take (i + 1) objects))
next_static objects i o cells before after within at so_far is next =
    next
    ∙ ap (λ (s : Store). with_new (record { cells = cells; kind = o.kind }) s) so_far
    ∙ ap (λ (cs : List Cell). with_new (record { cells = cs; kind = o.kind }) (statics_of (map object_of (take i objects)))) is
    ∙ sym (push_static (map object_of (take i objects)) (object_of o))
    ∙ ap (λ (x : Object). statics_of (map object_of (take i objects) ++ object_of x ∷ [])) at
    ∙ ap statics_of (sym (map_more object_of objects i o within))

-- the objects, the input and the outputs at the start
pub at_start : (p : ProgramTree) (input : Input) (store : Store) (left : Input) (outs : Outputs) → store ≡ statics_of p.statics → left ≡ input → outs ≡ []
    → ◌≡◌ {A = World} (record { store = store; input = left; outs = outs }) (first_world p input)
at_start p input store left outs statics words none =
    ap {B = World} (λ (s : Store). record { store = s; input = left; outs = outs }) statics
    ∙ ap {B = World} (λ (i : Input). record { store = statics_of p.statics; input = i; outs = outs }) words
    ∙ ap {B = World} (λ (o : Outputs). record { store = statics_of p.statics; input = input; outs = o }) none

-- the call of the function that was found
pub main_call : (p : Program) (functions : List Function) (n : ℕ) (f : Function) → functions ≡ p.functions → Some (function_of f) ≡ main_of (map function_of functions)
    → main_run (program_of p) n ≡ call_function (call_within (program_of p) n (length functions)) n (Some (function_of f)) []
main_call p functions n f all is =
    let tree = program_of p in
    ap (λ (fs : List Function). call_function (call_within tree n (length tree.functions)) n (main_of (map function_of fs)) []) (sym all)
    ∙ ap (λ o. call_function (call_within tree n (length tree.functions)) n o []) (sym is)
    ∙ ap (λ d. call_function (call_within tree n d) n (Some (function_of f)) []) (length-map p.functions function_of ∙ ap length (sym all))

-- what is said of a part of a run is said of an equal one
pub same_comes : (f g : Does (Option runs.Value)) (w : World) (behind : State) (r : Result (Option Value) Stop) → g ≡ f → ComesTo option_of (f w) behind r → ComesTo option_of (g w) behind r
same_comes f g w behind r same comes = subst (λ (d : Does (Option runs.Value)). ComesTo option_of (d w) behind r) (sym same) comes
