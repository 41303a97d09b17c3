-- The names of blocks and of parameters: declared one after another, given their values, and put back.
use Rattle.std.proofs.Common.{◌≡◌, ◌+◌, ◌<◌, min, ℕ, cond, List, [], ◌∷◌, ◌++◌, length, get_or, map, drop, refl, sym, ap, ◌∙◌, inl, inr, arith}
use Rattle.std.specs.Prelude.{◌==◌}
use Rattle.std.proofs.lemmas.Bool.{cases_eq, cases_lt}
use Rattle.std.proofs.lemmas.List.{append_assoc, drop_more, drop_all}
use mathlib.Core.Path.{fun_ext}
use Rattle.c_tree.specs.declared.program.VarRef.{VarRef}
use Rattle.c_tree.specs.declared.program.VarRef.TheVariants.{Scalar, Local, Static}
use Rattle.c_tree.specs.Store as runs
use Rattle.c_tree.specs.Store.{World, Res, Gives, Finished, TooMany, Fails, give, store_value}
use Rattle.c_tree.specs.Eval.{Env, object_number}
use Rattle.c_tree.specs.Exec.{named, fresh, make_object, enter}
use Rattle.c_tree.specs.SourceRun.{pass}
use Rattle.c_means.specs.declared.blocks.Opened.{Opened}
use Rattle.c_state.specs.declared.value.Value.{Value}
use Rattle.c_state.specs.Values.{value_of}
use Rattle.c_means.specs.Blocks.{numbers_of, put_back}

back_at : (numbers : ℕ → ℕ) (n before object k : ℕ) → numbers n ≡ before → cond (k == n) before (cond (k == n) object (numbers k)) ≡ numbers k
back_at numbers n before object k is =
    elim (cases_eq k n) [
      | inl same ↦ grind (arith, same, is)
      | inr other ↦ grind (arith, other)
    ]

-- a name that is put back stands for what it stood for before
pub named_back : (env : Env) (v : VarRef) (object before : ℕ) → object_number env v ≡ before → named (named env v object) v before ≡ env
named_back env (Scalar n) object before is =
    ap {B = Env} (λ (g : ℕ → ℕ). record { function = env.function; scalar = g; local = env.local }) (fun_ext (λ k. back_at env.scalar n before object k is))
named_back env (Local n) object before is =
    ap {B = Env} (λ (g : ℕ → ℕ). record { function = env.function; scalar = env.scalar; local = g }) (fun_ext (λ k. back_at env.local n before object k is))
named_back env (Static n) object before is = refl

-- the last names of a block are put back first
pub put_all : (env : Env) (os more : List Opened) → put_back env (os ++ more) ≡ put_back (put_back env more) os
put_all env [] more = refl
put_all env (x ∷ os) more = ap (λ e. named e x.reference x.before.number) (put_all env os more)

pub numbers_append : (os more : List Opened) → numbers_of (os ++ more) ≡ numbers_of os ++ numbers_of more
numbers_append [] more = refl
numbers_append (x ∷ os) more = ap (λ ns. x.object.number ∷ ns) (numbers_append os more)

-- what came to an environment and numbers, with other numbers before these
abbrev pub numbered : List ℕ → Res (Env × List ℕ) → Res (Env × List ℕ)
numbered ns r = runs.after r (λ e. give (e.0, ns ++ e.1))

numbered_twice : (ms ns : List ℕ) (r : Res (Env × List ℕ)) → numbered ms (numbered ns r) ≡ numbered (ms ++ ns) r
numbered_twice ms ns (Gives e w) = ap {B = Res (Env × List ℕ)} (λ l. Gives (e.0, l) w) (sym (append_assoc ms ns e.1))
numbered_twice ms ns (Finished ending outs) = refl
numbered_twice ms ns (TooMany outs) = refl
numbered_twice ms ns (Fails kind at outs) = refl

-- one name more is declared
pub next_name : (declared : List VarRef) (k : ℕ) (d : VarRef) (env new : Env) (w after : World) (ns more : List ℕ) → k < length declared
    → make_object (fresh env.function (get_or declared k d)) (get_or declared k d) env w ≡ Gives (new, more) after
    → numbered (ns ++ more) (enter (drop (k + 1) declared) new after) ≡ numbered ns (enter (drop k declared) env w)
next_name declared k d env new w after ns more within made =
    let rest = drop (k + 1) declared in
    sym (
    ap (λ vs. numbered ns (enter vs env w)) (drop_more declared k d within)
    ∙ ap (λ r. numbered ns (runs.after r (λ e. λ u. numbered e.1 (enter rest e.0 u)))) made
    ∙ numbered_twice ns more (enter rest new after)
    )

no_argument : (ps : List VarRef) (env : Env) (w : World) → pass ps [] env w ≡ Gives (tt {0}) w
no_argument [] env w = refl
no_argument (p ∷ ps) env w = refl

-- all arguments, or all parameters, are used
pub passed : (ps : List VarRef) (vs : List Value) (k : ℕ) (env : Env) (w : World) → k ≡ min (length ps) (length vs)
    → pass (drop k ps) (map value_of (drop k vs)) env w ≡ Gives (tt {0}) w
passed ps vs k env w is =
    elim (cases_lt (length vs) (length ps)) [
      | inl fewer ↦ ap (λ xs. pass (drop k ps) (map value_of xs) env w) (drop_all k vs (omega arith)) ∙ no_argument (drop k ps) env w
      | inr enough ↦ ap (λ xs. pass xs (map value_of (drop k vs)) env w) (drop_all k ps (omega arith))
    ]
