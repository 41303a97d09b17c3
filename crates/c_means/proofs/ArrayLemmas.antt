-- A local array gets the cells of its list.
use Rattle.std.proofs.Common.{◌≡◌, ◌≤◌, ◌<◌, ℕ, List, length, map, get_or, Some, option_map, refl, sym, ap, ◌∙◌}
use Rattle.std.specs.Prelude.{slice_get}
use Rattle.std.proofs.lemmas.Option.{slice_get-map, slice_get_read, slice_get_past}
use Rattle.word_base.specs.Ports.{Input, Outputs}
use Rattle.c_tree.specs.declared.program.Object.{Object}
use Rattle.c_tree.specs.View.{object_of}
use Rattle.c_tree.specs.Store as runs
use Rattle.c_tree.specs.Store.{Res, Gives}
use Rattle.c_tree.specs.Exec.{Flow, Next, fill, cells_set, set_cells}

-- the tree of a local object
pub object_at : (objects seen : List Object) (o : Object) (n : ℕ) → seen ≡ objects → n < length seen → o ≡ get_or seen n o → slice_get (map object_of objects) n ≡ Some (object_of o)
object_at objects seen o n same within read =
    slice_get-map object_of objects n ∙ ap (λ (os : List Object). option_map object_of (slice_get os n)) (sym same) ∙ ap (option_map object_of) (slice_get_read seen (length seen) n o refl within read)

-- the object of a name gets the cells of its list
pub filled : (objects seen : List Object) (o : Object) (n place number : ℕ) (cells : List runs.Cell) (before after : runs.Store) (input : Input) (outs : Outputs)
    → seen ≡ objects → n < length seen → o ≡ get_or seen n o → place ≡ number → cells ≡ set_cells (object_of o)
    → after ≡ runs.with_object number (cells_set (before.living number) cells) before
    → fill (slice_get (map object_of objects) n) place (record { store = before; input = input; outs = outs }) ≡ Gives Next (record { store = after; input = input; outs = outs })
filled objects seen o n place number cells before after input outs same within read at is gives =
    ap (λ t. fill t place (record { store = before; input = input; outs = outs })) (object_at objects seen o n same within read)
    ∙ ap (λ k. fill (Some (object_of o)) k (record { store = before; input = input; outs = outs })) at
    ∙ ap {B = Res Flow} (λ (cs : List runs.Cell). Gives Next (record { store = runs.with_object number (cells_set (before.living number) cs) before; input = input; outs = outs })) (sym is)
    ∙ ap {B = Res Flow} (λ (s : runs.Store). Gives Next (record { store = s; input = input; outs = outs })) (sym gives)

-- a number without an object fills none
pub not_filled : (objects seen : List Object) (n place : ℕ) (w : runs.World) → seen ≡ objects → length seen ≤ n → fill (slice_get (map object_of objects) n) place w ≡ Gives Next w
not_filled objects seen n place w same past =
    ap (λ t. fill t place w) (slice_get-map object_of objects n ∙ ap (λ (os : List Object). option_map object_of (slice_get os n)) (sym same) ∙ ap (option_map object_of) (slice_get_past seen n past))
