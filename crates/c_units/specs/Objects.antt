-- The objects that files declare, and the first that none defines (docs/LANGUAGE.md, "Programs of several files"; ISO 9899:1990
-- 6.1.2.2 and 6.7.2).
use Rattle.std.specs.Prelude.{ℕ, suc, ◌==◌, ◌||◌, not, is_some, Bool, true, false, if◌then◌else◌, List, [], ◌∷◌, ◌++◌, map, filter, flat_map, option_map, find, Option}
use Rattle.c_tree.specs.c_syntax.SyntaxTree.{ItemForm, Parameters, ItemTree, ExternalTree, Defined, Declared}
use Rattle.c_rules.specs.Units.{is_name_among}
use Rattle.c_units.specs.Statics.{statics_of, static_name}
use Rattle.c_units.specs.Files.{FileTree}

-- a declaration of an object: its name as the file spells it and in the joined text, and whether it is a definition, being without
-- `extern` or with an initialiser
pub record ObjectTree : Type 0 where
  pub name : List ℕ
  pub joined : List ℕ
  pub defines : Bool

abbrev pub is_object : ItemForm → Bool
is_object (Parameters list) = false
is_object form = true

abbrev pub is_place_among : ℕ → List ℕ → Bool
is_place_among at [] = false
is_place_among at (place ∷ places) = at == place || is_place_among at places

-- the name in the joined text of one that a file of this number with these statics has
abbrev pub joined_name : ℕ → List (List ℕ) → List ℕ → List ℕ
joined_name number statics name = if is_name_among name statics then static_name number name else name

-- the objects of a declaration, with `extern` or not
abbrev pub objects_of : ℕ → List (List ℕ) → Bool → List ItemTree → List ObjectTree
objects_of number statics extern items = map object (filter (λ item. is_object item.form) items)
  where
    object : ItemTree → ObjectTree
    object item = record { name = item.name; joined = joined_name number statics item.name; defines = not extern || is_some item.initial }

abbrev pub objects_in : ℕ → List (List ℕ) → List ℕ → ExternalTree → List ObjectTree
objects_in number statics externs (Defined f) = []
objects_in number statics externs (Declared d) = objects_of number statics (is_place_among d.specs.at externs) d.items

abbrev pub file_objects : ℕ → FileTree → List ObjectTree
file_objects number file = flat_map (objects_in number (statics_of file.unit) file.externs) file.unit

-- those of all files, the first of which has this number
abbrev pub all_objects : ℕ → List FileTree → List ObjectTree
all_objects number [] = []
all_objects number (file ∷ files) = file_objects number file ++ all_objects (suc number) files

-- the names of those that are defined
abbrev pub defined_names : List ObjectTree → List (List ℕ)
defined_names objects = map (λ o. o.joined) (filter (λ o. o.defines) objects)

-- the name of the first that isn't defined
abbrev pub undefined_name : List ObjectTree → Option (List ℕ)
undefined_name objects = option_map (λ o. o.name) (find (λ o. not (is_name_among o.joined (defined_names objects))) objects)
