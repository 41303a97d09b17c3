-- What the code keeps of files, in the words of the definitions.
use Rattle.std.specs.Prelude.{◌≡◌, ℕ, Bool, List, nat_eq}
use Rattle.std.specs.List.{list_any}
use Rattle.std.specs.Str.{bytes_eq}
use Rattle.std.specs.HashSet.{contains}
use Rattle.std.specs.declared.hash.BuildHasherDefault.{BuildHasherDefault}
use Rattle.std.specs.declared.hash.FoldHasher.{FoldHasher}
use Rattle.indexmap.specs.IndexSet.{IndexSet}
use Rattle.c_rules.specs.Units.{is_name_among}
use Rattle.c_tree.specs.c_syntax.SyntaxView.{unit_of}
use Rattle.c_units.specs.declared.externs.Position.TheVariants as position
use Rattle.c_units.specs.declared.externs.Position as code
use Rattle.c_units.specs.declared.files.SourceFile as files
use Rattle.c_units.specs.declared.tables.NamedFile as tables
use Rattle.c_units.specs.declared.objects.DeclaredObject as objects
use Rattle.c_units.specs.declared.names.Names as names
use Rattle.c_units.specs.Externs.{Position, AtStart, Within, Braced}
use Rattle.c_units.specs.Files.{FileTree}
use Rattle.c_units.specs.Statics.{statics_of}
use Rattle.c_units.specs.Objects.{ObjectTree, is_place_among}

abbrev pub position_of : code.Position → Position
position_of position.AtStart = AtStart
position_of (position.Within assigned) = Within assigned
position_of (position.Braced list depth) = Braced list depth

-- how many braces more than one are open
abbrev pub depth_of : code.Position → ℕ
depth_of position.AtStart = 0
depth_of (position.Within assigned) = 0
depth_of (position.Braced list depth) = depth

abbrev pub file_of : files.SourceFile → FileTree
file_of f = record { tokens = f.tokens.items; externs = f.externs.items; unit = unit_of f.unit }

abbrev pub object_of : objects.DeclaredObject → ObjectTree
object_of o = record { name = o.name.now; joined = o.joined; defines = o.defines }

-- whether a set has a name
abbrev pub has_name : names.Names → List ℕ → Bool
has_name s name = list_any (λ key. bytes_eq name key.now) s.names.keys

-- a set has the names of a list
abbrev pub AreNames : names.Names → List (List ℕ) → Type 0
AreNames s list = (name : List ℕ) → has_name s name ≡ is_name_among name list

-- and another one the places of a list
abbrev pub ArePlaces : IndexSet ℕ (BuildHasherDefault FoldHasher) → List ℕ → Type 0
ArePlaces s list = (place : ℕ) → contains nat_eq s place ≡ is_place_among place list

abbrev pub tree_of : tables.NamedFile → FileTree
tree_of f = file_of f.file.now

-- the table of a file has the names of its statics
abbrev pub HasTable : tables.NamedFile → Type 0
HasTable f = AreNames f.statics (statics_of (tree_of f).unit)
