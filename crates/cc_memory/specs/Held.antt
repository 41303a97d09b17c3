-- What a list of files holds under a name.
use Rattle.std.specs.Prelude.{◌≡◌, ◌≢◌, ℕ, List, [], ◌∷◌, ◌++◌, length, map, AllPairs, Option, Some, None, if◌then◌else◌}
use Rattle.std.specs.Str.{bytes_eq}
use Rattle.cc_memory.specs.declared.mem_shelf.MemFile.{MemFile}

-- the bytes of the file of that name: the first, though names differ
abbrev pub held : List MemFile → List ℕ → Option (List ℕ)
held [] name = None
held (f ∷ fs) name = if bytes_eq f.name name then Some f.bytes.items else held fs name

-- the names of files
abbrev pub names_of : List MemFile → List (List ℕ)
names_of files = map (λ f. f.name) files

-- no two files have one name
abbrev pub NamesDiffer : List MemFile → Type 0
NamesDiffer files = AllPairs (λ a b. a ≢ b) (names_of files)

-- the first file of that name stands at this place
pub record FirstAt (files : List MemFile) (name : List ℕ) (place : ℕ) : Type 0 where
  pub front : List MemFile
  pub file : MemFile
  pub back : List MemFile
  pub parts : files ≡ front ++ file ∷ back
  pub at : place ≡ length front
  pub none_before : held front name ≡ None
  pub named : file.name ≡ name
