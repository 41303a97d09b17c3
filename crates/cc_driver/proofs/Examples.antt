-- Worlds for which the definitions of commands are decided by hand, from docs/COMMANDS.md.
use Rattle.std.proofs.Common.{◌≡◌, ◌≢◌, ◌++◌, ℕ, true, false, List, [], ◌∷◌, Some, None, codes, length, refl, sym, ap, ◌∙◌, inl, inr, arith}
use Rattle.cc_shelf.specs.Stock.{Stock, Call}
use Rattle.cc_shelf.specs.Output.{Output}
use Rattle.cc_words.specs.Asked.{ToBuild, ToRun}
use Rattle.cc_files.specs.cc_text.declared.refusal.FileFault.{FileFault}
use Rattle.cc_files.specs.cc_text.declared.refusal.FileFault.TheVariants.{Read}
use Rattle.cc_files.specs.cc_text.Refusals.{OfFile}
use Rattle.cc_files.specs.World.{Shelves, shelves, sinks}
use Rattle.cc_files.specs.Puts.{PutsLine, LinePut, Whole, Part, Nothing, Refused, PutWhole, PutPart, PutNothing}
use Rattle.cc_files.specs.Fetches.{Wanted, AreFetched, FileRefused}
use Rattle.cc_files.specs.Stores.{AreStored, one_text}
use Rattle.cc_driver.specs.Build.{source_file}
use Rattle.cc_driver.specs.Run.{image_file, ports_file}
use Rattle.cc_driver.specs.Commands.{files_of}
use Rattle.cc_driver.specs.Answers.{IsWrong, ToFile, NoFile}

-- a shelf that tells no file, behind these fetches, of which so many failed
abbrev empty : List Call → ℕ → Stock
empty fetched faults = record {
  files = λ n. None;
  fetched = fetched;
  stored = [];
  counts = record { fetch_faults = faults; store_faults = 0; store_wants = 0; bytes_read = 0 };
  reliable = false;
}

-- a build of a source that isn't there is to end with 3
absent_source : IsWrong (ToBuild (codes "a.c") (codes "a.img") 1 200000 1) (shelves true (empty [] 0) (empty [] 0)) 3
absent_source = ToFile [] (source_file (codes "a.c")) [] refl (tt {0}) (NoFile refl refl)

name_same : (a b : List ℕ) (f g : FileFault) → OfFile a f ≡ OfFile b g → a ≡ b
name_same a b f g e = cc

-- where the image of a run isn't there, or its fetch failed, the ports can't be named, whatever was fetched
ports_not_named : (image ports : List ℕ) → image ≢ ports → (fetched : List Call) (faults : ℕ) → FileRefused (shelves true (empty [] 0) (empty fetched faults)) (files_of (ToRun image ports 1)) (OfFile ports Read) → ⊥
ports_not_named image ports differ fetched faults r = go r.before r.parts r.fetched
  where
    shelf : Shelves
    shelf = shelves true (empty [] 0) (empty fetched faults)

    go : (before : List Wanted) → image_file image ∷ ports_file ports ∷ [] ≡ before ++ r.last ∷ r.behind → AreFetched shelf before → ⊥
    go [] parts none =
        let last : image_file image ≡ r.last = cc in
        differ (ap (λ w. w.name) last ∙ sym (name_same ports r.last.name Read r.fault r.named))
    go (x ∷ xs) parts told =
        let e : None ≡ Some told.0.0 = told.0.1.told refl in
        cc

-- a put of nothing isn't a line: no byte came, no put failed, and no want of memory was counted
abbrev before : Output
before = record { bytes = []; calls = 0; faults = 0; wants = 0; reliable = false }

abbrev behind : Output
behind = record { bytes = []; calls = 1; faults = 0; wants = 0; reliable = false }

not_a_line : PutsLine (codes "words refused\n") (sinks true before behind) → ⊥
not_a_line p = go (p.put refl)
  where
    go : LinePut (codes "words refused\n") before behind → ⊥
    go (Whole e same) = cc
    go (Part rose n e) = omega (arith, rose)
    go (Nothing e same rose) = omega (arith, rose)

-- a file that can't be read isn't refused without a put
unsaid : (name : List ℕ) → Refused (OfFile name Read) (sinks true before before) 3 → ⊥
unsaid name (inl (PutWhole e calls same told)) = omega (arith, calls)
unsaid name (inl (PutPart e calls rose told)) = omega (arith, calls)
unsaid name (inl (PutNothing e calls told)) = omega (arith, e)
unsaid name (inr want) = omega (arith, want.0)

-- a text that is stored twice isn't stored by one store
stored_twice : (name text : List ℕ) (now : Stock) → now.stored ≡ record { name = name; failed = false } ∷ record { name = name; failed = false } ∷ []
    → AreStored (one_text name text) (shelves true (empty [] 0) now) → ⊥
stored_twice name text now twice are = let e : length now.stored ≡ 1 = ap length (are.tried refl) in omega (arith, e, ap length twice)
