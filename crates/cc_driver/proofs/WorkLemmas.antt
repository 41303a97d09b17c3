-- The work of commands from their parts.
use Rattle.std.proofs.Common.{arith, inl, inr, ◌≡◌, ◌≢◌, ◌∙◌, ℕ, Bool, List, [], Option, Some, None, Ok, Err, IfOk, refl, sym, subst, append-nil}
use Rattle.std.specs.Prelude.{Result, IfErr, IfSome, IsErrAnd}
use Rattle.cc_shelf.specs.Stock.{Stock}
use Rattle.cc_words.specs.Asked.{Asked, asked}
use Rattle.cc_words.specs.Bounds.{IsWithinBounds}
use Rattle.cc_words.proofs.BoundsLemmas.{within_asked}
use Rattle.c25_image.specs.ImageFaults.{Says}
use Rattle.c25_image.specs.PortText.{PortSays}
use Rattle.c25_image.specs.declared.fault.ImageFault.{ImageFault}
use Rattle.c25_image.specs.declared.fault.ImageFault.TheVariants as image_faults
use Rattle.c25_image.specs.declared.fault.PortFault.{PortFault}
use Rattle.c25_image.specs.declared.fault.PortFault.TheVariants as port_faults
use Rattle.lay_text.specs.SequenceReading.{Says as SequenceSays}
use Rattle.lay_text.specs.declared.fault.SeqFault.{SeqFault}
use Rattle.lay_text.specs.declared.fault.SeqFault.TheVariants as sequence_faults
use Rattle.cc_check.specs.lay_cert.CertReading.{Says as CertificateSays}
use Rattle.cc_check.specs.lay_cert.declared.fault.CertFault.{CertFault}
use Rattle.cc_check.specs.lay_cert.declared.fault.CertFault.TheVariants as certificate_faults
use Rattle.cc_files.specs.cc_compile.declared.fault.BuildFault.{BuildFault}
use Rattle.cc_files.specs.cc_compile.declared.fault.BuildFault.TheVariants as build_faults
use Rattle.cc_files.specs.c_macro.declared.fault.MacroFault.{MacroFault}
use Rattle.cc_files.specs.c_macro.declared.fault.MacroFault.TheVariants as macro_faults
use Rattle.cc_files.specs.c_units.declared.fault.UnitFault.{UnitFault}
use Rattle.cc_files.specs.c_units.declared.fault.UnitFault.TheVariants as unit_faults
use Rattle.cc_answers.specs.declared.answer.Answer.{Answer}
use Rattle.cc_files.specs.cc_text.declared.refusal.Refusal.{Refusal}
use Rattle.cc_answers.specs.Answers.{Answered, answered}
use Rattle.cc_files.specs.cc_text.Refusals.{Why, OfFile, OfSource, OfMacros, OfUnits, OfStore, OfMemory, why_of, of_build_fault, of_macro_fault, of_unit_fault, of_image_fault, of_port_fault, of_sequence_fault, of_certificate_fault, of_script_fault}
use Rattle.cc_files.specs.World.{Shelves, shelves}
use Rattle.cc_files.specs.Fetches.{Wanted, IsFetched, AreFetched, NoneFailed, ForMemory}
use Rattle.cc_driver.specs.Run.{IsImageRefused, ArePortsRefused}
use Rattle.cc_driver.specs.Layout.{LayoutRefused}
use Rattle.cc_driver.specs.Check.{IsCertificateRefused}
use Rattle.cc_driver.specs.Debug.{IsScriptRefused}
use Rattle.c25_debug.specs.declared.fault.ScriptFault.{ScriptFault}
use Rattle.c25_debug.specs.declared.fault.ScriptFault.TheVariants as script_faults
use Rattle.c25_debug.specs.Script.{ScriptSays}
use Rattle.cc_files.specs.Stores.{Stored, NothingStored, OnlyUnder, StoresStopped}
use Rattle.cc_driver.specs.Commands.{files_of, stores_under, Comes, Rejects}
use Rattle.cc_driver.specs.Work.{WorkRefused, WorkLeaves, AtFetch, AtFiles, AtStore, AtMemory, AtStoreForMemory}
use Rattle.cc_files.proofs.StoreLemmas.{nothing_yet}
use Rattle.cc_driver.proofs.StoreLemmas.{still_fails, still_stops}

-- ---- refusals that are passed on

-- as a refusal that says the same
pub passed_for : {A : Type 0} (r : Result A Refusal) (why : Why) (P : Why → Type 0) → IsErrAnd r (λ e. why_of e ≡ why) → P why → IfErr r (λ e. P (why_of e))
passed_for (Ok a) why P is h = absurd is
passed_for (Err e) why P is h = subst P (sym is) h

-- ---- faults of the parts

pub image_fault_of : (name bytes : List ℕ) (fault : ImageFault) (why : Why) → Says bytes fault → why ≡ of_image_fault name fault → why ≢ OfMemory → IsImageRefused name bytes why
image_fault_of name bytes (image_faults.BadLine line) why says e some = record { fault = image_faults.BadLine line; some = λ f. cc; says = says; is = e }
image_fault_of name bytes (image_faults.TooLong count) why says e some = record { fault = image_faults.TooLong count; some = λ f. cc; says = says; is = e }
image_fault_of name bytes (image_faults.BadRange line) why says e some = record { fault = image_faults.BadRange line; some = λ f. cc; says = says; is = e }
image_fault_of name bytes image_faults.NoMemory why says e some = absurd (some e)

pub port_fault_of : (ports p : List ℕ) (fault : PortFault) (why : Why) → PortSays p fault → why ≡ of_port_fault ports fault → why ≢ OfMemory → ArePortsRefused ports p why
port_fault_of ports p (port_faults.BadLine line) why says e some = record { fault = port_faults.BadLine line; some = λ f. cc; says = says; is = e }
port_fault_of ports p port_faults.NoMemory why says e some = absurd (some e)

pub sequence_fault_of : (name bytes : List ℕ) (fault : SeqFault) (why : Why) → SequenceSays bytes fault → why ≡ of_sequence_fault name fault → why ≢ OfMemory → LayoutRefused name bytes why
sequence_fault_of name bytes (sequence_faults.BadLine line) why says e some = record { fault = sequence_faults.BadLine line; some = λ f. cc; says = says; is = e }
sequence_fault_of name bytes (sequence_faults.TooManyScalars count) why says e some = record { fault = sequence_faults.TooManyScalars count; some = λ f. cc; says = says; is = e }
sequence_fault_of name bytes sequence_faults.NoMemory why says e some = absurd (some e)

pub certificate_fault_of : (name bytes : List ℕ) (fault : CertFault) (why : Why) → CertificateSays bytes fault → why ≡ of_certificate_fault name fault → why ≢ OfMemory → IsCertificateRefused name bytes why
certificate_fault_of name bytes (certificate_faults.BadLine line) why says e some = record { fault = certificate_faults.BadLine line; some = λ f. cc; says = says; is = e }
certificate_fault_of name bytes (certificate_faults.Short frame) why says e some = record { fault = certificate_faults.Short frame; some = λ f. cc; says = says; is = e }
certificate_fault_of name bytes (certificate_faults.Version found) why says e some = record { fault = certificate_faults.Version found; some = λ f. cc; says = says; is = e }
certificate_fault_of name bytes certificate_faults.NoMemory why says e some = absurd (some e)

pub script_fault_of : (name bytes : List ℕ) (fault : ScriptFault) (why : Why) → ScriptSays bytes fault → why ≡ of_script_fault name fault → why ≢ OfMemory → IsScriptRefused name bytes why
script_fault_of name bytes (script_faults.BadLine line) why says e some = record { fault = script_faults.BadLine line; some = λ f. cc; says = says; is = e }
script_fault_of name bytes (script_faults.TooLong count) why says e some = record { fault = script_faults.TooLong count; some = λ f. cc; says = says; is = e }
script_fault_of name bytes script_faults.NoMemory why says e some = absurd (some e)

pub build_fault_of : (fault : BuildFault) (why : Why) → why ≡ of_build_fault fault → why ≢ OfMemory → (fault ≢ build_faults.NoMemory) × (why ≡ OfSource fault)
build_fault_of (build_faults.Lex l) why e some = (λ f. cc, e)
build_fault_of (build_faults.Parse l) why e some = (λ f. cc, e)
build_fault_of (build_faults.Types l) why e some = (λ f. cc, e)
build_fault_of (build_faults.Plan l) why e some = (λ f. cc, e)
build_fault_of (build_faults.Link l) why e some = (λ f. cc, e)
build_fault_of build_faults.NoMemory why e some = absurd (some e)

pub macro_fault_of : (fault : MacroFault) (why : Why) → why ≡ of_macro_fault fault → why ≢ OfMemory → (fault ≢ macro_faults.NoMemory) × (why ≡ OfMacros fault)
macro_fault_of (macro_faults.Lex l) why e some = (λ f. cc, e)
macro_fault_of (macro_faults.Directive at) why e some = (λ f. cc, e)
macro_fault_of (macro_faults.Redefined at) why e some = (λ f. cc, e)
macro_fault_of (macro_faults.Unbalanced at) why e some = (λ f. cc, e)
macro_fault_of (macro_faults.TooMany what count) why e some = (λ f. cc, e)
macro_fault_of macro_faults.NoMemory why e some = absurd (some e)

pub unit_fault_of : (fault : UnitFault) (why : Why) → why ≡ of_unit_fault fault → why ≢ OfMemory → (fault ≢ unit_faults.NoMemory) × (why ≡ OfUnits fault)
unit_fault_of (unit_faults.Lex file l) why e some = (λ f. cc, e)
unit_fault_of (unit_faults.Parse file p) why e some = (λ f. cc, e)
unit_fault_of (unit_faults.Types file t) why e some = (λ f. cc, e)
unit_fault_of (unit_faults.Reserved file at) why e some = (λ f. cc, e)
unit_fault_of (unit_faults.Undefined name) why e some = (λ f. cc, e)
unit_fault_of (unit_faults.TooManyTokens count) why e some = (λ f. cc, e)
unit_fault_of unit_faults.NoMemory why e some = absurd (some e)

-- ---- refused work

-- what the fetched files are refused for, unless memory is wanting
pub files_refuse : (what : Asked) (shelf : Shelves) (why : Why) → NoneFailed shelf (files_of what) → AreFetched shelf (files_of what) → NothingStored shelf → (why ≢ OfMemory → Rejects what shelf why)
    → WorkRefused what shelf why
files_refuse what shelf (OfFile name fault) asked fetched kept r = AtFiles asked (r (λ e. cc)) kept
files_refuse what shelf (OfSource fault) asked fetched kept r = AtFiles asked (r (λ e. cc)) kept
files_refuse what shelf (OfMacros fault) asked fetched kept r = AtFiles asked (r (λ e. cc)) kept
files_refuse what shelf (OfUnits fault) asked fetched kept r = AtFiles asked (r (λ e. cc)) kept
files_refuse what shelf OfStore asked fetched kept r = AtFiles asked (r (λ e. cc)) kept
files_refuse what shelf OfMemory asked fetched kept r = AtMemory refl asked fetched kept

module _ (tells : Bool) (first between last : Stock) where
  -- fetches, and then calls among which there is none
  pub still_none_failed : (ws : List Wanted) → NoneFailed (shelves tells first between) ws → NoneFailed (shelves tells between last) [] → NoneFailed (shelves tells first last) ws
  still_none_failed ws one more = record { asked = λ t. more.asked t ∙ append-nil between.fetched ∙ one.asked t; count = more.count ∙ one.count }

  fetched_first : (w : Wanted) (bytes : List ℕ) → IsFetched (shelves tells first between) w bytes → IsFetched (shelves tells first last) w bytes
  fetched_first w bytes f = record { told = f.told; fits = f.fits }

  -- stores are refused behind the fetches
  pub stores_refused : (what : Asked) (answer : Answered) (texts : List Stored) (why : Why) → NoneFailed (shelves tells first between) (files_of what) → NothingStored (shelves tells first between)
      → NoneFailed (shelves tells between last) [] → Comes what (shelves tells first last) answer texts → StoresStopped texts (shelves tells between last) why → WorkRefused what (shelves tells first last) why
  stores_refused what answer texts why asked kept none comes (inl failed) = AtStore failed.0 (record {
    fetched = still_none_failed (files_of what) asked none;
    answer = answer;
    texts = texts;
    comes = comes;
    ends = still_fails tells first between last kept texts failed.1;
  })
  stores_refused what answer texts why asked kept none comes (inr wanting) = AtStoreForMemory wanting.0 (record {
    fetched = still_none_failed (files_of what) asked none;
    answer = answer;
    texts = texts;
    comes = comes;
    ends = still_stops tells first between last kept texts wanting.1;
  })

-- without memory for the words nothing is asked for
pub stopped_first : (what : Asked) (tells : Bool) (s : Stock) → WorkRefused what (shelves tells s s) OfMemory
stopped_first what tells s = AtFetch (ForMemory refl (record {
  before = [];
  next = [];
  behind = files_of what;
  parts = refl;
  fetched = tt {0};
  at_most = omega arith;
  none_failed = record { asked = λ t. sym (append-nil s.fetched); count = refl };
})) (nothing_yet tells s)

-- ---- what work leaves

pub stores_leave : (what : Asked) (shelf : Shelves) (result : Result Answer Refusal) → OnlyUnder (stores_under what) shelf → IfOk result (λ a. (answered a).status ≡ 0) → stores_under what ≢ []
    → WorkLeaves what shelf result
stores_leave what shelf result others ends some = record {
  others = others;
  ends = λ e. ends;
  no_store = λ none. absurd (some none);
}

pub nothing_leaves : (what : Asked) (shelf : Shelves) (result : Result Answer Refusal) → stores_under what ≡ [] → NothingStored shelf → WorkLeaves what shelf result
nothing_leaves what shelf result none kept = record {
  others = λ n other. kept.files n;
  ends = λ some. absurd (some none);
  no_store = λ e. kept;
}

-- ---- words

-- what words ask for is within its bounds
pub bounded : (words : List (List ℕ)) (a : Asked) → Some a ≡ asked words → IsWithinBounds a
bounded words a e = subst (λ o. IfSome o IsWithinBounds) (sym e) (within_asked words)

-- words ask for one thing
pub one_asked : (o : Option Asked) (a b : Asked) → Some a ≡ o → o ≡ Some b → a ≡ b
one_asked o a b e f = let k : Some a ≡ Some b = e ∙ f in cc

-- and then not for nothing
pub something_asked : (o : Option Asked) (a : Asked) → Some a ≡ o → o ≢ None
something_asked o a e n = let k : Some a ≡ None = e ∙ n in cc
