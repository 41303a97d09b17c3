-- The commands, a row each: which files one fetches, under which names it stores, what it comes to, and for what its files are refused
-- (docs/COMMANDS.md).
use Rattle.std.specs.Prelude.{◌≡◌, ℕ, List, [], ◌∷◌, map}
use Rattle.cc_words.specs.Asked.{Asked, ToBuild, ToRun, ToEvaluate, ToExecute, ToLayOut, ToCheck, ToAssemble}
use Rattle.cc_words.specs.Asked.{ToList, ToGenerate, ToDebug, ToExpand, ToJoin, ToPbuild}
use Rattle.cc_answers.specs.Answers.{Answered}
use Rattle.cc_files.specs.cc_text.Refusals.{Why}
use Rattle.cc_files.specs.World.{Shelves}
use Rattle.cc_files.specs.Fetches.{Wanted, IsFetched, AllFetched}
use Rattle.cc_files.specs.Stores.{Stored}
use Rattle.cc_driver.specs.Build.{source_file, chosen_options, certificate_name, FileHas, BuildsTo, IsRefusedFor}
use Rattle.cc_driver.specs.Run.{image_file, ports_file, IsImageRefused, RunsTo, RunRefused}
use Rattle.cc_driver.specs.Means.{MeansTo, MeansRefused}
use Rattle.cc_driver.specs.Exec.{ExecutesTo, ExecuteRefused}
use Rattle.cc_driver.specs.Layout.{sequence_file, LaysOutTo, LayoutRefused}
use Rattle.cc_driver.specs.Check.{certificate_file, ChecksTo, CheckRefused}
use Rattle.cc_driver.specs.Asm.{text_file, AssemblesTo, AssembleRefused}
use Rattle.cc_driver.specs.Dis.{ListsTo}
use Rattle.cc_driver.specs.Gen.{GeneratesTo, GenerateRefused}
use Rattle.cc_driver.specs.Debug.{script_file, DebugsTo, DebugRefused}
use Rattle.cc_driver.specs.Pre.{ExpandsTo, ExpandRefused}
use Rattle.cc_driver.specs.Join.{JoinsTo, JoinRefused}
use Rattle.cc_driver.specs.Profile.{recorded_options, weighted_name, ProfilesTo, ProfileRefused}

-- the files that a command fetches, in this order
abbrev pub files_of : Asked → List Wanted
files_of (ToBuild source image registers budget step) = source_file source ∷ []
files_of (ToRun image ports steps) = image_file image ∷ ports_file ports ∷ []
files_of (ToEvaluate source ports turns) = source_file source ∷ ports_file ports ∷ []
files_of (ToExecute source ports steps) = source_file source ∷ ports_file ports ∷ []
files_of (ToLayOut sequence registers budget) = sequence_file sequence ∷ []
files_of (ToCheck image certificate) = image_file image ∷ certificate_file certificate ∷ []
files_of (ToAssemble text image) = text_file text ∷ []
files_of (ToList image) = image_file image ∷ []
files_of (ToGenerate number) = []
files_of (ToDebug image ports script) = image_file image ∷ ports_file ports ∷ script_file script ∷ []
files_of (ToExpand source output) = source_file source ∷ []
files_of (ToJoin output sources) = map source_file sources
files_of (ToPbuild source first ports image registers budget steps) = source_file source ∷ image_file first ∷ ports_file ports ∷ []

-- the names under which a command stores, in this order
abbrev pub stores_under : Asked → List (List ℕ)
stores_under (ToBuild source image registers budget step) = image ∷ certificate_name image ∷ []
stores_under (ToRun image ports steps) = []
stores_under (ToEvaluate source ports turns) = []
stores_under (ToExecute source ports steps) = []
stores_under (ToLayOut sequence registers budget) = []
stores_under (ToCheck image certificate) = []
stores_under (ToAssemble text image) = image ∷ []
stores_under (ToList image) = []
stores_under (ToGenerate number) = []
stores_under (ToDebug image ports script) = []
stores_under (ToExpand source output) = output ∷ []
stores_under (ToJoin output sources) = output ∷ []
stores_under (ToPbuild source first ports image registers budget steps) = image ∷ weighted_name image ∷ []

-- the bytes of two files have a property
pub record FilesHave (shelf : Shelves) (first second : Wanted) (P : List ℕ → List ℕ → Type 0) : Type 0 where
  pub bytes : List ℕ
  pub more : List ℕ
  pub fetched : IsFetched shelf first bytes
  pub also : IsFetched shelf second more
  pub holds : P bytes more

-- the bytes of three files have a property
pub record ThreeFilesHave (shelf : Shelves) (first second third : Wanted) (P : List ℕ → List ℕ → List ℕ → Type 0) : Type 0 where
  pub bytes : List ℕ
  pub more : List ℕ
  pub last : List ℕ
  pub fetched : IsFetched shelf first bytes
  pub also : IsFetched shelf second more
  pub too : IsFetched shelf third last
  pub holds : P bytes more last

-- the bytes of all files of a list have a property
pub record AllHave (shelf : Shelves) (files : List Wanted) (P : List (List ℕ) → Type 0) : Type 0 where
  pub contents : List (List ℕ)
  pub fetched : AllFetched shelf files contents
  pub holds : P contents

-- what a command comes to over its files: what it answers, and what it stores
abbrev pub Comes : Asked → Shelves → Answered → List Stored → Type 0
Comes (ToBuild source image registers budget step) shelf answer texts =
    FileHas shelf (source_file source) (λ s. BuildsTo (chosen_options registers budget step) image s answer texts)
Comes (ToRun image ports steps) shelf answer texts =
    FilesHave shelf (image_file image) (ports_file ports) (λ i p. RunsTo i p steps answer) × (texts ≡ [])
Comes (ToEvaluate source ports turns) shelf answer texts =
    FilesHave shelf (source_file source) (ports_file ports) (λ s p. MeansTo s p turns answer) × (texts ≡ [])
Comes (ToExecute source ports steps) shelf answer texts =
    FilesHave shelf (source_file source) (ports_file ports) (λ s p. ExecutesTo s p steps answer) × (texts ≡ [])
Comes (ToLayOut sequence registers budget) shelf answer texts =
    FileHas shelf (sequence_file sequence) (λ s. LaysOutTo s registers budget answer) × (texts ≡ [])
Comes (ToCheck image certificate) shelf answer texts =
    FilesHave shelf (image_file image) (certificate_file certificate) (λ i c. ChecksTo i c answer) × (texts ≡ [])
Comes (ToAssemble text image) shelf answer texts = FileHas shelf (text_file text) (λ t. AssemblesTo image t answer texts)
Comes (ToList image) shelf answer texts = FileHas shelf (image_file image) (λ i. ListsTo i answer) × (texts ≡ [])
Comes (ToGenerate number) shelf answer texts = GeneratesTo number answer × (texts ≡ [])
Comes (ToDebug image ports script) shelf answer texts =
    ThreeFilesHave shelf (image_file image) (ports_file ports) (script_file script) (λ i p s. DebugsTo i p s answer) × (texts ≡ [])
Comes (ToExpand source output) shelf answer texts = FileHas shelf (source_file source) (λ s. ExpandsTo output s answer texts)
Comes (ToJoin output sources) shelf answer texts = AllHave shelf (map source_file sources) (λ ss. JoinsTo output ss answer texts)
Comes (ToPbuild source first ports image registers budget steps) shelf answer texts =
    ThreeFilesHave shelf (source_file source) (image_file first) (ports_file ports)
    (λ s i p. ProfilesTo (recorded_options registers budget steps) image s i p answer texts)

-- for what a command refuses its files, which all fit
abbrev pub Rejects : Asked → Shelves → Why → Type 0
Rejects (ToBuild source image registers budget step) shelf why = FileHas shelf (source_file source) (IsRefusedFor (chosen_options registers budget step) why)
Rejects (ToRun image ports steps) shelf why =
    FilesHave shelf (image_file image) (ports_file ports) (λ i p. RunRefused image ports i p why)
Rejects (ToEvaluate source ports turns) shelf why =
    FilesHave shelf (source_file source) (ports_file ports) (λ s p. MeansRefused ports s p why)
Rejects (ToExecute source ports steps) shelf why =
    FilesHave shelf (source_file source) (ports_file ports) (λ s p. ExecuteRefused ports s p why)
Rejects (ToLayOut sequence registers budget) shelf why =
    FileHas shelf (sequence_file sequence) (λ s. LayoutRefused sequence s why)
Rejects (ToCheck image certificate) shelf why =
    FilesHave shelf (image_file image) (certificate_file certificate) (λ i c. CheckRefused image certificate i c why)
Rejects (ToAssemble text image) shelf why = FileHas shelf (text_file text) (λ t. AssembleRefused text t why)
Rejects (ToList image) shelf why = FileHas shelf (image_file image) (λ i. IsImageRefused image i why)
Rejects (ToGenerate number) shelf why = GenerateRefused number why
Rejects (ToDebug image ports script) shelf why =
    ThreeFilesHave shelf (image_file image) (ports_file ports) (script_file script) (λ i p s. DebugRefused image ports script i p s why)
Rejects (ToExpand source output) shelf why = FileHas shelf (source_file source) (λ s. ExpandRefused s why)
Rejects (ToJoin output sources) shelf why = AllHave shelf (map source_file sources) (λ ss. JoinRefused ss why)
Rejects (ToPbuild source first ports image registers budget steps) shelf why =
    ThreeFilesHave shelf (source_file source) (image_file first) (ports_file ports)
    (λ s i p. ProfileRefused (recorded_options registers budget steps) first ports s i p why)
