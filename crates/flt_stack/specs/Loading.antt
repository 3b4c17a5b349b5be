-- What `load` answers of texts with a certificate each. This project's own definitions.
use Rattle.std.specs.Prelude.{◌≡◌, ◌⊎◌, ℕ, ◌≤◌, ◌<◌, List, [], ◌∷◌, length, take, IsTrue, Some, Result, Ok, Err, slice_get}
use Rattle.std.specs.List.{AllZip}
use Rattle.flt_syntax.specs.Spelling.{Spells}
use Rattle.flt_syntax.specs.TextFails as syntax
use Rattle.flt_tree.specs.declared.filter.Filter.{Filter}
use Rattle.flt_graph.specs.Lowering.{IsLowered}
use Rattle.flt_graph.specs.declared.graph.Graph.{Graph}
use Rattle.flt_cert.specs.Spelling.{is_cert, spelling}
use Rattle.flt_cert.specs.Spelling as certificates
use Rattle.flt_cert.specs.declared.cert.Cert.{Cert}
use Rattle.flt_cert.specs.declared.fault.CertFault.{CertFault}
use Rattle.flt_cert.specs.declared.fault.CertFault.TheVariants as cert
use Rattle.flt_check.specs.Accepting.{CertCovers, IsCertFault}
use Rattle.flt_rules.specs.declared.refusal.Refusal.{Refusal}
use Rattle.flt_model.specs.Program.{HasDistinctAltitudes, IsRepeated, by_altitude}
use Rattle.flt_stack.specs.declared.fault.LoadFault.{LoadFault}
use Rattle.flt_stack.specs.declared.fault.LoadFault.TheVariants as fault

-- ---- one file

-- a text and the certificate that comes with it, as bytes
pub record File : Type 0 where
  pub text : List ℕ
  pub certificate : List ℕ

abbrev pub file : List ℕ → List ℕ → File
file text certificate = record { text = text; certificate = certificate }

-- the text spells the filter, the bytes spell a certificate of either format, and it covers the filter's graph
pub record IsAcceptedFile (file : File) (filter : Filter) : Type 0 where
  pub spelled : Spells file.text filter
  pub graph : Graph
  pub lowered : IsLowered filter graph
  pub certificate : Cert
  pub certified : IsTrue (is_cert certificate)
  pub written : file.certificate ≡ spelling certificate
  pub covers : CertCovers graph certificate

-- the text spells a filter
pub record IsSpelled (file : File) : Type 0 where
  pub filter : Filter
  pub spelled : Spells file.text filter

-- the text spells a filter, the bytes spell a certificate, and the refusal is the first that the filter's graph earns with it
pub record IsRefusedFile (file : File) (refusal : Refusal) : Type 0 where
  pub filter : Filter
  pub spelled : Spells file.text filter
  pub graph : Graph
  pub lowered : IsLowered filter graph
  pub certificate : Cert
  pub certified : IsTrue (is_cert certificate)
  pub written : file.certificate ≡ spelling certificate
  pub refused : IsCertFault graph certificate refusal

-- the text spells a filter, and the fault names the first line of the bytes that no certificate has
abbrev pub HasCertFault : File → CertFault → Type 0
HasCertFault file (cert.Line line) = IsSpelled file × certificates.IsFirstFault file.certificate line
HasCertFault file cert.OutOfMemory = ⊥

-- the text spells the filter, this is its graph, and the bytes spell the certificate
pub record IsReadFile (file : File) (filter : Filter) (graph : Graph) (certificate : Cert) : Type 0 where
  pub spelled : Spells file.text filter
  pub lowered : IsLowered filter graph
  pub certified : IsTrue (is_cert certificate)
  pub written : file.certificate ≡ spelling certificate

-- the file of a number can't be read: its text has this fault, or else its certificate; memory may run out
abbrev pub CannotRead : ℕ → File → LoadFault → Type 0
CannotRead number file (fault.Syntax n f) = (n ≡ number) × syntax.Fails file.text f
CannotRead number file (fault.Cert n f) = (n ≡ number) × HasCertFault file f
CannotRead number file fault.OutOfMemory = Unit {0}
CannotRead number file _ = ⊥

-- the file of a number has this fault: it can't be read, or else this is the least refusal
abbrev pub HasFault : ℕ → File → LoadFault → Type 0
HasFault number file (fault.Refused n r) = (n ≡ number) × IsRefusedFile file r
HasFault number file f = CannotRead number file f

-- ---- all files

-- each file is accepted as its filter
abbrev pub AreAcceptedFiles : List File → List Filter → Type 0
AreAcceptedFiles files filters = AllZip IsAcceptedFile files filters

-- these are the filters of the files, their graphs and their certificates
abbrev pub AreReadFiles : List File → List Filter → List Graph → List Cert → Type 0
AreReadFiles [] [] [] [] = Unit {0}
AreReadFiles (x ∷ files) (f ∷ filters) (g ∷ graphs) (k ∷ certificates) =
    IsReadFile x f g k × AreReadFiles files filters graphs certificates
AreReadFiles _ _ _ _ = ⊥

-- the file of a number can't be read, for this fault, and these are what the files before it were read to
pub record StopsReading (files : List File) (filters : List Filter) (graphs : List Graph) (certificates : List Cert) (f : LoadFault)
    : Type 0 where
  pub number : ℕ
  pub file : File
  pub there : slice_get files number ≡ Some file
  pub before : AreReadFiles (take number files) filters graphs certificates
  pub wrong : CannotRead number file f

-- there are 1 to 16 files
abbrev pub max_files : ℕ
max_files = 16

pub record IsCount (n : ℕ) : Type 0 where
  pub some : 1 ≤ n
  pub few : n ≤ max_files

-- the file of a number is the first that isn't accepted, and has this fault
pub record IsFirstFault (files : List File) (f : LoadFault) : Type 0 where
  pub number : ℕ
  pub file : File
  pub there : slice_get files number ≡ Some file
  pub before : List Filter
  pub accepted : AreAcceptedFiles (take number files) before
  pub wrong : HasFault number file f

-- the first file that isn't accepted has this fault; memory may run out
abbrev pub StopsAt : List File → LoadFault → Type 0
StopsAt files fault.Count = ⊥
StopsAt files (fault.Altitude n) = ⊥
StopsAt files fault.OutOfMemory = Unit {0}
StopsAt files f = IsFirstFault files f

-- all files are accepted, and that of the number is the first whose altitude an earlier one has
pub record HasRepeated (files : List File) (number : ℕ) : Type 0 where
  pub filters : List Filter
  pub accepted : AreAcceptedFiles files filters
  pub repeated : IsRepeated filters number

-- ---- the answer

-- all files are accepted, no two of one altitude, and the filters stand from the highest to the lowest
pub record AreLoaded (files : List File) (loaded : List Filter) : Type 0 where
  pub counted : IsCount (length files)
  pub filters : List Filter
  pub accepted : AreAcceptedFiles files filters
  pub distinct : HasDistinctAltitudes filters
  pub ordered : loaded ≡ by_altitude filters

abbrev pub Fails : List File → LoadFault → Type 0
Fails files fault.Count = (length files ≡ 0) ⊎ (max_files < length files)
Fails files (fault.Altitude n) = IsCount (length files) × HasRepeated files n
Fails files fault.OutOfMemory = Unit {0}
Fails files f = IsCount (length files) × StopsAt files f

-- what is answered of the files: the filters from the highest altitude to the lowest, or the first fault; memory may run out
abbrev pub Answers : List File → Result (List Filter) LoadFault → Type 0
Answers files (Ok loaded) = AreLoaded files loaded
Answers files (Err f) = Fails files f
