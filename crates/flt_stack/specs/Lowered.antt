-- What is answered of filters that are read and lowered already: their points, and a certificate for each. This project's own definitions.
use Rattle.std.specs.Prelude.{◌≡◌, ◌⊎◌, ◌<◌, ℕ, List, length, take, IsTrue, Some, Result, Ok, Err, slice_get}
use Rattle.std.specs.List.{AllZip}
use Rattle.flt_tree.specs.declared.filter.Filter.{Filter}
use Rattle.flt_graph.specs.declared.graph.Graph.{Graph}
use Rattle.flt_cert.specs.Spelling.{is_cert}
use Rattle.flt_cert.specs.declared.cert.Cert.{Cert}
use Rattle.flt_check.specs.Accepting.{CertCovers, IsCertFault}
use Rattle.flt_rules.specs.declared.refusal.Refusal.{Refusal}
use Rattle.flt_model.specs.Program.{HasDistinctAltitudes, IsRepeated, by_altitude}
use Rattle.flt_stack.specs.Loading.{IsCount, max_files}
use Rattle.flt_stack.specs.declared.fault.LoadFault.{LoadFault}
use Rattle.flt_stack.specs.declared.fault.LoadFault.TheVariants as fault

-- there is a certificate for each graph
abbrev pub AreCertificates : List Graph → List Cert → Type 0
AreCertificates graphs certificates = AllZip (λ g c. IsTrue (is_cert c)) graphs certificates

-- each graph is covered by its certificate
abbrev pub AreCovered : List Graph → List Cert → Type 0
AreCovered graphs certificates = AllZip CertCovers graphs certificates

-- the certificate of a number is the first that doesn't cover its graph, and this is the first refusal that it earns
pub record IsFirstRefusal (graphs : List Graph) (certificates : List Cert) (number : ℕ) (refusal : Refusal) : Type 0 where
  pub graph : Graph
  pub certificate : Cert
  pub its_graph : slice_get graphs number ≡ Some graph
  pub its_certificate : slice_get certificates number ≡ Some certificate
  pub before : AreCovered (take number graphs) (take number certificates)
  pub refused : IsCertFault graph certificate refusal

-- all graphs are covered, no two filters have one altitude, and these stand from the highest to the lowest
pub record AreLoaded (filters : List Filter) (graphs : List Graph) (certificates : List Cert) (loaded : List Filter) : Type 0 where
  pub counted : IsCount (length filters)
  pub covered : AreCovered graphs certificates
  pub distinct : HasDistinctAltitudes filters
  pub ordered : loaded ≡ by_altitude filters

-- an earlier filter has the altitude of this one; memory may run out
abbrev pub IsAltitudeFault : List Filter → LoadFault → Type 0
IsAltitudeFault filters (fault.Altitude n) = IsRepeated filters n
IsAltitudeFault filters fault.OutOfMemory = Unit {0}
IsAltitudeFault filters _ = ⊥

-- the count is wrong; or else a graph isn't covered; or else an altitude is one that an earlier filter has. Memory may run out
abbrev pub Fails : List Filter → List Graph → List Cert → LoadFault → Type 0
Fails filters graphs certificates fault.Count = (length filters ≡ 0) ⊎ (max_files < length filters)
Fails filters graphs certificates (fault.Refused n r) = IsCount (length filters) × IsFirstRefusal graphs certificates n r
Fails filters graphs certificates (fault.Altitude n) = IsCount (length filters)
    × (AreCovered graphs certificates × IsRepeated filters n)
Fails filters graphs certificates fault.OutOfMemory = Unit {0}
Fails filters graphs certificates _ = ⊥

-- what is answered: the filters from the highest altitude to the lowest, or the first fault
abbrev pub Answers : List Filter → List Graph → List Cert → Result (List Filter) LoadFault → Type 0
Answers filters graphs certificates (Ok loaded) = AreLoaded filters graphs certificates loaded
Answers filters graphs certificates (Err f) = Fails filters graphs certificates f
