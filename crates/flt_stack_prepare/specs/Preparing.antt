-- What a script and some texts come to before anything is run. This project's own program.
use Rattle.std.specs.Prelude.{◌≡◌, ◌⊎◌, ◌<◌, List, length, Result, Ok, Err, Some, IsTrue}
use Rattle.flt_stack_prepare.specs.Texts.{HaveCertificates, IsFirstRefused}
use Rattle.flt_stack_prepare.specs.declared.fault.RunFault.{RunFault}
use Rattle.flt_stack_prepare.specs.declared.fault.RunFault.TheVariants as fault
use Rattle.flt_model.specs.Program.{HasDistinctAltitudes, IsRepeated, by_altitude}
use Rattle.flt_model.specs.Streams.{Text}
use Rattle.flt_stack_script.specs.ScriptText.{Commands, IsFirstFault, is_script, spelling}
use Rattle.flt_stack.specs.Loading.{IsCount, max_files}
use Rattle.flt_syntax.specs.Texts.{AreSpelled, IsSyntaxFault}
use Rattle.flt_tree.specs.declared.filter.Filter.{Filter}

-- ---- the script

-- the bytes spell these commands, which are a script for these filters
pub record IsScript (filters : List Filter) (script : Text) (commands : Commands) : Type 0 where
  pub asked : IsTrue (is_script (Some filters) commands)
  pub written : script ≡ spelling commands

-- memory ran out, or the first malformed line is told
abbrev pub ScriptFails : {A : Type 0} → List Filter → Text → Result A RunFault → Type 0
ScriptFails filters script (Ok _) = Unit {0}
ScriptFails filters script (Err fault.OutOfMemory) = Unit {0}
ScriptFails filters script (Err (fault.Script line)) = IsFirstFault (Some filters) script line
ScriptFails filters script (Err _) = ⊥

-- ---- what is loaded

-- no two filters have one altitude, and they are loaded by it
abbrev pub IsLoadedOf : List Filter → List Filter → Type 0
IsLoadedOf filters loaded = HasDistinctAltitudes filters × (loaded ≡ by_altitude filters)

-- an earlier filter has the altitude of this one; memory may run out
abbrev pub IsAltitudeFault : List Filter → RunFault → Type 0
IsAltitudeFault filters (fault.Altitude number) = IsRepeated filters number
IsAltitudeFault filters fault.OutOfMemory = Unit {0}
IsAltitudeFault filters _ = ⊥

-- ---- all of it

-- the texts spell filters of different altitudes, each covered by a certificate, and the script's bytes spell commands for them; the
-- filters are loaded by altitude
pub record IsPrepared (script : Text) (texts : List Text) (loaded : List Filter) (commands : Commands) : Type 0 where
  pub counted : IsCount (length texts)
  pub filters : List Filter
  pub spelled : AreSpelled texts filters
  pub read : IsScript filters script commands
  pub certificates : List Text
  pub covered : HaveCertificates filters certificates
  pub distinct : HasDistinctAltitudes filters
  pub ordered : loaded ≡ by_altitude filters

-- the number of files; or else the first fault of the texts; or else that of the script; or else the first refusal; or else the first
-- altitude that an earlier file has. Memory may run out
abbrev pub Fails : Text → List Text → RunFault → Type 0
Fails script texts fault.Count = (length texts ≡ 0) ⊎ (max_files < length texts)
Fails script texts (fault.Syntax number f) = IsCount (length texts) × IsSyntaxFault texts number f
Fails script texts (fault.Script line) = IsCount (length texts)
    × ((filters : List Filter) × AreSpelled texts filters × IsFirstFault (Some filters) script line)
Fails script texts (fault.Refused number f) = IsCount (length texts)
    × ((filters : List Filter) × AreSpelled texts filters × ((commands : Commands) × IsScript filters script commands)
    × IsFirstRefused filters number f)
Fails script texts (fault.Altitude number) = IsCount (length texts)
    × ((filters : List Filter) × AreSpelled texts filters × ((commands : Commands) × IsScript filters script commands)
    × ((certificates : List Text) × HaveCertificates filters certificates) × IsRepeated filters number)
Fails script texts fault.OutOfMemory = Unit {0}
