-- What `emit --into` says, and what it writes. This project's own program.
use Rattle.std.specs.List.{All}
use Rattle.std.specs.Prelude.{◌≡◌, ◌≢◌, Bool, List, [], ◌∷◌, true, None, Result, Ok, Err, string_bytes}
use Rattle.flt_tree.specs.declared.filter.Filter.{Filter}
use Rattle.flt_graph.specs.declared.graph.Graph.{Graph}
use Rattle.flt_emit.specs.Files.{installation, user_header}
use Rattle.flt_emit_read.specs.AsRead.{returns_fit}
use Rattle.flt_kinds.specs.Creates.{AreFound}
use Rattle.flt_kinds.specs.Kinds.{AreKinds}
use Rattle.flt_kinds.specs.declared.slot.Spot.{Spot}
use Rattle.flt_words.specs.declared.request.Part.TheVariants.{Source}
use Rattle.flt_files.specs.Attempts.{Attempt, IsDone}
use Rattle.flt_commands_texts.specs.Check.{HasPoints}
use Rattle.flt_commands_texts.specs.Driver.{AreNamed, IsAskedFor, attempts_of, driver_lines}
use Rattle.flt_commands_texts.specs.Emit.{Emitting, IsHindered, IsJudged, IsReadBack, part_text}
use Rattle.flt_commands_texts.specs.Stamp.{stamped}
use Rattle.flt_files.specs.Inputs.{Giving, Text}
use Rattle.flt_commands_texts.specs.declared.answer.TextAnswer.{TextAnswer}
use Rattle.flt_commands_texts.specs.declared.answer.TextAnswer.TheVariants.{NotEmitted, EmittedInto}
use Rattle.flt_commands_texts.specs.declared.driver.Driver.{Driver}
use Rattle.flt_files.specs.declared.failure.Failure.{Failure}
use Rattle.flt_files.specs.declared.failure.Failure.TheVariants.{OutOfMemory}

-- ---- what is said

-- each context has one kind, no `pre create` completes with success, each return is one of its place, the files have the filter's
-- name, in the folder, and nobody's file is replaced unless that is asked for
pub record IsWritable (gives : Giving) (is_forced : Bool) (folder : Text) (f : Filter) (g : Graph) (driver : Driver) : Type 0 where
  pub listed : List Spot
  pub kinds : AreKinds g listed
  pub opens : AreFound g None
  pub fit : returns_fit f ≡ true
  pub named : AreNamed folder f.name driver.names
  pub asked : IsAskedFor gives is_forced (string_bytes driver.names.source) driver.outcome

-- a driver is written, as far as that could be done, or why nothing is
abbrev pub Writes : Giving → Bool → Text → Emitting
Writes gives is_forced folder f g (EmittedInto driver) = IsWritable gives is_forced folder f g driver
Writes gives is_forced folder f g (NotEmitted why) = IsHindered f g why
Writes gives is_forced folder f g _ = ⊥

-- what is said of the bytes of FILE, or of FILE and CERT, where names give this
abbrev pub IsEmittedInto : Giving → Bool → Text → List Text → Result TextAnswer Failure → Type 0
IsEmittedInto gives is_forced folder = IsJudged (Writes gives is_forced folder)

-- what stands on the standard error beside it
abbrev pub remark_in : Result TextAnswer Failure → Text
remark_in (Ok (EmittedInto driver)) = driver_lines driver.names driver.outcome
remark_in said = []

-- ---- what is written

-- what was done for the driver of a filter, in which these statements allocate contexts of the instance, and nothing else was: each part
-- goes under its own name, what got its bytes has them, and the source behind its stamp is read back to the filter
pub record IsPut (written : Text → Text → Type 0) (does : List Attempt → Type 0) (folder : Text) (f : Filter) (listed : List Spot)
    (driver : Driver) : Type 0 where
  pub read : IsReadBack Source f (part_text Source listed f)
  pub named : AreNamed folder f.name driver.names
  pub done :
      All (IsDone written) (attempts_of driver.names (stamped (part_text Source listed f)) (user_header f) (installation f) driver.outcome)
  pub only : does (attempts_of driver.names (stamped (part_text Source listed f)) (user_header f) (installation f) driver.outcome)

-- the same of a driver that is answered of a filter and its points; else nothing was done
abbrev pub IsPutFor : (Text → Text → Type 0) → (List Attempt → Type 0) → Text → Filter → Graph → TextAnswer → Type 0
IsPutFor written does folder f g (EmittedInto driver) =
    (listed : List Spot) × AreKinds g listed × IsPut written does folder f listed driver
IsPutFor written does folder f g _ = does []

-- the same of a text
pub record IsPutOf (written : Text → Text → Type 0) (does : List Attempt → Type 0) (folder text : Text) (driver : Driver) : Type 0 where
  pub graph : Graph
  pub points : HasPoints text graph
  pub listed : List Spot
  pub kinds : AreKinds graph listed
  pub put : IsPut written does folder points.filter listed driver

-- of FILE, or of FILE and CERT
abbrev pub ArePutOf : (Text → Text → Type 0) → (List Attempt → Type 0) → Text → List Text → Driver → Type 0
ArePutOf written does folder (text ∷ texts) driver = IsPutOf written does folder text driver
ArePutOf written does folder [] driver = ⊥

-- what was done for a driver that is answered; where another answer is given, or none, nothing was, unless memory ran out
abbrev pub ArePut : (Text → Text → Type 0) → (List Attempt → Type 0) → Text → List Text → Result TextAnswer Failure → Type 0
ArePut written does folder texts (Ok (EmittedInto driver)) = ArePutOf written does folder texts driver
ArePut written does folder texts (Ok _) = does []
ArePut written does folder texts (Err f) = f ≢ OutOfMemory → does []
