-- What a system says of its folders. This project's own program.
use Rattle.std.specs.Prelude.{⊤, List}
use Rattle.flt_files.specs.Inputs.{Text}
use Rattle.flt_files.specs.declared.folders.PathKind.{PathKind}

-- the folder of a path has these names, and no others; it can't be read; this is there under a path
pub data Fact : Type 0 where
  Lists : (path : Text) (names : List Text) → Fact
  Unlisted : (path : Text) → Fact
  Has : (path : Text) (kind : PathKind) → Fact

-- of the system that the program runs on nothing is known: it may say anything
abbrev pub said_by_host : Fact → Type 0
said_by_host fact = ⊤
