-- What the words of a command line ask for. This project's own program.
use Rattle.std.specs.Prelude.{◌≡◌, List, [], ◌∷◌, Bool, true, false, Option, Some, None, codes}
use Rattle.std.specs.Prelude.{if◌then◌else◌, option_and_then}
use Rattle.clap.specs.Faults.{fault_of}
use Rattle.clap.specs.Kinds.{Kinds}
use Rattle.clap.specs.Simple.{subcommand_of}
use Rattle.clap.specs.Walk.{Text}
use Rattle.clap.specs.declared.error.kind.ErrorKind.{ErrorKind}
use Rattle.clap.specs.declared.error.kind.ErrorKind.TheVariants.{OutOfMemory}
use Rattle.flt_words.specs.Program.{program_app}
use Rattle.flt_words.specs.Request.{Asked, Check, Serve}
use Rattle.flt_words.specs.Commands.{asked_by}

-- memory ran out
abbrev pub is_memory : ErrorKind → Bool
is_memory OutOfMemory = true
is_memory _ = false

-- nothing is wrong with the words
abbrev pub is_none : Kinds → Bool
is_none [] = true
is_none (k ∷ kinds) = false

-- the first of some words
abbrev pub IsFirst : Text → List Text → Type 0
IsFirst word [] = ⊥
IsFirst word (first ∷ rest) = first ≡ word

-- what words ask for, none where they can't be taken, or ask for help or the version
abbrev pub asked_words : List Text → Option Asked
asked_words words = if is_none (fault_of program_app words) then option_and_then asked_by (subcommand_of program_app words) else None

-- the same; no words ask for a check of the standard input
abbrev pub asked : List Text → Option Asked
asked [] = Some (Check (codes "-") None)
asked (word ∷ words) = asked_words (word ∷ words)

-- there are words, and this is the first of them
abbrev pub BeginWith : Text → List Text → Type 0
BeginWith word [] = ⊥
BeginWith word (first ∷ rest) = first ≡ word

-- words ask for a server, and `serve` is the first of them
abbrev pub AskToServe : List Text → Type 0
AskToServe words = BeginWith (codes "serve") words × (asked words ≡ Some Serve)
