-- What a script comes to on some texts. This project's own program.
use Rattle.std.specs.Prelude.{◌≡◌, ◌≢◌, ◌≤◌, ℕ, List, [], ◌∷◌, ◌++◌, length, None, Result, Ok, Err, IsPermutation}
use Rattle.flt_stack_core.specs.declared.receipt.Receipt.{Receipt}
use Rattle.flt_stack_core.specs.Counting.{callers_in, others_in}
use Rattle.flt_stack_crew.specs.Giving.{AreMade}
use Rattle.flt_stack_crew.specs.declared.ending.Ending.{Ending}
use Rattle.flt_stack_crew.specs.declared.ending.Ending.TheVariants.{Whole, Full, Already, Differ}
use Rattle.flt_stack_crew.specs.declared.running.Ran.{Ran}
use Rattle.flt_stack_prepare.specs.Preparing.{Fails, IsScript}
use Rattle.flt_stack_prepare.specs.Texts.{HaveCertificates}
use Rattle.flt_stack_prepare.specs.declared.fault.RunFault.{RunFault}
use Rattle.flt_model.specs.Expansion.{IsCleanRun, verdict}
use Rattle.flt_model.specs.JournalText as journal
use Rattle.flt_model.specs.Program.{HasDistinctAltitudes, by_altitude}
use Rattle.flt_model.specs.Runs.{breaks}
use Rattle.flt_model.specs.Steps.{Transition}
use Rattle.flt_model.specs.Streams.{Text}
use Rattle.flt_model.specs.declared.moves.JournalEntry.{JournalEntry}
use Rattle.flt_model.specs.declared.verdict.Verdict.TheVariants.{Legal}
use Rattle.flt_stack_core.specs.Bounds.{IsFull}
use Rattle.flt_stack_core.specs.Receipts.{receipts_in}
use Rattle.flt_stack_script.specs.ScriptText.{Commands}
use Rattle.flt_stack_script.specs.declared.command.Command.TheVariants.{Detach}
use Rattle.flt_stack.specs.Loading.{IsCount}
use Rattle.flt_syntax.specs.Texts.{AreSpelled}
use Rattle.flt_tree.specs.declared.filter.Filter.{Filter}

-- ---- the stack

-- how a journal's entries stand to what was asked for, to what workers were answered, and to the end of the run
pub record IsEnded (commands : Commands) (entries : List JournalEntry) (made : ℕ) (ending : Ending) : Type 0 where
  -- the commands that were given, and those that weren't
  pub given : Commands
  pub rest : Commands
  pub parts : commands ≡ given ++ rest
  -- what the caller kept of those that it gave, and what it asked to be cancelled
  pub receipts : List Receipt
  pub asked : List ℕ
  pub kept : AreMade given receipts asked
  -- the receipts are the journal's, each once, unless it is said that they differ
  pub agree : ending ≢ Differ → IsPermutation (receipts_in entries) receipts
  pub differ : ending ≡ Differ → IsPermutation (receipts_in entries) receipts → ⊥
  -- as many entries are of callers as there are receipts, and as many of others as workers were answered at least
  pub callers : callers_in entries ≡ length receipts
  pub others : made ≤ others_in entries
  -- the whole script was given, and workers were answered of each entry that they made
  pub whole : ending ≡ Whole → (rest ≡ []) × (others_in entries ≡ made)
  -- it was found full only where the journal or the number of operations is full
  pub full : ending ≡ Full → IsFull entries
  -- it was broken off at a detach only where that was refused
  pub already : ending ≡ Already → (altitude : ℕ) × (more : Commands) × (rest ≡ Detach altitude ∷ more)

-- the journal is a run of the machine on what is loaded that breaks nothing, and ends so
pub record IsDriven (loaded : List Filter) (commands : Commands) (entries : List JournalEntry) (made : ℕ) (ending : Ending) : Type 0 where
  pub ordered : by_altitude loaded ≡ loaded
  pub unbroken : (transitions : List Transition) → breaks loaded transitions ≡ None
  pub clean : IsCleanRun loaded entries
  pub legal : verdict loaded entries ≡ Legal
  pub ended : IsEnded commands entries made ending

-- ---- all of it

-- the texts spell filters of different altitudes, each covered by a certificate; the script's bytes spell commands for them; and the
-- journal is that of a stack of these filters. It is a run of the machine on them that breaks nothing: no run on them breaks anything
pub record IsRun (script : Text) (texts : List Text) (ran : Ran) : Type 0 where
  pub counted : IsCount (length texts)
  pub filters : List Filter
  pub spelled : AreSpelled texts filters
  pub commands : Commands
  pub read : IsScript filters script commands
  pub certificates : List Text
  pub covered : HaveCertificates filters certificates
  pub distinct : HasDistinctAltitudes filters
  pub unbroken : (transitions : List Transition) → breaks (by_altitude filters) transitions ≡ None
  pub entries : List JournalEntry
  pub written : ran.journal.items ≡ journal.spelling entries
  pub clean : IsCleanRun filters entries
  -- so `replay` calls it legal on these texts
  pub legal : verdict filters entries ≡ Legal
  pub ended : IsEnded commands entries ran.made ran.ending

-- what is answered of a script and some texts
abbrev pub Answers : Text → List Text → Result Ran RunFault → Type 0
Answers script texts (Ok ran) = IsRun script texts ran
Answers script texts (Err f) = Fails script texts f
