-- What stands below the report of a circle of locks: a run to a deadlock, if one is found. This project's own program.
use Rattle.std.specs.Prelude.{◌≡◌, ℕ, List, [], ◌∷◌, ◌++◌, Option, Some, None, codes, flat_map, if◌then◌else◌, length, nat_lt}
use Rattle.std.specs.Fmt.{decimal}
use Rattle.std.specs.List.{concat}
use Rattle.flt_tree.specs.Declarations.{lock_name}
use Rattle.flt_tree.specs.declared.filter.Filter.{Filter}
use Rattle.flt_places.specs.declared.files.Files.{Files}
use Rattle.flt_explain_texts.specs.Page.{line_told, quoted}
use Rattle.flt_search_deadlocks.specs.Deadlocks.{IsAnswer}
use Rattle.flt_search_deadlocks.specs.declared.judging.Deadlock.{Deadlock}
use Rattle.flt_search_deadlocks.specs.declared.searching.Answer.{Answer}
use Rattle.flt_search_deadlocks.specs.declared.searching.Answer.TheVariants.{Found, NotWithin, Cut}
use Rattle.flt_model.specs.JournalText.{Entries}
use Rattle.flt_model.specs.Program.{filters_of}
use Rattle.flt_model.specs.declared.verdict.Verdict.TheVariants.{Legal}
use Rattle.flt_order.specs.declared.order.Acquisition.{Acquisition}
use Rattle.flt_explain_waits.specs.declared.waits.BlockedActivation.{BlockedActivation}
use Rattle.flt_explain_runs.specs.Lines.{lengths, plural}
use Rattle.flt_explain_runs.specs.Rows.{AreJournalRows}
use Rattle.flt_explain_runs.specs.Warned.{Warned}

-- ---- who waits

-- for which lock an activation of a filter waits, and where
unfoldable pub wait_words : Files → ℕ → Filter → BlockedActivation → List ℕ
wait_words files home f b =
    concat (codes "    activation " ∷ decimal b.activation ∷ codes " waits for " ∷ quoted (lock_name f.locks b.lock) ∷ codes " on line "
    ∷ line_told files home b.span.line ∷ [])

-- that an activation holds that lock
unfoldable pub held_by : ℕ → List ℕ
held_by number = concat (codes ", held by activation " ∷ decimal number ∷ [])

-- which activation does, if one is named
abbrev pub holder_words : Option ℕ → List ℕ
holder_words (Some number) = held_by number
holder_words None = []

-- the line of an activation that waits
abbrev pub wait_line : Files → ℕ → Filter → BlockedActivation → List ℕ
wait_line files home f b = wait_words files home f b ++ holder_words b.holder ++ 10 ∷ []

-- the lines of some
abbrev pub wait_lines : Files → ℕ → Filter → List BlockedActivation → List ℕ
wait_lines files home f bs = flat_map (wait_line files home f) bs

-- the file whose lines need no name before them: the only one; none of several
abbrev pub named : Files → ℕ
named files = if nat_lt 1 (length files.all.now) then length files.all.now else 0

-- ---- a run

-- the line that says that a run leads to a deadlock
abbrev pub deadlock_line : Entries → List ℕ
deadlock_line es = codes "   = deadlock: a run leads to one" ++ lengths es ++ 10 ∷ []

-- a run to a deadlock: how long it is; the rows of its own journal, of which `replay` says that it is legal; and who waits at its end
pub record AreDeadlockLines (x : Warned) (d : Deadlock) (lines : List ℕ) : Type 0 where
  pub rows : List ℕ
  pub are : AreJournalRows x.own (x.files ∷ []) d.journal Legal rows
  pub whole : lines ≡ deadlock_line d.journal ++ rows ++ wait_lines x.files (named x.files) x.filter d.waits.items

-- ---- none

-- that no run to a deadlock is among those that are tried
abbrev pub not_within_line : List ℕ
not_within_line = codes "   = deadlock: no such run was found among those that are tried, of up to 4 operations at once" ++ 10 ∷ []

-- that the search was ended at so many states
abbrev pub cut_line : ℕ → List ℕ
cut_line states =
    codes "   = deadlock: no such run was found in " ++ decimal states ++ codes " state" ++ plural states
    ++ (codes "; `--states N` sets another bound" ++ 10 ∷ [])

-- ---- all

-- what a search for a deadlock came to
abbrev pub AreAnswerLines : Warned → Answer → List ℕ → Type 0
AreAnswerLines x (Found d) lines = AreDeadlockLines x d lines
AreAnswerLines x NotWithin lines = lines ≡ not_within_line
AreAnswerLines x Cut lines = lines ≡ cut_line x.states

-- what a search for the deadlock of a circle came to, in runs of the text's filter alone: only a run to a deadlock is said to be one
pub record AreSearchLines (x : Warned) (circle : List Acquisition) (lines : List ℕ) : Type 0 where
  pub answer : Answer
  pub is : IsAnswer (filters_of x.own) 0 circle answer
  pub are : AreAnswerLines x answer lines

-- the same below the report of a warning that is about a circle of locks; nothing, where it is about none
abbrev pub AreRunLines : Warned → List Acquisition → List ℕ → Type 0
AreRunLines x [] lines = lines ≡ []
AreRunLines x (a ∷ rest) lines = AreSearchLines x (a ∷ rest) lines
