-- What is said of what comes of a finding: the line that says it, to the letter. This project's own program.
use Rattle.std.specs.Prelude.{ℕ, suc, ◌==◌, ◌&&◌, Bool, true, false, List, [], ◌∷◌, ◌++◌, Option}
use Rattle.std.specs.Prelude.{Some, None, codes, length, map, nat_lt, if◌then◌else◌}
use Rattle.std.specs.Char.{is_ascii_graphic}
use Rattle.std.specs.Fmt.{decimal}
use Rattle.flt_rules.specs.declared.place.Place.{Place}
use Rattle.flt_rules.specs.declared.place.Place.TheVariants as place
use Rattle.flt_tree.specs.declared.tree.Tree.{Tree}
use Rattle.flt_model.specs.JournalText.{Entries}
use Rattle.flt_model.specs.Verdicts.{verdict_line, violation_name}
use Rattle.flt_model.specs.declared.moves.JournalEntry.{JournalEntry}
use Rattle.flt_model.specs.declared.moves.JournalEntry.TheVariants as entries
use Rattle.flt_model.specs.declared.moves.Move.TheVariants as moves
use Rattle.flt_model.specs.declared.verdict.Verdict.TheVariants as verdicts
use Rattle.flt_model.specs.declared.verdict.Violation.{Violation}
use Rattle.flt_search.specs.declared.judging.BreakingJournal.{BreakingJournal}
use Rattle.flt_explain_outcomes.specs.declared.schedules.Schedule.{Schedule}
use Rattle.flt_explain_outcomes.specs.declared.schedules.Schedule.TheVariants.{Breaks, NotWithin, Cut, NeverHanded, NeverStarted, NeverGot}
use Rattle.flt_explain_outcomes.specs.Noted.{own_of, schedule_of}
use Rattle.flt_explain_outcomes.specs.declared.noted.SetterOutcome.{SetterOutcome}
use Rattle.flt_explain_outcomes.specs.declared.noted.SetterOutcome.TheVariants.{Runs, RunsNowhere}
use Rattle.flt_explain_outcomes.specs.declared.noted.Note.{Note}
use Rattle.flt_explain_outcomes.specs.declared.schedules.RunSearch.{RunSearch}

-- ---- a run

-- an operation arrives
abbrev pub is_arrival : JournalEntry → Bool
is_arrival (entries.Move (moves.Arrive operation mode file)) = true
is_arrival _ = false

-- how many operations arrive
abbrev pub arrivals : Entries → ℕ
arrivals [] = 0
arrivals (e ∷ es) = if is_arrival e then suc (arrivals es) else arrivals es

-- of several things
abbrev pub plural : ℕ → List ℕ
plural n = if n == 1 then [] else codes "s"

-- so many operations and entries
abbrev pub lengths_of : ℕ → ℕ → List ℕ
lengths_of operations entries =
    codes ", with " ++ decimal operations ++ codes " operation" ++ plural operations ++ codes " and " ++ decimal entries ++ codes " entries"

-- how long a journal is
abbrev pub lengths : Entries → List ℕ
lengths es = lengths_of (arrivals es) (length es)

-- a byte of a name; `?` for what isn't printed
abbrev pub shown : ℕ → ℕ
shown b = if is_ascii_graphic b then b else 63

-- the names of filters, with a word in front of the first and ` and ` between them
abbrev pub names : List ℕ → List Tree → List ℕ
names word [] = []
names word (t ∷ ts) = word ++ map shown t.filter.name ++ names (codes " and ") ts

-- the filters of a run, where there are several in a stack
abbrev pub on : Bool → List Tree → List Tree → List ℕ
on is_stack trees own = if is_stack && nat_lt 1 (length trees) then names (codes ", on ") own else []

abbrev pub run_words : Bool → List Tree → List Tree → BreakingJournal → List ℕ
run_words is_stack trees own b =
    verdict_line (verdicts.Breaks b.violation b.entry) ++ lengths b.journal ++ on is_stack trees own

-- ---- no run

-- nothing starts the callback at this place
abbrev pub never_started : Place → List ℕ
never_started (place.Post operation) = codes "nothing that runs asks for this callback by WITH_CALLBACK or SYNCHRONIZE, so it never runs"
never_started place.Canceled = codes "nothing that runs puts an operation into the queue, so `canceled` never runs"
never_started _ = codes "nothing that runs queues a work item for this routine, so it never runs"

-- calls ask for contexts that nothing sets
abbrev pub never_got : Bool → Bool → List ℕ
never_got true true =
    codes "no callback of this text sets a stream or an instance context, and this isn't reached unless a call gets one"
never_got true false = codes "no callback of this text sets a stream context, and this isn't reached unless a call gets one"
never_got false instance = codes "no callback of this text sets an instance context, and this isn't reached unless a call gets one"

-- a run that was shown before breaks this too
abbrev pub also_words : Violation → List ℕ
also_words v =
    codes "the run above breaks " ++ violation_name v ++ codes " by the same entry, too; `replay` says the least of what an entry breaks"

-- the search was ended at so many states
abbrev pub cut_words : ℕ → List ℕ
cut_words states = codes "no run was found in " ++ decimal states ++ codes " state" ++ plural states ++
    codes "; `--states N` sets another bound"

-- a search found none: other rules are broken before, or it was ended at a bound, or it came to its end
abbrev pub searched : Bool → Option ℕ → List ℕ
searched true cut = codes "each path there that is known breaks another rule first, and a run ends where it breaks something"
searched false (Some states) = cut_words states
searched false None =
    codes "no run was found among those that are tried, of up to 3 operations at once and 1,100 one after the other"

-- why no run is shown
abbrev pub missing : Option Violation → Bool → Option ℕ → List ℕ
missing (Some v) is_behind cut = also_words v
missing None is_behind cut = searched is_behind cut

-- why there is no run, where a search goes on from so many states
abbrev pub reason : ℕ → Note → Schedule → List ℕ
reason states n (Breaks b) = []
reason states n NotWithin = missing n.also n.is_behind None
reason states n Cut = missing n.also n.is_behind (Some states)
reason states n NeverHanded = codes "nothing in this text hands this callback a context, and nothing writes `arg`"
reason states n NeverStarted = never_started n.place
reason states n (NeverGot u) = never_got u.stream u.instance

-- ---- notes

-- what a note says
abbrev pub words_of : List Tree → RunSearch → Note → Schedule → List ℕ
words_of trees search n (Breaks b) = run_words search.is_stack trees (own_of trees n.filter n.scheduled) b
words_of trees search n s = codes "none: " ++ reason search.states n s

-- the line of a note, where these are the trees of the texts that parse
abbrev pub note_line : List Tree → RunSearch → Note → List ℕ
note_line trees search n = codes "   = journal: " ++ words_of trees search n (schedule_of n.scheduled) ++ 10 ∷ []

-- a run of a text with one more callback breaks this at an entry
abbrev pub again_words : Violation → ℕ → List ℕ
again_words v entry =
    codes "   = with a callback that sets one, a run breaks " ++ violation_name v ++ codes " at entry " ++ decimal entry

abbrev pub run_again : BreakingJournal → List ℕ
run_again b =
    again_words b.violation b.entry ++ lengths b.journal ++
    (codes "; it is no run of this text, and `--journal` doesn't keep it:" ++ 10 ∷ [])

-- the line on what comes of a finding where one more callback sets the contexts that nothing in its text sets
abbrev pub again_line : Option SetterOutcome → List ℕ
again_line None = []
again_line (Some (Runs b)) = run_again b
again_line (Some RunsNowhere) = codes "   = with a callback that sets one: no run was found either" ++ 10 ∷ []
