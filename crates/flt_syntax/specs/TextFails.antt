-- The fault of a text that spells no filter: its length before all else; then the first fault from left to right; and where there is
-- none, the first fault that only the whole text shows.
use Rattle.std.specs.Prelude.{◌≡◌, ◌≤◌, ◌<◌, ◌⊎◌, true, false, List, [], ◌∷◌, length, IsTrue, Some}
use Rattle.flt_syntax.specs.FileFails.{FileFails}
use Rattle.flt_syntax.specs.RoutineFails.{BodyMisses}
use Rattle.flt_syntax.specs.Cursor.{Input, fault}
use Rattle.flt_syntax.specs.Grammar.{FileAt}
use Rattle.flt_syntax.specs.Lex.{tokens}
use Rattle.flt_syntax.specs.Spelling.{Spells}
use Rattle.flt_syntax.specs.declared.fault.FaultKind.TheVariants.{E04, E06, E07}
use Rattle.flt_syntax.specs.declared.fault.ParseError.{ParseError}
use Rattle.flt_syntax.specs.declared.fault.ParseError.TheVariants.{OutOfMemory, Syntax}
use Rattle.flt_syntax.specs.declared.fault.SyntaxFault.{SyntaxFault}
use Rattle.flt_tree.specs.Declarations.{AreNewLocks, AreNewCallbacks, IsServed, has_event, finds_routines, lacks_pre}
use Rattle.flt_rules.specs.Limits.{max_text, max_altitude, max_locks, max_callbacks}
use Rattle.flt_tree.specs.Measures.{are_small}
use Rattle.flt_tree.specs.Names.{Text}
use Rattle.flt_tree.specs.declared.filter.Callback.{Callback}
use Rattle.flt_tree.specs.declared.filter.Filter.{Filter}
use Rattle.flt_tree.specs.declared.filter.Head.TheVariants.{Canceled}
use Rattle.flt_tree.specs.declared.filter.Position.{Position}

-- the tokens spell the filter, to their end, and it keeps within the limits and declares nothing twice
pub record Reads (text : Text) (i : Input) (f : Filter) : Type 0 where
  pub grammar : FileAt text i f
  pub low : 1 ≤ f.altitude
  pub high : f.altitude ≤ max_altitude
  pub few_locks : length f.locks ≤ max_locks
  pub new_locks : AreNewLocks [] f.locks
  pub few_callbacks : length f.callbacks ≤ max_callbacks
  pub new_callbacks : AreNewCallbacks [] f.callbacks
  pub small : IsTrue (are_small f)

-- the first of some of the callbacks that needs a missing one: a `post` its `pre`, at its first word, or a call its routine, at the name
pub data CallbacksMiss (all : List Callback) : List Callback → SyntaxFault → Type 0 where
  no_pre : {c : Callback} {cs : List Callback} → lacks_pre all c.head ≡ true → CallbacksMiss all (c ∷ cs) (fault E07 c.position)
  no_routine : {c : Callback} {cs : List Callback} {at : Position} → lacks_pre all c.head ≡ false →
      BodyMisses all c.head c.body at → CallbacksMiss all (c ∷ cs) (fault E04 at)
  later : {c : Callback} {cs : List Callback} {f : SyntaxFault} → lacks_pre all c.head ≡ false → finds_routines all c.head c.body ≡ true →
      CallbacksMiss all cs f → CallbacksMiss all (c ∷ cs) f

-- what only the whole text shows: `queue` without `canceled`, at `queue`, which stands before the callbacks; then the callbacks' faults
pub data WholeFails (filter : Filter) : SyntaxFault → Type 0 where
  no_canceled : {at : Position} → filter.queue ≡ Some at → has_event Canceled filter.callbacks ≡ false → WholeFails filter (fault E07 at)
  wanting : {f : SyntaxFault} → IsServed filter.queue filter.callbacks → CallbacksMiss filter.callbacks filter.callbacks f →
      WholeFails filter f

-- the text spells no filter, and the fault is why
pub data Fails (text : Text) : SyntaxFault → Type 0 where
  too_long : max_text < length text → Fails text (record { line = 1; column = 1; kind = E06 })
  reading : {f : SyntaxFault} → length text ≤ max_text → FileFails text (tokens text) f → Fails text f
  whole : {filter : Filter} {f : SyntaxFault} → length text ≤ max_text → Reads text (tokens text) filter → WholeFails filter f →
      Fails text f

-- ---- the laws

-- a text that spells a filter fails nowhere
abbrev pub SpelledFailsNowhere : Type 0
SpelledFailsNowhere = (text : Text) (filter : Filter) (f : SyntaxFault) → Spells text filter → Fails text f → ⊥

-- the same of any tokens: what they spell within the limits fails nowhere from left to right
abbrev pub ReadFailsNowhere : Type 0
ReadFailsNowhere = (text : Text) (i : Input) (filter : Filter) (f : SyntaxFault) → Reads text i filter → FileFails text i f → ⊥

-- a text spells a filter or fails
abbrev pub SpellsOrFails : Type 0
SpellsOrFails = (text : Text) → ((filter : Filter) × Spells text filter) ⊎ ((f : SyntaxFault) × Fails text f)

-- it fails at one place, with one kind
abbrev pub FailsAtMostOnce : Type 0
FailsAtMostOnce = (text : Text) (f g : SyntaxFault) → Fails text f → Fails text g → f ≡ g

-- an error is where the text fails, unless memory ran out
abbrev pub IsWhereItFails : Text → ParseError → Type 0
IsWhereItFails text OutOfMemory = Unit {0}
IsWhereItFails text (Syntax f) = Fails text f
