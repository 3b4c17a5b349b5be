-- Which filter a text spells: what the grammar says, and beside it the limits, and what must be declared.
use Rattle.std.specs.Prelude.{◌≡◌, ◌≤◌, [], length, IsTrue}
use Rattle.flt_syntax.specs.Grammar.{FileAt}
use Rattle.flt_syntax.specs.Lex.{tokens}
use Rattle.flt_tree.specs.Declarations.{AreNewLocks, AreNewCallbacks, AreWhole, IsServed}
use Rattle.flt_rules.specs.Limits.{max_text, max_altitude, max_locks, max_callbacks}
use Rattle.flt_tree.specs.Measures.{are_small}
use Rattle.flt_tree.specs.Names.{Text}
use Rattle.flt_tree.specs.WellFormed.{IsWellFormed}
use Rattle.flt_tree.specs.declared.filter.Filter.{Filter}

-- the text spells the filter
pub record Spells (text : Text) (f : Filter) : Type 0 where
  -- the text has at most 65,536 bytes
  pub short : length text ≤ max_text
  -- by the grammar its tokens spell the filter
  pub grammar : FileAt text (tokens text) f
  -- the altitude is from 1 to 4294967295
  pub low : 1 ≤ f.altitude
  pub high : f.altitude ≤ max_altitude
  -- there are at most 8 locks, each with a name of its own
  pub few_locks : length f.locks ≤ max_locks
  pub new_locks : AreNewLocks [] f.locks
  -- there are at most 16 callbacks, each of them declared once
  pub few_callbacks : length f.callbacks ≤ max_callbacks
  pub new_callbacks : AreNewCallbacks [] f.callbacks
  -- each is within the limits on points and cost
  pub small : IsTrue (are_small f)
  -- what a queue, a `post` and the calls want is there
  pub served : IsServed f.queue f.callbacks
  pub whole : AreWhole f.callbacks f.callbacks

-- no text spells two filters
abbrev pub SpellsAtMostOne : Type 0
SpellsAtMostOne = (text : Text) (f g : Filter) → Spells text f → Spells text g → f ≡ g

-- what a text spells is well-formed
abbrev pub SpelledIsWellFormed : Type 0
SpelledIsWellFormed = (text : Text) (f : Filter) → Spells text f → IsWellFormed f
