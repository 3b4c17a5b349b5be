-- A text with warnings. This project's own program.
use Rattle.std.specs.Prelude.{ℕ, Bool, List}
use Rattle.flt_places.specs.declared.files.Files.{Files}
use Rattle.flt_tree.specs.Names.{Text}
use Rattle.flt_tree.specs.declared.filter.Filter.{Filter}
use Rattle.flt_tree.specs.declared.tree.Tree.{Tree}
use Rattle.flt_explain_runs.specs.declared.warned.WarnedText.{WarnedText}

-- a text with warnings: whether marks of a terminal colour their reports, how many states a search for a run goes on from at most, its
-- tree alone, its filter, its files, and its own bytes
pub record Warned : Type 0 where
  pub coloured : Bool
  pub states : ℕ
  pub own : List Tree
  pub filter : Filter
  pub files : Files
  pub text : Text

abbrev pub warned_of : WarnedText → Warned
warned_of t = record {
  coloured = t.coloured;
  states = t.states;
  own = t.own.now;
  filter = t.tree.now.filter;
  files = t.files.now;
  text = t.lines.now;
}
