-- A text that parses, with all that is looked up in it. This project's own program.
use Rattle.std.specs.Prelude.{ℕ, List}
use Rattle.flt_rules.specs.declared.call.LockNumber.{LockNumber}
use Rattle.flt_places.specs.declared.files.Files.{Files}
use Rattle.flt_tree.specs.Declarations.{lock_name}
use Rattle.flt_tree.specs.Names.{Text}
use Rattle.flt_tree.specs.declared.filter.Filter.{Filter}
use Rattle.flt_syntax.specs.declared.token.Token.{Token}
use Rattle.flt_graph.specs.Graph.{instruction_at, line_at}
use Rattle.flt_graph.specs.declared.graph.Graph.{Graph}
use Rattle.flt_graph.specs.declared.instruction.Instruction.{Instruction}
use Rattle.flt_explain_texts.specs.Operands.{tokens_of}
use Rattle.flt_explain_texts.specs.Scene.{head_of}
use Rattle.flt_explain_warnings.specs.declared.warning.Site.{Site}
use Rattle.flt_explain_warning_details.specs.declared.parsed.ParsedText.{ParsedText}

-- a text, the files in which its lines are, its filter and its points, and its tokens
pub record Parsed : Type 0 where
  pub files : Files
  pub text : Text
  pub filter : Filter
  pub graph : Graph
  pub tokens : List Token

-- those of a text
abbrev pub parsed : Files → Text → Filter → Graph → Parsed
parsed files text f g = record { files = files; text = text; filter = f; graph = g; tokens = tokens_of text }

-- those that the program looks things up in
abbrev pub of_parsed : ParsedText → Parsed
of_parsed x = record {
  files = x.scene.files;
  text = x.scene.lines.now;
  filter = x.scene.tree.now.filter;
  graph = x.scene.graph.now;
  tokens = x.tokens.now;
}

-- what is done at a point
unfoldable pub instruction : Parsed → Site → Instruction
instruction x s = instruction_at x.graph s.callback s.point

-- the line of a point's statement
unfoldable pub line : Parsed → Site → ℕ
line x s = line_at x.graph s.callback s.point

-- the name of a lock
unfoldable pub lock : Parsed → LockNumber → Text
lock x l = lock_name x.filter.locks l

-- the head of a callback
unfoldable pub head : Parsed → ℕ → Text
head x callback = head_of x.text x.filter callback
