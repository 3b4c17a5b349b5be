-- What a text is laid out as, or why it isn't. This project's own program.
use Rattle.std.specs.Prelude.{◌≡◌, ◌≤◌, ◌<◌, length}
use Rattle.flt_rules.specs.Limits.{max_text}
use Rattle.flt_tree.specs.Names.{Text}
use Rattle.flt_tree.specs.declared.filter.Filter.{Filter}
use Rattle.flt_syntax.specs.Spelling.{Spells}
use Rattle.flt_syntax.specs.TextFails.{Fails}
use Rattle.flt_syntax.specs.declared.fault.ParseError.{ParseError}
use Rattle.flt_syntax.specs.declared.fault.ParseError.TheVariants as parse
use Rattle.flt_layout.specs.Layout.{laid_out}
use Rattle.flt_layout.specs.declared.formatted.FormatError.{FormatError}
use Rattle.flt_layout.specs.declared.formatted.FormatError.TheVariants.{Syntax, Long, OutOfMemory}

-- the text spells a filter, its layout is no longer than a text may be, and this is it
pub record IsFormatted (text out : Text) : Type 0 where
  pub filter : Filter
  pub spelled : Spells text filter
  pub short : length out ≤ max_text
  pub is : out ≡ laid_out text

-- the text spells a filter, and its layout is longer than a text may be
pub record IsTooLong (text : Text) : Type 0 where
  pub filter : Filter
  pub spelled : Spells text filter
  pub long : max_text < length (laid_out text)

-- the first fault of the text, or its layout is too long; memory may run out
abbrev pub IsUnformatted : Text → FormatError → Type 0
IsUnformatted text (Syntax f) = Fails text f
IsUnformatted text Long = IsTooLong text
IsUnformatted text OutOfMemory = Unit {0}

-- how a fault of a text is handed on
abbrev pub of_parse : ParseError → FormatError
of_parse (parse.Syntax f) = Syntax f
of_parse parse.OutOfMemory = OutOfMemory
