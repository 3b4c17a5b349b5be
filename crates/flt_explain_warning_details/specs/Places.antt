-- Where warnings are in a text. This project's own program.
use Rattle.std.specs.Prelude.{ℕ, ◌+◌, ◌*◌, List, Option, Some, None, slice_get}
use Rattle.flt_rules.specs.Call.{place_of}
use Rattle.flt_rules.specs.declared.call.LockNumber.{LockNumber}
use Rattle.flt_tree.specs.declared.filter.Callback.{Callback}
use Rattle.flt_tree.specs.declared.filter.Span.{Span}
use Rattle.flt_syntax.specs.declared.token.Token.{Token}
use Rattle.flt_graph.specs.Graph.{span_at}
use Rattle.flt_explain.specs.declared.finding.Subject.{Subject}
use Rattle.flt_places.specs.Places.{region_of}
use Rattle.flt_places.specs.declared.places.Region.{Region}
use Rattle.flt_explain_texts.specs.Operands.{operand_at}
use Rattle.flt_explain_texts.specs.declared.operands.Marks.{Marks}
use Rattle.flt_explain_warnings.specs.declared.warning.Site.{Site}
use Rattle.flt_explain_warning_details.specs.Parsed.{Parsed}

-- what isn't in the text
abbrev pub nowhere : Span
nowhere = record { line = 0; start = 0; end = 0 }

-- where the statement of a point is, and in it what is named
abbrev pub marks_at : Parsed → Site → Subject → Marks
marks_at x s u = record {
  statement = region_of x.text (span_at x.graph s.callback s.point);
  operand = operand_at x.text x.filter x.graph s.callback s.point u;
}

-- a place that names nothing
abbrev pub bare : Region → Marks
bare r = record { statement = r; operand = None }

-- the bytes of the head of a callback
abbrev pub head_span : Option Callback → Span
head_span (Some c) = c.span
head_span None = nowhere

-- where the head of a callback is
abbrev pub marks_of_head : Parsed → ℕ → Marks
marks_of_head x callback = bare (region_of x.text (head_span (slice_get x.filter.callbacks callback)))

-- ---- locks

-- the bytes of a token
abbrev pub span_of : Option Token → Span
span_of (Some t) = record { line = t.position.line; start = t.start; end = t.end }
span_of None = nowhere

-- the word `lock` of the declaration of a lock: `filter NAME altitude NUMBER` is before the first one, and each has three tokens
abbrev pub declared : List Token → LockNumber → Span
declared ts l = span_of (slice_get ts (4 + 3 * place_of l))

-- the name in the declaration of a lock
abbrev pub named : List Token → LockNumber → Span
named ts l = span_of (slice_get ts (6 + 3 * place_of l))

-- the bytes from the first of a span up to the end of another
abbrev pub whole : Span → Span → Span
whole from to = record { line = from.line; start = from.start; end = to.end }

-- where a lock is declared, and in that its name
abbrev pub marks_of_lock : Parsed → LockNumber → Marks
marks_of_lock x l = record {
  statement = region_of x.text (whole (declared x.tokens l) (named x.tokens l));
  operand = Some (region_of x.text (named x.tokens l));
}
