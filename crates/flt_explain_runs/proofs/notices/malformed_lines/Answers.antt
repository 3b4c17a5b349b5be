use Rattle.std.proofs.Common.{refl}
use Rattle.flt_explain_runs.proofs.notices.malformed_lines.Goals as goal

pub returns : goal.returns
returns c = record {
  marked = _;
  named = refl;
  line = refl;
  column = refl;
  shown = refl;
  many = refl;
  message = c.as_slice.ensures.value;
  meant = c.as_slice-2.ensures.value;
  help = c.as_str.ensures.value;
  whole = c.in_ok-lines.ensures;
}
