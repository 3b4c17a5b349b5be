use Rattle.std.proofs.Common.{◌≡◌, ◌++◌, ◌/◌, ◌^◌, string_bytes}
use Rattle.flt_explain_timeline.specs.Text.{bars}
use Rattle.flt_explain_timeline.proofs.text.put_bars.Given as goal

-- the signs so far are written, and the bits of those columns are gone
abbrev pub invariant-loop-column : goal.invariant-loop-column
invariant-loop-column l = record {
  written : string_bytes l.out ≡ string_bytes l.initial.out ++ bars l.fn.alive l._column;
  left : l.left ≡ l.fn.alive / 2 ^ l._column;
}
