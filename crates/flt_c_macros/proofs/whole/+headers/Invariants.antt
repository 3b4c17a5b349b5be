use Rattle.std.proofs.Common.{◌≡◌, ◌≤◌, ◌+◌, ◌*◌, [], drop}
use Rattle.std.specs.Prelude.{None, slice_range}
use Rattle.flt_c_macros.specs.States.{Stay}
use Rattle.flt_c_macros.specs.Whole.{entered, read}
use Rattle.flt_c_macros.proofs.whole.+headers.Given as goal

abbrev pub decreases-enter : goal.decreases-enter
decreases-enter l = 5 * l.depth

abbrev pub decreases-read_line : goal.decreases-read_line
decreases-read_line l = 5 * l.depth + 1

abbrev pub decreases-read_part : goal.decreases-read_part
decreases-read_part l = 5 * l.depth + 2

abbrev pub decreases-pass : goal.decreases-pass
decreases-pass l = 5 * l.depth + 3

abbrev pub decreases-read : goal.decreases-read
decreases-read l = 5 * l.depth + 4

abbrev pub invariant-read-loop-i : goal.invariant-read-loop-i
invariant-read-loop-i l =
    record {
      same : read l.kept (entered l.kept l.headers l.depth) None [] l.tokens (l.fn.spellings, l.fn.state)
          ≡ read l.kept (entered l.kept l.headers l.depth) l.part.at (slice_range l.tokens l.part.start l.i) (drop l.i l.tokens)
          (l.spellings, l.state);
      within : l.part.start ≤ l.i;
      stay : Stay l.fn.spellings l.spellings;
    }
