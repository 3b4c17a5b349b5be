-- The subjects so far stand at the end, and the others have room.
use Rattle.std.proofs.Common.{◌≡◌, ◌+◌, ◌++◌, take}
use Rattle.std.specs.VecDeque.{deque_len, deque_capacity}
use Rattle.flt_stack_core.proofs.one.push_all.Given as goal

abbrev pub invariant-loop-subject : goal.invariant-loop-subject
invariant-loop-subject l = record {
  items : l.subjects.items ≡ l.fn.subjects.items ++ take l.subject-index l.next;
  len : deque_len l.subjects ≡ deque_len l.fn.subjects + l.subject-index;
  capacity : deque_capacity l.subjects ≡ deque_capacity l.fn.subjects;
}
