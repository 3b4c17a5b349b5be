use denote.Param.Send.{IsSend, IsSync, sendable}
use denote.Param.SendFields.{declared_send, declared_sync}
use Rattle.std.proofs.Crossing.{crosses}
use Rattle.flt_stack_threads.specs.contracts.stack.Stack as stack
use Rattle.flt_stack_threads.specs.contracts.stack.Spare as spare
use Rattle.flt_stack_tests.proofs.crowds.crowd.Goals as goal

pub shared-requires-3-sync-T : goal.shared-requires-3-sync-T
shared-requires-3-sync-T g c κs within =
    let l = c.loaded_is_shared.ensures in
    let e = c.shared.ensures in
    let m = c.shared-2.ensures in
    let a = c.sent.ensures in
    let b = c.sent-2.ensures in
    let f = c.sent-3.ensures in
    let p : IsSend (spare.the_row g.row.N g.N.StackName g.N.Counts) =
    declared_send (spare.the_type g.row.N g.N.StackName g.N.Counts) (
      record { owned = a.owned; leaving = λ k x w. tt },
      (
        record { owned = b.owned; leaving = λ k x w. tt },
        (record { owned = f.owned; leaving = λ k x w. tt }, tt),
      ),
    ) in
    let s : IsSync (stack.the_row g.row.N g.N.StackName g.N.Counts) =
    declared_sync (stack.the_type g.row.N g.N.StackName g.N.Counts) (
      record { shared = l.shared },
      (
        record { shared = e.shared },
        (
          record { shared = m.shared },
          (search (crosses, p), tt),
        ),
      ),
    ) in
    record { shared = s.shared }
