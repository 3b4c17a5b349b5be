use Rattle.flt_stack_core.proofs.Following.{own_following, teardown_following}
use Rattle.flt_stack_core.proofs.one.asked_by.Goals as goal

pub returns-in-Operation-clause-following : goal.returns-in-Operation-clause-following
returns-in-Operation-clause-following c =
    let own = c.requires.own in
    own_following own.filters own.board.moment.world c.in-Operation.serial c.next_move.result
    (c.next_move.ensures.next own.filters own.loaded own.board.moment own.board.at)

pub returns-in-Detach-clause-following : goal.returns-in-Detach-clause-following
returns-in-Detach-clause-following c =
    let own = c.requires.own in
    teardown_following own.filters own.board.moment.world c.in-Detach.altitude c.next_detach.result
    (c.next_detach.ensures.next own.filters own.loaded own.board.moment own.board.at)
