use Rattle.std.proofs.Common.{true, false, sym, ◌∙◌}
use Rattle.flt_syntax.proofs.Numbers.{place_is}
use Rattle.flt_syntax.proofs.naming.lock_place.Goals as goal

pub returns-then-same_lock_kind : goal.returns-then-same_lock_kind
returns-then-same_lock_kind c =
    place_is c.args.kind c.args.name.now c.args.scope.now.names.now c.args.scope.now.locks.now c.in_ok-place.place
    c.in_ok-lock.lock.now true
    c.args.scope.now.named c.number.ensures.once c.in_ok-place.ensures.number c.in_ok-lock.ensures.lookup.3.0
    c.in_ok-lock.ensures.lookup.1 (sym c.if-same_lock_kind.true ∙ c.same_lock_kind.ensures)

pub returns-else-same_lock_kind : goal.returns-else-same_lock_kind
returns-else-same_lock_kind c =
    place_is c.args.kind c.args.name.now c.args.scope.now.names.now c.args.scope.now.locks.now c.in_ok-place.place
    c.in_ok-lock.lock.now false
    c.args.scope.now.named c.number.ensures.once c.in_ok-place.ensures.number c.in_ok-lock.ensures.lookup.3.0
    c.in_ok-lock.ensures.lookup.1 (sym c.if-same_lock_kind.false ∙ c.same_lock_kind.ensures)
