use Rattle.std.proofs.Common.{◌≡◌, sym, ◌∙◌, Some, None}
use Rattle.std.specs.List.{position}
use Rattle.flt_rules.specs.Held as held_spec
use Rattle.flt_rules.specs.declared.held.HeldLock.{HeldLock}
use Rattle.flt_abs.proofs.LockLemmas.{are_locks_without, without_found, without_none}
use Rattle.flt_abs.proofs.locks.LockList.release.Goals as goal

pub invariant_of-self : goal.invariant_of-self
invariant_of-self c =
    let locks = c.self.inside.locks.items in
    let found : position (λ (h : HeldLock). held_spec.same_lock c.args.lock h.lock) locks ≡ Some c.in-Some.place = cc in
    let left : c.remove.new.self.items ≡ held_spec.without_last c.args.lock locks =
    c.remove.ensures.items ∙ without_found c.args.lock locks c.in-Some.place c.self.invariant.1 found in
    (c.remove.ensures.capacity ∙ c.self.invariant.0, rw left (are_locks_without c.args.lock locks c.self.invariant.1))

pub returns-in_default : goal.returns-in_default
returns-in_default c =
    let locks = c.self.inside.locks.items in
    let none : position (λ (h : HeldLock). held_spec.same_lock c.args.lock h.lock) locks ≡ None = cc in
    rw (← c.self.view_is) (sym (without_none c.args.lock locks none))
