use Rattle.std.proofs.Common.{◌++◌, List, ap, sym, ◌∙◌}
use Rattle.flt_rules.specs.declared.held.HeldLock.{HeldLock}
use Rattle.flt_machine_frames.proofs.Parts.{first_goes}
use Rattle.flt_machine_frames.proofs.held_locks.+keep.Goals as goal
use Rattle.flt_machine_frames.specs.HeldLocks.{no_lock}

pub returns-then-is_last : goal.returns-then-is_last
returns-then-is_last t c =
    c.keep.ensures ∙
    ap (λ (hs : List HeldLock). c.args.kept.now ++ hs)
    (first_goes c.args.lock c.args.locks.now no_lock c.in-len1-up.len_at_least (sym c.is_last.ensures ∙ c.if-is_last.true))
