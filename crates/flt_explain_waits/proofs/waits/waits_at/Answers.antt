use Rattle.std.proofs.Common.{◌∙◌, ap, rules}
use Rattle.flt_explain_waits.specs.Waiting.{wait_of}
use Rattle.flt_explain_waits.proofs.Listing.{listed_none, listed_some, waits_too}
use Rattle.flt_explain_waits.proofs.waits.waits_at.Goals as goal
use Rattle.flt_explain_waits.proofs.waits.waits_at.Goals.{in-Some+in_ok-push-in-Some, in-None}

pub loop-a-preserved : goal.loop-a-preserved
loop-a-preserved c =
    let same = c.loop-a.invariant.0 in
    let found = c.in_ok-wait.ensures.1 ∙ ap (λ v. wait_of v c.loop-a.a) same in
    elim c.match-branch-2.branch [
      | in-Some+in_ok-push-in-Some w ↦ (
        c.in_ok-wait.ensures.0 ∙ same,
        rw w.waits-is
            (waits_too c.args.world.now c.loop-a.a c.loop-a.waits.items _ c.loop-a.invariant.1
            (listed_some _ _ w.in-Some.wait c.loop-a.waits.items _ found w.in-Some.is (search rules))),
      )
      | in-None w ↦ (
        c.in_ok-wait.ensures.0 ∙ same,
        rw w.waits-is
            (waits_too c.args.world.now c.loop-a.a c.loop-a.waits.items _ c.loop-a.invariant.1
            (listed_none _ _ c.loop-a.waits.items found w.in-None.is)),
      )
    ]
