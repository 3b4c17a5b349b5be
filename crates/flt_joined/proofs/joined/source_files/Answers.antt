use Rattle.std.proofs.Common.{◌∙◌}
use Rattle.flt_joined.proofs.Named.{one_more_named}
use Rattle.flt_joined.proofs.joined.source_files.Goals as goal

pub loop-number-preserved : goal.loop-number-preserved
loop-number-preserved c = λ told same.
    one_more_named told c.args.files.now _ c.loop-number.number c.index-files-number.result c.loop-number.all.items _ c.in_ok-own.own same
    c.loop-number-test.true c.index-files-number.is (λ named. c.in_ok-own.ensures told (c.name_of.ensures ∙ named))
    (c.loop-number.invariant told same) c.in_ok-push.ensures.items
