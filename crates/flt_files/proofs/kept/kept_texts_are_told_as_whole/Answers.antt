use Rattle.flt_files.proofs.Lengths.{fails_as_whole, spelled_as_whole}
use Rattle.flt_files.proofs.kept.kept_texts_are_told_as_whole.Goals as goal

pub returns-clause-spelled : goal.returns-clause-spelled
returns-clause-spelled c =
    let fails = c.fails_exactly_where_nothing_is_spelled.ensures in
    spelled_as_whole fails.nowhere fails.once

pub returns-clause-failing : goal.returns-clause-failing
returns-clause-failing c =
    let fails = c.fails_exactly_where_nothing_is_spelled.ensures in
    fails_as_whole fails.nowhere fails.once
