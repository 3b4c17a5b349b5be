use Rattle.flt_joined.proofs.Bounds.{flaw_below}
use Rattle.flt_joined.proofs.Grouping.{made_of}
use Rattle.flt_joined.proofs.making.text_of.Goals as goal

pub returns-in_ok-codes-in-len2-up : goal.returns-in_ok-codes-in-len2-up
returns-in_ok-codes-in-len2-up c =
    made_of c.args.files.now c.annotations_of.result c.requires.group c.in-len2-up.len_at_least
    (rw (c.as_slice.ensures.value, c.in_ok-codes-in-len2-up.ensures) at c.annotations_of.ensures)
