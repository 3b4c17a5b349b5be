use Rattle.flt_commands.proofs.OneListing.{lists_once}
use Rattle.flt_commands.proofs.single.one_listing_at_most.Goals as goal

pub returns : goal.returns
returns g c =
    λ inputs one.
    let lists = c.lists_at_most_one.ensures in
    lists_once (g.I.Inputs.gives inputs) (lists.listing (record { inputs = record { ref_ptr = (0, 0); now = inputs } }) one)
    (lists.refusal (record { inputs = record { ref_ptr = (0, 0); now = inputs } }) one)
    (lists.either (record { inputs = record { ref_ptr = (0, 0); now = inputs } }) one)
