use Rattle.flt_c_functions.proofs.OneListing.{never_both, one_listing, one_refusal}
use Rattle.flt_c_functions.proofs.laws.lists_at_most_one.Goals as goal

pub returns-clause-listing : goal.returns-clause-listing
returns-clause-listing g c inputs one =
    one_listing (g.I.HeaderFiles.gives inputs) (c.links_at_most_one.ensures.linked inputs one) (c.links_at_most_one.ensures.refusal inputs one)
    (c.links_at_most_one.ensures.either inputs one)

pub returns-clause-refusal : goal.returns-clause-refusal
returns-clause-refusal g c inputs one =
    one_refusal (g.I.HeaderFiles.gives inputs) (c.links_at_most_one.ensures.linked inputs one) (c.links_at_most_one.ensures.refusal inputs one)
    (c.links_at_most_one.ensures.either inputs one)

pub returns-clause-either : goal.returns-clause-either
returns-clause-either g c inputs one =
    never_both (g.I.HeaderFiles.gives inputs) (c.links_at_most_one.ensures.linked inputs one) (c.links_at_most_one.ensures.refusal inputs one)
    (c.links_at_most_one.ensures.either inputs one)
