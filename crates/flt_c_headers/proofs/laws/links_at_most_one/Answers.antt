use Rattle.flt_c_headers.proofs.OneReading.{links_once, never_both, refuses_once}
use Rattle.flt_c_headers.proofs.laws.links_at_most_one.Goals as goal

pub returns-clause-linked : goal.returns-clause-linked
returns-clause-linked g c = λ inputs one. links_once (g.I.HeaderFiles.gives inputs) one

pub returns-clause-refusal : goal.returns-clause-refusal
returns-clause-refusal g c = λ inputs one. refuses_once (g.I.HeaderFiles.gives inputs) one

pub returns-clause-either : goal.returns-clause-either
returns-clause-either g c = λ inputs one. never_both (g.I.HeaderFiles.gives inputs) one
