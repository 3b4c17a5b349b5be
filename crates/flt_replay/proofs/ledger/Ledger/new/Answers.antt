use Rattle.flt_replay.proofs.Counting.Blank.{agrees_blank}
use Rattle.flt_replay.specs.contracts.ledger.Ledger.{the_view}
use Rattle.flt_replay.proofs.ledger.Ledger.new.Goals as goal

pub returns : goal.returns
returns c = λ p.
    agrees_blank
    (the_view (record {
      contexts = c.new.result;
      visits = c.new-2.result;
      freed = c.new-3.result;
      settled = c.new-4.result;
      running = c.new-5.result;
      holders = c.new-6.result;
    })) p
    (record {
      contexts = c.new.ensures;
      visits = c.new-2.ensures;
      freed = c.new-3.ensures.no_count;
      settled = c.new-4.ensures.no_count;
      running = c.new-5.ensures.items;
      holders = c.new-6.ensures.no_count;
    })
