use Rattle.std.proofs.Common.{◌≡◌, ◌+◌, ℕ, Bool, List, min, length, subst, sym}
use Rattle.flt_replay.proofs.Counting.Holders.{started}
use Rattle.flt_replay_records.specs.Counts.{count}
use Rattle.flt_replay.specs.Rows.{count_of}
use Rattle.flt_replay.specs.Ledger.{Tally, Started}
use Rattle.flt_replay.specs.contracts.ledger.Ledger.{the_view}
use Rattle.flt_replay.proofs.ledger.Ledger.begin.Goals as goal

pub returns : goal.returns
returns c =
    let old : Tally = the_view c.self.inside in
    let place : c.activations-number.result ≡ length old.running =
    subst (λ (was : Tally). c.activations-number.result ≡ length was.running) (sym c.self.view_is) c.activations-number.ensures in
    let more : (v : ℕ) → count c.add_to.new.holders v ≡ count old.holders v + min 1 (count_of old.visits (length old.running) v) =
    subst (λ (a : ℕ). (v : ℕ) → count c.add_to.new.holders v ≡ count old.holders v + min 1 (count_of old.visits a v)) place
    c.in_ok-add_to.ensures in
    let begun = subst (λ (ons : List Bool). Started old (record old { running = ons; holders = c.add_to.new.holders }))
    (sym c.in_ok-push.ensures.items)
    (started old c.add_to.new.holders more) in
    subst (λ (was : Tally). Started was (record old { running = c.push.new.self.items; holders = c.add_to.new.holders }))
    c.self.view_is begun
