-- One of the others counts once more.
use Rattle.std.proofs.Common.{◌≢◌, ℕ, get_or, subst, sym}
use Rattle.flt_replay.specs.Rows.{Counted, blank}
use Rattle.flt_replay.specs.declared.ledger.rows.First.{First}
use Rattle.flt_replay.proofs.Counting.Rows.{apart_others}
use Rattle.flt_replay.proofs.ledger.rows.Rows.add.Goals as goal

pub invariant_of-self : goal.invariant_of-self
invariant_of-self c =
    let k : ℕ = c.args.number in
    let a : ℕ = c.args.activation in
    let other : k ≢ (get_or c.self.inside.firsts.items a blank).number =
    subst (λ (r : Counted). k ≢ (get_or r.firsts a blank).number) (sym c.self.view_is)
    (subst (λ (f : First). k ≢ f.number) c.first-first.ensures.first c.if-number-first.false) in
    apart_others c.self.inside.firsts.items c.self.inside.others c.add.new.self c.self.invariant a k other c.add.ensures.rest
