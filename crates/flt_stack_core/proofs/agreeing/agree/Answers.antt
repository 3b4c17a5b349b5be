use Rattle.std.proofs.Common.{List, map, subst}
use Rattle.flt_model.specs.declared.moves.JournalEntry.{JournalEntry}
use Rattle.std.specs.Prelude.{◌↔◌, IsPermutation, false, true, refl, ◌≡◌}
use Rattle.flt_stack_core.specs.Receipts.{receipts_in, together}
use Rattle.flt_stack_core.proofs.Agreement.{held_each_once, held_not_each}
use Rattle.flt_stack_core.proofs.agreeing.agree.Goals as goal

pub returns-in-Some : goal.returns-in-Some
returns-in-Some g c =
    let held = together (map g.S.HoldsReceipts.held c.args.seats.now) in
    subst (λ (es : List JournalEntry). (c.are_so_many.result ≡ true) ↔ IsPermutation (receipts_in es) held) c.entries.ensures
    (held_each_once c.entries.result.now held c.in-Some.count c.are_so_many.result c.in-Some.ensures.count c.in-Some.ensures.held
    c.are_so_many.ensures)

pub returns-in-None : goal.returns-in-None
returns-in-None g c =
    let held = together (map g.S.HoldsReceipts.held c.args.seats.now) in
    subst (λ (es : List JournalEntry). (false ≡ true) ↔ IsPermutation (receipts_in es) held) c.entries.ensures
    (held_not_each c.entries.result.now held (c.in-None.ensures.none refl))
