use Rattle.std.proofs.Common.{List, map, ap, sym, ◌∙◌, subst}
use Rattle.std.specs.Prelude.{◌↔◌, IsPermutation, IsTrue}
use Rattle.flt_stack_core.specs.Guarded.{Guarded}
use Rattle.flt_model.specs.declared.moves.JournalEntry.{JournalEntry}
use Rattle.flt_stack_core.specs.Receipts.{receipts_in, together}
use Rattle.flt_stack_threads.specs.declared.seats.CallerSeat.{CallerSeat}
use Rattle.flt_stack_threads.proofs.stack.Stack.end.Goals as goal

pub returns-clause-agree : goal.returns-clause-agree
returns-clause-agree g c =
    subst (λ (es : List JournalEntry). IsTrue c.agrees-same.result
    ↔ IsPermutation (receipts_in es) (together (map (λ seat. seat.receipts.list.items) c.args.callers.items)))
    (ap (λ (v : Guarded). v.board.entries) (sym c.audit.ensures.same) ∙ sym c.into_journal.ensures)
    (subst (λ (seats : List (CallerSeat g.row.N.Denot g.N.StackName)). IsTrue c.agrees-same.result
    ↔ IsPermutation (receipts_in c.into_inner-core.result.board.entries) (together (map (λ seat. seat.receipts.list.items) seats)))
    c.as_slice.ensures.value c.agrees-same.ensures)
