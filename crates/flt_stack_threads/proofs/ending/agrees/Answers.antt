use Rattle.std.proofs.Common.{List, map, ap, ◌∙◌, subst}
use Rattle.std.specs.Prelude.{◌↔◌, IsPermutation, IsTrue}
use Rattle.flt_machine.specs.Situations.{Situation}
use Rattle.flt_model.specs.declared.moves.JournalEntry.{JournalEntry}
use Rattle.flt_stack_core.specs.Receipts.{receipts_in, together}
use Rattle.flt_stack_threads.proofs.ending.agrees.Goals as goal

pub returns : goal.returns
returns g c =
    subst (λ (es : List JournalEntry). IsTrue c.agree.result
    ↔ IsPermutation (receipts_in es) (together (map (λ seat. seat.receipts.list.items) c.args.callers.now)))
    (c.journal.ensures.entries ∙ ap (λ (b : Situation). b.entries) c.board.ensures.same) c.agree.ensures
