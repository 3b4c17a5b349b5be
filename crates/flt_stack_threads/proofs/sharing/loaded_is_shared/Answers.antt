use Rattle.flt_stack_threads.proofs.sharing.loaded_is_shared.Goals as goal

pub returns : goal.returns
returns c = record { shared = c.shared-3.ensures.shared }
