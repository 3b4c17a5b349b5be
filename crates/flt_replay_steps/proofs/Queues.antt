-- What a queue gives is what its front entry gives where that is out of it.
use Rattle.std.proofs.Common.{◌≡◌, ℕ, List, [], ◌∷◌, ◌++◌, Some, None, OnOk, Result, append_assoc}
use Rattle.std.proofs.lemmas.Result.{on_ok_weaker}
use Rattle.flt_rules.specs.declared.call.Call.TheVariants.{RemoveNextIo}
use Rattle.flt_tree.specs.declared.filter.Statement.{Statement}
use Rattle.flt_tree.specs.declared.variable.ContextVariable.{ContextVariable}
use Rattle.flt_tree.specs.declared.variable.RemovedVariable.{RemovedVariable}
use Rattle.flt_model.specs.declared.event.Event.{Event}
use Rattle.flt_model.specs.declared.event.Event.TheVariants.{Call, Gain}
use Rattle.flt_model.specs.declared.event.Object.TheVariants.{Visit}
use Rattle.flt_model.specs.Effects.{gains_context}
use Rattle.flt_model.specs.Calls.{remove_next}
use Rattle.flt_model.specs.declared.parts.Entry.{Entry}
use Rattle.flt_model.specs.World.{World, actor_at, queue_at, with_queue}
use Rattle.flt_replay_steps.specs.Queueing.{gives_entry}
use Rattle.flt_replay_world.specs.Happening.{later, Happened}

-- of a world, the one where the entry is out, and the one after the step; and of the events before the call, with it, and in all
module _ {T E : Type 0} (r : Result T E) (w v x : World) (a f : ℕ) (o : RemovedVariable) (d : ContextVariable)
    (granted refused : List Statement) (t middle events : List Event) where
  -- an empty queue gives nothing
  pub nothing_removed : f ≡ (actor_at w a).filter → queue_at w.store f ≡ [] → v ≡ w → middle ≡ t ++ Call a RemoveNextIo ∷ [] →
      OnOk r (Happened x middle events (gives_entry v a o d (refused ++ later v a) None)) →
      OnOk r (Happened x t events (remove_next w a o d (granted ++ later w a) (refused ++ later w a)))
  nothing_removed same none kept pushed happened =
      rw (rw same at none) (on_ok_weaker r (λ h. (h.0, cc (h.1, append_assoc t (Call a RemoveNextIo ∷ []) [])))
      (rw (kept, pushed) at happened))

  -- a queue gives its front entry
  pub entry_removed : (e : Entry) (left : List Entry) → f ≡ (actor_at w a).filter → queue_at w.store f ≡ e ∷ left →
      v ≡ record w { store = with_queue w.store f left } → middle ≡ t ++ Call a RemoveNextIo ∷ [] →
      OnOk r (Happened x middle events (gives_entry v a o d (granted ++ later v a) (Some e))) →
      OnOk r (Happened x t events (remove_next w a o d (granted ++ later w a) (refused ++ later w a)))
  entry_removed e left same front kept pushed happened =
      rw (rw same at front)
      (on_ok_weaker r (λ h. (h.0, cc (h.1, append_assoc t (Call a RemoveNextIo ∷ []) (Gain a (Visit e.visit) ∷ gains_context a e.context))))
      (rw (kept, pushed, same) at happened))
