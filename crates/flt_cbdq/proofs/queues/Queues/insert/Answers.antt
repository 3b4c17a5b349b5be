use Rattle.std.proofs.Common.{◌∙◌, ◌++◌, ℕ, [], ◌∷◌, ap, subst, get_or, set}
use Rattle.flt_cbdq.specs.Kept.{entries_of, IsAdded}
use Rattle.flt_cbdq.specs.Queues.{Queueing, queue_of, with_queue}
use Rattle.flt_cbdq.proofs.Noted.{added_kept, refused_kept, disabled_same}
use Rattle.flt_cbdq.proofs.queues.Queues.insert.Goals as goal
use Rattle.flt_cbdq.proofs.queues.Queues.insert.Goals.{in-Ok, in-Err}

pub invariant_of-self-2 : goal.invariant_of-self-2
invariant_of-self-2 c = elim c.match-add_entry.branch [
  | in-Ok w ↦
      added_kept _ _ _ c.self.invariant c.args.filter c.in-Some-get_mut.queue.now c.in-Some-get_mut.ensures.item.3.0
      c.in-Some-get_mut.ensures.value c.args.entry c.add_entry.new.entries.items c.add_entry.new.lists c.add_entry.new.nodes
      (subst (λ (l : ℕ). IsAdded l c.args.entry c.self.inside.lists c.self.inside.entries.items c.in-Some-get_mut.queue.now.nodes
      c.add_entry.new.lists c.add_entry.new.entries.items c.add_entry.new.nodes) c.in-Some.ensures.there.0 w.in-Ok.ensures.added)
  | in-Err w ↦
      refused_kept _ _ _ c.self.invariant c.args.filter c.in-Some-get_mut.queue.now c.in-Some-get_mut.ensures.item.3.0
      c.in-Some-get_mut.ensures.value c.add_entry.new.entries.items c.add_entry.new.lists c.add_entry.new.nodes
      w.in-Err.ensures.refused w.in-Err.ensures.same w.in-Err.ensures.unnoted
]

pub returns-clause-queued : goal.returns-clause-queued
returns-clause-queued c = elim c.match-add_entry.branch [
  | in-Ok w ↦ rw w.result-is
      ((λ i. record {
        queues = (w.in-Ok.ensures.seen ∙ ap
            (λ (l : ℕ). set (entries_of c.self.inside.entries.items c.self.inside.lists.lists) l
            (get_or (entries_of c.self.inside.entries.items c.self.inside.lists.lists) l [] ++ c.args.entry ∷ []))
            c.in-Some.ensures.there.0) i;
        disabled = disabled_same _ _ _ c.self.invariant c.args.filter c.in-Some-get_mut.queue.now
            c.in-Some-get_mut.ensures.item.3.0 c.in-Some-get_mut.ensures.value c.add_entry.new.nodes i;
      })
      ∙ ap (λ (q : Queueing). with_queue q c.args.filter (queue_of q c.args.filter ++ c.args.entry ∷ [])) c.self.view_is)
  | in-Err w ↦ rw w.result-is tt
]

pub returns-clause-refused : goal.returns-clause-refused
returns-clause-refused c = elim c.match-add_entry.branch [
  | in-Ok w ↦ rw w.result-is tt
  | in-Err w ↦ rw w.result-is
      ((λ i. record {
        queues = w.in-Err.ensures.unseen i;
        disabled = disabled_same _ _ _ c.self.invariant c.args.filter c.in-Some-get_mut.queue.now
            c.in-Some-get_mut.ensures.item.3.0 c.in-Some-get_mut.ensures.value c.add_entry.new.nodes i;
      })
      ∙ c.self.view_is)
]
