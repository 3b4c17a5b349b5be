use Rattle.std.proofs.Common.{◌≡◌, ◌++◌, ◌-◌, length}
use Rattle.flt_stack_threads.specs.Waiting.{put_own, tickets}
use Rattle.flt_stack_threads.specs.Places.{other_deques, own_deque}
use Rattle.flt_stack_threads.proofs.waiting.Waiting.push_named.Given as goal

abbrev pub invariant-loop-self : goal.invariant-loop-self
invariant-loop-self l = record {
  pushed : put_own l.place ++ tickets l.self ≡ put_own l.initial.place ++ tickets l.initial.self;
  pass : l.place.tickets.pass ≡ l.initial.place.tickets.pass;
  deques : (own_deque l.place ≡ own_deque l.initial.place) × (other_deques l.place ≡ other_deques l.initial.place);
  requests : l.place.requests ≡ l.initial.place.requests;
}

abbrev pub decreases-loop-self : goal.decreases-loop-self
decreases-loop-self l = length l.self.named.items - l.self.pushed
