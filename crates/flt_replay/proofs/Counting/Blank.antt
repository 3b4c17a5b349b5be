-- A ledger before all events.
use Rattle.std.proofs.Common.{◌≡◌, ℕ, List, [], Bool, ap, sym, refl, ◌∙◌, arith}
use Rattle.flt_tree.specs.declared.filter.Filter.{Filter}
use Rattle.flt_model.specs.declared.event.Object.{Object}
use Rattle.flt_model.specs.declared.event.Object.TheVariants.{Context, Visit}
use Rattle.flt_model.specs.Runs.{start}
use Rattle.flt_model.specs.Trace.{gains, loses, frees, settles}
use Rattle.flt_replay.proofs.Machine.Owners.{tidy_start}
use Rattle.flt_replay_records.specs.Counts.{count}
use Rattle.flt_replay.specs.Holdings.{times_held}
use Rattle.flt_replay.specs.Rows.{count_of}
use Rattle.flt_replay.specs.Ledger.{Tally, Tells, Agrees, held, running_with}

-- nothing is counted
pub record IsBlank (c : Tally) : Type 0 where
  pub contexts : (a n : ℕ) → times_held c.contexts a n ≡ 0
  pub visits : (a n : ℕ) → count_of c.visits a n ≡ 0
  pub freed : (n : ℕ) → count c.freed n ≡ 0
  pub settled : (n : ℕ) → count c.settled n ≡ 0
  pub running : c.running ≡ []
  pub holders : (n : ℕ) → count c.holders n ≡ 0

held_none : (c : Tally) → IsBlank c → (a : ℕ) (o : Object) → held c a o ≡ 0
held_none c k a (Context x) = k.contexts a x
held_none c k a (Visit v) = k.visits a v

tells_nothing : (c : Tally) → IsBlank c → Tells [] c
unfolding gains loses frees settles
tells_nothing c k = record {
  balance = λ a o. omega (arith, held_none c k a o);
  frees_are = λ x. sym (k.freed x);
  settles_are = λ v. sym (k.settled v);
}

none_running : (ons : List Bool) (f : ℕ → ℕ) → ons ≡ [] → running_with ons f 0 ≡ 0
unfolding running_with
none_running ons f e = ap (λ l. running_with l f 0) e

-- a ledger that counts nothing agrees with the moment at which all begins
pub agrees_blank : (c : Tally) (p : List Filter) → IsBlank c → Agrees (start p) c
agrees_blank c p k = record {
  tells = tells_nothing c k;
  counted = record { by_visit = λ v. k.holders v ∙ sym (none_running c.running (λ a. count_of c.visits a v) k.running) };
  running_is = k.running;
  owned = refl;
  paired = (tidy_start p).paired;
  strangers = (tidy_start p).strangers;
}
