-- What a step comes to, by its first statement. Most steps don't read the trace, and some don't read the filters.
use Rattle.std.proofs.Common.{◌≡◌, ℕ, Bool, true, List, Result, Ok, Err, IfOk, OnOk, refl}
use Rattle.flt_tree.specs.declared.filter.Action.{Action}
use Rattle.flt_tree.specs.declared.filter.Condition.{Condition}
use Rattle.flt_tree.specs.declared.filter.Condition.TheVariants as condition
use Rattle.flt_tree.specs.declared.filter.Filter.{Filter}
use Rattle.flt_tree.specs.declared.filter.PlainCall.{PlainCall}
use Rattle.flt_tree.specs.declared.filter.Span.{Span}
use Rattle.flt_tree.specs.declared.filter.Statement.{Statement, out-Statement}
use Rattle.flt_tree.specs.declared.filter.Statement.TheVariants as tree
use Rattle.flt_tree.specs.declared.filter.Statement.TheViews.{outs-Act, outs-Call}
use Rattle.flt_tree.specs.declared.filter.Test.{Test}
use Rattle.flt_model.specs.declared.event.Event.{Event}
use Rattle.flt_model.specs.Steps.{act_step, plain_step, test_step, if_step, statement_step}
use Rattle.flt_model.specs.World.{World}
use Rattle.flt_replay_world.specs.Happening.{ComesOf, Happened, holds_given}

-- what holds of a result holds for each trace, where the trace isn't read
pub whatever_trace : {T E : Type 0} (P : Type 0) (r : Result T E) → OnOk r P → OnOk r ((t : List Event) → P)
whatever_trace P (Ok v) h = λ t. h
whatever_trace P (Err e) h = h

module _ (p : List Filter) (w x : World) (a : ℕ) (grant : Bool) (earlier events : List Event) where
  -- what comes of a plain call's step comes of its statement
  pub called : (t : List Event) (rest : List Statement) (s : Statement) (span : Span) (call : PlainCall) → s ≡ tree.Call span call →
      Happened x earlier events (plain_step p t w a rest call) →
      ComesOf (statement_step p t w a rest grant (out-Statement s)) true x earlier events
  called t rest s span call is h = rw (is, outs-Call span call) (refl, h)

module _ {E : Type 0} (p : List Filter) (w x : World) (a : ℕ) (grant : Bool) (earlier events : List Event) where
  -- what comes of a test's step comes of an `if` that asks for it
  pub tested : (r : Result Bool E) (granted refused : List Statement) (k : Condition) (test : Test) → k ≡ condition.Test test →
      IfOk r (λ seen. (q : List Filter) → (t : List Event) → ComesOf (test_step q t w a granted refused test) seen x earlier events) →
      IfOk r (λ seen. (t : List Event) → ComesOf (if_step p t w a grant granted refused k) seen x earlier events)
  tested (Ok seen) granted refused k test is h = λ t. rw is (h p t)
  tested (Err e) granted refused k test is h = h

  -- what comes of an action's step comes of its statement
  pub acted : (r : Result Bool E) (held : Bool) (rest : List Statement) (s : Statement) (span : Span) (action : Action) →
      s ≡ tree.Act span action →
      IfOk r (λ seen. (q : List Filter) → (t : List Event) → ComesOf (act_step q t w a rest action) seen x earlier events) →
      IfOk r (λ seen. (t : List Event) → held ≡ holds_given t w a →
      ComesOf (statement_step p t w a rest grant (out-Statement s)) seen x earlier events)
  acted (Ok seen) held rest s span action is h = λ t same. rw (is, outs-Act span action) (h p t)
  acted (Err e) held rest s span action is h = h
