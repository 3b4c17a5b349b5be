-- A plan of a call that names its routine by number is a plan of the call in the text.
use Rattle.std.proofs.Common.{◌≡◌, ℕ, Bool, List, [], refl, sym, ap, subst, ◌∙◌}
use Rattle.flt_tree.specs.Registered.{numbered}
use Rattle.flt_tree.specs.declared.filter.FallibleCall.{FallibleCall}
use Rattle.flt_tree.specs.declared.filter.FallibleCall.TheVariants as fallible
use Rattle.flt_tree.specs.declared.filter.Filter.{Filter}
use Rattle.flt_tree.specs.declared.filter.PlainCall.{PlainCall}
use Rattle.flt_tree.specs.declared.filter.Routine.{Routine}
use Rattle.flt_tree.specs.declared.filter.Statement.{Statement}
use Rattle.flt_graph.specs.declared.instruction.ResolvedCall.{ResolvedCall}
use Rattle.flt_graph.specs.declared.instruction.ResolvedCall.TheVariants as resolved
use Rattle.flt_model.specs.Program.{callbacks_at}
use Rattle.flt_model.specs.Steps.{numbered_step, fallible_step}
use Rattle.flt_model.specs.World.{World, Store}
use Rattle.flt_model.specs.declared.event.Event.{Event}
use Rattle.flt_machine_calls.specs.Plans.{IsPlanned, Plans, choice_of, world_of}
use Rattle.flt_machine_calls.specs.declared.caller.Caller.{Caller}
use Rattle.flt_machine_calls.specs.declared.plans.Plan.{Plan}

-- ---- calls of either kind

abbrev plain_in : PlainCall → ResolvedCall → PlainCall
plain_in d (resolved.Plain x) = x
plain_in d (resolved.Fallible x) = d

abbrev fallible_in : FallibleCall ℕ → ResolvedCall → FallibleCall ℕ
fallible_in d (resolved.Plain x) = d
fallible_in d (resolved.Fallible x) = x

-- a plain call is one call alone
pub same_plain : (x y : PlainCall) → resolved.Plain x ≡ resolved.Plain y → x ≡ y
same_plain x y e = ap (λ (r : ResolvedCall). plain_in x r) e

-- the same of one that can fail
pub same_fallible : (x y : FallibleCall ℕ) → resolved.Fallible x ≡ resolved.Fallible y → x ≡ y
same_fallible x y e = ap (λ (r : ResolvedCall). fallible_in x r) e

-- no call is of both kinds
pub apart : (x : PlainCall) (y : FallibleCall ℕ) → resolved.Plain x ≡ resolved.Fallible y → ⊥
apart x y e = cc

-- ---- the step

-- a call that leaves no choice makes the same step by either
choice_is : (p : List Filter) (t : List Event) (w : World) (a : ℕ) (grant : Bool) (granted refused : List Statement)
    (call : FallibleCall Routine) →
    fallible_step p t w a (choice_of call grant) granted refused call ≡ fallible_step p t w a grant granted refused call
choice_is p t w a grant granted refused (fallible.AllocateContext d) = refl
choice_is p t w a grant granted refused (fallible.GetContext on d) = refl
choice_is p t w a grant granted refused (fallible.SetContext on existing c old) = refl
choice_is p t w a grant granted refused (fallible.DeleteContextOf on old) = refl
choice_is p t w a grant granted refused (fallible.InsertIo c) = refl
choice_is p t w a grant granted refused (fallible.RemoveNextIo o d) = refl
choice_is p t w a grant granted refused (fallible.QueueDeferredIoWorkItem r c) = refl
choice_is p t w a grant granted refused (fallible.QueueGenericWorkItem r c) = refl

-- a plan of a call by number is a plan of the call
pub numbered_planned : (p : List Filter) (t : List Event) (s : Store) (c : Caller) (plan : Plan) (x : FallibleCall ℕ)
    (call : FallibleCall Routine) (grant : Bool) → x ≡ numbered (callbacks_at p c.filter) call →
    Plans s c plan (λ (w : World) (granted refused : List Statement). numbered_step w c.activation grant granted refused x) →
    Plans s c plan (λ (w : World) (granted refused : List Statement). fallible_step p t w c.activation
    (choice_of call grant) granted refused call)
numbered_planned p t s c plan x call grant is planned = λ actors acts granted refused h.
    let w = world_of s actors acts in
    subst (IsPlanned w c.activation plan [] granted refused)
    (ap (λ (y : FallibleCall ℕ). numbered_step w c.activation grant granted refused y) is
    ∙ ap (λ (f : ℕ). numbered_step w c.activation grant granted refused (numbered (callbacks_at p f) call)) (sym h.filter)
    ∙ sym (choice_is p t w c.activation grant granted refused call))
    (planned actors acts granted refused h)
