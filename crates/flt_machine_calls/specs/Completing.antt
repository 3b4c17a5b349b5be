-- Calls that complete an operation, by what is read of the activation.
use Rattle.std.specs.Prelude.{◌≡◌, ℕ, if◌then◌else◌, List, [], ◌∷◌, ◌++◌, Option, Some, None}
use Rattle.flt_tree.specs.declared.filter.Filter.{Filter}
use Rattle.flt_tree.specs.declared.filter.Statement.{Statement}
use Rattle.flt_model.specs.declared.event.Answer.{Answer}
use Rattle.flt_model.specs.declared.event.Event.{Event}
use Rattle.flt_model.specs.declared.event.Event.TheVariants as event
use Rattle.flt_model.specs.declared.event.Object.{Object}
use Rattle.flt_model.specs.declared.event.Object.TheVariants.{Visit}
use Rattle.flt_model.specs.Effects.{Step, operation, optional, uses, empties, loses_context, calling, goes_on, onward, unchanged}
use Rattle.flt_model.specs.Settling.{way_of, makes_frame, settled_by}
use Rattle.flt_model.specs.World.{World, Store}
use Rattle.flt_model.specs.declared.effects.CallOperands.{CallOperands}
use Rattle.flt_machine_calls.specs.declared.settling.Completion.{Completion}
use Rattle.flt_machine_calls.specs.declared.settling.Settlement.{Settlement}

-- the visit is given back and settled; a frame takes the context over
abbrev pub settled_told : Store → ℕ → Settlement → List Event
settled_told s a e =
    event.Lose a (Visit e.visit)
    ∷ (if makes_frame s e.visit e.way then loses_context a e.context else [])
    ++ event.Settle e.visit ∷ []

-- the status is given to an operation that is there
abbrev pub answer_told : ℕ → Option Answer → List Event
answer_told a None = []
answer_told a (Some answer) = event.Status a answer ∷ []

-- what a call that completes an operation needs
abbrev pub needs_of_completion : Completion → List (Option Object)
needs_of_completion c = operation c.named.visit ∷ optional c.named.context

-- the events of the call before its effect
abbrev pub completion_told : ℕ → Completion → List Event
completion_told a c =
    event.Call a c.call
    ∷ (answer_told a c.answer ++ (uses a (needs_of_completion c) ++ empties a (needs_of_completion c)))

-- the effect: a visit is settled, or nothing
abbrev pub settles_by : World → ℕ → List Statement → Option Settlement → Step
settles_by w a rest None = unchanged w a rest
settles_by w a rest (Some e) =
    goes_on w a (onward w a rest) (settled_by w.store e.visit e.context e.way) (settled_told w.store a e)

-- the call with its effect
abbrev pub completes : World → ℕ → Completion → List Statement → Step
completes w a c rest = calling w a c.call (answer_told a c.answer) (needs_of_completion c) (settles_by w a rest c.settled)

-- a visit is settled as an answer leads it
abbrev pub IsLed : List Filter → Store → ℕ → Option ℕ → Answer → Option Settlement → Type 0
IsLed p s v x answer None = ⊥
IsLed p s v x answer (Some e) = (e.visit ≡ v) × (e.context ≡ x) × (e.way ≡ way_of p s v answer)

-- what is settled by the names: nothing where the visit or the named context is NULL
abbrev pub IsSettledOf : List Filter → Store → Option ℕ → Option (Option ℕ) → Answer → Option Settlement → Type 0
IsSettledOf p s None x answer settled = settled ≡ None
IsSettledOf p s (Some v) (Some None) answer settled = settled ≡ None
IsSettledOf p s (Some v) (Some (Some x)) answer settled = IsLed p s v (Some x) answer settled
IsSettledOf p s (Some v) None answer settled = IsLed p s v None answer settled

-- an answer settles the visit that is named, with the context that is named; nothing where either is NULL
abbrev pub IsSettledBy : List Filter → Store → CallOperands → Option Answer → Option Settlement → Type 0
IsSettledBy p s named None settled = settled ≡ None
IsSettledBy p s named (Some answer) settled = IsSettledOf p s named.visit named.context answer settled
