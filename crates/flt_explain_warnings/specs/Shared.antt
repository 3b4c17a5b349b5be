-- Contexts that others may have: those that are set on a stream or an instance, were found there, or were given to a callback. A context
-- that the callback has allocated and not set yet nobody else has. This project's own definitions, by the graph.
use Rattle.std.specs.Prelude.{ℕ, zero, suc, ◌+◌, Bool, true, false, not, ◌&&◌, ◌||◌, if◌then◌else◌, List}
use Rattle.std.specs.Prelude.{[], ◌∷◌, ◌++◌, length, Option, Some, None, option_map, option_to_list}
use Rattle.std.specs.List.{list_any}
use Rattle.flt_rules.specs.declared.call.Anchor.{Anchor}
use Rattle.flt_rules.specs.declared.call.Anchor.TheVariants as anchor
use Rattle.flt_rules.specs.declared.call.Call.{Call}
use Rattle.flt_rules.specs.declared.call.Call.TheVariants as call
use Rattle.flt_rules.specs.declared.call.Existing.TheVariants.{Keep, Replace}
use Rattle.flt_tree.specs.declared.filter.Action.{Action}
use Rattle.flt_tree.specs.declared.filter.Action.TheVariants as action
use Rattle.flt_tree.specs.declared.variable.ContextVariable.{ContextVariable}
use Rattle.flt_tree.specs.declared.variable.ContextVariable.TheVariants.{C0, C1, C2, C3, C4, C5, C6, C7, Arg}
use Rattle.flt_graph.specs.Graph.{points_at, instruction_at}
use Rattle.flt_graph.specs.Instruction.{roles}
use Rattle.flt_graph.specs.Points.{successor}
use Rattle.flt_graph.specs.declared.graph.Graph.{Graph}
use Rattle.flt_graph.specs.declared.instruction.Instruction.{Instruction}
use Rattle.flt_graph.specs.declared.instruction.Instruction.TheVariants as instruction
use Rattle.flt_graph.specs.declared.instruction.Invocation.{Invocation}
use Rattle.flt_explain_warnings.specs.Flow.{blank, is_marked, marked, settled}
use Rattle.flt_explain_warnings.specs.Trail.{is_named, hands_on, status_uses}
use Rattle.flt_explain_warnings.specs.Warning.{site}
use Rattle.flt_explain_warnings.specs.declared.shared.HandedOver.{HandedOver}
use Rattle.flt_explain_warnings.specs.declared.shared.SharedUse.{SharedUse}
use Rattle.flt_explain_warnings.specs.declared.shared.Sharing.{Sharing}
use Rattle.flt_explain_warnings.specs.declared.shared.Usage.{Usage}
use Rattle.flt_explain_warnings.specs.declared.shared.Usage.TheVariants.{Read, Write, HandOver}
use Rattle.flt_explain_warnings.specs.declared.trail.Trail.TheVariants as trail
use Rattle.flt_explain_warnings.specs.declared.warning.Site.{Site}

-- ---- where others may have it

-- both are one anchor
abbrev pub same_anchor : Anchor → Anchor → Bool
same_anchor anchor.Stream anchor.Stream = true
same_anchor anchor.Instance anchor.Instance = true
same_anchor _ _ = false

-- by an outcome a call answers a context that is or was set on the anchor, or one that was handed over with an operation
abbrev pub gives : Sharing → Call → Bool → Bool
gives s (call.GetContext a) outcome = outcome && same_anchor a s.anchor
gives s (call.DeleteContextOf a) outcome = outcome && same_anchor a s.anchor
gives s (call.SetContext a Replace) outcome = outcome && same_anchor a s.anchor
gives s (call.SetContext a Keep) outcome = not outcome && same_anchor a s.anchor
gives s call.RemoveNextIo outcome = outcome && s.is_given
gives s _ outcome = false

-- by an outcome a call sets its context on the anchor
abbrev pub sets : Sharing → Call → Bool → Bool
sets s (call.SetContext a e) outcome = outcome && same_anchor a s.anchor
sets s _ outcome = false

-- from the call on others may have the variable's context, by an outcome
abbrev pub shares_by : Sharing → Invocation → Bool → Bool
shares_by s c outcome =
    (gives s c.call outcome && is_named c.output s.variable) || (sets s c.call outcome && is_named c.context s.variable)

-- the same of an instruction
abbrev pub shares : Sharing → Instruction → Bool → Bool
shares s (instruction.Call c granted refused) outcome = shares_by s (roles c) outcome
shares s _ outcome = false

-- the point from which on that is so
abbrev pub shared_behind : Sharing → Instruction → Bool → Option ℕ
shared_behind s i outcome = if shares s i outcome then successor i outcome else None

-- that point is marked, by either outcome
abbrev pub begun : Graph → ℕ → Sharing → ℕ → List Bool → List Bool
begun g callback s point marks =
    marked (marked marks (shared_behind s (instruction_at g callback point) true)) (shared_behind s (instruction_at g callback point) false)

-- the same of so many points, from one on
unfoldable pub begun_from : Graph → ℕ → Sharing → ℕ → ℕ → List Bool → List Bool
begun_from g callback s point zero marks = marks
begun_from g callback s point (suc n) marks = begun_from g callback s (point + 1) n (begun g callback s point marks)

-- the same of all points of the callback
abbrev pub all_begun : Graph → ℕ → Sharing → List Bool → List Bool
all_begun g callback s marks = begun_from g callback s 0 (points_at g callback) marks

-- the variable is `arg`
abbrev pub is_arg : ContextVariable → Bool
is_arg Arg = true
is_arg _ = false

-- the first point of the callback, where `arg` may be such a context
abbrev pub entered : Sharing → Option ℕ
entered s = if s.is_given && is_arg s.variable then Some 0 else None

-- the points at which others may have the variable's context: those that are reached from where that begins, while the variable gets no
-- other context
abbrev pub shared : Graph → ℕ → Sharing → List Bool
shared g callback s =
    settled g callback (trail.Shared s.variable) (points_at g callback)
    (all_begun g callback s (marked (blank (points_at g callback)) (entered s)))

-- ---- what is done with it

-- an action reads or writes the value of the variable's context
abbrev pub usage_by : Action → ContextVariable → Option Usage
usage_by (action.ReadValue n c) v = if is_named (Some c) v then Some Read else None
usage_by (action.WriteValue c a) v = if is_named (Some c) v then Some Write else None
usage_by _ v = None

-- a context is handed over, or not
abbrev pub handing : Bool → Option Usage
handing is_handed = if is_handed then Some HandOver else None

-- what an instruction does with the variable's context
abbrev pub usage_in : Instruction → ContextVariable → Option Usage
usage_in (instruction.Act a next) v = usage_by a v
usage_in (instruction.Call c granted refused) v = handing (hands_on (roles c).call && is_named (roles c).context v)
usage_in (instruction.Return st) v = handing (status_uses st v)
usage_in _ v = None

-- a use at a point
abbrev pub use_of : Site → Anchor → Usage → SharedUse
use_of at a u = record { site = at; anchor = a; usage = u }

-- what a point does with the variable's context, if others may have it there
abbrev pub use_at : Graph → Sharing → List Bool → Site → Option SharedUse
use_at g s marks at =
    if is_marked marks at.point then option_map (use_of at s.anchor) (usage_in (instruction_at g at.callback at.point) s.variable) else None

-- the uses at so many points, from one on
unfoldable pub used_from : Graph → ℕ → Sharing → List Bool → ℕ → ℕ → List SharedUse
used_from g callback s marks point zero = []
used_from g callback s marks point (suc n) =
    option_to_list (use_at g s marks (site callback point)) ++ used_from g callback s marks (point + 1) n

-- the same at all points of a callback
abbrev pub used_in : Graph → ℕ → Sharing → List Bool → List SharedUse
used_in g callback s marks = used_from g callback s marks 0 (points_at g callback)

-- the uses of the variable's contexts in a callback
abbrev pub uses_of : Graph → ℕ → Sharing → List SharedUse
uses_of g callback s = used_in g callback s (shared g callback s)

-- ---- in a text

-- the contexts of a variable that are of an anchor
abbrev pub on_stream : HandedOver → ContextVariable → Sharing
on_stream handed v = record { anchor = anchor.Stream; variable = v; is_given = handed.stream }

abbrev pub on_instance : HandedOver → ContextVariable → Sharing
on_instance handed v = record { anchor = anchor.Instance; variable = v; is_given = handed.instance }

-- the uses of the contexts of some variables in a callback
abbrev pub uses_among : Graph → ℕ → HandedOver → List ContextVariable → List SharedUse
uses_among g callback handed [] = []
uses_among g callback handed (v ∷ vs) =
    uses_of g callback (on_stream handed v) ++ (uses_of g callback (on_instance handed v) ++ uses_among g callback handed vs)

-- the same of all variables
abbrev pub uses_in : Graph → HandedOver → ℕ → List SharedUse
uses_in g handed callback = uses_among g callback handed (C0 ∷ C1 ∷ C2 ∷ C3 ∷ C4 ∷ C5 ∷ C6 ∷ C7 ∷ Arg ∷ [])

-- the same in so many callbacks, from one on
unfoldable pub uses_from : Graph → HandedOver → ℕ → ℕ → List SharedUse
uses_from g handed callback zero = []
uses_from g handed callback (suc n) = uses_in g handed callback ++ uses_from g handed (callback + 1) n

-- the same in all callbacks, where callbacks are given contexts of some anchors
abbrev pub uses_with : Graph → HandedOver → List SharedUse
uses_with g handed = uses_from g handed 0 (length g.callbacks)

-- a use hands over a context of the anchor
abbrev pub is_handing : Usage → Bool
is_handing HandOver = true
is_handing _ = false

abbrev pub hands_over : Anchor → SharedUse → Bool
hands_over a u = is_handing u.usage && same_anchor u.anchor a

-- the anchors of which some use hands a context over
abbrev pub handed_over : List SharedUse → HandedOver
handed_over us = record { stream = list_any (hands_over anchor.Stream) us; instance = list_any (hands_over anchor.Instance) us }

-- no context is handed over
abbrev pub nothing_handed : HandedOver
nothing_handed = record { stream = false; instance = false }

-- what all callbacks do with contexts that others may have. A callback may be given a context of each anchor of which one is handed over
-- somewhere, be it to this callback or to another
abbrev pub shared_uses : Graph → List SharedUse
shared_uses g = uses_with g (handed_over (uses_with g nothing_handed))
