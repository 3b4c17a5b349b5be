-- Which contexts reach the statements that set them, and which kind each therefore has. Source: the driver kit's page on
-- FltAllocateContext, whose type a context keeps; that a context set nowhere is one of a stream is this project's own rule.
use Rattle.std.specs.Prelude.{◌≡◌, ◌<◌, Bool, List, Some, Contains}
use Rattle.flt_rules.specs.declared.call.Anchor.{Anchor}
use Rattle.flt_rules.specs.declared.call.Anchor.TheVariants.{Stream, Instance}
use Rattle.flt_tree.specs.declared.variable.ContextVariable.{ContextVariable}
use Rattle.flt_graph.specs.Graph.{points_at}
use Rattle.flt_graph.specs.declared.graph.Graph.{Graph}
use Rattle.flt_kinds.specs.Flows.{flows, source}
use Rattle.flt_kinds.specs.Sites.{begun_at, given_at, set_at}
use Rattle.flt_kinds.specs.declared.kinds.ContextKinds.{ContextKinds}
use Rattle.flt_kinds.specs.declared.kinds.ContextKinds.TheVariants.{Known, Refused}
use Rattle.flt_kinds.specs.declared.mixed.MixedContext.{MixedContext}
use Rattle.flt_kinds.specs.declared.slot.Flow.{Flow}
use Rattle.flt_kinds.specs.declared.slot.Slot.{Slot}
use Rattle.flt_kinds.specs.declared.slot.Slot.TheVariants.{Variable}
use Rattle.flt_kinds.specs.declared.slot.Spot.{Spot}

-- ---- where contexts go

-- a statement is there
abbrev pub IsThere : Graph → Spot → Type 0
IsThere g at = at.point < points_at g at.callback

-- a statement takes a context from one place to another
pub record Leads (g : Graph) (from to : Slot) : Type 0 where
  pub at : Spot
  pub there : IsThere g at
  pub carrier : Flow
  pub carries : Contains (flows g at.callback at.point) carrier
  pub begins : from ≡ source at.callback at.point carrier.from
  pub ends : carrier.to ≡ to

-- a context that is at one place may come to another
pub data Reaches (g : Graph) : Slot → Slot → Type 0 where
  stays : {slot : Slot} → Reaches g slot slot
  goes : {from by to : Slot} → Leads g from by → Reaches g by to → Reaches g from to

-- a context that is in a place may come to a statement that sets it, on a stream or on the instance
pub record MaySet (g : Graph) (anchor : Anchor) (slot : Slot) (at : Spot) : Type 0 where
  pub there : IsThere g at
  pub variable : ContextVariable
  pub sets : set_at g anchor at.callback at.point ≡ Some variable
  pub reaches : Reaches g slot (Variable at variable)

-- ---- where contexts come from

-- a statement allocates a context, which is then in the place
pub record IsBegun (g : Graph) (at : Spot) (slot : Slot) : Type 0 where
  pub there : IsThere g at
  pub begins : begun_at g at.callback at.point ≡ Some slot

-- a statement gives a stream's context, or the instance's, which is then in the place
pub record IsGiven (g : Graph) (anchor : Anchor) (at : Spot) (slot : Slot) : Type 0 where
  pub there : IsThere g at
  pub outcome : Bool
  pub gives : given_at g at.callback at.point outcome ≡ Some (record { anchor = anchor; slot = slot })

-- ---- kinds

-- a statement allocates a context that may be set on the instance
pub record IsNeeded (g : Graph) (found : Spot) : Type 0 where
  pub slot : Slot
  pub at : Spot
  pub begun : IsBegun g found slot
  pub sets : MaySet g Instance slot at

-- a context that is allocated where the list says is one of the instance, and any other one of a stream. Each context that may be set has
-- the kind that it is set for: one that is allocated, and one that is given, which has the kind of what gives it. A statement is listed
-- only where its context may be set on the instance
pub record KindsHold (g : Graph) (listed : List Spot) : Type 0 where
  pub of_stream : (site at : Spot) (slot : Slot) → IsBegun g site slot → MaySet g Stream slot at → Contains listed site → ⊥
  pub of_instance : (site at : Spot) (slot : Slot) → IsBegun g site slot → MaySet g Instance slot at → Contains listed site
  pub given : (site at : Spot) (slot : Slot) (gave anchor : Anchor) → IsGiven g gave site slot → MaySet g anchor slot at → gave ≡ anchor
  pub needed : (found : Spot) → Contains listed found → IsNeeded g found

-- the same, under a name
unfoldable pub AreKinds : Graph → List Spot → Type 0
AreKinds g listed = KindsHold g listed

-- ---- contexts without a kind

-- one context may be set on a stream and on the instance, or be set on one and come from the other: `stream` and `instance` are the
-- statements that say so
pub data IsMixed (g : Graph) : MixedContext → Type 0 where
  allocated : {site stream instance : Spot} {slot : Slot} → IsBegun g site slot → MaySet g Stream slot stream →
      MaySet g Instance slot instance → IsMixed g (record { site = site; stream = stream; instance = instance })
  of_stream : {site instance : Spot} {slot : Slot} → IsGiven g Stream site slot → MaySet g Instance slot instance →
      IsMixed g (record { site = site; stream = site; instance = instance })
  of_instance : {site stream : Spot} {slot : Slot} → IsGiven g Instance site slot → MaySet g Stream slot stream →
      IsMixed g (record { site = site; stream = stream; instance = site })

-- ---- what is answered

abbrev pub Decides : Graph → ContextKinds → Type 0
Decides g (Known listed) = AreKinds g listed.items
Decides g (Refused m) = IsMixed g m
