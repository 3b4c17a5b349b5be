-- The places of a row of the call table. Places are this project's own.
use Rattle.std.specs.Prelude.{Bool, true, false}
use Rattle.flt_rules.specs.declared.place.Operation.TheVariants as op
use Rattle.flt_rules.specs.declared.place.Place.{Place}
use Rattle.flt_rules.specs.declared.place.Place.TheVariants as place
use Rattle.flt_rules.specs.declared.columns.Places.{Places}
use Rattle.flt_rules.specs.declared.columns.Places.TheVariants as places

-- whether a place is among these
abbrev pub has_place : Places → Place → Bool
has_place places.All p = true
has_place places.NotPreCreate (place.Pre op.Create) = false
has_place places.NotPreCreate p = true
has_place places.PreOrDeferredPre (place.Pre o) = true
has_place places.PreOrDeferredPre place.DeferredPre = true
has_place places.PreOrDeferredPre p = false
has_place places.PreOrPost (place.Pre o) = true
has_place places.PreOrPost (place.Post o) = true
has_place places.PreOrPost p = false
has_place places.CanceledOrDeferredPre place.Canceled = true
has_place places.CanceledOrDeferredPre place.DeferredPre = true
has_place places.CanceledOrDeferredPre p = false
has_place places.DeferredPost place.DeferredPost = true
has_place places.DeferredPost p = false
