use Rattle.std.proofs.Common.{◌≡◌, map, take}
use Rattle.flt_explain_warning_details.specs.Locks.{acquisition_place}
use Rattle.flt_explain_warning_details.specs.Parsed.{of_parsed}
use Rattle.flt_explain_warning_details.proofs.locks.acquisition_places.Given as goal

abbrev pub invariant-loop-acquisition : goal.invariant-loop-acquisition
invariant-loop-acquisition l = l.all ≡ map (acquisition_place (of_parsed l.text)) (take l.acquisition-index l.acquisitions)
