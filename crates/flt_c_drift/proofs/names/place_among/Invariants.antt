use Rattle.std.proofs.Common.{◌≡◌, drop, map}
use Rattle.flt_c_drift.specs.Names.{place_from}
use Rattle.flt_c_drift.proofs.names.place_among.Given as goal

abbrev pub invariant-loop-place : goal.invariant-loop-place
invariant-loop-place l =
    place_from l.place (map (λ name. name.now) (drop l.place l.names)) l.word ≡ place_from 0 (map (λ name. name.now) l.names) l.word
