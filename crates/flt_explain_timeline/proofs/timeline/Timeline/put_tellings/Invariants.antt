use Rattle.std.proofs.Common.{◌≡◌, ◌++◌, codes, flat_map, string_bytes, take}
use Rattle.flt_explain_timeline.specs.Text.{telling_words}
use Rattle.flt_explain_timeline.proofs.timeline.Timeline.put_tellings.Given as goal

-- those so far are written behind the first
abbrev pub invariant-loop-number : goal.invariant-loop-number
invariant-loop-number l =
    string_bytes l.out
    ≡ string_bytes l.initial.out ++ flat_map (λ other. codes ", " ++ telling_words l.self l.operation other) (take l.number-index l.rest)
