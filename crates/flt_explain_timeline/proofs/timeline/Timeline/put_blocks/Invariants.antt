use Rattle.std.proofs.Common.{◌≡◌, ◌++◌, codes, flat_map, string_bytes, take}
use Rattle.flt_explain_timeline.specs.Text.{block_words}
use Rattle.flt_explain_timeline.proofs.timeline.Timeline.put_blocks.Given as goal

-- those so far are written behind the first
abbrev pub invariant-loop-fold : goal.invariant-loop-fold
invariant-loop-fold l =
    string_bytes l.out
    ≡ string_bytes l.initial.out ++ flat_map (λ other. codes ", " ++ block_words l.self l.operation l.told other) (take l.fold-index l.rest)
