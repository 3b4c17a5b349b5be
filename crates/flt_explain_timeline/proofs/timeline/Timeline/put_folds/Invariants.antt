use Rattle.std.proofs.Common.{◌≡◌, ◌++◌, flat_map, string_bytes, take}
use Rattle.flt_explain_timeline.specs.Text.{fold_lines}
use Rattle.flt_explain_timeline.proofs.timeline.Timeline.put_folds.Given as goal

-- the blocks so far
abbrev pub invariant-loop-fold : goal.invariant-loop-fold
invariant-loop-fold l =
    string_bytes l.out
    ≡ string_bytes l.initial.out ++ flat_map (fold_lines l.self l.indent l.field) (take l.fold-index l.fold-items)
