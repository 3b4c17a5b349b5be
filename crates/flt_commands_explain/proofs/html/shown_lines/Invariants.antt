use Rattle.std.proofs.Common.{◌≡◌, ◌++◌, drop, map}
use Rattle.flt_shown.specs.Shown.{shown}
use Rattle.flt_commands_explain.proofs.html.shown_lines.Given as goal

abbrev pub invariant-loop-line : goal.invariant-loop-line
invariant-loop-line l =
    l.all ++ map shown (map (λ line. line.now) (drop l.line-index l.lines)) ≡ map shown (map (λ line. line.now) l.lines)
