use Rattle.std.proofs.Common.{◌≡◌, ◌++◌, drop, map}
use Rattle.std.specs.List.{flat_map}
use Rattle.flt_server_frames.specs.Frames.{framed}
use Rattle.flt_server_frames.proofs.serving.push_frames.Given as goal

abbrev pub invariant-loop-body : goal.invariant-loop-body
invariant-loop-body l =
    l.out.items ++ flat_map framed (map (λ body. body.items) (drop l.body-index l.bodies))
    ≡ l.fn.out.items ++ flat_map framed (map (λ body. body.items) l.bodies)
