-- What a step's events are judged by.
use Rattle.flt_model.specs.World.{World}
use Rattle.flt_replay.specs.Judging.{with_locks}
use Rattle.flt_replay.specs.declared.rules.Scene.{Scene}

-- the world before the step, as far as rules read it
abbrev pub before : Scene → World
before s = with_locks s.world.now s.activation s.locks.now
