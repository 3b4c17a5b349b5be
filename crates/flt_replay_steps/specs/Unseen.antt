-- Steps of an activation that nobody else sees, one after another.
use Rattle.std.specs.Prelude.{ℕ, zero, suc, [], Option, Some, option_and_then}
use Rattle.flt_model.specs.Steps.{local}
use Rattle.flt_model.specs.World.{World}

-- the world after so many of them; none where one of them isn't enabled. A local step reads neither the filters nor what happened.
abbrev pub unseen : ℕ → World → ℕ → Option World
unseen zero w a = Some w
unseen (suc n) w a = option_and_then (λ s. unseen n s.world a) (local [] [] w a)
