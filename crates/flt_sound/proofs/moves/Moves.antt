-- Each move of the filter manager and of worker threads is good: none breaks anything, and the invariant holds after it.
-- p is the program, m the moment, k its invariant.
use Rattle.std.proofs.Common.{List, refl}
use Rattle.flt_tree.specs.declared.filter.Filter.{Filter}
use Rattle.flt_model.specs.declared.moves.Move.{Move}
use Rattle.flt_model.specs.declared.moves.Move.TheVariants.{Arrive, Pre, Skip, Lower, Post, Cancel, Canceled}
use Rattle.flt_model.specs.declared.moves.Move.TheVariants.{Work, Detach, Drain, Unlink, Detached}
use Rattle.flt_model.specs.Program.{filter_of}
use Rattle.flt_model.specs.Runs.{Moment, next}
use Rattle.flt_model.specs.Steps.{Make}
use Rattle.flt_model.specs.World.{arrival_at, route_at}
use Rattle.flt_sound.specs.Soundness.{AreAccepted}
use Rattle.flt_sound.proofs.points.Kept.{Kept, Good}
use Rattle.flt_sound.proofs.points.Local.{AfterStep}
use Rattle.flt_sound.proofs.points.Placed.{Laws}
use Rattle.flt_sound.proofs.moves.StoreMoves.{arrive_good, skip_good, lower_good, cancel_good, detach_good, detached_good, unlink_good}
use Rattle.flt_sound.proofs.moves.VisitMoves.{pre_good, post_good, drain_good}
use Rattle.flt_sound.proofs.moves.QueueMoves.{canceled_good, work_good}

module _ (laws : Laws) (p : List Filter) (ok : AreAccepted p) (m : Moment) (k : Kept p m) where
  -- each move is good
  pub move_good : (x : Move) → AfterStep (next p m (Make x)) (Good p m)
  move_good (Arrive kind mode file) = arrive_good p m k kind mode file
  move_good (Pre o) = pre_good laws p ok m k o (route_at m.world.store o).position refl
  move_good (Skip o) = skip_good p m k o (arrival_at m.world.store o).kind (route_at m.world.store o).position
  move_good (Lower o) = lower_good p m k o (route_at m.world.store o).position
  move_good (Post o) = post_good laws p ok m k o (route_at m.world.store o).position
  move_good (Cancel o) = cancel_good p m k o
  move_good (Canceled altitude o) = canceled_good laws p ok m k (filter_of p altitude) o
  move_good (Work i) = work_good laws p ok m k i
  move_good (Detach altitude) = detach_good p m k (filter_of p altitude)
  move_good (Drain altitude o) = drain_good laws p ok m k (filter_of p altitude) o
  move_good (Unlink altitude key) = unlink_good p m k (filter_of p altitude) key
  move_good (Detached altitude) = detached_good p m k (filter_of p altitude)
