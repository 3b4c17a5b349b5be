-- How many points a body has, and what it costs. This project's own measures, which bound every callback.
use Rattle.flt_rules.specs.Limits.{max_points, max_cost}
use Rattle.std.specs.Prelude.{ℕ, ◌+◌, ◌*◌, max, List, map, sum, Bool, ◌&&◌, nat_le}
use Rattle.std.specs.List.{list_all}
use Rattle.flt_tree.specs.declared.filter.Callback.{Callback}
use Rattle.flt_tree.specs.declared.filter.Filter.{Filter}
use Rattle.flt_tree.specs.declared.filter.Statement.{Statement}
use Rattle.flt_tree.specs.declared.filter.Statement.TheOpen.{Statement-F}
use Rattle.flt_tree.specs.declared.filter.Statement.TheFolds.{fold-Statement}

-- each statement has one point
abbrev pub points_step : Statement-F ℕ → ℕ
points_step (Statement-F.Act line action) = 1
points_step (Statement-F.Call line call) = 1
points_step (Statement-F.Return line status) = 1
points_step (Statement-F.If line condition granted refused) = 1 + (sum granted + sum refused)
points_step (Statement-F.Repeat line turns body) = 1 + sum body

abbrev pub points_of : Statement → ℕ
points_of = fold-Statement ℕ points_step

abbrev pub points : List Statement → ℕ
points body = sum (map points_of body)

-- a simple statement costs 1, a choice 1 and its dearer branch, a repeat 1 and each turn its body and 1
abbrev pub cost_step : Statement-F ℕ → ℕ
cost_step (Statement-F.Act line action) = 1
cost_step (Statement-F.Call line call) = 1
cost_step (Statement-F.Return line status) = 1
cost_step (Statement-F.If line condition granted refused) = 1 + max (sum granted) (sum refused)
cost_step (Statement-F.Repeat line turns body) = 1 + turns * (1 + sum body)

abbrev pub cost_of : Statement → ℕ
cost_of = fold-Statement ℕ cost_step

abbrev pub cost : List Statement → ℕ
cost body = sum (map cost_of body)

-- a callback has one point and a cost of 1 more, for its end
abbrev pub is_small : Callback → Bool
is_small c = nat_le (points c.body + 1) max_points && nat_le (cost c.body + 1) max_cost

abbrev pub are_small : Filter → Bool
are_small f = list_all is_small f.callbacks
