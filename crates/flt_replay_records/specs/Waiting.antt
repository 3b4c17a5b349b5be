-- What the counts of what waits say of queues and work items.
use Rattle.std.specs.Prelude.{◌≡◌, ℕ, ◌+◌, List, Option, sum_by}
use Rattle.flt_model.specs.Violations.{in_queue, in_item}
use Rattle.flt_model.specs.declared.parts.Entry.{Entry}
use Rattle.flt_model.specs.declared.parts.Item.{Item}
use Rattle.flt_replay_records.specs.Counts.{count}

-- a visit counts as often as it stands in an entry or in an item
pub record AreWaiting (queues : List (List Entry)) (items : List (Option Item)) (counts : List ℕ) : Type 0 where
  pub each : (v : ℕ) → count counts v ≡ sum_by (in_queue v) queues + sum_by (in_item v) items
