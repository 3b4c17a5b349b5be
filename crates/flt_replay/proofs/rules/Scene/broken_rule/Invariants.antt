-- What is kept is what the events so far keep.
use Rattle.std.proofs.Common.{◌≡◌, List, true, take}
use Rattle.std.specs.List.{list_all}
use Rattle.flt_model.specs.declared.event.Event.{Event}
use Rattle.flt_model.specs.Violations.{legal_statuses, levels_kept, is_disciplined, legal_places}
use Rattle.flt_replay_world.specs.Happening.{holds_given}
use Rattle.flt_replay.specs.Judging.{is_by}
use Rattle.flt_replay.specs.Scenes.{before}
use Rattle.flt_replay.proofs.rules.Scene.broken_rule.Given as goal

abbrev pub invariant-loop-event : goal.invariant-loop-event
invariant-loop-event l =
    (t : List Event) → l.self.held ≡ holds_given t (before l.self) l.self.activation →
    list_all (is_by l.self.activation) l.events ≡ true →
    (l.kept.statuses ≡ legal_statuses l.self.stack.now (before l.self) t (take l.event-index l.events))
    × (l.kept.levels ≡ levels_kept l.self.stack.now (before l.self) t (take l.event-index l.events))
    × (l.kept.locks ≡ list_all (is_disciplined l.self.stack.now (before l.self) t) (take l.event-index l.events))
    × (l.kept.places ≡ legal_places l.self.stack.now (before l.self) t (take l.event-index l.events))
