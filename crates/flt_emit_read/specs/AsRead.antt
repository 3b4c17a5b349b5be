-- What a source says of a filter: the filter apart from its places, and from returns that C has no words for.
use Rattle.std.specs.Prelude.{Bool, true, not, ◌&&◌, map, Option, Some, None, is_some, option_map}
use Rattle.std.specs.List.{list_all}
use Rattle.flt_rules.specs.declared.place.Place.{Place}
use Rattle.flt_rules.specs.declared.place.Place.TheVariants as place
use Rattle.flt_tree.specs.Filter.{head_place, no_span}
use Rattle.flt_tree.specs.declared.filter.Callback.{Callback}
use Rattle.flt_tree.specs.declared.filter.Filter.{Filter}
use Rattle.flt_tree.specs.declared.filter.Statement.{Statement}
use Rattle.flt_tree.specs.declared.filter.Statement.TheVariants.{Act, Call, Return, If, Repeat}
use Rattle.flt_tree.specs.declared.filter.Statement.TheOpen.{Statement-F}
use Rattle.flt_tree.specs.declared.filter.Statement.TheFolds.{fold-Statement}
use Rattle.flt_tree.specs.declared.filter.Status.{Status}
use Rattle.flt_tree.specs.declared.filter.Status.TheVariants as statuses
use Rattle.flt_print.specs.Reprinting.{nowhere, condition_without}

-- ---- returns

-- what C returns from a callback of a place: a pre and a post callback always return a status, and no other callback returns one
abbrev pub returned : Place → Option Status → Option Status
returned (place.Pre op) None = Some statuses.NoCallback
returned (place.Pre op) (Some s) = Some s
returned (place.Post op) None = Some statuses.FinishedProcessing
returned (place.Post op) (Some s) = Some s
returned _ s = None

-- whether that is what the text returns
abbrev pub fits_return : Place → Option Status → Bool
fits_return (place.Pre op) s = is_some s
fits_return (place.Post op) s = is_some s
fits_return _ s = not (is_some s)

abbrev pub fits_step : Place → Statement-F Bool → Bool
fits_step at (Statement-F.Act span a) = true
fits_step at (Statement-F.Call span c) = true
fits_step at (Statement-F.Return span s) = fits_return at s
fits_step at (Statement-F.If span c granted refused) = list_all (λ b. b) granted && list_all (λ b. b) refused
fits_step at (Statement-F.Repeat span n body) = list_all (λ b. b) body

-- the same of each return in a statement
abbrev pub statement_fits : Place → Statement → Bool
statement_fits at = fold-Statement Bool (fits_step at)

-- and in a callback
abbrev pub callback_fits : Callback → Bool
callback_fits c = list_all (λ b. b) (map (statement_fits (head_place c.head)) c.body)

-- each return is one of its place: with a status in a pre and in a post callback, without one elsewhere. An accepted text has others only
-- where no run comes
abbrev pub returns_fit : Filter → Bool
returns_fit f = list_all callback_fits f.callbacks

-- ---- a filter as its source says it

abbrev pub step_as_read : Place → Statement-F Statement → Statement
step_as_read at (Statement-F.Act span a) = Act no_span a
step_as_read at (Statement-F.Call span c) = Call no_span c
step_as_read at (Statement-F.Return span s) = Return no_span (returned at s)
step_as_read at (Statement-F.If span c granted refused) = If no_span (condition_without c) granted refused
step_as_read at (Statement-F.Repeat span n body) = Repeat no_span n body

-- a statement of a callback of a place
abbrev pub statement_as_read : Place → Statement → Statement
statement_as_read at = fold-Statement Statement (step_as_read at)

abbrev pub callback_as_read : Callback → Callback
callback_as_read c =
    record {
      head = c.head;
      position = nowhere;
      span = no_span;
      body = map (statement_as_read (head_place c.head)) c.body;
      end = no_span;
    }

abbrev pub as_read : Filter → Filter
as_read f =
    record {
      name = f.name;
      altitude = f.altitude;
      locks = f.locks;
      queue = option_map (λ at. nowhere) f.queue;
      callbacks = map callback_as_read f.callbacks;
    }
