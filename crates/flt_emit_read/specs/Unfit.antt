-- The first return that isn't one of its place.
use Rattle.std.specs.Option.{option_or}
use Rattle.std.specs.Prelude.{ℕ, Bool, true, false, List, [], ◌∷◌, map, Option, Some, None}
use Rattle.flt_rules.specs.declared.place.Place.{Place}
use Rattle.flt_tree.specs.Filter.{head_place}
use Rattle.flt_tree.specs.declared.filter.Callback.{Callback}
use Rattle.flt_tree.specs.declared.filter.Filter.{Filter}
use Rattle.flt_tree.specs.declared.filter.Statement.{Statement}
use Rattle.flt_tree.specs.declared.filter.Statement.TheFolds.{fold-Statement}
use Rattle.flt_tree.specs.declared.filter.Statement.TheOpen.{Statement-F}
use Rattle.flt_emit_read.specs.AsRead.{fits_return}

-- the first line that is there
abbrev pub first_of : List (Option ℕ) → Option ℕ
first_of [] = None
first_of (line ∷ more) = option_or line (first_of more)

-- the line of a return, unless the return fits
abbrev pub unless_fits : Bool → ℕ → Option ℕ
unless_fits true line = None
unless_fits false line = Some line

abbrev pub unfit_step : Place → Statement-F (Option ℕ) → Option ℕ
unfit_step at (Statement-F.Act span a) = None
unfit_step at (Statement-F.Call span c) = None
unfit_step at (Statement-F.Return span s) = unless_fits (fits_return at s) span.line
unfit_step at (Statement-F.If span c granted refused) = option_or (first_of granted) (first_of refused)
unfit_step at (Statement-F.Repeat span n body) = first_of body

-- the line of the first return in a statement that isn't one of this place
abbrev pub unfit_of : Place → Statement → Option ℕ
unfit_of at = fold-Statement (Option ℕ) (unfit_step at)

-- the same of a body
abbrev pub unfit_in : Place → List Statement → Option ℕ
unfit_in at body = first_of (map (unfit_of at) body)

-- and of callbacks
abbrev pub callback_unfit : Callback → Option ℕ
callback_unfit c = unfit_in (head_place c.head) c.body

abbrev pub callbacks_unfit : List Callback → Option ℕ
callbacks_unfit cs = first_of (map callback_unfit cs)

-- the line of the first return, in the order of the text, that isn't one of its place
abbrev pub first_unfit : Filter → Option ℕ
first_unfit f = callbacks_unfit f.callbacks
