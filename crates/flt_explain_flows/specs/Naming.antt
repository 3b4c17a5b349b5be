-- The words for an activation. This project's own program.
use Rattle.std.specs.Prelude.{ℕ, List, [], ◌++◌, Option, Some, None, codes}
use Rattle.std.specs.Borrow.{Bor}
use Rattle.std.specs.Fmt.{decimal}
use Rattle.flt_tree.specs.Names.{Text}
use Rattle.flt_tree.specs.declared.filter.Filter.{Filter}
use Rattle.flt_explain_timeline.specs.Words.{callback_words}
use Rattle.flt_explain_flows.specs.declared.running.Active.{Active}

-- the operation of an activation, if it is about one
abbrev pub operation_words : Option ℕ → Text
operation_words (Some operation) = codes ", operation " ++ decimal operation
operation_words None = []

-- the head of an activation's callback, the name of its filter if there are several, and its operation
abbrev pub name_of : List (Bor Filter) → Active → Text
name_of filters active = callback_words filters active.started ++ operation_words active.operation
