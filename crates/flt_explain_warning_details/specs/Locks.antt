-- Locks: taken in no order (W01), and held where the system may run other callbacks (W02). This project's own program.
use Rattle.std.specs.Prelude.{List, [], ◌∷◌, codes, map}
use Rattle.std.specs.List.{concat}
use Rattle.flt_rules.specs.declared.call.LockNumber.{LockNumber}
use Rattle.flt_tree.specs.Names.{Text}
use Rattle.flt_graph.specs.Instruction.{roles}
use Rattle.flt_graph.specs.declared.instruction.Instruction.{Instruction}
use Rattle.flt_graph.specs.declared.instruction.Instruction.TheVariants.{Call}
use Rattle.flt_order.specs.declared.order.Acquisition.{Acquisition}
use Rattle.flt_explain.specs.declared.finding.Subject.TheVariants as about
use Rattle.flt_places.specs.Places.{region_of}
use Rattle.flt_explain_texts.specs.Names.{call_name}
use Rattle.flt_explain_texts.specs.Page.{marked, quoted}
use Rattle.flt_explain_texts.specs.declared.operands.Marks.{Marks}
use Rattle.flt_explain_warnings.specs.Warning.{site}
use Rattle.flt_explain_warnings.specs.declared.warning.Site.{Site}
use Rattle.flt_explain_warning_details.specs.Parsed.{Parsed, instruction, lock}
use Rattle.flt_explain_warning_details.specs.Places.{bare, marks_at, nowhere}
use Rattle.flt_explain_warning_details.specs.declared.detail.RelatedPlace.{RelatedPlace}

-- ---- W01

-- what is wrong with the first acquisition of a circle
unfoldable pub order_title : Parsed → Acquisition → Text
order_title x a =
    concat (quoted (lock x a.taken) ∷ codes " is taken while " ∷ quoted (lock x a.holding)
    ∷ codes " is held, against the order of other places" ∷ [])

-- how to fix it
unfoldable pub order_help : Parsed → Acquisition → Text
order_help x a =
    concat (codes "take these locks in one order at all places, or release " ∷ quoted (lock x a.holding) ∷ codes " before this call" ∷ [])

abbrev pub circle_title : Parsed → List Acquisition → Text
circle_title x [] = []
circle_title x (a ∷ rest) = order_title x a

abbrev pub circle_help : Parsed → List Acquisition → Text
circle_help x [] = []
circle_help x (a ∷ rest) = order_help x a

-- what may come of it
abbrev pub circle_note : Text
circle_note = codes "callbacks that each hold one of these locks and ask for the next might wait for one another forever"

-- where an acquisition is
abbrev pub site_of : Acquisition → Site
site_of a = site a.callback a.point

-- what an acquisition of a circle does
unfoldable pub acquisition_words : Parsed → Acquisition → Text
acquisition_words x a =
    concat (codes "takes " ∷ quoted (lock x a.taken) ∷ codes " while " ∷ quoted (lock x a.holding) ∷ codes " is held" ∷ [])

-- where it is, and in that the lock that it takes
abbrev pub acquisition_marks : Parsed → Acquisition → Marks
acquisition_marks x a = marks_at x (site_of a) (about.Lock a.taken)

-- the same of the first of a circle
abbrev pub circle_marks : Parsed → List Acquisition → Marks
circle_marks x [] = bare (region_of x.text nowhere)
circle_marks x (a ∷ rest) = acquisition_marks x a

-- its place
abbrev pub acquisition_place : Parsed → Acquisition → RelatedPlace
acquisition_place x a = record { marks = acquisition_marks x a; words = acquisition_words x a }

-- the places of a circle but the first
abbrev pub circle_places : Parsed → List Acquisition → List RelatedPlace
circle_places x [] = []
circle_places x (a ∷ rest) = map (acquisition_place x) rest

-- ---- W02

-- the name of the call of an instruction
abbrev pub called : Instruction → Text
called (Call c granted refused) = call_name (roles c).call
called _ = codes "this call"

-- that a call is made while a lock is held
unfoldable pub called_title : Parsed → Site → LockNumber → Text
called_title x s l = concat (marked (called (instruction x s)) ∷ codes " is called while " ∷ quoted (lock x l) ∷ codes " is held" ∷ [])

-- how to fix it
unfoldable pub called_help : Parsed → LockNumber → Text
called_help x l = concat (codes "release " ∷ quoted (lock x l) ∷ codes " before this call" ∷ [])

-- what may come of it
unfoldable pub called_note : Parsed → LockNumber → Text
called_note x l =
    concat (codes "the system might run other callbacks before the call returns, and these might wait for " ∷ quoted (lock x l) ∷ [])
