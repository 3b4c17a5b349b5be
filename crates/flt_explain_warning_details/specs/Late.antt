-- Calls that need the instance where no operation keeps it (W07). This project's own program.
use Rattle.std.specs.Prelude.{[], ◌∷◌, codes}
use Rattle.std.specs.List.{concat}
use Rattle.flt_tree.specs.Names.{Text}
use Rattle.flt_explain_texts.specs.Page.{marked}
use Rattle.flt_explain_warnings.specs.declared.warning.Site.{Site}
use Rattle.flt_explain_warning_details.specs.Locks.{called}
use Rattle.flt_explain_warning_details.specs.Parsed.{Parsed, instruction}

-- that a call is made where the callback might hold no operation any more
unfoldable pub late_title : Parsed → Site → Text
late_title x s = concat (marked (called (instruction x s)) ∷ codes " is called where the last operation might have been given away" ∷ [])

-- how to fix it
abbrev pub late_help : Text
late_help = codes "make this call before the operation is completed or queued"

-- what may come of it
abbrev pub late_note : Text
late_note = codes "nothing keeps the instance here: it might be torn down before this call"
