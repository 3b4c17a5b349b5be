-- Comments that allow nothing (W00). This project's own program.
use Rattle.std.specs.Prelude.{ℕ, if◌then◌else◌, [], ◌∷◌, codes, Option, Some, None}
use Rattle.std.specs.List.{concat}
use Rattle.flt_places.specs.Files.{file_at}
use Rattle.flt_places.specs.declared.files.Files.{Files}
use Rattle.flt_tree.specs.Names.{Text}
use Rattle.flt_explain_texts.specs.Page.{line_told, marked}
use Rattle.flt_explain_warnings.specs.Kinds.{kind_name}
use Rattle.flt_explain_warnings.specs.declared.warning.Kind.{Kind}
use Rattle.flt_explain_warnings.specs.declared.warning.Kind.TheVariants.{W00}
use Rattle.flt_explain_warnings.specs.declared.allowance.Allowance.{Allowance}
use Rattle.flt_explain_warning_details.specs.Allowing.{is_reason}
use Rattle.flt_explain_warning_details.specs.Places.{bare}
use Rattle.flt_explain_warning_details.specs.declared.detail.WarningDetail.{WarningDetail}

-- that a comment is for a line that has no warning of its kind which no comment before it allows
unfoldable pub needless_title : Files → ℕ → Kind → ℕ → Text
needless_title files home kind statement =
    concat (codes "this comment allows no " ∷ marked (kind_name kind) ∷ codes " on line " ∷ line_told files home statement ∷ [])

-- why a comment that names a kind allows nothing
abbrev pub named_title : Files → ℕ → Kind → Text → ℕ → Text
named_title files home kind reason statement =
    if is_reason reason then needless_title files home kind statement else codes "this comment allows nothing: it gives no reason"

-- what to do with a comment that has no reason
unfoldable pub reason_help : Kind → Text
reason_help kind = concat (codes "write why after a colon: `# allow " ∷ kind_name kind ∷ codes ": ..`" ∷ [])

-- what to do with a comment that names a kind
abbrev pub named_help : Kind → Text → Text
named_help kind reason =
    if is_reason reason then codes "remove the comment, or put it on the line before the statement of the warning" else reason_help kind

abbrev pub title_by : Files → ℕ → Option Kind → Text → ℕ → Text
title_by files home None reason statement = codes "this comment allows nothing: no warning has this number"
title_by files home (Some kind) reason statement = named_title files home kind reason statement

abbrev pub help_by : Option Kind → Text → Text
help_by None reason = codes "write a number from `W01` to `W07`"
help_by (Some kind) reason = named_help kind reason

-- the file of a comment
abbrev pub home_of : Files → Allowance → ℕ
home_of files a = file_at files a.region.first.line

-- why a comment allows nothing
abbrev pub title_of : Files → Allowance → Text
title_of files a = title_by files (home_of files a) a.kind a.reason a.statement

-- what to do with it
abbrev pub help_of : Allowance → Text
help_of a = help_by a.kind a.reason

-- what is said of it
abbrev pub idle_detail : Files → Allowance → WarningDetail
idle_detail files a = record {
  kind = W00;
  site = None;
  marks = bare a.region;
  head = [];
  title = title_of files a;
  help = help_of a;
  note = [];
  related = [];
  circle = [];
  reason = None;
}
