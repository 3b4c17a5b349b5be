-- What the words of `explain` ask of warnings, as it is asked for below. This project's own program.
use Rattle.std.specs.Prelude.{List, Option, Some, None, fold}
use Rattle.flt_files.specs.Inputs.{Text}
use Rattle.flt_explain_warning_details.specs.declared.options.WarningOptions.{WarningOptions}
use Rattle.flt_explain_warnings.specs.Kinds.{kind_named, none_allowed, with_kind}
use Rattle.flt_explain_warnings.specs.declared.kinds.AllowedKinds.{AllowedKinds}
use Rattle.flt_explain_warnings.specs.declared.warning.Kind.{Kind}
use Rattle.flt_words.specs.Request.{Choice}

-- kinds that are left out, and one more, if there is one
abbrev pub with_one : AllowedKinds → Option Kind → AllowedKinds
with_one kinds (Some kind) = with_kind kinds kind
with_one kinds None = kinds

-- the same with the one of a name
abbrev pub with_named : AllowedKinds → Text → AllowedKinds
with_named kinds name = with_one kinds (kind_named name)

-- the kinds of these names
abbrev pub kinds_of : List Text → AllowedKinds
kinds_of names = fold with_named none_allowed names

-- what is asked of warnings
abbrev pub options_of : Choice → WarningOptions
options_of choice = record { allowed = kinds_of choice.allowed; is_strict = choice.strict }
