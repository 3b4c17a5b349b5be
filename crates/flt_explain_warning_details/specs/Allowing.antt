-- Which comment allows a warning, and which allows none. This project's own program.
use Rattle.std.specs.Prelude.{Bool, true, false, not, ◌==◌, ◌&&◌, List, [], ◌∷◌, Option, Some, None, option_map}
use Rattle.std.specs.List.{find, list_any}
use Rattle.std.specs.Str.{bytes_eq}
use Rattle.flt_tree.specs.Names.{Text}
use Rattle.flt_explain_warnings.specs.Kinds.{kind_name}
use Rattle.flt_explain_warnings.specs.Warning.{kind_of}
use Rattle.flt_explain_warnings.specs.declared.warning.Kind.{Kind}
use Rattle.flt_explain_warnings.specs.declared.warning.Warning.{Warning}
use Rattle.flt_explain_warnings.specs.declared.allowance.Allowance.{Allowance}
use Rattle.flt_explain_warning_details.specs.Parsed.{Parsed}
use Rattle.flt_explain_warning_details.specs.Saying.{line_of}

-- a comment names a kind
abbrev pub names : Option Kind → Kind → Bool
names (Some named) kind = bytes_eq (kind_name named) (kind_name kind)
names None kind = false

-- it gives a reason
abbrev pub is_reason : Text → Bool
is_reason [] = false
is_reason (b ∷ reason) = true

-- it allows a warning: it names its kind, gives a reason, and is for the line where its statement begins, or its declaration
abbrev pub serves : Parsed → Warning → Allowance → Bool
serves x w a = names a.kind (kind_of w) && (is_reason a.reason && a.statement == line_of x w)

-- the reason of the first comment that allows a warning
abbrev pub reason_for : Parsed → List Allowance → Warning → Option Text
reason_for x comments w = option_map (λ (a : Allowance). a.reason) (find (serves x w) comments)

-- one of some comments allows it
abbrev pub is_served : Parsed → List Allowance → Warning → Bool
is_served x comments w = list_any (serves x w) comments

-- a comment is the first that allows it, after some others
abbrev pub is_first : Parsed → List Allowance → Allowance → Warning → Bool
is_first x before a w = serves x w a && not (is_served x before w)

-- a comment is the first that allows one of some warnings
abbrev pub is_needed : Parsed → List Warning → List Allowance → Allowance → Bool
is_needed x ws before a = list_any (is_first x before a) ws
