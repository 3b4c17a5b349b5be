-- Lines of directives. In text that isn't read only those count that open, part and close groups.
use Rattle.std.specs.Prelude.{ℕ, Bool, true, false, if◌then◌else◌, List, [], ◌∷◌, map, Result, Ok, Err}
use Rattle.std.specs.Str.{bytes_eq}
use Rattle.flt_c_tokens.specs.Bytes.{Text}
use Rattle.flt_c_macros.specs.Texts.{Texts, text_of}
use Rattle.flt_c_tokens.specs.declared.token.Kind.TheVariants as k
use Rattle.flt_c_tokens.specs.declared.token.Token.{Token}
use Rattle.flt_c_macros.specs.declared.directive.Command.{Command}
use Rattle.flt_c_macros.specs.declared.directive.Command.TheVariants as c
use Rattle.flt_c_macros.specs.declared.directive.TheConstants.{COMMANDS}
use Rattle.flt_c_macros.specs.declared.form.Form.TheVariants as f
use Rattle.flt_c_macros.specs.Branches.{opened, parted, ended}
use Rattle.flt_c_macros.specs.Definitions.{defined, undefined}
use Rattle.flt_c_macros.specs.Groups.{is_read}
use Rattle.flt_c_macros.specs.Kinds.{same_kind}
use Rattle.flt_c_macros.specs.States.{World, Outcome}

-- the directive of a name, in a table
abbrev pub lookup : Text → List (Text × Command) → Command
lookup name [] = c.Other
lookup name (e ∷ es) = if bytes_eq name e.0 then e.1 else lookup name es

-- the directive that a token names
unfoldable pub command : Texts → Token → Command
command texts t =
    if same_kind t.kind k.If then c.Open f.Plain else (if same_kind t.kind k.Else then c.Part f.Otherwise
    else (if same_kind t.kind k.Name then lookup (text_of texts t.word) (map (λ e. (e.0.now, e.1)) COMMANDS) else c.Other))

abbrev pub directive_by : Command → Token → List Token → List Token → World → Outcome World
directive_by c.Define at line after w = Ok (w.0, if is_read w.1.groups then defined w.0 at line w.1 else w.1)
directive_by c.Undefine at line after w = Ok (w.0, if is_read w.1.groups then undefined at line w.1 else w.1)
directive_by (c.Open form) at line after w = opened at form line after w
directive_by (c.Part form) at line after w = parted at form line w
directive_by c.End at line after w = Ok (w.0, ended at w.1)
directive_by c.Other at line after w = Ok w

-- the line of the directive whose `#` is a token, and the tokens after it; a `#` alone says nothing
abbrev pub directive : Token → List Token → List Token → World → Outcome World
directive at [] after w = Ok w
directive at (t ∷ line) after w = directive_by (command w.0 t) at line after w
