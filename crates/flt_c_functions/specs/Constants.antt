-- Names of constants: macros whose body is a number, or made of some. They stay as they are, since a reader knows them by their names. This
-- project's own rule.
use Rattle.std.specs.Prelude.{ℕ, ◌==◌, nat_lt, Bool, true, false, not, ◌&&◌, ◌||◌, if◌then◌else◌, List, [], ◌∷◌, codes, length, map}
use Rattle.std.specs.Prelude.{replicate, slice_index_or, slice_set, take, Option, Some, None}
use Rattle.flt_c_tokens.specs.Bytes.{Text}
use Rattle.flt_c_tokens.specs.Spelled.{number_of}
use Rattle.flt_c_tokens.specs.declared.token.Kind.{Kind}
use Rattle.flt_c_tokens.specs.declared.token.Kind.TheVariants as k
use Rattle.flt_c_tokens.specs.declared.token.Token.{Token}
use Rattle.flt_c_functions.specs.declared.constant.Form.{Form}
use Rattle.flt_c_functions.specs.declared.constant.Form.TheVariants as form
use Rattle.flt_c_functions.specs.declared.constant.Role.{Role}
use Rattle.flt_c_functions.specs.declared.constant.Role.TheVariants as role
use Rattle.flt_c_functions.specs.declared.constant.Stage.{Stage}
use Rattle.flt_c_functions.specs.declared.constant.Stage.TheVariants as stage

-- ---- bodies

-- what a kind of token may be in a constant
abbrev pub role_of : Kind → Role
role_of k.Number = role.Value
role_of k.Character = role.Value
role_of k.Name = role.Name
role_of k.OpenParen = role.Open
role_of k.CloseParen = role.Close
role_of k.LineEnd = role.End
role_of k.TypeWord = role.Sign
role_of k.Plus = role.Sign
role_of k.Minus = role.Sign
role_of k.Star = role.Sign
role_of k.Slash = role.Sign
role_of k.Tilde = role.Sign
role_of k.Bar = role.Sign
role_of k.Ampersand = role.Sign
role_of k.Caret = role.Sign
role_of k.ShiftLeft = role.Sign
role_of k.ShiftRight = role.Sign
role_of _ = role.Other

-- what comes behind a token: a name may stand alone in brackets, as the type of a cast
abbrev pub stage_behind : Stage → Role → Option Stage
stage_behind stage.Named role.Close = Some stage.Plain
stage_behind stage.Named _ = None
stage_behind stage.Opened role.Name = Some stage.Named
stage_behind stage.Plain role.Name = None
stage_behind _ role.Open = Some stage.Opened
stage_behind _ role.Other = None
stage_behind _ role.End = None
stage_behind _ _ = Some stage.Plain

abbrev pub is_value : Role → Bool
is_value role.Value = true
is_value _ = false

abbrev pub ends : Role → Bool
ends role.End = true
ends _ = false

-- tokens up to the end of their line go on as a constant does, where a value was met or not
abbrev pub goes_on : Option Stage → Bool → List Token → Bool
goes_on None has ts = false
goes_on (Some at) has [] = false
goes_on (Some at) has (t ∷ ts) =
    if ends (role_of t.kind) then has else goes_on (stage_behind at (role_of t.kind)) (has || is_value (role_of t.kind)) ts

-- a bracket that touches the name opens parameters
abbrev pub opens : Role → Bool
opens role.Open = true
opens _ = false

abbrev pub has_parameters : List Token → Bool
has_parameters [] = false
has_parameters (t ∷ ts) = t.is_glued && opens (role_of t.kind)

-- the tokens behind a macro's name are those of a constant, of which the line ends within 16
abbrev pub is_constant : List Token → Bool
is_constant body = not (has_parameters body) && goes_on (Some stage.Plain) false (take 16 body)

-- ---- names

-- a name of which one more definition is met
abbrev pub form_behind : Form → Bool → Form
form_behind form.Other constant = form.Other
form_behind _ true = form.Constant
form_behind _ false = form.Other

abbrev pub marked : List Form → ℕ → Bool → List Form
marked forms n constant =
    if nat_lt n (length forms) then slice_set forms n (form_behind (slice_index_or forms n form.Unknown) constant) else forms

abbrev pub names : Role → Bool
names role.Name = true
names _ = false

-- a line behind its `#`, where the word `define` has this number
abbrev pub line_marked : ℕ → List Token → List Form → List Form
line_marked define (word ∷ name ∷ body) forms =
    if word.word == define && names (role_of name.kind) then marked forms name.word (is_constant body) else forms
line_marked define _ forms = forms

abbrev pub is_directive : Kind → Bool
is_directive k.Directive = true
is_directive _ = false

-- all lines of some tokens
abbrev pub all_marked : ℕ → List Token → List Form → List Form
all_marked define [] forms = forms
all_marked define (t ∷ ts) forms = all_marked define ts (if is_directive t.kind then line_marked define ts forms else forms)

-- those of headers
abbrev pub headers_marked : ℕ → List (List Token) → List Form → List Form
headers_marked define [] forms = forms
headers_marked define (ts ∷ tss) forms = headers_marked define tss (all_marked define ts forms)

abbrev pub is_kept : Form → Bool
is_kept form.Constant = true
is_kept _ = false

-- For each word of a table, whether it is a name that all its definitions in some tokens and their headers make a constant.
unfoldable pub kept : List Text → List (List Token) → List Token → List Bool
kept texts headers tokens =
    let define = number_of texts (codes "define") in
    map is_kept (headers_marked define headers (all_marked define tokens (replicate (length texts) form.Unknown)))
