-- The front of a chunk: what stands in it outside of brackets, up to the brace that opens a body. This project's own rule.
use Rattle.std.specs.Prelude.{ℕ, Bool, false, ◌&&◌, if◌then◌else◌, ◌==◌}
use Rattle.flt_c_tokens.specs.declared.token.Kind.{Kind}
use Rattle.flt_c_tokens.specs.declared.token.Kind.TheVariants as k
use Rattle.flt_c_tokens.specs.declared.token.Token.{Token}
use Rattle.flt_c_items.specs.Kinds.{same_kind, is_group, is_foreign, depth_after}
use Rattle.flt_c_items.specs.declared.front.Form.{Form}
use Rattle.flt_c_items.specs.declared.front.Form.TheVariants as form
use Rattle.flt_c_items.specs.declared.front.Front.{Front}
use Rattle.flt_c_items.specs.declared.words.Words.{Words}

abbrev pub no_token : Token
no_token = record { kind = k.End; is_glued = false; word = 0; start = 0; line = 0; column = 0 }

-- the front of a chunk in which no token is yet
abbrev pub front_from : ℕ → Front
front_from from =
    record { from = from; depth = 0; form = form.Empty; before = no_token; name = no_token; bracket = 0 }

-- ---- the form of a front

-- behind an `=` there are values, and what isn't C stays so
abbrev pub unless_settled : Form → Form → Form
unless_settled form.Assigned new = form.Assigned
unless_settled form.Foreign new = form.Foreign
unless_settled _ new = new

-- behind a word or sign that isn't in a function's head
abbrev pub plain : Form → Form
plain form.Divided = form.Divided
plain old = unless_settled old form.Plain

-- behind a word that a function's head may have behind its parameters
abbrev pub kept : Form → Form
kept form.Empty = form.Plain
kept old = old

-- behind a line of an `#if`: from its name to its body a function has none
abbrev pub divided : Form → Form
divided form.Head = form.Divided
divided old = old

-- behind `(`, by the kind of the token before
abbrev pub opened_round : Kind → Form → Form
opened_round k.Name old = unless_settled old form.Head
opened_round k.Attribute old = old
opened_round _ old = plain old

-- behind a string: `extern "C"` may open a region
abbrev pub linked : Words → Form → Token → Form
linked words old before =
    if same_kind before.kind k.Qualifier && before.word == words.linkage then unless_settled old form.Region else plain old

-- behind a word of C++: `namespace` may open a region
abbrev pub of_c_plus_plus : Words → Form → ℕ → Form
of_c_plus_plus words old word =
    if word == words.namespace then unless_settled old form.Region else unless_settled old form.Foreign

-- behind a token of this kind, the last one outside of brackets before it, and its word
abbrev pub form_by : Kind → Words → Form → Token → ℕ → Form
form_by k.Assign words old before word = unless_settled old form.Assigned
form_by k.CPlusPlus words old before word = of_c_plus_plus words old word
form_by k.Text words old before word = linked words old before
form_by k.Name words old before word = kept old
form_by k.Qualifier words old before word = kept old
form_by k.Attribute words old before word = kept old
form_by k.DoubleColon words old before word = kept old
form_by k.GroupIf words old before word = divided old
form_by k.GroupElse words old before word = divided old
form_by k.GroupEnd words old before word = divided old
form_by k.OpenParen words old before word = opened_round before.kind old
form_by kind words old before word = if is_foreign kind then unless_settled old form.Foreign else plain old

-- ---- one more token

-- in brackets
abbrev pub inside : Front → Token → Front
inside front t =
    record front {
      depth = depth_after t.kind front.depth;
      form = if is_group t.kind then divided front.form else front.form;
    }

-- whether the token opens the brackets behind a token of the kind
abbrev pub opens_after : Kind → Front → Token → Bool
opens_after kind front t = same_kind t.kind k.OpenParen && same_kind front.before.kind kind

-- outside of brackets: a name with `(` behind it may be a function's
abbrev pub outside : Words → Front → ℕ → Token → Front
outside words front at t =
    record {
      from = front.from;
      depth = depth_after t.kind front.depth;
      form = form_by t.kind words front.form front.before t.word;
      before = if opens_after k.Attribute front t then front.before else t;
      name = if opens_after k.Name front t then front.before else front.name;
      bracket = if opens_after k.Name front t then at else front.bracket;
    }

-- a front behind one more token, before which `at` tokens stand
unfoldable pub advanced : Words → Front → ℕ → Token → Front
advanced words front at t = if front.depth == 0 then outside words front at t else inside front t
