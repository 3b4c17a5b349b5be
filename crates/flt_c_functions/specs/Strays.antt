-- Places outside of bodies that are no token of C. This project's own rule.
use Rattle.std.specs.Prelude.{ℕ, Bool, true, false, if◌then◌else◌, List, [], ◌∷◌, ◌++◌, codes, Option, Some, None}
use Rattle.flt_c_headers.specs.World.{File}
use Rattle.flt_c_tokens.specs.Bytes.{Text}
use Rattle.flt_c_tokens.specs.declared.token.Kind.{Kind}
use Rattle.flt_c_tokens.specs.declared.token.Kind.TheVariants as k
use Rattle.flt_c_tokens.specs.declared.token.Token.{Token}
use Rattle.flt_c_items.specs.Rows.{stretch}
use Rattle.flt_c_items.specs.declared.item.Item.{Item}
use Rattle.flt_c_items.specs.declared.item.Part.{Part}
use Rattle.flt_c_items.specs.declared.item.Part.TheVariants as part
use Rattle.flt_c_syntax.specs.declared.fault.Reason.{Reason}
use Rattle.flt_c_syntax.specs.declared.fault.Reason.TheVariants as reasons
use Rattle.flt_c_functions.specs.Lines.{place}
use Rattle.flt_c_functions.specs.Places.{file_name}
use Rattle.flt_c_functions.specs.Reasons.{reason_words}
use Rattle.flt_c_functions.specs.declared.stray.Stray.{Stray}

-- why a kind of token is none of C
abbrev pub stray_reason : Kind → Option Reason
stray_reason k.Stray = Some reasons.Stray
stray_reason k.Unclosed = Some reasons.Unclosed
stray_reason k.Joined = Some reasons.Joined
stray_reason k.OpenComment = Some reasons.OpenComment
stray_reason _ = None

-- the first such token, and why
abbrev pub first_by : Token → Option Reason → Option Stray → Option Stray
first_by t None more = more
first_by t (Some why) more = Some (record { token = t; reason = why })

abbrev pub first_stray : List Token → Option Stray
first_stray [] = None
first_stray (t ∷ ts) = first_by t (stray_reason t.kind) (first_stray ts)

-- where an item's tokens end that are looked at: a body says by itself where its reading stops, and an item that isn't read has its line
abbrev pub end_of : Part → ℕ → ℕ → ℕ
end_of (part.Function f) from to = f.body
end_of (part.Unread why) from to = from
end_of _ from to = to

abbrev pub stray_in : List Token → Item → Option Stray
stray_in ts i = first_stray (stretch i.from (end_of i.part i.from i.to) ts)

-- the line of such a token
unfoldable pub stray_line : Text → Token → Reason → Text
stray_line name t why = place name t ++ (codes "not read: " ++ (reason_words why ++ codes "\n"))

abbrev pub stray_text : List File → Text → Option Stray → Text
stray_text headers name None = []
stray_text headers name (Some x) = stray_line (file_name headers name x.token) x.token x.reason
