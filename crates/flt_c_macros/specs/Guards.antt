-- Guards, by which each file is read once: `#ifndef NAME`, or `#if !defined(NAME)`, before the line `#define NAME`. A guard is true if no
-- line that was read before it defines or undefines its name: the file is read for the first time. With a body the line gives a default, and
-- is no guard.
use Rattle.std.specs.Prelude.{ℕ, nat_eq, Bool, true, false, ◌&&◌, if◌then◌else◌, List, [], ◌∷◌, Option, Some, None, is_none, codes}
use Rattle.std.specs.Str.{bytes_eq}
use Rattle.flt_c_macros.specs.Texts.{Texts, text_of}
use Rattle.flt_c_tokens.specs.declared.token.Kind.TheVariants as k
use Rattle.flt_c_tokens.specs.declared.token.Token.{Token}
use Rattle.flt_c_macros.specs.declared.form.Form.{Form}
use Rattle.flt_c_macros.specs.declared.form.Form.TheVariants.{Plain, Defined, NotDefined, Otherwise}
use Rattle.flt_c_macros.specs.Conditions.{Outcome, Reader, and_then, asked, expect, name, next, sees_defined}
use Rattle.flt_c_macros.specs.Forms.{value_of}
use Rattle.flt_c_macros.specs.Kinds.{same_kind}
use Rattle.flt_c_macros.specs.Macros.{Known, macro_of}
use Rattle.flt_c_macros.specs.Values.{Value, truth}

-- "!" "defined" asked
unfoldable pub not_defined : Texts → Reader ℕ
not_defined texts i = and_then (expect k.Exclamation i) (λ q. if sees_defined texts q.1 then asked (next q.1) else None)

-- a name behind which nothing is left
abbrev pub alone : Outcome ℕ → Option ℕ
alone (Some (n, [])) = Some n
alone (Some (n, t ∷ i)) = None
alone None = None

-- the name of which a condition says that it isn't defined, and no more
abbrev pub guarded : Texts → Form → List Token → Option ℕ
guarded texts Plain line = alone (not_defined texts line)
guarded texts Defined line = None
guarded texts NotDefined line = alone (name line)
guarded texts Otherwise line = None

-- the tokens begin with the line `#define NAME`
abbrev pub defines : Texts → ℕ → List Token → Bool
defines texts n (hash ∷ command ∷ t ∷ end ∷ i) =
    same_kind hash.kind k.Directive && same_kind command.kind k.Name && bytes_eq (text_of texts command.word) (codes "define")
    && same_kind t.kind k.Name && nat_eq t.word n && same_kind end.kind k.LineEnd
defines texts n _ = false

abbrev pub is_guard_by : Texts → Known → List Token → Option ℕ → Bool
is_guard_by texts macros after None = false
is_guard_by texts macros after (Some n) = is_none (macro_of macros n) && defines texts n after

-- a condition that opens a group is that of a guard, by the tokens after its line
abbrev pub is_guard : Texts → Known → Form → List Token → List Token → Bool
is_guard texts macros form line after = is_guard_by texts macros after (guarded texts form line)

-- what the condition counts
unfoldable pub opening : Texts → Known → Form → List Token → List Token → Value
opening texts macros form line after = if is_guard texts macros form line after then truth true else value_of texts macros form line
