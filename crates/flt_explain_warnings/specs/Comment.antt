-- What one line says that is a comment to leave a warning out: `# allow W03: why`. This project's own definitions.
use Rattle.std.specs.Prelude.{ℕ, Bool, true, ◌==◌, ◌&&◌, ◌||◌, ◌+◌, if◌then◌else◌, List, [], ◌∷◌}
use Rattle.std.specs.Prelude.{Option, Some, None, codes, drop, is_some, length, nat_lt, take}
use Rattle.std.specs.Cmp.Lexicographic.{pointwise}
use Rattle.std.specs.Char.{is_ascii_digit}
use Rattle.std.specs.List.{prefix_len}
use Rattle.std.specs.Option.{option_and_then}
use Rattle.flt_tree.specs.Names.{Text}
use Rattle.flt_explain_warnings.specs.Kinds.{kind_named}
use Rattle.flt_explain_warnings.specs.declared.warning.Kind.{Kind}

-- ---- blanks

-- a blank within a line: a space, a tab or a carriage return
abbrev pub is_blank : ℕ → Bool
is_blank b = b == 32 || (b == 9 || b == 13)

-- what follows the blanks at the front of a text
abbrev pub after_blanks : Text → Text
after_blanks [] = []
after_blanks (b ∷ z) = if is_blank b then after_blanks z else b ∷ z

-- the same where there is at least one
abbrev pub after_some_blanks : Text → Option Text
after_some_blanks [] = None
after_some_blanks (b ∷ z) = if is_blank b then Some (after_blanks z) else None

-- how many bytes a line has without the blanks at its end
abbrev pub end_of : Text → ℕ
end_of [] = 0
end_of (b ∷ z) = if is_blank b && end_of z == 0 then 0 else end_of z + 1

-- ---- words

-- what follows a word with which a text begins; none where it doesn't
abbrev pub after : Text → Text → Option Text
after word text = if pointwise (λ a b. a == b) (take (length word) text) word then Some (drop (length word) text) else None

-- what follows `# allow` and the blanks after it
abbrev pub after_allow : Text → Option Text
after_allow line =
    option_and_then (λ z. option_and_then after_some_blanks (after (codes "allow") (after_blanks z)))
    (after (codes "#") (after_blanks line))

-- how many bytes the name of a kind has at the front of a text: a W and digits; 0 where there is none
abbrev pub name_length : Text → ℕ
name_length [] = 0
name_length (b ∷ z) = if b == 87 && nat_lt 0 (prefix_len is_ascii_digit z) then prefix_len is_ascii_digit z + 1 else 0

-- a name ends before such a text: before its end, a blank or a colon
abbrev pub may_follow : Text → Bool
may_follow [] = true
may_follow (b ∷ z) = is_blank b || b == 58

-- what follows a colon, without the blanks there
abbrev pub reason_after : Option Text → Text
reason_after None = []
reason_after (Some z) = after_blanks z

-- the reason after a name: what follows the colon
abbrev pub reason_in : Text → Text
reason_in z = reason_after (after (codes ":") (after_blanks z))

-- ---- comments

-- a kind and a reason, from the name on; none where no name is there
abbrev pub said : Text → Option (Option Kind × Text)
said z =
    if nat_lt 0 (name_length z) && may_follow (drop (name_length z) z)
    then Some (kind_named (take (name_length z) z), reason_in (drop (name_length z) z)) else None

-- what a line says that is such a comment: the kind, where its number is known, and the reason, which may be empty
unfoldable pub comment_of : Text → Option (Option Kind × Text)
comment_of line = option_and_then said (after_allow (take (end_of line) line))

-- a line is such a comment
abbrev pub is_comment : Text → Bool
is_comment line = is_some (comment_of line)
