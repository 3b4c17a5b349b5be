-- Words that are misspelt, and name what the language leaves out. This project's own rule.
use Rattle.std.specs.Prelude.{ℕ, ◌/◌, Bool, true, false, ◌&&◌, List, [], ◌∷◌, Option, Some}
use Rattle.std.specs.Prelude.{None, if◌then◌else◌, length, min, nat_le, nat_lt, take}
use Rattle.std.specs.Char.{eq_ignore_ascii_case}
use Rattle.flt_explain_hints.specs.Nearness.{distance}
use Rattle.flt_syntax.specs.Vocabulary.{vocabulary}
use Rattle.flt_syntax.specs.declared.token.Kind.{Kind}
use Rattle.flt_tree.specs.Names.{Text}
use Rattle.flt_explain_hints.specs.Absences.{contents, contexts, locks, operations, queueing, surroundings, waits}
use Rattle.flt_explain_hints.specs.declared.absences.Absence.{Absence}
use Rattle.flt_explain_hints.specs.declared.misspelt.NearAbsence.{NearAbsence}

-- how many letters a beginning has at least: by a shorter one a word of the text's own would be taken for another
abbrev pub least : ℕ
least = 8

-- whether two words begin with one letter, be it great or small
abbrev pub begin_alike : Text → Text → Bool
begin_alike (a ∷ word) (b ∷ other) = eq_ignore_ascii_case a b
begin_alike word other = false

-- how many letters of a beginning a word has otherwise
abbrev pub difference : Text → Text → ℕ
difference word beginning = distance (take (min (length beginning) (length word)) word) beginning

-- whether a word nearly begins so: one letter in six may differ
abbrev pub begins_nearly : Text → Text → Bool
begins_nearly word beginning =
    (nat_le least (length beginning) && begin_alike word beginning) && nat_le (difference word beginning) (length beginning / 6)

-- what a beginning names, if a word nearly begins so, and how near it is
abbrev pub near : Text → Text → Absence → Option NearAbsence
near word beginning named =
    if begins_nearly word beginning then Some (record { absence = named; distance = difference word beginning }) else None

-- the nearer of two, the first where both are as near
abbrev pub nearer : Option NearAbsence → Option NearAbsence → Option NearAbsence
nearer None other = other
nearer (Some one) None = Some one
nearer (Some one) (Some other) = if nat_lt other.distance one.distance then Some other else Some one

-- what the nearest of some beginnings names, the first where several are
abbrev pub nearest_among : Text → List (Text × Absence) → Option NearAbsence
nearest_among word [] = None
nearest_among word (e ∷ es) = nearer (near word e.0 e.1) (nearest_among word es)

-- the same of all that the language leaves out
unfoldable pub nearest : Text → Option NearAbsence
nearest word =
    nearer (nearest_among word contexts) (nearer (nearest_among word operations) (nearer (nearest_among word waits)
    (nearer (nearest_among word locks) (nearer (nearest_among word queueing) (nearer (nearest_among word contents)
    (nearest_among word surroundings))))))

-- whether each word of a table differs from a word in more letters than so many
abbrev pub are_farther : ℕ → Text → List (Text × Kind) → Bool
are_farther bound word [] = true
are_farther bound word (e ∷ es) = nat_lt bound (distance word e.0) && are_farther bound word es

-- what it names, where no word of the language is as near
abbrev pub unless_a_word : Text → Option NearAbsence → Option Absence
unless_a_word word None = None
unless_a_word word (Some n) = if are_farther n.distance word vocabulary then Some n.absence else None

-- what the language leaves out, if a misspelt word probably names it: it begins nearly as a word does that names it
unfoldable pub misspelt_absence : Text → Option Absence
misspelt_absence word = unless_a_word word (nearest word)
