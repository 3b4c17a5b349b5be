-- How a word is tried in a place of a text: the proved parser says whether it may stand there. This project's own program.
use Rattle.std.specs.Prelude.{◌≡◌, ℕ, ◌+◌, Bool, true, false, not, ◌&&◌, ◌==◌, if◌then◌else◌, min, []}
use Rattle.std.specs.Prelude.{◌∷◌, ◌++◌, length, take, drop, Option, Some, None, Result, Ok, Err}
use Rattle.std.specs.Borrow.{Bor}
use Rattle.flt_syntax.specs.File.{filter_of}
use Rattle.flt_syntax.specs.TextFails.{Fails}
use Rattle.flt_syntax.specs.declared.fault.FaultKind.{FaultKind}
use Rattle.flt_syntax.specs.declared.fault.FaultKind.TheVariants.{E04, E06}
use Rattle.flt_syntax.specs.declared.fault.SyntaxFault.{SyntaxFault}
use Rattle.flt_syntax.specs.declared.token.Token.{Token}
use Rattle.flt_tree.specs.Names.{Text}
use Rattle.flt_tree.specs.declared.filter.Filter.{Filter}
use Rattle.flt_explain_hints.specs.declared.trial.Gap as declared

-- a place of a text: what stands before it, and what behind it
pub record Gap : Type 0 where
  pub before : Text
  pub behind : Text

-- the place that a value of the code stands for
abbrev pub gap_of : declared.Gap → Gap
gap_of g = record { before = g.before.now; behind = g.behind.now }

-- what is kept behind a token in whose place words are tried: nothing, since only what stands before it says what may follow. Where a
-- name is unknown, all of it, since a routine may be declared behind it.
abbrev pub kept_behind : FaultKind → Text → Text
kept_behind E04 behind = behind
kept_behind _ behind = []

-- the place of a token of a text
abbrev pub gap_at : FaultKind → Text → Token → Gap
gap_at kind text t =
    record { before = take (min t.start (length text)) text; behind = kept_behind kind (drop (min t.end (length text)) text) }

-- the text with a word in a place, on a line of its own
abbrev pub tried : Gap → Text → Text
tried gap word = gap.before ++ 10 ∷ word ++ 10 ∷ gap.behind

-- how many lines end in a text
abbrev pub line_feeds : Text → ℕ
line_feeds [] = 0
line_feeds (b ∷ z) = (if b == 10 then 1 else 0) + line_feeds z

-- the line of a word that is tried behind a text
abbrev pub line_behind : Text → ℕ
line_behind before = 2 + line_feeds before

-- whether a fault isn't told of a place, given whether it stands there, and isn't a limit, as where a text becomes too large
abbrev pub is_elsewhere : FaultKind → Bool → Bool
is_elsewhere E06 stands = false
is_elsewhere _ stands = not stands

-- whether a fault isn't told of a word that begins on a line
abbrev pub is_past : ℕ → SyntaxFault → Bool
is_past line f = is_elsewhere f.kind (f.line == line && f.column == 1)

-- whether a word that stands on a line is read
abbrev pub reads_on : ℕ → Result Filter SyntaxFault → Bool
reads_on line (Ok f) = true
reads_on line (Err e) = is_past line e

-- a word may stand in a place: where the text with it there fails, it fails past the word
abbrev pub MayStand : Gap → Text → Type 0
MayStand gap word = (f : SyntaxFault) → Fails (tried gap word) f → is_past (line_behind gap.before) f ≡ true

-- the same as it is tried: the text with the word there is read past it
unfoldable pub may_stand : Gap → Text → Bool
may_stand gap word = reads_on (line_behind gap.before) (filter_of (tried gap word))

-- a word, if it may stand in a place
abbrev pub if_it_may : Gap → Option (Bor Text) → Option (Bor Text)
if_it_may gap None = None
if_it_may gap (Some word) = if may_stand gap word.now then Some word else None
