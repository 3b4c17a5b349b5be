-- Which word is meant where another one stands. This project's own rule; how many letters differ is said by Nearness.
use Rattle.std.specs.Prelude.{ℕ, ◌/◌, max, ◌++◌, List, Option, None, drop, if◌then◌else◌, length, map, nat_eq, codes}
use Rattle.std.specs.Borrow.{Bor}
use Rattle.std.specs.List.{fold, starts_with}
use Rattle.flt_explain_hints.specs.Nearness.{distance, nearer}
use Rattle.flt_explain_hints.specs.declared.nearness.Nearest.{Nearest}
use Rattle.flt_tree.specs.Names.{Text}
use Rattle.flt_explain_hints.specs.declared.choices.Choices.{Choices}
use Rattle.flt_explain_hints.specs.declared.choices.ExpectedWord.{ExpectedWord}

-- how many letters of a word count: those behind what all final statuses begin with
abbrev pub letters : Text → ℕ
letters word = if starts_with nat_eq word (codes "STATUS_") then length (drop 7 word) else length word

-- how many letters may differ: a third of those that count, and always one
abbrev pub reach : Text → Text → ℕ
reach one other = max (max (letters one) (letters other) / 3) 1

-- the nearer of what is nearest and another word
abbrev pub or_nearer : Text → Nearest → Bor Text → Nearest
or_nearer written so_far word = nearer so_far (reach written word.now) word (distance written word.now)

-- no word is near yet
abbrev pub none_yet : Nearest
none_yet = record { word = None; distance = 18446744073709551615 }

-- the words that may stand in a place: those of the language, and behind them the names that the text declares
abbrev pub words_of : Choices → List (Bor Text)
words_of c = map (λ (e : ExpectedWord). e.word) c.expected ++ c.names

-- the word that is nearest to what is written, of those that may stand there; none where several are
unfoldable pub nearest_word : Text → Choices → Option (Bor Text)
nearest_word written c = (fold (or_nearer written) none_yet (words_of c)).word
