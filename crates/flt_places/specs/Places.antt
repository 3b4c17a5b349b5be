-- Where things stand in texts. Lines and columns count from 1, and a line ends before its line feed.
use Rattle.std.specs.Prelude.{ℕ, zero, suc, List, [], ◌∷◌, ◌==◌, ◌+◌, ◌-◌, ◌&&◌, take, drop, length, if◌then◌else◌, nat_le, nat_lt}
use Rattle.flt_tree.specs.Names.{Text}
use Rattle.flt_tree.specs.declared.filter.Position.{Position}
use Rattle.flt_tree.specs.declared.filter.Span.{Span}
use Rattle.flt_places.specs.declared.places.Region.{Region}
use Rattle.flt_places.specs.declared.places.Site.{Site}

-- ---- places

-- the place behind some bytes, where the first of them stands at another
abbrev pub behind : Position → Text → Position
behind at [] = at
behind at (b ∷ z) =
    behind (if b == 10 then record { line = at.line + 1; column = 1 } else record { line = at.line; column = at.column + 1 }) z

-- where a byte of a text stands, which counts from 0; the end of the text for one that isn't there
abbrev pub place_in : Text → ℕ → Position
place_in text at = behind (record { line = 1; column = 1 }) (take at text)

-- where a span begins, and how many bytes it has
abbrev pub site_of : Text → Span → Site
site_of text s = record { place = place_in text s.start; length = s.end - s.start }

-- one column behind a place
abbrev pub one_column_on : Position → Position
one_column_on at = record { line = at.line; column = at.column + 1 }

-- where the bytes from one up to another stand: the first of them, and one column behind the last
abbrev pub region_in : Text → ℕ → ℕ → Region
region_in text start end = record { first = place_in text start; end = one_column_on (place_in text (end - 1)) }

-- where a span stands
abbrev pub region_of : Text → Span → Region
region_of text s = region_in text s.start s.end

-- where a part of a span stands: its bytes from one up to another, which count from the span's first
abbrev pub part_of : Text → Span → ℕ → ℕ → Region
part_of text s from to = region_in text (s.start + from) (s.start + to)

-- the bytes of a span; none where they aren't there
abbrev pub bytes_of : Text → Span → Text
bytes_of text s = if nat_le s.start s.end && nat_le s.end (length text) then take (s.end - s.start) (drop s.start text) else []

-- ---- lines

-- what stands behind so many line feeds
abbrev pub rest_behind : ℕ → Text → Text
rest_behind zero z = z
rest_behind (suc n) [] = []
rest_behind (suc n) (b ∷ z) = if b == 10 then rest_behind n z else rest_behind (suc n) z

-- what stands before the first line feed
abbrev pub first_line : Text → Text
first_line [] = []
first_line (b ∷ z) = if b == 10 then [] else b ∷ first_line z

-- a line of a text, from 1; nothing where it isn't there
abbrev pub line_of : Text → ℕ → Text
line_of text number = first_line (rest_behind (number - 1) text)

-- ---- the same by where lines begin

-- the bytes, from one on, with which lines begin but the first
abbrev pub starts_from : ℕ → Text → List ℕ
starts_from at [] = []
starts_from at (b ∷ z) = if b == 10 then (at + 1) ∷ starts_from (at + 1) z else starts_from (at + 1) z

-- where a byte stands that isn't before the begin of a line, where later lines begin at these bytes
abbrev pub counted : ℕ → ℕ → List ℕ → ℕ → Position
counted line start [] at = record { line = line; column = at - start + 1 }
counted line start (next ∷ later) at =
    if nat_lt at next then record { line = line; column = at - start + 1 } else counted (line + 1) next later at
