-- Lines that nobody can take for what is said of runs. This project's own definitions.
use Rattle.std.specs.Prelude.{ℕ, Bool, true, false, not, ◌&&◌, ◌||◌, ◌==◌, List, [], ◌∷◌, codes, eqb, if◌then◌else◌}
use Rattle.std.specs.List.{starts_with}

-- a line begins as one does that says what comes of a finding in runs
abbrev pub begins_note : List ℕ → Bool
begins_note line = starts_with eqb line (codes "   = journal: ") || starts_with eqb line (codes "   = with a callback")

-- whole lines of which none begins so, read from the start of a line or from within one
abbrev pub is_quiet_from : Bool → List ℕ → Bool
is_quiet_from begins [] = begins
is_quiet_from true (b ∷ bytes) = not (begins_note (b ∷ bytes)) && is_quiet_from (b == 10) bytes
is_quiet_from false (b ∷ bytes) = is_quiet_from (b == 10) bytes

-- whole lines of which none begins so
abbrev pub is_quiet : List ℕ → Bool
is_quiet lines = is_quiet_from true lines

-- with one more blank in front of each line that begins so, and the end of the last line
abbrev pub quieted_from : Bool → List ℕ → List ℕ
quieted_from true [] = []
quieted_from false [] = 10 ∷ []
quieted_from true (b ∷ bytes) =
    if begins_note (b ∷ bytes) then 32 ∷ (b ∷ quieted_from (b == 10) bytes) else b ∷ quieted_from (b == 10) bytes
quieted_from false (b ∷ bytes) = b ∷ quieted_from (b == 10) bytes

-- lines that are quiet stay so as they are; of others each that begins so gets a blank in front
abbrev pub quieted : List ℕ → List ℕ
quieted lines = quieted_from true lines
