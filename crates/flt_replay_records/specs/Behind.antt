-- What is gone on with behind two blocks, as it is kept.
use Rattle.std.specs.Prelude.{◌≡◌, ◌<◌, ◌-◌, ◌==◌, Bool, true, false, not, if◌then◌else◌, List, [], ◌∷◌, ◌++◌, length, get_or, set, reverse}
use Rattle.std.specs.Borrow.{Bor}
use Rattle.flt_tree.specs.declared.filter.Statement.{Statement}
use Rattle.flt_replay_records.specs.declared.behind.OpenRepeat.{OpenRepeat}
use Rattle.flt_replay_records.specs.declared.behind.Behind.{Behind}
use Rattle.flt_replay_records.specs.declared.rest.Part.{Part}
use Rattle.flt_replay_records.specs.declared.rest.Part.TheVariants.{Block, Repeat}
use Rattle.flt_replay_records.specs.Rest.{has_turn, turned, body_of}

-- an empty block is the place of a `repeat`
abbrev pub is_place : List Statement → Bool
is_place [] = true
is_place (s ∷ block) = false

-- the innermost first: a block, or the `repeat` of which it is the place
unfoldable pub parts_from : List (Bor (List Statement)) → List OpenRepeat → List Part
parts_from [] repeats = []
parts_from (b ∷ blocks) [] = Block b ∷ parts_from blocks []
parts_from (b ∷ blocks) (r ∷ repeats) =
    if is_place b.now then Repeat r.span r.turns r.body ∷ parts_from blocks repeats else Block b ∷ parts_from blocks (r ∷ repeats)

-- the innermost last
abbrev pub parts_of : List (Bor (List Statement)) → List OpenRepeat → List Part
parts_of blocks repeats = reverse (parts_from (reverse blocks) (reverse repeats))

abbrev pub parts : Behind → List Part
parts b = parts_of b.blocks.items b.repeats.items

-- a turn is taken of the last `repeat`, whose body this is
unfoldable pub TurnsBegun : List OpenRepeat → List Statement → List OpenRepeat → Type 0
TurnsBegun old body new =
    (0 < length old) × ((d : OpenRepeat) → (not ((get_or old (length old - 1) d).turns == 0) ≡ true)
    × (body ≡ (get_or old (length old - 1) d).body.now)
    × (new ≡ set old (length old - 1)
    (record (get_or old (length old - 1) d) { turns = (get_or old (length old - 1) d).turns - 1 })))

-- a turn is taken of the last part, whose body this is
unfoldable pub TurnsLast : List Part → List Statement → List Part → Type 0
TurnsLast old body new =
    (ps : List Part) × (p : Part) × (old ≡ ps ++ p ∷ []) × (has_turn p ≡ true) × (body ≡ body_of p) × (new ≡ ps ++ turned p ∷ [])
