-- What the places in a callback's blocks say: the statements that remain, in order.
use Rattle.std.specs.Prelude.{◌≡◌, ◌==◌, ◌-◌, ℕ, Bool, false, not, List, [], ◌∷◌, ◌++◌}
use Rattle.flt_model.specs.LocalSteps.{turns_left}
use Rattle.flt_tree.specs.declared.filter.Span.{Span}
use Rattle.flt_tree.specs.declared.filter.Statement.{Statement}
use Rattle.flt_tree.specs.declared.filter.Statement.TheVariants as tree
use Rattle.flt_replay_records.specs.declared.rest.Part.{Part}
use Rattle.flt_replay_records.specs.declared.rest.Part.TheVariants.{Block, Repeat}
use Rattle.flt_replay_records.specs.declared.rest.Rest.{Rest}
use Rattle.flt_replay_records.specs.declared.rest.Upcoming.{Upcoming}
use Rattle.flt_replay_records.specs.declared.rest.Upcoming.TheVariants as upcoming

abbrev pub statement_of : Upcoming → Statement
statement_of (upcoming.Statement s) = s.now
statement_of (upcoming.Repeat span turns body) = tree.Repeat span.now turns body.now

abbrev pub statements_of : Part → List Statement
statements_of (Block b) = b.now
statements_of (Repeat span turns body) = tree.Repeat span.now turns body.now ∷ []

-- what the parts say before other statements, the last part first
unfoldable pub before : List Statement → List Part → List Statement
before others [] = others
before others (p ∷ parts) = before (statements_of p ++ others) parts

-- what is left of a block and of the block round it, and then what the parts say
abbrev pub remaining : List Statement → List Statement → List Part → List Statement
remaining block outer parts = block ++ (outer ++ before [] parts)

-- the same of the two blocks of a callback
abbrev pub remains : Rest → List Part → List Statement
remains rest parts = remaining rest.block.now rest.outer.now parts

-- whether a part is a `repeat` with a turn left
abbrev pub has_turn : Part → Bool
has_turn (Block b) = false
has_turn (Repeat span turns body) = not (turns == 0)

-- the part after a turn of it is taken
abbrev pub turned : Part → Part
turned (Block b) = Block b
turned (Repeat span turns body) = Repeat span (turns - 1) body

-- what is gone through in a turn
abbrev pub body_of : Part → List Statement
body_of (Block b) = b.now
body_of (Repeat span turns body) = body.now

-- a turn of a `repeat`, which comes first, has begun
unfoldable pub IsTurn : List Statement → List Statement → Type 0
IsTurn old new =
    (span : Span) × (turns : ℕ) × (body : List Statement) × (rest : List Statement) × (old ≡ tree.Repeat span turns body ∷ rest)
    × (new ≡ turns_left span turns body rest)

-- the statements after the first one
abbrev pub others : List Statement → List Statement
others [] = []
others (s ∷ rest) = rest
