-- Lines of C: how deep they stand, and what follows a statement. This project's own rule.
use Rattle.std.specs.Prelude.{ℕ, zero, suc, List, ◌∷◌, [], flat_map, codes, decimal}
use Rattle.std.specs.Borrow.{Bor}
use Rattle.flt_tree.specs.Names.{Text}
use Rattle.flt_tree.specs.declared.variable.Atom.{Atom}
use Rattle.flt_tree.specs.declared.variable.Atom.TheVariants as atoms
use Rattle.flt_emit.specs.Names.{number_name}
use Rattle.flt_emit.specs.declared.line.Piece.{Piece}
use Rattle.flt_emit.specs.declared.line.Piece.TheVariants as piece

-- pieces of text, one behind the other
abbrev pub joined : List Text → Text
joined = flat_map (λ t. t)

-- four blanks a level
abbrev pub indentation : ℕ → Text
indentation zero = []
indentation (suc level) = 32 ∷ 32 ∷ 32 ∷ 32 ∷ indentation level

-- what follows a statement: its point, and its line in the text
abbrev pub label : ℕ → ℕ → Text
label point line = joined (codes "    // " ∷ decimal point ∷ codes ", line " ∷ decimal line ∷ codes "\n" ∷ [])

-- a number of 64 bits, or a variable
abbrev pub atom_text : Atom → Text
atom_text (atoms.Number n) = joined (decimal n ∷ codes "ull" ∷ [])
atom_text (atoms.Variable n) = number_name n

-- texts of the program, one behind the other
abbrev pub all_of : List (Bor Text) → Text
all_of = flat_map (λ (t : Bor Text). t.now)

-- a piece of a line
abbrev pub piece_text : Piece → Text
piece_text (piece.Level level) = indentation level
piece_text (piece.Text t) = t.now
piece_text (piece.Number n) = decimal n
piece_text (piece.Atom x) = atom_text x
piece_text (piece.Label point line) = label point line
