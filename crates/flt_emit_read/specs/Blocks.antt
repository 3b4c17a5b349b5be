-- Lines one after the other, with the blocks that are open. This project's own.
use Rattle.std.specs.Prelude.{ℕ, zero, suc, ◌+◌, Bool, true, false, List, [], ◌∷◌, ◌++◌, length, codes, Option, Some, None}
use Rattle.flt_rules.specs.declared.place.Place.{Place}
use Rattle.flt_rules.specs.declared.place.Place.TheVariants as place
use Rattle.flt_tree.specs.Filter.{no_span}
use Rattle.flt_tree.specs.Names.{Text}
use Rattle.flt_tree.specs.declared.filter.Condition.{Condition}
use Rattle.flt_tree.specs.declared.filter.Lock.{Lock}
use Rattle.flt_tree.specs.declared.filter.Statement.{Statement}
use Rattle.flt_tree.specs.declared.filter.Statement.TheVariants.{If, Repeat}
use Rattle.flt_emit.specs.Fixed as fixed
use Rattle.flt_emit.specs.Statements.{passing}
use Rattle.flt_emit_read.specs.Front.{Front, ◌>>=◌, or_else, after}
use Rattle.flt_emit_read.specs.Lines.{Line, Whole, Asks, Turns, Otherwise, Closes, line_at}

-- a block that is open, with the statements before it
pub data Open : Type 0 where
  -- the first block of an `if`, and whether that asks for the opposite
  First : Bool → Condition → List Statement → Open
  -- the second one, after the statements of the first
  Second : Condition → List Statement → List Statement → Open
  -- a `repeat`
  Repeated : ℕ → List Statement → Open

-- where a reading stands
pub record Reading : Type 0 where
  -- the point of the next statement
  pub point : ℕ
  -- the statements of the innermost block that is open
  pub done : List Statement
  -- the blocks that are open, the innermost first
  pub open_blocks : List Open

abbrev pub reading : ℕ → List Statement → List Open → Reading
reading point done outer = record { point = point; done = done; open_blocks = outer }

-- the statements of the block outside, once the block that is open ends
abbrev pub ended : Open → List Statement → List Statement
ended (First false c before) inside = before ++ If no_span c inside [] ∷ []
ended (First true c before) inside = before ++ If no_span c [] inside ∷ []
ended (Second c granted before) inside = before ++ If no_span c granted inside ∷ []
ended (Repeated n before) inside = before ++ Repeat no_span n inside ∷ []

-- the second block of an `if` begins
abbrev pub turned_over : ℕ → List Statement → List Open → Option Reading
turned_over point done (First false c before ∷ outer) = Some (reading point [] (Second c done before ∷ outer))
turned_over point done _ = None

-- a block ends
abbrev pub closed : ℕ → List Statement → List Open → Option Reading
closed point done [] = None
closed point done (block ∷ outer) = Some (reading point (ended block done) outer)

-- what a line does
abbrev pub takes : Reading → Line → Option Reading
takes r (Whole s) = Some (reading (r.point + 1) (r.done ++ s ∷ []) r.open_blocks)
takes r (Asks turned c) = Some (reading (r.point + 1) [] (First turned c r.done ∷ r.open_blocks))
takes r (Turns n) = Some (reading (r.point + 1) [] (Repeated n r.done ∷ r.open_blocks))
takes r Otherwise = turned_over r.point r.done r.open_blocks
takes r Closes = closed r.point r.done r.open_blocks

-- ---- a whole body

-- how a callback of a place may end
abbrev pub endings : Place → List Text
endings (place.Pre op) = codes "}\n" ∷ (fixed.unreached ++ (passing true ++ codes "\n}\n")) ∷ []
endings (place.Post op) = codes "}\n" ∷ (fixed.unreached ++ (passing false ++ codes "\n}\n")) ∷ []
endings place.Canceled = codes "}\n" ∷ []
endings place.DeferredPre =
    (codes "\nDone:\n\n" ++ (fixed.free_deferred ++ codes "}\n")) ∷ (codes "\n" ++ (fixed.free_deferred ++ codes "}\n")) ∷ []
endings place.DeferredPost =
    (codes "\nDone:\n\n" ++ (fixed.free_deferred ++ codes "}\n")) ∷ (codes "\n" ++ (fixed.free_deferred ++ codes "}\n")) ∷ []
endings place.Generic =
    (codes "\nDone:\n\n" ++ (fixed.free_generic ++ codes "}\n")) ∷ (codes "\n" ++ (fixed.free_generic ++ codes "}\n")) ∷ []

-- what follows the first of some texts that stands at the front
abbrev pub after_one : List Text → Text → Option Text
after_one [] z = None
after_one (x ∷ xs) z = or_else (after x z) (λ rest. Some rest) (after_one xs z)

-- what follows the end of the callback, if no block is open
abbrev pub past_end : List Open → Place → Text → Option Text
past_end [] at z = after_one (endings at) z
past_end (block ∷ outer) at z = None

-- the next line
abbrev pub step : Place → List Lock → Reading → Text → Option (Reading × Text)
step at locks r z =
    line_at at locks (suc (length r.open_blocks)) r.point z >>= λ l. takes r l.0 >>= λ next. Some (next, l.1)

-- lines up to the end of the callback, as many at most
abbrev pub lines_at : Place → List Lock → ℕ → Reading → Text → Front (List Statement)
lines_at at locks zero r z = None
lines_at at locks (suc left) r z =
    or_else (step at locks r z) (λ next. lines_at at locks left next.0 next.1)
    (past_end r.open_blocks at z >>= λ rest. Some (r.done, rest))

-- the statements of a callback, and what follows its end
unfoldable pub body_at : Place → List Lock → Text → Front (List Statement)
body_at at locks z = lines_at at locks (suc (length z)) (reading 0 [] []) z
