-- The text that annotations make, and where each line of it begins in C. This project's own rule.
use Rattle.std.specs.Prelude.{ℕ, Bool, true, if◌then◌else◌, ◌==◌, List, [], ◌∷◌, ◌++◌, Result, Ok, Err}
use Rattle.flt_c.specs.declared.fault.Fault.{Fault}
use Rattle.flt_c.specs.declared.place.PlacedByte.{PlacedByte}
use Rattle.flt_c.specs.declared.text.Annotations.{Annotations}
use Rattle.flt_c.specs.declared.text.Line.{Line}
use Rattle.flt_c.specs.Locks.{plain}

-- a text, for each of its lines the place of the first byte, and whether a line begins after it
pub record Text : Type 0 where
  pub bytes : List ℕ
  pub lines : List Line
  pub fresh : Bool

-- no text
abbrev pub empty : Text
empty = record { bytes = []; lines = []; fresh = true }

-- one byte more, from a file: a line that begins with it has its place
abbrev pub put : ℕ → Text → PlacedByte → Text
put file text p = record {
  bytes = text.bytes ++ (p.byte ∷ []);
  lines = if text.fresh then text.lines ++ (record { file = file; place = p.place } ∷ []) else text.lines;
  fresh = p.byte == 10;
}

-- some bytes more
abbrev pub put_all : ℕ → Text → List PlacedByte → Text
put_all file text [] = text
put_all file text (p ∷ ps) = put_all file (put file text p) ps

-- what was read of a file after a text
abbrev pub after : ℕ → Text → Result (List PlacedByte) Fault → Result Text Fault
after file text (Ok ps) = Ok (put_all file text ps)
after file text (Err f) = Err f

-- the same text with blanks for the expressions of locks
abbrev pub plain_text : Text → Text
plain_text text = record { bytes = plain text.bytes; lines = text.lines; fresh = text.fresh }

-- the text that some annotations are
abbrev pub text_in : Annotations → Text
text_in a = record { bytes = a.bytes.items; lines = a.lines.items; fresh = a.fresh }
