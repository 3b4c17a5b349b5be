-- Tokens of C: an expression without its blanks, comments and enclosing brackets. This project's own rule.
use Rattle.std.specs.Prelude.{ℕ, zero, suc, ◌+◌, ◌-◌, Bool, true, false, ◌&&◌, ◌||◌, if◌then◌else◌}
use Rattle.std.specs.Prelude.{◌==◌, nat_lt, List, [], ◌∷◌, ◌++◌, drop, length, take}
use Rattle.flt_c_drift.specs.Parts.{is_blank, is_word_byte}
use Rattle.flt_c_drift.specs.declared.tokens.Brackets.{Brackets}
use Rattle.flt_c_drift.specs.declared.tokens.Brackets.TheVariants as bracket
use Rattle.flt_c_drift.specs.declared.tokens.Tokens.{Tokens}

-- ---- enclosing brackets

-- a bracket opens, after so many that are open
abbrev pub opened : ℕ → Brackets
opened depth = if nat_lt depth 255 then bracket.Open (depth + 1) else bracket.Other

-- a bracket closes: the first, where no other is open
abbrev pub closed : ℕ → Brackets
closed depth = if depth == 0 then bracket.Closed else bracket.Open (depth - 1)

-- one byte more
abbrev pub brackets_after : Brackets → ℕ → Brackets
brackets_after bracket.Nothing b = if b == 40 then bracket.Open 0 else bracket.Other
brackets_after (bracket.Open depth) b = if b == 40 then opened depth else (if b == 41 then closed depth else bracket.Open depth)
brackets_after bracket.Closed b = bracket.Other
brackets_after bracket.Other b = bracket.Other

abbrev pub brackets_from : Brackets → List ℕ → Brackets
brackets_from brackets [] = brackets
brackets_from brackets (b ∷ z) = brackets_from (brackets_after brackets b) z

abbrev pub is_closed : Brackets → Bool
is_closed bracket.Closed = true
is_closed _ = false

-- the first byte is a bracket that the last one closes
abbrev pub is_enclosed : List ℕ → Bool
is_enclosed tokens = is_closed (brackets_from bracket.Nothing tokens)

-- all but the first byte and the last one
abbrev pub inside : List ℕ → List ℕ
inside tokens = take (length tokens - 2) (drop 1 tokens)

abbrev pub unwrapped : List ℕ → List ℕ
unwrapped tokens = if is_enclosed tokens then inside tokens else tokens

-- without so many pairs of brackets that enclose all of it, if there are so many
unfoldable pub bare : ℕ → List ℕ → List ℕ
bare zero tokens = tokens
bare (suc n) tokens = unwrapped (bare n tokens)

-- ---- tokens that are being read

-- the bytes so far, a blank between two words; how many of them there are up to the last that isn't `*`, which ends no expression, and may
-- be that of `*/`; whether the last is of a word; whether the expression may have ended before this; and its bytes in the file up to there
pub record Written : Type 0 where
  pub bytes : List ℕ
  pub kept : ℕ
  pub word : Bool
  pub apart : Bool
  pub start : ℕ
  pub size : ℕ

abbrev pub written_in : Tokens → Written
written_in t = record { bytes = t.bytes.items; kept = t.kept; word = t.word; apart = t.apart; start = t.start; size = t.size }

-- nothing
abbrev pub none : Written
none = record { bytes = []; kept = 0; word = false; apart = true; start = 0; size = 0 }

-- how many bytes of the file it has, where reading is at a place
abbrev pub length_at : ℕ → Written → ℕ
length_at at w = if w.apart then w.size else at - w.start

-- a blank, or a byte of a comment
abbrev pub parted : ℕ → Written → Written
parted at w = record { bytes = w.bytes; kept = w.kept; word = w.word; apart = true; start = w.start; size = length_at at w }

abbrev pub is_empty : List ℕ → Bool
is_empty [] = true
is_empty (b ∷ z) = false

-- where the first byte is, if one at this place is added
abbrev pub start_with : ℕ → Written → ℕ
start_with at w = if is_empty w.bytes then at else w.start

-- a `*`
abbrev pub starred : ℕ → Written → Written
starred at w = record {
  bytes = w.bytes ++ (42 ∷ []);
  kept = w.kept;
  word = false;
  apart = true;
  start = start_with at w;
  size = length_at at w;
}

-- what is added of a byte: a blank before it, where it begins another word
abbrev pub with_blank : Bool → ℕ → List ℕ
with_blank begins b = if begins then 32 ∷ b ∷ [] else b ∷ []

abbrev pub pushed : ℕ → Written → Written
pushed b w = record {
  bytes = w.bytes ++ with_blank (w.apart && (w.word && is_word_byte b)) b;
  kept = w.kept;
  word = w.word;
  apart = w.apart;
  start = w.start;
  size = w.size;
}

-- another byte
abbrev pub put : ℕ → ℕ → Written → Written
put at b w = record {
  bytes = (pushed b w).bytes;
  kept = length (pushed b w).bytes;
  word = is_word_byte b;
  apart = false;
  start = start_with at w;
  size = w.size;
}

-- one byte more at a place of the file; a `/` counts as a blank
abbrev pub written : ℕ → ℕ → Written → Written
written at b w = if is_blank b || b == 47 then parted at w else (if b == 42 then starred at w else put at b w)

-- the tokens
abbrev pub tokens_of : Written → List ℕ
tokens_of w = bare 8 (take w.kept w.bytes)
