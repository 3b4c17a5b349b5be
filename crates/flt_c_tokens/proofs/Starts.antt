-- Where the tokens of a file begin.
use Rattle.std.proofs.Common.{◌≡◌, ℕ, ◌+◌, ◌≤◌, Bool, true, false, [], ◌∷◌, ◌++◌, length, take, refl, arith}
use Rattle.std.proofs.lemmas.List.Elements.{All-append, All-cons, All-nil}
use Rattle.std.specs.List.{All}
use Rattle.std.specs.Prelude.{nat_lt}
use Rattle.flt_c_tokens.specs.Bytes.{Text}
use Rattle.flt_c_tokens.specs.Fronts.{front}
use Rattle.flt_c_tokens.specs.Tokens.{Lexeme, behind, first, lexemes, lexemes_at_end, lexemes_from, lexemes_of, line_end, past, tokens}
use Rattle.flt_c_tokens.specs.declared.piece.Part.{Part}
use Rattle.flt_c_tokens.specs.declared.piece.Part.TheVariants.{Blank, Feed, Sign, Word}
use Rattle.flt_c_tokens.specs.declared.piece.Piece.{Piece}
use Rattle.flt_c_tokens.specs.declared.reading.Reading.{Reading}

module _ (n : ℕ) where
  abbrev pub Within : Lexeme → Type 0
  Within x = x.start ≤ n

  line_end_within : (at : Reading) → at.start ≤ n → All Within (line_end at)
  line_end_within at h = by at.in_directive refl
    where
      by : (x : Bool) → at.in_directive ≡ x → All Within (line_end at)
      by true e = rw e (All-cons Within _ [] h (All-nil Within))
      by false e = rw e (All-nil Within)

  part_within : (at : Reading) (part : Part) (z : Text) → at.start ≤ n → All Within (lexemes_of at part z)
  part_within at Blank z h = All-nil Within
  part_within at Feed z h = line_end_within at h
  part_within at (Sign kind) z h = All-cons Within _ [] h (All-nil Within)
  part_within at (Word kind) z h = All-cons Within _ [] h (All-nil Within)

  piece_within : (at : Reading) (piece : Piece) (z : Text) → at.start ≤ n → All Within (lexemes at piece z)
  unfolding lexemes
  piece_within at piece z h = part_within at piece.part (take piece.length z) h

  end_within : (at : Reading) → at.start ≤ n → All Within (lexemes_at_end at)
  end_within at h = All-append Within (line_end at) _ (line_end_within at h) (All-cons Within _ [] h (All-nil Within))

  -- where reading is behind a piece that begins here, and behind a byte
  still_here : (at : Reading) (part : Part) (m : ℕ) → (behind at (record { part = part; length = m })).start ≡ at.start
  unfolding behind
  still_here at Blank m = refl
  still_here at Feed m = refl
  still_here at (Sign kind) m = refl
  still_here at (Word kind) m = refl

  one_on : (b : ℕ) (at : Reading) → (past b at).start ≡ at.start + 1
  unfolding past
  one_on b at = refl

  rest_within : (at : Reading) (z : Text) → at.start + length z ≤ n → All Within (lexemes_from at z)
  rest_within at [] h = end_within at (omega arith)
  rest_within at (b ∷ z) h =
      let s = one_on b at in
      let p = front at.is_glued at.last (b ∷ z) in
      let later = one_on b (behind at p) in
      let same = still_here at p.part p.length in
      by (nat_lt 0 at.left) refl (rest_within (past b at) z (omega arith)) (rest_within (past b (behind at p)) z (omega arith))
    where
      by : (x : Bool) → nat_lt 0 at.left ≡ x → All Within (lexemes_from (past b at) z) →
          All Within (lexemes_from (past b (behind at (front at.is_glued at.last (b ∷ z)))) z) → All Within (lexemes_from at (b ∷ z))
      by true e skipped read = rw e skipped
      by false e skipped read =
          rw e
          (All-append Within (lexemes at (front at.is_glued at.last (b ∷ z)) (b ∷ z)) _
          (piece_within at (front at.is_glued at.last (b ∷ z)) (b ∷ z) (omega arith)) read)

-- they begin within the file
pub all_within : (z : Text) → All (Within (length z)) (tokens z)
unfolding tokens first
all_within z = rest_within (length z) first z (omega arith)
