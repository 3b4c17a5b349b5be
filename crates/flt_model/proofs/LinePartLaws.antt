-- Parts of lines: what is read is spelled so, and what is spelled so is read.
use Rattle.std.proofs.Common.{◌≡◌, ℕ, false, [], ◌∷◌, ◌++◌, refl, sym, ap, arith, ◌∙◌, append_assoc, get_or}
use Rattle.std.specs.Prelude.{◌==◌, Option, Some, Result, Ok, Err, IfOk}
use Rattle.flt_model.specs.Streams.{Text}
use Rattle.flt_model.specs.JournalText.{IsMove, IsNumber, number_text, move_line}
use Rattle.flt_model.specs.JournalTextReading.{Outcome, Reads, and_then, line, move_by, numbered}
use Rattle.flt_model.specs.LineParts.{IsReadAs}
use Rattle.flt_model.specs.declared.moves.JournalEntry.{JournalEntry}
use Rattle.flt_model.specs.declared.moves.JournalEntry.TheVariants as entries
use Rattle.flt_model.specs.declared.moves.Move.{Move}
use Rattle.flt_model.specs.declared.moves.Move.TheVariants as moves
use Rattle.flt_model.specs.declared.scanner.Stop.{Stop}
use Rattle.flt_model.specs.declared.scanner.Stop.TheVariants.{Wrong, Failed}
use Rattle.flt_model.proofs.JournalLaws.{exactly_again}
use Rattle.flt_model.proofs.LinesOnline.{Behind, Numbered, move_choice, numbered_online}
use Rattle.flt_model.proofs.Numbers.{number_again}
use Rattle.flt_model.proofs.Online.{Choice, Seen, took, stopped, missing, live, dead}
use Rattle.flt_model.proofs.SpelledRead.{line_again}

-- ---- moves

-- a move that is read has this line
move_is_spelled : (b : ℕ) (text : Text) (made : Move) (left : Text) → move_by b text ≡ Ok (made, left) → b ∷ text ≡ move_line made ++ left
move_is_spelled b text made left e = by (move_choice b)
  where
    seen : (out : Outcome Move) → out ≡ Ok (made, left) → Seen (λ w x. Behind [] (b ∷ w) x) (move_by b) text out →
        b ∷ text ≡ move_line made ++ left
    seen _ e (took c x rest same h l) =
        let both : (x, rest) ≡ (made, left) = cc in
        let value = ap (λ (q : Move × Text). q.0) both in
        let behind = ap (λ (q : Move × Text). q.1) both in
        ap (λ z. b ∷ z) same ∙ ap (λ z. z ++ rest) h.0 ∙ ap (λ z. move_line z ++ rest) value ∙ ap (λ z. move_line made ++ z) behind
    seen _ e (stopped c d rest w x same l h) = cc
    seen _ e (missing c w x same h) = cc

    by : Choice (λ w x. Behind [] (b ∷ w) x) (move_by b) → b ∷ text ≡ move_line made ++ left
    by (live online) = seen (move_by b text) e (online.seen text)
    by (dead stops) = let wrong : move_by b text ≡ Err text = stops text in cc

-- a move's line begins with neither of the bytes that the other lines begin with
begins_as_move : (b : ℕ) (text : Text) (made : Move) (behind : Text) → b ∷ text ≡ move_line made ++ behind → ((b == 101) ≡ false)
    × ((b == 103) ≡ false)
begins_as_move b text (moves.Arrive operation mode file) behind e = let first : b ≡ 97 = ap (λ t. get_or t 0 0) e in rw first (refl, refl)
begins_as_move b text (moves.Pre serial) behind e = let first : b ≡ 112 = ap (λ t. get_or t 0 0) e in rw first (refl, refl)
begins_as_move b text (moves.Skip serial) behind e = let first : b ≡ 115 = ap (λ t. get_or t 0 0) e in rw first (refl, refl)
begins_as_move b text (moves.Lower serial) behind e = let first : b ≡ 108 = ap (λ t. get_or t 0 0) e in rw first (refl, refl)
begins_as_move b text (moves.Post serial) behind e = let first : b ≡ 112 = ap (λ t. get_or t 0 0) e in rw first (refl, refl)
begins_as_move b text (moves.Cancel serial) behind e = let first : b ≡ 99 = ap (λ t. get_or t 0 0) e in rw first (refl, refl)
begins_as_move b text (moves.Canceled altitude serial) behind e = let first : b ≡ 99 = ap (λ t. get_or t 0 0) e in rw first (refl, refl)
begins_as_move b text (moves.Work item) behind e = let first : b ≡ 119 = ap (λ t. get_or t 0 0) e in rw first (refl, refl)
begins_as_move b text (moves.Detach altitude) behind e = let first : b ≡ 100 = ap (λ t. get_or t 0 0) e in rw first (refl, refl)
begins_as_move b text (moves.Drain altitude serial) behind e = let first : b ≡ 100 = ap (λ t. get_or t 0 0) e in rw first (refl, refl)
begins_as_move b text (moves.Unlink altitude key) behind e = let first : b ≡ 117 = ap (λ t. get_or t 0 0) e in rw first (refl, refl)
begins_as_move b text (moves.Detached altitude) behind e = let first : b ≡ 100 = ap (λ t. get_or t 0 0) e in rw first (refl, refl)

same_pair : {A : Type 0} (x y : A × Text) (out : Outcome A) → out ≡ Ok x → out ≡ Ok y → x ≡ y
same_pair x y out h k = cc

-- a line that reads as a move is the move's
only_move : (out : Outcome Move) (made : Move) (behind : Text) →
    and_then out (λ q. Ok (Some (entries.Move q.0), q.1)) ≡ Ok (Some (entries.Move made), behind) → out ≡ Ok (made, behind)
only_move (Ok q) made behind e =
    let both = same_pair (Some (entries.Move q.0), q.1) (Some (entries.Move made), behind) (Ok (Some (entries.Move q.0), q.1)) refl e in
    let entry : Some (entries.Move q.0) ≡ Some (entries.Move made) = ap (λ (z : Option JournalEntry × Text). z.0) both in
    let value : q.0 ≡ made = cc in
    let rest : q.1 ≡ behind = ap (λ (z : Option JournalEntry × Text). z.1) both in
    ap (λ z. Ok (z, q.1)) value ∙ ap (λ z. Ok (made, z)) rest
only_move (Err left) made behind e = cc

-- the line of a move is read
move_is_read : (b : ℕ) (text : Text) (made : Move) (behind : Text) → IsMove made → b ∷ text ≡ move_line made ++ behind →
    move_by b text ≡ Ok (made, behind)
unfolding line
move_is_read b text made behind h e =
    let other = begins_as_move b text made behind e in
    let whole : line (b ∷ text) ≡ Ok (Some (entries.Move made), behind) = ap line e ∙ line_again (entries.Move made) behind h in
    only_move (move_by b text) made behind (sym (rw (other.0, other.1) refl) ∙ whole)

-- ---- words and numbers

number_is_spelled : (word text : Text) (n : ℕ) (left : Text) → numbered word text ≡ Ok (n, left) → text ≡ word ++ (number_text n 10 ++ left)
number_is_spelled word text n left e = seen (numbered word text) e ((numbered_online word).seen text)
  where
    seen : (out : Outcome ℕ) → out ≡ Ok (n, left) → Seen (Numbered word) (numbered word) text out →
        text ≡ word ++ (number_text n 10 ++ left)
    seen _ e (took c m rest same h l) =
        let both : (m, rest) ≡ (n, left) = cc in
        let value = ap (λ (q : ℕ × Text). q.0) both in
        let behind = ap (λ (q : ℕ × Text). q.1) both in
        same ∙ ap (λ z. z ++ rest) h.0 ∙ append_assoc word (number_text m 10) rest
        ∙ ap (λ z. word ++ (number_text z 10 ++ rest)) value ∙ ap (λ z. word ++ (number_text n 10 ++ z)) behind
    seen _ e (stopped c d rest w x same l h) = cc
    seen _ e (missing c w x same h) = cc

number_is_read : (word text : Text) (n : ℕ) (behind : Text) → IsNumber n → text ≡ word ++ (number_text n 10 ++ behind) →
    numbered word text ≡ Ok (n, behind)
unfolding numbered
number_is_read word text n behind h e = ap (numbered word) e
    ∙ rw (exactly_again word (number_text n 10 ++ behind)) (number_again 10 n behind (omega arith) h)

-- ---- what the functions ensure

-- a move that is read is spelled by what was read
pub reads_spelled_move : (b : ℕ) (text : Text) (r : Result Move Stop) (left : Text) → Reads (move_by b text) r left →
    IfOk r (λ made. b ∷ text ≡ move_line made ++ left)
reads_spelled_move b text (Ok made) left h = move_is_spelled b text made left h
reads_spelled_move b text (Err e) left h = tt

-- the spelling of a move is read as this move
pub reads_move_again : (b : ℕ) (text : Text) (r : Result Move Stop) (left : Text) → Reads (move_by b text) r left →
    (made : Move) → IsMove made → (behind : Text) → b ∷ text ≡ move_line made ++ behind → IsReadAs made behind r left
reads_move_again b text (Ok found) left h made good behind e =
    let read : move_by b text ≡ Ok (made, behind) = move_is_read b text made behind good e in
    let both : (found, left) ≡ (made, behind) = cc in
    (ap (λ (q : Move × Text). q.0) both, ap (λ (q : Move × Text). q.1) both)
reads_move_again b text (Err Wrong) left h made good behind e = let read : move_by b text ≡ Ok (made, behind) =
    move_is_read b text made behind good e in cc
reads_move_again b text (Err Failed) left h made good behind e = tt

-- a number that is read after a word is spelled by what was read
pub reads_spelled_number : (word text : Text) (r : Result ℕ Stop) (left : Text) → Reads (numbered word text) r left →
    IfOk r (λ n. text ≡ word ++ (number_text n 10 ++ left))
reads_spelled_number word text (Ok n) left h = number_is_spelled word text n left h
reads_spelled_number word text (Err e) left h = tt

-- a number's spelling after a word is read as this number
pub reads_number_again : (word text : Text) (r : Result ℕ Stop) (left : Text) → Reads (numbered word text) r left →
    (n : ℕ) → IsNumber n → (behind : Text) → text ≡ word ++ (number_text n 10 ++ behind) → IsReadAs n behind r left
reads_number_again word text (Ok found) left h n good behind e =
    let read : numbered word text ≡ Ok (n, behind) = number_is_read word text n behind good e in
    let both : (found, left) ≡ (n, behind) = cc in
    (ap (λ (q : ℕ × Text). q.0) both, ap (λ (q : ℕ × Text). q.1) both)
reads_number_again word text (Err Wrong) left h n good behind e = let read : numbered word text ≡ Ok (n, behind) =
    number_is_read word text n behind good e in cc
reads_number_again word text (Err Failed) left h n good behind e = tt
