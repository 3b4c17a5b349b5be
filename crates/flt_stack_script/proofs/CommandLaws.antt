-- The line of a command: what is read of it, and that no other command has it.
use Rattle.std.proofs.Common.{◌≡◌, ◌<◌, ◌-◌, ◌^◌, ℕ, true, [], ◌∷◌, ◌++◌, length, take, drop, refl, sym, ap, arith, ◌∙◌, get_or}
use Rattle.std.specs.Prelude.{nat_lt, Some, None, Result, Ok, Err}
use Rattle.std.specs.Result.{result_ok}
use Rattle.std.proofs.lemmas.Bool.{and_parts, ltb-true}
use Rattle.std.proofs.lemmas.List.{take_rest}
use Rattle.flt_rules.specs.Place.{fits_mode}
use Rattle.flt_model.specs.JournalText.{IsMove, move_line}
use Rattle.flt_model.specs.JournalTextReading.{Counts}
use Rattle.flt_model.specs.LineParts.{IsReadAs}
use Rattle.flt_model.specs.Streams.{Text}
use Rattle.flt_model.specs.declared.moves.Move.{Move}
use Rattle.flt_model.specs.declared.moves.Move.TheVariants as moves
use Rattle.flt_model.specs.declared.scanner.Stop.{Stop}
use Rattle.flt_model.specs.declared.scanner.Stop.TheVariants.{Wrong, Failed}
use Rattle.flt_stack_script.specs.ScriptText.{is_command, command_line, command_of}
use Rattle.flt_stack_script.specs.declared.command.Command.{Command}
use Rattle.flt_stack_script.specs.declared.command.Command.TheVariants.{Arrive, Cancel, Detach, Refuse}
use Rattle.flt_rules.specs.Limits.{max_operations}

-- ---- the first byte of a line

some_byte : (b : ℕ) (text : Text) → b ∷ text ≡ [] → ⊥
some_byte b text e = cc

-- a line isn't empty
pub line_some : (command : Command) (text : Text) → command_line command ++ text ≡ [] → ⊥
line_some (Arrive operation mode file) text e = some_byte 97 _ e
line_some (Cancel serial) text e = some_byte 99 _ e
line_some (Detach altitude) text e = some_byte 100 _ e
line_some (Refuse choice) text e = some_byte 114 _ e

-- a line that begins otherwise than "refuse" is a move's
made_of : (b : ℕ) (others behind : Text) (command : Command) → (b ≡ 114 → ⊥) → b ∷ others ≡ command_line command ++ behind →
    is_command command ≡ true →
    (made : Move) × (command_of made ≡ Some command) × (b ∷ others ≡ move_line made ++ behind) × IsMove made
made_of b others behind (Arrive operation mode file) other e h =
    let parts = and_parts (fits_mode operation mode) (nat_lt file 1024) h in
    let small : file < 1024 = ltb-true file 1024 parts.1 in
    (moves.Arrive operation mode file, refl, e, omega arith)
made_of b others behind (Cancel serial) other e h = let small : serial < max_operations = ltb-true serial max_operations h in
    (moves.Cancel serial, refl, e, omega arith)
made_of b others behind (Detach altitude) other e h = (moves.Detach altitude, refl, e, ltb-true altitude (2 ^ 32) h)
made_of b others behind (Refuse choice) other e h = absurd (other (ap (λ t. get_or t 0 0) e))

-- ---- what is read of a line

-- no read of a slice fails
never_failed : {A : Type 0} (r : Result A Stop) → Counts r 0 0 → (value : A) (behind left : Text) → IsReadAs value behind r left →
    (r ≡ Ok value) × (left ≡ behind)
never_failed (Ok found) fine value behind left h = (ap Ok h.0, h.1)
never_failed (Err Wrong) fine value behind left h = absurd h
never_failed (Err Failed) fine value behind left h = absurd (fine refl)

-- the first byte of a text, and the others
parts_of : (text : Text) → (text ≡ [] → ⊥) → get_or text 0 0 ∷ take (length text - 1) (drop 1 text) ≡ text
parts_of [] some = absurd (some refl)
parts_of (b ∷ text) some = ap (λ z. b ∷ z) (take_rest (b ∷ text) 1)

-- behind its first byte the line of a move is read
pub reads_made : (text left : Text) (r : Result Move Stop) → (get_or text 0 0 ≡ 114 → ⊥) → Counts r 0 0 →
    ((made : Move) → IsMove made → (behind : Text) →
    get_or text 0 0 ∷ take (length text - 1) (drop 1 text) ≡ move_line made ++ behind → IsReadAs made behind r left) →
    (command : Command) → is_command command ≡ true → (behind : Text) → text ≡ command_line command ++ behind →
    (made : Move) × (command_of made ≡ Some command) × (r ≡ Ok made) × (left ≡ behind)
reads_made text left r other fine reads command good behind e =
    let parts = parts_of text (λ none. line_some command behind (sym e ∙ none)) in
    let made = made_of (get_or text 0 0) (take (length text - 1) (drop 1 text)) behind command other (parts ∙ e) good in
    let read = never_failed r fine made.0 behind left (reads made.0 made.3 behind made.2) in
    (made.0, made.1, read.0, read.1)

-- a move that was read is the one
pub made_is : (r : Result Move Stop) (made found : Move) → r ≡ Ok made → result_ok r ≡ Some found → found ≡ made
made_is r made found e h = let same : Some found ≡ Some made = sym h ∙ ap result_ok e in cc

-- a result that is well has a value
pub made_none : (r : Result Move Stop) (made : Move) → r ≡ Ok made → result_ok r ≡ None → ⊥
made_none r made e h = let same : None ≡ Some made = sym h ∙ ap result_ok e in cc
