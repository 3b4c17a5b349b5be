-- Where lines end: each has one LF, its last byte.
use Rattle.std.proofs.Common.{◌≡◌, ◌<◌, ◌+◌, ◌%◌, ◌^◌, ℕ, suc, Bool, true, false, [], ◌∷◌, ◌++◌, refl, sym, ap, arith, ◌∙◌, append_assoc}
use Rattle.std.specs.Prelude.{◌==◌, if◌then◌else◌, Option, Some, None, codes}
use Rattle.std.specs.Fmt.{decimal}
use Rattle.std.proofs.lemmas.Bool.{eqb-true, ne_eqb}
use Rattle.std.proofs.lemmas.Fmt.{decimal_by_steps}
use Rattle.flt_rules.proofs.Operations.{of_each}
use Rattle.flt_rules.specs.declared.place.Operation.{Operation}
use Rattle.flt_rules.specs.declared.place.Mode.{Mode}
use Rattle.flt_rules.specs.declared.place.Mode.TheVariants.{Irp, Fast}
use Rattle.flt_model.specs.Streams.{Text}
use Rattle.flt_model.specs.JournalText.{IsEntry, number_text, operation_text, mode_text, entry_line, line_ends}
use Rattle.flt_model.specs.declared.moves.JournalEntry.{JournalEntry}
use Rattle.flt_model.specs.declared.moves.JournalEntry.TheVariants as entries
use Rattle.flt_model.specs.declared.moves.Key.TheVariants.{Stream, Instance}
use Rattle.flt_model.specs.declared.moves.Move.TheVariants as moves
use Rattle.flt_model.proofs.LinesOnline.{line_text, IsLine}

-- two texts one after the other have the line ends of both
pub ends_both : (a b : Text) → line_ends (a ++ b) ≡ line_ends a + line_ends b
ends_both [] b = omega arith
ends_both (x ∷ a) b = go (x == 10) (ends_both a b)
  where
    go : (z : Bool) → line_ends (a ++ b) ≡ line_ends a + line_ends b →
        (if z then suc (line_ends (a ++ b)) else line_ends (a ++ b)) ≡ (if z then suc (line_ends a) else line_ends a) + line_ends b
    go true h = omega arith
    go false h = h

decimal_plain : (n : ℕ) → n < 2 ^ 32 → line_ends (decimal n) ≡ 0
decimal_plain n small = decimal_by_steps (λ m ds. line_ends ds ≡ 0) (λ m low. one m)
    (λ m ds big h. ends_both ds ((48 + m % 10) ∷ []) ∙ (let last = one (m % 10) in omega arith)) n (omega arith)
  where
    one : (m : ℕ) → line_ends ((48 + m) ∷ []) ≡ 0
    one m = rw (ne_eqb (48 + m) 10 (λ h. omega arith)) refl

-- a line without its LF
pub record Ended (text : Text) : Type 0 where
  pub body : Text
  pub whole : text ≡ body ++ 10 ∷ []
  pub plain : line_ends body ≡ 0

-- a text without a line end, and an LF after it, is a line
pub bare : (front : Text) → line_ends front ≡ 0 → Ended (front ++ 10 ∷ [])
bare front h = record { body = front; whole = refl; plain = h }

behind : (front text : Text) → line_ends front ≡ 0 → Ended text → Ended (front ++ text)
behind front text h e = record {
  body = front ++ e.body;
  whole = ap (λ z. front ++ z) e.whole ∙ sym (append_assoc front e.body (10 ∷ []));
  plain = ends_both front e.body ∙ (let plain = e.plain in omega arith);
}

number_ended : (n : ℕ) → n < 2 ^ 32 → Ended (number_text n 10)
number_ended n small = bare (decimal n) (decimal_plain n small)

number_plain : (n : ℕ) → n < 2 ^ 32 → line_ends (number_text n 32) ≡ 0
number_plain n small = ends_both (decimal n) (32 ∷ []) ∙ (let plain = decimal_plain n small in omega arith)

operation_plain : (o : Operation) → line_ends (operation_text o) ≡ 0
operation_plain o = eqb-true (line_ends (operation_text o)) 0 (of_each (λ o. line_ends (operation_text o) == 0) refl o)

mode_plain : (m : Mode) → line_ends (mode_text m) ≡ 0
mode_plain Irp = refl
mode_plain Fast = refl

pub entry_ended : (entry : JournalEntry) → IsEntry entry → Ended (entry_line entry)
entry_ended (entries.Move (moves.Arrive o m file)) h =
    behind (codes "arrive ") (operation_text o ++ (mode_text m ++ number_text file 10)) refl
    (behind (operation_text o) (mode_text m ++ number_text file 10) (operation_plain o)
    (behind (mode_text m) (number_text file 10) (mode_plain m) (number_ended file h)))
entry_ended (entries.Move (moves.Pre serial)) h = behind (codes "pre ") (number_text serial 10) refl (number_ended serial h)
entry_ended (entries.Move (moves.Skip serial)) h = behind (codes "skip ") (number_text serial 10) refl (number_ended serial h)
entry_ended (entries.Move (moves.Lower serial)) h = behind (codes "lower ") (number_text serial 10) refl (number_ended serial h)
entry_ended (entries.Move (moves.Post serial)) h = behind (codes "post ") (number_text serial 10) refl (number_ended serial h)
entry_ended (entries.Move (moves.Cancel serial)) h = behind (codes "cancel ") (number_text serial 10) refl (number_ended serial h)
entry_ended (entries.Move (moves.Canceled altitude serial)) h =
    behind (codes "canceled ") (number_text altitude 32 ++ number_text serial 10) refl
    (behind (number_text altitude 32) (number_text serial 10) (number_plain altitude h.0) (number_ended serial h.1))
entry_ended (entries.Move (moves.Work item)) h = behind (codes "work ") (number_text item 10) refl (number_ended item h)
entry_ended (entries.Move (moves.Detach altitude)) h = behind (codes "detach ") (number_text altitude 10) refl (number_ended altitude h)
entry_ended (entries.Move (moves.Drain altitude serial)) h =
    behind (codes "drain ") (number_text altitude 32 ++ number_text serial 10) refl
    (behind (number_text altitude 32) (number_text serial 10) (number_plain altitude h.0) (number_ended serial h.1))
entry_ended (entries.Move (moves.Unlink altitude (Stream file))) h =
    behind (codes "unlink ") (number_text altitude 32 ++ (codes "stream " ++ number_text file 10)) refl
    (behind (number_text altitude 32) (codes "stream " ++ number_text file 10) (number_plain altitude h.0)
    (behind (codes "stream ") (number_text file 10) refl (number_ended file h.1)))
entry_ended (entries.Move (moves.Unlink altitude Instance)) h =
    behind (codes "unlink ") (number_text altitude 32 ++ (codes "instance" ++ 10 ∷ [])) refl
    (behind (number_text altitude 32) (codes "instance" ++ 10 ∷ []) (number_plain altitude h.0) (bare (codes "instance") refl))
entry_ended (entries.Move (moves.Detached altitude)) h = behind (codes "detached ") (number_text altitude 10) refl (number_ended altitude h)
entry_ended (entries.Go activation steps true) h =
    behind (codes "go ") (number_text activation 32 ++ (number_text steps 32 ++ (codes "yes" ++ 10 ∷ []))) refl
    (behind (number_text activation 32) (number_text steps 32 ++ (codes "yes" ++ 10 ∷ [])) (number_plain activation h.0)
    (behind (number_text steps 32) (codes "yes" ++ 10 ∷ []) (number_plain steps h.1) (bare (codes "yes") refl)))
entry_ended (entries.Go activation steps false) h =
    behind (codes "go ") (number_text activation 32 ++ (number_text steps 32 ++ (codes "no" ++ 10 ∷ []))) refl
    (behind (number_text activation 32) (number_text steps 32 ++ (codes "no" ++ 10 ∷ [])) (number_plain activation h.0)
    (behind (number_text steps 32) (codes "no" ++ 10 ∷ []) (number_plain steps h.1) (bare (codes "no") refl)))

-- the text of an entry's line is one line
pub line_ended : (x : Option JournalEntry) → IsLine x → Ended (line_text x)
line_ended None h = bare (codes "end") refl
line_ended (Some entry) h = entry_ended entry h

-- a line has one line end
pub one_end : (text : Text) → Ended text → line_ends text ≡ 1
one_end text e = ap line_ends e.whole ∙ ends_both e.body (10 ∷ []) ∙ (let plain = e.plain in omega arith)

front_plain : (c w body : Text) → c ++ w ≡ body ++ 10 ∷ [] → (w ≡ [] → ⊥) → line_ends body ≡ 0 → line_ends c ≡ 0
front_plain [] w body e some plain = refl
front_plain (x ∷ c) w [] e some plain = let rest : c ++ w ≡ [] = cc in absurd (some (last c rest))
  where
    last : (c : Text) → c ++ w ≡ [] → w ≡ []
    last [] e = e
    last (y ∷ c) e = cc
front_plain (x ∷ c) w (y ∷ body) e some plain =
    let same : x ≡ y = cc in
    let rest : c ++ w ≡ body ++ 10 ∷ [] = cc in
    go (y == 10) refl same plain (front_plain c w body rest some)
  where
    go : (z : Bool) → (y == 10) ≡ z → x ≡ y → (if z then suc (line_ends body) else line_ends body) ≡ 0 →
        (line_ends body ≡ 0 → line_ends c ≡ 0) → line_ends (x ∷ c) ≡ 0
    go true e same p others = absurd (omega arith)
    go false e same p others = rw (same, e) (others p)

-- the front of a line has no LF
pub within_line : (c w text : Text) → c ++ w ≡ text → (w ≡ [] → ⊥) → Ended text → line_ends c ≡ 0
within_line c w text e some ended = front_plain c w ended.body (e ∙ ended.whole) some ended.plain
