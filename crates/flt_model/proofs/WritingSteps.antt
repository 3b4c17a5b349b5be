-- What a writer has taken, after one part and another.
use Rattle.std.proofs.Common.{◌≡◌, ◌<◌, ◌≤◌, ◌+◌, ◌-◌, ℕ, [], ◌++◌, length, take, drop, get_or, subst, sym, ap, ◌∙◌, append_assoc}
use Rattle.std.proofs.KnownBytes.{Appends-nil, Appends-trans}
use Rattle.std.proofs.Math.Seq.{take-add}
use Rattle.std.proofs.lemmas.List.{flat_map_more, take_all, take_more, take_rest}
use Rattle.std.specs.Io.KnownBytes.{Appends}
use Rattle.std.specs.List.{flat_map}
use Rattle.std.specs.Prelude.{Option, Result, Ok, Err, OnOk}
use Rattle.flt_model.specs.JournalText.{Entries, entry_line, first_line}
use Rattle.flt_model.specs.Streams.{Text}
use Rattle.flt_model.specs.declared.moves.JournalEntry.{JournalEntry}

-- nothing was written yet
pub none_taken : (old : Option Text) (bytes : Text) → Appends old old (take 0 bytes)
none_taken old bytes = Appends-nil old

-- a part, and then some of the rest
pub more_taken : (old between new : Option Text) (at n : ℕ) (bytes : Text) → Appends old between (take at bytes) →
    Appends between new (take n (take (length bytes - at) (drop at bytes))) → Appends old new (take (at + n) bytes)
more_taken old between new at n bytes first second =
    let rest : Appends between new (take n (drop at bytes)) = rw (take_rest bytes at) at second in
    subst (Appends old new) (sym (take-add at n bytes)) (Appends-trans old between new (take at bytes) (take n (drop at bytes)) first rest)

-- what two writes append is appended in all
pub two_parts : (one two three : Option Text) (a b : Text) → Appends one two a → Appends two three b → Appends one three (a ++ b)
two_parts = Appends-trans

-- what three writes append is appended in all
pub three_parts : (one two three four : Option Text) (a b c : Text) → Appends one two a → Appends two three b →
    Appends three four c → Appends one four (a ++ (b ++ c))
three_parts one two three four a b c first second third =
    Appends-trans one two four a (b ++ c) first (Appends-trans two three four b c second third)

-- the first line, before the entries
pub no_entry_taken : (old new : Option Text) (entries : Entries) → Appends old new first_line →
    Appends old new (first_line ++ flat_map entry_line (take 0 entries))
no_entry_taken old new entries first = Appends-trans old new new first_line [] first (Appends-nil new)

-- one entry more
pub entry_taken : (old between new : Option Text) (entries : Entries) (at : ℕ) (d : JournalEntry) → at < length entries →
    Appends old between (first_line ++ flat_map entry_line (take at entries)) → Appends between new (entry_line (get_or entries at d)) →
    Appends old new (first_line ++ flat_map entry_line (take (at + 1) entries))
entry_taken old between new entries at d low before entry =
    let before_it = take at entries in
    let more : (first_line ++ flat_map entry_line before_it) ++ entry_line (get_or entries at d) ≡ first_line
    ++ flat_map entry_line (take (at + 1) entries) =
    flat_map_more entry_line first_line before_it (get_or entries at d)
    ∙ ap (λ es. first_line ++ flat_map entry_line es) (sym (take_more entries at d low)) in
    subst (Appends old new) more (Appends-trans old between new _ _ before entry)

-- the last line behind the entries, unless that write failed
pub end_taken : {X E : Type 0} (result : Result X E) (old between new : Option Text) (last : Text) (entries : Entries) (at : ℕ) →
    length entries ≤ at →
    Appends old between (first_line ++ flat_map entry_line (take at entries)) → OnOk result (Appends between new last) →
    OnOk result (Appends old new (first_line ++ (flat_map entry_line entries ++ last)))
end_taken (Ok x) old between new last entries at all before end =
    let before : Appends old between (first_line ++ flat_map entry_line entries) = rw (take_all at entries all) at before in
    subst (Appends old new) (append_assoc first_line (flat_map entry_line entries) last) (Appends-trans old between new _ last before end)
end_taken (Err e) old between new last entries at all before end = tt
