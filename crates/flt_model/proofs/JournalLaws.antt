-- Journals: what is read is spelled so, and a fault stands at the first malformed byte.
use Rattle.std.proofs.Common.{◌≡◌, ◌≤◌, ◌+◌, ℕ, zero, suc, [], ◌∷◌, ◌++◌, length, drop, refl, sym, ap}
use Rattle.std.proofs.Common.{subst, arith, ◌∙◌, append_assoc, append-nil, length-append, inl, inr}
use Rattle.std.specs.Prelude.{◌⊎◌, Option, Some, None, Result, Ok, Err, IfOk, OnOk, MatchResult, codes}
use Rattle.std.specs.List.{flat_map, AllByRecursion}
use Rattle.std.proofs.Math.Seq.{drop-append_seam}
use Rattle.std.proofs.lemmas.Bool.{eq-eqb}
use Rattle.flt_model.specs.Streams.{Text}
use Rattle.flt_model.specs.JournalText.{Entries, IsEntry, IsJournal, most_entries, entry_line, first_line}
use Rattle.flt_model.specs.JournalText.{last_line, spelling, line_ends, IsFirstFault}
use Rattle.flt_model.specs.JournalTextReading.{Reading, Fault, Outcome, exactly, line, at_line, closed, behind}
use Rattle.flt_model.specs.JournalTextReading.{entries_from, journal, ReadsAll, IsHindrance, IsFaultOf}
use Rattle.flt_model.specs.declared.fault.JournalFault.{JournalFault}
use Rattle.flt_model.specs.declared.fault.JournalFault.TheVariants as faults
use Rattle.flt_model.specs.declared.moves.JournalEntry.{JournalEntry}
use Rattle.flt_model.proofs.LineEnds.{bare, line_ended, one_end, within_line, ends_both}
use Rattle.flt_model.proofs.LinesOnline.{Line, IsLine, line_text, line_online}
use Rattle.flt_model.proofs.Online.{Seen, took, stopped, missing, exactly_online}
use Rattle.flt_model.proofs.SpelledRead.{any_line_again, spelled_read}

-- ---- the words of these laws

-- the text of the entries that are left, and the last line
abbrev rest_of : Entries → Text
rest_of more = flat_map entry_line more ++ last_line

-- entries, so many at most
abbrev Few : ℕ → Entries → Type 0
Few left more = AllByRecursion IsEntry more × (length more ≤ left)

-- reading stops at a byte behind those given, whatever follows it; or where the text ends
abbrev Halts : (Text → Reading) → Text → Text → ℕ → Text → Type 0
Halts f given text n rest =
    ((b : ℕ) × (text ≡ given ++ b ∷ rest) × ((s : Text) → f (given ++ b ∷ s) ≡ Err (record { line = n; left = s })))
    ⊎ ((text ≡ given) × (rest ≡ []))

-- what is read of entries that are left
data Goes (left : ℕ) (found : Entries) (text : Text) : Reading → Type 0 where
  all : (more : Entries) → text ≡ rest_of more → Few left more → Goes left found text (Ok (found ++ more))
  fault : (given w : Text) (more : Entries) (n : ℕ) (rest : Text) → Few left more → rest_of more ≡ given ++ w →
      n ≡ length found + 2 + line_ends given →
      Halts (entries_from left found) given text n rest → Goes left found text (Err (record { line = n; left = rest }))

-- ---- a front of what is read

-- bytes that stand in front of a text are read from it
pub exactly_again : (front text : Text) → exactly front (front ++ text) ≡ Ok (tt, text)
exactly_again [] text = refl
exactly_again (b ∷ front) text = rw (eq-eqb b b refl) (exactly_again front text)

-- what is at hand begins with these bytes, and they are passed over
pub exactly_at_hand : (bytes ready left coming new : Text) → ready ≡ bytes ++ drop (length bytes) ready → coming ≡ ready ++ left →
    new ≡ drop (length bytes) coming → exactly bytes coming ≡ Ok (tt, new)
exactly_at_hand bytes ready left coming new split is passed =
    let rest = drop (length bytes) ready ++ left in
    let all : coming ≡ bytes ++ rest = is ∙ ap (λ t. t ++ left) split ∙ append_assoc bytes (drop (length bytes) ready) left in
    let behind : new ≡ rest = passed ∙ ap (drop (length bytes)) all ∙ drop-append_seam bytes rest in
    ap (exactly bytes) all ∙ exactly_again bytes rest ∙ ap (λ z. Ok (tt, z)) (sym behind)

-- a byte goes on no line, so a line isn't whole before it
not_whole : (x : Option JournalEntry) (c w : Text) (b : ℕ) → IsLine x → c ++ w ≡ line_text x →
    ((s : Text) → line (c ++ b ∷ s) ≡ Err s) → w ≡ [] → ⊥
not_whole x c w b h e l none =
    let same : c ≡ line_text x = sym (append-nil c) ∙ ap (λ z. c ++ z) (sym none) ∙ e in
    let read : line (c ++ b ∷ []) ≡ Ok (x, b ∷ []) = ap (λ z. line (z ++ b ∷ [])) same ∙ any_line_again x (b ∷ []) h in
    let refused : line (c ++ b ∷ []) ≡ Err [] = l [] in
    cc

not_all : (x : Option JournalEntry) (text c w : Text) → IsLine x → c ++ w ≡ line_text x → text ≡ c → line text ≡ Err [] → w ≡ [] → ⊥
not_all x text c w h e t l none =
    let same : text ≡ line_text x = t ∙ sym (append-nil c) ∙ ap (λ z. c ++ z) (sym none) ∙ e in
    let read : line text ≡ Ok (x, []) = ap line (same ∙ sym (append-nil (line_text x))) ∙ any_line_again x [] h in
    cc

not_whole_words : (front c w : Text) (b : ℕ) → c ++ w ≡ front → ((s : Text) → exactly front (c ++ b ∷ s) ≡ Err s) → w ≡ [] → ⊥
not_whole_words front c w b e l none =
    let same : c ≡ front = sym (append-nil c) ∙ ap (λ z. c ++ z) (sym none) ∙ e in
    let read : exactly front (c ++ b ∷ []) ≡ Ok (tt, b ∷ []) = ap (λ z. exactly front (z ++ b ∷ [])) same ∙ exactly_again front (b ∷ []) in
    let refused : exactly front (c ++ b ∷ []) ≡ Err [] = l [] in
    cc

not_all_words : (front text c w : Text) → c ++ w ≡ front → text ≡ c → exactly front text ≡ Err [] → w ≡ [] → ⊥
not_all_words front text c w e t l none =
    let same : text ≡ front = t ∙ sym (append-nil c) ∙ ap (λ z. c ++ z) (sym none) ∙ e in
    let read : exactly front text ≡ Ok (tt, []) = ap (exactly front) (same ∙ sym (append-nil front)) ∙ exactly_again front [] in
    cc

-- ---- the entries

no_entry : (left : ℕ) → Few left []
no_entry left = (tt, omega arith)

-- behind the last line
closing : (left : ℕ) (found : Entries) (text left_text : Text) → text ≡ last_line ++ left_text →
    ((s : Text) → entries_from left found (last_line ++ s) ≡ closed found s) →
    Goes left found text (closed found left_text)
closing left found text [] e l = subst (λ z. Goes left found text (Ok z)) (append-nil found) (all [] e (no_entry left))
closing left found text (b ∷ rest) e l =
    fault last_line [] [] (length found + 3) rest (no_entry left) refl (let one : line_ends last_line ≡ 1 = refl in omega arith)
    (inl (b, e, λ s. l (b ∷ s)))

-- one entry more
one_more : (left : ℕ) (found : Entries) (entry : JournalEntry) (c text rest : Text) (out : Reading) → c ≡ entry_line entry →
    IsEntry entry → text ≡ c ++ rest →
    ((s : Text) → entries_from (suc left) found (c ++ s) ≡ entries_from left (found ++ entry ∷ []) s) →
    Goes left (found ++ entry ∷ []) rest out → Goes (suc left) found text out
one_more left found entry c text rest _ e h t l (all more r few) =
    subst (λ z. Goes (suc left) found text (Ok z)) (sym (append_assoc found (entry ∷ []) more))
    (all (entry ∷ more) (t ∙ ap (λ z. c ++ z) r ∙ ap (λ z. z ++ rest_of more) e
    ∙ sym (append_assoc (entry_line entry) (flat_map entry_line more) last_line)) ((h, few.0), (let most = few.1 in omega arith)))
one_more left found entry c text rest _ e h t l (fault given w more n r few begun number halts) =
    fault (c ++ given) w (entry ∷ more) n r ((h, few.0), (let most = few.1 in omega arith))
    (append_assoc (entry_line entry) (flat_map entry_line more) last_line ∙ ap (λ z. z ++ rest_of more) (sym e)
    ∙ ap (λ z. c ++ z) begun ∙ sym (append_assoc c given w))
    (number ∙ ends) (moved halts)
  where
    ends : length (found ++ entry ∷ []) + 2 + line_ends given ≡ length found + 2 + line_ends (c ++ given)
    ends =
        let len = length-append found (entry ∷ []) in
        let both = ends_both c given in
        let one : line_ends c ≡ 1 = ap line_ends e ∙ one_end (entry_line entry) (line_ended (Some entry) h) in
        omega arith

    moved : Halts (entries_from left (found ++ entry ∷ [])) given rest n r → Halts (entries_from (suc left) found) (c ++ given) text n r
    moved (inl x) = inl (
      x.0,
      t ∙ ap (λ z. c ++ z) x.1 ∙ sym (append_assoc c given (x.0 ∷ r)),
      λ s. ap (entries_from (suc left) found) (append_assoc c given (x.0 ∷ s)) ∙ l (given ++ x.0 ∷ s) ∙ x.2 s,
    )
    moved (inr x) = inr (t ∙ ap (λ z. c ++ z) x.0, x.1)

-- the front of a line, behind entries that were read
begun_line : (left : ℕ) (x : Option JournalEntry) (c w : Text) → IsLine x → c ++ w ≡ line_text x → 1 ≤ left →
    (more : Entries) × (v : Text) × Few left more × (rest_of more ≡ c ++ v)
begun_line left None c w h e some = ([], w, no_entry left, sym e)
begun_line left (Some entry) c w h e some = (
  entry ∷ [],
  w ++ last_line,
  ((h, tt), some),
  ap (λ z. z ++ last_line) (append-nil (entry_line entry) ∙ sym e)
      ∙ append_assoc c w last_line,
)

goes_by : (left : ℕ) (found : Entries) (text : Text) (o : Outcome (Option JournalEntry)) → line text ≡ o → Seen Line line text o →
    ((entry : JournalEntry) (rest : Text) → Goes left (found ++ entry ∷ []) rest (entries_from left (found ++ entry ∷ []) rest)) →
    Goes (suc left) found text (at_line (length found + 2) o (λ q. behind (entries_from left) found q.0 q.1))
unfolding entries_from line
goes_by left found text _ is (took c None rest e h l) more =
    let front : c ≡ last_line = h.0 in
    closing (suc left) found text rest (e ∙ ap (λ z. z ++ rest) front) (λ s. refl)
goes_by left found text _ is (took c (Some entry) rest e h l) more =
    one_more left found entry c text rest (entries_from left (found ++ entry ∷ []) rest) h.0 h.1 e (λ s. rw (l s) refl) (more entry rest)
goes_by left found text _ is (stopped c b rest w x e l h) more =
    let begun = begun_line (suc left) x c w h.1 h.0 (omega arith) in
    let plain = within_line c w (line_text x) h.0 (not_whole x c w b h.1 h.0 l) (line_ended x h.1) in
    fault c begun.1 begun.0 (length found + 2) rest begun.2 begun.3 (omega arith) (inl (b, e, λ s. rw (l s) refl))
goes_by left found text _ is (missing c w x e h) more =
    let begun = begun_line (suc left) x c w h.1 h.0 (omega arith) in
    let plain = within_line c w (line_text x) h.0 (not_all x text c w h.1 h.0 e is) (line_ended x h.1) in
    fault c begun.1 begun.0 (length found + 2) [] begun.2 begun.3 (omega arith) (inr (e, refl))

last_by : (found : Entries) (text : Text) (o : Outcome (Unit {0})) → exactly last_line text ≡ o →
    Seen (λ c x. c ≡ last_line) (exactly last_line) text o →
    Goes 0 found text (at_line (length found + 2) o (λ q. closed found q.1))
unfolding entries_from
last_by found text _ is (took c x rest e h l) = closing 0 found text rest (e ∙ ap (λ z. z ++ rest) h) (λ s. refl)
last_by found text _ is (stopped c b rest w x e l h) =
    let plain = within_line c w last_line h (not_whole_words last_line c w b h l) (bare (codes "end") refl) in
    fault c w [] (length found + 2) rest (no_entry 0) (sym h) (omega arith) (inl (b, e, λ s. rw (l s) refl))
last_by found text _ is (missing c w x e h) =
    let plain = within_line c w last_line h (not_all_words last_line text c w h e is) (bare (codes "end") refl) in
    fault c w [] (length found + 2) [] (no_entry 0) (sym h) (omega arith) (inr (e, refl))

goes : (left : ℕ) (found : Entries) (text : Text) → Goes left found text (entries_from left found text)
unfolding entries_from
goes zero found text = last_by found text (exactly last_line text) refl ((exactly_online last_line).seen text)
goes (suc left) found text = goes_by left found text (line text) refl (line_online.seen text)
    (λ entry rest. goes left (found ++ entry ∷ []) rest)

-- ---- the whole of a journal

-- how a text is read
data ReadAs (text : Text) : Reading → Type 0 where
  spelled : (entries : Entries) → text ≡ spelling entries → IsJournal entries → ReadAs text (Ok entries)
  refused : (given w : Text) (whose : Entries) (n : ℕ) (rest : Text) → IsJournal whose → spelling whose ≡ given ++ w →
      n ≡ suc (line_ends given) →
      Halts journal given text n rest → ReadAs text (Err (record { line = n; left = rest }))

behind_first : (c text rest : Text) (out : Reading) → c ≡ first_line → text ≡ c ++ rest →
    ((s : Text) → journal (c ++ s) ≡ entries_from most_entries [] s) →
    Goes most_entries [] rest out → ReadAs text out
behind_first c text rest _ e t l (all more r few) = spelled more (t ∙ ap (λ z. c ++ z) r ∙ ap (λ z. z ++ rest_of more) e) few
behind_first c text rest _ e t l (fault given w more n r few begun number halts) =
    refused (c ++ given) w more n r few
    (ap (λ z. z ++ rest_of more) (sym e) ∙ ap (λ z. c ++ z) begun ∙ sym (append_assoc c given w)) counted (moved halts)
  where
    counted : n ≡ suc (line_ends (c ++ given))
    counted =
        let ends : line_ends (first_line ++ given) ≡ suc (line_ends given) = refl in
        let two : n ≡ suc (line_ends (first_line ++ given)) = omega (arith, number) in
        two ∙ ap (λ z. suc (line_ends (z ++ given))) (sym e)

    moved : Halts (entries_from most_entries []) given rest n r → Halts journal (c ++ given) text n r
    moved (inl x) = inl (
      x.0,
      t ∙ ap (λ z. c ++ z) x.1 ∙ sym (append_assoc c given (x.0 ∷ r)),
      λ s. ap journal (append_assoc c given (x.0 ∷ s)) ∙ l (given ++ x.0 ∷ s) ∙ x.2 s,
    )
    moved (inr x) = inr (t ∙ ap (λ z. c ++ z) x.0, x.1)

begun_first : (c w : Text) → c ++ w ≡ first_line → spelling [] ≡ c ++ (w ++ last_line)
begun_first c w e = ap (λ z. z ++ last_line) (sym e) ∙ append_assoc c w last_line

first_by : (text : Text) (o : Outcome (Unit {0})) → exactly first_line text ≡ o → Seen (λ c x. c ≡ first_line) (exactly first_line) text o →
    ReadAs text (at_line 1 o (λ q. entries_from most_entries [] q.1))
unfolding journal
first_by text _ is (took c x rest e h l) =
    behind_first c text rest (entries_from most_entries [] rest) h e (λ s. rw (l s) refl) (goes most_entries [] rest)
first_by text _ is (stopped c b rest w x e l h) =
    let plain = within_line c w first_line h (not_whole_words first_line c w b h l) (bare (codes "fltjournal 1") refl) in
    refused c (w ++ last_line) [] 1 rest (no_entry most_entries) (begun_first c w h) (omega arith) (inl (b, e, λ s. rw (l s) refl))
first_by text _ is (missing c w x e h) =
    let plain = within_line c w first_line h (not_all_words first_line text c w h e is) (bare (codes "fltjournal 1") refl) in
    refused c (w ++ last_line) [] 1 [] (no_entry most_entries) (begun_first c w h) (omega arith) (inr (e, refl))

read_as : (text : Text) → ReadAs text (journal text)
unfolding journal
read_as text = first_by text (exactly first_line text) refl ((exactly_online first_line).seen text)

-- ---- what `read` ensures

pub is_spelled : (text : Text) (found : Entries) → journal text ≡ Ok found → (text ≡ spelling found) × IsJournal found
is_spelled text found h = go (journal text) h (read_as text)
  where
    go : (o : Reading) → o ≡ Ok found → ReadAs text o → (text ≡ spelling found) × IsJournal found
    go _ h (spelled entries e good) = let same : entries ≡ found = cc in subst (λ z. (text ≡ spelling z) × IsJournal z) same (e, good)
    go _ h (refused given w whose n rest good begun number halts) = cc

pub is_read : (text : Text) (found entries : Entries) → journal text ≡ Ok found → IsJournal entries → text ≡ spelling entries →
    found ≡ entries
is_read text found entries h good e = let read : journal text ≡ Ok entries = ap journal e ∙ spelled_read entries good in cc

pub is_no_journal : (text : Text) (n : ℕ) (left : Text) (entries : Entries) →
    journal text ≡ Err (record { line = n; left = left }) → IsJournal entries → text ≡ spelling entries → ⊥
is_no_journal text n left entries h good e = let read : journal text ≡ Ok entries = ap journal e ∙ spelled_read entries good in cc

same_fault : (e f : Fault) (o : Reading) → o ≡ Err e → o ≡ Err f → e ≡ f
same_fault e f o h k = cc

pub first_fault : (text : Text) (n : ℕ) (left : Text) → journal text ≡ Err (record { line = n; left = left }) → IsFirstFault text n left
first_fault text n left h = go (journal text) h (read_as text)
  where
    stops : (given : Text) (m : ℕ) (rest : Text) → m ≡ n → rest ≡ left → Halts journal given text m rest →
        ((b : ℕ) × (text ≡ given ++ b ∷ left)
        × ((entries : Entries) → IsJournal entries → (others : Text) → spelling entries ≡ given ++ b ∷ others → ⊥))
        ⊎ ((text ≡ given) × (left ≡ []) × ((entries : Entries) → IsJournal entries → spelling entries ≡ given → ⊥))
    stops given m rest e f (inl x) = inl (
      x.0,
      x.1 ∙ ap (λ z. given ++ x.0 ∷ z) f,
      λ entries good others same.
          is_no_journal (given ++ x.0 ∷ others) m others entries (x.2 others) good (sym same),
    )
    stops given m rest e f (inr x) = inr (x.0, sym f ∙ x.1, λ entries good same. is_no_journal text n left entries h good (x.0 ∙ sym same))

    go : (o : Reading) → o ≡ Err (record { line = n; left = left }) → ReadAs text o → IsFirstFault text n left
    go _ h (spelled entries e good) = cc
    go _ h (refused given w whose m rest good begun number halts) =
        let fault = same_fault (record { line = m; left = rest }) (record { line = n; left = left })
        (Err (record { line = m; left = rest })) refl h in
        let line : m ≡ n = ap (λ (f : Fault). f.line) fault in
        let same : rest ≡ left = ap (λ (f : Fault). f.left) fault in
        record {
          given = given;
          number = sym line ∙ number;
          whose = whose;
          journal = good;
          rest = w;
          begun = begun;
          stopped = stops given m rest line same halts;
        }

-- entries that are read are spelled by the text
pub reads_spelled : (text : Text) (r : Result Entries JournalFault) (left : Text) → ReadsAll (journal text) r left →
    IfOk r (λ found. text ≡ spelling found)
reads_spelled text (Ok found) left h = (is_spelled text found h.0).0
reads_spelled text (Err e) left h = tt

-- entries that are read are a journal
pub reads_journal : (text : Text) (r : Result Entries JournalFault) (left : Text) → ReadsAll (journal text) r left →
    IfOk r (λ found. IsJournal found)
reads_journal text (Ok found) left h = (is_spelled text found h.0).1
reads_journal text (Err e) left h = tt

-- a text that is read is read to its end
pub reads_all : (text : Text) (r : Result Entries JournalFault) (left : Text) → ReadsAll (journal text) r left → OnOk r (left ≡ [])
reads_all text (Ok found) left h = h.1
reads_all text (Err e) left h = tt

-- the spelling of a journal is read as this journal, unless something hinders reading
pub reads_again : (text : Text) (r : Result Entries JournalFault) (left : Text) → ReadsAll (journal text) r left →
    (entries : Entries) → IsJournal entries → text ≡ spelling entries →
    MatchResult r (λ found. found ≡ entries) IsHindrance
reads_again text (Ok found) left h entries good e = is_read text found entries h.0 good e
reads_again text (Err (faults.Line n)) left h entries good e = is_no_journal text n left entries h good e
reads_again text (Err faults.Read) left h entries good e = tt
reads_again text (Err faults.OutOfMemory) left h entries good e = tt

-- a fault is at the first byte with which no journal goes on
pub reads_fault : (text : Text) (r : Result Entries JournalFault) (left : Text) → ReadsAll (journal text) r left →
    MatchResult r (λ found. Unit {0}) (λ e. IsFaultOf text e left)
reads_fault text (Ok found) left h = tt
reads_fault text (Err (faults.Line n)) left h = first_fault text n left h
reads_fault text (Err faults.Read) left h = tt
reads_fault text (Err faults.OutOfMemory) left h = tt
