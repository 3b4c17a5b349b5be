-- The notes of a text, one behind the other, and those of several texts.
use Rattle.std.proofs.Common.{◌≡◌, ◌<◌, ◌+◌, ℕ, Bool, List, [], ◌∷◌, ◌++◌, IfOk, IfSome, Option, Some, None, Result, Ok, Err}
use Rattle.std.proofs.Common.{All, ap, arith, get_or, length, map, refl, subst, sym, take, ◌∙◌}
use Rattle.std.proofs.lemmas.List.{append-nil, take_more}
use Rattle.std.proofs.lemmas.List.Elements.{All-nil, All-cons, All-head, All-tail}
use Rattle.std.specs.declared.alloc.AllocError.{AllocError}
use Rattle.flt_tree.specs.Names.{Text}
use Rattle.flt_tree.specs.declared.tree.Tree.{Tree}
use Rattle.flt_explain.specs.declared.finding.Finding.{Finding}
use Rattle.flt_explain_ways.specs.Covering.{AreFirsts}
use Rattle.flt_explain_ways.specs.Reported.{AreReportedBy, numbers_of}
use Rattle.flt_explain_ways.specs.declared.reported.ReportedFinding.{ReportedFinding}
use Rattle.flt_explain_ways.specs.declared.reported.ReportedFindings.{ReportedFindings}
use Rattle.flt_explain_outcomes.specs.Again.{IsSetting}
use Rattle.flt_explain_outcomes.specs.Noted.{AreNotesIn, AreNotesOf, fails, no_note, numbers_in, one_more, parses, reported_in}
use Rattle.flt_explain_outcomes.specs.Noting.{AreAllNotes, AreNotesFor, AreTextNotes, HasNotes, IsNotedOf, IsParsed}
use Rattle.flt_explain_outcomes.specs.Noting.{IsSettingFor, IsSettingOf}
use Rattle.flt_explain_outcomes.specs.Readings.{AreStudied, IsPlaced, IsReading, IsStudied, known, known_in, texts_read}
use Rattle.flt_explain_outcomes.specs.declared.again.Setting.{Setting}
use Rattle.flt_explain_outcomes.specs.declared.noted.Note.{Note}
use Rattle.flt_explain_outcomes.specs.declared.noting.ParsedText.{ParsedText}
use Rattle.flt_explain_outcomes.specs.declared.noting.TextNotes.{TextNotes}
use Rattle.flt_explain_outcomes.specs.declared.readings.Reading.{Reading}
use Rattle.flt_explain_outcomes.specs.declared.readings.Reading.TheVariants.{Unread, Other, Known}
use Rattle.flt_explain_outcomes.specs.declared.readings.StudiedText.{StudiedText}
use Rattle.flt_explain_outcomes.proofs.Studied.{known_taken, placed_at, studied_at, texts_taken}

-- ---- of one text

-- what is reported of one note more
reported_more : (notes : List Note) (n : Note) → map reported_in (notes ++ n ∷ []) ≡ map reported_in notes ++ reported_in n ∷ []
reported_more [] n = refl
reported_more (m ∷ notes) n = ap (λ rs. reported_in m ∷ rs) (reported_more notes n)

-- one more note is of the next finding that is reported
pub next_reported : (reported : List ReportedFinding) (i : ℕ) (r : ReportedFinding) (old new : List Note) (n : Note) → i < length reported →
    r ≡ get_or reported i r → map reported_in old ≡ take i reported → reported_in n ≡ r → new ≡ old ++ n ∷ [] →
    map reported_in new ≡ take (i + 1) reported
next_reported reported i r old new n h is are own added =
    ap (map reported_in) added ∙ reported_more old n ∙ ap (λ rs. rs ++ reported_in n ∷ []) are
    ∙ ap (λ x. take i reported ++ x ∷ []) (own ∙ is) ∙ sym (take_more reported i r h)

-- one more note leaves the notes of what is known
pub notes_more : (is_stack : Bool) (trees : List Tree) (k : ParsedText) (old new : List Note) (n : Note) →
    HasNotes is_stack trees k old → IsNotedOf is_stack trees k old n →
    new ≡ old ++ n ∷ [] → HasNotes is_stack trees k new
notes_more is_stack trees k old new n notes is added = rw added (one_more notes is)

-- what holds of some, and of one more
pub all_more : {A : Type 0} (P : A → Type 0) (old new : List A) (x : A) → All P old → P x → new ≡ old ++ x ∷ [] → All P new
all_more {A = A} P old new x each is added = rw added (go old each)
  where
    go : (xs : List A) → All P xs → All P (xs ++ x ∷ [])
    go [] each = All-cons P x [] is (All-nil P)
    go (y ∷ xs) each = All-cons P y (xs ++ x ∷ []) (All-head P y xs each) (go xs (All-tail P y xs each))

-- the callback of a setting stands behind the text
pub setting_for : (text : Text) (found : List Finding) (setting : Option Setting) (notes : List Note) →
    IfSome setting (IsSetting text found) → (setting ≡ None → All (λ (n : Note). n.again ≡ None) notes) → IsSettingFor text setting notes
setting_for text found (Some s) notes is none = record { some = is.setter; none = none }
setting_for text found None notes is none = record { some = tt; none = none }

-- the same for one of some notes
pub setting_at : (text : Text) (setting : Option Setting) (notes : List Note) (i : ℕ) (n : Note) → IsSettingFor text setting notes →
    i < length notes → n ≡ get_or notes i n → IsSettingOf text setting n
setting_at text setting notes i n is h at =
    record { some = is.some; none = λ none. subst (λ (m : Note). m.again ≡ None) (sym at) (is.none none i n h) }

-- the numbers of what is reported are those of the notes
numbers_same : (notes : List Note) → numbers_of (map reported_in notes) ≡ numbers_in notes
numbers_same [] = refl
numbers_same (n ∷ notes) = ap (λ ns. n.finding ∷ ns) (numbers_same notes)

-- a note of each finding that is reported by itself
pub all_notes : (is_stack : Bool) (trees : List Tree) (k : ParsedText) (r : ReportedFindings) (t : TextNotes) →
    AreReportedBy k.graph.now k.found.now r.traces r.each → AreFirsts k.found.now (numbers_of r.each) →
    AreTextNotes is_stack trees k r.each t →
    AreAllNotes is_stack trees k t.each
all_notes is_stack trees k r t are firsts notes = record {
  each = notes.noted;
  reported = record { traces = r.traces; are = rw notes.reported are };
  firsts = subst (AreFirsts k.found.now) (numbers_same t.each) (rw notes.reported firsts);
}

-- there is none where nothing is found
pub no_notes : (is_stack : Bool) (trees : List Tree) (k : ParsedText) (notes : List Note) → k.found.now ≡ [] → notes ≡ [] →
    AreAllNotes is_stack trees k notes
no_notes is_stack trees k notes none unnoted = rw (none, unnoted) (record {
  each = no_note;
  reported = record {
    traces = record { shown = []; groups = [] };
    are = record { traced = record { each = tt; groups = refl }; each = refl };
  };
  firsts = record { rise = tt; within = All-nil (λ n. n < 0); covers = λ own f is. absurd (cc is) };
})

-- these are the notes of a text that parses
pub notes_are : (is_stack : Bool) (trees : List Tree) (k : ParsedText) (notes : List Note) → IsParsed trees k →
    AreAllNotes is_stack trees k notes →
    AreNotesOf is_stack trees k.source.text.now k.place notes
notes_are is_stack trees k notes is all = record {
  tree = k.tree.now;
  own = is.own;
  graph = k.graph.now;
  found = k.found.now;
  known = is.known;
  each = all.each;
  reported = all.reported;
  firsts = all.firsts;
}

-- the same where they may be refused
pub notes_are_of : {V : Type 0} (notes : V → List Note) (is_stack : Bool) (trees : List Tree) (k : ParsedText)
    (result : Result V AllocError) →
    IsParsed trees k → IfOk result (λ v. AreAllNotes is_stack trees k (notes v)) →
    IfOk result (λ v. AreNotesOf is_stack trees k.source.text.now k.place (notes v))
notes_are_of notes is_stack trees k (Ok v) is all = notes_are is_stack trees k (notes v) is all
notes_are_of notes is_stack trees k (Err e) is all = tt

-- a list that isn't found to have anything has nothing
pub none_found : (found : List Finding) → length found < 1 → found ≡ []
none_found [] few = refl
none_found (f ∷ found) few = absurd (omega (arith, few))

-- ---- of several texts

-- the notes of a text more
pub text_more : (is_stack : Bool) (trees : List Tree) (place : ℕ) (ts : List Text) (notes : List Note) (text : Text) (r : Reading)
    (own : List Note) →
    AreNotesIn is_stack trees place ts notes → IsReading trees text r → IsPlaced place r → AreNotesFor is_stack trees text r own →
    AreNotesIn is_stack trees (place + known r) (ts ++ text ∷ []) (notes ++ own)
text_more is_stack trees place ts notes text (Unread f) own are is placed none =
    let same : place + 0 ≡ place = omega arith in rw (same, none, append-nil notes) (fails are is.fault)
text_more is_stack trees place ts notes text (Other kind) own are is placed none =
    let same : place + 0 ≡ place = omega arith in rw (same, none, append-nil notes) (fails are is.unread)
text_more is_stack trees place ts notes text (Known at) own are is placed its =
    parses are (subst (λ n. AreNotesOf is_stack trees text n own) placed its)

-- the same of one text more that is studied
pub one_text_more : (is_stack : Bool) (trees : List Tree) (each : List StudiedText) (i : ℕ) (s : StudiedText) (old own new : List Note) →
    AreStudied trees 0 each → i < length each → s ≡ get_or each i s →
    AreNotesIn is_stack trees (known_in (take i each)) (texts_read (take i each)) old →
    AreNotesFor is_stack trees s.source.text.now s.reading own →
    new ≡ old ++ own → AreNotesIn is_stack trees (known_in (take (i + 1) each)) (texts_read (take (i + 1) each)) new
one_text_more is_stack trees each i s old own new studied h is are its added =
    let here : IsStudied trees s = subst (IsStudied trees) (sym is) (studied_at trees 0 each i s studied h) in
    let first : 0 + known_in (take i each) ≡ known_in (take i each) = omega arith in
    let placed : IsPlaced (known_in (take i each)) s.reading =
    subst (λ (x : StudiedText). IsPlaced (known_in (take i each)) x.reading) (sym is)
    (subst (λ n. IsPlaced n (get_or each i s).reading) first (placed_at trees 0 each i s studied h)) in
    rw (known_taken each i s h is, texts_taken each i s h is, added)
    (text_more is_stack trees (known_in (take i each)) (texts_read (take i each)) old s.source.text.now s.reading own are here placed its)
