-- The reports of several texts, one behind the other, and what of them is put out.
use Rattle.std.proofs.Common.{inl, inr, ◌≡◌, ◌<◌, ◌≤◌, ◌-◌, ℕ, Bool, true, false, List}
use Rattle.std.proofs.Common.{[], ◌∷◌, ◌++◌, Option, Some, None, refl, ap, sym, subst, max}
use Rattle.std.proofs.Common.{arith, ◌∙◌, append_assoc, drop, take, get_or, length, length-append}
use Rattle.std.specs.Prelude.{if◌then◌else◌}
use Rattle.flt_door.proofs.Lines.{line_ends, shows_both, shows_nothing}
use Rattle.flt_door.specs.Lines.{AreWholeLines, Shows}
use Rattle.std.proofs.lemmas.Bool.{le-ltb}
use Rattle.std.proofs.lemmas.List.{append-nil, length-map, take-append-drop, take_all}
use Rattle.flt_places.specs.declared.files.Files.{Files}
use Rattle.flt_tree.specs.Names.{Text}
use Rattle.flt_tree.specs.declared.tree.Tree.{Tree}
use Rattle.flt_explain_texts.specs.Reports.{texts_of}
use Rattle.flt_explain_texts.specs.declared.sources.Source.{Source}
use Rattle.flt_model.specs.Program.{filters_of}
use Rattle.flt_explain_warning_details.specs.declared.options.WarningOptions.{WarningOptions}
use Rattle.flt_explain_outcomes.specs.Noted.{AreNotesIn, no_text as notes_none}
use Rattle.flt_explain_outcomes.specs.Noting.{AreNotesFor}
use Rattle.flt_explain_outcomes.specs.Parsed.{AreParsed}
use Rattle.flt_explain_runs.specs.Parts.{notes_in, report_bytes}
use Rattle.flt_explain_runs.specs.Printing.{ArePrinted, AreTold, HoldsBack, IsKnownPart, IsMore, IsPart, IsPrintOf, IsPutOut}
use Rattle.flt_explain_outcomes.specs.Readings.{AreStudied, IsPlaced, IsStudied, known, known_in, sources_read, texts_read}
use Rattle.flt_explain_runs.specs.Reported.{AreAllReports, AreFirst, AreSummed, IsAllButLast, IsCut}
use Rattle.flt_explain_runs.specs.Reported.{none as parts_none, one_more as parts_more}
use Rattle.flt_explain_runs.specs.Told.{Say, nothing, others}
use Rattle.flt_explain_runs.specs.Totals.{ending, summary, with_tally}
use Rattle.flt_explain_runs.specs.Whole.{ArePrints, AreSeveralPrinted, IsOnePrinted, IsPrintOfAll, Look, fails, no_print, parses}
use Rattle.flt_explain_outcomes.specs.declared.noted.Note.{Note}
use Rattle.flt_explain_runs.specs.declared.parts.TextReport.{TextReport}
use Rattle.flt_explain_outcomes.specs.declared.readings.Reading.{Reading}
use Rattle.flt_explain_outcomes.specs.declared.readings.Reading.TheVariants.{Unread, Other, Known}
use Rattle.flt_explain_outcomes.specs.declared.readings.StudiedText.{StudiedText}
use Rattle.flt_explain_outcomes.specs.declared.schedules.RunSearch.{RunSearch}
use Rattle.flt_explain_runs.specs.declared.together.PrintedTexts.{PrintedTexts}
use Rattle.flt_explain_runs.specs.declared.totals.Total.{Total}
use Rattle.flt_explain_runs.proofs.Closing.{quiet_summary}
use Rattle.flt_explain_outcomes.proofs.Notes.{text_more}
use Rattle.flt_explain_runs.proofs.Said.{said_both, said_more}
use Rattle.flt_explain_outcomes.proofs.Studied.{known_push, last_placed, last_studied, sources_both, sources_push, texts_push, with_last}
use Rattle.flt_explain_runs.proofs.Whole.{prints_more}

-- ---- what is printed

-- nothing at first
pub printed_none : (look : Look) (trees : List Tree) (files : List Files) (p : PrintedTexts) → p.bytes.items ≡ [] → p.noted ≡ [] →
    (p.total.status ≡ 0) × (p.total.findings ≡ 0) × (p.total.files ≡ 0) → ArePrinted look trees files [] p
printed_none look trees files p bytes noted total = record {
  parts = rw (bytes, total.0, total.1, total.2) parts_none;
  noted = rw noted notes_none;
  said = rw (bytes, noted) nothing;
  prints = rw (bytes, noted, total.0, total.1, total.2) no_print;
}

-- of no text there are no notes
pub empty_notes : (is_stack : Bool) (trees : List Tree) (each : List StudiedText) (notes : List Note) → length each < 1 → notes ≡ [] →
    AreNotesIn is_stack trees (known_in each) (texts_read each) notes
empty_notes is_stack trees [] notes few none = rw none notes_none
empty_notes is_stack trees (s ∷ each) notes few none = absurd (omega (arith, few))

some_last : (ss : List Source) (s : Source) → ss ++ s ∷ [] ≡ [] → ⊥
some_last [] s none = cc
some_last (t ∷ ss) s none = cc

-- of no text nothing is printed
none_printed : (look : Look) (trees : List Tree) (files : List Files) {place : ℕ} {ss : List Source} {notes : List Note} {printed : List ℕ}
    {status findings many : ℕ} → ss ≡ [] → ArePrints look trees files place ss notes printed status findings many →
    (notes ≡ []) × (printed ≡ []) × (status ≡ 0)
none_printed look trees files none no_print = (refl, refl, refl)
none_printed look trees files none (fails {ss = ss} {s = s} are is) = absurd (some_last ss s none)
none_printed look trees files none (parses {ss = ss} {s = s} are is) = absurd (some_last ss s none)

unnoted : (is_stack : Bool) (trees : List Tree) (text : Text) (r : Reading) (notes : List Note) → AreNotesFor is_stack trees text r notes →
    known r ≡ 0 → notes ≡ []
unnoted is_stack trees text (Unread f) notes are none = are
unnoted is_stack trees text (Other kind) notes are none = are
unnoted is_stack trees text (Known place) notes are none = absurd (omega (arith, none))

-- with the report of a text more
told_more : (look : Look) (trees : List Tree) (files : List Files) (each : List StudiedText) (s : StudiedText) (notes : List Note)
    (printed : List ℕ) (total : Total) (part : TextReport) → AreTold look trees files each notes printed total → IsStudied trees s →
    IsPlaced (known_in each) s.reading → IsPart look trees files s part →
    AreTold look trees files (each ++ s ∷ []) (notes ++ notes_in part) (printed ++ report_bytes part ++ 10 ∷ [])
    (with_tally total part.tally)
told_more look trees files each s notes printed total part are is placed own = record {
  parts = rw (sources_push each s) (parts_more are.parts own.report);
  noted = rw (texts_push each s, known_push each s)
      (text_more look.search.is_stack trees (known_in each) (texts_read each) notes s.source.text.now s.reading (notes_in part) are.noted is
      placed own.notes);
  said = others (notes ++ notes_in part) (printed ++ report_bytes part) (10 ∷ [])
      (said_both trees look.search notes printed are.said own.said) refl;
  prints = rw (sources_push each s, known_push each s)
      (prints_more look trees files (known_in each) (sources_read each) notes printed total.status total.findings total.files s.source
      s.reading part are.prints placed (unnoted look.search.is_stack trees s.source.text.now s.reading (notes_in part)
      own.notes) own.print);
}

pub printed_more : (look : Look) (trees : List Tree) (files : List Files) (each : List StudiedText)
    (s : StudiedText) (old new : PrintedTexts) →
    ArePrinted look trees files each old → IsStudied trees s → IsPlaced (known_in each) s.reading →
    IsMore look trees files s (10 ∷ []) old new → ArePrinted look trees files (each ++ s ∷ []) new
printed_more look trees files each s old new are is placed more =
    let bytes : new.bytes.items ≡ old.bytes.items ++ report_bytes more.part ++ 10 ∷ [] =
    more.bytes ∙ sym (append_assoc old.bytes.items (report_bytes more.part) (10 ∷ [])) in
    rw (more.noted, bytes, more.total)
    (told_more look trees files each s old.noted old.bytes.items old.total more.part are is placed more.is)

-- the report of a text is added, and what comes behind it
pub report_more : (look : Look) (trees : List Tree) (files : List Files) (s : StudiedText) (behind : List ℕ) (old new : PrintedTexts)
    (part : TextReport) (added : List ℕ) → IsPart look trees files s part → added ≡ old.bytes.items ++ report_bytes part →
    new.bytes.items ≡ added ++ behind → new.noted ≡ old.noted ++ notes_in part → new.total ≡ with_tally old.total part.tally →
    IsMore look trees files s behind old new
report_more look trees files s behind old new part added is first bytes noted total = record {
  part = part;
  is = is;
  bytes = bytes ∙ ap (λ z. z ++ behind) first ∙ append_assoc old.bytes.items (report_bytes part) behind;
  noted = noted;
  total = total;
}

-- ---- what is put out

-- the rest behind the first
pub shows_rest : (a b c : Option (List ℕ)) (xs ys rest : List ℕ) → Shows a b xs → Shows b c rest → ys ≡ xs ++ rest → Shows a c ys
shows_rest a b c xs ys rest first second is = subst (Shows a c) (sym is) (shows_both a b c xs rest first second)

drop_first : (xs rest : List ℕ) → drop (length xs) (xs ++ rest) ≡ rest
drop_first [] rest = refl
drop_first (x ∷ xs) rest = drop_first xs rest

take_first : (xs rest : List ℕ) → take (length xs) (xs ++ rest) ≡ xs
take_first [] rest = refl
take_first (x ∷ xs) rest = ap (λ z. x ∷ z) (take_first xs rest)

-- what isn't put out yet is whole lines: a report, and an empty line
pub rest_lines : (before report added all : List ℕ) (sent : ℕ) → added ≡ before ++ report → all ≡ added ++ 10 ∷ [] →
    sent ≡ length before → AreWholeLines (drop sent all)
rest_lines before report added all sent first is whole =
    let rest : drop sent all ≡ report ++ 10 ∷ [] =
    ap (drop sent) (is ∙ ap (λ z. z ++ 10 ∷ []) first ∙ append_assoc before report (10 ∷ []))
    ∙ ap (λ n. drop n (before ++ (report ++ 10 ∷ []))) whole ∙ drop_first before (report ++ 10 ∷ []) in
    subst AreWholeLines (sym rest) (line_ends report)

-- what isn't put out yet is what is more
pub rest_out : (look : Look) (trees : List Tree) (files : List Files) (s : StudiedText) (behind : List ℕ) (old new : PrintedTexts)
    (a b c : Option (List ℕ)) → IsMore look trees files s behind old new →
    old.sent ≡ length old.bytes.items → Shows a b old.bytes.items → Shows b c (drop old.sent new.bytes.items) →
    Shows a c new.bytes.items
rest_out look trees files s behind old new a b c more all first second =
    let rest : drop old.sent new.bytes.items ≡ report_bytes more.part ++ behind =
    rw (all, more.bytes) (drop_first old.bytes.items (report_bytes more.part ++ behind)) in
    shows_rest a b c old.bytes.items new.bytes.items (report_bytes more.part ++ behind) first (subst (λ z. Shows b c z) rest second)
    more.bytes

-- whole reports of the first of some texts
pub first_of : (look : Look) (trees : List Tree) (files : List Files) (each : List StudiedText) (further : List Source) (p : PrintedTexts) →
    ArePrinted look trees files each p → AreParsed (texts_of (sources_read each ++ further)) (filters_of trees) →
    AreFirst look.options (sources_read each) further look.search p.bytes.items
first_of look trees files each further p are parsed = record {
  trees = trees;
  parsed = parsed;
  status = p.total.status;
  findings = p.total.findings;
  files = p.total.files;
  reports = are.parts;
  place = known_in each;
  notes = p.noted;
  noted = are.noted;
  said = are.said;
}

-- where it ends before all is known, so much is put out
pub cut_none : (options : WarningOptions) (sources : List Source) (search : RunSearch) (old : Option (List ℕ)) →
    IsCut options sources search old
    old
cut_none options sources search old = record { printed = []; added = shows_nothing old; are = inl refl }

pub cut_at : (look : Look) (trees : List Tree) (files : List Files) (all each rest : List StudiedText) (p : PrintedTexts) (held : Bool)
    (old new : Option (List ℕ)) →
    AreParsed (texts_read all) (filters_of trees) → all ≡ each ++ rest → ArePrinted look trees files each p → (held ≡ true → new ≡ old) →
    (held ≡ false → Shows old new p.bytes.items) → IsCut look.options (sources_read all) look.search old new
cut_at look trees files all each rest p true old new parsed is are none some =
    rw (none refl) (cut_none look.options (sources_read all) look.search old)
cut_at look trees files all each rest p false old new parsed is are none some =
    let whole : sources_read all ≡ sources_read each ++ sources_read rest = ap sources_read is ∙ sources_both each rest in
    record {
      printed = p.bytes.items;
      added = some refl;
      are = inr (record {
        before = sources_read each;
        others = sources_read rest;
        whole = whole;
        are = first_of look trees files each (sources_read rest) p are
            (subst (λ ss. AreParsed (texts_of ss) (filters_of trees)) whole parsed);
      });
    }

-- there is a last text
all_but_last : (options : WarningOptions) (sources before : List Source) (last : Source) (search : RunSearch) (printed : List ℕ) →
    sources ≡ before ++ last ∷ [] → AreFirst options before (last ∷ []) search printed → IsAllButLast options sources search printed
all_but_last options [] [] last search printed is are = absurd (cc is)
all_but_last options [] (t ∷ before) last search printed is are = absurd (cc is)
all_but_last options (s ∷ sources) before last search printed is are = record { before = before; last = last; whole = is; are = are }

-- the reports of all texts but the last are put out, and the last one's stands behind them
put_out : (look : Look) (trees : List Tree) (files : List Files) (all each : List StudiedText) (s : StudiedText) (behind : List ℕ)
    (old new : PrintedTexts) (held : Bool) (a b : Option (List ℕ)) →
    AreParsed (texts_read all) (filters_of trees) → all ≡ each ++ s ∷ [] → ArePrinted look trees files each old →
    IsMore look trees files s behind old new → new.sent ≡ old.sent → HoldsBack held old → (held ≡ true → b ≡ a) →
    (held ≡ false → Shows a b old.bytes.items) → IsPutOut look.options (sources_read all) look.search held a b new
put_out look trees files all each s behind old new true a b parsed is are more kept holds none some =
    let sent : new.sent ≡ 0 = kept ∙ holds.none refl in
    record {
      within = rw sent (omega arith);
      added = rw (sent, none refl) (shows_nothing a);
      early = λ h. absurd (cc h);
      late = λ h. sent;
    }
put_out look trees files all each s behind old new false a b parsed is are more kept holds none some =
    let bytes = old.bytes.items in
    let rest = report_bytes more.part ++ behind in
    let sent : new.sent ≡ length bytes = kept ∙ holds.all refl in
    let first : take new.sent new.bytes.items ≡ bytes = rw (sent, more.bytes) (take_first bytes rest) in
    let sources : sources_read all ≡ sources_read each ++ s.source ∷ [] = ap sources_read is ∙ sources_push each s in
    record {
      within = rw (sent, more.bytes) (omega (arith, length-append bytes rest));
      added = rw first (some refl);
      early = λ h. rw first (all_but_last look.options (sources_read all) (sources_read each) s.source look.search bytes sources
          (first_of look trees files each (s.source ∷ []) old are
          (subst (λ ss. AreParsed (texts_of ss) (filters_of trees)) sources parsed)));
      late = λ h. absurd (cc h);
    }

-- where it ends before, the reports of the first are put out
pub cut_here : (look : Look) (trees : List Tree) (files : List Files) (each : List StudiedText) (n i : ℕ) (p : PrintedTexts) (held : Bool)
    (old new : Option (List ℕ)) →
    AreParsed (texts_read each) (filters_of trees) → ArePrinted look trees files (take i (take n each)) p → (held ≡ true → new ≡ old) →
    (held ≡ false → Shows old new p.bytes.items) →
    IsCut look.options (sources_read each) look.search old new
cut_here look trees files each n i p held old new parsed are none some =
    let before = take n each in
    let whole : each ≡ take i before ++ (drop i before ++ drop n each) =
    sym (take-append-drop n each) ∙ ap (λ e. e ++ drop n each) (sym (take-append-drop i before))
    ∙ append_assoc (take i before) (drop i before) (drop n each) in
    cut_at look trees files each (take i before) (drop i before ++ drop n each) p held old new parsed whole are none some

-- ---- all of it

-- of the only text
print_of_only : (look : Look) (trees : List Tree) (files : List Files) (s : Source) (r : Reading) (p : TextReport) → IsPlaced 0 r →
    (known r ≡ 0 → notes_in p ≡ []) → IsPrintOf look trees files s r p →
    IsOnePrinted look trees files s (notes_in p) (report_bytes p) p.tally.status
print_of_only look trees files s (Unread f) p placed none is = record { count = p.tally.findings; is = inr (none refl, inl is) }
print_of_only look trees files s (Other kind) p placed none is = record { count = p.tally.findings; is = inr (none refl, inr is) }
print_of_only look trees files s (Known place) p placed none is =
    record { count = p.tally.findings; is = inl (subst (λ n. IsKnownPart look trees files n s p) placed is) }

-- what ends the reports of several files
several_end : (findings files all : ℕ) → 2 ≤ all → ending findings files all ≡ 10 ∷ summary findings files all ++ 10 ∷ []
several_end findings files all several =
    ap (λ b. if b then [] else 10 ∷ summary findings files all ++ 10 ∷ []) (le-ltb all 2 several)

four_behind : (o a b c d : List ℕ) → o ++ (a ++ (b ++ (c ++ d))) ≡ (o ++ a ++ b) ++ (c ++ d)
four_behind o a b c d = simp append_assoc

-- the reports of all texts but the last, and the last one with what ends them, are all that is printed
module _ (look : Look) (trees : List Tree) (files : List Files) (each : List StudiedText) (i : ℕ) (last : StudiedText)
    (old new : PrintedTexts) (some : 1 ≤ length each) (is : last ≡ get_or each (length each - 1) last) (studied : AreStudied trees 0 each)
    (past : length (take (length each - 1) each) ≤ i)
    (before : ArePrinted look trees files (take i (take (length each - 1) each)) old)
    (more : IsMore look trees files last (ending new.total.findings new.total.files (length each)) old new) where
  front : ArePrinted look trees files (take (length each - 1) each) old
  front = subst (λ e. ArePrinted look trees files e old) (take_all i (take (length each - 1) each) past) before

  all : AreTold look trees files each new.noted (old.bytes.items ++ report_bytes more.part ++ 10 ∷ []) new.total
  all =
      subst (λ e. AreTold look trees files e new.noted (old.bytes.items ++ report_bytes more.part ++ 10 ∷ []) new.total)
      (sym (with_last each last some is))
      (rw (more.noted, more.total)
      (told_more look trees files (take (length each - 1) each) last old.noted old.bytes.items old.total more.part front
      (last_studied trees each last studied some is) (last_placed trees each last studied some is) more.is))

  pub all_noted : AreNotesIn look.search.is_stack trees (known_in each) (texts_read each) new.noted
  all_noted = all.noted

  -- nothing comes before the only text
  nothing_before : (s : StudiedText) → each ≡ s ∷ [] → (old.noted ≡ []) × (old.bytes.items ≡ []) × (old.total.status ≡ 0)
  nothing_before s same =
      none_printed look trees files (ap (λ e. sources_read (take (length e - 1) e)) same) front.prints

  only_bytes : (s : StudiedText) → each ≡ s ∷ [] → new.bytes.items ≡ report_bytes more.part
  only_bytes s same =
      more.bytes
      ∙ ap (λ z. z ++ (report_bytes more.part ++ ending new.total.findings new.total.files (length each))) (nothing_before s same).1
      ∙ ap (λ e. report_bytes more.part ++ ending new.total.findings new.total.files (length e)) same
      ∙ append-nil (report_bytes more.part)

  only_noted : (s : StudiedText) → each ≡ s ∷ [] → new.noted ≡ notes_in more.part
  only_noted s same = more.noted ∙ ap (λ z. z ++ notes_in more.part) (nothing_before s same).0

  only_status : (s : StudiedText) → each ≡ s ∷ [] → new.total.status ≡ more.part.tally.status
  only_status s same =
      let greatest : max 0 more.part.tally.status ≡ more.part.tally.status = omega arith in
      ap (λ (t : Total). t.status) more.total ∙ ap (λ n. max n more.part.tally.status) (nothing_before s same).2 ∙ greatest

  only_is : (s : StudiedText) → each ≡ s ∷ [] → IsPart look trees files s more.part
  only_is s same =
      subst (λ x. IsPart look trees files x more.part) (is ∙ ap (λ e. get_or e (length e - 1) last) same) more.is

  -- several of them end with how much is found
  several_bytes : 2 ≤ length each →
      new.bytes.items ≡ (old.bytes.items ++ report_bytes more.part ++ 10 ∷ [])
      ++ (summary new.total.findings new.total.files (length (sources_read each)) ++ 10 ∷ [])
  several_bytes several =
      more.bytes
      ∙ ap (λ z. old.bytes.items ++ (report_bytes more.part ++ z)) (several_end new.total.findings new.total.files (length each) several)
      ∙ four_behind old.bytes.items (report_bytes more.part) (10 ∷ []) (summary new.total.findings new.total.files (length each)) (10 ∷ [])
      ∙ ap (λ n. (old.bytes.items ++ report_bytes more.part ++ 10 ∷ []) ++ (summary new.total.findings new.total.files n ++ 10 ∷ []))
      (sym (length-map each (λ (s : StudiedText). s.source)))

  several_whole : 2 ≤ length each →
      new.bytes.items ≡ (old.bytes.items ++ report_bytes more.part ++ 10 ∷ [])
      ++ summary new.total.findings new.total.files (length (sources_read each)) ++ 10 ∷ []
  several_whole several =
      several_bytes several
      ∙ sym (append_assoc (old.bytes.items ++ report_bytes more.part ++ 10 ∷ [])
      (summary new.total.findings new.total.files (length (sources_read each))) (10 ∷ []))

  pub all_said : Say trees look.search new.noted new.bytes.items
  all_said = go each refl
    where
      go : (e : List StudiedText) → each ≡ e → Say trees look.search new.noted new.bytes.items
      go [] same = let none = ap length same in absurd (omega (arith, some, none))
      go (s ∷ []) same = rw (only_noted s same, only_bytes s same) more.is.said
      go (s ∷ (t ∷ rest)) same =
          let many = ap length same in
          let several : 2 ≤ length each = omega (arith, many) in
          said_more trees look.search new.noted (old.bytes.items ++ report_bytes more.part ++ 10 ∷ [])
          (summary new.total.findings new.total.files (length (sources_read each)) ++ 10 ∷ []) new.bytes.items all.said
          (quiet_summary new.total.findings new.total.files (length (sources_read each))) (several_bytes several)

  pub all_reports : AreAllReports look.options (filters_of trees) (sources_read each) new.bytes.items new.total.status
  all_reports = go each refl
    where
      go : (e : List StudiedText) → each ≡ e →
          AreAllReports look.options (filters_of trees) (sources_read e) new.bytes.items new.total.status
      go [] same = let none = ap length same in absurd (omega (arith, some, none))
      go (s ∷ []) same =
          record { count = more.part.tally.findings; is = rw (only_bytes s same, only_status s same) (only_is s same).report }
      go (s ∷ (t ∷ rest)) same =
          let many = ap length same in
          let several : 2 ≤ length each = omega (arith, many) in
          subst (λ e. AreSummed look.options (filters_of trees) (sources_read e) new.bytes.items new.total.status) same (record {
            reports = old.bytes.items ++ report_bytes more.part ++ 10 ∷ [];
            findings = new.total.findings;
            files = new.total.files;
            are = all.parts;
            whole = several_whole several;
          })

  pub all_print : IsPrintOfAll look trees files (sources_read each) new.noted new.bytes.items new.total.status
  all_print = go each refl
    where
      go : (e : List StudiedText) → each ≡ e →
          IsPrintOfAll look trees files (sources_read e) new.noted new.bytes.items new.total.status
      go [] same = let none = ap length same in absurd (omega (arith, some, none))
      go (s ∷ []) same =
          let placed = subst (AreStudied trees 0) same studied in
          rw (only_noted s same, only_bytes s same, only_status s same)
          (print_of_only look trees files s.source s.reading more.part placed.1
          (unnoted look.search.is_stack trees s.source.text.now s.reading (notes_in more.part) (only_is s same).notes)
          (only_is s same).print)
      go (s ∷ (t ∷ rest)) same =
          let many = ap length same in
          let several : 2 ≤ length each = omega (arith, many) in
          subst (λ e. AreSeveralPrinted look trees files (sources_read e) new.noted new.bytes.items new.total.status) same (record {
            place = known_in each;
            prints = old.bytes.items ++ report_bytes more.part ++ 10 ∷ [];
            findings = new.total.findings;
            many = new.total.files;
            are = all.prints;
            whole = several_whole several;
          })

  pub all_sent : (held : Bool) (a b : Option (List ℕ)) → AreParsed (texts_read each) (filters_of trees) → new.sent ≡ old.sent →
      HoldsBack held old → (held ≡ true → b ≡ a) → (held ≡ false → Shows a b old.bytes.items) →
      IsPutOut look.options (sources_read each) look.search held a b new
  all_sent held a b parsed kept holds none out =
      put_out look trees files each (take (length each - 1) each) last
      (ending new.total.findings new.total.files (length each)) old new held
      a b parsed (with_last each last some is) front more kept holds none out
