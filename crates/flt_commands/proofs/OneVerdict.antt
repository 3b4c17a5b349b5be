-- Of some bytes `replay` says one thing at most.
use Rattle.std.proofs.Common.{◌≡◌, ◌≢◌, ◌<◌, ℕ, List, [], ◌∷◌, ◌++◌, Some, Result, Ok, Err, length}
use Rattle.std.proofs.Common.{length-append, get_or, slice_get, refl, sym, ap, ◌∙◌, subst, arith}
use Rattle.std.proofs.Math.ListN.{get_or-append}
use Rattle.std.proofs.Math.Seq.{get_or-append_seam}
use Rattle.std.proofs.lemmas.Option.{get_or_from_slice_get, slice_get_within}
use Rattle.flt_syntax.specs.Spelling.{Spells, SpellsAtMostOne}
use Rattle.flt_syntax.specs.TextFails.{Fails, FailsAtMostOnce, SpelledFailsNowhere}
use Rattle.flt_syntax.specs.declared.fault.SyntaxFault.{SyntaxFault}
use Rattle.flt_tree.specs.declared.filter.Filter.{Filter}
use Rattle.flt_model.specs.Expansion.{verdict}
use Rattle.flt_model.specs.JournalText.{Entries, IsFirstFault, IsJournal, spelling}
use Rattle.flt_model.specs.Program.{HasDistinctAltitudes, IsRepeated}
use Rattle.flt_model.specs.declared.verdict.Verdict.{Verdict}
use Rattle.flt_files.proofs.OnePlace.{Places, same, earlier, later, places, zipped_at, zipped_once}
use Rattle.flt_files.specs.Inputs.{Text}
use Rattle.flt_commands_runs.specs.Replay.{IsFailure, IsReplayed, IsVerdict, Judges}
use Rattle.flt_syntax.specs.Texts.{AreSpelled, IsSyntaxFault}
use Rattle.flt_commands.specs.Answer.{of_run}
use Rattle.flt_commands.specs.Single.{AreSame, SaysOne, seen, told}
use Rattle.flt_commands.specs.declared.answer.Answer.TheVariants.{OfRun}
use Rattle.flt_commands_runs.specs.declared.answer.RunAnswer.{RunAnswer}
use Rattle.flt_commands_runs.specs.declared.answer.RunAnswer.TheVariants.{Judged}
use Rattle.flt_files.specs.declared.failure.Failure.{Failure}
use Rattle.flt_files.specs.declared.failure.Failure.TheVariants.{TooManyFiles, FileSyntax, JournalLine, Altitude, OutOfMemory}

-- ---- altitudes

-- an earlier filter of a list has the altitude
abbrev IsEarlier : List Filter → Filter → Type 0
IsEarlier before filter = (at : ℕ) × (other : Filter) × (slice_get before at ≡ Some other) × (other.altitude ≡ filter.altitude)

-- then the altitudes of a list with the filter behind it aren't distinct
not_distinct : (before after : List Filter) (filter : Filter) → HasDistinctAltitudes (before ++ filter ∷ after) →
    IsEarlier before filter → ⊥
not_distinct before after filter distinct (at, other, there, altitude) =
    let within : at < length before = slice_get_within before at other there in
    let long = length-append before (filter ∷ after) in
    let front : get_or (before ++ filter ∷ after) at other ≡ other = get_or-append before (filter ∷ after) other at within
    ∙ get_or_from_slice_get before at other other there in
    let back : get_or (before ++ filter ∷ after) (length before) other ≡ filter = get_or-append_seam before filter after other in
    distinct at (length before) other within (omega (arith, long))
    (ap (λ (f : Filter). f.altitude) front ∙ altitude ∙ sym (ap (λ (f : Filter). f.altitude) back))

same_number : (filters : List Filter) (m n : ℕ) (a : IsRepeated filters m) (b : IsRepeated filters n) →
    Places a.before a.filter b.before b.filter → m ≡ n
same_number filters m n a b (same before filter) = a.counted ∙ ap length before ∙ sym b.counted
same_number filters m n a b (earlier between before) =
    absurd (not_distinct a.before between a.filter (subst HasDistinctAltitudes before b.distinct) a.earlier)
same_number filters m n a b (later between before) =
    absurd (not_distinct b.before between b.filter (subst HasDistinctAltitudes before a.distinct) b.earlier)

-- the first filter that repeats an altitude is one
repeated_once : (filters : List Filter) (m n : ℕ) → IsRepeated filters m → IsRepeated filters n → m ≡ n
repeated_once filters m n a b = same_number filters m n a b
    (places a.before a.after b.before b.after a.filter b.filter (sym a.parts ∙ b.parts))

-- filters of distinct altitudes have none
all_distinct : (filters : List Filter) (n : ℕ) → IsRepeated filters n → HasDistinctAltitudes filters → ⊥
all_distinct filters n a distinct = not_distinct a.before a.after a.filter (subst HasDistinctAltitudes a.parts distinct) a.earlier

module _ (one : SpellsAtMostOne) (nowhere : SpelledFailsNowhere) (once : FailsAtMostOnce)
    (spelled : (a b : Entries) → IsJournal a → IsJournal b → spelling a ≡ spelling b → a ≡ b)
    (first : (text : Text) (line : ℕ) (left : Text) (other_line : ℕ) (other_left : Text) → IsFirstFault text line left →
    IsFirstFault text other_line other_left →
    (line ≡ other_line) × (left ≡ other_left))
    (none : (entries : Entries) (line : ℕ) (left : Text) → IsJournal entries → ¬ IsFirstFault (spelling entries) line left) where
  -- ---- the texts

  filters_once : (texts : List Text) (fs gs : List Filter) → AreSpelled texts fs → AreSpelled texts gs → fs ≡ gs
  filters_once texts fs gs a b = zipped_once Spells (λ text f g h k. one text f g h k) texts fs gs a b

  -- a text that is spelled has no fault
  not_spelled : (before after : List Text) (text : Text) (e : SyntaxFault) (filters : List Filter) →
      AreSpelled (before ++ text ∷ after) filters → Fails text e → ⊥
  not_spelled before after text e filters a fault =
      let found = zipped_at Spells before after text filters a in
      nowhere text found.0 e found.1 fault

  all_spelled : (texts : List Text) (n : ℕ) (e : SyntaxFault) (filters : List Filter) → IsSyntaxFault texts n e →
      AreSpelled texts filters → ⊥
  all_spelled texts n e filters a all =
      not_spelled a.before a.after a.text e filters (subst (λ ts. AreSpelled ts filters) a.parts all) a.fault

  same_fault : (texts : List Text) (m n : ℕ) (e f : SyntaxFault) (a : IsSyntaxFault texts m e) (b : IsSyntaxFault texts n f) →
      Places a.before a.text b.before b.text →
      FileSyntax m e ≡ FileSyntax n f
  same_fault texts m n e f a b (same before text) =
      let number : m ≡ n = a.counted ∙ ap length before ∙ sym b.counted in
      let fault : e ≡ f = once a.text e f a.fault (subst (λ t. Fails t f) (sym text) b.fault) in
      cc
  same_fault texts m n e f a b (earlier between before) =
      absurd (not_spelled a.before between a.text e b.filters (subst (λ ts. AreSpelled ts b.filters) before b.spelled) a.fault)
  same_fault texts m n e f a b (later between before) =
      absurd (not_spelled b.before between b.text f a.filters (subst (λ ts. AreSpelled ts a.filters) before a.spelled) b.fault)

  -- the first fault of the texts is one
  syntax_once : (texts : List Text) (m n : ℕ) (e f : SyntaxFault) → IsSyntaxFault texts m e → IsSyntaxFault texts n f →
      FileSyntax m e ≡ FileSyntax n f
  syntax_once texts m n e f a b = same_fault texts m n e f a b
      (places a.before a.after b.before b.after a.text b.text (sym a.parts ∙ b.parts))

  -- ---- the journal

  -- a journal's text has no fault
  not_a_journal : (journal : Text) (entries : Entries) (n : ℕ) (left : Text) → IsJournal entries → journal ≡ spelling entries →
      IsFirstFault journal n left → ⊥
  not_a_journal journal entries n left good written fault = none entries n left good (subst (λ j. IsFirstFault j n left) written fault)

  -- ---- what is said

  verdict_once : (journal : Text) (texts : List Text) (v w : Verdict) → IsVerdict journal texts v → IsVerdict journal texts w → v ≡ w
  verdict_once journal texts v w x y =
      let filters = filters_once texts x.filters y.filters x.spelled y.spelled in
      let entries = spelled x.entries y.entries x.is_journal y.is_journal (sym x.written ∙ y.written) in
      x.is ∙ ap (λ fs. verdict fs x.entries) filters ∙ ap (λ es. verdict y.filters es) entries ∙ sym y.is

  not_both : (journal : Text) (texts : List Text) (v : Verdict) (f : Failure) → IsVerdict journal texts v →
      IsFailure journal texts f → f ≢ OutOfMemory → ⊥
  not_both journal texts v TooManyFiles x y told = let few = x.few in absurd (omega (arith, y))
  not_both journal texts v (FileSyntax n e) x y told = all_spelled texts n e x.filters y.1 x.spelled
  not_both journal texts v (JournalLine n) x y told = not_a_journal journal x.entries n y.2.0 x.is_journal x.written y.2.1
  not_both journal texts v (Altitude n) x y told =
      all_distinct x.filters n (subst (λ fs. IsRepeated fs n) (filters_once texts y.1.0 x.filters y.1.1 x.spelled) y.1.2) x.distinct
  not_both journal texts v OutOfMemory x y told = told refl
  not_both journal texts v f x y told = y

  failures_once : (journal : Text) (texts : List Text) (f h : Failure) → IsFailure journal texts f → IsFailure journal texts h →
      f ≢ OutOfMemory → h ≢ OutOfMemory → told f ≡ told h
  failures_once journal texts TooManyFiles TooManyFiles x y p q = refl
  failures_once journal texts TooManyFiles (FileSyntax n f) x y p q = let few = y.0 in absurd (omega (arith, x))
  failures_once journal texts TooManyFiles (JournalLine n) x y p q = let few = y.0 in absurd (omega (arith, x))
  failures_once journal texts TooManyFiles (Altitude n) x y p q = let few = y.0 in absurd (omega (arith, x))
  failures_once journal texts (FileSyntax m e) TooManyFiles x y p q = let few = x.0 in absurd (omega (arith, y))
  failures_once journal texts (FileSyntax m e) (FileSyntax n f) x y p q = syntax_once texts m n e f x.1 y.1
  failures_once journal texts (FileSyntax m e) (JournalLine n) x y p q = absurd (all_spelled texts m e y.1.0 x.1 y.1.1)
  failures_once journal texts (FileSyntax m e) (Altitude n) x y p q = absurd (all_spelled texts m e y.1.0 x.1 y.1.1)
  failures_once journal texts (JournalLine m) TooManyFiles x y p q = let few = x.0 in absurd (omega (arith, y))
  failures_once journal texts (JournalLine m) (FileSyntax n f) x y p q = absurd (all_spelled texts n f x.1.0 y.1 x.1.1)
  failures_once journal texts (JournalLine m) (JournalLine n) x y p q = ap JournalLine (first journal m x.2.0 n y.2.0 x.2.1 y.2.1).0
  failures_once journal texts (JournalLine m) (Altitude n) x y p q = absurd (not_a_journal journal y.2.0 m x.2.0 y.2.1 y.2.2 x.2.1)
  failures_once journal texts (Altitude m) TooManyFiles x y p q = let few = x.0 in absurd (omega (arith, y))
  failures_once journal texts (Altitude m) (FileSyntax n f) x y p q = absurd (all_spelled texts n f x.1.0 y.1 x.1.1)
  failures_once journal texts (Altitude m) (JournalLine n) x y p q = absurd (not_a_journal journal x.2.0 n y.2.0 x.2.1 x.2.2 y.2.1)
  failures_once journal texts (Altitude m) (Altitude n) x y p q =
      ap Altitude (repeated_once x.1.0 m n x.1.2 (subst (λ fs. IsRepeated fs n) (filters_once texts y.1.0 x.1.0 y.1.1 x.1.1) y.1.2))
  failures_once journal texts OutOfMemory h x y p q = absurd (p refl)
  failures_once journal texts f OutOfMemory x y p q = absurd (q refl)
  failures_once journal texts TooManyFiles h x y p q = absurd y
  failures_once journal texts (FileSyntax m e) h x y p q = absurd y
  failures_once journal texts (JournalLine m) h x y p q = absurd y
  failures_once journal texts (Altitude m) h x y p q = absurd y
  failures_once journal texts f h x y p q = absurd x

  judged_once : (journal : Text) (texts : List Text) (a b : Result RunAnswer Failure) → Judges journal texts a →
      Judges journal texts b → AreSame (of_run a) (of_run b)
  judged_once journal texts (Ok (Judged v)) (Ok (Judged w)) x y p q = ap (λ u. seen (Ok (OfRun (Judged u)))) (verdict_once journal texts v w x y)
  judged_once journal texts (Ok (Judged v)) (Err f) x y p q = absurd (not_both journal texts v f x y (λ e. q (ap Err e)))
  judged_once journal texts (Err f) (Ok (Judged v)) x y p q = absurd (not_both journal texts v f y x (λ e. p (ap Err e)))
  judged_once journal texts (Err f) (Err h) x y p q = ap Err (failures_once journal texts f h x y (λ e. p (ap Err e)) (λ e. q (ap Err e)))
  judged_once journal texts (Ok (Judged v)) (Ok b) x y p q = absurd y
  judged_once journal texts (Err f) (Ok b) x y p q = absurd y
  judged_once journal texts (Ok a) b x y p q = absurd x

  -- of some bytes `replay` says one thing at most
  pub replayed_once : SaysOne OfRun IsReplayed
  replayed_once [] a b x y = absurd x
  replayed_once (journal ∷ texts) a b x y = judged_once journal texts a b x y
