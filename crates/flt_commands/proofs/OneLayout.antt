-- Of some files one thing is said at most where they are laid out, and none is written.
use Rattle.std.proofs.Common.{◌≡◌, ◌≢◌, ◌∙◌, ◌&&◌, ◌||◌, ◌++◌, ℕ, Bool, false, arith, ap, drop, flat_map, take, List}
use Rattle.std.proofs.Common.{[], ◌∷◌, Some, None, Result, Ok, Err, inl, inr, length, refl, string_bytes, subst, sym}
use Rattle.std.proofs.lemmas.Grind.{flat_map-append}
use Rattle.std.proofs.lemmas.List.{same_from_push}
use Rattle.std.proofs.lemmas.Option.{none-some, same_Some}
use Rattle.std.specs.List.{list_any}
use Rattle.flt_files.proofs.Firsts.{any_more}
use Rattle.flt_commands.proofs.OneDecision.{start_once}
use Rattle.flt_files.specs.Unread.{status_beside}
use Rattle.flt_commands_texts.specs.Format.{AreOutcomes, ComesTo, HasNoLayout, IsFormatSaid, IsLayout, IsOutcome}
use Rattle.flt_commands_texts.specs.Format.{MayBe, is_unwritten, none as no_outcome, one_more}
use Rattle.flt_files.specs.Inputs.{AreRead, Giving, IsMissing, Text, is_standard, missing, none, read, unread_names}
use Rattle.flt_commands_texts.specs.Outcomes.{files_status, is_failed, is_other, layout_in, printed, unformatted_line}
use Rattle.flt_commands.specs.Answer.{of_text}
use Rattle.flt_commands.specs.Single.{AreSame, GivesOne}
use Rattle.flt_commands_texts.specs.declared.answer.TextAnswer.{TextAnswer}
use Rattle.flt_commands_texts.specs.declared.answer.TextAnswer.TheVariants.{Formatted}
use Rattle.flt_files.specs.declared.failure.Failure.{Failure}
use Rattle.flt_commands_texts.specs.declared.outcomes.FileOutcome.{FileOutcome}
use Rattle.flt_commands_texts.specs.declared.outcomes.Outcome.{Outcome}
use Rattle.flt_commands_texts.specs.declared.outcomes.Outcome.TheVariants.{Same, Other, Unwritten, Fault, Long}
use Rattle.flt_files.specs.declared.unread.UnreadFile.{UnreadFile}
use Rattle.flt_layout.specs.Layout.{laid_out}
use Rattle.flt_layout.specs.declared.formatted.FormatError.TheVariants as error
use Rattle.flt_syntax.specs.Spelling.{Spells}
use Rattle.flt_syntax.specs.TextFails.{SpelledFailsNowhere}
use Rattle.flt_syntax.specs.declared.fault.SyntaxFault.{SyntaxFault}
use Rattle.flt_words.specs.declared.request.FormatMode.{FormatMode}
use Rattle.flt_words.specs.declared.request.FormatMode.TheVariants as modes

-- ---- what is read

nil_push : {X : Type 0} (xs : List X) (x : X) → [] ≡ xs ++ x ∷ [] → ⊥
nil_push [] x e = cc
nil_push (y ∷ ys) x e = cc

module _ (gives : Giving) (one : GivesOne gives) where
  -- a name that gives something isn't missing
  given_or_missing : (before : List Text) (name text : Text) → gives name (Some text) →
      is_standard name && list_any is_standard before ≡ false →
      IsMissing gives before name → ⊥
  given_or_missing before name text is other (inl again) = cc
  given_or_missing before name text is other (inr nothing) = none-some text (one name None (Some text) nothing is)

  -- the names that are read are one list, and so are what they give and the others
  pub read_once : (files others names again texts more unread left : List Text) → files ≡ others → AreRead gives files names texts unread →
      AreRead gives others again more left → (names ≡ again) × ((texts ≡ more) × (unread ≡ left))
  read_once _ _ _ _ _ _ _ _ same none none = (refl, (refl, refl))
  read_once _ _ _ _ _ _ _ _ same none (read {names = ns} name text are is other) = absurd (nil_push ns name same)
  read_once _ _ _ _ _ _ _ _ same none (missing {names = ns} name are lost) = absurd (nil_push ns name same)
  read_once _ _ _ _ _ _ _ _ same (read {names = ns} name text are is other) none = absurd (nil_push ns name (sym same))
  read_once _ _ _ _ _ _ _ _ same (missing {names = ns} name are lost) none = absurd (nil_push ns name (sym same))
  read_once _ _ _ _ _ _ _ _ same (read {names = ns} {read = got} {texts = ts} {unread = us} name text are is other)
      (read {names = ms} {read = found} {texts = ss} {unread = vs} last own were has first) =
      let ends = same_from_push ns ms name last same in
      let before = read_once ns ms got found ts ss us vs ends.0 are were in
      let texts : text ≡ own = same_Some text own
      (one name (Some text) (Some own) is (subst (λ n. gives n (Some own)) (sym ends.1) has)) in (
        ap (λ l. l ++ name ∷ []) before.0 ∙ ap (λ n. found ++ n ∷ []) ends.1,
        (ap (λ l. l ++ text ∷ []) before.1.0 ∙ ap (λ t. ss ++ t ∷ []) texts, before.1.1),
      )
  read_once _ _ _ _ _ _ _ _ same (missing {names = ns} {read = got} {texts = ts} {unread = us} name are lost)
      (missing {names = ms} {read = found} {texts = ss} {unread = vs} last were gone) =
      let ends = same_from_push ns ms name last same in
      let before = read_once ns ms got found ts ss us vs ends.0 are were in
      (before.0, (before.1.0, ap (λ l. l ++ name ∷ []) before.1.1 ∙ ap (λ n. vs ++ n ∷ []) ends.1))
  read_once _ _ _ _ _ _ _ _ same (read {names = ns} name text are is other) (missing {names = ms} last were gone) =
      let ends = same_from_push ns ms name last same in
      absurd (given_or_missing ns name text is other
      (subst (λ l. IsMissing gives l name) (sym ends.0) (subst (IsMissing gives ms) (sym ends.1) gone)))
  read_once _ _ _ _ _ _ _ _ same (missing {names = ns} name are lost) (read {names = ms} last text were is other) =
      let ends = same_from_push ns ms name last same in
      absurd (given_or_missing ms last text is other (subst (λ l. IsMissing gives l last) ends.0 (subst (IsMissing gives ns) ends.1 lost)))

-- ---- what a file comes to

layouts_once : (input a b : Text) → IsLayout input a → IsLayout input b → a ≡ b
layouts_once input a b x y =
    let starts : x.start ≡ y.start = start_once input x.start y.start x.begins y.begins in
    let laid : x.layout ≡ y.layout = x.is.is ∙ ap (λ n. laid_out (take n input)) starts ∙ sym y.is.is in
    x.whole ∙ ap (λ l. l ++ drop x.start input) laid ∙ ap (λ n. y.layout ++ drop n input) starts ∙ sym y.whole

-- what is seen of an outcome is one thing, unless it couldn't be written
abbrev AreAlike : Outcome → Outcome → Type 0
AreAlike p q = (layout_in p ≡ layout_in q) × ((is_other p ≡ is_other q) × (is_failed p ≡ is_failed q))

abbrev fails : FileOutcome → Bool
fails file = is_failed file.outcome

abbrev differs : FileOutcome → Bool
differs file = is_other file.outcome

record AreSeenAlike (mode : FormatMode) (files others : List FileOutcome) : Type 0 where
  pub prints : flat_map (printed mode) files ≡ flat_map (printed mode) others
  pub failing : list_any fails files ≡ list_any fails others
  pub differing : list_any differs files ≡ list_any differs others

module _ (nowhere : SpelledFailsNowhere) where
  not_faulty : (input a : Text) (f : SyntaxFault) → IsLayout input a → HasNoLayout input (error.Syntax f) → ⊥
  not_faulty input a f x (start, begins, fails) =
      let starts : x.start ≡ start = start_once input x.start start x.begins begins in
      nowhere (take start input) x.is.filter f (subst (λ n. Spells (take n input) x.is.filter) starts x.is.spelled) fails

  not_long : (input a : Text) → IsLayout input a → HasNoLayout input error.Long → ⊥
  not_long input a x (start, begins, long) =
      let starts : x.start ≡ start = start_once input x.start start x.begins begins in
      let is : x.layout ≡ laid_out (take start input) = x.is.is ∙ ap (λ n. laid_out (take n input)) starts in
      absurd (omega (arith, x.is.short, long.long, ap length is))

  alike : (input : Text) (p q : Outcome) → is_unwritten p ≡ false → is_unwritten q ≡ false → ComesTo input p → ComesTo input q →
      AreAlike p q
  alike input (Same a) (Same b) k l x y = (layouts_once input a.items b.items x.0 y.0, (refl, refl))
  alike input (Other a) (Other b) k l x y = (layouts_once input a.items b.items x.0 y.0, (refl, refl))
  alike input (Same a) (Other b) k l x y = absurd (y.1 (layouts_once input b.items a.items y.0 x.0 ∙ x.1))
  alike input (Other a) (Same b) k l x y = absurd (x.1 (layouts_once input a.items b.items x.0 y.0 ∙ y.1))
  alike input (Same a) (Fault f) k l x y = absurd (not_faulty input a.items f x.0 y)
  alike input (Other a) (Fault f) k l x y = absurd (not_faulty input a.items f x.0 y)
  alike input (Same a) Long k l x y = absurd (not_long input a.items x.0 y)
  alike input (Other a) Long k l x y = absurd (not_long input a.items x.0 y)
  alike input (Fault f) (Same b) k l x y = absurd (not_faulty input b.items f y.0 x)
  alike input (Fault f) (Other b) k l x y = absurd (not_faulty input b.items f y.0 x)
  alike input Long (Same b) k l x y = absurd (not_long input b.items y.0 x)
  alike input Long (Other b) k l x y = absurd (not_long input b.items y.0 x)
  alike input (Fault f) (Fault g) k l x y = (refl, (refl, refl))
  alike input (Fault f) Long k l x y = (refl, (refl, refl))
  alike input Long (Fault f) k l x y = (refl, (refl, refl))
  alike input Long Long k l x y = (refl, (refl, refl))
  alike input (Unwritten a why) q k l x y = absurd (cc k)
  alike input p (Unwritten b why) k l x y = absurd (cc l)

  -- none is written
  fits_unwritten : (mode : FormatMode) (outcome : Outcome) → mode ≢ modes.Write → MayBe mode outcome → is_unwritten outcome ≡ false
  fits_unwritten modes.Print outcome other fits = fits
  fits_unwritten modes.Check outcome other fits = fits
  fits_unwritten modes.Write outcome other fits = absurd (other refl)

  unformatted_once : (name own : Text) (p q : Outcome) → name ≡ own → is_other p ≡ is_other q →
      unformatted_line name p ≡ unformatted_line own q
  unformatted_once name own p q named same = rw (named, same) refl

  printed_once : (mode : FormatMode) (a b : FileOutcome) → string_bytes a.name ≡ string_bytes b.name → AreAlike a.outcome b.outcome →
      printed mode a ≡ printed mode b
  printed_once modes.Print a b named same = same.0
  printed_once modes.Check a b named same = unformatted_once (string_bytes a.name) (string_bytes b.name) a.outcome b.outcome named same.1.0
  printed_once modes.Write a b named same = refl

  -- what all files come to
  module _ (mode : FormatMode) (other : mode ≢ modes.Write) where
    seen_more : (files others : List FileOutcome) (a b : FileOutcome) (input : Text) → AreSeenAlike mode files others →
        string_bytes a.name ≡ string_bytes b.name → IsOutcome mode input a → IsOutcome mode input b →
        AreSeenAlike mode (files ++ a ∷ []) (others ++ b ∷ [])
    seen_more files others a b input same named x y =
        let one : AreAlike a.outcome b.outcome =
        alike input a.outcome b.outcome (fits_unwritten mode a.outcome other x.fits) (fits_unwritten mode b.outcome other y.fits)
        x.comes y.comes in
        let printed_one : printed mode a ≡ printed mode b = printed_once mode a b named one in
        record {
          prints = flat_map-append (printed mode) files (a ∷ []) ∙ ap (λ l. l ++ (printed mode a ++ [])) same.prints
              ∙ ap (λ l. flat_map (printed mode) others ++ (l ++ [])) printed_one ∙ sym (flat_map-append (printed mode) others (b ∷ []));
          failing = any_more fails files a ∙ ap (λ l. l || fails a) same.failing ∙ ap (λ l. list_any fails others || l) one.1.1
              ∙ sym (any_more fails others b);
          differing = any_more differs files a ∙ ap (λ l. l || differs a) same.differing ∙ ap (λ l. list_any differs others || l) one.1.0
              ∙ sym (any_more differs others b);
        }

    outcomes_once : (names own inputs more : List Text) (files others : List FileOutcome) → names ≡ own → inputs ≡ more →
        AreOutcomes mode names inputs files → AreOutcomes mode own more others → AreSeenAlike mode files others
    outcomes_once _ _ _ _ _ _ named given no_outcome no_outcome = record { prints = refl; failing = refl; differing = refl }
    outcomes_once _ _ _ _ _ _ named given no_outcome (one_more {names = ns} input file are is) =
        absurd (nil_push ns (string_bytes file.name) named)
    outcomes_once _ _ _ _ _ _ named given (one_more {names = ns} input file are is) no_outcome =
        absurd (nil_push ns (string_bytes file.name) (sym named))
    outcomes_once _ _ _ _ _ _ named given (one_more {names = ns} {inputs = ts} {files = fs} input file are is)
        (one_more {names = ms} {inputs = ss} {files = gs} last own were has) =
        let ends = same_from_push ns ms (string_bytes file.name) (string_bytes own.name) named in
        let texts = same_from_push ts ss input last given in
        seen_more fs gs file own input (outcomes_once ns ms ts ss fs gs ends.0 texts.0 are were) ends.1 is
        (subst (λ t. IsOutcome mode t own) (sym texts.1) has)

  status_once : (mode : FormatMode) (files others : List FileOutcome) → AreSeenAlike mode files others →
      files_status mode files ≡ files_status mode others
  status_once mode files others same = rw (same.failing, same.differing) refl

  told_once : (m n : ℕ) (unread left : List UnreadFile) → m ≡ n → unread_names unread ≡ unread_names left →
      status_beside m unread ≡ status_beside n left
  told_once m n [] [] same named = same
  told_once m n (f ∷ fs) (g ∷ gs) same named = refl
  told_once m n [] (g ∷ gs) same named = absurd (cc named)
  told_once m n (f ∷ fs) [] same named = absurd (cc named)

  -- one thing is said
  pub layouts_said_once : (gives : Giving) → GivesOne gives → (mode : FormatMode) → mode ≢ modes.Write → (files texts more : List Text)
      (a b : Result TextAnswer Failure) → IsFormatSaid gives mode files texts a → IsFormatSaid gives mode files more b →
      AreSame (of_text a) (of_text b)
  layouts_said_once gives one mode other files texts more (Ok (Formatted m a)) (Ok (Formatted n b)) x y =
      let once = read_once gives one files files x.1.names y.1.names texts more (unread_names a.unread.items)
      (unread_names b.unread.items) refl x.1.read y.1.read in
      let seen = outcomes_once mode other x.1.names y.1.names texts more a.files.items b.files.items once.0 once.1.0 x.1.are y.1.are in
      let prints : flat_map (printed m) a.files.items ≡ flat_map (printed n) b.files.items = rw (x.0, y.0) seen.prints in
      let status : status_beside (files_status m a.files.items) a.unread.items ≡ status_beside (files_status n b.files.items) b.unread.items =
      rw (x.0, y.0) (told_once _ _ a.unread.items b.unread.items (status_once mode a.files.items b.files.items seen) once.1.1) in
      λ p q. rw (prints, status) refl
  layouts_said_once gives one mode other files texts more (Ok (Formatted m a)) (Ok _) x y = absurd y
  layouts_said_once gives one mode other files texts more (Ok (Formatted m a)) (Err f) x y = absurd y
  layouts_said_once gives one mode other files texts more (Ok _) b x y = absurd x
  layouts_said_once gives one mode other files texts more (Err f) b x y = absurd x
