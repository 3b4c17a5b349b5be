-- What texts are, with one more.
use Rattle.std.proofs.Common.{◌≡◌, ◌<◌, ◌≤◌, ◌+◌, ◌-◌, ℕ, zero, suc, List, [], ◌∷◌, ◌++◌, Some, refl, ap}
use Rattle.std.proofs.Common.{arith, sym, subst, ◌∙◌, get_or, length-append, take, slice_get, length}
use Rattle.std.proofs.lemmas.List.{take_all, take_more}
use Rattle.flt_model.specs.Program.{filters_of}
use Rattle.flt_syntax.specs.Spelling.{Spells}
use Rattle.flt_syntax.specs.TextFails.{Fails}
use Rattle.flt_syntax.specs.declared.fault.SyntaxFault.{SyntaxFault}
use Rattle.flt_tree.specs.Names.{Text}
use Rattle.flt_tree.specs.declared.filter.Filter.{Filter}
use Rattle.flt_tree.specs.declared.tree.Tree.{Tree}
use Rattle.flt_places.specs.declared.files.Files.{Files}
use Rattle.flt_explain_texts.specs.declared.sources.Source.{Source}
use Rattle.flt_explain_outcomes.specs.Parsed.{AreFilesOf, AreParsed, fails, no_source, none, parses, with_files, without}
use Rattle.flt_explain_outcomes.specs.Readings.{AreReadings, AreStudied, IsPlaced, IsReading, IsStudied, files_by}
use Rattle.flt_explain_outcomes.specs.Readings.{files_read, known, known_in, sources_read, texts_read}
use Rattle.flt_explain_outcomes.specs.declared.readings.Reading.{Reading}
use Rattle.flt_explain_outcomes.specs.declared.readings.Reading.TheVariants.{Unread, Other, Known}
use Rattle.flt_explain_outcomes.specs.declared.readings.Readings.{Readings}
use Rattle.flt_explain_outcomes.specs.declared.readings.StudiedText.{StudiedText}

-- a text more that fails has no filter
pub parsed_and_fault : (t : Text) (e : SyntaxFault) {ts : List Text} {fs : List Filter} → Fails t e → AreParsed ts fs →
    AreParsed (ts ++ t ∷ []) fs
parsed_and_fault t e h none = fails h none
parsed_and_fault t e h (parses p are) = parses p (parsed_and_fault t e h are)
parsed_and_fault t e h (fails p are) = fails p (parsed_and_fault t e h are)

-- the filter of a text more that spells one stands behind the others
pub parsed_and_filter : (t : Text) (f : Filter) {ts : List Text} {fs : List Filter} → Spells t f → AreParsed ts fs →
    AreParsed (ts ++ t ∷ []) (fs ++ f ∷ [])
parsed_and_filter t f h none = parses h none
parsed_and_filter t f h (parses p are) = parses p (parsed_and_filter t f h are)
parsed_and_filter t f h (fails p are) = fails p (parsed_and_filter t f h are)

-- before any text is read
pub nothing_read : (r : Readings) → r.trees ≡ [] → r.each.items ≡ [] → AreReadings r
nothing_read r trees each = record { each = rw each tt; many = rw (each, trees) refl; filters = rw (each, trees) none }

-- what stands at a place stands there where one more stands at the end
pub get_of_more : {X : Type 0} (xs : List X) (y x : X) (i : ℕ) → slice_get xs i ≡ Some x → slice_get (xs ++ y ∷ []) i ≡ Some x
get_of_more [] y x i is = absurd (cc is)
get_of_more (z ∷ xs) y x zero is = is
get_of_more (z ∷ xs) y x (suc i) is = get_of_more xs y x i is

-- the last stands behind the others
pub get_last : {X : Type 0} (xs : List X) (y : X) → slice_get (xs ++ y ∷ []) (length xs) ≡ Some y
get_last [] y = refl
get_last (x ∷ xs) y = get_last xs y

-- one more text is taken of those that were studied
pub one_taken : (each : List StudiedText) (i : ℕ) (s : StudiedText) →
    i < length each → s ≡ get_or each i s → take (i + 1) each ≡ take i each ++ s ∷ []
one_taken each i s h is = take_more each i s h ∙ ap (λ x. take i each ++ x ∷ []) (sym is)

-- one more text
studied_push : (trees : List Tree) (place : ℕ) (each : List StudiedText) (s : StudiedText) →
    AreStudied trees place each → IsStudied trees s →
    IsPlaced (place + known_in each) s.reading → AreStudied trees place (each ++ s ∷ [])
studied_push trees place [] s are is placed =
    let same : place + 0 ≡ place = omega arith in (is, subst (λ n. IsPlaced n s.reading) same placed, tt)
studied_push trees place (t ∷ each) s are is placed =
    let same : place + (known t.reading + known_in each) ≡ place + known t.reading + known_in each = omega arith in
    (are.0, are.1, studied_push trees (place + known t.reading) each s are.2 is (subst (λ n. IsPlaced n s.reading) same placed))

-- one more text that is studied is one source more
pub sources_push : (each : List StudiedText) (s : StudiedText) → sources_read (each ++ s ∷ []) ≡ sources_read each ++ s.source ∷ []
sources_push [] s = refl
sources_push (t ∷ each) s = ap (λ ss. t.source ∷ ss) (sources_push each s)

-- one more text that is studied is one text more
pub texts_push : (each : List StudiedText) (s : StudiedText) → texts_read (each ++ s ∷ []) ≡ texts_read each ++ s.source.text.now ∷ []
texts_push [] s = refl
texts_push (t ∷ each) s = ap (λ ts. t.source.text.now ∷ ts) (texts_push each s)

-- one more text that is studied may be one filter more that is known
pub known_push : (each : List StudiedText) (s : StudiedText) → known_in (each ++ s ∷ []) ≡ known_in each + known s.reading
known_push [] s = omega arith
known_push (t ∷ each) s = let more = known_push each s in omega (arith, more)

filters-push : (trees : List Tree) (tree : Tree) → filters_of (trees ++ tree ∷ []) ≡ filters_of trees ++ tree.filter ∷ []
filters-push [] tree = refl
filters-push (t ∷ trees) tree = ap (λ fs. t.filter ∷ fs) (filters-push trees tree)

module _ (trees : List Tree) (tree : Tree) where
  reading_of_more : (text : Text) (r : Reading) → IsReading trees text r → IsReading (trees ++ tree ∷ []) text r
  reading_of_more text (Unread f) is = is
  reading_of_more text (Other kind) is = is
  reading_of_more text (Known place) is =
      record { tree = is.tree; own = get_of_more trees tree is.tree place is.own; spelled = is.spelled }

  -- what texts are stays so where a tree more stands at the end
  all_of_more : (place : ℕ) (each : List StudiedText) → AreStudied trees place each → AreStudied (trees ++ tree ∷ []) place each
  all_of_more place [] are = tt
  all_of_more place (s ∷ each) are =
      (reading_of_more s.source.text.now s.reading are.0, are.1, all_of_more (place + known s.reading) each are.2)

module _ (r : Readings) (are : AreReadings r) (s : StudiedText) (new : Readings) where
  -- with a text that doesn't parse
  pub with_unread : (f : SyntaxFault) → Fails s.source.text.now f → IsStudied r.trees s → IsPlaced (known_in r.each.items) s.reading →
      known s.reading ≡ 0 → new.trees ≡ r.trees → new.each.items ≡ r.each.items ++ s ∷ [] → AreReadings new
  with_unread f fault is placed unknown same more = record {
    each = let first : known_in r.each.items ≡ 0 + known_in r.each.items = omega arith in
        rw (same, more) (studied_push r.trees 0 r.each.items s are.each is (subst (λ n. IsPlaced n s.reading) first placed));
    many = rw (same, more, known_push r.each.items s, unknown, sym are.many) (omega arith);
    filters = rw (same, more, texts_push r.each.items s) (parsed_and_fault s.source.text.now f fault are.filters);
  }

  -- with a text that parses
  pub with_known : (tree : Tree) → Spells s.source.text.now tree.filter → IsStudied (r.trees ++ tree ∷ []) s →
      IsPlaced (known_in r.each.items) s.reading → known s.reading ≡ 1 → new.trees ≡ r.trees ++ tree ∷ [] →
      new.each.items ≡ r.each.items ++ s ∷ [] → AreReadings new
  with_known tree spelled is placed one same more = record {
    each = let first : known_in r.each.items ≡ 0 + known_in r.each.items = omega arith in
        rw (same, more) (studied_push (r.trees ++ tree ∷ []) 0 r.each.items s (all_of_more r.trees tree 0 r.each.items are.each) is
        (subst (λ n. IsPlaced n s.reading) first placed));
    many = rw (same, more, known_push r.each.items s, one) (let many = are.many in omega (arith, length-append r.trees (tree ∷ []), many));
    filters = rw (same, more, texts_push r.each.items s, filters-push r.trees tree)
        (parsed_and_filter s.source.text.now tree.filter spelled are.filters);
  }

files_one : (trees : List Tree) (s : Source) (r : Reading) (ss : List Source) (files : List Files) → IsReading trees s.text.now r →
    AreFilesOf ss files → AreFilesOf (s ∷ ss) (files_by r s ++ files)
files_one trees s (Unread f) ss files is are = without is.fault are
files_one trees s (Other kind) ss files is are = without is.unread are
files_one trees s (Known place) ss files is are = with_files is.spelled are

-- the files that are read are those of the texts that parse
pub files_placed : (trees : List Tree) (place : ℕ) (each : List StudiedText) → AreStudied trees place each →
    AreFilesOf (sources_read each) (files_read each)
files_placed trees place [] are = no_source
files_placed trees place (s ∷ each) are =
    files_one trees s.source s.reading (sources_read each) (files_read each) are.0
    (files_placed trees (place + known s.reading) each are.2)

-- each file is what it is said to be
pub studied_at : (trees : List Tree) (place : ℕ) (each : List StudiedText) (i : ℕ) (d : StudiedText) →
    AreStudied trees place each → i < length each →
    IsStudied trees (get_or each i d)
studied_at trees place [] i d are h = absurd (omega (arith, h))
studied_at trees place (s ∷ each) zero d are h = are.0
studied_at trees place (s ∷ each) (suc i) d are h = studied_at trees (place + known s.reading) each i d are.2 (omega (arith, h))

-- and the tree of one that parses has the place that stands behind those before it
pub placed_at : (trees : List Tree) (place : ℕ) (each : List StudiedText) (i : ℕ) (d : StudiedText) →
    AreStudied trees place each → i < length each →
    IsPlaced (place + known_in (take i each)) (get_or each i d).reading
placed_at trees place [] i d are h = absurd (omega (arith, h))
placed_at trees place (s ∷ each) zero d are h =
    let same : place ≡ place + 0 = omega arith in subst (λ n. IsPlaced n s.reading) same are.1
placed_at trees place (s ∷ each) (suc i) d are h =
    let same : place + known s.reading + known_in (take i each) ≡ place + (known s.reading + known_in (take i each)) = omega arith in
    subst (λ n. IsPlaced n (get_or each i d).reading) same
    (placed_at trees (place + known s.reading) each i d are.2 (omega (arith, h)))

-- one more of some texts
pub known_taken : (each : List StudiedText) (i : ℕ) (s : StudiedText) → i < length each → s ≡ get_or each i s →
    known_in (take (i + 1) each) ≡ known_in (take i each) + known s.reading
known_taken each i s h is =
    ap known_in (one_taken each i s h is) ∙ known_push (take i each) s

pub texts_taken : (each : List StudiedText) (i : ℕ) (s : StudiedText) → i < length each → s ≡ get_or each i s →
    texts_read (take (i + 1) each) ≡ texts_read (take i each) ++ s.source.text.now ∷ []
texts_taken each i s h is = ap texts_read (one_taken each i s h is) ∙ texts_push (take i each) s

-- the sources of both
pub sources_both : (each more : List StudiedText) → sources_read (each ++ more) ≡ sources_read each ++ sources_read more
sources_both [] more = refl
sources_both (s ∷ each) more = ap (λ ss. s.source ∷ ss) (sources_both each more)

-- texts that are studied are studied up to each place
pub studied_taken : (trees : List Tree) (place : ℕ) (each : List StudiedText) (n : ℕ) → AreStudied trees place each →
    AreStudied trees place (take n each)
studied_taken trees place each zero are = tt
studied_taken trees place [] (suc n) are = tt
studied_taken trees place (s ∷ each) (suc n) are = (are.0, are.1, studied_taken trees (place + known s.reading) each n are.2)

-- a text among those that were taken is studied
pub studied_here : (trees : List Tree) (each : List StudiedText) (n i : ℕ) (s : StudiedText) →
    AreStudied trees 0 each → i < length (take n each) →
    s ≡ get_or (take n each) i s → IsStudied trees s
studied_here trees each n i s are h is =
    subst (IsStudied trees) (sym is) (studied_at trees 0 (take n each) i s (studied_taken trees 0 each n are) h)

-- a text among those that were taken has its place by the filters before it
pub placed_here : (trees : List Tree) (each : List StudiedText) (n i : ℕ) (s : StudiedText) →
    AreStudied trees 0 each → i < length (take n each) →
    s ≡ get_or (take n each) i s → IsPlaced (known_in (take i (take n each))) s.reading
placed_here trees each n i s are h is =
    let here = placed_at trees 0 (take n each) i s (studied_taken trees 0 each n are) h in
    let same : 0 + known_in (take i (take n each)) ≡ known_in (take i (take n each)) = omega arith in
    subst (λ (x : StudiedText). IsPlaced (known_in (take i (take n each))) x.reading) (sym is)
    (subst (λ m. IsPlaced m (get_or (take n each) i s).reading) same here)

-- the last text is studied
pub last_studied : (trees : List Tree) (each : List StudiedText) (s : StudiedText) → AreStudied trees 0 each → 1 ≤ length each →
    s ≡ get_or each (length each - 1) s → IsStudied trees s
last_studied trees each s are some is =
    subst (IsStudied trees) (sym is) (studied_at trees 0 each (length each - 1) s are (omega (arith, some)))

-- the last text has its place by the filters of those before it
pub last_placed : (trees : List Tree) (each : List StudiedText) (s : StudiedText) → AreStudied trees 0 each → 1 ≤ length each →
    s ≡ get_or each (length each - 1) s → IsPlaced (known_in (take (length each - 1) each)) s.reading
last_placed trees each s are some is =
    let here = placed_at trees 0 each (length each - 1) s are (omega (arith, some)) in
    let same : 0 + known_in (take (length each - 1) each) ≡ known_in (take (length each - 1) each) = omega arith in
    subst (λ (x : StudiedText). IsPlaced (known_in (take (length each - 1) each)) x.reading) (sym is)
    (subst (λ m. IsPlaced m (get_or each (length each - 1) s).reading) same here)

-- the last one stands behind the others
pub with_last : (each : List StudiedText) (s : StudiedText) → 1 ≤ length each → s ≡ get_or each (length each - 1) s →
    each ≡ take (length each - 1) each ++ s ∷ []
with_last each s some is =
    let all : length each ≤ length each - 1 + 1 = omega (arith, some) in
    sym (take_all (length each - 1 + 1) each all) ∙ one_taken each (length each - 1) s (omega (arith, some)) is
