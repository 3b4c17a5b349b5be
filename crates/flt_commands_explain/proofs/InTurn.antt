-- Lines of several texts, one text's behind the other's.
use Rattle.std.proofs.Common.{◌≡◌, ◌∙◌, ℕ, suc, ◌+◌, ◌<◌, List, [], ◌∷◌, ◌++◌, Option, None, length, take, get_or, max, refl, ap, arith}
use Rattle.std.proofs.Math.Seq.{take-suc}
use Rattle.flt_door.proofs.Lines.{shows_both, shows_nothing}
use Rattle.std.specs.Io.KnownBytes.{Appends}
use Rattle.flt_door.specs.Door.{at_door}
use Rattle.flt_door.specs.Lines.{Shows}
use Rattle.flt_explain_texts.specs.declared.sources.Printout.{Printout}
use Rattle.flt_explain_texts.specs.declared.sources.Source.{Source}
use Rattle.flt_explain_forms.specs.Lines.{AreLines, AreLinesFrom, IsPart}
use Rattle.flt_explain_forms.specs.RunMember.{no_member, no_run}
use Rattle.flt_explain_forms.specs.declared.as_lines.Style.{Style}
use Rattle.flt_explain_warning_details.specs.declared.options.WarningOptions.{WarningOptions}
use Rattle.flt_files.specs.Inputs.{Text}
use Rattle.flt_commands_explain.proofs.WholeLines.{lines_of_text}
use Rattle.flt_commands_explain.specs.InTurn.{AreFirstLines, IsTextMore}

-- what is told of a text by itself is one text more behind others
pub text_more : (style : Style) (options : WarningOptions) (s : Source) (before after : Printout) (old new : Option Text)
    (printed : List ℕ) (status : ℕ) →
    AreLines style options (s ∷ []) None printed status → after.output.items ≡ before.output.items ++ printed →
    after.status ≡ max before.status status → Appends old new (at_door printed) → IsTextMore style options s before after old new
text_more style options s before after old new printed status (part, own, others, is, (same, none), greatest) output most sent = record {
  part = part;
  own = own;
  is = is;
  output = output ∙ ap (λ bytes. before.output.items ++ bytes) same;
  status = omega (arith, most, greatest, none);
  sent = record { lines = lines_of_text style options no_run s part own is; out = rw same at sent };
}

max_assoc : (a b c : ℕ) → max (max a b) c ≡ max a (max b c)
max_assoc a b c = omega arith

-- nothing is less than a number
none_or : (n a : ℕ) → a ≡ 0 → max a n ≡ max n 0
none_or n a none = omega (arith, none)

-- the lines of one text more
lines_push : (style : Style) (options : WarningOptions) (number : ℕ) (ss : List Source) (s : Source) (before printed part : List ℕ)
    (status own : ℕ) → AreLinesFrom style options no_member number ss before printed status → IsPart style options no_run s part own →
    AreLinesFrom style options no_member number (ss ++ s ∷ []) before (printed ++ part) (max status own)
lines_push style options number [] s before printed part status own (same, none) is =
    (part, own, 0, is, (ap (λ bytes. bytes ++ part) same, refl), none_or own _ none)
lines_push style options number (t ∷ ss) s before printed part status own (first, one, others, is_first, are, greatest) is = (
  first,
  one,
  max others own,
  is_first,
  lines_push style options (number + 1) ss s (before ++ first) printed part others own are is,
  ap (λ n. max n own) greatest ∙ max_assoc one others own,
)

source_more : (all : List Source) (i : ℕ) (d : Source) → i < length all → take (i + 1) all ≡ take i all ++ get_or all i d ∷ []
source_more all i d within =
    let next : take (suc i) all ≡ take i all ++ get_or all i d ∷ [] = take-suc all i d within in
    let same : i + 1 ≡ suc i = omega arith in rw (same, next) refl

-- the lines of the texts so far and of the next one
pub one_more_told : (all : List Source) (i : ℕ) (d : Source) → i < length all →
    (style : Style) (options : WarningOptions) (before after : Printout) (old new : Option Text) →
    AreLines style options (take i all) None before.output.items before.status →
    IsTextMore style options (get_or all i d) before after old new →
    AreLines style options (take (i + 1) all) None after.output.items after.status
one_more_told all i d within style options before after old new are more =
    rw (source_more all i d within, more.output, more.status)
    (lines_push style options 0 (take i all) (get_or all i d) [] before.output.items more.part before.status more.own are more.is)

-- all that is told so far went out
pub more_sent : (style : Style) (options : WarningOptions) (s : Source) (before after : Printout) (old between new : Option Text) →
    Shows old between before.output.items → IsTextMore style options s before after between new → Shows old new after.output.items
more_sent style options s before after old between new first more =
    rw more.output (shows_both old between new before.output.items more.part first more.sent)

-- what went out is what is told of the first texts
pub first_lines : (style : Style) (options : WarningOptions) (sources : List Source) (count : ℕ) (told : Printout)
    (old new : Option Text) →
    AreLines style options (take count sources) None told.output.items told.status → Shows old new told.output.items →
    AreFirstLines style options sources old new
first_lines style options sources count told old new are sent =
    record { count = count; printed = told.output.items; status = told.status; are = are; sent = sent }

-- the same where nothing went out since
pub lines_cut : {O : Type 0} (taken : O → Option Text) (style : Style) (options : WarningOptions) (sources : List Source)
    (count : ℕ) (told : Printout)
    (old between new : O) → AreLines style options (take count sources) None told.output.items told.status →
    Shows (taken old) (taken between) told.output.items → new ≡ between →
    AreFirstLines style options sources (taken old) (taken new)
lines_cut taken style options sources count told old between new are sent same =
    rw same (first_lines style options sources count told (taken old) (taken between) are sent)

-- nothing went out
pub no_lines : (style : Style) (options : WarningOptions) (sources : List Source) (old : Option Text) →
    AreFirstLines style options sources old old
no_lines style options sources old = record {
  count = 0;
  printed = [];
  status = 0;
  are = (refl, refl);
  sent = shows_nothing old;
}
