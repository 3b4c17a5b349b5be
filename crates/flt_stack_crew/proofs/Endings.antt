-- How a run of one caller ends.
use Rattle.std.proofs.Common.{◌≡◌, ℕ, suc, ◌+◌, ◌^◌, ◌<◌, ◌≤◌, Bool, true, false, if◌then◌else◌, List, []}
use Rattle.std.proofs.Common.{◌∷◌, ◌++◌, IsPermutation, length, map, sum_by, sym, subst, arith, refl, ◌∙◌}
use Rattle.std.proofs.lemmas.List.{append-nil}
use Rattle.std.proofs.lemmas.List.Sums.{sum_by-cons}
use Rattle.flt_stack_core.specs.Counting.{callers_in, is_callers, others_in}
use Rattle.flt_stack_core.specs.declared.receipt.Receipt.{Receipt}
use Rattle.flt_stack_crew.specs.Following.{IsFollowed}
use Rattle.flt_stack_crew.specs.Running.{IsEnded}
use Rattle.flt_stack_crew.specs.declared.ending.Ending.TheVariants.{Whole, Full, Already, Differ}
use Rattle.flt_model.specs.declared.moves.JournalEntry.{JournalEntry}
use Rattle.flt_stack_core.specs.Bounds.{IsFull}
use Rattle.flt_stack_core.specs.Receipts.{receipts_in, together}
use Rattle.flt_stack_script.specs.ScriptText.{Commands}
use Rattle.flt_stack_script.specs.declared.command.Command.TheVariants.{Detach}

-- there are no more entries of others than entries
others_few : (entries : List JournalEntry) → others_in entries ≤ length entries
others_few [] = omega arith
others_few (e ∷ entries) = by (is_callers e) (others_few entries)
  where
    by : (b : Bool) → others_in entries ≤ length entries → (if b then 0 else 1) + others_in entries ≤ suc (length entries)
    by true few = omega (arith, few)
    by false few = omega (arith, few)

module _ {S : Type 0} (seats : List S) (seat : S) (one : seats ≡ seat ∷ []) where
  -- one seat holds what all hold
  pub alone : (held : S → List Receipt) → together (map held seats) ≡ held seat
  alone held = rw one (append-nil (held seat))

  -- one seat has what all have
  pub sum_of_one : (has : S → ℕ) → sum_by has seats ≡ has seat
  sum_of_one has = rw one (sum_by-cons has seat [] ∙ omega arith)

module _ (commands : Commands) (entries : List JournalEntry) (receipts : List Receipt) (asked : List ℕ) (callers others made fulls : ℕ)
    (is_full is_refused : Bool)
    (followed : IsFollowed commands receipts asked callers others made fulls is_full is_refused) (these : callers_in entries ≡ callers)
    (those : others_in entries ≡ others) where
  -- what was followed to its end, and agrees, is whole
  pub ends_whole : is_full ≡ false → is_refused ≡ false → length entries < 2 ^ 64 → IsPermutation (receipts_in entries) receipts →
      IsEnded commands entries made Whole
  ends_whole all none few same =
      let whole = followed.whole all none in
      record {
        given = commands;
        rest = [];
        parts = sym (append-nil commands);
        receipts = receipts;
        asked = asked;
        kept = whole.0;
        agree = λ _. same;
        differ = λ e. absurd (cc e);
        callers = these ∙ followed.callers_counted;
        others = omega (arith, followed.others_counted, those);
        whole = λ _. (refl, those ∙ sym (whole.1.1 (omega (arith, those, few, others_few entries))));
        full = λ e. absurd (cc e);
        already = λ e. absurd (cc e);
      }

  -- what was broken off, and agrees, is full
  pub ends_full : IsFull entries → IsPermutation (receipts_in entries) receipts → IsEnded commands entries made Full
  ends_full full same = record {
    given = followed.given.given;
    rest = followed.given.rest;
    parts = followed.given.parts;
    receipts = receipts;
    asked = asked;
    kept = followed.given.made;
    agree = λ _. same;
    differ = λ e. absurd (cc e);
    callers = these ∙ followed.callers_counted;
    others = omega (arith, followed.others_counted, those);
    whole = λ e. absurd (cc e);
    full = λ _. full;
    already = λ e. absurd (cc e);
  }

  -- what was broken off at a detach that was refused, and agrees, ends so
  pub ends_refused : is_refused ≡ true → IsPermutation (receipts_in entries) receipts → IsEnded commands entries made Already
  ends_refused is same =
      let stops = followed.refused is in
      record {
        given = stops.given;
        rest = Detach stops.altitude ∷ stops.rest;
        parts = stops.parts;
        receipts = receipts;
        asked = asked;
        kept = stops.made;
        agree = λ _. same;
        differ = λ e. absurd (cc e);
        callers = these ∙ followed.callers_counted;
        others = omega (arith, followed.others_counted, those);
        whole = λ e. absurd (cc e);
        full = λ e. absurd (cc e);
        already = λ _. (stops.altitude, stops.rest, refl);
      }

  -- what doesn't agree differs
  pub ends_apart : (IsPermutation (receipts_in entries) receipts → ⊥) → IsEnded commands entries made Differ
  ends_apart apart = record {
    given = followed.given.given;
    rest = followed.given.rest;
    parts = followed.given.parts;
    receipts = receipts;
    asked = asked;
    kept = followed.given.made;
    agree = λ other. absurd (other refl);
    differ = λ _. apart;
    callers = these ∙ followed.callers_counted;
    others = omega (arith, followed.others_counted, those);
    whole = λ e. absurd (cc e);
    full = λ e. absurd (cc e);
    already = λ e. absurd (cc e);
  }
