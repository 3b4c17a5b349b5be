-- Each comment begins with its `#`.
use Rattle.std.proofs.Common.{◌≡◌, ◌==◌, ◌+◌, ◌-◌, ◌≤◌, ◌∙◌, ◌&&◌, ℕ, zero, suc, Bool, true, false, Option, Some, None, List}
use Rattle.std.proofs.Common.{[], ◌∷◌, ◌++◌, ap, arith, codes, drop, get_or, length, refl, sym, take, rules, option_and_then}
use Rattle.std.proofs.lemmas.Grind.{common_steps}
use Rattle.std.proofs.lemmas.List.Folds.{list_all-append}
use Rattle.std.specs.List.{list_all}
use Rattle.flt_places.specs.Places.{line_of}
use Rattle.flt_tree.specs.Names.{Text}
use Rattle.flt_explain_warnings.specs.declared.warning.Kind.{Kind}
use Rattle.flt_explain_warnings.proofs.Lines.{cut, line_at}
use Rattle.flt_explain_warnings.specs.Allowances.{allowances_in, allowances_of, allowed_by, statement_from}
use Rattle.flt_explain_warnings.specs.Comment.{after, after_blanks, after_some_blanks, comment_of, end_of, is_blank, said}
use Rattle.flt_explain_warnings.specs.Marks.{CommentsBeginWithMarks, begins_with_mark}

-- ---- where the first byte is that is no blank

short_more : (b : ℕ) (z : Text) → length (after_blanks z) ≤ length z → (t : Bool) → is_blank b ≡ t →
    length (after_blanks (b ∷ z)) ≤ length (b ∷ z)
short_more b z less true e = rw e (omega (arith, less))
short_more b z less false e = rw e (omega arith)

short : (z : Text) → length (after_blanks z) ≤ length z
short [] = omega arith
short (b ∷ z) = short_more b z (short z) (is_blank b) refl

first_more : (b : ℕ) (z : Text) → get_or z (length z - length (after_blanks z)) 0 ≡ get_or (after_blanks z) 0 0 → (t : Bool) →
    is_blank b ≡ t →
    get_or (b ∷ z) (length (b ∷ z) - length (after_blanks (b ∷ z))) 0 ≡ get_or (after_blanks (b ∷ z)) 0 0
first_more b z is true e =
    let less = short z in
    let next : length (b ∷ z) - length (after_blanks z) ≡ suc (length z - length (after_blanks z)) = omega (arith, less) in
    rw (e, next) is
first_more b z is false e =
    let none : length (b ∷ z) - length (b ∷ z) ≡ 0 = omega arith in
    rw (e, none) refl

first_at : (z : Text) → get_or z (length z - length (after_blanks z)) 0 ≡ get_or (after_blanks z) 0 0
first_at [] = refl
first_at (b ∷ z) = first_more b z (first_at z) (is_blank b) refl

-- a line without its end begins as the line does
alike_more : (n b : ℕ) (z : Text) → (get_or (after_blanks (take n z)) 0 0 ≡ 35 → get_or (after_blanks z) 0 0 ≡ 35) →
    get_or (after_blanks (b ∷ take n z)) 0 0 ≡ 35 → (t : Bool) → is_blank b ≡ t → get_or (after_blanks (b ∷ z)) 0 0 ≡ 35
alike_more n b z others is true e = rw e (others (rw e at is))
alike_more n b z others is false e = rw e (rw e at is)

begins_alike : (n : ℕ) (z : Text) → get_or (after_blanks (take n z)) 0 0 ≡ 35 → get_or (after_blanks z) 0 0 ≡ 35
begins_alike zero z is = absurd (omega (arith, is))
begins_alike (suc n) [] is = is
begins_alike (suc n) (b ∷ z) is = alike_more n b z (begins_alike n z) is (is_blank b) refl

-- ---- a line that is a comment

mark_first : (z : Text) (rest : Text) → after (codes "#") z ≡ Some rest → get_or z 0 0 ≡ 35
mark_first [] rest is = absurd (cc)
mark_first (b ∷ z) rest is = by (b == 35) refl
  where
    by : (t : Bool) → (b == 35) ≡ t → b ≡ 35
    by true e = search rules
    by false e = absurd (cc (rw e at is))

module _ (z : Text) (f : Text → Option Text) (c : Option Kind × Text) where
  mark_of : (o : Option Text) → after (codes "#") z ≡ o → option_and_then said (option_and_then f o) ≡ Some c → get_or z 0 0 ≡ 35
  mark_of None is all = absurd (cc)
  mark_of (Some rest) is all = mark_first z rest is

comment_begins : (line : Text) (c : Option Kind × Text) → comment_of line ≡ Some c → get_or (after_blanks line) 0 0 ≡ 35
unfolding comment_of
comment_begins line c is =
    begins_alike (end_of line) line (mark_of (after_blanks (take (end_of line) line)) _ c _ refl is)

-- ---- all of a text

module _ (text : Text) (k : ℕ) (line : Text) (here : get_or (cut text) k [] ≡ line) (statement : ℕ) where
  one_begins : (o : Option (Option Kind × Text)) → comment_of line ≡ o →
      list_all (begins_with_mark text) (allowed_by (k + 1) line statement o) ≡ true
  one_begins None is = refl
  one_begins (Some c) is =
      let column : length line - length (after_blanks line) + 1 - 1 ≡ length line - length (after_blanks line) = omega arith in
      let mark : get_or line (length line - length (after_blanks line)) 0 ≡ 35 = first_at line ∙ comment_begins line c is in
      rw (column, line_at text k, here, mark) refl

cut_here : {X : Type 0} (k : ℕ) (xs : List X) (x : X) (rest : List X) (d : X) → drop k xs ≡ x ∷ rest → get_or xs k d ≡ x
cut_here zero (y ∷ ys) x rest d is = cc
cut_here zero [] x rest d is = absurd (cc)
cut_here (suc k) (y ∷ ys) x rest d is = cut_here k ys x rest d is
cut_here (suc k) [] x rest d is = absurd (cc)

cut_next : {X : Type 0} (k : ℕ) (xs : List X) (x : X) (rest : List X) → drop k xs ≡ x ∷ rest → drop (suc k) xs ≡ rest
cut_next zero (y ∷ ys) x rest is = cc
cut_next zero [] x rest is = absurd (cc)
cut_next (suc k) (y ∷ ys) x rest is = cut_next k ys x rest is
cut_next (suc k) [] x rest is = absurd (cc)

all_begin : (text : Text) (rest : List Text) (k : ℕ) → drop k (cut text) ≡ rest →
    list_all (begins_with_mark text) (allowances_in (k + 1) rest) ≡ true
all_begin text [] k is = refl
all_begin text (line ∷ rest) k is =
    let more : suc k ≡ k + 1 = omega arith in
    let one = one_begins text k line (cut_here k (cut text) line rest [] is) (statement_from (k + 1 + 1) rest) (comment_of line) refl in
    let others = all_begin text rest (k + 1) (rw more at (cut_next k (cut text) line rest is)) in
    list_all-append (begins_with_mark text) (allowed_by (k + 1) line (statement_from (k + 1 + 1) rest) (comment_of line))
    (allowances_in (k + 1 + 1) rest)
    ∙ rw (one, others) refl

-- each comment begins with its `#`
pub begin : CommentsBeginWithMarks
unfolding allowances_of
begin text = all_begin text (cut text) 0 refl
