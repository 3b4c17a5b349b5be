-- The comment at the front of a text, from its end.
use Rattle.std.proofs.Common.{◌≡◌, ℕ, suc, ◌+◌, ◌-◌, ◌<◌, ◌≤◌, Bool, true, false, [], ◌∷◌}
use Rattle.std.proofs.Common.{◌++◌, length, take, refl, sym, ap, subst, ◌∙◌, arith}
use Rattle.std.proofs.lemmas.Bool.{and_parts, and_from, and_right, not-true}
use Rattle.std.proofs.lemmas.List.{take_more}
use Rattle.std.specs.List.{list_all}
use Rattle.std.specs.Prelude.{◌==◌, not, slice_index, if◌then◌else◌}
use Rattle.flt_tree.specs.Names.{Text}
use Rattle.flt_syntax.specs.Lex.{is_blank, after_comment}
use Rattle.flt_layout.specs.Items.{comment, before, is_none}

abbrev plain : ℕ → Bool
plain b = not (b == 10)

pub record IsTrimmed (z : Text) (end : ℕ) : Type 0 where
  pub fits : end ≤ length z
  pub same : comment (take end z) ≡ comment z
  pub one_line : list_all plain (take end z) ≡ true

-- ---- at the line feed

record Cut (z : Text) : Type 0 where
  shorter : length (after_comment z) ≤ length z
  cut : comment (take (length z - length (after_comment z)) z) ≡ comment z
  line : list_all plain (take (length z - length (after_comment z)) z) ≡ true

take_as : (n m : ℕ) (z : Text) (P : Text → Type 0) → n ≡ m → P (take m z) → P (take n z)
take_as n m z P e p = subst (λ i. P (take i z)) (sym e) p

cut_is : (z : Text) → Cut z
unfolding comment
cut_is [] = record { shorter = omega arith; cut = refl; line = refl }
cut_is (b ∷ z) = by (b == 10) refl (cut_is z)
  where
    fed : (b == 10) ≡ true → after_comment (b ∷ z) ≡ b ∷ z
    fed e = rw e refl

    on : (b == 10) ≡ false → after_comment (b ∷ z) ≡ after_comment z
    on e = rw e refl

    by : (x : Bool) → (b == 10) ≡ x → Cut z → Cut (b ∷ z)
    by true e r =
        let f = ap length (fed e) in
        let none : length (b ∷ z) - length (after_comment (b ∷ z)) ≡ 0 = omega (arith, f) in
        record {
          shorter = omega (arith, f);
          cut = take_as _ 0 (b ∷ z) (λ y. comment y ≡ comment (b ∷ z)) none (rw e refl);
          line = take_as _ 0 (b ∷ z) (λ y. list_all plain y ≡ true) none refl;
        }
    by false e r =
        let f = ap length (on e) in
        let h = r.shorter in
        let n = length z - length (after_comment z) in
        let more : length (b ∷ z) - length (after_comment (b ∷ z)) ≡ suc n = omega (arith, f, h) in
        record {
          shorter = omega (arith, f, h);
          cut = take_as _ (suc n) (b ∷ z) (λ y. comment y ≡ comment (b ∷ z)) more
              (ap (λ x. if x then [] else before b (comment (take n z))) e ∙ ap (before b) r.cut
              ∙ sym (ap (λ x. if x then [] else before b (comment z)) e));
          line = take_as _ (suc n) (b ∷ z) (λ y. list_all plain y ≡ true) more (rw e r.line);
        }

-- what follows a comment isn't longer than what began with it
pub shorter_by : (z y : Text) → y ≡ after_comment z → length y ≤ length z
shorter_by z y e = subst (λ x. length x ≤ length z) (sym e) (cut_is z).shorter

-- a comment is what was passed over, before blanks at its end are cut
pub cut_by : (z y : Text) → y ≡ after_comment z → IsTrimmed z (length z - length y)
cut_by z y e =
    let r = cut_is z in
    subst (λ x. IsTrimmed z (length z - length x)) (sym e) (record { fits = omega arith; same = r.cut; one_line = r.line })

-- ---- from the end

last_blank : (w : Text) (b : ℕ) → is_blank b ≡ true → comment (w ++ b ∷ []) ≡ comment w
unfolding comment
last_blank [] b e = by (b == 10)
  where
    by : (x : Bool) → (if x then [] else before b []) ≡ []
    by true = refl
    by false = rw e refl
last_blank (c ∷ w) b e = ap (λ y. if c == 10 then [] else before c y) (last_blank w b e)

last_word : (w : Text) (b : ℕ) → is_blank b ≡ false → list_all plain (w ++ b ∷ []) ≡ true → comment (w ++ b ∷ []) ≡ w ++ b ∷ []
unfolding comment
last_word [] b e h =
    let p = not-true (b == 10) (and_parts (plain b) true h).0 in
    ap (λ x. if x then [] else before b []) p ∙ alone
  where
    alone : before b [] ≡ b ∷ []
    alone = rw e refl
last_word (c ∷ w) b e h =
    let p = and_parts (plain c) (list_all plain (w ++ b ∷ [])) h in
    ap (λ x. if x then [] else before c (comment (w ++ b ∷ []))) (not-true (c == 10) p.0) ∙ ap (before c) (last_word w b e p.1) ∙ some w
  where
    none_of : (w : Text) → is_none (w ++ b ∷ []) ≡ false
    none_of [] = refl
    none_of (d ∷ w) = refl

    some : (w : Text) → before c (w ++ b ∷ []) ≡ c ∷ (w ++ b ∷ [])
    some w = rw (none_of w, and_right (is_blank c) false refl) refl

front_all : (w y : Text) → list_all plain (w ++ y) ≡ true → list_all plain w ≡ true
front_all [] y h = refl
front_all (c ∷ w) y h = let p =
    and_parts (plain c) (list_all plain (w ++ y)) h in and_from (plain c) (list_all plain w) p.0 (front_all w y p.1)

last_of : (z : Text) (end : ℕ) → 0 < end → end ≤ length z → take end z ≡ take (end - 1) z ++ slice_index z (end - 1) ∷ []
last_of z end some fits =
    let e : end ≡ end - 1 + 1 = omega (arith, some) in
    ap (λ n. take n z) e ∙ take_more z (end - 1) 0 (omega (arith, some, fits))

-- a blank at the end of a comment is cut
pub trim_by : (z : Text) (end : ℕ) (x : Bool) → IsTrimmed z end → 0 < end → x ≡ is_blank (slice_index z (end - 1)) → x ≡ true →
    IsTrimmed z (end - 1)
trim_by z end x i some e h =
    let l = last_of z end some i.fits in
    let fits = i.fits in
    record {
      fits = omega (arith, fits);
      same = sym (last_blank (take (end - 1) z) (slice_index z (end - 1)) (sym e ∙ h)) ∙ ap comment (sym l) ∙ i.same;
      one_line = front_all (take (end - 1) z) (slice_index z (end - 1) ∷ []) (ap (list_all plain) (sym l) ∙ i.one_line);
    }

-- a comment of which nothing is left is empty
pub ended_by : (z : Text) (end : ℕ) → IsTrimmed z end → end ≤ 0 → take end z ≡ comment z
unfolding comment
ended_by z end i h =
    let e : end ≡ 0 = omega (arith, h) in
    ap (λ n. take n z) e ∙ ap comment (ap (λ n. take n z) (sym e)) ∙ i.same

-- a comment that doesn't end with a blank is cut no further
pub word_by : (z : Text) (end : ℕ) (x : Bool) → IsTrimmed z end → 0 < end → x ≡ is_blank (slice_index z (end - 1)) → x ≡ false →
    take end z ≡ comment z
word_by z end x i some e h =
    let l = last_of z end some i.fits in
    l ∙ sym (last_word (take (end - 1) z) (slice_index z (end - 1)) (sym e ∙ h) (ap (list_all plain) (sym l) ∙ i.one_line))
    ∙ ap comment (sym l) ∙ i.same
