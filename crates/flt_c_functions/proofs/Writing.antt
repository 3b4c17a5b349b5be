-- Loops that write the lines of a list, and whatever is behind these.
use Rattle.std.proofs.Common.{◌≡◌, ℕ, zero, suc, ◌+◌, ◌<◌, ◌≤◌, Bool, true, List, [], ◌∷◌, ◌++◌, length, get_or, take, drop, ◌-◌}
use Rattle.std.proofs.Common.{refl, sym, ap, subst, ◌∙◌, append_assoc, append-nil, add-one, drop_of_length-le, arith}
use Rattle.std.proofs.Math.Bool.{and-true, and_assoc}
use Rattle.std.specs.Prelude.{◌&&◌}
use Rattle.flt_c_tokens.specs.Bytes.{Text}
use Rattle.flt_c_headers.specs.World.{File}
use Rattle.flt_c_syntax.specs.declared.class.Class.{Class}
use Rattle.flt_c_functions.proofs.Reading.{behind_first}
use Rattle.flt_c_functions.specs.Listing.{AreTexts, Each, IsSourceText, Puts}
use Rattle.flt_c_functions.specs.Listing.AreTexts.{nothing as no_text, one_more as one_text}
use Rattle.flt_c_functions.specs.Listing.Each.{nothing, one_more}
use Rattle.flt_c_functions.specs.Places.{told_behind}
use Rattle.flt_c_functions.specs.declared.source.Source.{Source}

-- The lines of all but the rest of a list are put behind a text: lines of the rest make them those of all.
pub record Begun {A : Type 0} (P : A → Text → Bool → Type 0) (all rest : List A) (old new : Text) (whole : Bool) : Type 0 where
  pub more : Text
  pub put : new ≡ old ++ more
  pub ends : (z : Text) (w : Bool) → Each P rest z w → Each P all (more ++ z) (whole && w)

pub begun_first : {A : Type 0} (P : A → Text → Bool → Type 0) (all : List A) (z : Text) → Begun P all all z z true
begun_first P all z = record { more = []; put = sym (append-nil z); ends = λ y w h. h }

-- from a number on
from_at : {A : Type 0} (xs : List A) (i : ℕ) (a : A) → i < length xs → a ≡ get_or xs i a → drop i xs ≡ a ∷ drop (suc i) xs
from_at [] i a h e = absurd (omega arith)
from_at (x ∷ xs) zero a h e = ap (λ y. y ∷ xs) (sym e)
from_at (x ∷ xs) (suc i) a h e = from_at xs i a (omega arith) e

begun_more : {A : Type 0} (P : A → Text → Bool → Type 0) (all : List A) (a : A) (rest : List A) (old mid new : Text) (whole v : Bool) →
    Begun P all (a ∷ rest) old mid whole → Puts (λ z. P a z v) mid new → Begun P all rest old new (whole && v)
begun_more P all a rest old mid new whole v b p =
    record {
      more = b.more ++ p.more;
      put = p.put ∙ (ap (λ z. z ++ p.more) b.put ∙ append_assoc old b.more p.more);
      ends =
          λ z w h.
          subst (λ y. Each P all y ((whole && v) && w)) (sym (append_assoc b.more p.more z))
          (subst (λ u. Each P all (b.more ++ (p.more ++ z)) u) (sym (and_assoc whole v w))
          (b.ends (p.more ++ z) (v && w) (one_more {a = a} {rest = rest} {x = p.more} {y = z} {v = v} {w = w} p.right h)));
    }

pub begun_next : {A : Type 0} (P : A → Text → Bool → Type 0) (all : List A) (i : ℕ) (a : A) (old mid new : Text) (whole v u : Bool) →
    Begun P all (drop i all) old mid whole → Puts (λ z. P a z v) mid new → i < length all → a ≡ get_or all i a → u ≡ (whole && v) →
    Begun P all (drop (i + 1) all) old new u
begun_next P all i a old mid new whole v u b p h e w =
    subst (λ j. Begun P all (drop j all) old new u) (sym (add-one i))
    (subst (λ x. Begun P all (drop (suc i) all) old new x) (sym w)
    (begun_more P all a (drop (suc i) all) old mid new whole v
    (subst (λ xs. Begun P all xs old mid whole) (from_at all i a h e) b) p))

pub begun_all : {A : Type 0} (P : A → Text → Bool → Type 0) (all : List A) (i : ℕ) (old new : Text) (whole : Bool) →
    Begun P all (drop i all) old new whole → length all ≤ i → Puts (λ z. Each P all z whole) old new
begun_all P all i old new whole b h =
    let end : Begun P all [] old new whole = subst (λ xs. Begun P all xs old new whole) (drop_of_length-le all h) b in
    record {
      more = end.more;
      right =
          subst (λ y. Each P all y whole) (append-nil end.more)
          (subst (λ u. Each P all (end.more ++ []) u) (and-true whole) (end.ends [] true nothing));
      put = end.put;
    }

-- ---- files

-- the lines of all files but the rest are put behind a text, and these headers are told
pub record Written (texts : List Text) (headers : List File) (known : List Class) (all : List Source) (old : Text) (rest : List Source)
    (told : List ℕ) (new : Text) (whole : Bool) : Type 0 where
  pub more : Text
  pub put : new ≡ old ++ more
  pub ends : (z : Text) (w : Bool) → AreTexts texts headers known told rest z w →
      AreTexts texts headers known [] all (more ++ z) (whole && w)

module _ (texts : List Text) (headers : List File) (known : List Class) (all : List Source) (old : Text) where
  pub written_first : (told : List ℕ) → told ≡ [] → Written texts headers known all old all told old true
  written_first told none =
      subst (λ ns. Written texts headers known all old all ns old true) (sym none)
      (record { more = []; put = sym (append-nil old); ends = λ z w h. h })

  written_more : (s : Source) (rest : List Source) (told : List ℕ) (mid new : Text) (whole v : Bool) →
      Written texts headers known all old (s ∷ rest) told mid whole → Puts (λ z. IsSourceText texts headers known told s z v) mid new →
      Written texts headers known all old rest (told_behind told s.headers) new (whole && v)
  written_more s rest told mid new whole v b p =
      record {
        more = b.more ++ p.more;
        put = p.put ∙ (ap (λ z. z ++ p.more) b.put ∙ append_assoc old b.more p.more);
        ends =
            λ z w h.
            subst (λ y. AreTexts texts headers known [] all y ((whole && v) && w)) (sym (append_assoc b.more p.more z))
            (subst (λ u. AreTexts texts headers known [] all (b.more ++ (p.more ++ z)) u) (sym (and_assoc whole v w))
            (b.ends (p.more ++ z) (v && w)
            (one_text {told = told} {s = s} {rest = rest} {x = p.more} {y = z} {v = v} {w = w} p.right h)));
      }

  pub written_next : (rest : List Source) (s : Source) (told seen next : List ℕ) (mid new : Text) (whole v u : Bool) →
      Written texts headers known all old rest told mid whole → 1 ≤ length rest → s ≡ get_or rest 0 s → seen ≡ told →
      Puts (λ z. IsSourceText texts headers known seen s z v) mid new → u ≡ (whole && v) → next ≡ told_behind told s.headers →
      Written texts headers known all old (take (length rest - 1) (drop 1 rest)) next new u
  written_next [] s told seen next mid new whole v u b some is same p w n = absurd (omega arith)
  written_next (x ∷ xs) s told seen next mid new whole v u b some is same p w n =
      subst (λ ys. Written texts headers known all old ys next new u) (sym (behind_first x xs))
      (subst (λ ns. Written texts headers known all old xs ns new u) (sym n)
      (subst (λ c. Written texts headers known all old xs (told_behind told s.headers) new c) (sym w)
      (written_more s xs told mid new whole v (subst (λ y. Written texts headers known all old (y ∷ xs) told mid whole) (sym is) b)
      (subst (λ ns. Puts (λ z. IsSourceText texts headers known ns s z v) mid new) same p))))

  pub written_all : (rest : List Source) (told : List ℕ) (new : Text) (whole : Bool) →
      Written texts headers known all old rest told new whole → length rest < 1 →
      Puts (λ z. AreTexts texts headers known [] all z whole) old new
  written_all [] told new whole b none =
      record {
        more = b.more;
        right =
            subst (λ y. AreTexts texts headers known [] all y whole) (append-nil b.more)
            (subst (λ u. AreTexts texts headers known [] all (b.more ++ []) u) (and-true whole) (b.ends [] true no_text));
        put = b.put;
      }
  written_all (x ∷ xs) told new whole b none = absurd (omega arith)
