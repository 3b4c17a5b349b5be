-- How many of the activations that go on hold a visit, after one of them gains or loses it.
use Rattle.std.proofs.Common.{◌≡◌, ◌≢◌, ⊎_elim, subst, ℕ, zero, suc, ◌+◌, ◌<◌, ◌≤◌, min, Bool, true}
use Rattle.std.proofs.Common.{false, List, [], ◌∷◌, ◌++◌, ap, sym, refl, ◌∙◌, arith, length, get_or}
use Rattle.std.proofs.lemmas.Bool.{cases_eq, ne_eqb}
use Rattle.std.proofs.lemmas.List.{set-get_or}
use Rattle.std.proofs.Math.ListN.{set}
use Rattle.std.specs.Prelude.{◌==◌, ◌&&◌, if◌then◌else◌}
use Rattle.flt_model.specs.Trace.{one_if, of_actor}
use Rattle.flt_replay.proofs.Counting.Ones.{one_here, one_elsewhere, actor_here, actor_elsewhere}
use Rattle.flt_replay_records.specs.Counts.{count, occurs}
use Rattle.flt_replay.specs.Rows.{Counted, count_of}
use Rattle.flt_replay.specs.Ledger.{Tally, IsCounted, Turned, Stopped, Started, is_without, share, running_with}

-- ---- a count of one activation changes

pub same_from : (ons : List Bool) (f g : ℕ → ℕ) (k : ℕ) → ((b : ℕ) → k ≤ b → g b ≡ f b) → running_with ons g k ≡ running_with ons f k
unfolding running_with
same_from [] f g k h = refl
same_from (on ∷ ons) f g k h =
    let here : g k ≡ f k = h k (omega arith) in
    let later : running_with ons g (k + 1) ≡ running_with ons f (k + 1) = same_from ons f g (k + 1) (λ b l. h b (omega arith)) in
    ap (λ n. share on n + running_with ons g (k + 1)) here ∙ ap (λ n. share on (f k) + n) later

share_off : (n : ℕ) → share false n ≡ 0
unfolding share
share_off n = refl

pub moved : (ons : List Bool) (f g : ℕ → ℕ) (a k i : ℕ) → a ≡ k + i → ((b : ℕ) → a ≢ b → g b ≡ f b) →
    running_with ons g k + share (get_or ons i false) (f a) ≡ running_with ons f k + share (get_or ons i false) (g a)
unfolding running_with
moved [] f g a k i e h = omega (arith, share_off (f a), share_off (g a))
moved (on ∷ ons) f g a k zero e h =
    let here : a ≡ k = omega arith in
    let later : running_with ons g (k + 1) ≡ running_with ons f (k + 1) = same_from ons f g (k + 1) (λ b l. h b (λ q. omega arith)) in
    let old : share on (f a) ≡ share on (f k) = ap (λ n. share on (f n)) here in
    let new : share on (g a) ≡ share on (g k) = ap (λ n. share on (g n)) here in
    omega arith
moved (on ∷ ons) f g a k (suc i) e h =
    let here : share on (g k) ≡ share on (f k) = ap (share on) (h k (λ q. omega arith)) in
    let later : running_with ons g (k + 1) + share (get_or ons i false) (f a) ≡ running_with ons f (k + 1) + share
    (get_or ons i false) (g a) = moved ons f g a (k + 1) i (omega arith) h in
    omega arith

-- those that go on and have a count are at least one
pub some_share : (ons : List Bool) (f : ℕ → ℕ) (k i : ℕ) → share (get_or ons i false) (f (k + i)) ≤ running_with ons f k
unfolding running_with
some_share [] f k i = omega (arith, share_off (f (k + i)))
some_share (on ∷ ons) f k zero =
    let same : share on (f (k + 0)) ≡ share on (f k) = ap (λ n. share on (f n)) (omega arith) in
    omega arith
some_share (on ∷ ons) f k (suc i) =
    let same : share (get_or ons i false) (f (k + suc i)) ≡ share (get_or ons i false) (f (k + 1 + i)) =
    ap (λ n. share (get_or ons i false) (f n)) (omega arith) in
    omega (arith, some_share ons f (k + 1) i)

pub one_when : Bool → ℕ → ℕ
one_when b n = if b then n else 0

one_when_none : (b : Bool) → one_when b 0 ≡ 0
unfolding one_when
one_when_none true = refl
one_when_none false = refl

share_more : (on : Bool) (n : ℕ) → share on (n + 1) ≡ share on n + one_when (is_without on n) 1
unfolding share one_when
share_more true zero = omega arith
share_more true (suc n) =
    let some : (suc n == 0) ≡ false = ne_eqb (suc n) 0 (λ q. omega arith) in
    let none : one_when (is_without true (suc n)) 1 ≡ 0 = ap (λ b. one_when (b && true) 1) some in
    omega arith
share_more false n =
    let none : one_when (n == 0 && false) 1 ≡ 0 = elim (n == 0) as (λ b. one_when (b && false) 1 ≡ 0) [ true ↦ refl | false ↦ refl ] in
    omega arith

-- ---- an activation gains or loses a visit: the counts before and after it, the lesser first

module _ (ons : List Bool) (a v : ℕ) (less more : Counted)
    (one : (b m : ℕ) → count_of more b m ≡ count_of less b m + of_actor a b (one_if v m)) where
  on : Bool
  on = get_or ons a false

  of_visit : Counted → ℕ → ℕ → ℕ
  of_visit rows m b = count_of rows b m

  apart : (m b : ℕ) → a ≢ b → of_visit more m b ≡ of_visit less m b
  unfolding of_visit
  apart m b ne = omega (arith, one b m, actor_elsewhere a b (one_if v m) ne)

  at_actor : (m : ℕ) → of_visit more m a ≡ of_visit less m a + one_if v m
  unfolding of_visit
  at_actor m = one a m ∙ ap (λ n. count_of less a m + n) (actor_here a (one_if v m))

  both : (m : ℕ) → running_with ons (of_visit more m) 0 + share on (of_visit less m a) ≡ running_with ons
      (of_visit less m) 0 + share on (of_visit more m a)
  unfolding on
  both m = moved ons (of_visit less m) (of_visit more m) a 0 a (omega arith) (apart m)

  -- the holders are one more where the activation had none
  pub holders_more : (m : ℕ) → running_with ons (λ b. count_of more b m) 0 ≡ running_with ons
      (λ b. count_of less b m) 0 + one_when (is_without (get_or ons a false) (count_of less a v)) (one_if v m)
  unfolding on of_visit
  holders_more m =
      ⊎_elim (λ (e : v ≡ m). subst (λ (u : ℕ). running_with ons (λ b. count_of more b u) 0 ≡ running_with ons
      (λ b. count_of less b u) 0 + one_when (is_without (get_or ons a false) (count_of less a v)) (one_if v u)) e
      (let grows : share on (of_visit more v a) ≡ share on (of_visit less v a) + one_when
      (is_without (get_or ons a false) (count_of less a v)) 1 =
      ap (share on) (at_actor v ∙ ap (λ n. of_visit less v a + n) (one_here v)) ∙ share_more on (of_visit less v a) in
      let unit : one_when (is_without (get_or ons a false) (count_of less a v)) (one_if v v) ≡ one_when
      (is_without (get_or ons a false) (count_of less a v)) 1 =
      ap (one_when (is_without (get_or ons a false) (count_of less a v))) (one_here v) in
      omega (arith, both v)))
      (λ (ne : v ≢ m).
      let stays : share on (of_visit more m a) ≡ share on (of_visit less m a) =
      ap (share on) (omega (arith, at_actor m, one_elsewhere v m ne)) in
      let none : one_when (is_without (get_or ons a false) (count_of less a v)) (one_if v m) ≡ 0 =
      ap (one_when (is_without (get_or ons a false) (count_of less a v))) (one_elsewhere v m ne)
      ∙ one_when_none (is_without (get_or ons a false) (count_of less a v)) in
      omega (arith, both m))
      (cases_eq v m)

-- ---- what that comes to for the ledger

when_true : (b : Bool) (n : ℕ) → b ≡ true → one_when b n ≡ n
unfolding one_when
when_true b n e = ap (λ x. one_when x n) e

when_false : (b : Bool) (n : ℕ) → b ≡ false → one_when b n ≡ 0
unfolding one_when
when_false b n e = ap (λ x. one_when x n) e

module _ (c : Tally) (a v : ℕ) (rows : Counted) where
  -- the first visit that an activation which goes on gains makes it a holder more
  pub gained_first : (holders : List ℕ) → ((b m : ℕ) → count_of rows b m ≡ count_of c.visits b m + of_actor a b (one_if v m)) →
      is_without (get_or c.running a false) (count_of c.visits a v) ≡ true → ((m : ℕ) → count holders m ≡ count c.holders m + one_if v m) →
      Turned c (record c { visits = rows; holders = holders })
  gained_first holders one first h = record {
    only = refl;
    counted = λ k. record {
      by_visit = λ m. omega (
        arith,
        h m,
        k.by_visit m,
        holders_more c.running a v c.visits rows one m,
        when_true (is_without (get_or c.running a false) (count_of c.visits a v)) (one_if v m) first,
      );
    };
  }

  -- an activation that ended, or holds the visit already, gains it without a holder more
  pub gained_again : ((b m : ℕ) → count_of rows b m ≡ count_of c.visits b m + of_actor a b (one_if v m)) →
      is_without (get_or c.running a false) (count_of c.visits a v) ≡ false → Turned c (record c { visits = rows })
  gained_again one again = record {
    only = refl;
    counted = λ k. record {
      by_visit = λ m. omega (
        arith,
        k.by_visit m,
        holders_more c.running a v c.visits rows one m,
        when_false (is_without (get_or c.running a false) (count_of c.visits a v)) (one_if v m) again,
      );
    };
  }

  -- the last of a visit that an activation which goes on loses makes it a holder less
  pub lost_last : (holders : List ℕ) → ((b m : ℕ) → count_of c.visits b m ≡ count_of rows b m + of_actor a b (one_if v m)) →
      is_without (get_or c.running a false) (count_of rows a v) ≡ true → ((m : ℕ) → count c.holders m ≡ count holders m + one_if v m) →
      Turned c (record c { visits = rows; holders = holders })
  lost_last holders one last h = record {
    only = refl;
    counted = λ k. record {
      by_visit = λ m. omega (
        arith,
        h m,
        k.by_visit m,
        holders_more c.running a v rows c.visits one m,
        when_true (is_without (get_or c.running a false) (count_of rows a v)) (one_if v m) last,
      );
    };
  }

  -- an activation that ended, or holds the visit still, loses it without a holder less
  pub lost_one : ((b m : ℕ) → count_of c.visits b m ≡ count_of rows b m + of_actor a b (one_if v m)) →
      is_without (get_or c.running a false) (count_of rows a v) ≡ false → Turned c (record c { visits = rows })
  lost_one one again = record {
    only = refl;
    counted = λ k. record {
      by_visit = λ m. omega (
        arith,
        k.by_visit m,
        holders_more c.running a v rows c.visits one m,
        when_false (is_without (get_or c.running a false) (count_of rows a v)) (one_if v m) again,
      );
    };
  }

-- what one holds that goes on has a holder
pub some_holder : (c : Tally) (a v : ℕ) → IsCounted c → get_or c.running a false ≡ true → 0 < count_of c.visits a v → 0 < count c.holders v
unfolding share
some_holder c a v k on some =
    let one : share (get_or c.running a false) (count_of c.visits a v) ≡ min 1 (count_of c.visits a v) =
    ap (λ b. share b (count_of c.visits a v)) on in
    let at : share (get_or c.running a false) (count_of c.visits (0 + a) v) ≤ running_with c.running
    (λ b. count_of c.visits b v) 0 = some_share c.running (λ b. count_of c.visits b v) 0 a in
    let same : share (get_or c.running a false) (count_of c.visits (0 + a) v) ≡ share (get_or c.running a false)
    (count_of c.visits a v) = ap (λ n. share (get_or c.running a false) (count_of c.visits n v)) (omega arith) in
    omega (arith, k.by_visit v)

-- ---- an activation that goes on no more, and one more that is there

running_off : (ons : List Bool) (f : ℕ → ℕ) (a k i : ℕ) → a ≡ k + i →
    running_with (set ons i false) f k + share (get_or ons i false) (f a) ≡ running_with ons f k
unfolding running_with
running_off [] f a k i e = omega (arith, share_off (f a))
running_off (on ∷ ons) f a k zero e =
    let here : share on (f a) ≡ share on (f k) = ap (λ n. share on (f n)) (omega arith) in
    omega (arith, share_off (f k))
running_off (on ∷ ons) f a k (suc i) e = omega (arith, running_off ons f a (k + 1) i (omega arith))

running_push : (ons : List Bool) (on : Bool) (f : ℕ → ℕ) (a k : ℕ) → a ≡ k + length ons →
    running_with (ons ++ on ∷ []) f k ≡ running_with ons f k + share on (f a)
unfolding running_with
running_push [] on f a k e =
    let here : share on (f a) ≡ share on (f k) = ap (λ n. share on (f n)) (omega arith) in
    omega arith
running_push (o ∷ ons) on f a k e = omega (arith, running_push ons on f a (k + 1) (omega arith))

share_on : (goes : Bool) (n : ℕ) → goes ≡ true → share goes n ≡ min 1 n
unfolding share
share_on goes n e = ap (λ b. share b n) e

module _ (c : Tally) (a : ℕ) (was now : List ℕ) (all : (v : ℕ) → occurs v now ≡ occurs v was + min 1 (count_of c.visits a v)) where
  listed_keeps : (v : ℕ) → occurs v now ≡ 0 → occurs v was ≡ 0
  listed_keeps v z = omega (arith, all v)

  listed_none : (v : ℕ) → occurs v now ≡ 0 → count_of c.visits a v ≡ 0
  listed_none v z = omega (arith, all v)

  -- it went on, so that each visit that it holds has a holder
  pub stop_fits : IsCounted c → get_or c.running a false ≡ true → (v : ℕ) → min 1 (count_of c.visits a v) ≤ count c.holders v
  stop_fits k on v =
      let off = running_off c.running (λ b. count_of c.visits b v) a 0 a (omega arith) in
      let one = share_on (get_or c.running a false) (count_of c.visits a v) on in
      omega (arith, off, one, k.by_visit v)

  -- an activation that went on stops, and the holders of what it holds become one less each
  pub stopped_on : (holders : List ℕ) → get_or c.running a false ≡ true →
      (((v : ℕ) → min 1 (count_of c.visits a v) ≤ count c.holders v) → (v : ℕ) →
      count c.holders v ≡ count holders v + min 1 (count_of c.visits a v)) →
      Stopped a c (record c { running = set c.running a false; holders = holders }) was now
  stopped_on holders on less = record {
    only = refl;
    counted = λ k. record {
      by_visit = λ v.
          let off = running_off c.running (λ b. count_of c.visits b v) a 0 a (omega arith) in
          let one = share_on (get_or c.running a false) (count_of c.visits a v) on in
          let fewer = less (stop_fits k on) v in
          omega (arith, off, one, k.by_visit v, fewer);
    };
    listed = listed_keeps;
    released = listed_none;
  }

  pub stopped_off : get_or c.running a false ≡ false → Stopped a c c was now
  stopped_off off =
      let same : set c.running a false ≡ c.running = ap (λ b. set c.running a b) (sym off) ∙ set-get_or c.running a false in
      record {
        only = ap (λ (ons : List Bool). record c { running = ons }) (sym same);
        counted = λ k. k;
        listed = listed_keeps;
        released = listed_none;
      }

-- it holds these visits already
pub started : (c : Tally) (holders : List ℕ) →
    ((v : ℕ) → count holders v ≡ count c.holders v + min 1 (count_of c.visits (length c.running) v)) →
    Started c (record c { running = c.running ++ true ∷ []; holders = holders })
started c holders more = record {
  only = refl;
  counted = λ k. record {
    by_visit = λ v.
        let pushed = running_push c.running true (λ b. count_of c.visits b v) (length c.running) 0 (omega arith) in
        let one = share_on true (count_of c.visits (length c.running) v) refl in
        omega (arith, pushed, one, k.by_visit v, more v);
  };
}
