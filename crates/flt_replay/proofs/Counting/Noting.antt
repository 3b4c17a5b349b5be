-- What a ledger's counts say of a trace with one event more.
use Rattle.std.proofs.Common.{◌≡◌, ℕ, ◌+◌, ◌<◌, true, List, [], ◌∷◌, ◌++◌, ap, refl, ◌∙◌, arith}
use Rattle.std.proofs.lemmas.List.Sums.{sum_by_push}
use Rattle.std.proofs.lemmas.Bool.Decides.{nat_tests}
use Rattle.std.proofs.lemmas.Bool.{and_parts, ltb-true}
use Rattle.std.specs.Prelude.{not, ◌==◌, ◌&&◌}
use Rattle.flt_model.specs.declared.event.Event.{Event}
use Rattle.flt_model.specs.declared.event.Event.TheVariants as event
use Rattle.flt_model.specs.declared.event.Object.{Object}
use Rattle.flt_model.specs.declared.event.Object.TheVariants.{Context, Visit}
use Rattle.flt_model.specs.Trace.{one_if, of_actor, gain, lose, free, settle, gains, loses, frees, settles, is_held}
use Rattle.flt_model.specs.Violations.{is_live, is_own, is_fresh}
use Rattle.flt_model.specs.World.{World}
use Rattle.flt_replay.proofs.Counting.Ones.{actor_none}
use Rattle.flt_replay.proofs.Counting.Tallies.{held_is}
use Rattle.flt_replay.specs.Apart.{is_apart}
use Rattle.flt_replay_records.specs.Counts.{count, occurs}
use Rattle.flt_replay.specs.Holdings.{times_held}
use Rattle.flt_replay.specs.Rows.{Counted, count_of}
use Rattle.flt_replay.specs.Ledger.{Tally, Tells, IsCounted, Turned, Noted, held}

module _ (t : List Event) (e : Event) where
  gains_push : (a : ℕ) (o : Object) → gains (t ++ e ∷ []) a o ≡ gains t a o + gain a o e
  unfolding gains
  gains_push a o = sum_by_push (gain a o) t e

  loses_push : (a : ℕ) (o : Object) → loses (t ++ e ∷ []) a o ≡ loses t a o + lose a o e
  unfolding loses
  loses_push a o = sum_by_push (lose a o) t e

  frees_push : (x : ℕ) → frees (t ++ e ∷ []) x ≡ frees t x + free x e
  unfolding frees
  frees_push x = sum_by_push (free x) t e

  settles_push : (v : ℕ) → settles (t ++ e ∷ []) v ≡ settles t v + settle v e
  unfolding settles
  settles_push v = sum_by_push (settle v) t e

  -- where the counts have changed by what the event counts
  told : (old new : Tally) → ((a : ℕ) (o : Object) → held new a o + lose a o e ≡ held old a o + gain a o e) →
      ((x : ℕ) → count new.freed x ≡ count old.freed x + free x e) → ((v : ℕ) → count new.settled v ≡ count old.settled v + settle v e) →
      Tells t old → Tells (t ++ e ∷ []) new
  told old new h f s k = record {
    balance = λ a o. omega (arith, gains_push a o, loses_push a o, k.balance a o, h a o);
    frees_are = λ x. omega (arith, frees_push x, k.frees_are x, f x);
    settles_are = λ v. omega (arith, settles_push v, k.settles_are v, s v);
  }

apart_from_one : (u v : ℕ) → one_if u v ≡ 0 → not (u == v) ≡ true
unfolding one_if
apart_from_one u v h = grind (arith, nat_tests)

-- ---- what is held, after one gain or one loss

module _ (c : Tally) (a : ℕ) where
  held_gained_context : (x : ℕ) (rows : Counted) →
      ((b n : ℕ) → times_held rows b n ≡ times_held c.contexts b n + of_actor a b (one_if x n)) →
      (b : ℕ) (o : Object) → held (record c { contexts = rows }) b o + lose b o (event.Gain a (Context x)) ≡ held c b o + gain b o
      (event.Gain a (Context x))
  held_gained_context x rows h b (Context n) = omega (arith, h b n)
  held_gained_context x rows h b (Visit u) = omega (arith, actor_none a b)

  held_lost_context : (x : ℕ) (rows : Counted) →
      ((b n : ℕ) → times_held c.contexts b n ≡ times_held rows b n + of_actor a b (one_if x n)) →
      (b : ℕ) (o : Object) → held (record c { contexts = rows }) b o + lose b o (event.Lose a (Context x)) ≡ held c b o + gain b o
      (event.Lose a (Context x))
  held_lost_context x rows h b (Context n) = omega (arith, h b n)
  held_lost_context x rows h b (Visit u) = omega (arith, actor_none a b)

  module _ (v : ℕ) (new : Tally) (turned : Turned c new) where
    contexts_same : (b n : ℕ) → times_held new.contexts b n ≡ times_held c.contexts b n
    contexts_same b n = ap (λ (d : Tally). times_held d.contexts b n) turned.only

    held_gained_visit : ((b n : ℕ) → count_of new.visits b n ≡ count_of c.visits b n + of_actor a b (one_if v n)) →
        (b : ℕ) (o : Object) → held new b o + lose b o (event.Gain a (Visit v)) ≡ held c b o + gain b o (event.Gain a (Visit v))
    held_gained_visit h b (Context n) = omega (arith, actor_none a b, contexts_same b n)
    held_gained_visit h b (Visit u) = omega (arith, h b u)

    held_lost_visit : ((b n : ℕ) → count_of c.visits b n ≡ count_of new.visits b n + of_actor a b (one_if v n)) →
        (b : ℕ) (o : Object) → held new b o + lose b o (event.Lose a (Visit v)) ≡ held c b o + gain b o (event.Lose a (Visit v))
    held_lost_visit h b (Context n) = omega (arith, actor_none a b, contexts_same b n)
    held_lost_visit h b (Visit u) = omega (arith, h b u)

  -- what it loses is held
  pub held_if_fresh : (t : List Event) (w : World) (o : Object) → Tells t c → is_fresh w t (event.Lose a o) ≡ true → 0 < held c a o
  held_if_fresh t w o k h = ltb-true 0 (held c a o) (held_is t c a o k ∙ (and_parts (is_held t a o) (is_live t o && is_own w a o) h).0)

held_freed : (c : Tally) (counts : List ℕ) (x a : ℕ) (o : Object) → held (record c { freed = counts }) a o + 0 ≡ held c a o + 0
held_freed c counts x a (Context y) = refl
held_freed c counts x a (Visit v) = refl

held_settled : (c : Tally) (counts : List ℕ) (v a : ℕ) (o : Object) → held (record c { settled = counts }) a o + 0 ≡ held c a o + 0
held_settled c counts v a (Context y) = refl
held_settled c counts v a (Visit u) = refl

-- ---- each event

module _ (t : List Event) (c : Tally) (was : List ℕ) (k : Tells t c) (counted : IsCounted c) where
  -- a context that is gained is counted as held once more
  pub gained_context : (a x : ℕ) (rows : Counted) →
      ((b n : ℕ) → times_held rows b n ≡ times_held c.contexts b n + of_actor a b (one_if x n)) →
      Noted t (event.Gain a (Context x)) c (record c { contexts = rows }) was was
  gained_context a x rows h = record {
    tells = told t (event.Gain a (Context x)) c (record c { contexts = rows }) (held_gained_context c a x rows h)
        (λ y. omega arith) (λ v. omega arith) k;
    counted = record { by_visit = counted.by_visit };
    same_running = refl;
    listed = λ v z. z;
    apart = λ v z. refl;
  }

  -- a context that is lost is counted as held once less
  pub lost_context : (a x : ℕ) (rows : Counted) →
      ((b n : ℕ) → times_held c.contexts b n ≡ times_held rows b n + of_actor a b (one_if x n)) →
      Noted t (event.Lose a (Context x)) c (record c { contexts = rows }) was was
  lost_context a x rows h = record {
    tells = told t (event.Lose a (Context x)) c (record c { contexts = rows }) (held_lost_context c a x rows h) (λ y. omega arith)
        (λ v. omega arith) k;
    counted = record { by_visit = counted.by_visit };
    same_running = refl;
    listed = λ v z. z;
    apart = λ v z. refl;
  }

  -- a context that is freed is counted among the freed ones
  pub freed_context : (x : ℕ) (counts : List ℕ) → ((n : ℕ) → count counts n ≡ count c.freed n + one_if x n) →
      Noted t (event.Free x) c (record c { freed = counts }) was was
  freed_context x counts h = record {
    tells = told t (event.Free x) c (record c { freed = counts }) (held_freed c counts x) h (λ v. omega arith) k;
    counted = record { by_visit = counted.by_visit };
    same_running = refl;
    listed = λ v z. z;
    apart = λ v z. refl;
  }

  -- one that counts nothing
  quiet : (e : Event) → ((a : ℕ) (o : Object) → gain a o e ≡ lose a o e) → ((x : ℕ) → free x e ≡ 0) → ((v : ℕ) → settle v e ≡ 0) →
      ((v : ℕ) → is_apart v e ≡ true) → Noted t e c c was was
  quiet e h f s apart = record {
    tells = told t e c c (λ a o. omega (arith, h a o)) (λ x. omega (arith, f x)) (λ v. omega (arith, s v)) k;
    counted = counted;
    same_running = refl;
    listed = λ v z. z;
    apart = λ v z. apart v;
  }

  -- an event that neither gains, loses, frees nor settles leaves the ledger as it is
  pub noted_other : (e : Event) → ((a : ℕ) (o : Object) → e ≡ event.Gain a o → ⊥) → ((a : ℕ) (o : Object) → e ≡ event.Lose a o → ⊥) →
      ((x : ℕ) → e ≡ event.Free x → ⊥) → ((v : ℕ) → e ≡ event.Settle v → ⊥) → Noted t e c c was was
  noted_other (event.Gain a o) g l f s = absurd (g a o refl)
  noted_other (event.Lose a o) g l f s = absurd (l a o refl)
  noted_other (event.Free x) g l f s = absurd (f x refl)
  noted_other (event.Settle v) g l f s = absurd (s v refl)
  noted_other (event.Call a j) g l f s = quiet (event.Call a j) (λ b o. refl) (λ x. refl) (λ v. refl) (λ v. refl)
  noted_other (event.Status a j) g l f s = quiet (event.Status a j) (λ b o. refl) (λ x. refl) (λ v. refl) (λ v. refl)
  noted_other (event.Lock a j) g l f s = quiet (event.Lock a j) (λ b o. refl) (λ x. refl) (λ v. refl) (λ v. refl)
  noted_other (event.Unlock a j) g l f s = quiet (event.Unlock a j) (λ b o. refl) (λ x. refl) (λ v. refl) (λ v. refl)
  noted_other (event.Use a j) g l f s = quiet (event.Use a j) (λ b o. refl) (λ x. refl) (λ v. refl) (λ v. refl)
  noted_other (event.Empty a) g l f s = quiet (event.Empty a) (λ b o. refl) (λ x. refl) (λ v. refl) (λ v. refl)
  noted_other (event.End a) g l f s = quiet (event.End a) (λ b o. refl) (λ x. refl) (λ v. refl) (λ v. refl)

  -- one visit more is listed
  module _ (v : ℕ) (now : List ℕ) (pushed : now ≡ was ++ v ∷ []) where
    listed_more : (u : ℕ) → occurs u now ≡ occurs u was + one_if v u
    listed_more u = ap (occurs u) pushed ∙ sum_by_push (λ (n : ℕ). one_if n u) was v

    not_listed : (u : ℕ) → occurs u now ≡ 0 → one_if v u ≡ 0
    not_listed u z = omega (arith, listed_more u)

    keeps : (u : ℕ) → occurs u now ≡ 0 → occurs u was ≡ 0
    keeps u z = omega (arith, listed_more u)

    -- a visit that is settled is counted among the settled ones, and listed
    pub settled_visit : (counts : List ℕ) → ((n : ℕ) → count counts n ≡ count c.settled n + one_if v n) →
        Noted t (event.Settle v) c (record c { settled = counts }) was now
    settled_visit counts h = record {
      tells = told t (event.Settle v) c (record c { settled = counts }) (held_settled c counts v) (λ y. omega arith) h k;
      counted = record { by_visit = counted.by_visit };
      same_running = refl;
      listed = keeps;
      apart = λ u z. apart_from_one v u (not_listed u z);
    }

    module _ (a : ℕ) (new : Tally) (turned : Turned c new) where
      same_freed : (x : ℕ) → count new.freed x ≡ count c.freed x
      same_freed x = ap (λ (d : Tally). count d.freed x) turned.only

      same_settled : (u : ℕ) → count new.settled u ≡ count c.settled u
      same_settled u = ap (λ (d : Tally). count d.settled u) turned.only

      -- a visit that is gained is counted as held once more, and listed
      pub gained_visit : ((b n : ℕ) → count_of new.visits b n ≡ count_of c.visits b n + of_actor a b (one_if v n)) →
          Noted t (event.Gain a (Visit v)) c new was now
      gained_visit h = record {
        tells = told t (event.Gain a (Visit v)) c new (held_gained_visit c a v new turned h) (λ y. omega (arith, same_freed y))
            (λ u. omega (arith, same_settled u)) k;
        counted = turned.counted counted;
        same_running = ap (λ (d : Tally). d.running) turned.only;
        listed = keeps;
        apart = λ u z. apart_from_one v u (not_listed u z);
      }

      -- a visit that is lost is counted as held once less, and listed
      pub lost_visit : ((b n : ℕ) → count_of c.visits b n ≡ count_of new.visits b n + of_actor a b (one_if v n)) →
          Noted t (event.Lose a (Visit v)) c new was now
      lost_visit h = record {
        tells = told t (event.Lose a (Visit v)) c new (held_lost_visit c a v new turned h) (λ y. omega (arith, same_freed y))
            (λ u. omega (arith, same_settled u)) k;
        counted = turned.counted counted;
        same_running = ap (λ (d : Tally). d.running) turned.only;
        listed = keeps;
        apart = λ u z. apart_from_one v u (not_listed u z);
      }
