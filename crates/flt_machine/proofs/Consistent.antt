-- A board's counts are its own: where an activation starts, where it goes on and where it has ended.
use Rattle.std.proofs.Common.{◌≡◌, ℕ, ◌+◌, ◌-◌, ◌<◌, ◌≤◌, List, [], ◌∷◌, ◌++◌, Option, Some, None, length, ap, sym, subst, ◌∙◌, arith}
use Rattle.std.specs.Prelude.{IsSome, IfSome, ◌^◌}
use Rattle.std.proofs.Math.ListN.{set, get_or}
use Rattle.flt_machine_frames.specs.declared.standing.Standing.{Standing}
use Rattle.flt_model.specs.World.{Actor}
use Rattle.flt_machine.specs.Active.{AreCounted, IsConsistent}
use Rattle.flt_machine.specs.Counted.{IsSmall}
use Rattle.flt_machine.specs.Situations.{Situation, actor_of, standing_of}
use Rattle.flt_machine.proofs.Activity.{count_fits, end_counted, end_counts, renewed_counted, start_counted}
use Rattle.flt_machine.proofs.Bounded.{put_so}

-- ---- an activation starts, where room was made for the count of its filter

module _ (b : Situation) (counts room : List ℕ) (was : IsConsistent b counts) (same : (f : ℕ) → get_or room f 0 ≡ get_or counts f 0) where
  with_room : AreCounted room b.actors b.standings
  with_room f = same f ∙ was.counted f

  -- its filter's count can be one more
  pub start_fits : (f : ℕ) → get_or room f 0 < 2 ^ 64 - 1
  start_fits f = omega (arith, count_fits room b.actors b.standings was.bounded.both with_room f, was.bounded.started, was.bounded.entries)

  -- and is
  pub started_so : (x : Actor) (s : Standing) (f : ℕ) (actors : List Actor) (standings : List (Option Standing)) (later : List ℕ) →
      x.filter ≡ f → f < length room → actors ≡ b.actors ++ x ∷ [] → standings ≡ b.standings ++ Some s ∷ [] →
      later ≡ set room f (get_or room f 0 + 1) → AreCounted later actors standings
  started_so x s f actors standings later of here of_actors of_standings one_more =
      rw (of_actors, of_standings, one_more, sym of)
      (start_counted room b.actors b.standings was.bounded.both with_room x s (subst (λ (k : ℕ). k < length room) (sym of) here))

-- ---- an activation that went on

module _ (b old : Situation) (counts : List ℕ) (a : ℕ) (same : b ≡ old) (there : IsSome (standing_of old a))
    (was : IsConsistent b counts) where
  here : IsSome (standing_of b a)
  here = subst (λ (x : Situation). IsSome (standing_of x a)) (sym same) there

  -- is so from now on
  pub renewed_so : (later : Option Standing) (s : Standing) (standings : List (Option Standing)) → later ≡ Some s →
      IfSome later (λ s. IsSmall (length old.entries) s) → standings ≡ set b.standings a (Some s) →
      IsConsistent (record b { standings = standings }) counts
  renewed_so later s standings is small changed = record {
    bounded = put_so b old a (Some s) standings same
        (subst (λ (o : Option Standing). IfSome o (λ s. IsSmall (length old.entries) s)) is small) was.bounded changed;
    counted = rw changed (renewed_counted counts b.actors b.standings was.bounded.both was.counted a here s);
  }

  module _ (f : ℕ) (of : f ≡ (actor_of old a).filter) where
    of_here : (actor_of b a).filter ≡ f
    of_here = ap (λ (x : Situation). (actor_of x a).filter) same ∙ sym of

    -- has ended, which its filter's count lets be
    pub end_fits : 1 ≤ get_or counts f 0
    end_fits = subst (λ (k : ℕ). 1 ≤ get_or counts k 0) of_here (end_counts counts b.actors b.standings was.bounded.both was.counted a here)

    -- and is counted no more
    pub ended_so : (standings : List (Option Standing)) (later : List ℕ) → standings ≡ set b.standings a None →
        later ≡ set counts f (get_or counts f 0 - 1) → IsConsistent (record b { standings = standings }) later
    ended_so standings later changed one_less = record {
      bounded = put_so b old a None standings same tt was.bounded changed;
      counted = rw (changed, one_less)
          (subst (λ (k : ℕ). AreCounted (set counts k (get_or counts k 0 - 1)) b.actors (set b.standings a None)) of_here
          (end_counted counts b.actors b.standings was.bounded.both was.counted a here));
    }
