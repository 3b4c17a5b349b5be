-- A board after a move holds no more than may be.
use Rattle.std.proofs.Common.{◌≡◌, ℕ, ◌+◌, ◌<◌, ◌≤◌, List, [], ◌∷◌, ◌++◌, Option, Some, None}
use Rattle.std.proofs.Common.{length, ap, sym, subst, refl, ◌∙◌, inl, inr, arith, append-nil}
use Rattle.std.proofs.Math.ListN.{get_or, get_or-append}
use Rattle.std.proofs.Math.Seq.{get_or-append_seam}
use Rattle.std.proofs.lemmas.Bool.{cases_eq, cases_lt}
use Rattle.std.proofs.lemmas.List.{length-append, get_or_past}
use Rattle.flt_tree.specs.declared.filter.Filter.{Filter}
use Rattle.flt_model.specs.declared.moves.JournalEntry.{JournalEntry}
use Rattle.flt_model.specs.declared.moves.JournalEntry.TheVariants as journal_entry
use Rattle.flt_model.specs.declared.moves.Move.{Move}
use Rattle.flt_model.specs.World.{Store, Actor, Activation}
use Rattle.flt_machine_store.specs.Changes.{after_change, IsPossible}
use Rattle.flt_machine_dispatch.specs.Decisions.{actors_by}
use Rattle.flt_machine_dispatch.specs.declared.decision.Decision.{Decision}
use Rattle.flt_machine_dispatch.specs.declared.decision.Start.{Start}
use Rattle.flt_machine_frames.specs.declared.standing.Standing.{Standing}
use Rattle.flt_machine.specs.Counted.{AreAtMost, AreDistinct, IsBounded, IsSmall}
use Rattle.flt_machine.specs.Moving.{gained_by, Begins, standings_by, moved_by, HasMoved}
use Rattle.flt_machine.specs.Situations.{Situation}
use Rattle.flt_machine.proofs.Counting.{arrivals_after, items_after, queues_after, references_after}
use Rattle.flt_machine.proofs.Small.{stays_small}
use Rattle.flt_rules.specs.Limits.{max_entries}

-- an activation that starts counts one gain at most, and holds no lock
begun_small : (n : ℕ) (p : List Filter) (start : Start) (s : Standing) → Begins p (Some start) (Some s) → IsSmall (n + 1) s
begun_small n p start s (stands, (gained, lost)) = record {
  gained = omega (arith, gained, once start.given);
  lost = omega (arith, lost);
  locks = subst AreDistinct (ap (λ (act : Activation). act.locks) stands.same) tt;
}
  where
    once : (given : Option ℕ) → gained_by given ≤ 1
    once None = omega arith
    once (Some v) = omega arith

-- as many standings come as actors
pub same_number : (p : List Filter) (o : Option Start) (s : Option Standing) → Begins p o s → length (actors_by o) ≡ length (standings_by s)
same_number p None None begins = refl
same_number p None (Some s) begins = absurd begins
same_number p (Some start) None begins = absurd begins
same_number p (Some start) (Some s) begins = refl

-- one standing more is kept small where the others are
grown_small : (n : ℕ) (p : List Filter) (o : Option Start) (s : Option Standing) (standings : List (Option Standing)) (k : ℕ)
    (t : Standing) → Begins p o s →
    ((j : ℕ) (u : Standing) → get_or standings j None ≡ Some u → IsSmall n u) →
    get_or (standings ++ standings_by s) k None ≡ Some t → IsSmall (n + 1) t
grown_small n p o s standings k t begins small is = elim (cases_lt k (length standings)) [
  | inl less ↦ stays_small n t (small k t (sym (get_or-append standings (standings_by s) None k less) ∙ is))
  | inr past ↦ behind o s begins is past
]
  where
    behind : (o : Option Start) (s : Option Standing) →
        Begins p o s → get_or (standings ++ standings_by s) k None ≡ Some t → length standings ≤ k → IsSmall (n + 1) t
    behind None None begins is past =
        absurd (let none = get_or_past (standings ++ []) k None (omega (arith, past, length-append standings [])) in cc)
    behind None (Some s) begins is past = absurd begins
    behind (Some start) None begins is past = absurd begins
    behind (Some start) (Some s) begins is past = elim (cases_eq k (length standings)) [
      | inl same ↦
          let there = subst (λ (j : ℕ). get_or (standings ++ Some s ∷ []) j None ≡ Some t) same is in
          let seam = get_or-append_seam standings (Some s) [] None in
          let it : s ≡ t = cc in subst (IsSmall (n + 1)) it (begun_small n p start s begins)
      | inr differs ↦ absurd (let none = get_or_past (standings ++ Some s ∷ []) k None
          (omega (arith, past, differs, length-append standings (Some s ∷ []))) in cc)
    ]

-- a board after a move that can be made is bounded
pub moved_bounded : (p : List Filter) (b : Situation) (d : Decision) (s : Option Standing) (e : JournalEntry) →
    IsBounded b → length b.entries < max_entries →
    IsPossible b.store d.change → Begins p d.start s → IsBounded (moved_by b d s (b.entries ++ e ∷ []))
moved_bounded p b d s e bounded room can begins = record {
  both = length-append b.actors (actors_by d.start) ∙ both ∙ sym (length-append b.standings (standings_by s));
  queues = queues_after b.store d.change bounded.queues;
  entries = omega (arith, room, longer);
  arrivals = arrivals_after b.store d.change can bounded.arrivals;
  started = omega (arith, longer, bounded.started, length-append b.standings (standings_by s), one_starts s);
  items = omega (arith, longer, bounded.items, items_after b.store d.change);
  references = subst (λ (n : ℕ). AreAtMost n (after_change b.store d.change)) (sym longer)
      (references_after (length b.entries) b.store d.change bounded.references);
  standings = λ k t is. subst (λ (n : ℕ). IsSmall n t) (sym longer)
      (grown_small (length b.entries) p d.start s b.standings k t begins bounded.standings is);
}
  where
    longer : length (b.entries ++ e ∷ []) ≡ length b.entries + 1
    longer = length-append b.entries (e ∷ [])

    one_starts : (s : Option Standing) → length (standings_by s) ≤ 1
    one_starts None = omega arith
    one_starts (Some t) = omega arith

    both : length b.actors + length (actors_by d.start) ≡ length b.standings + length (standings_by s)
    both = omega (arith, bounded.both, same_number p d.start s begins)

-- ---- a move as it is made

-- an activation starts
pub starts : (b : Situation) (move : Move) (d : Decision) (start : Start) (s : Standing) (actors : List Actor)
    (standings : List (Option Standing)) (store : Store) (entries : List JournalEntry) →
    d.start ≡ Some start → actors ≡ b.actors ++ record { filter = start.filter; place = start.place; draining = start.draining } ∷ [] →
    standings ≡ b.standings ++ Some s ∷ [] →
    store ≡ after_change b.store d.change → entries ≡ b.entries ++ journal_entry.Move move ∷ [] →
    ((p : List Filter) → Begins p (Some start) (Some s)) →
    HasMoved b (record { actors = actors; standings = standings; store = store; entries = entries }) move d
starts b move d start s actors standings store entries some of_actors of_standings of_store of_entries begins = record {
  standing = Some s;
  begins = λ p. subst (λ (o : Option Start). Begins p o (Some s)) (sym some) (begins p);
  same = rw (some, of_actors, of_standings, of_store, of_entries) refl;
}

-- none does
pub only_writes : (b : Situation) (move : Move) (d : Decision) (store : Store) (entries : List JournalEntry) →
    d.start ≡ None → store ≡ after_change b.store d.change → entries ≡ b.entries ++ journal_entry.Move move ∷ [] →
    HasMoved b (record b { store = store; entries = entries }) move d
only_writes b move d store entries none of_store of_entries = record {
  standing = None;
  begins = λ p. subst (λ (o : Option Start). Begins p o None) (sym none) tt;
  same = rw (none, of_store, of_entries, append-nil b.actors, append-nil b.standings) refl;
}

-- it leads from the board as it is seen
pub seen : (b now later : Situation) (move : Move) (d : Decision) → b ≡ now → HasMoved b later move d → HasMoved now later move d
seen b now later move d same moved = subst (λ (x : Situation). HasMoved x later move d) same moved

-- the board after it is bounded
pub bounded_after : (b later : Situation) (move : Move) (d : Decision) →
    IsBounded b → length b.entries < max_entries → IsPossible b.store d.change → HasMoved b later move d → IsBounded later
bounded_after b later move d bounded room can moved =
    subst IsBounded (sym moved.same) (moved_bounded [] b d moved.standing (journal_entry.Move move) bounded room can (moved.begins []))
