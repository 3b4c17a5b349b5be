-- A board keeps its bounds: where a change is written down, and where an activation's standing is another.
use Rattle.std.proofs.Common.{◌≡◌, ℕ, ◌+◌, ◌<◌, List, [], ◌∷◌, ◌++◌, Option, Some, None, length, ap, sym, subst, ◌∙◌, inl, inr, arith}
use Rattle.std.specs.Prelude.{IfSome}
use Rattle.std.proofs.Math.ListN.{set, get_or}
use Rattle.std.proofs.lemmas.Bool.{cases_eq, cases_lt}
use Rattle.std.proofs.lemmas.List.{get_or-set_same, get_or-set_other, get_or_past, length-set, length-append}
use Rattle.flt_machine_frames.specs.declared.standing.Standing.{Standing}
use Rattle.flt_model.specs.declared.moves.JournalEntry.{JournalEntry}
use Rattle.flt_model.specs.World.{Store}
use Rattle.flt_machine_store.specs.Changes.{after_change, IsPossible}
use Rattle.flt_machine_store.specs.declared.change.Change.{Change}
use Rattle.flt_machine.specs.Counted.{AreAtMost, IsBounded, IsSmall}
use Rattle.flt_machine.specs.Situations.{Situation}
use Rattle.flt_machine.proofs.Counting.{references_after, arrivals_after, items_after, queues_after}
use Rattle.flt_machine.proofs.Small.{stays_small}
use Rattle.flt_rules.specs.Limits.{max_entries}

-- a change is made, and one entry more is written
pub written_bounded : (b : Situation) (e : JournalEntry) (c : Change) → IsPossible b.store c →
    length b.entries < max_entries → IsBounded b →
    IsBounded (record b { store = after_change b.store c; entries = b.entries ++ e ∷ [] })
written_bounded b e c can room bounded = record {
  both = bounded.both;
  queues = queues_after b.store c bounded.queues;
  entries = omega (arith, room, longer);
  arrivals = arrivals_after b.store c can bounded.arrivals;
  started = omega (arith, longer, bounded.started);
  items = omega (arith, longer, bounded.items, items_after b.store c);
  references = subst (λ (n : ℕ). AreAtMost n (after_change b.store c)) (sym longer)
      (references_after (length b.entries) b.store c bounded.references);
  standings = λ a s is. subst (λ (n : ℕ). IsSmall n s) (sym longer) (stays_small (length b.entries) s (bounded.standings a s is));
}
  where
    longer : length (b.entries ++ e ∷ []) ≡ length b.entries + 1
    longer = length-append b.entries (e ∷ [])

-- the same of a store and entries that are these
pub written_so : (b old : Situation) (e : JournalEntry) (c : Change) (store : Store) (entries : List JournalEntry) →
    b ≡ old → IsPossible old.store c → length old.entries < max_entries → IsBounded b →
    store ≡ after_change b.store c → entries ≡ b.entries ++ e ∷ [] → IsBounded (record b { store = store; entries = entries })
written_so b old e c store entries same can room bounded changed more =
    subst (λ (x : Store). IsBounded (record b { store = x; entries = entries })) (sym changed)
    (subst (λ (es : List JournalEntry). IsBounded (record b { store = after_change b.store c; entries = es })) (sym more)
    (written_bounded b e c (subst (λ (x : Situation). IsPossible x.store c) (sym same) can)
    (subst (λ (x : Situation). length x.entries < max_entries) (sym same) room) bounded))

found : (n : ℕ) (later : Option Standing) (s : Standing) → IfSome later (λ t. IsSmall n t) → later ≡ Some s → IsSmall n s
found n None s small is = absurd (cc)
found n (Some t) s small is = let same : t ≡ s = cc in subst (IsSmall n) same small

-- an activation's standing is another, which is small
pub put_bounded : (b : Situation) (a : ℕ) (later : Option Standing) →
    IfSome later (λ s. IsSmall (length b.entries) s) → IsBounded b → IsBounded (record b { standings = set b.standings a later })
put_bounded b a later small bounded = record {
  both = bounded.both ∙ sym (length-set b.standings a later);
  queues = bounded.queues;
  entries = bounded.entries;
  arrivals = bounded.arrivals;
  started = omega (arith, length-set b.standings a later, bounded.started);
  items = bounded.items;
  references = bounded.references;
  standings = each;
}
  where
    each : (k : ℕ) (s : Standing) → get_or (set b.standings a later) k None ≡ Some s → IsSmall (length b.entries) s
    each k s is = elim (cases_eq k a) [
      | inl same ↦ elim (cases_lt a (length b.standings)) [
        | inl within ↦ found (length b.entries) later s small
            (sym (get_or-set_same b.standings a later None within) ∙
            ap (λ (j : ℕ). get_or (set b.standings a later) j None) (sym same) ∙ is)
        | inr past ↦ absurd (let none : get_or (set b.standings a later) k None ≡
            None = get_or_past (set b.standings a later) k None (omega (arith, past, same, length-set b.standings a later)) in cc)
      ]
      | inr differs ↦ bounded.standings k s (sym (get_or-set_other b.standings a k later None differs) ∙ is)
    ]

-- the same of standings that are these
pub put_so : (b old : Situation) (a : ℕ) (later : Option Standing) (standings : List (Option Standing)) →
    b ≡ old → IfSome later (λ s. IsSmall (length old.entries) s) → IsBounded b →
    standings ≡ set b.standings a later → IsBounded (record b { standings = standings })
put_so b old a later standings same small bounded changed =
    subst (λ (l : List (Option Standing)). IsBounded (record b { standings = l })) (sym changed)
    (put_bounded b a later (subst (λ (x : Situation). IfSome later (λ s. IsSmall (length x.entries) s)) (sym same) small) bounded)
