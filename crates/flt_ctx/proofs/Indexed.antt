-- The set of streams, as rows and their links change.
use Rattle.std.proofs.Common.{◌≡◌, ◌≢◌, ◌⊎◌, ℕ, Bool, true, false, not, ◌&&◌, ◌||◌, List, Option, Some, None, inl, inr, refl, sym, ap, ◌∙◌}
use Rattle.std.specs.BTreeSet.{BTreeSet}
use Rattle.std.proofs.lemmas.Bool.{cases_eq, true≢false, false_from_ne_true}
use Rattle.std.proofs.lemmas.Option.{none-some, same_Some}
use Rattle.ilist_core.specs.NodeLists.{Sequences}
use Rattle.flt_ctx.specs.declared.key.Key.{Key}
use Rattle.flt_ctx.specs.declared.links.Link.{Link}
use Rattle.flt_ctx.specs.declared.links.Row.{Row}
use Rattle.flt_ctx.specs.Rows.{row_at, key_of, AreLinked}
use Rattle.flt_ctx.specs.Streams.{stream_key, is_stream, AreIndexed}
use Rattle.pair_set.specs.Pairs.{has}
use Rattle.flt_ctx.proofs.Walks.{key_is, key_self}

-- a key that is a stream's passes for it
passes : (key : Key) (filter file : ℕ) → key ≡ stream_key filter file → is_stream key filter file ≡ true
passes key filter file same = ap (λ (k : Key). is_stream k filter file) same ∙ key_self (stream_key filter file)

-- a link with a key
pub with_key : (o : Option Link) (key : Key) → key_of o ≡ Some key → (l : Link) × (o ≡ Some l) × (l.key ≡ key)
with_key None key is = absurd (none-some key is)
with_key (Some l) key is = (l, refl, same_Some l.key key is)

both : (a b : Bool) → (not a && b) ≡ true → (a ≡ false) × (b ≡ true)
both true b is = absurd (true≢false (sym is))
both false b is = (refl, is)

either : (a b : Bool) → (a || b) ≡ true → (a ≡ true) ⊎ (b ≡ true)
either true b is = inl refl
either false b is = inr is

first_holds : (a b : Bool) → a ≡ true → (a || b) ≡ true
first_holds a b is = rw is refl

second_holds : (a b : Bool) → b ≡ true → (a || b) ≡ true
second_holds true b is = refl
second_holds false b is = is

-- the set stays where links stay, and another with the same streams serves as well
pub AreIndexed-kept : (rows new : List Row) (s t : BTreeSet (ℕ × ℕ)) → ((x : ℕ) → (row_at new x).link ≡ (row_at rows x).link) →
    ((filter file : ℕ) → has t filter file ≡ has s filter file) → AreIndexed rows s → AreIndexed new t
AreIndexed-kept rows new s t same as_before was = record {
  each = λ f o. (
    λ there. let at = (was.each f o).0 (sym (as_before f o) ∙ there) in (at.0, ap key_of (same at.0) ∙ at.1),
    λ linked. as_before f o ∙ (was.each f o).1 (linked.0, sym (ap key_of (same linked.0)) ∙ linked.1),
  );
}

module _ (rows : List Row) (s : BTreeSet (ℕ × ℕ)) (was : AreIndexed rows s) (new : List Row) (x : ℕ) (l : Link) where
  -- a link goes, and its stream with it
  pub AreIndexed-less : (filters : ℕ) (q : Sequences) (contexts : List ℕ) → AreLinked rows filters q contexts →
      (row_at rows x).link ≡ Some l →
      (row_at new x).link ≡ None → ((y : ℕ) → y ≢ x → (row_at new y).link ≡ (row_at rows y).link) → (t : BTreeSet (ℕ × ℕ)) →
      ((filter file : ℕ) → has t filter file ≡ (not (is_stream l.key filter file) && has s filter file)) → AreIndexed new t
  AreIndexed-less filters q contexts are is gone others t less = record { each = λ f o. (stays f o, comes f o) }
    where
      stays : (f o : ℕ) → has t f o ≡ true → (y : ℕ) × (key_of (row_at new y).link ≡ Some (stream_key f o))
      stays f o there =
          let h = both (is_stream l.key f o) (has s f o) (sym (less f o) ∙ there) in
          let at = (was.each f o).0 h.1 in
          let away : at.0 ≢ x = λ here.
          true≢false (sym (passes l.key f o (same_Some l.key (stream_key f o)
          (sym (ap key_of is) ∙ ap (λ (y : ℕ). key_of (row_at rows y).link) (sym here) ∙ at.1))) ∙ h.0) in
          (at.0, ap key_of (others at.0 away) ∙ at.1)

      comes : (f o : ℕ) → (y : ℕ) × (key_of (row_at new y).link ≡ Some (stream_key f o)) → has t f o ≡ true
      comes f o (y, at) =
          let away : y ≢ x = λ here. none-some (stream_key f o) (sym (ap key_of (ap (λ (z : ℕ). (row_at new z).link) here ∙ gone)) ∙ at) in
          let old : key_of (row_at rows y).link ≡ Some (stream_key f o) = sym (ap key_of (others y away)) ∙ at in
          let m = with_key (row_at rows y).link (stream_key f o) old in
          let other : is_stream l.key f o ≡ false =
          false_from_ne_true (is_stream l.key f o)
          (λ passed. away (are.one y x m.0 l m.1 is (m.2 ∙ sym (key_is l.key (stream_key f o) passed)))) in
          less f o ∙ rw other ((was.each f o).1 (y, old))

  -- a link comes where none was, and its stream with it
  pub AreIndexed-more : (row_at rows x).link ≡ None → (row_at new x).link ≡ Some l →
      ((y : ℕ) → y ≢ x → (row_at new y).link ≡ (row_at rows y).link) → (t : BTreeSet (ℕ × ℕ)) →
      ((filter file : ℕ) → has t filter file ≡ (is_stream l.key filter file || has s filter file)) → AreIndexed new t
  AreIndexed-more free given others t more = record { each = λ f o. (stays f o, comes f o) }
    where
      stays : (f o : ℕ) → has t f o ≡ true → (y : ℕ) × (key_of (row_at new y).link ≡ Some (stream_key f o))
      stays f o there = elim (either (is_stream l.key f o) (has s f o) (sym (more f o) ∙ there)) [
        | inl own ↦ (x, ap key_of given ∙ ap (λ (k : Key). Some k) (key_is l.key (stream_key f o) own))
        | inr old ↦
            let at = (was.each f o).0 old in
            let away : at.0 ≢ x = λ here. none-some (stream_key f o)
            (sym (ap key_of (ap (λ (z : ℕ). (row_at rows z).link) here ∙ free)) ∙ at.1) in
            (at.0, ap key_of (others at.0 away) ∙ at.1)
      ]

      comes : (f o : ℕ) → (y : ℕ) × (key_of (row_at new y).link ≡ Some (stream_key f o)) → has t f o ≡ true
      comes f o (y, at) = elim (cases_eq y x) [
        | inl here ↦
            let own : l.key ≡ stream_key f o = same_Some l.key (stream_key f o)
            (sym (ap key_of (ap (λ (z : ℕ). (row_at new z).link) here ∙ given)) ∙ at) in
            more f o ∙ first_holds (is_stream l.key f o) (has s f o) (passes l.key f o own)
        | inr away ↦ more f o ∙ second_holds (is_stream l.key f o) (has s f o) ((was.each f o).1 (y, sym (ap key_of (others y away)) ∙ at))
      ]

  -- a link passes to another context, and the set stays
  pub AreIndexed-moved : (row_at rows x).link ≡ Some l → (to : ℕ) → (row_at rows to).link ≡ None → (row_at new x).link ≡ None →
      (row_at new to).link ≡ Some l → ((y : ℕ) → y ≢ x → y ≢ to → (row_at new y).link ≡ (row_at rows y).link) → AreIndexed new s
  AreIndexed-moved is to free gone given others = record {
    each = λ f o. (λ there. stays f o ((was.each f o).0 there), λ linked. (was.each f o).1 (comes f o linked));
  }
    where
      stays : (f o : ℕ) → (y : ℕ) × (key_of (row_at rows y).link ≡ Some (stream_key f o)) → (y : ℕ)
          × (key_of (row_at new y).link ≡ Some (stream_key f o))
      stays f o (y, at) = elim (cases_eq y x) [
        | inl here ↦ (to, ap key_of given ∙ sym (ap key_of (ap (λ (z : ℕ). (row_at rows z).link) here ∙ is)) ∙ at)
        | inr away ↦
            let off : y ≢ to = λ here. none-some (stream_key f o)
            (sym (ap key_of (ap (λ (z : ℕ). (row_at rows z).link) here ∙ free)) ∙ at) in
            (y, ap key_of (others y away off) ∙ at)
      ]

      comes : (f o : ℕ) → (y : ℕ) × (key_of (row_at new y).link ≡ Some (stream_key f o)) → (y : ℕ)
          × (key_of (row_at rows y).link ≡ Some (stream_key f o))
      comes f o (y, at) = elim (cases_eq y to) [
        | inl here ↦ (x, ap key_of is ∙ sym (ap key_of (ap (λ (z : ℕ). (row_at new z).link) here ∙ given)) ∙ at)
        | inr off ↦
            let away : y ≢ x = λ here. none-some (stream_key f o)
            (sym (ap key_of (ap (λ (z : ℕ). (row_at new z).link) here ∙ gone)) ∙ at) in
            (y, sym (ap key_of (others y away off)) ∙ at)
      ]

-- no rows, and a set without a stream
pub AreIndexed-fresh : (rows : List Row) (s : BTreeSet (ℕ × ℕ)) → ((x : ℕ) → (row_at rows x).link ≡ None) →
    ((filter file : ℕ) → has s filter file ≡ false) → AreIndexed rows s
AreIndexed-fresh rows s none no_stream = record {
  each = λ f o. (
    λ there. absurd (true≢false (sym there ∙ no_stream f o)),
    λ linked. absurd (none-some (stream_key f o) (sym (ap key_of (none linked.0)) ∙ linked.1)),
  );
}
