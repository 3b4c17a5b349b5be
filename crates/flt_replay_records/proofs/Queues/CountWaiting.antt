-- What waits is counted still where an entry or an item comes or goes.
use Rattle.std.proofs.Common.{◌≡◌, ℕ, ◌+◌, ◌<◌, List, [], ◌∷◌, ◌++◌, Option, Some, None, length}
use Rattle.std.proofs.Common.{get_or, set, find, Bool, true, false, refl, sym, ap, ◌∙◌, arith}
use Rattle.std.proofs.lemmas.Bool.Decides.{nat_tests}
use Rattle.std.proofs.lemmas.List.Sums.{sum_by-set, sum_by_push, sum_by-cons}
use Rattle.flt_model.specs.Trace.{one_if}
use Rattle.flt_model.specs.Violations.{in_queue, in_item, in_some}
use Rattle.flt_model.specs.declared.parts.Entry.{Entry}
use Rattle.flt_model.specs.declared.parts.Item.{Item}
use Rattle.flt_replay_records.specs.Counts.{count}
use Rattle.flt_replay_records.specs.Waiting.{AreWaiting}
use Rattle.flt_replay_records.specs.Tickets.{without_first}
use Rattle.flt_replay_records.proofs.Queues.QueueMiddle.{first_passes, first_fails}

-- nothing of a visit waits in an empty queue
pub in_none : (v : ℕ) → in_queue v [] ≡ 0
unfolding in_queue
in_none v = refl

-- an entry that comes last counts for its visit
pub in_push : (v : ℕ) (q : List Entry) (e : Entry) → in_queue v (q ++ e ∷ []) ≡ in_queue v q + one_if e.visit v
unfolding in_queue
in_push v q e = sum_by_push (λ (x : Entry). one_if x.visit v) q e

-- an entry that stands first counts for its visit
pub in_cons : (v : ℕ) (e : Entry) (q : List Entry) → in_queue v (e ∷ q) ≡ one_if e.visit v + in_queue v q
unfolding in_queue
in_cons v e q = sum_by-cons (λ (x : Entry). one_if x.visit v) e q

in_without_by : (v : ℕ) (p : Entry → Bool) (x : Entry) (q : List Entry) (e : Entry) (b : Bool) → p x ≡ b →
    find p (x ∷ q) ≡ Some e → (find p q ≡ Some e → in_queue v q ≡ one_if e.visit v + in_queue v (without_first p q)) →
    in_queue v (x ∷ q) ≡ one_if e.visit v + in_queue v (without_first p (x ∷ q))
in_without_by v p x q e true h is rest =
    let f = first_passes p x q h in
    let same : Some x ≡ Some e = sym f.0 ∙ is in
    let it : x ≡ e = cc in
    in_cons v x q ∙ ap (λ (y : Entry). one_if y.visit v + in_queue v q) it ∙ ap (λ (l : List Entry). one_if e.visit v + in_queue v l) f.1
in_without_by v p x q e false h is rest =
    let f = first_fails p x q h in
    let r = rest (sym f.0 ∙ is) in
    let a = in_cons v x q in
    let b = ap (in_queue v) (sym f.1) ∙ in_cons v x (without_first p q) in
    omega arith

-- the entries without the first that passes
pub in_without : (v : ℕ) (p : Entry → Bool) (q : List Entry) (e : Entry) → find p q ≡ Some e →
    in_queue v q ≡ one_if e.visit v + in_queue v (without_first p q)
in_without v p [] e is = absurd (cc)
in_without v p (x ∷ q) e is = in_without_by v p x q e (p x) refl is (in_without v p q e)

module _ (queues : List (List Entry)) (items : List (Option Item)) (cs ds : List ℕ) (was : AreWaiting queues items cs) where
  module _ (f : ℕ) (l : f < length queues) (old new : List Entry) (read : old ≡ get_or queues f []) where
    -- a queue that stays keeps what waits
    pub same_queue : new ≡ old → ((v : ℕ) → count ds v ≡ count cs v) → AreWaiting (set queues f new) items ds
    same_queue is same = record {
      each = λ v.
          let s = sum_by-set (in_queue v) queues f new [] l in
          let p = ap (in_queue v) (is ∙ read) in
          let w = was.each v in
          let m = same v in
          omega arith;
    }

    -- an entry that comes last is counted once more for its visit
    pub entry_added : (e : Entry) → new ≡ old ++ e ∷ [] → ((v : ℕ) → count ds v ≡ count cs v + one_if e.visit v) →
        AreWaiting (set queues f new) items ds
    entry_added e is more = record {
      each = λ v.
          let s = sum_by-set (in_queue v) queues f new [] l in
          let p = ap (in_queue v) is ∙ in_push v old e in
          let r = ap (in_queue v) read in
          let w = was.each v in
          let m = more v in
          omega arith;
    }

    module _ (e : Entry) (first : (v : ℕ) → in_queue v old ≡ one_if e.visit v + in_queue v new) where
      -- an entry of a queue is counted
      pub entry_counted : 0 < count cs e.visit
      unfolding one_if
      entry_counted =
          let s = sum_by-set (in_queue e.visit) queues f [] [] l in
          let p = first e.visit in
          let r = ap (in_queue e.visit) read in
          let z = in_none e.visit in
          let w = was.each e.visit in
          let one : one_if e.visit e.visit ≡ 1 = grind (arith, nat_tests) in
          omega arith

      -- an entry that is taken out is counted once less for its visit
      pub entry_taken : ((v : ℕ) → count cs v ≡ count ds v + one_if e.visit v) → AreWaiting (set queues f new) items ds
      entry_taken less = record {
        each = λ v.
            let s = sum_by-set (in_queue v) queues f new [] l in
            let p = first v in
            let r = ap (in_queue v) read in
            let w = was.each v in
            let m = less v in
            omega arith;
      }

  -- items that stay keep what waits
  pub same_counts : (new : List (Option Item)) → new ≡ items → ((v : ℕ) → count ds v ≡ count cs v) → AreWaiting queues new ds
  same_counts new is same = record { each = λ v. let w = was.each v in let m = same v in rw is (omega arith) }

  -- a queue more, with nothing in it, changes no count
  pub queue_added : AreWaiting (queues ++ [] ∷ []) items cs
  queue_added = record {
    each = λ v.
        let s = sum_by_push (in_queue v) queues [] in
        let z = in_none v in
        let w = was.each v in
        omega arith;
  }

  -- an item that comes is counted once more for its visit, if it has one
  pub item_added : (i : Item) → ((v : ℕ) → count ds v ≡ count cs v + in_some v i.visit) → AreWaiting queues (items ++ Some i ∷ []) ds
  item_added i more = record {
    each = λ v.
        let s = sum_by_push (in_item v) items (Some i) in
        let w = was.each v in
        let m = more v in
        omega arith;
  }

  module _ (n : ℕ) (l : n < length items) (i : Item) (old : Option Item) (read : old ≡ get_or items n None) (is : old ≡ Some i) where
    -- an item's visit is counted
    pub item_counted : (v : ℕ) → i.visit ≡ Some v → 0 < count cs v
    unfolding one_if
    item_counted v e =
        let s = sum_by-set (in_item v) items n None None l in
        let p = ap (in_item v) (sym read ∙ is) ∙ ap (in_some v) e in
        let w = was.each v in
        let one : one_if v v ≡ 1 = grind (arith, nat_tests) in
        omega arith

    -- an item that is taken out is counted once less for its visit, if it has one
    pub item_taken : ((v : ℕ) → count cs v ≡ count ds v + in_some v i.visit) → AreWaiting queues (set items n None) ds
    item_taken less = record {
      each = λ v.
          let s = sum_by-set (in_item v) items n None None l in
          let p = ap (in_item v) (sym read ∙ is) in
          let w = was.each v in
          let m = less v in
          omega arith;
    }
