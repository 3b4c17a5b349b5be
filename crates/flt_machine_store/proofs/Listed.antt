-- An operation's first entry, found by the list of its visits.
use Rattle.std.proofs.Common.{◌≡◌, ℕ, zero, suc, ◌+◌, ◌<◌, ◌≤◌, Bool, true, false, ◌==◌, ◌||◌, List, [], ◌∷◌}
use Rattle.std.proofs.Common.{length, map, option_map, find, drop, sym, ap, subst, refl, ◌∙◌, eq-eqb, arith}
use Rattle.std.proofs.Math.ListN.{get_or, set}
use Rattle.std.proofs.lemmas.Bool.{ne_eqb}
use Rattle.std.proofs.lemmas.List.Elements.{All-cons, All-drop, All-head, All-tail}
use Rattle.std.specs.List.{All, list_any}
use Rattle.flt_cbdq.proofs.Entries.{cut_here, cut_later}
use Rattle.flt_cbdq.specs.Queues as cbdq
use Rattle.flt_cbdq.specs.declared.entry.Entry as kept
use Rattle.flt_model.specs.Moves.{is_entry_of}
use Rattle.flt_model.specs.declared.parts.Entry.{Entry}
use Rattle.flt_model.specs.World.{Store, Visit, no_visit}
use Rattle.flt_ops.specs.Numbered.{numbers_from, numbers_of}
use Rattle.flt_machine_store.proofs.Reading.{queue_there}
use Rattle.flt_machine_store.specs.Parts.{entry_of}
use Rattle.flt_machine_store.specs.Stores.{AreUpTo}

-- ---- the numbers of an operation's visits

abbrev has : ℕ → List ℕ → Bool
has v numbers = list_any (λ (w : ℕ). w == v) numbers

none_by : (n o v : ℕ) (y : Visit) (visits : List Visit) (b : Bool) → (y.operation == o) ≡ b → v < n →
    has v (numbers_from (n + 1) o visits) ≡ false → has v (numbers_from n o (y ∷ visits)) ≡ false
none_by n o v y visits true is below rest =
    rw is (ap (λ (b : Bool). b || has v (numbers_from (n + 1) o visits)) (ne_eqb n v (λ same. absurd (omega (arith, same, below)))) ∙ rest)
none_by n o v y visits false is below rest = rw is rest

-- numbers are counted upwards
none_below : (n o v : ℕ) (visits : List Visit) → v < n → has v (numbers_from n o visits) ≡ false
none_below n o v [] below = refl
none_below n o v (y ∷ visits) below =
    none_by n o v y visits (y.operation == o) refl below (none_below (n + 1) o v visits (omega (arith, below)))

here_by : (n o v : ℕ) (y : Visit) (visits : List Visit) (b : Bool) → (y.operation == o) ≡ b → v ≡ n →
    has v (numbers_from n o (y ∷ visits)) ≡ b
here_by n o v y visits true is at =
    rw is (ap (λ (b : Bool). b || has v (numbers_from (n + 1) o visits)) (eq-eqb n v (sym at)))
here_by n o v y visits false is at = rw is (none_below (n + 1) o v visits (omega (arith, at)))

later_by : (n o v : ℕ) (y : Visit) (visits : List Visit) (b c : Bool) → (y.operation == o) ≡ b → n < v →
    has v (numbers_from (n + 1) o visits) ≡ c → has v (numbers_from n o (y ∷ visits)) ≡ c
later_by n o v y visits true c is past rest =
    rw is (ap (λ (b : Bool). b || has v (numbers_from (n + 1) o visits)) (ne_eqb n v (λ same. absurd (omega (arith, same, past)))) ∙ rest)
later_by n o v y visits false c is past rest = rw is rest

-- the number of a visit is listed where the visit is of the operation
listed : (n o v k : ℕ) (visits : List Visit) → v ≡ n + k → k < length visits →
    has v (numbers_from n o visits) ≡ ((get_or visits k no_visit).operation == o)
listed n o v k [] at within = absurd (omega (arith, within))
listed n o v zero (y ∷ visits) at within = here_by n o v y visits (y.operation == o) refl (omega (arith, at))
listed n o v (suc k) (y ∷ visits) at within =
    later_by n o v y visits (y.operation == o) ((get_or visits k no_visit).operation == o) refl (omega (arith, at))
    (listed (n + 1) o v k visits (omega (arith, at)) (omega (arith, within)))

-- ---- two searches

module _ (p : kept.Entry → Bool) (q : Entry → Bool) where
  found_by : (e : kept.Entry) (es : List kept.Entry) (b : Bool) → p e ≡ b → q (entry_of e) ≡ b →
      option_map entry_of (find p es) ≡ find q (map entry_of es) →
      option_map entry_of (find p (e ∷ es)) ≡ find q (entry_of e ∷ map entry_of es)
  found_by e es true is also rest = rw (is, also) refl
  found_by e es false is also rest = rw (is, also) rest

  -- tests that agree on a queue's entries find the same
  found_same : (es : List kept.Entry) → All (λ (e : kept.Entry). q (entry_of e) ≡ p e) es →
      option_map entry_of (find p es) ≡ find q (map entry_of es)
  found_same [] same = refl
  found_same (e ∷ es) same =
      found_by e es (p e) refl (All-head (λ (x : kept.Entry). q (entry_of x) ≡ p x) e es same)
      (found_same es (All-tail (λ (x : kept.Entry). q (entry_of x) ≡ p x) e es same))

-- where each entry's visit is there, the first entry of an operation is the first of its visits
pub listed_there : (s : Store) (q : cbdq.Queueing) (f o greatest : ℕ) → AreUpTo greatest q.queues → greatest < length s.visits →
    option_map entry_of (find (cbdq.is_of (numbers_of o s.visits)) (cbdq.queue_of q f))
    ≡ find (is_entry_of s o) (get_or (map (map entry_of) q.queues) f [])
listed_there s q f o greatest up_to there =
    found_same (cbdq.is_of (numbers_of o s.visits)) (is_entry_of s o) (cbdq.queue_of q f)
    (λ k d within. let low = up_to f k d within in
    sym (listed 0 o (get_or (cbdq.queue_of q f) k d).visit (get_or (cbdq.queue_of q f) k d).visit s.visits
    (omega arith) (omega (arith, low, there))))
    ∙ sym (ap (find (is_entry_of s o)) (queue_there q.queues f))

-- ---- the greatest visit that was queued

kept_at : {X : Type 0} (P : X → Type 0) (xs : List X) (i j : ℕ) (x d : X) → P (get_or xs j d) → P x → P (get_or (set xs i x) j d)
kept_at P [] i j x d was new = was
kept_at P (y ∷ xs) zero zero x d was new = new
kept_at P (y ∷ xs) zero (suc j) x d was new = was
kept_at P (y ∷ xs) (suc i) zero x d was new = was
kept_at P (y ∷ xs) (suc i) (suc j) x d was new = kept_at P xs i j x d was new

module _ (greatest : ℕ) where
  abbrev IsUpTo : kept.Entry → Type 0
  IsUpTo e = e.visit ≤ greatest

  -- one queue is another
  queue_up_to : (queues : List (List kept.Entry)) (f : ℕ) (es : List kept.Entry) → AreUpTo greatest queues → All IsUpTo es →
      AreUpTo greatest (set queues f es)
  queue_up_to queues f es was new = λ g. kept_at (All IsUpTo) queues f g es [] (was g) new

  -- the front entry leaves
  pub next_up_to : (queues : List (List kept.Entry)) (f : ℕ) → AreUpTo greatest queues →
      AreUpTo greatest (set queues f (drop 1 (get_or queues f [])))
  next_up_to queues f was =
      queue_up_to queues f (drop 1 (get_or queues f [])) was (All-drop IsUpTo 1 (get_or queues f []) (was f))

  module _ (test : kept.Entry → Bool) where
    without_by : (e : kept.Entry) (es : List kept.Entry) (b : Bool) → test e ≡ b → All IsUpTo (e ∷ es) →
        All IsUpTo (cbdq.without_first test es) → All IsUpTo (cbdq.without_first test (e ∷ es))
    without_by e es true is all rest = subst (All IsUpTo) (sym (cut_here test e es is)) (All-tail IsUpTo e es all)
    without_by e es false is all rest =
        subst (All IsUpTo) (sym (cut_later test e es is))
        (All-cons IsUpTo e (cbdq.without_first test es) (All-head IsUpTo e es all) rest)

    without_up_to : (es : List kept.Entry) → All IsUpTo es → All IsUpTo (cbdq.without_first test es)
    without_up_to [] all = all
    without_up_to (e ∷ es) all = without_by e es (test e) refl all (without_up_to es (All-tail IsUpTo e es all))

    -- an entry leaves
    pub first_up_to : (queues : List (List kept.Entry)) (f : ℕ) → AreUpTo greatest queues →
        AreUpTo greatest (set queues f (cbdq.without_first test (get_or queues f [])))
    first_up_to queues f was =
        queue_up_to queues f (cbdq.without_first test (get_or queues f [])) was (without_up_to (get_or queues f []) (was f))
