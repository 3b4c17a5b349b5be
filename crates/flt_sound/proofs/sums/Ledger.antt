-- The ledger of a step: what it does to the references of contexts, to those that are freed, and to whose they are. These are the
-- third invariant's equations: each reference stands somewhere, and a context is freed once, with its last. Every step of the machine
-- hands over a `Ledger`; this file says what one is, and how one is made of another.
-- Here a is the activation that steps, s, mid, new are stores, x is a context, pre, es, fs, gs are lists of events.
use Rattle.std.proofs.Common.{◌≡◌, ℕ, zero, suc, ◌+◌, ◌≤◌, List, ◌++◌, length, refl, arith}
use Rattle.flt_model.specs.declared.event.Event.{Event}
use Rattle.flt_model.specs.declared.event.Object.TheVariants.{Context}
use Rattle.flt_model.specs.Trace.{gains, loses, frees}
use Rattle.flt_model.specs.World.{Store, context_at}
use Rattle.flt_sound.proofs.sums.Belonging.{Mine, Older}
use Rattle.flt_sound.proofs.sums.Counts.{counts, made, made_few}
use Rattle.flt_sound.proofs.sums.Differences.{elsewhere, standing}

-- 1 while a context has a reference, and 0 after
abbrev pub alive : ℕ → ℕ
alive zero = 0
alive (suc n) = 1

-- any references make one alive
pub alive_few : (n : ℕ) → 1 ≤ n → alive n ≡ 1
alive_few zero h = absurd (omega arith)
alive_few (suc n) h = refl

-- a context that is alive wasn't freed, where each that was made is alive or freed
pub not_freed : (f n m k : ℕ) → f + alive n ≡ made m k → 1 ≤ n → f ≡ 0
not_freed f n m k e h = omega (arith, e, alive_few n h, made_few m k)

-- all that the third invariant asks of a step of an activation
pub record Ledger (a : ℕ) (s new : Store) (es : List Event) : Type 0 where
  -- a context's count changes by what variables gain and lose and by what stands elsewhere
  pub refs : (x : ℕ) →
      ((context_at new x).references + loses es a (Context x)) + elsewhere x s ≡
      ((context_at s x).references + gains es a (Context x)) + elsewhere x new
  -- what is freed was alive, and what is made is alive
  pub freed : (x : ℕ) →
      frees es x + (alive (context_at new x).references + made x (length s.contexts)) ≡ alive (context_at s x).references + made x
      (length new.contexts)
  -- contexts stay whose they were
  pub older : Older s.contexts new.contexts
  -- and what stands with a filter is its own
  pub mine : Mine new

-- one step after another, with events that gain, lose and free together what both do
pub chain : {a : ℕ} {s mid new : Store} {es fs : List Event} → Ledger a s mid es → Ledger a mid new fs → (gs : List Event) →
    ((x : ℕ) →
    gains gs a (Context x) + (loses es a (Context x) + loses fs a (Context x)) ≡ loses gs a (Context x) +
    (gains es a (Context x) + gains fs a (Context x))) →
    ((x : ℕ) → frees gs x ≡ frees es x + frees fs x) → Ledger a s new gs
chain l k gs h f = record {
  refs = λ x. omega (arith, l.refs x, k.refs x, h x);
  freed = λ x. omega (arith, l.freed x, k.freed x, f x);
  older = λ g x b. k.older g x (l.older g x b);
  mine = k.mine;
}

-- nothing of contexts changes
pub still : (a : ℕ) (s new : Store) (es : List Event) → Mine s →
    new.contexts ≡ s.contexts → new.queues ≡ s.queues → new.routes ≡ s.routes → new.items ≡ s.items →
    ((x : ℕ) → gains es a (Context x) ≡ loses es a (Context x)) → ((x : ℕ) → frees es x ≡ 0) → Ledger a s new es
still a s new es k c q r i h f = record {
  refs = λ x. rw (c, q, r, i) (omega (arith, h x));
  freed = λ x. rw c (omega (arith, f x));
  older = λ g x b. rw c b;
  mine = record { entries = rw (c, q) k.entries; frames = rw (c, r) k.frames; items = rw (c, i) k.items; links = rw c k.links };
}

-- contexts stay as they are, and references go between variables and queues, frames and items
pub moved : (a : ℕ) (s new : Store) (es : List Event) → new.contexts ≡ s.contexts → Mine new →
    ((x : ℕ) → loses es a (Context x) + standing x s ≡ gains es a (Context x) + standing x new) → ((x : ℕ) → frees es x ≡ 0) →
    Ledger a s new es
moved a s new es c k h f = record {
  refs = λ x. rw c (omega (arith, h x));
  freed = λ x. rw c (omega (arith, f x));
  older = λ g x b. rw c b;
  mine = k;
}

-- a step behind events that neither gain, lose nor free
pub ledger_behind : (a : ℕ) (s new : Store) (pre es : List Event) → ((x : ℕ) → gains pre a (Context x) ≡ 0) →
    ((x : ℕ) → loses pre a (Context x) ≡ 0) → ((x : ℕ) → frees pre x ≡ 0) → Ledger a s new es → Ledger a s new (pre ++ es)
ledger_behind a s new pre es g l f k = record {
  refs = λ x. simp counts (omega (arith, g x, l x, k.refs x));
  freed = λ x. simp counts (omega (arith, f x, k.freed x));
  older = k.older;
  mine = k.mine;
}
