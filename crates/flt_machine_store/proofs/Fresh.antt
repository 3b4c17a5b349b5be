-- The parts of a store before the first move.
use Rattle.std.proofs.Common.{◌≡◌, ℕ, zero, suc, ◌≤◌, true, false, not, List, [], ◌∷◌, map}
use Rattle.std.proofs.Common.{length, replicate, inl, inr, ap, sym, refl, ◌∙◌, arith}
use Rattle.std.proofs.Math.ListN.{get_or}
use Rattle.std.proofs.lemmas.Bool.{cases_lt}
use Rattle.std.proofs.lemmas.List.{get_or-replicate, get_or_past, length-replicate}
use Rattle.std.proofs.lemmas.List.Elements.{All-nil, All-same}
use Rattle.flt_cbdq.specs.Queues as cbdq
use Rattle.flt_cbdq.specs.declared.entry.Entry as kept
use Rattle.flt_ctx.specs.Contexts as ctx
use Rattle.flt_model.specs.declared.parts.Entry.{Entry}
use Rattle.flt_model.specs.declared.parts.Holder.{Holder}
use Rattle.flt_model.specs.declared.parts.Presence.{Presence}
use Rattle.flt_model.specs.declared.parts.Presence.TheVariants.{Attached, Detached}
use Rattle.flt_model.specs.World.{is_attached}
use Rattle.flt_ops.specs.Operating.{Operating, no_operations}
use Rattle.flt_machine_store.specs.Parts.{entry_of}
use Rattle.flt_machine_store.specs.Stores.{AreParts}

-- no filter is closed, and all are attached
opened : (n f : ℕ) → get_or (replicate n false) f true ≡ not (is_attached (get_or (replicate n Attached) f Detached))
opened n f = elim (cases_lt f n) [
  | inl low ↦ get_or-replicate n f false true low ∙
      sym (ap (λ (p : Presence). not (is_attached p)) (get_or-replicate n f Attached Detached low))
  | inr past ↦
      let long : length (replicate n false) ≤ f = omega (arith, past, length-replicate n false) in
      let all : length (replicate n Attached) ≤ f = omega (arith, past, length-replicate n Attached) in
      get_or_past (replicate n false) f true long ∙
      sym (ap (λ (p : Presence). not (is_attached p)) (get_or_past (replicate n Attached) f Detached all))
]

-- no queue has an entry
none_queued : (n f : ℕ) → get_or (replicate {A = List kept.Entry} n []) f [] ≡ []
none_queued zero f = refl
none_queued (suc n) zero = refl
none_queued (suc n) (suc f) = none_queued n f

-- before the first move all filters are attached, and there is nothing else
pub fresh_parts : (presences : List Presence) (queues : cbdq.Queueing) (greatest : ℕ) (contexts : ctx.ContextTable) (operations : Operating)
    (holders : List (List (List Holder))) (n : ℕ) → presences ≡ replicate n Attached →
    queues ≡ record { queues = replicate n []; disabled = replicate n false } →
    contexts ≡ record { contexts = []; closed = replicate n false } → operations ≡ no_operations n →
    holders ≡ replicate n (replicate 8 []) → AreParts presences queues greatest contexts operations holders
fresh_parts presences queues greatest contexts operations holders n attached empty none idle free =
    let as_many : length presences ≡ n = ap (λ (ps : List Presence). length ps) attached ∙ length-replicate n Attached in
    record {
      filters = ap (λ (o : Operating). o.filters) idle ∙ sym as_many;
      locked = ap (λ (hs : List (List (List Holder))). length hs) free ∙ length-replicate n (replicate 8 []) ∙ sym as_many;
      closed = λ f. rw (none, attached) (opened n f);
      disabled = λ f. rw (empty, attached) (opened n f);
      queued = λ f. All-same (λ (e : kept.Entry). e.visit ≤ greatest) (get_or queues.queues f []) []
          (ap (λ (q : cbdq.Queueing). get_or q.queues f []) empty ∙ none_queued n f) (All-nil (λ (e : kept.Entry). e.visit ≤ greatest));
    }

-- empty queues are the machine's
pub no_entries : (n : ℕ) → map (map entry_of) (replicate n []) ≡ replicate n []
no_entries zero = refl
no_entries (suc n) = ap (λ (qs : List (List Entry)). [] ∷ qs) (no_entries n)
