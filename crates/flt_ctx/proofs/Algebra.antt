-- Changes of contexts that come in another order.
use Rattle.std.proofs.Common.{◌≡◌, ◌≢◌, ℕ, ◌+◌, ◌-◌, ◌<◌, true, if◌then◌else◌, length}
use Rattle.std.proofs.Common.{Option, None, Some, IsSome, inl, inr, sym, ap, ◌∙◌, arith}
use Rattle.std.proofs.lemmas.List.{get_or-set_same, get_or-set_other, length-set, get_or_past}
use Rattle.std.proofs.lemmas.Bool.{cases_lt, true≢false}
use Rattle.std.proofs.lemmas.List.Quantifiers.{position-Some}
use Rattle.std.proofs.lemmas.Option.{none-some}
use Rattle.flt_ctx.proofs.Walks.{key_is}
use Rattle.std.proofs.Math.Seq.{set-set, set_comm}
use Rattle.flt_ctx.specs.declared.key.Key.{Key}
use Rattle.flt_ctx.specs.Contexts.{Context, ContextTable, no_context, context_at, is_freed, with_context}
use Rattle.flt_ctx.specs.Contexts.{add_reference, drop_reference, with_link, is_key, linked_at}

-- a context is written twice
twice : (h : ContextTable) (x : ℕ) (c d : Context) → with_context (with_context h x c) x d ≡ with_context h x d
twice h x c d = λ i. record h { contexts = set-set h.contexts x c d i }

-- two contexts are written
apart : (h : ContextTable) (x y : ℕ) (c d : Context) → x ≢ y → with_context (with_context h x c) y d ≡ with_context (with_context h y d) x c
apart h x y c d differ = λ i. record h { contexts = set_comm h.contexts x y c d differ i }

here : (h : ContextTable) (x : ℕ) (c : Context) → x < length h.contexts → context_at (with_context h x c) x ≡ c
here h x c within = get_or-set_same h.contexts x c no_context within

there : (h : ContextTable) (x y : ℕ) (c : Context) → y ≢ x → context_at (with_context h x c) y ≡ context_at h y
there h x y c away = get_or-set_other h.contexts x y c no_context away

-- a reference and a link of one context
pub counted_link : (h : ContextTable) (x : ℕ) (k : Option Key) → x < length h.contexts →
    add_reference (with_link h x k) x ≡ with_link (add_reference h x) x k
counted_link h x k within =
    let c = context_at h x in
    let counted : Context = record c { references = if is_freed c then 0 else c.references + 1 } in
    ap (λ (d : Context). with_context (with_link h x k) x (record d { references = if is_freed d then 0 else d.references + 1 }))
    (here h x (record c { link = k }) within)
    ∙ twice h x (record c { link = k }) (record counted { link = k })
    ∙ sym (twice h x counted (record counted { link = k }))
    ∙ sym (ap (λ (d : Context). with_context (add_reference h x) x (record d { link = k })) (here h x counted within))

-- a link of one context and a reference of another
link_drop : (h : ContextTable) (x y : ℕ) (k : Option Key) → y ≢ x → drop_reference (with_link h x k) y ≡ with_link (drop_reference h y) x k
link_drop h x y k away =
    let c = context_at h x in
    let d = context_at h y in
    ap (λ (e : Context). with_context (with_link h x k) y (record e { references = e.references - 1 }))
    (there h x y (record c { link = k }) away)
    ∙ apart h x y (record c { link = k }) (record d { references = d.references - 1 }) (λ same. away (sym same))
    ∙ sym (ap (λ (e : Context). with_context (drop_reference h y) x (record e { link = k }))
    (there h y x (record d { references = d.references - 1 }) (λ same. away (sym same))))

add_drop : (h : ContextTable) (x y : ℕ) → y ≢ x → drop_reference (add_reference h x) y ≡ add_reference (drop_reference h y) x
add_drop h x y away =
    let c = context_at h x in
    let d = context_at h y in
    let counted : Context = record c { references = if is_freed c then 0 else c.references + 1 } in
    ap (λ (e : Context). with_context (add_reference h x) y (record e { references = e.references - 1 })) (there h x y counted away)
    ∙ apart h x y counted (record d { references = d.references - 1 }) (λ same. away (sym same))
    ∙ sym (ap (λ (e : Context). with_context (drop_reference h y) x
    (record e { references = if is_freed e then 0 else e.references + 1 }))
    (there h y x (record d { references = d.references - 1 }) (λ same. away (sym same))))

-- the link moves, the new context is counted, and then the old one's reference is dropped
pub replaced : (h : ContextTable) (x y : ℕ) (k : Option Key) → y ≢ x → x < length h.contexts →
    drop_reference (add_reference (with_link (with_link h y None) x k) x) y ≡ with_link
    (add_reference (drop_reference (with_link h y None) y) x) x k
replaced h x y k away within =
    let g = with_link h y None in
    let inside : x < length g.contexts = omega (arith, within, length-set h.contexts y (record (context_at h y) { link = None })) in
    ap (λ (q : ContextTable). drop_reference q y) (counted_link g x k inside)
    ∙ link_drop (add_reference g x) x y k away
    ∙ ap (λ (q : ContextTable). with_link q x k) (add_drop g x y away)

-- the reference of a link that moves can be counted before or after it moves
pub moved_count : (h : ContextTable) (x y : ℕ) (k : Option Key) → x < length h.contexts →
    add_reference (with_link (with_link h y None) x k) x ≡ with_link (add_reference (with_link h y None) x) x k
moved_count h x y k within = counted_link (with_link h y None) x k
    (omega (arith, within, length-set h.contexts y (record (context_at h y) { link = None })))

-- the references of the old context are as they were
pub old_references : (h : ContextTable) (x y : ℕ) (k : Option Key) → y ≢ x → y < length h.contexts →
    (context_at (add_reference (with_link (with_link h y None) x k) x) y).references ≡ (context_at h y).references
old_references h x y k away within =
    ap (λ (c : Context). c.references) (there (with_link (with_link h y None) x k) x y _ away
    ∙ there (with_link h y None) x y _ away ∙ here h y _ within)

-- a context with a link is there, and is another than one without
no_some : {A : Type 0} (o : Option A) → o ≡ None → IsSome o → ⊥
no_some None is some = true≢false (sym some)
no_some (Some x) is some = absurd (none-some x (sym is))

-- a context with a link is another than one without
pub linked_apart : (h : ContextTable) (x y : ℕ) → (context_at h x).link ≡ None → IsSome (context_at h y).link → y ≢ x
linked_apart h x y free linked same = no_some (context_at h y).link (ap (λ (z : ℕ). (context_at h z).link) same ∙ free) linked

-- a context with a link is there
pub linked_there : (h : ContextTable) (y : ℕ) → IsSome (context_at h y).link → y < length h.contexts
linked_there h y linked = elim (cases_lt y (length h.contexts)) [
  | inl less ↦ less
  | inr past ↦ absurd (no_some (context_at h y).link (ap (λ (c : Context). c.link) (get_or_past h.contexts y no_context past)) linked)
]

-- the context that is found has the key
pub found_key : (h : ContextTable) (key : Key) (x : ℕ) → linked_at h key ≡ Some x → (context_at h x).link ≡ Some key
found_key h key x is = key_in (context_at h x).link (position-Some (λ (c : Context). is_key key c.link) h.contexts x no_context is).1
  where
    key_in : (o : Option Key) → is_key key o ≡ true → o ≡ Some key
    key_in None passes = absurd (true≢false (sym passes))
    key_in (Some l) passes = ap (λ (k : Key). Some k) (sym (key_is key l passes))
