-- What a contract sees of `Contexts`. Source: "Managing contexts" in the Windows Driver Kit, and the pages of the calls that are
-- named below.
use Rattle.std.specs.Prelude.{◌≡◌, ◌↔◌, Result, Ok, ℕ, ◌+◌, ◌-◌, Bool, true, false, ◌&&◌, ◌||◌, ◌==◌}
use Rattle.std.specs.Prelude.{if◌then◌else◌, List, Option, Some, None, is_some, get_or, set, position}
use Rattle.flt_ctx.specs.declared.answers.Release.TheVariants.{Freed}
use Rattle.flt_ctx.specs.declared.answers.SetAnswer.{SetAnswer}
use Rattle.flt_ctx.specs.declared.answers.SetAnswer.TheVariants.{Done}
use Rattle.flt_ctx.specs.declared.key.Key.{Key}
use Rattle.flt_ctx.specs.declared.key.Target.{Target}
use Rattle.flt_ctx.specs.declared.key.Target.TheVariants.{Stream, Instance}

-- a context with the filter that made it; it is freed when its references are gone, and has at most one link.
-- Source: FltAllocateContext
pub record Context : Type 0 where
  pub owner : ℕ
  pub references : ℕ
  pub value : ℕ
  pub link : Option Key

-- the contexts by number, and which filters are closed. That contexts are numbered in order is this project's own rule
pub record ContextTable : Type 0 where
  pub contexts : List Context
  pub closed : List Bool

-- ---- what is there at a number

-- a context that isn't there
abbrev pub no_context : Context
no_context = record { owner = 0; references = 0; value = 0; link = None }

-- the context of a number
abbrev pub context_at : ContextTable → ℕ → Context
context_at t x = get_or t.contexts x no_context

-- no reference is left. Source: FltReleaseContext
abbrev pub is_freed : Context → Bool
is_freed c = c.references == 0

-- nothing is linked for the filter any more, or there is no such filter. Source: STATUS_FLT_DELETING_OBJECT
abbrev pub is_closed : ContextTable → ℕ → Bool
is_closed t filter = get_or t.closed filter true

-- ---- links

-- whether two targets are one
abbrev pub same_target : Target → Target → Bool
same_target (Stream f) (Stream g) = f == g
same_target Instance Instance = true
same_target _ _ = false

-- whether two keys are one
abbrev pub same_key : Key → Key → Bool
same_key k l = (k.filter == l.filter) && same_target k.target l.target

-- whether a context's link is this one
abbrev pub is_key : Key → Option Key → Bool
is_key key None = false
is_key key (Some l) = same_key key l

-- the context that is linked there; there is one at most. Source: FltGetStreamContext, FltGetInstanceContext
abbrev pub linked_at : ContextTable → Key → Option ℕ
linked_at t key = position (λ (c : Context). is_key key c.link) t.contexts

-- the order in which a teardown unlinks: the instance, then streams by their numbers. This project's own rule
abbrev pub order_of : Target → ℕ
order_of Instance = 0
order_of (Stream f) = f + 1

-- ---- changes

-- the context is this from now on
abbrev pub with_context : ContextTable → ℕ → Context → ContextTable
with_context t x c = record t { contexts = set t.contexts x c }

-- one reference more; a freed context stays as it is. Source: FltReferenceContext
abbrev pub add_reference : ContextTable → ℕ → ContextTable
add_reference t x =
    let c = context_at t x in
    with_context t x (record c { references = if is_freed c then 0 else c.references + 1 })

-- one reference less; a freed context stays as it is. Source: FltReleaseContext
abbrev pub drop_reference : ContextTable → ℕ → ContextTable
drop_reference t x = let c = context_at t x in with_context t x (record c { references = c.references - 1 })

-- the context has this link from now on, or none
abbrev pub with_link : ContextTable → ℕ → Option Key → ContextTable
with_link t x l = with_context t x (record (context_at t x) { link = l })

-- the value is written; a freed context keeps its own. This project's own rule
abbrev pub put_value : ContextTable → ℕ → ℕ → ContextTable
put_value t x value =
    let c = context_at t x in if is_freed c then t else with_context t x (record c { value = value })

-- the link takes a reference of its own. Source: FltSetStreamContext, FltSetInstanceContext
abbrev pub put_link : ContextTable → ℕ → Key → ContextTable
put_link t x key = with_link (add_reference t x) x (Some key)

-- the link goes; its reference passes to the caller who wants it, otherwise it is dropped.
-- Source: FltDeleteStreamContext, FltDeleteContext
abbrev pub after_unlink : ContextTable → ℕ → Bool → ContextTable
after_unlink t x wanted = if wanted then with_link t x None else drop_reference (with_link t x None) x

-- a context that is linked or freed can't be linked. Source: STATUS_FLT_CONTEXT_ALREADY_LINKED
abbrev pub cannot_link : Context → Bool
cannot_link c = is_some c.link || is_freed c

-- a filter that isn't closed, and a context that is neither linked nor freed
abbrev pub CanLink : ContextTable → Key → ℕ → Type 0
CanLink t key x = (is_closed t key.filter ≡ false) × (cannot_link (context_at t x) ≡ false)

-- the answer where another context's link goes: that context's number, and that it is freed exactly where the link's reference
-- was dropped and was its last
abbrev pub IsReplaced : {E : Type 0} → Context → ℕ → Bool → Result SetAnswer E → Type 0
IsReplaced c x wanted (Ok (Done (Some u))) = (u.context ≡ x) × ((u.release ≡ Freed) ↔ ((wanted ≡ false) × (c.references ≡ 1)))
IsReplaced c x wanted _ = ⊥
