-- What a subject asks for is none of what callers ask for.
use Rattle.std.proofs.Common.{◌≡◌, ℕ, Bool, true, false, List, [], ◌∷◌, Option, Some, None}
use Rattle.std.proofs.Common.{if◌then◌else◌, IfSome, length, inl, inr, refl, sym, subst}
use Rattle.flt_machine_dispatch.specs.Turns.{ComesAfterEntries, ComesAfterFrames, ComesNext, ComesNextIn, ComesNextOf, is_enabled, next_of}
use Rattle.flt_machine.specs.Calls.{IsFullFor, is_arrival}
use Rattle.flt_machine.specs.Situations.{Situation}
use Rattle.flt_model.specs.declared.parts.Entry.{Entry}
use Rattle.flt_model.specs.World.{World}
use Rattle.flt_model.specs.declared.moves.Move.{Move}
use Rattle.flt_model.specs.declared.moves.Move.TheVariants.{Arrive, Pre, Skip, Lower, Post, Cancel, Canceled}
use Rattle.flt_model.specs.declared.moves.Move.TheVariants.{Work, Detach, Drain, Unlink, Detached}
use Rattle.flt_stack_core.specs.Turns.{IsFollowing}
use Rattle.flt_tree.specs.declared.filter.Filter.{Filter}
use Rattle.flt_rules.specs.Limits.{max_entries}

-- a move that is this one
is_good : (x m : Move) → IsFollowing x → Some x ≡ Some m → IsFollowing m
is_good x m good same = let e : x ≡ m = cc in subst IsFollowing e good

none_is : (m : Move) → None ≡ Some m → IsFollowing m
none_is m same = absurd (cc)

-- the first of two, or what the others give
choose : (b : Bool) (x m : Move) (others : Option Move) → IsFollowing x → (others ≡ Some m → IsFollowing m) →
    (if b then Some x else others) ≡ Some m → IsFollowing m
choose true x m others good rest same = is_good x m good same
choose false x m others good rest same = rest same

-- an operation's own move
pub own_follows : (p : List Filter) (w : World) (serial : ℕ) (m : Move) → next_of p w serial ≡ Some m → IsFollowing m
own_follows p w serial m =
    choose (is_enabled p w (Pre serial)) (Pre serial) m _ refl
    (choose (is_enabled p w (Skip serial)) (Skip serial) m _ refl
    (choose (is_enabled p w (Lower serial)) (Lower serial) m _ refl
    (choose (is_enabled p w (Post serial)) (Post serial) m _ refl (none_is m))))

-- the end of a teardown, where it can be
ended : (b : Bool) (altitude : ℕ) (m : Move) → Some m ≡ (if b then Some (Detached altitude) else None) → IsFollowing m
ended b altitude m same = choose b (Detached altitude) m None refl (none_is m) (sym same)

after_entries : (p : List Filter) (w : World) (f altitude : ℕ) (m : Move) → ComesAfterEntries p w f altitude (Some m) → IsFollowing m
after_entries p w f altitude (Unlink at key) next = refl
after_entries p w f altitude (Arrive kind mode file) next = ended _ altitude _ next.1
after_entries p w f altitude (Pre s) next = refl
after_entries p w f altitude (Skip s) next = refl
after_entries p w f altitude (Lower s) next = refl
after_entries p w f altitude (Post s) next = refl
after_entries p w f altitude (Cancel s) next = ended _ altitude _ next.1
after_entries p w f altitude (Canceled at s) next = refl
after_entries p w f altitude (Work i) next = refl
after_entries p w f altitude (Detach at) next = ended _ altitude _ next.1
after_entries p w f altitude (Drain at s) next = refl
after_entries p w f altitude (Detached at) next = refl

after_frames : (p : List Filter) (w : World) (f altitude : ℕ) (queue : List Entry) (m : Move) →
    ComesAfterFrames p w f altitude queue (Some m) → IsFollowing m
after_frames p w f altitude [] m next = after_entries p w f altitude m next
after_frames p w f altitude (e ∷ entries) m next = is_good _ m refl (sym next)

comes : (p : List Filter) (w : World) (f altitude : ℕ) (frame : Option ℕ) (m : Move) →
    ComesNext p w f altitude frame (Some m) → IsFollowing m
comes p w f altitude None m next = after_frames p w f altitude _ m next
comes p w f altitude (Some serial) m next = is_good _ m refl (sym next)

comes_in : (p : List Filter) (w : World) (f altitude : ℕ) (detaching : Bool) (m : Move) →
    ComesNextIn p w f altitude detaching (Some m) → IsFollowing m
comes_in p w f altitude true m next = comes p w f altitude _ m next
comes_in p w f altitude false m next = none_is m (sym next)

-- the move of a teardown
pub teardown_follows : (p : List Filter) (w : World) (altitude : ℕ) (m : Move) → ComesNextOf p w altitude (Some m) → IsFollowing m
teardown_follows p w altitude m next = comes_in p w _ altitude _ m next

-- ---- what the calls answer

-- an operation's next move is none that callers ask for
pub own_following : (p : List Filter) (w : World) (serial : ℕ) (o : Option Move) → o ≡ next_of p w serial → IfSome o IsFollowing
own_following p w serial None same = tt
own_following p w serial (Some m) same = own_follows p w serial m (sym same)

-- a teardown's next move is none that callers ask for
pub teardown_following : (p : List Filter) (w : World) (altitude : ℕ) (o : Option Move) → ComesNextOf p w altitude o → IfSome o IsFollowing
teardown_following p w altitude None next = tt
teardown_following p w altitude (Some m) next = teardown_follows p w altitude m next

-- it is no arrival
no_arrival : (m : Move) → IsFollowing m → is_arrival m ≡ true → ⊥
no_arrival (Arrive kind mode file) following arrives = cc
no_arrival (Pre s) following arrives = cc
no_arrival (Skip s) following arrives = cc
no_arrival (Lower s) following arrives = cc
no_arrival (Post s) following arrives = cc
no_arrival (Cancel s) following arrives = cc
no_arrival (Canceled at s) following arrives = cc
no_arrival (Work i) following arrives = cc
no_arrival (Detach at) following arrives = cc
no_arrival (Drain at s) following arrives = cc
no_arrival (Unlink at key) following arrives = cc
no_arrival (Detached at) following arrives = cc

-- such a move finds the board full only where the journal is
pub full_journal : (b : Situation) (m : Move) → IsFollowing m → IsFullFor b m → length b.entries ≡ max_entries
full_journal b m following (inl entries) = entries
full_journal b m following (inr arrives) = absurd (no_arrival m following arrives.0)
