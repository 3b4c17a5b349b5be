-- The least place of a link is the first context that has it.
use Rattle.std.proofs.Common.{◌≡◌, ◌<◌, ℕ, true, false, List, Option, Some, None, refl, sym, ◌∙◌}
use Rattle.std.specs.BTreeSet.{BTreeSet}
use Rattle.std.specs.List.{position}
use Rattle.std.specs.Option.{MatchOption}
use Rattle.flt_model.specs.declared.parts.Link.{Link}
use Rattle.flt_model.specs.World.{Context, is_linked_to, no_context}
use Rattle.flt_replay_records.specs.Links.{AreLinks, key_code}
use Rattle.flt_replay_records.specs.Places.{has}
use Rattle.flt_replay_records.proofs.PlaceSets.First.{is_position}

-- the least place of a link in the set is the first context with that link
pub linked_first : (cs : List Context) (s : BTreeSet (ℕ × ℕ × ℕ)) (l : Link) (r : Option ℕ) → AreLinks cs s →
    MatchOption r ((c : ℕ) → has s l.filter (key_code l.key) c ≡ false)
    (λ k. (has s l.filter (key_code l.key) k ≡ true) × ((c : ℕ) → c < k → has s l.filter (key_code l.key) c ≡ false)) →
    r ≡ position (λ (c : Context). is_linked_to l c.link) cs
linked_first cs s l None are h =
    is_position (λ (c : Context). is_linked_to l c.link) cs no_context refl None (λ c. sym (are.each l c) ∙ h c)
linked_first cs s l (Some k) are h =
    is_position (λ (c : Context). is_linked_to l c.link) cs no_context refl (Some k)
    (sym (are.each l k) ∙ h.0, λ c less. sym (are.each l c) ∙ h.1 c less)
