-- The commands that were given, and what came of them.
use Rattle.std.proofs.Common.{◌≡◌, ℕ, ◌+◌, ◌<◌, List, [], ◌∷◌, ◌++◌, length, get_or, take, drop, ap, sym, subst, ◌∙◌}
use Rattle.std.proofs.lemmas.List.{append-nil, drop_more, take-append-drop, take_more}
use Rattle.flt_stack_core.specs.declared.receipt.Receipt.{Receipt}
use Rattle.flt_stack_crew.specs.Giving.{AreGiven, AreMade, IsDetach, Makes, StopsAtDetach, asks, begun, one_more}
use Rattle.flt_stack_script.specs.ScriptText.{Commands}
use Rattle.flt_stack_script.specs.declared.command.Command.{Command}
use Rattle.flt_stack_script.specs.declared.command.Command.TheVariants.{Detach}

-- nothing is given
pub made_none : (commands : Commands) (receipts : List Receipt) (asked : List ℕ) → receipts ≡ [] → asked ≡ [] →
    AreMade (take 0 commands) receipts asked
made_none commands receipts asked fresh quiet =
    subst (λ r. AreMade [] r asked) (sym fresh) (subst (λ s. AreMade [] [] s) (sym quiet) begun)

-- one more is given
pub made_more : (commands : Commands) (k : ℕ) (receipts later : List Receipt) (asked after : List ℕ) (d : Command) →
    k < length commands → AreMade (take k commands) receipts asked → Makes (get_or commands k d) receipts later →
    after ≡ asked ++ asks (get_or commands k d) → AreMade (take (k + 1) commands) later after
made_more commands k receipts later asked after d h made one adds =
    subst (λ s. AreMade (take (k + 1) commands) later s) (sym adds)
    (subst (λ c. AreMade c later (asked ++ asks (get_or commands k d))) (sym (take_more commands k d h))
    (one_more (take k commands) receipts later asked (get_or commands k d) made one))

-- the first k commands were given
pub given_so_far : (script commands : Commands) (k : ℕ) (receipts : List Receipt) (asked : List ℕ) → commands ≡ script →
    AreMade (take k commands) receipts asked → AreGiven script receipts asked
given_so_far script commands k receipts asked same made = record {
  given = take k script;
  rest = drop k script;
  parts = sym (take-append-drop k script);
  made = subst (λ s. AreMade (take k s) receipts asked) same made;
}

-- the next one was refused, which kept what there was
pub given_still : (script commands : Commands) (k : ℕ) (receipts later : List Receipt) (asked after : List ℕ) → commands ≡ script →
    AreMade (take k commands) receipts asked → later ≡ receipts → after ≡ asked → AreGiven script later after
given_still script commands k receipts later asked after same made kept quiet =
    subst (λ s. AreGiven script later s) (sym quiet)
    (subst (λ r. AreGiven script r asked) (sym kept) (given_so_far script commands k receipts asked same made))

-- the next one detaches a filter and was refused, which kept what there was
pub stops_here : (script commands : Commands) (k : ℕ) (receipts later : List Receipt) (asked after : List ℕ) (d : Command) →
    commands ≡ script → k < length commands → IsDetach (get_or commands k d) → AreMade (take k commands) receipts asked →
    later ≡ receipts → after ≡ asked → StopsAtDetach script later after
stops_here script commands k receipts later asked after d same here detaches made kept quiet =
    let next : drop k commands ≡ Detach detaches.0 ∷ drop (k + 1) commands =
    drop_more commands k d here ∙ ap (λ c. c ∷ drop (k + 1) commands) detaches.1 in
    record {
      given = take k commands;
      altitude = detaches.0;
      rest = drop (k + 1) commands;
      parts = sym same ∙ sym (take-append-drop k commands) ∙ ap (λ cs. take k commands ++ cs) next;
      made = subst (λ s. AreMade (take k commands) later s) (sym quiet) (subst (λ r. AreMade (take k commands) r asked) (sym kept) made);
    }

-- all were given
pub given_all : (script : Commands) (receipts : List Receipt) (asked : List ℕ) → AreMade script receipts asked →
    AreGiven script receipts asked
given_all script receipts asked made = record {
  given = script;
  rest = [];
  parts = sym (append-nil script);
  made = made;
}
