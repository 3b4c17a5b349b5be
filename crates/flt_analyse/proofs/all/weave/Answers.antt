use Rattle.std.proofs.Common.{◌≡◌, suc, ◌-◌, ◌<◌, ◌%◌, ◌++◌, ◌∷◌, [], length, reverse, drop}
use Rattle.std.proofs.Common.{refl, sym, ap, ◌∙◌, arith, slice_set, slice_index_or}
use Rattle.std.proofs.Math.Path.{subst}
use Rattle.std.proofs.lemmas.List.{length-set, reverse-append}
use Rattle.std.proofs.lemmas.Nat.{mod_below}
use Rattle.std.proofs.lemmas.Option.{slice_get_read}
use Rattle.std.specs.List.{AllZip}
use Rattle.flt_analyse.specs.All.{IsAnswer, AreShares}
use Rattle.flt_analyse.proofs.Shares.{some_popped, popped_answer, shares_less, answers_longer}
use Rattle.flt_analyse.proofs.all.weave.Goals as goal

pub unwrap-requires : goal.unwrap-requires
unwrap-requires c =
    let shares = c.places.shares.items in
    let place = c.places.place - 1 in
    let inv = c.places.invariant in
    let count : c.len.result ≡ length c.places.shares.items = c.len.ensures ∙ c.places.shares.ok.0 in
    let one : suc (c.places.place - 1) ≡ c.places.place = omega (arith, c.places-test.true) in
    let low : (c.places.place - 1) % length c.places.shares.items < length c.places.shares.items =
    mod_below place (length shares) inv.some in
    let read : c.index_mut.result.now ≡ slice_index_or c.places.shares.items
    ((c.places.place - 1) % length c.places.shares.items) c.index_mut.result.now =
    subst (λ n. c.index_mut.result.now ≡ slice_index_or c.places.shares.items ((c.places.place - 1) % n) c.index_mut.result.now)
    count c.index_mut.ensures.value in
    let here = slice_get_read shares (length shares) (place % length shares) c.index_mut.result.now refl low read in
    some_popped c.args.graphs.now shares place c.index_mut.result.now c.pop.new.self c.pop.result
    (subst (λ n. AreShares c.args.graphs.now (length c.places.shares.items) n c.places.shares.items) (sym one) inv.shares) here
    c.pop.ensures

pub places-preserved : goal.places-preserved
places-preserved c =
    let graphs = c.args.graphs.now in
    let shares = c.places.shares.items in
    let place = c.places.place - 1 in
    let inv = c.places.invariant in
    let count : c.len.result ≡ length c.places.shares.items = c.len.ensures ∙ c.places.shares.ok.0 in
    let one : suc (c.places.place - 1) ≡ c.places.place = omega (arith, c.places-test.true) in
    let low : (c.places.place - 1) % length c.places.shares.items < length c.places.shares.items =
    mod_below place (length shares) inv.some in
    let read : c.index_mut.result.now ≡ slice_index_or c.places.shares.items
    ((c.places.place - 1) % length c.places.shares.items) c.index_mut.result.now =
    subst (λ n. c.index_mut.result.now ≡ slice_index_or c.places.shares.items ((c.places.place - 1) % n) c.index_mut.result.now)
    count c.index_mut.ensures.value in
    let here = slice_get_read shares (length shares) (place % length shares) c.index_mut.result.now refl low read in
    let before = subst (λ n. AreShares c.args.graphs.now (length c.places.shares.items) n c.places.shares.items) (sym one) inv.shares in
    let popped : c.index_mut.result.now ≡ c.pop.new.self ++ c.unwrap.result ∷ [] = rw c.unwrap.ensures at c.pop.ensures in
    let pushed : c.push.new.self ≡ c.places.backwards ++ c.unwrap.result ∷ [] = c.in_ok-push.ensures.ok in
    let turned : reverse c.push.new.self ≡ c.unwrap.result ∷ reverse c.places.backwards = ap reverse pushed
    ∙ reverse-append c.places.backwards (c.unwrap.result ∷ []) in
    record {
      some = rw (length-set shares (place % c.len.result) c.pop.new.self) inv.some;
      within = omega (arith, inv.within);
      shares = subst (λ n. AreShares c.args.graphs.now
          (length (slice_set c.places.shares.items ((c.places.place - 1) % n) c.pop.new.self)) (c.places.place - 1)
          (slice_set c.places.shares.items ((c.places.place - 1) % n) c.pop.new.self)) (sym count)
          (shares_less graphs shares place c.index_mut.result.now c.pop.new.self c.unwrap.result inv.some here popped before);
      answers = subst (λ xs. AllZip IsAnswer (drop (c.places.place - 1) c.args.graphs.now) xs) (sym turned)
          (answers_longer graphs place (reverse c.places.backwards) c.unwrap.result (omega (arith, inv.within, one))
          (λ g there. popped_answer graphs shares place c.index_mut.result.now c.pop.new.self c.unwrap.result g inv.some before
          here popped there)
          (subst (λ n. AllZip IsAnswer (drop n c.args.graphs.now) (reverse c.places.backwards)) (sym one) inv.answers));
    }
