use Rattle.std.proofs.Common.{◌≡◌, ◌∙◌, ◌+◌, sym, ap, arith, List, ℕ, drop, take, filter, fold, [], ◌∷◌}
use Rattle.std.proofs.lemmas.List.{drop_all, drop_more}
use Rattle.gs_rules.specs.Rules.{is_wanted, once_after}
use Rattle.gs_router.specs.Known.{peer_with}
use Rattle.gs_router.proofs.Wanting.{one_more}
use Rattle.gs_router.proofs.entries.offers.wanted.Goals as goal

pub loop-bytes-preserved : goal.loop-bytes-preserved
loop-bytes-preserved c = λ L knows.
    let test = is_wanted (peer_with c.args.known.now.setup) L c.args.now.0 in
    let xs : List (List ℕ) = c.args.offered.now in
    let i = c.loop-bytes.bytes-index in
    let here : drop i xs ≡ c.bytes-item.result ∷ drop (i + 1) xs = drop_more xs i c.bytes-item.result c.loop-bytes-test.true ∙ ap (λ (x : List ℕ). x ∷ drop (i + 1) xs) (sym c.bytes-item.is) in
    ap (λ (keys : List (List ℕ)). fold once_after keys (filter test (drop (i + 1) xs))) (c.in_ok-add_wanted.ensures L knows)
    ∙ one_more test c.loop-bytes.found.keys c.bytes-item.result (drop (i + 1) xs)
    ∙ ap (λ (left : List (List ℕ)). fold once_after c.loop-bytes.found.keys (filter test left)) (sym here)
    ∙ c.loop-bytes.invariant L knows

pub returns : goal.returns
returns c = λ L knows.
    let test = is_wanted (peer_with c.args.known.now.setup) L c.args.now.0 in
    let xs : List (List ℕ) = c.args.offered.now in
    let left : drop c.loop-bytes.bytes-index xs ≡ [] = drop_all c.loop-bytes.bytes-index xs (omega (arith, c.loop-bytes-test.false)) in
    c.in_ok-ids.ensures
    ∙ c.as_slice.ensures.keys
    ∙ c.truncate.ensures.keys
    ∙ ap (take c.args.room) (ap (λ (rest : List (List ℕ)). fold once_after c.loop-bytes.found.keys (filter test rest)) (sym left) ∙ c.loop-bytes.invariant L knows)
