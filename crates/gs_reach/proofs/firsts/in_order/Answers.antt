use Rattle.std.proofs.Common.{◌≡◌, rules}
use Rattle.std.proofs.lemmas.List.Sorted.{answers_always}
use Rattle.gs_reach.specs.declared.listed.Appearance.{Appearance}
use Rattle.gs_reach.proofs.Ordered.{put_in_order}
use Rattle.gs_reach.proofs.firsts.in_order.Goals as goal

pub returns : goal.returns
returns c =
    let moments = answers_always _ (λ a r. r ≡ a.0.now.at.0) _ (λ f a r q k. search rules) in
    put_in_order (λ (x : Appearance). x.at.0) c.args.publications.items c.sort_by_key.new.self.items
    (c.in_ok-sort_by_key.ensures.sorted (λ (x : Appearance). x.at.0) moments)
    (c.sort_by_key.ensures.stable (λ (x : Appearance). x.at.0) moments)
