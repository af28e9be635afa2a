use Rattle.std.proofs.Common.{List, refl, sym, ap, ◌∙◌}
use Rattle.gs_base.specs.declared.names.PeerNo.{PeerNo}
use Rattle.gs_cache.specs.Sightings.{counting}
use Rattle.gs_cache.specs.Buckets.{known, put}
use Rattle.gs_cache.proofs.Turning.{forgotten}
use Rattle.gs_cache.proofs.Counting.{sighted_needs}
use Rattle.gs_cache.proofs.seen.SeenCache.mark.Goals as goal

pub returns-clause-marks : goal.returns-clause-marks
returns-clause-marks c = λ q t later. rw (← c.self.view_is)
    (forgotten c.self.inside.ttl.0 c.args.now.0 c.take.new.self c.take.new.older c.take.new.self c.forget.new.self c.forget.ensures.counts refl q t later
    ∙ c.in_ok-take.ensures.takes.counts q t later
    ∙ ap (λ (noted : List PeerNo). counting c.self.inside.ttl.0 t (put c.args.id (record { at = c.args.now; verdict = c.args.verdict; noted = noted }) q (known c.self.inside.newer c.self.inside.older q))) c.new.ensures
    ∙ sym (sighted_needs c.args.id q c.args.now c.args.verdict c.self.inside.ttl.0 t (known c.self.inside.newer c.self.inside.older q)))
