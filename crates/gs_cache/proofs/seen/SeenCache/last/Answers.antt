use Rattle.std.proofs.Common.{sym, ◌∙◌, ap, Option}
use Rattle.std.specs.Option.{option_or}
use Rattle.gs_cache.specs.declared.seen.sighting.Sighting.{Sighting}
use Rattle.gs_cache.specs.Buckets.{sighting_in}
use Rattle.gs_cache.proofs.Turning.{known_is}
use Rattle.gs_cache.proofs.seen.SeenCache.last.Goals as goal

pub returns-in-Some : goal.returns-in-Some
returns-in-Some c = rw (← c.self.view_is)
    (ap (λ (x : Option Sighting). option_or x (sighting_in c.self.inside.older c.args.id.now)) c.in-Some.ensures.value ∙ sym (known_is c.self.inside.newer c.self.inside.older c.args.id.now))

pub returns-in-None : goal.returns-in-None
returns-in-None c = rw (← c.self.view_is)
    (c.get-in-None.ensures.value ∙ ap (λ (x : Option Sighting). option_or x (sighting_in c.self.inside.older c.args.id.now)) c.in-None.ensures.value ∙ sym (known_is c.self.inside.newer c.self.inside.older c.args.id.now))
