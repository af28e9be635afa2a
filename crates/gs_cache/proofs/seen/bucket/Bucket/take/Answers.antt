use Rattle.std.proofs.Common.{◌≤◌, ◌<◌, ◌-◌, rules}
use Rattle.gs_cache.proofs.Turning.{takes_here, takes_turned}
use Rattle.gs_cache.proofs.seen.bucket.Bucket.take.Goals as goal

pub returns-then-is_past-clause-takes : goal.returns-then-is_past-clause-takes
returns-then-is_past-clause-takes c =
    let past : c.args.ttl.0 ≤ c.args.sighting.at.0 - c.args.self.now.first.0 = search rules in
    rw (c.replace.ensures.value, c.replace.ensures.after)
    (takes_turned c.args.ttl.0 c.args.id c.args.sighting c.args.self.now c.args.older.now c.in_ok-newest.newest c.requires.in_order c.requires.no_earlier past c.in_ok-newest.ensures.one c.in_ok-newest.ensures.first c.in_ok-newest.ensures.last)

pub returns-clause-takes : goal.returns-clause-takes
returns-clause-takes c =
    let soon : c.args.sighting.at.0 - c.args.self.now.first.0 < c.args.ttl.0 = search rules in
    takes_here c.args.ttl.0 c.args.id c.args.sighting c.args.self.now c.args.older.now c.put.new.self c.requires.in_order c.requires.no_earlier soon c.in_ok-put.ensures.puts
