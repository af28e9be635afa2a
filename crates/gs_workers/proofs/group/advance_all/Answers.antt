use Rattle.std.proofs.Common.{◌≡◌, ◌<◌, ◌&&◌, Bool, true, false, true≢false, refl, sym, length, rules}
use Rattle.futures.specs.Joined.{IsDone, IsLive}
use Rattle.gs_workers.specs.Groups.{GivesNoMore}
use Rattle.gs_workers.proofs.Members.{all_of_front, all_set, all_zip_same, all_zip_set}
use Rattle.gs_workers.proofs.group.advance_all.Goals as goal

both : (a b : Bool) → (a && b) ≡ true → (a ≡ true) × (b ≡ true)
both true b is = (refl, is)
both false b is = absurd (true≢false (sym is))

pub loop-i-init : goal.loop-i-init
loop-i-init g c = (
  c.requires,
  all_zip_same (GivesNoMore g.F.Future.gives) (λ m x given. given) c.args.members.now,
  (λ _. tt),
  λ fact holds. holds,
)

pub loop-i-preserved : goal.loop-i-preserved
loop-i-preserved g c =
    let was = c.loop-i.invariant in
    let now = c.advance-all_done.ensures in
    let old = c.index-members-i.result in
    let new = c.advance-all_done.new.self in
    let short : c.loop-i.i < length c.loop-i.members = search rules in (
      all_set (IsLive g.F.Future.can_poll) c.loop-i.members c.loop-i.i new was.0 now.live,
      all_zip_set (GivesNoMore g.F.Future.gives) c.args.members.now c.loop-i.members c.loop-i.i new old was.1 (λ m given x may. given x (now.same x may)),
      (λ is. let done = both c.loop-i.all_done c.advance-all_done.result is in
          all_of_front IsDone c.loop-i.members c.loop-i.i new short (was.2 done.0) (rw done.1 at now.answer)),
      λ fact holds. now.kept fact (was.3 fact holds),
    )
