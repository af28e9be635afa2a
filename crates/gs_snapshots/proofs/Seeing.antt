-- A reader that goes on through a trace, and summaries that go on with it.
use Rattle.std.proofs.Common.{◌≡◌, ◌<◌, length, drop, arith, List, [], ◌∷◌, ◌++◌, reverse, refl, sym, ap, ◌∙◌, append_assoc}
use Rattle.std.proofs.lemmas.List.{reverse-append}
use Rattle.gs_base.specs.declared.names.PeerNo.{PeerNo}
use Rattle.gs_rules.specs.declared.trace.Entry.{Entry}
use Rattle.gs_rules.specs.FellAway.{fell_away}
use Rattle.gs_rules.specs.Tables.{Entries}
use Rattle.gs_router.specs.declared.follower.Followed.{Followed}
use Rattle.gs_router.specs.declared.follower.Follower.{Follower}
use Rattle.gs_router.specs.Following.{Advances, Follows, Reading}
use Rattle.gs_seats.specs.Rounds.{peer_in}
use Rattle.gs_snapshots.specs.declared.summaries.Summed.{Summed}
use Rattle.gs_snapshots.specs.declared.summary.Summary.{Summary}
use Rattle.gs_snapshots.specs.Summing.{SumsUp, summaries_in}
use Rattle.gs_snapshots.specs.Telling.{FollowsPeer}

-- from where a reader stood, to where it stands
pub record HasSummed (x : Summed) (v : Entries × List Entry) (old : List Summary) (follower : Follower) (new : List Summary) : Type 0 where
  pub before : Entries
  pub left : List Entry
  pub follows : FollowsPeer follower x.plan.now x.peer before left
  pub same : reverse left ++ before ≡ reverse v.1 ++ v.0
  pub sums : (qs : List PeerNo) → old ≡ summaries_in x qs v.0 → new ≡ summaries_in x qs before

pub at_first : (x : Summed) (v : Entries × List Entry) (old : List Summary) (follower : Follower) → FollowsPeer follower x.plan.now x.peer v.0 v.1 → HasSummed x v old follower old
at_first x v old follower follows = record {
  before = v.0;
  left = v.1;
  follows = follows;
  same = refl;
  sums = λ qs told. told;
}

-- what is noted of the newest entry
abbrev pub Notes : Summed → Follower → Followed → (old new : List Summary) → Type 0
Notes x follower seen old new =
    (L : Entries) (left : List Entry)
    → FollowsPeer follower x.plan.now x.peer (seen.entry.now ∷ L) left
    → seen.fallen.items ≡ fell_away (peer_in x.plan.now x.peer) L seen.entry.now.at seen.entry.now.event
    → (qs : List PeerNo) → old ≡ summaries_in x qs L → new ≡ summaries_in x qs (seen.entry.now ∷ L)

-- an entry more
pub goes_on : (x : Summed) (v : Entries × List Entry) (old new new' : List Summary) (follower follower' : Follower) (seen : Followed)
    → (h : HasSummed x v old follower new)
    → Advances (record { peer = peer_in x.plan.now x.peer; before = h.before; left = h.left }) seen follower'
    → Notes x follower' seen new new'
    → HasSummed x v old follower' new'
goes_on x v old new new' follower follower' seen h step noted = record {
  before = seen.entry.now ∷ h.before;
  left = step.rest;
  follows = step.follows;
  same = sym (append_assoc (reverse step.rest) (seen.entry.now ∷ []) h.before)
      ∙ ap (λ (L : Entries). L ++ h.before) (sym (reverse-append (seen.entry.now ∷ []) step.rest))
      ∙ ap (λ (es : List Entry). reverse es ++ h.before) (sym step.next)
      ∙ h.same;
  sums = λ qs told. noted h.before step.rest step.follows step.fallen qs (h.sums qs told);
}

-- no entry is left
pub at_last : (x : Summed) (v : Entries × List Entry) (old new : List Summary) (follower : Follower) → (h : HasSummed x v old follower new) → h.left ≡ [] → SumsUp x v old new
at_last x v old new follower h none = λ qs told.
    h.sums qs told ∙ ap (λ (L : Entries). summaries_in x qs L) (sym (ap (λ (es : List Entry). reverse es ++ h.before) none) ∙ h.same)

-- less is left after an entry
pub less_left : (v : Reading) (seen : Followed) (f f' : Follower) → Follows f v → Advances v seen f'
    → length (drop f'.place (reverse f'.trace.now)) < length (drop f.place (reverse f.trace.now))
less_left v seen f f' before step =
    let left : length v.left ≡ length (drop f.place (reverse f.trace.now)) = ap (λ (es : List Entry). length es) before.left in
    let rest : length step.rest ≡ length (drop f'.place (reverse f'.trace.now)) = ap (λ (es : List Entry). length es) step.follows.left in
    omega (arith, left, rest, ap (λ (es : List Entry). length es) step.next)
