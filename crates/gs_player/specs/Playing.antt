-- What a router has done after calls, one after the other.
use Rattle.std.specs.Prelude.{◌+◌, ◌≡◌, ◌≤◌, false, true, ℕ, List, [], ◌∷◌, ◌++◌, map, filter}
use Rattle.std.specs.List.{AllByRecursion}
use Rattle.gs_base.specs.declared.names.Millis.{Millis}
use Rattle.gs_base.specs.declared.rpc.Rpc.{Rpc}
use Rattle.gs_plan.specs.declared.plan.Line.{Line}
use Rattle.gs_wire.specs.Codec.{codec}
use Rattle.gs_rules.specs.declared.refusal.RefusedLine.{RefusedLine}
use Rattle.gs_rules.specs.Peers.{Peer}
use Rattle.gs_rules.specs.Tables.{last_moment}
use Rattle.gs_rules.specs.Modes.{Mode}
use Rattle.gs_rules.specs.Legal.{Legal}
use Rattle.gs_rules.specs.Rounds.{Todo, Does, EndRound, beats_in, decays_in, is_at, obey}
use Rattle.gs_router.specs.Router.{RouterView}
use Rattle.gs_router.specs.State.{Appends}

-- The router may be called at this moment.
pub record IsRunning (now : Millis) (v : RouterView) : Type 0 where
  pub running : v.is_stopped ≡ false
  pub time : last_moment v.trace ≤ now.0
  pub legal : Legal v.peer v.trace

-- The router has done `todos` in order, at one moment. Its choices lead from the state s to t. The lines `refused` were refused.
pub record Runs (m : Mode) (now : Millis) (todos : List Todo)
    (old : RouterView) (s : m.State) (new : RouterView) (t : m.State) (refused : List RefusedLine) : Type 0 where
  pub does : Does old.peer now todos old.trace new.trace refused
  pub appended : Appends m old.peer old.trace s new.trace t
  pub runs_on : IsRunning now new
  pub peer : new.peer ≡ old.peer

-- each of these fits a frame
abbrev pub RpcsFit : List Rpc → Type 0
RpcsFit rpcs = AllByRecursion (λ rpc. codec.fits rpc ≡ true) rpcs

-- what there is to do in a round because of these lines
abbrev pub own_lines : ℕ → List (ℕ × Line) → List Todo
own_lines r lines = map obey (filter (is_at r) lines)

-- for how long a peer of this phase has been up at a moment of the run
abbrev pub clock_at : ℕ → Millis → Millis
clock_at phase now = record { 0 = now.0 + phase }

-- what there is to do in a round after what is heard, by how long the peer has been up
abbrev pub behind_heard : Peer → ℕ → Millis → List (ℕ × Line) → List Todo
behind_heard p r clock lines = own_lines r lines ++ (decays_in p r clock ++ (beats_in p r clock ++ EndRound r ∷ []))
