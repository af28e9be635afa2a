-- What a peer of a run does in a round, and at the end.
use Rattle.std.specs.Prelude.{◌≡◌, ℕ, List, [], ◌∷◌, ◌++◌, reverse, Vec}
use Rattle.std.specs.List.{AllZip}
use Rattle.std.specs.declared.alloc.Global.{Global}
use Rattle.gs_base.specs.declared.names.PeerNo.{PeerNo}
use Rattle.gs_base.specs.declared.names.Millis.{Millis}
use Rattle.gs_params.specs.Seeding.{seeded_after, seeded_word}
use Rattle.gs_plan.specs.declared.plan.Plan.{Plan}
use Rattle.gs_rules.specs.declared.refusal.RefusedLine.{RefusedLine}
use Rattle.gs_rules.specs.Modes.{exact}
use Rattle.gs_rules.specs.Rounds.{Stop}
use Rattle.gs_rules.specs.Results.{meshes_of, scores_of}
use Rattle.gs_report.specs.declared.finished.Finished.{Finished}
use Rattle.gs_seats.specs.ListsByPeer.{list_at}
use Rattle.gs_seats.specs.Rounds.{first_words, lines_in, neighbours, phase_of}
use Rattle.gs_seats.specs.Routers.{new_router}
use Rattle.gs_router.specs.Log.{this_round}
use Rattle.gs_player.specs.Playing.{Runs, behind_heard, clock_at}
use Rattle.gs_direct.specs.declared.letter.Letter.{Letter}
use Rattle.gs_direct.specs.declared.peer.Peer.{Peer}
use Rattle.gs_direct.specs.Letters.{all_heard}
use Rattle.gs_direct.specs.Outlets.{IsHandedOver, IsNew, SaysAll, given}

-- It is a peer of the plan that has done nothing.
pub record IsNewPeer {T : Type 0} (plan : Plan) (p : PeerNo) (peer : Peer T) : Type 0 where
  pub number : peer.number ≡ p
  pub agenda : peer.agenda ≡ lines_in plan p
  pub phase : peer.phase_ms ≡ phase_of plan p
  pub router : peer.router ≡ new_router plan p
  pub words : peer.words ≡ first_words plan p
  pub refused : peer.refused.items ≡ []
  pub outlets : AllZip IsNew (neighbours plan p) peer.outlets.items

-- It hears these letters and does everything else that it has to do in the round. Some lines are refused. Its neighbours are
-- sent what the entries of the round say.
pub record PlaysRound {T : Type 0} (r : ℕ) (now : Millis) (letters : List Letter) (old new : Peer T) : Type 0 where
  pub number : new.number ≡ old.number
  pub agenda : new.agenda ≡ old.agenda
  pub phase : new.phase_ms ≡ old.phase_ms
  pub more : List RefusedLine
  pub refused : new.refused.items ≡ old.refused.items ++ more
  pub runs : Runs (exact seeded_word seeded_after) now
      (all_heard letters ++ behind_heard old.router.peer r (clock_at old.phase_ms now) old.agenda)
      old.router old.words new.router new.words more
  pub tells : AllZip (SaysAll (reverse (this_round new.router.trace))) old.outlets.items new.outlets.items

-- What its outlets have is handed over, and nothing else changes.
pub record HandsOver {T : Type 0} (mail mail' : List (Vec Letter Global)) (old new : Peer T) : Type 0 where
  pub rest : new ≡ record old { outlets = new.outlets }
  pub given_is : (p : PeerNo) → list_at mail' p.0 ≡ list_at mail p.0 ++ given old.number old.outlets.items p
  pub handed : AllZip IsHandedOver old.outlets.items new.outlets.items

-- It shuts down, and hears these letters late.
pub record Closes {T : Type 0} (now : Millis) (letters : List Letter) (old new : Peer T) : Type 0 where
  pub runs : Runs (exact seeded_word seeded_after) now (Stop ∷ all_heard letters)
      old.router old.words new.router new.words []
  pub rest : new ≡ record old { router = new.router; words = new.words }

-- what a run leaves of the peer, with the scores at this moment
abbrev pub left_of : {T : Type 0} → Millis → Peer T → Finished
left_of now peer = record {
  trace = peer.router.trace;
  refused = peer.refused.items;
  meshes = meshes_of peer.router.trace;
  scores = scores_of peer.router.peer peer.router.trace now.0;
}
