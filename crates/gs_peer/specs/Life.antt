-- What is known about a peer's run that has ended.
use Rattle.std.specs.Prelude.{◌≡◌, ◌*◌, true, List, [], None}
use Rattle.std.specs.List.{AllByRecursion}
use Rattle.gs_base.specs.declared.names.PeerNo.{PeerNo}
use Rattle.gs_base.specs.Tokens.{Said, bytes_of}
use Rattle.gs_params.specs.Seeding.{SeededState, seeded_after, seeded_word}
use Rattle.gs_wire.specs.Codec.{codec}
use Rattle.gs_link.specs.declared.item.Slot.{Slot}
use Rattle.gs_link.specs.Flat.{flat}
use Rattle.gs_ends.specs.declared.ends.Ends.{Ghosts as EndsOf}
use Rattle.gs_rules.specs.Peers.{links_of}
use Rattle.gs_rules.specs.Modes.{exact}
use Rattle.gs_rules.specs.Legal.{LegalOn}
use Rattle.gs_rules.specs.Saying.{gathered, handled, out}
use Rattle.gs_rules.specs.Hearing.{Spell, closes}
use Rattle.gs_rules.specs.Rounds.{Seat, KeepsRounds}
use Rattle.gs_rules.specs.Results.{meshes_of, scores_of}
use Rattle.gs_peer.specs.declared.finished_task.FinishedTask.{FinishedTask}

-- what lists of slots say, by neighbour
abbrev pub words_of : (PeerNo → List Slot) → PeerNo → Said
words_of lists q = flat (lists q)

-- A whole run of the peer that is given `seat`. Its choices begin with the random words `first`.
pub record IsLife {S : Type 0} (seen : EndsOf S) (seat : Seat) (first : SeededState)
    (f : FinishedTask S) : Type 0 where
  -- each entry is allowed after those before it, with the choices that the words make
  pub legal : (last : SeededState) × LegalOn (exact seeded_word seeded_after) seat.peer first [] f.trace last
  -- it did what there was to do, round by round, and exactly this was refused
  pub keeps : KeepsRounds seat (words_of (seen.taken f.ends)) f.trace f.refused
  -- these were in the meshes of its topics when it shut down, and nothing after that changes them
  pub meshes : f.meshes ≡ meshes_of f.trace
  -- its neighbours scored this when it shut down, and nothing after that changes it
  pub scores : f.scores ≡ scores_of seat.peer f.trace (seat.rounds * seat.round_ms)
  -- from each neighbour, all RPCs were handled that the taken bytes spell
  pub handles : AllByRecursion (λ q. Spell (bytes_of (words_of (seen.taken f.ends) q)) (handled f.trace q))
      (links_of seat.peer)
  -- for each neighbour, all that the trace says was accepted
  pub says : AllByRecursion (λ q. words_of (seen.accepted f.ends) q ≡ out codec f.trace q) (links_of seat.peer)
  -- nothing is gathered that did not go out
  pub none_gathered : AllByRecursion (λ q. gathered codec f.trace q ≡ None) (links_of seat.peer)
  -- each neighbour has closed, so nothing that it said is left in its link
  pub closed : AllByRecursion (λ q. closes (words_of (seen.taken f.ends) q) ≡ true) (links_of seat.peer)
