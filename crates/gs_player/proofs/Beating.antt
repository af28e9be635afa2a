-- When a step of decay and a heartbeat are due.
use Rattle.std.proofs.Common.{◌≡◌, ℕ, Bool, true, [], ◌∷◌, if◌then◌else◌, ap}
use Rattle.gs_base.specs.declared.names.Millis.{Millis}
use Rattle.gs_rules.specs.Peers.{Peer}
use Rattle.gs_rules.specs.Rounds.{Beat, DecayCounters, beats_in, decays_in, is_due}

pub one_decay : (p : Peer) (r : ℕ) (at : Millis)
    → is_due p.params.timing.decay_ms r at ≡ true
    → decays_in p r at ≡ DecayCounters ∷ []
one_decay p r at due = ap (λ (b : Bool). if b then DecayCounters ∷ [] else []) due

pub one_beat : (p : Peer) (r : ℕ) (at : Millis)
    → is_due p.params.timing.heartbeat_ms r at ≡ true
    → beats_in p r at ≡ Beat ∷ []
one_beat p r at due = ap (λ (b : Bool). if b then Beat ∷ [] else []) due
