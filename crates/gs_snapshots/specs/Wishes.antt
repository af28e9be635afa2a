-- Which scores are reported, and how.
use Rattle.std.specs.Prelude.{ℕ, Bool, List, Option, Some, None}
use Rattle.gs_base.specs.declared.names.PeerNo.{PeerNo}
use Rattle.gs_plan.specs.declared.plan.Plan.{Plan}
use Rattle.gs_rules.specs.Rules.{same_bytes}
use Rattle.gs_report.specs.Text.{name_of}
use Rattle.gs_trace.specs.declared.wanted.RoundSpan.{RoundSpan}
use Rattle.gs_trace.specs.Wanted.{lies_in, spelled, suits}
use Rattle.gs_snapshots.specs.declared.wanted.Form.{Form}
use Rattle.gs_snapshots.specs.declared.wanted.Wanted.{Wanted}

-- What the options ask for. A part is None if its option is absent.
pub record Wishes : Type 0 where
  -- only scores that the peer with this name gives
  pub peer : Option (List ℕ)
  -- only scores that the neighbour with this name gets
  pub neighbour : Option (List ℕ)
  pub rounds : Option RoundSpan
  pub form : Option Form

abbrev pub wishes_of : Wanted → Wishes
wishes_of w =
    record { peer = spelled w.peer; neighbour = spelled w.neighbour; rounds = w.rounds; form = w.form }

-- the name that an option asks for, if any, belongs to the peer with this number
abbrev pub has_name : Option (List ℕ) → Plan → PeerNo → Bool
has_name wish plan q = suits (same_bytes (name_of plan q)) wish

-- the round is among those that an option asks for, if any
abbrev pub is_in_rounds : Option RoundSpan → ℕ → Bool
is_in_rounds rounds r = suits (lies_in r) rounds
