-- How a router handles what a neighbour offers and asks for, one identifier after the other.
use Rattle.std.specs.Prelude.{ℕ, if◌then◌else◌, List, unwrap_or}
use Rattle.std.specs.Map.{lookup}
use Rattle.gs_base.specs.declared.names.MsgId.{MsgId}
use Rattle.gs_base.specs.Names.{same_id}
use Rattle.gs_rules.specs.Peers.{Peer}
use Rattle.gs_rules.specs.Tables.{Entries}
use Rattle.gs_rules.specs.Rules.{is_wanted, once_after}

-- adds an identifier to those that are wanted, if it is wanted and not among them
abbrev pub add_wanted : Peer → Entries → ℕ → List (List ℕ) → List ℕ → List (List ℕ)
add_wanted p L at found bytes = if is_wanted p L at bytes then once_after found bytes else found

-- how many answers are left for a message in the course of a request, if `at_first` were left at its start
abbrev pub left_now : List (MsgId × ℕ) → MsgId → ℕ → ℕ
left_now spent id at_first = unwrap_or (lookup (same_id id) spent) at_first
