-- Who may enter a mesh, and which facts to remember when neighbours enter or leave one, at any event.
use Rattle.std.specs.Prelude.{ℕ, ◌+◌, ◌*◌, min, pos, int_lt, Bool, not, ◌&&◌, nat_eq, nat_le, if◌then◌else◌, List, [], ◌∷◌, ◌++◌, map, filter}
use Rattle.std.specs.List.{flat_map, list_any}
use Rattle.gs_base.specs.declared.names.PeerNo.{PeerNo}
use Rattle.gs_base.specs.declared.names.Topic.{Topic}
use Rattle.gs_base.specs.declared.neighbour.Neighbour.{Neighbour}
use Rattle.gs_base.specs.declared.mark.Mark.{Mark}
use Rattle.gs_base.specs.declared.mark.Mark.TheVariants.{Deficit, Grafted, Pruned, Fanned, Unfanned, Backoff}
use Rattle.gs_base.specs.Names.{same_peer}
use Rattle.gs_mesh.specs.Peers.{is_among}
use Rattle.gs_score.specs.Accounts.{rules_of}
use Rattle.gs_score.specs.Formula.{p3}
use Rattle.gs_score.specs.Histories.{held_by}
use Rattle.gs_rules.specs.Peers.{Peer, is_explicit, links_of}
use Rattle.gs_rules.specs.Tables.{Entries, last_millis, on, up}
use Rattle.gs_rules.specs.Meshes.{backoff, fanout, mesh, mesh_topics}
use Rattle.gs_rules.specs.Scoring.{history, score}

-- ---- who may enter

-- it scores below 0
abbrev pub is_negative : Peer → Entries → ℕ → PeerNo → Bool
is_negative p L at q = int_lt (score p L at q) (pos 0)

-- a neighbour may be grafted if it is up, on the topic, not explicit, not in the mesh, not in backoff, and not negative
abbrev pub is_candidate : Peer → Entries → ℕ → Topic → PeerNo → Bool
is_candidate p L at t q =
    not (is_explicit p q)
    && (up L q && (on L q t && (not (is_among (mesh L t) q) && (nat_le (backoff L q t) at && not (is_negative p L at q)))))

abbrev pub candidates : Peer → Entries → ℕ → Topic → List PeerNo
candidates p L at t = filter (is_candidate p L at t) (links_of p)

-- whether this side dialled a neighbour
abbrev pub is_outbound : Peer → PeerNo → Bool
is_outbound p q = list_any (λ (n : Neighbour). same_peer q n.peer && n.outbound) p.neighbours

-- ---- entering and leaving

-- these enter the meshes of these topics
abbrev pub entering : List (PeerNo × Topic) → List Mark
entering pairs = map (λ (x : PeerNo × Topic). Grafted x.0 x.1) pairs

-- what a neighbour is charged with when it leaves the mesh of a topic: its missing deliveries there, squared, if any are
-- (gossipsub v1.1, Peer Scoring, P3b)
abbrev pub missing : Peer → Entries → ℕ → PeerNo × Topic → ℕ
missing p L at x = p3 (rules_of p.params x.1) at (held_by p.params (history p L) x.0 x.1)

abbrev pub deficit_marks : Peer → Entries → ℕ → PeerNo × Topic → List Mark
deficit_marks p L at x = if nat_eq (missing p L at x) 0 then [] else Deficit x.0 x.1 (pos (missing p L at x)) ∷ []

-- these leave the meshes of these topics, and each is charged with what is missing
abbrev pub leaving : Peer → Entries → ℕ → List (PeerNo × Topic) → List Mark
leaving p L at pairs = map (λ (x : PeerNo × Topic). Pruned x.0 x.1) pairs ++ flat_map (deficit_marks p L at) pairs

-- these must not come back for this many seconds
abbrev pub barring : ℕ → ℕ → List (PeerNo × Topic) → List Mark
barring at seconds pairs =
    map (λ (x : PeerNo × Topic). Backoff x.0 x.1 (record { 0 = min last_millis (at + 1_000 * seconds) })) pairs

-- these enter the fanout of a topic, or leave it
abbrev pub fanning : Topic → List PeerNo → List Mark
fanning t qs = map (λ q. Fanned q t) qs

abbrev pub unfanning : Topic → List PeerNo → List Mark
unfanning t qs = map (λ q. Unfanned q t) qs

-- ---- who is affected

abbrev pub each_on : Topic → List PeerNo → List (PeerNo × Topic)
each_on t qs = map (λ q. (q, t)) qs

-- a neighbour with each of these topics that has it in its mesh
abbrev pub meshes_with : Entries → PeerNo → List Topic → List (PeerNo × Topic)
meshes_with L q ts = map (λ t. (q, t)) (filter (λ t. is_among (mesh L t) q) ts)

-- whoever is lost leaves every mesh and every fanout
abbrev pub losing_marks : Peer → Entries → ℕ → PeerNo → List Mark
losing_marks p L at q =
    leaving p L at (meshes_with L q (mesh_topics L))
    ++ map (Unfanned q) (filter (λ t. is_among (fanout L t) q) (mesh_topics L))
