-- Lives whose links have carried all that was said are a run.
use Rattle.std.proofs.Common.{◌≡◌, ◌<◌, List, [], length, map, Option, Some, None, sym, ap, subst, ◌∙◌}
use Rattle.std.specs.Prelude.{option_map, unwrap_or, slice_get}
use Rattle.std.specs.List.{AllZip, AllByRecursion}
use Rattle.std.proofs.lemmas.Option.{slice_get-map}
use Rattle.gs_base.specs.declared.names.PeerNo.{PeerNo}
use Rattle.gs_base.specs.Tokens.{Said, bytes_of}
use Rattle.gs_plan.specs.declared.plan.Plan.{Plan}
use Rattle.gs_params.specs.Seeding.{seeded_after, seeded_word}
use Rattle.gs_wire.specs.Codec.{codec}
use Rattle.gs_wire.specs.Joining.{joined_rpcs}
use Rattle.gs_link.specs.Flat.{flat}
use Rattle.gs_ends.specs.Pairs.{Pair, accepted_for, taken_from}
use Rattle.gs_rules.specs.Tables.{Entries}
use Rattle.gs_rules.specs.Modes.{exact, free}
use Rattle.gs_rules.specs.Legal.{Legal}
use Rattle.gs_rules.specs.Saying.{SaysOnlyFrames, gathered, handled, out, sent}
use Rattle.gs_rules.specs.Hearing.{Spell}
use Rattle.gs_rules.specs.Rounds.{Seat, PutsNoBytes}
use Rattle.gs_rules.proofs.Deliveries.{deliveries_apart}
use Rattle.gs_rules.proofs.Legality.{exact_is_free, legal_weakly}
use Rattle.gs_rules.proofs.Scripts.{script_says_frames}
use Rattle.gs_rules.proofs.Spelled.{handled_joined}
use Rattle.gs_peer.specs.Life.{words_of}
use Rattle.gs_report.specs.declared.finished.Finished.{Finished}
use Rattle.gs_seats.specs.Rounds.{IsLifeInRun, IsRun, first_words, neighbours, numbers, peer_in, said_to, seat_in, trace_of}
use Rattle.gs_net.specs.Given.{Given, GivenLife, Exchanged, Reaches, bare, ends_at}
use Rattle.gs_seats.proofs.ByNumber.{at_number, each_by_number}
use Rattle.gs_rules.proofs.Each.{each_weaker}
use Rattle.gs_seats.proofs.Each.{each_of_both}
use Rattle.gs_net.proofs.Exchanges.{joined_reach}
use Rattle.gs_seats.proofs.Joined.{IsJoined, joined_back, neighbours_joined, of_joined}
use Rattle.gs_seats.proofs.NeighbourLists.{links_in}
use Rattle.gs_seats.proofs.SameWords.{SayTheSame, handles_same, keeps_same}

-- ---- one life

-- A peer's life among all, at its number.
record Stands (plan : Plan) (givens : List Given) (p : PeerNo) (f : Given) : Type 0 where
  at : slice_get givens p.0 ≡ Some f
  life : GivenLife plan p f

ends_are : (givens : List Given) (p : PeerNo) (f : Given) → slice_get givens p.0 ≡ Some f → ends_at givens p.0 ≡ f.ends
ends_are givens p f at = ap (λ (o : Option Given). unwrap_or (option_map (λ (g : Given). g.ends) o) []) at

trace_is : (givens : List Given) (p : PeerNo) (f : Given) → slice_get givens p.0 ≡ Some f → trace_of (map bare givens) p ≡ f.trace
trace_is givens p f at =
    ap (λ (o : Option Finished). unwrap_or (option_map (λ (life : Finished). life.trace) o) []) (slice_get-map bare givens p.0 ∙ ap (option_map bare) at)

-- what the words of a source choose is legal
legal_of : (plan : Plan) (p : PeerNo) (f : Given) → GivenLife plan p f → Legal (peer_in plan p) f.trace
legal_of plan p f life =
    legal_weakly (exact seeded_word seeded_after) free (λ u. tt) (exact_is_free seeded_word seeded_after) (peer_in plan p) (first_words plan p) life.legal.0 [] f.trace life.legal.1

-- ---- two neighbours

-- what the one took of the other is what the other's trace says to it
taken_is_said : (plan : Plan) (givens : List Given) (p q : PeerNo) (f g : Given) → Stands plan givens p f → Stands plan givens q g → IsJoined plan q p → Reaches givens q p → words_of (taken_from f.ends) q ≡ said_to (map bare givens) p q
taken_is_said plan givens p q f g mine theirs joined reaches =
    let says : AllByRecursion (λ (r : PeerNo). words_of (accepted_for g.ends) r ≡ out codec g.trace r) (neighbours plan q) =
    subst (AllByRecursion (λ (r : PeerNo). words_of (accepted_for g.ends) r ≡ out codec g.trace r)) (links_in plan q) theirs.life.says in
    let to_me : flat (accepted_for g.ends p) ≡ out codec g.trace p = of_joined (λ (r : PeerNo). words_of (accepted_for g.ends) r ≡ out codec g.trace r) plan q p joined says in
    ap (λ (ends : List Pair). flat (taken_from ends q)) (sym (ends_are givens p f mine.at))
    ∙ ap flat (sym reaches)
    ∙ ap (λ (ends : List Pair). flat (accepted_for ends p)) (ends_are givens q g theirs.at)
    ∙ to_me
    ∙ ap (λ (L : Entries). out codec L p) (sym (trace_is givens q g theirs.at))

-- what the one handled of the other is, joined, what the other's trace sends to it, joined, where its script puts no bytes on the
-- link
handled_was_sent : (plan : Plan) (givens : List Given) (p q : PeerNo) (L : Entries) (g : Given) → Stands plan givens q g → IsJoined plan q p → Spell (bytes_of (said_to (map bare givens) p q)) (handled L q) → PutsNoBytes p (seat_in plan q).lines → joined_rpcs (handled L q) ≡ joined_rpcs (sent (trace_of (map bare givens) q) p)
handled_was_sent plan givens p q L g theirs joined spell quiet =
    let lives : List Finished = map bare givens in
    let theirs_is : trace_of lives q ≡ g.trace = trace_is givens q g theirs.at in
    let legal : Legal (peer_in plan q) g.trace = legal_of plan q g theirs.life in
    let frames : SaysOnlyFrames p g.trace = script_says_frames (seat_in plan q) (words_of (taken_from g.ends)) p g.trace g.refused theirs.life.keeps legal quiet in
    let none : AllByRecursion (λ (r : PeerNo). gathered codec g.trace r ≡ None) (neighbours plan q) =
    subst (AllByRecursion (λ (r : PeerNo). gathered codec g.trace r ≡ None)) (links_in plan q) theirs.life.none_gathered in
    let spelled : Spell (bytes_of (out codec g.trace p)) (handled L q) = subst (λ (K : Entries). Spell (bytes_of (out codec K p)) (handled L q)) theirs_is spell in
    handled_joined (peer_in plan q) g.trace p (handled L q) legal frames spelled (of_joined (λ (r : PeerNo). gathered codec g.trace r ≡ None) plan q p joined none)
    ∙ ap (λ (K : Entries). joined_rpcs (sent K p)) (sym theirs_is)

-- ---- all peers

-- a life for each peer
abbrev AllStand : Plan → List Given → Type 0
AllStand plan givens = (q : PeerNo) → q.0 < length plan.peers → (g : Given) × Stands plan givens q g

one_life : (plan : Plan) (givens : List Given) (p : PeerNo) (f : Given) → AllStand plan givens → AllByRecursion (Exchanged givens) plan.dials → p.0 < length plan.peers → Stands plan givens p f → IsLifeInRun plan (map bare givens) p (bare f)
one_life plan givens p f all exchanged below mine =
    let seat : Seat = seat_in plan p in
    let lives : List Finished = map bare givens in
    let took : PeerNo → Said = words_of (taken_from f.ends) in
    let legal : Legal (peer_in plan p) f.trace = legal_of plan p f mine.life in
    let same : SayTheSame took (said_to lives p) (neighbours plan p) = each_weaker (IsJoined plan p) (λ (q : PeerNo). took q ≡ said_to lives p q) (λ q joined. taken_is_said plan givens p q f (all q joined.0).0 mine (all q joined.0).1 (joined_back plan p q below joined) (joined_reach givens p q plan.dials joined.1 exchanged)) (neighbours plan p) (neighbours_joined plan p) in
    let handles : AllByRecursion (λ (q : PeerNo). Spell (bytes_of (took q)) (handled f.trace q)) (neighbours plan p) = subst (AllByRecursion (λ (q : PeerNo). Spell (bytes_of (took q)) (handled f.trace q))) (links_in plan p) mine.life.handles in
    let spelled : AllByRecursion (λ (q : PeerNo). Spell (bytes_of (said_to lives p q)) (handled f.trace q)) (neighbours plan p) = handles_same took (said_to lives p) f.trace (neighbours plan p) same handles in
    record {
      legal = legal;
      chosen = mine.life.legal;
      keeps = keeps_same seat took (said_to lives p) f.trace f.refused (subst (SayTheSame took (said_to lives p)) (sym (links_in plan p)) same) mine.life.keeps;
      meshes = mine.life.meshes;
      scores = mine.life.scores;
      exchanged = spelled;
      handled_is_sent = each_of_both (IsJoined plan p) (λ (q : PeerNo). Spell (bytes_of (said_to lives p q)) (handled f.trace q)) (λ (q : PeerNo). PutsNoBytes p (seat_in plan q).lines → joined_rpcs (handled f.trace q) ≡ joined_rpcs (sent (trace_of lives q) p)) (λ q joined. handled_was_sent plan givens p q f.trace (all q joined.0).0 (all q joined.0).1 (joined_back plan p q below joined)) (neighbours plan p) (neighbours_joined plan p) spelled;
      apart = deliveries_apart (peer_in plan p) f.trace legal;
    }

-- a whole life of each peer, and what each two neighbours exchanged, make a run
pub together : (plan : Plan) (givens : List Given) → AllZip (GivenLife plan) (numbers plan) givens → AllByRecursion (Exchanged givens) plan.dials → IsRun plan (map bare givens)
together plan givens lives exchanged =
    let all : AllStand plan givens = λ q below. let one = at_number (GivenLife plan) plan q givens below lives in (one.0, record { at = one.1; life = one.2 }) in
    each_by_number (GivenLife plan) (IsLifeInRun plan (map bare givens)) bare plan givens (λ p f below at life. one_life plan givens p f all exchanged below (record { at = at; life = life })) lives
