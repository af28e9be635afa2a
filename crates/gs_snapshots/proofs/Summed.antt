-- What the summaries of a peer's neighbours become by an entry more.
use Rattle.std.proofs.Common.{◌≡◌, ◌/◌, ℕ, Bool, true, false, if◌then◌else◌, List, [], ◌∷◌, ◌++◌, Option, None, Some, filter, flat_map, map, reverse, refl, sym, ap, ◌∙◌, append_assoc, append-nil}
use Rattle.std.specs.Prelude.{fold}
use Rattle.std.proofs.lemmas.List.{map-append, reverse-append}
use Rattle.std.proofs.lemmas.List.Elements.{filter-append}
use Rattle.std.proofs.lemmas.Grind.{flat_map-append}
use Rattle.gs_base.specs.declared.names.PeerNo.{PeerNo}
use Rattle.gs_plan.specs.declared.plan.Plan.{Plan}
use Rattle.gs_rules.specs.declared.fallen.Fallen.{Fallen}
use Rattle.gs_rules.specs.declared.trace.Entry.{Entry}
use Rattle.gs_rules.specs.FellAway.{fell_away}
use Rattle.gs_rules.specs.Tables.{Entries}
use Rattle.gs_seats.specs.Rounds.{peer_in}
use Rattle.gs_trace.specs.declared.wanted.RoundSpan.{RoundSpan}
use Rattle.gs_snapshots.specs.declared.moments.Moment.{Moment}
use Rattle.gs_snapshots.specs.declared.moments.Occasion.{Occasion}
use Rattle.gs_snapshots.specs.declared.snapshot.Snapshot.{Snapshot}
use Rattle.gs_snapshots.specs.declared.summaries.Summed.{Summed}
use Rattle.gs_snapshots.specs.declared.summary.Summary.{Summary}
use Rattle.gs_snapshots.specs.Moments.{moments, newest_moment, occasion_of, traces_so_far, with_trace}
use Rattle.gs_snapshots.specs.Noting.{with_each, with_fallen}
use Rattle.gs_snapshots.specs.Scores.{is_at_wanted_round}
use Rattle.gs_snapshots.specs.Summary.{summary_of}
use Rattle.gs_snapshots.specs.Summing.{summaries_in, with_moment, with_moments}
use Rattle.gs_snapshots.specs.TraceSummaries.{all_fallen, newest_fallen, snapshot_at, snapshots_of, summary_in}
use Rattle.gs_snapshots.specs.Wishes.{is_in_rounds}
use Rattle.gs_snapshots.proofs.Fronts.{moments_more}
use Rattle.gs_snapshots.proofs.Noted.{fallen_more, snapshot_more}

-- ---- lists of an entry more

-- the snapshots of an entry more
snapshots_more : (rounds : Option RoundSpan) (plan : Plan) (p : PeerNo) (e : Entry) (L : Entries) (q : PeerNo)
    → snapshots_of rounds plan p (e ∷ L) q
    ≡ snapshots_of rounds plan p L q ++ map (snapshot_at plan p q) (filter (is_at_wanted_round rounds) (newest_moment plan p (e ∷ L)))
snapshots_more rounds plan p e L q =
    let test = is_at_wanted_round rounds in
    ap (λ (ms : List (Moment × Entries)). map (snapshot_at plan p q) (filter test ms)) (moments_more plan p e L)
    ∙ ap (map (snapshot_at plan p q)) (filter-append test (moments plan p L) (newest_moment plan p (e ∷ L)))
    ∙ map-append (snapshot_at plan p q) (filter test (moments plan p L)) (filter test (newest_moment plan p (e ∷ L)))

-- what came to nothing with that of an entry more
all_fallen_more : (rounds : Option RoundSpan) (plan : Plan) (p : PeerNo) (e : Entry) (L : Entries)
    → all_fallen rounds plan p (e ∷ L) ≡ all_fallen rounds plan p L ++ newest_fallen rounds plan p (e ∷ L)
all_fallen_more rounds plan p e L =
    ap (flat_map (newest_fallen rounds plan p)) (reverse-append ((e ∷ L) ∷ []) (traces_so_far L))
    ∙ flat_map-append (newest_fallen rounds plan p) (reverse (traces_so_far L)) ((e ∷ L) ∷ [])
    ∙ ap (λ (more : List Fallen). all_fallen rounds plan p L ++ more) (append-nil (newest_fallen rounds plan p (e ∷ L)))

-- the moment of an entry is in a round that is wanted where the entry is
of_wanted : (rounds : Option RoundSpan) (plan : Plan) (p : PeerNo) (e : Entry) (L : Entries) (o : Option Occasion) → is_in_rounds rounds (e.at.0 / plan.round_ms) ≡ true
    → filter (is_at_wanted_round rounds) (with_trace plan p e L o) ≡ with_trace plan p e L o
of_wanted rounds plan p e L None is = refl
of_wanted rounds plan p e L (Some o) is = ap (λ (b : Bool). if b then with_trace plan p e L (Some o) else []) is

of_unwanted : (rounds : Option RoundSpan) (plan : Plan) (p : PeerNo) (e : Entry) (L : Entries) (o : Option Occasion) → is_in_rounds rounds (e.at.0 / plan.round_ms) ≡ false
    → filter (is_at_wanted_round rounds) (with_trace plan p e L o) ≡ []
of_unwanted rounds plan p e L None is = refl
of_unwanted rounds plan p e L (Some o) is = ap (λ (b : Bool). if b then with_trace plan p e L (Some o) else []) is

-- ---- summaries of an entry more

-- an entry of another round changes nothing
pub unwanted_more : (x : Summed) (qs : List PeerNo) (e : Entry) (L : Entries) → is_in_rounds x.rounds (e.at.0 / x.plan.now.round_ms) ≡ false
    → summaries_in x qs L ≡ summaries_in x qs (e ∷ L)
unwanted_more x qs e L is =
    let plan = x.plan.now in
    let p = x.peer in
    let snapshots : (q : PeerNo) → snapshots_of x.rounds plan p L q ≡ snapshots_of x.rounds plan p (e ∷ L) q =
    λ q. sym (
    snapshots_more x.rounds plan p e L q
    ∙ ap (λ (ms : List (Moment × Entries)). snapshots_of x.rounds plan p L q ++ map (snapshot_at plan p q) ms) (of_unwanted x.rounds plan p e L (occasion_of e.event) is)
    ∙ append-nil (snapshots_of x.rounds plan p L q)
    ) in
    let fallen : all_fallen x.rounds plan p L ≡ all_fallen x.rounds plan p (e ∷ L) = sym (
    all_fallen_more x.rounds plan p e L
    ∙ ap (λ (b : Bool). all_fallen x.rounds plan p L ++ (if b then fell_away (peer_in plan p) L e.at e.event else [])) is
    ∙ append-nil (all_fallen x.rounds plan p L)
    ) in
    λ i. map (λ (q : PeerNo). summary_of plan.params.thresholds q (snapshots q i) (fallen i)) qs

-- by what was said of each neighbour before, and by all that came to nothing
abbrev of_lists : Plan → (PeerNo → List Snapshot) → List Fallen → List PeerNo → List Summary
of_lists plan ss all qs = map (λ (q : PeerNo). summary_of plan.params.thresholds q (ss q) all) qs

one_moment : (plan : Plan) (p : PeerNo) (m : Moment × Entries) (ss : PeerNo → List Snapshot) (all : List Fallen) (qs : List PeerNo)
    → map (with_moment plan p m) (of_lists plan ss all qs) ≡ of_lists plan (λ q. ss q ++ snapshot_at plan p q m ∷ []) all qs
one_moment plan p m ss all [] = refl
one_moment plan p m ss all (q ∷ qs) = λ i.
    snapshot_more plan.params.thresholds q (ss q) (snapshot_at plan p q m) all i ∷ one_moment plan p m ss all qs i

each_moment : (x : Summed) (ms : List (Moment × Entries)) (ss : PeerNo → List Snapshot) (all : List Fallen) (qs : List PeerNo)
    → with_moments x ms (of_lists x.plan.now ss all qs) ≡ of_lists x.plan.now (λ q. ss q ++ map (snapshot_at x.plan.now x.peer q) ms) all qs
each_moment x [] ss all qs = λ i. of_lists x.plan.now (λ q. sym (append-nil (ss q)) i) all qs
each_moment x (m ∷ ms) ss all qs =
    let plan = x.plan.now in
    ap (with_moments x ms) (one_moment plan x.peer m ss all qs)
    ∙ each_moment x ms (λ q. ss q ++ snapshot_at plan x.peer q m ∷ []) all qs
    ∙ (λ i. of_lists plan (λ q. append_assoc (ss q) (snapshot_at plan x.peer q m ∷ []) (map (snapshot_at plan x.peer q) ms) i) all qs)

one_fallen : (plan : Plan) (ss : PeerNo → List Snapshot) (all : List Fallen) (fallen : Fallen) (qs : List PeerNo)
    → map (with_fallen fallen) (of_lists plan ss all qs) ≡ of_lists plan ss (all ++ fallen ∷ []) qs
one_fallen plan ss all fallen [] = refl
one_fallen plan ss all fallen (q ∷ qs) = λ i.
    fallen_more plan.params.thresholds q (ss q) all fallen i ∷ one_fallen plan ss all fallen qs i

each_fallen : (plan : Plan) (ss : PeerNo → List Snapshot) (all more : List Fallen) (qs : List PeerNo)
    → with_each more (of_lists plan ss all qs) ≡ of_lists plan ss (all ++ more) qs
each_fallen plan ss all [] qs = ap (λ (falls : List Fallen). of_lists plan ss falls qs) (sym (append-nil all))
each_fallen plan ss all (fallen ∷ more) qs =
    ap (with_each more) (one_fallen plan ss all fallen qs)
    ∙ each_fallen plan ss (all ++ fallen ∷ []) more qs
    ∙ ap (λ (falls : List Fallen). of_lists plan ss falls qs) (append_assoc all (fallen ∷ []) more)

-- an entry of a round that is wanted
pub wanted_more : (x : Summed) (qs : List PeerNo) (e : Entry) (L : Entries) → is_in_rounds x.rounds (e.at.0 / x.plan.now.round_ms) ≡ true
    → with_each (fell_away (peer_in x.plan.now x.peer) L e.at e.event) (with_moments x (newest_moment x.plan.now x.peer (e ∷ L)) (summaries_in x qs L))
    ≡ summaries_in x qs (e ∷ L)
wanted_more x qs e L is =
    let plan = x.plan.now in
    let p = x.peer in
    let ms = newest_moment plan p (e ∷ L) in
    let fallen = fell_away (peer_in plan p) L e.at e.event in
    let before = all_fallen x.rounds plan p L in
    let snapshots : (q : PeerNo) → snapshots_of x.rounds plan p L q ++ map (snapshot_at plan p q) ms ≡ snapshots_of x.rounds plan p (e ∷ L) q =
    λ q. sym (
    snapshots_more x.rounds plan p e L q
    ∙ ap (λ (all : List (Moment × Entries)). snapshots_of x.rounds plan p L q ++ map (snapshot_at plan p q) all) (of_wanted x.rounds plan p e L (occasion_of e.event) is)
    ) in
    let falls : before ++ fallen ≡ all_fallen x.rounds plan p (e ∷ L) = sym (
    all_fallen_more x.rounds plan p e L
    ∙ ap (λ (b : Bool). before ++ (if b then fallen else [])) is
    ) in
    ap (with_each fallen) (each_moment x ms (snapshots_of x.rounds plan p L) before qs)
    ∙ each_fallen plan (λ q. snapshots_of x.rounds plan p L q ++ map (snapshot_at plan p q) ms) before fallen qs
    ∙ (λ i. of_lists plan (λ q. snapshots q i) (falls i) qs)
