-- What is sent fits a frame by itself, and can be read back: each kind of RPC, and what is sent about a part of an RPC.
use Rattle.std.proofs.Common.{◌≡◌, ℕ, ◌+◌, ◌*◌, ◌≤◌, ◌<◌, ◌^◌, min, Bool, true, false, if◌then◌else◌, List, [], ◌∷◌, ◌++◌, length, map, Some, sym, ap, subst, ◌∙◌, append-nil, length-append, arith}
use Rattle.std.specs.List.{AllByRecursion}
use Rattle.std.proofs.lemmas.Bool.{le-leb}
use Rattle.std.proofs.lemmas.Bool.Decides.{nat_tests}
use Rattle.std.proofs.lemmas.Cmp.{nat_eq_equiv}
use Rattle.gs_base.specs.declared.names.PeerNo.{PeerNo}
use Rattle.gs_base.specs.declared.names.Topic.{Topic}
use Rattle.gs_base.specs.declared.names.Millis.{Millis}
use Rattle.gs_base.specs.declared.names.MsgId.{MsgId}
use Rattle.gs_base.specs.declared.control.IHave.{IHave}
use Rattle.gs_base.specs.declared.control.IWant.{IWant}
use Rattle.gs_base.specs.declared.rpc.Message.{Message}
use Rattle.gs_base.specs.declared.rpc.Rpc.{Rpc}
use Rattle.gs_rules.specs.declared.trace.Entry.{Entry}
use Rattle.gs_rules.specs.declared.trace.Effects.{Effects}
use Rattle.gs_base.specs.Names.{longest_topic, same_peer, topic_of, HasIdentifierLength, message_id, payload_of}
use Rattle.gs_base.specs.Rpcs.{announcement, publication, grafting, longest_backoff, most_identifiers, offering, passed_on, pruning, requesting}
use Rattle.gs_mesh.specs.Peers.{without as all_but}
use Rattle.gs_wire.specs.Varint.{varint}
use Rattle.gs_wire.specs.Records.{record_text, records_text}
use Rattle.gs_wire.specs.Fields.{bool_number, varint_record, len_record}
use Rattle.gs_wire.specs.Messages.{IsInMemory, body, sub_records}
use Rattle.gs_wire.specs.Codec.{codec}
use Rattle.gs_wire.proofs.Written.{varint_ten, records_text-single, len_text-length}
use Rattle.gs_wire.proofs.SentOn as sent_on
use Rattle.gs_rules.specs.Peers.{Peer}
use Rattle.gs_rules.specs.Tables.{Entries, joined}
use Rattle.gs_rules.specs.Meshes.{mesh}
use Rattle.gs_rules.specs.MeshRules.{graft_rule}
use Rattle.gs_rules.specs.Rules.{answers, asking, counted, explicit_listeners, have_rule, ids_in, to_each, together_with, want_rule, wanted, no_effects}
use Rattle.gs_rules.specs.Outcomes.{found_to_be, message_effects, message_rule}
use Rattle.gs_rules.specs.Modes.{SaysTheSame, sent_to, Follows, free}
use Rattle.gs_rules.specs.Legal.{Legal}
use Rattle.gs_base.specs.declared.verdict.Verdict.{Verdict}
use Rattle.gs_base.specs.declared.verdict.Verdict.TheVariants.{Accept, Reject, Ignore}
use Rattle.gs_rules.proofs.Judged.{of_a_message, of_a_request}
use Rattle.gs_rules.proofs.Offers.{wanted_few, wanted_long, what_is_offered}
use Rattle.gs_rules.proofs.Kept.{AllAlone, FitsAlone, answers_fit}
use Rattle.gs_rules.proofs.Ruled.{of_a_graft}
use Rattle.gs_rules.proofs.Topics.{joined_short}

-- ---- an announcement

-- how it is written
announcement_text : (subscribes : Bool) (t : Topic) → body (announcement subscribes t) ≡ record_text (len_record 1 (record_text (varint_record 1 (bool_number subscribes)) ++ record_text (len_record 2 t.0)))
announcement_text subscribes t =
    let flag : List ℕ = record_text (varint_record 1 (bool_number subscribes)) in
    let whole : List ℕ = records_text (sub_records (record { subscribe = Some subscribes; topic = Some t })) in
    let text : whole ≡ flag ++ record_text (len_record 2 t.0) = ap (λ (rest : List ℕ). flag ++ rest) (append-nil (record_text (len_record 2 t.0))) in
    records_text-single (len_record 1 whole) ∙ ap (λ (bytes : List ℕ). record_text (len_record 1 bytes)) text

-- a number takes ten bytes at most, and so does its tag
number_short : (field n : ℕ) → length (record_text (varint_record field n)) ≤ 20
number_short field n = omega (arith, length-append (varint (8 * field + 0)) (varint n), varint_ten (8 * field + 0), varint_ten n)

announcement_short : (subscribes : Bool) (t : Topic) → length t.0 ≤ 1024 → length (body (announcement subscribes t)) ≤ 1048576
announcement_short subscribes t short =
    let flag : List ℕ = record_text (varint_record 1 (bool_number subscribes)) in
    let name : List ℕ = record_text (len_record 2 t.0) in
    omega (arith, ap length (announcement_text subscribes t), len_text-length 1 (flag ++ name) (omega arith), varint_ten (length (flag ++ name)), length-append flag name, number_short 1 (bool_number subscribes), len_text-length 2 t.0 (omega arith), varint_ten (length t.0))

announcement_fits : (subscribes : Bool) (t : Topic) → length t.0 ≤ longest_topic → codec.fits (announcement subscribes t) ≡ true
announcement_fits subscribes t short = le-leb (length (body (announcement subscribes t))) 1048576 (announcement_short subscribes t short)

-- ---- what is sent

-- it fits a frame, and its numbers are of 64 bits, so that it is read back
abbrev pub IsWritten : Rpc → Type 0
IsWritten rpc = (codec.fits rpc ≡ true) × IsInMemory rpc

abbrev pub SendsWritten : List (PeerNo × Rpc) → Type 0
SendsWritten sends = AllByRecursion (λ x. IsWritten x.1) sends

abbrev pub AllWritten : List Entry → Type 0
AllWritten entries = AllByRecursion (λ e. SendsWritten e.effects.sends) entries

abbrev RpcsFit : List Rpc → Type 0
RpcsFit rpcs = AllByRecursion IsWritten rpcs

-- what fits a frame is short
pub short_body : (rpc : Rpc) → codec.fits rpc ≡ true → length (body rpc) < 2 ^ 64
short_body rpc fits = grind (arith, nat_tests)

pub announcement_written : (subscribes : Bool) (t : Topic) → length t.0 ≤ longest_topic → IsWritten (announcement subscribes t)
announcement_written subscribes t short =
    let fits = announcement_fits subscribes t short in
    (fits, record { body = short_body (announcement subscribes t) fits; control = tt })

pub publication_written : (t : Topic) (payload : List ℕ) → codec.fits (publication t payload) ≡ true → IsWritten (publication t payload)
publication_written t payload fits = (fits, record { body = short_body (publication t payload) fits; control = tt })

passed_on_written : (m : Message) → FitsAlone m → IsWritten (passed_on m)
passed_on_written m fits = (fits, record { body = short_body (passed_on m) fits; control = tt })

request_written : (ids : List (List ℕ)) → length ids ≤ most_identifiers → AllByRecursion HasIdentifierLength ids → IsWritten (requesting ids)
request_written ids few long =
    let fits : codec.fits (requesting ids) ≡ true = le-leb (length (body (requesting ids))) 1048576 (sent_on.request_fits ids few long) in
    (fits, record { body = short_body (requesting ids) fits; control = tt })

pub offer_written : (t : Topic) (ids : List (List ℕ)) → length t.0 ≤ longest_topic → length ids ≤ most_identifiers → AllByRecursion HasIdentifierLength ids → IsWritten (offering t ids)
offer_written t ids short few long =
    let fits : codec.fits (offering t ids) ≡ true = le-leb (length (body (offering t ids))) 1048576 (sent_on.offer_fits t ids short few long) in
    (fits, record { body = short_body (offering t ids) fits; control = tt })

pub graft_written : (t : Topic) → length t.0 ≤ longest_topic → IsWritten (grafting t)
graft_written t short =
    let fits : codec.fits (grafting t) ≡ true = le-leb (length (body (grafting t))) 1048576 (sent_on.graft_fits t short) in
    (fits, record { body = short_body (grafting t) fits; control = tt })

-- a backoff is cut to what a number of 64 bits holds
backoff_short : (seconds : ℕ) → min seconds longest_backoff < 2 ^ 64
backoff_short seconds = omega arith

pub prune_written : (t : Topic) (seconds : ℕ) → length t.0 ≤ longest_topic → IsWritten (pruning t seconds)
prune_written t seconds short =
    let fits : codec.fits (pruning t seconds) ≡ true = le-leb (length (body (pruning t seconds))) 1048576 (sent_on.prune_fits t seconds short) in
    (fits, record { body = short_body (pruning t seconds) fits; control = (backoff_short seconds, tt) })

pub each_fits : (rpc : Rpc) (qs : List PeerNo) → IsWritten rpc → SendsWritten (to_each rpc qs)
each_fits rpc [] fits = tt
each_fits rpc (q ∷ qs) fits = (fits, each_fits rpc qs fits)

-- what one receiver is sent, from what all are sent
received_fit : (q : PeerNo) (sends : List (PeerNo × Rpc)) → SendsWritten sends → RpcsFit (sent_to q sends)
received_fit q [] all = tt
received_fit q (x ∷ sends) all = with_first (same_peer x.0 q) x.1 (sent_to q sends) all.0 (received_fit q sends all.1)
  where
    with_first : (goes : Bool) (rpc : Rpc) (rpcs : List Rpc) → IsWritten rpc → RpcsFit rpcs → RpcsFit (if goes then rpc ∷ rpcs else rpcs)
    with_first true rpc rpcs fits rest = (fits, rest)
    with_first false rpc rpcs fits rest = rest

-- what all are sent, from what each receiver is sent
sends_fit : (sends : List (PeerNo × Rpc)) → ((q : PeerNo) → RpcsFit (sent_to q sends)) → SendsWritten sends
sends_fit [] all = tt
sends_fit (x ∷ sends) all = (first.0, sends_fit sends (λ q. without_first (same_peer x.0 q) x.1 (sent_to q sends) (all q)))
  where
    first : RpcsFit (x.1 ∷ sent_to x.0 sends)
    first = rw (nat_eq_equiv.refl x.0.0) at (all x.0)

    without_first : (goes : Bool) (rpc : Rpc) (rpcs : List Rpc) → RpcsFit (if goes then rpc ∷ rpcs else rpcs) → RpcsFit rpcs
    without_first true rpc rpcs fit = fit.1
    without_first false rpc rpcs fit = fit

-- what says the same fits as well
pub same_fits : (e : Entry) (x : Effects) → SaysTheSame e.effects x → SendsWritten x.sends → SendsWritten e.effects.sends
same_fits e x same fit = sends_fit e.effects.sends (λ q. subst RpcsFit (sym (same.sends q)) (received_fit q x.sends fit))

-- ---- one entry

-- a message is passed on as it came
pub message_fits : (p : Peer) (L : Entries) (at : Millis) (q : PeerNo) (m : Message) → FitsAlone m → SendsWritten (message_rule p L at q m).sends
message_fits p L at q m fits = of_a_message (λ (x : Effects). SendsWritten x.sends) p L at q m tt tt tt (λ unseen. new_fits)
  where
    new_fits : (v : Verdict) → SendsWritten (message_effects (mesh L (topic_of m)) (explicit_listeners p L (topic_of m)) q m (found_to_be (message_id (payload_of m)) v)).sends
    new_fits Accept = each_fits (passed_on m) (all_but q (together_with (explicit_listeners p L (topic_of m)) (mesh L (topic_of m)))) (passed_on_written m fits)
    new_fits Reject = tt
    new_fits Ignore = tt

-- a GRAFT is refused on a topic that is joined
pub refusal_fits : (p : Peer) (L : Entries) (at : Millis) (q : PeerNo) (t : Topic) → Legal p L → SendsWritten (graft_rule p L at q t).sends
refusal_fits p L at q t legal =
    of_a_graft (λ (x : Effects). SendsWritten x.sends) p L at q t tt (λ on. (told on, tt)) (λ on. (told on, tt)) (λ on ordinary late. tt)
  where
    told : joined L t ≡ true → IsWritten (pruning t p.params.timing.prune_backoff_s)
    told on = prune_written t p.params.timing.prune_backoff_s (joined_short p L t legal on)

-- an offer sends one request, or nothing
pub offer_fits : (p : Peer) (L : Entries) (q : PeerNo) (offer : IHave) (e : Entry) → Follows free (have_rule p L e.at q offer) tt e.effects tt → SendsWritten e.effects.sends
offer_fits p L q offer e effects =
    what_is_offered (λ (e : Entry). SendsWritten e.effects.sends) p L e.at q offer e
    (λ same. same_fits e no_effects same tt)
    (λ same. same_fits e (counted q) same tt)
    (λ place same. same_fits e (asking p e.at q (wanted p L e.at.0 q offer.ids) place) same (request_written (wanted p L e.at.0 q offer.ids) (wanted_few p L e.at.0 q offer.ids) (wanted_long p L e.at.0 q offer.ids), tt))
    effects

-- a request is answered with messages by themselves
answers_written : (q : PeerNo) (given : List (MsgId × Message)) → AllAlone given → SendsWritten (map (λ (x : MsgId × Message). (q, passed_on x.1)) given)
answers_written q [] all = tt
answers_written q (x ∷ given) all = (passed_on_written x.1 all.0, answers_written q given all.1)

pub request_fits : (p : Peer) (L : Entries) (at : Millis) (q : PeerNo) (request : IWant) → Legal p L → SendsWritten (want_rule p L at q request).sends
request_fits p L at q request legal =
    of_a_request (λ (x : Effects). SendsWritten x.sends) p L at q request tt
    (answers_written q (answers p L q [] (ids_in request.ids)) (answers_fit p L q [] (ids_in request.ids) legal))
