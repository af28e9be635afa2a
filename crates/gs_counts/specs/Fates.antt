-- What became of a message that was heard, according to its entry and to the trace before it.
use Rattle.std.specs.Prelude.{ℕ, Bool, true, false, not, if◌then◌else◌, List, [], ◌∷◌, Option, Some, None, unwrap_or}
use Rattle.std.specs.List.{list_any}
use Rattle.std.specs.Map.{lookup}
use Rattle.gs_base.specs.declared.names.MsgId.{MsgId}
use Rattle.gs_base.specs.declared.rpc.Message.{Message}
use Rattle.gs_base.specs.Names.{is_signed, message_id, payload_of, same_id, same_topic, topic_of}
use Rattle.gs_base.specs.declared.verdict.Verdict.{Verdict}
use Rattle.gs_base.specs.declared.verdict.Verdict.TheVariants as verdicts
use Rattle.gs_base.specs.declared.mark.Mark.{Mark}
use Rattle.gs_base.specs.declared.mark.Mark.TheVariants as marks
use Rattle.gs_rules.specs.Outcomes.{verdict_on}
use Rattle.gs_rules.specs.Peers.{Peer, seen_ttl}
use Rattle.gs_rules.specs.Tables.{Entries, Sighting, joined, last_seen, seen}
use Rattle.gs_counts.specs.declared.fate.Fate.{Fate}
use Rattle.gs_counts.specs.declared.fate.Fate.TheVariants as fates
use Rattle.gs_counts.specs.declared.kind.Kind.{Kind}
use Rattle.gs_counts.specs.declared.kind.Kind.TheVariants as kinds
use Rattle.gs_counts.specs.declared.memory.Memory.{Memory}
use Rattle.gs_counts.specs.declared.verdicts.Verdicts.{Verdicts}

-- ---- what an entry shows

-- a message that validation ignores is neither accepted nor held against its sender
abbrev pub found_so : Verdict → Option Fate
found_so verdicts.Ignore = Some fates.Ignored
found_so verdicts.Accept = None
found_so verdicts.Reject = None

-- What a mark of a message's entry shows about what became of it. Each mark is named here, so that a new one must be decided on.
abbrev pub shown_by : Mark → Option Fate
shown_by (marks.First q t id) = Some fates.New
shown_by (marks.Invalid q t) = Some fates.Rejected
shown_by (marks.Seen id verdict) = found_so verdict
shown_by (marks.Near q t id) = Some fates.Duplicate
shown_by (marks.Deficit q t z) = None
shown_by (marks.Misbehaviour q) = None
shown_by (marks.Cached id t) = None
shown_by (marks.Answered q id) = None
shown_by (marks.Offered q) = None
shown_by (marks.Asked q n) = None
shown_by (marks.Grafted q t) = None
shown_by (marks.Pruned q t) = None
shown_by (marks.Fanned q t) = None
shown_by (marks.Unfanned q t) = None
shown_by (marks.Backoff q t end) = None
shown_by (marks.Published t) = None

-- what these marks show: the first one that shows anything counts
abbrev pub shown : List Mark → Option Fate
shown [] = None
shown (mark ∷ later) = elim (shown_by mark) [ None ↦ shown later | Some fate ↦ Some fate ]

-- ---- what the trace before it says

abbrev pub is_ignore : Verdict → Bool
is_ignore verdicts.Ignore = true
is_ignore verdicts.Accept = false
is_ignore verdicts.Reject = false

abbrev pub ignored_so : Option Sighting → Bool
ignored_so None = false
ignored_so (Some s) = is_ignore s.verdict

-- the message of this identifier was ignored when it was last seen
abbrev pub last_ignored : Entries → MsgId → Bool
last_ignored L id = ignored_so (last_seen L id)

-- ---- what became of it

-- a message that shows nothing came before: it was ignored then, or accepted
abbrev pub again : Bool → Fate
again true = fates.Ignored
again false = fates.Duplicate

-- what became of a message, by whether the peer is subscribed to its topic, and by which identifiers were ignored
abbrev pub fate : Bool → (MsgId → Bool) → Message → List Mark → Fate
fate is_joined was_ignored m marks =
    if not is_joined then fates.OffTopic
    else if is_signed m then fates.Signed
    else unwrap_or (shown marks) (again (was_ignored (message_id (payload_of m))))

abbrev pub fate_after : Entries → Message → List Mark → Fate
fate_after L m marks = fate (joined L (topic_of m)) (last_ignored L) m marks

-- ---- what it counts as

abbrev pub kind_of_fate : Fate → Kind
kind_of_fate fates.New = kinds.New
kind_of_fate fates.Duplicate = kinds.Duplicates
kind_of_fate fates.Ignored = kinds.Ignored
kind_of_fate fates.Rejected = kinds.Rejected
kind_of_fate fates.Signed = kinds.Signed
kind_of_fate fates.OffTopic = kinds.OffTopic

abbrev pub payload_kind : Fate → Kind
payload_kind fates.New = kinds.PayloadBytesNew
payload_kind fates.Duplicate = kinds.PayloadBytesAgain
payload_kind fates.Ignored = kinds.PayloadBytesAgain
payload_kind fates.Rejected = kinds.PayloadBytesAgain
payload_kind fates.Signed = kinds.PayloadBytesAgain
payload_kind fates.OffTopic = kinds.PayloadBytesAgain

-- ---- identifiers that are kept

-- the message of this identifier is kept as ignored when it was last seen
abbrev pub was_ignored : Verdicts → MsgId → Bool
was_ignored v id = unwrap_or (lookup (same_id id) v.ignored.entries) false

-- what becomes of a message by what is known about the trace before it
abbrev pub known_fate : Memory → Message → List Mark → Fate
known_fate memory m marks =
    fate (list_any (same_topic (topic_of m)) memory.meshes.topics.items) (was_ignored memory.verdicts) m marks

-- ---- by the rule

-- what becomes of a message that had this verdict recently
abbrev pub copy_fate : Verdict → Fate
copy_fate verdicts.Accept = fates.Duplicate
copy_fate verdicts.Reject = fates.Rejected
copy_fate verdicts.Ignore = fates.Ignored

-- what becomes of a message that was not seen recently and has this verdict now
abbrev pub first_fate : Verdict → Fate
first_fate verdicts.Accept = fates.New
first_fate verdicts.Reject = fates.Rejected
first_fate verdicts.Ignore = fates.Ignored

abbrev pub fate_by : Option Verdict → Verdict → Fate
fate_by None verdict = first_fate verdict
fate_by (Some lately) verdict = copy_fate lately

-- what the rule for messages makes of a message that comes at a moment
abbrev pub ruled_fate : Peer → Entries → ℕ → Message → Fate
ruled_fate p L at m =
    if not (joined L (topic_of m)) then fates.OffTopic
    else if is_signed m then fates.Signed
    else fate_by (seen (seen_ttl p) L (message_id (payload_of m)) at) (verdict_on p.params.topics m)
