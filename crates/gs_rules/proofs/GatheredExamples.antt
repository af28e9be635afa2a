-- Worked rows of what is gathered for a neighbour, and of what cuts it. In each trace the newest entry comes first.
use Rattle.std.proofs.Common.{◌≡◌, ℕ, true, List, [], ◌∷◌, ◌++◌, length, map, None, Some, refl}
use Rattle.std.specs.Prelude.{nat_le}
use Rattle.gs_base.specs.declared.names.PeerNo.{PeerNo}
use Rattle.gs_base.specs.declared.names.Topic.{Topic}
use Rattle.gs_base.specs.declared.rpc.Rpc.{Rpc}
use Rattle.gs_base.specs.Codecs.{Codec}
use Rattle.gs_base.specs.Rpcs.{announcement, grafting}
use Rattle.gs_wire.specs.Codec.{codec}
use Rattle.gs_wire.specs.Joining.{joined_rpc}
use Rattle.gs_wire.specs.Messages.{body}
use Rattle.gs_wire.specs.Varint.{varint_within}
use Rattle.gs_rules.specs.declared.event.Event.{Event}
use Rattle.gs_rules.specs.declared.event.Event.TheVariants.{RoundEnd, Shut, Step, Own, Lost}
use Rattle.gs_rules.specs.declared.event.BeatStep.TheVariants.{MeshBeat}
use Rattle.gs_plan.specs.declared.plan.Act.TheVariants.{HangUp, Raw, Subscribe}
use Rattle.gs_rules.specs.declared.event.Loss.TheVariants.{Fault, Gone}
use Rattle.gs_rules.specs.declared.trace.Entry.{Entry}
use Rattle.gs_rules.specs.Rules.{no_effects}
use Rattle.gs_rules.specs.Saying.{Byte, EndOf, Close, Said, gathered, out}

-- ---- what is sent

abbrev q : PeerNo
q = record { 0 = 1 }

abbrev other : PeerNo
other = record { 0 = 2 }

abbrev news : Topic
news = record { 0 = 0x6e ∷ 0x65 ∷ 0x77 ∷ 0x73 ∷ [] }

abbrev announced : Rpc
announced = announcement true news

abbrev grafted : Rpc
grafted = grafting news

abbrev entry : Event → Entry
entry event = record { at = record { 0 = 0 }; event = event; effects = no_effects }

-- an entry that sends one RPC to a neighbour
abbrev sends : Event → PeerNo → Rpc → Entry
sends event p rpc = record (entry event) { effects = record no_effects { sends = (p, rpc) ∷ [] } }

abbrev announces : Entry
announces = sends (Own (Subscribe news)) q announced

abbrev grafts : Entry
grafts = sends (Step (MeshBeat news)) q grafted

-- the frame of the announcement, the frame of the GRAFT, and the frame of both
abbrev announced_frame : List ℕ
announced_frame = 0x0a ∷ 0x0a ∷ 0x08 ∷ 0x08 ∷ 0x01 ∷ 0x12 ∷ 0x04 ∷ 0x6e ∷ 0x65 ∷ 0x77 ∷ 0x73 ∷ []

abbrev grafted_frame : List ℕ
grafted_frame = 0x0a ∷ 0x1a ∷ 0x08 ∷ 0x1a ∷ 0x06 ∷ 0x0a ∷ 0x04 ∷ 0x6e ∷ 0x65 ∷ 0x77 ∷ 0x73 ∷ []

abbrev joined_frame : List ℕ
joined_frame =
    0x14
    ∷ 0x0a ∷ 0x08 ∷ 0x08 ∷ 0x01 ∷ 0x12 ∷ 0x04 ∷ 0x6e ∷ 0x65 ∷ 0x77 ∷ 0x73
    ∷ 0x1a ∷ 0x08 ∷ 0x1a ∷ 0x06 ∷ 0x0a ∷ 0x04 ∷ 0x6e ∷ 0x65 ∷ 0x77 ∷ 0x73 ∷ []

abbrev bytes : List ℕ → Said
bytes bs = map Byte bs

-- ---- a round

two_sends_of_a_round_are_one_frame : out codec (entry (RoundEnd 0) ∷ grafts ∷ announces ∷ []) q ≡ bytes joined_frame ++ EndOf 0 ∷ []
unfolding varint_within
two_sends_of_a_round_are_one_frame = refl

two_sends_of_an_entry_are_one_frame : out codec (record (entry (RoundEnd 0)) { effects = record no_effects { sends = (q, announced) ∷ (q, grafted) ∷ [] } } ∷ []) q ≡ bytes joined_frame ++ EndOf 0 ∷ []
unfolding varint_within
two_sends_of_an_entry_are_one_frame = refl

nothing_gathered_makes_no_frame : out codec (entry (RoundEnd 0) ∷ []) q ≡ EndOf 0 ∷ []
nothing_gathered_makes_no_frame = refl

nothing_is_said_before_a_cut : out codec (grafts ∷ announces ∷ []) q ≡ []
unfolding varint_within
nothing_is_said_before_a_cut = refl

-- the announcement, and the GRAFT after it
two_sends_are_gathered : gathered codec (grafts ∷ announces ∷ []) q ≡ Some (joined_rpc announced grafted)
unfolding varint_within
two_sends_are_gathered = refl

nothing_is_gathered_after_a_round : gathered codec (entry (RoundEnd 0) ∷ announces ∷ []) q ≡ None
nothing_is_gathered_after_a_round = refl

a_send_after_a_cut_begins_anew : out codec (entry (RoundEnd 1) ∷ grafts ∷ entry (RoundEnd 0) ∷ announces ∷ []) q ≡ bytes announced_frame ++ EndOf 0 ∷ bytes grafted_frame ++ EndOf 1 ∷ []
unfolding varint_within
a_send_after_a_cut_begins_anew = refl

-- ---- other cuts

it_goes_out_ahead_of_bytes_as_they_are : out codec (entry (Own (Raw q (5 ∷ []))) ∷ announces ∷ []) q ≡ bytes announced_frame ++ Byte 5 ∷ []
unfolding varint_within
it_goes_out_ahead_of_bytes_as_they_are = refl

what_is_sent_after_bytes_goes_after_them : out codec (entry (RoundEnd 0) ∷ grafts ∷ entry (Own (Raw q (5 ∷ []))) ∷ announces ∷ []) q ≡ bytes announced_frame ++ Byte 5 ∷ bytes grafted_frame ++ EndOf 0 ∷ []
unfolding varint_within
what_is_sent_after_bytes_goes_after_them = refl

it_goes_out_to_whoever_has_closed : out codec (entry (Lost q Gone) ∷ announces ∷ []) q ≡ bytes announced_frame ++ Close ∷ []
unfolding varint_within
it_goes_out_to_whoever_has_closed = refl

it_goes_out_after_a_fault : out codec (entry (Lost q Fault) ∷ announces ∷ []) q ≡ bytes announced_frame ++ Close ∷ []
unfolding varint_within
it_goes_out_after_a_fault = refl

it_goes_out_ahead_of_a_hang_up : out codec (entry (Own (HangUp q)) ∷ announces ∷ []) q ≡ bytes announced_frame ++ Close ∷ []
unfolding varint_within
it_goes_out_ahead_of_a_hang_up = refl

it_goes_out_ahead_of_the_shut : out codec (entry Shut ∷ announces ∷ []) q ≡ bytes announced_frame ++ Close ∷ []
unfolding varint_within
it_goes_out_ahead_of_the_shut = refl

nothing_is_gathered_for_whoever_is_lost : gathered codec (grafts ∷ entry (Own (HangUp q)) ∷ announces ∷ []) q ≡ None
nothing_is_gathered_for_whoever_is_lost = refl

-- ---- what does not fit

-- a body of at most `most` bytes fits
abbrev fitting : ℕ → Codec
fitting most = record { frame = codec.frame; fits = λ rpc. nat_le (length (body rpc)) most }

-- 20 bytes: 10 of the announcement and 10 of the GRAFT
what_just_fits_is_joined : gathered (fitting 20) (grafts ∷ announces ∷ []) q ≡ Some (joined_rpc announced grafted)
unfolding varint_within
what_just_fits_is_joined = refl

the_first_goes_out_where_both_do_not_fit : out (fitting 19) (grafts ∷ announces ∷ []) q ≡ bytes announced_frame
unfolding varint_within
the_first_goes_out_where_both_do_not_fit = refl

the_second_is_gathered_then : gathered (fitting 19) (grafts ∷ announces ∷ []) q ≡ Some grafted
unfolding varint_within
the_second_is_gathered_then = refl

-- two announcements go out, and the third is joined with the GRAFT
and_on_from_there : out (fitting 20) (entry (RoundEnd 0) ∷ grafts ∷ announces ∷ announces ∷ announces ∷ []) q ≡ bytes (0x14 ∷ 0x0a ∷ 0x08 ∷ 0x08 ∷ 0x01 ∷ 0x12 ∷ 0x04 ∷ 0x6e ∷ 0x65 ∷ 0x77 ∷ 0x73 ∷ 0x0a ∷ 0x08 ∷ 0x08 ∷ 0x01 ∷ 0x12 ∷ 0x04 ∷ 0x6e ∷ 0x65 ∷ 0x77 ∷ 0x73 ∷ []) ++ bytes joined_frame ++ EndOf 0 ∷ []
unfolding varint_within
and_on_from_there = refl

-- ---- another neighbour

what_another_is_sent_changes_nothing : gathered codec (sends (Step (MeshBeat news)) other grafted ∷ announces ∷ []) q ≡ Some announced
what_another_is_sent_changes_nothing = refl

each_is_sent_its_own : out codec (entry (RoundEnd 0) ∷ sends (Step (MeshBeat news)) other grafted ∷ announces ∷ []) other ≡ bytes grafted_frame ++ EndOf 0 ∷ []
unfolding varint_within
each_is_sent_its_own = refl

bytes_for_another_are_no_cut : gathered codec (entry (Own (Raw other (5 ∷ []))) ∷ announces ∷ []) q ≡ Some announced
bytes_for_another_are_no_cut = refl

the_loss_of_another_is_no_cut : gathered codec (entry (Own (HangUp other)) ∷ announces ∷ []) q ≡ Some announced
the_loss_of_another_is_no_cut = refl
