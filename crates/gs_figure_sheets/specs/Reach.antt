-- The sheets that say how many subscribers each message reached.
use Rattle.std.specs.Prelude.{ℕ, ◌*◌, ◌/◌, ◌==◌, min, if◌then◌else◌, codes, List, [], ◌∷◌, ◌++◌, length, map, Option, None, Some}
use Rattle.gs_base.specs.declared.verdict.Verdict.{Verdict}
use Rattle.gs_base.specs.declared.verdict.Verdict.TheVariants.{Accept, Reject, Ignore}
use Rattle.gs_plan.specs.declared.plan.Plan.{Plan}
use Rattle.gs_report.specs.Text.{name_of}
use Rattle.gs_reach.specs.declared.chosen.Chosen.{Chosen}
use Rattle.gs_reach.specs.declared.distribution.Distribution.{Distribution}
use Rattle.gs_reach.specs.declared.distribution.Within.{Within}
use Rattle.gs_reach.specs.declared.messages.MessageReach.{MessageReach}
use Rattle.gs_reach.specs.declared.spread.Spread.{Spread}
use Rattle.gs_reach.specs.Chosen.{accepted_pairs, chosen_messages, is_accepted}
use Rattle.gs_reach.specs.Reached.{distribution, missed, reached, spread}
use Rattle.gs_sheets.specs.declared.sheet.Sheet.{Sheet}
use Rattle.gs_sheets.specs.declared.sheet.Value.{Value}
use Rattle.gs_sheets.specs.declared.sheet.Value.TheVariants.{Name, Payload, Count, Share, Missing}
use Rattle.gs_figure_sheets.specs.Columns.{column_of, limit_columns, message_columns, spread_columns}

-- ---- values

-- the word for the result of validation of a payload
abbrev pub verdict_word : Verdict → List ℕ
verdict_word Accept = codes "accept"
verdict_word Reject = codes "reject"
verdict_word Ignore = codes "ignore"

-- a number that may be absent
abbrev pub count_or_none : Option ℕ → Value
count_or_none None = Missing
count_or_none (Some n) = Count n

-- a share that may be absent
abbrev pub share_or_none : Option ℕ → Value
share_or_none None = Missing
share_or_none (Some n) = Share n

-- a part of a number in hundredths of a per cent, rounded down: None if the number is 0
abbrev pub share_of : ℕ → ℕ → Option ℕ
share_of part all = if all == 0 then None else Some (min 10_000 (part * 10_000 / all))

-- ---- rows

-- what a message is: its topic, its payload, who published it, and the result of its validation
abbrev pub message_names : Plan → MessageReach → List Value
message_names plan m =
    Name m.publication.topic.0 ∷ Payload m.publication.payload ∷ Name (name_of plan m.publication.peer)
    ∷ Name (verdict_word m.verdict) ∷ []

-- how many subscribers it missed: None if validation does not accept it, because then it should reach nobody
abbrev pub missed_by : MessageReach → Option ℕ
missed_by m = if is_accepted m.verdict then Some (missed m.pairs) else None

-- how many peers published it, when, and how many subscribers could be reached, were reached and were missed
abbrev pub message_counts : MessageReach → List Value
message_counts m =
    Count m.publishers ∷ Count m.publication.at.0 ∷ Count (length m.pairs) ∷ Count (reached m.pairs)
    ∷ count_or_none (missed_by m) ∷ []

-- in how many rounds the first subscriber, half, 90% and all of them were reached
abbrev pub message_rounds : Spread → List Value
message_rounds s =
    count_or_none s.first ∷ count_or_none s.median ∷ count_or_none s.ninetieth ∷ count_or_none s.last ∷ []

unfoldable pub message_row : Plan → MessageReach → List Value
message_row plan m = message_names plan m ++ message_counts m ++ message_rounds (spread m.pairs)

-- an outcome, its limit of rounds if it has one, how many pairs have this outcome, and their share of all pairs
abbrev pub outcome_row : List ℕ → Value → ℕ → ℕ → List Value
outcome_row word limit part all = Name word ∷ limit ∷ Count part ∷ share_or_none (share_of part all) ∷ []

abbrev pub within_row : ℕ → Within → List Value
within_row all w = outcome_row (codes "reached") (Count w.limit) w.reached all

-- the pairs that were reached within each limit, the pairs that were not reached, and all pairs
unfoldable pub limit_rows : Distribution → List (List Value)
limit_rows d =
    map (within_row d.pairs) d.within
    ++ outcome_row (codes "missed") Missing d.missed d.pairs
    ∷ outcome_row (codes "all") Missing d.pairs d.pairs
    ∷ []

unfoldable pub spread_row : Distribution → List Value
spread_row d =
    Count d.pairs ∷ count_or_none d.spread.first ∷ count_or_none d.spread.median ∷ count_or_none d.spread.ninetieth
    ∷ count_or_none d.spread.ninety_ninth ∷ count_or_none d.spread.last ∷ []

-- ---- sheets

unfoldable pub message_sheet : Plan → List MessageReach → Sheet
message_sheet plan ms = record {
  name = codes "messages";
  title = codes "How far each message came";
  columns = map column_of message_columns;
  names = 4;
  rows = map (message_row plan) ms;
}

unfoldable pub limit_sheet : Distribution → Sheet
limit_sheet d = record {
  name = codes "within";
  title = codes "Within how many rounds, of all pairs of an accepted message and a subscriber";
  columns = map column_of limit_columns;
  names = 1;
  rows = limit_rows d;
}

unfoldable pub spread_sheet : Distribution → Sheet
spread_sheet d = record {
  name = codes "parts";
  title = codes "In how many rounds parts of all these pairs were reached";
  columns = map column_of spread_columns;
  names = 0;
  rows = spread_row d ∷ [];
}

-- the sheets for messages by some peers and for subscribers among some peers
abbrev pub sheets_among : Plan → Chosen → Chosen → List MessageReach → List Sheet
sheets_among plan by among ms =
    message_sheet plan (chosen_messages by among ms)
    ∷ limit_sheet (distribution (accepted_pairs by among ms))
    ∷ spread_sheet (distribution (accepted_pairs by among ms))
    ∷ []
