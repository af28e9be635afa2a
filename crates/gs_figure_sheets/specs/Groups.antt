-- The sheet of what passes from group to group.
use Rattle.std.specs.Prelude.{ℕ, Bool, false, ◌==◌, if◌then◌else◌, codes, List, [], ◌∷◌, ◌++◌, length, map, Option}
use Rattle.std.specs.List.{flat_map}
use Rattle.gs_counts.specs.declared.kind.Kind.TheVariants.{RpcsSent, BytesSent}
use Rattle.gs_counts.specs.declared.run.LinkCounts.{LinkCounts}
use Rattle.gs_counts.specs.declared.span.Span.{Span}
use Rattle.gs_opinions.specs.declared.opinion.Lowest.{Lowest}
use Rattle.gs_opinions.specs.declared.run.PairOpinion.{PairOpinion}
use Rattle.gs_reach.specs.declared.chosen.Chosen.{Chosen}
use Rattle.gs_reach.specs.declared.chosen.Chosen.TheVariants.{Any, Only}
use Rattle.gs_reach.specs.declared.messages.MessageReach.{MessageReach}
use Rattle.gs_reach.specs.declared.pairs.Pair.{Pair}
use Rattle.gs_reach.specs.declared.spread.Spread.{Spread}
use Rattle.gs_reach.specs.Chosen.{accepted_pairs}
use Rattle.gs_reach.specs.Reached.{missed, reached, spread}
use Rattle.gs_sheets.specs.declared.sheet.Sheet.{Sheet}
use Rattle.gs_sheets.specs.declared.sheet.Value.{Value}
use Rattle.gs_sheets.specs.declared.sheet.Value.TheVariants.{Name, Count, Missing}
use Rattle.gs_figure_sheets.specs.declared.groups.Dealings.{Dealings}
use Rattle.gs_figure_sheets.specs.declared.party.Party.{Party}
use Rattle.gs_figure_sheets.specs.declared.standing.Standing.{Standing}
use Rattle.gs_figure_sheets.specs.Between.{lowest_between, over_between, places_between, span_between}
use Rattle.gs_figure_sheets.specs.Columns.{column_of, group_columns}
use Rattle.gs_figure_sheets.specs.Reach.{count_or_none, share_of, share_or_none}
use Rattle.gs_figure_sheets.specs.Rows.{lowest_in, moment_of, score_of, score_or_none}

-- the facts that the rows of groups need
pub record Dealt : Type 0 where
  pub messages : List MessageReach
  pub links : List LinkCounts
  pub peers : List Standing
  pub opinions : List PairOpinion

abbrev pub dealt_of : Dealings → Dealt
dealt_of d = record { messages = d.messages.now; links = d.links.now; peers = d.peers.now; opinions = d.opinions.now }

-- how many subscribers could be reached, were reached and were missed, and in how many rounds parts of them were reached
abbrev pub pair_values : List Pair → List Value
pair_values pairs =
    Count (length pairs) ∷ Count (reached pairs) ∷ Count (missed pairs)
    ∷ share_or_none (share_of (reached pairs) (length pairs)) ∷ []

abbrev pub spread_values : Spread → List Value
spread_values s = count_or_none s.median ∷ count_or_none s.ninetieth ∷ count_or_none s.last ∷ []

-- no peer is chosen
abbrev pub is_nobody : Chosen → Bool
is_nobody Any = false
is_nobody (Only peers) = length peers == 0

-- a count of what these peers did: missing if there is no peer, because then not even a 0 is known
abbrev pub count_by : Chosen → ℕ → Value
count_by by n = if is_nobody by then Missing else Count n

-- what goes over links from one group to another
abbrev pub sent_values : List LinkCounts → Party → Party → List Value
sent_values links from to =
    count_by from.told (over_between from.told to.peers RpcsSent links)
    ∷ count_by from.told (over_between from.told to.peers BytesSent links) ∷ []

-- how many places another group holds in the meshes of one group, and how many places those meshes have in all
abbrev pub mesh_values : List Standing → Party → Party → List Value
mesh_values peers from to =
    count_by from.told (places_between from.told to.peers peers)
    ∷ count_by from.told (places_between from.told Any peers) ∷ []

-- the lowest score that one group gives another at the end, and over the run
abbrev pub score_values : Option Span → Option Lowest → List Value
score_values scores lowest =
    score_or_none (lowest_in scores) ∷ score_or_none (score_of lowest) ∷ count_or_none (moment_of lowest) ∷ []

-- the pairs of a message that one group published first, and a subscriber in another
abbrev pub pairs_between : Party → Party → List MessageReach → List Pair
pairs_between from to messages = accepted_pairs from.peers to.told messages

abbrev pub reach_values : List MessageReach → Party → Party → List Value
reach_values messages from to =
    pair_values (pairs_between from to messages) ++ spread_values (spread (pairs_between from to messages))

abbrev pub name_values : Party → Party → List Value
name_values from to = Name from.name ∷ Name to.name ∷ []

unfoldable pub group_row : Dealt → Party → Party → List Value
group_row d from to =
    name_values from to
    ++ reach_values d.messages from to
    ++ sent_values d.links from to
    ++ mesh_values d.peers from to
    ++ score_values (span_between from.told to.peers d.peers) (lowest_between from.told to.peers d.opinions)

-- the rows from one group to each group
abbrev pub rows_from : Dealt → List Party → Party → List (List Value)
rows_from d parties from = map (group_row d from) parties

abbrev pub group_rows : Dealt → List Party → List (List Value)
group_rows d parties = flat_map (rows_from d parties) parties

unfoldable pub group_sheet : Dealt → List Party → Sheet
group_sheet d parties = record {
  name = codes "groups";
  title = codes "From group to group";
  columns = map column_of group_columns;
  names = 2;
  rows = group_rows d parties;
}

-- the sheet of groups, if there are groups
abbrev pub group_pages : Dealt → List Party → List Sheet
group_pages d [] = []
group_pages d (first ∷ more) = group_sheet d (first ∷ more) ∷ []
