-- How peers are chosen by their names.
use Rattle.std.specs.Prelude.{ℕ, Bool, false, ◌&&◌, ◌||◌, ◌==◌, List, [], ◌∷◌, filter, length, Option, None, Some}
use Rattle.std.specs.List.{list_any, slice_split}
use Rattle.gs_base.specs.declared.names.PeerNo.{PeerNo}
use Rattle.gs_plan.specs.declared.plan.Plan.{Plan}
use Rattle.gs_report.specs.Text.{name_of}
use Rattle.gs_report.specs.declared.report.Report.{Report}
use Rattle.gs_reach.specs.Messages.{numbers_of}
use Rattle.gs_reach.specs.declared.chosen.Chosen.{Chosen}
use Rattle.gs_reach.specs.declared.chosen.Chosen.TheVariants as chosen
use Rattle.gs_figure_sheets.specs.declared.choice.Choice.{Choice}
use Rattle.gs_figure_sheets.specs.declared.choice.Choice.TheVariants.{Any, Named}

-- the text that names the peers of a choice
abbrev pub spelled : Choice → Option (List ℕ)
spelled Any = None
spelled (Named words) = Some words.now

-- a word that is only a `*`
abbrev pub is_star : List ℕ → Bool
is_star [] = false
is_star (first ∷ rest) = first == 42 && length rest == 0

-- a word equals a name, or ends with a `*` that stands for the rest of the name
abbrev pub fits : List ℕ → List ℕ → Bool
fits [] name = length name == 0
fits (first ∷ rest) [] = is_star (first ∷ rest)
fits (first ∷ rest) (byte ∷ more) = is_star (first ∷ rest) || (first == byte && fits rest more)

-- a name matches one of several words, which are separated by commas
abbrev pub is_named : List ℕ → List ℕ → Bool
is_named words name = list_any (λ word. fits word name) (slice_split (λ byte. byte == 44) words)

-- those of these peers whose names match one of several words
abbrev pub peers_named : Plan → List PeerNo → List ℕ → List PeerNo
peers_named plan peers words = filter (λ p. is_named words (name_of plan p)) peers

-- those of these peers that are chosen
abbrev pub chosen_among : Plan → List PeerNo → Option (List ℕ) → Chosen
chosen_among plan peers None = chosen.Any
chosen_among plan peers (Some words) = chosen.Only (peers_named plan peers words)

-- the peers of a run that are chosen
abbrev pub chosen_by : Plan → Report → Option (List ℕ) → Chosen
chosen_by plan report words = chosen_among plan (numbers_of report.peers.items) words
