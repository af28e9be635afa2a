-- No two columns of a table for a person have one header.
use Rattle.std.proofs.Common.{◌≡◌, ◌<◌, ℕ, Bool, true, false, not, ◌&&◌, get_or, List, [], ◌∷◌, ◌++◌, length, map, refl, sym, ap, subst, ◌∙◌, true≢false}
use Rattle.std.specs.Prelude.{codes, filter, Option, option_map, unwrap_or}
use Rattle.std.specs.List.{AllByRecursion, IsDistinct, list_all, range_with_len}
use Rattle.std.proofs.lemmas.List.{get_or-map, length-map}
use Rattle.std.proofs.lemmas.List.FromFn.{fill_by_all}
use Rattle.std.proofs.lemmas.Option.{slice_get-get_or}
use Rattle.gs_counts.specs.Runs.{run_counts}
use Rattle.gs_opinions.specs.Runs.{opinions_of}
use Rattle.gs_plan.specs.declared.plan.Plan.{Plan}
use Rattle.gs_base.specs.declared.names.PeerNo.{PeerNo}
use Rattle.gs_reach.specs.declared.chosen.Chosen.{Chosen}
use Rattle.gs_reach.specs.declared.chosen.Chosen.TheVariants.{Any}
use Rattle.gs_reach.specs.declared.distribution.Distribution.{Distribution}
use Rattle.gs_reach.specs.declared.messages.MessageReach.{MessageReach}
use Rattle.gs_reach.specs.Chosen.{accepted_pairs, chosen_messages}
use Rattle.gs_reach.specs.Reached.{distribution}
use Rattle.gs_report.specs.declared.report.Report.{Report}
use Rattle.gs_rules.specs.Rules.{same_bytes}
use Rattle.gs_rules.proofs.Each.{each_mapped}
use Rattle.gs_sheets.specs.declared.sheet.Column.{Column as SheetColumn}
use Rattle.gs_sheets.specs.declared.sheet.Sheet.{Sheet}
use Rattle.gs_figure_sheets.specs.declared.columns.Column.TheVariants.{Round}
use Rattle.gs_figure_sheets.specs.declared.figure.Figure.TheVariants.{LowestOf}
use Rattle.gs_figure_sheets.specs.declared.figures.Line.{Line}
use Rattle.gs_figure_sheets.specs.declared.found.Found.{Found}
use Rattle.gs_figure_sheets.specs.declared.inquiry.Inquiry.{Inquiry}
use Rattle.gs_figure_sheets.specs.declared.party.Party.{Party}
use Rattle.gs_figure_sheets.specs.declared.wanted.Layout.{Layout}
use Rattle.gs_figure_sheets.specs.declared.wanted.Layout.TheVariants.{Person}
use Rattle.gs_figure_sheets.specs.declared.wanted.Subject.{Subject}
use Rattle.gs_figure_sheets.specs.declared.wanted.Subject.TheVariants.{Run, Rounds, Topics, Links}
use Rattle.gs_figure_sheets.specs.Columns.{column_of, group_columns, limit_columns, message_columns, spread_columns}
use Rattle.gs_figure_sheets.specs.FigureSheets.{dealt_in, found_of, lines_of_peers, sheets_for, sheets_of, sheets_with}
use Rattle.gs_figure_sheets.specs.Figures.{figure_column, party_name}
use Rattle.gs_figure_sheets.specs.Groups.{Dealt, group_pages, group_sheet}
use Rattle.gs_figure_sheets.specs.Lines.{link_line, links_at, round_line, topic_line}
use Rattle.gs_figure_sheets.specs.Pages.{figure_pages, figure_sheet}
use Rattle.gs_figure_sheets.specs.Parties.{GroupWish, parties_of}
use Rattle.gs_figure_sheets.specs.Reach.{limit_sheet, message_sheet, sheets_among, spread_sheet}
use Rattle.gs_figure_sheets.specs.Sections.{heard_figures, is_shown, nothing_figures, sent_figures, state_figures}
use Rattle.gs_figure_sheets.specs.Shapes.{HasOwnHeaders}
use Rattle.gs_figure_sheets.proofs.Shapes.{both, mapped}

-- ---- truth values

both_of : (a b : Bool) → (a && b) ≡ true → (a ≡ true) × (b ≡ true)
both_of true b h = (refl, h)
both_of false b h = absurd (true≢false (sym h))

is_false : (b : Bool) → not b ≡ true → b ≡ false
is_false true h = absurd (true≢false (sym h))
is_false false h = refl

-- ---- lists of texts

abbrev is_none_of : List (List ℕ) → List ℕ → Bool
is_none_of xs y = list_all (λ x. not (same_bytes x y)) xs

-- each is another than all after it
abbrev are_apart : List (List ℕ) → Bool
are_apart [] = true
are_apart (x ∷ xs) = list_all (λ y. not (same_bytes x y)) xs && are_apart xs

each_other : (x : List ℕ) (xs : List (List ℕ)) → list_all (λ y. not (same_bytes x y)) xs ≡ true → AllByRecursion (λ y. same_bytes x y ≡ false) xs
each_other x [] h = tt
each_other x (y ∷ ys) h =
    let parts = both_of (not (same_bytes x y)) (list_all (λ z. not (same_bytes x z)) ys) h in
    (is_false (same_bytes x y) parts.0, each_other x ys parts.1)

apart : (xs : List (List ℕ)) → are_apart xs ≡ true → IsDistinct same_bytes xs
unfolding IsDistinct
apart [] h = tt
apart (x ∷ xs) h =
    let parts = both_of (list_all (λ y. not (same_bytes x y)) xs) (are_apart xs) h in
    (each_other x xs parts.0, apart xs parts.1)

-- two lists, each with texts of its own, of which none is in both
apart_both : (xs ys : List (List ℕ)) → IsDistinct same_bytes xs → IsDistinct same_bytes ys
    → AllByRecursion (λ x. AllByRecursion (λ y. same_bytes x y ≡ false) ys) xs → IsDistinct same_bytes (xs ++ ys)
unfolding IsDistinct
apart_both [] ys one other none = other
apart_both (x ∷ xs) ys one other none =
    (both (λ y. same_bytes x y ≡ false) xs ys one.0 none.0, apart_both xs ys one.1 other none.1)

-- ---- columns of groups

abbrev lowest_of : List ℕ → List ℕ
lowest_of name = codes "lowest of " ++ name

lowest_apart : (names : List (List ℕ)) → IsDistinct same_bytes names → IsDistinct same_bytes (map lowest_of names)
unfolding IsDistinct
lowest_apart [] h = tt
lowest_apart (x ∷ xs) h = (each_mapped (λ y. same_bytes (lowest_of x) y ≡ false) lowest_of xs h.0, lowest_apart xs h.1)

-- what is no such header, whatever the name, is none of these
no_lowest : (xs names : List (List ℕ)) → ((name : List ℕ) → is_none_of xs (lowest_of name) ≡ true)
    → AllByRecursion (λ x. AllByRecursion (λ y. same_bytes x y ≡ false) (map lowest_of names)) xs
no_lowest [] names h = tt
no_lowest (x ∷ xs) names h =
    let parts : (name : List ℕ) → (not (same_bytes x (lowest_of name)) ≡ true) × (is_none_of xs (lowest_of name) ≡ true)
    = λ name. both_of (not (same_bytes x (lowest_of name))) (is_none_of xs (lowest_of name)) (h name) in
    (mapped (λ y. same_bytes x y ≡ false) lowest_of (λ name. is_false (same_bytes x (lowest_of name)) (parts name).0) names, no_lowest xs names (λ name. (parts name).1))

abbrev names_of : List Party → List (List ℕ)
names_of parties = map (λ (x : Party). x.name) parties

abbrev headers_of : List SheetColumn → List (List ℕ)
headers_of columns = map (λ (c : SheetColumn). c.header) columns

-- the headers of the columns of groups, by their places
abbrev placed : List Party → List (List ℕ)
placed parties = headers_of (map (figure_column parties) (map LowestOf (range_with_len 0 (length parties))))

by_place : (parties : List Party) (ns : List ℕ)
    → headers_of (map (figure_column parties) (map LowestOf ns)) ≡ map (λ n. lowest_of (party_name parties n)) ns
by_place parties [] = refl
by_place parties (n ∷ ns) = ap (λ xs. lowest_of (party_name parties n) ∷ xs) (by_place parties ns)

by_name : (parties : List Party) → map lowest_of (names_of parties) ≡ map (λ n. lowest_of (party_name parties n)) (range_with_len 0 (length parties))
by_name parties =
    fill_by_all (λ n. lowest_of (party_name parties n)) (map lowest_of (names_of parties)) (length parties) (lowest_of [])
    (length-map (names_of parties) lowest_of ∙ length-map parties (λ (x : Party). x.name))
    (λ k low. get_or-map lowest_of (names_of parties) k [] (lowest_of []) (subst (λ n. k < n) (sym (length-map parties (λ (x : Party). x.name))) low) ∙ ap lowest_of (name_at k low))
  where
    nobody : Party
    nobody = record { name = []; peers = Any; told = Any }

    name_at : (k : ℕ) → k < length parties → get_or (names_of parties) k [] ≡ party_name parties k
    name_at k low =
        get_or-map (λ (x : Party). x.name) parties k nobody [] low
        ∙ sym (ap (λ (o : Option Party). unwrap_or (option_map (λ (x : Party). x.name) o) []) (slice_get-get_or parties k nobody low))

placed_apart : (parties : List Party) → IsDistinct same_bytes (names_of parties) → IsDistinct same_bytes (placed parties)
placed_apart parties h =
    subst (IsDistinct same_bytes) (by_name parties ∙ sym (by_place parties (range_with_len 0 (length parties)))) (lowest_apart (names_of parties) h)

placed_other : (parties : List Party) (xs : List (List ℕ)) → ((name : List ℕ) → is_none_of xs (lowest_of name) ≡ true)
    → AllByRecursion (λ x. AllByRecursion (λ y. same_bytes x y ≡ false) (placed parties)) xs
placed_other parties xs h =
    subst (λ ys. AllByRecursion (λ x. AllByRecursion (λ y. same_bytes x y ≡ false) ys) xs)
    (by_name parties ∙ sym (by_place parties (range_with_len 0 (length parties)))) (no_lowest xs (names_of parties) h)

-- the headers of what is delivered in a round, of meshes and of scores, but for those of groups
abbrev of_states : List (List ℕ)
of_states = headers_of (column_of Round ∷ map (figure_column []) (filter (is_shown Rounds) state_figures))

states_apart : (parties : List Party) → IsDistinct same_bytes (names_of parties) → IsDistinct same_bytes (of_states ++ placed parties)
unfolding state_figures
states_apart parties h = apart_both of_states (placed parties) (apart of_states refl) (placed_apart parties h) (placed_other parties of_states (λ name. refl))

-- ---- sheets

run_own : (parties : List Party) (lines : List Line) → AllByRecursion HasOwnHeaders (figure_pages Person Run parties lines)
unfolding figure_sheet heard_figures sent_figures nothing_figures state_figures
run_own parties lines = (apart _ refl, (apart _ refl, (apart _ refl, (apart _ refl, tt))))

topics_own : (lines : List Line) → AllByRecursion HasOwnHeaders (figure_pages Person Topics [] lines)
unfolding figure_sheet heard_figures sent_figures nothing_figures state_figures
topics_own lines = (apart _ refl, (apart _ refl, (apart _ refl, (apart _ refl, tt))))

links_own : (lines : List Line) → AllByRecursion HasOwnHeaders (figure_pages Person Links [] lines)
unfolding figure_sheet heard_figures sent_figures nothing_figures state_figures
links_own lines = (apart _ refl, (apart _ refl, (apart _ refl, (apart _ refl, tt))))

rounds_own : (parties : List Party) (lines : List Line) → IsDistinct same_bytes (names_of parties) → AllByRecursion HasOwnHeaders (figure_pages Person Rounds parties lines)
unfolding figure_sheet heard_figures sent_figures nothing_figures state_figures
rounds_own parties lines h = (apart _ refl, (apart _ refl, (apart _ refl, (states_apart parties h, tt))))

messages_own : (plan : Plan) (ms : List MessageReach) → HasOwnHeaders (message_sheet plan ms)
unfolding message_sheet message_columns
messages_own plan ms = apart _ refl

limits_own : (d : Distribution) → HasOwnHeaders (limit_sheet d)
unfolding limit_sheet limit_columns
limits_own d = apart _ refl

spread_own : (d : Distribution) → HasOwnHeaders (spread_sheet d)
unfolding spread_sheet spread_columns
spread_own d = apart _ refl

reach_own : (plan : Plan) (by among : Chosen) (ms : List MessageReach) → AllByRecursion HasOwnHeaders (sheets_among plan by among ms)
reach_own plan by among ms =
    (messages_own plan (chosen_messages by among ms), (limits_own (distribution (accepted_pairs by among ms)), (spread_own (distribution (accepted_pairs by among ms)), tt)))

groups_own : (d : Dealt) (parties : List Party) → HasOwnHeaders (group_sheet d parties)
unfolding group_sheet group_columns
groups_own d parties = apart _ refl

group_pages_own : (d : Dealt) (parties : List Party) → AllByRecursion HasOwnHeaders (group_pages d parties)
group_pages_own d [] = tt
group_pages_own d (first ∷ more) = (groups_own d (first ∷ more), tt)

-- ---- all

as_laid_out : (layout : Layout) (subject : Subject) (parties : List Party) (lines : List Line) → layout ≡ Person
    → AllByRecursion HasOwnHeaders (figure_pages Person subject parties lines) → AllByRecursion HasOwnHeaders (figure_pages layout subject parties lines)
as_laid_out layout subject parties lines is own =
    subst (λ (l : Layout). AllByRecursion HasOwnHeaders (figure_pages l subject parties lines)) (sym is) own

pub same_names : (plan : Plan) (peers : List PeerNo) (among : Chosen) (groups : List GroupWish)
    → map (λ (g : GroupWish). g.name) groups ≡ names_of (parties_of plan peers among groups)
same_names plan peers among [] = refl
same_names plan peers among (g ∷ gs) = ap (λ names. g.name ∷ names) (same_names plan peers among gs)

run_sheets_own : (plan : Plan) (q : Inquiry) (found : Found) → q.layout ≡ Person
    → AllByRecursion HasOwnHeaders (sheets_with plan q found)
run_sheets_own plan q found is =
    let reach : List Sheet = sheets_among plan q.by q.among found.messages in
    let lines : List Line = lines_of_peers plan q found in
    let peers : List Sheet = figure_pages q.layout Run q.parties lines in
    both HasOwnHeaders (reach ++ peers) (group_pages (dealt_in found) q.parties)
    (both HasOwnHeaders reach peers (reach_own plan q.by q.among found.messages) (as_laid_out q.layout Run q.parties lines is (run_own q.parties lines)))
    (group_pages_own (dealt_in found) q.parties)

by_subject : (subject : Subject) (plan : Plan) (q : Inquiry) (report : Report) → q.layout ≡ Person → IsDistinct same_bytes (names_of q.parties)
    → AllByRecursion HasOwnHeaders (sheets_for subject plan q report)
by_subject Run plan q report is names = run_sheets_own plan q (found_of plan report q.among) is
by_subject Rounds plan q report is names =
    let lines : List Line = map (round_line (opinions_of plan report q.among q.groups)) (run_counts plan report q.among).rounds in
    as_laid_out q.layout Rounds q.parties lines is (rounds_own q.parties lines names)
by_subject Topics plan q report is names =
    let lines : List Line = map topic_line (run_counts plan report q.among).topics in
    as_laid_out q.layout Topics [] lines is (topics_own lines)
by_subject Links plan q report is names =
    let lines : List Line = map (link_line plan) (links_at q.among (run_counts plan report q.among).links) in
    as_laid_out q.layout Links [] lines is (links_own lines)

pub own : (plan : Plan) (q : Inquiry) (report : Report) → q.layout ≡ Person → IsDistinct same_bytes (names_of q.parties) → AllByRecursion HasOwnHeaders (sheets_of plan q report)
own plan q report is names = by_subject q.subject plan q report is names
