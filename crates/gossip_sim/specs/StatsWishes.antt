-- The command `stats`: what its options ask for.
use Rattle.std.specs.Prelude.{ℕ, Bool, true, false, not, ◌==◌, ◌&&◌, ◌||◌, nat_le, nat_lt, if◌then◌else◌}
use Rattle.std.specs.Prelude.{List, [], ◌∷◌, ◌++◌, codes, length, map, Option, Some, None, is_some}
use Rattle.std.specs.Char.{is_ascii_alphanumeric}
use Rattle.std.specs.List.{list_all, list_any, before_first, after_first, position_or_len}
use Rattle.gs_figure_sheets.specs.Choices.{spelled}
use Rattle.gs_figure_sheets.specs.Parties.{GroupWish}
use Rattle.gs_figure_sheets.specs.declared.wanted.Subject.{Subject}
use Rattle.gs_figure_sheets.specs.declared.wanted.Subject.TheVariants as subject
use Rattle.gs_program.specs.Asked.{large, progress}
use Rattle.gs_program.specs.Options.{Given, Rule, has_option, once, once_with_value, same, value_of}
use Rattle.gossip_sim.specs.declared.stats.wishes.Asked.{Asked}
use Rattle.gossip_sim.specs.declared.stats.wishes.Form.{Form}
use Rattle.gossip_sim.specs.declared.stats.wishes.Form.TheVariants as form
use Rattle.gossip_sim.specs.declared.stats.wishes.Named.{Named}

-- the options that it takes: up to 16 groups, and each other one once
abbrev pub options : List Rule
options =
    large
    ∷ progress
    ∷ once_with_value (codes "--by")
    ∷ once_with_value (codes "--of")
    ∷ record { name = codes "--group"; has_value = true; most = 16 }
    ∷ once (codes "--rounds")
    ∷ once (codes "--topics")
    ∷ once (codes "--links")
    ∷ once (codes "--csv")
    ∷ once (codes "--json")
    ∷ []

-- What is asked for. A part that is None was not asked for.
pub record Wishes : Type 0 where
  -- messages that the peers of these names published first
  pub by : Option (List ℕ)
  -- what the traces of peers of these names say
  pub among : Option (List ℕ)
  -- in the order in which they were given
  pub groups : List GroupWish
  pub subject : Option Subject
  pub form : Option Form

abbrev pub group_of : Named → GroupWish
group_of g = record { name = g.name.now; peers = g.peers.now }

abbrev pub wishes_of : Asked → Wishes
wishes_of a = record {
  by = spelled a.by;
  among = spelled a.among;
  groups = map group_of a.groups.items;
  subject = a.subject;
  form = a.form;
}

-- ---- groups

-- a byte that may stand in a group's name
abbrev pub is_name_byte : ℕ → Bool
is_name_byte byte = (is_ascii_alphanumeric byte || byte == 95) || byte == 45

abbrev pub are_name_bytes : List ℕ → Bool
are_name_bytes name = list_all is_name_byte name

-- a name has 1 to 32 of those bytes, and is not `all`, the name of the row of all peers
abbrev pub is_group_name : List ℕ → Bool
is_group_name name =
    ((not (length name == 0) && nat_le (length name) 32) && are_name_bytes name) && not (same name (codes "all"))

-- the byte of `=`
abbrev pub is_equals_sign : ℕ → Bool
is_equals_sign byte = byte == 61

-- the group that `NAME=PEERS` names: None where there is no equals sign, or where a group can't have this name
abbrev pub group_in : List ℕ → Option GroupWish
group_in text =
    if nat_lt (position_or_len is_equals_sign text) (length text) && is_group_name (before_first is_equals_sign text)
    then Some (record { name = before_first is_equals_sign text; peers = after_first is_equals_sign text })
    else None

abbrev pub is_taken : List GroupWish → List ℕ → Bool
is_taken groups name = list_any (λ g. same g.name name) groups

-- with one more group, if there are not yet 16 and none of them has its name
abbrev pub adding : List GroupWish → GroupWish → Option (List GroupWish)
adding groups g =
    if length groups == 16 || is_taken groups g.name then None else Some (groups ++ g ∷ [])

abbrev pub with_group : List GroupWish → Option GroupWish → Option (List GroupWish)
with_group groups None = None
with_group groups (Some g) = adding groups g

-- the group that an option names, if it names one
abbrev pub group_of_value : Option (List ℕ) → Option GroupWish
group_of_value None = None
group_of_value (Some text) = group_in text

-- with the groups that these further options name: None where one names no group, or where an earlier group has its name
abbrev pub groups_from : Option (List GroupWish) → List Given → Option (List GroupWish)
groups_from None given = None
groups_from (Some groups) [] = Some groups
groups_from (Some groups) (g ∷ given) =
    if same g.name (codes "--group") then groups_from (with_group groups (group_of_value g.value)) given
    else groups_from (Some groups) given

-- ---- all of them

-- The subject that one of the options names; at most one may. Without any, no subject is asked for.
abbrev pub subject_by : (rounds topics links : Bool) → Option (Option Subject)
subject_by false false false = Some None
subject_by true false false = Some (Some subject.Rounds)
subject_by false true false = Some (Some subject.Topics)
subject_by false false true = Some (Some subject.Links)
subject_by true true links = None
subject_by true false true = None
subject_by false true true = None

abbrev pub subject_given : List Given → Option (Option Subject)
subject_given given =
    subject_by (has_option given (codes "--rounds")) (has_option given (codes "--topics")) (has_option given (codes "--links"))

-- the form, in the same way
abbrev pub form_by : (csv json : Bool) → Option (Option Form)
form_by false false = Some None
form_by true false = Some (Some form.Csv)
form_by false true = Some (Some form.Json)
form_by true true = None

abbrev pub form_given : List Given → Option (Option Form)
form_given given = form_by (has_option given (codes "--csv")) (has_option given (codes "--json"))

-- `--by` chooses messages, which only the sheets of the run as a whole have
abbrev pub has_messages : Option Subject → Bool
has_messages None = true
has_messages (Some subject.Run) = true
has_messages (Some subject.Rounds) = false
has_messages (Some subject.Topics) = false
has_messages (Some subject.Links) = false

-- the sheets of topics and of links have no groups
abbrev pub has_groups : Option Subject → Bool
has_groups None = true
has_groups (Some subject.Run) = true
has_groups (Some subject.Rounds) = true
has_groups (Some subject.Topics) = false
has_groups (Some subject.Links) = false

abbrev pub is_without : {A : Type 0} → List A → Bool
is_without [] = true
is_without (x ∷ xs) = false

-- each option that was given changes the sheets
abbrev pub fits : Wishes → Bool
fits w = (has_messages w.subject || not (is_some w.by)) && (has_groups w.subject || is_without w.groups)

abbrev pub if_fitting : Wishes → Option Wishes
if_fitting w = if fits w then Some w else None

abbrev pub wishes_with :
    List Given → Option (List GroupWish) → Option (Option Subject) → Option (Option Form) → Option Wishes
wishes_with given None s f = None
wishes_with given (Some groups) None f = None
wishes_with given (Some groups) (Some s) None = None
wishes_with given (Some groups) (Some s) (Some f) =
    if_fitting (record {
      by = value_of given (codes "--by");
      among = value_of given (codes "--of");
      groups = groups;
      subject = s;
      form = f;
    })

-- What options ask for: all of a run, as tables, where there are none. None where one names no group, where two exclude
-- each other, or where one would change nothing.
abbrev pub wishes_for : List Given → Option Wishes
wishes_for given = wishes_with given (groups_from (Some []) given) (subject_given given) (form_given given)

-- the line that is written for wrong arguments
unfoldable pub usage : List ℕ
usage =
    codes "usage: gossip_stats [--large] [--progress] [--by PEERS|--rounds|--topics|--links] [--of PEERS] "
    ++ codes "[--group NAME=PEERS].. [--csv|--json]\n"
