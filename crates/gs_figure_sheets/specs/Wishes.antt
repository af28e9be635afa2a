-- Which sheets the options ask for.
use Rattle.std.specs.Prelude.{ℕ, List, map, Option}
use Rattle.gs_figure_sheets.specs.declared.wanted.Layout.{Layout}
use Rattle.gs_figure_sheets.specs.declared.wanted.Subject.{Subject}
use Rattle.gs_figure_sheets.specs.declared.wanted.Wanted.{Wanted}
use Rattle.gs_figure_sheets.specs.Choices.{spelled}
use Rattle.gs_figure_sheets.specs.Parties.{GroupWish, group_wish}

pub record Wishes : Type 0 where
  -- only messages that the peers with these names published first, or all messages if it is None
  pub by : Option (List ℕ)
  -- only the traces of the peers with these names, or all traces if it is None
  pub among : Option (List ℕ)
  pub groups : List GroupWish
  pub subject : Subject
  pub layout : Layout

abbrev pub wishes_of : Wanted → Wishes
wishes_of w = record {
  by = spelled w.by;
  among = spelled w.among;
  groups = map group_wish w.groups;
  subject = w.subject;
  layout = w.layout;
}
