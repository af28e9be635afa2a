use Rattle.gs_check.proofs.PlainPlaces.{shown-plain}
use Rattle.gs_check.proofs.first_line.plain_places_are_shown_as_they_stand.Goals as goal

pub returns : goal.returns
returns c = shown-plain
