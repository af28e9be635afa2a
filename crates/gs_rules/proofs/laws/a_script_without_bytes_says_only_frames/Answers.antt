use Rattle.gs_rules.proofs.Scripts.{script_says_frames}
use Rattle.gs_rules.proofs.laws.a_script_without_bytes_says_only_frames.Goals as goal

pub returns : goal.returns
returns c = λ seat said entries refused q legal keeps quiet. script_says_frames seat said q entries refused keeps legal quiet
