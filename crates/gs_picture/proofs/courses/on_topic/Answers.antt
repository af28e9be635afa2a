use Rattle.std.proofs.Common.{◌∙◌, ap, rules}
use Rattle.std.proofs.lemmas.Fn.{filter_same}
use Rattle.gs_base.specs.Names.{same_topic}
use Rattle.gs_reach.specs.declared.messages.MessageReach.{MessageReach}
use Rattle.gs_picture.specs.Courses.{on_topic}
use Rattle.gs_picture.proofs.courses.on_topic.Goals as goal

pub returns : goal.returns
returns c =
    filter_same _ (λ (m : MessageReach). same_topic m.publication.topic c.args.topic.now) _ (λ x b f' k. search rules) _ _ c.retain.ensures.filtered
    ∙ ap (on_topic c.args.topic.now) c.into_vec-messages.ensures
