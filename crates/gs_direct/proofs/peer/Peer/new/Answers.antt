use Rattle.std.proofs.Common.{◌≡◌, ◌∙◌, rules, List, ap, refl, subst}
use Rattle.std.specs.List.{AllZip}
use Rattle.gs_base.specs.declared.names.PeerNo.{PeerNo}
use Rattle.gs_base.specs.Names.{peers_of}
use Rattle.gs_seats.specs.Rounds.{neighbours, neighbours_in}
use Rattle.gs_direct.specs.Outlets.{IsNew}
use Rattle.gs_direct.proofs.Heard.{named_so}
use Rattle.gs_direct.proofs.peer.Peer.new.Goals as goal

pub returns : goal.returns
returns g c =
    let plan = c.args.plan.now in
    let p = c.args.number in
    let same : c.deref.result.now ≡ neighbours_in plan p = c.deref.ensures.value ∙ c.requires.neighbours in
    record {
      number = refl;
      agenda = c.in_ok-agenda.ensures ∙ c.requires.own;
      phase = c.phase_of.ensures;
      router = c.in_ok-router.ensures;
      words = c.in_ok-words.ensures;
      refused = c.new.ensures.items;
      outlets = subst (λ (qs : List PeerNo). AllZip IsNew qs c.in_ok-outlets.outlets.items) (ap peers_of same ∙ named_so plan p (neighbours plan p)) c.in_ok-outlets.ensures;
    }
