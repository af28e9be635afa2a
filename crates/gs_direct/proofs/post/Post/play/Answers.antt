use Rattle.std.proofs.Common.{◌∙◌, ◌++◌, List, Vec, Global, length, reverse, refl, sym, ap, subst}
use Rattle.std.specs.List.{AllByRecursion}
use Rattle.gs_router.specs.Log.{this_round}
use Rattle.gs_router.specs.Router.{RouterView}
use Rattle.gs_seats.specs.ListsByPeer.{list_at}
use Rattle.gs_direct.specs.declared.letter.Letter.{Letter}
use Rattle.gs_direct.specs.declared.peer.Peer.{Peer}
use Rattle.gs_direct.specs.Outlets.{Within, given}
use Rattle.gs_direct.specs.Peers.{PlaysRound}
use Rattle.gs_direct.proofs.Heard.{still_within}
use Rattle.gs_direct.proofs.post.Post.play.Goals as goal

pub hand_over-requires : goal.hand_over-requires
hand_over-requires g c =
    let r = c.args.round in
    let now = c.args.now in
    let letters = c.take-letters.result.items in
    let old = c.args.peer.now in
    let played = c.play.new.self in
    let plays : PlaysRound r now letters old played =
    subst (λ (v : RouterView). PlaysRound r now letters (record old { router = v }) played) c.exchange_payloads.ensures c.in_ok-play.ensures in
    subst (λ (mail : Vec (Vec Letter Global) Global). AllByRecursion (Within (length mail.items)) played.outlets.items) (sym c.take-letters.ensures.next)
    (still_within (length c.args.self.now.next.items) (reverse (this_round played.router.trace)) old.outlets.items played.outlets.items plays.tells c.requires.within)

pub returns-clause-turns : goal.returns-clause-turns
returns-clause-turns g c =
    let r = c.args.round in
    let now = c.args.now in
    let old = c.args.peer.now in
    let played : Peer _ = record c.play.new.self { router = c.exchange_payloads-2.new.self } in
    let plays : PlaysRound r now c.take-letters.result.items old c.play.new.self =
    subst (λ (v : RouterView). PlaysRound r now c.take-letters.result.items (record old { router = v }) c.play.new.self) c.exchange_payloads.ensures c.in_ok-play.ensures in
    let exchanged : PlaysRound r now c.take-letters.result.items old played =
    subst (λ (v : RouterView). PlaysRound r now c.take-letters.result.items old (record c.play.new.self { router = v })) (sym c.exchange_payloads-2.ensures) plays in
    let handed = c.in_ok-hand_over.ensures.handed in (
      given played.number played.outlets.items,
      record {
        played = played;
        plays = subst (λ (letters : List Letter). PlaysRound r now letters old played) c.take-letters.ensures.taken exchanged;
        rest = handed.rest;
        given_is = λ p. refl;
        handed = handed.handed;
      },
      λ p. handed.given_is p ∙ ap (λ (mail : Vec (Vec Letter Global) Global). list_at mail.items p.0 ++ given played.number played.outlets.items p) c.take-letters.ensures.next,
    )
