use Rattle.std.proofs.Common.{◌≡◌, ◌<◌, ◌+◌, ◌++◌, ℕ, List, [], ◌∷◌, length, take, get_or, sym, ap, subst, ◌∙◌}
use Rattle.std.specs.Prelude.{◌≢◌, Vec, option_to_list}
use Rattle.std.specs.declared.alloc.Global.{Global}
use Rattle.std.proofs.lemmas.List.{take_more}
use Rattle.gs_base.specs.declared.names.PeerNo.{PeerNo}
use Rattle.gs_seats.specs.ListsByPeer.{list_at}
use Rattle.gs_direct.specs.declared.letter.Letter.{Letter}
use Rattle.gs_direct.specs.declared.outlet.Outlet.{Outlet}
use Rattle.gs_direct.specs.Outlets.{IsHandedOver, given}
use Rattle.gs_direct.proofs.Pairs.{Reached, reached_is, reached_more}
use Rattle.gs_direct.proofs.Telling.{letter_given, no_letter, nothing_given}
use Rattle.gs_direct.proofs.outlets.hand_over.Goals as goal
use Rattle.gs_direct.proofs.outlets.hand_over.Goals.{in-Some+in_ok-put_last, in_default}

pub loop-outlet-preserved : goal.loop-outlet-preserved
loop-outlet-preserved c =
    let xs = c.args.outlets.now in
    let ys = c.loop-outlet.outlets in
    let n = c.loop-outlet.outlet-index in
    let d = c.outlet-item.result in
    let x = get_or ys n d in
    let new = c.hand_over.new.self in
    let from = c.args.from in
    let before = c.args.mail.now.items in
    let mail = c.loop-outlet.mail.items in
    let inv = c.loop-outlet.invariant in
    let low : n < length xs = c.loop-outlet-test.true in
    let is : x ≡ get_or xs n d = reached_is IsHandedOver n xs ys d low inv.handed in
    let more : take (n + 1) xs ≡ take n xs ++ x ∷ [] = take_more xs n d low ∙ ap (λ (o : Outlet). take n xs ++ o ∷ []) (sym is) in
    let over = reached_more IsHandedOver n xs ys d new low inv.handed c.hand_over.ensures.handed in
    elim c.match-hand_over.branch [
      | in-Some+in_ok-put_last w ↦ record {
        count = ap (λ (m : Vec (Vec Letter Global) Global). length m.items) w.mail-is ∙ w.put_last.ensures.count ∙ inv.count;
        given = λ p.
            let to : new.to ≡ x.to = c.hand_over.ensures.handed.to in
            ap (λ (m : Vec (Vec Letter Global) Global). list_at m.items p.0) w.mail-is
            ∙ letter_given from (take n xs) x before mail inv.given w.in-Some.letter w.put_last.new.lists.items
            (sym c.hand_over.ensures.letter ∙ ap option_to_list w.in-Some.is)
            (subst (λ (q : PeerNo). list_at w.put_last.new.lists.items q.0 ≡ list_at mail q.0 ++ w.in-Some.letter ∷ []) to w.in_ok-put_last.ensures.put)
            (subst (λ (q : PeerNo). (k : ℕ) → k ≢ q.0 → list_at w.put_last.new.lists.items k ≡ list_at mail k) to w.in_ok-put_last.ensures.others) p
            ∙ ap (λ (os : List Outlet). list_at before p.0 ++ given from os p) (sym more);
        handed = subst (λ (os : List Outlet). Reached IsHandedOver (n + 1) xs os) (sym w.outlets-is) over;
      }
      | in_default w ↦ record {
        count = ap (λ (m : Vec (Vec Letter Global) Global). length m.items) w.mail-is ∙ inv.count;
        given = λ p.
            ap (λ (m : Vec (Vec Letter Global) Global). list_at m.items p.0) w.mail-is
            ∙ nothing_given from (take n xs) x before mail inv.given (sym c.hand_over.ensures.letter ∙ ap option_to_list (no_letter c.hand_over.result w.in_default.not-Some)) p
            ∙ ap (λ (os : List Outlet). list_at before p.0 ++ given from os p) (sym more);
        handed = subst (λ (os : List Outlet). Reached IsHandedOver (n + 1) xs os) (sym w.outlets-is) over;
      }
    ]
