-- Whoever is lost counts no more at its address, and everybody else does as before.
use Rattle.std.proofs.Common.{◌≡◌, Bool, true, false, cond, if◌then◌else◌, List, [], ◌∷◌, Option, Some, None, refl, sym, ap, subst, ◌∙◌}
use Rattle.std.specs.Prelude.{◌&&◌, ◌||◌, not}
use Rattle.std.specs.Cmp.{IsEquivalence}
use Rattle.std.specs.Map.{lookup, set_value}
use Rattle.std.specs.Option.{IsSome, option_map_or}
use Rattle.std.proofs.lemmas.Cmp.{nat_eq_equiv}
use Rattle.std.proofs.lemmas.Map.{lookup-set_value}
use Rattle.gs_base.specs.declared.names.PeerNo.{PeerNo}
use Rattle.gs_base.specs.declared.names.Millis.{Millis}
use Rattle.gs_base.specs.declared.neighbour.Neighbour.{Neighbour}
use Rattle.gs_base.specs.declared.mark.Mark.{Mark}
use Rattle.gs_base.specs.declared.mark.Mark.TheVariants.{Grafted, Pruned}
use Rattle.gs_base.specs.Names.{same_peer}
use Rattle.gs_score.specs.declared.addresses.AddressEntry.{AddressEntry}
use Rattle.gs_score.specs.Addresses.{address_entry_at, is_counted, shut}
use Rattle.gs_score.specs.Addresses as addresses
use Rattle.gs_score.specs.Histories.{History, addresses_in}
use Rattle.gs_rules.specs.declared.event.Event.{Event}
use Rattle.gs_rules.specs.declared.event.Event.TheVariants.{Decay, Shut}
use Rattle.gs_rules.specs.Peers.{Peer}
use Rattle.gs_rules.specs.Tables.{Entries, after_marks, is_lost, is_shut, is_shut_after, lost, up}
use Rattle.gs_rules.specs.Scoring.{change_of, changed_after, history, marked_after, shut_out}
use Rattle.gs_rules.specs.Scoring as scoring
use Rattle.gs_rules.proofs.Members.{one_peer}

same_laws : IsEquivalence same_peer
same_laws = record {
  refl = λ p. nat_eq_equiv.refl p.0;
  symm = λ p q. nat_eq_equiv.symm p.0 q.0;
  congr = λ p q r e. nat_eq_equiv.congr p.0 q.0 r.0 e;
}

same_tells : (r x y : PeerNo) → same_peer r x ≡ true → same_peer r y ≡ same_peer x y
same_tells r x y is = ap (λ (s : PeerNo). same_peer s y) (one_peer r x is)

-- whether what is known of a neighbour counts
abbrev counts : Option AddressEntry → Bool
counts o = option_map_or (λ (x : AddressEntry). x.counted) o false

out_by : (same : Bool) (x : AddressEntry) (o : Option AddressEntry) → counts (cond same (Some (shut x)) o) ≡ (not same && counts o)
out_by true x o = refl
out_by false x o = refl

-- who is shut out counts no more, and the others as before
out_counts : (r q : PeerNo) (ps : List (PeerNo × AddressEntry)) → is_counted (addresses.shut_out r ps) q ≡ (not (same_peer r q) && is_counted ps q)
out_counts r q ps = by (address_entry_at ps r) refl
  where
    unknown : (same : Bool) → same_peer r q ≡ same → address_entry_at ps r ≡ None → is_counted ps q ≡ (not same && is_counted ps q)
    unknown true is none = ap counts (subst (λ (s : PeerNo). address_entry_at ps s ≡ None) (one_peer r q is) none)
    unknown false is none = refl

    by : (o : Option AddressEntry) → address_entry_at ps r ≡ o → is_counted (option_map_or (λ x. set_value (same_peer r) ps (shut x)) o ps) q ≡ (not (same_peer r q) && is_counted ps q)
    by None none = unknown (same_peer r q) refl none
    by (Some x) found =
        ap counts (lookup-set_value same_laws (same_peer r) (same_tells r) q (shut x) ps (subst IsSome (sym found) refl))
        ∙ out_by (same_peer r q) x (lookup (same_peer q) ps)

-- marks shut nobody out
mark_shuts_none : (ns : List Neighbour) (at : Millis) (mark : Mark) (H : History) → addresses_in ns (change_of at mark ∷ H) ≡ addresses_in ns H
mark_shuts_none ns at (Grafted q t) H = refl
mark_shuts_none ns at (Pruned q t) H = refl
mark_shuts_none ns at other H = refl

marks_shut_none : (p : Peer) (at : Millis) (marks : List Mark) (H : History) → addresses_in p.neighbours (after_marks (marked_after p at) marks H) ≡ addresses_in p.neighbours H
marks_shut_none p at [] H = refl
marks_shut_none p at (mark ∷ marks) H = marks_shut_none p at marks (marked_after p at mark H) ∙ by (scoring.is_counted p H mark)
  where
    by : (counted : Bool) → addresses_in p.neighbours (if counted then change_of at mark ∷ H else H) ≡ addresses_in p.neighbours H
    by true = mark_shuts_none p.neighbours at mark H
    by false = refl

-- an event shuts out the neighbour that it loses
who_counts : (ns : List Neighbour) (who : Option PeerNo) (H : History) (q : PeerNo) → is_counted (addresses_in ns (shut_out who H)) q ≡ (not (is_lost q who) && is_counted (addresses_in ns H) q)
who_counts ns None H q = refl
who_counts ns (Some r) H q = out_counts r q (addresses_in ns H)

event_counts : (ns : List Neighbour) (event : Event) (H : History) (q : PeerNo) → is_counted (addresses_in ns (changed_after event H)) q ≡ (not (is_lost q (lost event)) && is_counted (addresses_in ns H) q)
event_counts ns Decay H q = refl
event_counts ns other H q = who_counts ns (lost other) H q

still_runs : (event : Event) (before : Bool) → is_shut_after event before ≡ false → (is_shut_after event false ≡ false) × (before ≡ false)
still_runs Shut before runs = absurd cc
still_runs other before runs = (refl, runs)

one_step : (shuts loses before start counted : Bool) → shuts ≡ false → counted ≡ (before && start) → (not loses && counted) ≡ ((if shuts || loses then false else before) && start)
one_step true loses before start counted runs is = absurd cc
one_step false true before start counted runs is = refl
one_step false false before start counted runs is = is

-- while the peer runs, whoever is up counts as at first, and whoever is lost does not
pub counts_while_up : (p : Peer) (L : Entries) (q : PeerNo) → is_shut L ≡ false → is_counted (addresses_in p.neighbours (history p L)) q ≡ (up L q && is_counted (addresses_in p.neighbours []) q)
counts_while_up p [] q runs = refl
counts_while_up p (e ∷ L) q runs =
    let still = still_runs e.event (is_shut L) runs in
    ap (λ (ps : List (PeerNo × AddressEntry)). is_counted ps q) (marks_shut_none p e.at e.effects.marks (changed_after e.event (history p L)))
    ∙ event_counts p.neighbours e.event (history p L) q
    ∙ one_step (is_shut_after e.event false) (is_lost q (lost e.event)) (up L q) (is_counted (addresses_in p.neighbours []) q) (is_counted (addresses_in p.neighbours (history p L)) q) still.0 (counts_while_up p L q still.1)
