-- Opinions of neighbours, one after the other.
use Rattle.std.proofs.Common.{◌≡◌, ◌<◌, ◌+◌, ℕ, List, [], ◌∷◌, ◌++◌, get_or, length, map, take, refl, sym, ap, ◌∙◌, append_assoc}
use Rattle.std.proofs.lemmas.List.{map-append, take_more}
use Rattle.gs_base.specs.declared.names.PeerNo.{PeerNo}
use Rattle.gs_base.specs.declared.neighbour.Neighbour.{Neighbour}
use Rattle.gs_base.specs.Names.{peers_of}
use Rattle.gs_plan.specs.declared.plan.Plan.{Plan}
use Rattle.gs_seats.specs.Rounds.{neighbour_in}
use Rattle.gs_opinions.specs.declared.opinion.Opinion.{Opinion}

pub all_named : (plan : Plan) (p : PeerNo) (qs : List PeerNo) → peers_of (map (neighbour_in plan p) qs) ≡ qs
all_named plan p [] = refl
all_named plan p (q ∷ qs) = ap (λ (rest : List PeerNo). q ∷ rest) (all_named plan p qs)

-- one neighbour more
pub neighbour_more : (f : PeerNo → Opinion) (os : List Opinion) (ns : List Neighbour) (i : ℕ) (n : Neighbour) (o : Opinion) → i < length ns → n ≡ get_or ns i n → o ≡ f n.peer
    → (os ++ map f (peers_of (take i ns))) ++ o ∷ [] ≡ os ++ map f (peers_of (take (i + 1) ns))
neighbour_more f os ns i n o low is same =
    append_assoc os (map f (peers_of (take i ns))) (o ∷ [])
    ∙ ap (λ (xs : List Opinion). os ++ xs)
    (ap (λ (x : Opinion). map f (peers_of (take i ns)) ++ x ∷ []) same
    ∙ sym (map-append f (peers_of (take i ns)) (n.peer ∷ []))
    ∙ ap (map f) (sym (map-append (λ (m : Neighbour). m.peer) (take i ns) (n ∷ [])))
    ∙ ap (λ (ms : List Neighbour). map f (peers_of ms)) (ap (λ (m : Neighbour). take i ns ++ m ∷ []) is ∙ sym (take_more ns i n low)))
