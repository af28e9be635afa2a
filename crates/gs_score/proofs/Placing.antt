-- Where neighbours are: how many there are at most, and what stays when one is shut out.
use Rattle.std.proofs.Common.{◌≡◌, ℕ, ◌≤◌, ◌^◌, ◌++◌, ℤ, pos, unsigned_abs, Bool, true, false, cond, List, length, map, Option, Some, None, refl, sym, ap, subst, ◌∙◌, inl, inr, arith, zero, suc, ◌-◌, ◌<◌, slice_get}
use Rattle.std.specs.Prelude.{[], ◌∷◌, get_or, All}
use Rattle.std.specs.Option.{IfSome, option_map_or, unwrap_or}
use Rattle.std.specs.List.{list_any}
use Rattle.std.specs.Map.{keys_of, lookup, set_value, values_of}
use Rattle.std.proofs.lemmas.List.Sums.{sum_by-cons}
use Rattle.std.proofs.lemmas.Map.{length-set_value}
use Rattle.std.proofs.lemmas.Map.Entries.{All-lookup}
use Rattle.std.proofs.lemmas.List.{get_or-map, length-map}
use Rattle.std.proofs.lemmas.List.Elements.{All-map}
use Rattle.std.proofs.lemmas.Option.{get_or_from_slice_get}
use Rattle.indexmap.specs.IndexMap.{insert_all, insert_entry}
use Rattle.gs_base.specs.declared.names.PeerNo.{PeerNo}
use Rattle.gs_base.specs.declared.neighbour.Neighbour.{Neighbour}
use Rattle.gs_base.specs.Names.{most_topics, peers_of, same_peer}
use Rattle.gs_params.specs.declared.params.Params.{Params}
use Rattle.gs_params.specs.Params.{AreInRange}
use Rattle.gs_params.specs.Picks.{IsAscending}
use Rattle.gs_params.proofs.Picking.{distinct_from_ascending}
use Rattle.gs_score.specs.declared.addresses.AddressEntry.{AddressEntry}
use Rattle.gs_score.specs.declared.accounts.Account.{Account}
use Rattle.gs_score.specs.declared.standing.Kind.TheVariants.{First, Near, Deficit, Invalid}
use Rattle.gs_score.specs.Counters.{read_at}
use Rattle.gs_score.specs.Standings.{fresh}
use Rattle.gs_score.specs.Accounts.{has_topic, held_in, misbehaviour_decay, rules_of, standing_in}
use Rattle.gs_score.specs.Ranges.{IsUpTo}
use Rattle.gs_score.specs.Histories.{Agrees}
use Rattle.gs_score.specs.Addresses.{address_entry_at, address_entry_of, app_of, counts_at, number_at, number_with, one_if, shut, shut_out}
use Rattle.gs_score.specs.Ledgers.{IsSound, Kept, account_of, has_account, nothing_counted}
use Rattle.gs_score.proofs.Accounting.{peers_tell, same_back}
use Rattle.gs_score.proofs.Sums.{Apart, apart_from_distinct, decayed_nothing, either_false, fresh_held}

-- ---- how many count

one_le : (b : Bool) → one_if b ≤ 1
one_le true = omega arith
one_le false = omega arith

number_le : (ps : List (PeerNo × AddressEntry)) (a : List ℕ) → number_at ps a ≤ length ps
number_le [] a = omega arith
number_le (e ∷ ps) a = omega (arith, sum_by-cons (λ x. one_if (counts_at a x)) e.1 (values_of ps), one_le (counts_at a e.1), number_le ps a)

pub number_within : (ps : List (PeerNo × AddressEntry)) (q : PeerNo) → number_with ps q ≤ length ps
number_within ps q = by (address_entry_at ps q)
  where
    by : (o : Option AddressEntry) → option_map_or (λ (x : AddressEntry). number_at ps x.address) o 0 ≤ length ps
    by None = omega arith
    by (Some x) = number_le ps x.address

-- ---- who is shut out

abbrev given : Option AddressEntry → ℤ
given o = option_map_or (λ (x : AddressEntry). x.app) o (pos 0)

head : (b : Bool) (x y : AddressEntry) (o : Option AddressEntry) → x.app ≡ y.app → given (cond b (Some x) o) ≡ given (cond b (Some y) o)
head true x y o h = h
head false x y o h = refl

tail : (b : Bool) (y : AddressEntry) (o p : Option AddressEntry) → given o ≡ given p → given (cond b (Some y) o) ≡ given (cond b (Some y) p)
tail true y o p h = refl
tail false y o p h = h

app_set : (p q : PeerNo) (ps : List (PeerNo × AddressEntry)) (x : AddressEntry) → lookup (same_peer p) ps ≡ Some x → app_of (set_value (same_peer p) ps (shut x)) q ≡ app_of ps q
app_set p q [] x h = refl
app_set p q (e ∷ ps) x h =
    elim (peers_tell p e.0) [
      | inl f ↦ (
          let is : Some e.1 ≡ Some x = rw f.0 at h in
          let same : e.1 ≡ x = ap (λ (o : Option AddressEntry). unwrap_or o e.1) is in
          rw f.0 (head (same_peer q e.0) (shut x) e.1 (lookup (same_peer q) ps) (ap (λ (y : AddressEntry). y.app) (sym same)))
          )
      | inr f ↦ (
          let is : lookup (same_peer p) ps ≡ Some x = rw f.0 at h in
          rw f.0 (tail (same_peer q e.0) e.1 (lookup (same_peer q) (set_value (same_peer p) ps (shut x))) (lookup (same_peer q) ps) (app_set p q ps x is))
          )
    ]

app_shut : (p q : PeerNo) (ps : List (PeerNo × AddressEntry)) → app_of (shut_out p ps) q ≡ app_of ps q
app_shut p q ps = by (address_entry_at ps p) refl
  where
    by : (o : Option AddressEntry) → address_entry_at ps p ≡ o → app_of (option_map_or (λ x. set_value (same_peer p) ps (shut x)) o ps) q ≡ app_of ps q
    by None e = refl
    by (Some x) e = app_set p q ps x e

length_shut : (p : PeerNo) (ps : List (PeerNo × AddressEntry)) → length (shut_out p ps) ≡ length ps
length_shut p ps = by (address_entry_at ps p)
  where
    by : (o : Option AddressEntry) → length (option_map_or (λ x. set_value (same_peer p) ps (shut x)) o ps) ≡ length ps
    by None = refl
    by (Some x) = length-set_value (same_peer p) ps (shut x)

pub sound_shut : (k : Kept) (p : PeerNo) → IsSound k → IsSound (record k { addresses = shut_out p k.addresses })
sound_shut k p h = record {
  in_range = h.in_range;
  few = h.few;
  standings = h.standings;
  misbehaviours = h.misbehaviours;
  apps = λ q. subst (λ z. unsigned_abs z ≤ 10 ^ 12) (sym (app_shut p q k.addresses)) (h.apps q);
  addresses = omega (arith, length_shut p k.addresses, h.addresses);
}

-- ---- all neighbours, one after the other

entered : (es : List (PeerNo × AddressEntry)) (p : PeerNo) (x : AddressEntry) → list_any (same_peer p) (keys_of es) ≡ false → insert_entry same_peer es p x ≡ es ++ (p, x) ∷ []
entered [] p x h = refl
entered (e ∷ es) p x h =
    let two = either_false (same_peer p e.0) (list_any (same_peer p) (keys_of es)) h in
    rw two.0 (ap (λ rest. e ∷ rest) (entered es p x two.1))

-- none of these is the number of one of the neighbours
abbrev Unlike : List PeerNo → List Neighbour → Type 0
Unlike ks [] = Unit {0}
Unlike ks (n ∷ ns) = (list_any (same_peer n.peer) ks ≡ false) × Unlike ks ns

any_push : (ks : List PeerNo) (p q : PeerNo) → list_any (same_peer q) ks ≡ false → same_peer q p ≡ false → list_any (same_peer q) (ks ++ p ∷ []) ≡ false
any_push [] p q h e = rw e refl
any_push (k ∷ ks) p q h e =
    let two = either_false (same_peer q k) (list_any (same_peer q) ks) h in
    rw two.0 (any_push ks p q two.1 e)

unlike_push : (ks : List PeerNo) (p : PeerNo) (ns : List Neighbour) → Unlike ks ns → list_any (same_peer p) (peers_of ns) ≡ false → Unlike (ks ++ p ∷ []) ns
unlike_push ks p [] u h = tt
unlike_push ks p (n ∷ ns) u h =
    let two = either_false (same_peer p n.peer) (list_any (same_peer p) (peers_of ns)) h in
    (any_push ks p n.peer u.0 (same_back p n.peer ∙ two.0), unlike_push ks p ns u.1 two.1)

keys_push : (es : List (PeerNo × AddressEntry)) (p : PeerNo) (x : AddressEntry) → keys_of (es ++ (p, x) ∷ []) ≡ keys_of es ++ p ∷ []
keys_push [] p x = refl
keys_push (e ∷ es) p x = ap (λ ks. e.0 ∷ ks) (keys_push es p x)

assoc : (es : List (PeerNo × AddressEntry)) (e : PeerNo × AddressEntry) (fs : List (PeerNo × AddressEntry)) → (es ++ e ∷ []) ++ fs ≡ es ++ e ∷ fs
assoc [] e fs = refl
assoc (d ∷ es) e fs = ap (λ rest. d ∷ rest) (assoc es e fs)

nil : (es : List (PeerNo × AddressEntry)) → es ≡ es ++ []
nil [] = refl
nil (e ∷ es) = ap (λ rest. e ∷ rest) (nil es)

inserted : (es : List (PeerNo × AddressEntry)) (ns : List Neighbour) → Unlike (keys_of es) ns → Apart same_peer (peers_of ns) → insert_all same_peer es (map address_entry_of ns) ≡ es ++ map address_entry_of ns
inserted es [] u d = nil es
inserted es (n ∷ ns) u d =
    let x : AddressEntry = record { app = n.app; address = n.address; counted = true } in
    ap (λ done. insert_all same_peer done (map address_entry_of ns)) (entered es n.peer x u.0)
    ∙ inserted (es ++ (n.peer, x) ∷ []) ns
    (subst (λ ks. Unlike ks ns) (sym (keys_push es n.peer x)) (unlike_push (keys_of es) n.peer ns u.1 d.0)) d.1
    ∙ assoc es (n.peer, x) (map address_entry_of ns)

like_none : (ns : List Neighbour) → Unlike [] ns
like_none [] = tt
like_none (n ∷ ns) = (refl, like_none ns)

pub all_placed : (ns : List Neighbour) → IsAscending (peers_of ns) → insert_all same_peer [] (map address_entry_of ns) ≡ map address_entry_of ns
all_placed ns up = inserted [] ns (like_none ns) (apart_from_distinct same_peer (peers_of ns) (distinct_from_ascending (peers_of ns) up))

-- ---- how many neighbours there are

-- in an ascending list a number is no less than its place
ascends : (ps : List PeerNo) → IsAscending ps → (d : PeerNo) (i : ℕ) → i < length ps → i ≤ (get_or ps i d).0
ascends ps up d zero within = omega arith
ascends ps up d (suc i) within =
    let before : i < length ps = omega arith in
    omega (arith, ascends ps up d i before, up i (suc i) d (omega arith) within)

pub few_neighbours : (ns : List Neighbour) → IsAscending (peers_of ns) → (last : Neighbour) → Some last ≡ slice_get ns (length ns - 1) → last.peer.0 < 65_536 → length ns ≤ 65_536
few_neighbours [] up last is small = omega arith
few_neighbours (n ∷ ns) up last is small =
    let xs : List Neighbour = n ∷ ns in
    let end = length xs - 1 in
    let at : last ≡ get_or xs end last = sym (get_or_from_slice_get xs end last last (sym is)) in
    let len : length (peers_of xs) ≡ length xs = length-map xs (λ (x : Neighbour). x.peer) in
    let within : end < length xs = omega arith in
    let peer : get_or (peers_of xs) end last.peer ≡ last.peer
    = get_or-map (λ (x : Neighbour). x.peer) xs end last last.peer within ∙ ap (λ (x : Neighbour). x.peer) (sym at) in
    let no_less : end ≤ last.peer.0
    = subst (λ (p : PeerNo). end ≤ p.0) peer (ascends (peers_of xs) up last.peer end (omega (arith, len, within))) in
    omega (arith, no_less, small)

abbrev given_within : Option AddressEntry → Type 0
given_within o = unsigned_abs (option_map_or (λ (x : AddressEntry). x.app) o (pos 0)) ≤ 10 ^ 12

within_of : (o : Option AddressEntry) → IfSome o (λ (x : AddressEntry). unsigned_abs x.app ≤ 10 ^ 12) → given_within o
within_of None h = omega arith
within_of (Some x) h = h

apps_within : (ns : List Neighbour) → All (λ (n : Neighbour). unsigned_abs n.app ≤ 10 ^ 12) ns → (q : PeerNo) → unsigned_abs (app_of (map address_entry_of ns) q) ≤ 10 ^ 12
apps_within ns h q =
    within_of (address_entry_at (map address_entry_of ns) q)
    (All-lookup (λ (x : AddressEntry). unsigned_abs x.app ≤ 10 ^ 12) (same_peer q) (map address_entry_of ns)
    (All-map (λ (e : PeerNo × AddressEntry). unsigned_abs e.1.app ≤ 10 ^ 12) address_entry_of ns h))

-- ---- at first

pub sound_first : (params : Params) (ns : List Neighbour) (accounts : List (PeerNo × Account))
    → AreInRange params → IsAscending (peers_of ns)
    → All (λ (n : Neighbour). unsigned_abs n.app ≤ 10 ^ 12) ns
    → length ns ≤ 65_536
    → ((q : PeerNo) → account_of accounts q ≡ nothing_counted)
    → IsSound (record { params = params; addresses = insert_all same_peer [] (map address_entry_of ns); accounts = accounts; decays = 0 })
sound_first params ns accounts range up apps few nothing = rw (all_placed ns up) (record {
  in_range = range;
  few = λ q. subst (λ (x : Account). length x.topics ≤ most_topics) (sym (nothing q)) (omega arith);
  standings = λ q t. subst (λ (x : Account). IsUpTo 0 (standing_in x.topics t)) (sym (nothing q)) up_to_first;
  misbehaviours = λ q. subst (λ (x : Account). x.misbehaviour.decays ≤ 0) (sym (nothing q)) (omega arith);
  apps = apps_within ns apps;
  addresses = omega (arith, length-map ns address_entry_of, few);
})
  where
    up_to_first : IsUpTo 0 fresh
    up_to_first First = omega arith
    up_to_first Near = omega arith
    up_to_first Deficit = omega arith
    up_to_first Invalid = omega arith

pub agrees_first : (params : Params) (ns : List Neighbour) (accounts : List (PeerNo × Account))
    → IsAscending (peers_of ns)
    → ((q : PeerNo) → account_of accounts q ≡ nothing_counted)
    → ((q : PeerNo) → has_account accounts q ≡ list_any (λ (n : Neighbour). same_peer q n.peer) ns)
    → Agrees (record { params = params; neighbours = ns }) (record { params = params; addresses = insert_all same_peer [] (map address_entry_of ns); accounts = accounts; decays = 0 }) []
agrees_first params ns accounts up nothing all = record {
  params = refl;
  neighbours = all;
  decays = refl;
  holds = λ q t. ap (λ (x : Account). held_in params 0 x.topics t) (nothing q) ∙ fresh_held (rules_of params t) 0;
  misbehaves = λ q. ap (λ (x : Account). read_at (misbehaviour_decay params) 0 x.misbehaviour) (nothing q) ∙ decayed_nothing (misbehaviour_decay params) (0 - 0);
  knows = λ q t. ap (λ (x : Account). has_topic x.topics t) (nothing q);
  counts = λ q. ap (λ (x : Account). length x.topics) (nothing q);
  addresses = all_placed ns up;
}
