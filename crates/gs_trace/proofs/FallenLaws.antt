-- What came to nothing is what the rules pass over: promises are those that are charged, each identifier of a request gets a
-- message or is told, and the parts of an RPC follow where nothing is told of it.
use Rattle.std.proofs.Common.{◌≡◌, ℕ, suc, ◌+◌, Bool, true, false, cond, List, [], ◌∷◌, ◌++◌, length, map, filter, flat_map, Option, None, Some, refl, ◌∙◌, arith}
use Rattle.std.specs.Prelude.{◌&&◌, nat_le}
use Rattle.std.proofs.lemmas.List.{map-append}
use Rattle.gs_base.specs.declared.mark.Mark.{Mark}
use Rattle.gs_base.specs.declared.mark.Mark.TheVariants.{Misbehaviour}
use Rattle.gs_base.specs.declared.names.Millis.{Millis}
use Rattle.gs_base.specs.declared.names.MsgId.{MsgId}
use Rattle.gs_base.specs.declared.names.PeerNo.{PeerNo}
use Rattle.gs_base.specs.declared.rpc.Message.{Message}
use Rattle.gs_base.specs.declared.rpc.Rpc.{Rpc}
use Rattle.gs_base.specs.Names.{same_peer}
use Rattle.gs_rules.specs.declared.event.Event.TheVariants.{Heard}
use Rattle.gs_rules.specs.declared.fallen.Fallen.{Fallen}
use Rattle.gs_rules.specs.declared.fallen.Fallen.TheVariants.{Graylisted}
use Rattle.gs_rules.specs.declared.fallen.NoAnswer.{NoAnswer}
use Rattle.gs_rules.specs.declared.trace.Promise.{Promise}
use Rattle.gs_rules.specs.FellAway.{broken, broken_by, fell_away, why_no_answer, without_answer, without_answers}
use Rattle.gs_rules.specs.Gossip.{all_charges, charges, overdue}
use Rattle.gs_rules.specs.Owed.{Group, PartsOf, owes}
use Rattle.gs_rules.specs.Peers.{Peer, links_of}
use Rattle.gs_rules.specs.Rules.{answer, answers, times_in, with_message}
use Rattle.gs_rules.specs.Scoring.{is_graylisted}
use Rattle.gs_rules.specs.Tables.{Entries, promises, up}
use Rattle.gs_seats.proofs.Truths.{is_same}

-- ---- promises

abbrev blames : Promise → Mark
blames x = Misbehaviour x.from

one_blamed : (q : PeerNo) (x : Promise) (xs : List Promise) (same due : Bool) → same_peer x.from q ≡ same → map blames xs ≡ map (λ promise. Misbehaviour q) xs
    → map blames (cond (same && due) (x ∷ xs) xs) ≡ map (λ promise. Misbehaviour q) (cond (same && due) (x ∷ xs) xs)
one_blamed q x xs true true is more = λ i. Misbehaviour (is_same x.from q is i) ∷ more i
one_blamed q x xs true false is more = more
one_blamed q x xs false due is more = more

all_blamed : (q : PeerNo) (at : ℕ) (xs : List Promise)
    → map blames (filter (λ promise. same_peer promise.from q && nat_le promise.until.0 at) xs)
    ≡ map (λ promise. Misbehaviour q) (filter (λ promise. same_peer promise.from q && nat_le promise.until.0 at) xs)
all_blamed q at [] = refl
all_blamed q at (x ∷ xs) =
    one_blamed q x (filter (λ promise. same_peer promise.from q && nat_le promise.until.0 at) xs) (same_peer x.from q) (nat_le x.until.0 at) refl (all_blamed q at xs)

if_up : (b : Bool) (q : PeerNo) (xs : List Promise) → map blames xs ≡ map (λ promise. Misbehaviour q) xs
    → map blames (cond b xs []) ≡ cond b (map (λ promise. Misbehaviour q) xs) []
if_up true q xs h = h
if_up false q xs h = refl

blamed_by : (L : Entries) (at : ℕ) (q : PeerNo) → map blames (broken_by L at q) ≡ charges L at q
blamed_by L at q = if_up (up L q) q (overdue L at q) (all_blamed q at (promises L))

blamed_of : (L : Entries) (at : ℕ) (qs : List PeerNo) → map blames (flat_map (broken_by L at) qs) ≡ flat_map (charges L at) qs
blamed_of L at [] = refl
blamed_of L at (q ∷ qs) =
    let one = blamed_by L at q in
    let more = blamed_of L at qs in
    map-append blames (broken_by L at q) (flat_map (broken_by L at) qs) ∙ (λ i. one i ++ more i)

pub broken_are_charged : (p : Peer) (L : Entries) (at : ℕ) → map blames (broken p L at) ≡ all_charges p L at
broken_are_charged p L at = blamed_of L at (links_of p)

-- ---- requests

one_answer : (q : PeerNo) (id : MsgId) (why : NoAnswer) (o : Option Message) (given : List (MsgId × Message)) (fallen : List Fallen) (n : ℕ)
    → length given + length fallen ≡ n
    → length (with_message id o ++ given) + length (without_answer q id why o ++ fallen) ≡ suc n
one_answer q id why None given fallen n h = omega (arith, h)
one_answer q id why (Some m) given fallen n h = omega (arith, h)

pub each_is_answered_or_told : (p : Peer) (L : Entries) (q : PeerNo) (ahead ids : List MsgId)
    → length (answers p L q ahead ids) + length (without_answers p L q ahead ids) ≡ length ids
each_is_answered_or_told p L q ahead [] = refl
each_is_answered_or_told p L q ahead (id ∷ ids) =
    one_answer q id (why_no_answer p L id) (answer p L q id (times_in id ahead)) (answers p L q (ahead ++ id ∷ []) ids) (without_answers p L q (ahead ++ id ∷ []) ids) (length ids)
    (each_is_answered_or_told p L q (ahead ++ id ∷ []) ids)

-- ---- RPCs

owed_if : (b : Bool) (q : PeerNo) (rpc : Rpc) → ◌≡◌ {A = List Fallen} (cond b (Graylisted q ∷ []) []) [] → ◌≡◌ {A = List Group} (cond b [] (PartsOf q rpc ∷ [])) (PartsOf q rpc ∷ [])
owed_if true q rpc h = absurd cc
owed_if false q rpc h = refl

not_owed_if : (b : Bool) (q : PeerNo) (rpc : Rpc) (one : Fallen) (more : List Fallen) → cond b (Graylisted q ∷ []) [] ≡ one ∷ more → ◌≡◌ {A = List Group} (cond b [] (PartsOf q rpc ∷ [])) []
not_owed_if true q rpc one more h = refl
not_owed_if false q rpc one more h = absurd cc

pub parts_follow : (p : Peer) (L : Entries) (at : Millis) (q : PeerNo) (rpc : Rpc) → fell_away p L at (Heard q rpc) ≡ [] → owes p L at.0 (Heard q rpc) ≡ PartsOf q rpc ∷ []
parts_follow p L at q rpc = owed_if (is_graylisted p L at.0 q) q rpc

pub no_parts_follow : (p : Peer) (L : Entries) (at : Millis) (q : PeerNo) (rpc : Rpc) (one : Fallen) (more : List Fallen) → fell_away p L at (Heard q rpc) ≡ one ∷ more → owes p L at.0 (Heard q rpc) ≡ []
no_parts_follow p L at q rpc one more = not_owed_if (is_graylisted p L at.0 q) q rpc one more
