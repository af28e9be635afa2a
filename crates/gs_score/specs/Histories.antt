-- What happened to a peer's neighbours, and the counters and scores that follow from it.
use Rattle.std.specs.Prelude.{Bool, true, ◌≡◌, ℕ, suc, ℤ, pos, int_lt, min, unsigned_abs, if◌then◌else◌, List, []}
use Rattle.std.specs.Prelude.{◌∷◌, length, map, Option, Some, None}
use Rattle.std.specs.List.{list_any}
use Rattle.std.specs.Option.{option_map_or}
use Rattle.gs_base.specs.declared.names.PeerNo.{PeerNo}
use Rattle.gs_base.specs.declared.names.Topic.{Topic}
use Rattle.gs_base.specs.declared.names.Millis.{Millis}
use Rattle.gs_base.specs.declared.neighbour.Neighbour.{Neighbour}
use Rattle.gs_base.specs.declared.mark.Mark.{Mark}
use Rattle.gs_base.specs.declared.mark.Mark.TheVariants as marks
use Rattle.gs_base.specs.Names.{same_peer, same_topic}
use Rattle.gs_params.specs.declared.params.Params.{Params}
use Rattle.gs_score.specs.declared.accounts.Account.{Account}
use Rattle.gs_score.specs.declared.counter.Decay.{Decay}
use Rattle.gs_score.specs.declared.addresses.AddressEntry.{AddressEntry}
use Rattle.gs_score.specs.declared.rules.TopicRules.{TopicRules}
use Rattle.gs_score.specs.declared.standing.Kind.{Kind}
use Rattle.gs_score.specs.declared.standing.Kind.TheVariants.{First, Near, Deficit, Invalid}
use Rattle.gs_score.specs.Counters.{decay_step, most_counted, raised, read_at}
use Rattle.gs_score.specs.Standings.{Held, decayed_held, nothing_held, raised_held, raised_standing}
use Rattle.gs_score.specs.Formula.{score_of}
use Rattle.gs_score.specs.Accounts.{has_topic, held_in, misbehaviour_decay, rules_of, topic_sum}
use Rattle.gs_score.specs.Addresses.{address_entry_of, app_of, number_with, shut_out}
use Rattle.gs_score.specs.Ledgers.{BlamesIn, has_room, Kept, PutsIn, misbehaviour_of, has_account, same_pair}
use Rattle.gs_score.specs.Ledgers.{standing_of, topics_of}

-- ---- what marks raise

-- one, in millionths
abbrev pub one : ℕ
one = 1_000_000

-- what a deficit adds to a counter: at most `most_counted`, since no counter holds more, and 0 if it is below 0
abbrev pub capped_deficit : ℤ → ℕ
capped_deficit z = if int_lt z (pos 0) then 0 else min (unsigned_abs z) most_counted

-- a counter of a neighbour on a topic, and by how much it is raised
pub record Raise : Type 0 where
  pub peer : PeerNo
  pub topic : Topic
  pub kind : Kind
  pub by : ℕ

-- the neighbour already has something on the topic
abbrev pub is_known : List (PeerNo × Account) → Raise → Bool
is_known accounts x = has_topic (topics_of accounts x.peer) x.topic

abbrev pub raise_of : Mark → Option Raise
raise_of (marks.First p t id) = Some (record { peer = p; topic = t; kind = First; by = one })
raise_of (marks.Near p t id) = Some (record { peer = p; topic = t; kind = Near; by = one })
raise_of (marks.Deficit p t z) = Some (record { peer = p; topic = t; kind = Deficit; by = capped_deficit z })
raise_of (marks.Invalid p t) = Some (record { peer = p; topic = t; kind = Invalid; by = one })
raise_of mark = None

-- who misbehaved
abbrev pub blamed : Mark → Option PeerNo
blamed (marks.Misbehaviour p) = Some p
blamed mark = None

-- a mark that raises a counter is about a neighbour, with room for its topic if it has one
abbrev pub accepts : List (PeerNo × Account) → Mark → Bool
accepts accounts (marks.First p t id) = has_room accounts p t
accepts accounts (marks.Near p t id) = has_room accounts p t
accepts accounts (marks.Deficit p t z) = has_room accounts p t
accepts accounts (marks.Invalid p t) = has_room accounts p t
accepts accounts (marks.Misbehaviour p) = has_account accounts p
accepts accounts mark = true

-- a counter of a neighbour on a topic is raised, from its value after the decays so far
abbrev pub RaisesIn : Kept → Kept → PeerNo → Topic → Kind → ℕ → Type 0
RaisesIn old new p t kind by =
    PutsIn old new p t (raised_standing (rules_of old.params t) kind by old.decays (standing_of old.accounts p t))

-- how a mark changes what is kept: a mark that raises no counter and blames nobody changes nothing
abbrev pub Applies : Kept → Kept → Mark → Type 0
Applies old new (marks.First p t id) = RaisesIn old new p t First one
Applies old new (marks.Near p t id) = RaisesIn old new p t Near one
Applies old new (marks.Deficit p t z) = RaisesIn old new p t Deficit (capped_deficit z)
Applies old new (marks.Invalid p t) = RaisesIn old new p t Invalid one
Applies old new (marks.Misbehaviour p) =
    BlamesIn old new p (record {
      value = raised most_counted one
          (read_at (misbehaviour_decay old.params) old.decays (misbehaviour_of old.accounts p));
      decays = old.decays;
    })
Applies old new mark = new ≡ old

-- ---- what may happen

pub data Change : Type 0 where
  -- a mark was made
  Marked : Mark → Change
  -- all counters decayed by a step
  Decayed : Change
  -- a neighbour entered the mesh of a topic at a moment, or left it
  Grafted : PeerNo → Topic → Millis → Change
  Left : PeerNo → Topic → Change
  -- a neighbour was shut out for ever
  ShutOut : PeerNo → Change

-- all that happened, the newest first
abbrev pub History : Type 0
History = List Change

-- how often counters decayed
abbrev pub decays : History → ℕ
decays [] = 0
decays (Decayed ∷ H) = suc (decays H)
decays (c ∷ H) = decays H

-- ---- what a neighbour holds on a topic

abbrev pub held_after : TopicRules → PeerNo → Topic → Change → Held → Held
held_after r q t (Marked mark) h =
    option_map_or (λ (x : Raise). if same_pair x.peer x.topic q t then raised_held r x.kind x.by h else h)
    (raise_of mark) h
held_after r q t Decayed h = decayed_held r h
held_after r q t (Grafted p u at) h = if same_pair p u q t then record h { since = Some at } else h
held_after r q t (Left p u) h = if same_pair p u q t then record h { since = None } else h
held_after r q t (ShutOut p) h = h

abbrev pub held_by : Params → History → PeerNo → Topic → Held
held_by params [] q t = nothing_held
held_by params (c ∷ H) q t = held_after (rules_of params t) q t c (held_by params H q t)

-- the topics on which something happened to a neighbour, each once
abbrev pub with_topic : Topic → List Topic → List Topic
with_topic t ts = if list_any (same_topic t) ts then ts else t ∷ ts

abbrev pub named_after : PeerNo → Change → List Topic → List Topic
named_after q (Marked mark) ts =
    option_map_or (λ (x : Raise). if same_peer x.peer q then with_topic x.topic ts else ts) (raise_of mark) ts
named_after q (Grafted p u at) ts = if same_peer p q then with_topic u ts else ts
named_after q c ts = ts

abbrev pub named : History → PeerNo → List Topic
named [] q = []
named (c ∷ H) q = named_after q c (named H q)

-- ---- how a neighbour misbehaved

abbrev pub misbehaved_after : Decay → PeerNo → Change → ℕ → ℕ
misbehaved_after d q (Marked mark) x =
    option_map_or (λ p. if same_peer p q then raised most_counted one x else x) (blamed mark) x
misbehaved_after d q Decayed x = decay_step d x
misbehaved_after d q c x = x

abbrev pub misbehaviour : Params → History → PeerNo → ℕ
misbehaviour params [] q = 0
misbehaviour params (c ∷ H) q = misbehaved_after (misbehaviour_decay params) q c (misbehaviour params H q)

-- ---- where neighbours are

abbrev pub addresses_in : List Neighbour → History → List (PeerNo × AddressEntry)
addresses_in neighbours [] = map address_entry_of neighbours
addresses_in neighbours (ShutOut p ∷ H) = shut_out p (addresses_in neighbours H)
addresses_in neighbours (c ∷ H) = addresses_in neighbours H

-- ---- scores

-- a peer's parameters and neighbours
pub record Setting : Type 0 where
  pub params : Params
  pub neighbours : List Neighbour

-- the score of a neighbour at a moment, over these topics
abbrev pub score_in : Setting → ℕ → History → PeerNo → List Topic → ℤ
score_in setting now H q ts =
    score_of setting.params.factors
    (topic_sum setting.params now (held_by setting.params H q) ts)
    (app_of (addresses_in setting.neighbours H) q)
    (number_with (addresses_in setting.neighbours H) q)
    (misbehaviour setting.params H q)

-- what is kept agrees with what happened
pub record Agrees (setting : Setting) (k : Kept) (H : History) : Type 0 where
  pub params : k.params ≡ setting.params
  pub neighbours
      : (q : PeerNo) → has_account k.accounts q ≡ list_any (λ (n : Neighbour). same_peer q n.peer) setting.neighbours
  pub decays : k.decays ≡ decays H
  pub holds
      : (q : PeerNo) (t : Topic)
      → held_in setting.params k.decays (topics_of k.accounts q) t ≡ held_by setting.params H q t
  pub misbehaves
      : (q : PeerNo)
      → read_at (misbehaviour_decay setting.params) k.decays (misbehaviour_of k.accounts q)
      ≡ misbehaviour setting.params H q
  -- a neighbour has something on the topics that the history names for it, each once, and on no other
  pub knows : (q : PeerNo) (t : Topic) → has_topic (topics_of k.accounts q) t ≡ list_any (same_topic t) (named H q)
  pub counts : (q : PeerNo) → length (topics_of k.accounts q) ≡ length (named H q)
  pub addresses : k.addresses ≡ addresses_in setting.neighbours H
