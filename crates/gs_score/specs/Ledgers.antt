-- What scores keep.
use Rattle.std.specs.Prelude.{◌||◌, nat_lt, ◌≡◌, ◌≤◌, ◌^◌, ◌&&◌, ℕ, unsigned_abs, Bool, false, List, [], length}
use Rattle.std.specs.Prelude.{is_some, if◌then◌else◌}
use Rattle.std.specs.Map.{lookup}
use Rattle.std.specs.Option.{unwrap_or}
use Rattle.gs_base.specs.declared.names.PeerNo.{PeerNo}
use Rattle.gs_base.specs.declared.names.Topic.{Topic}
use Rattle.gs_base.specs.Names.{same_peer, same_topic, most_topics}
use Rattle.gs_params.specs.declared.params.Params.{Params}
use Rattle.gs_params.specs.Params.{AreInRange}
use Rattle.gs_score.specs.declared.accounts.Account.{Account}
use Rattle.gs_score.specs.declared.addresses.AddressEntry.{AddressEntry}
use Rattle.gs_score.specs.declared.standing.Standing.{Standing}
use Rattle.gs_score.specs.Counters.{Stored}
use Rattle.gs_score.specs.Standings.{no_count}
use Rattle.gs_score.specs.Accounts.{AddsTopic, KeepsTopics, has_topic, standing_in}
use Rattle.gs_score.specs.Addresses.{app_of}
use Rattle.gs_score.specs.Ranges.{IsUpTo}

-- ---- by neighbour

-- nothing yet
abbrev pub nothing_counted : Account
nothing_counted = record { topics = []; misbehaviour = no_count }

abbrev pub account_of : List (PeerNo × Account) → PeerNo → Account
account_of accounts q = unwrap_or (lookup (same_peer q) accounts) nothing_counted

abbrev pub has_account : List (PeerNo × Account) → PeerNo → Bool
has_account accounts q = is_some (lookup (same_peer q) accounts)

-- q and u are neighbour p and topic t
abbrev pub same_pair : PeerNo → Topic → PeerNo → Topic → Bool
same_pair p t q u = same_peer p q && same_topic t u

abbrev pub topics_of : List (PeerNo × Account) → PeerNo → List (Topic × Standing)
topics_of accounts q = (account_of accounts q).topics

abbrev pub standing_of : List (PeerNo × Account) → PeerNo → Topic → Standing
standing_of accounts q t = standing_in (topics_of accounts q) t

abbrev pub misbehaviour_of : List (PeerNo × Account) → PeerNo → Stored
misbehaviour_of accounts q = (account_of accounts q).misbehaviour

-- a neighbour has something on a topic, or room for one more
abbrev pub has_room : List (PeerNo × Account) → PeerNo → Topic → Bool
has_room accounts q t =
    has_account accounts q && (has_topic (topics_of accounts q) t || nat_lt (length (topics_of accounts q)) most_topics)

-- nobody has too many topics
abbrev pub AreFew : List (PeerNo × Account) → Type 0
AreFew accounts = (q : PeerNo) → length (topics_of accounts q) ≤ most_topics

-- ---- changes

-- a neighbour gets this on a topic, and all else stays
pub record Puts (old new : List (PeerNo × Account)) (p : PeerNo) (t : Topic) (s : Standing) : Type 0 where
  pub standings
      : (q : PeerNo) (u : Topic)
      → standing_of new q u ≡ (if same_pair p t q u then s else standing_of old q u)
  pub misbehaviours : (q : PeerNo) → misbehaviour_of new q ≡ misbehaviour_of old q
  pub accounts : (q : PeerNo) → has_account new q ≡ has_account old q

-- a neighbour now has something on this topic, and each neighbour still on its earlier ones
pub record Adds (old new : List (PeerNo × Account)) (p : PeerNo) (t : Topic) : Type 0 where
  pub here : AddsTopic (topics_of old p) (topics_of new p) t
  pub others : (q : PeerNo) → same_peer p q ≡ false → KeepsTopics (topics_of old q) (topics_of new q)

-- each neighbour has something on the same topics as before
abbrev pub Keeps : List (PeerNo × Account) → List (PeerNo × Account) → Type 0
Keeps old new = (q : PeerNo) → KeepsTopics (topics_of old q) (topics_of new q)

-- a neighbour gets this as its misbehaviour, and all else stays
pub record Blames (old new : List (PeerNo × Account)) (p : PeerNo) (c : Stored) : Type 0 where
  pub topics : (q : PeerNo) → topics_of new q ≡ topics_of old q
  pub misbehaviours : (q : PeerNo) → misbehaviour_of new q ≡ (if same_peer p q then c else misbehaviour_of old q)
  pub accounts : (q : PeerNo) → has_account new q ≡ has_account old q

-- ---- all that is kept

-- the parameters, the addresses of neighbours, what each one has, and how often counters decayed
pub record Kept : Type 0 where
  pub params : Params
  pub addresses : List (PeerNo × AddressEntry)
  pub accounts : List (PeerNo × Account)
  pub decays : ℕ

-- what holds for it between calls: no counter was decayed past the number of decays, and no number is too large for exact
-- scores
pub record IsSound (k : Kept) : Type 0 where
  pub in_range : AreInRange k.params
  pub few : AreFew k.accounts
  pub standings : (q : PeerNo) (t : Topic) → IsUpTo k.decays (standing_of k.accounts q t)
  pub misbehaviours : (q : PeerNo) → (misbehaviour_of k.accounts q).decays ≤ k.decays
  pub apps : (q : PeerNo) → unsigned_abs (app_of k.addresses q) ≤ 10 ^ 12
  pub addresses : length k.addresses ≤ 65_536

-- a neighbour gets this on a topic, and all else stays
pub record PutsIn (old new : Kept) (p : PeerNo) (t : Topic) (s : Standing) : Type 0 where
  pub rest : new ≡ record old { accounts = new.accounts }
  pub puts : Puts old.accounts new.accounts p t s
  pub adds : Adds old.accounts new.accounts p t

-- a neighbour gets this as its misbehaviour, and all else stays
pub record BlamesIn (old new : Kept) (p : PeerNo) (c : Stored) : Type 0 where
  pub rest : new ≡ record old { accounts = new.accounts }
  pub blames : Blames old.accounts new.accounts p c

-- a neighbour gets this on a topic, each has something on the same topics as before, and all else stays
pub record ReplacesIn (old new : Kept) (p : PeerNo) (t : Topic) (s : Standing) : Type 0 where
  pub rest : new ≡ record old { accounts = new.accounts }
  pub puts : Puts old.accounts new.accounts p t s
  pub keeps : Keeps old.accounts new.accounts
