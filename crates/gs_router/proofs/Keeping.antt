-- The table of kept messages, after a mark and after a heartbeat.
use Rattle.std.proofs.Common.{◌≡◌, ℕ, ◌+◌, ◌-◌, ◌<◌, arith, Bool, true, false, if◌then◌else◌, cond, List, [], ◌∷◌, ◌++◌, Option, Some, None, option_map, is_some, refl, sym, ap, ap₂, subst, ◌∙◌, filter, length, take, get_or}
use Rattle.std.specs.Prelude.{◌==◌, not, nat_lt}
use Rattle.std.proofs.lemmas.Bool.Decides.{nat_tests}
use Rattle.std.proofs.lemmas.List.{take_more}
use Rattle.std.proofs.lemmas.List.Elements.{filter-append}
use Rattle.std.proofs.lemmas.Cmp.{nat_list_eq_equiv}
use Rattle.gs_base.specs.declared.names.PeerNo.{PeerNo}
use Rattle.gs_base.specs.declared.names.MsgId.{MsgId}
use Rattle.gs_base.specs.declared.names.Topic.{Topic}
use Rattle.gs_base.specs.declared.rpc.Message.{Message}
use Rattle.gs_base.specs.declared.mark.Mark.{Mark}
use Rattle.gs_base.specs.declared.mark.Mark.TheVariants.{Cached}
use Rattle.gs_base.specs.Names.{same_id}
use Rattle.gs_base.specs.Rpcs.{most_identifiers}
use Rattle.gs_cache.specs.CachedMessages as cache
use Rattle.gs_cache.proofs.Gossiping.{more_than_none}
use Rattle.gs_rules.specs.declared.event.Event.{Event}
use Rattle.gs_rules.specs.declared.trace.Entry.{Entry}
use Rattle.gs_rules.specs.Tables.{Entries, Keeping, after_marks, answered, answered_after, keeping, keeping_order, kept_after, last_kept, message_in, older, order_after}
use Rattle.gs_rules.specs.Gossip.{gossip, is_gossiped, last_of}
use Rattle.gs_rules.specs.Owed.{is_some_list}
use Rattle.gs_rules.specs.Peers.{Peer, windows}
use Rattle.gs_router.specs.declared.tables.kept_messages.Messages.{Messages}
use Rattle.gs_router.specs.Tables.{AgreesOnMessages, HasKept, IsMadeAlike, keeping_in, left_of, unmarked}

-- ---- lists

-- a filter by a test that a stronger one follows changes nothing
pub filter_stronger : {A : Type 0} (f g : A → Bool) (xs : List A) → ((x : A) → f x ≡ true → g x ≡ true) → filter f (filter g xs) ≡ filter f xs
filter_stronger f g [] implies = refl
filter_stronger f g (x ∷ xs) implies = by (f x) (g x) refl (implies x) (filter_stronger f g xs implies)
  where
    by : (a b : Bool) → f x ≡ a → (a ≡ true → b ≡ true) → filter f (filter g xs) ≡ filter f xs → filter f (cond b (x ∷ filter g xs) (filter g xs)) ≡ cond a (x ∷ filter f xs) (filter f xs)
    by true true is so rest = ap (λ (c : Bool). cond c (x ∷ filter f (filter g xs)) (filter f (filter g xs))) is ∙ ap (λ (ys : List _). x ∷ ys) rest
    by true false is so rest = let b : false ≡ true = so refl in absurd cc
    by false true is so rest = ap (λ (c : Bool). cond c (x ∷ filter f (filter g xs)) (filter f (filter g xs))) is ∙ rest
    by false false is so rest = rest

-- two tests that agree where a third passes leave the same of what it passes
pub filter_within : {A : Type 0} (f g h : A → Bool) (xs : List A) → ((x : A) → h x ≡ true → f x ≡ g x) → filter f (filter h xs) ≡ filter h (filter g xs)
filter_within f g h [] agree = refl
filter_within f g h (x ∷ xs) agree = by (h x) (g x) refl refl (filter_within f g h xs agree)
  where
    by : (a b : Bool) → h x ≡ a → g x ≡ b → filter f (filter h xs) ≡ filter h (filter g xs) → filter f (cond a (x ∷ filter h xs) (filter h xs)) ≡ filter h (cond b (x ∷ filter g xs) (filter g xs))
    by true true passes is rest =
        ap (λ (c : Bool). cond c (x ∷ filter f (filter h xs)) (filter f (filter h xs))) (agree x passes ∙ is)
        ∙ ap (λ (ys : List _). x ∷ ys) rest
        ∙ sym (ap (λ (c : Bool). cond c (x ∷ filter h (filter g xs)) (filter h (filter g xs))) passes)
    by true false passes is rest = ap (λ (c : Bool). cond c (x ∷ filter f (filter h xs)) (filter f (filter h xs))) (agree x passes ∙ is) ∙ rest
    by false true passes is rest = rest ∙ sym (ap (λ (c : Bool). cond c (x ∷ filter h (filter g xs)) (filter h (filter g xs))) passes)
    by false false passes is rest = rest

-- marks one by one
pub marks_more : {A : Type 0} (step : Mark → A → A) (marks : List Mark) (mark : Mark) (before : A) → after_marks step (marks ++ mark ∷ []) before ≡ step mark (after_marks step marks before)
marks_more step [] mark before = refl
marks_more step (other ∷ marks) mark before = marks_more step marks mark (step other before)

-- ---- one message

-- a message of the cache, as rules speak of it
abbrev to_keeping : cache.Cached → Keeping
to_keeping c = record { topic = c.topic; message = c.message; age = c.age }

nothing_older : (len age : ℕ) → nat_lt age len ≡ false → nat_lt (age + 1) len ≡ false
nothing_older len age over = grind (arith, nat_tests)

-- a shift makes a message of the cache older, and loses it in time
ages : (len : ℕ) (c : Option cache.Cached) → option_map to_keeping (cache.aged len c) ≡ keeping len (older (option_map to_keeping c))
ages len None = refl
ages len (Some c) = by (nat_lt (c.age + 1) len)
  where
    k : Keeping
    k = record { topic = c.topic; message = c.message; age = c.age + 1 }

    by : (b : Bool) → option_map to_keeping (if b then Some (record { age = c.age + 1; topic = c.topic; message = c.message }) else None) ≡ (if b then Some k else None)
    by true = refl
    by false = refl

-- what was kept no more isn't kept when it is older
lost_for_good : (len : ℕ) (k : Option Keeping) → keeping len (older (keeping len k)) ≡ keeping len (older k)
lost_for_good len None = refl
lost_for_good len (Some k) = by (nat_lt k.age len) refl
  where
    by : (b : Bool) → nat_lt k.age len ≡ b → keeping len (older (if b then Some k else None)) ≡ keeping len (older (Some k))
    by true is = refl
    by false is = sym (ap (λ (c : Bool). if c then Some (record { topic = k.topic; message = k.message; age = k.age + 1 }) else None) (nothing_older len k.age is))

-- what is kept when it is a heartbeat older was kept before
kept_before : (len : ℕ) (k : Option Keeping) → is_some (keeping len (older k)) ≡ true → is_some (keeping len k) ≡ true
kept_before len None is = is
kept_before len (Some k) is = by (nat_lt k.age len) refl
  where
    by : (b : Bool) → nat_lt k.age len ≡ b → is_some (if b then Some k else None) ≡ true
    by true young = refl
    by false over = sym (ap (λ (c : Bool). is_some {T = Keeping} (if c then Some (record { topic = k.topic; message = k.message; age = k.age + 1 }) else None)) (nothing_older len k.age over)) ∙ is

-- the answers that are left of what is kept still
left_when_older : (len most n : ℕ) (k : Option Keeping) → (if is_some (keeping len (older k)) then left_of most (keeping len k) n else None) ≡ left_of most (keeping len (older k)) n
left_when_older len most n None = refl
left_when_older len most n (Some k) = by (nat_lt (k.age + 1) len) refl
  where
    aged : Keeping
    aged = record { topic = k.topic; message = k.message; age = k.age + 1 }

    younger : nat_lt (k.age + 1) len ≡ true → nat_lt k.age len ≡ true
    younger is = grind (arith, nat_tests)

    by : (b : Bool) → nat_lt (k.age + 1) len ≡ b → (if is_some (if b then Some aged else None) then left_of most (if nat_lt k.age len then Some k else None) n else None) ≡ left_of most (if b then Some aged else None) n
    by true is = ap (λ (c : Bool). left_of most (if c then Some k else None) n) (younger is)
    by false is = refl

-- ---- a heartbeat

module _ (old new : Messages) (last : MsgId → Option Keeping) (given : PeerNo → MsgId → ℕ) (order : List MsgId) (alike : cache.IsSetUpAlike old.cache new.cache) (has : HasKept old last given order) where
  len_some : 0 < new.cache.len
  len_some = rw alike.len has.some

  -- the windows were shifted
  pub shifted : ((id : MsgId) → cache.cached new.cache id ≡ cache.aged old.cache.len (cache.cached old.cache id))
      → ((id : MsgId) (q : PeerNo) → cache.left new.cache id q ≡ (if is_some (cache.cached new.cache id) then cache.left old.cache id q else None))
      → new.cache.order ≡ filter (λ id. is_some (cache.cached new.cache id)) old.cache.order
      → HasKept new (λ id. older (last id)) given order
  shifted ageing keeps orders = record {
    some = len_some;
    keeps = λ id. now id ∙ ap (λ (len : ℕ). keeping len (older (last id))) (sym alike.len);
    leaves = λ q id.
        keeps id q
        ∙ ap (λ (b : Bool). if b then cache.left old.cache id q else None) (holds id)
        ∙ ap (λ (o : Option ℕ). if is_some (keeping old.cache.len (older (last id))) then o else None) (has.leaves q id)
        ∙ left_when_older old.cache.len old.cache.answers (given q id) (last id)
        ∙ ap₂ (λ (most len : ℕ). left_of most (keeping len (older (last id))) (given q id)) (sym alike.answers) (sym alike.len);
    orders = orders
        ∙ ap (filter (λ id. is_some (cache.cached new.cache id))) has.orders
        ∙ filter_stronger (λ id. is_some (cache.cached new.cache id)) (λ id. is_some (keeping old.cache.len (last id))) order (λ id is. kept_before old.cache.len (last id) (sym (holds id) ∙ is))
        ∙ (λ i. filter (λ id. (holds id ∙ ap (λ (len : ℕ). is_some (keeping len (older (last id)))) (sym alike.len)) i) order);
  }
    where
      now : (id : MsgId) → keeping_in new id ≡ keeping old.cache.len (older (last id))
      now id =
          ap (option_map to_keeping) (ageing id)
          ∙ ages old.cache.len (cache.cached old.cache id)
          ∙ ap (λ (k : Option Keeping). keeping old.cache.len (older k)) (has.keeps id)
          ∙ lost_for_good old.cache.len (last id)

      mapped : {A B : Type 0} (f : A → B) (o : Option A) → is_some o ≡ is_some (option_map f o)
      mapped f None = refl
      mapped f (Some x) = refl

      holds : (id : MsgId) → is_some (cache.cached new.cache id) ≡ is_some (keeping old.cache.len (older (last id)))
      holds id = mapped to_keeping (cache.cached new.cache id) ∙ ap is_some (now id)

  -- ---- a mark

  -- a message was put
  pub was_put : (event : Event) (id : MsgId) (t : Topic) (m : Message) → m ≡ message_in event
      → ((other : MsgId) → cache.cached new.cache other ≡ cache.put_anew id t m other (cache.cached old.cache other))
      → ((other : MsgId) (q : PeerNo) → cache.left new.cache other q ≡ cache.all_left id old.cache.answers other (cache.left old.cache other q))
      → new.cache.order ≡ cache.put_last id old.cache.order
      → HasKept new (λ other. kept_after other event (Cached id t) (last other)) (λ q other. answered_after q other (Cached id t) (given q other)) (order_after (Cached id t) order)
  was_put event id t m is holds resets orders = record {
    some = len_some;
    keeps = λ other. ap (option_map to_keeping) (holds other) ∙ kept_so other (same_id id other) ∙ ap (λ (len : ℕ). keeping len (kept_after other event (Cached id t) (last other))) (sym alike.len);
    leaves = λ q other. resets other q ∙ left_so q other (same_id id other) ∙ ap₂ (λ (most len : ℕ). left_of most (keeping len (kept_after other event (Cached id t) (last other))) (answered_after q other (Cached id t) (given q other))) (sym alike.answers) (sym alike.len);
    orders = orders
        ∙ ap (λ (ids : List MsgId). filter (λ other. not (same_id id other)) ids ++ id ∷ []) has.orders
        ∙ ap (λ (ids : List MsgId). ids ++ id ∷ []) (sym (filter_within (λ other. is_some (keeping old.cache.len (kept_after other event (Cached id t) (last other)))) (λ other. is_some (keeping old.cache.len (last other))) (λ other. not (same_id id other)) order apart))
        ∙ ap (λ (ids : List MsgId). filter (λ other. is_some (keeping old.cache.len (kept_after other event (Cached id t) (last other)))) (filter (λ other. not (same_id id other)) order) ++ ids) (sym (ap (λ (b : Bool). cond b (id ∷ []) []) itself))
        ∙ sym (filter-append (λ other. is_some (keeping old.cache.len (kept_after other event (Cached id t) (last other)))) (filter (λ other. not (same_id id other)) order) (id ∷ []))
        ∙ (λ i. filter (λ other. is_some (keeping (sym alike.len i) (kept_after other event (Cached id t) (last other)))) (order_after (Cached id t) order));
  }
    where
      anew : Keeping
      anew = record { topic = t; message = message_in event; age = 0 }

      young : nat_lt 0 old.cache.len ≡ true
      young = grind (arith, nat_tests, has.some)

      kept_so : (other : MsgId) (b : Bool) → option_map to_keeping (if b then Some (record { age = 0; topic = t; message = m }) else cache.cached old.cache other) ≡ keeping old.cache.len (if b then Some anew else last other)
      kept_so other true = ap (λ (message : Message). Some (record { topic = t; message = message; age = 0 })) is ∙ sym (ap (λ (c : Bool). if c then Some anew else None) young)
      kept_so other false = has.keeps other

      left_so : (q : PeerNo) (other : MsgId) (b : Bool) → (if b then Some old.cache.answers else cache.left old.cache other q) ≡ left_of old.cache.answers (keeping old.cache.len (if b then Some anew else last other)) (if b then 0 else given q other)
      left_so q other true =
          let all : old.cache.answers ≡ old.cache.answers - 0 = omega arith in
          ap Some all ∙ sym (ap (λ (c : Bool). left_of old.cache.answers (if c then Some anew else None) 0) young)
      left_so q other false = has.leaves q other

      apart_by : (other : MsgId) (b : Bool) → not b ≡ true → is_some (keeping old.cache.len (if b then Some anew else last other)) ≡ is_some (keeping old.cache.len (last other))
      apart_by other true other_one = absurd cc
      apart_by other false other_one = refl

      apart : (other : MsgId) → not (same_id id other) ≡ true → is_some (keeping old.cache.len (kept_after other event (Cached id t) (last other))) ≡ is_some (keeping old.cache.len (last other))
      apart other other_one = apart_by other (same_id id other) other_one

      itself : is_some (keeping old.cache.len (kept_after id event (Cached id t) (last id))) ≡ true
      itself =
          ap (λ (b : Bool). is_some (keeping old.cache.len (if b then Some anew else last id))) (nat_list_eq_equiv.refl id.0)
          ∙ ap (λ (c : Bool). is_some (if c then Some anew else None)) young

-- ---- the marks of an entry

-- what was kept, how often it was given and in which order may be said in other words
has_alike : (table : Messages) (last last' : MsgId → Option Keeping) (given given' : PeerNo → MsgId → ℕ) (order order' : List MsgId)
    → ((id : MsgId) → last' id ≡ last id) → ((q : PeerNo) (id : MsgId) → given' q id ≡ given q id) → order' ≡ order
    → HasKept table last given order → HasKept table last' given' order'
has_alike table last last' given given' order order' same_last same_given same_order has = record {
  some = has.some;
  keeps = λ id. has.keeps id ∙ ap (keeping table.cache.len) (sym (same_last id));
  leaves = λ q id. has.leaves q id ∙ ap₂ (λ (k : Option Keeping) (n : ℕ). left_of table.cache.answers (keeping table.cache.len k) n) (sym (same_last id)) (sym (same_given q id));
  orders = has.orders ∙ (λ i. filter (λ id. is_some (keeping table.cache.len (sym (same_last id) i))) (sym same_order i));
}

-- these marks that came with an event were noted
pub record Noting (event : Event) (marks : List Mark) (old new : Messages) : Type 0 where
  pub has
      : (last : MsgId → Option Keeping) (given : PeerNo → MsgId → ℕ) (order : List MsgId)
      → HasKept old last given order
      → HasKept new
      (λ id. after_marks (kept_after id event) marks (last id))
      (λ q id. after_marks (answered_after q id) marks (given q id))
      (after_marks order_after marks order)
  pub alike : IsMadeAlike old new

-- one more was
pub noted_more : (event : Event) (marks : List Mark) (i : ℕ) (mark : Mark) (old now new : Messages) → i < length marks → mark ≡ get_or marks i mark
    → ((last : MsgId → Option Keeping) (given : PeerNo → MsgId → ℕ) (order : List MsgId) → HasKept now last given order
    → HasKept new (λ id. kept_after id event mark (last id)) (λ q id. answered_after q id mark (given q id)) (order_after mark order))
    → IsMadeAlike now new
    → Noting event (take i marks) old now → Noting event (take (i + 1) marks) old new
noted_more event marks i mark old now new below is one same noting = subst (λ (ms : List Mark). Noting event ms old new) (sym (take_more marks i mark below ∙ ap (λ (x : Mark). take i marks ++ x ∷ []) (sym is))) (record {
  has = λ last given order has.
      let front : List Mark = take i marks in
      has_alike new _ _ _ _ _ _
      (λ id. marks_more (kept_after id event) front mark (last id))
      (λ q id. marks_more (answered_after q id) front mark (given q id))
      (marks_more order_after front mark order)
      (one _ _ _ (noting.has last given order has));
  alike = record { len = same.len ∙ noting.alike.len; gossip = same.gossip ∙ noting.alike.gossip; answers = same.answers ∙ noting.alike.answers };
})

-- all were
pub noted_all : (e : Entry) (L : Entries) (old new : Messages) (marks : List Mark) → marks ≡ e.effects.marks → Noting e.event marks old new → AgreesOnMessages old (unmarked e ∷ L) → AgreesOnMessages new (e ∷ L)
noted_all e L old new marks are noting agrees =
    (subst (λ (ms : List Mark). Noting e.event ms old new) are noting).has (last_kept (unmarked e ∷ L)) (answered (unmarked e ∷ L)) (keeping_order (unmarked e ∷ L)) agrees

-- ---- gossip

gossiped_so : (most : ℕ) (t : Topic) (c : Option cache.Cached) → cache.is_announced most t c ≡ is_gossiped most t (option_map to_keeping c)
gossiped_so most t None = refl
gossiped_so most t (Some c) = refl

gossiped_is_kept : (most : ℕ) (t : Topic) (k : Option Keeping) → is_gossiped most t k ≡ true → is_some k ≡ true
gossiped_is_kept most t None is = absurd cc
gossiped_is_kept most t (Some k) is = refl

-- what the cache announces is what of all that was ever kept is gossiped
announced_so : (table : Messages) (t : Topic) (last : MsgId → Option Keeping) (given : PeerNo → MsgId → ℕ) (order : List MsgId) → HasKept table last given order
    → filter (λ id. cache.is_announced table.cache.gossip t (cache.cached table.cache id)) table.cache.order ≡ filter (λ id. is_gossiped table.cache.gossip t (keeping table.cache.len (last id))) order
announced_so table t last given order has =
    (λ i. filter (λ id. (gossiped_so table.cache.gossip t (cache.cached table.cache id) ∙ ap (is_gossiped table.cache.gossip t) (has.keeps id)) i) (has.orders i))
    ∙ filter_stronger (λ id. is_gossiped table.cache.gossip t (keeping table.cache.len (last id))) (λ id. is_some (keeping table.cache.len (last id))) order (λ id is. gossiped_is_kept table.cache.gossip t (keeping table.cache.len (last id)) is)

pub gossip_so : (table : Messages) (t : Topic) (p : Peer) (L : Entries) → AgreesOnMessages table L → table.cache.len ≡ windows p → table.cache.gossip ≡ p.params.timing.mcache_gossip
    → cache.announced table.cache t ≡ gossip p L t
gossip_so table t p L agrees len most =
    ap (last_of most_identifiers) (announced_so table t (last_kept L) (answered L) (keeping_order L) agrees)
    ∙ ap₂ (λ (most len : ℕ). last_of most_identifiers (filter (λ (id : MsgId). is_gossiped most t (keeping len (last_kept L id))) (keeping_order L))) most len

pub some_listed : (ids : List MsgId) → not (length ids == 0) ≡ is_some_list ids
some_listed [] = refl
some_listed (id ∷ ids) = more_than_none (length ids)
