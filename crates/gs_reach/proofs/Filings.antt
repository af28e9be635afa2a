-- One more of what is filed.
use Rattle.std.proofs.Common.{◌≡◌, ◌++◌, ◌∙◌, ℕ, Bool, true, false, cond, List, [], ◌∷◌, map, refl, sym, ap, ap₂}
use Rattle.std.specs.List.{filter}
use Rattle.gs_base.specs.declared.names.Topic.{Topic}
use Rattle.gs_base.specs.Names.{same_topic}
use Rattle.gs_rules.specs.Rules.{same_bytes}
use Rattle.gs_reach.specs.declared.keys.Payload.{Payload}
use Rattle.gs_reach.specs.declared.keys.TopicPayload.{TopicPayload}
use Rattle.gs_reach.specs.declared.listed.Appearance.{Appearance}
use Rattle.gs_reach.specs.declared.listed.Arrival.{Arrival}
use Rattle.gs_reach.specs.declared.listed.Change.{Change}
use Rattle.gs_reach.specs.declared.listed.Turn.{Turn}
use Rattle.gs_reach.specs.Filed.{said_of, same_payload, same_said}
use Rattle.gs_reach.specs.Messages.{appearances, are_of_one, arrival_of, arrivals, turn_of, turns}

last_one : {X Y : Type 0} (f : X → Y) (x : X) (b : Bool) → map f (cond b (x ∷ []) []) ≡ cond b (f x ∷ []) []
last_one f x true = refl
last_one f x false = refl

ahead : {X Y : Type 0} (f : X → Y) (y : X) (more : List Y) (b : Bool) (us vs : List X) → map f us ≡ map f vs ++ more
    → map f (cond b (y ∷ us) us) ≡ map f (cond b (y ∷ vs) vs) ++ more
ahead f y more true us vs e = ap (λ zs. f y ∷ zs) e
ahead f y more false us vs e = e

-- one more at the end is kept if it passes
mapped_more : {X Y : Type 0} (f : X → Y) (p : X → Bool) (xs : List X) (x : X)
    → map f (filter p (xs ++ x ∷ [])) ≡ map f (filter p xs) ++ cond (p x) (f x ∷ []) []
mapped_more f p [] x = last_one f x (p x)
mapped_more f p (y ∷ ys) x =
    ahead f y (cond (p x) (f x ∷ []) []) (p y) (filter p (ys ++ x ∷ [])) (filter p ys) (mapped_more f p ys x)

pub published_more : (m one : Appearance) (before : List Appearance) (old new : List Arrival) (key : TopicPayload) (value : Arrival)
    → key ≡ said_of one → value ≡ arrival_of one → old ≡ appearances m before
    → new ≡ old ++ cond (same_said (said_of m) key) (value ∷ []) []
    → new ≡ appearances m (before ++ one ∷ [])
published_more m one before old new key value k v o n =
    n
    ∙ ap₂ (λ (xs : List Arrival) (t : TopicPayload). xs ++ cond (same_said (said_of m) t) (value ∷ []) []) o k
    ∙ ap (λ (a : Arrival). appearances m before ++ cond (are_of_one m one) (a ∷ []) []) v
    ∙ sym (mapped_more arrival_of (are_of_one m) before one)

pub delivered_more : (payload : List ℕ) (one : Appearance) (before : List Appearance) (old new : List Arrival) (key : Payload) (value : Arrival)
    → key ≡ record { 0 = one.payload } → value ≡ arrival_of one → old ≡ arrivals payload before
    → new ≡ old ++ cond (same_payload (record { 0 = payload }) key) (value ∷ []) []
    → new ≡ arrivals payload (before ++ one ∷ [])
delivered_more payload one before old new key value k v o n =
    n
    ∙ ap₂ (λ (xs : List Arrival) (t : Payload). xs ++ cond (same_payload (record { 0 = payload }) t) (value ∷ []) []) o k
    ∙ ap (λ (a : Arrival). arrivals payload before ++ cond (same_bytes payload one.payload) (a ∷ []) []) v
    ∙ sym (mapped_more arrival_of (λ (x : Appearance). same_bytes payload x.payload) before one)

pub turns_more : (t : Topic) (one : Change) (before : List Change) (old new : List Turn) (key : Topic) (value : Turn)
    → key ≡ one.topic → value ≡ turn_of one → old ≡ turns t before
    → new ≡ old ++ cond (same_topic t key) (value ∷ []) []
    → new ≡ turns t (before ++ one ∷ [])
turns_more t one before old new key value k v o n =
    n
    ∙ ap₂ (λ (xs : List Turn) (u : Topic). xs ++ cond (same_topic t u) (value ∷ []) []) o k
    ∙ ap (λ (a : Turn). turns t before ++ cond (same_topic t one.topic) (a ∷ []) []) v
    ∙ sym (mapped_more turn_of (λ (c : Change). same_topic t c.topic) before one)
