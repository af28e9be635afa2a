-- RPCs that `==` calls equal are one.
use Rattle.std.proofs.Common.{◌≡◌, ℕ, Bool, true, nat_eq, List, [], ◌∷◌, Option, None, Some, refl, ap}
use Rattle.std.specs.Prelude.{◌&&◌}
use Rattle.std.specs.Option.{option_eq}
use Rattle.std.specs.Cmp.{booleans_Decides, first_so, second_so, unsigned_Decides}
use Rattle.std.specs.Cmp.Lexicographic.{pointwise}
use Rattle.std.proofs.Math.Bool.{beq}
use Rattle.gs_base.specs.declared.names.Topic.{Topic}
use Rattle.gs_base.specs.declared.rpc.SubOpt.{SubOpt}
use Rattle.gs_base.specs.declared.rpc.Message.{Message}
use Rattle.gs_base.specs.declared.rpc.Rpc.{Rpc}
use Rattle.gs_base.specs.declared.control.IHave.{IHave}
use Rattle.gs_base.specs.declared.control.IWant.{IWant}
use Rattle.gs_base.specs.declared.control.Graft.{Graft}
use Rattle.gs_base.specs.declared.control.Prune.{Prune}
use Rattle.gs_base.specs.declared.control.Control.{Control}

-- what a test calls equal is one
abbrev Tells : {A : Type 0} → (A → A → Bool) → Type 0
Tells {A} test = (x y : A) → test x y ≡ true → x ≡ y

-- ---- lists, options, and two tests of one value

lists : {A : Type 0} (test : A → A → Bool) → Tells test → Tells (pointwise test)
lists test tells [] [] is = refl
lists test tells [] (y ∷ ys) is = absurd cc
lists test tells (x ∷ xs) [] is = absurd cc
lists test tells (x ∷ xs) (y ∷ ys) is =
    let first : x ≡ y = tells x y (first_so (test x y) (pointwise test xs ys) is) in
    let rest : xs ≡ ys = lists test tells xs ys (second_so (test x y) (pointwise test xs ys) is) in
    λ i. first i ∷ rest i

options : {A : Type 0} (test : A → A → Bool) → Tells test → Tells (option_eq test)
options test tells None None is = refl
options test tells None (Some y) is = absurd cc
options test tells (Some x) None is = absurd cc
options test tells (Some x) (Some y) is = ap Some (tells x y is)

-- where two tests pass, both do
both : (a b : Bool) → (a && b) ≡ true → (a ≡ true) × (b ≡ true)
both a b is = (first_so a b is, second_so a b is)

-- ---- what an RPC has

abbrev bytes : List ℕ → List ℕ → Bool
bytes = pointwise nat_eq

same_bytes : Tells bytes
same_bytes = lists nat_eq (λ x y. (unsigned_Decides x y).0)

abbrev some_bytes : Option (List ℕ) → Option (List ℕ) → Bool
some_bytes = option_eq bytes

same_some_bytes : Tells some_bytes
same_some_bytes = options bytes same_bytes

abbrev topics : Topic → Topic → Bool
topics t u = bytes t.0 u.0

same_topics : Tells topics
same_topics t u is = ap (λ (name : List ℕ). record { 0 = name }) (same_bytes t.0 u.0 is)

abbrev some_topics : Option Topic → Option Topic → Bool
some_topics = option_eq topics

same_some_topics : Tells some_topics
same_some_topics = options topics same_topics

abbrev subs : SubOpt → SubOpt → Bool
subs x y = option_eq beq x.subscribe y.subscribe && some_topics x.topic y.topic

same_subs : Tells subs
same_subs x y is =
    let s : (option_eq beq x.subscribe y.subscribe ≡ true) × (some_topics x.topic y.topic ≡ true) = both (option_eq beq x.subscribe y.subscribe) (some_topics x.topic y.topic) is in
    let way : x.subscribe ≡ y.subscribe = options beq (λ a b. (booleans_Decides a b).0) x.subscribe y.subscribe s.0 in
    let name : x.topic ≡ y.topic = same_some_topics x.topic y.topic s.1 in
    λ i. record { subscribe = way i; topic = name i }

abbrev keys : Message → Message → Bool
keys x y = some_bytes x.signature y.signature && some_bytes x.key y.key

abbrev topics_on : Message → Message → Bool
topics_on x y = some_topics x.topic y.topic && keys x y

abbrev numbers_on : Message → Message → Bool
numbers_on x y = some_bytes x.seqno y.seqno && topics_on x y

abbrev payloads_on : Message → Message → Bool
payloads_on x y = some_bytes x.payload y.payload && numbers_on x y

abbrev messages : Message → Message → Bool
messages x y = some_bytes x.origin y.origin && payloads_on x y

same_messages : Tells messages
same_messages x y is =
    let a = both (some_bytes x.origin y.origin) (payloads_on x y) is in
    let b = both (some_bytes x.payload y.payload) (numbers_on x y) a.1 in
    let c = both (some_bytes x.seqno y.seqno) (topics_on x y) b.1 in
    let d = both (some_topics x.topic y.topic) (keys x y) c.1 in
    let e = both (some_bytes x.signature y.signature) (some_bytes x.key y.key) d.1 in
    let from : x.origin ≡ y.origin = same_some_bytes x.origin y.origin a.0 in
    let text : x.payload ≡ y.payload = same_some_bytes x.payload y.payload b.0 in
    let number : x.seqno ≡ y.seqno = same_some_bytes x.seqno y.seqno c.0 in
    let name : x.topic ≡ y.topic = same_some_topics x.topic y.topic d.0 in
    let signed : x.signature ≡ y.signature = same_some_bytes x.signature y.signature e.0 in
    let opens : x.key ≡ y.key = same_some_bytes x.key y.key e.1 in
    λ i. record { origin = from i; payload = text i; seqno = number i; topic = name i; signature = signed i; key = opens i }

abbrev ihaves : IHave → IHave → Bool
ihaves x y = some_topics x.topic y.topic && pointwise bytes x.ids y.ids

same_ihaves : Tells ihaves
same_ihaves x y is =
    let s = both (some_topics x.topic y.topic) (pointwise bytes x.ids y.ids) is in
    let name : x.topic ≡ y.topic = same_some_topics x.topic y.topic s.0 in
    let all : x.ids ≡ y.ids = lists bytes same_bytes x.ids y.ids s.1 in
    λ i. record { topic = name i; ids = all i }

abbrev iwants : IWant → IWant → Bool
iwants x y = pointwise bytes x.ids y.ids

same_iwants : Tells iwants
same_iwants x y is =
    let all : x.ids ≡ y.ids = lists bytes same_bytes x.ids y.ids is in
    λ i. record { ids = all i }

abbrev grafts : Graft → Graft → Bool
grafts x y = some_topics x.topic y.topic

same_grafts : Tells grafts
same_grafts x y is =
    let name : x.topic ≡ y.topic = same_some_topics x.topic y.topic is in
    λ i. record { topic = name i }

abbrev prunes : Prune → Prune → Bool
prunes x y = some_topics x.topic y.topic && option_eq nat_eq x.backoff y.backoff

same_prunes : Tells prunes
same_prunes x y is =
    let s = both (some_topics x.topic y.topic) (option_eq nat_eq x.backoff y.backoff) is in
    let name : x.topic ≡ y.topic = same_some_topics x.topic y.topic s.0 in
    let wait : x.backoff ≡ y.backoff = options nat_eq (λ a b. (unsigned_Decides a b).0) x.backoff y.backoff s.1 in
    λ i. record { topic = name i; backoff = wait i }

abbrev meshes : Control → Control → Bool
meshes x y = pointwise grafts x.graft y.graft && pointwise prunes x.prune y.prune

abbrev requests : Control → Control → Bool
requests x y = pointwise iwants x.iwant y.iwant && meshes x y

abbrev controls : Control → Control → Bool
controls x y = pointwise ihaves x.ihave y.ihave && requests x y

same_controls : Tells controls
same_controls x y is =
    let a = both (pointwise ihaves x.ihave y.ihave) (requests x y) is in
    let b = both (pointwise iwants x.iwant y.iwant) (meshes x y) a.1 in
    let c = both (pointwise grafts x.graft y.graft) (pointwise prunes x.prune y.prune) b.1 in
    let offers : x.ihave ≡ y.ihave = lists ihaves same_ihaves x.ihave y.ihave a.0 in
    let asks : x.iwant ≡ y.iwant = lists iwants same_iwants x.iwant y.iwant b.0 in
    let takes : x.graft ≡ y.graft = lists grafts same_grafts x.graft y.graft c.0 in
    let leaves : x.prune ≡ y.prune = lists prunes same_prunes x.prune y.prune c.1 in
    λ i. record { ihave = offers i; iwant = asks i; graft = takes i; prune = leaves i }

-- ---- RPCs

abbrev bodies : Rpc → Rpc → Bool
bodies x y = pointwise messages x.publish y.publish && option_eq controls x.control y.control

abbrev pub rpcs : Rpc → Rpc → Bool
rpcs x y = pointwise subs x.subs y.subs && bodies x y

pub same_rpc : Tells rpcs
same_rpc x y is =
    let a = both (pointwise subs x.subs y.subs) (bodies x y) is in
    let b = both (pointwise messages x.publish y.publish) (option_eq controls x.control y.control) a.1 in
    let changes : x.subs ≡ y.subs = lists subs same_subs x.subs y.subs a.0 in
    let passes : x.publish ≡ y.publish = lists messages same_messages x.publish y.publish b.0 in
    let says : x.control ≡ y.control = options controls same_controls x.control y.control b.1 in
    λ i. record { subs = changes i; publish = passes i; control = says i }
