-- What a task keeps is kept when a slot is taken, and when one is accepted.
use Rattle.std.proofs.Common.{◌≡◌, ◌≢◌, ◌<◌, ◌+◌, inl, inr, ℕ, suc, true, false, List, [], ◌∷◌, ◌++◌, length, take, drop, get_or, set, refl, sym, ap, ap₂, subst, ◌∙◌, eq-eqb, append-nil, true≢false, arith}
use Rattle.std.specs.List.{AllByRecursion, IsDistinct}
use Rattle.std.proofs.lemmas.List.{set_split, set-get_or, drop_more, take-append-drop}
use Rattle.std.proofs.lemmas.Map.Keys.{IsDistinct-head, IsDistinct-tail}
use Rattle.gs_base.specs.declared.names.PeerNo.{PeerNo}
use Rattle.gs_base.specs.Names.{same_peer}
use Rattle.gs_base.specs.Tokens.{Said}
use Rattle.gs_params.specs.Seeding.{SeededState}
use Rattle.gs_params.proofs.Picking.{distinct_from_ascending}
use Rattle.gs_link.specs.declared.item.Slot.{Slot}
use Rattle.gs_link.specs.declared.item.Slot.TheVariants.{Piece, Round, Close}
use Rattle.gs_link.specs.Flat.{flat}
use Rattle.gs_link.specs.Runs.{closes as slots_close}
use Rattle.gs_link.proofs.Flats.{flat-append}
use Rattle.gs_rules.specs.declared.refusal.RefusedLine.{RefusedLine}
use Rattle.gs_rules.specs.Peers.{links_of}
use Rattle.gs_rules.specs.Tables.{Entries}
use Rattle.gs_rules.specs.Rounds.{Seat, Phase}
use Rattle.gs_router.specs.Router.{RouterView}
use Rattle.gs_ends.specs.Ends.{Joint, OthersStay, has}
use Rattle.gs_peer.specs.declared.outboxes.Outboxes.{Outboxes}
use Rattle.gs_peer.specs.Inboxes.{InboxView, Listens, Reads, is_full, peers_of}
use Rattle.gs_peer.specs.Kept.{BoxKept, InboxKept, Kept}
use Rattle.gs_peer.specs.Life.{words_of}
use Rattle.gs_peer.specs.Outboxes.{gathered_in, is_open, waiting}
use Rattle.gs_peer.specs.Phases.{rounds_ended}
use Rattle.gs_peer.proofs.Grows.{all_stay, same_or}
use Rattle.gs_player.proofs.Growing.{GoesOn}
use Rattle.gs_peer.proofs.Begun.{begun_stays}
use Rattle.gs_peer.proofs.Listening.{listened, right_false}
use Rattle.gs_peer.proofs.SlotWords.{closes_flat}

-- ---- lists of inboxes

-- each number once
abbrev pub Apart : List PeerNo → Type 0
Apart [] = Unit {0}
Apart (q ∷ qs) = AllByRecursion (λ r. r ≢ q) qs × Apart qs

others_differ : (q : PeerNo) (qs : List PeerNo) → AllByRecursion (λ r. same_peer q r ≡ false) qs → AllByRecursion (λ r. r ≢ q) qs
others_differ q [] h = tt
others_differ q (r ∷ qs) h = (λ is. true≢false (sym (ap (λ (s : PeerNo). same_peer q s) is ∙ eq-eqb q.0 q.0 refl) ∙ h.0), others_differ q qs h.1)

distinct_apart : (qs : List PeerNo) → IsDistinct same_peer qs → Apart qs
distinct_apart [] h = tt
distinct_apart (q ∷ qs) h = (others_differ q qs (IsDistinct-head same_peer q qs h), distinct_apart qs (IsDistinct-tail same_peer q qs h))

pub each_mid : {A : Type 0} (P : A → Type 0) (pre : List A) (x : A) (post : List A) → AllByRecursion P (pre ++ x ∷ post) → P x
each_mid P [] x post h = h.0
each_mid P (y ∷ pre) x post h = each_mid P pre x post h.1

apart_behind : (P Q : InboxView → Type 0) (q : PeerNo) (xs : List InboxView) → ((x : InboxView) → x.peer ≢ q → P x → Q x) → AllByRecursion (λ r. r ≢ q) (peers_of xs) → AllByRecursion P xs → AllByRecursion Q xs
apart_behind P Q q [] f a h = tt
apart_behind P Q q (x ∷ xs) f a h = (f x a.0 h.0, apart_behind P Q q xs f a.1 h.1)

mid_apart : (q : PeerNo) (pre : List InboxView) (x : InboxView) (post : List InboxView) → AllByRecursion (λ r. r ≢ q) (peers_of (pre ++ x ∷ post)) → x.peer ≢ q
mid_apart q [] x post h = h.0
mid_apart q (y ∷ pre) x post h = mid_apart q pre x post h.1

-- one is replaced, and what is known of the others depends on others
each_but : (P Q : InboxView → Type 0) (pre : List InboxView) (x y : InboxView) (post : List InboxView) → Apart (peers_of (pre ++ x ∷ post)) → ((z : InboxView) → z.peer ≢ x.peer → P z → Q z) → AllByRecursion P (pre ++ x ∷ post) → Q y → AllByRecursion Q (pre ++ y ∷ post)
each_but P Q [] x y post a f h k = (k, apart_behind P Q x.peer post f a.0 h.1)
each_but P Q (z ∷ pre) x y post a f h k = (f z (λ e. mid_apart z.peer pre x post a.0 (sym e)) h.0, each_but P Q pre x y post a.1 f h.1 k)

peers_but : (pre : List InboxView) (x y : InboxView) (post : List InboxView) → y.peer ≡ x.peer → peers_of (pre ++ y ∷ post) ≡ peers_of (pre ++ x ∷ post)
peers_but [] x y post h = ap (λ (q : PeerNo). q ∷ peers_of post) h
peers_but (z ∷ pre) x y post h = ap (λ (qs : List PeerNo). z.peer ∷ qs) (peers_but pre x y post h)

peers_each : (P : InboxView → Type 0) (Q : PeerNo → Type 0) → ((x : InboxView) → P x → Q x.peer) → (xs : List InboxView) → AllByRecursion P xs → AllByRecursion Q (peers_of xs)
peers_each P Q f [] h = tt
peers_each P Q f (x ∷ xs) h = (f x h.0, peers_each P Q f xs h.1)

-- in a phase
pub mid_is : {A : Type 0} (xs : List A) (i : ℕ) (x : A) → i < length xs → x ≡ get_or xs i x → xs ≡ take i xs ++ x ∷ drop (suc i) xs
mid_is xs i x low is =
    let same : i + 1 ≡ suc i = omega arith in
    sym (take-append-drop i xs) ∙ ap (λ ys. take i xs ++ ys) (drop_more xs i x low ∙ ap₂ (λ y n. y ∷ drop n xs) (sym is) same)

pub each_at : {A : Type 0} (P : A → Type 0) (xs : List A) (i : ℕ) (x : A) → i < length xs → x ≡ get_or xs i x → AllByRecursion P xs → P x
each_at P xs i x low is h = each_mid P (take i xs) x (drop (suc i) xs) (subst (AllByRecursion P) (mid_is xs i x low is) h)

-- ---- a slot is taken

reads_peer : (phase : Phase) (x new : InboxView) (slot : Slot) → Reads phase x slot new → new.peer ≡ x.peer
reads_peer phase x new (Piece bytes) (reader, found, feeds, is) = ap (λ (y : InboxView). y.peer) is
reads_peer phase x new (Round r) is = ap (λ (y : InboxView). y.peer) is
reads_peer phase x new Close is = ap (λ (y : InboxView). y.peer) is

module _ (seat : Seat) (phase : Phase) (boxes : Outboxes) (v : RouterView) (refused : List RefusedLine) (first words : SeededState) where
  -- what a task keeps is kept of any words that are the same for each neighbour
  kept_words : (said said' sent sent' : PeerNo → Said) (xs : List InboxView) → ((q : PeerNo) → said' q ≡ said q) → ((q : PeerNo) → sent' q ≡ sent q) → Kept seat said sent phase xs boxes v refused first words → Kept seat said' sent' phase xs boxes v refused first words
  kept_words said said' sent sent' xs a b k =
      let same_said : said ≡ said' = (λ i q. sym (a q) i) in
      let same_sent : sent ≡ sent' = (λ i q. sym (b q) i) in
      subst (λ (w : PeerNo → Said). Kept seat w sent' phase xs boxes v refused first words) same_said (subst (λ (w : PeerNo → Said). Kept seat said w phase xs boxes v refused first words) same_sent k)

  kept_took : (said said' sent : PeerNo → Said) (pre : List InboxView) (x : InboxView) (post : List InboxView) (new : InboxView) (slot : Slot)
      → Kept seat said sent phase (pre ++ x ∷ post) boxes v refused first words
      → is_full x ≡ false
      → Reads phase x slot new
      → said' x.peer ≡ said x.peer ++ flat (slot ∷ [])
      → ((q : PeerNo) → q ≢ x.peer → said' q ≡ said q)
      → Kept seat said' sent phase (pre ++ new ∷ post) boxes v refused first words
  kept_took said said' sent pre x post new slot k waits reads mine others =
      let same : new.peer ≡ x.peer = reads_peer phase x new slot reads in
      let apart : Apart (peers_of (pre ++ x ∷ post)) = subst Apart (sym k.names) (distinct_apart (links_of seat.peer) (distinct_from_ascending (links_of seat.peer) k.ascending)) in
      let P : InboxView → Type 0 = λ y. InboxKept seat phase v.trace (said y.peer) y in
      let own = each_mid P pre x post k.hears in
      let goes : AllByRecursion (GoesOn (rounds_ended seat phase) said said') (peers_of (pre ++ x ∷ post)) =
      peers_each (λ (y : InboxView). GoesOn (rounds_ended seat phase) said said' y.peer) (GoesOn (rounds_ended seat phase) said said') (λ y h. h) (pre ++ x ∷ post)
      (each_but P (λ (y : InboxView). GoesOn (rounds_ended seat phase) said said' y.peer) pre x x post apart (λ y other h. (h.stable, [], others y.peer other ∙ sym (append-nil (said y.peer)))) k.hears
      (own.stable, flat (slot ∷ []), mine)) in
      record {
        peer = k.peer;
        names = peers_but pre x new post same ∙ k.names;
        ascending = k.ascending;
        running = k.running;
        time = k.time;
        legal = k.legal;
        begun = begun_stays seat phase said said' v.trace refused (subst (AllByRecursion (GoesOn (rounds_ended seat phase) said said')) k.names goes) k.begun;
        hears = each_but P (λ (y : InboxView). InboxKept seat phase v.trace (said' y.peer) y) pre x new post apart
            (λ y other h. subst (λ (w : Said). InboxKept seat phase v.trace w y) (sym (others y.peer other)) h) k.hears
            (subst (λ (q : PeerNo). InboxKept seat phase v.trace (said' q) new) (sym same) (listened seat phase v.trace (said x.peer) (said' x.peer) x new slot own waits reads mine));
        says = k.says;
      }

  -- what is taken of one neighbour
  pub kept_listens : (tak tak' acc acc' : PeerNo → List Slot) (xs : List InboxView) (i : ℕ) (x new : InboxView)
      → Kept seat (words_of tak) (words_of acc) phase xs boxes v refused first words
      → i < length xs
      → x ≡ get_or xs i x
      → is_full x ≡ false
      → Listens phase (tak x.peer) (tak' x.peer) x new
      → OthersStay x.peer tak tak'
      → ((q : PeerNo) → acc' q ≡ acc q)
      → Kept seat (words_of tak') (words_of acc') phase (set xs i new) boxes v refused first words
  kept_listens tak tak' acc acc' xs i x new k low is waits (inl h) others same =
      subst (λ (ys : List InboxView). Kept seat (words_of tak') (words_of acc') phase ys boxes v refused first words) (sym (ap (set xs i) (h.1 ∙ is) ∙ set-get_or xs i x))
      (kept_words (words_of tak) (words_of tak') (words_of acc) (words_of acc') xs (λ q. ap flat (all_stay x.peer tak tak' h.0 others q)) (λ q. ap flat (same q)) k)
  kept_listens tak tak' acc acc' xs i x new k low is waits (inr h) others same =
      kept_words (words_of tak') (words_of tak') (words_of acc) (words_of acc') (set xs i new) (λ q. refl) (λ q. ap flat (same q))
      (subst (λ (ys : List InboxView). Kept seat (words_of tak') (words_of acc) phase ys boxes v refused first words) (sym (set_split xs i new low))
      (kept_took (words_of tak) (words_of tak') (words_of acc) (take i xs) x (drop (suc i) xs) new h.0
      (subst (λ (ys : List InboxView). Kept seat (words_of tak) (words_of acc) phase ys boxes v refused first words) (mid_is xs i x low is) k) waits h.2
      (ap flat h.1 ∙ flat-append (tak x.peer) (h.0 ∷ [])) (λ q other. ap flat (others q other))))

-- ---- a slot is accepted

boxes_offer : (L : Entries) (sent sent' : PeerNo → Said) (old new : Outboxes) (qs : List PeerNo)
    → ((q : PeerNo) → sent' q ++ flat (waiting new q) ≡ sent q ++ flat (waiting old q))
    → ((q : PeerNo) → is_open new q ≡ is_open old q)
    → ((q : PeerNo) → gathered_in new q ≡ gathered_in old q)
    → AllByRecursion (λ q. BoxKept L (sent q) old q) qs
    → AllByRecursion (λ q. BoxKept L (sent' q) new q) qs
boxes_offer L sent sent' old new [] says opens held k = tt
boxes_offer L sent sent' old new (q ∷ qs) says opens held k =
    (record { is_open = opens q ∙ k.0.is_open; says = says q ∙ k.0.says; gathers = held q ∙ k.0.gathers }, boxes_offer L sent sent' old new qs says opens held k.1)

pub kept_offers : (seat : Seat) (phase : Phase) (tak tak' acc acc' : PeerNo → List Slot) (xs : List InboxView) (old new : Outboxes) (v : RouterView) (refused : List RefusedLine) (first words : SeededState) (p : PeerNo)
    → Kept seat (words_of tak) (words_of acc) phase xs old v refused first words
    → flat (acc' p) ++ flat (waiting new p) ≡ flat (acc p) ++ flat (waiting old p)
    → ((q : PeerNo) → q ≢ p → waiting new q ≡ waiting old q)
    → ((q : PeerNo) → is_open new q ≡ is_open old q)
    → ((q : PeerNo) → gathered_in new q ≡ gathered_in old q)
    → OthersStay p acc acc'
    → ((q : PeerNo) → tak' q ≡ tak q)
    → Kept seat (words_of tak') (words_of acc') phase xs new v refused first words
kept_offers seat phase tak tak' acc acc' xs old new v refused first words p k mine stays opens held others same =
    let says : (q : PeerNo) → flat (acc' q) ++ flat (waiting new q) ≡ flat (acc q) ++ flat (waiting old q) = λ q. elim (same_or p q) [
      | inl y ↦ subst (λ (n : PeerNo). flat (acc' n) ++ flat (waiting new n) ≡ flat (acc n) ++ flat (waiting old n)) y.1 mine
      | inr n ↦ ap₂ (λ (ys zs : List Slot). flat ys ++ flat zs) (others q n.1) (stays q n.1)
    ] in
    let told : words_of tak ≡ words_of tak' = (λ i q. flat (sym (same q) i)) in
    subst (λ (w : PeerNo → Said). Kept seat w (words_of acc') phase xs new v refused first words) told (record {
      peer = k.peer;
      names = k.names;
      ascending = k.ascending;
      running = k.running;
      time = k.time;
      legal = k.legal;
      begun = k.begun;
      hears = k.hears;
      says = boxes_offer v.trace (words_of acc) (words_of acc') old new (links_of seat.peer) says opens held k.says;
    })

-- ---- who may be asked

-- who is not heard in full has not closed
pub not_closed : (seat : Seat) (phase : Phase) (L : Entries) (tak : List Slot) (x : InboxView) → InboxKept seat phase L (flat tak) x → is_full x ≡ false → slots_close tak ≡ false
not_closed seat phase L tak x k waits = sym (closes_flat tak) ∙ k.closed ∙ right_false x.is_marked x.is_closed waits

-- there are ends to and from whoever has an inbox
pub known_at : (joints : List Joint) (qs : List PeerNo) (xs : List InboxView) (i : ℕ) (x : InboxView) → peers_of xs ≡ qs → i < length xs → x ≡ get_or xs i x → AllByRecursion (λ q. has joints q ≡ true) qs → has joints x.peer ≡ true
known_at joints qs xs i x names low is h = each_at (λ (y : InboxView). has joints y.peer ≡ true) xs i x low is (each_inbox xs (subst (AllByRecursion (λ q. has joints q ≡ true)) (sym names) h))
  where
    each_inbox : (ys : List InboxView) → AllByRecursion (λ q. has joints q ≡ true) (peers_of ys) → AllByRecursion (λ (y : InboxView). has joints y.peer ≡ true) ys
    each_inbox [] h = tt
    each_inbox (y ∷ ys) h = (h.0, each_inbox ys h.1)
