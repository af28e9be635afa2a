-- Which messages are announced, window by window.
use Rattle.std.proofs.Common.{◌≡◌, ℕ, suc, ◌+◌, ◌-◌, ◌<◌, ◌≤◌, min, nat_lt, nat_le, Bool, true, false, cond, List, [], ◌∷◌, ◌++◌, append-nil, length, take, drop, get_or, Option, None, Some, option_map, is_some, if◌then◌else◌, refl, sym, ap, ap₂, ◌∙◌, arith, rules}
use Rattle.std.specs.Prelude.{not, ◌==◌, ◌&&◌, ◌||◌, filter}
use Rattle.std.specs.Option.{option_or}
use Rattle.std.specs.List.{list_any}
use Rattle.std.specs.Map.{lookup}
use Rattle.std.proofs.Math.Seq.{drop-cons, take-suc}
use Rattle.std.proofs.lemmas.List.{drop_all, length-drop}
use Rattle.std.proofs.lemmas.List.Elements.{filter-append}
use Rattle.std.proofs.lemmas.List.Folds.{list_any-append}
use Rattle.gs_base.specs.declared.names.MsgId.{MsgId}
use Rattle.gs_base.specs.declared.names.Topic.{Topic}
use Rattle.gs_base.specs.Names.{same_id, same_topic}
use Rattle.gs_cache.specs.declared.message_cache.window.Kept.{Kept}
use Rattle.gs_cache.specs.declared.message_cache.window.Window.{Window}
use Rattle.gs_cache.specs.CachedMessages.{Cached, Put, is_announced, last_of, most_announced}
use Rattle.gs_cache.specs.Windows.{announced_in, has, ids_of, is_on, is_placed, kept_at, listed, order_of, placed, put_of}
use Rattle.gs_cache.proofs.Lists.{filter_alike, filter_all, filter_both, filter_twice, map_map, map_or}
use Rattle.gs_cache.proofs.Finding.{cached_in, put_first, put_in}

-- ---- by what is held

cached_first : (age : ℕ) (w : Window) (ws : List Window) (id : MsgId)
    → cached_in age (w ∷ ws) id ≡ option_or (option_map (λ (k : Kept). (put_of age k).cached) (kept_at w id)) (cached_in (age + 1) ws id)
cached_first age w ws id =
    ap (option_map (λ (p : Put). p.cached)) (put_first age w ws id) ∙ map_or (λ (p : Put). p.cached) (option_map (put_of age) (kept_at w id)) (put_in (age + 1) ws id)
    ∙ ap (λ (o : Option Cached). option_or o (cached_in (age + 1) ws id)) (map_map (λ (p : Put). p.cached) (put_of age) (kept_at w id))

-- in a window, what is announced is what is on the topic, where the window is new enough
module _ (es : List (MsgId × Kept)) (gossip age : ℕ) (topic : Topic) (rest : MsgId → Option Cached) where
  abbrev pub announces : MsgId → Bool
  announces id = is_announced gossip topic (option_or (option_map (λ (k : Kept). (put_of age k).cached) (lookup (same_id id) es)) (rest id))

  abbrev pub speaks : MsgId → Bool
  speaks id = is_on topic (lookup (same_id id) es)

  last : (id : MsgId) (r : List MsgId) (s b : Bool) → filter announces r ≡ (if b then filter speaks r else [])
      → cond (b && s) (id ∷ filter announces r) (filter announces r) ≡ (if b then cond s (id ∷ filter speaks r) (filter speaks r) else [])
  last id r s true same = ap (λ (xs : List MsgId). cond s (id ∷ xs) xs) same
  last id r s false same = same

  step : (i : ℕ) (id : MsgId) (r : List MsgId) (o : Option Kept) → lookup (same_id id) es ≡ o → (p b : Bool) → is_placed i o ≡ p → nat_lt age gossip ≡ b
      → filter announces r ≡ (if b then filter speaks r else [])
      → filter announces (if p then id ∷ r else r) ≡ (if b then filter speaks (if p then id ∷ r else r) else [])
  step i id r None is true b at new same = cc
  step i id r o is false b at new same = same
  step i id r (Some k) is true b at new same =
      ap (λ (c : Bool). cond c (id ∷ filter announces r) (filter announces r))
      (ap (λ (o : Option Kept). is_announced gossip topic (option_or (option_map (λ (k : Kept). (put_of age k).cached) o) (rest id))) is ∙ ap (λ (c : Bool). c && same_topic k.topic topic) new)
      ∙ last id r (same_topic k.topic topic) b same
      ∙ ap (λ (c : Bool). if b then cond c (id ∷ filter speaks r) (filter speaks r) else []) (sym (ap (is_on topic) is))

  none : (b : Bool) → filter announces [] ≡ (if b then filter speaks [] else [])
  none true = refl
  none false = refl

  placed_announced : (i : ℕ) (ids : List MsgId) → filter announces (placed es i ids) ≡ (if nat_lt age gossip then filter speaks (placed es i ids) else [])
  placed_announced i [] = none (nat_lt age gossip)
  placed_announced i (id ∷ ids) =
      step i id (placed es (i + 1) ids) (lookup (same_id id) es) refl (is_placed i (lookup (same_id id) es)) (nat_lt age gossip) refl refl (placed_announced (i + 1) ids)

pub announced_is : (gossip : ℕ) (topic : Topic) (age : ℕ) (ws : List Window) → announced_in age gossip topic ws ≡ filter (λ id. is_announced gossip topic (cached_in age ws id)) (order_of ws)
announced_is gossip topic age [] = refl
announced_is gossip topic age (w ∷ ws) =
    ap₂ (λ (xs ys : List MsgId). xs ++ ys)
    (ap (filter (λ id. not (has w id))) (announced_is gossip topic (age + 1) ws)
    ∙ filter_twice (λ id. not (has w id)) (λ id. is_announced gossip topic (cached_in (age + 1) ws id)) now (λ id. not (has w id)) (λ id. by (kept_at w id) (cached_in (age + 1) ws id)) (order_of ws))
    (sym (placed_announced w.puts.entries gossip age topic (cached_in (age + 1) ws) 0 w.order.items))
    ∙ sym (filter-append now (filter (λ id. not (has w id)) (order_of ws)) (ids_of w))
    ∙ filter_alike now (λ id. is_announced gossip topic (cached_in age (w ∷ ws) id)) (λ id. ap (is_announced gossip topic) (sym (cached_first age w ws id))) (order_of (w ∷ ws))
  where
    now : MsgId → Bool
    now id = is_announced gossip topic (option_or (option_map (λ (k : Kept). (put_of age k).cached) (kept_at w id)) (cached_in (age + 1) ws id))

    and_true : (b : Bool) → (b && true) ≡ b
    and_true true = refl
    and_true false = refl

    and_false : (b : Bool) → (b && false) ≡ false
    and_false true = refl
    and_false false = refl

    by : (o : Option Kept) (c : Option Cached) → (is_announced gossip topic c && not (is_some o))
        ≡ (not (is_some o) && is_announced gossip topic (option_or (option_map (λ (k : Kept). (put_of age k).cached) o) c))
    by None c = and_true (is_announced gossip topic c)
    by (Some k) c = and_false (is_announced gossip topic c)

-- ---- by the windows that are newer

abbrev pub behind : List Window → ℕ → Topic → ℕ → List MsgId
behind ws gossip topic k = filter (λ id. not (list_any (λ n. has n id) (take k ws))) (announced_in k gossip topic (drop k ws))

-- what is too old is not announced
old_silent : (gossip : ℕ) (topic : Topic) (age : ℕ) (ws : List Window) → gossip ≤ age → announced_in age gossip topic ws ≡ []
old_silent gossip topic age [] old = refl
old_silent gossip topic age (w ∷ ws) old =
    let never : nat_lt age gossip ≡ false = search rules in
    ap₂ (λ (xs : List MsgId) (b : Bool). filter (λ id. not (has w id)) xs ++ (if b then filter (λ id. is_on topic (kept_at w id)) (ids_of w) else [])) (old_silent gossip topic (age + 1) ws (omega (arith, old))) never

pub none_yet : (gossip : ℕ) (topic : Topic) (ws : List Window) (k : ℕ) → k ≡ min gossip (length ws) → [] ≡ behind ws gossip topic k
none_yet gossip topic ws k end = by (nat_le gossip (length ws)) refl
  where
    empty : announced_in k gossip topic (drop k ws) ≡ [] → [] ≡ behind ws gossip topic k
    empty is = sym (ap (filter (λ id. not (list_any (λ n. has n id) (take k ws)))) is)

    by : (b : Bool) → nat_le gossip (length ws) ≡ b → [] ≡ behind ws gossip topic k
    by true le = let few : gossip ≤ length ws = search rules in empty (old_silent gossip topic k (drop k ws) (omega (arith, end, few)))
    by false le = let many : length ws < gossip = search rules in
        empty (ap (announced_in k gossip topic) (drop_all k ws (omega (arith, end, many))))

any_more : (ws : List Window) (w : Window) (id : MsgId) → list_any (λ n. has n id) (ws ++ w ∷ []) ≡ (list_any (λ n. has n id) ws || has w id)
any_more ws w id = list_any-append (λ n. has n id) ws (w ∷ []) ∙ by (list_any (λ n. has n id) ws) (has w id)
  where
    by : (a b : Bool) → (a || (b || false)) ≡ (a || b)
    by a true = refl
    by a false = refl

-- the next window's are appended
pub one_more : (gossip : ℕ) (topic : Topic) (ws : List Window) (k : ℕ) (w : Window) → k < length ws → k < gossip → get_or ws k w ≡ w
    → behind ws gossip topic (suc k) ++ listed (take k ws) w topic ≡ behind ws gossip topic k
one_more gossip topic ws k w within new is =
    ap₂ (λ (xs ys : List MsgId). xs ++ ys) front back
    ∙ sym (filter-append newer (filter (λ id. not (has w id)) later) (filter (λ id. is_on topic (kept_at w id)) (ids_of w)))
    ∙ ap (filter newer) (sym (ap (announced_in k gossip topic) (drop-cons ws k w within ∙ ap (λ (v : Window). v ∷ drop (suc k) ws) is) ∙ here))
  where
    newer : MsgId → Bool
    newer id = not (list_any (λ n. has n id) (take k ws))

    later : List MsgId
    later = announced_in (k + 1) gossip topic (drop (suc k) ws)

    here : announced_in k gossip topic (w ∷ drop (suc k) ws) ≡ filter (λ id. not (has w id)) later ++ filter (λ id. is_on topic (kept_at w id)) (ids_of w)
    here = let yes_new : nat_lt k gossip ≡ true = search rules in
        ap (λ (b : Bool). filter (λ id. not (has w id)) later ++ (if b then filter (λ id. is_on topic (kept_at w id)) (ids_of w) else [])) yes_new

    alike : (id : MsgId) → not (list_any (λ n. has n id) (take (suc k) ws)) ≡ (not (has w id) && newer id)
    alike id = ap (λ (vs : List Window). not (list_any (λ n. has n id) vs)) (take-suc ws k w within ∙ ap (λ (v : Window). take k ws ++ v ∷ []) is)
        ∙ ap not (any_more (take k ws) w id) ∙ by (list_any (λ n. has n id) (take k ws)) (has w id)
      where
        by : (a b : Bool) → not (a || b) ≡ (not b && not a)
        by true true = refl
        by true false = refl
        by false true = refl
        by false false = refl

    one : suc k ≡ k + 1
    one = omega arith

    front : behind ws gossip topic (suc k) ≡ filter newer (filter (λ id. not (has w id)) later)
    front = filter_alike (λ id. not (list_any (λ n. has n id) (take (suc k) ws))) (λ id. not (has w id) && newer id) alike (announced_in (suc k) gossip topic (drop (suc k) ws))
        ∙ ap (λ (n : ℕ). filter (λ id. not (has w id) && newer id) (announced_in n gossip topic (drop (suc k) ws))) one
        ∙ sym (filter_both newer (λ id. not (has w id)) later)

    back : listed (take k ws) w topic ≡ filter newer (filter (λ id. is_on topic (kept_at w id)) (ids_of w))
    back = sym (filter_both newer (λ id. is_on topic (kept_at w id)) (ids_of w))

-- a step of the loop that goes from the oldest window to the newest
pub next_window : (gossip : ℕ) (topic : Topic) (ws : List Window) (end done age : ℕ) (w : Window) (ids ids' : List MsgId) → end ≡ min gossip (length ws) → done < end → age ≡ end - 1 - done
    → w ≡ get_or ws age w → ids ≡ behind ws gossip topic (end - done) → ids' ≡ ids ++ listed (take age ws) w topic → ids' ≡ behind ws gossip topic (end - (done + 1))
next_window gossip topic ws end done age w ids ids' all more at is before added =
    let was : end - done ≡ suc age = omega (arith, more, at) in
    let now : age ≡ end - (done + 1) = omega (arith, more, at) in
    added ∙ ap (λ (xs : List MsgId). xs ++ listed (take age ws) w topic) (before ∙ ap (behind ws gossip topic) was)
    ∙ one_more gossip topic ws age w (omega (arith, all, more, at)) (omega (arith, all, more, at)) (sym is)
    ∙ ap (behind ws gossip topic) now

-- once all windows are done
pub all_done : (gossip : ℕ) (topic : Topic) (ws : List Window) → behind ws gossip topic 0 ≡ announced_in 0 gossip topic ws
all_done gossip topic ws = filter_all (λ id. not (list_any (λ n. has n id) [])) (λ id. refl) (announced_in 0 gossip topic ws)

-- ---- whether there is any

pub more_than_none : (n : ℕ) → not (suc n == 0) ≡ true
more_than_none n = search rules

nothing_in : {A : Type 0} (xs : List A) → not (length xs == 0) ≡ false → xs ≡ []
nothing_in [] is = refl
nothing_in (x ∷ xs) is = let both : true ≡ false = sym (more_than_none (length xs)) ∙ is in absurd cc

-- the last ones of a list are some where it has some
pub last_few : (ids : List MsgId) → not (length ids == 0) ≡ not (length (last_of most_announced ids) == 0)
last_few [] = refl
last_few (id ∷ ids) =
    let some : 0 < length (last_of most_announced (id ∷ ids)) = omega (arith, length-drop (length (id ∷ ids) - most_announced) (id ∷ ids)) in
    more_than_none (length ids) ∙ sym (by (last_of most_announced (id ∷ ids)) some)
  where
    by : (xs : List MsgId) → 0 < length xs → not (length xs == 0) ≡ true
    by [] some = absurd (omega (arith, some))
    by (x ∷ xs) some = more_than_none (length xs)

-- a window that announces nothing is passed over
pub silent_here : (gossip : ℕ) (topic : Topic) (ws : List Window) (k : ℕ) (w : Window) → k < length ws → k < gossip → get_or ws k w ≡ w
    → not (length (listed (take k ws) w topic) == 0) ≡ false → behind ws gossip topic k ≡ behind ws gossip topic (k + 1)
silent_here gossip topic ws k w within new is silent =
    let next : suc k ≡ k + 1 = omega arith in
    sym (one_more gossip topic ws k w within new is)
    ∙ ap (λ (xs : List MsgId). behind ws gossip topic (suc k) ++ xs) (nothing_in (listed (take k ws) w topic) silent)
    ∙ append-nil (behind ws gossip topic (suc k))
    ∙ ap (behind ws gossip topic) next

some_after : (xs ys : List MsgId) → not (length ys == 0) ≡ true → not (length (xs ++ ys) == 0) ≡ true
some_after [] ys is = is
some_after (x ∷ xs) ys is = more_than_none (length (xs ++ ys))

-- one that announces something is enough
pub heard_here : (gossip : ℕ) (topic : Topic) (ws : List Window) (k : ℕ) (w : Window) → k < length ws → k < gossip → get_or ws k w ≡ w
    → not (length (listed (take k ws) w topic) == 0) ≡ true → not (length (behind ws gossip topic k) == 0) ≡ true
heard_here gossip topic ws k w within new is some =
    ap (λ (xs : List MsgId). not (length xs == 0)) (sym (one_more gossip topic ws k w within new is))
    ∙ some_after (behind ws gossip topic (suc k)) (listed (take k ws) w topic) some
