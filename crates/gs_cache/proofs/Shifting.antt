-- The windows are shifted.
use Rattle.std.proofs.Common.{◌≡◌, ℕ, zero, suc, ◌+◌, ◌-◌, ◌<◌, nat_lt, Bool, true, false, List, [], ◌∷◌, ◌++◌, length, take, drop, get_or, Option, None, Some, option_map, is_some, if◌then◌else◌, subst, refl, sym, ap, ap₂, ◌∙◌, arith, rules}
use Rattle.std.specs.Prelude.{not, ◌&&◌, filter}
use Rattle.std.specs.Option.{option_or}
use Rattle.std.specs.Map.{lookup}
use Rattle.std.proofs.Math.ListN.{set}
use Rattle.std.proofs.Math.Seq.{drop-cons}
use Rattle.std.proofs.lemmas.List.{append-nil, drop_all}
use Rattle.std.proofs.lemmas.List.Elements.{filter-append}
use Rattle.gs_base.specs.declared.names.PeerNo.{PeerNo}
use Rattle.gs_base.specs.declared.names.MsgId.{MsgId}
use Rattle.gs_base.specs.Names.{same_id}
use Rattle.gs_cache.specs.declared.message_cache.window.Kept.{Kept}
use Rattle.gs_cache.specs.declared.message_cache.window.Window.{Window}
use Rattle.gs_cache.specs.CachedMessages.{Cached, Put, aged, left_to}
use Rattle.gs_cache.specs.Windows.{has, ids_of, is_placed, kept_at, kept_in, order_of, placed, put_of}
use Rattle.gs_cache.proofs.Lists.{filter_all, filter_alike, filter_none, filter_twice, map_map, map_or}
use Rattle.gs_cache.proofs.Finding.{cached_in, held_kept, left_in, left_kept, put_first, put_in}

-- ---- what is held is one shift older, and lost with the last window

cached_first : (age : ℕ) (w : Window) (ws : List Window) (id : MsgId)
    → cached_in age (w ∷ ws) id ≡ option_or (option_map (λ (k : Kept). (put_of age k).cached) (kept_at w id)) (cached_in (age + 1) ws id)
cached_first age w ws id =
    ap (option_map (λ (p : Put). p.cached)) (put_first age w ws id) ∙ map_or (λ (p : Put). p.cached) (option_map (put_of age) (kept_at w id)) (put_in (age + 1) ws id)
    ∙ ap (λ (o : Option Cached). option_or o (cached_in (age + 1) ws id)) (map_map (λ (p : Put). p.cached) (put_of age) (kept_at w id))

pub cached_shifted : (len age k : ℕ) (ws : List Window) (id : MsgId) → len ≡ age + length ws → k + 1 ≡ length ws
    → cached_in (age + 1) (take k ws) id ≡ aged len (cached_in age ws id)
cached_shifted len age k [] id all fewer = absurd (omega (arith, fewer))
cached_shifted len age k (w ∷ []) id all fewer =
    let zero : k ≡ 0 = omega (arith, fewer) in
    ap (λ (n : ℕ). cached_in (age + 1) (take n (w ∷ [])) id) zero ∙ sym (ap (aged len) (cached_first age w [] id) ∙ by (kept_at w id))
  where
    by : (o : Option Kept) → aged len (option_or (option_map (λ (k : Kept). (put_of age k).cached) o) None) ≡ None
    by None = refl
    by (Some x) = let last : nat_lt (age + 1) len ≡ false = search (rules, arith) in rw last refl
cached_shifted len age zero (w ∷ v ∷ vs) id all fewer = absurd (omega (arith, fewer))
cached_shifted len age (suc j) (w ∷ v ∷ vs) id all fewer =
    cached_first (age + 1) w (take j (v ∷ vs)) id
    ∙ ap (option_or (option_map (λ (k : Kept). (put_of (age + 1) k).cached) (kept_at w id))) (cached_shifted len (age + 1) j (v ∷ vs) id (omega (arith, all)) (omega (arith, fewer)))
    ∙ by (kept_at w id) ∙ ap (aged len) (sym (cached_first age w (v ∷ vs) id))
  where
    by : (o : Option Kept) → option_or (option_map (λ (k : Kept). (put_of (age + 1) k).cached) o) (aged len (cached_in (age + 1) (v ∷ vs) id))
        ≡ aged len (option_or (option_map (λ (k : Kept). (put_of age k).cached) o) (cached_in (age + 1) (v ∷ vs) id))
    by None = refl
    by (Some x) = let within : nat_lt (age + 1) len ≡ true = search (rules, arith) in rw within refl

-- ---- what is left stays with it

take_kept : (k : ℕ) (ws : List Window) (id : MsgId) → is_some (kept_in (take k ws) id) ≡ true → kept_in (take k ws) id ≡ kept_in ws id
take_kept zero ws id held = cc
take_kept (suc j) [] id held = refl
take_kept (suc j) (w ∷ ws) id held = by (kept_at w id) held (take_kept j ws id)
  where
    by : (o : Option Kept) → is_some (option_or o (kept_in (take j ws) id)) ≡ true
        → (is_some (kept_in (take j ws) id) ≡ true → kept_in (take j ws) id ≡ kept_in ws id)
        → option_or o (kept_in (take j ws) id) ≡ option_or o (kept_in ws id)
    by None there rest = rest there
    by (Some x) there rest = refl

pub left_shifted : (answers age k : ℕ) (ws : List Window) (id : MsgId) (q : PeerNo)
    → left_in answers (age + 1) (take k ws) id q ≡ (if is_some (cached_in (age + 1) (take k ws) id) then left_in answers age ws id q else None)
left_shifted answers age k ws id q =
    left_kept answers (age + 1) (take k ws) id q ∙ by (kept_in (take k ws) id) refl
    ∙ ap (λ (b : Bool). if b then left_in answers age ws id q else None) (sym (held_kept (age + 1) (take k ws) id))
  where
    by : (o : Option Kept) → kept_in (take k ws) id ≡ o
        → option_map (λ (x : Kept). left_to answers q x.left) o ≡ (if is_some o then left_in answers age ws id q else None)
    by None is = refl
    by (Some x) is = sym (left_kept answers age ws id q ∙ ap (option_map (λ (x : Kept). left_to answers q x.left)) (sym (take_kept k ws id (ap is_some is)) ∙ is))

-- ---- the order

-- what a window lists it has
listed_has : (es : List (MsgId × Kept)) (h : MsgId → Bool) → ((id : MsgId) → is_some (lookup (same_id id) es) ≡ true → h id ≡ true)
    → (i : ℕ) (ids : List MsgId) → filter h (placed es i ids) ≡ placed es i ids
listed_has es h all i [] = refl
listed_has es h all i (id ∷ ids) = by (lookup (same_id id) es) refl (is_placed i (lookup (same_id id) es)) refl (listed_has es h all (i + 1) ids)
  where
    by : (o : Option Kept) → lookup (same_id id) es ≡ o → (b : Bool) → is_placed i o ≡ b → filter h (placed es (i + 1) ids) ≡ placed es (i + 1) ids
        → filter h (if b then id ∷ placed es (i + 1) ids else placed es (i + 1) ids) ≡ (if b then id ∷ placed es (i + 1) ids else placed es (i + 1) ids)
    by None is true at rest = cc
    by (Some x) is true at rest = rw (all id (ap is_some is)) (ap (λ (xs : List MsgId). id ∷ xs) rest)
    by o is false at rest = rest

pub order_shifted : (k : ℕ) (ws : List Window) → order_of (take k ws) ≡ filter (λ id. is_some (kept_in (take k ws) id)) (order_of ws)
order_shifted zero ws = sym (filter_none (λ id. is_some (kept_in [] id)) (λ id. refl) (order_of ws))
order_shifted (suc j) [] = refl
order_shifted (suc j) (w ∷ ws) =
    ap₂ (λ (xs ys : List MsgId). xs ++ ys)
    (ap (filter (λ id. not (has w id))) (order_shifted j ws)
    ∙ filter_twice (λ id. not (has w id)) (λ id. is_some (kept_in (take j ws) id)) held (λ id. not (has w id)) (λ id. by (kept_at w id) (kept_in (take j ws) id)) (order_of ws))
    (sym (listed_has w.puts.entries held (λ id there. found (kept_at w id) (kept_in (take j ws) id) there) 0 w.order.items))
    ∙ sym (filter-append held (filter (λ id. not (has w id)) (order_of ws)) (ids_of w))
  where
    held : MsgId → Bool
    held id = is_some (option_or (kept_at w id) (kept_in (take j ws) id))

    by : (a b : Option Kept) → (is_some b && not (is_some a)) ≡ (not (is_some a) && is_some (option_or a b))
    by None None = refl
    by None (Some x) = refl
    by (Some x) None = refl
    by (Some x) (Some y) = refl

    found : (a b : Option Kept) → is_some a ≡ true → is_some (option_or a b) ≡ true
    found None b there = cc
    found (Some x) b there = refl

-- ---- all windows, after a shift

pub record IsShifted (answers : ℕ) (ws ws' : List Window) : Type 0 where
  pub ages : (id : MsgId) → cached_in 0 ws' id ≡ aged (length ws) (cached_in 0 ws id)
  pub keeps : (id : MsgId) (q : PeerNo) → left_in answers 0 ws' id q ≡ (if is_some (cached_in 0 ws' id) then left_in answers 0 ws id q else None)
  pub orders : order_of ws' ≡ filter (λ id. is_some (cached_in 0 ws' id)) (order_of ws)

module _ (fresh : Window) (no_order : fresh.order.items ≡ []) (no_puts : fresh.puts.entries ≡ []) where
  nothing : (id : MsgId) → kept_at fresh id ≡ None
  nothing id = ap (lookup (same_id id)) no_puts

  put_behind : (ws : List Window) (id : MsgId) → put_in 0 (fresh ∷ ws) id ≡ put_in 1 ws id
  put_behind ws id = put_first 0 fresh ws id ∙ ap (λ (o : Option Kept). option_or (option_map (put_of 0) o) (put_in 1 ws id)) (nothing id)

  cached_after : (ws : List Window) (id : MsgId) → cached_in 0 (fresh ∷ ws) id ≡ cached_in 1 ws id
  cached_after ws id = ap (option_map (λ (p : Put). p.cached)) (put_behind ws id)

  order_behind : (ws : List Window) → order_of (fresh ∷ ws) ≡ order_of ws
  order_behind ws =
      ap₂ (λ (xs ys : List MsgId). xs ++ ys)
      (filter_all (λ id. not (has fresh id)) (λ id. ap (λ (o : Option Kept). not (is_some o)) (nothing id)) (order_of ws))
      (ap (placed fresh.puts.entries 0) no_order)
      ∙ append-nil (order_of ws)

  shifted : (answers k : ℕ) (ws : List Window) → k + 1 ≡ length ws → IsShifted answers ws (fresh ∷ take k ws)
  shifted answers k ws fewer = record {
    ages = λ id. cached_after (take k ws) id ∙ cached_shifted (length ws) 0 k ws id (omega arith) fewer;
    keeps = λ id q. ap (option_map (λ (p : Put). left_to answers q p.left)) (put_behind (take k ws) id) ∙ left_shifted answers 0 k ws id q
        ∙ ap (λ (o : Option Cached). if is_some o then left_in answers 0 ws id q else None) (sym (cached_after (take k ws) id));
    orders = order_behind (take k ws) ∙ order_shifted k ws
        ∙ filter_alike (λ id. is_some (kept_in (take k ws) id)) (λ id. is_some (cached_in 0 (fresh ∷ take k ws) id))
        (λ id. sym (ap is_some (cached_after (take k ws) id) ∙ held_kept 1 (take k ws) id)) (order_of ws);
  }

  pub is_shifted : (answers len : ℕ) (ws turned : List Window) → len ≡ length ws → 0 < length ws → turned ≡ drop (len - 1) ws ++ take (len - 1) ws → IsShifted answers ws (set turned 0 fresh)
  is_shifted answers len ws turned all some turn =
      let k : ℕ = len - 1 in
      let fewer : k + 1 ≡ length ws = omega (arith, all, some) in
      let last : drop k ws ≡ get_or ws k fresh ∷ drop (suc k) ws = drop-cons ws k fresh (omega (arith, all, some)) in
      let end : drop (suc k) ws ≡ [] = drop_all (suc k) ws (omega (arith, all, some)) in
      subst (λ (xs : List Window). IsShifted answers ws (set xs 0 fresh)) (sym (turn ∙ ap (λ (xs : List Window). xs ++ take k ws) (last ∙ ap (λ (xs : List Window). get_or ws k fresh ∷ xs) end)))
      (shifted answers k ws fewer)
