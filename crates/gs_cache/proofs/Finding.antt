-- What is found in windows, the newest first.
use Rattle.std.proofs.Common.{◌≡◌, ℕ, ◌+◌, true, false, List, [], ◌∷◌, map, Option, None, Some, option_map, is_some, refl, sym, ap, ap₂, ◌∙◌}
use Rattle.std.specs.Option.{option_or}
use Rattle.std.specs.Map.{lookup}
use Rattle.std.proofs.lemmas.Map.Made.{lookup-map_values}
use Rattle.gs_base.specs.declared.names.PeerNo.{PeerNo}
use Rattle.gs_base.specs.declared.names.MsgId.{MsgId}
use Rattle.gs_base.specs.Names.{same_id}
use Rattle.gs_cache.specs.declared.message_cache.window.Kept.{Kept}
use Rattle.gs_cache.specs.declared.message_cache.window.Window.{Window}
use Rattle.gs_cache.specs.CachedMessages.{Cached, Put, left_to}
use Rattle.gs_cache.specs.Windows.{kept_at, kept_in, put_of, puts_of}
use Rattle.gs_cache.proofs.Counting.{lookup_append, same_found}
use Rattle.gs_cache.proofs.Lists.{map_map, map_or}

-- the last put of a message
abbrev pub put_in : ℕ → List Window → MsgId → Option Put
put_in age ws id = lookup (same_id id) (puts_of age ws)

-- it is that of the first window, or else of the others
pub put_first : (age : ℕ) (w : Window) (ws : List Window) (id : MsgId) → put_in age (w ∷ ws) id ≡ option_or (option_map (put_of age) (kept_at w id)) (put_in (age + 1) ws id)
put_first age w ws id =
    lookup_append (same_id id) (map (λ (e : MsgId × Kept). (e.0, put_of age e.1)) w.puts.entries) (puts_of (age + 1) ws)
    ∙ ap (λ (o : Option Put). option_or o (put_in (age + 1) ws id)) (lookup-map_values (put_of age) (same_id id) w.puts.entries)

-- what is read of a put, where its age does not matter
pub read_in : {B : Type 0} (f : Put → B) (g : Kept → B) → ((age : ℕ) (k : Kept) → f (put_of age k) ≡ g k)
    → (age : ℕ) (ws : List Window) (id : MsgId) → option_map f (put_in age ws id) ≡ option_map g (kept_in ws id)
read_in f g same age [] id = refl
read_in {B} f g same age (w ∷ ws) id =
    ap (option_map f) (put_first age w ws id) ∙ map_or f (option_map (put_of age) (kept_at w id)) (put_in (age + 1) ws id)
    ∙ ap₂ option_or (by (kept_at w id)) (read_in f g same (age + 1) ws id) ∙ sym (map_or g (kept_at w id) (kept_in ws id))
  where
    by : (o : Option Kept) → option_map f (option_map (put_of age) o) ≡ option_map g o
    by None = refl
    by (Some k) = ap Some (same age k)

-- what is held of a message, and what is left of it
abbrev pub cached_in : ℕ → List Window → MsgId → Option Cached
cached_in age ws id = option_map (λ (p : Put). p.cached) (put_in age ws id)

abbrev pub left_in : ℕ → ℕ → List Window → MsgId → PeerNo → Option ℕ
left_in answers age ws id q = option_map (λ (p : Put). left_to answers q p.left) (put_in age ws id)

pub left_kept : (answers age : ℕ) (ws : List Window) (id : MsgId) (q : PeerNo) → left_in answers age ws id q ≡ option_map (λ (k : Kept). left_to answers q k.left) (kept_in ws id)
left_kept answers age ws id q = read_in (λ (p : Put). left_to answers q p.left) (λ (k : Kept). left_to answers q k.left) (λ age k. refl) age ws id

pub message_kept : (age : ℕ) (ws : List Window) (id : MsgId) → option_map (λ (c : Cached). c.message) (cached_in age ws id) ≡ option_map (λ (k : Kept). k.message) (kept_in ws id)
message_kept age ws id = map_map (λ (c : Cached). c.message) (λ (p : Put). p.cached) (put_in age ws id)
    ∙ read_in (λ (p : Put). p.cached.message) (λ (k : Kept). k.message) (λ age k. refl) age ws id

-- what is held is kept
pub held_kept : (age : ℕ) (ws : List Window) (id : MsgId) → is_some (cached_in age ws id) ≡ is_some (kept_in ws id)
held_kept age ws id = is_held (put_in age ws id) ∙ ap is_some (read_in (λ (p : Put). true) (λ (k : Kept). true) (λ age k. refl) age ws id) ∙ is_kept (kept_in ws id)
  where
    is_held : (o : Option Put) → is_some (option_map (λ (p : Put). p.cached) o) ≡ is_some (option_map (λ (p : Put). true) o)
    is_held None = refl
    is_held (Some p) = refl

    is_kept : (o : Option Kept) → is_some (option_map (λ (k : Kept). true) o) ≡ is_some o
    is_kept None = refl
    is_kept (Some k) = refl

pub nothing_kept : (age : ℕ) (ws : List Window) (id : MsgId) → kept_in ws id ≡ None → cached_in age ws id ≡ None
nothing_kept age ws id is = by (cached_in age ws id) (held_kept age ws id ∙ ap is_some is)
  where
    by : (o : Option Cached) → is_some o ≡ false → o ≡ None
    by None isnt = refl
    by (Some c) isnt = cc

-- equal identifiers are kept alike
pub same_kept : (ws : List Window) (id other : MsgId) → same_id id other ≡ true → kept_in ws id ≡ kept_in ws other
same_kept [] id other same = refl
same_kept (w ∷ ws) id other same = ap₂ option_or (same_found id other same w.puts.entries) (same_kept ws id other same)

-- what is read of what was found
pub left_found : (answers : ℕ) (looked ws : List Window) (id : MsgId) (q : PeerNo) (k : Kept) (n : ℕ) → looked ≡ ws → Some k ≡ kept_in looked id → n ≡ left_to answers q k.left
    → left_in answers 0 ws id q ≡ Some n
left_found answers looked ws id q k n all found is =
    left_kept answers 0 ws id q ∙ ap (option_map (λ (x : Kept). left_to answers q x.left)) (ap (λ (vs : List Window). kept_in vs id) (sym all) ∙ sym found) ∙ ap Some (sym is)

pub message_found : (looked ws : List Window) (id : MsgId) (k : Kept) → looked ≡ ws → Some k ≡ kept_in looked id → option_map (λ (c : Cached). c.message) (cached_in 0 ws id) ≡ Some k.message
message_found looked ws id k all found =
    message_kept 0 ws id ∙ ap (option_map (λ (x : Kept). x.message)) (ap (λ (vs : List Window). kept_in vs id) (sym all) ∙ sym found)
