-- A message is put into the newest window.
use Rattle.std.proofs.Common.{◌≡◌, subst, get_or, ℕ, ◌+◌, ◌<◌, nat_eq, Bool, true, false, List, [], ◌∷◌, ◌++◌, length, Option, Some, option_map, is_some, if◌then◌else◌, refl, sym, ap, ap₂, ◌∙◌, arith, append_assoc}
use Rattle.std.specs.Prelude.{not, ◌&&◌, filter}
use Rattle.std.specs.Option.{option_or}
use Rattle.std.proofs.Math.ListN.{set}
use Rattle.std.proofs.lemmas.Cmp.{nat_list_eq_equiv}
use Rattle.std.proofs.lemmas.List.Elements.{filter-append}
use Rattle.std.proofs.lemmas.Bool.{eq-eqb, ne_eqb}
use Rattle.gs_base.specs.declared.names.PeerNo.{PeerNo}
use Rattle.gs_base.specs.declared.names.MsgId.{MsgId}
use Rattle.gs_base.specs.declared.names.Topic.{Topic}
use Rattle.gs_base.specs.declared.rpc.Message.{Message}
use Rattle.gs_base.specs.Names.{same_id}
use Rattle.gs_cache.specs.declared.message_cache.window.Kept.{Kept}
use Rattle.gs_cache.specs.declared.message_cache.window.Window.{Window}
use Rattle.gs_cache.specs.CachedMessages.{Put, all_left, left_to, put_anew, put_last}
use Rattle.gs_cache.specs.Windows.{Puts, has, ids_of, is_placed, kept_at, order_of, placed, put_of}
use Rattle.gs_cache.proofs.Lists.{filter_alike, filter_both, map_if}
use Rattle.gs_cache.proofs.Finding.{cached_in, left_in, put_first, put_in}

module _ (id : MsgId) (topic : Topic) (message : Message) (w w' : Window) (puts : Puts id topic message w w') where
  abbrev pub anew : Put
  anew = record { cached = record { age = 0; topic = topic; message = message }; left = [] }

  pub put_now : (ws : List Window) (other : MsgId) → put_in 0 (w' ∷ ws) other ≡ (if same_id id other then Some anew else put_in 0 (w ∷ ws) other)
  put_now ws other =
      put_first 0 w' ws other ∙ ap (λ (o : Option Kept). option_or (option_map (put_of 0) o) (put_in 1 ws other)) (puts.puts other)
      ∙ by (same_id id other) ∙ ap (λ (o : Option Put). if same_id id other then Some anew else o) (sym (put_first 0 w ws other))
    where
      by : (same : Bool) → option_or (option_map (put_of 0) (if same then Some (record { place = length w.order.items; topic = topic; message = message; left = [] }) else kept_at w other)) (put_in 1 ws other)
          ≡ (if same then Some anew else option_or (option_map (put_of 0) (kept_at w other)) (put_in 1 ws other))
      by true = refl
      by false = refl

  pub put_cached : (ws : List Window) (other : MsgId) → cached_in 0 (w' ∷ ws) other ≡ put_anew id topic message other (cached_in 0 (w ∷ ws) other)
  put_cached ws other = ap (option_map (λ (p : Put). p.cached)) (put_now ws other) ∙ map_if (λ (p : Put). p.cached) (same_id id other) anew (put_in 0 (w ∷ ws) other)

  pub put_left : (answers : ℕ) (ws : List Window) (other : MsgId) (q : PeerNo) → left_in answers 0 (w' ∷ ws) other q ≡ all_left id answers other (left_in answers 0 (w ∷ ws) other q)
  put_left answers ws other q = ap (option_map (λ (p : Put). left_to answers q p.left)) (put_now ws other) ∙ map_if (λ (p : Put). left_to answers q p.left) (same_id id other) anew (put_in 0 (w ∷ ws) other)

  -- ---- the order

  abbrev pub keeps : MsgId → Bool
  keeps other = not (same_id id other)

  step : (x : MsgId) (same : Bool) → same_id id x ≡ same → (b' b : Bool) → b' ≡ (if same then false else b) → (l' l : List MsgId) → l' ≡ filter keeps l ++ id ∷ []
      → (if b' then x ∷ l' else l') ≡ filter keeps (if b then x ∷ l else l) ++ id ∷ []
  step x true is b' true isnt l' l rest = rw (isnt, is) rest
  step x true is b' false isnt l' l rest = rw isnt rest
  step x false is b' true isnt l' l rest = rw (isnt, is) (ap (λ (ys : List MsgId). x ∷ ys) rest)
  step x false is b' false isnt l' l rest = rw isnt rest

  abbrev pub now : Kept
  now = record { place = length w.order.items; topic = topic; message = message; left = [] }

  is_now : (i : ℕ) (x : MsgId) → is_placed i (kept_at w' x) ≡ (if same_id id x then nat_eq (length w.order.items) i else is_placed i (kept_at w x))
  is_now i x = ap (is_placed i) (puts.puts x) ∙ by (same_id id x)
    where
      by : (same : Bool) → is_placed i (if same then Some now else kept_at w x) ≡ (if same then nat_eq (length w.order.items) i else is_placed i (kept_at w x))
      by true = refl
      by false = refl

  placed_put : (i : ℕ) (ids : List MsgId) → i + length ids ≡ length w.order.items
      → placed w'.puts.entries i (ids ++ id ∷ []) ≡ filter keeps (placed w.puts.entries i ids) ++ id ∷ []
  placed_put i [] end =
      ap (λ (b : Bool). if b then id ∷ [] else [])
      (is_now i id ∙ ap (λ (same : Bool). if same then nat_eq (length w.order.items) i else is_placed i (kept_at w id)) (nat_list_eq_equiv.refl id.0)
      ∙ eq-eqb (length w.order.items) i (omega (arith, end)))
  placed_put i (x ∷ ids) end =
      step x (same_id id x) refl (is_placed i (kept_at w' x)) (is_placed i (kept_at w x))
      (is_now i x ∙ ap (λ (b : Bool). if same_id id x then b else is_placed i (kept_at w x)) (ne_eqb (length w.order.items) i (λ is. absurd (omega (arith, end, is)))))
      (placed w'.puts.entries (i + 1) (ids ++ id ∷ [])) (placed w.puts.entries (i + 1) ids) (placed_put (i + 1) ids (omega (arith, end)))

  has_now : (x : MsgId) → not (has w' x) ≡ (not (has w x) && keeps x)
  has_now x = ap (λ (o : Option Kept). not (is_some o)) (puts.puts x) ∙ ap not (if_some (same_id id x)) ∙ by (same_id id x) (has w x)
    where
      if_some : (same : Bool) → is_some (if same then Some now else kept_at w x) ≡ (if same then true else has w x)
      if_some true = refl
      if_some false = refl

      by : (same b : Bool) → not (if same then true else b) ≡ (not b && not same)
      by true true = refl
      by true false = refl
      by false true = refl
      by false false = refl

  pub put_order : (ws : List Window) → order_of (w' ∷ ws) ≡ put_last id (order_of (w ∷ ws))
  put_order ws =
      ap₂ (λ (xs ys : List MsgId). xs ++ ys)
      (filter_alike (λ x. not (has w' x)) (λ x. not (has w x) && keeps x) has_now (order_of ws) ∙ sym (filter_both keeps (λ x. not (has w x)) (order_of ws)))
      (ap (placed w'.puts.entries 0) puts.order ∙ placed_put 0 w.order.items (omega arith))
      ∙ sym (append_assoc (filter keeps (filter (λ x. not (has w x)) (order_of ws))) (filter keeps (ids_of w)) (id ∷ []))
      ∙ ap (λ (xs : List MsgId). xs ++ id ∷ []) (sym (filter-append keeps (filter (λ x. not (has w x)) (order_of ws)) (ids_of w)))

-- all windows, after a put into the first one
pub record IsPut (id : MsgId) (topic : Topic) (message : Message) (answers : ℕ) (ws ws' : List Window) : Type 0 where
  pub holds : (other : MsgId) → cached_in 0 ws' other ≡ put_anew id topic message other (cached_in 0 ws other)
  pub resets : (other : MsgId) (q : PeerNo) → left_in answers 0 ws' other q ≡ all_left id answers other (left_in answers 0 ws other q)
  pub orders : order_of ws' ≡ put_last id (order_of ws)

pub is_put : (id : MsgId) (topic : Topic) (message : Message) (answers : ℕ) (ws : List Window) (w w' : Window) → 0 < length ws → w ≡ get_or ws 0 w → Puts id topic message w w'
    → IsPut id topic message answers ws (set ws 0 w')
is_put id topic message answers [] w w' some first puts = absurd (omega (arith, some))
is_put id topic message answers (v ∷ vs) w w' some first puts =
    let there : Puts id topic message v w' = subst (λ (u : Window). Puts id topic message u w') first puts in
    record {
      holds = put_cached id topic message v w' there vs;
      resets = put_left id topic message v w' there answers vs;
      orders = put_order id topic message v w' there vs;
    }
