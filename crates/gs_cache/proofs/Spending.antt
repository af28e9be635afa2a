-- An answer is counted.
use Rattle.std.proofs.Common.{◌≡◌, ℕ, zero, suc, ◌+◌, ◌-◌, ◌<◌, nat_eq, Bool, true, false, cond, List, [], ◌∷◌, ◌++◌, length, get_or, map, Option, None, Some, option_map, is_some, unwrap_or, if◌then◌else◌, subst, refl, sym, ap, ap₂, ◌∙◌, arith}
use Rattle.std.specs.Prelude.{not, ◌&&◌, filter, position}
use Rattle.std.specs.Option.{option_or}
use Rattle.std.specs.Map.{lookup}
use Rattle.std.proofs.Math.ListN.{set}
use Rattle.std.specs.List.{position_from}
use Rattle.std.proofs.lemmas.List.Quantifiers.{position-Some}
use Rattle.std.proofs.lemmas.Iterator.Adapters.{position_from-zero}
use Rattle.std.proofs.lemmas.Cmp.{nat_eq_equiv}
use Rattle.gs_base.specs.declared.names.PeerNo.{PeerNo}
use Rattle.gs_base.specs.declared.names.MsgId.{MsgId}
use Rattle.gs_base.specs.Names.{same_id, same_peer}
use Rattle.gs_cache.specs.declared.message_cache.window.Kept.{Kept}
use Rattle.gs_cache.specs.declared.message_cache.window.Window.{Window}
use Rattle.gs_cache.specs.CachedMessages.{Cached, Put, left_to, one_less}
use Rattle.gs_cache.specs.Windows.{Core, Counts, HasSame, core, has, ids_of, is_placed, kept_at, kept_in, left_at, order_of, placed, put_of, puts_of}
use Rattle.gs_cache.proofs.Counting.{same_found}
use Rattle.gs_cache.proofs.Lists.{filter_alike, map_map, map_or, some_map}
use Rattle.gs_cache.proofs.Finding.{cached_in, left_in, left_kept, put_first, put_in, same_kept}

-- ---- a tally

same_shares : (p q : PeerNo) → same_peer p q ≡ true → (es : List (PeerNo × ℕ)) → lookup (same_peer p) es ≡ lookup (same_peer q) es
same_shares p q same [] = refl
same_shares p q same (e ∷ es) = ap₂ (λ (b : Bool) (o : Option ℕ). cond b (Some e.1) o) (nat_eq_equiv.congr p.0 q.0 (e.0).0 same) (same_shares p q same es)

pub tallied : (answers : ℕ) (peer : PeerNo) (old new : List (PeerNo × ℕ)) (n : ℕ) → n ≡ left_to answers peer old - 1
    → ((q : PeerNo) → lookup (same_peer q) new ≡ cond (same_peer peer q) (Some n) (lookup (same_peer q) old))
    → (q : PeerNo) → left_to answers q new ≡ (if same_peer peer q then left_to answers q old - 1 else left_to answers q old)
tallied answers peer old new n is takes q = ap (λ (o : Option ℕ). unwrap_or o answers) (takes q) ∙ by (same_peer peer q) refl
  where
    by : (same : Bool) → same_peer peer q ≡ same → unwrap_or (cond same (Some n) (lookup (same_peer q) old)) answers ≡ (if same then left_to answers q old - 1 else left_to answers q old)
    by true same = is ∙ ap (λ (o : Option ℕ). unwrap_or o answers - 1) (same_shares peer q same old)
    by false same = refl

-- ---- a window

pub counted : (answers : ℕ) (id : MsgId) (peer : PeerNo) (w w' : Window) (k k' : Kept) → Some k ≡ kept_at w id
    → ((q : MsgId) → kept_at w' q ≡ cond (same_id id q) (Some k') (kept_at w q)) → w'.order.items ≡ w.order.items → core k' ≡ core k
    → ((q : PeerNo) → left_to answers q k'.left ≡ (if same_peer peer q then left_to answers q k.left - 1 else left_to answers q k.left))
    → Counts answers id peer w w'
counted answers id peer w w' k k' found writes order same less = record {
  order = order;
  cores = λ other. ap (option_map core) (writes other) ∙ cores other (same_id id other) refl;
  lefts = λ other q. ap (option_map (λ (x : Kept). left_to answers q x.left)) (writes other) ∙ lefts other q (same_id id other) refl;
}
  where
    there : (other : MsgId) → same_id id other ≡ true → kept_at w other ≡ Some k
    there other alike = sym (found ∙ same_found id other alike w.puts.entries)

    cores : (other : MsgId) (b : Bool) → same_id id other ≡ b → option_map core (cond b (Some k') (kept_at w other)) ≡ option_map core (kept_at w other)
    cores other true alike = ap Some same ∙ ap (option_map core) (sym (there other alike))
    cores other false apart = refl

    some_less : (q : PeerNo) (b : Bool) → same_peer peer q ≡ b → Some (left_to answers q k'.left) ≡ (if b then option_map (λ n. n - 1) (Some (left_to answers q k.left)) else Some (left_to answers q k.left))
    some_less q true is = ap Some (less q ∙ ap (λ (c : Bool). if c then left_to answers q k.left - 1 else left_to answers q k.left) is)
    some_less q false is = ap Some (less q ∙ ap (λ (c : Bool). if c then left_to answers q k.left - 1 else left_to answers q k.left) is)

    lefts : (other : MsgId) (q : PeerNo) (b : Bool) → same_id id other ≡ b
        → option_map (λ (x : Kept). left_to answers q x.left) (cond b (Some k') (kept_at w other)) ≡ (if b && same_peer peer q then option_map (λ n. n - 1) (left_at answers w other q) else left_at answers w other q)
    lefts other q true alike = some_less q (same_peer peer q) refl
        ∙ ap (λ (o : Option Kept). if same_peer peer q then option_map (λ n. n - 1) (option_map (λ (x : Kept). left_to answers q x.left) o) else option_map (λ (x : Kept). left_to answers q x.left) o) (sym (there other alike))
    lefts other q false apart = refl

-- ---- all windows

-- where a window has the same messages at the same places, the same is held, in the same order
pub cached_same : (w w' : Window) → ((id : MsgId) → option_map core (kept_at w' id) ≡ option_map core (kept_at w id))
    → (age : ℕ) (ws : List Window) (id : MsgId) → cached_in age (w' ∷ ws) id ≡ cached_in age (w ∷ ws) id
cached_same w w' same age ws id = read w' ∙ ap (λ (o : Option Core). option_or (option_map aged o) (cached_in (age + 1) ws id)) (same id) ∙ sym (read w)
  where
    aged : Core → Cached
    aged c = record { age = age; topic = c.topic; message = c.message }

    read : (v : Window) → cached_in age (v ∷ ws) id ≡ option_or (option_map aged (option_map core (kept_at v id))) (cached_in (age + 1) ws id)
    read v = ap (option_map (λ (p : Put). p.cached)) (put_first age v ws id) ∙ map_or (λ (p : Put). p.cached) (option_map (put_of age) (kept_at v id)) (put_in (age + 1) ws id)
        ∙ ap (λ (o : Option Cached). option_or o (cached_in (age + 1) ws id)) (map_map (λ (p : Put). p.cached) (put_of age) (kept_at v id) ∙ sym (map_map aged core (kept_at v id)))

pub cached_later : (w : Window) (age : ℕ) (ws ws' : List Window) (id : MsgId) → cached_in (age + 1) ws' id ≡ cached_in (age + 1) ws id → cached_in age (w ∷ ws') id ≡ cached_in age (w ∷ ws) id
cached_later w age ws ws' id same = read ws' ∙ ap (option_or (option_map (λ (p : Put). p.cached) (option_map (put_of age) (kept_at w id)))) same ∙ sym (read ws)
  where
    read : (vs : List Window) → cached_in age (w ∷ vs) id ≡ option_or (option_map (λ (p : Put). p.cached) (option_map (put_of age) (kept_at w id))) (cached_in (age + 1) vs id)
    read vs = ap (option_map (λ (p : Put). p.cached)) (put_first age w vs id) ∙ map_or (λ (p : Put). p.cached) (option_map (put_of age) (kept_at w id)) (put_in (age + 1) vs id)

left_first : (answers age : ℕ) (w : Window) (ws : List Window) (id : MsgId) (q : PeerNo) → left_in answers age (w ∷ ws) id q ≡ option_or (left_at answers w id q) (left_in answers (age + 1) ws id q)
left_first answers age w ws id q = ap (option_map (λ (p : Put). left_to answers q p.left)) (put_first age w ws id)
    ∙ map_or (λ (p : Put). left_to answers q p.left) (option_map (put_of age) (kept_at w id)) (put_in (age + 1) ws id)
    ∙ ap (λ (o : Option ℕ). option_or o (left_in answers (age + 1) ws id q)) (map_map (λ (p : Put). left_to answers q p.left) (put_of age) (kept_at w id))

placed_same : (es es' : List (MsgId × Kept)) → ((id : MsgId) → option_map core (lookup (same_id id) es') ≡ option_map core (lookup (same_id id) es))
    → (i : ℕ) (ids : List MsgId) → placed es' i ids ≡ placed es i ids
placed_same es es' same i [] = refl
placed_same es es' same i (id ∷ ids) =
    ap₂ (λ (b : Bool) (rest : List MsgId). if b then id ∷ rest else rest)
    (read (lookup (same_id id) es') ∙ ap at (same id) ∙ sym (read (lookup (same_id id) es))) (placed_same es es' same (i + 1) ids)
  where
    at : Option Core → Bool
    at None = false
    at (Some c) = nat_eq c.place i

    read : (o : Option Kept) → is_placed i o ≡ at (option_map core o)
    read None = refl
    read (Some k) = refl

has_same : (w w' : Window) → ((id : MsgId) → option_map core (kept_at w' id) ≡ option_map core (kept_at w id)) → (id : MsgId) → has w' id ≡ has w id
has_same w w' same id = sym (some_map core (kept_at w' id)) ∙ ap is_some (same id) ∙ some_map core (kept_at w id)

pub order_same : (w w' : Window) → ((id : MsgId) → option_map core (kept_at w' id) ≡ option_map core (kept_at w id)) → w'.order.items ≡ w.order.items
    → (ws : List Window) → order_of (w' ∷ ws) ≡ order_of (w ∷ ws)
order_same w w' same order ws = ap₂ (λ (xs ys : List MsgId). xs ++ ys)
    (filter_alike (λ id. not (has w' id)) (λ id. not (has w id)) (λ id. ap not (has_same w w' same id)) (order_of ws))
    (placed_same w.puts.entries w'.puts.entries same 0 w'.order.items ∙ ap (placed w.puts.entries 0) order)

-- the window at a place is another one with the same messages
pub record IsCounted (answers age : ℕ) (id : MsgId) (peer : PeerNo) (ws ws' : List Window) : Type 0 where
  pub holds : (other : MsgId) → cached_in age ws' other ≡ cached_in age ws other
  pub counts : (other : MsgId) (q : PeerNo) → left_in answers age ws' other q ≡ one_less id peer other q (left_in answers age ws other q)
  pub orders : order_of ws' ≡ order_of ws

or_less : (id : MsgId) (peer : PeerNo) (other : MsgId) (q : PeerNo) (first : Option ℕ) (rest : Option ℕ) → (same_id id other ≡ true → is_some first ≡ true)
    → option_or (one_less id peer other q first) rest ≡ one_less id peer other q (option_or first rest)
or_less id peer other q first rest there = by (same_id id other) (same_peer peer q) first there
  where
    by : (a b : Bool) (o : Option ℕ) → (a ≡ true → is_some o ≡ true) → option_or (if a && b then option_map (λ n. n - 1) o else o) rest ≡ (if a && b then option_map (λ n. n - 1) (option_or o rest) else option_or o rest)
    by true true None has = let wrong : false ≡ true = has refl in cc
    by true true (Some n) has = refl
    by true false o has = refl
    by false b o has = refl

rest_less : (id : MsgId) (peer : PeerNo) (other : MsgId) (q : PeerNo) (first : Option ℕ) (rest : Option ℕ) → (same_id id other ≡ true → is_some first ≡ false)
    → option_or first (one_less id peer other q rest) ≡ one_less id peer other q (option_or first rest)
rest_less id peer other q first rest apart = by (same_id id other) (same_peer peer q) first apart
  where
    by : (a b : Bool) (o : Option ℕ) → (a ≡ true → is_some o ≡ false) → option_or o (if a && b then option_map (λ n. n - 1) rest else rest) ≡ (if a && b then option_map (λ n. n - 1) (option_or o rest) else option_or o rest)
    by true true None has = refl
    by true true (Some n) has = let wrong : true ≡ false = has refl in cc
    by true false o has = refl
    by false b o has = refl

pub counted_at : (answers age i : ℕ) (id : MsgId) (peer : PeerNo) (ws : List Window) (w w' : Window) → i < length ws → w ≡ get_or ws i w
    → has w id ≡ true → ((j : ℕ) → j < i → has (get_or ws j w) id ≡ false) → Counts answers id peer w w' → IsCounted answers age id peer ws (set ws i w')
counted_at answers age i id peer [] w w' within is there before counts = absurd (omega (arith, within))
counted_at answers age zero id peer (v ∷ vs) w w' within is there before counts =
    let here : Counts answers id peer v w' = subst (λ (u : Window). Counts answers id peer u w') is counts in
    record {
      holds = cached_same v w' here.cores age vs;
      counts = λ other q. left_first answers age w' vs other q ∙ ap (λ (o : Option ℕ). option_or o (left_in answers (age + 1) vs other q)) (here.lefts other q)
          ∙ or_less id peer other q (left_at answers v other q) (left_in answers (age + 1) vs other q)
          (λ same. some_map (λ (k : Kept). left_to answers q k.left) (kept_at v other) ∙ ap is_some (sym (same_found id other same v.puts.entries)) ∙ ap (λ (u : Window). has u id) (sym is) ∙ there)
          ∙ ap (one_less id peer other q) (sym (left_first answers age v vs other q));
      orders = order_same v w' here.cores here.order vs;
    }
counted_at answers age (suc i) id peer (v ∷ vs) w w' within is there before counts =
    let rest : IsCounted answers (age + 1) id peer vs (set vs i w') = counted_at answers (age + 1) i id peer vs w w' (omega (arith, within)) is there (λ j less. before (suc j) (omega (arith, less))) counts in
    let first : has v id ≡ false = before zero (omega arith) in
    record {
      holds = λ other. cached_later v age vs (set vs i w') other (rest.holds other);
      counts = λ other q. left_first answers age v (set vs i w') other q ∙ ap (option_or (left_at answers v other q)) (rest.counts other q)
          ∙ rest_less id peer other q (left_at answers v other q) (left_in answers (age + 1) vs other q)
          (λ same. some_map (λ (k : Kept). left_to answers q k.left) (kept_at v other) ∙ ap is_some (sym (same_found id other same v.puts.entries)) ∙ first)
          ∙ ap (one_less id peer other q) (sym (left_first answers age v vs other q));
      orders = ap (λ (xs : List MsgId). filter (λ x. not (has v x)) xs ++ ids_of v) rest.orders;
    }

-- where no window has the message, nothing is counted
pub nothing_counted : (answers : ℕ) (id : MsgId) (peer : PeerNo) (ws : List Window) → kept_in ws id ≡ None
    → (other : MsgId) (q : PeerNo) → left_in answers 0 ws other q ≡ one_less id peer other q (left_in answers 0 ws other q)
nothing_counted answers id peer ws is other q = by (same_id id other) (same_peer peer q) refl
  where
    by : (a b : Bool) → same_id id other ≡ a → left_in answers 0 ws other q ≡ (if a && b then option_map (λ n. n - 1) (left_in answers 0 ws other q) else left_in answers 0 ws other q)
    by true true same =
        let none : left_in answers 0 ws other q ≡ None = left_kept answers 0 ws other q ∙ ap (option_map (λ (k : Kept). left_to answers q k.left)) (sym (same_kept ws id other same) ∙ is) in
        none ∙ sym (ap (option_map (λ n. n - 1)) none)
    by true false same = refl
    by false b apart = refl

none_from : (id : MsgId) (i : ℕ) (ws : List Window) → position_from (λ w. has w id) i ws ≡ None → kept_in ws id ≡ None
none_from id i [] is = refl
none_from id i (w ∷ ws) is = by (kept_at w id) is (none_from id (i + 1) ws)
  where
    by : (o : Option Kept) → cond (is_some o) (Some i) (position_from (λ w. has w id) (i + 1) ws) ≡ None → (position_from (λ w. has w id) (i + 1) ws ≡ None → kept_in ws id ≡ None)
        → option_or o (kept_in ws id) ≡ None
    by None is rest = rest is
    by (Some k) is rest = cc

pub none_kept : (id : MsgId) (ws : List Window) → position (λ w. has w id) ws ≡ None → kept_in ws id ≡ None
none_kept id ws is = none_from id 0 ws (sym (position_from-zero (λ w. has w id) ws) ∙ is)

-- windows with the same puts are seen alike
pub puts_same : (i : ℕ) (ws : List Window) (w w' : Window) → i < length ws → w ≡ get_or ws i w → HasSame w w' → (age : ℕ) → puts_of age (set ws i w') ≡ puts_of age ws
puts_same i [] w w' within is same age = refl
puts_same zero (v ∷ vs) w w' within is same age =
    ap (λ (es : List (MsgId × Kept)). map (λ (e : MsgId × Kept). (e.0, put_of age e.1)) es ++ puts_of (age + 1) vs) (same.puts ∙ ap (λ (u : Window). u.puts.entries) is)
puts_same (suc i) (v ∷ vs) w w' within is same age =
    ap (λ (ps : List (MsgId × Put)). map (λ (e : MsgId × Kept). (e.0, put_of age e.1)) v.puts.entries ++ ps) (puts_same i vs w w' (omega (arith, within)) is same (age + 1))

pub orders_same : (i : ℕ) (ws : List Window) (w w' : Window) → i < length ws → w ≡ get_or ws i w → HasSame w w' → order_of (set ws i w') ≡ order_of ws
orders_same i [] w w' within is same = refl
orders_same zero (v ∷ vs) w w' within is same =
    ap₂ (λ (es : List (MsgId × Kept)) (ids : List MsgId). filter (λ id. not (is_some (lookup (same_id id) es))) (order_of vs) ++ placed es 0 ids)
    (same.puts ∙ ap (λ (u : Window). u.puts.entries) is) (same.order ∙ ap (λ (u : Window). u.order.items) is)
orders_same (suc i) (v ∷ vs) w w' within is same = ap (λ (xs : List MsgId). filter (λ x. not (has v x)) xs ++ ids_of v) (orders_same i vs w w' (omega (arith, within)) is same)

-- all windows, where the one at the place that was found is another
pub counted_found : (answers age : ℕ) (id : MsgId) (peer : PeerNo) (looked ws : List Window) (w w' : Window) → looked ≡ ws → Some age ≡ position (λ v. has v id) looked → w ≡ get_or ws age w
    → Counts answers id peer w w' → IsCounted answers 0 id peer ws (set ws age w')
counted_found answers age id peer looked ws w w' all found is counts =
    let there = position-Some (λ (v : Window). has v id) ws age w (sym (found ∙ ap (position (λ (v : Window). has v id)) all)) in
    counted_at answers 0 age id peer ws w w' there.0 is (ap (λ (v : Window). has v id) is ∙ there.1) there.2 counts

pub found_within : (age : ℕ) (id : MsgId) (looked ws : List Window) (w : Window) → looked ≡ ws → Some age ≡ position (λ v. has v id) looked → age < length ws
found_within age id looked ws w all found = (position-Some (λ (v : Window). has v id) ws age w (sym (found ∙ ap (position (λ (v : Window). has v id)) all))).0
