-- Windows without messages.
use Rattle.std.proofs.Common.{◌≡◌, ℕ, ◌+◌, List, [], ◌∷◌, ◌++◌, map, refl, ap₂}
use Rattle.std.specs.Prelude.{not, filter}
use Rattle.gs_base.specs.declared.names.MsgId.{MsgId}
use Rattle.gs_cache.specs.declared.message_cache.window.Kept.{Kept}
use Rattle.gs_cache.specs.declared.message_cache.window.Window.{Window}
use Rattle.gs_cache.specs.CachedMessages.{Put}
use Rattle.gs_cache.specs.Windows.{has, order_of, placed, put_of, puts_of}

-- no window has a message
abbrev pub AreEmpty : List Window → Type 0
AreEmpty [] = Unit {0}
AreEmpty (w ∷ ws) = (w.order.items ≡ []) × (w.puts.entries ≡ []) × AreEmpty ws

pub one_empty : (ws : List Window) (w : Window) → AreEmpty ws → w.order.items ≡ [] → w.puts.entries ≡ [] → AreEmpty (ws ++ w ∷ [])
one_empty [] w empty order puts = (order, puts, tt)
one_empty (v ∷ ws) w empty order puts = (empty.0, empty.1, one_empty ws w empty.2 order puts)

pub no_puts : (ws : List Window) → AreEmpty ws → (age : ℕ) → puts_of age ws ≡ []
no_puts [] empty age = refl
no_puts (w ∷ ws) empty age = ap₂ (λ (es : List (MsgId × Kept)) (ps : List (MsgId × Put)). map (λ (e : MsgId × Kept). (e.0, put_of age e.1)) es ++ ps) empty.1 (no_puts ws empty.2 (age + 1))

pub no_order : (ws : List Window) → AreEmpty ws → order_of ws ≡ []
no_order [] empty = refl
no_order (w ∷ ws) empty = ap₂ (λ (xs ids : List MsgId). filter (λ id. not (has w id)) xs ++ placed w.puts.entries 0 ids) (no_order ws empty.2) empty.0
