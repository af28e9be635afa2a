-- How the things that one peer says to another are split into rounds, and what there is to hear in them.
use Rattle.std.specs.Prelude.{◌≡◌, ℕ, zero, suc, Bool, true, false, nat_eq, if◌then◌else◌, List, [], ◌∷◌, ◌++◌}
use Rattle.gs_base.specs.declared.rpc.Rpc.{Rpc}
use Rattle.gs_wire.specs.declared.frames.End.{End}
use Rattle.gs_wire.specs.declared.frames.End.TheVariants as ends
use Rattle.gs_wire.specs.Messages.{longest_body}
use Rattle.gs_wire.specs.Stream.{IsStream}
use Rattle.gs_rules.specs.Saying.{Byte, EndOf, Close, Said, bytes_of}

-- ---- rounds

-- what comes before the end of round r; a close ends it
abbrev pub front : ℕ → Said → Said
front r [] = []
front r (Byte b ∷ w) = Byte b ∷ front r w
front r (EndOf k ∷ w) = if nat_eq k r then [] else front r w
front r (Close ∷ w) = Close ∷ []

-- what comes after the end of round r; an earlier close stays
abbrev pub behind : ℕ → Said → Said
behind r [] = []
behind r (Byte b ∷ w) = behind r w
behind r (EndOf k ∷ w) = if nat_eq k r then w else behind r w
behind r (Close ∷ w) = Close ∷ w

-- what is left after the first r rounds
abbrev pub after : ℕ → Said → Said
after zero w = w
after (suc r) w = behind r (after r w)

-- what is said in round r
abbrev pub said_in : ℕ → Said → Said
said_in r w = front r (after r w)

-- the bytes that are said in the first r rounds
abbrev pub bytes_before : ℕ → Said → List ℕ
bytes_before zero w = []
bytes_before (suc r) w = bytes_before r w ++ bytes_of (said_in r w)

-- it has a close
abbrev pub closes : Said → Bool
closes [] = false
closes (Byte b ∷ w) = closes w
closes (EndOf r ∷ w) = closes w
closes (Close ∷ w) = true

-- ---- what there is to hear

-- these are the RPCs of the whole frames in the bytes, up to a fault
abbrev pub Spell : List ℕ → List Rpc → Type 0
Spell bytes rpcs = (rest : List ℕ) × (end : End) × IsStream longest_body bytes rpcs rest end

-- What there is to hear from a neighbour in a round.
pub record Inbound : Type 0 where
  -- the RPCs whose last byte is in it
  pub rpcs : List Rpc
  -- the bytes that are left after them, and how these go on
  pub rest : List ℕ
  pub end : End
  -- whether the neighbour closes its link
  pub closes : Bool

-- there is nothing to hear
abbrev pub silence : Inbound
silence = record { rpcs = []; rest = []; end = ends.Waits; closes = false }

-- It is what the later bytes have beyond the earlier ones.
pub record IsBetween (before whole : List ℕ) (x : Inbound) : Type 0 where
  pub earlier : List Rpc
  pub spell_before : Spell before earlier
  pub stream : IsStream longest_body whole (earlier ++ x.rpcs) x.rest x.end

-- what there is to hear in a round: what was said in the one before it
abbrev pub ComesIn : ℕ → Said → Inbound → Type 0
ComesIn zero w x = x ≡ silence
ComesIn (suc r) w x = IsBetween (bytes_before r w) (bytes_before (suc r) w) x × (x.closes ≡ closes (said_in r w))

-- and after round r: all that was not heard by its end
abbrev pub ComesAfter : ℕ → Said → Inbound → Type 0
ComesAfter r w x = IsBetween (bytes_before r w) (bytes_of w) x × (x.closes ≡ closes (after r w))
